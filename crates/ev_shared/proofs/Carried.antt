-- What a store carries out fits what was asked.
use Rattle.std.proofs.Common.{◌≡◌, ℤ, pos, List, [], ◌∷◌, Bool, true, false, refl, sym, ap, subst, arith}
use Rattle.std.proofs.lemmas.Int.{ints}
use Rattle.std.specs.Prelude.{Option, Some, None, All, ◌≤ℤ◌, if◌then◌else◌}
use Rattle.std.specs.FinMap.{get}
use Rattle.std.specs.List.{list_all}
use Rattle.ev_types.specs.Denials.{carry, is_denied}
use Rattle.ev_types.specs.Ranges.{Keys}
use Rattle.ev_types.specs.Store.{Store, acts_from, after_changes, carried_out, chosen, holds, last_revision, present, key_removal, succeeds, then_done, txn_done, worked}
use Rattle.ev_types.specs.declared.answer.ActAns.TheVariants as part
use Rattle.ev_types.specs.declared.answer.Answer.{Answer}
use Rattle.ev_types.specs.declared.answer.Kv.{Kv}
use Rattle.ev_types.specs.declared.ask.Act.{Act}
use Rattle.ev_types.specs.declared.ask.Act.TheVariants as act
use Rattle.ev_types.specs.declared.ask.Ask.{Ask}
use Rattle.ev_types.specs.declared.ask.Ask.TheVariants as ask
use Rattle.ev_types.specs.declared.ask.Guard.{Guard}
use Rattle.ev_types.specs.declared.ask.TxnReq.{TxnReq}
use Rattle.ev_store.specs.Numbers.{HasNumbers, IsPutBy, ShowsPuts}
use Rattle.ev_call.specs.Fitting.{AreCounts, CanCome, Fits, PartsFit}
use Rattle.std.proofs.lemmas.List.Elements.{All-head, All-tail}
use Rattle.zx_base.proofs.Options.{some_is}
use Rattle.zx_base.specs.Maps.{Bytes}

counts : (r : ℤ) (kv : Kv) → r ≤ℤ last_revision → IsPutBy r kv → AreCounts kv
counts r kv most h = record { revision = record { least = (let first = h.first in omega (arith, ints)); most = (let last = h.last in omega (arith, ints)) }; version = record { least = h.least; most = (let below = h.most in omega (arith, ints)) } }

within : (r : ℤ) (kvs : List Kv) → r ≤ℤ last_revision → All (IsPutBy r) kvs → All AreCounts kvs
within r kvs most h = λ k d below. counts r _ most (h k d below)

delete-fits : (s : Store) (r z : ℤ) (m : Keys) (k : Bytes) (acts : List Act) (o : Option Kv) → ((n : Keys) → All (ShowsPuts z) (acts_from s r n acts).parts → PartsFit acts (acts_from s r n acts).parts)
    → All (ShowsPuts z) (then_done (key_removal k o) (acts_from s r (after_changes r m (key_removal k o).changes) acts)).parts
    → PartsFit (act.Delete k ∷ acts) (then_done (key_removal k o) (acts_from s r (after_changes r m (key_removal k o).changes) acts)).parts
delete-fits s r z m k acts None rest h = (tt, rest _ (All-tail (ShowsPuts z) (part.Deleted (pos 0)) _ h))
delete-fits s r z m k acts (Some kv) rest h = (tt, rest _ (All-tail (ShowsPuts z) (part.Deleted (pos 1)) _ h))

parts-fit : (s : Store) (r z : ℤ) (m : Keys) (acts : List Act) → z ≤ℤ last_revision → All (ShowsPuts z) (acts_from s r m acts).parts → PartsFit acts (acts_from s r m acts).parts
parts-fit s r z m [] most h = tt
parts-fit s r z m (act.Put k v lease ∷ acts) most h = (tt, parts-fit s r z _ acts most (All-tail (ShowsPuts z) part.Put _ h))
parts-fit s r z m (act.Delete k ∷ acts) most h = delete-fits s r z m k acts (get m k) (λ n. parts-fit s r z n acts most) h
parts-fit s r z m (act.Range q ∷ acts) most h =
    (within z _ most (All-head (ShowsPuts z) _ _ h), parts-fit s r z _ acts most (All-tail (ShowsPuts z) _ _ h))

comes : (s : Store) (t : TxnReq) (guards : List Guard) → t.guards ≡ guards → CanCome guards (succeeds s t)
comes s t [] e = ap (list_all (holds (present s))) e
comes s t (guard ∷ guards) e = tt

answered : (s : Store) (q : Ask) → HasNumbers (carried_out s q).1 → Fits q (carried_out s q).1
unfolding carried_out txn_done worked
answered s (ask.Txn t) h = (record { least = h.least; most = h.most }, parts-fit s _ _ (present s) (chosen (succeeds s t) t) h.most h.puts, comes s t t.guards refl)
answered s (ask.Range q) h = (record { least = h.least; most = h.most }, within _ _ h.most h.puts)
answered s (ask.Grant id ttl) h = record { least = h.least; most = h.most }
answered s (ask.Alive id) h = record { least = h.least; most = h.most }

carried-is : (s : Store) (q : Ask) (x : Store × Answer) → carry s q ≡ Some x → carried_out s q ≡ x
unfolding carry
carried-is s q x h = go (is_denied s q) h
  where
    go : (b : Bool) → (if b then None else Some (carried_out s q)) ≡ Some x → carried_out s q ≡ x
    go true e = absurd (cc)
    go false e = some_is e

pub fits : (s t : Store) (q : Ask) (a : Answer) → carry s q ≡ Some (t, a) → HasNumbers a → Fits q a
fits s t q a h numbers =
    let e : (carried_out s q).1 ≡ a = ap (λ (p : Store × Answer). p.1) (carried-is s q (t, a) h) in
    subst (Fits q) e (answered s q (subst HasNumbers (sym e) numbers))
