-- What a store carries out is an answer to what was asked, where its numbers are an etcd's.
use Rattle.std.proofs.Common.{◌≡◌, ℤ, List, [], ◌∷◌, Bool, true, false, refl, sym, ap, subst}
use Rattle.std.specs.Prelude.{Option, Some, None, if◌then◌else◌}
use Rattle.std.specs.FinMap.{get}
use Rattle.std.specs.List.{list_all}
use Rattle.ev_types.specs.Denials.{carry, is_denied}
use Rattle.ev_types.specs.Ranges.{Keys}
use Rattle.ev_types.specs.Store.{Store, acts_from, after_changes, carried_out, chosen, holds, key_removal, present, succeeds, then_done, txn_done, worked}
use Rattle.ev_types.specs.declared.answer.Answer.{Answer}
use Rattle.ev_types.specs.declared.answer.Kv.{Kv}
use Rattle.ev_types.specs.declared.ask.Act.{Act}
use Rattle.ev_types.specs.declared.ask.Act.TheVariants as act
use Rattle.ev_types.specs.declared.ask.Ask.{Ask}
use Rattle.ev_types.specs.declared.ask.Ask.TheVariants as ask
use Rattle.ev_types.specs.declared.ask.Guard.{Guard}
use Rattle.ev_types.specs.declared.ask.TxnReq.{TxnReq}
use Rattle.zx_base.proofs.Options.{some_is}
use Rattle.zx_base.specs.Maps.{Bytes}
use Rattle.zs_session.specs.Answering.{ArePartsOf, HasTxnNumbers, IsAnswerTo, MaySucceed}

delete-part : (s : Store) (r : ℤ) (m : Keys) (k : Bytes) (acts : List Act) (o : Option Kv) → ((n : Keys) → ArePartsOf acts (acts_from s r n acts).parts)
    → ArePartsOf (act.Delete k ∷ acts) (then_done (key_removal k o) (acts_from s r (after_changes r m (key_removal k o).changes) acts)).parts
delete-part s r m k acts None rest = (tt, rest _)
delete-part s r m k acts (Some kv) rest = (tt, rest _)

each-part : (s : Store) (r : ℤ) (m : Keys) (acts : List Act) → ArePartsOf acts (acts_from s r m acts).parts
each-part s r m [] = tt
each-part s r m (act.Put k v lease ∷ acts) = (tt, each-part s r _ acts)
each-part s r m (act.Delete k ∷ acts) = delete-part s r m k acts (get m k) (λ n. each-part s r n acts)
each-part s r m (act.Range q ∷ acts) = (tt, each-part s r _ acts)

may-succeed : (s : Store) (t : TxnReq) (guards : List Guard) → t.guards ≡ guards → MaySucceed guards (succeeds s t)
may-succeed s t [] e = ap (list_all (holds (present s))) e
may-succeed s t (guard ∷ guards) e = tt

answered : (s : Store) (q : Ask) → HasTxnNumbers (carried_out s q).1 → IsAnswerTo q (carried_out s q).1
unfolding carried_out txn_done worked
answered s (ask.Txn t) h = record {
  revision_is = h.revision_is;
  numbers = h.numbers;
  succeeds = may-succeed s t t.guards refl;
  each = each-part s _ (present s) (chosen (succeeds s t) t);
}
answered s (ask.Range q) h = tt
answered s (ask.Grant id ttl) h = tt
answered s (ask.Alive id) h = tt

carried-is : (s : Store) (q : Ask) (x : Store × Answer) → carry s q ≡ Some x → carried_out s q ≡ x
unfolding carry
carried-is s q x h = go (is_denied s q) h
  where
    go : (b : Bool) → (if b then None else Some (carried_out s q)) ≡ Some x → carried_out s q ≡ x
    go true e = absurd (cc)
    go false e = some_is e

pub answers : (s t : Store) (q : Ask) (a : Answer) → carry s q ≡ Some (t, a) → HasTxnNumbers a → IsAnswerTo q a
answers s t q a h numbers =
    let e : (carried_out s q).1 ≡ a = ap (λ (p : Store × Answer). p.1) (carried-is s q (t, a) h) in
    subst (IsAnswerTo q) e (answered s q (subst HasTxnNumbers (sym e) numbers))
