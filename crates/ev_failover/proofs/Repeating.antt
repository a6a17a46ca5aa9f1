-- An ask that only reads changes nothing.
use Rattle.std.proofs.Common.{◌≡◌, Bool, true, false, List, [], ◌∷◌, refl, sym, ap, ◌∙◌}
use Rattle.std.specs.Prelude.{ℤ, ◌&&◌, None, Some, if◌then◌else◌}
use Rattle.std.proofs.lemmas.Bool.{and_parts}
use Rattle.zx_base.proofs.Options.{some_is}
use Rattle.ev_types.specs.Denials.{carry, is_denied}
use Rattle.ev_types.specs.Ranges.{Keys}
use Rattle.ev_types.specs.Store.{Store, acts_from, carried_out, chosen, grown, succeeds, txn_done, worked}
use Rattle.ev_types.specs.declared.answer.Answer.{Answer}
use Rattle.ev_types.specs.declared.ask.Act.{Act}
use Rattle.ev_types.specs.declared.ask.Act.TheVariants as act
use Rattle.ev_types.specs.declared.ask.Ask.{Ask}
use Rattle.ev_types.specs.declared.ask.Ask.TheVariants as ask
use Rattle.ev_types.specs.declared.ask.TxnReq.{TxnReq}
use Rattle.ev_failover.specs.Reading.{are_reads, is_reading}

none_changed : (s : Store) (r : ℤ) (m : Keys) (acts : List Act) → are_reads acts ≡ true → (acts_from s r m acts).changes ≡ []
none_changed s r m [] reads = refl
none_changed s r m (act.Range q ∷ acts) reads = none_changed s r m acts reads
none_changed s r m (act.Put k v lease ∷ acts) reads = absurd (cc)
none_changed s r m (act.Delete k ∷ acts) reads = absurd (cc)

either : (b : Bool) (t : TxnReq) → (are_reads t.success && are_reads t.failure) ≡ true → are_reads (chosen b t) ≡ true
either true t reads = (and_parts (are_reads t.success) (are_reads t.failure) reads).0
either false t reads = (and_parts (are_reads t.success) (are_reads t.failure) reads).1

stays : (s : Store) (q : Ask) → is_reading q ≡ true → (carried_out s q).0 ≡ s
unfolding carried_out txn_done worked
stays s (ask.Txn t) reads = ap (grown s) (none_changed s _ _ (chosen (succeeds s t) t) (either (succeeds s t) t reads))
stays s (ask.Range q) reads = refl
stays s (ask.Grant id ttl) reads = absurd (cc)
stays s (ask.Alive id) reads = refl

carried-is : (s : Store) (q : Ask) (x : Store × Answer) → carry s q ≡ Some x → carried_out s q ≡ x
unfolding carry
carried-is s q x h = go (is_denied s q) h
  where
    go : (b : Bool) → (if b then None else Some (carried_out s q)) ≡ Some x → carried_out s q ≡ x
    go true e = absurd (cc)
    go false e = some_is e

pub changes_nothing : (s t : Store) (q : Ask) (a : Answer) → is_reading q ≡ true → carry s q ≡ Some (t, a) → t ≡ s
changes_nothing s t q a reads carried = sym (ap (λ (x : Store × Answer). x.0) (carried-is s q (t, a) carried)) ∙ stays s q reads
