-- The keys that stand for a state, after an ask that changes no key.
use Rattle.std.proofs.Common.{◌≡◌, Bool, true, false, cond, ℤ, List, [], map, Some, None, refl, sym, ap, subst}
use Rattle.ev_types.specs.declared.answer.Answer.{Answer}
use Rattle.ev_types.specs.declared.ask.Act.TheVariants as act
use Rattle.ev_types.specs.declared.ask.Ask.{Ask}
use Rattle.ev_types.specs.declared.ask.Ask.TheVariants as ask
use Rattle.ev_types.specs.declared.ask.Guard.{Guard}
use Rattle.ev_types.specs.declared.ask.RangeReq.{RangeReq}
use Rattle.ev_types.specs.declared.ask.TxnReq.{TxnReq}
use Rattle.ev_types.specs.Store.{Store, Change, Done, present, store_at, worked, chosen, succeeds, grown, txn_done, carried_out}
use Rattle.ev_types.specs.Denials.{chosen_acts, is_denied, carry}
use Rattle.ev_types.proofs.Transactions.{worked-reads}
use Rattle.zk_service.specs.States.{State}
use Rattle.zn_layout.specs.StandsFor.{StandsFor}

given : (d : Bool) (x : Store × Answer) (new : Store) (a : Answer) → cond d None (Some x) ≡ Some (new, a) → x.0 ≡ new
given true x new a e = absurd cc
given false x new a e = cc

carried : (s new : Store) (q : Ask) (a : Answer) → carry s q ≡ Some (new, a) → (carried_out s q).0 ≡ new
unfolding carry
carried s new q a e = given (is_denied s q) (carried_out s q) new a e

module _ (s new : Store) (a : Answer) (state : State) (h : StandsFor (present s) state) where
  over : (mid : Store) → mid ≡ new → present mid ≡ present s → StandsFor (present new) state
  over mid is same = subst (λ (t : Store). StandsFor (present t) state) is (subst (λ m. StandsFor m state) (sym same) h)

  pub range-stands : (q : RangeReq) → carry s (ask.Range q) ≡ Some (new, a) → StandsFor (present new) state
  unfolding carried_out
  range-stands q e = over s (carried s new (ask.Range q) a e) refl

  pub alive-stands : (id : ℤ) → carry s (ask.Alive id) ≡ Some (new, a) → StandsFor (present new) state
  unfolding carried_out
  alive-stands id e = over s (carried s new (ask.Alive id) a e) refl

  pub grant-stands : (id ttl : ℤ) → carry s (ask.Grant id ttl) ≡ Some (new, a) → StandsFor (present new) state
  unfolding carried_out store_at
  grant-stands id ttl e = over (carried_out s (ask.Grant id ttl)).0 (carried s new (ask.Grant id ttl) a e) refl

  pub unchanged-stands : (t : TxnReq) → (worked s (chosen_acts s t)).changes ≡ [] → carry s (ask.Txn t) ≡ Some (new, a) → StandsFor (present new) state
  unfolding carried_out txn_done
  unchanged-stands t none e = over (grown s (worked s (chosen_acts s t)).changes) (carried s new (ask.Txn t) a e) (ap (λ (cs : List Change). present (grown s cs)) none)

  reads_only : (b : Bool) (guards : List Guard) (qs rs : List RangeReq) → (worked s (chosen b (record { guards = guards; success = map act.Range qs; failure = map act.Range rs }))).changes ≡ []
  reads_only true guards qs rs = ap (λ (d : Done). d.changes) (worked-reads s qs)
  reads_only false guards qs rs = ap (λ (d : Done). d.changes) (worked-reads s rs)

  pub reads-stand : (guards : List Guard) (qs rs : List RangeReq) → carry s (ask.Txn (record { guards = guards; success = map act.Range qs; failure = map act.Range rs })) ≡ Some (new, a) → StandsFor (present new) state
  reads-stand guards qs rs e =
      let t : TxnReq = record { guards = guards; success = map act.Range qs; failure = map act.Range rs } in
      unchanged-stands t (reads_only (succeeds s t) guards qs rs) e
