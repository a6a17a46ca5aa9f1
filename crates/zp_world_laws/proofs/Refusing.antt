-- A resume is refused only where its session isn't open, has lapsed, or has another password.
use Rattle.ev_types.specs.Denials.{carry}
use Rattle.ev_types.specs.Ranges.{Keys}
use Rattle.ev_types.specs.Store.{Store}
use Rattle.ev_types.specs.declared.answer.ActAns.{ActAns}
use Rattle.ev_types.specs.declared.answer.Answer.TheVariants as answer
use Rattle.ev_types.specs.declared.answer.Kv.{Kv}
use Rattle.std.proofs.Common.{Bool, List, ap, arith, false, inl, inr, length, pos, refl, subst, sym, true, ℤ, ◌∙◌, ◌≡◌}
use Rattle.std.proofs.lemmas.Int.{ints}
use Rattle.std.proofs.lemmas.Slice.Eq.{bytes_eq-Decides}
use Rattle.std.specs.Ordering.{int_eq}
use Rattle.std.specs.Prelude.{None, Option, Some, int_le, nat_abs, not, ◌&&◌, ◌≤ℤ◌}
use Rattle.std.specs.Prelude.{bytes_eq, ◌||◌}
use Rattle.zn_layout.specs.StandsFor.{life_record}
use Rattle.zk_model.specs.declared.connect.ConnectRequest.{ConnectRequest}
use Rattle.zk_service.specs.Answers.{is_other_session, may_refuse}
use Rattle.zk_service.specs.States.{IsSound, Session, State, session_at}
use Rattle.zn_layout.proofs.Commits.{answer-is}
use Rattle.zn_layout.specs.Keys.{key_bytes}
use Rattle.zn_layout.specs.StandsFor.{LifeMeans, StandsFor, at, stored_of}
use Rattle.zn_view.specs.Asks.{plan_txn, transaction}
use Rattle.zn_view.specs.Seen.{View, seen}
use Rattle.zn_view.specs.Views.{Agrees}
use Rattle.zn_view.specs.declared.plan.Plan.{Plan}
use Rattle.zp_laws.proofs.Parts.{parts-worked}
use Rattle.zp_laws.proofs.Revisions.{seen-any}
use Rattle.zs_session.specs.Connecting.{SawNoneOfMine}
use Rattle.zs_session.specs.Sessions.{life_key}
use Rattle.zx_base.proofs.Booleans.{and-both as both-true, true-not_false as true-false}
use Rattle.zx_base.proofs.Numbers.{pos-abs}

module _ (r : ConnectRequest) (s : State) (v : View) (m : Keys) (sound : IsSound s) (st : StandsFor m s) (agrees : Agrees v m) (looked : pos 1 ≤ℤ r.session → seen v (key_bytes (life_key r.session)) ≡ None → ⊥) (none : SawNoneOfMine r v) where
  -- the record of its life is there, and was seen
  saw-it : (x : Session) → session_at r.session s ≡ Some x → x.lapsed ≡ false → x.passwd ≡ r.passwd → ⊥
  saw-it x e alive same = go (at m (life_key r.session)) refl (subst (λ o. LifeMeans (nat_abs r.session) o (stored_of (at m (life_key r.session)))) there (st.each (life_key r.session)))
    where
      least : pos 1 ≤ℤ r.session
      least = sound.numbered r.session x e

      there : session_at (pos (nat_abs r.session)) s ≡ Some x
      there = ap (λ n. session_at n s) (pos-abs r.session (sound.numbered r.session x e)) ∙ e

      go : (o : Option Kv) → at m (life_key r.session) ≡ o → LifeMeans (nat_abs r.session) (Some x) (stored_of o) → ⊥
      go None f lapsed = true-false (sym lapsed ∙ alive)
      go (Some kv) f life = elim (seen-any m v.keys (key_bytes (life_key r.session)) agrees.keys) [
        | inl unseen ↦ looked (sound.numbered r.session x e) unseen
        | inr saw ↦ none kv.mod_revision (life_record x life.attaches) (record { session = sound.numbered r.session x e; saw = record { kv = kv; shown = saw ∙ ap Some f; value = (life.fits, life.value); revision = refl }; passwd = same })
      ]

  pub other-session : is_other_session r (session_at r.session s) ≡ true
  other-session = go (session_at r.session s) refl
    where
      by-passwd : (x : Session) (b : Bool) → session_at r.session s ≡ Some x → x.lapsed ≡ false → bytes_eq r.passwd x.passwd ≡ b → not b ≡ true
      by-passwd x false e alive f = refl
      by-passwd x true e alive f = absurd (saw-it x e alive (sym ((bytes_eq-Decides r.passwd x.passwd).0 f)))

      by-life : (x : Session) (b : Bool) → session_at r.session s ≡ Some x → x.lapsed ≡ b → (b || not (bytes_eq r.passwd x.passwd)) ≡ true
      by-life x true e f = refl
      by-life x false e f = by-passwd x (bytes_eq r.passwd x.passwd) e f refl

      go : (o : Option Session) → session_at r.session s ≡ o → is_other_session r o ≡ true
      go None e = refl
      go (Some x) e = by-life x x.lapsed e refl

  pub may-be-refused : int_eq r.session (pos 0) ≡ false → r.last_zxid ≤ℤ s.zxid → may_refuse r s ≡ true
  may-be-refused a past =
      both-true (not (int_eq r.session (pos 0)) && int_le r.last_zxid s.zxid) (is_other_session r (session_at r.session s))
      (both-true (not (int_eq r.session (pos 0))) (int_le r.last_zxid s.zxid) (ap not a) (grind (arith, ints, past))) other-session

-- a plan of which a guard failed shows each key that it reads again
pub again-parts : (s new : Store) (p : Plan) (r : ℤ) (parts : List ActAns) → carry s (transaction p) ≡ Some (new, answer.Txn r false parts) → length parts ≡ length p.again
again-parts s new p r parts h =
    let a = answer-is s new (plan_txn p) r false parts h in
    ap (λ (l : List ActAns). length l) a.parts_are ∙ parts-worked s (pos 0) p.again
