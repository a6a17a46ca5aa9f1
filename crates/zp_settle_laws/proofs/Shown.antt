-- What is answered to an attached connection whose session lives shows that, however long ago it was carried out.
use Rattle.std.proofs.Common.{◌≡◌, ℕ, ◌≤◌, List, [], length, refl, sym, ap, ◌∙◌, subst, arith, Bool, true, false, ℤ, pos, inl, inr}
use Rattle.std.specs.Prelude.{Option, Some, None, ◌≤ℤ◌, if◌then◌else◌, nat_eq, ◌&&◌}
use Rattle.std.specs.Ordering.{int_eq}
use Rattle.std.proofs.lemmas.Bool.Decides.{Decides-int_eq, nat_tests}
use Rattle.std.proofs.lemmas.Int.{ints}
use Rattle.ev_types.specs.Denials.{carry}
use Rattle.ev_types.specs.Store.{Store, mod_of, present, revision, store_at, succeeds}
use Rattle.ev_types.specs.declared.answer.ActAns.{ActAns}
use Rattle.ev_types.specs.declared.answer.Answer.{Answer}
use Rattle.ev_types.specs.declared.answer.Answer.TheVariants as answer
use Rattle.ev_types.specs.declared.answer.Kv.{Kv}
use Rattle.ev_types.specs.declared.ask.TxnReq.{TxnReq}
use Rattle.zk_transcript.specs.History.{state_at}
use Rattle.zk_transcript.specs.declared.transcript.TranscriptLine.{TranscriptLine}
use Rattle.zn_layout.specs.StandsFor.{StandsFor, at}
use Rattle.zn_view.proofs.SeenAfter.{wanted-shown}
use Rattle.zn_view.proofs.Showing.{first-shown, later-shown}
use Rattle.zn_view.specs.Adding.{AreRecords, at_revision}
use Rattle.zn_view.specs.Asks.{plan_txn, ranges_of, reading, transaction, with_parts}
use Rattle.zn_view.specs.Lookups.{found_at}
use Rattle.zn_view.specs.Needs.{key_want}
use Rattle.zn_view.specs.Seen.{View, empty_view}
use Rattle.zn_view.specs.Views.{Agrees}
use Rattle.zn_view.specs.declared.want.Want.{Want}
use Rattle.zk_model.specs.declared.request.Request.{Request}
use Rattle.zs_session.specs.Answering.{viewed}
use Rattle.zs_session.specs.Sessions.{attach_wants, life_key}
use Rattle.zx_base.proofs.Options.{some_is}
use Rattle.zp_laws.proofs.Honest.{past-records, present-records}
use Rattle.zp_laws.proofs.Parts.{found-there}
use Rattle.zp_laws.specs.Inputs.{IsOfEarlierIn, IsTrueAnswer, StoodAt, is_first}
use Rattle.zp_laws.specs.Standing.{IsNoView, IsViewAt, Knows}
use Rattle.zp_step.specs.Stages.{Core, Stage, Unconnected, Connecting, Ready, KeepingAlive, Checking, Reading, Committing, Waiting, Shut, asked_of}
use Rattle.zp_script.specs.declared.flight.Flight.TheVariants.{Carried}
use Rattle.zp_world_laws.proofs.Transactions.{txn-answered}
use Rattle.zp_world_laws.specs.Connections.{IsServingConn}
use Rattle.zp_world_laws.specs.Serving.{StoreServes}
use Rattle.zp_settle_laws.proofs.Carried.{is-again, is-read}
use Rattle.zp_settle_laws.proofs.Homes.{HasLife, home-life, life-since, moment-since}
use Rattle.zp_settle_laws.proofs.Places.{view_on}
use Rattle.zp_settle_laws.proofs.Staying.{SeesLife, Shows, ShowsLife}
use Rattle.zp_settle_laws.specs.Staying.{IsAttachedHere}

module _ (store : Store) (lines : List TranscriptLine) (c : ℕ) (core : Core) (a : Answer) (serves : StoreServes store lines) (home : IsAttachedHere lines core.who) (k : IsServingConn store lines c core (Some (Carried a))) where
  t : IsTrueAnswer store lines c core k.walker k.looked a
  t = k.flies

  life-now : HasLife store core.who (length store.revisions)
  life-now = home-life store lines core.who serves k.least home

  most : length t.before.revisions ≤ length store.revisions
  most = (t.was).longer

  -- the store then
  then-keys : store_at store (length t.before.revisions) ≡ present t.before
  then-keys = (t.was).same (length t.before.revisions) (omega arith)

  -- an answer as of its moment shows the life as it is now
  life-then : (s : StoodAt t.then_store lines c core.who k.walker k.looked) → t.then_store ≡ t.before → mod_of (at (present t.before) (life_key core.who.session)) ≡ core.who.mine
  life-then s same =
      let stands : StandsFor (store_at store (length t.before.revisions)) (state_at lines k.looked) = subst (λ m. StandsFor m (state_at lines k.looked)) (sym then-keys) (subst (λ u. StandsFor (present u) (state_at lines k.looked)) same s.stands) in
      let since = moment-since store lines c core k.walker k.looked (length t.before.revisions) serves.legal k.least (k.stands).matches s.moment most stands in
      subst (λ m. mod_of (at m (life_key core.who.session)) ≡ core.who.mine) then-keys (life-since store core.who (length t.before.revisions) k.rises life-now most since)

  shows-own : (o : Option Kv) → pos 1 ≤ℤ core.who.mine → mod_of o ≡ core.who.mine → ShowsLife core.who o
  shows-own None rises e = absurd (omega (arith, ints, rises, e))
  shows-own (Some kv) rises e = record { kv = kv; there = refl; own = e }

  -- ---- a look at the session

  checking-shows : (f : List ℕ) → core.stage ≡ Checking f → Shows core.who (Checking f) a
  checking-shows f e =
      let ws = attach_wants core.who.session in
      let h : carry t.before (reading (pos 0) ws) ≡ Some (t.then_store, a) = ap (carry t.before) (some_is (sym (ap (asked_of core.who) e) ∙ t.out)) ∙ t.carried_out in
      let d = is-read t.before t.then_store (pos 0) ws a h in
      let h' : carry t.before (reading (pos 0) ws) ≡ Some (t.then_store, answer.Txn (revision t.then_store) true d.parts) = h ∙ ap (λ y. Some (t.then_store, y)) d.is in
      let stood = t.shown (ap is_first e) in
      let stands : StandsFor (present t.before) (state_at lines k.looked) = subst (λ u. StandsFor (present u) (state_at lines k.looked)) d.same stood.stands in
      let txn : TxnReq = record { guards = []; success = ranges_of (pos 0) ws; failure = [] } in
      let v = viewed (revision t.then_store) ws d.parts in
      let shown = (first-shown t.before t.then_store ws (revision t.then_store) true d.parts h').1 in
      let there = found-there (present t.before) v (life_key core.who.session) shown.agrees (wanted-shown (at_revision empty_view (revision t.then_store)) ws d.parts (key_want (life_key core.who.session)) (omega (arith, d.long)) (0, omega arith, refl)) in
      subst (Shows core.who (Checking f)) (sym d.is) (
        present-records t.before t.then_store txn (state_at lines k.looked) ws (revision t.then_store) true d.parts h' refl stands,
        shows-own (found_at v (life_key core.who.session)) k.rises (ap mod_of there ∙ life-then stood d.same),
      )

  -- ---- a round

  first-round : (xid : ℤ) (r : Request) (v : View) (ws : List Want) → core.stage ≡ Reading xid r v ws → IsNoView v → (parts : List ActAns) × (a ≡ answer.Txn (revision t.then_store) true parts) × AreRecords ws parts × SeesLife core.who (view_on v (revision t.then_store) ws parts)
  first-round xid r v ws e none =
      let is : v ≡ empty_view = λ i. record { revision = none.0 i; keys = none.1 i; lists = none.2 i } in
      let h : carry t.before (reading (pos 0) ws) ≡ Some (t.then_store, a) = ap (λ z. carry t.before (reading z ws)) (sym none.0) ∙ ap (carry t.before) (some_is (sym (ap (asked_of core.who) e) ∙ t.out)) ∙ t.carried_out in
      let d = is-read t.before t.then_store (pos 0) ws a h in
      let h' : carry t.before (reading (pos 0) ws) ≡ Some (t.then_store, answer.Txn (revision t.then_store) true d.parts) = h ∙ ap (λ y. Some (t.then_store, y)) d.is in
      let stood = t.shown (ap is_first e ∙ (Decides-int_eq v.revision (pos 0)).1 none.0) in
      let stands : StandsFor (present t.before) (state_at lines k.looked) = subst (λ u. StandsFor (present u) (state_at lines k.looked)) d.same stood.stands in
      let txn : TxnReq = record { guards = []; success = ranges_of (pos 0) ws; failure = [] } in
      let shown = (first-shown t.before t.then_store ws (revision t.then_store) true d.parts h').1 in (
        d.parts,
        d.is,
        present-records t.before t.then_store txn (state_at lines k.looked) ws (revision t.then_store) true d.parts h' refl stands,
        record {
          keys = present t.before;
          agrees = subst (λ y. Agrees (view_on y (revision t.then_store) ws d.parts) (present t.before)) (sym is) shown.agrees;
          own = life-then stood d.same;
        },
      )

  later-round : (xid : ℤ) (r : Request) (v : View) (ws : List Want) → core.stage ≡ Reading xid r v ws → IsViewAt store lines c core.who k.walker v k.looked → (number : ℕ) → v.revision ≡ pos number → number ≤ length t.before.revisions
      → (parts : List ActAns) × (a ≡ answer.Txn (revision t.then_store) true parts) × AreRecords ws parts × SeesLife core.who (view_on v (revision t.then_store) ws parts)
  later-round xid r v ws e view number at_number le =
      let same_number : view.number ≡ number = (let p : pos view.number ≡ pos number = sym view.revision ∙ at_number in omega (arith, ints, p)) in
      let le' : view.number ≤ length t.before.revisions = omega (arith, same_number, le) in
      let h : carry t.before (reading v.revision ws) ≡ Some (t.then_store, a) = ap (carry t.before) (some_is (sym (ap (asked_of core.who) e) ∙ t.out)) ∙ t.carried_out in
      let d = is-read t.before t.then_store v.revision ws a h in
      let h' : carry t.before (reading v.revision ws) ≡ Some (t.then_store, answer.Txn (revision t.then_store) true d.parts) = h ∙ ap (λ y. Some (t.then_store, y)) d.is in
      let keys : store_at store view.number ≡ store_at t.before view.number = (t.was).same view.number le' in
      let txn : TxnReq = record { guards = []; success = ranges_of v.revision ws; failure = [] } in
      let shown = later-shown t.before t.then_store v view.number ws (revision t.then_store) true d.parts view.revision view.begun (subst (Agrees v) keys view.agrees) h' in
      let still : at_revision v (revision t.then_store) ≡ v = ap (λ b. if b && (nat_eq (length v.keys) 0 && nat_eq (length v.lists) 0) then record v { revision = revision t.then_store } else v) (not-first v view.number view.revision view.begun) in
      let since = moment-since store lines c core k.walker k.looked view.number serves.legal k.least (k.stands).matches view.moment view.known view.stands in (
        d.parts,
        d.is,
        past-records t.before t.then_store txn (state_at lines k.looked) view.number ws (revision t.then_store) true d.parts h' (ap (λ z. ranges_of z ws) view.revision) view.begun (subst (λ m. StandsFor m (state_at lines k.looked)) keys view.stands),
        record {
          keys = store_at t.before view.number;
          agrees = subst (λ y. Agrees (with_parts y ws d.parts) (store_at t.before view.number)) (sym still) shown.agrees;
          own = subst (λ m. mod_of (at m (life_key core.who.session)) ≡ core.who.mine) keys (life-since store core.who view.number k.rises life-now view.known since);
        },
      )
    where
      not-first : (v : View) (n : ℕ) → v.revision ≡ pos n → 1 ≤ n → int_eq v.revision (pos 0) ≡ false
      not-first v n e le = ap (λ z. int_eq z (pos 0)) e ∙ above n le
        where
          above : (n : ℕ) → 1 ≤ n → int_eq (pos n) (pos 0) ≡ false
          above n le = grind (arith, nat_tests, ints)

  -- ---- each stage

  in-stage : (st : Stage) → core.stage ≡ st → Knows store lines c core k.walker k.looked st → Shows core.who st a
  in-stage (Checking f) e h = checking-shows f e
  in-stage (Reading xid r v ws) e (tree, inl none) = let x = first-round xid r v ws e none in subst (Shows core.who (Reading xid r v ws)) (sym x.1) (tree, x.2, x.3)
  in-stage (Reading xid r v ws) e (tree, inr view) =
      let le : view.number ≤ length t.before.revisions = earlier e view.number view.revision in
      let x = later-round xid r v ws e view view.number view.revision le in
      subst (Shows core.who (Reading xid r v ws)) (sym x.1) (tree, x.2, x.3)
    where
      earlier : core.stage ≡ Reading xid r v ws → (n : ℕ) → v.revision ≡ pos n → n ≤ length t.before.revisions
      earlier e n is = subst (λ st. IsOfEarlierIn st t.before) e t.earlier n is
  in-stage (Committing xid r v p m) e (tree, b) = go (succeeds t.before (plan_txn p)) refl
    where
      h : carry t.before (transaction p) ≡ Some (t.then_store, a)
      h = ap (carry t.before) (some_is (sym (ap (asked_of core.who) e) ∙ t.out)) ∙ t.carried_out

      go : (ok : Bool) → succeeds t.before (plan_txn p) ≡ ok → Shows core.who (Committing xid r v p m) a
      go true f =
          let d = txn-answered t.before t.then_store (plan_txn p) a h in
          subst (Shows core.who (Committing xid r v p m)) (sym (d.1 ∙ ap (λ y. answer.Txn (revision t.then_store) y d.0) f)) (tree, tt)
      go false f =
          let d = is-again t.before t.then_store p a h f in
          let stood = t.shown (ap is_first e) in
          let stands : StandsFor (present t.before) (state_at lines k.looked) = subst (λ u. StandsFor (present u) (state_at lines k.looked)) d.same stood.stands in
          let h' : carry t.before (transaction p) ≡ Some (t.then_store, answer.Txn (revision t.then_store) false d.parts) = h ∙ ap (λ y. Some (t.then_store, y)) d.is in
          subst (Shows core.who (Committing xid r v p m)) (sym d.is) (
            tree,
            (
              present-records t.before t.then_store (plan_txn p) (state_at lines k.looked) p.again (revision t.then_store) false d.parts h' refl stands,
              record {
                keys = present t.before;
                agrees = d.agrees;
                own = life-then stood d.same;
              },
            ),
          )
  in-stage (Unconnected fresh) e h = tt
  in-stage (Connecting x) e h = tt
  in-stage Ready e h = tt
  in-stage (KeepingAlive f) e h = tt
  in-stage (Waiting p) e h = tt
  in-stage Shut e h = tt

  pub answer-shows : Shows core.who core.stage a
  answer-shows = in-stage core.stage refl (k.stands).knows
