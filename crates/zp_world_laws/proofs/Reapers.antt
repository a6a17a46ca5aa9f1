-- What a reaper asked is carried out, and its answer is delivered: it asks on, or it ends.
use Rattle.ev_types.specs.Denials.{carry}
use Rattle.ev_types.specs.Ranges.{Keys}
use Rattle.ev_types.specs.Store.{Store, present, revision, store_at}
use Rattle.ev_types.specs.declared.answer.ActAns.{ActAns}
use Rattle.ev_types.specs.declared.answer.Answer.TheVariants as answer
use Rattle.ev_types.specs.declared.answer.Answer.{Answer}
use Rattle.ev_types.specs.declared.ask.Ask.{Ask}
use Rattle.std.proofs.Common.{Bool, List, [], ap, append-nil, arith, false, inl, inr, length, pos, refl, subst, sym, true, ℕ, ℤ, ◌++◌, ◌∙◌, ◌≡◌, ◌≤◌}
use Rattle.std.proofs.lemmas.List.Elements.{All-nil}
use Rattle.std.specs.FinMap.{get}
use Rattle.std.specs.Prelude.{MatchBool, None, Some, if◌then◌else◌, int_lt, option_and_then, ◌⊎◌}
use Rattle.zk_service.specs.States.{State}
use Rattle.zk_transcript.specs.History.{after}
use Rattle.zk_service.specs.declared.cause.Cause.TheVariants as cause
use Rattle.zk_service.specs.declared.cause.Ended.TheVariants as ended
use Rattle.zk_service.specs.declared.cause.Ended.{Ended}
use Rattle.zk_transcript.specs.declared.transcript.TranscriptLine.{TranscriptLine}
use Rattle.zk_service.specs.declared.update.UpdateKind.TheVariants.{Reaped}
use Rattle.zn_layout.specs.StandsFor.{StandsFor}
use Rattle.zn_view.proofs.Asked.{stands-put}
use Rattle.zn_view.proofs.Showing.{again-shown, first-shown, later-shown}
use Rattle.zn_view.specs.Adding.{AreRecords}
use Rattle.zn_view.specs.Asks.{plan_txn, reading, transaction}
use Rattle.zn_view.specs.Seen.{View, empty_view}
use Rattle.zn_view.specs.Views.{Agrees, children_kept}
use Rattle.zn_view.specs.declared.plan.Plan.{Plan}
use Rattle.zn_view.specs.declared.snapshot.SeenChildren.{SeenChildren}
use Rattle.zn_view.specs.declared.snapshot.SeenKey.{SeenKey}
use Rattle.zn_view.specs.declared.want.Want.{Want}
use Rattle.zp_script.specs.Handing.{Reaps}
use Rattle.zp_script.specs.Kinds.{kind_asked, kind_of_reap}
use Rattle.zp_script.specs.StepOutcomes.{StepOutcome, ended_by, ends, leaves, quiet, reap_acts}
use Rattle.zp_script.specs.Worlds.{Closed, Conn, Connection, Reaper, World, after_reap, conn_at, is_closed_actor, is_over, with_conn}
use Rattle.zp_script.specs.declared.flight.Asking.{Asking}
use Rattle.zp_script.specs.declared.flight.Flight.TheVariants.{Out}
use Rattle.zp_laws.proofs.Parts.{revision-kept}
use Rattle.zp_laws.specs.Inputs.{Precedes}
use Rattle.zp_step.specs.Stages.{Core}
use Rattle.zp_world_laws.proofs.Acting.{Acts, ends-own, leaves-acts}
use Rattle.zp_world_laws.proofs.Asking.{ranges-read}
use Rattle.zp_world_laws.proofs.Carrying.{request-asker}
use Rattle.zp_world_laws.proofs.Closing.{but-of, ends-whole}
use Rattle.zp_world_laws.proofs.Commits.{stands-now}
use Rattle.zp_world_laws.proofs.Executing.{precedes-self}
use Rattle.zp_world_laws.proofs.Knowing.{standing-push, close-ends}
use Rattle.zp_world_laws.proofs.Setting.{sets-whole}
use Rattle.zp_world_laws.proofs.Within.{within-close, within-same}
use Rattle.zp_world_laws.specs.Bounds.{IsBoundAs, IsBoundAsk, IsBoundReap}
use Rattle.zp_world_laws.specs.Connections.{Whole}
use Rattle.zp_world_laws.specs.Holding.{asker_in, made_for}
use Rattle.zp_world_laws.specs.Reaping.{IsReapAnswer, IsReapAsk, IsReapOut, IsStanding}
use Rattle.zp_world_laws.specs.Serving.{StoreServes}
use Rattle.zs_close.specs.Reaping.{IfReaped, IsReapPlan}
use Rattle.zs_close.specs.declared.reap.Reaping.TheVariants.{Gone, Kept, Planned, TooMany}
use Rattle.zs_close.specs.declared.reap.Reaping.{Reaping}
use Rattle.zs_reap.specs.Steps.{Answered, Asks, ReaperDecides, ReaperEnds, ReaperFollows, IsReaperCounted, IsReaperTested, ReaperLooked, ReaperLookedAgain, ReaperLooksFirst, ReaperMoves, reaper_wants}
use Rattle.zs_reap.specs.declared.reap.Phase.TheVariants.{Counting, Looking, Over, Removing, Unasked}
use Rattle.zs_reap.specs.declared.reap.Phase.{Phase}
use Rattle.zs_reap.specs.declared.reap.Reap.{Reap}
use Rattle.zs_reap.specs.declared.reap.ReapStep.TheVariants as steps
use Rattle.zs_reap.specs.declared.reap.ReapStep.{ReapStep}
use Rattle.zs_session.specs.Answering.{viewed}
use Rattle.zx_base.proofs.Options.{none_some}

-- ---- its ask is carried out

pub reap-carried : (s u : Store) (lines : List TranscriptLine) (r : Reap) (x : Asking) (b : Answer) → StoreServes u lines → Precedes s u → carry s x.ask ≡ Some (u, b) → IsReapOut s r x → IsReapAnswer u r b
reap-carried s u lines r x b w p h k = record {
  asked = x.ask;
  before = s;
  then_store = u;
  carried_out = h;
  out = k.asked;
  was = p;
  is = precedes-self u;
  begun = omega (arith, w.begun);
  state = after lines;
  stands = stands-now u lines w;
}

-- ---- what its answer leads to

-- its next ask, or its end
pub data ComesTo (store : Store) (id : ℤ) (phase : Phase) : ReapStep → Type 0 where
  on : (q : Ask) (asks : IsReapAsk store id phase q) → ComesTo store id phase (steps.Ask q)
  removed : (over : phase ≡ Over) (z : ℤ) → ComesTo store id phase (steps.Reaped z)
  kept : (over : phase ≡ Over) (z : ℤ) → ComesTo store id phase (steps.Kept z)
  gone : (over : phase ≡ Over) (z : ℤ) → ComesTo store id phase (steps.Gone z)

comes-on : (store : Store) (id : ℤ) (phase next : Phase) (step : ReapStep) (q : Ask) → IsReapAsk store id next q → Asks next q phase step → ComesTo store id phase step
comes-on store id phase next step q h (e, is) = subst (ComesTo store id phase) (sym is) (on q (subst (λ p. IsReapAsk store id p q) (sym e) h))

looks-first : (store : Store) (id : ℤ) (phase : Phase) (step : ReapStep) → ReaperLooksFirst id phase step → ComesTo store id phase step
looks-first store id phase step h = comes-on store id phase Looking step (reading (pos 0) (reaper_wants id)) refl h

-- the view is of a revision whose keys stand for a state
record IsSeen (store : Store) (v : View) (z : ℤ) : Type 0 where
  at : IsStanding store z
  same : v.revision ≡ z
  agrees : Agrees v (store_at store at.number)

module _ (store : Store) (id : ℤ) (v : View) (z : ℤ) (k : IsSeen store v z) where
  bound : (p : Plan) → IsReapPlan id v p → IsBoundReap store id (plan_txn p)
  bound p plan = record {
    view = v;
    plan = p;
    reaps = plan;
    number = (k.at).number;
    known = (k.at).known;
    agrees = k.agrees;
    put = stands-put v (store_at store (k.at).number) (k.at).state (k.at).stands k.agrees;
    txn = refl;
  }

  follows-to : (r : Reaping) (phase : Phase) (step : ReapStep) → IfReaped (IsReapPlan id v) r → ReaperFollows v r phase step → ComesTo store id phase step
  follows-to (Planned p) phase step plan h = comes-on store id phase (Removing p.again) step (transaction p) (p, refl, refl, bound p plan) h
  follows-to Kept phase step plan (e, is) = subst (ComesTo store id phase) (sym is) (kept e v.revision)
  follows-to Gone phase step plan (e, is) = subst (ComesTo store id phase) (sym is) (gone e v.revision)
  follows-to TooMany phase step plan h = absurd h

  decides-to : (phase : Phase) (step : ReapStep) → ReaperDecides id v phase step → ComesTo store id phase step
  decides-to phase step d = follows-to d.reaping phase step d.plan d.follows

  counted-to : (phase : Phase) (step : ReapStep) → IsReaperCounted id v phase step → ComesTo store id phase step
  counted-to phase step c = comes-on store id phase (Counting v.revision (reaper_wants id ++ c.wants)) step (reading v.revision (reaper_wants id ++ c.wants)) (subst (IsStanding store) (sym k.same) k.at, refl) c.asks

  -- after the first look, of a number below 1 or of another
  looked-by : (ws : List Want) (parts : List ActAns) (r : ℤ) (phase : Phase) (step : ReapStep) (below : Bool)
      → MatchBool below (AreRecords ws parts × ReaperEnds (steps.Gone r) phase step) (IsReaperTested id ws r parts × (ReaperDecides id v phase step ⊎ IsReaperCounted id v phase step)) → ComesTo store id phase step
  looked-by ws parts r phase step true h = subst (ComesTo store id phase) (sym h.1.1) (gone h.1.0 r)
  looked-by ws parts r phase step false (tested, inl d) = decides-to phase step d
  looked-by ws parts r phase step false (tested, inr c) = counted-to phase step c

present-seen : (store then_store : Store) (state : State) (v : View) (r : ℤ) → Precedes then_store store → 1 ≤ length then_store.revisions → StandsFor (present then_store) state → v.revision ≡ r → r ≡ revision then_store → Agrees v (present then_store) → IsSeen store v r
present-seen store then_store state v r is begun stands e f agrees = record {
  at = record { number = length then_store.revisions; is = f; begun = begun; known = is.longer; state = state; stands = subst (λ m. StandsFor m state) (sym (is.same (length then_store.revisions) (omega arith))) stands };
  same = e;
  agrees = subst (Agrees v) (sym (is.same (length then_store.revisions) (omega arith))) agrees;
}

-- nothing was seen yet
empty-agrees : (r : ℤ) (m : Keys) → Agrees (record empty_view { revision = r }) m
empty-agrees r m = record { keys = All-nil (λ (x : SeenKey). get m x.key ≡ x.found); lists = All-nil (λ (x : SeenChildren). x.paths ≡ children_kept m x.path) }

module _ (store : Store) (reap : Reap) (r : ℤ) (b : Bool) (parts : List ActAns) (k : IsReapAnswer store reap (answer.Txn r b parts)) where
  looked-to : k.asked ≡ reading (pos 0) (reaper_wants reap.session) → (phase : Phase) (step : ReapStep) → ReaperLooked reap.session (reaper_wants reap.session) r parts phase step → ComesTo store reap.session phase step
  looked-to e phase step h =
      let ws = reaper_wants reap.session in
      let first = first-shown k.before k.then_store ws r b parts (ap (carry k.before) (sym e) ∙ k.carried_out) in
      let v = viewed r ws parts in
      let agrees : Agrees v (present k.then_store) = subst (λ (t : Store). Agrees v (present t)) (sym (first.1).same) (first.1).agrees in
      let seen = present-seen store k.then_store k.state v r k.is k.begun k.stands (revision-kept (record empty_view { revision = r }) ws parts) first.0 agrees in
      looked-by store reap.session v r seen ws parts r phase step (int_lt reap.session (pos 1)) h

  counting-to : (z : ℤ) (ws : List Want) → IsStanding k.before z → k.asked ≡ reading z ws → (phase : Phase) (step : ReapStep) → ReaperLookedAgain reap.session ws z parts phase step → ComesTo store reap.session phase step
  counting-to z ws st e phase step (tested, h) =
      let v0 : View = record empty_view { revision = z } in
      let v = viewed z ws parts in
      let more = later-shown k.before k.then_store v0 st.number ws r b parts st.is st.begun (empty-agrees z (store_at k.before st.number)) (ap (carry k.before) (sym e) ∙ k.carried_out) in
      let at = standing-push k.before store z k.was st in
      let seen : IsSeen store v z = record { at = at; same = revision-kept v0 ws parts; agrees = subst (Agrees v) (sym ((k.was).same st.number st.known)) more.agrees } in
      elim h [ inl d ↦ decides-to store reap.session v z seen phase step d | inr c ↦ looks-first store reap.session phase step c.asks ]

removing-to : (store : Store) (reap : Reap) (r : ℤ) (b : Bool) (parts : List ActAns) (again : List Want) (k : IsReapAnswer store reap (answer.Txn r b parts)) → IsReapAsk k.before reap.session (Removing again) k.asked → (phase : Phase) (step : ReapStep)
    → Answered reap.session (Removing again) r b parts phase step → ComesTo store reap.session phase step
removing-to store reap r true parts again k out phase step (e, is) = subst (ComesTo store reap.session phase) (sym is) (removed e r)
removing-to store reap r false parts again k (p, same, asks, b) phase step (tested, h) =
    let shown = again-shown k.before k.then_store p r parts (ap (carry k.before) (sym asks) ∙ k.carried_out) in
    let v = viewed r again parts in
    let agrees : Agrees v (present k.then_store) = subst (λ ws. Agrees (viewed r ws parts) (present k.then_store)) same (subst (λ (t : Store). Agrees (viewed r p.again parts) (present t)) (sym (shown.1).same) (shown.1).agrees) in
    let seen = present-seen store k.then_store k.state v r k.is k.begun k.stands (revision-kept (record empty_view { revision = r }) again parts) shown.0 agrees in
    elim h [ inl d ↦ decides-to store reap.session v r seen phase step d | inr c ↦ looks-first store reap.session phase step c.asks ]

answered-to : (store : Store) (reap : Reap) (r : ℤ) (b : Bool) (parts : List ActAns) (k : IsReapAnswer store reap (answer.Txn r b parts)) (p : Phase) → IsReapAsk k.before reap.session p k.asked → (phase : Phase) (step : ReapStep) → Answered reap.session p r b parts phase step
    → ComesTo store reap.session phase step
answered-to store reap r b parts k Unasked out phase step h = absurd h
answered-to store reap r b parts k Looking out phase step h = looked-to store reap r b parts k out phase step h
answered-to store reap r b parts k (Counting z ws) (st, e) phase step h = counting-to store reap r b parts k z ws st e phase step h
answered-to store reap r b parts k (Removing again) out phase step h = removing-to store reap r b parts again k out phase step h
answered-to store reap r b parts k Over out phase step h = absurd h

pub reaps-to : (store : Store) (reap : Reap) (a : Answer) → IsReapAnswer store reap a → (phase : Phase) (step : ReapStep) → ReaperMoves reap (Some a) phase step → ComesTo store reap.session phase step
reaps-to store reap (answer.Txn r b parts) k phase step h = answered-to store reap r b parts k reap.phase k.out phase step h
reaps-to store reap (answer.Range r f) k phase step h = absurd h
reaps-to store reap (answer.Granted r i t) k phase step h = absurd h
reaps-to store reap (answer.Alive r i t) k phase step h = absurd h

-- ---- the world after its answer

-- what it asks is an update where it removes, and bound
reap-bound : (store : Store) (lines : List TranscriptLine) (id : ℤ) (phase : Phase) (q : Ask) → IsReapAsk store id phase q → IsBoundAs store lines (kind_of_reap id phase) q
reap-bound store lines id Unasked q h = absurd h
reap-bound store lines id Looking q h = subst (IsBoundAs store lines None) (sym h) (record { success = ranges-read (pos 0) (reaper_wants id); failure = refl })
reap-bound store lines id (Counting z ws) q (st, e) = subst (IsBoundAs store lines None) (sym e) (record { success = ranges-read z ws; failure = refl })
reap-bound store lines id (Removing again) q (p, same, e, b) = subst (IsBoundAs store lines (Some (Reaped id))) (sym e) (b, ranges-read (pos 0) p.again)
reap-bound store lines id Over q h = absurd h

unmade : (id : ℤ) (phase : Phase) (d : ℕ) → option_and_then made_for (kind_of_reap id phase) ≡ Some d → ⊥
unmade id (Removing again) d e = none_some e
unmade id Unasked d e = none_some e
unmade id Looking d e = none_some e
unmade id (Counting z ws) d e = none_some e
unmade id Over d e = none_some e

ask-open : (store : Store) (id : ℤ) (phase : Phase) (q : Ask) → IsReapAsk store id phase q → is_over phase ≡ false
ask-open store id Unasked q h = absurd h
ask-open store id Looking q h = refl
ask-open store id (Counting z ws) q h = refl
ask-open store id (Removing again) q h = refl
ask-open store id Over q h = absurd h

module _ (w w' : World) (c : ℕ) (x : Conn) (reap : Reap) (a : Answer) (there : conn_at c w ≡ Some x) (actor : x.actor ≡ Reaper reap) (nothing_out : x.flight ≡ None) (k : IsReapAnswer w.store reap a) (h : Whole w) where
  -- the reaper goes on with this ask out
  abbrev going : Reap → Ask → Conn
  going next q = record x { actor = Reaper next; flight = Some (Out (record { ask = q; kind = kind_of_reap next.session next.phase })) }

  pub going-whole : (next : Reap) (q : Ask) → IsReapAsk w.store next.session next.phase q → Whole (with_conn w c (going next q))
  going-whole next q asks = sets-whole w c x (going next q) (record {
    but = but-of w c h;
    there = there;
    opens = ap is_closed_actor actor;
    unshut = λ core e. absurd (reaper-core core e);
    serves = λ core e s. absurd (reaper-core core e);
    bound = λ b e. subst (IsBoundAsk w.store w.lines) (out-same _ b e) (reap-bound w.store w.lines next.session next.phase q asks);
    own = λ b d e r. absurd (unmade next.session next.phase d (ap asker_in (out-same _ b e) ∙ r));
    heard = λ n b e. (let sp = (h.holds).spoken c n b e in record {
      walker = sp.walker;
      talks = sp.talks;
      ahead = λ z i f r. absurd (unmade next.session next.phase c (ap asker_in (out-same _ z f) ∙ request-asker z c i r));
    });
  })
    where
      reaper-core : (core : Core) → Reaper next ≡ Connection core → ⊥
      reaper-core core e = cc

      out-same : (y z : Asking) → Some (Out y) ≡ Some (Out z) → y ≡ z
      out-same y z e = cc

  ends-as : (next : Reap) (end : Ended) → next.phase ≡ Over → w' ≡ leaves c w x (after_reap next) (ends c [] end (quiet x.flight)) → Acts w w' c
  ends-as next end over is =
      let e : w' ≡ leaves c w x Closed (ends c [] end (quiet x.flight)) = is ∙ ap (λ p. leaves c w x (if is_over p then Closed else Reaper next) (ends c [] end (quiet x.flight))) over in
      leaves-acts w w' c x Closed (ends c [] end (quiet x.flight)) there e (ends-own c [] end (quiet x.flight) refl refl)
      (subst Whole (sym e) (ends-whole w c x ((after w.lines).zxid) [] end there refl tt (but-of w c h))) (close-ends w.lines c [] end (quiet x.flight)) (within-close w.lines c end)

  goes-as : (next : Reap) (q : Ask) → next.session ≡ reap.session → IsReapAsk w.store reap.session next.phase q → w' ≡ leaves c w x (after_reap next) (quiet (Some (Out (record { ask = q; kind = kind_of_reap next.session next.phase })))) → Acts w w' c
  goes-as next q same asks is =
      let o : StepOutcome = quiet (Some (Out (record { ask = q; kind = kind_of_reap next.session next.phase }))) in
      let mine : IsReapAsk w.store next.session next.phase q = subst (λ id. IsReapAsk w.store id next.phase q) (sym same) asks in
      let e : w' ≡ leaves c w x (Reaper next) o = is ∙ ap (λ b. leaves c w x (if b then Closed else Reaper next) o) (ask-open w.store reap.session next.phase q asks) in
      let plain : w' ≡ with_conn w c (going next q) =
      e ∙ ap (λ l. record (with_conn w c (going next q)) { lines = l; strays = w.strays ++ [] }) (append-nil w.lines) ∙ ap (λ l. record (with_conn w c (going next q)) { strays = l }) (append-nil w.strays) in
      leaves-acts w w' c x (Reaper next) o there e refl (subst Whole (sym plain) (going-whole next q mine)) (record { asked = mine; kind = refl }) (within-same w.lines c)

  comes-as : (next : Reap) (step : ReapStep) → next.session ≡ reap.session → ComesTo w.store reap.session next.phase step → w' ≡ leaves c w x (after_reap next) (reap_acts c (kind_asked c (Reaper next)) x.flight step) → Acts w w' c
  comes-as next _ same (on q asks) is = goes-as next q same asks is
  comes-as next _ same (removed over z) is = ends-as next (ended.Reaped z) over is
  comes-as next _ same (kept over z) is = ends-as next (ended.Kept z) over is
  comes-as next _ same (gone over z) is = ends-as next (ended.Gone z) over is

  pub reaps-acts : Reaps c w (Some a) w' x reap → Acts w w' c
  reaps-acts (inl e) =
      leaves-acts w w' c x Closed (ended_by c (cause.Damaged e.key e.value) x.flight) there e.result (ends-own c [] (ended.Cause (cause.Damaged e.key e.value)) (quiet x.flight) refl refl)
      (subst Whole (sym e.result) (ends-whole w c x ((after w.lines).zxid) [] (ended.Cause (cause.Damaged e.key e.value)) there refl tt (but-of w c h))) (close-ends w.lines c [] (ended.Cause (cause.Damaged e.key e.value)) (quiet x.flight)) (within-close w.lines c (ended.Cause (cause.Damaged e.key e.value)))
  reaps-acts (inr r) = comes-as r.next r.step (r.stepped).same (reaps-to w.store reap a k (r.next).phase r.step (r.stepped).moves) r.result
