-- What is handed to one that is held apart from its world is handed to it there.
use Rattle.std.proofs.Common.{◌≡◌, ℕ, ℤ, refl, sym, ap, ◌∙◌, subst, [], ◌∷◌, ◌++◌, inl, inr}
use Rattle.std.specs.Prelude.{Option, Some, None, OnOk, Result}
use Rattle.std.specs.FinMap.{get, insert, remove}
use Rattle.std.specs.Global.{Box}
use Rattle.std.proofs.lemmas.Result.{on_ok_weaker}
use Rattle.std.proofs.lemmas.List.{append-nil}
use Rattle.ev_types.specs.declared.answer.Answer.{Answer}
use Rattle.ev_types.specs.declared.ask.Ask.{Ask}
use Rattle.zk_service.specs.declared.cause.Cause.TheVariants as cause
use Rattle.zk_service.specs.declared.cause.Ended.{Ended}
use Rattle.zk_service.specs.declared.cause.Ended.TheVariants as finish
use Rattle.zk_transcript.specs.declared.transcript.TranscriptLine.TheVariants.{Close}
use Rattle.zk_service.specs.declared.update.UpdateKind.{UpdateKind}
use Rattle.zp_script.specs.declared.flight.Flight.{Flight}
use Rattle.zp_script.specs.declared.flight.Flight.TheVariants.{Out, Carried, Denied}
use Rattle.zp_script.specs.Effects.{Delivers, new_conn, new_reap, new_reaper}
use Rattle.zp_script.specs.Faults.{flight_at}
use Rattle.zp_script.specs.Handing.{AnswerComes, AnswerComesTo, FailureComes, FailureComesTo, Handed, Reaps, landed, landed_conn}
use Rattle.zp_script.specs.Kinds.{kind_asked, kind_of_reap}
use Rattle.zp_script.specs.StepOutcomes.{acts_all, ended_by, ends, leaves, left_by, quiet, reap_acts}
use Rattle.zp_script.specs.Worlds.{Actor, Closed, Conn, Conns, Connection, Reaper, World, after_reap, after_step, conn_at, with_conn}
use Rattle.zp_step.specs.Stages.{Core}
use Rattle.zp_step.specs.declared.input.Input.{Input}
use Rattle.zp_step.specs.declared.input.Input.TheVariants as input
use Rattle.zs_reap.specs.Steps.{IsAsked, IsReapFault, IsReaperWaiting, ReaperSteps}
use Rattle.zs_reap.specs.declared.reap.Phase.{Phase}
use Rattle.zs_reap.specs.declared.reap.Phase.TheVariants.{Unasked, Looking, Counting, Removing, Over}
use Rattle.zs_reap.specs.declared.reap.Reap.{Reap}
use Rattle.zs_reap.specs.declared.reap.ReapStep.{ReapStep}
use Rattle.zs_reap.specs.declared.reap.ReapStep.TheVariants as reaped
use Rattle.zs_session.specs.declared.fault.StepFault.TheVariants.{Damaged}
use Rattle.zx_base.proofs.Options.{none_some}
use Rattle.zx_base.specs.Maps.{Bytes}
use Rattle.zp_world.proofs.Apart.{conn-inserted, leaves-with_conn, with_conn-same, with_conn-without}
use Rattle.zp_world.proofs.Possible.{flight-is}
use Rattle.zp_world.specs.Doing.{ReapsFrom, Stepped, ended, left, seated}
use Rattle.zp_world.specs.Activities.{actor_of}
use Rattle.zp_world.specs.declared.activity.Actor.{Actor as AnActor}
use Rattle.zp_world.specs.declared.activity.Actor.TheVariants as actors
use Rattle.zp_world.specs.declared.activity.Seat.{Seat}

-- ---- a connection

hands : (c : ℕ) (w w' : World) (seat : Seat) (core : Core) (flight : Option Flight) (x : Input) → Stepped c [] w (left seat) core flight x w' → Handed c [] (with_conn w c (seated seat (Connection core) flight)) x w'
hands c w w' seat core flight x s =
    let conn : Conn = seated seat (Connection core) flight in
    record {
      conn = conn;
      core = core;
      found = conn-inserted c w conn;
      serving = refl;
      next = s.next;
      out = s.out;
      stepped = s.stepped;
      result = s.result ∙ sym (leaves-with_conn c w conn conn (after_step s.next) (acts_all c (kind_asked c (Connection s.next)) [] flight s.out));
    }

-- ---- a reaper

reaps-with_conn : (c : ℕ) (w w' : World) (x y : Conn) (reap : Reap) (a : Option Answer) → Reaps c w a w' x reap → Reaps c (with_conn w c y) a w' x reap
reaps-with_conn c w w' x y reap a h = elim h [
  | inl e ↦ inl (record { key = e.key; value = e.value; found = e.found; result = e.result ∙ sym (leaves-with_conn c w x y Closed (ended_by c (cause.Damaged e.key e.value) x.flight)) })
  | inr s ↦ inr (record { step = s.step; next = s.next; stepped = s.stepped; result = s.result ∙ sym (leaves-with_conn c w x y (after_reap s.next) (reap_acts c (kind_asked c (Reaper s.next)) x.flight s.step)) })
]

-- a record of this seat
pub record IsAt (x : Conn) (seat : Seat) : Type 0 where
  pub proxy : x.proxy ≡ seat.proxy
  pub stream : x.stream ≡ seat.inbox
  pub frames : x.frames ≡ seat.frames
  pub flight : x.flight ≡ None

same-seat : (x : Conn) (seat : Seat) (a : Actor) (f : Option Flight) → IsAt x seat → (record x { actor = a; flight = f }) ≡ seated seat a f
same-seat x seat a f at = λ i. record { proxy = at.proxy i; actor = a; stream = at.stream i; frames = at.frames i; flight = f }

after-asked : (reap : Reap) (p : Phase) → reap.phase ≡ p → IsAsked p → after_reap reap ≡ Reaper reap
after-asked reap Unasked e h = absurd h
after-asked reap Looking e h = rw e refl
after-asked reap (Counting revision wants) e h = rw e refl
after-asked reap (Removing again) e h = rw e refl
after-asked reap Over e h = absurd h

after-over : (reap : Reap) → reap.phase ≡ Over → after_reap reap ≡ Closed
after-over reap e = rw e refl

-- it asks, and goes on
reap-asks : (c : ℕ) (w w' : World) (x : Conn) (seat : Seat) (reap next : Reap) (a : Option Answer) (q : Ask) (kind : Option UpdateKind) → IsAt x seat
    → ReaperSteps reap a (reaped.Ask q) next → IsReaperWaiting (reaped.Ask q) next.phase → kind ≡ kind_of_reap next.session next.phase
    → w' ≡ with_conn w c (seated seat (Reaper next) (Some (Out (record { ask = q; kind = kind })))) → Reaps c w a w' x reap
reap-asks c w w' x seat reap next a q kind at steps waits kind-is is =
    let f : Option Flight = Some (Out (record { ask = q; kind = kind })) in
    let goes : after_reap next ≡ Reaper next = after-asked next next.phase refl waits.0 in
    let asked : ◌≡◌ {A = Option Flight} (Some (Out (record { ask = q; kind = kind_of_reap next.session next.phase }))) f = ap (λ (k : Option UpdateKind). Some (Out (record { ask = q; kind = k }))) (sym kind-is) in
    let first : ◌≡◌ {A = Conn} (record x { actor = after_reap next; flight = Some (Out (record { ask = q; kind = kind_of_reap next.session next.phase })) }) (record x { actor = Reaper next; flight = f }) =
    (λ i. record x { actor = goes i; flight = asked i }) in
    let conn : ◌≡◌ {A = Conn} (record x { actor = after_reap next; flight = Some (Out (record { ask = q; kind = kind_of_reap next.session next.phase })) }) (seated seat (Reaper next) f) = first ∙ same-seat x seat (Reaper next) f at in
    let goal : leaves c w x (after_reap next) (reap_acts c (kind_asked c (Reaper next)) x.flight (reaped.Ask q)) ≡ with_conn w c (seated seat (Reaper next) f) =
    (λ i. record (with_conn w c (conn i)) { lines = append-nil w.lines i; strays = append-nil w.strays i }) in
    inr (record { step = reaped.Ask q; next = next; stepped = steps; result = is ∙ sym goal })

ended-is : (c : ℕ) (w : World) (x : Conn) (seat : Seat) (a : Actor) (e : Ended) → IsAt x seat → a ≡ Closed → leaves c w x a (ends c [] e (quiet x.flight)) ≡ ended c w seat e None
ended-is c w x seat a e at closed =
    let first : ◌≡◌ {A = Conn} (record x { actor = a; flight = None }) (record x { actor = Closed; flight = None }) = (λ i. record x { actor = closed i; flight = None }) in
    let conn : ◌≡◌ {A = Conn} (record x { actor = a; flight = None }) (left seat) = first ∙ same-seat x seat Closed None at in
    λ i. record (with_conn w c (conn i)) { lines = w.lines ++ Close c e ∷ []; strays = w.strays ++ left_by (at.flight i) }

reap-is-over : (c : ℕ) (w w' : World) (x : Conn) (seat : Seat) (reap next : Reap) (a : Option Answer) (step : ReapStep) (e : Ended) → IsAt x seat → ReaperSteps reap a step next → next.phase ≡ Over
    → ((f : Option Flight) → reap_acts c (kind_asked c (Reaper next)) f step ≡ ends c [] e (quiet f)) → w' ≡ ended c w seat e None → Reaps c w a w' x reap
reap-is-over c w w' x seat reap next a step e at steps over acts is = inr (record {
  step = step;
  next = next;
  stepped = steps;
  result = is ∙ sym (ap (leaves c w x (after_reap next)) (acts x.flight) ∙ ended-is c w x seat (after_reap next) e at (after-over next over));
})

reap-is-damaged : (c : ℕ) (w w' : World) (x : Conn) (seat : Seat) (reap : Reap) (a : Option Answer) (key value : Bytes) → IsAt x seat → IsReapFault reap a (Damaged key value)
    → w' ≡ ended c w seat (finish.Cause (cause.Damaged key value)) None → Reaps c w a w' x reap
reap-is-damaged c w w' x seat reap a key value at fault is = inl (record {
  key = key;
  value = value;
  found = fault;
  result = is ∙ sym (ended-is c w x seat Closed (finish.Cause (cause.Damaged key value)) at refl);
})

module _ {E : Type 0} (c : ℕ) (w : World) (seat : Seat) (reap next : Reap) (a : Option Answer) (r : Result (Unit {0}) E) where
  pub reap-asked : (v : World) (m : Conns) (q : Ask) (kind : Option UpdateKind) → v ≡ w → ReaperSteps reap a (reaped.Ask q) next → IsReaperWaiting (reaped.Ask q) next.phase → kind ≡ kind_of_reap next.session next.phase
      → OnOk r (m ≡ insert v.conns c (seated seat (Reaper next) (Some (Out (record { ask = q; kind = kind }))))) → OnOk r (ReapsFrom c w seat a (record v { conns = m }) reap)
  reap-asked v m q kind same steps waits kind-is h =
      let conn : Conn = seated seat (Reaper next) (Some (Out (record { ask = q; kind = kind }))) in
      on_ok_weaker r (λ (is : m ≡ insert v.conns c conn) (x : Conn) (p : x.proxy ≡ seat.proxy) (s : x.stream ≡ seat.inbox) (f : x.frames ≡ seat.frames) (n : x.flight ≡ None).
      reap-asks c w (record v { conns = m }) x seat reap next a q kind (record { proxy = p; stream = s; frames = f; flight = n }) steps waits kind-is
      (ap (λ (l : Conns). record v { conns = l }) is ∙ ap (λ (u : World). with_conn u c conn) same)) h

  pub reap-ended : (w' : World) (step : ReapStep) (e : Ended) → ReaperSteps reap a step next → next.phase ≡ Over → ((f : Option Flight) → reap_acts c (kind_asked c (Reaper next)) f step ≡ ends c [] e (quiet f))
      → OnOk r (w' ≡ ended c w seat e None) → OnOk r (ReapsFrom c w seat a w' reap)
  reap-ended w' step e steps over acts h = on_ok_weaker r (λ (is : w' ≡ ended c w seat e None) (x : Conn) (p : x.proxy ≡ seat.proxy) (s : x.stream ≡ seat.inbox) (f : x.frames ≡ seat.frames) (n : x.flight ≡ None).
      reap-is-over c w w' x seat reap next a step e (record { proxy = p; stream = s; frames = f; flight = n }) steps over acts is) h

  pub reap-damaged : (w' : World) (key value : Bytes) → IsReapFault reap a (Damaged key value) → OnOk r (w' ≡ ended c w seat (finish.Cause (cause.Damaged key value)) None) → OnOk r (ReapsFrom c w seat a w' reap)
  reap-damaged w' key value fault h = on_ok_weaker r (λ (is : w' ≡ ended c w seat (finish.Cause (cause.Damaged key value)) None) (x : Conn) (p : x.proxy ≡ seat.proxy) (s : x.stream ≡ seat.inbox) (f : x.frames ≡ seat.frames) (n : x.flight ≡ None).
      reap-is-damaged c w w' x seat reap a key value (record { proxy = p; stream = s; frames = f; flight = n }) fault is) h

-- a reaper whose ask failed
reap-fails : (c : ℕ) (w w' : World) (seat : Seat) (reap : Reap) (flight : Option Flight) → w' ≡ ended c w seat (finish.Cause cause.LinkFault) flight
    → FailureComesTo c (with_conn w c (seated seat (Reaper reap) flight)) (seated seat (Reaper reap) flight) w' (Reaper reap)
reap-fails c w w' seat reap flight is =
    is ∙ sym (leaves-with_conn c w (seated seat (Reaper reap) flight) (seated seat (Reaper reap) flight) Closed (ended_by c cause.LinkFault flight))

-- ---- to either

module _ {E : Type 0} (c : ℕ) (w w' : World) (seat : Seat) (r : Result (Unit {0}) E) where
  pub answer-steps : (actor : AnActor) (core : Box Core) (a : Answer) → actor ≡ actors.Connection core → OnOk r (Stepped c [] w (left seat) core.value None (input.Answer a) w')
      → OnOk r (AnswerComesTo c (with_conn w c (seated seat (actor_of actor) None)) (seated seat (actor_of actor) None) a w' (actor_of actor))
  answer-steps actor core a is h = subst (λ (k : AnActor). OnOk r (AnswerComesTo c (with_conn w c (seated seat (actor_of k) None)) (seated seat (actor_of k) None) a w' (actor_of k))) (sym is) (on_ok_weaker r (hands c w w' seat core.value None (input.Answer a)) h)

  pub answer-reaps : (actor : AnActor) (reap : Box Reap) (a : Answer) → actor ≡ actors.Reaper reap
      → OnOk r (ReapsFrom c w seat (Some a) w' reap.value)
      → OnOk r (AnswerComesTo c (with_conn w c (seated seat (actor_of actor) None)) (seated seat (actor_of actor) None) a w' (actor_of actor))
  answer-reaps actor reap a is h =
      let conn : Conn = seated seat (Reaper reap.value) None in
      subst (λ (k : AnActor). OnOk r (AnswerComesTo c (with_conn w c (seated seat (actor_of k) None)) (seated seat (actor_of k) None) a w' (actor_of k))) (sym is) (on_ok_weaker r (λ (all : ReapsFrom c w seat (Some a) w' reap.value).
      reaps-with_conn c w w' conn conn reap.value (Some a) (all conn refl refl refl refl)) h)

  pub failure-steps : (actor : AnActor) (core : Box Core) (flight : Option Flight) → actor ≡ actors.Connection core → OnOk r (Stepped c [] w (left seat) core.value flight input.Failed w')
      → OnOk r (FailureComesTo c (with_conn w c (seated seat (actor_of actor) flight)) (seated seat (actor_of actor) flight) w' (actor_of actor))
  failure-steps actor core flight is h = subst (λ (k : AnActor). OnOk r (FailureComesTo c (with_conn w c (seated seat (actor_of k) flight)) (seated seat (actor_of k) flight) w' (actor_of k))) (sym is) (on_ok_weaker r (hands c w w' seat core.value flight input.Failed) h)

  pub failure-ends : (actor : AnActor) (reap : Box Reap) (flight : Option Flight) → actor ≡ actors.Reaper reap → OnOk r (w' ≡ ended c w seat (finish.Cause cause.LinkFault) flight)
      → OnOk r (FailureComesTo c (with_conn w c (seated seat (actor_of actor) flight)) (seated seat (actor_of actor) flight) w' (actor_of actor))
  failure-ends actor reap flight is h = subst (λ (k : AnActor). OnOk r (FailureComesTo c (with_conn w c (seated seat (actor_of k) flight)) (seated seat (actor_of k) flight) w' (actor_of k))) (sym is) (on_ok_weaker r (reap-fails c w w' seat reap.value flight) h)

-- ---- where it stands

landed-is : (c : ℕ) (w : World) (x : Conn) → conn_at c w ≡ Some x → landed c w ≡ with_conn w c (record x { flight = None })
landed-is c w x there = ap (landed_conn c w) there

-- Of the world v, which is w, one was taken out: the connections m are left.
module _ (v w : World) (c : ℕ) (m : Conns) (x y : Conn) (same : v ≡ w) (is : x ≡ y) (taken : Some y ≡ get v.conns c) (rest : m ≡ remove v.conns c) where
  pub stood : conn_at c w ≡ Some x
  stood = subst (λ (u : World). get u.conns c ≡ Some x) same (sym taken ∙ ap Some (sym is))

  -- what was put back in its place
  put : (z : Conn) → with_conn (record v { conns = m }) c z ≡ with_conn w c z
  put z = ap (λ (n : Conns). with_conn (record v { conns = n }) c z) rest ∙ with_conn-without c v z ∙ ap (λ (u : World). with_conn u c z) same

  abbrev pub landing : Conn
  landing = record x { flight = None }

  pub answer-delivered : {E : Type 0} (w' : World) (a : Answer) (r : Result (Unit {0}) E) → x.flight ≡ Some (Carried a)
      → OnOk r (AnswerComesTo c (with_conn (record v { conns = m }) c landing) landing a w' x.actor) → OnOk r (Delivers c w w' (flight_at c w))
  answer-delivered w' a r out h = on_ok_weaker r (λ (comes : AnswerComesTo c (with_conn (record v { conns = m }) c landing) landing a w' x.actor).
      subst (Delivers c w w') (sym (flight-is c w x stood ∙ out))
      (subst (λ (u : World). AnswerComes c u a w') (sym (landed-is c w x stood))
      (landing, conn-inserted c w landing, subst (λ (u : World). AnswerComesTo c u landing a w' x.actor) (put landing) comes))) h

  failed : (w' : World) → FailureComesTo c (with_conn (record v { conns = m }) c landing) landing w' x.actor → FailureComes c (landed c w) w'
  failed w' comes =
      subst (λ (u : World). FailureComes c u w') (sym (landed-is c w x stood))
      (landing, conn-inserted c w landing, subst (λ (u : World). FailureComesTo c u landing w' x.actor) (put landing) comes)

  pub denial-delivered : {E : Type 0} (w' : World) (r : Result (Unit {0}) E) → x.flight ≡ Some Denied
      → OnOk r (FailureComesTo c (with_conn (record v { conns = m }) c landing) landing w' x.actor) → OnOk r (Delivers c w w' (flight_at c w))
  denial-delivered w' r out h = on_ok_weaker r (λ (comes : FailureComesTo c (with_conn (record v { conns = m }) c landing) landing w' x.actor).
      subst (Delivers c w w') (sym (flight-is c w x stood ∙ out)) (failed w' comes)) h

  pub refusal-delivered : {E : Type 0} (w' : World) (r : Result (Unit {0}) E)
      → OnOk r (FailureComesTo c (with_conn (record v { conns = m }) c landing) landing w' x.actor) → OnOk r (FailureComes c (landed c w) w')
  refusal-delivered w' r h = on_ok_weaker r (failed w') h

  pub failure-delivered : {E : Type 0} (w' : World) (r : Result (Unit {0}) E)
      → OnOk r (FailureComesTo c (with_conn (record v { conns = m }) c x) x w' x.actor) → OnOk r (FailureComes c w w')
  failure-delivered w' r h = on_ok_weaker r (λ (comes : FailureComesTo c (with_conn (record v { conns = m }) c x) x w' x.actor).
      (x, stood, subst (λ (u : World). FailureComesTo c u x w' x.actor) (put x ∙ with_conn-same c w x stood) comes)) h

-- none was there
pub none-stood : (v w : World) (c : ℕ) (x : Conn) → v ≡ w → None ≡ get v.conns c → conn_at c w ≡ Some x → ⊥
none-stood v w c x same none there = none_some (subst (λ (u : World). None ≡ get u.conns c) same none ∙ there)

-- ---- a reaper begins

pub reap-begins : {E : Type 0} (c p : ℕ) (id : ℤ) (w w' : World) (seat : Seat) (reap : Reap) (r : Result (Unit {0}) E) → left seat ≡ new_conn p Closed → reap ≡ new_reap id
    → OnOk r (ReapsFrom c w seat None w' reap)
    → OnOk r (Reaps c w None w' (new_reaper p id) (new_reap id))
reap-begins c p id w w' seat reap r fresh is h = on_ok_weaker r (λ (all : ReapsFrom c w seat None w' reap).
    subst (Reaps c w None w' (new_reaper p id)) is
    (all (new_reaper p id) (ap (λ (x : Conn). x.proxy) (sym fresh)) (ap (λ (x : Conn). x.stream) (sym fresh)) (ap (λ (x : Conn). x.frames) (sym fresh)) refl)) h
