-- Each step of a run has its world: one in which the step's input is handed in.
use Rattle.ev_types.specs.Denials.{carry}
use Rattle.ev_types.specs.Store.{Store}
use Rattle.ev_types.specs.declared.answer.Answer.{Answer}
use Rattle.ev_types.specs.declared.ask.Ask.{Ask}
use Rattle.std.proofs.Common.{Bool, List, [], ap, append-nil, append_assoc, arith, false, pos, refl, subst, sym, true, ℕ, ◌++◌, ◌+◌, ◌<◌, ◌∙◌, ◌∷◌, ◌≡◌, ◌≢◌}
use Rattle.std.specs.Arc.{arc_value}
use Rattle.std.specs.Option.{option_and_then}
use Rattle.std.specs.Prelude.{None, Option, Some, filter_map, if◌then◌else◌, ◌+ℤ◌}
use Rattle.zk_model.specs.Watches.{is_unarmed}
use Rattle.zk_transcript.specs.History.{state_at}
use Rattle.zk_transcript.specs.Walks.{Walker}
use Rattle.zk_service.specs.declared.cause.Cause.{Cause}
use Rattle.zk_service.specs.declared.cause.Cause.TheVariants as cause
use Rattle.zk_transcript.specs.declared.transcript.TranscriptLine.TheVariants.{Frame as FrameLine}
use Rattle.zk_transcript.specs.declared.transcript.TranscriptLine.{TranscriptLine}
use Rattle.zk_service.specs.declared.update.UpdateKind.{UpdateKind}
use Rattle.zn_layout.specs.declared.entry.Entry.{Entry}
use Rattle.zn_view.specs.declared.plan.Who.{Who}
use Rattle.zp_script.specs.Arriving.{shown_frame}
use Rattle.zp_script.specs.Entries.{cursor_of, cursor_wanted, entry_after, next_entry}
use Rattle.zp_script.specs.Faults.{flight_at}
use Rattle.zp_script.specs.Handing.{landed}
use Rattle.zp_script.specs.Kinds.{kind_asked}
use Rattle.zp_script.specs.StepOutcomes.{StepOutcome, acts_all, leaves}
use Rattle.zp_script.specs.Worlds.{Conn, Connection, World, after_step, conn_at, with_conn, zxid_at}
use Rattle.zp_script.specs.declared.flight.Asking.{Asking}
use Rattle.zp_script.specs.declared.flight.Flight.TheVariants.{Carried, Denied, Out}
use Rattle.zp_script.specs.declared.flight.Flight.{Flight}
use Rattle.zp_step.proofs.Counting.{counted-small}
use Rattle.zp_step.proofs.Ending.{steps_end_well}
use Rattle.zp_step.specs.Ending.{EndsWell, asked_by, closes}
use Rattle.zp_step.specs.Stages.{is_served, Checking, Committing, Connecting, Core, KeepingAlive, Reading, Ready, Shut, Stage, Unconnected, Waiting, asked_of, counted_up, is_shut, max_count, wanted_in}
use Rattle.zp_lives.proofs.Entries.{entry-there}
use Rattle.zp_lives.proofs.Executing.{IsCarriedTo, carried-to}
use Rattle.zp_lives.proofs.Keeping.{takes-accounted}
use Rattle.zp_lives.proofs.Telling.{frame-shows, shown-append, step-shows, updates-show}
use Rattle.zp_lives.specs.Alone.{LivesAlone}
use Rattle.zp_lives.specs.Events.{beside, takes}
use Rattle.zp_lives.specs.Feeding.{AreAnswered, IsEntryIn}
use Rattle.zp_lives.specs.Lives.{IsHanded, TakesBy, at_time}
use Rattle.zp_lives.specs.Showing.{index_after, shown_act, shown_in, shown_of}
use Rattle.zp_run.specs.Runs.{Step, answers_of, asks_of, entry_in}
use Rattle.zp_step.proofs.Shutting.{ends-named}
use Rattle.zp_step.specs.Laws.{end_by}
use Rattle.zp_step.specs.Steps.{IsNextEntry, MayTake, Steps, awaits_entry}
use Rattle.zp_step.specs.declared.action.Action.{Action}
use Rattle.zp_step.specs.declared.input.Input.TheVariants as input
use Rattle.zp_step.specs.declared.input.Input.{Input}
use Rattle.zp_step.specs.declared.wants.Wants.TheVariants as wants
use Rattle.zp_world_laws.proofs.Actions.{Asks, Closes, Rests, Split, Tail, asked_in as asked_last, is_closing, said, split, split-asked, split-closes, split-outcome, tail_outcome}
use Rattle.zp_world_laws.proofs.Arrivals.{core-of}
use Rattle.zp_world_laws.proofs.Arriving.{Arrived, Queues, Shuts, arrived, is_busy}
use Rattle.zp_world_laws.proofs.Ends.{landed-is}
use Rattle.zp_world_laws.proofs.Numbers.{conn-here}
use Rattle.zp_world_laws.specs.Accounting.{IsAccounted}
use Rattle.zp_world_laws.specs.Connecting.{IsConnectFlight, IsInStage}
use Rattle.zp_world_laws.specs.Connections.{IsFlying, IsServingConn}
use Rattle.zp_world_laws.specs.Serving.{update_lines}
use Rattle.zs_session.specs.Answering.{IsAwaited}
use Rattle.zs_session.specs.Connecting.{asked_in_phase}
use Rattle.zs_session.specs.declared.connect.Connect.{Connect}
use Rattle.zx_base.proofs.Options.{none_some, some_is}
use Rattle.zx_base.proofs.Booleans.{true-not_false as true-false}

-- ---- what is out of a connection, of which nothing is carried out beforehand

abbrev pub IsUndone : Option Flight → Type 0
IsUndone None = Unit {0}
IsUndone (Some (Out a)) = Unit {0}
IsUndone (Some (Carried b)) = ⊥
IsUndone (Some Denied) = ⊥

abbrev pub ask_out : Option Flight → Option Ask
ask_out None = None
ask_out (Some (Out a)) = Some a.ask
ask_out (Some (Carried b)) = None
ask_out (Some Denied) = None

abbrev pub listed : Option Ask → List Ask
listed None = []
listed (Some q) = q ∷ []

abbrev pub asks_out : Conn → List Ask
asks_out x = listed (ask_out x.flight)

-- what these steps are given over a store, where these asks are out before them
pub record IsFedFrom (s : Store) (qs : List Ask) (steps : List Step) : Type 0 where
  pub after : Store
  pub answers : AreAnswered s (qs ++ asks_of steps) (answers_of steps) after
  pub entries : (before more : List Step) (step : Step) (e : Entry) (now : Store) → steps ≡ before ++ step ∷ more → entry_in step.input ≡ Some e → AreAnswered s (qs ++ asks_of steps) (answers_of before) now → IsEntryIn now e

first-answer : (s : Store) (q : Ask) (a : Answer) (qs asks : List Ask) (os : List (Option Answer)) (t : Store) → qs ≡ q ∷ [] → AreAnswered s (qs ++ asks) (Some a ∷ os) t → (mid : Store) × (carry s q ≡ Some (mid, a))
first-answer s q a qs asks os t one h = let g : AreAnswered s ((q ∷ []) ++ asks) (Some a ∷ os) t = subst (λ l. AreAnswered s (l ++ asks) (Some a ∷ os) t) one h in (g.0, g.1)

-- an open connection in a world of which all is accounted for
pub record IsAtCore (w : World) (c : ℕ) (x : Conn) (core : Core) : Type 0 where
  pub accounted : IsAccounted w
  pub there : conn_at c w ≡ Some x
  pub actor : x.actor ≡ Connection core
  pub undone : IsUndone x.flight

busy-asks : (who : Who) (st : Stage) (q : Ask) → asked_of who st ≡ Some q → is_busy st ≡ true
busy-asks who (Connecting y) q h = refl
busy-asks who (KeepingAlive f) q h = refl
busy-asks who (Checking f) q h = refl
busy-asks who (Reading xid r v ws) q h = refl
busy-asks who (Committing xid r v p m) q h = refl
busy-asks who (Unconnected fresh) q h = absurd (none_some h)
busy-asks who Ready q h = absurd (none_some h)
busy-asks who (Waiting p) q h = absurd (none_some h)
busy-asks who Shut q h = absurd (none_some h)

record IsAwaiting (core : Core) (st : Stage) : Type 0 where
  cursor : cursor_wanted (wanted_in core st) ≡ Some core.cursor
  idle : asked_of core.who st ≡ None
  served : is_served st ≡ true

awaiting : (core : Core) (st : Stage) → awaits_entry (wanted_in core st) ≡ true → IsAwaiting core st
awaiting core Ready h = record { cursor = go (is_unarmed core.watches) h; idle = refl; served = refl }
  where
    go : (b : Bool) → awaits_entry (if b then wants.Frame else wants.FrameOrEntry core.cursor) ≡ true → cursor_wanted (if b then wants.Frame else wants.FrameOrEntry core.cursor) ≡ Some core.cursor
    go true e = absurd (true-false (sym e))
    go false e = refl
awaiting core (Waiting p) h = record { cursor = refl; idle = refl; served = refl }
awaiting core (Unconnected f) h = absurd (true-false (sym h))
awaiting core (Connecting f) h = absurd (true-false (sym h))
awaiting core (KeepingAlive f) h = absurd (true-false (sym h))
awaiting core (Checking f) h = absurd (true-false (sym h))
awaiting core (Reading xid r v ws) h = absurd (true-false (sym h))
awaiting core (Committing xid r v p m) h = absurd (true-false (sym h))
awaiting core Shut h = absurd (true-false (sym h))

none-out : (f : Option Flight) → IsUndone f → ask_out f ≡ None → f ≡ None
none-out None u e = refl
none-out (Some (Out a)) u e = absurd (none_some (sym e))
none-out (Some (Carried b)) u e = absurd u
none-out (Some Denied) u e = absurd u

some-out : (f : Option Flight) (q : Ask) → ask_out f ≡ Some q → (a : Asking) × (f ≡ Some (Out a)) × (a.ask ≡ q)
some-out None q e = absurd (none_some e)
some-out (Some (Out a)) q e = (a, refl, some_is e)
some-out (Some (Carried b)) q e = absurd (none_some e)
some-out (Some Denied) q e = absurd (none_some e)

module _ (w : World) (c : ℕ) (x : Conn) (core : Core) (k : IsAtCore w c x core) where
  pub open-now : is_shut core.stage ≡ false
  open-now = ((k.accounted).whole).unshut c x core k.there k.actor

  connecting : (y : Connect) (place : ℕ) (f : Option Flight) → IsUndone f → IsConnectFlight w.store w.lines c place y f → asked_in_phase y y.phase ≡ ask_out f
  connecting y place None u h = absurd h
  connecting y place (Some (Out a)) u h = h.asked
  connecting y place (Some (Carried b)) u h = absurd u
  connecting y place (Some Denied) u h = absurd u

  flying : (walker : Walker) (looked : ℕ) (f : Option Flight) → IsUndone f → IsFlying w.store w.lines c core walker looked f → asked_of core.who core.stage ≡ ask_out f
  flying walker looked None u h = h
  flying walker looked (Some (Out a)) u h = h.asked
  flying walker looked (Some (Carried b)) u h = absurd u
  flying walker looked (Some Denied) u h = absurd u

  serving : is_served core.stage ≡ true → IsServingConn w.store w.lines c core x.flight
  serving s = ((k.accounted).whole).serving c x core k.there k.actor s

  served : is_served core.stage ≡ true → asked_of core.who core.stage ≡ ask_out x.flight
  served s = let v = serving s in flying v.walker v.looked x.flight k.undone v.flies

  by-stage : (st : Stage) → core.stage ≡ st → IsInStage w.store w.lines c core x.flight st → asked_of core.who core.stage ≡ ask_out x.flight
  by-stage (Unconnected fresh) e (n, none) = ap (asked_of core.who) e ∙ ap ask_out (sym none)
  by-stage (Connecting y) e n = ap (asked_of core.who) e ∙ connecting y n.place x.flight k.undone n.flies
  by-stage Ready e n = served (ap is_served e)
  by-stage (KeepingAlive f) e n = served (ap is_served e)
  by-stage (Checking f) e n = served (ap is_served e)
  by-stage (Reading xid r v ws) e n = served (ap is_served e)
  by-stage (Committing xid r v p m) e n = served (ap is_served e)
  by-stage (Waiting p) e n = served (ap is_served e)
  by-stage Shut e n = absurd (true-false (sym (ap is_shut e) ∙ open-now))

  -- what is out is what its stage asks
  pub out-is : asked_of core.who core.stage ≡ ask_out x.flight
  out-is = by-stage core.stage refl (core-of w c x core (k.accounted).known k.there k.actor).1

  -- a frame that comes while an ask is out waits
  frame-asks : (mid : Core) (bytes : List ℕ) (now : ℕ) (out : List Action) (q : Ask) → Steps core (input.Frame bytes) now mid out → ask_out x.flight ≡ Some q → asked_by out ≡ None
  frame-asks mid bytes now out q h e = go (arrived core mid bytes now out (busy-asks core.who core.stage q (out-is ∙ e)) h)
    where
      go : Arrived core mid bytes out → asked_by out ≡ None
      go (Queues is silent header) = ap asked_by silent
      go (Shuts shut why closed) = ap asked_by closed

  -- an entry that may be handed in comes while nothing is out, and is the world's next one
  entry-free : (e : Entry) → IsNextEntry core e → x.flight ≡ None
  entry-free e h = none-out x.flight k.undone (sym out-is ∙ (awaiting core core.stage h.awaited).idle)

  entry-next : (e : Entry) → IsNextEntry core e → IsEntryIn w.store e → next_entry c w ≡ Some e
  entry-next e h i =
      let a = awaiting core core.stage h.awaited in
      let v = serving a.served in
      let at = ((v.stands).matches).at in
      ap (λ o. option_and_then (entry_after w.entries) (option_and_then (λ (y : Conn). cursor_of y.actor) o)) k.there
      ∙ ap (λ b. option_and_then (entry_after w.entries) (cursor_of b)) k.actor
      ∙ ap (option_and_then (entry_after w.entries)) a.cursor
      ∙ ap (entry_after w.entries) at.cursor
      ∙ entry-there w.store w.lines w.entries e (state_at w.lines (at.line + 1)).updates (((k.accounted).whole).holds).serves (k.accounted).entries i (h.number ∙ ap (λ z. z +ℤ pos 1) at.cursor)

-- ---- the step has been taken

abbrev pub left_asks : Input → List Ask → List Ask
left_asks (input.Answer a) qs = []
left_asks input.Failed qs = []
left_asks _ qs = qs

abbrev pub IsTaken : Input → List Ask → Store → Store → Type 0
IsTaken (input.Answer a) qs s t = (q : Ask) × (qs ≡ q ∷ []) × (carry s q ≡ Some (t, a))
IsTaken input.Failed qs s t = (q : Ask) × (qs ≡ q ∷ []) × (t ≡ s)
IsTaken _ qs s t = t ≡ s

pub record IsStepped (c : ℕ) (w : World) (x : Conn) (s : Step) (mid : Core) : Type 0 where
  pub after : World
  pub conn : Conn
  pub lives : (more : List Step) (u : World) → LivesAlone c after more u → LivesAlone c w (s ∷ more) u
  pub accounted : IsAccounted after
  pub there : conn_at c after ≡ Some conn
  pub actor : conn.actor ≡ after_step mid
  pub shut : closes s.out ≡ is_shut mid.stage
  pub undone : IsUndone conn.flight
  pub frames : conn.frames ≡ index_after x.frames s.input
  pub asked : closes s.out ≡ false → asks_out conn ≡ left_asks s.input (asks_out x) ++ listed (asked_by s.out)
  pub fed : IsTaken s.input (asks_out x) w.store after.store
  pub more : List TranscriptLine
  pub lines : after.lines ≡ w.lines ++ more
  pub shown : shown_of c more ≡ shown_in x.frames s.input ++ filter_map shown_act s.out

abbrev pub outcome : ℕ → Conn → Core → List Action → StepOutcome
outcome c y mid out = acts_all c (kind_asked c (Connection mid)) [] y.flight out

abbrev pub world_after : ℕ → World → Conn → Core → List Action → World
world_after c v y mid out = leaves c v y (after_step mid) (outcome c y mid out)

abbrev pub conn_after : ℕ → Conn → Core → List Action → Conn
conn_after c y mid out = record y { actor = after_step mid; flight = (outcome c y mid out).flight }

tail-undone : (c : ℕ) (kind : Option UpdateKind) (f : Option Flight) (ls : List TranscriptLine) (t : Tail) → IsUndone f → IsUndone (tail_outcome c kind [] f ls t).flight
tail-undone c kind f ls Rests u = u
tail-undone c kind f ls (Asks a) u = tt
tail-undone c kind f ls (Closes why) u = tt

tail-asked : (c : ℕ) (kind : Option UpdateKind) (f : Option Flight) (ls : List TranscriptLine) (t : Tail) → is_closing t ≡ false → ((q : Ask) → asked_last t ≡ Some q → listed (ask_out f) ≡ []) → listed (ask_out (tail_outcome c kind [] f ls t).flight) ≡ listed (ask_out f) ++ listed (asked_last t)
tail-asked c kind f ls Rests goes free = sym (append-nil (listed (ask_out f)))
tail-asked c kind f ls (Asks a) goes free = ap (λ l. l ++ a ∷ []) (sym (free a refl))
tail-asked c kind f ls (Closes why) goes free = absurd (true-false goes)

-- the step's input is handed in where the connection is y
pub record IsBrought (c : ℕ) (w : World) (x : Conn) (core : Core) (s : Step) (v : World) (y : Conn) : Type 0 where
  pub there : conn_at c v ≡ Some y
  pub actor : y.actor ≡ Connection core
  pub undone : IsUndone y.flight
  pub frames : y.frames ≡ index_after x.frames s.input
  pub left : closes s.out ≡ false → asks_out y ≡ left_asks s.input (asks_out x)
  pub free : (q : Ask) → asked_by s.out ≡ Some q → asks_out y ≡ []
  pub fed : IsTaken s.input (asks_out x) w.store v.store
  pub more : List TranscriptLine
  pub lines : v.lines ≡ w.lines ++ more
  pub shown : shown_of c more ≡ shown_in x.frames s.input

module _ (c : ℕ) (w : World) (x : Conn) (core mid : Core) (s : Step) (v : World) (y : Conn) (b : IsBrought c w x core s v y) (end : EndsWell core mid s.input s.out) where
  parts : Split s.out
  parts = split s.out end.well

  as-tail : outcome c y mid s.out ≡ tail_outcome c (kind_asked c (Connection mid)) [] y.flight (said c parts.packets) parts.tail
  as-tail = split-outcome c (kind_asked c (Connection mid)) [] y.flight s.out parts

  asked-after : closes s.out ≡ false → asks_out (conn_after c y mid s.out) ≡ left_asks s.input (asks_out x) ++ listed (asked_by s.out)
  asked-after goes =
      ap (λ (o : StepOutcome). listed (ask_out o.flight)) as-tail
      ∙ tail-asked c (kind_asked c (Connection mid)) y.flight (said c parts.packets) parts.tail (sym (split-closes s.out parts) ∙ goes) (λ q e. b.free q (split-asked s.out parts ∙ e))
      ∙ ap (λ l. l ++ listed (asked_last parts.tail)) (b.left goes)
      ∙ ap (λ o. left_asks s.input (asks_out x) ++ listed o) (sym (split-asked s.out parts))

  pub stepped : IsAccounted (world_after c v y mid s.out) → ((more : List Step) (u : World) → LivesAlone c (world_after c v y mid s.out) more u → LivesAlone c w (s ∷ more) u) → IsStepped c w x s mid
  stepped accounted lives = record {
    after = world_after c v y mid s.out;
    conn = conn_after c y mid s.out;
    lives = lives;
    accounted = accounted;
    there = conn-here v c (conn_after c y mid s.out);
    actor = refl;
    shut = end.closes;
    undone = subst (λ (o : StepOutcome). IsUndone o.flight) (sym as-tail) (tail-undone c (kind_asked c (Connection mid)) y.flight (said c parts.packets) parts.tail b.undone);
    frames = b.frames;
    asked = asked-after;
    fed = b.fed;
    more = b.more ++ (outcome c y mid s.out).lines;
    lines = ap (λ l. l ++ (outcome c y mid s.out).lines) b.lines ∙ append_assoc w.lines b.more (outcome c y mid s.out).lines;
    shown = shown-append c b.more (outcome c y mid s.out).lines ∙ ap (λ l. l ++ shown_of c (outcome c y mid s.out).lines) b.shown ∙ ap (λ l. shown_in x.frames s.input ++ l) (step-shows c (kind_asked c (Connection mid)) y.flight s.out);
  }

-- ---- each kind of step

abbrev pub one_more_frame : Conn → Conn
one_more_frame x = record x { frames = counted_up (x.frames + 1) }

abbrev pub landed_x : Conn → Conn
landed_x x = record x { flight = None }

abbrev pub step_of : Input → ℕ → List Action → Step
step_of i now out = record { input = i; time = now; out = out }

abbrev pub HandedTo : ℕ → World → Conn → Core → Core → Step → Type 0
HandedTo c v y core mid s = IsHanded c v s (world_after c (at_time v s.time) y mid s.out)

hands : (c : ℕ) (v : World) (y : Conn) (core mid : Core) (s : Step) → conn_at c v ≡ Some y → y.actor ≡ Connection core → Steps core s.input s.time mid s.out → MayTake core s.input → HandedTo c v y core mid s
hands c v y core mid s there actor steps may = record {
  handed = record { conn = y; core = core; found = there; serving = actor; next = mid; out = s.out; stepped = steps; result = refl };
  may = may;
  out = refl;
}

few-after : (c : ℕ) (v : World) (y : Conn) (mid : Core) (out : List Action) → y.frames < max_count → (u : Conn) → conn_at c (world_after c v y mid out) ≡ Some u → u.frames < max_count
few-after c v y mid out less u e = subst (λ (z : Conn). z.frames < max_count) (some_is (sym (conn-here v c (conn_after c y mid out)) ∙ e)) less

module _ (w : World) (c : ℕ) (x : Conn) (core mid : Core) (now : ℕ) (out : List Action) (k : IsAtCore w c x core) where
  well : (i : Input) → Steps core i now mid out → EndsWell core mid i out
  well i steps = steps_end_well core mid i now out (open-now w c x core k) steps

  -- the input changes nothing else in the world
  plain : (i : Input) → index_after x.frames i ≡ x.frames → shown_in x.frames i ≡ [] → (closes out ≡ false → asks_out x ≡ left_asks i (asks_out x)) → ((q : Ask) → asked_by out ≡ Some q → asks_out x ≡ []) → IsTaken i (asks_out x) w.store w.store → IsBrought c w x core (step_of i now out) (at_time w now) x
  plain i same none left free fed = record {
    there = k.there;
    actor = k.actor;
    undone = k.undone;
    frames = sym same;
    left = left;
    free = free;
    fed = fed;
    more = [];
    lines = sym (append-nil w.lines);
    shown = sym none;
  }

  -- so it is taken where it may be handed in
  takes-plain : (i : Input) → Steps core i now mid out → x.frames < max_count → index_after x.frames i ≡ x.frames → shown_in x.frames i ≡ [] → (closes out ≡ false → asks_out x ≡ left_asks i (asks_out x)) → ((q : Ask) → asked_by out ≡ Some q → asks_out x ≡ [])
      → IsTaken i (asks_out x) w.store w.store → TakesBy c w (step_of i now out) (world_after c (at_time w now) x mid out) i → IsStepped c w x (step_of i now out) mid
  takes-plain i steps room same none left free fed taken =
      stepped c w x core mid (step_of i now out) (at_time w now) x (plain i same none left free fed) (well i steps)
      (takes-accounted c w (step_of i now out) (world_after c (at_time w now) x mid out) i refl taken (few-after c (at_time w now) x mid out room) k.accounted)
      (λ more u rest. takes (step_of i now out) more (world_after c (at_time w now) x mid out) refl taken rest)

  -- an input that ends the connection asks nothing
  ends-silent : (i : Input) (why : Cause) → end_by i ≡ Some why → Steps core i now mid out → asked_by out ≡ None
  ends-silent i why e steps = ap asked_by (ends-named core mid i why now out (open-now w c x core k) e steps).1

  ends-free : (i : Input) (why : Cause) → end_by i ≡ Some why → Steps core i now mid out → (q : Ask) → asked_by out ≡ Some q → asks_out x ≡ []
  ends-free i why e steps q f = absurd (none_some (sym (ends-silent i why e steps) ∙ f))

  handed-here : (i : Input) → Steps core i now mid out → MayTake core i → IsHanded c w (step_of i now out) (world_after c (at_time w now) x mid out)
  handed-here i steps may = hands c w x core mid (step_of i now out) k.there k.actor steps may

  -- ---- a frame

  takes-frame : (bytes : List ℕ) → x.frames + 1 < max_count → MayTake core (input.Frame bytes) → Steps core (input.Frame bytes) now mid out → IsStepped c w x (step_of (input.Frame bytes) now out) mid
  takes-frame bytes room may steps =
      stepped c w x core mid (step_of (input.Frame bytes) now out) (at_time (shown_frame c w x bytes) now) (one_more_frame x) brought (well (input.Frame bytes) steps)
      (takes-accounted c w (step_of (input.Frame bytes) now out) (world_after c (at_time (shown_frame c w x bytes) now) (one_more_frame x) mid out) (input.Frame bytes) refl taken (few-after c (at_time (shown_frame c w x bytes) now) (one_more_frame x) mid out (omega (arith, counted, room))) k.accounted)
      (λ more u rest. takes (step_of (input.Frame bytes) now out) more (world_after c (at_time (shown_frame c w x bytes) now) (one_more_frame x) mid out) refl taken rest)
    where
      counted : counted_up (x.frames + 1) ≡ x.frames + 1
      counted = counted-small (x.frames + 1) (omega (arith, room))

      free : (q : Ask) → asked_by out ≡ Some q → asks_out x ≡ []
      free q e = go (ask_out x.flight) refl
        where
          go : (o : Option Ask) → ask_out x.flight ≡ o → listed o ≡ []
          go None f = refl
          go (Some r) f = absurd (none_some (sym (frame-asks w c x core k mid bytes now out r steps f) ∙ e))

      brought : IsBrought c w x core (step_of (input.Frame bytes) now out) (at_time (shown_frame c w x bytes) now) (one_more_frame x)
      brought = record {
        there = conn-here w c (one_more_frame x);
        actor = k.actor;
        undone = k.undone;
        frames = counted;
        left = λ goes. refl;
        free = free;
        fed = refl;
        more = FrameLine c x.frames (zxid_at w.store) bytes ∷ [];
        lines = refl;
        shown = frame-shows c x.frames (zxid_at w.store) bytes;
      }

      taken : TakesBy c w (step_of (input.Frame bytes) now out) (world_after c (at_time (shown_frame c w x bytes) now) (one_more_frame x) mid out) (input.Frame bytes)
      taken = (x, k.there, hands c (shown_frame c w x bytes) (one_more_frame x) core mid (step_of (input.Frame bytes) now out) (conn-here w c (one_more_frame x)) k.actor steps may)

  -- ---- an answer: what was asked is carried out before it

  takes-answer : (a : Answer) (q : Ask) (t : Store) → ask_out x.flight ≡ Some q → carry w.store q ≡ Some (t, a) → x.frames < max_count → MayTake core (input.Answer a) → Steps core (input.Answer a) now mid out → IsStepped c w x (step_of (input.Answer a) now out) mid
  takes-answer a q t is done room may steps = go (some-out x.flight q is)
    where
      by-world : (asking : Asking) → asking.ask ≡ q → (m : World) → IsCarriedTo c w x t a asking.kind m → IsStepped c w x (step_of (input.Answer a) now out) mid
      by-world asking same m h =
          stepped c w x core mid (step_of (input.Answer a) now out) (at_time (with_conn m c (landed_x x)) now) (landed_x x) brought (well (input.Answer a) steps)
          (takes-accounted c m (step_of (input.Answer a) now out) (world_after c (at_time (with_conn m c (landed_x x)) now) (landed_x x) mid out) (input.Answer a) refl taken (few-after c (at_time (with_conn m c (landed_x x)) now) (landed_x x) mid out room) h.accounted)
          (λ more u rest. beside m h.happens (takes (step_of (input.Answer a) now out) more (world_after c (at_time (with_conn m c (landed_x x)) now) (landed_x x) mid out) refl taken rest))
        where
          flight : flight_at c m ≡ Some (Carried a)
          flight = ap (option_and_then (λ (y : Conn). y.flight)) h.there

          lands : landed c m ≡ with_conn m c (landed_x x)
          lands = landed-is m c (record x { flight = Some (Carried a) }) h.there

          taken : TakesBy c m (step_of (input.Answer a) now out) (world_after c (at_time (with_conn m c (landed_x x)) now) (landed_x x) mid out) (input.Answer a)
          taken = (
            flight,
            subst (λ (u : World). IsHanded c u (step_of (input.Answer a) now out) (world_after c (at_time (with_conn m c (landed_x x)) now) (landed_x x) mid out)) (sym lands)
                (hands c (with_conn m c (landed_x x)) (landed_x x) core mid (step_of (input.Answer a) now out) (conn-here m c (landed_x x)) k.actor steps may),
          )

          brought : IsBrought c w x core (step_of (input.Answer a) now out) (at_time (with_conn m c (landed_x x)) now) (landed_x x)
          brought = record {
            there = conn-here m c (landed_x x);
            actor = k.actor;
            undone = tt;
            frames = refl;
            left = λ goes. refl;
            free = λ r e. refl;
            fed = (q, ap listed is, done ∙ ap (λ (u : Store). Some (u, a)) (sym h.store));
            more = update_lines w.store t asking.kind;
            lines = h.lines;
            shown = updates-show c w.store t asking.kind;
          }

      go : (asking : Asking) × (x.flight ≡ Some (Out asking)) × (asking.ask ≡ q) → IsStepped c w x (step_of (input.Answer a) now out) mid
      go (asking, out_is, same) =
          let m = carried-to c w x core asking t a k.accounted k.there k.actor out_is (ap (carry w.store) same ∙ done) in
          by-world asking same m.0 m.1

  -- ---- any input

  awaited-some : (o : Option Ask) (a : Answer) → IsAwaited o (Some a) → (q : Ask) × (o ≡ Some q)
  awaited-some None a h = absurd h
  awaited-some (Some q) a h = (q, refl)

  some-ask : (o : Option Ask) → o ≢ None → (q : Ask) × (o ≡ Some q)
  some-ask None h = absurd (h refl)
  some-ask (Some q) h = (q, refl)

  pub takes-any : (i : Input) (rest : List Step) → index_after x.frames i < max_count → MayTake core i → Steps core i now mid out → IsFedFrom w.store (asks_out x) (step_of i now out ∷ rest) → IsStepped c w x (step_of i now out) mid
  takes-any (input.Frame bytes) rest room may steps fed = takes-frame bytes room may steps
  takes-any (input.Answer a) rest room may steps fed =
      let q = awaited-some (asked_of core.who core.stage) a (may (open-now w c x core k)) in
      let is : ask_out x.flight ≡ Some q.0 = sym (out-is w c x core k) ∙ q.1 in
      let t = first-answer w.store q.0 a (asks_out x) (asks_of (step_of (input.Answer a) now out ∷ rest)) (answers_of rest) fed.after (ap listed is) fed.answers in
      takes-answer a q.0 t.0 is t.1 room may steps
  takes-any (input.Entry e) rest room may steps fed =
      let next : IsNextEntry core (arc_value e) = may (open-now w c x core k) in
      let none : x.flight ≡ None = entry-free w c x core k (arc_value e) next in
      let of : IsEntryIn w.store (arc_value e) = fed.entries [] rest (step_of (input.Entry e) now out) (arc_value e) w.store refl refl refl in
      takes-plain (input.Entry e) steps room refl refl (λ goes. refl) (λ q f. ap (λ g. listed (ask_out g)) none) refl
      (entry-next w c x core k (arc_value e) next of, ap (option_and_then (λ (y : Conn). y.flight)) k.there ∙ none, handed-here (input.Entry e) steps may)
  takes-any input.Failed rest room may steps fed =
      let q = some-ask (asked_of core.who core.stage) (may (open-now w c x core k)) in
      takes-plain input.Failed steps room refl refl (λ goes. absurd (true-false (sym (ap closes (ends-named core mid input.Failed cause.LinkFault now out (open-now w c x core k) refl steps).1) ∙ goes))) (ends-free input.Failed cause.LinkFault refl steps)
      (q.0, ap listed (sym (out-is w c x core k) ∙ q.1), refl) (handed-here input.Failed steps may)
  takes-any (input.BadLength p n) rest room may steps fed = takes-plain (input.BadLength p n) steps room refl refl (λ goes. refl) (ends-free (input.BadLength p n) (cause.BadLength p n) refl steps) refl (handed-here (input.BadLength p n) steps may)
  takes-any (input.Lagged p n) rest room may steps fed = takes-plain (input.Lagged p n) steps room refl refl (λ goes. refl) (ends-free (input.Lagged p n) (cause.Lagged p n) refl steps) refl (handed-here (input.Lagged p n) steps may)
  takes-any input.FeedClosed rest room may steps fed = takes-plain input.FeedClosed steps room refl refl (λ goes. refl) (ends-free input.FeedClosed cause.FeedClosed refl steps) refl (handed-here input.FeedClosed steps may)
  takes-any (input.ClientEnd p) rest room may steps fed = takes-plain (input.ClientEnd p) steps room refl refl (λ goes. refl) (ends-free (input.ClientEnd p) (cause.ClientEnd p) refl steps) refl (handed-here (input.ClientEnd p) steps may)
