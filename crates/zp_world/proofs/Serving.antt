-- Frames come to a connection, one after the other.
use Rattle.std.proofs.Common.{◌≡◌, ℕ, ◌+◌, ◌++◌, refl, sym, ap, ◌∙◌, subst, Bool, true, false, List, [], ◌∷◌, inl, inr, length, ◌<◌, ◌≤◌, arith}
use Rattle.std.proofs.lemmas.List.Elements.{All-nil, All-tail}
use Rattle.std.specs.Prelude.{All, Option, Some, None, Result, Ok, Err, OnOk, ℤ, MatchBool, not, if◌then◌else◌}
use Rattle.zx_base.proofs.Options.{some_none, some_is}
use Rattle.zk_transcript.specs.declared.transcript.TranscriptLine.{TranscriptLine}
use Rattle.zk_transcript.specs.declared.transcript.TranscriptLine.TheVariants.{Frame as FrameLine}
use Rattle.zk_model.specs.Limits.{max_frame}
use Rattle.zk_wire.specs.Cutting.{Stream}
use Rattle.zt_text.specs.declared.script.Why.{Why}
use Rattle.zt_text.specs.declared.script.Why.TheVariants as why
use Rattle.zp_script.specs.Arriving.{Arrives, CutsFrames, EndsBadly, FramesArrive, frame_lines, shown_frame}
use Rattle.zp_script.specs.Faults.{connection_fault, if_fails}
use Rattle.zp_script.specs.Handing.{Handed}
use Rattle.zp_script.specs.StepOutcomes.{StepOutcome, acts_all, leaves}
use Rattle.zp_script.specs.Kinds.{kind_asked}
use Rattle.zp_script.specs.Worlds.{Actor, Closed, Conn, Conns, Connection, Reaper, World, after_step, conn_at, is_closed_actor, is_open_conn, is_reaper, with_conn, zxid_at}
use Rattle.zp_script.specs.declared.flight.Flight.{Flight}
use Rattle.zp_script.specs.declared.flight.Flight.TheVariants.{Out, Carried, Denied}
use Rattle.zp_step.specs.declared.action.Action.{Action}
use Rattle.zp_step.specs.Steps.{Steps}
use Rattle.zp_step.specs.Stages.{Core, counted_up, is_shut}
use Rattle.zp_step.specs.declared.input.Input.{Input}
use Rattle.zp_step.specs.declared.input.Input.TheVariants as input
use Rattle.zp_world.proofs.Apart.{conn-inserted, conn-left, insert-removed, insert-twice}
use Rattle.zp_world.specs.Doing.{acted, left, seated, without}
use Rattle.zp_world.specs.Flying.{IsFitFlight, IsFlyingOf}
use Rattle.zp_world.specs.Taking.{IsConnectionAt, IsLeft, IsServing, StepsByFrame, Takes, left_next, shown}
use Rattle.zp_world.specs.declared.activity.Seat.{Seat}
use Rattle.zp_world.specs.declared.arriving.Arrival.{Arrival}

-- ---- a step of what is held apart is one of what stands in its world

-- the arrival by its parts
abbrev arrival : ℕ → ℤ → Arrival
arrival c zxid = record { connection = c; zxid = zxid }

leaves-shown : (c : ℕ) (w : World) (seat : Seat) (actor : Actor) (flight : Option Flight) (bytes : List ℕ) (a : Actor) (o : StepOutcome)
    → leaves c (shown (arrival c (zxid_at w.store)) (without c w) seat bytes) (left_next seat) a o ≡ leaves c (shown_frame c w (seated seat actor flight) bytes) (record (seated seat actor flight) { frames = counted_up (seat.frames + 1) }) a o
leaves-shown c w seat actor flight bytes a o =
    let x : Conn = record (seated seat actor flight) { frames = counted_up (seat.frames + 1) } in
    let y : Conn = record (left_next seat) { actor = a; flight = o.flight } in
    let lines : List TranscriptLine = w.lines ++ FrameLine c seat.frames (zxid_at w.store) bytes ∷ [] in
    ap (λ (m : Conns). record w { conns = m; lines = lines ++ o.lines; strays = w.strays ++ o.strays }) (insert-removed w.conns c y ∙ sym (insert-twice w.conns c x y))

handed-seated : (c : ℕ) (w w' : World) (core : Core) (seat : Seat) (flight : Option Flight) (bytes : List ℕ) (after : List (List ℕ))
    → StepsByFrame (arrival c (zxid_at w.store)) (without c w) seat core flight bytes after w'
    → Handed c (frame_lines c (counted_up (seat.frames + 1)) (zxid_at w.store) after) (shown_frame c w (seated seat (Connection core) flight) bytes) (input.Frame bytes) w'
handed-seated c w w' core seat flight bytes after s =
    let x : Conn = record (seated seat (Connection core) flight) { frames = counted_up (seat.frames + 1) } in
    record {
      conn = x;
      core = core;
      found = conn-inserted c w x;
      serving = refl;
      next = s.next;
      out = s.out;
      stepped = s.stepped;
      result = s.result ∙ leaves-shown c w seat (Connection core) flight bytes (after_step s.next) (acts_all c (kind_asked c (Connection s.next)) (frame_lines c (counted_up (seat.frames + 1)) (zxid_at w.store) after) flight s.out);
    }

pub handed-frame : (a : Arrival) (w w' : World) (x : Conn) (core : Core) (seat : Seat) (flight : Option Flight) (bytes : List ℕ) (after : List (List ℕ)) → seated seat (Connection core) flight ≡ x → a.zxid ≡ zxid_at w.store
    → StepsByFrame a (without a.connection w) seat core flight bytes after w'
    → Handed a.connection (frame_lines a.connection (counted_up (x.frames + 1)) (zxid_at w.store) after) (shown_frame a.connection w x bytes) (input.Frame bytes) w'
handed-frame a w w' x core seat flight bytes after is same s =
    let c : ℕ = a.connection in
    subst (λ (y : Conn). Handed c (frame_lines c (counted_up (y.frames + 1)) (zxid_at w.store) after) (shown_frame c w y bytes) (input.Frame bytes) w') is
    (handed-seated c w w' core seat flight bytes after (subst (λ (z : ℤ). StepsByFrame (arrival c z) (without c w) seat core flight bytes after w') same s))

-- ---- a connection stays one

no-reaper : (core : Core) → is_reaper (after_step core) ≡ false
no-reaper core = go (is_shut core.stage)
  where
    go : (b : Bool) → is_reaper (if b then Closed else Connection core) ≡ false
    go true = refl
    go false = refl

pub handed-connection : (c : ℕ) (after : List TranscriptLine) (w w' : World) (i : Input) → Handed c after w i w' → IsConnectionAt c w' × (zxid_at w'.store ≡ zxid_at w.store)
handed-connection c after w w' i h =
    let o : StepOutcome = acts_all c (kind_asked c (Connection h.next)) after h.conn.flight h.out in (
      record {
        conn = record h.conn { actor = after_step h.next; flight = o.flight };
        found = ap (conn_at c) h.result ∙ conn-left c w h.conn (after_step h.next) o;
        served = no-reaper h.next;
      },
      ap (λ (v : World). zxid_at v.store) h.result,
    )

pub arrived-connection : (frames : List (List ℕ)) (c : ℕ) (w w' : World) → IsConnectionAt c w → FramesArrive c w frames w' → IsConnectionAt c w'
arrived-connection [] c w w' at same = subst (IsConnectionAt c) (sym same) at
arrived-connection (frame ∷ more) c w w' at (x, mid, there, handed, rest) =
    let stays = (handed-connection c _ _ mid _ handed).0 in
    elim (is_open_conn (conn_at c mid)) as (λ b. MatchBool b (FramesArrive c mid more w') (w' ≡ mid) → IsConnectionAt c w') [
      | true ↦ λ arrives. arrived-connection more c mid w' stays arrives
      | false ↦ λ same. subst (IsConnectionAt c) (sym same) stays
    ] rest

-- ---- one frame, and those after it

pub serving-next : (c : ℕ) (zxid : ℤ) (w w' : World) (x : Conn) (frame : List ℕ) (after left : List (List ℕ)) → zxid ≡ zxid_at w.store → Takes c w x frame after w' left → IsServing c zxid left w'
serving-next c zxid w w' x frame after left same t =
    let stays = handed-connection c _ _ w' _ t.handed in
    let at = stays.0 in
    record {
      conn = at.conn;
      found = at.found;
      served = at.served;
      none = λ closed. t.rest ∙ ap (λ (o : Option Conn). if is_open_conn o then after else []) at.found ∙ ap (λ (b : Bool). if not b then after else []) closed;
      zxid_is = same ∙ sym stays.1;
    }

pub arrives-next : (c : ℕ) (w mid w' : World) (x : Conn) (frame : List ℕ) (after left : List (List ℕ)) → conn_at c w ≡ Some x → Takes c w x frame after mid left → FramesArrive c mid left w' → FramesArrive c w (frame ∷ after) w'
arrives-next c w mid w' x frame after left there t arrives = (x, mid, there, t.handed, go (is_open_conn (conn_at c mid)) t.rest)
  where
    go : (b : Bool) → left ≡ (if b then after else []) → MatchBool b (FramesArrive c mid after w') (w' ≡ mid)
    go true e = subst (λ (fs : List (List ℕ)). FramesArrive c mid fs w') e arrives
    go false e = subst (λ (fs : List (List ℕ)). FramesArrive c mid fs w') e arrives

-- a frame comes to an open connection alone
pub serving-open : (c : ℕ) (zxid : ℤ) (frame : List ℕ) (more : List (List ℕ)) (w : World) → IsServing c zxid (frame ∷ more) w → (x : Conn) × (core : Core) × (conn_at c w ≡ Some x) × (x.actor ≡ Connection core)
serving-open c zxid frame more w s = go s.conn.actor refl s.served s.none
  where
    go : (a : Actor) → s.conn.actor ≡ a → is_reaper a ≡ false → (is_closed_actor a ≡ true → frame ∷ more ≡ []) → (x : Conn) × (core : Core) × (conn_at c w ≡ Some x) × (x.actor ≡ Connection core)
    go (Connection core) e served none = (s.conn, core, s.found, e)
    go (Reaper reap) e served none = absurd (cc)
    go Closed e served none = absurd (let f = none refl in cc)

pub serving-first : (c : ℕ) (zxid : ℤ) (frames : List (List ℕ)) (w : World) (x : Conn) (core : Core) → conn_at c w ≡ Some x → x.actor ≡ Connection core → zxid ≡ zxid_at w.store → IsServing c zxid frames w
serving-first c zxid frames w x core there is same = record {
  conn = x;
  found = there;
  served = ap is_reaper is;
  none = λ closed. absurd (let f : false ≡ true = sym (ap is_closed_actor is) ∙ closed in cc);
  zxid_is = same;
}

-- ---- all frames of a loop

abbrev pub AreShort : List (List ℕ) → Type 0
AreShort frames = All (λ (f : List ℕ). length f ≤ max_frame) frames

-- these frames came to a world, and those that are left come to the world that they led to
pub record AreComing (c : ℕ) (zxid : ℤ) (start : World) (frames : List (List ℕ)) (now : World) (left : List (List ℕ)) : Type 0 where
  pub short : AreShort left
  pub go : IsServing c zxid frames start → IsServing c zxid left now × ((w' : World) → FramesArrive c now left w' → FramesArrive c start frames w')

pub coming-first : (c : ℕ) (zxid : ℤ) (w : World) (frames : List (List ℕ)) → AreShort frames → AreComing c zxid w frames w frames
coming-first c zxid w frames short = record { short = short; go = λ s. (s, λ w' arrives. arrives) }

short-left : (frames left : List (List ℕ)) → AreShort frames → IsLeft frames left → AreShort left
short-left frames left short (inl same) = subst AreShort (sym same) short
short-left frames left short (inr none) = subst AreShort (sym none) (All-nil (λ (f : List ℕ). length f ≤ max_frame))

pub coming-next : (c : ℕ) (zxid : ℤ) (start now next : World) (frames : List (List ℕ)) (frame : List ℕ) (after left : List (List ℕ)) → AreComing c zxid start frames now (frame ∷ after) → IsLeft after left
    → ((x : Conn) (core : Core) → conn_at c now ≡ Some x → x.actor ≡ Connection core → zxid ≡ zxid_at now.store → Takes c now x frame after next left) → AreComing c zxid start frames next left
coming-next c zxid start now next frames frame after left coming is_left takes = record {
  short = short-left after left (All-tail (λ (f : List ℕ). length f ≤ max_frame) frame after coming.short) is_left;
  go = λ s.
      let so_far = coming.go s in
      let open_one = serving-open c zxid frame after now so_far.0 in
      let t = takes open_one.0 open_one.1 open_one.2 open_one.3 so_far.0.zxid_is in
      (serving-next c zxid now next open_one.0 frame after left so_far.0.zxid_is t, λ w' arrives. so_far.1 w' (arrives-next c now next w' open_one.0 frame after left open_one.2 t arrives));
}

-- fewer are left each time
pub fewer : (all after left : List (List ℕ)) (frame : List ℕ) → all ≡ frame ∷ after → IsLeft after left → length left < length all
fewer all after left frame is (inl same) = omega (arith, ap length is, ap length same)
fewer all after left frame is (inr none) = omega (arith, ap length is, ap length none)

pub coming-end : (c : ℕ) (zxid : ℤ) (start now : World) (frames : List (List ℕ)) → AreComing c zxid start frames now [] → IsServing c zxid frames start → FramesArrive c start frames now
coming-end c zxid start now frames coming s = (coming.go s).1 now refl

-- ---- all that came at once

-- the test that there is an open connection, of what was looked up
abbrev reaper_of : Option Conn → Bool
reaper_of o = elim o [ None ↦ false | Some x ↦ is_reaper x.actor ]

abbrev fault_of : Option Conn → Bool → Option Why
fault_of o reaper = elim o [ None ↦ Some why.NoSuchConnection | Some x ↦ if_fails (is_closed_actor x.actor) why.ConnectionClosed (if_fails reaper why.NotAConnection None) ]

possible-of : (c : ℕ) (w : World) (o : Option Conn) → conn_at c w ≡ o → connection_fault c w None ≡ None → fault_of o (reaper_of o) ≡ None
possible-of c w o there possible = subst (λ (p : Option Conn). fault_of p (reaper_of p) ≡ None) there possible

-- where the tests of a line that brings bytes are passed, there is one of its number
pub conn-there : (c : ℕ) (w : World) → connection_fault c w None ≡ None → (x : Conn) × (conn_at c w ≡ Some x)
conn-there c w possible = go (conn_at c w) refl (possible-of c w (conn_at c w) refl possible)
  where
    go : (o : Option Conn) → conn_at c w ≡ o → fault_of o (reaper_of o) ≡ None → (x : Conn) × (conn_at c w ≡ Some x)
    go None e p = absurd (some_none p)
    go (Some x) e p = (x, e)

pub connection-there : (c : ℕ) (w : World) (x : Conn) → connection_fault c w None ≡ None → conn_at c w ≡ Some x → (core : Core) × (x.actor ≡ Connection core)
connection-there c w x possible there = go x.actor refl (possible-of c w (Some x) there possible)
  where
    go : (a : Actor) → x.actor ≡ a → if_fails (is_closed_actor a) why.ConnectionClosed (if_fails (is_reaper a) why.NotAConnection None) ≡ None → (core : Core) × (x.actor ≡ Connection core)
    go (Connection core) e p = (core, e)
    go (Reaper reap) e p = absurd (some_none p)
    go Closed e p = absurd (some_none p)

pub all-arrive : (c : ℕ) (zxid : ℤ) (w kept mid w' : World) (x : Conn) (bytes : List ℕ) (frames : List (List ℕ)) (bad : Option ℤ) (stream : Stream)
    → connection_fault c w None ≡ None → conn_at c w ≡ Some x → CutsFrames x.stream bytes frames bad stream → zxid ≡ zxid_at w.store → kept ≡ with_conn w c (record x { stream = stream })
    → (IsServing c zxid frames kept → FramesArrive c kept frames mid) → (IsConnectionAt c mid → EndsBadly c mid stream.place bad w') → Arrives c w bytes w'
all-arrive c zxid w kept mid w' x bytes frames bad stream possible there cuts same is come ends =
    let y : Conn = record x { stream = stream } in
    let core = connection-there c w x possible there in
    let at : conn_at c kept ≡ Some y = ap (conn_at c) is ∙ conn-inserted c w y in
    let arrives = come (serving-first c zxid frames kept y core.0 at core.1 (same ∙ sym (ap (λ (v : World). zxid_at v.store) is))) in
    let served : IsConnectionAt c kept = record { conn = y; found = at; served = ap is_reaper core.1 } in
    record {
      conn = x;
      found = there;
      frames = frames;
      bad = bad;
      stream = stream;
      cuts = cuts;
      mid = mid;
      arrive = subst (λ (v : World). FramesArrive c v frames mid) is arrives;
      ends = ends (arrived-connection frames c kept mid served arrives);
    }

-- ---- what a step by a frame takes

pub fit-flying : (core : Core) (flight : Option Flight) → IsFlyingOf core flight → IsFitFlight flight
fit-flying core None h = tt
fit-flying core (Some (Out x)) h = h.fit
fit-flying core (Some (Carried a)) h = tt
fit-flying core (Some Denied) h = tt

-- what is left of it after the step
pub left-after : (c : ℕ) (w w' : World) (x : Conn) (next : Core) (o : StepOutcome) (left after : List (List ℕ)) → left ≡ (if is_shut next.stage then [] else after) → w' ≡ leaves c w x (after_step next) o
    → left ≡ (if is_open_conn (conn_at c w') then after else [])
left-after c w w' x next o left after is result =
    is ∙ go (is_shut next.stage) ∙ sym (ap (λ (p : Option Conn). if is_open_conn p then after else []) (ap (conn_at c) result ∙ conn-left c w x (after_step next) o))
  where
    go : (b : Bool) → (if b then [] else after) ≡ (if not (is_closed_actor (if b then Closed else Connection next)) then after else [])
    go true = refl
    go false = refl

pub stepped-frame : (a : Arrival) (w w' : World) (seat : Seat) (core next : Core) (flight : Option Flight) (bytes given : List ℕ) (after : List (List ℕ)) (now : ℕ) (out : List Action) → now ≡ w.clock → given ≡ bytes
    → Steps core (input.Frame bytes) now next out → w' ≡ acted a (shown a w seat given) (left_next seat) next after flight out → StepsByFrame a w seat core flight bytes after w'
stepped-frame a w w' seat core next flight bytes given after now out at same steps result = record {
  next = next;
  out = out;
  stepped = subst (λ (n : ℕ). Steps core (input.Frame bytes) n next out) at steps;
  result = result ∙ ap (λ (b : List ℕ). acted a (shown a w seat b) (left_next seat) next after flight out) same;
}

pub acted-on : (a : Arrival) (w mid w' : World) (seat next : Seat) (core : Core) (flight : Option Flight) (bytes : List ℕ) (after : List (List ℕ)) (out : List Action) (index : ℕ) → index ≡ seat.frames
    → mid ≡ record w { lines = w.lines ++ FrameLine a.connection index a.zxid bytes ∷ [] } → left next ≡ left_next seat
    → w' ≡ acted a mid (left next) core after flight out → w' ≡ acted a (shown a w seat bytes) (left_next seat) core after flight out
acted-on a w mid w' seat next core flight bytes after out index at is same result =
    result
    ∙ ap (λ (v : World). acted a v (left next) core after flight out) (is ∙ ap (λ (i : ℕ). record w { lines = w.lines ++ FrameLine a.connection i a.zxid bytes ∷ [] }) at)
    ∙ ap (λ (x : Conn). acted a (shown a w seat bytes) x core after flight out) same

pub on-ok-both : {T E P Q R : Type 0} (r : Result T E) → OnOk r P → OnOk r Q → (P → Q → R) → OnOk r R
on-ok-both (Ok x) p q f = f p q
on-ok-both (Err e) p q f = tt

pub is-left : (b : Bool) (old new : List (List ℕ)) → new ≡ (if b then old else []) → IsLeft old new
is-left true old new e = inl e
is-left false old new e = inr e

-- one that was held apart takes a frame
pub takes-apart : (a : Arrival) (w apart w' : World) (x y : Conn) (seat : Seat) (role : Actor) (core : Core) (flight : Option Flight) (bytes : List ℕ) (after left : List (List ℕ)) → conn_at a.connection w ≡ Some x → conn_at a.connection w ≡ Some y
    → seated seat role flight ≡ y → role ≡ Connection core → apart ≡ without a.connection w → a.zxid ≡ zxid_at w.store
    → left ≡ (if is_open_conn (conn_at a.connection w') then after else [])
    → StepsByFrame a apart seat core flight bytes after w' → Takes a.connection w x bytes after w' left
takes-apart a w apart w' x y seat role core flight bytes after left there taken is serves at same rest s =
    let one : y ≡ x = some_is (sym taken ∙ there) in
    let sits : seated seat (Connection core) flight ≡ x = ap (λ (r : Actor). seated seat r flight) (sym serves) ∙ is ∙ one in
    record {
      handed = handed-frame a w w' x core seat flight bytes after sits same (subst (λ (v : World). StepsByFrame a v seat core flight bytes after w') at s);
      rest = rest;
    }
