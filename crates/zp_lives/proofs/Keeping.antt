-- A world of which all is accounted for stays so by a step of one connection, and by a whole run.
use Rattle.ev_types.specs.declared.answer.Answer.{Answer}
use Rattle.std.proofs.Common.{Bool, List, [], ap, false, refl, subst, sym, true, ℕ, ◌+◌, ◌<◌, ◌∙◌, ◌∷◌, ◌≡◌, ◌≤◌, length}
use Rattle.std.proofs.lemmas.List.Elements.{All-cons, All-nil}
use Rattle.std.specs.Arc.{arc_value}
use Rattle.std.specs.Prelude.{MatchBool, None, Option, Some}
use Rattle.zk_model.specs.Limits.{max_frame}
use Rattle.zk_service.specs.declared.cause.Cause.{Cause}
use Rattle.zk_service.specs.declared.cause.Cause.TheVariants as cause
use Rattle.zp_script.specs.Arriving.{FramesArrive, shown_frame}
use Rattle.zp_script.specs.Effects.{Delivers}
use Rattle.zp_script.specs.Faults.{flight_at}
use Rattle.zp_script.specs.Handing.{AnswerComes, AnswerComesTo, Handed, landed, landed_conn}
use Rattle.zp_script.specs.Kinds.{kind_asked}
use Rattle.zp_script.specs.Runs.{tick_of}
use Rattle.zp_script.specs.StepOutcomes.{acts_all}
use Rattle.zp_script.specs.Worlds.{Conn, Connection, World, after_step, conn_at, is_open_conn}
use Rattle.zp_script.specs.declared.flight.Flight.TheVariants.{Carried}
use Rattle.zp_lives.proofs.Events.{events-keep}
use Rattle.zp_lives.specs.Lives.{AccountedAreServed, HappensBeside, IsHanded, LivesAreAccounted, Takes, TakesBy, at_time}
use Rattle.zp_run.specs.Runs.{Step}
use Rattle.zp_step.specs.Laws.{end_by}
use Rattle.zp_step.specs.Stages.{counted_up, is_shut, max_count}
use Rattle.zp_step.specs.Steps.{MayTake}
use Rattle.zp_step.specs.declared.input.Input.TheVariants as input
use Rattle.zp_step.specs.declared.input.Input.{Input}
use Rattle.zp_world_laws.proofs.Accounts.{tick-accounted}
use Rattle.zp_world_laws.proofs.Arrivals.{acts-accounted, frames-accounted}
use Rattle.zp_world_laws.proofs.Closing.{but-of}
use Rattle.zp_world_laws.proofs.Giving.{whole-gives}
use Rattle.zp_world_laws.proofs.Lives.{answer-acts, entry-acts}
use Rattle.zp_world_laws.proofs.Numbers.{conn-here}
use Rattle.zp_world_laws.proofs.Rising.{Grown, delivers-grown, frames-grown, leaves-grown}
use Rattle.zp_world_laws.proofs.Running.{happens-accounted, runs-grown, within-before}
use Rattle.zp_world_laws.proofs.Stepping.{closes-acts}
use Rattle.zp_world_laws.specs.Accounting.{IsAccounted, IsWithinCounts}
use Rattle.zx_base.proofs.Options.{some_is}

-- ---- what is handed in, as a line of a script would

-- the frame alone arrives
pub frame-arrives : (c : ℕ) (w : World) (s : Step) (w' : World) (x : Conn) (bytes : List ℕ) → conn_at c w ≡ Some x → Handed c [] (at_time (shown_frame c w x bytes) s.time) (input.Frame bytes) w' → FramesArrive c (at_time w s.time) (bytes ∷ []) w'
frame-arrives c w s w' x bytes there hd = (x, w', there, hd, both (is_open_conn (conn_at c w')))
  where
    both : (b : Bool) → MatchBool b (w' ≡ w') (w' ≡ w')
    both true = refl
    both false = refl

landed-time : (w : World) (now : ℕ) (o : Option Conn) (c : ℕ) → landed_conn c (at_time w now) o ≡ at_time (landed_conn c w o) now
landed-time w now None c = refl
landed-time w now (Some x) c = refl

pub answer-delivered : (c : ℕ) (w : World) (now : ℕ) (w' : World) (a : Answer) → flight_at c w ≡ Some (Carried a) → Handed c [] (at_time (landed c w) now) (input.Answer a) w' → Delivers c (at_time w now) w' (flight_at c (at_time w now))
answer-delivered c w now w' a flight hd = subst (Delivers c (at_time w now) w') (sym flight) comes
  where
    at : World
    at = landed c (at_time w now)

    here : Handed c [] (landed c (at_time w now)) (input.Answer a) w'
    here = subst (λ (u : World). Handed c [] u (input.Answer a) w') (sym (landed-time w now (conn_at c w) c)) hd

    comes : AnswerComes c (landed c (at_time w now)) a w'
    comes = (here.conn, here.found, subst (AnswerComesTo c (landed c (at_time w now)) here.conn a w') (sym here.serving) here)

-- ---- counts do not fall

same-conns : (w v w' : World) → v.conns ≡ w.conns → Grown v w' → Grown w w'
same-conns w v w' e g = record { conns = λ c x there. g.conns c x (ap (λ m. conn_at c (record w { conns = m })) e ∙ there) }

handed-grown : (c : ℕ) (w : World) (i : Input) (w' : World) → Handed c [] w i w' → Grown w w'
handed-grown c w i w' hd = subst (Grown w) (sym hd.result) (leaves-grown w c hd.conn (after_step hd.next) (acts_all c (kind_asked c (Connection hd.next)) [] hd.conn.flight hd.out) hd.found)

takes-grown-by : (c : ℕ) (w : World) (s : Step) (w' : World) (i : Input) → s.input ≡ i → TakesBy c w s w' i → Grown w w'
takes-grown-by c w s w' (input.Frame bytes) e (x, there, h) =
    same-conns w (at_time w s.time) w' refl
    (frames-grown c (at_time w s.time) w' (bytes ∷ []) (frame-arrives c w s w' x bytes there (subst (λ (i : Input). Handed c [] (at_time (shown_frame c w x bytes) s.time) i w') e h.handed)))
takes-grown-by c w s w' (input.Answer a) e (flight, h) =
    same-conns w (at_time w s.time) w' refl
    (delivers-grown (at_time w s.time) w' c (flight_at c (at_time w s.time)) (answer-delivered c w s.time w' a flight (subst (λ (i : Input). Handed c [] (at_time (landed c w) s.time) i w') e h.handed)))
takes-grown-by c w s w' (input.Entry x) e (next, none, h) = same-conns w (at_time w s.time) w' refl (handed-grown c (at_time w s.time) s.input w' h.handed)
takes-grown-by c w s w' input.Failed e h = same-conns w (at_time w s.time) w' refl (handed-grown c (at_time w s.time) s.input w' h.handed)
takes-grown-by c w s w' (input.BadLength p n) e h = same-conns w (at_time w s.time) w' refl (handed-grown c (at_time w s.time) s.input w' h.handed)
takes-grown-by c w s w' (input.Lagged p n) e h = same-conns w (at_time w s.time) w' refl (handed-grown c (at_time w s.time) s.input w' h.handed)
takes-grown-by c w s w' input.FeedClosed e h = same-conns w (at_time w s.time) w' refl (handed-grown c (at_time w s.time) s.input w' h.handed)
takes-grown-by c w s w' (input.ClientEnd p) e h = same-conns w (at_time w s.time) w' refl (handed-grown c (at_time w s.time) s.input w' h.handed)

takes-grown : (c : ℕ) (w : World) (s : Step) (w' : World) → Takes c w s w' → Grown w w'
takes-grown c w s w' h = takes-grown-by c w s w' s.input refl h

-- ---- a step

-- an input that ends the connection in whatever stage
ended-accounted : (c : ℕ) (w : World) (s : Step) (w' : World) (why : Cause) → end_by s.input ≡ Some why → IsHanded c w s w' → IsAccounted w → IsAccounted w'
ended-accounted c w s w' why e h k =
    let now = tick-accounted w s.time k in
    acts-accounted (at_time w s.time) w' c now (closes-acts (at_time w s.time) w' c s.input why e h.handed (but-of (at_time w s.time) c now.whole))

-- a frame that may be handed in is small
frame-small : (c : ℕ) (w : World) (s : Step) (w' : World) (x : Conn) (bytes : List ℕ) → s.input ≡ input.Frame bytes → conn_at c w ≡ Some x → IsHanded c (shown_frame c w x bytes) s w' → IsAccounted w → length bytes ≤ max_frame
frame-small c w s w' x bytes e there h k = fits open_now
  where
    hd : Handed c [] (at_time (shown_frame c w x bytes) s.time) s.input w'
    hd = h.handed

    is : hd.conn.actor ≡ x.actor
    is = ap (λ (v : Conn). v.actor) (some_is (sym hd.found ∙ conn-here w c (record x { frames = counted_up (x.frames + 1) })))

    open_now : is_shut hd.core.stage ≡ false
    open_now = (k.whole).unshut c x hd.core there (sym is ∙ hd.serving)

    fits : MayTake hd.core (input.Frame bytes)
    fits = subst (MayTake hd.core) e h.may

pub takes-accounted : (c : ℕ) (w : World) (s : Step) (w' : World) (i : Input) → s.input ≡ i → TakesBy c w s w' i → ((y : Conn) → conn_at c w' ≡ Some y → y.frames < max_count) → IsAccounted w → IsAccounted w'
takes-accounted c w s w' (input.Frame bytes) e (x, there, h) count k =
    let v : World = at_time w s.time in
    let small = frame-small c w s w' x bytes e there h k in
    frames-accounted c v w' x (bytes ∷ []) there (All-cons (λ f. length f ≤ max_frame) bytes [] small (All-nil (λ f. length f ≤ max_frame))) count (tick-accounted w s.time k)
    (frame-arrives c w s w' x bytes there (subst (λ (i : Input). Handed c [] (at_time (shown_frame c w x bytes) s.time) i w') e h.handed))
takes-accounted c w s w' (input.Answer a) e (flight, h) count k =
    let v : World = at_time w s.time in
    let now = tick-accounted w s.time k in
    acts-accounted v w' c now (answer-acts v w' c (answer-delivered c w s.time w' a flight (subst (λ (i : Input). Handed c [] (at_time (landed c w) s.time) i w') e h.handed)) now)
takes-accounted c w s w' (input.Entry x) e (next, none, h) count k =
    let v : World = at_time w s.time in
    let now = tick-accounted w s.time k in
    let hd : Handed c [] v (input.Entry x) w' = subst (λ (i : Input). Handed c [] (at_time w s.time) i w') e h.handed in
    acts-accounted v w' c now (entry-acts v w' c (Some (arc_value x)) next (input.Entry x, refl, hd) none now)
takes-accounted c w s w' input.Failed e h count k = ended-accounted c w s w' cause.LinkFault (ap end_by e) h k
takes-accounted c w s w' (input.BadLength p n) e h count k = ended-accounted c w s w' (cause.BadLength p n) (ap end_by e) h k
takes-accounted c w s w' (input.Lagged p n) e h count k = ended-accounted c w s w' (cause.Lagged p n) (ap end_by e) h k
takes-accounted c w s w' input.FeedClosed e h count k = ended-accounted c w s w' cause.FeedClosed (ap end_by e) h k
takes-accounted c w s w' (input.ClientEnd p) e h count k = ended-accounted c w s w' (cause.ClientEnd p) (ap end_by e) h k

-- ---- a run

-- where counts are within their ranges afterwards, they were before
abbrev IfWithin : World → Type 0
IfWithin w = IsWithinCounts w → IsAccounted w

beside-keeps : (w w' : World) → HappensBeside w w' → IfWithin w → IfWithin w'
beside-keeps w w' (h, offers, happens) k within =
    let g = runs-grown w w' (h ∷ []) (tick_of w' ∷ []) (w', [], happens, refl, (refl, refl)) in
    happens-accounted w w' h offers within happens (k (within-before w w' g within))

takes-keeps : (c : ℕ) (w w' : World) (s : Step) → Takes c w s w' → IfWithin w → IfWithin w'
takes-keeps c w w' s h k within = takes-accounted c w s w' s.input refl h (λ y e. within.frames c y e) (k (within-before w w' (takes-grown c w s w' h) within))

pub lives-accounted : LivesAreAccounted
lives-accounted c w w' steps h within k = events-keep HappensBeside (Takes c) IfWithin beside-keeps (λ v u s. takes-keeps c v u s) w w' steps h (λ q. k) within

-- ---- what it gives

pub accounted-served : AccountedAreServed
accounted-served w c k = let h = whole-gives w k.whole in record { history = h; served = record { within = k.within c; walks = λ a e. h.walks c a.0 a.1 e } }
