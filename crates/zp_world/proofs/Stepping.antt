-- A connection that is held apart from its world takes a step.
use Rattle.std.proofs.Common.{◌≡◌, ℕ, List, [], ◌∷◌, ◌++◌, sym, ap, ◌∙◌, subst, false, inl, inr}
use Rattle.std.specs.Prelude.{Option, Some}
use Rattle.std.specs.FinMap.{remove}
use Rattle.zk_service.specs.declared.cause.Ended.{Ended}
use Rattle.zk_transcript.specs.declared.transcript.TranscriptLine.{TranscriptLine}
use Rattle.zk_transcript.specs.declared.transcript.TranscriptLine.TheVariants.{Close as CloseLine}
use Rattle.zp_script.specs.declared.flight.Flight.{Flight}
use Rattle.zp_script.specs.Handing.{Handed}
use Rattle.zp_script.specs.Kinds.{kind_asked}
use Rattle.zp_script.specs.StepOutcomes.{StepOutcome, acts_all, ends, leaves, left_by, quiet}
use Rattle.zp_script.specs.Worlds.{Actor, Conn, Conns, Connection, Closed, World, after_step, conn_at, with_conn}
use Rattle.zp_step.specs.Stages.{Core, is_shut}
use Rattle.zp_step.specs.Steps.{Steps}
use Rattle.zp_step.specs.declared.action.Action.{Action}
use Rattle.zp_step.specs.declared.input.Input.{Input}
use Rattle.zp_world.specs.Doing.{Stepped, left, seated, without}
use Rattle.zp_world.specs.Flying.{LeavesFree}
use Rattle.zp_world.specs.Leaving.{Leaves}
use Rattle.zp_world.specs.declared.activity.Seat.{Seat}
use Rattle.zp_world.proofs.Apart.{leaves-without}
use Rattle.zp_world.proofs.Standing.{leaves-end, leaves-none}

pub leaves-free : (old new : Core) (x : Input) (now : ℕ) (out : List Action) (flight : Option Flight) → is_shut old.stage ≡ false → LeavesFree flight x → Steps old x now new out → Leaves flight new out
leaves-free old new x now out flight live (inl none) steps = subst (λ (f : Option Flight). Leaves f new out) (sym none) (leaves-none old new x now out live steps)
leaves-free old new x now out flight live (inr end) steps = leaves-end old new x end.0 now out flight live end.1 steps

-- who was held apart is in the world again
pub leaves-seated : (c : ℕ) (w : World) (x : Conn) (seat : Seat) (actor : Actor) (flight : Option Flight) (a : Actor) (o : StepOutcome) → x ≡ seated seat actor flight
    → leaves c (without c w) (left seat) a o ≡ leaves c w x a o
leaves-seated c w x seat actor flight a o is = leaves-without c w (left seat) a o ∙ ap (λ (y : Conn). leaves c w y a o) (sym is)

pub handed-apart : (c : ℕ) (after : List TranscriptLine) (w : World) (x : Conn) (seat : Seat) (actor : Actor) (core : Core) (flight : Option Flight) (input : Input) (w' : World)
    → conn_at c w ≡ Some x → x ≡ seated seat actor flight → actor ≡ Connection core → Stepped c after (without c w) (left seat) core flight input w' → Handed c after w input w'
handed-apart c after w x seat actor core flight input w' there is serves s =
    let kept : flight ≡ x.flight = sym (ap (λ (y : Conn). y.flight) is) in
    record {
      conn = x;
      core = core;
      found = there;
      serving = ap (λ (y : Conn). y.actor) is ∙ serves;
      next = s.next;
      out = s.out;
      stepped = s.stepped;
      result = s.result ∙ leaves-seated c w x seat actor flight (after_step s.next) (acts_all c (kind_asked c (Connection s.next)) after flight s.out) is
          ∙ ap (λ (f : Option Flight). leaves c w x (after_step s.next) (acts_all c (kind_asked c (Connection s.next)) after f s.out)) kept;
    }

-- its end was shown, and nothing is done under its number any more
pub ends-apart : (c : ℕ) (w mid : World) (x : Conn) (seat : Seat) (actor : Actor) (flight : Option Flight) (end : Ended) → x ≡ seated seat actor flight
    → mid ≡ record (without c w) { lines = w.lines ++ CloseLine c end ∷ []; strays = w.strays ++ left_by flight } → with_conn mid c (left seat) ≡ leaves c w x Closed (ends c [] end (quiet x.flight))
ends-apart c w mid x seat actor flight end is shown =
    ap (λ (v : World). with_conn v c (left seat)) shown ∙ leaves-seated c w x seat actor flight Closed (ends c [] end (quiet flight)) is
    ∙ ap (λ (f : Option Flight). leaves c w x Closed (ends c [] end (quiet f))) (sym (ap (λ (y : Conn). y.flight) is))

-- a world that was opened, and of which a number was taken out
pub opened-apart : (c : ℕ) (w old : World) (conns : Conns) → old ≡ w → conns ≡ remove old.conns c → record old { conns = conns } ≡ without c w
opened-apart c w old conns is taken = ap (λ (m : Conns). record old { conns = m }) taken ∙ ap (without c) is

pub stepped-by : (c : ℕ) (w old : World) (x : Conn) (core next : Core) (flight : Option Flight) (input : Input) (now : ℕ) (out : List Action) (lines : List TranscriptLine) (w' : World)
    → old ≡ w → now ≡ w.clock → lines ≡ [] → Steps core input now next out → w' ≡ leaves c old x (after_step next) (acts_all c (kind_asked c (Connection next)) lines flight out)
    → Stepped c [] w x core flight input w'
stepped-by c w old x core next flight input now out lines w' is at none steps done = record {
  next = next;
  out = out;
  stepped = subst (λ (n : ℕ). Steps core input n next out) at steps;
  result = done ∙ ap (λ (v : World). leaves c v x (after_step next) (acts_all c (kind_asked c (Connection next)) lines flight out)) is
      ∙ ap (λ (ls : List TranscriptLine). leaves c w x (after_step next) (acts_all c (kind_asked c (Connection next)) ls flight out)) none;
}
