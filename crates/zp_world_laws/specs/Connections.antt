-- What is known of a connection to which a session is attached, and what holds of a world with all its connections.
use Rattle.std.specs.Prelude.{◌≡◌, ℕ, pos, ◌≤◌, ◌≤ℤ◌, Bool, true, false, List, ◌∷◌, length, Option, Some, None}
use Rattle.ev_types.specs.Store.{Store}
use Rattle.ev_types.specs.declared.ask.Ask.{Ask}
use Rattle.zk_model.specs.Limits.{max_frame, max_long}
use Rattle.zk_transcript.specs.History.{frame}
use Rattle.zk_transcript.specs.Legal.{attach_of}
use Rattle.zk_transcript.specs.Walks.{Due, Walker, packets}
use Rattle.zk_transcript.specs.declared.transcript.TranscriptLine.{TranscriptLine}
use Rattle.zp_step.specs.Stages.{Core, asked_of, is_shut, is_served}
use Rattle.zp_laws.specs.Inputs.{IsTrueAnswer}
use Rattle.zp_laws.specs.Standing.{IsFreshLook, Stands, is_ahead}
use Rattle.zp_script.specs.declared.flight.Asking.{Asking}
use Rattle.zp_script.specs.declared.flight.Flight.{Flight}
use Rattle.zp_script.specs.declared.flight.Flight.TheVariants.{Out, Carried, Denied}
use Rattle.zp_step.specs.Kinds.{kind_in_stage}
use Rattle.zp_script.specs.Worlds.{Conn, Connection, World, conn_at, is_closed_actor}
use Rattle.zp_world_laws.specs.Bounds.{attachment}
use Rattle.zp_world_laws.specs.Holding.{Holds, Left, Talks, air, asker_in}

-- ---- what is out, or was carried out and waits to be delivered

-- it is what the stage asks, and neither the request at work nor a later one has a line
pub record IsOut (lines : List TranscriptLine) (c : ℕ) (core : Core) (x : Asking) : Type 0 where
  pub asked : asked_of core.who core.stage ≡ Some x.ask
  pub kind : x.kind ≡ kind_in_stage c core core.stage
  pub ahead : is_ahead lines c core.next ≡ true

abbrev pub IsFlying : Store → List TranscriptLine → ℕ → Core → Walker → ℕ → Option Flight → Type 0
IsFlying store lines c core walker looked None = asked_of core.who core.stage ≡ None
IsFlying store lines c core walker looked (Some (Out x)) = IsOut lines c core x
IsFlying store lines c core walker looked (Some (Carried a)) = IsTrueAnswer store lines c core walker looked a
IsFlying store lines c core walker looked (Some Denied) = (a : Ask) × (asked_of core.who core.stage ≡ Some a)

abbrev pub is_carried : Option Flight → Bool
is_carried (Some (Carried a)) = true
is_carried _ = false

-- ---- an open connection with a session

pub record IsServingConn (store : Store) (lines : List TranscriptLine) (c : ℕ) (core : Core) (flight : Option Flight) : Type 0 where
  pub place : ℕ
  pub attached : attach_of c lines ≡ Some (place, attachment core.who)
  pub least : pos 1 ≤ℤ core.who.session
  pub most : core.who.session ≤ℤ max_long
  pub rises : pos 1 ≤ℤ core.who.mine
  -- the conversation so far, and where the core stands in it
  pub walker : Walker
  pub talks : Talks lines c place (attachment core.who) walker
  pub looked : ℕ
  pub stands : Stands store lines c core walker looked
  pub flies : IsFlying store lines c core walker looked flight
  -- what was seen for the frame at work was seen after its line
  pub fresh : IsFreshLook lines c (is_carried flight) core looked
  -- it was sent the welcome
  pub first : Due
  pub packets_were : List Due
  pub welcomed : packets c lines ≡ first ∷ packets_were

-- ---- all of them

abbrev pub IsClosedAt : World → ℕ → Type 0
IsClosedAt w c = (y : Conn) × (conn_at c w ≡ Some y) × (is_closed_actor y.actor ≡ true)

abbrev pub HasSmallFrames : List TranscriptLine → ℕ → Type 0
HasSmallFrames lines c = (i : ℕ) (bytes : List ℕ) → frame c i lines ≡ Some bytes → length bytes ≤ max_frame

pub record Whole (w : World) : Type 0 where
  pub holds : Holds w
  pub serving : (c : ℕ) (x : Conn) (core : Core) → conn_at c w ≡ Some x → x.actor ≡ Connection core → is_served core.stage ≡ true → IsServingConn w.store w.lines c core x.flight
  -- a connection that is shut keeps no core
  pub unshut : (c : ℕ) (x : Conn) (core : Core) → conn_at c w ≡ Some x → x.actor ≡ Connection core → is_shut core.stage ≡ false
  -- an update that is out was asked by the connection for which it is made; where it is a stray, that connection has closed
  pub own : (c d : ℕ) (x : Conn) (a : Asking) → conn_at c w ≡ Some x → x.flight ≡ Some (Out a) → asker_in a ≡ Some d → d ≡ c
  pub left : (k c : ℕ) (a : Asking) → air w (Left k) ≡ Some a → asker_in a ≡ Some c → IsClosedAt w c
  pub small : (c : ℕ) → HasSmallFrames w.lines c
