-- What a connection keeps between two steps: how far it has come, and what its client was told.
use Rattle.std.specs.Prelude.{ℕ, ℤ, ◌+◌, length, pos, min, Bool, true, false, List, [], Option, Some, None, if◌then◌else◌}
use Rattle.ev_types.specs.declared.ask.Ask.{Ask}
use Rattle.ev_types.specs.declared.ask.Ask.TheVariants as ask
use Rattle.zk_model.specs.Watches.{Watches, Seen, no_watches, is_unarmed}
use Rattle.zk_model.specs.declared.reply.Reply.{Reply}
use Rattle.zk_model.specs.declared.request.Request.{Request}
use Rattle.zk_service.specs.declared.cause.Cause.{Cause}
use Rattle.zx_base.specs.Maps.{Bytes}
use Rattle.zn_view.specs.Asks.{reading, transaction}
use Rattle.zn_view.specs.Seen.{View}
use Rattle.zn_view.specs.Views.{armed_by}
use Rattle.zn_view.specs.declared.plan.Arm.{Arm}
use Rattle.zn_view.specs.declared.plan.Plan.{Plan}
use Rattle.zn_view.specs.declared.plan.Who.{Who}
use Rattle.zn_view.specs.declared.want.Want.{Want}
use Rattle.zs_session.specs.Connecting.{asked_in_phase}
use Rattle.zs_session.specs.Sessions.{attach_wants}
use Rattle.zs_session.specs.declared.connect.Connect.{Connect}
use Rattle.zk_service.specs.declared.fresh.Fresh.{Fresh}
use Rattle.zw_watch.specs.SeenPaths.{see_paths, unseen}
use Rattle.zw_watch.specs.declared.seen_path.SeenPath.{SeenPath}
use Rattle.zp_step.specs.declared.wants.Wants.{Wants}
use Rattle.zp_step.specs.declared.wants.Wants.TheVariants as wants

-- ---- a reply that waits for its entries

-- what a reply does to the watches
pub data WatchChange : Type 0 where
  -- the watch that a read asks for, if any
  AddsWatch : (arm : Option Arm) → WatchChange
  -- a setWatches arms its watches by what was seen at their paths, or tells at once that they fired; `since` is the zxid that the
  -- client has seen
  SetsWatches : (since : ℤ) (seen : List SeenPath) → WatchChange

-- the notices that stand before a reply, and what it leaves armed, where these watches were armed before it
abbrev pub seen_by : WatchChange → Watches → Seen
seen_by (AddsWatch arm) w = unseen (armed_by arm w)
seen_by (SetsWatches since xs) w = see_paths since (unseen w) xs

-- a reply that is ready, and is sent once it is due
pub record Pending : Type 0 where
  -- the number and the zxid of the last update in the state that it is computed at; its header has that zxid
  pub number : ℤ
  pub zxid : ℤ
  pub xid : ℤ
  pub answer : Reply
  pub change : WatchChange
  -- the cause for which the connection is closed after it, if any
  pub ends : Option Cause

-- ---- stages

pub data Stage : Type 0 where
  -- no frame has come yet; `fresh` is what a new session would be made with
  Unconnected : (fresh : Fresh) → Stage
  -- the connection is getting its session: an ask of its connect is out
  Connecting : (connect : Connect) → Stage
  -- the session is attached, no ask is out and no reply waits; between two steps no frame waits either
  Ready : Stage
  -- a frame was taken up, and before anything else a keepalive is out
  KeepingAlive : (frame : List ℕ) → Stage
  -- the keepalive found no seconds left: a look at the record of the session's life and at the head is out
  Checking : (frame : List ℕ) → Stage
  -- a request was taken up, and what it asked for is out, to be added to the view
  Reading : (xid : ℤ) (request : Request) (view : View) (asked : List Want) → Stage
  -- the transaction of a plan is out; the plan was made on this view, at this time (in milliseconds)
  Committing : (xid : ℤ) (request : Request) (view : View) (plan : Plan) (time : ℕ) → Stage
  -- a reply waits for the entries up to its number
  Waiting : (pending : Pending) → Stage
  -- the connection is closed
  Shut : Stage

-- views of paths that were used, the most recently used first
abbrev pub KeptViews : Type 0
KeptViews = List (Bytes × View)

pub record Core : Type 0 where
  pub stage : Stage
  -- the frames that were not taken up yet, the oldest first
  pub waiting : List (List ℕ)
  -- the number of bytes that all frames so far took in the client's stream, their lengths included
  pub taken : ℕ
  -- the zxid up to which the client has been told, and the number of that update
  pub zxid : ℤ
  pub cursor : ℤ
  pub watches : Watches
  -- the session; its timeout, and the time at which a grant or a keepalive was last asked for, both in milliseconds
  pub who : Who
  pub timeout : ℤ
  pub kept : ℕ
  -- the index of the next frame to answer; the connect is frame 0
  pub next : ℕ
  -- on which updates may be planned: at most 16, each path once
  pub views : KeptViews

-- before the first frame; there is no session yet
abbrev pub new_core : Fresh → Core
new_core fresh = record {
  stage = Unconnected fresh;
  waiting = [];
  taken = 0;
  zxid = pos 0;
  cursor = pos 0;
  watches = no_watches;
  who = record { session = pos 0; mine = pos 0 };
  timeout = pos 0;
  kept = 0;
  next = 1;
  views = [];
}

abbrev pub is_shut : Stage → Bool
is_shut Shut = true
is_shut _ = false

-- a count of 64 bits stays at its greatest value
abbrev pub max_count : ℕ
max_count = 18446744073709551615

abbrev pub counted_up : ℕ → ℕ
counted_up n = min n max_count

-- ---- what is out, and what is waited for

-- the ask that is out in a stage, of a connection with this session
abbrev pub asked_of : Who → Stage → Option Ask
asked_of who (Unconnected fresh) = None
asked_of who (Connecting connect) = asked_in_phase connect connect.phase
asked_of who Ready = None
asked_of who (KeepingAlive frame) = Some (ask.Alive who.session)
asked_of who (Checking frame) = Some (reading (pos 0) (attach_wants who.session))
asked_of who (Reading xid r v ws) = Some (reading v.revision ws)
asked_of who (Committing xid r v p time) = Some (transaction p)
asked_of who (Waiting p) = None
asked_of who Shut = None

-- While an ask is out its answer is waited for, and no entry. A reply waits for the next entry; a connection that is ready takes
-- one where something is armed.
abbrev pub wanted_in : Core → Stage → Wants
wanted_in c (Unconnected fresh) = wants.Frame
wanted_in c (Connecting connect) = wants.Answer
wanted_in c Ready = if is_unarmed c.watches then wants.Frame else wants.FrameOrEntry c.cursor
wanted_in c (KeepingAlive frame) = wants.Answer
wanted_in c (Checking frame) = wants.Answer
wanted_in c (Reading xid r v ws) = wants.Answer
wanted_in c (Committing xid r v p time) = wants.Answer
wanted_in c (Waiting p) = wants.Entry c.cursor
wanted_in c Shut = wants.Nothing

abbrev pub wants_of : Core → Wants
wants_of c = wanted_in c c.stage

-- ---- stages

-- attached, and not closed
abbrev pub is_served : Stage → Bool
is_served (Unconnected fresh) = false
is_served (Connecting connect) = false
is_served Shut = false
is_served _ = true

abbrev pub is_open : Stage → Bool
is_open Shut = false
is_open _ = true

-- ---- frames

-- the index of the first frame that waits: the next one to answer, or the one after it where that one was taken up; before the
-- connect has come, 0
abbrev pub waits_from : Stage → ℕ → ℕ
waits_from (Unconnected fresh) n = 0
waits_from (Connecting connect) n = n
waits_from Ready n = n
waits_from _ n = n + 1

-- the index of the next frame that comes
abbrev pub next_frame : Core → ℕ
next_frame c = waits_from c.stage c.next + length c.waiting
