-- What is true of every core.
use Rattle.std.specs.Prelude.{◌≡◌, ℕ, ℤ, pos, ◌≤◌, ◌≤ℤ◌, true, List, length, All, MatchBool}
use Rattle.zk_jute.specs.Records.{contents_of}
use Rattle.zk_jute.specs.Requests.{read_request}
use Rattle.zk_model.specs.declared.request.Request.{Request}
use Rattle.zk_model.specs.Limits.{max_frame}
use Rattle.zk_service.specs.Answers.{has_header}
use Rattle.zn_view.specs.Seen.{IsCountNumber}
use Rattle.zs_session.specs.Connecting.{IsConnectHeld as IsHeldConnect}
use Rattle.zp_step.specs.Stages.{Core, Stage, Unconnected, Connecting, Ready, KeepingAlive, Checking, Reading, Committing, Waiting, Shut, is_shut}

-- a frame that may wait: within the limit, and with a header
pub record IsFrame (bytes : List ℕ) : Type 0 where
  pub short : length bytes ≤ max_frame
  pub headed : has_header (read_request bytes) ≡ true

-- a request that came in such a frame: the data that it carries, and that each of its parts carries, fits a frame
pub record IsRequest (r : Request) : Type 0 where
  pub short : All (λ content. length content ≤ max_frame) (contents_of r)

-- a session has a number from 1 on
abbrev pub IsReal : ℤ → Type 0
IsReal session = pos 1 ≤ℤ session

-- what a stage holds, in a connection of this session
abbrev pub IsHeldIn : ℤ → Stage → Type 0
IsHeldIn session (Unconnected fresh) = IsReal fresh.id
IsHeldIn session (Connecting connect) = IsHeldConnect connect
IsHeldIn session Ready = IsReal session
IsHeldIn session (KeepingAlive frame) = IsReal session × IsFrame frame
IsHeldIn session (Checking frame) = IsReal session × IsFrame frame
IsHeldIn session (Reading xid r v ws) = IsReal session × IsRequest r × IsCountNumber v.revision
IsHeldIn session (Committing xid r v p time) = IsReal session × IsRequest r
IsHeldIn session (Waiting p) = IsReal session
IsHeldIn session Shut = Unit {0}

pub record IsServing (c : Core) : Type 0 where
  pub frames : All IsFrame c.waiting
  pub stage : IsHeldIn c.who.session c.stage

-- of a core that is shut nothing is required
abbrev pub IsHeld : Core → Type 0
IsHeld c = MatchBool (is_shut c.stage) (Unit {0}) (IsServing c)
