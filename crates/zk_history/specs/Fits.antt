-- When the numbers of a line are within their fields, and there is a number for one more update.
use Rattle.std.specs.Prelude.{◌≡◌, ◌≤◌, ◌<◌, ℕ, ℤ, ⊤, List, ◌∷◌, ◌++◌, Option, Some}
use Rattle.zk_model.specs.declared.request.Part.{Part}
use Rattle.zk_model.specs.declared.request.Part.TheVariants as part
use Rattle.zk_model.specs.declared.request.Request.{Request}
use Rattle.zk_model.specs.declared.request.Request.TheVariants as req
use Rattle.zk_service.specs.declared.update.UpdateKind.{UpdateKind}
use Rattle.zk_service.specs.declared.update.UpdateKind.TheVariants.{Begin, Asked}
use Rattle.zk_transcript.specs.declared.transcript.TranscriptLine.{TranscriptLine}
use Rattle.zk_transcript.specs.declared.transcript.TranscriptLine.TheVariants.{Update}
use Rattle.zk_service.specs.States.{Session, State, attached_session, limit_of}
use Rattle.zk_transcript.specs.History.{after, request}
use Rattle.zk_model.specs.Multi.{data_len}
use Rattle.zk_model.specs.Znodes.{Tree}
use Rattle.zk_machine.specs.Faults.{IsWithin, StaysWithin}
use Rattle.zk_model.specs.Limits.{max_frame}

-- the numbers of the tree are within their fields, and the part's data fit a frame
abbrev pub PartFits : Tree → Part → Type 0
PartFits t p = IsWithin t × (data_len p ≤ max_frame)

abbrev pub RequestFits : Tree → ℕ → ℤ → Request → ℤ → ℕ → Type 0
RequestFits t limit session (req.Create p d a f) zxid now = PartFits t (part.Create p d a f)
RequestFits t limit session (req.Create2 p d a f) zxid now = PartFits t (part.Create p d a f)
RequestFits t limit session (req.Delete p v) zxid now = PartFits t (part.Delete p v)
RequestFits t limit session (req.SetData p d v) zxid now = PartFits t (part.SetData p d v)
RequestFits t limit session (req.Multi parts) zxid now = StaysWithin t limit session parts zxid now
RequestFits t limit session _ zxid now = ⊤

-- the time of an update is below 2^63 milliseconds
abbrev pub IsTime : ℕ → Type 0
IsTime now = now < 9223372036854775808

-- one more update can be counted in 64 bits
abbrev pub IsCountable : State → Type 0
IsCountable s = s.updates < 18446744073709551615

abbrev pub AskedFits : Tree → Option (ℤ × Session) → Option Request → ℤ → ℕ → Type 0
AskedFits t (Some e) (Some r) zxid now = RequestFits t (limit_of e.1) e.0 r zxid now
AskedFits t _ _ zxid now = ⊤

abbrev pub UpdateFits : List TranscriptLine → State → ℤ → UpdateKind → Type 0
UpdateFits before s zxid (Begin now) = IsTime now
UpdateFits before s zxid (Asked c i now) = IsTime now × AskedFits s.tree (attached_session c s) (request c i before) zxid now
UpdateFits before s zxid _ = ⊤

-- the numbers of a line fit, where s is the state before it and `before` are the lines before it
abbrev pub Fits : List TranscriptLine → State → TranscriptLine → Type 0
Fits before s (Update u) = UpdateFits before s u.zxid u.kind
Fits before s _ = ⊤

-- the numbers of each line of a transcript fit
abbrev pub AllFit : List TranscriptLine → Type 0
AllFit lines = (before : List TranscriptLine) (l : TranscriptLine) (rest : List TranscriptLine) → lines ≡ before ++ l ∷ rest → Fits before (after before) l
