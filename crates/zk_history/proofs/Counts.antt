-- A line counts as at most one update.
use Rattle.std.proofs.Common.{ℤ, ◌+◌, ◌≤◌, Option, Some, None, List, arith}
use Rattle.zk_transcript.specs.declared.transcript.TranscriptLine.{TranscriptLine}
use Rattle.zk_transcript.specs.declared.transcript.TranscriptLine.TheVariants.{Update, Open, Frame, Send, Lapse, Close}
use Rattle.zk_service.specs.declared.update.UpdateKind.{UpdateKind}
use Rattle.zk_service.specs.declared.update.UpdateKind.TheVariants.{Begin, Session as NewSession, Attach, Asked, Closed, Reaped}
use Rattle.zk_service.specs.States.{State, Session, Commit, committed, lapsed_in, session_at}
use Rattle.zk_transcript.specs.History.{asked_commit, change, updated}

committed-updates : (s : State) (zxid : ℤ) (o : Option Commit) → (committed s zxid o).updates ≤ s.updates + 1
committed-updates s zxid None = omega arith
committed-updates s zxid (Some x) = omega arith

updated-updates : (before : List TranscriptLine) (s : State) (zxid : ℤ) (kind : UpdateKind) → (updated before s zxid kind).updates ≤ s.updates + 1
unfolding updated
updated-updates before s zxid (Begin now) = omega arith
updated-updates before s zxid (NewSession id c) = omega arith
updated-updates before s zxid (Attach id c) = omega arith
updated-updates before s zxid (Asked c i now) = committed-updates s zxid (asked_commit before s zxid c i now)
updated-updates before s zxid (Closed id c i) = omega arith
updated-updates before s zxid (Reaped id) = omega arith

lapsed-updates : (s : State) (id : ℤ) (o : Option Session) → (lapsed_in s id o).updates ≤ s.updates + 1
lapsed-updates s id None = omega arith
lapsed-updates s id (Some x) = omega arith

pub change-updates : (before : List TranscriptLine) (s : State) (l : TranscriptLine) → (change before s l).updates ≤ s.updates + 1
change-updates before s (Update u) = updated-updates before s u.zxid u.kind
change-updates before s (Open c p id passwd layout) = omega arith
change-updates before s (Frame c i zxid bytes) = omega arith
change-updates before s (Send c bytes) = omega arith
change-updates before s (Lapse revision id) = lapsed-updates s id (session_at id s)
change-updates before s (Close c end) = omega arith
