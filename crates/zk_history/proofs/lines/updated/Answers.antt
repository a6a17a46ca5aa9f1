use Rattle.std.proofs.Common.{◌≡◌, ℕ, ℤ, List, w64, to_z, of_z, rules}
use Rattle.std.proofs.lemmas.Int.{to_z-of_z}
use Rattle.std.proofs.lemmas.Result.{err_from_is_err_and}
use Rattle.zk_service.specs.declared.update.UpdateKind.{UpdateKind}
use Rattle.zk_service.specs.declared.update.UpdateKind.TheVariants.{Asked}
use Rattle.zk_transcript.specs.declared.transcript.TranscriptLine.{TranscriptLine}
use Rattle.zk_service.specs.States.{State, attached_session}
use Rattle.zk_transcript.specs.History.{request}
use Rattle.zk_machine.specs.declared.fault.Fault.{Fault}
use Rattle.zk_machine.specs.Faults.{BeyondUnless}
use Rattle.zk_machine.proofs.FaultLaws.{beyond-weaker}
use Rattle.zk_history.specs.Fits.{AskedFits, IsCountable, IsTime, UpdateFits}
use Rattle.zk_history.specs.Pasts.{lines_of}
use Rattle.zk_history.proofs.lines.updated.Goals as goal

-- the request of an update fits where the update does
asked_beyond : (before : List TranscriptLine) (s : State) (zxid : ℤ) (kind : UpdateKind) (c i now : ℕ) (e : Fault) → kind ≡ Asked c i now →
    BeyondUnless (IsCountable s × IsTime now × AskedFits s.tree (attached_session c s) (request c i before) zxid now) e → BeyondUnless (IsCountable s × UpdateFits before s zxid kind) e
asked_beyond before s zxid kind c i now e is beyond =
    rw is (beyond-weaker (IsCountable s × IsTime now × AskedFits s.tree (attached_session c s) (request c i before) zxid now) (IsCountable s × UpdateFits before s zxid (Asked c i now)) e
    (λ fits. (fits.0, fits.1.0, fits.1.1)) beyond)

pub returns-in_err-asked-in-Asked-clause-beyond : goal.returns-in_err-asked-in-Asked-clause-beyond
returns-in_err-asked-in-Asked-clause-beyond c =
    let p = err_from_is_err_and c.from_residual-in_err-asked-in-Asked.result c.from_residual-in_err-asked-in-Asked.ensures.1 in
    let back : to_z w64 (of_z w64 c.args.update.now.zxid) ≡ c.args.update.now.zxid = to_z-of_z w64 c.args.update.now.zxid (search rules) in
    rw (p.1, p.2) (asked_beyond (lines_of c.args.before.now) c.args.state c.args.update.now.zxid c.args.update.now.kind c.in-Asked.connection c.in-Asked.index c.in-Asked.now c.in_err-asked-in-Asked.field-0.0 c.in-Asked.is (rw back at c.in_err-asked-in-Asked.ensures.beyond))
