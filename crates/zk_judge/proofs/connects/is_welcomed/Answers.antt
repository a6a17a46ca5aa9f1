use Rattle.std.proofs.Common.{◌≡◌, ◌+◌, ℕ, ℤ, List, Some, None, length, ap, sym, ◌∙◌}
use Rattle.zk_transcript.specs.declared.transcript.TranscriptLine.{TranscriptLine}
use Rattle.zk_service.specs.States.{Session, State, session_at}
use Rattle.zk_transcript.specs.History.{state_at}
use Rattle.zk_legal.specs.Faults.{history_fault}
use Rattle.zk_legal.specs.Passwords.{OfferPasswords}
use Rattle.zk_legal.proofs.Passwords.{open-password}
use Rattle.zk_judge.proofs.connects.is_welcomed.Goals as goal

seen-password : (lines : List TranscriptLine) (moment : ℕ) (s : State) (id : ℤ) (x : Session) → history_fault lines ≡ None → OfferPasswords lines → s ≡ state_at lines moment → session_at id s ≡ Some x → length x.passwd ≡ 16
seen-password lines moment s id x none offered reached is = open-password lines moment id x none offered (ap (session_at id) (sym reached) ∙ is)

pub welcome_packet-requires : goal.welcome_packet-requires
welcome_packet-requires c =
    seen-password c.args.index.now.lines.now (c.args.place + 1) c.args.state.now _ c.in-Some-session.session.now c.args.index.now.run c.args.index.now.offered c.requires (sym c.in-Some-session.ensures)
