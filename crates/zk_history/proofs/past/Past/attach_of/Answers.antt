use Rattle.std.proofs.Common.{ap, sym, ◌∙◌}
use Rattle.std.specs.Prelude.{ℤ, Option, option_map}
use Rattle.zk_transcript.specs.Legal.{Attachment, attach_shown}
use Rattle.zk_history.specs.Shown.{attachment_of}
use Rattle.zk_history.specs.Pasts.{lines_of}
use Rattle.zk_history.specs.Shown.{attach_mark, is_mark}
use Rattle.zk_history.proofs.Looking.{attach-marked, found-before, found-line, found-none, place-some, place-none}
use Rattle.zk_history.proofs.past.Past.attach_of.Goals as goal

pub line_at-requires : goal.line_at-requires
line_at-requires c =
    found-before attach_mark c.args.self.now.all.now c.args.self.now.len c.args.self.now.attachments c.args.connection 0 c.in-Some.place c.args.self.now.attachments_stand (sym c.in-Some.is ∙ c.place.ensures) c.args.self.now.within

pub returns-in-Some-attach_shown : goal.returns-in-Some-attach_shown
returns-in-Some-attach_shown c =
    ap (λ (o : Option Attachment). option_map (λ a. (c.in-Some.place, a)) o) (ap (λ (o : Option (ℤ × ℤ)). option_map attachment_of o) (sym c.in-Some-attach_shown.is) ∙ c.attach_shown.ensures)
    ∙ sym (place-some (attach_shown c.args.connection) (λ l. is_mark (attach_mark l) c.args.connection 0) (attach-marked c.args.connection) (lines_of c.args.self.now) c.in-Some.place c.line_at.result.now
    (found-line attach_mark c.args.self.now.all.now c.args.self.now.len c.args.self.now.attachments c.args.connection 0 c.in-Some.place c.args.self.now.attachments_stand (sym c.in-Some.is ∙ c.place.ensures) c.line_at.result.now c.line_at.ensures))

pub returns-in-None-attach_shown : goal.returns-in-None-attach_shown
returns-in-None-attach_shown c =
    ap (λ (o : Option Attachment). option_map (λ a. (c.in-Some.place, a)) o) (ap (λ (o : Option (ℤ × ℤ)). option_map attachment_of o) (sym c.in-None-attach_shown.is) ∙ c.attach_shown.ensures)
    ∙ sym (place-some (attach_shown c.args.connection) (λ l. is_mark (attach_mark l) c.args.connection 0) (attach-marked c.args.connection) (lines_of c.args.self.now) c.in-Some.place c.line_at.result.now
    (found-line attach_mark c.args.self.now.all.now c.args.self.now.len c.args.self.now.attachments c.args.connection 0 c.in-Some.place c.args.self.now.attachments_stand (sym c.in-Some.is ∙ c.place.ensures) c.line_at.result.now c.line_at.ensures))

pub returns-in-None : goal.returns-in-None
returns-in-None c =
    sym (place-none (attach_shown c.args.connection) (λ l. is_mark (attach_mark l) c.args.connection 0) (attach-marked c.args.connection) (lines_of c.args.self.now)
    (found-none attach_mark c.args.self.now.all.now c.args.self.now.len c.args.self.now.attachments c.args.connection 0 0 c.args.self.now.attachments_stand (sym c.in-None.is ∙ c.place.ensures)))
