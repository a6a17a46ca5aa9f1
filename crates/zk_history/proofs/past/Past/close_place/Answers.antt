use Rattle.std.proofs.Common.{ap, sym, ◌∙◌}
use Rattle.std.specs.Prelude.{ℕ, Option, option_map, Some}
use Rattle.zk_transcript.specs.Conversations.{close_shown}
use Rattle.zk_history.specs.Pasts.{lines_of}
use Rattle.zk_history.specs.Shown.{close_mark, is_mark}
use Rattle.zk_history.proofs.Looking.{close-marked, close-own, found-before, found-line, found-none, place-some, place-none}
use Rattle.zk_history.proofs.past.Past.close_place.Goals as goal

pub line_at-requires : goal.line_at-requires
line_at-requires c =
    found-before close_mark c.args.self.now.all.now c.args.self.now.len c.args.self.now.closes c.args.connection 0 c.in-Some.place c.args.self.now.closes_stand (sym c.in-Some.is ∙ c.place.ensures) c.args.self.now.within

pub returns-in-Some-close_shown : goal.returns-in-Some-close_shown
returns-in-Some-close_shown c =
    ap (λ (d : ℕ). Some (c.in-Some.place, d)) (close-own c.args.connection c.line_at.result.now c.in-Some-close_shown.field-0 (sym c.close_shown.ensures ∙ c.in-Some-close_shown.is)) ∙ ap (λ (o : Option ℕ). option_map (λ a. (c.in-Some.place, a)) o) (sym c.in-Some-close_shown.is ∙ c.close_shown.ensures)
    ∙ sym (place-some (close_shown c.args.connection) (λ l. is_mark (close_mark l) c.args.connection 0) (close-marked c.args.connection) (lines_of c.args.self.now) c.in-Some.place c.line_at.result.now
    (found-line close_mark c.args.self.now.all.now c.args.self.now.len c.args.self.now.closes c.args.connection 0 c.in-Some.place c.args.self.now.closes_stand (sym c.in-Some.is ∙ c.place.ensures) c.line_at.result.now c.line_at.ensures))

pub returns-in-None-close_shown : goal.returns-in-None-close_shown
returns-in-None-close_shown c =
    ap (λ (o : Option ℕ). option_map (λ a. (c.in-Some.place, a)) o) (sym c.in-None-close_shown.is ∙ c.close_shown.ensures)
    ∙ sym (place-some (close_shown c.args.connection) (λ l. is_mark (close_mark l) c.args.connection 0) (close-marked c.args.connection) (lines_of c.args.self.now) c.in-Some.place c.line_at.result.now
    (found-line close_mark c.args.self.now.all.now c.args.self.now.len c.args.self.now.closes c.args.connection 0 c.in-Some.place c.args.self.now.closes_stand (sym c.in-Some.is ∙ c.place.ensures) c.line_at.result.now c.line_at.ensures))

pub returns-in-None : goal.returns-in-None
returns-in-None c =
    sym (place-none (close_shown c.args.connection) (λ l. is_mark (close_mark l) c.args.connection 0) (close-marked c.args.connection) (lines_of c.args.self.now)
    (found-none close_mark c.args.self.now.all.now c.args.self.now.len c.args.self.now.closes c.args.connection 0 0 c.args.self.now.closes_stand (sym c.in-None.is ∙ c.place.ensures)))
