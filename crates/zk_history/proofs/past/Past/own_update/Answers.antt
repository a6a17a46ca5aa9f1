use Rattle.std.proofs.Common.{ap, sym, ◌∙◌}
use Rattle.std.specs.Prelude.{Option, option_map}
use Rattle.zk_transcript.specs.Walks.{own_update_shown}
use Rattle.zk_service.specs.declared.update.UpdateRec.{UpdateRec}
use Rattle.zk_history.specs.Pasts.{lines_of}
use Rattle.zk_history.specs.Shown.{own_mark, is_mark}
use Rattle.zk_history.proofs.Looking.{own-marked, found-before, found-line, found-none, found-within, place-some, place-none}
use Rattle.zk_history.proofs.past.Past.own_update.Goals as goal

pub line_at-requires : goal.line_at-requires
line_at-requires c =
    found-before own_mark c.args.self.now.all.now c.args.self.now.len c.args.self.now.owns c.args.connection c.args.index c.in-Some.place c.args.self.now.owns_stand (sym c.in-Some.is ∙ c.place.ensures) c.args.self.now.within

pub returns-in-Some-own_update_shown-clause-shown : goal.returns-in-Some-own_update_shown-clause-shown
returns-in-Some-own_update_shown-clause-shown c =
    ap (λ (o : Option UpdateRec). option_map (λ a. (c.in-Some.place, a)) o) (sym c.in-Some-own_update_shown.is ∙ c.own_update_shown.ensures)
    ∙ sym (place-some (own_update_shown c.args.connection c.args.index) (λ l. is_mark (own_mark l) c.args.connection c.args.index) (own-marked c.args.connection c.args.index) (lines_of c.args.self.now) c.in-Some.place c.line_at.result.now
    (found-line own_mark c.args.self.now.all.now c.args.self.now.len c.args.self.now.owns c.args.connection c.args.index c.in-Some.place c.args.self.now.owns_stand (sym c.in-Some.is ∙ c.place.ensures) c.line_at.result.now c.line_at.ensures))

pub returns-in-Some-own_update_shown-clause-within : goal.returns-in-Some-own_update_shown-clause-within
returns-in-Some-own_update_shown-clause-within c = found-within own_mark c.args.self.now.all.now c.args.self.now.len c.args.self.now.owns c.args.connection c.args.index c.in-Some.place c.args.self.now.owns_stand (sym c.in-Some.is ∙ c.place.ensures)

pub returns-in-None-own_update_shown-clause-shown : goal.returns-in-None-own_update_shown-clause-shown
returns-in-None-own_update_shown-clause-shown c =
    ap (λ (o : Option UpdateRec). option_map (λ a. (c.in-Some.place, a)) o) (sym c.in-None-own_update_shown.is ∙ c.own_update_shown.ensures)
    ∙ sym (place-some (own_update_shown c.args.connection c.args.index) (λ l. is_mark (own_mark l) c.args.connection c.args.index) (own-marked c.args.connection c.args.index) (lines_of c.args.self.now) c.in-Some.place c.line_at.result.now
    (found-line own_mark c.args.self.now.all.now c.args.self.now.len c.args.self.now.owns c.args.connection c.args.index c.in-Some.place c.args.self.now.owns_stand (sym c.in-Some.is ∙ c.place.ensures) c.line_at.result.now c.line_at.ensures))

pub returns-in-None-clause-shown : goal.returns-in-None-clause-shown
returns-in-None-clause-shown c =
    sym (place-none (own_update_shown c.args.connection c.args.index) (λ l. is_mark (own_mark l) c.args.connection c.args.index) (own-marked c.args.connection c.args.index) (lines_of c.args.self.now)
    (found-none own_mark c.args.self.now.all.now c.args.self.now.len c.args.self.now.owns c.args.connection c.args.index 0 c.args.self.now.owns_stand (sym c.in-None.is ∙ c.place.ensures)))
