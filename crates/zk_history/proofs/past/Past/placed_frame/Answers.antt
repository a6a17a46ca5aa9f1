use Rattle.std.proofs.Common.{ap, sym, ◌∙◌}
use Rattle.std.specs.Prelude.{ℕ, List, Option, option_map}
use Rattle.zk_transcript.specs.History.{frame_shown}
use denote.Ref.{Bor}
use Rattle.zk_history.specs.Pasts.{lines_of}
use Rattle.zk_history.specs.Shown.{frame_mark, is_mark}
use Rattle.zk_history.proofs.Looking.{frame-marked, found-before, found-line, found-none, found-within, place-some, place-none}
use Rattle.zk_history.proofs.past.Past.placed_frame.Goals as goal

pub line_at-requires : goal.line_at-requires
line_at-requires c =
    found-before frame_mark c.args.self.now.all.now c.args.self.now.len c.args.self.now.frames c.args.connection c.args.index c.in-Some.place c.args.self.now.frames_stand (sym c.in-Some.is ∙ c.place.ensures) c.args.self.now.within

pub returns-in-Some-frame_shown-clause-placed : goal.returns-in-Some-frame_shown-clause-placed
returns-in-Some-frame_shown-clause-placed c =
    ap (λ (o : Option (List ℕ)). option_map (λ a. (c.in-Some.place, a)) o) (ap (λ (o : Option (Bor (List ℕ))). option_map {U = List ℕ} (λ b. b.now) o) (sym c.in-Some-frame_shown.is) ∙ c.frame_shown.ensures)
    ∙ sym (place-some (frame_shown c.args.connection c.args.index) (λ l. is_mark (frame_mark l) c.args.connection c.args.index) (frame-marked c.args.connection c.args.index) (lines_of c.args.self.now) c.in-Some.place c.line_at.result.now
    (found-line frame_mark c.args.self.now.all.now c.args.self.now.len c.args.self.now.frames c.args.connection c.args.index c.in-Some.place c.args.self.now.frames_stand (sym c.in-Some.is ∙ c.place.ensures) c.line_at.result.now c.line_at.ensures))

pub returns-in-Some-frame_shown-clause-within : goal.returns-in-Some-frame_shown-clause-within
returns-in-Some-frame_shown-clause-within c = found-within frame_mark c.args.self.now.all.now c.args.self.now.len c.args.self.now.frames c.args.connection c.args.index c.in-Some.place c.args.self.now.frames_stand (sym c.in-Some.is ∙ c.place.ensures)

pub returns-in-None-frame_shown-clause-placed : goal.returns-in-None-frame_shown-clause-placed
returns-in-None-frame_shown-clause-placed c =
    ap (λ (o : Option (List ℕ)). option_map (λ a. (c.in-Some.place, a)) o) (ap (λ (o : Option (Bor (List ℕ))). option_map {U = List ℕ} (λ b. b.now) o) (sym c.in-None-frame_shown.is) ∙ c.frame_shown.ensures)
    ∙ sym (place-some (frame_shown c.args.connection c.args.index) (λ l. is_mark (frame_mark l) c.args.connection c.args.index) (frame-marked c.args.connection c.args.index) (lines_of c.args.self.now) c.in-Some.place c.line_at.result.now
    (found-line frame_mark c.args.self.now.all.now c.args.self.now.len c.args.self.now.frames c.args.connection c.args.index c.in-Some.place c.args.self.now.frames_stand (sym c.in-Some.is ∙ c.place.ensures) c.line_at.result.now c.line_at.ensures))

pub returns-in-None-clause-placed : goal.returns-in-None-clause-placed
returns-in-None-clause-placed c =
    sym (place-none (frame_shown c.args.connection c.args.index) (λ l. is_mark (frame_mark l) c.args.connection c.args.index) (frame-marked c.args.connection c.args.index) (lines_of c.args.self.now)
    (found-none frame_mark c.args.self.now.all.now c.args.self.now.len c.args.self.now.frames c.args.connection c.args.index 0 c.args.self.now.frames_stand (sym c.in-None.is ∙ c.place.ensures)))
