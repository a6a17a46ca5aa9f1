use Rattle.std.proofs.Common.{refl}
use Rattle.zetcd_cmd.proofs.Judgements.{Did-read}
use Rattle.zetcd_cmd.proofs.judge.judge.Goals as goal

pub returns-in-Whole-clause-told : goal.returns-in-Whole-clause-told
returns-in-Whole-clause-told g c =
    Did-read c.read_text.result c.judge_text.result c.read_text.new.text.items c.read_text.new.text.items (g.I.Source.ended c.read_text.new.input) (g.I.Source.given c.args.input.now) (g.I.Source.given c.read_text.new.input)
    (g.I.Source.left c.args.input.now) (g.I.Source.left c.read_text.new.input) (g.O.Sink.taken c.args.out.now) (g.O.Sink.taken c.judge_text.new.out) c.in-Whole.is refl c.read_text.ensures.text
    c.judge_text.ensures.told
