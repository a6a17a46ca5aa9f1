use Rattle.std.proofs.Common.{ap, sym, ◌∙◌}
use Rattle.zt_lines.proofs.Parting.{parted_of_cut, parts_of, pieces_of_cut, pieces_uncut, shorter_of_cut}
use Rattle.zt_text.specs.Words.{joined_at}
use Rattle.zt_lines.proofs.last.part.Goals as goal

pub returns-in-Some-clause-parts : goal.returns-in-Some-clause-parts
returns-in-Some-clause-parts c =
    sym (parted_of_cut c.args.at c.args.bytes.now c.cut.result.0.now c.cut.result.1 c.cut.ensures.parts c.cut.ensures.first ∙ ap (parts_of c.cut.result.0.now) c.in-Some.is)

pub returns-in-None-clause-parts : goal.returns-in-None-clause-parts
returns-in-None-clause-parts c =
    sym (parted_of_cut c.args.at c.args.bytes.now c.cut.result.0.now c.cut.result.1 c.cut.ensures.parts c.cut.ensures.first ∙ ap (parts_of c.cut.result.0.now) c.in-None.is)

pub returns-in-Some-clause-pieces : goal.returns-in-Some-clause-pieces
returns-in-Some-clause-pieces c =
    pieces_of_cut c.args.at c.args.bytes.now c.cut.result.0.now _ (c.cut.ensures.parts ∙ ap (joined_at c.args.at c.cut.result.0.now) c.in-Some.is) c.cut.ensures.first

pub returns-in-None-clause-pieces : goal.returns-in-None-clause-pieces
returns-in-None-clause-pieces c =
    pieces_uncut c.args.at c.args.bytes.now c.cut.result.0.now (c.cut.ensures.parts ∙ ap (joined_at c.args.at c.cut.result.0.now) c.in-None.is) c.cut.ensures.first

pub returns-in-Some-clause-shorter : goal.returns-in-Some-clause-shorter
returns-in-Some-clause-shorter c = shorter_of_cut c.args.at c.args.bytes.now c.cut.result.0.now _ (c.cut.ensures.parts ∙ ap (joined_at c.args.at c.cut.result.0.now) c.in-Some.is)
