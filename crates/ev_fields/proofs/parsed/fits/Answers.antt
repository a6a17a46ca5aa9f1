use Rattle.std.proofs.Common.{Some, map, sym, ◌∙◌}
use Rattle.json.specs.Tape.{node_token}
use Rattle.ev_fields.specs.Fitting.{fits_at}
use Rattle.ev_fields.proofs.Fits.{turn_fails, turn_goes_on, turns_end}
use Rattle.ev_fields.proofs.parsed.fits.Goals as goal

pub returns-in-None : goal.returns-in-None
returns-in-None c = turn_fails c.args.nodes.now c.loop-node.node-index c.loop-node.depth (fits_at (Some 0) (map node_token c.args.nodes.now)) c.loop-node-test.true c.loop-node.invariant (sym c.depth_after.ensures ∙ c.in-None.is)

pub loop-node-preserved : goal.loop-node-preserved
loop-node-preserved c = turn_goes_on c.args.nodes.now c.loop-node.node-index c.loop-node.depth c.in-Some.next (fits_at (Some 0) (map node_token c.args.nodes.now)) c.loop-node-test.true c.loop-node.invariant (sym c.depth_after.ensures ∙ c.in-Some.is)

pub returns : goal.returns
returns c = turns_end c.args.nodes.now c.loop-node.node-index c.loop-node.depth (fits_at (Some 0) (map node_token c.args.nodes.now)) c.loop-node-test.false c.loop-node.invariant
