use Rattle.std.proofs.Common.{◌≡◌, Some, map, drop}
use Rattle.json.specs.Tape.{node_token}
use Rattle.ev_fields.specs.Fitting.{fits_at}
use Rattle.ev_fields.proofs.parsed.fits.Given as goal

abbrev pub invariant-loop-node : goal.invariant-loop-node
invariant-loop-node l = fits_at (Some l.depth) (map node_token (drop l.node-index l.nodes)) ≡ fits_at (Some 0) (map node_token l.nodes)
