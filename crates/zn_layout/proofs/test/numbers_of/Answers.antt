use Rattle.std.proofs.lemmas.Int.{to_z-of_z}
use Rattle.zn_layout.proofs.Nodes.{node_joined}
use Rattle.zn_layout.proofs.test.numbers_of.Goals as goal

pub returns-clause-value : goal.returns-clause-value
returns-clause-value c =
    let czxid = c.split_long-czxid.ensures in
    let version = c.split_int-version.ensures in
    let ctime = c.split_long-ctime.ensures in
    let mtime = c.split_long-mtime.ensures in
    let owner = c.split_long-owner.ensures in
    rw (to_z-of_z _ _ czxid.fits, to_z-of_z _ _ version.fits, to_z-of_z _ _ ctime.fits, to_z-of_z _ _ mtime.fits, to_z-of_z _ _ owner.fits)
    (node_joined _ c.args.numbers.now c.split_long-czxid.result.1.now c.split_int-version.result.1.now c.split_long-ctime.result.1.now c.split_long-mtime.result.1.now
    czxid.parts version.parts ctime.parts mtime.parts owner.parts)
