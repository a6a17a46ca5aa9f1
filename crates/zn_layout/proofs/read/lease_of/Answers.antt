use Rattle.std.proofs.Common.{◌++◌, ◌∙◌, sym, ap}
use Rattle.std.proofs.lemmas.Int.{to_z-of_z}
use Rattle.zk_jute.specs.JuteWriting.{long_bytes}
use Rattle.zn_layout.proofs.Leases.{lease_joined}
use Rattle.zn_layout.proofs.read.lease_of.Goals as goal

pub returns-clause-value : goal.returns-clause-value
returns-clause-value c =
    let timeout = c.split_int-timeout.ensures in
    let attaches = c.split_long-attaches.ensures in
    rw (to_z-of_z _ _ timeout.fits, to_z-of_z _ _ attaches.fits)
    (lease_joined _ c.args.numbers.now c.split_int-timeout.result.1.now timeout.parts (attaches.parts ∙ ap (λ l. long_bytes c.split_long-attaches.result.0 ++ l) (sym c.copy_from_slice.ensures.after)))
