use Rattle.std.proofs.Common.{ℕ, List, ap, sym, ◌∙◌, arith}
use Rattle.std.specs.Prelude.{map}
use Rattle.std.proofs.lemmas.List.{drop-map, length-map}
use Rattle.zk_judge.specs.Sent.{packet_at}
use Rattle.zk_judge.proofs.sent.Packets.rest_after.Goals as goal

pub places_after-requires : goal.places_after-requires
places_after-requires c =
    let within = c.requires in
    omega (arith, within, length-map c.args.self.places.now (packet_at c.args.self.lines.now))

pub returns : goal.returns
returns c =
    ap (λ (ks : List ℕ). map (packet_at c.args.self.lines.now) ks) c.places_after.ensures
    ∙ sym (drop-map (packet_at c.args.self.lines.now) c.args.taken c.args.self.places.now)
