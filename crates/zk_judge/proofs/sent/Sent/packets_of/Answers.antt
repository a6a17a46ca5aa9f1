use Rattle.std.proofs.Common.{◌≡◌, ℕ, [], List, ap, sym, ◌∙◌}
use Rattle.std.specs.Prelude.{Option, map, option_map}
use Rattle.std.specs.Global.{Vec}
use Rattle.zk_judge.specs.Sent.{packet_at, places_of, sent_from}
use Rattle.zk_judge.proofs.PacketPlaces.{packets-at-places}
use Rattle.zk_judge.proofs.sent.Sent.packets_of.Goals as goal
use denote.Ref.{Bor}

pub returns-in-None : goal.returns-in-None
returns-in-None c =
    let none : [] ≡ sent_from c.args.connection 0 c.args.lines.now =
    ap places_of (ap (λ (o : Option (Bor (Vec ℕ))). option_map {U = Vec ℕ} (λ b. b.now) o) (sym c.in-None.is) ∙ c.get.ensures.value) ∙ c.requires c.args.connection in
    ap (λ (ks : List ℕ). map (packet_at c.args.lines.now) ks) none ∙ packets-at-places c.args.connection c.args.lines.now

pub returns-in-Some : goal.returns-in-Some
returns-in-Some c =
    let some : c.in-Some.places.now.items ≡ sent_from c.args.connection 0 c.args.lines.now =
    ap places_of (ap (λ (o : Option (Bor (Vec ℕ))). option_map {U = Vec ℕ} (λ b. b.now) o) (sym c.in-Some.is) ∙ c.get.ensures.value) ∙ c.requires c.args.connection in
    ap (λ (ks : List ℕ). map (packet_at c.args.lines.now) ks) (c.as_slice.ensures.value ∙ some) ∙ packets-at-places c.args.connection c.args.lines.now
