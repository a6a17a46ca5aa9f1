use Rattle.std.proofs.Common.{ℕ, ap, sym, ◌∙◌, w64}
use Rattle.std.proofs.lemmas.Int.{to_z-of_z}
use Rattle.std.specs.Prelude.{Option, option_map}
use Rattle.zk_history.specs.Shown.{place_of}
use Rattle.zk_history.proofs.zxids.Zxids.place.Goals as goal
use denote.Ref.{Bor}

pub returns-in-Some : goal.returns-in-Some
returns-in-Some c =
    ap (λ (o : Option (Bor ℕ)). option_map {U = ℕ} (λ b. b.now) o) (sym c.in-Some.is) ∙ c.get.ensures.value ∙ ap (place_of c.args.self.now) (to_z-of_z w64 c.args.zxid c.ranges.zxid)

pub returns-in-None : goal.returns-in-None
returns-in-None c =
    ap (λ (o : Option (Bor ℕ)). option_map {U = ℕ} (λ b. b.now) o) (sym c.in-None.is) ∙ c.get.ensures.value ∙ ap (place_of c.args.self.now) (to_z-of_z w64 c.args.zxid c.ranges.zxid)
