use Rattle.std.proofs.Common.{◌≡◌, ◌≤◌, ℕ, ℤ, ap, ◌∙◌, length, arith, length-take, w64}
use Rattle.std.proofs.lemmas.Int.{to_z-of_z}
use Rattle.std.specs.Prelude.{Option, option_map}
use Rattle.zk_transcript.specs.History.{first_place}
use Rattle.zk_transcript.specs.Walks.{update_shown}
use Rattle.zk_history.specs.Pasts.{lines_of}
use Rattle.zk_history.specs.Shown.{place_of}
use Rattle.zk_history.proofs.Updates.{with-zxid, within-zxid}
use Rattle.zk_history.proofs.past.Past.update_place.Goals as goal

placed : (c : goal.After-place) → option_map {U = ℕ × ℤ} (λ (k : ℕ). (k, c.args.zxid)) c.place.result ≡ first_place (update_shown c.args.zxid) 0 (lines_of c.args.self.now)
placed c =
    ap (λ (o : Option ℕ). option_map {U = ℕ × ℤ} (λ k. (k, c.args.zxid)) o)
    (c.place.ensures ∙ ap (place_of c.args.self.now.updates) (to_z-of_z w64 c.args.zxid c.ranges.zxid) ∙ c.args.self.now.updates_stand c.args.zxid) ∙ with-zxid c.args.zxid 0 (lines_of c.args.self.now)

pub returns-clause-placed : goal.returns-clause-placed
returns-clause-placed c = placed c

pub returns-clause-within : goal.returns-clause-within
returns-clause-within c =
    let few : length (lines_of c.args.self.now) ≤ c.args.self.now.len = grind (arith, length-take) in
    within-zxid c.place.result c.args.zxid (lines_of c.args.self.now) c.args.self.now.len (placed c) few
