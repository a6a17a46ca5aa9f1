use Rattle.std.proofs.Common.{◌≡◌, ◌++◌, ◌≤◌, List, ℕ, rules, arith, ap, sym, ◌∙◌}
use Rattle.std.specs.Prelude.{IsErr, None}
use Rattle.std.proofs.lemmas.Result.{IfOk-weaker}
use Rattle.zk_jute.specs.Frames.{bad_length, frame_at}
use Rattle.zk_wire.specs.Cutting.{Stream}
use Rattle.zp_step.specs.Stages.{max_count}
use Rattle.zp_world.proofs.Framing.{cuts-part}
use Rattle.zp_world.proofs.inbox.Inbox.with.Goals as goal

pub returns-then-is_part-clause-cuts : goal.returns-then-is_part-clause-cuts
returns-then-is_part-clause-cuts c =
    let stream : List ℕ = c.extend_from_slice.new.self.items in
    let longer : stream ≡ c.self.inside.rest.items ++ c.args.bytes.now = search rules in
    let whole = longer ∙ ap (λ (s : Stream). s.rest ++ c.args.bytes.now) c.self.view_is in
    let place = ap (λ (s : Stream). s.place) c.self.view_is in
    let part : IsErr (frame_at stream) = search rules in
    let good : bad_length stream ≡ None = search rules in
    let small : c.self.inside.place ≤ max_count = search rules in
    let most : c.args.self.place ≤ max_count = omega (arith, place, small) in
    cuts-part c.args.self (record { place = c.self.inside.place; rest = stream }) c.args.bytes.now c.new.result.items c.new.ensures.items part good whole place most

pub returns-clause-cuts : goal.returns-clause-cuts
returns-clause-cuts c =
    let longer : c.extend_from_slice.new.self.items ≡ c.self.inside.rest.items ++ c.args.bytes.now = search rules in
    IfOk-weaker c.cut_whole.result _ _
    (λ cut h. h c.args.self c.args.bytes.now (sym (ap (λ (s : Stream). s.place) c.self.view_is)) (longer ∙ ap (λ (s : Stream). s.rest ++ c.args.bytes.now) c.self.view_is))
    c.cut_whole.ensures.cuts
