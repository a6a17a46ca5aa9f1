use Rattle.std.proofs.Common.{◌≡◌, ◌+◌, ◌-◌, ◌≤◌, List, ℕ, drop, length, min, rules, arith, ap, sym, ◌∙◌}
use Rattle.std.specs.Prelude.{sum_by}
use Rattle.std.proofs.lemmas.List.{length-drop, take_all}
use Rattle.zk_jute.specs.Frames.{bad_length}
use Rattle.zk_wire.specs.Cutting.{CutStands, Stream}
use Rattle.zp_step.specs.Stages.{max_count}
use Rattle.zp_world.specs.Framing.{framed_size}
use Rattle.zp_world.proofs.Framing.{cuts-of, stands-short}
use Rattle.zp_world.proofs.inbox.cut_whole.Goals as goal

pub returns-clause-cuts : goal.returns-clause-cuts
returns-clause-cuts c =
    let stream : List ℕ = c.args.stream.items in
    let new : Stream = record { place = c.saturating_add.result; rest = c.in_ok-rest.rest.items } in
    let stands : CutStands stream c.in_ok-frames.frames.items c.frames_in.new.cutter = search rules in
    let bad : c.in_ok-bad.bad ≡ bad_length c.frames_in.new.cutter.rest = search rules in
    let size : c.size_of_all.result ≡ min (sum_by framed_size c.in_ok-frames.frames.items) max_count = search rules in
    let fits : length stream ≤ max_count = search rules in
    let used : c.min-used.result ≡ min c.size_of_all.result (length stream) = search rules in
    let piece : List ℕ = c.deref.result.now in
    let whole_rest = take_all (length piece - c.min-used.result) (drop c.min-used.result piece) (omega (arith, length-drop c.min-used.result piece)) in
    let rest : new.rest ≡ drop c.min-used.result stream = c.in_ok-rest.ensures.items ∙ whole_rest ∙ ap (λ (z : List ℕ). drop c.min-used.result z) c.deref.ensures.value in
    let place : new.place ≡ min (c.args.place + c.min-used.result) max_count = search rules in
    λ old bytes at whole. cuts-of old c.frames_in.new.cutter new bytes stream c.in_ok-frames.frames.items c.in_ok-bad.bad c.size_of_all.result c.min-used.result whole stands bad size fits used rest
    (place ∙ ap (λ (n : ℕ). min (n + c.min-used.result) max_count) (sym at))

pub returns-clause-short : goal.returns-clause-short
returns-clause-short c =
    let stands : CutStands c.args.stream.items c.in_ok-frames.frames.items c.frames_in.new.cutter = search rules in
    stands-short c.args.stream.items c.in_ok-frames.frames.items c.frames_in.new.cutter stands
