use Rattle.std.proofs.Common.{◌≡◌, ◌++◌, subst, arith, rules, ap, ◌∙◌, w64, to_z, of_z}
use Rattle.std.specs.Prelude.{ℤ, []}
use Rattle.std.specs.Vec.Iter.{into_iter_items}
use Rattle.std.proofs.lemmas.Int.{to_z-of_z}
use Rattle.zp_script.specs.Arriving.{frame_lines}
use Rattle.zt_text.specs.Transcripts.{AreBytes}
use Rattle.zp_world.proofs.Acting.{shown-none, shown-more}
use Rattle.zp_world.proofs.Within.{nothing-left}
use Rattle.zp_world.proofs.ending.show_frames.Goals as goal

pub push-requires-clause-formed : goal.push-requires-clause-formed
push-requires-clause-formed c = (omega arith, c.is_number.ensures, c.is_signed.ensures, subst AreBytes c.as_slice.ensures c.are_bytes.ensures)

pub loop-bytes-preserved : goal.loop-bytes-preserved
loop-bytes-preserved c =
    let zxid : ℤ = to_z w64 (of_z w64 c.args.arrival.zxid) in
    shown-more c.args.arrival.connection c.loop-bytes.index c.saturating_add-index.result zxid c.loop-bytes.transcript c.push.new.self _ c.in-Some.bytes (into_iter_items c.loop-bytes.frames) (into_iter_items c.next.new.self)
    c.in-Some.ensures.items c.saturating_add-index.ensures c.in_ok-push.ensures.ok c.loop-bytes.invariant

pub returns : goal.returns
returns c =
    let zxid : ℤ = to_z w64 (of_z w64 c.args.arrival.zxid) in
    let none : into_iter_items c.next.new.self ≡ [] = nothing-left c.next.new.self c.in_default.ensures.cases.1 in
    record {
      none = none;
      shown = shown-none c.args.arrival.connection c.loop-bytes.index zxid c.loop-bytes.transcript _ (into_iter_items c.loop-bytes.frames) (c.in_default.ensures.items ∙ none) c.loop-bytes.invariant
          ∙ ap (λ (z : ℤ). c.args.transcript.now ++ frame_lines c.args.arrival.connection c.args.first z (into_iter_items c.args.frames.now)) (to_z-of_z w64 c.args.arrival.zxid (search rules));
    }
