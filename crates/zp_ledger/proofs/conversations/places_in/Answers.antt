use Rattle.std.proofs.Common.{◌<◌, length, ap, ◌∙◌, arith, rules}
use Rattle.std.specs.Prelude.{slice_get}
use Rattle.std.specs.List.{filter_map}
use Rattle.zp_script.specs.Conversing.{is_line_of}
use Rattle.zp_ledger.proofs.Grouping.{places_more}
use Rattle.zp_ledger.proofs.conversations.places_in.Goals as goal

pub loop-place-preserved : goal.loop-place-preserved
loop-place-preserved c = λ d.
    let less : c.loop-place.place < length c.args.lines.now = search (arith, rules) in
    ap (filter_map (slice_get c.args.lines.now)) (c.in_ok-note_if.ensures d)
    ∙ places_more (is_line_of d) c.args.lines.now _ c.loop-place.place c.index-lines-place.result _ less c.index-lines-place.is (c.connection_of-connection.ensures d) (c.loop-place.invariant d)
