use Rattle.std.proofs.Common.{◌≡◌, ℤ, false, Some, subst, rules, w64, to_z, of_z}
use Rattle.std.specs.Prelude.{slice_get}
use Rattle.std.proofs.lemmas.Int.{to_z-of_z}
use Rattle.zk_model.specs.Watches.{is_unarmed}
use Rattle.zk_transcript.specs.declared.transcript.TranscriptLine.{TranscriptLine}
use Rattle.zk_transcript.specs.Walks.{is_above, then_fired}
use Rattle.zk_judge.specs.Seen.{fired_of, walker_of}
use Rattle.zk_judge.proofs.Fronts.{told-through}
use Rattle.zk_judge.proofs.queues.told_through.Goals as goal

pub returns : goal.returns
returns c =
    let lines = c.args.index.now.lines.now in
    let armed : is_unarmed c.in_ok-before.before.watches ≡ false = cc in
    let told : to_z w64 (of_z w64 c.args.walker.zxid) ≡ c.args.walker.zxid = to_z-of_z w64 c.args.walker.zxid (search rules) in
    let fires =
    subst
    (λ (z : ℤ). (l : TranscriptLine) → slice_get lines c.args.place ≡ Some l → fired_of c.in_ok-fired.fired ≡ then_fired lines c.args.place (is_above z l) (fired_of c.in_ok-before.before))
    told c.in_ok-fired.ensures in
    let zxid : to_z w64 (of_z w64 c.args.zxid) ≡ c.args.zxid = search rules in
    rw zxid
    (told-through lines (walker_of c.args.walker) c.args.place c.args.zxid (fired_of c.in_ok-before.before) (fired_of c.in_ok-fired.fired) c.requires.place c.in_ok-before.ensures armed fires)
