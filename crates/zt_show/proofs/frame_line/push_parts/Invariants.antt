use Rattle.std.proofs.Common.{◌≡◌, ◌++◌, length, take, decimal}
use Rattle.std.specs.List.{flat_map}
use Rattle.zt_show.specs.FieldWords.{spaced_word}
use Rattle.zt_show.specs.FrameLines.{part_words}
use Rattle.zt_show.proofs.frame_line.push_parts.Given as goal

abbrev pub invariant-loop-part : goal.invariant-loop-part
invariant-loop-part l = l.text ≡ l.fn.text ++ (spaced_word (decimal (length l.parts)) ++ flat_map part_words (take l.part-index l.parts))
