use Rattle.std.proofs.Common.{◌≡◌, ◌++◌, length, take, decimal}
use Rattle.std.specs.List.{flat_map}
use Rattle.zt_show.specs.FieldWords.{spaced_word, hex_word}
use Rattle.zt_show.proofs.draft.DraftFieldSink.ustrings.Given as goal

abbrev pub invariant-loop-text : goal.invariant-loop-text
invariant-loop-text l = l.self ≡ l.fn.self ++ (spaced_word (decimal (length l.texts)) ++ flat_map hex_word (take l.text-index l.texts))
