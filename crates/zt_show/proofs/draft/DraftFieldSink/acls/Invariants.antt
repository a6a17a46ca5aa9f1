use Rattle.std.proofs.Common.{◌≡◌, ◌++◌, length, take, decimal}
use Rattle.std.specs.List.{flat_map}
use Rattle.zt_show.specs.FieldWords.{spaced_word, acl_words}
use Rattle.zt_show.proofs.draft.DraftFieldSink.acls.Given as goal

abbrev pub invariant-loop-entry : goal.invariant-loop-entry
invariant-loop-entry l = l.self ≡ l.fn.self ++ (spaced_word (decimal (length l.entries)) ++ flat_map acl_words (take l.entry-index l.entries))
