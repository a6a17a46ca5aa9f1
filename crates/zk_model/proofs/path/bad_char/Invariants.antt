use Rattle.std.proofs.Common.{◌≡◌, ◌+◌, length}
use Rattle.std.specs.Str.{chars, IsUtf8}
use Rattle.zk_model.specs.PathFaults.{bad_char}
use Rattle.zk_model.proofs.path.bad_char.Given as goal

abbrev pub invariant-loop-c : goal.invariant-loop-c
invariant-loop-c l = record {
  reached : l.place + length l.c-iterator.rest.now ≡ length l.fn.text;
  same : bad_char 0 (chars l.fn.text) ≡ bad_char l.place (chars l.c-iterator.rest.now);
  is_text : IsUtf8 l.c-iterator.rest.now;
}
