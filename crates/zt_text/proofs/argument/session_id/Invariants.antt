use Rattle.std.proofs.Common.{◌≡◌, ◌^◌, ◌<◌, drop}
use Rattle.zt_text.specs.Scripts.{hex_value, digits_value}
use Rattle.zt_text.proofs.argument.session_id.Given as goal

-- the rest of the digits, after the value so far, give the number
abbrev pub invariant-loop-byte : goal.invariant-loop-byte
invariant-loop-byte l = record {
  told : digits_value 16 hex_value l.value (drop l.byte-index l.word) ≡ digits_value 16 hex_value 0 l.word;
  small : l.value < 16 ^ l.byte-index;
}
