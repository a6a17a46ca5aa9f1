use Rattle.std.proofs.Common.{◌≡◌, ◌≤◌, drop}
use Rattle.zt_text.specs.Scripts.{decimal_digit, digits_value}
use Rattle.zt_lines.proofs.numbers.place.Given as goal

-- the rest of the digits, after the value so far, give the number
abbrev pub invariant-loop-byte : goal.invariant-loop-byte
invariant-loop-byte l = record {
  told : digits_value 10 decimal_digit l.value (drop l.byte-index l.word) ≡ digits_value 10 decimal_digit 0 l.word;
  small : l.value ≤ 18446744073709551615;
}
