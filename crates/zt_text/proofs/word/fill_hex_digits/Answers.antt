use Rattle.std.proofs.Common.{◌≡◌, ◌∙◌, arith}
use Rattle.hex.specs.Hex.{encode_lower}
use Rattle.zt_text.proofs.HexDigits.{encode_lower-hex_digits}
use Rattle.zt_text.proofs.word.fill_hex_digits.Goals as goal

pub returns : goal.returns
returns c =
    let written : c.encode_to_slice.new.output ≡ encode_lower c.args.bytes.now = rw c.unwrap.ensures at c.encode_to_slice.ensures.written in
    written ∙ encode_lower-hex_digits c.args.bytes.now (λ i. omega (arith, c.type_inv.bytes i))
