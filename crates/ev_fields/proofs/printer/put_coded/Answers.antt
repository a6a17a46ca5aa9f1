use Rattle.std.proofs.Common.{string_bytes}
use Rattle.base64.specs.Engines.{standard}
use Rattle.base64.specs.GeneralPurpose.{encode_of}
use Rattle.ev_fields.proofs.Escapes.{escape-coded}
use Rattle.ev_fields.proofs.Pushed.{between_quotes}
use Rattle.ev_fields.proofs.printer.put_coded.Goals as goal

pub returns : goal.returns
returns c = between_quotes (string_bytes c.args.text) (encode_of standard c.args.bytes.now) _ _ _ (escape-coded c.args.bytes.now (λ k. (c.type_inv.bytes k).fits)) c.in_ok-text.ensures c.in_ok-encode_string.ensures.ok c.in_ok-text-2.ensures
