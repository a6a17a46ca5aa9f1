use Rattle.std.proofs.Common.{◌≡◌, true, string_bytes, rules}
use Rattle.std.specs.List.{list_all}
use Rattle.json.specs.Run.{is_plain}
use Rattle.ev_fields.proofs.Escapes.{escape-plain}
use Rattle.ev_fields.proofs.Pushed.{between_quotes}
use Rattle.ev_fields.proofs.printer.put_quoted.Goals as goal

pub returns : goal.returns
returns c =
    let plain : list_all is_plain c.args.content.now ≡ true = search rules in
    between_quotes (string_bytes c.args.text) c.args.content.now _ _ _ (escape-plain c.args.content.now plain) c.in_ok-text.ensures c.in_ok-text-2.ensures c.in_ok-text-3.ensures
