-- What a text that is being written keeps: its bytes are the print of some tokens, and it knows whether a value has just ended.
use Rattle.std.specs.Prelude.{◌≡◌, List, string_bytes}
use Rattle.json.specs.Token.{Token}
use Rattle.json.specs.Print.{print, ends_value, ArePrintable}
use Rattle.ev_fields.specs.declared.text.Text.TheInside.{Inside}

pub record IsPrinted (p : Inside) : Type 0 where
  pub printed : List Token
  pub printable : ArePrintable printed
  pub text : string_bytes p.text ≡ print printed
  pub place : p.after_value ≡ ends_value printed
