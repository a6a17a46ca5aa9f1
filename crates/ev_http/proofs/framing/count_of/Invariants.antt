use Rattle.std.proofs.Common.{◌<◌, ◌^◌, ◌≡◌, drop}
use Rattle.std.specs.List.{list_all}
use Rattle.std.specs.Char.{is_ascii_digit}
use Rattle.std.specs.Str.Parse.{digits_value_after}
use Rattle.ev_http.specs.Taking.{counted}
use Rattle.ev_http.proofs.framing.count_of.Given as goal

abbrev pub invariant-digits : goal.invariant-digits
invariant-digits l =
    (list_all is_ascii_digit l.value ≡ list_all is_ascii_digit (drop l.digit-index l.value))
    × (counted (digits_value_after 10 0 l.value) ≡ counted (digits_value_after 10 l.count (drop l.digit-index l.value)))
    × (l.count < 2 ^ 64)
