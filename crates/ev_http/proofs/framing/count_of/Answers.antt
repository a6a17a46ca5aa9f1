use Rattle.std.proofs.Common.{rules, ◌≡◌, ◌≤◌, ◌<◌, length, ◌+◌, ◌*◌, true, drop, get_or, ap, sym, ◌∙◌, arith, ◌&&◌}
use Rattle.std.specs.List.{list_all}
use Rattle.std.specs.Char.{is_ascii_digit, digit_value}
use Rattle.std.specs.Str.Parse.{digits_value_after}
use Rattle.std.proofs.lemmas.List.{at_drop_more, at_drop_all}
use Rattle.std.proofs.lemmas.Str.{digit_value_digit}
use Rattle.std.proofs.lemmas.Bool.{eqb-false}
use Rattle.ev_http.specs.Taking.{counted}
use Rattle.ev_http.proofs.Framings.{counted-digits, some_count}
use Rattle.ev_http.proofs.framing.count_of.Goals as goal

pub digits-preserved : goal.digits-preserved
digits-preserved c =
    let v = c.args.value.now in
    let i = c.digits.digit-index in
    let d = get_or v i 0 in
    let lt : i < length v = search rules in
    let is : is_ascii_digit d ≡ true = search rules in
    let plain : digit_value d + 48 ≡ d = digit_value_digit d (search rules) in
    let all = at_drop_more (list_all is_ascii_digit) v i 0 lt in
    let value = at_drop_more (digits_value_after 10 c.digits.count) v i 0 lt in
    let same : counted (c.digits.count * 10 + digit_value d) ≡ counted c.saturating_add-count.result = omega (arith, c.saturating_mul.ensures, c.saturating_add-count.ensures) in (
      c.digits.invariant.0 ∙ all ∙ ap (λ b. b && list_all is_ascii_digit (drop (i + 1) v)) is,
      c.digits.invariant.1 ∙ ap counted value ∙ counted-digits (c.digits.count * 10 + digit_value d) c.saturating_add-count.result (drop (i + 1) v) same,
      omega (arith, c.saturating_mul.ensures, c.saturating_add-count.ensures),
    )

pub returns : goal.returns
returns c =
    let v = c.args.value.now in
    let some : 0 < length v = omega (arith, eqb-false (length v) 0 (sym c.is_empty.ensures ∙ c.if-is_empty.false)) in
    let end : length v ≤ c.digits.digit-index = c.digits-test.false in
    let all : list_all is_ascii_digit v ≡ true = c.digits.invariant.0 ∙ at_drop_all (list_all is_ascii_digit) v c.digits.digit-index end in
    let value : counted (digits_value_after 10 0 v) ≡ counted c.digits.count = c.digits.invariant.1 ∙ ap counted (at_drop_all (digits_value_after 10 c.digits.count) v c.digits.digit-index end) in
    some_count v c.digits.count some all value c.digits.invariant.2
