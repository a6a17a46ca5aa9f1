use Rattle.std.proofs.Common.{rules, ◌≡◌, ◌∙◌, ◌++◌, List, [], ℕ, true, length, subst, sym, append-nil, refl}
use Rattle.std.specs.List.{list_all}
use Rattle.ev_http.specs.declared.head.Judged.TheVariants as judged
use Rattle.ev_http.specs.Heads.{is_blank_byte, HasNoHead, BeginsWithHead, NeverFits, MayBecome, IsOpenHead}
use Rattle.ev_http.proofs.Takings.{Took-none, Took-append, grown_twice}
use Rattle.ev_http.proofs.Heads.{head_whole, head_stops, never_fits-full, IsOpenHead-grows, may_become}
use Rattle.ev_http.proofs.head.take_head.Goals as goal

pub returns-in-Whole : goal.returns-in-Whole
returns-in-Whole g c =
    let was = c.lines.invariant in
    let got = rw c.in-Ok-LineFeed.field-0-is at c.in-Ok-LineFeed.ensures.line in
    let begins = subst (λ (x : List ℕ). BeginsWithHead c.args.kind x) c.as_slice-in-Ok-LineFeed-2.ensures.value (c.in-Whole.ensures.whole refl) in
    record {
      head = (
        was.0 ++ got.0,
        Took-append _ _ _ _ _ _ _ _ _ was.1 got.1,
        λ begun. let fits = head_whole _ _ _ _ (was.3 begun) got.2.0 got.2.1 got.2.2 begins in (grown_twice _ _ _ _ _ was.2 got.2.1, fits.0, fits.1),
      );
    }

pub returns-in-Ok-Full : goal.returns-in-Ok-Full
returns-in-Ok-Full g c =
    let was = c.lines.invariant in
    let got = rw c.in-Ok-Full.field-0-is at c.in-Ok-Full.ensures.line in
    record { head = (was.0 ++ got.0, Took-append _ _ _ _ _ _ _ _ _ was.1 got.1, λ begun. (grown_twice _ _ _ _ _ was.2 got.2.0.grown, never_fits-full _ _ (IsOpenHead-grows _ _ _ _ (was.3 begun) got.2.0).none got.2.1)) }

pub returns-in_default : goal.returns-in_default
returns-in_default g c =
    let was = c.lines.invariant in
    let got = rw c.in-Ok-End.field-0-is at c.in-Ok-End.ensures.line in
    let same = c.as_slice-in-Ok-End.ensures.value in
    let may : IsOpenHead c.args.kind c.take_line.new.line.items → MayBecome c.args.kind c.take_line.new.line.items = λ open_head.
    may_become c.judge.result c.args.kind c.take_line.new.line.items open_head.none (subst (λ (x : List ℕ). c.judge.result ≡ judged.Whole → BeginsWithHead c.args.kind x) same c.judge.ensures.whole)
    (subst (λ (x : List ℕ). c.judge.result ≡ judged.More → MayBecome c.args.kind x) same c.judge.ensures.may) c.in_default.not-Never in
    record { head = (was.0 ++ got.0, Took-append _ _ _ _ _ _ _ _ _ was.1 got.1, λ begun. (grown_twice _ _ _ _ _ was.2 got.2.0.grown, IsOpenHead-grows _ _ _ _ (was.3 begun) got.2.0, got.2.1, refl, may (IsOpenHead-grows _ _ _ _ (was.3 begun) got.2.0))) }

pub returns-in-Err : goal.returns-in-Err
returns-in-Err g c =
    let was = c.lines.invariant in
    let got = c.in-Err.ensures.line in
    record { head = (was.0 ++ got.0, Took-append _ _ _ _ _ _ _ _ _ was.1 got.1, λ begun. head_stops c.in-Err.fault _ _ _ _ _ _ _ _ was.2 (was.3 begun) got.2) }

pub returns-in-Never : goal.returns-in-Never
returns-in-Never g c =
    let was = c.lines.invariant in
    let got = rw c.in-Ok-LineFeed.field-0-is at c.in-Ok-LineFeed.ensures.line in
    let never = subst (λ (x : List ℕ). NeverFits c.args.kind x) c.as_slice-in-Ok-LineFeed-2.ensures.value (c.in-Never.ensures.never refl) in
    record { head = (was.0 ++ got.0, Took-append _ _ _ _ _ _ _ _ _ was.1 got.1, λ begun. (grown_twice _ _ _ _ _ was.2 got.2.1, never)) }

pub returns-in-Never-judge : goal.returns-in-Never-judge
returns-in-Never-judge g c =
    let was = c.lines.invariant in
    let got = rw c.in-Ok-End.field-0-is at c.in-Ok-End.ensures.line in
    let never = subst (λ (x : List ℕ). NeverFits c.args.kind x) c.as_slice-in-Ok-End.ensures.value (c.in-Never-judge.ensures.never refl) in
    record { head = (was.0 ++ got.0, Took-append _ _ _ _ _ _ _ _ _ was.1 got.1, λ begun. (grown_twice _ _ _ _ _ was.2 got.2.0.grown, never)) }

pub lines-init : goal.lines-init
lines-init g c = (
  [],
  Took-none c.args.tally.now _ c.requires.within,
  sym (append-nil c.args.head.now.items),
  (λ begun. begun),
  (λ yes. subst (λ (x : List ℕ). list_all is_blank_byte x ≡ true) c.as_slice.ensures.value (sym c.is_blank-blank.ensures ∙ yes)),
)

pub lines-preserved : goal.lines-preserved
lines-preserved g c =
    let was = c.lines.invariant in
    let got = rw c.in-Ok-LineFeed.field-0-is at c.in-Ok-LineFeed.ensures.line in
    let size : c.len-from.result ≡ length c.lines.head.items = search (rules, c.len-from.ensures) in
    let blank : c.stays_blank-blank.result ≡ true → list_all is_blank_byte c.take_line.new.line.items ≡ true = λ yes.
    subst (λ (x : List ℕ). list_all is_blank_byte x ≡ true) c.as_slice-in-Ok-LineFeed.ensures.value
    (c.stays_blank-blank.ensures c.lines.head.items got.0 (c.as_slice-in-Ok-LineFeed.ensures.value ∙ got.2.1) size was.4 yes) in
    let same = c.as_slice-in-Ok-LineFeed-2.ensures.value in
    let none : HasNoHead c.args.kind c.lines.head.items → HasNoHead c.args.kind c.take_line.new.line.items = λ old. subst (λ (x : List ℕ). HasNoHead c.args.kind x) same
    (c.judge_begun.ensures.more (λ yes. subst (λ (x : List ℕ). list_all is_blank_byte x ≡ true) (sym same) (blank yes)) c.lines.head.items got.0 old got.2.0 (same ∙ got.2.1) c.in-More.is) in
    (was.0 ++ got.0, Took-append _ _ _ _ _ _ _ _ _ was.1 got.1, grown_twice _ _ _ _ _ was.2 got.2.1, (λ begun. record { none = none (was.3 begun).none; short = got.2.2 }), blank)
