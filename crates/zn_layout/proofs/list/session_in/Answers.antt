use Rattle.std.proofs.Common.{Option, List, sym, subst, refl}
use Rattle.std.specs.Cmp.Lexicographic.{slice_cmp}
use Rattle.std.specs.List.Sorted.{IsStrictlySortedBy}
use Rattle.std.specs.Ordering.{nat_cmp}
use Rattle.std.proofs.lemmas.Bool.{false≢true}
use Rattle.zk_jute.specs.JuteWriting.{string_bytes}
use Rattle.zx_base.specs.Maps.{Bytes}
use Rattle.zn_layout.specs.Records.{layout_byte, session_value, IsSessionRec}
use Rattle.zn_layout.specs.ReadingSteps.{IsValidPath, TakesItems}
use Rattle.zn_layout.proofs.ListRecords.{byte_of, paths_of, sessions, other_first, uncounted, untaken, trailing, session-read, session-unsorted}
use Rattle.zn_layout.proofs.list.session_in.Goals as goal

pub returns-in_default : goal.returns-in_default
returns-in_default c = other_first byte_of paths_of session_value IsSessionRec string_bytes IsValidPath sessions c.args.value.now (λ r. c.in_default.ensures r.layout)

pub returns-in_default-split_count : goal.returns-in_default-split_count
returns-in_default-split_count c = uncounted byte_of paths_of session_value IsSessionRec string_bytes IsValidPath sessions (layout_byte c.in-Some.layout) c.args.value.now c.in-Some.numbers.now c.in-Some.ensures c.in_default-split_count.ensures

pub returns-in_default-2 : goal.returns-in_default-2
returns-in_default-2 c =
    let counted = c.in-Some-split_count in
    untaken byte_of paths_of session_value IsSessionRec string_bytes IsValidPath sessions (layout_byte c.in-Some.layout) c.args.value.now c.in-Some.numbers.now counted.rest.now c.paths.new.self counted.count c.in-Some.ensures counted.ensures
    (subst (λ (o : Option (List Bytes)). TakesItems string_bytes IsValidPath counted.count counted.rest.now c.paths.new.self o) c.in_default-2.is c.in_ok-paths.ensures)

pub returns-then-not-is_done : goal.returns-then-not-is_done
returns-then-not-is_done c =
    let counted = c.in-Some-split_count in
    trailing byte_of paths_of session_value IsSessionRec string_bytes IsValidPath sessions (layout_byte c.in-Some.layout) c.args.value.now c.in-Some.numbers.now counted.rest.now c.paths.new.self counted.count c.in-Some-2.paths c.in-Some.ensures counted.ensures
    (subst (λ (o : Option (List Bytes)). TakesItems string_bytes IsValidPath counted.count counted.rest.now c.paths.new.self o) c.in-Some-2.is c.in_ok-paths.ensures)
    (λ e. false≢true (c.if-not-is_done.ensures.1 e))

pub returns-then-are_rising : goal.returns-then-are_rising
returns-then-are_rising c =
    let counted = c.in-Some-split_count in
    session-read c.in-Some.layout c.args.value.now c.in-Some.numbers.now counted.rest.now c.paths.new.self counted.count c.in-Some-2.paths c.in-Some.ensures counted.ensures
    (subst (λ (o : Option (List Bytes)). TakesItems string_bytes IsValidPath counted.count counted.rest.now c.paths.new.self o) c.in-Some-2.is c.in_ok-paths.ensures)
    (c.if-not-is_done.ensures.0 refl)
    (subst (λ (qs : List Bytes). IsStrictlySortedBy (slice_cmp nat_cmp) qs) c.as_slice.ensures (c.if-are_rising.ensures.0 refl))

pub returns-else-are_rising : goal.returns-else-are_rising
returns-else-are_rising c =
    let counted = c.in-Some-split_count in
    session-unsorted (layout_byte c.in-Some.layout) c.args.value.now c.in-Some.numbers.now counted.rest.now c.paths.new.self counted.count c.in-Some-2.paths c.in-Some.ensures counted.ensures
    (subst (λ (o : Option (List Bytes)). TakesItems string_bytes IsValidPath counted.count counted.rest.now c.paths.new.self o) c.in-Some-2.is c.in_ok-paths.ensures)
    (c.if-not-is_done.ensures.0 refl)
    (λ sorted. false≢true (c.if-are_rising.ensures.1 (subst (λ (qs : List Bytes). IsStrictlySortedBy (slice_cmp nat_cmp) qs) (sym c.as_slice.ensures) sorted)))
