-- What a server does for its clients, one thing after the other.
use Rattle.std.proofs.Common.{◌≡◌, ℕ, zero, suc, ◌+◌, ◌-◌, ◌*◌, ◌<◌, ◌≤◌, Bool, true, false, List, [], ◌∷◌, ◌++◌, length, map, filter, filter_map, flat_map, Option, Some, None, refl, sym, ap, ◌∙◌, subst, arith, append_assoc, append-nil, length-append}
use Rattle.std.specs.Prelude.{IsPermutation}
use Rattle.std.proofs.lemmas.List.{map-append}
use Rattle.std.proofs.lemmas.List.Elements.{filter-append, filter_map-append}
use Rattle.std.proofs.lemmas.Grind.{flat_map-append}
use Rattle.std.proofs.lemmas.List.Sorted.{IsPermutation-refl, IsPermutation-trans, IsPermutation-append_comm, IsPermutation-append_left, IsPermutation-append_right}
use Rattle.std.proofs.Math.Nat.{mul-add}
use Rattle.std.specs.Io.KnownBytes.{append_known}
use Rattle.zx_outside.specs.Counts.{one_more}
use Rattle.zx_outside.proofs.Streams.{Takes-append, append_known-nil}
use Rattle.zp_server.specs.Books.{Ending, with_ending, with_endings}
use Rattle.zp_server.specs.Lines.{Line, Closed, NoLink, closed_text, ending_in, is_fed, is_feed_closed, no_link_text, number_of_line, text_of, unlinked}
use Rattle.zp_server.specs.Telling.{IsWritten, Seen, more}
use Rattle.zp_server.specs.Logs.{Logs}
use Rattle.ev_link.specs.Reaching.{undialled_times}
use Rattle.zx_net.specs.Nets.{NetCounts}

-- ---- counts and books

more_none : (count : ℕ) → more 0 count ≡ count
more_none count = omega arith

more_plus : (n k count : ℕ) → more k (more n count) ≡ more (n + k) count
more_plus n k count = omega arith

-- ---- dials that failed

none_failed : (size count : ℕ) → count ≡ more (size * 0 + 0) count
none_failed size count = sym (more_none count) ∙ ap (λ (n : ℕ). more (n + 0) count) (let none : 0 ≡ size * 0 = omega arith in none)

none_then : (size failed : ℕ) → failed ≡ size * 0 + failed
none_then size failed = let none : size * 0 ≡ 0 = omega arith in omega (arith, none)

all_failed : (size : ℕ) → size ≡ size * 1 + 0
all_failed size = omega arith

none_passed : (n : ℕ) → 0 + n ≤ n
none_passed n = omega arith

some_failed : (size failed : ℕ) → failed < size → failed + (size - 1) * 0 ≤ (size - 1) * 1
some_failed size failed fewer = let none : (size - 1) * 0 ≡ 0 = omega arith in omega (arith, none, fewer)

pub times_failed : (n : ℕ) (counts : NetCounts) → (undialled_times n counts).dial_faults ≡ more n counts.dial_faults
times_failed zero counts = sym (more_none counts.dial_faults)
times_failed (suc n) counts = ap one_more (times_failed n counts) ∙ more_plus n 1 counts.dial_faults ∙ ap (λ (k : ℕ). more k counts.dial_faults) (let k : n + 1 ≡ suc n = omega arith in k)

pub same_accepted : (n : ℕ) (counts : NetCounts) → (undialled_times n counts).accepted ≡ counts.accepted
same_accepted zero counts = refl
same_accepted (suc n) counts = same_accepted n counts

pub same_doors : (n : ℕ) (counts : NetCounts) → (undialled_times n counts).door_faults ≡ counts.door_faults
same_doors zero counts = refl
same_doors (suc n) counts = same_doors n counts

unlinked_both : (n : ℕ) (xs ys : List Line) → n * length (filter_map unlinked (xs ++ ys)) ≡ n * length (filter_map unlinked xs) + n * length (filter_map unlinked ys)
unlinked_both n xs ys =
    ap (λ (k : ℕ). n * k) (ap length (filter_map-append unlinked xs ys) ∙ length-append (filter_map unlinked xs) (filter_map unlinked ys)) ∙ mul-add n (length (filter_map unlinked xs)) (length (filter_map unlinked ys))

few_both : (other a b : ℕ) (xs ys : List Line) (fresh fresh' : List ℕ) → a + other * length (filter_map unlinked xs) ≤ other * length fresh → b + other * length (filter_map unlinked ys) ≤ other * length fresh'
    → (a + b) + other * length (filter_map unlinked (xs ++ ys)) ≤ other * length (fresh' ++ fresh)
few_both other a b xs ys fresh fresh' first then =
    let all : other * length (fresh' ++ fresh) ≡ other * length fresh' + other * length fresh = ap (λ (n : ℕ). other * n) (length-append fresh' fresh) ∙ mul-add other (length fresh') (length fresh) in
    let lost = unlinked_both other xs ys in
    omega (arith, all, lost, first, then)

failed_both : (size a b : ℕ) (xs ys : List Line) → (size * length (filter_map unlinked xs) + a) + (size * length (filter_map unlinked ys) + b) ≡ size * length (filter_map unlinked (xs ++ ys)) + (a + b)
failed_both size a b xs ys = let all = unlinked_both size xs ys in omega (arith, all)

-- ---- books

with_none : (book : Option (List Ending)) → book ≡ with_endings book []
with_none None = refl
with_none (Some es) = ap Some (sym (append-nil es))

with_one : (book : Option (List Ending)) (e : Ending) → with_ending book e ≡ with_endings book (e ∷ [])
with_one None e = refl
with_one (Some es) e = refl

with_more : (book : Option (List Ending)) (es es' : List Ending) → with_endings (with_endings book es) es' ≡ with_endings book (es ++ es')
with_more None es es' = refl
with_more (Some all) es es' = ap Some (append_assoc all es es')

-- ---- one step

pub logs_none : (size : ℕ) (met : Bool) (busy : List ℕ) (t : Seen) → Logs size met 0 [] busy busy t t
logs_none size met busy t = record {
  lines = [];
  accepted = sym (more_none (t.net).accepted);
  doors = refl;
  passed = 0;
  few = none_passed ((size - 1) * 0);
  dials = none_failed size (t.net).dial_faults;
  numbers = IsPermutation-refl busy;
  fed = λ unmet. refl;
  book = with_none t.book;
  written = sym (append_known-nil (t.out).taken);
  unharmed = refl;
}

pub logs_same : (size : ℕ) (met : Bool) (busy busy' : List ℕ) (t : Seen) → busy' ≡ busy → Logs size met 0 [] busy busy' t t
logs_same size met busy busy' t same = subst (λ (numbers : List ℕ). Logs size met 0 [] busy numbers t t) (sym same) (logs_none size met busy t)

-- a client was accepted
pub logs_accepted : (size : ℕ) (met : Bool) (busy : List ℕ) (t t' : Seen) → (t'.net).accepted ≡ one_more (t.net).accepted → (t'.net).door_faults ≡ (t.net).door_faults
    → (t'.net).dial_faults ≡ (t.net).dial_faults → t'.out ≡ t.out → t'.book ≡ t.book → Logs size met 1 [] busy busy t t'
logs_accepted size met busy t t' accepted doors dials out book = record {
  lines = [];
  accepted = accepted;
  doors = doors;
  passed = 0;
  few = none_passed ((size - 1) * 0);
  dials = dials ∙ none_failed size (t.net).dial_faults;
  numbers = IsPermutation-refl busy;
  fed = λ unmet. refl;
  book = book ∙ with_none t.book;
  written = ap (λ o. o.taken) out ∙ sym (append_known-nil (t.out).taken);
  unharmed = ap (λ o. o.counts) out;
}

-- its worker was started
pub logs_started : (size : ℕ) (met : Bool) (number : ℕ) (busy : List ℕ) (t t' : Seen) (failed : ℕ) → failed < size → t'.net ≡ undialled_times failed t.net → t'.out ≡ t.out → t'.book ≡ t.book
    → Logs size met 0 (number ∷ []) busy (busy ++ number ∷ []) t t'
logs_started size met number busy t t' failed fewer net out book = record {
  lines = [];
  accepted = ap (λ n. n.accepted) net ∙ same_accepted failed t.net ∙ sym (more_none (t.net).accepted);
  doors = ap (λ n. n.door_faults) net ∙ same_doors failed t.net;
  passed = failed;
  few = some_failed size failed fewer;
  dials = ap (λ n. n.dial_faults) net ∙ times_failed failed t.net ∙ ap (λ (n : ℕ). more n (t.net).dial_faults) (none_then size failed);
  numbers = IsPermutation-append_comm busy (number ∷ []);
  fed = λ unmet. refl;
  book = book ∙ with_none t.book;
  written = ap (λ o. o.taken) out ∙ sym (append_known-nil (t.out).taken);
  unharmed = ap (λ o. o.counts) out;
}

-- there was no link for it, and that was written
pub logs_unlinked : (size : ℕ) (met : Bool) (number : ℕ) (busy : List ℕ) (t t' : Seen) → (t'.net).accepted ≡ (t.net).accepted → (t'.net).door_faults ≡ (t.net).door_faults
    → (t'.net).dial_faults ≡ more size (t.net).dial_faults → IsWritten (no_link_text number) t.out t'.out → t'.book ≡ t.book
    → Logs size met 0 (number ∷ []) busy busy t t'
logs_unlinked size met number busy t t' accepted doors dials written book = record {
  lines = NoLink number ∷ [];
  accepted = accepted ∙ sym (more_none (t.net).accepted);
  doors = doors;
  passed = 0;
  few = none_passed ((size - 1) * 1);
  dials = dials ∙ ap (λ (n : ℕ). more n (t.net).dial_faults) (all_failed size);
  numbers = IsPermutation-refl (number ∷ busy);
  fed = λ unmet. refl;
  book = book ∙ with_none t.book;
  written = subst (λ (text : List ℕ). (t'.out).taken ≡ append_known (t.out).taken text) (sym (append-nil (no_link_text number))) written.taken;
  unharmed = written.unharmed;
}

-- its worker has handed it back, and that was written and given to the book
pub logs_closed : (size : ℕ) (met : Bool) (e : Ending) (busy busy' : List ℕ) (t t' : Seen) → (met ≡ false → is_feed_closed e.cause ≡ false) → IsPermutation (e.number ∷ busy') busy
    → t'.net ≡ t.net → IsWritten (closed_text e.number e.cause) t.out t'.out → t'.book ≡ with_ending t.book e → Logs size met 0 [] busy busy' t t'
logs_closed size met e busy busy' t t' fed numbers net written book = record {
  lines = Closed e ∷ [];
  accepted = ap (λ n. n.accepted) net ∙ sym (more_none (t.net).accepted);
  doors = ap (λ n. n.door_faults) net;
  passed = 0;
  few = none_passed ((size - 1) * 0);
  dials = ap (λ n. n.dial_faults) net ∙ none_failed size (t.net).dial_faults;
  numbers = numbers;
  fed = λ unmet. rw (fed unmet) refl;
  book = book ∙ with_one t.book e;
  written = subst (λ (text : List ℕ). (t'.out).taken ≡ append_known (t.out).taken text) (sym (append-nil (closed_text e.number e.cause))) written.taken;
  unharmed = written.unharmed;
}

-- ---- steps in a row

numbers_then : (xs ys fresh fresh' busy busy' busy'' : List ℕ) → IsPermutation (xs ++ busy') (fresh ++ busy) → IsPermutation (ys ++ busy'') (fresh' ++ busy')
    → IsPermutation ((xs ++ ys) ++ busy'') ((fresh' ++ fresh) ++ busy)
numbers_then xs ys fresh fresh' busy busy' busy'' first then =
    let far : IsPermutation (xs ++ (ys ++ busy'')) (xs ++ (fresh' ++ busy')) = IsPermutation-append_right xs (ys ++ busy'') (fresh' ++ busy') then in
    let over : IsPermutation ((xs ++ fresh') ++ busy') ((fresh' ++ xs) ++ busy') = IsPermutation-append_left busy' (xs ++ fresh') (fresh' ++ xs) (IsPermutation-append_comm xs fresh') in
    let near : IsPermutation (fresh' ++ (xs ++ busy')) (fresh' ++ (fresh ++ busy)) = IsPermutation-append_right fresh' (xs ++ busy') (fresh ++ busy) first in
    let over' : IsPermutation (xs ++ (fresh' ++ busy')) (fresh' ++ (xs ++ busy')) = rw (append_assoc xs fresh' busy', append_assoc fresh' xs busy') at over in
    rw (append_assoc xs ys busy'', append_assoc fresh' fresh busy) (IsPermutation-trans _ _ _ far (IsPermutation-trans _ _ _ over' near))

pub logs_then : (size : ℕ) (met : Bool) (k k' sum : ℕ) (is : sum ≡ k + k') (fresh fresh' busy busy' busy'' : List ℕ) (t t' t'' : Seen) → Logs size met k fresh busy busy' t t' → Logs size met k' fresh' busy' busy'' t' t''
    → Logs size met sum (fresh' ++ fresh) busy busy'' t t''
logs_then size met k k' sum is fresh fresh' busy busy' busy'' t t' t'' a b = record {
  lines = a.lines ++ b.lines;
  accepted = b.accepted ∙ ap (more k') a.accepted ∙ more_plus k k' (t.net).accepted ∙ ap (λ (n : ℕ). more n (t.net).accepted) (sym is);
  doors = b.doors ∙ a.doors;
  passed = a.passed + b.passed;
  few = few_both (size - 1) a.passed b.passed a.lines b.lines fresh fresh' a.few b.few;
  dials = b.dials ∙ ap (more (size * length (filter_map unlinked b.lines) + b.passed)) a.dials
      ∙ more_plus (size * length (filter_map unlinked a.lines) + a.passed) (size * length (filter_map unlinked b.lines) + b.passed) (t.net).dial_faults
      ∙ ap (λ (n : ℕ). more n (t.net).dial_faults) (failed_both size a.passed b.passed a.lines b.lines);
  numbers = rw (map-append number_of_line a.lines b.lines) (numbers_then (map number_of_line a.lines) (map number_of_line b.lines) fresh fresh' busy busy' busy'' a.numbers b.numbers);
  fed = λ unmet. filter-append is_fed a.lines b.lines ∙ ap (λ (ls : List Line). ls ++ filter is_fed b.lines) (a.fed unmet) ∙ b.fed unmet;
  book = b.book ∙ ap (λ (bk : Option (List Ending)). with_endings bk (filter_map ending_in b.lines)) a.book ∙ with_more t.book (filter_map ending_in a.lines) (filter_map ending_in b.lines)
      ∙ ap (with_endings t.book) (sym (filter_map-append ending_in a.lines b.lines));
  written = rw (flat_map-append text_of a.lines b.lines) (Takes-append (flat_map text_of a.lines) (flat_map text_of b.lines) (t.out).taken (t'.out).taken (t''.out).taken a.written b.written);
  unharmed = b.unharmed ∙ a.unharmed;
}

-- it may be that one met the hub closed
pub logs_met : (size : ℕ) (met : Bool) (k : ℕ) (fresh busy busy' : List ℕ) (t t' : Seen) → Logs size met k fresh busy busy' t t' → Logs size true k fresh busy busy' t t'
logs_met size met k fresh busy busy' t t' a = record {
  lines = a.lines;
  accepted = a.accepted;
  doors = a.doors;
  passed = a.passed;
  few = a.few;
  dials = a.dials;
  numbers = a.numbers;
  fed = λ unmet. absurd (cc);
  book = a.book;
  written = a.written;
  unharmed = a.unharmed;
}
