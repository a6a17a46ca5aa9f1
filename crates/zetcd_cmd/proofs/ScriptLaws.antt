-- What a script that begins with whole lines says, by what follows them.
use Rattle.std.proofs.Common.{◌≡◌, ℕ, ◌+◌, ◌-◌, ◌<◌, ◌≤◌, ◌==◌, Bool, true, false, if◌then◌else◌, true≢false, List, [], ◌∷◌, ◌++◌, length, take, suc, refl, sym, ap, ◌∙◌, arith, append_assoc, append-nil, length-append, inl, inr}
use Rattle.std.specs.Prelude.{nat_lt, Some, None}
use Rattle.std.specs.List.{onto_first}
use Rattle.std.proofs.Math.Seq.{take-append-add, take-append_seam}
use Rattle.std.proofs.lemmas.Bool.{lt-ltb, le-ltb}
use Rattle.std.proofs.lemmas.List.{take_all}
use Rattle.std.proofs.lemmas.List.Elements.{All-head, All-tail}
use Rattle.std.proofs.lemmas.List.Splits.{slice_split-cons_no}
use Rattle.zt_text.specs.declared.script.Happening.{Happening}
use Rattle.zt_text.specs.declared.script.Unread.TheVariants.{Unreadable, TooLong}
use Rattle.zt_text.specs.Scripts.{Script, pieces, happenings_from, last_happening, then_script, happening_read, max_line, script_from}
use Rattle.zt_text.proofs.PieceLaws.{pieces-none, pieces-first, pieces-some}
use Rattle.zetcd_cmd.specs.Scripting.{HasNoLineFeed, ScriptSays, with_first}

-- ---- one line more

-- no line was read yet
pub Says-nil : ScriptSays [] []
Says-nil = record { says = λ is_cut rest. refl; whole = inl refl; many = omega arith }

-- what a line says, with what the lines after it say
lines_from-first : (is_cut : Bool) (n : ℕ) (line rest : List ℕ) → HasNoLineFeed line →
    happenings_from is_cut n (pieces 10 (line ++ 10 ∷ rest)) ≡ then_script n (happening_read line) (happenings_from is_cut (n + 1) (pieces 10 rest))
lines_from-first is_cut n line rest lacks =
    let some = pieces-some 10 rest in
    ap (happenings_from is_cut n) (pieces-first 10 line rest lacks ∙ ap (λ ps. line ∷ ps) some.2)
    ∙ ap (λ ps. then_script n (happening_read line) (happenings_from is_cut (n + 1) ps)) (sym some.2)

after-more : (happenings : List Happening) (h : Happening) (later : Script) → with_first happenings (h ∷ later.0, later.1) ≡ with_first (happenings ++ h ∷ []) later
after-more happenings h later = ap (λ (hs : List Happening). (hs, later.1)) (sym (append_assoc happenings (h ∷ []) later.0))

pub Says-line : (lines line text : List ℕ) (happenings : List Happening) (h : Happening) → ScriptSays lines happenings → HasNoLineFeed line → happening_read line ≡ Some h →
    text ≡ lines ++ (line ++ 10 ∷ []) → ScriptSays text (happenings ++ h ∷ [])
Says-line lines line text happenings h s lacks read text_is =
    let count : length (happenings ++ h ∷ []) ≡ length happenings + 1 = length-append happenings (h ∷ []) in
    let size : length (lines ++ (line ++ 10 ∷ [])) ≡ length lines + (length line + 1) = length-append lines (line ++ 10 ∷ []) ∙ ap (λ n. length lines + n) (length-append line (10 ∷ [])) in
    let many = s.many in
    record {
      says = λ is_cut rest.
          let place : text ++ rest ≡ lines ++ (line ++ 10 ∷ rest) =
          ap (λ t. t ++ rest) text_is ∙ append_assoc lines (line ++ 10 ∷ []) rest ∙ ap (λ t. lines ++ t) (append_assoc line (10 ∷ []) rest) in
          ap (λ t. happenings_from is_cut 1 (pieces 10 t)) place
          ∙ s.says is_cut (line ++ 10 ∷ rest)
          ∙ ap (with_first happenings) (lines_from-first is_cut (length happenings + 1) line rest lacks
          ∙ ap (λ r. then_script (length happenings + 1) r (happenings_from is_cut (length happenings + 1 + 1) (pieces 10 rest))) read)
          ∙ after-more happenings h (happenings_from is_cut (length happenings + 1 + 1) (pieces 10 rest))
          ∙ ap (λ n. with_first (happenings ++ h ∷ []) (happenings_from is_cut (n + 1) (pieces 10 rest))) (sym count);
      whole = inr (lines ++ line, text_is ∙ sym (append_assoc lines line (10 ∷ [])));
      many = rw (text_is, size, count) (omega arith);
    }

-- ---- a script that goes on

-- the lines say the same in a script, and what follows them may be cut
script_from-lines : (room : ℕ) (lines tail : List ℕ) (happenings : List Happening) → ScriptSays lines happenings → length lines ≤ room →
    script_from 1 room (lines ++ tail) ≡ with_first happenings (happenings_from (nat_lt room (length (lines ++ tail))) (length happenings + 1) (pieces 10 (take (room - length lines) tail)))
unfolding script_from
script_from-lines room lines tail happenings s fits =
    let size : room ≡ length lines + (room - length lines) = omega arith in
    let front : take room (lines ++ tail) ≡ lines ++ take (room - length lines) tail =
    ap (λ n. take n (lines ++ tail)) size ∙ take-append-add lines tail (room - length lines) in
    ap (λ t. happenings_from (nat_lt room (length (lines ++ tail))) 1 (pieces 10 t)) front ∙ s.says (nat_lt room (length (lines ++ tail))) (take (room - length lines) tail)

-- a line follows them that ends within the room
pub script_from-line : (room : ℕ) (lines line rest : List ℕ) (happenings : List Happening) → ScriptSays lines happenings → HasNoLineFeed line → length lines + length line < room →
    (later : Script) × (script_from 1 room (lines ++ (line ++ 10 ∷ rest)) ≡ with_first happenings (then_script (length happenings + 1) (happening_read line) later))
script_from-line room lines line rest happenings s lacks fits =
    let tail = line ++ 10 ∷ rest in
    let is_cut = nat_lt room (length (lines ++ tail)) in
    let more = room - length lines - length line - 1 in
    let size : room - length lines ≡ length line + suc more = omega arith in
    let front : take (room - length lines) tail ≡ line ++ 10 ∷ take more rest =
    ap (λ n. take n tail) size ∙ take-append-add line (10 ∷ rest) (suc more) in (
      happenings_from is_cut (length happenings + 1 + 1) (pieces 10 (take more rest)),
      script_from-lines room lines tail happenings s (omega arith)
          ∙ ap (λ t. with_first happenings (happenings_from is_cut (length happenings + 1) (pieces 10 t))) front
          ∙ ap (with_first happenings) (lines_from-first is_cut (length happenings + 1) line (take more rest) lacks),
    )

-- ---- a line that is too long

-- what has no line feed begins the first piece
pieces-begun : (begun rest : List ℕ) → HasNoLineFeed begun → (first : List ℕ) × (others : List (List ℕ)) × (pieces 10 (begun ++ rest) ≡ (begun ++ first) ∷ others)
pieces-begun [] rest lacks = pieces-some 10 rest
pieces-begun (b ∷ bs) rest lacks =
    let later = pieces-begun bs rest (All-tail (λ c. (c == 10) ≡ false) b bs lacks) in
    (later.0, later.1, slice_split-cons_no (λ c. c == 10) b (bs ++ rest) (All-head (λ c. (c == 10) ≡ false) b bs lacks) ∙ ap (onto_first b) later.2)

pub line_read-long : (line : List ℕ) → max_line < length line → happening_read line ≡ None
unfolding happening_read
line_read-long line long = rw (lt-ltb max_line (length line) long) refl

lines_from-long : (is_cut : Bool) (n : ℕ) (first : List ℕ) (others : List (List ℕ)) → nat_lt max_line (length first) ≡ true → happening_read first ≡ None →
    happenings_from is_cut n (first ∷ others) ≡ ([], Some (n, Unreadable))
lines_from-long true n first [] long unread = ap (λ b. ([], Some (n, if b then Unreadable else TooLong))) long
lines_from-long false n [] [] long unread = absurd (true≢false (sym long))
lines_from-long false n (b ∷ bs) [] long unread = ap (λ r. then_script n r ([], None)) unread
lines_from-long true n first (o ∷ os) long unread = ap (λ r. then_script n r (happenings_from true (n + 1) (o ∷ os))) unread
lines_from-long false n first (o ∷ os) long unread = ap (λ r. then_script n r (happenings_from false (n + 1) (o ∷ os))) unread

-- the beginning of a line follows them, and it is too long already
pub script_from-long : (room : ℕ) (lines begun rest : List ℕ) (happenings : List Happening) → ScriptSays lines happenings → HasNoLineFeed begun → max_line < length begun →
    length lines + length begun ≤ room → script_from 1 room (lines ++ (begun ++ rest)) ≡ (happenings, Some (length happenings + 1, Unreadable))
script_from-long room lines begun rest happenings s lacks long fits =
    let tail = begun ++ rest in
    let is_cut = nat_lt room (length (lines ++ tail)) in
    let more = room - length lines - length begun in
    let size : room - length lines ≡ length begun + more = omega arith in
    let front : take (room - length lines) tail ≡ begun ++ take more rest = ap (λ n. take n tail) size ∙ take-append-add begun rest more in
    let split = pieces-begun begun (take more rest) lacks in
    let first = begun ++ split.0 in
    let long_first : max_line < length first = rw (length-append begun split.0) (omega arith) in
    script_from-lines room lines tail happenings s (omega arith)
    ∙ ap (λ t. with_first happenings (happenings_from is_cut (length happenings + 1) (pieces 10 t))) front
    ∙ ap (λ ps. with_first happenings (happenings_from is_cut (length happenings + 1) ps)) split.2
    ∙ ap (with_first happenings) (lines_from-long is_cut (length happenings + 1) first split.1 (lt-ltb max_line (length first) long_first) (line_read-long first long_first))
    ∙ ap (λ (hs : List Happening). (hs, Some (length happenings + 1, Unreadable))) (append-nil happenings)

-- ---- a script that ends

-- a last line without a line feed follows them, or nothing
pub script_from-last : (room : ℕ) (lines line : List ℕ) (happenings : List Happening) → ScriptSays lines happenings → HasNoLineFeed line → length lines + length line ≤ room →
    script_from 1 room (lines ++ line) ≡ with_first happenings (last_happening false (length happenings + 1) line)
script_from-last room lines line happenings s lacks fits =
    let whole : take (room - length lines) line ≡ line = take_all (room - length lines) line (omega arith) in
    let uncut : nat_lt room (length (lines ++ line)) ≡ false = le-ltb room (length (lines ++ line)) (rw (length-append lines line) fits) in
    script_from-lines room lines line happenings s (omega arith)
    ∙ ap (λ t. with_first happenings (happenings_from (nat_lt room (length (lines ++ line))) (length happenings + 1) (pieces 10 t))) whole
    ∙ ap (λ b. with_first happenings (happenings_from b (length happenings + 1) (pieces 10 line))) uncut
    ∙ ap (λ ps. with_first happenings (happenings_from false (length happenings + 1) ps)) (pieces-none 10 line lacks)

-- a line follows them in which the room ends
pub script_from-cut : (room : ℕ) (lines line rest : List ℕ) (happenings : List Happening) → ScriptSays lines happenings → HasNoLineFeed line → length line ≤ max_line →
    length lines + length line ≡ room → 0 < length rest → script_from 1 room (lines ++ (line ++ rest)) ≡ (happenings, Some (length happenings + 1, TooLong))
script_from-cut room lines line rest happenings s lacks short full more =
    let tail = line ++ rest in
    let left : room - length lines ≡ length line = omega arith in
    let front : take (room - length lines) tail ≡ line = ap (λ n. take n tail) left ∙ take-append_seam line rest in
    let size : length (lines ++ tail) ≡ length lines + (length line + length rest) = length-append lines tail ∙ ap (λ n. length lines + n) (length-append line rest) in
    let cut : nat_lt room (length (lines ++ tail)) ≡ true = lt-ltb room (length (lines ++ tail)) (rw size (omega arith)) in
    script_from-lines room lines tail happenings s (omega arith)
    ∙ ap (λ t. with_first happenings (happenings_from (nat_lt room (length (lines ++ tail))) (length happenings + 1) (pieces 10 t))) front
    ∙ ap (λ b. with_first happenings (happenings_from b (length happenings + 1) (pieces 10 line))) cut
    ∙ ap (λ ps. with_first happenings (happenings_from true (length happenings + 1) ps)) (pieces-none 10 line lacks)
    ∙ ap (λ b. with_first happenings ([], Some (length happenings + 1, if b then Unreadable else TooLong))) (le-ltb max_line (length line) short)
    ∙ ap (λ (hs : List Happening). (hs, Some (length happenings + 1, TooLong))) (append-nil happenings)
