-- Where the lines of a head stand.
use Rattle.std.proofs.Common.{◌≡◌, ℕ, ◌+◌, ◌-◌, ◌≤◌, List, [], ◌∷◌, ◌++◌, length, take, drop, map, suc, zero, refl, sym, ap, subst, ◌∙◌, append_assoc, append-nil, length-append, arith, inr}
use Rattle.std.specs.Prelude.{All}
use Rattle.std.specs.List.{flat_map}
use Rattle.std.proofs.Math.Seq.{take-append_seam}
use Rattle.std.proofs.lemmas.List.{take-append-drop}
use Rattle.std.proofs.Common.{false, length-drop}
use Rattle.std.proofs.lemmas.List.Elements.{All-head, All-tail, All-nil, All-cons, All-append, All-take, All-drop}
use Rattle.httparse.specs.Grammar.{LineEnd, crlf, lf, Field, IsField, is_token_byte, is_value_byte, print_end, print_blank, print_version, print_reason, print_field, print_section, print_response, print_request}
use Rattle.std.proofs.lemmas.Grind.{flat_map-append}
use Rattle.zx_outside.specs.Reading.{HasNoFeed}
use Rattle.ev_http.specs.Taking.{IsLine}
use Rattle.ev_http.specs.declared.head.Kind.{Kind}
use Rattle.ev_http.specs.declared.head.Kind.TheVariants as kind
use Rattle.ev_http.specs.Heads.{IsHead}
use Rattle.ev_http.specs.Framing.{EndsInFeed, StandsAt}
use Rattle.ev_http.proofs.Takings.{no_feed-nil}
use Rattle.ev_http.proofs.Feeds.{pass_no_feed, no_feed-append, no_feed-cons}

abbrev pub joined : List (List ℕ) → List ℕ
joined lines = flat_map (λ (line : List ℕ). line) lines

pub feed_joined : (before : List ℕ) (lines : List (List ℕ)) → EndsInFeed before → All IsLine lines → EndsInFeed (before ++ joined lines)
feed_joined before [] ends all = subst (λ (x : List ℕ). EndsInFeed x) (sym (append-nil before)) ends
feed_joined before (l ∷ lines) ends all =
    let is = All-head IsLine l lines all in
    let whole : before ++ l ≡ (before ++ is.0) ++ 10 ∷ [] = ap (λ (x : List ℕ). before ++ x) is.2 ∙ sym (append_assoc before is.0 (10 ∷ [])) in
    subst (λ (x : List ℕ). EndsInFeed x) (append_assoc before l (joined lines)) (feed_joined (before ++ l) lines (inr (before ++ is.0, whole)) (All-tail IsLine l lines all))

line_at : (lines : List (List ℕ)) (k : ℕ) → All IsLine lines → suc k ≤ length lines → (line : List ℕ) × IsLine line × (take (suc k) lines ≡ take k lines ++ line ∷ [])
line_at [] k all le = absurd (omega arith)
line_at (l ∷ lines) zero all le = (l, All-head IsLine l lines all, refl)
line_at (l ∷ lines) (suc k) all le =
    let later = line_at lines k (All-tail IsLine l lines all) (omega (arith, le)) in
    (later.0, later.1, ap (λ (x : List (List ℕ)). l ∷ x) later.2)

-- one line back
pub line_back : (bytes before : List ℕ) (lines : List (List ℕ)) (k end start : ℕ) → bytes ≡ before ++ joined lines → All IsLine lines → All IsLine (take k lines) → suc k ≤ length lines → EndsInFeed before → end ≡ length (before ++ joined (take (suc k) lines))
    → ((front text : List ℕ) → take end bytes ≡ front ++ (text ++ 10 ∷ []) → HasNoFeed text → EndsInFeed front → start ≡ length front) → start ≡ length (before ++ joined (take k lines))
line_back bytes before lines k end start are all all_front le ends is begins =
    let line = line_at lines k all le in
    let text = line.1 in
    let front = before ++ joined (take k lines) in
    let whole : before ++ joined (take (suc k) lines) ≡ front ++ (text.0 ++ 10 ∷ []) =
    ap (λ (x : List (List ℕ)). before ++ joined x) line.2 ∙ ap (λ (x : List ℕ). before ++ x) (flat_map-append (λ (l : List ℕ). l) (take k lines) (line.0 ∷ []) ∙ ap (λ (x : List ℕ). joined (take k lines) ++ x) (append-nil line.0 ∙ text.2))
    ∙ sym (append_assoc before (joined (take k lines)) (text.0 ++ 10 ∷ [])) in
    let split : bytes ≡ (before ++ joined (take (suc k) lines)) ++ joined (drop (suc k) lines) =
    are ∙ ap (λ (x : List (List ℕ)). before ++ joined x) (sym (take-append-drop (suc k) lines)) ∙ ap (λ (x : List ℕ). before ++ x) (flat_map-append (λ (l : List ℕ). l) (take (suc k) lines) (drop (suc k) lines))
    ∙ sym (append_assoc before (joined (take (suc k) lines)) (joined (drop (suc k) lines))) in
    let cut : take end bytes ≡ before ++ joined (take (suc k) lines) = ap (λ n. take n bytes) is ∙ ap (take (length (before ++ joined (take (suc k) lines)))) split ∙ take-append_seam (before ++ joined (take (suc k) lines)) (joined (drop (suc k) lines)) in
    begins front text.0 (cut ∙ whole) text.1 (feed_joined before (take k lines) ends all_front)

-- ---- the lines of a head

end_line : (end : LineEnd) → IsLine (print_end end)
end_line crlf = (13 ∷ [], no_feed-cons 13 [] (λ e. cc) no_feed-nil, refl)
end_line lf = ([], no_feed-nil, refl)

ended : (text : List ℕ) (end : LineEnd) → HasNoFeed text → IsLine (text ++ print_end end)
ended text end none =
    let is = end_line end in
    (text ++ is.0, no_feed-append text is.0 none is.1, ap (λ (x : List ℕ). text ++ x) is.2 ∙ sym (append_assoc text is.0 (10 ∷ [])))

token_feed : is_token_byte 10 ≡ false
unfolding is_token_byte
token_feed = refl

field_line : (f : Field) → IsField f → IsLine (print_field f)
field_line f is =
    ended (f.name ++ 58 ∷ f.raw) f.end
    (no_feed-append f.name (58 ∷ f.raw) (pass_no_feed is_token_byte token_feed f.name is.name.1) (no_feed-cons 58 f.raw (λ e. cc) (pass_no_feed is_value_byte refl f.raw is.raw)))

abbrev lines_of : List Field → List (List ℕ)
lines_of fields = map print_field fields

lines_count : (fields : List Field) → length (lines_of fields) ≡ length fields
lines_count [] = refl
lines_count (f ∷ fields) = ap suc (lines_count fields)

field_lines : (fields : List Field) → All IsField fields → All IsLine (lines_of fields)
field_lines [] all = All-nil IsLine
field_lines (f ∷ fields) all = All-cons IsLine (print_field f) (lines_of fields) (field_line f (All-head IsField f fields all)) (field_lines fields (All-tail IsField f fields all))

joined_fields : (fields : List Field) → joined (lines_of fields) ≡ flat_map print_field fields
joined_fields [] = refl
joined_fields (f ∷ fields) = ap (λ (x : List ℕ). print_field f ++ x) (joined_fields fields)

section_lines : (fields : List Field) (last : LineEnd) → joined (lines_of fields ++ print_end last ∷ []) ≡ print_section fields last
section_lines fields last = flat_map-append (λ (l : List ℕ). l) (lines_of fields) (print_end last ∷ []) ∙ ap (λ (x : List ℕ). x ++ (print_end last ++ [])) (joined_fields fields) ∙ ap (λ (x : List ℕ). flat_map print_field fields ++ x) (append-nil (print_end last))

-- a start line and field lines, cut in front of a field
section_cut : (head start : List ℕ) (fields : List Field) (last : LineEnd) (number : ℕ) → head ≡ start ++ print_section fields last → EndsInFeed start → All IsField fields
    → (before : List ℕ) × EndsInFeed before × (head ≡ before ++ print_section (drop number fields) last)
section_cut head start fields last number is ends all =
    let front = start ++ joined (lines_of (take number fields)) in
    let split : flat_map print_field fields ≡ joined (lines_of (take number fields)) ++ flat_map print_field (drop number fields) =
    ap (flat_map print_field) (sym (take-append-drop number fields)) ∙ flat_map-append print_field (take number fields) (drop number fields) ∙ ap (λ (x : List ℕ). x ++ flat_map print_field (drop number fields)) (sym (joined_fields (take number fields))) in (
      front,
      feed_joined start (lines_of (take number fields)) ends (field_lines (take number fields) (All-take IsField number fields all)),
      is ∙ ap (λ (x : List ℕ). start ++ (x ++ print_end last)) split ∙ ap (λ (x : List ℕ). start ++ x) (append_assoc (joined (lines_of (take number fields))) (flat_map print_field (drop number fields)) (print_end last))
          ∙ sym (append_assoc start (joined (lines_of (take number fields))) (print_section (drop number fields) last)),
    )

start_ends : (a : List ℕ) (end : LineEnd) → EndsInFeed (a ++ print_end end)
start_ends a end = let is = end_line end in inr (a ++ is.0, ap (λ (x : List ℕ). a ++ x) is.2 ∙ sym (append_assoc a is.0 (10 ∷ [])))

head_cut : (k : Kind) (fields : List Field) (head : List ℕ) (number : ℕ) → IsHead k fields head → (before : List ℕ) × (last : LineEnd) × EndsInFeed before × All IsField fields × (head ≡ before ++ print_section (drop number fields) last)
unfolding print_response print_request
head_cut kind.Response fields head number h =
    let fs = h.0.fields in
    let a = print_blank h.0.blank ++ print_version h.0.minor ++ 32 ∷ h.0.digits ++ print_reason h.0.reason in
    let cut = section_cut head (a ++ print_end h.0.line_end) fs h.0.last number h.3 (start_ends a h.0.line_end) h.1.fields in
    (cut.0, h.0.last, cut.1, subst (λ (x : List Field). All IsField x) (sym h.2) h.1.fields, cut.2 ∙ ap (λ (x : List Field). cut.0 ++ print_section (drop number x) h.0.last) (sym h.2))
head_cut kind.Request fields head number h =
    let fs = h.0.fields in
    let a = print_blank h.0.blank ++ h.0.method ++ 32 ∷ h.0.target ++ 32 ∷ print_version h.0.minor in
    let cut = section_cut head (a ++ print_end h.0.line_end) fs h.0.last number h.3 (start_ends a h.0.line_end) h.1.fields in
    (cut.0, h.0.last, cut.1, subst (λ (x : List Field). All IsField x) (sym h.2) h.1.fields, cut.2 ∙ ap (λ (x : List Field). cut.0 ++ print_section (drop number x) h.0.last) (sym h.2))

pub stands : (k : Kind) (fields : List Field) (head : List ℕ) (number lines place : ℕ) → IsHead k fields head → number ≤ length fields → lines ≡ (length fields - number) + 1
    → ((before : List ℕ) (ls : List (List ℕ)) → head ≡ before ++ joined ls → All IsLine ls → length ls ≡ lines → EndsInFeed before → place ≡ length before) → StandsAt fields number place head
stands k fields head number lines place is le count begins =
    let cut = head_cut k fields head number is in
    let rest = drop number fields in
    let ls = lines_of rest ++ print_end cut.1 ∷ [] in
    let size : length ls ≡ lines = omega (arith, count, length-append (lines_of rest) (print_end cut.1 ∷ []), lines_count rest, length-drop number fields) in (
      cut.0,
      cut.1,
      cut.4,
      begins cut.0 ls (cut.4 ∙ ap (λ (x : List ℕ). cut.0 ++ x) (sym (section_lines rest cut.1)))
          (All-append IsLine (lines_of rest) (print_end cut.1 ∷ []) (field_lines rest (All-drop IsField number fields cut.3)) (All-cons IsLine (print_end cut.1) [] (end_line cut.1) (All-nil IsLine))) size cut.2,
      cut.2,
    )
