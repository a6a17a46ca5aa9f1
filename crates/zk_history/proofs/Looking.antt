-- Look-ups by the tables of the first lines of a transcript.
use Rattle.std.proofs.Common.{◌≡◌, ℕ, ℤ, zero, suc, ◌+◌, ◌<◌, ◌≤◌, Bool, true, false, ◌&&◌, List, [], ◌∷◌, ◌++◌, length, get_or, take, drop, refl, sym, ap, ◌∙◌, subst, inl, inr, eqb-true, arith, length-take}
use Rattle.std.specs.Prelude.{Option, Some, None, option_map, is_some, is_none, not, ◌==◌, slice_get}
use Rattle.std.proofs.lemmas.Bool.{cases_Bool}
use Rattle.std.proofs.lemmas.List.{take_more, take-append-drop}
use Rattle.zk_service.specs.declared.update.UpdateKind.{UpdateKind}
use Rattle.zk_service.specs.declared.update.UpdateKind.TheVariants.{Begin, Session as NewSession, Attach, Asked, Closed, Reaped}
use Rattle.zk_transcript.specs.declared.transcript.TranscriptLine.{TranscriptLine}
use Rattle.zk_transcript.specs.declared.transcript.TranscriptLine.TheVariants.{Update, Open, Frame, Send, Lapse, Close}
use Rattle.zk_transcript.specs.History.{first_place, first_shown, frame_shown, open_shown, when}
use Rattle.zk_transcript.specs.Conversations.{close_shown}
use Rattle.zk_transcript.specs.Legal.{attach_in, attach_shown}
use Rattle.zk_transcript.specs.Walks.{own_update_in, own_update_shown}
use Rattle.zk_service.specs.declared.update.UpdateRec.{UpdateRec}
use Rattle.zk_transcript.proofs.Lookups.{slice_get-front}
use Rattle.zk_history.specs.Shown.{Mark, is_mark, kept, place_in, first_marked, AreFirsts, attach_mark, attach_mark_in, close_mark, frame_mark, open_mark, own_mark, own_mark_in}
use Rattle.zk_history.specs.declared.firsts.Firsts.{Firsts}
use Rattle.zk_history.proofs.Marks.{IsAt, firsts-more, first_place-marked, first_shown-placed, marked-at, shown_at}
use Rattle.zx_base.proofs.Options.{is_some-map}

-- ---- one line further

pub firsts-advanced : (mark : TranscriptLine → Option Mark) (all : List TranscriptLine) (k : ℕ) (l : TranscriptLine) (m : Option Mark) (f g : Firsts) → k < length all → l ≡ get_or all k l → m ≡ mark l
    → AreFirsts mark (take k all) f → ((c i : ℕ) → place_in g c i ≡ kept (place_in f c i) (is_mark m c i) k) → AreFirsts mark (take (k + 1) all) g
firsts-advanced mark all k l m f g h is marks firsts notes =
    let next : take k all ++ l ∷ [] ≡ take (k + 1) all = ap (λ (x : TranscriptLine). take k all ++ x ∷ []) is ∙ sym (take_more all k l h) in
    let len : length (take k all) ≡ k = grind (arith, length-take) in
    subst (λ (ls : List TranscriptLine). AreFirsts mark ls g) next (firsts-more mark (take k all) l f g firsts (λ c i.
    notes c i ∙ ap (λ o. kept (place_in f c i) (is_mark o c i) k) marks ∙ ap (λ n. kept (place_in f c i) (is_mark (mark l) c i) n) (sym len)))

-- ---- the line at a place of a table

slice_get-get_or : {A : Type 0} (xs : List A) (k : ℕ) (x d : A) → slice_get xs k ≡ Some x → x ≡ get_or xs k d
slice_get-get_or [] k x d h = absurd (cc)
slice_get-get_or (y ∷ xs) zero x d h = cc
slice_get-get_or (y ∷ xs) (suc k) x d h = slice_get-get_or xs k x d h

place_of : (o : Option (ℕ × TranscriptLine)) (place : ℕ) → Some place ≡ option_map (λ (x : ℕ × TranscriptLine). x.0) o → (l : TranscriptLine) × (o ≡ Some (place, l))
place_of None place h = absurd (cc)
place_of (Some x) place h = let same : place ≡ x.0 = cc in (x.1, ap (λ (n : ℕ). Some (n, x.1)) (sym same))

module _ (mark : TranscriptLine → Option Mark) (all : List TranscriptLine) (k : ℕ) (f : Firsts) (c i place : ℕ) where
  at : AreFirsts mark (take k all) f → Some place ≡ place_in f c i → (l : TranscriptLine) × (first_marked mark c i (take k all) ≡ Some (place, l)) × IsAt 0 (take k all) (place, l)
  at firsts is =
      let found = place_of (first_marked mark c i (take k all)) place (is ∙ firsts c i) in
      (found.0, found.1, marked-at (λ l. is_mark (mark l) c i) 0 (take k all) (place, found.0) found.1)

  pub found-before : AreFirsts mark (take k all) f → Some place ≡ place_in f c i → k ≤ length all → place < length all
  found-before firsts is most =
      let found = at firsts is in
      let len : length (take k all) ≤ length all = grind (arith, length-take) in
      omega (arith, found.2.place, found.2.before, len)

  pub found-within : AreFirsts mark (take k all) f → Some place ≡ place_in f c i → place < k
  found-within firsts is =
      let found = at firsts is in
      let len : length (take k all) ≤ k = grind (arith, length-take) in
      omega (arith, found.2.place, found.2.before, len)

  pub found-line : AreFirsts mark (take k all) f → Some place ≡ place_in f c i → (l : TranscriptLine) → l ≡ get_or all place l → first_marked mark c i (take k all) ≡ Some (place, l)
  found-line firsts is l line =
      let found = at firsts is in
      let from : found.2.from ≡ place = omega (arith, found.2.place) in
      let before : place < length (take k all) = omega (arith, found.2.before, from) in
      let there : slice_get all place ≡ Some found.0 =
      ap (λ (ls : List TranscriptLine). slice_get ls place) (sym (take-append-drop k all)) ∙ slice_get-front (take k all) (drop k all) place before ∙ ap (slice_get (take k all)) (sym from) ∙ found.2.line in
      found.1 ∙ ap (λ (x : TranscriptLine). Some (place, x)) (slice_get-get_or all place found.0 l there ∙ sym line)

  nothing : (o : Option (ℕ × TranscriptLine)) → None ≡ option_map (λ (x : ℕ × TranscriptLine). x.0) o → o ≡ None
  nothing None h = refl
  nothing (Some x) h = absurd (cc)

  pub found-none : AreFirsts mark (take k all) f → None ≡ place_in f c i → first_marked mark c i (take k all) ≡ None
  found-none firsts is = nothing (first_marked mark c i (take k all)) (is ∙ firsts c i)

-- ---- what is shown

module _ {A : Type 0} (show : TranscriptLine → Option A) (test : TranscriptLine → Bool) (agree : (l : TranscriptLine) → is_some (show l) ≡ test l) (lines : List TranscriptLine) where
  pub place-some : (place : ℕ) (l : TranscriptLine) → first_place (λ x. when (test x) x) 0 lines ≡ Some (place, l) → first_place show 0 lines ≡ option_map (λ a. (place, a)) (show l)
  place-some place l e = first_place-marked show test agree 0 lines ∙ ap (shown_at show) e

  pub place-none : first_place (λ x. when (test x) x) 0 lines ≡ None → first_place show 0 lines ≡ None
  place-none e = first_place-marked show test agree 0 lines ∙ ap (shown_at show) e

  placed_same : (place : ℕ) (o : Option A) → option_map (λ (x : ℕ × A). x.1) (option_map (λ a. (place, a)) o) ≡ o
  placed_same place None = refl
  placed_same place (Some a) = refl

  pub shown-some : (place : ℕ) (l : TranscriptLine) → first_place (λ x. when (test x) x) 0 lines ≡ Some (place, l) → first_shown show lines ≡ show l
  shown-some place l e = first_shown-placed show 0 lines ∙ ap (λ o. option_map (λ (x : ℕ × A). x.1) o) (place-some place l e) ∙ placed_same place (show l)

  pub shown-none : first_place (λ x. when (test x) x) 0 lines ≡ None → first_shown show lines ≡ None
  shown-none e = first_shown-placed show 0 lines ∙ ap (λ o. option_map (λ (x : ℕ × A). x.1) o) (place-none e)

-- the place of the first line that shows something is before the end
pub place-within : {A : Type 0} (show : TranscriptLine → Option A) (k : ℕ) (ls : List TranscriptLine) (x : ℕ × A) → first_place show k ls ≡ Some x → x.0 < k + length ls
place-within show k [] x h = absurd (cc)
place-within {A} show k (l ∷ ls) x h =
    elim (show l) as (λ o. ◌≡◌ {A = Option (ℕ × A)} (elim o [ Some y ↦ Some (k, y) | None ↦ first_place show (k + 1) ls ]) (Some x) → x.0 < k + suc (length ls)) [
      | Some y ↦ λ e.
          let at : k ≡ x.0 = cc in
          omega (arith, at)
      | None ↦ λ e.
          let rest = place-within show (k + 1) ls x e in
          omega (arith, rest)
    ] h

-- ---- whether something is shown

passed : {A : Type 0} (show : TranscriptLine → Option A) (test : TranscriptLine → Bool) → ((l : TranscriptLine) → is_some (show l) ≡ test l) → (k : ℕ) (ls : List TranscriptLine)
    → is_some (first_place show k ls) ≡ is_some (first_place (λ x. when (test x) x) k ls)
passed show test agree k [] = refl
passed {A} show test agree k (l ∷ ls) =
    elim (show l) as (λ o. is_some o ≡ test l → is_some {T = ℕ × A} (elim o [ Some y ↦ Some (k, y) | None ↦ first_place show (k + 1) ls ])
    ≡ is_some (elim (when (test l) l) [ Some y ↦ Some (k, y) | None ↦ first_place (λ x. when (test x) x) (k + 1) ls ])) [
      | Some y ↦ λ is. ap (λ b. is_some (elim (when b l) [ Some y ↦ Some (k, y) | None ↦ first_place (λ x. when (test x) x) (k + 1) ls ])) is
      | None ↦ λ is. passed show test agree (k + 1) ls ∙ ap (λ b. is_some (elim (when b l) [ Some y ↦ Some (k, y) | None ↦ first_place (λ x. when (test x) x) (k + 1) ls ])) is
    ] (agree l)

module _ {A : Type 0} (show : TranscriptLine → Option A) (mark : TranscriptLine → Option Mark) (c i : ℕ) (agree : (l : TranscriptLine) → is_some (show l) ≡ is_mark (mark l) c i)
    (lines : List TranscriptLine) (f : Firsts) (firsts : AreFirsts mark lines f) where
  pub is_placed : is_some (place_in f c i) ≡ is_some (first_place show 0 lines)
  is_placed = ap (λ o. is_some o) (firsts c i) ∙ is_some-map (λ (x : ℕ × TranscriptLine). x.0) (first_marked mark c i lines) ∙ sym (passed show (λ l. is_mark (mark l) c i) agree 0 lines)

  missing : {X Y : Type 0} (o : Option X) (p : Option Y) → is_some o ≡ is_some p → is_none o ≡ is_none p
  missing None None h = refl
  missing None (Some y) h = absurd (cc)
  missing (Some x) None h = absurd (cc)
  missing (Some x) (Some y) h = refl

  not_some : {X : Type 0} (o : Option X) → not (is_some o) ≡ is_none o
  not_some None = refl
  not_some (Some x) = refl

  pub is_missing : not (is_some (place_in f c i)) ≡ is_none (first_place show 0 lines)
  is_missing = not_some (place_in f c i) ∙ missing (place_in f c i) (first_place show 0 lines) is_placed

  pub is_shown : is_some (place_in f c i) ≡ is_some (first_shown show lines)
  is_shown = is_placed ∙ sym (ap (λ o. is_some o) (first_shown-placed show 0 lines) ∙ is_some-map (λ (x : ℕ × A). x.1) (first_place show 0 lines))

-- ---- what each mark stands for

pub eq-sym : (a b : ℕ) → (a == b) ≡ (b == a)
eq-sym a b = elim (cases_Bool (a == b)) [
  | inl t ↦ let e : a ≡ b = eqb-true a b t in ap (λ x. x == b) e ∙ ap (λ x. b == x) (sym e)
  | inr f ↦ elim (cases_Bool (b == a)) [
    | inl t ↦ let e : b ≡ a = eqb-true b a t in ap (λ x. x == b) (sym e) ∙ ap (λ x. b == x) e
    | inr g ↦ f ∙ sym g
  ]
]

is_some-when : {A : Type 0} (b : Bool) (x : A) → is_some (when b x) ≡ b
is_some-when true x = refl
is_some-when false x = refl

alone : (c d : ℕ) → (c == d) ≡ ((d == c) && (0 == 0))
alone c d = eq-sym c d ∙ and_true (d == c)
  where
    and_true : (b : Bool) → b ≡ (b && true)
    and_true true = refl
    and_true false = refl

pub frame-marked : (c i : ℕ) (l : TranscriptLine) → is_some (frame_shown c i l) ≡ is_mark (frame_mark l) c i
frame-marked c i (Frame d j zxid bytes) = is_some-when ((c == d) && (i == j)) bytes ∙ ap (λ b. b && (i == j)) (eq-sym c d) ∙ ap (λ b. (d == c) && b) (eq-sym i j)
frame-marked c i (Update u) = refl
frame-marked c i (Open d p id pw layout) = refl
frame-marked c i (Send d bytes) = refl
frame-marked c i (Lapse r id) = refl
frame-marked c i (Close d e) = refl

pub open-marked : (c : ℕ) (l : TranscriptLine) → is_some (open_shown c l) ≡ is_mark (open_mark l) c 0
open-marked c (Open d p id pw layout) = is_some-when (c == d) (record { id = id; passwd = pw; layout = layout }) ∙ alone c d
open-marked c (Frame d j zxid bytes) = refl
open-marked c (Update u) = refl
open-marked c (Send d bytes) = refl
open-marked c (Lapse r id) = refl
open-marked c (Close d e) = refl

pub close-marked : (c : ℕ) (l : TranscriptLine) → is_some (close_shown c l) ≡ is_mark (close_mark l) c 0
close-marked c (Close d e) = is_some-when (c == d) d ∙ alone c d
close-marked c (Open d p id pw layout) = refl
close-marked c (Frame d j zxid bytes) = refl
close-marked c (Update u) = refl
close-marked c (Send d bytes) = refl
close-marked c (Lapse r id) = refl

attach_in-marked : (c : ℕ) (zxid : ℤ) (kind : UpdateKind) → is_some (attach_in c zxid kind) ≡ is_mark (attach_mark_in kind) c 0
attach_in-marked c zxid (NewSession id d) = is_some-when (c == d) (record { zxid = zxid; session = id }) ∙ alone c d
attach_in-marked c zxid (Attach id d) = is_some-when (c == d) (record { zxid = zxid; session = id }) ∙ alone c d
attach_in-marked c zxid (Begin now) = refl
attach_in-marked c zxid (Asked d i now) = refl
attach_in-marked c zxid (Closed id d i) = refl
attach_in-marked c zxid (Reaped id) = refl

own_update_in-marked : (c i : ℕ) (u : UpdateRec) (kind : UpdateKind) → is_some (own_update_in c i u kind) ≡ is_mark (own_mark_in kind) c i
own_update_in-marked c i u (Asked d j now) = is_some-when ((c == d) && (i == j)) u ∙ ap (λ b. b && (i == j)) (eq-sym c d) ∙ ap (λ b. (d == c) && b) (eq-sym i j)
own_update_in-marked c i u (Closed id d j) = is_some-when ((c == d) && (i == j)) u ∙ ap (λ b. b && (i == j)) (eq-sym c d) ∙ ap (λ b. (d == c) && b) (eq-sym i j)
own_update_in-marked c i u (Begin now) = refl
own_update_in-marked c i u (NewSession id d) = refl
own_update_in-marked c i u (Attach id d) = refl
own_update_in-marked c i u (Reaped id) = refl

pub own-marked : (c i : ℕ) (l : TranscriptLine) → is_some (own_update_shown c i l) ≡ is_mark (own_mark l) c i
own-marked c i (Update u) = own_update_in-marked c i u u.kind
own-marked c i (Open d p id pw layout) = refl
own-marked c i (Frame d j zxid bytes) = refl
own-marked c i (Send d bytes) = refl
own-marked c i (Lapse r id) = refl
own-marked c i (Close d e) = refl

-- a close shows its own connection
pub close-own : (c : ℕ) (l : TranscriptLine) (d : ℕ) → close_shown c l ≡ Some d → c ≡ d
close-own c (Close e end) d h =
    elim (c == e) as (λ b. (c == e) ≡ b → when b e ≡ Some d → c ≡ d) [
      | true ↦ λ is k.
          let first : c ≡ e = eqb-true c e is in
          let second : e ≡ d = cc in
          first ∙ second
      | false ↦ λ is k. absurd (cc)
    ] refl h
close-own c (Open e p id pw layout) d h = absurd (cc)
close-own c (Frame e j zxid bytes) d h = absurd (cc)
close-own c (Update u) d h = absurd (cc)
close-own c (Send e bytes) d h = absurd (cc)
close-own c (Lapse r id) d h = absurd (cc)

pub attach-marked : (c : ℕ) (l : TranscriptLine) → is_some (attach_shown c l) ≡ is_mark (attach_mark l) c 0
attach-marked c (Update u) = attach_in-marked c u.zxid u.kind
attach-marked c (Open d p id pw layout) = refl
attach-marked c (Frame d j zxid bytes) = refl
attach-marked c (Send d bytes) = refl
attach-marked c (Lapse r id) = refl
attach-marked c (Close d e) = refl

-- ---- the lines before a place

pub front : (len k : ℕ) (all lines : List TranscriptLine) → len ≡ k → all ≡ lines → take len all ≡ take k lines
front len k all lines same over = ap (λ n. take n all) same ∙ ap (take k) over
