-- Marks of lines, and the first lines that have them.
use Rattle.std.proofs.Common.{◌≡◌, ℕ, suc, ◌+◌, ◌<◌, Bool, true, false, ◌&&◌, cond, List, [], ◌∷◌, ◌++◌, length, refl, sym, ap, ◌∙◌, eqb-true, arith}
use Rattle.std.specs.Prelude.{Option, Some, None, option_map, is_some, ◌==◌, slice_get}
use Rattle.std.proofs.lemmas.Bool.{and_parts}
use Rattle.std.specs.Ordering.{is_eq, nat_cmp, ordering_then}
use Rattle.std.specs.declared.cmp.Ordering.{Ordering}
use Rattle.std.specs.declared.cmp.Ordering.TheVariants.{Less, Equal, Greater}
use Rattle.std.specs.Cmp.{unsigned_tied}
use Rattle.zk_transcript.specs.declared.transcript.TranscriptLine.{TranscriptLine}
use Rattle.zk_transcript.specs.History.{first_place, first_shown, when}
use Rattle.zk_transcript.proofs.Lookups.{first_place-skip, first_place-new}
use Rattle.zk_transcript.proofs.Appending.{first_place-push}
use Rattle.zk_history.specs.Shown.{Mark, mark_order, is_mark, kept, first_marked, AreFirsts, place_in}
use Rattle.zk_history.specs.declared.firsts.Firsts.{Firsts}
use Rattle.zx_base.proofs.Options.{none-unless_some}

equal_parts : (r s : Ordering) → is_eq (ordering_then r s) ≡ (is_eq r && is_eq s)
equal_parts Less s = refl
equal_parts Equal s = refl
equal_parts Greater s = refl

-- the order of marks ties a mark to itself alone
tied : (m : Mark) (c i : ℕ) → is_eq (mark_order m (c, i)) ≡ is_mark (Some m) c i
tied m c i =
    equal_parts (nat_cmp m.0 c) (nat_cmp m.1 i) ∙ ap (λ b. b && is_eq (nat_cmp m.1 i)) (unsigned_tied m.0 c) ∙ ap (λ b. (m.0 == c) && b) (unsigned_tied m.1 i)

same : (m : Mark) (c i : ℕ) → is_mark (Some m) c i ≡ true → m ≡ (c, i)
same m c i is =
    let parts = and_parts _ _ is in
    let first : m.0 ≡ c = eqb-true m.0 c parts.0 in
    let second : m.1 ≡ i = eqb-true m.1 i parts.1 in
    λ j. (first j, second j)

kept_out : (o : Option ℕ) (place : ℕ) → o ≡ kept o false place
kept_out None place = refl
kept_out (Some k) place = refl

-- ---- a table of places, as what it has at each key

module _ {K : Type 0} (is : K → K → Bool) (same_key : (m q : K) → is m q ≡ true → m ≡ q) where
  pub new-kept : (f g : K → Option ℕ) (m : K) (place : ℕ) → is_some (f m) ≡ false → ((q : K) → g q ≡ cond (is m q) (Some place) (f q)) → (q : K) → g q ≡ kept (f q) (is m q) place
  new-kept f g m place free updates q =
      elim (is m q) as (λ b. is m q ≡ b → g q ≡ kept (f q) b place) [
        | true ↦ λ at. updates q ∙ ap (λ b. cond b (Some place) (f q)) at ∙ sym (ap (λ o. kept o true place) (ap f (sym (same_key m q at)) ∙ none-unless_some (f m) free))
        | false ↦ λ at. updates q ∙ ap (λ b. cond b (Some place) (f q)) at ∙ kept_out (f q) place
      ] refl

  pub old-kept : (f : K → Option ℕ) (m : K) (place : ℕ) → is_some (f m) ≡ true → (q : K) → f q ≡ kept (f q) (is m q) place
  old-kept f m place there q =
      elim (is m q) as (λ b. is m q ≡ b → f q ≡ kept (f q) b place) [
        | true ↦ λ at.
            let found : is_some (f q) ≡ true = ap (λ (k : K). is_some (f k)) (sym (same_key m q at)) ∙ there in
            elim (f q) as (λ o. is_some o ≡ true → o ≡ kept o true place) [ Some k ↦ λ h. refl | None ↦ λ h. absurd (cc) ] found
        | false ↦ λ at. kept_out (f q) place
      ] refl

abbrev is_same : Mark → Mark → Bool
is_same m q = is_mark (Some m) q.0 q.1

pub noted-new : (f g : Mark → Option ℕ) (m : Mark) (place : ℕ) → is_some (f m) ≡ false → ((q : Mark) → g q ≡ cond (is_eq (mark_order m q)) (Some place) (f q))
    → (c i : ℕ) → g (c, i) ≡ kept (f (c, i)) (is_mark (Some m) c i) place
noted-new f g m place free updates c i =
    new-kept is_same (λ n q h. same n q.0 q.1 h) f g m place free (λ q. updates q ∙ ap (λ b. cond b (Some place) (f q)) (tied m q.0 q.1)) (c, i)

pub noted-old : (f : Mark → Option ℕ) (m : Mark) (place : ℕ) → is_some (f m) ≡ true → (c i : ℕ) → f (c, i) ≡ kept (f (c, i)) (is_mark (Some m) c i) place
noted-old f m place there c i = old-kept is_same (λ n q h. same n q.0 q.1 h) f m place there (c, i)

-- ---- the tables after one more line

pub firsts-more : (mark : TranscriptLine → Option Mark) (lines : List TranscriptLine) (l : TranscriptLine) (f g : Firsts) → AreFirsts mark lines f
    → ((c i : ℕ) → place_in g c i ≡ kept (place_in f c i) (is_mark (mark l) c i) (length lines)) → AreFirsts mark (lines ++ l ∷ []) g
firsts-more mark lines l f g firsts notes = λ c i.
    notes c i ∙ ap (λ o. kept o (is_mark (mark l) c i) (length lines)) (firsts c i)
    ∙ more c i (first_marked mark c i lines) (is_mark (mark l) c i) refl refl
  where
    more : (c i : ℕ) (o : Option (ℕ × TranscriptLine)) (b : Bool) → first_marked mark c i lines ≡ o → is_mark (mark l) c i ≡ b
        → kept (option_map (λ (x : ℕ × TranscriptLine). x.0) o) b (length lines) ≡ option_map (λ (x : ℕ × TranscriptLine). x.0) (first_marked mark c i (lines ++ l ∷ []))
    more c i (Some x) b e is = sym (ap (λ p. option_map (λ (y : ℕ × TranscriptLine). y.0) p) (first_place-push (λ y. when (is_mark (mark y) c i) y) 0 lines (l ∷ []) x e))
    more c i None true e is =
        let at : 0 + length lines ≡ length lines = omega arith in
        sym (ap (λ p. option_map (λ (y : ℕ × TranscriptLine). y.0) p) (first_place-new (λ y. when (is_mark (mark y) c i) y) 0 lines l l e (ap (λ b. when b l) is)) ∙ ap (λ n. Some n) at)
    more c i None false e is =
        sym (ap (λ p. option_map (λ (y : ℕ × TranscriptLine). y.0) p) (first_place-skip (λ y. when (is_mark (mark y) c i) y) 0 lines l (ap (λ b. when b l) is) ∙ e))

-- ---- what a marked line shows

abbrev pub shown_at : {A : Type 0} → (TranscriptLine → Option A) → Option (ℕ × TranscriptLine) → Option (ℕ × A)
shown_at show None = None
shown_at show (Some x) = option_map (λ a. (x.0, a)) (show x.1)

-- the lines with the mark are those that show it
pub first_place-marked : {A : Type 0} (show : TranscriptLine → Option A) (test : TranscriptLine → Bool) → ((l : TranscriptLine) → is_some (show l) ≡ test l)
    → (k : ℕ) (ls : List TranscriptLine) → first_place show k ls ≡ shown_at show (first_place (λ l. when (test l) l) k ls)
first_place-marked show test agree k [] = refl
first_place-marked {A} show test agree k (l ∷ ls) =
    elim (show l) as (λ o. show l ≡ o → ◌≡◌ {A = Option (ℕ × A)} (elim o [ Some y ↦ Some (k, y) | None ↦ first_place show (k + 1) ls ])
    (shown_at show (elim (when (test l) l) [ Some y ↦ Some (k, y) | None ↦ first_place (λ l. when (test l) l) (k + 1) ls ]))) [
      | Some y ↦ λ e.
          let is : test l ≡ true = sym (agree l) ∙ ap (λ o. is_some o) e in
          sym (ap (λ b. shown_at show (elim (when b l) [ Some y ↦ Some (k, y) | None ↦ first_place (λ l. when (test l) l) (k + 1) ls ])) is ∙ ap (λ o. option_map (λ a. (k, a)) o) e)
      | None ↦ λ e.
          let is : test l ≡ false = sym (agree l) ∙ ap (λ o. is_some o) e in
          first_place-marked show test agree (k + 1) ls
          ∙ sym (ap (λ b. shown_at show (elim (when b l) [ Some y ↦ Some (k, y) | None ↦ first_place (λ l. when (test l) l) (k + 1) ls ])) is)
    ] refl

pub first_shown-placed : {A : Type 0} (show : TranscriptLine → Option A) (k : ℕ) (ls : List TranscriptLine) → first_shown show ls ≡ option_map (λ (x : ℕ × A). x.1) (first_place show k ls)
first_shown-placed show k [] = refl
first_shown-placed {A} show k (l ∷ ls) =
    elim (show l) as (λ o. ◌≡◌ {A = Option A} (elim o [ Some y ↦ Some y | None ↦ first_shown show ls ]) (option_map (λ (x : ℕ × A). x.1) (elim o [ Some y ↦ Some (k, y) | None ↦ first_place show (k + 1) ls ]))) [
      | Some y ↦ refl
      | None ↦ first_shown-placed show (k + 1) ls
    ]

-- the line that was found stands at its place
pub record IsAt (k : ℕ) (ls : List TranscriptLine) (x : ℕ × TranscriptLine) : Type 0 where
  pub from : ℕ
  pub place : x.0 ≡ k + from
  pub before : from < length ls
  pub line : slice_get ls from ≡ Some x.1

pub marked-at : (test : TranscriptLine → Bool) (k : ℕ) (ls : List TranscriptLine) (x : ℕ × TranscriptLine) → first_place (λ l. when (test l) l) k ls ≡ Some x → IsAt k ls x
marked-at test k [] x h = absurd (cc)
marked-at test k (l ∷ ls) x h =
    elim (test l) as (λ b. (elim (when b l) [ Some y ↦ Some (k, y) | None ↦ first_place (λ l. when (test l) l) (k + 1) ls ]) ≡ Some x → IsAt k (l ∷ ls) x) [
      | true ↦ λ e.
          let same_place : k ≡ x.0 = cc in
          let same_line : l ≡ x.1 = cc in
          record { from = 0; place = omega (arith, same_place); before = omega arith; line = ap (λ y. Some y) same_line }
      | false ↦ λ e.
          let rest = marked-at test (k + 1) ls x e in
          record { from = suc rest.from; place = omega (arith, rest.place); before = omega (arith, rest.before); line = rest.line }
    ] h
