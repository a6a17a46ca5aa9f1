-- Places of updates, by their zxids.
use Rattle.std.proofs.Common.{◌≡◌, ℕ, ℤ, ◌+◌, ◌<◌, ◌≤◌, Bool, true, false, List, [], ◌∷◌, ◌++◌, length, get_or, take, refl, sym, ap, ◌∙◌, subst, arith, length-take}
use Rattle.std.specs.Prelude.{Option, Some, None, option_map, is_some, IfSome}
use Rattle.std.specs.Ordering.{int_eq}
use Rattle.std.proofs.lemmas.Cmp.{int_eq_equiv}
use Rattle.std.proofs.lemmas.List.{take_more}
use Rattle.std.proofs.lemmas.Option.{same_Some}
use Rattle.zk_transcript.specs.declared.transcript.TranscriptLine.{TranscriptLine}
use Rattle.zk_transcript.specs.declared.transcript.TranscriptLine.TheVariants.{Update, Open, Frame, Send, Lapse, Close}
use Rattle.zk_transcript.specs.History.{first_place, when}
use Rattle.zk_transcript.specs.Walks.{update_shown}
use Rattle.zk_transcript.proofs.Lookups.{first_place-skip, first_place-new}
use Rattle.zk_transcript.proofs.Appending.{first_place-push}
use Rattle.zk_history.specs.Shown.{AreUpdates, is_zxid, kept, place_of, update_zxid}
use Rattle.zk_history.proofs.Looking.{place-within}
use Rattle.zk_history.specs.declared.zxids.Zxids.{Zxids}
use Rattle.zx_base.proofs.Booleans.{same-from_int_eq}

is_some-when : (b : Bool) (x : ℤ) → is_some (when b x) ≡ b
is_some-when true x = refl
is_some-when false x = refl

-- a line shows the update of a zxid exactly where its update has that zxid
has-zxid : (z : ℤ) (l : TranscriptLine) → is_zxid (update_zxid l) z ≡ is_some (update_shown z l)
has-zxid z (Update u) = int_eq_equiv.symm u.zxid z ∙ sym (is_some-when (int_eq z u.zxid) u.zxid)
has-zxid z (Open c p id pw layout) = refl
has-zxid z (Frame c i y bytes) = refl
has-zxid z (Send c bytes) = refl
has-zxid z (Lapse r id) = refl
has-zxid z (Close c e) = refl

-- what a line shows for a zxid is that zxid
shows-zxid : (z : ℤ) (l : TranscriptLine) (y : ℤ) → update_shown z l ≡ Some y → z ≡ y
shows-zxid z (Update u) y h =
    elim (int_eq z u.zxid) as (λ b. int_eq z u.zxid ≡ b → when b u.zxid ≡ Some y → z ≡ y) [
      | true ↦ λ is e. same-from_int_eq z u.zxid is ∙ same_Some u.zxid y e
      | false ↦ λ is e. absurd (cc)
    ] refl h
shows-zxid z (Open c p id pw layout) y h = absurd (cc)
shows-zxid z (Frame c i x bytes) y h = absurd (cc)
shows-zxid z (Send c bytes) y h = absurd (cc)
shows-zxid z (Lapse r id) y h = absurd (cc)
shows-zxid z (Close c e) y h = absurd (cc)

abbrev place_alone : Option (ℕ × ℤ) → Option ℕ
place_alone o = option_map (λ (x : ℕ × ℤ). x.0) o

pub with-zxid : (z : ℤ) (k : ℕ) (ls : List TranscriptLine) → option_map {U = ℕ × ℤ} (λ (n : ℕ). (n, z)) (place_alone (first_place (update_shown z) k ls)) ≡ first_place (update_shown z) k ls
with-zxid z k [] = refl
with-zxid z k (l ∷ ls) =
    elim (update_shown z l) as (λ o. update_shown z l ≡ o → option_map {U = ℕ × ℤ} (λ (n : ℕ). (n, z)) (place_alone (elim o [ Some y ↦ Some (k, y) | None ↦ first_place (update_shown z) (k + 1) ls ]))
    ≡ (elim o [ Some y ↦ Some (k, y) | None ↦ first_place (update_shown z) (k + 1) ls ])) [
      | Some y ↦ λ e. ap (λ (x : ℤ). Some (k, x)) (shows-zxid z l y e)
      | None ↦ λ e. with-zxid z (k + 1) ls
    ] refl

-- ---- one more line

updates-more : (lines : List TranscriptLine) (l : TranscriptLine) (f g : Zxids) → AreUpdates lines f → ((z : ℤ) → place_of g z ≡ kept (place_of f z) (is_zxid (update_zxid l) z) (length lines))
    → AreUpdates (lines ++ l ∷ []) g
updates-more lines l f g stand notes = λ z.
    notes z ∙ ap (λ o. kept o (is_zxid (update_zxid l) z) (length lines)) (stand z) ∙ more z (first_place (update_shown z) 0 lines) (update_shown z l) refl refl
  where
    more : (z : ℤ) (o : Option (ℕ × ℤ)) (p : Option ℤ) → first_place (update_shown z) 0 lines ≡ o → update_shown z l ≡ p
        → kept (place_alone o) (is_zxid (update_zxid l) z) (length lines) ≡ place_alone (first_place (update_shown z) 0 (lines ++ l ∷ []))
    more z (Some x) p e is = sym (ap place_alone (first_place-push (update_shown z) 0 lines (l ∷ []) x e))
    more z None (Some y) e is =
        let at : 0 + length lines ≡ length lines = omega arith in
        ap (λ b. kept None b (length lines)) (has-zxid z l ∙ ap (λ q. is_some q) is) ∙ sym (ap place_alone (first_place-new (update_shown z) 0 lines l y e is) ∙ ap (λ n. Some n) at)
    more z None None e is = ap (λ b. kept None b (length lines)) (has-zxid z l ∙ ap (λ q. is_some q) is) ∙ sym (ap place_alone (first_place-skip (update_shown z) 0 lines l is ∙ e))

pub updates-advanced : (all : List TranscriptLine) (k : ℕ) (l : TranscriptLine) (m : Option ℤ) (f g : Zxids) → k < length all → l ≡ get_or all k l → m ≡ update_zxid l → AreUpdates (take k all) f
    → ((z : ℤ) → place_of g z ≡ kept (place_of f z) (is_zxid m z) k) → AreUpdates (take (k + 1) all) g
updates-advanced all k l m f g h is marks stand notes =
    let next : take k all ++ l ∷ [] ≡ take (k + 1) all = ap (λ (x : TranscriptLine). take k all ++ x ∷ []) is ∙ sym (take_more all k l h) in
    let len : length (take k all) ≡ k = grind (arith, length-take) in
    subst (λ (ls : List TranscriptLine). AreUpdates ls g) next (updates-more (take k all) l f g stand (λ z.
    notes z ∙ ap (λ o. kept (place_of f z) (is_zxid o z) k) marks ∙ ap (λ n. kept (place_of f z) (is_zxid (update_zxid l) z) n) (sym len)))

-- the place that is found is before the end
pub within-zxid : (o : Option ℕ) (z : ℤ) (lines : List TranscriptLine) (n : ℕ) → option_map {U = ℕ × ℤ} (λ (k : ℕ). (k, z)) o ≡ first_place (update_shown z) 0 lines → length lines ≤ n → IfSome o (λ k. k < n)
within-zxid None z lines n is few = tt {0}
within-zxid (Some k) z lines n is few =
    let before = place-within (update_shown z) 0 lines (k, z) (sym is) in
    omega (arith, before, few)
