-- A view that takes parts, one after the other.
use Rattle.std.proofs.Common.{◌≡◌, ℕ, ◌≤◌, refl, sym, ap, ◌∙◌, subst, arith, Bool, true, false, List, [], ◌∷◌, length, drop, min, ℤ, length-drop, append-nil}
use Rattle.std.specs.Prelude.{Option, Some, None, All, IfSome, if◌then◌else◌}
use Rattle.std.proofs.lemmas.List.Elements.{All-head, All-tail}
use Rattle.ev_types.specs.declared.answer.ActAns.{ActAns}
use Rattle.ev_types.specs.declared.answer.Kv.{Kv}
use Rattle.zx_base.specs.Maps.{Bytes, same}
use Rattle.zx_base.proofs.MapLaws.{same-true}
use Rattle.zn_view.specs.declared.want.Want.{Want}
use Rattle.zn_view.specs.declared.want.Want.TheVariants as want
use Rattle.zn_view.specs.Adding.{at_revision, is_new, AreRecords, IsFirstDamaged, IsGrown}
use Rattle.zn_view.specs.Asks.{with_part, with_parts, kept_under}
use Rattle.zn_view.specs.Seen.{View, IsRecord, IsFound, AreCounts}

-- ---- what is kept under a key

kept_at_first : (k : Bytes) (kv : Kv) (kvs : List Kv) (x : Kv) (b : Bool) → same kv.key k ≡ b → (All AreCounts kvs → kept_under k kvs ≡ Some x → (x.key ≡ k) × AreCounts x)
    → All AreCounts (kv ∷ kvs) → (if b then Some kv else kept_under k kvs) ≡ Some x → (x.key ≡ k) × AreCounts x
kept_at_first k kv kvs x true e later all h =
    let is : kv ≡ x = cc in
    (ap (λ (y : Kv). y.key) (sym is) ∙ same-true kv.key k e, subst AreCounts is (All-head AreCounts kv kvs all))
kept_at_first k kv kvs x false e later all h = later (All-tail AreCounts kv kvs all) h

pub kept_under-is : (k : Bytes) (kvs : List Kv) (x : Kv) → All AreCounts kvs → kept_under k kvs ≡ Some x → (x.key ≡ k) × AreCounts x
kept_under-is k [] x all h = absurd (cc)
kept_under-is k (kv ∷ kvs) x all h = kept_at_first k kv kvs x (same kv.key k) refl (kept_under-is k kvs x) all h

pub kept-found : (k : Bytes) (kvs : List Kv) (o : Option Kv) → o ≡ kept_under k kvs → All AreCounts kvs → IfSome o IsRecord → IfSome o (IsFound k)
kept-found k kvs None e all is = tt
kept-found k kvs (Some x) e all is = let h = kept_under-is k kvs x all (sym e) in record { named = h.0; value = is; numbers = h.1 }

-- ---- all parts

-- what is left to take from place i on, and what was taken so far
pub record IsTaken (old : View) (ws : List Want) (parts : List ActAns) (v : View) (i : ℕ) : Type 0 where
  pub rest : with_parts v (drop i ws) (drop i parts) ≡ with_parts old ws parts
  pub records : AreRecords (drop i ws) (drop i parts) → AreRecords ws parts
  pub damaged : (key value : Bytes) → IsFirstDamaged (drop i ws) (drop i parts) key value → IsFirstDamaged ws parts key value
  pub grown : IsGrown old v

pub none-taken : (old : View) (ws : List Want) (parts : List ActAns) → IsTaken old ws parts old 0
none-taken old ws parts = record {
  rest = refl;
  records = λ h. h;
  damaged = λ key value h. h;
  grown = record { revision = refl; keys = []; lists = []; keys_are = sym (append-nil old.keys); lists_are = sym (append-nil old.lists) };
}

-- all are taken where one of the lists is at its end
ended : (v : View) (ws : List Want) (parts : List ActAns) → min (length ws) (length parts) ≤ 0 → (with_parts v ws parts ≡ v) × AreRecords ws parts
ended v [] parts h = (refl, tt)
ended v (w ∷ ws) [] h = (refl, tt)
ended v (w ∷ ws) (a ∷ more) h = absurd (omega arith)

pub all-taken : (old : View) (ws : List Want) (parts : List ActAns) (v : View) (i : ℕ) → min (length ws) (length parts) ≤ i → IsTaken old ws parts v i → (v ≡ with_parts old ws parts) × AreRecords ws parts
all-taken old ws parts v i h t =
    let e = ended v (drop i ws) (drop i parts) (omega (arith, h, length-drop i ws, length-drop i parts)) in
    (sym e.0 ∙ t.rest, t.records e.1)

-- ---- the revision

abbrev begun : Bool → ℤ → View → View
begun b r v = if b then record v { revision = r } else v

begun-part : (b : Bool) (r : ℤ) (v : View) (w : Want) (a : ActAns) → begun b r (with_part v w a) ≡ with_part (begun b r v) w a
begun-part true r v (want.Key k) a = refl
begun-part false r v (want.Key k) a = refl
begun-part true r v (want.Children p) a = refl
begun-part false r v (want.Children p) a = refl

begun-parts : (b : Bool) (r : ℤ) (v : View) (ws : List Want) (parts : List ActAns) → begun b r (with_parts v ws parts) ≡ with_parts (begun b r v) ws parts
begun-parts b r v [] parts = refl
begun-parts b r v (w ∷ ws) [] = refl
begun-parts b r v (w ∷ ws) (a ∷ more) = begun-parts b r (with_part v w a) ws more ∙ ap (λ (x : View). with_parts x ws more) (begun-part b r v w a)

-- a round more, at the revision of the first one
pub begun-with : (b : Bool) (v : View) (r : ℤ) (ws : List Want) (parts : List ActAns) → is_new v ≡ b → begun b r (with_parts v ws parts) ≡ with_parts (at_revision v r) ws parts
begun-with b v r ws parts e = begun-parts b r v ws parts ∙ ap (λ c. with_parts (begun c r v) ws parts) (sym e)
