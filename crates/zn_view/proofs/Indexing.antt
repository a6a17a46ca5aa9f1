-- An index of keys finds what the first of equal keys shows.
use Rattle.std.proofs.Common.{◌≡◌, Bool, true, false, cond, List, [], ◌∷◌, Option, Some, None, refl, sym, ap, ◌∙◌, subst}
use Rattle.std.specs.Prelude.{if◌then◌else◌, option_map}
use Rattle.std.specs.BTreeMap.{is_at}
use Rattle.std.specs.Ordering.{nat_cmp}
use Rattle.std.specs.Cmp.Lexicographic.{slice_cmp}
use Rattle.ev_types.specs.declared.answer.Kv.{Kv}
use Rattle.zx_base.specs.Maps.{Bytes, same}
use Rattle.zx_base.proofs.MapLaws.{same-true}
use Rattle.zn_view.specs.declared.snapshot.SeenKey.{SeenKey}
use Rattle.zn_view.specs.Indexing.{or_seen, seen_from}
use Rattle.zn_view.specs.Seen.{seen_in}
use Rattle.ev_types.proofs.Names.{names-tie}

-- a key that is no key of the index goes into it
pub taken-in : {A : Type 0} (show : A → Option Kv) (x : SeenKey) (value : A) (old new : Bytes → Option A) → show value ≡ x.found → old x.key ≡ None → ((p : Bytes) → new p ≡ cond (is_at (slice_cmp nat_cmp x.key) p) (Some value) (old p))
    → (q : Bytes) → option_map show (new q) ≡ or_seen q (option_map show (old q)) x
taken-in show x value old new is free writes q = go (same x.key q) refl
  where
    there : or_seen x.key (option_map show (old x.key)) x ≡ (if same x.key x.key then Some x.found else None)
    there = ap (λ o. or_seen x.key (option_map show o) x) free

    absent : (o : Option (Option Kv)) → same x.key q ≡ false → o ≡ or_seen q o x
    absent None e = ap (λ b. if b then Some x.found else None) (sym e)
    absent (Some f) e = refl

    go : (b : Bool) → same x.key q ≡ b → option_map show (new q) ≡ or_seen q (option_map show (old q)) x
    go true e =
        let own : x.key ≡ q = same-true x.key q e in
        subst (λ (k : Bytes). same x.key k ≡ true → option_map show (new k) ≡ or_seen k (option_map show (old k)) x) own
        (λ s. ap (option_map show) (writes x.key ∙ ap (λ b. cond b (Some value) (old x.key)) (names-tie x.key x.key ∙ s))
        ∙ ap Some is ∙ ap (λ b. if b then Some x.found else None) (sym s) ∙ sym there) e
    go false e =
        ap (option_map show) (writes q ∙ ap (λ b. cond b (Some value) (old q)) (names-tie x.key q ∙ e))
        ∙ absent (option_map show (old q)) e

later : (q : Bytes) (f : Option Kv) (xs : List SeenKey) → seen_from q (Some f) xs ≡ Some f
later q f [] = refl
later q f (x ∷ xs) = later q f xs

seen_from-first : (q : Bytes) (x : SeenKey) (xs : List SeenKey) (b : Bool) → seen_from q None xs ≡ seen_in q xs → seen_from q (if b then Some x.found else None) xs ≡ (if b then Some x.found else seen_in q xs)
seen_from-first q x xs true h = later q x.found xs
seen_from-first q x xs false h = h

pub seen_from-none : (q : Bytes) (xs : List SeenKey) → seen_from q None xs ≡ seen_in q xs
seen_from-none q [] = refl
seen_from-none q (x ∷ xs) = seen_from-first q x xs (same x.key q) (seen_from-none q xs)
