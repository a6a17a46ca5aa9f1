-- What is seen of a view with keys laid over it.
use Rattle.std.proofs.Common.{◌≡◌, Bool, true, false, cond, List, [], ◌∷◌, ◌++◌, Option, Some, None, refl, sym, ap, ◌∙◌}
use Rattle.ev_types.specs.declared.answer.Kv.{Kv}
use Rattle.zx_base.specs.Maps.{Bytes, same}
use Rattle.zn_view.specs.declared.snapshot.SeenKey.{SeenKey}
use Rattle.zn_view.specs.Seen.{View, seen, seen_in}
use Rattle.zn_updates.specs.Layers.{layered}

-- what the upper view saw, or else what the lower one did
abbrev pub first_seen : Option (Option Kv) → Option (Option Kv) → Option (Option Kv)
first_seen None o = o
first_seen (Some x) o = Some x

seen_first : (b : Bool) (x : Option Kv) (o p : Option (Option Kv)) → cond b (Some x) (first_seen o p) ≡ first_seen (cond b (Some x) o) p
seen_first true x o p = refl
seen_first false x o p = refl

seen_append : (k : Bytes) (xs ys : List SeenKey) → seen_in k (xs ++ ys) ≡ first_seen (seen_in k xs) (seen_in k ys)
seen_append k [] ys = refl
seen_append k (x ∷ xs) ys = ap (λ (o : Option (Option Kv)). cond (same x.key k) (Some x.found) o) (seen_append k xs ys) ∙ seen_first (same x.key k) x.found (seen_in k xs) (seen_in k ys)

pub seen_layered : (over v : View) (k : Bytes) → seen (layered over v) k ≡ first_seen (seen over k) (seen v k)
seen_layered over v k = seen_append k over.keys v.keys

over_is : (a b : Option (Option Kv)) → (a ≡ None → ⊥) → a ≡ first_seen a b
over_is None b some = absurd (some refl)
over_is (Some x) b some = refl

pub over-seen : (over v : View) (k : Bytes) → (seen over k ≡ None → ⊥) → seen over k ≡ seen (layered over v) k
over-seen over v k some = over_is (seen over k) (seen v k) some ∙ sym (seen_layered over v k)

pub under-seen : (over v : View) (k : Bytes) → seen over k ≡ None → seen v k ≡ seen (layered over v) k
under-seen over v k none = sym (seen_layered over v k ∙ ap (λ (o : Option (Option Kv)). first_seen o (seen v k)) none)

-- what a view answered was seen
pub there-seen : {A : Type 0} (f : A → Option Kv) (x : A) (o : Option (Option Kv)) → Some (f x) ≡ o → o ≡ None → ⊥
there-seen f x None e none = cc
there-seen f x (Some y) e none = cc
