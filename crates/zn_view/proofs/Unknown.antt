-- The wants for the keys that are not known are those for the keys that are lacking.
use Rattle.std.proofs.Common.{◌≡◌, Bool, true, false, cond, ◌||◌, List, [], ◌∷◌, ◌++◌, Option, Some, refl, sym, ap, ◌∙◌, subst}
use Rattle.std.specs.Prelude.{is_some, if◌then◌else◌}
use Rattle.std.specs.List.{list_any}
use Rattle.std.proofs.lemmas.List.Folds.{list_any-append}
use Rattle.ev_types.specs.declared.answer.Kv.{Kv}
use Rattle.zx_base.specs.Maps.{Bytes, same}
use Rattle.zx_base.proofs.MapLaws.{same-true}
use Rattle.zn_view.specs.declared.snapshot.SeenKey.{SeenKey}
use Rattle.zn_view.specs.declared.want.Want.{Want}
use Rattle.zn_view.specs.declared.want.Want.TheVariants as want
use Rattle.zn_view.specs.Lacking.{is_want_of, known_from, with_want}
use Rattle.zn_view.specs.Seen.{View, seen, seen_in}

either : (b c d : Bool) → ((b || c) || d) ≡ (b || (c || d))
either true c d = refl
either false c d = refl

either-none : (b : Bool) → (b || false) ≡ b
either-none true = refl
either-none false = refl

first-found : (b : Bool) (f : Option Kv) (o : Option (Option Kv)) → (b || is_some o) ≡ is_some (if b then Some f else o)
first-found true f o = refl
first-found false f o = refl

known_from-or : (q : Bytes) (b : Bool) (xs : List SeenKey) → known_from q b xs ≡ (b || is_some (seen_in q xs))
known_from-or q b [] = sym (either-none b)
known_from-or q b (x ∷ xs) = known_from-or q (b || same x.key q) xs ∙ either b (same x.key q) (is_some (seen_in q xs)) ∙ ap (λ c. b || c) (first-found (same x.key q) x.found (seen_in q xs))

pub known_from-none : (q : Bytes) (xs : List SeenKey) → known_from q false xs ≡ is_some (seen_in q xs)
known_from-none q xs = known_from-or q false xs

-- ---- one key more

-- a key is known where the view saw it or it is wanted
abbrev pub Knows : View → List Want → (Bytes → Bool) → Type 0
Knows v ws known = (q : Bytes) → known q ≡ (is_some (seen v q) || list_any (is_want_of q) ws)

module _ (v : View) (ws : List Want) (known next : Bytes → Bool) (k : Bytes) (more : (q : Bytes) → next q ≡ (known q || same k q)) (knows : Knows v ws known) where
  same-known : (q : Bytes) (b : Bool) → same k q ≡ b → known k ≡ true → (known q || b) ≡ known q
  same-known q true e t = let own : known q ≡ true = ap known (sym (same-true k q e)) ∙ t in ap (λ b. b || true) own ∙ sym own
  same-known q false e t = either-none (known q)

  knows-next : (b : Bool) → known k ≡ b → Knows v (cond b ws (ws ++ want.Key k ∷ [])) next
  knows-next true e q = more q ∙ same-known q (same k q) refl e ∙ knows q
  knows-next false e q =
      more q ∙ ap (λ b. b || same k q) (knows q) ∙ either (is_some (seen v q)) (list_any (is_want_of q) ws) (same k q)
      ∙ ap (λ b. is_some (seen v q) || b) (ap (λ b. list_any (is_want_of q) ws || b) (sym (either-none (same k q))) ∙ sym (list_any-append (is_want_of q) ws (want.Key k ∷ [])))

  pub next-knows : (new : List Want) → new ≡ cond (known k) ws (ws ++ want.Key k ∷ []) → Knows v new next
  next-knows new is = subst (λ l. Knows v l next) (sym is) (knows-next (known k) refl)

  pub next-wants : (new : List Want) → new ≡ cond (known k) ws (ws ++ want.Key k ∷ []) → with_want v ws k ≡ new
  next-wants new is = ap (λ b. cond b ws (ws ++ want.Key k ∷ [])) (sym (knows k)) ∙ sym is
