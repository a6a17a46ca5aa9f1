-- What a setWatches lacks once a round was answered: what was left to ask.
use Rattle.std.proofs.Common.{◌≡◌, ◌≢◌, ℤ, zero, suc, ◌≤◌, refl, sym, ap, subst, arith, Bool, true, false, List, [], ◌∷◌, ◌++◌, length, ◌⊎◌, ⊎_elim}
use Rattle.std.specs.Prelude.{AllPairs, Contains, Option, Some, None, if◌then◌else◌}
use Rattle.std.proofs.lemmas.List.Elements.{Contains-append_cases, Contains-append_right}
use Rattle.ev_types.specs.declared.answer.ActAns.{ActAns}
use Rattle.ev_types.specs.declared.answer.Kv.{Kv}
use Rattle.zk_model.specs.declared.request.Request.{Request}
use Rattle.zk_model.specs.declared.request.Request.TheVariants as req
use Rattle.zk_model.specs.Watches.{no_watches}
use Rattle.zk_service.specs.Answers.{plain_request}
use Rattle.zx_base.specs.Maps.{Bytes, same}
use Rattle.zx_base.proofs.MapLaws.{same-true}
use Rattle.zn_layout.specs.Keys.{Key}
use Rattle.zn_view.specs.declared.plan.Who.{Who}
use Rattle.zn_view.specs.declared.snapshot.SeenChildren.{SeenChildren}
use Rattle.zn_view.specs.declared.snapshot.SeenKey.{SeenKey}
use Rattle.zn_view.specs.declared.want.Want.{Want}
use Rattle.zn_view.specs.declared.want.Want.TheVariants as want
use Rattle.zn_view.specs.Adding.{at_revision, is_new}
use Rattle.zn_view.specs.Asks.{found_in, head_want, kept_under, paths_in, with_part, with_parts}
use Rattle.zn_view.specs.Needs.{AreNeeds, IsLacking, IsRead, key_want, life_want}
use Rattle.zn_view.specs.Seen.{View, listed, listed_in, seen, seen_in}
use Rattle.zn_view.specs.Views.{reads}
use Rattle.zn_view.proofs.Elements.{contains-first, contains-rest, empty-contains}
use Rattle.zn_view.proofs.SeenAfter.{listed-with_parts, seen-with_parts, wanted-shown}
use Rattle.zp_core.specs.Left.{is_set_watches}

-- ---- what was not asked is as it was

absent_on : (k : Bytes) (xs : List SeenKey) (y : SeenKey) → (y.key ≡ k → ⊥) → seen_in k xs ≡ None → seen_in k (xs ++ y ∷ []) ≡ None
absent_on k [] y apart h = other (same y.key k) refl
  where
    other : (b : Bool) → same y.key k ≡ b → (if b then Some y.found else None) ≡ None
    other true e = absurd (apart (same-true y.key k e))
    other false e = refl
absent_on k (x ∷ xs) y apart h = step (same x.key k) h (absent_on k xs y apart)
  where
    step : (b : Bool) → (if b then Some x.found else seen_in k xs) ≡ None → (seen_in k xs ≡ None → seen_in k (xs ++ y ∷ []) ≡ None) → (if b then Some x.found else seen_in k (xs ++ y ∷ [])) ≡ None
    step true e later = e
    step false e later = later e

unlisted_on : (p : Bytes) (xs : List SeenChildren) (y : SeenChildren) → (y.path ≡ p → ⊥) → listed_in p xs ≡ None → listed_in p (xs ++ y ∷ []) ≡ None
unlisted_on p [] y apart h = other (same y.path p) refl
  where
    other : (b : Bool) → same y.path p ≡ b → (if b then Some y.paths else None) ≡ None
    other true e = absurd (apart (same-true y.path p e))
    other false e = refl
unlisted_on p (x ∷ xs) y apart h = step (same x.path p) h (unlisted_on p xs y apart)
  where
    step : (b : Bool) → (if b then Some x.paths else listed_in p xs) ≡ None → (listed_in p xs ≡ None → listed_in p (xs ++ y ∷ []) ≡ None) → (if b then Some x.paths else listed_in p (xs ++ y ∷ [])) ≡ None
    step true e later = e
    step false e later = later e

part-kept : (v : View) (w x : Want) (a : ActAns) → (w ≡ x → ⊥) → IsLacking v x → IsLacking (with_part v w a) x
part-kept v (want.Key q) (want.Key k) a apart h = absent_on k v.keys (record { key = q; found = kept_under q (found_in a) }) (λ e. apart (ap (λ (b : Bytes). want.Key b) e)) h
part-kept v (want.Key q) (want.Children p) a apart h = h
part-kept v (want.Children q) (want.Key k) a apart h = h
part-kept v (want.Children q) (want.Children p) a apart h = unlisted_on p v.lists (record { path = q; paths = paths_in q (found_in a) }) (λ e. apart (ap (λ (b : Bytes). want.Children b) e)) h

lacking-kept : (v : View) (ws : List Want) (parts : List ActAns) (x : Want) → (Contains ws x → ⊥) → IsLacking v x → IsLacking (with_parts v ws parts) x
lacking-kept v [] parts x apart h = h
lacking-kept v (w ∷ ws) [] x apart h = h
lacking-kept v (w ∷ ws) (a ∷ more) x apart h =
    lacking-kept (with_part v w a) ws more x (λ c. apart (contains-rest w ws x c)) (part-kept v w x a (λ e. apart (subst (λ (y : Want). Contains (w ∷ ws) y) e (contains-first w ws))) h)

-- ---- what is lacking now was lacking before

lacking-before : (v : View) (ws : List Want) (parts : List ActAns) (x : Want) → IsLacking (with_parts v ws parts) x → IsLacking v x
lacking-before v ws parts (want.Key k) h = before (seen v k) refl
  where
    before : (o : Option (Option Kv)) → seen v k ≡ o → seen v k ≡ None
    before None e = e
    before (Some f) e = let is = seen-with_parts v ws parts k f e in absurd (cc)
lacking-before v ws parts (want.Children p) h = before (listed v p) refl
  where
    before : (o : Option (List Bytes)) → listed v p ≡ o → listed v p ≡ None
    before None e = e
    before (Some ps) e = let is = listed-with_parts v ws parts p ps e in absurd (cc)

-- ---- the first round's revision

lacking-at : (v : View) (n : ℤ) (b : Bool) (x : Want) → IsLacking v x → IsLacking (if b then record v { revision = n } else v) x
lacking-at v n true (want.Key k) h = h
lacking-at v n true (want.Children p) h = h
lacking-at v n false x h = h

lacking-unrevised : (v : View) (n : ℤ) (b : Bool) (x : Want) → IsLacking (if b then record v { revision = n } else v) x → IsLacking v x
lacking-unrevised v n true (want.Key k) h = h
lacking-unrevised v n true (want.Children p) h = h
lacking-unrevised v n false x h = h

-- ---- wants of which each stands once

apart-after : (xs ys : List Want) → AllPairs (λ (w u : Want). w ≢ u) (xs ++ ys) → AllPairs (λ (w u : Want). w ≢ u) ys
apart-after [] ys h = h
apart-after (x ∷ xs) ys h = apart-after xs ys (λ i j d lt within. h (suc i) (suc j) d (omega (arith, lt)) (omega (arith, within)))

apart-first : (x : Want) (xs : List Want) → AllPairs (λ (w u : Want). w ≢ u) (x ∷ xs) → Contains xs x → ⊥
apart-first x xs h (k, lt, e) = h zero (suc k) x (omega arith) (omega (arith, lt)) (sym e)

apart-asked : (xs ys : List Want) (x : Want) → AllPairs (λ (w u : Want). w ≢ u) (xs ++ ys) → Contains ys x → Contains xs x → ⊥
apart-asked [] ys x h left (k, lt, e) = absurd (omega (arith, lt))
apart-asked (w ∷ xs) ys x h left (zero, lt, e) = apart-first w (xs ++ ys) h (subst (λ (y : Want). Contains (xs ++ ys) y) (sym e) (Contains-append_right xs ys x left))
apart-asked (w ∷ xs) ys x h left (suc k, lt, e) = apart-asked xs ys x (λ i j d le within. h (suc i) (suc j) d (omega (arith, le)) (omega (arith, within))) left (k, omega (arith, lt), e)

none-after : (xs ys : List Want) → xs ++ ys ≡ [] → ys ≡ []
none-after [] ys e = e
none-after (x ∷ xs) ys e = absurd (cc)

-- ---- a setWatches reads the same whatever was seen

reads-same : (r : Request) (who other : Who) (v u : View) (w : Want) → is_set_watches r ≡ true → who.session ≡ other.session → IsRead r who v w → IsRead r other u w
reads-same (req.SetWatches since exists datas children) who other v u w is e h =
    subst (λ (n : ℤ). (w ≡ head_want) ⊎ (w ≡ life_want n) ⊎ ((k : Key) × Contains (reads (req.SetWatches since exists datas children) n) k × (w ≡ key_want k)) ⊎ ⊥) e h
reads-same _ who other v u w is e h = absurd (cc)

-- what was left to ask is what is lacking, where each want that was asked has a part
pub still-lacking : (r : Request) (who other : Who) (v : View) (asked left : List Want) (n : ℤ) (parts : List ActAns) → is_set_watches r ≡ true → who.session ≡ other.session → length asked ≤ length parts
    → AreNeeds r who v (asked ++ left) → AreNeeds r other (with_parts (at_revision v n) asked parts) left
still-lacking r who other v asked left n parts is same each needs = record {
  only = λ w c. only w c (needs.only w (Contains-append_right asked left w c));
  enough = λ none plain w read lacks. empty-contains left w none (all plain w read lacks);
  all = all;
  once = apart-after asked left needs.once;
  none = λ t plain. none-after asked left (needs.none t plain);
}
  where
    only : (w : Want) → Contains left w → IsRead r who v w × IsLacking v w → IsRead r other (with_parts (at_revision v n) asked parts) w × IsLacking (with_parts (at_revision v n) asked parts) w
    only w c h =
        (reads-same r who other v (with_parts (at_revision v n) asked parts) w is same h.0, lacking-kept (at_revision v n) asked parts w (apart-asked asked left w needs.once c) (lacking-at v n (is_new v) w h.1))

    all : plain_request no_watches r ≡ None → (w : Want) → IsRead r other (with_parts (at_revision v n) asked parts) w → IsLacking (with_parts (at_revision v n) asked parts) w → Contains left w
    all plain w read lacks = ⊎_elim
        (λ c. absurd (wanted-shown (at_revision v n) asked parts w each c lacks))
        (λ c. c)
        (Contains-append_cases asked left w (needs.all plain w (reads-same r other who (with_parts (at_revision v n) asked parts) v w is (sym same) read) (lacking-unrevised v n (is_new v) w (lacking-before (at_revision v n) asked parts w lacks))))
