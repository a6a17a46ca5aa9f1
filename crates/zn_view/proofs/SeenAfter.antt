-- What a view sees after it took further parts: what it saw before, and what was wanted.
use Rattle.std.proofs.Common.{◌≡◌, zero, suc, ◌≤◌, refl, sym, ap, subst, arith, Bool, true, false, List, [], ◌∷◌, ◌++◌, length}
use Rattle.std.specs.Prelude.{Option, Some, None, Contains, if◌then◌else◌}
use Rattle.ev_types.specs.declared.answer.ActAns.{ActAns}
use Rattle.ev_types.specs.declared.answer.Kv.{Kv}
use Rattle.zx_base.specs.Maps.{Bytes, same}
use Rattle.zx_base.proofs.MapLaws.{same-refl}
use Rattle.zn_view.specs.declared.snapshot.SeenKey.{SeenKey}
use Rattle.zn_view.specs.declared.snapshot.SeenChildren.{SeenChildren}
use Rattle.zn_view.specs.declared.want.Want.{Want}
use Rattle.zn_view.specs.declared.want.Want.TheVariants as want
use Rattle.zn_view.specs.Asks.{with_part, with_parts, kept_under, found_in, paths_in}
use Rattle.zn_view.specs.Needs.{IsLacking}
use Rattle.zn_view.specs.Seen.{View, seen, seen_in, listed, listed_in}

-- ---- what was seen stays

seen_on : (k : Bytes) (xs : List SeenKey) (y : SeenKey) (o : Option Kv) → seen_in k xs ≡ Some o → seen_in k (xs ++ y ∷ []) ≡ Some o
seen_on k [] y o h = absurd (cc)
seen_on k (x ∷ xs) y o h = step (same x.key k) h (seen_on k xs y o)
  where
    step : (b : Bool) → (if b then Some x.found else seen_in k xs) ≡ Some o → (seen_in k xs ≡ Some o → seen_in k (xs ++ y ∷ []) ≡ Some o) → (if b then Some x.found else seen_in k (xs ++ y ∷ [])) ≡ Some o
    step true e later = e
    step false e later = later e

listed_on : (p : Bytes) (xs : List SeenChildren) (y : SeenChildren) (ps : List Bytes) → listed_in p xs ≡ Some ps → listed_in p (xs ++ y ∷ []) ≡ Some ps
listed_on p [] y ps h = absurd (cc)
listed_on p (x ∷ xs) y ps h = step (same x.path p) h (listed_on p xs y ps)
  where
    step : (b : Bool) → (if b then Some x.paths else listed_in p xs) ≡ Some ps → (listed_in p xs ≡ Some ps → listed_in p (xs ++ y ∷ []) ≡ Some ps) → (if b then Some x.paths else listed_in p (xs ++ y ∷ [])) ≡ Some ps
    step true e later = e
    step false e later = later e

seen-part : (v : View) (w : Want) (a : ActAns) (k : Bytes) (o : Option Kv) → seen v k ≡ Some o → seen (with_part v w a) k ≡ Some o
seen-part v (want.Key q) a k o h = seen_on k v.keys (record { key = q; found = kept_under q (found_in a) }) o h
seen-part v (want.Children p) a k o h = h

pub seen-with_parts : (v : View) (ws : List Want) (parts : List ActAns) (k : Bytes) (o : Option Kv) → seen v k ≡ Some o → seen (with_parts v ws parts) k ≡ Some o
seen-with_parts v [] parts k o h = h
seen-with_parts v (w ∷ ws) [] k o h = h
seen-with_parts v (w ∷ ws) (a ∷ more) k o h = seen-with_parts (with_part v w a) ws more k o (seen-part v w a k o h)

listed-part : (v : View) (w : Want) (a : ActAns) (p : Bytes) (ps : List Bytes) → listed v p ≡ Some ps → listed (with_part v w a) p ≡ Some ps
listed-part v (want.Key q) a p ps h = h
listed-part v (want.Children q) a p ps h = listed_on p v.lists (record { path = q; paths = paths_in q (found_in a) }) ps h

pub listed-with_parts : (v : View) (ws : List Want) (parts : List ActAns) (p : Bytes) (ps : List Bytes) → listed v p ≡ Some ps → listed (with_parts v ws parts) p ≡ Some ps
listed-with_parts v [] parts p ps h = h
listed-with_parts v (w ∷ ws) [] p ps h = h
listed-with_parts v (w ∷ ws) (a ∷ more) p ps h = listed-with_parts (with_part v w a) ws more p ps (listed-part v w a p ps h)

-- ---- what was wanted is seen

seen_last : (k : Bytes) (xs : List SeenKey) (o : Option Kv) → seen_in k (xs ++ record { key = k; found = o } ∷ []) ≡ None → ⊥
seen_last k [] o h = let is : (if same k k then Some o else None) ≡ Some o = ap (λ (b : Bool). if b then Some o else None) (same-refl k) in absurd (cc)
seen_last k (x ∷ xs) o h = step (same x.key k) (seen_last k xs o) h
  where
    step : (b : Bool) → (seen_in k (xs ++ record { key = k; found = o } ∷ []) ≡ None → ⊥) → (if b then Some x.found else seen_in k (xs ++ record { key = k; found = o } ∷ [])) ≡ None → ⊥
    step true later e = absurd (cc)
    step false later e = later e

listed_last : (p : Bytes) (xs : List SeenChildren) (ps : List Bytes) → listed_in p (xs ++ record { path = p; paths = ps } ∷ []) ≡ None → ⊥
listed_last p [] ps h = let is : (if same p p then Some ps else None) ≡ Some ps = ap (λ (b : Bool). if b then Some ps else None) (same-refl p) in absurd (cc)
listed_last p (x ∷ xs) ps h = step (same x.path p) (listed_last p xs ps) h
  where
    step : (b : Bool) → (listed_in p (xs ++ record { path = p; paths = ps } ∷ []) ≡ None → ⊥) → (if b then Some x.paths else listed_in p (xs ++ record { path = p; paths = ps } ∷ [])) ≡ None → ⊥
    step true later e = absurd (cc)
    step false later e = later e

part-shown : (v : View) (w : Want) (a : ActAns) → IsLacking (with_part v w a) w → ⊥
part-shown v (want.Key k) a h = seen_last k v.keys (kept_under k (found_in a)) h
part-shown v (want.Children p) a h = listed_last p v.lists (paths_in p (found_in a)) h

lacking-part : (v : View) (w x : Want) (a : ActAns) → IsLacking (with_part v w a) x → IsLacking v x
lacking-part v w (want.Key k) a h = before (seen v k) refl
  where
    before : (o : Option (Option Kv)) → seen v k ≡ o → seen v k ≡ None
    before None e = e
    before (Some f) e = let is = seen-part v w a k f e in absurd (cc)
lacking-part v w (want.Children p) a h = before (listed v p) refl
  where
    before : (o : Option (List Bytes)) → listed v p ≡ o → listed v p ≡ None
    before None e = e
    before (Some ps) e = let is = listed-part v w a p ps e in absurd (cc)

-- what is lacking after further parts was lacking before
lacking-with_parts : (v : View) (ws : List Want) (parts : List ActAns) (x : Want) → IsLacking (with_parts v ws parts) x → IsLacking v x
lacking-with_parts v [] parts x h = h
lacking-with_parts v (w ∷ ws) [] x h = h
lacking-with_parts v (w ∷ ws) (a ∷ more) x h = lacking-part v w x a (lacking-with_parts (with_part v w a) ws more x h)

pub wanted-shown : (v : View) (ws : List Want) (parts : List ActAns) (x : Want) → length ws ≤ length parts → Contains ws x → IsLacking (with_parts v ws parts) x → ⊥
wanted-shown v [] parts x le (i, lt, e) h = absurd (omega (arith, lt))
wanted-shown v (w ∷ ws) [] x le there h = absurd (omega (arith, le))
wanted-shown v (w ∷ ws) (a ∷ more) x le (zero, lt, e) h =
    part-shown v w a (subst (λ (y : Want). IsLacking (with_part v w a) y) (sym e) (lacking-with_parts (with_part v w a) ws more x h))
wanted-shown v (w ∷ ws) (a ∷ more) x le (suc i, lt, e) h = wanted-shown (with_part v w a) ws more x (omega (arith, le)) (i, omega (arith, lt), e) h
