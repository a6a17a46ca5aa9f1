-- Keys have what a view saw: those that it agrees with, and those in which the guards of a plan made on it hold.
use Rattle.std.proofs.Common.{◌≡◌, ◌&&◌, pos, refl, sym, ap, ◌∙◌, subst, arith, Bool, true, false, List, [], ◌∷◌}
use Rattle.std.specs.Prelude.{Option, Some, None, All, IfSome, if◌then◌else◌, ◌≤ℤ◌}
use Rattle.std.specs.FinMap.{get}
use Rattle.std.specs.List.{list_all}
use Rattle.std.specs.Ordering.{int_eq}
use Rattle.std.proofs.lemmas.Bool.{and_parts}
use Rattle.std.proofs.lemmas.Bool.Decides.{Decides-int_eq}
use Rattle.std.proofs.lemmas.Int.{ints}
use Rattle.std.proofs.lemmas.List.Elements.{All-head, All-tail}
use Rattle.ev_types.specs.declared.answer.Kv.{Kv}
use Rattle.ev_types.specs.declared.ask.Guard.{Guard}
use Rattle.ev_types.specs.Ranges.{Keys}
use Rattle.ev_types.specs.Store.{holds, mod_of}
use Rattle.zx_base.specs.Maps.{Bytes, same}
use Rattle.zx_base.proofs.MapLaws.{same-true, apart-from_same}
use Rattle.zn_layout.specs.Keys.{HeadKey, key_bytes}
use Rattle.zn_view.specs.declared.plan.Plan.{Plan}
use Rattle.zn_view.specs.declared.snapshot.SeenKey.{SeenKey}
use Rattle.zn_view.specs.Asks.{guards_of}
use Rattle.zn_view.specs.Seen.{View, seen, seen_in}
use Rattle.zn_view.specs.Views.{Agrees, AreAsSeen, IsUnchanged, MayCommit, WasPut}

-- ---- keys that a view agrees with

agrees_at_first : (m : Keys) (k : Bytes) (x : SeenKey) (xs : List SeenKey) (o : Option Kv) (b : Bool) → same x.key k ≡ b → get m x.key ≡ x.found → (seen_in k xs ≡ Some o → get m k ≡ o)
    → (if b then Some x.found else seen_in k xs) ≡ Some o → get m k ≡ o
agrees_at_first m k x xs o true e first later h =
    let is : x.found ≡ o = cc in
    ap (get m) (sym (same-true x.key k e)) ∙ first ∙ is
agrees_at_first m k x xs o false e first later h = later h

agrees_in : (m : Keys) (k : Bytes) (xs : List SeenKey) (o : Option Kv) → All (λ (x : SeenKey). get m x.key ≡ x.found) xs → seen_in k xs ≡ Some o → get m k ≡ o
agrees_in m k [] o all h = absurd (cc)
agrees_in m k (x ∷ xs) o all h =
    agrees_at_first m k x xs o (same x.key k) refl (All-head (λ (y : SeenKey). get m y.key ≡ y.found) x xs all) (agrees_in m k xs o (All-tail (λ (y : SeenKey). get m y.key ≡ y.found) x xs all)) h

pub agrees-seen : (v : View) (m : Keys) (k : Bytes) (o : Option Kv) → Agrees v m → seen v k ≡ Some o → get m k ≡ o
agrees-seen v m k o a h = agrees_in m k v.keys o a.keys h

pub agrees-as_seen : (v : View) (m : Keys) → Agrees v m → AreAsSeen v m
agrees-as_seen v m a = λ k o apart h. agrees-seen v m k o a h

-- ---- keys in which the guards hold

-- a key that is there was put at a revision of at least 1, so a guard on its absence doesn't hold
pub same_found : (now seen : Option Kv) → mod_of now ≡ mod_of seen → ((kv : Kv) → now ≡ Some kv → seen ≡ Some kv) → IfSome seen (λ (kv : Kv). pos 1 ≤ℤ kv.mod_revision) → now ≡ seen
same_found (Some kv) seen e is put = sym (is kv refl)
same_found None None e is put = refl
same_found None (Some kv) e is put = absurd (omega (arith, ints, put, e))

abbrev SameAs : View → Keys → Guard → Type 0
SameAs v m g = (kv : Kv) → get m g.key ≡ Some kv → seen v g.key ≡ Some (Some kv)

guard-same : (v : View) (m : Keys) (x : SeenKey) → seen v x.key ≡ Some x.found → int_eq (mod_of (get m x.key)) (mod_of x.found) ≡ true → SameAs v m (record { key = x.key; mod_revision = mod_of x.found }) → WasPut x → get m x.key ≡ x.found
guard-same v m x saw e is put =
    same_found (get m x.key) x.found ((Decides-int_eq (mod_of (get m x.key)) (mod_of x.found)).0 e)
    (λ kv h. let both : Some x.found ≡ Some (Some kv) = sym saw ∙ is kv h in cc) put

-- the guards of a list of keys hold, and each guarded key that is there is as it was seen
pub record Holds (v : View) (m : Keys) (xs : List SeenKey) : Type 0 where
  pub holds : list_all (holds m) (guards_of xs) ≡ true
  pub same : All (SameAs v m) (guards_of xs)
  pub put : All WasPut xs

abbrev guarded : Bool → SeenKey → List SeenKey → List Guard
guarded b x xs = if b then guards_of xs else record { key = x.key; mod_revision = mod_of x.found } ∷ guards_of xs

holds-later : (v : View) (m : Keys) (x : SeenKey) (xs : List SeenKey) (b : Bool) → same x.key (key_bytes HeadKey) ≡ b → list_all (holds m) (guarded b x xs) ≡ true → All (SameAs v m) (guarded b x xs) → All WasPut (x ∷ xs) → Holds v m xs
holds-later v m x xs true e h s p = record { holds = h; same = s; put = All-tail WasPut x xs p }
holds-later v m x xs false e h s p =
    let g : Guard = record { key = x.key; mod_revision = mod_of x.found } in
    record { holds = (and_parts (holds m g) (list_all (holds m) (guards_of xs)) h).1; same = All-tail (SameAs v m) g (guards_of xs) s; put = All-tail WasPut x xs p }

holds-first : (v : View) (m : Keys) (k : Bytes) (x : SeenKey) (xs : List SeenKey) (b : Bool) → same x.key (key_bytes HeadKey) ≡ b → x.key ≡ k → (k ≡ key_bytes HeadKey → ⊥) → seen v k ≡ Some x.found
    → list_all (holds m) (guarded b x xs) ≡ true → All (SameAs v m) (guarded b x xs) → WasPut x → get m k ≡ x.found
holds-first v m k x xs true e is apart saw h s put = absurd (apart (sym is ∙ same-true x.key (key_bytes HeadKey) e))
holds-first v m k x xs false e is apart saw h s put =
    let g : Guard = record { key = x.key; mod_revision = mod_of x.found } in
    let first = (and_parts (holds m g) (list_all (holds m) (guards_of xs)) h).0 in
    ap (get m) (sym is) ∙ guard-same v m x (ap (seen v) is ∙ saw) first (All-head (SameAs v m) g (guards_of xs) s) put

held_at_first : (v : View) (m : Keys) (k : Bytes) (x : SeenKey) (xs : List SeenKey) (o : Option Kv) (b : Bool) → same x.key k ≡ b → (k ≡ key_bytes HeadKey → ⊥) → seen v k ≡ Some o → Holds v m (x ∷ xs)
    → (Holds v m xs → seen_in k xs ≡ Some o → get m k ≡ o) → (if b then Some x.found else seen_in k xs) ≡ Some o → get m k ≡ o
held_at_first v m k x xs o true e apart saw all later h =
    let is : x.found ≡ o = cc in
    holds-first v m k x xs (same x.key (key_bytes HeadKey)) refl (same-true x.key k e) apart (saw ∙ ap (λ (p : Option Kv). Some p) (sym is)) all.holds all.same (All-head WasPut x xs all.put) ∙ is
held_at_first v m k x xs o false e apart saw all later h = later (holds-later v m x xs (same x.key (key_bytes HeadKey)) refl all.holds all.same all.put) h

held_in : (v : View) (m : Keys) (k : Bytes) (xs : List SeenKey) (o : Option Kv) → (k ≡ key_bytes HeadKey → ⊥) → seen v k ≡ Some o → Holds v m xs → seen_in k xs ≡ Some o → get m k ≡ o
held_in v m k [] o apart saw all h = absurd (cc)
held_in v m k (x ∷ xs) o apart saw all h = held_at_first v m k x xs o (same x.key k) refl apart saw all (held_in v m k xs o apart saw) h

-- where a plan may commit, each key that its view saw has what was seen, but for the head
pub commits-as_seen : (p : Plan) (v : View) (m : Keys) → p.guards ≡ guards_of v.keys → MayCommit p v m → AreAsSeen v m
commits-as_seen p v m e may = λ k o apart h.
    held_in v m k v.keys o apart h
    (record { holds = subst (λ (gs : List Guard). list_all (holds m) gs ≡ true) e may.holds; same = subst (λ (gs : List Guard). All (SameAs v m) gs) e may.same; put = may.put }) h

-- ---- keys that haven't changed since, but for the head

abbrev IsSame : Keys → SeenKey → Type 0
IsSame m x = (x.key ≡ key_bytes HeadKey → ⊥) → get m x.key ≡ x.found

guard-holds : (m : Keys) (x : SeenKey) → get m x.key ≡ x.found → holds m (record { key = x.key; mod_revision = mod_of x.found }) ≡ true
guard-holds m x is = (Decides-int_eq (mod_of (get m x.key)) (mod_of x.found)).1 (ap mod_of is)

hold_at_first : (m : Keys) (x : SeenKey) (xs : List SeenKey) (b : Bool) → same x.key (key_bytes HeadKey) ≡ b → IsSame m x → list_all (holds m) (guards_of xs) ≡ true → list_all (holds m) (guarded b x xs) ≡ true
hold_at_first m x xs true e is rest = rest
hold_at_first m x xs false e is rest =
    subst (λ (b : Bool). (b && list_all (holds m) (guards_of xs)) ≡ true) (sym (guard-holds m x (is (apart-from_same x.key (key_bytes HeadKey) e)))) rest

hold_in : (m : Keys) (xs : List SeenKey) → All (IsSame m) xs → list_all (holds m) (guards_of xs) ≡ true
hold_in m [] all = refl
hold_in m (x ∷ xs) all = hold_at_first m x xs (same x.key (key_bytes HeadKey)) refl (All-head (IsSame m) x xs all) (hold_in m xs (All-tail (IsSame m) x xs all))

pub unchanged-holds : (p : Plan) (v : View) (m : Keys) → p.guards ≡ guards_of v.keys → IsUnchanged v m → list_all (holds m) p.guards ≡ true
unchanged-holds p v m e all = subst (λ (gs : List Guard). list_all (holds m) gs ≡ true) (sym e) (hold_in m v.keys all)
