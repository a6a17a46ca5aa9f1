-- Guards that hold at a later revision show what was seen.
use Rattle.std.proofs.Common.{◌≡◌, ℕ, ◌≤◌, pos, List, [], ◌∷◌, refl, sym, ap, ◌∙◌, subst, arith, Bool, true, false, inl, inr}
use Rattle.std.specs.Prelude.{Option, Some, None, ◌⊎◌, ◌≤ℤ◌, if◌then◌else◌, All}
use Rattle.std.specs.FinMap.{get}
use Rattle.std.specs.List.{list_all}
use Rattle.std.proofs.lemmas.Bool.{and_parts}
use Rattle.std.proofs.lemmas.Bool.Decides.{Decides-int_eq}
use Rattle.std.proofs.lemmas.Int.{ints}
use Rattle.std.proofs.lemmas.List.Elements.{All-cons, All-head, All-nil, All-tail, All-weaker}
use Rattle.ev_types.specs.declared.answer.Kv.{Kv}
use Rattle.ev_types.specs.declared.ask.Guard.{Guard}
use Rattle.ev_types.specs.Ranges.{Keys}
use Rattle.ev_types.specs.Store.{Store, holds, mod_of, store_at}
use Rattle.ev_types.proofs.Revisions.{later_as_it_was}
use Rattle.zx_base.specs.Maps.{Bytes, same}
use Rattle.zx_base.proofs.MapLaws.{same-true}
use Rattle.zx_base.proofs.Options.{none_some, some_is}
use Rattle.zn_layout.specs.Keys.{HeadKey, key_bytes}
use Rattle.zk_model.specs.declared.request.Request.{Request}
use Rattle.zn_view.proofs.Narrowing.{picked-each}
use Rattle.zn_view.specs.Asks.{guards_of, picked}
use Rattle.zn_view.specs.Seen.{View, seen, seen_in}
use Rattle.zn_view.specs.Views.{Agrees, MayCommit, WasPut}
use Rattle.zn_view.specs.declared.plan.Plan.{Plan}
use Rattle.zn_view.specs.declared.snapshot.SeenKey.{SeenKey}
use Rattle.zp_laws.specs.Standing.{IsMadeOf}

-- ---- a plan of which the guards hold at a later revision

abbrev pub FoundIn : Keys → SeenKey → Type 0
FoundIn m x = get m x.key ≡ x.found

-- what a view saw under a key is what the keys have
pub seen-any : (m : Keys) (all : List SeenKey) (k : Bytes) → All (FoundIn m) all → (seen_in k all ≡ None) ⊎ (seen_in k all ≡ Some (get m k))
seen-any m [] k h = inl refl
seen-any m (x ∷ xs) k h = go (same x.key k) refl (seen-any m xs k (All-tail (FoundIn m) x xs h))
  where
    go : (b : Bool) → same x.key k ≡ b → (seen_in k xs ≡ None) ⊎ (seen_in k xs ≡ Some (get m k))
        → ((if b then Some x.found else seen_in k xs) ≡ None) ⊎ ((if b then Some x.found else seen_in k xs) ≡ Some (get m k))
    go true e rest = inr (ap Some (sym (All-head (FoundIn m) x xs h) ∙ ap (get m) (same-true x.key k e)))
    go false e rest = rest

-- what a view found under a key is what the keys have
abbrev pub IsFoundIn : Keys → SeenKey → Type 0
IsFoundIn m x = (kv : Kv) → x.found ≡ Some kv → get m x.key ≡ Some kv

pub agrees-found : (v : View) (m : Keys) → Agrees v m → All (IsFoundIn m) v.keys
agrees-found v m a = All-weaker (FoundIn m) (IsFoundIn m) (λ x h kv e. h ∙ e) v.keys a.keys

-- a guess says nothing of what was found
pub made-found : (r : Request) (v : View) (p : Plan) (m : Keys) → IsMadeOf r v p m → All (IsFoundIn m) v.keys
made-found r v p m (inl a) = agrees-found v m a
made-found r v p m (inr g) = All-weaker (λ (x : SeenKey). (get m x.key ≡ x.found) ⊎ ((x.key ≡ g.key) × (x.found ≡ None))) (IsFoundIn m) (λ x h. one x h) v.keys g.keys
  where
    one : (x : SeenKey) → (get m x.key ≡ x.found) ⊎ ((x.key ≡ g.key) × (x.found ≡ None)) → IsFoundIn m x
    one x (inl e) kv is = e ∙ is
    one x (inr e) kv is = absurd (none_some (sym e.1 ∙ is))

-- a record that was seen is what the keys have
pub seen-there : (m : Keys) (all : List SeenKey) (k : Bytes) (kv : Kv) → All (IsFoundIn m) all → seen_in k all ≡ Some (Some kv) → get m k ≡ Some kv
seen-there m [] k kv h e = absurd (none_some e)
seen-there m (x ∷ xs) k kv h e = go (same x.key k) refl (seen-there m xs k kv (All-tail (IsFoundIn m) x xs h)) e
  where
    go : (b : Bool) → same x.key k ≡ b → (seen_in k xs ≡ Some (Some kv) → get m k ≡ Some kv) → (if b then Some x.found else seen_in k xs) ≡ Some (Some kv) → get m k ≡ Some kv
    go true t rest f = ap (get m) (sym (same-true x.key k t)) ∙ All-head (IsFoundIn m) x xs h kv (some_is f)
    go false t rest f = rest f

-- a guarded key that is there is as the view has it
abbrev AsSeen : View → Keys → Guard → Type 0
AsSeen v m g = (kv : Kv) → get m g.key ≡ Some kv → seen v g.key ≡ Some (Some kv)

-- the view saw the key so
abbrev IsSeenAs : View → SeenKey → Type 0
IsSeenAs v x = seen v x.key ≡ Some x.found

-- what is there was put at revision 1 or later
abbrev pub ArePut : Keys → Type 0
ArePut m = (k : Bytes) (kv : Kv) → get m k ≡ Some kv → pos 1 ≤ℤ kv.mod_revision

module _ (s : Store) (a b : ℕ) (v : View) (le : a ≤ b) (found : All (IsFoundIn (store_at s a)) v.keys) (there_put : ArePut (store_at s b)) where
  -- a key that the view says is absent is absent where its guard holds, be that a guess or not
  one-guard : (k : Bytes) (o : Option Kv) → seen v k ≡ Some o → mod_of (get (store_at s b) k) ≡ mod_of o → AsSeen v (store_at s b) (record { key = k; mod_revision = mod_of o })
  one-guard k None saw e kv there =
      let zero_is : kv.mod_revision ≡ pos 0 = sym (ap mod_of there) ∙ e in
      let least = there_put k kv there in
      absurd (omega (arith, ints, zero_is, least))
  one-guard k (Some x) saw e kv there =
      let was : get (store_at s a) k ≡ Some x = seen-there (store_at s a) v.keys k x found saw in
      let same_value : get (store_at s b) k ≡ get (store_at s a) k = later_as_it_was s a b k le (e ∙ ap mod_of (sym was)) in
      saw ∙ ap Some (sym was ∙ sym same_value ∙ there)

  guards-seen : (xs : List SeenKey) → All (IsSeenAs v) xs → list_all (holds (store_at s b)) (guards_of xs) ≡ true → All (AsSeen v (store_at s b)) (guards_of xs)
  guards-seen [] saw h = All-nil (AsSeen v (store_at s b))
  guards-seen (x ∷ xs) saw h = go (same x.key (key_bytes HeadKey)) (guards-seen xs (All-tail (IsSeenAs v) x xs saw)) h
    where
      g : Guard
      g = record { key = x.key; mod_revision = mod_of x.found }

      go : (c : Bool) → (list_all (holds (store_at s b)) (guards_of xs) ≡ true → All (AsSeen v (store_at s b)) (guards_of xs))
          → list_all (holds (store_at s b)) (if c then guards_of xs else g ∷ guards_of xs) ≡ true → All (AsSeen v (store_at s b)) (if c then guards_of xs else g ∷ guards_of xs)
      go true rest e = rest e
      go false rest e =
          let both = and_parts (holds (store_at s b) g) (list_all (holds (store_at s b)) (guards_of xs)) e in
          All-cons (AsSeen v (store_at s b)) g (guards_of xs)
          (one-guard x.key x.found (All-head (IsSeenAs v) x xs saw) ((Decides-int_eq (mod_of (get (store_at s b) x.key)) (mod_of x.found)).0 both.0)) (rest both.1)

-- guards on keys that the view saw, at what it saw, which hold at a later revision: the plan may be carried out
pub may-commit : (s : Store) (v : View) (p : Plan) (a b : ℕ) (ks : List Bytes) → a ≤ b → All (IsFoundIn (store_at s a)) v.keys → ArePut (store_at s b) → All WasPut v.keys → p.guards ≡ guards_of (picked v ks)
    → list_all (holds (store_at s b)) p.guards ≡ true → MayCommit p v (store_at s b)
may-commit s v p a b ks le found there_put put e h = record {
  holds = h;
  same = subst (λ gs. All (AsSeen v (store_at s b)) gs) (sym e)
      (guards-seen s a b v le found there_put (picked v ks) (picked-each (IsSeenAs v) v ks (λ k o inside saw. saw)) (subst (λ gs. list_all (holds (store_at s b)) gs ≡ true) e h));
  put = put;
}
