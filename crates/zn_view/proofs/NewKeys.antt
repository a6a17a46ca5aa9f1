-- A plan puts no key that is there and not guarded, where each of its changes is accounted for.
use Rattle.std.proofs.Common.{◌≡◌, ℕ, Bool, true, false, List, [], ◌∷◌, ◌++◌, Option, Some, None, refl, sym, ap, ◌∙◌, subst, inl, inr, map}
use Rattle.std.specs.Prelude.{All, ◌⊎◌, fold, if◌then◌else◌}
use Rattle.std.specs.FinMap.{get}
use Rattle.std.proofs.lemmas.List.Elements.{All-nil, All-cons, All-append, All-map, All-weaker}
use Rattle.ev_types.specs.declared.answer.Kv.{Kv}
use Rattle.ev_types.specs.declared.ask.Act.{Act}
use Rattle.ev_types.specs.declared.ask.Guard.{Guard}
use Rattle.ev_types.specs.Ranges.{Keys}
use Rattle.ev_types.specs.Reads.{read_key}
use Rattle.ev_types.specs.Store.{mod_of}
use Rattle.zk_model.specs.declared.node.Node.{Node}
use Rattle.zk_model.specs.declared.node.Trigger.{Trigger}
use Rattle.zk_model.specs.Znodes.{num_children}
use Rattle.zk_service.specs.States.{State}
use Rattle.zx_base.specs.Maps.{Bytes, same}
use Rattle.zx_base.proofs.MapLaws.{same-true}
use Rattle.zx_base.proofs.Options.{none_some, some_none}
use Rattle.zn_layout.specs.Changes.{KeyChange, Put, act_at, act_of, acts_of, head_put, update_acts}
use Rattle.zn_layout.specs.Keys.{CountsKey, DataKey, HeadKey, Key, key_bytes}
use Rattle.zn_layout.specs.StandsFor.{is_counted_in, CountsMean, DataMeans, StandsFor, at, stored_of}
use Rattle.zn_layout.proofs.Keys.{key_bytes-injective}
use Rattle.zn_view.specs.declared.plan.Plan.{Plan}
use Rattle.zn_view.specs.declared.snapshot.SeenKey.{SeenKey}
use Rattle.zn_view.specs.Asks.{guards_of, narrowed, picked}
use Rattle.zn_view.specs.Laying.{placed}
use Rattle.zn_view.specs.Seen.{View, seen, seen_in}
use Rattle.zn_view.specs.Views.{AreAsSeen, MayCommit}
use Rattle.zn_view.proofs.AsSeen.{commits-as_seen}
use Rattle.zn_view.proofs.Members.{In, in_mapped}
use Rattle.zn_view.proofs.Narrowing.{narrowed-commits, picked-told}
use Rattle.zn_view.specs.Keeping.{IsNew, PutsNewKeys, guard_seen, guarded_seen, seen_as, with_guarded}
use Rattle.zn_view.proofs.Placed.{seen_in-placed_other, seen_in-placed_same}

-- a change is a deletion, or of one of these keys, or puts the counts of a node whose record is one of these keys and was absent
abbrev pub IsAccounted : View → List Key → KeyChange → Type 0
IsAccounted v ks c = (c.put ≡ None) ⊎ In c.key ks ⊎ ((p : Bytes) × (c.key ≡ CountsKey p) × In (DataKey p) ks × (seen v (key_bytes (DataKey p)) ≡ Some None))

-- ---- a guarded key that the view saw is known

abbrev IsGuardedKey : Bytes → List Guard → Type 0
IsGuardedKey k [] = ⊥
IsGuardedKey k (g ∷ gs) = (g.key ≡ k) ⊎ IsGuardedKey k gs

key-guarded : (k : Bytes) (o : Option Kv) (xs : List SeenKey) → (k ≡ key_bytes HeadKey → ⊥) → seen_in k xs ≡ Some o → IsGuardedKey k (guards_of xs)
key-guarded k o [] apart e = absurd (none_some e)
key-guarded k o (x ∷ xs) apart e = elim (same x.key (key_bytes HeadKey)) as (λ b. same x.key (key_bytes HeadKey) ≡ b → IsGuardedKey k (if b then guards_of xs else record { key = x.key; mod_revision = mod_of x.found } ∷ guards_of xs)) [
  | true ↦ λ head. elim (same x.key k) as (λ b. same x.key k ≡ b → (if b then Some x.found else seen_in k xs) ≡ Some o → IsGuardedKey k (guards_of xs)) [
    | true ↦ λ is f. absurd (apart (sym (same-true x.key k is) ∙ same-true x.key (key_bytes HeadKey) head))
    | false ↦ λ is f. key-guarded k o xs apart f
  ] refl e
  | false ↦ λ head. elim (same x.key k) as (λ b. same x.key k ≡ b → (if b then Some x.found else seen_in k xs) ≡ Some o → (x.key ≡ k) ⊎ IsGuardedKey k (guards_of xs)) [
    | true ↦ λ is f. inl (same-true x.key k is)
    | false ↦ λ is f. inr (key-guarded k o xs apart f)
  ] refl e
] refl

known-placed : (x : SeenKey) (xs : List SeenKey) (k : Bytes) → (seen_in k xs ≡ None → ⊥) → seen_in k (placed x xs) ≡ None → ⊥
known-placed x xs k known e = elim (same x.key k) as (λ b. same x.key k ≡ b → ⊥) [
  | true ↦ λ is. none_some (sym e ∙ ap (λ (j : Bytes). seen_in j (placed x xs)) (sym (same-true x.key k is)) ∙ seen_in-placed_same x xs)
  | false ↦ λ is. known (sym (seen_in-placed_other x xs k is) ∙ e)
] refl

still-known : (v : View) (gs : List Guard) (xs : List SeenKey) (k : Bytes) → (seen_in k xs ≡ None → ⊥) → seen_in k (fold (guard_seen v) xs gs) ≡ None → ⊥
still-known v [] xs k known = known
still-known v (g ∷ gs) xs k known = still-known v gs (guard_seen v xs g) k (one (seen v g.key))
  where
    one : (o : Option (Option Kv)) → seen_in k (with_guarded g.key o xs) ≡ None → ⊥
    one None = known
    one (Some p) = known-placed (seen_as g.key p) xs k known

guard-known : (v : View) (gs : List Guard) (xs : List SeenKey) (k : Bytes) (o : Option Kv) → IsGuardedKey k gs → seen v k ≡ Some o → seen_in k (fold (guard_seen v) xs gs) ≡ None → ⊥
guard-known v [] xs k o there saw = absurd there
guard-known v (g ∷ gs) xs k o (inr later) saw = guard-known v gs (guard_seen v xs g) k o later saw
guard-known v (g ∷ gs) xs k o (inl is) saw = still-known v gs (guard_seen v xs g) k (one (seen v g.key) (ap (seen v) is ∙ saw))
  where
    one : (p : Option (Option Kv)) → p ≡ Some o → seen_in k (with_guarded g.key p xs) ≡ None → ⊥
    one None e = absurd (none_some e)
    one (Some p) e = λ none. none_some (sym none ∙ ap (λ (j : Bytes). seen_in j (placed (seen_as g.key p) xs)) (sym is) ∙ seen_in-placed_same (seen_as g.key p) xs)

-- ---- a node without a record has no counts

no_counts : (n : Option Node) (children : ℕ) (b : Bool) (d c : Option Kv) → d ≡ None → DataMeans n (stored_of d) → CountsMean n children b (stored_of c) → c ≡ None
no_counts None children b d None e record_is counts = refl
no_counts None children b d (Some kv) e record_is counts = absurd counts
no_counts (Some n) children b None c e record_is counts = absurd record_is
no_counts (Some n) children b (Some kv) c e record_is counts = absurd (some_none e)

-- ---- each change

module _ (v : View) (ks : List Key) (p : Plan) (guards : p.guards ≡ guards_of (picked v (map key_bytes ks))) (looked_up : (k : Key) → In k ks → seen v (key_bytes k) ≡ None → ⊥) where
  abbrev known : List SeenKey
  known = guarded_seen v p.guards

  key-known : (k : Key) → In k ks → (key_bytes k ≡ key_bytes HeadKey → ⊥) → seen_in (key_bytes k) known ≡ None → ⊥
  key-known k there apart = go (seen v (key_bytes k)) refl
    where
      go : (o : Option (Option Kv)) → seen v (key_bytes k) ≡ o → seen_in (key_bytes k) known ≡ None → ⊥
      go None e = absurd (looked_up k there e)
      go (Some o) e = guard-known v p.guards [] (key_bytes k) o
          (subst (IsGuardedKey (key_bytes k)) (sym guards) (key-guarded (key_bytes k) o (picked v (map key_bytes ks)) apart (picked-told v (map key_bytes ks) (key_bytes k) o (in_mapped key_bytes k ks there) e))) e

  module _ (m : Keys) (s : State) (stands : StandsFor m s) (may : MayCommit p v m) where
    near : AreAsSeen (narrowed v (map key_bytes ks)) m
    near = commits-as_seen p (narrowed v (map key_bytes ks)) m guards (narrowed-commits p v (map key_bytes ks) m guards may)

    data_apart : (q : Bytes) → key_bytes (DataKey q) ≡ key_bytes HeadKey → ⊥
    data_apart q e = let f = key_bytes-injective (DataKey q) HeadKey e in cc

    counts-absent : (q : Bytes) → In (DataKey q) ks → seen v (key_bytes (DataKey q)) ≡ Some None → at m (CountsKey q) ≡ None
    counts-absent q there saw =
        no_counts (get s.tree q) (num_children s.tree q) (is_counted_in s (get s.tree q)) (at m (DataKey q)) (at m (CountsKey q))
        (near (key_bytes (DataKey q)) None (data_apart q) (picked-told v (map key_bytes ks) (key_bytes (DataKey q)) None (in_mapped key_bytes (DataKey q) ks there) saw))
        (stands.each (DataKey q)) (stands.each (CountsKey q))

    put-new : (k : Key) (o : Option Put) → IsAccounted v ks (record { key = k; put = o }) → IsNew known m (act_at (key_bytes k) o)
    put-new k None a = tt
    put-new k (Some w) (inl none) = absurd (some_none none)
    put-new k (Some w) (inr (inl there)) = λ apart none. absurd (key-known k there apart none)
    put-new k (Some w) (inr (inr (q, is, there, saw))) = λ apart none. ap (at m) is ∙ counts-absent q there saw

    head-new : (ts : List Trigger) → IsNew known m (act_of (head_put ts))
    head-new ts = λ apart none. absurd (apart refl)

    acts-new : (cs : List KeyChange) (ts : List Trigger) → All (IsAccounted v ks) cs → All (IsNew known m) (update_acts cs ts)
    acts-new cs ts all =
        All-append (IsNew known m) (acts_of (cs ++ head_put ts ∷ [])) (read_key (key_bytes HeadKey) ∷ [])
        (All-map (IsNew known m) act_of (cs ++ head_put ts ∷ [])
        (All-append (λ (c : KeyChange). IsNew known m (act_of c)) cs (head_put ts ∷ []) (All-weaker (IsAccounted v ks) (λ (c : KeyChange). IsNew known m (act_of c)) (λ c a. put-new c.key c.put a) cs all)
        (All-cons (λ (c : KeyChange). IsNew known m (act_of c)) (head_put ts) [] (head-new ts) (All-nil (λ (c : KeyChange). IsNew known m (act_of c))))))
        (All-cons (IsNew known m) (read_key (key_bytes HeadKey)) [] tt (All-nil (IsNew known m)))

  pub accounted-new : (cs : List KeyChange) (ts : List Trigger) → p.success ≡ update_acts cs ts → All (IsAccounted v ks) cs → PutsNewKeys v p
  accounted-new cs ts acts all = λ m s sound stands may. subst (λ (as' : List Act). All (IsNew known m) as') (sym acts) (acts-new m s stands may cs ts all)
