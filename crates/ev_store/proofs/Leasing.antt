-- The keys that were put with each lease: what one more adds, and that the keys of a lease are among those that are held.
use Rattle.std.proofs.Common.{◌≡◌, ℕ, zero, suc, ◌+◌, Bool, true, false, cond, ◌&&◌, ◌||◌, ℤ, pos, List, [], ◌∷◌, ◌++◌, length, take, Option, Some, None, refl, sym, ap, ◌∙◌, arith}
use Rattle.std.specs.Option.{unwrap_or, option_or}
use Rattle.std.specs.BTreeMap.{BTreeMap, get, is_at}
use Rattle.std.specs.Ordering.{int_cmp, int_eq}
use Rattle.std.specs.Cmp.{int_cmp_total, eq_by_cmp_equiv}
use Rattle.std.proofs.lemmas.Bool.{and_parts}
use Rattle.std.proofs.lemmas.Bool.Decides.{Decides-int_eq}
use Rattle.std.proofs.lemmas.List.{take_all}
use Rattle.std.proofs.lemmas.List.Folds.{list_any-append}
use Rattle.zx_base.specs.Maps.{Bytes, same}
use Rattle.zx_base.proofs.MapLaws.{same-refl, same-true}
use Rattle.ev_types.specs.declared.answer.Kv.{Kv}
use Rattle.ev_types.specs.Denials.{is_lease}
use Rattle.ev_types.specs.Lapses.{is_leased}
use Rattle.ev_types.specs.Store.{Change, Puts, Removes}
use Rattle.ev_store.specs.declared.versions.Version.{Version}
use Rattle.ev_store.specs.Changes.{key_of}
use Rattle.ev_store.specs.Folds.{kv_after_put, key_after_change, key_after_changes, key_after_revisions}
use Rattle.ev_store.specs.Leased.{with_lease, named_with, names, gives_lease, KeepsNames, NamesChange, NamesLeased, all_held}
use Rattle.ev_store.specs.Versions.{last_state, state_at, taken, versions_of, nth_changes, AddsChange, StandFor}
use Rattle.ev_store.proofs.Index.{last_state-add}
use Rattle.zx_base.proofs.Booleans.{or-second, or-first}

-- ---- one key more

names-last : (ks : List Bytes) (k : Bytes) → names (ks ++ k ∷ []) k ≡ true
names-last ks k = list_any-append (λ x. same x k) ks (k ∷ []) ∙ or-second (names ks k) _ (or-first (same k k) false (same-refl k))

module _ (old new : BTreeMap ℤ (List Bytes)) (id : ℤ) (w : List Bytes) (writes : (j : ℤ) → get int_cmp new j ≡ cond (is_at (int_cmp id) j) (Some w) (get int_cmp old j)) where
  named-own : named_with new id ≡ w
  named-own = ap (λ o. unwrap_or o []) (writes id ∙ ap (λ b. cond b (Some w) (get int_cmp old id)) ((eq_by_cmp_equiv int_cmp_total).refl id))

  pub named-added : (k : Bytes) → w ≡ named_with old id ++ k ∷ [] → names (named_with new id) k ≡ true
  named-added k is = ap (λ ks. names ks k) (named-own ∙ is) ∙ names-last (named_with old id) k

-- ---- the lease that a change gives

pub names-put : (leased : BTreeMap ℤ (List Bytes)) (k v : Bytes) (lease : ℤ) → names (named_with leased lease) k ≡ true → NamesChange leased (Puts k v lease)
names-put leased k v lease named id gives =
    let eq : id ≡ lease = (Decides-int_eq id lease).0 (and_parts (is_lease id) (int_eq id lease) gives).1 in
    ap (λ i. names (named_with leased i) k) eq ∙ named

-- ---- the index, step by step

pub names_leased-kept : (leased more : BTreeMap ℤ (List Bytes)) (old new : BTreeMap Bytes (List Version)) → KeepsNames leased more → ((q : Bytes) → versions_of new q ≡ versions_of old q) →
    NamesLeased leased old → NamesLeased more new
names_leased-kept leased more old new keeps same_versions h id q has = keeps id q (h id q (ap (λ vs. is_leased id (last_state q vs)) (sym (same_versions q)) ∙ has))

-- the lease that a key has after a change is the one that it had, or the one that the change gives it
gives-own : (n : ℤ) (c : Change) (o : Option Kv) (id : ℤ) → is_leased id (key_after_change n (key_of c) o c) ≡ true → gives_lease id c ≡ true
gives-own n (Puts k v lease) o id h = sym (put-lease o) ∙ ap (λ b. is_leased id (cond b (Some (kv_after_put n k v lease o)) o)) (sym (same-refl k)) ∙ h
  where
    put-lease : (o : Option Kv) → is_leased id (Some (kv_after_put n k v lease o)) ≡ (is_lease id && int_eq id lease)
    put-lease None = refl
    put-lease (Some kv) = refl
gives-own n (Removes k) o id h = absurd (let e = ap (λ b. is_leased id (cond b None o)) (same-refl k) in cc)

pub names_leased-added : (leased more : BTreeMap ℤ (List Bytes)) (old new : BTreeMap Bytes (List Version)) (r : ℕ) (n : ℤ) (c : Change) → KeepsNames leased more → NamesChange more c →
    ((q : Bytes) → AddsChange r n c q (versions_of old q) (versions_of new q)) → NamesLeased leased old → NamesLeased more new
names_leased-added leased more old new r n c keeps named adds h id q has = go (same (key_of c) q) refl
  where
    go : (b : Bool) → same (key_of c) q ≡ b → names (named_with more id) q ≡ true
    go true e =
        let eq : key_of c ≡ q = same-true (key_of c) q e in
        let a = (adds q).own e in
        let state : last_state q (versions_of new q) ≡ key_after_change n q (last_state q (versions_of old q)) c =
        ap (last_state q) a.added ∙ last_state-add q (versions_of old q) a.version ∙ a.state in
        let given : is_leased id (key_after_change n (key_of c) (last_state q (versions_of old q)) c) ≡ true =
        ap (λ (k : Bytes). is_leased id (key_after_change n k (last_state q (versions_of old q)) c)) eq ∙ ap (is_leased id) (sym state) ∙ has in
        ap (names (named_with more id)) (sym eq) ∙ named id (gives-own n c (last_state q (versions_of old q)) id given)
    go false e = keeps id q (h id q (ap (λ vs. is_leased id (last_state q vs)) (sym ((adds q).other e)) ∙ has))

-- ---- what is held

module _ (r : ℕ) (versions : BTreeMap Bytes (List Version)) (q : Bytes) where
  shown : Option Kv
  shown = state_at q r (versions_of versions q)

  taken-shown : (k : Bytes) → taken r k (versions_of versions k) q shown ≡ shown
  unfolding shown
  taken-shown k = go (same k q) refl
    where
      twice : (o : Option Kv) → option_or o o ≡ o
      twice None = refl
      twice (Some x) = refl

      go : (b : Bool) → same k q ≡ b → taken r k (versions_of versions k) q shown ≡ shown
      go true e =
          ap (λ b. cond b (option_or (state_at k r (versions_of versions k)) shown) shown) e
          ∙ ap (λ (x : Bytes). option_or (state_at x r (versions_of versions x)) shown) (same-true k q e) ∙ twice shown
      go false e = ap (λ b. cond b (option_or (state_at k r (versions_of versions k)) shown) shown) e

  all_held-shown : (ks : List Bytes) → all_held r versions q shown ks ≡ shown
  all_held-shown [] = refl
  all_held-shown (k ∷ ks) = ap (λ o. all_held r versions q o ks) (taken-shown k) ∙ all_held-shown ks

  taken-none : (k : Bytes) → taken r k (versions_of versions k) q None ≡ cond (same k q) shown None
  unfolding shown
  taken-none k = go (same k q) refl
    where
      or-none : (o : Option Kv) → option_or o None ≡ o
      or-none None = refl
      or-none (Some x) = refl

      go : (b : Bool) → same k q ≡ b → taken r k (versions_of versions k) q None ≡ cond (same k q) shown None
      go true e =
          ap (λ b. cond b (option_or (state_at k r (versions_of versions k)) None) None) e
          ∙ or-none (state_at k r (versions_of versions k)) ∙ ap (λ (x : Bytes). state_at x r (versions_of versions x)) (same-true k q e) ∙ sym (ap (λ b. cond b shown None) e)
      go false e = ap (λ b. cond b (option_or (state_at k r (versions_of versions k)) None) None) e ∙ sym (ap (λ b. cond b shown None) e)

  -- a key is held where it is one of these and is there
  pub all_held-is : (ks : List Bytes) → all_held r versions q None ks ≡ cond (names ks q) (state_at q r (versions_of versions q)) None
  unfolding shown
  all_held-is [] = refl
  all_held-is (k ∷ ks) = go (all_held-is ks) (same k q) refl
    where
      go : all_held r versions q None ks ≡ cond (names ks q) (state_at q r (versions_of versions q)) None → (b : Bool) → same k q ≡ b → all_held r versions q None (k ∷ ks) ≡ cond (names (k ∷ ks) q) (state_at q r (versions_of versions q)) None
      go rest true e =
          ap (λ o. all_held r versions q o ks) (taken-none k ∙ ap (λ b. cond b shown None) e) ∙ all_held-shown ks
          ∙ sym (ap (λ b. cond (b || names ks q) shown None) e)
      go rest false e =
          ap (λ o. all_held r versions q o ks) (taken-none k ∙ ap (λ b. cond b shown None) e) ∙ rest
          ∙ sym (ap (λ b. cond (b || names ks q) shown None) e)

only-named : (id : ℤ) (b : Bool) (o : Option Kv) → (is_leased id o ≡ true → b ≡ true) → with_lease id (cond b o None) ≡ with_lease id o
only-named id true o h = refl
only-named id false o h = go (is_leased id o) refl
  where
    go : (l : Bool) → is_leased id o ≡ l → with_lease id None ≡ with_lease id o
    go true e = absurd (let f = h e in cc)
    go false e = sym (ap (λ b. cond b o None) e)

nth-past : (css : List (List Change)) → nth_changes (length css) css ≡ []
nth-past [] = refl
nth-past (cs ∷ css) = nth-past css

take-none : (n : ℕ) → take {A = Change} n [] ≡ []
take-none zero = refl
take-none (suc n) = refl

-- where the index is whole, the keys that were put with a lease, as they are now, show all keys that have it
pub held-leased : (css : List (List Change)) (begun : ℕ) (versions : BTreeMap Bytes (List Version)) (leased : BTreeMap ℤ (List Bytes)) (id : ℤ) (q : Bytes) →
    StandFor css (length css) (take begun (nth_changes (length css) css)) q (versions_of versions q) → NamesLeased leased versions →
    with_lease id (all_held (length css) versions q None (named_with leased id)) ≡ with_lease id (key_after_revisions 1 q None css)
held-leased css begun versions leased id q stands named =
    let r = length css in
    let vs = versions_of versions q in
    let all : take r css ≡ css = take_all r css (omega arith) in
    let now : state_at q r vs ≡ key_after_revisions 1 q None css = stands.whole r (omega arith) ∙ ap (key_after_revisions 1 q None) all in
    let none : take begun (nth_changes r css) ≡ [] = ap (take begun) (nth-past css) ∙ take-none begun in
    let last : last_state q vs ≡ key_after_revisions 1 q None css =
    stands.last ∙ ap (key_after_changes (pos (r + 1)) q (key_after_revisions 1 q None (take r css))) none ∙ ap (key_after_revisions 1 q None) all in
    ap (with_lease id) (all_held-is r versions q (named_with leased id))
    ∙ only-named id (names (named_with leased id) q) (state_at q r vs) (λ has. named id q (ap (is_leased id) (last ∙ sym now) ∙ has))
    ∙ ap (with_lease id) now
