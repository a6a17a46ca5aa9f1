-- Where keys stand for a state, what is found under each key is a record of the key's kind.
use Rattle.std.proofs.Common.{◌≡◌, ℕ, ◌≤◌, length, List, [], ◌∷◌, ◌++◌, take, drop, take-append-drop, refl, sym, ap, ◌∙◌, subst, arith, Bool, true, false, ℤ, pos, inl, inr}
use Rattle.std.specs.Prelude.{Option, Some, None, IfSome, ◌⊎◌, codes, if◌then◌else◌, ◌+ℤ◌}
use Rattle.std.specs.FinMap.{get}
use Rattle.std.specs.Ordering.{int_eq}
use Rattle.std.proofs.lemmas.Bool.Decides.{nat_tests}
use Rattle.std.proofs.lemmas.Int.{ints}
use Rattle.ev_types.specs.Denials.{carry}
use Rattle.ev_types.specs.Ranges.{Keys, found}
use Rattle.ev_types.specs.Store.{Store, acts_from, chosen, looked_at, present, revision, store_at, worked}
use Rattle.ev_types.specs.declared.answer.ActAns.{ActAns}
use Rattle.ev_types.specs.declared.answer.Answer.TheVariants as answer
use Rattle.ev_types.specs.declared.answer.Kv.{Kv}
use Rattle.ev_types.specs.declared.ask.Ask.TheVariants as ask
use Rattle.ev_types.specs.declared.ask.TxnReq.{TxnReq}
use Rattle.zk_model.specs.declared.node.Node.{Node}
use Rattle.zk_service.specs.States.{Session, State}
use Rattle.zx_base.specs.Maps.{Bytes, same}
use Rattle.zx_base.proofs.MapLaws.{same-true}
use Rattle.zn_layout.specs.Keys.{CountsKey, DataKey, HeadKey, Key, LeaseKey, SessionKey, counts_front, data_front, front, head_name, key_bytes, lease_front, session_front}
use Rattle.zn_layout.specs.StandsFor.{CountsMean, DataMeans, HeadMeans, LifeMeans, Means, NodesMean, StandsFor, Stored, at, counts_record, data_record, life_record, nodes_record, stored_of}
use Rattle.zn_layout.proofs.Commits.{answer-is}
use Rattle.zn_view.specs.Adding.{AreRecords, IsFirstDamaged}
use Rattle.zn_view.specs.Asks.{kept_under, range_of, ranges_of}
use Rattle.zn_view.specs.Seen.{IsOfKind, IsRecord, kind_in, kind_of_bytes}
use Rattle.zn_view.specs.declared.kind.Kind.{Kind}
use Rattle.zn_view.specs.declared.kind.Kind.TheVariants.{Counts, Data, Head, Life, Nodes}
use Rattle.zn_view.specs.declared.want.Want.{Want}
use Rattle.zn_view.specs.declared.want.Want.TheVariants as want
use Rattle.ev_types.proofs.Keyed.{AreKeyed, store-keyed}
use Rattle.zn_view.proofs.Keyed.{key-shown}
use Rattle.zn_view.proofs.KeyKinds.{kind_of-key, kind_of_key}

-- ---- each kind of key

data-kept : (o : Option Node) (s : Stored) → DataMeans o (Some s) → IsOfKind (Some (kind_of_key (DataKey []))) s.value
data-kept None s m = absurd m
data-kept (Some n) s m = (data_record n m.stored, (m.fits, m.value))

counts-kept : (o : Option Node) (children : ℕ) (counted : Bool) (s : Stored) → CountsMean o children counted (Some s) → IsOfKind (Some (kind_of_key (CountsKey []))) s.value
counts-kept None children counted s m = absurd m
counts-kept (Some n) children true s m = (counts_record n children, (m.fits, m.value))
counts-kept (Some n) children false s m = absurd m

nodes-kept : (o : Option Session) (paths : List Bytes) (s : Stored) → NodesMean o paths (Some s) → IsOfKind (Some (kind_of_key (SessionKey 0))) s.value
nodes-kept None paths s m = absurd m
nodes-kept (Some x) paths s m = (nodes_record x paths, (m.fits, m.value))

life-kept : (id : ℕ) (o : Option Session) (s : Stored) → LifeMeans id o (Some s) → IsOfKind (Some (kind_of_key (LeaseKey 0))) s.value
life-kept id None s m = absurd m
life-kept id (Some x) s m = (life_record x m.attaches, (m.fits, m.value))

-- a key has a kind only where it is below `zk/`
front-or-none : (first : Bytes) → (kind_in first ≡ None) ⊎ ((tail : Bytes) × (first ≡ front ++ tail))
front-or-none first = go (same first data_front) (same first counts_front) (same first session_front) (same first lease_front) refl refl refl refl
  where
    go : (a b c d : Bool) → same first data_front ≡ a → same first counts_front ≡ b → same first session_front ≡ c → same first lease_front ≡ d
        → (◌≡◌ {A = Option Kind} (if a then Some Data else if b then Some Counts else if c then Some Nodes else if d then Some Life else None) None) ⊎ ((tail : Bytes) × (first ≡ front ++ tail))
    go true b c d e f g h = inr (codes "d/", same-true first data_front e)
    go false true c d e f g h = inr (codes "c/", same-true first counts_front f)
    go false false true d e f g h = inr (codes "s/", same-true first session_front g)
    go false false false true e f g h = inr (codes "l/", same-true first lease_front h)
    go false false false false e f g h = inl refl

kind-or-below : (k : Bytes) → (kind_of_bytes k ≡ None) ⊎ ((rest : Bytes) × (k ≡ front ++ rest))
kind-or-below k = go (same k head_name) refl (front-or-none (take 5 k))
  where
    go : (b : Bool) → same k head_name ≡ b → (kind_in (take 5 k) ≡ None) ⊎ ((tail : Bytes) × (take 5 k ≡ front ++ tail)) → (◌≡◌ {A = Option Kind} (if b then Some Head else kind_in (take 5 k)) None) ⊎ ((rest : Bytes) × (k ≡ front ++ rest))
    go true e first = inr (codes "head", same-true k head_name e)
    go false e (inl none) = inl none
    go false e (inr t) = inr (t.0 ++ drop 5 k, sym (take-append-drop 5 k) ∙ ap (λ l. l ++ drop 5 k) t.1)

module _ (m : Keys) (x : State) (stands : StandsFor m x) where
  stored-kept : (k : Key) (kv : Kv) → at m k ≡ Some kv → Means x k (Some (record { value = kv.value; revision = kv.mod_revision; lease = kv.lease }))
  stored-kept k kv e = subst (λ (o : Option Kv). Means x k (stored_of o)) e (stands.each k)

  layout-kept : (k : Key) (kv : Kv) → at m k ≡ Some kv → IsOfKind (Some (kind_of_key k)) kv.value
  layout-kept HeadKey kv e = let h : HeadMeans (Some kv) x = subst (λ o. HeadMeans o x) e stands.head in (x.triggers, (h.fits, h.value))
  layout-kept (DataKey p) kv e = data-kept _ _ (stored-kept (DataKey p) kv e)
  layout-kept (CountsKey p) kv e = counts-kept _ _ _ _ (stored-kept (CountsKey p) kv e)
  layout-kept (SessionKey id) kv e = nodes-kept _ _ _ (stored-kept (SessionKey id) kv e)
  layout-kept (LeaseKey id) kv e = life-kept id _ _ (stored-kept (LeaseKey id) kv e)

  -- a key below `zk/` is one of the layout
  below-kept : (k rest : Bytes) (kv : Kv) → k ≡ front ++ rest → get m k ≡ Some kv → IsOfKind (kind_of_bytes k) kv.value
  below-kept k rest kv is e =
      let key = (stands.layout).no_other rest kv (ap (get m) (sym is) ∙ e) in
      let same_key : k ≡ key_bytes key.0 = is ∙ key.1 in
      subst (λ (o : Option Kind). IsOfKind o kv.value) (sym (ap kind_of_bytes same_key ∙ kind_of-key key.0)) (layout-kept key.0 kv (ap (get m) (sym same_key) ∙ e))

  pub key-kept : (k : Bytes) (kv : Kv) → get m k ≡ Some kv → IsOfKind (kind_of_bytes k) kv.value
  key-kept k kv e = elim (kind-or-below k) [
    | inl none ↦ subst (λ (o : Option Kind). IsOfKind o kv.value) (sym none) tt
    | inr below ↦ below-kept k below.0 kv below.1 e
  ]

  -- what a range of one key finds
  pub found-kept : (k : Bytes) (o : Option Kv) → AreKeyed m → get m k ≡ o → IfSome o IsRecord
  found-kept k None keyed e = tt
  found-kept k (Some kv) keyed e = subst (λ (q : Bytes). IsOfKind (kind_of_bytes q) kv.value) (sym (keyed k kv e)) (key-kept k kv e)

-- ---- a look

module _ (s : Store) (m : Keys) (x : State) (r : ℤ) (keyed : AreKeyed m) (stands : StandsFor m x) where
  parts-kept : (z : ℤ) (now : Keys) (ws : List Want) → looked_at s now r ≡ m → AreRecords ws (acts_from s z now (ranges_of r ws)).parts
  parts-kept z now [] e = tt
  parts-kept z now (want.Key k ∷ ws) e =
      (found-kept m x stands k (kept_under k (found (range_of r (want.Key k)) (looked_at s now r)).kvs) keyed (sym (key-shown k r m keyed) ∙ ap (λ (n : Keys). kept_under k (found (range_of r (want.Key k)) n).kvs) (sym e)), parts-kept z now ws e)
  parts-kept z now (want.Children p ∷ ws) e = (tt, parts-kept z now ws e)

  look-kept : (ws : List Want) → looked_at s (present s) r ≡ m → AreRecords ws (worked s (ranges_of r ws)).parts
  unfolding worked
  look-kept ws e = parts-kept (revision s +ℤ pos 1) (present s) ws e

  look-answered : (new : Store) (t : TxnReq) (ws : List Want) (z : ℤ) (b : Bool) (parts : List ActAns) → carry s (ask.Txn t) ≡ Some (new, answer.Txn z b parts) → chosen b t ≡ ranges_of r ws → looked_at s (present s) r ≡ m → AreRecords ws parts
  look-answered new t ws z b parts h acts e =
      subst (λ (ps : List ActAns). AreRecords ws ps) (sym ((answer-is s new t z b parts h).parts_are ∙ ap (λ as'. (worked s as').parts) acts)) (look-kept ws e)

pub present-records : (s new : Store) (t : TxnReq) (x : State) (ws : List Want) (r : ℤ) (b : Bool) (parts : List ActAns) → carry s (ask.Txn t) ≡ Some (new, answer.Txn r b parts) → chosen b t ≡ ranges_of (pos 0) ws → StandsFor (present s) x → AreRecords ws parts
present-records s new t x ws r b parts h acts stands = look-answered s (present s) x (pos 0) (store-keyed s (length s.revisions)) stands new t ws r b parts h acts refl

pub past-records : (s new : Store) (t : TxnReq) (x : State) (n : ℕ) (ws : List Want) (r : ℤ) (b : Bool) (parts : List ActAns) → carry s (ask.Txn t) ≡ Some (new, answer.Txn r b parts) → chosen b t ≡ ranges_of (pos n) ws → 1 ≤ n → StandsFor (store_at s n) x → AreRecords ws parts
past-records s new t x n ws r b parts h acts begun stands = look-answered s (store_at s n) x (pos n) (store-keyed s n) stands new t ws r b parts h acts at_n
  where
    not0 : int_eq (pos n) (pos 0) ≡ false
    not0 = grind (arith, nat_tests, ints)

    at_n : looked_at s (present s) (pos n) ≡ store_at s n
    at_n = ap (λ (b : Bool). if b then present s else store_at s n) not0

-- ---- among records none is damaged

pub records-sound : (ws : List Want) (parts : List ActAns) (key value : Bytes) → AreRecords ws parts → IsFirstDamaged ws parts key value → ⊥
records-sound [] parts key value all d = d
records-sound (w ∷ ws) [] key value all d = d
records-sound (w ∷ ws) (a ∷ more) key value all (inl d) = d.broken (subst (λ (o : Option Kv). IfSome o IsRecord) d.shown all.0)
records-sound (w ∷ ws) (a ∷ more) key value all (inr d) = records-sound ws more key value all.1 d.1
