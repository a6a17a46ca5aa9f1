-- What an update leaves of a view agrees with the keys that it leaves.
use Rattle.std.proofs.Common.{◌≡◌, ℤ, true, false, List, [], ◌∷◌, Option, Some, None, refl, sym, ap, ◌∙◌, inl, inr}
use Rattle.std.specs.Prelude.{All, fold}
use Rattle.std.specs.FinMap.{get}
use Rattle.std.proofs.lemmas.List.Elements.{All-nil, All-head, All-tail, All-weaker}
use Rattle.ev_types.specs.declared.answer.Kv.{Kv}
use Rattle.ev_types.specs.declared.ask.Act.{Act}
use Rattle.ev_types.specs.declared.ask.Act.TheVariants as act
use Rattle.ev_types.specs.declared.ask.Guard.{Guard}
use Rattle.ev_types.specs.Ranges.{Keys}
use Rattle.ev_types.specs.Store.{act_changes, acts_applied, after_changes, put_over}
use Rattle.zx_base.specs.Maps.{Bytes, same}
use Rattle.zx_base.proofs.MapLaws.{same-true, apart-from_same, get-insert_same, get-insert_other, get-remove_same, get-remove_other}
use Rattle.zx_base.proofs.Options.{none_some, some_is}
use Rattle.zn_layout.specs.Keys.{HeadKey, key_bytes}
use Rattle.zn_view.specs.declared.snapshot.SeenKey.{SeenKey}
use Rattle.zn_view.specs.declared.snapshot.SeenChildren.{SeenChildren}
use Rattle.zn_view.specs.Laying.{placed}
use Rattle.zn_view.specs.Seen.{View, found_of, seen, seen_in}
use Rattle.zn_view.specs.Views.{Agrees, children_kept}
use Rattle.zn_view.specs.Keeping.{AreGuardedAsSeen, AreLeft, IsAfter, IsNew, act_seen, acts_seen, after_view, guard_seen, guarded_seen, seen_as, with_guarded}
use Rattle.zn_view.proofs.Placed.{Once, once-all, placed-once, seen_in-placed_same, seen_in-placed_other}

-- each key but the head has what is known of it, and is known once
pub record Tracks (xs : List SeenKey) (m : Keys) : Type 0 where
  pub once : Once xs
  pub as_known : (k : Bytes) (o : Option Kv) → (k ≡ key_bytes HeadKey → ⊥) → seen_in k xs ≡ Some o → get m k ≡ o

-- a key is put in its place, and the keys have that now, and are else as before
placed-tracks : (xs : List SeenKey) (m new : Keys) (k : Bytes) (o : Option Kv) → Tracks xs m → ((k ≡ key_bytes HeadKey → ⊥) → get new k ≡ o) → ((q : Bytes) → (q ≡ k → ⊥) → get new q ≡ get m q) → Tracks (placed (seen_as k o) xs) new
placed-tracks xs m new k o t here other = record {
  once = placed-once (seen_as k o) xs t.once;
  as_known = λ q p apart e. elim (same k q) as (λ b. same k q ≡ b → get new q ≡ p) [
    | true ↦ λ is.
        let at : k ≡ q = same-true k q is in
        ap (get new) (sym at) ∙ here (λ h. apart (sym at ∙ h)) ∙ some_is (sym (seen_in-placed_same (seen_as k o) xs) ∙ ap (λ (j : Bytes). seen_in j (placed (seen_as k o) xs)) at ∙ e)
    | false ↦ λ is. other q (λ h. apart-from_same k q is (sym h)) ∙ t.as_known q p apart (sym (seen_in-placed_other (seen_as k o) xs q is) ∙ e)
  ] refl;
}

-- ---- the guarded keys

abbrev IsGuarded : View → Keys → Guard → Type 0
IsGuarded v m g = (o : Option Kv) → seen v g.key ≡ Some o → get m g.key ≡ o

guarded-tracks : (v : View) (m : Keys) (gs : List Guard) (xs : List SeenKey) → Tracks xs m → AreGuardedAsSeen v gs m → Tracks (fold (guard_seen v) xs gs) m
guarded-tracks v m [] xs t h = t
guarded-tracks v m (g ∷ gs) xs t h =
    guarded-tracks v m gs (guard_seen v xs g) (one (seen v g.key) refl) (All-tail (IsGuarded v m) g gs h)
  where
    one : (o : Option (Option Kv)) → seen v g.key ≡ o → Tracks (with_guarded g.key o xs) m
    one None e = t
    one (Some p) e = placed-tracks xs m m g.key p t (λ apart. All-head (IsGuarded v m) g gs h p e) (λ q apart. refl)

-- ---- one operation

known-found : (xs : List SeenKey) (m : Keys) (k : Bytes) → Tracks xs m → (k ≡ key_bytes HeadKey → ⊥) → (seen_in k xs ≡ None → get m k ≡ None) → found_of (seen_in k xs) ≡ get m k
known-found xs m k t apart new = go (seen_in k xs) refl
  where
    go : (o : Option (Option Kv)) → seen_in k xs ≡ o → found_of o ≡ get m k
    go None e = sym (new e)
    go (Some p) e = sym (t.as_known k p apart e)

act-tracks : (z : ℤ) (m : Keys) (xs : List SeenKey) (a : Act) → Tracks xs m → IsNew xs m a → Tracks (act_seen z xs a) (after_changes z m (act_changes a))
act-tracks z m xs (act.Put k value lease) t new =
    placed-tracks xs m (after_changes z m (act_changes (act.Put k value lease))) k (Some (put_over z k value lease (found_of (seen_in k xs)))) t
    (λ apart. get-insert_same m k _ ∙ ap (λ (o : Option Kv). Some (put_over z k value lease o)) (sym (known-found xs m k t apart (new apart))))
    (λ q apart. get-insert_other m k q _ apart)
act-tracks z m xs (act.Delete k) t new =
    placed-tracks xs m (after_changes z m (act_changes (act.Delete k))) k None t (λ apart. get-remove_same m k) (λ q apart. get-remove_other m k q apart)
act-tracks z m xs (act.Range q) t new = t

-- a key that is unknown after a change was unknown before, and has what it had
unknown-placed : (x : SeenKey) (xs : List SeenKey) (k : Bytes) → seen_in k (placed x xs) ≡ None → (same x.key k ≡ false) × (seen_in k xs ≡ None)
unknown-placed x xs k e = elim (same x.key k) as (λ b. same x.key k ≡ b → (same x.key k ≡ false) × (seen_in k xs ≡ None)) [
  | true ↦ λ is. absurd (none_some (sym e ∙ ap (λ (j : Bytes). seen_in j (placed x xs)) (sym (same-true x.key k is)) ∙ seen_in-placed_same x xs))
  | false ↦ λ is. (is, sym (seen_in-placed_other x xs k is) ∙ e)
] refl

still-new : (z : ℤ) (m : Keys) (xs : List SeenKey) (a b : Act) → IsNew xs m b → IsNew (act_seen z xs a) (after_changes z m (act_changes a)) b
still-new z m xs (act.Put j value lease) (act.Put k w l) new = λ apart e.
    let u = unknown-placed (seen_as j (Some (put_over z j value lease (found_of (seen_in j xs))))) xs k e in
    get-insert_other m j k _ (λ h. apart-from_same j k u.0 (sym h)) ∙ new apart u.1
still-new z m xs (act.Delete j) (act.Put k w l) new = λ apart e.
    let u = unknown-placed (seen_as j None) xs k e in
    get-remove_other m j k (λ h. apart-from_same j k u.0 (sym h)) ∙ new apart u.1
still-new z m xs (act.Range q) (act.Put k w l) new = new
still-new z m xs a (act.Delete k) new = tt
still-new z m xs a (act.Range q) new = tt

acts-tracks : (z : ℤ) (m : Keys) (xs : List SeenKey) (acts : List Act) → Tracks xs m → All (IsNew xs m) acts → Tracks (acts_seen z xs acts) (acts_applied z m acts)
acts-tracks z m xs [] t new = t
acts-tracks z m xs (a ∷ acts) t new =
    acts-tracks z (after_changes z m (act_changes a)) (act_seen z xs a) acts (act-tracks z m xs a t (All-head (IsNew xs m) a acts new))
    (All-weaker (IsNew xs m) (IsNew (act_seen z xs a) (after_changes z m (act_changes a))) (still-new z m xs a) acts (All-tail (IsNew xs m) a acts new))

-- ---- the law

head-known : (xs : List SeenKey) (m : Keys) (head : Kv) → Tracks xs m → get m (key_bytes HeadKey) ≡ Some head → All (λ (x : SeenKey). get m x.key ≡ x.found) (placed (seen_as (key_bytes HeadKey) (Some head)) xs)
head-known xs m head t is =
    let x = seen_as (key_bytes HeadKey) (Some head) in
    once-all m (placed x xs) (placed-once x xs t.once) (λ k o e. elim (same x.key k) as (λ b. same x.key k ≡ b → get m k ≡ o) [
      | true ↦ λ h.
          let at : x.key ≡ k = same-true x.key k h in
          ap (get m) (sym at) ∙ is ∙ some_is (sym (seen_in-placed_same x xs) ∙ ap (λ (j : Bytes). seen_in j (placed x xs)) at ∙ e)
      | false ↦ λ h. t.as_known k o (λ is_head. apart-from_same x.key k h (sym is_head)) (sym (seen_in-placed_other x xs k h) ∙ e)
    ] refl)

-- Where the guarded keys have what the view saw, and each key that is put and not guarded is absent, what the operations leave of
-- the view agrees with the keys that they leave.
pub after-agrees : (v : View) (guards : List Guard) (acts : List Act) (z : ℤ) (head : Kv) (m : Keys) → AreGuardedAsSeen v guards m → All (IsNew (guarded_seen v guards) m) acts
    → get (acts_applied z m acts) (key_bytes HeadKey) ≡ Some head → Agrees (after_view v guards acts z head) (acts_applied z m acts)
after-agrees v guards acts z head m held new is =
    let t = guarded-tracks v m guards [] (record { once = tt; as_known = λ k o apart e. absurd (none_some e) }) held in
    record {
      keys = head-known (acts_seen z (guarded_seen v guards) acts) (acts_applied z m acts) head (acts-tracks z m (guarded_seen v guards) acts t new) is;
      lists = All-nil (λ (x : SeenChildren). x.paths ≡ children_kept (acts_applied z m acts) x.path);
    }

-- ---- the view that is kept

left-is : (z : ℤ) (xs ys : List SeenKey) (acts : List Act) (o : Option (List SeenKey)) → o ≡ Some ys → AreLeft z xs acts o → ys ≡ acts_seen z xs acts
left-is z xs ys [] o e h = some_is (sym e ∙ h)
left-is z xs ys (a ∷ acts) o e (inl h) = left-is z (act_seen z xs a) ys acts o e h.1
left-is z xs ys (a ∷ acts) o e (inr h) = absurd (none_some (sym h.1 ∙ e))

pub after-is : (v x : View) (guards : List Guard) (acts : List Act) (z : ℤ) (head : Kv) (r : Option View) → r ≡ Some x → IsAfter v guards acts z head r → x ≡ after_view v guards acts z head
after-is v x guards acts z head r e (None, left, beside) = absurd (none_some (sym beside ∙ e))
after-is v x guards acts z head r e (Some xs, left, inr not_so) = absurd (none_some (sym not_so.1 ∙ e))
after-is v x guards acts z head r e (Some xs, left, inl so) =
    some_is (sym e ∙ so.1)
    ∙ ap (λ (ys : List SeenKey). record { revision = z; keys = placed (seen_as (key_bytes HeadKey) (Some head)) ys; lists = [] }) (left-is z (guarded_seen v guards) xs acts (Some xs) refl left)
