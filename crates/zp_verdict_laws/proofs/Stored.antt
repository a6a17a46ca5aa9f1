-- No number that a store answers is below 0.
use Rattle.std.proofs.Common.{◌≡◌, ℕ, ◌+◌, Bool, true, false, cond, ℤ, pos, List, [], ◌∷◌, length, take, Option, Some, None, refl, sym, ap, ◌∙◌, subst, ⊎_elim, arith}
use Rattle.std.proofs.lemmas.Int.{ints}
use Rattle.std.proofs.lemmas.List.Elements.{All-append, All-cons, All-map, All-nil, All-take}
use Rattle.std.specs.Cmp.Lexicographic.{nat_list_cmp_total, slice_cmp}
use Rattle.std.specs.FinMap.{empty, get, get-empty, retain_keys}
use Rattle.std.specs.Ordering.{int_eq, nat_cmp}
use Rattle.std.specs.Prelude.{All, int_lt, nat_abs, ◌+ℤ◌, ◌≤ℤ◌}
use Rattle.ev_types.specs.Denials.{carry, is_denied}
use Rattle.ev_types.specs.Ranges.{Keys, found, in_range, is_within, shown}
use Rattle.ev_types.specs.Store.{Change, Puts, Removes, Store, acts_from, after_changes, carried_out, changed, chosen, keys_from, looked_at, one_act, present, put_over, key_removal, revision, store_at, succeeds, txn_done, worked}
use Rattle.ev_types.specs.declared.answer.ActAns.{ActAns}
use Rattle.ev_types.specs.declared.answer.Answer.TheVariants as answer
use Rattle.ev_types.specs.declared.answer.Answer.{Answer}
use Rattle.ev_types.specs.declared.answer.Kv.{Kv}
use Rattle.ev_types.specs.declared.ask.Act.TheVariants as act
use Rattle.ev_types.specs.declared.ask.Act.{Act}
use Rattle.ev_types.specs.declared.ask.Ask.TheVariants as ask
use Rattle.ev_types.specs.declared.ask.Ask.{Ask}
use Rattle.ev_types.specs.declared.ask.RangeReq.{RangeReq}
use Rattle.ev_store.proofs.Entries.{All-values}
use Rattle.zn_view.specs.Asks.{found_in}
use Rattle.zx_base.proofs.MapLaws.{either, get-insert_other, get-insert_same, get-remove_other, get-remove_same, get-retain}
use Rattle.zx_base.proofs.Options.{none_some, some_is}
use Rattle.zx_base.specs.Maps.{Bytes}
use Rattle.zk_service.specs.declared.cause.Cause.TheVariants as cause
use Rattle.zk_service.specs.declared.cause.Cause.{Cause}

-- not below 0
abbrev pub IsNatural : ℤ → Type 0
IsNatural z = pos 0 ≤ℤ z

-- so is each zxid and revision that the cause names
abbrev pub IsNaturalCause : Cause → Type 0
IsNaturalCause (cause.ZxidAhead client head) = IsNatural client × IsNatural head
IsNaturalCause (cause.Taken z) = IsNatural z
IsNaturalCause (cause.Expired z) = IsNatural z
IsNaturalCause (cause.Moved mine found) = IsNatural mine × IsNatural found
IsNaturalCause (cause.Lagged cursor floor) = IsNatural cursor × IsNatural floor
IsNaturalCause _ = Unit {0}

pub record IsNaturalKv (kv : Kv) : Type 0 where
  pub revision : IsNatural kv.mod_revision
  pub version : IsNatural kv.version

abbrev pub IsNaturalPart : ActAns → Type 0
IsNaturalPart a = All IsNaturalKv (found_in a)

abbrev pub AreNaturalParts : List ActAns → Type 0
AreNaturalParts parts = All IsNaturalPart parts

abbrev pub IsNaturalAnswer : Answer → Type 0
IsNaturalAnswer (answer.Txn z b parts) = IsNatural z × AreNaturalParts parts
IsNaturalAnswer _ = Unit {0}

pub natural : (n : ℕ) → IsNatural (pos n)
natural n = omega (arith, ints)

-- ---- the keys of a store

abbrev pub AreNaturalKeys : Keys → Type 0
AreNaturalKeys m = (k : Bytes) (kv : Kv) → get m k ≡ Some kv → IsNaturalKv kv

put-natural : (r : ℤ) (k v : Bytes) (lease : ℤ) (old : Option Kv) → IsNatural r → ((kv : Kv) → old ≡ Some kv → IsNaturalKv kv) → IsNaturalKv (put_over r k v lease old)
put-natural r k v lease None n was = record { revision = n; version = natural 1 }
put-natural r k v lease (Some kv) n was = record { revision = n; version = (let before = (was kv refl).version in omega (arith, ints, before)) }

change-natural : (r : ℤ) (m : Keys) (c : Change) → IsNatural r → AreNaturalKeys m → AreNaturalKeys (changed r m c)
change-natural r m (Puts k v lease) n was q kv e = ⊎_elim
    (λ same. subst IsNaturalKv (some_is (sym (get-insert_same m k _) ∙ sym (ap (get (changed r m (Puts k v lease))) same) ∙ e)) (put-natural r k v lease (get m k) n (λ x there. was k x there)))
    (λ apart. was q kv (sym (get-insert_other m k q _ apart) ∙ e))
    (either q k)
change-natural r m (Removes k) n was q kv e = ⊎_elim
    (λ same. absurd (none_some (sym (get-remove_same m k) ∙ sym (ap (get (changed r m (Removes k))) same) ∙ e)))
    (λ apart. was q kv (sym (get-remove_other m k q apart) ∙ e))
    (either q k)

changes-natural : (r : ℤ) (m : Keys) (cs : List Change) → IsNatural r → AreNaturalKeys m → AreNaturalKeys (after_changes r m cs)
changes-natural r m [] n was = was
changes-natural r m (c ∷ cs) n was = changes-natural r (changed r m c) cs n (change-natural r m c n was)

keys-natural : (r : ℕ) (m : Keys) (css : List (List Change)) → AreNaturalKeys m → AreNaturalKeys (keys_from r m css)
keys-natural r m [] was = was
keys-natural r m (cs ∷ css) was = keys-natural (r + 1) (after_changes (pos r) m cs) css (changes-natural (pos r) m cs (natural r) was)

empty-natural : AreNaturalKeys empty
empty-natural q kv e = absurd (none_some (sym (get-empty (slice_cmp nat_cmp) q) ∙ e))

pub store-natural : (s : Store) (n : ℕ) → AreNaturalKeys (store_at s n)
unfolding store_at
store-natural s n = keys-natural 1 empty (take n s.revisions) empty-natural

-- ---- what a range shows

shown-natural : (b : Bool) (kv : Kv) → IsNaturalKv kv → IsNaturalKv (shown b kv)
shown-natural true kv h = record { revision = h.revision; version = h.version }
shown-natural false kv h = h

limited-natural : (P : Kv → Type 0) (limit : ℤ) (b : Bool) (kvs : List Kv) → All P kvs → All P (cond b (take (nat_abs limit) kvs) kvs)
limited-natural P limit true kvs h = All-take P (nat_abs limit) kvs h
limited-natural P limit false kvs h = h

if_kept : (b : Bool) (o : Option Kv) (kv : Kv) → cond b o None ≡ Some kv → o ≡ Some kv
if_kept true o kv h = h
if_kept false o kv h = absurd (none_some h)

range-natural : (r : RangeReq) (m : Keys) → AreNaturalKeys m → All IsNaturalKv (found r m).kvs
unfolding in_range
range-natural r m h =
    let P : Kv → Type 0 = λ kv. IsNaturalKv (shown r.keys_only kv) in
    All-map IsNaturalKv (shown r.keys_only) _
    (limited-natural P r.limit (int_lt (pos 0) r.limit) _
    (All-values (slice_cmp nat_cmp) nat_list_cmp_total P (retain_keys m (is_within r.key r.end))
    (λ k kv e. shown-natural r.keys_only kv (h k kv (if_kept (is_within r.key r.end k) (get m k) kv (sym (get-retain m (is_within r.key r.end) k) ∙ e))))))

looked-natural : (s : Store) (m : Keys) (r : ℤ) → AreNaturalKeys m → AreNaturalKeys (looked_at s m r)
looked-natural s m r now = go (int_eq r (pos 0))
  where
    go : (b : Bool) → AreNaturalKeys (cond b m (store_at s (nat_abs r)))
    go true = now
    go false = store-natural s (nat_abs r)

-- ---- what operations show

one-part : (a : ActAns) → IsNaturalPart a → AreNaturalParts (a ∷ [])
one-part a h = All-cons IsNaturalPart a [] h (All-nil IsNaturalPart)

removal-natural : (k : Bytes) (o : Option Kv) → AreNaturalParts (key_removal k o).parts
removal-natural k None = one-part _ (All-nil IsNaturalKv)
removal-natural k (Some kv) = one-part _ (All-nil IsNaturalKv)

act-natural : (s : Store) (m : Keys) (a : Act) → AreNaturalKeys m → AreNaturalParts (one_act s m a).parts
act-natural s m (act.Put k v lease) now = one-part _ (All-nil IsNaturalKv)
act-natural s m (act.Delete k) now = removal-natural k (get m k)
act-natural s m (act.Range q) now = one-part _ (range-natural q _ (looked-natural s m q.revision now))

acts-natural : (s : Store) (r : ℤ) (m : Keys) (acts : List Act) → IsNatural r → AreNaturalKeys m → AreNaturalParts (acts_from s r m acts).parts
acts-natural s r m [] n now = All-nil IsNaturalPart
acts-natural s r m (a ∷ acts) n now =
    let first = one_act s m a in
    let left = after_changes r m first.changes in
    All-append IsNaturalPart first.parts (acts_from s r left acts).parts (act-natural s m a now) (acts-natural s r left acts n (changes-natural r m first.changes n now))

worked-natural : (s : Store) (acts : List Act) → AreNaturalParts (worked s acts).parts
unfolding worked
worked-natural s acts = acts-natural s (revision s +ℤ pos 1) (present s) acts (omega (arith, ints)) (store-natural s (length s.revisions))

-- ---- an answer

carried-natural : (s : Store) (q : Ask) → IsNaturalAnswer (carried_out s q).1
unfolding carried_out txn_done
carried-natural s (ask.Txn t) = (omega (arith, ints), worked-natural s (chosen (succeeds s t) t))
carried-natural s (ask.Range q) = tt
carried-natural s (ask.Grant id ttl) = tt
carried-natural s (ask.Alive id) = tt

allowed : (d : Bool) (x y : Store × Answer) → cond d None (Some x) ≡ Some y → x ≡ y
allowed true x y h = absurd (none_some h)
allowed false x y h = some_is h

pub answer-natural : (s u : Store) (q : Ask) (a : Answer) → carry s q ≡ Some (u, a) → IsNaturalAnswer a
unfolding carry
answer-natural s u q a h = subst (λ (x : Store × Answer). IsNaturalAnswer x.1) (allowed (is_denied s q) (carried_out s q) (u, a) h) (carried-natural s q)
