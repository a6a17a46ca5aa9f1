-- The numbers that a store answers: those of a store whose revisions put no key twice.
use Rattle.std.proofs.Common.{◌≡◌, ℕ, ◌+◌, ◌≤◌, ◌^◌, Bool, true, false, cond, ℤ, pos, ◌+ℤ◌, List, [], ◌∷◌, ◌++◌, length, take, not, Option, Some, None, refl, sym, ap, ◌∙◌, subst, inl, inr, append_assoc, arith}
use Rattle.std.specs.Prelude.{◌≤ℤ◌, int_lt, nat_abs, All}
use Rattle.std.specs.List.{list_all, list_any}
use Rattle.std.specs.FinMap.{get, empty, get-empty, retain_keys}
use Rattle.std.specs.Ordering.{nat_cmp, int_eq}
use Rattle.std.specs.Cmp.Lexicographic.{slice_cmp, nat_list_cmp_total}
use Rattle.std.proofs.lemmas.Bool.{or_parts}
use Rattle.std.proofs.lemmas.Int.{ints}
use Rattle.std.proofs.lemmas.List.{length-append, length-take}
use Rattle.std.proofs.lemmas.List.Elements.{All-nil, All-cons, All-append, All-take, All-map}
use Rattle.zx_base.specs.Maps.{Bytes}
use Rattle.zx_base.proofs.MapLaws.{get-retain}
use Rattle.zx_base.proofs.Options.{none_some, some_is}
use Rattle.ev_types.specs.declared.answer.Answer.{Answer}
use Rattle.ev_types.specs.declared.answer.Kv.{Kv}
use Rattle.ev_types.specs.declared.ask.Act.{Act}
use Rattle.ev_types.specs.declared.ask.Act.TheVariants as act
use Rattle.ev_types.specs.declared.ask.Ask.{Ask}
use Rattle.ev_types.specs.declared.ask.Ask.TheVariants as ask
use Rattle.ev_types.specs.declared.ask.RangeReq.{RangeReq}
use Rattle.ev_types.specs.declared.ask.TxnReq.{TxnReq}
use Rattle.ev_types.specs.Denials.{carry, chosen_acts, has_long_list, is_denied, is_full_store, names_missing, writes_twice}
use Rattle.ev_types.specs.Ranges.{Keys, found, in_range, is_within, shown}
use Rattle.ev_types.specs.Store.{Store, Change, acts_from, after_changes, carried_out, chosen, grown, last_revision, looked_at, max_revisions, one_act, present, key_removal, revision, store_at, succeeds, txn_done, worked}
use Rattle.ev_store.specs.Changes.{are_distinct, put_keys, puts_once}
use Rattle.ev_store.specs.Numbers.{HasNumbers, IsPutBy, ShowsPuts}
use Rattle.ev_store.proofs.Entries.{All-values}
use Rattle.ev_store.proofs.Folding.{IsBounded, bounded-more, follows_changes, follows_revisions, puts_count-once}
use Rattle.ev_types.proofs.Revisions.{after_changes-from, put_by}
use Rattle.ev_store.proofs.Working.{act_keys, after_changes-append, distinct-acts, distinct-front, keys_step}
use Rattle.zx_base.proofs.Lists.{all-take}

-- ---- the keys of a store

-- each key of these maps is one that a store at revision n can have
abbrev ArePutBy : ℕ → Keys → Type 0
ArePutBy n m = (k : Bytes) (kv : Kv) → get m k ≡ Some kv → IsPutBy (pos n) kv

record IsKept (s : Store) : Type 0 where
  pub short : length s.revisions ≤ max_revisions
  pub once : list_all puts_once s.revisions ≡ true

pub put_more : (m n : ℕ) (kv : Kv) → m ≤ n → IsPutBy (pos m) kv → IsPutBy (pos n) kv
put_more m n kv le h = record { first = h.first; last = (let last = h.last in omega (arith, ints)); least = h.least; most = (let most = h.most in omega (arith, ints)) }

bounded-put : (n : ℕ) (kv : Kv) → pos 1 ≤ℤ kv.mod_revision → kv.mod_revision ≤ℤ pos n → IsBounded n (Some kv) → IsPutBy (pos n) kv
bounded-put n kv first last b =
    record { first = first; last = last; least = subst (λ (v : ℤ). pos 0 ≤ℤ v) (sym b.1) (omega (arith, ints)); most = subst (λ (v : ℤ). v ≤ℤ pos n) (sym b.1) (omega (arith, ints, b.2)) }

short-room : (s : Store) → IsKept s → length s.revisions + 1 ≤ 2 ^ 62
short-room s kept = let short = kept.short in omega arith

few_taken : (s : Store) (a : ℕ) → length (take a s.revisions) ≤ length s.revisions
few_taken s a = omega (arith, length-take a s.revisions)

none-bounded : (q : Bytes) → IsBounded 0 (get (empty {X = Kv} {R = slice_cmp nat_cmp}) q)
none-bounded q = subst (IsBounded 0) (sym (get-empty {X = Kv} (slice_cmp nat_cmp) q)) tt

store-bounded : (s : Store) (a : ℕ) (q : Bytes) → IsKept s → IsBounded (length s.revisions) (get (store_at s a) q)
unfolding store_at
store-bounded s a q kept =
    let few = few_taken s a in
    let room = short-room s kept in
    bounded-more _ _ _ (omega arith) (follows_revisions 1 empty (take a s.revisions) q 0 (none-bounded q) (all-take puts_once a s.revisions kept.once) (omega arith)).1

store-put : (s : Store) (a : ℕ) → IsKept s → ArePutBy (length s.revisions) (store_at s a)
store-put s a kept q kv e =
    let p = put_by s a q kv e in
    let few = few_taken s a in
    let least = p.least in
    let most = p.most in
    bounded-put (length s.revisions) kv (subst (λ (r : ℤ). pos 1 ≤ℤ r) (sym p.put) (omega (arith, ints))) (subst (λ (r : ℤ). r ≤ℤ pos (length s.revisions)) (sym p.put) (omega (arith, ints)))
    (subst (IsBounded (length s.revisions)) e (store-bounded s a q kept))

-- ---- the keys while a transaction changes them

abbrev so_far : Store → List Change → Keys
so_far s cs = after_changes (revision s +ℤ pos 1) (present s) cs

put-last : (n : ℕ) (kv : Kv) (r : ℤ) → r ≡ pos (n + 1) → kv.mod_revision ≡ r → (pos 1 ≤ℤ kv.mod_revision) × (kv.mod_revision ≤ℤ pos (n + 1))
put-last n kv r is put = (subst (λ (x : ℤ). pos 1 ≤ℤ x) (sym (put ∙ is)) (omega (arith, ints)), subst (λ (x : ℤ). x ≤ℤ pos (n + 1)) (sym (put ∙ is)) (omega (arith, ints)))

changed-put : (s : Store) (cs : List Change) → IsKept s → puts_once cs ≡ true → ArePutBy (length s.revisions + 1) (so_far s cs)
changed-put s cs kept once q kv e =
    let n = length s.revisions in
    let few = puts_count-once q cs once in
    let room = short-room s kept in
    let bounded : IsBounded (n + 1) (Some kv) = subst (IsBounded (n + 1)) e (bounded-more _ _ _ (omega arith) (follows_changes (revision s +ℤ pos 1) (present s) cs q n (store-bounded s n q kept) (omega arith)).1) in
    elim (after_changes-from (revision s +ℤ pos 1) (present s) cs q kv e) [
      | inl put ↦ let p = put-last n kv (revision s +ℤ pos 1) refl put in bounded-put (n + 1) kv p.0 p.1 bounded
      | inr there ↦ put_more n (n + 1) kv (omega arith) (store-put s n kept q kv there)
    ]

grown-length : (s : Store) (cs : List Change) → length s.revisions ≤ length (grown s cs).revisions
grown-length s [] = omega arith
grown-length s (c ∷ cs) = omega (arith, length-append s.revisions ((c ∷ cs) ∷ []))

grown-one : (s : Store) (total cs : List Change) (c : Change) → total ≡ c ∷ cs → length (grown s total).revisions ≡ length s.revisions + 1
grown-one s total cs c is = ap (λ (t : List Change). length (grown s t).revisions) is ∙ length-append s.revisions ((c ∷ cs) ∷ [])

-- after the first of a transaction's changes, each key is one that the store after it can have
so_far-put : (s : Store) (cs total rest : List Change) → IsKept s → total ≡ cs ++ rest → puts_once cs ≡ true → ArePutBy (length (grown s total).revisions) (so_far s cs)
so_far-put s [] total rest kept is once q kv e = put_more (length s.revisions) _ kv (grown-length s total) (store-put s (length s.revisions) kept q kv e)
so_far-put s (c ∷ cs) total rest kept is once q kv e =
    subst (λ (n : ℕ). IsPutBy (pos n) kv) (sym (grown-one s total (cs ++ rest) c is)) (changed-put s (c ∷ cs) kept once q kv e)

-- ---- what a range shows

shown-put : (n : ℕ) (b : Bool) (kv : Kv) → IsPutBy (pos n) kv → IsPutBy (pos n) (shown b kv)
shown-put n true kv h = record { first = h.first; last = h.last; least = h.least; most = h.most }
shown-put n false kv h = h

limited-all : (P : Kv → Type 0) (limit : ℤ) (b : Bool) (kvs : List Kv) → All P kvs → All P (cond b (take (nat_abs limit) kvs) kvs)
limited-all P limit true kvs h = All-take P (nat_abs limit) kvs h
limited-all P limit false kvs h = h

if_kept : (b : Bool) (o : Option Kv) (kv : Kv) → cond b o None ≡ Some kv → o ≡ Some kv
if_kept true o kv h = h
if_kept false o kv h = absurd (none_some h)

range-put : (n : ℕ) (r : RangeReq) (m : Keys) → ArePutBy n m → All (IsPutBy (pos n)) (found r m).kvs
unfolding in_range
range-put n r m h =
    let P : Kv → Type 0 = λ kv. IsPutBy (pos n) (shown r.keys_only kv) in
    All-map (IsPutBy (pos n)) (shown r.keys_only) _
    (limited-all P r.limit (int_lt (pos 0) r.limit) _
    (All-values (slice_cmp nat_cmp) nat_list_cmp_total P (retain_keys m (is_within r.key r.end))
    (λ k kv e. shown-put n r.keys_only kv (h k kv (if_kept (is_within r.key r.end k) (get m k) kv (sym (get-retain m (is_within r.key r.end) k) ∙ e))))))

looked-put : (n : ℕ) (s : Store) (m : Keys) (r : ℤ) → ArePutBy n m → ((a : ℕ) → ArePutBy n (store_at s a)) → ArePutBy n (looked_at s m r)
looked-put n s m r now named = go (int_eq r (pos 0))
  where
    go : (b : Bool) → ArePutBy n (cond b m (store_at s (nat_abs r)))
    go true = now
    go false = named (nat_abs r)

-- ---- what operations show

deleted-put : (r : ℤ) (k : Bytes) (o : Option Kv) → All (ShowsPuts r) (key_removal k o).parts
deleted-put r k None = All-cons (ShowsPuts r) _ [] tt (All-nil (ShowsPuts r))
deleted-put r k (Some kv) = All-cons (ShowsPuts r) _ [] tt (All-nil (ShowsPuts r))

one-put : (n : ℕ) (s : Store) (m : Keys) (a : Act) → ArePutBy n m → ((r : ℕ) → ArePutBy n (store_at s r)) → All (ShowsPuts (pos n)) (one_act s m a).parts
one-put n s m (act.Put k v lease) now named = All-cons (ShowsPuts (pos n)) _ [] tt (All-nil (ShowsPuts (pos n)))
one-put n s m (act.Delete k) now named = deleted-put (pos n) k (get m k)
one-put n s m (act.Range q) now named = All-cons (ShowsPuts (pos n)) _ [] (range-put n q _ (looked-put n s m q.revision now named)) (All-nil (ShowsPuts (pos n)))

-- the operations that are left, over the changes so far
acts-put : (s : Store) (cs : List Change) (acts : List Act) (total : List Change) (m : Keys) → IsKept s → m ≡ so_far s cs → total ≡ cs ++ (acts_from s (revision s +ℤ pos 1) m acts).changes →
    are_distinct (put_keys cs ++ act_keys acts) ≡ true → All (ShowsPuts (revision (grown s total))) (acts_from s (revision s +ℤ pos 1) m acts).parts
acts-put s cs [] total m kept at is once = All-nil (ShowsPuts (revision (grown s total)))
acts-put s cs (a ∷ acts) total m kept at is once =
    let n = length (grown s total).revisions in
    let here = one_act s m a in
    let left = after_changes (revision s +ℤ pos 1) m here.changes in
    let later = acts_from s (revision s +ℤ pos 1) left acts in
    let now : ArePutBy n m = subst (ArePutBy n) (sym at) (so_far-put s cs total (here.changes ++ later.changes) kept is (distinct-front (put_keys cs) (act_keys (a ∷ acts)) once)) in
    let named : (r : ℕ) → ArePutBy n (store_at s r) = λ r q kv e. put_more (length s.revisions) n kv (grown-length s total) (store-put s r kept q kv e) in
    let next : left ≡ so_far s (cs ++ here.changes) = ap (λ (x : Keys). after_changes (revision s +ℤ pos 1) x here.changes) at ∙ sym (after_changes-append (revision s +ℤ pos 1) (present s) cs here.changes) in
    All-append (ShowsPuts (pos n)) here.parts later.parts (one-put n s m a now named)
    (acts-put s (cs ++ here.changes) acts total left kept next (is ∙ sym (append_assoc cs here.changes later.changes)) (keys_step s m cs (cs ++ here.changes) a (a ∷ acts) acts refl refl once))

worked-put : (s : Store) (acts : List Act) → IsKept s → writes_twice acts ≡ false → All (ShowsPuts (revision (grown s (worked s acts).changes))) (worked s acts).parts
unfolding worked
worked-put s acts kept once = acts-put s [] acts (worked s acts).changes (present s) kept refl refl (distinct-acts acts once)

-- ---- what an ask is answered

grown-room : (s : Store) (cs : List Change) → IsKept s → is_full_store s cs ≡ false → revision (grown s cs) ≤ℤ last_revision
grown-room s [] kept room = let short = kept.short in omega (arith, ints)
grown-room s (c ∷ cs) kept room = grown_below (length s.revisions) (length (grown s (c ∷ cs)).revisions) (length-append s.revisions ((c ∷ cs) ∷ [])) room
  where
    grown_below : (n m : ℕ) → m ≡ n + 1 → not (int_lt (pos n) last_revision) ≡ false → pos m ≤ℤ last_revision
    grown_below n m is h = grind (arith, ints)

chosen-once : (t : TxnReq) (b : Bool) → writes_twice t.success ≡ false → writes_twice t.failure ≡ false → writes_twice (chosen b t) ≡ false
chosen-once t true success failure = success
chosen-once t false success failure = failure

answered : (s : Store) (q : Ask) → IsKept s → is_denied s q ≡ false → HasNumbers (carried_out s q).1
unfolding is_denied carried_out txn_done
answered s (ask.Txn t) kept h =
    let acts = chosen_acts s t in
    let full = or_parts _ (is_full_store s (worked s acts).changes) h in
    let named = or_parts _ (list_any (names_missing s) acts) full.0 in
    let failure = or_parts _ (writes_twice t.failure) named.0 in
    let success = or_parts (has_long_list t) (writes_twice t.success) failure.0 in
    record { least = omega (arith, ints); most = grown-room s (worked s acts).changes kept full.1; puts = worked-put s acts kept (chosen-once t (succeeds s t) success.1 failure.1) }
answered s (ask.Range q) kept h =
    let n = length s.revisions in
    record { least = omega (arith, ints); most = (let short = kept.short in omega (arith, ints)); puts = range-put n q _ (looked-put n s (present s) q.revision (store-put s n kept) (λ r. store-put s r kept)) }
answered s (ask.Grant id ttl) kept h = record { least = omega (arith, ints); most = (let short = kept.short in omega (arith, ints)); puts = tt }
answered s (ask.Alive id) kept h = record { least = omega (arith, ints); most = (let short = kept.short in omega (arith, ints)); puts = tt }

allowed : (d : Bool) (x y : Store × Answer) → cond d None (Some x) ≡ Some y → (d ≡ false) × (x ≡ y)
allowed true x y h = absurd (none_some h)
allowed false x y h = (refl, some_is h)

pub carry-numbers : (s new : Store) (q : Ask) (a : Answer) → length s.revisions ≤ max_revisions → list_all puts_once s.revisions ≡ true → carry s q ≡ Some (new, a) → HasNumbers a
unfolding carry
carry-numbers s new q a short once h =
    let p = allowed (is_denied s q) (carried_out s q) (new, a) h in
    subst (λ (x : Store × Answer). HasNumbers x.1) p.1 (answered s q (record { short = short; once = once }) p.0)
