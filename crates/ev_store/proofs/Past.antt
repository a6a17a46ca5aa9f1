-- A store's revisions: the keys after each, the puts of each, and that no ask and no compaction changes one.
use Rattle.std.proofs.Common.{◌≡◌, ℕ, ◌+◌, ◌≤◌, ◌<◌, Bool, true, false, not, cond, ℤ, pos, ◌&&◌, ◌||◌, List, [], ◌∷◌, ◌++◌, map, length, take, drop, Option, Some, None, refl, sym, ap, ◌∙◌, subst, arith}
use Rattle.std.specs.Prelude.{int_lt, slice_get, is_some, is_none, ◌≤ℤ◌}
use Rattle.std.specs.List.{All, filter, list_any}
use Rattle.std.specs.Int.{int_max}
use Rattle.std.specs.Option.{option_map}
use Rattle.std.specs.Ordering.{int_eq}
use Rattle.std.specs.FinMap.{get, empty}
use Rattle.std.proofs.lemmas.Bool.{or_parts, and_parts, not-true}
use Rattle.std.proofs.lemmas.List.{take_all, take_more, drop_more, length-take-le}
use Rattle.std.proofs.lemmas.List.Elements.{All-nil, All-cons}
use Rattle.std.proofs.lemmas.Option.{slice_get_within, get_or_from_slice_get}
use Rattle.zx_base.specs.Maps.{Bytes, same}
use Rattle.zx_base.proofs.MapLaws.{apart-from_same, get-insert_same, get-insert_other, get-remove_other}
use Rattle.ev_types.specs.declared.answer.Kv.{Kv}
use Rattle.ev_types.specs.declared.answer.Answer.{Answer}
use Rattle.ev_types.specs.declared.answer.Answer.TheVariants as answer
use Rattle.ev_types.specs.declared.ask.Ask.{Ask}
use Rattle.ev_types.specs.declared.ask.Ask.TheVariants as ask
use Rattle.ev_types.specs.declared.ask.RangeReq.{RangeReq}
use Rattle.ev_types.specs.Ranges.{Keys, found}
use Rattle.ev_types.specs.Store.{Store, Change, Puts, Removes, revision, put_over, changed, after_changes, keys_from, store_at, present, looked_at, worked, chosen, succeeds, txn_done, carried_out}
use Rattle.ev_types.specs.Denials.{is_future, is_compacted, is_denied, carry}
use Rattle.ev_types.proofs.Grown.{earlier-grown}
use Rattle.std.proofs.lemmas.Int.{ints, clamps}
use Rattle.ev_store.specs.declared.fault.Denied.{Denied}
use Rattle.ev_store.specs.declared.fault.Denied.TheVariants as denied
use Rattle.ev_store.specs.FirstDenial.{compact_denial}
use Rattle.ev_store.specs.Changes.{key_of, are_distinct, writes_once}
use Rattle.ev_store.specs.Compaction.{compact}
use Rattle.ev_store.specs.Events.{puts_in, puts_from, puts_above, is_put, put_of}
use Rattle.ev_store.proofs.Keys.{store_at-first}
use Rattle.ev_types.proofs.Grown.{keys_from-append}
use Rattle.ev_types.proofs.Revisions.{put_over-mod}
use Rattle.zx_base.proofs.Numbers.{pos-nonzero}

-- ---- the keys after each revision

pub store_at-none : (s : Store) → store_at s 0 ≡ empty
unfolding store_at
store_at-none s = refl

pub store_at-next : (s : Store) (r : ℕ) (cs : List Change) → slice_get s.revisions r ≡ Some cs → store_at s (r + 1) ≡ after_changes (pos (r + 1)) (store_at s r) cs
store_at-next s r cs there =
    let within : r < length s.revisions = slice_get_within s.revisions r cs there in
    let count : 1 + length (take r s.revisions) ≡ r + 1 = (let e = length-take-le r s.revisions (omega (arith, within)) in omega (arith, e)) in
    let front : take (r + 1) s.revisions ≡ take r s.revisions ++ cs ∷ [] = take_more s.revisions r cs within ∙ ap (λ xs. take r s.revisions ++ xs ∷ []) (get_or_from_slice_get s.revisions r cs cs there) in
    store_at-first s (r + 1) ∙ ap (keys_from 1 empty) front ∙ keys_from-append 1 empty (take r s.revisions) (cs ∷ [])
    ∙ ap (λ n. after_changes (pos n) (keys_from 1 empty (take r s.revisions)) cs) count
    ∙ ap (λ (m : Keys). after_changes (pos (r + 1)) m cs) (sym (store_at-first s r))

pub store_at-last : (s : Store) (r : ℕ) → length s.revisions ≤ r → store_at s r ≡ present s
store_at-last s r past =
    store_at-first s r ∙ ap (keys_from 1 empty) (take_all r s.revisions past ∙ sym (take_all (length s.revisions) s.revisions (omega arith))) ∙ sym (store_at-first s (length s.revisions))

-- ---- reads

carried-read : (s : Store) (q : RangeReq) → is_denied s (ask.Range q) ≡ false → carry s (ask.Range q) ≡ Some (s, answer.Range (revision s) (found q (looked_at s (present s) q.revision)))
unfolding carry carried_out
carried-read s q allowed = ap (λ b. cond b None (Some (s, answer.Range (revision s) (found q (looked_at s (present s) q.revision))))) allowed

pub read-present : (s : Store) (q : RangeReq) → q.revision ≡ pos 0 → is_denied s (ask.Range q) ≡ false → carry s (ask.Range q) ≡ Some (s, answer.Range (revision s) (found q (present s)))
read-present s q now allowed = carried-read s q allowed ∙ ap (λ n. Some (s, answer.Range (revision s) (found q (looked_at s (present s) n)))) now

pub read-named : (s : Store) (q : RangeReq) (r : ℕ) → 1 ≤ r → q.revision ≡ pos r → is_denied s (ask.Range q) ≡ false → carry s (ask.Range q) ≡ Some (s, answer.Range (revision s) (found q (store_at s r)))
read-named s q r some named allowed =
    carried-read s q allowed ∙ ap (λ n. Some (s, answer.Range (revision s) (found q (looked_at s (present s) n)))) named
    ∙ ap (λ b. Some (s, answer.Range (revision s) (found q (cond b (present s) (store_at s r))))) (pos-nonzero r some)

-- ---- the puts of each revision

pub puts_above-next : (s : Store) (r : ℕ) (cs : List Change) → slice_get s.revisions r ≡ Some cs → puts_above s r ≡ puts_in (pos (r + 1)) (store_at s r) cs ++ puts_above s (r + 1)
unfolding puts_above
puts_above-next s r cs there =
    let within : r < length s.revisions = slice_get_within s.revisions r cs there in
    let front : drop r s.revisions ≡ cs ∷ drop (r + 1) s.revisions = drop_more s.revisions r cs within ∙ ap (λ xs. xs ∷ drop (r + 1) s.revisions) (get_or_from_slice_get s.revisions r cs cs there) in
    ap (puts_from (r + 1) (store_at s r)) front
    ∙ ap (λ (m : Keys). puts_in (pos (r + 1)) (store_at s r) cs ++ puts_from (r + 1 + 1) m (drop (r + 1) s.revisions)) (sym (store_at-next s r cs there))

put-back : (r : ℤ) (k v : Bytes) (lease : ℤ) (o : Option Kv) → put_of (put_over r k v lease o) ≡ Puts k v lease
put-back r k v lease None = refl
put-back r k v lease (Some old) = refl

pub puts_in-puts : (r : ℤ) (m : Keys) (cs : List Change) → map put_of (puts_in r m cs) ≡ filter is_put cs
puts_in-puts r m [] = refl
puts_in-puts r m (Puts k v lease ∷ cs) = λ i. put-back r k v lease (get m k) i ∷ puts_in-puts r (changed r m (Puts k v lease)) cs i
puts_in-puts r m (Removes k ∷ cs) = puts_in-puts r (changed r m (Removes k)) cs

pub puts_in-revision : (r : ℤ) (m : Keys) (cs : List Change) → All (λ kv. kv.mod_revision ≡ r) (puts_in r m cs)
puts_in-revision r m [] = All-nil (λ (kv : Kv). kv.mod_revision ≡ r)
puts_in-revision r m (Puts k v lease ∷ cs) = All-cons (λ (kv : Kv). kv.mod_revision ≡ r) _ _ (put_over-mod r k v lease (get m k)) (puts_in-revision r (changed r m (Puts k v lease)) cs)
puts_in-revision r m (Removes k ∷ cs) = puts_in-revision r (changed r m (Removes k)) cs

after_changes-other : (r : ℤ) (m : Keys) (cs : List Change) (q : Bytes) → list_any (same q) (map key_of cs) ≡ false → get (after_changes r m cs) q ≡ get m q
after_changes-other r m [] q h = refl
after_changes-other r m (Puts k v lease ∷ cs) q h =
    let p = or_parts (same q k) (list_any (same q) (map key_of cs)) h in
    after_changes-other r (changed r m (Puts k v lease)) cs q p.1 ∙ get-insert_other m k q _ (apart-from_same q k p.0)
after_changes-other r m (Removes k ∷ cs) q h =
    let p = or_parts (same q k) (list_any (same q) (map key_of cs)) h in
    after_changes-other r (changed r m (Removes k)) cs q p.1 ∙ get-remove_other m k q (apart-from_same q k p.0)

put_over-key : (r : ℤ) (k v : Bytes) (lease : ℤ) (o : Option Kv) → (put_over r k v lease o).key ≡ k
put_over-key r k v lease None = refl
put_over-key r k v lease (Some old) = refl

pub puts_in-shown : (r : ℤ) (m : Keys) (cs : List Change) → writes_once cs ≡ true → All (λ kv. get (after_changes r m cs) kv.key ≡ Some kv) (puts_in r m cs)
puts_in-shown r m [] once = All-nil (λ (kv : Kv). get m kv.key ≡ Some kv)
puts_in-shown r m (Puts k v lease ∷ cs) once =
    let kv = put_over r k v lease (get m k) in
    let p = and_parts (not (list_any (same k) (map key_of cs))) (are_distinct (map key_of cs)) once in
    All-cons (λ (x : Kv). get (after_changes r (changed r m (Puts k v lease)) cs) x.key ≡ Some x) kv _
    (ap (get (after_changes r (changed r m (Puts k v lease)) cs)) (put_over-key r k v lease (get m k))
    ∙ after_changes-other r (changed r m (Puts k v lease)) cs k (not-true _ p.0) ∙ get-insert_same m k kv)
    (puts_in-shown r (changed r m (Puts k v lease)) cs p.1)
puts_in-shown r m (Removes k ∷ cs) once = puts_in-shown r (changed r m (Removes k)) cs (and_parts (not (list_any (same k) (map key_of cs))) (are_distinct (map key_of cs)) once).1

pub puts-shown : (s : Store) (r : ℕ) (cs : List Change) → slice_get s.revisions r ≡ Some cs → writes_once cs ≡ true → All (λ kv. get (store_at s (r + 1)) kv.key ≡ Some kv) (puts_in (pos (r + 1)) (store_at s r) cs)
puts-shown s r cs there once = subst (λ (m : Keys). All (λ kv. get m kv.key ≡ Some kv) (puts_in (pos (r + 1)) (store_at s r) cs)) (sym (store_at-next s r cs there)) (puts_in-shown (pos (r + 1)) (store_at s r) cs once)

-- ---- what doesn't change them

carried-store : (d : Bool) (x : Store × Answer) (new : Store) (a : Answer) → cond d None (Some x) ≡ Some (new, a) → x.0 ≡ new
carried-store true x new a e = absurd cc
carried-store false x new a e = cc

carried_out-earlier : (s : Store) (a : Ask) (r : ℕ) → r ≤ length s.revisions → store_at (carried_out s a).0 r ≡ store_at s r
unfolding carried_out txn_done store_at
carried_out-earlier s (ask.Txn t) r le = earlier-grown s (worked s (chosen (succeeds s t) t)).changes r le
carried_out-earlier s (ask.Range q) r le = refl
carried_out-earlier s (ask.Grant id ttl) r le = refl
carried_out-earlier s (ask.Alive id) r le = refl

pub carry-earlier : (s new : Store) (a : Ask) (given : Answer) (r : ℕ) → carry s a ≡ Some (new, given) → r ≤ length s.revisions → store_at new r ≡ store_at s r
unfolding carry
carry-earlier s new a given r e le = ap (λ (t : Store). store_at t r) (sym (carried-store (is_denied s a) (carried_out s a) new given e)) ∙ carried_out-earlier s a r le

compacted : (b : Bool) (x new : Store) → cond b None (Some x) ≡ Some new → x ≡ new
compacted true x new e = absurd cc
compacted false x new e = cc

pub compact-floor : (s new : Store) (r : ℤ) → compact s r ≡ Some new → new ≡ record s { floor = int_max r s.floor }
unfolding compact
compact-floor s new r e = sym (compacted (is_future s r) (record s { floor = int_max r s.floor }) new e)

denial_there : (b : Bool) (d : Denied) (x : Store) → is_some (cond b (Some d) None) ≡ is_none (cond b None (Some x))
denial_there true d x = refl
denial_there false d x = refl

pub compact-named : (s : Store) (r : ℤ) → is_some (compact_denial s r) ≡ is_none (compact s r)
unfolding compact
compact-named s r = denial_there (is_future s r) (denied.Future r (revision s)) (record s { floor = int_max r s.floor })

compact-store_at : (s : Store) (floor : ℤ) (n : ℕ) → store_at (record s { floor = floor }) n ≡ store_at s n
unfolding store_at
compact-store_at s floor n = refl

pub compact-keys : (s new : Store) (r : ℤ) (n : ℕ) → compact s r ≡ Some new → store_at new n ≡ store_at s n
compact-keys s new r n e = ap (λ (t : Store). store_at t n) (compact-floor s new r e) ∙ compact-store_at s (int_max r s.floor) n

-- the floor is the revision or above it, and never falls
pub compact-least : (s new : Store) (r : ℤ) → compact s r ≡ Some new → r ≤ℤ new.floor
compact-least s new r e = subst (λ (t : Store). r ≤ℤ t.floor) (sym (compact-floor s new r e)) (omega (arith, ints, clamps))

pub compact-rises : (s new : Store) (r : ℤ) → compact s r ≡ Some new → s.floor ≤ℤ new.floor
compact-rises s new r e = subst (λ (t : Store). s.floor ≤ℤ t.floor) (sym (compact-floor s new r e)) (omega (arith, ints, clamps))

not_below : (n low high : ℤ) → low ≤ℤ high → int_lt n high ≡ false → int_lt n low ≡ false
not_below n low high le h = grind (arith, ints)

-- a revision that isn't below the new floor wasn't below the old one
still_kept : (s new : Store) (n : ℤ) → s.floor ≤ℤ new.floor → is_compacted new n ≡ false → is_compacted s n ≡ false
still_kept s new n rises = go (not (int_eq n (pos 0)))
  where
    go : (b : Bool) → (b && int_lt n new.floor) ≡ false → (b && int_lt n s.floor) ≡ false
    go true h = not_below n s.floor new.floor rises h
    go false h = refl

same_answer : (b c d : Bool) (s new : Store) (a : Answer) → c ≡ false → d ≡ false →
    option_map (λ (x : Store × Answer). x.1) (cond (b || c) None (Some (new, a))) ≡ option_map (λ (x : Store × Answer). x.1) (cond (b || d) None (Some (s, a)))
same_answer true c d s new a h k = refl
same_answer false c d s new a h k =
    ap (λ x. option_map (λ (x : Store × Answer). x.1) (cond x None (Some (new, a)))) h ∙ ap (λ x. option_map (λ (x : Store × Answer). x.1) (cond x None (Some (s, a)))) (sym k)

read_again : (s : Store) (floor : ℤ) (q : RangeReq) → is_compacted s q.revision ≡ false → is_compacted (record s { floor = floor }) q.revision ≡ false →
    option_map (λ (x : Store × Answer). x.1) (carry (record s { floor = floor }) (ask.Range q)) ≡ option_map (λ (x : Store × Answer). x.1) (carry s (ask.Range q))
unfolding carry carried_out is_denied store_at
read_again s floor q h k =
    same_answer (is_future s q.revision) (is_compacted (record s { floor = floor }) q.revision) (is_compacted s q.revision) s (record s { floor = floor })
    (answer.Range (revision s) (found q (looked_at s (present s) q.revision))) k h

pub compact-reads : (s new : Store) (r : ℤ) (q : RangeReq) → compact s r ≡ Some new → is_compacted new q.revision ≡ false →
    option_map (λ (x : Store × Answer). x.1) (carry new (ask.Range q)) ≡ option_map (λ (x : Store × Answer). x.1) (carry s (ask.Range q))
compact-reads s new r q e kept =
    subst (λ (t : Store). is_compacted t q.revision ≡ false → option_map (λ (x : Store × Answer). x.1) (carry t (ask.Range q)) ≡ option_map (λ (x : Store × Answer). x.1) (carry s (ask.Range q)))
    (sym (compact-floor s new r e)) (read_again s (int_max r s.floor) q (still_kept s new q.revision (compact-rises s new r e) kept)) kept
