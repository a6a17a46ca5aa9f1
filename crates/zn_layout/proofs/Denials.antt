-- An update's transaction isn't denied.
use Rattle.std.proofs.Common.{◌≡◌, ◌+◌, ◌≤◌, true, false, List, [], ◌∷◌, ◌++◌, length, Option, Some, None, refl, sym, ap, ◌∙◌, subst, arith}
use Rattle.std.specs.Prelude.{not, ◌&&◌, ◌||◌, ◌<ℤ◌}
use Rattle.std.specs.List.{list_any, sum_by}
use Rattle.std.proofs.lemmas.Bool.{and_parts, lt-ltb, not-true}
use Rattle.std.proofs.lemmas.Int.{ints}
use Rattle.std.proofs.lemmas.List.{length-append, length-map}
use Rattle.std.proofs.lemmas.List.Folds.{list_all-append}
use Rattle.std.proofs.lemmas.List.Sums.{sum_by-append, sum_by-cons}
use Rattle.ev_types.specs.declared.ask.Guard.{Guard}
use Rattle.ev_types.specs.declared.ask.Act.{Act}
use Rattle.ev_types.specs.declared.ask.Act.TheVariants as act
use Rattle.ev_types.specs.declared.ask.Ask.TheVariants as ask
use Rattle.ev_types.specs.Store.{Store, Change as StoreChange, revision, last_revision, max_revisions, worked}
use Rattle.ev_types.specs.Denials.{names_missing, writes, puts, writes_twice, max_operations, is_full_store, chosen_acts, is_denied}
use Rattle.ev_types.specs.Reads.{read_key, are_present_reads}
use Rattle.ev_types.specs.Sizes.{act_size, guard_size, txn_size, max_txn_size, IsSendable}
use Rattle.ev_types.proofs.Allowed.{reads_named, reads_once, plain-not_denied}
use Rattle.zk_model.specs.declared.node.Trigger.{Trigger}
use Rattle.zx_base.specs.Maps.{Bytes, same}
use Rattle.zx_base.proofs.MapLaws.{same-refl, same-false}
use Rattle.zn_layout.specs.Keys.{Key, HeadKey, key_bytes, same_key}
use Rattle.zn_layout.specs.Changes.{Put, KeyChange, act_at, act_of, acts_of, head_put, update_acts, writes_key, are_distinct, has_its_lease, have_leases, put_size, change_size}
use Rattle.zn_layout.specs.Updates.{update_txn}
use Rattle.zn_layout.proofs.Keys.{same_key-true, same_key-false}
use Rattle.zx_base.proofs.Booleans.{or-neither as both_false, or-split}

-- ---- no key twice

same-key_bytes : (k l : Key) → same (key_bytes k) (key_bytes l) ≡ same_key k l
same-key_bytes k l = elim (same_key k l) as (λ b. same_key k l ≡ b → same (key_bytes k) (key_bytes l) ≡ b) [
  | true ↦ λ h. ap (λ (x : Key). same (key_bytes k) (key_bytes x)) (sym (same_key-true k l h)) ∙ same-refl (key_bytes k)
  | false ↦ λ h. same-false (key_bytes k) (key_bytes l) (same_key-false k l h)
] refl

writes-act_at : (k key : Bytes) (w : Option Put) → writes k (act_at key w) ≡ same k key
writes-act_at k key None = refl
writes-act_at k key (Some w) = refl

writes-act_of : (k : Key) (c : KeyChange) → writes (key_bytes k) (act_of c) ≡ writes_key k c
writes-act_of k c = writes-act_at (key_bytes k) (key_bytes c.key) c.put ∙ same-key_bytes k c.key

-- the operations of changes, followed by a read
abbrev with_read : List KeyChange → Bytes → List Act
with_read cs read = acts_of cs ++ read_key read ∷ []

any_writes : (k : Key) (cs : List KeyChange) (read : Bytes) → list_any (writes (key_bytes k)) (with_read cs read) ≡ list_any (writes_key k) cs
any_writes k [] read = refl
any_writes k (c ∷ cs) read = λ i. writes-act_of k c i || any_writes k cs read i

puts-none : (k : Bytes) (a : Act) → writes k a ≡ false → puts k a ≡ false
puts-none k (act.Put q v lease) h = h
puts-none k (act.Delete q) h = refl
puts-none k (act.Range q) h = refl

any_puts : (k : Bytes) (acts : List Act) → list_any (writes k) acts ≡ false → list_any (puts k) acts ≡ false
any_puts k [] h = refl
any_puts k (a ∷ acts) h =
    let parts = or-split (writes k a) (list_any (writes k) acts) h in
    both_false (puts k a) (list_any (puts k) acts) (puts-none k a parts.0) (any_puts k acts parts.1)

twice-act_at : (key : Bytes) (w : Option Put) (acts : List Act) → list_any (writes key) acts ≡ false → writes_twice acts ≡ false → writes_twice (act_at key w ∷ acts) ≡ false
twice-act_at key None acts once rest = both_false (list_any (puts key) acts) (writes_twice acts) (any_puts key acts once) rest
twice-act_at key (Some w) acts once rest = both_false (list_any (writes key) acts) (writes_twice acts) once rest

twice-distinct : (cs : List KeyChange) (read : Bytes) → are_distinct cs ≡ true → writes_twice (with_read cs read) ≡ false
twice-distinct [] read h = refl
twice-distinct (c ∷ cs) read h =
    let parts = and_parts _ _ h in
    twice-act_at (key_bytes c.key) c.put (with_read cs read)
    (any_writes c.key cs read ∙ not-true _ parts.0)
    (twice-distinct cs read parts.1)

-- ---- leases

named-act_at : (s : Store) (key : Bytes) (w : Option Put) → has_its_lease s w ≡ true → names_missing s (act_at key w) ≡ false
named-act_at s key None h = refl
named-act_at s key (Some w) h = not-true _ h

named-changes : (s : Store) (cs : List KeyChange) (read : Bytes) → have_leases s cs ≡ true → list_any (names_missing s) (with_read cs read) ≡ false
named-changes s [] read h = reads_named s (read_key read ∷ []) refl
named-changes s (c ∷ cs) read h =
    let parts = and_parts _ _ h in
    both_false _ _ (named-act_at s (key_bytes c.key) c.put parts.0) (named-changes s cs read parts.1)

-- ---- room

roomy : (s : Store) (cs : List StoreChange) → revision s <ℤ last_revision → is_full_store s cs ≡ false
roomy s [] room = refl
roomy s (c ∷ cs) room = ap not (lt-ltb (length s.revisions) max_revisions (omega (arith, ints)))

-- ---- together

pub update_acts-length : (cs : List KeyChange) (ts : List Trigger) → length (update_acts cs ts) ≡ length cs + 2
update_acts-length cs ts = let all : List KeyChange = cs ++ head_put ts ∷ [] in omega (arith, length-append (acts_of all) (read_key (key_bytes HeadKey) ∷ []), length-map all act_of, length-append cs (head_put ts ∷ []))

-- whatever list is chosen, but for the room that its changes need
pub update-plain : (s : Store) (guards : List Guard) (cs : List KeyChange) (ts : List Trigger) (again : List Act) → length guards ≤ max_operations → length cs + 2 ≤ max_operations → length again ≤ max_operations →
    are_distinct (cs ++ head_put ts ∷ []) ≡ true → have_leases s cs ≡ true → are_present_reads again ≡ true → is_full_store s (worked s (chosen_acts s (update_txn guards cs ts again))).changes ≡ false →
    is_denied s (ask.Txn (update_txn guards cs ts again)) ≡ false
update-plain s guards cs ts again few_guards few few_again distinct leased reads room = plain-not_denied s (update_txn guards cs ts again) (record {
  guards = few_guards;
  success = omega (arith, update_acts-length cs ts);
  failure = few_again;
  success_once = twice-distinct (cs ++ head_put ts ∷ []) (key_bytes HeadKey) distinct;
  failure_once = reads_once again reads;
  success_named = named-changes s (cs ++ head_put ts ∷ []) (key_bytes HeadKey) (list_all-append (λ (c : KeyChange). has_its_lease s c.put) cs (head_put ts ∷ []) ∙ ap (λ b. b && true) leased);
  failure_named = reads_named s again reads;
  room = room;
})

-- where the store has room
pub update-not_denied : (s : Store) (guards : List Guard) (cs : List KeyChange) (ts : List Trigger) (again : List Act) → length guards ≤ max_operations → length cs + 2 ≤ max_operations → length again ≤ max_operations →
    are_distinct (cs ++ head_put ts ∷ []) ≡ true → have_leases s cs ≡ true → are_present_reads again ≡ true → revision s <ℤ last_revision → is_denied s (ask.Txn (update_txn guards cs ts again)) ≡ false
update-not_denied s guards cs ts again few_guards few few_again distinct leased reads room = update-plain s guards cs ts again few_guards few few_again distinct leased reads (roomy s _ room)

-- ---- how large it is

act_at-size : (key : Bytes) (w : Option Put) → act_size (act_at key w) ≡ length key + put_size w
act_at-size key None = omega arith
act_at-size key (Some w) = refl

acts_of-size : (cs : List KeyChange) → sum_by act_size (acts_of cs) ≡ sum_by change_size cs
acts_of-size [] = refl
acts_of-size (c ∷ cs) =
    sum_by-cons act_size (act_of c) (acts_of cs) ∙ (λ i. act_at-size (key_bytes c.key) c.put i + acts_of-size cs i) ∙ sym (sum_by-cons change_size c cs)

pub update_txn-size : (guards : List Guard) (cs : List KeyChange) (ts : List Trigger) (again : List Act) →
    txn_size (update_txn guards cs ts again) ≡ sum_by guard_size guards + sum_by change_size cs + change_size (head_put ts) + length (key_bytes HeadKey) + sum_by act_size again
update_txn-size guards cs ts again =
    let all : List KeyChange = cs ++ head_put ts ∷ [] in
    let both : sum_by act_size (update_acts cs ts) ≡ sum_by act_size (acts_of all) + sum_by act_size (read_key (key_bytes HeadKey) ∷ []) = sum_by-append act_size (acts_of all) (read_key (key_bytes HeadKey) ∷ []) in
    let puts_all : sum_by act_size (acts_of all) ≡ sum_by change_size cs + sum_by change_size (head_put ts ∷ []) = acts_of-size all ∙ sum_by-append change_size cs (head_put ts ∷ []) in
    let head : sum_by change_size (head_put ts ∷ []) ≡ change_size (head_put ts) = omega arith in
    let alone : sum_by act_size (read_key (key_bytes HeadKey) ∷ []) ≡ length (key_bytes HeadKey) = omega arith in
    omega arith

pub update-sendable : (guards : List Guard) (cs : List KeyChange) (ts : List Trigger) (again : List Act) → length guards ≤ max_operations → length cs + 2 ≤ max_operations → length again ≤ max_operations →
    sum_by guard_size guards + sum_by change_size cs + change_size (head_put ts) + length (key_bytes HeadKey) + sum_by act_size again ≤ max_txn_size → IsSendable (update_txn guards cs ts again)
update-sendable guards cs ts again few_guards few few_again small = record {
  guards = few_guards;
  success = omega (arith, update_acts-length cs ts);
  failure = few_again;
  bytes = subst (λ n. n ≤ max_txn_size) (sym (update_txn-size guards cs ts again)) small;
}
