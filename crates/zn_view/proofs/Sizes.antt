-- How many bytes keys, values, guards and reads have.
use Rattle.std.proofs.Common.{◌≡◌, ℕ, zero, suc, ◌+◌, ◌*◌, ◌/◌, ◌%◌, ◌≤◌, pos, true, false, length, List, [], ◌∷◌, ◌++◌, refl, arith, length-append}
use Rattle.std.specs.Prelude.{All, IsTrue, if◌then◌else◌}
use Rattle.std.specs.List.{sum_by}
use Rattle.std.proofs.lemmas.List.{length-map}
use Rattle.std.proofs.lemmas.List.Concat.{length-flat_map}
use Rattle.std.proofs.lemmas.List.Elements.{All-nil, All-cons, All-head, All-tail, All-append, All-map, All-weaker}
use Rattle.std.proofs.lemmas.List.Sums.{sum_by-cons}
use Rattle.ev_types.specs.declared.ask.Act.TheVariants as act
use Rattle.ev_types.specs.declared.ask.Guard.{Guard}
use Rattle.ev_types.specs.Reads.{are_present_reads}
use Rattle.ev_types.specs.Sizes.{act_size, guard_size}
use Rattle.ev_types.specs.Store.{mod_of}
use Rattle.zk_model.specs.declared.node.Trigger.{Trigger}
use Rattle.zk_model.specs.declared.node.Trigger.TheVariants.{Created, Deleted, Changed, Children}
use Rattle.zk_model.specs.declared.layout.Layout.{Layout}
use Rattle.zk_model.specs.declared.layout.Layout.TheVariants.{One, Two}
use Rattle.zk_model.specs.Limits.{max_owned}
use Rattle.zk_model.specs.Paths.{is_path}
use Rattle.zk_jute.proofs.Lengths.{length-int_bytes, length-long_bytes, length-string_bytes, length-vector_bytes}
use Rattle.zk_jute.specs.JuteWriting.{int_bytes, long_bytes, string_bytes}
use Rattle.zx_base.specs.Maps.{Bytes, same}
use Rattle.zn_layout.specs.declared.record.SessionRec.{SessionRec}
use Rattle.zn_layout.specs.declared.record.CountRec.{CountRec}
use Rattle.zn_layout.specs.declared.record.NodeRec.{NodeRec}
use Rattle.zn_layout.specs.Changes.{head_put, change_size}
use Rattle.zn_layout.specs.Keys.{HeadKey, DataKey, CountsKey, SessionKey, LeaseKey, key_bytes, hex_digits, hex_digit}
use Rattle.zn_layout.specs.Records.{counts_value, head_value, node_value, session_value, trigger_bytes, IsHeadRec}
use Rattle.zk_model.specs.Watches.{trigger_path}
use Rattle.zn_layout.proofs.Paths.{path_short}
use Rattle.zn_view.specs.declared.snapshot.SeenKey.{SeenKey}
use Rattle.zn_view.specs.declared.want.Want.{Want}
use Rattle.zn_view.specs.declared.want.Want.TheVariants as want
use Rattle.zn_view.specs.Asks.{range_of, ranges_of, guards_of, guarded_wants, head_want, again_of}

-- ---- sums

pub sum_by-most : {X : Type 0} (f : X → ℕ) (b : ℕ) (xs : List X) → All (λ x. f x ≤ b) xs → sum_by f xs ≤ b * length xs
sum_by-most f b [] all = omega arith
sum_by-most f b (x ∷ xs) all = omega (arith, sum_by-cons f x xs, All-head (λ y. f y ≤ b) x xs all, sum_by-most f b xs (All-tail (λ y. f y ≤ b) x xs all))

-- ---- keys

hex-length : (k n : ℕ) (rest : Bytes) → length (hex_digits k n rest) ≡ length rest + k + 1
unfolding hex_digits
hex-length zero n rest = omega arith
hex-length (suc k) n rest = omega (arith, hex-length k (n / 16) (hex_digit (n % 16) ∷ rest))

pub head-size : length (key_bytes HeadKey) ≡ 7
unfolding key_bytes
head-size = refl

pub data-size : (p : Bytes) → length (key_bytes (DataKey p)) ≡ 9 + length p
unfolding key_bytes
data-size p = omega arith

pub counts-size : (p : Bytes) → length (key_bytes (CountsKey p)) ≡ 9 + length p
unfolding key_bytes
counts-size p = omega arith

pub session-size : (n : ℕ) → length (key_bytes (SessionKey n)) ≡ 21
unfolding key_bytes
session-size n = omega (arith, hex-length 15 n [])

pub life-size : (n : ℕ) → length (key_bytes (LeaseKey n)) ≡ 21
unfolding key_bytes
life-size n = omega (arith, hex-length 15 n [])

-- ---- values

pub counts_value-size : (c : CountRec) → length (counts_value c) ≡ 9
unfolding counts_value
counts_value-size c = omega (arith, length-append (int_bytes c.creates) (int_bytes c.children), length-int_bytes c.creates, length-int_bytes c.children)

trigger-size : (t : Trigger) → IsTrue (is_path (trigger_path t)) → length (trigger_bytes t) ≤ 1029
trigger-size (Created p) h = omega (arith, length-string_bytes p, path_short p h)
trigger-size (Deleted p) h = omega (arith, length-string_bytes p, path_short p h)
trigger-size (Changed p) h = omega (arith, length-string_bytes p, path_short p h)
trigger-size (Children p) h = omega (arith, length-string_bytes p, path_short p h)

head_value-size : (ts : List Trigger) → IsHeadRec ts → length (head_value ts) ≤ 5 + 1029 * length ts
unfolding head_value
head_value-size ts within = omega (
  arith,
  length-vector_bytes trigger_bytes ts,
  length-flat_map trigger_bytes ts,
  sum_by-most (λ t. length (trigger_bytes t)) 1029 ts (All-weaker (λ t. IsTrue (is_path (trigger_path t))) (λ t. length (trigger_bytes t) ≤ 1029) trigger-size ts within.valid),
)

pub head_put-size : (ts : List Trigger) → IsHeadRec ts → change_size (head_put ts) ≤ 12 + 1029 * length ts
head_put-size ts within = omega (arith, head-size, head_value-size ts within)

-- a node's value has 37 bytes before its data
pub node_value-size : (r : NodeRec) → length (node_value r) ≡ 37 + length r.content
unfolding node_value
node_value-size r = omega (
  arith,
  length-append (long_bytes r.czxid) (int_bytes r.version),
  length-append (long_bytes r.czxid ++ int_bytes r.version) (long_bytes r.ctime),
  length-append (long_bytes r.czxid ++ int_bytes r.version ++ long_bytes r.ctime) (long_bytes r.mtime),
  length-append (long_bytes r.czxid ++ int_bytes r.version ++ long_bytes r.ctime ++ long_bytes r.mtime) (long_bytes r.owner),
  length-append (long_bytes r.czxid ++ int_bytes r.version ++ long_bytes r.ctime ++ long_bytes r.mtime ++ long_bytes r.owner) r.content,
  length-long_bytes r.czxid,
  length-int_bytes r.version,
  length-long_bytes r.ctime,
  length-long_bytes r.mtime,
  length-long_bytes r.owner,
)

-- a session owns at most 60 nodes, whatever its layout
pub owned-most : (l : Layout) → max_owned l ≤ 60
owned-most One = omega arith
owned-most Two = omega arith

path-size : (p : Bytes) → IsTrue (is_path p) → length (string_bytes p) ≤ 1028
path-size p h = omega (arith, length-string_bytes p, path_short p h)

pub session_value-size : (r : SessionRec) → All (λ p. IsTrue (is_path p)) r.paths → length (session_value r) ≤ 5 + 1028 * length r.paths
unfolding session_value
session_value-size r valid = omega (
  arith,
  length-vector_bytes string_bytes r.paths,
  length-flat_map string_bytes r.paths,
  sum_by-most (λ p. length (string_bytes p)) 1028 r.paths (All-weaker (λ p. IsTrue (is_path p)) (λ p. length (string_bytes p) ≤ 1028) path-size r.paths valid),
)

-- ---- the guards, and what is read again

abbrev IsShortKey : SeenKey → Type 0
IsShortKey x = length x.key ≤ 1033

abbrev guard_on : SeenKey → Guard
guard_on x = record { key = x.key; mod_revision = mod_of x.found }

abbrev IsShortGuard : Guard → Type 0
IsShortGuard g = guard_size g ≤ 1033

pub guards-length : (xs : List SeenKey) → length (guards_of xs) ≤ length xs
guards-length [] = omega arith
guards-length (x ∷ xs) = elim (same x.key (key_bytes HeadKey)) as (λ b. length (if b then guards_of xs else guard_on x ∷ guards_of xs) ≤ length (x ∷ xs)) [
  | true ↦ omega (arith, guards-length xs)
  | false ↦ omega (arith, guards-length xs)
]

pub guards-short : (xs : List SeenKey) → All IsShortKey xs → All IsShortGuard (guards_of xs)
guards-short [] all = All-nil IsShortGuard
guards-short (x ∷ xs) all = elim (same x.key (key_bytes HeadKey)) as (λ b. All IsShortGuard (if b then guards_of xs else guard_on x ∷ guards_of xs)) [
  | true ↦ guards-short xs (All-tail IsShortKey x xs all)
  | false ↦ All-cons IsShortGuard (guard_on x) (guards_of xs) (All-head IsShortKey x xs all) (guards-short xs (All-tail IsShortKey x xs all))
]

wants-length : (xs : List SeenKey) → length (guarded_wants xs) ≤ length (guards_of xs)
wants-length [] = omega arith
wants-length (x ∷ xs) = elim (same x.key (key_bytes HeadKey)) as (λ b. length (if b then guarded_wants xs else want.Key x.key ∷ guarded_wants xs) ≤ length (if b then guards_of xs else guard_on x ∷ guards_of xs)) [
  | true ↦ omega (arith, wants-length xs)
  | false ↦ omega (arith, wants-length xs)
]

pub again-length : (xs : List SeenKey) → length (ranges_of (pos 0) (again_of xs)) ≤ length (guards_of xs) + 1
again-length xs = omega (arith, length-map (again_of xs) (λ w. act.Range (range_of (pos 0) w)), length-append (guarded_wants xs) (head_want ∷ []), wants-length xs)

abbrev IsShortWant : Want → Type 0
IsShortWant w = act_size (act.Range (range_of (pos 0) w)) ≤ 1033

short_want : (x : SeenKey) → length x.key ≤ 1033 → IsShortWant (want.Key x.key)
short_want x h = omega (arith, h)

wants-short : (xs : List SeenKey) → All IsShortKey xs → All IsShortWant (guarded_wants xs)
wants-short [] all = All-nil IsShortWant
wants-short (x ∷ xs) all = elim (same x.key (key_bytes HeadKey)) as (λ b. All IsShortWant (if b then guarded_wants xs else want.Key x.key ∷ guarded_wants xs)) [
  | true ↦ wants-short xs (All-tail IsShortKey x xs all)
  | false ↦ All-cons IsShortWant (want.Key x.key) (guarded_wants xs) (short_want x (All-head IsShortKey x xs all)) (wants-short xs (All-tail IsShortKey x xs all))
]

head_short : IsShortWant head_want
head_short = omega (arith, head-size)

pub again-short : (xs : List SeenKey) → All IsShortKey xs → All (λ a. act_size a ≤ 1033) (ranges_of (pos 0) (again_of xs))
again-short xs all = All-map (λ a. act_size a ≤ 1033) (λ w. act.Range (range_of (pos 0) w)) (again_of xs)
    (All-append IsShortWant (guarded_wants xs) (head_want ∷ []) (wants-short xs all) (All-cons IsShortWant head_want [] head_short (All-nil IsShortWant)))

pub again-present : (ws : List Want) → are_present_reads (ranges_of (pos 0) ws) ≡ true
again-present [] = refl
again-present (want.Key k ∷ ws) = again-present ws
again-present (want.Children p ∷ ws) = again-present ws
