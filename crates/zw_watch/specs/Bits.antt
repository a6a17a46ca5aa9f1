-- By which bits an update finds the connections that may watch what it touches. A path has one bit of 64 for its data watch, and another
-- for its child watch; paths share bits.
use Rattle.std.specs.Prelude.{◌≡◌, ◌≢◌, ℕ, ◌+◌, ◌*◌, ◌/◌, ◌%◌, ◌^◌, ◌<◌, Bool, ◌==◌, ◌-◌, nat_lt, if◌then◌else◌, List, [], ◌∷◌, true, min, get_or}
use Rattle.std.specs.FinMap.{contains_key, len, retain_keys}
use Rattle.std.specs.Int.{bit_at}
use Rattle.std.specs.Int.RustNames.{bit_and, bit_or, bit_xor}
use Rattle.zk_model.specs.declared.node.Trigger.{Trigger}
use Rattle.zk_model.specs.declared.node.Trigger.TheVariants.{Created, Deleted, Changed, Children}
use Rattle.zk_model.specs.Watches.{PathSet, Watches, fire}
use Rattle.zx_base.specs.Maps.{Bytes}

-- ---- the places of the bits

-- the hash FNV-1a of the bytes so far, and then of these
unfoldable pub hashed : ℕ → Bytes → ℕ
hashed h [] = h
hashed h (b ∷ bs) = hashed (bit_xor h b * 1099511628211 % 2 ^ 64) bs

-- six bits of a number that all its bits have a part in
unfoldable pub scattered : ℕ → ℕ
scattered h = h * 11400714819323198485 % 2 ^ 64 / 2 ^ 58

-- the place of a path, from 0 to 63: that of its data watch's bit
abbrev pub place_of : Bytes → ℕ
place_of p = scattered (hashed 14695981039346656037 p)

-- the place of the bit of a path's child watch, where the path has this place
abbrev pub across : ℕ → ℕ
across i = (i + 32) % 64

abbrev pub data_bit : Bytes → ℕ
data_bit p = 2 ^ place_of p

abbrev pub child_bit : Bytes → ℕ
child_bit p = 2 ^ across (place_of p)

-- ---- the bits of an update

-- the bits of those watches that a change may fire
abbrev pub trigger_bits : Trigger → ℕ
trigger_bits (Created p) = data_bit p
trigger_bits (Deleted p) = bit_or (data_bit p) (child_bit p)
trigger_bits (Changed p) = data_bit p
trigger_bits (Children p) = child_bit p

-- these bits and those of several changes
unfoldable pub with_bits : ℕ → List Trigger → ℕ
with_bits bits [] = bits
with_bits bits (t ∷ ts) = with_bits (bit_or bits (trigger_bits t)) ts

abbrev pub bits_of : List Trigger → ℕ
bits_of ts = with_bits 0 ts

-- ---- the bits of what is armed

-- these bits have the bit of each of the paths
abbrev pub HasEach : PathSet → ℕ → Type 0
HasEach s bits = (p : Bytes) → contains_key s p ≡ true → bit_at bits (place_of p) ≡ 1

-- A change that gives a notice has a bit in common with these.
abbrev pub IsHeard : Watches → ℕ → Type 0
IsHeard w bits = (t : Trigger) → (fire w t).1 ≢ [] → bit_and bits (trigger_bits t) ≢ 0

-- ---- how many paths have each place

-- how many paths of the set have this place
abbrev pub count_at : PathSet → ℕ → ℕ
count_at s i = len (retain_keys s (λ p. place_of p == i))

-- The counts are those of the set; one that has come to 65535 stays, and tells nothing.
abbrev pub IsCounted : PathSet → List ℕ → Type 0
IsCounted s counts = (i : ℕ) → i < 64 → get_or counts i 0 < 65535 → get_or counts i 0 ≡ count_at s i

-- a bit is set where its count is not 0
abbrev pub IsShown : List ℕ → ℕ → Type 0
IsShown counts bits = (i : ℕ) → i < 64 → bit_at bits i ≡ min 1 (get_or counts i 0)

-- the count of a place when a path is added
abbrev pub added : ℕ → ℕ
added c = min 65535 (c + 1)

-- the count of a place when a path is taken away
abbrev pub taken : ℕ → ℕ
taken c = if nat_lt c 65535 then c - 1 else c

-- the counts with another one at this place
abbrev pub IsPut : ℕ → ℕ → List ℕ → List ℕ → Type 0
IsPut place count old new = (i : ℕ) → i < 64 → get_or new i 0 ≡ (if i == place then count else get_or old i 0)
