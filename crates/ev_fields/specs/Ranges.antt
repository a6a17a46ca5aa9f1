-- The ranges of numbers and keys within which a member that was written reads back. Their lower ends are etcd's, and their upper
-- ends are this project's.
use Rattle.std.specs.Prelude.{◌≡◌, ◌<◌, ◌^◌, ℕ, ℤ, pos, List, length}
use Rattle.base64.specs.GeneralPurpose.{IsBytes}

-- revisions, versions, counts, limits and seconds are from 0 to below 2 ^ 62
abbrev pub IsCount : ℤ → Type 0
IsCount n = (k : ℕ) × (n ≡ pos k) × (k < 2 ^ 62)

-- the numbers of leases are from 0 to below 2 ^ 63
abbrev pub IsLease : ℤ → Type 0
IsLease n = (k : ℕ) × (n ≡ pos k) × (k < 2 ^ 63)

-- a number from 1 to below 2 ^ 62
abbrev pub IsPositiveCount : ℤ → Type 0
IsPositiveCount n = (k : ℕ) × (n ≡ pos k) × (0 < k) × (k < 2 ^ 62)

-- a lease's number from 1 to below 2 ^ 63
abbrev pub IsPositiveLease : ℤ → Type 0
IsPositiveLease n = (k : ℕ) × (n ≡ pos k) × (0 < k) × (k < 2 ^ 63)

-- the key of an ask: bytes, of which there is at least one
abbrev pub IsKey : List ℕ → Type 0
IsKey key = IsBytes key × (0 < length key)
