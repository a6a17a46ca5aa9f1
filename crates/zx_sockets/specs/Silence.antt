-- How long a peer may say nothing.
use Rattle.std.specs.Prelude.{◌≡◌, ℕ, ◌+◌, ◌-◌, ◌*◌, ◌<◌, zero, suc, Option, Some, None, IfSome}
use Rattle.zx_outside.specs.declared.source.Got.{Got}
use Rattle.zx_outside.specs.declared.source.Got.TheVariants as got
use Rattle.std.specs.declared.time.Duration.{Duration}
use Rattle.std.specs.Duration.{as_nanos}
use Rattle.zx_sockets.specs.declared.patience.Patience.{Patience}

-- The least connect has a length of 4 bytes, a version of 4, a zxid of 8, a timeout of 4, a session of 8, and no password, of which
-- 4 bytes tell (zookeeper.jute, `ConnectRequest`).
abbrev pub least_connect : ℕ
least_connect = 4 + 4 + 8 + 4 + 8 + 4

-- Of a peer that was accepted nothing has come, and it has 10 seconds for its first bytes, and 60 for each silence after them.
abbrev pub IsAccepted : Patience → Type 0
IsAccepted patience = (as_nanos patience.first ≡ 10_000 * 1_000_000) × (as_nanos patience.later ≡ 60_000 * 1_000_000) × (patience.wanted ≡ least_connect)

-- The first limit holds until as many bytes came as the least connect has.
abbrev pub limit_after : ℕ → Duration → Duration → Duration
limit_after zero first later = later
limit_after (suc _) first later = first

abbrev pub limit_of : Patience → Duration
limit_of patience = limit_after patience.wanted patience.first patience.later

-- After fewer bytes than are wanted of the least connect, the silence goes on.
abbrev pub after_bytes : Patience → ℕ → Patience
after_bytes patience count = record {
  first = patience.first;
  later = patience.later;
  since = patience.since;
  wanted = patience.wanted - count;
}

-- the limits are those of before, and so many bytes fewer are wanted
abbrev pub IsLimitedAs : Patience → ℕ → Patience → Type 0
IsLimitedAs before count next = (next.first ≡ before.first) × (next.later ≡ before.later) × (next.wanted ≡ before.wanted - count)

-- Of a source's patience, after so many bytes came: its limits stay. Where the system tells no time any more, there is none.
abbrev pub IsPatience : ℕ → Option Patience → Option Patience → Type 0
IsPatience count None after = after ≡ None
IsPatience count (Some before) after = (count < before.wanted → after ≡ Some (after_bytes before count)) × IfSome after (IsLimitedAs before count)

-- Of a source's patience, after the system was asked for bytes: only bytes change it.
abbrev pub IsPatienceOf : Got → Option Patience → Option Patience → Type 0
IsPatienceOf (got.Bytes count) before after = IsPatience count before after
IsPatienceOf got.End before after = after ≡ before
IsPatienceOf got.Nothing before after = after ≡ before
IsPatienceOf got.Failed before after = after ≡ before
