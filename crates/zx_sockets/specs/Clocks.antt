-- What a clock tells where the system's wall clock was set back.
use Rattle.std.specs.Prelude.{ℕ, ◌+◌, ◌-◌, ◌*◌, ◌/◌, ◌^◌, min}

-- The last moment that a clock tells, in milliseconds since 1970.
abbrev pub last_moment : ℕ
last_moment = 2 ^ 62 - 1

-- The moment so many nanoseconds after one in milliseconds, at three quarters of their pace, or the last one.
abbrev pub paced : ℕ → ℕ → ℕ
paced millis nanos = min (millis + (min (nanos / 1_000_000) last_moment * 3) / 4) last_moment
