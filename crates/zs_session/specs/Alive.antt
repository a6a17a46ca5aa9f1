-- When a session's lease is to be kept alive (Programmer's Guide, "ZooKeeper Sessions": the session is kept alive by requests).
use Rattle.std.specs.Prelude.{ℕ, ◌-◌, ◌/◌, ℤ, nat_abs, nat_le, Bool}

-- a third of the timeout has passed since the last time; a clock that went back counts as no time
abbrev pub is_alive_due : ℕ → ℕ → ℤ → Bool
is_alive_due last now timeout = nat_le (nat_abs timeout / 3) (now - last)
