-- Values put one after the other into what takes them.
use Rattle.std.specs.Prelude.{ℕ, ◌-◌, ◌^◌, min, List, [], ◌∷◌}
use Rattle.zk_jute.specs.JuteValues.{Value}

-- what is held after the values were put, the first of them first
abbrev pub put_all : {S : Type 0} → (S → Value → S) → S → List Value → S
put_all {S = S} put held [] = held
put_all {S = S} put held (v ∷ vs) = put_all put (put held v) vs

-- a count of bytes, which stops at 2^64 - 1
abbrev pub counted : ℕ → ℕ
counted n = min n (2 ^ 64 - 1)
