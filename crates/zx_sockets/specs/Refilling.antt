-- What a source's own buffer holds after the system was asked for bytes.
use Rattle.std.specs.Prelude.{◌≡◌, ℕ, ◌<◌}
use Rattle.zx_outside.specs.declared.source.Got.{Got}
use Rattle.zx_outside.specs.declared.source.Got.TheVariants as got

-- So many bytes from its front on; after any other answer none.
abbrev pub Refilled : Got → ℕ → ℕ → Type 0
Refilled (got.Bytes n) start end = (0 < n) × (start ≡ 0) × (end ≡ n)
Refilled got.End start end = start ≡ end
Refilled got.Nothing start end = start ≡ end
Refilled got.Failed start end = start ≡ end
