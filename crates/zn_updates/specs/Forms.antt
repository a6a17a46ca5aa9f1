-- The form of a request, as it was tested.
use Rattle.std.specs.Prelude.{◌≡◌, ℤ, Bool, true, false, not, ◌&&◌, Option, Some, None}
use Rattle.zk_model.specs.PathFaults.{tested}
use Rattle.zk_model.specs.Paths.{is_path, root}
use Rattle.zx_base.specs.Maps.{Bytes, same}
use Rattle.zn_updates.specs.declared.form.Form.{Form}
use Rattle.zn_updates.specs.declared.form.Form.TheVariants.{Valid, Refused}

-- the path of a text, none where the text isn't valid or is the root
abbrev pub IsInnerPath : Bytes → Option Bytes → Type 0
IsInnerPath text (Some p) = (p ≡ text) × ((is_path text && not (same text root)) ≡ true)
IsInnerPath text None = (is_path text && not (same text root)) ≡ false

-- the path that was tested, where nothing is refused; otherwise the code of the refusal
abbrev pub IsFormOf : Bool → Bytes → Option ℤ → Form → Type 0
IsFormOf sequential text refusal (Valid p) = (p ≡ tested sequential text) × (refusal ≡ None)
IsFormOf sequential text refusal (Refused code) = refusal ≡ Some code
