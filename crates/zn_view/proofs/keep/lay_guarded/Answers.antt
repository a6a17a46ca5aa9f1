use Rattle.std.proofs.Common.{ap, sym, ◌∙◌, option_copied}
use Rattle.std.specs.Prelude.{option_map}
use Rattle.zx_base.specs.Maps.{Bytes}
use Rattle.zn_view.specs.Keeping.{seen_as}
use Rattle.zn_view.proofs.KeptActs.{kept-seen}
use Rattle.zn_view.proofs.keep.lay_guarded.Goals as goal

pub returns-in_ok-seen_copy-in-Some-clause-kept : goal.returns-in_ok-seen_copy-in-Some-clause-kept
returns-in_ok-seen_copy-in-Some-clause-kept c =
    c.lay_in.ensures.kept
    (kept-seen c.as_slice.result.now c.keys.result.now (option_copied c.in-Some.found) c.in_ok-seen_copy-in-Some.field-0 c.keys.ensures.kept (sym c.found_among.ensures ∙ ap (option_map option_copied) c.in-Some.is) (c.in_ok-seen_copy-in-Some.ensures ∙ ap (λ (k : Bytes). seen_as k (option_copied c.in-Some.found)) (c.as_slice-in-Some.ensures ∙ sym c.as_slice.ensures)))
    c.requires
