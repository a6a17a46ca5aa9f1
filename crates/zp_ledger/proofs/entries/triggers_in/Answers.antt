use Rattle.std.proofs.Common.{Some, refl, subst}
use Rattle.zn_layout.specs.Reading.{IsValueOf, head_bytes, IsHeadWithin}
use Rattle.zp_ledger.proofs.entries.triggers_in.Goals as goal

pub returns-in-Ok-clause-told : goal.returns-in-Ok-clause-told
returns-in-Ok-clause-told c = (Some c.in-Ok.record, subst (λ v. IsValueOf head_bytes IsHeadWithin v c.in-Ok.record) c.as_slice-2.ensures c.in-Ok.ensures, refl)
