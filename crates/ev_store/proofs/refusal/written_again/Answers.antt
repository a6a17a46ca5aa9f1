use Rattle.std.proofs.Common.{◌≡◌, Bool, true, false, ap, sym, ◌∙◌, cond, Some, None, Bor, refl}
use Rattle.std.specs.Bool.{then_some}
use Rattle.std.specs.Option.{option_copied}
use Rattle.zx_base.specs.Maps.{Bytes}
use Rattle.ev_store.specs.FirstDenial.{written_again as again}
use Rattle.ev_store.proofs.refusal.written_again.Goals as goal

copied-then_some : (b : Bool) (k : Bor Bytes) → option_copied (then_some b k) ≡ cond b (Some k.now) None
copied-then_some true k = refl
copied-then_some false k = refl

pub returns-in-Put : goal.returns-in-Put
returns-in-Put c =
    ap option_copied c.then_some.ensures ∙ copied-then_some _ _ ∙ ap (λ b. cond b (Some c.in-Put.key) None) c.any_writes.ensures
    ∙ sym (ap (λ a. again a c.args.later.now) c.in-Put.is)
