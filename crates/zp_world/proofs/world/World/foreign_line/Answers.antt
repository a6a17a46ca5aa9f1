use Rattle.std.proofs.Common.{◌≡◌, ◌∷◌, [], refl, sym, ap, ◌∙◌, rules, true, false}
use Rattle.std.specs.Prelude.{Some, pos}
use Rattle.ev_store.specs.FirstDenial.{foreign_denial}
use Rattle.ev_types.specs.Lapses.{foreign}
use Rattle.ev_types.specs.Store.{Puts}
use Rattle.zt_text.specs.declared.script.Why.TheVariants as why
use Rattle.zp_script.specs.Faults.{full_fault, if_fails, is_kept_key}
use Rattle.zp_script.specs.Worlds.{World}
use Rattle.zp_world.proofs.Happening.{put-to}
use Rattle.zp_world.proofs.Lapsing.{foreign-full, foreign-kept, foreign-possible}
use Rattle.zp_world.proofs.Refusing.{foreign-line, refuses, refuses-same}
use Rattle.zp_world.proofs.world.World.foreign_line.Goals as goal

pub returns-then-is_kept_key : goal.returns-then-is_kept_key
returns-then-is_kept_key c =
    let kept : is_kept_key c.args.key ≡ true = search rules in
    refuses _ _ why.KeyKept c.refused.result (foreign-line c.args.self.now c.args.key c.args.value ∙ foreign-kept c.args.self.now.store c.args.key c.args.value kept) c.refused.ensures

pub returns-in-Ok : goal.returns-in-Ok
returns-in-Ok c =
    let kept : is_kept_key c.args.key ≡ false = search rules in
    let put : foreign c.self.inside.store c.args.key c.args.value ≡ Some c.foreign.new.self = search rules in
    record {
      possible = foreign-line c.args.self.now c.args.key c.args.value
          ∙ ap (λ (w : World). if_fails (is_kept_key c.args.key) why.KeyKept (full_fault w.store (Puts c.args.key c.args.value (pos 0) ∷ []))) (sym c.self.view_is)
          ∙ foreign-possible c.self.inside.store c.foreign.new.self c.args.key c.args.value kept put;
      effect = put-to _ _ _ c.foreign.new.self c.args.key c.args.value c.self.view_is put refl;
    }

pub returns-in-Err-Denied : goal.returns-in-Err-Denied
returns-in-Err-Denied c =
    let kept : is_kept_key c.args.key ≡ false = search rules in
    let denied : foreign_denial c.self.inside.store c.args.key c.args.value ≡ Some c.in-Err-Denied.field-0-0 = search rules in
    refuses-same _ _ _ why.StoreFull _
    (foreign-line c.args.self.now c.args.key c.args.value
    ∙ ap (λ (w : World). if_fails (is_kept_key c.args.key) why.KeyKept (full_fault w.store (Puts c.args.key c.args.value (pos 0) ∷ []))) (sym c.self.view_is)
    ∙ foreign-full c.self.inside.store c.args.key c.args.value c.in-Err-Denied.field-0-0 kept denied) (search rules) (search rules)
