use Rattle.std.proofs.Common.{◌≡◌, ◌∙◌, ap, refl, sym, subst, w64}
use Rattle.std.proofs.lemmas.Int.{to_z-of_z}
use Rattle.std.specs.Prelude.{Some, None}
use Rattle.ev_types.specs.Store.{Store}
use Rattle.ev_store.specs.FirstDenial.{lapse_denial}
use Rattle.ev_types.specs.Lapses.{lapse}
use Rattle.ev_shared.specs.History.{IsSettled, lapsed}
use Rattle.ev_shared.proofs.Lapsing.{denied_settles, undone}
use Rattle.ev_shared.proofs.Replaying.{as_long}
use Rattle.ev_shared.proofs.kept.Kept.lapse.Goals as goal

pub returns-in-Err-Denied : goal.returns-in-Err-Denied
returns-in-Err-Denied c =
    let same = sym c.in-Err-Denied.ensures.stays in
    let first = c.in-Err-Denied.ensures.first c.in-Err-Denied.field-0-0 (cc) in
    let named : lapse_denial c.args.self.now.store c.args.id ≡ Some c.in-Err-Denied.field-0-0 = ap (lapse_denial c.args.self.now.store) (sym (to_z-of_z w64 c.args.id c.ranges.id)) ∙ first in
    let none : lapse c.args.self.now.store c.args.id ≡ None = ap (lapse c.args.self.now.store) (sym (to_z-of_z w64 c.args.id c.ranges.id)) ∙ c.in-Err-Denied.ensures.denied c.in-Err-Denied.field-0-0 (cc) in
    record {
      lapses = subst (λ (s : Store). s ≡ lapsed c.args.self.now.store c.args.id) same (undone c.args.self.now.store c.args.id none);
      settles = subst (λ (s : Store). IsSettled s c.args.id) same (denied_settles c.args.self.now.store c.args.id c.in-Err-Denied.field-0-0 named);
      refused = tt;
      stays = λ i h. subst (λ (s : Store). IsSettled s i) same h;
      terms = refl;
      began = refl;
      history = as_long _ _ refl;
    }
