-- The stat is the update's.
use Rattle.std.proofs.Common.{ℤ, ◌∙◌, sym, ap, rules, w64}
use Rattle.std.proofs.lemmas.Int.{to_z-of_z}
use mir.Val.{SFits}
use Rattle.zk_model.specs.declared.reply.PartResult.TheVariants.{Set}
use Rattle.zn_view.specs.Needs.{own_stat, own_result}
use Rattle.zn_updates.proofs.draft.own_result.Goals as goal

pub returns-in-Set : goal.returns-in-Set
returns-in-Set c =
    let fits : SFits w64 c.args.zxid = search rules in
    ap Set (c.own_stat.ensures ∙ ap (λ (z : ℤ). own_stat z c.in-Set.stat) (to_z-of_z w64 _ fits)) ∙ sym (ap (own_result c.args.zxid) c.in-Set.is)
