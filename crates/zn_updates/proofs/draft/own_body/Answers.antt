-- The stat is the update's.
use Rattle.std.proofs.Common.{ℤ, ◌∙◌, sym, ap, rules, w64}
use Rattle.std.proofs.lemmas.Int.{to_z-of_z}
use mir.Val.{SFits}
use Rattle.zk_model.specs.declared.reply.Body.TheVariants.{PathStat, Stat}
use Rattle.zn_view.specs.Needs.{own_stat, own_body}
use Rattle.zn_updates.proofs.draft.own_body.Goals as goal

pub returns-in-Stat : goal.returns-in-Stat
returns-in-Stat c =
    let fits : SFits w64 c.args.zxid = search rules in
    ap Stat (c.own_stat.ensures ∙ ap (λ (z : ℤ). own_stat z c.in-Stat.stat) (to_z-of_z w64 _ fits)) ∙ sym (ap (own_body c.args.zxid) c.in-Stat.is)

pub returns-in-PathStat : goal.returns-in-PathStat
returns-in-PathStat c =
    let fits : SFits w64 c.args.zxid = search rules in
    ap (PathStat c.in-PathStat.path) (c.own_stat-in-PathStat.ensures ∙ ap (λ (z : ℤ). own_stat z c.in-PathStat.stat) (to_z-of_z w64 _ fits)) ∙ sym (ap (own_body c.args.zxid) c.in-PathStat.is)
