use Rattle.std.proofs.Common.{rules, ◌≡◌, true}
use Rattle.std.proofs.lemmas.Result.{IfOk-weaker}
use Rattle.zx_base.specs.Maps.{same}
use Rattle.zn_layout.specs.Keys.{HeadKey, key_bytes}
use Rattle.zn_view.proofs.KeptActs.{head-told}
use Rattle.zn_view.proofs.keep.is_head_kept.Goals as goal

pub returns : goal.returns
returns c =
    let at : same (c.args.head.now).key (key_bytes HeadKey) ≡ true = search rules in
    IfOk-weaker c.is_found.result _ _ (λ b h. head-told c.args.head.now at _ h) c.is_found.ensures
