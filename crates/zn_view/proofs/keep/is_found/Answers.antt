use Rattle.std.proofs.Common.{rules}
use Rattle.std.proofs.lemmas.Result.{IfOk-weaker}
use Rattle.zn_view.specs.Seen.{IsCountNumber}
use Rattle.zn_view.proofs.KeptActs.{found-told}
use Rattle.zn_view.proofs.keep.is_found.Goals as goal

pub returns : goal.returns
returns c =
    let revision : IsCountNumber c.args.kv.now.mod_revision = search rules in
    let version : IsCountNumber c.args.kv.now.version = search rules in
    IfOk-weaker c.is_record.result _ _ (λ b h. found-told c.args.kv.now revision version _ h) c.is_record.ensures
