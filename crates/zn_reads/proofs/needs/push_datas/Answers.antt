use Rattle.std.proofs.Common.{◌≡◌, ◌∙◌, ap, sym, arith, get_or}
use Rattle.zx_base.specs.Maps.{Bytes}
use Rattle.zn_reads.proofs.WatchKeys.{datas-more}
use Rattle.zn_reads.proofs.needs.push_datas.Goals as goal

pub loop-text-preserved : goal.loop-text-preserved
loop-text-preserved c =
    let texts = c.args.texts.now in
    let i = c.loop-text.text-index in
    let item : c.as_slice.result.now ≡ c.text-item.result = c.as_slice.ensures in
    let is : c.as_slice.result.now ≡ get_or texts i c.as_slice.result.now = item ∙ c.text-item.is ∙ ap (λ (d : Bytes). get_or texts i d) (sym item) in
    datas-more c.args.keys.now.items c.loop-text.keys.items c.push_valid_data.new.keys.items texts i c.as_slice.result.now (omega arith) is c.loop-text.invariant (c.in_ok-push_valid_data.ensures)
