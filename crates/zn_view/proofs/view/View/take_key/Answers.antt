use Rattle.std.proofs.Common.{◌∙◌, sym, subst, Option, IfSome}
use Rattle.ev_types.specs.declared.answer.Kv.{Kv}
use Rattle.zx_base.specs.Maps.{Bytes}
use Rattle.zn_view.specs.Seen.{IsFound, IsRecord}
use Rattle.zn_view.proofs.Added.{kept-found}
use Rattle.zn_view.proofs.view.View.take_key.Goals as goal

pub push_key-requires : goal.push_key-requires
push_key-requires c =
    let found = c.in_ok-found.found in
    let kept = subst (λ (o : Option Kv). IfSome o IsRecord) (sym c.in_ok-found.ensures.ok) c.in_ok-found.ensures.kept in
    subst (λ (k : Bytes). IfSome found (IsFound k)) (sym c.in_ok-key.ensures)
    (kept-found c.args.key.now c.args.kvs.now found (c.in_ok-found.ensures.ok ∙ c.kept_under.ensures) c.requires kept)
