use Rattle.std.proofs.Common.{◌∙◌, sym, ap, subst}
use Rattle.std.proofs.lemmas.Result.{IfOk-weaker}
use Rattle.zx_base.specs.Maps.{Bytes}
use Rattle.zk_model.specs.declared.request.Request.{Request}
use Rattle.zk_model.specs.declared.request.Request.TheVariants as req
use Rattle.zn_reads.specs.Deciding.{IsReadDecision}
use Rattle.zn_reads.proofs.Remaining.{remaining-read}
use Rattle.zn_reads.proofs.decide.decide_read.Goals as goal

pub returns-in-Sync : goal.returns-in-Sync
returns-in-Sync c =
    IfOk-weaker c.sync.result _ _ (λ d h. subst (λ (r : Request). IsReadDecision r c.args.view.now d) (ap (λ (p : Bytes). req.Sync p) c.as_slice-in-Sync.ensures ∙ sym c.in-Sync.is) (h c.args.view.now)) c.sync.ensures

pub returns-in_default : goal.returns-in_default
returns-in_default c = remaining-read c.args.request.now c.args.view.now c.set_watches.result c.requires (record {
  exists = c.in_default.not-Exists;
  get_data = c.in_default.not-GetData;
  get_acl = c.in_default.not-GetAcl;
  get_children = c.in_default.not-GetChildren;
  get_children2 = c.in_default.not-GetChildren2;
  check = c.in_default.not-Check;
  sync = c.in_default.not-Sync;
}) c.set_watches.ensures
