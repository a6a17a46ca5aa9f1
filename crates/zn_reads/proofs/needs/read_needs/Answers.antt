use Rattle.std.proofs.Common.{◌∙◌, sym, ap, subst}
use Rattle.std.proofs.lemmas.Result.{IfOk-weaker}
use Rattle.zx_base.specs.Maps.{Bytes}
use Rattle.zk_model.specs.declared.request.Request.{Request}
use Rattle.zk_model.specs.declared.request.Request.TheVariants as req
use Rattle.zn_view.specs.Needs.{AreNeeds}
use Rattle.zn_reads.proofs.Needed.{exists-needed, get_data-needed, get_acl-needed, check-needed, sync-needed}
use Rattle.zn_reads.proofs.Remaining.{remaining-none}
use Rattle.zn_reads.proofs.needs.read_needs.Goals as goal

pub returns-in-Exists : goal.returns-in-Exists
returns-in-Exists c = IfOk-weaker c.about_needs.result _ _ (λ ws h.
    subst (λ (r : Request). AreNeeds r c.args.who c.args.view.now ws.items) (ap (λ (p : Bytes). req.Exists p c.in-Exists.watch) c.as_slice.ensures ∙ sym c.in-Exists.is)
    (exists-needed c.as_slice.result.now c.in-Exists.watch c.args.who c.args.view.now ws.items h)) c.about_needs.ensures

pub returns-in-GetData : goal.returns-in-GetData
returns-in-GetData c = IfOk-weaker c.about_needs-in-GetData.result _ _ (λ ws h.
    subst (λ (r : Request). AreNeeds r c.args.who c.args.view.now ws.items) (ap (λ (p : Bytes). req.GetData p c.in-GetData.watch) c.as_slice-in-GetData.ensures ∙ sym c.in-GetData.is)
    (get_data-needed c.as_slice-in-GetData.result.now c.in-GetData.watch c.args.who c.args.view.now ws.items h)) c.about_needs-in-GetData.ensures

pub returns-in-GetAcl : goal.returns-in-GetAcl
returns-in-GetAcl c = IfOk-weaker c.about_needs-in-GetAcl.result _ _ (λ ws h.
    subst (λ (r : Request). AreNeeds r c.args.who c.args.view.now ws.items) (ap (λ (p : Bytes). req.GetAcl p) c.as_slice-in-GetAcl.ensures ∙ sym c.in-GetAcl.is)
    (get_acl-needed c.as_slice-in-GetAcl.result.now c.args.who c.args.view.now ws.items h)) c.about_needs-in-GetAcl.ensures

pub returns-in-Check : goal.returns-in-Check
returns-in-Check c = IfOk-weaker c.check_needs.result _ _ (λ ws h.
    subst (λ (r : Request). AreNeeds r c.args.who c.args.view.now ws.items) (ap (λ (p : Bytes). req.Check p c.in-Check.version) c.as_slice-in-Check.ensures ∙ sym c.in-Check.is)
    (check-needed c.as_slice-in-Check.result.now c.in-Check.version c.args.who c.args.view.now ws.items h)) c.check_needs.ensures

pub returns-in-Sync : goal.returns-in-Sync
returns-in-Sync c = IfOk-weaker c.sync_needs.result _ _ (λ ws h.
    subst (λ (r : Request). AreNeeds r c.args.who c.args.view.now ws.items) (ap (λ (p : Bytes). req.Sync p) c.as_slice-in-Sync.ensures ∙ sym c.in-Sync.is)
    (sync-needed c.as_slice-in-Sync.result.now c.args.who c.args.view.now ws.items h)) c.sync_needs.ensures

pub returns-in_default : goal.returns-in_default
returns-in_default c = absurd (remaining-none c.args.request.now c.requires.kind (record {
  exists = c.in_default.not-Exists;
  get_data = c.in_default.not-GetData;
  get_acl = c.in_default.not-GetAcl;
  get_children = c.in_default.not-GetChildren;
  get_children2 = c.in_default.not-GetChildren2;
  check = c.in_default.not-Check;
  sync = c.in_default.not-Sync;
}) c.in_default.not-SetWatches)
