use Rattle.std.proofs.Common.{arith, ap, sym, ◌∙◌}
use Rattle.zk_history.specs.Shown.{attach_mark, close_mark, frame_mark, open_mark, own_mark, update_zxid}
use Rattle.zk_history.proofs.Looking.{firsts-advanced}
use Rattle.zk_history.proofs.Updates.{updates-advanced}
use Rattle.zk_history.proofs.past.Past.advanced.Goals as goal

pub invariant_of-result : goal.invariant_of-result
invariant_of-result c = record {
  within = omega (arith, c.requires);
  opens_stand = firsts-advanced open_mark c.args.self.all.now c.args.self.len c.index-self-self.result c.open_mark.result c.args.self.opens c.in_ok-noted.field-0 c.requires c.index-self-self.is (c.open_mark.ensures ∙ ap open_mark (sym c.index-self-self.is))
      c.args.self.opens_stand c.in_ok-noted.ensures;
  frames_stand = firsts-advanced frame_mark c.args.self.all.now c.args.self.len c.index-self-self.result c.frame_mark.result c.args.self.frames c.in_ok-noted-2.field-0 c.requires c.index-self-self.is (c.frame_mark.ensures ∙ ap frame_mark (sym c.index-self-self.is))
      c.args.self.frames_stand c.in_ok-noted-2.ensures;
  closes_stand = firsts-advanced close_mark c.args.self.all.now c.args.self.len c.index-self-self.result c.close_mark.result c.args.self.closes c.in_ok-noted-3.field-0 c.requires c.index-self-self.is (c.close_mark.ensures ∙ ap close_mark (sym c.index-self-self.is))
      c.args.self.closes_stand c.in_ok-noted-3.ensures;
  attachments_stand = firsts-advanced attach_mark c.args.self.all.now c.args.self.len c.index-self-self.result c.attach_mark.result c.args.self.attachments c.in_ok-noted-4.field-0 c.requires c.index-self-self.is (c.attach_mark.ensures ∙ ap attach_mark (sym c.index-self-self.is))
      c.args.self.attachments_stand c.in_ok-noted-4.ensures;
  owns_stand = firsts-advanced own_mark c.args.self.all.now c.args.self.len c.index-self-self.result c.own_mark.result c.args.self.owns c.in_ok-noted-5.field-0 c.requires c.index-self-self.is (c.own_mark.ensures ∙ ap own_mark (sym c.index-self-self.is))
      c.args.self.owns_stand c.in_ok-noted-5.ensures;
  updates_stand = updates-advanced c.args.self.all.now c.args.self.len c.index-self-self.result c.update_zxid.result c.args.self.updates c.in_ok-noted-6.field-0 c.requires c.index-self-self.is (c.update_zxid.ensures ∙ ap update_zxid (sym c.index-self-self.is))
      c.args.self.updates_stand c.in_ok-noted-6.ensures;
}
