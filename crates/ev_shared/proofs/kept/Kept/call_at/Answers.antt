use Rattle.std.proofs.Common.{All, subst}
use Rattle.ev_types.specs.Store.{Store}
use Rattle.ev_shared.specs.Terms.{LapsesBy, Stay}
use Rattle.ev_shared.proofs.kept.Kept.call_at.Goals as goal

pub returns-clause-carried : goal.returns-clause-carried
returns-clause-carried c = cc (c.in_ok-answer.ensures.carried, c.in_ok-lapse_over.ensures.swept, c.make_room.ensures.store, c.note.ensures.store)

pub returns-clause-over : goal.returns-clause-over
returns-clause-over c = subst (λ (s : Store). All (LapsesBy c.args.now s) c.args.self.now.terms.items) c.in_ok-lapse_over.ensures.swept c.in_ok-lapse_over.ensures.lapses

pub returns-clause-noted : goal.returns-clause-noted
returns-clause-noted c = (
  c.lapse_over.new.self.terms.items,
  subst (λ (s : Store). Stay c.args.now s c.args.self.now.terms.items c.lapse_over.new.self.terms.items) c.in_ok-lapse_over.ensures.swept c.in_ok-lapse_over.ensures.terms,
  cc (c.note.ensures.terms, c.carry_out.ensures.terms, c.make_room.ensures.terms),
)
