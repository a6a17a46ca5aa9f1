use Rattle.std.proofs.Common.{◌≡◌, ◌∙◌, ◌<◌, ◌≤◌, rules, length, get_or, vec_len, arith}
use Rattle.ev_shared.proofs.Replaying.{longer_still}
use Rattle.ev_shared.proofs.Sweeping.{one_more, all_done, swept_on, swept_all}
use Rattle.ev_shared.proofs.kept.Kept.lapse_each.Goals as goal

pub terms-preserved : goal.terms-preserved
terms-preserved c =
    let xs = c.args.self.now.terms.items in
    let x = c.index-term.result.now in
    let read : x ≡ get_or c.terms.self.terms.items c.terms.index x = search (rules, c.index-term.ensures) in
    let is : x ≡ get_or xs c.terms.index x = cc (read, c.terms.invariant.same) in
    let here : vec_len c.terms.self.terms ≡ length xs = cc c.terms.invariant.same in
    let there : vec_len c.lapse_due.new.self.terms ≡ vec_len c.terms.self.terms = cc c.lapse_due.ensures.terms in
    let lt : c.terms.index < length xs = omega arith in
    record {
      same = c.lapse_due.ensures.terms ∙ c.terms.invariant.same;
      within = omega arith;
      swept = swept_on c.args.now c.args.self.now.store c.terms.self.store c.lapse_due.new.self.store xs c.terms.index x lt is c.terms.invariant.swept c.in_ok-lapse_due.ensures.swept;
      began = c.lapse_due.ensures.began ∙ c.terms.invariant.began;
      history = longer_still _ _ _ c.terms.invariant.history c.lapse_due.ensures.history;
      lapses = one_more c.args.now c.terms.self.store c.lapse_due.new.self.store xs c.terms.index x lt is c.terms.invariant.lapses c.lapse_due.ensures.stays c.in_ok-lapse_due.ensures.lapses;
    }

pub returns-clause-lapses : goal.returns-clause-lapses
returns-clause-lapses c =
    let xs = c.args.self.now.terms.items in
    let here : vec_len c.terms.self.terms ≡ length xs = cc c.terms.invariant.same in
    let le : length xs ≤ c.terms.index = omega arith in
    all_done c.args.now c.terms.self.store xs c.terms.index le c.terms.invariant.lapses

pub returns-clause-swept : goal.returns-clause-swept
returns-clause-swept c =
    let xs = c.args.self.now.terms.items in
    let here : vec_len c.terms.self.terms ≡ length xs = cc c.terms.invariant.same in
    let le : length xs ≤ c.terms.index = omega arith in
    swept_all c.args.now c.args.self.now.store c.terms.self.store xs c.terms.index le c.terms.invariant.swept
