use Rattle.std.proofs.Common.{◌≡◌, sym, ap, ◌∙◌, rules, length}
use Rattle.std.specs.Prelude.{vec_len}
use Rattle.zp_world.proofs.HeadRange.{last-found}
use Rattle.ev_types.specs.Reads.{one_found}
use Rattle.ev_types.specs.declared.answer.RangeAns.{RangeAns}
use Rattle.zp_world.proofs.head.found_in.Goals as goal

pub returns-in-Range : goal.returns-in-Range
returns-in-Range c = λ rev o e.
    let found : c.in-Range.found ≡ one_found o = (let f = sym c.in-Range.is ∙ e in cc) in
    let size : vec_len c.into_vec-kvs.result ≡ length c.into_vec-kvs.result.items = search rules in
    last-found o c.pop.new.self.items c.into_vec-kvs.result.items c.pop.result (vec_len c.into_vec-kvs.result) (c.into_vec-kvs.ensures ∙ ap (λ (r : RangeAns). r.kvs) found) size c.pop.ensures.variant c.pop.ensures.items

pub returns-in-Txn : goal.returns-in-Txn
returns-in-Txn c = λ rev o e. absurd (let f = sym c.in-Txn.is ∙ e in cc)

pub returns-in-Granted : goal.returns-in-Granted
returns-in-Granted c = λ rev o e. absurd (let f = sym c.in-Granted.is ∙ e in cc)
