-- The round is read at out of its box, and a transaction that reads is answered the same whether it succeeded or not.
use Rattle.std.proofs.Common.{◌≡◌, ℤ, List, of_z, rules, subst, sym, to_z, true, w64}
use Rattle.std.specs.Prelude.{IfOk}
use Rattle.ev_types.specs.declared.answer.ActAns.{ActAns}
use Rattle.ev_types.specs.declared.answer.Answer.{Answer}
use Rattle.ev_types.specs.declared.answer.Answer.TheVariants as answers
use Rattle.zp_step.specs.Plans.{ReadOn}
use Rattle.zp_core.specs.Meanings.{Leads, ready}
use Rattle.zp_core.specs.declared.stage.Task.{Task}
use Rattle.zp_core.proofs.rounds.read_on.Goals as goal

pub returns : goal.returns
returns c =
    let core = ready c.args.client.now in
    let t = c.into_inner.result in
    let r = c.args.round.value in
    let z = c.in-Txn.revision in
    let new = c.read_at.new.client in
    let coded : to_z w64 (of_z w64 z) ≡ z = search rules in
    let read = subst (λ (n : ℤ). IfOk c.read_at.result (Leads (λ d out. ReadOn core t.xid t.request t.view t.asked c.args.now d out (answers.Txn n true c.as_slice.result.now)) new)) coded c.read_at.ensures in
    let found = subst (λ (parts : List ActAns). IfOk c.read_at.result (Leads (λ d out. ReadOn core t.xid t.request t.view t.asked c.args.now d out (answers.Txn z true parts)) new)) c.as_slice.ensures read in
    let unboxed = subst (λ (x : Task). IfOk c.read_at.result (Leads (λ d out. ReadOn core x.xid x.request x.view x.asked c.args.now d out (answers.Txn z true c.in-Txn.parts)) new)) c.into_inner.ensures found in
    subst (λ (a : Answer). IfOk c.read_at.result (Leads (λ d out. ReadOn core r.xid r.request r.view r.asked c.args.now d out a) new)) (sym c.in-Txn.is) unboxed
