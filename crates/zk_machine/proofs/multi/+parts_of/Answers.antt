use Rattle.std.proofs.Common.{◌≡◌, ℕ, ℤ, ◌∷◌, ◌≤◌, List, drop, ap, sym, subst, ◌∙◌, arith}
use Rattle.std.proofs.lemmas.Grind.{common_steps}
use Rattle.std.proofs.lemmas.Int.{to_z-of_z}
use Rattle.std.specs.Option.{option_to_list}
use Rattle.zk_model.specs.declared.request.Part.{Part}
use Rattle.zk_model.specs.Limits.{max_frame}
use Rattle.zk_model.specs.Multi.{Parts, data_len, parts_of, then_parts, touched_by}
use Rattle.zk_model.specs.Single.{Done, single}
use Rattle.zk_model.specs.Znodes.{Tree}
use Rattle.zk_machine.specs.declared.write.Write.{Write}
use Rattle.zk_machine.specs.Outcomes.{parts_as, outcome_of}
use Rattle.zk_machine.specs.Faults.{BeyondUnless, IsWithin, StaysWithin}
use Rattle.zk_machine.specs.Writes.{AreTold, written_all}
use Rattle.zk_machine.proofs.FaultLaws.{beyond-weaker}
use Rattle.zk_machine.proofs.MultiLaws.{first_and_rest, rest_all, stays-first, stays-rest}
use Rattle.zk_model.proofs.PartLaws.{parts_of-done}
use Rattle.zk_machine.proofs.multi.+parts_of.Goals as goal

pub after-requires : goal.after-requires
after-requires t c = subst (λ (ws : List Write). AreTold c.args.tree.now ws) (sym c.deref.ensures.value) c.requires

pub after-requires-in-Done : goal.after-requires-in-Done
after-requires-in-Done t c = subst (λ (ws : List Write). AreTold c.args.tree.now ws) (sym c.deref-in-Done.ensures.value) c.requires

pub returns-in_ok-passed_on-in-Done-clause-ok : goal.returns-in_ok-passed_on-in-Done-clause-ok
returns-in_ok-passed_on-in-Done-clause-ok t c =
    let before : Tree = written_all c.args.tree.now c.args.writes.items in
    let next : Tree = written_all c.args.tree.now c.in_ok-next-in-Done.next.items in
    let limit : ℕ = c.args.turn.now.limit in
    let session : ℤ = c.args.turn.now.session in
    let zxid : ℤ = c.args.turn.now.zxid in
    let time : ℕ = c.args.turn.now.time in
    let first : Part = c.first-item.result in
    let split : c.args.parts.now ≡ first ∷ drop 1 c.args.parts.now = first_and_rest _ _ c.in-len1-up.len_at_least c.first-item.is in
    let same : c.after.result ≡ before = c.after.ensures ∙ ap (written_all c.args.tree.now) c.deref.ensures.value in
    let same_later : c.after-in-Done.result ≡ before = c.after-in-Done.ensures ∙ ap (written_all c.args.tree.now) c.deref-in-Done.ensures.value in
    let done : single before limit session first zxid time ≡ Done c.in-Done.outcome next c.in-Done.triggers =
    subst (λ (x : Tree). single x limit session first zxid time ≡ outcome_of x c.in_ok-code-in-len1-up.field-0) same (sym c.in_ok-code-in-len1-up.ensures.ok)
    ∙ ap (outcome_of before) c.in-Done.is ∙ ap (λ (u : Tree). Done c.in-Done.outcome u c.in-Done.triggers) (sym c.in_ok-next-in-Done.ensures.made) in
    let told : option_to_list c.touched_by-touched.result ≡ touched_by c.after-in-Done.result session first = grind (arith, to_z-of_z) in
    let touched : option_to_list c.touched_by-touched.result ≡ touched_by before session first = told ∙ ap (λ (x : Tree). touched_by x session first) same_later in
    let later : parts_as c.args.tree.now c.in_ok-later-in-Done.later ≡ parts_of next limit session (drop 1 c.args.parts.now) zxid time =
    c.in_ok-later-in-Done.ensures.ok ∙ ap (λ (ps : List Part). parts_of next limit session ps zxid time) (rest_all c.args.parts.now) in
    c.in_ok-passed_on-in-Done.ensures c.args.tree.now
    ∙ ap (λ (s : List ℤ). then_parts c.in-Done.outcome c.in-Done.triggers s (parts_as c.args.tree.now c.in_ok-later-in-Done.later)) touched
    ∙ ap (λ (x : Parts). then_parts c.in-Done.outcome c.in-Done.triggers (touched_by before session first) x) later
    ∙ sym (parts_of-done before next limit session first (drop 1 c.args.parts.now) zxid time c.in-Done.outcome c.in-Done.triggers done)
    ∙ ap (λ (ps : List Part). parts_of before limit session ps zxid time) (sym split)

pub returns-in_err-code-in-len1-up-clause-beyond : goal.returns-in_err-code-in-len1-up-clause-beyond
returns-in_err-code-in-len1-up-clause-beyond t c =
    let before : Tree = written_all c.args.tree.now c.args.writes.items in
    let first : Part = c.first-item.result in
    let split : c.args.parts.now ≡ first ∷ drop 1 c.args.parts.now = first_and_rest _ _ c.in-len1-up.len_at_least c.first-item.is in
    let same : c.after.result ≡ before = c.after.ensures ∙ ap (written_all c.args.tree.now) c.deref.ensures.value in
    let beyond = subst (λ (x : Tree). BeyondUnless (IsWithin x × (data_len first ≤ max_frame)) c.in_err-code-in-len1-up.field-0.0) same c.in_err-code-in-len1-up.ensures.beyond in
    let weaker = beyond-weaker _ _ c.in_err-code-in-len1-up.field-0.0
    (stays-first before c.args.turn.now.limit c.args.turn.now.session first (drop 1 c.args.parts.now) c.args.parts.now c.args.turn.now.zxid c.args.turn.now.time split) beyond in
    grind (arith, common_steps)

pub returns-in_err-later-in-Done-clause-beyond : goal.returns-in_err-later-in-Done-clause-beyond
returns-in_err-later-in-Done-clause-beyond t c =
    let before : Tree = written_all c.args.tree.now c.args.writes.items in
    let next : Tree = written_all c.args.tree.now c.in_ok-next-in-Done.next.items in
    let limit : ℕ = c.args.turn.now.limit in
    let session : ℤ = c.args.turn.now.session in
    let zxid : ℤ = c.args.turn.now.zxid in
    let time : ℕ = c.args.turn.now.time in
    let first : Part = c.first-item.result in
    let split : c.args.parts.now ≡ first ∷ drop 1 c.args.parts.now = first_and_rest _ _ c.in-len1-up.len_at_least c.first-item.is in
    let same : c.after.result ≡ before = c.after.ensures ∙ ap (written_all c.args.tree.now) c.deref.ensures.value in
    let done : single before limit session first zxid time ≡ Done c.in-Done.outcome next c.in-Done.triggers =
    subst (λ (x : Tree). single x limit session first zxid time ≡ outcome_of x c.in_ok-code-in-len1-up.field-0) same (sym c.in_ok-code-in-len1-up.ensures.ok)
    ∙ ap (outcome_of before) c.in-Done.is ∙ ap (λ (u : Tree). Done c.in-Done.outcome u c.in-Done.triggers) (sym c.in_ok-next-in-Done.ensures.made) in
    let rest = subst (λ (ps : List Part). BeyondUnless (StaysWithin next limit session ps zxid time) c.in_err-later-in-Done.field-0.0) (rest_all c.args.parts.now) c.in_err-later-in-Done.ensures.beyond in
    let weaker = beyond-weaker _ _ c.in_err-later-in-Done.field-0.0
    (stays-rest before next limit session first (drop 1 c.args.parts.now) c.args.parts.now zxid time c.in-Done.outcome c.in-Done.triggers split done) rest in
    grind (arith, common_steps)
