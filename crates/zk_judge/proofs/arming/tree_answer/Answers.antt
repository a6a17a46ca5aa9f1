use Rattle.std.proofs.Common.{◌≡◌, Some, ap, sym, ◌∙◌}
use Rattle.std.specs.Prelude.{option_map}
use Rattle.zk_model.specs.Watches.{Watches, no_watches}
use Rattle.zk_service.specs.States.{session_at}
use Rattle.zk_service.specs.Answers.{Told, owned_limit_in, tree_reply}
use Rattle.zk_answers.specs.Outcomes.{told_of}
use Rattle.zk_judge.specs.Arming.{with_armed}
use Rattle.zk_judge.proofs.ArmedReads.{tree-arms}
use Rattle.zk_judge.proofs.arming.tree_answer.Goals as goal

pub returns-in_ok-with_watches-in-Some : goal.returns-in_ok-with_watches-in-Some
returns-in_ok-with_watches-in-Some c =
    let t = c.args.state.now.tree in
    let r = c.args.request.now in
    let limit = owned_limit_in (session_at c.args.party.session c.args.state.now) in
    let told : Some (told_of c.in-Some.told) ≡ tree_reply t limit c.args.party.session no_watches r =
    sym (ap (option_map told_of) c.in-Some.is) ∙ c.in_ok-told.ensures ∙ ap (λ (w : Watches). tree_reply t limit c.args.party.session w r) c.new.ensures in
    ap (λ (x : Told). Some x) c.in_ok-with_watches-in-Some.ensures
    ∙ ap (option_map (with_armed r c.args.watches)) told
    ∙ tree-arms t limit c.args.party.session c.args.watches r cc

pub returns-in-None : goal.returns-in-None
returns-in-None c =
    let t = c.args.state.now.tree in
    let r = c.args.request.now in
    let limit = owned_limit_in (session_at c.args.party.session c.args.state.now) in
    ap (λ o. option_map (with_armed r c.args.watches) (option_map told_of o)) (sym c.in-None.is)
    ∙ ap (option_map (with_armed r c.args.watches)) (c.in_ok-told.ensures ∙ ap (λ (w : Watches). tree_reply t limit c.args.party.session w r) c.new.ensures)
    ∙ tree-arms t limit c.args.party.session c.args.watches r cc
