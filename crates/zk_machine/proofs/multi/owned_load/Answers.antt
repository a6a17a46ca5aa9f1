use Rattle.std.proofs.Common.{◌≡◌, ap, ◌∙◌, ℕ, ◌+◌, ◌∷◌, [], List, take, get_or, length, arith, pos, ℤ}
use Rattle.std.proofs.lemmas.Int.{to_z-of_z}
use Rattle.std.proofs.lemmas.List.{take_more}
use Rattle.std.proofs.lemmas.List.Sums.{sum_by-append}
use Rattle.std.specs.Prelude.{sum_by}
use Rattle.zk_model.specs.Znodes.{owned}
use Rattle.zk_model.specs.Loads.{within}
use Rattle.zk_machine.proofs.multi.owned_load.Goals as goal

pub loop-session-preserved : goal.loop-session-preserved
loop-session-preserved c = λ n before.
    let each : ℤ → ℕ = λ s. sum_by length (owned c.args.tree.now s) in
    let so_far : ℕ = sum_by each (take c.loop-session.session-index c.args.sessions.now) in
    let session : ℤ = get_or c.args.sessions.now c.loop-session.session-index (pos 0) in
    let paths : c.deref.result.now ≡ owned c.args.tree.now session = grind (arith, to_z-of_z) in
    let more : sum_by each (take (c.loop-session.session-index + 1) c.args.sessions.now) ≡ so_far + (0 + each session) =
    ap (sum_by each) (take_more c.args.sessions.now c.loop-session.session-index (pos 0) c.loop-session-test.true)
    ∙ sum_by-append each (take c.loop-session.session-index c.args.sessions.now) (session ∷ []) in
    let here : sum_by length c.deref.result.now ≡ each session = ap (λ (x : List (List ℕ)). sum_by length x) paths in
    let sums : n + so_far + sum_by length c.deref.result.now ≡ n + sum_by each (take (c.loop-session.session-index + 1) c.args.sessions.now) = omega (arith, more, here) in
    c.path_load-sum.ensures (n + so_far) (c.loop-session.invariant n before) ∙ ap within sums
