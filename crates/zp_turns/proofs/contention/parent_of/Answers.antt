use Rattle.std.proofs.Common.{◌≡◌, ◌+◌, ◌-◌, ◌≢◌, ℕ, arith, subst, sym, drop}
use Rattle.std.specs.Prelude.{All}
use Rattle.zp_turns.specs.Parents.{IsParent, slash}
use Rattle.zp_turns.proofs.LastSlash.{cut_first, cut_there}
use Rattle.zp_turns.proofs.contention.parent_of.Goals as goal

pub returns-then-path-place-eq47 : goal.returns-then-path-place-eq47
returns-then-path-place-eq47 c = λ rest e.
    let back : c.loop-place.place ≡ c.loop-place.place - 1 + 1 = omega arith in
    cut_there c.args.path.now (c.loop-place.place - 1) (omega arith) (omega arith) c.if-path-place-eq47.true (subst (λ n. All (λ (b : ℕ). b ≢ slash) (drop n c.args.path.now)) back c.loop-place.invariant)

pub returns : goal.returns
returns c = λ rest e. subst (IsParent c.args.path.now) (sym c.as_slice.ensures) (cut_first c.args.path.now rest c.loop-place.place (omega arith) e c.loop-place.invariant)
