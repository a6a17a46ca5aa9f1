use Rattle.std.proofs.Common.{◌≡◌, [], ◌∷◌, true, false, cond, None, sym, ap, ◌∙◌, arith}
use Rattle.std.specs.BTreeMap as tree
use Rattle.std.specs.Ordering.{nat_cmp, is_lt}
use Rattle.std.specs.Cmp.Lexicographic.{slice_cmp}
use Rattle.std.specs.declared.ops.Bound.TheVariants.{Included, Excluded, Unbounded}
use Rattle.std.proofs.lemmas.Result.{IfOk-weaker}
use Rattle.std.proofs.lemmas.Grind.{common_steps}
use Rattle.zx_base.specs.Maps.{same}
use Rattle.ev_store.specs.Versions.{state_at, versions_of}
use Rattle.ev_store.proofs.Ranging.{between-is, in_order-within, within-one, within-open, within-closed, within-none}
use Rattle.ev_store.proofs.within.held_at.Goals as goal

pub returns-then-is : goal.returns-then-is
returns-then-is c =
    let m = c.args.versions.now in
    let q0 = c.args.range.now in
    let one : same q0.end [] ≡ true = sym c.is.ensures ∙ c.if-is.true in
    IfOk-weaker c.hold_one.result _ _ (λ held h q. h q ∙ ap (λ b. cond b (state_at q c.args.revision (versions_of m q)) None) (sym (within-one q0.key q0.end q one))) c.hold_one.ensures

pub hold_all-requires : goal.hold_all-requires
hold_all-requires c = in_order-within (Included c.args.range.now.key) Unbounded c.args.versions.now c.range-from.result (c.range-from.ensures.in_range tt).0 c.requires

pub returns-then-is-2 : goal.returns-then-is-2
returns-then-is-2 c =
    let m = c.args.versions.now in
    let q0 = c.args.range.now in
    let many : same q0.end [] ≡ false = sym c.is.ensures ∙ c.if-is.false in
    let open_end : same q0.end (0 ∷ []) ≡ true = sym c.is-2.ensures ∙ c.if-is-2.true in
    IfOk-weaker c.hold_all.result _ _ (λ held h q.
    h q ∙ between-is c.args.revision q (Included q0.key) Unbounded m c.range-from.result (c.range-from.ensures.between tt) c.len.ensures.ordered
    ∙ ap (λ b. cond b (state_at q c.args.revision (versions_of m q)) None) (within-open q0.key q0.end q many open_end))
    c.hold_all.ensures

pub returns-then-not-is_lt : goal.returns-then-not-is_lt
returns-then-not-is_lt c q =
    let m = c.args.versions.now in
    let q0 = c.args.range.now in
    let many : same q0.end [] ≡ false = sym c.is.ensures ∙ c.if-is.false in
    let closed : same q0.end (0 ∷ []) ≡ false = sym c.is-2.ensures ∙ c.if-is-2.false in
    let empty : is_lt (slice_cmp nat_cmp q0.key q0.end) ≡ false = grind (arith, common_steps) in
    let none : tree.get (slice_cmp nat_cmp) c.new.result q ≡ None = grind (arith, common_steps) in
    none ∙ ap (λ b. cond b (state_at q c.args.revision (versions_of m q)) None) (sym (within-none q0.key q0.end q many closed empty))

pub hold_all-requires-2 : goal.hold_all-requires-2
hold_all-requires-2 c =
    in_order-within (Included c.args.range.now.key) (Excluded c.args.range.now.end) c.args.versions.now c.range-between.result (c.range-between.ensures.in_range tt).0 c.requires

pub returns : goal.returns
returns c =
    let m = c.args.versions.now in
    let q0 = c.args.range.now in
    let many : same q0.end [] ≡ false = sym c.is.ensures ∙ c.if-is.false in
    let closed : same q0.end (0 ∷ []) ≡ false = sym c.is-2.ensures ∙ c.if-is-2.false in
    IfOk-weaker c.hold_all-2.result _ _ (λ held h q.
    h q ∙ between-is c.args.revision q (Included q0.key) (Excluded q0.end) m c.range-between.result (c.range-between.ensures.between tt) c.len.ensures.ordered
    ∙ ap (λ b. cond b (state_at q c.args.revision (versions_of m q)) None) (within-closed q0.key q0.end q many closed))
    c.hold_all-2.ensures
