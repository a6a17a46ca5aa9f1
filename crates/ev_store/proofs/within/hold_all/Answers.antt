use Rattle.std.proofs.Common.{◌≡◌, List, ◌∷◌, sym, ap, ◌∙◌, subst}
use Rattle.std.specs.BTreeMap as tree
use Rattle.std.specs.List.{All}
use Rattle.std.specs.Map.Iter.{deref_pair}
use Rattle.std.specs.Ordering.{nat_cmp}
use Rattle.std.specs.Cmp.Lexicographic.{slice_cmp}
use Rattle.std.proofs.lemmas.Map.Iter.{rest_more}
use Rattle.std.proofs.lemmas.List.Elements.{All-head, All-tail}
use Rattle.zx_base.specs.Maps.{Bytes}
use Rattle.ev_store.specs.declared.versions.Version.{Version}
use Rattle.ev_store.specs.Versions.{all_taken, AreInOrder}
use Rattle.ev_store.proofs.within.hold_all.Goals as goal

pub hold_at-requires : goal.hold_at-requires
hold_at-requires c =
    let e : Bytes × List Version = (c.in-Some.key.now, c.in-Some.of_key.now) in
    let first : c.loop-key.key-iterator ≡ e ∷ c.next.new.self = rest_more deref_pair _ _ _ (c.in-Some.key, c.in-Some.of_key) c.in-Some.is c.next.ensures.steps in
    All-head (λ (x : Bytes × List Version). AreInOrder x.1) e c.next.new.self (subst (All (λ (x : Bytes × List Version). AreInOrder x.1)) first c.loop-key.invariant.ordered)

pub loop-key-preserved : goal.loop-key-preserved
loop-key-preserved c =
    let e : Bytes × List Version = (c.in-Some.key.now, c.in-Some.of_key.now) in
    let r = c.args.revision in
    let first : c.loop-key.key-iterator ≡ e ∷ c.next.new.self = rest_more deref_pair _ _ _ (c.in-Some.key, c.in-Some.of_key) c.in-Some.is c.next.ensures.steps in
    record {
      ordered = All-tail (λ (x : Bytes × List Version). AreInOrder x.1) e c.next.new.self (subst (All (λ (x : Bytes × List Version). AreInOrder x.1)) first c.loop-key.invariant.ordered);
      held = λ q.
          ap (λ o. all_taken r q o c.next.new.self) (c.in_ok-hold_at.ensures q)
          ∙ ap (all_taken r q (tree.get (slice_cmp nat_cmp) c.loop-key.held q)) (sym first)
          ∙ c.loop-key.invariant.held q;
    }
