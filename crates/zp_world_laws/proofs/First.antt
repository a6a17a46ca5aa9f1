-- The world before anything happened is whole.
use Rattle.std.proofs.Common.{◌≡◌, ℕ, zero, suc, ◌≤◌, [], length, refl, sym, ap, ◌∙◌, subst, arith, true, pos}
use Rattle.std.specs.Prelude.{Some, None, int_le}
use Rattle.std.specs.FinMap.{get-empty}
use Rattle.std.specs.Ordering.{nat_cmp}
use Rattle.std.proofs.lemmas.Bool.Decides.{nat_tests}
use Rattle.std.proofs.lemmas.Int.{ints}
use Rattle.ev_types.specs.Store.{Store, present, revision, store_at}
use Rattle.ev_types.specs.declared.answer.Answer.{Answer}
use Rattle.zk_transcript.specs.Conversations.{IsShownFresh}
use Rattle.zk_transcript.specs.History.{after}
use Rattle.zk_transcript.specs.Legal.{is_legal, is_ordered, may_update}
use Rattle.zn_layout.proofs.FirstUpdate.{begin_stands}
use Rattle.zk_transcript.specs.History.{begin_lines}
use Rattle.zn_layout.specs.StandsFor.{StandsFor}
use Rattle.zp_script.specs.Runs.{IsFirst, world_over}
use Rattle.zp_script.specs.Worlds.{World, conn_at}
use Rattle.zp_script.specs.declared.flight.Asking.{Asking}
use Rattle.zx_base.proofs.Options.{none_some, some_is}
use Rattle.zp_world_laws.proofs.Moments.{newer}
use Rattle.zp_world_laws.specs.Connections.{Whole}
use Rattle.zp_world_laws.specs.Holding.{Left, Of, Source, air, out_of}
use Rattle.zp_world_laws.specs.Serving.{StoreServes}
use Rattle.zk_transcript.proofs.Begins.{after-begin}

first-legal : is_legal (begin_lines 0) ≡ true
unfolding is_legal may_update
first-legal = refl

first-ordered : is_ordered (begin_lines 0) ≡ true
unfolding is_ordered
first-ordered = refl

reached : (r : ℕ) → 2 ≤ r → int_le (pos 2) (pos r) ≡ true
reached r h = grind (arith, nat_tests, ints)

first-serves : (s : Store) → revision s ≡ pos 2 → StandsFor (present s) (after (begin_lines 0)) → StoreServes s (begin_lines 0)
first-serves s rev stands =
    let two : length s.revisions ≡ 2 = omega (arith, ints, rev) in
    record {
      legal = first-legal;
      ordered = first-ordered;
      begun = omega (arith, two);
      stands = λ r lo hi. (let e : r ≡ length s.revisions = omega (arith, lo, hi, two) in
          subst (StandsFor (store_at s r)) (sym (newer [] _ r (reached r lo))) (subst (λ n. StandsFor (store_at s n) (after (begin_lines 0))) (sym e) stands));
      settled = λ r h. newer [] _ r (reached r (omega (arith, h, two)));
    }

no-conn : (s : Store) (c : ℕ) → conn_at c (world_over s) ≡ None
no-conn s c = get-empty nat_cmp c

first-shown : IsShownFresh (begin_lines 0)
first-shown zero c i z bytes h = absurd (cc)
first-shown (suc k) c i z bytes h = absurd (none_some h)

pub no-air : (s : Store) (o : Source) (x : Asking) → air (world_over s) o ≡ Some x → ⊥
no-air s (Of c) x e = none_some (sym (ap out_of (no-conn s c)) ∙ e)
no-air s (Left zero) x e = none_some e
no-air s (Left (suc k)) x e = none_some e

over-whole : (s : Store) → StoreServes s (begin_lines 0) → Whole (world_over s)
over-whole s serves = record {
  holds = record {
    serves = serves;
    fresh = first-shown;
    bound = λ o x e. absurd (no-air s o x e);
    alone = λ a b x y c ea eb ca cb. absurd (no-air s a x ea);
    spoken = λ c k a e. absurd (none_some e);
  };
  serving = λ c x core e a t. absurd (none_some (sym (no-conn s c) ∙ e));
  unshut = λ c x core e a. absurd (none_some (sym (no-conn s c) ∙ e));
  own = λ c d x a e f r. absurd (none_some (sym (no-conn s c) ∙ e));
  left = λ k c a e r. absurd (no-air s (Left k) a e);
  small = λ c i bytes e. absurd (none_some e);
}

pub first-whole : (w : World) → IsFirst w → Whole w
first-whole w (s, a, e, is) =
    let b = begin_stands 0 (omega arith) in
    let same : b.new ≡ s = ap (λ (x : Store × Answer). x.0) (some_is (sym b.carried ∙ e)) in
    subst Whole (sym is) (over-whole s (first-serves s (ap revision (sym same) ∙ b.revision_is) (subst (λ (t : Store). StandsFor (present t) (after (begin_lines 0))) same (subst (StandsFor (present b.new)) (sym (after-begin 0)) b.stands))))
