-- A list that changes extends what it was, and so the rule is kept.
use Rattle.std.proofs.Common.{◌≡◌, ℕ, ◌≢◌, ◌+◌, Bool, true, false, List, [], ◌∷◌, ◌++◌, Some, is_none, fold, refl, sym, ◌∙◌, ap, subst, ⊎_elim, append_assoc, append-nil, arith}
use mathlib.Core.Option.{some}
use Rattle.std.proofs.lemmas.Int.{int_max_is, ints}
use lib.ListN.{get_elem?}
use Rattle.std.specs.Arc.{arc_value}
use Rattle.left_right.specs.Register.{Admits, TurnsAt}
use Rattle.atomic_table.proofs.Lists.{at_set, at_snoc}
use Rattle.zn_layout.specs.declared.entry.Entry.{Entry}
use Rattle.zw_hub.specs.declared.change.Change.{Change}
use Rattle.zw_hub.specs.declared.change.Change.TheVariants as changes
use Rattle.zw_hub.specs.declared.feed.FeedEnd.{FeedEnd}
use Rattle.zw_hub.specs.declared.published.Published.{Published}
use Rattle.zw_hub.specs.declared.rule.View.{View}
use Rattle.zw_hub.specs.Lists.{Extends, added, closed_by, forgotten_by, is_next, last_number}
use Rattle.zw_hub.specs.ListChanges.{list_after}
use Rattle.zw_hub.specs.Steps.{ExtendsSeen, Keeps, SeesOnce, nothing_seen}

pub extends-same : (list : Published) → Extends list list
extends-same list = record { first = refl; entries = ([], append-nil list.entries); closed = λ _ _. refl; forgets = omega (arith, ints) }

pub extends-later : (c b a : Published) → Extends c b → Extends b a → Extends c a
extends-later c b a up down = record {
  first = up.first ∙ down.first;
  entries = (
    down.entries.0 ++ up.entries.0,
    sym (append_assoc a.entries down.entries.0 up.entries.0) ∙ ap (λ xs. xs ++ up.entries.0) down.entries.1 ∙ up.entries.1,
  );
  closed = λ end is. let same = down.closed end is in up.closed end (ap (λ (l : Published). l.end) same ∙ is) ∙ same;
  forgets = omega (arith, ints, up.forgets, down.forgets);
}

-- a closed list takes no entry
none_next : (list : Published) (entry : Entry) (end : FeedEnd) → is_next list entry ≡ true → list.end ≡ Some end → ⊥
none_next list entry end next is = grind arith

added_by : (list : Published) (entry : Entry) (b : Bool) → is_next list entry ≡ b → Extends (added list entry) list
added_by list entry true is = rw is (record { first = refl; entries = (entry ∷ [], refl); closed = λ end closed. absurd (none_next list entry end is closed); forgets = omega (arith, ints) })
added_by list entry false is = rw is (extends-same list)

pub extends-added : (list : Published) (entry : Entry) → Extends (added list entry) list
extends-added list entry = added_by list entry (is_next list entry) refl

none_open : (list : Published) (end : FeedEnd) → is_none list.end ≡ true → list.end ≡ Some end → ⊥
none_open list end open_is is = grind arith

ended_by : (list : Published) (end : FeedEnd) (b : Bool) → is_none list.end ≡ b → Extends (closed_by list end) list
ended_by list end true is = rw is (record { first = refl; entries = ([], append-nil list.entries); closed = λ other closed. absurd (none_open list other is closed); forgets = omega (arith, ints) })
ended_by list end false is = rw is (extends-same list)

pub extends-closed : (list : Published) (end : FeedEnd) → Extends (closed_by list end) list
extends-closed list end = ended_by list end (is_none list.end) refl

forgot_by : (list : Published) (b : Bool) → is_none list.end ≡ b → Extends (forgotten_by list) list
forgot_by list true is = rw is (record { first = refl; entries = ([], append-nil list.entries); closed = λ other closed. absurd (none_open list other is closed); forgets = omega (arith, ints, int_max_is list.forgotten (last_number list)) })
forgot_by list false is = rw is (extends-same list)

pub extends-forgotten : (list : Published) → Extends (forgotten_by list) list
extends-forgotten list = forgot_by list (is_none list.end) refl

pub extends-changed : (list : Published) (change : Change) → Extends (list_after list change) list
extends-changed list (changes.Entry entry) = extends-added list (arc_value entry)
extends-changed list (changes.End end) = extends-closed list end
extends-changed list changes.Forget = extends-forgotten list

pub extends-fold : (list : Published) (log : List Change) → Extends (fold list_after list log) list
extends-fold list [] = extends-same list
extends-fold list (change ∷ log) = extends-later (fold list_after (list_after list change) log) (list_after list change) list (extends-fold (list_after list change) log) (extends-changed list change)

-- a step at which the list grows, or stays
pub sees : (seat : ℕ) (v : View) (x y : Published) → Extends y x → TurnsAt Keeps seat v x y SeesOnce
sees seat v x y up views kept at =
    let w : View = record { list = y; steps = v.steps + 1 } in (
      w,
      (λ j u e. ⊎_elim (λ (t : (j ≡ seat) × (w ≡ u)). subst (λ (z : View). ExtendsSeen y z) t.1 (λ _. extends-same y))
          (λ (t : (j ≢ seat) × (get_elem? views j ≡ some u)). λ some_step. extends-later y x u.list up (kept j u t.1 some_step))
          (at_set views seat j w u e)),
      (refl, refl, λ some_step. extends-later y x v.list up (kept seat v at some_step)),
    )

-- a step at which the list took the changes of the log
pub shows : (seat : ℕ) (v : View) (list next : Published) (log : List Change) → next ≡ fold list_after list log → TurnsAt Keeps seat v list next SeesOnce
shows seat v list next log is = sees seat v list next (subst (λ (l : Published). Extends l list) (sym is) (extends-fold list log))

-- a new reader has seen nothing
pub admits : Admits Keeps nothing_seen
admits x views kept seat v at = ⊎_elim (kept seat v) (λ (e : nothing_seen ≡ v). subst (λ (z : View). ExtendsSeen x z) e (λ some_step. absurd (omega arith))) (at_snoc views _ v seat at)
