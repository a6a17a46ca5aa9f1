-- The list at the place that was found.
use Rattle.std.proofs.Common.{◌≡◌, Bool, true, false, nat_lt, ◌&&◌, List, length, get_or, refl, sym, ap, ◌∙◌, subst, ltb-true, lt-ltb}
use Rattle.std.specs.List.{insert}
use Rattle.zx_base.specs.Maps.{Bytes, same}
use Rattle.zx_base.proofs.MapLaws.{same-true, same-refl}
use Rattle.zn_updates.specs.OwnedLists.{IsPlaceOf}
use Rattle.zn_layout.specs.Records.{ArePaths}
use Rattle.zn_updates.proofs.ListBounds.{placed-within}
use Rattle.zn_updates.proofs.Places.{placed-there, placed-new}
use Rattle.zn_updates.proofs.owned.placed.Goals as goal

both : (a b : Bool) → (a && b) ≡ true → (a ≡ true) × (b ≡ true)
both true b h = (refl, h)
both false b h = absurd (cc)

never : (a b : Bool) → (a && b) ≡ false → a ≡ true → b ≡ true → ⊥
never true true h e f = cc
never true false h e f = cc
never false b h e f = cc

there : goal.returns-then-stands_at-clause-is
there c =
    let ps : List Bytes = c.args.paths in
    let p : Bytes = c.args.path.now in
    let list : c.into_vec-list.result.items ≡ ps = c.into_vec-list.ensures in
    let at : IsPlaceOf p ps c.place_of-place.result = subst (λ (l : List Bytes). IsPlaceOf p l c.place_of-place.result) (c.deref.ensures.value ∙ list) c.place_of-place.ensures in
    let tests = both _ _ (sym (c.stands_at.ensures ∙ ap (λ (l : List Bytes). nat_lt c.place_of-place.result (length l) && same (get_or l c.place_of-place.result p) p) (c.deref-2.ensures.value ∙ list)) ∙ c.if-stands_at.true) in
    c.from_vec.ensures ∙ list ∙ sym (placed-there p ps c.place_of-place.result at (ltb-true _ _ tests.0) (same-true _ p tests.1))

new : goal.returns-clause-is
new c =
    let ps : List Bytes = c.args.paths in
    let p : Bytes = c.args.path.now in
    let list : c.into_vec-list.result.items ≡ ps = c.into_vec-list.ensures in
    let at : IsPlaceOf p ps c.place_of-place.result = subst (λ (l : List Bytes). IsPlaceOf p l c.place_of-place.result) (c.deref.ensures.value ∙ list) c.place_of-place.ensures in
    let tests = sym (c.stands_at.ensures ∙ ap (λ (l : List Bytes). nat_lt c.place_of-place.result (length l) && same (get_or l c.place_of-place.result p) p) (c.deref-2.ensures.value ∙ list)) ∙ c.if-stands_at.false in
    c.from_vec-2.ensures ∙ c.in_ok-insert.ensures.items ∙ (λ i. insert (list i) c.place_of-place.result (c.in_ok-copy.ensures i))
    ∙ sym (placed-new p ps c.place_of-place.result at (λ lt is. never _ _ tests (lt-ltb _ _ lt) (ap (λ (x : Bytes). same x p) is ∙ same-refl p)))

pub returns-then-stands_at-clause-is : goal.returns-then-stands_at-clause-is
returns-then-stands_at-clause-is c = there c

pub returns-clause-is : goal.returns-clause-is
returns-clause-is c = new c

pub returns-then-stands_at-clause-within : goal.returns-then-stands_at-clause-within
returns-then-stands_at-clause-within c = λ valid few within. subst ArePaths (sym (there c)) (placed-within c.args.path.now c.args.paths valid few within)

pub returns-clause-within : goal.returns-clause-within
returns-clause-within c = λ valid few within. subst ArePaths (sym (new c)) (placed-within c.args.path.now c.args.paths valid few within)
