use Rattle.std.proofs.Common.{◌≡◌, ◌+◌, ◌<◌, ◌^◌, take, ℤ, pos, subst, arith, w64, to_z, Some, refl, sym, ap, ◌∙◌}
use Rattle.std.specs.Prelude.{slice_get}
use Rattle.std.proofs.lemmas.Int.{to_z_pos}
use Rattle.std.proofs.lemmas.Option.{slice_get_read, slice_get_within}
use Rattle.ev_store.specs.Versions.{versions_of, nth_changes, AddsChange, StandFor}
use Rattle.ev_store.proofs.Leasing.{names_leased-kept, names_leased-added}
use Rattle.ev_store.proofs.Index.{stands-change, change-within}
use Rattle.ev_store.proofs.history.History.index_change.Goals as goal

pub invariant_of-self : goal.invariant_of-self
invariant_of-self c =
    let s = c.self.inside in (
      c.self.invariant.0,
      c.self.invariant.1,
      c.self.invariant.2,
      c.self.invariant.3,
      names_leased-kept s.leased c.name_lease.new.leased s.versions s.versions c.name_lease.ensures.kept (λ q. refl) c.self.invariant.4,
    )

pub invariant_of-self-2 : goal.invariant_of-self-2
invariant_of-self-2 c =
    let s = c.self.inside in
    let css = s.revisions.items in
    let there : slice_get css s.indexed ≡ Some c.in-Some.changes.now = ap (λ xs. slice_get xs s.indexed) (sym c.deref.ensures.value) ∙ slice_get_read c.deref.result.now _ s.indexed c.in-Some.changes.now refl c.in-Some.ensures.lookup.3.0 c.in-Some.ensures.lookup.1 in
    let here : slice_get c.in-Some.changes.now s.begun ≡ Some c.in-Some-get.change.now = ap (λ xs. slice_get xs s.begun) (sym c.as_slice.ensures) ∙ slice_get_read c.as_slice.result.now _ s.begun c.in-Some-get.change.now refl c.in-Some-get.ensures.lookup.3.0 c.in-Some-get.ensures.lookup.1 in
    let within = slice_get_within css s.indexed c.in-Some.changes.now there in
    let number : to_z w64 (s.indexed + 1) ≡ pos (s.indexed + 1) = to_z_pos w64 (s.indexed + 1) (let small : s.indexed + 1 < 2 ^ 63 = omega (arith, within, c.self.invariant.0) in small) in (
      c.self.invariant.0,
      c.self.invariant.1,
      change-within css s.indexed s.begun c.in-Some.changes.now c.in-Some-get.change.now there here,
      λ q. stands-change css s.indexed s.begun c.in-Some.changes.now c.in-Some-get.change.now q (versions_of s.versions q) (versions_of c.add_change.new.versions q) there here
          (c.self.invariant.3 q)
          (subst (λ (n : ℤ). AddsChange (s.indexed + 1) n c.in-Some-get.change.now q (versions_of s.versions q) (versions_of c.add_change.new.versions q)) number (c.in_ok-add_change.ensures.ok q)),
      names_leased-added s.leased c.name_lease.new.leased s.versions c.add_change.new.versions _ _ _ c.name_lease.ensures.kept c.in_ok-name_lease.ensures.named c.in_ok-add_change.ensures.ok c.self.invariant.4,
    )

pub invariant_of-self-in_err-add_change : goal.invariant_of-self-in_err-add_change
invariant_of-self-in_err-add_change c =
    let s = c.self.inside in (
      c.self.invariant.0,
      c.self.invariant.1,
      c.self.invariant.2,
      λ q. subst (StandFor s.revisions.items s.indexed (take s.begun (nth_changes s.indexed s.revisions.items)) q) (sym (c.in_err-add_change.ensures.err q)) (c.self.invariant.3 q),
      names_leased-kept s.leased c.name_lease.new.leased s.versions c.add_change.new.versions c.name_lease.ensures.kept c.in_err-add_change.ensures.err c.self.invariant.4,
    )
