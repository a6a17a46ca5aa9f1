use Rattle.std.proofs.Common.{◌≡◌, ◌≤◌, length, Some, refl, sym, ap, ◌∙◌, arith}
use Rattle.std.specs.Prelude.{slice_get}
use Rattle.std.proofs.lemmas.Option.{slice_get_within}
use Rattle.std.proofs.lemmas.Option.{slice_get_read}
use Rattle.ev_store.specs.Versions.{versions_of}
use Rattle.ev_store.proofs.Index.{stands-end}
use Rattle.ev_store.proofs.history.History.end_revision.Goals as goal

pub invariant_of-self : goal.invariant_of-self
invariant_of-self c =
    let s = c.self.inside in
    let css = s.revisions.items in
    let there : slice_get css s.indexed ≡ Some c.in-Some.changes.now = ap (λ xs. slice_get xs s.indexed) (sym c.deref.ensures.value) ∙ slice_get_read c.deref.result.now _ s.indexed c.in-Some.changes.now refl c.in-Some.ensures.lookup.3.0 c.in-Some.ensures.lookup.1 in
    let within = slice_get_within css s.indexed c.in-Some.changes.now there in
    let past : length c.in-Some.changes.now ≤ s.begun = omega (arith, c.len.ensures) in (
      c.self.invariant.0,
      omega (arith, within),
      omega arith,
      λ q. stands-end css s.indexed s.begun c.in-Some.changes.now q (versions_of s.versions q) there past (c.self.invariant.3 q),
      c.self.invariant.4,
    )
