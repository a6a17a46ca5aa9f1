use Rattle.std.proofs.Common.{◌≤◌, ◌<◌, List, length, take, sym, subst, arith}
use Rattle.ev_types.specs.Store.{Change, max_revisions}
use Rattle.zx_base.specs.Maps.{Bytes}
use Rattle.ev_store.specs.Leased.{NamesLeased}
use Rattle.ev_store.specs.Versions.{StandFor, versions_of, nth_changes}
use Rattle.ev_store.proofs.Index.{stands-pushed, grown-begun, length-add}
use Rattle.ev_store.proofs.history.History.push.Goals as goal

pub invariant_of-self : goal.invariant_of-self
invariant_of-self c =
    let s = c.self.inside in
    subst (λ (css : List (List Change)). (length css ≤ max_revisions) × (s.indexed ≤ length css) × (s.begun ≤ length (nth_changes s.indexed css))
    × ((q : Bytes) → StandFor css s.indexed (take s.begun (nth_changes s.indexed css)) q (versions_of s.versions q)) × NamesLeased s.leased s.versions)
    (sym c.in_err-push.ensures.items) c.self.invariant

pub invariant_of-self-2 : goal.invariant_of-self-2
invariant_of-self-2 c =
    let s = c.self.inside in
    let old = s.revisions.items in
    let count = length-add old c.args.changes in
    let room : length old < max_revisions = subst (λ (css : List (List Change)). length css < max_revisions) (sym c.self.view_is) c.requires in
    subst (λ (css : List (List Change)). (length css ≤ max_revisions) × (s.indexed ≤ length css) × (s.begun ≤ length (nth_changes s.indexed css))
    × ((q : Bytes) → StandFor css s.indexed (take s.begun (nth_changes s.indexed css)) q (versions_of s.versions q)) × NamesLeased s.leased s.versions)
    (sym c.in_ok-push.ensures.items) (
      omega (arith, count, room),
      omega (arith, count, c.self.invariant.1),
      grown-begun c.args.changes old s.indexed s.begun c.self.invariant.1 c.self.invariant.2,
      λ q. stands-pushed old c.args.changes s.indexed s.begun q (versions_of s.versions q) c.self.invariant.1 c.self.invariant.2 (c.self.invariant.3 q),
      c.self.invariant.4,
    )
