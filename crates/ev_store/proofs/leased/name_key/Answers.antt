use Rattle.std.proofs.Common.{◌≡◌, [], ◌∷◌, ◌++◌, true, ◌∙◌, rules, w64, to_z, of_z, subst, ℤ}
use Rattle.std.specs.Option.{unwrap_or}
use Rattle.std.proofs.lemmas.Int.{to_z-of_z}
use Rattle.ev_store.specs.Leased.{named_with, names}
use Rattle.ev_store.proofs.Leasing.{named-added}
use Rattle.ev_store.proofs.leased.name_key.Goals as goal

pub returns-in-Some-clause-named : goal.returns-in-Some-clause-named
returns-in-Some-clause-named c =
    let new = c.get_mut.follows.lender c.push.new.self in
    subst (λ (id : ℤ). names (named_with new id) c.args.key.now ≡ true) (to_z-of_z w64 c.args.id c.ranges.id)
    (named-added c.args.leased.now new (to_z w64 (of_z w64 c.args.id)) c.push.new.self ((c.get_mut.follows.holds c.push.new.self).3 (search rules)).0 c.args.key.now
    (c.in_ok-push.ensures.ok ∙ (λ i. unwrap_or (c.in-Some.ensures.value i) [] ++ (c.in_ok-key.ensures ∙ c.as_slice.ensures) i ∷ [])))
