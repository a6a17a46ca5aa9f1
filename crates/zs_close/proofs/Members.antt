-- Which paths are in a list, and that a list in order has each once.
use Rattle.std.proofs.Common.{◌≡◌, ◌≢◌, ℤ, Bool, true, false, cond, ◌||◌, List, [], ◌∷◌, Option, Some, None, refl, sym, ap, ◌∙◌}
use Rattle.std.specs.Prelude.{is_some}
use Rattle.std.specs.List.{list_any, AllByRecursion}
use Rattle.std.specs.List.Sorted.{IsStrictlySortedBy}
use Rattle.std.specs.Ordering.{int_eq, nat_cmp, eq_by_cmp}
use Rattle.std.specs.Cmp.Lexicographic.{slice_cmp, nat_list_cmp_total}
use Rattle.std.specs.declared.cmp.Ordering.{Ordering}
use Rattle.std.specs.declared.cmp.Ordering.TheVariants.{Less, Equal}
use Rattle.std.specs.FinMap.{get, contains_key-keys}
use Rattle.std.proofs.lemmas.Bool.{or_right}
use Rattle.std.proofs.lemmas.Bool.Decides.{Decides-int_eq}
use Rattle.std.proofs.lemmas.Cmp.{tied_itself}
use Rattle.zx_base.specs.Maps.{Bytes, same}
use Rattle.zx_base.proofs.MapLaws.{same-refl, same-false}
use Rattle.ev_types.proofs.Names.{names-tie}
use Rattle.zk_model.specs.declared.node.Node.{Node}
use Rattle.zk_model.specs.Znodes.{Tree, owned, owned_by}
use Rattle.zk_service.proofs.Owned.{if_owned, get-owned_as}
use Rattle.zs_close.proofs.Removed.{AreApart}

-- ---- a list in order

less_equal : {o : Ordering} → o ≡ Less → o ≡ Equal → ⊥
less_equal l e = cc

apart_below : (p : Bytes) (ps : List Bytes) → AllByRecursion (λ y. slice_cmp nat_cmp p y ≡ Less) ps → list_any (same p) ps ≡ false
apart_below p [] all = refl
apart_below p (q ∷ ps) all =
    let far : p ≢ q = λ e. less_equal all.0 (ap (slice_cmp nat_cmp p) (sym e) ∙ tied_itself nat_list_cmp_total p) in
    ap (λ b. b || list_any (same p) ps) (same-false p q far) ∙ apart_below p ps all.1

pub rising-apart : (ps : List Bytes) → IsStrictlySortedBy (slice_cmp nat_cmp) ps → AreApart ps
unfolding IsStrictlySortedBy
rising-apart [] h = tt
rising-apart (p ∷ ps) h = (apart_below p ps h.0, rising-apart ps h.1)

-- ---- the nodes of a session

any-same : (r : Bytes) (ps : List Bytes) → list_any (eq_by_cmp (slice_cmp nat_cmp) r) ps ≡ list_any (same r) ps
any-same r [] = refl
any-same r (p ∷ ps) = λ i. names-tie r p i || any-same r ps i

-- a node that is there and has this owner
pub record IsOwned (t : Tree) (id : ℤ) (r : Bytes) : Type 0 where
  pub node : Node
  pub there : get t r ≡ Some node
  pub owner : node.owner ≡ id

owned_there : (t : Tree) (id : ℤ) (r : Bytes) (o : Option Node) → get t r ≡ o → is_some (if_owned id o) ≡ true → IsOwned t id r
owned_there t id r None is h = absurd (cc)
owned_there t id r (Some n) is h = by_owner (int_eq n.owner id) refl h
  where
    by_owner : (b : Bool) → int_eq n.owner id ≡ b → is_some (cond b (Some n) None) ≡ true → IsOwned t id r
    by_owner true e h = record { node = n; there = is; owner = (Decides-int_eq n.owner id).0 e }
    by_owner false e h = absurd (cc)

pub owned-there : (t : Tree) (id : ℤ) (r : Bytes) → list_any (same r) (owned t id) ≡ true → IsOwned t id r
owned-there t id r h = owned_there t id r (get t r) refl
    (sym (ap is_some (get-owned_as t id r (get t r) refl)) ∙ contains_key-keys (owned_by t id) r ∙ any-same r (owned t id) ∙ h)

pub owned-among : (t : Tree) (id : ℤ) (r : Bytes) (n : Node) → get t r ≡ Some n → n.owner ≡ id → list_any (same r) (owned t id) ≡ true
owned-among t id r n there owner =
    sym (any-same r (owned t id)) ∙ sym (contains_key-keys (owned_by t id) r) ∙ ap is_some (get-owned_as t id r (Some n) there) ∙ ap (λ b. is_some (cond b (Some n) None)) ((Decides-int_eq n.owner id).1 owner)

-- ---- a member that passes a test

pub record IsMember (f : Bytes → Bool) (ps : List Bytes) : Type 0 where
  pub path : Bytes
  pub inside : list_any (same path) ps ≡ true
  pub passes : f path ≡ true

module _ (f : Bytes → Bool) (p : Bytes) (ps : List Bytes) where
  member_first : f p ≡ true → IsMember f (p ∷ ps)
  member_first e = record { path = p; inside = ap (λ b. b || list_any (same p) ps) (same-refl p); passes = e }

  member_later : IsMember f ps → IsMember f (p ∷ ps)
  member_later m = record { path = m.path; inside = or_right (same m.path p) (list_any (same m.path) ps) m.inside; passes = m.passes }

pub any-member : (f : Bytes → Bool) (ps : List Bytes) → list_any f ps ≡ true → IsMember f ps
any-member f [] h = absurd (cc)
any-member f (p ∷ ps) h = elim (f p) as (λ b. f p ≡ b → (b || list_any f ps) ≡ true → IsMember f (p ∷ ps)) [
  | true ↦ λ e is. member_first f p ps e
  | false ↦ λ e is. member_later f p ps (any-member f ps is)
] refl h
