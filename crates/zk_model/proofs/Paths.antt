-- Paths, their parents and their depths.
use Rattle.std.proofs.Common.{◌≡◌, ◌≢◌, ℕ, suc, ◌+◌, true, false, cond, [], ◌∷◌, ◌++◌, Option, Some, None, refl, sym, ap, ◌∙◌, subst, arith, append_assoc, eqb, eqb-true}
use Rattle.zx_base.specs.Maps.{Bytes, same}
use Rattle.zk_model.specs.Paths.{slash, root, with_head, at_last_slash, parent_of_parts, parent_at, parent, is_at_path, is_child, stem, slashes, depth}
use Rattle.zx_base.proofs.MapLaws.{same-refl, same-true, same-false}

none_at : (x : ℕ) (xs : Bytes) (o : Option (Bytes × Bytes)) → (o ≡ None → slashes xs ≡ 0) → with_head x o xs ≡ None → slashes (x ∷ xs) ≡ 0
unfolding slashes
none_at x xs (Some w) ih h = absurd (cc)
none_at x xs None ih h =
    elim (eqb x slash) as (λ b. ◌≡◌ {A = Option (Bytes × Bytes)} (cond b (Some ([], xs)) None) None → cond b (suc (slashes xs)) (slashes xs) ≡ 0) [ true ↦ λ h. absurd (cc) | false ↦ λ h. ih refl ] h

pub slashes-from_none : (q : Bytes) → at_last_slash q ≡ None → slashes q ≡ 0
unfolding at_last_slash slashes
slashes-from_none [] h = refl
slashes-from_none (x ∷ xs) h = none_at x xs (at_last_slash xs) (slashes-from_none xs) h

AtParts : Bytes → Bytes × Bytes → Type 0
AtParts q parts = (q ≡ parts.0 ++ slash ∷ parts.1) × (slashes parts.1 ≡ 0)

parts_at : (x : ℕ) (xs : Bytes) (o : Option (Bytes × Bytes)) → at_last_slash xs ≡ o → ((w : Bytes × Bytes) → o ≡ Some w → AtParts xs w) → (parts : Bytes × Bytes) → with_head x o xs ≡ Some parts → AtParts (x ∷ xs) parts
unfolding AtParts
parts_at x xs (Some w) is ih parts h =
    let e : ◌≡◌ {A = Bytes × Bytes} (x ∷ w.0, w.1) parts = cc in
    subst (λ (r : Bytes × Bytes). (x ∷ xs ≡ r.0 ++ slash ∷ r.1) × (slashes r.1 ≡ 0)) e (ap (λ (r : Bytes). x ∷ r) (ih w refl).0, (ih w refl).1)
parts_at x xs None is ih parts h =
    elim (eqb x slash) as (λ b. eqb x slash ≡ b → cond b (Some ([], xs)) None ≡ Some parts → (x ∷ xs ≡ parts.0 ++ slash ∷ parts.1) × (slashes parts.1 ≡ 0)) [
      | true ↦ λ t h. let e : ◌≡◌ {A = Bytes × Bytes} ([], xs) parts = cc in
          subst (λ (r : Bytes × Bytes). (x ∷ xs ≡ r.0 ++ slash ∷ r.1) × (slashes r.1 ≡ 0)) e (ap (λ (y : ℕ). y ∷ xs) (eqb-true x slash t), slashes-from_none xs is)
      | false ↦ λ t h. absurd (cc)
    ] refl h

pub parts-from_at_last_slash : (q : Bytes) (parts : Bytes × Bytes) → at_last_slash q ≡ Some parts → (q ≡ parts.0 ++ slash ∷ parts.1) × (slashes parts.1 ≡ 0)
unfolding at_last_slash AtParts
parts-from_at_last_slash [] parts h = absurd (cc)
parts-from_at_last_slash (x ∷ xs) parts h = parts_at x xs (at_last_slash xs) refl (λ w e. parts-from_at_last_slash xs w e) parts h

-- q is a name below p
pub record IsNamed (q p : Bytes) : Type 0 where
  pub name : Bytes
  pub is : q ≡ stem p ++ name
  pub plain : slashes name ≡ 0
  pub some : name ≢ []

pub stem-root : stem root ≡ root
unfolding stem
stem-root = refl

pub stem-other : (p : Bytes) → same p root ≡ false → stem p ≡ p ++ slash ∷ []
unfolding stem
stem-other p h = ap (λ b. cond b p (p ++ slash ∷ [])) h

not_nil : (y : ℕ) (ys : Bytes) → y ∷ ys ≢ []
not_nil y ys e = cc

named_parts : (q p before name : Bytes) → q ≡ before ++ slash ∷ name → slashes name ≡ 0 → parent_of_parts before name ≡ Some p → IsNamed q p
named_parts q p before [] is plain h = absurd (cc)
named_parts q p [] (y ∷ ys) is plain h =
    let e : root ≡ p = cc in
    subst (λ (r : Bytes). IsNamed q r) e (record { name = y ∷ ys; is = is ∙ ap (λ (r : Bytes). r ++ y ∷ ys) (sym stem-root); plain = plain; some = not_nil y ys })
named_parts q p (x ∷ xs) (y ∷ ys) is plain h =
    elim (same (x ∷ xs) root) as (λ b. same (x ∷ xs) root ≡ b → cond b None (Some (x ∷ xs)) ≡ Some p → IsNamed q p) [
      | true ↦ λ t h. absurd (cc)
      | false ↦ λ t h. let e : x ∷ xs ≡ p = cc in
          subst (λ (r : Bytes). IsNamed q r) e (record {
            name = y ∷ ys;
            is = is ∙ sym (append_assoc (x ∷ xs) (slash ∷ []) (y ∷ ys)) ∙ ap (λ (r : Bytes). r ++ y ∷ ys) (sym (stem-other (x ∷ xs) t));
            plain = plain;
            some = not_nil y ys;
          })
    ] refl h

named_at : (q p : Bytes) (o : Option (Bytes × Bytes)) → at_last_slash q ≡ o → parent_at o ≡ Some p → IsNamed q p
named_at q p None is h = absurd (cc)
named_at q p (Some w) is h = let parts = parts-from_at_last_slash q w is in named_parts q p w.0 w.1 parts.0 parts.1 h

pub named-from_parent : (q p : Bytes) → parent q ≡ Some p → IsNamed q p
unfolding parent
named-from_parent q p h = named_at q p (at_last_slash q) refl h

pub slashes-append : (a b : Bytes) → slashes (a ++ b) ≡ slashes a + slashes b
unfolding slashes
slashes-append [] b = omega arith
slashes-append (x ∷ a) b = elim (eqb x slash) as (λ t. cond t (suc (slashes (a ++ b))) (slashes (a ++ b)) ≡ cond t (suc (slashes a)) (slashes a) + slashes b) [
  | true ↦ omega (arith, slashes-append a b)
  | false ↦ slashes-append a b
]

pub slashes-stem : (p : Bytes) → slashes (stem p) ≡ depth p + 1
unfolding stem depth slashes
slashes-stem p = elim (same p root) as (λ b. same p root ≡ b → slashes (cond b p (p ++ slash ∷ [])) ≡ cond b 0 (slashes p) + 1) [
  | true ↦ λ t. ap slashes (same-true p root t)
  | false ↦ λ t. slashes-append p (slash ∷ [])
] refl

pub depth-other : (p : Bytes) → p ≢ root → depth p ≡ slashes p
unfolding depth
depth-other p h = ap (λ b. cond b 0 (slashes p)) (same-false p root h)

long : (s name : Bytes) → s ≢ [] → name ≢ [] → s ++ name ≢ root
long [] name some named e = some refl
long (x ∷ s) [] some named e = named refl
long (x ∷ []) (y ∷ ys) some named e = cc
long (x ∷ z ∷ s) (y ∷ ys) some named e = cc

stem_some : (p : Bytes) → stem p ≢ []
unfolding stem
stem_some [] = λ e. cc
stem_some (x ∷ xs) = elim (same (x ∷ xs) root) as (λ b. cond b (x ∷ xs) ((x ∷ xs) ++ slash ∷ []) ≢ []) [ true ↦ λ e. cc | false ↦ λ e. cc ]

-- a child is one deeper
pub depth_named : (q p : Bytes) → IsNamed q p → depth q ≡ depth p + 1
depth_named q p n =
    let far : q ≢ root = λ e. long (stem p) n.name (stem_some p) n.some (sym n.is ∙ e) in
    depth-other q far ∙ ap slashes n.is ∙ slashes-append (stem p) n.name ∙ omega (arith, slashes-stem p, n.plain)

pub depth_child : (q p : Bytes) → parent q ≡ Some p → depth q ≡ depth p + 1
depth_child q p h = depth_named q p (named-from_parent q p h)

pub apart_from_parent : (q p : Bytes) → parent q ≡ Some p → q ≢ p
apart_from_parent q p h e = let d : depth q ≡ depth p = ap depth e in absurd (omega (arith, depth_child q p h))

pub parent-root : parent root ≡ None
unfolding parent at_last_slash
parent-root = refl

pub is_child-yes : (q p : Bytes) → parent q ≡ Some p → is_child p q ≡ true
unfolding is_child
is_child-yes q p h = ap (λ o. is_at_path o p) h ∙ same-refl p

child_at : (o : Option Bytes) (p : Bytes) → is_at_path o p ≡ true → o ≡ Some p
child_at None p h = absurd (cc)
child_at (Some r) p h = ap Some (same-true r p h)

pub parent-from_child : (q p : Bytes) → is_child p q ≡ true → parent q ≡ Some p
unfolding is_child
parent-from_child q p h = child_at (parent q) p h

pub is_child-no : (q p r : Bytes) → parent q ≡ Some r → r ≢ p → is_child p q ≡ false
unfolding is_child
is_child-no q p r h apart = ap (λ o. is_at_path o p) h ∙ same-false r p apart
