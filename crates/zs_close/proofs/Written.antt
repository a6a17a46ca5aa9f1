-- What the changes at the end of a session write under each key.
use Rattle.std.proofs.Common.{◌≡◌, ℕ, ℤ, pos, Bool, true, false, cond, ◌||◌, List, [], ◌∷◌, ◌++◌, Option, Some, None, refl, sym, ap, ◌∙◌}
use Rattle.std.specs.Prelude.{◌&&◌, nat_abs, nat_eq}
use Rattle.std.specs.List.{list_any, count_by}
use Rattle.zx_base.specs.Maps.{Bytes, same}
use Rattle.zx_base.proofs.MapLaws.{same-refl, same-true}
use Rattle.zk_model.specs.declared.layout.Layout.{Layout}
use Rattle.zk_model.specs.declared.layout.Layout.TheVariants.{One, Two}
use Rattle.zk_model.specs.Paths.{is_child}
use Rattle.zn_layout.specs.declared.record.CountRec.{CountRec}
use Rattle.zn_layout.specs.declared.record.SessionRec.{SessionRec}
use Rattle.zn_layout.specs.Changes.{Put, last, put_or_else}
use Rattle.zn_layout.specs.Keys.{Key, HeadKey, DataKey, CountsKey, SessionKey, LeaseKey}
use Rattle.zn_layout.specs.Records.{counts_value, has_counts}
use Rattle.zn_layout.proofs.Fits.{last-append}
use Rattle.zn_layout.specs.Counts.{fewer}
use Rattle.zs_close.specs.Ending.{put_parent, put_parents, parents, delete_nodes, delete_session, end_changes}
use Rattle.zs_close.proofs.ParentPaths.{parents-any}

-- what is written of a key: it is deleted if a test says so
abbrev pub gone_if : Bool → Option (Option Put)
gone_if true = Some None
gone_if false = None

gone_either : (a b : Bool) → put_or_else (gone_if b) (gone_if a) ≡ gone_if (a || b)
gone_either true true = refl
gone_either true false = refl
gone_either false true = refl
gone_either false false = refl

cond_gone : (b : Bool) → cond b (Some None) None ≡ gone_if b
cond_gone true = refl
cond_gone false = refl

or_none : (x : Option (Option Put)) → put_or_else x None ≡ x
or_none None = refl
or_none (Some w) = refl

-- ---- the session's own keys

session-gone : (alive : Bool) (id : ℤ) (i : ℕ) → last (delete_session alive id) (SessionKey i) ≡ gone_if (nat_eq i (nat_abs id))
session-gone true id i = or_none _ ∙ cond_gone (nat_eq i (nat_abs id))
session-gone false id i = cond_gone (nat_eq i (nat_abs id))

abbrev pub life_gone : Bool → ℤ → ℕ → Bool
life_gone true id i = nat_eq i (nat_abs id)
life_gone false id i = false

life-gone : (alive : Bool) (id : ℤ) (i : ℕ) → last (delete_session alive id) (LeaseKey i) ≡ gone_if (life_gone alive id i)
life-gone true id i = cond_gone (nat_eq i (nat_abs id))
life-gone false id i = refl

-- ---- the keys of its nodes

pub data-gone : (layout : Layout) (ps : List Bytes) (r : Bytes) → last (delete_nodes layout ps) (DataKey r) ≡ gone_if (list_any (same r) ps)
data-gone layout [] r = refl
data-gone One (p ∷ ps) r =
    (λ i. put_or_else (put_or_else (data-gone One ps r i) None) (cond_gone (same r p) i))
    ∙ ap (λ x. put_or_else x (gone_if (same r p))) (or_none (gone_if (list_any (same r) ps)))
    ∙ gone_either (same r p) (list_any (same r) ps)
data-gone Two (p ∷ ps) r =
    (λ i. put_or_else (data-gone Two ps r i) (cond_gone (same r p) i))
    ∙ gone_either (same r p) (list_any (same r) ps)

pub counts-gone : (layout : Layout) (ps : List Bytes) (r : Bytes) → last (delete_nodes layout ps) (CountsKey r) ≡ gone_if (has_counts layout && list_any (same r) ps)
counts-gone One [] r = refl
counts-gone Two [] r = refl
counts-gone One (p ∷ ps) r =
    or_none _
    ∙ (λ i. put_or_else (counts-gone One ps r i) (cond_gone (same r p) i))
    ∙ gone_either (same r p) (list_any (same r) ps)
counts-gone Two (p ∷ ps) r = or_none _ ∙ counts-gone Two ps r

-- ---- the parents' counts

-- what is put of a node's counts, if it is there
abbrev pub put_of : List Bytes → Bytes → Option CountRec → Option (Option Put)
put_of ps r None = None
put_of ps r (Some c) = Some (Some (record { value = counts_value (fewer c (count_by (is_child r) ps)); lease = pos 0 }))

-- and if it is a parent
abbrev pub put_if : Bool → Option (Option Put) → Option (Option Put)
put_if true w = w
put_if false w = None

parent_other : (ps : List Bytes) (q r : Bytes) (o : Option CountRec) → same r q ≡ false → last (put_parent ps q o) (CountsKey r) ≡ None
parent_other ps q r None e = refl
parent_other ps q r (Some c) e = ap (λ b. cond b (Some (Some (record { value = counts_value (fewer c (count_by (is_child q) ps)); lease = pos 0 }))) None) e

parent_same : (ps : List Bytes) (r : Bytes) (o : Option CountRec) → last (put_parent ps r o) (CountsKey r) ≡ put_of ps r o
parent_same ps r None = refl
parent_same ps r (Some c) = ap (λ b. cond b (put_of ps r (Some c)) None) (same-refl r)

parent_put : (counts : Bytes → Option CountRec) (ps : List Bytes) (q r : Bytes) → last (put_parent ps q (counts q)) (CountsKey r) ≡ put_if (same r q) (put_of ps r (counts r))
parent_put counts ps q r = elim (same r q) as (λ b. same r q ≡ b → last (put_parent ps q (counts q)) (CountsKey r) ≡ put_if b (put_of ps r (counts r))) [
  | true ↦ λ e. ap (λ (x : Bytes). last (put_parent ps x (counts x)) (CountsKey r)) (sym (same-true r q e)) ∙ parent_same ps r (counts r)
  | false ↦ λ e. parent_other ps q r (counts q) e
] refl

put_twice : (a b : Bool) (w : Option (Option Put)) → put_or_else (put_if b w) (put_if a w) ≡ put_if (a || b) w
put_twice true true None = refl
put_twice true true (Some x) = refl
put_twice true false w = refl
put_twice false true None = refl
put_twice false true (Some x) = refl
put_twice false false w = refl

pub parents_put : (counts : Bytes → Option CountRec) (ps qs : List Bytes) (r : Bytes) → last (put_parents counts ps qs) (CountsKey r) ≡ put_if (list_any (same r) qs) (put_of ps r (counts r))
parents_put counts ps [] r = refl
parents_put counts ps (q ∷ qs) r =
    last-append (put_parent ps q (counts q)) (put_parents counts ps qs) (CountsKey r)
    ∙ (λ i. put_or_else (parents_put counts ps qs r i) (parent_put counts ps q r i))
    ∙ put_twice (same r q) (list_any (same r) qs) (put_of ps r (counts r))

-- ---- other kinds of keys

abbrev pub IsOther : Key → Type 0
IsOther HeadKey = Unit {0}
IsOther (DataKey p) = Unit {0}
IsOther (CountsKey p) = ⊥
IsOther (SessionKey i) = Unit {0}
IsOther (LeaseKey i) = Unit {0}

parent_leaves : (ps : List Bytes) (q : Bytes) (o : Option CountRec) (k : Key) → IsOther k → last (put_parent ps q o) k ≡ None
parent_leaves ps q None k h = refl
parent_leaves ps q (Some c) HeadKey h = refl
parent_leaves ps q (Some c) (DataKey p) h = refl
parent_leaves ps q (Some c) (CountsKey p) h = absurd h
parent_leaves ps q (Some c) (SessionKey i) h = refl
parent_leaves ps q (Some c) (LeaseKey i) h = refl

pub parents_leave : (counts : Bytes → Option CountRec) (ps qs : List Bytes) (k : Key) → IsOther k → last (put_parents counts ps qs) k ≡ None
parents_leave counts ps [] k h = refl
parents_leave counts ps (q ∷ qs) k h =
    last-append (put_parent ps q (counts q)) (put_parents counts ps qs) k
    ∙ (λ i. put_or_else (parents_leave counts ps qs k h i) (parent_leaves ps q (counts q) k h i))

pub nodes_leave-session : (layout : Layout) (ps : List Bytes) (i : ℕ) → last (delete_nodes layout ps) (SessionKey i) ≡ None
nodes_leave-session layout [] i = refl
nodes_leave-session One (p ∷ ps) i = (λ j. put_or_else (put_or_else (nodes_leave-session One ps i j) None) None)
nodes_leave-session Two (p ∷ ps) i = (λ j. put_or_else (nodes_leave-session Two ps i j) None)

pub nodes_leave-life : (layout : Layout) (ps : List Bytes) (i : ℕ) → last (delete_nodes layout ps) (LeaseKey i) ≡ None
nodes_leave-life layout [] i = refl
nodes_leave-life One (p ∷ ps) i = (λ j. put_or_else (put_or_else (nodes_leave-life One ps i j) None) None)
nodes_leave-life Two (p ∷ ps) i = (λ j. put_or_else (nodes_leave-life Two ps i j) None)

nodes_leave-head : (layout : Layout) (ps : List Bytes) → last (delete_nodes layout ps) HeadKey ≡ None
nodes_leave-head layout [] = refl
nodes_leave-head One (p ∷ ps) = (λ j. put_or_else (put_or_else (nodes_leave-head One ps j) None) None)
nodes_leave-head Two (p ∷ ps) = (λ j. put_or_else (nodes_leave-head Two ps j) None)

session_leaves-head : (alive : Bool) (id : ℤ) → last (delete_session alive id) HeadKey ≡ None
session_leaves-head true id = refl
session_leaves-head false id = refl

session_leaves-data : (alive : Bool) (id : ℤ) (r : Bytes) → last (delete_session alive id) (DataKey r) ≡ None
session_leaves-data true id r = refl
session_leaves-data false id r = refl

session_leaves-counts : (alive : Bool) (id : ℤ) (r : Bytes) → last (delete_session alive id) (CountsKey r) ≡ None
session_leaves-counts true id r = refl
session_leaves-counts false id r = refl

-- ---- together

module _ (alive : Bool) (id : ℤ) (counts : Bytes → Option CountRec) (nodes : SessionRec) where
  abbrev ps : List Bytes
  ps = nodes.paths

  three : (k : Key) → last (end_changes alive id counts nodes) k ≡ put_or_else (last (put_parents counts ps (parents ps)) k) (put_or_else (last (delete_nodes nodes.layout ps) k) (last (delete_session alive id) k))
  unfolding end_changes
  three k =
      last-append (delete_session alive id ++ delete_nodes nodes.layout ps) (put_parents counts ps (parents ps)) k
      ∙ ap (put_or_else (last (put_parents counts ps (parents ps)) k)) (last-append (delete_session alive id) (delete_nodes nodes.layout ps) k)

  pub written-head : last (end_changes alive id counts nodes) HeadKey ≡ None
  written-head = three HeadKey ∙ (λ i. put_or_else (parents_leave counts ps (parents ps) HeadKey tt i) (put_or_else (nodes_leave-head nodes.layout ps i) (session_leaves-head alive id i)))

  pub written-data : (r : Bytes) → last (end_changes alive id counts nodes) (DataKey r) ≡ gone_if (list_any (same r) ps)
  written-data r =
      three (DataKey r)
      ∙ (λ i. put_or_else (parents_leave counts ps (parents ps) (DataKey r) tt i) (put_or_else (data-gone nodes.layout ps r i) (session_leaves-data alive id r i)))
      ∙ or_none (gone_if (list_any (same r) ps))

  pub written-counts : (r : Bytes) → last (end_changes alive id counts nodes) (CountsKey r) ≡ put_or_else (put_if (list_any (is_child r) ps) (put_of ps r (counts r))) (gone_if (has_counts nodes.layout && list_any (same r) ps))
  written-counts r =
      three (CountsKey r)
      ∙ (λ i. put_or_else (parents_put counts ps (parents ps) r i) (put_or_else (counts-gone nodes.layout ps r i) (session_leaves-counts alive id r i)))
      ∙ (λ i. put_or_else (put_if (parents-any ps r i) (put_of ps r (counts r))) (or_none (gone_if (has_counts nodes.layout && list_any (same r) ps)) i))

  pub written-session : (i : ℕ) → last (end_changes alive id counts nodes) (SessionKey i) ≡ gone_if (nat_eq i (nat_abs id))
  written-session i =
      three (SessionKey i)
      ∙ (λ j. put_or_else (parents_leave counts ps (parents ps) (SessionKey i) tt j) (put_or_else (nodes_leave-session nodes.layout ps i j) (session-gone alive id i j)))

  pub written-life : (i : ℕ) → last (end_changes alive id counts nodes) (LeaseKey i) ≡ gone_if (life_gone alive id i)
  written-life i =
      three (LeaseKey i)
      ∙ (λ j. put_or_else (parents_leave counts ps (parents ps) (LeaseKey i) tt j) (put_or_else (nodes_leave-life nodes.layout ps i j) (life-gone alive id i j)))
