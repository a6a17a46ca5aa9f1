-- The changes at the end of a session write each key once, and need no lease.
use Rattle.std.proofs.Common.{◌≡◌, ℤ, Bool, true, false, cond, ◌||◌, not, List, [], ◌∷◌, ◌++◌, Option, Some, None, refl, ap, ◌∙◌}
use Rattle.std.specs.Prelude.{nat_abs, All}
use Rattle.std.specs.List.{list_any, count_by, AllByRecursion}
use Rattle.std.proofs.lemmas.Bool.{and_from, and_parts}
use Rattle.std.proofs.Math.Bool.{or-false}
use Rattle.std.proofs.lemmas.List.Folds.{list_any-append}
use Rattle.std.proofs.lemmas.List.Elements.{All-nil, All-cons, All-append}
use Rattle.zk_model.specs.declared.node.Trigger.{Trigger}
use Rattle.zk_model.specs.declared.layout.Layout.{Layout}
use Rattle.zk_model.specs.declared.layout.Layout.TheVariants.{One, Two}
use Rattle.zk_model.specs.Paths.{is_child}
use Rattle.zx_base.specs.Maps.{Bytes, same}
use Rattle.zx_base.proofs.MapLaws.{same-refl}
use Rattle.zn_layout.specs.declared.record.CountRec.{CountRec}
use Rattle.zn_layout.specs.declared.record.SessionRec.{SessionRec}
use Rattle.zn_layout.specs.Changes.{Put, KeyChange, delete_key, put_key, head_put, last, put_or_else, writes_key, are_distinct}
use Rattle.zn_layout.specs.Keys.{Key, HeadKey, DataKey, CountsKey, SessionKey, LeaseKey, same_key}
use Rattle.zn_layout.specs.Records.{counts_value}
use Rattle.zn_layout.specs.Counts.{fewer}
use Rattle.zn_view.specs.Asks.{IsLeaseless}
use Rattle.zs_close.specs.Ending.{put_parent, put_parents, parents, delete_nodes, delete_session, end_changes}
use Rattle.zs_close.proofs.ParentPaths.{parents-any, parents-apart}
use Rattle.zs_close.proofs.Removed.{AreApart}
use Rattle.zs_close.proofs.Written.{gone_if, put_if, put_of, parents_put, parents_leave, nodes_leave-session, nodes_leave-life, data-gone, counts-gone}

-- ---- what isn't written

none_else : (x y : Option (Option Put)) → put_or_else x y ≡ None → (x ≡ None) × (y ≡ None)
none_else None y h = (refl, h)
none_else (Some w) y h = absurd (cc)

cond_none : (b : Bool) (w : Option Put) → cond b (Some w) None ≡ None → b ≡ false
cond_none true w h = absurd (cc)
cond_none false w h = refl

unwritten : (k : Key) (cs : List KeyChange) → last cs k ≡ None → list_any (writes_key k) cs ≡ false
unwritten k [] h = refl
unwritten k (c ∷ cs) h =
    let parts = none_else (last cs k) (cond (same_key k c.key) (Some c.put) None) h in
    (λ i. cond_none (same_key k c.key) c.put parts.1 i || unwritten k cs parts.0 i)

abbrev ApartFrom : List KeyChange → List KeyChange → Type 0
ApartFrom ds cs = AllByRecursion (λ (c : KeyChange). last ds c.key ≡ None) cs

distinct-append : (cs ds : List KeyChange) → are_distinct cs ≡ true → are_distinct ds ≡ true → ApartFrom ds cs → are_distinct (cs ++ ds) ≡ true
distinct-append [] ds f g apart = g
distinct-append (c ∷ cs) ds f g apart =
    let parts = and_parts _ _ f in
    and_from _ _
    (ap not (list_any-append (writes_key c.key) cs ds ∙ ap (λ b. list_any (writes_key c.key) cs || b) (unwritten c.key ds apart.0) ∙ or-false _) ∙ parts.0)
    (distinct-append cs ds parts.1 g apart.1)

apart-append : (ds cs es : List KeyChange) → ApartFrom ds cs → ApartFrom ds es → ApartFrom ds (cs ++ es)
apart-append ds [] es f g = g
apart-append ds (c ∷ cs) es f g = (f.0, apart-append ds cs es f.1 g)

-- ---- each part

session-distinct : (alive : Bool) (id : ℤ) → are_distinct (delete_session alive id) ≡ true
session-distinct true id = refl
session-distinct false id = refl

once_gone : (b : Bool) → b ≡ false → gone_if b ≡ None
once_gone b e = ap gone_if e

nodes-distinct : (layout : Layout) (ps : List Bytes) → AreApart ps → are_distinct (delete_nodes layout ps) ≡ true
nodes-distinct layout [] apart = refl
nodes-distinct One (p ∷ ps) apart = and_from _ _
    (ap not (unwritten (DataKey p) (delete_nodes One ps) (data-gone One ps p ∙ once_gone (list_any (same p) ps) apart.0)))
    (and_from _ _ (ap not (unwritten (CountsKey p) (delete_nodes One ps) (counts-gone One ps p ∙ once_gone (list_any (same p) ps) apart.0))) (nodes-distinct One ps apart.1))
nodes-distinct Two (p ∷ ps) apart = and_from _ _
    (ap not (unwritten (DataKey p) (delete_nodes Two ps) (data-gone Two ps p ∙ once_gone (list_any (same p) ps) apart.0)))
    (nodes-distinct Two ps apart.1)

parent_distinct : (ps : List Bytes) (q : Bytes) (o : Option CountRec) → are_distinct (put_parent ps q o) ≡ true
parent_distinct ps q None = refl
parent_distinct ps q (Some c) = refl

parent_apart : (ds : List KeyChange) (ps : List Bytes) (q : Bytes) (o : Option CountRec) → last ds (CountsKey q) ≡ None → ApartFrom ds (put_parent ps q o)
parent_apart ds ps q None h = tt
parent_apart ds ps q (Some c) h = (h, tt)

parents-distinct : (counts : Bytes → Option CountRec) (ps qs : List Bytes) → AreApart qs → are_distinct (put_parents counts ps qs) ≡ true
parents-distinct counts ps [] apart = refl
parents-distinct counts ps (q ∷ qs) apart = distinct-append (put_parent ps q (counts q)) (put_parents counts ps qs)
    (parent_distinct ps q (counts q)) (parents-distinct counts ps qs apart.1)
    (parent_apart (put_parents counts ps qs) ps q (counts q) (parents_put counts ps qs q ∙ ap (λ b. put_if b (put_of ps q (counts q))) apart.0))

-- ---- the parts are apart

session_from_nodes : (alive : Bool) (id : ℤ) (layout : Layout) (ps : List Bytes) → ApartFrom (delete_nodes layout ps) (delete_session alive id)
session_from_nodes true id layout ps = (nodes_leave-life layout ps (nat_abs id), (nodes_leave-session layout ps (nat_abs id), tt))
session_from_nodes false id layout ps = (nodes_leave-session layout ps (nat_abs id), tt)

module _ (counts : Bytes → Option CountRec) (ps : List Bytes) (childless : (r : Bytes) → list_any (same r) ps ≡ true → list_any (is_child r) ps ≡ false) where
  abbrev puts : List KeyChange
  puts = put_parents counts ps (parents ps)

  session_from_parents : (alive : Bool) (id : ℤ) → ApartFrom puts (delete_session alive id)
  session_from_parents true id = (parents_leave counts ps (parents ps) (LeaseKey (nat_abs id)) tt, (parents_leave counts ps (parents ps) (SessionKey (nat_abs id)) tt, tt))
  session_from_parents false id = (parents_leave counts ps (parents ps) (SessionKey (nat_abs id)) tt, tt)

  no_parent : (p : Bytes) → list_any (same p) ps ≡ true → last puts (CountsKey p) ≡ None
  no_parent p inside = parents_put counts ps (parents ps) p ∙ ap (λ b. put_if b (put_of ps p (counts p))) (parents-any ps p ∙ childless p inside)

  or_right : (a b : Bool) → b ≡ true → (a || b) ≡ true
  or_right true b h = refl
  or_right false b h = h

  nodes_from_parents : (layout : Layout) (rs : List Bytes) → ((r : Bytes) → list_any (same r) rs ≡ true → list_any (same r) ps ≡ true) → ApartFrom puts (delete_nodes layout rs)
  nodes_from_parents layout [] inside = tt
  nodes_from_parents One (r ∷ rs) inside = (
    parents_leave counts ps (parents ps) (DataKey r) tt,
    (
      no_parent r (inside r (ap (λ b. b || list_any (same r) rs) (same-refl r))),
      nodes_from_parents One rs (λ q h. inside q (or_right (same q r) (list_any (same q) rs) h)),
    ),
  )
  nodes_from_parents Two (r ∷ rs) inside = (
    parents_leave counts ps (parents ps) (DataKey r) tt,
    nodes_from_parents Two rs (λ q h. inside q (or_right (same q r) (list_any (same q) rs) h)),
  )

  pub end-distinct : (alive : Bool) (id : ℤ) (layout : Layout) → AreApart ps → are_distinct (end_changes alive id counts (record { layout = layout; paths = ps })) ≡ true
  unfolding end_changes
  end-distinct alive id layout apart = distinct-append (delete_session alive id ++ delete_nodes layout ps) puts
      (distinct-append (delete_session alive id) (delete_nodes layout ps) (session-distinct alive id) (nodes-distinct layout ps apart) (session_from_nodes alive id layout ps))
      (parents-distinct counts ps (parents ps) (parents-apart ps))
      (apart-append puts (delete_session alive id) (delete_nodes layout ps) (session_from_parents alive id) (nodes_from_parents layout ps (λ r h. h)))

-- ---- and the head

same_key-turned : (k : Key) → same_key HeadKey k ≡ false → same_key k HeadKey ≡ false
same_key-turned HeadKey h = h
same_key-turned (DataKey p) h = refl
same_key-turned (CountsKey p) h = refl
same_key-turned (SessionKey i) h = refl
same_key-turned (LeaseKey i) h = refl

head_apart : (ts : List Trigger) (cs : List KeyChange) → last cs HeadKey ≡ None → ApartFrom (head_put ts ∷ []) cs
head_apart ts [] h = tt
head_apart ts (c ∷ cs) h =
    let parts = none_else (last cs HeadKey) (cond (same_key HeadKey c.key) (Some c.put) None) h in
    (ap (λ b. cond b (Some (head_put ts).put) None) (same_key-turned c.key (cond_none (same_key HeadKey c.key) c.put parts.1)), head_apart ts cs parts.0)

pub with_head-distinct : (ts : List Trigger) (cs : List KeyChange) → last cs HeadKey ≡ None → are_distinct cs ≡ true → are_distinct (cs ++ head_put ts ∷ []) ≡ true
with_head-distinct ts cs none h = distinct-append cs (head_put ts ∷ []) h refl (head_apart ts cs none)

-- ---- no put has a lease

list-leaseless : (id : ℤ) → All IsLeaseless (delete_key (SessionKey (nat_abs id)) ∷ [])
list-leaseless id = All-cons IsLeaseless (delete_key (SessionKey (nat_abs id))) [] tt (All-nil IsLeaseless)

pub session-leaseless : (alive : Bool) (id : ℤ) → All IsLeaseless (delete_session alive id)
session-leaseless true id = All-cons IsLeaseless (delete_key (LeaseKey (nat_abs id))) (delete_key (SessionKey (nat_abs id)) ∷ []) tt (list-leaseless id)
session-leaseless false id = list-leaseless id

pub nodes-leaseless : (layout : Layout) (ps : List Bytes) → All IsLeaseless (delete_nodes layout ps)
nodes-leaseless layout [] = All-nil IsLeaseless
nodes-leaseless One (p ∷ ps) = All-cons IsLeaseless (delete_key (DataKey p)) (delete_key (CountsKey p) ∷ delete_nodes One ps) tt (All-cons IsLeaseless (delete_key (CountsKey p)) (delete_nodes One ps) tt (nodes-leaseless One ps))
nodes-leaseless Two (p ∷ ps) = All-cons IsLeaseless (delete_key (DataKey p)) (delete_nodes Two ps) tt (nodes-leaseless Two ps)

parent-leaseless : (ps : List Bytes) (q : Bytes) (o : Option CountRec) → All IsLeaseless (put_parent ps q o)
parent-leaseless ps q None = All-nil IsLeaseless
parent-leaseless ps q (Some c) = All-cons IsLeaseless (put_key (CountsKey q) (counts_value (fewer c (count_by (is_child q) ps)))) [] refl (All-nil IsLeaseless)

parents-leaseless : (counts : Bytes → Option CountRec) (ps qs : List Bytes) → All IsLeaseless (put_parents counts ps qs)
parents-leaseless counts ps [] = All-nil IsLeaseless
parents-leaseless counts ps (q ∷ qs) = All-append IsLeaseless (put_parent ps q (counts q)) (put_parents counts ps qs) (parent-leaseless ps q (counts q)) (parents-leaseless counts ps qs)

pub end-leaseless : (alive : Bool) (id : ℤ) (counts : Bytes → Option CountRec) (nodes : SessionRec) → All IsLeaseless (end_changes alive id counts nodes)
unfolding end_changes
end-leaseless alive id counts nodes = All-append IsLeaseless (delete_session alive id ++ delete_nodes nodes.layout nodes.paths) (put_parents counts nodes.paths (parents nodes.paths))
    (All-append IsLeaseless (delete_session alive id) (delete_nodes nodes.layout nodes.paths) (session-leaseless alive id) (nodes-leaseless nodes.layout nodes.paths))
    (parents-leaseless counts nodes.paths (parents nodes.paths))
