-- How many bytes the changes at the end of a session have, and its head.
use Rattle.std.proofs.Common.{◌+◌, ◌*◌, ◌≤◌, ℤ, Bool, true, false, length, List, [], ◌∷◌, ◌++◌, Option, Some, None, arith, length-append}
use Rattle.std.specs.Prelude.{All, IsTrue, nat_abs}
use Rattle.std.specs.List.{sum_by, count_by}
use Rattle.std.proofs.lemmas.List.Elements.{All-nil, All-cons, All-head, All-tail, All-append}
use Rattle.zk_model.specs.declared.layout.Layout.{Layout}
use Rattle.zk_model.specs.declared.layout.Layout.TheVariants.{One, Two}
use Rattle.zk_model.specs.Limits.{max_owned}
use Rattle.zk_model.specs.Paths.{is_child, is_path}
use Rattle.zx_base.specs.Maps.{Bytes}
use Rattle.zn_layout.specs.declared.record.CountRec.{CountRec}
use Rattle.zn_layout.specs.declared.record.SessionRec.{SessionRec}
use Rattle.zn_layout.specs.Changes.{KeyChange, put_key, delete_key, change_size}
use Rattle.zn_layout.specs.Keys.{DataKey, CountsKey, SessionKey, LeaseKey}
use Rattle.zn_layout.specs.Records.{counts_value}
use Rattle.zn_layout.proofs.Paths.{path_short}
use Rattle.zn_layout.specs.Counts.{fewer}
use Rattle.zn_view.proofs.Sizes.{counts-size, counts_value-size, data-size, life-size, session-size, sum_by-most}
use Rattle.zs_close.specs.Ending.{put_parent, put_parents, parents, delete_nodes, delete_session, end_changes}
use Rattle.zs_close.proofs.ParentPaths.{parents-valid, parents-length}

-- ---- changes

abbrev IsSmall : KeyChange → Type 0
IsSmall c = change_size c ≤ 1042

list-small : (id : ℤ) → All IsSmall (delete_key (SessionKey (nat_abs id)) ∷ [])
list-small id = All-cons IsSmall (delete_key (SessionKey (nat_abs id))) [] (omega (arith, session-size (nat_abs id))) (All-nil IsSmall)

session-small : (alive : Bool) (id : ℤ) → All IsSmall (delete_session alive id)
session-small true id = All-cons IsSmall (delete_key (LeaseKey (nat_abs id))) (delete_key (SessionKey (nat_abs id)) ∷ []) (omega (arith, life-size (nat_abs id))) (list-small id)
session-small false id = list-small id

session-length : (alive : Bool) (id : ℤ) → length (delete_session alive id) ≤ 2
session-length true id = omega arith
session-length false id = omega arith

nodes-small : (layout : Layout) (ps : List Bytes) → All (λ p. IsTrue (is_path p)) ps → All IsSmall (delete_nodes layout ps)
nodes-small layout [] all = All-nil IsSmall
nodes-small One (p ∷ ps) all =
    let short = path_short p (All-head (λ q. IsTrue (is_path q)) p ps all) in
    All-cons IsSmall (delete_key (DataKey p)) (delete_key (CountsKey p) ∷ delete_nodes One ps) (omega (arith, data-size p, short))
    (All-cons IsSmall (delete_key (CountsKey p)) (delete_nodes One ps) (omega (arith, counts-size p, short)) (nodes-small One ps (All-tail (λ q. IsTrue (is_path q)) p ps all)))
nodes-small Two (p ∷ ps) all =
    let short = path_short p (All-head (λ q. IsTrue (is_path q)) p ps all) in
    All-cons IsSmall (delete_key (DataKey p)) (delete_nodes Two ps) (omega (arith, data-size p, short)) (nodes-small Two ps (All-tail (λ q. IsTrue (is_path q)) p ps all))

nodes-twice : (ps : List Bytes) → length (delete_nodes One ps) ≤ 2 * length ps
nodes-twice [] = omega arith
nodes-twice (p ∷ ps) = omega (arith, nodes-twice ps)

nodes-once : (ps : List Bytes) → length (delete_nodes Two ps) ≤ length ps
nodes-once [] = omega arith
nodes-once (p ∷ ps) = omega (arith, nodes-once ps)

-- as many of layout 2 as there may be take no more operations than those of layout 1, with one for each parent
nodes-length : (layout : Layout) (ps : List Bytes) → length ps ≤ max_owned layout → length (delete_nodes layout ps) + length ps ≤ 120
nodes-length One ps few = omega (arith, nodes-twice ps, few)
nodes-length Two ps few = omega (arith, nodes-once ps, few)

parent-small : (ps : List Bytes) (q : Bytes) (o : Option CountRec) → IsTrue (is_path q) → All IsSmall (put_parent ps q o)
parent-small ps q None h = All-nil IsSmall
parent-small ps q (Some c) h =
    let left : CountRec = fewer c (count_by (is_child q) ps) in
    All-cons IsSmall (put_key (CountsKey q) (counts_value left)) [] (omega (arith, counts-size q, counts_value-size left, path_short q h)) (All-nil IsSmall)

parent-length : (ps : List Bytes) (q : Bytes) (o : Option CountRec) → length (put_parent ps q o) ≤ 1
parent-length ps q None = omega arith
parent-length ps q (Some c) = omega arith

parents-small : (counts : Bytes → Option CountRec) (ps qs : List Bytes) → All (λ q. IsTrue (is_path q)) qs → All IsSmall (put_parents counts ps qs)
parents-small counts ps [] all = All-nil IsSmall
parents-small counts ps (q ∷ qs) all = All-append IsSmall (put_parent ps q (counts q)) (put_parents counts ps qs) (parent-small ps q (counts q) (All-head (λ r. IsTrue (is_path r)) q qs all)) (parents-small counts ps qs (All-tail (λ r. IsTrue (is_path r)) q qs all))

puts-length : (counts : Bytes → Option CountRec) (ps qs : List Bytes) → length (put_parents counts ps qs) ≤ length qs
puts-length counts ps [] = omega arith
puts-length counts ps (q ∷ qs) = omega (arith, length-append (put_parent ps q (counts q)) (put_parents counts ps qs), parent-length ps q (counts q), puts-length counts ps qs)

pub end-length : (alive : Bool) (id : ℤ) (counts : Bytes → Option CountRec) (nodes : SessionRec) → length nodes.paths ≤ max_owned nodes.layout → length (end_changes alive id counts nodes) ≤ 122
unfolding end_changes
end-length alive id counts nodes few = omega (
  arith,
  length-append (delete_session alive id ++ delete_nodes nodes.layout nodes.paths) (put_parents counts nodes.paths (parents nodes.paths)),
  length-append (delete_session alive id) (delete_nodes nodes.layout nodes.paths),
  session-length alive id,
  nodes-length nodes.layout nodes.paths few,
  puts-length counts nodes.paths (parents nodes.paths),
  parents-length nodes.paths,
)

pub end-size : (alive : Bool) (id : ℤ) (counts : Bytes → Option CountRec) (nodes : SessionRec) → All (λ p. IsTrue (is_path p)) nodes.paths → sum_by change_size (end_changes alive id counts nodes) ≤ 1042 * length (end_changes alive id counts nodes)
unfolding end_changes
end-size alive id counts nodes valid = sum_by-most change_size 1042 (end_changes alive id counts nodes)
    (All-append IsSmall (delete_session alive id ++ delete_nodes nodes.layout nodes.paths) (put_parents counts nodes.paths (parents nodes.paths))
    (All-append IsSmall (delete_session alive id) (delete_nodes nodes.layout nodes.paths) (session-small alive id) (nodes-small nodes.layout nodes.paths valid))
    (parents-small counts nodes.paths (parents nodes.paths) (parents-valid nodes.paths valid)))
