-- A view that shows a state shows of its tree what is there, or nothing.
use Rattle.std.proofs.Common.{◌≡◌, ℕ, ℤ, pos, ◌-◌, Bool, true, false, length, List, Option, Some, None, refl, sym, ap, ◌∙◌, subst, ◌⊎◌, inl, inr}
use Rattle.std.specs.Prelude.{nat_abs, ◌≤ℤ◌}
use Rattle.std.specs.FinMap.{get}
use Rattle.ev_types.specs.declared.answer.Kv.{Kv}
use Rattle.zx_base.specs.Maps.{Bytes}
use Rattle.zk_model.specs.declared.node.Node.{Node}
use Rattle.zk_model.specs.Limits.{max_owned}
use Rattle.zk_model.specs.Znodes.{num_children, owned}
use Rattle.zk_service.specs.States.{Session, State, limit_of, session_at}
use Rattle.zn_layout.specs.declared.record.CountRec.{CountRec}
use Rattle.zn_layout.specs.declared.record.NodeRec.{NodeRec}
use Rattle.zn_layout.specs.declared.record.SessionRec.{SessionRec}
use Rattle.zn_layout.specs.Keys.{CountsKey, DataKey, HeadKey, SessionKey}
use Rattle.zn_layout.specs.StandsFor.{CountsMean, DataMeans, NodesMean, counts_record, data_record, is_counted_in, nodes_record}
use Rattle.zn_layout.proofs.ListRecords.{session_value-injective}
use Rattle.zn_layout.proofs.Nodes.{counts_value-injective, node_value-injective}
use Rattle.zn_view.specs.declared.leaving.NodeNow.{NodeNow}
use Rattle.zn_view.specs.Leaving.{counted as counted_by, node_now, AreCountsShown, IsNodeShown, IsRoomShown}
use Rattle.zn_view.specs.Lookups.{sees}
use Rattle.zn_view.specs.Seen.{View}
use Rattle.zn_updates.specs.Layers.{Shows, stored_own}
use Rattle.zn_updates.proofs.Meanings.{of_abs}
use Rattle.zn_multi.proofs.Looking.{uncounted_is}
use Rattle.zn_multi.proofs.Walking.{counts_at, counts_of, now_of}

-- what is not known, or is so
abbrev pub IsIf : {A : Type 0} → Option A → Option A → Type 0
IsIf a b = (a ≡ None) ⊎ (a ≡ b)

-- ---- what a record tells

node_told : (z : ℤ) (n : Option Node) (o : Option Kv) (x : Option (Option NodeNow)) → IsNodeShown (Some o) x → DataMeans n (stored_own z o) → x ≡ Some (now_of n)
node_told z None None x is means = is
node_told z None (Some kv) x is means = absurd means
node_told z (Some n) None x is means = absurd means
node_told z (Some n) (Some kv) x (r, value, e) means =
    e ∙ ap (λ (w : NodeRec). Some (Some (node_now w.version w.owner))) (node_value-injective r (data_record n means.stored) value.0 means.fits (sym value.1 ∙ means.value))

counts_told : (z : ℤ) (n : Option Node) (children : ℕ) (counted : Bool) (o : Option Kv) (m : Option (Option NodeNow)) (c : Option (Option CountRec)) → IsIf m (Some (now_of n)) → AreCountsShown (Some o) c → CountsMean n children counted (stored_own z o)
    → IsIf (counted_by m c) (Some (counts_at n children))
counts_told z n children counted None m c (inl unknown) is means = inl (λ i. counted_by (unknown i) (is i))
counts_told z None children counted None m c (inr there) is means = inr (λ i. counted_by (there i) (is i))
counts_told z (Some n) children true None m c (inr there) is means = absurd means
counts_told z (Some n) children false None m c (inr there) is means =
    inr ((λ i. counted_by (there i) (is i)) ∙ ap (λ (r : CountRec). Some (Some r)) (uncounted_is n children means.creates means.childless))
counts_told z None children counted (Some kv) m c there is means = absurd means
counts_told z (Some n) children true (Some kv) m c there (r, value, e) means =
    inr (ap (counted_by m) e ∙ ap (λ (w : CountRec). Some (Some w)) (counts_value-injective r (counts_record n children) value.0 means.fits (sym value.1 ∙ means.value)))
counts_told z (Some n) children false (Some kv) m c there is means = absurd means

-- how many nodes more a session may own
abbrev pub room_in : Session → List Bytes → ℕ
room_in x ps = limit_of x - length ps

room_told : (z : ℤ) (x : Session) (ps : List Bytes) (o : Option Kv) (n : Option ℕ) → IsRoomShown (Some o) n → NodesMean (Some x) ps (stored_own z o) → n ≡ Some (room_in x ps)
room_told z x ps None n is means = absurd means
room_told z x ps (Some kv) n (r, value, e) means =
    e ∙ ap (λ (w : SessionRec). Some (max_owned w.layout - length w.paths)) (session_value-injective r (nodes_record x ps) value.0 means.fits (sym value.1 ∙ means.value))

-- ---- under each key

data_is_no_head : (p : Bytes) → DataKey p ≡ HeadKey → ⊥
data_is_no_head p e = cc

counts_are_no_head : (p : Bytes) → CountsKey p ≡ HeadKey → ⊥
counts_are_no_head p e = cc

nodes_are_no_head : (n : ℕ) → SessionKey n ≡ HeadKey → ⊥
nodes_are_no_head n e = cc

module _ (z : ℤ) (v : View) (s : State) (shown : Shows z v s) where
  node_under : (p : Bytes) (o : Option (Option Kv)) → sees v (DataKey p) ≡ o → (x : Option (Option NodeNow)) → IsNodeShown o x → IsIf x (Some (now_of (get s.tree p)))
  node_under p None e x is = inl is
  node_under p (Some o) e x is = inr (node_told z (get s.tree p) o x is (shown (DataKey p) (data_is_no_head p) o e).0)

  pub node_shown : (p : Bytes) (x : Option (Option NodeNow)) → IsNodeShown (sees v (DataKey p)) x → IsIf x (Some (now_of (get s.tree p)))
  node_shown p x is = node_under p (sees v (DataKey p)) refl x is

  module _ (p : Bytes) (m : Option (Option NodeNow)) (node : IsIf m (Some (now_of (get s.tree p)))) where
    counts_under : (o : Option (Option Kv)) → sees v (CountsKey p) ≡ o → (c : Option (Option CountRec)) → AreCountsShown o c → IsIf (counted_by m c) (Some (counts_of s.tree p))
    counts_under None e c is = inl (ap (counted_by m) is)
    counts_under (Some o) e c is = counts_told z (get s.tree p) (num_children s.tree p) (is_counted_in s (get s.tree p)) o m c node is (shown (CountsKey p) (counts_are_no_head p) o e).0

  pub counts_shown : (p : Bytes) (m : Option (Option NodeNow)) → IsNodeShown (sees v (DataKey p)) m → (c : Option (Option CountRec)) → AreCountsShown (sees v (CountsKey p)) c → IsIf (counted_by m c) (Some (counts_of s.tree p))
  counts_shown p m node c is = counts_under p m (node_shown p m node) (sees v (CountsKey p)) refl c is

  module _ (id : ℤ) (y : Session) (least : pos 0 ≤ℤ id) (opened : session_at id s ≡ Some y) where
    same_id : pos (nat_abs id) ≡ id
    same_id = of_abs id least

    room_under : (o : Option (Option Kv)) → sees v (SessionKey (nat_abs id)) ≡ o → (n : Option ℕ) → IsRoomShown o n → IsIf n (Some (room_in y (owned s.tree id)))
    room_under None e n is = inl is
    room_under (Some o) e n is = inr (room_told z y (owned s.tree id) o n is
        (subst (λ (w : Option Session × ℤ). NodesMean w.0 (owned s.tree w.1) (stored_own z o)) (λ i. ((ap (λ (j : ℤ). session_at j s) same_id ∙ opened) i, same_id i)) (shown (SessionKey (nat_abs id)) (nodes_are_no_head (nat_abs id)) o e).0))

    pub room_shown : (n : Option ℕ) → IsRoomShown (sees v (SessionKey (nat_abs id))) n → IsIf n (Some (room_in y (owned s.tree id)))
    room_shown n is = room_under (sees v (SessionKey (nat_abs id))) refl n is
