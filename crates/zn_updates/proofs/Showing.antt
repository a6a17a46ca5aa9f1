-- What a view saw under a node's and a session's keys shows what a state has that the view shows.
use Rattle.std.proofs.Common.{◌≡◌, ℕ, ℤ, pos, Bool, true, Option, Some, None, refl, subst}
use Rattle.std.specs.Prelude.{is_some}
use Rattle.std.specs.FinMap.{get}
use Rattle.ev_types.specs.declared.answer.Kv.{Kv}
use Rattle.zx_base.specs.Maps.{Bytes}
use Rattle.zk_model.specs.declared.node.Node.{Node}
use Rattle.zk_model.specs.Znodes.{num_children, owned}
use Rattle.zk_service.specs.States.{State, Session, session_at}
use Rattle.zn_layout.specs.declared.record.SessionRec.{SessionRec}
use Rattle.zn_layout.specs.Keys.{HeadKey, DataKey, CountsKey, SessionKey}
use Rattle.zn_layout.specs.StandsFor.{is_counted_in, CountsMean, DataMeans, NodesMean}
use Rattle.zn_view.specs.Lookups.{sees}
use Rattle.zn_view.specs.Seen.{View}
use Rattle.zn_updates.specs.declared.seen.SeenData.{SeenData}
use Rattle.zn_updates.specs.declared.seen.SeenCounts.{SeenCounts}
use Rattle.zn_updates.specs.Layers.{stored_own, Shows}
use Rattle.zn_updates.specs.Making.{IsDataSeen, IsCountsSeen, IsNodesSeen, has_found}
use Rattle.zn_updates.specs.Seen.{ShowsData, ShowsCounts, ShowsOwned}
use Rattle.zn_updates.proofs.Telling.{data_shows, counts_shows, nodes_shows, parent_shows}

data_not_head : (p : Bytes) → DataKey p ≡ HeadKey → ⊥
data_not_head p e = cc

counts_not_head : (p : Bytes) → CountsKey p ≡ HeadKey → ⊥
counts_not_head p e = cc

nodes_not_head : (n : ℕ) → SessionKey n ≡ HeadKey → ⊥
nodes_not_head n e = cc

module _ (z : ℤ) (v : View) (s : State) (shows : Shows z v s) where
  pub data-shown : (p : Bytes) (x : Option SeenData) → IsDataSeen (sees v (DataKey p)) x → ShowsData z x (get s.tree p)
  data-shown p x = elim (sees v (DataKey p)) as (λ o. sees v (DataKey p) ≡ o → IsDataSeen o x → ShowsData z x (get s.tree p)) [
    | None ↦ λ e h. absurd h
    | Some o ↦ λ e h. let means = shows (DataKey p) (data_not_head p) o e in data_shows z (get s.tree p) o x h means.0 means.1
  ] refl

  -- whether the node has a record of its counts
  abbrev counted_at : Bytes → Bool
  counted_at p = is_counted_in s (get s.tree p)

  pub counts-shown : (p : Bytes) (x : Option SeenData) (y : Option SeenCounts) → IsDataSeen (sees v (DataKey p)) x → IsCountsSeen x (sees v (CountsKey p)) y → ShowsCounts z y (get s.tree p) (num_children s.tree p) (counted_at p)
  counts-shown p x y node = elim (sees v (CountsKey p)) as (λ o. sees v (CountsKey p) ≡ o → IsCountsSeen x o y → ShowsCounts z y (get s.tree p) (num_children s.tree p) (counted_at p)) [
    | None ↦ λ e h. absurd h
    | Some o ↦ λ e h. counts_shows z (get s.tree p) (num_children s.tree p) (counted_at p) o x y (data-shown p x node) h (shows (CountsKey p) (counts_not_head p) o e).0
  ] refl

  -- the counts of a node that is known to have a record of them
  pub parent-shown : (q : Bytes) (n : Node) (y : Option SeenCounts) → get s.tree q ≡ Some n → is_counted_in s (Some n) ≡ true → IsCountsSeen None (sees v (CountsKey q)) y → ShowsCounts z y (Some n) (num_children s.tree q) true
  parent-shown q n y there counted = elim (sees v (CountsKey q)) as (λ o. sees v (CountsKey q) ≡ o → IsCountsSeen None o y → ShowsCounts z y (Some n) (num_children s.tree q) true) [
    | None ↦ λ e h. absurd h
    | Some o ↦ λ e h.
        let means = subst (λ (u : Option Node). CountsMean u (num_children s.tree q) (is_counted_in s u) (stored_own z o)) there (shows (CountsKey q) (counts_not_head q) o e).0 in
        parent_shows z n (num_children s.tree q) o y h (subst (λ (b : Bool). CountsMean (Some n) (num_children s.tree q) b (stored_own z o)) counted means)
  ] refl

  pub nodes-shown : (id : ℕ) (y : Session) (x : Option SessionRec) → session_at (pos id) s ≡ Some y → IsNodesSeen (sees v (SessionKey id)) x → ShowsOwned x y (owned s.tree (pos id))
  nodes-shown id y x opened = elim (sees v (SessionKey id)) as (λ o. sees v (SessionKey id) ≡ o → IsNodesSeen o x → ShowsOwned x y (owned s.tree (pos id))) [
    | None ↦ λ e h. absurd h
    | Some o ↦ λ e h. nodes_shows z y (owned s.tree (pos id)) o x h (subst (λ (w : Option Session). NodesMean w (owned s.tree (pos id)) (stored_own z o)) opened (shows (SessionKey id) (nodes_not_head id) o e).0)
  ] refl

  same_there : (n : Option Node) (o : Option Kv) → DataMeans n (stored_own z o) → has_found (Some o) ≡ is_some n
  same_there None None h = refl
  same_there None (Some kv) h = absurd h
  same_there (Some n) None h = absurd h
  same_there (Some n) (Some kv) h = refl

  -- whether a node that was looked up is there
  pub there-shown : (p : Bytes) → (sees v (DataKey p) ≡ None → ⊥) → has_found (sees v (DataKey p)) ≡ is_some (get s.tree p)
  there-shown p = elim (sees v (DataKey p)) as (λ o. sees v (DataKey p) ≡ o → (o ≡ None → ⊥) → has_found o ≡ is_some (get s.tree p)) [
    | None ↦ λ e h. absurd (h refl)
    | Some o ↦ λ e h. same_there (get s.tree p) o (shows (DataKey p) (data_not_head p) o e).0
  ] refl
