-- The keys that each choice writes.
use Rattle.std.proofs.Common.{◌≡◌, ℕ, ℤ, pos, true, false, Bool, cond, List, [], ◌∷◌, ◌++◌, Option, Some, None, refl, sym, ap, ◌∙◌, subst}
use Rattle.std.specs.Prelude.{map, nat_abs, nat_le, not, length}
use Rattle.std.specs.Ordering.{int_eq}
use Rattle.zk_model.specs.declared.node.Trigger.{Trigger}
use Rattle.zk_model.specs.declared.request.Acl.{Acl}
use Rattle.zk_model.specs.declared.request.Request.{Request}
use Rattle.zk_model.specs.declared.request.Request.TheVariants as req
use Rattle.zk_model.specs.Codes.{no_node, node_exists}
use Rattle.zk_model.specs.Limits.{max_creates, max_owned, max_version}
use Rattle.zk_model.specs.Paths.{parent}
use Rattle.zk_model.specs.Single.{is_ephemeral, is_sequential, matches, named}
use Rattle.zx_base.specs.Maps.{Bytes}
use Rattle.zn_layout.specs.declared.record.CountRec.{CountRec}
use Rattle.zn_layout.specs.declared.record.SessionRec.{SessionRec}
use Rattle.zn_layout.specs.Changes.{KeyChange}
use Rattle.zn_layout.specs.Records.{has_counts}
use Rattle.zn_layout.specs.Keys.{DataKey, CountsKey, SessionKey}
use Rattle.zn_view.specs.declared.plan.Decision.{Decision}
use Rattle.zn_view.specs.declared.plan.Who.{Who}
use Rattle.zn_view.specs.Deciding.{IfPlanned}
use Rattle.zn_view.specs.Lookups.{sees}
use Rattle.zn_view.specs.Seen.{View}
use Rattle.zn_updates.specs.declared.seen.SeenData.{SeenData}
use Rattle.zn_updates.specs.declared.seen.SeenCounts.{SeenCounts}
use Rattle.zn_updates.specs.Choices.{Choice, Refuse, Make, create_changes, create_choice, create_owned, delete_changes, delete_choice, delete_here, delete_owned, put_owned, set_data_choice}
use Rattle.zn_updates.specs.Deciding.{AreOwnNodes, IsCreate, IsDelete, IsSetData, creates_seen, decision_of, on_keys, owner_seen, path_for}
use Rattle.zn_updates.specs.KeysRead.{create_keys, delete_keys, set_data_keys}
use Rattle.zn_updates.specs.Making.{IsDataSeen, IsCountsSeen, IsNodesSeen, has_found}
use Rattle.zn_updates.specs.OwnedLists.{with_node, without_node}
use Rattle.zn_updates.specs.Parts.{IfChanges}
use Rattle.zn_updates.specs.Writing.{AreWrites, IsCounted, WritesAs, counts_writes, create_writes, delete_writes, deletes, puts, write_of}
use Rattle.zn_updates.proofs.WellMade.{changes_cond}

-- ---- from a choice to its decision

abbrev Written : Request → Who → View → List KeyChange → List Trigger → Type 0
Written r who v cs ts = AreWrites r who v (map write_of cs)

planned_as : (r : Request) (who : Who) (v near : View) (c : Choice) → IfChanges (Written r who v) c → IfPlanned (WritesAs r who v) (decision_of near c)
planned_as r who v near (Refuse code) h = tt
planned_as r who v near (Make cs ts draft) h = record { changes = cs; acts = refl; writes = h }

pub written-as : (r : Request) (who : Who) (v near : View) (c : Choice) (d : Decision) → d ≡ decision_of near c → IfChanges (Written r who v) c → IfPlanned (WritesAs r who v) d
written-as r who v near c d is h = subst (IfPlanned (WritesAs r who v)) (sym is) (planned_as r who v near c h)

-- ---- setData

set_data-writes : (who : Who) (v : View) (p content : Bytes) (version : ℤ) (now : ℕ) (x : Option SeenData) (c : Option SeenCounts) → IfChanges (Written (req.SetData p content version) who v) (set_data_choice p content version now x c)
unfolding set_data_choice
set_data-writes who v p content version now None c = tt
set_data-writes who v p content version now (Some x) None = tt
set_data-writes who v p content version now (Some x) (Some c) =
    changes_cond (Written (req.SetData p content version) who v) (not (matches version x.version)) _ _ (λ _. tt)
    (λ _. changes_cond (Written (req.SetData p content version) who v) (int_eq x.version max_version) _ _ (λ _. tt) (λ _. refl))

pub set_data-written : (who : Who) (v : View) (p content : Bytes) (version : ℤ) (now : ℕ) (d : Decision) → IsSetData v p content version now who.session d → IfPlanned (WritesAs (req.SetData p content version) who v) d
set_data-written who v p content version now d is =
    written-as (req.SetData p content version) who v (on_keys v (set_data_keys p who.session)) (set_data_choice p content version now is.0 is.1) d is.4 (set_data-writes who v p content version now is.0 is.1)

-- ---- delete

module _ (who : Who) (v : View) (p q : Bytes) (version : ℤ) (below : parent p ≡ Some q) where
  abbrev Deleted : List KeyChange → List Trigger → Type 0
  Deleted = Written (req.Delete p version) who v

  deleted_writes : (b : Bool) (above : CountRec) (more : List KeyChange) → map write_of (delete_changes p q b above ++ more) ≡ deletes (DataKey p) ∷ counts_writes deletes p b ++ puts (CountsKey q) ∷ map write_of more
  deleted_writes true above more = refl
  deleted_writes false above more = refl

  plain_writes : (b : Bool) (above : CountRec) → map write_of (delete_changes p q b above) ≡ deletes (DataKey p) ∷ counts_writes deletes p b ++ puts (CountsKey q) ∷ []
  plain_writes true above = refl
  plain_writes false above = refl

  by_owner : (b : Bool) (owner : ℤ) (t : Bool) → int_eq owner (pos 0) ≡ t → deletes (DataKey p) ∷ counts_writes deletes p b ++ puts (CountsKey q) ∷ cond t [] (puts (SessionKey (nat_abs owner)) ∷ []) ≡ delete_writes p q b owner
  by_owner b owner t e = ap (λ u. deletes (DataKey p) ∷ counts_writes deletes p b ++ puts (CountsKey q) ∷ cond u [] (puts (SessionKey (nat_abs owner)) ∷ [])) (sym e)

  delete-writes : (x : Option SeenData) (c a : Option SeenCounts) (nodes : Option SessionRec) → IsDataSeen (sees v (DataKey p)) x → IsCountsSeen x (sees v (CountsKey p)) c → IfChanges Deleted (delete_choice p q version x c a nodes)
  unfolding delete_choice
  delete-writes None c a nodes saw counts = tt
  delete-writes (Some x) None a nodes saw counts = tt
  delete-writes (Some x) (Some c) a nodes saw counts =
      changes_cond Deleted (not (matches version x.version)) _ _ (λ _. tt) (λ _. changes_cond Deleted (not (int_eq c.counts.children (pos 0))) _ _ (λ _. tt) (λ _. here a))
    where
      owned : int_eq x.owner (pos 0) ≡ false → (above : CountRec) (o : Option SessionRec) → IfChanges Deleted (delete_owned p q c.is_stored above x.owner o)
      owned e above None = tt
      owned e above (Some r) = (q, x, c, below, saw, counts, deleted_writes c.is_stored above (put_owned x.owner (without_node p r) ∷ []) ∙ by_owner c.is_stored x.owner false e)

      here : (o : Option SeenCounts) → IfChanges Deleted (delete_here p q x c.is_stored o nodes)
      here None = tt
      here (Some above) = changes_cond Deleted (int_eq x.owner (pos 0)) _ _
          (λ e. (q, x, c, below, saw, counts, plain_writes c.is_stored above.counts ∙ by_owner c.is_stored x.owner true e))
          (λ e. owned e above.counts nodes)

pub delete-written : (who : Who) (v : View) (p : Bytes) (version : ℤ) (d : Decision) (q : Option Bytes) → parent p ≡ q → IsDelete v p version who.session q d → IfPlanned (WritesAs (req.Delete p version) who v) d
delete-written who v p version d None e is = written-as (req.Delete p version) who v v (Refuse no_node) d is tt
delete-written who v p version d (Some q) e is =
    written-as (req.Delete p version) who v (on_keys v (delete_keys p (Some q) who.session (owner_seen is.0))) (delete_choice p q version is.0 is.1 is.2 is.3) d is.8 (delete-writes who v p q version e is.0 is.1 is.2 is.3 is.4 is.5)

-- ---- create

module _ (who : Who) (v : View) (path content : Bytes) (acl : List Acl) (flags : ℤ) (now : ℕ) (q : Bytes) (below : parent (named flags path) ≡ Some q) where
  abbrev Created : List KeyChange → List Trigger → Type 0
  Created = Written (req.Create path content acl flags) who v

  module _ (x : Option SeenData) (seen : Option SeenCounts) (nodes : Option SessionRec) (data_seen : IsDataSeen (sees v (DataKey q)) x) (counts_seen : IsCountsSeen x (sees v (CountsKey q)) seen) (own_seen : AreOwnNodes v (is_ephemeral flags) who.session nodes) where
    abbrev node : Bytes
    node = path_for (is_sequential flags) path seen

    created_writes : (b : Bool) (owner : ℤ) (above : CountRec) (more : List KeyChange) → map write_of (create_changes node q content now owner b above ++ more) ≡ puts (DataKey node) ∷ counts_writes puts node b ++ puts (CountsKey q) ∷ map write_of more
    created_writes true owner above more = refl
    created_writes false owner above more = refl

    by_kind : (b t : Bool) → is_ephemeral flags ≡ t → puts (DataKey node) ∷ counts_writes puts node b ++ puts (CountsKey q) ∷ cond t (puts (SessionKey (nat_abs who.session)) ∷ []) [] ≡ create_writes node q b (is_ephemeral flags) who.session
    by_kind b t e = ap (λ u. puts (DataKey node) ∷ counts_writes puts node b ++ puts (CountsKey q) ∷ cond u (puts (SessionKey (nat_abs who.session)) ∷ []) []) (sym e)

    counted : (b t : Bool) → is_ephemeral flags ≡ t → IsCounted v t who.session b → IsCounted v (is_ephemeral flags) who.session b
    counted b t e h = subst (λ u. IsCounted v u who.session b) (sym e) h

    owned : is_ephemeral flags ≡ true → (above : CountRec) (o : Option SessionRec) → nodes ≡ o → IfChanges Created (create_owned node q content now above who.session o)
    owned e above None is = tt
    owned e above (Some r) is = changes_cond Created (nat_le (max_owned r.layout) (length r.paths)) _ _ (λ _. tt) (λ _. (
      q,
      x,
      seen,
      has_counts r.layout,
      below,
      data_seen,
      counts_seen,
      counted (has_counts r.layout) true e (r, subst (λ (l : Option SessionRec). IsNodesSeen (sees v (SessionKey (nat_abs who.session))) l) is (own_seen e), refl),
      created_writes (has_counts r.layout) who.session above (put_owned who.session (with_node node r) ∷ []) ∙ by_kind (has_counts r.layout) true e,
    ))

    pub create-writes : (y : Option SeenData) (c : Option SeenCounts) (taken : Bool) → IfChanges Created (create_choice node q content now (is_ephemeral flags) who.session y c taken nodes)
    unfolding create_choice
    create-writes None c taken = tt
    create-writes (Some y) None taken = tt
    create-writes (Some y) (Some c) true = tt
    create-writes (Some y) (Some c) false =
        changes_cond Created (not (int_eq y.owner (pos 0))) _ _ (λ _. tt)
        (λ _. changes_cond Created (int_eq c.counts.creates max_creates) _ _ (λ _. tt)
        (λ _. changes_cond Created (is_ephemeral flags) _ _ (λ e. owned e c.counts nodes refl) (λ e. (q, x, seen, true, below, data_seen, counts_seen, counted true false e refl, by_kind true false e))))

pub create-written : (who : Who) (v : View) (path content : Bytes) (acl : List Acl) (flags : ℤ) (now : ℕ) (d : Decision) (q : Option Bytes) → parent (named flags path) ≡ q
    → IsCreate v path content now (is_sequential flags) (is_ephemeral flags) who.session q d → IfPlanned (WritesAs (req.Create path content acl flags) who v) d
create-written who v path content acl flags now d None e is = written-as (req.Create path content acl flags) who v v (Refuse node_exists) d is tt
create-written who v path content acl flags now d (Some q) e is =
    let node = path_for (is_sequential flags) path is.1 in
    written-as (req.Create path content acl flags) who v (on_keys v (create_keys (is_sequential flags) (is_ephemeral flags) path (Some q) who.session (creates_seen is.1)))
    (create_choice node q content now (is_ephemeral flags) who.session is.0 is.1 (has_found (sees v (DataKey node))) is.2) d is.6
    (create-writes who v path content acl flags now q e is.0 is.1 is.2 is.3 is.4 is.5 is.0 is.1 (has_found (sees v (DataKey node))))
