-- What is chosen for each part is right.
use Rattle.std.proofs.Common.{◌<◌, ◌^◌, ◌≡◌, ℕ, ◌≤◌, ℤ, pos, true, false, Bool, cond, not, length, List, [], Option, Some, None, refl, sym, ap, ◌∙◌, subst, arith}
use Rattle.std.specs.Prelude.{◌&&◌, IfSome, IsTrue, nat_abs}
use Rattle.ev_types.specs.declared.answer.Kv.{Kv}
use Rattle.std.specs.FinMap.{get}
use Rattle.zx_base.specs.Maps.{Bytes, same}
use Rattle.zk_model.specs.declared.node.Node.{Node}
use Rattle.zk_model.specs.declared.request.Acl.{Acl}
use Rattle.zk_model.specs.declared.request.Part.{Part}
use Rattle.zk_model.specs.declared.request.Part.TheVariants as part
use Rattle.zk_model.specs.declared.reply.PartResult.TheVariants as result
use Rattle.zk_model.specs.Codes.{no_node, node_exists, bad_version}
use Rattle.zk_model.specs.Limits.{max_frame}
use Rattle.zk_model.specs.PathFaults.{is_valid}
use Rattle.zk_model.specs.Paths.{is_path, parent, root}
use Rattle.zk_model.specs.Single.{Refused, Done, check, effect, form_refusal, is_ephemeral, is_sequential, matches, named, path_refusal, single, unless_refused}
use Rattle.zk_model.specs.Znodes.{num_children}
use Rattle.zk_service.specs.States.{State, limit_of}
use Rattle.zn_layout.specs.declared.record.SessionRec.{SessionRec}
use Rattle.zn_layout.specs.Fits.{ChangesFit}
use Rattle.zn_layout.specs.Keys.{Key, HeadKey, DataKey, CountsKey, SessionKey, LeaseKey, key_bytes}
use Rattle.zn_layout.specs.Records.{IsLongCount}
use Rattle.zn_view.specs.declared.plan.Who.{Who}
use Rattle.zn_layout.specs.StandsFor.{Stored, is_counted_in, Means}
use Rattle.zn_view.specs.Lookups.{HasSeen, sees}
use Rattle.zn_view.specs.Seen.{View}
use Rattle.zn_updates.specs.declared.chosen.Chosen.{Chosen}
use Rattle.zn_updates.specs.declared.chosen.Chosen.TheVariants as chosen
use Rattle.zn_updates.specs.declared.seen.SeenData.{SeenData}
use Rattle.zn_updates.specs.declared.seen.SeenCounts.{SeenCounts}
use Rattle.zn_updates.specs.Choices.{Choice, Refuse, Make, create_choice, delete_choice, set_data_choice}
use Rattle.zn_updates.specs.Deciding.{IsOwnerLookedUp, AreOwnerNodes, creates_in, path_for}
use Rattle.zn_updates.specs.Layers.{IsChosen}
use Rattle.zn_updates.specs.Making.{IsCountsSeen, IsDataSeen, IsNodesSeen, chosen_of, has_found}
use Rattle.zn_updates.specs.Parts.{check_choice, IfCounts, IfData, IfNodes, IsCreateSeen, IsCreatedBelow, IsDeletedBelow, IsNarrower, IsPartChoice}
use Rattle.zn_updates.specs.Right.{IsRight, with_tree}
use Rattle.zn_updates.specs.Seen.{IsDataWithin, ShowsData}
use Rattle.zn_updates.proofs.CreateClauses.{below_chosen, parent_is_valid, root_chosen, same_taken, valid_path}
use Rattle.zn_updates.proofs.DeleteClauses.{delete_chosen, orphan_chosen}
use Rattle.zn_updates.proofs.Meanings.{counted_along, counts_along}
use Rattle.zn_updates.proofs.Forms.{delete_refusal, set_refusal}
use Rattle.zn_updates.proofs.PartRecords.{check-kept, create-kept, delete-kept, set-kept}
use Rattle.zn_updates.proofs.PartWrites.{check-own, create-own, delete-own, set-own}
use Rattle.zn_updates.proofs.SetDataClauses.{set_chosen}
use Rattle.zn_updates.proofs.Showing.{data-shown}

-- ---- a part whose form is refused

refused_single : (s : State) (limit : ℕ) (session z : ℤ) (now : ℕ) (p : Part) (code : ℤ) → form_refusal p ≡ Some code → single s.tree limit session p z now ≡ Refused code
unfolding single
refused_single s limit session z now p code e = ap (λ (o : Option ℤ). unless_refused o (effect s.tree limit session p z now)) e

pub refused_part : (p : Part) (who : Who) (now : ℕ) (v : View) (code : ℤ) → form_refusal p ≡ Some code → IsPartChoice p who now v (chosen.Refused code)
refused_part p who now v code e = record {
  choice = λ _. Refuse code;
  is = refl;
  chosen = λ near narrow _. record { right = λ s z at time sound shown y opened. refused_single s (limit_of y) who.session z at p code e; same_code = λ _. refl };
  kept = tt;
  own = tt;
}

-- ---- what a narrower view saw

module _ (near v : View) (narrow : IsNarrower near v) where
  near_sees : (k : Key) → HasSeen near k → sees v k ≡ sees near k
  near_sees k saw = each (sees near k) refl
    where
      each : (o : Option (Option Kv)) → sees near k ≡ o → sees v k ≡ o
      each None e = absurd (saw e)
      each (Some o) e = narrow (key_bytes k) o e

  pub near_is : (P : Option (Option Kv) → Type 0) (k : Key) → HasSeen near k → (HasSeen v k → P (sees v k)) → P (sees near k)
  near_is P k saw h = let same = near_sees k saw in subst P same (h (λ none. saw (sym same ∙ none)))

-- ---- create

module _ (path content : Bytes) (acl : List Acl) (flags : ℤ) (who : Who) (now : ℕ) (v : View) (formed : form_refusal (part.Create path content acl flags) ≡ None) (valid : is_valid (is_sequential flags) path ≡ true) where
  pub created_root : parent (named flags path) ≡ None → IsPartChoice (part.Create path content acl flags) who now v (chosen.Refused node_exists)
  created_root none = record { choice = λ _. Refuse node_exists; is = refl; chosen = λ near narrow _. root_chosen path content acl flags formed valid who near none; kept = tt; own = tt }

  module _ (q : Bytes) (up : parent (named flags path) ≡ Some q) (short : length content ≤ max_frame) (time : now < 2 ^ 62) (long : IsLongCount who.session) (c : Chosen) (h : IsCreatedBelow v path content now (is_sequential flags) (is_ephemeral flags) who.session q c) where
    abbrev node : Bytes
    node = path_for (is_sequential flags) path h.above

    abbrev chosen_on : View → ℕ → Choice
    chosen_on w at = create_choice node q content at (is_ephemeral flags) who.session h.up h.above (has_found (sees w (DataKey node))) h.nodes

    module _ (near : View) (narrow : IsNarrower near v) (here : IsCreateSeen who.session near path flags q) where
      up_near : IsDataSeen (sees near (DataKey q)) h.up
      up_near = near_is near v narrow (λ (o : Option (Option Kv)). IsDataSeen o h.up) (DataKey q) here.up h.up_is

      counts_near : IsCountsSeen h.up (sees near (CountsKey q)) h.above
      counts_near = near_is near v narrow (λ (o : Option (Option Kv)). IsCountsSeen h.up o h.above) (CountsKey q) here.counts h.above_is

      own_near : (w : SeenCounts) → h.above ≡ Some w → HasSeen near (DataKey node)
      own_near w e = subst (λ (o : Option SeenCounts). HasSeen near (DataKey (path_for (is_sequential flags) path o))) (sym e) (here.own h.up w up_near (subst (IsCountsSeen h.up (sees near (CountsKey q))) e counts_near))

      near_chosen : IsChosen (part.Create path content acl flags) who near (chosen_on near)
      near_chosen =
          below_chosen path content acl flags formed valid who near q up short long h.up h.above h.nodes
          up_near
          counts_near
          (λ e. near_is near v narrow (λ (o : Option (Option Kv)). IsNodesSeen o h.nodes) (SessionKey (nat_abs who.session)) (here.nodes e) (h.nodes_are e))
          own_near

      -- whether the node is there was looked up on both
      taken_near : (o : Option SeenCounts) → h.above ≡ o → (at : ℕ) → chosen_on near at ≡ chosen_on v at
      taken_near None e at =
          subst (λ (o : Option SeenCounts). create_choice node q content at (is_ephemeral flags) who.session h.up o (has_found (sees near (DataKey node))) h.nodes ≡ create_choice node q content at (is_ephemeral flags) who.session h.up o (has_found (sees v (DataKey node))) h.nodes) (sym e)
          (same_taken node q content at (is_ephemeral flags) who.session h.up h.nodes _ _)
      taken_near (Some w) e at =
          ap (λ (o : Option (Option Kv)). create_choice node q content at (is_ephemeral flags) who.session h.up h.above (has_found o) h.nodes) (sym (near_sees near v narrow (DataKey node) (own_near w e)))

      chosen_near : IsChosen (part.Create path content acl flags) who near (chosen_on v)
      chosen_near = subst (λ (f : ℕ → Choice). IsChosen (part.Create path content acl flags) who near f) (λ i at. taken_near h.above refl at i) near_chosen

    pub created_part : IsPartChoice (part.Create path content acl flags) who now v c
    created_part = record {
      choice = chosen_on v;
      is = h.is;
      chosen = λ near narrow saw. chosen_near near narrow (saw formed q up);
      kept = create-kept node q (valid_path path content acl flags formed valid (creates_in h.above)) (parent_is_valid path content acl flags formed valid q up) content short now time who.session long (is_ephemeral flags) h.up h.above _ h.nodes h.above_within h.nodes_within;
      own = create-own who.session v (part.Create path content acl flags) node q content (valid_path path content acl flags formed valid (creates_in h.above)) (parent_is_valid path content acl flags formed valid q up) now (omega arith) (is_ephemeral flags) who.session h.up h.above _ h.nodes (λ e. (e, refl));
    }

-- ---- delete

module _ (p : Bytes) (version : ℤ) (who : Who) (now : ℕ) (v : View) (valid : (is_path p && not (same p root)) ≡ true) where
  pub deleted_orphan : parent p ≡ None → IsPartChoice (part.Delete p version) who now v (chosen.Refused no_node)
  deleted_orphan none = record { choice = λ _. Refuse no_node; is = refl; chosen = λ near narrow _. orphan_chosen p version who near valid none; kept = tt; own = tt }

  owners : (near : View) → IsNarrower near v → (o : Option SeenData) (nodes : Option SessionRec) → IsOwnerLookedUp near o → IfSome o (λ (x : SeenData). (x.owner ≡ pos 0 → ⊥) → IfNodes v x.owner nodes) → AreOwnerNodes near o nodes
  owners near narrow None nodes saw h = tt
  owners near narrow (Some x) nodes saw h = λ owns. near_is near v narrow (λ (o : Option (Option Kv)). IsNodesSeen o nodes) (SessionKey (nat_abs x.owner)) (saw owns) (h owns)

  pub deleted_part : (q : Bytes) → parent p ≡ Some q → IsTrue (is_path p) → IsTrue (is_path q) → (c : Chosen) → IsDeletedBelow v p version q c → IsPartChoice (part.Delete p version) who now v c
  deleted_part q up own above c h = record {
    choice = λ _. delete_choice p q version h.node h.counts h.above h.nodes;
    is = h.is;
    chosen = λ near narrow saw.
        let here = saw (delete_refusal p version true valid) in
        let node_seen : IsDataSeen (sees near (DataKey p)) h.node = near_is near v narrow (λ (o : Option (Option Kv)). IsDataSeen o h.node) (DataKey p) here.node h.node_is in
        delete_chosen p version who near q h.node h.counts h.above h.nodes valid up node_seen
        (near_is near v narrow (λ (o : Option (Option Kv)). IsCountsSeen h.node o h.counts) (CountsKey p) here.counts h.counts_are)
        (near_is near v narrow (λ (o : Option (Option Kv)). IsCountsSeen None o h.above) (CountsKey q) (here.above q up) h.above_is)
        (owners near narrow h.node h.nodes (here.owner h.node node_seen) h.nodes_are);
    kept = delete-kept p q own above version h.node h.counts h.above h.nodes h.above_within h.nodes_within;
    own = delete-own who.session v p q version own above h.node h.counts h.above h.nodes h.node_is;
  }

-- ---- setData

pub set_part : (p content : Bytes) (version : ℤ) (who : Who) (now : ℕ) (v : View) → IsTrue (is_path p) → length content ≤ max_frame → now < 2 ^ 62 → (x : Option SeenData) (k : Option SeenCounts) → IfData v p x → IfCounts v p x k → IfSome x IsDataWithin
    → (c : Chosen) → c ≡ chosen_of (set_data_choice p content version now x k) → IsPartChoice (part.SetData p content version) who now v c
set_part p content version who now v valid short time x k data_is counts_are within c is = record {
  choice = λ at. set_data_choice p content version at x k;
  is = is;
  chosen = λ near narrow saw.
      let here = saw (set_refusal p content version true valid) in
      set_chosen p content version who near x k valid short
      (near_is near v narrow (λ (o : Option (Option Kv)). IsDataSeen o x) (DataKey p) here.0 data_is)
      (near_is near v narrow (λ (o : Option (Option Kv)). IsCountsSeen x o k) (CountsKey p) here.1 counts_are);
  kept = set-kept p content now valid time short version x k within;
  own = set-own who.session v p content version now x k valid;
}

-- ---- check

same_means : (s : State) (k : Key) (o : Option Stored) → Means s k o → Means (with_tree s s.tree) k o
same_means s HeadKey o h = h
same_means s (DataKey p) o h = h
same_means s (CountsKey p) o h = counts_along o (get s.tree p) (get s.tree p) (num_children s.tree p) (num_children s.tree p) (is_counted_in s (get s.tree p)) (is_counted_in (with_tree s s.tree) (get s.tree p)) refl refl (counted_along s s.tree (get s.tree p) (get s.tree p) refl) h
same_means s (SessionKey id) o h = h
same_means s (LeaseKey id) o h = h

unchanged : (z : ℤ) (s : State) → ChangesFit z [] s (with_tree s s.tree)
unchanged z s = record { each = λ k o h. same_means s k o h }

check_right : (z : ℤ) (s : State) (version : ℤ) (x : Option SeenData) (n : Option Node) → ShowsData z x n → IsRight z s (check_choice version x) (check s.tree version n)
unfolding check_choice
check_right z s version None None shown = refl
check_right z s version None (Some n) shown = absurd shown
check_right z s version (Some x) None shown = absurd shown
check_right z s version (Some x) (Some n) shown =
    subst (λ (k : ℤ). IsRight z s (cond (not (matches version k)) (Refuse bad_version) (Make [] [] result.Checked)) (check s.tree version (Some n))) (sym (ap (λ (w : SeenData). w.version) shown.is)) (by_version (matches version n.version))
  where
    by_version : (b : Bool) → IsRight z s (cond (not b) (Refuse bad_version) (Make [] [] result.Checked)) (cond (not b) (Refused bad_version) (Done result.Checked s.tree []))
    by_version false = refl
    by_version true = record { tree = s.tree; done = refl; fits = unchanged z s; headless = refl }

checked_single : (s : State) (limit : ℕ) (session z : ℤ) (now : ℕ) (p : Bytes) (version : ℤ) → is_path p ≡ true → single s.tree limit session (part.Check p version) z now ≡ check s.tree version (get s.tree p)
unfolding single form_refusal effect
checked_single s limit session z now p version valid = ap (λ b. unless_refused (path_refusal b) (check s.tree version (get s.tree p))) valid

pub check_refusal : (p : Bytes) (version : ℤ) (valid : Bool) → is_path p ≡ valid → form_refusal (part.Check p version) ≡ path_refusal valid
unfolding form_refusal
check_refusal p version valid h = ap path_refusal h

pub checked_part : (p : Bytes) (version : ℤ) (who : Who) (now : ℕ) (v : View) → is_path p ≡ true → (x : Option SeenData) → IfData v p x → (c : Chosen) → c ≡ chosen_of (check_choice version x) → IsPartChoice (part.Check p version) who now v c
checked_part p version who now v valid x data_is c is = record {
  choice = λ _. check_choice version x;
  is = is;
  chosen = λ near narrow saw. record {
    right = λ s z at time sound shown y opened.
        subst (IsRight z s (check_choice version x)) (sym (checked_single s (limit_of y) who.session z at p version valid)) (check_right z s version x (get s.tree p) (data-shown z near s shown p x
        (near_is near v narrow (λ (o : Option (Option Kv)). IsDataSeen o x) (DataKey p) (saw (check_refusal p version true valid)) data_is)));
    same_code = λ _. refl;
  };
  kept = check-kept version x;
  own = check-own who.session v p version x;
}
