-- Keys stand for the next state after the operations of changes that fit.
use Rattle.std.proofs.Common.{◌≡◌, ℤ, pos, List, [], ◌∷◌, ◌++◌, Option, Some, None, refl, sym, ap, ◌∙◌, subst, ⊎_elim, ◌+ℤ◌}
use Rattle.std.specs.Prelude.{◌≤ℤ◌}
use Rattle.std.specs.FinMap.{get}
use Rattle.std.proofs.lemmas.List.{map-append}
use Rattle.ev_types.specs.declared.answer.Kv.{Kv}
use Rattle.ev_types.specs.Ranges.{Keys}
use Rattle.ev_types.specs.Store.{last_revision, acts_applied, put_over}
use Rattle.zk_model.specs.declared.node.Trigger.{Trigger}
use Rattle.zk_service.specs.States.{State}
use Rattle.zx_base.specs.Maps.{Bytes}
use Rattle.zx_base.proofs.MapLaws.{either, get-insert_same}
use Rattle.zx_base.proofs.Options.{none_some}
use Rattle.zn_layout.specs.Keys.{Key, HeadKey, key_bytes, front}
use Rattle.zn_layout.specs.Records.{head_value, IsHeadRec}
use Rattle.zn_layout.specs.StandsFor.{Stored, stored_of, at, Means, IsHead, HeadMeans, AreLayout, StandsFor}
use Rattle.ev_types.specs.Reads.{read_key}
use Rattle.zn_layout.specs.Changes.{Put, KeyChange, head_put, acts_of, act_of, update_acts, last}
use Rattle.zn_layout.specs.Fits.{left, KeyFits, ChangesFit, IsNextState}
use Rattle.zn_layout.proofs.Fits.{fits_head}
use Rattle.zn_layout.proofs.Applied.{acts_applied-append, over, one_more, write, write-is, write_other, write_same, stored-changes, at-unwritten}

-- ---- the layout is kept

revision_in : ℤ → Option Stored → ℤ
revision_in z None = z
revision_in z (Some s) = s.revision

revision_left : (z : ℤ) (w : Option Put) (kv : Kv) (o : Option Kv) → stored_of o ≡ left z w → o ≡ Some kv → kv.mod_revision ≡ z
unfolding revision_in
revision_left z None kv o e h = absurd (none_some (sym e ∙ ap stored_of h))
revision_left z (Some w) kv o e h = ap (λ (s : Option Stored). revision_in z s) (sym (ap stored_of h) ∙ e)

module _ (z : ℤ) (low : pos 1 ≤ℤ z) (high : z ≤ℤ last_revision) where
  put_revision : (c : KeyChange) (keys : Keys) (key : Bytes) (kv : Kv) → key ≡ key_bytes c.key → get (write z (key_bytes c.key) c.put keys) key ≡ Some kv → kv.mod_revision ≡ z
  put_revision c keys key kv e h = revision_left z c.put kv (get (write z (key_bytes c.key) c.put keys) (key_bytes c.key)) (write_same z c.put keys (key_bytes c.key)) (sym (ap (get (write z (key_bytes c.key) c.put keys)) e) ∙ h)

  -- what holds of the revisions that are there, and of z, holds of those after a change
  revisions_kept : (P : ℤ → Type 0) → P z → (c : KeyChange) (keys : Keys) → ((key : Bytes) (kv : Kv) → get keys key ≡ Some kv → P kv.mod_revision) → (key : Bytes) (kv : Kv) → get (write z (key_bytes c.key) c.put keys) key ≡ Some kv → P kv.mod_revision
  revisions_kept P here c keys there key kv h = ⊎_elim
      (λ e. subst P (sym (put_revision c keys key kv e h)) here)
      (λ n. there key kv (sym (write_other z c.put keys (key_bytes c.key) key n) ∙ h))
      (either key (key_bytes c.key))

  layout_written : (c : KeyChange) (keys : Keys) → AreLayout keys → AreLayout (write z (key_bytes c.key) c.put keys)
  layout_written c keys a = record {
    no_other = λ rest kv h. ⊎_elim
        (λ e. (c.key, e))
        (λ n. a.no_other rest kv (sym (write_other z c.put keys (key_bytes c.key) _ n) ∙ h))
        (either (front ++ rest) (key_bytes c.key));
    least = revisions_kept (λ r. pos 1 ≤ℤ r) low c keys a.least;
    most = revisions_kept (λ r. r ≤ℤ last_revision) high c keys a.most;
  }

  layout_kept : (cs : List KeyChange) (keys : Keys) → AreLayout keys → AreLayout (acts_applied z keys (acts_of cs))
  layout_kept [] keys a = a
  layout_kept (c ∷ cs) keys a = layout_kept cs (one_more z c keys) (subst AreLayout (sym (write-is z (key_bytes c.key) c.put keys)) (layout_written c keys a))

-- ---- each key but the head

fits_over : (z : ℤ) (l : Option (Option Put)) (k : Key) (old new : State) (o : Option Stored) → KeyFits z l k old new → Means old k o → Means new k (over z l o)
fits_over z None k old new o f h = f o h
fits_over z (Some w) k old new o f h = f

each_means : (z : ℤ) (cs : List KeyChange) (keys : Keys) (old new : State) → ChangesFit z cs old new → ((k : Key) → Means old k (stored_of (at keys k))) → (k : Key) → Means new k (stored_of (at (acts_applied z keys (acts_of cs)) k))
each_means z cs keys old new fits means k = subst (λ (o : Option Stored). Means new k o) (sym (stored-changes z cs keys k)) (fits_over z (last cs k) k old new (stored_of (at keys k)) (fits.each k) (means k))

-- ---- the head

head_over : (z : ℤ) (ts : List Trigger) (o : Option Kv) (old new : State) → IsHeadRec ts → IsNextState z ts old new → HeadMeans o old → IsHead (put_over z (key_bytes HeadKey) (head_value ts) (pos 0) o) new
head_over z ts None old new fits next h = absurd h
head_over z ts (Some kv) old new fits next h = record {
  fits = subst IsHeadRec (sym next.triggers) fits;
  value = ap head_value (sym next.triggers);
  zxid = sym next.zxid;
  number = ap (λ (n : ℤ). n +ℤ pos 1) h.number ∙ ap pos (sym next.updates);
  free = refl;
}

-- the changes of an update and the head's put
abbrev pub all_of : List KeyChange → List Trigger → List KeyChange
all_of cs ts = cs ++ head_put ts ∷ []

all_applied : (z : ℤ) (cs : List KeyChange) (ts : List Trigger) (keys : Keys) → acts_applied z keys (acts_of (all_of cs ts)) ≡ one_more z (head_put ts) (acts_applied z keys (acts_of cs))
all_applied z cs ts keys = ap (acts_applied z keys) (map-append act_of cs (head_put ts ∷ [])) ∙ acts_applied-append z keys (acts_of cs) (acts_of (head_put ts ∷ []))

-- the head that was put last
pub head_there : (z : ℤ) (cs : List KeyChange) (ts : List Trigger) (keys : Keys) → at (acts_applied z keys (acts_of (all_of cs ts))) HeadKey ≡ Some (put_over z (key_bytes HeadKey) (head_value ts) (pos 0) (at (acts_applied z keys (acts_of cs)) HeadKey))
head_there z cs ts keys = ap (λ (m : Keys). at m HeadKey) (all_applied z cs ts keys) ∙ get-insert_same (acts_applied z keys (acts_of cs)) (key_bytes HeadKey) _

-- the head is put over what it was, since no change before wrote it
head_left : (z : ℤ) (cs : List KeyChange) (ts : List Trigger) (keys : Keys) → last cs HeadKey ≡ None → at (acts_applied z keys (acts_of (all_of cs ts))) HeadKey ≡ Some (put_over z (key_bytes HeadKey) (head_value ts) (pos 0) (at keys HeadKey))
head_left z cs ts keys none =
    head_there z cs ts keys ∙ ap (λ (o : Option Kv). Some (put_over z (key_bytes HeadKey) (head_value ts) (pos 0) o)) (at-unwritten z cs keys HeadKey none)

-- ---- all keys

-- the read of the head changes nothing
pub update_applied : (z : ℤ) (cs : List KeyChange) (ts : List Trigger) (keys : Keys) → acts_applied z keys (update_acts cs ts) ≡ acts_applied z keys (acts_of (all_of cs ts))
update_applied z cs ts keys = acts_applied-append z keys (acts_of (all_of cs ts)) (read_key (key_bytes HeadKey) ∷ [])

-- the head's put makes a head of the new state, and what each key means and the layout are carried on
pub stands_over : (z : ℤ) (cs : List KeyChange) (ts : List Trigger) (keys : Keys) (old new : State) → pos 1 ≤ℤ z → z ≤ℤ last_revision → last cs HeadKey ≡ None → IsHead (put_over z (key_bytes HeadKey) (head_value ts) (pos 0) (at keys HeadKey)) new → ((k : Key) → Means old k (stored_of (at keys k))) → AreLayout keys → ChangesFit z cs old new → StandsFor (acts_applied z keys (update_acts cs ts)) new
stands_over z cs ts keys old new low high none head means layout fits =
    let all = all_of cs ts in
    subst (λ (m : Keys). StandsFor m new) (sym (update_applied z cs ts keys)) (record {
      head = subst (λ (o : Option Kv). HeadMeans o new) (sym (head_left z cs ts keys none)) head;
      each = each_means z all keys old new (fits_head z cs ts old new fits) means;
      layout = layout_kept z low high all keys layout;
    })

-- keys that stood for a state stand for the next one
pub stands_after : (z : ℤ) (cs : List KeyChange) (ts : List Trigger) (keys : Keys) (old new : State) → pos 1 ≤ℤ z → z ≤ℤ last_revision → IsHeadRec ts → last cs HeadKey ≡ None → IsNextState z ts old new → StandsFor keys old → ChangesFit z cs old new → StandsFor (acts_applied z keys (update_acts cs ts)) new
stands_after z cs ts keys old new low high bounds none next stands fits =
    stands_over z cs ts keys old new low high none (head_over z ts (at keys HeadKey) old new bounds next stands.head) stands.each stands.layout fits
