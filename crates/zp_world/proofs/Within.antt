-- No count of frames is at its end; what an iterator has left; and the entries of the map of what answers to numbers.
use Rattle.std.proofs.Common.{◌≡◌, ℕ, ◌<◌, List, [], sym, ◌∙◌, subst, Bool, true, false, cond}
use Rattle.std.specs.Prelude.{Some, None}
use Rattle.std.specs.List.Sorted.{IsStrictlySortedBy}
use Rattle.std.specs.Map.{keys_of}
use Rattle.std.specs.Vec.Iter.{into_iter_items, into_iter_len}
use Rattle.std.specs.declared.vec.IntoIter.{IntoIter}
use Rattle.std.specs.FinMap.{empty, entries, from_entries, get, get-empty, get-insert, get-remove, insert, remove}
use Rattle.std.specs.Ordering.{eq_by_cmp, nat_cmp}
use Rattle.std.proofs.lemmas.Cmp.{nat_cmp_total}
use Rattle.std.proofs.lemmas.Map.Lookups.{exact_unsigned}
use Rattle.ev_store.proofs.Entries.{entries_from_gets, get-lookup}
use Rattle.zx_base.proofs.Options.{none_some, some_is}
use Rattle.zp_script.specs.Worlds.{Conn, Conns}
use Rattle.zp_step.specs.Stages.{max_count}
use Rattle.zp_world.specs.Activities.{AreWithin}
use Rattle.zx_base.proofs.Lists.{no-length}

-- ---- counts

pub within-empty : AreWithin empty
within-empty c x h = absurd (none_some (sym (get-empty nat_cmp c) ∙ h))

pub within-inserted : (m : Conns) (k : ℕ) (v : Conn) → v.frames < max_count → AreWithin m → AreWithin (insert m k v)
within-inserted m k v within all c x h = go (eq_by_cmp nat_cmp c k) (sym (get-insert nat_cmp_total m k v c) ∙ h)
  where
    go : (b : Bool) → cond b (Some v) (get m c) ≡ Some x → x.frames < max_count
    go true e = subst (λ (y : Conn). y.frames < max_count) (some_is e) within
    go false e = all c x e

pub within-removed : (m : Conns) (k : ℕ) → AreWithin m → AreWithin (remove m k)
within-removed m k all c x h = go (eq_by_cmp nat_cmp c k) (sym (get-remove nat_cmp_total m k c) ∙ h)
  where
    go : (b : Bool) → cond b None (get m c) ≡ Some x → x.frames < max_count
    go true e = absurd (none_some e)
    go false e = all c x e

-- ---- what an iterator has left

pub nothing-left : {X Z : Type 0} (it : IntoIter X Z) → into_iter_len it ≡ 0 → into_iter_items it ≡ []
nothing-left it none = no-length it.rest.items (sym it.rest.ok.0 ∙ none)

-- ---- entries

pub entries-same : (es : List (ℕ × Conn)) → IsStrictlySortedBy nat_cmp (keys_of es) → entries (from_entries {R = nat_cmp} es) ≡ es
entries-same es ordered = sym (entries_from_gets nat_cmp_total exact_unsigned (from_entries es) es ordered (λ q. sym (get-lookup nat_cmp_total es q)))
