-- The present keys of a store, one by one.
use Rattle.std.proofs.Common.{◌≡◌, ℕ, ◌<◌, ◌^◌, true, ℤ, List, length, None, refl, ap, ◌∙◌, take, arith}
use Rattle.std.proofs.lemmas.List.{take_all}
use Rattle.std.specs.List.{list_all}
use Rattle.std.specs.FinMap.{get, empty}
use Rattle.zx_base.specs.Maps.{Bytes}
use Rattle.ev_types.specs.Store.{Store, Change, keys_from, after_changes, store_at, present}
use Rattle.ev_store.specs.Changes.{puts_once}
use Rattle.ev_store.specs.Folds.{key_after_changes, key_after_revisions}
use Rattle.ev_store.proofs.Folding.{get-keys_from, get-after_changes}

pub present-all : (s : Store) → present s ≡ keys_from 1 empty s.revisions
unfolding store_at
present-all s = ap (keys_from 1 empty) (take_all (length s.revisions) s.revisions (omega arith))

pub store_at-first : (s : Store) (r : ℕ) → store_at s r ≡ keys_from 1 empty (take r s.revisions)
unfolding store_at
store_at-first s r = refl

pub get-present : (s : Store) (q : Bytes) → list_all puts_once s.revisions ≡ true → length s.revisions < 2 ^ 62 → get (present s) q ≡ key_after_revisions 1 q None s.revisions
get-present s q once short = ap (λ m. get m q) (present-all s) ∙ get-keys_from s.revisions q once short

pub get-next : (s : Store) (r : ℤ) (cs : List Change) (q : Bytes) → list_all puts_once s.revisions ≡ true → length s.revisions < 2 ^ 62 → puts_once cs ≡ true →
    get (after_changes r (present s) cs) q ≡ key_after_changes r q (key_after_revisions 1 q None s.revisions) cs
get-next s r cs q once short new_once = ap (λ m. get (after_changes r m cs) q) (present-all s) ∙ get-after_changes s.revisions cs r q once short new_once
