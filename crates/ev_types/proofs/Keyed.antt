-- In a store each key names itself.
use Rattle.std.proofs.Common.{◌≡◌, ℕ, ◌+◌, ℤ, pos, List, [], ◌∷◌, take, Option, Some, None, refl, sym, ap, ◌∙◌, ⊎_elim}
use Rattle.std.specs.Cmp.Lexicographic.{slice_cmp}
use Rattle.std.specs.Ordering.{nat_cmp}
use Rattle.std.specs.FinMap.{get, empty, get-empty}
use Rattle.ev_types.specs.declared.answer.Kv.{Kv}
use Rattle.ev_types.specs.Ranges.{Keys}
use Rattle.ev_types.specs.Store.{Store, Change, Puts, Removes, put_over, changed, after_changes, keys_from, store_at}
use Rattle.zx_base.specs.Maps.{Bytes}
use Rattle.zx_base.proofs.MapLaws.{either, get-insert_same, get-insert_other, get-remove_same, get-remove_other}
use Rattle.zx_base.proofs.Options.{some_is, none_some}

abbrev pub AreKeyed : Keys → Type 0
AreKeyed m = (k : Bytes) (kv : Kv) → get m k ≡ Some kv → kv.key ≡ k

put_over-key : (r : ℤ) (k v : Bytes) (lease : ℤ) (old : Option Kv) → (put_over r k v lease old).key ≡ k
put_over-key r k v lease None = refl
put_over-key r k v lease (Some kv) = refl

keyed-change : (r : ℤ) (m : Keys) (c : Change) → AreKeyed m → AreKeyed (changed r m c)
keyed-change r m (Puts k v lease) keyed q kv e = ⊎_elim
    (λ same. let is : put_over r k v lease (get m k) ≡ kv = some_is (sym (get-insert_same m k _) ∙ sym (ap (get (changed r m (Puts k v lease))) same) ∙ e) in
    sym (ap (λ (x : Kv). x.key) is) ∙ put_over-key r k v lease (get m k) ∙ sym same)
    (λ apart. keyed q kv (sym (get-insert_other m k q _ apart) ∙ e))
    (either q k)
keyed-change r m (Removes k) keyed q kv e = ⊎_elim
    (λ same. absurd (none_some (sym (get-remove_same m k) ∙ sym (ap (get (changed r m (Removes k))) same) ∙ e)))
    (λ apart. keyed q kv (sym (get-remove_other m k q apart) ∙ e))
    (either q k)

pub keyed-changes : (r : ℤ) (m : Keys) (cs : List Change) → AreKeyed m → AreKeyed (after_changes r m cs)
keyed-changes r m [] keyed = keyed
keyed-changes r m (c ∷ cs) keyed = keyed-changes r (changed r m c) cs (keyed-change r m c keyed)

keyed-from : (r : ℕ) (m : Keys) (css : List (List Change)) → AreKeyed m → AreKeyed (keys_from r m css)
keyed-from r m [] keyed = keyed
keyed-from r m (cs ∷ css) keyed = keyed-from (r + 1) (after_changes (pos r) m cs) css (keyed-changes (pos r) m cs keyed)

pub store-keyed : (s : Store) (n : ℕ) → AreKeyed (store_at s n)
unfolding store_at
store-keyed s n = keyed-from 1 empty (take n s.revisions) (λ k kv e. absurd (none_some (sym (get-empty (slice_cmp nat_cmp) k) ∙ e)))
