-- Each key of a store was put at a revision from 1 to the store's.
use Rattle.std.proofs.Common.{◌≡◌, ℕ, ◌+◌, ℤ, pos, List, [], ◌∷◌, length, Option, Some, None, refl, sym, ap, ◌∙◌, subst, ⊎_elim, arith}
use Rattle.std.specs.Prelude.{◌≤ℤ◌}
use Rattle.std.specs.Cmp.Lexicographic.{slice_cmp}
use Rattle.std.specs.Ordering.{nat_cmp}
use Rattle.std.specs.FinMap.{get, empty, get-empty}
use Rattle.std.proofs.lemmas.Int.{ints}
use Rattle.ev_types.specs.declared.answer.Kv.{Kv}
use Rattle.ev_types.specs.Ranges.{Keys}
use Rattle.ev_types.specs.Store.{Store, Change, Puts, Removes, revision, present, put_over, changed, after_changes, keys_from}
use Rattle.zx_base.specs.Maps.{Bytes}
use Rattle.zx_base.proofs.MapLaws.{either, get-insert_same, get-insert_other, get-remove_same, get-remove_other}
use Rattle.zx_base.proofs.Options.{none_some, some_is}
use Rattle.ev_types.proofs.Grown.{present-is}

pub record IsPutWithin (r : ℤ) (kv : Kv) : Type 0 where
  pub least : pos 1 ≤ℤ kv.mod_revision
  pub most : kv.mod_revision ≤ℤ r

abbrev Within : Keys → ℤ → Type 0
Within m r = (k : Bytes) (kv : Kv) → get m k ≡ Some kv → IsPutWithin r kv

put_at : (r : ℤ) (k v : Bytes) (lease : ℤ) (old : Option Kv) → (put_over r k v lease old).mod_revision ≡ r
put_at r k v lease None = refl
put_at r k v lease (Some kv) = refl

once : (r : ℤ) (m : Keys) (c : Change) → pos 1 ≤ℤ r → Within m r → Within (changed r m c) r
once r m (Puts k v lease) low within q kv e = ⊎_elim
    (λ same. let is : put_over r k v lease (get m k) ≡ kv = some_is (sym (get-insert_same m k _) ∙ sym (ap (get (changed r m (Puts k v lease))) same) ∙ e) in
    let here : r ≡ kv.mod_revision = sym (put_at r k v lease (get m k)) ∙ ap (λ (x : Kv). x.mod_revision) is in
    record { least = subst (λ (x : ℤ). pos 1 ≤ℤ x) here low; most = subst (λ (x : ℤ). x ≤ℤ r) here (omega (arith, ints)) })
    (λ apart. within q kv (sym (get-insert_other m k q _ apart) ∙ e))
    (either q k)
once r m (Removes k) low within q kv e = ⊎_elim
    (λ same. absurd (none_some (sym (get-remove_same m k) ∙ sym (ap (get (changed r m (Removes k))) same) ∙ e)))
    (λ apart. within q kv (sym (get-remove_other m k q apart) ∙ e))
    (either q k)

all : (r : ℤ) (m : Keys) (cs : List Change) → pos 1 ≤ℤ r → Within m r → Within (after_changes r m cs) r
all r m [] low within = within
all r m (c ∷ cs) low within = all r (changed r m c) cs low (once r m c low within)

later : (r : ℕ) (m : Keys) (css : List (List Change)) → Within m (pos r) → Within (keys_from (r + 1) m css) (pos (r + length css))
later r m [] within q kv e = let h = within q kv e in record { least = h.least; most = (let most = h.most in omega (arith, ints)) }
later r m (cs ∷ css) within q kv e =
    let next : Within m (pos (r + 1)) = λ k x is. (let h = within k x is in record { least = h.least; most = (let most = h.most in omega (arith, ints)) }) in
    let h = later (r + 1) (after_changes (pos (r + 1)) m cs) css (all (pos (r + 1)) m cs (omega (arith, ints)) next) q kv e in
    record { least = h.least; most = (let most = h.most in omega (arith, ints)) }

nothing : Within empty (pos 0)
nothing q kv e = absurd (none_some (sym (get-empty (slice_cmp nat_cmp) q) ∙ e))

put_within : (s : Store) (k : Bytes) (kv : Kv) → get (present s) k ≡ Some kv → IsPutWithin (pos (0 + length s.revisions)) kv
put_within s k kv e = later 0 empty s.revisions nothing k kv (ap (λ (m : Keys). get m k) (sym (present-is s)) ∙ e)

pub present-within : (s : Store) (k : Bytes) (kv : Kv) → get (present s) k ≡ Some kv → kv.mod_revision ≤ℤ revision s
present-within s k kv e = let most = (put_within s k kv e).most in omega (arith, ints)

pub present-put : (s : Store) (k : Bytes) (kv : Kv) → get (present s) k ≡ Some kv → pos 1 ≤ℤ kv.mod_revision
present-put s k kv e = (put_within s k kv e).least
