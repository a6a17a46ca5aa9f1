-- Laws of entries in order, and of the map that they make.
use Rattle.std.proofs.Common.{◌≡◌, ◌≢◌, Bool, true, cond, not, None, [], ◌∷◌, length, refl, sym, ap, ◌∙◌, subst, map, T, ⊎_elim}
use Rattle.std.specs.declared.cmp.Ordering.TheVariants.{Less, Equal, Greater}
use Rattle.std.specs.Cmp.Lexicographic.{nat_list_cmp_total}
use Rattle.std.proofs.lemmas.Map.Lookups.{exact_bytes}
use Rattle.std.proofs.lemmas.List.{nil_from_length}
use Rattle.std.specs.FinMap.{get, insert, remove, empty, entries, retain_keys, entries-from_sorted, get-from_sorted, entries-insert, same_entries_map, len-entries, len-empty, len, keys}
use Rattle.std.specs.FinMap.Entries.{put, find, where_key, is_sorted, is_sorted-put, is_sorted-where_key, find-where_key, by_order}
use Rattle.zx_base.specs.Maps.{Bytes, Map, same}
use Rattle.zx_base.proofs.MapLaws.{ext, either, same-refl, same-false, get-retain, get-remove_same, get-remove_other}
use Rattle.zk_machine.specs.Entries.{order, Entries, map_of}
use Rattle.zx_base.proofs.Booleans.{true-from_T}

module _ {X : Type 0} where
  -- the entries of the other paths
  abbrev pub others : Bytes → Entries X → Entries X
  others path = where_key order (λ p. not (same p path))

  -- ---- look-ups

  pub get-map : (es : Entries X) (path : Bytes) → is_sorted order es ≡ true → get (map_of es) path ≡ find order path es
  get-map es path h = get-from_sorted order es path (subst T (sym h) tt)

  -- ---- puts

  pub put-less : (path : Bytes) (value : X) (e : Bytes × X) (es : Entries X) → order path e.0 ≡ Less → put order path value (e ∷ es) ≡ (path, value) ∷ e ∷ es
  put-less path value e es is = ap (λ r. by_order r ((path, value) ∷ e ∷ es) ((e.0, value) ∷ es) (e ∷ put order path value es)) is

  pub put-equal : (path : Bytes) (value : X) (e : Bytes × X) (es : Entries X) → order path e.0 ≡ Equal → put order path value (e ∷ es) ≡ (path, value) ∷ es
  put-equal path value e es is =
      ap (λ r. by_order r ((path, value) ∷ e ∷ es) ((e.0, value) ∷ es) (e ∷ put order path value es)) is
      ∙ ap (λ (x : Bytes). (x, value) ∷ es) (sym (exact_bytes path e.0 is))

  pub put-greater : (path : Bytes) (value : X) (e : Bytes × X) (es : Entries X) → order path e.0 ≡ Greater → put order path value (e ∷ es) ≡ e ∷ put order path value es
  put-greater path value e es is = ap (λ r. by_order r ((path, value) ∷ e ∷ es) ((e.0, value) ∷ es) (e ∷ put order path value es)) is

  pub sorted-put : (path : Bytes) (value : X) (es : Entries X) → is_sorted order es ≡ true → is_sorted order (put order path value es) ≡ true
  sorted-put path value es h = true-from_T _ (is_sorted-put order nat_list_cmp_total path value es (subst T (sym h) tt))

  pub entries-map : (es : Entries X) → is_sorted order es ≡ true → entries (map_of es) ≡ es
  entries-map es h = entries-from_sorted order es (subst T (sym h) tt)

  pub insert-map : (path : Bytes) (value : X) (es : Entries X) → is_sorted order es ≡ true → map_of (put order path value es) ≡ insert (map_of es) path value
  insert-map path value es h =
      same_entries_map _ _ (entries-map (put order path value es) (sorted-put path value es h)
      ∙ ap (put order path value) (sym (entries-map es h)) ∙ sym (entries-insert nat_list_cmp_total (map_of es) path value))

  pub entries-empty : entries (empty {X = X} {R = order}) ≡ []
  entries-empty = nil_from_length _ (sym (len-entries (empty {X = X} {R = order})) ∙ len-empty order X)

  pub empty-map : map_of {X = X} [] ≡ empty
  empty-map = same_entries_map _ _ (entries-map [] refl ∙ sym entries-empty)

  -- ---- the keys and the length of the map

  pub keys-map : (es : Entries X) → is_sorted order es ≡ true → keys (map_of es) ≡ map (λ (e : Bytes × X). e.0) es
  keys-map es h = ap (map (λ (e : Bytes × X). e.0)) (entries-map es h)

  pub len-map : (es : Entries X) → is_sorted order es ≡ true → len (map_of es) ≡ length es
  len-map es h = len-entries (map_of es) ∙ ap length (entries-map es h)

  -- ---- the entries whose paths pass a test

  pub sorted-where : (f : Bytes → Bool) (es : Entries X) → is_sorted order es ≡ true → is_sorted order (where_key order f es) ≡ true
  sorted-where f es h = true-from_T _ (is_sorted-where_key order f es (subst T (sym h) tt))

  find-where : (f : Bytes → Bool) (es : Entries X) (q : Bytes) → find order q (where_key order f es) ≡ cond (f q) (find order q es) None
  find-where f es q = find-where_key order f q (λ x h. ap f (sym (exact_bytes q x h))) es

  -- the entries whose paths pass a test make the part of the map that passes it
  retain-map : (f : Bytes → Bool) (es : Entries X) → is_sorted order es ≡ true → map_of (where_key order f es) ≡ retain_keys (map_of es) f
  retain-map f es h = ext _ _ (λ q.
      get-map (where_key order f es) q (sorted-where f es h) ∙ find-where f es q
      ∙ sym (get-retain (map_of es) f q ∙ ap (λ o. cond (f q) o None) (get-map es q h)))

  left_out : (m : Map X) (path q : Bytes) → q ≡ path → cond (not (same q path)) (get m q) None ≡ get (remove m path) q
  left_out m path q e =
      ap (λ b. cond (not b) (get m q) None) (ap (λ (x : Bytes). same x path) e ∙ same-refl path) ∙ sym (ap (get (remove m path)) e ∙ get-remove_same m path)

  left_in : (m : Map X) (path q : Bytes) → q ≢ path → cond (not (same q path)) (get m q) None ≡ get (remove m path) q
  left_in m path q n = ap (λ b. cond (not b) (get m q) None) (same-false q path n) ∙ sym (get-remove_other m path q n)

  pub remove-map : (path : Bytes) (es : Entries X) → is_sorted order es ≡ true → map_of (others path es) ≡ remove (map_of es) path
  remove-map path es h = retain-map (λ p. not (same p path)) es h ∙ ext _ _ (λ q.
      get-retain (map_of es) (λ p. not (same p path)) q ∙ ⊎_elim (left_out (map_of es) path q) (left_in (map_of es) path q) (either q path))
