-- What a range of one key finds.
use Rattle.std.proofs.Common.{◌≡◌, ◌≢◌, cond, List, [], ◌∷◌, map, Option, Some, None, refl, sym, ap, ◌∙◌, subst, ⊎_elim}
use Rattle.std.proofs.lemmas.List.{nil_from_length}
use Rattle.std.specs.Cmp.Lexicographic.{nat_list_cmp_total}
use Rattle.std.specs.FinMap.{get, insert, retain_keys, empty, entries, put, values, entries-insert, len-entries, len-empty, get-empty}
use Rattle.std.specs.Ordering.{nat_cmp}
use Rattle.std.specs.Cmp.Lexicographic.{slice_cmp}
use Rattle.ev_types.specs.declared.answer.Kv.{Kv}
use Rattle.ev_types.specs.Ranges.{Keys, is_within, in_range, found, found_among}
use Rattle.zx_base.specs.Maps.{Bytes}
use Rattle.zx_base.proofs.MapLaws.{either, same-refl, same-false, get-retain, get-insert_same, get-insert_other, ext}
use Rattle.ev_types.specs.Reads.{key_range, one_found}

pub entries-empty : {X : Type 0} → entries (empty {X = X} {R = slice_cmp nat_cmp}) ≡ []
entries-empty {X = X} = nil_from_length _ (sym (len-entries _) ∙ len-empty (slice_cmp nat_cmp) X)

abbrev alone : Bytes → Option Kv → Keys
alone k None = empty
alone k (Some kv) = insert empty k kv

alone_same : (k : Bytes) (o : Option Kv) → get (alone k o) k ≡ o
alone_same k None = get-empty (slice_cmp nat_cmp) k
alone_same k (Some kv) = get-insert_same empty k kv

alone_other : (k q : Bytes) (o : Option Kv) → q ≢ k → get (alone k o) q ≡ None
alone_other k q None n = get-empty (slice_cmp nat_cmp) q
alone_other k q (Some kv) n = get-insert_other empty k q kv n ∙ get-empty (slice_cmp nat_cmp) q

one_key : (k : Bytes) (m : Keys) → retain_keys m (is_within k []) ≡ alone k (get m k)
unfolding is_within
one_key k m = ext _ _ (λ q. ⊎_elim
    (λ e. subst (λ (x : Bytes). get (retain_keys m (is_within k [])) x ≡ get (alone k (get m k)) x) (sym e)
    (get-retain m (is_within k []) k ∙ ap (λ b. cond b (get m k) None) (same-refl k) ∙ sym (alone_same k (get m k))))
    (λ n. get-retain m (is_within k []) q ∙ ap (λ b. cond b (get m q) None) (same-false q k n) ∙ sym (alone_other k q (get m k) n))
    (either q k))

abbrev listed : Option Kv → List Kv
listed None = []
listed (Some kv) = kv ∷ []

values-alone : (k : Bytes) (o : Option Kv) → values (alone k o) ≡ listed o
values-alone k None = ap (map (λ (e : Bytes × Kv). e.1)) (entries-empty {X = Kv})
values-alone k (Some kv) = ap (map (λ (e : Bytes × Kv). e.1)) (entries-insert nat_list_cmp_total empty k kv ∙ ap (λ (es : List (Bytes × Kv)). put (slice_cmp nat_cmp) k kv es) (entries-empty {X = Kv}))

found_listed : (k : Bytes) (o : Option Kv) → found_among (key_range k) (listed o) ≡ one_found o
found_listed k None = refl
found_listed k (Some kv) = refl

pub found-key : (k : Bytes) (m : Keys) → found (key_range k) m ≡ one_found (get m k)
unfolding in_range
found-key k m = ap (λ (s : Keys). found_among (key_range k) (values s)) (one_key k m) ∙ ap (found_among (key_range k)) (values-alone k (get m k)) ∙ found_listed k (get m k)
