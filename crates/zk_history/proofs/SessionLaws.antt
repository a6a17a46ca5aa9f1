-- A sorted map of std as the finite map of the open sessions.
use Rattle.std.proofs.Common.{◌≡◌, ℤ, cond, Option, Some, None, List, [], ◌∷◌, refl, sym, ap, ◌∙◌, subst}
use Rattle.std.specs.Prelude.{T}
use Rattle.std.specs.declared.cmp.Ordering.{Ordering}
use Rattle.std.specs.declared.cmp.Ordering.TheVariants.{Less}
use Rattle.std.specs.List.{AllByRecursion}
use Rattle.std.specs.List.Sorted.{IsStrictlySortedBy}
use Rattle.std.specs.FinMap.Entries.{below_all}
use Rattle.std.specs.Ordering.{int_cmp, is_lt, eq_by_cmp}
use Rattle.std.specs.Cmp.{int_cmp_total, eq_by_cmp_equiv}
use Rattle.std.specs.Map.{lookup, keys_of}
use Rattle.std.specs.BTreeMap.{is_at}
use Rattle.std.specs.FinMap.{find, is_sorted, get, insert, remove, from_entries, same_map, int_cmp-IsAntisymmetric, get-from_entries, get-insert, get-remove}
use Rattle.zk_service.specs.States.{Session, Sessions}
use Rattle.zx_base.proofs.Booleans.{T-and}

abbrev pub Entries : Type 0
Entries = List (ℤ × Session)

abbrev pub numbered : Entries → Sessions
numbered es = from_entries es

find-lookup : (id : ℤ) (es : Entries) → find int_cmp id es ≡ lookup (is_at (int_cmp id)) es
find-lookup id [] = refl
find-lookup id (e ∷ es) = ap (cond (eq_by_cmp int_cmp id e.0) (Some e.1)) (find-lookup id es)

pub get-numbered : (es : Entries) (id : ℤ) → get (numbered es) id ≡ lookup (is_at (int_cmp id)) es
get-numbered es id = get-from_entries int_cmp_total es id ∙ find-lookup id es

-- the sessions after the one of a number is put or removed
updated : (es fs : Entries) (id : ℤ) (x : Option Session) → ((q : ℤ) → lookup (is_at (int_cmp q)) fs ≡ cond (is_at (int_cmp id) q) x (lookup (is_at (int_cmp q)) es))
    → (q : ℤ) → get (numbered fs) q ≡ cond (eq_by_cmp int_cmp q id) x (get (numbered es) q)
updated es fs id x updates q =
    get-numbered fs q ∙ updates q ∙ ap (λ b. cond b x (lookup (is_at (int_cmp q)) es)) ((eq_by_cmp_equiv int_cmp_total).symm id q)
    ∙ ap (cond (eq_by_cmp int_cmp q id) x) (sym (get-numbered es q))

pub numbered-insert : (es fs : Entries) (id : ℤ) (x : Session) → ((q : ℤ) → lookup (is_at (int_cmp q)) fs ≡ cond (is_at (int_cmp id) q) (Some x) (lookup (is_at (int_cmp q)) es))
    → numbered fs ≡ insert (numbered es) id x
numbered-insert es fs id x updates =
    same_map int_cmp_total int_cmp-IsAntisymmetric _ _ (λ q. updated es fs id (Some x) updates q ∙ sym (get-insert int_cmp_total (numbered es) id x q))

pub numbered-remove : (es fs : Entries) (id : ℤ) → ((q : ℤ) → lookup (is_at (int_cmp q)) fs ≡ cond (is_at (int_cmp id) q) None (lookup (is_at (int_cmp q)) es))
    → numbered fs ≡ remove (numbered es) id
numbered-remove es fs id updates =
    same_map int_cmp_total int_cmp-IsAntisymmetric _ _ (λ q. updated es fs id None updates q ∙ sym (get-remove int_cmp_total (numbered es) id q))

-- ---- the sessions in the order of their numbers

below_all-from_sorted : (id : ℤ) (es : Entries) → AllByRecursion (λ y. int_cmp id y ≡ Less) (keys_of es) → T (below_all int_cmp id es)
below_all-from_sorted id [] h = tt
below_all-from_sorted id (e ∷ es) h = T-and _ _ (subst (λ (o : Ordering). T (is_lt o)) (sym h.0) tt) (below_all-from_sorted id es h.1)

is_sorted-from_keys : (es : Entries) → IsStrictlySortedBy int_cmp (keys_of es) → T (is_sorted int_cmp es)
unfolding IsStrictlySortedBy
is_sorted-from_keys [] h = tt
is_sorted-from_keys (e ∷ es) h = T-and _ _ (below_all-from_sorted e.0 es h.0) (is_sorted-from_keys es h.1)
