-- The keys that stand for a state, after a lease lapsed.
use Rattle.std.proofs.Common.{◌≡◌, ◌≢◌, ℕ, ℤ, pos, Bool, true, false, cond, List, Option, Some, None, refl, sym, ap, ◌∙◌, subst, ◌⊎◌, inl, inr, ⊎_elim}
use Rattle.std.specs.Prelude.{◌&&◌, ◌++◌}
use Rattle.std.specs.Option.{option_map}
use Rattle.std.specs.Ordering.{int_eq, int_cmp, is_eq, eq_by_cmp}
use Rattle.std.specs.Cmp.{int_cmp_total}
use Rattle.std.specs.FinMap.{get, get-insert}
use Rattle.std.proofs.lemmas.Bool.{and_from, false≢true}
use Rattle.std.proofs.lemmas.Bool.Decides.{Decides-int_eq}
use Rattle.std.proofs.lemmas.Cmp.{tied_itself}
use Rattle.std.proofs.lemmas.Map.Lookups.{exact_signed}
use Rattle.ev_types.specs.declared.answer.Kv.{Kv}
use Rattle.ev_types.specs.Ranges.{Keys}
use Rattle.ev_types.specs.Store.{Store, present}
use Rattle.ev_types.specs.Denials.{is_lease}
use Rattle.ev_types.specs.Lapses.{is_leased, lapse}
use Rattle.ev_types.proofs.Lapsed.{lapse-there, lapse-keys}
use Rattle.zk_model.specs.declared.node.Node.{Node}
use Rattle.zk_model.specs.Znodes.{Tree, num_children, owned}
use Rattle.zk_service.specs.States.{State, Session, session_at, lapsed_in}
use Rattle.zx_base.specs.Maps.{Bytes}
use Rattle.zn_layout.specs.Keys.{Key, HeadKey, DataKey, CountsKey, SessionKey, LeaseKey, front, key_bytes}
use Rattle.zn_layout.specs.StandsFor.{Stored, stored_of, at, is_counted, is_counted_in, DataMeans, CountsMean, NodesMean, LifeMeans, Means, HeadMeans, StandsFor}
use Rattle.zx_base.proofs.Orders.{equal-from_is_eq}
use Rattle.zx_base.proofs.Booleans.{and-first}

-- ---- sessions by their numbers

number_itself : (n : ℤ) → eq_by_cmp int_cmp n n ≡ true
number_itself n = ap is_eq (tied_itself int_cmp_total n)

number_other : (n k : ℤ) → n ≢ k → eq_by_cmp int_cmp n k ≡ false
number_other n k apart = elim (is_eq (int_cmp n k)) as (λ b. is_eq (int_cmp n k) ≡ b → b ≡ false) [ true ↦ λ h. absurd (apart (exact_signed n k (equal-from_is_eq _ h))) | false ↦ λ h. refl ] refl

-- the session after its lapse
abbrev lapsed_now : Session → Session
lapsed_now x = record x { lapsed = true }

session-same : (s : State) (id : ℤ) (o : Option Session) → session_at id s ≡ o → session_at id (lapsed_in s id o) ≡ option_map lapsed_now o
session-same s id None e = e
session-same s id (Some x) e = get-insert int_cmp_total s.sessions id (lapsed_now x) id ∙ ap (λ b. cond b (Some (lapsed_now x)) (get s.sessions id)) (number_itself id)

session-other : (s : State) (id n : ℤ) (o : Option Session) → n ≢ id → session_at n (lapsed_in s id o) ≡ session_at n s
session-other s id n None apart = refl
session-other s id n (Some x) apart = get-insert int_cmp_total s.sessions id (lapsed_now x) n ∙ ap (λ b. cond b (Some (lapsed_now x)) (get s.sessions n)) (number_other n id apart)

tree-lapsed : (s : State) (id : ℤ) (o : Option Session) → (lapsed_in s id o).tree ≡ s.tree
tree-lapsed s id None = refl
tree-lapsed s id (Some x) = refl

-- ---- what the lapse takes

module _ (id : ℤ) (low : is_lease id ≡ true) where
  not_zero : int_eq id (pos 0) ≡ false
  not_zero = elim (int_eq id (pos 0)) as (λ b. int_eq id (pos 0) ≡ b → b ≡ false) [ true ↦ λ h. absurd (let e : id ≡ pos 0 = (Decides-int_eq id (pos 0)).0 h in let bad : is_lease (pos 0) ≡ true = subst (λ n. is_lease n ≡ true) e low in cc) | false ↦ λ h. refl ] refl

  other_lease : (kv : Kv) (n : ℤ) → kv.lease ≡ n → int_eq id n ≡ false → is_leased id (Some kv) ≡ false
  other_lease kv n e apart = (λ i. low i && int_eq id (e i)) ∙ apart

  own_lease : (kv : Kv) → kv.lease ≡ id → is_leased id (Some kv) ≡ true
  own_lease kv e = and_from (is_lease id) (int_eq id kv.lease) low ((Decides-int_eq id kv.lease).1 (sym e))

  free : (kv : Kv) → kv.lease ≡ pos 0 → is_leased id (Some kv) ≡ false
  free kv e = other_lease kv (pos 0) e not_zero

  free_data : (w : Option Node) (o : Option Kv) → DataMeans w (stored_of o) → is_leased id o ≡ false
  free_data w None h = refl
  free_data None (Some kv) h = absurd h
  free_data (Some n) (Some kv) h = free kv h.free

  free_counts : (w : Option Node) (children : ℕ) (b : Bool) (o : Option Kv) → CountsMean w children b (stored_of o) → is_leased id o ≡ false
  free_counts w children b None h = refl
  free_counts None children b (Some kv) h = absurd h
  free_counts (Some n) children true (Some kv) h = free kv h.free
  free_counts (Some n) children false (Some kv) h = absurd h

  free_nodes : (x : Option Session) (ps : List Bytes) (o : Option Kv) → NodesMean x ps (stored_of o) → is_leased id o ≡ false
  free_nodes x ps None h = refl
  free_nodes None ps (Some kv) h = absurd h
  free_nodes (Some x) ps (Some kv) h = free kv h.free

  free_head : (s : State) (o : Option Kv) → HeadMeans o s → is_leased id o ≡ false
  free_head s None h = absurd h
  free_head s (Some kv) h = free kv h.free

  life_other : (i : ℕ) (x : Option Session) (o : Option Kv) → int_eq id (pos i) ≡ false → LifeMeans i x (stored_of o) → is_leased id o ≡ false
  life_other i x None apart h = refl
  life_other i None (Some kv) apart h = absurd h
  life_other i (Some x) (Some kv) apart h = other_lease kv (pos i) h.leased apart

  -- the lapsed session's own key goes, and the session is lapsed
  life_own : (i : ℕ) (x : Option Session) (o : Option Kv) → pos i ≡ id → LifeMeans i x (stored_of o) → LifeMeans i (option_map lapsed_now x) (stored_of (cond (is_leased id o) None o))
  life_own i None None e h = tt
  life_own i None (Some kv) e h = absurd h
  life_own i (Some x) None e h = refl
  life_own i (Some x) (Some kv) e h = subst (λ b. LifeMeans i (Some (lapsed_now x)) (stored_of (cond b None (Some kv)))) (sym (own_lease kv (h.leased ∙ e))) refl

  -- a session's nodes stay as they were, lapsed or not
  nodes_own : (x : Option Session) (ps : List Bytes) (o : Option Stored) → NodesMean x ps o → NodesMean (option_map lapsed_now x) ps o
  nodes_own None ps o h = h
  nodes_own (Some x) ps None h = h
  nodes_own (Some x) ps (Some w) h = h

  module _ (m n : Keys) (left : (k : Bytes) → get n k ≡ cond (is_leased id (get m k)) None (get m k)) (s : State) where
    abbrev next : State
    next = lapsed_in s id (session_at id s)

    stays : (k : Key) → is_leased id (at m k) ≡ false → at n k ≡ at m k
    stays k h = left (key_bytes k) ∙ ap (λ b. cond b None (at m k)) h

    same_or_other : (i : ℕ) → (pos i ≡ id) ⊎ (int_eq id (pos i) ≡ false)
    same_or_other i = elim (int_eq id (pos i)) as (λ b. int_eq id (pos i) ≡ b → (pos i ≡ id) ⊎ (int_eq id (pos i) ≡ false)) [ true ↦ λ h. inl (sym ((Decides-int_eq id (pos i)).0 h)) | false ↦ λ h. inr h ] refl

    other_number : (i : ℕ) → int_eq id (pos i) ≡ false → pos i ≢ id
    other_number i h e = false≢true (sym h ∙ (Decides-int_eq id (pos i)).1 (sym e))

    session-own : (i : ℕ) → pos i ≡ id → session_at (pos i) next ≡ option_map lapsed_now (session_at (pos i) s)
    session-own i e = ap (λ j. session_at j next) e ∙ session-same s id (session_at id s) refl ∙ ap (λ j. option_map lapsed_now (session_at j s)) (sym e)

    -- a session keeps its layout, lapsed or not
    counted_own : (x : Option Session) → is_counted (option_map lapsed_now x) ≡ is_counted x
    counted_own None = refl
    counted_own (Some x) = refl

    counted_at : (i : ℤ) → is_counted (session_at i next) ≡ is_counted (session_at i s)
    counted_at i = elim (int_eq i id) as (λ b. int_eq i id ≡ b → is_counted (session_at i next) ≡ is_counted (session_at i s)) [
      | true ↦ λ h. let e = (Decides-int_eq i id).0 h in ap (λ j. is_counted (session_at j next)) e ∙ ap is_counted (session-same s id (session_at id s) refl) ∙ counted_own (session_at id s) ∙ ap (λ j. is_counted (session_at j s)) (sym e)
      | false ↦ λ h. ap is_counted (session-other s id i (session_at id s) (λ e. false≢true (sym h ∙ (Decides-int_eq i id).1 e)))
    ] refl

    counted_in : (n : Option Node) → is_counted_in next n ≡ is_counted_in s n
    counted_in None = refl
    counted_in (Some n) = counted_at n.owner

    nodes_mean : (i : ℕ) → Means s (SessionKey i) (stored_of (at m (SessionKey i))) → Means next (SessionKey i) (stored_of (at m (SessionKey i)))
    nodes_mean i h = subst (λ (t : Tree). NodesMean (session_at (pos i) next) (owned t (pos i)) (stored_of (at m (SessionKey i)))) (sym (tree-lapsed s id (session_at id s))) (⊎_elim
        (λ e. subst (λ (x : Option Session). NodesMean x (owned s.tree (pos i)) (stored_of (at m (SessionKey i)))) (sym (session-own i e)) (nodes_own (session_at (pos i) s) _ _ h))
        (λ apart. subst (λ (x : Option Session). NodesMean x (owned s.tree (pos i)) (stored_of (at m (SessionKey i)))) (sym (session-other s id (pos i) (session_at id s) (other_number i apart))) h)
        (same_or_other i))

    life_means : (i : ℕ) → Means s (LeaseKey i) (stored_of (at m (LeaseKey i))) → Means next (LeaseKey i) (stored_of (at n (LeaseKey i)))
    life_means i h = ⊎_elim
        (λ e. subst (λ (x : Option Session). LifeMeans i x (stored_of (at n (LeaseKey i)))) (sym (session-own i e))
        (subst (λ (o : Option Kv). LifeMeans i (option_map lapsed_now (session_at (pos i) s)) (stored_of o)) (sym (left (key_bytes (LeaseKey i)))) (life_own i (session_at (pos i) s) (at m (LeaseKey i)) e h)))
        (λ apart. subst (λ (x : Option Session). LifeMeans i x (stored_of (at n (LeaseKey i)))) (sym (session-other s id (pos i) (session_at id s) (other_number i apart)))
        (subst (λ (o : Option Kv). LifeMeans i (session_at (pos i) s) (stored_of o)) (sym (stays (LeaseKey i) (life_other i (session_at (pos i) s) (at m (LeaseKey i)) apart h))) h))
        (same_or_other i)

    along : (k : Key) → is_leased id (at m k) ≡ false → Means next k (stored_of (at m k)) → Means next k (stored_of (at n k))
    along k h means = subst (λ (o : Option Kv). Means next k (stored_of o)) (sym (stays k h)) means

    each_means : (k : Key) → Means s k (stored_of (at m k)) → Means next k (stored_of (at n k))
    each_means HeadKey h = tt
    each_means (DataKey p) h = along (DataKey p) (free_data (get s.tree p) (at m (DataKey p)) h)
        (subst (λ (t : Tree). DataMeans (get t p) (stored_of (at m (DataKey p)))) (sym (tree-lapsed s id (session_at id s))) h)
    each_means (CountsKey p) h = along (CountsKey p) (free_counts (get s.tree p) (num_children s.tree p) (is_counted_in s (get s.tree p)) (at m (CountsKey p)) h)
        (subst (λ (t : Tree). CountsMean (get t p) (num_children t p) (is_counted_in next (get t p)) (stored_of (at m (CountsKey p)))) (sym (tree-lapsed s id (session_at id s)))
        (subst (λ (b : Bool). CountsMean (get s.tree p) (num_children s.tree p) b (stored_of (at m (CountsKey p)))) (sym (counted_in (get s.tree p))) h))
    each_means (SessionKey i) h = along (SessionKey i) (free_nodes (session_at (pos i) s) (owned s.tree (pos i)) (at m (SessionKey i)) h) (nodes_mean i h)
    each_means (LeaseKey i) h = life_means i h

    head_lapsed : (o : Option Session) (kv : Option Kv) → HeadMeans kv s → HeadMeans kv (lapsed_in s id o)
    head_lapsed o None h = absurd h
    head_lapsed None (Some kv) h = h
    head_lapsed (Some x) (Some kv) h = record { fits = h.fits; value = h.value; zxid = h.zxid; number = h.number; free = h.free }

    -- what is there was there
    was_there : (b : Bool) (o : Option Kv) (kv : Kv) → cond b None o ≡ Some kv → o ≡ Some kv
    was_there true o kv e = absurd cc
    was_there false o kv e = e

    there : (k : Bytes) (kv : Kv) → get n k ≡ Some kv → get m k ≡ Some kv
    there k kv e = was_there (is_leased id (get m k)) (get m k) kv (sym (left k) ∙ e)

    pub stands_lapsed : StandsFor m s → StandsFor n next
    stands_lapsed h = record {
      head = subst (λ (o : Option Kv). HeadMeans o next) (sym (stays HeadKey (free_head s (at m HeadKey) h.head))) (head_lapsed (session_at id s) (at m HeadKey) h.head);
      each = λ k. each_means k (h.each k);
      layout = record {
        no_other = λ rest kv e. h.layout.no_other rest kv (there (front ++ rest) kv e);
        least = λ k kv e. h.layout.least k kv (there k kv e);
        most = λ k kv e. h.layout.most k kv (there k kv e);
      };
    }

pub lapse-stands : (s new : Store) (id : ℤ) (st : State) → StandsFor (present s) st → lapse s id ≡ Some new → StandsFor (present new) (lapsed_in st id (session_at id st))
lapse-stands s new id st h e =
    stands_lapsed id (and-first (is_lease id) _ (lapse-there s new id e)) (present s) (present new) (λ k. lapse-keys s new id k e) st h
