-- The changes at the end of a session are those from its state to the one in which it has ended.
use Rattle.std.proofs.Common.{◌≡◌, ◌≢◌, ℕ, ℤ, pos, ◌+◌, ◌-◌, Bool, true, false, cond, List, [], ◌∷◌, Option, Some, None, refl, sym, ap, ◌∙◌, subst, ◌||◌, arith, eqb-true}
use Rattle.std.specs.Prelude.{◌≤ℤ◌, ◌&&◌, nat_abs, nat_eq, option_map}
use Rattle.std.specs.List.{list_any, count_by}
use Rattle.std.specs.List.Sorted.{IsStrictlySortedBy}
use Rattle.std.specs.Ordering.{int_eq, nat_cmp}
use Rattle.std.specs.Cmp.Lexicographic.{slice_cmp}
use Rattle.std.specs.FinMap.{get, keys, remove}
use Rattle.std.proofs.lemmas.Bool.Decides.{Decides-int_eq}
use Rattle.std.proofs.lemmas.Bool.{eqb-false, true≢false}
use Rattle.std.proofs.lemmas.Int.{ints}
use Rattle.std.proofs.lemmas.List.Sums.{sum_by-cons}
use Rattle.zx_base.specs.Maps.{Bytes, same}
use Rattle.zx_base.proofs.MapLaws.{ext}
use Rattle.zx_base.proofs.Options.{some_is}
use Rattle.zk_model.specs.declared.node.Node.{Node}
use Rattle.zk_model.specs.Paths.{root, is_child}
use Rattle.zk_model.specs.Single.{without_child}
use Rattle.zk_model.specs.Znodes.{num_children, owned, owned_by}
use Rattle.zk_model.proofs.Paths.{parent-from_child}
use Rattle.zk_service.specs.States.{State, Session, IsSound, session_at, session_ended}
use Rattle.zk_service.proofs.Owned.{if_owned, get-owned_as}
use Rattle.zk_service.proofs.SessionMaps.{at-remove_same, at-remove_other}
use Rattle.zn_layout.specs.declared.record.CountRec.{CountRec}
use Rattle.zn_layout.specs.declared.record.SessionRec.{SessionRec}
use Rattle.zn_layout.specs.Changes.{Put, last, put_or_else}
use Rattle.zn_layout.specs.Fits.{KeyFits, ChangesFit}
use Rattle.zn_layout.specs.Keys.{Key, HeadKey, DataKey, CountsKey, SessionKey, LeaseKey}
use Rattle.zn_layout.specs.Records.{counts_value, has_counts, IsCountRec}
use Rattle.zn_layout.specs.StandsFor.{Stored, is_counted, is_counted_in, DataMeans, CountsMean, NodesMean, LifeMeans, counts_record, nodes_record}
use Rattle.zn_layout.proofs.Counted.{counted-same, plain-counted}
use Rattle.zn_layout.specs.Counts.{fewer}
use Rattle.zs_close.specs.Ending.{end_changes}
use Rattle.zs_close.proofs.Removed.{left_over, removed_all-is, num_children-removed_all, AreThere}
use Rattle.zs_close.proofs.Members.{rising-apart, IsOwned, owned-among, owned-there, any-member}
use Rattle.zs_close.proofs.Written.{gone_if, put_if, put_of, life_gone, written-head, written-data, written-counts, written-session, written-life}

-- ---- what the keys of a node mean where a child of it goes

data_left : (child : Bool) (z : ℤ) (n : Option Node) (o : Option Stored) → DataMeans n o → DataMeans (left_over false child z n) o
data_left false z n o h = h
data_left true z None o h = h
data_left true z (Some n) None h = h
data_left true z (Some n) (Some o) h = record { stored = h.stored; fits = h.fits; value = h.value; made = h.made; changed = h.changed; free = h.free }

lives_none : (id : ℕ) (x : Option Session) (o : Option Stored) → ((y : Session) → x ≡ Some y → y.lapsed ≡ true) → LifeMeans id x o → LifeMeans id None o
lives_none id None o lapsed h = h
lives_none id (Some x) None lapsed h = tt
lives_none id (Some x) (Some o) lapsed h = let yes = lapsed x refl in let no = h.alive in cc

nodes_along : (x : Option Session) (a b : List Bytes) (o : Option Stored) → ((y : Session) → x ≡ Some y → b ≡ a) → NodesMean x a o → NodesMean x b o
nodes_along None a b None same h = h
nodes_along None a b (Some o) same h = h
nodes_along (Some y) a b o same h = subst (λ (ps : List Bytes). NodesMean (Some y) ps o) (sym (same y refl)) h

uncounted_none : (x : Node) (m n : ℕ) (b : Bool) (o : Option Stored) → CountsMean (Some x) m false o → CountsMean None n b o
uncounted_none x m n b None h = tt
uncounted_none x m n b (Some o) h = absurd h

and-true : (b : Bool) → (b && true) ≡ b
and-true true = refl
and-true false = refl

and-false : (b : Bool) → (b && false) ≡ false
and-false true = refl
and-false false = refl

no_children : (r : Bytes) (ps : List Bytes) → list_any (is_child r) ps ≡ false → count_by (is_child r) ps ≡ 0
no_children r [] h = refl
no_children r (p ∷ ps) h =
    elim (is_child r p) as (λ b. is_child r p ≡ b → (b || list_any (is_child r) ps) ≡ false → count_by (is_child r) (p ∷ ps) ≡ 0) [
      | true ↦ λ e f. absurd (cc)
      | false ↦ λ e f. sum_by-cons (λ x. cond (is_child r x) 1 0) p ps ∙ (λ i. cond (e i) 1 0 + no_children r ps f i)
    ] refl h

module _ (s : State) (z id : ℤ) (alive : Bool) (counts : Bytes → Option CountRec) (sound : IsSound s) (real : pos 1 ≤ℤ id)
    (told : (q : Bytes) (n : Node) → get s.tree q ≡ Some n → n.owner ≡ pos 0 → counts q ≡ Some (counts_record n (num_children s.tree q))) (session : Session) (opened : session_at id s ≡ Some session)
    (rising : IsStrictlySortedBy (slice_cmp nat_cmp) (owned s.tree id))
    (lapsed : alive ≡ false → (x : Session) → session_at id s ≡ Some x → x.lapsed ≡ true) where
  abbrev ps : List Bytes
  ps = owned s.tree id

  -- its nodes, as they are listed
  abbrev nodes : SessionRec
  nodes = nodes_record session ps

  abbrev new : State
  new = session_ended s z id

  mine : (r : Bytes) → list_any (same r) ps ≡ true → IsOwned s.tree id r
  mine r h = owned-there s.tree id r h

  are_there : AreThere s.tree ps
  are_there r h = let own = mine r h in (own.node, own.there)

  after : (r : Bytes) → get new.tree r ≡ left_over (list_any (same r) ps) (list_any (is_child r) ps) z (get s.tree r)
  after r = removed_all-is ps s.tree z r

  fewer_left : (r : Bytes) → num_children new.tree r + count_by (is_child r) ps ≡ num_children s.tree r
  fewer_left r = num_children-removed_all ps s.tree z r are_there (rising-apart ps rising)

  -- ---- a parent is there, and is no node of a session

  record IsPlain (r : Bytes) : Type 0 where
    node : Node
    there : get s.tree r ≡ Some node
    plain : node.owner ≡ pos 0

  not_root : (p : Bytes) → IsOwned s.tree id p → p ≢ root
  not_root p own e =
      let top = sound.rooted in
      let is : own.node ≡ top.node = some_is (sym own.there ∙ ap (get s.tree) e ∙ top.there) in
      let zero : pos 0 ≡ id = sym top.plain ∙ sym (ap (λ (n : Node). n.owner) is) ∙ own.owner in
      omega (arith, ints)

  parent_plain : (r : Bytes) → list_any (is_child r) ps ≡ true → IsPlain r
  parent_plain r h =
      let m = any-member (is_child r) ps h in
      let own = mine m.path m.inside in
      let up = sound.parents m.path own.node own.there (not_root m.path own) in
      let here : up.path ≡ r = some_is (sym up.is ∙ parent-from_child m.path r m.passes) in
      record { node = up.has.node; there = sym (ap (get s.tree) here) ∙ up.has.there; plain = up.has.plain }

  plain_not_mine : (r : Bytes) → IsPlain r → list_any (same r) ps ≡ true → ⊥
  plain_not_mine r p h =
      let own = mine r h in
      let is : own.node ≡ p.node = some_is (sym own.there ∙ p.there) in
      let zero : pos 0 ≡ id = sym p.plain ∙ sym (ap (λ (n : Node). n.owner) is) ∙ own.owner in
      omega (arith, ints)

  not_mine : (r : Bytes) → IsPlain r → list_any (same r) ps ≡ false
  not_mine r p = elim (list_any (same r) ps) as (λ b. list_any (same r) ps ≡ b → b ≡ false) [ true ↦ λ h. absurd (plain_not_mine r p h) | false ↦ λ h. refl ] refl

  -- a node that goes has no children
  pub childless : (r : Bytes) → list_any (same r) ps ≡ true → list_any (is_child r) ps ≡ false
  childless r h = elim (list_any (is_child r) ps) as (λ b. list_any (is_child r) ps ≡ b → b ≡ false) [ true ↦ λ e. absurd (plain_not_mine r (parent_plain r e) h) | false ↦ λ e. refl ] refl

  -- ---- which nodes have a record of their counts

  -- a node that stays is no node of this session
  stays_foreign : (r : Bytes) (n : Node) → get s.tree r ≡ Some n → list_any (same r) ps ≡ false → n.owner ≢ id
  stays_foreign r n there h e = true≢false (sym (owned-among s.tree id r n there e) ∙ h)

  counted_still : (r : Bytes) (n : Node) → n.owner ≢ id → is_counted_in new (Some n) ≡ is_counted_in s (Some n)
  counted_still r n apart = counted-same s new n (at-remove_other s.sessions id n.owner apart)

  counted_left : (r : Bytes) (o : Option Node) → get s.tree r ≡ o → list_any (same r) ps ≡ false → is_counted_in new o ≡ is_counted_in s o
  counted_left r None there h = refl
  counted_left r (Some n) there h = counted_still r n (stays_foreign r n there h)

  counted_mine : (r : Bytes) → list_any (same r) ps ≡ true → is_counted_in s (get s.tree r) ≡ has_counts session.layout
  counted_mine r h =
      let own = mine r h in
      ap (is_counted_in s) own.there ∙ ap (λ (i : ℤ). is_counted (session_at i s)) own.owner ∙ ap is_counted opened

  -- ---- the nodes' keys

  data_fits : (r : Bytes) → KeyFits z (gone_if (list_any (same r) ps)) (DataKey r) s new
  data_fits r = elim (list_any (same r) ps) as (λ b. get new.tree r ≡ left_over b (list_any (is_child r) ps) z (get s.tree r) → KeyFits z (gone_if b) (DataKey r) s new) [
    | true ↦ λ is. subst (λ (n : Option Node). DataMeans n None) (sym is) tt
    | false ↦ λ is o was. subst (λ (n : Option Node). DataMeans n o) (sym is) (data_left (list_any (is_child r) ps) z (get s.tree r) o was)
  ] (after r)

  -- a parent's counts are put
  counts_within : (r : Bytes) (n : Node) → get s.tree r ≡ Some n → IsCountRec (counts_record n (num_children new.tree r))
  counts_within r n there =
      let c = sound.counted r n there in
      let enough = c.counted in
      let less = fewer_left r in
      record { children = omega (arith, ints); fewer = omega (arith, ints); creates = c.most }

  counts_is : (r : Bytes) (n : Node) → fewer (counts_record n (num_children s.tree r)) (count_by (is_child r) ps) ≡ counts_record n (num_children new.tree r)
  counts_is r n =
      let less = fewer_left r in
      let left : num_children s.tree r - count_by (is_child r) ps ≡ num_children new.tree r = omega arith in
      ap (λ (k : ℕ). record { creates = n.creates; children = pos k }) left

  parent_counted : (r : Bytes) (p : IsPlain r) → is_counted_in new (Some (without_child p.node z)) ≡ true
  parent_counted r p =
      let apart : p.node.owner ≢ id = λ e. let zero : pos 0 ≡ id = sym p.plain ∙ e in omega (arith, ints) in
      counted_still r (without_child p.node z) apart ∙ plain-counted s (without_child p.node z) sound p.plain

  parent_fits : (r : Bytes) (w : Option (Option Put)) → IsPlain r → get new.tree r ≡ left_over (list_any (same r) ps) true z (get s.tree r) → KeyFits z (put_or_else (put_of ps r (counts r)) w) (CountsKey r) s new
  parent_fits r w p is =
      let left : get new.tree r ≡ Some (without_child p.node z) = is ∙ (λ i. left_over (not_mine r p i) true z (p.there i)) in
      let stored : Stored = record { value = counts_value (fewer (counts_record p.node (num_children s.tree r)) (count_by (is_child r) ps)); revision = z; lease = pos 0 } in
      subst (λ (x : Option (Option Put)). KeyFits z x (CountsKey r) s new)
      (sym (ap (λ (c : Option CountRec). put_or_else (put_of ps r c) w) (told r p.node p.there p.plain)))
      (subst (λ (n : Option Node). CountsMean n (num_children new.tree r) (is_counted_in new n) (Some stored)) (sym left)
      (subst (λ (b : Bool). CountsMean (Some (without_child p.node z)) (num_children new.tree r) b (Some stored)) (sym (parent_counted r p))
      (record { fits = counts_within r p.node p.there; value = ap counts_value (counts_is r p.node); pzxid = refl; free = refl })))

  -- a node that goes, and whose counts had a record or none
  gone_fits : (r : Bytes) (c : Bool) → has_counts session.layout ≡ c → list_any (same r) ps ≡ true → get new.tree r ≡ None → KeyFits z (gone_if c) (CountsKey r) s new
  gone_fits r true e h is = subst (λ (n : Option Node). CountsMean n (num_children new.tree r) (is_counted_in new n) None) (sym is) tt
  gone_fits r false e h is = λ o was.
      let own = mine r h in
      let counted : is_counted_in s (get s.tree r) ≡ false = counted_mine r h ∙ e in
      let before = subst (λ (b : Bool). CountsMean (get s.tree r) (num_children s.tree r) b o) counted was in
      subst (λ (n : Option Node). CountsMean n (num_children new.tree r) (is_counted_in new n) o) (sym is)
      (uncounted_none own.node (num_children s.tree r) (num_children new.tree r) true o (subst (λ (n : Option Node). CountsMean n (num_children s.tree r) false o) own.there before))

  stay_fits : (r : Bytes) → list_any (same r) ps ≡ false → list_any (is_child r) ps ≡ false → get new.tree r ≡ get s.tree r → KeyFits z None (CountsKey r) s new
  stay_fits r h none is o was =
      let less = fewer_left r in
      let zero = no_children r ps none in
      let same_count : num_children s.tree r ≡ num_children new.tree r = omega arith in
      subst (λ (n : Option Node). CountsMean n (num_children new.tree r) (is_counted_in new n) o) (sym is)
      (subst (λ (b : Bool). CountsMean (get s.tree r) (num_children new.tree r) b o) (sym (counted_left r (get s.tree r) refl h))
      (subst (λ (k : ℕ). CountsMean (get s.tree r) k (is_counted_in s (get s.tree r)) o) same_count was))

  leaf_fits : (r : Bytes) → list_any (is_child r) ps ≡ false → get new.tree r ≡ left_over (list_any (same r) ps) false z (get s.tree r) → KeyFits z (gone_if (has_counts session.layout && list_any (same r) ps)) (CountsKey r) s new
  leaf_fits r none = elim (list_any (same r) ps) as (λ b. list_any (same r) ps ≡ b → get new.tree r ≡ left_over b false z (get s.tree r) → KeyFits z (gone_if (has_counts session.layout && b)) (CountsKey r) s new) [
    | true ↦ λ h is. subst (λ b. KeyFits z (gone_if b) (CountsKey r) s new) (sym (and-true (has_counts session.layout))) (gone_fits r (has_counts session.layout) refl h is)
    | false ↦ λ h is. subst (λ b. KeyFits z (gone_if b) (CountsKey r) s new) (sym (and-false (has_counts session.layout))) (stay_fits r h none is)
  ] refl

  counts_fits : (r : Bytes) → KeyFits z (put_or_else (put_if (list_any (is_child r) ps) (put_of ps r (counts r))) (gone_if (has_counts session.layout && list_any (same r) ps))) (CountsKey r) s new
  counts_fits r =
      elim (list_any (is_child r) ps) as (λ b. list_any (is_child r) ps ≡ b → get new.tree r ≡ left_over (list_any (same r) ps) b z (get s.tree r) → KeyFits z (put_or_else (put_if b (put_of ps r (counts r))) (gone_if (has_counts session.layout && list_any (same r) ps))) (CountsKey r) s new) [
        | true ↦ λ e is. parent_fits r (gone_if (has_counts session.layout && list_any (same r) ps)) (parent_plain r e) is
        | false ↦ λ e is. leaf_fits r e is
      ] refl (after r)

  -- ---- what other sessions own

  foreign : (i : ℤ) (n : Node) → n.owner ≢ i → if_owned i (Some n) ≡ None
  foreign i n apart = elim (int_eq n.owner i) as (λ b. int_eq n.owner i ≡ b → cond b (Some n) None ≡ None) [ true ↦ λ e. absurd (apart ((Decides-int_eq n.owner i).0 e)) | false ↦ λ e. refl ] refl

  module _ (i : ℤ) (other : i ≢ id) (least : pos 1 ≤ℤ i) where
    owned_parent : (r : Bytes) → list_any (is_child r) ps ≡ true → if_owned i (option_map (λ n. without_child n z) (get s.tree r)) ≡ if_owned i (get s.tree r)
    owned_parent r h =
        let p = parent_plain r h in
        let apart : p.node.owner ≢ i = λ e. let zero : pos 0 ≡ i = sym p.plain ∙ e in omega (arith, ints) in
        ap (λ (n : Option Node). if_owned i (option_map (λ m. without_child m z) n)) p.there
        ∙ foreign i (without_child p.node z) apart
        ∙ sym (ap (if_owned i) p.there ∙ foreign i p.node apart)

    owned_gone : (r : Bytes) → list_any (same r) ps ≡ true → None ≡ if_owned i (get s.tree r)
    owned_gone r h =
        let own = mine r h in
        sym (ap (if_owned i) own.there ∙ foreign i own.node (λ e. other (sym e ∙ own.owner)))

    owned_left : (r : Bytes) (a b : Bool) → list_any (same r) ps ≡ a → list_any (is_child r) ps ≡ b → if_owned i (left_over a b z (get s.tree r)) ≡ if_owned i (get s.tree r)
    owned_left r true b h k = owned_gone r h
    owned_left r false true h k = owned_parent r k
    owned_left r false false h k = refl

    owned_same : owned new.tree i ≡ owned s.tree i
    owned_same = ap keys (ext (owned_by new.tree i) (owned_by s.tree i) (λ r.
        get-owned_as new.tree i r (left_over (list_any (same r) ps) (list_any (is_child r) ps) z (get s.tree r)) (after r)
        ∙ owned_left r (list_any (same r) ps) (list_any (is_child r) ps) refl refl
        ∙ sym (get-owned_as s.tree i r (get s.tree r) refl)))

  -- ---- the sessions' keys

  number_is : (i : ℕ) → nat_eq i (nat_abs id) ≡ true → pos i ≡ id
  number_is i e =
      let is : i ≡ nat_abs id = eqb-true i (nat_abs id) e in
      omega (arith, ints)

  number_other : (i : ℕ) → nat_eq i (nat_abs id) ≡ false → pos i ≢ id
  number_other i e is = eqb-false i (nat_abs id) e (ap nat_abs is)

  ended : (i : ℕ) → nat_eq i (nat_abs id) ≡ true → session_at (pos i) new ≡ None
  ended i e = ap (get (remove s.sessions id)) (number_is i e) ∙ at-remove_same s.sessions id

  open_still : (i : ℕ) → nat_eq i (nat_abs id) ≡ false → session_at (pos i) new ≡ session_at (pos i) s
  open_still i e = at-remove_other s.sessions id (pos i) (number_other i e)

  session_fits : (i : ℕ) → KeyFits z (gone_if (nat_eq i (nat_abs id))) (SessionKey i) s new
  session_fits i = elim (nat_eq i (nat_abs id)) as (λ b. nat_eq i (nat_abs id) ≡ b → KeyFits z (gone_if b) (SessionKey i) s new) [
    | true ↦ λ e. subst (λ (x : Option Session). NodesMean x (owned new.tree (pos i)) None) (sym (ended i e)) tt
    | false ↦ λ e o was. subst (λ (x : Option Session). NodesMean x (owned new.tree (pos i)) o) (sym (open_still i e))
        (nodes_along (session_at (pos i) s) (owned s.tree (pos i)) (owned new.tree (pos i)) o (λ y is. owned_same (pos i) (number_other i e) (sound.numbered (pos i) y is)) was)
  ] refl

  life_other : (i : ℕ) (o : Option Stored) → nat_eq i (nat_abs id) ≡ false → LifeMeans i (session_at (pos i) s) o → LifeMeans i (session_at (pos i) new) o
  life_other i o e was = subst (λ (x : Option Session). LifeMeans i x o) (sym (open_still i e)) was

  life_ended : (i : ℕ) → nat_eq i (nat_abs id) ≡ true → LifeMeans i (session_at (pos i) new) None
  life_ended i e = subst (λ (x : Option Session). LifeMeans i x None) (sym (ended i e)) tt

  life_lapsed : (i : ℕ) (o : Option Stored) → alive ≡ false → nat_eq i (nat_abs id) ≡ true → LifeMeans i (session_at (pos i) s) o → LifeMeans i (session_at (pos i) new) o
  life_lapsed i o dead e was =
      subst (λ (x : Option Session). LifeMeans i x o) (sym (ended i e))
      (lives_none i (session_at (pos i) s) o (λ y is. lapsed dead y (sym (ap (λ (k : ℤ). session_at k s) (number_is i e)) ∙ is)) was)

  life_fits_as : (i : ℕ) (a b : Bool) → alive ≡ a → nat_eq i (nat_abs id) ≡ b → KeyFits z (gone_if (cond a b false)) (LeaseKey i) s new
  life_fits_as i true true = λ e h. life_ended i h
  life_fits_as i true false = λ e h o was. life_other i o h was
  life_fits_as i false true = λ e h o was. life_lapsed i o e h was
  life_fits_as i false false = λ e h o was. life_other i o h was

  life_cond : (i : ℕ) (a : Bool) → life_gone a id i ≡ cond a (nat_eq i (nat_abs id)) false
  life_cond i true = refl
  life_cond i false = refl

  life_fits : (i : ℕ) → KeyFits z (gone_if (life_gone alive id i)) (LeaseKey i) s new
  life_fits i = subst (λ b. KeyFits z (gone_if b) (LeaseKey i) s new) (sym (life_cond i alive)) (life_fits_as i alive (nat_eq i (nat_abs id)) refl refl)

  -- ---- all keys

  key_fits : (k : Key) → KeyFits z (last (end_changes alive id counts nodes) k) k s new
  key_fits HeadKey = subst (λ (w : Option (Option Put)). KeyFits z w HeadKey s new) (sym (written-head alive id counts nodes)) (λ o h. h)
  key_fits (DataKey r) = subst (λ (w : Option (Option Put)). KeyFits z w (DataKey r) s new) (sym (written-data alive id counts nodes r)) (data_fits r)
  key_fits (CountsKey r) = subst (λ (w : Option (Option Put)). KeyFits z w (CountsKey r) s new) (sym (written-counts alive id counts nodes r)) (counts_fits r)
  key_fits (SessionKey i) = subst (λ (w : Option (Option Put)). KeyFits z w (SessionKey i) s new) (sym (written-session alive id counts nodes i)) (session_fits i)
  key_fits (LeaseKey i) = subst (λ (w : Option (Option Put)). KeyFits z w (LeaseKey i) s new) (sym (written-life alive id counts nodes i)) (life_fits i)

  pub end-fits : ChangesFit z (end_changes alive id counts nodes) s new
  end-fits = record { each = key_fits }
