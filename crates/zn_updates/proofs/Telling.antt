-- The states that a view shows have what it saw of records; and which states a view shows.
use Rattle.std.proofs.Common.{◌≡◌, ℕ, ℤ, pos, Bool, true, false, cond, List, Option, Some, None, refl, sym, ap, ◌∙◌, subst, arith}
use Rattle.std.specs.Prelude.{◌≤ℤ◌}
use Rattle.std.specs.Ordering.{int_eq}
use Rattle.std.proofs.lemmas.Int.{ints}
use Rattle.ev_types.specs.declared.answer.Kv.{Kv}
use Rattle.ev_types.specs.Ranges.{Keys}
use Rattle.ev_types.specs.Store.{last_revision}
use Rattle.zx_base.specs.Maps.{Bytes}
use Rattle.zk_model.specs.declared.node.Node.{Node}
use Rattle.zk_service.specs.States.{State, Session}
use Rattle.zn_layout.specs.declared.record.CountRec.{CountRec}
use Rattle.zn_layout.specs.declared.record.NodeRec.{NodeRec}
use Rattle.zn_layout.specs.declared.record.SessionRec.{SessionRec}
use Rattle.zn_layout.specs.Begin.{first_counts}
use Rattle.zn_layout.specs.Reading.{IsValueOf}
use Rattle.zn_layout.specs.Keys.{Key, HeadKey, key_bytes}
use Rattle.zn_layout.specs.Records.{counts_value, IsLongCount, IsCountRec}
use Rattle.zn_layout.specs.StandsFor.{stored_of, at, czxid_of, data_record, nodes_record, IsCounts, IsUncounted, DataMeans, CountsMean, Means, NodesMean, StandsFor}
use Rattle.zn_layout.proofs.Lookups.{data_read, counts_read}
use Rattle.zn_layout.proofs.Keys.{key_bytes-injective}
use Rattle.zn_layout.proofs.ListRecords.{session_value-injective}
use Rattle.zn_view.specs.Needs.{own}
use Rattle.zn_view.specs.Seen.{View, seen}
use Rattle.zn_view.specs.Views.{AreAsSeen}
use Rattle.zn_updates.specs.declared.seen.SeenData.{SeenData}
use Rattle.zn_updates.specs.declared.seen.SeenCounts.{SeenCounts}
use Rattle.zn_updates.specs.Making.{IsDataSeen, IsCountsSeen, IsNodesSeen, counts_of, data_of, uncounted}
use Rattle.zn_updates.specs.Seen.{IsDataWithin, IsSeenCounts, IsSeenData, ShowsData, ShowsCounts, ShowsOwned}
use Rattle.zn_updates.specs.Layers.{stored_own, IsPutBelow, Shows}
use Rattle.zx_base.proofs.Booleans.{same-from_int_eq as int_eq-is}

-- each key but the head has what was seen
abbrev pub Tells : View → Keys → Type 0
Tells v m = (k : Key) → (k ≡ HeadKey → ⊥) → (o : Option Kv) → seen v (key_bytes k) ≡ Some o → at m k ≡ o

-- this follows where the same is known of the keys' bytes
pub told : (v : View) (m : Keys) → AreAsSeen v m → Tells v m
told v m as_seen k apart o e = as_seen (key_bytes k) o (λ is. apart (key_bytes-injective k HeadKey is)) e

-- ---- records show what the state has

czxid-within : (stored revision : ℤ) → IsLongCount stored → pos 0 ≤ℤ revision → revision ≤ℤ last_revision → IsLongCount (czxid_of stored revision)
czxid-within stored revision long least most =
    elim (int_eq stored (pos 0)) as (λ b. IsLongCount (cond b revision stored)) [
      | true ↦ record { least = omega (arith, ints, least); most = omega (arith, ints, most) }
      | false ↦ long
    ]

own-other : (z x : ℤ) → int_eq x (pos 0) ≡ false → own z x ≡ x
own-other z x apart = ap (λ b. cond b z x) apart

own-revision : (z revision : ℤ) → pos 1 ≤ℤ revision → own z revision ≡ revision
own-revision z revision least = elim (int_eq revision (pos 0)) as (λ b. int_eq revision (pos 0) ≡ b → cond b z revision ≡ revision) [
  | true ↦ λ h. let e = int_eq-is revision (pos 0) h in absurd (omega (arith, ints, least, e))
  | false ↦ λ h. refl
] refl

-- a zxid is the update's own where neither the record nor its revision says another
own-czxid : (z stored revision : ℤ) → own z (czxid_of stored revision) ≡ czxid_of stored (own z revision)
own-czxid z stored revision = elim (int_eq stored (pos 0)) as (λ b. int_eq stored (pos 0) ≡ b → own z (cond b revision stored) ≡ cond b (own z revision) stored) [
  | true ↦ λ h. refl
  | false ↦ λ h. own-other z stored h
] refl

pub data_shows : (z : ℤ) (n : Option Node) (o : Option Kv) (x : Option SeenData) → IsDataSeen (Some o) x → DataMeans n (stored_own z o) → IsPutBelow o → ShowsData z x n
data_shows z None None None seen means put = tt
data_shows z None None (Some x) seen means put = absurd seen
data_shows z None (Some kv) x seen means put = absurd means
data_shows z (Some n) None x seen means put = absurd means
data_shows z (Some n) (Some kv) None seen means put = absurd seen
data_shows z (Some n) (Some kv) (Some x) seen means put =
    let r : NodeRec = seen.0 in
    let czxid : x.czxid ≡ czxid_of r.czxid kv.mod_revision = seen.3 put.0 in
    let is : x ≡ data_of r (czxid_of r.czxid kv.mod_revision) = seen.2 ∙ ap (data_of r) czxid in
    let same_record : r ≡ data_record n means.stored = data_read _ n r means seen.1 in
    let within = seen.1.0 in
    let whole : IsDataWithin (data_of r (czxid_of r.czxid kv.mod_revision)) = record {
      czxid = czxid-within r.czxid kv.mod_revision within.czxid put.0 put.1;
      version_least = within.version_least;
      version_most = within.version_most;
      ctime = within.ctime;
      owner = within.owner;
    } in
    let stored : r.czxid ≡ means.stored = ap (λ (y : NodeRec). y.czxid) same_record in
    let made : czxid_of r.czxid (own z kv.mod_revision) ≡ n.czxid = ap (λ (c : ℤ). czxid_of c (own z kv.mod_revision)) stored ∙ sym means.made in
    let shown : IsSeenData z (data_of r (czxid_of r.czxid kv.mod_revision)) n = record {
      within = whole;
      is = ap (λ (y : NodeRec). data_of y (czxid_of r.czxid kv.mod_revision)) same_record;
      czxid = sym (own-czxid z r.czxid kv.mod_revision ∙ made);
    } in
    subst (λ (y : SeenData). IsSeenData z y n) (sym is) shown

stored_counts : (z : ℤ) (n : Node) (children : ℕ) (kv : Kv) (y : SeenCounts) → ((r : CountRec) × IsValueOf counts_value IsCountRec kv.value r × (y ≡ counts_of r kv.mod_revision))
    → IsCounts (record { value = kv.value; revision = own z kv.mod_revision; lease = kv.lease }) n children → IsSeenCounts z y n children true
stored_counts z n children kv y seen means =
    let is = seen.2 in
    record {
      stored = ap (λ (w : SeenCounts). w.is_stored) is;
      within = subst (λ (w : SeenCounts). IsCountRec w.counts) (sym is) seen.1.0;
      is = ap (λ (w : SeenCounts). w.counts) is ∙ counts_read _ n children seen.0 means seen.1;
      pzxid = means.pzxid ∙ ap (λ (w : SeenCounts). own z w.pzxid) (sym is);
    }

pub no_counts-within : IsCountRec first_counts
no_counts-within = record { children = omega (arith, ints); fewer = omega (arith, ints); creates = omega (arith, ints) }

-- a node without a record of its counts has none, and its pzxid is its czxid
implied_counts : (z : ℤ) (n : Node) (children : ℕ) (x : SeenData) → IsSeenData z x n → IsUncounted n children → IsSeenCounts z (uncounted x) n children false
implied_counts z n children x node none = record {
  stored = refl;
  within = no_counts-within;
  is = λ i. record { creates = sym none.creates i; children = pos (sym none.childless i) };
  pzxid = none.pzxid ∙ node.czxid;
}

-- the counts of a node whose record was seen too
pub counts_shows : (z : ℤ) (n : Option Node) (children : ℕ) (b : Bool) (o : Option Kv) (x : Option SeenData) (y : Option SeenCounts) → ShowsData z x n → IsCountsSeen x (Some o) y → CountsMean n children b (stored_own z o) → ShowsCounts z y n children b
counts_shows z None children b None None y node seen means = subst (λ (c : Option SeenCounts). ShowsCounts z c None children b) (sym seen) tt
counts_shows z None children b None (Some x) y node seen means = absurd node
counts_shows z None children b (Some kv) x y node seen means = absurd means
counts_shows z (Some n) children true None x y node seen means = absurd means
counts_shows z (Some n) children b (Some kv) x None node seen means = absurd seen
counts_shows z (Some n) children true (Some kv) x (Some y) node seen means = stored_counts z n children kv y seen means
counts_shows z (Some n) children false None None y node seen means = absurd node
counts_shows z (Some n) children false None (Some x) y node seen means = subst (λ (c : Option SeenCounts). ShowsCounts z c (Some n) children false) (sym seen) (implied_counts z n children x node means)
counts_shows z (Some n) children false (Some kv) x (Some y) node seen means = absurd means

-- the counts of a node that is known to have a record of them
pub parent_shows : (z : ℤ) (n : Node) (children : ℕ) (o : Option Kv) (y : Option SeenCounts) → IsCountsSeen None (Some o) y → CountsMean (Some n) children true (stored_own z o) → ShowsCounts z y (Some n) children true
parent_shows z n children None y seen means = absurd means
parent_shows z n children (Some kv) None seen means = absurd seen
parent_shows z n children (Some kv) (Some y) seen means = stored_counts z n children kv y seen means

pub nodes_shows : (z : ℤ) (y : Session) (paths : List Bytes) (o : Option Kv) (x : Option SessionRec) → IsNodesSeen (Some o) x → NodesMean (Some y) paths (stored_own z o) → ShowsOwned x y paths
nodes_shows z y paths None x seen means = absurd means
nodes_shows z y paths (Some kv) None seen means = absurd seen
nodes_shows z y paths (Some kv) (Some r) seen means = record {
  within = seen.0;
  is = session_value-injective r (nodes_record y paths) seen.0 means.fits (sym seen.1 ∙ means.value);
}

-- ---- keys that stand for a state show it

own_of : (z : ℤ) (o : Option Kv) → ((kv : Kv) → o ≡ Some kv → pos 1 ≤ℤ kv.mod_revision) → stored_own z o ≡ stored_of o
own_of z None put = refl
own_of z (Some kv) put = ap (λ (r : ℤ). Some (record { value = kv.value; revision = r; lease = kv.lease })) (own-revision z kv.mod_revision (put kv refl))

below_of : (o : Option Kv) → ((kv : Kv) → o ≡ Some kv → (pos 1 ≤ℤ kv.mod_revision) × (kv.mod_revision ≤ℤ last_revision)) → IsPutBelow o
below_of None put = tt
below_of (Some kv) put = let least = (put kv refl).0 in (omega (arith, ints, least), (put kv refl).1)

pub shows : (z : ℤ) (v : View) (m : Keys) (s : State) → StandsFor m s → Tells v m → Shows z v s
shows z v m s stands tells k apart o e =
    let here : at m k ≡ o = tells k apart o e in
    let put : (kv : Kv) → o ≡ Some kv → (pos 1 ≤ℤ kv.mod_revision) × (kv.mod_revision ≤ℤ last_revision) = λ kv is. (stands.layout.least (key_bytes k) kv (here ∙ is), stands.layout.most (key_bytes k) kv (here ∙ is)) in
    (subst (Means s k) (sym (own_of z o (λ kv is. (put kv is).0))) (subst (λ (w : Option Kv). Means s k (stored_of w)) here (stands.each k)), below_of o put)
