-- What two records show is the stat of the node that they mean.
use Rattle.std.proofs.Common.{◌≡◌, ℕ, ℤ, pos, ◌≤◌, Bool, true, false, ◌∷◌, drop, Option, Some, None, arith, refl, sym, ap, subst, ◌∙◌}
use Rattle.std.specs.Prelude.{length, nat_abs}
use Rattle.std.proofs.lemmas.Int.{ints}
use Rattle.ev_types.specs.declared.answer.Kv.{Kv}
use Rattle.zk_model.specs.declared.node.Node.{Node}
use Rattle.zk_model.specs.declared.node.Stat.{Stat}
use Rattle.zk_model.specs.Znodes.{stat, cversion}
use Rattle.zn_layout.specs.declared.record.NodeRec.{NodeRec}
use Rattle.zn_layout.specs.declared.record.CountRec.{CountRec}
use Rattle.zn_layout.specs.Reading.{IsValueOf, node_record}
use Rattle.zn_layout.specs.Records.{node_value, counts_value, IsNodeRec, IsCountRec}
use Rattle.zn_layout.specs.Begin.{first_counts}
use Rattle.zn_layout.specs.StandsFor.{czxid_of, data_record, counts_record, stored_of, CountsMean, IsData, IsCounts, IsUncounted}
use Rattle.zn_layout.specs.declared.test.NodeNumbers.{NodeNumbers}
use Rattle.zx_base.specs.Maps.{Bytes}
use Rattle.zn_layout.proofs.Nodes.{node_numbers, node_value-is, node_value-length}
use Rattle.zn_layout.proofs.Lookups.{stored, data_read, counts_read}
use Rattle.zn_reads.specs.Found.{stat_by, AreCountsBy, AreNoCounts}

-- by the records
by_records : NodeRec → ℤ → CountRec → ℤ → Stat
by_records d data_revision c counts_revision = record {
  czxid = czxid_of d.czxid data_revision;
  mzxid = data_revision;
  ctime = d.ctime;
  mtime = d.mtime;
  version = d.version;
  cversion = cversion c.creates (nat_abs c.children);
  aversion = pos 0;
  ephemeral_owner = d.owner;
  data_length = pos (length d.content);
  num_children = c.children;
  pzxid = counts_revision;
}

by_records-same : (n : Node) (k : ℕ) (kept own_revision counts_revision : ℤ) → n.czxid ≡ czxid_of kept own_revision → n.mzxid ≡ own_revision → n.pzxid ≡ counts_revision → by_records (data_record n kept) own_revision (counts_record n k) counts_revision ≡ stat n k
unfolding by_records
by_records-same n k kept own_revision counts_revision made changed below = λ i. record {
  czxid = sym made i;
  mzxid = sym changed i;
  ctime = n.ctime;
  mtime = n.mtime;
  version = n.version;
  cversion = cversion n.creates k;
  aversion = pos 0;
  ephemeral_owner = n.owner;
  data_length = pos (length n.content);
  num_children = pos k;
  pzxid = sym below i;
}

by_records-numbers : (d : NodeNumbers) (content : Bytes) (data_revision : ℤ) (c : CountRec) (counts_revision : ℤ) → stat_by d (length content) data_revision c counts_revision ≡ by_records (node_record d content) data_revision c counts_revision
unfolding by_records
by_records-numbers d content data_revision c counts_revision = refl

pub stat_by-is : (own counts : Kv) (d : NodeNumbers) (content : Bytes) (c : CountRec) (n : Node) (k : ℕ) → IsValueOf node_value IsNodeRec own.value (node_record d content) → IsValueOf counts_value IsCountRec counts.value c → IsData (stored own) n → IsCounts (stored counts) n k → stat_by d (length content) own.mod_revision c counts.mod_revision ≡ stat n k
stat_by-is own counts d content c n k own_read counts_read_as of_data of_counts =
    let data_is = data_read (stored own) n (node_record d content) of_data own_read in
    let counts_are = counts_read (stored counts) n k c of_counts counts_read_as in
    by_records-numbers d content own.mod_revision c counts.mod_revision
    ∙ (λ i. by_records (data_is i) own.mod_revision (counts_are i) counts.mod_revision)
    ∙ by_records-same n k of_data.stored own.mod_revision counts.mod_revision of_data.made of_data.changed of_counts.pzxid

-- of a node without a record of its counts
uncounted-is : (own : Kv) (d : NodeNumbers) (content : Bytes) (n : Node) (k : ℕ) → IsValueOf node_value IsNodeRec own.value (node_record d content) → IsData (stored own) n → IsUncounted n k
    → stat_by d (length content) own.mod_revision first_counts (czxid_of d.czxid own.mod_revision) ≡ stat n k
uncounted-is own d content n k own_read of_data uncounted =
    let data_is = data_read (stored own) n (node_record d content) of_data own_read in
    let counts_are : first_counts ≡ counts_record n k = λ i. record { creates = sym uncounted.creates i; children = pos (sym uncounted.childless i) } in
    let made : n.czxid ≡ czxid_of d.czxid own.mod_revision = of_data.made ∙ ap (λ (r : NodeRec). czxid_of r.czxid own.mod_revision) (sym data_is) in
    by_records-numbers d content own.mod_revision first_counts (czxid_of d.czxid own.mod_revision)
    ∙ (λ i. by_records (data_is i) own.mod_revision (counts_are i) (czxid_of d.czxid own.mod_revision))
    ∙ by_records-same n k of_data.stored own.mod_revision (czxid_of d.czxid own.mod_revision) of_data.made of_data.changed (uncounted.pzxid ∙ made)

-- by what was found of its counts
pub stat_found-is : (own : Kv) (counts : Option Kv) (d : NodeNumbers) (content : Bytes) (c : CountRec) (changed : ℤ) (n : Node) (k : ℕ) (b : Bool) → IsValueOf node_value IsNodeRec own.value (node_record d content) → AreCountsBy d own.mod_revision counts c changed
    → IsData (stored own) n → CountsMean (Some n) k b (stored_of counts) → stat_by d (length content) own.mod_revision c changed ≡ stat n k
stat_found-is own None d content c changed n k true own_read by of_data means = absurd means
stat_found-is own None d content c changed n k false own_read by of_data means = (λ i. stat_by d (length content) own.mod_revision (by.0 i) (by.1 i)) ∙ uncounted-is own d content n k own_read of_data means
stat_found-is own (Some kv) d content c changed n k true own_read by of_data means = ap (stat_by d (length content) own.mod_revision c) by.1 ∙ stat_by-is own kv d content c n k own_read by.0 of_data means
stat_found-is own (Some kv) d content c changed n k false own_read by of_data means = absurd means

-- what was found of its counts is within the bounds of a record
first-within : IsCountRec first_counts
first-within = record { children = grind (arith, ints); fewer = grind (arith, ints); creates = grind (arith, ints) }

pub counts-within : (d : NodeNumbers) (revision changed : ℤ) (counts : Option Kv) (c : CountRec) → AreCountsBy d revision counts c changed → IsCountRec c
counts-within d revision changed None c by = subst IsCountRec (sym by.0) first-within
counts-within d revision changed (Some kv) c by = by.0.0

-- the record of its counts that was found is one
pub counts-found : (counts : Option Kv) (n : Node) (k : ℕ) (b : Bool) → CountsMean (Some n) k b (stored_of counts) → AreNoCounts counts → ⊥
counts-found None n k b means none = none
counts-found (Some kv) n k true means none = none (counts_record n k) (means.fits, means.value)
counts-found (Some kv) n k false means none = means

-- ---- by the node's numbers and the length of its data

pub value-long : (v : Bytes) (n : NodeNumbers) → IsValueOf node_value IsNodeRec v (node_record n (drop 37 v)) → 37 ≤ length v
value-long v n is =
    let r = node_record n (drop 37 v) in
    let long : length v ≡ length (node_value r) = ap length is.1 in
    let split : length (node_value r) ≡ length (1 ∷ node_numbers r) = ap length (node_value-is r) in
    omega (arith, long, split, node_value-length r)

pub content-read : (own : Kv) (n : Node) (r : NodeRec) → IsData (stored own) n → IsValueOf node_value IsNodeRec own.value r → r.content ≡ n.content
content-read own n r of_data read = ap (λ (x : NodeRec). x.content) (data_read (stored own) n r of_data read)

pub version-read : (own : Kv) (n : Node) (r : NodeRec) → IsData (stored own) n → IsValueOf node_value IsNodeRec own.value r → n.version ≡ r.version
version-read own n r of_data read = sym (ap (λ (x : NodeRec). x.version) (data_read (stored own) n r of_data read))
