-- A value is one of a record or of none, told by a test of it; and the data in a node's value.
use Rattle.std.proofs.Common.{◌≡◌, ◌∷◌, ◌++◌, length, drop, sym, ap, ◌∙◌, subst, append_assoc}
use Rattle.std.specs.Prelude.{Option, Some, None, MatchOption}
use Rattle.std.proofs.Math.Seq.{drop-append_seam}
use Rattle.zk_jute.specs.JuteWriting.{int_bytes, long_bytes}
use Rattle.zk_jute.proofs.Lengths.{length-int_bytes, length-long_bytes}
use Rattle.std.proofs.lemmas.List.{length-append}
use Rattle.zx_base.specs.Maps.{Bytes}
use Rattle.zn_layout.specs.declared.record.NodeRec.{NodeRec}
use Rattle.zn_layout.specs.declared.test.NodeNumbers.{NodeNumbers}
use Rattle.zn_layout.specs.Records.{node_value, IsNodeRec}
use Rattle.zn_layout.specs.Reading.{IsNoValue, IsValueOf, node_record}
use Rattle.zn_layout.specs.ReadingSteps.{HasNumbers}
use Rattle.zn_layout.proofs.Nodes.{node_value-is, node-read}

-- the numbers of a node's value are so many bytes
before_data : NodeRec → Bytes
before_data r = long_bytes r.czxid ++ int_bytes r.version ++ long_bytes r.ctime ++ long_bytes r.mtime ++ long_bytes r.owner

length-before_data : (r : NodeRec) → length (before_data r) ≡ 36
unfolding before_data
length-before_data r = simp (length-append, length-long_bytes, length-int_bytes)

node_value-split : (r : NodeRec) → node_value r ≡ 1 ∷ (before_data r ++ r.content)
unfolding before_data
node_value-split r = node_value-is r ∙ ap (λ (l : Bytes). 1 ∷ l) (simp append_assoc)

pub drop-node_value : (r : NodeRec) → drop 37 (node_value r) ≡ r.content
drop-node_value r =
    ap (drop 37) (node_value-split r) ∙ ap (λ n. drop n (before_data r ++ r.content)) (sym (length-before_data r)) ∙ drop-append_seam (before_data r) r.content

abbrev IsNumbersOf : Bytes → Option NodeNumbers → Type 0
IsNumbersOf v o = MatchOption o (IsNoValue node_value IsNodeRec v) (λ n. IsValueOf node_value IsNodeRec v (node_record n (drop 37 v)))

pub numbers-read : (v numbers content : Bytes) (n : NodeNumbers) (o : Option NodeNumbers) → v ≡ 1 ∷ numbers → 1 ∷ numbers ≡ node_value (node_record n content) → HasNumbers (node_record n content)
    → MatchOption o (IsNodeRec (node_record n content) → ⊥) (λ m. (m ≡ n) × IsNodeRec (node_record m content)) → IsNumbersOf v o
numbers-read v numbers content n None begins value fits h = node-read v numbers (node_record n content) None begins value fits h
numbers-read v numbers content n (Some m) begins value fits h =
    let after : drop 37 v ≡ content = ap (drop 37) (begins ∙ value) ∙ drop-node_value (node_record n content) in (
      subst (λ (l : Bytes). IsNodeRec (node_record m l)) (sym after) h.1,
      begins ∙ value ∙ ap (λ (k : NodeNumbers). node_value (node_record k content)) (sym h.0) ∙ ap (λ (l : Bytes). node_value (node_record m l)) (sym after),
    )
