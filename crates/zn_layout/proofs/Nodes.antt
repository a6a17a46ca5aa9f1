-- A node's record and its value.
use Rattle.std.proofs.Common.{◌≡◌, ◌≢◌, ◌+◌, ◌<◌, ◌^◌, ℤ, pos, negsuc, [], ◌∷◌, ◌++◌, length, drop, refl, sym, ap, ◌∙◌, subst, arith, append_assoc}
use Rattle.std.specs.Prelude.{◌≤ℤ◌, Option, Some, None, MatchOption}
use Rattle.std.specs.Int.{w32, w64, cast_signed}
use Rattle.std.specs.Int.RustNames.{FitsSigned}
use Rattle.std.proofs.lemmas.Int.{ints}
use Rattle.std.proofs.lemmas.List.{append-nil, length-append, nil_from_length}
use Rattle.byteorder.specs.Endian.{big_number}
use Rattle.zk_jute.specs.JuteWriting.{int_bytes, long_bytes}
use Rattle.zx_base.specs.Maps.{Bytes}
use Rattle.zn_layout.specs.declared.record.NodeRec.{NodeRec}
use Rattle.zn_layout.specs.declared.record.CountRec.{CountRec}
use Rattle.zn_layout.specs.Records.{node_value, counts_value, IsLongCount, IsNodeRec, IsCountRec}
use Rattle.zn_layout.specs.Reading.{IsNoValue, IsReadAs}
use Rattle.zn_layout.specs.ReadingSteps.{HasNumbers, HasCounts}
use Rattle.zk_jute.proofs.Lengths.{length-int_bytes, length-long_bytes}
use Rattle.zn_layout.proofs.Numbers.{int_back, long_back, drop-int, drop-long}

-- ---- numbers side by side

pub long_fits : (n : ℤ) → IsLongCount n → FitsSigned w64 n
long_fits (pos n) is = record { sfits = (let a = is.most in let lt : n < 2 ^ 63 = omega (arith, ints) in lt) }
long_fits (negsuc n) is = let a = is.least in absurd (omega (arith, ints))

pub int_fits : (n : ℤ) → pos 0 ≤ℤ n → n ≤ℤ pos 2147483647 → FitsSigned w32 n
int_fits (pos n) a b = record { sfits = (let lt : n < 2 ^ 31 = omega (arith, ints) in lt) }
int_fits (negsuc n) a b = absurd (omega (arith, ints))

pub long_same : (m n : ℤ) (r s : Bytes) → FitsSigned w64 m → FitsSigned w64 n → long_bytes m ++ r ≡ long_bytes n ++ s → (m ≡ n) × (r ≡ s)
long_same m n r s fm fn e =
    (sym (long_back m r fm) ∙ ap (λ (l : Bytes). cast_signed w64 (big_number 8 l)) e ∙ long_back n s fn, sym (drop-long m r) ∙ ap (λ (l : Bytes). drop 8 l) e ∙ drop-long n s)

pub int_same : (m n : ℤ) (r s : Bytes) → FitsSigned w32 m → FitsSigned w32 n → int_bytes m ++ r ≡ int_bytes n ++ s → (m ≡ n) × (r ≡ s)
int_same m n r s fm fn e =
    (sym (int_back m r fm) ∙ ap (λ (l : Bytes). cast_signed w32 (big_number 4 l)) e ∙ int_back n s fn, sym (drop-int m r) ∙ ap (λ (l : Bytes). drop 4 l) e ∙ drop-int n s)

-- ---- a node's record

-- the numbers, one after the other
abbrev pub node_numbers : NodeRec → Bytes
node_numbers r = long_bytes r.czxid ++ (int_bytes r.version ++ (long_bytes r.ctime ++ (long_bytes r.mtime ++ (long_bytes r.owner ++ r.content))))

regrouped : (a b c d e f : Bytes) → a ++ b ++ c ++ d ++ e ++ f ≡ a ++ (b ++ (c ++ (d ++ (e ++ f))))
regrouped a b c d e f = simp append_assoc

pub node_value-is : (r : NodeRec) → node_value r ≡ 1 ∷ node_numbers r
unfolding node_value
node_value-is r = ap (λ (l : Bytes). 1 ∷ l) (regrouped (long_bytes r.czxid) (int_bytes r.version) (long_bytes r.ctime) (long_bytes r.mtime) (long_bytes r.owner) r.content)

pub has_numbers : (r : NodeRec) → IsNodeRec r → HasNumbers r
has_numbers r is = record {
  czxid = long_fits r.czxid is.czxid;
  version = int_fits r.version is.version_least is.version_most;
  ctime = long_fits r.ctime is.ctime;
  mtime = long_fits r.mtime is.mtime;
  owner = long_fits r.owner is.owner;
}

same_numbers : (r q : NodeRec) → HasNumbers r → HasNumbers q → node_numbers r ≡ node_numbers q → r ≡ q
same_numbers r q f g e =
    let a = long_same r.czxid q.czxid _ _ f.czxid g.czxid e in
    let b = int_same r.version q.version _ _ f.version g.version a.1 in
    let d = long_same r.ctime q.ctime _ _ f.ctime g.ctime b.1 in
    let h = long_same r.mtime q.mtime _ _ f.mtime g.mtime d.1 in
    let k = long_same r.owner q.owner _ _ f.owner g.owner h.1 in
    λ i. record { czxid = a.0 i; version = b.0 i; ctime = d.0 i; mtime = h.0 i; owner = k.0 i; content = k.1 i }

pub node_value-same : (r q : NodeRec) → HasNumbers r → HasNumbers q → node_value r ≡ node_value q → r ≡ q
node_value-same r q f g e = same_numbers r q f g (ap (λ (l : Bytes). drop 1 l) (sym (node_value-is r) ∙ e ∙ node_value-is q))

-- no two records have the same value
pub node_value-injective : (r q : NodeRec) → IsNodeRec r → IsNodeRec q → node_value r ≡ node_value q → r ≡ q
node_value-injective r q f g e = node_value-same r q (has_numbers r f) (has_numbers q g) e

pub node_value-length : (r : NodeRec) → length (node_numbers r) ≡ 36 + length r.content
node_value-length r = simp (length-append, length-long_bytes, length-int_bytes) (omega arith)

-- numbers split off one after the other are those of the record
pub node_joined : (r : NodeRec) (xs xs2 xs3 xs4 xs5 : Bytes) → xs ≡ long_bytes r.czxid ++ xs2 → xs2 ≡ int_bytes r.version ++ xs3 → xs3 ≡ long_bytes r.ctime ++ xs4 → xs4 ≡ long_bytes r.mtime ++ xs5 → xs5 ≡ long_bytes r.owner ++ r.content → 1 ∷ xs ≡ node_value r
node_joined r xs xs2 xs3 xs4 xs5 a b d h k =
    ap (λ (l : Bytes). 1 ∷ l) (a ∙ ap (λ (l : Bytes). long_bytes r.czxid ++ l) (b ∙ ap (λ (l : Bytes). int_bytes r.version ++ l) (d ∙ ap (λ (l : Bytes). long_bytes r.ctime ++ l) (h ∙ ap (λ (l : Bytes). long_bytes r.mtime ++ l) k)))) ∙ sym (node_value-is r)

-- ---- a record of counts

abbrev pub count_numbers : CountRec → Bytes
count_numbers r = int_bytes r.creates ++ int_bytes r.children

pub counts_value-is : (r : CountRec) → counts_value r ≡ 1 ∷ count_numbers r
unfolding counts_value
counts_value-is r = refl

pub has_counts : (r : CountRec) → IsCountRec r → HasCounts r
has_counts r is = record {
  creates = let a = is.children in let b = is.fewer in let d = is.creates in int_fits r.creates (omega (arith, ints)) (omega (arith, ints));
  children = let a = is.fewer in let b = is.creates in int_fits r.children is.children (omega (arith, ints));
}

pub counts_value-same : (r q : CountRec) → HasCounts r → HasCounts q → counts_value r ≡ counts_value q → r ≡ q
counts_value-same r q f g e =
    let numbers : count_numbers r ≡ count_numbers q = ap (λ (l : Bytes). drop 1 l) (sym (counts_value-is r) ∙ e ∙ counts_value-is q) in
    let a = int_same r.creates q.creates _ _ f.creates g.creates numbers in
    let b = int_same r.children q.children [] [] f.children g.children (ap (λ (l : Bytes). l ++ []) a.1) in
    λ i. record { creates = a.0 i; children = b.0 i }

pub counts_value-injective : (r q : CountRec) → IsCountRec r → IsCountRec q → counts_value r ≡ counts_value q → r ≡ q
counts_value-injective r q f g e = counts_value-same r q (has_counts r f) (has_counts q g) e

pub counts_value-length : (r : CountRec) → length (count_numbers r) ≡ 8
counts_value-length r = simp (length-append, length-int_bytes)

pub counts_joined : (r : CountRec) (xs xs2 xs3 : Bytes) → xs ≡ int_bytes r.creates ++ xs2 → xs2 ≡ int_bytes r.children ++ xs3 → length xs3 ≡ 0 → 1 ∷ xs ≡ counts_value r
counts_joined r xs xs2 xs3 a b none =
    let last : xs2 ≡ int_bytes r.children = b ∙ ap (λ (l : Bytes). int_bytes r.children ++ l) (nil_from_length xs3 none) ∙ append-nil (int_bytes r.children) in
    ap (λ (l : Bytes). 1 ∷ l) (a ∙ ap (λ (l : Bytes). int_bytes r.creates ++ l) last) ∙ sym (counts_value-is r)

-- ---- bytes that are no record

-- what begins otherwise than with a 1
pub node-not_one : (v : Bytes) → ((rest : Bytes) → v ≡ 1 ∷ rest → ⊥) → IsNoValue node_value IsNodeRec v
node-not_one v none r is e = none (node_numbers r) (e ∙ node_value-is r)

-- what is too short
pub node-short : (v numbers : Bytes) → v ≡ 1 ∷ numbers → length numbers < 36 → IsNoValue node_value IsNodeRec v
node-short v numbers begins short r is e =
    let same : numbers ≡ node_numbers r = ap (λ (l : Bytes). drop 1 l) (sym begins ∙ e ∙ node_value-is r) in
    omega (arith, node_value-length r, ap (λ (l : Bytes). length l) same)

-- the numbers read are those of a record, and aren't within its bounds
node-beyond : (v numbers : Bytes) (n : NodeRec) → v ≡ 1 ∷ numbers → 1 ∷ numbers ≡ node_value n → HasNumbers n → (IsNodeRec n → ⊥) → IsNoValue node_value IsNodeRec v
node-beyond v numbers n begins value fits beyond r is e = beyond (subst IsNodeRec (node_value-same r n (has_numbers r is) fits (sym e ∙ begins ∙ value)) is)

pub counts-not_one : (v : Bytes) → ((rest : Bytes) → v ≡ 1 ∷ rest → ⊥) → IsNoValue counts_value IsCountRec v
counts-not_one v none r is e = none (count_numbers r) (e ∙ counts_value-is r)

pub counts-length : (v numbers : Bytes) → v ≡ 1 ∷ numbers → length numbers ≢ 8 → IsNoValue counts_value IsCountRec v
counts-length v numbers begins other r is e =
    let same : numbers ≡ count_numbers r = ap (λ (l : Bytes). drop 1 l) (sym begins ∙ e ∙ counts_value-is r) in
    other (ap (λ (l : Bytes). length l) same ∙ counts_value-length r)

counts-beyond : (v numbers : Bytes) (n : CountRec) → v ≡ 1 ∷ numbers → 1 ∷ numbers ≡ counts_value n → HasCounts n → (IsCountRec n → ⊥) → IsNoValue counts_value IsCountRec v
counts-beyond v numbers n begins value fits beyond r is e = beyond (subst IsCountRec (counts_value-same r n (has_counts r is) fits (sym e ∙ begins ∙ value)) is)

-- ---- what was read

pub node-read : (v numbers : Bytes) (n : NodeRec) (o : Option NodeRec) → v ≡ 1 ∷ numbers → 1 ∷ numbers ≡ node_value n → HasNumbers n → MatchOption o (IsNodeRec n → ⊥) (λ m. (m ≡ n) × IsNodeRec m) → IsReadAs node_value IsNodeRec v o
node-read v numbers n None begins value fits beyond = node-beyond v numbers n begins value fits beyond
node-read v numbers n (Some m) begins value fits h = (h.1, begins ∙ value ∙ ap node_value (sym h.0))

pub counts-read : (v numbers : Bytes) (n : CountRec) (o : Option CountRec) → v ≡ 1 ∷ numbers → 1 ∷ numbers ≡ counts_value n → HasCounts n → MatchOption o (IsCountRec n → ⊥) (λ m. (m ≡ n) × IsCountRec m) → IsReadAs counts_value IsCountRec v o
counts-read v numbers n None begins value fits beyond = counts-beyond v numbers n begins value fits beyond
counts-read v numbers n (Some m) begins value fits h = (h.1, begins ∙ value ∙ ap counts_value (sym h.0))
