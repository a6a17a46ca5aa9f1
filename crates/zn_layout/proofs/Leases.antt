-- The record of a session's life and its value.
use Rattle.std.proofs.Common.{◌≡◌, ◌≢◌, Option, Some, None, ◌∷◌, ◌++◌, length, drop, sym, ap, ◌∙◌, subst, arith, append_assoc}
use Rattle.std.specs.Prelude.{MatchOption}
use Rattle.std.proofs.lemmas.Int.{ints}
use Rattle.std.proofs.lemmas.List.{length-append}
use Rattle.zk_jute.specs.JuteWriting.{int_bytes, long_bytes}
use Rattle.zx_base.specs.Maps.{Bytes}
use Rattle.zn_layout.specs.declared.record.LeaseRec.{LeaseRec}
use Rattle.zn_layout.specs.Records.{lease_value, IsLeaseRec}
use Rattle.zn_layout.specs.Reading.{IsNoValue, IsReadAs}
use Rattle.zn_layout.specs.ReadingSteps.{HasLife}
use Rattle.zk_jute.proofs.Lengths.{length-int_bytes, length-long_bytes}
use Rattle.zn_layout.proofs.Nodes.{int_fits, long_fits, int_same, long_same}

abbrev pub life_numbers : LeaseRec → Bytes
life_numbers r = int_bytes r.timeout ++ (long_bytes r.attaches ++ r.passwd)

pub lease_value-is : (r : LeaseRec) → lease_value r ≡ 1 ∷ life_numbers r
unfolding lease_value
lease_value-is r = ap (λ (l : Bytes). 1 ∷ l) (append_assoc (int_bytes r.timeout) (long_bytes r.attaches) r.passwd)

has_life : (r : LeaseRec) → IsLeaseRec r → HasLife r
has_life r is = record {
  timeout = let a = is.least in let b = is.most in int_fits r.timeout (omega (arith, ints)) (omega (arith, ints));
  attaches = let a = is.attached in long_fits r.attaches (record { least = omega (arith, ints); most = is.attaches });
}

lease_value-same : (r q : LeaseRec) → HasLife r → HasLife q → lease_value r ≡ lease_value q → r ≡ q
lease_value-same r q f g e =
    let numbers : life_numbers r ≡ life_numbers q = ap (λ (l : Bytes). drop 1 l) (sym (lease_value-is r) ∙ e ∙ lease_value-is q) in
    let a = int_same r.timeout q.timeout _ _ f.timeout g.timeout numbers in
    let b = long_same r.attaches q.attaches _ _ f.attaches g.attaches a.1 in
    λ i. record { timeout = a.0 i; attaches = b.0 i; passwd = b.1 i }

-- no two records have the same value
pub lease_value-injective : (r q : LeaseRec) → IsLeaseRec r → IsLeaseRec q → lease_value r ≡ lease_value q → r ≡ q
lease_value-injective r q f g e = lease_value-same r q (has_life r f) (has_life q g) e

life_length : (r : LeaseRec) → length r.passwd ≡ 16 → length (life_numbers r) ≡ 28
life_length r e = simp (length-append, length-long_bytes, length-int_bytes) (omega arith)

-- numbers split off one after the other are those of the record
pub lease_joined : (r : LeaseRec) (xs xs2 : Bytes) → xs ≡ int_bytes r.timeout ++ xs2 → xs2 ≡ long_bytes r.attaches ++ r.passwd → 1 ∷ xs ≡ lease_value r
lease_joined r xs xs2 a b = ap (λ (l : Bytes). 1 ∷ l) (a ∙ ap (λ (l : Bytes). int_bytes r.timeout ++ l) b) ∙ sym (lease_value-is r)

pub lease-not_one : (v : Bytes) → ((rest : Bytes) → v ≡ 1 ∷ rest → ⊥) → IsNoValue lease_value IsLeaseRec v
lease-not_one v none r is e = none (life_numbers r) (e ∙ lease_value-is r)

pub lease-length : (v numbers : Bytes) → v ≡ 1 ∷ numbers → length numbers ≢ 28 → IsNoValue lease_value IsLeaseRec v
lease-length v numbers begins other r is e =
    let same : numbers ≡ life_numbers r = ap (λ (l : Bytes). drop 1 l) (sym begins ∙ e ∙ lease_value-is r) in
    other (ap (λ (l : Bytes). length l) same ∙ life_length r is.passwd)

lease-beyond : (v numbers : Bytes) (n : LeaseRec) → v ≡ 1 ∷ numbers → 1 ∷ numbers ≡ lease_value n → HasLife n → (IsLeaseRec n → ⊥) → IsNoValue lease_value IsLeaseRec v
lease-beyond v numbers n begins value fits beyond r is e = beyond (subst IsLeaseRec (lease_value-same r n (has_life r is) fits (sym e ∙ begins ∙ value)) is)

pub lease-read : (v numbers : Bytes) (n : LeaseRec) (o : Option LeaseRec) → v ≡ 1 ∷ numbers → 1 ∷ numbers ≡ lease_value n → HasLife n → MatchOption o (IsLeaseRec n → ⊥) (λ m. (m ≡ n) × IsLeaseRec m) → IsReadAs lease_value IsLeaseRec v o
lease-read v numbers n None begins value fits beyond = lease-beyond v numbers n begins value fits beyond
lease-read v numbers n (Some m) begins value fits h = (h.1, begins ∙ value ∙ ap lease_value (sym h.0))
