-- The words of `etcd`, and what a server came to.
use Rattle.std.proofs.Common.{◌≡◌, ℕ, ◌+◌, ◌*◌, ◌<◌, List, [], ◌∷◌, length, drop, get_or, refl, sym, ap, ◌∙◌, inl, inr}
use Rattle.std.proofs.lemmas.List.{drop_more}
use Rattle.zt_text.specs.Scripts.{◌>>=◌, decimal_digit, digits_value, max_number, not_above}
use Rattle.zt_text.proofs.Digits.{digits_value-above}
use Rattle.std.specs.Prelude.{Option, Some, None}
use denote.Ref.{Bor}
use Rattle.zx_outside.specs.Counts.{OutputCounts, one_more}
use Rattle.zx_outside.specs.Writing.{counts_after_write}
use Rattle.zx_outside.specs.declared.sink.Took.TheVariants as took
use Rattle.zx_net.specs.Nets.{NetCounts}
use Rattle.zd_etcd.specs.declared.serving.EtcdEnd.{EtcdEnd}
use Rattle.zd_etcd.specs.declared.serving.EtcdEnd.TheVariants as ends
use Rattle.zd_etcd.specs.Serving.{EtcdEnds, counts_at_end}
use Rattle.zetcd_cmd.specs.declared.status.Status.TheVariants as status
use Rattle.zetcd_cmd.specs.Outcomes.{IsWord}
use Rattle.zetcd_cmd.specs.Serving.{IsEtcd, NamesEtcd, digits_number, limit_in, etcd_status}
use Rattle.zx_base.proofs.Options.{some-both}

-- ---- the words

pub one_word : (name : List ℕ) (words : List (Bor (List ℕ))) → IsWord name words → NamesEtcd words → ⊥
one_word name [] is names = is
one_word name (w ∷ []) is names = names.2
one_word name (w ∷ v ∷ words) is names = is

pub names_one : (words : List (Bor (List ℕ))) (listen other : List ℕ) (n m : ℕ) → IsEtcd words listen n → IsEtcd words other m → (listen ≡ other) × (n ≡ m)
names_one [] listen other n m one two = absurd one
names_one (w ∷ []) listen other n m one two = absurd one
names_one (w ∷ v ∷ []) listen other n m one two = absurd one
names_one (w ∷ v ∷ u ∷ []) listen other n m one two = (sym one.1 ∙ two.1, some-both n m (limit_in u.now) one.3 two.3)
names_one (w ∷ v ∷ u ∷ t ∷ words) listen other n m one two = absurd one

-- digits of which the first are too great a number
pub digits_above : (word : List ℕ) (value at digit : ℕ) → digits_value 10 decimal_digit value (drop at word) ≡ digits_value 10 decimal_digit 0 word → at < length word →
    decimal_digit (get_or word at 0) ≡ Some digit → max_number < value * 10 + digit → digits_number word ≡ None
digits_above word value at digit told within read above =
    let here = drop_more word at 0 within in
    let next : digits_value 10 decimal_digit 0 word ≡ digits_value 10 decimal_digit (value * 10 + digit) (drop (at + 1) word) = sym told ∙ rw (here, read) refl in
    ap (λ (o : Option ℕ). o >>= not_above max_number) next ∙ digits_value-above max_number (value * 10 + digit) (drop (at + 1) word) above

-- ---- the statuses

pub never_read : (end : EtcdEnd) → etcd_status end ≡ status.ReadFault → ⊥
never_read ends.Done is = let apart : status.Done ≡ status.ReadFault = is in cc
never_read ends.Net is = let apart : status.Net ≡ status.ReadFault = is in cc
never_read ends.WriteFault is = let apart : status.WriteFault ≡ status.ReadFault = is in cc
never_read ends.Memory is = let apart : status.Memory ≡ status.ReadFault = is in cc

abbrev door_faults : NetCounts → ℕ
door_faults counts = counts.door_faults

pub net_fault : (end : EtcdEnd) (listen : List ℕ) (limit : ℕ) (counts counts' : NetCounts) (taken taken' : Option (List ℕ)) → etcd_status end ≡ status.Net →
    EtcdEnds end listen limit counts counts' taken taken' → counts'.door_faults ≡ one_more counts.door_faults
net_fault ends.Net listen limit counts counts' taken taken' is (inl unbound) = ap door_faults unbound.0
net_fault ends.Net listen limit counts counts' taken taken' is (inr listened) = ap door_faults listened.2.2
net_fault ends.Done listen limit counts counts' taken taken' is told = let apart : status.Done ≡ status.Net = is in absurd cc
net_fault ends.WriteFault listen limit counts counts' taken taken' is told = let apart : status.WriteFault ≡ status.Net = is in absurd cc
net_fault ends.Memory listen limit counts counts' taken taken' is told = let apart : status.Memory ≡ status.Net = is in absurd cc

pub no_fault : (end : EtcdEnd) (listen : List ℕ) (limit : ℕ) (counts counts' : NetCounts) (taken taken' : Option (List ℕ)) → (etcd_status end ≡ status.Net → ⊥) →
    (etcd_status end ≡ status.WriteFault → ⊥) → EtcdEnds end listen limit counts counts' taken taken' → counts'.door_faults ≡ counts.door_faults
no_fault ends.Done listen limit counts counts' taken taken' net write told = ap door_faults told.2.0
no_fault ends.Net listen limit counts counts' taken taken' net write told = absurd (net refl)
no_fault ends.WriteFault listen limit counts counts' taken taken' net write told = absurd (write refl)
no_fault ends.Memory listen limit counts counts' taken taken' net write (inl before) = ap door_faults before.0
no_fault ends.Memory listen limit counts counts' taken taken' net write (inr listened) = ap door_faults listened.2.2

pub write_counts : (end : EtcdEnd) (counts : OutputCounts) → etcd_status end ≡ status.WriteFault → counts_at_end end counts ≡ counts_after_write took.Failed counts
write_counts ends.WriteFault counts is = refl
write_counts ends.Done counts is = let apart : status.Done ≡ status.WriteFault = is in absurd cc
write_counts ends.Net counts is = let apart : status.Net ≡ status.WriteFault = is in absurd cc
write_counts ends.Memory counts is = let apart : status.Memory ≡ status.WriteFault = is in absurd cc

pub other_counts : (end : EtcdEnd) (counts : OutputCounts) → (etcd_status end ≡ status.WriteFault → ⊥) → counts_at_end end counts ≡ counts
other_counts ends.WriteFault counts isnt = absurd (isnt refl)
other_counts ends.Done counts isnt = refl
other_counts ends.Net counts isnt = refl
other_counts ends.Memory counts isnt = refl
