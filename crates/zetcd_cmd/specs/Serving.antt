-- The words `etcd LISTEN LIMIT`, and what the command came to.
use Rattle.std.specs.Prelude.{◌≡◌, ℕ, ◌&&◌, ◌==◌, Bool, true, false, List, [], ◌∷◌, length, codes, if◌then◌else◌, nat_le, Option, Some, None}
use Rattle.std.specs.List.{list_all, slice_split}
use Rattle.ev_addresses.specs.Lists.{is_part}
use Rattle.ev_addresses.specs.Visible.{is_visible}
use denote.Ref.{Bor}
use Rattle.zt_text.specs.Scripts.{◌>>=◌, decimal_digit, digits_value, max_number, not_above}
use Rattle.zx_net.specs.Nets.{NetCounts}
use Rattle.zd_etcd.specs.declared.serving.EtcdEnd.{EtcdEnd}
use Rattle.zd_etcd.specs.declared.serving.EtcdEnd.TheVariants as ends
use Rattle.zd_etcd.specs.Serving.{EtcdEnds}
use Rattle.zetcd_cmd.specs.declared.status.Status.{Status}
use Rattle.zetcd_cmd.specs.declared.status.Status.TheVariants as status

-- ---- the words

-- one or more visible characters of ASCII, of which the first is no `-`
abbrev pub is_address : List ℕ → Bool
is_address [] = false
is_address (b ∷ bs) = if b == 45 then false else list_all is_visible (b ∷ bs)

-- something stands before, between and after the commas, of which there are at most four
abbrev pub are_plain : List ℕ → Bool
are_plain text = list_all is_part (slice_split (λ b. b == 44) text) && nat_le (length (slice_split (λ b. b == 44) text)) 5

-- one to five addresses, with commas between them, none of which is empty
abbrev pub are_addresses : List ℕ → Bool
are_addresses text = is_address text && are_plain text

-- the number of these digits, up to 4294967295
abbrev pub digits_number : List ℕ → Option ℕ
digits_number digits = digits_value 10 decimal_digit 0 digits >>= not_above max_number

abbrev pub not_zero : ℕ → Option ℕ
not_zero n = if nat_le 1 n then Some n else None

-- a number from 1 to 4294967295 in one to ten digits, without a sign
abbrev pub limit_in : List ℕ → Option ℕ
limit_in [] = None
limit_in (b ∷ bs) = if nat_le (length (b ∷ bs)) 10 then (digits_number (b ∷ bs) >>= not_zero) else None

-- the words are `etcd`, this address and this limit
abbrev pub IsEtcd : List (Bor (List ℕ)) → List ℕ → ℕ → Type 0
IsEtcd [] listen limit = ⊥
IsEtcd (word ∷ []) listen limit = ⊥
IsEtcd (word ∷ first ∷ []) listen limit = ⊥
IsEtcd (word ∷ first ∷ second ∷ []) listen limit =
    (word.now ≡ codes "etcd") × (first.now ≡ listen) × (is_address listen ≡ true) × (limit_in second.now ≡ Some limit)
IsEtcd (word ∷ first ∷ second ∷ third ∷ words) listen limit = ⊥

abbrev pub NamesEtcd : List (Bor (List ℕ)) → Type 0
NamesEtcd words = (listen : List ℕ) × (limit : ℕ) × IsEtcd words listen limit

-- ---- the outcome

abbrev pub etcd_status : EtcdEnd → Status
etcd_status ends.Done = status.Done
etcd_status ends.Net = status.Net
etcd_status ends.WriteFault = status.WriteFault
etcd_status ends.Memory = status.Memory

-- a server ended with this status: by the counts of its net, and by what was written
abbrev pub EtcdServes : Status → List ℕ → ℕ → NetCounts → NetCounts → Option (List ℕ) → Option (List ℕ) → Type 0
EtcdServes s listen limit counts counts' taken taken' = (end : EtcdEnd) × (s ≡ etcd_status end) × EtcdEnds end listen limit counts counts' taken taken'
