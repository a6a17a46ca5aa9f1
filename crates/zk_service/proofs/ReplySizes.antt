-- How many bytes a reply that lists names takes, and whether it fits a frame.
use Rattle.std.proofs.Common.{◌≡◌, ℕ, ◌+◌, ◌-◌, ◌<◌, ◌≤◌, true, false, not, ℤ, pos, List, [], ◌∷◌, ◌++◌, length, take, get_or, refl, ap, ◌∙◌, arith}
use Rattle.std.specs.Prelude.{sum_by, nat_le, nat_lt}
use Rattle.std.specs.List.{flat_map}
use Rattle.std.proofs.lemmas.List.{length-append, take_more, take_all}
use Rattle.std.proofs.lemmas.List.Sums.{sum_by-cons, sum_by_push, sum_by-take-le}
use Rattle.std.proofs.lemmas.Grind.{common_steps}
use Rattle.zx_base.specs.Maps.{Bytes}
use Rattle.zk_model.specs.declared.node.Stat.{Stat}
use Rattle.zk_model.specs.declared.reply.Body.TheVariants as body
use Rattle.zk_model.specs.declared.reply.Reply.TheVariants as reply
use Rattle.zk_jute.specs.JuteWriting.{int_bytes, long_bytes, string_bytes, vector_bytes, written}
use Rattle.zk_jute.specs.Records.{stat_values}
use Rattle.zk_service.specs.Answers.{fits_reply}
use Rattle.zk_jute.specs.Packets.{reply_bytes}
use Rattle.zk_jute.proofs.Lengths.{length-int_bytes, length-long_bytes, length-string_bytes, length-vector_bytes}

-- how many bytes texts take, each after its length
abbrev pub size : List Bytes → ℕ
size ts = sum_by (λ t. 4 + length t) ts

size-flat : (ts : List Bytes) → length (flat_map string_bytes ts) ≡ size ts
size-flat [] = refl
size-flat (t ∷ ts) = omega (arith, length-append (string_bytes t) (flat_map string_bytes ts), length-string_bytes t, size-flat ts, sum_by-cons (λ (x : Bytes). 4 + length x) t ts)

size-more : (ts : List Bytes) (i : ℕ) (t : Bytes) → i < length ts → t ≡ get_or ts i t → size (take i ts) + (4 + length t) ≤ size ts
size-more ts i t h is =
    let f : Bytes → ℕ = λ x. 4 + length x in
    let taken : size (take (i + 1) ts) ≡ size (take i ts) + (4 + length (get_or ts i t)) = ap size (take_more ts i t h) ∙ sum_by_push f (take i ts) (get_or ts i t) in
    let same : length t ≡ length (get_or ts i t) = ap length is in
    omega (arith, taken, same, sum_by-take-le f ts (i + 1))

pub size-above : (ts : List Bytes) (i left room : ℕ) (t : Bytes) → i < length ts → t ≡ get_or ts i t → left + size (take i ts) ≡ room → left < 4 + length t → false ≡ nat_le (size ts) room
size-above ts i left room t h is kept less =
    let more : size (take i ts) + (4 + length t) ≤ size ts = size-more ts i t h is in
    grind (arith, common_steps)

pub size-within : (ts : List Bytes) (i left room : ℕ) → length ts ≤ i → left + size (take i ts) ≡ room → true ≡ nat_le (size ts) room
size-within ts i left room h kept =
    let all : size (take i ts) ≡ size ts = ap size (take_all i ts h) in
    grind (arith, common_steps)

pub size-step : (ts : List Bytes) (i left room : ℕ) (t : Bytes) → i < length ts → t ≡ get_or ts i t → left + size (take i ts) ≡ room → 4 + length t ≤ left → (left - 4 - length t) + size (take (i + 1) ts) ≡ room
size-step ts i left room t h is kept fits =
    let f : Bytes → ℕ = λ x. 4 + length x in
    let taken : size (take (i + 1) ts) ≡ size (take i ts) + (4 + length (get_or ts i t)) = ap size (take_more ts i t h) ∙ sum_by_push f (take i ts) (get_or ts i t) in
    let same : length t ≡ length (get_or ts i t) = ap length is in
    omega (arith, taken, same)

names_bytes : (names : List Bytes) → length (vector_bytes string_bytes names) ≡ 4 + size names
names_bytes names = length-vector_bytes string_bytes names ∙ ap (λ n. 4 + n) (size-flat names)

long_first : (n : ℤ) (rest : List ℕ) → length (long_bytes n ++ rest) ≡ 8 + length rest
long_first n rest = omega (arith, length-append (long_bytes n) rest, length-long_bytes n)

int_first : (n : ℤ) (rest : List ℕ) → length (int_bytes n ++ rest) ≡ 4 + length rest
int_first n rest = omega (arith, length-append (int_bytes n) rest, length-int_bytes n)

length-stat : (s : Stat) → length (written (stat_values s)) ≡ 68
unfolding stat_values
length-stat s = simp (long_first, int_first)

header_first : (rest : List ℕ) → length (int_bytes (pos 0) ++ (long_bytes (pos 0) ++ (int_bytes (pos 0) ++ rest))) ≡ 16 + length rest
header_first rest = omega (
  arith,
  int_first (pos 0) (long_bytes (pos 0) ++ (int_bytes (pos 0) ++ rest)),
  long_first (pos 0) (int_bytes (pos 0) ++ rest),
  int_first (pos 0) rest,
)

names_first : (names : List Bytes) (rest : List ℕ) → length (vector_bytes string_bytes names ++ rest) ≡ 4 + size names + length rest
names_first names rest = omega (arith, length-append (vector_bytes string_bytes names) rest, names_bytes names)

length-names : (names : List Bytes) → length (reply_bytes (pos 0) (pos 0) (reply.Good (body.Names names))) ≡ 20 + size names
length-names names = omega (arith, header_first (vector_bytes string_bytes names ++ []), names_first names [])

length-names_stat : (names : List Bytes) (s : Stat) → length (reply_bytes (pos 0) (pos 0) (reply.Good (body.NamesStat names s))) ≡ 88 + size names
length-names_stat names s = omega (arith, header_first (vector_bytes string_bytes names ++ written (stat_values s)), names_first names (written (stat_values s)), length-stat s)

-- what is beside the names takes room
fits-beside : (n m beside room most : ℕ) → m ≡ beside + n → most ≡ beside + room → nat_le n room ≡ not (nat_lt most m)
fits-beside n m beside room most e f = grind (arith, common_steps)

pub fits-names : (names : List Bytes) → nat_le (size names) 2147483627 ≡ fits_reply (body.Names names)
fits-names names = fits-beside (size names) _ 20 2147483627 2147483647 (length-names names) refl

pub fits-names_stat : (names : List Bytes) (s : Stat) → nat_le (size names) 2147483559 ≡ fits_reply (body.NamesStat names s)
fits-names_stat names s = fits-beside (size names) _ 88 2147483559 2147483647 (length-names_stat names s) refl
