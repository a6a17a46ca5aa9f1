-- A number names a kind exactly where the kind has it.
use Rattle.std.proofs.Common.{◌≡◌, ℕ, Bool, true, false, cond, eqb, Option, Some, None, List, [], ◌∷◌, refl, ap, ◌∙◌, ℤ, pos, negsuc}
use Rattle.std.specs.List.{AllByRecursion}
use Rattle.std.proofs.lemmas.Bool.{eqb-true}
use Rattle.zk_jute.specs.declared.opcode.Opcode.{Opcode}
use Rattle.zk_jute.specs.declared.opcode.Opcode.TheVariants as opcodes
use Rattle.zk_jute.specs.declared.opcode.PartKind.{PartKind}
use Rattle.zk_jute.specs.declared.opcode.PartKind.TheVariants as kinds
use Rattle.zk_jute.specs.Numbers.{opcode_number, unsigned_opcode, opcode_numbered, part_number, part_numbered}

-- the first entry of a table with this number
chain : {K : Type 0} → List (ℕ × K) → ℕ → Option K
chain {K = K} [] n = None
chain {K = K} (x ∷ xs) n = cond (eqb n x.0) (Some x.1) (chain xs n)

if_some : {A : Type 0} (P : A → Type 0) (b : Bool) (x y : A) (o : Option A) → cond b (Some x) o ≡ Some y → (b ≡ true → P x) → (o ≡ Some y → P y) → P y
if_some {A = A} P true x y o e here later = let same : x ≡ y = cc in rw (← same) (here refl)
if_some {A = A} P false x y o e here later = later e

chain_is : {K : Type 0} (number : K → ℤ) (xs : List (ℕ × K)) (n : ℕ) (k : K) → AllByRecursion (λ x. pos x.0 ≡ number x.1) xs → chain xs n ≡ Some k → pos n ≡ number k
unfolding chain
chain_is {K = K} number [] n k all e = absurd cc
chain_is {K = K} number (x ∷ xs) n k all e =
    if_some (λ (y : K). pos n ≡ number y) (eqb n x.0) x.1 k (chain xs n) e (λ h. ap pos (eqb-true n x.0 h) ∙ all.0) (chain_is number xs n k all.1)

opcodes_by_number : List (ℕ × Opcode)
opcodes_by_number =
    (1, opcodes.Create) ∷ (2, opcodes.Delete) ∷ (3, opcodes.Exists) ∷ (4, opcodes.GetData) ∷ (5, opcodes.SetData) ∷ (6, opcodes.GetAcl) ∷ (8, opcodes.GetChildren) ∷ (9, opcodes.Sync)
    ∷ (11, opcodes.Ping) ∷ (12, opcodes.GetChildren2) ∷ (13, opcodes.Check) ∷ (14, opcodes.Multi)
    ∷ (15, opcodes.Create2) ∷ (17, opcodes.CheckWatches) ∷ (18, opcodes.RemoveWatches) ∷ (100, opcodes.Auth) ∷ (101, opcodes.SetWatches) ∷ []

unsigned_is : (n : ℕ) (code : Opcode) → unsigned_opcode n ≡ Some code → pos n ≡ opcode_number code
unfolding chain opcodes_by_number
unsigned_is n code e =
    chain_is opcode_number opcodes_by_number n code (refl, (refl, (refl, (refl, (refl, (refl, (refl, (refl, (refl, (refl, (refl, (refl, (refl, (refl, (refl, (refl, (refl, tt))))))))))))))))) e

pub opcode_numbered-is : (n : ℤ) (code : Opcode) → opcode_numbered n ≡ Some code → n ≡ opcode_number code
opcode_numbered-is (pos n) code e = unsigned_is n code e
opcode_numbered-is (negsuc n) code e =
    if_some (λ (c : Opcode). negsuc n ≡ opcode_number c) (eqb n 10) opcodes.Close code None e (λ h. ap negsuc (eqb-true n 10 h)) (λ h. absurd cc)

pub opcode_numbered-number_of : (code : Opcode) → opcode_numbered (opcode_number code) ≡ Some code
opcode_numbered-number_of opcodes.Create = refl
opcode_numbered-number_of opcodes.Delete = refl
opcode_numbered-number_of opcodes.Exists = refl
opcode_numbered-number_of opcodes.GetData = refl
opcode_numbered-number_of opcodes.SetData = refl
opcode_numbered-number_of opcodes.GetAcl = refl
opcode_numbered-number_of opcodes.GetChildren = refl
opcode_numbered-number_of opcodes.Sync = refl
opcode_numbered-number_of opcodes.Ping = refl
opcode_numbered-number_of opcodes.GetChildren2 = refl
opcode_numbered-number_of opcodes.Check = refl
opcode_numbered-number_of opcodes.Multi = refl
opcode_numbered-number_of opcodes.Auth = refl
opcode_numbered-number_of opcodes.SetWatches = refl
opcode_numbered-number_of opcodes.Close = refl
opcode_numbered-number_of opcodes.Create2 = refl
opcode_numbered-number_of opcodes.CheckWatches = refl
opcode_numbered-number_of opcodes.RemoveWatches = refl

parts_by_number : List (ℕ × PartKind)
parts_by_number = (1, kinds.Create) ∷ (2, kinds.Delete) ∷ (5, kinds.SetData) ∷ (13, kinds.Check) ∷ []

pub part_numbered-is : (n : ℤ) (kind : PartKind) → part_numbered n ≡ Some kind → n ≡ part_number kind
unfolding chain parts_by_number
part_numbered-is (pos n) kind e = chain_is part_number parts_by_number n kind (refl, (refl, (refl, (refl, tt)))) e
part_numbered-is (negsuc n) kind e = absurd cc

pub part_numbered-part_number : (kind : PartKind) → part_numbered (part_number kind) ≡ Some kind
part_numbered-part_number kinds.Create = refl
part_numbered-part_number kinds.Delete = refl
part_numbered-part_number kinds.SetData = refl
part_numbered-part_number kinds.Check = refl
