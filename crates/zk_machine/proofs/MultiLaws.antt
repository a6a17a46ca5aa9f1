-- Parts of a transaction, one after another.
use Rattle.std.proofs.Common.{◌≡◌, ℕ, ℤ, ◌≤◌, List, [], ◌∷◌, length, refl, ap, subst, get_or, drop, take, ◌-◌, sym, arith}
use Rattle.std.proofs.lemmas.List.{take_all}
use Rattle.zk_model.specs.declared.node.Trigger.{Trigger}
use Rattle.zk_model.specs.declared.reply.PartResult.{PartResult}
use Rattle.zk_model.specs.declared.request.Part.{Part}
use Rattle.zk_model.specs.Multi.{data_len}
use Rattle.zk_model.specs.Single.{Outcome, Done, single}
use Rattle.zk_model.specs.Znodes.{Tree}
use Rattle.zk_machine.specs.Faults.{IsWithin, After, StaysWithin}
use Rattle.zk_model.specs.Limits.{max_frame}

pub first_and_rest : {A : Type 0} (xs : List A) (x : A) → 1 ≤ length xs → x ≡ get_or xs 0 x → xs ≡ x ∷ drop 1 xs
first_and_rest [] x h e = absurd (omega arith)
first_and_rest (y ∷ ys) x h e = ap (λ z. z ∷ ys) (sym e)

pub rest_all : {A : Type 0} (xs : List A) → take (length xs - 1) (drop 1 xs) ≡ drop 1 xs
rest_all [] = refl
rest_all (x ∷ xs) = take_all _ xs (omega arith)

-- ---- numbers within their fields

pub stays-first : (t : Tree) (limit : ℕ) (session : ℤ) (p : Part) (ps qs : List Part) (zxid : ℤ) (now : ℕ) → qs ≡ p ∷ ps
    → StaysWithin t limit session qs zxid now → IsWithin t × (data_len p ≤ max_frame)
unfolding StaysWithin
stays-first t limit session p ps qs zxid now e h =
    let both = subst (λ (x : List Part). StaysWithin t limit session x zxid now) e h in
    (both.0, both.1)

pub stays-rest : (t u : Tree) (limit : ℕ) (session : ℤ) (p : Part) (ps qs : List Part) (zxid : ℤ) (now : ℕ) (r : PartResult) (g : List Trigger) → qs ≡ p ∷ ps
    → single t limit session p zxid now ≡ Done r u g → StaysWithin t limit session qs zxid now → StaysWithin u limit session ps zxid now
unfolding StaysWithin
stays-rest t u limit session p ps qs zxid now r g e done h =
    let both = subst (λ (x : List Part). StaysWithin t limit session x zxid now) e h in
    subst (λ (o : Outcome). After o (λ v. StaysWithin v limit session ps zxid now)) done both.2
