-- What is kept of the updates of a transcript.
use Rattle.std.proofs.Common.{◌≡◌, ◌≢◌, ℕ, zero, suc, ◌+◌, ◌-◌, ◌<◌, ◌≤◌, ◌⊎◌, Bool, true, false, cond, List, [], ◌∷◌, ◌++◌, length, take, Option, Some, None, refl, sym, ap, ◌∙◌, subst, inl, inr, eqb-true, Less, Equal, Greater, arith}
use Rattle.std.specs.Prelude.{◌==◌, nat_lt, option_map, slice_get}
use Rattle.std.specs.BTreeMap as tree
use Rattle.std.specs.Ordering.{is_eq, nat_cmp}
use Rattle.std.proofs.lemmas.Bool.Decides.{nat_tests}
use Rattle.std.proofs.lemmas.Option.{same_Some}
use Rattle.zk_model.specs.declared.node.Trigger.{Trigger}
use Rattle.zk_model.specs.declared.reply.Body.{Body}
use Rattle.zk_service.specs.declared.update.UpdateRec.{UpdateRec}
use Rattle.zk_transcript.specs.declared.transcript.TranscriptLine.{TranscriptLine}
use Rattle.zk_transcript.specs.declared.transcript.TranscriptLine.TheVariants.{Update}
use Rattle.zk_transcript.specs.History.{state_at}
use Rattle.zk_history.specs.Commits.{response_to}
use Rattle.zk_effects.specs.Effects.{AreEffects, AreNexts, IsEffect, IsNext, effect_at, kept_of}
use Rattle.zk_effects.specs.declared.effects.Effect.{Effect}
use Rattle.zk_effects.specs.declared.effects.Table.{Table}

-- a place is found at no other place
pub other-place : (m k : ℕ) → k ≢ m → tree.is_at (nat_cmp m) k ≡ false
other-place m k other = by (nat_lt m k) (m == k) refl
  where
    by : (less same : Bool) → (m == k) ≡ same → is_eq (cond less Less (cond same Equal Greater)) ≡ false
    by true same e = refl
    by false false e = refl
    by false true e = absurd (other (sym (eqb-true m k e)))

-- one more line
pub effects-more : (all : List TranscriptLine) (k : ℕ) (line : TranscriptLine) (t more : Table) → slice_get all k ≡ Some line → AreEffects all k t
    → ((u : UpdateRec) → line ≡ Update u → IsEffect (effect_at more k) (state_at all (k + 1)).triggers (response_to (take k all) (state_at all k) (Update u)))
    → ((j : ℕ) → j ≢ k → effect_at more j ≡ effect_at t j) → AreEffects all (k + 1) more
effects-more all k line t more shown each own others = λ j u less at. by j u less at (nat_lt j k) refl
  where
    IsThere : ℕ → UpdateRec → Option Effect → Type 0
    IsThere j u o = IsEffect o (state_at all (j + 1)).triggers (response_to (take j all) (state_at all j) (Update u))

    by : (j : ℕ) (u : UpdateRec) → j < k + 1 → slice_get all j ≡ Some (Update u) → (b : Bool) → nat_lt j k ≡ b → IsThere j u (effect_at more j)
    by j u less at true e =
        let before : j < k = grind (arith, nat_tests, e) in
        subst (IsThere j u) (sym (others j (λ same. omega (arith, before, same)))) (each j u before at)
    by j u less at false e =
        let late : k ≤ j = grind (arith, nat_tests, e) in
        let same : k ≡ j = omega (arith, less, late) in
        subst (λ (i : ℕ). IsThere i u (effect_at more i)) same (own u (same_Some line (Update u) (sym shown ∙ ap (slice_get all) same ∙ at)))

pub kept-some : (o : Option Effect) (e : Effect) (triggers : List Trigger) (response : Option Body) → Some e ≡ o → IsEffect o triggers response → (e.triggers ≡ triggers) × (e.response ≡ response)
kept-some o e triggers response is kept =
    let same : (e.triggers, e.response) ≡ (triggers, response) =
    same_Some (e.triggers, e.response) (triggers, response) (ap (option_map kept_of) is ∙ kept) in
    (ap (λ (p : List Trigger × Option Body). p.0) same, ap (λ (p : List Trigger × Option Body). p.1) same)

pub kept-none : (o : Option Effect) (triggers : List Trigger) (response : Option Body) → None ≡ o → IsEffect o triggers response → ⊥
kept-none o triggers response is kept =
    let none : None ≡ Some (triggers, response) = ap (option_map kept_of) is ∙ kept in
    absurd (cc)

-- ---- the first update from a place on

-- a line that is no update is passed over
pub next-skip : (all : List TranscriptLine) (k n : ℕ) (line : TranscriptLine) → slice_get all k ≡ Some line → ((u : UpdateRec) → line ≡ Update u → ⊥) → IsNext all (k + 1) n → IsNext all k n
next-skip all k n line shown none later = (omega (arith, later.0), later.1, λ j u low high at. by j u low high at (nat_lt k j) refl)
  where
    by : (j : ℕ) (u : UpdateRec) → k ≤ j → j < n → slice_get all j ≡ Some (Update u) → (b : Bool) → nat_lt k j ≡ b → ⊥
    by j u low high at true e = let beyond : k < j = grind (arith, nat_tests, e) in later.2 j u (omega (arith, beyond)) high at
    by j u low high at false e =
        let most : j ≤ k = grind (arith, nat_tests, e) in
        let same : k ≡ j = omega (arith, low, most) in
        none u (same_Some line (Update u) (sym shown ∙ ap (slice_get all) same ∙ at))

-- an element of a list with one more at its end is one of the list, or the last
of_more : {A : Type 0} (xs : List A) (x : A) (j : ℕ) (e : A) → slice_get (xs ++ x ∷ []) j ≡ Some e → (slice_get xs j ≡ Some e) ⊎ ((j ≡ length xs) × (x ≡ e))
of_more [] x zero e h = inr (refl, same_Some x e h)
of_more [] x (suc j) e h = absurd cc
of_more (y ∷ xs) x zero e h = inl h
of_more (y ∷ xs) x (suc j) e h = elim (of_more xs x j e h) [ inl old ↦ inl old | inr last ↦ inr (ap suc last.0, last.1) ]

pub nexts-more : (all : List TranscriptLine) (nexts more : List ℕ) (n : ℕ) → more ≡ nexts ++ n ∷ [] → AreNexts all nexts → IsNext all (length all - length nexts) n → AreNexts all more
nexts-more all nexts more n is stand next = λ j m here.
    elim (of_more nexts n j m (ap (λ (ns : List ℕ). slice_get ns j) (sym is) ∙ here)) [
      | inl old ↦ stand j m old
      | inr last ↦ subst (λ (i : ℕ). IsNext all (length all - i) m) (sym last.0) (subst (λ (k : ℕ). IsNext all (length all - length nexts) k) last.1 next)
    ]
