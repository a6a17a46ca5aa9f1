-- A connection that is shut stays so, and how one is shut by its input.
use Rattle.std.proofs.Common.{◌≡◌, ℕ, List, [], ◌∷◌, ◌++◌, append-nil, sym, ap, ◌∙◌, subst, true, false}
use Rattle.std.specs.Prelude.{Some, MatchBool}
use Rattle.zk_service.specs.declared.cause.Cause.{Cause}
use Rattle.zx_base.proofs.Options.{none_some, some_is}
use Rattle.zp_step.specs.declared.action.Action.{Action}
use Rattle.zp_step.specs.declared.action.Action.TheVariants as action
use Rattle.zp_step.specs.declared.input.Input.{Input}
use Rattle.zp_step.specs.declared.input.Input.TheVariants as input
use Rattle.zp_step.specs.Laws.{end_by}
use Rattle.zp_step.specs.Replies.{Is, closed_by}
use Rattle.zp_step.specs.Stages.{Core, Ready, Shut, is_shut}
use Rattle.zp_step.specs.Steps.{Goes, Handles, Steps, StepsOpen, rests, takes}

pub shut-for-good : (c c' : Core) (x : Input) (now : ℕ) (out : List Action) → is_shut c.stage ≡ true → Steps c x now c' out → (c' ≡ c) × (out ≡ [])
shut-for-good c c' x now out shut h = subst (λ b. MatchBool b ((c' ≡ c) × (out ≡ [])) (StepsOpen c x now c' out)) shut h

-- a step of a core that isn't shut
pub steps-open : (c c' : Core) (x : Input) (now : ℕ) (out : List Action) → is_shut c.stage ≡ false → Steps c x now c' out → StepsOpen c x now c' out
steps-open c c' x now out open_now h = subst (λ b. MatchBool b ((c' ≡ c) × (out ≡ [])) (StepsOpen c x now c' out)) open_now h

-- a core that isn't ready takes up no frame
pub goes-still : (now : ℕ) (c c' : Core) (out : List Action) → (c.stage ≡ Ready → ⊥) → Goes now c c' out → (c' ≡ c) × (out ≡ [])
goes-still now c c' out h (rests why same none) = (same, none)
goes-still now c c' out h (takes d f more a b ready w t g o) = absurd (h ready)

shut-unready : (c : Core) → c.stage ≡ Shut → c.stage ≡ Ready → ⊥
shut-unready c e r = let f : Shut ≡ Ready = sym e ∙ r in cc

-- a core that is shut by its input
closed-so : (c mid c' : Core) (why : Cause) (now : ℕ) (first later : List Action) → Is (closed_by c why) mid first → Goes now mid c' later → (c'.stage ≡ Shut) × (first ++ later ≡ action.Close why ∷ [])
closed-so c mid c' why now first later i g =
    let st : mid.stage ≡ Shut = ap (λ (d : Core). d.stage) i.0 in
    let s = goes-still now mid c' later (shut-unready mid st) g in
    (ap (λ (d : Core). d.stage) s.0 ∙ st, ap (λ l. first ++ l) s.1 ∙ append-nil first ∙ i.1)

handled-so : (c mid c' : Core) (x : Input) (why : Cause) (now : ℕ) (first later : List Action) → end_by x ≡ Some why → Handles c x now mid first → Goes now mid c' later → (c'.stage ≡ Shut) × (first ++ later ≡ action.Close why ∷ [])
handled-so c mid c' (input.Frame bytes) why now first later e h g = absurd (none_some e)
handled-so c mid c' (input.Answer a) why now first later e h g = absurd (none_some e)
handled-so c mid c' (input.Entry a) why now first later e h g = absurd (none_some e)
handled-so c mid c' input.Failed why now first later e h g = closed-so c mid c' why now first later (subst (λ y. Is (closed_by c y) mid first) (some_is e) h) g
handled-so c mid c' (input.BadLength place length) why now first later e h g = closed-so c mid c' why now first later (subst (λ y. Is (closed_by c y) mid first) (some_is e) h) g
handled-so c mid c' (input.Lagged cursor floor) why now first later e h g = closed-so c mid c' why now first later (subst (λ y. Is (closed_by c y) mid first) (some_is e) h) g
handled-so c mid c' input.FeedClosed why now first later e h g = closed-so c mid c' why now first later (subst (λ y. Is (closed_by c y) mid first) (some_is e) h) g
handled-so c mid c' (input.ClientEnd place) why now first later e h g = closed-so c mid c' why now first later (subst (λ y. Is (closed_by c y) mid first) (some_is e) h) g

pub ends-named : (c c' : Core) (x : Input) (why : Cause) (now : ℕ) (out : List Action) → is_shut c.stage ≡ false → end_by x ≡ Some why → Steps c x now c' out → (c'.stage ≡ Shut) × (out ≡ action.Close why ∷ [])
ends-named c c' x why now out open_now e h =
    let s = steps-open c c' x now out open_now h in
    let q = handled-so c s.mid c' x why now s.first s.later e s.handled s.goes in
    (q.0, s.joined ∙ q.1)
