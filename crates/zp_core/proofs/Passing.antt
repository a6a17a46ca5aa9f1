-- Whether a kept view gives a plan, and what an update does then.
use Rattle.std.proofs.Common.{◌≡◌, ℕ, ℤ, ◌<◌, List, [], ◌∷◌, length, ap, subst, inl, inr, arith}
use Rattle.std.specs.Prelude.{Option, Some, None}
use Rattle.zk_model.specs.declared.request.Request.{Request}
use Rattle.zx_base.specs.Maps.{Bytes}
use Rattle.zn_view.specs.Deciding.{IsTested}
use Rattle.zn_view.specs.Needs.{AreNeeds}
use Rattle.zn_view.specs.Seen.{View, empty_view}
use Rattle.zn_view.specs.Views.{IsDecision}
use Rattle.zn_view.specs.declared.plan.Decision.{Decision}
use Rattle.zn_view.specs.declared.plan.Decision.TheVariants.{Answered, Planned, Expired, Moved}
use Rattle.zn_view.specs.declared.plan.Plan.{Plan}
use Rattle.zn_view.specs.declared.plan.Who.{Who}
use Rattle.zn_view.specs.declared.want.Want.{Want}
use Rattle.zp_step.specs.declared.action.Action.{Action}
use Rattle.zp_step.specs.Kept.{used_first}
use Rattle.zp_step.specs.Looking.{IsBacked, Looks, PassesOver, decided}
use Rattle.zp_step.specs.Replies.{Is}
use Rattle.zp_step.specs.Stages.{Core}
use Rattle.zp_step.specs.Taking.{LooksOn}
use Rattle.zp_core.specs.OnKept.{IsPlanOn}

abbrev pub IsOther : Decision → Type 0
IsOther (Planned p) = ⊥
IsOther (Answered answer arm) = Unit {0}
IsOther Expired = Unit {0}
IsOther (Moved found) = Unit {0}

other-planned : (d : Decision) (p : Plan) → IsOther d → d ≡ Planned p → ⊥
other-planned d p o e = subst IsOther e o

module _ (r : Request) (who : Who) (v : View) where
  pub passes-poor : (ws : List Want) → 0 < length ws → AreNeeds r who v ws → PassesOver r who v
  passes-poor [] some needs = absurd (omega arith)
  passes-poor (w ∷ ws) some needs = inl (record { lacking = w ∷ ws; needs = needs; some = λ e. omega (arith, ap length e) })

  pub passes-other : (d : Decision) → IsOther d → AreNeeds r who v [] → IsTested r who v d → IsDecision r who v d → PassesOver r who v
  passes-other d o whole tested right = inr (record { decision = d; whole = whole; tested = tested; right = right; unplanned = λ x. other-planned d x.0 o x.1 })

  pub plans-on : (now : ℕ) (d : Decision) (p : Plan) → d ≡ Planned p → AreNeeds r who v [] → IsTested r who v d → IsDecision r who v d → IsBacked r who now v d → IsPlanOn r who now v p
  plans-on now d p e whole tested right backed = record {
    whole = whole;
    tested = subst (IsTested r who v) e tested;
    right = subst (IsDecision r who v) e right;
    backed = subst (IsBacked r who now v) e backed;
  }

module _ (c : Core) (xid : ℤ) (r : Request) (now : ℕ) (c' : Core) (out : List Action) (q : Bytes) where
  abbrev On : Option View → Type 0
  On o = LooksOn c xid r now c' out q o

  pub on-none : (o : Option View) → None ≡ o → Looks c xid r empty_view now c' out → On o
  on-none o e h = subst On e h

  pub on-passed : (o : Option View) (v : View) → Some v ≡ o → PassesOver r c.who v → Looks c xid r empty_view now c' out → On o
  on-passed o v e p h = subst On e (inr (p, h))

  pub on-plan : (o : Option View) (v : View) (p : Plan) → Some v ≡ o → IsPlanOn r c.who now v p
      → Is (decided (record c { views = used_first q v c.views }) xid r v now (Planned p)) c' out → On o
  on-plan o v p e k i = subst On e (inl (record { plan = p; whole = k.whole; tested = k.tested; right = k.right; backed = k.backed; is = i }))
