-- Wants whose number is at most 0 are the empty list.
use Rattle.std.proofs.Common.{◌≤◌, List, [], ◌∷◌, length, arith}
use Rattle.zk_model.specs.declared.request.Request.{Request}
use Rattle.zn_view.specs.Needs.{AreNeeds}
use Rattle.zn_view.specs.Seen.{View}
use Rattle.zn_view.specs.declared.plan.Who.{Who}
use Rattle.zn_view.specs.declared.want.Want.{Want}

pub lacks-none : (r : Request) (who : Who) (v : View) (ws : List Want) → length ws ≤ 0 → AreNeeds r who v ws → AreNeeds r who v []
lacks-none r who v [] none h = h
lacks-none r who v (w ∷ ws) none h = absurd (omega arith)
