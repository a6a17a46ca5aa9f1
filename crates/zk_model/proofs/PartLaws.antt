-- Parts of a transaction, one after another.
use Rattle.std.proofs.Common.{◌≡◌, ℕ, ℤ, List, ◌∷◌, ap, ◌-◌}
use Rattle.zk_model.specs.declared.node.Trigger.{Trigger}
use Rattle.zk_model.specs.declared.reply.PartResult.{PartResult}
use Rattle.zk_model.specs.declared.request.Part.{Part}
use Rattle.zk_model.specs.Multi.{Parts, Stopped, parts_of, then_parts, touched_by}
use Rattle.zk_model.specs.Single.{Outcome, Refused, Done, single}
use Rattle.zk_model.specs.Znodes.{Tree}

pub parts_of-done : (t u : Tree) (limit : ℕ) (session : ℤ) (p : Part) (ps : List Part) (zxid : ℤ) (now : ℕ) (r : PartResult) (g : List Trigger)
    → single t limit session p zxid now ≡ Done r u g
    → parts_of t limit session (p ∷ ps) zxid now ≡ then_parts r g (touched_by t session p) (parts_of u limit session ps zxid now)
unfolding parts_of
parts_of-done t u limit session p ps zxid now r g e =
    ap (λ (o : Outcome). elim o as (λ x. Parts) [ Refused code ↦ Stopped 0 code | Done r u g ↦ then_parts r g (touched_by t session p) (parts_of u limit session ps zxid now) ]) e
