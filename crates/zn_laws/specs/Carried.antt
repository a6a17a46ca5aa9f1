-- Parts of a multi that leave something on a view, and what the machine makes of them in a state that the view shows (ZooKeeper API,
-- `multi`: all of its operations are carried out, or none).
use Rattle.std.specs.Prelude.{◌≡◌, ℕ, ℤ, List, reverse, Some}
use Rattle.zk_model.specs.declared.node.Trigger.{Trigger}
use Rattle.zk_model.specs.declared.reply.PartResult.{PartResult}
use Rattle.zk_model.specs.declared.request.Part.{Part}
use Rattle.zk_model.specs.Multi.{Passed, parts_of}
use Rattle.zk_model.specs.Znodes.{Tree}
use Rattle.zk_service.specs.States.{IsSound, Session, State, session_at, limit_of}
use Rattle.zn_multi.specs.Carrying.{AreShort}
use Rattle.zn_updates.specs.Layers.{Shows}
use Rattle.zn_view.specs.declared.leaving.TreeChange.{TreeChange}
use Rattle.zn_view.specs.Leaving.{IsLeft}
use Rattle.zn_view.specs.Seen.{View}

-- the machine carries these parts out, all of them, for a session that may own so many nodes
abbrev pub AreCarriedOut : Tree → ℕ → ℤ → List Part → ℤ → ℕ → Type 0
AreCarriedOut t limit id parts z now = (rs : List PartResult) × (u : Tree) × (gs : List Trigger) × (ss : List ℤ) × (parts_of t limit id parts z now ≡ Passed rs u gs ss)

-- Parts that leave something, of which the latest comes first, are carried out in each sound state that the view shows and in which
-- the session is open, at any zxid and any time.
abbrev pub LeftPartsAreCarriedOut : Type 0
LeftPartsAreCarriedOut = (id : ℤ) (now : ℕ) (v : View) (before : List Part) (changes : List TreeChange) (s : State) (z : ℤ) (x : Session)
    → IsLeft id v before (Some changes) → AreShort before → IsSound s → Shows z v s → session_at id s ≡ Some x → AreCarriedOut s.tree (limit_of x) id (reverse before) z now
