-- The laws of decisions.
use Rattle.std.specs.Prelude.{◌≡◌, ◌↔◌, true, None, Some}
use Rattle.std.specs.Ordering.{int_eq}
use Rattle.zk_model.specs.declared.request.Request.{Request}
use Rattle.zk_model.specs.Watches.{no_watches}
use Rattle.zk_service.specs.Answers.{plain_request, tree_reply}
use Rattle.zk_service.specs.States.{State, Session, IsSound, limit_of, session_at}
use Rattle.zn_layout.specs.Listing.{HasValidPaths}
use Rattle.zk_model.specs.Kinds.{is_update}
use Rattle.zn_view.specs.declared.plan.Decision.{Decision}
use Rattle.zn_view.specs.declared.plan.Who.{Who}
use Rattle.zn_view.specs.Seen.{View}
use Rattle.zn_view.specs.Views.{IsDecision, IsOf, IsPlanned, live}
use Rattle.zn_ops.specs.Forms.{is_single}

-- on a view of a sound state with valid paths in which the session is attached to this connection, a request that its form does
-- not decide is planned exactly where the tree does not answer it
abbrev pub PlannedWhereNotRefused : Type 0
PlannedWhereNotRefused = (r : Request) (who : Who) (v : View) (d : Decision) (s : State) (x : Session) → IsDecision r who v d → IsSound s
    → HasValidPaths s.tree → IsOf v s → plain_request no_watches r ≡ None → live (session_at who.session s) ≡ Some x
    → int_eq x.attached who.mine ≡ true → (IsPlanned d ↔ (tree_reply s.tree (limit_of x) who.session no_watches r ≡ None))

-- of the single requests only a create, a delete or a setData is ever planned
abbrev pub PlannedSinglesAreUpdates : Type 0
PlannedSinglesAreUpdates = (r : Request) (who : Who) (v : View) (d : Decision) (s : State) → is_single r ≡ true → IsDecision r who v d
    → IsSound s → HasValidPaths s.tree → IsOf v s → IsPlanned d → is_update r ≡ true
