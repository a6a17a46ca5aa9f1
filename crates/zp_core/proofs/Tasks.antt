-- What is known of a task's request and view.
use Rattle.std.proofs.Common.{◌≡◌, subst}
use Rattle.zk_model.specs.declared.request.Request.{Request}
use Rattle.zn_view.specs.Seen.{View}
use Rattle.zp_core.specs.declared.stage.Task.{Task}

pub at-task : (P : Request → View → Type 0) (x y t : Task) → x ≡ t → y ≡ t → P x.request y.view → P t.request t.view
at-task P x y t e f h = subst (λ (s : Task). P t.request s.view) f (subst (λ (s : Task). P s.request y.view) e h)
