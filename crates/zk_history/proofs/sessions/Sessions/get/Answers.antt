use Rattle.std.proofs.Common.{ap, sym, ◌∙◌, w64, to_z, of_z}
use Rattle.std.proofs.lemmas.Int.{to_z-of_z}
use Rattle.std.specs.FinMap.{get}
use Rattle.zk_history.proofs.SessionLaws.{get-numbered}
use Rattle.zk_history.proofs.sessions.Sessions.get.Goals as goal

pub returns : goal.returns
returns c =
    c.get.ensures.value ∙ sym (get-numbered c.self.inside.open.entries (to_z w64 (of_z w64 c.args.id)))
    ∙ ap (get _) (to_z-of_z w64 c.args.id c.ranges.id) ∙ ap (λ m. get m c.args.id) c.self.view_is
