use Rattle.std.proofs.Common.{◌≡◌, [], take, ap, sym, ◌∙◌, refl}
use Rattle.zk_transcript.specs.History.{after}
use Rattle.zk_service.specs.States.{nothing_yet}
use Rattle.zk_history.proofs.cursor.Cursor.new.Goals as goal

after-none : after [] ≡ nothing_yet
unfolding after
after-none = refl

pub at-requires-clause-reached : goal.at-requires-clause-reached
at-requires-clause-reached c = c.new-2.ensures ∙ sym (ap (λ n. after (take n c.new.result.all.now)) c.new.ensures.len ∙ after-none)
