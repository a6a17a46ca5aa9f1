use Rattle.std.proofs.Common.{[], Some}
use Rattle.zn_view.proofs.Members.{in_right}
use Rattle.zn_updates.specs.KeysRead.{start_keys}
use Rattle.zn_multi.specs.Carrying.{no_progress}
use Rattle.zn_multi.proofs.Existing.{keys_there}
use Rattle.zn_multi.proofs.Needs.{whole_seen}
use Rattle.zn_multi.proofs.Staying.{run_seen, stays_start}
use Rattle.zn_multi.proofs.laws.what_parts_look_at_was_seen.Goals as goal

pub returns : goal.returns
returns c = λ who now v parts s z x carried run few whole time short sound shown opened.
    let ks = keys_there z v s shown who.session parts (Some []) in
    run_seen who now time v v (λ k o e. e) parts s z sound shown x opened parts [] no_progress 0 carried run ks.0 ks.1
    (λ k i. whole_seen parts who v ks.0 ks.1 few whole k (in_right k (start_keys who.session) ks.0 i)) short
    (stays_start who now time v v (λ k o e. e) parts s z sound shown x opened)
