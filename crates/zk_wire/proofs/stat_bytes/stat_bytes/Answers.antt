use Rattle.std.proofs.Common.{rules, ◌≡◌, ℕ, List, [], ◌++◌, ◌∙◌}
use Rattle.zk_jute.specs.JuteValues.{Value}
use Rattle.zk_jute.specs.JuteWriting.{canonical}
use Rattle.zk_jute.specs.Records.{stat_values}
use Rattle.zk_wire.specs.Putting.{put_all}
use Rattle.zk_wire.proofs.Puts.{put_all_written}
use Rattle.zk_wire.proofs.stat_bytes.stat_bytes.Goals as goal

pub returns : goal.returns
unfolding stat_values
returns c =
    let one_by_one : c.full.result ≡ put_all (λ (o : List ℕ) (v : Value). o ++ canonical v) [] (stat_values c.args.stat.now) = search rules in
    one_by_one ∙ put_all_written [] (stat_values c.args.stat.now)
