use Rattle.std.proofs.Common.{◌≡◌, ◌∙◌, refl, rules}
use Rattle.std.specs.Prelude.{pos}
use Rattle.ev_types.specs.Store.{present}
use Rattle.zk_transcript.specs.History.{begin_lines}
use Rattle.zp_world.proofs.Beginning.{first-entries, first-world}
use Rattle.zp_world.proofs.world.World.over.Goals as goal

pub returns : goal.returns
returns c =
    let two : c.revision-zxid.result ≡ pos 2 = c.revision-zxid.ensures ∙ c.requires.revision in
    let lines : c.push_update.new.self ≡ begin_lines 0 = rw (c.in_ok-push_update.ensures.ok, c.new-transcript.ensures, two) in
    first-world _ c.args.store c.in_ok-head.ensures.same refl c.new.ensures c.new-2.ensures lines
    (first-entries (present c.args.store) c.new-entries.result c.add.new.self _ c.requires.stands c.in_ok-add.ensures.ok c.new-entries.ensures (search rules))
