use Rattle.std.proofs.Common.{◌≡◌, Some, sym, ◌∙◌, rules, length}
use Rattle.zk_jute.specs.JuteWriting.{with_length}
use Rattle.zp_script.specs.Worlds.{conn_at}
use Rattle.zp_world.proofs.Refusing.{refuses, frame-of}
use Rattle.zp_world.proofs.world.World.frame_line.Goals as goal

pub returns-in-Some : goal.returns-in-Some
returns-in-Some c =
    let size : c.len.result ≡ length c.args.bytes = search rules in
    refuses _ _ c.in-Some.why c.refused.result (frame-of c.args.self.now c.args.connection c.len.result c.args.bytes size ∙ sym c.frame_why.ensures ∙ c.in-Some.is) c.refused.ensures

pub returns-in_ok-arrive-in-None : goal.returns-in_ok-arrive-in-None
returns-in_ok-arrive-in-None c =
    let size : c.len.result ≡ length c.args.bytes = search rules in
    let there : conn_at c.args.connection c.args.self.now ≡ Some c.in-Some-get.slot.now = search rules in
    record {
      possible = frame-of c.args.self.now c.args.connection c.len.result c.args.bytes size ∙ sym c.frame_why.ensures ∙ c.in-None.is;
      effect = c.in_ok-arrive-in-None.ensures c.in-Some-get.slot.now (with_length c.args.bytes) there
          c.in_ok-cut-in-None.ensures.cuts;
    }
