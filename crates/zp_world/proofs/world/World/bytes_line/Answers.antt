use Rattle.std.proofs.Common.{◌≡◌, sym, ◌∙◌, rules, subst, List, ℕ}
use Rattle.zp_script.specs.Arriving.{Arrives}
use Rattle.zp_world.proofs.Refusing.{refuses, bytes-line}
use Rattle.zp_world.proofs.world.World.bytes_line.Goals as goal

pub returns-in-Some : goal.returns-in-Some
returns-in-Some c = refuses _ _ c.in-Some.why c.refused.result (bytes-line c.args.self.now c.args.connection c.args.bytes ∙ sym c.connection_why.ensures ∙ c.in-Some.is) c.refused.ensures

pub returns : goal.returns
returns c =
    let came : c.as_slice.result.now ≡ c.args.bytes = search rules in
    record {
      possible = bytes-line c.args.self.now c.args.connection c.args.bytes ∙ sym c.connection_why.ensures ∙ c.in-None.is;
      effect = subst (λ (b : List ℕ). Arrives c.args.connection c.args.self.now b c.receive.new.self) came c.in_ok-receive-in-None.ensures;
    }
