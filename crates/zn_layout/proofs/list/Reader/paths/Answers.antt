use Rattle.std.proofs.Common.{Option, subst}
use Rattle.zk_jute.specs.JuteWriting.{string_bytes}
use Rattle.zx_base.specs.Maps.{Bytes}
use Rattle.zn_layout.specs.ReadingSteps.{IsValidPath, TakesItem}
use Rattle.zn_layout.proofs.Lists.{paths_same, not_taken}
use Rattle.zn_layout.proofs.list.Reader.paths.Goals as goal

pub returns-in-None : goal.returns-in-None
returns-in-None c =
    let left = c.loop.self in
    let new = c.path.new.self in
    not_taken string_bytes IsValidPath paths_same c.args.self.now left new new c.loop.counter c.args.count c.loop.paths.items c.loop.invariant c.loop-test.true
    (subst (λ (o : Option Bytes). TakesItem string_bytes IsValidPath left new o) c.in-None.is c.in_ok-path.ensures)
