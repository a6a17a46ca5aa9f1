use Rattle.std.proofs.Common.{sym, subst}
use Rattle.zk_jute.specs.JuteWriting.{string_bytes}
use Rattle.zx_base.specs.Maps.{Bytes}
use Rattle.zn_layout.specs.ReadingSteps.{IsCounted, IsNotCounted, IsPathOf, IsValidPath, TakesItem}
use Rattle.zn_layout.proofs.Lists.{path-uncounted, path-short, path-taken, ok_along}
use Rattle.zn_layout.proofs.list.Reader.path.Goals as goal

pub returns-in_default : goal.returns-in_default
returns-in_default c = path-uncounted c.args.self.now c.args.self.now (subst (λ (b : Bytes). IsNotCounted b) c.self.view_is c.in_default.ensures)

pub returns-then-rest-length : goal.returns-then-rest-length
returns-then-rest-length c = path-short c.args.self.now c.in-Some.rest.now c.args.self.now c.in-Some.length (subst (λ (b : Bytes). IsCounted b c.in-Some.length c.in-Some.rest.now) c.self.view_is c.in-Some.ensures) c.if-rest-length.true

pub returns : goal.returns
returns c =
    let s = c.split_at.ensures in
    let old = c.args.self.now in
    let left = c.in-Some.rest.now in
    let n = c.in-Some.length in
    ok_along (IsPathOf c.split_at.result.0.now) (TakesItem string_bytes IsValidPath old c.split_at.result.1.now)
    (λ o h. subst (λ (b : Bytes). TakesItem string_bytes IsValidPath old b o) (sym s.back)
    (path-taken old left n o (subst (λ (b : Bytes). IsCounted b n left) c.self.view_is c.in-Some.ensures) c.if-rest-length.false (subst (λ (b : Bytes). IsPathOf b o) s.front h)))
    c.valid_path.result c.valid_path.ensures
