use Rattle.std.proofs.Common.{◌≡◌, ◌∙◌, Some, None, ap, subst, List}
use Rattle.std.specs.Prelude.{map}
use Rattle.std.proofs.lemmas.Result.{IfOk-weaker}
use Rattle.zk_model.specs.Paths.{last_name}
use Rattle.zx_base.specs.Maps.{Bytes}
use Rattle.zn_view.specs.Seen.{listed}
use Rattle.zn_reads.proofs.Agreeing.{listed_of}
use Rattle.zn_reads.proofs.names.names_at.Goals as goal

pub returns-in-Some : goal.returns-in-Some
returns-in-Some c =
    let v = c.args.view.now in
    let p = c.args.path.now in
    let found : listed v p ≡ Some c.in-Some.paths.now = subst (λ (q : Bytes). listed v q ≡ Some c.in-Some.paths.now) c.bytes.ensures (c.in-Some.ensures) in
    IfOk-weaker c.names_of.result _ _ (λ names is looked s sound valid of. is ∙ ap (λ (ps : List Bytes). map last_name ps) (listed_of v s p c.in-Some.paths.now sound valid of c.requires found)) c.names_of.ensures

pub returns-in-None : goal.returns-in-None
returns-in-None c = λ looked s sound valid of.
    let v = c.args.view.now in
    let none : listed v c.args.path.now ≡ None = subst (λ (q : Bytes). listed v q ≡ None) c.bytes.ensures (c.in-None.ensures) in
    absurd (looked none)
