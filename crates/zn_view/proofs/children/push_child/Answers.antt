use Rattle.std.proofs.Common.{◌≡◌, drop, ◌++◌, ◌∙◌, ap, not, ◌&&◌, List}
use Rattle.ev_types.specs.Ranges.{comes_before}
use Rattle.zx_base.specs.Maps.{Bytes}
use Rattle.zn_view.specs.Asks.{path_in, paths_in}
use Rattle.zn_view.proofs.ChildPaths.{child-between, child-passed, child-taken}
use Rattle.zn_view.proofs.children.push_child.Goals as goal

pub returns-then-not-is_between : goal.returns-then-not-is_between
returns-then-not-is_between c = λ p s e rest.
    let kv = c.args.kv.now in
    let between = c.is_between.ensures ∙ ap (λ (l : Bytes). not (comes_before l c.args.start.now) && comes_before l c.args.end.now) c.as_slice-key.ensures in
    child-passed p kv c.args.paths.now rest (child-between p c.args.start.now c.args.end.now kv c.is_between.result s e between ∙ c.if-not-is_between.true)

pub returns : goal.returns
returns c = λ p s e rest.
    let kv = c.args.kv.now in
    let between = c.is_between.ensures ∙ ap (λ (l : Bytes). not (comes_before l c.args.start.now) && comes_before l c.args.end.now) c.as_slice-key.ensures in
    let path : c.in_ok-copy_of.field-0 ≡ path_in kv = c.in_ok-copy_of.ensures ∙ c.path_of.ensures ∙ ap (λ (l : Bytes). drop 9 l) c.as_slice-key.ensures in
    ap (λ (l : List Bytes). l ++ paths_in p rest) c.in_ok-push.ensures.ok
    ∙ child-taken p kv c.args.paths.now c.in_ok-copy_of.field-0 rest (child-between p c.args.start.now c.args.end.now kv c.is_between.result s e between ∙ c.if-not-is_between.false) path
