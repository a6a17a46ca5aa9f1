-- Each test decides one of the cases.
use Rattle.std.proofs.Common.{Bool, false, w32, subst, sym, ap, ◌∙◌, cond}
use Rattle.std.specs.Prelude.{Option}
use Rattle.std.proofs.lemmas.Int.{to_z-of_z}
use Rattle.zx_base.specs.Maps.{Bytes}
use Rattle.zk_model.specs.declared.reply.Body.TheVariants as body
use Rattle.zk_model.specs.declared.reply.Reply.TheVariants as reply
use Rattle.zk_model.specs.Watches.{Watches, is_watched, is_watcher_type, unwatched}
use Rattle.zk_service.specs.Answers.{only, told_of_watches}
use Rattle.zk_model.specs.PathFaults.{IsPathOf}
use Rattle.zp_core.proofs.Watching.{no_path, no_type, no_watch, some_watch}
use Rattle.zp_core.proofs.frames.watcher_reply.Goals as goal

pub returns-in_default : goal.returns-in_default
returns-in_default c =
    let w = c.args.watches.now in
    let p = c.args.text.now in
    let k = c.args.kind in
    no_path w (cond c.args.removes (unwatched w p k) w) p k (is_watched w p k) (subst (λ (o : Option Bytes). IsPathOf false p o) c.in_default.is c.in_ok-path.ensures)

pub returns-then-not-is_type : goal.returns-then-not-is_type
returns-then-not-is_type c =
    let w = c.args.watches.now in
    let p = c.args.text.now in
    let k = c.args.kind in
    let kind = to_z-of_z w32 k c.ranges.kind in
    let path = subst (λ (o : Option Bytes). IsPathOf false p o) c.in-Some.is c.in_ok-path.ensures in
    no_type w (cond c.args.removes (unwatched w p k) w) p k (is_watched w p k) path.1
    (sym (c.is_watcher_type-is_type.ensures ∙ ap is_watcher_type kind) ∙ c.if-not-is_type.true)

pub returns-then-not-is_armed : goal.returns-then-not-is_armed
returns-then-not-is_armed c =
    let w = c.args.watches.now in
    let p = c.args.text.now in
    let k = c.args.kind in
    let kind = to_z-of_z w32 k c.ranges.kind in
    let path = subst (λ (o : Option Bytes). IsPathOf false p o) c.in-Some.is c.in_ok-path.ensures in
    no_watch w (cond c.args.removes (unwatched w p k) w) p k path.1
    (sym (c.is_watcher_type-is_type.ensures ∙ ap is_watcher_type kind) ∙ c.if-not-is_type.false)
    (sym (c.has-is_armed.ensures ∙ (λ i. is_watched w (path.0 i) (kind i))) ∙ c.if-not-is_armed.true)

pub returns-then-removes : goal.returns-then-removes
returns-then-removes c =
    let w = c.args.watches.now in
    let p = c.args.text.now in
    let k = c.args.kind in
    let kind = to_z-of_z w32 k c.ranges.kind in
    let path = subst (λ (o : Option Bytes). IsPathOf false p o) c.in-Some.is c.in_ok-path.ensures in
    ap (λ (v : Watches). only v (reply.Good body.Empty)) (c.remove.ensures.rest ∙ (λ i. unwatched w (path.0 i) (kind i)))
    ∙ some_watch w (unwatched w p k) p k path.1
    (sym (c.is_watcher_type-is_type.ensures ∙ ap is_watcher_type kind) ∙ c.if-not-is_type.false)
    (sym (c.has-is_armed.ensures ∙ (λ i. is_watched w (path.0 i) (kind i))) ∙ c.if-not-is_armed.false)
    ∙ ap (λ (b : Bool). told_of_watches w p k b) (sym c.if-removes.true)

pub returns : goal.returns
returns c =
    let w = c.args.watches.now in
    let p = c.args.text.now in
    let k = c.args.kind in
    let kind = to_z-of_z w32 k c.ranges.kind in
    let path = subst (λ (o : Option Bytes). IsPathOf false p o) c.in-Some.is c.in_ok-path.ensures in
    some_watch w w p k path.1
    (sym (c.is_watcher_type-is_type.ensures ∙ ap is_watcher_type kind) ∙ c.if-not-is_type.false)
    (sym (c.has-is_armed.ensures ∙ (λ i. is_watched w (path.0 i) (kind i))) ∙ c.if-not-is_armed.false)
    ∙ ap (λ (b : Bool). told_of_watches w p k b) (sym c.if-removes.false)
