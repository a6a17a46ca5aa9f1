use Rattle.std.proofs.Common.{◌≡◌, arith}
use Rattle.std.specs.FinMap.{get}
use Rattle.std.specs.Prelude.{Some}
use Rattle.ev_types.specs.Denials.{carry}
use Rattle.ev_types.specs.Store.{store_at}
use Rattle.ev_types.specs.declared.ask.Ask.TheVariants as ask
use Rattle.ev_call.specs.Fitting.{Fits}
use Rattle.ev_shared.specs.Watching.{key_at}
use Rattle.ev_shared.proofs.Shown.{ranged, bounded}
use Rattle.ev_shared.proofs.kept.Kept.put_at.Goals as goal

pub returns-clause-shows : goal.returns-clause-shows
returns-clause-shows c =
    let s = c.args.self.now.store in
    let carried : carry s (ask.Range (key_at c.args.key.now c.args.revision)) ≡ Some (c.carry_out.new.self.store, c.in_ok-answer.answer) = cc (c.in_ok-ask.ensures, c.in_ok-answer.ensures.carried) in
    c.put_in.ensures (get (store_at s c.args.revision) c.args.key.now) (ranged s _ _ _ _ c.requires.first carried).1

pub returns-clause-seen : goal.returns-clause-seen
returns-clause-seen c =
    let s = c.args.self.now.store in
    let carried : carry s (ask.Range (key_at c.args.key.now c.args.revision)) ≡ Some (c.carry_out.new.self.store, c.in_ok-answer.answer) = cc (c.in_ok-ask.ensures, c.in_ok-answer.ensures.carried) in
    (ranged s _ _ _ _ c.requires.first carried).2

pub returns-clause-store : goal.returns-clause-store
returns-clause-store c =
    let s = c.args.self.now.store in
    let carried : carry s (ask.Range (key_at c.args.key.now c.args.revision)) ≡ Some (c.carry_out.new.self.store, c.in_ok-answer.answer) = cc (c.in_ok-ask.ensures, c.in_ok-answer.ensures.carried) in
    (ranged s _ _ _ _ c.requires.first carried).0

pub returns-clause-most : goal.returns-clause-most
returns-clause-most c =
    let s = c.args.self.now.store in
    let carried : carry s (ask.Range (key_at c.args.key.now c.args.revision)) ≡ Some (c.carry_out.new.self.store, c.in_ok-answer.answer) = cc (c.in_ok-ask.ensures, c.in_ok-answer.ensures.carried) in
    let fits : Fits (ask.Range (key_at c.args.key.now c.args.revision)) c.in_ok-answer.answer = rw (← c.in_ok-ask.ensures) c.in_ok-answer.ensures.fits in
    let few = bounded s _ _ _ _ carried fits in
    omega arith
