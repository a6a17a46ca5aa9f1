use Rattle.std.proofs.Common.{◌≡◌, List, ℕ, [], ◌≤◌, length, subst, sym, ◌∙◌}
use Rattle.std.specs.Prelude.{ℤ}
use Rattle.std.proofs.lemmas.List.Elements.{All-head}
use Rattle.std.specs.Vec.Iter.{into_iter_items}
use Rattle.zk_model.specs.Limits.{max_frame}
use Rattle.zp_script.specs.Arriving.{FramesArrive}
use Rattle.zp_world.specs.Taking.{IsServing}
use Rattle.zp_world.proofs.Serving.{AreComing, AreShort, coming-end, coming-first, coming-next, fewer}
use Rattle.zp_world.proofs.Within.{nothing-left}
use Rattle.zp_world.proofs.world.World.take_frames.Goals as goal

pub loop-frame-init : goal.loop-frame-init
loop-frame-init c = coming-first c.args.arrival.connection c.args.arrival.zxid c.args.self.now (into_iter_items c.into_iter-coming.result) (subst AreShort (sym c.into_iter-coming.ensures.rest) c.requires)

pub take_frame-requires : goal.take_frame-requires
take_frame-requires c = All-head (λ (f : List ℕ). length f ≤ max_frame) _ _ (subst AreShort c.in-Some.ensures.items c.loop-frame.invariant.short)

pub loop-frame-preserved : goal.loop-frame-preserved
loop-frame-preserved c =
    coming-next c.args.arrival.connection c.args.arrival.zxid c.args.self.now c.loop-frame.self c.take_frame.new.self (into_iter_items c.into_iter-coming.result) c.in-Some.frame (into_iter_items c.next.new.self) (into_iter_items c.take_frame.new.after)
    (subst (λ (fs : List (List ℕ)). AreComing c.args.arrival.connection c.args.arrival.zxid c.args.self.now (into_iter_items c.into_iter-coming.result) c.loop-frame.self fs) c.in-Some.ensures.items c.loop-frame.invariant) c.in_ok-take_frame.ensures.left c.in_ok-take_frame.ensures.takes

pub loop-frame-smaller : goal.loop-frame-smaller
loop-frame-smaller c = fewer _ _ _ _ c.in-Some.ensures.items c.in_ok-take_frame.ensures.left

pub returns : goal.returns
returns c =
    let none : into_iter_items c.next.new.self ≡ [] = nothing-left c.next.new.self c.in_default.ensures.cases.1 in
    let z : ℤ = c.args.arrival.zxid in
    let all : (frames : List (List ℕ)) → into_iter_items c.into_iter-coming.result ≡ frames → IsServing c.args.arrival.connection z frames c.args.self.now → FramesArrive c.args.arrival.connection c.args.self.now frames c.loop-frame.self =
    λ frames is. subst (λ (fs : List (List ℕ)). IsServing c.args.arrival.connection z fs c.args.self.now → FramesArrive c.args.arrival.connection c.args.self.now fs c.loop-frame.self) is
    (coming-end c.args.arrival.connection z c.args.self.now c.loop-frame.self (into_iter_items c.into_iter-coming.result)
    (subst (λ (fs : List (List ℕ)). AreComing c.args.arrival.connection z c.args.self.now (into_iter_items c.into_iter-coming.result) c.loop-frame.self fs) (c.in_default.ensures.items ∙ none) c.loop-frame.invariant)) in
    all c.args.frames.items c.into_iter-coming.ensures.rest
