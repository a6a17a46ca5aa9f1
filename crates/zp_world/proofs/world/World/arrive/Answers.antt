use Rattle.std.proofs.Common.{◌≡◌, ap, ◌∙◌, subst, of_z, to_z, w64, rules}
use Rattle.std.specs.Prelude.{ℤ, ℕ}
use Rattle.std.proofs.lemmas.Int.{to_z-of_z}
use Rattle.std.proofs.lemmas.Result.{on_ok_weaker}
use Rattle.zp_script.specs.Arriving.{EndsBadly}
use Rattle.zp_script.specs.Worlds.{World, conn_at, with_conn}
use Rattle.zp_world.proofs.Serving.{all-arrive}
use Rattle.zp_world.proofs.world.World.arrive.Goals as goal

pub returns : goal.returns
returns c =
    let z : ℤ = to_z w64 (of_z w64 c.in_ok-zxid.zxid) in
    let same : c.last_zxid.new.self ≡ c.args.self.now = c.in_ok-zxid.ensures.same in
    on_ok_weaker c.take_length.result (λ ends. λ x bytes there cuts.
    all-arrive c.args.connection z c.args.self.now c.keep.new.self c.take_frames.new.self c.take_length.new.self x bytes c.args.cut.frames.items c.args.cut.bad c.args.cut.inbox c.requires.open there cuts
    (to_z-of_z w64 c.in_ok-zxid.zxid (search rules) ∙ c.in_ok-zxid.ensures.zxid)
    (c.in_ok-keep.ensures x (ap (conn_at c.args.connection) same ∙ there) ∙ ap (λ (v : World). with_conn v c.args.connection (record x { stream = c.args.cut.inbox })) same)
    (λ serving. c.in_ok-take_frames.ensures serving)
    (λ at. subst (λ (place : ℕ). EndsBadly c.args.connection c.take_frames.new.self place c.args.cut.bad c.take_length.new.self) c.place-place.ensures (ends at))) c.take_length.ensures
