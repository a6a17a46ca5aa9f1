use Rattle.std.proofs.Common.{◌≡◌, ap, ◌∙◌, subst, of_z, to_z, w64, rules}
use Rattle.std.specs.Prelude.{ℤ, ℕ}
use Rattle.std.proofs.lemmas.Int.{to_z-of_z}
use Rattle.std.proofs.lemmas.Result.{on_ok_weaker}
use Rattle.zp_script.specs.Arriving.{EndsBadly}
use Rattle.zp_script.specs.Worlds.{World, conn_at, with_conn}
use Rattle.zp_world.proofs.Serving.{all-arrive, conn-there}
use Rattle.zp_world.proofs.world.World.receive.Goals as goal

pub returns : goal.returns
returns c =
    let z : ℤ = to_z w64 (of_z w64 c.in_ok-zxid.zxid) in
    let same : c.last_zxid.new.self ≡ c.args.self.now = c.in_ok-zxid.ensures.same in
    let there = conn-there c.args.connection c.args.self.now c.requires in
    let cut = c.in_ok-piece.ensures.cuts there.0 (ap (conn_at c.args.connection) same ∙ there.1) in
    on_ok_weaker c.take_length.result (λ ends.
    all-arrive c.args.connection z c.args.self.now c.cut.new.self c.take_frames.new.self c.take_length.new.self there.0 c.args.bytes.now c.in_ok-piece.piece.frames.items c.in_ok-piece.piece.bad cut.stream c.requires there.1 cut.cuts
    (to_z-of_z w64 c.in_ok-zxid.zxid (search rules) ∙ c.in_ok-zxid.ensures.zxid)
    (cut.kept ∙ ap (λ (v : World). with_conn v c.args.connection (record there.0 { stream = cut.stream })) same)
    (λ serving. c.in_ok-take_frames.ensures serving)
    (λ at. subst (λ (place : ℕ). EndsBadly c.args.connection c.take_frames.new.self place c.in_ok-piece.piece.bad c.take_length.new.self) cut.at (ends at))) c.take_length.ensures
