use Rattle.std.proofs.Common.{◌≡◌, ◌∙◌, ◌-◌, length, drop, take, arith}
use Rattle.std.proofs.lemmas.List.{length-drop, take_all}
use Rattle.zx_outside.proofs.Streams.{Takes-next, front_next}
use Rattle.zx_outside.proofs.writing.write_all.Goals as goal

pub pieces-preserved : goal.pieces-preserved
pieces-preserved g c =
    let bytes = c.args.bytes.now in
    let size : length (drop c.pieces.at bytes) ≡ length bytes - c.pieces.at = length-drop c.pieces.at bytes in
    let rest : take (length bytes - c.pieces.at) (drop c.pieces.at bytes) ≡ drop c.pieces.at bytes = take_all _ _ (omega arith) in
    let written = rw rest at c.in-Bytes.ensures in
    record {
      within = omega (arith, written.size, size);
      taken = Takes-next bytes c.pieces.at c.in-Bytes.count _ _ _ c.pieces.invariant.taken written.bytes;
      unharmed = written.counts ∙ c.pieces.invariant.unharmed;
      named = written.named ∙ c.pieces.invariant.named;
    }

pub returns-in-Failed-clause-front : goal.returns-in-Failed-clause-front
returns-in-Failed-clause-front g c = λ no.
    let bytes = c.args.bytes.now in
    let rest : take (length bytes - c.pieces.at) (drop c.pieces.at bytes) ≡ drop c.pieces.at bytes = take_all _ _ (omega (arith, length-drop c.pieces.at bytes)) in
    front_next bytes c.pieces.at _ _ _ c.pieces.invariant.within c.pieces.invariant.taken (rw rest at c.in-Failed.ensures.bytes)
