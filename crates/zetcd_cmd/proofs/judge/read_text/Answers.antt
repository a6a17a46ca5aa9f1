use Rattle.std.proofs.Common.{◌≡◌, ◌++◌, ◌∙◌, ℕ, List, length, take, refl, sym, ap, arith, subst}
use Rattle.zx_outside.specs.Reading.{Gives}
use Rattle.zx_outside.proofs.Streams.{Gives-nil, Gives-append, Gives-none}
use Rattle.zetcd_cmd.proofs.Endings.{written_over, at_its_end}
use Rattle.zetcd_cmd.proofs.Waits.{Waited-none}
use Rattle.zetcd_cmd.proofs.judge.read_text.Goals as goal

pub pieces-init : goal.pieces-init
pieces-init g c = record {
  seen = subst (λ (t : List ℕ). Gives t (g.I.Source.given c.args.input.now) (g.I.Source.given c.args.input.now) (g.I.Source.left c.args.input.now) (g.I.Source.left c.args.input.now)) (sym c.requires)
      (Gives-nil (g.I.Source.given c.args.input.now) (g.I.Source.left c.args.input.now));
  wide = c.in-Ok.ensures.len;
  waited = (Waited-none (g.I.Source.counts c.args.input.now), omega arith);
}

pub pieces-preserved : goal.pieces-preserved
pieces-preserved g c =
    let seen = c.pieces.text.items in
    let size : length c.next_piece.new.buffer ≡ c.pieces.buffer.len = omega (arith, c.next_piece.auto.buffer, c.as_mut_slice.ensures.len) in
    let whole : c.deref.result.now ≡ c.next_piece.new.buffer = written_over c.deref.result.now c.next_piece.new.buffer _ c.pieces.buffer.len c.deref.ensures.value size in
    let added : c.extend_from_slice.new.self.items ≡ seen ++ take c.in-Bytes.count c.next_piece.new.buffer =
    c.in-Ok-extend_from_slice.ensures.items ∙ ap (λ (b : List ℕ). seen ++ take c.in-Bytes.count b) whole in
    record {
      seen = subst (λ (t : List ℕ). Gives t (g.I.Source.given c.args.input.now) (g.I.Source.given c.next_piece.new.input) (g.I.Source.left c.args.input.now) (g.I.Source.left c.next_piece.new.input)) (sym added)
          (Gives-append seen (take c.in-Bytes.count c.next_piece.new.buffer) _ _ _ _ _ _ c.pieces.invariant.seen c.in-Bytes.ensures.bytes);
      wide = c.pieces.invariant.wide;
      waited = c.in-Bytes.ensures.waited (λ no. cc) (g.I.Source.counts c.args.input.now) c.pieces.invariant.waited.0;
    }

pub returns-in_default-extend_from_slice-clause-text : goal.returns-in_default-extend_from_slice-clause-text
returns-in_default-extend_from_slice-clause-text g c =
    let piece = take c.in-Bytes.count c.next_piece.new.buffer in
    (c.pieces.text.items ++ piece, Gives-append c.pieces.text.items piece _ _ _ _ _ _ c.pieces.invariant.seen c.in-Bytes.ensures.bytes, tt {0})

pub returns-in-End-clause-text : goal.returns-in-End-clause-text
returns-in-End-clause-text g c = (
  c.pieces.text.items,
  Gives-none c.pieces.text.items (g.I.Source.given c.args.input.now) (g.I.Source.given c.pieces.input) (g.I.Source.given c.next_piece.new.input) (g.I.Source.left c.args.input.now) (g.I.Source.left c.pieces.input)
      (g.I.Source.left c.next_piece.new.input) c.pieces.invariant.seen c.in-End.ensures.bytes.1,
  (
    at_its_end (g.I.Source.ended c.next_piece.new.input) (g.I.Source.left c.pieces.input) (g.I.Source.left c.next_piece.new.input) (c.in-End.ensures.end refl) c.in-End.ensures.bytes.0
        c.in-End.ensures.bytes.1.left_stays,
    refl,
  ),
)

pub returns-in-Fault-clause-fault : goal.returns-in-Fault-clause-fault
returns-in-Fault-clause-fault g c = λ is. c.in-Fault.ensures.fault refl (g.I.Source.counts c.args.input.now) c.pieces.invariant.waited.0
