use Rattle.std.proofs.Common.{◌≡◌, ◌∙◌, ◌++◌, [], List, ℕ, length, take, refl, sym, ap, arith, subst}
use Rattle.zt_show.specs.Showing.{ShowingFollows}
use Rattle.zx_outside.proofs.Streams.{Gives-nil, Gives-append, Gives-none, append_known-nil}
use Rattle.zetcd_cmd.specs.Streaming.{Closes, counts_at}
use Rattle.zetcd_cmd.proofs.Endings.{written_over, at_its_end}
use Rattle.zetcd_cmd.proofs.Showings.{Follows-unshown, Takes-lines, Did-closed, Did-finished, Did-begun, Did-unread}
use Rattle.zetcd_cmd.proofs.Waits.{Waited-none, IsUnharmed-none, IsUnharmed-waited}
use Rattle.zetcd_cmd.proofs.show.show_pieces.Goals as goal

pub returns-in_default-clause-told : goal.returns-in_default-clause-told
returns-in_default-clause-told g c =
    Did-unread (g.I.Source.ended c.args.input.now) c.args.show.now (g.I.Source.given c.args.input.now) (g.I.Source.left c.args.input.now) (g.O.Sink.taken c.args.out.now) c.requires
    (Gives-nil (g.I.Source.given c.args.input.now) (g.I.Source.left c.args.input.now)) (sym (append_known-nil (g.O.Sink.taken c.args.out.now)))

pub returns-in_default-clause-unharmed : goal.returns-in_default-clause-unharmed
returns-in_default-clause-unharmed g c = λ not. IsUnharmed-none (g.I.Source.counts c.args.input.now)

pub pieces-init : goal.pieces-init
pieces-init g c = record {
  seen = (
    [],
    [],
    Gives-nil (g.I.Source.given c.args.input.now) (g.I.Source.left c.args.input.now),
    sym (append_known-nil (g.O.Sink.taken c.args.out.now)),
    Follows-unshown c.args.show.now c.requires,
  );
  empty = c.new-text.ensures;
  wide = c.in-Ok.ensures.len;
  waited = (Waited-none (g.I.Source.counts c.args.input.now), omega arith);
  unharmed = refl;
}

pub returns-in-Err-clause-told : goal.returns-in-Err-clause-told
returns-in-Err-clause-told g c =
    let seen = c.pieces.invariant.seen.0 in
    let lines = c.pieces.invariant.seen.1 in
    let piece = take c.in-Bytes.count c.next_piece.new.buffer in
    let size : length c.next_piece.new.buffer ≡ c.pieces.buffer.len = omega (arith, c.next_piece.auto.buffer, c.as_mut_slice.ensures.len) in
    let whole : c.deref.result.now ≡ c.next_piece.new.buffer = written_over c.deref.result.now c.next_piece.new.buffer _ c.pieces.buffer.len c.deref.ensures.value size in
    Did-closed c.in-Err.close seen piece lines c.pieces.show c.show_piece.new.show (g.I.Source.ended c.next_piece.new.input) (g.I.Source.given c.args.input.now) (g.I.Source.given c.next_piece.new.input)
    (g.I.Source.left c.args.input.now) (g.I.Source.left c.next_piece.new.input) (g.O.Sink.taken c.args.out.now) (g.O.Sink.taken c.pieces.out) (g.O.Sink.taken c.show_piece.new.out)
    (Gives-append seen piece _ _ _ _ _ _ c.pieces.invariant.seen.2 c.in-Bytes.ensures.bytes) c.pieces.invariant.seen.4 c.pieces.invariant.seen.3
    (subst (λ (b : List ℕ). Closes c.in-Err.close c.pieces.show (take c.in-Bytes.count b) (g.O.Sink.taken c.pieces.out) (g.O.Sink.taken c.show_piece.new.out) c.show_piece.new.show) whole c.in-Err.ensures.err)

pub returns-in-Err-clause-unharmed : goal.returns-in-Err-clause-unharmed
returns-in-Err-clause-unharmed g c = λ not.
    IsUnharmed-waited (g.I.Source.counts c.args.input.now) (g.I.Source.counts c.next_piece.new.input) c.next_piece.new.idle (c.in-Bytes.ensures.waited (λ no. cc) (g.I.Source.counts c.args.input.now) c.pieces.invariant.waited.0)

pub returns-in-Err-clause-count : goal.returns-in-Err-clause-count
returns-in-Err-clause-count g c = c.in-Err.ensures.count ∙ ap (counts_at c.in-Err.close) c.pieces.invariant.unharmed

pub pieces-preserved : goal.pieces-preserved
pieces-preserved g c =
    let seen = c.pieces.invariant.seen.0 in
    let lines = c.pieces.invariant.seen.1 in
    let piece = take c.in-Bytes.count c.next_piece.new.buffer in
    let size : length c.next_piece.new.buffer ≡ c.pieces.buffer.len = omega (arith, c.next_piece.auto.buffer, c.as_mut_slice.ensures.len) in
    let whole : c.deref.result.now ≡ c.next_piece.new.buffer = written_over c.deref.result.now c.next_piece.new.buffer _ c.pieces.buffer.len c.deref.ensures.value size in
    let passes = c.in_default-show_piece.ensures.ok in
    let adds = passes.1 in
    record {
      seen = (
        seen ++ piece,
        lines ++ adds.0,
        Gives-append seen piece _ _ _ _ _ _ c.pieces.invariant.seen.2 c.in-Bytes.ensures.bytes,
        Takes-lines lines adds.0 passes.0 (g.O.Sink.taken c.args.out.now) (g.O.Sink.taken c.pieces.out) (g.O.Sink.taken c.show_piece.new.out) adds.1 c.pieces.invariant.seen.3 passes.2,
        subst (λ (b : List ℕ). ShowingFollows (seen ++ take c.in-Bytes.count b) (lines ++ adds.0) c.show_piece.new.show) whole (adds.2 seen lines c.pieces.invariant.seen.4),
      );
      empty = c.in_default-show_piece.ensures.empty;
      wide = c.pieces.invariant.wide;
      waited = c.in-Bytes.ensures.waited (λ no. cc) (g.I.Source.counts c.args.input.now) c.pieces.invariant.waited.0;
      unharmed = c.in_default-show_piece.ensures.unharmed ∙ c.pieces.invariant.unharmed;
    }

pub returns-in-End-clause-told : goal.returns-in-End-clause-told
returns-in-End-clause-told g c =
    let seen = c.pieces.invariant.seen.0 in
    let given = g.I.Source.given c.args.input.now in
    let left = g.I.Source.left c.args.input.now in
    Did-finished c.show_end.result seen c.pieces.invariant.seen.1 c.pieces.show c.show_end.new.show (g.I.Source.ended c.next_piece.new.input) given (g.I.Source.given c.next_piece.new.input) left
    (g.I.Source.left c.next_piece.new.input) (g.O.Sink.taken c.args.out.now) (g.O.Sink.taken c.pieces.out) (g.O.Sink.taken c.show_end.new.out)
    (Gives-none seen given (g.I.Source.given c.pieces.input) (g.I.Source.given c.next_piece.new.input) left (g.I.Source.left c.pieces.input) (g.I.Source.left c.next_piece.new.input) c.pieces.invariant.seen.2 c.in-End.ensures.bytes.1)
    (at_its_end (g.I.Source.ended c.next_piece.new.input) (g.I.Source.left c.pieces.input) (g.I.Source.left c.next_piece.new.input) (c.in-End.ensures.end refl) c.in-End.ensures.bytes.0 c.in-End.ensures.bytes.1.left_stays)
    c.pieces.invariant.seen.4 c.pieces.invariant.seen.3 c.show_end.ensures.told

pub returns-in-End-clause-unharmed : goal.returns-in-End-clause-unharmed
returns-in-End-clause-unharmed g c = λ not.
    IsUnharmed-waited (g.I.Source.counts c.args.input.now) (g.I.Source.counts c.next_piece.new.input) c.next_piece.new.idle (c.in-End.ensures.waited (λ no. cc) (g.I.Source.counts c.args.input.now) c.pieces.invariant.waited.0)

pub returns-in-End-clause-count : goal.returns-in-End-clause-count
returns-in-End-clause-count g c = c.show_end.ensures.count ∙ ap (counts_at c.show_end.result) c.pieces.invariant.unharmed

pub returns-in-Fault-clause-told : goal.returns-in-Fault-clause-told
returns-in-Fault-clause-told g c =
    let seen = c.pieces.invariant.seen.0 in
    let given = g.I.Source.given c.args.input.now in
    let left = g.I.Source.left c.args.input.now in
    Did-begun seen c.pieces.invariant.seen.1 c.pieces.show (g.I.Source.ended c.next_piece.new.input) given (g.I.Source.given c.next_piece.new.input) left (g.I.Source.left c.next_piece.new.input)
    (g.O.Sink.taken c.args.out.now) (g.O.Sink.taken c.pieces.out)
    (Gives-none seen given (g.I.Source.given c.pieces.input) (g.I.Source.given c.next_piece.new.input) left (g.I.Source.left c.pieces.input) (g.I.Source.left c.next_piece.new.input) c.pieces.invariant.seen.2 c.in-Fault.ensures.bytes)
    c.pieces.invariant.seen.4 c.pieces.invariant.seen.3

pub returns-in-Fault-clause-fault : goal.returns-in-Fault-clause-fault
returns-in-Fault-clause-fault g c = λ is. c.in-Fault.ensures.fault refl (g.I.Source.counts c.args.input.now) c.pieces.invariant.waited.0
