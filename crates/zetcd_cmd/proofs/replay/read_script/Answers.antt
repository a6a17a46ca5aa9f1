use Rattle.std.proofs.Common.{◌≡◌, ◌∙◌, ◌++◌, [], List, ℕ, length, take, ap, sym, refl, arith, append-nil, subst}
use Rattle.std.proofs.lemmas.Result.{err_from_is_err_and}
use Rattle.zx_outside.proofs.Streams.{Gives-nil, Gives-append, Gives-none, append_known-nil}
use Rattle.zx_outside.specs.Reading.{Gives}
use Rattle.zetcd_cmd.specs.declared.report.End.TheVariants as end
use Rattle.zetcd_cmd.specs.declared.script.Stop.TheVariants as stop
use Rattle.zetcd_cmd.specs.Scripting.{ScriptStands, EndsEarly}
use Rattle.zetcd_cmd.proofs.Appending.{Appends-same, HasWritten-front, HasWritten-more, HasWritten-rest, IsOut, IsOut-held, IsOut-more, IsOut-none}
use Rattle.zetcd_cmd.proofs.Endings.{EndsReading-stopped, EndsReading-all, EndsReading-fault, no_fault_at_end, written_over}
use Rattle.zetcd_cmd.proofs.Fronts.{TakesSome-more}
use Rattle.zetcd_cmd.proofs.Headlines.{Did-begun, Did-spoiled, Did-unbegun}
use Rattle.zetcd_cmd.proofs.Reaching.{AreHeld}
use Rattle.zetcd_cmd.proofs.Waits.{Waited-none, IsUnharmed-none, IsUnharmed-waited}
use Rattle.zetcd_cmd.proofs.replay.read_script.Goals as goal

-- ---- before the first read

pub returns-in_default-clause-end : goal.returns-in_default-clause-end
returns-in_default-clause-end g c =
    EndsReading-stopped [] (g.I.Source.ended c.args.input.now) (g.I.Source.given c.args.input.now) (g.I.Source.given c.args.input.now) (g.I.Source.left c.args.input.now) (g.I.Source.left c.args.input.now) c.args.script.now stop.Memory
    (Gives-nil (g.I.Source.given c.args.input.now) (g.I.Source.left c.args.input.now)) (tt {0})

pub returns-in_default-clause-written : goal.returns-in_default-clause-written
returns-in_default-clause-written g c = λ known. absurd (known refl)

pub returns-in_default-clause-refused : goal.returns-in_default-clause-refused
returns-in_default-clause-refused g c = λ is.
    Did-unbegun (g.I.Source.ended c.args.input.now) (g.I.Source.given c.args.input.now) (g.I.Source.left c.args.input.now) (g.O.Sink.taken c.args.out.now)
    (Gives-nil (g.I.Source.given c.args.input.now) (g.I.Source.left c.args.input.now)) (sym (append_known-nil (g.O.Sink.taken c.args.out.now)))

pub returns-in_default-clause-unharmed : goal.returns-in_default-clause-unharmed
returns-in_default-clause-unharmed g c = λ not. IsUnharmed-none (g.I.Source.counts c.args.input.now)

pub pieces-init : goal.pieces-init
pieces-init g c = record {
  seen = ([], Gives-nil (g.I.Source.given c.args.input.now) (g.I.Source.left c.args.input.now), c.requires.fresh);
  wide = c.in-Ok.ensures.len;
  waited = (Waited-none (g.I.Source.counts c.args.input.now), omega arith);
  is_out = subst (λ (n : ℕ). IsOut n c.args.script.now.world.lines (g.O.Sink.taken c.args.out.now) (g.O.Sink.taken c.args.out.now)) (sym c.requires.none)
      (IsOut-none c.args.script.now.world.lines (g.O.Sink.taken c.args.out.now) (sym (append_known-nil (g.O.Sink.taken c.args.out.now))));
  unharmed = refl;
}

-- ---- the lines so far are not written

pub returns-in_err-write_further-clause-front : goal.returns-in_err-write_further-clause-front
returns-in_err-write_further-clause-front g c =
    let p = err_from_is_err_and c.from_residual.result c.from_residual.ensures.1 in
    let lines = c.pieces.script.world.lines in
    let held : AreHeld lines = IsOut-held c.pieces.written c.pieces.script.world.lines (g.O.Sink.taken c.args.out.now) (g.O.Sink.taken c.pieces.out) c.pieces.invariant.is_out c.in_err-write_further.ensures.few c.in_err-write_further.ensures.typed in
    rw p.1
    (Did-begun c.pieces.invariant.seen.0 c.pieces.script (g.I.Source.ended c.pieces.input) (g.I.Source.given c.args.input.now) (g.I.Source.given c.pieces.input) (g.I.Source.left c.args.input.now)
    (g.I.Source.left c.pieces.input) (g.O.Sink.taken c.args.out.now) (g.O.Sink.taken c.write_further.new.out) held c.pieces.invariant.seen.2 c.pieces.invariant.seen.1
    (HasWritten-front c.pieces.written lines [] (g.O.Sink.taken c.args.out.now) (g.O.Sink.taken c.pieces.out) (g.O.Sink.taken c.write_further.new.out) c.pieces.invariant.is_out.has
    (TakesSome-more _ [] (g.O.Sink.taken c.pieces.out) (g.O.Sink.taken c.write_further.new.out) c.in_err-write_further.ensures.front)))

pub returns-in_err-write_further-clause-begun : goal.returns-in_err-write_further-clause-begun
returns-in_err-write_further-clause-begun g c =
    let p = err_from_is_err_and c.from_residual.result c.from_residual.ensures.1 in
    rw p.1 (IsUnharmed-waited (g.I.Source.counts c.args.input.now) (g.I.Source.counts c.pieces.input) c.pieces.idle c.pieces.invariant.waited)

-- ---- a piece that ends the script

pub returns-in-Err-clause-end : goal.returns-in-Err-clause-end
returns-in-Err-clause-end g c =
    let seen = c.pieces.invariant.seen.0 in
    let piece = take c.in-Bytes.count c.next_piece.new.buffer in
    let size : length c.next_piece.new.buffer ≡ c.pieces.buffer.len = omega (arith, c.next_piece.auto.buffer, c.as_mut_slice.ensures.len) in
    let whole : c.deref.result.now ≡ c.next_piece.new.buffer = written_over c.deref.result.now c.next_piece.new.buffer _ c.pieces.buffer.len c.deref.ensures.value size in
    EndsReading-stopped (seen ++ piece) (g.I.Source.ended c.next_piece.new.input) (g.I.Source.given c.args.input.now) (g.I.Source.given c.next_piece.new.input) (g.I.Source.left c.args.input.now) (g.I.Source.left c.next_piece.new.input) c.take.new.self c.in-Err.stop
    (Gives-append seen piece _ _ _ _ _ _ c.pieces.invariant.seen.1 c.in-Bytes.ensures.bytes)
    (subst (λ (b : List ℕ). EndsEarly (seen ++ take c.in-Bytes.count b) c.take.new.self c.in-Err.stop) whole (c.in-Err.ensures.err seen c.pieces.invariant.seen.2))

pub returns-in-Err-clause-written : goal.returns-in-Err-clause-written
returns-in-Err-clause-written g c = λ known.
    HasWritten-more c.pieces.script.world c.take.new.self.world c.write_further.new.written (g.O.Sink.taken c.args.out.now) (g.O.Sink.taken c.write_further.new.out)
    (c.in-Err.ensures.kept (λ is. known (ap end.Stopped is))) c.in_ok-write_further.ensures.all
    (HasWritten-rest c.pieces.written c.pieces.script.world.lines (g.O.Sink.taken c.args.out.now) (g.O.Sink.taken c.pieces.out) (g.O.Sink.taken c.write_further.new.out) c.pieces.invariant.is_out.has
    c.in_ok-write_further.ensures.ok)

pub returns-in-Err-clause-refused : goal.returns-in-Err-clause-refused
returns-in-Err-clause-refused g c = λ is.
    let seen = c.pieces.invariant.seen.0 in
    let piece = take c.in-Bytes.count c.next_piece.new.buffer in
    let held : AreHeld c.pieces.script.world.lines = IsOut-held c.pieces.written c.pieces.script.world.lines (g.O.Sink.taken c.args.out.now) (g.O.Sink.taken c.pieces.out) c.pieces.invariant.is_out c.in_ok-write_further.ensures.few c.in_ok-write_further.ensures.typed in
    Did-spoiled seen piece c.pieces.script (g.I.Source.ended c.next_piece.new.input) (g.I.Source.given c.args.input.now) (g.I.Source.given c.next_piece.new.input) (g.I.Source.left c.args.input.now)
    (g.I.Source.left c.next_piece.new.input) (g.O.Sink.taken c.args.out.now) (g.O.Sink.taken c.write_further.new.out) held c.pieces.invariant.seen.2
    (Gives-append seen piece _ _ _ _ _ _ c.pieces.invariant.seen.1 c.in-Bytes.ensures.bytes)
    (HasWritten-rest c.pieces.written c.pieces.script.world.lines (g.O.Sink.taken c.args.out.now) (g.O.Sink.taken c.pieces.out) (g.O.Sink.taken c.write_further.new.out) c.pieces.invariant.is_out.has
    c.in_ok-write_further.ensures.ok)

pub returns-in-Err-clause-unharmed : goal.returns-in-Err-clause-unharmed
returns-in-Err-clause-unharmed g c = λ not.
    IsUnharmed-waited (g.I.Source.counts c.args.input.now) (g.I.Source.counts c.next_piece.new.input) c.next_piece.new.idle (c.in-Bytes.ensures.waited (λ no. cc) (g.I.Source.counts c.args.input.now) c.pieces.invariant.waited.0)

-- ---- a piece that does not

pub pieces-preserved : goal.pieces-preserved
pieces-preserved g c =
    let seen = c.pieces.invariant.seen.0 in
    let held : AreHeld c.pieces.script.world.lines = IsOut-held c.pieces.written c.pieces.script.world.lines (g.O.Sink.taken c.args.out.now) (g.O.Sink.taken c.pieces.out) c.pieces.invariant.is_out c.in_ok-write_further.ensures.few c.in_ok-write_further.ensures.typed in
    let piece = take c.in-Bytes.count c.next_piece.new.buffer in
    let size : length c.next_piece.new.buffer ≡ c.pieces.buffer.len = omega (arith, c.next_piece.auto.buffer, c.as_mut_slice.ensures.len) in
    let whole : c.deref.result.now ≡ c.next_piece.new.buffer = written_over c.deref.result.now c.next_piece.new.buffer _ c.pieces.buffer.len c.deref.ensures.value size in
    record {
      seen = (
        seen ++ piece,
        Gives-append seen piece _ _ _ _ _ _ c.pieces.invariant.seen.1 c.in-Bytes.ensures.bytes,
        subst (λ (b : List ℕ). ScriptStands (seen ++ take c.in-Bytes.count b) c.take.new.self) whole (c.in_default-take.ensures.ok seen c.pieces.invariant.seen.2),
      );
      wide = c.pieces.invariant.wide;
      waited = c.in-Bytes.ensures.waited (λ no. cc) (g.I.Source.counts c.args.input.now) c.pieces.invariant.waited.0;
      is_out = IsOut-more c.pieces.script.world c.take.new.self.world c.write_further.new.written (g.O.Sink.taken c.args.out.now) (g.O.Sink.taken c.write_further.new.out)
          c.in_default-take.ensures.grown c.in_ok-write_further.ensures.all held.typed
          (HasWritten-rest c.pieces.written c.pieces.script.world.lines (g.O.Sink.taken c.args.out.now) (g.O.Sink.taken c.pieces.out) (g.O.Sink.taken c.write_further.new.out) c.pieces.invariant.is_out.has
          c.in_ok-write_further.ensures.ok);
      unharmed = c.in_ok-write_further.ensures.unharmed ∙ c.pieces.invariant.unharmed;
    }

-- ---- the end of the script

pub returns-in-End-clause-end : goal.returns-in-End-clause-end
returns-in-End-clause-end g c =
    let seen = c.pieces.invariant.seen.0 in
    EndsReading-all c.finish.result seen (g.I.Source.ended c.next_piece.new.input) (g.I.Source.given c.args.input.now) (g.I.Source.given c.pieces.input) (g.I.Source.given c.next_piece.new.input)
    (g.I.Source.left c.args.input.now) (g.I.Source.left c.pieces.input) (g.I.Source.left c.next_piece.new.input) c.finish.new.script
    c.pieces.invariant.seen.1 c.in-End.ensures.bytes.0 (c.in-End.ensures.end refl) c.in-End.ensures.bytes.1 (c.finish.ensures.ends seen c.pieces.invariant.seen.2)

pub returns-in-End-clause-written : goal.returns-in-End-clause-written
returns-in-End-clause-written g c = λ known.
    HasWritten-more c.pieces.script.world c.finish.new.script.world c.write_further.new.written (g.O.Sink.taken c.args.out.now) (g.O.Sink.taken c.write_further.new.out)
    (c.finish.ensures.grown known) c.in_ok-write_further.ensures.all
    (HasWritten-rest c.pieces.written c.pieces.script.world.lines (g.O.Sink.taken c.args.out.now) (g.O.Sink.taken c.pieces.out) (g.O.Sink.taken c.write_further.new.out) c.pieces.invariant.is_out.has
    c.in_ok-write_further.ensures.ok)

pub returns-in-End-clause-refused : goal.returns-in-End-clause-refused
returns-in-End-clause-refused g c = λ is.
    let seen = c.pieces.invariant.seen.0 in
    let held : AreHeld c.pieces.script.world.lines = IsOut-held c.pieces.written c.pieces.script.world.lines (g.O.Sink.taken c.args.out.now) (g.O.Sink.taken c.pieces.out) c.pieces.invariant.is_out c.in_ok-write_further.ensures.few c.in_ok-write_further.ensures.typed in
    let gives = Gives-none seen (g.I.Source.given c.args.input.now) (g.I.Source.given c.pieces.input) (g.I.Source.given c.next_piece.new.input) (g.I.Source.left c.args.input.now) (g.I.Source.left c.pieces.input)
    (g.I.Source.left c.next_piece.new.input) c.pieces.invariant.seen.1 c.in-End.ensures.bytes.1 in
    Did-spoiled seen [] c.pieces.script (g.I.Source.ended c.next_piece.new.input) (g.I.Source.given c.args.input.now) (g.I.Source.given c.next_piece.new.input) (g.I.Source.left c.args.input.now)
    (g.I.Source.left c.next_piece.new.input) (g.O.Sink.taken c.args.out.now) (g.O.Sink.taken c.write_further.new.out) held c.pieces.invariant.seen.2
    (subst
    (λ (t : List ℕ). Gives t (g.I.Source.given c.args.input.now) (g.I.Source.given c.next_piece.new.input) (g.I.Source.left c.args.input.now) (g.I.Source.left c.next_piece.new.input))
    (sym (append-nil seen)) gives)
    (HasWritten-rest c.pieces.written c.pieces.script.world.lines (g.O.Sink.taken c.args.out.now) (g.O.Sink.taken c.pieces.out) (g.O.Sink.taken c.write_further.new.out) c.pieces.invariant.is_out.has
    c.in_ok-write_further.ensures.ok)

pub returns-in-End-clause-fault : goal.returns-in-End-clause-fault
returns-in-End-clause-fault g c = λ is.
    absurd (no_fault_at_end c.finish.result c.pieces.invariant.seen.0 c.finish.new.script (c.finish.ensures.ends c.pieces.invariant.seen.0 c.pieces.invariant.seen.2) is)

pub returns-in-End-clause-unharmed : goal.returns-in-End-clause-unharmed
returns-in-End-clause-unharmed g c = λ not.
    IsUnharmed-waited (g.I.Source.counts c.args.input.now) (g.I.Source.counts c.next_piece.new.input) c.next_piece.new.idle (c.in-End.ensures.waited (λ no. cc) (g.I.Source.counts c.args.input.now) c.pieces.invariant.waited.0)

-- ---- a fault of the source

pub returns-in-Fault-clause-end : goal.returns-in-Fault-clause-end
returns-in-Fault-clause-end g c =
    EndsReading-fault c.pieces.invariant.seen.0 (g.I.Source.ended c.next_piece.new.input) (g.I.Source.given c.args.input.now) (g.I.Source.given c.pieces.input) (g.I.Source.given c.next_piece.new.input)
    (g.I.Source.left c.args.input.now) (g.I.Source.left c.pieces.input) (g.I.Source.left c.next_piece.new.input) c.pieces.script
    c.pieces.invariant.seen.1 c.in-Fault.ensures.bytes c.pieces.invariant.seen.2

pub returns-in-Fault-clause-written : goal.returns-in-Fault-clause-written
returns-in-Fault-clause-written g c = λ known.
    HasWritten-more c.pieces.script.world c.pieces.script.world c.write_further.new.written (g.O.Sink.taken c.args.out.now) (g.O.Sink.taken c.write_further.new.out)
    (Appends-same c.pieces.script.world c.pieces.script.world refl) c.in_ok-write_further.ensures.all
    (HasWritten-rest c.pieces.written c.pieces.script.world.lines (g.O.Sink.taken c.args.out.now) (g.O.Sink.taken c.pieces.out) (g.O.Sink.taken c.write_further.new.out) c.pieces.invariant.is_out.has
    c.in_ok-write_further.ensures.ok)

pub returns-in-Fault-clause-fault : goal.returns-in-Fault-clause-fault
returns-in-Fault-clause-fault g c = λ is. c.in-Fault.ensures.fault refl (g.I.Source.counts c.args.input.now) c.pieces.invariant.waited.0
