-- What a replay did, from how its script ended.
use Rattle.std.proofs.Common.{◌≡◌, ℕ, ◌==◌, ◌⊎◌, ⊎_elim, false, true≢false, List, [], ◌++◌, refl, sym, ap, ◌∙◌, subst, arith, append-nil, inl, inr}
use Rattle.std.specs.Prelude.{Bool, Option, length, ◌+◌, ◌<◌, ◌≤◌}
use Rattle.std.specs.List.{Contains}
use Rattle.std.proofs.lemmas.List.Elements.{All-contains}
use Rattle.zetcd_cmd.specs.Replayed.{IsReplayed, IsStopped, IsCutShort, IsOver, StandsAgainst}
use Rattle.zt_text.specs.Faults.{done_text, fault_text}
use Rattle.zt_text.specs.Transcripts.{transcript_text}
use Rattle.zx_outside.specs.Counts.{InputCounts}
use Rattle.zx_outside.specs.Reading.{Gives}
use Rattle.zx_outside.specs.Writing.{Takes}
use Rattle.zt_lines.specs.Readable.{IsReason}
use Rattle.zt_lines.specs.Words.{max_place}
use Rattle.zetcd_cmd.specs.declared.report.End.{End}
use Rattle.zetcd_cmd.specs.declared.report.End.TheVariants as end
use Rattle.zetcd_cmd.specs.declared.script.Script.{Script}
use Rattle.zetcd_cmd.specs.declared.script.Stop.{Stop}
use Rattle.zetcd_cmd.specs.declared.script.Stop.TheVariants as stop
use Rattle.zetcd_cmd.specs.declared.status.Status.{Status}
use Rattle.zetcd_cmd.specs.declared.status.Status.TheVariants as status
use Rattle.zetcd_cmd.specs.Ending.{EndsAt, EndsReading}
use Rattle.zetcd_cmd.specs.Outcomes.{Did, IsAtItsEnd, IsFront, StopsAt, ReplayWrites, Replays, TakesSome, IsUnharmed, Failed}
use Rattle.zetcd_cmd.specs.Reporting.{ending_text, status_after, stop_text}
use Rattle.zetcd_cmd.specs.Scripting.{HasNoLineFeed, ScriptStands, IsApplied, IsHalted}
use Rattle.zetcd_cmd.proofs.Progress.{script-lines}
use Rattle.zetcd_cmd.proofs.Reaching.{AreHeld, reached-claims, reached-judged}

replayed : (input : List ℕ) (s : Script) → AreHeld s.world.lines → IsApplied input s → IsReplayed input (transcript_text s.world.lines ++ done_text)
replayed input s held a = record {
  happenings = a.happenings;
  ticks = a.reached.ticks;
  world = s.world;
  read = a.read;
  runs = a.reached.runs;
  one_run = reached-claims a.happenings s.world held a.reached;
  written = refl;
  judged = reached-judged a.happenings s.world held a.reached done_text (inr (inl refl));
}

-- ---- stopped

-- the number of the next line, which has a place in a transcript
abbrev pub IsLine : ℕ → Script → Type 0
IsLine n s = (n ≡ s.line) × (n ≤ max_place)

line-above : (n : ℕ) (s : Script) (before : ℕ) → IsLine n s → s.line ≡ before + 1 → 0 < n
line-above n s before is number = (let same = is.0 in omega (arith, same, number))

stopped : (input : List ℕ) (s : Script) (n : ℕ) (why : Stop) → AreHeld s.world.lines → IsLine n s → IsReason (stop_text why) → IsHalted input s why →
    IsStopped input (transcript_text s.world.lines ++ fault_text n (stop_text why)) n
stopped input s n why held is reason halted = record {
  before = halted.before;
  later = halted.later;
  end = halted.end;
  ticks = halted.reached.ticks;
  world = s.world;
  read = halted.read;
  number = is.0 ∙ halted.number;
  runs = halted.reached.runs;
  one_run = reached-claims halted.before s.world held halted.reached;
  why = stop_text why;
  because = subst (λ (m : ℕ). StandsAgainst s.world m halted.later halted.end (stop_text why)) (sym is.0) halted.against;
  written = refl;
  judged = reached-judged halted.before s.world held halted.reached (fault_text n (stop_text why))
      (inr (inr (n, stop_text why, line-above n s (length halted.before) is halted.number, is.1, reason, refl)));
}

-- the line that was not applied stops the script whatever follows these bytes, which tell that it is over
abbrev StopsEarly : List ℕ → Script → Stop → Type 0
StopsEarly read s why = ((rest : List ℕ) → IsHalted (read ++ rest) s why) × IsOver read s.line

stops : (read : List ℕ) (s : Script) (n : ℕ) (ended : Bool) (left : Option (List ℕ)) (why : Stop) → AreHeld s.world.lines → IsLine n s → IsReason (stop_text why) →
    (IsAtItsEnd ended left × IsHalted read s why) ⊎ StopsEarly read s why → StopsAt n ended left read (transcript_text s.world.lines ++ fault_text n (stop_text why))
stops read s n ended left why held at reason ends =
    ⊎_elim
    (λ (whole : IsAtItsEnd ended left × IsHalted read s why). record { stopped = stopped read s n why held at reason whole.1; settled = inl whole.0 })
    (λ (early : StopsEarly read s why). record {
      stopped = subst (λ (t : List ℕ). IsStopped t (transcript_text s.world.lines ++ fault_text n (stop_text why)) n) (append-nil read) (stopped (read ++ []) s n why held at reason (early.0 []));
      settled = inr (record { over = subst (λ (m : ℕ). IsOver read m) (sym at.0) early.1; for_good = λ rest. stopped (read ++ rest) s n why held at reason (early.0 rest) });
    })
    ends

-- ---- cut short

lacks : (bytes : List ℕ) → HasNoLineFeed bytes → Contains bytes 10 → ⊥
lacks bytes none some = true≢false (All-contains (λ b. (b == 10) ≡ false) bytes 10 none some)

cut_short : (input : List ℕ) (s : Script) → AreHeld s.world.lines → ScriptStands input s → IsCutShort input (transcript_text s.world.lines ++ [])
cut_short input s held st =
    let left = st.room in
    record {
      lines = st.read.lines;
      rest = s.pending.items;
      parts = st.read.parts;
      whole = st.read.says.whole;
      begun = lacks s.pending.items st.read.begun;
      short = st.read.short;
      room = omega arith;
      happenings = st.read.happenings;
      ticks = st.read.reached.ticks;
      world = s.world;
      read = script-lines input s st;
      runs = st.read.reached.runs;
      one_run = reached-claims st.read.happenings s.world held st.read.reached;
      written = append-nil (transcript_text s.world.lines);
      judged = reached-judged st.read.happenings s.world held st.read.reached [] (inl refl);
    }

-- ---- all that there is to write

pub writes : (how : End) (n : ℕ) (s : Script) (ended : Bool) (left : Option (List ℕ)) (read : List ℕ) → AreHeld s.world.lines → IsLine n s → (how ≡ end.Stopped stop.Memory → ⊥) → EndsAt how ended left read s →
    ReplayWrites (status_after how n) ended left read (transcript_text s.world.lines ++ ending_text how n)
writes end.Whole n s ended left read held at not ends = (ends.0, replayed read s held ends.1)
writes (end.Stopped (stop.Unread why)) n s ended left read held at not ends = stops read s n ended left (stop.Unread why) held at (inr (why, refl)) ends
writes (end.Stopped (stop.Refused why)) n s ended left read held at not ends = stops read s n ended left (stop.Refused why) held at (inl (why, refl)) ends
writes (end.Stopped stop.Memory) n s ended left read held at not ends = absurd (not refl)
writes end.ReadFault n s ended left read held at not ends = cut_short read s held ends

replays : (how : End) (n : ℕ) (ended : Bool) (left : Option (List ℕ)) (read output : List ℕ) → (how ≡ end.Stopped stop.Memory → ⊥) →
    ReplayWrites (status_after how n) ended left read output → Replays (status_after how n) ended left read output
replays end.Whole n ended left read output not w = w
replays (end.Stopped (stop.Unread why)) n ended left read output not w = w
replays (end.Stopped (stop.Refused why)) n ended left read output not w = w
replays (end.Stopped stop.Memory) n ended left read output not w = absurd (not refl)
replays end.ReadFault n ended left read output not w = w

-- all of it was written
pub Did-all : (how : End) (n : ℕ) (s : Script) (ended : Bool) (given given' left left' taken taken' : Option (List ℕ)) → AreHeld s.world.lines → IsLine n s → (how ≡ end.Stopped stop.Memory → ⊥) →
    EndsReading how ended s given given' left left' → Takes (transcript_text s.world.lines ++ ending_text how n) taken taken' →
    Did (Replays (status_after how n) ended left') given given' left left' taken taken'
Did-all how n s ended given given' left left' taken taken' held at not ends takes = record {
  read = ends.0;
  output = transcript_text s.world.lines ++ ending_text how n;
  gives = ends.1;
  takes = takes;
  holds = replays how n ended left' ends.0 (transcript_text s.world.lines ++ ending_text how n) not (writes how n s ended left' ends.0 held at not ends.2);
}

-- a front of it was written
pub Did-front : (how : End) (n : ℕ) (s : Script) (ended : Bool) (given given' left left' taken taken' : Option (List ℕ)) → AreHeld s.world.lines → IsLine n s → (how ≡ end.Stopped stop.Memory → ⊥) →
    EndsReading how ended s given given' left left' → TakesSome (transcript_text s.world.lines ++ ending_text how n) taken taken' →
    Did (λ read output. IsFront (λ other whole. ReplayWrites other ended left' read whole) output) given given' left left' taken taken'
Did-front how n s ended given given' left left' taken taken' held at not ends some = record {
  read = ends.0;
  output = some.0;
  gives = ends.1;
  takes = some.3;
  holds = (status_after how n, transcript_text s.world.lines ++ ending_text how n, some.1, writes how n s ended left' ends.0 held at not ends.2, some.2);
}

-- out of memory, with a front written or nothing
pub Did-memory : (ended : Bool) (given given' left left' taken taken' : Option (List ℕ)) →
    Did (λ read output. IsFront (λ other whole. ReplayWrites other ended left' read whole) output) given given' left left' taken taken' →
    Did (Replays status.Memory ended left') given given' left left' taken taken'
Did-memory ended given given' left left' taken taken' did = record { read = did.read; output = did.output; gives = did.gives; takes = did.takes; holds = inr (inr did.holds) }

-- ---- it came to no end

pub Did-refused : (ended : Bool) (given given' left left' taken taken' : Option (List ℕ)) → Did (Replays status.WriteFault ended left') given given' left left' taken taken' →
    Did (Replays status.Memory ended left') given given' left left' taken taken'
Did-refused ended given given' left left' taken taken' did = record { read = did.read; output = did.output; gives = did.gives; takes = did.takes; holds = inr (inr did.holds) }

-- a front of the lines so far was written, and there may be more to read
pub Did-begun : (seen : List ℕ) (s : Script) (ended : Bool) (given given' left left' taken taken' : Option (List ℕ)) → AreHeld s.world.lines → ScriptStands seen s → Gives seen given given' left left' →
    TakesSome (transcript_text s.world.lines ++ []) taken taken' → Did (Replays status.WriteFault ended left') given given' left left' taken taken'
Did-begun seen s ended given given' left left' taken taken' held st gives some = record {
  read = seen;
  output = some.0;
  gives = gives;
  takes = some.3;
  holds = (status.ReadFault, transcript_text s.world.lines ++ [], some.1, cut_short seen s held st, some.2);
}

-- the lines so far were written, and memory was refused in what came next
pub Did-spoiled : (seen later : List ℕ) (s : Script) (ended : Bool) (given given' left left' taken taken' : Option (List ℕ)) → AreHeld s.world.lines → ScriptStands seen s → Gives (seen ++ later) given given' left left' →
    Takes (transcript_text s.world.lines) taken taken' → Did (Replays status.Memory ended left') given given' left left' taken taken'
Did-spoiled seen later s ended given given' left left' taken taken' held st gives takes = record {
  read = seen ++ later;
  output = transcript_text s.world.lines;
  gives = gives;
  takes = takes;
  holds = inr (inl (record {
    front = seen;
    later = later;
    parts = refl;
    transcript = transcript_text s.world.lines ++ [];
    lines = cut_short seen s held st;
    rest = [];
    written = refl;
  }));
}

-- nothing was read yet
pub Did-unbegun : (ended : Bool) (given left taken : Option (List ℕ)) → Gives [] given given left left → Takes [] taken taken → Did (Replays status.Memory ended left) given given left left taken taken
Did-unbegun ended given left taken gives takes = record { read = []; output = []; gives = gives; takes = takes; holds = inl refl }

-- ---- which status comes of which end

pub fault_from : (how : End) (n : ℕ) → status_after how n ≡ status.ReadFault → how ≡ end.ReadFault
fault_from end.Whole n is = cc
fault_from (end.Stopped (stop.Unread why)) n is = cc
fault_from (end.Stopped (stop.Refused why)) n is = cc
fault_from (end.Stopped stop.Memory) n is = cc
fault_from end.ReadFault n is = refl

pub no_read_fault : (how : End) (n : ℕ) (s : Status) → s ≡ status_after how n → (s ≡ status.ReadFault → ⊥) → how ≡ end.ReadFault → ⊥
no_read_fault how n s is not failed = not (is ∙ ap (λ (h : End). status_after h n) failed)

pub never_write_fault : (how : End) (n : ℕ) → status_after how n ≡ status.WriteFault → ⊥
never_write_fault end.Whole n is = cc
never_write_fault (end.Stopped (stop.Unread why)) n is = cc
never_write_fault (end.Stopped (stop.Refused why)) n is = cc
never_write_fault (end.Stopped stop.Memory) n is = cc
never_write_fault end.ReadFault n is = cc

-- whether the input failed
pub once : (how : End) (before now : InputCounts) → ((how ≡ end.ReadFault → ⊥) → IsUnharmed before now) → (how ≡ end.ReadFault → Failed before now) → IsUnharmed before now ⊎ Failed before now
once end.Whole before now unharmed failed = inl (unharmed (λ no. cc))
once (end.Stopped why) before now unharmed failed = inl (unharmed (λ no. cc))
once end.ReadFault before now unharmed failed = inr (failed refl)
