-- What was shown of a stream, from the reads of its source and the writes to its sink.
use Rattle.std.proofs.Common.{◌≡◌, ℕ, ◌+◌, ◌⊎◌, List, [], ◌++◌, length, refl, sym, ap, ◌∙◌, subst, arith, append_assoc, append-nil, inl, inr}
use Rattle.std.specs.Prelude.{Option, Some, None, Bool, true, false, ◌==◌, if◌then◌else◌}
use Rattle.zk_jute.proofs.Framing.{no_frame}
use Rattle.zt_show.specs.declared.ending.Ending.{Ending}
use Rattle.zt_show.specs.declared.ending.Ending.TheVariants as ending
use Rattle.zt_show.specs.Shown.{joined, ending_line, ending_of_stream, ending_before_more}
use Rattle.zt_show.specs.Showing.{Showing, unshown, ShowingFollows, ShowingEnds, Adds}
use Rattle.zt_show.proofs.Framings.{framed_none}
use Rattle.zt_show.proofs.Passing.{joined-append}
use Rattle.zt_show.proofs.Stopping.{IsShown-whole}
use Rattle.zx_outside.specs.Counts.{InputCounts, OutputCounts}
use Rattle.zx_outside.specs.Reading.{Gives}
use Rattle.zx_outside.specs.Writing.{Takes}
use Rattle.zx_outside.proofs.Streams.{Takes-append}
use Rattle.zetcd_cmd.specs.declared.show.Close.{Close}
use Rattle.zetcd_cmd.specs.declared.show.Close.TheVariants as close
use Rattle.zetcd_cmd.specs.declared.status.Status.{Status}
use Rattle.zetcd_cmd.specs.declared.status.Status.TheVariants as status
use Rattle.zetcd_cmd.specs.Outcomes.{Did, IsAtItsEnd, IsFront, IsBegun, ShowWrites, Shows, TakesSome, IsUnharmed, Failed}
use Rattle.zetcd_cmd.specs.Streaming.{status_at, Closes, ShowFinishes, IsOpen, counts_at}
use Rattle.zetcd_cmd.proofs.Fronts.{TakesSome-after}

-- ---- piece by piece

-- at the start
pub Follows-unshown : (s : Showing) → s ≡ unshown → ShowingFollows [] [] s
Follows-unshown s is = subst (λ (t : Showing). ShowingFollows [] [] t) (sym is) (record {
  frames = [];
  framed = framed_none [] (no_frame [] refl);
  good = refl;
  says = λ later rest. refl;
  place = refl;
  count = refl;
  few = omega arith;
  room = refl;
})

-- after the lines so far
more_lines : (lines added : List (List ℕ)) (last : List ℕ) → joined lines ++ (joined added ++ last) ≡ joined (lines ++ added) ++ last
more_lines lines added last = sym (append_assoc (joined lines) (joined added) last) ∙ ap (λ t. t ++ last) (sym (joined-append lines added))

-- more lines
pub Takes-lines : (lines added : List (List ℕ)) (text : List ℕ) (taken taken' taken'' : Option (List ℕ)) → text ≡ joined added → Takes (joined lines) taken taken' → Takes text taken' taken'' →
    Takes (joined (lines ++ added)) taken taken''
Takes-lines lines added text taken taken' taken'' is early late =
    subst (λ (t : List ℕ). Takes t taken taken'') (ap (λ t. joined lines ++ t) is ∙ sym (joined-append lines added)) (Takes-append (joined lines) text taken taken' taken'' early late)

-- ---- what there is to write of what came

open_of : (b : Bool) (place size : ℕ) → IsOpen (if b then ending.End place else ending.Cut (place + size))
open_of true place size = inl (tt {0})
open_of false place size = inr (tt {0})

-- nothing of it ends the stream
pub open_end : (seen : List ℕ) (lines : List (List ℕ)) (s : Showing) → ShowingFollows seen lines s → IsBegun seen (joined lines)
open_end seen lines s follows =
    let end = ending_of_stream s.progress.place (length s.rest) None in
    record {
      shown = record { lines = lines; ending = end };
      is_shown = IsShown-whole seen lines s end follows refl;
      written = refl;
      goes_on = open_of (length s.rest == 0) s.progress.place (length s.rest);
    }

-- an end that more bytes leave as it is stands neither at a frame's end nor inside one
settled_end : (end : Ending) (count : ℕ) (lines : List (List ℕ)) (ended : Bool) (left : Option (List ℕ)) (read : List ℕ) → ending_before_more end ≡ end → ShowingEnds read lines end count →
    ((rest : List ℕ) → ShowingEnds (read ++ rest) lines end count) → ShowWrites (status_at (close.Ended end) count) ended left read (joined lines ++ ending_line end)
settled_end (ending.End place) count lines ended left read stays ends all = absurd cc
settled_end (ending.Cut place) count lines ended left read stays ends all = absurd cc
settled_end (ending.Length place n) count lines ended left read stays ends all = record {
  shown = record { lines = lines; ending = ending.Length place n };
  is_shown = ends.shown;
  written = refl;
  number = ends.count;
  otherwise = λ no. no;
  settled = inr (λ rest. (all rest).shown);
}
settled_end (ending.NoHeader place) count lines ended left read stays ends all = record {
  shown = record { lines = lines; ending = ending.NoHeader place };
  is_shown = ends.shown;
  written = refl;
  number = ends.count;
  otherwise = λ no. no;
  settled = inr (λ rest. (all rest).shown);
}
settled_end ending.Long count lines ended left read stays ends all = record {
  shown = record { lines = lines; ending = ending.Long };
  is_shown = ends.shown;
  written = refl;
  number = ends.count;
  otherwise = λ no. no;
  settled = inr (λ rest. (all rest).shown);
}

-- it came whole
whole_end : (end : Ending) (count : ℕ) (lines : List (List ℕ)) (ended : Bool) (left : Option (List ℕ)) (read : List ℕ) → IsAtItsEnd ended left → ShowingEnds read lines end count →
    ShowWrites (status_at (close.Ended end) count) ended left read (joined lines ++ ending_line end)
whole_end (ending.End place) count lines ended left read whole ends =
    (whole, record { shown = record { lines = lines; ending = ending.End place }; is_shown = ends.shown; written = refl; end = tt {0} })
whole_end (ending.Cut place) count lines ended left read whole ends = record {
  shown = record { lines = lines; ending = ending.Cut place };
  is_shown = ends.shown;
  written = refl;
  number = ends.count;
  otherwise = λ no. no;
  settled = inl whole;
}
whole_end (ending.Length place n) count lines ended left read whole ends = record {
  shown = record { lines = lines; ending = ending.Length place n };
  is_shown = ends.shown;
  written = refl;
  number = ends.count;
  otherwise = λ no. no;
  settled = inl whole;
}
whole_end (ending.NoHeader place) count lines ended left read whole ends = record {
  shown = record { lines = lines; ending = ending.NoHeader place };
  is_shown = ends.shown;
  written = refl;
  number = ends.count;
  otherwise = λ no. no;
  settled = inl whole;
}
whole_end ending.Long count lines ended left read whole ends = record {
  shown = record { lines = lines; ending = ending.Long };
  is_shown = ends.shown;
  written = refl;
  number = ends.count;
  otherwise = λ no. no;
  settled = inl whole;
}

-- what an ended stream wrote is what its status says
shows_ended : (end : Ending) (count : ℕ) (ended : Bool) (left : Option (List ℕ)) (read output : List ℕ) → ShowWrites (status_at (close.Ended end) count) ended left read output →
    Shows (status_at (close.Ended end) count) ended left read output
shows_ended (ending.End place) count ended left read output w = w
shows_ended (ending.Cut place) count ended left read output w = w
shows_ended (ending.Length place n) count ended left read output w = w
shows_ended (ending.NoHeader place) count ended left read output w = w
shows_ended ending.Long count ended left read output w = w

-- ---- it ended in a piece, or was broken off there

-- the piece ends the stream for good
ended_in : (end : Ending) (seen piece : List ℕ) (lines added : List (List ℕ)) (count : ℕ) (ended : Bool) (left : Option (List ℕ)) →
    ((more : List ℕ) → ShowingEnds ((seen ++ piece) ++ more) (lines ++ added) end count × (ending_before_more end ≡ end)) →
    ShowWrites (status_at (close.Ended end) count) ended left (seen ++ piece) (joined (lines ++ added) ++ ending_line end)
ended_in end seen piece lines added count ended left all =
    settled_end end count (lines ++ added) ended left (seen ++ piece) (all []).1 (subst (λ (t : List ℕ). ShowingEnds t (lines ++ added) end count) (append-nil (seen ++ piece)) (all []).0) (λ rest. (all rest).0)

-- what the piece adds, written in part
front_in : (found : Option Ending) (seen piece text : List ℕ) (lines : List (List ℕ)) (s new : Showing) (ended : Bool) (left taken taken' taken'' : Option (List ℕ)) → ShowingFollows seen lines s →
    Takes (joined lines) taken taken' → Adds found s piece [] text new → TakesSome text taken' taken'' →
    (output : List ℕ) × Takes output taken taken'' × IsFront (λ other whole. ShowWrites other ended left (seen ++ piece) whole) output
front_in None seen piece text lines s new ended left taken taken' taken'' follows takes adds some =
    let far = TakesSome-after (joined lines) text taken taken' taken'' takes some in (
      far.0,
      far.3,
      (
        status.ReadFault,
        joined (lines ++ adds.0),
        far.1,
        open_end (seen ++ piece) (lines ++ adds.0) new (adds.2 seen lines follows),
        joined-append lines adds.0 ∙ ap (λ t. joined lines ++ t) (sym adds.1) ∙ far.2,
      ),
    )
front_in (Some end) seen piece text lines s new ended left taken taken' taken'' follows takes adds some =
    let far = TakesSome-after (joined lines) text taken taken' taken'' takes some in (
      far.0,
      far.3,
      (
        status_at (close.Ended end) new.progress.lines,
        joined (lines ++ adds.0) ++ ending_line end,
        far.1,
        ended_in end seen piece lines adds.0 new.progress.lines ended left (λ more. adds.2 seen more lines follows),
        sym (more_lines lines adds.0 (ending_line end)) ∙ ap (λ t. joined lines ++ t) (sym adds.1) ∙ far.2,
      ),
    )

pub Did-closed : (how : Close) (seen piece : List ℕ) (lines : List (List ℕ)) (s new : Showing) (ended : Bool) (given given' left left' taken taken' taken'' : Option (List ℕ)) →
    Gives (seen ++ piece) given given' left left' → ShowingFollows seen lines s → Takes (joined lines) taken taken' → Closes how s piece taken' taken'' new →
    Did (Shows (status_at how new.progress.lines) ended left') given given' left left' taken taken''
Did-closed (close.Ended end) seen piece lines s new ended given given' left left' taken taken' taken'' gives follows takes closes =
    let adds = closes.1 in
    record {
      read = seen ++ piece;
      output = joined (lines ++ adds.0) ++ ending_line end;
      gives = gives;
      takes = subst (λ (t : List ℕ). Takes t taken taken'') (ap (λ t. joined lines ++ t) adds.1 ∙ more_lines lines adds.0 (ending_line end)) (Takes-append (joined lines) closes.0 taken taken' taken'' takes closes.2);
      holds = shows_ended end new.progress.lines ended left' (seen ++ piece) (joined (lines ++ adds.0) ++ ending_line end)
          (ended_in end seen piece lines adds.0 new.progress.lines ended left' (λ more. adds.2 seen more lines follows));
    }
Did-closed close.ReadFault seen piece lines s new ended given given' left left' taken taken' taken'' gives follows takes closes = absurd closes
Did-closed close.WriteFault seen piece lines s new ended given given' left left' taken taken' taken'' gives follows takes closes =
    let far = front_in closes.0 seen piece closes.1 lines s new ended left' taken taken' taken'' follows takes closes.2 closes.3 in
    record { read = seen ++ piece; output = far.0; gives = gives; takes = far.1; holds = far.2 }
Did-closed close.Memory seen piece lines s new ended given given' left left' taken taken' taken'' gives follows takes closes = record {
  read = seen ++ piece;
  output = joined lines;
  gives = gives;
  takes = closes ∙ takes;
  holds = (seen, piece, refl, open_end seen lines s follows);
}

-- ---- it came whole

pub Did-finished : (how : Close) (seen : List ℕ) (lines : List (List ℕ)) (s new : Showing) (ended : Bool) (given given' left left' taken taken' taken'' : Option (List ℕ)) →
    Gives seen given given' left left' → IsAtItsEnd ended left' → ShowingFollows seen lines s → Takes (joined lines) taken taken' → ShowFinishes how s taken' taken'' new →
    Did (Shows (status_at how new.progress.lines) ended left') given given' left left' taken taken''
Did-finished (close.Ended end) seen lines s new ended given given' left left' taken taken' taken'' gives whole follows takes finishes =
    let text = finishes.1 in
    record {
      read = seen;
      output = joined lines ++ ending_line end;
      gives = gives;
      takes = subst (λ (t : List ℕ). Takes t taken taken'') (ap (λ t. joined lines ++ t) text.0) (Takes-append (joined lines) finishes.0 taken taken' taken'' takes finishes.2);
      holds = shows_ended end new.progress.lines ended left' seen (joined lines ++ ending_line end) (whole_end end new.progress.lines lines ended left' seen whole (text.1 seen lines follows));
    }
Did-finished close.ReadFault seen lines s new ended given given' left left' taken taken' taken'' gives whole follows takes finishes = absurd finishes
Did-finished close.WriteFault seen lines s new ended given given' left left' taken taken' taken'' gives whole follows takes finishes =
    let end = finishes.0 in
    let text = finishes.2 in
    let far = TakesSome-after (joined lines) finishes.1 taken taken' taken'' takes finishes.3 in
    record {
      read = seen;
      output = far.0;
      gives = gives;
      takes = far.3;
      holds = (
        status_at (close.Ended end) new.progress.lines,
        joined lines ++ ending_line end,
        far.1,
        whole_end end new.progress.lines lines ended left' seen whole (text.1 seen lines follows),
        ap (λ t. joined lines ++ t) (sym text.0) ∙ far.2,
      );
    }
Did-finished close.Memory seen lines s new ended given given' left left' taken taken' taken'' gives whole follows takes finishes = record {
  read = seen;
  output = joined lines;
  gives = gives;
  takes = finishes ∙ takes;
  holds = (seen, [], sym (append-nil seen), open_end seen lines s follows);
}

-- ---- the input failed

pub Did-begun : (seen : List ℕ) (lines : List (List ℕ)) (s : Showing) (ended : Bool) (given given' left left' taken taken' : Option (List ℕ)) → Gives seen given given' left left' → ShowingFollows seen lines s →
    Takes (joined lines) taken taken' → Did (Shows status.ReadFault ended left') given given' left left' taken taken'
Did-begun seen lines s ended given given' left left' taken taken' gives follows takes =
    record { read = seen; output = joined lines; gives = gives; takes = takes; holds = open_end seen lines s follows }

-- memory was wanting before a read
pub Did-unread : (ended : Bool) (s : Showing) (given left taken : Option (List ℕ)) → s ≡ unshown → Gives [] given given left left → Takes [] taken taken → Did (Shows status.Memory ended left) given given left left taken taken
Did-unread ended s given left taken is gives takes =
    record { read = []; output = []; gives = gives; takes = takes; holds = ([], [], refl, open_end [] [] s (Follows-unshown s is)) }

-- ---- which status comes of which end

pub close_read : (how : Close) (count : ℕ) → status_at how count ≡ status.ReadFault → how ≡ close.ReadFault
close_read (close.Ended (ending.End place)) count is = absurd cc
close_read (close.Ended (ending.Cut place)) count is = absurd cc
close_read (close.Ended (ending.Length place n)) count is = absurd cc
close_read (close.Ended (ending.NoHeader place)) count is = absurd cc
close_read (close.Ended ending.Long) count is = absurd cc
close_read close.ReadFault count is = refl
close_read close.WriteFault count is = absurd cc
close_read close.Memory count is = absurd cc

pub close_write : (how : Close) (count : ℕ) → status_at how count ≡ status.WriteFault → how ≡ close.WriteFault
close_write (close.Ended (ending.End place)) count is = absurd cc
close_write (close.Ended (ending.Cut place)) count is = absurd cc
close_write (close.Ended (ending.Length place n)) count is = absurd cc
close_write (close.Ended (ending.NoHeader place)) count is = absurd cc
close_write (close.Ended ending.Long) count is = absurd cc
close_write close.ReadFault count is = absurd cc
close_write close.WriteFault count is = refl
close_write close.Memory count is = absurd cc

pub no_read_fault : (how : Close) (count : ℕ) (s : Status) → s ≡ status_at how count → (s ≡ status.ReadFault → ⊥) → how ≡ close.ReadFault → ⊥
no_read_fault how count s is not failed = not (is ∙ ap (λ (h : Close). status_at h count) failed)

pub no_write_fault : (how : Close) (count : ℕ) (s : Status) → s ≡ status_at how count → (s ≡ status.WriteFault → ⊥) → how ≡ close.WriteFault → ⊥
no_write_fault how count s is not failed = not (is ∙ ap (λ (h : Close). status_at h count) failed)

pub counts_same : (how : Close) (counts : OutputCounts) → (how ≡ close.WriteFault → ⊥) → counts_at how counts ≡ counts
counts_same (close.Ended end) counts not = refl
counts_same close.ReadFault counts not = refl
counts_same close.WriteFault counts not = absurd (not refl)
counts_same close.Memory counts not = refl

-- whether the input failed
pub once : (how : Close) (before now : InputCounts) → ((how ≡ close.ReadFault → ⊥) → IsUnharmed before now) → (how ≡ close.ReadFault → Failed before now) → IsUnharmed before now ⊎ Failed before now
once (close.Ended end) before now unharmed failed = inl (unharmed (λ no. cc))
once close.ReadFault before now unharmed failed = inr (failed refl)
once close.WriteFault before now unharmed failed = inl (unharmed (λ no. cc))
once close.Memory before now unharmed failed = inl (unharmed (λ no. cc))
