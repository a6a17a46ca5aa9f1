-- How the loop ends where memory runs out, and at a fault of the sink.
use Rattle.std.proofs.Common.{◌≡◌, ◌≤◌, ℕ, length, ◌+◌, take, List, [], ◌∷◌, ◌++◌, true, false, refl, sym, ap, ◌∙◌, subst, inl, inr, append-nil, append_assoc, map, arith}
use Rattle.std.specs.Prelude.{◌⊎◌, ◌<◌, Option, Some, None, Ok, Err, Contains}
use mathlib.Core.List.{IsPrefix}
use Rattle.std.proofs.lemmas.List.{map-append}
use Rattle.std.proofs.lemmas.List.Elements.{Contains-append_left}
use Rattle.ev_types.specs.declared.answer.Answer.{Answer}
use Rattle.ev_types.specs.declared.ask.Ask.{Ask}
use Rattle.zk_service.specs.declared.cause.Cause.{Cause}
use Rattle.zk_service.specs.declared.cause.Cause.TheVariants as cause
use Rattle.zk_service.specs.declared.fresh.Fresh.{Fresh}
use Rattle.zx_base.specs.declared.memory.Memory.{Memory}
use Rattle.zx_outside.specs.Counts.{one_more}
use Rattle.zx_outside.specs.Writing.{TakesFront}
use Rattle.zx_outside.proofs.Streams.{Takes-append}
use Rattle.zp_step.specs.Stages.{Core, new_core}
use Rattle.zp_step.specs.declared.input.Input.{Input}
use Rattle.zp_step.specs.declared.input.Input.TheVariants as input
use Rattle.zp_step.specs.Ending.{asked_by, sends}
use Rattle.zp_run.proofs.Running.{runs-on}
use Rattle.zp_run.specs.Notes.{In, Noted, NotedInput, Out, noted_input, notes_in, notes_of, with_note, with_notes}
use Rattle.zp_run.specs.Runs.{Step, answer_in, answers_of, entries_of, entry_in, frame_in, frames_of, said}
use Rattle.zp_conn.proofs.Answering.{open-answered}
use Rattle.zp_conn.proofs.Closings.{held-any}
use Rattle.zp_conn.proofs.Ends.{Last, front-of, looked-front, same-faults}
use Rattle.zp_conn.proofs.Goings.{drives-push, flat_map-push, handed-outcomes, held-more, joined-both, joined-step, note-notes, notes-both, notes-on, said-push, step-row, stepped-outcomes}
use Rattle.zp_conn.proofs.Turning.{all-heard, filter_map-push, held-front, rose}
use Rattle.zp_conn.specs.Answered.{AreAnswered}
use Rattle.zp_conn.specs.Handing.{Hands, IsSpoken}
use Rattle.zp_conn.specs.Inboxes.{InboxState}
use Rattle.zp_conn.specs.Serving.{AreFirstFrames, IsUnstepped, SinkTold, Told, is_after_frames, outcomes_of}
use Rattle.zp_conn.specs.Speaking.{IsCut, joined}
use Rattle.zp_conn.specs.Turning.{Stood, answers_in, listed}
use Rattle.zp_conn.specs.Writing.{Flushes}
use Rattle.zp_conn.specs.declared.inputs.Next.TheVariants as next
use Rattle.zp_conn.specs.declared.writing.WriteFault.{WriteFault}

-- the notes of the next packet: it, or nothing
record IsFrontNoted (p : List ℕ) (n n' : Option (List Noted)) : Type 0 where
  pub notes : List Noted
  pub left : List Noted
  pub split : notes ++ left ≡ Out p ∷ []
  pub noted : n' ≡ with_notes n notes

pub no-notes : (n : Option (List Noted)) → n ≡ with_notes n []
no-notes None = refl
no-notes (Some ns) = ap Some (sym (append-nil ns))

front-noted : (p : List ℕ) (n n' : Option (List Noted)) → (n' ≡ n) ⊎ (n' ≡ with_note n (Out p)) → IsFrontNoted p n n'
front-noted p n n' (inl e) = record { notes = []; left = Out p ∷ []; split = refl; noted = e ∙ no-notes n }
front-noted p n n' (inr e) = record { notes = Out p ∷ []; left = []; split = refl; noted = e ∙ note-notes n (Out p) }

outs-split : (done : List (List ℕ)) (p : List ℕ) (later : List (List ℕ)) → map Out (done ++ p ∷ later) ≡ map Out done ++ (Out p ∷ map Out later)
outs-split done p later = map-append Out done (p ∷ later)

-- notes up to a front
fronts : (before done front left later : List Noted) → (before ++ (done ++ front)) ++ (left ++ later) ≡ before ++ (done ++ ((front ++ left) ++ later))
fronts before done front left later =
    append_assoc before (done ++ front) (left ++ later) ∙ ap (λ l. before ++ l) (append_assoc done front (left ++ later) ∙ ap (λ l. done ++ l) (sym (append_assoc front left later)))

one-listed : {A : Type 0} (o : Option A) → length (listed o) + 0 ≤ 1
one-listed None = omega arith
one-listed (Some a) = omega arith

-- the step was taken, and memory was refused while its packets were noted and held
cut-last : (fresh : Fresh) (old new : Told) (core core' : Core) (i : InboxState) (x : Input) (now : ℕ) (o o' : List ℕ) (n : Option (List Noted)) (m : Memory) → Stood fresh old new core i o None (next.Input x)
    → IsSpoken (Err m) x now core core' o o' (with_note new.notes (In (noted_input x) now)) n → Last fresh old (record new { notes = n }) o' cause.Memory
cut-last fresh old new core core' i x now o o' n m s p = record {
  steps = s.steps ++ step ∷ [];
  core = core';
  ran = (runs-on fresh s.steps step core core' s.opened s.ran s.may p.stepped).ran;
  timely = drives-push (new_core fresh) core core' s.steps step s.timely s.in_time s.may p.stepped;
  read = s.read;
  gives = s.gives;
  frames = subst (λ l. AreFirstFrames cause.Memory s.read l) (sym (filter_map-push (λ (t : Step). frame_in t.input) s.steps step)) (held-any cause.Memory x (frames_of s.steps) s.read i refl s.held);
  answers = subst (AreAnswered cause.Memory (frames_of (s.steps ++ step ∷ []))) (sym (said-push s.steps step)) (step-row fresh old new core core' i x now o o' n (Err m) s p).any;
  calls = s.calls;
  called = s.called;
  asked = record {
    uncalled = listed (asked_by p.out);
    asks = ap (λ l. l ++ listed (asked_by p.out)) (sym (append-nil _) ∙ s.asks) ∙ sym (filter_map-push (λ (t : Step). asked_by t.out) s.steps step);
    unheard = [];
    outcomes = stepped-outcomes s.steps step (outcomes_of s.calls) s.unheard s.outcomes s.wanting;
    last = one-listed (asked_by p.out);
    whole = λ h. absurd (cc);
    heard = inl refl;
  };
  entries = λ y c. s.entries y (subst (λ l. Contains l y) (filter_map-push (λ (t : Step). entry_in t.input) s.steps step) c);
  looked = subst (λ l. (l ≡ []) ⊎ (0 < (new.feed).reads)) (sym (filter_map-push (λ (t : Step). entry_in t.input) s.steps step)) s.looked;
  written = s.written;
  takes = s.takes;
  says = record {
    front = (joined (u.next ∷ u.later), ap (λ l. l ++ joined (u.next ∷ u.later)) (held-more s.written o o' (joined (said s.steps)) (joined u.done) s.says (u.said).holds) ∙ append_assoc (joined (said s.steps)) (joined u.done) (joined (u.next ∷ u.later)) ∙ ap (λ l. joined (said s.steps) ++ l) (sym (joined-both u.done (u.next ∷ u.later)) ∙ ap joined (sym u.split)) ∙ sym (joined-step s.steps step));
    whole = λ h. absurd (cc);
  };
  events = notes_of s.steps ++ ((In (noted_input x) now ∷ map Out u.done) ++ g.notes);
  noted = g.noted ∙ ap (λ k. with_notes k g.notes) (notes-on new.notes _ u.mid_notes old.notes (notes_of s.steps) (In (noted_input x) now) (map Out u.done) s.noted refl (u.said).notes) ∙ notes-both old.notes _ g.notes ∙ ap (with_notes old.notes) (append_assoc (notes_of s.steps) (In (noted_input x) now ∷ map Out u.done) g.notes);
  notes = record {
    front = inl (g.left ++ map Out u.later, fronts (notes_of s.steps) (In (noted_input x) now ∷ map Out u.done) g.notes g.left (map Out u.later) ∙ ap (λ l. notes_of s.steps ++ ((In (noted_input x) now ∷ map Out u.done) ++ (l ++ map Out u.later))) g.split ∙ ap (λ l. notes_of s.steps ++ (In (noted_input x) now ∷ l)) (sym (outs-split u.done u.next u.later) ∙ ap (map Out) (sym u.split)) ∙ sym (flat_map-push notes_in s.steps step));
    whole = λ h. absurd (cc);
  };
  grown = same-faults (old.sink).counts (new.sink).counts (s.grown).sink;
  ended = tt;
}
  where
    step : Step
    step = record { input = x; time = now; out = p.out }

    u : IsCut (sends p.out) o o' (with_note new.notes (In (noted_input x) now)) n
    u = p.speaks

    g : IsFrontNoted u.next u.mid_notes n
    g = front-noted u.next u.mid_notes n u.last

-- ---- memory was refused before the step

-- the answer that was to be handed in, where the input is one
one-answer : (o : Option (Option Answer)) → 0 + length (map Some (listed o)) ≤ 1
one-answer None = omega arith
one-answer (Some a) = omega arith

fewer-frames : (why : Cause) (read : List ℕ) (frames more : List (List ℕ)) → is_after_frames why ≡ false → AreFirstFrames why read (frames ++ more) → AreFirstFrames why read frames
fewer-frames why read frames more b h = record { front = h.front; is_front = h.is_front; fully = h.fully; all = h.all; rest = h.rest; framed = h.framed; first = (more ++ (h.first).0, sym (append_assoc frames more (h.first).0) ∙ (h.first).1); whole = λ e. (let n : false ≡ true = sym b ∙ e in absurd (cc)) }

abbrev IsTail : List Noted → Type 0
IsTail tail = (tail ≡ []) ⊎ ((x : NotedInput) × (now : ℕ) × (tail ≡ In x now ∷ []))

tail-front : (notes tail : List Noted) → IsTail tail → (steps : List Step) → notes ≡ notes_of steps → IsPrefix (notes ++ tail) (notes_of steps) ⊎ ((cause.Memory ≡ cause.Memory) × IsUnstepped steps (notes ++ tail))
tail-front notes tail (inl none) steps e = inl ([], append-nil _ ∙ ap (λ l. notes ++ l) none ∙ append-nil notes ∙ e)
tail-front notes tail (inr (x, now, one)) steps e = inr (refl, (x, now, ap (λ l. notes ++ l) one ∙ ap (λ l. l ++ In x now ∷ []) e))

refused-last : (fresh : Fresh) (old new : Told) (core : Core) (i : InboxState) (x : Input) (o o' : List ℕ) (n : Option (List Noted)) (tail : List Noted) → Stood fresh old new core i o None (next.Input x) → o' ≡ o → n ≡ with_notes new.notes tail → IsTail tail
    → Last fresh old (record new { notes = n }) o' cause.Memory
refused-last fresh old new core i x o o' n tail s same noted front = record {
  steps = s.steps;
  core = core;
  ran = s.ran;
  timely = s.timely;
  read = s.read;
  gives = s.gives;
  frames = fewer-frames cause.Memory s.read (frames_of s.steps) (listed (frame_in x)) refl (held-any cause.Memory x (frames_of s.steps) s.read i refl s.held);
  answers = open-answered cause.Memory (frames_of s.steps) (said s.steps) refl core.stage s.opened s.answering;
  calls = s.calls;
  called = s.called;
  asked = record {
    uncalled = [];
    asks = s.asks;
    unheard = map Some (answers_in (next.Input x));
    outcomes = handed-outcomes (outcomes_of s.calls) (answers_of s.steps) x s.unheard s.outcomes s.wanting ∙ append-nil _ ∙ map-append Some (answers_of s.steps) (answers_in (next.Input x));
    last = one-answer (answer_in x);
    whole = λ e. absurd (cc);
    heard = inr refl;
  };
  entries = λ e c. s.entries e (Contains-append_left (entries_of s.steps) _ e c);
  looked = looked-front (entries_of s.steps) _ (new.feed).reads s.looked;
  written = s.written;
  takes = s.takes;
  says = record { front = ([], append-nil _ ∙ whole); whole = λ e. whole };
  events = notes_of s.steps ++ tail;
  noted = noted ∙ ap (λ m. with_notes m tail) s.noted ∙ notes-both old.notes (notes_of s.steps) tail;
  notes = record { front = tail-front (notes_of s.steps) tail front s.steps refl; whole = λ e. absurd (cc) };
  grown = same-faults (old.sink).counts (new.sink).counts (s.grown).sink;
  ended = tt;
}
  where
    whole : s.written ++ o' ≡ joined (said s.steps)
    whole = ap (λ l. s.written ++ l) same ∙ s.says

pub hand-last : (fresh : Fresh) (old new : Told) (core core' : Core) (i : InboxState) (x : Input) (now : ℕ) (o o' : List ℕ) (n : Option (List Noted)) (m : Memory) → Stood fresh old new core i o None (next.Input x) → Hands (Err m) x now core core' o o' new.notes n
    → Last fresh old (record new { notes = n }) o' cause.Memory
hand-last fresh old new core core' i x now o o' n m s (inl r) = refused-last fresh old new core i x o o' n [] s r.0 (r.1 ∙ no-notes new.notes) (inl refl)
hand-last fresh old new core core' i x now o o' n m s (inr (inl r)) = refused-last fresh old new core i x o o' n (In (noted_input x) now ∷ []) s r.0 (r.1 ∙ note-notes new.notes (In (noted_input x) now)) (inr (noted_input x, now, refl))
hand-last fresh old new core core' i x now o o' n m s (inr (inr p)) = cut-last fresh old new core core' i x now o o' n m s p

-- ---- a write in between

module _ (fresh : Fresh) (old new : Told) (core : Core) (i : InboxState) (o o' : List ℕ) (asked : Option Ask) (k : SinkTold) (s : Stood fresh old new core i o asked next.Idle) where
  pub flush-on : Flushes (Ok tt) o o' (new.sink).taken k.taken (new.sink).counts k.counts → Stood fresh old (record new { sink = k }) core i o' asked next.Idle
  flush-on f = record {
    steps = s.steps;
    ran = s.ran;
    timely = s.timely;
    holds = s.holds;
    rested = s.rested;
    answering = s.answering;
    opened = s.opened;
    out = s.out;
    may = s.may;
    in_time = s.in_time;
    read = s.read;
    gives = s.gives;
    held = s.held;
    calls = s.calls;
    called = s.called;
    asks = s.asks;
    unheard = s.unheard;
    outcomes = s.outcomes;
    wanting = s.wanting;
    entries = s.entries;
    looked = s.looked;
    written = s.written ++ o;
    takes = Takes-append s.written o _ _ _ s.takes (f.0).0;
    says = ap (λ l. (s.written ++ o) ++ l) f.1 ∙ append-nil _ ∙ s.says;
    noted = s.noted;
    grown = record { source = (s.grown).source; sink = (f.0).1 ∙ (s.grown).sink; link = (s.grown).link };
    lags = s.lags;
    closings = s.closings;
    shown = tt;
  }

  pub flush-last : (e : WriteFault) → Flushes (Err e) o o' (new.sink).taken k.taken (new.sink).counts k.counts → Last fresh old (record new { sink = k }) o' cause.WriteFault
  flush-last e f = record {
    steps = s.steps;
    core = core;
    ran = s.ran;
    timely = s.timely;
    read = s.read;
    gives = s.gives;
    frames = held-front cause.WriteFault (frames_of s.steps) s.read i s.held refl;
    answers = open-answered cause.WriteFault (frames_of s.steps) (said s.steps) refl core.stage s.opened s.answering;
    calls = s.calls;
    called = s.called;
    asked = record {
      uncalled = listed asked;
      asks = s.asks;
      unheard = [];
      outcomes = s.outcomes ∙ ap (λ l. map Some (answers_of s.steps ++ []) ++ l) (all-heard s.unheard s.wanting) ∙ ap (λ l. map Some l ++ []) (append-nil _);
      last = one-listed asked;
      whole = λ h. absurd (cc);
      heard = inl refl;
    };
    entries = λ y c. s.entries y (Contains-append_left (entries_of s.steps) [] y c);
    looked = looked-front (entries_of s.steps) [] (new.feed).reads s.looked;
    written = s.written ++ take t.0 o;
    takes = Takes-append s.written (take t.0 o) _ _ _ s.takes t.2;
    says = record { front = subst (λ l. IsPrefix l (joined (said s.steps))) (sym (ap (λ l. (s.written ++ take t.0 o) ++ l) f.1 ∙ append-nil _)) (front-of s.written o (joined (said s.steps)) t.0 ([], append-nil _ ∙ s.says)); whole = λ h. absurd (cc) };
    events = notes_of s.steps;
    noted = s.noted;
    notes = record { front = inl ([], append-nil _); whole = λ h. refl };
    grown = more ((old.sink).counts).faults ((new.sink).counts).faults (k.counts).faults (same-faults (old.sink).counts (new.sink).counts (s.grown).sink) (f.0).1;
    ended = rose ((old.sink).counts).faults ((new.sink).counts).faults (k.counts).faults (same-faults (old.sink).counts (new.sink).counts (s.grown).sink) (f.0).1;
  }
    where
      t : TakesFront o (new.sink).taken k.taken
      t = (f.0).0

      more : (a b c : ℕ) → a ≤ b → c ≡ one_more b → a ≤ c
      more a b c h e = omega (arith, h, e)
