-- How the loop ends: what stands then, and what the last write makes of it.
use Rattle.std.proofs.Common.{◌≡◌, ◌≤◌, ℕ, take, drop, length, ◌+◌, List, [], ◌∷◌, ◌++◌, false, refl, sym, ap, ◌∙◌, subst, inl, inr, append-nil, append_assoc, map, arith}
use Rattle.std.specs.Prelude.{◌⊎◌, ◌<◌, Option, Some, None, Result, Ok, Err, Contains}
use mathlib.Core.List.{IsPrefix}
use Rattle.std.proofs.lemmas.List.{take-append-drop}
use Rattle.std.proofs.lemmas.List.Elements.{Contains-append_left}
use Rattle.ev_types.specs.declared.answer.Answer.{Answer}
use Rattle.ev_call.specs.Calls.{Call}
use Rattle.zk_service.specs.declared.cause.Cause.{Cause}
use Rattle.zk_service.specs.declared.cause.Cause.TheVariants as cause
use Rattle.zn_layout.specs.declared.entry.Entry.{Entry}
use Rattle.zk_service.specs.declared.fresh.Fresh.{Fresh}
use Rattle.zw_hub.specs.Lists.{IsAt}
use Rattle.zx_outside.specs.Counts.{OutputCounts, one_more}
use Rattle.zx_outside.specs.Reading.{Gives}
use Rattle.zx_outside.specs.Writing.{Takes, TakesFront}
use Rattle.zx_outside.proofs.Streams.{Takes-append}
use Rattle.zp_step.specs.Stages.{Core, new_core}
use Rattle.zp_run.specs.Notes.{Noted, notes_of, with_notes}
use Rattle.zp_run.specs.Runs.{Runs, Step, entries_of, frames_of, said}
use Rattle.zp_conn.proofs.Answering.{open-answered, weaker}
use Rattle.zp_conn.proofs.Turning.{rose}
use Rattle.zp_conn.specs.Answered.{AreAnswered, is_answered}
use Rattle.zp_conn.specs.Driving.{Drives}
use Rattle.zp_conn.specs.Inboxes.{InboxState}
use Rattle.zp_conn.specs.Serving.{AreCallsOf, AreFirstFrames, AreNotesOf, IsEndedFor, IsWrittenOf, Rose, Serves, SinkTold, Told, with_calls}
use Rattle.zp_conn.specs.Speaking.{joined}
use Rattle.zp_conn.specs.Turning.{Ends, IsShownBy, IsUnheard, Stood, cut_short, ended_by}
use Rattle.zp_conn.specs.Writing.{Flushes}
use Rattle.zp_conn.specs.declared.inputs.Next.TheVariants as next
use Rattle.zp_conn.specs.declared.writing.WriteFault.{WriteFault}

-- What stands at the end, where the outbox still holds `o`.
pub record Last (fresh : Fresh) (old new : Told) (o : List ℕ) (why : Cause) : Type 0 where
  pub steps : List Step
  pub core : Core
  pub ran : Runs (new_core fresh) steps core
  pub timely : Drives (new_core fresh) steps core
  pub read : List ℕ
  pub gives : Gives read (old.source).given (new.source).given (old.source).left (new.source).left
  pub frames : AreFirstFrames why read (frames_of steps)
  pub answers : AreAnswered why (frames_of steps) (said steps)
  pub calls : List Call
  pub called : (new.link).calls ≡ with_calls (old.link).calls calls
  pub asked : AreCallsOf why steps calls
  pub entries : (e : Entry) → Contains (entries_of steps) e → IsAt (new.feed).list e.number e
  pub looked : (entries_of steps ≡ []) ⊎ (0 < (new.feed).reads)
  pub written : List ℕ
  pub takes : Takes written (old.sink).taken (new.sink).taken
  pub says : IsWrittenOf why steps (written ++ o)
  pub events : List Noted
  pub noted : new.notes ≡ with_notes old.notes events
  pub notes : AreNotesOf why steps events
  pub grown : ((old.sink).counts).faults ≤ ((new.sink).counts).faults
  pub ended : IsEndedFor fresh steps core old new read why

-- ---- what was given by then

pub looked-front : (xs ys : List Entry) (n : ℕ) → (xs ++ ys ≡ []) ⊎ (0 < n) → (xs ≡ []) ⊎ (0 < n)
looked-front [] ys n h = inl refl
looked-front (x ∷ xs) ys n (inl e) = absurd (cc)
looked-front (x ∷ xs) ys n (inr h) = inr h

-- ---- the last write

rose-more : (a b c : ℕ) → Rose a b → c ≡ b → Rose a c
rose-more a b c h e = subst (Rose a) (sym e) h

module _ (fresh : Fresh) (old new : Told) (core : Core) (steps : List Step) (read : List ℕ) (k : SinkTold) where
  -- the cause stays shown where the sink took what was left
  still-ended : (why : Cause) → k.counts ≡ (new.sink).counts → IsEndedFor fresh steps core old new read why → IsEndedFor fresh steps core old (record new { sink = k }) read why
  still-ended cause.Closed e h = h
  still-ended (cause.Expired revision) e h = h
  still-ended (cause.Moved mine found) e h = h
  still-ended (cause.ClientEnd place) e h = h
  still-ended (cause.BadLength place l) e h = h
  still-ended (cause.NoHeader place) e h = h
  still-ended cause.AuthRefused e h = h
  still-ended cause.Unknown e h = h
  still-ended (cause.ZxidAhead client head) e h = h
  still-ended (cause.Taken revision) e h = h
  still-ended cause.LinkFault e h = h
  still-ended (cause.Lagged cursor floor) e h = h
  still-ended cause.FeedClosed e h = h
  still-ended (cause.Damaged key value) e h = h
  still-ended cause.ReadFault e h = h
  still-ended cause.WriteFault e h = rose-more ((old.sink).counts).faults ((new.sink).counts).faults (k.counts).faults h (ap (λ (x : OutputCounts). x.faults) e)
  still-ended cause.Restart e h = h
  still-ended cause.Memory e h = h

-- out of memory, or any other cause
abbrev IsMemory : Cause → Type 0
IsMemory why = (why ≡ cause.Memory) ⊎ ((cut_short why ≡ cause.WriteFault) × (why ≡ cause.Memory → ⊥))

either-cause : (why : Cause) → IsMemory why
either-cause cause.Closed = inr (refl, λ e. cc)
either-cause (cause.Expired revision) = inr (refl, λ e. cc)
either-cause (cause.Moved mine found) = inr (refl, λ e. cc)
either-cause (cause.ClientEnd place) = inr (refl, λ e. cc)
either-cause (cause.BadLength place l) = inr (refl, λ e. cc)
either-cause (cause.NoHeader place) = inr (refl, λ e. cc)
either-cause cause.AuthRefused = inr (refl, λ e. cc)
either-cause cause.Unknown = inr (refl, λ e. cc)
either-cause (cause.ZxidAhead client head) = inr (refl, λ e. cc)
either-cause (cause.Taken revision) = inr (refl, λ e. cc)
either-cause cause.LinkFault = inr (refl, λ e. cc)
either-cause (cause.Lagged cursor floor) = inr (refl, λ e. cc)
either-cause cause.FeedClosed = inr (refl, λ e. cc)
either-cause (cause.Damaged key value) = inr (refl, λ e. cc)
either-cause cause.ReadFault = inr (refl, λ e. cc)
either-cause cause.WriteFault = inr (refl, λ e. cc)
either-cause cause.Restart = inr (refl, λ e. cc)
either-cause cause.Memory = inl refl

pub front-of : (written o all : List ℕ) (n : ℕ) → IsPrefix (written ++ o) all → IsPrefix (written ++ take n o) all
front-of written o all n p = (drop n o ++ p.0, append_assoc written (take n o) (drop n o ++ p.0) ∙ ap (λ l. written ++ l) (sym (append_assoc (take n o) (drop n o) p.0) ∙ ap (λ l. l ++ p.0) (take-append-drop n o)) ∙ sym (append_assoc written o p.0) ∙ p.1)

module _ (fresh : Fresh) (old new : Told) (o : List ℕ) (why : Cause) (k : SinkTold) (h : Last fresh old new o why) where
  all-taken : Takes o (new.sink).taken k.taken → k.counts ≡ (new.sink).counts → Serves fresh old (record new { sink = k }) why
  all-taken t e = record {
    steps = h.steps;
    core = h.core;
    ran = h.ran;
    timely = h.timely;
    read = h.read;
    gives = h.gives;
    frames = h.frames;
    answers = h.answers;
    calls = h.calls;
    called = h.called;
    asked = h.asked;
    entries = h.entries;
    looked = h.looked;
    written = h.written ++ o;
    takes = Takes-append h.written o _ _ _ h.takes t;
    says = h.says;
    events = h.events;
    noted = h.noted;
    notes = h.notes;
    ended = still-ended fresh old new h.core h.steps h.read k why e h.ended;
  }

  front-memory : why ≡ cause.Memory → TakesFront o (new.sink).taken k.taken → Serves fresh old (record new { sink = k }) cause.Memory
  front-memory is t = record {
    steps = h.steps;
    core = h.core;
    ran = h.ran;
    timely = h.timely;
    read = h.read;
    gives = h.gives;
    frames = subst (λ w. AreFirstFrames w h.read (frames_of h.steps)) is h.frames;
    answers = subst (λ w. AreAnswered w (frames_of h.steps) (said h.steps)) is h.answers;
    calls = h.calls;
    called = h.called;
    asked = subst (λ w. AreCallsOf w h.steps h.calls) is h.asked;
    entries = h.entries;
    looked = h.looked;
    written = h.written ++ take t.0 o;
    takes = Takes-append h.written (take t.0 o) _ _ _ h.takes t.2;
    says = record { front = front-of h.written o (joined (said h.steps)) t.0 (h.says).front; whole = λ e. absurd (cc) };
    events = h.events;
    noted = h.noted;
    notes = subst (λ w. AreNotesOf w h.steps h.events) is h.notes;
    ended = tt;
  }

  front-fault : (why ≡ cause.Memory → ⊥) → TakesFront o (new.sink).taken k.taken → (k.counts).faults ≡ one_more ((new.sink).counts).faults → Serves fresh old (record new { sink = k }) cause.WriteFault
  front-fault is-not t e = record {
    steps = h.steps;
    core = h.core;
    ran = h.ran;
    timely = h.timely;
    read = h.read;
    gives = h.gives;
    frames = record { front = (h.frames).front; is_front = (h.frames).is_front; fully = fully (h.frames).fully; all = (h.frames).all; rest = (h.frames).rest; framed = (h.frames).framed; first = (h.frames).first; whole = λ b. absurd (cc) };
    answers = weaker why cause.WriteFault (frames_of h.steps) (said h.steps) refl h.answers;
    calls = h.calls;
    called = h.called;
    asked = record { uncalled = (h.asked).uncalled; asks = (h.asked).asks; unheard = (h.asked).unheard; outcomes = (h.asked).outcomes; last = (h.asked).last; whole = λ b. absurd (cc); heard = fully (h.asked).heard };
    entries = h.entries;
    looked = h.looked;
    written = h.written ++ take t.0 o;
    takes = Takes-append h.written (take t.0 o) _ _ _ h.takes t.2;
    says = record { front = front-of h.written o (joined (said h.steps)) t.0 (h.says).front; whole = λ b. absurd (cc) };
    events = h.events;
    noted = h.noted;
    notes = record { front = noted-front (h.notes).front; whole = λ b. absurd (cc) };
    ended = rose ((old.sink).counts).faults ((new.sink).counts).faults (k.counts).faults h.grown e;
  }
    where
      fully : {A : Type 0} → A ⊎ (why ≡ cause.Memory) → A ⊎ (cause.WriteFault ≡ cause.Memory)
      fully (inl a) = inl a
      fully (inr m) = absurd (is-not m)

      noted-front : {A B : Type 0} → A ⊎ ((why ≡ cause.Memory) × B) → A ⊎ ((cause.WriteFault ≡ cause.Memory) × B)
      noted-front (inl a) = inl a
      noted-front (inr m) = absurd (is-not m.0)

  front-taken : TakesFront o (new.sink).taken k.taken → (k.counts).faults ≡ one_more ((new.sink).counts).faults → IsMemory why → Serves fresh old (record new { sink = k }) (cut_short why)
  front-taken t e (inl is) = subst (Serves fresh old (record new { sink = k })) (sym (ap cut_short is)) (front-memory is t)
  front-taken t e (inr m) = subst (Serves fresh old (record new { sink = k })) (sym m.0) (front-fault m.1 t e)

pub last-ends : (fresh : Fresh) (old new : Told) (o : List ℕ) (why : Cause) → Last fresh old new o why → Ends fresh old new o why
last-ends fresh old new o why h = go
  where
    go : (r : Result (Unit {0}) WriteFault) (k : SinkTold) (o' : List ℕ) → Flushes r o o' (new.sink).taken k.taken (new.sink).counts k.counts → Serves fresh old (record new { sink = k }) (ended_by r why)
    go (Ok u) k o' f = all-taken fresh old new o why k h (f.0).0 (f.0).1
    go (Err e) k o' f = front-taken fresh old new o why k h (f.0).0 (f.0).1 (either-cause why)

-- ---- it ends before anything is handed in

ends-so : (fresh : Fresh) (old new : Told) (core : Core) (steps : List Step) (read : List ℕ) (why : Cause) → IsShownBy (next.Ended why) old new → IsEndedFor fresh steps core old new read why
ends-so fresh old new core steps read cause.Closed h = absurd h
ends-so fresh old new core steps read (cause.Expired revision) h = absurd h
ends-so fresh old new core steps read (cause.Moved mine found) h = absurd h
ends-so fresh old new core steps read (cause.ClientEnd place) h = absurd h
ends-so fresh old new core steps read (cause.BadLength place l) h = absurd h
ends-so fresh old new core steps read (cause.NoHeader place) h = absurd h
ends-so fresh old new core steps read cause.AuthRefused h = absurd h
ends-so fresh old new core steps read cause.Unknown h = absurd h
ends-so fresh old new core steps read (cause.ZxidAhead client head) h = absurd h
ends-so fresh old new core steps read (cause.Taken revision) h = absurd h
ends-so fresh old new core steps read cause.LinkFault h = absurd h
ends-so fresh old new core steps read (cause.Lagged cursor floor) h = absurd h
ends-so fresh old new core steps read cause.FeedClosed h = absurd h
ends-so fresh old new core steps read (cause.Damaged key value) h = absurd h
ends-so fresh old new core steps read cause.ReadFault h = h
ends-so fresh old new core steps read cause.WriteFault h = absurd h
ends-so fresh old new core steps read cause.Restart h = absurd h
ends-so fresh old new core steps read cause.Memory h = tt

pub same-faults : (a b : OutputCounts) → b ≡ a → a.faults ≤ b.faults
same-faults a b e = subst (λ (x : OutputCounts). a.faults ≤ x.faults) (sym e) (go a.faults)
  where
    go : (n : ℕ) → n ≤ n
    go n = omega arith

-- it ends so wherever it stands
unanswered : (old new : Told) (why : Cause) → IsShownBy (next.Ended why) old new → is_answered why ≡ false
unanswered old new cause.Closed h = absurd h
unanswered old new (cause.Expired revision) h = absurd h
unanswered old new (cause.Moved mine found) h = absurd h
unanswered old new (cause.ClientEnd place) h = absurd h
unanswered old new (cause.BadLength place l) h = absurd h
unanswered old new (cause.NoHeader place) h = absurd h
unanswered old new cause.AuthRefused h = absurd h
unanswered old new cause.Unknown h = absurd h
unanswered old new (cause.ZxidAhead client head) h = absurd h
unanswered old new (cause.Taken revision) h = absurd h
unanswered old new cause.LinkFault h = absurd h
unanswered old new (cause.Lagged cursor floor) h = absurd h
unanswered old new cause.FeedClosed h = absurd h
unanswered old new (cause.Damaged key value) h = absurd h
unanswered old new cause.ReadFault h = refl
unanswered old new cause.WriteFault h = absurd h
unanswered old new cause.Restart h = absurd h
unanswered old new cause.Memory h = refl

-- one call at most ran out of memory
at-most-one : (why : Cause) (unheard : List (Option (Option Answer))) → IsUnheard (next.Ended why) unheard → 0 + length unheard ≤ 1
at-most-one why unheard (inl none) = subst (λ (l : List (Option (Option Answer))). 0 + length l ≤ 1) (sym none) (omega arith)
at-most-one why unheard (inr (is, one)) = subst (λ (l : List (Option (Option Answer))). 0 + length l ≤ 1) (sym one) (omega arith)

unheard-memory : (why : Cause) (unheard : List (Option (Option Answer))) → IsUnheard (next.Ended why) unheard → (unheard ≡ []) ⊎ (why ≡ cause.Memory)
unheard-memory why unheard (inl none) = inl none
unheard-memory why unheard (inr (is, one)) = inr (cc)

pub ended-last : (fresh : Fresh) (old new : Told) (core : Core) (i : InboxState) (o : List ℕ) (why : Cause) → Stood fresh old new core i o None (next.Ended why) → Last fresh old new o why
ended-last fresh old new core i o why s = record {
  steps = s.steps;
  core = core;
  ran = s.ran;
  timely = s.timely;
  read = s.read;
  gives = s.gives;
  frames = s.held;
  answers = open-answered why (frames_of s.steps) (said s.steps) (unanswered old new why s.shown) core.stage s.opened s.answering;
  calls = s.calls;
  called = s.called;
  asked = record {
    uncalled = [];
    asks = s.asks;
    unheard = s.unheard;
    outcomes = s.outcomes ∙ ap (λ l. map Some l ++ s.unheard) (append-nil _);
    last = at-most-one why s.unheard s.wanting;
    whole = λ e. refl;
    heard = unheard-memory why s.unheard s.wanting;
  };
  entries = λ e c. s.entries e (Contains-append_left (entries_of s.steps) [] e c);
  looked = looked-front (entries_of s.steps) [] (new.feed).reads s.looked;
  written = s.written;
  takes = s.takes;
  says = record { front = ([], append-nil _ ∙ s.says); whole = λ e. s.says };
  events = notes_of s.steps;
  noted = s.noted;
  notes = record { front = inl ([], append-nil _); whole = λ e. refl };
  grown = same-faults (old.sink).counts (new.sink).counts (s.grown).sink;
  ended = ends-so fresh old new core s.steps s.read why s.shown;
}
