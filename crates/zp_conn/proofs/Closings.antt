-- How a step closes the connection.
use Rattle.std.proofs.Common.{◌≡◌, ℕ, ℤ, List, [], ◌∷◌, ◌++◌, false, refl, sym, ap, ◌∙◌, subst, inl, append-nil, map, arith}
use Rattle.std.specs.Prelude.{◌⊎◌, ◌<◌, Option, None, Ok, Contains}
use Rattle.zk_service.specs.declared.cause.Cause.{Cause}
use Rattle.zk_service.specs.declared.cause.Cause.TheVariants as cause
use Rattle.zk_service.specs.declared.fresh.Fresh.{Fresh}
use Rattle.zn_view.specs.declared.plan.Who.{Who}
use Rattle.zp_step.specs.Stages.{Core, new_core}
use Rattle.zp_step.specs.declared.action.Action.{Action}
use Rattle.zp_step.specs.declared.input.Input.{Input}
use Rattle.zp_step.specs.declared.input.Input.TheVariants as input
use Rattle.zp_step.specs.Ending.{asked_by, sends}
use Rattle.zp_run.specs.Causes.{Shows}
use Rattle.zp_run.specs.Heard.{Heard}
use Rattle.zp_run.specs.Laws.{IsClosedIn, RunsOn}
use Rattle.zp_run.proofs.Running.{runs-on}
use Rattle.zp_run.specs.Notes.{In, Noted, Out, noted_input, notes_in, notes_of, with_note, with_notes}
use Rattle.zp_run.specs.Runs.{Step, asks_of, entry_in, frame_in, frames_of, said}
use Rattle.zp_conn.specs.Answered.{AreAnswered}
use Rattle.zp_conn.specs.Inboxes.{Holds, InboxState, IsBadAt}
use Rattle.zp_conn.specs.Handing.{IsSpoken}
use Rattle.zp_conn.specs.Serving.{AreFirstFrames, IsEndedFor, Told, is_after_frames, outcomes_of}
use Rattle.zp_conn.specs.Speaking.{joined}
use Rattle.zp_conn.specs.Turning.{IsHeldFor, IsShownBy, Stood, listed}
use Rattle.zp_conn.specs.declared.inputs.Next.TheVariants as next
use Rattle.zp_conn.specs.declared.speaking.Rest.TheVariants as rest
use Rattle.zp_conn.proofs.Ends.{Last, same-faults}
use Rattle.zp_conn.proofs.Goings.{drives-push, flat_map-push, held-more, joined-step, notes-on, said-push, step-row, stepped-outcomes}
use Rattle.zp_conn.proofs.Turning.{filter_map-push, held-front}

-- what the input is, where the cause is one that is handed in
abbrev Closing : Cause → Input → Type 0
Closing cause.Closed x = Unit {0}
Closing (cause.Expired revision) x = Unit {0}
Closing (cause.Moved mine found) x = Unit {0}
Closing (cause.ClientEnd place) x = x ≡ input.ClientEnd place
Closing (cause.BadLength place l) x = x ≡ input.BadLength place l
Closing (cause.NoHeader place) x = Unit {0}
Closing cause.AuthRefused x = Unit {0}
Closing cause.Unknown x = Unit {0}
Closing (cause.ZxidAhead client head) x = Unit {0}
Closing (cause.Taken revision) x = Unit {0}
Closing cause.LinkFault x = x ≡ input.Failed
Closing (cause.Lagged cursor floor) x = x ≡ input.Lagged cursor floor
Closing cause.FeedClosed x = x ≡ input.FeedClosed
Closing (cause.Damaged key value) x = Unit {0}
Closing cause.ReadFault x = ⊥
Closing cause.WriteFault x = ⊥
Closing cause.Restart x = ⊥
Closing cause.Memory x = ⊥

closing-of : (k : Heard) (c : Core) (x : Input) (who : Who) (out : List Action) (why : Cause) → Shows k c x who out why → Closing why x
closing-of k c x who out cause.Closed h = tt
closing-of k c x who out (cause.Expired revision) h = tt
closing-of k c x who out (cause.Moved mine found) h = tt
closing-of k c x who out (cause.ClientEnd place) h = h
closing-of k c x who out (cause.BadLength place l) h = h
closing-of k c x who out (cause.NoHeader place) h = tt
closing-of k c x who out cause.AuthRefused h = tt
closing-of k c x who out cause.Unknown h = tt
closing-of k c x who out (cause.ZxidAhead client head) h = tt
closing-of k c x who out (cause.Taken revision) h = tt
closing-of k c x who out cause.LinkFault h = h
closing-of k c x who out (cause.Lagged cursor floor) h = h
closing-of k c x who out cause.FeedClosed h = h
closing-of k c x who out (cause.Damaged key value) h = tt
closing-of k c x who out cause.ReadFault h = h
closing-of k c x who out cause.WriteFault h = h
closing-of k c x who out cause.Restart h = h
closing-of k c x who out cause.Memory h = h

abbrev last_step : Step → List Step → Step
last_step d [] = d
last_step d (x ∷ xs) = last_step x xs

last-pushed : (d : Step) (xs : List Step) (x : Step) → last_step d (xs ++ x ∷ []) ≡ x
last-pushed d [] x = refl
last-pushed d (y ∷ xs) x = last-pushed y xs x

same-last : (xs ys : List Step) (x y : Step) → xs ++ x ∷ [] ≡ ys ++ y ∷ [] → x ≡ y
same-last xs ys x y e = sym (last-pushed x xs x) ∙ ap (last_step x) e ∙ last-pushed x ys y

closing-in : (fresh : Fresh) (steps : List Step) (s : Step) (core : Core) (why : Cause) → IsClosedIn fresh (steps ++ s ∷ []) core why → Closing why s.input
closing-in fresh steps s core why h = subst (Closing why) (ap (λ (t : Step). t.input) (sym (same-last steps h.before s h.last h.split))) (closing-of _ h.mid (h.last).input core.who (h.last).out why h.shown)

held-none : (why : Cause) (x : Input) (frames : List (List ℕ)) (read : List ℕ) (i : InboxState) → is_after_frames why ≡ false → frame_in x ≡ None → Holds read frames i → AreFirstFrames why read (frames ++ listed (frame_in x))
held-none why x frames read i b none h = subst (λ l. AreFirstFrames why read l) (sym (ap (λ o. frames ++ listed o) none ∙ append-nil frames)) (held-front why frames read i h b)

held-bad : (why : Cause) (frames : List (List ℕ)) (read : List ℕ) (p : ℕ) (l : ℤ) → IsBadAt read frames p l → AreFirstFrames why read (frames ++ [])
held-bad why frames read p l h = record { front = read; is_front = ([], append-nil read); fully = inl refl; all = frames; rest = h.rest; framed = h.framed; first = ([], append-nil _ ∙ append-nil frames); whole = λ e. append-nil frames }

held-end : (why : Cause) (frames : List (List ℕ)) (read : List ℕ) (i : InboxState) → Holds read frames i → i.frames ≡ [] → AreFirstFrames why read (frames ++ [])
held-end why frames read i h none = record { front = read; is_front = ([], append-nil read); fully = inl refl; all = frames ++ i.frames; rest = (h.stands).rest; framed = (h.stands).framed; first = (i.frames, ap (λ l. l ++ i.frames) (append-nil frames)); whole = λ e. ap (λ l. frames ++ l) (sym none) }

pub held-any : (why : Cause) (x : Input) (frames : List (List ℕ)) (read : List ℕ) (i : InboxState) → is_after_frames why ≡ false → IsHeldFor (next.Input x) frames read i → AreFirstFrames why read (frames ++ listed (frame_in x))
held-any why (input.Frame b) frames read i e h = held-front why (frames ++ b ∷ []) read i h e
held-any why (input.Answer a) frames read i e h = held-none why (input.Answer a) frames read i e refl h
held-any why input.Failed frames read i e h = held-none why input.Failed frames read i e refl h
held-any why (input.Entry x) frames read i e h = held-none why (input.Entry x) frames read i e refl h
held-any why (input.Lagged was floor) frames read i e h = held-none why (input.Lagged was floor) frames read i e refl h
held-any why input.FeedClosed frames read i e h = held-none why input.FeedClosed frames read i e refl h
held-any why (input.ClientEnd p) frames read i e h = held-none why (input.ClientEnd p) frames read i e refl h.0
held-any why (input.BadLength p l) frames read i e h = held-bad why frames read p l h

held-close : (why : Cause) (x : Input) (frames : List (List ℕ)) (read : List ℕ) (i : InboxState) → Closing why x → IsHeldFor (next.Input x) frames read i → AreFirstFrames why read (frames ++ listed (frame_in x))
held-close cause.Closed x frames read i k h = held-any cause.Closed x frames read i refl h
held-close (cause.Expired revision) x frames read i k h = held-any (cause.Expired revision) x frames read i refl h
held-close (cause.Moved mine found) x frames read i k h = held-any (cause.Moved mine found) x frames read i refl h
held-close (cause.ClientEnd place) x frames read i k h = (let g = subst (λ y. IsHeldFor (next.Input y) frames read i) k h in subst (λ y. AreFirstFrames (cause.ClientEnd place) read (frames ++ listed (frame_in y))) (sym k) (held-end (cause.ClientEnd place) frames read i g.0 g.1))
held-close (cause.BadLength place l) x frames read i k h = subst (λ y. AreFirstFrames (cause.BadLength place l) read (frames ++ listed (frame_in y))) (sym k) (held-bad (cause.BadLength place l) frames read place l (subst (λ y. IsHeldFor (next.Input y) frames read i) k h))
held-close (cause.NoHeader place) x frames read i k h = held-any (cause.NoHeader place) x frames read i refl h
held-close cause.AuthRefused x frames read i k h = held-any cause.AuthRefused x frames read i refl h
held-close cause.Unknown x frames read i k h = held-any cause.Unknown x frames read i refl h
held-close (cause.ZxidAhead client head) x frames read i k h = held-any (cause.ZxidAhead client head) x frames read i refl h
held-close (cause.Taken revision) x frames read i k h = held-any (cause.Taken revision) x frames read i refl h
held-close cause.LinkFault x frames read i k h = held-any cause.LinkFault x frames read i refl h
held-close (cause.Lagged cursor floor) x frames read i k h = held-any (cause.Lagged cursor floor) x frames read i refl h
held-close cause.FeedClosed x frames read i k h = held-any cause.FeedClosed x frames read i refl h
held-close (cause.Damaged key value) x frames read i k h = held-any (cause.Damaged key value) x frames read i refl h
held-close cause.ReadFault x frames read i k h = absurd k
held-close cause.WriteFault x frames read i k h = absurd k
held-close cause.Restart x frames read i k h = absurd k
held-close cause.Memory x frames read i k h = absurd k

ends-as : (fresh : Fresh) (old new : Told) (n : Option (List Noted)) (core : Core) (steps : List Step) (read : List ℕ) (why : Cause) (x : Input) (frames : List (List ℕ)) (i : InboxState) → Closing why x → IsHeldFor (next.Input x) frames read i → IsShownBy (next.Input x) old new → IsClosedIn fresh steps core why → IsEndedFor fresh steps core old (record new { notes = n }) read why
ends-as fresh old new n core steps read cause.Closed x frames i k h s e = (e, tt)
ends-as fresh old new n core steps read (cause.Expired revision) x frames i k h s e = (e, tt)
ends-as fresh old new n core steps read (cause.Moved mine found) x frames i k h s e = (e, tt)
ends-as fresh old new n core steps read (cause.ClientEnd place) x frames i k h s e = (e, ((subst (λ y. IsHeldFor (next.Input y) frames read i) k h).2, subst (λ y. IsShownBy (next.Input y) old new) k s))
ends-as fresh old new n core steps read (cause.BadLength place l) x frames i k h s e = (e, (let g = subst (λ y. IsHeldFor (next.Input y) frames read i) k h in record { all = frames; rest = g.rest; framed = g.framed; bad = g.bad; at = g.at }))
ends-as fresh old new n core steps read (cause.NoHeader place) x frames i k h s e = (e, tt)
ends-as fresh old new n core steps read cause.AuthRefused x frames i k h s e = (e, tt)
ends-as fresh old new n core steps read cause.Unknown x frames i k h s e = (e, tt)
ends-as fresh old new n core steps read (cause.ZxidAhead client head) x frames i k h s e = (e, tt)
ends-as fresh old new n core steps read (cause.Taken revision) x frames i k h s e = (e, tt)
ends-as fresh old new n core steps read cause.LinkFault x frames i k h s e = (e, subst (λ y. IsShownBy (next.Input y) old new) k s)
ends-as fresh old new n core steps read (cause.Lagged cursor floor) x frames i k h s e = (e, subst (λ y. IsShownBy (next.Input y) old new) k s)
ends-as fresh old new n core steps read cause.FeedClosed x frames i k h s e = (e, subst (λ y. IsShownBy (next.Input y) old new) k s)
ends-as fresh old new n core steps read (cause.Damaged key value) x frames i k h s e = (e, tt)
ends-as fresh old new n core steps read cause.ReadFault x frames i k h s e = absurd k
ends-as fresh old new n core steps read cause.WriteFault x frames i k h s e = absurd k
ends-as fresh old new n core steps read cause.Restart x frames i k h s e = absurd k
ends-as fresh old new n core steps read cause.Memory x frames i k h s e = absurd k

pub closes-last : (fresh : Fresh) (old new : Told) (core core' : Core) (i : InboxState) (x : Input) (now : ℕ) (o o' : List ℕ) (n : Option (List Noted)) (why : Cause) → Stood fresh old new core i o None (next.Input x)
    → IsSpoken (Ok (rest.Close why)) x now core core' o o' (with_note new.notes (In (noted_input x) now)) n → Last fresh old (record new { notes = n }) o' why
closes-last fresh old new core core' i x now o o' n why s p = record {
  steps = s.steps ++ step ∷ [];
  core = core';
  ran = on.ran;
  timely = drives-push (new_core fresh) core core' s.steps step s.timely s.in_time s.may p.stepped;
  read = s.read;
  gives = s.gives;
  frames = subst (λ l. AreFirstFrames why s.read l) (sym (filter_map-push (λ (t : Step). frame_in t.input) s.steps step)) (held-close why x (frames_of s.steps) s.read i closing s.held);
  answers = subst (AreAnswered why (frames_of (s.steps ++ step ∷ []))) (sym (said-push s.steps step)) ((step-row fresh old new core core' i x now o o' n (Ok (rest.Close why)) s p).answers why (p.speaks).1.1);
  calls = s.calls;
  called = s.called;
  asked = record {
    uncalled = [];
    asks = s.asks ∙ sym (filter_map-push (λ (t : Step). asked_by t.out) s.steps step ∙ ap (λ q. asks_of s.steps ++ listed q) (p.speaks).1.0 ∙ append-nil _);
    unheard = [];
    outcomes = stepped-outcomes s.steps step (outcomes_of s.calls) s.unheard s.outcomes s.wanting;
    last = omega arith;
    whole = λ e. refl;
    heard = inl refl;
  };
  entries = λ e c. s.entries e (subst (λ l. Contains l e) (filter_map-push (λ (t : Step). entry_in t.input) s.steps step) c);
  looked = subst (λ l. (l ≡ []) ⊎ (0 < (new.feed).reads)) (sym (filter_map-push (λ (t : Step). entry_in t.input) s.steps step)) s.looked;
  written = s.written;
  takes = s.takes;
  says = record { front = ([], append-nil _ ∙ whole); whole = λ e. whole };
  events = notes_of (s.steps ++ step ∷ []);
  noted = notes-on new.notes _ n old.notes (notes_of s.steps) (In (noted_input x) now) (map Out (sends p.out)) s.noted refl (p.speaks).0.notes ∙ ap (with_notes old.notes) (sym (flat_map-push notes_in s.steps step));
  notes = record { front = inl ([], append-nil _); whole = λ e. refl };
  grown = same-faults (old.sink).counts (new.sink).counts (s.grown).sink;
  ended = ends-as fresh old new n core' (s.steps ++ step ∷ []) s.read why x (frames_of s.steps) i closing s.held s.shown closed;
}
  where
    step : Step
    step = record { input = x; time = now; out = p.out }

    on : RunsOn fresh s.steps step core'
    on = runs-on fresh s.steps step core core' s.opened s.ran s.may p.stepped

    closed : IsClosedIn fresh (s.steps ++ step ∷ []) core' why
    closed = on.shows why (p.speaks).1.1

    closing : Closing why x
    closing = closing-in fresh s.steps step core' why closed

    whole : s.written ++ o' ≡ joined (said (s.steps ++ step ∷ []))
    whole = held-more s.written o o' (joined (said s.steps)) (joined (sends p.out)) s.says (p.speaks).0.holds ∙ sym (joined-step s.steps step)
