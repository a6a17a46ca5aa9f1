-- A turn of the loop, from its input on.
use Rattle.std.proofs.Common.{◌≡◌, ◌<◌, ◌+◌, ℕ, List, [], ◌∷◌, ◌++◌, true, false, refl, sym, ap, ◌∙◌, subst, inl, inr, append-nil, append_assoc, map}
use Rattle.std.specs.Prelude.{◌⊎◌, Option, Some, None, Result, Ok, Contains, flat_map}
use Rattle.std.proofs.lemmas.Grind.{flat_map-append}
use Rattle.ev_types.specs.declared.answer.Answer.{Answer}
use Rattle.zk_service.specs.declared.cause.Cause.{Cause}
use Rattle.zk_service.specs.declared.cause.Cause.TheVariants as cause
use Rattle.zn_view.specs.declared.plan.Who.{Who}
use Rattle.zk_service.specs.declared.fresh.Fresh.{Fresh}
use Rattle.zp_step.specs.Replies.{Is, closed_by}
use Rattle.zp_step.specs.Stages.{Core, Stage, Unconnected, Connecting, Ready, KeepingAlive, Checking, Reading, Committing, Waiting, Shut, asked_of, is_shut, new_core}
use Rattle.zp_step.specs.Steps.{Handles, MayTake, Steps}
use Rattle.zp_step.specs.declared.action.Action.{Action}
use Rattle.zp_step.specs.declared.input.Input.{Input}
use Rattle.zp_step.specs.declared.input.Input.TheVariants as input
use Rattle.zp_step.proofs.Shutting.{steps-open}
use Rattle.zp_step.proofs.Ending.{steps_end_well}
use Rattle.zp_step.specs.Ending.{asked_by, takes_out, sends}
use Rattle.zp_run.proofs.Running.{runs-on}
use Rattle.zp_run.specs.Notes.{In, Noted, Out, noted_input, notes_in, notes_of, with_note, with_notes}
use Rattle.zp_run.specs.Runs.{Step, answer_in, answers_of, asks_of, closed_for, entry_in, frame_in, frames_of, said}
use Rattle.zp_conn.proofs.After.{rest_is_out}
use Rattle.zp_conn.proofs.Answering.{Row, step-answers}
use Rattle.zp_conn.proofs.Turning.{filter_map-push}
use Rattle.zp_conn.specs.After.{IsOutAfter}
use Rattle.zp_conn.specs.Answered.{HasAnswered}
use Rattle.zp_conn.specs.Handing.{IsSpoken}
use Rattle.zp_conn.specs.Inboxes.{Holds, InboxState}
use Rattle.zp_conn.specs.Driving.{Drives, IsTimely}
use Rattle.zp_conn.specs.Serving.{Told, outcomes_of}
use Rattle.zp_conn.specs.Speaking.{IsRest, joined}
use Rattle.zp_conn.specs.Turning.{IsHeldFor, IsUnheard, Stood, answers_in, asked_after, closings_in, lags_in, listed}
use Rattle.zp_conn.specs.declared.inputs.Next.TheVariants as next
use Rattle.zp_conn.specs.declared.speaking.Rest.{Rest}
use Rattle.zp_conn.specs.declared.speaking.Rest.TheVariants as rest
use Rattle.zx_base.proofs.Options.{none_some}
use Rattle.zx_base.specs.declared.memory.Memory.{Memory}

-- ---- lists that grow by a step

pub flat_map-push : {X Y : Type 0} (h : X → List Y) (xs : List X) (x : X) → flat_map h (xs ++ x ∷ []) ≡ flat_map h xs ++ h x
flat_map-push h xs x = flat_map-append h xs (x ∷ []) ∙ ap (λ l. flat_map h xs ++ l) (append-nil (h x))

pub joined-both : (ps qs : List (List ℕ)) → joined (ps ++ qs) ≡ joined ps ++ joined qs
joined-both ps qs = flat_map-append (λ (p : List ℕ). p) ps qs

pub joined-step : (ss : List Step) (s : Step) → joined (said (ss ++ s ∷ [])) ≡ joined (said ss) ++ joined (sends s.out)
joined-step ss s = ap joined (flat_map-push (λ (t : Step). sends t.out) ss s) ∙ joined-both (said ss) (sends s.out)

pub notes-both : (n : Option (List Noted)) (xs ys : List Noted) → with_notes (with_notes n xs) ys ≡ with_notes n (xs ++ ys)
notes-both None xs ys = refl
notes-both (Some ns) xs ys = ap Some (append_assoc ns xs ys)

pub note-notes : (n : Option (List Noted)) (m : Noted) → with_note n m ≡ with_notes n (m ∷ [])
note-notes None m = refl
note-notes (Some ns) m = refl

-- a note, and then more of them
pub notes-on : (n n' n'' n0 : Option (List Noted)) (xs : List Noted) (m : Noted) (ms : List Noted) → n ≡ with_notes n0 xs → n' ≡ with_note n m → n'' ≡ with_notes n' ms → n'' ≡ with_notes n0 (xs ++ m ∷ ms)
notes-on n n' n'' n0 xs m ms e f g = g ∙ ap (λ k. with_notes k ms) (f ∙ note-notes n m) ∙ notes-both n (m ∷ []) ms ∙ ap (λ k. with_notes k (m ∷ ms)) e ∙ notes-both n0 xs (m ∷ ms)

-- what was written, and what is held then with more after it
pub held-more : (written o o' all more : List ℕ) → written ++ o ≡ all → o' ≡ o ++ more → written ++ o' ≡ all ++ more
held-more written o o' all more e h = ap (λ l. written ++ l) h ∙ sym (append_assoc written o more) ∙ ap (λ l. l ++ more) e

-- ---- what ends the client's stream closes the connection

pub closes-at : (c c' : Core) (x : Input) (why : Cause) (now : ℕ) (out : List Action) → is_shut c.stage ≡ false → Steps c x now c' out → ((mid : Core) (first : List Action) → Handles c x now mid first → Is (closed_by c why) mid first) → closed_for out ≡ Some why
closes-at c c' x why now out opened h is = (let o = steps-open c c' x now out opened h in let i = is o.mid o.first o.handled in ap closed_for (o.joined ∙ ap (λ l. l ++ o.later) i.1))

held-on : (c c' : Core) (x : Input) (now : ℕ) (out : List Action) (frames : List (List ℕ)) (read : List ℕ) (i : InboxState) → is_shut c.stage ≡ false → Steps c x now c' out → closed_for out ≡ None → IsHeldFor (next.Input x) frames read i → Holds read (frames ++ listed (frame_in x)) i
held-on c c' (input.Frame b) now out frames read i opened h unshut h0 = h0
held-on c c' (input.Answer a) now out frames read i opened h unshut h0 = subst (λ l. Holds read l i) (sym (append-nil frames)) h0
held-on c c' input.Failed now out frames read i opened h unshut h0 = subst (λ l. Holds read l i) (sym (append-nil frames)) h0
held-on c c' (input.Entry e) now out frames read i opened h unshut h0 = subst (λ l. Holds read l i) (sym (append-nil frames)) h0
held-on c c' (input.Lagged was floor) now out frames read i opened h unshut h0 = subst (λ l. Holds read l i) (sym (append-nil frames)) h0
held-on c c' input.FeedClosed now out frames read i opened h unshut h0 = subst (λ l. Holds read l i) (sym (append-nil frames)) h0
held-on c c' (input.ClientEnd p) now out frames read i opened h unshut h0 = subst (λ l. Holds read l i) (sym (append-nil frames)) h0.0
held-on c c' (input.BadLength p n) now out frames read i opened h unshut h0 = absurd (none_some (sym unshut ∙ closes-at c c' (input.BadLength p n) (cause.BadLength p n) now out opened h (λ mid first k. k)))

-- ---- what is out

none-asked : (w w' : Who) (s : Stage) → asked_of w s ≡ None → asked_of w' s ≡ None
none-asked w w' (Unconnected f) h = refl
none-asked w w' (Connecting k) h = h
none-asked w w' Ready h = refl
none-asked w w' (KeepingAlive f) h = absurd (none_some (sym h))
none-asked w w' (Checking f) h = absurd (none_some (sym h))
none-asked w w' (Reading xid r v ws) h = absurd (none_some (sym h))
none-asked w w' (Committing xid r v p t) h = absurd (none_some (sym h))
none-asked w w' (Waiting p) h = refl
none-asked w w' Shut h = refl

opened-after : (c c' : Core) (x : Input) (out : List Action) (r : Rest) → IsRest out r → closed_for out ≡ None → IsOutAfter r c c' x → is_shut c'.stage ≡ false
opened-after c c' x out rest.Nothing i e o = o.0
opened-after c c' x out (rest.Ask q) i e o = o.0
opened-after c c' x out (rest.Close why) i e o = absurd (none_some (sym e ∙ i.1))

out-after : (c c' : Core) (x : Input) (out : List Action) (r : Rest) → IsRest out r → closed_for out ≡ None → IsOutAfter r c c' x → (takes_out x ≡ true) ⊎ (asked_of c.who c.stage ≡ None) → asked_of c'.who c'.stage ≡ asked_after r
out-after c c' x out rest.Nothing i e o u = go o.1 u
  where
    go : (asked_of c'.who c'.stage ≡ None) ⊎ ((takes_out x ≡ false) × (c'.stage ≡ c.stage)) → (takes_out x ≡ true) ⊎ (asked_of c.who c.stage ≡ None) → asked_of c'.who c'.stage ≡ None
    go (inl same) v = same
    go (inr s) (inl t) = (let n : false ≡ true = sym s.0 ∙ t in absurd (cc))
    go (inr s) (inr none) = subst (λ g. asked_of c'.who g ≡ None) (sym s.1) (none-asked c.who c'.who c.stage none)
out-after c c' x out (rest.Ask q) i e o u = o.1
out-after c c' x out (rest.Close why) i e o u = absurd (none_some (sym e ∙ i.1))

asked-rest : (out : List Action) (r : Rest) → IsRest out r → asked_by out ≡ asked_after r
asked-rest out rest.Nothing i = i.0
asked-rest out (rest.Ask q) i = i.0
asked-rest out (rest.Close why) i = i.0

-- ---- how often the feed lagged

lags-after : (c c' : Core) (x : Input) (now : ℕ) (out : List Action) (a b : ℕ) → is_shut c.stage ≡ false → Steps c x now c' out → closed_for out ≡ None → b ≡ a + lags_in (next.Input x) → b ≡ a + lags_in next.Idle
lags-after c c' (input.Lagged was floor) now out a b opened h unshut e = absurd (none_some (sym unshut ∙ closes-at c c' (input.Lagged was floor) (cause.Lagged was floor) now out opened h (λ mid first k. k)))
lags-after c c' (input.Frame x) now out a b opened h unshut e = e
lags-after c c' (input.Answer x) now out a b opened h unshut e = e
lags-after c c' input.Failed now out a b opened h unshut e = e
lags-after c c' (input.Entry x) now out a b opened h unshut e = e
lags-after c c' input.FeedClosed now out a b opened h unshut e = e
lags-after c c' (input.ClientEnd p) now out a b opened h unshut e = e
lags-after c c' (input.BadLength p n) now out a b opened h unshut e = e

closings-after : (c c' : Core) (x : Input) (now : ℕ) (out : List Action) (a b : ℕ) → is_shut c.stage ≡ false → Steps c x now c' out → closed_for out ≡ None → b ≡ a + closings_in (next.Input x) → b ≡ a + closings_in next.Idle
closings-after c c' input.FeedClosed now out a b opened h unshut e = absurd (none_some (sym unshut ∙ closes-at c c' input.FeedClosed cause.FeedClosed now out opened h (λ mid first k. k)))
closings-after c c' (input.Lagged was floor) now out a b opened h unshut e = e
closings-after c c' (input.Frame x) now out a b opened h unshut e = e
closings-after c c' (input.Answer x) now out a b opened h unshut e = e
closings-after c c' input.Failed now out a b opened h unshut e = e
closings-after c c' (input.Entry x) now out a b opened h unshut e = e
closings-after c c' (input.ClientEnd p) now out a b opened h unshut e = e
closings-after c c' (input.BadLength p n) now out a b opened h unshut e = e

-- ---- what came of the calls

-- an input is there, so no call ran out of memory
all-handed : (x : Input) (unheard : List (Option (Option Answer))) → IsUnheard (next.Input x) unheard → unheard ≡ []
all-handed x unheard (inl none) = none
all-handed x unheard (inr (is, one)) = absurd (cc)

pub handed-outcomes : (found : List (Option (Option Answer))) (answers : List (Option Answer)) (x : Input) (unheard : List (Option (Option Answer))) → found ≡ map Some (answers ++ answers_in (next.Input x)) ++ unheard → IsUnheard (next.Input x) unheard → found ≡ map Some (answers ++ answers_in (next.Input x)) ++ []
handed-outcomes found answers x unheard e none = e ∙ ap (λ l. map Some (answers ++ answers_in (next.Input x)) ++ l) (all-handed x unheard none)

pub stepped-outcomes : (steps : List Step) (step : Step) (found : List (Option (Option Answer))) (unheard : List (Option (Option Answer))) → found ≡ map Some (answers_of steps ++ answers_in (next.Input step.input)) ++ unheard → IsUnheard (next.Input step.input) unheard → found ≡ map Some (answers_of (steps ++ step ∷ [])) ++ []
stepped-outcomes steps step found unheard e none = handed-outcomes found (answers_of steps) step.input unheard e none ∙ ap (λ l. map Some l ++ []) (sym (filter_map-push (λ (t : Step). answer_in t.input) steps step))

-- ---- inputs come in time

pub drives-push : (c c' c'' : Core) (ss : List Step) (s : Step) → Drives c ss c' → IsTimely c' s.input → MayTake c' s.input → Steps c' s.input s.time c'' s.out → Drives c (ss ++ s ∷ []) c''
drives-push c c' c'' [] s e t m h = (c'', subst (λ d. IsTimely d s.input) e t, subst (λ d. MayTake d s.input) e m, subst (λ d. Steps d s.input s.time c'' s.out) e h, refl)
drives-push c c' c'' (x ∷ xs) s (mid, t, m, h, more) t' m' h' = (mid, t, m, h, drives-push mid c' c'' xs s more t' m' h')

-- ---- what is answered

pub said-push : (ss : List Step) (s : Step) → said (ss ++ s ∷ []) ≡ said ss ++ sends s.out
said-push ss s = flat_map-push (λ (t : Step). sends t.out) ss s

pub step-row : (fresh : Fresh) (old new : Told) (core core' : Core) (i : InboxState) (x : Input) (now : ℕ) (o o' : List ℕ) (n : Option (List Noted)) (r : Result Rest Memory) → (s : Stood fresh old new core i o None (next.Input x)) → (p : IsSpoken r x now core core' o o' (with_note new.notes (In (noted_input x) now)) n)
    → Row (frames_of (s.steps ++ record { input = x; time = now; out = p.out } ∷ [])) (said s.steps) core' p.out
step-row fresh old new core core' i x now o o' n r s p =
    subst (λ l. Row l (said s.steps) core' p.out) (sym (filter_map-push (λ (t : Step). frame_in t.input) s.steps (record { input = x; time = now; out = p.out })))
    (step-answers (frames_of s.steps) (said s.steps) core core' x now p.out s.opened s.rested s.in_time s.may s.answering p.stepped)

-- ---- the loop goes on

module _ (fresh : Fresh) (old new : Told) (core core' : Core) (i : InboxState) (x : Input) (now : ℕ) (o o' : List ℕ) (n : Option (List Noted)) (r : Rest) where
  abbrev Spoken : Type 0
  Spoken = IsSpoken (Ok r) x now core core' o o' (with_note new.notes (In (noted_input x) now)) n

  pub spoken-on : Stood fresh old new core i o None (next.Input x) → (p : Spoken) → closed_for p.out ≡ None → Stood fresh old (record new { notes = n }) core' i o' (asked_after r) next.Idle
  spoken-on s p unshut = record {
    steps = s.steps ++ step ∷ [];
    ran = (runs-on fresh s.steps step core core' s.opened s.ran s.may p.stepped).ran;
    timely = drives-push (new_core fresh) core core' s.steps step s.timely s.in_time s.may p.stepped;
    holds = p.holds;
    rested = row.rested;
    answering = subst (HasAnswered core'.stage (frames_of (s.steps ++ step ∷ []))) (sym (said-push s.steps step)) row.stands;
    opened = opened-after core core' x p.out r rested unshut after;
    out = out-after core core' x p.out r rested unshut after (s.out).1;
    may = tt;
    in_time = tt;
    read = s.read;
    gives = s.gives;
    held = subst (λ l. Holds s.read l i) (sym (filter_map-push (λ (t : Step). frame_in t.input) s.steps step)) (held-on core core' x now p.out (frames_of s.steps) s.read i s.opened p.stepped unshut s.held);
    calls = s.calls;
    called = s.called;
    asks = ap (λ l. l ++ listed (asked_after r)) (sym (append-nil _) ∙ s.asks) ∙ ap (λ q. asks_of s.steps ++ listed q) (sym (asked-rest p.out r rested)) ∙ sym (filter_map-push (λ (t : Step). asked_by t.out) s.steps step);
    unheard = [];
    outcomes = stepped-outcomes s.steps step (outcomes_of s.calls) s.unheard s.outcomes s.wanting ∙ ap (λ l. map Some l ++ []) (sym (append-nil _));
    wanting = inl refl;
    entries = λ e c. s.entries e (subst (λ l. Contains l e) (append-nil _ ∙ filter_map-push (λ (t : Step). entry_in t.input) s.steps step) c);
    looked = subst (λ l. (l ≡ []) ⊎ (0 < (new.feed).reads)) (sym (append-nil _ ∙ filter_map-push (λ (t : Step). entry_in t.input) s.steps step)) s.looked;
    written = s.written;
    takes = s.takes;
    says = held-more s.written o o' (joined (said s.steps)) (joined (sends p.out)) s.says (p.speaks).0.holds ∙ sym (joined-step s.steps step);
    noted = notes-on new.notes _ n old.notes (notes_of s.steps) (In (noted_input x) now) (map Out (sends p.out)) s.noted refl (p.speaks).0.notes ∙ ap (with_notes old.notes) (sym (flat_map-push notes_in s.steps step));
    grown = record { source = (s.grown).source; sink = (s.grown).sink; link = (s.grown).link };
    lags = lags-after core core' x now p.out (old.feed).lags (new.feed).lags s.opened p.stepped unshut s.lags;
    closings = closings-after core core' x now p.out (old.feed).closings (new.feed).closings s.opened p.stepped unshut s.closings;
    shown = tt;
  }
    where
      step : Step
      step = record { input = x; time = now; out = p.out }

      row : Row (frames_of (s.steps ++ step ∷ [])) (said s.steps) core' p.out
      row = step-row fresh old new core core' i x now o o' n (Ok r) s p

      rested : IsRest p.out r
      rested = (p.speaks).1

      after : IsOutAfter r core core' x
      after = rest_is_out core core' x p.out r (steps_end_well core core' x now p.out s.opened p.stepped) rested
