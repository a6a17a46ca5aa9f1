-- What the driver hands in may be handed in.
use Rattle.std.proofs.Common.{◌≡◌, ℤ, pos, List, [], ◌∷◌, Bool, true, false, refl, sym, ap, ◌∙◌, subst, inl, inr}
use Rattle.std.specs.Prelude.{◌⊎◌, Option, Some, None, ◌+ℤ◌, ◌<ℤ◌, if◌then◌else◌}
use Rattle.ev_call.specs.Fitting.{AreCounts, CanCome, Fits, PartsFit, PartFits}
use Rattle.ev_types.specs.declared.answer.ActAns.{ActAns}
use Rattle.ev_types.specs.declared.answer.ActAns.TheVariants as part
use Rattle.ev_types.specs.declared.answer.Answer.{Answer}
use Rattle.ev_types.specs.declared.answer.Answer.TheVariants as answer
use Rattle.ev_types.specs.declared.answer.Kv.{Kv}
use Rattle.ev_types.specs.declared.ask.Act.{Act}
use Rattle.ev_types.specs.declared.ask.Act.TheVariants as act
use Rattle.ev_types.specs.declared.ask.Ask.{Ask}
use Rattle.ev_types.specs.declared.ask.Ask.TheVariants as ask
use Rattle.ev_types.specs.declared.ask.Guard.{Guard}
use Rattle.ev_types.specs.Store.{chosen}
use Rattle.std.proofs.lemmas.List.Elements.{All-cons, All-nil}
use Rattle.zk_model.specs.Watches.{is_unarmed}
use Rattle.zn_view.specs.Adding.{AreNumbers, AreNumbersIn}
use Rattle.zn_view.specs.Seen as seen
use Rattle.zs_session.specs.Answering.{ArePartsOf, IsAnswerTo, IsAwaited, IsPartOf, MaySucceed}
use Rattle.zp_step.specs.Stages.{Core, Stage, Unconnected, Connecting, Ready, KeepingAlive, Checking, Reading, Committing, Waiting, Shut, asked_of, wanted_in, wants_of}
use Rattle.zp_step.specs.Steps.{awaits_entry}
use Rattle.zp_step.specs.declared.input.Input.TheVariants as input
use Rattle.zp_step.specs.declared.wants.Wants.{Wants}
use Rattle.zp_step.specs.declared.wants.Wants.TheVariants as wants
use Rattle.zp_conn.specs.Driving.{awaits_frame}
use Rattle.zp_conn.specs.Inboxes.{InboxState, IsEndedAfter, IsQuiet, ReadsOn, faults_after}
use Rattle.zp_conn.specs.declared.inbox.Came.{Came}
use Rattle.zp_conn.specs.declared.inbox.Came.TheVariants as came
use Rattle.zp_conn.specs.Serving.{FeedTold, LinkTold, SourceTold}
use Rattle.zp_conn.specs.Turning.{Asks, Closes, Feeds, Fetches, Looks, calls, closes, come_by, feeds, looks}
use Rattle.zp_conn.specs.Inputs.{IsAllowed, IsAnswered, IsFedIn, IsInTime}
use Rattle.zp_conn.specs.declared.inputs.Next.{Next}
use Rattle.zp_conn.specs.declared.inputs.Next.TheVariants as next
use Rattle.zx_base.proofs.Options.{none_some}

pub lag_above : (cursor floor least was : ℤ) → cursor <ℤ floor → was ≡ cursor → least ≡ floor → (was ≡ cursor) × (was <ℤ least)
lag_above cursor floor least was h e f = (e, subst (λ x. x <ℤ least) (sym e) (subst (λ x. cursor <ℤ x) (sym f) h))

-- ---- an answer that fits is one that is awaited

kv-counts : (kv : Kv) → AreCounts kv → seen.AreCounts kv
kv-counts kv h = record { revision = record { least = (h.revision).least; most = (h.revision).most }; version = record { least = (h.version).least; most = (h.version).most } }

part-numbers : (a : Act) (p : ActAns) → PartFits a p → AreNumbersIn p
part-numbers (act.Put k v lease) part.Put h = All-nil seen.AreCounts
part-numbers (act.Delete k) (part.Deleted n) h = All-nil seen.AreCounts
part-numbers (act.Range q) (part.Range found) h = λ k d below. kv-counts _ (h k d below)
part-numbers (act.Put k v lease) (part.Deleted n) h = absurd h
part-numbers (act.Put k v lease) (part.Range found) h = absurd h
part-numbers (act.Delete k) part.Put h = absurd h
part-numbers (act.Delete k) (part.Range found) h = absurd h
part-numbers (act.Range q) part.Put h = absurd h
part-numbers (act.Range q) (part.Deleted n) h = absurd h

parts-numbers : (acts : List Act) (parts : List ActAns) → PartsFit acts parts → AreNumbers parts
parts-numbers [] [] h = All-nil AreNumbersIn
parts-numbers [] (p ∷ ps) h = absurd h
parts-numbers (a ∷ acts) [] h = absurd h
parts-numbers (a ∷ acts) (p ∷ ps) h = All-cons AreNumbersIn p ps (part-numbers a p h.0) (parts-numbers acts ps h.1)

part-each : (a : Act) (p : ActAns) → PartFits a p → IsPartOf a p
part-each (act.Put k v lease) part.Put h = tt
part-each (act.Delete k) (part.Deleted n) h = tt
part-each (act.Range q) (part.Range found) h = tt
part-each (act.Put k v lease) (part.Deleted n) h = absurd h
part-each (act.Put k v lease) (part.Range found) h = absurd h
part-each (act.Delete k) part.Put h = absurd h
part-each (act.Delete k) (part.Range found) h = absurd h
part-each (act.Range q) part.Put h = absurd h
part-each (act.Range q) (part.Deleted n) h = absurd h

parts-each : (acts : List Act) (parts : List ActAns) → PartsFit acts parts → ArePartsOf acts parts
parts-each [] [] h = tt
parts-each [] (p ∷ ps) h = absurd h
parts-each (a ∷ acts) [] h = absurd h
parts-each (a ∷ acts) (p ∷ ps) h = (part-each a p h.0, parts-each acts ps h.1)

may-succeed : (guards : List Guard) (b : Bool) → CanCome guards b → MaySucceed guards b
may-succeed [] b h = h
may-succeed (guard ∷ guards) b h = tt

pub fits_awaited : (q : Ask) (a : Answer) → Fits q a → IsAnswerTo q a
fits_awaited (ask.Txn t) (answer.Txn revision b parts) h = record {
  revision_is = record { least = (h.0).least; most = (h.0).most };
  numbers = parts-numbers (chosen b t) parts h.1;
  succeeds = may-succeed t.guards b h.2;
  each = parts-each (chosen b t) parts h.1;
}
fits_awaited (ask.Txn t) (answer.Range revision found) h = absurd h
fits_awaited (ask.Txn t) (answer.Granted revision id ttl) h = absurd h
fits_awaited (ask.Txn t) (answer.Alive revision id ttl) h = absurd h
fits_awaited (ask.Range q) (answer.Range revision found) h = tt
fits_awaited (ask.Range q) (answer.Txn revision b parts) h = absurd h
fits_awaited (ask.Range q) (answer.Granted revision id ttl) h = absurd h
fits_awaited (ask.Range q) (answer.Alive revision id ttl) h = absurd h
fits_awaited (ask.Grant i s) (answer.Granted revision id ttl) h = tt
fits_awaited (ask.Grant i s) (answer.Txn revision b parts) h = absurd h
fits_awaited (ask.Grant i s) (answer.Range revision found) h = absurd h
fits_awaited (ask.Grant i s) (answer.Alive revision id ttl) h = absurd h
fits_awaited (ask.Alive i) (answer.Alive revision id ttl) h = tt
fits_awaited (ask.Alive i) (answer.Txn revision b parts) h = absurd h
fits_awaited (ask.Alive i) (answer.Range revision found) h = absurd h
fits_awaited (ask.Alive i) (answer.Granted revision id ttl) h = absurd h

pub answered_allowed : (c : Core) (q : Ask) (n : Next) → asked_of c.who c.stage ≡ Some q → IsAnswered q n → IsAllowed c n
answered_allowed c q (next.Input (input.Answer a)) e h = λ opened. subst (λ o. IsAwaited o (Some a)) (sym e) (fits_awaited q a h)
answered_allowed c q (next.Input input.Failed) e h = λ opened. (λ none. none_some (sym none ∙ e))
answered_allowed c q (next.Ended why) e h = tt
answered_allowed c q next.Idle e h = absurd h
answered_allowed c q (next.Input (input.Frame b)) e h = absurd h
answered_allowed c q (next.Input (input.BadLength p l)) e h = absurd h
answered_allowed c q (next.Input (input.Entry x)) e h = absurd h
answered_allowed c q (next.Input (input.Lagged p l)) e h = absurd h
answered_allowed c q (next.Input input.FeedClosed) e h = absurd h
answered_allowed c q (next.Input (input.ClientEnd p)) e h = absurd h

-- ---- an entry is awaited where one is wanted

pub fed_allowed : (c : Core) (cursor : ℤ) (n : Next) → awaits_entry (wants_of c) ≡ true → asked_of c.who c.stage ≡ None → cursor ≡ c.cursor → IsFedIn cursor n → IsAllowed c n
fed_allowed c cursor (next.Input (input.Entry x)) a none e h = λ opened. record { awaited = a; number = h ∙ ap (λ z. z +ℤ pos 1) e }
fed_allowed c cursor (next.Input (input.Lagged was floor)) a none e h = λ opened. record { awaited = a; own = h.0 ∙ e; above = h.1 }
fed_allowed c cursor (next.Input input.FeedClosed) a none e h = λ opened. none
fed_allowed c cursor next.Idle a none e h = tt
fed_allowed c cursor (next.Ended why) a none e h = tt
fed_allowed c cursor (next.Input (input.Answer x)) a none e h = absurd h
fed_allowed c cursor (next.Input input.Failed) a none e h = absurd h
fed_allowed c cursor (next.Input (input.Frame b)) a none e h = absurd h
fed_allowed c cursor (next.Input (input.BadLength p l)) a none e h = absurd h
fed_allowed c cursor (next.Input (input.ClientEnd p)) a none e h = absurd h

-- the cursor that is wanted is the core's
abbrev CursorIs : Core → Wants → Type 0
CursorIs c (wants.Entry cursor) = cursor ≡ c.cursor
CursorIs c (wants.FrameOrEntry cursor) = cursor ≡ c.cursor
CursorIs c _ = Unit {0}

pub cursor_wanted : (c : Core) → CursorIs c (wants_of c)
cursor_wanted c = go c.stage
  where
    ready : (b : Bool) → CursorIs c (if b then wants.Frame else wants.FrameOrEntry c.cursor)
    ready true = tt
    ready false = refl

    go : (st : Stage) → CursorIs c (wanted_in c st)
    go (Unconnected fresh) = tt
    go (Connecting x) = tt
    go Ready = ready (is_unarmed c.watches)
    go (KeepingAlive f) = tt
    go (Checking f) = tt
    go (Reading xid r v ws) = tt
    go (Committing xid r v p m) = tt
    go (Waiting p) = refl
    go Shut = tt

-- ---- the client's frames come where one is wanted

in-time : (c : Core) (n : Next) → awaits_frame (wants_of c) ≡ true → IsInTime c n
in-time c (next.Input (input.Frame b)) h = h
in-time c (next.Input (input.BadLength p l)) h = h
in-time c (next.Input (input.ClientEnd p)) h = h
in-time c (next.Input (input.Answer x)) h = tt
in-time c (next.Input input.Failed) h = tt
in-time c (next.Input (input.Entry x)) h = tt
in-time c (next.Input (input.Lagged was floor)) h = tt
in-time c (next.Input input.FeedClosed) h = tt
in-time c next.Idle h = tt
in-time c (next.Ended why) h = tt

quiet-time : (c : Core) (r : Came) → IsQuiet r → IsInTime c (come_by r)
quiet-time c came.Nothing h = tt
quiet-time c came.Failed h = tt
quiet-time c came.Memory h = tt
quiet-time c (came.Frame b) h = absurd h
quiet-time c (came.BadLength p l) h = absurd h
quiet-time c (came.End p) h = absurd h

quiet-end : (r : Came) (ended : Bool) → IsQuiet r → IsEndedAfter r ended
quiet-end came.Nothing ended h = tt
quiet-end came.Failed ended h = tt
quiet-end came.Memory ended h = tt
quiet-end (came.Frame b) ended h = absurd h
quiet-end (came.BadLength p l) ended h = absurd h
quiet-end (came.End p) ended h = absurd h

-- ---- what a turn takes in

module _ (c : Core) (asked : Option Ask) (n : Next) (i : InboxState) (s : SourceTold) (l : LinkTold) where
  pub fetch_answer : (q : Ask) (l' : LinkTold) (f : FeedTold) → asked ≡ Some q → Asks q n l l' → Fetches c asked n i i s s l l' f f
  fetch_answer q l' f e a = calls q e a refl refl refl

  pub fetch_entry : (cursor : ℤ) (w : Wants) (f f' : FeedTold) → w ≡ wants_of c → w ≡ wants.Entry cursor → asked ≡ None → Feeds cursor n f f' → Fetches c asked n i i s s l l f f'
  fetch_entry cursor w f f' e h none a = (let is : wants_of c ≡ wants.Entry cursor = sym e ∙ h in feeds cursor none (ap awaits_entry is) (subst (CursorIs c) is (cursor_wanted c)) a refl refl refl)

  pub fetch_either : (cursor : ℤ) (w : Wants) (f f' : FeedTold) → w ≡ wants_of c → w ≡ wants.FrameOrEntry cursor → asked ≡ None → Feeds cursor n f f' → Fetches c asked n i i s s l l f f'
  fetch_either cursor w f f' e h none a = (let is : wants_of c ≡ wants.FrameOrEntry cursor = sym e ∙ h in feeds cursor none (ap awaits_entry is) (subst (CursorIs c) is (cursor_wanted c)) a refl refl refl)

  pub fetch_end : (w : Wants) (i' : InboxState) (s' : SourceTold) (r : Came) (m : Next) (f f' : FeedTold) → w ≡ wants_of c → w ≡ wants.Frame → asked ≡ None → m ≡ come_by r → m ≡ next.Idle → ReadsOn r i i' s.given s'.given s.left s'.left → s'.faults ≡ faults_after r s.faults → IsEndedAfter r s'.ended → Closes n f f' → Fetches c asked n i i' s s' l l f f'
  fetch_end w i' s' r m f f' e h none is idle on faults ended a = closes none (sym e ∙ h) (record { came = r; gives = sym idle ∙ is; reads = on; faults = faults; ended = ended }) a refl

  module _ (i' : InboxState) (s' : SourceTold) (r : Came) (is : n ≡ come_by r) (on : ReadsOn r i i' s.given s'.given s.left s'.left) (faults : s'.faults ≡ faults_after r s.faults) (none : asked ≡ None) where
    look : IsEndedAfter r s'.ended → Looks n i i' s s'
    look ended = record { came = r; gives = is; reads = on; faults = faults; ended = ended }

    quiet : IsQuiet r → IsInTime c n
    quiet h = subst (IsInTime c) (sym is) (quiet-time c r h)

    pub fetch_frame : (w : Wants) (f : FeedTold) → w ≡ wants_of c → w ≡ wants.Frame → IsEndedAfter r s'.ended → Fetches c asked n i i' s s' l l f f
    fetch_frame w f e h ended = looks none (inl (ap awaits_entry (sym e ∙ h), refl)) (look ended) (in-time c n (ap awaits_frame (sym e ∙ h))) refl

    pub fetch_after : (cursor : ℤ) (w : Wants) (f f' : FeedTold) → w ≡ wants_of c → w ≡ wants.FrameOrEntry cursor → Feeds cursor next.Idle f f' → IsEndedAfter r s'.ended → Fetches c asked n i i' s s' l l f f'
    fetch_after cursor w f f' e h a ended = (let so : wants_of c ≡ wants.FrameOrEntry cursor = sym e ∙ h in looks none (inr (cursor, ap awaits_entry so, subst (CursorIs c) so (cursor_wanted c), a)) (look ended) (in-time c n (ap awaits_frame so)) refl)

    pub fetch_ahead : (cursor : ℤ) (w : Wants) (f f' : FeedTold) → w ≡ wants_of c → w ≡ wants.Entry cursor → Feeds cursor next.Idle f f' → IsQuiet r → Fetches c asked n i i' s s' l l f f'
    fetch_ahead cursor w f f' e h a q = (let so : wants_of c ≡ wants.Entry cursor = sym e ∙ h in looks none (inr (cursor, ap awaits_entry so, subst (CursorIs c) so (cursor_wanted c), a)) (look (quiet-end r s'.ended q)) (quiet q) refl)

    unawaited : (w : Wants) → w ≡ wants_of c → (w ≡ wants.Answer) ⊎ (w ≡ wants.Nothing) → awaits_entry (wants_of c) ≡ false
    unawaited w e (inl h) = ap awaits_entry (sym e ∙ h)
    unawaited w e (inr h) = ap awaits_entry (sym e ∙ h)

    pub fetch_quiet : (w : Wants) (f : FeedTold) → w ≡ wants_of c → (w ≡ wants.Answer) ⊎ (w ≡ wants.Nothing) → IsQuiet r → Fetches c asked n i i' s s' l l f f
    fetch_quiet w f e h q = looks none (inl (unawaited w e h, refl)) (look (quiet-end r s'.ended q)) (quiet q) refl
