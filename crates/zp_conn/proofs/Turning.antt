-- A turn of the loop, up to its input.
use Rattle.std.proofs.Common.{◌≡◌, ℕ, length, take, ◌+◌, ◌<◌, ◌≤◌, ℤ, pos, List, [], ◌∷◌, ◌++◌, true, false, refl, sym, ap, ◌∙◌, subst, inl, inr, append-nil, append_assoc, map, arith}
use Rattle.std.specs.Prelude.{◌⊎◌, ◌+ℤ◌, ◌<ℤ◌, Option, Some, None, Result, Ok, Err, IfOk, All, Contains, filter_map, slice_get}
use Rattle.std.specs.Arc.{arc_value}
use Rattle.std.proofs.lemmas.List.{map-append}
use Rattle.std.proofs.lemmas.Option.{slice_get_within}
use Rattle.zx_base.proofs.Lists.{slice_get-take}
use Rattle.std.proofs.lemmas.List.Elements.{All-cons, All-nil, Contains-append_cases, Contains-append_left, Contains-push_cases, filter_map-append}
use Rattle.ev_types.specs.declared.answer.Answer.{Answer}
use Rattle.ev_types.specs.declared.ask.Ask.{Ask}
use Rattle.ev_call.specs.Calls.{Call, failures_after, with_call}
use Rattle.ev_call.specs.Fitting.{Fits}
use Rattle.ev_call.specs.declared.etcd.CallFault.{CallFault}
use Rattle.ev_call.specs.declared.etcd.CallFault.TheVariants as fault
use Rattle.zk_jute.specs.Frames.{IsFrame}
use Rattle.zk_jute.specs.JuteValues.{Spelled}
use Rattle.zk_model.specs.Limits.{max_frame}
use Rattle.zk_service.specs.declared.cause.Cause.{Cause}
use Rattle.zk_service.specs.declared.cause.Cause.TheVariants as cause
use Rattle.zn_layout.specs.declared.entry.Entry.{Entry}
use Rattle.zk_service.specs.declared.fresh.Fresh.{Fresh}
use Rattle.zw_hub.specs.Feeds.{IsFed, IsOneRead, if_closed, if_lagged}
use Rattle.zw_hub.specs.Lists.{Extends, IsAt}
use Rattle.zw_hub.specs.declared.feed.Fed.{Fed}
use Rattle.zw_hub.specs.declared.feed.Fed.TheVariants as fed
use Rattle.zw_hub.specs.declared.published.Published.{Published}
use Rattle.zx_outside.specs.Counts.{one_more}
use Rattle.zx_outside.proofs.Streams.{Gives-append}
use Rattle.zp_step.specs.Stages.{Core, asked_of, wants_of}
use Rattle.zp_step.specs.Steps.{awaits_entry}
use Rattle.zp_run.specs.Runs.{answers_of, entries_of, frames_of}
use Rattle.zp_conn.specs.Inboxes.{faults_after, Comes, Holds, InboxState, IsEndedAfter}
use Rattle.zp_conn.specs.Inputs.{IsAllowed, IsAnswered, IsFedIn, IsInTime}
use Rattle.zp_conn.specs.Serving.{AreFirstFrames, FeedTold, LinkTold, Rose, SourceTold, Told, is_after_frames, outcome_of, outcomes_of, with_calls}
use Rattle.zp_conn.specs.Turning.{Asks, Closes, Feeds, Fetches, calls, closes, feeds, looks, IsHeldFor, IsOutFor, IsShownBy, IsUnheard, Looks, Stood, answered_by, answers_in, closing_by, closings_in, come_by, entries_in, fed_by, lags_in, listed}
use Rattle.zp_conn.specs.declared.inbox.Came.{Came}
use Rattle.zp_conn.specs.declared.inbox.Came.TheVariants as came
use Rattle.zp_conn.specs.declared.inputs.Next.{Next}
use Rattle.zp_conn.specs.declared.inputs.Next.TheVariants as next
use Rattle.zp_conn.proofs.Allowed.{answered_allowed, fed_allowed}

-- ---- counts

pub more-most : (a : ℕ) → a ≤ one_more a
more-most a = omega arith

pub rose : (old mid new : ℕ) → old ≤ mid → new ≡ one_more mid → Rose old new
rose old mid new h e = grind arith

failed-more : (r : Result Answer CallFault) (a : ℕ) → a ≤ failures_after r a
failed-more (Ok a) n = omega arith
failed-more (Err fault.Failed) n = more-most n
failed-more (Err fault.Memory) n = omega arith

faults-more : (r : Came) (a : ℕ) → a ≤ faults_after r a
faults-more came.Failed n = more-most n
faults-more (came.Frame b) n = omega arith
faults-more (came.BadLength p l) n = omega arith
faults-more (came.End p) n = omega arith
faults-more came.Nothing n = omega arith
faults-more came.Memory n = omega arith

up : (a b c : ℕ) → a ≤ b → b ≤ c → a ≤ c
up a b c h k = omega (arith, h, k)

-- ---- the inbox at the ends

pub held-front : (why : Cause) (frames : List (List ℕ)) (read : List ℕ) (i : InboxState) → Holds read frames i → is_after_frames why ≡ false → AreFirstFrames why read frames
held-front why frames read i h b = record {
  front = read;
  is_front = ([], append-nil read);
  fully = inl refl;
  all = frames ++ i.frames;
  rest = (h.stands).rest;
  framed = (h.stands).framed;
  first = (i.frames, refl);
  whole = λ e. (let n : false ≡ true = sym b ∙ e in absurd (cc));
}

-- ---- the link

calls-push : (told : Option (List Call)) (cs : List Call) (q : Ask) (r : Result Answer CallFault) → with_call (with_calls told cs) q r ≡ with_calls told (cs ++ record { ask = q; result = r } ∷ [])
calls-push None cs q r = refl
calls-push (Some all) cs q r = ap Some (append_assoc all cs _)

-- what came of a call, where nothing is to be handed in
abbrev unheard_of : Result Answer CallFault → List (Option (Option Answer))
unheard_of (Ok a) = []
unheard_of (Err fault.Failed) = []
unheard_of (Err fault.Memory) = None ∷ []

outcome-next : (r : Result Answer CallFault) → outcome_of r ∷ [] ≡ map Some (answers_in (answered_by r)) ++ unheard_of r
outcome-next (Ok a) = refl
outcome-next (Err fault.Failed) = refl
outcome-next (Err fault.Memory) = refl

unheard-next : (r : Result Answer CallFault) → IsUnheard (answered_by r) (unheard_of r)
unheard-next (Ok a) = inl refl
unheard-next (Err fault.Failed) = inl refl
unheard-next (Err fault.Memory) = inr (refl, refl)

pub all-heard : (unheard : List (Option (Option Answer))) → IsUnheard next.Idle unheard → unheard ≡ []
all-heard unheard (inl none) = none
all-heard unheard (inr (is, one)) = absurd (cc)

-- where no call ran out of memory, and the next input is no answer
same-outcomes : (found : List (Option (Option Answer))) (answers more : List (Option Answer)) (unheard : List (Option (Option Answer))) → found ≡ map Some (answers ++ []) ++ unheard → IsUnheard next.Idle unheard → more ≡ [] → found ≡ map Some (answers ++ more) ++ []
same-outcomes found answers more unheard e none m = e ∙ ap (λ l. map Some (answers ++ []) ++ l) (all-heard unheard none) ∙ ap (λ l. map Some (answers ++ l) ++ []) (sym m)

-- one call more
next-outcomes : (found : List (Option (Option Answer))) (answers : List (Option Answer)) (unheard : List (Option (Option Answer))) (r : Result Answer CallFault) → found ≡ map Some (answers ++ []) ++ unheard → IsUnheard next.Idle unheard → found ++ outcome_of r ∷ [] ≡ map Some (answers ++ answers_in (answered_by r)) ++ unheard_of r
next-outcomes found answers unheard r e none =
    ap (λ l. l ++ outcome_of r ∷ []) (e ∙ ap (λ l. map Some (answers ++ []) ++ l) (all-heard unheard none) ∙ append-nil _ ∙ ap (map Some) (append-nil answers))
    ∙ ap (λ l. map Some answers ++ l) (outcome-next r) ∙ sym (append_assoc (map Some answers) (map Some (answers_in (answered_by r))) (unheard_of r)) ∙ ap (λ l. l ++ unheard_of r) (sym (map-append Some answers (answers_in (answered_by r))))

filter_map-one : {X Y : Type 0} (h : X → Option Y) (x : X) → filter_map h (x ∷ []) ≡ listed (h x)
filter_map-one h x = go (h x) refl
  where
    go : (o : Option _) → h x ≡ o → filter_map h (x ∷ []) ≡ listed (h x)
    go None e = subst (λ p. p) (sym (ap (λ q. filter_map h (x ∷ []) ≡ listed q) e)) (grind (arith, e))
    go (Some y) e = grind (arith, e)

pub filter_map-push : {X Y : Type 0} (h : X → Option Y) (xs : List X) (x : X) → filter_map h (xs ++ x ∷ []) ≡ filter_map h xs ++ listed (h x)
filter_map-push h xs x = filter_map-append h xs (x ∷ []) ∙ ap (λ l. filter_map h xs ++ l) (filter_map-one h x)

no-entry : (r : Result Answer CallFault) → entries_in (answered_by r) ≡ []
no-entry (Ok a) = refl
no-entry (Err fault.Failed) = refl
no-entry (Err fault.Memory) = refl

link-out : (r : Result Answer CallFault) (core : Core) → IsOutFor (answered_by r) core None
link-out (Ok a) core = (refl, inl refl)
link-out (Err fault.Failed) core = (refl, inl refl)
link-out (Err fault.Memory) core = refl

link-held : (r : Result Answer CallFault) (frames : List (List ℕ)) (read : List ℕ) (i : InboxState) → Holds read frames i → IsHeldFor (answered_by r) frames read i
link-held (Ok a) frames read i h = h
link-held (Err fault.Failed) frames read i h = h
link-held (Err fault.Memory) frames read i h = held-front cause.Memory frames read i h refl

link-shown : (r : Result Answer CallFault) (old new : Told) (mid : ℕ) → (old.link).failures ≤ mid → (new.link).failures ≡ failures_after r mid → IsShownBy (answered_by r) old new
link-shown (Ok a) old new mid h e = tt
link-shown (Err fault.Failed) old new mid h e = rose (old.link).failures mid (new.link).failures h e
link-shown (Err fault.Memory) old new mid h e = tt

link-answered : (q : Ask) (r : Result Answer CallFault) → IfOk r (Fits q) → IsAnswered q (answered_by r)
link-answered q (Ok a) h = h
link-answered q (Err fault.Failed) h = tt
link-answered q (Err fault.Memory) h = tt

link-time : (r : Result Answer CallFault) (core : Core) → IsInTime core (answered_by r)
link-time (Ok a) core = tt
link-time (Err fault.Failed) core = tt
link-time (Err fault.Memory) core = tt

link-lags : (r : Result Answer CallFault) → lags_in (answered_by r) ≡ 0
link-lags (Ok a) = refl
link-lags (Err fault.Failed) = refl
link-lags (Err fault.Memory) = refl

link-closings : (r : Result Answer CallFault) → closings_in (answered_by r) ≡ 0
link-closings (Ok a) = refl
link-closings (Err fault.Failed) = refl
link-closings (Err fault.Memory) = refl

-- ---- the feed

pub contains-none : (x : Entry) → Contains [] x → ⊥
contains-none x c = (let below = c.1 in omega (arith, below))

take-all : (xs ys : List Entry) → take (length xs) (xs ++ ys) ≡ xs
take-all [] ys = refl
take-all (x ∷ xs) ys = ap (λ l. x ∷ l) (take-all xs ys)

later-get : (xs ys : List Entry) (k : ℕ) (e : Entry) → slice_get xs k ≡ Some e → slice_get (xs ++ ys) k ≡ Some e
later-get xs ys k e h = sym (slice_get-take (xs ++ ys) (length xs) k (slice_get_within xs k e h)) ∙ ap (λ l. slice_get l k) (take-all xs ys) ∙ h

pub later-at : (later earlier : Published) (e : Entry) → Extends later earlier → IsAt earlier e.number e → IsAt later e.number e
later-at later earlier e x (k, there, number, same) = (k, subst (λ es. slice_get es k ≡ Some e) (x.entries).1 (later-get earlier.entries (x.entries).0 k e there), number ∙ ap (λ z. z +ℤ pos (k + 1)) (sym x.first), same)

no-answer : (r : Fed) → answers_in (fed_by r) ≡ []
no-answer (fed.Entry e) = refl
no-answer fed.None = refl
no-answer (fed.Lagged was floor) = refl
no-answer (fed.Closed end) = refl
no-answer fed.Memory = refl

feed-out : (r : Fed) (core : Core) → asked_of core.who core.stage ≡ None → IsOutFor (fed_by r) core None
feed-out (fed.Entry e) core h = (refl, inr h)
feed-out fed.None core h = h
feed-out (fed.Lagged was floor) core h = (refl, inr h)
feed-out (fed.Closed end) core h = (refl, inr h)
feed-out fed.Memory core h = refl

feed-fed : (cursor : ℤ) (r : Fed) (list : Published) → IsFed list cursor r → IsFedIn cursor (fed_by r)
feed-fed cursor (fed.Entry e) list h = (let at = h.1 in at.3)
feed-fed cursor fed.None list h = tt
feed-fed cursor (fed.Lagged was floor) list h = (h.1, subst (λ x. x <ℤ floor) (sym h.1) (subst (λ x. cursor <ℤ x) (sym h.2) h.0))
feed-fed cursor (fed.Closed end) list h = tt
feed-fed cursor fed.Memory list h = tt

feed-held : (r : Fed) (frames : List (List ℕ)) (read : List ℕ) (i : InboxState) → Holds read frames i → IsHeldFor (fed_by r) frames read i
feed-held (fed.Entry e) frames read i h = h
feed-held fed.None frames read i h = h
feed-held (fed.Lagged was floor) frames read i h = h
feed-held (fed.Closed end) frames read i h = h
feed-held fed.Memory frames read i h = held-front cause.Memory frames read i h refl

feed-entry : (cursor : ℤ) (r : Fed) (list : Published) → IsFed list cursor r → (x : Entry) → Contains (entries_in (fed_by r)) x → IsAt list x.number x
feed-entry cursor (fed.Entry e) list h x c = elim (Contains-push_cases [] (arc_value e) x c) [
  | inl none ↦ absurd (contains-none x none)
  | inr same ↦ (let at = h.1 in subst (λ y. IsAt list y.number y) same (subst (λ z. IsAt list z (arc_value e)) (sym at.3) at))
]
feed-entry cursor fed.None list h x c = absurd (contains-none x c)
feed-entry cursor (fed.Lagged was floor) list h x c = absurd (contains-none x c)
feed-entry cursor (fed.Closed end) list h x c = absurd (contains-none x c)
feed-entry cursor fed.Memory list h x c = absurd (contains-none x c)

feed-looked : (r : Fed) (es : List Entry) (before after : ℕ) (was list : Published) → IsOneRead r before after was list → (es ≡ []) ⊎ (0 < before) → (es ++ entries_in (fed_by r) ≡ []) ⊎ (0 < after)
feed-looked r es before after was list (inl once) h = inr (subst (λ n. 0 < n) (sym once) (omega arith))
feed-looked r es before after was list (inr (memory, same, stays)) (inl none) = inl (ap (λ q. es ++ entries_in (fed_by q)) memory ∙ append-nil es ∙ none)
feed-looked r es before after was list (inr (memory, same, stays)) (inr some) = inr (subst (λ n. 0 < n) (sym same) some)

lags-on : (a b c d k : ℕ) → b ≡ a + 0 → c ≡ b + k → d ≡ k → c ≡ a + d
lags-on a b c d k h e f = omega (arith, h, e, f)

feed-time : (r : Fed) (core : Core) → IsInTime core (fed_by r)
feed-time (fed.Entry e) core = tt
feed-time fed.None core = tt
feed-time (fed.Lagged was floor) core = tt
feed-time (fed.Closed end) core = tt
feed-time fed.Memory core = tt

feed-lags : (r : Fed) → lags_in (fed_by r) ≡ if_lagged r
feed-lags (fed.Entry e) = refl
feed-lags fed.None = refl
feed-lags (fed.Lagged was floor) = refl
feed-lags (fed.Closed end) = refl
feed-lags fed.Memory = refl

feed-closings : (r : Fed) → closings_in (fed_by r) ≡ if_closed r
feed-closings (fed.Entry e) = refl
feed-closings fed.None = refl
feed-closings (fed.Lagged was floor) = refl
feed-closings (fed.Closed end) = refl
feed-closings fed.Memory = refl

feed-shown : (cursor : ℤ) (r : Fed) (old new : Told) (lags closings : ℕ) → lags ≡ (old.feed).lags + 0 → closings ≡ (old.feed).closings + 0 → IsFed (new.feed).list cursor r → (new.feed).lags ≡ lags + if_lagged r → (new.feed).closings ≡ closings + if_closed r → IsShownBy (fed_by r) old new
feed-shown cursor (fed.Entry e) old new lags closings g j h l k = tt
feed-shown cursor fed.None old new lags closings g j h l k = tt
feed-shown cursor (fed.Lagged was floor) old new lags closings g j h l k = (lags-on (old.feed).lags lags (new.feed).lags 1 1 g l refl, (feed-fed cursor (fed.Lagged was floor) (new.feed).list h).1, h.2)
feed-shown cursor (fed.Closed end) old new lags closings g j h l k = lags-on (old.feed).closings closings (new.feed).closings 1 1 j k refl
feed-shown cursor fed.Memory old new lags closings g j h l k = tt

-- ---- the feed's end

end-out : (r : Fed) (core : Core) → asked_of core.who core.stage ≡ None → IsOutFor (closing_by r) core None
end-out (fed.Entry e) core h = h
end-out fed.None core h = h
end-out (fed.Lagged was floor) core h = h
end-out (fed.Closed end) core h = (refl, inr h)
end-out fed.Memory core h = refl

end-may : (r : Fed) (core : Core) → asked_of core.who core.stage ≡ None → IsAllowed core (closing_by r)
end-may (fed.Entry e) core h = tt
end-may fed.None core h = tt
end-may (fed.Lagged was floor) core h = tt
end-may (fed.Closed end) core h = λ opened. h
end-may fed.Memory core h = tt

end-time : (r : Fed) (core : Core) → IsInTime core (closing_by r)
end-time (fed.Entry e) core = tt
end-time fed.None core = tt
end-time (fed.Lagged was floor) core = tt
end-time (fed.Closed end) core = tt
end-time fed.Memory core = tt

end-held : (r : Fed) (frames : List (List ℕ)) (read : List ℕ) (i : InboxState) → Holds read frames i → IsHeldFor (closing_by r) frames read i
end-held (fed.Entry e) frames read i h = h
end-held fed.None frames read i h = h
end-held (fed.Lagged was floor) frames read i h = h
end-held (fed.Closed end) frames read i h = h
end-held fed.Memory frames read i h = held-front cause.Memory frames read i h refl

end-answer : (r : Fed) → answers_in (closing_by r) ≡ []
end-answer (fed.Entry e) = refl
end-answer fed.None = refl
end-answer (fed.Lagged was floor) = refl
end-answer (fed.Closed end) = refl
end-answer fed.Memory = refl

end-entry : (r : Fed) → entries_in (closing_by r) ≡ []
end-entry (fed.Entry e) = refl
end-entry fed.None = refl
end-entry (fed.Lagged was floor) = refl
end-entry (fed.Closed end) = refl
end-entry fed.Memory = refl

end-lags : (r : Fed) → lags_in (closing_by r) ≡ 0
end-lags (fed.Entry e) = refl
end-lags fed.None = refl
end-lags (fed.Lagged was floor) = refl
end-lags (fed.Closed end) = refl
end-lags fed.Memory = refl

end-closings : (r : Fed) → closings_in (closing_by r) ≡ if_closed r
end-closings (fed.Entry e) = refl
end-closings fed.None = refl
end-closings (fed.Lagged was floor) = refl
end-closings (fed.Closed end) = refl
end-closings fed.Memory = refl

end-looked : (r : Fed) (es : List Entry) (before after : ℕ) (was list : Published) → IsOneRead r before after was list → (es ≡ []) ⊎ (0 < before) → (es ≡ []) ⊎ (0 < after)
end-looked r es before after was list (inl once) h = inr (subst (λ n. 0 < n) (sym once) (omega arith))
end-looked r es before after was list (inr (memory, same, stays)) (inl none) = inl none
end-looked r es before after was list (inr (memory, same, stays)) (inr some) = inr (subst (λ n. 0 < n) (sym same) some)

end-shown : (r : Fed) (old new : Told) (closings : ℕ) → closings ≡ (old.feed).closings + 0 → (new.feed).closings ≡ closings + if_closed r → IsShownBy (closing_by r) old new
end-shown (fed.Entry e) old new closings j k = tt
end-shown fed.None old new closings j k = tt
end-shown (fed.Lagged was floor) old new closings j k = tt
end-shown (fed.Closed end) old new closings j k = lags-on (old.feed).closings closings (new.feed).closings 1 1 j k refl
end-shown fed.Memory old new closings j k = tt

-- ---- the source

look-out : (r : Came) (core : Core) → asked_of core.who core.stage ≡ None → IsOutFor (come_by r) core None
look-out (came.Frame b) core h = (refl, inr h)
look-out (came.BadLength p l) core h = (refl, inr h)
look-out (came.End p) core h = (refl, inr h)
look-out came.Nothing core h = h
look-out came.Failed core h = refl
look-out came.Memory core h = refl

spelled-small : (fs : List (List ℕ)) (front : List ℕ) → Spelled IsFrame fs front → All (λ f. length f ≤ max_frame) fs
spelled-small [] front h = All-nil (λ f. length f ≤ max_frame)
spelled-small (f ∷ fs) front (a, rest, one, more, e) = All-cons (λ g. length g ≤ max_frame) f fs one.2 (spelled-small fs rest more)

spelled-last : (fs : List (List ℕ)) (b : List ℕ) (more : List (List ℕ)) (front : List ℕ) → Spelled IsFrame ((fs ++ b ∷ []) ++ more) front → length b ≤ max_frame
spelled-last [] b more front (a, rest, one, then, e) = one.2
spelled-last (f ∷ fs) b more front (a, rest, one, then, e) = spelled-last fs b more rest then

look-may : (r : Came) (core : Core) (read : List ℕ) (frames : List (List ℕ)) (i' : InboxState) → Comes r read frames i' → IsAllowed core (come_by r)
look-may (came.Frame b) core read frames i' h = λ opened. spelled-last frames b i'.frames _ (((h.stands).framed).1)
look-may (came.BadLength p l) core read frames i' h = λ opened. tt
look-may (came.End p) core read frames i' h = λ opened. tt
look-may came.Nothing core read frames i' h = tt
look-may came.Failed core read frames i' h = tt
look-may came.Memory core read frames i' h = tt

look-held : (r : Came) (read piece : List ℕ) (frames : List (List ℕ)) (i i' : InboxState) → Holds read frames i → Comes r (read ++ piece) frames i' → IsHeldFor (come_by r) frames (read ++ piece) i'
look-held (came.Frame b) read piece frames i i' was h = h
look-held (came.BadLength p l) read piece frames i i' was h = h
look-held (came.End p) read piece frames i i' was h = h
look-held came.Nothing read piece frames i i' was h = h
look-held came.Failed read piece frames i i' was h = held-front cause.ReadFault frames (read ++ piece) i' h refl
look-held came.Memory read piece frames i i' was h = record {
  front = read;
  is_front = (piece, refl);
  fully = inr refl;
  all = frames ++ i.frames;
  rest = (was.stands).rest;
  framed = (was.stands).framed;
  first = (i.frames, refl);
  whole = λ e. absurd (cc);
}

look-answer : (r : Came) → answers_in (come_by r) ≡ []
look-answer (came.Frame b) = refl
look-answer (came.BadLength p l) = refl
look-answer (came.End p) = refl
look-answer came.Nothing = refl
look-answer came.Failed = refl
look-answer came.Memory = refl

look-entry : (r : Came) → entries_in (come_by r) ≡ []
look-entry (came.Frame b) = refl
look-entry (came.BadLength p l) = refl
look-entry (came.End p) = refl
look-entry came.Nothing = refl
look-entry came.Failed = refl
look-entry came.Memory = refl

look-lags : (r : Came) → lags_in (come_by r) ≡ 0
look-lags (came.Frame b) = refl
look-lags (came.BadLength p l) = refl
look-lags (came.End p) = refl
look-lags came.Nothing = refl
look-lags came.Failed = refl
look-lags came.Memory = refl

look-closings : (r : Came) → closings_in (come_by r) ≡ 0
look-closings (came.Frame b) = refl
look-closings (came.BadLength p l) = refl
look-closings (came.End p) = refl
look-closings came.Nothing = refl
look-closings came.Failed = refl
look-closings came.Memory = refl

look-shown : (r : Came) (old new : Told) (mid : ℕ) → (old.source).faults ≤ mid → (new.source).faults ≡ faults_after r mid → IsEndedAfter r (new.source).ended → IsShownBy (come_by r) old new
look-shown (came.Frame b) old new mid h e ended = tt
look-shown (came.BadLength p l) old new mid h e ended = tt
look-shown (came.End p) old new mid h e ended = ended
look-shown came.Nothing old new mid h e ended = tt
look-shown came.Failed old new mid h e ended = rose (old.source).faults mid (new.source).faults h e
look-shown came.Memory old new mid h e ended = tt

module _ (fresh : Fresh) (old new : Told) (core : Core) (i : InboxState) (o : List ℕ) where
  -- a call of the link
  pub link-on : (q : Ask) (n : Next) (l : LinkTold) → Stood fresh old new core i o (Some q) next.Idle → Asks q n (new.link) l → Stood fresh old (record new { link = l }) core i o None n
  link-on q n l s a = subst (Stood fresh old (record new { link = l }) core i o None) (sym a.gives) (record {
    steps = s.steps;
    ran = s.ran;
    timely = s.timely;
    holds = s.holds;
    rested = s.rested;
    answering = s.answering;
    opened = s.opened;
    out = link-out a.result core;
    may = answered_allowed core q (answered_by a.result) s.out (link-answered q a.result a.fits);
    in_time = link-time a.result core;
    read = s.read;
    gives = s.gives;
    held = link-held a.result (frames_of s.steps) s.read i s.held;
    calls = s.calls ++ call ∷ [];
    called = a.called ∙ ap (λ t. with_call t q a.result) s.called ∙ calls-push (old.link).calls s.calls q a.result;
    asks = append-nil _ ∙ map-append (λ (c : Call). c.ask) s.calls (call ∷ []) ∙ s.asks;
    unheard = unheard_of a.result;
    outcomes = map-append (λ (c : Call). outcome_of c.result) s.calls (call ∷ []) ∙ next-outcomes (outcomes_of s.calls) (answers_of s.steps) s.unheard a.result s.outcomes s.wanting;
    wanting = unheard-next a.result;
    entries = λ e c. s.entries e (subst (λ xs. Contains (entries_of s.steps ++ xs) e) (no-entry a.result) c);
    looked = subst (λ xs. (entries_of s.steps ++ xs ≡ []) ⊎ (0 < (new.feed).reads)) (sym (no-entry a.result)) s.looked;
    written = s.written;
    takes = s.takes;
    says = s.says;
    noted = s.noted;
    grown = record { source = (s.grown).source; sink = (s.grown).sink; link = up _ _ _ (s.grown).link (subst (λ x. (new.link).failures ≤ x) (sym a.failed) (failed-more a.result (new.link).failures)) };
    lags = s.lags ∙ ap (λ x. (old.feed).lags + x) (sym (link-lags a.result));
    closings = s.closings ∙ ap (λ x. (old.feed).closings + x) (sym (link-closings a.result));
    shown = link-shown a.result old (record new { link = l }) (new.link).failures (s.grown).link a.failed;
  })
    where
      call : Call
      call = record { ask = q; result = a.result }

  -- a read of the feed
  pub feed-on : (cursor : ℤ) (n : Next) (f : FeedTold) → Stood fresh old new core i o None next.Idle → awaits_entry (wants_of core) ≡ true → cursor ≡ core.cursor → Feeds cursor n (new.feed) f → Stood fresh old (record new { feed = f }) core i o None n
  feed-on cursor n f s w e a = subst (Stood fresh old (record new { feed = f }) core i o None) (sym a.gives) (record {
    steps = s.steps;
    ran = s.ran;
    timely = s.timely;
    holds = s.holds;
    rested = s.rested;
    answering = s.answering;
    opened = s.opened;
    out = feed-out a.answer core s.out;
    may = fed_allowed core cursor (fed_by a.answer) w s.out e (feed-fed cursor a.answer f.list a.told);
    in_time = feed-time a.answer core;
    read = s.read;
    gives = s.gives;
    held = feed-held a.answer (frames_of s.steps) s.read i s.held;
    calls = s.calls;
    called = s.called;
    asks = s.asks;
    unheard = [];
    outcomes = same-outcomes (outcomes_of s.calls) (answers_of s.steps) (answers_in (fed_by a.answer)) s.unheard s.outcomes s.wanting (no-answer a.answer);
    wanting = inl refl;
    entries = λ x c. elim (Contains-append_cases (entries_of s.steps) (entries_in (fed_by a.answer)) x c) [
      | inl before ↦ kept x (entries_of s.steps) (subst (λ xs. (xs ≡ []) ⊎ (0 < (new.feed).reads)) (append-nil (entries_of s.steps)) s.looked) before (s.entries x (Contains-append_left (entries_of s.steps) [] x before))
      | inr now ↦ feed-entry cursor a.answer f.list a.told x now
    ];
    looked = feed-looked a.answer (entries_of s.steps) (new.feed).reads f.reads (new.feed).list f.list a.once (subst (λ xs. (xs ≡ []) ⊎ (0 < (new.feed).reads)) (append-nil (entries_of s.steps)) s.looked);
    written = s.written;
    takes = s.takes;
    says = s.says;
    noted = s.noted;
    grown = record { source = (s.grown).source; sink = (s.grown).sink; link = (s.grown).link };
    lags = lags-on (old.feed).lags (new.feed).lags f.lags (lags_in (fed_by a.answer)) (if_lagged a.answer) s.lags a.lagged (feed-lags a.answer);
    closings = lags-on (old.feed).closings (new.feed).closings f.closings (closings_in (fed_by a.answer)) (if_closed a.answer) s.closings a.closed (feed-closings a.answer);
    shown = feed-shown cursor a.answer old (record new { feed = f }) (new.feed).lags (new.feed).closings s.lags s.closings a.told a.lagged a.closed;
  })
    where
      kept : (x : Entry) (es : List Entry) → (es ≡ []) ⊎ (0 < (new.feed).reads) → Contains es x → IsAt (new.feed).list x.number x → IsAt f.list x.number x
      kept x es (inl none) c at = absurd (contains-none x (subst (λ xs. Contains xs x) none c))
      kept x es (inr some) c at = later-at f.list (new.feed).list x (a.extends some) at

  -- a look whether the feed has ended
  pub end-on : (n : Next) (f : FeedTold) → Stood fresh old new core i o None next.Idle → Closes n (new.feed) f → Stood fresh old (record new { feed = f }) core i o None n
  end-on n f s a = subst (Stood fresh old (record new { feed = f }) core i o None) (sym a.gives) (record {
    steps = s.steps;
    ran = s.ran;
    timely = s.timely;
    holds = s.holds;
    rested = s.rested;
    answering = s.answering;
    opened = s.opened;
    out = end-out a.answer core s.out;
    may = end-may a.answer core s.out;
    in_time = end-time a.answer core;
    read = s.read;
    gives = s.gives;
    held = end-held a.answer (frames_of s.steps) s.read i s.held;
    calls = s.calls;
    called = s.called;
    asks = s.asks;
    unheard = [];
    outcomes = same-outcomes (outcomes_of s.calls) (answers_of s.steps) (answers_in (closing_by a.answer)) s.unheard s.outcomes s.wanting (end-answer a.answer);
    wanting = inl refl;
    entries = λ x c. (let before : Contains (entries_of s.steps ++ []) x = subst (λ xs. Contains (entries_of s.steps ++ xs) x) (end-entry a.answer) c in kept x (entries_of s.steps ++ []) s.looked before (s.entries x before));
    looked = subst (λ xs. (entries_of s.steps ++ xs ≡ []) ⊎ (0 < f.reads)) (sym (end-entry a.answer)) (end-looked a.answer (entries_of s.steps ++ []) (new.feed).reads f.reads (new.feed).list f.list a.once s.looked);
    written = s.written;
    takes = s.takes;
    says = s.says;
    noted = s.noted;
    grown = record { source = (s.grown).source; sink = (s.grown).sink; link = (s.grown).link };
    lags = a.lagged ∙ s.lags ∙ ap (λ x. (old.feed).lags + x) (sym (end-lags a.answer));
    closings = lags-on (old.feed).closings (new.feed).closings f.closings (closings_in (closing_by a.answer)) (if_closed a.answer) s.closings a.closed (end-closings a.answer);
    shown = end-shown a.answer old (record new { feed = f }) (new.feed).closings s.closings a.closed;
  })
    where
      kept : (x : Entry) (es : List Entry) → (es ≡ []) ⊎ (0 < (new.feed).reads) → Contains es x → IsAt (new.feed).list x.number x → IsAt f.list x.number x
      kept x es (inl none) c at = absurd (contains-none x (subst (λ xs. Contains xs x) none c))
      kept x es (inr some) c at = later-at f.list (new.feed).list x (a.extends some) at

  -- a look at the inbox
  pub look-on : (i' : InboxState) (n : Next) (t : SourceTold) → Stood fresh old new core i o None next.Idle → Looks n i i' (new.source) t → IsInTime core n → Stood fresh old (record new { source = t }) core i' o None n
  look-on i' n t s a time = subst (Stood fresh old (record new { source = t }) core i' o None) (sym a.gives) (record {
    steps = s.steps;
    ran = s.ran;
    timely = s.timely;
    holds = s.holds;
    rested = s.rested;
    answering = s.answering;
    opened = s.opened;
    out = look-out a.came core s.out;
    may = look-may a.came core (s.read ++ (a.reads).piece) (frames_of s.steps) i' ((a.reads).comes s.read (frames_of s.steps) s.held);
    in_time = subst (IsInTime core) a.gives time;
    read = s.read ++ (a.reads).piece;
    gives = Gives-append s.read (a.reads).piece _ _ _ _ _ _ s.gives (a.reads).gives;
    held = look-held a.came s.read (a.reads).piece (frames_of s.steps) i i' s.held ((a.reads).comes s.read (frames_of s.steps) s.held);
    calls = s.calls;
    called = s.called;
    asks = s.asks;
    unheard = [];
    outcomes = same-outcomes (outcomes_of s.calls) (answers_of s.steps) (answers_in (come_by a.came)) s.unheard s.outcomes s.wanting (look-answer a.came);
    wanting = inl refl;
    entries = λ x c. s.entries x (subst (λ xs. Contains (entries_of s.steps ++ xs) x) (look-entry a.came) c);
    looked = subst (λ xs. (entries_of s.steps ++ xs ≡ []) ⊎ (0 < (new.feed).reads)) (sym (look-entry a.came)) s.looked;
    written = s.written;
    takes = s.takes;
    says = s.says;
    noted = s.noted;
    grown = record { source = up _ _ _ (s.grown).source (subst (λ x. (new.source).faults ≤ x) (sym a.faults) (faults-more a.came (new.source).faults)); sink = (s.grown).sink; link = (s.grown).link };
    lags = s.lags ∙ ap (λ x. (old.feed).lags + x) (sym (look-lags a.came));
    closings = s.closings ∙ ap (λ x. (old.feed).closings + x) (sym (look-closings a.came));
    shown = look-shown a.came old (record new { source = t }) (new.source).faults (s.grown).source a.faults a.ended;
  })

module _ (fresh : Fresh) (old new : Told) (core : Core) (i : InboxState) (o : List ℕ) where
  -- what a turn takes in
  pub fetch-on : (i' : InboxState) (asked : Option Ask) (n : Next) (t : SourceTold) (l : LinkTold) (f : FeedTold) → Stood fresh old new core i o asked next.Idle → Fetches core asked n i i' (new.source) t (new.link) l (new.feed) f → Stood fresh old (record new { source = t; link = l; feed = f }) core i' o None n
  fetch-on i' asked n t l f s (calls q e a i-is t-is f-is) =
      subst (λ j. Stood fresh old (record new { source = t; link = l; feed = f }) core j o None n) (sym i-is)
      (subst (λ x. Stood fresh old (record new { source = x; link = l; feed = f }) core i o None n) (sym t-is)
      (subst (λ x. Stood fresh old (record new { source = new.source; link = l; feed = x }) core i o None n) (sym f-is)
      (link-on fresh old new core i o q n l (subst (λ x. Stood fresh old new core i o x next.Idle) e s) a)))
  fetch-on i' asked n t l f s (feeds cursor e w c a i-is t-is l-is) =
      subst (λ j. Stood fresh old (record new { source = t; link = l; feed = f }) core j o None n) (sym i-is)
      (subst (λ x. Stood fresh old (record new { source = x; link = l; feed = f }) core i o None n) (sym t-is)
      (subst (λ x. Stood fresh old (record new { source = new.source; link = x; feed = f }) core i o None n) (sym l-is)
      (feed-on fresh old new core i o cursor n f (subst (λ x. Stood fresh old new core i o x next.Idle) e s) w c a)))
  fetch-on i' asked n t l f s (looks e (inl (unawaited, f-is)) a time l-is) =
      subst (λ x. Stood fresh old (record new { source = t; link = x; feed = f }) core i' o None n) (sym l-is)
      (subst (λ x. Stood fresh old (record new { source = t; link = new.link; feed = x }) core i' o None n) (sym f-is)
      (look-on fresh old new core i o i' n t (subst (λ x. Stood fresh old new core i o x next.Idle) e s) a time))
  fetch-on i' asked n t l f s (looks e (inr g) a time l-is) =
      subst (λ x. Stood fresh old (record new { source = t; link = x; feed = f }) core i' o None n) (sym l-is)
      (look-on fresh old (record new { feed = f }) core i o i' n t (feed-on fresh old new core i o g.0 next.Idle f (subst (λ x. Stood fresh old new core i o x next.Idle) e s) g.1 g.2 g.3) a time)
  fetch-on i' asked n t l f s (closes e w a k l-is) =
      subst (λ x. Stood fresh old (record new { source = t; link = x; feed = f }) core i' o None n) (sym l-is)
      (end-on fresh old (record new { source = t }) core i' o n f (look-on fresh old new core i o i' next.Idle t (subst (λ x. Stood fresh old new core i o x next.Idle) e s) a tt) k)
