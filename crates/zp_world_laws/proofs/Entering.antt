-- The entry after a connection's cursor is true of the transcript; and an update that is carried out adds its own entry.
use Rattle.std.proofs.Common.{◌≡◌, ℕ, zero, suc, ◌+◌, List, [], ◌∷◌, ◌++◌, length, refl, sym, ap, ◌∙◌, subst, arith, Bool, true, false, ℤ, pos, negsuc, inl, inr}
use Rattle.std.specs.Prelude.{Option, Some, None, ◌+ℤ◌, slice_get, option_and_then, if◌then◌else◌, MatchBool}
use Rattle.std.specs.Ordering.{int_eq}
use Rattle.std.proofs.lemmas.List.{length-append}
use Rattle.std.proofs.lemmas.List.Elements.{filter_map-append}
use Rattle.std.proofs.lemmas.Option.{slice_get_within}
use Rattle.ev_types.specs.Store.{Store, present}
use Rattle.zk_model.specs.Watches.{is_unarmed}
use Rattle.zk_transcript.proofs.Lookups.{slice_get-front}
use Rattle.zk_transcript.proofs.Walks.{state_at-push}
use Rattle.zk_service.specs.States.{State}
use Rattle.zk_transcript.specs.History.{after, update_in, updates, begin_lines, updated}
use Rattle.zk_transcript.specs.declared.transcript.TranscriptLine.{TranscriptLine}
use Rattle.zk_transcript.specs.declared.transcript.TranscriptLine.TheVariants.{Update}
use Rattle.zk_service.specs.declared.update.UpdateRec.{UpdateRec}
use Rattle.zn_layout.specs.declared.entry.Entry.{Entry}
use Rattle.zp_step.specs.declared.wants.Wants.TheVariants as wants
use Rattle.zp_step.specs.Stages.{Core, Stage, Unconnected, Connecting, Ready, KeepingAlive, Checking, Reading, Committing, Waiting, Shut, wanted_in, wants_of}
use Rattle.zp_laws.specs.Inputs.{IsEntryOfLines, IsTrueEntry, takes_entries}
use Rattle.zp_laws.specs.Standing.{Knows}
use Rattle.zk_transcript.specs.Walks.{Walker}
use Rattle.zp_script.specs.Entries.{cursor_at, cursor_of, cursor_wanted, entry_after, next_entry}
use Rattle.zp_script.specs.Worlds.{Conn, Connection, World, conn_at}
use Rattle.zp_script.specs.declared.flight.Flight.{Flight}
use Rattle.ev_types.specs.Denials.{carry}
use Rattle.ev_types.specs.declared.answer.Answer.{Answer}
use Rattle.ev_types.specs.declared.answer.Kv.{Kv}
use Rattle.zk_model.specs.declared.node.Trigger.{Trigger}
use Rattle.zk_transcript.proofs.UpdateCounts.{legal-counts}
use Rattle.zk_transcript.specs.Legal.{is_legal}
use Rattle.zk_service.specs.declared.update.UpdateKind.{UpdateKind}
use Rattle.zn_layout.proofs.ListRecords.{head_value-injective}
use Rattle.zn_layout.specs.Keys.{HeadKey}
use Rattle.zn_layout.specs.StandsFor.{HeadMeans, StandsFor, at}
use Rattle.zp_script.specs.Carrying.{CarriedBy, Executes, ExecutesStray, HasStore, ShowsUpdate}
use Rattle.zp_script.specs.Entries.{AreTriggersOf, IsEntryOf as IsEntryOfHead}
use Rattle.zp_script.specs.Runs.{IsFirst, first_entry}
use Rattle.zp_script.specs.Worlds.{zxid_at}
use Rattle.zk_service.specs.declared.update.UpdateKind.TheVariants.{Begin}
use Rattle.zp_world_laws.proofs.Commits.{stands-now}
use Rattle.zp_world_laws.proofs.Effects.{executes-holds, stray-holds}
use Rattle.zp_world_laws.proofs.Growing.{slice_get-one}
use Rattle.zp_world_laws.proofs.Looking.{get-last}
use Rattle.zp_world_laws.proofs.Moments.{whole}
use Rattle.zp_world_laws.specs.Holding.{Holds}
use Rattle.zp_world_laws.specs.Serving.{StoreServes}
use Rattle.zx_base.proofs.Options.{none_some, some_is}
use Rattle.zp_world_laws.specs.Connections.{IsServingConn}
use Rattle.zp_world_laws.specs.Entering.{AreEntries}

-- ---- the next entry is true

record Awaits (core : Core) (st : Stage) (z : ℤ) : Type 0 where
  taken : takes_entries st ≡ true
  cursor : z ≡ core.cursor
  armed : is_unarmed core.watches ≡ false

ready-awaits : (core : Core) (b : Bool) (z : ℤ) → is_unarmed core.watches ≡ b → cursor_wanted (wanted_in core Ready) ≡ Some z → Awaits core Ready z
ready-awaits core b z e h = go b e (sym (ap (λ (q : Bool). cursor_wanted (if q then wants.Frame else wants.FrameOrEntry core.cursor)) e) ∙ h)
  where
    go : (q : Bool) → is_unarmed core.watches ≡ q → cursor_wanted (if q then wants.Frame else wants.FrameOrEntry core.cursor) ≡ Some z → Awaits core Ready z
    go true f g = absurd (none_some g)
    go false f g = record { taken = refl; cursor = sym (some_is g); armed = f }

not-due : (unarmed due : Bool) → (if unarmed then true else due) ≡ false → unarmed ≡ false
not-due true due h = absurd (cc)
not-due false due h = refl

awaits : (s : Store) (lines : List TranscriptLine) (c : ℕ) (core : Core) (w : Walker) (looked : ℕ) (st : Stage) (z : ℤ) → Knows s lines c core w looked st → cursor_wanted (wanted_in core st) ≡ Some z → Awaits core st z
awaits s lines c core w looked Ready z k h = ready-awaits core (is_unarmed core.watches) z refl h
awaits s lines c core w looked (Waiting p) z k h = record { taken = refl; cursor = sym (some_is h); armed = not-due (is_unarmed core.watches) (int_eq core.cursor p.number) k.1 }
awaits s lines c core w looked (Unconnected f) z k h = absurd (none_some h)
awaits s lines c core w looked (Connecting f) z k h = absurd (none_some h)
awaits s lines c core w looked (KeepingAlive f) z k h = absurd (none_some h)
awaits s lines c core w looked (Checking f) z k h = absurd (none_some h)
awaits s lines c core w looked (Reading xid q v ws) z k h = absurd (none_some h)
awaits s lines c core w looked (Committing xid q v p m) z k h = absurd (none_some h)
awaits s lines c core w looked Shut z k h = absurd (none_some h)

after-true : (lines : List TranscriptLine) (entries : List Entry) (z : ℤ) (e : Entry) → AreEntries lines entries → entry_after entries z ≡ Some e → IsEntryOfLines lines e × (e.number ≡ z +ℤ pos 1)
after-true lines entries (pos n) e all h = let a = all.each n e h in (a.0, a.1 ∙ ap pos (omega arith))
after-true lines entries (negsuc n) e all h = absurd (none_some h)

pub next-true : (w : World) (c : ℕ) (x : Conn) (core : Core) (e : Entry) → conn_at c w ≡ Some x → x.actor ≡ Connection core → IsServingConn w.store w.lines c core x.flight → AreEntries w.lines w.entries → next_entry c w ≡ Some e → IsTrueEntry w.lines core e
next-true w c x core e there actor k all next = go (cursor_at c w) refl next
  where
    cursor_is : cursor_at c w ≡ cursor_wanted (wants_of core)
    cursor_is = ap (option_and_then (λ (y : Conn). cursor_of y.actor)) there ∙ ap cursor_of actor

    go : (o : Option ℤ) → cursor_at c w ≡ o → option_and_then (entry_after w.entries) o ≡ Some e → IsTrueEntry w.lines core e
    go None f g = absurd (none_some g)
    go (Some z) f g =
        let a = awaits w.store w.lines c core k.walker k.looked core.stage z (k.stands).knows (sym cursor_is ∙ f) in
        let b = after-true w.lines w.entries z e all g in
        record { of = b.0; next = b.1 ∙ ap (λ n. n +ℤ pos 1) a.cursor; armed = a.armed; taken = a.taken }

-- ---- lines more

entry-push : (lines more : List TranscriptLine) (e : Entry) → IsEntryOfLines lines e → IsEntryOfLines (lines ++ more) e
entry-push lines more e o =
    let within = slice_get_within lines o.place (Update o.update) o.shown in
    record {
      place = o.place;
      update = o.update;
      shown = slice_get-front lines more o.place within ∙ o.shown;
      zxid = o.zxid;
      number = o.number ∙ ap (λ (s : State). pos s.updates) (sym (state_at-push lines more (o.place + 1) (omega (arith, within))));
      triggers = o.triggers ∙ ap (λ (s : State). s.triggers) (sym (state_at-push lines more (o.place + 1) (omega (arith, within))));
    }

-- a line that is no update counts for none
pub entries-line : (lines : List TranscriptLine) (l : TranscriptLine) (entries : List Entry) → (after (lines ++ l ∷ [])).updates ≡ (after lines).updates → AreEntries lines entries → AreEntries (lines ++ l ∷ []) entries
entries-line lines l entries same all = record {
  count = all.count ∙ sym same;
  each = λ n e h. (let a = all.each n e h in (entry-push lines (l ∷ []) e a.0, a.1));
}

-- ---- an update adds its own

updates-push : (lines : List TranscriptLine) (u : UpdateRec) → updates (lines ++ Update u ∷ []) ≡ updates lines ++ u ∷ []
updates-push lines u = filter_map-append update_in lines (Update u ∷ [])

count-push : (lines : List TranscriptLine) (u : UpdateRec) → is_legal lines ≡ true → is_legal (lines ++ Update u ∷ []) ≡ true → (after (lines ++ Update u ∷ [])).updates ≡ (after lines).updates + 1
count-push lines u a b = legal-counts (lines ++ Update u ∷ []) b ∙ ap length (updates-push lines u) ∙ length-append (updates lines) (u ∷ []) ∙ ap (λ n. n + 1) (sym (legal-counts lines a))

triggers-are : (o : Option Kv) (s : State) (ts : List Trigger) → HeadMeans o s → AreTriggersOf o ts → ts ≡ s.triggers
triggers-are None s ts h t = absurd h
triggers-are (Some kv) s ts h (None, read, is) = absurd (read (record { triggers = s.triggers }) h.fits h.value)
triggers-are (Some kv) s ts h (Some r, read, is) = is ∙ head_value-injective r.triggers s.triggers read.0 h.fits (sym read.1 ∙ h.value)

last-entry : (lines : List TranscriptLine) (u : UpdateRec) (entries : List Entry) (s : Store) (e : Entry) → is_legal lines ≡ true → is_legal (lines ++ Update u ∷ []) ≡ true → u.zxid ≡ zxid_at s → StandsFor (present s) (after (lines ++ Update u ∷ [])) → length entries ≡ (after lines).updates
    → IsEntryOfHead (length entries + 1) (at (present s) HeadKey) e → IsEntryOfLines (lines ++ Update u ∷ []) e
last-entry lines u entries s e a b z st count h =
    let n : (after (lines ++ Update u ∷ [])).updates ≡ length entries + 1 = count-push lines u a b ∙ ap (λ n. n + 1) (sym count) in
    record {
      place = length lines;
      update = u;
      shown = get-last lines (Update u);
      zxid = h.zxid ∙ sym z;
      number = h.number ∙ ap pos (sym n) ∙ ap (λ (t : State). pos t.updates) (sym (whole lines (Update u)));
      triggers = triggers-are (at (present s) HeadKey) (after (lines ++ Update u ∷ [])) e.triggers st.head h.triggers ∙ ap (λ (t : State). t.triggers) (sym (whole lines (Update u)));
    }

entries-update : (lines : List TranscriptLine) (u : UpdateRec) (entries : List Entry) (s : Store) (e : Entry) → is_legal lines ≡ true → is_legal (lines ++ Update u ∷ []) ≡ true → u.zxid ≡ zxid_at s → StandsFor (present s) (after (lines ++ Update u ∷ []))
    → AreEntries lines entries → IsEntryOfHead (length entries + 1) (at (present s) HeadKey) e → AreEntries (lines ++ Update u ∷ []) (entries ++ e ∷ [])
entries-update lines u entries s e a b z st all h = record {
  count = length-append entries (e ∷ []) ∙ ap (λ n. n + 1) all.count ∙ sym (count-push lines u a b);
  each = λ n x g. elim (slice_get-one entries e x n g) [
    | inl old ↦ (let o = all.each n x old in (entry-push lines (Update u ∷ []) x o.0, o.1))
    | inr new ↦ subst (λ y. IsEntryOfLines (lines ++ Update u ∷ []) y × (y.number ≡ pos (n + 1))) new.1
        (last-entry lines u entries s e a b z st all.count h, h.number ∙ ap (λ m. pos (m + 1)) (sym new.0))
  ];
}

-- where the store is this one from now on
pub stored-entries : (w mid : World) (s : Store) (kind : Option UpdateKind) → HasStore w s kind mid → StoreServes w.store w.lines → StoreServes mid.store mid.lines → AreEntries w.lines w.entries → AreEntries mid.lines mid.entries
stored-entries w mid s kind h before now all = go (int_eq (zxid_at w.store) (zxid_at s)) kind h
  where
    same : mid ≡ record w { store = s } → AreEntries mid.lines mid.entries
    same e = subst (λ (v : World). AreEntries v.lines v.entries) (sym e) all

    go : (b : Bool) (k : Option UpdateKind) → MatchBool b (mid ≡ record w { store = s }) (ShowsUpdate w s k mid) → AreEntries mid.lines mid.entries
    go true k e = same e
    go false None e = same e
    go false (Some k) (e, of, is) =
        let u : UpdateRec = record { zxid = zxid_at s; kind = k } in
        let v : World = record w { store = s; lines = w.lines ++ Update u ∷ []; entries = w.entries ++ e ∷ [] } in
        let serves : StoreServes s (w.lines ++ Update u ∷ []) = subst (λ (y : World). StoreServes y.store y.lines) is now in
        subst (λ (y : World). AreEntries y.lines y.entries) (sym is)
        (entries-update w.lines u w.entries s e before.legal serves.legal refl (stands-now s (w.lines ++ Update u ∷ []) serves) all of)

carried-entries : (w mid : World) (kind : Option UpdateKind) (f : Flight) (o : Option (Store × Answer)) → CarriedBy w kind f mid o → StoreServes w.store w.lines → StoreServes mid.store mid.lines → AreEntries w.lines w.entries → AreEntries mid.lines mid.entries
carried-entries w mid kind f None (e, same) before now all = subst (λ (v : World). AreEntries v.lines v.entries) (sym same) all
carried-entries w mid kind f (Some r) (e, has) before now all = stored-entries w mid r.0 kind has before now all

pub exec-entries : (w w' : World) (c : ℕ) → Executes c w w' → Holds w → AreEntries w.lines w.entries → AreEntries w'.lines w'.entries
exec-entries w w' c ex h all =
    let now : StoreServes ex.mid.store ex.mid.lines = subst (λ (v : World). StoreServes v.store v.lines) ex.result ((executes-holds w w' c ex h).serves) in
    subst (λ (v : World). AreEntries v.lines v.entries) (sym ex.result) (carried-entries w ex.mid (ex.asking).kind ex.flight (carry w.store (ex.asking).ask) ex.carries h.serves now all)

pub stray-entries : (w w' : World) (k : ℕ) → ExecutesStray k w w' → Holds w → AreEntries w.lines w.entries → AreEntries w'.lines w'.entries
stray-entries w w' k ex h all =
    let now : StoreServes ex.mid.store ex.mid.lines = subst (λ (v : World). StoreServes v.store v.lines) ex.result ((stray-holds w w' k ex h).serves) in
    subst (λ (v : World). AreEntries v.lines v.entries) (sym ex.result) (carried-entries w ex.mid (ex.asking).kind ex.flight (carry w.store (ex.asking).ask) ex.carries h.serves now all)

-- ---- before anything happened

pub first-entries : (w : World) → IsFirst w → AreEntries w.lines w.entries
unfolding after updated
first-entries w (s, a, e, is) = subst (λ (v : World). AreEntries v.lines v.entries) (sym is) (record {
  count = refl;
  each = each;
})
  where
    each : (n : ℕ) (x : Entry) → slice_get (first_entry ∷ []) n ≡ Some x → IsEntryOfLines (begin_lines 0) x × (x.number ≡ pos (n + 1))
    each zero x h = subst (λ (y : Entry). IsEntryOfLines (begin_lines 0) y × (y.number ≡ pos 1)) (some_is h) (record { place = 0; update = record { zxid = pos 2; kind = Begin 0 }; shown = refl; zxid = refl; number = refl; triggers = refl }, refl)
    each (suc n) x h = absurd (none_some h)
