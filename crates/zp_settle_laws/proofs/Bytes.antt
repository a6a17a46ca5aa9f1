-- Each line of a script keeps the bytes of a connection's frames counted: one that brings no frame changes neither.
use Rattle.ev_types.specs.Denials.{carry}
use Rattle.ev_types.specs.Lapses.{foreign, lapse}
use Rattle.ev_types.specs.Store.{Store, revision}
use Rattle.ev_types.specs.declared.answer.Answer.{Answer}
use Rattle.std.proofs.Common.{Bool, List, [], ap, arith, append-nil, false, inl, inr, length, refl, subst, sym, true, ℕ, ℤ, zero, suc, ◌++◌, ◌+◌, ◌-◌, ◌∙◌, ◌∷◌, ◌≡◌, ◌≢◌, ◌≤◌}
use Rattle.std.proofs.lemmas.List.{length-append}
use Rattle.std.specs.FinMap.{entries, entries_sorted, find, get, get-entries, is_sorted}
use Rattle.std.specs.Ordering.{int_eq, nat_cmp}
use Rattle.std.specs.Prelude.{MatchBool, None, Option, Some, fold, if◌then◌else◌, is_some, not, slice_set, ◌⊎◌}
use Rattle.zk_jute.specs.Frames.{IsFrame}
use Rattle.zk_jute.specs.JuteValues.{Spelled}
use Rattle.zk_jute.specs.JuteWriting.{with_length}
use Rattle.zk_transcript.specs.Legal.{Tick}
use Rattle.zk_service.specs.declared.cause.Cause.TheVariants as cause
use Rattle.zk_service.specs.declared.cause.Ended.TheVariants as ended
use Rattle.zk_service.specs.declared.cause.Ended.{Ended}
use Rattle.zk_transcript.specs.declared.transcript.TranscriptLine.TheVariants.{Close, Frame as FrameLine, Lapse as LapseLine, Open, Send}
use Rattle.zk_transcript.specs.declared.transcript.TranscriptLine.{TranscriptLine}
use Rattle.zk_service.specs.declared.update.UpdateKind.{UpdateKind}
use Rattle.zn_layout.specs.declared.entry.Entry.{Entry}
use Rattle.zs_reap.specs.declared.reap.Reap.{Reap}
use Rattle.zs_reap.specs.declared.reap.ReapStep.TheVariants as reaped
use Rattle.zs_reap.specs.declared.reap.ReapStep.{ReapStep}
use Rattle.zt_text.specs.declared.script.Happening.TheVariants as line
use Rattle.zt_text.specs.declared.script.Happening.{Happening}
use Rattle.zt_text.specs.declared.script.Why.TheVariants as why
use Rattle.zx_base.proofs.Options.{none_some}
use Rattle.zp_step.proofs.Ending.{steps_end_well}
use Rattle.zp_step.specs.Ending.{closes, ends_well, is_end}
use Rattle.zp_step.proofs.Shutting.{shut-for-good}
use Rattle.zp_step.specs.Stages.{Core, counted_up, is_shut, max_count, new_core}
use Rattle.zp_step.specs.Steps.{Steps as CoreSteps}
use Rattle.zp_step.specs.declared.action.Action.TheVariants as action
use Rattle.zp_step.specs.declared.action.Action.{Action}
use Rattle.zp_step.specs.declared.input.Input.TheVariants as input
use Rattle.zp_step.specs.declared.input.Input.{Input}
use Rattle.zp_script.specs.Arriving.{Arrives, EndsBadly, FramesArrive, frame_lines, shown_frame}
use Rattle.zp_script.specs.Carrying.{CarriedBy, CarriesOut, Executes, ExecutesStray}
use Rattle.zp_script.specs.Effects.{Delivers, Does, EndsBy, EntersBy, LagsBy, LapsesTo, PutTo, is_open_at, new_conn, new_reap, new_reaper, opened, restarted, stopped}
use Rattle.zp_script.specs.Entries.{cursor_at, next_entry}
use Rattle.zp_script.specs.Faults.{fault, flight_at, if_fails}
use Rattle.zp_script.specs.Handing.{AnswerComesTo, FailureComesTo, Handed, Reaps, landed, landed_conn}
use Rattle.zp_script.specs.Happens.{Effect, Happens, Settles, max_settling, settling}
use Rattle.zp_script.specs.Kinds.{kind_asked}
use Rattle.zp_script.specs.Runs.{IsFirst, RunsFrom}
use Rattle.zp_script.specs.StepOutcomes.{StepOutcome, acts, acts_all, ended_by, ends, leaves, quiet, reap_acts}
use Rattle.zp_script.specs.Worlds.{Actor, Closed, Conn, Connection, Reaper, World, after_reap, after_step, conn_at, is_closed_actor, is_open_conn, with_conn, zxid_at}
use Rattle.zp_script.specs.declared.flight.Asking.{Asking}
use Rattle.zp_script.specs.declared.flight.Flight.TheVariants.{Carried, Denied, Out}
use Rattle.zp_script.specs.declared.flight.Flight.{Flight}
use Rattle.zp_world_laws.proofs.Arrivals.{nat-either}
use Rattle.zp_world_laws.proofs.Effects.{stored-in}
use Rattle.zp_world_laws.proofs.Numbers.{conn-here, conn-there, either-number, other-number}
use Rattle.zp_world_laws.proofs.Restarting.{Distinct, Gives, all-found, gives-as, gives-others, sorted-distinct}
use Rattle.zp_world_laws.proofs.Running.{Settling, answers, carries, enters, settling-is}
use Rattle.zp_world_laws.specs.Serving.{kind_lines, update_lines}
use Rattle.zp_settle_laws.specs.Bytes.{CountsBytes, bytes_in, bytes_shown, place_at, place_of}
use Rattle.zx_base.proofs.Booleans.{true-from_T as is-true, true-not_false as true-false, same-number}

-- ---- lines

pub shown-append : (c : ℕ) (a b : List TranscriptLine) → bytes_shown c (a ++ b) ≡ bytes_shown c a + bytes_shown c b
shown-append c [] b = omega arith
shown-append c (l ∷ a) b = omega (arith, shown-append c a b)

-- ---- no frame is added

pub record Quiet (w w' : World) : Type 0 where
  pub lines : (c : ℕ) → bytes_shown c w'.lines ≤ bytes_shown c w.lines
  pub places : (c : ℕ) → place_at c w ≤ place_at c w'

quiet-same : (w w' : World) → w' ≡ w → Quiet w w'
quiet-same w w' e = record { lines = λ c. omega (arith, ap (λ (v : World). bytes_shown c v.lines) e); places = λ c. omega (arith, ap (place_at c) e) }

quiet-then : (u v w : World) → Quiet u v → Quiet v w → Quiet u w
quiet-then u v w a b = record { lines = λ c. omega (arith, a.lines c, b.lines c); places = λ c. omega (arith, a.places c, b.places c) }

quiet-to : (w v w' : World) → w' ≡ v → Quiet w v → Quiet w w'
quiet-to w v w' e q = subst (Quiet w) (sym e) q

-- lines that are no frames
abbrev Frameless : List TranscriptLine → Type 0
Frameless more = (c : ℕ) → bytes_shown c more ≡ 0

-- one connection changes, whose stream does not go back
with-places : (w : World) (c : ℕ) (v : Conn) → place_at c w ≤ v.stream.place → (d : ℕ) → place_at d w ≤ place_at d (with_conn w c v)
with-places w c v le d = elim (either-number d c) [
  | inl same ↦ omega (arith, le, ap (λ n. place_at n w) same, ap (λ n. place_of (conn_at n (with_conn w c v))) same, ap place_of (conn-here w c v))
  | inr apart ↦ omega (arith, ap place_of (conn-there w c d v apart))
]

lines-quiet : (w w' : World) (c : ℕ) (v : Conn) (more : List TranscriptLine) → place_at c w ≤ v.stream.place → w'.lines ≡ w.lines ++ more → w'.conns ≡ (with_conn w c v).conns → Frameless more → Quiet w w'
lines-quiet w w' c v more le lines conns none = record {
  lines = λ d. omega (arith, ap (bytes_shown d) lines, shown-append d w.lines more, none d);
  places = λ d. omega (arith, with-places w c v le d, ap (λ m. place_of (get m d)) conns);
}

-- the same connections
alike-quiet : (w w' : World) (more : List TranscriptLine) → w'.lines ≡ w.lines ++ more → w'.conns ≡ w.conns → Frameless more → Quiet w w'
alike-quiet w w' more lines conns none = record {
  lines = λ d. omega (arith, ap (bytes_shown d) lines, shown-append d w.lines more, none d);
  places = λ d. omega (arith, ap (λ m. place_of (get m d)) conns);
}

there-place : (w : World) (c : ℕ) (x : Conn) → conn_at c w ≡ Some x → place_at c w ≤ x.stream.place
there-place w c x there = omega (arith, ap place_of there)

leaves-quiet : (w : World) (c : ℕ) (x : Conn) (actor : Actor) (o : StepOutcome) → place_at c w ≤ x.stream.place → Frameless o.lines → Quiet w (leaves c w x actor o)
leaves-quiet w c x actor o le none = lines-quiet w (leaves c w x actor o) c (record x { actor = actor; flight = o.flight }) o.lines le refl refl none

-- ---- a step

-- before the end stand the frames that came with it
abbrev shown_if : Bool → ℕ → ℕ
shown_if true n = n
shown_if false n = 0

pub ended-out : (out : List Action) → is_end out ≡ true → out ≡ []
ended-out [] h = refl
ended-out (x ∷ out) h = absurd (true-false (sym h))

acts-shown : (d c : ℕ) (kind : Option UpdateKind) (after : List TranscriptLine) (out : List Action) (o : StepOutcome) → ends_well out ≡ true
    → bytes_shown d (fold (acts c kind after) o out).lines ≤ bytes_shown d o.lines + shown_if (closes out) (bytes_shown d after)
acts-shown d c kind after [] o h = omega arith
acts-shown d c kind after (action.Send bytes ∷ out) o h = omega (arith, acts-shown d c kind after out (acts c kind after o (action.Send bytes)) h, shown-append d o.lines (Send c bytes ∷ []))
acts-shown d c kind after (action.Ask a ∷ out) o h = omega (arith, ap (λ l. bytes_shown d (fold (acts c kind after) (acts c kind after o (action.Ask a)) l).lines) (ended-out out h))
acts-shown d c kind after (action.Close why ∷ out) o h =
    omega (arith, ap (λ l. bytes_shown d (fold (acts c kind after) (acts c kind after o (action.Close why)) l).lines) (ended-out out h), shown-append d (o.lines ++ after) (Close c (ended.Cause why) ∷ []), shown-append d o.lines after)

-- one that is shut does nothing
step-shown : (d c : ℕ) (kind : Option UpdateKind) (after : List TranscriptLine) (f : Option Flight) (core next : Core) (i : Input) (now : ℕ) (out : List Action) → CoreSteps core i now next out
    → bytes_shown d (acts_all c kind after f out).lines ≤ shown_if (is_shut next.stage) (bytes_shown d after)
step-shown d c kind after f core next i now out h = go (is_shut core.stage) refl
  where
    go : (b : Bool) → is_shut core.stage ≡ b → bytes_shown d (acts_all c kind after f out).lines ≤ shown_if (is_shut next.stage) (bytes_shown d after)
    go false e =
        let w = steps_end_well core next i now out e h in
        omega (arith, acts-shown d c kind after out (quiet f) w.well, ap (λ b. shown_if b (bytes_shown d after)) w.closes)
    go true e = omega (arith, ap (λ l. bytes_shown d (acts_all c kind after f l).lines) (shut-for-good core next i now out e h).1)

none-shown : (b : Bool) (n : ℕ) → n ≤ shown_if b 0 → n ≡ 0
none-shown true n h = omega (arith, h)
none-shown false n h = omega (arith, h)

handed-quiet : (w w' : World) (c : ℕ) (i : Input) → Handed c [] w i w' → Quiet w w'
handed-quiet w w' c i hd = quiet-to w (leaves c w hd.conn (after_step hd.next) (acts_all c (kind_asked c (Connection hd.next)) [] hd.conn.flight hd.out)) w' hd.result
    (leaves-quiet w c hd.conn (after_step hd.next) (acts_all c (kind_asked c (Connection hd.next)) [] hd.conn.flight hd.out) (there-place w c hd.conn hd.found)
    (λ d. none-shown (is_shut hd.next.stage) (bytes_shown d (acts_all c (kind_asked c (Connection hd.next)) [] hd.conn.flight hd.out).lines) (step-shown d c (kind_asked c (Connection hd.next)) [] hd.conn.flight hd.core hd.next i w.clock hd.out hd.stepped)))

-- ---- what is carried out

update-frameless : (s u : Store) (kind : Option UpdateKind) → Frameless (update_lines s u kind)
update-frameless s u kind c = go (int_eq (zxid_at s) (zxid_at u)) kind
  where
    go : (b : Bool) (o : Option UpdateKind) → bytes_shown c (if b then [] else kind_lines u o) ≡ 0
    go true o = refl
    go false None = refl
    go false (Some k) = refl

carried-quiet : (w mid : World) (a : Asking) (f : Flight) → CarriesOut w a f mid → Quiet w mid × (mid.conns ≡ w.conns)
carried-quiet w mid a f h = go (carry w.store a.ask) h
  where
    go : (o : Option (Store × Answer)) → CarriedBy w a.kind f mid o → Quiet w mid × (mid.conns ≡ w.conns)
    go None p = (quiet-same w mid p.1, ap (λ (u : World). u.conns) p.1)
    go (Some r) p = (let st = stored-in w mid r.0 a.kind p.1 in (alike-quiet w mid (update_lines w.store r.0 a.kind) st.lines st.conns (update-frameless w.store r.0 a.kind), st.conns))

exec-quiet : (w w' : World) (c : ℕ) → Executes c w w' → Quiet w w'
exec-quiet w w' c ex =
    let g = carried-quiet w ex.mid ex.asking ex.flight ex.carries in
    let v : Conn = record (ex.conn) { flight = Some ex.flight } in
    let there : conn_at c ex.mid ≡ Some ex.conn = ap (λ m. get m c) g.1 ∙ ex.found in
    quiet-to w (with_conn ex.mid c v) w' ex.result (quiet-then w ex.mid (with_conn ex.mid c v) g.0 (lines-quiet ex.mid (with_conn ex.mid c v) c v [] (there-place ex.mid c ex.conn there) (sym (append-nil ex.mid.lines)) refl (λ d. refl)))

stray-quiet : (w w' : World) (k : ℕ) → ExecutesStray k w w' → Quiet w w'
stray-quiet w w' k ex =
    let v : World = record (ex.mid) { strays = slice_set ex.mid.strays (k - 1) None } in
    quiet-to w v w' ex.result (quiet-then w ex.mid v (carried-quiet w ex.mid ex.asking ex.flight ex.carries).0 (alike-quiet ex.mid v [] (sym (append-nil ex.mid.lines)) refl (λ d. refl)))

-- ---- what is delivered

landed-quiet : (w : World) (c : ℕ) → Quiet w (landed c w)
landed-quiet w c = go (conn_at c w) refl
  where
    go : (o : Option Conn) → conn_at c w ≡ o → Quiet w (landed_conn c w o)
    go None e = quiet-same w w refl
    go (Some x) e = lines-quiet w (with_conn w c (record x { flight = None })) c (record x { flight = None }) [] (there-place w c x e) (sym (append-nil w.lines)) refl (λ d. refl)

ends-frameless : (c : ℕ) (end : Ended) (f : Option Flight) → Frameless (ends c [] end (quiet f)).lines
ends-frameless c end f d = refl

reap-frameless : (c : ℕ) (kind : Option UpdateKind) (f : Option Flight) (step : ReapStep) → Frameless (reap_acts c kind f step).lines
reap-frameless c kind f (reaped.Ask a) d = refl
reap-frameless c kind f (reaped.Reaped z) d = refl
reap-frameless c kind f (reaped.Kept z) d = refl
reap-frameless c kind f (reaped.Gone z) d = refl

reaps-quiet : (w w' : World) (c : ℕ) (x : Conn) (r : Reap) (a : Option Answer) → place_at c w ≤ x.stream.place → Reaps c w a w' x r → Quiet w w'
reaps-quiet w w' c x r a le (inl e) = quiet-to w (leaves c w x Closed (ended_by c (cause.Damaged e.key e.value) x.flight)) w' e.result (leaves-quiet w c x Closed (ended_by c (cause.Damaged e.key e.value) x.flight) le (ends-frameless c (ended.Cause (cause.Damaged e.key e.value)) x.flight))
reaps-quiet w w' c x r a le (inr s) = quiet-to w (leaves c w x (after_reap s.next) (reap_acts c (kind_asked c (Reaper s.next)) x.flight s.step)) w' s.result
    (leaves-quiet w c x (after_reap s.next) (reap_acts c (kind_asked c (Reaper s.next)) x.flight s.step) le (reap-frameless c (kind_asked c (Reaper s.next)) x.flight s.step))

answer-quiet : (w w' : World) (c : ℕ) (x : Conn) (a : Answer) (actor : Actor) → conn_at c w ≡ Some x → AnswerComesTo c w x a w' actor → Quiet w w'
answer-quiet w w' c x a (Connection core) there h = handed-quiet w w' c (input.Answer a) h
answer-quiet w w' c x a (Reaper r) there h = reaps-quiet w w' c x r (Some a) (there-place w c x there) h
answer-quiet w w' c x a Closed there h = absurd h

failure-quiet : (w w' : World) (c : ℕ) (x : Conn) (actor : Actor) → conn_at c w ≡ Some x → FailureComesTo c w x w' actor → Quiet w w'
failure-quiet w w' c x (Connection core) there h = handed-quiet w w' c input.Failed h
failure-quiet w w' c x (Reaper r) there h = quiet-to w (leaves c w x Closed (ended_by c cause.LinkFault x.flight)) w' h (leaves-quiet w c x Closed (ended_by c cause.LinkFault x.flight) (there-place w c x there) (ends-frameless c (ended.Cause cause.LinkFault) x.flight))
failure-quiet w w' c x Closed there h = absurd h

delivers-quiet : (w w' : World) (c : ℕ) (f : Option Flight) → Delivers c w w' f → Quiet w w'
delivers-quiet w w' c None h = absurd h
delivers-quiet w w' c (Some (Out a)) h = absurd h
delivers-quiet w w' c (Some (Carried a)) (x, there, h) = quiet-then w (landed c w) w' (landed-quiet w c) (answer-quiet (landed c w) w' c x a x.actor there h)
delivers-quiet w w' c (Some Denied) (x, there, h) = quiet-then w (landed c w) w' (landed-quiet w c) (failure-quiet (landed c w) w' c x x.actor there h)

-- ---- a proxy restarts

stopped-quiet : (p : ℕ) (w : World) (es : List (ℕ × Conn)) → Distinct es → Gives (λ k. conn_at k w) es → Quiet w (fold (stopped p) w es)
stopped-quiet p w [] d g = quiet-same w w refl
stopped-quiet p w (e ∷ es) d g = go (is_open_at p e.1) (λ v. stopped-quiet p v es d.1)
  where
    go : (b : Bool) → ((v : World) → Gives (λ k. conn_at k v) es → Quiet v (fold (stopped p) v es)) → Quiet w (fold (stopped p) (if b then leaves e.0 w e.1 Closed (ended_by e.0 cause.Restart e.1.flight) else w) es)
    go false later = later w g.1
    go true later =
        let v : World = leaves e.0 w e.1 Closed (ended_by e.0 cause.Restart e.1.flight) in
        quiet-then w v (fold (stopped p) v es) (leaves-quiet w e.0 e.1 Closed (ended_by e.0 cause.Restart e.1.flight) (there-place w e.0 e.1 g.0) (ends-frameless e.0 (ended.Cause cause.Restart) e.1.flight)) (later v (gives-others w e.0 e.1 es d.0 g.1))

restart-quiet : (p : ℕ) (w : World) → Quiet w (restarted p w)
restart-quiet p w =
    let d = sorted-distinct (entries w.conns) (is-true (is_sorted nat_cmp (entries w.conns)) (entries_sorted w.conns)) in
    stopped-quiet p w (entries w.conns) d (gives-as (λ k. find nat_cmp k (entries w.conns)) (λ k. conn_at k w) (entries w.conns) (λ k. get-entries w.conns k) (all-found (entries w.conns) d))

-- ---- lines that bring no bytes

lapse-quiet : (w w' : World) (id : ℤ) (o : Option Store) → LapsesTo id w w' o → Quiet w w'
lapse-quiet w w' id None h = absurd h
lapse-quiet w w' id (Some s) h = quiet-to w _ w' h (alike-quiet w (record w { store = s; lines = w.lines ++ LapseLine (revision s) id ∷ [] }) (LapseLine (revision s) id ∷ []) refl refl (λ d. refl))

foreign-quiet : (w w' : World) (o : Option Store) → PutTo w w' o → Quiet w w'
foreign-quiet w w' None h = absurd h
foreign-quiet w w' (Some s) h = quiet-to w _ w' h (alike-quiet w (record w { store = s }) [] (sym (append-nil w.lines)) refl (λ d. refl))

enters-quiet : (w w' : World) (c : ℕ) (o : Option Entry) → EntersBy c w w' o → Quiet w w'
enters-quiet w w' c None h = absurd h
enters-quiet w w' c (Some e) (i, is, hd) = handed-quiet w w' c i hd

lags-quiet : (w w' : World) (c : ℕ) (o : Option ℤ) → LagsBy c w w' o → Quiet w w'
lags-quiet w w' c None h = absurd h
lags-quiet w w' c (Some z) hd = handed-quiet w w' c _ hd

end-quiet : (w w' : World) (c : ℕ) (o : Option Conn) → EndsBy c w w' o → Quiet w w'
end-quiet w w' c None h = absurd h
end-quiet w w' c (Some x) hd = handed-quiet w w' c _ hd

-- ---- bytes of a client

abbrev bytes_of : List (List ℕ) → ℕ
bytes_of [] = 0
bytes_of (f ∷ fs) = length f + bytes_of fs

-- frames of so many bytes come to a connection
record Brings (w w' : World) (c n : ℕ) : Type 0 where
  own : bytes_shown c w'.lines ≤ bytes_shown c w.lines + n
  others : (d : ℕ) → d ≢ c → bytes_shown d w'.lines ≤ bytes_shown d w.lines
  places : (d : ℕ) → place_at d w ≤ place_at d w'

frame-own : (c i : ℕ) (z : ℤ) (f : List ℕ) → bytes_in c (FrameLine c i z f) ≡ length f
frame-own c i z f = ap (λ b. if b then length f else 0) (same-number c c refl)

frame-other : (d c i : ℕ) (z : ℤ) (f : List ℕ) → d ≢ c → bytes_in d (FrameLine c i z f) ≡ 0
frame-other d c i z f apart = ap (λ b. if b then length f else 0) (other-number d c apart)

frames-own : (c i : ℕ) (z : ℤ) (fs : List (List ℕ)) → bytes_shown c (frame_lines c i z fs) ≡ bytes_of fs
frames-own c i z [] = refl
frames-own c i z (f ∷ fs) = omega (arith, frame-own c i z f, frames-own c (counted_up (i + 1)) z fs)

frames-other : (d c i : ℕ) (z : ℤ) (fs : List (List ℕ)) → d ≢ c → bytes_shown d (frame_lines c i z fs) ≡ 0
frames-other d c i z [] apart = refl
frames-other d c i z (f ∷ fs) apart = omega (arith, frame-other d c i z f apart, frames-other d c (counted_up (i + 1)) z fs apart)

module _ (c : ℕ) (w mid : World) (x : Conn) (f : List ℕ) (fs : List (List ℕ)) (found : conn_at c w ≡ Some x) (hd : Handed c (frame_lines c (counted_up (x.frames + 1)) (zxid_at w.store) fs) (shown_frame c w x f) (input.Frame f) mid) where
  after : List TranscriptLine
  after = frame_lines c (counted_up (x.frames + 1)) (zxid_at w.store) fs

  o : StepOutcome
  o = acts_all c (kind_asked c (Connection hd.next)) (frame_lines c (counted_up (x.frames + 1)) (zxid_at w.store) fs) hd.conn.flight hd.out

  one-shown : (d : ℕ) → bytes_shown d mid.lines ≤ bytes_shown d w.lines + bytes_in d (FrameLine c x.frames (zxid_at w.store) f) + shown_if (is_shut hd.next.stage) (bytes_shown d (frame_lines c (counted_up (x.frames + 1)) (zxid_at w.store) fs))
  one-shown d =
      let ls = frame_lines c (counted_up (x.frames + 1)) (zxid_at w.store) fs in
      let out = acts_all c (kind_asked c (Connection hd.next)) ls hd.conn.flight hd.out in
      omega (
        arith,
        ap (λ (u : World). bytes_shown d u.lines) hd.result,
        shown-append d (w.lines ++ FrameLine c x.frames (zxid_at w.store) f ∷ []) out.lines,
        shown-append d w.lines (FrameLine c x.frames (zxid_at w.store) f ∷ []),
        step-shown d c (kind_asked c (Connection hd.next)) ls hd.conn.flight hd.core hd.next (input.Frame f) w.clock hd.out hd.stepped,
      )

  one-places : (d : ℕ) → place_at d w ≤ place_at d mid
  one-places d =
      let w1 = shown_frame c w x f in
      let ls = frame_lines c (counted_up (x.frames + 1)) (zxid_at w.store) fs in
      let out = acts_all c (kind_asked c (Connection hd.next)) ls hd.conn.flight hd.out in
      let first = with-places w c (record x { frames = counted_up (x.frames + 1) }) (there-place w c x found) d in
      let then_ = with-places w1 c (record (hd.conn) { actor = after_step hd.next; flight = out.flight }) (there-place w1 c hd.conn hd.found) d in
      omega (arith, first, then_, ap (place_at d) hd.result)

  -- it goes on
  still-open : is_open_conn (conn_at c mid) ≡ true → is_shut hd.next.stage ≡ false
  still-open e = go (is_shut hd.next.stage) refl
    where
      w1 : World
      w1 = shown_frame c w x f

      now : conn_at c mid ≡ Some (record (hd.conn) { actor = after_step hd.next; flight = (acts_all c (kind_asked c (Connection hd.next)) (frame_lines c (counted_up (x.frames + 1)) (zxid_at w.store) fs) hd.conn.flight hd.out).flight })
      now = ap (conn_at c) hd.result ∙ conn-here (shown_frame c w x f) c (record (hd.conn) { actor = after_step hd.next; flight = (acts_all c (kind_asked c (Connection hd.next)) (frame_lines c (counted_up (x.frames + 1)) (zxid_at w.store) fs) hd.conn.flight hd.out).flight })

      go : (b : Bool) → is_shut hd.next.stage ≡ b → b ≡ false
      go false f = refl
      go true f = absurd (true-false (sym e ∙ ap is_open_conn now ∙ ap (λ b. not (is_closed_actor (if b then Closed else Connection hd.next))) f))

  goes-brings : is_shut hd.next.stage ≡ false → Brings w mid c (length f)
  goes-brings going = record {
    own = omega (arith, one-shown c, frame-own c x.frames (zxid_at w.store) f, ap (λ b. shown_if b (bytes_shown c (frame_lines c (counted_up (x.frames + 1)) (zxid_at w.store) fs))) going);
    others = λ d apart. omega (arith, one-shown d, frame-other d c x.frames (zxid_at w.store) f apart, ap (λ b. shown_if b (bytes_shown d (frame_lines c (counted_up (x.frames + 1)) (zxid_at w.store) fs))) going);
    places = one-places;
  }

  if-most : (b : Bool) (m : ℕ) → shown_if b m ≤ m
  if-most true m = omega arith
  if-most false m = omega arith

  ends-brings : Brings w mid c (length f + bytes_of fs)
  ends-brings = record {
    own = omega (
      arith,
      one-shown c,
      frame-own c x.frames (zxid_at w.store) f,
      if-most (is_shut hd.next.stage) (bytes_shown c (frame_lines c (counted_up (x.frames + 1)) (zxid_at w.store) fs)),
      frames-own c (counted_up (x.frames + 1)) (zxid_at w.store) fs,
    );
    others = λ d apart. omega (
      arith,
      one-shown d,
      frame-other d c x.frames (zxid_at w.store) f apart,
      if-most (is_shut hd.next.stage) (bytes_shown d (frame_lines c (counted_up (x.frames + 1)) (zxid_at w.store) fs)),
      frames-other d c (counted_up (x.frames + 1)) (zxid_at w.store) fs apart,
    );
    places = one-places;
  }

brings-then : (u v w : World) (c m n : ℕ) → Brings u v c m → Brings v w c n → Brings u w c (m + n)
brings-then u v w c m n a b = record { own = omega (arith, a.own, b.own); others = λ d apart. omega (arith, a.others d apart, b.others d apart); places = λ d. omega (arith, a.places d, b.places d) }

frames-brings : (c : ℕ) (w w' : World) (fs : List (List ℕ)) → FramesArrive c w fs w' → Brings w w' c (bytes_of fs)
frames-brings c w w' [] h = record { own = omega (arith, ap (λ (v : World). bytes_shown c v.lines) h); others = λ d apart. omega (arith, ap (λ (v : World). bytes_shown d v.lines) h); places = λ d. omega (arith, ap (place_at d) h) }
frames-brings c w w' (f ∷ fs) (x, mid, found, hd, rest) = go (is_open_conn (conn_at c mid)) refl (frames-brings c mid w' fs) rest
  where
    go : (b : Bool) → is_open_conn (conn_at c mid) ≡ b → (FramesArrive c mid fs w' → Brings mid w' c (bytes_of fs)) → MatchBool b (FramesArrive c mid fs w') (w' ≡ mid) → Brings w w' c (length f + bytes_of fs)
    go true e later r = brings-then w mid w' c (length f) (bytes_of fs) (goes-brings c w mid x f fs found hd (still-open c w mid x f fs found hd e)) (later r)
    go false e later r = subst (λ v. Brings w v c (length f + bytes_of fs)) (sym r) (ends-brings c w mid x f fs found hd)

spelled-long : (fs : List (List ℕ)) (front : List ℕ) → Spelled IsFrame fs front → bytes_of fs ≤ length front
spelled-long [] front h = omega arith
spelled-long (f ∷ fs) front (a, rest, (head, int, small, e), more, g) = omega (arith, spelled-long fs rest more, ap (λ (l : List ℕ). length l) e, length-append head f, ap (λ (l : List ℕ). length l) g, length-append a rest)

badly-quiet : (c : ℕ) (w w' : World) (place : ℕ) (bad : Option ℤ) → EndsBadly c w place bad w' → Quiet w w'
badly-quiet c w w' place None h = quiet-same w w' h
badly-quiet c w w' place (Some n) h = go (is_open_conn (conn_at c w)) h
  where
    go : (b : Bool) → MatchBool b (Handed c [] w (input.BadLength place n) w') (w' ≡ w) → Quiet w w'
    go true hd = handed-quiet w w' c (input.BadLength place n) hd
    go false e = quiet-same w w' e

-- ---- they stay counted

counts-quiet : (w w' : World) → Quiet w w' → CountsBytes w → CountsBytes w'
counts-quiet w w' q k = record { each = λ c. elim (k.each c) [ inl less ↦ inl (omega (arith, less, q.lines c, q.places c)) | inr full ↦ inr (omega (arith, full, q.places c)) ] }

arrives-counts : (c : ℕ) (w w' : World) (bytes : List ℕ) → Arrives c w bytes w' → CountsBytes w → CountsBytes w'
arrives-counts c w w' bytes a k = record { each = λ d. by d (either-number d c) }
  where
    w1 : World
    w1 = with_conn w c (record (a.conn) { stream = a.stream })

    brings : Brings w1 a.mid c (bytes_of a.frames)
    brings = frames-brings c (with_conn w c (record (a.conn) { stream = a.stream })) a.mid a.frames a.arrive

    quiet_then : Quiet a.mid w'
    quiet_then = badly-quiet c a.mid w' a.stream.place a.bad a.ends

    consumed : bytes_of a.frames ≤ length (a.conn.stream.rest ++ bytes) - length (a.cuts).rest
    consumed =
        let f = (a.cuts).framed in
        omega (arith, spelled-long a.frames f.0 f.1, ap (λ (l : List ℕ). length l) f.2, length-append f.0 (a.cuts).rest)

    at_c : place_at c (with_conn w c (record (a.conn) { stream = a.stream })) ≡ counted_up (a.conn.stream.place + (length (a.conn.stream.rest ++ bytes) - length (a.cuts).rest))
    at_c = ap place_of (conn-here w c (record (a.conn) { stream = a.stream })) ∙ (a.cuts).place

    own : (n : ℕ) → bytes_of a.frames ≤ n → place_at c (with_conn w c (record (a.conn) { stream = a.stream })) ≡ counted_up (a.conn.stream.place + n) → (bytes_shown c w'.lines ≤ place_at c w') ⊎ (max_count ≤ place_at c w')
    own n le now = elim (nat-either (a.conn.stream.place + n) max_count) [
      | inr full ↦ inr (omega (arith, now, full, brings.places c, quiet_then.places c))
      | inl less ↦ elim (k.each c) [
        | inl h ↦ inl (omega (arith, now, less, le, h, ap place_of a.found, brings.own, brings.places c, quiet_then.lines c, quiet_then.places c))
        | inr full ↦ absurd (omega (arith, full, less, ap place_of a.found))
      ]
    ]

    by : (d : ℕ) → (d ≡ c) ⊎ (d ≢ c) → (bytes_shown d w'.lines ≤ place_at d w') ⊎ (max_count ≤ place_at d w')
    by d (inl same) = subst (λ n. (bytes_shown n w'.lines ≤ place_at n w') ⊎ (max_count ≤ place_at n w')) (sym same) (own (length (a.conn.stream.rest ++ bytes) - length (a.cuts).rest) consumed at_c)
    by d (inr apart) =
        let there = ap place_of (conn-there w c d (record (a.conn) { stream = a.stream }) apart) in
        elim (k.each d) [
          | inl h ↦ inl (omega (arith, h, there, brings.others d apart, brings.places d, quiet_then.lines d, quiet_then.places d))
          | inr full ↦ inr (omega (arith, full, there, brings.places d, quiet_then.places d))
        ]

-- ---- each line

free-place : (w : World) (c : ℕ) (x : Conn) → conn_at c w ≡ None → place_at c w ≤ x.stream.place
free-place w c x none = omega (arith, ap place_of none)

number-free : (o : Option Conn) → if_fails (is_some o) why.NumberInUse None ≡ None → o ≡ None
number-free None h = refl
number-free (Some x) h = absurd (none_some (sym h))

does-counts : (w w' : World) (h : Happening) → fault w h ≡ None → Does w h w' → CountsBytes w → CountsBytes w'
unfolding fault
does-counts w w' (line.Open c p id passwd layout) free h k =
    let v : Conn = new_conn p (Connection (new_core (record { id = id; passwd = passwd; layout = layout }))) in
    counts-quiet w w' (quiet-to w (opened w c p (record { id = id; passwd = passwd; layout = layout })) w' h (lines-quiet w (opened w c p (record { id = id; passwd = passwd; layout = layout })) c v (Open c p id passwd layout ∷ []) (free-place w c v (number-free (conn_at c w) free)) refl refl (λ d. refl))) k
does-counts w w' (line.Frame c bytes) free h k = arrives-counts c w w' (with_length bytes) h k
does-counts w w' (line.Arrive c bytes) free h k = arrives-counts c w w' bytes h k
does-counts w w' (line.Exec c) free h k = counts-quiet w w' (exec-quiet w w' c h) k
does-counts w w' (line.Answer c) free h k = counts-quiet w w' (delivers-quiet w w' c (flight_at c w) h) k
does-counts w w' (line.Cut c) free (x, there, h) k = counts-quiet w w' (failure-quiet w w' c x x.actor there h) k
does-counts w w' (line.Refuse c) free (x, there, h) k = counts-quiet w w' (quiet-then w (landed c w) w' (landed-quiet w c) (failure-quiet (landed c w) w' c x x.actor there h)) k
does-counts w w' (line.Stray n) free h k = counts-quiet w w' (stray-quiet w w' n h) k
does-counts w w' (line.Entry c) free h k = counts-quiet w w' (enters-quiet w w' c (next_entry c w) h) k
does-counts w w' (line.Lag c) free h k = counts-quiet w w' (lags-quiet w w' c (cursor_at c w) h) k
does-counts w w' (line.End c) free h k = counts-quiet w w' (end-quiet w w' c (conn_at c w) h) k
does-counts w w' (line.Restart p) free h k = counts-quiet w w' (quiet-to w (restarted p w) w' h (restart-quiet p w)) k
does-counts w w' (line.Lapse id) free h k = counts-quiet w w' (lapse-quiet w w' id (lapse w.store id) h) k
does-counts w w' (line.Foreign key v) free h k = counts-quiet w w' (foreign-quiet w w' (foreign w.store key v) h) k
does-counts w w' (line.Reap c p id) free h k = counts-quiet w w' (reaps-quiet w w' c (new_reaper p id) (new_reap id) None (free-place w c (new_reaper p id) (number-free (conn_at c w) free)) h) k
does-counts w w' (line.Tick n) free h k = counts-quiet w w' (quiet-to w _ w' h (alike-quiet w (record w { clock = w.clock + n }) [] (sym (append-nil w.lines)) refl (λ d. refl))) k
does-counts w w' (line.Settle c) free h k = absurd h

-- ---- settle

settling-quiet : (c : ℕ) (w w' : World) (h : Happening) → Settling c w h → Does w h w' → Quiet w w'
settling-quiet c w w' _ carries h = exec-quiet w w' c h
settling-quiet c w w' _ answers h = delivers-quiet w w' c (flight_at c w) h
settling-quiet c w w' _ (enters idle) h = enters-quiet w w' c (next_entry c w) h

abbrev SettlesOn : ℕ → ℕ → World → World → Option Happening → Type 0
SettlesOn n c w w' o = elim o [ None ↦ w' ≡ w | Some h ↦ (mid : World) × Does w h mid × Settles n c mid w' ]

settles-quiet : (n c : ℕ) (w w' : World) → Settles n c w w' → Quiet w w'
settles-quiet zero c w w' h = quiet-same w w' h
settles-quiet (suc n) c w w' h = go (settling c w) refl (λ mid. settles-quiet n c mid w') h
  where
    go : (o : Option Happening) → settling c w ≡ o → ((mid : World) → Settles n c mid w' → Quiet mid w') → SettlesOn n c w w' o → Quiet w w'
    go None e later g = quiet-same w w' g
    go (Some x) e later (mid, does, rest) = quiet-then w mid w' (settling-quiet c w mid x (settling-is c w x e) does) (later mid rest)

effect-counts : (w w' : World) (h : Happening) → fault w h ≡ None → Effect w h w' → CountsBytes w → CountsBytes w'
effect-counts w w' (line.Settle c) free h k = counts-quiet w w' (settles-quiet (max_settling c w) c w w' h) k
effect-counts w w' (line.Open c p id passwd layout) free h k = does-counts w w' (line.Open c p id passwd layout) free h k
effect-counts w w' (line.Frame c bytes) free h k = does-counts w w' (line.Frame c bytes) free h k
effect-counts w w' (line.Arrive c bytes) free h k = does-counts w w' (line.Arrive c bytes) free h k
effect-counts w w' (line.Exec c) free h k = does-counts w w' (line.Exec c) free h k
effect-counts w w' (line.Answer c) free h k = does-counts w w' (line.Answer c) free h k
effect-counts w w' (line.Cut c) free h k = does-counts w w' (line.Cut c) free h k
effect-counts w w' (line.Refuse c) free h k = does-counts w w' (line.Refuse c) free h k
effect-counts w w' (line.Stray n) free h k = does-counts w w' (line.Stray n) free h k
effect-counts w w' (line.Entry c) free h k = does-counts w w' (line.Entry c) free h k
effect-counts w w' (line.Lag c) free h k = does-counts w w' (line.Lag c) free h k
effect-counts w w' (line.End c) free h k = does-counts w w' (line.End c) free h k
effect-counts w w' (line.Restart p) free h k = does-counts w w' (line.Restart p) free h k
effect-counts w w' (line.Lapse id) free h k = does-counts w w' (line.Lapse id) free h k
effect-counts w w' (line.Foreign key v) free h k = does-counts w w' (line.Foreign key v) free h k
effect-counts w w' (line.Reap c p id) free h k = does-counts w w' (line.Reap c p id) free h k
effect-counts w w' (line.Tick n) free h k = does-counts w w' (line.Tick n) free h k

pub happens-counts : (w w' : World) (h : Happening) → Happens w h w' → CountsBytes w → CountsBytes w'
happens-counts w w' h p k = effect-counts w w' h p.possible p.effect k

-- ---- a whole script

pub first-counts : (w : World) → IsFirst w → CountsBytes w
first-counts w (s, a, e, is) = subst CountsBytes (sym is) (record { each = λ c. inl (omega arith) })

pub runs-counts : (w w' : World) (hs : List Happening) (ticks : List Tick) → RunsFrom w hs ticks w' → CountsBytes w → CountsBytes w'
runs-counts w w' [] ticks (none, same) k = subst CountsBytes (sym same) k
runs-counts w w' (h ∷ hs) ticks (mid, more, one, e, rest) k = runs-counts mid w' hs more rest (happens-counts w mid h one k)
