-- Each line of a script leaves the store and the transcript as they were, or longer; and but for a restart it leaves all connections
-- as they were but one.
use Rattle.ev_types.specs.Denials.{carry, has_lease, is_denied, is_full_store}
use Rattle.ev_types.specs.Lapses.{foreign, lapse, leased_keys, removals}
use Rattle.ev_types.specs.Store.{Change, Puts, Store, carried_out, chosen, grown, revision, succeeds, txn_done, worked}
use Rattle.ev_types.specs.declared.answer.Answer.{Answer}
use Rattle.ev_types.specs.declared.ask.Ask.{Ask}
use Rattle.ev_types.specs.declared.ask.Ask.TheVariants as ask
use Rattle.std.proofs.Common.{Bool, List, [], ap, append-nil, append_assoc, false, inl, inr, refl, subst, sym, true, ℕ, ℤ, pos, zero, suc, ◌++◌, ◌+◌, ◌-◌, ◌∙◌, ◌∷◌, ◌≡◌, ◌≢◌}
use Rattle.std.specs.FinMap.{entries, entries_sorted, find, get, get-entries, is_sorted}
use Rattle.std.specs.Ordering.{nat_cmp}
use Rattle.std.specs.Prelude.{MatchBool, None, Option, Some, fold, if◌then◌else◌, not, slice_set, ◌||◌, ◌⊎◌}
use Rattle.zk_model.specs.declared.layout.Layout.{Layout}
use Rattle.zk_jute.specs.JuteWriting.{with_length}
use Rattle.zk_transcript.specs.Legal.{Tick}
use Rattle.zk_service.specs.declared.cause.Cause.TheVariants as cause
use Rattle.zk_transcript.specs.declared.transcript.TranscriptLine.TheVariants.{Frame as FrameLine, Lapse as LapseLine, Open}
use Rattle.zk_transcript.specs.declared.transcript.TranscriptLine.{TranscriptLine}
use Rattle.zn_layout.specs.declared.entry.Entry.{Entry}
use Rattle.zs_reap.specs.declared.reap.Reap.{Reap}
use Rattle.zt_text.specs.declared.script.Happening.TheVariants as line
use Rattle.zt_text.specs.declared.script.Happening.{Happening}
use Rattle.zx_base.proofs.Options.{none_some, some_is}
use Rattle.zp_laws.specs.Inputs.{Precedes}
use Rattle.zp_step.specs.Stages.{counted_up, new_core}
use Rattle.zp_step.specs.declared.input.Input.TheVariants as input
use Rattle.zp_step.specs.declared.input.Input.{Input}
use Rattle.zp_script.specs.Arriving.{Arrives, EndsBadly, FramesArrive, frame_lines, shown_frame}
use Rattle.zp_script.specs.Carrying.{CarriedBy, CarriesOut, Executes, ExecutesStray}
use Rattle.zp_script.specs.Effects.{Delivers, Does, EndsBy, EntersBy, LagsBy, LapsesTo, PutTo, is_open_at, new_conn, new_reap, new_reaper, opened, restarted, stopped}
use Rattle.zp_script.specs.Entries.{cursor_at, next_entry}
use Rattle.zp_script.specs.Faults.{flight_at}
use Rattle.zp_script.specs.Handing.{AnswerComesTo, FailureComesTo, Handed, Reaps, landed, landed_conn}
use Rattle.zp_script.specs.Happens.{Effect, Settles, max_settling, settling}
use Rattle.zp_script.specs.Kinds.{kind_asked}
use Rattle.zp_script.specs.Runs.{RunsFrom}
use Rattle.zp_script.specs.StepOutcomes.{StepOutcome, acts_all, ended_by, leaves, reap_acts}
use Rattle.zp_script.specs.Worlds.{Actor, Closed, Conn, Connection, Reaper, World, after_reap, after_step, conn_at, is_open_conn, with_conn, zxid_at}
use Rattle.zp_script.specs.declared.flight.Asking.{Asking}
use Rattle.zp_script.specs.declared.flight.Flight.TheVariants.{Carried, Denied, Out}
use Rattle.zp_script.specs.declared.flight.Flight.{Flight}
use Rattle.zp_world_laws.proofs.Effects.{foreign-precedes, lapse-precedes, stored-in}
use Rattle.zp_world_laws.proofs.Executing.{precedes-self}
use Rattle.zp_world_laws.proofs.Growing.{precedes-trans}
use Rattle.zp_world_laws.proofs.Kept.{carry-precedes}
use Rattle.zp_world_laws.proofs.Numbers.{conn-there, either-number}
use Rattle.zp_world_laws.proofs.Restarting.{Gives, all-found, gives-as, sorted-distinct}
use Rattle.zp_world_laws.proofs.Running.{Settling, SettlesOn, answers, carries, enters, settling-is}
use Rattle.zp_world_laws.specs.Serving.{update_lines}
use Rattle.zx_base.proofs.Booleans.{true-from_T as is-true, true-not_false as true-false}

-- ---- a store

pub record Later (s u : Store) : Type 0 where
  pub floor : u.floor ≡ s.floor
  pub before : Precedes s u

later-self : (s : Store) → Later s s
later-self s = record { floor = refl; before = precedes-self s }

later-then : (s u v : Store) → Later s u → Later u v → Later s v
later-then s u v a b = record { floor = b.floor ∙ a.floor; before = precedes-trans s u v a.before b.before }

grown-floor : (s : Store) (cs : List Change) → (grown s cs).floor ≡ s.floor
grown-floor s [] = refl
grown-floor s (c ∷ cs) = refl

out-floor : (s : Store) (q : Ask) → (carried_out s q).0.floor ≡ s.floor
unfolding carried_out txn_done
out-floor s (ask.Txn t) = grown-floor s (worked s (chosen (succeeds s t) t)).changes
out-floor s (ask.Range q) = refl
out-floor s (ask.Grant id ttl) = refl
out-floor s (ask.Alive id) = refl

carry-floor : (s u : Store) (q : Ask) (a : Answer) → carry s q ≡ Some (u, a) → u.floor ≡ s.floor
unfolding carry
carry-floor s u q a h = go (is_denied s q) h
  where
    go : (b : Bool) → (if b then None else Some (carried_out s q)) ≡ Some (u, a) → u.floor ≡ s.floor
    go true e = absurd (none_some e)
    go false e = ap (λ (x : Store × Answer). x.0.floor) (sym (some_is e)) ∙ out-floor s q

pub carry-later : (s u : Store) (q : Ask) (a : Answer) → carry s q ≡ Some (u, a) → Later s u
carry-later s u q a h = record { floor = carry-floor s u q a h; before = carry-precedes s u q a h }

if-floor : (b : Bool) (s x u : Store) → x.floor ≡ s.floor → (if b then None else Some x) ≡ Some u → u.floor ≡ s.floor
if-floor true s x u same e = absurd (none_some e)
if-floor false s x u same e = ap (λ (y : Store). y.floor) (sym (some_is e)) ∙ same

lapse-later : (s u : Store) (id : ℤ) → lapse s id ≡ Some u → Later s u
unfolding lapse
lapse-later s u id h = record {
  floor = if-floor (not (has_lease s id) || is_full_store s (removals (leased_keys s id))) s _ u (grown-floor _ (removals (leased_keys s id))) h;
  before = (lapse-precedes s u id h).0;
}

foreign-later : (s u : Store) (k v : List ℕ) → foreign s k v ≡ Some u → Later s u
unfolding foreign
foreign-later s u k v h = record { floor = if-floor (is_full_store s (Puts k v (pos 0) ∷ [])) s _ u (grown-floor s (Puts k v (pos 0) ∷ [])) h; before = foreign-precedes s u k v h }

-- ---- a world

pub record Grows (w w' : World) : Type 0 where
  pub store : Later w.store w'.store
  pub more : List TranscriptLine
  pub lines : w'.lines ≡ w.lines ++ more

pub grows-same : (w w' : World) → w' ≡ w → Grows w w'
grows-same w w' e = record { store = subst (λ (v : World). Later w.store v.store) (sym e) (later-self w.store); more = []; lines = ap (λ (v : World). v.lines) e ∙ sym (append-nil w.lines) }

pub grows-then : (u v w : World) → Grows u v → Grows v w → Grows u w
grows-then u v w a b = record { store = later-then u.store v.store w.store a.store b.store; more = a.more ++ b.more; lines = b.lines ∙ ap (λ l. l ++ b.more) a.lines ∙ append_assoc u.lines a.more b.more }

-- one connection changes
pub record Onward (c : ℕ) (w w' : World) : Type 0 where
  pub grows : Grows w w'
  pub others : (d : ℕ) → d ≢ c → conn_at d w' ≡ conn_at d w

onward-same : (c : ℕ) (w w' : World) → w' ≡ w → Onward c w w'
onward-same c w w' e = record { grows = grows-same w w' e; others = λ d apart. ap (conn_at d) e }

onward-then : (c : ℕ) (u v w : World) → Onward c u v → Onward c v w → Onward c u w
onward-then c u v w a b = record { grows = grows-then u v w a.grows b.grows; others = λ d apart. b.others d apart ∙ a.others d apart }

onward-to : (c : ℕ) (w v w' : World) → w' ≡ v → Onward c w v → Onward c w w'
onward-to c w v w' e o = subst (Onward c w) (sym e) o

with-onward : (w : World) (c : ℕ) (v : Conn) (more : List TranscriptLine) (w' : World) → w'.store ≡ w.store → w'.lines ≡ w.lines ++ more → w'.conns ≡ (with_conn w c v).conns → Onward c w w'
with-onward w c v more w' store lines conns = record {
  grows = record { store = subst (Later w.store) (sym store) (later-self w.store); more = more; lines = lines };
  others = λ d apart. ap (λ m. get m d) conns ∙ conn-there w c d v apart;
}

-- all connections stay
stored-onward : (c : ℕ) (w w' : World) (more : List TranscriptLine) → Later w.store w'.store → w'.lines ≡ w.lines ++ more → w'.conns ≡ w.conns → Onward c w w'
stored-onward c w w' more later lines conns = record { grows = record { store = later; more = more; lines = lines }; others = λ d apart. ap (λ m. get m d) conns }

leaves-onward : (w : World) (c : ℕ) (x : Conn) (actor : Actor) (o : StepOutcome) → Onward c w (leaves c w x actor o)
leaves-onward w c x actor o = with-onward w c (record x { actor = actor; flight = o.flight }) o.lines (leaves c w x actor o) refl refl refl

pub handed-onward : (w w' : World) (c : ℕ) (after : List TranscriptLine) (i : Input) → Handed c after w i w' → Onward c w w'
handed-onward w w' c after i hd = onward-to c w (leaves c w hd.conn (after_step hd.next) (acts_all c (kind_asked c (Connection hd.next)) after hd.conn.flight hd.out)) w' hd.result
    (leaves-onward w c hd.conn (after_step hd.next) (acts_all c (kind_asked c (Connection hd.next)) after hd.conn.flight hd.out))

-- ---- frames

pub shown-onward : (w : World) (c : ℕ) (x : Conn) (f : List ℕ) → Onward c w (shown_frame c w x f)
shown-onward w c x f = with-onward w c (record x { frames = counted_up (x.frames + 1) }) (FrameLine c x.frames (zxid_at w.store) f ∷ []) (shown_frame c w x f) refl refl refl

pub frames-onward : (c : ℕ) (w w' : World) (fs : List (List ℕ)) → FramesArrive c w fs w' → Onward c w w'
frames-onward c w w' [] h = onward-same c w w' h
frames-onward c w w' (f ∷ fs) (x, mid, found, hd, rest) = go (is_open_conn (conn_at c mid)) (frames-onward c mid w' fs) rest
  where
    one : Onward c w mid
    one = onward-then c w (shown_frame c w x f) mid (shown-onward w c x f) (handed-onward (shown_frame c w x f) mid c (frame_lines c (counted_up (x.frames + 1)) (zxid_at w.store) fs) (input.Frame f) hd)

    go : (b : Bool) → (FramesArrive c mid fs w' → Onward c mid w') → MatchBool b (FramesArrive c mid fs w') (w' ≡ mid) → Onward c w w'
    go true later r = onward-then c w mid w' one (later r)
    go false later r = onward-to c w mid w' r one

pub badly-onward : (c : ℕ) (w w' : World) (place : ℕ) (bad : Option ℤ) → EndsBadly c w place bad w' → Onward c w w'
badly-onward c w w' place None h = onward-same c w w' h
badly-onward c w w' place (Some n) h = go (is_open_conn (conn_at c w)) h
  where
    go : (b : Bool) → MatchBool b (Handed c [] w (input.BadLength place n) w') (w' ≡ w) → Onward c w w'
    go true hd = handed-onward w w' c [] (input.BadLength place n) hd
    go false e = onward-same c w w' e

arrives-onward : (c : ℕ) (w w' : World) (bytes : List ℕ) → Arrives c w bytes w' → Onward c w w'
arrives-onward c w w' bytes a =
    let v : Conn = record (a.conn) { stream = a.stream } in
    let w1 : World = with_conn w c v in
    onward-then c w w1 w' (with-onward w c v [] w1 refl (sym (append-nil w.lines)) refl) (onward-then c w1 a.mid w' (frames-onward c w1 a.mid a.frames a.arrive) (badly-onward c a.mid w' (a.stream).place a.bad a.ends))

-- ---- what is carried out

pub record CarriedOn (w mid : World) : Type 0 where
  pub store : Later w.store mid.store
  pub more : List TranscriptLine
  pub lines : mid.lines ≡ w.lines ++ more
  pub conns : mid.conns ≡ w.conns

pub carried-on : (w mid : World) (a : Asking) (f : Flight) → CarriesOut w a f mid → CarriedOn w mid
carried-on w mid a f h = go (carry w.store a.ask) refl h
  where
    go : (o : Option (Store × Answer)) → carry w.store a.ask ≡ o → CarriedBy w a.kind f mid o → CarriedOn w mid
    go None e p = record { store = subst (λ (v : World). Later w.store v.store) (sym p.1) (later-self w.store); more = []; lines = ap (λ (v : World). v.lines) p.1 ∙ sym (append-nil w.lines); conns = ap (λ (v : World). v.conns) p.1 }
    go (Some r) e p =
        let st = stored-in w mid r.0 a.kind p.1 in
        record { store = subst (Later w.store) (sym st.store) (carry-later w.store r.0 a.ask r.1 e); more = update_lines w.store r.0 a.kind; lines = st.lines; conns = st.conns }

exec-onward : (w w' : World) (c : ℕ) → Executes c w w' → Onward c w w'
exec-onward w w' c ex =
    let g = carried-on w ex.mid ex.asking ex.flight ex.carries in
    let v : Conn = record (ex.conn) { flight = Some ex.flight } in
    onward-to c w (with_conn ex.mid c v) w' ex.result (
    onward-then c w ex.mid (with_conn ex.mid c v) (stored-onward c w ex.mid g.more g.store g.lines g.conns) (with-onward ex.mid c v [] (with_conn ex.mid c v) refl (sym (append-nil ex.mid.lines)) refl)
    )

stray-onward : (c : ℕ) (w w' : World) (k : ℕ) → ExecutesStray k w w' → Onward c w w'
stray-onward c w w' k ex =
    let g = carried-on w ex.mid ex.asking ex.flight ex.carries in
    onward-to c w (record (ex.mid) { strays = slice_set ex.mid.strays (k - 1) None }) w' ex.result (stored-onward c w (record (ex.mid) { strays = slice_set ex.mid.strays (k - 1) None }) g.more g.store g.lines g.conns)

-- ---- what is delivered

landed-onward : (w : World) (c : ℕ) → Onward c w (landed c w)
landed-onward w c = go (conn_at c w)
  where
    go : (o : Option Conn) → Onward c w (landed_conn c w o)
    go None = onward-same c w w refl
    go (Some x) = with-onward w c (record x { flight = None }) [] (with_conn w c (record x { flight = None })) refl (sym (append-nil w.lines)) refl

reaps-onward : (w w' : World) (c : ℕ) (x : Conn) (r : Reap) (a : Option Answer) → Reaps c w a w' x r → Onward c w w'
reaps-onward w w' c x r a (inl e) = onward-to c w (leaves c w x Closed (ended_by c (cause.Damaged e.key e.value) x.flight)) w' e.result (leaves-onward w c x Closed (ended_by c (cause.Damaged e.key e.value) x.flight))
reaps-onward w w' c x r a (inr s) = onward-to c w (leaves c w x (after_reap s.next) (reap_acts c (kind_asked c (Reaper s.next)) x.flight s.step)) w' s.result (leaves-onward w c x (after_reap s.next) (reap_acts c (kind_asked c (Reaper s.next)) x.flight s.step))

answer-onward : (w w' : World) (c : ℕ) (x : Conn) (a : Answer) (actor : Actor) → AnswerComesTo c w x a w' actor → Onward c w w'
answer-onward w w' c x a (Connection core) h = handed-onward w w' c [] (input.Answer a) h
answer-onward w w' c x a (Reaper r) h = reaps-onward w w' c x r (Some a) h
answer-onward w w' c x a Closed h = absurd h

failure-onward : (w w' : World) (c : ℕ) (x : Conn) (actor : Actor) → FailureComesTo c w x w' actor → Onward c w w'
failure-onward w w' c x (Connection core) h = handed-onward w w' c [] input.Failed h
failure-onward w w' c x (Reaper r) h = onward-to c w (leaves c w x Closed (ended_by c cause.LinkFault x.flight)) w' h (leaves-onward w c x Closed (ended_by c cause.LinkFault x.flight))
failure-onward w w' c x Closed h = absurd h

delivers-onward : (w w' : World) (c : ℕ) (f : Option Flight) → Delivers c w w' f → Onward c w w'
delivers-onward w w' c None h = absurd h
delivers-onward w w' c (Some (Out a)) h = absurd h
delivers-onward w w' c (Some (Carried a)) (x, there, h) = onward-then c w (landed c w) w' (landed-onward w c) (answer-onward (landed c w) w' c x a x.actor h)
delivers-onward w w' c (Some Denied) (x, there, h) = onward-then c w (landed c w) w' (landed-onward w c) (failure-onward (landed c w) w' c x x.actor h)

enters-onward : (w w' : World) (c : ℕ) (o : Option Entry) → EntersBy c w w' o → Onward c w w'
enters-onward w w' c None h = absurd h
enters-onward w w' c (Some e) (i, is, hd) = handed-onward w w' c [] i hd

lags-onward : (w w' : World) (c : ℕ) (o : Option ℤ) → LagsBy c w w' o → Onward c w w'
lags-onward w w' c None h = absurd h
lags-onward w w' c (Some z) hd = handed-onward w w' c [] _ hd

ends-onward : (w w' : World) (c : ℕ) (o : Option Conn) → EndsBy c w w' o → Onward c w w'
ends-onward w w' c None h = absurd h
ends-onward w w' c (Some x) hd = handed-onward w w' c [] _ hd

-- ---- a proxy restarts: the connections of others stay

stopped-grows : (p : ℕ) (w : World) (es : List (ℕ × Conn)) → Grows w (fold (stopped p) w es)
stopped-grows p w [] = grows-same w w refl
stopped-grows p w (e ∷ es) = go (is_open_at p e.1) (λ v. stopped-grows p v es)
  where
    go : (b : Bool) → ((v : World) → Grows v (fold (stopped p) v es)) → Grows w (fold (stopped p) (if b then leaves e.0 w e.1 Closed (ended_by e.0 cause.Restart e.1.flight) else w) es)
    go false later = later w
    go true later =
        let v : World = leaves e.0 w e.1 Closed (ended_by e.0 cause.Restart e.1.flight) in
        grows-then w v (fold (stopped p) v es) (leaves-onward w e.0 e.1 Closed (ended_by e.0 cause.Restart e.1.flight)).grows (later v)

pub restart-grows : (p : ℕ) (w : World) → Grows w (restarted p w)
restart-grows p w = stopped-grows p w (entries w.conns)

-- c is none of these, or is not open at this proxy
abbrev Spared : ℕ → ℕ → List (ℕ × Conn) → Type 0
Spared p c [] = Unit {0}
Spared p c (e ∷ es) = ((e.0 ≢ c) ⊎ (is_open_at p e.1 ≡ false)) × Spared p c es

stopped-still : (p c : ℕ) (w : World) (es : List (ℕ × Conn)) → Spared p c es → conn_at c (fold (stopped p) w es) ≡ conn_at c w
stopped-still p c w [] s = refl
stopped-still p c w (e ∷ es) s = go (is_open_at p e.1) refl s.0 (λ v. stopped-still p c v es s.1)
  where
    go : (b : Bool) → is_open_at p e.1 ≡ b → (e.0 ≢ c) ⊎ (is_open_at p e.1 ≡ false) → ((v : World) → conn_at c (fold (stopped p) v es) ≡ conn_at c v)
        → conn_at c (fold (stopped p) (if b then leaves e.0 w e.1 Closed (ended_by e.0 cause.Restart e.1.flight) else w) es) ≡ conn_at c w
    go false f k later = later w
    go true f (inl apart) later =
        let v : World = leaves e.0 w e.1 Closed (ended_by e.0 cause.Restart e.1.flight) in
        later v ∙ (leaves-onward w e.0 e.1 Closed (ended_by e.0 cause.Restart e.1.flight)).others c (λ same. apart (sym same))
    go true f (inr away) later = absurd (true-false (sym f ∙ away))

spared : (p c : ℕ) (x : Conn) (f : ℕ → Option Conn) (es : List (ℕ × Conn)) → f c ≡ Some x → is_open_at p x ≡ false → Gives f es → Spared p c es
spared p c x f [] there away g = tt
spared p c x f (e ∷ es) there away g = (
  elim (either-number e.0 c) [
    | inl same ↦ inr (ap (is_open_at p) (some_is (sym g.0 ∙ ap f same ∙ there)) ∙ away)
    | inr apart ↦ inl apart
  ],
  spared p c x f es there away g.1,
)

pub restart-still : (p c : ℕ) (w : World) (x : Conn) → conn_at c w ≡ Some x → is_open_at p x ≡ false → conn_at c (restarted p w) ≡ conn_at c w
restart-still p c w x there away =
    let d = sorted-distinct (entries w.conns) (is-true (is_sorted nat_cmp (entries w.conns)) (entries_sorted w.conns)) in
    let g = gives-as (λ k. find nat_cmp k (entries w.conns)) (λ k. conn_at k w) (entries w.conns) (λ k. get-entries w.conns k) (all-found (entries w.conns) d) in
    stopped-still p c w (entries w.conns) (spared p c x (λ k. conn_at k w) (entries w.conns) there away g)

-- ---- the store by itself

lapse-onward : (c : ℕ) (w w' : World) (id : ℤ) (o : Option Store) → lapse w.store id ≡ o → LapsesTo id w w' o → Onward c w w'
lapse-onward c w w' id None e h = absurd h
lapse-onward c w w' id (Some s) e h =
    let v : World = record w { store = s; lines = w.lines ++ LapseLine (revision s) id ∷ [] } in
    onward-to c w v w' h (stored-onward c w v (LapseLine (revision s) id ∷ []) (lapse-later w.store s id e) refl refl)

put-onward : (c : ℕ) (w w' : World) (k v : List ℕ) (o : Option Store) → foreign w.store k v ≡ o → PutTo w w' o → Onward c w w'
put-onward c w w' k v None e h = absurd h
put-onward c w w' k v (Some s) e h = let u : World = record w { store = s } in onward-to c w u w' h (stored-onward c w u [] (foreign-later w.store s k v e) (sym (append-nil w.lines)) refl)

tick-onward : (c : ℕ) (w w' : World) (n : ℕ) → w' ≡ record w { clock = n } → Onward c w w'
tick-onward c w w' n e = onward-to c w (record w { clock = n }) w' e (stored-onward c w (record w { clock = n }) [] (later-self w.store) (sym (append-nil w.lines)) refl)

open-onward : (w : World) (c p : ℕ) (id : ℤ) (passwd : List ℕ) (layout : Layout) → Onward c w (opened w c p (record { id = id; passwd = passwd; layout = layout }))
open-onward w c p id passwd layout = with-onward w c (new_conn p (Connection (new_core (record { id = id; passwd = passwd; layout = layout })))) (Open c p id passwd layout ∷ []) (opened w c p (record { id = id; passwd = passwd; layout = layout })) refl refl refl

-- ---- settle

pub settling-onward : (c : ℕ) (w w' : World) (h : Happening) → Settling c w h → Does w h w' → Onward c w w'
settling-onward c w w' _ carries h = exec-onward w w' c h
settling-onward c w w' _ answers h = delivers-onward w w' c (flight_at c w) h
settling-onward c w w' _ (enters idle) h = enters-onward w w' c (next_entry c w) h

pub settles-onward : (n c : ℕ) (w w' : World) → Settles n c w w' → Onward c w w'
settles-onward zero c w w' h = onward-same c w w' h
settles-onward (suc n) c w w' h = go (settling c w) refl (λ mid. settles-onward n c mid w') h
  where
    go : (o : Option Happening) → settling c w ≡ o → ((mid : World) → Settles n c mid w' → Onward c mid w') → SettlesOn n c w w' o → Onward c w w'
    go None e later g = onward-same c w w' g
    go (Some x) e later (mid, does, rest) = onward-then c w mid w' (settling-onward c w mid x (settling-is c w x e) does) (later mid rest)

-- ---- each line

-- it moves the number that it names; a restart moves those of its proxy
abbrev pub EffectOn : World → Happening → World → Type 0
EffectOn w (line.Open c p id passwd layout) w' = Onward c w w'
EffectOn w (line.Frame c bytes) w' = Onward c w w'
EffectOn w (line.Arrive c bytes) w' = Onward c w w'
EffectOn w (line.Exec c) w' = Onward c w w'
EffectOn w (line.Answer c) w' = Onward c w w'
EffectOn w (line.Cut c) w' = Onward c w w'
EffectOn w (line.Refuse c) w' = Onward c w w'
EffectOn w (line.Stray k) w' = (c : ℕ) → Onward c w w'
EffectOn w (line.Entry c) w' = Onward c w w'
EffectOn w (line.Lag c) w' = Onward c w w'
EffectOn w (line.End c) w' = Onward c w w'
EffectOn w (line.Restart p) w' = Grows w w'
EffectOn w (line.Lapse id) w' = (c : ℕ) → Onward c w w'
EffectOn w (line.Foreign k v) w' = (c : ℕ) → Onward c w w'
EffectOn w (line.Reap c p id) w' = Onward c w w'
EffectOn w (line.Tick n) w' = (c : ℕ) → Onward c w w'
EffectOn w (line.Settle c) w' = Onward c w w'

pub effect-on : (w w' : World) (h : Happening) → Effect w h w' → EffectOn w h w'
effect-on w w' (line.Open c p id passwd layout) h = onward-to c w (opened w c p (record { id = id; passwd = passwd; layout = layout })) w' h (open-onward w c p id passwd layout)
effect-on w w' (line.Frame c bytes) h = arrives-onward c w w' (with_length bytes) h
effect-on w w' (line.Arrive c bytes) h = arrives-onward c w w' bytes h
effect-on w w' (line.Exec c) h = exec-onward w w' c h
effect-on w w' (line.Answer c) h = delivers-onward w w' c (flight_at c w) h
effect-on w w' (line.Cut c) (x, there, h) = failure-onward w w' c x x.actor h
effect-on w w' (line.Refuse c) (x, there, h) = onward-then c w (landed c w) w' (landed-onward w c) (failure-onward (landed c w) w' c x x.actor h)
effect-on w w' (line.Stray k) h = λ c. stray-onward c w w' k h
effect-on w w' (line.Entry c) h = enters-onward w w' c (next_entry c w) h
effect-on w w' (line.Lag c) h = lags-onward w w' c (cursor_at c w) h
effect-on w w' (line.End c) h = ends-onward w w' c (conn_at c w) h
effect-on w w' (line.Restart p) h = subst (Grows w) (sym h) (restart-grows p w)
effect-on w w' (line.Lapse id) h = λ c. lapse-onward c w w' id (lapse w.store id) refl h
effect-on w w' (line.Foreign k v) h = λ c. put-onward c w w' k v (foreign w.store k v) refl h
effect-on w w' (line.Reap c p id) h = reaps-onward w w' c (new_reaper p id) (new_reap id) None h
effect-on w w' (line.Tick n) h = λ c. tick-onward c w w' (w.clock + n) h
effect-on w w' (line.Settle c) h = settles-onward (max_settling c w) c w w' h

on-grows : (w w' : World) (h : Happening) → EffectOn w h w' → Grows w w'
on-grows w w' (line.Open c p id passwd layout) o = o.grows
on-grows w w' (line.Frame c bytes) o = o.grows
on-grows w w' (line.Arrive c bytes) o = o.grows
on-grows w w' (line.Exec c) o = o.grows
on-grows w w' (line.Answer c) o = o.grows
on-grows w w' (line.Cut c) o = o.grows
on-grows w w' (line.Refuse c) o = o.grows
on-grows w w' (line.Stray k) o = (o 0).grows
on-grows w w' (line.Entry c) o = o.grows
on-grows w w' (line.Lag c) o = o.grows
on-grows w w' (line.End c) o = o.grows
on-grows w w' (line.Restart p) o = o
on-grows w w' (line.Lapse id) o = (o 0).grows
on-grows w w' (line.Foreign k v) o = (o 0).grows
on-grows w w' (line.Reap c p id) o = o.grows
on-grows w w' (line.Tick n) o = (o 0).grows
on-grows w w' (line.Settle c) o = o.grows

pub effect-grows : (w w' : World) (h : Happening) → Effect w h w' → Grows w w'
effect-grows w w' h e = on-grows w w' h (effect-on w w' h e)

pub runs-grow : (w w' : World) (hs : List Happening) (ticks : List Tick) → RunsFrom w hs ticks w' → Grows w w'
runs-grow w w' [] ticks (none, same) = grows-same w w' same
runs-grow w w' (h ∷ hs) ticks (mid, more, one, e, rest) = grows-then w mid w' (effect-grows w mid h one.effect) (runs-grow mid w' hs more rest)
