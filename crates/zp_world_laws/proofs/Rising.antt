-- Connections stay, and their frames only become more.
use Rattle.ev_types.specs.Denials.{carry}
use Rattle.ev_types.specs.Lapses.{foreign, lapse}
use Rattle.ev_types.specs.Store.{Store, revision}
use Rattle.ev_types.specs.declared.answer.Answer.{Answer}
use Rattle.std.proofs.Common.{Bool, List, [], ap, arith, false, inl, inr, refl, subst, sym, true, ℕ, ℤ, ◌++◌, ◌+◌, ◌-◌, ◌∙◌, ◌∷◌, ◌≡◌, ◌≢◌, ◌≤◌}
use Rattle.std.proofs.lemmas.Bool.Decides.{nat_tests}
use Rattle.std.specs.FinMap.{entries, entries_sorted, find, get, get-entries, is_sorted}
use Rattle.std.specs.Ordering.{nat_cmp}
use Rattle.std.specs.Prelude.{MatchBool, None, Option, Some, fold, if◌then◌else◌, is_some, slice_set, ◌⊎◌}
use Rattle.zk_jute.specs.JuteWriting.{with_length}
use Rattle.zk_service.specs.declared.cause.Cause.TheVariants as cause
use Rattle.zk_transcript.specs.declared.transcript.TranscriptLine.TheVariants.{Lapse as LapseLine}
use Rattle.zk_transcript.specs.declared.transcript.TranscriptLine.{TranscriptLine}
use Rattle.zk_service.specs.declared.update.UpdateKind.{UpdateKind}
use Rattle.zn_layout.specs.declared.entry.Entry.{Entry}
use Rattle.zp_script.specs.Arriving.{Arrives, EndsBadly, FramesArrive, frame_lines, shown_frame}
use Rattle.zp_script.specs.Carrying.{CarriedBy, CarriesOut, Executes, ExecutesStray, HasStore}
use Rattle.zp_script.specs.Effects.{Delivers, Does, EndsBy, EntersBy, LagsBy, LapsesTo, PutTo, is_open_at, new_conn, opened, restarted, stopped}
use Rattle.zp_script.specs.Entries.{cursor_at, next_entry}
use Rattle.zp_script.specs.Faults.{fault, flight_at, if_fails}
use Rattle.zp_script.specs.Handing.{AnswerComesTo, FailureComesTo, Handed, Reaps, landed, landed_conn}
use Rattle.zp_script.specs.Kinds.{kind_asked}
use Rattle.zp_script.specs.StepOutcomes.{StepOutcome, acts_all, ended_by, leaves, reap_acts}
use Rattle.zp_script.specs.Worlds.{Actor, Closed, Conn, Connection, Reaper, World, after_reap, after_step, conn_at, is_open_conn, with_conn, zxid_at}
use Rattle.zp_script.specs.declared.flight.Asking.{Asking}
use Rattle.zp_script.specs.declared.flight.Flight.TheVariants.{Carried, Denied, Out}
use Rattle.zp_script.specs.declared.flight.Flight.{Flight}
use Rattle.zp_step.specs.Stages.{counted_up, max_count, new_core}
use Rattle.zp_step.specs.declared.input.Input.TheVariants as input
use Rattle.zp_step.specs.declared.input.Input.{Input}
use Rattle.zp_world_laws.proofs.Effects.{stored-in}
use Rattle.zp_world_laws.proofs.Numbers.{conn-here, conn-there, either-number}
use Rattle.zp_world_laws.proofs.Reaping.{damaged-memory, looking_reaper, looks-first}
use Rattle.zp_world_laws.proofs.Restarting.{Distinct, Gives, all-found, gives-as, gives-others, sorted-distinct}
use Rattle.zs_reap.specs.declared.reap.Reap.{Reap}
use Rattle.zt_text.specs.declared.script.Happening.TheVariants as line
use Rattle.zt_text.specs.declared.script.Happening.{Happening}
use Rattle.zt_text.specs.declared.script.Why.TheVariants as why
use Rattle.zx_base.proofs.Options.{none_some, some_is}
use Rattle.zx_base.proofs.Booleans.{true-from_T as is-true}

-- each connection that was there is there still, and a count of frames that was at its greatest value still is
pub record Grown (w w' : World) : Type 0 where
  pub conns : (c : ℕ) (x : Conn) → conn_at c w ≡ Some x → (y : Conn) × (conn_at c w' ≡ Some y) × (max_count ≤ x.frames → max_count ≤ y.frames)

pub grown-same : (w w' : World) → w' ≡ w → Grown w w'
grown-same w w' e = record { conns = λ c x there. (x, ap (conn_at c) e ∙ there, λ le. le) }

pub grown-then : (u v w : World) → Grown u v → Grown v w → Grown u w
grown-then u v w a b = record {
  conns = λ c x there. (let p = a.conns c x there in let q = b.conns c p.0 p.1 in (q.0, q.1, λ le. q.2 (p.2 le)));
}

-- one connection changes, and has no fewer frames
with-grown : (w : World) (c : ℕ) (x v : Conn) → conn_at c w ≡ Some x → (max_count ≤ x.frames → max_count ≤ v.frames) → Grown w (with_conn w c v)
with-grown w c x v there up = record { conns = λ d y e. go d y e (either-number d c) }
  where
    go : (d : ℕ) (y : Conn) → conn_at d w ≡ Some y → (d ≡ c) ⊎ (d ≢ c) → (u : Conn) × (conn_at d (with_conn w c v) ≡ Some u) × (max_count ≤ y.frames → max_count ≤ u.frames)
    go d y e (inl same) =
        let is : x ≡ y = some_is (sym there ∙ ap (λ n. conn_at n w) (sym same) ∙ e) in
        (v, ap (λ n. conn_at n (with_conn w c v)) same ∙ conn-here w c v, λ le. up (omega (arith, le, ap (λ (u : Conn). u.frames) is)))
    go d y e (inr apart) = (y, conn-there w c d v apart ∙ e, λ le. le)

new-grown : (w : World) (c : ℕ) (v : Conn) → conn_at c w ≡ None → Grown w (with_conn w c v)
new-grown w c v free = record { conns = λ d y e. go d y e (either-number d c) }
  where
    go : (d : ℕ) (y : Conn) → conn_at d w ≡ Some y → (d ≡ c) ⊎ (d ≢ c) → (u : Conn) × (conn_at d (with_conn w c v) ≡ Some u) × (max_count ≤ y.frames → max_count ≤ u.frames)
    go d y e (inl same) = absurd (none_some (sym free ∙ ap (λ n. conn_at n w) (sym same) ∙ e))
    go d y e (inr apart) = (y, conn-there w c d v apart ∙ e, λ le. le)

-- the same store and connections, whatever else
alike-grown : (w w' : World) → w'.conns ≡ w.conns → Grown w w'
alike-grown w w' e = record { conns = λ c x there. (x, ap (λ m. get m c) e ∙ there, λ le. le) }

pub leaves-grown : (w : World) (c : ℕ) (x : Conn) (actor : Actor) (o : StepOutcome) → conn_at c w ≡ Some x → Grown w (leaves c w x actor o)
leaves-grown w c x actor o there =
    let v : Conn = record x { actor = actor; flight = o.flight } in
    grown-then w (with_conn w c v) (leaves c w x actor o) (with-grown w c x v there (λ le. le)) (alike-grown (with_conn w c v) (leaves c w x actor o) refl)

grown-to : (w v w' : World) → w' ≡ v → Grown w v → Grown w w'
grown-to w v w' e g = subst (Grown w) (sym e) g

handed-grown : (w w' : World) (c : ℕ) (after : List TranscriptLine) (i : Input) → Handed c after w i w' → Grown w w'
handed-grown w w' c after i hd = grown-to w (leaves c w hd.conn (after_step hd.next) (acts_all c (kind_asked c (Connection hd.next)) after hd.conn.flight hd.out)) w' hd.result
    (leaves-grown w c hd.conn (after_step hd.next) (acts_all c (kind_asked c (Connection hd.next)) after hd.conn.flight hd.out) hd.found)

-- ---- frames

counted-full : (n : ℕ) → max_count ≤ n → counted_up n ≡ max_count
counted-full n le = grind (arith, nat_tests)

shown-grown : (w : World) (c : ℕ) (x : Conn) (frame : List ℕ) → conn_at c w ≡ Some x → Grown w (shown_frame c w x frame)
shown-grown w c x frame there =
    let v : Conn = record x { frames = counted_up (x.frames + 1) } in
    grown-then w (with_conn w c v) (shown_frame c w x frame) (with-grown w c x v there (λ le. omega (arith, counted-full (x.frames + 1) (omega (arith, le))))) (alike-grown (with_conn w c v) (shown_frame c w x frame) refl)

pub frames-grown : (c : ℕ) (w w' : World) (fs : List (List ℕ)) → FramesArrive c w fs w' → Grown w w'
frames-grown c w w' [] h = grown-same w w' h
frames-grown c w w' (f ∷ fs) (x, mid, found, hd, rest) = go (is_open_conn (conn_at c mid)) (frames-grown c mid w' fs) rest
  where
    one_more : Grown w mid
    one_more = grown-then w (shown_frame c w x f) mid (shown-grown w c x f found) (handed-grown (shown_frame c w x f) mid c (frame_lines c (counted_up (x.frames + 1)) (zxid_at w.store) fs) (input.Frame f) hd)

    go : (b : Bool) → (FramesArrive c mid fs w' → Grown mid w') → MatchBool b (FramesArrive c mid fs w') (w' ≡ mid) → Grown w w'
    go true later r = grown-then w mid w' one_more (later r)
    go false later r = grown-to w mid w' r one_more

pub badly-grown : (c : ℕ) (w w' : World) (place : ℕ) (bad : Option ℤ) → EndsBadly c w place bad w' → Grown w w'
badly-grown c w w' place None h = grown-same w w' h
badly-grown c w w' place (Some n) h = go (is_open_conn (conn_at c w)) h
  where
    go : (b : Bool) → MatchBool b (Handed c [] w (input.BadLength place n) w') (w' ≡ w) → Grown w w'
    go true hd = handed-grown w w' c [] (input.BadLength place n) hd
    go false e = grown-same w w' e

arrives-grown : (c : ℕ) (w w' : World) (bytes : List ℕ) → Arrives c w bytes w' → Grown w w'
arrives-grown c w w' bytes a =
    let v : Conn = record (a.conn) { stream = a.stream } in
    let w1 : World = with_conn w c v in
    grown-then w w1 w' (with-grown w c a.conn v a.found (λ le. le)) (grown-then w1 a.mid w' (frames-grown c w1 a.mid a.frames a.arrive) (badly-grown c a.mid w' (a.stream).place a.bad a.ends))

-- ---- what is carried out

stored-grown : (w mid : World) (s : Store) (kind : Option UpdateKind) → HasStore w s kind mid → Grown w mid
stored-grown w mid s kind h = alike-grown w mid (stored-in w mid s kind h).conns

carried-grown : (w mid : World) (a : Asking) (f : Flight) → CarriesOut w a f mid → Grown w mid
carried-grown w mid a f h = go (carry w.store a.ask) refl h
  where
    go : (o : Option (Store × Answer)) → carry w.store a.ask ≡ o → CarriedBy w a.kind f mid o → Grown w mid
    go None e p = grown-same w mid p.1
    go (Some r) e p = stored-grown w mid r.0 a.kind p.1

pub exec-grown : (w w' : World) (c : ℕ) → Executes c w w' → Grown w w'
exec-grown w w' c ex =
    let g = carried-grown w ex.mid ex.asking ex.flight ex.carries in
    let t = g.conns c ex.conn ex.found in
    let v : Conn = record (ex.conn) { flight = Some ex.flight } in
    let same : ex.mid.conns ≡ w.conns = carried-conns w ex.mid ex.asking ex.flight ex.carries in
    grown-to w (with_conn ex.mid c v) w' ex.result (grown-then w ex.mid (with_conn ex.mid c v) g (with-grown ex.mid c ex.conn v (ap (λ m. get m c) same ∙ ex.found) (λ le. le)))
  where
    carried-conns : (w mid : World) (a : Asking) (f : Flight) → CarriesOut w a f mid → mid.conns ≡ w.conns
    carried-conns w mid a f h = go (carry w.store a.ask) h
      where
        go : (o : Option (Store × Answer)) → CarriedBy w a.kind f mid o → mid.conns ≡ w.conns
        go None p = ap (λ (u : World). u.conns) p.1
        go (Some r) p = (stored-in w mid r.0 a.kind p.1).conns

stray-grown : (w w' : World) (k : ℕ) → ExecutesStray k w w' → Grown w w'
stray-grown w w' k ex =
    let v : World = record (ex.mid) { strays = slice_set ex.mid.strays (k - 1) None } in
    grown-to w v w' ex.result (grown-then w ex.mid v (carried-grown w ex.mid ex.asking ex.flight ex.carries) (alike-grown ex.mid v refl))

-- ---- what is delivered

landed-grown : (w : World) (c : ℕ) → Grown w (landed c w)
landed-grown w c = go (conn_at c w) refl
  where
    go : (o : Option Conn) → conn_at c w ≡ o → Grown w (landed_conn c w o)
    go None e = grown-same w w refl
    go (Some x) e = with-grown w c x (record x { flight = None }) e (λ le. le)

reaps-grown : (w w' : World) (c : ℕ) (x : Conn) (r : Reap) (a : Option Answer) → conn_at c w ≡ Some x → Reaps c w a w' x r → Grown w w'
reaps-grown w w' c x r a there (inl e) = grown-to w (leaves c w x Closed (ended_by c (cause.Damaged e.key e.value) x.flight)) w' e.result (leaves-grown w c x Closed (ended_by c (cause.Damaged e.key e.value) x.flight) there)
reaps-grown w w' c x r a there (inr s) = grown-to w (leaves c w x (after_reap s.next) (reap_acts c (kind_asked c (Reaper s.next)) x.flight s.step)) w' s.result (leaves-grown w c x (after_reap s.next) (reap_acts c (kind_asked c (Reaper s.next)) x.flight s.step) there)

answer-grown : (w w' : World) (c : ℕ) (x : Conn) (a : Answer) (actor : Actor) → conn_at c w ≡ Some x → AnswerComesTo c w x a w' actor → Grown w w'
answer-grown w w' c x a (Connection core) there h = handed-grown w w' c [] (input.Answer a) h
answer-grown w w' c x a (Reaper r) there h = reaps-grown w w' c x r (Some a) there h
answer-grown w w' c x a Closed there h = absurd h

failure-grown : (w w' : World) (c : ℕ) (x : Conn) (actor : Actor) → conn_at c w ≡ Some x → FailureComesTo c w x w' actor → Grown w w'
failure-grown w w' c x (Connection core) there h = handed-grown w w' c [] input.Failed h
failure-grown w w' c x (Reaper r) there h = grown-to w (leaves c w x Closed (ended_by c cause.LinkFault x.flight)) w' h (leaves-grown w c x Closed (ended_by c cause.LinkFault x.flight) there)
failure-grown w w' c x Closed there h = absurd h

pub delivers-grown : (w w' : World) (c : ℕ) (f : Option Flight) → Delivers c w w' f → Grown w w'
delivers-grown w w' c None h = absurd h
delivers-grown w w' c (Some (Out a)) h = absurd h
delivers-grown w w' c (Some (Carried a)) (x, there, h) = grown-then w (landed c w) w' (landed-grown w c) (answer-grown (landed c w) w' c x a x.actor there h)
delivers-grown w w' c (Some Denied) (x, there, h) = grown-then w (landed c w) w' (landed-grown w c) (failure-grown (landed c w) w' c x x.actor there h)

-- ---- a proxy restarts

stopped-grown : (p : ℕ) (w : World) (es : List (ℕ × Conn)) → Distinct es → Gives (λ k. conn_at k w) es → Grown w (fold (stopped p) w es)
stopped-grown p w [] d g = grown-same w w refl
stopped-grown p w (e ∷ es) d g = go (is_open_at p e.1) (λ v. stopped-grown p v es d.1)
  where
    go : (b : Bool) → ((v : World) → Gives (λ k. conn_at k v) es → Grown v (fold (stopped p) v es)) → Grown w (fold (stopped p) (if b then leaves e.0 w e.1 Closed (ended_by e.0 cause.Restart e.1.flight) else w) es)
    go false later = later w g.1
    go true later =
        let v : World = leaves e.0 w e.1 Closed (ended_by e.0 cause.Restart e.1.flight) in
        grown-then w v (fold (stopped p) v es) (leaves-grown w e.0 e.1 Closed (ended_by e.0 cause.Restart e.1.flight) g.0) (later v (gives-others w e.0 e.1 es d.0 g.1))

restart-grown : (p : ℕ) (w : World) → Grown w (restarted p w)
restart-grown p w =
    let d = sorted-distinct (entries w.conns) (is-true (is_sorted nat_cmp (entries w.conns)) (entries_sorted w.conns)) in
    stopped-grown p w (entries w.conns) d (gives-as (λ k. find nat_cmp k (entries w.conns)) (λ k. conn_at k w) (entries w.conns) (λ k. get-entries w.conns k) (all-found (entries w.conns) d))

-- ---- each line

lapse-grown : (w w' : World) (id : ℤ) (o : Option Store) → lapse w.store id ≡ o → LapsesTo id w w' o → Grown w w'
lapse-grown w w' id None e h = absurd h
lapse-grown w w' id (Some s) e h = grown-to w _ w' h (alike-grown w (record w { store = s; lines = w.lines ++ LapseLine (revision s) id ∷ [] }) refl)

foreign-grown : (w w' : World) (k v : List ℕ) (o : Option Store) → foreign w.store k v ≡ o → PutTo w w' o → Grown w w'
foreign-grown w w' k v None e h = absurd h
foreign-grown w w' k v (Some s) e h = grown-to w _ w' h (alike-grown w (record w { store = s }) refl)

pub enters-grown : (w w' : World) (c : ℕ) (o : Option Entry) → EntersBy c w w' o → Grown w w'
enters-grown w w' c None h = absurd h
enters-grown w w' c (Some e) (i, is, hd) = handed-grown w w' c [] i hd

lags-grown : (w w' : World) (c : ℕ) (o : Option ℤ) → LagsBy c w w' o → Grown w w'
lags-grown w w' c None h = absurd h
lags-grown w w' c (Some z) hd = handed-grown w w' c [] _ hd

ends-grown : (w w' : World) (c : ℕ) (o : Option Conn) → EndsBy c w w' o → Grown w w'
ends-grown w w' c None h = absurd h
ends-grown w w' c (Some x) hd = handed-grown w w' c [] _ hd

number-free : (o : Option Conn) → if_fails (is_some o) why.NumberInUse None ≡ None → o ≡ None
number-free None h = refl
number-free (Some x) h = absurd (none_some (sym h))

pub does-grown : (w w' : World) (h : Happening) → fault w h ≡ None → Does w h w' → Grown w w'
unfolding fault
does-grown w w' (line.Open c p id passwd layout) free h = grown-to w (opened w c p (record { id = id; passwd = passwd; layout = layout })) w' h (
    grown-then w (with_conn w c (new_conn p (Connection (new_core (record { id = id; passwd = passwd; layout = layout }))))) (opened w c p (record { id = id; passwd = passwd; layout = layout }))
    (new-grown w c (new_conn p (Connection (new_core (record { id = id; passwd = passwd; layout = layout })))) (number-free (conn_at c w) free)) (alike-grown _ (opened w c p (record { id = id; passwd = passwd; layout = layout })) refl)
    )
does-grown w w' (line.Frame c bytes) free h = arrives-grown c w w' (with_length bytes) h
does-grown w w' (line.Arrive c bytes) free h = arrives-grown c w w' bytes h
does-grown w w' (line.Exec c) free h = exec-grown w w' c h
does-grown w w' (line.Answer c) free h = delivers-grown w w' c (flight_at c w) h
does-grown w w' (line.Cut c) free (x, there, h) = failure-grown w w' c x x.actor there h
does-grown w w' (line.Refuse c) free (x, there, h) = grown-then w (landed c w) w' (landed-grown w c) (failure-grown (landed c w) w' c x x.actor there h)
does-grown w w' (line.Stray k) free h = stray-grown w w' k h
does-grown w w' (line.Entry c) free h = enters-grown w w' c (next_entry c w) h
does-grown w w' (line.Lag c) free h = lags-grown w w' c (cursor_at c w) h
does-grown w w' (line.End c) free h = ends-grown w w' c (conn_at c w) h
does-grown w w' (line.Restart p) free h = grown-to w (restarted p w) w' h (restart-grown p w)
does-grown w w' (line.Lapse id) free h = lapse-grown w w' id (lapse w.store id) refl h
does-grown w w' (line.Foreign k v) free h = foreign-grown w w' k v (foreign w.store k v) refl h
does-grown w w' (line.Reap c p id) free (inl e) = absurd (damaged-memory e.key e.value e.found)
does-grown w w' (line.Reap c p id) free (inr r) = grown-to w (with_conn w c (looking_reaper p id r.next)) w' (looks-first w w' c p id r) (new-grown w c (looking_reaper p id r.next) (number-free (conn_at c w) free))
does-grown w w' (line.Tick n) free h = grown-to w _ w' h (alike-grown w (record w { clock = w.clock + n }) refl)
does-grown w w' (line.Settle c) free h = absurd h
