-- A line that is possible has a world after it, where nothing is taken up.
use Rattle.std.proofs.Common.{Bool, List, [], ap, false, inl, inr, refl, subst, sym, true, ℕ, ℤ, pos, ◌++◌, ◌+◌, ◌-◌, ◌∙◌, ◌∷◌, ◌≡◌, length}
use Rattle.std.specs.Prelude.{MatchBool, None, Option, Some, if◌then◌else◌, is_none, is_some, not, slice_set, ◌||◌, option_and_then}
use Rattle.std.specs.Ordering.{int_eq}
use Rattle.ev_types.specs.Denials.{carry, has_lease, is_full_store}
use Rattle.ev_types.specs.Lapses.{foreign, lapse, leased_keys, removals}
use Rattle.ev_types.specs.Store.{Puts, Store, mod_of, present, revision}
use Rattle.ev_types.specs.declared.answer.Answer.{Answer}
use Rattle.ev_types.specs.declared.answer.Kv.{Kv}
use Rattle.zk_transcript.specs.History.{after}
use Rattle.zk_service.specs.declared.cause.Cause.TheVariants as cause
use Rattle.zk_service.specs.declared.cause.Cause.{Cause}
use Rattle.zk_transcript.specs.declared.transcript.TranscriptLine.TheVariants.{Lapse as LapseLine}
use Rattle.zk_transcript.specs.declared.transcript.TranscriptLine.{TranscriptLine}
use Rattle.zk_service.specs.declared.update.UpdateKind.{UpdateKind}
use Rattle.zn_layout.specs.Keys.{HeadKey}
use Rattle.zn_layout.specs.StandsFor.{HeadMeans, at}
use Rattle.zn_layout.specs.declared.entry.Entry.{Entry}
use Rattle.zn_view.specs.Asks.{reading}
use Rattle.zs_reap.specs.Steps.{reaper_wants}
use Rattle.zs_reap.specs.declared.reap.Phase.TheVariants.{Looking}
use Rattle.zs_reap.specs.declared.reap.ReapStep.TheVariants as reaped
use Rattle.zt_text.specs.declared.script.Happening.TheVariants as line
use Rattle.zt_text.specs.declared.script.Why.TheVariants as why
use Rattle.zt_text.specs.declared.script.Why.{Why}
use Rattle.zx_base.proofs.Options.{none_some, some_is, some_none}
use Rattle.zx_base.specs.Maps.{Bytes}
use Rattle.zp_step.specs.Replies.{closed_by}
use Rattle.zp_step.specs.Stages.{Core, Ready, Shut, counted_up, is_shut}
use Rattle.zp_step.specs.Steps.{Handles, Steps as CoreSteps, StepsOpen, rests}
use Rattle.zp_step.specs.declared.action.Action.TheVariants as action
use Rattle.zp_step.specs.declared.action.Action.{Action}
use Rattle.zp_step.specs.declared.input.Input.TheVariants as input
use Rattle.zp_step.specs.declared.input.Input.{Input}
use Rattle.zp_script.specs.Carrying.{CarriedBy, CarriesOut, Executes, ExecutesStray, HasStore, ShowsUpdate, update_line_of}
use Rattle.zp_script.specs.Effects.{EndsBy, LagsBy, LapsesTo, PutTo, new_reap, new_reaper, opened, restarted}
use Rattle.zp_script.specs.Entries.{IsEntryOf, cursor_at, entry_after, is_lagging, max_kept_entries, next_entry}
use Rattle.zp_script.specs.Faults.{carry_fault, connection_fault, entry_fault, fault, flight_at, full_fault, if_fails, is_kept_key, is_reaper_at, is_to_carry_out, left_at, open_fault}
use Rattle.zp_script.specs.Handing.{FailureComes, FailureComesTo, Handed, Reaps, landed}
use Rattle.zp_script.specs.Kinds.{kind_asked}
use Rattle.zp_script.specs.StepOutcomes.{acts_all, ended_by, leaves, reap_acts}
use Rattle.zp_script.specs.Worlds.{Actor, Closed, Conn, Connection, Reaper, World, after_reap, after_step, conn_at, is_closed_actor, is_reaper, with_conn, zxid_at}
use Rattle.zp_script.specs.declared.flight.Asking.{Asking}
use Rattle.zp_script.specs.declared.flight.Flight.TheVariants.{Carried, Denied, Out}
use Rattle.zp_script.specs.declared.flight.Flight.{Flight}
use Rattle.zp_world_laws.proofs.Carrying.{air-outcome}
use Rattle.zp_world_laws.proofs.Commits.{stands-now}
use Rattle.zp_world_laws.proofs.Effects.{left-at}
use Rattle.zp_world_laws.proofs.Ends.{landed-is}
use Rattle.zp_world_laws.proofs.Happenings.{passes}
use Rattle.zp_world_laws.proofs.Numbers.{conn-here}
use Rattle.zp_world_laws.specs.Holding.{Holds, Left, Of, Source, air, out_in, out_of}
use Rattle.zp_world_laws.specs.Serving.{StoreServes, kind_lines, update_lines}
use Rattle.zp_settle_laws.specs.Possible.{PossibleLinesHappen}

-- ---- tests that pass

record IsThere (c : ℕ) (w : World) (later : Option Why) : Type 0 where
  conn : Conn
  there : conn_at c w ≡ Some conn
  alive : is_closed_actor conn.actor ≡ false
  rest : later ≡ None

open-there : (c : ℕ) (w : World) (later : Option Why) → open_fault c w later ≡ None → IsThere c w later
open-there c w later h = go (conn_at c w) refl h
  where
    go : (o : Option Conn) → conn_at c w ≡ o → ◌≡◌ {A = Option Why} (elim o [ None ↦ Some why.NoSuchConnection | Some x ↦ if_fails (is_closed_actor x.actor) why.ConnectionClosed later ]) None → IsThere c w later
    go None e f = absurd (some_none f)
    go (Some x) e f = let p = passes (is_closed_actor x.actor) why.ConnectionClosed later f in record { conn = x; there = e; alive = p.0; rest = p.1 }

record IsHere (c : ℕ) (w : World) (later : Option Why) : Type 0 where
  conn : Conn
  core : Core
  there : conn_at c w ≡ Some conn
  actor : conn.actor ≡ Connection core
  rest : later ≡ None

connection-there : (c : ℕ) (w : World) (later : Option Why) → connection_fault c w later ≡ None → IsHere c w later
connection-there c w later h = by-actor t.conn.actor refl t.alive (here (conn_at c w) refl p.0)
  where
    t : IsThere c w (if_fails (is_reaper_at c w) why.NotAConnection later)
    t = open-there c w (if_fails (is_reaper_at c w) why.NotAConnection later) h

    p : (is_reaper_at c w ≡ false) × (later ≡ None)
    p = passes (is_reaper_at c w) why.NotAConnection later t.rest

    here : (o : Option Conn) → conn_at c w ≡ o → ◌≡◌ {A = Bool} (elim o [ None ↦ false | Some x ↦ is_reaper x.actor ]) false → is_reaper t.conn.actor ≡ false
    here None e f = absurd (none_some (sym e ∙ t.there))
    here (Some x) e f = subst (λ (y : Conn). is_reaper y.actor ≡ false) (some_is (sym e ∙ t.there)) f

    by-actor : (a : Actor) → t.conn.actor ≡ a → is_closed_actor a ≡ false → is_reaper t.conn.actor ≡ false → IsHere c w later
    by-actor (Connection core) e alive other = record { conn = t.conn; core = core; there = t.there; actor = e; rest = p.1 }
    by-actor (Reaper r) e alive other = (let f : true ≡ false = sym (ap is_reaper e) ∙ other in absurd (cc))
    by-actor Closed e alive other = absurd (cc)

-- ---- a step by which a connection ends

record StepsSome (core : Core) (i : Input) (now : ℕ) : Type 0 where
  next : Core
  out : List Action
  stepped : CoreSteps core i now next out

ends-somehow : (core : Core) (i : Input) (why_so : Cause) (now : ℕ) → Handles core i now (closed_by core why_so).0 (closed_by core why_so).1 → StepsSome core i now
ends-somehow core i why_so now h = go (is_shut core.stage) refl
  where
    next : Core
    next = record core { stage = Shut }

    out : List Action
    out = action.Close why_so ∷ []

    unready : Shut ≡ Ready → ⊥
    unready e = cc

    go : (b : Bool) → is_shut core.stage ≡ b → StepsSome core i now
    go true e = record { next = core; out = []; stepped = subst (λ b. MatchBool b ((core ≡ core) × (◌≡◌ {A = List Action} [] [])) (StepsOpen core i now core [])) (sym e) (refl, refl) }
    go false e = record {
      next = record core { stage = Shut };
      out = action.Close why_so ∷ [];
      stepped = subst (λ b. MatchBool b ((next ≡ core) × (out ≡ [])) (StepsOpen core i now next out)) (sym e) (record { mid = next; first = out; later = []; handled = h; goes = rests (inl unready) refl refl; joined = refl });
    }

-- what is handed in leads to a world
handed-somehow : (c : ℕ) (w : World) (x : Conn) (core : Core) (i : Input) → conn_at c w ≡ Some x → x.actor ≡ Connection core → StepsSome core i w.clock → (w' : World) × Handed c [] w i w'
handed-somehow c w x core i there actor s =
    (leaves c w x (after_step s.next) (acts_all c (kind_asked c (Connection s.next)) [] x.flight s.out), record { conn = x; core = core; found = there; serving = actor; next = s.next; out = s.out; stepped = s.stepped; result = refl })

fails-somehow : (c : ℕ) (w : World) (x : Conn) (a : Actor) → x.actor ≡ a → conn_at c w ≡ Some x → is_closed_actor a ≡ false → (w' : World) × FailureComesTo c w x w' a
fails-somehow c w x (Connection core) e there alive = handed-somehow c w x core input.Failed there e (ends-somehow core input.Failed cause.LinkFault w.clock (refl, refl))
fails-somehow c w x (Reaper r) e there alive = (leaves c w x Closed (ended_by c cause.LinkFault x.flight), refl)
fails-somehow c w x Closed e there alive = absurd (cc)

fails-at : (c : ℕ) (w : World) (x : Conn) → conn_at c w ≡ Some x → is_closed_actor x.actor ≡ false → (w' : World) × FailureComes c w w'
fails-at c w x there alive = let f = fails-somehow c w x x.actor refl there alive in (f.0, (x, there, f.1))

-- ---- an ask is carried out

entry-somehow : (n : ℕ) (s : Store) (lines : List TranscriptLine) → StoreServes s lines → (e : Entry) × IsEntryOf n (at (present s) HeadKey) e
entry-somehow n s lines serves = go (at (present s) HeadKey) (stands-now s lines serves).head
  where
    go : (o : Option Kv) → HeadMeans o (after lines) → (e : Entry) × IsEntryOf n o e
    go None h = absurd h
    go (Some kv) h = (
      record { number = pos n; zxid = mod_of (Some kv); triggers = (after lines).triggers },
      record { number = refl; zxid = refl; triggers = (Some (record { triggers = (after lines).triggers }), (h.fits, h.value), refl) },
    )

no-lines : (l : TranscriptLine) → ◌≡◌ {A = List TranscriptLine} (l ∷ []) [] → ⊥
no-lines l e = cc

module _ (w : World) (h : Holds w) (src : Source) (x : Asking) (was : air w src ≡ Some x) where
  update-somehow : (s : Store) (a : Answer) (kind : UpdateKind) → carry w.store x.ask ≡ Some (s, a) → x.kind ≡ Some kind → int_eq (zxid_at w.store) (zxid_at s) ≡ false → (e : Entry) × IsEntryOf (length w.entries + 1) (at (present s) HeadKey) e
  update-somehow s a kind done of_kind moved = elim (air-outcome w src x s a h was done) [
    | inl still ↦ absurd (no-lines (update_line_of s kind) (sym (ap (λ b. if b then [] else kind_lines s (Some kind)) moved) ∙ sym (ap (update_lines w.store s) of_kind) ∙ still.lines))
    | inr updated ↦ entry-somehow (length w.entries + 1) s _ (updated.done).serves
  ]

  stored-somehow : (s : Store) (a : Answer) → carry w.store x.ask ≡ Some (s, a) → (mid : World) × HasStore w s x.kind mid
  stored-somehow s a done = go (int_eq (zxid_at w.store) (zxid_at s)) refl
    where
      by-kind : int_eq (zxid_at w.store) (zxid_at s) ≡ false → (k : Option UpdateKind) → x.kind ≡ k → (mid : World) × ShowsUpdate w s k mid
      by-kind moved None e = (record w { store = s }, refl)
      by-kind moved (Some kind) e =
          let y = update-somehow s a kind done e moved in
          (record w { store = s; lines = w.lines ++ update_line_of s kind ∷ []; entries = w.entries ++ y.0 ∷ [] }, (y.0, y.1, refl))

      go : (b : Bool) → int_eq (zxid_at w.store) (zxid_at s) ≡ b → (mid : World) × MatchBool b (mid ≡ record w { store = s }) (ShowsUpdate w s x.kind mid)
      go true e = (record w { store = s }, refl)
      go false e = by-kind e x.kind refl

  carries-somehow : (f : Flight) × (mid : World) × CarriesOut w x f mid
  carries-somehow = go (carry w.store x.ask) refl
    where
      go : (o : Option (Store × Answer)) → carry w.store x.ask ≡ o → (f : Flight) × (mid : World) × CarriedBy w x.kind f mid o
      go None e = (Denied, w, (refl, refl))
      go (Some r) e = let m = stored-somehow r.0 r.1 e in (Carried r.1, m.0, (refl, m.1))

out-there : (f : Option Flight) → not (is_to_carry_out f) ≡ false → (a : Asking) × (f ≡ Some (Out a))
out-there None e = absurd (cc)
out-there (Some (Out a)) e = (a, refl)
out-there (Some (Carried a)) e = absurd (cc)
out-there (Some Denied) e = absurd (cc)

stray-there : (o : Option Asking) → is_none o ≡ false → (a : Asking) × (o ≡ Some a)
stray-there None e = absurd (cc)
stray-there (Some a) e = (a, refl)

-- that leads to a world
executed : (c : ℕ) (w : World) (x : Conn) (a : Asking) → conn_at c w ≡ Some x → x.flight ≡ Some (Out a) → (f : Flight) × (mid : World) × CarriesOut w a f mid → (w' : World) × Executes c w w'
executed c w x a there out (f, mid, carries) = (with_conn mid c (record x { flight = Some f }), record { conn = x; asking = a; found = there; out = out; flight = f; mid = mid; carries = carries; result = refl })

stray-executed : (k : ℕ) (w : World) (a : Asking) → left_at k w.strays ≡ Some a → (f : Flight) × (mid : World) × CarriesOut w a f mid → (w' : World) × ExecutesStray k w w'
stray-executed k w a left (f, mid, carries) = (record mid { strays = slice_set mid.strays (k - 1) None }, record { asking = a; left = left; flight = f; mid = mid; carries = carries; result = refl })

executes-somehow : (c : ℕ) (w : World) → Holds w → carry_fault c w ≡ None → (w' : World) × Executes c w w'
executes-somehow c w h free =
    let inner : Option Why = if_fails (not (is_to_carry_out (flight_at c w))) why.AlreadyCarriedOut None in
    let t = open-there c w (if_fails (is_none (flight_at c w)) why.NoRequestOut inner) free in
    let p = passes (is_none (flight_at c w)) why.NoRequestOut inner t.rest in
    let q = passes (not (is_to_carry_out (flight_at c w))) why.AlreadyCarriedOut None p.1 in
    let a = out-there (flight_at c w) q.0 in
    let out : t.conn.flight ≡ Some (Out a.0) = sym (ap (option_and_then (λ (y : Conn). y.flight)) t.there) ∙ a.1 in
    executed c w t.conn a.0 t.there out (carries-somehow w h (Of c) a.0 (ap out_of t.there ∙ ap out_in out))

stray-somehow : (k : ℕ) (w : World) → Holds w → if_fails (is_none (left_at k w.strays)) why.NoSuchStray None ≡ None → (w' : World) × ExecutesStray k w w'
stray-somehow k w h free =
    let p = passes (is_none (left_at k w.strays)) why.NoSuchStray None free in
    let a = stray-there (left_at k w.strays) p.0 in
    stray-executed k w a.0 a.1 (carries-somehow w h (Left (k - 1)) a.0 (left-at k w.strays a.0 a.1))

-- ---- the others

refuses-somehow : (c : ℕ) (w : World) → carry_fault c w ≡ None → (w' : World) × FailureComes c (landed c w) w'
refuses-somehow c w free =
    let inner : Option Why = if_fails (not (is_to_carry_out (flight_at c w))) why.AlreadyCarriedOut None in
    let t = open-there c w (if_fails (is_none (flight_at c w)) why.NoRequestOut inner) free in
    let f = fails-at c (with_conn w c (record (t.conn) { flight = None })) (record (t.conn) { flight = None }) (conn-here w c (record (t.conn) { flight = None })) t.alive in
    (f.0, subst (λ v. FailureComes c v f.0) (sym (landed-is w c t.conn t.there)) f.1)

lags-somehow : (c : ℕ) (w : World) → entry_fault c w (if_fails (not (is_lagging c w)) why.NoLag None) ≡ None → (w' : World) × LagsBy c w w' (cursor_at c w)
lags-somehow c w free = go (cursor_at c w) refl
  where
    t : IsHere c w (if_fails (is_some (flight_at c w)) why.RequestOut (if_fails (is_none (next_entry c w)) why.NoEntry (if_fails (not (is_lagging c w)) why.NoLag None)))
    t = connection-there c w _ free

    p : is_none (next_entry c w) ≡ false
    p =
        let q = passes (is_some (flight_at c w)) why.RequestOut (if_fails (is_none (next_entry c w)) why.NoEntry (if_fails (not (is_lagging c w)) why.NoLag None)) t.rest in
        (passes (is_none (next_entry c w)) why.NoEntry (if_fails (not (is_lagging c w)) why.NoLag None) q.1).0

    go : (o : Option ℤ) → cursor_at c w ≡ o → (w' : World) × LagsBy c w w' o
    go None e = (let f : true ≡ false = sym (ap (λ o. is_none (option_and_then (entry_after w.entries) o)) e) ∙ p in absurd (cc))
    go (Some z) e =
        handed-somehow c w t.conn t.core (input.Lagged z (pos (length w.entries - max_kept_entries))) t.there t.actor (ends-somehow t.core (input.Lagged z (pos (length w.entries - max_kept_entries))) (cause.Lagged z (pos (length w.entries - max_kept_entries))) w.clock (refl, refl))

ends-line : (c : ℕ) (w : World) → connection_fault c w None ≡ None → (w' : World) × EndsBy c w w' (conn_at c w)
ends-line c w free =
    let t = connection-there c w None free in
    let place = counted_up (t.conn.stream.place + length t.conn.stream.rest) in
    let f = handed-somehow c w t.conn t.core (input.ClientEnd place) t.there t.actor (ends-somehow t.core (input.ClientEnd place) (cause.ClientEnd place) w.clock (refl, refl)) in
    (f.0, subst (EndsBy c w f.0) (sym t.there) f.1)

lapses-somehow : (id : ℤ) (w : World) → if_fails (not (has_lease w.store id)) why.NoSuchLease (full_fault w.store (removals (leased_keys w.store id))) ≡ None → (w' : World) × LapsesTo id w w' (lapse w.store id)
unfolding lapse
lapses-somehow id w free =
    let p = passes (not (has_lease w.store id)) why.NoSuchLease (full_fault w.store (removals (leased_keys w.store id))) free in
    let q = passes (is_full_store w.store (removals (leased_keys w.store id))) why.StoreFull None p.1 in
    go (not (has_lease w.store id) || is_full_store w.store (removals (leased_keys w.store id))) (ap (λ b. b || is_full_store w.store (removals (leased_keys w.store id))) p.0 ∙ q.0) _
  where
    go : (b : Bool) → b ≡ false → (s : Store) → (w' : World) × LapsesTo id w w' (if b then None else Some s)
    go false e s = (record w { store = s; lines = w.lines ++ LapseLine (revision s) id ∷ [] }, refl)
    go true e s = absurd (cc)

puts-somehow : (k v : Bytes) (w : World) → if_fails (is_kept_key k) why.KeyKept (full_fault w.store (Puts k v (pos 0) ∷ [])) ≡ None → (w' : World) × PutTo w w' (foreign w.store k v)
unfolding foreign
puts-somehow k v w free =
    let p = passes (is_kept_key k) why.KeyKept (full_fault w.store (Puts k v (pos 0) ∷ [])) free in
    let q = passes (is_full_store w.store (Puts k v (pos 0) ∷ [])) why.StoreFull None p.1 in
    go (is_full_store w.store (Puts k v (pos 0) ∷ [])) q.0 _
  where
    go : (b : Bool) → b ≡ false → (s : Store) → (w' : World) × PutTo w w' (if b then None else Some s)
    go false e s = (record w { store = s }, refl)
    go true e s = absurd (cc)

reaps-somehow : (c p : ℕ) (id : ℤ) (w : World) → (w' : World) × Reaps c w None w' (new_reaper p id) (new_reap id)
reaps-somehow c p id w = (
  leaves c w (new_reaper p id) (after_reap (record { session = id; phase = Looking })) (reap_acts c (kind_asked c (Reaper (record { session = id; phase = Looking }))) None (reaped.Ask (reading (pos 0) (reaper_wants id)))),
  inr (record { step = reaped.Ask (reading (pos 0) (reaper_wants id)); next = record { session = id; phase = Looking }; stepped = record { same = refl; moves = (refl, refl) }; result = refl }),
)

-- ---- each line

pub possible-lines-happen : PossibleLinesHappen
unfolding fault
possible-lines-happen w (line.Open c p id passwd layout) k plain free = (opened w c p (record { id = id; passwd = passwd; layout = layout }), record { possible = free; effect = refl })
possible-lines-happen w (line.Exec c) k plain free = let f = executes-somehow c w (k.whole).holds free in (f.0, record { possible = free; effect = f.1 })
possible-lines-happen w (line.Cut c) k plain free =
    let t = open-there c w (if_fails (is_none (flight_at c w)) why.NoRequestOut None) free in
    let f = fails-at c w t.conn t.there t.alive in
    (f.0, record { possible = free; effect = f.1 })
possible-lines-happen w (line.Refuse c) k plain free = let f = refuses-somehow c w free in (f.0, record { possible = free; effect = f.1 })
possible-lines-happen w (line.Stray n) k plain free = let f = stray-somehow n w (k.whole).holds free in (f.0, record { possible = free; effect = f.1 })
possible-lines-happen w (line.Lag c) k plain free = let f = lags-somehow c w free in (f.0, record { possible = free; effect = f.1 })
possible-lines-happen w (line.End c) k plain free = let f = ends-line c w free in (f.0, record { possible = free; effect = f.1 })
possible-lines-happen w (line.Restart p) k plain free = (restarted p w, record { possible = free; effect = refl })
possible-lines-happen w (line.Lapse id) k plain free = let f = lapses-somehow id w free in (f.0, record { possible = free; effect = f.1 })
possible-lines-happen w (line.Foreign key v) k plain free = let f = puts-somehow key v w free in (f.0, record { possible = free; effect = f.1 })
possible-lines-happen w (line.Reap c p id) k plain free = let f = reaps-somehow c p id w in (f.0, record { possible = free; effect = f.1 })
possible-lines-happen w (line.Tick n) k plain free = (record w { clock = w.clock + n }, record { possible = free; effect = refl })
possible-lines-happen w (line.Frame c bytes) k plain free = absurd (cc)
possible-lines-happen w (line.Arrive c bytes) k plain free = absurd (cc)
possible-lines-happen w (line.Answer c) k plain free = absurd (cc)
possible-lines-happen w (line.Entry c) k plain free = absurd (cc)
possible-lines-happen w (line.Settle c) k plain free = absurd (cc)
