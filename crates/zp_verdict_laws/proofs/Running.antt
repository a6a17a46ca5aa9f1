-- Each line of a script, settle too, and whole scripts: their lines are tidy, and the clock stays within its limit.
use Rattle.ev_types.specs.Lapses.{foreign, lapse}
use Rattle.ev_types.specs.Store.{Store, revision}
use Rattle.std.proofs.Common.{◌≡◌, ◌≤◌, ℕ, ℤ, zero, suc, ◌+◌, List, [], ◌∷◌, ◌++◌, length, refl, sym, ap, ◌∙◌, subst, append-nil, arith, false}
use Rattle.std.proofs.lemmas.Bool.Decides.{nat_tests}
use Rattle.std.proofs.lemmas.List.Elements.{All-cons, All-head, All-nil, All-tail}
use Rattle.std.specs.FinMap.{get-empty}
use Rattle.std.specs.Ordering.{nat_cmp}
use Rattle.std.specs.Prelude.{All, None, Option, Some, if◌then◌else◌, nat_lt, slice_get}
use Rattle.zk_model.specs.declared.layout.Layout.{Layout}
use Rattle.zk_jute.specs.JuteWriting.{with_length}
use Rattle.zk_legal.proofs.Counting.{frames-few}
use Rattle.zk_legal.specs.Formed.{frames_of}
use Rattle.zk_model.specs.Limits.{max_time}
use Rattle.zk_transcript.specs.Legal.{Tick}
use Rattle.zk_transcript.specs.declared.transcript.TranscriptLine.TheVariants.{Lapse as LapseLine, Open}
use Rattle.zk_transcript.specs.declared.transcript.TranscriptLine.{TranscriptLine}
use Rattle.zk_transcript.specs.History.{begin_lines}
use Rattle.zp_script.specs.Effects.{Does, LapsesTo, PutTo, new_conn, new_reap, new_reaper, opened}
use Rattle.zp_script.specs.Entries.{cursor_at, next_entry}
use Rattle.zp_script.specs.Faults.{fault, flight_at}
use Rattle.zp_script.specs.Handing.{landed}
use Rattle.zp_script.specs.Happens.{Effect, Happens, Settles, max_settling}
use Rattle.zp_script.specs.Runs.{Runs, RunsFrom, first_entry, tick_of, world_over}
use Rattle.zp_script.specs.Worlds.{Actor, Closed, Conn, Connection, Reaper, World, conn_at}
use Rattle.zp_verdict_laws.proofs.Arriving.{arrives-proceeds}
use Rattle.zp_verdict_laws.proofs.Delivering.{same-entries, delivers-proceed, ends-proceed, enters-proceed, exec-proceeds, failure-proceeds, lags-proceed, landed-proceeds, reaps-proceed, stray-proceeds}
use Rattle.zp_verdict_laws.proofs.Naturals.{IsNaturalEntry, IsNaturalWorld, no-lines, one-line}
use Rattle.zp_verdict_laws.proofs.Progress.{Opened, Unused, opens, progress-append, progress_from}
use Rattle.zp_verdict_laws.proofs.Restarting.{restart-proceeds}
use Rattle.zp_verdict_laws.proofs.Stored.{natural}
use Rattle.zp_verdict_laws.proofs.Tidy.{ChangesOne, Free, IsTidy, IsInStep, Proceeds, one-proceeds, others-proceed, proceeds-on, proceeds-same, proceeds-then, proceeds-to, proceeds-where, in_step-count}
use Rattle.zp_verdict_laws.specs.Lawful.{AreCounted, FewLinesAreCounted, LinesCountFrames}
use Rattle.zp_verdict_laws.specs.Written.{NamesSession}
use Rattle.zp_step.specs.Stages.{new_core}
use Rattle.zp_world_laws.proofs.Happenings.{passes}
use Rattle.zp_world_laws.proofs.Numbers.{conn-here, conn-there, other-number}
use Rattle.zp_world_laws.proofs.Running.{Settling, answers, by-effect, carries, enters, number-free, settles-keep}
use Rattle.zt_text.specs.declared.script.Happening.TheVariants as line
use Rattle.zt_text.specs.declared.script.Happening.{Happening}
use Rattle.zt_text.specs.declared.script.Why.TheVariants as why
use Rattle.zx_base.proofs.Options.{none_some, some_is}
use Rattle.zx_base.proofs.Booleans.{same-test as same-nat}

-- ---- a number is taken

module _ (w : World) (c p : ℕ) (id : ℤ) (passwd : List ℕ) (layout : Layout) (free : conn_at c w ≡ None) where
  abbrev opened_conn : Conn
  opened_conn = new_conn p (Connection (new_core (record { id = id; passwd = passwd; layout = layout })))

  open-changes : ChangesOne w (opened w c p (record { id = id; passwd = passwd; layout = layout })) c opened_conn (Open c p id passwd layout ∷ [])
  open-changes = record {
    lines = refl;
    clock = refl;
    entries = refl;
    there = conn-here w c opened_conn;
    others = λ d apart. conn-there w c d opened_conn apart;
    aside = λ d apart q. ap (λ b. if b then opens q else q) (other-number d c apart);
  }

  open-in_step : IsTidy w → IsInStep (w.lines ++ Open c p id passwd layout ∷ []) c opened_conn.frames opened_conn.actor
  open-in_step t = (
    refl,
    progress-append c w.lines (Open c p id passwd layout ∷ [])
        ∙ ap (λ q. progress_from c q (Open c p id passwd layout ∷ [])) (t.unused c free)
        ∙ ap (λ b. if b then Opened 0 else Unused) (same-nat c),
  )

  open-proceeds : Proceeds (NamesSession (line.Open c p id passwd layout)) w (opened w c p (record { id = id; passwd = passwd; layout = layout }))
  open-proceeds = one-proceeds (NamesSession (line.Open c p id passwd layout)) w (opened w c p (record { id = id; passwd = passwd; layout = layout })) c opened_conn (Open c p id passwd layout ∷ []) open-changes
      (λ offer k. record { lines = one-line (Open c p id passwd layout) offer.least; conn = record { actor = record { stage = tt; cursor = natural 0; mine = natural 0 }; flight = tt } })
      (λ t n. open-in_step t)

-- ---- the store changes by itself

lapse-proceeds : (w w' : World) (id : ℤ) (o : Option Store) → LapsesTo id w w' o → Proceeds (NamesSession (line.Lapse id)) w w'
lapse-proceeds w w' id None h = absurd h
lapse-proceeds w w' id (Some s) e =
    others-proceed (NamesSession (line.Lapse id)) w w' (LapseLine (revision s) id ∷ []) (ap (λ (v : World). v.conns) e) (ap (λ (v : World). v.clock) e) (ap (λ (v : World). v.lines) e)
    (λ names. one-line (LapseLine (revision s) id) (natural (length s.revisions), names)) (same-entries w w' (ap (λ (v : World). v.entries) e)) (λ c p. refl)

foreign-proceeds : (w w' : World) (o : Option Store) → PutTo w w' o → Proceeds Free w w'
foreign-proceeds w w' None h = absurd h
foreign-proceeds w w' (Some s) e =
    others-proceed Free w w' [] (ap (λ (v : World). v.conns) e) (ap (λ (v : World). v.clock) e) (ap (λ (v : World). v.lines) e ∙ sym (append-nil w.lines)) (λ p. no-lines) (same-entries w w' (ap (λ (v : World). v.entries) e)) (λ c p. refl)

not-above : (m n : ℕ) → nat_lt m n ≡ false → n ≤ m
not-above m n h = grind (arith, nat_tests)

tick-proceeds : (w : World) (n : ℕ) → nat_lt max_time (w.clock + n) ≡ false → Proceeds Free w (record w { clock = w.clock + n })
tick-proceeds w n within = record { more = []; lines = sym (append-nil w.lines); clock = λ le. not-above max_time (w.clock + n) within; tidy = λ t k. record { used = t.used; unused = t.unused }; natural = λ p k. record { lines = k.lines; conns = k.conns; entries = k.entries } }

-- ---- each line but settle

does-proceeds : (w w' : World) (h : Happening) → fault w h ≡ None → Does w h w' → Proceeds (NamesSession h) w w'
unfolding fault
does-proceeds w w' (line.Open c p id passwd layout) possible h = proceeds-to (NamesSession (line.Open c p id passwd layout)) w (opened w c p (record { id = id; passwd = passwd; layout = layout })) w' h (open-proceeds w c p id passwd layout (number-free (conn_at c w) possible))
does-proceeds w w' (line.Frame c bytes) possible h = arrives-proceeds c w w' (with_length bytes) h
does-proceeds w w' (line.Arrive c bytes) possible h = arrives-proceeds c w w' bytes h
does-proceeds w w' (line.Exec c) possible h = exec-proceeds w w' c h
does-proceeds w w' (line.Answer c) possible h = delivers-proceed w w' c (flight_at c w) refl h
does-proceeds w w' (line.Cut c) possible h = failure-proceeds w w' c h
does-proceeds w w' (line.Refuse c) possible h = proceeds-then w (landed c w) w' (landed-proceeds w c) (failure-proceeds (landed c w) w' c h)
does-proceeds w w' (line.Stray k) possible h = stray-proceeds w w' k h
does-proceeds w w' (line.Entry c) possible h = enters-proceed w w' c (next_entry c w) refl h
does-proceeds w w' (line.Lag c) possible h = lags-proceed w w' c (cursor_at c w) refl h
does-proceeds w w' (line.End c) possible h = ends-proceed w w' c (conn_at c w) h
does-proceeds w w' (line.Restart p) possible h = subst (Proceeds Free w) (sym h) (restart-proceeds p w)
does-proceeds w w' (line.Lapse id) possible h = lapse-proceeds w w' id (lapse w.store id) h
does-proceeds w w' (line.Foreign k v) possible h = foreign-proceeds w w' (foreign w.store k v) h
does-proceeds w w' (line.Reap c p id) possible h = reaps-proceed Free w w' c (new_reaper p id) (new_reap id) None (λ q k. tt) (λ q b e. absurd (none_some e)) (λ t. (t.unused c (number-free (conn_at c w) possible), refl)) h
does-proceeds w w' (line.Tick n) possible h = proceeds-to Free w (record w { clock = w.clock + n }) w' h (tick-proceeds w n ((passes (nat_lt max_time (w.clock + n)) why.ClockLimit None possible).0))
does-proceeds w w' (line.Settle c) possible h = absurd h

-- ---- settle: what is out is carried out or answered, and entries are taken

settling-proceeds : (c : ℕ) (w w' : World) (h : Happening) → Settling c w h → Does w h w' → Proceeds Free w w'
settling-proceeds c w w' _ carries h = exec-proceeds w w' c h
settling-proceeds c w w' _ answers h = delivers-proceed w w' c (flight_at c w) refl h
settling-proceeds c w w' _ (enters idle) h = enters-proceed w w' c (next_entry c w) refl h

settles-proceed : (n c : ℕ) (w w' : World) → Settles n c w w' → Proceeds Free w w'
settles-proceed n c w w' h = settles-keep (Proceeds Free w) c (λ v v' x s does p. proceeds-then w v v' p (settling-proceeds c v v' x s does)) n w w' h (proceeds-same w w refl)

-- ---- each line

effect-proceeds : (w w' : World) (h : Happening) → fault w h ≡ None → Effect w h w' → Proceeds (NamesSession h) w w'
effect-proceeds w w' h possible e =
    by-effect (Proceeds (NamesSession h) w w') w w' h e (λ c s. proceeds-where (NamesSession h) Free w w' (λ p. tt) (settles-proceed (max_settling c w) c w w' s)) (λ d. does-proceeds w w' h possible d)

happens-proceeds : (w w' : World) (h : Happening) → Happens w h w' → Proceeds (NamesSession h) w w'
happens-proceeds w w' h p = effect-proceeds w w' h p.possible p.effect

-- ---- whole scripts

runs-proceed : (w w' : World) (hs : List Happening) (ticks : List Tick) → RunsFrom w hs ticks w' → Proceeds (All NamesSession hs) w w'
runs-proceed w w' [] ticks (none, same) = proceeds-where (All NamesSession []) Free w w' (λ p. tt) (proceeds-same w w' same)
runs-proceed w w' (h ∷ hs) ticks (mid, more, one, e, rest) =
    proceeds-on (All NamesSession (h ∷ hs)) (All NamesSession hs) w mid w' (λ p k. All-tail NamesSession h hs p)
    (proceeds-where (All NamesSession (h ∷ hs)) (NamesSession h) w mid (λ p. All-head NamesSession h hs p) (happens-proceeds w mid h one)) (runs-proceed mid w' hs more rest)

-- each clock of a script is within its limit
clocks-within : (w w' : World) (hs : List Happening) (ticks : List Tick) → w.clock ≤ max_time → RunsFrom w hs ticks w' → (k : ℕ) (t : Tick) → slice_get ticks k ≡ Some t → t.clock ≤ max_time
clocks-within w w' [] ticks le (none, same) k t at = absurd (none_some (sym (ap (λ l. slice_get l k) none) ∙ at))
clocks-within w w' (h ∷ hs) ticks le (mid, more, one, e, rest) k t at =
    let still = (happens-proceeds w mid h one).clock le in
    first-or-later (tick_of mid) more still (clocks-within mid w' hs more still rest) k t (sym (ap (λ l. slice_get l k) e) ∙ at)
  where
    first-or-later : (first : Tick) (later : List Tick) → first.clock ≤ max_time → ((j : ℕ) (u : Tick) → slice_get later j ≡ Some u → u.clock ≤ max_time) → (j : ℕ) (u : Tick) → slice_get (first ∷ later) j ≡ Some u → u.clock ≤ max_time
    first-or-later first later one rest zero u f = subst (λ (v : Tick). v.clock ≤ max_time) (some_is f) one
    first-or-later first later one rest (suc j) u f = rest j u f

first-tidy : (s : Store) → IsTidy (world_over s)
first-tidy s = record { used = λ c x there. absurd (none_some (sym (get-empty nat_cmp c) ∙ there)); unused = λ c none. refl }

-- the first line is Begin
pub record IsRunLines (w : World) : Type 0 where
  pub more : List TranscriptLine
  pub lines : w.lines ≡ begin_lines 0 ++ more
  pub tidy : AreCounted w.lines → IsTidy w

first-natural : (s : Store) → IsNaturalWorld (world_over s)
first-natural s = record {
  lines = one-line _ tt;
  conns = λ c x there. absurd (none_some (sym (get-empty nat_cmp c) ∙ there));
  entries = All-cons IsNaturalEntry first_entry [] (natural 1) (All-nil IsNaturalEntry);
}

-- where each line of the script names a session's number
pub run-natural : (hs : List Happening) (ticks : List Tick) (w : World) → All NamesSession hs → Runs hs ticks w → IsNaturalWorld w
run-natural hs ticks w names (first, (s, a, e, is), runs) = (runs-proceed (world_over s) w hs ticks (subst (λ v. RunsFrom v hs ticks w) is runs)).natural names (first-natural s)

pub run-lines : (hs : List Happening) (ticks : List Tick) (w : World) → Runs hs ticks w → IsRunLines w
run-lines hs ticks w (first, (s, a, e, is), runs) =
    let p = runs-proceed (world_over s) w hs ticks (subst (λ v. RunsFrom v hs ticks w) is runs) in
    record { more = p.more; lines = p.lines; tidy = λ n. p.tidy (first-tidy s) n }

pub run-clocks : (hs : List Happening) (ticks : List Tick) (w : World) → Runs hs ticks w → (k : ℕ) (t : Tick) → slice_get ticks k ≡ Some t → t.clock ≤ max_time
run-clocks hs ticks w (first, (s, a, e, is), runs) k t at = clocks-within (world_over s) w hs ticks (omega arith) (subst (λ v. RunsFrom v hs ticks w) is runs) k t at

-- ---- counts

in_step-few : (lines : List TranscriptLine) (c frames : ℕ) (a : Actor) → IsInStep lines c frames a → frames ≤ frames_of c lines
in_step-few lines c frames (Connection core) t = let count = in_step-count lines c frames t.1 in omega (arith, count)
in_step-few lines c frames (Reaper reap) t = let none = t.1 in omega (arith, none)
in_step-few lines c frames Closed t = t.1

pub few-counted : FewLinesAreCounted
few-counted lines less = record { frames = λ c. let few = frames-few c lines in omega (arith, few, less) }

pub lines-count-frames : LinesCountFrames
lines-count-frames hs ticks w runs n = record {
  frames = λ c x there. (
      let t = ((run-lines hs ticks w runs).tidy n).used c x there in
      let few = in_step-few w.lines c x.frames x.actor t in
      let less = n.frames c in
      omega (arith, few, less));
}
