-- An attached connection that nothing disturbs stays open.
use Rattle.std.proofs.Common.{List, [], ap, arith, false, inl, inr, refl, subst, sym, true, ℕ, ℤ, ◌+◌, ◌∙◌, ◌∷◌, ◌≡◌}
use Rattle.std.proofs.lemmas.List.Elements.{All-head, All-tail}
use Rattle.std.specs.Prelude.{All, None, Option, Some, not, option_and_then, ◌&&◌, ◌<ℤ◌, ◌==◌}
use Rattle.ev_types.specs.Store.{last_revision, revision}
use Rattle.zk_jute.specs.Frames.{bad_length}
use Rattle.zk_jute.specs.JuteWriting.{with_length}
use Rattle.zk_transcript.proofs.Attachments.{NoneAfter, attach_of-push}
use Rattle.zk_transcript.specs.Legal.{Attachment, Tick, attach_of}
use Rattle.zp_script.specs.Arriving.{Arrives}
use Rattle.zp_script.specs.Carrying.{Executes}
use Rattle.zp_script.specs.Effects.{Delivers, EntersBy, is_open_at}
use Rattle.zp_script.specs.Entries.{next_entry}
use Rattle.zp_script.specs.Faults.{fault, flight_at, if_fails, open_fault}
use Rattle.zp_script.specs.Happens.{Effect, Happens, Settles, max_settling}
use Rattle.zp_script.specs.Runs.{RunsFrom}
use Rattle.zp_script.specs.Worlds.{Conn, World, conn_at, is_closed_actor, is_open_conn}
use Rattle.zt_text.specs.declared.script.Happening.TheVariants as line
use Rattle.zt_text.specs.declared.script.Happening.{Happening}
use Rattle.zt_text.specs.declared.script.Why.TheVariants as why
use Rattle.zt_text.specs.declared.script.Why.{Why}
use Rattle.zx_base.proofs.Options.{none_some, some_is}
use Rattle.zp_world_laws.proofs.Numbers.{either-number}
use Rattle.zp_world_laws.proofs.Running.{number-free, runs-grown, within-before}
use Rattle.zp_world_laws.specs.Accounting.{IsWithinCounts, OffersSession}
use Rattle.zp_settle_laws.proofs.Ongoing.{IsEndedBadly, IsOpenAt, answer-open, arrives-open, entry-open, exec-open, settles-open}
use Rattle.zp_settle_laws.proofs.Onward.{Grows, Onward, effect-grows, effect-on, grows-then, restart-still, runs-grow}
use Rattle.zp_settle_laws.proofs.Roomy.{IsKept, every-run-kept, happens-kept}
use Rattle.zp_settle_laws.specs.Undisturbed.{HasMildFrames, UndisturbedStayOpen, bad_at, ends_conn, takes_session}
use Rattle.zx_base.proofs.Booleans.{and-false, true-not_false as true-false, same-number}

-- ---- a line of another number

-- the tests of a line pass for an open number alone
open-live : (d : ℕ) (w : World) (later : Option Why) (y : Conn) → open_fault d w later ≡ None → conn_at d w ≡ Some y → is_closed_actor y.actor ≡ true → ⊥
open-live d w later y free there closed = none_some (sym free ∙ by (conn_at d w) there)
  where
    by : (o : Option Conn) → o ≡ Some y → ◌≡◌ {A = Option Why} (elim o [ None ↦ Some why.NoSuchConnection | Some x ↦ if_fails (is_closed_actor x.actor) why.ConnectionClosed later ]) (Some why.ConnectionClosed)
    by None e = absurd (none_some e)
    by (Some x) e = ap (λ b. if_fails b why.ConnectionClosed later) (ap (λ (u : Conn). is_closed_actor u.actor) (some_is e) ∙ closed)

module _ (c : ℕ) (w w' : World) (x : Conn) (there : conn_at c w ≡ Some x) where
  others : (d : ℕ) → (d ≡ c → ⊥) → Onward d w w' → conn_at c w' ≡ conn_at c w
  others d apart o = o.others c (λ e. apart (sym e))

  -- a new number is another one
  free-apart : (d : ℕ) → conn_at d w ≡ None → d ≡ c → ⊥
  free-apart d free e = none_some (sym free ∙ ap (λ n. conn_at n w) e ∙ there)

  -- nothing is done at any number
  away : ((d : ℕ) → Onward d w w') → conn_at c w' ≡ conn_at c w
  away o = (o (c + 1)).others c (λ e. omega (arith, e))

  -- ---- one that has ended stays as it is

  module _ (closed : is_closed_actor x.actor ≡ true) where
    live-apart : (d : ℕ) (later : Option Why) → open_fault d w later ≡ None → d ≡ c → ⊥
    live-apart d later free e = open-live d w later x free (ap (λ n. conn_at n w) e ∙ there) closed

    closed-stays : (h : Happening) → fault w h ≡ None → Effect w h w' → conn_at c w' ≡ conn_at c w
    unfolding fault
    closed-stays (line.Open d p id passwd layout) free h = others d (free-apart d (number-free (conn_at d w) free)) (effect-on w w' (line.Open d p id passwd layout) h)
    closed-stays (line.Frame d bytes) free h = others d (live-apart d _ free) (effect-on w w' (line.Frame d bytes) h)
    closed-stays (line.Arrive d bytes) free h = others d (live-apart d _ free) (effect-on w w' (line.Arrive d bytes) h)
    closed-stays (line.Exec d) free h = others d (live-apart d _ free) (effect-on w w' (line.Exec d) h)
    closed-stays (line.Answer d) free h = others d (live-apart d _ free) (effect-on w w' (line.Answer d) h)
    closed-stays (line.Cut d) free h = others d (live-apart d _ free) (effect-on w w' (line.Cut d) h)
    closed-stays (line.Refuse d) free h = others d (live-apart d _ free) (effect-on w w' (line.Refuse d) h)
    closed-stays (line.Entry d) free h = others d (live-apart d _ free) (effect-on w w' (line.Entry d) h)
    closed-stays (line.Lag d) free h = others d (live-apart d _ free) (effect-on w w' (line.Lag d) h)
    closed-stays (line.End d) free h = others d (live-apart d _ free) (effect-on w w' (line.End d) h)
    closed-stays (line.Settle d) free h = others d (live-apart d _ free) (effect-on w w' (line.Settle d) h)
    closed-stays (line.Reap d p id) free h = others d (free-apart d (number-free (conn_at d w) free)) (effect-on w w' (line.Reap d p id) h)
    closed-stays (line.Restart q) free h = ap (conn_at c) h ∙ restart-still q c w x there (ap (λ b. (q == x.proxy) && not b) closed ∙ and-false (q == x.proxy))
    closed-stays (line.Stray n) free h = away (effect-on w w' (line.Stray n) h)
    closed-stays (line.Lapse id) free h = away (effect-on w w' (line.Lapse id) h)
    closed-stays (line.Foreign k v) free h = away (effect-on w w' (line.Foreign k v) h)
    closed-stays (line.Tick n) free h = away (effect-on w w' (line.Tick n) h)

ended-stays : (c : ℕ) (n : ℤ) (w w' : World) (h : Happening) → Happens w h w' → IsEndedBadly c n w → IsEndedBadly c n w'
ended-stays c n w w' h p e = record { conn = e.conn; there = closed-stays c w w' e.conn e.there (ap is_closed_actor e.closed) h p.possible p.effect ∙ e.there; closed = e.closed; bad = e.bad }

runs-ended : (c : ℕ) (n : ℤ) (w w' : World) (hs : List Happening) (ticks : List Tick) → RunsFrom w hs ticks w' → IsEndedBadly c n w → IsEndedBadly c n w'
runs-ended c n w w' [] ticks (none, same) e = subst (IsEndedBadly c n) (sym same) e
runs-ended c n w w' (h ∷ hs) ticks (mid, more, one, at, rest) e = runs-ended c n mid w' hs more rest (ended-stays c n w mid h one e)

-- ---- one that is open stays open

module _ (c p : ℕ) (place : ℕ) (own : Attachment) (last : World) (kept : NoneAfter (takes_session own.session) place last.lines) (mild : HasMildFrames c last.lines) (room : revision last.store <ℤ last_revision) where
  module _ (w w' : World) (g : Grows w last) (g' : Grows w' last) (k : IsKept w) (attached : attach_of c w.lines ≡ Some (place, own)) (unbad : (n : ℤ) → IsEndedBadly c n w' → ⊥) (o : IsOpenAt c p w) where
    still-open : conn_at c w' ≡ conn_at c w → IsOpenAt c p w'
    still-open e = record { conn = o.conn; core = o.core; there = e ∙ o.there; actor = o.actor; proxy = o.proxy }

    by-number : (d : ℕ) → Onward d w w' → (d ≡ c → IsOpenAt c p w') → IsOpenAt c p w'
    by-number d on mine = elim (either-number d c) [
      | inl same ↦ mine same
      | inr apart ↦ still-open (on.others c (λ e. apart (sym e)))
    ]

    -- a line that would end it
    spared : (d : ℕ) → (c == d) ≡ false → d ≡ c → IsOpenAt c p w'
    spared d calm e = absurd (true-false (sym (same-number c d (sym e)) ∙ calm))

    arrives : (d : ℕ) (bytes : List ℕ) → Arrives d w bytes w' → d ≡ c → IsOpenAt c p w'
    arrives d bytes h e = arrives-open c p place own last kept mild room w w' bytes g g' k attached o (subst (λ n. Arrives n w bytes w') e h) unbad

    fresh : (d : ℕ) → conn_at d w ≡ None → Onward d w w' → IsOpenAt c p w'
    fresh d free on = still-open (others c w w' o.conn o.there d (free-apart c w w' o.conn o.there d free) on)

    effect-open : (h : Happening) → fault w h ≡ None → Effect w h w' → ends_conn c p h ≡ false → IsOpenAt c p w'
    unfolding fault
    effect-open (line.Open d q id passwd layout) free h calm = fresh d (number-free (conn_at d w) free) (effect-on w w' (line.Open d q id passwd layout) h)
    effect-open (line.Reap d q id) free h calm = fresh d (number-free (conn_at d w) free) (effect-on w w' (line.Reap d q id) h)
    effect-open (line.Frame d bytes) free h calm = by-number d (effect-on w w' (line.Frame d bytes) h) (arrives d (with_length bytes) h)
    effect-open (line.Arrive d bytes) free h calm = by-number d (effect-on w w' (line.Arrive d bytes) h) (arrives d bytes h)
    effect-open (line.Exec d) free h calm = by-number d (effect-on w w' (line.Exec d) h) (λ e. exec-open c p place own last kept mild room w w' g k attached o (subst (λ n. Executes n w w') e h))
    effect-open (line.Answer d) free h calm = by-number d (effect-on w w' (line.Answer d) h) (λ e. answer-open c p place own last kept mild room w w' g k attached o (subst (λ n. Delivers n w w' (flight_at n w)) e h))
    effect-open (line.Entry d) free h calm = by-number d (effect-on w w' (line.Entry d) h) (λ e. entry-open c p place own last kept mild room w w' g k attached o (subst (λ n. EntersBy n w w' (next_entry n w)) e h))
    effect-open (line.Settle d) free h calm = by-number d (effect-on w w' (line.Settle d) h) (λ e. settles-open c p place own last kept mild room (max_settling c w) w w' (subst (λ n. Settles (max_settling n w) n w w') e h) g' k attached o)
    effect-open (line.Cut d) free h calm = by-number d (effect-on w w' (line.Cut d) h) (spared d calm)
    effect-open (line.Refuse d) free h calm = by-number d (effect-on w w' (line.Refuse d) h) (spared d calm)
    effect-open (line.Lag d) free h calm = by-number d (effect-on w w' (line.Lag d) h) (spared d calm)
    effect-open (line.End d) free h calm = by-number d (effect-on w w' (line.End d) h) (spared d calm)
    effect-open (line.Restart q) free h calm =
        let others_proxy : is_open_at q o.conn ≡ false = ap (λ n. (q == n) && not (is_closed_actor o.conn.actor)) o.proxy ∙ ap (λ b. b && not (is_closed_actor o.conn.actor)) calm in
        still-open (ap (conn_at c) h ∙ restart-still q c w o.conn o.there others_proxy)
    effect-open (line.Stray n) free h calm = still-open (away c w w' o.conn o.there (effect-on w w' (line.Stray n) h))
    effect-open (line.Lapse id) free h calm = still-open (away c w w' o.conn o.there (effect-on w w' (line.Lapse id) h))
    effect-open (line.Foreign key v) free h calm = still-open (away c w w' o.conn o.there (effect-on w w' (line.Foreign key v) h))
    effect-open (line.Tick n) free h calm = still-open (away c w w' o.conn o.there (effect-on w w' (line.Tick n) h))

  unended : bad_at c last ≡ None → (n : ℤ) → IsEndedBadly c n last → ⊥
  unended none n e = none_some (sym none ∙ ap (option_and_then (λ (x : Conn). bad_length x.stream.rest)) e.there ∙ e.bad)

  runs-open : (w : World) (hs : List Happening) (ticks : List Tick) → RunsFrom w hs ticks last → All OffersSession hs → All (λ h. ends_conn c p h ≡ false) hs → IsWithinCounts last → bad_at c last ≡ None → IsKept w → attach_of c w.lines ≡ Some (place, own) → IsOpenAt c p w
      → IsOpenAt c p last
  runs-open w [] ticks (none, same) offers calm within lengths k attached o = subst (IsOpenAt c p) (sym same) o
  runs-open w (h ∷ hs) ticks (mid, more, one, at, rest) offers calm within lengths k attached o =
      let later : Grows mid last = runs-grow mid last hs more rest in
      let first : Grows w mid = effect-grows w mid h one.effect in
      let unbad : (n : ℤ) → IsEndedBadly c n mid → ⊥ = λ n e. unended lengths n (runs-ended c n mid last hs more rest e) in
      runs-open mid hs more rest (All-tail OffersSession h hs offers) (All-tail (λ x. ends_conn c p x ≡ false) h hs calm) within lengths
      (happens-kept w mid h (All-head OffersSession h hs offers) (within-before mid last (runs-grown mid last hs more rest) within) one k)
      (subst (λ ls. attach_of c ls ≡ Some (place, own)) (sym first.lines) (attach_of-push w.lines first.more c (place, own) attached))
      (effect-open w mid (grows-then w mid last first later) later k attached unbad o h one.possible one.effect (All-head (λ x. ends_conn c p x ≡ false) h hs calm))

pub undisturbed-stay-open : UndisturbedStayOpen
undisturbed-stay-open before hs ticks later w w' c offered offers within run more a u =
    let k : IsKept w = every-run-kept before ticks w offered (within-before w w' (runs-grown w w' hs later more) within) run in
    let o = runs-open c a.conn.proxy a.place a.own w' u.session u.frames u.room w hs later more offers u.script within u.lengths k a.attached (record { conn = a.conn; core = a.core; there = a.there; actor = a.actor; proxy = refl }) in
    ap is_open_conn o.there ∙ ap (λ x. not (is_closed_actor x)) o.actor
