-- The lines of a schedule that were possible are a script, and its run is lawful.
use Rattle.std.proofs.Common.{◌≡◌, ℕ, zero, suc, ◌+◌, ◌-◌, Bool, true, false, List, [], ◌∷◌, ◌++◌, refl, sym, ap, subst, arith, MatchBool}
use Rattle.std.proofs.lemmas.Int.{ints}
use Rattle.std.proofs.lemmas.List.Elements.{All-append, All-cons, All-nil}
use Rattle.std.specs.Prelude.{All, length, replicate, slice_index, Option, Some, None, ◌<◌, ◌≤◌}
use Rattle.rand_pcg.specs.Lcg.{Lcg}
use Rattle.zk_transcript.specs.Legal.{Tick}
use Rattle.zp_script.specs.declared.flight.Flight.{Flight}
use Rattle.zp_script.specs.declared.flight.Flight.TheVariants.{Out, Carried, Denied}
use Rattle.zp_script.specs.Faults.{fault, flight_at}
use Rattle.zp_script.specs.Happens.{Happens}
use Rattle.zp_script.specs.Runs.{IsFirst, Runs, RunsFrom, tick_of}
use Rattle.zp_script.specs.Worlds.{World, conn_at, is_open_conn}
use Rattle.zp_verdict_laws.proofs.Running.{few-counted, lines-count-frames}
use Rattle.zp_verdict_laws.proofs.Verdict.{every-replay-lawful}
use Rattle.zp_step.specs.Stages.{max_count}
use Rattle.zp_world_laws.proofs.Timing.{every-run-served}
use Rattle.zp_world_laws.specs.Accounting.{OffersSession}
use Rattle.zt_text.specs.declared.script.Happening.{Happening}
use Rattle.zt_text.specs.declared.script.Happening.TheVariants as line
use Rattle.zt_text.specs.declared.script.Why.{Why}
use Rattle.zp_clients.specs.declared.draw.Draw.{Draw}
use Rattle.zp_clients.specs.declared.summary.Summary.{Summary}
use Rattle.zp_stress.specs.Clients.{openings, settlings}
use Rattle.zp_clients.specs.Draws.{after_draw, drawn, seeded}
use Rattle.zp_stress.specs.Passing.{Passes, PassesAll, PassesBy}
use Rattle.zp_stress.specs.Schedules.{Asks, Does, GoesOn, IsScheduled, PingsBy, Sends, Steps, TurnsBy, Walks}
use Rattle.zp_clients.specs.Sent.{awaits_reply}
use Rattle.zp_stress.specs.Stressed.{IsStressed}
use Rattle.zp_clients.specs.Summaries.{summary_of}
use Rattle.zp_clients.specs.Wishes.{is_ping, packet_of, wish_of}

-- ---- lines that lead to a world

-- a script leads to it, whose connections offer sessions' numbers and passwords in their ranges
pub record IsReached (w : World) : Type 0 where
  pub happenings : List Happening
  pub ticks : List Tick
  pub runs : Runs happenings ticks w
  pub offers : All OffersSession happenings

runs-push : (w v w' : World) (hs : List Happening) (ticks : List Tick) (h : Happening) → RunsFrom w hs ticks v → Happens v h w' → RunsFrom w (hs ++ h ∷ []) (ticks ++ tick_of w' ∷ []) w'
runs-push w v w' [] ticks h r happens = (w', [], subst (λ (u : World). Happens u h w') r.1 happens, ap (λ t. t ++ tick_of w' ∷ []) r.0, (refl, refl))
runs-push w v w' (g ∷ hs) ticks h r happens = (r.0, r.1 ++ tick_of w' ∷ [], r.2, ap (λ t. t ++ tick_of w' ∷ []) r.3, runs-push r.0 v w' hs r.1 h r.4 happens)

reached-on : (w w' : World) (h : Happening) → OffersSession h → Happens w h w' → IsReached w → IsReached w'
reached-on w w' h offers happens r = record {
  happenings = r.happenings ++ h ∷ [];
  ticks = r.ticks ++ tick_of w' ∷ [];
  runs = (r.runs.0, r.runs.1, runs-push r.runs.0 w w' r.happenings r.ticks h r.runs.2 happens);
  offers = All-append OffersSession r.happenings (h ∷ []) r.offers (All-cons OffersSession h [] offers (All-nil OffersSession));
}

reached-first : (w : World) → IsFirst w → IsReached w
reached-first w first = record { happenings = []; ticks = []; runs = (w, first, (refl, refl)); offers = All-nil OffersSession }

passes-by : (w w' : World) (h : Happening) (o : Option Why) → OffersSession h → PassesBy w h w' o → IsReached w → IsReached w'
passes-by w w' h None offers happens r = reached-on w w' h offers happens r
passes-by w w' h (Some why) offers same r = subst IsReached (sym same) r

passes-on : (w w' : World) (h : Happening) → OffersSession h → Passes w h w' → IsReached w → IsReached w'
passes-on w w' h offers p r = passes-by w w' h (fault w h) offers p r

-- each of these lines offers a session, where it is an `open`
abbrev EachOffers : List Happening → Type 0
EachOffers [] = Unit {0}
EachOffers (h ∷ hs) = OffersSession h × EachOffers hs

all-on : (hs : List Happening) (w w' : World) → EachOffers hs → PassesAll w hs w' → IsReached w → IsReached w'
all-on [] w w' each same r = subst IsReached (sym same) r
all-on (h ∷ hs) w w' each p r = all-on hs p.0 w' each.1 p.2 (passes-on w p.0 h each.0 p.1 r)

-- ---- the clients

-- a number of connections that are opened, up to 256
openings-offer : (n i : ℕ) → 1 ≤ i → n + i ≤ 257 → EachOffers (openings n i)
openings-offer zero i least most = tt
openings-offer (suc n) i least most =
    (record { least = omega (arith, ints); most = omega (arith, ints); long = refl }, (tt, (tt, openings-offer n (i + 1) (omega arith) (omega arith))))

settlings-offer : (n i : ℕ) → EachOffers (settlings n i)
settlings-offer zero i = tt
settlings-offer (suc n) i = (tt, settlings-offer n (i + 1))

-- ---- a step

either : {P Q R : Type 0} (b : Bool) → (P → R) → (Q → R) → MatchBool b P Q → R
either true p q h = p h
either false p q h = q h

module _ (x : Draw) (lasts : List ℕ) (w : World) (lasts' : List ℕ) (w' : World) (r : IsReached w) where
  sends-on : Sends x lasts w lasts' w' → IsReached w'
  sends-on h = passes-on w w' (line.Arrive x.connection (packet_of (wish_of x.kind) x.path (slice_index lasts (x.connection - 1)))) tt h.arrives r

  does-on : (h : Happening) → OffersSession h → Does lasts lasts' (Passes w h w') → IsReached w'
  does-on h offers d = passes-on w w' h offers d.line r

  pings-on : (o : Option Why) → PingsBy x lasts w lasts' w' o → IsReached w'
  pings-on None d = does-on (line.Entry x.connection) tt d
  pings-on (Some why) h = sends-on h

  asks-on : Asks x lasts w lasts' w' → IsReached w'
  asks-on h = either (is_ping (wish_of x.kind)) (pings-on (fault w (line.Entry x.connection))) sends-on h

  goes-on : GoesOn x lasts w lasts' w' → IsReached w'
  goes-on h = either (awaits_reply x.connection w.lines) (does-on (line.Entry x.connection) tt) asks-on h

  turns-on : (f : Option Flight) → TurnsBy x lasts w lasts' w' f → IsReached w'
  turns-on (Some (Out asking)) d = does-on (line.Exec x.connection) tt d
  turns-on (Some (Carried a)) d = does-on (line.Answer x.connection) tt d
  turns-on (Some Denied) d = does-on (line.Answer x.connection) tt d
  turns-on None h = goes-on h

  pub steps-on : Steps x lasts w lasts' w' → IsReached w'
  steps-on h = either (is_open_conn (conn_at x.connection w)) (turns-on (flight_at x.connection w)) (λ (d : Does lasts lasts' (w' ≡ w)). subst IsReached (sym d.line) r) h

walks-on : (connections n : ℕ) (g : Lcg) (lasts : List ℕ) (w w' : World) → Walks connections n g lasts w w' → IsReached w → IsReached w'
walks-on connections zero g lasts w w' same r = subst IsReached (sym same) r
walks-on connections (suc n) g lasts w w' h r =
    walks-on connections n (after_draw g) h.0 h.1 w' h.3 (steps-on (drawn connections g) lasts w h.0 h.1 r h.2)

-- ---- the whole schedule

pub scheduled-reached : (number connections steps : ℕ) (w : World) → connections ≤ 256 → IsScheduled number connections steps w → IsReached w
scheduled-reached number connections steps w few s =
    all-on (settlings connections 1) s.walked w (settlings-offer connections 1) s.settles
    (walks-on connections steps (seeded number) (replicate connections 0) s.opened s.walked s.walks
    (all-on (openings connections 1) s.first s.opened (openings-offer connections 1 (omega arith) (omega arith)) s.opens
    (reached-first s.first s.is_first)))

-- it is stressed where its lines can be counted
pub stressed : (number connections steps : ℕ) (w : World) (x : Summary) → connections ≤ 256 → length w.lines < max_count → IsScheduled number connections steps w → x ≡ summary_of steps w.lines
    → IsStressed number connections steps x
stressed number connections steps w x few short s counted =
    let r = scheduled-reached number connections steps w few s in
    let frames = few-counted w.lines short in
    record {
      world = w;
      scheduled = s;
      counted = counted;
      happenings = r.happenings;
      ticks = r.ticks;
      runs = r.runs;
      served = every-run-served r.happenings r.ticks w r.offers (lines-count-frames r.happenings r.ticks w r.runs frames) r.runs;
      lawful = every-replay-lawful r.happenings r.ticks w r.offers frames r.runs;
    }
