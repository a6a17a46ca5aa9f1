-- Each line of a script, settle too, and each run of a script keeps a world of which all is accounted for.
use Rattle.ev_types.specs.Lapses.{foreign, lapse}
use Rattle.std.proofs.Common.{Bool, List, [], ap, arith, false, inl, inr, refl, subst, suc, sym, true, zero, ℕ, ◌+◌, ◌∙◌, ◌∷◌, ◌≡◌}
use Rattle.std.proofs.lemmas.List.Elements.{All-head, All-tail}
use Rattle.std.specs.FinMap.{get-empty}
use Rattle.std.specs.Ordering.{nat_cmp}
use Rattle.std.specs.Prelude.{All, None, Option, Some, if◌then◌else◌, is_some, option_and_then}
use Rattle.zk_jute.specs.JuteWriting.{with_length}
use Rattle.zk_transcript.specs.Conversations.{IsInConnection}
use Rattle.zk_transcript.specs.Legal.{Tick}
use Rattle.zk_transcript.specs.History.{begin_lines}
use Rattle.zp_script.specs.Effects.{Does}
use Rattle.zp_script.specs.Entries.{cursor_at, next_entry}
use Rattle.zp_script.specs.Faults.{fault, flight_at, if_fails, is_kept_key}
use Rattle.zp_script.specs.Happens.{Effect, Happens, Settles, flight_line, is_waiting, max_settling, settling, settling_conn}
use Rattle.zp_script.specs.Runs.{IsFirst, Runs, RunsFrom}
use Rattle.zp_script.specs.Worlds.{Conn, World, conn_at, is_closed_actor}
use Rattle.zp_script.specs.declared.flight.Flight.TheVariants.{Carried, Denied, Out}
use Rattle.zp_script.specs.declared.flight.Flight.{Flight}
use Rattle.zp_step.specs.Stages.{max_count}
use Rattle.zp_world_laws.proofs.Accounts.{exec-accounted, foreign-at, lapse-at, open-accounted, reap-accounted, stray-accounted, tick-accounted}
use Rattle.zp_world_laws.proofs.Arrivals.{acts-accounted, arrives-accounted, nat-either}
use Rattle.zp_world_laws.proofs.Entering.{first-entries}
use Rattle.zp_world_laws.proofs.First.{first-whole}
use Rattle.zp_world_laws.proofs.Happenings.{entry-idle-at, passes}
use Rattle.zp_world_laws.proofs.Kept.{foreign-whole, lapse-whole}
use Rattle.zp_world_laws.proofs.Lives.{answer-acts, cut-acts, end-acts, entry-acts, lag-acts, refuse-acts, restart-accounted}
use Rattle.zp_world_laws.proofs.Rising.{Grown, delivers-grown, does-grown, enters-grown, exec-grown, grown-same, grown-then}
use Rattle.zp_world_laws.proofs.Within.{within-silent}
use Rattle.zp_world_laws.specs.Accounting.{IsAccounted, IsWithinCounts, OffersSession}
use Rattle.zp_world_laws.specs.Knowing.{Known}
use Rattle.zt_text.specs.declared.script.Happening.TheVariants as line
use Rattle.zt_text.specs.declared.script.Happening.{Happening}
use Rattle.zt_text.specs.declared.script.Why.TheVariants as why
use Rattle.zx_base.proofs.Options.{none_some, some_is}

-- ---- counts that are within their ranges were so before

pub within-before : (w w' : World) → Grown w w' → IsWithinCounts w' → IsWithinCounts w
within-before w w' g k = record {
  frames = λ c x there. elim (nat-either x.frames max_count) [
    | inl less ↦ less
    | inr full ↦ (let t = g.conns c x there in let less = k.frames c t.0 t.1 in absurd (omega (arith, less, t.2 full)))
  ];
}

-- ---- each line but settle

pub number-free : (o : Option Conn) → if_fails (is_some o) why.NumberInUse None ≡ None → o ≡ None
number-free None h = refl
number-free (Some x) h = absurd (none_some (sym h))

pub does-accounted : (w w' : World) (h : Happening) → OffersSession h → IsWithinCounts w' → fault w h ≡ None → Does w h w' → IsAccounted w → IsAccounted w'
unfolding fault
does-accounted w w' (line.Open c p id passwd layout) offer within free h k = subst IsAccounted (sym h) (open-accounted w c p id passwd layout (number-free (conn_at c w) free) offer k)
does-accounted w w' (line.Frame c bytes) offer within free h k = arrives-accounted c w w' (with_length bytes) (λ y e. within.frames c y e) h k
does-accounted w w' (line.Arrive c bytes) offer within free h k = arrives-accounted c w w' bytes (λ y e. within.frames c y e) h k
does-accounted w w' (line.Exec c) offer within free h k = exec-accounted w w' c h k
does-accounted w w' (line.Answer c) offer within free h k = acts-accounted w w' c k (answer-acts w w' c h k)
does-accounted w w' (line.Cut c) offer within free h k = acts-accounted w w' c k (cut-acts w w' c h k.whole)
does-accounted w w' (line.Refuse c) offer within free h k = acts-accounted w w' c k (refuse-acts w w' c h k.whole)
does-accounted w w' (line.Stray n) offer within free h k = stray-accounted w w' n h k
does-accounted w w' (line.Entry c) offer within free h k = acts-accounted w w' c k (entry-acts w w' c (next_entry c w) refl h (entry-idle-at c w free) k)
does-accounted w w' (line.Lag c) offer within free h k = acts-accounted w w' c k (lag-acts w w' c (cursor_at c w) h k.whole)
does-accounted w w' (line.End c) offer within free h k = acts-accounted w w' c k (end-acts w w' c (conn_at c w) h k.whole)
does-accounted w w' (line.Restart p) offer within free h k = subst IsAccounted (sym h) (restart-accounted w p k)
does-accounted w w' (line.Lapse id) offer within free h k = lapse-at w w' id (lapse w.store id) refl h (lapse-whole w w' id h k.whole) k
does-accounted w w' (line.Foreign key v) offer within free h k = foreign-at w w' key v (foreign w.store key v) refl h (foreign-whole w w' key v ((passes (is_kept_key key) _ _ free).0) h k.whole) k
does-accounted w w' (line.Reap c p id) offer within free h k = reap-accounted w w' c p id (number-free (conn_at c w) free) h k
does-accounted w w' (line.Tick n) offer within free h k = subst IsAccounted (sym h) (tick-accounted w (w.clock + n) k)
does-accounted w w' (line.Settle c) offer within free h k = absurd h

-- ---- settle

-- what is out is carried out or answered, or, where nothing is, the next entry is taken
pub data Settling (c : ℕ) (w : World) : Happening → Type 0 where
  carries : Settling c w (line.Exec c)
  answers : Settling c w (line.Answer c)
  enters : (idle : flight_at c w ≡ None) → Settling c w (line.Entry c)

if-is : {A : Type 0} (b : Bool) (o : Option A) (x : A) → (if b then None else o) ≡ Some x → o ≡ Some x
if-is true o x h = absurd (none_some h)
if-is false o x h = h

entry-is : (a b : Bool) (c : ℕ) (h : Happening) → ◌≡◌ {A = Option Happening} (if a then (if b then Some (line.Entry c) else None) else None) (Some h) → line.Entry c ≡ h
entry-is true true c h e = some_is e
entry-is true false c h e = absurd (none_some e)
entry-is false b c h e = absurd (none_some e)

pub settling-is : (c : ℕ) (w : World) (h : Happening) → settling c w ≡ Some h → Settling c w h
settling-is c w h e = by-conn (conn_at c w) refl e
  where
    by-flight : (x : Conn) (f : Option Flight) → conn_at c w ≡ Some x → x.flight ≡ f → flight_line c w x f ≡ Some h → Settling c w h
    by-flight x (Some (Out a)) there g p = subst (Settling c w) (some_is p) carries
    by-flight x (Some (Carried a)) there g p = subst (Settling c w) (some_is p) answers
    by-flight x (Some Denied) there g p = subst (Settling c w) (some_is p) answers
    by-flight x None there g p = subst (Settling c w) (entry-is (is_waiting x.actor) (is_some (next_entry c w)) c h p) (enters (ap (option_and_then (λ (y : Conn). y.flight)) there ∙ g))

    by-conn : (o : Option Conn) → conn_at c w ≡ o → settling_conn c w o ≡ Some h → Settling c w h
    by-conn None f p = absurd (none_some p)
    by-conn (Some x) f p = by-flight x x.flight f refl (if-is (is_closed_actor x.actor) (flight_line c w x x.flight) h p)

settling-grown : (c : ℕ) (w w' : World) (h : Happening) → Settling c w h → Does w h w' → Grown w w'
settling-grown c w w' _ carries h = exec-grown w w' c h
settling-grown c w w' _ answers h = delivers-grown w w' c (flight_at c w) h
settling-grown c w w' _ (enters idle) h = enters-grown w w' c (next_entry c w) h

settling-accounted : (c : ℕ) (w w' : World) (h : Happening) → Settling c w h → Does w h w' → IsAccounted w → IsAccounted w'
settling-accounted c w w' _ carries h k = exec-accounted w w' c h k
settling-accounted c w w' _ answers h k = acts-accounted w w' c k (answer-acts w w' c h k)
settling-accounted c w w' _ (enters idle) h k = acts-accounted w w' c k (entry-acts w w' c (next_entry c w) refl h idle k)

abbrev pub SettlesOn : ℕ → ℕ → World → World → Option Happening → Type 0
SettlesOn n c w w' o = elim o [ None ↦ w' ≡ w | Some h ↦ (mid : World) × Does w h mid × Settles n c mid w' ]

-- what each line of a settle keeps is kept by the settle
pub settles-keep : (P : World → Type 0) (c : ℕ) → ((w w' : World) (h : Happening) → Settling c w h → Does w h w' → P w → P w') → (n : ℕ) (w w' : World) → Settles n c w w' → P w → P w'
settles-keep P c each zero w w' h k = subst P (sym h) k
settles-keep P c each (suc n) w w' h k = go (settling c w) refl (λ mid r. settles-keep P c each n mid w' r) h
  where
    go : (o : Option Happening) → settling c w ≡ o → ((mid : World) → Settles n c mid w' → P mid → P w') → SettlesOn n c w w' o → P w'
    go None e later g = subst P (sym g) k
    go (Some x) e later (mid, does, rest) = later mid rest (each w mid x (settling-is c w x e) does k)

settles-grown : (n c : ℕ) (w w' : World) → Settles n c w w' → Grown w w'
settles-grown n c w w' h = settles-keep (Grown w) c (λ v v' x s does g. grown-then w v v' g (settling-grown c v v' x s does)) n w w' h (grown-same w w refl)

settles-accounted : (n c : ℕ) (w w' : World) → Settles n c w w' → IsAccounted w → IsAccounted w'
settles-accounted n c w w' h k = settles-keep IsAccounted c (settling-accounted c) n w w' h k

-- ---- a line whose tests pass

-- a line settles, or it does what `Does` says
pub by-effect : (P : Type 0) (w w' : World) (h : Happening) → Effect w h w' → ((c : ℕ) → Settles (max_settling c w) c w w' → P) → (Does w h w' → P) → P
by-effect P w w' (line.Settle c) e settles does = settles c e
by-effect P w w' (line.Open c p id passwd layout) e settles does = does e
by-effect P w w' (line.Frame c bytes) e settles does = does e
by-effect P w w' (line.Arrive c bytes) e settles does = does e
by-effect P w w' (line.Exec c) e settles does = does e
by-effect P w w' (line.Answer c) e settles does = does e
by-effect P w w' (line.Cut c) e settles does = does e
by-effect P w w' (line.Refuse c) e settles does = does e
by-effect P w w' (line.Stray n) e settles does = does e
by-effect P w w' (line.Entry c) e settles does = does e
by-effect P w w' (line.Lag c) e settles does = does e
by-effect P w w' (line.End c) e settles does = does e
by-effect P w w' (line.Restart p) e settles does = does e
by-effect P w w' (line.Lapse id) e settles does = does e
by-effect P w w' (line.Foreign key v) e settles does = does e
by-effect P w w' (line.Reap c p id) e settles does = does e
by-effect P w w' (line.Tick n) e settles does = does e

effect-grown : (w w' : World) (h : Happening) → fault w h ≡ None → Effect w h w' → Grown w w'
effect-grown w w' h free e = by-effect (Grown w w') w w' h e (λ c s. settles-grown (max_settling c w) c w w' s) (λ d. does-grown w w' h free d)

effect-accounted : (w w' : World) (h : Happening) → OffersSession h → IsWithinCounts w' → fault w h ≡ None → Effect w h w' → IsAccounted w → IsAccounted w'
effect-accounted w w' h offer within free e k =
    by-effect (IsAccounted w') w w' h e (λ c s. settles-accounted (max_settling c w) c w w' s k) (λ d. does-accounted w w' h offer within free d k)

pub happens-accounted : (w w' : World) (h : Happening) → OffersSession h → IsWithinCounts w' → Happens w h w' → IsAccounted w → IsAccounted w'
happens-accounted w w' h offer within p k = effect-accounted w w' h offer within p.possible p.effect k

-- ---- a whole script

pub first-accounted : (w : World) → IsFirst w → IsAccounted w
first-accounted w (s, a, e, is) = record {
  whole = first-whole w (s, a, e, is);
  known = subst Known (sym is) (record { used = λ c x there. absurd (none_some (sym (get-empty nat_cmp c) ∙ there)); unused = λ c none. refl });
  entries = first-entries w (s, a, e, is);
  within = λ c. subst (λ (v : World). IsInConnection v.lines c) (sym is) (within-silent (begin_lines 0) c refl);
}

pub runs-grown : (w w' : World) (hs : List Happening) (ticks : List Tick) → RunsFrom w hs ticks w' → Grown w w'
runs-grown w w' [] ticks (none, same) = grown-same w w' same
runs-grown w w' (h ∷ hs) ticks (mid, more, one, e, rest) = grown-then w mid w' (effect-grown w mid h one.possible one.effect) (runs-grown mid w' hs more rest)

runs-accounted : (w w' : World) (hs : List Happening) (ticks : List Tick) → All OffersSession hs → IsWithinCounts w' → RunsFrom w hs ticks w' → IsAccounted w → IsAccounted w'
runs-accounted w w' [] ticks offers within (none, same) k = subst IsAccounted (sym same) k
runs-accounted w w' (h ∷ hs) ticks offers within (mid, more, one, e, rest) k =
    runs-accounted mid w' hs more (All-tail OffersSession h hs offers) within rest
    (happens-accounted w mid h (All-head OffersSession h hs offers) (within-before mid w' (runs-grown mid w' hs more rest) within) one k)

pub every-run-accounted : (hs : List Happening) (ticks : List Tick) (w : World) → All OffersSession hs → IsWithinCounts w → Runs hs ticks w → IsAccounted w
every-run-accounted hs ticks w offers within (first, begins, runs) = runs-accounted first w hs ticks offers within runs (first-accounted first begins)
