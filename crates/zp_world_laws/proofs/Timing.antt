-- The time of each request's update is the script's clock at a line between that of its frame and its own.
use Rattle.ev_types.specs.Store.{Store}
use Rattle.ev_types.specs.declared.ask.Ask.TheVariants as ask
use Rattle.ev_types.specs.declared.ask.Ask.{Ask}
use Rattle.std.proofs.Common.{List, [], ap, append-nil, append_assoc, arith, inl, inr, length, refl, subst, suc, sym, zero, ℕ, ◌++◌, ◌+◌, ◌<◌, ◌∙◌, ◌∷◌, ◌≡◌, ◌≤◌}
use Rattle.std.proofs.Math.Seq.{get_or-append_seam}
use Rattle.std.proofs.lemmas.List.Elements.{All-head, All-tail}
use Rattle.std.proofs.lemmas.List.{get_or_append_left, length-append}
use Rattle.std.proofs.lemmas.Option.{slice_get_within}
use Rattle.std.specs.Prelude.{All, None, Option, Some, option_map, slice_get, ◌⊎◌}
use Rattle.zk_transcript.proofs.Appending.{first_place-push}
use Rattle.zk_transcript.proofs.Lookups.{slice_get-front}
use Rattle.zk_transcript.proofs.Placed.{asked-framed}
use Rattle.zk_transcript.proofs.Walks.{first_place-bound}
use Rattle.zk_transcript.specs.History.{frame_shown, begin_lines}
use Rattle.zk_transcript.specs.Legal.{IsClockBetween, IsPunctual, Tick, frame_place, lines_before}
use Rattle.zk_transcript.specs.Walks.{placed_frame}
use Rattle.zk_transcript.specs.declared.transcript.TranscriptLine.TheVariants.{Update}
use Rattle.zk_transcript.specs.declared.transcript.TranscriptLine.{TranscriptLine}
use Rattle.zk_service.specs.declared.update.UpdateKind.TheVariants.{Asked}
use Rattle.zk_service.specs.declared.update.UpdateKind.{UpdateKind}
use Rattle.zk_service.specs.declared.update.UpdateRec.{UpdateRec}
use Rattle.zp_script.specs.Happens.{Happens, max_settling}
use Rattle.zp_script.specs.Runs.{IsFirst, Runs, RunsFrom, tick_of}
use Rattle.zp_script.specs.Worlds.{World}
use Rattle.zp_script.specs.declared.flight.Asking.{Asking}
use Rattle.zp_world_laws.proofs.Arrivals.{nat-either}
use Rattle.zp_world_laws.proofs.Effects.{clock-air}
use Rattle.zp_world_laws.proofs.First.{no-air}
use Rattle.zp_world_laws.proofs.Giving.{whole-gives}
use Rattle.zp_world_laws.proofs.Looking.{get-last}
use Rattle.zp_world_laws.proofs.Running.{every-run-accounted, first-accounted, happens-accounted, runs-grown, within-before}
use Rattle.zp_world_laws.proofs.Since.{IsKnownIn, IsOfNow, Since, WasAsked, does-since, settles-since}
use Rattle.zp_world_laws.specs.Accounting.{IsAccounted, IsWithinCounts, OffersSession}
use Rattle.zp_world_laws.specs.Bounds.{IsBoundAs}
use Rattle.zp_world_laws.specs.Giving.{IsServedRun}
use Rattle.zp_world_laws.specs.Holding.{Source, air}
use Rattle.zt_text.specs.declared.script.Happening.TheVariants as line
use Rattle.zt_text.specs.declared.script.Happening.{Happening}
use Rattle.zx_base.proofs.Options.{none_some, some_is}

-- ---- the clocks of a script

lines_before-front : (ticks more : List Tick) (k : ℕ) → k ≤ length ticks → lines_before (ticks ++ more) k ≡ lines_before ticks k
lines_before-front ticks more zero h = refl
lines_before-front ticks more (suc j) h =
    let within_ticks : j < length ticks = omega (arith, h) in
    ap (λ (t : Tick). t.lines) (get_or_append_left ticks more (record { clock = 0; lines = 0 }) j within_ticks)

still-between : (ticks more : List Tick) (first last now : ℕ) → IsClockBetween ticks first last now → IsClockBetween (ticks ++ more) first last now
still-between ticks more first last now b =
    let short : b.0 < length ticks = slice_get_within ticks b.0 b.1 b.2 in
    (b.0, b.1, slice_get-front ticks more b.0 short ∙ b.2, b.3, b.4, subst (λ (n : ℕ). n ≤ last) (sym (lines_before-front ticks more b.0 (omega (arith, short)))) b.5)

-- a line of the script left this clock, after the line at `first` of the transcript
abbrev pub IsTickAt : List Tick → ℕ → ℕ → Type 0
IsTickAt ticks first now = (k : ℕ) × (t : Tick) × (slice_get ticks k ≡ Some t) × (t.clock ≡ now) × (first < t.lines)

still-tick : (ticks more : List Tick) (first now : ℕ) → IsTickAt ticks first now → IsTickAt (ticks ++ more) first now
still-tick ticks more first now (k, t, there, clock, after) = (k, t, slice_get-front ticks more k (slice_get_within ticks k t there) ∙ there, clock, after)

last-tick : (ticks : List Tick) (t : Tick) → slice_get (ticks ++ t ∷ []) (length ticks) ≡ Some t
last-tick ticks t = get-last ticks t

frame_place-bound : (c i : ℕ) (ls : List TranscriptLine) (first : ℕ) → frame_place c i ls ≡ Some first → first < length ls
frame_place-bound c i ls first f = go (placed_frame c i ls) refl f
  where
    go : (o : Option (ℕ × List ℕ)) → placed_frame c i ls ≡ o → option_map (λ (x : ℕ × List ℕ). x.0) o ≡ Some first → first < length ls
    go None e t = absurd (none_some t)
    go (Some x) e t = let b = first_place-bound (frame_shown c i) 0 ls x e in omega (arith, b, some_is t)

-- ---- what holds of the clocks after a line of the script

pub record IsTimed (ticks : List Tick) (w : World) : Type 0 where
  pub asked : (o : Source) (x : Asking) (c i m first : ℕ) → air w o ≡ Some x → x.kind ≡ Some (Asked c i m) → frame_place c i w.lines ≡ Some first → IsTickAt ticks first m
  pub punctual : IsPunctual ticks w.lines
  pub before : (k : ℕ) → k ≤ length ticks → lines_before ticks k ≤ length w.lines

-- the frame of what may be carried out has its line
bound-framed : (s : Store) (lines : List TranscriptLine) (c i m : ℕ) (q : Ask) → IsBoundAs s lines (Some (Asked c i m)) q → (f : ℕ) × (bytes : List ℕ) × (placed_frame c i lines ≡ Some (f, bytes))
bound-framed s lines c i m (ask.Txn t) b = let f = ((b.0).framed).frame in (f.place, ((b.0).framed).bytes, f.framed)
bound-framed s lines c i m (ask.Range q) b = absurd b
bound-framed s lines c i m (ask.Grant id t) b = absurd b
bound-framed s lines c i m (ask.Alive id) b = absurd b

asked-place : (w : World) (c i m : ℕ) → IsAccounted w → WasAsked w (Some (Asked c i m)) → (f : ℕ) × (bytes : List ℕ) × (placed_frame c i w.lines ≡ Some (f, bytes))
asked-place w c i m k a = bound-framed w.store w.lines c i m (a.what).ask (subst (λ o. IsBoundAs w.store w.lines o (a.what).ask) a.same (((k.whole).holds).bound a.source a.what a.was))

same-place : (lines more : List TranscriptLine) (c i f first : ℕ) (bytes : List ℕ) → placed_frame c i lines ≡ Some (f, bytes) → frame_place c i (lines ++ more) ≡ Some first → f ≡ first
same-place lines more c i f first bytes a b = some_is (sym (ap (option_map (λ (x : ℕ × List ℕ). x.0)) (first_place-push (frame_shown c i) 0 lines more (f, bytes) a)) ∙ b)

place-in : (lines : List TranscriptLine) (c i f : ℕ) (bytes : List ℕ) → placed_frame c i lines ≡ Some (f, bytes) → frame_place c i lines ≡ Some f
place-in lines c i f bytes a = ap (option_map (λ (x : ℕ × List ℕ). x.0)) a

-- a place in longer lines
get-place : {A : Type 0} (xs ys : List A) (j : ℕ) (x : A) → slice_get (xs ++ ys) j ≡ Some x → (slice_get xs j ≡ Some x) ⊎ ((k : ℕ) × (j ≡ length xs + k) × (slice_get ys k ≡ Some x))
get-place [] ys j x h = inr (j, omega arith, h)
get-place (y ∷ xs) ys zero x h = inl h
get-place (y ∷ xs) ys (suc j) x h = elim (get-place xs ys j x h) [ inl e ↦ inl e | inr e ↦ inr (e.0, omega (arith, e.1), e.2) ]

-- ---- a line of the script

abbrev pub IsKnownBy : World → ℕ → Option UpdateKind → Type 0
IsKnownBy w now kind = WasAsked w kind ⊎ IsOfNow now kind

module _ (ticks : List Tick) (w w' : World) (k : IsAccounted w) (timed : IsTimed ticks w) (more : List TranscriptLine) (lines : w'.lines ≡ w.lines ++ more) (asked : (o : Source) (x : Asking) → air w' o ≡ Some x → IsKnownBy w w'.clock x.kind)
    (updates : (j : ℕ) (u : UpdateRec) → slice_get more j ≡ Some (Update u) → IsKnownBy w w'.clock (Some u.kind)) where
  t : Tick
  t = tick_of w'

  longer : length w.lines ≤ length w'.lines
  longer = omega (arith, ap length lines, length-append w.lines more)

  -- of what was asked before
  was-tick : (c i m first : ℕ) → WasAsked w (Some (Asked c i m)) → frame_place c i w'.lines ≡ Some first → IsTickAt ticks first m
  was-tick c i m first a f =
      let p = asked-place w c i m k a in
      let same : p.0 ≡ first = same-place w.lines more c i p.0 first p.1 p.2 (ap (frame_place c i) (sym lines) ∙ f) in
      subst (λ n. IsTickAt ticks n m) same (timed.asked a.source a.what c i m p.0 a.was a.same (place-in w.lines c i p.0 p.1 p.2))

  now-tick : (c i m first : ℕ) → m ≡ w'.clock → frame_place c i w'.lines ≡ Some first → IsTickAt (ticks ++ tick_of w' ∷ []) first m
  now-tick c i m first now f = (length ticks, tick_of w', last-tick ticks (tick_of w'), sym now, frame_place-bound c i w'.lines first f)

  asked-now : (o : Source) (x : Asking) (c i m first : ℕ) → air w' o ≡ Some x → x.kind ≡ Some (Asked c i m) → frame_place c i w'.lines ≡ Some first → IsTickAt (ticks ++ tick_of w' ∷ []) first m
  asked-now o x c i m first e kind f = elim (asked o x e) [
    | inl a ↦ still-tick ticks (tick_of w' ∷ []) first m (was-tick c i m first (record { source = a.source; what = a.what; was = a.was; same = a.same ∙ kind }) f)
    | inr now ↦ now-tick c i m first (now c i m kind) f
  ]

  new-between : (c i m first place : ℕ) → IsTickAt (ticks ++ tick_of w' ∷ []) first m → length w.lines ≤ place → ((j : ℕ) (u : Tick) → slice_get (ticks ++ tick_of w' ∷ []) j ≡ Some u → j ≤ length ticks) → IsClockBetween (ticks ++ tick_of w' ∷ []) first place m
  new-between c i m first place (j, u, there, clock, after) le short =
      let s = short j u there in
      (j, u, there, clock, after, (let same = lines_before-front ticks (tick_of w' ∷ []) j s in let b = timed.before j s in omega (arith, same, b, le)))

  short-tick : (j : ℕ) (u : Tick) → slice_get (ticks ++ tick_of w' ∷ []) j ≡ Some u → j ≤ length ticks
  short-tick j u e = let b = slice_get_within (ticks ++ tick_of w' ∷ []) j u e in omega (arith, b, length-append ticks (tick_of w' ∷ []))

  punctual-now : IsPunctual (ticks ++ tick_of w' ∷ []) w'.lines
  punctual-now place first c i m zxid e f = elim (get-place w.lines more place (Update (record { zxid = zxid; kind = Asked c i m })) (ap (λ l. slice_get l place) (sym lines) ∙ e)) [
    | inl old ↦
        let at = asked-framed w.lines place zxid c i m (((k.whole).holds).serves).legal old in
        let same : at.0 ≡ first = same-place w.lines more c i at.0 first at.1 at.2 (ap (frame_place c i) (sym lines) ∙ f) in
        still-between ticks (tick_of w' ∷ []) first place m (subst (λ n. IsClockBetween ticks n place m) same (timed.punctual place at.0 c i m zxid old (place-in w.lines c i at.0 at.1 at.2)))
    | inr new ↦ elim (updates new.0 (record { zxid = zxid; kind = Asked c i m }) new.2) [
      | inl a ↦ new-between c i m first place (still-tick ticks (tick_of w' ∷ []) first m (was-tick c i m first a f)) (omega (arith, new.1)) short-tick
      | inr now ↦ new-between c i m first place (now-tick c i m first (now c i m refl) f) (omega (arith, new.1)) short-tick
    ]
  ]

  before-now : (j : ℕ) → j ≤ length (ticks ++ tick_of w' ∷ []) → lines_before (ticks ++ tick_of w' ∷ []) j ≤ length w'.lines
  before-now j le = elim (nat-either (length ticks) j) [
    | inl beyond ↦
        let is : j ≡ suc (length ticks) = omega (arith, beyond, le, length-append ticks (tick_of w' ∷ [])) in
        let last : lines_before (ticks ++ tick_of w' ∷ []) (suc (length ticks)) ≡ length w'.lines = ap (λ (u : Tick). u.lines) (get_or-append_seam ticks (tick_of w') [] (record { clock = 0; lines = 0 })) in
        omega (arith, ap (lines_before (ticks ++ tick_of w' ∷ [])) is, last)
    | inr within ↦ (let same = lines_before-front ticks (tick_of w' ∷ []) j within in let b = timed.before j within in omega (arith, same, b, longer))
  ]

  pub timed-then : IsTimed (ticks ++ tick_of w' ∷ []) w'
  timed-then = record { asked = asked-now; punctual = punctual-now; before = before-now }

-- ---- each line of the script

since-timed : (ticks : List Tick) (w w' : World) → IsAccounted w → IsTimed ticks w → Since w w' → IsTimed (ticks ++ tick_of w' ∷ []) w'
since-timed ticks w w' k timed s = timed-then ticks w w' k timed s.more s.lines (λ o x e. now-too x.kind (s.asked o x e)) (λ j u e. now-too (Some u.kind) (s.updates j u e))
  where
    now-too : (kind : Option UpdateKind) → IsKnownIn w kind → IsKnownBy w w'.clock kind
    now-too kind (inl a) = inl a
    now-too kind (inr h) = inr (λ c i m e. h c i m e ∙ sym s.clock)

tick-timed : (ticks : List Tick) (w w' : World) (n : ℕ) → IsAccounted w → IsTimed ticks w → w' ≡ record w { clock = n } → IsTimed (ticks ++ tick_of w' ∷ []) w'
tick-timed ticks w w' n k timed is = subst (λ v. IsTimed (ticks ++ tick_of v ∷ []) v) (sym is) (
    timed-then ticks w (record w { clock = n }) k timed [] (sym (append-nil w.lines)) (λ o x e. inl (record { source = o; what = x; was = clock-air w n o x e; same = refl })) (λ j u e. absurd (none_some e))
    )

happens-timed : (ticks : List Tick) (w w' : World) (h : Happening) → IsAccounted w → IsTimed ticks w → Happens w h w' → IsTimed (ticks ++ tick_of w' ∷ []) w'
happens-timed ticks w w' (line.Settle c) k timed p = since-timed ticks w w' k timed (settles-since (max_settling c w) c w w' p.effect)
happens-timed ticks w w' (line.Tick n) k timed p = tick-timed ticks w w' (w.clock + n) k timed p.effect
happens-timed ticks w w' (line.Open c p id passwd layout) k timed h = since-timed ticks w w' k timed (does-since w w' (line.Open c p id passwd layout) (λ x. x) h.possible h.effect)
happens-timed ticks w w' (line.Frame c bytes) k timed h = since-timed ticks w w' k timed (does-since w w' (line.Frame c bytes) (λ x. x) h.possible h.effect)
happens-timed ticks w w' (line.Arrive c bytes) k timed h = since-timed ticks w w' k timed (does-since w w' (line.Arrive c bytes) (λ x. x) h.possible h.effect)
happens-timed ticks w w' (line.Exec c) k timed h = since-timed ticks w w' k timed (does-since w w' (line.Exec c) (λ x. x) h.possible h.effect)
happens-timed ticks w w' (line.Answer c) k timed h = since-timed ticks w w' k timed (does-since w w' (line.Answer c) (λ x. x) h.possible h.effect)
happens-timed ticks w w' (line.Cut c) k timed h = since-timed ticks w w' k timed (does-since w w' (line.Cut c) (λ x. x) h.possible h.effect)
happens-timed ticks w w' (line.Refuse c) k timed h = since-timed ticks w w' k timed (does-since w w' (line.Refuse c) (λ x. x) h.possible h.effect)
happens-timed ticks w w' (line.Stray n) k timed h = since-timed ticks w w' k timed (does-since w w' (line.Stray n) (λ x. x) h.possible h.effect)
happens-timed ticks w w' (line.Entry c) k timed h = since-timed ticks w w' k timed (does-since w w' (line.Entry c) (λ x. x) h.possible h.effect)
happens-timed ticks w w' (line.Lag c) k timed h = since-timed ticks w w' k timed (does-since w w' (line.Lag c) (λ x. x) h.possible h.effect)
happens-timed ticks w w' (line.End c) k timed h = since-timed ticks w w' k timed (does-since w w' (line.End c) (λ x. x) h.possible h.effect)
happens-timed ticks w w' (line.Restart p) k timed h = since-timed ticks w w' k timed (does-since w w' (line.Restart p) (λ x. x) h.possible h.effect)
happens-timed ticks w w' (line.Lapse id) k timed h = since-timed ticks w w' k timed (does-since w w' (line.Lapse id) (λ x. x) h.possible h.effect)
happens-timed ticks w w' (line.Foreign key v) k timed h = since-timed ticks w w' k timed (does-since w w' (line.Foreign key v) (λ x. x) h.possible h.effect)
happens-timed ticks w w' (line.Reap c p id) k timed h = since-timed ticks w w' k timed (does-since w w' (line.Reap c p id) (λ x. x) h.possible h.effect)

-- ---- a whole script

first-timed : (w : World) → IsFirst w → IsTimed [] w
first-timed w (s, a, e, is) = subst (IsTimed []) (sym is) (record { asked = λ o x c i m first f. absurd (no-air s o x f); punctual = none; before = λ k le. start k le })
  where
    none : IsPunctual [] (begin_lines 0)
    none zero first c i m zxid f g = absurd (cc)
    none (suc place) first c i m zxid f g = absurd (none_some f)

    start : (k : ℕ) → k ≤ 0 → lines_before [] k ≤ length (begin_lines 0)
    start zero le = omega arith
    start (suc k) le = absurd (omega (arith, le))

runs-timed : (done ticks : List Tick) (w w' : World) (hs : List Happening) → All OffersSession hs → IsWithinCounts w' → RunsFrom w hs ticks w' → IsAccounted w → IsTimed done w → IsTimed (done ++ ticks) w'
runs-timed done ticks w w' [] offers within (none, same) k timed = subst (λ l. IsTimed (done ++ l) w') (sym none) (subst (λ l. IsTimed l w') (sym (append-nil done)) (subst (IsTimed done) (sym same) timed))
runs-timed done ticks w w' (h ∷ hs) offers within (mid, more, one, e, rest) k timed =
    let k1 = happens-accounted w mid h (All-head OffersSession h hs offers) (within-before mid w' (runs-grown mid w' hs more rest) within) one k in
    subst (λ l. IsTimed (done ++ l) w') (sym e)
    (subst (λ l. IsTimed l w') (append_assoc done (tick_of mid ∷ []) more)
    (runs-timed (done ++ tick_of mid ∷ []) more mid w' hs (All-tail OffersSession h hs offers) within rest k1 (happens-timed done w mid h k timed one)))

every-run-punctual : (hs : List Happening) (ticks : List Tick) (w : World) → All OffersSession hs → IsWithinCounts w → Runs hs ticks w → IsPunctual ticks w.lines
every-run-punctual hs ticks w offers within (first, begins, runs) = (runs-timed [] ticks first w hs offers within runs (first-accounted first begins) (first-timed first begins)).punctual

pub every-run-served : (hs : List Happening) (ticks : List Tick) (w : World) → All OffersSession hs → IsWithinCounts w → Runs hs ticks w → IsServedRun ticks w.lines
every-run-served hs ticks w offers within runs =
    let k = every-run-accounted hs ticks w offers within runs in
    let h = whole-gives w k.whole in
    record { history = h; punctual = every-run-punctual hs ticks w offers within runs; served = λ c. record { within = k.within c; walks = λ a e. h.walks c a.0 a.1 e } }
