-- The lines that a settle has left are no more than it may do: the frames that a connection holds are some of those that came.
use Rattle.std.proofs.Common.{◌≡◌, ℕ, zero, suc, ◌+◌, ◌*◌, ◌≤◌, ◌<◌, List, [], ◌∷◌, length, refl, sym, ap, ◌∙◌, subst, arith, Bool, true, false, ℤ, inl, inr}
use Rattle.std.specs.Prelude.{Option, Some, None, ◌⊎◌, ◌==◌, ◌&&◌, if◌then◌else◌}
use Rattle.std.proofs.lemmas.Bool.Decides.{nat_tests}
use Rattle.zk_transcript.proofs.Lookups.{first_shown-place}
use Rattle.zk_transcript.specs.History.{first_shown, frame, frame_shown, when}
use Rattle.zk_transcript.specs.declared.transcript.TranscriptLine.TheVariants.{Close, Frame as FrameLine, Lapse as LapseLine, Open, Send, Update}
use Rattle.zk_transcript.specs.declared.transcript.TranscriptLine.{TranscriptLine}
use Rattle.zp_laws.specs.Frames.{AreFrames, IsAtWork, IsFrameAt}
use Rattle.zp_step.specs.Stages.{is_served, waits_from, Core, Stage, Unconnected, Connecting, Ready, KeepingAlive, Checking, Reading, Committing, Waiting, Shut, counted_up, is_shut, max_count}
use Rattle.zp_script.specs.Happens.{asks_at, max_settling}
use Rattle.zp_script.specs.Worlds.{Actor, Closed, Conn, Connection, Reaper, World, conn_at}
use Rattle.zp_world_laws.proofs.Arrivals.{core-of}
use Rattle.zp_world_laws.specs.Accounting.{IsAccounted}
use Rattle.zp_world_laws.specs.Connecting.{IsInStage}
use Rattle.zp_world_laws.specs.Counting.{HasFrames}
use Rattle.zp_settle_laws.proofs.Sizes.{frame-asks, request-long}
use Rattle.zp_settle_laws.specs.Bytes.{CountsBytes, bytes_in, bytes_shown, place_of}
use Rattle.zp_settle_laws.specs.Lines.{asks_in, asks_left, lines_left, lines_of}
use Rattle.zp_settle_laws.specs.Looks.{asks_of_all}
use Rattle.zx_base.proofs.Booleans.{true-not_false as true-false}

-- ---- some frames of a connection have no more bytes than all

abbrev size_of : Option (List ℕ) → ℕ
size_of None = 0
size_of (Some bytes) = length bytes

-- those of n frames, of which the first has index i
abbrev sizes_of : ℕ → ℕ → ℕ → List TranscriptLine → ℕ
sizes_of c i zero lines = 0
sizes_of c i (suc n) lines = size_of (frame c i lines) + sizes_of c (i + 1) n lines

none-sized : (c i n : ℕ) → sizes_of c i n [] ≡ 0
none-sized c i zero = refl
none-sized c i (suc n) = omega (arith, none-sized c (i + 1) n)

-- a line that is no frame of the connection
other-sized : (c i n : ℕ) (l : TranscriptLine) (ls : List TranscriptLine) → ((j : ℕ) → frame_shown c j l ≡ None) → sizes_of c i n (l ∷ ls) ≡ sizes_of c i n ls
other-sized c i zero l ls h = refl
other-sized c i (suc n) l ls h =
    omega (arith, ap (λ (o : Option (List ℕ)). size_of (elim o [ Some x ↦ Some x | None ↦ first_shown (frame_shown c i) ls ])) (h i), other-sized c (i + 1) n l ls h)

same-index : (c i k : ℕ) → ((c == c) && (i == k)) ≡ true → i ≡ k
same-index c i k e = grind (arith, nat_tests)

-- the frame of index k: it is among those from i on, or not
frame-sized : (c i k n : ℕ) (z : ℤ) (bytes : List ℕ) (ls : List TranscriptLine) → ((i ≤ k) × (sizes_of c i n (FrameLine c k z bytes ∷ ls) ≤ length bytes + sizes_of c i n ls)) ⊎ (sizes_of c i n (FrameLine c k z bytes ∷ ls) ≤ sizes_of c i n ls)
frame-sized c i k zero z bytes ls = inr (omega arith)
frame-sized c i k (suc n) z bytes ls = go ((c == c) && (i == k)) refl (frame-sized c (i + 1) k n z bytes ls)
  where
    go : (b : Bool) → ((c == c) && (i == k)) ≡ b → ((i + 1 ≤ k) × (sizes_of c (i + 1) n (FrameLine c k z bytes ∷ ls) ≤ length bytes + sizes_of c (i + 1) n ls)) ⊎ (sizes_of c (i + 1) n (FrameLine c k z bytes ∷ ls) ≤ sizes_of c (i + 1) n ls)
        → ((i ≤ k) × (size_of (elim (when b bytes) [ Some x ↦ Some x | None ↦ first_shown (frame_shown c i) ls ]) + sizes_of c (i + 1) n (FrameLine c k z bytes ∷ ls) ≤ length bytes + (size_of (frame c i ls) + sizes_of c (i + 1) n ls)))
        ⊎ (size_of (elim (when b bytes) [ Some x ↦ Some x | None ↦ first_shown (frame_shown c i) ls ]) + sizes_of c (i + 1) n (FrameLine c k z bytes ∷ ls) ≤ size_of (frame c i ls) + sizes_of c (i + 1) n ls)
    go true e (inl later) = let same : i ≡ k = same-index c i k e in absurd (omega (arith, same, later.0))
    go true e (inr later) = let same : i ≡ k = same-index c i k e in inl (omega (arith, same), omega (arith, later))
    go false e (inl later) = inl (omega (arith, later.0), omega (arith, later.1))
    go false e (inr later) = inr (omega (arith, later))

frame-line : (c i n d k : ℕ) (z : ℤ) (bytes : List ℕ) (ls : List TranscriptLine) → sizes_of c i n (FrameLine d k z bytes ∷ ls) ≤ bytes_in c (FrameLine d k z bytes) + sizes_of c i n ls
frame-line c i n d k z bytes ls = go (c == d) refl
  where
    same-number : (c d : ℕ) → (c == d) ≡ true → c ≡ d
    same-number c d e = grind (arith, nat_tests)

    go : (b : Bool) → (c == d) ≡ b → sizes_of c i n (FrameLine d k z bytes ∷ ls) ≤ (if b then length bytes else 0) + sizes_of c i n ls
    go true e = subst (λ m. sizes_of c i n (FrameLine m k z bytes ∷ ls) ≤ length bytes + sizes_of c i n ls) (same-number c d e)
        (elim (frame-sized c i k n z bytes ls) [ inl h ↦ h.1 | inr h ↦ omega (arith, h) ])
    go false e = omega (arith, other-sized c i n (FrameLine d k z bytes) ls (λ j. ap (λ b. when (b && (j == k)) bytes) e))

sizes-most : (c i n : ℕ) (lines : List TranscriptLine) → sizes_of c i n lines ≤ bytes_shown c lines
sizes-most c i n [] = omega (arith, none-sized c i n)
sizes-most c i n (FrameLine d k z bytes ∷ ls) = omega (arith, frame-line c i n d k z bytes ls, sizes-most c i n ls)
sizes-most c i n (Update u ∷ ls) = omega (arith, other-sized c i n (Update u) ls (λ j. refl), sizes-most c i n ls)
sizes-most c i n (Open d p id passwd layout ∷ ls) = omega (arith, other-sized c i n (Open d p id passwd layout) ls (λ j. refl), sizes-most c i n ls)
sizes-most c i n (Send d bytes ∷ ls) = omega (arith, other-sized c i n (Send d bytes) ls (λ j. refl), sizes-most c i n ls)
sizes-most c i n (LapseLine z id ∷ ls) = omega (arith, other-sized c i n (LapseLine z id) ls (λ j. refl), sizes-most c i n ls)
sizes-most c i n (Close d end ∷ ls) = omega (arith, other-sized c i n (Close d end) ls (λ j. refl), sizes-most c i n ls)

-- ---- the frames that a connection holds

frame-size : (lines : List TranscriptLine) (c i : ℕ) (bytes : List ℕ) → IsFrameAt lines c i bytes → size_of (frame c i lines) ≡ length bytes
frame-size lines c i bytes f = ap size_of (first_shown-place (frame_shown c i) 0 lines (f.place, bytes) f.framed)

waiting-asks : (lines : List TranscriptLine) (c i : ℕ) (fs : List (List ℕ)) → AreFrames lines c i fs → asks_of_all fs ≤ 64 * length fs + sizes_of c i (length fs) lines
waiting-asks lines c i [] h = omega arith
waiting-asks lines c i (f ∷ fs) h = omega (arith, frame-asks f, frame-size lines c i f h.0, waiting-asks lines c (i + 1) fs h.1)

-- the one at work too
module _ (lines : List TranscriptLine) (c next : ℕ) (fs : List (List ℕ)) where
  work-asks : (st : Stage) → is_served st ≡ true → IsAtWork lines c next st → AreFrames lines c (waits_from st next) fs → asks_in st + asks_of_all fs + 1 ≤ 64 * (waits_from st next + length fs + 1) + bytes_shown c lines
  work-asks Ready s w h = omega (arith, waiting-asks lines c next fs h, sizes-most c next (length fs) lines)
  work-asks (Waiting p) s w h = omega (arith, waiting-asks lines c (next + 1) fs h, sizes-most c (next + 1) (length fs) lines)
  work-asks (KeepingAlive f) s w h = omega (arith, waiting-asks lines c (next + 1) fs h, sizes-most c next (suc (length fs)) lines, frame-size lines c next f w, frame-asks f)
  work-asks (Checking f) s w h = omega (arith, waiting-asks lines c (next + 1) fs h, sizes-most c next (suc (length fs)) lines, frame-size lines c next f w, frame-asks f)
  work-asks (Reading xid r v ws) s w h = omega (arith, waiting-asks lines c (next + 1) fs h, sizes-most c next (suc (length fs)) lines, frame-size lines c next w.bytes w.frame, request-long w.bytes xid r w.reads)
  work-asks (Committing xid r v p m) s w h = omega (arith, waiting-asks lines c (next + 1) fs h, sizes-most c next (suc (length fs)) lines, frame-size lines c next w.bytes w.frame, request-long w.bytes xid r w.reads)
  work-asks (Unconnected fresh) s w h = absurd (true-false (sym s))
  work-asks (Connecting x) s w h = absurd (true-false (sym s))
  work-asks Shut s w h = absurd (true-false (sym s))

module _ (w : World) (c : ℕ) (x : Conn) (core : Core) (k : IsAccounted w) (there : conn_at c w ≡ Some x) (actor : x.actor ≡ Connection core) where
  known : HasFrames w.lines c x.frames core × IsInStage w.store w.lines c core x.flight core.stage
  known = core-of w c x core k.known there actor

  served-asks : is_served core.stage ≡ true → asks_in core.stage + asks_of_all core.waiting + 1 ≤ 64 * (x.frames + 1) + bytes_shown c w.lines
  served-asks served =
      let s = (k.whole).serving c x core there actor served in
      omega (arith, work-asks w.lines c core.next core.waiting core.stage served (s.stands).work (s.stands).waiting, (known.0).came)

  by-stage : (st : Stage) → core.stage ≡ st → IsInStage w.store w.lines c core x.flight st → asks_in core.stage + asks_of_all core.waiting + 1 ≤ 64 * (x.frames + 1) + bytes_shown c w.lines
  by-stage (Unconnected fresh) e h = omega (arith, ap asks_in e, ap asks_of_all (h.0).none_waits)
  by-stage (Connecting y) e h =
      omega (arith, ap asks_in e, waiting-asks w.lines c 1 core.waiting h.waiting, sizes-most c 1 (length core.waiting) w.lines, (known.0).came, ap (λ st. waits_from st core.next) e, h.next)
  by-stage Ready e h = served-asks (ap is_served e)
  by-stage (KeepingAlive f) e h = served-asks (ap is_served e)
  by-stage (Checking f) e h = served-asks (ap is_served e)
  by-stage (Reading xid r v ws) e h = served-asks (ap is_served e)
  by-stage (Committing xid r v p m) e h = served-asks (ap is_served e)
  by-stage (Waiting p) e h = served-asks (ap is_served e)
  by-stage Shut e h = absurd (true-false (sym (ap is_shut e) ∙ (k.whole).unshut c x core there actor))

  core-asks : asks_left (Connection core) + 1 ≤ 64 * (x.frames + 1) + bytes_shown c w.lines
  core-asks = by-stage core.stage refl known.1

actor-asks : (w : World) (c : ℕ) (x : Conn) (a : Actor) → IsAccounted w → conn_at c w ≡ Some x → x.actor ≡ a → asks_left a + 1 ≤ 64 * (x.frames + 1) + bytes_shown c w.lines
actor-asks w c x (Connection core) k there actor = core-asks w c x core k there actor
actor-asks w c x (Reaper r) k there actor = omega arith
actor-asks w c x Closed k there actor = omega arith

-- ---- the bound

uncut : (n m : ℕ) → counted_up n ≡ m → m < max_count → n ≡ m
uncut n m e lt = omega (arith, e, lt)

pub lines-enough : (w : World) (c : ℕ) → IsAccounted w → CountsBytes w → max_settling c w < max_count → lines_left c w ≤ max_settling c w
lines-enough w c k counts small = go (conn_at c w) refl
  where
    go : (o : Option Conn) → conn_at c w ≡ o → lines_of w o ≤ max_settling c w
    go None e = omega arith
    go (Some x) e =
        let asks = actor-asks w c x x.actor k e refl in
        let whole : 3 * asks_at (conn_at c w) + length w.entries ≡ max_settling c w = uncut (3 * asks_at (conn_at c w) + length w.entries) (max_settling c w) refl small in
        let at = ap asks_at e in
        elim (counts.each c) [
          | inl less ↦ omega (arith, asks, whole, at, less, ap place_of e)
          | inr full ↦ absurd (omega (arith, full, whole, at, ap place_of e, small))
        ]
