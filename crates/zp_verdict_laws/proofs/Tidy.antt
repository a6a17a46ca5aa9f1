-- Worlds whose lines agree with what they know of each number, and what happens so that they do again.
use Rattle.std.proofs.Common.{◌≡◌, ◌≢◌, ◌≤◌, ℕ, List, [], ◌++◌, refl, sym, ap, ◌∙◌, subst, append_assoc, append-nil, arith, false, inl, inr}
use Rattle.std.specs.Prelude.{All, Some, None, ◌⊎◌}
use Rattle.std.specs.FinMap.{get}
use Rattle.zk_legal.specs.Formed.{frames_of}
use Rattle.zk_model.specs.Limits.{max_time}
use Rattle.zk_transcript.specs.declared.transcript.TranscriptLine.{TranscriptLine}
use Rattle.zp_script.specs.Worlds.{Actor, Closed, Conn, Connection, Reaper, World, conn_at, with_conn}
use Rattle.zp_verdict_laws.proofs.Meaning.{found-as}
use Rattle.zp_verdict_laws.proofs.Naturals.{AreNaturalLines, IsNaturalActor, IsNaturalConn, IsNaturalEntry, IsNaturalFlight, IsNaturalWorld, no-lines, one-natural, others-natural}
use Rattle.zp_verdict_laws.proofs.Progress.{LeaveAlone, Broken, Opened, Unused, frames_of-append, progress, progress-aside}
use Rattle.zp_verdict_laws.specs.Lawful.{AreCounted}
use Rattle.zp_step.specs.Stages.{is_shut}
use Rattle.zp_world_laws.proofs.Numbers.{conn-here, conn-there, either-number}
use Rattle.zx_base.proofs.Options.{none_some, some_is}

-- an open connection has so many lines of frames; a reaper at work has none of its own; and of one that has ended none is broken
abbrev pub IsInStep : List TranscriptLine → ℕ → ℕ → Actor → Type 0
IsInStep lines c frames (Connection core) = (is_shut core.stage ≡ false) × (progress c lines ≡ Opened frames)
IsInStep lines c frames (Reaper reap) = (progress c lines ≡ Unused) × (frames ≡ 0)
IsInStep lines c frames Closed = (progress c lines ≡ Broken → ⊥) × (frames ≤ frames_of c lines)

pub record IsTidy (w : World) : Type 0 where
  pub used : (c : ℕ) (x : Conn) → conn_at c w ≡ Some x → IsInStep w.lines c x.frames x.actor
  pub unused : (c : ℕ) → conn_at c w ≡ None → progress c w.lines ≡ Unused

-- ---- on from a world, where P: lines are added, and the clock stays within its limit

-- nothing is asked for
abbrev pub Free : Type 0
Free = Unit {0}

pub record Proceeds (P : Type 0) (w w' : World) : Type 0 where
  pub more : List TranscriptLine
  pub lines : w'.lines ≡ w.lines ++ more
  pub clock : w.clock ≤ max_time → w'.clock ≤ max_time
  pub tidy : IsTidy w → AreCounted w'.lines → IsTidy w'
  -- no number falls below 0
  pub natural : P → IsNaturalWorld w → IsNaturalWorld w'

counted-front : (xs ys : List TranscriptLine) → AreCounted (xs ++ ys) → AreCounted xs
counted-front xs ys n = record { frames = λ c. let b = n.frames c in omega (arith, b, frames_of-append c xs ys) }

counted-before : (Q : Type 0) (w w' : World) → Proceeds Q w w' → AreCounted w'.lines → AreCounted w.lines
counted-before Q w w' p n = counted-front w.lines p.more (subst AreCounted p.lines n)

-- twice, the second time where what the first world gives holds too
pub proceeds-on : (P Q : Type 0) (u v w : World) → (P → IsNaturalWorld u → Q) → Proceeds P u v → Proceeds Q v w → Proceeds P u w
proceeds-on P Q u v w gives a b = record {
  more = a.more ++ b.more;
  lines = b.lines ∙ ap (λ l. l ++ b.more) a.lines ∙ append_assoc u.lines a.more b.more;
  clock = λ le. b.clock (a.clock le);
  tidy = λ t n. b.tidy (a.tidy t (counted-before Q v w b n)) n;
  natural = λ p k. b.natural (gives p k) (a.natural p k);
}

pub proceeds-then : (u v w : World) → Proceeds Free u v → Proceeds Free v w → Proceeds Free u w
proceeds-then u v w a b = proceeds-on Free Free u v w (λ p k. p) a b

-- where less is asked for
pub proceeds-where : (P Q : Type 0) (u w : World) → (P → Q) → Proceeds Q u w → Proceeds P u w
proceeds-where P Q u w gives a = record { more = a.more; lines = a.lines; clock = a.clock; tidy = a.tidy; natural = λ p k. a.natural (gives p) k }

pub proceeds-same : (w w' : World) → w' ≡ w → Proceeds Free w w'
proceeds-same w w' e = record {
  more = [];
  lines = ap (λ (v : World). v.lines) e ∙ sym (append-nil w.lines);
  clock = λ le. subst (λ (v : World). v.clock ≤ max_time) (sym e) le;
  tidy = λ t n. subst IsTidy (sym e) t;
  natural = λ p k. subst IsNaturalWorld (sym e) k;
}

pub proceeds-to : (P : Type 0) (w v w' : World) → w' ≡ v → Proceeds P w v → Proceeds P w w'
proceeds-to P w v w' e p = subst (Proceeds P w) (sym e) p

-- ---- lines that are aside

pub in_step-aside : (lines more : List TranscriptLine) (c frames : ℕ) (a : Actor) → LeaveAlone c more → IsInStep lines c frames a → IsInStep (lines ++ more) c frames a
in_step-aside lines more c frames (Connection core) h t = (t.0, progress-aside c lines more h ∙ t.1)
in_step-aside lines more c frames (Reaper reap) h t = (progress-aside c lines more h ∙ t.0, t.1)
in_step-aside lines more c frames Closed h t = (λ e. t.0 (sym (progress-aside c lines more h) ∙ e), let le = t.1 in omega (arith, le, frames_of-append c lines more))

-- an open connection has as many frames as lines of them
pub in_step-count : (lines : List TranscriptLine) (c frames : ℕ) → progress c lines ≡ Opened frames → frames_of c lines ≡ frames
in_step-count lines c frames e = (found-as c lines (Opened frames) e).count

-- ---- one number changes

pub record ChangesOne (w w' : World) (c : ℕ) (v : Conn) (more : List TranscriptLine) : Type 0 where
  pub lines : w'.lines ≡ w.lines ++ more
  pub clock : w'.clock ≡ w.clock
  pub entries : w'.entries ≡ w.entries
  pub there : conn_at c w' ≡ Some v
  pub others : (d : ℕ) → d ≢ c → conn_at d w' ≡ conn_at d w
  pub aside : (d : ℕ) → d ≢ c → LeaveAlone d more

module _ (w w' : World) (c : ℕ) (v : Conn) (more : List TranscriptLine) (s : ChangesOne w w' c v more) (t : IsTidy w) (now : IsInStep w'.lines c v.frames v.actor) where
  one-used : (d : ℕ) (x : Conn) → conn_at d w' ≡ Some x → (d ≡ c) ⊎ (d ≢ c) → IsInStep w'.lines d x.frames x.actor
  one-used d x e (inl same) =
      let is : v ≡ x = some_is (sym s.there ∙ ap (λ k. conn_at k w') (sym same) ∙ e) in
      subst (λ k. IsInStep w'.lines k x.frames x.actor) (sym same) (subst (λ (u : Conn). IsInStep w'.lines c u.frames u.actor) is now)
  one-used d x e (inr apart) =
      subst (λ l. IsInStep l d x.frames x.actor) (sym s.lines)
      (in_step-aside w.lines more d x.frames x.actor (s.aside d apart) (t.used d x (sym (s.others d apart) ∙ e)))

  one-unused : (d : ℕ) → conn_at d w' ≡ None → (d ≡ c) ⊎ (d ≢ c) → progress d w'.lines ≡ Unused
  one-unused d e (inl same) = absurd (none_some (sym e ∙ ap (λ k. conn_at k w') same ∙ s.there))
  one-unused d e (inr apart) = ap (progress d) s.lines ∙ progress-aside d w.lines more (s.aside d apart) ∙ t.unused d (sym (s.others d apart) ∙ e)

  one-tidy : IsTidy w'
  one-tidy = record { used = λ d x e. one-used d x e (either-number d c); unused = λ d e. one-unused d e (either-number d c) }

-- what is added, and what the number is then
pub record Adds (more : List TranscriptLine) (v : Conn) : Type 0 where
  pub lines : AreNaturalLines more
  pub conn : IsNaturalConn v

pub one-proceeds : (P : Type 0) (w w' : World) (c : ℕ) (v : Conn) (more : List TranscriptLine) → ChangesOne w w' c v more → (P → IsNaturalWorld w → Adds more v) → (IsTidy w → AreCounted w'.lines → IsInStep w'.lines c v.frames v.actor) → Proceeds P w w'
one-proceeds P w w' c v more s adds now = record {
  more = more;
  lines = s.lines;
  clock = λ le. (let same = s.clock in omega (arith, same, le));
  tidy = λ t n. one-tidy w w' c v more s t (now t n);
  natural = λ p k. (let a = adds p k in one-natural w w' c v more s.lines s.there s.others s.entries a.lines a.conn k);
}

-- a connection is put into the world, and nothing is shown
with-changes : (w : World) (c : ℕ) (v : Conn) → ChangesOne w (with_conn w c v) c v []
with-changes w c v = record { lines = sym (append-nil w.lines); clock = refl; entries = refl; there = conn-here w c v; others = λ d apart. conn-there w c d v apart; aside = λ d apart p. refl }

-- in its place comes the same actor with as many frames
pub alike-proceeds : (w : World) (c : ℕ) (x v : Conn) → conn_at c w ≡ Some x → v.frames ≡ x.frames → v.actor ≡ x.actor → (IsNaturalFlight x.flight → IsNaturalFlight v.flight) → Proceeds Free w (with_conn w c v)
alike-proceeds w c x v there frames actor flight =
    one-proceeds Free w (with_conn w c v) c v [] (with-changes w c v)
    (λ p k. record { lines = no-lines; conn = record { actor = subst IsNaturalActor (sym actor) (k.conns c x there).actor; flight = flight (k.conns c x there).flight } })
    (λ t n. subst (λ a. IsInStep w.lines c v.frames a) (sym actor) (subst (λ m. IsInStep w.lines c m x.actor) (sym frames) (t.used c x there)))

-- ---- no number changes

pub others-proceed : (P : Type 0) (w w' : World) (more : List TranscriptLine) → w'.conns ≡ w.conns → w'.clock ≡ w.clock → w'.lines ≡ w.lines ++ more → (P → AreNaturalLines more) → (IsNaturalWorld w → All IsNaturalEntry w'.entries) → ((c : ℕ) → LeaveAlone c more) → Proceeds P w w'
others-proceed P w w' more conns clock lines new entries aside = record {
  more = more;
  lines = lines;
  clock = λ le. omega (arith, clock, le);
  tidy = λ t n. record {
    used = λ c x e. subst (λ l. IsInStep l c x.frames x.actor) (sym lines) (in_step-aside w.lines more c x.frames x.actor (aside c) (t.used c x (sym (same c) ∙ e)));
    unused = λ c e. ap (progress c) lines ∙ progress-aside c w.lines more (aside c) ∙ t.unused c (sym (same c) ∙ e);
  };
  natural = λ p k. others-natural w w' more lines conns (new p) (entries k) k;
}
  where
    same : (c : ℕ) → conn_at c w' ≡ conn_at c w
    same c = ap (λ m. get m c) conns
