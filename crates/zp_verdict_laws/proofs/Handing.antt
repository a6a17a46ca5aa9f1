-- What a step leaves of a connection: packets, and its end, or neither.
use Rattle.std.proofs.Common.{◌≡◌, ◌≤◌, ◌<◌, ℕ, ◌+◌, List, [], ◌∷◌, ◌++◌, refl, sym, ap, ◌∙◌, subst, append_assoc, arith, Bool, true, false}
use Rattle.std.specs.List.{list_all}
use Rattle.std.specs.Prelude.{Option, Some, if◌then◌else◌, ◌==◌}
use Rattle.zk_legal.specs.Formed.{frames_of}
use Rattle.zk_service.specs.declared.cause.Ended.TheVariants as ended
use Rattle.zk_service.specs.declared.cause.Ended.{Ended as SomeEnd}
use Rattle.zk_transcript.specs.declared.transcript.TranscriptLine.TheVariants.{Close}
use Rattle.zk_transcript.specs.declared.transcript.TranscriptLine.{TranscriptLine}
use Rattle.zk_service.specs.declared.update.UpdateKind.{UpdateKind}
use Rattle.zp_script.specs.Handing.{Handed}
use Rattle.zp_script.specs.Kinds.{kind_asked}
use Rattle.zp_script.specs.StepOutcomes.{StepOutcome, acts_all, ends, leaves, quiet}
use Rattle.zp_script.specs.Worlds.{Actor, Closed, Conn, Connection, Reaper, World, after_step, conn_at}
use Rattle.zp_script.specs.declared.flight.Flight.{Flight}
use Rattle.zp_verdict_laws.proofs.Progress.{Broken, Ended, Opened, Progress, closes, either-same, frames_of-append, progress, progress-append, progress_from, unnamed-aside}
use Rattle.zp_verdict_laws.proofs.Naturals.{AreNaturalLines, IsNaturalActor, IsNaturalEnd, IsNaturalWorld, LeavesNatural, acts-natural, no-lines, one-line}
use Rattle.zp_verdict_laws.proofs.Stepping.{IsNaturalCore, IsNaturalInput, natural-steps}
use Rattle.zp_verdict_laws.proofs.Tidy.{ChangesOne, Free, IsTidy, IsInStep, Proceeds, one-proceeds, proceeds-to, in_step-count}
use Rattle.zp_verdict_laws.specs.Lawful.{AreCounted}
use Rattle.zp_step.proofs.Ending.{steps_end_well}
use Rattle.zp_step.specs.Stages.{Core, is_shut, max_count}
use Rattle.zp_step.specs.declared.input.Input.{Input}
use Rattle.zp_world_laws.proofs.Acting.{acts-own, ends-own, is_own, own-unnamed}
use Rattle.zp_world_laws.proofs.Actions.{Asks, Closes, Rests, Tail, is_closing, said, split, split-closes, split-outcome, tail_outcome}
use Rattle.zp_world_laws.proofs.Numbers.{conn-here, conn-there}
use Rattle.zx_base.proofs.Booleans.{same-test as same-nat}

-- ---- a number is left so

leaves-changes : (w : World) (c : ℕ) (x : Conn) (actor : Actor) (o : StepOutcome) → list_all (is_own c) o.lines ≡ true → ChangesOne w (leaves c w x actor o) c (record x { actor = actor; flight = o.flight }) o.lines
leaves-changes w c x actor o own = record {
  lines = refl;
  clock = refl;
  entries = refl;
  there = conn-here w c (record x { actor = actor; flight = o.flight });
  others = λ d apart. conn-there w c d (record x { actor = actor; flight = o.flight }) apart;
  aside = λ d apart. unnamed-aside d o.lines (own-unnamed d c o.lines apart own);
}

-- no number in what is left is below 0
pub record Leaves (actor : Actor) (o : StepOutcome) : Type 0 where
  pub actor_is : IsNaturalActor actor
  pub outcome : LeavesNatural o

pub leaves-proceeds : (P : Type 0) (w : World) (c : ℕ) (x : Conn) (actor : Actor) (o : StepOutcome) → list_all (is_own c) o.lines ≡ true → (P → IsNaturalWorld w → Leaves actor o) → (IsTidy w → AreCounted (w.lines ++ o.lines) → IsInStep (w.lines ++ o.lines) c x.frames actor) → Proceeds P w (leaves c w x actor o)
leaves-proceeds P w c x actor o own natural now =
    one-proceeds P w (leaves c w x actor o) c (record x { actor = actor; flight = o.flight }) o.lines (leaves-changes w c x actor o own)
    (λ p k. (let n = natural p k in record { lines = (n.outcome).lines; conn = record { actor = n.actor_is; flight = (n.outcome).flight } })) now

-- ---- its end

-- an end line of its own
closes-own : (c : ℕ) (end : SomeEnd) (p : Progress) → progress_from c p (Close c end ∷ []) ≡ closes p
closes-own c end p = ap (λ b. if b then closes p else p) (same-nat c)

ended-unbroken : (lines : List TranscriptLine) (c : ℕ) → progress c lines ≡ Ended → progress c lines ≡ Broken → ⊥
ended-unbroken lines c e f = apart (sym e ∙ f)
  where
    apart : Ended ≡ Broken → ⊥
    apart g = cc

-- a reaper ends, or a connection that is open
ends-in_step : (lines : List TranscriptLine) (c frames : ℕ) (end : SomeEnd) → closes (progress c lines) ≡ Ended → frames ≤ frames_of c lines → IsInStep (lines ++ Close c end ∷ []) c frames Closed
ends-in_step lines c frames end e le = (
  ended-unbroken (lines ++ Close c end ∷ []) c (progress-append c lines (Close c end ∷ []) ∙ closes-own c end (progress c lines) ∙ e),
  (let more = frames_of-append c lines (Close c end ∷ []) in omega (arith, le, more)),
)

pub in_step-ends : (w : World) (c frames : ℕ) (a : Actor) (end : SomeEnd) → (a ≡ Closed → ⊥) → IsInStep w.lines c frames a → IsInStep (w.lines ++ Close c end ∷ []) c frames Closed
in_step-ends w c frames (Connection core) end unclosed t = ends-in_step w.lines c frames end (ap closes t.1) (let count = in_step-count w.lines c frames t.1 in omega (arith, count))
in_step-ends w c frames (Reaper reap) end unclosed t = ends-in_step w.lines c frames end (ap closes t.0) (let none = t.1 in omega (arith, none))
in_step-ends w c frames Closed end unclosed t = absurd (unclosed refl)

-- its end is all that is left
pub ends-leave : (c : ℕ) (end : SomeEnd) (f : Option Flight) → IsNaturalEnd end → Leaves Closed (ends c [] end (quiet f))
ends-leave c end f n = record { actor_is = tt; outcome = record { lines = one-line (Close c end) n; flight = tt } }

-- something ends it that is no step of its own
pub ended-proceeds : (w : World) (c : ℕ) (x : Conn) (end : SomeEnd) (f : Option Flight) → IsNaturalEnd end → (x.actor ≡ Closed → ⊥) → conn_at c w ≡ Some x → Proceeds Free w (leaves c w x Closed (ends c [] end (quiet f)))
ended-proceeds w c x end f n unclosed there = leaves-proceeds Free w c x Closed (ends c [] end (quiet f)) (ends-own c [] end (quiet f) refl refl) (λ p k. ends-leave c end f n) (λ t m. in_step-ends w c x.frames x.actor end unclosed (t.used c x there))

-- ---- a step's actions

-- lines of frames are indexed on from here
abbrev pub AreIndexed : ℕ → ℕ → List TranscriptLine → Type 0
AreIndexed c n ls = n + frames_of c ls < max_count → (m : ℕ) × (progress_from c (Opened n) ls ≡ Opened m)

pub none-indexed : (c n : ℕ) → AreIndexed c n []
none-indexed c n less = (n, refl)

said-opened : (c n : ℕ) (ps : List (List ℕ)) → progress_from c (Opened n) (said c ps) ≡ Opened n
said-opened c n [] = refl
said-opened c n (p ∷ ps) = ap (λ q. progress_from c q (said c ps)) (either-same (c == c) (Opened n)) ∙ said-opened c n ps

module _ (lines : List TranscriptLine) (c frames : ℕ) (after : List TranscriptLine) (ps : List (List ℕ)) (opened : progress c lines ≡ Opened frames) (indexed : AreIndexed c frames after) where
  said-in_step : progress c (lines ++ said c ps) ≡ Opened frames
  said-in_step = progress-append c lines (said c ps) ∙ ap (λ p. progress_from c p (said c ps)) opened ∙ said-opened c frames ps

  -- it closes, after these frames
  closed-in_step : (end : SomeEnd) → frames_of c (lines ++ ((said c ps ++ after) ++ Close c end ∷ [])) < max_count → IsInStep (lines ++ ((said c ps ++ after) ++ Close c end ∷ [])) c frames Closed
  closed-in_step end less =
      let count = in_step-count lines c frames opened in
      let all = frames_of-append c lines ((said c ps ++ after) ++ Close c end ∷ []) in
      let front = frames_of-append c (said c ps ++ after) (Close c end ∷ []) in
      let packets = frames_of-append c (said c ps) after in
      let m = indexed (omega (arith, count, all, front, packets, less)) in
      let at : progress c ((lines ++ said c ps) ++ after) ≡ Opened m.0 = progress-append c (lines ++ said c ps) after ∙ ap (λ p. progress_from c p after) said-in_step ∙ m.1 in
      let more = frames_of-append c (lines ++ said c ps) after in
      let first = frames_of-append c lines (said c ps) in
      subst (λ l. IsInStep l c frames Closed) (append_assoc (lines ++ said c ps) after (Close c end ∷ []) ∙ append_assoc lines (said c ps) (after ++ Close c end ∷ []) ∙ ap (λ l. lines ++ l) (sym (append_assoc (said c ps) after (Close c end ∷ []))))
      (ends-in_step ((lines ++ said c ps) ++ after) c frames end (ap closes at) (omega (arith, count, more, first)))

  tail-in_step : (kind : Option UpdateKind) (f : Option Flight) (t : Tail) (next : Core) → is_closing t ≡ is_shut next.stage → frames_of c (lines ++ (tail_outcome c kind after f (said c ps) t).lines) < max_count
      → IsInStep (lines ++ (tail_outcome c kind after f (said c ps) t).lines) c frames (after_step next)
  tail-in_step kind f Rests next e less = subst (λ b. IsInStep (lines ++ said c ps) c frames (if b then Closed else Connection next)) e (sym e, said-in_step)
  tail-in_step kind f (Asks a) next e less = subst (λ b. IsInStep (lines ++ said c ps) c frames (if b then Closed else Connection next)) e (sym e, said-in_step)
  tail-in_step kind f (Closes why) next e less = subst (λ b. IsInStep (lines ++ ((said c ps ++ after) ++ Close c (ended.Cause why) ∷ [])) c frames (if b then Closed else Connection next)) e (closed-in_step (ended.Cause why) less)

step-actor : (next : Core) → IsNaturalCore next → IsNaturalActor (after_step next)
step-actor next n = go (is_shut next.stage)
  where
    go : (b : Bool) → IsNaturalActor (if b then Closed else Connection next)
    go true = tt
    go false = n

-- it is handed something
pub handed-proceeds : (P : Type 0) (w w' : World) (c : ℕ) (after : List TranscriptLine) (i : Input) → (hd : Handed c after w i w') → list_all (is_own c) after ≡ true → AreNaturalLines after → (P → IsNaturalWorld w → IsNaturalInput i) → AreIndexed c hd.conn.frames after → Proceeds P w w'
handed-proceeds P w w' c after i hd own lines fits indexed =
    proceeds-to P w (leaves c w hd.conn (after_step hd.next) o) w' hd.result
    (leaves-proceeds P w c hd.conn (after_step hd.next) o (acts-own c kind after hd.out (quiet hd.conn.flight) own refl) natural now)
  where
    natural : P → IsNaturalWorld w → Leaves (after_step hd.next) (acts_all c (kind_asked c (Connection hd.next)) after hd.conn.flight hd.out)
    natural p k =
        let was : IsNaturalCore hd.core = subst IsNaturalActor hd.serving (k.conns c hd.conn hd.found).actor in
        let s = natural-steps hd.core hd.next i w.clock hd.out (fits p k) was hd.stepped in
        record {
          actor_is = step-actor hd.next s.core;
          outcome = acts-natural c (kind_asked c (Connection hd.next)) after hd.out (quiet hd.conn.flight) lines s.acts (record { lines = no-lines; flight = (k.conns c hd.conn hd.found).flight });
        }

    kind : Option UpdateKind
    kind = kind_asked c (Connection hd.next)

    o : StepOutcome
    o = acts_all c (kind_asked c (Connection hd.next)) after hd.conn.flight hd.out

    now : IsTidy w → AreCounted (w.lines ++ (acts_all c (kind_asked c (Connection hd.next)) after hd.conn.flight hd.out).lines) → IsInStep (w.lines ++ (acts_all c (kind_asked c (Connection hd.next)) after hd.conn.flight hd.out).lines) c hd.conn.frames (after_step hd.next)
    now t n =
        let in_step : IsInStep w.lines c hd.conn.frames (Connection hd.core) = subst (IsInStep w.lines c hd.conn.frames) hd.serving (t.used c hd.conn hd.found) in
        let end = steps_end_well hd.core hd.next i w.clock hd.out in_step.0 hd.stepped in
        let parts = split hd.out end.well in
        let is = split-outcome c (kind_asked c (Connection hd.next)) after hd.conn.flight hd.out parts in
        subst (λ (q : StepOutcome). IsInStep (w.lines ++ q.lines) c hd.conn.frames (after_step hd.next)) (sym is)
        (tail-in_step w.lines c hd.conn.frames after parts.packets in_step.1 indexed (kind_asked c (Connection hd.next)) hd.conn.flight parts.tail hd.next (sym (split-closes hd.out parts) ∙ end.closes)
        (subst (λ (q : StepOutcome). frames_of c (w.lines ++ q.lines) < max_count) is (n.frames c)))
