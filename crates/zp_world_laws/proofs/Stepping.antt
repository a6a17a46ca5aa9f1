-- A connection takes a step: what is known of it after the step, and that it acted by itself.
use Rattle.std.proofs.lemmas.List.Elements.{Contains-append_right}
use Rattle.std.proofs.Common.{Bool, List, [], ap, append_assoc, arith, false, inl, inr, refl, subst, sym, true, ℕ, ℤ, ◌++◌, ◌+◌, ◌∙◌, ◌∷◌, ◌≡◌, ◌≤◌}
use Rattle.std.specs.List.{list_all}
use Rattle.std.specs.Prelude.{Option, Some, if◌then◌else◌}
use Rattle.zk_transcript.specs.Conversations.{IsInConnection}
use Rattle.zk_transcript.specs.History.{after}
use Rattle.zk_service.specs.declared.cause.Cause.{Cause}
use Rattle.zk_service.specs.declared.cause.Ended.TheVariants as ended
use Rattle.zk_transcript.specs.declared.transcript.TranscriptLine.TheVariants.{Close}
use Rattle.zk_transcript.specs.declared.transcript.TranscriptLine.{TranscriptLine}
use Rattle.zp_script.specs.Handing.{Handed}
use Rattle.zp_script.specs.Kinds.{kind_asked}
use Rattle.zp_script.specs.StepOutcomes.{StepOutcome, acts_all, ends, leaves, quiet}
use Rattle.zp_script.specs.Worlds.{Closed, Connection, World, after_step}
use Rattle.zp_script.specs.declared.flight.Flight.{Flight}
use Rattle.zp_step.proofs.Counting.{steps_count}
use Rattle.zp_step.specs.Ending.{EndsWell, IsNumbered, comes_in, sends}
use Rattle.zp_step.specs.Stages.{is_served, next_frame, Checking, Committing, Connecting, Core, KeepingAlive, Reading, Ready, Shut, Stage, Unconnected, Waiting, is_shut, max_count}
use Rattle.zp_step.proofs.Shutting.{ends-named}
use Rattle.zp_step.specs.Laws.{end_by}
use Rattle.zp_step.specs.Steps.{Steps as CoreSteps}
use Rattle.zp_step.specs.declared.action.Action.TheVariants as action
use Rattle.zp_step.specs.declared.action.Action.{Action}
use Rattle.zp_step.specs.declared.input.Input.{Input}
use Rattle.zp_world_laws.proofs.Acting.{Acts, acts-own, ends-own, is_own, leaves-acts, shown-own}
use Rattle.zp_world_laws.proofs.Actions.{Asks, Closes, Rests, Split, Tail, is_closing, said, split, split-closes, split-outcome, split-sends, tail_outcome}
use Rattle.zp_world_laws.proofs.Closing.{AreShown, But}
use Rattle.zp_world_laws.proofs.Ends.{closing-whole}
use Rattle.zp_world_laws.proofs.Knowing.{AreAside, lined-aside, said-aside, close-ends, close-last}
use Rattle.zp_world_laws.proofs.Within.{within-end}
use Rattle.zp_world_laws.specs.Connecting.{IsInStage}
use Rattle.zp_world_laws.specs.Connections.{Whole}
use Rattle.zp_world_laws.specs.Counting.{HasFrames, IsLined}
use Rattle.zp_world_laws.specs.Knowing.{IsKnownAs, HasClose}
use Rattle.zx_base.proofs.Booleans.{true-not_false as true-false}

-- ---- its frames

-- each that came in was taken up or waits
pub counts-on : (lines more : List TranscriptLine) (c frames : ℕ) (core next : Core) (i : Input) (now : ℕ) (out : List Action) → is_shut core.stage ≡ false → CoreSteps core i now next out → IsNumbered core core.stage → next_frame core + comes_in i ≡ frames → frames ≤ max_count
    → IsLined lines c frames → AreAside more c → is_shut next.stage ≡ false → HasFrames (lines ++ more) c frames next
counts-on lines more c frames core next i now out opens steps numbered came most lined aside going =
    elim (steps_count core next i now out opens numbered (omega (arith, came, most)) steps) [
      | inl shut ↦ absurd (true-false (sym shut ∙ going))
      | inr on ↦ record { lined = lined-aside lines more c frames aside lined; numbered = on.numbered; came = on.number ∙ came; most = most; rested = on.rested }
    ]

-- ---- a step that only closes

pub closing-acts : (w w' : World) (c : ℕ) (rest : List TranscriptLine) (i : Input) (why : Cause) (z : ℤ) → (hd : Handed c rest w i w') → is_shut hd.next.stage ≡ true → hd.out ≡ action.Close why ∷ [] → z ≡ (after w.lines).zxid → AreShown c z rest → But w c → Acts w w' c
closing-acts w w' c rest i why z hd shut out last shown h =
    let o : StepOutcome = ends c rest (ended.Cause why) (quiet hd.conn.flight) in
    let is : w' ≡ leaves c w hd.conn Closed o =
    hd.result ∙ ap (λ l. leaves c w hd.conn (after_step hd.next) (acts_all c (kind_asked c (Connection hd.next)) rest hd.conn.flight l)) out
    ∙ ap (λ b. leaves c w hd.conn (if b then Closed else Connection hd.next) o) shut in
    leaves-acts w w' c hd.conn Closed o hd.found is (ends-own c rest (ended.Cause why) (quiet hd.conn.flight) (shown-own c z rest shown) refl)
    (closing-whole w w' c rest i why z hd shut out last shown h) (close-ends w.lines c rest (ended.Cause why) (quiet hd.conn.flight)) (within-end w.lines c z rest (ended.Cause why) shown)

-- an input that ends it in whatever stage
pub closes-acts : (w w' : World) (c : ℕ) (i : Input) (why : Cause) → end_by i ≡ Some why → (hd : Handed c [] w i w') → But w c → Acts w w' c
closes-acts w w' c i why e hd h =
    let s = ends-named hd.core hd.next i why w.clock hd.out (h.unshut c hd.conn hd.core hd.found hd.serving) e hd.stepped in
    closing-acts w w' c [] i why ((after w.lines).zxid) hd (ap is_shut s.0) s.1 refl tt h

-- ---- a step of a connection that is attached then, or that has closed

module _ (w w' : World) (c : ℕ) (rest : List TranscriptLine) (i : Input) (z : ℤ) (hd : Handed c rest w i w') (end : EndsWell hd.core hd.next i hd.out) (shown : AreShown c z rest) (whole : Whole w')
    (frames : is_shut hd.next.stage ≡ false → (more : List TranscriptLine) → AreAside more c → HasFrames (w.lines ++ more) c hd.conn.frames hd.next) (served : is_shut hd.next.stage ≡ false → is_served hd.next.stage ≡ true) (says : IsInConnection w.lines c → IsInConnection (w.lines ++ said c (sends hd.out)) c) where
  parts : Split hd.out
  parts = split hd.out end.well

  o : StepOutcome
  o = acts_all c (kind_asked c (Connection hd.next)) rest hd.conn.flight hd.out

  own : list_all (is_own c) (acts_all c (kind_asked c (Connection hd.next)) rest hd.conn.flight hd.out).lines ≡ true
  own = acts-own c (kind_asked c (Connection hd.next)) rest hd.out (quiet hd.conn.flight) (shown-own c z rest shown) refl

  -- where it doesn't close, its packets alone are added
  tail-said : (t : Tail) → is_closing t ≡ false → (tail_outcome c (kind_asked c (Connection hd.next)) rest hd.conn.flight (said c parts.packets) t).lines ≡ said c parts.packets
  tail-said Rests h = refl
  tail-said (Asks a) h = refl
  tail-said (Closes why) h = absurd (true-false h)

  lines-said : is_shut hd.next.stage ≡ false → (acts_all c (kind_asked c (Connection hd.next)) rest hd.conn.flight hd.out).lines ≡ said c parts.packets
  lines-said going =
      ap (λ (x : StepOutcome). x.lines) (split-outcome c (kind_asked c (Connection hd.next)) rest hd.conn.flight hd.out parts)
      ∙ tail-said parts.tail (sym (split-closes hd.out parts) ∙ end.closes ∙ going)

  in-stage : (st : Stage) (f : Option Flight) (ls : List TranscriptLine) → is_served st ≡ true → IsInStage w.store ls c hd.next f st
  in-stage (Unconnected fresh) f ls h = absurd (true-false (sym h))
  in-stage (Connecting x) f ls h = absurd (true-false (sym h))
  in-stage Ready f ls h = tt
  in-stage (KeepingAlive b) f ls h = tt
  in-stage (Checking b) f ls h = tt
  in-stage (Reading xid r v ws) f ls h = tt
  in-stage (Committing xid r v p m) f ls h = tt
  in-stage (Waiting p) f ls h = tt
  in-stage Shut f ls h = absurd (true-false (sym h))

  tail-closed : (t : Tail) → is_closing t ≡ true → HasClose (w.lines ++ (tail_outcome c (kind_asked c (Connection hd.next)) rest hd.conn.flight (said c parts.packets) t).lines) c
  tail-closed Rests h = absurd (true-false (sym h))
  tail-closed (Asks a) h = absurd (true-false (sym h))
  tail-closed (Closes why) h = (ended.Cause why, Contains-append_right w.lines ((said c parts.packets ++ rest) ++ Close c (ended.Cause why) ∷ []) (Close c (ended.Cause why)) (close-last (said c parts.packets ++ rest) c (ended.Cause why)))

  known : (b : Bool) → is_shut hd.next.stage ≡ b → (f : Option Flight) → IsKnownAs w.store (w.lines ++ (acts_all c (kind_asked c (Connection hd.next)) rest hd.conn.flight hd.out).lines) c (record (hd.conn) { actor = if b then Closed else Connection hd.next; flight = f }) (if b then Closed else Connection hd.next)
  known true e f = subst (λ (x : StepOutcome). HasClose (w.lines ++ x.lines) c) (sym (split-outcome c (kind_asked c (Connection hd.next)) rest hd.conn.flight hd.out parts))
      (tail-closed parts.tail (sym (split-closes hd.out parts) ∙ end.closes ∙ e))
  known false e f = (
    subst (λ l. HasFrames (w.lines ++ l) c hd.conn.frames hd.next) (sym (lines-said e)) (frames e (said c parts.packets) (said-aside c parts.packets c)),
    in-stage hd.next.stage f (w.lines ++ (acts_all c (kind_asked c (Connection hd.next)) rest hd.conn.flight hd.out).lines) (served e),
  )

  tail-within : (t : Tail) → IsInConnection (w.lines ++ said c parts.packets) c → IsInConnection (w.lines ++ (tail_outcome c (kind_asked c (Connection hd.next)) rest hd.conn.flight (said c parts.packets) t).lines) c
  tail-within Rests k = k
  tail-within (Asks a) k = k
  tail-within (Closes why) k =
      subst (λ l. IsInConnection l c) (append_assoc w.lines (said c parts.packets) (rest ++ Close c (ended.Cause why) ∷ []) ∙ ap (λ l. w.lines ++ l) (sym (append_assoc (said c parts.packets) rest (Close c (ended.Cause why) ∷ []))))
      (within-end (w.lines ++ said c parts.packets) c z rest (ended.Cause why) shown k)

  within : IsInConnection w.lines c → IsInConnection (w.lines ++ (acts_all c (kind_asked c (Connection hd.next)) rest hd.conn.flight hd.out).lines) c
  within k = subst (λ (x : StepOutcome). IsInConnection (w.lines ++ x.lines) c) (sym (split-outcome c (kind_asked c (Connection hd.next)) rest hd.conn.flight hd.out parts))
      (tail-within parts.tail (subst (λ ps. IsInConnection (w.lines ++ said c ps) c) (split-sends hd.out parts) (says k)))

  pub handed-acts : Acts w w' c
  handed-acts = leaves-acts w w' c hd.conn (after_step hd.next) (acts_all c (kind_asked c (Connection hd.next)) rest hd.conn.flight hd.out) hd.found hd.result own whole
      (known (is_shut hd.next.stage) refl (acts_all c (kind_asked c (Connection hd.next)) rest hd.conn.flight hd.out).flight) within
