-- The verdict on the lines of a run.
use Rattle.std.proofs.Common.{◌≡◌, ◌≤◌, ◌+◌, ℕ, ℤ, List, [], ◌∷◌, ◌++◌, length, refl, sym, subst, ap, ◌∙◌, true}
use Rattle.std.proofs.lemmas.Bool.{and_parts}
use Rattle.std.specs.Prelude.{None, Option, Some, if◌then◌else◌, option_map, slice_get}
use Rattle.zk_legal.specs.Faults.{order_fault, order_fault_from}
use Rattle.zk_model.specs.Limits.{max_time}
use Rattle.zk_transcript.proofs.Placed.{asked-framed}
use Rattle.zk_transcript.specs.Conversations.{IsLawfulAndFresh, IsServed}
use Rattle.zk_transcript.specs.Legal.{Tick, is_in_order, is_ordered, is_ordered_from}
use Rattle.zk_transcript.specs.declared.transcript.TranscriptLine.TheVariants.{Update}
use Rattle.zk_transcript.specs.declared.transcript.TranscriptLine.{TranscriptLine}
use Rattle.zk_service.specs.declared.update.UpdateKind.TheVariants.{Asked}
use Rattle.zp_script.specs.Runs.{Runs}
use Rattle.zp_script.specs.Worlds.{Actor, Closed, Conn, Connection, Reaper, World, conn_at}
use Rattle.zp_verdict_laws.proofs.Formed.{IsUnbrokenRun, no-history-fault}
use Rattle.zp_verdict_laws.proofs.Progress.{Broken, Opened, Unused, progress}
use Rattle.zp_verdict_laws.proofs.Running.{lines-count-frames, run-clocks, run-lines}
use Rattle.zp_verdict_laws.proofs.Tidy.{IsTidy, IsInStep}
use Rattle.zp_verdict_laws.specs.Lawful.{EveryReplayIsLawful}
use Rattle.zp_world_laws.proofs.Timing.{every-run-served}
use Rattle.zp_world_laws.specs.Giving.{IsServedRun}
use Rattle.zt_text.specs.declared.script.Happening.{Happening}

-- ---- no number of a tidy world has a broken line

opened-unbroken : (n : ℕ) → Opened n ≡ Broken → ⊥
opened-unbroken n e = cc

unused-unbroken : Unused ≡ Broken → ⊥
unused-unbroken e = cc

in_step-unbroken : (lines : List TranscriptLine) (c frames : ℕ) (a : Actor) → IsInStep lines c frames a → progress c lines ≡ Broken → ⊥
in_step-unbroken lines c frames (Connection core) t e = opened-unbroken frames (sym t.1 ∙ e)
in_step-unbroken lines c frames (Reaper reap) t e = unused-unbroken (sym t.0 ∙ e)
in_step-unbroken lines c frames Closed t e = t.0 e

tidy-unbroken : (w : World) (c : ℕ) → IsTidy w → progress c w.lines ≡ Broken → ⊥
tidy-unbroken w c t = go (conn_at c w) refl
  where
    go : (o : Option Conn) → conn_at c w ≡ o → progress c w.lines ≡ Broken → ⊥
    go None f e = unused-unbroken (sym (t.unused c f) ∙ e)
    go (Some x) f e = in_step-unbroken w.lines c x.frames x.actor (t.used c x f) e

-- ---- no line is out of order

order-from : (before ls : List TranscriptLine) → is_ordered_from before ls ≡ true → order_fault_from before ls ≡ None
order-from before [] h = refl
order-from before (l ∷ ls) h =
    let q = and_parts (is_in_order before l) (is_ordered_from (before ++ l ∷ []) ls) h in
    ap (λ b. if b then order_fault_from (before ++ l ∷ []) ls else Some (length before + 1)) q.0 ∙ order-from (before ++ l ∷ []) ls q.1

no-order-fault : (lines : List TranscriptLine) → is_ordered lines ≡ true → order_fault lines ≡ None
unfolding is_ordered order_fault
no-order-fault lines h = order-from [] lines h

-- ---- what is served is lawful and fresh

served-fresh : (lines : List TranscriptLine) (c : ℕ) → IsServed lines c → IsLawfulAndFresh lines c
served-fresh lines c s = record {
  within = s.within;
  walks = λ a e. (let q = s.walks a e in record { choices = q.choices; lawful = q.lawful; fresh = q.fresh });
}

-- ---- the time of each update is within the clock's limit

clocks-within : (hs : List Happening) (ticks : List Tick) (w : World) → Runs hs ticks w → IsServedRun ticks w.lines → (k c i now : ℕ) (z : ℤ) → slice_get w.lines k ≡ Some (Update (record { zxid = z; kind = Asked c i now })) → now ≤ max_time
clocks-within hs ticks w runs served k c i now z at =
    let f = asked-framed w.lines k z c i now served.history.legal at in
    let (j, t, there, clock, after, before) = served.punctual k f.0 c i now z at (ap (option_map (λ (x : ℕ × List ℕ). x.0)) f.2) in
    subst (λ n. n ≤ max_time) clock (run-clocks hs ticks w runs j t there)

pub every-replay-lawful : EveryReplayIsLawful
every-replay-lawful hs ticks w offers counted runs =
    let served = every-run-served hs ticks w offers (lines-count-frames hs ticks w runs counted) runs in
    let first = run-lines hs ticks w runs in
    let unbroken : IsUnbrokenRun w.lines = record {
      more = first.more;
      begins = first.lines;
      legal = served.history.legal;
      fresh = served.history.shown;
      unbroken = λ c. tidy-unbroken w c (first.tidy counted);
      clocks = clocks-within hs ticks w runs served;
    } in (
      record { history = no-history-fault w.lines unbroken; order = no-order-fault w.lines served.history.ordered },
      λ c. served-fresh w.lines c (served.served c),
    )
