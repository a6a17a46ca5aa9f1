-- What is done at an answer, in the stage that its ask was out in.
use Rattle.std.proofs.Common.{◌≡◌, ℕ, List, sym, subst}
use Rattle.std.specs.Prelude.{IfOk, Result}
use Rattle.std.specs.Global.{Box}
use Rattle.std.proofs.lemmas.Result.{IfOk-weaker}
use Rattle.ev_types.specs.declared.answer.Answer.{Answer}
use Rattle.zx_base.specs.declared.memory.Memory.{Memory}
use Rattle.zp_step.specs.Keepalives.{Checked, KeptAlive}
use Rattle.zp_step.specs.Plans.{CommitAnswered, ReadOn}
use Rattle.zp_step.specs.Stages as step
use Rattle.zp_step.specs.Steps.{Answers}
use Rattle.zp_core.specs.Meanings.{Leads, core_of, ready, stage_of}
use Rattle.zp_core.specs.declared.client.Client.{Client}
use Rattle.zp_core.specs.declared.moves.Move.{Move}
use Rattle.zp_core.specs.declared.stage.Commit.{Commit}
use Rattle.zp_core.specs.declared.stage.Stage.{Stage}
use Rattle.zp_core.specs.declared.stage.Task.{Task}
use Rattle.zp_core.specs.declared.stage.Stage.TheVariants as stage
use Rattle.zp_core.proofs.Restaged.{checked-at, commit-at, kept_alive-at, read_on-at}

module _ (r : Result Move Memory) (old new : Client) (s : Stage) (a : Answer) (now : ℕ) where
  -- what is to be done in a stage
  abbrev Does : Stage → Type 0
  Does t = IfOk r (Leads (λ c out. Answers (core_of old (stage_of t)) a now c out (stage_of t)) new)

  pub alive-answers : (frame : List ℕ) → s ≡ stage.KeepingAlive frame → IfOk r (Leads (λ c out. KeptAlive (ready old) frame now c out a) new) → Does s
  alive-answers frame e h =
      subst Does (sym e)
      (IfOk-weaker r (Leads (λ c out. KeptAlive (ready old) frame now c out a) new) (Leads (λ c out. Answers (core_of old (stage_of (stage.KeepingAlive frame))) a now c out (stage_of (stage.KeepingAlive frame))) new)
      (λ m k. kept_alive-at (core_of old (step.KeepingAlive frame)) step.Ready (core_of new (stage_of m.stage)) m.actions frame now a k) h)

  pub checked-answers : (frame : List ℕ) → s ≡ stage.Checking frame → IfOk r (Leads (λ c out. Checked (ready old) frame now c out a) new) → Does s
  checked-answers frame e h =
      subst Does (sym e)
      (IfOk-weaker r (Leads (λ c out. Checked (ready old) frame now c out a) new) (Leads (λ c out. Answers (core_of old (stage_of (stage.Checking frame))) a now c out (stage_of (stage.Checking frame))) new)
      (λ m k. checked-at (core_of old (step.Checking frame)) step.Ready (core_of new (stage_of m.stage)) m.actions frame now a k) h)

  pub reading-answers : (b : Box Task) → s ≡ stage.Reading b → IfOk r (Leads (λ c out. ReadOn (ready old) b.value.xid b.value.request b.value.view b.value.asked now c out a) new) → Does s
  reading-answers b e h =
      let t = b.value in
      subst Does (sym e)
      (IfOk-weaker r (Leads (λ c out. ReadOn (ready old) t.xid t.request t.view t.asked now c out a) new) (Leads (λ c out. Answers (core_of old (stage_of (stage.Reading b))) a now c out (stage_of (stage.Reading b))) new)
      (λ m k. read_on-at (core_of old (stage_of (stage.Reading b))) step.Ready (core_of new (stage_of m.stage)) m.actions t.xid t.request t.view t.asked now a k) h)

  pub committing-answers : (b : Box Commit) → s ≡ stage.Committing b
      → IfOk r (Leads (λ c out. CommitAnswered (ready old) b.value.task.value.xid b.value.task.value.request b.value.task.value.view b.value.plan now c out a) new) → Does s
  committing-answers b e h =
      let t = b.value.task.value in
      let p = b.value.plan in
      subst Does (sym e)
      (IfOk-weaker r (Leads (λ c out. CommitAnswered (ready old) t.xid t.request t.view p now c out a) new) (Leads (λ c out. Answers (core_of old (stage_of (stage.Committing b))) a now c out (stage_of (stage.Committing b))) new)
      (λ m k. commit-at (core_of old (stage_of (stage.Committing b))) step.Ready (core_of new (stage_of m.stage)) m.actions t.xid t.request t.view p now a k) h)
