-- Runs, step by step.
use Rattle.std.proofs.Common.{◌≡◌, ◌∙◌, ap, ℕ, List, [], ◌∷◌, ◌++◌, Bool, true, false, refl, sym, subst}
use Rattle.std.specs.Prelude.{None, Some}
use Rattle.zk_service.specs.declared.cause.Cause.{Cause}
use Rattle.zx_base.proofs.Options.{none_some}
use Rattle.zk_service.specs.declared.fresh.Fresh.{Fresh}
use Rattle.zp_step.specs.Stages.{Core, is_shut, new_core}
use Rattle.zp_step.specs.Steps.{MayTake, Steps}
use Rattle.zp_step.specs.declared.action.Action.{Action}
use Rattle.zp_step.specs.declared.action.Action.TheVariants as action
use Rattle.zp_step.specs.declared.input.Input.{Input}
use Rattle.zp_step.proofs.Shutting.{shut-for-good}
use Rattle.zp_run.proofs.Hearing.{hears-asked, hears-more, rests-more}
use Rattle.zp_run.proofs.Steps.{new-rests, steps-show}
use Rattle.zp_run.specs.Causes.{Shows}
use Rattle.zp_run.specs.Heard.{Heard, Rests, heard_after, hears, nothing_heard, then_asked}
use Rattle.zp_run.specs.Laws.{RunsOn, heard_of}
use Rattle.zp_run.specs.Runs.{Runs, Step, closed_for}
use Rattle.zp_step.specs.Ending.{asked_by}

runs-push : (c mid c' : Core) (ss : List Step) (s : Step) → Runs c ss mid → MayTake mid s.input → Steps mid s.input s.time c' s.out → Runs c (ss ++ s ∷ []) c'
runs-push c mid c' [] s same may h = (c', subst (λ d. MayTake d s.input) same may, subst (λ d. Steps d s.input s.time c' s.out) same h, refl)
runs-push c mid c' (x ∷ ss) s (d, m, st, r) may h = (d, m, st, runs-push d mid c' ss s r may h)

rests-step : (k : Heard) (c c' : Core) (x : Input) (now : ℕ) (out : List Action) → MayTake c x → Rests k c → Steps c x now c' out → Rests (heard_after k x out) c'
rests-step k c c' x now out may r h = go (is_shut c.stage) refl
  where
    go : (b : Bool) → is_shut c.stage ≡ b → Rests (heard_after k x out) c'
    go true e =
        let shut = shut-for-good c c' x now out e h in
        subst (λ (l : List Action). Rests (heard_after k x l) c') (sym shut.1) (subst (Rests (hears k x)) (sym shut.0) (rests-more k (hears k x) c (hears-more k x) (hears-asked k x) r))
    go false e = (steps-show k c c' x now out e may r h).rests

-- a step that closes the connection asks nothing
closes-silent : (out : List Action) (why : Cause) → closed_for out ≡ Some why → asked_by out ≡ None
closes-silent [] why e = absurd (none_some e)
closes-silent (action.Send bytes ∷ more) why e = closes-silent more why e
closes-silent (action.Ask a ∷ more) why e = absurd (none_some e)
closes-silent (action.Close end ∷ more) why e = refl

runs-rest : (k : Heard) (c c' : Core) (ss : List Step) → Rests k c → Runs c ss c' → Rests (heard_of k ss) c'
runs-rest k c c' [] r same = subst (Rests k) (sym same) r
runs-rest k c c' (s ∷ ss) r (d, m, st, more) = runs-rest (heard_after k s.input s.out) d c' ss (rests-step k c d s.input s.time s.out m r st) more

heard-push : (k : Heard) (ss : List Step) (s : Step) → heard_of k (ss ++ s ∷ []) ≡ heard_after (heard_of k ss) s.input s.out
heard-push k [] s = refl
heard-push k (x ∷ ss) s = heard-push (heard_after k x.input x.out) ss s

pub runs-on : (fresh : Fresh) (steps : List Step) (last : Step) (mid core : Core) → is_shut mid.stage ≡ false → Runs (new_core fresh) steps mid → MayTake mid last.input → Steps mid last.input last.time core last.out → RunsOn fresh steps last core
runs-on fresh steps last mid core opened r may h = record {
  ran = runs-push (new_core fresh) mid core steps last r may h;
  shows = λ why e. record {
    before = steps;
    last = last;
    split = refl;
    mid = mid;
    ran = r;
    closes = e;
    shown = subst (λ k. Shows k mid last.input core.who last.out why) (sym (heard-push nothing_heard steps last ∙ ap (then_asked (hears (heard_of nothing_heard steps) last.input)) (closes-silent last.out why e)))
        ((steps-show (heard_of nothing_heard steps) mid core last.input last.time last.out opened may (runs-rest nothing_heard (new_core fresh) mid steps (new-rests fresh) r) h).shows why e);
  };
}
