-- A step goes on with the frames that wait.
use Rattle.std.proofs.Common.{◌≡◌, ℕ, ℤ, Bool, true, false, List, [], ◌∷◌, ◌++◌, take, append-nil, append_assoc, refl, sym, ap, ◌∙◌, subst, inl, inr}
use Rattle.std.specs.Prelude.{◌⊎◌, Option, Some, None, All, MatchBool, if◌then◌else◌}
use Rattle.std.proofs.lemmas.List.Elements.{All-head, All-same, All-tail}
use Rattle.zk_jute.specs.Requests.{Frame, NoHeader, Unreadable, Unknown, Asks, read_request}
use Rattle.zk_model.specs.declared.request.Request.{Request}
use Rattle.zk_service.specs.Answers.{Told, plain_reply, xid_of}
use Rattle.zn_view.specs.Keeping.{update_path}
use Rattle.zn_view.specs.Seen.{View, empty_view}
use Rattle.zn_view.specs.declared.plan.Decision.{Decision}
use Rattle.zn_view.specs.declared.plan.Decision.TheVariants.{Answered, Planned, Expired, Moved}
use Rattle.zs_session.specs.Alive.{is_alive_due}
use Rattle.zp_step.specs.declared.action.Action.{Action}
use Rattle.zp_step.specs.Keepalives.{TakesUp, keeps_alive}
use Rattle.zp_step.specs.Kept.{keeps}
use Rattle.zp_step.specs.Looking.{Looks, asks_for, change_by, decided, expired, guessed, max_ranges, moved, pending}
use Rattle.zp_step.specs.Replies.{Is, is_due, replied}
use Rattle.zp_step.specs.Stages.{Core, Pending, Stage, Ready, Waiting, is_shut}
use Rattle.zp_step.specs.Steps.{Goes, rests, takes}
use Rattle.zp_step.specs.Taking.{TakesFrame, TakesReadable, plainly}
use Rattle.zp_core.specs.Going.{GoesOn}
use Rattle.zp_core.specs.Held.{IsFrame, IsHeld, IsHeldIn, IsReal, IsServing}
use Rattle.zp_step.proofs.Beside.{PlansBeside, first-or-anew}
use Rattle.zp_core.proofs.HeldAfter.{takes_up-held}
use Rattle.zx_base.proofs.Booleans.{either}

pub goes_on-rests : (now : ℕ) (c : Core) (first : List Action) → (c.stage ≡ Ready → ⊥) ⊎ (c.waiting ≡ []) → GoesOn now c first c first
goes_on-rests now c first why = record { later = []; goes = rests why refl refl; joined = sym (append-nil first) }

-- one frame more is taken up
pub goes_on-takes : (now : ℕ) (c d c' : Core) (frame : List ℕ) (more : List (List ℕ)) (before first out : List Action) → c.stage ≡ Ready → c.waiting ≡ frame ∷ more
    → TakesUp (record c { waiting = more }) frame now d first → GoesOn now d (before ++ first) c' out → GoesOn now c before c' out
goes_on-takes now c d c' frame more before first out ready waits t g = record {
  later = first ++ g.later;
  goes = takes d frame more first g.later ready waits t g.goes refl;
  joined = g.joined ∙ append_assoc before first g.later;
}

-- ---- the frames that wait

is-waits : (x : Core × List Action) (c c' : Core) (out : List Action) → x.0.waiting ≡ c.waiting → Is x c' out → c'.waiting ≡ c.waiting
is-waits x c c' out e i = ap (λ (d : Core). d.waiting) i.0 ∙ e

sent-waits : (c : Core) (b : Bool) (p : Pending) → (if b then replied c p else (record c { stage = Waiting p }, [])).0.waiting ≡ c.waiting
sent-waits c true p = refl
sent-waits c false p = refl

decided-waits : (c : Core) (xid : ℤ) (r : Request) (v : View) (now : ℕ) (d : Decision) → (decided c xid r v now d).0.waiting ≡ c.waiting
decided-waits c xid r v now (Answered answer arm) = let p = pending v xid answer (change_by r v arm) None in sent-waits c (is_due c p) p
decided-waits c xid r v now (Planned plan) = refl
decided-waits c xid r v now Expired = let p = expired v xid in sent-waits c (is_due c p) p
decided-waits c xid r v now (Moved found) = let p = moved c.who v found xid in sent-waits c (is_due c p) p

looks-waits : (c c' : Core) (xid : ℤ) (r : Request) (v : View) (now : ℕ) (out : List Action) → Looks c xid r v now c' out → c'.waiting ≡ c.waiting
looks-waits c c' xid r v now out (inl y) = is-waits (asks_for c xid r v (take max_ranges y.lacking)) c c' out refl y.is
looks-waits c c' xid r v now out (inr (inl y)) = is-waits (decided c xid r (guessed v y.key) now (Planned y.plan)) c c' out refl y.is
looks-waits c c' xid r v now out (inr (inr y)) = is-waits (decided (keeps c r v) xid r v now y.decision) c c' out (decided-waits (keeps c r v) xid r v now y.decision) y.is

readable-waits : (c c' : Core) (now : ℕ) (out : List Action) (x : Frame) (o : Option Told) → TakesReadable c now c' out x o → c'.waiting ≡ c.waiting
readable-waits c c' now out x (Some t) h = is-waits (plainly c (xid_of x) t) c c' out refl h
readable-waits c c' now out NoHeader None h = absurd h
readable-waits c c' now out (Unreadable xid place) None h = absurd h
readable-waits c c' now out (Unknown xid kind) None h = absurd h
readable-waits c c' now out (Asks xid r) None h = go (first-or-anew c c' xid r now out (update_path r) h)
  where
    go : PlansBeside c xid r now c' out ⊎ Looks c xid r empty_view now c' out → c'.waiting ≡ c.waiting
    go (inl y) = is-waits (decided (record c { views = y.views }) xid r y.view now (Planned y.plan)) c c' out refl y.is
    go (inr y) = looks-waits c c' xid r empty_view now out y

-- a frame that is taken up leaves those that wait
pub takes_up-waits : (c c' : Core) (bytes : List ℕ) (now : ℕ) (out : List Action) → TakesUp c bytes now c' out → c'.waiting ≡ c.waiting
takes_up-waits c c' bytes now out h =
    either (is_alive_due c.kept now c.timeout) (Is (keeps_alive c bytes now) c' out) (TakesFrame c bytes now c' out) (c'.waiting ≡ c.waiting) h
    (is-waits (keeps_alive c bytes now) c c' out refl)
    (readable-waits c c' now out (read_request bytes) (plain_reply c.watches (read_request bytes)))

-- ---- what it keeps

pub ready-held : (c : Core) → c.stage ≡ Ready → IsHeld c → IsServing c
ready-held c ready h = subst (λ b. MatchBool b (Unit {0}) (IsServing c)) (ap is_shut ready) h

pub ready-real : (c : Core) → c.stage ≡ Ready → IsHeld c → IsReal c.who.session
ready-real c ready h = subst (IsHeldIn c.who.session) ready (ready-held c ready h).stage

pub first-frame : (c : Core) (frame : List ℕ) (more : List (List ℕ)) → c.stage ≡ Ready → IsHeld c → c.waiting ≡ frame ∷ more → IsFrame frame
first-frame c frame more ready h w = All-head IsFrame frame more (All-same IsFrame (frame ∷ more) c.waiting (sym w) (ready-held c ready h).frames)

pub more-frames : (c : Core) (frame : List ℕ) (more : List (List ℕ)) → c.stage ≡ Ready → IsHeld c → c.waiting ≡ frame ∷ more → All IsFrame more
more-frames c frame more ready h w = All-tail IsFrame frame more (All-same IsFrame (frame ∷ more) c.waiting (sym w) (ready-held c ready h).frames)

pub goes-held : (now : ℕ) (c c' : Core) (out : List Action) → Goes now c c' out → IsHeld c → IsHeld c'
goes-held now c c' out (rests why same none) h = subst IsHeld (sym same) h
goes-held now c c' out (takes d frame more first later ready w t g o) h =
    goes-held now d c' later g
    (takes_up-held (record c { waiting = more }) (ready-real c ready h) (more-frames c frame more ready h w) now d first frame (first-frame c frame more ready h w) t)

-- ---- so far

-- from these first actions a step has come to this core with these actions, and goes on from there
pub record Continues (now : ℕ) (c : Core) (first : List Action) (d : Core) (so_far : List Action) : Type 0 where
  pub on : (c' : Core) (out : List Action) → GoesOn now d so_far c' out → GoesOn now c first c' out
  pub held : IsHeld d

pub continues-takes : (now : ℕ) (c d e : Core) (begun so_far first : List Action) (frame : List ℕ) (more : List (List ℕ)) → Continues now c begun d so_far → d.stage ≡ Ready → d.waiting ≡ frame ∷ more
    → TakesUp (record d { stage = Ready; waiting = more }) frame now e first → Continues now c begun e (so_far ++ first)
continues-takes now c d e begun so_far first frame more k ready w t =
    let t' : TakesUp (record d { waiting = more }) frame now e first = subst (λ (s : Stage). TakesUp (record d { stage = s; waiting = more }) frame now e first) (sym ready) t in
    record {
      on = λ c' out g. k.on c' out (goes_on-takes now d e c' frame more so_far first out ready w t' g);
      held = takes_up-held (record d { waiting = more }) (ready-real d ready k.held) (more-frames d frame more ready k.held w) now e first frame (first-frame d frame more ready k.held w) t';
    }

pub continues-ends : (now : ℕ) (c d : Core) (begun so_far : List Action) → Continues now c begun d so_far → (d.stage ≡ Ready → ⊥) ⊎ (d.waiting ≡ []) → GoesOn now c begun d so_far
continues-ends now c d begun so_far k why = k.on d so_far (goes_on-rests now d so_far why)
