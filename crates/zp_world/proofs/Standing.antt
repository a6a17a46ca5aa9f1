-- What is out of a connection after a step: what it asked, or what was out before.
use Rattle.std.proofs.Common.{◌≡◌, ℕ, List, [], ◌∷◌, refl, sym, ap, ◌∙◌, subst, Bool, true, false, inl, inr}
use Rattle.std.specs.Prelude.{Option, Some, None, MatchBool, ◌⊎◌}
use Rattle.ev_types.specs.declared.answer.Answer.{Answer}
use Rattle.ev_types.specs.declared.ask.Ask.{Ask}
use Rattle.zk_service.specs.declared.cause.Cause.{Cause}
use Rattle.zk_service.specs.declared.cause.Cause.TheVariants as cause
use Rattle.zk_service.specs.declared.update.UpdateKind.{UpdateKind}
use Rattle.zk_service.specs.Answers.{has_header}
use Rattle.zk_jute.specs.Requests.{read_request}
use Rattle.zs_session.specs.Answering.{IsAwaited}
use Rattle.zx_base.proofs.Options.{none_some, some_none}
use Rattle.zp_script.specs.declared.flight.Flight.{Flight}
use Rattle.zp_script.specs.declared.flight.Flight.TheVariants.{Out, Carried, Denied}
use Rattle.zp_step.proofs.Ending.{steps_end_well}
use Rattle.zp_step.specs.Ending.{EndsWell, asked_by, closes, ends_well}
use Rattle.zp_step.proofs.Shutting.{ends-named, goes-still, steps-open}
use Rattle.zp_step.specs.Laws.{end_by}
use Rattle.zp_step.specs.Replies.{Is, closed_by}
use Rattle.zp_step.specs.Stages.{Core, Stage, Unconnected, Connecting, Ready, KeepingAlive, Checking, Reading, Committing, Waiting, Shut, asked_of, is_shut}
use Rattle.zp_step.specs.Steps.{Comes, Steps, queued}
use Rattle.zp_step.specs.declared.action.Action.{Action}
use Rattle.zp_step.specs.declared.action.Action.TheVariants as action
use Rattle.zp_step.specs.declared.input.Input.{Input}
use Rattle.zp_step.specs.declared.input.Input.TheVariants as input
use Rattle.zp_world.specs.Flying.{IsFlyingOf}
use Rattle.zp_world.specs.Leaving.{Leaves, flight_after}

-- ---- what a step asks is out

closed-asks-nothing : (out : List Action) → closes out ≡ true → asked_by out ≡ None
closed-asks-nothing [] h = refl
closed-asks-nothing (action.Send bytes ∷ more) h = closed-asks-nothing more h
closed-asks-nothing (action.Ask a ∷ more) h = absurd (cc)
closed-asks-nothing (action.Close why ∷ more) h = refl

asks-out : (old new : Core) (x : Input) (out : List Action) → EndsWell old new x out → (a : Ask) → asked_by out ≡ Some a → asked_of new.who new.stage ≡ Some a
asks-out old new x out e a asked = elim e.asks [
  | inl shut ↦ absurd (none_some (sym (closed-asks-nothing out (e.closes ∙ shut)) ∙ asked))
  | inr (inl same) ↦ same ∙ asked
  | inr (inr stays) ↦ absurd (none_some (sym stays.2 ∙ asked))
]

-- nothing was out
pub leaves-none : (old new : Core) (x : Input) (now : ℕ) (out : List Action) → is_shut old.stage ≡ false → Steps old x now new out → Leaves None new out
leaves-none old new x now out live steps =
    let e = steps_end_well old new x now out live steps in
    record { well = e.well; closes = e.closes; asks = asks-out old new x out e; stays = λ o n. tt }

-- it ends whatever was out
pub leaves-end : (old new : Core) (x : Input) (why : Cause) (now : ℕ) (out : List Action) (flight : Option Flight) → is_shut old.stage ≡ false → end_by x ≡ Some why → Steps old x now new out → Leaves flight new out
leaves-end old new x why now out flight live ends steps =
    let e = steps_end_well old new x now out live steps in
    let q = ends-named old new x why now out live ends steps in
    let shut : is_shut new.stage ≡ true = ap is_shut q.0 in
    record { well = e.well; closes = e.closes; asks = asks-out old new x out e; stays = λ o n. absurd (let f : true ≡ false = sym shut ∙ o in cc) }

-- ---- a frame that comes while something is out waits

-- the stage asks
abbrev IsAsking : Stage → Type 0
IsAsking (Unconnected fresh) = ⊥
IsAsking Ready = ⊥
IsAsking (Waiting p) = ⊥
IsAsking Shut = ⊥
IsAsking _ = Unit {0}

abbrev Stays : Core → Core → Type 0
Stays old new = (is_shut new.stage ≡ true) ⊎ ((new.stage ≡ old.stage) × (new.who ≡ old.who))

come-so : (old mid : Core) (bytes : List ℕ) (first : List Action) (b : Bool) → MatchBool b (Is (queued old bytes, []) mid first) (Is (closed_by old (cause.NoHeader old.taken)) mid first)
    → (mid.stage ≡ Shut) ⊎ ((mid.stage ≡ old.stage) × (mid.who ≡ old.who))
come-so old mid bytes first true h = inr (ap (λ (c : Core). c.stage) h.0, ap (λ (c : Core). c.who) h.0)
come-so old mid bytes first false h = inl (ap (λ (c : Core). c.stage) h.0)

comes-so : (old mid : Core) (bytes : List ℕ) (now : ℕ) (first : List Action) (s : Stage) → IsAsking s → Comes old bytes now mid first s → (mid.stage ≡ Shut) ⊎ ((mid.stage ≡ old.stage) × (mid.who ≡ old.who))
comes-so old mid bytes now first (Unconnected fresh) a h = absurd a
comes-so old mid bytes now first (Connecting connect) a h = come-so old mid bytes first (has_header (read_request bytes)) h
comes-so old mid bytes now first Ready a h = absurd a
comes-so old mid bytes now first (KeepingAlive frame) a h = come-so old mid bytes first (has_header (read_request bytes)) h
comes-so old mid bytes now first (Checking frame) a h = come-so old mid bytes first (has_header (read_request bytes)) h
comes-so old mid bytes now first (Reading xid r v ws) a h = come-so old mid bytes first (has_header (read_request bytes)) h
comes-so old mid bytes now first (Committing xid r v p m) a h = come-so old mid bytes first (has_header (read_request bytes)) h
comes-so old mid bytes now first (Waiting p) a h = absurd a
comes-so old mid bytes now first Shut a h = absurd a

unready : (s : Stage) → IsAsking s → s ≡ Ready → ⊥
unready s a e = subst IsAsking e a

unready-shut : (s : Stage) → s ≡ Shut → s ≡ Ready → ⊥
unready-shut s e r = let f : Shut ≡ Ready = sym e ∙ r in cc

frame-stays : (old new : Core) (bytes : List ℕ) (now : ℕ) (out : List Action) → is_shut old.stage ≡ false → IsAsking old.stage → Steps old (input.Frame bytes) now new out → Stays old new
frame-stays old new bytes now out live asking steps =
    let s = steps-open old new (input.Frame bytes) now out live steps in
    elim (comes-so old s.mid bytes now s.first old.stage asking s.handled) [
      | inl shut ↦
          (let g = goes-still now s.mid new s.later (unready-shut s.mid.stage shut) s.goes in
          inl (ap (λ (c : Core). is_shut c.stage) g.0 ∙ ap is_shut shut))
      | inr same ↦
          (let g = goes-still now s.mid new s.later (λ r. unready old.stage asking (sym same.0 ∙ r)) s.goes in
          inr (ap (λ (c : Core). c.stage) g.0 ∙ same.0, ap (λ (c : Core). c.who) g.0 ∙ same.1))
    ]

-- what is out is that of an asking stage
asking-of : (c : Core) (s : Stage) (a : Ask) → asked_of c.who s ≡ Some a → IsAsking s
asking-of c (Unconnected fresh) a h = none_some h
asking-of c (Connecting connect) a h = tt
asking-of c Ready a h = none_some h
asking-of c (KeepingAlive frame) a h = tt
asking-of c (Checking frame) a h = tt
asking-of c (Reading xid r v ws) a h = tt
asking-of c (Committing xid r v p m) a h = tt
asking-of c (Waiting p) a h = none_some h
asking-of c Shut a h = none_some h

some-ask : (o : Option Ask) → (o ≡ None → ⊥) → (a : Ask) × (o ≡ Some a)
some-ask None h = absurd (h refl)
some-ask (Some a) h = (a, refl)

flying-asks : (c : Core) (f : Flight) → IsFlyingOf c (Some f) → (a : Ask) × (asked_of c.who c.stage ≡ Some a)
flying-asks c (Out x) h = (x.ask, h.asked)
flying-asks c (Carried a) h = some-ask (asked_of c.who c.stage) (λ e. awaited-none (asked_of c.who c.stage) a e h)
  where
    awaited-none : (o : Option Ask) (a : Answer) → o ≡ None → IsAwaited o (Some a) → ⊥
    awaited-none None a e h = h
    awaited-none (Some q) a e h = some_none e
flying-asks c Denied h = some-ask (asked_of c.who c.stage) h

-- a stage that stays has the same out
flying-same : (c d : Core) (f : Option Flight) → d.stage ≡ c.stage → d.who ≡ c.who → IsFlyingOf c f → IsFlyingOf d f
flying-same c d None s w h = tt
flying-same c d (Some (Out x)) s w h = record { asked = rw (s, w) h.asked; fit = h.fit }
flying-same c d (Some (Carried a)) s w h = rw (s, w) h
flying-same c d (Some Denied) s w h = rw (s, w) h

pub leaves-frame : (old new : Core) (bytes : List ℕ) (now : ℕ) (out : List Action) (flight : Option Flight) → is_shut old.stage ≡ false → IsFlyingOf old flight → Steps old (input.Frame bytes) now new out → Leaves flight new out
leaves-frame old new bytes now out None live flies steps = leaves-none old new (input.Frame bytes) now out live steps
leaves-frame old new bytes now out (Some f) live flies steps =
    let e = steps_end_well old new (input.Frame bytes) now out live steps in
    let a = flying-asks old f flies in
    record {
      well = e.well;
      closes = e.closes;
      asks = asks-out old new (input.Frame bytes) out e;
      stays = λ o n. elim (frame-stays old new bytes now out live (asking-of old old.stage a.0 a.1) steps) [
        | inl shut ↦ absurd (let g : true ≡ false = sym shut ∙ o in cc)
        | inr same ↦ flying-same old new (Some f) same.0 same.1 flies
      ];
    }

-- ---- after the actions

pub folded : (kind : Option UpdateKind) (f : Option Flight) (out : List Action) → ends_well out ≡ true → closes out ≡ false
    → ((asked_by out ≡ None) × (flight_after kind f out ≡ f)) ⊎ ((a : Ask) × (asked_by out ≡ Some a) × (flight_after kind f out ≡ Some (Out (record { ask = a; kind = kind }))))
folded kind f [] well live = inl (refl, refl)
folded kind f (action.Send bytes ∷ more) well live = folded kind f more well live
folded kind f (action.Ask a ∷ []) well live = inr (a, refl, refl)
folded kind f (action.Ask a ∷ x ∷ more) well live = absurd (cc)
folded kind f (action.Close why ∷ more) well live = absurd (cc)
