-- What is out after a step was asked by it, or was out before.
use Rattle.std.proofs.Common.{◌≡◌, ℕ, List, [], true, false, refl, sym, ap, ◌∙◌, subst, inl, inr}
use Rattle.std.specs.Prelude.{◌⊎◌, Some, None, MatchBool}
use Rattle.std.specs.Arc.{arc_value}
use Rattle.ev_types.specs.declared.ask.Ask.{Ask}
use Rattle.zk_jute.specs.Requests.{read_request}
use Rattle.zk_service.specs.Answers.{has_header}
use Rattle.zk_service.specs.declared.cause.Cause.{Cause}
use Rattle.zk_service.specs.declared.cause.Cause.TheVariants as cause
use Rattle.zn_layout.specs.declared.entry.Entry.{Entry}
use Rattle.zn_view.specs.declared.plan.Who.{Who}
use Rattle.zx_base.proofs.Booleans.{either}
use Rattle.zx_base.proofs.Options.{none_some}
use Rattle.zp_step.proofs.Ending.{steps_end_well}
use Rattle.zp_step.proofs.Shutting.{steps-open}
use Rattle.zp_step.specs.Ending.{StaysOut, asked_by, takes_out}
use Rattle.zp_step.specs.Entries.{entered, then_reply}
use Rattle.zp_step.specs.Replies.{Is, closed_by}
use Rattle.zp_step.specs.Stages.{Core, Stage, Unconnected, Connecting, Ready, KeepingAlive, Checking, Reading, Committing, Waiting, Shut, asked_of, is_shut}
use Rattle.zp_step.specs.Steps.{Comes, Goes, Handles, Steps, StepsOpen, queued, rests, takes}
use Rattle.zp_step.specs.declared.action.Action.{Action}
use Rattle.zp_step.specs.declared.input.Input.{Input}
use Rattle.zp_step.specs.declared.input.Input.TheVariants as input

-- an ask may be out in this stage
abbrev IsAsking : Stage → Type 0
IsAsking (Unconnected fresh) = ⊥
IsAsking (Connecting connect) = Unit {0}
IsAsking Ready = ⊥
IsAsking (KeepingAlive frame) = Unit {0}
IsAsking (Checking frame) = Unit {0}
IsAsking (Reading xid r v ws) = Unit {0}
IsAsking (Committing xid r v p time) = Unit {0}
IsAsking (Waiting p) = ⊥
IsAsking Shut = ⊥

is-asking : (who : Who) (st : Stage) (q : Ask) → asked_of who st ≡ Some q → IsAsking st
is-asking who (Unconnected fresh) q e = none_some e
is-asking who (Connecting connect) q e = tt
is-asking who Ready q e = none_some e
is-asking who (KeepingAlive frame) q e = tt
is-asking who (Checking frame) q e = tt
is-asking who (Reading xid r v ws) q e = tt
is-asking who (Committing xid r v p time) q e = tt
is-asking who (Waiting p) q e = none_some e
is-asking who Shut q e = none_some e

asking-open : (st : Stage) → IsAsking st → is_shut st ≡ true → ⊥
asking-open (Unconnected fresh) a s = a
asking-open (Connecting connect) a s = absurd (cc)
asking-open Ready a s = a
asking-open (KeepingAlive frame) a s = absurd (cc)
asking-open (Checking frame) a s = absurd (cc)
asking-open (Reading xid r v ws) a s = absurd (cc)
asking-open (Committing xid r v p time) a s = absurd (cc)
asking-open (Waiting p) a s = a
asking-open Shut a s = a

-- the session is the same, and the stage, unless the connection is shut
abbrev Stays : Core → Core → Type 0
Stays c mid = (mid.who ≡ c.who) × ((mid.stage ≡ c.stage) ⊎ (mid.stage ≡ Shut))

stays-as : (c d mid : Core) (first out : List Action) → d.who ≡ c.who → d.stage ≡ c.stage → Is (d, first) mid out → Stays c mid
stays-as c d mid first out who st i = (ap (λ (e : Core). e.who) i.0 ∙ who, inl (ap (λ (e : Core). e.stage) i.0 ∙ st))

stays-shut : (c mid : Core) (why : Cause) (out : List Action) → Is (closed_by c why) mid out → Stays c mid
stays-shut c mid why out i = (ap (λ (e : Core). e.who) i.0, inr (ap (λ (e : Core). e.stage) i.0))

queued-stays : (c mid : Core) (bytes : List ℕ) (out : List Action) → MatchBool (has_header (read_request bytes)) (Is (queued c bytes, []) mid out) (Is (closed_by c (cause.NoHeader c.taken)) mid out) → Stays c mid
queued-stays c mid bytes out h =
    either (has_header (read_request bytes)) (Is (queued c bytes, []) mid out) (Is (closed_by c (cause.NoHeader c.taken)) mid out) (Stays c mid) h
    (stays-as c (queued c bytes) mid [] out refl refl)
    (stays-shut c mid (cause.NoHeader c.taken) out)

comes-stays : (c mid : Core) (bytes : List ℕ) (now : ℕ) (out : List Action) (st : Stage) → IsAsking st → Comes c bytes now mid out st → Stays c mid
comes-stays c mid bytes now out (Unconnected fresh) a h = absurd a
comes-stays c mid bytes now out (Connecting connect) a h = queued-stays c mid bytes out h
comes-stays c mid bytes now out Ready a h = absurd a
comes-stays c mid bytes now out (KeepingAlive f) a h = queued-stays c mid bytes out h
comes-stays c mid bytes now out (Checking f) a h = queued-stays c mid bytes out h
comes-stays c mid bytes now out (Reading xid r v ws) a h = queued-stays c mid bytes out h
comes-stays c mid bytes now out (Committing xid r v p m) a h = queued-stays c mid bytes out h
comes-stays c mid bytes now out (Waiting p) a h = absurd a
comes-stays c mid bytes now out Shut a h = absurd a

entry-stays : (c mid : Core) (e : Entry) (out : List Action) (st : Stage) → IsAsking st → Is (then_reply (entered c e) st) mid out → Stays c mid
entry-stays c mid e out (Unconnected fresh) a i = absurd a
entry-stays c mid e out (Connecting connect) a i = stays-as c (entered c e).0 mid (entered c e).1 out refl refl i
entry-stays c mid e out Ready a i = absurd a
entry-stays c mid e out (KeepingAlive f) a i = stays-as c (entered c e).0 mid (entered c e).1 out refl refl i
entry-stays c mid e out (Checking f) a i = stays-as c (entered c e).0 mid (entered c e).1 out refl refl i
entry-stays c mid e out (Reading xid r v ws) a i = stays-as c (entered c e).0 mid (entered c e).1 out refl refl i
entry-stays c mid e out (Committing xid r v p m) a i = stays-as c (entered c e).0 mid (entered c e).1 out refl refl i
entry-stays c mid e out (Waiting p) a i = absurd a
entry-stays c mid e out Shut a i = absurd a

handled-stays : (c mid : Core) (x : Input) (now : ℕ) (out : List Action) → takes_out x ≡ false → IsAsking c.stage → Handles c x now mid out → Stays c mid
handled-stays c mid (input.Frame bytes) now out t a h = comes-stays c mid bytes now out c.stage a h
handled-stays c mid (input.Answer x) now out t a h = absurd (cc)
handled-stays c mid (input.Entry e) now out t a h = entry-stays c mid (arc_value e) out c.stage a h
handled-stays c mid input.Failed now out t a h = absurd (cc)
handled-stays c mid (input.BadLength place length) now out t a h = stays-shut c mid (cause.BadLength place length) out h
handled-stays c mid (input.Lagged cursor floor) now out t a h = stays-shut c mid (cause.Lagged cursor floor) out h
handled-stays c mid input.FeedClosed now out t a h = stays-shut c mid cause.FeedClosed out h
handled-stays c mid (input.ClientEnd place) now out t a h = stays-shut c mid (cause.ClientEnd place) out h

-- and no frame is taken up
goes-who : (now : ℕ) (c mid c' : Core) (out : List Action) → IsAsking c.stage → Stays c mid → Goes now mid c' out → c'.who ≡ c.who
goes-who now c mid c' out a s (rests why same none) = ap (λ (e : Core). e.who) same ∙ s.0
goes-who now c mid c' out a (who, inl st) (takes d frame more first later ready ws t g o) = absurd (subst IsAsking (sym st ∙ ready) a)
goes-who now c mid c' out a (who, inr st) (takes d frame more first later ready ws t g o) = (let shut : Shut ≡ Ready = sym st ∙ ready in absurd (cc))

pub asks-left : (c c' : Core) (x : Input) (now : ℕ) (out : List Action) → is_shut c.stage ≡ false → Steps c x now c' out → (q : Ask) → asked_of c'.who c'.stage ≡ Some q
    → (asked_by out ≡ Some q) ⊎ ((asked_by out ≡ None) × (asked_of c.who c.stage ≡ Some q))
asks-left c c' x now out opened h q e = go (steps_end_well c c' x now out opened h).asks
  where
    asking : IsAsking c'.stage
    asking = is-asking c'.who c'.stage q e

    still : takes_out x ≡ false → c'.stage ≡ c.stage → StepsOpen c x now c' out → asked_of c.who c.stage ≡ Some q
    still t st s =
        let a : IsAsking c.stage = subst IsAsking st asking in
        let who : c'.who ≡ c.who = goes-who now c s.mid c' s.later a (handled-stays c s.mid x now s.first t a s.handled) s.goes in
        ap (asked_of c.who) (sym st) ∙ ap (λ (w : Who). asked_of w c'.stage) (sym who) ∙ e

    go : (is_shut c'.stage ≡ true) ⊎ ((asked_of c'.who c'.stage ≡ asked_by out) ⊎ StaysOut c c' x out) → (asked_by out ≡ Some q) ⊎ ((asked_by out ≡ None) × (asked_of c.who c.stage ≡ Some q))
    go (inl shut) = absurd (asking-open c'.stage asking shut)
    go (inr (inl own)) = inl (sym own ∙ e)
    go (inr (inr (t, st, none))) = inr (none, still t st (steps-open c c' x now out opened h))
