-- What is heard only grows, and what was heard stays heard.
use Rattle.std.proofs.Common.{◌≡◌, ◌∙◌, refl, ℕ, ℤ, List, [], ◌∷◌}
use Rattle.std.specs.Prelude.{Option, Some, None, Contains}
use Rattle.std.proofs.lemmas.List.Elements.{Contains-append_left}
use Rattle.ev_types.specs.declared.answer.Answer.{Answer}
use Rattle.ev_types.specs.declared.ask.Ask.{Ask}
use Rattle.zk_model.specs.declared.connect.ConnectRequest.{ConnectRequest}
use Rattle.zk_model.specs.declared.reply.Reply.{Reply}
use Rattle.zk_service.specs.declared.cause.Cause.{Cause}
use Rattle.zk_service.specs.declared.cause.Cause.TheVariants as cause
use Rattle.zn_view.specs.Seen.{View}
use Rattle.zn_view.specs.declared.plan.Who.{Who}
use Rattle.zp_step.specs.declared.input.Input.{Input}
use Rattle.zp_step.specs.declared.input.Input.TheVariants as input
use Rattle.zp_step.specs.Stages.{Core, Pending, Stage, Unconnected, Connecting, Ready, KeepingAlive, Checking, Reading, Committing, Waiting, Shut}
use Rattle.zp_run.specs.Heard.{Heard, EndsFor, HoldsHeard, IsConnectHeard, IsFrameAsking, IsGathered, MayEndFor, Rests, hears, nothing, round, then_asked, with_answer}

pub record More (a b : Heard) : Type 0 where
  pub frames : (f : List ℕ) → Contains a.frames f → Contains b.frames f
  pub answers : (x : Ask × Answer) → Contains a.answers x → Contains b.answers x

pub gathered-more : (a b : Heard) (v : View) → More a b → IsGathered a.answers v → IsGathered b.answers v
gathered-more a b v m (nothing e) = nothing e
gathered-more a b v m (round old t ws revision succeeded parts g c asked e) = round old t ws revision succeeded parts (gathered-more a b old m g) (m.answers _ c) asked e

asking-more : (a b : Heard) (xid : ℤ) (r : _) → More a b → IsFrameAsking a xid r → IsFrameAsking b xid r
asking-more a b xid r m h = record { frame = h.frame; came = m.frames h.frame h.came; reads = h.reads }

ends-more : (a b : Heard) (who : Who) (xid : ℤ) (answer : Reply) (why : Cause) → More a b → EndsFor a who xid answer why → EndsFor b who xid answer why
ends-more a b who xid answer cause.Closed m h = asking-more a b xid _ m h
ends-more a b who xid answer (cause.Expired revision) m h =
    let g = h.1 in (h.0, record { view = g.view; gathered = gathered-more a b g.view m g.gathered; at = g.at; gone = g.gone })
ends-more a b who xid answer (cause.Moved mine found) m h =
    let g = h.1 in
    (h.0, record { view = g.view; gathered = gathered-more a b g.view m g.gathered; own = g.own; kv = g.kv; there = g.there; put = g.put; other = g.other })
ends-more a b who xid answer (cause.ClientEnd place) m h = h
ends-more a b who xid answer cause.ReadFault m h = h
ends-more a b who xid answer cause.WriteFault m h = h
ends-more a b who xid answer (cause.BadLength place length) m h = h
ends-more a b who xid answer (cause.NoHeader place) m h = h
ends-more a b who xid answer cause.AuthRefused m h = h
ends-more a b who xid answer cause.Unknown m h = h
ends-more a b who xid answer (cause.ZxidAhead client head) m h = h
ends-more a b who xid answer (cause.Taken revision) m h = h
ends-more a b who xid answer cause.LinkFault m h = h
ends-more a b who xid answer (cause.Lagged cursor floor) m h = h
ends-more a b who xid answer cause.FeedClosed m h = h
ends-more a b who xid answer (cause.Damaged key value) m h = h
ends-more a b who xid answer cause.Restart m h = h
ends-more a b who xid answer cause.Memory m h = h

may-more : (a b : Heard) (who : Who) (p : Pending) (o : Option Cause) → More a b → MayEndFor a who p o → MayEndFor b who p o
may-more a b who p None m h = tt
may-more a b who p (Some why) m h = ends-more a b who p.xid p.answer why m h

connect-more : (a b : Heard) (r : ConnectRequest) → More a b → IsConnectHeard a r → IsConnectHeard b r
connect-more a b r m h = record { frame = h.frame; came = m.frames h.frame h.came; reads = h.reads }

pub holds-more : (a b : Heard) (who : Who) (st : Stage) → More a b → HoldsHeard a who st → HoldsHeard b who st
holds-more a b who (Unconnected fresh) m h = tt
holds-more a b who (Connecting connect) m h = (connect-more a b connect.request m h.0, h.1)
holds-more a b who Ready m h = tt
holds-more a b who (KeepingAlive frame) m h = m.frames frame h
holds-more a b who (Checking frame) m h = m.frames frame h
holds-more a b who (Reading xid r v ws) m h = (asking-more a b xid r m h.0, h.1, gathered-more a b v m h.2)
holds-more a b who (Committing xid r v p time) m h = (asking-more a b xid r m h.0, h.1)
holds-more a b who (Waiting p) m h = may-more a b who p p.ends m h
holds-more a b who Shut m h = tt

pub rests-more : (a b : Heard) (c : Core) → More a b → b.asked ≡ a.asked → Rests a c → Rests b c
rests-more a b c m same h = record { waiting = λ i d below. m.frames _ (h.waiting i d below); stage = holds-more a b c.who c.stage m h.stage; asked = λ q e. same ∙ h.asked q e }

-- what is asked takes nothing away
pub asked-more : (k : Heard) (o : Option Ask) → More k (then_asked k o)
asked-more k None = record { frames = λ f h. h; answers = λ a h. h }
asked-more k (Some q) = record { frames = λ f h. h; answers = λ a h. h }

-- and an input asks nothing
pub hears-asked : (k : Heard) (x : Input) → (hears k x).asked ≡ k.asked
hears-asked k (input.Frame bytes) = refl
hears-asked k (input.Answer a) = refl
hears-asked k (input.BadLength place length) = refl
hears-asked k input.Failed = refl
hears-asked k (input.Entry e) = refl
hears-asked k (input.Lagged cursor floor) = refl
hears-asked k input.FeedClosed = refl
hears-asked k (input.ClientEnd place) = refl

answer-more : (o : Option Ask) (a : Answer) (answers : List (Ask × Answer)) (b : Ask × Answer) → Contains answers b → Contains (with_answer o a answers) b
answer-more None a answers b h = h
answer-more (Some q) a answers b h = Contains-append_left answers ((q, a) ∷ []) b h

pub hears-more : (k : Heard) (x : Input) → More k (hears k x)
hears-more k (input.Frame bytes) = record { frames = λ f h. Contains-append_left k.frames (bytes ∷ []) f h; answers = λ a h. h }
hears-more k (input.Answer a) = record { frames = λ f h. h; answers = answer-more k.asked a k.answers }
hears-more k (input.BadLength place length) = record { frames = λ f h. h; answers = λ a h. h }
hears-more k input.Failed = record { frames = λ f h. h; answers = λ a h. h }
hears-more k (input.Entry e) = record { frames = λ f h. h; answers = λ a h. h }
hears-more k (input.Lagged cursor floor) = record { frames = λ f h. h; answers = λ a h. h }
hears-more k input.FeedClosed = record { frames = λ f h. h; answers = λ a h. h }
hears-more k (input.ClientEnd place) = record { frames = λ f h. h; answers = λ a h. h }
