-- A step of a connection without a session: nothing is sent, or the refusal, or the welcome and then a walk.
use Rattle.std.proofs.Common.{◌≡◌, ℕ, ◌+◌, List, [], ◌∷◌, ◌++◌, length, refl, sym, ap, ◌∙◌, subst, append-nil, true, false, ℤ, pos, inl, inr}
use Rattle.std.specs.Prelude.{Option, Some, None, ◌⊎◌, MatchBool}
use Rattle.ev_types.specs.Store.{Store}
use Rattle.ev_types.specs.declared.answer.Answer.{Answer}
use Rattle.ev_types.specs.declared.ask.Ask.{Ask}
use Rattle.zk_jute.specs.Connects.{read_connect}
use Rattle.zk_jute.specs.Packets.{connect_packet}
use Rattle.zk_jute.specs.Requests.{read_request}
use Rattle.zk_model.specs.declared.connect.ConnectRequest.{ConnectRequest}
use Rattle.zk_model.specs.declared.connect.ConnectResponse.{ConnectResponse}
use Rattle.zk_service.specs.Answers.{refusal, has_header}
use Rattle.zk_transcript.specs.Walks.{after_update, at_start, is_not_overtaken}
use Rattle.zk_service.specs.declared.cause.Cause.{Cause}
use Rattle.zk_service.specs.declared.cause.Cause.TheVariants as cause
use Rattle.zk_transcript.specs.declared.transcript.TranscriptLine.{TranscriptLine}
use Rattle.zk_least.proofs.Firing.{after-line}
use Rattle.zx_base.proofs.Options.{none_some}
use Rattle.zx_base.specs.Maps.{Bytes}
use Rattle.std.proofs.lemmas.List.Elements.{All-nil}
use Rattle.zn_view.specs.Seen.{View}
use Rattle.zn_view.specs.Asks.{reading}
use Rattle.zn_view.specs.declared.plan.Who.{Who}
use Rattle.zs_session.specs.Connecting.{ConnectSteps, asked_by_connect}
use Rattle.zs_session.specs.Sessions.{first_wants}
use Rattle.zs_session.specs.declared.connect.Connect.{Connect}
use Rattle.zs_session.specs.declared.connect.ConnectStep.{ConnectStep}
use Rattle.zs_session.specs.declared.connect.ConnectStep.TheVariants as steps
use Rattle.zk_service.specs.declared.fresh.Fresh.{Fresh}
use Rattle.zp_step.specs.Connects.{attached_core, Connects, Opens, connected}
use Rattle.zp_step.specs.Replies.{Is, closed_by}
use Rattle.zp_step.specs.Stages.{Core, Stage, Unconnected, Connecting, Ready, KeepingAlive, Checking, Reading, Committing, Waiting, Shut, is_shut}
use Rattle.zp_step.specs.Steps.{Answers, Comes, Goes, Handles, Steps, with_frame_counted, queued}
use Rattle.zp_step.specs.declared.action.Action.{Action}
use Rattle.zp_step.specs.declared.action.Action.TheVariants as action
use Rattle.zp_step.specs.declared.input.Input.{Input}
use Rattle.zp_step.specs.declared.input.Input.TheVariants as input
use Rattle.zp_step.proofs.Shutting.{goes-still, steps-open}
use Rattle.zp_laws.specs.Frames.{AreFrames}
use Rattle.zp_laws.specs.Standing.{IsFreshLook, IsViewOf, Stands, is_ahead}
use Rattle.zp_step.specs.Ending.{sends}
use Rattle.zp_laws.specs.Welcomes.{IsAttachment, IsRefusal, IsSilent, IsWelcome, is_connecting, is_entry}
use Rattle.zp_step.proofs.Cases.{open-unless}
use Rattle.zp_laws.proofs.Going.{goes-walks}
use Rattle.zp_laws.proofs.Strides.{turn-next, walks-if}
use Rattle.zx_base.proofs.Booleans.{either}

-- ---- from the welcome on

pub welcomed-stands : (store : Store) (lines : List TranscriptLine) (conn : ℕ) (c : Core) (who : Who) (timeout number zxid : ℤ) (place looked : ℕ) → IsAttachment lines conn c number zxid place
    → Stands store lines conn (attached_core c who timeout number zxid) (at_start zxid (place + 1)) looked
welcomed-stands store lines conn c who timeout number zxid place looked k = record {
  matches = record {
    zxid = refl;
    since = sym (ap (λ x. after_update x lines) (sym k.same) ∙ after-line lines place k.update k.legal k.shown);
    watches = refl;
    next = sym k.next;
    over = refl;
    at = record { line = place; update = k.update; shown = k.shown; zxid = sym k.same; cursor = k.counted };
  };
  work = tt;
  waiting = subst (λ n. AreFrames lines conn n c.waiting) (sym k.next) k.waiting;
  turn = ap (is_not_overtaken lines conn) k.next ∙ turn-next lines conn 0 k.turn;
  views = All-nil (λ (x : Bytes × View). IsViewOf store x.1);
  knows = ap (is_ahead lines conn) k.next ∙ k.turn;
}

-- ---- what the input comes to

-- the session's transaction succeeded
pub record IsAttaching (c mid : Core) (x : Input) (first : List Action) : Type 0 where
  pub connect : Connect
  pub connecting : c.stage ≡ Connecting connect
  pub answer : Answer
  pub at_answer : x ≡ input.Answer answer
  pub response : ConnectResponse
  pub who : Who
  pub timeout : ℤ
  pub number : ℤ
  pub zxid : ℤ
  pub new : Connect
  pub attaches : ConnectSteps connect (Some answer) (steps.Attached response who timeout number zxid) new
  pub core : mid ≡ attached_core c who timeout number zxid
  pub sent : first ≡ action.Send (connect_packet response) ∷ []

abbrev ComesTo : Core → Core → Input → List Action → Type 0
ComesTo c mid x first = IsSilent c mid first ⊎ IsRefusal c mid x first ⊎ IsAttaching c mid x first

module _ (c mid : Core) (first : List Action) where
  silent : (y : Core × List Action) → (is_connecting y.0.stage ≡ true) ⊎ (y.0.stage ≡ Shut) → sends y.1 ≡ [] → y.0.next ≡ c.next → Is y mid first → IsSilent c mid first
  silent y st quiet next i = record {
    stage = elim st [ inl e ↦ inl (ap (λ (d : Core). is_connecting d.stage) i.0 ∙ e) | inr e ↦ inr (ap (λ (d : Core). d.stage) i.0 ∙ e) ];
    quiet = ap sends i.1 ∙ quiet;
    next = ap (λ (d : Core). d.next) i.0 ∙ next;
  }

  closed : (d : Core) (why : Cause) → d.next ≡ c.next → Is (closed_by d why) mid first → IsSilent c mid first
  closed d why e i = silent (closed_by d why) (inr refl) refl e i

-- ---- the connect

-- the first frame asks for a look
opening : (c d mid : Core) (now : ℕ) (first : List Action) (new : Connect) (q : Ask) (step : ConnectStep) → asked_by_connect step ≡ Some q → d.next ≡ c.next → Is (connected d now new step) mid first → IsSilent c mid first
opening c d mid now first new q (steps.Ask a) e same i = silent c mid first (connected d now new (steps.Ask a)) (inl refl) refl same i
opening c d mid now first new q (steps.Attached response who timeout number zxid) e same i = absurd (none_some e)
opening c d mid now first new q (steps.Ahead client head) e same i = absurd (none_some e)
opening c d mid now first new q steps.Unknown e same i = absurd (none_some e)
opening c d mid now first new q (steps.Taken revision) e same i = absurd (none_some e)

opens-to : (c d mid : Core) (place : ℕ) (fresh : Fresh) (now : ℕ) (first : List Action) (o : Option ConnectRequest) → d.next ≡ c.next → Opens d place fresh now mid first o → IsSilent c mid first
opens-to c d mid place fresh now first None same h = closed c mid first d (cause.NoHeader place) same h
opens-to c d mid place fresh now first (Some r) same (inl e) = closed c mid first d (cause.Damaged e.key e.value) same e.is
opens-to c d mid place fresh now first (Some r) same (inr s) = opening c d mid now first s.new (reading (pos 0) (first_wants r)) s.step ((s.steps).moves).1 same s.is

module _ (c mid : Core) (connect : Connect) (connecting : c.stage ≡ Connecting connect) (a : Answer) (now : ℕ) (first : List Action) where
  connected-to : (new : Connect) (step : ConnectStep) → ConnectSteps connect (Some a) step new → Is (connected c now new step) mid first → ComesTo c mid (input.Answer a) first
  connected-to new (steps.Ask q) s i = inl (silent c mid first (connected c now new (steps.Ask q)) (inl refl) refl refl i)
  connected-to new (steps.Attached response who timeout number zxid) s i = inr (inr (record {
    connect = connect;
    connecting = connecting;
    answer = a;
    at_answer = refl;
    response = response;
    who = who;
    timeout = timeout;
    number = number;
    zxid = zxid;
    new = new;
    attaches = s;
    core = i.0;
    sent = i.1;
  }))
  connected-to new (steps.Ahead client head) s i = inl (closed c mid first c (cause.ZxidAhead client head) refl i)
  connected-to new steps.Unknown s i = inr (inl (record {
    connect = connect;
    connecting = connecting;
    answer = a;
    at_answer = refl;
    stage = ap (λ (d : Core). d.stage) i.0;
    actions = i.1 ∙ ap (λ (d : Connect). action.Send (connect_packet (refusal d.request)) ∷ action.Close cause.Unknown ∷ []) s.same;
  }))
  connected-to new (steps.Taken revision) s i = inl (closed c mid first c (cause.Taken revision) refl i)

  connects-to : Connects c connect (Some a) now mid first → ComesTo c mid (input.Answer a) first
  connects-to (inl e) = inl (closed c mid first c (cause.Damaged e.key e.value) refl e.is)
  connects-to (inr s) = connected-to s.new s.step s.steps s.is

-- ---- by the input

module _ (c mid : Core) (now : ℕ) (first : List Action) where
  answer-to : (a : Answer) (st : Stage) → c.stage ≡ st → is_connecting st ≡ true → Answers c a now mid first st → ComesTo c mid (input.Answer a) first
  answer-to a (Unconnected fresh) e t h = absurd h
  answer-to a (Connecting connect) e t h = connects-to c mid connect e a now first h
  answer-to a Ready e t h = absurd h
  answer-to a (KeepingAlive f) e t h = absurd (cc)
  answer-to a (Checking f) e t h = absurd (cc)
  answer-to a (Reading xid r v ws) e t h = absurd (cc)
  answer-to a (Committing xid r v p m) e t h = absurd (cc)
  answer-to a (Waiting p) e t h = absurd h
  answer-to a Shut e t h = absurd h

  queued-to : (bytes : List ℕ) → is_connecting c.stage ≡ true → MatchBool (has_header (read_request bytes)) (Is (queued c bytes, []) mid first) (Is (closed_by c (cause.NoHeader c.taken)) mid first) → IsSilent c mid first
  queued-to bytes t h =
      either (has_header (read_request bytes)) (Is (queued c bytes, []) mid first) (Is (closed_by c (cause.NoHeader c.taken)) mid first) (IsSilent c mid first) h
      (silent c mid first (queued c bytes, []) (inl t) refl refl)
      (closed c mid first c (cause.NoHeader c.taken) refl)

  frame-to : (bytes : List ℕ) (st : Stage) → c.stage ≡ st → is_connecting st ≡ true → Comes c bytes now mid first st → IsSilent c mid first
  frame-to bytes (Unconnected fresh) e t h = opens-to c (with_frame_counted c bytes) mid c.taken fresh now first (read_connect bytes) refl h
  frame-to bytes (Connecting connect) e t h = queued-to bytes (ap is_connecting e) h
  frame-to bytes Ready e t h = absurd (cc)
  frame-to bytes (KeepingAlive f) e t h = absurd (cc)
  frame-to bytes (Checking f) e t h = absurd (cc)
  frame-to bytes (Reading xid r v ws) e t h = absurd (cc)
  frame-to bytes (Committing xid r v p m) e t h = absurd (cc)
  frame-to bytes (Waiting p) e t h = absurd (cc)
  frame-to bytes Shut e t h = absurd (cc)

  handled-to : (x : Input) → is_connecting c.stage ≡ true → is_entry x ≡ false → Handles c x now mid first → ComesTo c mid x first
  handled-to (input.Frame bytes) t n h = inl (frame-to bytes c.stage refl t h)
  handled-to (input.Answer a) t n h = answer-to a c.stage refl t h
  handled-to (input.Entry e) t n h = absurd (cc)
  handled-to input.Failed t n h = inl (closed c mid first c cause.LinkFault refl h)
  handled-to (input.BadLength place length) t n h = inl (closed c mid first c (cause.BadLength place length) refl h)
  handled-to (input.Lagged cursor floor) t n h = inl (closed c mid first c (cause.Lagged cursor floor) refl h)
  handled-to input.FeedClosed t n h = inl (closed c mid first c cause.FeedClosed refl h)
  handled-to (input.ClientEnd place) t n h = inl (closed c mid first c (cause.ClientEnd place) refl h)

-- ---- after the input no frame is taken up, except after the welcome

unready : (st : Stage) → (is_connecting st ≡ true) ⊎ (st ≡ Shut) → st ≡ Ready → ⊥
unready st (inl e) r = let f : false ≡ true = sym (ap is_connecting r) ∙ e in cc
unready st (inr e) r = let f : Shut ≡ Ready = sym e ∙ r in cc

module _ (c mid c' : Core) (x : Input) (now : ℕ) (first later : List Action) (g : Goes now mid c' later) where
  silent-still : IsSilent c mid first → IsSilent c c' (first ++ later)
  silent-still k =
      let s = goes-still now mid c' later (unready mid.stage k.stage) g in
      let same : first ++ later ≡ first = ap (λ l. first ++ l) s.1 ∙ append-nil first in
      record {
        stage = elim k.stage [ inl e ↦ inl (ap (λ (d : Core). is_connecting d.stage) s.0 ∙ e) | inr e ↦ inr (ap (λ (d : Core). d.stage) s.0 ∙ e) ];
        quiet = ap sends same ∙ k.quiet;
        next = ap (λ (d : Core). d.next) s.0 ∙ k.next;
      }

  refusal-still : IsRefusal c mid x first → IsRefusal c c' x (first ++ later)
  refusal-still k =
      let s = goes-still now mid c' later (unready mid.stage (inr k.stage)) g in
      record {
        connect = k.connect;
        connecting = k.connecting;
        answer = k.answer;
        at_answer = k.at_answer;
        stage = ap (λ (d : Core). d.stage) s.0 ∙ k.stage;
        actions = ap (λ l. first ++ l) s.1 ∙ append-nil first ∙ k.actions;
      }

  pub welcome-walks : IsAttaching c mid x first → IsWelcome c c' x (first ++ later)
  welcome-walks k = record {
    connect = k.connect;
    connecting = k.connecting;
    answer = k.answer;
    at_answer = k.at_answer;
    response = k.response;
    who = k.who;
    timeout = k.timeout;
    number = k.number;
    zxid = k.zxid;
    new = k.new;
    attaches = k.attaches;
    later = later;
    actions = ap (λ l. l ++ later) k.sent;
    walks = λ store lines conn place looked at.
        walks-if store lines conn (Unit {0}) (IsFreshLook lines conn false (attached_core c k.who k.timeout k.number k.zxid) looked) (attached_core c k.who k.timeout k.number k.zxid) c' (at_start k.zxid (place + 1)) looked later (λ q e. absurd (cc))
        (goes-walks store lines conn looked now (attached_core c k.who k.timeout k.number k.zxid) c' (at_start k.zxid (place + 1)) later at.legal
        (welcomed-stands store lines conn c k.who k.timeout k.number k.zxid place looked at) (subst (λ (d : Core). Goes now d c' later) k.core g));
  }

  ends-as : ComesTo c mid x first → IsSilent c c' (first ++ later) ⊎ IsRefusal c c' x (first ++ later) ⊎ IsWelcome c c' x (first ++ later)
  ends-as (inl k) = inl (silent-still k)
  ends-as (inr (inl k)) = inr (inl (refusal-still k))
  ends-as (inr (inr k)) = inr (inr (welcome-walks k))

connecting-open : (st : Stage) → is_connecting st ≡ true → is_shut st ≡ false
connecting-open st h = open-unless st (λ e. let f : false ≡ true = sym (ap is_connecting e) ∙ h in cc)

pub connects_are : (c c' : Core) (x : Input) (now : ℕ) (out : List Action) → is_connecting c.stage ≡ true → is_entry x ≡ false → Steps c x now c' out → IsSilent c c' out ⊎ IsRefusal c c' x out ⊎ IsWelcome c c' x out
connects_are c c' x now out t n h =
    let s = steps-open c c' x now out (connecting-open c.stage t) h in
    subst (λ l. IsSilent c c' l ⊎ IsRefusal c c' x l ⊎ IsWelcome c c' x l) (sym s.joined) (ends-as c s.mid c' x now s.first s.later s.goes (handled-to c s.mid now s.first x t n s.handled))
