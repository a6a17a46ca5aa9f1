-- What is asked is what the stage has out, what it rests on is true of the store, and the request asked for has no line yet.
use Rattle.std.proofs.Common.{◌≡◌, ℕ, zero, suc, List, [], ◌∷◌, ◌++◌, length, refl, sym, ap, ◌∙◌, subst, arith, Bool, true, false, ℤ, inl, inr}
use Rattle.std.specs.Prelude.{Some, ◌⊎◌, MatchBool, Contains, if◌then◌else◌}
use Rattle.ev_types.specs.Store.{Store}
use Rattle.ev_types.specs.declared.answer.ActAns.{ActAns}
use Rattle.ev_types.specs.declared.answer.Answer.{Answer}
use Rattle.ev_types.specs.declared.answer.Answer.TheVariants as answer
use Rattle.ev_types.specs.declared.ask.Ask.{Ask}
use Rattle.zk_jute.specs.Requests.{read_request}
use Rattle.zk_model.specs.declared.request.Request.{Request}
use Rattle.zk_transcript.specs.Walks.{Walker}
use Rattle.zk_service.specs.Answers.{has_header}
use Rattle.zk_service.specs.declared.cause.Cause.{Cause}
use Rattle.zk_service.specs.declared.cause.Cause.TheVariants as cause
use Rattle.zk_transcript.specs.declared.transcript.TranscriptLine.{TranscriptLine}
use Rattle.zx_base.proofs.Options.{none_some}
use Rattle.zn_view.specs.Seen.{View}
use Rattle.zn_view.specs.declared.plan.Plan.{Plan}
use Rattle.zn_view.specs.declared.plan.Who.{Who}
use Rattle.zp_step.specs.Plans.{finishes, CommitAnswered}
use Rattle.zp_step.specs.Replies.{Is, closed_by, is_due, replied, waits}
use Rattle.zp_step.specs.Stages.{Core, KeptViews, Pending, Stage, Unconnected, Connecting, Ready, KeepingAlive, Checking, Reading, Committing, Waiting, Shut, asked_of, is_shut, is_open, is_served}
use Rattle.zp_step.specs.Steps.{Answers, Comes, Goes, Steps, StepsOpen, queued, rests, takes}
use Rattle.zp_step.specs.declared.action.Action.{Action}
use Rattle.zp_step.specs.declared.action.Action.TheVariants as action
use Rattle.zp_step.specs.declared.input.Input.{Input}
use Rattle.zp_step.specs.declared.input.Input.TheVariants as input
use Rattle.zp_step.proofs.Shutting.{steps-open}
use Rattle.zp_step.specs.Ending.{StaysOut, asked_by, closes, ends_well, is_end}
use Rattle.zp_laws.specs.Inputs.{IsReady, takes_entries}
use Rattle.zp_laws.specs.Standing.{AreViewsOf, IsPastFrame, IsReply, Stands, StandsOpen, is_ahead}
use Rattle.zp_laws.specs.Walking.{IsAheadIn, IsAskedFor, IsStill}
use Rattle.zp_step.proofs.Ending.{goes-ends, steps_end_well}
use Rattle.zp_laws.proofs.Going.{goes-walks}
use Rattle.zp_laws.proofs.Replying.{Busy, replied-next, replied-walks}
use Rattle.zp_laws.proofs.Steps.{was-left, AtStage, at-stage, busy-at, sends_are_walks, served-open, was-done}
use Rattle.zp_laws.proofs.Strides.{ahead-now}
use Rattle.zp_laws.proofs.WalkMoves.{walk-next}

-- ---- the ask among the actions

action-tail : (out : List Action) (y x : Action) → Contains (y ∷ out) x → (y ≡ x) ⊎ Contains out x
action-tail out y x (zero, lt, e) = inl e
action-tail out y x (suc i, lt, e) = inr (i, omega (arith, lt), e)

no-more : (out : List Action) (x : Action) → is_end out ≡ true → Contains out x → ⊥
no-more [] x h (i, lt, e) = omega (arith, lt)
no-more (y ∷ out) x h t = cc

pub asked-among : (out : List Action) (a : Ask) → ends_well out ≡ true → Contains out (action.Ask a) → (asked_by out ≡ Some a) × (closes out ≡ false)
asked-among [] a h (i, lt, e) = absurd (omega (arith, lt))
asked-among (action.Send bytes ∷ more) a h t = elim (action-tail more (action.Send bytes) (action.Ask a) t) [ inl e ↦ absurd (cc) | inr r ↦ asked-among more a h r ]
asked-among (action.Ask b ∷ more) a h t = elim (action-tail more (action.Ask b) (action.Ask a) t) [ inl e ↦ (let same : b ≡ a = cc in ap Some same, refl) | inr r ↦ absurd (no-more more (action.Ask a) h r) ]
asked-among (action.Close why ∷ more) a h t = elim (action-tail more (action.Close why) (action.Ask a) t) [ inl e ↦ absurd (cc) | inr r ↦ absurd (no-more more (action.Ask a) h r) ]

pub open-is : (st : Stage) → is_shut st ≡ false → is_open st ≡ true
open-is (Unconnected fresh) h = refl
open-is (Connecting connect) h = refl
open-is Ready h = refl
open-is (KeepingAlive f) h = refl
open-is (Checking f) h = refl
open-is (Reading xid r v ws) h = refl
open-is (Committing xid r v p m) h = refl
open-is (Waiting p) h = refl
open-is Shut h = absurd (cc)

-- ---- a request that was carried out isn't asked for again

-- after a plan that succeeded the stage is another one, or the request has been answered
done-moves : (store : Store) (lines : List TranscriptLine) (conn : ℕ) (c mid c' : Core) (w : Walker) (looked now : ℕ) (r : ℤ) (parts : List ActAns) (xid : ℤ) (q : Request) (v : View) (p : Plan) (m : ℕ) (first later : List Action)
    → AtStage store lines conn c w looked (answer.Txn r true parts) (Committing xid q v p m) → CommitAnswered c xid q v p now mid first (answer.Txn r true parts) → Goes now mid c' later
    → c'.stage ≡ Committing xid q v p m → c'.next ≡ c.next → ⊥
done-moves store lines conn c mid c' w looked now r parts xid q v p m first later k h g st same = go (is_due d fin) refl (subst (λ (x : Core). Is (waits x fin) mid first) left.1 h.is)
  where
    fin : Pending
    fin = finishes xid q p r parts

    left : (xs : KeptViews) × (h.kept ≡ record c { views = xs }) × AreViewsOf store xs
    left = was-left store lines conn c c w looked now [] r parts xid q v p m k h.kept h.leaves

    d : Core
    d = record c { views = left.0 }

    reply : IsReply lines conn d.who w fin looked
    reply = was-done store lines conn c c w looked now [] r parts xid q v p m k

    b : Busy store lines conn d w
    b = busy-at store lines conn c c w looked now [] (answer.Txn r true parts) xid q v p m k left.0 left.2

    waiting-rests : (d : Core) → d.stage ≡ Waiting fin → Goes now d c' later → ⊥
    waiting-rests d e (rests why s none) = let f : Committing xid q v p m ≡ Waiting fin = sym st ∙ ap (λ (x : Core). x.stage) s ∙ e in cc
    waiting-rests d e (takes n f more x y ready w2 t g2 o) = let f2 : Ready ≡ Waiting fin = sym ready ∙ e in cc

    go : (t : Bool) → is_due d fin ≡ t → Is (if t then replied d fin else (record d { stage = Waiting fin }, [])) mid first → ⊥
    go false e i = waiting-rests mid (ap (λ (x : Core). x.stage) i.0) g
    go true e i =
        let one = replied-walks store lines conn d w fin looked b reply (IsPastFrame lines conn d.next looked) (λ q. q) e in
        let two = goes-walks store lines conn looked now (replied d fin).0 c' one.walker later k.legal one.stands (subst (λ x. Goes now x c' later) i.0 g) in
        let s : Stands store lines conn c' two.walker looked = subst (λ t. StandsOpen t store lines conn c' two.walker looked) (ap is_open st) two.stands in
        let up = walk-next lines conn c.who.session one.walker (two.strides).choices (two.walker, (two.strides).due) (two.strides).walked in
        omega (arith, up, (s.matches).next, same, (k.matches).next, replied-next store lines conn d w fin looked b reply (IsPastFrame lines conn d.next looked) (λ q. q) e)

module _ (store : Store) (lines : List TranscriptLine) (conn : ℕ) (c mid n : Core) (w : Walker) (looked now : ℕ) (first later : List Action) (g : Goes now mid n later) (s : IsStill c n) where
  still-ahead : (a : Answer) (st : Stage) → c.stage ≡ st → AtStage store lines conn c w looked a st → Answers c a now mid first st → is_ahead lines conn c.next ≡ true
  still-ahead a (Unconnected fresh) e k h = absurd h
  still-ahead a (Connecting connect) e k h = let x : false ≡ true = k.served in absurd (cc)
  still-ahead a Ready e k h = absurd h
  still-ahead a (Waiting p) e k h = absurd h
  still-ahead a Shut e k h = absurd h
  still-ahead a (KeepingAlive f) e k h = ahead-now lines 0 conn c.next k.turn k.own
  still-ahead a (Checking f) e k h = ahead-now lines 0 conn c.next k.turn k.own
  still-ahead a (Reading xid q v ws) e k h = ahead-now lines 0 conn c.next k.turn k.own
  still-ahead (answer.Txn r false parts) (Committing xid q v p m) e k h = ahead-now lines 0 conn c.next k.turn k.own
  still-ahead (answer.Txn r true parts) (Committing xid q v p m) e k h = absurd (done-moves store lines conn c mid n w looked now r parts xid q v p m first later k h g (s.0 ∙ e) s.1)
  still-ahead (answer.Alive r id ttl) (Committing xid q v p m) e k h = absurd h
  still-ahead (answer.Range r x) (Committing xid q v p m) e k h = absurd h
  still-ahead (answer.Granted r id ttl) (Committing xid q v p m) e k h = absurd h

ahead-in : (lines : List TranscriptLine) (conn : ℕ) (c : Core) (st : Stage) → is_ahead lines conn c.next ≡ true → IsAheadIn lines conn c st
ahead-in lines conn c (Waiting p) h = tt
ahead-in lines conn c (Unconnected fresh) h = tt
ahead-in lines conn c (Connecting connect) h = tt
ahead-in lines conn c Shut h = tt
ahead-in lines conn c Ready h = h
ahead-in lines conn c (KeepingAlive f) h = h
ahead-in lines conn c (Checking f) h = h
ahead-in lines conn c (Reading xid q v ws) h = h
ahead-in lines conn c (Committing xid q v p m) h = h

-- ---- an ask in a stage that stays comes of an answer alone

ready-asks : (who : Who) (st : Stage) (a : Ask) → st ≡ Ready → asked_of who st ≡ Some a → ⊥
ready-asks who st a e h = none_some (sym (ap (asked_of who) e) ∙ h)

entries-ask : (who : Who) (st : Stage) (a : Ask) → takes_entries st ≡ true → asked_of who st ≡ Some a → ⊥
entries-ask who Ready a t h = none_some h
entries-ask who (Waiting p) a t h = none_some h
entries-ask who (Unconnected fresh) a t h = cc
entries-ask who (Connecting connect) a t h = cc
entries-ask who (KeepingAlive f) a t h = cc
entries-ask who (Checking f) a t h = cc
entries-ask who (Reading xid q v ws) a t h = cc
entries-ask who (Committing xid q v p m) a t h = cc
entries-ask who Shut a t h = cc

module _ (c c' mid : Core) (now : ℕ) (first later : List Action) (a : Ask) (g : Goes now mid c' later) (still : c'.stage ≡ c.stage) (out : asked_of c'.who c'.stage ≡ Some a) (open_now : is_shut c'.stage ≡ false) (there : Contains (first ++ later) (action.Ask a)) where
  -- frames are taken up, or nothing is sent
  rested : (first ≡ []) → mid.stage ≡ c.stage → ⊥
  rested none same = elim (goes-ends now mid c' later g) [
    | inl s ↦ empty-has (first ++ later) (ap (λ l. l ++ later) none ∙ s.1) there
    | inr s ↦ ready-asks c'.who c'.stage a (still ∙ sym same ∙ s.0) out
  ]
    where
      empty-has : (l : List Action) → l ≡ [] → Contains l (action.Ask a) → ⊥
      empty-has [] e (i, lt, f) = omega (arith, lt)
      empty-has (x ∷ l) e t = cc

  shut-stays : mid.stage ≡ Shut → ⊥
  shut-stays e = elim (goes-ends now mid c' later g) [
    | inl s ↦ apart (sym (ap is_shut (ap (λ (d : Core). d.stage) s.0 ∙ e)) ∙ open_now)
    | inr s ↦ (let f : Ready ≡ Shut = sym s.0 ∙ e in cc)
  ]
    where
      apart : true ≡ false → ⊥
      apart f = cc

  queued-asks : (bytes : List ℕ) → MatchBool (has_header (read_request bytes)) (Is (queued c bytes, []) mid first) (Is (closed_by c (cause.NoHeader c.taken)) mid first) → ⊥
  queued-asks bytes h = go (has_header (read_request bytes)) h
    where
      go : (b : Bool) → MatchBool b (Is (queued c bytes, []) mid first) (Is (closed_by c (cause.NoHeader c.taken)) mid first) → ⊥
      go true i = rested i.1 (ap (λ (d : Core). d.stage) i.0)
      go false i = shut-stays (ap (λ (d : Core). d.stage) i.0)

  frame-asks : (bytes : List ℕ) (st : Stage) → is_served st ≡ true → Comes c bytes now mid first st → ⊥
  frame-asks bytes (Unconnected fresh) v h = cc
  frame-asks bytes (Connecting connect) v h = cc
  frame-asks bytes Ready v h = queued-asks bytes h
  frame-asks bytes (KeepingAlive f) v h = queued-asks bytes h
  frame-asks bytes (Checking f) v h = queued-asks bytes h
  frame-asks bytes (Reading xid q u ws) v h = queued-asks bytes h
  frame-asks bytes (Committing xid q u p m) v h = queued-asks bytes h
  frame-asks bytes (Waiting p) v h = queued-asks bytes h
  frame-asks bytes Shut v h = queued-asks bytes h

  closed-asks : (why : Cause) → Is (closed_by c why) mid first → ⊥
  closed-asks why i = shut-stays (ap (λ (d : Core). d.stage) i.0)

-- ---- the law

module _ (store : Store) (lines : List TranscriptLine) (conn : ℕ) (c c' : Core) (w : Walker) (looked now : ℕ) (out : List Action) (a : Ask) where
  asks-ahead : (x : Input) (s : StepsOpen c x now c' out) → IsReady store lines conn c w looked x → IsStill c c' → asked_of c'.who c'.stage ≡ Some a → is_shut c'.stage ≡ false → Contains out (action.Ask a) → is_ahead lines conn c.next ≡ true
  asks-ahead (input.Answer b) s k still o open_now t = still-ahead store lines conn c s.mid c' w looked now s.first s.later s.goes still b c.stage refl (at-stage store lines conn c w looked b k) s.handled
  asks-ahead (input.Frame bytes) s k still o open_now t =
      absurd (frame-asks c c' s.mid now s.first s.later a s.goes still.0 o open_now (subst (λ l. Contains l (action.Ask a)) s.joined t) bytes c.stage k.served s.handled)
  asks-ahead (input.Entry e) s k still o open_now t = absurd (entries-ask c'.who c.stage a ((k.true_input).taken) (ap (asked_of c'.who) (sym still.0) ∙ o))
  asks-ahead input.Failed s k still o open_now t = absurd (closed-asks c c' s.mid now s.first s.later a s.goes still.0 o open_now (subst (λ l. Contains l (action.Ask a)) s.joined t) cause.LinkFault s.handled)
  asks-ahead (input.BadLength place length) s k still o open_now t = absurd (closed-asks c c' s.mid now s.first s.later a s.goes still.0 o open_now (subst (λ l. Contains l (action.Ask a)) s.joined t) (cause.BadLength place length) s.handled)
  asks-ahead (input.Lagged cursor floor) s k still o open_now t = absurd (closed-asks c c' s.mid now s.first s.later a s.goes still.0 o open_now (subst (λ l. Contains l (action.Ask a)) s.joined t) (cause.Lagged cursor floor) s.handled)
  asks-ahead input.FeedClosed s k still o open_now t = absurd (closed-asks c c' s.mid now s.first s.later a s.goes still.0 o open_now (subst (λ l. Contains l (action.Ask a)) s.joined t) cause.FeedClosed s.handled)
  asks-ahead (input.ClientEnd place) s k still o open_now t = absurd (closed-asks c c' s.mid now s.first s.later a s.goes still.0 o open_now (subst (λ l. Contains l (action.Ask a)) s.joined t) (cause.ClientEnd place) s.handled)

  out-is : (x : Input) → asked_by out ≡ Some a → is_shut c'.stage ≡ false → (is_shut c'.stage ≡ true) ⊎ (asked_of c'.who c'.stage ≡ asked_by out) ⊎ StaysOut c c' x out → asked_of c'.who c'.stage ≡ Some a
  out-is x e o (inl s) = absurd (let f : false ≡ true = sym o ∙ s in cc)
  out-is x e o (inr (inl s)) = s ∙ e
  out-is x e o (inr (inr s)) = absurd (none_some (sym s.2 ∙ e))

  pub plans_are_bound : (x : Input) → IsReady store lines conn c w looked x → Steps c x now c' out → Contains out (action.Ask a) → IsAskedFor store lines conn c c' looked a
  plans_are_bound x k h t =
      let e = steps_end_well c c' x now out (served-open c.stage k.served) h in
      let q = asked-among out a e.well t in
      let open_now : is_shut c'.stage ≡ false = sym e.closes ∙ q.1 in
      let s = sends_are_walks store lines conn c c' w looked now x out k h in
      let o = out-is x q.0 open_now e.asks in
      record {
        out = o;
        walker = s.walker;
        stands = subst (λ b. StandsOpen b store lines conn c' s.walker looked) (open-is c'.stage open_now) s.stands;
        ahead = elim s.ahead [
          | inr y ↦ y
          | inl still ↦ ahead-in lines conn c' c'.stage (subst (λ n. is_ahead lines conn n ≡ true) (sym still.1) (asks-ahead x (steps-open c c' x now out (served-open c.stage k.served) h) k still o open_now t))
        ];
      }
