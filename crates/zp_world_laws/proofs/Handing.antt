-- An open connection of which nothing may still be carried out takes an input, and its conversation goes on by what it sends: the
-- world after its step is whole.
use Rattle.ev_types.specs.Store.{Store}
use Rattle.ev_types.specs.declared.ask.Ask.{Ask}
use Rattle.std.proofs.Common.{Bool, List, [], ap, append-nil, append_assoc, arith, false, inl, inr, length, pos, refl, subst, sym, true, ℕ, ℤ, ◌++◌, ◌+◌, ◌∙◌, ◌∷◌, ◌≡◌, ◌≤◌}
use Rattle.std.proofs.lemmas.List.Elements.{Contains-append_right}
use Rattle.std.specs.List.{list_all}
use Rattle.std.specs.Ordering.{int_eq}
use Rattle.std.specs.Prelude.{Contains, None, Option, Some, if◌then◌else◌, map, not, ◌||◌, ◌≤ℤ◌, ◌⊎◌}
use Rattle.zk_model.specs.Limits.{max_long}
use Rattle.zk_transcript.specs.History.{after}
use Rattle.zk_transcript.specs.Legal.{Attachment, attach_of, is_legal}
use Rattle.zk_transcript.specs.Walks.{Due, Walker, at_start, packets, packets_from}
use Rattle.zk_service.specs.declared.cause.Ended.TheVariants as ended
use Rattle.zk_transcript.specs.declared.transcript.TranscriptLine.TheVariants.{Close}
use Rattle.zk_transcript.specs.declared.transcript.TranscriptLine.{TranscriptLine}
use Rattle.zn_view.specs.declared.plan.Who.{Who}
use Rattle.zp_script.specs.Handing.{Handed}
use Rattle.zp_script.specs.Kinds.{kind_asked}
use Rattle.zp_step.specs.Kinds.{kind_in_stage}
use Rattle.zp_script.specs.StepOutcomes.{ends, leaves, left_by, quiet}
use Rattle.zp_script.specs.Worlds.{Actor, Closed, Conn, Connection, World, after_step, is_closed_actor, with_conn}
use Rattle.zp_script.specs.declared.flight.Asking.{Asking}
use Rattle.zp_script.specs.declared.flight.Flight.TheVariants.{Out}
use Rattle.zp_script.specs.declared.flight.Flight.{Flight}
use Rattle.zp_laws.proofs.Asking.{open-is, plans_are_bound}
use Rattle.zp_step.proofs.Ending.{steps_end_well}
use Rattle.zp_laws.proofs.Growing.{look-push, stands-push}
use Rattle.zp_laws.proofs.Steps.{sends_are_walks, served-open}
use Rattle.zp_laws.proofs.WalkMoves.{walk-next}
use Rattle.zp_step.specs.Ending.{EndsWell, StaysOut, asked_by, closes, takes_out}
use Rattle.zp_step.specs.Stages.{is_open, is_served, Checking, Committing, Connecting, Core, KeepingAlive, Reading, Ready, Shut, Stage, Unconnected, Waiting, asked_of, is_shut}
use Rattle.zp_laws.specs.Inputs.{IsReady, IsTrueInput, is_answer}
use Rattle.zp_laws.specs.Standing.{IsFreshLook, Knows, Stands, StandsOpen, has_looked, is_ahead}
use Rattle.zp_laws.specs.Walking.{IsAheadIn, Walks}
use Rattle.zp_step.specs.declared.action.Action.TheVariants as action
use Rattle.zp_step.specs.declared.action.Action.{Action}
use Rattle.zp_step.specs.declared.input.Input.{Input}
use Rattle.zp_world_laws.proofs.Actions.{Asks, Closes, Rests, Split, Tail, actions, asked_in, is_closing, is_speech, said, said-packets, said-speech, split, split-asked, split-closes, split-outcome, split-sends, tail_outcome}
use Rattle.zp_world_laws.proofs.Asking.{IsOwner, asked-ahead, asked-bound, asked-index, asked-own}
use Rattle.zp_world_laws.proofs.Carrying.{one}
use Rattle.zp_world_laws.proofs.Closing.{AreShown, But, ends-whole, with_lines}
use Rattle.zp_world_laws.proofs.Executing.{precedes-self}
use Rattle.zp_world_laws.proofs.Packets.{packets-append}
use Rattle.zp_world_laws.proofs.Setting.{IsHeardAs, lone, sets-whole}
use Rattle.zp_world_laws.proofs.Speaking.{HasTalked, ahead-speech, all-quiet, attach-speech, own-speech, speaks-but, speech-zxid}
use Rattle.zp_world_laws.proofs.Talking.{talks-more}
use Rattle.zp_world_laws.specs.Bounds.{IsBoundAsk, attachment}
use Rattle.zp_world_laws.specs.Connections.{IsFlying, IsOut, IsServingConn, Whole, is_carried}
use Rattle.zp_world_laws.specs.Holding.{Source, Talks, air, asker_in, out_in, out_of, request_in}
use Rattle.zx_base.proofs.Options.{none_some, some_is}

-- an open stage at which a core stands is attached
pub served-at : (s : Store) (lines : List TranscriptLine) (c : ℕ) (core : Core) (w : Walker) (looked : ℕ) (st : Stage) → is_shut st ≡ false → Knows s lines c core w looked st → is_served st ≡ true
served-at s lines c core w looked (Unconnected f) h k = absurd k
served-at s lines c core w looked (Connecting ph) h k = absurd k
served-at s lines c core w looked Shut h k = absurd (cc)
served-at s lines c core w looked Ready h k = refl
served-at s lines c core w looked (KeepingAlive f) h k = refl
served-at s lines c core w looked (Checking f) h k = refl
served-at s lines c core w looked (Reading xid r v ws) h k = refl
served-at s lines c core w looked (Committing xid r v p m) h k = refl
served-at s lines c core w looked (Waiting p) h k = refl

ready-ahead : (s : Store) (lines : List TranscriptLine) (c : ℕ) (core : Core) (w : Walker) (looked : ℕ) → core.stage ≡ Ready → Knows s lines c core w looked core.stage → is_ahead lines c core.next ≡ true
ready-ahead s lines c core w looked r k = let q : Knows s lines c core w looked Ready = subst (Knows s lines c core w looked) r k in q

pub core-same : (p q : Core) → Connection p ≡ Connection q → p ≡ q
core-same p q e = cc

none-stays : (w w' : Who) (st : Stage) → w' ≡ w → asked_of w st ≡ None → asked_of w' st ≡ None
none-stays w w' st e h = ap (λ q. asked_of q st) e ∙ h

-- What a step sends goes on with the connection's conversation, or begins it; the core stands where that leads, and what the step
-- asks is what is out then. These packets are what it sends.
pub record GoesOn (w : World) (c : ℕ) (next : Core) (out : List Action) (ls : List TranscriptLine) : Type 0 where
  pub place : ℕ
  pub who : Who
  pub attached : attach_of c w.lines ≡ Some (place, attachment who)
  pub least : pos 1 ≤ℤ who.session
  pub most : who.session ≤ℤ max_long
  pub rises : pos 1 ≤ℤ who.mine
  pub same_who : next.who ≡ who
  pub walker : Walker
  pub since : 1 ≤ walker.next
  pub talks : Talks (w.lines ++ ls) c place (attachment who) walker
  pub looked : ℕ
  pub stands : StandsOpen (is_open next.stage) w.store w.lines c next walker looked
  pub fresh : IsFreshLook w.lines c false next looked
  pub asks : (a : Ask) → is_shut next.stage ≡ false → asked_by out ≡ Some a → Contains out (action.Ask a) → (asked_of next.who next.stage ≡ Some a) × IsAheadIn w.lines c next next.stage
  pub rests : is_shut next.stage ≡ false → asked_by out ≡ None → asked_of next.who next.stage ≡ None
  pub first : Due
  pub packets_were : List Due
  pub welcomed : packets c (w.lines ++ ls) ≡ first ∷ packets_were

module _ (w w' : World) (c : ℕ) (rest : List TranscriptLine) (i : Input) (hd : Handed c rest w i w') (but : But w c) (nothing_out : hd.conn.flight ≡ None) (parts : Split hd.out) (shut_is : is_shut hd.next.stage ≡ closes hd.out)
    (g : GoesOn w c hd.next hd.out (said c parts.packets)) where
  legal : is_legal w.lines ≡ true
  legal = ((but.holds).serves).legal

  ls : List TranscriptLine
  ls = said c parts.packets

  speech : list_all (is_speech c) ls ≡ true
  unfolding ls
  speech = said-speech c parts.packets

  opens : is_closed_actor hd.conn.actor ≡ false
  opens = ap is_closed_actor hd.serving

  talks : Talks (w.lines ++ ls) c g.place (attachment g.who) g.walker
  unfolding ls
  talks = g.talks

  welcomed : packets c (w.lines ++ ls) ≡ g.first ∷ g.packets_were
  unfolding ls
  welcomed = g.welcomed

  free : (o : Source) (a : Asking) → air w o ≡ Some a → asker_in a ≡ one c → ⊥
  free o a e f =
      let is = lone w c hd.conn but.own but.left hd.found opens o a e f in
      none_some (sym (ap out_of hd.found ∙ ap out_in nothing_out) ∙ ap (air w) (sym is) ∙ e)

  talked : (k : ℕ) (a : Attachment) → attach_of c w.lines ≡ Some (k, a) → HasTalked (w.lines ++ ls) c k a
  talked k a e =
      let same : ◌≡◌ {A = ℕ × Attachment} (g.place, attachment g.who) (k, a) = some_is (sym g.attached ∙ e) in
      subst (λ (q : ℕ × Attachment). HasTalked (w.lines ++ ls) c q.0 q.1) same (record { walker = g.walker; talks = talks })

  but1 : But (with_lines w ls) c
  but1 = speaks-but w c ls but (record { speech = speech; talked = talked; free = free })

  shut-is : is_shut hd.next.stage ≡ is_closing parts.tail
  shut-is = shut_is ∙ split-closes hd.out parts

  outcome-is : w' ≡ leaves c w hd.conn (after_step hd.next) (tail_outcome c (kind_asked c (Connection hd.next)) rest hd.conn.flight ls parts.tail)
  unfolding ls
  outcome-is = hd.result ∙ ap (leaves c w hd.conn (after_step hd.next)) (split-outcome c (kind_asked c (Connection hd.next)) rest hd.conn.flight hd.out parts)

  -- ---- it goes on

  module _ (going : is_shut hd.next.stage ≡ false) where
    stands : Stands w.store w.lines c hd.next g.walker g.looked
    stands = subst (λ b. StandsOpen b w.store w.lines c hd.next g.walker g.looked) (open-is hd.next.stage going) g.stands

    served : is_served hd.next.stage ≡ true
    served = served-at w.store w.lines c hd.next g.walker g.looked hd.next.stage going stands.knows

    stands1 : Stands w.store (w.lines ++ ls) c hd.next g.walker g.looked
    stands1 = stands-push w.store w.store w.lines ls c hd.next g.walker g.looked (record {
      legal = legal;
      still_legal = ((but1.holds).serves).legal;
      before = precedes-self w.store;
      own = λ p e. own-speech c c hd.next.next w.lines ls speech;
      turn = ahead-speech c c (hd.next.next + 1) w.lines ls speech stands.turn;
      ahead = λ e. ahead-speech c c hd.next.next w.lines ls speech (ready-ahead w.store w.lines c hd.next g.walker g.looked e stands.knows);
    }) stands

    serving-with : (f : Option Flight) → is_carried f ≡ false → IsFlying w.store (w.lines ++ ls) c hd.next g.walker g.looked f → IsServingConn w.store (w.lines ++ ls) c hd.next f
    serving-with f unanswered flies = record {
      place = g.place;
      attached = attach-speech c c w.lines ls speech ∙ g.attached ∙ ap (λ (q : Who). Some (g.place, attachment q)) (sym g.same_who);
      least = subst (λ (q : Who). pos 1 ≤ℤ q.session) (sym g.same_who) g.least;
      most = subst (λ (q : Who). q.session ≤ℤ max_long) (sym g.same_who) g.most;
      rises = subst (λ (q : Who). pos 1 ≤ℤ q.mine) (sym g.same_who) g.rises;
      walker = g.walker;
      talks = subst (λ (q : Who). Talks (w.lines ++ ls) c g.place (attachment q) g.walker) (sym g.same_who) talks;
      looked = g.looked;
      stands = stands1;
      flies = flies;
      fresh = look-push w.store w.lines ls c (is_carried f) hd.next g.walker g.looked stands (subst (λ b. IsFreshLook w.lines c b hd.next g.looked) (sym unanswered) g.fresh);
      first = g.first;
      packets_were = g.packets_were;
      welcomed = welcomed;
    }

    owner : IsOwner (w.lines ++ ls) c hd.next.who
    owner = record {
      place = g.place;
      attached = attach-speech c c w.lines ls speech ∙ g.attached ∙ ap (λ (q : Who). Some (g.place, attachment q)) (sym g.same_who);
      least = subst (λ (q : Who). pos 1 ≤ℤ q.session) (sym g.same_who) g.least;
      most = subst (λ (q : Who). q.session ≤ℤ max_long) (sym g.same_who) g.most;
      rises = subst (λ (q : Who). pos 1 ≤ℤ q.mine) (sym g.same_who) g.rises;
      small = but1.small c;
    }

    set : (f : Option Flight) → is_carried f ≡ false → IsFlying w.store (w.lines ++ ls) c hd.next g.walker g.looked f → ((a : Asking) → f ≡ Some (Out a) → IsOut (w.lines ++ ls) c hd.next a) → Whole (with_conn (with_lines w ls) c (record (hd.conn) { actor = Connection hd.next; flight = f }))
    set f unanswered flies out = sets-whole (with_lines w ls) c hd.conn (record (hd.conn) { actor = Connection hd.next; flight = f }) (record {
      but = but1;
      there = hd.found;
      opens = opens;
      unshut = λ core a. ap (λ (k : Core). is_shut k.stage) (sym (core-same hd.next core a)) ∙ going;
      serves = λ core a s. subst (λ k. IsServingConn w.store (w.lines ++ ls) c k f) (core-same hd.next core a) (serving-with f unanswered flies);
      bound = λ a e. (let o = out a e in subst (λ q. IsBoundAsk w.store (w.lines ++ ls) (record { ask = a.ask; kind = q })) (sym o.kind)
          (asked-bound w.store (w.lines ++ ls) c hd.next g.walker g.looked a.ask owner least served stands1.work stands1.knows o.asked));
      own = λ a d e g. asked-own c hd.next d served (ap (λ q. asker_in (record { ask = a.ask; kind = q })) (sym (out a e).kind) ∙ g);
      heard = λ p a e. heard p a e;
    })
      where
        least : 1 ≤ hd.next.next
        least = omega (arith, g.since, (stands.matches).next)

        heard : (p : ℕ) (a : Attachment) → attach_of c (w.lines ++ ls) ≡ Some (p, a) → IsHeardAs (with_lines w ls) c (record (hd.conn) { actor = Connection hd.next; flight = f }) p a
        heard p a e =
            let same : ◌≡◌ {A = ℕ × Attachment} (g.place, attachment g.who) (p, a) = some_is (sym (attach-speech c c w.lines ls speech ∙ g.attached) ∙ e) in
            subst (λ (q : ℕ × Attachment). IsHeardAs (with_lines w ls) c (record (hd.conn) { actor = Connection hd.next; flight = f }) q.0 q.1) same (record {
              walker = g.walker;
              talks = talks;
              ahead = λ x j g h. (let o = out x g in let n = asked-index c hd.next c j served (ap (λ q. request_in (record { ask = x.ask; kind = q })) (sym o.kind) ∙ h) in record {
                unanswered = omega (arith, (stands.matches).next, n);
                follows = subst (λ m. is_ahead (w.lines ++ ls) c m ≡ true) n o.ahead;
              });
            })

  open-after : is_shut hd.next.stage ≡ false → after_step hd.next ≡ Connection hd.next
  open-after e = ap (λ b. if b then Closed else Connection hd.next) e

  shut-after : is_shut hd.next.stage ≡ true → after_step hd.next ≡ Closed
  shut-after e = ap (λ b. if b then Closed else Connection hd.next) e

  asks-out : is_shut hd.next.stage ≡ false → (a : Ask) → asked_by hd.out ≡ Some a → Contains hd.out (action.Ask a) → IsOut (w.lines ++ ls) c hd.next (record { ask = a; kind = kind_in_stage c hd.next hd.next.stage })
  asks-out going a asked there =
      let p = g.asks a going asked there in
      record { asked = p.0; kind = refl; ahead = ahead-speech c c hd.next.next w.lines ls speech (asked-ahead w.lines c hd.next a (served going) p.0 p.1) }

  pub goes-on-whole : (z : ℤ) → z ≡ (after w.lines).zxid → AreShown c z rest → Whole w'
  goes-on-whole z last shown = go parts.tail refl
    where
      v : Actor → Option Flight → Conn
      v a f = record (hd.conn) { actor = a; flight = f }

      joined : (f : Option Flight) → record (with_conn w c (v (Connection hd.next) f)) { lines = w.lines ++ ls; strays = w.strays ++ [] } ≡ with_conn (with_lines w ls) c (v (Connection hd.next) f)
      joined f = ap (λ s. record (with_conn w c (v (Connection hd.next) f)) { lines = w.lines ++ ls; strays = s }) (append-nil w.strays)

      go : (t : Tail) → parts.tail ≡ t → Whole w'
      go Rests e =
          let going : is_shut hd.next.stage ≡ false = shut-is ∙ ap is_closing e in
          let is : w' ≡ with_conn (with_lines w ls) c (v (Connection hd.next) hd.conn.flight) =
          outcome-is ∙ ap (λ t. leaves c w hd.conn (after_step hd.next) (tail_outcome c (kind_asked c (Connection hd.next)) rest hd.conn.flight ls t)) e
          ∙ ap (λ a. leaves c w hd.conn a (record { flight = hd.conn.flight; lines = ls; strays = [] })) (open-after going) ∙ joined hd.conn.flight in
          subst Whole (sym is) (set going hd.conn.flight (ap is_carried nothing_out) (subst (IsFlying w.store (w.lines ++ ls) c hd.next g.walker g.looked) (sym nothing_out) (g.rests going (split-asked hd.out parts ∙ ap asked_in e)))
          (λ a f. absurd (none_some (sym nothing_out ∙ f))))
      go (Asks a) e =
          let going : is_shut hd.next.stage ≡ false = shut-is ∙ ap is_closing e in
          let there : Contains hd.out (action.Ask a) = subst (λ l. Contains l (action.Ask a)) (sym (parts.is ∙ ap (λ t. map (λ (b : List ℕ). action.Send b) parts.packets ++ actions t) e)) (Contains-append_right (map (λ (b : List ℕ). action.Send b) parts.packets) (action.Ask a ∷ []) (action.Ask a) (one-there a)) in
          let o = asks-out going a (split-asked hd.out parts ∙ ap asked_in e) there in
          let f : Option Flight = Some (Out (record { ask = a; kind = kind_in_stage c hd.next hd.next.stage })) in
          let is : w' ≡ with_conn (with_lines w ls) c (v (Connection hd.next) f) =
          outcome-is ∙ ap (λ t. leaves c w hd.conn (after_step hd.next) (tail_outcome c (kind_asked c (Connection hd.next)) rest hd.conn.flight ls t)) e
          ∙ ap (λ b. leaves c w hd.conn b (record { flight = f; lines = ls; strays = [] })) (open-after going) ∙ joined f in
          subst Whole (sym is) (set going f refl o (λ x e. subst (IsOut (w.lines ++ ls) c hd.next) (out-same _ x e) o))
        where
          one-there : (b : Ask) → Contains (action.Ask b ∷ []) (action.Ask b)
          one-there b = (0, omega arith, refl)

          out-same : (x y : Asking) → Some (Out x) ≡ Some (Out y) → x ≡ y
          out-same x y g = cc
      go (Closes why) e =
          let gone : is_shut hd.next.stage ≡ true = shut-is ∙ ap is_closing e in
          let is : w' ≡ leaves c (with_lines w ls) hd.conn Closed (ends c rest (ended.Cause why) (quiet hd.conn.flight)) =
          outcome-is ∙ ap (λ t. leaves c w hd.conn (after_step hd.next) (tail_outcome c (kind_asked c (Connection hd.next)) rest hd.conn.flight ls t)) e
          ∙ ap (λ b. leaves c w hd.conn b (record { flight = None; lines = ls ++ rest ++ Close c (ended.Cause why) ∷ []; strays = left_by hd.conn.flight })) (shut-after gone)
          ∙ ap (λ l. record (with_conn w c (v Closed None)) { lines = l; strays = w.strays ++ left_by hd.conn.flight }) (sym (append_assoc w.lines ls (rest ++ Close c (ended.Cause why) ∷ []) ∙ ap (λ l. w.lines ++ l) (sym (append_assoc ls rest (Close c (ended.Cause why) ∷ []))))) in
          subst Whole (sym is) (ends-whole (with_lines w ls) c hd.conn z rest (ended.Cause why) hd.found (last ∙ sym still-zxid) shown but1)
        where
          still-zxid : (after (w.lines ++ ls)).zxid ≡ (after w.lines).zxid
          still-zxid = speech-zxid c w.lines ls speech

-- ---- an attached connection whose input is true

-- where an answer is there nothing less was seen
looks-more : (st : Stage) (a b : Bool) → (a ≡ true → b ≡ true) → has_looked a st ≡ true → has_looked b st ≡ true
looks-more (Checking f) a b h e = h e
looks-more (Committing xid r v p m) a b h e = h e
looks-more (Reading xid r v ws) a b h e = either-more a b (not (int_eq v.revision (pos 0))) h e
  where
    either-more : (x y z : Bool) → (x ≡ true → y ≡ true) → (x || z) ≡ true → (y || z) ≡ true
    either-more true y z f g = ap (λ t. t || z) (f refl)
    either-more false true z f g = refl
    either-more false false z f g = g
looks-more (Waiting p) a b h e = refl
looks-more Ready a b h e = absurd (cc)
looks-more (Unconnected f) a b h e = absurd (cc)
looks-more (Connecting ph) a b h e = absurd (cc)
looks-more (KeepingAlive f) a b h e = absurd (cc)
looks-more Shut a b h e = absurd (cc)

-- what is known of it; its ask has landed
pub record IsReadyFor (w : World) (c : ℕ) (conn : Conn) (core : Core) (i : Input) : Type 0 where
  pub but : But w c
  pub nothing_out : conn.flight ≡ None
  pub served : is_served core.stage ≡ true
  pub flight : Option Flight
  pub serves : IsServingConn w.store w.lines c core flight
  pub true_input : IsTrueInput w.store w.lines c core serves.walker serves.looked i
  -- an input that is no answer finds nothing out
  pub idle : takes_out i ≡ false → asked_of core.who core.stage ≡ None
  -- an answer is the one that was carried out
  pub answers : is_answer i ≡ true → is_carried flight ≡ true

module _ (w w' : World) (c : ℕ) (rest : List TranscriptLine) (i : Input) (hd : Handed c rest w i w') (r : IsReadyFor w c hd.conn hd.core i) where
  ready : IsReady w.store w.lines c hd.core (r.serves).walker (r.serves).looked i
  ready = record { legal = (((r.but).holds).serves).legal; least = (r.serves).least; most = (r.serves).most; rises = (r.serves).rises; served = r.served; stands = (r.serves).stands; true_input = r.true_input }

  end : EndsWell hd.core hd.next i hd.out
  end = steps_end_well hd.core hd.next i w.clock hd.out (served-open hd.core.stage r.served) hd.stepped

  walks : Walks w.store w.lines c (IsFreshLook w.lines c (is_answer i) hd.core (r.serves).looked) hd.core hd.next (r.serves).walker (r.serves).looked hd.out
  walks = sends_are_walks w.store w.lines c hd.core hd.next (r.serves).walker (r.serves).looked w.clock i hd.out ready hd.stepped

  fresh : IsFreshLook w.lines c (is_answer i) hd.core (r.serves).looked
  fresh e = (r.serves).fresh (looks-more hd.core.stage (is_answer i) (is_carried r.flight) r.answers e)

  sends-on : Split hd.out
  sends-on = split hd.out end.well

  -- where the step asked nothing, nothing is out
  rests-none : is_shut hd.next.stage ≡ false → asked_by hd.out ≡ None → asked_of hd.next.who hd.next.stage ≡ None
  rests-none going none = go end.asks
    where
      go : (is_shut hd.next.stage ≡ true) ⊎ (asked_of hd.next.who hd.next.stage ≡ asked_by hd.out) ⊎ StaysOut hd.core hd.next i hd.out → asked_of hd.next.who hd.next.stage ≡ None
      go (inl f) = let n : false ≡ true = sym going ∙ f in absurd (cc)
      go (inr (inl f)) = f ∙ none
      go (inr (inr f)) = ap (λ st. asked_of hd.next.who st) f.1 ∙ none-stays hd.core.who hd.next.who hd.core.stage walks.who (r.idle f.0)

  since : 1 ≤ walks.walker.next
  since =
      let t = (r.serves).talks in
      let a = walk-next w.lines c hd.core.who.session (at_start hd.core.who.mine ((r.serves).place + 1)) t.choices ((r.serves).walker, t.due) t.walked in
      let b = walk-next w.lines c hd.core.who.session (r.serves).walker (walks.strides).choices (walks.walker, (walks.strides).due) (walks.strides).walked in
      omega (arith, a, b)

  on : GoesOn w c hd.next hd.out (said c sends-on.packets)
  on = record {
    place = (r.serves).place;
    who = hd.core.who;
    attached = (r.serves).attached;
    least = (r.serves).least;
    most = (r.serves).most;
    rises = (r.serves).rises;
    same_who = walks.who;
    walker = walks.walker;
    since = since;
    talks = talks-more w.lines (said c sends-on.packets) c (r.serves).place (attachment hd.core.who) (r.serves).walker walks.walker (r.serves).first (r.serves).packets_were (walks.strides).choices (walks.strides).due (r.serves).talks (r.serves).welcomed
        (all-quiet c (said c sends-on.packets) (said-speech c sends-on.packets)) (walks.strides).walked ((walks.strides).sent ∙ split-sends hd.out sends-on ∙ sym (said-packets c (length w.lines) sends-on.packets)) (walks.strides).small ((walks.strides).fresh fresh) (walks.strides).in_turn;
    looked = (r.serves).looked;
    stands = walks.stands;
    fresh = walks.looks fresh;
    asks = λ a going asked there. (let p = plans_are_bound w.store w.lines c hd.core hd.next (r.serves).walker (r.serves).looked w.clock hd.out a i ready hd.stepped there in (p.out, p.ahead));
    rests = rests-none;
    first = (r.serves).first;
    packets_were = (r.serves).packets_were ++ packets_from c (length w.lines) (said c sends-on.packets);
    welcomed = packets-append c w.lines (said c sends-on.packets) ∙ ap (λ l. l ++ packets_from c (length w.lines) (said c sends-on.packets)) (r.serves).welcomed;
  }

  pub handed-whole : (z : ℤ) → z ≡ (after w.lines).zxid → AreShown c z rest → Whole w'
  handed-whole z last shown = goes-on-whole w w' c rest i hd r.but r.nothing_out sends-on (sym end.closes) on z last shown

  -- where it stays open it is attached still
  pub stays-served : is_shut hd.next.stage ≡ false → is_served hd.next.stage ≡ true
  stays-served going = served-at w.store w.lines c hd.next walks.walker (r.serves).looked hd.next.stage going (subst (λ b. StandsOpen b w.store w.lines c hd.next walks.walker (r.serves).looked) (open-is hd.next.stage going) walks.stands).knows
