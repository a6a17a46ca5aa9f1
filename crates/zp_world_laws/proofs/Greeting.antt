-- The world after the answer to a connection without a session.
use Rattle.std.proofs.lemmas.List.Elements.{Contains-append_right}
use Rattle.ev_types.specs.declared.answer.Answer.{Answer}
use Rattle.ev_types.specs.declared.ask.Ask.{Ask}
use Rattle.std.proofs.Common.{List, [], ap, append-nil, append_assoc, arith, false, inl, inr, length, pos, refl, subst, sym, true, ℕ, ℤ, ◌++◌, ◌+◌, ◌<◌, ◌∙◌, ◌∷◌, ◌≡◌, ◌≤◌}
use Rattle.std.proofs.lemmas.Option.{slice_get_within}
use Rattle.std.specs.List.{list_all}
use Rattle.std.specs.Prelude.{None, Option, Some, if◌then◌else◌, option_and_then, ◌&&◌, ◌==◌, ◌≤ℤ◌, ◌⊎◌}
use Rattle.zk_jute.specs.Connects.{read_connect}
use Rattle.zk_jute.specs.Packets.{connect_packet}
use Rattle.zk_model.specs.Limits.{max_long}
use Rattle.zk_model.specs.declared.connect.ConnectRequest.{ConnectRequest}
use Rattle.zk_transcript.proofs.Lookups.{first_shown-place}
use Rattle.zk_transcript.specs.Conversations.{IsInConnection}
use Rattle.zk_service.specs.Answers.{answered_read_only, may_refuse, refusal, welcome}
use Rattle.zk_service.specs.States.{Session}
use Rattle.zk_transcript.specs.History.{after, frame_shown, state_at}
use Rattle.zk_transcript.specs.Legal.{attach_of, is_legal}
use Rattle.zk_transcript.specs.Walks.{at_start, packets_from, placed_frame}
use Rattle.zk_service.specs.declared.cause.Cause.TheVariants as cause
use Rattle.zk_service.specs.declared.cause.Cause.{Cause}
use Rattle.zk_service.specs.declared.cause.Ended.TheVariants as ended
use Rattle.zk_transcript.specs.declared.transcript.TranscriptLine.TheVariants.{Close, Send, Update}
use Rattle.zk_transcript.specs.declared.transcript.TranscriptLine.{TranscriptLine}
use Rattle.zk_service.specs.declared.update.UpdateKind.{UpdateKind}
use Rattle.zn_view.specs.declared.plan.Who.{Who}
use Rattle.zp_script.specs.Handing.{Handed}
use Rattle.zp_script.specs.Kinds.{kind_asked}
use Rattle.zp_step.specs.Kinds.{kind_of_connect}
use Rattle.zp_script.specs.StepOutcomes.{StepOutcome, acts_all, ends, leaves, left_by, quiet}
use Rattle.zp_script.specs.Worlds.{Closed, Conn, Connection, World, after_step, is_closed_actor, with_conn}
use Rattle.zp_script.specs.declared.flight.Asking.{Asking}
use Rattle.zp_script.specs.declared.flight.Flight.TheVariants.{Carried, Out}
use Rattle.zp_laws.proofs.Asking.{open-is}
use Rattle.zp_step.proofs.ConnectAsks.{same-ask}
use Rattle.zp_step.proofs.Ending.{steps_end_well}
use Rattle.zp_laws.proofs.Going.{goes-walks}
use Rattle.zp_laws.proofs.WalkMoves.{walk-next}
use Rattle.zp_laws.proofs.Welcoming.{welcomed-stands}
use Rattle.zp_step.specs.Ending.{EndsWell, StaysOut, asked_by, sends}
use Rattle.zp_laws.specs.Frames.{AreFrames}
use Rattle.zp_step.specs.Stages.{is_served, Connecting, Core, Ready, Shut, asked_of, is_shut}
use Rattle.zp_laws.specs.Standing.{IsFreshLook, StandsOpen}
use Rattle.zp_laws.specs.Walking.{IsAheadIn, IsStill, Walks}
use Rattle.zp_laws.specs.Welcomes.{IsAttachment}
use Rattle.zp_step.proofs.Shutting.{goes-still, steps-open}
use Rattle.zp_step.specs.Connects.{Connects, attached_core, connected, kept_by}
use Rattle.zp_step.specs.Replies.{Is, closed_by}
use Rattle.zp_step.specs.Steps.{Answers, Goes, StepsOpen}
use Rattle.zp_step.specs.declared.action.Action.TheVariants as action
use Rattle.zp_step.specs.declared.action.Action.{Action}
use Rattle.zp_step.specs.declared.input.Input.TheVariants as input
use Rattle.zp_step.specs.declared.input.Input.{Input}
use Rattle.zp_world_laws.proofs.Acting.{Acts, is_own, leaves-acts, one-own}
use Rattle.zp_world_laws.proofs.Actions.{Split, said, said-packets, said-speech, split, split-sends}
use Rattle.zp_world_laws.proofs.Carrying.{one}
use Rattle.zp_world_laws.proofs.Closing.{But, but-of, ends-whole, with_lines}
use Rattle.zp_world_laws.proofs.Connecting.{IsAwaiting, connect-bound, connect-is}
use Rattle.zp_world_laws.proofs.Executing.{precedes-self}
use Rattle.zp_world_laws.proofs.Handing.{GoesOn, core-same, goes-on-whole, served-at}
use Rattle.zp_world_laws.proofs.Knowing.{AreAside, rests-push, close-last}
use Rattle.zp_world_laws.proofs.Packets.{packets-append}
use Rattle.zp_world_laws.proofs.Setting.{lone, sets-whole}
use Rattle.zp_world_laws.proofs.Speaking.{all-quiet, speaks-but}
use Rattle.zp_world_laws.proofs.Stepping.{closing-acts, counts-on, handed-acts}
use Rattle.zp_world_laws.proofs.Talking.{talks-first}
use Rattle.zp_world_laws.proofs.Welcoming.{LeadsTo, ahead, attached, goes_on, leads-to, taken, unknown}
use Rattle.zp_world_laws.proofs.Within.{within-close, within-first, within-refusal, within-same}
use Rattle.zp_world_laws.specs.Bounds.{IsBoundAsk, attachment}
use Rattle.zp_world_laws.specs.Connecting.{IsConnectAnswer, IsConnecting, IsOwnSession, IsUntouched, RestsOn}
use Rattle.zp_world_laws.specs.Connections.{Whole}
use Rattle.zp_world_laws.specs.Counting.{HasFrames}
use Rattle.zp_world_laws.specs.Holding.{Source, Talks, air, asker_in, made_for, out_in, out_of}
use Rattle.zp_world_laws.specs.Knowing.{IsKnownAs}
use Rattle.zs_session.specs.Connecting.{asked_in_phase}
use Rattle.zs_session.specs.declared.connect.Connect.{Connect}
use Rattle.zs_session.specs.declared.connect.ConnectStep.{ConnectStep}
use Rattle.zs_session.specs.declared.connect.Phase.TheVariants.{Attaching, Creating, Granting, Keeping, Looking, LookingAgain, Over, Unasked}
use Rattle.zs_session.specs.declared.connect.Phase.{Phase}
use Rattle.zx_base.proofs.Options.{none_some, some_is}
use Rattle.zx_base.proofs.Booleans.{and-both as both-true, same-test as same-nat, true-not_false as true-false}

-- ---- the step

-- the answer is the welcome to this session
welcome-is : (r : ConnectRequest) (id timeout : ℤ) (passwd : List ℕ) (s : Session) → s.timeout ≡ timeout → s.passwd ≡ passwd → connect_packet (record { timeout = timeout; session = id; passwd = passwd; read_only = answered_read_only r }) ≡ connect_packet (welcome r id s)
welcome-is r id timeout passwd s t p =
    ap (λ y. connect_packet (record { timeout = y; session = id; passwd = passwd; read_only = answered_read_only r })) (sym t)
    ∙ ap (λ y. connect_packet (record { timeout = s.timeout; session = id; passwd = y; read_only = answered_read_only r })) (sym p)

-- the connect goes on in this phase
abbrev pub in_phase : Connect → Phase → Connect
in_phase x p = record { request = x.request; fresh = x.fresh; phase = p }

abbrev pub asking_core : Core → ℕ → Connect → Core
asking_core core kept x = record core { stage = Connecting x; kept = kept }

pub first-packet : (c n : ℕ) (bytes : List ℕ) (ps : List (List ℕ)) → packets_from c n (said c (bytes ∷ ps)) ≡ (n, bytes) ∷ packets_from c (n + 1) (said c ps)
first-packet c n bytes ps = ap (λ b. if b then (n, bytes) ∷ packets_from c (n + 1) (said c ps) else packets_from c (n + 1) (said c ps)) (same-nat c)

-- ---- it asks

-- the connect of a connection to which nothing was sent, and the frames after it
pub record IsConnectAt (lines : List TranscriptLine) (c : ℕ) (core : Core) (x : Connect) : Type 0 where
  pub untouched : IsUntouched lines c x.fresh
  pub next : core.next ≡ 1
  pub waiting : AreFrames lines c 1 core.waiting
  pub place : ℕ
  pub bytes : List ℕ
  pub framed : placed_frame c 0 lines ≡ Some (place, bytes)
  pub reads : read_connect bytes ≡ Some x.request

module _ (w w' : World) (c : ℕ) (rest : List TranscriptLine) (i : Input) (hd : Handed c rest w i w') (x : Connect) (core : Core) (h : Whole w) (k : IsConnectAt w.lines c core x)
    (frames : is_shut hd.next.stage ≡ false → (more : List TranscriptLine) → AreAside more c → HasFrames (w.lines ++ more) c hd.conn.frames hd.next) where
  pub asks-acts : (p : Phase) (kept : ℕ) (q : Ask) → asked_in_phase x p ≡ Some q → RestsOn w.store (after w.lines).zxid x.request p → attach_of c w.lines ≡ None → hd.next ≡ asking_core core kept (in_phase x p) → hd.out ≡ action.Ask q ∷ [] → Acts w w' c
  asks-acts p kept q asked rests none next out = leaves-acts w w' c hd.conn (Connection d) o hd.found is refl (subst Whole (sym plain) whole) known (within-same w.lines c)
    where
      d : Core
      d = asking_core core kept (in_phase x p)

      z : Asking
      z = record { ask = q; kind = kind_of_connect c (in_phase x p) p }

      v : Conn
      v = record (hd.conn) { actor = Connection (asking_core core kept (in_phase x p)); flight = Some (Out (record { ask = q; kind = kind_of_connect c (in_phase x p) p })) }

      o : StepOutcome
      o = record { flight = Some (Out (record { ask = q; kind = kind_of_connect c (in_phase x p) p })); lines = []; strays = [] }

      is : w' ≡ leaves c w hd.conn (Connection (asking_core core kept (in_phase x p))) (record { flight = Some (Out (record { ask = q; kind = kind_of_connect c (in_phase x p) p })); lines = []; strays = [] })
      is = hd.result ∙ ap (λ l. leaves c w hd.conn (after_step hd.next) (acts_all c (kind_asked c (Connection hd.next)) rest hd.conn.flight l)) out
          ∙ ap (λ (e : Core). leaves c w hd.conn (after_step e) (acts_all c (kind_asked c (Connection e)) rest hd.conn.flight (action.Ask q ∷ []))) next

      plain : w' ≡ with_conn w c (record (hd.conn) { actor = Connection (asking_core core kept (in_phase x p)); flight = Some (Out (record { ask = q; kind = kind_of_connect c (in_phase x p) p })) })
      plain = is ∙ ap (λ l. record (with_conn w c (record (hd.conn) { actor = Connection (asking_core core kept (in_phase x p)); flight = Some (Out (record { ask = q; kind = kind_of_connect c (in_phase x p) p })) })) { lines = l; strays = w.strays ++ [] }) (append-nil w.lines)
          ∙ ap (λ l. record (with_conn w c (record (hd.conn) { actor = Connection (asking_core core kept (in_phase x p)); flight = Some (Out (record { ask = q; kind = kind_of_connect c (in_phase x p) p })) })) { strays = l }) (append-nil w.strays)

      awaiting : IsAwaiting w.store w.lines c (in_phase x p)
      awaiting =
          let f = first_shown-place (frame_shown c 0) 0 w.lines (k.place, k.bytes) k.framed in
          record { untouched = k.untouched; unattached = none; bytes = k.bytes; framed = f; small = h.small c 0 k.bytes f; reads = k.reads; serves = (h.holds).serves }

      out-same : (y u : Asking) → Some (Out y) ≡ Some (Out u) → y ≡ u
      out-same y u e = cc

      attaches-c : (kind : Option UpdateKind) (e : ℕ) (ph : Phase) → kind ≡ kind_of_connect c (in_phase x p) ph → option_and_then made_for kind ≡ Some e → e ≡ c
      attaches-c kind e Creating f g = sym (some_is (ap (option_and_then made_for) (sym f) ∙ g))
      attaches-c kind e (Attaching seen life) f g = sym (some_is (ap (option_and_then made_for) (sym f) ∙ g))
      attaches-c kind e Unasked f g = absurd (none_some (ap (option_and_then made_for) (sym f) ∙ g))
      attaches-c kind e Looking f g = absurd (none_some (ap (option_and_then made_for) (sym f) ∙ g))
      attaches-c kind e Granting f g = absurd (none_some (ap (option_and_then made_for) (sym f) ∙ g))
      attaches-c kind e (Keeping seen life) f g = absurd (none_some (ap (option_and_then made_for) (sym f) ∙ g))
      attaches-c kind e LookingAgain f g = absurd (none_some (ap (option_and_then made_for) (sym f) ∙ g))
      attaches-c kind e Over f g = absurd (none_some (ap (option_and_then made_for) (sym f) ∙ g))

      whole : Whole (with_conn w c (record (hd.conn) { actor = Connection (asking_core core kept (in_phase x p)); flight = Some (Out (record { ask = q; kind = kind_of_connect c (in_phase x p) p })) }))
      whole = sets-whole w c hd.conn (record (hd.conn) { actor = Connection (asking_core core kept (in_phase x p)); flight = Some (Out (record { ask = q; kind = kind_of_connect c (in_phase x p) p })) }) (record {
        but = but-of w c h;
        there = hd.found;
        opens = ap is_closed_actor hd.serving;
        unshut = λ e f. ap (λ (u : Core). is_shut u.stage) (sym (core-same (asking_core core kept (in_phase x p)) e f));
        serves = λ e f s. absurd (true-false (sym (ap (λ (u : Core). is_served u.stage) (core-same (asking_core core kept (in_phase x p)) e f) ∙ s)));
        bound = λ y e. subst (IsBoundAsk w.store w.lines) (out-same (record { ask = q; kind = kind_of_connect c (in_phase x p) p }) y e) (connect-bound w.store w.lines c (in_phase x p) awaiting p q rests (same-ask x p x.phase p ∙ asked));
        own = λ y e f g. attaches-c y.kind e p (ap (λ (u : Asking). u.kind) (sym (out-same (record { ask = q; kind = kind_of_connect c (in_phase x p) p }) y f))) g;
        heard = λ m b e. absurd (none_some (sym none ∙ e));
      })

      known : IsKnownAs w.store (w.lines ++ []) c (record (hd.conn) { actor = Connection (asking_core core kept (in_phase x p)); flight = Some (Out (record { ask = q; kind = kind_of_connect c (in_phase x p) p })) }) (Connection (asking_core core kept (in_phase x p)))
      known = subst (λ l. IsKnownAs w.store l c (record (hd.conn) { actor = Connection (asking_core core kept (in_phase x p)); flight = Some (Out (record { ask = q; kind = kind_of_connect c (in_phase x p) p })) }) (Connection (asking_core core kept (in_phase x p)))) (sym (append-nil w.lines)) (
        subst (λ l. HasFrames l c hd.conn.frames (asking_core core kept (in_phase x p))) (append-nil w.lines) (subst (HasFrames (w.lines ++ []) c hd.conn.frames) next (frames (ap (λ (e : Core). is_shut e.stage) next) [] (record { opens = refl; closes = λ j. refl; frames = λ i j. refl }))),
        record {
          untouched = k.untouched;
          next = k.next;
          waiting = k.waiting;
          place = k.place;
          bytes = k.bytes;
          framed = k.framed;
          reads = k.reads;
          flies = record { asked = same-ask x p x.phase p ∙ asked; kind = refl; rests = rests; unattached = none };
        },
      )

-- ---- the answer comes

module _ (w w' : World) (c : ℕ) (a : Answer) (hd : Handed c [] w (input.Answer a) w') (x : Connect) (connecting : hd.core.stage ≡ Connecting x) (h : Whole w) (nothing_out : hd.conn.flight ≡ None) (n : HasFrames w.lines c hd.conn.frames hd.core)
    (k : IsConnecting w.store w.lines c hd.core x (Some (Carried a))) where
  opens : is_shut hd.core.stage ≡ false
  opens = ap is_shut connecting

  alive : is_closed_actor hd.conn.actor ≡ false
  alive = ap is_closed_actor hd.serving

  frames : is_shut hd.next.stage ≡ false → (more : List TranscriptLine) → AreAside more c → HasFrames (w.lines ++ more) c hd.conn.frames hd.next
  frames going more aside = counts-on w.lines more c hd.conn.frames hd.core hd.next (input.Answer a) w.clock hd.out opens hd.stepped n.numbered (omega (arith, n.came)) n.most n.lined aside going

  free : (o : Source) (y : Asking) → air w o ≡ Some y → asker_in y ≡ one c → ⊥
  free o y e f =
      let is = lone w c hd.conn h.own h.left hd.found alive o y e f in
      none_some (sym (ap out_of hd.found ∙ ap out_in nothing_out) ∙ ap (air w) (sym is) ∙ e)

  -- ---- it ends, and is told nothing

  closes : (why : Cause) → hd.next.stage ≡ Shut → hd.out ≡ action.Close why ∷ [] → Acts w w' c
  closes why shut out = closing-acts w w' c [] (input.Answer a) why ((after w.lines).zxid) hd (ap is_shut shut) out refl tt (but-of w c h)

  -- ---- its resume is refused

  refuses : (packet : List ℕ) (why : Cause) → packet ≡ connect_packet (refusal x.request) → (m : ℕ) → k.place < m → m ≤ length w.lines → may_refuse x.request (state_at w.lines m) ≡ true → attach_of c w.lines ≡ None → hd.next.stage ≡ Shut → hd.out ≡ action.Send packet ∷ action.Close why ∷ [] → Acts w w' c
  refuses packet why packet_is m after_it before_now may none shut out = leaves-acts w w' c hd.conn Closed (record { flight = None; lines = Send c packet ∷ Close c (ended.Cause why) ∷ []; strays = left_by hd.conn.flight }) hd.found is own whole (ended.Cause why, Contains-append_right w.lines (Send c packet ∷ Close c (ended.Cause why) ∷ []) (Close c (ended.Cause why)) (close-last (Send c packet ∷ []) c (ended.Cause why))) within
    where
      within : IsInConnection w.lines c → IsInConnection (w.lines ++ (Send c packet ∷ Close c (ended.Cause why) ∷ [])) c
      within q = subst (λ l. IsInConnection l c) (append_assoc w.lines (Send c packet ∷ []) (Close c (ended.Cause why) ∷ [])) (within-close (w.lines ++ Send c packet ∷ []) c (ended.Cause why)
          (within-refusal w.lines c hd.conn.frames (packet ∷ []) n.lined (length w.lines, packet) (k.place, k.bytes) x.request m none (packets-append c w.lines (Send c packet ∷ []) ∙ ap (λ l. l ++ packets_from c (length w.lines) (Send c packet ∷ [])) (k.untouched).silent ∙ first-packet c (length w.lines) packet []) k.framed
          (connect-is w.lines c k.bytes x.request (first_shown-place (frame_shown c 0) 0 w.lines (k.place, k.bytes) k.framed) k.reads) after_it before_now before_now may packet_is))

      is : w' ≡ leaves c w hd.conn Closed (record { flight = None; lines = Send c packet ∷ Close c (ended.Cause why) ∷ []; strays = left_by hd.conn.flight })
      is = hd.result ∙ ap (λ l. leaves c w hd.conn (after_step hd.next) (acts_all c (kind_asked c (Connection hd.next)) [] hd.conn.flight l)) out
          ∙ ap (λ b. leaves c w hd.conn (if b then Closed else Connection hd.next) (record { flight = None; lines = Send c packet ∷ Close c (ended.Cause why) ∷ []; strays = left_by hd.conn.flight })) (ap is_shut shut)

      own : list_all (is_own c) (Send c packet ∷ Close c (ended.Cause why) ∷ []) ≡ true
      own = both-true (c == c) ((c == c) && true) (same-nat c) (one-own c)

      but1 : But (with_lines w (Send c packet ∷ [])) c
      but1 = speaks-but w c (Send c packet ∷ []) (but-of w c h) (record { speech = said-speech c (packet ∷ []); talked = λ m b e. absurd (none_some (sym none ∙ e)); free = free })

      whole : Whole w'
      whole =
          let e : w' ≡ leaves c (with_lines w (Send c packet ∷ [])) hd.conn Closed (ends c [] (ended.Cause why) (quiet hd.conn.flight)) =
          is ∙ ap (λ l. record (with_conn w c (record (hd.conn) { actor = Closed; flight = None })) { lines = l; strays = w.strays ++ left_by hd.conn.flight }) (sym (append_assoc w.lines (Send c packet ∷ []) (Close c (ended.Cause why) ∷ []))) in
          subst Whole (sym e) (ends-whole (with_lines w (Send c packet ∷ [])) c hd.conn ((after (w.lines ++ Send c packet ∷ [])).zxid) [] (ended.Cause why) hd.found refl tt but1)

  -- ---- it is welcomed

  welcomes : (packet : List ℕ) (who : Who) (timeout number zxid : ℤ) (id t : ℤ) (passwd : List ℕ) → (own : IsOwnSession w.lines c id t passwd zxid number) → who ≡ record { session = id; mine = zxid } → packet ≡ connect_packet (welcome x.request id own.session) → (later : List Action) → hd.out ≡ action.Send packet ∷ later
      → Goes w.clock (attached_core hd.core who timeout number zxid) hd.next later → Acts w w' c
  welcomes packet who timeout number zxid id t passwd own who_is packet_is later out goes =
      handed-acts w w' c [] (input.Answer a) ((after w.lines).zxid) hd end tt (goes-on-whole w w' c [] (input.Answer a) hd (but-of w c h) nothing_out parts (sym end.closes) on ((after w.lines).zxid) refl tt) frames served says
    where
      end : EndsWell hd.core hd.next (input.Answer a) hd.out
      end = steps_end_well hd.core hd.next (input.Answer a) w.clock hd.out opens hd.stepped

      parts : Split hd.out
      parts = split hd.out end.well

      legal : is_legal w.lines ≡ true
      legal = ((h.holds).serves).legal

      at : IsAttachment w.lines c hd.core number zxid own.place
      at = record { legal = ((h.holds).serves).legal; update = own.update; shown = own.shown; same = own.same; counted = own.counted; next = k.next; waiting = k.waiting; turn = (k.untouched).turn }

      walks : Walks w.store w.lines c (IsFreshLook w.lines c false (attached_core hd.core who timeout number zxid) 0) (attached_core hd.core who timeout number zxid) hd.next (at_start zxid (own.place + 1)) 0 later
      walks = goes-walks w.store w.lines c 0 w.clock (attached_core hd.core who timeout number zxid) hd.next (at_start zxid (own.place + 1)) later legal (welcomed-stands w.store w.lines c hd.core who timeout number zxid own.place 0 at) goes

      -- nothing was looked up before the session was there
      fresh : IsFreshLook w.lines c false (attached_core hd.core who timeout number zxid) 0
      fresh e = absurd (cc)

      spoken : parts.packets ≡ packet ∷ sends later
      spoken = sym (split-sends hd.out parts) ∙ ap sends out

      begins : packets_from c (length w.lines) (said c parts.packets) ≡ (length w.lines, packet) ∷ packets_from c (length w.lines + 1) (said c (sends later))
      begins = ap (λ ps. packets_from c (length w.lines) (said c ps)) spoken ∙ first-packet c (length w.lines) packet (sends later)

      asks-then : is_shut hd.next.stage ≡ false → asked_of hd.next.who hd.next.stage ≡ asked_by hd.out
      asks-then going = go end.asks
        where
          go : (is_shut hd.next.stage ≡ true) ⊎ (asked_of hd.next.who hd.next.stage ≡ asked_by hd.out) ⊎ StaysOut hd.core hd.next (input.Answer a) hd.out → asked_of hd.next.who hd.next.stage ≡ asked_by hd.out
          go (inl f) = absurd (true-false (sym f ∙ going))
          go (inr (inl f)) = f
          go (inr (inr f)) = absurd (true-false f.0)

      ahead-then : (q : Ask) → asked_of hd.next.who hd.next.stage ≡ Some q → IsAheadIn w.lines c hd.next hd.next.stage
      ahead-then q e = go walks.ahead
        where
          go : IsStill (attached_core hd.core who timeout number zxid) hd.next ⊎ IsAheadIn w.lines c hd.next hd.next.stage → IsAheadIn w.lines c hd.next hd.next.stage
          go (inr f) = f
          go (inl f) = absurd (none_some (sym (ap (asked_of hd.next.who) f.0) ∙ e))

      served : is_shut hd.next.stage ≡ false → is_served hd.next.stage ≡ true
      served going = served-at w.store w.lines c hd.next walks.walker 0 hd.next.stage going (subst (λ b. StandsOpen b w.store w.lines c hd.next walks.walker 0) (open-is hd.next.stage going) walks.stands).knows

      says : IsInConnection w.lines c → IsInConnection (w.lines ++ said c (sends hd.out)) c
      says q = within-first w.lines c hd.conn.frames (sends hd.out) n.lined (own.place, record { zxid = zxid; session = id }) (length w.lines, packet) (packets_from c (length w.lines + 1) (said c (sends later))) x.request own.session own.attached
          (packets-append c w.lines (said c (sends hd.out)) ∙ ap (λ l. l ++ packets_from c (length w.lines) (said c (sends hd.out))) (k.untouched).silent ∙ ap (λ ps. packets_from c (length w.lines) (said c ps)) (ap sends out) ∙ first-packet c (length w.lines) packet (sends later))
          (connect-is w.lines c k.bytes x.request (first_shown-place (frame_shown c 0) 0 w.lines (k.place, k.bytes) k.framed) k.reads) own.there (slice_get_within w.lines own.place (Update own.update) own.shown) (slice_get_within w.lines own.place (Update own.update) own.shown) packet_is

      on : GoesOn w c hd.next hd.out (said c parts.packets)
      on = record {
        place = own.place;
        who = who;
        attached = own.attached ∙ ap (λ (y : Who). Some (own.place, attachment y)) (sym who_is);
        least = subst (λ (y : Who). pos 1 ≤ℤ y.session) (sym who_is) own.least;
        most = subst (λ (y : Who). y.session ≤ℤ max_long) (sym who_is) own.most;
        rises = subst (λ (y : Who). pos 1 ≤ℤ y.mine) (sym who_is) own.rises;
        same_who = walks.who;
        walker = walks.walker;
        since = walk-next w.lines c who.session (at_start zxid (own.place + 1)) (walks.strides).choices (walks.walker, (walks.strides).due) (walks.strides).walked;
        talks = subst (λ (y : ℤ). Talks (w.lines ++ said c parts.packets) c own.place (record { zxid = y; session = who.session }) walks.walker) (sym (ap (λ (y : Who). y.mine) who_is))
            (talks-first w.lines (said c parts.packets) c own.place (record { zxid = zxid; session = who.session }) walks.walker (length w.lines, packet) (packets_from c (length w.lines + 1) (said c (sends later))) (walks.strides).choices (walks.strides).due
            (k.untouched).silent begins (all-quiet c (said c parts.packets) (said-speech c parts.packets)) (walks.strides).walked ((walks.strides).sent ∙ sym (said-packets c (length w.lines + 1) (sends later))) (walks.strides).small ((walks.strides).fresh fresh) (walks.strides).in_turn);
        looked = 0;
        stands = walks.stands;
        fresh = walks.looks fresh;
        asks = λ q going asked there. (let e = asks-then going ∙ asked in (e, ahead-then q e));
        rests = λ going none. asks-then going ∙ none;
        first = (length w.lines, packet);
        packets_were = packets_from c (length w.lines + 1) (said c (sends later));
        welcomed = packets-append c w.lines (said c parts.packets) ∙ ap (λ l. l ++ packets_from c (length w.lines) (said c parts.packets)) (k.untouched).silent ∙ begins;
      }

  -- ---- by the step

  s : StepsOpen hd.core (input.Answer a) w.clock hd.next hd.out
  s = steps-open hd.core hd.next (input.Answer a) w.clock hd.out opens hd.stepped

  handled : Connects hd.core x (Some a) w.clock s.mid s.first
  handled = subst (Answers hd.core a w.clock s.mid s.first) connecting s.handled

  still : (d : Core) (first : List Action) → s.mid ≡ d → s.first ≡ first → (d.stage ≡ Ready → ⊥) → (hd.next ≡ d) × (hd.out ≡ first)
  still d first e f unready =
      let g = goes-still w.clock s.mid hd.next s.later (λ r. unready (ap (λ (y : Core). y.stage) (sym e) ∙ r)) s.goes in
      (g.0 ∙ e, s.joined ∙ ap (λ l. s.first ++ l) g.1 ∙ append-nil s.first ∙ f)

  shut-by : (why : Cause) → Is (closed_by hd.core why) s.mid s.first → Acts w w' c
  shut-by why i = let t = still (record (hd.core) { stage = Shut }) (action.Close why ∷ []) i.0 i.1 (λ e. absurd (cc)) in closes why (ap (λ (y : Core). y.stage) t.0) t.1

  flown : IsConnectAnswer w.store w.lines c k.place x a
  flown = k.flies

  by-step : (p : Phase) (step : ConnectStep) → LeadsTo w.store w.lines c (state_at w.lines flown.looked) x p step → Is (connected hd.core w.clock (in_phase x p) step) s.mid s.first → Acts w w' c
  by-step p _ (goes_on q asked rests none) i =
      let kept = kept_by w.clock hd.core.kept q in
      let t = still (asking_core hd.core kept (in_phase x p)) (action.Ask q ∷ []) i.0 i.1 (λ e. absurd (cc)) in
      asks-acts w w' c [] (input.Answer a) hd x hd.core h (record { untouched = k.untouched; next = k.next; waiting = k.waiting; place = k.place; bytes = k.bytes; framed = k.framed; reads = k.reads }) frames p kept q asked (rests-push w.store w.store (state_at w.lines flown.looked).zxid (after w.lines).zxid x.request p (precedes-self w.store) flown.risen rests) none t.0 t.1
  by-step p _ (ahead client head) i = shut-by (cause.ZxidAhead client head) i
  by-step p _ (taken r) i = shut-by (cause.Taken r) i
  by-step p _ (unknown none refused) i =
      let t = still (record (hd.core) { stage = Shut }) (action.Send (connect_packet (refusal x.request)) ∷ action.Close cause.Unknown ∷ []) i.0 i.1 (λ e. absurd (cc)) in
      refuses (connect_packet (refusal x.request)) cause.Unknown refl flown.looked flown.passed flown.within refused none (ap (λ (y : Core). y.stage) t.0) t.1
  by-step p _ (attached id timeout passwd zxid number own) i =
      welcomes (connect_packet (record { timeout = timeout; session = id; passwd = passwd; read_only = answered_read_only x.request })) (record { session = id; mine = zxid }) timeout number zxid id timeout passwd own refl (welcome-is x.request id timeout passwd own.session own.timeout_is own.passwd_is) s.later
      (s.joined ∙ ap (λ l. l ++ s.later) i.1) (subst (λ (y : Core). Goes w.clock y hd.next s.later) i.0 s.goes)

  pub greeted-acts : Acts w w' c
  greeted-acts = go handled
    where
      go : Connects hd.core x (Some a) w.clock s.mid s.first → Acts w w' c
      go (inl e) = shut-by (cause.Damaged e.key e.value) e.is
      go (inr t) = by-step t.new.phase t.step (leads-to w.store w.lines c k.place x a flown t.new.phase t.step (t.steps).moves) (subst (λ (y : Connect). Is (connected hd.core w.clock y t.step) s.mid s.first) (t.steps).same t.is)
