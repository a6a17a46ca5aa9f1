-- A connection without a session takes the answer to its ask: it asks on, it ends, or it is welcomed.
use Rattle.ev_types.specs.Denials.{carry}
use Rattle.ev_types.specs.Store.{Store, present, store_at}
use Rattle.ev_types.specs.declared.answer.ActAns.{ActAns}
use Rattle.ev_types.specs.declared.answer.Answer.TheVariants as answer
use Rattle.ev_types.specs.declared.answer.Answer.{Answer}
use Rattle.ev_types.specs.declared.ask.Ask.TheVariants as ask
use Rattle.ev_types.specs.declared.ask.Ask.{Ask}
use Rattle.std.proofs.Common.{Bool, List, [], ap, arith, false, inl, inr, length, pos, refl, subst, sym, true, ℕ, ℤ, ◌∙◌, ◌∷◌, ◌≡◌, ◌≤◌}
use Rattle.std.proofs.lemmas.Bool.Decides.{Decides-int_eq}
use Rattle.std.proofs.lemmas.Int.{ints}
use Rattle.std.specs.Ordering.{int_eq}
use Rattle.std.specs.Prelude.{Contains, MatchBool, None, Some, if◌then◌else◌, int_lt, ◌<ℤ◌, ◌≤ℤ◌}
use Rattle.zk_model.specs.declared.connect.ConnectRequest.{ConnectRequest}
use Rattle.zk_model.specs.declared.reply.Reply.TheVariants as reply
use Rattle.zk_service.specs.Answers.{answered_read_only, may_refuse}
use Rattle.zk_service.specs.States.{IsSound, State}
use Rattle.zk_transcript.specs.History.{state_at}
use Rattle.zk_transcript.specs.Legal.{attach_of}
use Rattle.zk_transcript.specs.declared.transcript.TranscriptLine.{TranscriptLine}
use Rattle.zn_layout.specs.Changes.{update_acts}
use Rattle.zn_layout.specs.Keys.{HeadKey, key_bytes}
use Rattle.zn_layout.specs.StandsFor.{StandsFor, at}
use Rattle.zn_layout.specs.declared.record.LeaseRec.{LeaseRec}
use Rattle.zn_view.proofs.LastUpdate.{last_update-told}
use Rattle.zn_view.proofs.SeenAfter.{wanted-shown}
use Rattle.zn_view.proofs.Showing.{again-shown, first-shown}
use Rattle.zn_view.specs.Asks.{head_want, reading}
use Rattle.zn_view.specs.Needs.{key_want}
use Rattle.zn_view.specs.Seen.{View, empty_view, head_of, head_zxid, seen}
use Rattle.zn_view.specs.Views.{Agrees}
use Rattle.zn_view.specs.declared.plan.Plan.{Plan}
use Rattle.zn_view.specs.declared.want.Want.{Want}
use Rattle.zp_laws.proofs.Parts.{wanted-seen}
use Rattle.zp_laws.proofs.Revisions.{seen-any}
use Rattle.zp_world_laws.proofs.Knowing.{rests-push}
use Rattle.zp_world_laws.proofs.Refusing.{again-parts, may-be-refused}
use Rattle.zp_world_laws.specs.Connecting.{HasOwnLine, IsConnectAnswer, IsOwnSession, IsSeenLife, RestsOn}
use Rattle.zs_session.specs.Answering.{viewed}
use Rattle.zs_session.specs.Connecting.{ConnectAnswers, Attached, Created, ConnectEnds, Kept, ConnectLooked, ConnectLooksFirst, Resumes, SawMine, Waits, asked_in_phase, is_taken, number_shown, timeout_in}
use Rattle.zs_session.specs.Sessions.{attach_changes, attach_guards, attach_txn, attach_wants, first_wants, life_key, session_wants}
use Rattle.zs_session.specs.declared.connect.Connect.{Connect}
use Rattle.zs_session.specs.declared.connect.ConnectStep.TheVariants as steps
use Rattle.zs_session.specs.declared.connect.ConnectStep.{ConnectStep}
use Rattle.zs_session.specs.declared.connect.Phase.TheVariants.{Attaching, Creating, Granting, Keeping, Looking, LookingAgain, Over, Unasked}
use Rattle.zs_session.specs.declared.connect.Phase.{Phase}
use Rattle.zx_base.proofs.Options.{none_some, some_is}
use Rattle.zx_base.proofs.Booleans.{either}

-- ---- what an answer leads to

-- the next ask and what it rests on; or an end, of which the client is told where its resume is refused; or the welcome
pub data LeadsTo (store : Store) (lines : List TranscriptLine) (c : ℕ) (s : State) (x : Connect) (phase : Phase) : ConnectStep → Type 0 where
  goes_on : (q : Ask) (asked : asked_in_phase x phase ≡ Some q) (rests : RestsOn store s.zxid x.request phase) (none : attach_of c lines ≡ None) → LeadsTo store lines c s x phase (steps.Ask q)
  ahead : (client head : ℤ) → LeadsTo store lines c s x phase (steps.Ahead client head)
  taken : (r : ℤ) → LeadsTo store lines c s x phase (steps.Taken r)
  unknown : (none : attach_of c lines ≡ None) (refused : may_refuse x.request s ≡ true) → LeadsTo store lines c s x phase steps.Unknown
  attached : (id timeout : ℤ) (passwd : List ℕ) (zxid number : ℤ) (own : IsOwnSession lines c id timeout passwd zxid number)
      → LeadsTo store lines c s x phase (steps.Attached (record { timeout = timeout; session = id; passwd = passwd; read_only = answered_read_only x.request }) (record { session = id; mine = zxid }) timeout number zxid)

-- a look at keys that stood for a state
pub record IsLookAt (store : Store) (s : State) (v : View) : Type 0 where
  pub number : ℕ
  pub known : number ≤ length store.revisions
  pub stands : StandsFor (store_at store number) s
  pub agrees : Agrees v (store_at store number)

module _ (store : Store) (lines : List TranscriptLine) (c : ℕ) (s : State) (x : Connect) (phase : Phase) (none : attach_of c lines ≡ None) where
  waits-on : (next : Phase) (step : ConnectStep) (q : Ask) → asked_in_phase x next ≡ Some q → RestsOn store s.zxid x.request next → Waits x next phase step → LeadsTo store lines c s x phase step
  waits-on next (steps.Ask a) q e r (p, same) = goes_on a (ap (asked_in_phase x) p ∙ sym same) (subst (RestsOn store s.zxid x.request) (sym p) r) none
  waits-on next (steps.Attached response who timeout number zxid) q e r (p, same) = absurd (none_some (same ∙ e))
  waits-on next (steps.Ahead client head) q e r (p, same) = absurd (none_some (same ∙ e))
  waits-on next steps.Unknown q e r (p, same) = absurd (none_some (same ∙ e))
  waits-on next (steps.Taken rev) q e r (p, same) = absurd (none_some (same ∙ e))

  ends-so : (step end : ConnectStep) → LeadsTo store lines c s x phase end → ConnectEnds end phase step → LeadsTo store lines c s x phase step
  ends-so step end h (p, same) = subst (LeadsTo store lines c s x phase) (sym same) h

module _ (store : Store) (lines : List TranscriptLine) (c : ℕ) (s : State) (x : Connect) (v : View) (look : IsLookAt store s v) (sound : IsSound s) (looked : pos 1 ≤ℤ x.request.session → seen v (key_bytes (life_key x.request.session)) ≡ None → ⊥) (phase : Phase) (step : ConnectStep) (none : attach_of c lines ≡ None) where
  saw-life : (seen : ℤ) (life : LeaseRec) → SawMine x.request v seen life → IsSeenLife store x.request seen life
  saw-life seen life m =
      let a = m.saw in
      let there : at (store_at store look.number) (life_key x.request.session) ≡ Some a.kv = elim (seen-any (store_at store look.number) v.keys (key_bytes (life_key x.request.session)) (look.agrees).keys) [
        | inl none_seen ↦ absurd (none_some (sym none_seen ∙ a.shown))
        | inr saw ↦ some_is (sym saw ∙ a.shown)
      ] in
      let least = ((look.stands).layout).least (key_bytes (life_key x.request.session)) a.kv there in
      record {
        session = m.session;
        put = subst (λ y. pos 1 ≤ℤ y) (sym a.revision) least;
        within = (a.value).0;
        passwd = m.passwd;
        was = record { number = look.number; known = look.known; kv = a.kv; there = there; put = sym a.revision; value = (a.value).1 };
      }

  pub resumes-to : int_eq x.request.session (pos 0) ≡ false → x.request.last_zxid ≤ℤ s.zxid → (next : ℤ → LeaseRec → Phase) → ((seen : ℤ) (life : LeaseRec) → IsSeenLife store x.request seen life → RestsOn store s.zxid x.request (next seen life)) → ((seen : ℤ) (life : LeaseRec) → (q : Ask) × (asked_in_phase x (next seen life) ≡ Some q))
      → Resumes x v next phase step → LeadsTo store lines c s x phase step
  resumes-to some past next rests asks (inl gone) = ends-so store lines c s x phase none step steps.Unknown (unknown none (may-be-refused x.request s v (store_at store look.number) sound look.stands look.agrees looked gone.0 some past)) gone.1
  resumes-to some past next rests asks (inr (seen, life, mine, waits)) = let q = asks seen life in waits-on store lines c s x phase none (next seen life) step q.0 q.1 (rests seen life (saw-life seen life mine)) waits

  -- the head that was seen is that of the state
  pub looks-to : (seen v (key_bytes HeadKey) ≡ None → ⊥) → ConnectLooksFirst x v phase step → LeadsTo store lines c s x phase step
  looks-to there h = go (int_lt (head_zxid (head_of v)) x.request.last_zxid) refl h
    where
      told : head_zxid (head_of v) ≡ s.zxid
      told = (last_update-told v (store_at store look.number) s look.stands look.agrees there).0

      not-less : (a b : ℤ) → int_lt a b ≡ false → b ≤ℤ a
      not-less a b e = grind (arith, ints, e)

      zero-is : int_eq x.request.session (pos 0) ≡ true → x.request.session ≡ pos 0
      zero-is e = (Decides-int_eq x.request.session (pos 0)).0 e

      by-session : (b : Bool) → int_eq x.request.session (pos 0) ≡ b → x.request.last_zxid ≤ℤ s.zxid → MatchBool b (Waits x Granting phase step) (Resumes x v Keeping phase step) → LeadsTo store lines c s x phase step
      by-session true e past k = waits-on store lines c s x phase none Granting step _ refl (zero-is e, past) k
      by-session false e past k = resumes-to e past Keeping (λ seen life saw. (saw, past)) (λ seen life. (ask.Alive x.request.session, refl)) k

      go : (b : Bool) → int_lt (head_zxid (head_of v)) x.request.last_zxid ≡ b
          → MatchBool b (ConnectEnds (steps.Ahead x.request.last_zxid (head_zxid (head_of v))) phase step) (MatchBool (int_eq x.request.session (pos 0)) (Waits x Granting phase step) (Resumes x v Keeping phase step)) → LeadsTo store lines c s x phase step
      go true e k = ends-so store lines c s x phase none step (steps.Ahead x.request.last_zxid (head_zxid (head_of v))) (ahead x.request.last_zxid (head_zxid (head_of v))) k
      go false e k = by-session (int_eq x.request.session (pos 0)) refl (subst (λ y. x.request.last_zxid ≤ℤ y) told (not-less (head_zxid (head_of v)) x.request.last_zxid e)) k

-- ---- by the phase

head-wanted : (r : ConnectRequest) → Contains (first_wants r) (key_want HeadKey)
head-wanted r = go (int_lt r.session (pos 1))
  where
    go : (b : Bool) → Contains (if b then head_want ∷ [] else attach_wants r.session) (key_want HeadKey)
    go true = (0, omega arith, refl)
    go false = (1, omega arith, refl)

-- and the session's life, where it may have one
life-wanted : (r : ConnectRequest) → pos 1 ≤ℤ r.session → Contains (first_wants r) (key_want (life_key r.session))
life-wanted r least = go (int_lt r.session (pos 1)) refl
  where
    go : (b : Bool) → int_lt r.session (pos 1) ≡ b → Contains (if b then head_want ∷ [] else attach_wants r.session) (key_want (life_key r.session))
    go true e = let less : r.session <ℤ pos 1 = grind (arith, ints, e) in absurd (omega (arith, ints, less, least))
    go false e = (0, omega arith, refl)

above-zero : (z : ℤ) → pos 1 ≤ℤ z → int_eq z (pos 0) ≡ false
above-zero z h = go (int_eq z (pos 0)) refl
  where
    go : (b : Bool) → int_eq z (pos 0) ≡ b → b ≡ false
    go false e = refl
    go true e = let zero : z ≡ pos 0 = (Decides-int_eq z (pos 0)).0 e in absurd (omega (arith, ints, zero, h))

module _ (store : Store) (lines : List TranscriptLine) (c place : ℕ) (x : Connect) (r : ℤ) (b : Bool) (parts : List ActAns) (k : IsConnectAnswer store lines c place x (answer.Txn r b parts)) where
  s : State
  s = state_at lines k.looked

  at-then : (v : View) → Agrees v (present k.then_store) → IsLookAt store (state_at lines k.looked) v
  at-then v agrees = record {
    number = length (k.then_store).revisions;
    known = (k.is).longer;
    stands = subst (λ m. StandsFor m (state_at lines k.looked)) (sym ((k.is).same (length (k.then_store).revisions) (omega arith))) k.stands;
    agrees = subst (Agrees v) (sym ((k.is).same (length (k.then_store).revisions) (omega arith))) agrees;
  }

  read-look : (ws : List Want) → k.asked ≡ reading (pos 0) ws → IsLookAt store (state_at lines k.looked) (viewed r ws parts)
  read-look ws e =
      let first = first-shown k.before k.then_store ws r b parts (ap (carry k.before) (sym e) ∙ k.carried_out) in
      at-then (viewed r ws parts) (subst (λ (t : Store). Agrees (viewed r ws parts) (present t)) (sym (first.1).same) (first.1).agrees)

  asks-in : (p : Phase) (q : Ask) → x.phase ≡ p → asked_in_phase x p ≡ Some q → k.asked ≡ q
  asks-in p q e is = some_is (sym k.out ∙ ap (asked_in_phase x) e ∙ is)

  rests-in : (p : Phase) → x.phase ≡ p → RestsOn store (state_at lines k.looked).zxid x.request p
  rests-in p e = subst (RestsOn store (state_at lines k.looked).zxid x.request) e (rests-push k.then_store store (state_at lines k.looked).zxid (state_at lines k.looked).zxid x.request x.phase k.is (omega (arith, ints)) k.rests)

  own-in : (p : Phase) → x.phase ≡ p → HasOwnLine lines c x p (answer.Txn r b parts)
  own-in p e = subst (λ q. HasOwnLine lines c x q (answer.Txn r b parts)) e k.own

  first-to : x.phase ≡ Looking → (phase : Phase) (step : ConnectStep) → ConnectLooked x r parts phase step → LeadsTo store lines c (state_at lines k.looked) x phase step
  first-to e phase step (records, h) =
      let asks = asks-in Looking (reading (pos 0) (first_wants x.request)) e refl in
      looks-to store lines c (state_at lines k.looked) x (viewed r (first_wants x.request) parts) (read-look (first_wants x.request) asks) k.sound (λ least none. wanted-seen k.before k.then_store (first_wants x.request) r b parts (record empty_view { revision = r }) (life_key x.request.session) (ap (carry k.before) (sym asks) ∙ k.carried_out) (life-wanted x.request least) none) phase step (own-in Looking e)
      (wanted-seen k.before k.then_store (first_wants x.request) r b parts (record empty_view { revision = r }) HeadKey (ap (carry k.before) (sym asks) ∙ k.carried_out) (head-wanted x.request)) h

  again-to : (v : View) → IsLookAt store (state_at lines k.looked) v → (pos 1 ≤ℤ x.request.session → seen v (key_bytes (life_key x.request.session)) ≡ None → ⊥) → pos 1 ≤ℤ x.request.session → attach_of c lines ≡ None → x.request.last_zxid ≤ℤ (state_at lines k.looked).zxid → (phase : Phase) (step : ConnectStep) → Resumes x v Attaching phase step
      → LeadsTo store lines c (state_at lines k.looked) x phase step
  again-to v look there least none past phase step h =
      resumes-to store lines c (state_at lines k.looked) x v look k.sound there phase step none (above-zero x.request.session least) past Attaching (λ seen life saw. (saw, past)) (λ seen life. (ask.Txn (attach_txn x.request.session seen life), refl)) h

-- the transaction of an attachment as that of a plan
abbrev attach_plan : ℤ → ℤ → LeaseRec → Plan
attach_plan id seen life = record { guards = attach_guards id seen; success = update_acts (attach_changes id life) []; again = attach_wants id; draft = reply.Refused (pos 0); triggers = [] }

created-to : (store : Store) (lines : List TranscriptLine) (c place : ℕ) (x : Connect) (r : ℤ) (b : Bool) (parts : List ActAns) (k : IsConnectAnswer store lines c place x (answer.Txn r b parts)) → x.phase ≡ Creating → (phase : Phase) (step : ConnectStep) → Created x r b parts phase step
    → LeadsTo store lines c (state_at lines k.looked) x phase step
created-to store lines c place x r true parts k e phase step (p, same) =
    subst (LeadsTo store lines c (state_at lines k.looked) x phase) (sym same) (attached x.fresh.id (timeout_in x) x.fresh.passwd r (number_shown parts) (own-in store lines c place x r true parts k Creating e))
created-to store lines c place x r false parts k e phase step (records, h) =
    let none = own-in store lines c place x r false parts k Creating e in
    either (is_taken x.fresh.id (viewed r (session_wants x.fresh.id) parts)) _ _ (LeadsTo store lines c (state_at lines k.looked) x phase step) h
    (λ t. ends-so store lines c (state_at lines k.looked) x phase none step (steps.Taken r) (taken r) t)
    (λ w. waits-on store lines c (state_at lines k.looked) x phase none Creating step _ refl (rests-in store lines c place x r false parts k Creating e) w)

attached-to : (store : Store) (lines : List TranscriptLine) (c place : ℕ) (x : Connect) (r : ℤ) (b : Bool) (parts : List ActAns) (k : IsConnectAnswer store lines c place x (answer.Txn r b parts)) (seen : ℤ) (life : LeaseRec) → x.phase ≡ Attaching seen life → (phase : Phase) (step : ConnectStep)
    → Attached x life r b parts phase step → LeadsTo store lines c (state_at lines k.looked) x phase step
attached-to store lines c place x r true parts k seen life e phase step (p, same) =
    subst (LeadsTo store lines c (state_at lines k.looked) x phase) (sym same) (attached x.request.session life.timeout life.passwd r (number_shown parts) (own-in store lines c place x r true parts k (Attaching seen life) e))
attached-to store lines c place x r false parts k seen life e phase step (records, h) =
    let asks = asks-in store lines c place x r false parts k (Attaching seen life) (ask.Txn (attach_txn x.request.session seen life)) e refl in
    let shown = again-shown k.before k.then_store (attach_plan x.request.session seen life) r parts (ap (carry k.before) (sym asks) ∙ k.carried_out) in
    let v = viewed r (attach_wants x.request.session) parts in
    let look = at-then store lines c place x r false parts k v (subst (λ (t : Store). Agrees v (present t)) (sym (shown.1).same) (shown.1).agrees) in
    let rests = rests-in store lines c place x r false parts k (Attaching seen life) e in
    again-to store lines c place x r false parts k v look (λ least none. wanted-shown (record empty_view { revision = r }) (attach_wants x.request.session) parts (key_want (life_key x.request.session)) (omega (arith, again-parts k.before k.then_store (attach_plan x.request.session seen life) r parts (ap (carry k.before) (sym asks) ∙ k.carried_out))) (0, omega arith, refl) none) (rests.0).session (own-in store lines c place x r false parts k (Attaching seen life) e) rests.1 phase step h

txn-to : (store : Store) (lines : List TranscriptLine) (c place : ℕ) (x : Connect) (r : ℤ) (b : Bool) (parts : List ActAns) (k : IsConnectAnswer store lines c place x (answer.Txn r b parts)) (p : Phase) → x.phase ≡ p → (phase : Phase) (step : ConnectStep) → ConnectAnswers x p (answer.Txn r b parts) phase step
    → LeadsTo store lines c (state_at lines k.looked) x phase step
txn-to store lines c place x r b parts k Unasked e phase step h = absurd h
txn-to store lines c place x r b parts k Looking e phase step h = first-to store lines c place x r b parts k e phase step h
txn-to store lines c place x r b parts k Granting e phase step h =
    waits-on store lines c (state_at lines k.looked) x phase (own-in store lines c place x r b parts k Granting e) Creating step _ refl (rests-in store lines c place x r b parts k Granting e) h
txn-to store lines c place x r b parts k Creating e phase step h = created-to store lines c place x r b parts k e phase step h
txn-to store lines c place x r b parts k (Keeping seen life) e phase step h = absurd h
txn-to store lines c place x r b parts k LookingAgain e phase step (records, h) =
    let asks = asks-in store lines c place x r b parts k LookingAgain (reading (pos 0) (attach_wants x.request.session)) e refl in
    let rests = rests-in store lines c place x r b parts k LookingAgain e in
    again-to store lines c place x r b parts k (viewed r (attach_wants x.request.session) parts) (read-look store lines c place x r b parts k (attach_wants x.request.session) asks)
    (λ least none. wanted-seen k.before k.then_store (attach_wants x.request.session) r b parts (record empty_view { revision = r }) (life_key x.request.session) (ap (carry k.before) (sym asks) ∙ k.carried_out) (0, omega arith, refl) none) rests.0 (own-in store lines c place x r b parts k LookingAgain e) rests.1 phase step h
txn-to store lines c place x r b parts k (Attaching seen life) e phase step h = attached-to store lines c place x r b parts k seen life e phase step h
txn-to store lines c place x r b parts k Over e phase step h = absurd h

-- an answer that is none to a transaction
module _ (store : Store) (lines : List TranscriptLine) (c place : ℕ) (x : Connect) (a : Answer) (k : IsConnectAnswer store lines c place x a) where
  rested : (p : Phase) → x.phase ≡ p → RestsOn store (state_at lines k.looked).zxid x.request p
  rested p e = subst (RestsOn store (state_at lines k.looked).zxid x.request) e (rests-push k.then_store store (state_at lines k.looked).zxid (state_at lines k.looked).zxid x.request x.phase k.is (omega (arith, ints)) k.rests)

  granted-to : x.phase ≡ Granting → (phase : Phase) (step : ConnectStep) → Waits x Creating phase step → LeadsTo store lines c (state_at lines k.looked) x phase step
  granted-to e phase step h = waits-on store lines c (state_at lines k.looked) x phase (subst (λ p. HasOwnLine lines c x p a) e k.own) Creating step _ refl (rested Granting e) h

  kept-to : (seen : ℤ) (life : LeaseRec) → x.phase ≡ Keeping seen life → (seconds : ℤ) (phase : Phase) (step : ConnectStep) → Kept x seen life seconds phase step → LeadsTo store lines c (state_at lines k.looked) x phase step
  kept-to seen life e seconds phase step h =
      let none : attach_of c lines ≡ None = subst (λ p. HasOwnLine lines c x p a) e k.own in
      let rests = rested (Keeping seen life) e in
      either (int_eq seconds (pos 0)) _ _ (LeadsTo store lines c (state_at lines k.looked) x phase step) h
      (λ w. waits-on store lines c (state_at lines k.looked) x phase none LookingAgain step _ refl ((rests.0).session, rests.1) w)
      (λ w. waits-on store lines c (state_at lines k.looked) x phase none (Attaching seen life) step _ refl rests w)

pub leads-to : (store : Store) (lines : List TranscriptLine) (c place : ℕ) (x : Connect) (a : Answer) (k : IsConnectAnswer store lines c place x a) (phase : Phase) (step : ConnectStep) → ConnectAnswers x x.phase a phase step → LeadsTo store lines c (state_at lines k.looked) x phase step
leads-to store lines c place x (answer.Txn r b parts) k phase step h = txn-to store lines c place x r b parts k x.phase refl phase step h
leads-to store lines c place x (answer.Alive r i seconds) k phase step h = go x.phase refl h
  where
    go : (p : Phase) → x.phase ≡ p → ConnectAnswers x p (answer.Alive r i seconds) phase step → LeadsTo store lines c (state_at lines k.looked) x phase step
    go Unasked e g = absurd g
    go Looking e g = absurd g
    go Granting e g = granted-to store lines c place x (answer.Alive r i seconds) k e phase step g
    go Creating e g = absurd g
    go (Keeping seen life) e g = kept-to store lines c place x (answer.Alive r i seconds) k seen life e seconds phase step g
    go LookingAgain e g = absurd g
    go (Attaching seen life) e g = absurd g
    go Over e g = absurd g
leads-to store lines c place x (answer.Range r f) k phase step h = go x.phase refl h
  where
    go : (p : Phase) → x.phase ≡ p → ConnectAnswers x p (answer.Range r f) phase step → LeadsTo store lines c (state_at lines k.looked) x phase step
    go Unasked e g = absurd g
    go Looking e g = absurd g
    go Granting e g = granted-to store lines c place x (answer.Range r f) k e phase step g
    go Creating e g = absurd g
    go (Keeping seen life) e g = absurd g
    go LookingAgain e g = absurd g
    go (Attaching seen life) e g = absurd g
    go Over e g = absurd g
leads-to store lines c place x (answer.Granted r i t) k phase step h = go x.phase refl h
  where
    go : (p : Phase) → x.phase ≡ p → ConnectAnswers x p (answer.Granted r i t) phase step → LeadsTo store lines c (state_at lines k.looked) x phase step
    go Unasked e g = absurd g
    go Looking e g = absurd g
    go Granting e g = granted-to store lines c place x (answer.Granted r i t) k e phase step g
    go Creating e g = absurd g
    go (Keeping seen life) e g = absurd g
    go LookingAgain e g = absurd g
    go (Attaching seen life) e g = absurd g
    go Over e g = absurd g
