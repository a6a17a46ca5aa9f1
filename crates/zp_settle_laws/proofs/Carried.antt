-- What a connection has out is carried out: of its asks that are still to come one is done.
use Rattle.std.proofs.Common.{◌≡◌, ℕ, zero, suc, ◌≤◌, List, [], length, refl, sym, ap, ◌∙◌, subst, arith, Bool, true, false, ℤ, pos, inl, inr}
use Rattle.std.specs.Prelude.{Contains, Option, Some, None, ◌&&◌, ◌||◌, MatchBool, if◌then◌else◌, is_some, int_lt, nat_eq}
use Rattle.std.specs.Ordering.{int_eq}
use Rattle.std.proofs.lemmas.Bool.{and_from}
use Rattle.std.proofs.lemmas.Bool.Decides.{Decides-int_eq, nat_tests}
use Rattle.std.proofs.lemmas.Int.{ints}
use Rattle.ev_types.specs.Denials.{carry}
use Rattle.ev_types.specs.Store.{Store, holds, mod_of, present, revision, succeeds}
use Rattle.ev_types.specs.declared.answer.ActAns.{ActAns}
use Rattle.ev_types.specs.declared.answer.Answer.{Answer}
use Rattle.ev_types.specs.declared.answer.Answer.TheVariants as answer
use Rattle.ev_types.specs.declared.answer.Kv.{Kv}
use Rattle.ev_types.specs.declared.ask.Ask.{Ask}
use Rattle.ev_types.specs.declared.ask.TxnReq.{TxnReq}
use Rattle.zk_model.specs.declared.reply.Body.TheVariants as body
use Rattle.zk_model.specs.declared.reply.Reply.TheVariants as reply
use Rattle.zk_model.specs.declared.request.Request.{Request}
use Rattle.zn_layout.proofs.Commits.{answer-is}
use Rattle.zn_layout.specs.Keys.{Key, key_bytes}
use Rattle.zn_layout.specs.StandsFor.{at}
use Rattle.zn_layout.specs.declared.record.LeaseRec.{LeaseRec}
use Rattle.zn_view.proofs.AsSeen.{agrees-seen}
use Rattle.zn_view.proofs.SeenAfter.{wanted-shown}
use Rattle.zn_view.proofs.Showing.{again-shown, first-shown, later-shown}
use Rattle.zn_view.specs.Adding.{at_revision, is_new}
use Rattle.zn_view.specs.Asks.{plan_txn, ranges_of, reading, transaction, with_parts}
use Rattle.zn_view.specs.Lookups.{found_at}
use Rattle.zn_view.specs.Needs.{key_want}
use Rattle.zn_view.specs.Seen.{View, empty_view, head_of, head_zxid, seen}
use Rattle.zn_view.specs.Views.{Agrees}
use Rattle.zn_view.specs.declared.plan.Plan.{Plan}
use Rattle.zn_view.specs.declared.plan.Who.{Who}
use Rattle.zn_view.specs.declared.want.Want.{Want}
use Rattle.zs_session.specs.Answering.{viewed}
use Rattle.zs_session.specs.Connecting.{ConnectAnswers, Attached, Created, ConnectEnds, Kept, ConnectLookedAgain, ConnectLooksFirst, Resumes, SawLifeAt, ConnectSteps, Waits, asked_in_phase, is_taken, is_there, timeout_in}
use Rattle.zs_session.specs.Sessions.{attach_guards, attach_txn, attach_wants, first_wants, guard_on, life_key, new_session_guards, new_session_txn, nodes_key, session_wants}
use Rattle.zs_session.specs.declared.connect.Connect.{Connect}
use Rattle.zs_session.specs.declared.connect.ConnectStep.{ConnectStep}
use Rattle.zs_session.specs.declared.connect.ConnectStep.TheVariants as steps
use Rattle.zs_session.specs.declared.connect.Phase.{Phase}
use Rattle.zs_session.specs.declared.connect.Phase.TheVariants.{Attaching, Creating, Granting, Keeping, Looking, LookingAgain, Over, Unasked}
use Rattle.zx_base.proofs.Options.{none_some, some_is}
use Rattle.zp_step.proofs.Cases.{of_alive, of_txn}
use Rattle.zp_laws.proofs.Parts.{found-there, parts-worked, revision-kept}
use Rattle.zp_step.specs.Stages.{Stage, Unconnected, Connecting, Ready, KeepingAlive, Checking, Reading, Committing, Waiting, Shut, asked_of}
use Rattle.zp_world_laws.proofs.Asking.{ranges-read}
use Rattle.zp_world_laws.proofs.Transactions.{txn-answered, txn-reads}
use Rattle.zp_settle_laws.proofs.Coming.{AsksAfter, AsksOut, CommitsOut, ConnectAfter, ConnectOut, IsAskedNow, IsNow, LooksOn, ReadsOut, again_for, attach_again}
use Rattle.zp_settle_laws.proofs.Places.{parent-on, parent-or-less, request-ends, rounds-looked, most_rounds, view_on}
use Rattle.zx_base.proofs.Booleans.{either}

-- ---- a look at the present

-- what a reading answers
pub record IsLook (s u : Store) (ws : List Want) (a : Answer) : Type 0 where
  pub parts : List ActAns
  pub is : a ≡ answer.Txn (revision u) true parts
  pub long : length parts ≡ length ws
  pub same : u ≡ s

pub is-read : (s u : Store) (z : ℤ) (ws : List Want) (a : Answer) → carry s (reading z ws) ≡ Some (u, a) → IsLook s u ws a
is-read s u z ws a h =
    let t : TxnReq = record { guards = []; success = ranges_of z ws; failure = [] } in
    let b = txn-answered s u t a h in
    let c = answer-is s u t (revision u) true b.0 (h ∙ ap (λ y. Some (u, y)) b.1) in
    record {
      parts = b.0;
      is = b.1;
      long = ap (λ (l : List ActAns). length l) c.parts_are ∙ parts-worked s z ws;
      same = txn-reads s u t a true h refl (ranges-read z ws);
    }

-- what is read again where a guard does not hold
pub record IsAgain (s u : Store) (ws : List Want) (a : Answer) : Type 0 where
  pub parts : List ActAns
  pub is : a ≡ answer.Txn (revision u) false parts
  pub long : length parts ≡ length ws
  pub same : u ≡ s
  pub agrees : Agrees (viewed (revision u) ws parts) (present s)

pub is-again : (s u : Store) (p : Plan) (a : Answer) → carry s (transaction p) ≡ Some (u, a) → succeeds s (plan_txn p) ≡ false → IsAgain s u p.again a
is-again s u p a h fails =
    let b = txn-answered s u (plan_txn p) a h in
    let is : a ≡ answer.Txn (revision u) false b.0 = b.1 ∙ ap (λ y. answer.Txn (revision u) y b.0) fails in
    let h' : carry s (transaction p) ≡ Some (u, answer.Txn (revision u) false b.0) = h ∙ ap (λ y. Some (u, y)) is in
    let c = answer-is s u (plan_txn p) (revision u) false b.0 h' in
    let v = again-shown s u p (revision u) b.0 h' in
    record {
      parts = b.0;
      is = is;
      long = ap (λ (l : List ActAns). length l) c.parts_are ∙ parts-worked s (pos 0) p.again;
      same = txn-reads s u (plan_txn p) a false h fails (ranges-read (pos 0) p.again);
      agrees = (v.1).agrees;
    }

-- ---- a round of a request

begun-apart : (v : View) (n : ℕ) → v.revision ≡ pos n → 1 ≤ n → is_new v ≡ false
begun-apart v n e le = ap (λ z. int_eq z (pos 0) && (nat_eq (length v.keys) 0 && nat_eq (length v.lists) 0)) e ∙ ap (λ b. b && (nat_eq (length v.keys) 0 && nat_eq (length v.lists) 0)) (above n le)
  where
    above : (n : ℕ) → 1 ≤ n → int_eq (pos n) (pos 0) ≡ false
    above n le = grind (arith, nat_tests, ints)

-- a view with one more round of the present is of the present
round-now : (s u : Store) (v : View) (ws : List Want) (parts : List ActAns) → 1 ≤ length s.revisions → IsAskedNow s v → carry s (reading v.revision ws) ≡ Some (u, answer.Txn (revision u) true parts) → u ≡ s → IsNow s (view_on v (revision u) ws parts)
round-now s u v ws parts begun (inl none) h same =
    let is : v ≡ empty_view = λ i. record { revision = none.0 i; keys = none.1 i; lists = none.2 i } in
    let shown = (first-shown s u ws (revision u) true parts (ap (λ z. carry s (reading z ws)) (sym none.0) ∙ h)).1 in
    subst (λ y. IsNow s (view_on y (revision u) ws parts)) (sym is)
    (record { same = revision-kept (at_revision empty_view (revision u)) ws parts ∙ ap revision same; agrees = shown.agrees })
round-now s u v ws parts begun (inr now) h same =
    let shown = later-shown s u v (length s.revisions) ws (revision u) true parts now.same begun now.agrees h in
    let still : at_revision v (revision u) ≡ v = ap (λ b. if b then record v { revision = revision u } else v) (begun-apart v (length s.revisions) now.same begun) in
    subst (λ y. IsNow s (with_parts y ws parts)) (sym still) (record { same = revision-kept v ws parts ∙ now.same; agrees = shown.agrees })

-- one ask less
pub record Done (k : ℕ) (P : ℕ → Type 0) : Type 0 where
  pub left : ℕ
  pub is : k ≡ suc left
  pub after : P left

pub done-one : (k : ℕ) (P : ℕ → Type 0) → 1 ≤ k → ((j : ℕ) → k ≡ suc j → P j) → Done k P
done-one (suc j) P h f = record { left = j; is = refl; after = f j refl }
done-one zero P h f = absurd (omega (arith, h))

-- where something is out, some ask is left
pub reads-some : (s : Store) (who : Who) (r : Request) (v : View) (ws : List Want) (k : ℕ) → ReadsOut s who r v ws k → 1 ≤ k
reads-some s who r v ws k o = elim o.most [
  | inl x ↦ (let m = x.1 in omega (arith, m))
  | inr m ↦ omega (arith, m)
]

pub commits-some : (s : Store) (who : Who) (r : Request) (p : Plan) (k : ℕ) → CommitsOut s who r p k → 1 ≤ k
commits-some s who r p k (inl m) = omega (arith, m)
commits-some s who r p k (inr m) = let two = m.1 in omega (arith, two)

module _ (s u : Store) (who : Who) (begun : 1 ≤ length s.revisions) where
  read-after : (xid : ℤ) (r : Request) (v : View) (ws : List Want) (a : Answer) (k : ℕ) → carry s (reading v.revision ws) ≡ Some (u, a) → ReadsOut s who r v ws k → Done k (AsksAfter u who (Reading xid r v ws) a)
  read-after xid r v ws a k h o =
      let d = is-read s u v.revision ws a h in
      done-one k (AsksAfter u who (Reading xid r v ws) a) (reads-some s who r v ws k o) (λ j e.
      subst (λ y. AsksAfter u who (Reading xid r v ws) y j) (sym d.is)
      (subst (λ y. LooksOn y who r (view_on v (revision u) ws d.parts) j) (sym d.same) (record {
        rounds = o.rounds;
        ends = o.ends (revision u) d.parts (omega (arith, d.long));
        most = elim o.most [
          | inl x ↦ inl (round-now s u v ws d.parts begun x.0 (h ∙ ap (λ y. Some (u, y)) d.is) d.same, (let m = x.1 in omega (arith, m, e)))
          | inr m ↦ inr (omega (arith, m, e))
        ];
        spare = elim o.spare [
          | inl saw ↦ inl (parent-on r v (revision u) ws d.parts saw)
          | inr (inl x) ↦ inr (inl (round-now s u v ws d.parts begun x.0 (h ∙ ap (λ y. Some (u, y)) d.is) d.same, (let m = x.1 in omega (arith, m, e))))
          | inr (inr m) ↦ inr (inr (omega (arith, m, e)))
        ];
      })))

  commit-after : (xid : ℤ) (r : Request) (v : View) (p : Plan) (time : ℕ) (a : Answer) (k : ℕ) → carry s (transaction p) ≡ Some (u, a) → CommitsOut s who r p k → Done k (AsksAfter u who (Committing xid r v p time) a)
  commit-after xid r v p time a k h o = done-one k (AsksAfter u who (Committing xid r v p time) a) (commits-some s who r p k o) (λ j e. go j e (succeeds s (plan_txn p)) refl)
    where
      go : (j : ℕ) → k ≡ suc j → (b : Bool) → succeeds s (plan_txn p) ≡ b → AsksAfter u who (Committing xid r v p time) a j
      go j e true f =
          let b = txn-answered s u (plan_txn p) a h in
          subst (λ y. AsksAfter u who (Committing xid r v p time) y j) (sym (b.1 ∙ ap (λ y. answer.Txn (revision u) y b.0) f)) tt
      go j e false f =
          let d = is-again s u p a h f in
          let y = viewed (revision u) p.again d.parts in
          let at : y.revision ≡ revision s = revision-kept (at_revision empty_view (revision u)) p.again d.parts ∙ ap revision d.same in
          subst (λ q. AsksAfter u who (Committing xid r v p time) q j) (sym d.is)
          (subst (λ q. LooksOn q who r (viewed (revision u) p.again d.parts) j) (sym d.same) (elim o [
            | inl m ↦ record {
              rounds = most_rounds r;
              ends = λ few. request-ends r who y few;
              most = inl (record { same = at; agrees = d.agrees }, omega (arith, m, e, ap (λ c. again_for c r) f, rounds-looked r));
              spare = elim (parent-or-less r y) [
                | inl saw ↦ inl saw
                | inr less ↦ inr (inl (record { same = at; agrees = d.agrees }, omega (arith, m, e, ap (λ c. again_for c r) f, less)))
              ];
            }
            | inr (n, two, all) ↦ (
                let found = all (revision u) d.parts (omega (arith, d.long)) d.agrees in
                record { rounds = n; ends = λ few. found.0; most = inl (record { same = at; agrees = d.agrees }, omega (arith, two, e)); spare = inl found.1 }
                )
          ]))

-- ---- a connect

-- the guard on a life as the present has it holds
life-holds : (s : Store) (v : View) (id seen : ℤ) (life : LeaseRec) → Agrees v (present s) → SawLifeAt v id seen life → succeeds s (attach_txn id seen life) ≡ true
life-holds s v id seen life agrees saw =
    let there = agrees-seen v (present s) (key_bytes (life_key id)) (Some saw.kv) agrees saw.shown in
    and_from (holds (present s) (guard_on (life_key id) seen)) true ((Decides-int_eq (mod_of (at (present s) (life_key id))) seen).1 (ap mod_of there ∙ sym saw.revision)) refl

-- where a guard of a new session does not hold, its number is taken
taken-now : (s : Store) (t : TxnReq) (id : ℤ) (v : View) → t.guards ≡ new_session_guards id → Agrees v (present s) → (seen v (key_bytes (life_key id)) ≡ None → ⊥) → (seen v (key_bytes (nodes_key id)) ≡ None → ⊥) → succeeds s t ≡ false → is_taken id v ≡ true
taken-now s t id v guards agrees life nodes fails = go (at (present s) (life_key id)) (at (present s) (nodes_key id)) refl refl
  where
    l : found_at v (life_key id) ≡ at (present s) (life_key id)
    l = found-there (present s) v (life_key id) agrees life

    n : found_at v (nodes_key id) ≡ at (present s) (nodes_key id)
    n = found-there (present s) v (nodes_key id) agrees nodes

    go : (a b : Option Kv) → at (present s) (life_key id) ≡ a → at (present s) (nodes_key id) ≡ b → is_taken id v ≡ true
    go (Some kv) b e f = ap (λ o. is_some o || is_there v (nodes_key id)) (l ∙ e)
    go None (Some kv) e f = ap (λ o. is_some o || is_there v (nodes_key id)) (l ∙ e) ∙ ap is_some (n ∙ f)
    go None None e f =
        let m = present s in
        let one : holds m (guard_on (life_key id) (pos 0)) ≡ true = (Decides-int_eq (mod_of (at m (life_key id))) (pos 0)).1 (ap mod_of e) in
        let two : holds m (guard_on (nodes_key id) (pos 0)) ≡ true = (Decides-int_eq (mod_of (at m (nodes_key id))) (pos 0)).1 (ap mod_of f) in
        let all : succeeds s (record t { guards = new_session_guards id }) ≡ true = and_from (holds m (guard_on (life_key id) (pos 0))) (holds m (guard_on (nodes_key id) (pos 0)) && true) one (and_from (holds m (guard_on (nodes_key id) (pos 0))) true two refl) in
        let same : succeeds s t ≡ succeeds s (record t { guards = new_session_guards id }) = ap (λ gs. succeeds s (record t { guards = gs })) guards in
        let bad : true ≡ false = sym all ∙ sym same ∙ fails in
        absurd (cc)

-- no answer leads to the first look
abbrev IsLater : Phase → Type 0
IsLater Looking = ⊥
IsLater _ = Unit {0}

attach-most : (b : Bool) → attach_again b ≤ 1
attach-most true = omega arith
attach-most false = omega arith

later-out : (s : Store) (id : ℤ) (p : Phase) (k : ℕ) → 3 ≤ k → IsLater p → ConnectOut s id p k
later-out s id Unasked k h l = tt
later-out s id Looking k h l = absurd l
later-out s id Granting k h l = omega (arith, h)
later-out s id Creating k h l = omega (arith, h)
later-out s id (Keeping seen life) k h l = h
later-out s id LookingAgain k h l = omega (arith, h)
later-out s id (Attaching seen life) k h l = omega (arith, h, attach-most (succeeds s (attach_txn id seen life)))
later-out s id Over k h l = tt

-- the phases that come of an answer, where these have what is to be shown
module _ (P : Phase → Type 0) (over : P Over) (c : Connect) (phase : Phase) (step : ConnectStep) where
  waits : (next : Phase) → P next → Waits c next phase step → P phase
  waits next p w = subst P (sym w.0) p

  ends : (end : ConnectStep) → ConnectEnds end phase step → P phase
  ends end e = subst P (sym e.0) over

  resumes : (v : View) (next : ℤ → LeaseRec → Phase) → ((seen : ℤ) (life : LeaseRec) → SawLifeAt v c.request.session seen life → P (next seen life)) → Resumes c v next phase step → P phase
  resumes v next p (inl h) = ends steps.Unknown h.1
  resumes v next p (inr (seen, life, mine, w)) = waits (next seen life) (p seen life mine.saw) w

  looks-first : (v : View) → P Granting → ((seen : ℤ) (life : LeaseRec) → P (Keeping seen life)) → ConnectLooksFirst c v phase step → P phase
  looks-first v g p h =
      let head = head_zxid (head_of v) in
      either (int_lt head c.request.last_zxid) (ConnectEnds (steps.Ahead c.request.last_zxid head) phase step) (MatchBool (int_eq c.request.session (pos 0)) (Waits c Granting phase step) (Resumes c v Keeping phase step)) (P phase) h
      (ends (steps.Ahead c.request.last_zxid head))
      (λ k. either (int_eq c.request.session (pos 0)) (Waits c Granting phase step) (Resumes c v Keeping phase step) (P phase) k (waits Granting g) (resumes v Keeping (λ seen life saw. p seen life)))

  created : (z : ℤ) (b : Bool) (parts : List ActAns) → (b ≡ false → is_taken c.fresh.id (viewed z (session_wants c.fresh.id) parts) ≡ false → P Creating) → Created c z b parts phase step → P phase
  created z true parts p h = ends _ h
  created z false parts p h = go (is_taken c.fresh.id (viewed z (session_wants c.fresh.id) parts)) refl h.1
    where
      go : (b : Bool) → is_taken c.fresh.id (viewed z (session_wants c.fresh.id) parts) ≡ b → MatchBool b (ConnectEnds (steps.Taken z) phase step) (Waits c Creating phase step) → P phase
      go true e k = ends (steps.Taken z) k
      go false e k = waits Creating (p refl e) k

  kept : (seen : ℤ) (life : LeaseRec) (ttl : ℤ) → P LookingAgain → P (Attaching seen life) → Kept c seen life ttl phase step → P phase
  kept seen life ttl p q h = either (int_eq ttl (pos 0)) (Waits c LookingAgain phase step) (Waits c (Attaching seen life) phase step) (P phase) h (waits LookingAgain p) (waits (Attaching seen life) q)

  attached : (life : LeaseRec) (z : ℤ) (b : Bool) (parts : List ActAns) → (b ≡ false → (seen : ℤ) (next : LeaseRec) → SawLifeAt (viewed z (attach_wants c.request.session) parts) c.request.session seen next → P (Attaching seen next))
      → Attached c life z b parts phase step → P phase
  attached life z true parts p h = ends _ h
  attached life z false parts p h = resumes (viewed z (attach_wants c.request.session) parts) Attaching (p refl) h.1

-- any answer leads to a later phase
answer-later : (c : Connect) (phase : Phase) (step : ConnectStep) (p : Phase) (a : Answer) → ConnectAnswers c p a phase step → IsLater phase
answer-later c phase step Unasked a h = absurd h
answer-later c phase step Looking a h = of_txn a _ (IsLater phase) h (λ z b parts f. looks-first IsLater tt c phase step (viewed z (first_wants c.request) parts) tt (λ seen life. tt) f.1)
answer-later c phase step Granting a h = waits IsLater tt c phase step Creating tt h
answer-later c phase step Creating a h = of_txn a _ (IsLater phase) h (λ z b parts f. created IsLater tt c phase step z b parts (λ e g. tt) f)
answer-later c phase step (Keeping seen life) a h = of_alive a _ (IsLater phase) h (λ ttl f. kept IsLater tt c phase step seen life ttl tt tt f)
answer-later c phase step LookingAgain a h = of_txn a _ (IsLater phase) h (λ z b parts f. resumes IsLater tt c phase step (viewed z (attach_wants c.request.session) parts) Attaching (λ seen life saw. tt) f.1)
answer-later c phase step (Attaching seen life) a h = of_txn a _ (IsLater phase) h (λ z b parts f. attached IsLater tt c phase step life z b parts (λ e s n saw. tt) f)
answer-later c phase step Over a h = absurd h

-- the session stays
same-session : (x new : Connect) (a : Option Answer) (step : ConnectStep) → ConnectSteps x a step new → new.request.session ≡ x.request.session
same-session x new a step k = ap (λ (y : Connect). y.request.session) k.same

pub connect-most : (s : Store) (x : Connect) (a : Answer) (k : ℕ) → 3 ≤ k → ConnectAfter s x a k
connect-most s x a k h = λ step new t. later-out s new.request.session new.phase k h (answer-later x new.phase step x.phase a t.moves)

module _ (s u : Store) (x : Connect) (a : Answer) where
  -- where each step leads to what is to be shown at the session's number
  by-moves : (j : ℕ) → ((step : ConnectStep) (phase : Phase) → ConnectAnswers x x.phase a phase step → ConnectOut u x.request.session phase j) → ConnectAfter u x a j
  by-moves j f = λ step new t. subst (λ id. ConnectOut u id new.phase j) (sym (same-session x new (Some a) step t)) (f step new.phase t.moves)

  on-life : (id : ℤ) (v : View) (j : ℕ) → u ≡ s → Agrees v (present s) → 1 ≤ j → (seen : ℤ) (life : LeaseRec) → SawLifeAt v id seen life → ConnectOut u id (Attaching seen life) j
  on-life id v j same agrees h seen life saw = subst (λ y. ConnectOut y id (Attaching seen life) j) (sym same) (omega (arith, h, ap attach_again (life-holds s v id seen life agrees saw)))

  connect-after : (p : Phase) (q : Ask) (k : ℕ) → x.phase ≡ p → asked_in_phase x p ≡ Some q → carry s q ≡ Some (u, a) → ConnectOut s x.request.session p k → Done k (ConnectAfter u x a)
  connect-after Unasked q k e o h n = absurd (none_some o)
  connect-after Over q k e o h n = absurd (none_some o)
  connect-after Looking q k e o h n = done-one k (ConnectAfter u x a) (omega (arith, n)) (λ j f. connect-most u x a j (omega (arith, n, f)))
  connect-after Granting q k e o h n = done-one k (ConnectAfter u x a) (omega (arith, n)) (λ j f. by-moves j (λ step phase m.
      waits (λ y. ConnectOut u x.request.session y j) tt x phase step Creating (omega (arith, n, f)) (subst (λ y. ConnectAnswers x y a phase step) e m)))
  connect-after (Keeping seen life) q k e o h n = done-one k (ConnectAfter u x a) (omega (arith, n)) (λ j f. by-moves j (λ step phase m.
      of_alive a _ (ConnectOut u x.request.session phase j) (subst (λ y. ConnectAnswers x y a phase step) e m) (λ ttl g.
      kept (λ y. ConnectOut u x.request.session y j) tt x phase step seen life ttl (omega (arith, n, f)) (omega (arith, n, f, attach-most (succeeds u (attach_txn x.request.session seen life)))) g)))
  connect-after LookingAgain q k e o h n =
      let ht : carry s (reading (pos 0) (attach_wants x.request.session)) ≡ Some (u, a) = ap (carry s) (some_is o) ∙ h in
      let d = is-read s u (pos 0) (attach_wants x.request.session) a ht in
      let v = first-shown s u (attach_wants x.request.session) (revision u) true d.parts (ht ∙ ap (λ y. Some (u, y)) d.is) in
      done-one k (ConnectAfter u x a) (omega (arith, n)) (λ j f. by-moves j (λ step phase m.
      resumes (λ y. ConnectOut u x.request.session y j) tt x phase step (viewed (revision u) (attach_wants x.request.session) d.parts) Attaching
      (on-life x.request.session (viewed (revision u) (attach_wants x.request.session) d.parts) j d.same (v.1).agrees (omega (arith, n, f)))
      (let g : ConnectLookedAgain x (revision u) d.parts phase step = subst (λ y. ConnectAnswers x LookingAgain y phase step) d.is (subst (λ y. ConnectAnswers x y a phase step) e m) in g.1)))
  connect-after Creating q k e o h n =
      let p : Plan = record { guards = new_session_guards x.fresh.id; success = (new_session_txn x.fresh (timeout_in x)).success; again = session_wants x.fresh.id; triggers = []; draft = reply.Good body.Empty } in
      let ht : carry s (transaction p) ≡ Some (u, a) = ap (carry s) (some_is o) ∙ h in
      done-one k (ConnectAfter u x a) n (λ j f. by-moves j (λ step phase m. go p refl refl ht j step phase (subst (λ y. ConnectAnswers x y a phase step) e m) (succeeds s (plan_txn p)) refl))
    where
      go : (p : Plan) → p.guards ≡ new_session_guards x.fresh.id → p.again ≡ session_wants x.fresh.id → carry s (transaction p) ≡ Some (u, a) → (j : ℕ) (step : ConnectStep) (phase : Phase) → ConnectAnswers x Creating a phase step → (b : Bool) → succeeds s (plan_txn p) ≡ b → ConnectOut u x.request.session phase j
      go p guards again ht j step phase m true g =
          let b = txn-answered s u (plan_txn p) a ht in
          created (λ y. ConnectOut u x.request.session y j) tt x phase step (revision u) true b.0 (λ bad. absurd (let t : true ≡ false = bad in cc))
          (subst (λ y. ConnectAnswers x Creating y phase step) (b.1 ∙ ap (λ y. answer.Txn (revision u) y b.0) g) m)
      go p guards again ht j step phase m false g =
          let d = is-again s u p a ht g in
          let v = viewed (revision u) (session_wants x.fresh.id) d.parts in
          let agrees : Agrees v (present s) = subst (λ ws. Agrees (viewed (revision u) ws d.parts) (present s)) again d.agrees in
          let long : length (session_wants x.fresh.id) ≤ length d.parts = omega (arith, d.long, ap (λ (ws : List Want). length ws) again) in
          let shown = λ (k : Key) (has : Contains (session_wants x.fresh.id) (key_want k)). wanted-shown (at_revision empty_view (revision u)) (session_wants x.fresh.id) d.parts (key_want k) long has in
          let taken = taken-now s (plan_txn p) x.fresh.id v guards agrees (shown (life_key x.fresh.id) (0, omega arith, refl)) (shown (nodes_key x.fresh.id) (1, omega arith, refl)) g in
          created (λ y. ConnectOut u x.request.session y j) tt x phase step (revision u) false d.parts (λ f not_taken. absurd (let t : true ≡ false = sym taken ∙ not_taken in cc))
          (subst (λ y. ConnectAnswers x Creating y phase step) d.is m)
  connect-after (Attaching seen life) q k e o h n =
      let p : Plan = record { guards = attach_guards x.request.session seen; success = (attach_txn x.request.session seen life).success; again = attach_wants x.request.session; triggers = []; draft = reply.Good body.Empty } in
      let ht : carry s (transaction p) ≡ Some (u, a) = ap (carry s) (some_is o) ∙ h in
      done-one k (ConnectAfter u x a) (omega (arith, n)) (λ j f. by-moves j (λ step phase m. go p refl ht j (omega (arith, f, n)) step phase (subst (λ y. ConnectAnswers x y a phase step) e m) (succeeds s (plan_txn p)) refl))
    where
      go : (p : Plan) → p.again ≡ attach_wants x.request.session → carry s (transaction p) ≡ Some (u, a) → (j : ℕ) → attach_again (succeeds s (plan_txn p)) ≤ j → (step : ConnectStep) (phase : Phase) → ConnectAnswers x (Attaching seen life) a phase step → (b : Bool) → succeeds s (plan_txn p) ≡ b
          → ConnectOut u x.request.session phase j
      go p again ht j most step phase m true g =
          let b = txn-answered s u (plan_txn p) a ht in
          attached (λ y. ConnectOut u x.request.session y j) tt x phase step life (revision u) true b.0 (λ bad. absurd (let t : true ≡ false = bad in cc))
          (subst (λ y. ConnectAnswers x (Attaching seen life) y phase step) (b.1 ∙ ap (λ y. answer.Txn (revision u) y b.0) g) m)
      go p again ht j most step phase m false g =
          let d = is-again s u p a ht g in
          attached (λ y. ConnectOut u x.request.session y j) tt x phase step life (revision u) false d.parts
          (λ f. on-life x.request.session (viewed (revision u) (attach_wants x.request.session) d.parts) j d.same (subst (λ ws. Agrees (viewed (revision u) ws d.parts) (present s)) again d.agrees) (omega (arith, most, ap attach_again g)))
          (subst (λ y. ConnectAnswers x (Attaching seen life) y phase step) d.is m)

-- ---- whatever is out

pub stage-after : (s u : Store) (who : Who) → 1 ≤ length s.revisions → (st : Stage) (q : Ask) (a : Answer) (k : ℕ) → asked_of who st ≡ Some q → carry s q ≡ Some (u, a) → AsksOut s who st k → Done k (AsksAfter u who st a)
stage-after s u who begun (Unconnected fresh) q a k o h n = absurd (none_some o)
stage-after s u who begun (Connecting x) q a k o h n = (connect-after s u x a x.phase q k refl o h n)
stage-after s u who begun Ready q a k o h n = absurd (none_some o)
stage-after s u who begun (KeepingAlive f) q a k o h n = (done-one k (AsksAfter u who (KeepingAlive f) a) (omega (arith, n)) (λ j e. omega (arith, n, e)))
stage-after s u who begun (Checking f) q a k o h n = (done-one k (AsksAfter u who (Checking f) a) (omega (arith, n)) (λ j e. omega (arith, n, e)))
stage-after s u who begun (Reading xid r v ws) q a k o h n = (read-after s u who begun xid r v ws a k (ap (carry s) (some_is o) ∙ h) n)
stage-after s u who begun (Committing xid r v p m) q a k o h n = (commit-after s u who begun xid r v p m a k (ap (carry s) (some_is o) ∙ h) n)
stage-after s u who begun (Waiting p) q a k o h n = absurd (none_some o)
stage-after s u who begun Shut q a k o h n = absurd (none_some o)
