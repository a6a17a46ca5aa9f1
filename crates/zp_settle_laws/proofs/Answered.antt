-- A connection takes an answer, or an entry, and goes on: its asks that are still to come are no more than before.
use Rattle.std.proofs.Common.{◌≡◌, ℕ, zero, suc, ◌+◌, ◌≤◌, List, [], ◌∷◌, take, refl, sym, ap, ◌∙◌, subst, arith, Bool, true, false, ℤ, pos, inl, inr}
use Rattle.std.specs.Prelude.{Option, Some, None, ◌⊎◌, if◌then◌else◌}
use Rattle.std.specs.Arc.{arc_value}
use Rattle.std.specs.Ordering.{int_eq}
use Rattle.ev_types.specs.Store.{Store, succeeds}
use Rattle.ev_types.specs.declared.answer.ActAns.{ActAns}
use Rattle.ev_types.specs.declared.answer.Answer.{Answer}
use Rattle.ev_types.specs.declared.answer.Answer.TheVariants as answer
use Rattle.ev_types.specs.declared.answer.Kv.{Kv}
use Rattle.zk_jute.specs.Requests.{Frame, NoHeader, Unreadable, Unknown, Asks, read_request}
use Rattle.zk_model.specs.Watches.{no_watches}
use Rattle.zk_model.specs.declared.request.Request.{Request}
use Rattle.zk_service.proofs.PlainReplies.{plain-none}
use Rattle.zk_service.specs.Answers.{Told, plain_reply, xid_of, is_auth_refusal}
use Rattle.zk_service.specs.declared.cause.Cause.{Cause}
use Rattle.zk_service.specs.declared.cause.Cause.TheVariants as cause
use Rattle.zn_layout.specs.declared.entry.Entry.{Entry}
use Rattle.zn_view.specs.Adding.{at_revision}
use Rattle.zn_view.specs.Asks.{IsAskedPlan, head_want, plan_txn, with_parts}
use Rattle.zn_view.specs.Lookups.{found_at}
use Rattle.zn_view.specs.Needs.{AreNeeds, GuardsReads}
use Rattle.zn_view.specs.Seen.{View, empty_view}
use Rattle.zn_view.specs.declared.plan.Decision.{Decision}
use Rattle.zn_view.specs.declared.plan.Decision.TheVariants.{Answered, Planned, Expired, Moved}
use Rattle.zn_view.specs.declared.plan.Plan.{Plan}
use Rattle.zn_view.specs.declared.plan.Who.{Who}
use Rattle.zn_view.specs.declared.want.Want.{Want}
use Rattle.zn_view.specs.declared.want.Want.TheVariants as want
use Rattle.zs_reap.specs.Steps.{AreFewOwned}
use Rattle.zs_session.specs.Alive.{is_alive_due}
use Rattle.zs_session.specs.Answering.{viewed}
use Rattle.zs_session.specs.Sessions.{attach_wants, life_key}
use Rattle.zs_session.specs.declared.connect.Connect.{Connect}
use Rattle.zs_session.specs.declared.connect.ConnectStep.{ConnectStep}
use Rattle.zs_session.specs.declared.connect.ConnectStep.TheVariants as steps
use Rattle.zp_step.proofs.Cases.{of_alive, of_txn}
use Rattle.zp_step.specs.Kept.{keeps}
use Rattle.zn_view.specs.Keeping.{update_path}
use Rattle.zp_step.proofs.Beside.{PlansBeside, first-or-anew, leaves-beside}
use Rattle.zp_step.specs.Connects.{Connects, connected}
use Rattle.zp_step.specs.Entries.{entered, then_reply, told_entry}
use Rattle.zp_step.specs.Keepalives.{Checked, KeptAlive, Looked, StillMine, TakesUp, checks, keeps_alive}
use Rattle.zp_step.specs.Looking.{IfRecords, IsBacked, Looks, MayGuess, asks_for, change_by, decided, expired, guessed, max_ranges, moved, pending}
use Rattle.zp_step.specs.Plans.{CommitAnswered, Committed, ReadOn, finishes}
use Rattle.zp_step.specs.Replies.{Is, closed_by, is_due, replied, stage_after, waits}
use Rattle.zp_step.specs.Stages.{Core, Pending, Stage, Unconnected, Connecting, Ready, KeepingAlive, Checking, Reading, Committing, Waiting, Shut, is_shut}
use Rattle.zp_step.specs.Steps.{Answers, Goes, StepsOpen, rests, takes}
use Rattle.zp_step.specs.Taking.{TakesFrame, TakesReadable, end_of_plain, plainly}
use Rattle.zp_step.specs.declared.action.Action.{Action}
use Rattle.zp_step.specs.declared.input.Input.TheVariants as input
use Rattle.zp_settle_laws.proofs.Coming.{AreEnough, AsksAfter, AsksOut, CommitAfter, CommitsOut, ConnectAfter, EndsIf, IsAskedNow, IsNow, IsTruthful, LooksOn, Remains, RemainsAfter, TruthIn, again_for}
use Rattle.zp_settle_laws.proofs.Places.{SawParent, few-for, few-sequence, most_rounds, parent-or-less, request-ends, rounds-looked, view_on}
use Rattle.zp_settle_laws.proofs.Guessing.{guess-reads_all, guess-reads_more}
use Rattle.zp_settle_laws.proofs.Truths.{planned-now}
use Rattle.zp_settle_laws.specs.Looks.{asks_of, asks_of_all, looks, looks_in}
use Rattle.zx_base.proofs.Booleans.{either}
use Rattle.zx_base.specs.Maps.{Bytes}

-- it has ended, or so much remains
abbrev pub Then : Store → ℕ → Core → Type 0
Then s n c = (is_shut c.stage ≡ true) ⊎ Remains s c n

fewer-enough : (Now Then : Type 0) (m n : ℕ) (r : Request) (k : ℕ) → (Now → Then) → m ≤ n → AreEnough Now n r k → AreEnough Then m r k
fewer-enough Now Then m n r k f le (inl h) = let most = h.1 in inl (f h.0, omega (arith, le, most))
fewer-enough Now Then m n r k f le (inr most) = inr (omega (arith, le, most))

fewer-spare : (Now Then : Type 0) (m n : ℕ) (r : Request) (v : View) (k : ℕ) → (Now → Then) → m ≤ n → SawParent r v ⊎ AreEnough Now n r k → SawParent r v ⊎ AreEnough Then m r k
fewer-spare Now Then m n r v k f le (inl saw) = inl saw
fewer-spare Now Then m n r v k f le (inr most) = inr (fewer-enough Now Then m n r k f le most)

key-some : (key : Bytes) → want.Key key ∷ [] ≡ [] → ⊥
key-some key h = cc

again-most : (b : Bool) (r : Request) → again_for b r ≤ looks r + 1
again-most true r = omega arith
again-most false r = omega arith

module _ (s : Store) (n : ℕ) where
  is-then : (x : Core × List Action) (c' : Core) (out : List Action) → Then s n x.0 → Is x c' out → Then s n c'
  is-then x c' out k i = subst (Then s n) (sym i.0) k

  is-true : (x : Core × List Action) (c' : Core) (out : List Action) → IsTruthful s c' → Is x c' out → IsTruthful s x.0
  is-true x c' out k i = subst (IsTruthful s) i.0 k

  -- ---- a reply

  answered : (c d : Core) (o : Option Cause) → asks_of_all c.waiting ≤ n → d.stage ≡ stage_after o → d.waiting ≡ c.waiting → Then s n d
  answered c d (Some why) w st same = inl (ap is_shut st)
  answered c d None w st same = inr (record { asks = 0; out = subst (λ t. AsksOut s d.who t 0) (sym st) tt; most = omega (arith, w, ap asks_of_all same) })

  waits-then : (c : Core) (p : Pending) → asks_of_all c.waiting ≤ n → Then s n (waits c p).0
  waits-then c p w = go (is_due c p)
    where
      go : (b : Bool) → Then s n (if b then replied c p else (record c { stage = Waiting p }, [])).0
      go true = answered c (replied c p).0 p.ends w refl refl
      go false = inr (record { asks = 0; out = tt; most = omega (arith, w) })

  -- ---- a look

  -- a plan on the present is carried out
  planned-out : (who : Who) (v : View) (r : Request) (p : Plan) (k : ℕ) → AreEnough (IsNow s v) 1 r k → IsAskedPlan who v p → CommitsOut s who r p k
  planned-out who v r p k (inl h) asked = let most = h.1 in inl (omega (arith, most, ap (λ b. again_for b r) (planned-now s who v p asked (h.0).agrees)))
  planned-out who v r p k (inr most) asked = inl (omega (arith, most, again-most (succeeds s (plan_txn p)) r))

  -- a plan on a guess may fail: on the present it is followed by one more decision, which nothing is lacking for, or nothing but the
  -- key of the node
  guessed-out : (who : Who) (v : View) (key : Bytes) (r : Request) (now : ℕ) (p : Plan) (k : ℕ) → AreEnough (IsNow s v) 2 r k → SawParent r v ⊎ AreEnough (IsNow s v) 3 r k
      → AreNeeds r who v (want.Key key ∷ []) → MayGuess r v key → AreNeeds r who (guessed v key) [] → GuardsReads r who (guessed v key) p → CommitsOut s who r p k
  guessed-out who v key r now p k (inl h) (inl saw) needs may whole reads = inr (0, h.1, guess-reads_all s who r v key p (h.0).agrees needs may whole reads saw)
  guessed-out who v key r now p k (inl h) (inr (inl more)) needs may whole reads = inr (1, more.1, guess-reads_more s who r v key p needs may whole reads)
  guessed-out who v key r now p k (inl h) (inr (inr most)) needs may whole reads = inl (omega (arith, most, again-most (succeeds s (plan_txn p)) r))
  guessed-out who v key r now p k (inr most) spare needs may whole reads = inl (omega (arith, most, again-most (succeeds s (plan_txn p)) r))

  decided-then : (c : Core) (xid : ℤ) (r : Request) (v : View) (now : ℕ) (d : Decision) (k : ℕ) → AreEnough (IsNow s v) 1 r k → k + asks_of_all c.waiting ≤ n → IsBacked r c.who now v d → Then s n (decided c xid r v now d).0
  decided-then c xid r v now (Answered answer arm) k m w back = waits-then c (pending v xid answer (change_by r v arm) None) (omega (arith, w))
  decided-then c xid r v now (Planned p) k m w back = inr (record { asks = k; out = planned-out c.who v r p k m (back.0).asked; most = w })
  decided-then c xid r v now Expired k m w back = waits-then c (expired v xid) (omega (arith, w))
  decided-then c xid r v now (Moved found) k m w back = waits-then c (moved c.who v found xid) (omega (arith, w))

  module _ (c' : Core) (out : List Action) where
    looks-then : (c : Core) (xid : ℤ) (r : Request) (v : View) (now k : ℕ) → LooksOn s c.who r v k → k + asks_of_all c.waiting ≤ n → IsTruthful s c' → Looks c xid r v now c' out → Then s n c'
    looks-then c xid r v now k l w t (inr (inr y)) =
        let d = keeps c r v in
        is-then (decided d xid r v now y.decision) c' out (decided-then d xid r v now y.decision k (fewer-enough (IsNow s v) (IsNow s v) 1 (l.rounds + 1) r k (λ h. h) (omega arith) l.most) w y.backed) y.is
    looks-then c xid r v now k l w t (inr (inl y)) = go l.rounds l.ends l.most l.spare
      where
        d : Core × List Action
        d = decided c xid r (guessed v y.key) now (Planned y.plan)

        go : (m : ℕ) → EndsIf r c.who m v → AreEnough (IsNow s v) (m + 1) r k → SawParent r v ⊎ AreEnough (IsNow s v) (m + 2) r k → Then s n c'
        go zero ends most spare = absurd (key-some y.key (ends (few-sequence r c.who.session v (y.may).sequence) (want.Key y.key ∷ []) y.needs))
        go (suc m) ends most spare =
            let two = fewer-enough (IsNow s v) (IsNow s v) 2 (suc m + 1) r k (λ h. h) (omega arith) most in
            let three = fewer-spare (IsNow s v) (IsNow s v) 3 (suc m + 2) r v k (λ h. h) (omega arith) spare in
            let out_now = guessed-out c.who v y.key r now y.plan k two three y.needs y.may y.whole (y.backed.0).reads in
            is-then d c' out (inr (record { asks = k; out = out_now; most = w })) y.is
    looks-then c xid r v now k l w t (inl y) =
        is-then (asks_for c xid r v (take max_ranges y.lacking)) c' out (go l.rounds l.ends l.most l.spare (is-true (asks_for c xid r v (take max_ranges y.lacking)) c' out t y.is)) y.is
      where
        go : (m : ℕ) → EndsIf r c.who m v → AreEnough (IsNow s v) (m + 1) r k → SawParent r v ⊎ AreEnough (IsNow s v) (m + 2) r k → AreFewOwned c.who.session v → Then s n (asks_for c xid r v (take max_ranges y.lacking)).0
        go zero ends most spare few = absurd (y.some (ends (few-for r c.who.session v few) y.lacking y.needs))
        go (suc m) ends most spare few = inr (record {
          asks = k;
          out = record {
            rounds = m;
            ends = λ z parts len then_few. ends (few-for r c.who.session v few) y.lacking z parts y.needs y.some len then_few;
            most = fewer-enough (IsNow s v) (IsAskedNow s v) (m + 2) (suc m + 1) r k (λ h. inr h) (omega arith) most;
            spare = fewer-spare (IsNow s v) (IsAskedNow s v) (m + 3) (suc m + 2) r v k (λ h. inr h) (omega arith) spare;
          };
          most = w;
        })

    records-then : (c : Core) (ws : List Want) (parts : List ActAns) (Next : Type 0) → (Next → Then s n c') → IfRecords c ws parts c' out Next → Then s n c'
    records-then c ws parts Next f (inl e) = is-then (closed_by c (cause.Damaged e.key e.value)) c' out (inl refl) e.is
    records-then c ws parts Next f (inr h) = f h.1

    -- ---- a frame is taken up

    readable-then : (c : Core) (now k : ℕ) (x : Frame) (o : Option Told) → plain_reply c.watches x ≡ o → looks_in x + 2 ≤ k → k + asks_of_all c.waiting ≤ n → TakesReadable c now c' out x o → Then s n c'
    readable-then c now k x (Some t) p m w h = is-then (plainly c (xid_of x) t) c' out (answered c (plainly c (xid_of x) t).0 (end_of_plain (is_auth_refusal t.reply)) (omega (arith, w)) refl refl) h
    readable-then c now k NoHeader None p m w h = absurd h
    readable-then c now k (Unreadable xid place) None p m w h = absurd h
    readable-then c now k (Unknown xid kind) None p m w h = absurd h
    -- a plan on a kept view may fail: then the request is looked up anew, and planned again
    readable-then c now k (Asks xid r) None p m w h = go (first-or-anew c c' xid r now out (update_path r) h)
      where
        go : PlansBeside c xid r now c' out ⊎ Looks c xid r empty_view now c' out → Then s n c'
        go (inl y) =
            is-then (decided (record c { views = y.views }) xid r y.view now (Planned y.plan)) c' out
            (inr (record { asks = k; out = (let again = again-most (succeeds s (plan_txn y.plan)) r in inl (omega (arith, m, again))); most = w })) y.is
        go (inr (inr (inl y))) = absurd (let begun : true ≡ false = (y.may).begun in cc)
        go (inr (inr (inr y))) = absurd (y.whole.enough refl (plain-none c.watches no_watches (Asks xid r) p) head_want (inl refl) refl)
        go (inr (inl y)) =
            is-then (asks_for c xid r empty_view (take max_ranges y.lacking)) c' out (inr (record {
              asks = k;
              out = record {
                rounds = most_rounds r;
                ends = λ z parts len few. request-ends r c.who (view_on empty_view z (take max_ranges y.lacking) parts) few;
                most = inl (inl (refl, refl, refl), omega (arith, m, rounds-looked r));
                spare = elim (parent-or-less r empty_view) [
                  | inl saw ↦ inl saw
                  | inr less ↦ inr (inl (inl (refl, refl, refl), omega (arith, m, less)))
                ];
              };
              most = w;
            })) y.is

    takes-then : (c : Core) (bytes : List ℕ) (now k : ℕ) → asks_of bytes ≤ k + 2 → k + asks_of_all c.waiting ≤ n → TakesFrame c bytes now c' out → Then s n c'
    takes-then c bytes now k m w h = readable-then c now k (read_request bytes) (plain_reply c.watches (read_request bytes)) refl (omega (arith, m)) w h

    takes_up-then : (c : Core) (bytes : List ℕ) (now : ℕ) → asks_of bytes + asks_of_all c.waiting ≤ n → TakesUp c bytes now c' out → Then s n c'
    takes_up-then c bytes now w h =
        either (is_alive_due c.kept now c.timeout) (Is (keeps_alive c bytes now) c' out) (TakesFrame c bytes now c' out) (Then s n c') h
        (is-then (keeps_alive c bytes now) c' out (inr (record { asks = asks_of bytes; out = omega arith; most = w })))
        (takes-then c bytes now (asks_of bytes) (omega arith) w)

    -- ---- answers

    still-then : (c : Core) (bytes : List ℕ) (v : View) (now k : ℕ) (o : Option Kv) → asks_of bytes ≤ k + 2 → k + asks_of_all c.waiting ≤ n → StillMine c bytes v now c' out o → Then s n c'
    still-then c bytes v now k None m w h = is-then (waits c (expired v (xid_of (read_request bytes)))) c' out (waits-then c (expired v (xid_of (read_request bytes))) (omega (arith, w))) h
    still-then c bytes v now k (Some kv) m w h =
        let p = moved c.who v kv.mod_revision (xid_of (read_request bytes)) in
        either (int_eq kv.mod_revision c.who.mine) (TakesFrame c bytes now c' out) (Is (waits c p) c' out) (Then s n c') h (takes-then c bytes now k m w) (is-then (waits c p) c' out (waits-then c p (omega (arith, w))))

    checked-then : (c : Core) (bytes : List ℕ) (now k : ℕ) (a : Answer) → asks_of bytes ≤ k + 2 → k + asks_of_all c.waiting ≤ n → Checked c bytes now c' out a → Then s n c'
    checked-then c bytes now k a m w h = of_txn a _ (Then s n c') h (λ z b parts f.
        let v = viewed z (attach_wants c.who.session) parts in
        records-then c (attach_wants c.who.session) parts (Looked c bytes now c' out v) (still-then c bytes v now k (found_at v (life_key c.who.session)) m w) f)

    alive-then : (c : Core) (bytes : List ℕ) (now k : ℕ) (a : Answer) → asks_of bytes ≤ k + 1 → k + asks_of_all c.waiting ≤ n → KeptAlive c bytes now c' out a → Then s n c'
    alive-then c bytes now k a m w h = of_alive a _ (Then s n c') h (λ ttl f.
        either (int_eq ttl (pos 0)) (Is (checks c bytes) c' out) (TakesFrame c bytes now c' out) (Then s n c') f
        (is-then (checks c bytes) c' out (inr (record { asks = k; out = m; most = w })))
        (takes-then c bytes now k (omega (arith, m)) w))

    read-then : (c : Core) (xid : ℤ) (r : Request) (v : View) (ws : List Want) (now k : ℕ) (a : Answer) → AsksAfter s c.who (Reading xid r v ws) a k → k + asks_of_all c.waiting ≤ n → IsTruthful s c' → ReadOn c xid r v ws now c' out a → Then s n c'
    read-then c xid r v ws now k (answer.Txn z b parts) l w t h =
        let y = with_parts (at_revision v z) ws parts in
        records-then c ws parts (Looks c xid r y now c' out) (looks-then c xid r y now k l w t) h
    read-then c xid r v ws now k (answer.Range z found) l w t h = absurd h
    read-then c xid r v ws now k (answer.Granted z id ttl) l w t h = absurd h
    read-then c xid r v ws now k (answer.Alive z id ttl) l w t h = absurd h

    committed-then : (c : Core) (xid : ℤ) (r : Request) (u : View) (p : Plan) (now k : ℕ) (z : ℤ) (b : Bool) (parts : List ActAns) → CommitAfter s c.who r (viewed z p.again parts) b k → k + asks_of_all c.waiting ≤ n → IsTruthful s c' → Committed c xid r u p now c' out z b parts → Then s n c'
    committed-then c xid r u p now k z true parts l w t h =
        let e = leaves-beside c h.kept (update_path r) u p z parts h.leaves in
        is-then (waits h.kept (finishes xid r p z parts)) c' out (waits-then h.kept (finishes xid r p z parts) (omega (arith, w, ap (λ (d : Core). asks_of_all d.waiting) e.1))) h.is
    committed-then c xid r u p now k z false parts l w t h =
        let y = viewed z p.again parts in
        records-then c p.again parts (Looks c xid r y now c' out) (looks-then c xid r y now k l w t) h

    commit-then : (c : Core) (xid : ℤ) (r : Request) (v : View) (p : Plan) (m now k : ℕ) (a : Answer) → AsksAfter s c.who (Committing xid r v p m) a k → k + asks_of_all c.waiting ≤ n → IsTruthful s c' → CommitAnswered c xid r v p now c' out a → Then s n c'
    commit-then c xid r v p m now k (answer.Txn z b parts) l w t h = committed-then c xid r v p now k z b parts l w t h
    commit-then c xid r v p m now k (answer.Range z found) l w t h = absurd h
    commit-then c xid r v p m now k (answer.Granted z id ttl) l w t h = absurd h
    commit-then c xid r v p m now k (answer.Alive z id ttl) l w t h = absurd h

    connected-then : (c : Core) (now k : ℕ) (new : Connect) (step : ConnectStep) → AsksOut s c.who (Connecting new) k → k + asks_of_all c.waiting ≤ n → Is (connected c now new step) c' out → Then s n c'
    connected-then c now k new (steps.Ask q) l w i = is-then (connected c now new (steps.Ask q)) c' out (inr (record { asks = k; out = l; most = w })) i
    connected-then c now k new (steps.Attached response who timeout number zxid) l w i = is-then (connected c now new (steps.Attached response who timeout number zxid)) c' out (inr (record { asks = 0; out = tt; most = omega (arith, w) })) i
    connected-then c now k new (steps.Ahead client head) l w i = is-then (closed_by c (cause.ZxidAhead client head)) c' out (inl refl) i
    connected-then c now k new steps.Unknown l w i = is-then (connected c now new steps.Unknown) c' out (inl refl) i
    connected-then c now k new (steps.Taken revision) l w i = is-then (closed_by c (cause.Taken revision)) c' out (inl refl) i

    connects-then : (c : Core) (x : Connect) (now k : ℕ) (a : Answer) → ConnectAfter s x a k → k + asks_of_all c.waiting ≤ n → Connects c x (Some a) now c' out → Then s n c'
    connects-then c x now k a l w (inl e) = is-then (closed_by c (cause.Damaged e.key e.value)) c' out (inl refl) e.is
    connects-then c x now k a l w (inr t) = connected-then c now k t.new t.step (l t.step t.new t.steps) w t.is

    answers-then : (c : Core) (a : Answer) (now k : ℕ) (st : Stage) → AsksAfter s c.who st a k → k + asks_of_all c.waiting ≤ n → IsTruthful s c' → Answers c a now c' out st → Then s n c'
    answers-then c a now k (Unconnected fresh) l w t h = absurd h
    answers-then c a now k (Connecting x) l w t h = connects-then c x now k a l w h
    answers-then c a now k Ready l w t h = absurd h
    answers-then c a now k (KeepingAlive bytes) l w t h = alive-then c bytes now k a l w h
    answers-then c a now k (Checking bytes) l w t h = checked-then c bytes now k a l w h
    answers-then c a now k (Reading xid r v ws) l w t h = read-then c xid r v ws now k a l w t h
    answers-then c a now k (Committing xid r v p m) l w t h = commit-then c xid r v p m now k a l w t h
    answers-then c a now k (Waiting p) l w t h = absurd h
    answers-then c a now k Shut l w t h = absurd h

  -- ---- frames that wait are taken up

  shut-goes : (now : ℕ) (c c' : Core) (out : List Action) → is_shut c.stage ≡ true → Goes now c c' out → is_shut c'.stage ≡ true
  shut-goes now c c' out e (rests why same none) = ap (λ (d : Core). is_shut d.stage) same ∙ e
  shut-goes now c c' out e (takes d frame more first later ready w t g o) = let f : false ≡ true = sym (ap is_shut ready) ∙ e in absurd (cc)

  pub goes-then : (now : ℕ) (c c' : Core) (out : List Action) → Then s n c → Goes now c c' out → Then s n c'
  goes-then now c c' out k (rests why same none) = subst (Then s n) (sym same) k
  goes-then now c c' out (inl e) (takes d frame more first later ready w t g o) = inl (shut-goes now c c' out e (takes d frame more first later ready w t g o))
  goes-then now c c' out (inr k) (takes d frame more first later ready w t g o) =
      goes-then now d c' later (takes_up-then d first (record c { waiting = more }) frame now (omega (arith, k.most, ap asks_of_all w)) t) g

  -- what is held after the first part of a step is held after the step, or nothing is
  true-before : (now : ℕ) (c c' : Core) (out : List Action) → IsTruthful s c' → Goes now c c' out → IsTruthful s c
  true-before now c c' out t (rests why same none) = subst (IsTruthful s) same t
  true-before now c c' out t (takes d frame more first later ready w u g o) = subst (λ st. TruthIn s c.who st) (sym ready) tt

  -- ---- a whole step

  pub answer-then : (c c' : Core) (a : Answer) (now : ℕ) (out : List Action) → RemainsAfter s c a n → IsTruthful s c' → StepsOpen c (input.Answer a) now c' out → Then s n c'
  answer-then c c' a now out k t h = goes-then now h.mid c' h.later (answers-then h.mid h.first c a now k.asks c.stage k.after k.most (true-before now h.mid c' h.later t h.goes) h.handled) h.goes

  entered-then : (c : Core) (e : Entry) (st : Stage) → c.stage ≡ st → asks_of_all c.waiting ≤ n → Remains s c n → Then s n (then_reply (entered c e) st).0
  entered-then c e (Waiting p) at w k = waits-then (entered c e).0 p w
  entered-then c e (Unconnected f) at w k = inr (record { asks = k.asks; out = k.out; most = k.most })
  entered-then c e (Connecting f) at w k = inr (record { asks = k.asks; out = k.out; most = k.most })
  entered-then c e Ready at w k = inr (record { asks = k.asks; out = k.out; most = k.most })
  entered-then c e (KeepingAlive f) at w k = inr (record { asks = k.asks; out = k.out; most = k.most })
  entered-then c e (Checking f) at w k = inr (record { asks = k.asks; out = k.out; most = k.most })
  entered-then c e (Reading xid r v ws) at w k = inr (record { asks = k.asks; out = k.out; most = k.most })
  entered-then c e (Committing xid r v p m) at w k = inr (record { asks = k.asks; out = k.out; most = k.most })
  entered-then c e Shut at w k = inr (record { asks = k.asks; out = k.out; most = k.most })

  pub entry-then : (c c' : Core) (e : _) (now : ℕ) (out : List Action) → Remains s c n → StepsOpen c (input.Entry e) now c' out → Then s n c'
  entry-then c c' e now out k h = goes-then now h.mid c' h.later (is-then (told_entry c (arc_value e)) h.mid h.first (entered-then c (arc_value e) c.stage refl (omega (arith, k.most)) k) h.handled) h.goes
