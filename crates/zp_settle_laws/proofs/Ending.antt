-- A settle comes to its end: each of its lines leaves fewer, and where none is left it has nothing to do.
use Rattle.std.proofs.Common.{◌≡◌, ℕ, zero, suc, ◌+◌, ◌*◌, ◌≤◌, length, refl, sym, ap, ◌∙◌, subst, arith, Bool, true, false, ℤ, inl, inr}
use Rattle.std.specs.Prelude.{Option, Some, None, ◌⊎◌, if◌then◌else◌, is_some, option_and_then, nat_abs}
use Rattle.ev_types.specs.Store.{Store, succeeds}
use Rattle.ev_types.specs.declared.answer.Answer.{Answer}
use Rattle.ev_types.specs.declared.answer.Answer.TheVariants as answer
use Rattle.zk_model.specs.declared.request.Request.{Request}
use Rattle.zn_layout.specs.declared.entry.Entry.{Entry}
use Rattle.zn_view.specs.Asks.{plan_txn}
use Rattle.zn_view.specs.Seen.{View}
use Rattle.zn_view.specs.declared.plan.Who.{Who}
use Rattle.zs_reap.specs.declared.reap.Reap.{Reap}
use Rattle.zs_session.specs.Sessions.{attach_txn}
use Rattle.zs_session.specs.Answering.{viewed}
use Rattle.zs_session.specs.declared.connect.Phase.{Phase}
use Rattle.zs_session.specs.declared.connect.Phase.TheVariants.{Attaching, Creating, Granting, Keeping, Looking, LookingAgain, Over, Unasked}
use Rattle.zt_text.specs.declared.script.Happening.{Happening}
use Rattle.zt_text.specs.declared.script.Happening.TheVariants as line
use Rattle.zx_base.proofs.Options.{none_some, some_is, some-from_is_some}
use Rattle.zp_step.specs.Stages.{Core, Stage, Unconnected, Connecting, Ready, KeepingAlive, Checking, Reading, Committing, Waiting, Shut}
use Rattle.zp_script.specs.Effects.{Does, EntersBy}
use Rattle.zp_script.specs.Entries.{next_entry}
use Rattle.zp_script.specs.Faults.{flight_at}
use Rattle.zp_script.specs.Happens.{Settles, max_settling, entry_line, flight_line, is_waiting, settling, settling_conn}
use Rattle.zp_script.specs.Worlds.{Actor, Closed, Conn, Connection, Reaper, World, conn_at, is_closed_actor}
use Rattle.zp_script.specs.declared.flight.Asking.{Asking}
use Rattle.zp_script.specs.declared.flight.Flight.{Flight}
use Rattle.zp_script.specs.declared.flight.Flight.TheVariants.{Out, Carried, Denied}
use Rattle.zp_world_laws.proofs.Accounts.{exec-accounted}
use Rattle.zp_world_laws.proofs.Arrivals.{acts-accounted}
use Rattle.zp_world_laws.proofs.Entering.{next-true}
use Rattle.zp_world_laws.proofs.Lives.{answer-acts, entry-acts, known-at}
use Rattle.zp_world_laws.proofs.Running.{every-run-accounted}
use Rattle.zp_world_laws.proofs.Settled.{settled-idle}
use Rattle.zp_world_laws.specs.Accounting.{IsAccounted}
use Rattle.zp_world_laws.specs.Reaping.{IsReapFlight}
use Rattle.zp_settle_laws.proofs.Bytes.{first-counts, runs-counts}
use Rattle.zp_settle_laws.proofs.Carried.{connect-most}
use Rattle.zp_settle_laws.proofs.Coming.{AreEnough, AsksAfter, AsksOut, ConnectOut, IsAskedNow, IsNow, again_for, attach_again}
use Rattle.zp_settle_laws.proofs.Enough.{lines-enough}
use Rattle.zp_settle_laws.proofs.Entered.{after-cursor, taken-left, wanted-served}
use Rattle.zp_settle_laws.proofs.Lasting.{ConnLeft, CoreLeft, Left, LeftBy, LeftOf, ReapLeft, ReaperLeft, answers_of, asked-is, delivers-left, executes-left, left-at, out-some, reap-some, told-most}
use Rattle.zp_settle_laws.proofs.Places.{SawParent, parent-or-less, request-ends, rounds-looked, most_rounds, view_on}
use Rattle.zp_settle_laws.proofs.Reaps.{any-phase, reap-most}
use Rattle.zp_settle_laws.specs.Lines.{asks_in, asks_left, lines_left, lines_of}
use Rattle.zp_settle_laws.specs.Looks.{asks_of_all, looks}
use Rattle.zp_settle_laws.specs.Settling.{EndsByItsBound, EverySettleEnds, SettlesToItsEnd}
use Rattle.zx_base.proofs.Booleans.{true-not_false as true-false}

-- ---- what a settle does next

module _ (w : World) (c : ℕ) (x : Conn) (there : conn_at c w ≡ Some x) where
  here : settling c w ≡ settling_conn c w (Some x)
  here = ap (settling_conn c w) there

  opened : (h : Happening) → settling c w ≡ Some h → is_closed_actor x.actor ≡ false
  opened h e = go (is_closed_actor x.actor) refl (sym here ∙ e)
    where
      go : (b : Bool) → is_closed_actor x.actor ≡ b → (if b then None else flight_line c w x x.flight) ≡ Some h → b ≡ false
      go true f g = absurd (none_some g)
      go false f g = refl

  pub is-flight : (h : Happening) → settling c w ≡ Some h → flight_line c w x x.flight ≡ Some h
  is-flight h e = go (is_closed_actor x.actor) (sym here ∙ e)
    where
      go : (b : Bool) → (if b then None else flight_line c w x x.flight) ≡ Some h → flight_line c w x x.flight ≡ Some h
      go true g = absurd (none_some g)
      go false g = g

  -- with nothing out, an entry is there
  pub is-entry : (h : Happening) → entry_line c w x ≡ Some h → (line.Entry c ≡ h) × (is_some (next_entry c w) ≡ true)
  is-entry h e = go (is_waiting x.actor) (is_some (next_entry c w)) refl e
    where
      go : (a b : Bool) → is_some (next_entry c w) ≡ b → ◌≡◌ {A = Option Happening} (if a then (if b then Some (line.Entry c) else None) else None) (Some h) → (line.Entry c ≡ h) × (is_some (next_entry c w) ≡ true)
      go true true f g = (some_is g, f)
      go true false f g = absurd (none_some g)
      go false b f g = absurd (none_some g)

-- ---- each of its lines leaves fewer

module _ (w w' : World) (c j : ℕ) (k : IsAccounted w) (l : Left c w (suc j)) where
  fewer : (x : Conn) → conn_at c w ≡ Some x → (h : Happening) → settling c w ≡ Some h → Does w h w' → Left c w' j × IsAccounted w'
  fewer x there h e does = by-flight x.flight refl (is-flight w c x there h e)
    where
      by-flight : (f : Option Flight) → x.flight ≡ f → flight_line c w x f ≡ Some h → Left c w' j × IsAccounted w'
      by-flight (Some (Out a)) g p =
          let ex = subst (λ i. Does w i w') (sym (some_is p)) does in
          let same : x ≡ ex.conn = some_is (sym there ∙ ex.found) in
          (executes-left w w' c j ex k (ap (λ (y : Conn). is_closed_actor y.actor) (sym same) ∙ opened w c x there h e) l, exec-accounted w w' c ex k)
      by-flight (Some (Carried a)) g p =
          let d = subst (λ i. Does w i w') (sym (some_is p)) does in
          let k' = acts-accounted w w' c k (answer-acts w w' c d k) in
          (delivers-left w w' c j d k k' l, k')
      by-flight (Some Denied) g p =
          let d = subst (λ i. Does w i w') (sym (some_is p)) does in
          let k' = acts-accounted w w' c k (answer-acts w w' c d k) in
          (delivers-left w w' c j d k k' l, k')
      by-flight None g p =
          let n = is-entry w c x there h p in
          let d : EntersBy c w w' (next_entry c w) = subst (λ i. Does w i w') (sym n.0) does in
          let idle : flight_at c w ≡ None = ap (option_and_then (λ (y : Conn). y.flight)) there ∙ g in
          let t = some-from_is_some (next_entry c w) n.1 in
          let y : EntersBy c w w' (Some t.0) = subst (EntersBy c w w') t.1 d in
          (taken-left w w' c j t.0 t.1 idle k l y.0 y.1 y.2, acts-accounted w w' c k (entry-acts w w' c (next_entry c w) refl d idle k))

  pub does-fewer : (h : Happening) → settling c w ≡ Some h → Does w h w' → Left c w' j × IsAccounted w'
  does-fewer h e does = go (conn_at c w) refl e
    where
      go : (o : Option Conn) → conn_at c w ≡ o → settling_conn c w o ≡ Some h → Left c w' j × IsAccounted w'
      go None f p = absurd (none_some p)
      go (Some x) f p = fewer x f h e does

-- ---- where it does something, some line is left

module _ (w : World) (c n : ℕ) (k : IsAccounted w) (l : Left c w n) where
  out-left : (x : Conn) (a : Asking) (b : Actor) → conn_at c w ≡ Some x → x.actor ≡ b → x.flight ≡ Some (Out a) → is_closed_actor b ≡ false → LeftBy w x b n → 1 ≤ n
  out-left x a (Connection core) there actor flight opens m =
      let y : ConnLeft w.store (length w.entries) core (Some (Out a)) n = subst (λ f. ConnLeft w.store (length w.entries) core f n) flight m in
      let r = y.left in
      let most = y.most in
      omega (arith, most, r.most, out-some w.store core.who core.stage a.ask r.asks (asked-is w c x core a k there actor flight) r.out, told-most w c x core k there actor)
  out-left x a (Reaper r) there actor flight opens m =
      let y : ReaperLeft w.store r (Some (Out a)) n = subst (λ f. ReaperLeft w.store r f n) flight m in
      let known : IsReapFlight w.store r (Some (Out a)) = subst (IsReapFlight w.store r) flight (known-at w c x (Reaper r) k.known there actor) in
      let most = y.most in
      omega (arith, most, reap-some w.store r.session a.ask r.phase y.total known.asked y.left)
  out-left x a Closed there actor flight opens m = absurd (true-false opens)

  answer-one : (x : Conn) (b : Actor) → conn_at c w ≡ Some x → x.actor ≡ b → answers_of x.flight ≡ 1 → is_closed_actor b ≡ false → LeftBy w x b n → 1 ≤ n
  answer-one x (Connection core) there actor one opens m = let most = m.most in omega (arith, most, one, told-most w c x core k there actor)
  answer-one x (Reaper r) there actor one opens m = let most = m.most in omega (arith, most, one)
  answer-one x Closed there actor one opens m = absurd (true-false opens)

  entry-one : (x : Conn) (b : Actor) (e : Entry) → conn_at c w ≡ Some x → x.actor ≡ b → next_entry c w ≡ Some e → is_waiting b ≡ true → LeftBy w x b n → 1 ≤ n
  entry-one x (Connection core) e there actor next waits m =
      let served = wanted-served w c x core e there actor next in
      let serves = (k.whole).serving c x core there actor served in
      let after = after-cursor w c core e k next (next-true w c x core e there actor serves k.entries next) in
      let most = m.most in
      omega (arith, most, after, ap (λ b. if b then nat_abs core.cursor else 0) served)
  entry-one x (Reaper r) e there actor next waits m = absurd (true-false (sym waits))
  entry-one x Closed e there actor next waits m = absurd (true-false (sym waits))

  pub some-left : (h : Happening) → settling c w ≡ Some h → 1 ≤ n
  some-left h e = go (conn_at c w) refl e
    where
      by-flight : (x : Conn) → conn_at c w ≡ Some x → (f : Option Flight) → x.flight ≡ f → flight_line c w x f ≡ Some h → 1 ≤ n
      by-flight x there (Some (Out a)) g p = out-left x a x.actor there refl g (opened w c x there h e) (left-at c w x n there l)
      by-flight x there (Some (Carried a)) g p = answer-one x x.actor there refl (ap answers_of g) (opened w c x there h e) (left-at c w x n there l)
      by-flight x there (Some Denied) g p = answer-one x x.actor there refl (ap answers_of g) (opened w c x there h e) (left-at c w x n there l)
      by-flight x there None g p =
          let t = some-from_is_some (next_entry c w) (is-entry w c x there h p).1 in
          entry-one x x.actor t.0 there refl t.1 (waiting x p) (left-at c w x n there l)
        where
          waiting : (x : Conn) → entry_line c w x ≡ Some h → is_waiting x.actor ≡ true
          waiting x p = by (is_waiting x.actor) p
            where
              by : (b : Bool) → ◌≡◌ {A = Option Happening} (if b then (if is_some (next_entry c w) then Some (line.Entry c) else None) else None) (Some h) → b ≡ true
              by true q = refl
              by false q = absurd (none_some q)

      go : (o : Option Conn) → conn_at c w ≡ o → settling_conn c w o ≡ Some h → 1 ≤ n
      go None f p = absurd (none_some p)
      go (Some x) f p = by-flight x f x.flight refl (is-flight w c x f h e)

-- ---- it comes to its end

abbrev SettlesOn : ℕ → ℕ → World → World → Option Happening → Type 0
SettlesOn n c w w' o = elim o [ None ↦ w' ≡ w | Some h ↦ (mid : World) × Does w h mid × Settles n c mid w' ]

pub record IsSettled (c : ℕ) (w : World) : Type 0 where
  pub nothing : settling c w ≡ None
  pub accounted : IsAccounted w

settled : (n c : ℕ) (w w' : World) → IsAccounted w → Left c w n → Settles n c w w' → IsSettled c w'
settled zero c w w' k l h = subst (IsSettled c) (sym h) (record { nothing = none (settling c w) refl; accounted = k })
  where
    none : (o : Option Happening) → settling c w ≡ o → settling c w ≡ None
    none None e = e
    none (Some x) e = absurd (omega (arith, some-left w c 0 k l x e))
settled (suc n) c w w' k l h = go (settling c w) refl (λ mid. settled n c mid w') h
  where
    go : (o : Option Happening) → settling c w ≡ o → ((mid : World) → IsAccounted mid → Left c mid n → Settles n c mid w' → IsSettled c w') → SettlesOn n c w w' o → IsSettled c w'
    go None e later g = subst (IsSettled c) (sym g) (record { nothing = e; accounted = k })
    go (Some x) e later (mid, does, rest) = (let t = does-fewer w mid c n k l x e does in later mid t.1 t.0 rest)

-- ---- how many lines are left at first

again-most : (b : Bool) (r : _) → again_for b r ≤ looks r + 1
again-most true r = omega arith
again-most false r = omega arith

attach-most : (b : Bool) → attach_again b ≤ 1
attach-most true = omega arith
attach-most false = omega arith

connect-first : (s : Store) (id : ℤ) (p : Phase) → ConnectOut s id p 4
connect-first s id Unasked = tt
connect-first s id Looking = omega arith
connect-first s id Granting = omega arith
connect-first s id Creating = omega arith
connect-first s id (Keeping seen life) = omega arith
connect-first s id LookingAgain = omega arith
connect-first s id (Attaching seen life) = omega (arith, attach-most (succeeds s (attach_txn id seen life)))
connect-first s id Over = tt

-- there is one ask to spare, until the parent of a sequence node was looked up
spare-first : (Now : Type 0) (r : Request) (v : View) (n : ℕ) → n ≤ 3 → SawParent r v ⊎ AreEnough Now (most_rounds r + n) r (2 * looks r + 3)
spare-first Now r v n few = elim (parent-or-less r v) [
  | inl saw ↦ inl saw
  | inr less ↦ inr (inr (omega (arith, few, less)))
]

stage-first : (s : Store) (who : Who) (st : Stage) → AsksOut s who st (asks_in st)
stage-first s who (Unconnected fresh) = tt
stage-first s who (Connecting x) = connect-first s x.request.session x.phase
stage-first s who Ready = tt
stage-first s who (KeepingAlive f) = omega arith
stage-first s who (Checking f) = omega arith
stage-first s who (Reading xid r v ws) = record {
  rounds = most_rounds r;
  ends = λ z parts len few. request-ends r who (view_on v z ws parts) few;
  most = inr (omega (arith, rounds-looked r));
  spare = spare-first (IsAskedNow s v) r v 3 (omega arith);
}
stage-first s who (Committing xid r v p m) = inl (omega (arith, again-most (succeeds s (plan_txn p)) r))
stage-first s who (Waiting p) = tt
stage-first s who Shut = tt

after-first : (s : Store) (who : Who) (st : Stage) (a : Answer) → AsksAfter s who st a (asks_in st)
after-first s who (Connecting x) a = connect-most s x a 4 (omega arith)
after-first s who (KeepingAlive f) a = omega arith
after-first s who (Checking f) a = omega arith
after-first s who (Reading xid r v ws) (answer.Txn z b parts) = record {
  rounds = most_rounds r;
  ends = λ few. request-ends r who (view_on v z ws parts) few;
  most = inr (omega (arith, rounds-looked r));
  spare = spare-first (IsNow s (view_on v z ws parts)) r (view_on v z ws parts) 2 (omega arith);
}
after-first s who (Reading xid r v ws) (answer.Range z found) = tt
after-first s who (Reading xid r v ws) (answer.Granted z id ttl) = tt
after-first s who (Reading xid r v ws) (answer.Alive z id ttl) = tt
after-first s who (Committing xid r v p m) (answer.Txn z true parts) = tt
after-first s who (Committing xid r v p m) (answer.Txn z false parts) = record {
  rounds = most_rounds r;
  ends = λ few. request-ends r who (viewed z p.again parts) few;
  most = inr (omega (arith, rounds-looked r));
  spare = spare-first (IsNow s (viewed z p.again parts)) r (viewed z p.again parts) 2 (omega arith);
}
after-first s who (Committing xid r v p m) (answer.Range z found) = tt
after-first s who (Committing xid r v p m) (answer.Granted z id ttl) = tt
after-first s who (Committing xid r v p m) (answer.Alive z id ttl) = tt
after-first s who (Unconnected fresh) a = tt
after-first s who Ready a = tt
after-first s who (Waiting p) a = tt
after-first s who Shut a = tt

core-first : (s : Store) (core : Core) (f : Option Flight) → CoreLeft s core f (asks_in core.stage + asks_of_all core.waiting)
core-first s core None = record { asks = asks_in core.stage; out = stage-first s core.who core.stage; most = omega arith }
core-first s core (Some (Out a)) = record { asks = asks_in core.stage; out = stage-first s core.who core.stage; most = omega arith }
core-first s core (Some (Carried a)) = record { asks = asks_in core.stage; after = after-first s core.who core.stage a; most = omega arith }
core-first s core (Some Denied) = tt

reap-first : (s : Store) (r : Reap) (f : Option Flight) → ReapLeft s r f 5
reap-first s r None = tt
reap-first s r (Some (Out x)) = any-phase s r 5 (omega arith) r.phase x.ask
reap-first s r (Some (Carried a)) = reap-most s r 5 (omega arith) a
reap-first s r (Some Denied) = tt

answers-most : (f : Option Flight) → answers_of f ≤ 1
answers-most None = omega arith
answers-most (Some (Out a)) = omega arith
answers-most (Some (Carried a)) = omega arith
answers-most (Some Denied) = omega arith

left-first : (w : World) (x : Conn) (b : Actor) (n : ℕ) → 3 * asks_left b + 1 + length w.entries ≤ n → LeftBy w x b n
left-first w x (Connection core) n h = record { total = asks_in core.stage + asks_of_all core.waiting; left = core-first w.store core x.flight; most = omega (arith, h, answers-most x.flight) }
left-first w x (Reaper r) n h = record { total = 5; left = reap-first w.store r x.flight; most = omega (arith, h, answers-most x.flight) }
left-first w x Closed n h = tt

conn-first : (w : World) (o : Option Conn) (n : ℕ) → lines_of w o ≤ n → LeftOf w o n
conn-first w None n h = tt
conn-first w (Some x) n h = left-first w x x.actor n h

-- ---- so it comes to its end

pub settles-to : (w w' : World) (c n : ℕ) → IsAccounted w → lines_left c w ≤ n → Settles n c w w' → IsSettled c w'
settles-to w w' c n k most h = settled n c w w' k (conn-first w (conn_at c w) n most) h

pub settles-to-its-end : SettlesToItsEnd
settles-to-its-end w w' c n k most h = (settles-to w w' c n k most h).nothing

pub ends-by-its-bound : EndsByItsBound
ends-by-its-bound w w' c k counts small h = settles-to-its-end w w' c (max_settling c w) k (lines-enough w c k counts small) h

pub every-settle-ends : EverySettleEnds
every-settle-ends hs ticks w w' c x offers within (first, begins, runs) small one there =
    let k = every-run-accounted hs ticks w offers within (first, begins, runs) in
    let counts = runs-counts first w hs ticks runs (first-counts first begins) in
    let s = settles-to w w' c (max_settling c w) k (lines-enough w c k counts small) one.effect in
    settled-idle w' c x s.accounted there s.nothing
