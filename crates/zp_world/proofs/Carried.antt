-- What comes of an ask that the store carries out.
use Rattle.std.proofs.Common.{◌≡◌, ℕ, refl, sym, ap, ◌∙◌, subst, arith, Bool, true, false, List}
use Rattle.std.specs.Prelude.{MatchBool, Option, Some, None, is_none, not, ℤ, ◌≤ℤ◌, ◌-◌, slice_set}
use Rattle.std.specs.FinMap.{get, insert, remove}
use Rattle.std.specs.Option.{option_and_then}
use Rattle.std.specs.Ordering.{int_eq}
use Rattle.std.proofs.lemmas.Int.{ints}
use Rattle.std.proofs.lemmas.List.Elements.{All-nil}
use Rattle.ev_store.specs.Numbers.{HasNumbers, IsPutBy, ShowsPuts}
use Rattle.ev_types.specs.Denials.{carry}
use Rattle.ev_types.specs.Store.{Store, last_revision}
use Rattle.ev_types.specs.declared.answer.ActAns.{ActAns}
use Rattle.ev_types.specs.declared.answer.ActAns.TheVariants as part
use Rattle.ev_types.specs.declared.answer.Answer.{Answer}
use Rattle.ev_types.specs.declared.answer.Answer.TheVariants as answer
use Rattle.ev_types.specs.declared.answer.Kv.{Kv}
use Rattle.ev_types.specs.declared.ask.Ask.{Ask}
use Rattle.ev_types.specs.declared.ask.Ask.TheVariants as ask
use Rattle.zk_service.specs.declared.update.UpdateKind.{UpdateKind}
use Rattle.zn_view.specs.Adding.{AreNumbersIn}
use Rattle.zn_view.specs.Seen.{AreCounts}
use Rattle.zp_script.specs.Carrying.{CarriedBy, CarriesOut, Executes, ExecutesStray, ShowsUpdate}
use Rattle.zt_text.specs.declared.script.Happening.TheVariants as line
use Rattle.zt_text.specs.declared.script.Why.{Why}
use Rattle.zt_text.specs.declared.script.Why.TheVariants as why
use Rattle.zp_script.specs.Faults.{fault, if_fails, is_to_carry_out, left_at}
use Rattle.zp_script.specs.Worlds.{Actor, Conn, Conns, Connection, Reaper, Closed, World, conn_at, is_closed_actor, with_conn, zxid_at}
use Rattle.zp_script.specs.declared.flight.Asking.{Asking}
use Rattle.zp_script.specs.declared.flight.Flight.{Flight}
use Rattle.zp_script.specs.declared.flight.Flight.TheVariants.{Out, Carried, Denied}
use Rattle.zp_step.specs.Stages.{Core, asked_of}
use Rattle.zs_reap.specs.Steps.{IsOfTxn, IsTxn}
use Rattle.zs_reap.specs.declared.reap.Reap.{Reap}
use Rattle.zs_session.proofs.Carrying.{answers as is_answer}
use Rattle.zs_session.specs.Answering.{HasTxnNumbers, IsAnswerTo, IsAwaited}
use Rattle.zx_base.proofs.Options.{none_some, some_none, some_is}
use Rattle.zp_world.specs.Asking.{Asks, Shows, asked_out}
use Rattle.zp_world.specs.Doing.{without}
use Rattle.zp_world.specs.Flying.{IsActive, IsCarried, IsFit, IsFlyingOf, IsReapFlying, IsReapOut}
use Rattle.zp_world.proofs.Apart.{insert-removed}

-- ---- it is an answer to the ask, with numbers in an etcd's range

counts : (r : ℤ) (kv : Kv) → r ≤ℤ last_revision → IsPutBy r kv → AreCounts kv
counts r kv most h = record { revision = record { least = (let first = h.first in omega (arith, ints)); most = (let last = h.last in omega (arith, ints)) }; version = record { least = h.least; most = (let below = h.most in omega (arith, ints)) } }

part-numbers : (r : ℤ) (a : ActAns) → r ≤ℤ last_revision → ShowsPuts r a → AreNumbersIn a
part-numbers r (part.Range found) most h = λ k d below. counts r _ most (h k d below)
part-numbers r part.Put most h = All-nil AreCounts
part-numbers r (part.Deleted n) most h = All-nil AreCounts

txn-numbers : (a : Answer) → HasNumbers a → HasTxnNumbers a
txn-numbers (answer.Txn revision succeeded parts) h = record { revision_is = record { least = h.least; most = h.most }; numbers = λ k d below. part-numbers _ _ h.most (h.puts k d below) }
txn-numbers (answer.Range revision found) h = tt
txn-numbers (answer.Granted revision id ttl) h = tt
txn-numbers (answer.Alive revision id ttl) h = tt

pub answers : (s t : Store) (q : Ask) (a : Answer) → carry s q ≡ Some (t, a) → HasNumbers a → IsAnswerTo q a
answers s t q a h numbers = is_answer s t q a h (txn-numbers a numbers)

-- ---- and is shown

pub carried_shown : (w mid w' : World) (q : Ask) (a : Answer) (kind : Option UpdateKind) (before : ℤ) → before ≡ zxid_at w.store → Asks w q (Some a) mid → Shows mid before kind w' → CarriedBy w kind (Carried a) w' (carry w.store q)
carried_shown w mid w' q a kind before is asks shows =
    let s = asks.0 in
    let shown : Shows (record w { store = s }) (zxid_at w.store) kind w' = subst (λ (z : ℤ). Shows (record w { store = s }) z kind w') is (subst (λ (m : World). Shows m before kind w') asks.2 shows) in
    subst (CarriedBy w kind (Carried a) w') (sym asks.1) (refl, of-kind w w' s kind (int_eq (zxid_at w.store) (zxid_at s)) shown)
  where
    of-kind : (w w' : World) (s : Store) (kind : Option UpdateKind) (b : Bool) → MatchBool b (w' ≡ record w { store = s }) (ShowsUpdate (record w { store = s }) s kind w') → MatchBool b (w' ≡ record w { store = s }) (ShowsUpdate w s kind w')
    of-kind w w' s None b h = h
    of-kind w w' s (Some kind) b h = h

pub carried_denied : (w w' : World) (q : Ask) (kind : Option UpdateKind) → Asks w q None w' → CarriedBy w kind Denied w' (carry w.store q)
carried_denied w w' q kind asks = subst (CarriedBy w kind Denied w') (sym asks.0) (refl, asks.1)

-- ---- its asker still waits for it

awaits : (core : Core) (q : Ask) (f : Flight) → asked_of core.who core.stage ≡ Some q → IsCarried q f → IsFlyingOf core (Some f)
awaits core q (Out x) asked h = absurd h
awaits core q (Carried a) asked h = subst (λ (o : Option Ask). IsAwaited o (Some a)) (sym asked) h
awaits core q Denied asked h = λ none. some_none (sym asked ∙ none)

of-txn : (q : Ask) (a : Answer) → IsTxn q → IsAnswerTo q a → IsOfTxn a
of-txn (ask.Txn t) (answer.Txn revision succeeded parts) is h = record { revision_is = h.revision_is; numbers = h.numbers }
of-txn (ask.Txn t) (answer.Range revision found) is h = absurd h
of-txn (ask.Txn t) (answer.Granted revision id ttl) is h = absurd h
of-txn (ask.Txn t) (answer.Alive revision id ttl) is h = absurd h
of-txn (ask.Range q) a is h = absurd is
of-txn (ask.Grant id ttl) a is h = absurd is
of-txn (ask.Alive id) a is h = absurd is

reap-awaits : (reap : Reap) (x : Asking) (f : Flight) → IsReapOut reap x → IsCarried x.ask f → IsReapFlying reap (Some f)
reap-awaits reap x (Out y) out h = absurd h
reap-awaits reap x (Carried a) out h = (out.asked, of-txn x.ask a out.txn h)
reap-awaits reap x Denied out h = tt

closed-awaits : (q : Ask) (f : Flight) → IsCarried q f → IsActive Closed (Some f)
closed-awaits q (Out y) h = absurd h
closed-awaits q (Carried a) h = tt
closed-awaits q Denied h = tt

pub carried-active : (actor : Actor) (x : Asking) (f : Flight) → IsActive actor (Some (Out x)) → IsCarried x.ask f → IsActive actor (Some f)
carried-active (Connection core) x f active h = record { live = active.live; flies = awaits core x.ask f active.flies.asked h }
carried-active (Reaper reap) x f active h = reap-awaits reap x f active h
carried-active Closed x f active h = closed-awaits x.ask f h

pub out-fit : (actor : Actor) (x : Asking) → IsActive actor (Some (Out x)) → IsFit x
out-fit (Connection core) x active = active.flies.fit
out-fit (Reaper reap) x active = active.fit
out-fit Closed x active = active

-- ---- it is as the world is apart from its connections and its strays

-- the world with these connections and these strays in place of its own
abbrev pub beside : World → Conns → List (Option Asking) → World
beside w conns strays = record w { conns = conns; strays = strays }

pub record CarriesBeside (w : World) (conns : Conns) (strays : List (Option Asking)) (x : Asking) (f : Flight) (mid : World) : Type 0 where
  pub carries : CarriesOut w x f (beside mid w.conns w.strays)
  pub conns_stay : mid.conns ≡ conns
  pub strays_stay : mid.strays ≡ strays

module _ (w : World) (conns : Conns) (strays : List (Option Asking)) (mid : World) where
  abbrev Beside : Type 0 → Type 0
  Beside T = T × (mid.conns ≡ conns) × (mid.strays ≡ strays)

  shown-beside : (s : Store) (kind : Option UpdateKind) → ShowsUpdate (beside w conns strays) s kind mid → Beside (ShowsUpdate w s kind (beside mid w.conns w.strays))
  shown-beside s None h = (ap (λ (x : World). beside x w.conns w.strays) h, ap (λ (x : World). x.conns) h, ap (λ (x : World). x.strays) h)
  shown-beside s (Some kind) h = ((h.0, h.1, ap (λ (x : World). beside x w.conns w.strays) h.2), ap (λ (x : World). x.conns) h.2, ap (λ (x : World). x.strays) h.2)

  stored-beside : (s : Store) (kind : Option UpdateKind) (b : Bool) → MatchBool b (mid ≡ record (beside w conns strays) { store = s }) (ShowsUpdate (beside w conns strays) s kind mid)
      → Beside (MatchBool b (beside mid w.conns w.strays ≡ record w { store = s }) (ShowsUpdate w s kind (beside mid w.conns w.strays)))
  stored-beside s kind true h = (ap (λ (x : World). beside x w.conns w.strays) h, ap (λ (x : World). x.conns) h, ap (λ (x : World). x.strays) h)
  stored-beside s kind false h = shown-beside s kind h

  carried-beside : (kind : Option UpdateKind) (f : Flight) (o : Option (Store × Answer)) → CarriedBy (beside w conns strays) kind f mid o → Beside (CarriedBy w kind f (beside mid w.conns w.strays) o)
  carried-beside kind f None h = ((h.0, ap (λ (x : World). beside x w.conns w.strays) h.1), ap (λ (x : World). x.conns) h.1, ap (λ (x : World). x.strays) h.1)
  carried-beside kind f (Some x) h =
      let p = stored-beside x.0 kind (int_eq (zxid_at w.store) (zxid_at x.0)) h.1 in
      ((h.0, p.0), p.1, p.2)

  pub carries-beside : (x : Asking) (f : Flight) → CarriesOut (beside w conns strays) x f mid → CarriesBeside w conns strays x f mid
  carries-beside x f h =
      let p = carried-beside x.kind f (carry w.store x.ask) h in
      record { carries = p.0; conns_stay = p.1; strays_stay = p.2 }

-- ---- what is out of c

abbrev exec_test : Option Conn → Option Why
exec_test None = Some why.NoSuchConnection
exec_test (Some x) =
    if_fails (is_closed_actor x.actor) why.ConnectionClosed (if_fails (is_none x.flight) why.NoRequestOut (if_fails (not (is_to_carry_out x.flight)) why.AlreadyCarriedOut None))

exec-tests : (w : World) (c : ℕ) → fault w (line.Exec c) ≡ exec_test (conn_at c w)
unfolding fault
exec-tests w c = go (conn_at c w) (conn_at c w) refl
  where
    go : (o p : Option Conn) → p ≡ o → (elim o [
      | None ↦ Some why.NoSuchConnection
      | Some x ↦ if_fails (is_closed_actor x.actor) why.ConnectionClosed (if_fails (is_none (option_and_then (λ (y : Conn). y.flight) p)) why.NoRequestOut
          (if_fails (not (is_to_carry_out (option_and_then (λ (y : Conn). y.flight) p))) why.AlreadyCarriedOut None))
    ]) ≡ exec_test o
    go None p e = refl
    go (Some x) p e = ap (λ (r : Option Conn). if_fails (is_closed_actor x.actor) why.ConnectionClosed (if_fails (is_none (option_and_then (λ (y : Conn). y.flight) r)) why.NoRequestOut
        (if_fails (not (is_to_carry_out (option_and_then (λ (y : Conn). y.flight) r))) why.AlreadyCarriedOut None))) e

pub exec-there : (w : World) (c : ℕ) → fault w (line.Exec c) ≡ None → conn_at c w ≡ None → ⊥
exec-there w c possible none = some_none (sym (exec-tests w c ∙ ap exec_test none) ∙ possible)

-- nothing else passes these tests
exec-flight : (closed : Bool) (f : Option Flight) → if_fails closed why.ConnectionClosed (if_fails (is_none f) why.NoRequestOut (if_fails (not (is_to_carry_out f)) why.AlreadyCarriedOut None)) ≡ None → is_to_carry_out f ≡ true
exec-flight true f h = absurd (some_none h)
exec-flight false None h = absurd (some_none h)
exec-flight false (Some (Out x)) h = refl
exec-flight false (Some (Carried a)) h = absurd (some_none h)
exec-flight false (Some Denied) h = absurd (some_none h)

pub exec-out : (w : World) (c : ℕ) (x : Conn) → fault w (line.Exec c) ≡ None → conn_at c w ≡ Some x → is_to_carry_out x.flight ≡ true
exec-out w c x possible there = exec-flight (is_closed_actor x.actor) x.flight (sym (exec-tests w c ∙ ap exec_test there) ∙ possible)

pub none-out : (f : Option Flight) → asked_out f ≡ None → is_to_carry_out f ≡ true → ⊥
none-out None none out = absurd cc
none-out (Some (Out x)) none out = some_none none
none-out (Some (Carried a)) none out = absurd cc
none-out (Some Denied) none out = absurd cc

pub out-is : (f : Option Flight) (x : Asking) → asked_out f ≡ Some x → f ≡ Some (Out x)
out-is None x h = absurd (none_some h)
out-is (Some (Out y)) x h = ap (λ (z : Asking). Some (Out z)) (some_is h)
out-is (Some (Carried a)) x h = absurd (none_some h)
out-is (Some Denied) x h = absurd (none_some h)

executed : (w mid : World) (c : ℕ) (x : Conn) (asking : Asking) (f : Flight) → conn_at c w ≡ Some x → x.flight ≡ Some (Out asking) → CarriesOut (without c w) asking f mid
    → Executes c w (with_conn mid c (record x { flight = Some f }))
executed w mid c x asking f there out carries =
    let p = carries-beside w (remove w.conns c) w.strays mid asking f carries in
    let y : Conn = record x { flight = Some f } in
    record {
      conn = x;
      asking = asking;
      found = there;
      out = out;
      flight = f;
      mid = beside mid w.conns w.strays;
      carries = p.carries;
      result = λ i. record mid { conns = (ap (λ (m : Conns). insert m c y) p.conns_stay ∙ insert-removed w.conns c y) i; strays = p.strays_stay i };
    }

-- the parts of the world w are those of v, those of its connection x are y's, and those of mid are m's
pub executes : (v w m mid : World) (c : ℕ) (y x : Conn) (asking : Asking) (f : Flight) (left conns : Conns) → v ≡ w → y ≡ x → get v.conns c ≡ Some x → y.flight ≡ Some (Out asking)
    → CarriesOut (record v { conns = left }) asking f mid → left ≡ remove v.conns c → m ≡ mid → conns ≡ insert m.conns c (record y { flight = Some f }) → Executes c w (record m { conns = conns })
executes v w m mid c y x asking f left conns of-world of-conn there out carries taken of-mid put =
    let z : Conn = record y { flight = Some f } in
    let done : Executes c v (with_conn mid c z) = executed v mid c y asking f (there ∙ ap Some (sym of-conn)) out (subst (λ (r : Conns). CarriesOut (record v { conns = r }) asking f mid) taken carries) in
    let same : record m { conns = conns } ≡ with_conn mid c z = ap (λ (r : Conns). record m { conns = r }) put ∙ ap (λ (u : World). record u { conns = insert u.conns c z }) of-mid in
    subst (λ (u : World). Executes c u (record m { conns = conns })) of-world (subst (Executes c v) (sym same) done)

-- ---- what a stray asked

pub stray-left : (w : World) (k : ℕ) → fault w (line.Stray k) ≡ None → left_at k w.strays ≡ None → ⊥
unfolding fault
stray-left w k possible none = some_none (sym (ap (λ (o : Option Asking). if_fails (is_none o) why.NoSuchStray None) none) ∙ possible)

executed-stray : (w mid : World) (k : ℕ) (asking : Asking) (f : Flight) → left_at k w.strays ≡ Some asking → CarriesOut (record w { strays = slice_set w.strays (k - 1) None }) asking f mid → ExecutesStray k w mid
executed-stray w mid k asking f left carries =
    let p = carries-beside w w.conns (slice_set w.strays (k - 1) None) mid asking f carries in
    record {
      asking = asking;
      left = left;
      flight = f;
      mid = beside mid w.conns w.strays;
      carries = p.carries;
      result = λ i. record mid { conns = p.conns_stay i; strays = p.strays_stay i };
    }

pub executes-stray : (v w mid : World) (k : ℕ) (asking : Asking) (f : Flight) (strays : List (Option Asking)) → v ≡ w → left_at k v.strays ≡ Some asking
    → CarriesOut (record v { strays = strays }) asking f mid → strays ≡ slice_set v.strays (k - 1) None → ExecutesStray k w mid
executes-stray v w mid k asking f strays of-world left carries taken =
    subst (λ (u : World). ExecutesStray k u mid) of-world (executed-stray v mid k asking f left (subst (λ (r : List (Option Asking)). CarriesOut (record v { strays = r }) asking f mid) taken carries))

-- ---- the ask, as the parts of a world have it

pub asks-some : (v w w' : World) (s : Store) (q : Ask) (a : Answer) → v ≡ w → carry v.store q ≡ Some (s, a) → w' ≡ record v { store = s } → Asks w q (Some a) w'
asks-some v w w' s q a is h e = subst (λ (x : World). Asks x q (Some a) w') is (s, h, e)
