-- The answer to what an attached connection asked is delivered, and an entry that is true is taken.
use Rattle.ev_types.specs.declared.answer.Answer.{Answer}
use Rattle.std.proofs.Common.{[], ap, false, refl, subst, sym, true, ℕ, ◌∙◌, ◌≡◌}
use Rattle.std.specs.Arc.{arc_value}
use Rattle.std.specs.Prelude.{None, Option, Some, option_and_then}
use Rattle.zk_transcript.specs.History.{after}
use Rattle.zp_script.specs.Effects.{Delivers}
use Rattle.zp_script.specs.Faults.{flight_at}
use Rattle.zp_script.specs.Handing.{AnswerComes, AnswerComesTo, Handed}
use Rattle.zp_script.specs.Worlds.{Actor, Conn, Connection, World, conn_at, with_conn}
use Rattle.zp_script.specs.declared.flight.Flight.TheVariants.{Carried, Denied, Out}
use Rattle.zp_script.specs.declared.flight.Flight.{Flight}
use Rattle.zp_step.specs.Stages.{is_served, Core, Ready, Stage, Waiting, asked_of}
use Rattle.zp_laws.specs.Inputs.{IsTrueEntry, takes_entries}
use Rattle.zp_step.specs.declared.input.Input.TheVariants as input
use Rattle.zp_step.specs.declared.input.Input.{Input}
use Rattle.zp_world_laws.proofs.Closing.{but-of}
use Rattle.zp_world_laws.proofs.Ends.{landed-but, landed-is, refuse-whole}
use Rattle.zp_world_laws.proofs.Handing.{IsReadyFor, core-same, handed-whole}
use Rattle.zp_world_laws.proofs.Numbers.{conn-here}
use Rattle.zp_world_laws.specs.Connections.{IsFlying, Whole, is_carried}
use Rattle.zx_base.proofs.Options.{some_is}

-- what is known of the connection is known of the one that is handed the input
as-handed : (w w' : World) (c : ℕ) (i : Input) (x : Conn) (core : Core) → conn_at c w ≡ Some x → x.actor ≡ Connection core → IsReadyFor w c x core i → (hd : Handed c [] w i w') → IsReadyFor w c hd.conn hd.core i
as-handed w w' c i x core there actor r hd =
    let same : x ≡ hd.conn = some_is (sym there ∙ hd.found) in
    let is : core ≡ hd.core = core-same core hd.core (sym actor ∙ ap (λ (y : Conn). y.actor) same ∙ hd.serving) in
    subst (λ (y : Conn). IsReadyFor w c y hd.core i) same (subst (λ (q : Core). IsReadyFor w c x q i) is r)

ready-whole : (w w' : World) (c : ℕ) (i : Input) (x : Conn) (core : Core) → conn_at c w ≡ Some x → x.actor ≡ Connection core → IsReadyFor w c x core i → Handed c [] w i w' → Whole w'
ready-whole w w' c i x core there actor r hd = handed-whole w w' c [] i hd (as-handed w w' c i x core there actor r hd) ((after w.lines).zxid) refl tt

-- ---- an answer

answer-at : (w w' : World) (c : ℕ) (x : Conn) (core : Core) (a : Answer) → conn_at c w ≡ Some x → x.actor ≡ Connection core → is_served core.stage ≡ true → x.flight ≡ Some (Carried a) → AnswerComes c (with_conn w c (record x { flight = None })) a w' → Whole w → Whole w'
answer-at w w' c x core a there actor served flight (y, found, comes) h =
    let v : Conn = record x { flight = None } in
    let w1 : World = with_conn w c v in
    let same : v ≡ y = some_is (sym (conn-here w c v) ∙ found) in
    let is : y.actor ≡ Connection core = sym (ap (λ (z : Conn). z.actor) same) ∙ actor in
    let k = h.serving c x core there actor served in
    ready-whole w1 w' c (input.Answer a) v core (conn-here w c v) actor (record {
      but = landed-but w c x there h;
      nothing_out = refl;
      served = served;
      flight = x.flight;
      serves = k;
      true_input = subst (IsFlying w.store w.lines c core k.walker k.looked) flight k.flies;
      idle = λ e. absurd (true-false e);
      answers = λ e. ap is_carried flight;
    }) (subst (λ (b : Actor). AnswerComesTo c w1 y a w' b) is comes)
  where
    true-false : true ≡ false → ⊥
    true-false e = cc

pub answer-whole : (w w' : World) (c : ℕ) (x : Conn) (core : Core) → conn_at c w ≡ Some x → x.actor ≡ Connection core → is_served core.stage ≡ true → Delivers c w w' (flight_at c w) → Whole w → Whole w'
answer-whole w w' c x core there actor served d h = go x.flight refl (subst (Delivers c w w') (ap (option_and_then (λ (y : Conn). y.flight)) there) d)
  where
    go : (f : Option Flight) → x.flight ≡ f → Delivers c w w' f → Whole w'
    go None e p = absurd p
    go (Some (Out b)) e p = absurd p
    go (Some Denied) e p = refuse-whole w w' c p h
    go (Some (Carried a)) e p = answer-at w w' c x core a there actor served e (subst (λ (v : World). AnswerComes c v a w') (landed-is w c x there) p) h

-- ---- an entry

pub entry-idle : (core : Core) (st : Stage) → takes_entries st ≡ true → asked_of core.who st ≡ None
entry-idle core Ready h = refl
entry-idle core (Waiting p) h = refl
entry-idle core _ h = absurd (cc)

-- it is true of the transcript
abbrev pub IsTrueEntryInput : World → Core → Input → Type 0
IsTrueEntryInput w core (input.Entry e) = IsTrueEntry w.lines core (arc_value e)
IsTrueEntryInput w core _ = ⊥

pub entry-whole : (w w' : World) (c : ℕ) (x : Conn) (core : Core) (i : Input) → conn_at c w ≡ Some x → x.actor ≡ Connection core → is_served core.stage ≡ true → x.flight ≡ None → IsTrueEntryInput w core i → Handed c [] w i w' → Whole w → Whole w'
entry-whole w w' c x core (input.Entry e) there actor served flight t hd h =
    ready-whole w w' c (input.Entry e) x core there actor (record {
      but = but-of w c h;
      nothing_out = flight;
      served = served;
      flight = x.flight;
      serves = h.serving c x core there actor served;
      true_input = t;
      idle = λ f. entry-idle core core.stage t.taken;
      answers = λ e. absurd (cc);
    }) hd
entry-whole w w' c x core _ there actor served flight t hd h = absurd t
