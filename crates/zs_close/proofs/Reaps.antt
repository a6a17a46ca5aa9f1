-- The decision on a reap is right, and its plan ends the session.
use Rattle.std.proofs.Common.{◌≡◌, ℕ, zero, ℤ, pos, ◌≤◌, Bool, true, false, length, List, [], ◌∷◌, Option, Some, None, is_some, refl, sym, ap, ◌∙◌, subst, inl, inr, arith}
use Rattle.std.specs.Prelude.{◌≤ℤ◌, nat_abs, nat_le, if◌then◌else◌, Contains, MatchBool}
use Rattle.std.proofs.lemmas.Bool.{both_ways, le-leb}
use Rattle.std.proofs.lemmas.Int.{ints}
use Rattle.ev_types.specs.declared.answer.Kv.{Kv}
use Rattle.ev_types.specs.declared.ask.Guard.{Guard}
use Rattle.ev_types.specs.Ranges.{Keys}
use Rattle.ev_types.specs.Store.{mod_of}
use Rattle.zk_model.specs.Limits.{max_owned}
use Rattle.zk_service.specs.States.{State, Session, IsSound, session_at}
use Rattle.zx_base.specs.Maps.{Bytes, same}
use Rattle.zx_base.proofs.MapLaws.{same-true}
use Rattle.zn_layout.specs.declared.record.SessionRec.{SessionRec}
use Rattle.zn_layout.specs.Keys.{HeadKey, SessionKey, LeaseKey, key_bytes}
use Rattle.zn_layout.specs.StandsFor.{NodesMean, LifeMeans, StandsFor, stored_of}
use Rattle.zn_view.specs.declared.plan.Plan.{Plan}
use Rattle.zn_view.specs.declared.snapshot.SeenKey.{SeenKey}
use Rattle.zn_view.specs.Asks.{guards_of, picked}
use Rattle.zn_view.specs.Deciding.{IsTaken}
use Rattle.zn_view.specs.Lookups.{sees, HasSeen, IsNodesIn}
use Rattle.zn_view.specs.Seen.{View, found_of, seen_in}
use Rattle.zn_view.specs.Views.{Agrees, IsOf}
use Rattle.zn_view.proofs.Asked.{guard_later}
use Rattle.zn_view.proofs.Committing.{zxid-least}
use Rattle.zn_view.proofs.Members.{in_mapped}
use Rattle.zn_view.proofs.Narrowing.{picked-told}
use Rattle.zs_close.specs.declared.reap.Reaping.{Reaping}
use Rattle.zs_close.specs.declared.reap.Reaping.TheVariants.{Planned, Kept, Gone, TooMany}
use Rattle.zs_close.specs.Closing.{IsEndPlan}
use Rattle.zs_close.specs.Reaping.{lives, IfReaped, IsReadyToReap, IsReap, IsReapBy, IsReapDecision, IsReapPlan, IsReapedBy, IsReapedWith, IsReapingOf, whose}
use Rattle.zs_close.specs.Wanting.{end_keys, read_keys, AreParentsSeen, IsNodesSeen}
use Rattle.zs_close.proofs.Taken.{end-taken}
use Rattle.zs_close.proofs.KeysRead.{end-reads, whole-life, whole-parents, whole-session}
use Rattle.zs_close.proofs.EndPlans.{agrees-for, commits-for, life-not_head, nodes-few, nodes-mean, life-means, session-open, ended-carries, ended-triggers}

-- ---- a key that was seen is guarded, also where it was absent

module _ (k : Bytes) (o : Option Kv) (apart : k ≡ key_bytes HeadKey → ⊥) where
  abbrev own : Guard
  own = record { key = k; mod_revision = mod_of o }

  guard_first : (x : SeenKey) (xs : List SeenKey) (b : Bool) → same x.key (key_bytes HeadKey) ≡ b → x.key ≡ k → x.found ≡ o → Contains (if b then guards_of xs else record { key = x.key; mod_revision = mod_of x.found } ∷ guards_of xs) own
  guard_first x xs true e is found = absurd (apart (sym is ∙ same-true x.key (key_bytes HeadKey) e))
  guard_first x xs false e is found = (zero, omega arith, λ i. record { key = is i; mod_revision = mod_of (found i) })

  guard_at_first : (x : SeenKey) (xs : List SeenKey) (b : Bool) → same x.key k ≡ b → (seen_in k xs ≡ Some o → Contains (guards_of xs) own) → (if b then Some x.found else seen_in k xs) ≡ Some o → Contains (guards_of (x ∷ xs)) own
  guard_at_first x xs true e further h =
      let found : x.found ≡ o = cc in
      guard_first x xs (same x.key (key_bytes HeadKey)) refl (same-true x.key k e) found
  guard_at_first x xs false e further h = guard_later own x xs (same x.key (key_bytes HeadKey)) (further h)

  guarded : (xs : List SeenKey) → seen_in k xs ≡ Some o → Contains (guards_of xs) own
  guarded [] h = absurd (cc)
  guarded (x ∷ xs) h = guard_at_first x xs (same x.key k) refl (guarded xs) h

-- ---- what decides was looked up

module _ (id : ℤ) (v : View) (ready : IsReadyToReap id v) where
  pub ready-life : HasSeen v (LeaseKey (nat_abs id))
  ready-life none = whole-life (whose id) v (ready (ap (λ (o : Option (Option Kv)). is_some (found_of o)) none)) none

  pub ready-session : lives id v ≡ false → HasSeen v (SessionKey (nat_abs id))
  ready-session gone = whole-session (whose id) v (ready gone)

  pub ready-parents : lives id v ≡ false → AreParentsSeen id v
  ready-parents gone = whole-parents (whose id) v (ready gone)

-- ---- what a session's keys say of it

kept_is : (n : ℕ) (o : Option Session) (kv : Kv) (r : Reaping) → LifeMeans n o (stored_of (Some kv)) → r ≡ Kept → IsReapingOf o r
kept_is n None kv r h e = absurd h
kept_is n (Some x) kv r h e = subst (λ b. MatchBool b ((p : Plan) × (r ≡ Planned p)) (r ≡ Kept)) (sym h.alive) e

gone_is : (o : Option Session) (ps : List Bytes) (r : Reaping) → NodesMean o ps (stored_of None) → r ≡ Gone → IsReapingOf o r
gone_is None ps r h e = e
gone_is (Some x) ps r h e = absurd h

lapsed_is : (n : ℕ) (o : Option Session) (x : Session) → o ≡ Some x → LifeMeans n o (stored_of None) → x.lapsed ≡ true
lapsed_is n None x e h = absurd (cc)
lapsed_is n (Some y) x e h =
    let one : y ≡ x = cc in
    sym (ap (λ (w : Session). w.lapsed) one) ∙ h

ending_is : (o : Option Session) (x : Session) (r : Reaping) (p : Plan) → o ≡ Some x → x.lapsed ≡ true → r ≡ Planned p → IsReapingOf o r
ending_is o x r p e lapsed is = subst (λ (w : Option Session). IsReapingOf w r) (sym e) (subst (λ b. MatchBool b ((q : Plan) × (r ≡ Planned q)) (r ≡ Kept)) (sym lapsed) (p, is))

-- the view saw that the session has lapsed, and its nodes
pub record IsPlannedReap (id : ℤ) (v : View) (p : Plan) : Type 0 where
  pub saw_life : sees v (LeaseKey (nat_abs id)) ≡ Some None
  pub kv : Kv
  pub saw : sees v (SessionKey (nat_abs id)) ≡ Some (Some kv)
  pub nodes : SessionRec
  pub found : IsNodesIn kv nodes
  pub plan : IsEndPlan false id v nodes p

module _ (id : ℤ) (v : View) (real : pos 1 ≤ℤ id) where
  abbrev session_seen : Option (Option Kv)
  session_seen = sees v (SessionKey (nat_abs id))

  abbrev life : Option (Option Kv)
  life = sees v (LeaseKey (nat_abs id))

  too_many : (n most : ℕ) → nat_le n most ≡ false → n ≤ most → ⊥
  too_many n most e few = both_ways _ e (le-leb n most few)

  -- ---- the decision

  module _ (s : State) (sound : IsSound s) (m : Keys) (stands : StandsFor m s) (agrees : Agrees v m) (r : Reaping) where
    with_decides : (kv : Kv) (nodes : SessionRec) → life ≡ Some None → session_seen ≡ Some (Some kv) → IsNodesIn kv nodes → IsReapedWith id v nodes r → IsReapingOf (session_at id s) r
    with_decides kv nodes saw_life saw found h =
        let seen = agrees-for v id nodes.paths m agrees in
        let o = session-open v id real m s stands nodes.paths seen nodes refl kv saw found in
        elim (nat_le (length nodes.paths) (max_owned nodes.layout)) as (λ b. nat_le (length nodes.paths) (max_owned nodes.layout) ≡ b → MatchBool b ((p : Plan) × (r ≡ Planned p) × IsEndPlan false id v nodes p) (r ≡ TooMany) → IsReapingOf (session_at id s) r) [
          | true ↦ λ e is. ending_is (session_at id s) o.session r is.0 o.is_open (lapsed_is (nat_abs id) (session_at id s) o.session o.is_open (life-means v id real m s stands nodes.paths seen None saw_life)) is.1
          | false ↦ λ e is. absurd (too_many (length nodes.paths) (max_owned nodes.layout) e (nodes-few v id real m s stands nodes.paths seen nodes refl kv saw found sound))
        ] refl h

    by_decides : (o : Option (Option Kv)) → life ≡ Some None → session_seen ≡ o → IsReapedBy id v o r → IsReapingOf (session_at id s) r
    by_decides None saw_life saw h = absurd h
    by_decides (Some None) saw_life saw h = gone_is (session_at id s) _ r (nodes-mean v id real m s stands [] (agrees-for v id [] m agrees) None saw) h
    by_decides (Some (Some kv)) saw_life saw h = with_decides kv h.0 saw_life saw h.1 h.2

    life_decides : (o : Option (Option Kv)) → life ≡ o → IsReapBy id v o r → IsReapingOf (session_at id s) r
    life_decides None saw h = absurd h
    life_decides (Some None) saw h = by_decides session_seen saw refl h
    life_decides (Some (Some kv)) saw h = kept_is (nat_abs id) (session_at id s) kv r (life-means v id real m s stands [] (agrees-for v id [] m agrees) (Some kv) saw) h

  pub reap-decides : (r : Reaping) → IsReap id v r → IsReapDecision id v r
  reap-decides r h s sound of = life_decides s sound of.0 of.1 of.2 r life refl h

  -- ---- the plan

  module _ (r : Reaping) (saw_life : life ≡ Some None) where
    with_planned : (kv : Kv) (nodes : SessionRec) → session_seen ≡ Some (Some kv) → IsNodesIn kv nodes → IsReapedWith id v nodes r → IfReaped (IsPlannedReap id v) r
    with_planned kv nodes saw found h =
        elim (nat_le (length nodes.paths) (max_owned nodes.layout)) as (λ b. MatchBool b ((p : Plan) × (r ≡ Planned p) × IsEndPlan false id v nodes p) (r ≡ TooMany) → IfReaped (IsPlannedReap id v) r) [
          | true ↦ λ is. subst (IfReaped (IsPlannedReap id v)) (sym is.1) (record { saw_life = saw_life; kv = kv; saw = saw; nodes = nodes; found = found; plan = is.2 })
          | false ↦ λ is. subst (IfReaped (IsPlannedReap id v)) (sym is) tt
        ] h

    by_planned : (o : Option (Option Kv)) → session_seen ≡ o → IsReapedBy id v o r → IfReaped (IsPlannedReap id v) r
    by_planned None saw h = absurd h
    by_planned (Some None) saw h = subst (IfReaped (IsPlannedReap id v)) (sym h) tt
    by_planned (Some (Some kv)) saw h = with_planned kv h.0 saw h.1 h.2

  life_planned : (r : Reaping) (o : Option (Option Kv)) → life ≡ o → IsReapBy id v o r → IfReaped (IsPlannedReap id v) r
  life_planned r None saw h = absurd h
  life_planned r (Some None) saw h = by_planned r saw session_seen refl h
  life_planned r (Some (Some kv)) saw h = subst (IfReaped (IsPlannedReap id v)) (sym h) tt

  abbrev nodes_seen : (p : Plan) (is : IsPlannedReap id v p) → IsNodesSeen session_seen (is.nodes).paths
  nodes_seen p is = subst (λ (o : Option (Option Kv)). IsNodesSeen o (is.nodes).paths) (sym is.saw) (is.nodes, is.found, refl)

  reap_plan : (p : Plan) → IsPlannedReap id v p → IsReapPlan id v p
  reap_plan p is = record {
    ends = λ m s z sound stands may later high.
        let seen = commits-for p v id (is.nodes).paths m (is.plan).guards may in
        let low : pos 1 ≤ℤ z = omega (arith, ints, zxid-least m s stands, later) in
        let o = session-open v id real m s stands (is.nodes).paths seen is.nodes refl is.kv is.saw is.found in
        let lapses : (x : Session) → session_at id s ≡ Some x → x.lapsed ≡ true = λ x e. lapsed_is (nat_abs id) (session_at id s) x e (life-means v id real m s stands (is.nodes).paths seen None is.saw_life) in
        record {
          session = o.session;
          is_open = o.is_open;
          lapsed = lapses o.session o.is_open;
          keys = ended-carries v id real m s stands (is.nodes).paths seen is.nodes refl is.kv is.saw is.found sound false (λ e. lapses) p is.plan z low high;
          triggers = ended-triggers v id real m s stands (is.nodes).paths seen is.nodes refl is.kv is.saw is.found sound false (λ e. lapses) p is.plan z;
        };
    reads = end-reads v (whose id) (is.nodes).paths p (nodes_seen p is) (is.plan).guards (is.plan).again;
    absent =
        let k : Bytes = key_bytes (LeaseKey (nat_abs id)) in
        let inside = in_mapped key_bytes (LeaseKey (nat_abs id)) (end_keys id (is.nodes).paths) (inr (inl refl)) in
        subst (λ (gs : List Guard). Contains gs (record { key = k; mod_revision = pos 0 })) (sym (is.plan).guards)
        (guarded k None (life-not_head (nat_abs id)) (picked v (read_keys id (is.nodes).paths)) (picked-told v (read_keys id (is.nodes).paths) k None inside is.saw_life));
    shows = (is.plan).shows;
    writes = (is.plan).writes;
  }

  along : (P Q : Plan → Type 0) (r : Reaping) → ((p : Plan) → P p → Q p) → IfReaped P r → IfReaped Q r
  along P Q (Planned p) f h = f p h
  along P Q Kept f h = tt
  along P Q Gone f h = tt
  along P Q TooMany f h = tt

  pub reap-plan : (r : Reaping) → IsReap id v r → IfReaped (IsReapPlan id v) r
  reap-plan r h = along (IsPlannedReap id v) (IsReapPlan id v) r reap_plan (life_planned r life refl h)

  pub reap-taken : (r : Reaping) → IsReap id v r → IfReaped (λ p. (s : State) → IsSound s → IsOf v s → IsTaken p) r
  reap-taken r h = along (IsPlannedReap id v) (λ p. (s : State) → IsSound s → IsOf v s → IsTaken p) r
      (λ p is. end-taken false id v real is.kv is.nodes is.saw is.found p is.plan)
      (life_planned r life refl h)
