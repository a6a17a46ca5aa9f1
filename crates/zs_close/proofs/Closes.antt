-- The decision on a close is the machine's, and its plan is good.
use Rattle.std.proofs.Common.{◌≡◌, ℕ, ℤ, pos, ◌≤◌, true, false, length, List, [], Option, Some, None, refl, sym, ap, subst, inl, inr, arith}
use Rattle.std.specs.Prelude.{◌≤ℤ◌, nat_abs, nat_le, Contains, MatchBool}
use Rattle.std.specs.Ordering.{int_eq}
use Rattle.std.proofs.lemmas.Bool.{both_ways, le-leb, true≢false}
use Rattle.std.proofs.lemmas.Bool.Decides.{Decides-int_eq}
use Rattle.std.proofs.lemmas.Int.{ints}
use Rattle.ev_types.specs.declared.answer.Kv.{Kv}
use Rattle.ev_types.specs.declared.ask.Guard.{Guard}
use Rattle.ev_types.specs.Ranges.{Keys}
use Rattle.zk_model.specs.declared.reply.Body.TheVariants as body
use Rattle.zk_model.specs.declared.request.Request.TheVariants as req
use Rattle.zk_model.specs.Limits.{max_owned}
use Rattle.zk_model.specs.Znodes.{owned}
use Rattle.zk_model.specs.Watches.{no_watches}
use Rattle.zk_service.specs.Answers.{tree_reply}
use Rattle.zk_service.specs.States.{State, Session, IsSound, limit_of, session_at, session_ended}
use Rattle.zx_base.specs.Maps.{Bytes}
use Rattle.zn_layout.specs.declared.record.SessionRec.{SessionRec}
use Rattle.zn_layout.specs.Keys.{SessionKey, LeaseKey, key_bytes}
use Rattle.zn_layout.specs.StandsFor.{NodesMean, LifeMeans, StandsFor, stored_of}
use Rattle.zn_view.specs.declared.plan.Decision.{Decision}
use Rattle.zn_view.specs.declared.plan.Decision.TheVariants.{Answered, Planned, Expired, Moved}
use Rattle.zn_view.specs.declared.plan.Plan.{Plan}
use Rattle.zn_view.specs.declared.plan.Who.{Who}
use Rattle.zn_view.specs.declared.snapshot.SeenKey.{SeenKey}
use Rattle.zn_view.specs.Asks.{guards_of, lease_guard, picked, IsAskedPlan}
use Rattle.zn_view.specs.Deciding.{IfPlanned, IsGood, IsTested, IsTestedBy, is_by_tree}
use Rattle.zn_view.specs.Lookups.{sees, IsNodesIn}
use Rattle.zn_view.specs.Needs.{finished, GuardsReads}
use Rattle.zn_view.specs.Seen.{View}
use Rattle.zn_view.specs.Views.{Agrees, IsByTree, IsDecision, IsPlan}
use Rattle.zn_view.proofs.Asked.{life-apart, seen-guarded}
use Rattle.zn_view.proofs.Committing.{zxid-least}
use Rattle.zn_view.proofs.Members.{in_mapped}
use Rattle.zn_view.proofs.Narrowing.{picked-among, picked-told}
use Rattle.zn_view.proofs.Tested.{expired-decides, moved-decides, tree-decides}
use Rattle.zs_close.specs.Closing.{IsEndPlan, IsClose, IsCloseBy, IsClosedBy, IsClosedWith, unsound}
use Rattle.zs_close.specs.Wanting.{end_keys, read_keys, IsNodesSeen}
use Rattle.zs_close.proofs.KeysRead.{end-reads, plain}
use Rattle.zs_close.proofs.Taken.{end-taken}
use Rattle.zs_close.proofs.EndPlans.{agrees-for, commits-for, nodes-few, nodes-mean, life-means, ended-carries, ended-triggers}

told : (s : State) (limit : ℕ) (session : ℤ) → tree_reply s.tree limit session no_watches req.Close ≡ None
unfolding tree_reply
told s limit session = refl

-- the view saw that the session is attached here, and its nodes
pub record IsPlannedClose (who : Who) (v : View) (p : Plan) : Type 0 where
  pub life : Kv
  pub saw_life : sees v (LeaseKey (nat_abs who.session)) ≡ Some (Some life)
  pub mine : life.mod_revision ≡ who.mine
  pub kv : Kv
  pub saw : sees v (SessionKey (nat_abs who.session)) ≡ Some (Some kv)
  pub nodes : SessionRec
  pub found : IsNodesIn kv nodes
  pub plan : IsEndPlan true who.session v nodes p

pub if_planned : (P Q : Plan → Type 0) (d : Decision) → ((p : Plan) → P p → Q p) → IfPlanned P d → IfPlanned Q d
if_planned P Q (Planned p) f h = f p h
if_planned P Q (Answered x arm) f h = tt
if_planned P Q Expired f h = tt
if_planned P Q (Moved found) f h = tt

-- ---- the decision, by cases on what was seen

module _ (who : Who) (v : View) (real : pos 1 ≤ℤ who.session) where
  abbrev session_seen : Option (Option Kv)
  session_seen = sees v (SessionKey (nat_abs who.session))

  abbrev life : Option (Option Kv)
  life = sees v (LeaseKey (nat_abs who.session))

  -- where no sound state is one of the view's, any decision is right
  no_state : (d : Decision) (kv : Kv) → life ≡ Some (Some kv) → int_eq kv.mod_revision who.mine ≡ true → ((m : Keys) (s : State) → IsSound s → StandsFor m s → Agrees v m → ⊥) → IsDecision req.Close who v d
  no_state d kv saw here never = tree-decides req.Close who v d kv real plain saw here (λ m s x sound valid stands agrees lives. absurd (never m s sound stands agrees))

  planned_decides : (d : Decision) (p : Plan) (kv : Kv) → life ≡ Some (Some kv) → int_eq kv.mod_revision who.mine ≡ true → d ≡ Planned p → IsDecision req.Close who v d
  planned_decides d p kv saw here e = tree-decides req.Close who v d kv real plain saw here (λ m s x sound valid stands agrees lives. subst (IsByTree req.Close d) (sym (told s (limit_of x) who.session)) (p, e))

  -- a session that lives has a list of its nodes
  listless : (o : Option Session) (own : List Bytes) (kv : Kv) → LifeMeans (nat_abs who.session) o (stored_of (Some kv)) → NodesMean o own (stored_of None) → ⊥
  listless None own kv lives nodes = lives
  listless (Some x) own kv lives nodes = nodes

  -- it has no more nodes than it may own
  too_many : (n most : ℕ) → nat_le n most ≡ false → n ≤ most → ⊥
  too_many n most e few = both_ways _ e (le-leb n most few)

  module _ (life_kv : Kv) (saw_life : life ≡ Some (Some life_kv)) (here : int_eq life_kv.mod_revision who.mine ≡ true) (d : Decision) where
    with_decides : (kv : Kv) (r : SessionRec) → session_seen ≡ Some (Some kv) → IsNodesIn kv r → IsClosedWith who.session v r d → IsDecision req.Close who v d
    with_decides kv r saw found h =
        elim (nat_le (length r.paths) (max_owned r.layout)) as (λ b. nat_le (length r.paths) (max_owned r.layout) ≡ b → MatchBool b ((p : Plan) × (d ≡ Planned p) × IsEndPlan true who.session v r p) (d ≡ unsound) → IsDecision req.Close who v d) [
          | true ↦ λ e is. planned_decides d is.0 life_kv saw_life here is.1
          | false ↦ λ e is. no_state d life_kv saw_life here (λ m s sound stands agrees.
              too_many (length r.paths) (max_owned r.layout) e (nodes-few v who.session real m s stands r.paths (agrees-for v who.session r.paths m agrees) r refl kv saw found sound))
        ] refl h

    by_decides : (o : Option (Option Kv)) → session_seen ≡ o → IsClosedBy who.session v o d → IsDecision req.Close who v d
    by_decides None saw h = absurd h
    by_decides (Some None) saw h = no_state d life_kv saw_life here (λ m s sound stands agrees. let seen = agrees-for v who.session [] m agrees in
        listless (session_at who.session s) (owned s.tree who.session) life_kv (life-means v who.session real m s stands [] seen (Some life_kv) saw_life) (nodes-mean v who.session real m s stands [] seen None saw))
    by_decides (Some (Some kv)) saw h = with_decides kv h.0 saw h.1 h.2

    with_planned : (kv : Kv) (r : SessionRec) → session_seen ≡ Some (Some kv) → IsNodesIn kv r → IsClosedWith who.session v r d → IfPlanned (IsPlannedClose who v) d
    with_planned kv r saw found h =
        elim (nat_le (length r.paths) (max_owned r.layout)) as (λ b. MatchBool b ((p : Plan) × (d ≡ Planned p) × IsEndPlan true who.session v r p) (d ≡ unsound) → IfPlanned (IsPlannedClose who v) d) [
          | true ↦ λ is. subst (IfPlanned (IsPlannedClose who v)) (sym is.1) (record { life = life_kv; saw_life = saw_life; mine = (Decides-int_eq life_kv.mod_revision who.mine).0 here; kv = kv; saw = saw; nodes = r; found = found; plan = is.2 })
          | false ↦ λ is. subst (IfPlanned (IsPlannedClose who v)) (sym is) tt
        ] h

    by_planned : (o : Option (Option Kv)) → session_seen ≡ o → IsClosedBy who.session v o d → IfPlanned (IsPlannedClose who v) d
    by_planned None saw h = absurd h
    by_planned (Some None) saw h = subst (IfPlanned (IsPlannedClose who v)) (sym h) tt
    by_planned (Some (Some kv)) saw h = with_planned kv h.0 saw h.1 h.2

  life_decides : (d : Decision) (o : Option (Option Kv)) → life ≡ o → IsCloseBy who v o d → IsDecision req.Close who v d
  life_decides d None saw h = absurd h
  life_decides d (Some None) saw h = subst (IsDecision req.Close who v) (sym h) (expired-decides req.Close who v real plain saw)
  life_decides d (Some (Some kv)) saw h =
      elim (int_eq kv.mod_revision who.mine) as (λ b. int_eq kv.mod_revision who.mine ≡ b → MatchBool b (IsClosedBy who.session v session_seen d) (d ≡ Moved kv.mod_revision) → IsDecision req.Close who v d) [
        | true ↦ λ e is. by_decides kv saw e d session_seen refl is
        | false ↦ λ e is. subst (IsDecision req.Close who v) (sym is) (moved-decides req.Close who v kv real plain saw e)
      ] refl h

  life_planned : (d : Decision) (o : Option (Option Kv)) → life ≡ o → IsCloseBy who v o d → IfPlanned (IsPlannedClose who v) d
  life_planned d None saw h = absurd h
  life_planned d (Some None) saw h = subst (IfPlanned (IsPlannedClose who v)) (sym h) tt
  life_planned d (Some (Some kv)) saw h =
      elim (int_eq kv.mod_revision who.mine) as (λ b. int_eq kv.mod_revision who.mine ≡ b → MatchBool b (IsClosedBy who.session v session_seen d) (d ≡ Moved kv.mod_revision) → IfPlanned (IsPlannedClose who v) d) [
        | true ↦ λ e is. by_planned kv saw e d session_seen refl is
        | false ↦ λ e is. subst (IfPlanned (IsPlannedClose who v)) (sym is) tt
      ] refl h

  pub close-decides : (d : Decision) → IsClose who v d → IsDecision req.Close who v d
  close-decides d h = life_decides d life refl h

  pub close-planned : (d : Decision) → IsClose who v d → IfPlanned (IsPlannedClose who v) d
  close-planned d h = life_planned d life refl h

  -- ---- the session is tested first

  closed_by_tree : (d : Decision) (o : Option (Option Kv)) → IsClosedBy who.session v o d → is_by_tree d ≡ true
  closed_by_tree d None h = absurd h
  closed_by_tree d (Some None) h = ap is_by_tree h
  closed_by_tree d (Some (Some kv)) h =
      elim (nat_le (length h.0.paths) (max_owned h.0.layout)) as (λ b. MatchBool b ((p : Plan) × (d ≡ Planned p) × IsEndPlan true who.session v h.0 p) (d ≡ unsound) → is_by_tree d ≡ true) [
        | true ↦ λ is. ap is_by_tree is.1
        | false ↦ λ is. ap is_by_tree is
      ] h.2

  life_tested : (d : Decision) (o : Option (Option Kv)) → IsCloseBy who v o d → IsTestedBy who d o
  life_tested d None h = h
  life_tested d (Some None) h = h
  life_tested d (Some (Some kv)) h =
      elim (int_eq kv.mod_revision who.mine) as (λ b. MatchBool b (IsClosedBy who.session v session_seen d) (d ≡ Moved kv.mod_revision) → MatchBool b (is_by_tree d ≡ true) (d ≡ Moved kv.mod_revision)) [
        | true ↦ λ is. closed_by_tree d session_seen is
        | false ↦ λ is. is
      ] h

  pub close-tested : (d : Decision) → IsClose who v d → IsTested req.Close who v d
  close-tested d h _ = life_tested d life h

  -- ---- the plan

  module _ (p : Plan) (is : IsPlannedClose who v p) where
    not_lapsed : (s : State) → true ≡ false → (x : Session) → session_at who.session s ≡ Some x → x.lapsed ≡ true
    not_lapsed s e x h = absurd (true≢false e)

    close-plan : (now : ℕ) → IsPlan req.Close who now v p (λ z. finished z p.draft)
    close-plan now = record {
      carries = λ m s z sound stands may later high.
          let low : pos 1 ≤ℤ z = omega (arith, ints, zxid-least m s stands, later) in
          ended-carries v who.session real m s stands (is.nodes).paths (commits-for p v who.session (is.nodes).paths m (is.plan).guards may) is.nodes refl is.kv is.saw is.found sound true (not_lapsed s) p is.plan z low high;
      answers = λ m s z sound stands may later high. record {
        made = record { response = body.Empty; tree = (session_ended s z who.session).tree; triggers = (session_ended s z who.session).triggers };
        commits = refl;
        triggers = ended-triggers v who.session real m s stands (is.nodes).paths (commits-for p v who.session (is.nodes).paths m (is.plan).guards may) is.nodes refl is.kv is.saw is.found sound true (not_lapsed s) p is.plan z;
        answers = ap (finished z) (is.plan).draft;
      };
    }

    abbrev keys : List SeenKey
    keys = picked v (read_keys who.session (is.nodes).paths)

    close-asked : IsAskedPlan who v p
    close-asked =
        let k : Bytes = key_bytes (LeaseKey (nat_abs who.session)) in
        let inside = in_mapped key_bytes (LeaseKey (nat_abs who.session)) (end_keys who.session (is.nodes).paths) (inr (inl refl)) in
        let guarded = seen-guarded k is.life keys (life-apart (nat_abs who.session)) (picked-told v (read_keys who.session (is.nodes).paths) k (Some is.life) inside is.saw_life) in
        record {
          keys = keys;
          among = picked-among v (read_keys who.session (is.nodes).paths);
          guards = (is.plan).guards;
          again = (is.plan).again;
          lease = subst (λ (gs : List Guard). Contains gs (lease_guard who)) (sym (is.plan).guards)
              (subst (λ (n : ℤ). Contains (guards_of keys) (record { key = k; mod_revision = n })) is.mine guarded);
          shows = (is.plan).shows;
        }

    nodes_seen : IsNodesSeen session_seen (is.nodes).paths
    nodes_seen = subst (λ (o : Option (Option Kv)). IsNodesSeen o (is.nodes).paths) (sym is.saw) (is.nodes, is.found, refl)

    close-reads : GuardsReads req.Close who v p
    close-reads = end-reads v who (is.nodes).paths p nodes_seen (is.plan).guards (is.plan).again

    pub close-good : (now : ℕ) → IsGood req.Close who now v p
    close-good now = record {
      commits = close-plan now;
      asked = close-asked;
      reads = close-reads;
      writes = (is.plan).writes;
      taken = end-taken true who.session v real is.kv is.nodes is.saw is.found p is.plan;
    }
