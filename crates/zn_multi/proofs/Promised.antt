-- The decision on a multi is right, and its plan is good.
use Rattle.std.proofs.Common.{◌<◌, ◌^◌, ◌≡◌, ℕ, pos, ◌+◌, ◌≤◌, Bool, true, false, length, List, [], Option, Some, None, refl, sym, ap, subst}
use Rattle.std.specs.Prelude.{◌≤ℤ◌, MatchBool, nat_abs, nat_lt}
use Rattle.std.specs.List.{sum_by}
use Rattle.std.specs.Ordering.{int_eq}
use Rattle.ev_types.specs.declared.answer.Kv.{Kv}
use Rattle.zk_model.specs.declared.request.Part.{Part}
use Rattle.zk_model.specs.declared.request.Request.TheVariants as req
use Rattle.zk_model.specs.Codes.{bad_arguments}
use Rattle.zk_model.specs.Limits.{max_load, max_parts}
use Rattle.zk_model.specs.Multi.{data_len, distinct}
use Rattle.zk_service.specs.States.{State, Session, session_at}
use Rattle.zn_layout.specs.Keys.{LeaseKey}
use Rattle.zn_view.specs.declared.plan.Decision.{Decision}
use Rattle.zn_view.specs.declared.plan.Decision.TheVariants.{Answered, Planned, Expired, Moved}
use Rattle.zn_view.specs.declared.plan.Plan.{Plan}
use Rattle.zn_view.specs.declared.plan.Who.{Who}
use Rattle.zn_view.specs.Asks.{WritesOnce, narrowed}
use Rattle.zn_view.specs.Deciding.{IfPlanned, IsGood, IsTested, IsTestedBy, is_by_tree}
use Rattle.zn_view.specs.Lookups.{sees}
use Rattle.zn_view.specs.Needs.{IsWhole}
use Rattle.zn_view.specs.Seen.{View}
use Rattle.zn_view.specs.Views.{IsDecision, live}
use Rattle.zn_view.proofs.AsSeen.{agrees-as_seen}
use Rattle.zn_view.proofs.Narrowing.{narrowed-agrees}
use Rattle.zn_view.proofs.Tested.{expired-decides, moved-decides, tree-decides}
use Rattle.zn_updates.specs.Deciding.{IsAttached}
use Rattle.zn_updates.specs.Layers.{Shows}
use Rattle.zn_updates.proofs.Telling.{shows, told}
use Rattle.zn_multi.specs.Carrying.{no_progress, AreShort, Runs}
use Rattle.zn_multi.specs.Deciding.{AreOwnedLoads, IsByLife, IsInTurn, IsPlannedAs, read_keys, refused}
use Rattle.zn_multi.specs.declared.carrying.Carried.TheVariants.{Stopped, Passed}
use Rattle.zn_multi.specs.declared.carrying.Progress.{Progress}
use Rattle.zn_multi.proofs.Existing.{keys_there}
use Rattle.zn_multi.proofs.Needs.{plain_few, whole_seen}
use Rattle.zn_multi.proofs.Settling.{by_tree, open_is}
use Rattle.zn_multi.proofs.Planned.{is_plan, is_asked, guards_reads, writes_once}
use Rattle.zn_multi.proofs.Taking.{is_taken}
use Rattle.zx_base.proofs.Booleans.{same-from_int_eq as int_eq-is}

pub record IsPromised (parts : List Part) (who : Who) (now : ℕ) (v : View) (plan : Plan) : Type 0 where
  pub good : IsGood (req.Multi parts) who now v plan
  pub once : WritesOnce plan

module _ (parts : List Part) (who : Who) (now : ℕ) (v : View) (time : now < 2 ^ 62) (short : AreShort parts) (real : pos 1 ≤ℤ who.session) (few : length parts ≤ max_parts) (whole : IsWhole (req.Multi parts) who v) where
  planned_by : (p : Progress) → Runs who now v no_progress 0 parts (Passed p) → (n : ℕ) → AreOwnedLoads v (distinct p.touched) n → IsAttached who v → (d : Decision) (b : Bool) → nat_lt max_load (sum_by data_len parts + n) ≡ b
      → MatchBool b (d ≡ refused bad_arguments) (IsPlannedAs who.session v parts p d) → IfPlanned (IsPromised parts who now v) d
  planned_by p run n loads attached d true low h = subst (IfPlanned (IsPromised parts who now v)) (sym h) tt
  planned_by p run n loads attached d false low (plan, e, ks, read, is) = subst (IfPlanned (IsPromised parts who now v)) (sym e) (record {
    good = record {
      commits = is_plan parts who v now few p run ks read plan is attached time short real (whole_seen parts who v ks read few whole) n loads low;
      asked = is_asked parts who v now few p run ks read plan is attached;
      reads = guards_reads parts who v now few p run ks read plan is;
      writes = (writes_once parts who v now few p run ks read plan is).own;
      taken = is_taken parts who v now time short real few ks read (whole_seen parts who v ks read few whole) p run plan is n loads low attached;
    };
    once = writes_once parts who v now few p run ks read plan is;
  })

  promised_in_turn : IsAttached who v → (d : Decision) → IsInTurn who now v parts d → IfPlanned (IsPromised parts who now v) d
  promised_in_turn attached d (Stopped k code, run, is) = subst (IfPlanned (IsPromised parts who now v)) (sym is) tt
  promised_in_turn attached d (Passed p, run, (n, loads, h)) = planned_by p run n loads attached d (nat_lt max_load (sum_by data_len parts + n)) refl h

  tree_in_turn : (d : Decision) → IsInTurn who now v parts d → is_by_tree d ≡ true
  tree_in_turn d (Stopped k code, run, is) = ap is_by_tree is
  tree_in_turn d (Passed p, run, (n, loads, h)) = at (nat_lt max_load (sum_by data_len parts + n)) h
    where
      at : (b : Bool) → MatchBool b (d ≡ refused bad_arguments) (IsPlannedAs who.session v parts p d) → is_by_tree d ≡ true
      at true e = ap is_by_tree e
      at false e = ap is_by_tree e.1

  abbrev life : Option (Option Kv)
  life = sees v (LeaseKey (nat_abs who.session))

  -- the decision is right in each sound state that the view is of
  decided_in_turn : (kv : Kv) → life ≡ Some (Some kv) → int_eq kv.mod_revision who.mine ≡ true → (d : Decision) → IsInTurn who now v parts d → IsDecision (req.Multi parts) who v d
  decided_in_turn kv there mine d turn = tree-decides (req.Multi parts) who v d kv real (plain_few parts few) there mine (λ m s x sound valid stands agrees lives.
      let shown : Shows (pos 0) v s = shows (pos 0) v m s stands (told v m (agrees-as_seen v m agrees)) in
      let ks = keys_there (pos 0) v s shown who.session parts (Some []) in
      let near_agrees = narrowed-agrees v (read_keys who.session ks.0) m agrees in
      by_tree parts who v now time short real ks.0 ks.1 (whole_seen parts who v ks.0 ks.1 few whole) s (pos 0) sound (shows (pos 0) (narrowed v (read_keys who.session ks.0)) m s stands (told (narrowed v (read_keys who.session ks.0)) m (agrees-as_seen (narrowed v (read_keys who.session ks.0)) m near_agrees))) x (open_session s x lives) d turn)
    where
      open_session : (s : State) (x : Session) → live (session_at who.session s) ≡ Some x → session_at who.session s ≡ Some x
      open_session s x e = open_is (session_at who.session s) x e

  module _ (d : Decision) where
    decision_at : (o : Option (Option Kv)) → life ≡ o → IsByLife who now v parts d o → IsDecision (req.Multi parts) who v d
    decision_at None there bad = absurd bad
    decision_at (Some None) there e = subst (IsDecision (req.Multi parts) who v) (sym e) (expired-decides (req.Multi parts) who v real (plain_few parts few) there)
    decision_at (Some (Some kv)) there h = at (int_eq kv.mod_revision who.mine) refl h
      where
        at : (b : Bool) → int_eq kv.mod_revision who.mine ≡ b → MatchBool b (IsInTurn who now v parts d) (d ≡ Moved kv.mod_revision) → IsDecision (req.Multi parts) who v d
        at true mine turn = decided_in_turn kv there mine d turn
        at false apart e = subst (IsDecision (req.Multi parts) who v) (sym e) (moved-decides (req.Multi parts) who v kv real (plain_few parts few) there apart)

    pub is_decision : IsByLife who now v parts d life → IsDecision (req.Multi parts) who v d
    is_decision h = decision_at life refl h

    tested_at : (o : Option (Option Kv)) → IsByLife who now v parts d o → IsTestedBy who d o
    tested_at None bad = bad
    tested_at (Some None) e = e
    tested_at (Some (Some kv)) h = at (int_eq kv.mod_revision who.mine) h
      where
        at : (b : Bool) → MatchBool b (IsInTurn who now v parts d) (d ≡ Moved kv.mod_revision) → MatchBool b (is_by_tree d ≡ true) (d ≡ Moved kv.mod_revision)
        at true turn = tree_in_turn d turn
        at false e = e

    pub is_tested : IsByLife who now v parts d life → IsTested (req.Multi parts) who v d
    is_tested h = λ _. tested_at life h

    promised_at : (o : Option (Option Kv)) → life ≡ o → IsByLife who now v parts d o → IfPlanned (IsPromised parts who now v) d
    promised_at None there bad = absurd bad
    promised_at (Some None) there e = subst (IfPlanned (IsPromised parts who now v)) (sym e) tt
    promised_at (Some (Some kv)) there h = at (int_eq kv.mod_revision who.mine) refl h
      where
        at : (b : Bool) → int_eq kv.mod_revision who.mine ≡ b → MatchBool b (IsInTurn who now v parts d) (d ≡ Moved kv.mod_revision) → IfPlanned (IsPromised parts who now v) d
        at true mine turn = promised_in_turn (kv, there, int_eq-is kv.mod_revision who.mine mine) d turn
        at false apart e = subst (IfPlanned (IsPromised parts who now v)) (sym e) tt

    pub is_promised : IsByLife who now v parts d life → IfPlanned (IsPromised parts who now v) d
    is_promised h = promised_at life refl h

pub planned-weaker : (P Q : Plan → Type 0) → ((p : Plan) → P p → Q p) → (d : Decision) → IfPlanned P d → IfPlanned Q d
planned-weaker P Q h (Planned p) is = h p is
planned-weaker P Q h (Answered x arm) is = tt
planned-weaker P Q h Expired is = tt
planned-weaker P Q h (Moved found) is = tt
