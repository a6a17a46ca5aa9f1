-- On a view of a sound state an etcd takes the plan of a multi.
use Rattle.std.proofs.Common.{◌<◌, ◌^◌, ◌≡◌, ℕ, ℤ, pos, ◌+◌, ◌≤◌, false, length, List, ◌++◌, Option, Some, sym, ap, ◌∙◌, subst, arith}
use Rattle.std.specs.Prelude.{◌≤ℤ◌, nat_abs, nat_lt}
use Rattle.std.specs.List.{sum_by}
use Rattle.std.proofs.lemmas.Bool.Decides.{nat_tests}
use Rattle.ev_types.specs.declared.answer.Kv.{Kv}
use Rattle.zk_model.specs.declared.request.Part.{Part}
use Rattle.zk_model.specs.Limits.{max_load, max_parts}
use Rattle.zk_model.specs.Multi.{data_len, distinct}
use Rattle.zk_service.specs.States.{State, Session, IsSound, session_at}
use Rattle.zn_layout.specs.Changes.{KeyChange, update_acts}
use Rattle.zn_layout.specs.Keys.{Key, LeaseKey, key_bytes}
use Rattle.zn_layout.specs.StandsFor.{at}
use Rattle.zn_view.specs.declared.plan.Plan.{Plan}
use Rattle.zn_view.specs.declared.plan.Who.{Who}
use Rattle.zn_view.specs.Asks.{narrowed}
use Rattle.zn_view.specs.Deciding.{IsTaken}
use Rattle.zn_view.specs.Laws.{LivesAs}
use Rattle.zn_view.specs.Lookups.{HasSeen}
use Rattle.zn_view.specs.Seen.{View}
use Rattle.zn_view.specs.Views.{IsOf, live}
use Rattle.zn_view.proofs.AsSeen.{agrees-as_seen, agrees-seen}
use Rattle.zn_view.proofs.Members.{In}
use Rattle.zn_view.proofs.Narrowing.{narrowed-agrees}
use Rattle.zn_view.proofs.TakenPlans.{small-taken}
use Rattle.zn_view.proofs.Tested.{session-lives}
use Rattle.zn_updates.specs.Deciding.{IsAttached}
use Rattle.zn_updates.specs.KeysRead.{start_keys}
use Rattle.zn_updates.specs.Layers.{Shows}
use Rattle.zn_updates.proofs.Telling.{shows, told}
use Rattle.zn_multi.specs.Carrying.{no_progress, AreShort, Runs}
use Rattle.zn_multi.specs.Deciding.{AreOwnedLoads, IsPlanOn, read_keys}
use Rattle.zn_multi.specs.Laying.{written}
use Rattle.zn_multi.specs.Reading.{AreRead}
use Rattle.zn_multi.specs.declared.carrying.Carried.TheVariants.{Passed}
use Rattle.zn_multi.specs.declared.carrying.Progress.{Progress}
use Rattle.zn_multi.proofs.Laid.{laid-injective}
use Rattle.zn_multi.proofs.Owning.{path_load}
use Rattle.zn_multi.proofs.PlanBytes.{plan_small}
use Rattle.zn_multi.proofs.Planned.{acts_are, bounds, laid, writes_once}
use Rattle.zn_multi.proofs.Settling.{ends, load_is, narrow, open_is}

module _ (parts : List Part) (who : Who) (v : View) (now : ℕ) (time : now < 2 ^ 62) (short : AreShort parts) (real : pos 1 ≤ℤ who.session) (few : length parts ≤ max_parts) (ks : List Key) (read : AreRead who.session v parts ks) (saw : (k : Key) → In k (start_keys who.session ++ ks) → HasSeen v k)
    (p : Progress) (run : Runs who now v no_progress 0 parts (Passed p)) (plan : Plan) (is : IsPlanOn v (read_keys who.session ks) p plan) (n : ℕ) (loads : AreOwnedLoads v (distinct p.touched) n) (low : nat_lt max_load (sum_by data_len parts + n) ≡ false) (attached : IsAttached who v) where
  abbrev near : View
  near = narrowed v (read_keys who.session ks)

  opened_in : (s : State) → IsOf v s → (x : Session) × (session_at who.session s ≡ Some x)
  opened_in s of =
      let there : at of.0 (LeaseKey (nat_abs who.session)) ≡ Some attached.0 = agrees-seen v of.0 (key_bytes (LeaseKey (nat_abs who.session))) (Some attached.0) of.2 attached.1 in
      let lives : LivesAs (Some attached.0) (live (session_at who.session s)) = subst (λ (o : Option Kv). LivesAs o (live (session_at who.session s))) there (session-lives of.0 s who.session real of.1) in
      (lives.0, open_is (session_at who.session s) lives.0 lives.1)

  within : sum_by data_len parts + n ≤ max_load
  within = grind (arith, nat_tests)

  pub is_taken : (s : State) → IsSound s → IsOf v s → IsTaken plan
  is_taken s sound of =
      let shown : Shows (pos 0) near s = shows (pos 0) near of.0 s of.1 (told near of.0 (agrees-as_seen near of.0 (narrowed-agrees v (read_keys who.session ks) of.0 of.2))) in
      let x = opened_in s of in
      let st = ends parts who v now time short real ks read saw s (pos 0) sound shown x.0 x.1 p run in
      let changes = laid parts who v now few p run ks read plan is in
      let same = laid-injective changes.changes st.1.leads.changes (sym changes.is ∙ st.1.leads.over) in
      let acts : plan.success ≡ update_acts (written v st.1.leads.changes) plan.triggers = acts_are parts who v now few p run ks read plan is ∙ ap (λ (us : List KeyChange). update_acts (written v us) plan.triggers) same in
      let load = load_is parts who v now time short real ks read saw s (pos 0) sound shown x.0 x.1 p run n loads in
      let counted : n ≡ sum_by (λ (o : ℤ). path_load s.tree o) (distinct p.touched) = omega (arith, load) in
      small-taken plan (writes_once parts who v now few p run ks read plan is)
      (plan_small parts who v now time few near (narrow parts who v now time short real ks read saw) s (pos 0) sound shown x.0 x.1 p run st.0 st.1 ks read plan is.guards is.again acts is.triggers (bounds parts who v now few p run ks read plan is) n counted within)
