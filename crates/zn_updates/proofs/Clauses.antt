-- From the decision of a choice to what is promised of it.
use Rattle.std.proofs.Common.{◌^◌, ◌<◌, ◌≡◌, ℕ, ◌≤◌, ℤ, pos, true, false, Bool, cond, length, List, None, refl, sym, ap, ◌∙◌, subst, arith}
use Rattle.std.specs.Prelude.{◌≤ℤ◌, nat_abs, map, All, Contains, IfSome, Option, Some}
use Rattle.std.proofs.lemmas.List.{length-map}
use Rattle.std.proofs.lemmas.List.Elements.{All-map}
use Rattle.zx_base.specs.Maps.{Bytes}
use Rattle.zx_base.proofs.Options.{none_some}
use Rattle.zk_model.specs.declared.node.Trigger.{Trigger}
use Rattle.zk_model.specs.declared.reply.PartResult.{PartResult}
use Rattle.zk_model.specs.declared.request.Part.{Part}
use Rattle.zk_model.specs.declared.request.Request.{Request}
use Rattle.zk_model.specs.Watches.{no_watches}
use Rattle.zk_service.specs.Answers.{plain_request, tree_reply}
use Rattle.zk_service.specs.States.{limit_of}
use Rattle.zn_layout.specs.Changes.{KeyChange}
use Rattle.zn_layout.specs.Keys.{Key, LeaseKey, key_bytes}
use Rattle.zn_view.specs.declared.plan.Decision.{Decision}
use Rattle.zn_view.specs.declared.plan.Plan.{Plan}
use Rattle.zn_view.specs.declared.plan.Who.{Who}
use Rattle.zn_view.specs.declared.want.Want.{Want}
use Rattle.zn_view.specs.declared.want.Want.TheVariants as want
use Rattle.zn_view.specs.Asks.{again_of, WritesOnce}
use Rattle.zn_view.specs.Lookups.{HasSeen, sees}
use Rattle.zn_view.specs.Needs.{key_want, GuardsReads, IsRead, IsWhole}
use Rattle.zn_view.specs.Seen.{View}
use Rattle.zn_view.specs.Views.{IsByTree, IsSmallPlan}
use Rattle.zn_view.proofs.Elements.{contains-map, mapped-contained}
use Rattle.zn_view.proofs.Members.{In, contains_in, in_contains, in_mapped}
use Rattle.zn_view.proofs.Narrowing.{narrowed-asked, narrowed-plan, narrowed-seen}
use Rattle.zn_view.proofs.NewKeys.{IsAccounted, accounted-new}
use Rattle.zn_view.proofs.PlanSizes.{plan-small}
use Rattle.zn_view.proofs.TakenPlans.{small-taken}
use Rattle.zn_view.proofs.Sizes.{again-present}
use Rattle.zn_updates.specs.declared.chosen.Chosen.{Chosen}
use Rattle.zn_updates.specs.Choices.{Choice, Refuse, Make}
use Rattle.zn_view.specs.Deciding.{IfPlanned, IsToldByForm}
use Rattle.zn_view.specs.Keeping.{PutsNewKeys, update_path}
use Rattle.zn_updates.specs.Deciding.{IfMakes, IfMade, IsAttached, IsBounded, IsBySound, IsGuarded, decision_of, on_keys, plan_of}
use Rattle.zn_updates.specs.Making.{chosen_of}
use Rattle.zn_updates.specs.Layers.{IsChosen}
use Rattle.zn_updates.proofs.Deciding.{IsPart, by_tree, plan_is}
use Rattle.zn_updates.specs.Parts.{IfChanges}
use Rattle.zn_updates.proofs.NewKeys.{AreAccounted}
use Rattle.zn_updates.proofs.WellMade.{AreWellMade}

pub makes_cond : (P : List Trigger → Type 0) (b : Bool) (x y : Choice) → IfMakes P x → IfMakes P y → IfMakes P (cond b x y)
makes_cond P true x y f g = f
makes_cond P false x y f g = g

made_makes : (P : List Trigger → Type 0) (c : Choice) → IfMakes P c → IfMade P (chosen_of c)
made_makes P (Refuse code) h = h
made_makes P (Make cs ts draft) h = h

pub if_made : (P : List Trigger → Type 0) (chosen : Chosen) (c : Choice) → chosen ≡ chosen_of c → IfMakes P c → IfMade P chosen
if_made P chosen c e h = subst (IfMade P) (sym e) (made_makes P c h)

-- ---- the keys that were looked up

-- a key of these is seen on them as on the whole view
pub near_sees : (v : View) (ks : List Key) (k : Key) → In k ks → sees (on_keys v ks) k ≡ sees v k
near_sees v ks k h = narrowed-seen v (map key_bytes ks) (key_bytes k) (in_mapped key_bytes k ks h)

abbrev pub IsShortKey : Key → Type 0
IsShortKey k = length (key_bytes k) ≤ 1033

-- these keys are those that the request reads
pub record AreKeys (r : Request) (who : Who) (v : View) (ks : List Key) : Type 0 where
  pub few : length ks ≤ 8
  pub short : All IsShortKey ks
  pub life : In (LeaseKey (nat_abs who.session)) ks
  pub from : (k : Key) → In k ks → IsRead r who v (key_want k)
  pub to : (w : Want) → IsRead r who v w → (k : Key) × In k ks × (w ≡ key_want k)

abbrev key_in : Want → Bytes
key_in (want.Key k) = k
key_in (want.Children q) = q

if_some : (P : Type 0) (o : Option Bytes) → P → IfSome o (λ q. P)
if_some P None h = tt
if_some P (Some q) h = h

-- ---- all that is promised

module _ (r : Request) (p : Part) (who : Who) (v : View) (ks : List Key) (choice : ℕ → Choice) (now : ℕ) (part : IsPart r p) (chosen : IsChosen p who v choice) (time : now < 2 ^ 62) (real : pos 1 ≤ℤ who.session)
    (plain : plain_request no_watches r ≡ None) (d : Decision) (is : d ≡ decision_of (on_keys v ks) (choice now)) where
  pub by_form : IsToldByForm r d
  by_form t e = absurd (none_some (sym plain ∙ e))

  pub by_sound : IsBySound r who v d
  by_sound _ s sound of x opened = subst (λ (y : Decision). IsByTree r y (tree_reply s.tree (limit_of x) who.session no_watches r)) (sym is)
      (by_tree r p who v (on_keys v ks) choice now part chosen s sound of x opened)

  -- ---- a plan

  module _ (near : IsChosen p who (on_keys v ks) choice) (keys : AreKeys r who v ks) (whole : IsWhole r who v) where
    looked_up : (k : Key) → In k ks → HasSeen v k
    looked_up k inside none = whole plain (key_want k) (keys.from k inside) none

    key_read : (k : Bytes) → Contains (map key_bytes ks) k → IsRead r who v (want.Key k)
    key_read k has =
        let key = mapped-contained key_bytes ks k has in
        subst (λ (b : Bytes). IsRead r who v (want.Key b)) (sym key.2) (keys.from key.0 (contains_in key.0 ks key.1))

    read_key : (k : Bytes) → IsRead r who v (want.Key k) → Contains (map key_bytes ks) k
    read_key k reads =
        let key = keys.to (want.Key k) reads in
        subst (Contains (map key_bytes ks)) (sym (ap key_in key.2)) (contains-map key_bytes ks key.0 (in_contains key.0 ks key.1))

    module _ (cs : List KeyChange) (ts : List Trigger) (draft : PartResult) (made : choice now ≡ Make cs ts draft) (well : AreWellMade (IsBounded r v) cs ts) (accounted : All (IsAccounted v ks) cs) where
      abbrev plan : Plan
      plan = plan_of (on_keys v ks) cs ts draft

      guards_reads : GuardsReads r who v plan
      guards_reads = record { keys = map key_bytes ks; guards = refl; again = refl; all = read_key; only = key_read }

      writes : WritesOnce plan
      writes = record { own = record { changes = cs; acts = refl; leases = well.leases; triggers = well.triggers; reads = again-present (again_of (on_keys v ks).keys) }; once = well.once }

      small : IsBounded r v → IsSmallPlan plan
      small bounded =
          let few_keys : length (map key_bytes ks) ≤ 8 = omega (arith, length-map ks key_bytes, keys.few) in
          let few_told : length plan.triggers ≤ 2 = well.told in
          let small = well.small bounded in
          plan-small v (map key_bytes ks) plan cs (omega arith) (All-map (λ (k : Bytes). length k ≤ 1033) key_bytes ks keys.short) (omega (arith, well.few)) (omega (arith, small)) well.triggers refl refl refl

      life_inside : In (key_bytes (LeaseKey (nat_abs who.session))) (map key_bytes ks)
      life_inside = in_mapped key_bytes (LeaseKey (nat_abs who.session)) ks keys.life

      near_attached : IsAttached who v → IsAttached who (on_keys v ks)
      near_attached a = (a.0, near_sees v ks (LeaseKey (nat_abs who.session)) keys.life ∙ a.1, a.2)

      guarded : IsGuarded r who now v plan
      guarded = record {
        commits = λ attached. (
          narrowed-plan r who now v (map key_bytes ks) plan _ refl (plan_is r p who (on_keys v ks) choice now part near time cs ts draft made well.triggers real (near_attached attached)),
          narrowed-asked who v (map key_bytes ks) plan cs attached.0 refl refl refl life_inside attached.1 attached.2,
        );
        reads = guards_reads;
        writes = writes;
        taken = λ bounded. small-taken plan writes (small bounded);
        keepable = if_some (PutsNewKeys v plan) (update_path r) (accounted-new v ks plan refl looked_up cs ts refl accounted);
      }

    planned_by : (c : Choice) → choice now ≡ c → IfChanges (AreWellMade (IsBounded r v)) c → AreAccounted v ks c → IfPlanned (IsGuarded r who now v) (decision_of (on_keys v ks) c)
    planned_by (Refuse code) e h accounted = tt
    planned_by (Make cs ts draft) e h accounted = guarded cs ts draft e h accounted

    pub planned : IfChanges (AreWellMade (IsBounded r v)) (choice now) → AreAccounted v ks (choice now) → IfPlanned (IsGuarded r who now v) d
    planned well accounted = subst (IfPlanned (IsGuarded r who now v)) (sym is) (planned_by (choice now) refl well accounted)

-- a refusal is no plan
pub refused_plans : (r : Request) (who : Who) (v near : View) (now : ℕ) (code : ℤ) (d : Decision) → d ≡ decision_of near (Refuse code) → IfPlanned (IsGuarded r who now v) d
refused_plans r who v near now code d is = subst (IfPlanned (IsGuarded r who now v)) (sym is) tt
