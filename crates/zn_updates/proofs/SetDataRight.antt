-- The choice of a setData, by records that show its node, is what the setData comes to.
use Rattle.std.proofs.Common.{◌^◌, ◌<◌, ◌≡◌, ℕ, ℤ, ◌≤◌, Bool, true, false, cond, not, [], ◌∷◌, length, Option, Some, None, refl, sym, ap, ◌∙◌, subst}
use Rattle.std.specs.Ordering.{int_eq}
use Rattle.std.specs.FinMap.{get, insert}
use Rattle.zx_base.specs.Maps.{Bytes}
use Rattle.zk_model.specs.declared.node.Node.{Node}
use Rattle.zk_model.specs.declared.node.Stat.{Stat}
use Rattle.zk_model.specs.declared.node.Trigger.TheVariants.{Changed}
use Rattle.zk_model.specs.declared.reply.PartResult.TheVariants as result
use Rattle.zk_model.specs.Codes.{bad_version, system_error}
use Rattle.zk_model.specs.Limits.{max_frame, max_version}
use Rattle.zk_model.specs.Single.{Outcome, Refused, Done, matches, set_data, with_content}
use Rattle.zk_model.specs.Znodes.{num_children, stat_of}
use Rattle.zk_service.specs.States.{State}
use Rattle.zn_layout.specs.declared.record.CountRec.{CountRec}
use Rattle.zn_view.specs.Needs.{own_stat}
use Rattle.zn_updates.specs.declared.seen.SeenData.{SeenData}
use Rattle.zn_updates.specs.declared.seen.SeenCounts.{SeenCounts}
use Rattle.zn_updates.specs.Seen.{IsSeenData, IsSeenCounts, ShowsData, ShowsCounts, seen_data}
use Rattle.zn_updates.specs.Choices.{Refuse, Make, set_stat, set_changes, set_data_choice}
use Rattle.zn_updates.specs.Right.{IsRight}
use Rattle.zn_updates.proofs.SetDataFits.{set_data_fits}

module _ (s : State) (p content : Bytes) (version z : ℤ) (now : ℕ) (time : now < 2 ^ 62) (short : length content ≤ max_frame) where
  abbrev set_data_done : Node → Outcome
  set_data_done n = Done (result.Set (stat_of s.tree p (with_content n content z now))) (insert s.tree p (with_content n content z now)) (Changed p ∷ [])

  module _ (n : Node) (x : SeenData) (c : SeenCounts) (here : get s.tree p ≡ Some n) (seen : IsSeenData z x n) (d : Bool) (counted : IsSeenCounts z c n (num_children s.tree p) d) where
    abbrev changed : Node
    changed = with_content n content z now

    same_stat : own_stat z (set_stat x c content now) ≡ stat_of s.tree p changed
    same_stat =
        ap (λ (y : SeenData). own_stat z (set_stat (record y { czxid = x.czxid }) c content now)) seen.is
        ∙ ap (λ (k : CountRec). own_stat z (set_stat (seen_data x.czxid n) (record { counts = k; pzxid = c.pzxid; is_stored = c.is_stored }) content now)) counted.is
        ∙ (λ i. record (stat_of s.tree p changed) { czxid = sym seen.czxid i; pzxid = sym counted.pzxid i })

    made : int_eq x.version max_version ≡ false → IsRight z s (Make (set_changes p x content now) (Changed p ∷ []) (result.Set (set_stat x c content now))) (set_data_done n)
    made room = record {
      tree = insert s.tree p changed;
      done = ap (λ (w : Stat). Done (result.Set w) (insert s.tree p changed) (Changed p ∷ [])) (sym same_stat);
      fits = set_data_fits s p content z now n x here seen room time short;
      headless = refl;
    }

    tests : (b r : Bool) → (r ≡ false → int_eq x.version max_version ≡ false) →
        IsRight z s (cond (not b) (Refuse bad_version) (cond r (Refuse system_error) (Make (set_changes p x content now) (Changed p ∷ []) (result.Set (set_stat x c content now)))))
        (cond (not b) (Refused bad_version) (cond r (Refused system_error) (set_data_done n)))
    tests false r room = refl
    tests true true room = refl
    tests true false room = made (room refl)

    same_version : x.version ≡ n.version
    same_version = ap (λ (y : SeenData). y.version) seen.is

    set_with : IsRight z s (set_data_choice p content version now (Some x) (Some c)) (set_data s.tree p content version z now (Some n))
    unfolding set_data_choice
    set_with =
        subst (λ (v : ℤ). IsRight z s (cond (not (matches version v)) (Refuse bad_version) (cond (int_eq v max_version) (Refuse system_error) (Make (set_changes p x content now) (Changed p ∷ []) (result.Set (set_stat x c content now)))))
        (set_data s.tree p content version z now (Some n))) (sym same_version)
        (tests (matches version n.version) (int_eq n.version max_version) (λ e. ap (λ (v : ℤ). int_eq v max_version) same_version ∙ e))

  pub set_data_right : (x : Option SeenData) (c : Option SeenCounts) (n : Option Node) (d : Bool) → get s.tree p ≡ n → ShowsData z x n → ShowsCounts z c n (num_children s.tree p) d →
      IsRight z s (set_data_choice p content version now x c) (set_data s.tree p content version z now n)
  unfolding set_data_choice
  set_data_right None c None d here seen counted = refl
  set_data_right None c (Some n) d here seen counted = absurd seen
  set_data_right (Some x) c None d here seen counted = absurd seen
  set_data_right (Some x) None (Some n) d here seen counted = absurd counted
  set_data_right (Some x) (Some c) (Some n) d here seen counted = set_with n x c here seen d counted
