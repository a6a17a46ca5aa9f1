-- The plan of a session's end writes each key once and is small enough for an etcd, which does not deny it.
use Rattle.std.proofs.Common.{◌≡◌, ◌+◌, ◌≤◌, ℤ, pos, Bool, true, false, length, List, [], ◌∷◌, ◌++◌, Some, refl, sym, ap, subst, arith}
use Rattle.std.specs.Prelude.{◌≤ℤ◌, All, IsTrue, map, nat_abs}
use Rattle.std.specs.List.{list_any}
use Rattle.std.specs.List.Sorted.{IsStrictlySortedBy}
use Rattle.std.specs.Ordering.{nat_cmp}
use Rattle.std.specs.Cmp.Lexicographic.{slice_cmp}
use Rattle.std.proofs.lemmas.List.{length-map}
use Rattle.std.proofs.lemmas.Bool.{true≢false}
use Rattle.std.proofs.lemmas.List.Elements.{All-nil, All-cons, All-head, All-tail, All-map}
use Rattle.ev_types.specs.declared.answer.Kv.{Kv}
use Rattle.zk_model.specs.declared.node.Trigger.{Trigger}
use Rattle.zk_model.specs.Limits.{max_owned}
use Rattle.zk_model.specs.Paths.{is_child, is_path}
use Rattle.zk_model.specs.Znodes.{owned}
use Rattle.zk_service.specs.States.{State, IsSound, session_at}
use Rattle.zx_base.specs.Maps.{Bytes, same}
use Rattle.zn_layout.specs.declared.record.SessionRec.{SessionRec}
use Rattle.zn_layout.specs.Changes.{KeyChange, head_put, are_distinct, update_acts}
use Rattle.zn_layout.specs.Keys.{Key, HeadKey, CountsKey, SessionKey, LeaseKey, key_bytes}
use Rattle.zn_layout.specs.Records.{IsHeadRec}
use Rattle.zn_layout.proofs.Paths.{path_short}
use Rattle.zn_view.specs.declared.plan.Plan.{Plan}
use Rattle.zn_view.specs.Asks.{WritesOnce}
use Rattle.zn_view.specs.Deciding.{IsTaken}
use Rattle.zn_view.specs.Lookups.{sees, IsNodesIn}
use Rattle.zn_view.specs.Seen.{View}
use Rattle.zn_view.specs.Views.{IsOf, IsSmallPlan}
use Rattle.zn_view.proofs.PlanSizes.{plan-small}
use Rattle.zn_view.proofs.Sizes.{again-present, counts-size, head-size, life-size, owned-most, session-size}
use Rattle.zn_view.proofs.TakenPlans.{small-taken}
use Rattle.zs_close.specs.Closing.{IsEndPlan}
use Rattle.zs_close.specs.Ending.{end_changes, parents}
use Rattle.zs_close.specs.Wanting.{end_keys, read_keys}
use Rattle.zs_close.proofs.Distinct.{end-distinct, end-leaseless, with_head-distinct}
use Rattle.zs_close.proofs.EndFits.{childless}
use Rattle.zs_close.proofs.EndPlans.{AreSeenFor, IsOpenWith, agrees-for, counts_in, counts-told, plain-told, session-open, nodes-few}
use Rattle.zs_close.proofs.Members.{rising-apart}
use Rattle.zs_close.proofs.ParentPaths.{parents-length, parents-valid}
use Rattle.zs_close.proofs.Sizes.{end-length, end-size}
use Rattle.zs_close.proofs.TriggerBounds.{end_triggers-length, end_triggers-within}
use Rattle.zs_close.proofs.Written.{written-head}

abbrev IsShortKey : Key → Type 0
IsShortKey k = length (key_bytes k) ≤ 1033

counts-short : (qs : List Bytes) → All (λ q. IsTrue (is_path q)) qs → All IsShortKey (map CountsKey qs)
counts-short [] all = All-nil IsShortKey
counts-short (q ∷ qs) all =
    All-cons IsShortKey (CountsKey q) (map CountsKey qs) (omega (arith, counts-size q, path_short q (All-head (λ r. IsTrue (is_path r)) q qs all))) (counts-short qs (All-tail (λ r. IsTrue (is_path r)) q qs all))

keys-short : (id : ℤ) (ps : List Bytes) → All (λ p. IsTrue (is_path p)) ps → All IsShortKey (end_keys id ps)
keys-short id ps valid =
    All-cons IsShortKey HeadKey (LeaseKey (nat_abs id) ∷ SessionKey (nat_abs id) ∷ map CountsKey (parents ps)) (omega (arith, head-size))
    (All-cons IsShortKey (LeaseKey (nat_abs id)) (SessionKey (nat_abs id) ∷ map CountsKey (parents ps)) (omega (arith, life-size (nat_abs id)))
    (All-cons IsShortKey (SessionKey (nat_abs id)) (map CountsKey (parents ps)) (omega (arith, session-size (nat_abs id))) (counts-short (parents ps) (parents-valid ps valid))))

keys-few : (id : ℤ) (ps : List Bytes) → length (read_keys id ps) ≤ 3 + length ps
keys-few id ps = omega (arith, length-map (end_keys id ps) key_bytes, length-map (parents ps) CountsKey, parents-length ps)

module _ (alive : Bool) (id : ℤ) (v : View) (real : pos 1 ≤ℤ id) (kv : Kv) (nodes : SessionRec) (saw : sees v (SessionKey (nat_abs id)) ≡ Some (Some kv)) (found : IsNodesIn kv nodes)
    (p : Plan) (plan : IsEndPlan alive id v nodes p) (s : State) (sound : IsSound s) (of : IsOf v s) where
  abbrev ps : List Bytes
  ps = nodes.paths

  valid : All (λ q. IsTrue (is_path q)) ps
  valid = found.0.valid

  as_seen : AreSeenFor v id ps of.0
  as_seen = agrees-for v id ps of.0 of.2

  own_few : length ps ≤ max_owned nodes.layout
  own_few = nodes-few v id real of.0 s of.1 ps as_seen nodes refl kv saw found sound

  few : length ps ≤ 60
  few = omega (arith, own_few, owned-most nodes.layout)

  opened : IsOpenWith (session_at id s) (owned s.tree id) nodes
  opened = session-open v id real of.0 s of.1 ps as_seen nodes refl kv saw found

  owns : owned s.tree id ≡ ps
  owns = ap (λ (r : SessionRec). r.paths) (opened).owns

  abbrev changes : List KeyChange
  changes = end_changes alive id (counts_in s) nodes

  acts : p.success ≡ update_acts changes p.triggers
  acts = plan.success (counts_in s) (counts-told v id real of.0 s of.1 ps as_seen)

  bounds : IsHeadRec p.triggers
  bounds = subst IsHeadRec (sym plan.triggers) (end_triggers-within ps few valid)

  few_triggers : length p.triggers ≤ 120
  few_triggers = subst (λ (ts : List Trigger). length ts ≤ 120) (sym plan.triggers) (omega (arith, end_triggers-length ps, few))

  few_changes : length changes ≤ 122
  few_changes = end-length alive id (counts_in s) nodes own_few

  small : IsSmallPlan p
  small = plan-small v (read_keys id ps) p changes (omega (arith, keys-few id ps, few)) (All-map (λ (k : Bytes). length k ≤ 1033) key_bytes (end_keys id ps) (keys-short id ps valid)) (omega (arith, few_changes))
      (omega (arith, keys-few id ps, few, end-size alive id (counts_in s) nodes valid, few_changes, few_triggers)) bounds plan.guards plan.again acts

  no_children : (r : Bytes) → list_any (same r) ps ≡ true → list_any (is_child r) ps ≡ false
  no_children = subst (λ (l : List Bytes). (r : Bytes) → list_any (same r) l ≡ true → list_any (is_child r) l ≡ false) owns
      (childless s (pos 0) id true (counts_in s) sound real (plain-told s sound) (opened).session (opened).is_open
      (subst (IsStrictlySortedBy (slice_cmp nat_cmp)) (sym owns) found.0.rising) (λ e. absurd (true≢false e)))

  once : are_distinct (changes ++ head_put p.triggers ∷ []) ≡ true
  once = with_head-distinct p.triggers changes (written-head alive id (counts_in s) nodes) (end-distinct (counts_in s) ps no_children alive id nodes.layout (rising-apart ps found.0.rising))

  written_once : WritesOnce p
  written_once = record {
    own = record { changes = changes; acts = acts; leases = end-leaseless alive id (counts_in s) nodes; triggers = bounds; reads = again-present p.again };
    once = once;
  }

  pub end-taken : IsTaken p
  end-taken = small-taken p written_once small
