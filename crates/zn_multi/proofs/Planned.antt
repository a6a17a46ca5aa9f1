-- What is promised of a plan for several parts, on every view.
use Rattle.std.proofs.Common.{◌<◌, ◌^◌, ◌≡◌, ℕ, ℤ, pos, ◌+◌, ◌≤◌, true, false, length, List, [], ◌∷◌, ◌++◌, map, refl, sym, ap, ◌∙◌, subst, inl, inr}
use Rattle.std.specs.Prelude.{◌≤ℤ◌, All, Contains, nat_abs, nat_lt}
use Rattle.std.specs.List.{sum_by}
use Rattle.std.proofs.lemmas.List.{map-append}
use Rattle.std.proofs.lemmas.List.Elements.{All-nil, All-weaker}
use Rattle.ev_types.specs.declared.ask.Act.{Act}
use Rattle.ev_types.specs.Reads.{read_key}
use Rattle.zk_model.specs.declared.request.Part.{Part}
use Rattle.zk_model.specs.declared.request.Request.TheVariants as req
use Rattle.zk_model.specs.Limits.{max_load, max_parts}
use Rattle.zk_model.specs.Multi.{data_len, distinct}
use Rattle.zx_base.specs.Maps.{Bytes}
use Rattle.zn_layout.specs.Changes.{KeyChange, act_of, acts_of, are_distinct, head_put, update_acts}
use Rattle.zn_layout.specs.Keys.{Key, HeadKey, LeaseKey, key_bytes}
use Rattle.zn_layout.specs.Records.{IsHeadRec}
use Rattle.zn_view.specs.declared.plan.Plan.{Plan}
use Rattle.zn_view.specs.declared.plan.Who.{Who}
use Rattle.zn_view.specs.declared.want.Want.TheVariants as want
use Rattle.zn_view.specs.Asks.{IsAskedPlan, IsLeaseless, WritesOnce}
use Rattle.zn_view.specs.Lookups.{HasSeen}
use Rattle.zn_view.specs.Needs.{GuardsReads, IsRead, finished, key_want}
use Rattle.zn_view.specs.Seen.{View}
use Rattle.zn_view.specs.Views.{IsPlan}
use Rattle.zn_view.proofs.Elements.{mapped-contained}
use Rattle.zn_view.proofs.Members.{In, contains_in, in_contains, in_mapped}
use Rattle.zn_view.proofs.Narrowing.{narrowed-asked}
use Rattle.zn_view.proofs.Sizes.{again-present}
use Rattle.zn_updates.specs.Deciding.{IsAttached}
use Rattle.zn_updates.specs.KeysRead.{start_keys}
use Rattle.zn_updates.specs.Parts.{IsKeptChange}
use Rattle.zn_multi.specs.Carrying.{no_progress, AreShort, Runs}
use Rattle.zn_multi.specs.Deciding.{AreOwnedLoads, IsPlanOn, read_keys}
use Rattle.zn_multi.specs.Laying.{all_laid, laid_view, with_acts, written, written_acts}
use Rattle.zn_multi.specs.Reading.{AreRead}
use Rattle.zn_multi.specs.declared.carrying.Carried.TheVariants.{Stopped, Passed}
use Rattle.zn_multi.specs.declared.carrying.Progress.{Progress}
use Rattle.zn_multi.proofs.Laid.{acts-laid, distinct-all_laid, kept-all_laid}
use Rattle.zn_multi.proofs.Needs.{multi_from, multi_to, once_has, once_only}
use Rattle.zn_multi.proofs.Runs.{run_head}
use Rattle.zn_multi.proofs.Settling.{carries_out}
use Rattle.zn_multi.proofs.Written.{acts-written, distinct-head, distinct-written, kept-written, headless-written}

-- ---- what was laid, whatever the view shows

pub record IsLaid (over : View) : Type 0 where
  pub changes : List KeyChange
  pub is : over ≡ laid_view changes
  pub once : are_distinct changes ≡ true
  pub kept : All IsKeptChange changes

not_stopped : (a : Progress) (k : ℕ) (code : ℤ) → Passed a ≡ Stopped k code → ⊥
not_stopped a k code e = cc

passed_is : (a b : Progress) → Passed a ≡ Passed b → b ≡ a
passed_is a b e = cc

run_laid : (who : Who) (now : ℕ) (v : View) (ps : List Part) (old new : Progress) (place : ℕ) → Runs who now v old place ps (Passed new) → IsLaid old.over → IsLaid new.over
run_laid who now v [] old new place run laid = subst (λ (x : Progress). IsLaid x.over) (passed_is new old run) laid
run_laid who now v (p ∷ ps) old new place (Stopped k code, one, rest) laid = absurd (not_stopped new k code rest)
run_laid who now v (p ∷ ps) old new place (Passed mid, one, rest) laid = run_laid who now v ps mid new (place + 1) rest (record {
  changes = all_laid laid.changes one.changes;
  is = one.over ∙ ap (λ (o : View). with_acts o (acts_of one.changes)) laid.is ∙ acts-laid laid.changes one.changes;
  once = distinct-all_laid laid.changes one.changes laid.once;
  kept = kept-all_laid IsKeptChange laid.changes one.changes laid.kept one.kept.changes;
})

module _ (parts : List Part) (who : Who) (v : View) (now : ℕ) (few : length parts ≤ max_parts) (p : Progress) (run : Runs who now v no_progress 0 parts (Passed p)) (ks : List Key) (read : AreRead who.session v parts ks) (plan : Plan) (is : IsPlanOn v (read_keys who.session ks) p plan) where
  pub laid : IsLaid p.over
  laid = run_laid who now v parts no_progress p 0 run (record { changes = []; is = refl; once = refl; kept = All-nil IsKeptChange })

  pub bounds : IsHeadRec p.triggers
  bounds = run_head who now v parts p run few

  abbrev changes : List KeyChange
  changes = written v laid.changes

  pub acts_are : plan.success ≡ update_acts changes plan.triggers
  acts_are =
      is.acts
      ∙ ap (λ (l : List Act). (l ++ act_of (head_put p.triggers) ∷ []) ++ read_key (key_bytes HeadKey) ∷ []) (ap (λ (o : View). written_acts v o.keys) laid.is ∙ acts-written v laid.changes)
      ∙ ap (λ (l : List Act). l ++ read_key (key_bytes HeadKey) ∷ []) (sym (map-append act_of changes (head_put p.triggers ∷ [])))
      ∙ ap (update_acts changes) (sym is.triggers)

  pub writes_once : WritesOnce plan
  writes_once = record {
    own = record {
      changes = changes;
      acts = acts_are;
      leases = All-weaker IsKeptChange IsLeaseless (λ c h. h.leaseless) changes (kept-written v laid.changes laid.kept);
      triggers = subst IsHeadRec (sym is.triggers) bounds;
      reads = again-present plan.again;
    };
    once = distinct-head changes plan.triggers (distinct-written v laid.changes laid.once) (kept-written v laid.changes laid.kept);
  }

  keys_only : (k : Bytes) → Contains (read_keys who.session ks) k → IsRead (req.Multi parts) who v (want.Key k)
  keys_only k has =
      let key = mapped-contained key_bytes (start_keys who.session ++ ks) k (in_contains k (map key_bytes (start_keys who.session ++ ks)) (once_only (map key_bytes (start_keys who.session ++ ks)) k (contains_in k (read_keys who.session ks) has))) in
      subst (λ (b : Bytes). IsRead (req.Multi parts) who v (want.Key b)) (sym key.2) (multi_from parts who v ks read key.0 (contains_in key.0 (start_keys who.session ++ ks) key.1))

  key_is : (k : Bytes) (l : Key) → want.Key k ≡ key_want l → key_bytes l ≡ k
  key_is k l e = cc

  keys_all : (k : Bytes) → IsRead (req.Multi parts) who v (want.Key k) → Contains (read_keys who.session ks) k
  keys_all k reads =
      let key = multi_to parts who v ks read (want.Key k) reads in
      in_contains k (read_keys who.session ks) (subst (λ (b : Bytes). In b (read_keys who.session ks)) (key_is k key.0 key.2) (once_has (map key_bytes (start_keys who.session ++ ks)) (key_bytes key.0) (in_mapped key_bytes key.0 (start_keys who.session ++ ks) key.1)))

  pub guards_reads : GuardsReads (req.Multi parts) who v plan
  guards_reads = record { keys = read_keys who.session ks; guards = is.guards; again = is.again; all = keys_all; only = keys_only }

  module _ (attached : IsAttached who v) where
    pub is_asked : IsAskedPlan who v plan
    is_asked = narrowed-asked who v (read_keys who.session ks) plan changes attached.0 is.guards is.again acts_are
        (once_has (map key_bytes (start_keys who.session ++ ks)) (key_bytes (LeaseKey (nat_abs who.session))) (in_mapped key_bytes (LeaseKey (nat_abs who.session)) (start_keys who.session ++ ks) (inr (inl refl)))) attached.1 attached.2

    pub is_plan : (time : now < 2 ^ 62) → AreShort parts → (real : pos 1 ≤ℤ who.session) → ((k : Key) → In k (start_keys who.session ++ ks) → HasSeen v k) → (n : ℕ) → AreOwnedLoads v (distinct p.touched) n → nat_lt max_load (sum_by data_len parts + n) ≡ false
        → IsPlan (req.Multi parts) who now v plan (λ y. finished y plan.draft)
    is_plan time short real saw n loads low =
        carries_out parts who v now time short real ks read saw p run bounds n loads low laid.changes laid.is laid.once laid.kept plan is.guards acts_are is.draft is.triggers (headless-written v laid.changes laid.kept) attached
