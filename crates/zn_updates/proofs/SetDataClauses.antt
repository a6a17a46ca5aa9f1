-- The decision of a setData is what is promised of it.
use Rattle.std.proofs.Common.{◌^◌, ◌<◌, ◌≡◌, ℕ, ◌≤◌, ℤ, pos, true, false, Bool, cond, List, [], ◌∷◌, length, Option, Some, None, refl, sym, ap, ◌∙◌, subst, inl, inr, arith}
use Rattle.std.specs.Prelude.{◌≤ℤ◌, not, nat_abs, map, IsTrue}
use Rattle.std.proofs.lemmas.List.Elements.{All-cons, All-nil}
use Rattle.ev_types.specs.declared.answer.Kv.{Kv}
use Rattle.std.specs.FinMap.{get}
use Rattle.std.specs.Ordering.{int_eq}
use Rattle.zx_base.specs.Maps.{Bytes}
use Rattle.zk_model.specs.declared.node.Trigger.TheVariants.{Changed}
use Rattle.zk_model.specs.declared.request.Part.TheVariants.{SetData}
use Rattle.zk_model.specs.declared.request.Request.TheVariants as req
use Rattle.zk_model.specs.Codes.{bad_arguments}
use Rattle.zk_model.specs.Limits.{max_frame, max_version}
use Rattle.zk_model.specs.Paths.{is_path}
use Rattle.zk_model.specs.Single.{form_refusal, single, effect, set_data, unless_refused, matches}
use Rattle.zk_model.specs.Watches.{no_watches}
use Rattle.zk_service.specs.Answers.{plain_request, told_refusal, tree_reply}
use Rattle.zk_service.specs.States.{State, commit, limit_of}
use Rattle.zn_layout.specs.Keys.{Key, HeadKey, DataKey, CountsKey, LeaseKey, key_bytes}
use Rattle.zn_layout.specs.Records.{IsHeadRec}
use Rattle.zn_layout.specs.StandsFor.{is_counted_in}
use Rattle.zn_layout.proofs.Paths.{path_short}
use Rattle.zn_view.specs.declared.plan.Decision.{Decision}
use Rattle.zn_view.specs.declared.plan.Who.{Who}
use Rattle.zn_view.specs.declared.want.Want.{Want}
use Rattle.zn_view.specs.Lookups.{HasSeen, sees}
use Rattle.zn_view.specs.Needs.{AreNeeds, IsRead, key_want, IsWhole}
use Rattle.zn_view.specs.Seen.{View}
use Rattle.zn_view.specs.Views.{reads}
use Rattle.zn_view.specs.Lacking.{lacking}
use Rattle.zn_view.proofs.Members.{In, contains_in, in_contains}
use Rattle.zn_view.proofs.Sizes.{counts-size, data-size, head-size, life-size}
use Rattle.zn_view.proofs.Wanted.{are-needs}
use Rattle.zn_updates.specs.declared.seen.SeenData.{SeenData}
use Rattle.zn_updates.specs.declared.seen.SeenCounts.{SeenCounts}
use Rattle.zn_updates.specs.Choices.{Choice, set_data_choice}
use Rattle.zn_updates.proofs.Plans.{choice-by_tree}
use Rattle.zn_view.specs.Deciding.{IfPlanned, IsToldByForm, is_by_tree}
use Rattle.zn_updates.specs.Deciding.{IfMakes, IsBounded, IsBySound, IsGuarded, IsSetData, on_keys}
use Rattle.zn_updates.specs.KeysRead.{set_data_keys}
use Rattle.zn_updates.specs.Making.{IsDataSeen, IsCountsSeen}
use Rattle.zn_updates.specs.Right.{IsRight}
use Rattle.zn_updates.proofs.Clauses.{AreKeys, IsShortKey, by_form, by_sound, makes_cond, near_sees, planned}
use Rattle.zn_updates.specs.Layers.{code_of, IsChosen}
use Rattle.zn_updates.proofs.Deciding.{IsPart}
use Rattle.zn_updates.proofs.Forms.{set_refusal}
use Rattle.zn_updates.proofs.NewKeys.{set_data-new}
use Rattle.zn_updates.proofs.SetDataRight.{set_data_right}
use Rattle.zn_updates.proofs.Showing.{data-shown, counts-shown}
use Rattle.zn_updates.proofs.WellMade.{one_trigger, set_data-made}

module _ (p content : Bytes) (version : ℤ) where
  pub set_plain : plain_request no_watches (req.SetData p content version) ≡ told_refusal no_watches (form_refusal (SetData p content version))
  unfolding plain_request
  set_plain = refl

  pub set_valid : is_path p ≡ true → plain_request no_watches (req.SetData p content version) ≡ None
  set_valid valid = set_plain ∙ ap (told_refusal no_watches) (set_refusal p content version true valid)

  pub set_invalid : is_path p ≡ false → plain_request no_watches (req.SetData p content version) ≡ told_refusal no_watches (Some bad_arguments)
  set_invalid invalid = set_plain ∙ ap (told_refusal no_watches) (set_refusal p content version false invalid)

  pub set_part : IsPart (req.SetData p content version) (SetData p content version)
  unfolding tree_reply commit
  set_part = record { told = λ t limit session. refl; done = λ s z session now. refl; after = λ s z session now. refl }

  effect_is : (s : State) (limit : ℕ) (session z : ℤ) (now : ℕ) → is_path p ≡ true → single s.tree limit session (SetData p content version) z now ≡ set_data s.tree p content version z now (get s.tree p)
  unfolding single effect
  effect_is s limit session z now valid = ap (λ (o : Option ℤ). unless_refused o (set_data s.tree p content version z now (get s.tree p))) (set_refusal p content version true valid)

  same_cond : (b : Bool) (x y w : Choice) → code_of y ≡ code_of w → code_of (cond b x y) ≡ code_of (cond b x w)
  same_cond true x y w e = refl
  same_cond false x y w e = e

  set_codes : (x : Option SeenData) (c : Option SeenCounts) (now : ℕ) → code_of (set_data_choice p content version now x c) ≡ code_of (set_data_choice p content version 0 x c)
  unfolding set_data_choice
  set_codes None c now = refl
  set_codes (Some x) None now = refl
  set_codes (Some x) (Some c) now = same_cond (not (matches version x.version)) _ _ _ (same_cond (int_eq x.version max_version) _ _ _ refl)

  pub set_bounds : (x : Option SeenData) (c : Option SeenCounts) (now : ℕ) → IsTrue (is_path p) → IfMakes IsHeadRec (set_data_choice p content version now x c)
  unfolding set_data_choice
  set_bounds None c now valid = tt
  set_bounds (Some x) None now valid = tt
  set_bounds (Some x) (Some c) now valid = makes_cond IsHeadRec (not (matches version x.version)) _ _ tt (makes_cond IsHeadRec (int_eq x.version max_version) _ _ tt (one_trigger (Changed p) valid))

  pub set_chosen : (who : Who) (v : View) (x : Option SeenData) (c : Option SeenCounts) → is_path p ≡ true → length content ≤ max_frame → IsDataSeen (sees v (DataKey p)) x → IsCountsSeen x (sees v (CountsKey p)) c
      → IsChosen (SetData p content version) who v (λ now. set_data_choice p content version now x c)
  set_chosen who v x c valid short data_seen counts_seen = record {
    right = λ s z now time sound shown y opened.
        subst (IsRight z s (set_data_choice p content version now x c)) (sym (effect_is s (limit_of y) who.session z now valid))
        (set_data_right s p content version z now time short x c (get s.tree p) (is_counted_in s (get s.tree p)) refl (data-shown z v s shown p x data_seen) (counts-shown z v s shown p x c data_seen counts_seen));
    same_code = set_codes x c;
  }

  -- ---- what it reads

  reads_are : (id : ℤ) → reads (req.SetData p content version) id ≡ DataKey p ∷ CountsKey p ∷ []
  unfolding reads
  reads_are id = refl

  reads_from : (who : Who) (v : View) (k : Key) → In k (set_data_keys p who.session) → IsRead (req.SetData p content version) who v (key_want k)
  reads_from who v k (inl e) = inl (ap key_want (sym e))
  reads_from who v k (inr (inl e)) = inr (inl (ap key_want (sym e)))
  reads_from who v k (inr (inr h)) = inr (inr (inl (k, in_contains k _ (subst (In k) (sym (reads_are who.session)) h), refl)))

  reads_to : (who : Who) (v : View) (w : Want) → IsRead (req.SetData p content version) who v w → (k : Key) × In k (set_data_keys p who.session) × (w ≡ key_want k)
  reads_to who v w (inl e) = (HeadKey, inl refl, e)
  reads_to who v w (inr (inl e)) = (LeaseKey (nat_abs who.session), inr (inl refl), e)
  reads_to who v w (inr (inr (inl h))) = (h.0, inr (inr (subst (In h.0) (reads_are who.session) (contains_in h.0 _ h.1))), h.2)
  reads_to who v w (inr (inr (inr h))) = absurd h

  pub set_needs : (who : Who) (v : View) (ws : List Want) → is_path p ≡ true → ws ≡ lacking v (map key_bytes (set_data_keys p who.session)) → AreNeeds (req.SetData p content version) who v ws
  set_needs who v ws valid is = are-needs (req.SetData p content version) who v (set_data_keys p who.session) ws is (set_valid valid) (reads_from who v) (reads_to who v)

  pub set_seen : (who : Who) (v : View) (k : Key) → is_path p ≡ true → IsWhole (req.SetData p content version) who v → In k (set_data_keys p who.session) → HasSeen v k
  set_seen who v k valid whole inside none = whole (set_valid valid) (key_want k) (reads_from who v k inside) none

  -- ---- what is promised

  set_keys : (who : Who) (v : View) → is_path p ≡ true → AreKeys (req.SetData p content version) who v (set_data_keys p who.session)
  set_keys who v valid = record {
    few = omega arith;
    short = All-cons IsShortKey HeadKey (LeaseKey (nat_abs who.session) ∷ DataKey p ∷ CountsKey p ∷ []) (omega (arith, head-size))
        (All-cons IsShortKey (LeaseKey (nat_abs who.session)) (DataKey p ∷ CountsKey p ∷ []) (omega (arith, life-size (nat_abs who.session)))
        (All-cons IsShortKey (DataKey p) (CountsKey p ∷ []) (omega (arith, data-size p, path_short p valid))
        (All-cons IsShortKey (CountsKey p) [] (omega (arith, counts-size p, path_short p valid)) (All-nil IsShortKey))));
    life = inr (inl refl);
    from = reads_from who v;
    to = reads_to who v;
  }

  module _ (who : Who) (v : View) (now : ℕ) (valid : is_path p ≡ true) (time : now < 2 ^ 62) (short : length content ≤ max_frame) (real : pos 1 ≤ℤ who.session) (d : Decision) (is : IsSetData v p content version now who.session d) where
    abbrev choice : ℕ → Choice
    choice at_time = set_data_choice p content version at_time is.0 is.1

    abbrev keys : List Key
    keys = set_data_keys p who.session

    near : IsChosen (SetData p content version) who (on_keys v keys) choice
    near = set_chosen who (on_keys v keys) is.0 is.1 valid short
        (subst (λ (o : Option (Option Kv)). IsDataSeen o is.0) (sym (near_sees v keys (DataKey p) (inr (inr (inl refl))))) is.2)
        (subst (λ (o : Option (Option Kv)). IsCountsSeen is.0 o is.1) (sym (near_sees v keys (CountsKey p) (inr (inr (inr (inl refl)))))) is.3)

    pub set_by_form : IsToldByForm (req.SetData p content version) d
    set_by_form = by_form (req.SetData p content version) (SetData p content version) who v keys choice now set_part (set_chosen who v is.0 is.1 valid short is.2 is.3) time real (set_valid valid) d is.4

    pub set_by_sound : IsBySound (req.SetData p content version) who v d
    set_by_sound = by_sound (req.SetData p content version) (SetData p content version) who v keys choice now set_part (set_chosen who v is.0 is.1 valid short is.2 is.3) time real (set_valid valid) d is.4

    pub set_planned : IsWhole (req.SetData p content version) who v → IfPlanned (IsGuarded (req.SetData p content version) who now v) d
    set_planned whole = planned (req.SetData p content version) (SetData p content version) who v keys choice now set_part (set_chosen who v is.0 is.1 valid short is.2 is.3) time real (set_valid valid) d is.4
        near (set_keys who v valid) whole (set_data-made (IsBounded (req.SetData p content version) v) p content version is.0 is.1 now valid short) (set_data-new v p content version now who.session is.0 is.1)

pub set_data-by_tree : (v : View) (p content : Bytes) (version : ℤ) (now : ℕ) (session : ℤ) (d : Decision) → IsSetData v p content version now session d → is_by_tree d ≡ true
set_data-by_tree v p content version now session d is = choice-by_tree (on_keys v (set_data_keys p session)) (set_data_choice p content version now is.0 is.1) d is.4
