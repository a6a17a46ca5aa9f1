-- What the parts come to on a view is what they come to on each sound state that the view shows.
use Rattle.std.proofs.Common.{◌<◌, ◌^◌, ◌≡◌, ℕ, ℤ, pos, ◌+◌, ◌≤◌, Bool, true, false, cond, length, List, [], ◌∷◌, ◌++◌, Option, Some, None, refl, sym, ap, ◌∙◌, subst, map, arith}
use Rattle.std.specs.Option.{option_to_list}
use Rattle.std.specs.FinMap.{get}
use Rattle.std.proofs.lemmas.Int.{ints}
use Rattle.std.proofs.lemmas.List.Elements.{All-head, All-nil, All-tail}
use Rattle.ev_types.specs.declared.answer.Kv.{Kv}
use Rattle.zk_model.specs.declared.node.Trigger.{Trigger}
use Rattle.zk_model.specs.declared.reply.PartResult.{PartResult}
use Rattle.zk_model.specs.declared.request.Part.{Part}
use Rattle.zk_model.specs.Multi.{Parts, Stopped as StoppedAt, Passed as PassedAll, parts_of, then_parts, touched_by}
use Rattle.zk_model.specs.Single.{Outcome, Refused, Done, single}
use Rattle.zk_model.specs.Znodes.{Tree}
use Rattle.zk_service.specs.Answers.{owned_limit_in}
use Rattle.zk_service.specs.States.{State, Session, IsSound, IsSoundTree, limit_of, session_at}
use Rattle.zk_service.proofs.SoundEffects.{IsSmallPart, Leads, single-sound}
use Rattle.zn_layout.specs.Changes.{KeyChange, Put, acts_of, are_distinct, last}
use Rattle.zn_layout.specs.Fits.{ChangesFit, KeyFits}
use Rattle.zn_layout.specs.Keys.{Key, HeadKey, key_bytes}
use Rattle.zn_layout.specs.StandsFor.{Means}
use Rattle.zn_layout.proofs.Fits.{fits_append, fits_same}
use Rattle.zn_view.specs.declared.plan.Who.{Who}
use Rattle.zn_view.specs.Needs.{own_result}
use Rattle.zn_view.specs.Seen.{View, seen}
use Rattle.zn_view.specs.Views.{limit_at}
use Rattle.zn_updates.specs.Choices.{Choice, Make}
use Rattle.zn_updates.specs.Layers.{IsPutBelow, Shows, layered, stored_own}
use Rattle.zn_updates.specs.Right.{IsOutcome, IsRight, with_tree}
use Rattle.zn_updates.proofs.Layered.{first_seen, seen_layered}
use Rattle.zn_multi.specs.Laying.{all_laid, found_of, laid_view, with_acts}
use Rattle.zn_multi.proofs.Laid.{acts-laid, distinct-all_laid, last-all_laid, seen-laid, shown_at}
use Rattle.std.specs.Ordering.{int_eq}
use Rattle.std.proofs.lemmas.List.{length-append, length-map, map-append, append_assoc}
use Rattle.zk_model.specs.declared.node.Node.{Node}
use Rattle.zk_model.specs.declared.request.Part.TheVariants as part
use Rattle.zk_model.specs.Codes.{bad_arguments}
use Rattle.zk_model.specs.Limits.{max_frame}
use Rattle.zk_model.specs.Multi.{owner_list}
use Rattle.zk_model.specs.Single.{effect, form_refusal, is_ephemeral, unless_refused}
use Rattle.zk_model.proofs.PartLaws.{parts_of-done}
use Rattle.zx_base.specs.Maps.{Bytes}
use Rattle.zn_layout.specs.Keys.{DataKey, CountsKey, SessionKey, LeaseKey}
use Rattle.zn_view.specs.Lookups.{HasSeen, sees}
use Rattle.zn_updates.specs.declared.chosen.Chosen.TheVariants as chosen
use Rattle.zn_updates.specs.declared.seen.SeenData.{SeenData}
use Rattle.zn_updates.specs.Choices.{Refuse}
use Rattle.zn_updates.specs.Deciding.{owner_seen}
use Rattle.zn_updates.specs.Making.{IsDataSeen, chosen_of}
use Rattle.zn_updates.specs.Parts.{IfData, IsKeptChange, IsNarrower, IsPartChoice, IsPartSeen, part_content}
use Rattle.zn_updates.proofs.PartChoices.{near_is}
use Rattle.zn_multi.proofs.Looking.{layered_narrower}
use Rattle.zn_updates.specs.Seen.{ShowsData}
use Rattle.zn_updates.proofs.Forms.{delete_refusal}
use Rattle.zn_updates.proofs.Showing.{data-shown}
use Rattle.zn_multi.specs.Carrying.{no_progress, some_owner, AreShort, IsStep, IsTouched, Runs, RunsSeen}
use Rattle.zn_multi.specs.Leading.{with_first, LeadsTo}
use Rattle.zn_multi.specs.declared.carrying.Carried.TheVariants.{Stopped, Passed}
use Rattle.zn_multi.specs.declared.carrying.Progress.{Progress}
use Rattle.zn_multi.proofs.Laid.{kept-all_laid}

-- ---- what the view shows with changes over it

module _ (z : ℤ) (v : View) (ws : List KeyChange) (s new : State) (shown : Shows z v s) (fits : ChangesFit z ws s new) where
  by_last : (k : Key) → (k ≡ HeadKey → ⊥) → (o : Option Kv) (l : Option (Option Put)) → KeyFits z l k s new → first_seen (shown_at k l) (seen v (key_bytes k)) ≡ Some o → Means new k (stored_own z o) × IsPutBelow o
  by_last k apart o None fit e = let was = shown k apart o e in (fit (stored_own z o) was.0, was.1)
  by_last k apart o (Some None) fit e = subst (λ (x : Option Kv). Means new k (stored_own z x) × IsPutBelow x) (same_found (found_of k None) o e) (fit, tt)
    where
      same_found : (x y : Option Kv) → Some x ≡ Some y → x ≡ y
      same_found x y e = cc
  by_last k apart o (Some (Some w)) fit e = subst (λ (x : Option Kv). Means new k (stored_own z x) × IsPutBelow x) (same_found (found_of k (Some w)) o e) (fit, (omega (arith, ints), omega (arith, ints)))
    where
      same_found : (x y : Option Kv) → Some x ≡ Some y → x ≡ y
      same_found x y e = cc

  pub shows-laid : are_distinct ws ≡ true → Shows z (layered (laid_view ws) v) new
  shows-laid once k apart o e =
      by_last k apart o (last ws k) (fits.each k) (sym (seen_layered (laid_view ws) v (key_bytes k) ∙ ap (λ (x : Option (Option Kv)). first_seen x (seen v (key_bytes k))) (seen-laid ws k once)) ∙ e)

-- ---- the sessions whose nodes are made or removed

list_if : (b : Bool) (id : ℤ) → option_to_list (cond b (Some id) None) ≡ cond b (id ∷ []) []
list_if true id = refl
list_if false id = refl

owner_listed : (owner : ℤ) → option_to_list (some_owner owner) ≡ cond (int_eq owner (pos 0)) [] (owner ∷ [])
owner_listed owner = elim (int_eq owner (pos 0)) as (λ b. option_to_list (cond b None (Some owner)) ≡ cond b [] (owner ∷ [])) [ true ↦ refl | false ↦ refl ]

owner_shown : (z : ℤ) (x : Option SeenData) (n : Option Node) → ShowsData z x n → option_to_list (some_owner (owner_seen x)) ≡ owner_list n
owner_shown z None None shown = refl
owner_shown z None (Some n) shown = absurd shown
owner_shown z (Some x) None shown = absurd shown
owner_shown z (Some x) (Some n) shown = owner_listed x.owner ∙ ap (λ (o : ℤ). cond (int_eq o (pos 0)) [] (o ∷ [])) (ap (λ (w : SeenData). w.owner) shown.is)

pub not_done : (t : Tree) (limit : ℕ) (id z : ℤ) (now : ℕ) (p : Part) (code : ℤ) (r : PartResult) (u : Tree) (g : List Trigger) → form_refusal p ≡ Some code → single t limit id p z now ≡ Done r u g → ⊥
unfolding single
not_done t limit id z now p code r u g refused done =
    let bad : Refused code ≡ Done r u g = sym (ap (λ (o : Option ℤ). unless_refused o (effect t limit id p z now)) refused) ∙ done in cc

touched_is : (v near : View) → IsNarrower near v → (s : State) (limit : ℕ) (id z : ℤ) (now : ℕ) (p : Part) (owner : Option ℤ) (r : PartResult) (u : Tree) (g : List Trigger) → Shows z near s → IsPartSeen id near p → IsTouched v id p owner → single s.tree limit id p z now ≡ Done r u g
    → option_to_list owner ≡ touched_by s.tree id p
touched_is v near narrow s limit id z now (part.Create path d a f) owner r u g shown saw is done = ap option_to_list is ∙ list_if (is_ephemeral f) id
touched_is v near narrow s limit id z now (part.Delete path x) owner r u g shown saw (None, inner, is) done = absurd (not_done s.tree limit id z now (part.Delete path x) bad_arguments r u g (delete_refusal path x false inner) done)
touched_is v near narrow s limit id z now (part.Delete path x) owner r u g shown saw (Some p, inner, (w, data_is, is)) done =
    let here : HasSeen near (DataKey path) = (saw (delete_refusal path x true inner.1)).node in
    let seen_data : IsDataSeen (sees near (DataKey path)) w = near_is near v narrow (λ (o : Option (Option Kv)). IsDataSeen o w) (DataKey path) here (subst (λ (q : Bytes). IfData v q w) inner.0 data_is) in
    ap option_to_list is ∙ owner_shown z w (get s.tree path) (data-shown z near s shown path w seen_data)
touched_is v near narrow s limit id z now (part.SetData path d x) owner r u g shown saw is done = ap option_to_list is
touched_is v near narrow s limit id z now (part.Check path x) owner r u g shown saw is done = ap option_to_list is

-- ---- one part more

pub small_part : (p : Part) → length (part_content p) ≤ max_frame → IsSmallPart p
small_part (part.Create path d a f) short = (short, tt)
small_part (part.Delete path x) short = tt
small_part (part.SetData path d x) short = (short, tt)
small_part (part.Check path x) short = tt

pub with_first_next : (rs : List PartResult) (gs : List Trigger) (ss : List ℤ) (r : PartResult) (g : List Trigger) (t : List ℤ) (x : Parts) → with_first rs gs ss (then_parts r g t x) ≡ with_first (rs ++ r ∷ []) (gs ++ g) (ss ++ t) x
with_first_next rs gs ss r g t (StoppedAt k code) = ap (λ (n : ℕ). StoppedAt n code) (let e = length-append rs (r ∷ []) in omega (arith, e))
with_first_next rs gs ss r g t (PassedAll results u triggers touched) = λ i. PassedAll (sym (append_assoc rs (r ∷ []) results) i) u (sym (append_assoc gs g triggers) i) (sym (append_assoc ss t touched) i)

refuse_is : (c : Choice) (code : ℤ) → chosen.Refused code ≡ chosen_of c → c ≡ Refuse code
refuse_is (Refuse other) code e = let same : code ≡ other = cc in ap Refuse (sym same)
refuse_is (Make cs ts draft) code e = absurd (cc)

stopped_here : (t : Tree) (limit : ℕ) (id z : ℤ) (now : ℕ) (p : Part) (ps : List Part) (code : ℤ) → single t limit id p z now ≡ Refused code → parts_of t limit id (p ∷ ps) z now ≡ StoppedAt 0 code
unfolding parts_of
stopped_here t limit id z now p ps code e =
    ap (λ (o : Outcome). elim o as (λ x. Parts) [ Refused code ↦ StoppedAt 0 code | Done r u g ↦ then_parts r g (touched_by t id p) (parts_of u limit id ps z now) ]) e

module _ (who : Who) (now : ℕ) (time : now < 2 ^ 62) (v near : View) (narrow : IsNarrower near v) (parts : List Part) (s : State) (z : ℤ) (sound : IsSound s) (shown : Shows z near s) (x : Session) (opened : session_at who.session s ≡ Some x) where
  -- how many nodes the session may own
  abbrev pub limit : ℕ
  limit = limit_at who.session s

  pub limit_is : limit ≡ limit_of x
  limit_is = ap owned_limit_in opened

  abbrev Here : List Part → Progress → Type 0
  Here rest old = LeadsTo who.session now v parts rest old s z

  pub over_shown : (rest : List Part) (old : Progress) (h : Here rest old) → Shows z (layered old.over near) (with_tree s h.tree)
  over_shown rest old h = subst (λ (o : View). Shows z (layered o near) (with_tree s h.tree)) (sym h.over) (shows-laid z near h.changes s (with_tree s h.tree) shown h.fits h.once)

  -- a right choice of the session whose nodes are counted
  by_session : (c : Choice) (rest : List Part) (old : Progress) (h : Here rest old) (p : Part) → IsRight z (with_tree s h.tree) c (single h.tree (limit_of x) who.session p z now) → IsRight z (with_tree s h.tree) c (single h.tree limit who.session p z now)
  by_session c rest old h p right = subst (λ (n : ℕ). IsRight z (with_tree s h.tree) c (single h.tree n who.session p z now)) (sym limit_is) right

  module _ (p : Part) (ps : List Part) (old mid : Progress) (h : Here (p ∷ ps) old) (saw : IsPartSeen who.session (layered old.over near) p) (short : length (part_content p) ≤ max_frame) where
    stops : (code : ℤ) → IsPartChoice p who now (layered old.over v) (chosen.Refused code) → parts_of s.tree limit who.session parts z now ≡ StoppedAt (length old.results) code
    stops code is =
        let right = by_session (is.choice now) (p ∷ ps) old h p ((is.chosen (layered old.over near) (layered_narrower old.over near v narrow) saw).right (with_tree s h.tree) z now time h.sound (over_shown (p ∷ ps) old h) x opened) in
        let refused : single h.tree limit who.session p z now ≡ Refused code = subst (λ (c : Choice). IsRight z (with_tree s h.tree) c (single h.tree limit who.session p z now)) (refuse_is (is.choice now) code is.is) right in
        h.runs ∙ ap (with_first (map (own_result z) old.results) old.triggers old.touched) (stopped_here h.tree limit who.session z now p ps code refused)
        ∙ ap (λ (n : ℕ). StoppedAt n code) (let e = length-map old.results (own_result z) in omega (arith, e))

    module _ (is : IsStep p who now v old mid) where
      pub outcome : IsOutcome z (with_tree s h.tree) is.changes is.told is.draft (single h.tree limit who.session p z now)
      outcome = subst (λ (c : Choice). IsRight z (with_tree s h.tree) c (single h.tree limit who.session p z now)) is.is
          (by_session (is.choice now) (p ∷ ps) old h p ((is.chosen (layered old.over near) (layered_narrower old.over near v narrow) saw).right (with_tree s h.tree) z now time h.sound (over_shown (p ∷ ps) old h) x opened))

      pub results_are : map (own_result z) mid.results ≡ map (own_result z) old.results ++ own_result z is.draft ∷ []
      results_are = ap (map (own_result z)) is.results ∙ map-append (own_result z) old.results (is.draft ∷ [])

      pub touched_are : mid.touched ≡ old.touched ++ touched_by h.tree who.session p
      touched_are = is.touched ∙ ap (λ (l : List ℤ). old.touched ++ l) (touched_is (layered old.over v) (layered old.over near) (layered_narrower old.over near v narrow) (with_tree s h.tree) limit who.session z now p is.owner _ _ _ (over_shown (p ∷ ps) old h) saw is.owner_is outcome.done)

      abbrev pub leads_on : Here ps mid
      leads_on = record {
        tree = outcome.tree;
        runs =
            h.runs ∙ ap (with_first (map (own_result z) old.results) old.triggers old.touched) (parts_of-done h.tree outcome.tree limit who.session p ps z now (own_result z is.draft) is.told outcome.done)
            ∙ with_first_next (map (own_result z) old.results) old.triggers old.touched (own_result z is.draft) is.told (touched_by h.tree who.session p) (parts_of outcome.tree limit who.session ps z now)
            ∙ (λ i. with_first (sym results_are i) (sym is.triggers i) (sym touched_are i) (parts_of outcome.tree limit who.session ps z now));
        sound = subst (Leads (IsSoundTree s.sessions)) outcome.done (single-sound s.sessions limit who.session z now (x, opened, limit_is) h.tree p h.sound (small_part p short));
        changes = all_laid h.changes is.changes;
        over = is.over ∙ ap (λ (o : View). with_acts o (acts_of is.changes)) h.over ∙ acts-laid h.changes is.changes;
        once = distinct-all_laid h.changes is.changes h.once;
        kept = kept-all_laid IsKeptChange h.changes is.changes h.kept is.kept.changes;
        fits = fits_same z (h.changes ++ is.changes) (all_laid h.changes is.changes) s (with_tree s outcome.tree) (λ k. last-all_laid h.changes is.changes k h.once)
            (fits_append z h.changes is.changes s (with_tree s h.tree) (with_tree s outcome.tree) h.fits outcome.fits);
      }

  -- ---- all parts

  abbrev IsShortPart : Part → Type 0
  IsShortPart p = length (part_content p) ≤ max_frame

  stopped_is : (k place : ℕ) (code other : ℤ) → Stopped k code ≡ Stopped place other → (k ≡ place) × (code ≡ other)
  stopped_is k place code other e = (cc, cc)

  not_passed : (a : Progress) (k : ℕ) (code : ℤ) → Stopped k code ≡ Passed a → ⊥
  not_passed a k code e = cc

  passed_is : (a b : Progress) → Passed a ≡ Passed b → a ≡ b
  passed_is a b e = cc

  not_stopped : (a : Progress) (k : ℕ) (code : ℤ) → Passed a ≡ Stopped k code → ⊥
  not_stopped a k code e = cc

  place_next : (old mid : Progress) (place : ℕ) (d : PartResult) → place ≡ length old.results → mid.results ≡ old.results ++ d ∷ [] → place + 1 ≡ length mid.results
  place_next old mid place d e is = let more = ap (λ (l : List PartResult). length l) is in let added = length-append old.results (d ∷ []) in omega (arith, e, more, added)

  pub run_stops : (ps : List Part) (old : Progress) (place k : ℕ) (code : ℤ) (run : Runs who now v old place ps (Stopped k code)) → RunsSeen who now v near old place ps (Stopped k code) run → AreShort ps → place ≡ length old.results → Here ps old
      → parts_of s.tree limit who.session parts z now ≡ StoppedAt k code
  run_stops [] old place k code run saw short at h = absurd (not_passed old k code run)
  run_stops (p ∷ ps) old place k code (Stopped j other, one, rest) saw short at h =
      let same = stopped_is k j code other rest in
      let where_ : length old.results ≡ k = sym at ∙ sym one.0 ∙ sym same.0 in
      stops p ps old old h saw (All-head IsShortPart p ps short) other one.1 ∙ (λ i. StoppedAt (where_ i) (sym same.1 i))
  run_stops (p ∷ ps) old place k code (Passed mid, one, rest) saw short at h =
      run_stops ps mid (place + 1) k code rest saw.1 (All-tail IsShortPart p ps short) (place_next old mid place one.draft at one.results) (leads_on p ps old mid h saw.0 (All-head IsShortPart p ps short) one)

  pub run_passes : (ps : List Part) (old new : Progress) (place : ℕ) (run : Runs who now v old place ps (Passed new)) → RunsSeen who now v near old place ps (Passed new) run → AreShort ps → Here ps old → Here [] new
  run_passes [] old new place run saw short h = subst (Here []) (sym (passed_is new old run)) h
  run_passes (p ∷ ps) old new place (Stopped j other, one, rest) saw short h = absurd (not_stopped new j other rest)
  run_passes (p ∷ ps) old new place (Passed mid, one, rest) saw short h =
      run_passes ps mid new (place + 1) rest saw.1 (All-tail IsShortPart p ps short) (leads_on p ps old mid h saw.0 (All-head IsShortPart p ps short) one)

  pub unchanged : (k : Key) → KeyFits z None k s (with_tree s s.tree)
  unchanged HeadKey = λ o h. h
  unchanged (DataKey p) = λ o h. h
  unchanged (CountsKey p) = λ o h. h
  unchanged (SessionKey n) = λ o h. h
  unchanged (LeaseKey n) = λ o h. h

  pub alone : (y : Parts) → y ≡ with_first [] [] [] y
  alone (StoppedAt k code) = ap (λ (n : ℕ). StoppedAt n code) (omega arith)
  alone (PassedAll rs t gs ss) = refl

  abbrev pub start : Here parts no_progress
  start = record {
    tree = s.tree;
    runs = alone (parts_of s.tree limit who.session parts z now);
    sound = sound;
    changes = [];
    over = refl;
    once = refl;
    kept = All-nil IsKeptChange;
    fits = record { each = unchanged };
  }

  pub parts_stop : (k : ℕ) (code : ℤ) (run : Runs who now v no_progress 0 parts (Stopped k code)) → RunsSeen who now v near no_progress 0 parts (Stopped k code) run → AreShort parts → parts_of s.tree limit who.session parts z now ≡ StoppedAt k code
  parts_stop k code run saw short = run_stops parts no_progress 0 k code run saw short refl start

  pub parts_pass : (new : Progress) (run : Runs who now v no_progress 0 parts (Passed new)) → RunsSeen who now v near no_progress 0 parts (Passed new) run → AreShort parts → Here [] new
  parts_pass new run saw short = run_passes parts no_progress new 0 run saw short start
