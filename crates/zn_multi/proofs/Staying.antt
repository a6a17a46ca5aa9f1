-- All parts, on a view that saw all that they read: what each choice looks at was looked up, and what is written in the end is
-- known.
use Rattle.std.proofs.Common.{◌<◌, ◌^◌, ◌≡◌, ℕ, suc, ℤ, pos, ◌+◌, ◌*◌, ◌≤◌, Bool, true, false, cond, length, List, [], ◌∷◌, ◌++◌, Option, Some, None, refl, sym, ap, ◌∙◌, subst, inl, inr, ⊎_elim, arith}
use Rattle.std.proofs.lemmas.Bool.{true≢false}
use Rattle.std.specs.Prelude.{◌≤ℤ◌, All, MatchOption, nat_abs, if◌then◌else◌}
use Rattle.std.specs.List.{sum_by}
use Rattle.std.specs.FinMap.{get}
use Rattle.std.specs.Ordering.{int_eq}
use Rattle.std.proofs.lemmas.Bool.Decides.{Decides-int_eq}
use Rattle.std.proofs.lemmas.Int.{ints}
use Rattle.std.proofs.lemmas.List.Elements.{All-head, All-nil, All-tail, All-weaker}
use Rattle.std.proofs.lemmas.List.Sums.{sum_by-cons}
use Rattle.ev_types.specs.declared.answer.Kv.{Kv}
use Rattle.zx_base.specs.Maps.{same}
use Rattle.zk_model.specs.declared.node.Node.{Node}
use Rattle.zk_model.specs.declared.request.Part.{Part}
use Rattle.zk_model.specs.declared.request.Part.TheVariants as part
use Rattle.zk_model.specs.Limits.{max_frame}
use Rattle.zk_model.specs.Multi.{data_len, owner_list, touched_by}
use Rattle.zk_model.specs.Single.{form_refusal, is_ephemeral, single}
use Rattle.zk_model.specs.Znodes.{Tree}
use Rattle.zk_service.specs.States.{State, Session, IsSound, limit_of, session_at}
use Rattle.zk_service.proofs.SoundEffects.{Leads}
use Rattle.zn_layout.specs.Changes.{KeyChange}
use Rattle.zn_layout.specs.Keys.{Key, DataKey, SessionKey, key_bytes}
use Rattle.zn_view.specs.declared.plan.Who.{Who}
use Rattle.zn_view.specs.declared.leaving.TreeChange.{TreeChange}
use Rattle.zn_view.specs.Lookups.{HasSeen, sees}
use Rattle.zn_view.specs.Seen.{View}
use Rattle.zn_view.specs.Views.{limit_at, part_keys}
use Rattle.zn_view.proofs.Members.{In, contains_in, in_either, in_left, in_right}
use Rattle.zn_updates.specs.declared.seen.SeenData.{SeenData}
use Rattle.zn_updates.specs.Layers.{Shows, layered}
use Rattle.zn_updates.specs.Making.{IsDataSeen}
use Rattle.zn_updates.specs.Parts.{IsDeleteSeen, IsNarrower, IsOwnChange, IsPartSeen, IsTouching, part_content, plain_size}
use Rattle.zn_updates.specs.Right.{IsOutcome, with_tree}
use Rattle.zn_updates.specs.Seen.{ShowsData}
use Rattle.zn_updates.proofs.PartChoices.{near_is}
use Rattle.zn_updates.proofs.Showing.{data-shown}
use Rattle.zn_multi.specs.Carrying.{no_progress, AreShort, IsStep, Runs, RunsSeen}
use Rattle.zn_multi.specs.Laying.{all_laid, laid}
use Rattle.zn_multi.specs.Leading.{LeadsTo}
use Rattle.zn_multi.specs.Reading.{AreReadFrom, IsFormedRead, IsReadBy, Left}
use Rattle.zn_multi.specs.declared.carrying.Carried.{Carried}
use Rattle.zn_multi.specs.declared.carrying.Carried.TheVariants.{Stopped, Passed}
use Rattle.zn_multi.specs.declared.carrying.Progress.{Progress}
use Rattle.zn_multi.proofs.Laid.{kept-all_laid}
use Rattle.zn_multi.proofs.Leading.{leads_on, limit_is, not_done, outcome, over_shown, start, touched_are}
use Rattle.zn_multi.proofs.Looking.{Known, finds, layered_narrower, looks, touched_known}
use Rattle.zn_multi.proofs.Owning.{Bears, bears_start, single_bears}
use Rattle.zn_multi.proofs.ReadKeys.{formed_keys}
use Rattle.zn_multi.proofs.Walking.{Goes, Walks, single_goes, walks_start}

-- ---- how many are laid, and their bytes

laid-few : (ws : List KeyChange) (c : KeyChange) → length (laid ws c) ≤ length ws + 1
laid-few [] c = omega arith
laid-few (w ∷ ws) c = elim (same (key_bytes w.key) (key_bytes c.key)) as (λ b. length (if b then c ∷ ws else w ∷ laid ws c) ≤ length (w ∷ ws) + 1) [
  | true ↦ omega arith
  | false ↦ let h = laid-few ws c in omega (arith, h)
]

all_laid-few : (ws cs : List KeyChange) → length (all_laid ws cs) ≤ length ws + length cs
all_laid-few ws [] = omega arith
all_laid-few ws (c ∷ cs) = let rest = all_laid-few (laid ws c) cs in let one = laid-few ws c in omega (arith, rest, one)

laid-light : (f : KeyChange → ℕ) (ws : List KeyChange) (c : KeyChange) → sum_by f (laid ws c) ≤ sum_by f ws + f c
laid-light f [] c = omega (arith, sum_by-cons f c [])
laid-light f (w ∷ ws) c = elim (same (key_bytes w.key) (key_bytes c.key)) as (λ b. sum_by f (if b then c ∷ ws else w ∷ laid ws c) ≤ sum_by f (w ∷ ws) + f c) [
  | true ↦ omega (arith, sum_by-cons f c ws, sum_by-cons f w ws)
  | false ↦ let h = laid-light f ws c in omega (arith, h, sum_by-cons f w (laid ws c), sum_by-cons f w ws)
]

all_laid-light : (f : KeyChange → ℕ) (ws cs : List KeyChange) → sum_by f (all_laid ws cs) ≤ sum_by f ws + sum_by f cs
all_laid-light f ws [] = omega arith
all_laid-light f ws (c ∷ cs) = let rest = all_laid-light f (laid ws c) cs in let one = laid-light f ws c in omega (arith, rest, one, sum_by-cons f c cs)

content-length : (p : Part) → length (part_content p) ≡ data_len p
content-length (part.Create path d a f) = refl
content-length (part.Delete path x) = refl
content-length (part.SetData path d x) = refl
content-length (part.Check path x) = refl

-- The key has at most 1,033 bytes. If it is deleted, it was looked up. If it is that of a list of a session's nodes, the session
-- was touched.
pub record IsWritten (near : View) (touched : List ℤ) (c : KeyChange) : Type 0 where
  pub short : length (key_bytes c.key) ≤ 1033
  pub gone : c.put ≡ None → HasSeen near c.key
  pub nodes : (n : ℕ) → c.key ≡ SessionKey n → (o : ℤ) × In o touched × (n ≡ nat_abs o)

module _ (who : Who) (now : ℕ) (time : now < 2 ^ 62) (v near : View) (narrow : IsNarrower near v) (parts : List Part) (s : State) (z : ℤ) (sound : IsSound s) (shown : Shows z near s) (x : Session) (opened : session_at who.session s ≡ Some x) where
  abbrev id : ℤ
  id = who.session

  abbrev limit : ℕ
  limit = limit_at id s

  abbrev IsKnown : ℤ → Type 0
  IsKnown = Known z v near narrow s shown

  least : pos 0 ≤ℤ id
  least = let h = sound.numbered id x opened in omega (arith, ints, h)

  pub record Stays (m : List TreeChange) (rest : List Part) (old : Progress) : Type 0 where
    pub leads : LeadsTo id now v parts rest old s z
    pub walks : Walks s.tree IsKnown (limit_of x) id m leads.tree
    pub touched : (o : ℤ) → In o old.touched → IsKnown o × ((y : Session) × (session_at o s ≡ Some y))
    pub written : All (IsWritten near old.touched) leads.changes
    -- each part makes one node at most
    pub steps : ℕ
    pub spent : steps + length rest ≤ length parts
    pub bears : Bears s.tree id steps leads.tree
    pub few : length leads.changes + 4 * length rest ≤ 4 * length parts
    pub light : sum_by plain_size leads.changes + (55 * length rest + sum_by data_len rest) ≤ 55 * length parts + sum_by data_len parts

  module _ (m : List TreeChange) (p : Part) (ps : List Part) (old : Progress) (h : Stays m (p ∷ ps) old) (own : List Key) (next : Left) (read : IsReadBy id v (Some m) p own next) (saw : (k : Key) → In k own → HasSeen near k) where
    formed : form_refusal p ≡ None → IsFormedRead id v (Some m) p own next
    formed e = subst (λ (o : Option ℤ). MatchOption o (IsFormedRead id v (Some m) p own next) (λ code. (own ≡ []) × (next ≡ None))) e read

    abbrev tree : Tree
    tree = h.leads.tree

    left : Shows z (layered old.over near) (with_tree s tree)
    left = over_shown who now time v near narrow parts s z sound shown x opened (p ∷ ps) old h.leads

    pub part_seen : IsPartSeen id (layered old.over near) p
    part_seen form = looks z v near narrow s shown id x least opened m tree h.walks old.over left p own next (formed form) saw

    module _ (mid : Progress) (short : length (part_content p) ≤ max_frame) (one : IsStep p who now v old mid) where
      abbrev on : LeadsTo id now v parts ps mid s z
      on = leads_on who now time v near narrow parts s z sound shown x opened p ps old mid h.leads part_seen short one

      abbrev made : IsOutcome z (with_tree s tree) one.changes one.told one.draft (single tree limit id p z now)
      made = outcome who now time v near narrow parts s z sound shown x opened p ps old mid h.leads part_seen short one

      form : form_refusal p ≡ None
      form = at (form_refusal p) refl
        where
          at : (o : Option ℤ) → form_refusal p ≡ o → o ≡ None
          at None e = refl
          at (Some code) e = absurd (not_done tree limit id z now p code _ _ _ e made.done)

      own_limit : single tree (limit_of x) id p z now ≡ single tree limit id p z now
      own_limit = ap (λ (n : ℕ). single tree n id p z now) (sym (limit_is who now time v near narrow parts s z sound shown x opened))

      pub goes : Goes s.tree IsKnown (limit_of x) id next on.tree
      goes = subst (Leads (Goes s.tree IsKnown (limit_of x) id next)) (own_limit ∙ made.done) (single_goes s.tree IsKnown (limit_of x) id v m tree h.walks h.leads.sound.parents (h.leads.sound.limited id x opened) z now next p (λ f. finds z v near narrow s shown id x least opened m tree h.walks old.over left p own next f (formed f) saw))

      touched_is : mid.touched ≡ old.touched ++ touched_by tree id p
      touched_is = touched_are who now time v near narrow parts s z sound shown x opened p ps old mid h.leads part_seen short one

      -- the sessions whose nodes it makes or removes are open
      owner_open : (o : ℤ) (n : Option Node) → ((y : Node) → n ≡ Some y → (y.owner ≡ pos 0 → ⊥) → (k : Session) × (session_at y.owner s ≡ Some k)) → In o (owner_list n) → (y : Session) × (session_at o s ≡ Some y)
      owner_open o None each = λ bad. absurd bad
      owner_open o (Some n) each = at (int_eq n.owner (pos 0)) refl
        where
          at : (b : Bool) → int_eq n.owner (pos 0) ≡ b → In o (cond b [] (n.owner ∷ [])) → (y : Session) × (session_at o s ≡ Some y)
          at true e bad = absurd bad
          at false e (inl is) = subst (λ (i : ℤ). (y : Session) × (session_at i s ≡ Some y)) is (each n refl (λ zero. true≢false (sym ((Decides-int_eq n.owner (pos 0)).1 zero) ∙ e)))
          at false e (inr bad) = absurd bad

      open_now : (q : Part) → (o : ℤ) → In o (touched_by tree id q) → (y : Session) × (session_at o s ≡ Some y)
      open_now (part.Create path d a f) o = at (is_ephemeral f)
        where
          at : (b : Bool) → In o (if b then id ∷ [] else []) → (y : Session) × (session_at o s ≡ Some y)
          at true (inl is) = (x, ap (λ (i : ℤ). session_at i s) (sym is) ∙ opened)
          at true (inr bad) = absurd bad
          at false bad = absurd bad
      open_now (part.Delete path y) o = λ i. owner_open o (get tree path) (λ n there owns. h.leads.sound.owners path n there owns) i
      open_now (part.SetData path d y) o = λ bad. absurd bad
      open_now (part.Check path y) o = λ bad. absurd bad

      known_now : (o : ℤ) → In o mid.touched → IsKnown o × ((y : Session) × (session_at o s ≡ Some y))
      known_now o i = ⊎_elim
          (λ a. h.touched o a)
          (λ b. (touched_known z v near narrow s shown id x least opened m tree h.walks old.over left p own next (formed form) saw o b, open_now p o b))
          (in_either o old.touched (touched_by tree id p) (subst (In o) touched_is i))

      -- ---- what is written

      touching : (q : Part) → p ≡ q → (n : ℕ) → IsTouching id (layered old.over v) q n → (o : ℤ) × In o (touched_by tree id q) × (n ≡ nat_abs o)
      touching (part.Create path d a f) e n (ephemeral, is) = (id, subst (λ b. In id (if b then id ∷ [] else [])) (sym ephemeral) (inl refl), is)
      touching (part.Delete path y) e n (w, data_is, owns, is) =
          let at : IsDeleteSeen (layered old.over near) path = subst (IsPartSeen id (layered old.over near)) e part_seen (subst (λ (r : Part). form_refusal r ≡ None) e form) in
          let data_seen : IsDataSeen (sees (layered old.over near) (DataKey path)) (Some w) = near_is (layered old.over near) (layered old.over v) (layered_narrower old.over near v narrow) (λ (o : Option (Option Kv)). IsDataSeen o (Some w)) (DataKey path) at.node data_is in
          (w.owner, listed (get tree path) (data-shown z (layered old.over near) (with_tree s tree) left path (Some w) data_seen), is)
        where
          one_listed : (owner : ℤ) → (owner ≡ pos 0 → ⊥) → In owner (cond (int_eq owner (pos 0)) [] (owner ∷ []))
          one_listed owner apart = by_test (int_eq owner (pos 0)) refl
            where
              by_test : (b : Bool) → int_eq owner (pos 0) ≡ b → In owner (cond b [] (owner ∷ []))
              by_test true is_zero = absurd (apart ((Decides-int_eq owner (pos 0)).0 is_zero))
              by_test false other = inl refl

          listed : (n : Option Node) → ShowsData z (Some w) n → In w.owner (owner_list n)
          listed None shows = absurd shows
          listed (Some n) shows = subst (λ (o : ℤ). In w.owner (cond (int_eq o (pos 0)) [] (o ∷ []))) (ap (λ (y : SeenData). y.owner) shows.is) (one_listed w.owner owns)
      touching (part.SetData path d y) e n bad = absurd bad
      touching (part.Check path y) e n bad = absurd bad

      written_more : (c : KeyChange) → IsWritten near old.touched c → IsWritten near mid.touched c
      written_more c w = record {
        short = w.short;
        gone = w.gone;
        nodes = λ n e. let o = w.nodes n e in (o.0, subst (In o.0) (sym touched_is) (in_left o.0 old.touched (touched_by tree id p) o.1), o.2);
      }

      written_now : (c : KeyChange) → IsOwnChange id (layered old.over v) p c → IsWritten near mid.touched c
      written_now c w = record {
        short = w.short;
        gone = λ e. saw c.key (formed_keys id v p (Some m) own next (formed form) c.key (contains_in c.key (part_keys id p) (w.gone e)));
        nodes = λ n e. let o = touching p refl n (w.nodes n e) in (o.0, subst (In o.0) (sym touched_is) (in_right o.0 old.touched (touched_by tree id p) o.1), o.2);
      }

      all_written : All (IsWritten near mid.touched) on.changes
      all_written = kept-all_laid (IsWritten near mid.touched) h.leads.changes one.changes (All-weaker (IsWritten near old.touched) (IsWritten near mid.touched) written_more h.leads.changes h.written)
          (All-weaker (IsOwnChange id (layered old.over v) p) (IsWritten near mid.touched) written_now one.changes one.own.each)

      pub stays_on : Stays goes.changes ps mid
      stays_on = record {
        leads = on;
        walks = goes.walks;
        touched = known_now;
        written = all_written;
        steps = suc h.steps;
        spent = let were = h.spent in omega (arith, were);
        bears = subst (Leads (Bears s.tree id (suc h.steps))) made.done (single_bears s.tree id h.steps tree h.bears limit z now p);
        few = let were = h.few in let more = all_laid-few h.leads.changes one.changes in let new = one.kept.few in omega (arith, were, more, new);
        light =
            let were = h.light in
            let more = all_laid-light plain_size h.leads.changes one.changes in
            let new = one.own.light in
            omega (arith, were, more, new, sum_by-cons data_len p ps, content-length p);
      }

  -- ---- all parts

  abbrev IsShortPart : Part → Type 0
  IsShortPart p = length (part_content p) ≤ max_frame

  abbrev AllSeen : List Key → Type 0
  AllSeen ks = (k : Key) → In k ks → HasSeen near k

  own_seen : (own rest ks : List Key) → ks ≡ own ++ rest → AllSeen ks → AllSeen own
  own_seen own rest ks e all k i = all k (subst (In k) (sym e) (in_left k own rest i))

  rest_seen : (own rest ks : List Key) → ks ≡ own ++ rest → AllSeen ks → AllSeen rest
  rest_seen own rest ks e all k i = all k (subst (In k) (sym e) (in_right k own rest i))

  pub run_seen : (ps : List Part) (m : List TreeChange) (old : Progress) (place : ℕ) (c : Carried) (run : Runs who now v old place ps c) (ks : List Key) → AreReadFrom id v (Some m) ps ks → AllSeen ks → AreShort ps → Stays m ps old → RunsSeen who now v near old place ps c run
  run_seen [] m old place c run ks read all short h = tt
  run_seen (p ∷ ps) m old place c (Stopped k code, one, rest) ks (own, next, more, first, later, is) all short h = part_seen m p ps old h own next first (own_seen own more ks is all)
  run_seen (p ∷ ps) m old place c (Passed mid, one, rest) ks (own, next, more, first, later, is) all short h =
      let here = own_seen own more ks is all in
      let small : IsShortPart p = All-head IsShortPart p ps short in
      let on = goes m p ps old h own next first here mid small one in (
        part_seen m p ps old h own next first here,
        run_seen ps on.changes mid (place + 1) c rest more (subst (λ (n : Left). AreReadFrom id v n ps more) on.is later) (rest_seen own more ks is all) (All-tail IsShortPart p ps short) (stays_on m p ps old h own next first here mid small one),
      )

  passed_is : (a b : Progress) → Passed a ≡ Passed b → b ≡ a
  passed_is a b e = cc

  not_stopped : (a : Progress) (k : ℕ) (code : ℤ) → Passed a ≡ Stopped k code → ⊥
  not_stopped a k code e = cc

  pub run_stays : (ps : List Part) (m : List TreeChange) (old new : Progress) (place : ℕ) → Runs who now v old place ps (Passed new) → (ks : List Key) → AreReadFrom id v (Some m) ps ks → AllSeen ks → AreShort ps → Stays m ps old → (n : List TreeChange) × Stays n [] new
  run_stays [] m old new place run ks read all short h = (m, subst (Stays m []) (passed_is new old run) h)
  run_stays (p ∷ ps) m old new place (Stopped k code, one, rest) ks read all short h = absurd (not_stopped new k code rest)
  run_stays (p ∷ ps) m old new place (Passed mid, one, rest) ks (own, next, more, first, later, is) all short h =
      let here = own_seen own more ks is all in
      let small : IsShortPart p = All-head IsShortPart p ps short in
      let on = goes m p ps old h own next first here mid small one in
      run_stays ps on.changes mid new (place + 1) rest more (subst (λ (n : Left). AreReadFrom id v n ps more) on.is later) (rest_seen own more ks is all) (All-tail IsShortPart p ps short) (stays_on m p ps old h own next first here mid small one)

  pub stays_start : Stays [] parts no_progress
  stays_start = record {
    leads = start who now time v near narrow parts s z sound shown x opened;
    walks = walks_start s.tree IsKnown (limit_of x) id;
    touched = λ o bad. absurd bad;
    written = All-nil (IsWritten near []);
    steps = 0;
    spent = omega arith;
    bears = bears_start s.tree id;
    few = omega arith;
    light = omega arith;
  }
