-- The decision on a multi is the machine's, and its plan carries the update out.
use Rattle.std.proofs.Common.{◌<◌, ◌^◌, ◌≡◌, ℕ, ℤ, pos, ◌+◌, Bool, true, false, length, List, [], ◌∷◌, ◌++◌, map, Option, Some, None, refl, sym, ap, ◌∙◌, subst, inl, inr, arith}
use Rattle.std.specs.Prelude.{◌≤ℤ◌, All, MatchBool, fold, nat_abs, nat_lt, if◌then◌else◌}
use Rattle.std.specs.BTreeSet.{insert_key}
use Rattle.std.specs.List.{sum_by}
use Rattle.std.specs.Ordering.{int_cmp}
use Rattle.std.proofs.lemmas.Int.{ints}
use Rattle.std.proofs.lemmas.List.Elements.{All-cons, All-head, All-nil, All-tail}
use Rattle.std.proofs.lemmas.List.Sums.{sum_by-cons}
use Rattle.std.proofs.lemmas.Map.Views.{All-insert_key}
use Rattle.ev_types.specs.declared.answer.Kv.{Kv}
use Rattle.ev_types.specs.Ranges.{Keys}
use Rattle.zk_model.specs.declared.reply.Body.TheVariants as body
use Rattle.zk_model.specs.declared.reply.PartResult.{PartResult}
use Rattle.zk_model.specs.declared.reply.Reply.TheVariants as reply
use Rattle.zk_model.specs.declared.request.Part.{Part}
use Rattle.zk_model.specs.declared.request.Request.TheVariants as req
use Rattle.zk_model.specs.Codes.{bad_arguments}
use Rattle.zk_model.specs.Limits.{max_load}
use Rattle.zk_model.specs.Multi.{Parts, Several, Stopped as StoppedAt, Passed as PassedAll, Denied, Codes, All as AllDone, data_len, distinct, load, parts_of, row_of, settled, several}
use Rattle.zk_model.specs.Watches.{no_watches}
use Rattle.zk_model.specs.Znodes.{Tree, owned}
use Rattle.zk_service.specs.Answers.{refusal_of_several, tree_reply}
use Rattle.zk_service.specs.States.{State, Session, IsSound, advanced, commit, commit_several, committed, limit_of, session_at}
use Rattle.zx_base.specs.Maps.{Bytes}
use Rattle.zn_layout.specs.declared.record.SessionRec.{SessionRec}
use Rattle.zn_layout.specs.Changes.{KeyChange, Put, are_distinct, last, put_or_else, update_acts}
use Rattle.zn_layout.specs.Fits.{ChangesFit}
use Rattle.zn_layout.specs.Keys.{Key, HeadKey, LeaseKey, SessionKey, key_bytes, same_key}
use Rattle.zn_layout.specs.Records.{IsHeadRec}
use Rattle.zn_layout.specs.StandsFor.{StandsFor, at}
use Rattle.zn_layout.proofs.Keys.{same_key-true}
use Rattle.zn_view.specs.declared.plan.Decision.{Decision}
use Rattle.zn_view.specs.declared.plan.Decision.TheVariants.{Answered}
use Rattle.zn_view.specs.declared.plan.Plan.{Plan}
use Rattle.zn_view.specs.declared.plan.Who.{Who}
use Rattle.zn_view.specs.declared.leaving.TreeChange.{TreeChange}
use Rattle.zn_view.specs.Asks.{guards_of, narrowed, picked}
use Rattle.zn_view.specs.Lookups.{HasSeen, sees}
use Rattle.zn_view.specs.Laws.{LivesAs}
use Rattle.zn_view.specs.Needs.{finished, own_result}
use Rattle.zn_view.specs.Seen.{View, seen}
use Rattle.zn_view.specs.Views.{IsByTree, IsMade, IsPlan, live, limit_at}
use Rattle.zn_view.proofs.Committing.{plan-commits}
use Rattle.zn_view.proofs.Members.{In, in_mapped, in_right}
use Rattle.zn_view.proofs.Narrowing.{narrowed-plan, narrowed-seen, picked-seen}
use Rattle.zn_view.proofs.Tested.{session-lives}
use Rattle.zn_updates.specs.Deciding.{IsAttached}
use Rattle.zn_updates.specs.KeysRead.{start_keys}
use Rattle.zn_updates.specs.Layers.{Shows}
use Rattle.zn_updates.specs.Making.{IsNodesSeen}
use Rattle.zn_updates.specs.Parts.{IsKeptChange, IsNarrower}
use Rattle.zn_updates.specs.Right.{with_tree}
use Rattle.zn_updates.specs.Seen.{ShowsOwned}
use Rattle.zn_updates.proofs.Deciding.{fits_advanced}
use Rattle.zn_updates.proofs.Meanings.{of_abs}
use Rattle.zn_updates.proofs.PartChoices.{near_is}
use Rattle.zn_updates.proofs.Showing.{nodes-shown}
use Rattle.zn_updates.proofs.Telling.{Tells, shows, told}
use Rattle.zn_multi.specs.Carrying.{no_progress, AreShort, Runs}
use Rattle.zn_multi.specs.Deciding.{AreOwnedLoads, IsByParts, IsInTurn, IsOwnedLoad, IsPlannedAs, path_bytes, read_keys, refused}
use Rattle.zn_multi.specs.Laying.{laid_view, written}
use Rattle.zn_multi.specs.Leading.{LeadsTo, with_first}
use Rattle.zn_multi.specs.Reading.{AreRead}
use Rattle.zn_multi.specs.declared.carrying.Carried.{Carried}
use Rattle.zn_multi.specs.declared.carrying.Carried.TheVariants.{Stopped, Passed}
use Rattle.zn_multi.specs.declared.carrying.Progress.{Progress}
use Rattle.zn_multi.proofs.Laid.{laid-injective}
use Rattle.zn_multi.proofs.Leading.{limit_is, parts_stop}
use Rattle.zn_multi.proofs.Times.{IsPassed, passed-always, stopped-always}
use Rattle.zn_multi.proofs.Needs.{once_has}
use Rattle.zn_multi.proofs.Staying.{IsWritten, Stays, run_seen, run_stays, stays_start}
use Rattle.zn_multi.proofs.Written.{fits-written}

append_empty : {A : Type 0} (xs : List A) → xs ++ [] ≡ xs
append_empty [] = refl
append_empty (x ∷ xs) = ap (λ l. x ∷ l) (append_empty xs)

-- ---- the sessions that are counted, each once

all_distinct : (P : ℤ → Type 0) (ss before : List ℤ) → All P before → All P ss → All P (fold (insert_key int_cmp) before ss)
all_distinct P [] before all more = all
all_distinct P (s ∷ ss) before all more = all_distinct P ss (insert_key int_cmp before s) (All-insert_key int_cmp s P before all (All-head P s ss more)) (All-tail P s ss more)

all_in : (P : ℤ → Type 0) (ss : List ℤ) → ((o : ℤ) → In o ss → P o) → All P ss
all_in P [] h = All-nil P
all_in P (s ∷ ss) h = All-cons P s ss (h s (inl refl)) (all_in P ss (λ o i. h o (inr i)))

-- ---- the machine's answer

several_is : (t : Tree) (limit : ℕ) (id : ℤ) (parts : List Part) (z : ℤ) (now : ℕ) (x : Parts) → parts_of t limit id parts z now ≡ x → several t limit id parts z now ≡ settled t parts x
unfolding several
several_is t limit id parts z now x e = ap (settled t parts) e

reply_is : (t : Tree) (limit : ℕ) (id : ℤ) (parts : List Part) → tree_reply t limit id no_watches (req.Multi parts) ≡ refusal_of_several no_watches (several t limit id parts (pos 0) 0)
unfolding tree_reply
reply_is t limit id parts = refl

commit_is : (t : Tree) (limit : ℕ) (id : ℤ) (parts : List Part) (z : ℤ) (now : ℕ) → commit t limit id (req.Multi parts) z now ≡ commit_several (several t limit id parts z now)
unfolding commit
commit_is t limit id parts z now = refl

no_more : (t : Tree) (limit : ℕ) (id z : ℤ) (now : ℕ) → parts_of t limit id [] z now ≡ PassedAll [] t [] []
unfolding parts_of
no_more t limit id z now = refl

told_codes : (parts : List Part) (row : List PartResult) (d : Decision) → d ≡ Answered (reply.Good (body.Parts row)) None → IsByTree (req.Multi parts) d (refusal_of_several no_watches (Codes row))
told_codes parts row d e = (None, e, λ _. refl, λ _. refl)

told_denied : (parts : List Part) (code : ℤ) (d : Decision) → d ≡ Answered (reply.Refused code) None → IsByTree (req.Multi parts) d (refusal_of_several no_watches (Denied code))
told_denied parts code d e = (None, e, λ _. refl, λ _. refl)

pub open_is : (o : Option Session) (x : Session) → live o ≡ Some x → o ≡ Some x
open_is None x = λ e. absurd (cc)
open_is (Some y) x = at y.lapsed
  where
    at : (b : Bool) → (if b then None else Some y) ≡ Some x → Some y ≡ Some x
    at true e = absurd (cc)
    at false e = e

module _ (parts : List Part) (who : Who) (v : View) (now : ℕ) (time : now < 2 ^ 62) (short : AreShort parts) (real : pos 1 ≤ℤ who.session) (ks : List Key) (read : AreRead who.session v parts ks) (saw : (k : Key) → In k (start_keys who.session ++ ks) → HasSeen v k) where
  abbrev id : ℤ
  id = who.session

  abbrev keys : List Bytes
  keys = read_keys id ks

  abbrev near : View
  near = narrowed v keys

  key_inside : (k : Key) → In k (start_keys id ++ ks) → In (key_bytes k) keys
  key_inside k i = once_has (map key_bytes (start_keys id ++ ks)) (key_bytes k) (in_mapped key_bytes k (start_keys id ++ ks) i)

  pub narrow : IsNarrower near v
  narrow k o e = picked-seen v keys k o e

  near_saw : (k : Key) → In k (start_keys id ++ ks) → HasSeen near k
  near_saw k i none = saw k i (sym (narrowed-seen v keys (key_bytes k) (key_inside k i)) ∙ none)

  all_near : (k : Key) → In k ks → HasSeen near k
  all_near k i = near_saw k (in_right k (start_keys id) ks i)

  -- ---- in a state that these keys show

  module _ (s : State) (z : ℤ) (sound : IsSound s) (shown : Shows z near s) (x : Session) (opened : session_at id s ≡ Some x) where
    abbrev limit : ℕ
    limit = limit_at id s

    pub stops : (k : ℕ) (code : ℤ) → Runs who now v no_progress 0 parts (Stopped k code) → parts_of s.tree limit id parts z now ≡ StoppedAt k code
    stops k code run = parts_stop who now time v near narrow parts s z sound shown x opened k code run
        (run_seen who now time v near narrow parts s z sound shown x opened parts [] no_progress 0 (Stopped k code) run ks read all_near short (stays_start who now time v near narrow parts s z sound shown x opened)) short

    module _ (p : Progress) (run : Runs who now v no_progress 0 parts (Passed p)) where
      pub ends : (n : List TreeChange) × Stays who now time v near narrow parts s z sound shown x opened n [] p
      ends = run_stays who now time v near narrow parts s z sound shown x opened parts [] no_progress p 0 run ks read all_near short (stays_start who now time v near narrow parts s z sound shown x opened)

      abbrev led : LeadsTo id now v parts [] p s z
      led = ends.1.leads

      passes : parts_of s.tree limit id parts z now ≡ PassedAll (map (own_result z) p.results) led.tree p.triggers p.touched
      passes =
          led.runs ∙ ap (with_first (map (own_result z) p.results) p.triggers p.touched) (no_more led.tree limit id z now)
          ∙ (λ i. PassedAll (append_empty (map (own_result z) p.results) i) led.tree (append_empty p.triggers i) (append_empty p.touched i))

      -- what each session owned before is what the view saw
      abbrev IsCounted : ℤ → Type 0
      IsCounted o = (a : ℕ) → IsOwnedLoad v o a → a ≡ sum_by length (owned s.tree o)

      owned_bytes : (o : ℤ) (y : Session) (nodes : Option SessionRec) → ShowsOwned nodes y (owned s.tree o) → path_bytes nodes ≡ sum_by length (owned s.tree o)
      owned_bytes o y None bad = absurd bad
      owned_bytes o y (Some nodes) h = ap (λ (r : SessionRec). sum_by length r.paths) h.is

      counted : (o : ℤ) → In o p.touched → IsCounted o
      counted o i a (nodes, if_seen, is) =
          let known = ends.1.touched o i in
          let least : pos 1 ≤ℤ o = sound.numbered o known.1.0 known.1.1 in
          let same : pos (nat_abs o) ≡ o = of_abs o (omega (arith, ints, least)) in
          let nodes_seen : IsNodesSeen (sees near (SessionKey (nat_abs o))) nodes = near_is near v narrow (λ (w : Option (Option Kv)). IsNodesSeen w nodes) (SessionKey (nat_abs o)) known.0 (if_seen least) in
          is ∙ owned_bytes o known.1.0 nodes (subst (λ (n : ℤ). ShowsOwned nodes known.1.0 (owned s.tree n)) same (nodes-shown z near s shown (nat_abs o) known.1.0 nodes (ap (λ (n : ℤ). session_at n s) same ∙ known.1.1) nodes_seen))

      loads_sum : (os : List ℤ) (n : ℕ) → All IsCounted os → AreOwnedLoads v os n → n ≡ sum_by (λ (o : ℤ). sum_by length (owned s.tree o)) os
      loads_sum [] n all e = e
      loads_sum (o ∷ os) n all (a, b, first, rest, is) =
          is ∙ (λ i. All-head IsCounted o os all a first i + loads_sum os b (All-tail IsCounted o os all) rest i) ∙ sym (sum_by-cons (λ (r : ℤ). sum_by length (owned s.tree r)) o os)

      pub load_is : (n : ℕ) → AreOwnedLoads v (distinct p.touched) n → sum_by data_len parts + n ≡ load s.tree parts p.touched
      load_is n loads = ap (λ (k : ℕ). sum_by data_len parts + k) (loads_sum (distinct p.touched) n (all_distinct IsCounted p.touched [] (All-nil IsCounted) (all_in IsCounted p.touched counted)) loads)

      -- at every zxid and time
      settled_is : (y : ℤ) (time : ℕ) (n : ℕ) (b : Bool) → AreOwnedLoads v (distinct p.touched) n → nat_lt max_load (sum_by data_len parts + n) ≡ b → (w : IsPassed p.touched (parts_of s.tree limit id parts y time))
          → several s.tree limit id parts y time ≡ (if b then Denied bad_arguments else AllDone w.results w.tree w.triggers)
      settled_is y time n b loads e w =
          several_is s.tree limit id parts y time _ w.is
          ∙ ap (λ (k : ℕ). if nat_lt max_load k then Denied bad_arguments else AllDone w.results w.tree w.triggers) (sym (load_is n loads))
          ∙ ap (λ c. if c then Denied bad_arguments else AllDone w.results w.tree w.triggers) e

      decides : (d : Decision) (n : ℕ) → AreOwnedLoads v (distinct p.touched) n → (b : Bool) → nat_lt max_load (sum_by data_len parts + n) ≡ b → MatchBool b (d ≡ refused bad_arguments) (IsPlannedAs id v parts p d)
          → IsByTree (req.Multi parts) d (refusal_of_several no_watches (several s.tree limit id parts (pos 0) 0))
      decides d n loads b e h =
          let w = passed-always limit id parts s.tree z (pos 0) now 0 _ _ _ _ passes in
          subst (λ (k : Several). IsByTree (req.Multi parts) d (refusal_of_several no_watches k)) (sym (settled_is (pos 0) 0 n b loads e w)) (by b h w)
        where
          by : (b : Bool) → MatchBool b (d ≡ refused bad_arguments) (IsPlannedAs id v parts p d) → (w : IsPassed p.touched (parts_of s.tree limit id parts (pos 0) 0)) → IsByTree (req.Multi parts) d (refusal_of_several no_watches (if b then Denied bad_arguments else AllDone w.results w.tree w.triggers))
          by true h w = told_denied parts bad_arguments d h
          by false h w = (h.0, h.1)

    by_parts : (c : Carried) → Runs who now v no_progress 0 parts c → (d : Decision) → IsByParts id v parts c d → IsByTree (req.Multi parts) d (refusal_of_several no_watches (several s.tree limit id parts (pos 0) 0))
    by_parts (Stopped k code) run d is =
        subst (λ (w : Several). IsByTree (req.Multi parts) d (refusal_of_several no_watches w)) (sym (several_is s.tree limit id parts (pos 0) 0 _ (stopped-always limit id parts s.tree z (pos 0) now 0 k code (stops k code run))))
        (told_codes parts (row_of (length parts) k code) d is)
    by_parts (Passed p) run d (n, loads, h) = decides p run d n loads (nat_lt max_load (sum_by data_len parts + n)) refl h

    own_limit : limit ≡ limit_of x
    own_limit = limit_is who now time v near narrow parts s z sound shown x opened

    pub by_tree : (d : Decision) → IsInTurn who now v parts d → IsByTree (req.Multi parts) d (tree_reply s.tree (limit_of x) id no_watches (req.Multi parts))
    by_tree d (c, run, is) = subst (IsByTree (req.Multi parts) d) (sym (ap (λ (n : ℕ). tree_reply s.tree n id no_watches (req.Multi parts)) (sym own_limit) ∙ reply_is s.tree limit id parts)) (by_parts c run d is)

  -- ---- the plan

  module _ (p : Progress) (run : Runs who now v no_progress 0 parts (Passed p)) (bounds : IsHeadRec p.triggers) (n : ℕ) (loads : AreOwnedLoads v (distinct p.touched) n) (fits_load : nat_lt max_load (sum_by data_len parts + n) ≡ false)
      (ws : List KeyChange) (over : p.over ≡ laid_view ws) (once : are_distinct ws ≡ true) (kept : All IsKeptChange ws) (plan : Plan)
      (guards : plan.guards ≡ guards_of (picked v keys)) (acts : plan.success ≡ update_acts (written v ws) plan.triggers) (draft : plan.draft ≡ reply.Good (body.Parts p.results)) (shown_triggers : plan.triggers ≡ p.triggers) (headless : last (written v ws) HeadKey ≡ None) where
    last_in : (us : List KeyChange) (k : Key) (w : Option Put) → last us k ≡ Some w → (c : KeyChange) × In c us × (c.key ≡ k) × (c.put ≡ w)
    last_in [] k w e = absurd (cc)
    last_in (u ∷ us) k w e = later (last_in us k w) (last us k) refl e
      where
        here : (b : Bool) → same_key k u.key ≡ b → (if b then Some u.put else None) ≡ Some w → (c : KeyChange) × In c (u ∷ us) × (c.key ≡ k) × (c.put ≡ w)
        here true same e = (u, inl refl, sym (same_key-true k u.key same), some_same e)
          where
            some_same : Some u.put ≡ Some w → u.put ≡ w
            some_same f = cc
        here false same e = absurd (cc)

        later : (last us k ≡ Some w → (c : KeyChange) × In c us × (c.key ≡ k) × (c.put ≡ w)) → (o : Option (Option Put)) → last us k ≡ o → put_or_else o (if same_key k u.key then Some u.put else None) ≡ Some w → (c : KeyChange) × In c (u ∷ us) × (c.key ≡ k) × (c.put ≡ w)
        later with_first None f e = here (same_key k u.key) refl e
        later with_first (Some y) f e = let c = with_first (f ∙ e) in (c.0, inr c.1, c.2, c.3)

    all_of : (P : KeyChange → Type 0) (us : List KeyChange) (c : KeyChange) → All P us → In c us → P c
    all_of P [] c all bad = absurd bad
    all_of P (u ∷ us) c all (inl e) = subst P e (All-head P u us all)
    all_of P (u ∷ us) c all (inr i) = all_of P us c (All-tail P u us all) i

    is_made : (m : Keys) (s : State) (z : ℤ) → IsSound s → StandsFor m s → Tells near m → (x : Session) → session_at id s ≡ Some x → IsMade (req.Multi parts) who now (λ y. finished y plan.draft) (written v ws) plan.triggers s z
    is_made m s z sound stands tells x opened =
        let shown : Shows z near s = shows z near m s stands tells in
        let st = ends s z sound shown x opened p run in
        let led : LeadsTo id now v parts [] p s z = st.1.leads in
        let w : IsPassed p.touched (parts_of s.tree (limit_at id s) id parts z now) = record { results = map (own_result z) p.results; tree = led.tree; triggers = p.triggers; is = passes s z sound shown x opened p run } in
        let done : commit s.tree (limit_at id s) id (req.Multi parts) z now ≡ Some (record { response = body.Parts (map (own_result z) p.results); tree = led.tree; triggers = p.triggers }) =
        commit_is s.tree (limit_at id s) id parts z now ∙ ap commit_several (settled_is s z sound shown x opened p run z now n false loads fits_load w) in
        record {
          is_done = record {
            made = record { response = body.Parts (map (own_result z) p.results); tree = led.tree; triggers = p.triggers };
            commits = done;
            triggers = shown_triggers;
            answers = ap (finished z) draft;
          };
          fits = subst (ChangesFit z (written v ws) s) (sym (ap (committed s z) done))
              (subst (λ (us : List KeyChange). ChangesFit z (written v us) s (advanced s z led.tree p.triggers s.sessions)) (laid-injective led.changes ws (sym led.over ∙ over))
              (fits_advanced s led.tree z p.triggers (written v led.changes)
              (fits-written v near narrow z led.changes s (with_tree s led.tree) led.once shown (λ k e. gone led.changes k st.1.written led.kept (last_in led.changes k None e)) led.fits)));
        }
      where
        gone : (us : List KeyChange) (k : Key) → All (IsWritten near p.touched) us → All IsKeptChange us → (c : KeyChange) × In c us × (c.key ≡ k) × (c.put ≡ None) → HasSeen near k × (k ≡ HeadKey → ⊥)
        gone us k all are_kept (c, i, key_is, put_is) =
            (subst (HasSeen near) key_is ((all_of (IsWritten near p.touched) us c all i).gone put_is), λ e. (all_of IsKeptChange us c are_kept i).apart (key_is ∙ e))

    -- the plan of a connection that is attached
    module _ (attached : IsAttached who v) where
      near_lease : seen near (key_bytes (LeaseKey (nat_abs id))) ≡ Some (Some attached.0)
      near_lease = narrowed-seen v keys (key_bytes (LeaseKey (nat_abs id))) (key_inside (LeaseKey (nat_abs id)) (inr (inl refl))) ∙ attached.1

      life_not_head : (k : ℕ) → LeaseKey k ≡ HeadKey → ⊥
      life_not_head k e = cc

      opened_in : (m : Keys) (s : State) → StandsFor m s → Tells near m → (x : Session) × (session_at id s ≡ Some x)
      opened_in m s stands tells =
          let there : at m (LeaseKey (nat_abs id)) ≡ Some attached.0 = tells (LeaseKey (nat_abs id)) (life_not_head (nat_abs id)) (Some attached.0) near_lease in
          let lives : LivesAs (Some attached.0) (live (session_at id s)) = subst (λ (o : Option Kv). LivesAs o (live (session_at id s))) there (session-lives m s id real stands) in
          (lives.0, open_is (session_at id s) lives.0 lives.1)

      pub near_plan : IsPlan (req.Multi parts) who now near plan (λ y. finished y plan.draft)
      near_plan = plan-commits (req.Multi parts) who now near plan (λ y. finished y plan.draft) (written v ws) guards acts (subst IsHeadRec (sym shown_triggers) bounds) headless
          (λ m s z sound stands as_seen later fits. let tells = told near m as_seen in let x = opened_in m s stands tells in is_made m s z sound stands tells x.0 x.1)

      pub carries_out : IsPlan (req.Multi parts) who now v plan (λ y. finished y plan.draft)
      carries_out = narrowed-plan (req.Multi parts) who now v keys plan (λ y. finished y plan.draft) guards near_plan
