-- Parts of a multi that leave something on a view are carried out in each sound state that the view shows.
use Rattle.std.proofs.Common.{◌≡◌, ℕ, ℤ, pos, ◌-◌, Bool, true, false, not, ◌&&◌, length, List, [], ◌∷◌, ◌++◌, reverse, Option, Some, None, refl, sym, ap, ◌∙◌, subst, inl, inr, ⊎_elim, append_assoc, append-nil, arith}
use Rattle.std.specs.Prelude.{MatchOption, nat_abs, nat_le, nat_lt, option_map, ◌≤ℤ◌, ◌≤◌, ⊤, is_some, if◌then◌else◌, ◌==◌}
use Rattle.std.specs.FinMap.{get}
use Rattle.std.specs.Ordering.{int_eq}
use Rattle.std.proofs.lemmas.Bool.{and_parts, true≢false}
use Rattle.std.proofs.lemmas.Bool.Decides.{nat_tests}
use Rattle.std.proofs.lemmas.Int.{ints}
use Rattle.std.proofs.lemmas.List.{reverse-append}
use Rattle.std.proofs.lemmas.List.Elements.{All-head, All-tail}
use Rattle.zx_base.specs.Maps.{Bytes, same}
use Rattle.zx_base.proofs.MapLaws.{same-refl}
use Rattle.zx_base.proofs.Options.{none_some, some_none}
use Rattle.zk_model.specs.declared.node.Node.{Node}
use Rattle.zk_model.specs.declared.node.Trigger.{Trigger}
use Rattle.zk_model.specs.declared.reply.PartResult.{PartResult}
use Rattle.zk_model.specs.declared.request.Acl.{Acl}
use Rattle.zk_model.specs.declared.request.Part.{Part}
use Rattle.zk_model.specs.declared.request.Part.TheVariants as part
use Rattle.zk_model.specs.Limits.{max_creates, max_frame, max_version}
use Rattle.zk_model.specs.Multi.{Parts, Passed, Stopped, parts_of, touched_by}
use Rattle.zk_model.specs.Paths.{is_child, is_path, parent, root, sequence_path}
use Rattle.zk_model.specs.Single.{Outcome, Done, Refused, check, create, create_at, create_node, create_under, delete, effect, form_refusal, is_ephemeral, is_full, is_sequential, made_path, matches, named, set_data, single, unless_refused}
use Rattle.zk_model.specs.Znodes.{Tree, num_children, owned}
use Rattle.zk_model.proofs.PartLaws.{parts_of-done}
use Rattle.zk_service.specs.States.{State, Session, IsSound, IsSoundTree, limit_of, session_at}
use Rattle.zk_service.proofs.SoundEffects.{Leads, single-sound}
use Rattle.zn_layout.specs.declared.record.CountRec.{CountRec}
use Rattle.zn_layout.specs.Begin.{first_counts}
use Rattle.zn_layout.specs.Counts.{one_less, one_more}
use Rattle.zn_layout.specs.Keys.{CountsKey, key_bytes}
use Rattle.zn_layout.specs.StandsFor.{counts_record}
use Rattle.zn_view.specs.declared.leaving.NodeNow.{NodeNow}
use Rattle.zn_view.specs.declared.leaving.TreeChange.{TreeChange}
use Rattle.zn_view.specs.declared.leaving.TreeChange.TheVariants.{Created, Deleted, DataSet}
use Rattle.zn_view.specs.Leaving.{are_seen, counted as counted_by, counts_after, counts_with, create_change, delete_change, is_checked, is_owner_seen, node_after, node_now, node_path, node_with, owner_of, room_after, set_change, set_once, with_change, AreCountsNow, CheckLeaves, CreateLeaves, DeleteLeaves, IsLeft, IsNodeNow, IsRoomFor, IsRoomNow, NodeLeaves, PartLeaves, SetLeaves}
use Rattle.zn_view.specs.Seen.{View, seen}
use Rattle.zn_view.specs.Views.{counts_of_parent}
use Rattle.zn_updates.specs.Layers.{Shows}
use Rattle.zn_updates.specs.Parts.{part_content}
use Rattle.zn_updates.proofs.Forms.{delete_refusal}
use Rattle.zn_multi.specs.Carrying.{AreShort}
use Rattle.zn_multi.specs.Leading.{with_first}
use Rattle.zn_multi.proofs.Leading.{with_first_next, small_part}
use Rattle.zn_multi.proofs.Walking.{counts_at, counts_of, now_of, single_goes, walks_start, Finds, Goes, Walks}
use Rattle.zn_laws.specs.Carried.{AreCarriedOut}
use Rattle.zn_laws.proofs.Shown.{counts_shown, node_shown, room_in, room_shown, IsIf}
use Rattle.zx_base.proofs.Booleans.{not-true, or-neither}

-- ---- what is not known, or is so

sure : {A : Type 0} (a b : Option A) (y : A) → IsIf a b → a ≡ Some y → a ≡ b
sure a b y (inl none) is = absurd (none_some (sym none ∙ is))
sure a b y (inr e) is = e

some_same : {A : Type 0} (x y : A) → Some x ≡ Some y → x ≡ y
some_same x y e = cc

node_step : (p : Bytes) (a b : Option (Option NodeNow)) (c : TreeChange) → IsIf a b → IsIf (node_with p a c) (node_with p b c)
node_step p a b c (inr e) = inr (ap (λ (n : Option (Option NodeNow)). node_with p n c) e)
node_step p a b (Created q owner) (inl e) = at (same q p)
  where
    at : (t : Bool) → IsIf (if t then Some (Some (node_now (pos 0) owner)) else a) (if t then Some (Some (node_now (pos 0) owner)) else b)
    at true = inr refl
    at false = inl e
node_step p a b (Deleted q owner) (inl e) = at (same q p)
  where
    at : (t : Bool) → IsIf (if t then Some None else a) (if t then Some None else b)
    at true = inr refl
    at false = inl e
node_step p a b (DataSet q) (inl e) = at (same q p)
  where
    at : (t : Bool) → IsIf (if t then option_map (option_map set_once) a else a) (if t then option_map (option_map set_once) b else b)
    at true = inl (ap (option_map (option_map set_once)) e)
    at false = inl e

counts_step : (p : Bytes) (a b : Option (Option CountRec)) (c : TreeChange) → IsIf a b → IsIf (counts_with p a c) (counts_with p b c)
counts_step p a b c (inr e) = inr (ap (λ (n : Option (Option CountRec)). counts_with p n c) e)
counts_step p a b (Created q owner) (inl e) = at (same q p) (is_child p q)
  where
    at : (t w : Bool) → IsIf (if t then Some (Some first_counts) else (if w then option_map (option_map one_more) a else a)) (if t then Some (Some first_counts) else (if w then option_map (option_map one_more) b else b))
    at true w = inr refl
    at false true = inl (ap (option_map (option_map one_more)) e)
    at false false = inl e
counts_step p a b (Deleted q owner) (inl e) = at (same q p) (is_child p q)
  where
    at : (t w : Bool) → IsIf (if t then Some None else (if w then option_map (option_map one_less) a else a)) (if t then Some None else (if w then option_map (option_map one_less) b else b))
    at true w = inr refl
    at false true = inl (ap (option_map (option_map one_less)) e)
    at false false = inl e
counts_step p a b (DataSet q) (inl e) = inl e

node_steps : (changes : List TreeChange) (p : Bytes) (a b : Option (Option NodeNow)) → IsIf a b → IsIf (node_after changes p a) (node_after changes p b)
node_steps [] p a b h = h
node_steps (c ∷ cs) p a b h = node_steps cs p (node_with p a c) (node_with p b c) (node_step p a b c h)

counts_steps : (changes : List TreeChange) (p : Bytes) (a b : Option (Option CountRec)) → IsIf a b → IsIf (counts_after changes p a) (counts_after changes p b)
counts_steps [] p a b h = h
counts_steps (c ∷ cs) p a b h = counts_steps cs p (counts_with p a c) (counts_with p b c) (counts_step p a b c h)

-- ---- what a part that leaves something has tested

passed : (b : Bool) (x : TreeChange) (changes m : List TreeChange) → Some m ≡ with_change changes (if b then Some x else None) → b ≡ true
passed true x changes m e = refl
passed false x changes m e = absurd (some_none e)

record Opens (up : Option (Option NodeNow)) (counts : Option (Option CountRec)) (there : Option (Option NodeNow)) (number : Option ℕ) : Type 0 where
  above : NodeNow
  above_is : up ≡ Some (Some above)
  counted : CountRec
  counted_is : counts ≡ Some (Some counted)
  absent : there ≡ Some None
  owns : ℕ
  owns_is : number ≡ Some owns
  plain : int_eq above.owner (pos 0) ≡ true
  on : not (int_eq counted.creates max_creates) ≡ true
  room : nat_lt 0 owns ≡ true

opens : (p : Bytes) (owner : ℤ) (up : Option (Option NodeNow)) (counts : Option (Option CountRec)) (there : Option (Option NodeNow)) (number : Option ℕ) (changes m : List TreeChange) → Some m ≡ with_change changes (create_change p owner up counts there number) → Opens up counts there number
opens p owner None counts there number changes m e = absurd (some_none e)
opens p owner (Some None) counts there number changes m e = absurd (some_none e)
opens p owner (Some (Some up)) None there number changes m e = absurd (some_none e)
opens p owner (Some (Some up)) (Some None) there number changes m e = absurd (some_none e)
opens p owner (Some (Some up)) (Some (Some c)) None number changes m e = absurd (some_none e)
opens p owner (Some (Some up)) (Some (Some c)) (Some (Some old)) number changes m e = absurd (some_none e)
opens p owner (Some (Some up)) (Some (Some c)) (Some None) None changes m e = absurd (some_none e)
opens p owner (Some (Some up)) (Some (Some c)) (Some None) (Some n) changes m e =
    let all = and_parts _ _ (passed (int_eq up.owner (pos 0) && (not (int_eq c.creates max_creates) && nat_lt 0 n)) (Created p owner) changes m e) in
    let both = and_parts _ _ all.1 in record {
      above = up;
      above_is = refl;
      counted = c;
      counted_is = refl;
      absent = refl;
      owns = n;
      owns_is = refl;
      plain = all.0;
      on = both.0;
      room = both.1;
    }

record Goers (v : View) (p : Bytes) (version : ℤ) (node : Option (Option NodeNow)) (counts : Option (Option CountRec)) : Type 0 where
  here : NodeNow
  here_is : node ≡ Some (Some here)
  counted : CountRec
  counted_is : counts ≡ Some (Some counted)
  fits : matches version here.version ≡ true
  empty : int_eq counted.children (pos 0) ≡ true
  looked : (are_seen v (counts_of_parent (parent p)) && is_owner_seen v here.owner) ≡ true

goers : (v : View) (p : Bytes) (version : ℤ) (node : Option (Option NodeNow)) (counts : Option (Option CountRec)) (changes m : List TreeChange) → Some m ≡ with_change changes (delete_change v p version node counts) → Goers v p version node counts
goers v p version None counts changes m e = absurd (some_none e)
goers v p version (Some None) counts changes m e = absurd (some_none e)
goers v p version (Some (Some n)) None changes m e = absurd (some_none e)
goers v p version (Some (Some n)) (Some None) changes m e = absurd (some_none e)
goers v p version (Some (Some n)) (Some (Some c)) changes m e =
    let all = and_parts _ _ (passed ((matches version n.version && int_eq c.children (pos 0)) && (are_seen v (counts_of_parent (parent p)) && is_owner_seen v n.owner)) (Deleted p n.owner) changes m e) in
    let both = and_parts _ _ all.0 in record {
      here = n;
      here_is = refl;
      counted = c;
      counted_is = refl;
      fits = both.0;
      empty = both.1;
      looked = all.1;
    }

record Sets (v : View) (p : Bytes) (version : ℤ) (node : Option (Option NodeNow)) : Type 0 where
  here : NodeNow
  here_is : node ≡ Some (Some here)
  fits : matches version here.version ≡ true
  below : not (int_eq here.version max_version) ≡ true
  looked : is_some (seen v (key_bytes (CountsKey p))) ≡ true

sets : (v : View) (p : Bytes) (version : ℤ) (node : Option (Option NodeNow)) (changes m : List TreeChange) → Some m ≡ with_change changes (set_change v p version node) → Sets v p version node
sets v p version None changes m e = absurd (some_none e)
sets v p version (Some None) changes m e = absurd (some_none e)
sets v p version (Some (Some n)) changes m e =
    let all = and_parts _ _ (passed ((matches version n.version && not (int_eq n.version max_version)) && is_some (seen v (key_bytes (CountsKey p)))) (DataSet p) changes m e) in
    let both = and_parts _ _ all.0 in record { here = n; here_is = refl; fits = both.0; below = both.1; looked = all.1 }

record Checks (version : ℤ) (node : Option (Option NodeNow)) : Type 0 where
  here : NodeNow
  here_is : node ≡ Some (Some here)
  fits : matches version here.version ≡ true

checks : (version : ℤ) (node : Option (Option NodeNow)) (changes m : List TreeChange) → Some m ≡ (if is_checked version node then Some changes else None) → Checks version node
checks version None changes m e = absurd (some_none e)
checks version (Some None) changes m e = absurd (some_none e)
checks version (Some (Some n)) changes m e = record { here = n; here_is = refl; fits = at (matches version n.version) e }
  where
    at : (b : Bool) → Some m ≡ (if b then Some changes else None) → b ≡ true
    at true e = refl
    at false e = absurd (some_none e)

-- ---- outcomes

abbrev IsDone : Outcome → Type 0
IsDone o = (r : PartResult) × (u : Tree) × (g : List Trigger) × (o ≡ Done r u g)

done_unless : (b : Bool) (code : ℤ) (o : Outcome) → b ≡ false → IsDone o → IsDone (if b then Refused code else o)
done_unless b code o e done = subst (λ (c : Bool). IsDone (if c then Refused code else o)) (sym e) done

there_of : (o : Option Node) (n : NodeNow) → now_of o ≡ Some n → (x : Node) × (o ≡ Some x) × (node_now x.version x.owner ≡ n)
there_of None n e = absurd (none_some e)
there_of (Some x) n e = (x, refl, some_same (node_now x.version x.owner) n e)

none_of : (o : Option Node) → now_of o ≡ None → o ≡ None
none_of None e = refl
none_of (Some x) e = absurd (some_none e)

-- a session that may own one node more
room_is : (limit : ℕ) (b : Bool) (n k : ℕ) → k ≡ (if b then limit - n else 1) → nat_lt 0 k ≡ true → (b && nat_le limit n) ≡ false
room_is limit true n k e h = grind (arith, nat_tests)
room_is limit false n k e h = refl

no_children : (n : ℕ) → int_eq (pos n) (pos 0) ≡ true → not (n == 0) ≡ false
no_children n e = grind (arith, nat_tests, ints)

not_root : (p : Bytes) (version : ℤ) → form_refusal (part.Delete p version) ≡ None → p ≡ root → ⊥
not_root p version form e = at (is_path p && not (same p root)) refl
  where
    at : (b : Bool) → (is_path p && not (same p root)) ≡ b → ⊥
    at false inner = none_some (sym form ∙ delete_refusal p version false inner)
    at true inner = true≢false (sym (and_parts _ _ inner).1 ∙ ap not (ap (λ (r : Bytes). same r root) e ∙ same-refl root))

path_found : (b : Bool) (path : Bytes) (up : Node) (children : ℕ) → node_path b path (Some (counts_at (Some up) children)) ≡ Some (if b then sequence_path path (nat_abs up.creates) else path)
path_found true path up children = refl
path_found false path up children = refl

alone : (x : Parts) → x ≡ with_first [] [] [] x
alone (Stopped k code) = ap (λ (n : ℕ). Stopped n code) (omega arith)
alone (Passed rs t gs ss) = refl

-- ---- a part on a view that shows a state, where these changes lead to a tree

module _ (z : ℤ) (v : View) (s : State) (shown : Shows z v s) (id : ℤ) (y : Session) (opened : session_at id s ≡ Some y) (sound : IsSound s) (now : ℕ) where
  abbrev Anyone : ℤ → Type 0
  Anyone o = ⊤

  -- how many nodes the session may own
  abbrev limit : ℕ
  limit = limit_of y

  least : pos 0 ≤ℤ id
  least = let h = sound.numbered id y opened in omega (arith, ints, h)

  module _ (changes : List TreeChange) (t : Tree) (walks : Walks s.tree Anyone limit id changes t) where
    node_is : (p : Bytes) (x : Option (Option NodeNow)) → IsNodeNow v changes p x → IsIf x (Some (now_of (get t p)))
    node_is p x (before, is, e) = ⊎_elim (λ none. inl (e ∙ none)) (λ known. inr (e ∙ known ∙ walks.nodes p)) (node_steps changes p before (Some (now_of (get s.tree p))) (node_shown z v s shown p before is))

    counts_are : (p : Bytes) (c : Option (Option CountRec)) → AreCountsNow v changes p c → IsIf c (Some (counts_of t p))
    counts_are p c (m, before, node, is, e) =
        ⊎_elim (λ none. inl (e ∙ none)) (λ known. inr (e ∙ known ∙ walks.counts p)) (counts_steps changes p (counted_by m before) (Some (counts_of s.tree p)) (counts_shown z v s shown p m node before is))

    abbrev room_now : ℕ
    room_now = room_in y (owned t id)

    room_left : (n : Option ℕ) → IsRoomNow v changes id n → IsIf n (Some room_now)
    room_left n (before, is, e) = ⊎_elim
        (λ none. inl (e ∙ ap (option_map (room_after changes id)) none))
        (λ known. inr (e ∙ ap (option_map (room_after changes id)) known ∙ ap Some walks.room))
        (room_shown z v s shown id y least opened before is)

    for_is : (ephemeral : Bool) (n : Option ℕ) → IsRoomFor v changes ephemeral id n → IsIf n (Some (if ephemeral then room_now else 1))
    for_is true n is = room_left n is
    for_is false n is = inr is

    abbrev Passes : Part → List TreeChange → Type 0
    Passes p m = Finds s.tree Anyone limit id v changes t (Some m) p × IsDone (effect t limit id p z now)

    create_done : (path d : Bytes) (f : ℤ) (q : Bytes) (up : Node) → parent (named f path) ≡ Some q → get t q ≡ Some up → get t (made_path f path up) ≡ None → int_eq up.owner (pos 0) ≡ true → is_full t limit id f up ≡ false
        → IsDone (create t limit id f d z now path)
    create_done path d f q up below there none plain room =
        subst (λ (o : Option Bytes). IsDone (create_at t limit id f d z now path o)) (sym below)
        (subst (λ (o : Option Node). IsDone (create_under t limit id f d z now path q o)) (sym there)
        (subst (λ (o : Option Node). IsDone (create_node t limit id f d z now q up (made_path f path up) o)) (sym none)
        (done_unless (not (int_eq up.owner (pos 0))) _ _ (ap not plain) (done_unless (is_full t limit id f up) _ _ room (_, _, _, refl)))))

    node_passes : (path d : Bytes) (a : List Acl) (f : ℤ) (m : List TreeChange) (q : Bytes) (up : Option (Option NodeNow)) (counts : Option (Option CountRec)) → parent (named f path) ≡ Some q → IsIf up (Some (now_of (get t q))) → IsIf counts (Some (counts_of t q))
        → (p : Bytes) → node_path (is_sequential f) path counts ≡ Some p → (there : Option (Option NodeNow)) (n : Option ℕ) → IsNodeNow v changes p there → IsRoomFor v changes (is_ephemeral f) id n
        → Some m ≡ with_change changes (create_change p (owner_of (is_ephemeral f) id) up counts there n) → Passes (part.Create path d a f) m
    unfolding effect
    node_passes path d a f m q up counts below above counted p at_p there n there_is n_is is = (((λ e. tt), found), create_done path d f q here.0 below here.1 absent plain full)
      where
        o : Opens up counts there n
        o = opens p (owner_of (is_ephemeral f) id) up counts there n changes m is

        up_now : up ≡ Some (now_of (get t q))
        up_now = sure up (Some (now_of (get t q))) (Some o.above) above o.above_is

        counts_now : counts ≡ Some (counts_of t q)
        counts_now = sure counts (Some (counts_of t q)) (Some o.counted) counted o.counted_is

        there_now : there ≡ Some (now_of (get t p))
        there_now = sure there (Some (now_of (get t p))) None (node_is p there there_is) o.absent

        n_now : n ≡ Some (if is_ephemeral f then room_now else 1)
        n_now = sure n (Some (if is_ephemeral f then room_now else 1)) o.owns (for_is (is_ephemeral f) n n_is) o.owns_is

        here : (x : Node) × (get t q ≡ Some x) × (node_now x.version x.owner ≡ o.above)
        here = there_of (get t q) o.above (some_same (now_of (get t q)) (Some o.above) (sym up_now ∙ o.above_is))

        path_is : (x : Node) → get t q ≡ Some x → p ≡ made_path f path x
        path_is x is_there = some_same p (made_path f path x) (sym at_p
            ∙ ap (node_path (is_sequential f) path) (counts_now ∙ ap (λ (k : Option Node). Some (counts_at k (num_children t q))) is_there)
            ∙ path_found (is_sequential f) path x (num_children t q))

        absent : get t (made_path f path here.0) ≡ None
        absent = subst (λ (r : Bytes). get t r ≡ None) (path_is here.0 here.1) (none_of (get t p) (some_same (now_of (get t p)) None (sym there_now ∙ o.absent)))

        plain : int_eq (here.0).owner (pos 0) ≡ true
        plain = ap (λ (k : NodeNow). int_eq k.owner (pos 0)) here.2 ∙ o.plain

        counted_is : counts_record here.0 (num_children t q) ≡ o.counted
        counted_is = some_same (counts_record here.0 (num_children t q)) o.counted (some_same (Some (counts_record here.0 (num_children t q))) (Some o.counted)
            (ap (λ (k : Option Node). Some (counts_at k (num_children t q))) (sym here.1) ∙ sym counts_now ∙ o.counted_is))

        full : is_full t limit id f here.0 ≡ false
        full = or-neither (int_eq (here.0).creates max_creates) (is_ephemeral f && nat_le limit (length (owned t id)))
            (not-true _ (ap (λ (k : CountRec). not (int_eq k.creates max_creates)) counted_is ∙ o.on))
            (room_is limit (is_ephemeral f) (length (owned t id)) o.owns (some_same o.owns (if is_ephemeral f then room_now else 1) (sym o.owns_is ∙ n_now)) o.room)

        found_at : (x : Node) → get t q ≡ Some x
            → Some m ≡ with_change changes (create_change (made_path f path x) (owner_of (is_ephemeral f) id) (Some (now_of (get t q))) (Some (counts_of t q)) (Some (now_of (get t (made_path f path x)))) (Some (if is_ephemeral f then room_now else 1)))
        found_at x is_there =
            subst (λ (r : Bytes). Some m ≡ with_change changes (create_change r (owner_of (is_ephemeral f) id) (Some (now_of (get t q))) (Some (counts_of t q)) (Some (now_of (get t r))) (Some (if is_ephemeral f then room_now else 1))))
            (path_is x is_there)
            (is ∙ (λ i. with_change changes (create_change p (owner_of (is_ephemeral f) id) (up_now i) (counts_now i) (there_now i) (n_now i))))

        found : (r : Bytes) → parent (named f path) ≡ Some r → (x : Node) → get t r ≡ Some x
            → Some m ≡ with_change changes (create_change (made_path f path x) (owner_of (is_ephemeral f) id) (Some (now_of (get t r))) (Some (counts_of t r)) (Some (now_of (get t (made_path f path x)))) (Some (if is_ephemeral f then room_now else 1)))
        found r is_parent =
            subst (λ (w : Bytes). (x : Node) → get t w ≡ Some x
            → Some m ≡ with_change changes (create_change (made_path f path x) (owner_of (is_ephemeral f) id) (Some (now_of (get t w))) (Some (counts_of t w)) (Some (now_of (get t (made_path f path x)))) (Some (if is_ephemeral f then room_now else 1))))
            (some_same q r (sym below ∙ is_parent)) found_at

    create_passes : (path d : Bytes) (a : List Acl) (f : ℤ) (m : List TreeChange) (o : Option Bytes) → parent (named f path) ≡ o → CreateLeaves v changes path (is_sequential f) (is_ephemeral f) id o (Some m) → Passes (part.Create path d a f) m
    create_passes path d a f m None below leaves = absurd (some_none leaves)
    create_passes path d a f m (Some q) below (up, counts, up_is, counts_is, leaves) = under (node_path (is_sequential f) path counts) refl leaves
      where
        under : (o : Option Bytes) → node_path (is_sequential f) path counts ≡ o → NodeLeaves v changes (is_ephemeral f) id up counts o (Some m) → Passes (part.Create path d a f) m
        under None at_p h = absurd (some_none h)
        under (Some p) at_p (there, n, there_is, n_is, is) = node_passes path d a f m q up counts below (node_is q up up_is) (counts_are q counts counts_is) p at_p there n there_is n_is is

    delete_passes : (p : Bytes) (x : ℤ) (m : List TreeChange) → form_refusal (part.Delete p x) ≡ None → DeleteLeaves v changes p x (Some m) → Passes (part.Delete p x) m
    unfolding effect
    delete_passes p x m form (n, counts, n_is, counts_is, is) = ((not_root p x form, all, is ∙ (λ i. with_change changes (delete_change v p x (n_now i) (counts_now i)))), done)
      where
        o : Goers v p x n counts
        o = goers v p x n counts changes m is

        n_now : n ≡ Some (now_of (get t p))
        n_now = sure n (Some (now_of (get t p))) (Some o.here) (node_is p n n_is) o.here_is

        counts_now : counts ≡ Some (counts_of t p)
        counts_now = sure counts (Some (counts_of t p)) (Some o.counted) (counts_are p counts counts_is) o.counted_is

        here : (k : Node) × (get t p ≡ Some k) × (node_now k.version k.owner ≡ o.here)
        here = there_of (get t p) o.here (some_same (now_of (get t p)) (Some o.here) (sym n_now ∙ o.here_is))

        counted_is : counts_record here.0 (num_children t p) ≡ o.counted
        counted_is = some_same (counts_record here.0 (num_children t p)) o.counted (some_same (Some (counts_record here.0 (num_children t p))) (Some o.counted)
            (ap (λ (k : Option Node). Some (counts_at k (num_children t p))) (sym here.1) ∙ sym counts_now ∙ o.counted_is))

        all : (k : Node) → get t p ≡ Some k → (are_seen v (counts_of_parent (parent p)) && is_owner_seen v k.owner) ≡ true
        all k is_there = subst (λ (w : ℤ). (are_seen v (counts_of_parent (parent p)) && is_owner_seen v w) ≡ true)
            (sym (ap (λ (w : NodeNow). w.owner) here.2) ∙ ap (λ (w : Node). w.owner) (some_same here.0 k (sym here.1 ∙ is_there))) o.looked

        done : IsDone (delete t p x z (get t p))
        done = subst (λ (k : Option Node). IsDone (delete t p x z k)) (sym here.1)
            (done_unless (not (matches x (here.0).version)) _ _ (ap not (ap (λ (w : NodeNow). matches x w.version) here.2 ∙ o.fits))
            (done_unless (not (num_children t p == 0)) _ _ (no_children (num_children t p) (ap (λ (w : CountRec). int_eq w.children (pos 0)) counted_is ∙ o.empty)) (_, _, _, refl)))

    set_passes : (p d : Bytes) (x : ℤ) (m : List TreeChange) → SetLeaves v changes p x (Some m) → Passes (part.SetData p d x) m
    unfolding effect
    set_passes p d x m (n, n_is, is) = ((o.looked, is ∙ ap (λ (k : Option (Option NodeNow)). with_change changes (set_change v p x k)) n_now), done)
      where
        o : Sets v p x n
        o = sets v p x n changes m is

        n_now : n ≡ Some (now_of (get t p))
        n_now = sure n (Some (now_of (get t p))) (Some o.here) (node_is p n n_is) o.here_is

        here : (k : Node) × (get t p ≡ Some k) × (node_now k.version k.owner ≡ o.here)
        here = there_of (get t p) o.here (some_same (now_of (get t p)) (Some o.here) (sym n_now ∙ o.here_is))

        done : IsDone (set_data t p d x z now (get t p))
        done = subst (λ (k : Option Node). IsDone (set_data t p d x z now k)) (sym here.1)
            (done_unless (not (matches x (here.0).version)) _ _ (ap not (ap (λ (w : NodeNow). matches x w.version) here.2 ∙ o.fits))
            (done_unless (int_eq (here.0).version max_version) _ _ (not-true _ (ap (λ (w : NodeNow). not (int_eq w.version max_version)) here.2 ∙ o.below)) (_, _, _, refl)))

    check_passes : (p : Bytes) (x : ℤ) (m : List TreeChange) → CheckLeaves v changes p x (Some m) → Passes (part.Check p x) m
    unfolding effect
    check_passes p x m (n, n_is, is) = (is ∙ ap (λ (k : Option (Option NodeNow)). if is_checked x k then Some changes else None) n_now, done)
      where
        o : Checks x n
        o = checks x n changes m is

        n_now : n ≡ Some (now_of (get t p))
        n_now = sure n (Some (now_of (get t p))) (Some o.here) (node_is p n n_is) o.here_is

        here : (k : Node) × (get t p ≡ Some k) × (node_now k.version k.owner ≡ o.here)
        here = there_of (get t p) o.here (some_same (now_of (get t p)) (Some o.here) (sym n_now ∙ o.here_is))

        done : IsDone (check t x (get t p))
        done = subst (λ (k : Option Node). IsDone (check t x k)) (sym here.1)
            (done_unless (not (matches x (here.0).version)) _ _ (ap not (ap (λ (w : NodeNow). matches x w.version) here.2 ∙ o.fits)) (_, _, _, refl))

    part_passes : (p : Part) (m : List TreeChange) → form_refusal p ≡ None → PartLeaves id v changes p (Some m) → Passes p m
    part_passes (part.Create path d a f) m form leaves = create_passes path d a f m (parent (named f path)) refl leaves
    part_passes (part.Delete path x) m form leaves = delete_passes path x m form leaves
    part_passes (part.SetData path d x) m form leaves = set_passes path d x m leaves
    part_passes (part.Check path x) m form leaves = check_passes path x m leaves

    single_done : (p : Part) → form_refusal p ≡ None → IsDone (effect t limit id p z now) → IsDone (single t limit id p z now)
    unfolding single
    single_done p form done = subst (λ (o : Option ℤ). IsDone (unless_refused o (effect t limit id p z now))) (sym form) done

  -- ---- all parts

  abbrev IsShortPart : Part → Type 0
  IsShortPart p = length (part_content p) ≤ max_frame

  -- These parts, of which the latest comes first, are carried out, and lead to this tree by these changes.
  record Reaches (before : List Part) (changes : List TreeChange) : Type 0 where
    tree : Tree
    results : List PartResult
    triggers : List Trigger
    touched : List ℤ
    runs : (rest : List Part) → parts_of s.tree limit id (reverse before ++ rest) z now ≡ with_first results triggers touched (parts_of tree limit id rest z now)
    sound_tree : IsSoundTree s.sessions tree
    walks : Walks s.tree Anyone limit id changes tree

  step : (p : Part) (before : List Part) (old m : List TreeChange) → Reaches before old → form_refusal p ≡ None → IsShortPart p → PartLeaves id v old p (Some m) → Reaches (p ∷ before) m
  step p before old m h form short leaves = record {
    tree = done.1;
    results = h.results ++ done.0 ∷ [];
    triggers = h.triggers ++ done.2;
    touched = h.touched ++ touched_by h.tree id p;
    runs = λ rest. ap (λ (ps : List Part). parts_of s.tree limit id ps z now) (order rest) ∙ h.runs (p ∷ rest)
        ∙ ap (with_first h.results h.triggers h.touched) (parts_of-done h.tree done.1 limit id p rest z now done.0 done.2 done.3)
        ∙ with_first_next h.results h.triggers h.touched done.0 done.2 (touched_by h.tree id p) (parts_of done.1 limit id rest z now);
    sound_tree = subst (Leads (IsSoundTree s.sessions)) done.3 (single-sound s.sessions limit id z now (y, opened, refl) h.tree p h.sound_tree (small_part p short));
    walks = subst (λ (c : List TreeChange). Walks s.tree Anyone limit id c done.1) (sym (some_same m goes.changes goes.is)) goes.walks;
  }
    where
      passes : Passes old h.tree h.walks p m
      passes = part_passes old h.tree h.walks p m form leaves

      done : IsDone (single h.tree limit id p z now)
      done = single_done old h.tree h.walks p form passes.1

      goes : Goes s.tree Anyone limit id (Some m) done.1
      goes = subst (Leads (Goes s.tree Anyone limit id (Some m))) done.3 (single_goes s.tree Anyone limit id v old h.tree h.walks h.sound_tree.parents (h.sound_tree.limited id y opened) z now (Some m) p (λ e. passes.0))

      order : (rest : List Part) → reverse (p ∷ before) ++ rest ≡ reverse before ++ p ∷ rest
      order rest = ap (λ (ps : List Part). ps ++ rest) (reverse-append (p ∷ []) before) ∙ append_assoc (reverse before) (p ∷ []) rest

  one_further : (p : Part) (before : List Part) (old m : List TreeChange) → Reaches before old → IsShortPart p → (o : Option ℤ) → form_refusal p ≡ o → MatchOption o (PartLeaves id v old p (Some m)) (λ code. Some m ≡ None) → Reaches (p ∷ before) m
  one_further p before old m h short None form leaves = step p before old m h form short leaves
  one_further p before old m h short (Some code) form none = absurd (some_none none)

  reaches : (before : List Part) (changes : List TreeChange) → IsLeft id v before (Some changes) → AreShort before → Reaches before changes
  reaches [] changes left short = record {
    tree = s.tree;
    results = [];
    triggers = [];
    touched = [];
    runs = λ rest. alone (parts_of s.tree limit id rest z now);
    sound_tree = sound;
    walks = subst (λ (c : List TreeChange). Walks s.tree Anyone limit id c s.tree) (some_same [] changes (sym left)) (walks_start s.tree Anyone limit id);
  }
  reaches (p ∷ before) changes (None, earlier, by) short = absurd (some_none by)
  reaches (p ∷ before) changes (Some old, earlier, by) short =
      one_further p before old changes (reaches before old earlier (All-tail IsShortPart p before short)) (All-head IsShortPart p before short) (form_refusal p) refl by

  pub left_passes : (before : List Part) (changes : List TreeChange) → IsLeft id v before (Some changes) → AreShort before → AreCarriedOut s.tree limit id (reverse before) z now
  unfolding parts_of
  left_passes before changes left short =
      let h = reaches before changes left short in
      (h.results ++ [], h.tree, h.triggers ++ [], h.touched ++ [], ap (λ (ps : List Part). parts_of s.tree limit id ps z now) (sym (append-nil (reverse before))) ∙ h.runs [])
