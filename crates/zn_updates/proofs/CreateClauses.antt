-- The decision of a create is what is promised of it.
use Rattle.std.proofs.Common.{◌^◌, ◌<◌, ◌≡◌, ℕ, ◌≤◌, ℤ, pos, true, false, Bool, cond, List, [], ◌∷◌, ◌++◌, length, arith, Option, Some, None, refl, sym, ap, ◌∙◌, subst, inl, inr, ⊎_elim, is_some}
use Rattle.std.specs.Prelude.{◌≤ℤ◌, All, not, nat_abs, map, IsTrue, nat_le, if◌then◌else◌}
use Rattle.std.proofs.lemmas.List.{length-append}
use Rattle.std.proofs.lemmas.List.Elements.{All-append, All-cons, All-nil}
use Rattle.std.specs.FinMap.{get}
use Rattle.std.specs.Ordering.{int_eq}
use Rattle.ev_types.specs.declared.answer.Kv.{Kv}
use Rattle.zx_base.specs.Maps.{Bytes}
use Rattle.zk_model.specs.declared.node.Node.{Node}
use Rattle.zk_model.specs.declared.node.Trigger.TheVariants.{Created, Children}
use Rattle.zk_model.specs.declared.request.Acl.{Acl}
use Rattle.zk_model.specs.declared.request.Part.TheVariants.{Create}
use Rattle.zk_model.specs.declared.request.Request.TheVariants as req
use Rattle.zk_model.specs.Codes.{node_exists}
use Rattle.zk_model.specs.Limits.{max_creates, max_frame, max_owned}
use Rattle.zk_model.specs.PathFaults.{is_valid}
use Rattle.zk_model.specs.Paths.{is_path, parent, sequence_path, with_one}
use Rattle.zk_model.specs.Single.{Outcome, create_at, create_node, create_under, form_refusal, is_ephemeral, is_sequential, made_path, named, single, effect, unless_refused}
use Rattle.zk_model.specs.Watches.{no_watches}
use Rattle.zk_model.specs.Znodes.{num_children, owned}
use Rattle.zk_model.proofs.SequenceParents.{parent-sequence}
use Rattle.zk_model.proofs.SequencePaths.{sequence-valid}
use Rattle.zk_model.proofs.ValidPaths.{parent-valid}
use Rattle.zk_service.specs.Answers.{plain_request, told_refusal, tree_reply}
use Rattle.zk_service.specs.States.{State, Session, IsSound, commit, limit_of, session_at}
use Rattle.zn_layout.specs.declared.record.CountRec.{CountRec}
use Rattle.zn_layout.specs.declared.record.SessionRec.{SessionRec}
use Rattle.zn_layout.specs.Keys.{Key, HeadKey, DataKey, CountsKey, SessionKey, LeaseKey, key_bytes}
use Rattle.zn_layout.specs.Records.{IsHeadRec, IsLongCount, IsSessionRec}
use Rattle.zn_layout.specs.StandsFor.{is_counted_in}
use Rattle.zn_layout.proofs.Paths.{path_short}
use Rattle.zn_view.specs.declared.plan.Decision.{Decision}
use Rattle.zn_view.specs.declared.plan.Who.{Who}
use Rattle.zn_view.specs.declared.want.Want.{Want}
use Rattle.zn_view.specs.Lookups.{HasSeen, sees}
use Rattle.zn_view.specs.Needs.{AreNeeds, Follows, IsCreatesSeen, IsRead, key_want, IsWhole}
use Rattle.zn_view.specs.Lacking.{lacking}
use Rattle.zn_view.specs.Seen.{View, seen}
use Rattle.zn_view.specs.Views.{reads, about_parent}
use Rattle.zn_view.proofs.Members.{In, contains_in, in_contains, in_left, in_right, in_either}
use Rattle.zn_view.proofs.Sizes.{counts-size, data-size, head-size, life-size, session-size}
use Rattle.zn_view.proofs.Wanted.{are-needs}
use Rattle.zn_updates.specs.declared.seen.SeenData.{SeenData}
use Rattle.zn_updates.specs.declared.seen.SeenCounts.{SeenCounts}
use Rattle.zn_updates.specs.Choices.{Choice, Refuse, create_choice, create_owned}
use Rattle.zn_updates.specs.declared.form.Form.{Form}
use Rattle.zn_updates.specs.Forms.{IsFormOf}
use Rattle.zn_updates.proofs.Plans.{choice-by_tree}
use Rattle.zn_view.specs.Deciding.{IfPlanned, IsToldByForm, is_by_tree}
use Rattle.zn_updates.specs.Deciding.{IfMakes, IsBySound, IsCreate, IsGuarded, AreOwnNodes, IsUpLookedUp, creates_in, creates_seen, decision_of, on_keys, path_for}
use Rattle.zn_updates.specs.KeysRead.{create_keys, numbered, numbered_at, plain_data, session_nodes, IsParentCreates}
use Rattle.zn_updates.specs.Making.{IsDataSeen, IsCountsSeen, IsNodesSeen, has_found}
use Rattle.zn_updates.specs.Right.{IsRight}
use Rattle.zn_updates.specs.Seen.{ShowsCounts, ShowsOwned}
use Rattle.zn_updates.proofs.Clauses.{AreKeys, IsShortKey, makes_cond, by_form, by_sound, near_sees, planned, refused_plans}
use Rattle.zn_updates.proofs.Creates.{creates-are, creates-one}
use Rattle.zn_updates.proofs.CreateRight.{create_right, created_under}
use Rattle.zn_updates.specs.Layers.{code_of, IsChosen, Shows}
use Rattle.zn_updates.proofs.Deciding.{IsPart}
use Rattle.zn_updates.proofs.NewKeys.{create-new}
use Rattle.zn_updates.proofs.WellMade.{create-made, nodes-within, two_triggers}
use Rattle.zn_updates.proofs.Meanings.{of_abs}
use Rattle.zn_updates.proofs.Showing.{data-shown, counts-shown, nodes-shown, there-shown}

-- whatever node is there, without the parent's counts nothing is created
pub same_taken : (p q content : Bytes) (now : ℕ) (ephemeral : Bool) (session : ℤ) (x : Option SeenData) (nodes : Option SessionRec) (a b : Bool)
    → create_choice p q content now ephemeral session x None a nodes ≡ create_choice p q content now ephemeral session x None b nodes
unfolding create_choice
same_taken p q content now ephemeral session None nodes a b = refl
same_taken p q content now ephemeral session (Some x) nodes a b = refl

same_cond : (b : Bool) (x y z w : Choice) → code_of x ≡ code_of z → code_of y ≡ code_of w → code_of (cond b x y) ≡ code_of (cond b z w)
same_cond true x y z w e f = e
same_cond false x y z w e f = f

owned_codes : (p q content : Bytes) (now : ℕ) (above : CountRec) (session : ℤ) (nodes : Option SessionRec) → code_of (create_owned p q content now above session nodes) ≡ code_of (create_owned p q content 0 above session nodes)
owned_codes p q content now above session None = refl
owned_codes p q content now above session (Some r) = same_cond (nat_le (max_owned r.layout) (length r.paths)) _ _ _ _ refl refl

create_codes : (p q content : Bytes) (now : ℕ) (ephemeral : Bool) (session : ℤ) (x : Option SeenData) (c : Option SeenCounts) (taken : Bool) (nodes : Option SessionRec)
    → code_of (create_choice p q content now ephemeral session x c taken nodes) ≡ code_of (create_choice p q content 0 ephemeral session x c taken nodes)
unfolding create_choice
create_codes p q content now ephemeral session None c taken nodes = refl
create_codes p q content now ephemeral session (Some x) None taken nodes = refl
create_codes p q content now ephemeral session (Some x) (Some c) true nodes = refl
create_codes p q content now ephemeral session (Some x) (Some c) false nodes =
    same_cond (not (int_eq x.owner (pos 0))) _ _ _ _ refl (same_cond (int_eq c.counts.creates max_creates) _ _ _ _ refl (same_cond ephemeral _ _ _ _ (owned_codes p q content now c.counts session nodes) refl))

owned_bounds : (p q content : Bytes) (now : ℕ) (above : CountRec) (session : ℤ) (nodes : Option SessionRec) → IsTrue (is_path p) → IsTrue (is_path q) → IfMakes IsHeadRec (create_owned p q content now above session nodes)
owned_bounds p q content now above session None valid also = tt
owned_bounds p q content now above session (Some r) valid also = makes_cond IsHeadRec (nat_le (max_owned r.layout) (length r.paths)) _ _ tt (two_triggers (Created p) (Children q) valid also)

pub create_bounds : (p q content : Bytes) (now : ℕ) (ephemeral : Bool) (session : ℤ) (x : Option SeenData) (c : Option SeenCounts) (taken : Bool) (nodes : Option SessionRec) → IsTrue (is_path p) → IsTrue (is_path q)
    → IfMakes IsHeadRec (create_choice p q content now ephemeral session x c taken nodes)
unfolding create_choice
create_bounds p q content now ephemeral session None c taken nodes valid also = tt
create_bounds p q content now ephemeral session (Some x) None taken nodes valid also = tt
create_bounds p q content now ephemeral session (Some x) (Some c) true nodes valid also = tt
create_bounds p q content now ephemeral session (Some x) (Some c) false nodes valid also =
    makes_cond IsHeadRec (not (int_eq x.owner (pos 0))) _ _ tt
    (makes_cond IsHeadRec (int_eq c.counts.creates max_creates) _ _ tt
    (makes_cond IsHeadRec ephemeral _ _ (owned_bounds p q content now c.counts session nodes valid also) (two_triggers (Created p) (Children q) valid also)))

shown_creates : (z : ℤ) (c : Option SeenCounts) (u : Node) (n : ℕ) (d : Bool) → ShowsCounts z c (Some u) n d → creates_in c ≡ nat_abs u.creates
shown_creates z None u n d h = absurd h
shown_creates z (Some w) u n d h = ap (λ (r : CountRec). nat_abs r.creates) h.is

pub valid_kind : (path : Bytes) (b : Bool) (n : ℕ) → is_valid b path ≡ true → is_path (if b then sequence_path path n else path) ≡ true
valid_kind path true n h = sequence-valid path n h
valid_kind path false n h = h

pub create_refused : (path content : Bytes) (acl : List Acl) (flags code : ℤ) → form_refusal (Create path content acl flags) ≡ Some code → plain_request no_watches (req.Create path content acl flags) ≡ told_refusal no_watches (Some code)
unfolding plain_request
create_refused path content acl flags code e = ap (told_refusal no_watches) e

-- the form that was tested, said of equal flags
pub form_at : (path : Bytes) (acl : List Acl) (flags was : ℤ) (form value : Form) → was ≡ flags → form ≡ value → ((content : Bytes) → IsFormOf (is_sequential was) path (form_refusal (Create path content acl was)) form)
    → (content : Bytes) → IsFormOf (is_sequential flags) path (form_refusal (Create path content acl flags)) value
form_at path acl flags was form value same is h content = subst (λ (t : ℤ × Form). IsFormOf (is_sequential t.0) path (form_refusal (Create path content acl t.0)) t.1) (λ i. (same i, is i)) (h content)

-- ---- the keys of a create

path-in : (sequential ephemeral : Bool) (path q : Bytes) (id : ℤ) (w : SeenCounts) → In (DataKey (path_for sequential path (Some w))) (create_keys sequential ephemeral path (Some q) id (creates_seen (Some w)))
path-in true ephemeral path q id w = inr (inr (inr (inr (in_right _ (plain_data true path ++ session_nodes ephemeral id) (numbered true path (creates_seen (Some w))) (inl refl)))))
path-in false ephemeral path q id w = inr (inr (inr (inr (in_left _ (plain_data false path ++ session_nodes ephemeral id) (numbered false path (creates_seen (Some w))) (in_left _ (plain_data false path) (session_nodes ephemeral id) (inl refl))))))

own-in : (sequential ephemeral : Bool) (path q : Bytes) (id : ℤ) (creates : Option ℕ) → ephemeral ≡ true → In (SessionKey (nat_abs id)) (create_keys sequential ephemeral path (Some q) id creates)
own-in sequential ephemeral path q id creates e = inr (inr (inr (inr (in_left _ (plain_data sequential path ++ session_nodes ephemeral id) (numbered sequential path creates)
    (in_right _ (plain_data sequential path) (session_nodes ephemeral id) (subst (λ b. In (SessionKey (nat_abs id)) (session_nodes b id)) (sym e) (inl refl)))))))

plain-few : (sequential : Bool) (path : Bytes) → length (plain_data sequential path) ≤ 1
plain-few true path = omega arith
plain-few false path = omega arith

own-few : (ephemeral : Bool) (id : ℤ) → length (session_nodes ephemeral id) ≤ 1
own-few true id = omega arith
own-few false id = omega arith

numbered-few : (sequential : Bool) (path : Bytes) (creates : Option ℕ) → length (numbered sequential path creates) ≤ 1
numbered-few true path None = omega arith
numbered-few true path (Some n) = omega arith
numbered-few false path creates = omega arith

pub plain-short : (sequential : Bool) (path : Bytes) → is_valid sequential path ≡ true → All IsShortKey (plain_data sequential path)
plain-short true path h = All-nil IsShortKey
plain-short false path h = All-cons IsShortKey (DataKey path) [] (omega (arith, data-size path, path_short path h)) (All-nil IsShortKey)

pub own-short : (ephemeral : Bool) (id : ℤ) → All IsShortKey (session_nodes ephemeral id)
own-short true id = All-cons IsShortKey (SessionKey (nat_abs id)) [] (omega (arith, session-size (nat_abs id))) (All-nil IsShortKey)
own-short false id = All-nil IsShortKey

numbered-short : (sequential : Bool) (path : Bytes) (creates : Option ℕ) → is_valid sequential path ≡ true → All IsShortKey (numbered sequential path creates)
numbered-short true path None h = All-nil IsShortKey
numbered-short true path (Some n) h = All-cons IsShortKey (DataKey (sequence_path path n)) [] (omega (arith, data-size (sequence_path path n), path_short (sequence_path path n) (sequence-valid path n h))) (All-nil IsShortKey)
numbered-short false path creates h = All-nil IsShortKey

module _ (path content : Bytes) (acl : List Acl) (flags : ℤ) (formed : form_refusal (Create path content acl flags) ≡ None) (valid : is_valid (is_sequential flags) path ≡ true) where
  create_plain : plain_request no_watches (req.Create path content acl flags) ≡ told_refusal no_watches (form_refusal (Create path content acl flags))
  unfolding plain_request
  create_plain = refl

  pub create_formed : plain_request no_watches (req.Create path content acl flags) ≡ None
  create_formed = create_plain ∙ ap (told_refusal no_watches) formed

  create_part : IsPart (req.Create path content acl flags) (Create path content acl flags)
  unfolding tree_reply commit
  create_part = record { told = λ t limit session. refl; done = λ s z session now. refl; after = λ s z session now. refl }

  -- ---- on a tree

  effect_is : (s : State) (limit : ℕ) (session z : ℤ) (now : ℕ) (q : Option Bytes) → parent (named flags path) ≡ q → single s.tree limit session (Create path content acl flags) z now ≡ create_at s.tree limit session flags content z now path q
  unfolding single effect
  effect_is s limit session z now q up =
      ap (λ (o : Option ℤ). unless_refused o (create_at s.tree limit session flags content z now path (parent (named flags path)))) formed
      ∙ ap (create_at s.tree limit session flags content z now path) up

  -- the node's path is valid, and its parent is the one that was tested
  pub valid_path : (n : ℕ) → is_path (if is_sequential flags then sequence_path path n else path) ≡ true
  valid_path n = valid_kind path (is_sequential flags) n valid

  same_parent : (b : Bool) (n : ℕ) → parent (if b then sequence_path path n else path) ≡ parent (if b then with_one path else path)
  same_parent true n = parent-sequence path n
  same_parent false n = refl

  made_below : (q : Bytes) → parent (named flags path) ≡ Some q → (n : ℕ) → parent (if is_sequential flags then sequence_path path n else path) ≡ Some q
  made_below q up n = same_parent (is_sequential flags) n ∙ up

  pub parent_is_valid : (q : Bytes) → parent (named flags path) ≡ Some q → is_path q ≡ true
  parent_is_valid q up = (parent-valid _ q (valid_path 0) (made_below q up 0)).0

  module _ (who : Who) (v : View) (q : Bytes) (up : parent (named flags path) ≡ Some q) (short : length content ≤ max_frame) (long : IsLongCount who.session)
      (x : Option SeenData) (c : Option SeenCounts) (nodes : Option SessionRec) (data_seen : IsDataSeen (sees v (DataKey q)) x) (counts_seen : IsCountsSeen x (sees v (CountsKey q)) c)
      (own_seen : AreOwnNodes v (is_ephemeral flags) who.session nodes) (looked_up : (w : SeenCounts) → c ≡ Some w → HasSeen v (DataKey (path_for (is_sequential flags) path c))) where
    abbrev p : Bytes
    p = path_for (is_sequential flags) path c

    abbrev choice : ℕ → Choice
    choice now = create_choice p q content now (is_ephemeral flags) who.session x c (has_found (sees v (DataKey p))) nodes

    -- ---- where the view has what a state has

    module _ (s : State) (z : ℤ) (now : ℕ) (time : now < 2 ^ 62) (sound : IsSound s) (shown : Shows z v s) (y : Session) (opened : session_at who.session s ≡ Some y) where
      own_shown : is_ephemeral flags ≡ true → ShowsOwned nodes y (owned s.tree who.session)
      own_shown is = subst (λ (o : ℤ). ShowsOwned nodes y (owned s.tree o)) (of_abs who.session long.least)
          (nodes-shown z v s shown (nat_abs who.session) y nodes (ap (λ (o : ℤ). session_at o s) (of_abs who.session long.least) ∙ opened) (own_seen is))

      -- whether the parent has a record of its counts
      abbrev up_counted : Bool
      up_counted = is_counted_in s (get s.tree q)

      -- by the node at the path that was looked up
      right_at : IsRight z s (create_choice p q content now (is_ephemeral flags) who.session x c (is_some (get s.tree p)) nodes) (created_under s p q content flags who.session z now sound (made_below q up (creates_in c)) (valid_path (creates_in c)) time short y opened long (get s.tree q) (get s.tree p))
      right_at = create_right s p q content flags who.session z now sound (made_below q up (creates_in c)) (valid_path (creates_in c)) time short y opened long x c nodes (get s.tree q) (get s.tree p) up_counted refl refl
          (data-shown z v s shown q x data_seen) (counts-shown z v s shown q x c data_seen counts_seen) own_shown

      -- the path that the model makes is the one that was looked up
      same_path : (u : Node) → get s.tree q ≡ Some u → made_path flags path u ≡ p
      same_path u there =
          let counted = subst (λ (o : Option Node). ShowsCounts z c o (num_children s.tree q) up_counted) there (counts-shown z v s shown q x c data_seen counts_seen) in
          ap (λ (n : ℕ). if is_sequential flags then sequence_path path n else path) (sym (shown_creates z c u (num_children s.tree q) up_counted counted))

      under_is : (u : Option Node) → get s.tree q ≡ u → create_under s.tree (limit_of y) who.session flags content z now path q u
          ≡ created_under s p q content flags who.session z now sound (made_below q up (creates_in c)) (valid_path (creates_in c)) time short y opened long u (get s.tree p)
      under_is None there = refl
      under_is (Some u) there = ap (λ (r : Bytes). create_node s.tree (limit_of y) who.session flags content z now q u r (get s.tree r)) (same_path u there)

      taken_is : (k : Option SeenCounts) → c ≡ k → create_choice p q content now (is_ephemeral flags) who.session x c (is_some (get s.tree p)) nodes ≡ choice now
      taken_is None e =
          subst (λ (o : Option SeenCounts). create_choice p q content now (is_ephemeral flags) who.session x o (is_some (get s.tree p)) nodes ≡ create_choice p q content now (is_ephemeral flags) who.session x o (has_found (sees v (DataKey p))) nodes) (sym e)
          (same_taken p q content now (is_ephemeral flags) who.session x nodes _ _)
      taken_is (Some w) e = ap (λ b. create_choice p q content now (is_ephemeral flags) who.session x c b nodes) (sym (there-shown z v s shown p (looked_up w e)))

      right_here : IsRight z s (choice now) (single s.tree (limit_of y) who.session (Create path content acl flags) z now)
      right_here = subst (λ (o : Outcome). IsRight z s (choice now) o) (sym (effect_is s (limit_of y) who.session z now (Some q) up ∙ under_is (get s.tree q) refl))
          (subst (λ (k : Choice). IsRight z s k (created_under s p q content flags who.session z now sound (made_below q up (creates_in c)) (valid_path (creates_in c)) time short y opened long (get s.tree q) (get s.tree p))) (taken_is c refl) right_at)

    pub below_chosen : IsChosen (Create path content acl flags) who v choice
    below_chosen = record {
      right = λ s z now time sound shown y opened. right_here s z now time sound shown y opened;
      same_code = λ now. create_codes p q content now (is_ephemeral flags) who.session x c (has_found (sees v (DataKey p))) nodes;
    }

  -- ---- the root

  pub root_chosen : (who : Who) (v : View) → parent (named flags path) ≡ None → IsChosen (Create path content acl flags) who v (λ now. Refuse node_exists)
  root_chosen who v none = record {
    right = λ s z now time sound shown y opened. effect_is s (limit_of y) who.session z now None none;
    same_code = λ now. refl;
  }

  -- ---- what it reads

  abbrev fixed : ℤ → List Key
  fixed id = (about_parent (parent (named flags path)) ++ plain_data (is_sequential flags) path) ++ session_nodes (is_ephemeral flags) id

  reads_are : (id : ℤ) → reads (req.Create path content acl flags) id ≡ fixed id
  unfolding reads
  reads_are id = refl

  -- a sequence node's key, from the creates that were seen
  number_follows : (who : Who) (v : View) (q : Bytes) (n : ℕ) → is_sequential flags ≡ true → parent (named flags path) ≡ Some q → IsCreatesSeen v q (Some n) → Follows (req.Create path content acl flags) who.session v (key_want (DataKey (sequence_path path n)))
  number_follows who v q n sequential up h = (sequential, q, sym (ap (λ b. parent (if b then with_one path else path)) sequential) ∙ up, n, h, refl)

  numbered_follows : (who : Who) (v : View) (creates : Option ℕ) → IsParentCreates v (parent (named flags path)) creates → (k : Key) → In k (numbered (is_sequential flags) path creates) → Follows (req.Create path content acl flags) who.session v (key_want k)
  numbered_follows who v creates is k = elim (is_sequential flags) as (λ b. is_sequential flags ≡ b → In k (if b then numbered_at path creates else []) → Follows (req.Create path content acl flags) who.session v (key_want k)) [
    | false ↦ λ e h. absurd h
    | true ↦ λ e h. by_creates creates is e h
  ] refl
    where
      by_parent : (n : ℕ) (q : Option Bytes) → parent (named flags path) ≡ q → IsParentCreates v q (Some n) → is_sequential flags ≡ true → Follows (req.Create path content acl flags) who.session v (key_want (DataKey (sequence_path path n)))
      by_parent n None up h e = absurd (cc)
      by_parent n (Some q) up h e = number_follows who v q n e up h

      by_creates : (o : Option ℕ) → IsParentCreates v (parent (named flags path)) o → is_sequential flags ≡ true → In k (numbered_at path o) → Follows (req.Create path content acl flags) who.session v (key_want k)
      by_creates None h e bad = absurd bad
      by_creates (Some n) h e (inl same) = subst (λ (l : Key). Follows (req.Create path content acl flags) who.session v (key_want l)) same (by_parent n (parent (named flags path)) refl h e)
      by_creates (Some n) h e (inr bad) = absurd bad

  reads_from : (who : Who) (v : View) (creates : Option ℕ) → IsParentCreates v (parent (named flags path)) creates → (k : Key) → In k (create_keys (is_sequential flags) (is_ephemeral flags) path (parent (named flags path)) who.session creates) → IsRead (req.Create path content acl flags) who v (key_want k)
  reads_from who v creates is k (inl e) = inl (ap key_want (sym e))
  reads_from who v creates is k (inr (inl e)) = inr (inl (ap key_want (sym e)))
  reads_from who v creates is k (inr (inr h)) = ⊎_elim
      (λ a. inr (inr (inl (k, in_contains k _ (subst (In k) (sym (reads_are who.session)) a), refl))))
      (λ b. inr (inr (inr (numbered_follows who v creates is k b))))
      (in_either k (fixed who.session) (numbered (is_sequential flags) path creates) h)

  reads_to : (who : Who) (v : View) (creates : Option ℕ) → IsParentCreates v (parent (named flags path)) creates → (w : Want) → IsRead (req.Create path content acl flags) who v w
      → (k : Key) × In k (create_keys (is_sequential flags) (is_ephemeral flags) path (parent (named flags path)) who.session creates) × (w ≡ key_want k)
  reads_to who v creates is w (inl e) = (HeadKey, inl refl, e)
  reads_to who v creates is w (inr (inl e)) = (LeaseKey (nat_abs who.session), inr (inl refl), e)
  reads_to who v creates is w (inr (inr (inl h))) = (h.0, inr (inr (in_left h.0 (fixed who.session) (numbered (is_sequential flags) path creates) (subst (In h.0) (reads_are who.session) (contains_in h.0 _ h.1)))), h.2)
  reads_to who v creates is w (inr (inr (inr (sequential, q, up, n, saw, e)))) =
      let named_up : parent (named flags path) ≡ Some q = ap (λ b. parent (if b then with_one path else path)) sequential ∙ up in
      let number : creates ≡ Some n = creates-one (seen v (key_bytes (DataKey q))) (seen v (key_bytes (CountsKey q))) creates n (subst (λ (o : Option Bytes). IsParentCreates v o creates) named_up is) saw in
      let inside : In (DataKey (sequence_path path n)) (numbered (is_sequential flags) path creates) =
      subst (λ (t : Bool × Option ℕ). In (DataKey (sequence_path path n)) (numbered t.0 path t.1)) (λ i. (sym sequential i, sym number i)) (inl refl) in
      (DataKey (sequence_path path n), inr (inr (in_right _ (fixed who.session) (numbered (is_sequential flags) path creates) inside)), e)

  pub create_needs : (who : Who) (v : View) (ws : List Want) (q : Option Bytes) (creates : Option ℕ) → q ≡ parent (named flags path) → IsParentCreates v q creates → ws ≡ lacking v (map key_bytes (create_keys (is_sequential flags) (is_ephemeral flags) path q who.session creates))
      → AreNeeds (req.Create path content acl flags) who v ws
  create_needs who v ws q creates up is e =
      are-needs (req.Create path content acl flags) who v (create_keys (is_sequential flags) (is_ephemeral flags) path (parent (named flags path)) who.session creates) ws
      (e ∙ ap (λ (o : Option Bytes). lacking v (map key_bytes (create_keys (is_sequential flags) (is_ephemeral flags) path o who.session creates))) up) create_formed
      (reads_from who v creates (subst (λ (o : Option Bytes). IsParentCreates v o creates) up is)) (reads_to who v creates (subst (λ (o : Option Bytes). IsParentCreates v o creates) up is))

  fixed_seen : (who : Who) (v : View) → IsWhole (req.Create path content acl flags) who v → (k : Key) → In k (fixed who.session) → HasSeen v k
  fixed_seen who v whole k inside none = whole create_formed (key_want k) (inr (inr (inl (k, in_contains k _ (subst (In k) (sym (reads_are who.session)) inside), refl)))) none

  pub up_seen : (who : Who) (v : View) → IsWhole (req.Create path content acl flags) who v → (q : Bytes) → parent (named flags path) ≡ Some q → HasSeen v (DataKey q) × HasSeen v (CountsKey q)
  up_seen who v whole q up = (
    fixed_seen who v whole (DataKey q) (in_left _ _ (session_nodes (is_ephemeral flags) who.session) (in_left _ _ (plain_data (is_sequential flags) path) (subst (λ (o : Option Bytes). In (DataKey q) (about_parent o)) (sym up) (inl refl)))),
    fixed_seen who v whole (CountsKey q) (in_left _ _ (session_nodes (is_ephemeral flags) who.session) (in_left _ _ (plain_data (is_sequential flags) path) (subst (λ (o : Option Bytes). In (CountsKey q) (about_parent o)) (sym up) (inr (inl refl))))),
  )

  pub own_looked_up : (who : Who) (v : View) → IsWhole (req.Create path content acl flags) who v → is_ephemeral flags ≡ true → HasSeen v (SessionKey (nat_abs who.session))
  own_looked_up who v whole e = fixed_seen who v whole (SessionKey (nat_abs who.session)) (in_right _ (about_parent (parent (named flags path)) ++ plain_data (is_sequential flags) path) (session_nodes (is_ephemeral flags) who.session)
      (subst (λ b. In (SessionKey (nat_abs who.session)) (session_nodes b who.session)) (sym e) (inl refl)))

  pub path_looked_up : (who : Who) (v : View) → IsWhole (req.Create path content acl flags) who v → (x : Option SeenData) (w : SeenCounts) (q : Bytes) → parent (named flags path) ≡ Some q
      → IsDataSeen (sees v (DataKey q)) x → IsCountsSeen x (sees v (CountsKey q)) (Some w) → HasSeen v (DataKey (path_for (is_sequential flags) path (Some w)))
  path_looked_up who v whole x w q up data_seen counts_seen = elim (is_sequential flags) as (λ b. is_sequential flags ≡ b → HasSeen v (DataKey (path_for b path (Some w)))) [
    | false ↦ λ e. fixed_seen who v whole (DataKey path) (in_left _ _ (session_nodes (is_ephemeral flags) who.session) (in_right _ (about_parent (parent (named flags path))) (plain_data (is_sequential flags) path) (subst (λ b. In (DataKey path) (plain_data b path)) (sym e) (inl refl))))
    | true ↦ λ e none. whole create_formed (key_want (DataKey (sequence_path path (nat_abs w.counts.creates))))
        (inr (inr (inr (number_follows who v q (nat_abs w.counts.creates) e up (creates-are (sees v (DataKey q)) (sees v (CountsKey q)) x (Some w) data_seen counts_seen))))) none
  ] refl

  pub up_looked_up : (who : Who) (v : View) → IsWhole (req.Create path content acl flags) who v → (q : Option Bytes) → parent (named flags path) ≡ q → IsUpLookedUp v q
  up_looked_up who v whole None up = tt
  up_looked_up who v whole (Some q) up = up_seen who v whole q up

  -- ---- the keys that a plan guards

  plan_keys : (who : Who) (v : View) (q : Bytes) (x : Option SeenData) (c : Option SeenCounts) → parent (named flags path) ≡ Some q → IsDataSeen (sees v (DataKey q)) x → IsCountsSeen x (sees v (CountsKey q)) c
      → AreKeys (req.Create path content acl flags) who v (create_keys (is_sequential flags) (is_ephemeral flags) path (Some q) who.session (creates_seen c))
  plan_keys who v q x c up data_seen counts_seen =
      let plain : List Key = plain_data (is_sequential flags) path in
      let own : List Key = session_nodes (is_ephemeral flags) who.session in
      let last : List Key = numbered (is_sequential flags) path (creates_seen c) in
      let above = path_short q (parent_is_valid q up) in
      let is : IsParentCreates v (parent (named flags path)) (creates_seen c) = subst (λ (o : Option Bytes). IsParentCreates v o (creates_seen c)) (sym up) (creates-are (sees v (DataKey q)) (sees v (CountsKey q)) x c data_seen counts_seen) in
      let same : (l : Option Bytes) → List Key = λ l. create_keys (is_sequential flags) (is_ephemeral flags) path l who.session (creates_seen c) in
      let few_plain = plain-few (is_sequential flags) path in
      let few_own = own-few (is_ephemeral flags) who.session in
      let few_last = numbered-few (is_sequential flags) path (creates_seen c) in
      record {
        few = omega (arith, few_plain, few_own, few_last, length-append (plain ++ own) last, length-append plain own);
        short = All-cons IsShortKey HeadKey (LeaseKey (nat_abs who.session) ∷ DataKey q ∷ CountsKey q ∷ (plain ++ own) ++ last) (omega (arith, head-size))
            (All-cons IsShortKey (LeaseKey (nat_abs who.session)) (DataKey q ∷ CountsKey q ∷ (plain ++ own) ++ last) (omega (arith, life-size (nat_abs who.session)))
            (All-cons IsShortKey (DataKey q) (CountsKey q ∷ (plain ++ own) ++ last) (omega (arith, data-size q, above))
            (All-cons IsShortKey (CountsKey q) ((plain ++ own) ++ last) (omega (arith, counts-size q, above))
            (All-append IsShortKey (plain ++ own) last (All-append IsShortKey plain own (plain-short (is_sequential flags) path valid) (own-short (is_ephemeral flags) who.session)) (numbered-short (is_sequential flags) path (creates_seen c) valid)))));
        life = inr (inl refl);
        from = λ k h. reads_from who v (creates_seen c) is k (subst (λ (o : Option Bytes). In k (same o)) (sym up) h);
        to = λ w reads. let k = reads_to who v (creates_seen c) is w reads in (k.0, subst (λ (o : Option Bytes). In k.0 (same o)) up k.1, k.2);
      }

  -- ---- what is promised

  module _ (who : Who) (v : View) (now : ℕ) (time : now < 2 ^ 62) (short : length content ≤ max_frame) (real : pos 1 ≤ℤ who.session) (long : IsLongCount who.session) (whole : IsWhole (req.Create path content acl flags) who v) (d : Decision) where
    module _ (q : Bytes) (up : parent (named flags path) ≡ Some q) (is : IsCreate v path content now (is_sequential flags) (is_ephemeral flags) who.session (Some q) d) where
      abbrev node : Bytes
      node = path_for (is_sequential flags) path is.1

      abbrev keys : List Key
      keys = create_keys (is_sequential flags) (is_ephemeral flags) path (Some q) who.session (creates_seen is.1)

      abbrev decided : ℕ → Choice
      decided at_time = create_choice node q content at_time (is_ephemeral flags) who.session is.0 is.1 (has_found (sees v (DataKey node))) is.2

      path_seen : (w : SeenCounts) → is.1 ≡ Some w → HasSeen v (DataKey node)
      path_seen w e = subst (λ (o : Option SeenCounts). HasSeen v (DataKey (path_for (is_sequential flags) path o))) (sym e) (path_looked_up who v whole is.0 w q up is.3 (subst (λ (o : Option SeenCounts). IsCountsSeen is.0 (sees v (CountsKey q)) o) e is.4))

      chosen : IsChosen (Create path content acl flags) who v decided
      chosen = below_chosen who v q up short long is.0 is.1 is.2 is.3 is.4 is.5 path_seen

      -- the key of the node's record is among those that were looked up
      node_in : (w : SeenCounts) → is.1 ≡ Some w → In (DataKey node) keys
      node_in w e = subst (λ (o : Option SeenCounts). In (DataKey (path_for (is_sequential flags) path o)) (create_keys (is_sequential flags) (is_ephemeral flags) path (Some q) who.session (creates_seen o))) (sym e) (path-in (is_sequential flags) (is_ephemeral flags) path q who.session w)

      path_near : (w : SeenCounts) → is.1 ≡ Some w → sees (on_keys v keys) (DataKey node) ≡ sees v (DataKey node)
      path_near w e = near_sees v keys (DataKey node) (node_in w e)

      near_taken : (o : Option SeenCounts) → is.1 ≡ o → (at_time : ℕ) → create_choice node q content at_time (is_ephemeral flags) who.session is.0 is.1 (has_found (sees (on_keys v keys) (DataKey node))) is.2 ≡ decided at_time
      near_taken None e at_time =
          subst (λ (o : Option SeenCounts). create_choice node q content at_time (is_ephemeral flags) who.session is.0 o (has_found (sees (on_keys v keys) (DataKey node))) is.2 ≡ create_choice node q content at_time (is_ephemeral flags) who.session is.0 o (has_found (sees v (DataKey node))) is.2) (sym e)
          (same_taken node q content at_time (is_ephemeral flags) who.session is.0 is.2 _ _)
      near_taken (Some w) e at_time = ap (λ (o : Option (Option Kv)). create_choice node q content at_time (is_ephemeral flags) who.session is.0 is.1 (has_found o) is.2) (path_near w e)

      near_own : AreOwnNodes (on_keys v keys) (is_ephemeral flags) who.session is.2
      near_own e = subst (λ (o : Option (Option Kv)). IsNodesSeen o is.2) (sym (near_sees v keys (SessionKey (nat_abs who.session)) (own-in (is_sequential flags) (is_ephemeral flags) path q who.session (creates_seen is.1) e))) (is.5 e)

      near : IsChosen (Create path content acl flags) who (on_keys v keys) decided
      near = subst (λ (f : ℕ → Choice). IsChosen (Create path content acl flags) who (on_keys v keys) f) (λ i at_time. near_taken is.1 refl at_time i)
          (below_chosen who (on_keys v keys) q up short long is.0 is.1 is.2
          (subst (λ (o : Option (Option Kv)). IsDataSeen o is.0) (sym (near_sees v keys (DataKey q) (inr (inr (inl refl))))) is.3)
          (subst (λ (o : Option (Option Kv)). IsCountsSeen is.0 o is.1) (sym (near_sees v keys (CountsKey q) (inr (inr (inr (inl refl)))))) is.4)
          near_own (λ w e none. path_seen w e (sym (path_near w e) ∙ none)))

      listed : is_ephemeral flags ≡ true → (r : SessionRec) → is.2 ≡ Some r → IsSessionRec r
      listed e r es = nodes-within (sees v (SessionKey (nat_abs who.session))) r (subst (λ (o : Option SessionRec). IsNodesSeen (sees v (SessionKey (nat_abs who.session))) o) es (is.5 e))

      below_promised : IsToldByForm (req.Create path content acl flags) d × IsBySound (req.Create path content acl flags) who v d × IfPlanned (IsGuarded (req.Create path content acl flags) who now v) d
      below_promised = (
        by_form (req.Create path content acl flags) (Create path content acl flags) who v keys decided now create_part chosen time real create_formed d is.6,
        by_sound (req.Create path content acl flags) (Create path content acl flags) who v keys decided now create_part chosen time real create_formed d is.6,
        planned (req.Create path content acl flags) (Create path content acl flags) who v keys decided now create_part chosen time real create_formed d is.6 near (plan_keys who v q is.0 is.1 up is.3 is.4) whole
            (create-made node q (valid_path (creates_in is.1)) (made_below q up (creates_in is.1)) (Unit {0}) content short now (is_ephemeral flags) who.session is.0 is.1 (has_found (sees v (DataKey node))) is.2 listed)
            (create-new v node q content now (is_ephemeral flags) who.session keys (inr (inr (inr (inl refl)))) (own-in (is_sequential flags) (is_ephemeral flags) path q who.session (creates_seen is.1)) is.0 is.1 (has_found (sees v (DataKey node))) is.2
            (λ w e. (node_in w e, path_seen w e)) refl),
      )

    root_promised : parent (named flags path) ≡ None → d ≡ decision_of v (Refuse node_exists) → IsToldByForm (req.Create path content acl flags) d × IsBySound (req.Create path content acl flags) who v d × IfPlanned (IsGuarded (req.Create path content acl flags) who now v) d
    root_promised none is =
        let chosen = root_chosen who v none in
        let choice : ℕ → Choice = λ _. Refuse node_exists in (
          by_form (req.Create path content acl flags) (Create path content acl flags) who v [] choice now create_part chosen time real create_formed d is,
          by_sound (req.Create path content acl flags) (Create path content acl flags) who v [] choice now create_part chosen time real create_formed d is,
          refused_plans (req.Create path content acl flags) who v v now node_exists d is,
        )

    pub all_promised : (q : Option Bytes) → parent (named flags path) ≡ q → IsCreate v path content now (is_sequential flags) (is_ephemeral flags) who.session q d
        → IsToldByForm (req.Create path content acl flags) d × IsBySound (req.Create path content acl flags) who v d × IfPlanned (IsGuarded (req.Create path content acl flags) who now v) d
    all_promised None none is = root_promised none is
    all_promised (Some q) up is = below_promised q up is

pub create-by_tree : (v : View) (path content : Bytes) (now : ℕ) (sequential ephemeral : Bool) (session : ℤ) (q : Option Bytes) (d : Decision) → IsCreate v path content now sequential ephemeral session q d → is_by_tree d ≡ true
create-by_tree v path content now sequential ephemeral session None d is = choice-by_tree v (Refuse node_exists) d is
create-by_tree v path content now sequential ephemeral session (Some q) d is =
    choice-by_tree (on_keys v (create_keys sequential ephemeral path (Some q) session (creates_seen is.1)))
    (create_choice (path_for sequential path is.1) q content now ephemeral session is.0 is.1 (has_found (sees v (DataKey (path_for sequential path is.1)))) is.2) d is.6
