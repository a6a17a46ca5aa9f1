-- A plan on a guess that is wrong: what is read again is of the present too, and is all that the request reads. For the number of the
-- node to be made is the parent's creates, and these are what they were. Only where the parent's record itself was guessed, the node's
-- key may be lacking still.
use Rattle.std.proofs.Common.{◌≡◌, ◌≤◌, ℕ, ℤ, length, List, [], ◌∷◌, ◌++◌, refl, sym, ap, ◌∙◌, subst, arith, Bool, true, false, inl, inr}
use Rattle.std.specs.Prelude.{Contains, Option, Some, None, ◌⊎◌, if◌then◌else◌}
use Rattle.ev_types.specs.Store.{Store, present}
use Rattle.ev_types.specs.declared.answer.ActAns.{ActAns}
use Rattle.ev_types.specs.declared.answer.Kv.{Kv}
use Rattle.zk_model.specs.Paths.{parent, with_one}
use Rattle.zk_model.specs.Single.{is_sequential, named}
use Rattle.zk_model.specs.Watches.{no_watches}
use Rattle.zk_model.specs.declared.request.Request.{Request}
use Rattle.zk_model.specs.declared.request.Request.TheVariants as req
use Rattle.zk_service.specs.Answers.{Told, plain_request}
use Rattle.zn_layout.specs.Keys.{Key, CountsKey, DataKey, HeadKey, key_bytes}
use Rattle.zn_view.proofs.AsSeen.{agrees-seen}
use Rattle.zn_view.proofs.Members.{In, contains_in, in_contains, in_left, in_right}
use Rattle.zn_view.proofs.Narrowing.{picked-told}
use Rattle.zn_view.proofs.Placed.{seen_in-placed_other}
use Rattle.zn_view.proofs.SeenAfter.{wanted-shown}
use Rattle.zn_view.specs.Adding.{at_revision}
use Rattle.zn_view.specs.Asks.{again_of, guarded_wants, head_want, picked}
use Rattle.zn_view.specs.Needs.{AreCreatesSeen, AreNeeds, Follows, GuardsReads, IsCreatesSeen, IsLacking, IsRead, key_want, life_want}
use Rattle.zn_view.specs.Seen.{View, empty_view, seen, seen_in}
use Rattle.zn_view.specs.Views.{Agrees, about_parent, about_path, own_data, own_nodes, reads}
use Rattle.zn_view.specs.declared.plan.Plan.{Plan}
use Rattle.zn_view.specs.declared.plan.Who.{Who}
use Rattle.zn_view.specs.declared.snapshot.SeenKey.{SeenKey}
use Rattle.zn_view.specs.declared.want.Want.{Want}
use Rattle.zn_view.specs.declared.want.Want.TheVariants as want
use Rattle.zs_session.specs.Answering.{viewed}
use Rattle.zx_base.proofs.Booleans.{true-not_false as true-false}
use Rattle.zx_base.proofs.MapLaws.{same-true}
use Rattle.zx_base.proofs.Options.{none_some}
use Rattle.zx_base.specs.Maps.{Bytes, same}
use Rattle.zp_step.specs.Looking.{MayGuess, guessed, is_node_key, makes_sequence}
use Rattle.zp_settle_laws.proofs.Coming.{ReadsAll}
use Rattle.zp_settle_laws.proofs.Places.{SawParent, sequence-ends, sequence_parent}

-- ---- what is read again

-- each key that was seen is among it
again-in : (k : Bytes) (o : Option Kv) (xs : List SeenKey) → seen_in k xs ≡ Some o → In (want.Key k) (again_of xs)
again-in k o [] e = absurd (none_some e)
again-in k o (x ∷ xs) e = go (same x.key k) refl (again-in k o xs) e
  where
    after : In (want.Key k) (again_of xs) → In (want.Key k) (again_of (x ∷ xs))
    after h = by (same x.key (key_bytes HeadKey))
      where
        by : (b : Bool) → In (want.Key k) ((if b then guarded_wants xs else want.Key x.key ∷ guarded_wants xs) ++ head_want ∷ [])
        by true = h
        by false = inr h

    first : x.key ≡ k → In (want.Key k) (again_of (x ∷ xs))
    first is = by (same x.key (key_bytes HeadKey)) refl
      where
        by : (b : Bool) → same x.key (key_bytes HeadKey) ≡ b → In (want.Key k) ((if b then guarded_wants xs else want.Key x.key ∷ guarded_wants xs) ++ head_want ∷ [])
        by true t = in_right (want.Key k) (guarded_wants xs) (head_want ∷ []) (inl (ap want.Key (sym (same-true x.key (key_bytes HeadKey) t) ∙ is)))
        by false t = inl (ap want.Key is)

    go : (b : Bool) → same x.key k ≡ b → (seen_in k xs ≡ Some o → In (want.Key k) (again_of xs)) → (if b then Some x.found else seen_in k xs) ≡ Some o → In (want.Key k) (again_of (x ∷ xs))
    go true t rest f = first (same-true x.key k t)
    go false t rest f = after (rest f)

head-again : (xs : List SeenKey) → In head_want (again_of xs)
head-again xs = in_right head_want (guarded_wants xs) (head_want ∷ []) (inl refl)

-- ---- the number of the node

counts-apart : (q : Bytes) → is_node_key (key_bytes (CountsKey q)) ≡ false
unfolding key_bytes
counts-apart q = refl

-- a node's key is no key of counts
key-apart : (key q : Bytes) → is_node_key key ≡ true → same key (key_bytes (CountsKey q)) ≡ false
key-apart key q node = go (same key (key_bytes (CountsKey q))) refl
  where
    go : (b : Bool) → same key (key_bytes (CountsKey q)) ≡ b → b ≡ false
    go true e = absurd (true-false (sym node ∙ ap is_node_key (same-true key (key_bytes (CountsKey q)) e) ∙ counts-apart q))
    go false e = refl

-- the parent's keys are read at once
about-parent : (f id : ℤ) (p q : Bytes) (k : Key) → (if is_sequential f then parent (with_one p) else None) ≡ Some q → In k (about_path q) → In k (about_parent (parent (named f p)) ++ own_data f p ++ own_nodes f id)
about-parent f id p q k up has = by (is_sequential f) refl
  where
    by : (b : Bool) → is_sequential f ≡ b → In k (about_parent (parent (named f p)) ++ own_data f p ++ own_nodes f id)
    by true s =
        let e : parent (with_one p) ≡ Some q = ap (λ b. if b then parent (with_one p) else None) (sym s) ∙ up in
        let is : parent (named f p) ≡ Some q = ap (λ b. parent (if b then with_one p else p)) s ∙ e in
        subst (λ (o : Option Bytes). In k (about_parent o ++ own_data f p ++ own_nodes f id)) (sym is) (in_left k (about_path q ++ own_data f p) (own_nodes f id) (in_left k (about_path q) (own_data f p) has))
    by false s = absurd (none_some (ap (λ b. if b then parent (with_one p) else None) (sym s) ∙ up))

parent-read : (r : Request) (id : ℤ) (q : Bytes) (k : Key) → sequence_parent r ≡ Some q → In k (about_path q) → Contains (reads r id) k
unfolding reads
parent-read (req.Create p d a f) id q k up has = in_contains k (reads (req.Create p d a f) id) (about-parent f id p q k up has)
parent-read (req.Create2 p d a f) id q k up has = in_contains k (reads (req.Create2 p d a f) id) (about-parent f id p q k up has)
parent-read _ id q k up has = absurd (none_some up)

some-of : {A : Type 0} (o : Option A) → (o ≡ None → ⊥) → (x : A) × (o ≡ Some x)
some-of None h = absurd (h refl)
some-of (Some x) h = (x, refl)

module _ (s : Store) (who : Who) (r : Request) (v : View) (key : Bytes) (p : Plan) (needs : AreNeeds r who v (want.Key key ∷ [])) (may : MayGuess r v key) (whole : AreNeeds r who (guessed v key) []) (reads_of : GuardsReads r who (guessed v key) p) where
  abbrev guess : View
  guess = guessed v key

  -- its form does not decide it
  tree : plain_request no_watches r ≡ None
  tree = go (plain_request no_watches r) refl
    where
      go : (o : Option Told) → plain_request no_watches r ≡ o → o ≡ None
      go None e = refl
      go (Some t) e = absurd (let bad : want.Key key ∷ [] ≡ [] = needs.none t e in cc)

  -- a key that the request reads was seen, or guessed
  saw : (k : Bytes) → IsRead r who guess (want.Key k) → (o : Option Kv) × (seen guess k ≡ Some o)
  saw k read = some-of (seen guess k) (λ none. whole.enough refl tree (want.Key k) read none)

  -- and it is read again
  read-again : (k : Bytes) → IsRead r who guess (want.Key k) → In (want.Key k) p.again
  read-again k read =
      let o = saw k read in
      let inside = contains_in k reads_of.keys (reads_of.all k read) in
      subst (In (want.Key k)) (sym reads_of.again) (again-in k o.0 (picked guess reads_of.keys) (picked-told guess reads_of.keys k o.0 inside o.1))

  -- what it reads is shown by an answer to what is read again
  shown-again : (z : ℤ) (parts : List ActAns) → length p.again ≤ length parts → (k : Bytes) → IsRead r who guess (want.Key k) → seen (viewed z p.again parts) k ≡ None → ⊥
  shown-again z parts long k read = wanted-shown (at_revision empty_view z) p.again parts (want.Key k) long (in_contains (want.Key k) p.again (read-again k read))

  parent-again : (z : ℤ) (parts : List ActAns) → length p.again ≤ length parts → SawParent r (viewed z p.again parts)
  parent-again z parts long = λ q up. shown-again z parts long (key_bytes (DataKey q)) (inr (inr (inl (DataKey q, parent-read r who.session q (DataKey q) up (inl refl), refl))))

  -- Whatever was guessed, nothing is lacking then but the key of the node.
  pub guess-reads_more : ReadsAll s who r 1 p
  guess-reads_more z parts long same_keys = (sequence-ends r who y may.sequence shown, parent-again z parts long)
    where
      y : View
      y = viewed z p.again parts

      shown : (w : Want) → (w ≡ head_want) ⊎ (w ≡ life_want who.session) ⊎ ((k : Key) × Contains (reads r who.session) k × (w ≡ key_want k)) → IsLacking y w → ⊥
      shown w (inl e) lacks = wanted-shown (at_revision empty_view z) p.again parts w long (in_contains w p.again (subst (λ x. In x p.again) (sym e) (subst (In head_want) (sym reads_of.again) (head-again (picked guess reads_of.keys))))) lacks
      shown w (inr (inl e)) lacks = shown-again z parts long _ (inr (inl refl)) (subst (IsLacking y) e lacks)
      shown w (inr (inr (k, has, e))) lacks = shown-again z parts long (key_bytes k) (inr (inr (inl (k, has, refl)))) (subst (IsLacking y) e lacks)

  module _ (agrees : Agrees v (present s)) (parent_seen : SawParent r v) (y : View) (same_keys : Agrees y (present s)) where
    -- what was found is found still, but for what was guessed
    still : (k : Bytes) (f : Option Kv) → same key k ≡ false → IsRead r who guess (want.Key k) → seen y k ≡ Some f → seen guess k ≡ Some f
    still k f apart read there =
        let o = saw k read in
        let before : seen v k ≡ Some o.0 = sym (seen_in-placed_other (record { key = key; found = None }) v.keys k apart) ∙ o.1 in
        let found : o.0 ≡ f = sym (agrees-seen v (present s) k o.0 agrees before) ∙ agrees-seen y (present s) k f same_keys there in
        o.1 ∙ ap Some found

    -- the parent's record was seen, so that it was not guessed
    parent-apart : (q : Bytes) → sequence_parent r ≡ Some q → same key (key_bytes (DataKey q)) ≡ false
    parent-apart q up = go (same key (key_bytes (DataKey q))) refl
      where
        go : (b : Bool) → same key (key_bytes (DataKey q)) ≡ b → b ≡ false
        go true e = absurd (parent_seen q up (ap (seen v) (sym (same-true key (key_bytes (DataKey q)) e)) ∙ (needs.only (want.Key key) (0, omega arith, refl)).1))
        go false e = refl

    -- the creates that were seen below the parent are seen still
    creates-still : (q : Bytes) (n : ℕ) → sequence_parent r ≡ Some q → IsCreatesSeen y q (Some n) → IsCreatesSeen guess q (Some n)
    creates-still q n up h = go (seen y d) (seen y c) refl refl h
      where
        d : Bytes
        d = key_bytes (DataKey q)

        c : Bytes
        c = key_bytes (CountsKey q)

        data-still : (f : Option Kv) → seen y d ≡ Some f → seen guess d ≡ Some f
        data-still f there = still d f (parent-apart q up) (inr (inr (inl (DataKey q, parent-read r who.session q (DataKey q) up (inl refl), refl)))) there

        counts-still : (f : Option Kv) → seen y c ≡ Some f → seen guess c ≡ Some f
        counts-still f there = still c f (key-apart key q may.record_of_node) (inr (inr (inl (CountsKey q, parent-read r who.session q (CountsKey q) up (inr (inl refl)), refl)))) there

        go : (a b : Option (Option Kv)) → seen y d ≡ a → seen y c ≡ b → AreCreatesSeen a b (Some n) → IsCreatesSeen guess q (Some n)
        go a None ea eb is = absurd (none_some (sym is))
        go a (Some (Some kv)) ea eb is = subst (λ (o : Option (Option Kv)). AreCreatesSeen (seen guess d) o (Some n)) (sym (counts-still (Some kv) eb)) is
        go None (Some None) ea eb is = absurd (none_some (sym is))
        go (Some None) (Some None) ea eb is = absurd (none_some (sym is))
        go (Some (Some kv)) (Some None) ea eb is =
            subst (λ (o : Option (Option Kv) × Option (Option Kv)). AreCreatesSeen o.0 o.1 (Some n)) (λ i. (sym (data-still (Some kv) ea) i, sym (counts-still None eb) i)) is

-- what the request reads as a view of the present shows it, it reads as the guess shows it
module _ (s : Store) (who : Who) (v : View) (key : Bytes) (p : Plan) (y : View) (agrees : Agrees v (present s)) (same_keys : Agrees y (present s)) where
  follows-still : (r : Request) → AreNeeds r who v (want.Key key ∷ []) → MayGuess r v key → AreNeeds r who (guessed v key) [] → GuardsReads r who (guessed v key) p → SawParent r v → makes_sequence r ≡ true → (w : Want) → Follows r who.session y w
      → Follows r who.session (guessed v key) w
  follows-still (req.Create path d a f) needs may whole reads_of saw makes w (is, q, up, n, creates, e) =
      (is, q, up, n, creates-still s who (req.Create path d a f) v key p needs may whole reads_of agrees saw y same_keys q n (ap (λ b. if b then parent (with_one path) else None) is ∙ up) creates, e)
  follows-still (req.Create2 path d a f) needs may whole reads_of saw makes w (is, q, up, n, creates, e) =
      (is, q, up, n, creates-still s who (req.Create2 path d a f) v key p needs may whole reads_of agrees saw y same_keys q n (ap (λ b. if b then parent (with_one path) else None) is ∙ up) creates, e)
  follows-still _ needs may whole reads_of saw makes w h = absurd (true-false (sym makes))

follows-key : (r : Request) (id : ℤ) (v : View) (w : Want) → makes_sequence r ≡ true → Follows r id v w → (k : Bytes) × (w ≡ want.Key k)
follows-key (req.Create p d a f) id v w makes (is, q, up, c, saw, e) = (_, e)
follows-key (req.Create2 p d a f) id v w makes (is, q, up, c, saw, e) = (_, e)
follows-key _ id v w makes h = absurd (true-false (sym makes))

module _ (s : Store) (who : Who) (r : Request) (v : View) (key : Bytes) (p : Plan) (agrees : Agrees v (present s)) (needs : AreNeeds r who v (want.Key key ∷ [])) (may : MayGuess r v key) (whole : AreNeeds r who (guessed v key) []) (reads_of : GuardsReads r who (guessed v key) p)
    (parent_seen : SawParent r v) where
  want-again : (y : View) → Agrees y (present s) → (w : Want) → IsRead r who y w → In w p.again
  want-again y same_keys w (inl e) = subst (λ x. In x p.again) (sym e) (subst (In head_want) (sym reads_of.again) (head-again (picked (guessed v key) reads_of.keys)))
  want-again y same_keys w (inr (inl e)) = subst (λ x. In x p.again) (sym e) (read-again s who r v key p needs may whole reads_of _ (inr (inl refl)))
  want-again y same_keys w (inr (inr (inl (k, has, e)))) = subst (λ x. In x p.again) (sym e) (read-again s who r v key p needs may whole reads_of (key_bytes k) (inr (inr (inl (k, has, refl)))))
  want-again y same_keys w (inr (inr (inr h))) =
      let k = follows-key r who.session y w may.sequence h in
      let still = follows-still s who v key p y agrees same_keys r needs may whole reads_of parent_seen may.sequence w h in
      subst (λ x. In x p.again) (sym k.1) (read-again s who r v key p needs may whole reads_of k.0 (inr (inr (inr (subst (Follows r who.session (guessed v key)) k.1 still)))))

  -- Where the parent's record was seen before the guess, nothing is lacking then.
  pub guess-reads_all : ReadsAll s who r 0 p
  guess-reads_all z parts long same_keys = (λ ws left. go ws left, parent-again s who r v key p needs may whole reads_of z parts long)
    where
      y : View
      y = viewed z p.again parts

      go : (ws : List Want) → AreNeeds r who y ws → ws ≡ []
      go [] left = refl
      go (w ∷ ws) left =
          let h = left.only w (0, omega arith, refl) in
          absurd (wanted-shown (at_revision empty_view z) p.again parts w long (in_contains w p.again (want-again y same_keys w h.0)) h.1)
