-- Which key is guessed absent, and that a view with the guess lacks nothing, where that key was all that the view lacked.
use Rattle.std.proofs.Common.{◌≡◌, ℕ, ℤ, ◌<◌, refl, sym, ap, ◌∙◌, subst, arith, inl, inr, Bool, true, false, List, [], ◌∷◌, ◌&&◌, not, length, take, ◌⊎◌, ⊎_elim}
use Rattle.std.specs.Prelude.{Option, Some, None}
use Rattle.ev_types.specs.declared.answer.Kv.{Kv}
use Rattle.zk_model.specs.declared.request.Request.{Request}
use Rattle.zk_model.specs.declared.request.Request.TheVariants as req
use Rattle.zk_model.specs.Watches.{no_watches}
use Rattle.zk_service.specs.Answers.{plain_request}
use Rattle.zx_base.specs.Maps.{Bytes, same}
use Rattle.zx_base.proofs.MapLaws.{same-true}
use Rattle.zx_base.proofs.Options.{none_some, some_is}
use Rattle.zn_layout.specs.Keys.{CountsKey, DataKey, key_bytes}
use Rattle.zn_view.specs.Adding.{is_new}
use Rattle.zn_view.specs.Deciding.{IsTaken}
use Rattle.zn_view.specs.declared.plan.Decision.TheVariants.{Planned}
use Rattle.zn_view.specs.declared.plan.Plan.{Plan}
use Rattle.zn_view.specs.declared.plan.Who.{Who}
use Rattle.zn_view.specs.declared.snapshot.SeenKey.{SeenKey}
use Rattle.zn_view.specs.declared.want.Want.{Want}
use Rattle.zn_view.specs.declared.want.Want.TheVariants as want
use Rattle.zn_view.specs.Needs.{AreCreatesSeen, AreNeeds, Follows, IsCreatesSeen, IsLacking, IsRead}
use Rattle.zn_view.specs.Seen.{View, seen}
use Rattle.zn_view.proofs.Elements.{contains-cases, empty-contains}
use Rattle.zn_view.proofs.Placed.{seen_in-placed_other, seen_in-placed_same}
use Rattle.zn_updates.specs.Deciding.{IsTakenIfCreate}
use Rattle.zp_step.specs.declared.action.Action.{Action}
use Rattle.zp_step.specs.Looking.{Looks, MayGuess, asks_for, decided, guessed, is_node_key, makes_sequence, max_ranges, PassesOver}
use Rattle.zp_step.specs.Replies.{Is}
use Rattle.zp_step.specs.Stages.{Core}
use Rattle.zp_core.specs.Guessing.{GuessesAt, GuessesOn, may_guess}
use Rattle.zp_core.specs.declared.guesses.Guess.{Guess}

-- ---- whether a key is guessed

pub may-guess : (r : Request) (v : View) (key : Bytes) → may_guess r v key ≡ true → MayGuess r v key
may-guess r v key h = go (makes_sequence r) (is_new v) (is_node_key key) refl refl refl h
  where
    go : (a b c : Bool) → makes_sequence r ≡ a → is_new v ≡ b → is_node_key key ≡ c → (a && not b) && c ≡ true → MayGuess r v key
    go true false true made begun node e = record { sequence = made; begun = begun; record_of_node = node }
    go true true c made begun node e = absurd (cc)
    go true false false made begun node e = absurd (cc)
    go false b c made begun node e = absurd (cc)

-- the key of a node's counts is no key of a node's record
no_node_key : (q : Bytes) → is_node_key (key_bytes (CountsKey q)) ≡ false
unfolding key_bytes
no_node_key q = refl

-- ---- what such a view saw

module _ (v : View) (key : Bytes) where
  abbrev absent : SeenKey
  absent = record { key = key; found = None }

  guessed-seen : seen (guessed v key) key ≡ Some None
  guessed-seen = seen_in-placed_same absent v.keys

  -- what it found was found before
  found-before : (k : Bytes) (kv : Kv) → seen (guessed v key) k ≡ Some (Some kv) → seen v k ≡ Some (Some kv)
  found-before k kv e = go (same key k) refl
    where
      go : (b : Bool) → same key k ≡ b → seen v k ≡ Some (Some kv)
      go true t = absurd (none_some (some_is (sym guessed-seen ∙ ap (λ (q : Bytes). seen (guessed v key) q) (same-true key k t) ∙ e)))
      go false t = sym (seen_in-placed_other absent v.keys k t) ∙ e

  -- a key that it lacks was lacking before
  lacking-before : (k : Bytes) → seen (guessed v key) k ≡ None → seen v k ≡ None
  lacking-before k e = go (same key k) refl
    where
      go : (b : Bool) → same key k ≡ b → seen v k ≡ None
      go true t = absurd (none_some (sym e ∙ ap (λ (q : Bytes). seen (guessed v key) q) (sym (same-true key k t)) ∙ guessed-seen))
      go false t = sym (seen_in-placed_other absent v.keys k t) ∙ e

  -- a record of counts that it saw to be absent was seen to be so before, since a node's record is guessed
  absent-before : is_node_key key ≡ true → (q : Bytes) → seen (guessed v key) (key_bytes (CountsKey q)) ≡ Some None → seen v (key_bytes (CountsKey q)) ≡ Some None
  absent-before node q e = go (same key (key_bytes (CountsKey q))) refl
    where
      go : (b : Bool) → same key (key_bytes (CountsKey q)) ≡ b → seen v (key_bytes (CountsKey q)) ≡ Some None
      go true t = let both : true ≡ false = sym node ∙ ap is_node_key (same-true key (key_bytes (CountsKey q)) t) ∙ no_node_key q in absurd (cc)
      go false t = sym (seen_in-placed_other absent v.keys (key_bytes (CountsKey q)) t) ∙ e

  creates-before : is_node_key key ≡ true → (q : Bytes) (n : ℕ) → IsCreatesSeen (guessed v key) q (Some n) → IsCreatesSeen v q (Some n)
  creates-before node q n = go (seen (guessed v key) (key_bytes (DataKey q))) (seen (guessed v key) (key_bytes (CountsKey q))) refl refl
    where
      go : (d c : Option (Option Kv)) → seen (guessed v key) (key_bytes (DataKey q)) ≡ d → seen (guessed v key) (key_bytes (CountsKey q)) ≡ c → AreCreatesSeen d c (Some n) → IsCreatesSeen v q (Some n)
      go d None e f is = absurd (cc)
      go d (Some (Some kv)) e f is = subst (λ (o : Option (Option Kv)). AreCreatesSeen (seen v (key_bytes (DataKey q))) o (Some n)) (sym (found-before (key_bytes (CountsKey q)) kv f)) is
      go (Some (Some kv)) (Some None) e f is = subst (λ (o : Option (Option Kv)). AreCreatesSeen o (seen v (key_bytes (CountsKey q))) (Some n)) (sym (found-before (key_bytes (DataKey q)) kv e))
          (subst (λ (o : Option (Option Kv)). AreCreatesSeen (Some (Some kv)) o (Some n)) (sym (absent-before node q f)) is)
      go (Some None) (Some None) e f is = absurd (cc)
      go None (Some None) e f is = absurd (cc)

  -- ---- what a create reads

  follows-before : (r : Request) (id : ℤ) (w : Want) → makes_sequence r ≡ true → is_node_key key ≡ true → Follows r id (guessed v key) w → Follows r id v w
  follows-before (req.Create p d a f) id w made node (t, q, up, n, saw, is) = (t, q, up, n, creates-before node q n saw, is)
  follows-before (req.Create2 p d a f) id w made node (t, q, up, n, saw, is) = (t, q, up, n, creates-before node q n saw, is)
  follows-before _ id w made node h = absurd (cc)

  read-before : (r : Request) (who : Who) (w : Want) → makes_sequence r ≡ true → is_node_key key ≡ true → IsRead r who (guessed v key) w → IsRead r who v w
  read-before r who w made node (inl e) = inl e
  read-before r who w made node (inr (inl e)) = inr (inl e)
  read-before r who w made node (inr (inr (inl e))) = inr (inr (inl e))
  read-before r who w made node (inr (inr (inr f))) = inr (inr (inr (follows-before r who.session w made node f)))

  -- a create lists no children
  no-children : (r : Request) (who : Who) (u : View) (p : Bytes) → makes_sequence r ≡ true → IsRead r who u (want.Children p) → ⊥
  no-children r who u p made (inl e) = absurd (cc)
  no-children r who u p made (inr (inl e)) = absurd (cc)
  no-children r who u p made (inr (inr (inl (k, has, e)))) = absurd (cc)
  no-children (req.Create path d a f) who u p made (inr (inr (inr (t, q, up, counts, saw, e)))) = absurd (cc)
  no-children (req.Create2 path d a f) who u p made (inr (inr (inr (t, q, up, counts, saw, e)))) = absurd (cc)
  no-children _ who u p made (inr (inr (inr f))) = absurd (cc)

  none-lacking : (r : Request) (who : Who) → makes_sequence r ≡ true → is_node_key key ≡ true → AreNeeds r who v (want.Key key ∷ []) → plain_request no_watches r ≡ None → (w : Want) → IsRead r who (guessed v key) w → IsLacking (guessed v key) w → ⊥
  none-lacking r who made node needs plain (want.Key k) read lacks = ⊎_elim
      (λ e. let seen = guessed-seen in absurd (cc))
      (λ h. empty-contains [] (want.Key k) refl h)
      (contains-cases (want.Key key) [] (want.Key k) (needs.all plain (want.Key k) (read-before r who (want.Key k) made node read) (lacking-before k lacks)))
  none-lacking r who made node needs plain (want.Children p) read lacks = no-children r who (guessed v key) p made read

  pub guess-whole : (r : Request) (who : Who) → makes_sequence r ≡ true → is_node_key key ≡ true → AreNeeds r who v (want.Key key ∷ []) → AreNeeds r who (guessed v key) []
  guess-whole r who made node needs = record {
    only = λ w c. absurd (empty-contains [] w refl c);
    enough = λ none plain w read lacks. none-lacking r who made node needs plain w read lacks;
    all = λ plain w read lacks. absurd (none-lacking r who made node needs plain w read lacks);
    once = λ i j d less within. absurd (omega (arith, within));
    none = λ t plain. refl;
  }

-- an etcd takes the plan of such a create
pub taken-made : (r : Request) (p : Plan) → makes_sequence r ≡ true → IsTakenIfCreate r p → IsTaken p
taken-made (req.Create path d a f) p made h = h
taken-made (req.Create2 path d a f) p made h = h
taken-made _ p made h = absurd (cc)

-- a plan on the one key that is lacking, or none
pub guesses-on : (r : Request) (who : Who) (now : ℕ) (v : View) (key : Bytes) (ws : List Want) (o : Option Guess) → ws ≡ want.Key key ∷ [] → MayGuess r v key → GuessesAt r who now v key o → GuessesOn r who now v ws o
guesses-on r who now v key ws (Some g) only may h = (key, only, may, h)
guesses-on r who now v key ws None only may h = λ other is also. let same : key ≡ other = cc in subst (λ (k : Bytes). PassesOver r who (guessed v k)) same h

-- ---- what is done

module _ (c : Core) (xid : ℤ) (r : Request) (v : View) (now : ℕ) (ws : List Want) (needs : AreNeeds r c.who v ws) (c' : Core) (out : List Action) where
  pub looks-guessed : (g : Guess) → GuessesOn r c.who now v ws (Some g) → Is (decided c xid r g.view now (Planned g.plan)) c' out → Looks c xid r v now c' out
  looks-guessed g (key, only, may, on) i =
      inr (inl (record {
        key = key;
        needs = subst (AreNeeds r c.who v) only needs;
        may = may;
        plan = g.plan;
        whole = on.planned.whole;
        tested = on.planned.tested;
        right = on.planned.right;
        backed = on.planned.backed;
        taken = on.taken;
        is = subst (λ (u : View). Is (decided c xid r u now (Planned g.plan)) c' out) on.on i;
      }))

  pub looks-asked : 0 < length ws → GuessesOn r c.who now v ws None → Is (asks_for c xid r v (take max_ranges ws)) c' out → Looks c xid r v now c' out
  looks-asked some unguessed i = inl (record { lacking = ws; needs = needs; some = λ e. omega (arith, some, ap (λ (l : List Want). length l) e); unguessed = unguessed; is = i })
