-- What a request reads has so many places, of which each takes one key or one listing. A view that asks for something that is
-- lacking fills one more of them, whatever the answers show: so a request asks only so often before nothing is lacking.
use Rattle.std.proofs.Common.{◌≡◌, ℕ, zero, suc, ◌+◌, ◌*◌, ◌<◌, ◌≤◌, List, [], ◌∷◌, ◌++◌, length, refl, sym, ap, ◌∙◌, subst, arith, Bool, true, false, ℤ, inl, inr}
use Rattle.std.specs.Prelude.{Contains, Option, Some, None, ◌⊎◌, ◌≢◌, if◌then◌else◌, is_some, map, nat_abs, slice_get, take}
use Rattle.std.specs.List.{flat_map}
use Rattle.std.proofs.lemmas.List.{length-append, length-map}
use Rattle.ev_types.specs.declared.answer.ActAns.{ActAns}
use Rattle.ev_types.specs.declared.answer.Kv.{Kv}
use Rattle.zk_model.specs.Paths.{is_path, parent, sequence_path, with_one}
use Rattle.zk_model.specs.Single.{form_refusal, is_ephemeral, is_sequential, named}
use Rattle.zk_model.specs.declared.request.Part.{Part}
use Rattle.zk_model.specs.declared.request.Part.TheVariants as part
use Rattle.zk_model.specs.declared.request.Request.{Request}
use Rattle.zk_model.specs.declared.request.Request.TheVariants as req
use Rattle.zx_base.proofs.Options.{none_some, some_is}
use Rattle.zx_base.specs.Maps.{Bytes}
use Rattle.zn_layout.proofs.ListRecords.{session_value-injective}
use Rattle.zn_layout.proofs.Nodes.{counts_value-injective, node_value-injective}
use Rattle.zn_layout.specs.Keys.{Key, CountsKey, DataKey, SessionKey, key_bytes}
use Rattle.zn_layout.specs.Records.{node_value, session_value}
use Rattle.zn_layout.specs.declared.record.CountRec.{CountRec}
use Rattle.zn_layout.specs.declared.record.NodeRec.{NodeRec}
use Rattle.zn_layout.specs.declared.record.SessionRec.{SessionRec}
use Rattle.zn_view.proofs.LeftOnViews.{counts_still, left_still}
use Rattle.zn_view.proofs.Members.{In, contains_in, in_left, in_mapped, in_right}
use Rattle.zn_view.proofs.SeenAfter.{listed-with_parts, seen-with_parts, wanted-shown}
use Rattle.zn_view.proofs.Sizes.{owned-most}
use Rattle.zn_view.specs.Adding.{at_revision, is_new}
use Rattle.zn_view.specs.Asks.{head_want, with_parts}
use Rattle.zn_view.specs.declared.leaving.TreeChange.{TreeChange}
use Rattle.zn_view.specs.Leaving.{AreCountsNow}
use Rattle.zn_view.specs.Needs.{AreNeeds, Follows, FollowsFrom, FollowsOwner, FollowsPart, IsLacking, IsRead, SawNode, SawNodes, SawValue, AreCreatesSeen, IsCreatesSeen, key_want, life_want}
use Rattle.zn_view.specs.Seen.{View, listed, seen}
use Rattle.zn_view.specs.Views.{about_parent, about_path, counts_of_parent, own_data, own_nodes, part_keys, part_reads, reads, valid}
use Rattle.zn_view.specs.declared.plan.Who.{Who}
use Rattle.zn_view.specs.declared.want.Want.{Want}
use Rattle.zn_view.specs.declared.want.Want.TheVariants as want
use Rattle.zs_reap.specs.Steps.{AreFewOwned}
use Rattle.zp_step.specs.Looking.{makes_sequence, max_ranges}
use Rattle.zp_settle_laws.specs.Looks.{looks}
use Rattle.zx_base.proofs.Lists.{filter-length}

-- ---- a view that sees more

-- what was seen is seen still
pub record Extends (v u : View) : Type 0 where
  pub keys : (k : Bytes) (o : Option Kv) → seen v k ≡ Some o → seen u k ≡ Some o
  pub lists : (p : Bytes) (ps : List Bytes) → listed v p ≡ Some ps → listed u p ≡ Some ps

extends-self : (v : View) → Extends v v
extends-self v = record { keys = λ k o h. h; lists = λ p ps h. h }

extends-then : (v u t : View) → Extends v u → Extends u t → Extends v t
extends-then v u t a b = record { keys = λ k o h. b.keys k o (a.keys k o h); lists = λ p ps h. b.lists p ps (a.lists p ps h) }

-- the view with a round more
abbrev pub view_on : View → ℤ → List Want → List ActAns → View
view_on v z ws parts = with_parts (at_revision v z) ws parts

revised-seen : (v : View) (z : ℤ) → Extends v (at_revision v z)
revised-seen v z = go (is_new v)
  where
    go : (b : Bool) → Extends v (if b then record v { revision = z } else v)
    go true = record { keys = λ k o h. h; lists = λ p ps h. h }
    go false = extends-self v

extends-on : (v : View) (z : ℤ) (ws : List Want) (parts : List ActAns) → Extends v (view_on v z ws parts)
extends-on v z ws parts =
    let r = revised-seen v z in
    record { keys = λ k o h. seen-with_parts (at_revision v z) ws parts k o (r.keys k o h); lists = λ p ps h. listed-with_parts (at_revision v z) ws parts p ps (r.lists p ps h) }

-- what is lacking still was lacking before
lacks-before : (v u : View) (w : Want) → Extends v u → IsLacking u w → IsLacking v w
lacks-before v u (want.Key k) x h = go (seen v k) refl
  where
    go : (o : Option (Option Kv)) → seen v k ≡ o → seen v k ≡ None
    go None e = e
    go (Some f) e = absurd (none_some (sym h ∙ x.keys k f e))
lacks-before v u (want.Children p) x h = go (listed v p) refl
  where
    go : (o : Option (List Bytes)) → listed v p ≡ o → listed v p ≡ None
    go None e = e
    go (Some f) e = absurd (none_some (sym h ∙ x.lists p f e))

-- ---- the parent of a sequence node

-- the parent below which a sequence node is made
abbrev pub sequence_parent : Request → Option Bytes
sequence_parent (req.Create p d a f) = if is_sequential f then parent (with_one p) else None
sequence_parent (req.Create2 p d a f) = if is_sequential f then parent (with_one p) else None
sequence_parent _ = None

-- that parent's record was looked up, if there is such a parent
abbrev pub SawParent : Request → View → Type 0
SawParent r v = (q : Bytes) → sequence_parent r ≡ Some q → IsLacking v (key_want (DataKey q)) → ⊥

pub parent-on : (r : Request) (v : View) (z : ℤ) (ws : List Want) (parts : List ActAns) → SawParent r v → SawParent r (view_on v z ws parts)
parent-on r v z ws parts saw = λ q up lacks. saw q up (lacks-before v (view_on v z ws parts) (key_want (DataKey q)) (extends-on v z ws parts) lacks)

-- ---- the nodes of a session

-- they are few, where the request reads by them: a closeSession alone does
abbrev pub IsFewFor : Request → ℤ → View → Type 0
IsFewFor req.Close id v = AreFewOwned id v
IsFewFor _ id v = Unit {0}

-- a sequence node's create reads by no session's nodes
pub few-sequence : (r : Request) (id : ℤ) (v : View) → makes_sequence r ≡ true → IsFewFor r id v
few-sequence (req.Create p d a f) id v h = tt
few-sequence (req.Create2 p d a f) id v h = tt
few-sequence _ id v h = absurd (cc)

pub few-for : (r : Request) (id : ℤ) (v : View) → AreFewOwned id v → IsFewFor r id v
few-for req.Close id v few = few
few-for _ id v few = tt

-- ---- what follows from a view follows from one that sees more

saw-same : (v u : View) (k : Key) (a b : Bytes) → Extends v u → SawValue v k a → SawValue u k b → a ≡ b
saw-same v u k a b x (kv, s, is) (kv', s', is') =
    let same_kv : kv ≡ kv' = some_is (some_is (sym (x.keys (key_bytes k) (Some kv) s) ∙ s')) in
    sym is ∙ ap (λ (y : Kv). y.value) same_kv ∙ is'

node-same : (v u : View) (p : Bytes) (a b : NodeRec) → Extends v u → SawNode v p a → SawNode u p b → a ≡ b
node-same v u p a b x h k = node_value-injective a b h.0 k.0 (saw-same v u (DataKey p) (node_value a) (node_value b) x h.1 k.1)

-- the creates that were seen are seen still
creates-still : (a b a' b' : Option (Option Kv)) (n m : ℕ) → ((o : Option Kv) → a ≡ Some o → a' ≡ Some o) → ((o : Option Kv) → b ≡ Some o → b' ≡ Some o) → AreCreatesSeen a b (Some n) → AreCreatesSeen a' b' (Some m) → n ≡ m
creates-still a None a' b' n m own counts h k = absurd (none_some (sym h))
creates-still a (Some (Some kv)) a' b' n m own counts h k =
    let same : AreCreatesSeen a' (Some (Some kv)) (Some m) = subst (λ (o : Option (Option Kv)). AreCreatesSeen a' o (Some m)) (counts (Some kv) refl) k in
    some_is (h.2 ∙ ap (λ (c : CountRec). Some (nat_abs c.creates)) (counts_value-injective h.0 same.0 h.1.0 same.1.0 (sym h.1.1 ∙ same.1.1)) ∙ sym same.2)
creates-still None (Some None) a' b' n m own counts h k = absurd (none_some (sym h))
creates-still (Some None) (Some None) a' b' n m own counts h k = absurd (none_some (sym h))
creates-still (Some (Some kv)) (Some None) a' b' n m own counts h k =
    some_is (h ∙ sym (subst (λ (o : Option (Option Kv) × Option (Option Kv)). AreCreatesSeen o.0 o.1 (Some m)) (λ i. (own (Some kv) refl i, counts None refl i)) k))

creates-same : (v u : View) (p : Bytes) (n m : ℕ) → Extends v u → IsCreatesSeen v p (Some n) → IsCreatesSeen u p (Some m) → n ≡ m
creates-same v u p n m x h k = creates-still (seen v (key_bytes (DataKey p))) (seen v (key_bytes (CountsKey p))) (seen u (key_bytes (DataKey p))) (seen u (key_bytes (CountsKey p))) n m (x.keys (key_bytes (DataKey p))) (x.keys (key_bytes (CountsKey p))) h k

nodes-same : (v u : View) (id : ℤ) (a b : SessionRec) → Extends v u → SawNodes v id a → SawNodes u id b → a ≡ b
nodes-same v u id a b x h k = session_value-injective a b h.0 k.0 (saw-same v u (SessionKey (nat_abs id)) (session_value a) (session_value b) x h.1 k.1)

owner-same : (v u : View) (p : Bytes) (w t : Want) → Extends v u → FollowsOwner v p w → FollowsOwner u p t → w ≡ t
owner-same v u p w t x (a, sa, na, wa) (b, sb, nb, wb) = wa ∙ ap (λ (r : NodeRec). key_want (SessionKey (nat_abs r.owner))) (node-same v u p a b x sa sb) ∙ sym wb

-- ---- what follows for a part of a multi

part-same : (id : ℤ) (v u : View) (before : List Part) (p : Part) (w t : Want) → Extends v u → FollowsPart id v before p w → FollowsPart id u before p t → w ≡ t
part-same id v u before (part.Create path d acl f) w t x (s, changes, l, q, below, c, counted, e) (s', changes', l', q', below', c', counted', e') =
    let same_q : q' ≡ q = some_is (sym below' ∙ below) in
    let same : changes' ≡ changes = some_is (left_still v u x.keys id before changes (Some changes') l l') in
    let there : AreCountsNow u changes q (Some (Some c')) = subst (λ (y : List TreeChange × Bytes). AreCountsNow u y.0 y.1 (Some (Some c'))) (λ i. (same i, same_q i)) counted' in
    let same_c : c' ≡ c = some_is (some_is (counts_still v u x.keys changes q c (Some (Some c')) counted there)) in
    e ∙ ap (λ (y : CountRec). key_want (DataKey (sequence_path path (nat_abs y.creates)))) (sym same_c) ∙ sym e'
part-same id v u before (part.Delete path n) w t x h k = owner-same v u path w t x h k
part-same id v u before (part.SetData path d n) w t x h k = absurd h
part-same id v u before (part.Check path n) w t x h k = absurd h

-- ---- places

pub data Place : Type 0 where
  -- this want
  Fixed : (named : Want) → Place
  -- what follows from the view: of a closeSession by the session's node of this index, of a multi by its part of this index
  After : (index : ℕ) → Place

abbrev FollowsClose : ℤ → View → ℕ → Want → Type 0
FollowsClose id v i w = (r : SessionRec) × (p q : Bytes) × SawNodes v id r × (slice_get r.paths i ≡ Some p) × (parent p ≡ Some q) × (w ≡ key_want (CountsKey q))

abbrev FollowsPartAt : ℤ → View → List Part → List Part → ℕ → Want → Type 0
FollowsPartAt id v before [] i w = ⊥
FollowsPartAt id v before (p ∷ parts) zero w = FollowsPart id v before p w
FollowsPartAt id v before (p ∷ parts) (suc i) w = FollowsPartAt id v (p ∷ before) parts i w

abbrev FollowsAt : Request → ℤ → View → ℕ → Want → Type 0
FollowsAt (req.Create p d a f) id v i w = Follows (req.Create p d a f) id v w
FollowsAt (req.Create2 p d a f) id v i w = Follows (req.Create2 p d a f) id v w
FollowsAt (req.Delete p x) id v i w = FollowsOwner v p w
FollowsAt req.Close id v i w = FollowsClose id v i w
FollowsAt (req.Multi parts) id v i w = FollowsPartAt id v [] parts i w
FollowsAt _ id v i w = ⊥

-- the place takes this want, as the view shows
abbrev Takes : Request → ℤ → View → Place → Want → Type 0
Takes r id v (Fixed named) w = w ≡ named
Takes r id v (After i) w = FollowsAt r id v i w

close-same : (id : ℤ) (v u : View) (i : ℕ) (w t : Want) → Extends v u → FollowsClose id v i w → FollowsClose id u i t → w ≡ t
close-same id v u i w t x (r, p, q, s, at, e, is) (r', p', q', s', at', e', is') =
    let same_nodes : r ≡ r' = nodes-same v u id r r' x s s' in
    let same_p : p ≡ p' = some_is (sym at ∙ ap (λ (y : SessionRec). slice_get y.paths i) same_nodes ∙ at') in
    let same_q : q ≡ q' = some_is (sym e ∙ ap parent same_p ∙ e') in
    is ∙ ap (λ y. key_want (CountsKey y)) same_q ∙ sym is'

part-at-same : (id : ℤ) (v u : View) (before parts : List Part) (i : ℕ) (w t : Want) → Extends v u → FollowsPartAt id v before parts i w → FollowsPartAt id u before parts i t → w ≡ t
part-at-same id v u before [] i w t x h k = absurd h
part-at-same id v u before (p ∷ parts) zero w t x h k = part-same id v u before p w t x h k
part-at-same id v u before (p ∷ parts) (suc i) w t x h k = part-at-same id v u (p ∷ before) parts i w t x h k

create-same : (p d : Bytes) (a : List _) (f id : ℤ) (v u : View) (w t : Want) → Extends v u → Follows (req.Create p d a f) id v w → Follows (req.Create p d a f) id u t → w ≡ t
create-same p d a f id v u w t x (s, q, e, n, saw, is) (s', q', e', m, saw', is') =
    let same_q : q ≡ q' = some_is (sym e ∙ e') in
    let same_n : n ≡ m = creates-same v u q n m x saw (subst (λ y. IsCreatesSeen u y (Some m)) (sym same_q) saw') in
    is ∙ ap (λ (k : ℕ). key_want (DataKey (sequence_path p k))) same_n ∙ sym is'

after-same : (r : Request) (id : ℤ) (v u : View) (i : ℕ) (w t : Want) → Extends v u → FollowsAt r id v i w → FollowsAt r id u i t → w ≡ t
after-same (req.Create p d a f) id v u i w t x h k = create-same p d a f id v u w t x h k
after-same (req.Create2 p d a f) id v u i w t x h k = create-same p d a f id v u w t x h k
after-same (req.Delete p n) id v u i w t x h k = owner-same v u p w t x h k
after-same req.Close id v u i w t x h k = close-same id v u i w t x h k
after-same (req.Multi parts) id v u i w t x h k = part-at-same id v u [] parts i w t x h k
after-same _ id v u i w t x h k = absurd h

-- it takes one want alone
takes-same : (r : Request) (id : ℤ) (v u : View) (s : Place) (w t : Want) → Extends v u → Takes r id v s w → Takes r id u s t → w ≡ t
takes-same r id v u (Fixed named) w t x h k = h ∙ sym k
takes-same r id v u (After i) w t x h k = after-same r id v u i w t x h k

-- ---- the places of a request

abbrev listings : Request → List Want
listings (req.GetChildren p x) = want.Children p ∷ []
listings (req.GetChildren2 p x) = want.Children p ∷ []
listings _ = []

abbrev fixed_wants : Request → ℤ → List Want
fixed_wants r id = head_want ∷ life_want id ∷ (map key_want (reads r id) ++ listings r)

-- how much may follow
abbrev follows_most : Request → ℕ
follows_most (req.Create p d a f) = 1
follows_most (req.Create2 p d a f) = 1
follows_most (req.Delete p x) = 1
follows_most req.Close = 60
follows_most (req.Multi parts) = length parts
follows_most _ = 0

abbrev after_places : ℕ → List Place
after_places zero = []
after_places (suc n) = After n ∷ after_places n

abbrev places : Request → ℤ → List Place
places r id = map Fixed (fixed_wants r id) ++ after_places (follows_most r)

after-in : (i n : ℕ) → i < n → In (After i) (after_places n)
after-in i zero lt = absurd (omega (arith, lt))
after-in i (suc n) lt = elim (last i n lt) [ inl e ↦ inl (ap After (sym e)) | inr less ↦ inr (after-in i n less) ]
  where
    last : (i n : ℕ) → i < suc n → (i ≡ n) ⊎ (i < n)
    last i n lt = grind arith

-- where a want that a request reads has its place
record HasPlace (r : Request) (id : ℤ) (v : View) (free : List Place) (w : Want) : Type 0 where
  place : Place
  among : In place free
  takes : Takes r id v place w

fixed-place : (r : Request) (id : ℤ) (v : View) (w : Want) → In w (fixed_wants r id) → HasPlace r id v (places r id) w
fixed-place r id v w h = record { place = Fixed w; among = in_left (Fixed w) (map Fixed (fixed_wants r id)) (after_places (follows_most r)) (in_mapped Fixed w (fixed_wants r id) h); takes = refl }

after-place : (r : Request) (id : ℤ) (v : View) (w : Want) (i : ℕ) → i < follows_most r → FollowsAt r id v i w → HasPlace r id v (places r id) w
after-place r id v w i lt h = record { place = After i; among = in_right (After i) (map Fixed (fixed_wants r id)) (after_places (follows_most r)) (after-in i (follows_most r) lt); takes = h }

-- the index of a part from which something follows
from-part : (id : ℤ) (v : View) (before parts : List Part) (w : Want) → FollowsFrom id v before parts w → (i : ℕ) × (i < length parts) × FollowsPartAt id v before parts i w
from-part id v before [] w h = absurd h
from-part id v before (p ∷ parts) w (inl h) = (zero, omega arith, h.1)
from-part id v before (p ∷ parts) w (inr h) = let t = from-part id v (p ∷ before) parts w h in (suc (t.0), omega (arith, t.1), t.2)

contained-at : (xs : List Bytes) (x : Bytes) → In x xs → (i : ℕ) × (i < length xs) × (slice_get xs i ≡ Some x)
contained-at [] x h = absurd h
contained-at (y ∷ xs) x (inl e) = (zero, omega arith, ap Some e)
contained-at (y ∷ xs) x (inr h) = let t = contained-at xs x h in (suc (t.0), omega (arith, t.1), t.2)

listed-place : (r : Request) (id : ℤ) (v : View) (w : Want) → In w (listings r) → HasPlace r id v (places r id) w
listed-place r id v w h = fixed-place r id v w (inr (inr (in_right w (map key_want (reads r id)) (listings r) h)))

follows-place : (r : Request) (id : ℤ) (v : View) (w : Want) → IsFewFor r id v → Follows r id v w → HasPlace r id v (places r id) w
follows-place (req.Create p d a f) id v w few h = after-place (req.Create p d a f) id v w 0 (omega arith) h
follows-place (req.Create2 p d a f) id v w few h = after-place (req.Create2 p d a f) id v w 0 (omega arith) h
follows-place (req.Delete p x) id v w few h = after-place (req.Delete p x) id v w 0 (omega arith) h
follows-place (req.GetChildren p x) id v w few h = listed-place (req.GetChildren p x) id v w (inl (sym h))
follows-place (req.GetChildren2 p x) id v w few h = listed-place (req.GetChildren2 p x) id v w (inl (sym h))
follows-place req.Close id v w few (r, p, q, saw, has, e, is) =
    let at = contained-at r.paths p (contains_in p r.paths has) in
    let most = few saw.1.0 r saw.1.1 (saw.0, saw.1.2) in
    after-place req.Close id v w at.0 (omega (arith, at.1, most, owned-most r.layout)) (r, p, q, saw, at.2, e, is)
follows-place (req.Multi parts) id v w few h = let t = from-part id v [] parts w h in after-place (req.Multi parts) id v w t.0 t.1 t.2
follows-place _ id v w few h = absurd h

read-place : (r : Request) (who : Who) (v : View) (w : Want) → IsFewFor r who.session v → IsRead r who v w → HasPlace r who.session v (places r who.session) w
read-place r who v w few (inl e) = fixed-place r who.session v w (inl (sym e))
read-place r who v w few (inr (inl e)) = fixed-place r who.session v w (inr (inl (sym e)))
read-place r who v w few (inr (inr (inl (k, has, e)))) =
    fixed-place r who.session v w (inr (inr (in_left w (map key_want (reads r who.session)) (listings r) (subst (λ y. In y (map key_want (reads r who.session))) (sym e) (in_mapped key_want k (reads r who.session) (contains_in k (reads r who.session) has))))))
read-place r who v w few (inr (inr (inr h))) = follows-place r who.session v w few h

-- ---- one place less

abbrev without : (s : Place) (free : List Place) → In s free → List Place
without s [] h = []
without s (x ∷ free) (inl e) = free
without s (x ∷ free) (inr h) = x ∷ without s free h

without-length : (s : Place) (free : List Place) (h : In s free) → length free ≡ length (without s free h) + 1
without-length s [] h = absurd h
without-length s (x ∷ free) (inl e) = omega arith
without-length s (x ∷ free) (inr h) = omega (arith, without-length s free h)

without-other : (s : Place) (free : List Place) (h : In s free) (t : Place) → In t free → (t ≡ s) ⊎ In t (without s free h)
without-other s [] h t k = absurd h
without-other s (x ∷ free) (inl e) t (inl f) = inl (sym f ∙ e)
without-other s (x ∷ free) (inl e) t (inr k) = inr k
without-other s (x ∷ free) (inr h) t (inl f) = inr (inl f)
without-other s (x ∷ free) (inr h) t (inr k) = elim (without-other s free h t k) [ inl e ↦ inl e | inr m ↦ inr (inr m) ]

-- ---- how often it asks

-- whatever the answers show, it asks at most so often from this view on
abbrev pub Ends : Request → Who → ℕ → View → Type 0
Ends r who zero v = (ws : List Want) → AreNeeds r who v ws → ws ≡ []
Ends r who (suc n) v = (ws : List Want) (z : ℤ) (parts : List ActAns) → AreNeeds r who v ws → ws ≢ [] → length (take max_ranges ws) ≤ length parts
    → IsFewFor r who.session (view_on v z (take max_ranges ws) parts) → Ends r who n (view_on v z (take max_ranges ws) parts)

-- what is still lacking has a place that is free
record Open (r : Request) (who : Who) (free : List Place) (v : View) : Type 0 where
  free_for : (u : View) (w : Want) → Extends v u → IsFewFor r who.session u → IsRead r who u w → IsLacking u w → HasPlace r who.session u free w

open-on : (r : Request) (who : Who) (free : List Place) (v u : View) (w : Want) (at : HasPlace r who.session v free w) → Extends v u → (IsLacking u w → ⊥) → Open r who free v → Open r who (without at.place free at.among) u
open-on r who free v u w at x shown o = record {
  free_for = λ t y e few reads lacks. (
      let p = o.free_for t y (extends-then v u t x e) few reads lacks in
      go t y e p lacks (without-other at.place free at.among p.place p.among)
      );
}
  where
    go : (t : View) (y : Want) → Extends u t → (p : HasPlace r who.session t free y) → IsLacking t y → (p.place ≡ at.place) ⊎ In p.place (without at.place free at.among) → HasPlace r who.session t (without at.place free at.among) y
    go t y e p lacks (inr m) = record { place = p.place; among = m; takes = p.takes }
    go t y e p lacks (inl same_place) =
        let takes_it = subst (λ s. Takes r who.session t s y) same_place p.takes in
        let same_want : w ≡ y = takes-same r who.session v t at.place w y (extends-then v u t x e) at.takes takes_it in
        absurd (shown (lacks-before u t w e (subst (IsLacking t) (sym same_want) lacks)))

none-left : (r : Request) (who : Who) (v : View) (free : List Place) (ws : List Want) → free ≡ [] → Open r who free v → IsFewFor r who.session v → AreNeeds r who v ws → ws ≡ []
none-left r who v free [] e o few n = refl
none-left r who v free (w ∷ ws) e o few n =
    let h = n.only w (0, omega arith, refl) in
    let p = o.free_for v w (extends-self v) few h.0 h.1 in
    absurd (subst (λ l. In p.place l) e p.among)

length-none : (free : List Place) → length free ≤ 0 → free ≡ []
length-none [] h = refl
length-none (s ∷ free) h = absurd (omega (arith, h))

open-ends : (r : Request) (who : Who) (n : ℕ) (v : View) (free : List Place) → length free ≤ n → Open r who free v → IsFewFor r who.session v → Ends r who n v
open-ends r who zero v free le o few = λ ws needs. none-left r who v free ws (length-none free le) o few needs
open-ends r who (suc n) v free le o few = λ ws z parts needs some answered few_then. go (λ u rest. open-ends r who n u rest) ws z parts needs some answered few_then
  where
    go : ((u : View) (rest : List Place) → length rest ≤ n → Open r who rest u → IsFewFor r who.session u → Ends r who n u) → (ws : List Want) (z : ℤ) (parts : List ActAns) → AreNeeds r who v ws → ws ≢ [] → length (take max_ranges ws) ≤ length parts
        → IsFewFor r who.session (view_on v z (take max_ranges ws) parts) → Ends r who n (view_on v z (take max_ranges ws) parts)
    go later [] z parts needs some answered few_then = absurd (some refl)
    go later (w ∷ ws) z parts needs some answered few_then =
        let h = needs.only w (0, omega arith, refl) in
        let at = o.free_for v w (extends-self v) few h.0 h.1 in
        let u = view_on v z (take max_ranges (w ∷ ws)) parts in
        let x = extends-on v z (take max_ranges (w ∷ ws)) parts in
        let shown = wanted-shown (at_revision v z) (take max_ranges (w ∷ ws)) parts w answered (0, omega arith, refl) in
        later u (without at.place free at.among) (omega (arith, le, without-length at.place free at.among)) (open-on r who free v u w at x shown o) few_then

-- Where a create of a sequence node lacks nothing but the key of the node, it asks once more at most.
pub sequence-ends : (r : Request) (who : Who) (v : View) → makes_sequence r ≡ true
    → ((w : Want) → (w ≡ head_want) ⊎ (w ≡ life_want who.session) ⊎ ((k : Key) × Contains (reads r who.session) k × (w ≡ key_want k)) → IsLacking v w → ⊥) → Ends r who 1 v
sequence-ends r who v makes shown =
    open-ends r who 1 v (After 0 ∷ []) (omega arith) (record { free_for = λ u w x few read lacks. free-for u w (lacks-before v u w x lacks) read }) (few-sequence r who.session v makes)
  where
    after : (r : Request) (id : ℤ) (u : View) (w : Want) → makes_sequence r ≡ true → Follows r id u w → FollowsAt r id u 0 w
    after (req.Create p d a f) id u w h follows = follows
    after (req.Create2 p d a f) id u w h follows = follows
    after _ id u w h follows = absurd (cc)

    free-for : (u : View) (w : Want) → IsLacking v w → IsRead r who u w → HasPlace r who.session u (After 0 ∷ []) w
    free-for u w lacks (inl e) = absurd (shown w (inl e) lacks)
    free-for u w lacks (inr (inl e)) = absurd (shown w (inr (inl e)) lacks)
    free-for u w lacks (inr (inr (inl k))) = absurd (shown w (inr (inr k)) lacks)
    free-for u w lacks (inr (inr (inr h))) = record { place = After 0; among = inl refl; takes = after r who.session u w makes h }

-- ---- how many places there are

-- So many rounds are the most. A create looks up its own path or, where it makes a sequence node, the path with the next number.
abbrev pub most_rounds : Request → ℕ
most_rounds (req.Create p d a f) = if is_sequential f then 6 else 7
most_rounds (req.Create2 p d a f) = if is_sequential f then 6 else 7
most_rounds r = looks r

create-rounds : (b : Bool) → (if b then 6 else 7) ≤ 7
create-rounds true = omega arith
create-rounds false = omega arith

pub rounds-looked : (r : Request) → most_rounds r ≤ looks r
rounds-looked (req.Create p d a f) = create-rounds (is_sequential f)
rounds-looked (req.Create2 p d a f) = create-rounds (is_sequential f)
rounds-looked _ = omega arith

-- a request that makes no sequence node has no such parent, and one that makes one takes a round less
create-parent : (b : Bool) (o : Option Bytes) (v : View) → ((q : Bytes) → (if b then o else None) ≡ Some q → IsLacking v (key_want (DataKey q)) → ⊥) ⊎ ((if b then 6 else 7) + 1 ≤ 7)
create-parent true o v = inr (omega arith)
create-parent false o v = inl (λ q up lacks. absurd (none_some up))

pub parent-or-less : (r : Request) (v : View) → SawParent r v ⊎ (most_rounds r + 1 ≤ looks r)
parent-or-less (req.Create p d a f) v = create-parent (is_sequential f) (parent (with_one p)) v
parent-or-less (req.Create2 p d a f) v = create-parent (is_sequential f) (parent (with_one p)) v
parent-or-less _ v = inl (λ q up lacks. absurd (none_some up))

if-length : {A : Type 0} (b : Bool) (xs : List A) → length (if b then [] else xs) ≤ length xs
if-length true xs = omega arith
if-length false xs = omega arith

nodes-length : (flags id : ℤ) → length (own_nodes flags id) ≤ 1
nodes-length flags id = go (is_ephemeral flags)
  where
    go : (b : Bool) → length (if b then SessionKey (nat_abs id) ∷ [] else []) ≤ 1
    go true = omega arith
    go false = omega arith

data-length : (flags : ℤ) (p : Bytes) → length (own_data flags p) + 6 ≤ (if is_sequential flags then 6 else 7)
data-length flags p = go (is_sequential flags)
  where
    go : (b : Bool) → length (if b then [] else DataKey p ∷ []) + 6 ≤ (if b then 6 else 7)
    go true = omega arith
    go false = omega arith

parent-length : (o : Option Bytes) → length (about_parent o) ≤ 2
parent-length None = omega arith
parent-length (Some q) = omega arith

count-length : (o : Option Bytes) → length (counts_of_parent o) ≤ 1
count-length None = omega arith
count-length (Some q) = omega arith

paths-length : (ps : List Bytes) → length (flat_map about_path ps) ≡ 2 * length ps
paths-length [] = refl
paths-length (p ∷ ps) = omega (arith, length-append (about_path p) (flat_map about_path ps), paths-length ps)

create-length : (o : Option Bytes) (f id : ℤ) (p : Bytes) → length (about_parent o ++ own_data f p ++ own_nodes f id) + 3 ≤ (if is_sequential f then 6 else 7)
create-length o f id p = omega (arith, length-append (about_parent o ++ own_data f p) (own_nodes f id), length-append (about_parent o) (own_data f p), parent-length o, data-length f p, nodes-length f id)

part-length : (id : ℤ) (p : Part) → length (part_keys id p) ≤ 4
part-length id (part.Create p d a f) = omega (arith, create-length (parent (named f p)) f id p, create-rounds (is_sequential f))
part-length id (part.Delete p n) = omega (arith, count-length (parent p))
part-length id (part.SetData p d n) = omega arith
part-length id (part.Check p n) = omega arith

part-reads-length : (id : ℤ) (p : Part) → length (part_reads id p) ≤ 4
part-reads-length id p = omega (arith, if-length (is_some (form_refusal p)) (part_keys id p), part-length id p)

parts-length : (id : ℤ) (parts : List Part) → length (flat_map (part_reads id) parts) ≤ 4 * length parts
parts-length id [] = omega arith
parts-length id (p ∷ parts) = omega (arith, length-append (part_reads id p) (flat_map (part_reads id) parts), part-reads-length id p, parts-length id parts)

reads-length : (r : Request) (id : ℤ) → 2 + length (reads r id) + length (listings r) + follows_most r ≤ most_rounds r
unfolding reads
reads-length (req.Create p d a f) id = omega (arith, create-length (parent (named f p)) f id p)
reads-length (req.Delete p n) id = omega (arith, count-length (parent p))
reads-length (req.SetData p d n) id = omega arith
reads-length (req.Exists p x) id = omega arith
reads-length (req.GetData p x) id = omega arith
reads-length (req.GetAcl p) id = omega arith
reads-length (req.GetChildren p x) id = omega arith
reads-length (req.GetChildren2 p x) id = omega arith
reads-length (req.Check p n) id = omega arith
reads-length (req.SetWatches since exists datas children) id =
    let a = map DataKey (valid datas) in
    let b = map DataKey (valid exists) in
    let c = flat_map about_path (valid children) in
    omega (arith, length-append (a ++ b) c, length-append a b, length-map (valid datas) DataKey, length-map (valid exists) DataKey, paths-length (valid children), filter-length is_path datas, filter-length is_path exists, filter-length is_path children)
reads-length req.Close id = omega arith
reads-length (req.Sync p) id = omega arith
reads-length req.Ping id = omega arith
reads-length (req.Auth kind scheme auth) id = omega arith
reads-length (req.Multi parts) id = omega (arith, parts-length id parts)
reads-length (req.Create2 p d a f) id = omega (arith, create-length (parent (named f p)) f id p)
reads-length (req.CheckWatches p k) id = omega arith
reads-length (req.RemoveWatches p k) id = omega arith

after-length : (n : ℕ) → length (after_places n) ≡ n
after-length zero = refl
after-length (suc n) = omega (arith, after-length n)

places-length : (r : Request) (id : ℤ) → length (places r id) ≤ most_rounds r
places-length r id =
    omega (arith, length-append (map Fixed (fixed_wants r id)) (after_places (follows_most r)), length-map (fixed_wants r id) Fixed, length-append (map key_want (reads r id)) (listings r), length-map (reads r id) key_want, after-length (follows_most r), reads-length r id)

-- ---- so it ends

pub request-ends : (r : Request) (who : Who) (v : View) → IsFewFor r who.session v → Ends r who (most_rounds r) v
request-ends r who v few = open-ends r who (most_rounds r) v (places r who.session) (places-length r who.session) (record { free_for = λ u w x f reads lacks. read-place r who u w f reads }) few
