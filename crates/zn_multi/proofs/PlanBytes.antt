-- The plan of a multi on a view of a sound state is small enough for an etcd.
use Rattle.std.proofs.Common.{◌<◌, ◌^◌, ◌≡◌, ℕ, ℤ, pos, ◌+◌, ◌*◌, ◌≤◌, Bool, true, false, length, List, [], ◌∷◌, ◌++◌, map, Option, Some, None, refl, sym, ap, ◌∙◌, subst, inl, inr, arith}
use Rattle.std.specs.Prelude.{◌≤ℤ◌, All, MatchOption, not, nat_abs, if◌then◌else◌}
use Rattle.std.specs.List.{sum_by}
use Rattle.std.specs.Ordering.{int_eq}
use Rattle.std.proofs.lemmas.Bool.{and_parts}
use Rattle.std.proofs.lemmas.Int.{ints}
use Rattle.std.proofs.lemmas.List.{length-append, length-map}
use Rattle.std.proofs.lemmas.List.Elements.{All-append, All-cons, All-contains, All-head, All-map, All-nil, All-tail, All-weaker}
use Rattle.std.proofs.lemmas.List.Sums.{sum_by-cons}
use Rattle.ev_types.specs.declared.ask.Act.{Act}
use Rattle.ev_types.specs.Sizes.{IsSendable, act_size, guard_size}
use Rattle.zk_model.specs.declared.node.Trigger.{Trigger}
use Rattle.zk_model.specs.declared.request.Part.{Part}
use Rattle.zk_model.specs.declared.request.Part.TheVariants as part
use Rattle.zk_model.specs.Limits.{max_load, max_parts}
use Rattle.zk_model.specs.Multi.{data_len, distinct}
use Rattle.zk_model.specs.PathFaults.{is_valid}
use Rattle.zk_model.specs.Paths.{is_path, parent, root, sequence_path}
use Rattle.zk_model.specs.Single.{form_refusal, is_ephemeral, is_sequential, named, path_refusal}
use Rattle.zk_model.specs.Znodes.{owned}
use Rattle.zk_model.proofs.SequencePaths.{sequence-valid}
use Rattle.zk_model.proofs.ValidPaths.{parent-valid}
use Rattle.zk_service.specs.States.{State, Session, IsSound, session_at}
use Rattle.zx_base.specs.Maps.{Bytes, same}
use Rattle.zx_base.proofs.Options.{some_none}
use Rattle.zn_layout.specs.Changes.{KeyChange, Put, change_size, head_put, last, put_size, update_acts}
use Rattle.zn_layout.specs.Fits.{KeyFits, left}
use Rattle.zn_layout.specs.Keys.{Key, HeadKey, DataKey, CountsKey, SessionKey, LeaseKey, key_bytes}
use Rattle.zn_layout.specs.Records.{IsHeadRec}
use Rattle.zn_layout.specs.StandsFor.{NodesMean, nodes_record}
use Rattle.zn_layout.specs.Updates.{update_txn}
use Rattle.zn_layout.proofs.Denials.{update-sendable}
use Rattle.zn_layout.proofs.Paths.{path_short}
use Rattle.zn_view.specs.declared.plan.Plan.{Plan}
use Rattle.zn_view.specs.declared.plan.Who.{Who}
use Rattle.zn_view.specs.declared.snapshot.SeenKey.{SeenKey}
use Rattle.zn_view.specs.Asks.{again_of, guards_of, picked, plan_txn, ranges_of}
use Rattle.zn_view.specs.Seen.{View}
use Rattle.zn_view.specs.Views.{IsSmallPlan, about_parent, about_path, counts_of_parent}
use Rattle.zn_view.proofs.Members.{In, in_contains}
use Rattle.zn_view.proofs.Narrowing.{picked-each}
use Rattle.zn_view.proofs.PlanSizes.{picked-length}
use Rattle.zn_view.proofs.Sizes.{again-length, again-short, counts-size, data-size, guards-length, guards-short, head-size, head_put-size, life-size, owned-most, sum_by-most}
use Rattle.zn_updates.specs.KeysRead.{owner_nodes, plain_data, session_nodes, start_keys}
use Rattle.zn_updates.specs.Layers.{Shows}
use Rattle.zn_updates.specs.Parts.{plain_size, size_beside, IsNarrower}
use Rattle.zn_updates.specs.Right.{with_tree}
use Rattle.zn_updates.proofs.Clauses.{IsShortKey}
use Rattle.zn_updates.proofs.CreateClauses.{own-short, parent_is_valid, plain-short}
use Rattle.zn_updates.proofs.DeleteClauses.{owner_few, owner_short}
use Rattle.zn_updates.proofs.Forms.{create_path_valid, delete_refusal, set_refusal}
use Rattle.zn_updates.proofs.Meanings.{of_abs}
use Rattle.zn_updates.proofs.PartChoices.{check_refusal}
use Rattle.zn_multi.specs.Carrying.{no_progress, Runs}
use Rattle.zn_multi.specs.Deciding.{read_keys}
use Rattle.zn_multi.specs.Laying.{written}
use Rattle.zn_multi.specs.Leading.{LeadsTo}
use Rattle.zn_layout.specs.declared.record.CountRec.{CountRec}
use Rattle.zn_view.specs.declared.leaving.TreeChange.{TreeChange}
use Rattle.zn_view.specs.Leaving.{node_path}
use Rattle.zn_multi.specs.Reading.{create_reads, delete_reads, sequence_data, AreRead, AreReadFrom, IsFormedRead, IsReadBy, Left}
use Rattle.zn_multi.specs.declared.carrying.Carried.TheVariants.{Passed}
use Rattle.zn_multi.specs.declared.carrying.Progress.{Progress}
use Rattle.zn_multi.proofs.Needs.{once_few, once_only}
use Rattle.zn_multi.proofs.Owning.{path_load}
use Rattle.zn_multi.proofs.Runs.{runs_told}
use Rattle.zn_multi.proofs.SessionBytes.{at_session, distinct-few, distinct-has, last-is, nodes-size, of_session, once-counted, sessions-within, touched-few}
use Rattle.zn_multi.proofs.Staying.{IsWritten, Stays}
use Rattle.zn_multi.proofs.Written.{few-written, light-written}

-- ---- the keys that are read

about_few : (o : Option Bytes) → length (about_parent o) ≤ 2
about_few None = omega arith
about_few (Some q) = omega arith

counts_few : (o : Option Bytes) → length (counts_of_parent o) ≤ 1
counts_few None = omega arith
counts_few (Some q) = omega arith

data_few : (b : Bool) (path : Bytes) (node : Option Bytes) → length (plain_data b path) + length (sequence_data b node) ≤ 1
data_few true path None = omega arith
data_few true path (Some p) = omega arith
data_few false path _ = omega arith

nodes_few : (b : Bool) (id : ℤ) → length (session_nodes b id) ≤ 1
nodes_few true id = omega arith
nodes_few false id = omega arith

create_few : (id : ℤ) (path : Bytes) (s e : Bool) (above node : Option Bytes) → length (create_reads id path s e above node) ≤ 4
create_few id path s e above node = omega (
  arith,
  length-append ((about_parent above ++ plain_data s path) ++ session_nodes e id) (sequence_data s node),
  length-append (about_parent above ++ plain_data s path) (session_nodes e id),
  length-append (about_parent above) (plain_data s path),
  about_few above,
  data_few s path node,
  nodes_few e id,
)

delete_few : (p : Bytes) (owner : ℤ) → length (delete_reads p owner) ≤ 4
delete_few p owner = omega (arith, length-append (about_path p ++ counts_of_parent (parent p)) (owner_nodes owner), length-append (about_path p) (counts_of_parent (parent p)), counts_few (parent p), owner_few p (pos 0) owner)

data_short : (p : Bytes) → is_path p ≡ true → IsShortKey (DataKey p)
data_short p valid = omega (arith, data-size p, path_short p valid)

counts_short : (p : Bytes) → is_path p ≡ true → IsShortKey (CountsKey p)
counts_short p valid = omega (arith, counts-size p, path_short p valid)

about_short : (p : Bytes) → is_path p ≡ true → All IsShortKey (about_path p)
about_short p valid = All-cons IsShortKey (DataKey p) (CountsKey p ∷ []) (data_short p valid) (All-cons IsShortKey (CountsKey p) [] (counts_short p valid) (All-nil IsShortKey))

parent_short : (o : Option Bytes) → ((q : Bytes) → o ≡ Some q → is_path q ≡ true) → All IsShortKey (about_parent o)
parent_short None valid = All-nil IsShortKey
parent_short (Some q) valid = about_short q (valid q refl)

above_short : (o : Option Bytes) → ((q : Bytes) → o ≡ Some q → is_path q ≡ true) → All IsShortKey (counts_of_parent o)
above_short None valid = All-nil IsShortKey
above_short (Some q) valid = All-cons IsShortKey (CountsKey q) [] (counts_short q (valid q refl)) (All-nil IsShortKey)

valid_of : (b : Bool) → path_refusal b ≡ None → b ≡ true
valid_of true h = refl
valid_of false h = absurd (some_none h)

module _ (id : ℤ) (v : View) where
  sequence_short : (b : Bool) (path : Bytes) (counts : Option (Option CountRec)) → is_valid b path ≡ true → All IsShortKey (sequence_data b (node_path b path counts))
  sequence_short false path counts valid = All-nil IsShortKey
  sequence_short true path None valid = All-nil IsShortKey
  sequence_short true path (Some None) valid = All-nil IsShortKey
  sequence_short true path (Some (Some c)) valid = All-cons IsShortKey (DataKey (sequence_path path (nat_abs c.creates))) [] (data_short (sequence_path path (nat_abs c.creates)) (sequence-valid path (nat_abs c.creates) valid)) (All-nil IsShortKey)

  formed_few : (left : Left) (p : Part) (own : List Key) (next : Left) → IsFormedRead id v left p own next → length own ≤ 4
  formed_few left (part.Create path d a f) own next h = subst (λ (l : List Key). length l ≤ 4) (sym h.keys) (create_few id path (is_sequential f) (is_ephemeral f) (parent (named f path)) (node_path (is_sequential f) path h.counts))
  formed_few left (part.Delete path x) own next h = subst (λ (l : List Key). length l ≤ 4) (sym h.keys) (delete_few path h.owner)
  formed_few left (part.SetData path d x) own next h = subst (λ (l : List Key). length l ≤ 4) (sym h.0) (omega arith)
  formed_few left (part.Check path x) own next h = subst (λ (l : List Key). length l ≤ 4) (sym h.0) (omega arith)

  formed_short : (left : Left) (p : Part) (own : List Key) (next : Left) → form_refusal p ≡ None → IsFormedRead id v left p own next → All IsShortKey own
  formed_short left (part.Create path d a f) own next form h =
      let valid = create_path_valid path d a f form in
      subst (All IsShortKey) (sym h.keys)
      (All-append IsShortKey ((about_parent (parent (named f path)) ++ plain_data (is_sequential f) path) ++ session_nodes (is_ephemeral f) id) (sequence_data (is_sequential f) (node_path (is_sequential f) path h.counts))
      (All-append IsShortKey (about_parent (parent (named f path)) ++ plain_data (is_sequential f) path) (session_nodes (is_ephemeral f) id)
      (All-append IsShortKey (about_parent (parent (named f path))) (plain_data (is_sequential f) path) (parent_short (parent (named f path)) (λ q up. parent_is_valid path d a f form valid q up)) (plain-short (is_sequential f) path valid))
      (own-short (is_ephemeral f) id))
      (sequence_short (is_sequential f) path h.counts valid))
  formed_short left (part.Delete path x) own next form h =
      let valid = (and_parts (is_path path) (not (same path root)) (valid_of _ (sym (delete_refusal path x _ refl) ∙ form))).0 in
      subst (All IsShortKey) (sym h.keys)
      (All-append IsShortKey (about_path path ++ counts_of_parent (parent path)) (owner_nodes h.owner)
      (All-append IsShortKey (about_path path) (counts_of_parent (parent path)) (about_short path valid) (above_short (parent path) (λ q up. (parent-valid path q valid up).0)))
      (owner_short path (pos 0) h.owner))
  formed_short left (part.SetData path d x) own next form h = subst (All IsShortKey) (sym h.0) (about_short path (valid_of _ (sym (set_refusal path d x _ refl) ∙ form)))
  formed_short left (part.Check path x) own next form h =
      subst (All IsShortKey) (sym h.0) (All-cons IsShortKey (DataKey path) [] (data_short path (valid_of _ (sym (check_refusal path x _ refl) ∙ form))) (All-nil IsShortKey))

  one_few : (left : Left) (p : Part) (own : List Key) (next : Left) → IsReadBy id v left p own next → (length own ≤ 4) × All IsShortKey own
  one_few left p own next h =
      (elim (form_refusal p) as (λ o. form_refusal p ≡ o → MatchOption o (IsFormedRead id v left p own next) (λ code. (own ≡ []) × (next ≡ None)) → (length own ≤ 4) × All IsShortKey own) [
        | None ↦ λ e k. (formed_few left p own next k, formed_short left p own next e k)
        | Some code ↦ λ e k. (subst (λ (l : List Key). length l ≤ 4) (sym k.0) (omega arith), subst (All IsShortKey) (sym k.0) (All-nil IsShortKey))
      ]) refl h

  read_few : (ps : List Part) (left : Left) (ks : List Key) → AreReadFrom id v left ps ks → (length ks ≤ 4 * length ps) × All IsShortKey ks
  read_few [] left ks h = (subst (λ (l : List Key). length l ≤ 0) (sym h) (omega arith), subst (All IsShortKey) (sym h) (All-nil IsShortKey))
  read_few (p ∷ ps) left ks (own, next, rest, one, more, all) =
      let here = one_few left p own next one in
      let later = read_few ps _ rest more in
      let first = here.0 in
      let second = later.0 in
      (subst (λ (l : List Key). length l ≤ 4 * length (p ∷ ps)) (sym all) (omega (arith, length-append own rest, first, second)), subst (All IsShortKey) (sym all) (All-append IsShortKey own rest here.1 later.1))

  keys_short : (ks : List Key) → All IsShortKey ks → All IsShortKey (start_keys id ++ ks)
  keys_short ks all = All-cons IsShortKey HeadKey (LeaseKey (nat_abs id) ∷ ks) (omega (arith, head-size)) (All-cons IsShortKey (LeaseKey (nat_abs id)) ks (omega (arith, life-size (nat_abs id))) all)

  abbrev IsShort : Bytes → Type 0
  IsShort k = length k ≤ 1033

  keys_once : (ks : List Key) → All IsShortKey ks → (k : Bytes) → In k (read_keys id ks) → IsShort k
  keys_once ks all k i = All-contains IsShort (map key_bytes (start_keys id ++ ks)) k (All-map IsShort key_bytes (start_keys id ++ ks) (keys_short ks all)) (in_contains k (map key_bytes (start_keys id ++ ks)) (once_only (map key_bytes (start_keys id ++ ks)) k i))

  keys_few : (ks : List Key) → length (read_keys id ks) ≤ 2 + length ks
  keys_few ks = omega (arith, once_few (map key_bytes (start_keys id ++ ks)), length-map (start_keys id ++ ks) key_bytes)

-- ---- the changes that are written

-- a value's bytes: either they count apart from the lists of sessions' nodes, or the value is such a list
both_sizes : (f : ℕ → ℕ) (c : KeyChange) → ((n : ℕ) → c.key ≡ SessionKey n → put_size c.put ≤ f n) → put_size c.put ≤ plain_size c + of_session f c
both_sizes f c within = at c.key refl
  where
    at : (k : Key) → c.key ≡ k → put_size c.put ≤ size_beside c.key c.put + at_session f c.key
    at HeadKey e = rw e (omega arith)
    at (DataKey p) e = rw e (omega arith)
    at (CountsKey p) e = rw e (omega arith)
    at (LeaseKey n) e = rw e (omega arith)
    at (SessionKey n) e = let h = within n e in rw e (omega (arith, h))

sizes_sum : (f : ℕ → ℕ) (ws : List KeyChange) → All (λ (c : KeyChange). length (key_bytes c.key) ≤ 1033) ws → ((c : KeyChange) (n : ℕ) → In c ws → c.key ≡ SessionKey n → put_size c.put ≤ f n)
    → sum_by change_size ws ≤ 1033 * length ws + sum_by plain_size ws + sum_by (of_session f) ws
sizes_sum f [] all within = omega arith
sizes_sum f (w ∷ ws) all within =
    let rest = sizes_sum f ws (All-tail (λ (c : KeyChange). length (key_bytes c.key) ≤ 1033) w ws all) (λ c n i e. within c n (inr i) e) in
    let key = All-head (λ (c : KeyChange). length (key_bytes c.key) ≤ 1033) w ws all in
    let value = both_sizes f w (λ n e. within w n (inl refl) e) in
    omega (arith, rest, key, value, sum_by-cons change_size w ws, sum_by-cons plain_size w ws, sum_by-cons (of_session f) w ws)

sessions_sum : (f g h : ℕ → ℕ) (ws : List KeyChange) → ((n : ℕ) → f n ≤ g n + h n) → sum_by (of_session f) ws ≤ sum_by (of_session g) ws + sum_by (of_session h) ws
sessions_sum f g h [] le = omega arith
sessions_sum f g h (w ∷ ws) le =
    let rest = sessions_sum f g h ws le in
    let here = at w.key in
    omega (arith, rest, here, sum_by-cons (of_session f) w ws, sum_by-cons (of_session g) w ws, sum_by-cons (of_session h) w ws)
  where
    at : (k : Key) → at_session f k ≤ at_session g k + at_session h k
    at HeadKey = omega arith
    at (DataKey p) = omega arith
    at (CountsKey p) = omega arith
    at (LeaseKey n) = omega arith
    at (SessionKey n) = le n

plus_each : (b : ℕ) (f : ℤ → ℕ) (os : List ℤ) → sum_by (λ (o : ℤ). b + f o) os ≡ b * length os + sum_by f os
plus_each b f [] = omega arith
plus_each b f (o ∷ os) = let rest = plus_each b f os in omega (arith, rest, sum_by-cons (λ (q : ℤ). b + f q) o os, sum_by-cons f o os)

-- ---- the plan

module _ (parts : List Part) (who : Who) (v : View) (now : ℕ) (time : now < 2 ^ 62) (few : length parts ≤ max_parts) (near : View) (narrow : IsNarrower near v) (s : State) (z : ℤ) (sound : IsSound s) (shown : Shows z near s) (x : Session) (opened : session_at who.session s ≡ Some x)
    (p : Progress) (run : Runs who now v no_progress 0 parts (Passed p)) (made : List TreeChange) (st : Stays who now time v near narrow parts s z sound shown x opened made [] p) where
  abbrev id : ℤ
  id = who.session

  abbrev led : LeadsTo id now v parts [] p s z
  led = st.leads

  abbrev ws : List KeyChange
  ws = led.changes

  -- the most bytes of the list of a session's nodes
  abbrev before : ℤ → ℕ
  before o = 245 + path_load s.tree o

  abbrev own_more : ℕ → ℕ
  own_more n = if int_eq id (pos n) then 1024 * st.steps else 0

  abbrev most : ℕ → ℕ
  most n = before (pos n) + own_more n

  all_of : (P : KeyChange → Type 0) (us : List KeyChange) (c : KeyChange) → All P us → In c us → P c
  all_of P [] c all bad = absurd bad
  all_of P (u ∷ us) c all (inl e) = subst P e (All-head P u us all)
  all_of P (u ∷ us) c all (inr i) = all_of P us c (All-tail P u us all) i

  touched_at : (c : KeyChange) (n : ℕ) → In c ws → c.key ≡ SessionKey n → In (pos n) p.touched × ((y : Session) × (session_at (pos n) s ≡ Some y))
  touched_at c n i e =
      let o = (all_of (IsWritten near p.touched) ws c st.written i).nodes n e in
      let known = st.touched o.0 o.1 in
      let least : pos 1 ≤ℤ o.0 = sound.numbered o.0 known.1.0 known.1.1 in
      let same : pos n ≡ o.0 = ap pos o.2 ∙ of_abs o.0 (omega (arith, ints, least)) in
      (subst (λ (k : ℤ). In k p.touched) (sym same) o.1, (known.1.0, ap (λ (k : ℤ). session_at k s) same ∙ known.1.1))

  few_steps : st.steps ≤ max_parts
  few_steps = let spent = st.spent in omega (arith, spent, few)

  value_most : (n : ℕ) (y : Session) → pos 1 ≤ℤ pos n → session_at (pos n) s ≡ Some y → (w : Option Put) → NodesMean (session_at (pos n) s) (owned led.tree (pos n)) (left z w) → put_size w ≤ most n
  value_most n y least there None means = omega arith
  value_most n y least there (Some w) means =
      let nodes = subst (λ (o : Option Session). NodesMean o (owned led.tree (pos n)) (left z (Some w))) there means in
      let value = ap (λ (l : Bytes). length l) nodes.value ∙ nodes-size (nodes_record y (owned led.tree (pos n))) in
      let limited = led.sound.limited (pos n) y there in
      let most_owned = owned-most y.layout in
      let bears = st.bears (pos n) (λ e. omega (arith, ints, least, e)) in
      omega (arith, value, limited, most_owned, bears)

  session_most : (c : KeyChange) (n : ℕ) → In c ws → c.key ≡ SessionKey n → put_size c.put ≤ most n
  session_most c n i e =
      let at = touched_at c n i e in
      let least : pos 1 ≤ℤ pos n = sound.numbered (pos n) at.1.0 at.1.1 in
      let fit : KeyFits z (last ws (SessionKey n)) (SessionKey n) s (with_tree s led.tree) = led.fits.each (SessionKey n) in
      let here : last ws (SessionKey n) ≡ Some c.put = ap (last ws) (sym e) ∙ last-is ws c led.once i in
      value_most n at.1.0 least at.1.1 c.put (subst (λ (o : Option (Option Put)). KeyFits z o (SessionKey n) s (with_tree s led.tree)) here fit)

  sessions_most : (n : ℕ) → n ≡ sum_by (λ (o : ℤ). path_load s.tree o) (distinct p.touched) → sum_by (of_session most) ws ≤ 245 * max_parts + n + 1024 * max_parts
  sessions_most n loads =
      let split = sessions_sum most (λ (k : ℕ). before (pos k)) own_more ws (λ k. omega arith) in
      let first = sessions-within before ws (distinct p.touched) led.once (λ c k i e. distinct-has p.touched [] (pos k) (touched_at c k i e).0) in
      let own = once-counted id (1024 * st.steps) ws led.once in
      let each = plus_each 245 (λ (o : ℤ). path_load s.tree o) (distinct p.touched) in
      let count = distinct-few p.touched [] in
      let touched = touched-few who now v parts no_progress p 0 run in
      let steps = few_steps in
      omega (arith, split, first, own, each, count, touched, steps, loads, few)

  few_changes : length ws ≤ 4 * max_parts
  few_changes = let bound = st.few in omega (arith, bound, few)

  changes_most : (n : ℕ) → n ≡ sum_by (λ (o : ℤ). path_load s.tree o) (distinct p.touched) → sum_by data_len parts + n ≤ max_load → sum_by change_size ws ≤ 1130944
  changes_most n loads low =
      let sizes = sizes_sum most ws (All-short ws st.written) (λ c k i e. session_most c k i e) in
      let plain = st.light in
      let sessions = sessions_most n loads in
      let count = few_changes in
      omega (arith, sizes, plain, sessions, count, low, few)
    where
      All-short : (us : List KeyChange) → All (IsWritten near p.touched) us → All (λ (c : KeyChange). length (key_bytes c.key) ≤ 1033) us
      All-short us all = All-weaker (IsWritten near p.touched) (λ (c : KeyChange). length (key_bytes c.key) ≤ 1033) (λ c h. h.short) us all

  module _ (ks : List Key) (read : AreRead id v parts ks) (plan : Plan) (guards : plan.guards ≡ guards_of (picked v (read_keys id ks))) (again : plan.again ≡ again_of (picked v (read_keys id ks))) (acts : plan.success ≡ update_acts (written v ws) plan.triggers) (told : plan.triggers ≡ p.triggers) (bounds : IsHeadRec p.triggers)
      (n : ℕ) (loads : n ≡ sum_by (λ (o : ℤ). path_load s.tree o) (distinct p.touched)) (low : sum_by data_len parts + n ≤ max_load) where
    abbrev xs : List SeenKey
    xs = picked v (read_keys id ks)

    abbrev reads : List Act
    reads = ranges_of (pos 0) (again_of xs)

    pub plan_small : IsSmallPlan plan
    plan_small =
        let is : update_txn (guards_of xs) (written v ws) plan.triggers reads ≡ plan_txn plan = λ i. record { guards = sym guards i; success = sym acts i; failure = ranges_of (pos 0) (sym again i) } in
        let few_read = (read_few id v parts (Some []) ks read).0 in
        let short_read = (read_few id v parts (Some []) ks read).1 in
        let few_seen : length xs ≤ 4 * max_parts + 2 = omega (arith, picked-length v (read_keys id ks), keys_few id v ks, few_read, few) in
        let short_seen : All (λ (y : SeenKey). length y.key ≤ 1033) xs = picked-each (λ (y : SeenKey). length y.key ≤ 1033) v (read_keys id ks) (λ k o i e. keys_once id v ks short_read k i) in
        let few_guards = guards-length xs in
        let few_again = again-length xs in
        let few_written = few-written v ws in
        let count = few_changes in
        let size_written = light-written change_size v ws in
        let size = changes_most n loads low in
        let head = subst (λ (ts : List Trigger). change_size (head_put ts) ≤ 12 + 1029 * length ts) (sym told) (head_put-size p.triggers bounds) in
        let triggers : length plan.triggers ≤ 2 * max_parts = let bound = (runs_told who now v parts no_progress p 0 run (All-nil _)).1 in omega (arith, ap (λ (ts : List Trigger). length ts) told, bound, few) in
        subst IsSendable is
        (update-sendable (guards_of xs) (written v ws) plan.triggers reads (omega (arith, few_guards, few_seen)) (omega (arith, few_written, count)) (omega (arith, few_again, few_guards, few_seen))
        (omega (
          arith,
          sum_by-most guard_size 1033 (guards_of xs) (guards-short xs short_seen),
          sum_by-most act_size 1033 reads (again-short xs short_seen),
          few_guards,
          few_again,
          few_seen,
          head,
          head-size,
          triggers,
          size_written,
          size,
        )))
