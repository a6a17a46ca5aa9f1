-- A view agrees with a store's keys as far as a store answered it.
use Rattle.std.proofs.Common.{◌≡◌, ℕ, ◌≤◌, ℤ, pos, Bool, true, false, refl, sym, ap, ◌∙◌, subst, arith, List, [], ◌∷◌, ◌++◌, length, map, Some}
use Rattle.std.specs.Prelude.{if◌then◌else◌, ◌+ℤ◌}
use Rattle.std.specs.FinMap.{get}
use Rattle.std.specs.Ordering.{int_eq}
use Rattle.std.proofs.lemmas.Bool.Decides.{nat_tests}
use Rattle.std.proofs.lemmas.Int.{ints}
use Rattle.std.proofs.lemmas.List.Elements.{All-nil, All-push}
use Rattle.ev_types.specs.declared.answer.ActAns.{ActAns}
use Rattle.ev_types.specs.declared.answer.ActAns.TheVariants as part
use Rattle.ev_types.specs.declared.answer.Answer.TheVariants as answer
use Rattle.ev_types.specs.declared.ask.Act.{Act}
use Rattle.ev_types.specs.declared.ask.Act.TheVariants as act
use Rattle.ev_types.specs.declared.ask.TxnReq.{TxnReq}
use Rattle.ev_types.specs.Denials.{carry}
use Rattle.ev_types.specs.Ranges.{Keys, found}
use Rattle.ev_types.specs.Store.{Store, Done, acts_applied, acts_from, act_changes, after_changes, chosen, grown, looked_at, one_act, present, revision, store_at, then_done, worked}
use Rattle.ev_types.proofs.Transactions.{acts_from-append, present-worked}
use Rattle.zn_layout.specs.Keys.{HeadKey, key_bytes}
use Rattle.zn_layout.proofs.Applied.{acts_applied-append}
use Rattle.zn_layout.proofs.Commits.{answer-is}
use Rattle.zn_view.specs.declared.plan.Plan.{Plan}
use Rattle.zn_view.specs.declared.snapshot.SeenKey.{SeenKey}
use Rattle.zn_view.specs.declared.snapshot.SeenChildren.{SeenChildren}
use Rattle.zn_view.specs.declared.want.Want.{Want}
use Rattle.zn_view.specs.declared.want.Want.TheVariants as want
use Rattle.zn_view.specs.Asks.{found_in, head_want, kept_under, last_part, paths_in, plan_txn, range_of, ranges_of, reading, transaction, with_part, with_parts, ShowsHead}
use Rattle.zn_view.specs.Laws.{IsShown, IsCarriedOut}
use Rattle.zn_view.specs.Seen.{View, empty_view}
use Rattle.zn_view.specs.Views.{Agrees, children_kept}
use Rattle.ev_types.proofs.Keyed.{AreKeyed, keyed-changes, store-keyed}
use Rattle.zn_view.proofs.Keyed.{key-shown, children-shown}

-- ---- what a list of ranges answers

abbrev part_of : Store → Keys → ℤ → Want → ActAns
part_of s m r w = part.Range (found (range_of r w) (looked_at s m (range_of r w).revision))

ranges_from : (s : Store) (z : ℤ) (m : Keys) (r : ℤ) (ws : List Want) → acts_from s z m (ranges_of r ws) ≡ record { changes = []; parts = map (part_of s m r) ws }
ranges_from s z m r [] = refl
ranges_from s z m r (w ∷ ws) = ap (then_done (one_act s m (act.Range (range_of r w)))) (ranges_from s z m r ws)

worked-ranges : (s : Store) (r : ℤ) (ws : List Want) → worked s (ranges_of r ws) ≡ record { changes = []; parts = map (part_of s (present s) r) ws }
unfolding worked
worked-ranges s r ws = ranges_from s (revision s +ℤ pos 1) (present s) r ws

-- ---- a view with further parts

abbrev KeyAs : Keys → SeenKey → Type 0
KeyAs m x = get m x.key ≡ x.found

abbrev ListAs : Keys → SeenChildren → Type 0
ListAs m x = x.paths ≡ children_kept m x.path

with-one : (s : Store) (m now : Keys) (r : ℤ) (v : View) (w : Want) → AreKeyed m → looked_at s now r ≡ m → Agrees v m → Agrees (with_part v w (part_of s now r w)) m
with-one s m now r v (want.Key k) keyed e a =
    let x : SeenKey = record { key = k; found = kept_under k (found_in (part_of s now r (want.Key k))) } in
    let is : get m k ≡ x.found = sym (ap (λ (n : Keys). kept_under k (found (range_of r (want.Key k)) n).kvs) e ∙ key-shown k r m keyed) in
    record { keys = All-push (KeyAs m) v.keys x a.keys is; lists = a.lists }
with-one s m now r v (want.Children p) keyed e a =
    let x : SeenChildren = record { path = p; paths = paths_in p (found_in (part_of s now r (want.Children p))) } in
    let is : x.paths ≡ children_kept m p = ap (λ (n : Keys). paths_in p (found (range_of r (want.Children p)) n).kvs) e ∙ children-shown p r m keyed in
    record { keys = a.keys; lists = All-push (ListAs m) v.lists x a.lists is }

with-all : (s : Store) (m now : Keys) (r : ℤ) (v : View) (ws : List Want) → AreKeyed m → looked_at s now r ≡ m → Agrees v m → Agrees (with_parts v ws (map (part_of s now r) ws)) m
with-all s m now r v [] keyed e a = a
with-all s m now r v (w ∷ ws) keyed e a = with-all s m now r (with_part v w (part_of s now r w)) ws keyed e (with-one s m now r v w keyed e a)

pub nothing-agrees : (r : ℤ) (m : Keys) → Agrees (record empty_view { revision = r }) m
nothing-agrees r m = record { keys = All-nil (KeyAs m); lists = All-nil (ListAs m) }

-- ---- what was answered

shown-by : (s new : Store) (t : TxnReq) (r z : ℤ) (b : Bool) (ws : List Want) (parts : List ActAns) (v : View) (m : Keys) → chosen b t ≡ ranges_of r ws → AreKeyed m → looked_at s (present s) r ≡ m → Agrees v m
    → new ≡ grown s (worked s (chosen b t)).changes → parts ≡ (worked s (chosen b t)).parts → IsShown s new v ws parts m
shown-by s new t r z b ws parts v m e keyed now a store are =
    let w = ap (worked s) e ∙ worked-ranges s r ws in
    record {
      same = store ∙ ap (λ (d : Done). grown s d.changes) w;
      agrees = subst (λ (ps : List ActAns). Agrees (with_parts v ws ps) m) (sym (are ∙ ap (λ (d : Done). d.parts) w)) (with-all s m (present s) r v ws keyed now a);
    }

-- a view's first round: the present, at the revision of the answer
pub first-shown : (s new : Store) (ws : List Want) (r : ℤ) (b : Bool) (parts : List ActAns) → carry s (reading (pos 0) ws) ≡ Some (new, answer.Txn r b parts)
    → (r ≡ revision new) × IsShown s new (record empty_view { revision = r }) ws parts (present s)
first-shown s new ws r b parts h =
    let t : TxnReq = record { guards = []; success = ranges_of (pos 0) ws; failure = [] } in
    let a = answer-is s new t r b parts h in
    let acts : chosen b t ≡ ranges_of (pos 0) ws = ap (λ (c : Bool). if c then ranges_of (pos 0) ws else []) (sym a.succeeded) in
    (a.revision_is, shown-by s new t (pos 0) r b ws parts (record empty_view { revision = r }) (present s) acts (store-keyed s (length s.revisions)) refl (nothing-agrees r (present s)) a.store a.parts_are)

at-revision : (s : Store) (r : ℤ) (n : ℕ) → r ≡ pos n → 1 ≤ n → looked_at s (present s) r ≡ store_at s n
at-revision s r n e begun =
    let not0 : int_eq (pos n) (pos 0) ≡ false = grind (arith, nat_tests, ints) in
    ap (looked_at s (present s)) e ∙ ap (λ (b : Bool). if b then present s else store_at s n) not0

-- a further round, at the view's revision
pub later-shown : (s new : Store) (v : View) (n : ℕ) (ws : List Want) (r : ℤ) (b : Bool) (parts : List ActAns) → v.revision ≡ pos n → 1 ≤ n → Agrees v (store_at s n) → carry s (reading v.revision ws) ≡ Some (new, answer.Txn r b parts)
    → IsShown s new v ws parts (store_at s n)
later-shown s new v n ws r b parts e begun agrees h =
    let t : TxnReq = record { guards = []; success = ranges_of v.revision ws; failure = [] } in
    let a = answer-is s new t r b parts h in
    let acts : chosen b t ≡ ranges_of v.revision ws = ap (λ (c : Bool). if c then ranges_of v.revision ws else []) (sym a.succeeded) in
    shown-by s new t v.revision r b ws parts v (store_at s n) acts (store-keyed s n) (at-revision s v.revision n e begun) agrees a.store a.parts_are

-- a plan of which a guard doesn't hold
pub again-shown : (s new : Store) (p : Plan) (r : ℤ) (parts : List ActAns) → carry s (transaction p) ≡ Some (new, answer.Txn r false parts)
    → (r ≡ revision new) × IsShown s new (record empty_view { revision = r }) p.again parts (present s)
again-shown s new p r parts h =
    let a = answer-is s new (plan_txn p) r false parts h in
    (a.revision_is, shown-by s new (plan_txn p) (pos 0) r false p.again parts (record empty_view { revision = r }) (present s) refl (store-keyed s (length s.revisions)) refl (nothing-agrees r (present s)) a.store a.parts_are)

-- ---- a plan whose guards hold

keyed-applied : (z : ℤ) (m : Keys) (acts : List Act) → AreKeyed m → AreKeyed (acts_applied z m acts)
keyed-applied z m [] keyed = keyed
keyed-applied z m (a ∷ acts) keyed = keyed-applied z (after_changes z m (act_changes a)) acts (keyed-changes z m (act_changes a) keyed)

last-is : (xs : List ActAns) (a : ActAns) → last_part (xs ++ a ∷ []) ≡ found_in a
last-is [] a = refl
last-is (x ∷ []) a = refl
last-is (x ∷ y ∷ more) a = last-is (y ∷ more) a

-- the last part shows the head as the plan left it
head-last : (s : Store) (acts : List Act) → ShowsHead acts → kept_under (key_bytes HeadKey) (last_part (worked s acts).parts) ≡ get (acts_applied (revision s +ℤ pos 1) (present s) acts) (key_bytes HeadKey)
unfolding worked
head-last s acts (first, e) =
    let z = revision s +ℤ pos 1 in
    let head = ranges_of (pos 0) (head_want ∷ []) in
    let left = acts_applied z (present s) first in
    let one = part_of s left (pos 0) head_want in
    let parts : (acts_from s z (present s) acts).parts ≡ (acts_from s z (present s) first).parts ++ one ∷ [] =
    ap (λ (as' : List Act). (acts_from s z (present s) as').parts) e ∙ ap (λ (d : Done). d.parts) (acts_from-append s z (present s) first head) in
    ap (λ (ps : List ActAns). kept_under (key_bytes HeadKey) (last_part ps)) parts
    ∙ ap (kept_under (key_bytes HeadKey)) (last-is (acts_from s z (present s) first).parts one)
    ∙ key-shown (key_bytes HeadKey) (pos 0) left (keyed-applied z (present s) first (store-keyed s (length s.revisions)))
    ∙ sym (ap (λ (m : Keys). get m (key_bytes HeadKey)) (ap (acts_applied z (present s)) e ∙ acts_applied-append z (present s) first head))

pub carried-out : (s new : Store) (p : Plan) (r : ℤ) (parts : List ActAns) → ShowsHead p.success → carry s (transaction p) ≡ Some (new, answer.Txn r true parts) → IsCarriedOut s new p r parts
carried-out s new p r parts shows h =
    let a = answer-is s new (plan_txn p) r true parts h in
    let keys : present new ≡ acts_applied (revision s +ℤ pos 1) (present s) p.success = ap present a.store ∙ present-worked s p.success in
    record {
      holds = a.succeeded;
      revision_is = a.revision_is;
      keys = keys;
      head = ap (λ (ps : List ActAns). kept_under (key_bytes HeadKey) (last_part ps)) a.parts_are ∙ head-last s p.success shows ∙ sym (ap (λ (m : Keys). get m (key_bytes HeadKey)) keys);
    }
