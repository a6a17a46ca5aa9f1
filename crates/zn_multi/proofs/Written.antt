-- What is written of the keys that were laid: each key once, and what was absent and is absent again not at all.
use Rattle.std.proofs.Common.{◌≡◌, ℕ, ℤ, ◌≤◌, Bool, true, false, cond, not, ◌&&◌, ◌||◌, length, List, [], ◌∷◌, ◌++◌, map, Option, Some, None, refl, sym, ap, ◌∙◌, subst, arith}
use Rattle.std.specs.Prelude.{All, if◌then◌else◌}
use Rattle.std.specs.List.{list_any, sum_by}
use Rattle.std.specs.Option.{option_to_list}
use Rattle.std.proofs.lemmas.Bool.{and_from, true≢false}
use Rattle.std.proofs.lemmas.List.Elements.{All-cons, All-head, All-nil, All-tail}
use Rattle.std.proofs.lemmas.List.Sums.{sum_by-cons}
use Rattle.ev_types.specs.declared.answer.Kv.{Kv}
use Rattle.zk_model.specs.declared.node.Trigger.{Trigger}
use Rattle.zk_service.specs.States.{State, Session, session_at}
use Rattle.zx_base.specs.Maps.{Bytes}
use Rattle.zn_layout.specs.Changes.{KeyChange, Put, act_of, acts_of, are_distinct, head_put, last, put_or_else, writes_key}
use Rattle.zn_layout.specs.Fits.{ChangesFit, KeyFits}
use Rattle.zn_layout.specs.Keys.{Key, HeadKey, DataKey, CountsKey, SessionKey, LeaseKey, key_bytes, same_key}
use Rattle.zn_layout.specs.StandsFor.{CountsMean, DataMeans, LifeMeans, Means, NodesMean, Stored, is_counted_in}
use Rattle.zn_layout.proofs.Keys.{same_key-true}
use Rattle.zk_model.specs.declared.node.Node.{Node}
use Rattle.zk_model.specs.Znodes.{num_children, owned}
use Rattle.std.specs.FinMap.{get}
use Rattle.std.specs.Prelude.{pos}
use Rattle.zn_view.specs.Lookups.{HasSeen}
use Rattle.zn_view.specs.Seen.{View, seen}
use Rattle.zn_updates.specs.Layers.{Shows}
use Rattle.zn_updates.specs.Parts.{IsKeptChange, IsNarrower}
use Rattle.zn_multi.specs.Laying.{is_absent, is_gone, is_written, seen_of, write_of, written, written_acts}
use Rattle.zn_multi.proofs.Laid.{rest_distinct, unwritten}

-- ---- the operations are those of the changes that are written

one_written : (v : View) (k : Key) (put : Option Put) (b : Bool) → is_absent (seen v (key_bytes k)) ≡ b
    → option_to_list (write_of v (seen_of (record { key = k; put = put }))) ≡ (if not (is_gone put && b) then act_of (record { key = k; put = put }) ∷ [] else [])
one_written v k (Some w) b e = refl
one_written v k None true e = ap (λ c. option_to_list (if c then None else Some (act_of (record { key = k; put = None })))) e
one_written v k None false e = ap (λ c. option_to_list (if c then None else Some (act_of (record { key = k; put = None })))) e

pub acts-written : (v : View) (ws : List KeyChange) → written_acts v (map seen_of ws) ≡ acts_of (written v ws)
acts-written v [] = refl
acts-written v (w ∷ ws) =
    (λ i. one_written v w.key w.put (is_absent (seen v (key_bytes w.key))) refl i ++ acts-written v ws i) ∙ at (is_written v w)
  where
    at : (b : Bool) → (if b then act_of w ∷ [] else []) ++ acts_of (written v ws) ≡ acts_of (if b then w ∷ written v ws else written v ws)
    at true = refl
    at false = refl

-- ---- each key once

any-written : (v : View) (k : Key) (ws : List KeyChange) → list_any (writes_key k) ws ≡ false → list_any (writes_key k) (written v ws) ≡ false
any-written v k [] h = refl
any-written v k (w ∷ ws) h = at (any-written v k ws both.1) (is_written v w)
  where
    parts : (a b : Bool) → (a || b) ≡ false → (a ≡ false) × (b ≡ false)
    parts true b e = absurd (true≢false e)
    parts false b e = (refl, e)

    both : (writes_key k w ≡ false) × (list_any (writes_key k) ws ≡ false)
    both = parts (writes_key k w) (list_any (writes_key k) ws) h

    at : list_any (writes_key k) (written v ws) ≡ false → (b : Bool) → list_any (writes_key k) (if b then w ∷ written v ws else written v ws) ≡ false
    at later true = λ i. (both.0 i) || later i
    at later false = later

pub distinct-written : (v : View) (ws : List KeyChange) → are_distinct ws ≡ true → are_distinct (written v ws) ≡ true
distinct-written v [] h = refl
distinct-written v (w ∷ ws) h = at (distinct-written v ws (rest_distinct w ws h).1) (is_written v w)
  where
    at : are_distinct (written v ws) ≡ true → (b : Bool) → are_distinct (if b then w ∷ written v ws else written v ws) ≡ true
    at later true = and_from _ _ (ap not (any-written v w.key ws (rest_distinct w ws h).0)) later
    at later false = later

all-written : (P : KeyChange → Type 0) (v : View) (ws : List KeyChange) → All P ws → All P (written v ws)
all-written P v [] all = All-nil P
all-written P v (w ∷ ws) all = at (all-written P v ws (All-tail P w ws all)) (is_written v w)
  where
    at : All P (written v ws) → (b : Bool) → All P (if b then w ∷ written v ws else written v ws)
    at later true = All-cons P w (written v ws) (All-head P w ws all) later
    at later false = later

-- none is the head's
not_head : (c : KeyChange) → IsKeptChange c → same_key c.key HeadKey ≡ false
not_head c kept = at (same_key c.key HeadKey) refl
  where
    at : (b : Bool) → same_key c.key HeadKey ≡ b → b ≡ false
    at true e = absurd (kept.apart (same_key-true c.key HeadKey e))
    at false e = refl

any_append : (k : Key) (us : List KeyChange) (ts : List Trigger) → same_key k HeadKey ≡ false → list_any (writes_key k) us ≡ false → list_any (writes_key k) (us ++ head_put ts ∷ []) ≡ false
any_append k [] ts apart e = ap (λ b. b || false) apart
any_append k (u ∷ us) ts apart e = at (any_append k us ts apart) (writes_key k u) refl e
  where
    at : (list_any (writes_key k) us ≡ false → list_any (writes_key k) (us ++ head_put ts ∷ []) ≡ false) → (b : Bool) → writes_key k u ≡ b → (b || list_any (writes_key k) us) ≡ false → (writes_key k u || list_any (writes_key k) (us ++ head_put ts ∷ [])) ≡ false
    at later true is bad = absurd (true≢false bad)
    at later false is rest = λ i. (is i) || later rest i

pub distinct-head : (ws : List KeyChange) (ts : List Trigger) → are_distinct ws ≡ true → All IsKeptChange ws → are_distinct (ws ++ head_put ts ∷ []) ≡ true
distinct-head [] ts h kept = refl
distinct-head (w ∷ ws) ts h kept =
    let rest = rest_distinct w ws h in
    and_from _ _ (ap not (any_append w.key ws ts (not_head w (All-head IsKeptChange w ws kept)) rest.0)) (distinct-head ws ts rest.1 (All-tail IsKeptChange w ws kept))

pub kept-written : (v : View) (ws : List KeyChange) → All IsKeptChange ws → All IsKeptChange (written v ws)
kept-written v ws = all-written IsKeptChange v ws

-- none of them is of the head
head-unwritten : (ws : List KeyChange) → All IsKeptChange ws → list_any (writes_key HeadKey) ws ≡ false
head-unwritten [] all = refl
head-unwritten (w ∷ ws) all = λ i. apart (same_key HeadKey w.key) refl i || head-unwritten ws (All-tail IsKeptChange w ws all) i
  where
    apart : (b : Bool) → same_key HeadKey w.key ≡ b → b ≡ false
    apart true e = absurd ((All-head IsKeptChange w ws all).apart (sym (same_key-true HeadKey w.key e)))
    apart false e = refl

pub headless-written : (v : View) (ws : List KeyChange) → All IsKeptChange ws → last (written v ws) HeadKey ≡ None
headless-written v ws all = unwritten HeadKey (written v ws) (head-unwritten (written v ws) (kept-written v ws all))

-- ---- no more, and no larger

pub few-written : (v : View) (ws : List KeyChange) → length (written v ws) ≤ length ws
few-written v [] = omega arith
few-written v (w ∷ ws) = at (few-written v ws) (is_written v w)
  where
    at : length (written v ws) ≤ length ws → (b : Bool) → length (if b then w ∷ written v ws else written v ws) ≤ length (w ∷ ws)
    at h true = omega (arith, h)
    at h false = omega (arith, h)

pub light-written : (f : KeyChange → ℕ) (v : View) (ws : List KeyChange) → sum_by f (written v ws) ≤ sum_by f ws
light-written f v [] = omega arith
light-written f v (w ∷ ws) = at (light-written f v ws) (is_written v w)
  where
    at : sum_by f (written v ws) ≤ sum_by f ws → (b : Bool) → sum_by f (if b then w ∷ written v ws else written v ws) ≤ sum_by f (w ∷ ws)
    at h true = omega (arith, h, sum_by-cons f w (written v ws), sum_by-cons f w ws)
    at h false = omega (arith, h, sum_by-cons f w ws)

-- ---- the last change of a key

abbrev if_written : View → Key → Option (Option Put) → Option (Option Put)
if_written v k None = None
if_written v k (Some (Some w)) = Some (Some w)
if_written v k (Some None) = cond (is_absent (seen v (key_bytes k))) None (Some None)

abbrev at_key : Key → KeyChange → Option (Option Put)
at_key k c = cond (same_key k c.key) (Some c.put) None

last-written : (v : View) (ws : List KeyChange) (k : Key) → are_distinct ws ≡ true → last (written v ws) k ≡ if_written v k (last ws k)
last-written v [] k h = refl
last-written v (w ∷ ws) k h = by_key (last-written v ws k (rest_distinct w ws h).1) (same_key k w.key) refl
  where
    rest : (list_any (writes_key w.key) ws ≡ false) × (are_distinct ws ≡ true)
    rest = rest_distinct w ws h

    or_none : (x : Option (Option Put)) → put_or_else x None ≡ x
    or_none None = refl
    or_none (Some y) = refl

    -- another key
    other : last (written v ws) k ≡ if_written v k (last ws k) → same_key k w.key ≡ false → (b : Bool) → last (if b then w ∷ written v ws else written v ws) k ≡ if_written v k (put_or_else (last ws k) (at_key k w))
    other later e true =
        ap (λ c. put_or_else (last (written v ws) k) (cond c (Some w.put) None)) e ∙ or_none _ ∙ later
        ∙ sym (ap (λ c. if_written v k (put_or_else (last ws k) (cond c (Some w.put) None))) e ∙ ap (if_written v k) (or_none (last ws k)))
    other later e false =
        later ∙ sym (ap (λ c. if_written v k (put_or_else (last ws k) (cond c (Some w.put) None))) e ∙ ap (if_written v k) (or_none (last ws k)))

    -- this key, which no later change is of
    gone_after : k ≡ w.key → last ws k ≡ None
    gone_after e = unwritten k ws (subst (λ (x : Key). list_any (writes_key x) ws ≡ false) (sym e) rest.0)

    gone_written : k ≡ w.key → last (written v ws) k ≡ None
    gone_written e = unwritten k (written v ws) (any-written v k ws (subst (λ (x : Key). list_any (writes_key x) ws ≡ false) (sym e) rest.0))

    one : (put : Option Put) (a : Bool) → is_absent (seen v (key_bytes k)) ≡ a → last (written v ws) k ≡ None → same_key k w.key ≡ true → w.put ≡ put
        → last (if not (is_gone put && a) then w ∷ written v ws else written v ws) k ≡ if_written v k (Some put)
    one (Some y) a e none is put_is = (λ i. put_or_else (none i) (cond (is i) (Some w.put) None)) ∙ ap (λ (p : Option Put). Some p) put_is
    one None true e none is put_is = none ∙ sym (ap (λ b. cond b None (Some None)) e)
    one None false e none is put_is = (λ i. put_or_else (none i) (cond (is i) (Some w.put) None)) ∙ ap (λ (p : Option Put). Some p) put_is ∙ sym (ap (λ b. cond b None (Some None)) e)

    by_key : last (written v ws) k ≡ if_written v k (last ws k) → (b : Bool) → same_key k w.key ≡ b → last (written v (w ∷ ws)) k ≡ if_written v k (put_or_else (last ws k) (at_key k w))
    by_key later false e = other later e (is_written v w)
    by_key later true e =
        let same : k ≡ w.key = same_key-true k w.key e in
        ap (λ (x : Key). last (if not (is_gone w.put && is_absent (seen v (key_bytes x))) then w ∷ written v ws else written v ws) k) (sym same)
        ∙ one w.put (is_absent (seen v (key_bytes k))) refl (gone_written same) e refl
        ∙ sym (ap (if_written v k) (λ i. put_or_else (gone_after same i) (cond (e i) (Some w.put) None)))

-- ---- and so they fit the same step

data_absent : (n : Option Node) (o : Option Stored) → DataMeans n None → DataMeans n o → o ≡ None
data_absent None None h k = refl
data_absent None (Some x) h k = absurd k
data_absent (Some n) o h k = absurd h

counts_absent : (n : Option Node) (c : ℕ) (counted : Bool) (o : Option Stored) → CountsMean n c counted None → CountsMean n c counted o → o ≡ None
counts_absent None c counted None h k = refl
counts_absent None c counted (Some x) h k = absurd k
counts_absent (Some n) c true o h k = absurd h
counts_absent (Some n) c false None h k = refl
counts_absent (Some n) c false (Some x) h k = absurd k

nodes_absent : (y : Option Session) (ps : List Bytes) (o : Option Stored) → NodesMean y ps None → NodesMean y ps o → o ≡ None
nodes_absent None ps None h k = refl
nodes_absent None ps (Some x) h k = absurd k
nodes_absent (Some y) ps o h k = absurd h

life_absent : (id : ℕ) (y : Option Session) (o : Option Stored) → LifeMeans id y None → LifeMeans id y o → o ≡ None
life_absent id None None h k = refl
life_absent id None (Some x) h k = absurd k
life_absent id (Some y) None h k = refl
life_absent id (Some y) (Some x) h k = absurd (true≢false (sym h ∙ k.alive))

-- a key that means nothing in a state is absent
only_absent : (s : State) (k : Key) (o : Option Stored) → (k ≡ HeadKey → ⊥) → Means s k None → Means s k o → o ≡ None
only_absent s HeadKey o apart h means = absurd (apart refl)
only_absent s (DataKey p) o apart h means = data_absent (get s.tree p) o h means
only_absent s (CountsKey p) o apart h means = counts_absent (get s.tree p) (num_children s.tree p) (is_counted_in s (get s.tree p)) o h means
only_absent s (SessionKey n) o apart h means = nodes_absent (session_at (pos n) s) (owned s.tree (pos n)) o h means
only_absent s (LeaseKey n) o apart h means = life_absent n (session_at (pos n) s) o h means

absent_is : (o : Option (Option Kv)) → is_absent o ≡ true → o ≡ Some None
absent_is None e = absurd (true≢false (sym e))
absent_is (Some None) e = refl
absent_is (Some (Some kv)) e = absurd (true≢false (sym e))

-- if each key that was deleted was looked up in a view that shows the state
pub fits-written : (v near : View) → IsNarrower near v → (z : ℤ) (ws : List KeyChange) (s new : State) → are_distinct ws ≡ true → Shows z near s → ((k : Key) → last ws k ≡ Some None → HasSeen near k × (k ≡ HeadKey → ⊥)) → ChangesFit z ws s new → ChangesFit z (written v ws) s new
fits-written v near narrow z ws s new once shown gone fits = record { each = λ k. subst (λ (l : Option (Option Put)). KeyFits z l k s new) (sym (last-written v ws k once)) (at k (last ws k) refl (fits.each k)) }
  where
    near_same : (k : Key) → HasSeen near k → seen v (key_bytes k) ≡ seen near (key_bytes k)
    near_same k saw = by_seen (seen near (key_bytes k)) refl
      where
        by_seen : (o : Option (Option Kv)) → seen near (key_bytes k) ≡ o → seen v (key_bytes k) ≡ o
        by_seen None e = absurd (saw e)
        by_seen (Some o) e = narrow (key_bytes k) o e

    at : (k : Key) (l : Option (Option Put)) → last ws k ≡ l → KeyFits z l k s new → KeyFits z (if_written v k l) k s new
    at k None e fit = fit
    at k (Some (Some w)) e fit = fit
    at k (Some None) e fit = by_absent (is_absent (seen v (key_bytes k))) refl
      where
        by_absent : (b : Bool) → is_absent (seen v (key_bytes k)) ≡ b → KeyFits z (cond b None (Some None)) k s new
        by_absent false is = fit
        by_absent true is =
            let here = gone k e in
            let was : seen near (key_bytes k) ≡ Some None = sym (near_same k here.0) ∙ absent_is (seen v (key_bytes k)) is in
            let none : Means s k None = (shown k here.1 None was).0 in
            λ o means. subst (λ (p : Option Stored). Means new k p) (sym (only_absent s k o here.1 none means)) fit
