-- How many asks of a reaper are still to be carried out, while nobody else acts.
use Rattle.std.proofs.Common.{◌≡◌, ℕ, ◌+◌, ◌≤◌, List, [], ◌∷◌, ◌++◌, length, refl, sym, ap, ◌∙◌, subst, arith, Bool, true, false, cond, ℤ, pos, inl, inr}
use Rattle.std.specs.Prelude.{Contains, MatchBool, Option, Some, None, ◌⊎◌, if◌then◌else◌, int_lt, map, nat_abs}
use Rattle.std.specs.FinMap.{get}
use Rattle.std.specs.List.{list_all}
use Rattle.std.proofs.lemmas.Int.{ints}
use Rattle.std.proofs.lemmas.List.Elements.{Contains-append_left, Contains-append_right}
use Rattle.ev_types.specs.Denials.{carry}
use Rattle.ev_types.specs.Store.{Store, holds, present, revision, store_at, succeeds}
use Rattle.ev_types.specs.declared.answer.ActAns.{ActAns}
use Rattle.ev_types.specs.declared.answer.Answer.{Answer}
use Rattle.ev_types.specs.declared.answer.Answer.TheVariants as answer
use Rattle.ev_types.specs.declared.answer.Kv.{Kv}
use Rattle.ev_types.specs.declared.ask.Ask.{Ask}
use Rattle.ev_types.specs.declared.ask.Ask.TheVariants as ask
use Rattle.zk_model.specs.Paths.{parent}
use Rattle.zk_model.specs.declared.request.Request.TheVariants as req
use Rattle.zk_service.specs.Answers.{plain_request}
use Rattle.zn_layout.specs.declared.record.SessionRec.{SessionRec}
use Rattle.zn_layout.specs.Keys.{CountsKey, SessionKey, key_bytes}
use Rattle.zn_layout.specs.Records.{IsSessionRec, session_value}
use Rattle.zn_view.proofs.AsSeen.{agrees-seen}
use Rattle.zn_view.proofs.Elements.{contains-cases}
use Rattle.zn_view.proofs.Members.{In, in_contains}
use Rattle.zn_view.proofs.Narrowing.{narrowed-agrees}
use Rattle.zn_view.proofs.SeenAfter.{wanted-shown}
use Rattle.zn_view.proofs.Showing.{first-shown, later-shown, nothing-agrees}
use Rattle.zn_view.specs.Adding.{AreRecords, at_revision}
use Rattle.zn_view.specs.Asks.{found_in, head_want, kept_under, picked, plan_txn, reading, transaction, with_part, with_parts}
use Rattle.zn_view.specs.Needs.{AreNeeds, IsLacking, IsRead, key_want, life_want}
use Rattle.zn_view.specs.Seen.{View, empty_view, seen, seen_in}
use Rattle.zn_view.specs.Views.{Agrees, reads}
use Rattle.zn_view.specs.declared.plan.Plan.{Plan}
use Rattle.zn_view.specs.declared.snapshot.SeenKey.{SeenKey}
use Rattle.zn_view.specs.declared.want.Want.{Want}
use Rattle.zn_view.specs.declared.want.Want.TheVariants as want
use Rattle.zs_close.specs.Reaping.{IfReaped, IsReapPlan, whose}
use Rattle.zs_close.specs.declared.reap.Reaping.{Reaping}
use Rattle.zs_close.specs.declared.reap.Reaping.TheVariants.{Gone, Kept, Planned, TooMany}
use Rattle.zs_close.specs.Wanting.{own_keys}
use Rattle.zs_reap.specs.Steps.{Answered, ReaperDecides, ReaperEnds, ReaperFollows, IsReaperCounted, IsLookedAt, IsReaperTested, LacksSome, ReaperLooked, ReaperLookedAgain, ReaperSteps as ReapSteps, reaper_wants}
use Rattle.zs_reap.specs.declared.reap.Phase.{Phase}
use Rattle.zs_reap.specs.declared.reap.Phase.TheVariants.{Counting, Looking, Over, Removing, Unasked}
use Rattle.zs_reap.specs.declared.reap.Reap.{Reap}
use Rattle.zs_reap.specs.declared.reap.ReapStep.{ReapStep}
use Rattle.zs_reap.specs.declared.reap.ReapStep.TheVariants as reaped
use Rattle.zs_session.specs.Answering.{OfTxn, viewed}
use Rattle.zx_base.proofs.MapLaws.{same-true}
use Rattle.zx_base.proofs.Options.{none_some}
use Rattle.zx_base.specs.Maps.{Bytes, same}
use Rattle.zp_laws.proofs.Parts.{revision-kept}
use Rattle.zp_world_laws.proofs.Transactions.{txn-answered}
use Rattle.zp_world_laws.specs.Reaping.{IsReapAsk, IsStanding}
use Rattle.zp_settle_laws.proofs.Carried.{Done, done-one, is-again, is-read}
use Rattle.zp_settle_laws.proofs.Truths.{found-holds}

-- ---- what is still to come

-- a plan on an earlier look may fail, and then the session is looked at anew, its parents are counted, and it is removed
abbrev pub look_again : Bool → ℕ
look_again true = 0
look_again false = 3

abbrev pub is_done_now : Store → Ask → Bool
is_done_now s (ask.Txn t) = succeeds s t
is_done_now s _ = true

-- these keys are all that the end of the session reads in the present; the number is one that a session may have
pub record Covers (s : Store) (id revision_ : ℤ) (ws : List Want) : Type 0 where
  pub real : int_lt id (pos 1) ≡ false
  pub now : revision_ ≡ revision s
  pub own : (w : Want) → Contains (reaper_wants id) w → Contains ws w
  pub counts : (kv : Kv) (nodes : SessionRec) (p q : Bytes) → get (present s) (key_bytes (SessionKey (nat_abs id))) ≡ Some kv → IsSessionRec nodes → kv.value ≡ session_value nodes → Contains nodes.paths p → parent p ≡ Some q → Contains ws (key_want (CountsKey q))

abbrev pub ReapOut : Store → ℤ → Phase → Ask → ℕ → Type 0
ReapOut s id Unasked q k = Unit {0}
ReapOut s id Looking q k = 3 ≤ k
ReapOut s id (Counting z ws) q k = (Covers s id z ws × (2 ≤ k)) ⊎ (5 ≤ k)
ReapOut s id (Removing again) q k = 1 + look_again (is_done_now s q) ≤ k
ReapOut s id Over q k = Unit {0}

-- a step asks, or it ends
abbrev pub ReapThen : Store → ℤ → ReapStep → Phase → ℕ → Type 0
ReapThen s id (reaped.Ask q) phase k = ReapOut s id phase q k
ReapThen s id _ phase k = phase ≡ Over

-- whatever the answer leads to
abbrev pub ReapAfter : Store → Reap → Answer → ℕ → Type 0
ReapAfter s r a k = (step : ReapStep) (next : Reap) → ReapSteps r (Some a) step next → ReapThen s r.session step next.phase k

-- ---- what is looked up first

first-own : (id : ℤ) → int_lt id (pos 1) ≡ false → reaper_wants id ≡ map key_want (own_keys id)
first-own id real = ap (λ b. cond b (head_want ∷ []) (map key_want (own_keys id))) real

in-first : (id : ℤ) (w : Want) → int_lt id (pos 1) ≡ false → Contains (map key_want (own_keys id)) w → Contains (reaper_wants id) w
in-first id w real has = subst (λ ws. Contains ws w) (sym (first-own id real)) has

-- ---- what was seen was wanted

seen-last : (k : Bytes) (xs : List SeenKey) (q : Bytes) (f : Option Kv) (o : Option Kv) → seen_in k (xs ++ record { key = q; found = f } ∷ []) ≡ Some o → (seen_in k xs ≡ Some o) ⊎ (q ≡ k)
seen-last k [] q f o h = go (same q k) refl h
  where
    go : (b : Bool) → same q k ≡ b → (if b then Some f else None) ≡ Some o → (None ≡ Some o) ⊎ (q ≡ k)
    go true e g = inr (same-true q k e)
    go false e g = inl g
seen-last k (x ∷ xs) q f o h = go (same x.key k) (seen-last k xs q f o) h
  where
    go : (b : Bool) → (seen_in k (xs ++ record { key = q; found = f } ∷ []) ≡ Some o → (seen_in k xs ≡ Some o) ⊎ (q ≡ k)) → (if b then Some x.found else seen_in k (xs ++ record { key = q; found = f } ∷ [])) ≡ Some o → ((if b then Some x.found else seen_in k xs) ≡ Some o) ⊎ (q ≡ k)
    go true later g = inl g
    go false later g = later g

seen-wanted : (v : View) (ws : List Want) (parts : List ActAns) (k : Bytes) (o : Option Kv) → seen (with_parts v ws parts) k ≡ Some o → (seen v k ≡ Some o) ⊎ In (want.Key k) ws
seen-wanted v [] parts k o h = inl h
seen-wanted v (w ∷ ws) [] k o h = inl h
seen-wanted v (want.Key q ∷ ws) (a ∷ parts) k o h = elim (seen-wanted (with_part v (want.Key q) a) ws parts k o h) [
  | inr m ↦ inr (inr m)
  | inl e ↦ elim (seen-last k v.keys q (kept_under q (found_in a)) o e) [ inl f ↦ inl f | inr f ↦ inr (inl (ap (λ y. want.Key y) f)) ]
]
seen-wanted v (want.Children p ∷ ws) (a ∷ parts) k o h = elim (seen-wanted (with_part v (want.Children p) a) ws parts k o h) [ inr m ↦ inr (inr m) | inl e ↦ inl e ]

-- ---- a plan on the present is carried out

reap-now : (s : Store) (id : ℤ) (v : View) (p : Plan) → IsReapPlan id v p → Agrees v (present s) → succeeds s (plan_txn p) ≡ true
reap-now s id v p r agrees =
    ap (list_all (holds (present s))) (r.reads).guards ∙ found-holds (present s) (picked v (r.reads).keys) (narrowed-agrees v (r.reads).keys (present s) agrees).keys

-- ---- each kind of step

module _ (s : Store) (id : ℤ) (v : View) (phase : Phase) (step : ReapStep) (k : ℕ) where
  asks-then : (next : Phase) (q : Ask) → ReapOut s id next q k → (phase ≡ next) × (step ≡ reaped.Ask q) → ReapThen s id step phase k
  asks-then next q o h = subst (λ t. ReapThen s id t phase k) (sym h.1) (subst (λ p. ReapOut s id p q k) (sym h.0) o)

  -- a decision asks for a plan, or ends it
  decides-then : ((p : Plan) → IsReapPlan id v p → 1 + look_again (succeeds s (plan_txn p)) ≤ k) → ReaperDecides id v phase step → ReapThen s id step phase k
  decides-then f d = go d.reaping d.plan d.follows
    where
      go : (r : Reaping) → IfReaped (IsReapPlan id v) r → ReaperFollows v r phase step → ReapThen s id step phase k
      go (Planned p) plan h = asks-then (Removing p.again) (transaction p) (f p plan) h
      go Kept plan h = subst (λ t. ReapThen s id t phase k) (sym h.1) h.0
      go Gone plan h = subst (λ t. ReapThen s id t phase k) (sym h.1) h.0
      go TooMany plan h = absurd h

  looked-at-then : 3 ≤ k → IsLookedAt id v phase step → ReapThen s id step phase k
  looked-at-then le l = asks-then Looking (reading (pos 0) (reaper_wants id)) le l.asks

look-most : (b : Bool) → look_again b ≤ 3
look-most true = omega arith
look-most false = omega arith

-- ---- whatever it asked, five asks are enough

module _ (s : Store) (r : Reap) (k : ℕ) (le : 5 ≤ k) where
  pub any-phase : (p : Phase) (q : Ask) → ReapOut s r.session p q k
  any-phase Unasked q = tt
  any-phase Looking q = omega (arith, le)
  any-phase (Counting z ws) q = inr le
  any-phase (Removing again) q = omega (arith, le, look-most (is_done_now s q))
  any-phase Over q = tt

  looked-again-most : (ws : List Want) (z : ℤ) (parts : List ActAns) (phase : Phase) (step : ReapStep) → ReaperLookedAgain r.session ws z parts phase step → ReapThen s r.session step phase k
  looked-again-most ws z parts phase step h = elim h.1 [
    | inl d ↦ decides-then s r.session (viewed z ws parts) phase step k (λ p plan. omega (arith, le, look-most (succeeds s (plan_txn p)))) d
    | inr l ↦ looked-at-then s r.session (viewed z ws parts) phase step k (omega (arith, le)) l
  ]

  looked-most : (ws : List Want) (z : ℤ) (parts : List ActAns) (phase : Phase) (step : ReapStep) → ReaperLooked r.session ws z parts phase step → ReapThen s r.session step phase k
  looked-most ws z parts phase step h = by (int_lt r.session (pos 1)) h
    where
      by : (below : Bool) → MatchBool below (AreRecords ws parts × ReaperEnds (reaped.Gone z) phase step) (IsReaperTested r.session ws z parts × (ReaperDecides r.session (viewed z ws parts) phase step ⊎ IsReaperCounted r.session (viewed z ws parts) phase step)) → ReapThen s r.session step phase k
      by true g = subst (λ t. ReapThen s r.session t phase k) (sym g.1.1) g.1.0
      by false (tested, inl d) = decides-then s r.session (viewed z ws parts) phase step k (λ p plan. omega (arith, le, look-most (succeeds s (plan_txn p)))) d
      by false (tested, inr c) = asks-then s r.session (viewed z ws parts) phase step k (Counting (viewed z ws parts).revision (reaper_wants r.session ++ c.wants)) (reading (viewed z ws parts).revision (reaper_wants r.session ++ c.wants)) (inr le) c.asks

  answered-most : (p : Phase) (z : ℤ) (b : Bool) (parts : List ActAns) (phase : Phase) (step : ReapStep) → Answered r.session p z b parts phase step → ReapThen s r.session step phase k
  answered-most Unasked z b parts phase step h = absurd h
  answered-most Looking z b parts phase step h = looked-most (reaper_wants r.session) z parts phase step h
  answered-most (Counting first ws) z b parts phase step h = looked-again-most ws first parts phase step h
  answered-most (Removing again) z true parts phase step h = subst (λ t. ReapThen s r.session t phase k) (sym h.1) h.0
  answered-most (Removing again) z false parts phase step h = looked-again-most again z parts phase step h
  answered-most Over z b parts phase step h = absurd h

  of-answer : (a : Answer) (phase : Phase) (step : ReapStep) → OfTxn a (λ z b parts. Answered r.session r.phase z b parts phase step) → ReapThen s r.session step phase k
  of-answer (answer.Txn z b parts) phase step h = answered-most r.phase z b parts phase step h
  of-answer (answer.Range z found) phase step h = absurd h
  of-answer (answer.Granted z i ttl) phase step h = absurd h
  of-answer (answer.Alive z i ttl) phase step h = absurd h

  pub reap-most : (a : Answer) → ReapAfter s r a k
  reap-most a = λ step next t. of-answer a next.phase step t.moves

-- ---- it is carried out

module _ (s u : Store) (r : Reap) (a : Answer) where
  id : ℤ
  id = r.session

  by-steps : (z : ℤ) (b : Bool) (parts : List ActAns) (p : Phase) (j : ℕ) → a ≡ answer.Txn z b parts → r.phase ≡ p → ((phase : Phase) (step : ReapStep) → Answered r.session p z b parts phase step → ReapThen u r.session step phase j) → ReapAfter u r a j
  by-steps z b parts p j is e f = λ step next t. f next.phase step (subst (λ y. Answered r.session y z b parts next.phase step) e (subst (λ y. OfTxn y (λ m c ps. Answered r.session r.phase m c ps next.phase step)) is t.moves))

  -- the first look: what it asks for next is all that is read
  covered : (z : ℤ) (parts : List ActAns) (ws : List Want) → int_lt r.session (pos 1) ≡ false → z ≡ revision s → length parts ≡ length (reaper_wants r.session) → Agrees (viewed z (reaper_wants r.session) parts) (present s) → AreNeeds req.Close (whose r.session) (viewed z (reaper_wants r.session) parts) ws
      → Covers s r.session (viewed z (reaper_wants r.session) parts).revision (reaper_wants r.session ++ ws)
  unfolding plain_request
  covered z parts ws real now long agrees needs = record {
    real = real;
    now = revision-kept (at_revision empty_view z) (reaper_wants r.session) parts ∙ now;
    own = λ w has. Contains-append_left (reaper_wants r.session) ws w has;
    counts = λ kv listed p q there within value has e. by-seen kv listed p q there within value has e (seen v (key_bytes (CountsKey q))) refl;
  }
    where
      v : View
      v = viewed z (reaper_wants r.session) parts

      nodes : Bytes
      nodes = key_bytes (SessionKey (nat_abs r.session))

      looked : (o : Option (Option Kv)) → seen v nodes ≡ o → (kv : Kv) → get (present s) nodes ≡ Some kv → seen v nodes ≡ Some (Some kv)
      looked None e kv there = absurd (wanted-shown (at_revision empty_view z) (reaper_wants r.session) parts (key_want (SessionKey (nat_abs r.session))) (omega (arith, long)) (in-first r.session (key_want (SessionKey (nat_abs r.session))) real (2, omega arith, refl)) e)
      looked (Some f) e kv there = e ∙ ap Some (sym (agrees-seen v (present s) nodes f agrees e) ∙ there)

      by-seen : (kv : Kv) (listed : SessionRec) (p q : Bytes) → get (present s) nodes ≡ Some kv → IsSessionRec listed → kv.value ≡ session_value listed → Contains listed.paths p → parent p ≡ Some q → (o : Option (Option Kv)) → seen v (key_bytes (CountsKey q)) ≡ o
          → Contains (reaper_wants r.session ++ ws) (key_want (CountsKey q))
      by-seen kv listed p q there within value has e None f =
          Contains-append_right (reaper_wants r.session) ws (key_want (CountsKey q))
          (needs.all refl (key_want (CountsKey q)) (inr (inr (inr (listed, p, q, (within, (kv, looked (seen v nodes) refl kv there, value)), has, e, refl)))) f)
      by-seen kv listed p q there within value has e (Some o) f = elim (seen-wanted (at_revision empty_view z) (reaper_wants r.session) parts (key_bytes (CountsKey q)) o f) [
        | inl none ↦ absurd (none_some none)
        | inr m ↦ Contains-append_left (reaper_wants r.session) ws (key_want (CountsKey q)) (in_contains (key_want (CountsKey q)) (reaper_wants r.session) m)
      ]

  -- where all is covered, nothing is lacking
  none-lacks : (z : ℤ) (ws : List Want) (parts : List ActAns) (lacking : List Want) → Covers s r.session z ws → length ws ≤ length parts → Agrees (viewed z ws parts) (present s) → LacksSome r.session (viewed z ws parts) lacking → ⊥
  unfolding reads
  none-lacks z ws parts [] cover long agrees lacks = lacks.some refl
  none-lacks z ws parts (w ∷ more) cover long agrees lacks = by-read (l.0)
    where
      v : View
      v = viewed z ws parts

      l : IsRead req.Close (whose r.session) v w × IsLacking v w
      l = (lacks.needs).only w (0, omega arith, refl)

      shown : Contains ws w → ⊥
      shown has = wanted-shown (at_revision empty_view z) ws parts w long has l.1

      own : (y : Want) → w ≡ y → Contains (map key_want (own_keys r.session)) y → ⊥
      own y e has = shown (subst (Contains ws) (sym e) (cover.own y (in-first r.session y cover.real has)))

      by-read : IsRead req.Close (whose r.session) v w → ⊥
      by-read (inl e) = own head_want e (0, omega arith, refl)
      by-read (inr (inl e)) = own (life_want r.session) e (1, omega arith, refl)
      by-read (inr (inr (inl (y, has, e)))) = elim (contains-cases (SessionKey (nat_abs r.session)) [] y has) [
        | inl f ↦ own (key_want (SessionKey (nat_abs r.session))) (e ∙ ap key_want (sym f)) (2, omega arith, refl)
        | inr bad ↦ absurd (let lt = bad.1 in omega (arith, lt))
      ]
      by-read (inr (inr (inr (nodes, p, q, saw, has, e, is)))) =
          let kv = saw.1.0 in
          shown (subst (Contains ws) (sym is) (cover.counts kv nodes p q (agrees-seen v (present s) (key_bytes (SessionKey (nat_abs r.session))) (Some kv) agrees saw.1.1) saw.0 saw.1.2 has e))

  -- a decision on the present
  decides-now : (v : View) (phase : Phase) (step : ReapStep) (j : ℕ) → 1 ≤ j → u ≡ s → Agrees v (present s) → ReaperDecides r.session v phase step → ReapThen u r.session step phase j
  decides-now v phase step j le same agrees d = decides-then u r.session v phase step j (λ p plan. (
      let holds_now : succeeds u (plan_txn p) ≡ true = ap (λ y. succeeds y (plan_txn p)) same ∙ reap-now s r.session v p plan agrees in
      omega (arith, le, ap look_again holds_now)
      )) d

  -- the first look at the present
  looked-now : (z : ℤ) (parts : List ActAns) (phase : Phase) (step : ReapStep) (j : ℕ) → 2 ≤ j → u ≡ s → z ≡ revision s → length parts ≡ length (reaper_wants r.session) → Agrees (viewed z (reaper_wants r.session) parts) (present s)
      → ReaperLooked r.session (reaper_wants r.session) z parts phase step → ReapThen u r.session step phase j
  looked-now z parts phase step j le same now long agrees h = by (int_lt r.session (pos 1)) refl h
    where
      v : View
      v = viewed z (reaper_wants r.session) parts

      all : List Want → List Want
      all ws = reaper_wants r.session ++ ws

      by : (below : Bool) → int_lt r.session (pos 1) ≡ below
          → MatchBool below (AreRecords (reaper_wants r.session) parts × ReaperEnds (reaped.Gone z) phase step) (IsReaperTested r.session (reaper_wants r.session) z parts × (ReaperDecides r.session v phase step ⊎ IsReaperCounted r.session v phase step))
          → ReapThen u r.session step phase j
      by true real g = subst (λ t. ReapThen u r.session t phase j) (sym g.1.1) g.1.0
      by false real (tested, inl d) = decides-now v phase step j (omega (arith, le)) same agrees d
      by false real (tested, inr c) = asks-then u r.session v phase step j (Counting v.revision (all c.wants)) (reading v.revision (all c.wants))
          (inl (subst (λ t. Covers t r.session v.revision (all c.wants)) (sym same) (covered z parts c.wants real now long agrees (c.lacking).needs), le)) c.asks

  looking-after : (k : ℕ) (q : Ask) → r.phase ≡ Looking → q ≡ reading (pos 0) (reaper_wants r.session) → carry s q ≡ Some (u, a) → 3 ≤ k → Done k (ReapAfter u r a)
  looking-after k q e is h n =
      let ht : carry s (reading (pos 0) (reaper_wants r.session)) ≡ Some (u, a) = ap (carry s) (sym is) ∙ h in
      let d = is-read s u (pos 0) (reaper_wants r.session) a ht in
      let v = first-shown s u (reaper_wants r.session) (revision u) true d.parts (ht ∙ ap (λ y. Some (u, y)) d.is) in
      done-one k (ReapAfter u r a) (omega (arith, n)) (λ j f. by-steps (revision u) true d.parts Looking j d.is e (λ phase step h.
      looked-now (revision u) d.parts phase step j (omega (arith, n, f)) d.same (ap revision d.same) d.long (v.1).agrees h))

  counting-after : (k : ℕ) (q : Ask) (z : ℤ) (ws : List Want) → r.phase ≡ Counting z ws → IsStanding s z × (q ≡ reading z ws) → carry s q ≡ Some (u, a) → (Covers s r.session z ws × (2 ≤ k)) ⊎ (5 ≤ k) → Done k (ReapAfter u r a)
  counting-after k q z ws e (st, is) h (inr n) =
      let ht : carry s (reading z ws) ≡ Some (u, a) = ap (carry s) (sym is) ∙ h in
      let d = is-read s u z ws a ht in
      done-one k (ReapAfter u r a) (omega (arith, n)) (λ j f. by-steps (revision u) true d.parts (Counting z ws) j d.is e (λ phase step h. elim (h.1) [
        | inl t ↦ decides-then u r.session (viewed z ws d.parts) phase step j (λ p plan. omega (arith, n, f, look-most (succeeds u (plan_txn p)))) t
        | inr l ↦ looked-at-then u r.session (viewed z ws d.parts) phase step j (omega (arith, n, f)) l
      ]))
  counting-after k q z ws e (st, is) h (inl (cover, n)) =
      let ht : carry s (reading z ws) ≡ Some (u, a) = ap (carry s) (sym is) ∙ h in
      let d = is-read s u z ws a ht in
      let last : st.number ≡ length s.revisions = (let at : pos st.number ≡ revision s = sym st.is ∙ cover.now in omega (arith, ints, at)) in
      let shown = later-shown s u (at_revision empty_view z) st.number ws (revision u) true d.parts st.is st.begun (nothing-agrees z (store_at s st.number)) (ht ∙ ap (λ y. Some (u, y)) d.is) in
      let agrees : Agrees (viewed z ws d.parts) (present s) = subst (λ n. Agrees (viewed z ws d.parts) (store_at s n)) last shown.agrees in
      done-one k (ReapAfter u r a) (omega (arith, n)) (λ j f. by-steps (revision u) true d.parts (Counting z ws) j d.is e (λ phase step h. elim (h.1) [
        | inl t ↦ decides-now (viewed z ws d.parts) phase step j (omega (arith, n, f)) d.same agrees t
        | inr l ↦ absurd (none-lacks z ws d.parts l.wants cover (omega (arith, d.long)) agrees l.lacking)
      ]))

  removing-after : (k : ℕ) (q : Ask) (again : List Want) (p : Plan) → r.phase ≡ Removing again → p.again ≡ again → q ≡ transaction p → carry s q ≡ Some (u, a) → 1 + look_again (is_done_now s q) ≤ k → Done k (ReapAfter u r a)
  removing-after k q again p e same_again is h n = done-one k (ReapAfter u r a) (omega (arith, n)) (λ j f. go j (omega (arith, f, n, ap (λ y. look_again (is_done_now s y)) is)) (succeeds s (plan_txn p)) refl)
    where
      ht : carry s (transaction p) ≡ Some (u, a)
      ht = ap (carry s) (sym is) ∙ h

      go : (j : ℕ) → look_again (succeeds s (plan_txn p)) ≤ j → (b : Bool) → succeeds s (plan_txn p) ≡ b → ReapAfter u r a j
      go j m true g =
          let b = txn-answered s u (plan_txn p) a ht in
          by-steps (revision u) true b.0 (Removing again) j (b.1 ∙ ap (λ y. answer.Txn (revision u) y b.0) g) e (λ phase step h. subst (λ t. ReapThen u r.session t phase j) (sym h.1) h.0)
      go j m false g =
          let d = is-again s u p a ht g in
          let agrees : Agrees (viewed (revision u) again d.parts) (present s) = subst (λ ws. Agrees (viewed (revision u) ws d.parts) (present s)) same_again d.agrees in
          let three : 3 ≤ j = omega (arith, m, ap look_again g) in
          by-steps (revision u) false d.parts (Removing again) j d.is e (λ phase step h. elim (h.1) [
            | inl t ↦ decides-now (viewed (revision u) again d.parts) phase step j (omega (arith, three)) d.same agrees t
            | inr l ↦ looked-at-then u r.session (viewed (revision u) again d.parts) phase step j three l
          ])

  pub reap-after : (k : ℕ) (q : Ask) (p : Phase) → r.phase ≡ p → IsReapAsk s r.session p q → carry s q ≡ Some (u, a) → ReapOut s r.session p q k → Done k (ReapAfter u r a)
  reap-after k q Unasked e w h n = absurd w
  reap-after k q Looking e w h n = looking-after k q e w h n
  reap-after k q (Counting z ws) e w h n = counting-after k q z ws e w h n
  reap-after k q (Removing again) e (p, same_again, is, bound) h n = removing-after k q again p e same_again is h n
  reap-after k q Over e w h n = absurd w
