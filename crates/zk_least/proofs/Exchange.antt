-- An update that is told before an answer as of a moment may as well be told by the answer.
use Rattle.std.proofs.Common.{◌≡◌, ℕ, zero, suc, ◌+◌, ◌≤◌, ◌<◌, List, [], ◌∷◌, ◌++◌, length, take, refl, sym, ap, ◌∙◌, subst, arith, append_assoc, Bool, true, false, ℤ, pos, inl, inr}
use Rattle.std.specs.Prelude.{Option, Some, None, ◌<ℤ◌, ◌≤ℤ◌, slice_get, nat_le, nat_lt, int_lt, int_le, if◌then◌else◌}
use Rattle.std.proofs.lemmas.Int.{ints}
use Rattle.std.proofs.lemmas.Bool.Decides.{nat_tests}
use Rattle.zk_service.specs.declared.update.UpdateRec.{UpdateRec}
use Rattle.zk_transcript.specs.declared.transcript.TranscriptLine.{TranscriptLine}
use Rattle.zk_transcript.specs.declared.transcript.TranscriptLine.TheVariants.{Update, Open, Frame as FrameLine, Send, Lapse, Close}
use Rattle.zk_jute.specs.Requests.{read_request}
use Rattle.zk_jute.specs.Packets.{reply_packet}
use Rattle.zk_model.specs.Watches.{Watches, is_unarmed}
use Rattle.zk_service.specs.Answers.{xid_of}
use Rattle.zk_transcript.specs.History.{after, state_at, first_place}
use Rattle.zk_transcript.specs.Legal.{is_legal}
use Rattle.zk_transcript.specs.Walks.{Walker, Tell, Answer, Due, move, told_update, next_update, above_shown, is_above, fired_at, fired_above, due_notices, own_update, later_of, told_as_of, reply_step, after_update}
use Rattle.std.proofs.lemmas.Bool.{and_from, and_parts}
use Rattle.zx_base.proofs.Lists.{slice_get-take}
use Rattle.zk_transcript.proofs.Zxids.{zxids-rise}
use Rattle.zk_least.proofs.Rising.{rising, at-line, not-below, started}
use Rattle.zk_least.proofs.Firing.{IsFirst, first-fires, fired-within}
use Rattle.zk_least.proofs.SameZxid.{get-take}
use Rattle.zk_least.proofs.Answering.{IsMade, made, answer-move}

-- ---- the first update above a zxid

pub record IsAbove (p : ℤ) (ls : List TranscriptLine) (e : ℕ) (z : ℤ) : Type 0 where
  pub update : UpdateRec
  pub there : slice_get ls e ≡ Some (Update update)
  pub same : update.zxid ≡ z
  pub up : p <ℤ z
  pub before : (j : ℕ) (u : UpdateRec) → j < e → slice_get ls j ≡ Some (Update u) → u.zxid ≤ℤ p

shown-above : (p z : ℤ) (l : TranscriptLine) → above_shown p l ≡ Some z → (u : UpdateRec) × (l ≡ Update u) × (u.zxid ≡ z) × (p <ℤ z)
shown-above p z (Update u) h = go (int_lt p u.zxid) refl h
  where
    go : (b : Bool) → int_lt p u.zxid ≡ b → (if b then Some u.zxid else None) ≡ Some z → (v : UpdateRec) × (Update u ≡ Update v) × (v.zxid ≡ z) × (p <ℤ z)
    go true e t =
        let s : u.zxid ≡ z = cc in
        let lt : p <ℤ u.zxid = grind (arith, nat_tests, ints) in
        (u, refl, s, omega (arith, ints, lt, s))
    go false e t = absurd (cc)
shown-above p z (Open a b c d layout) h = absurd (cc)
shown-above p z (FrameLine a b c d) h = absurd (cc)
shown-above p z (Send a b) h = absurd (cc)
shown-above p z (Lapse a b) h = absurd (cc)
shown-above p z (Close a b) h = absurd (cc)

hidden-above : (p : ℤ) (u : UpdateRec) → above_shown p (Update u) ≡ None → u.zxid ≤ℤ p
hidden-above p u h = go (int_lt p u.zxid) refl h
  where
    go : (b : Bool) → int_lt p u.zxid ≡ b → (if b then Some u.zxid else None) ≡ None → u.zxid ≤ℤ p
    go true e t = absurd (cc)
    go false e t = grind (arith, nat_tests, ints)

above-at : (p : ℤ) (k : ℕ) (ls : List TranscriptLine) (x : ℕ × ℤ) → first_place (above_shown p) k ls ≡ Some x → (e : ℕ) × (k + e ≡ x.0) × IsAbove p ls e x.1
above-at p k [] x h = absurd (cc)
above-at p k (l ∷ ls) x h = go (above_shown p l) refl (above-at p (k + 1) ls x) h
  where
    go : (o : Option ℤ) → above_shown p l ≡ o → (first_place (above_shown p) (k + 1) ls ≡ Some x → (e : ℕ) × ((k + 1) + e ≡ x.0) × IsAbove p ls e x.1)
        → (elim o [ Some y ↦ Some (k, y) | None ↦ first_place (above_shown p) (k + 1) ls ]) ≡ Some x → (e : ℕ) × (k + e ≡ x.0) × IsAbove p (l ∷ ls) e x.1
    go (Some z) f ih t =
        let s : (k, z) ≡ x = cc in
        let q = shown-above p z l f in
        let i : z ≡ x.1 = ap (λ (p : ℕ × ℤ). p.1) s in
        (0, omega (arith, ap (λ (p : ℕ × ℤ). p.0) s), record { update = q.0; there = ap Some q.1; same = q.2 ∙ i; up = subst (λ v. p <ℤ v) i q.3; before = λ j u lt g. absurd (omega (arith, lt)) })
    go None f ih t =
        let r = ih t in
        (suc r.0, omega (arith, r.1), record { update = r.2.update; there = r.2.there; same = r.2.same; up = r.2.up; before = λ j u lt g. earlier r.0 r.2 j u lt g })
      where
        earlier : (e : ℕ) → IsAbove p ls e x.1 → (j : ℕ) (u : UpdateRec) → j < suc e → slice_get (l ∷ ls) j ≡ Some (Update u) → u.zxid ≤ℤ p
        earlier e a zero u lt g = (let s : l ≡ Update u = cc in hidden-above p u (ap (above_shown p) (sym s) ∙ f))
        earlier e a (suc j) u lt g = a.before j u (omega (arith, lt)) g

pub next-above : (p : ℤ) (ls : List TranscriptLine) (x : ℕ × ℤ) → next_update p ls ≡ Some x → IsAbove p ls x.0 x.1
next-above p ls x h = let r = above-at p 0 ls x h in subst (λ e. IsAbove p ls e x.1) (omega (arith, r.1)) r.2

-- ---- it is the first that fires before each moment that reaches it

pub not-above : (p : ℤ) (l : TranscriptLine) → ((u : UpdateRec) → l ≡ Update u → u.zxid ≤ℤ p) → is_above p l ≡ false
not-above p (Update u) h = let le = h u refl in grind (arith, nat_tests, ints)
not-above p (Open a b c d layout) h = refl
not-above p (FrameLine a b c d) h = refl
not-above p (Send a b) h = refl
not-above p (Lapse a b) h = refl
not-above p (Close a b) h = refl

pub yes-above : (p : ℤ) (u : UpdateRec) → p <ℤ u.zxid → is_above p (Update u) ≡ true
yes-above p u h = grind (arith, nat_tests, ints)

pub reaches : (lines : List TranscriptLine) (m : ℕ) (p : ℤ) (e : ℕ) (z : ℤ) → is_legal lines ≡ true → pos 0 <ℤ p → IsAbove p lines e z → z ≤ℤ (state_at lines m).zxid → e < m
reaches lines m p e z legal some a le = go (nat_lt e m) refl
  where
    go : (b : Bool) → nat_lt e m ≡ b → e < m
    go true h = grind (arith, nat_tests)
    go false h =
        let small : m ≤ e = grind (arith, nat_tests) in
        let r = at-line lines e a.update legal a.there in
        let n = started lines m legal (omega (arith, ints, le, a.up, some)) in
        let b = not-below lines m e legal small n in
        absurd (elim (rising lines m (e + 1) legal (omega (arith, small)) n) [
          | inl q ↦ omega (arith, q.0, r.updates, b.0)
          | inr q ↦ omega (arith, ints, q.1, r.zxid, a.same, le)
        ])

after-above : (lines : List TranscriptLine) (p : ℤ) (e j : ℕ) (z : ℤ) (l : TranscriptLine) → is_legal lines ≡ true → IsAbove p lines e z → e < j → slice_get lines j ≡ Some l → is_above p l ≡ is_above z l
after-above lines p e j z (Update x) legal a lt h =
    let later = zxids-rise lines e j a.update x legal lt a.there h in
    yes-above p x (omega (arith, ints, later, a.same, a.up)) ∙ sym (yes-above z x (omega (arith, ints, later, a.same)))
after-above lines p e j z (Open x b c d layout) legal a lt h = refl
after-above lines p e j z (FrameLine x b c d) legal a lt h = refl
after-above lines p e j z (Send x b) legal a lt h = refl
after-above lines p e j z (Lapse x b) legal a lt h = refl
after-above lines p e j z (Close x b) legal a lt h = refl

pub up-to-it : (lines : List TranscriptLine) (p : ℤ) (e j : ℕ) (z : ℤ) (u : UpdateRec) → IsAbove p lines e z → j ≤ e → slice_get lines j ≡ Some (Update u) → u.zxid ≤ℤ z
up-to-it lines p e j z u a le h = go (nat_lt j e) refl
  where
    go : (b : Bool) → nat_lt j e ≡ b → u.zxid ≤ℤ z
    go true f = let q = a.before j u (grind (arith, nat_tests)) h in omega (arith, ints, q, a.up)
    go false f =
        let same : j ≡ e = grind (arith, nat_tests) in
        let s : Some (Update u) ≡ Some (Update a.update) = sym h ∙ ap (slice_get lines) same ∙ a.there in
        let both : u ≡ a.update = cc in
        omega (arith, ints, ap (λ (v : UpdateRec). v.zxid) both, a.same)

pub first-above : (lines : List TranscriptLine) (m : ℕ) (p : ℤ) (e : ℕ) (z : ℤ) → is_legal lines ≡ true → IsAbove p lines e z → e < m → IsFirst p z e (take m lines)
first-above lines m p e z legal a lt = record {
  line = Update a.update;
  there = slice_get-take lines m e lt ∙ a.there;
  above = yes-above p a.update (omega (arith, ints, a.up, a.same));
  before = λ j l less h. not-above p l (λ u s. a.before j u less ((get-take m j lines l h).1 ∙ ap Some s));
  up_to = λ j l le h. not-above z l (λ u s. up-to-it lines p e j z u a le ((get-take m j lines l h).1 ∙ ap Some s));
  above_after = λ j l less h. after-above lines p e j z l legal a less (get-take m j lines l h).1;
}

-- ---- what was told

pub record IsTold (lines : List TranscriptLine) (w : Walker) (u : Walker × List Due) : Type 0 where
  pub place : ℕ
  pub zxid : ℤ
  pub armed : is_unarmed w.watches ≡ false
  pub next : next_update w.zxid lines ≡ Some (place, zxid)
  pub gives : ◌≡◌ {A = Walker × List Due} (record w { zxid = zxid; since = place + 1; watches = (fired_at lines place w.watches).0 }, (fired_at lines place w.watches).1) u

pub told-by : (lines : List TranscriptLine) (c : ℕ) (id : ℤ) (w : Walker) (u : Walker × List Due) → move lines c id w Tell ≡ Some u → IsTold lines w u
unfolding move
told-by lines c id w u h = go (is_unarmed w.watches) (next_update w.zxid lines) refl refl h
  where
    go : (b : Bool) (o : Option (ℕ × ℤ)) → is_unarmed w.watches ≡ b → next_update w.zxid lines ≡ o → (if b then None else told_update lines w o) ≡ Some u → IsTold lines w u
    go true o e f t = absurd (cc)
    go false None e f t = absurd (cc)
    go false (Some x) e f t =
        let s : ◌≡◌ {A = Walker × List Due} (record w { zxid = x.1; since = x.0 + 1; watches = (fired_at lines x.0 w.watches).0 }, (fired_at lines x.0 w.watches).1) u = cc in
        record { place = x.0; zxid = x.1; armed = e; next = f; gives = s }

-- ---- the exchange

told-then : (lines : List TranscriptLine) (c : ℕ) (id : ℤ) (w : Walker) (e : ℕ) (z : ℤ) (m : ℕ) (y : Walker × List Due)
    → is_legal lines ≡ true → pos 0 <ℤ w.zxid → next_update w.zxid lines ≡ Some (e, z)
    → IsMade lines c id (record w { zxid = z; since = e + 1; watches = (fired_at lines e w.watches).0 }) m y
    → move lines c id w (Answer m) ≡ Some (y.0, (fired_at lines e w.watches).1 ++ y.1)
told-then lines c id w e z m y legal some next mk =
    let past = take m lines in
    let a = next-above w.zxid lines (e, z) next in
    let f = fired_at lines e w.watches in
    let g = fired_above past z f.0 in
    let op = and_parts (nat_le w.moment (length past)) (int_le z (after past).zxid) mk.may_answer in
    let o1 = op.1 in
    let reach : z ≤ℤ (state_at lines m).zxid = grind (arith, nat_tests, ints) in
    let lt = reaches lines m w.zxid e z legal some a reach in
    let lower : int_le w.zxid (after past).zxid ≡ true = below w.zxid z (after past).zxid a.up reach in
    let within : fired_at past e w.watches ≡ f = fired-within lines m e w.watches lt in
    let all : fired_above past w.zxid w.watches ≡ (g.0, f.1 ++ g.1) =
    first-fires past w.zxid z e w.watches (first-above lines m w.zxid e z legal a lt)
    ∙ ap (λ (h : Watches × List Due). ((fired_above past z h.0).0, h.1 ++ (fired_above past z h.0).1)) within in
    let bytes = mk.bytes in
    let told : told_as_of past c id (read_request bytes) (fired_above past w.zxid w.watches).0 (own_update c w.next lines) ≡ Some mk.what =
    ap (λ (h : Watches × List Due). told_as_of past c id (read_request bytes) h.0 (own_update c w.next lines)) all ∙ mk.told in
    let n = after_update (after past).zxid past in
    let d : List Due = due_notices (later_of n (mk.place + 1)) mk.what.1.notices in
    let r : List Due = (later_of (length past) (mk.place + 1), reply_packet (xid_of (read_request bytes)) (after past).zxid mk.what.1.reply) ∷ [] in
    let v : Walker = (reply_step past w mk.place (xid_of (read_request bytes)) [] mk.what).0 in
    answer-move lines c id w m mk.place bytes mk.what mk.live mk.within mk.frame (and_from (nat_le w.moment (length past)) (int_le w.zxid (after past).zxid) op.0 lower) mk.header told
    ∙ ap (λ (h : Watches × List Due). Some (reply_step past w mk.place (xid_of (read_request bytes)) h.1 mk.what)) all
    ∙ ap (λ ds. Some (v, ds)) (ap (λ ds. ds ++ r) (append_assoc f.1 g.1 d) ∙ append_assoc f.1 (g.1 ++ d) r)
    ∙ ap (λ (p : Walker × List Due). Some (p.0, f.1 ++ p.1)) mk.gives
  where
    below : (p z q : ℤ) → p <ℤ z → z ≤ℤ q → int_le p q ≡ true
    below p z q a b = grind (arith, nat_tests, ints)

pub exchange : (lines : List TranscriptLine) (c : ℕ) (id : ℤ) (w : Walker) (m : ℕ) (u y : Walker × List Due)
    → is_legal lines ≡ true → pos 0 <ℤ w.zxid → move lines c id w Tell ≡ Some u → move lines c id u.0 (Answer m) ≡ Some y → move lines c id w (Answer m) ≡ Some (y.0, u.1 ++ y.1)
exchange lines c id w m u y legal some a b =
    let t = told-by lines c id w u a in
    let at_u : move lines c id (record w { zxid = t.zxid; since = t.place + 1; watches = (fired_at lines t.place w.watches).0 }) (Answer m) ≡ Some y = ap (λ (p : Walker × List Due). move lines c id p.0 (Answer m)) t.gives ∙ b in
    told-then lines c id w t.place t.zxid m y legal some t.next (made lines c id _ m y at_u) ∙ ap (λ (p : Walker × List Due). Some (y.0, p.1 ++ y.1)) t.gives
