-- The first lines of a transcript: what fires among them, and where their updates stand.
use Rattle.std.proofs.Common.{◌≡◌, ℕ, zero, suc, ℤ, ◌+◌, ◌-◌, ◌<◌, ◌≤◌, Bool, true, false, List, [], ◌∷◌, ◌++◌, append-nil, length, take, drop, take-append-drop, Option, Some, None, refl, ap, sym, ◌∙◌, subst, arith}
use Rattle.std.specs.Prelude.{if◌then◌else◌, nat_le, slice_get}
use Rattle.std.specs.Ordering.{int_eq}
use Rattle.std.proofs.lemmas.Bool.Decides.{nat_tests}
use Rattle.std.proofs.lemmas.Int.{ints}
use Rattle.zx_base.proofs.Lists.{slice_get-take}
use Rattle.std.proofs.Math.Seq.{take-length}
use Rattle.zk_model.specs.Watches.{Watches, is_unarmed}
use Rattle.zk_service.specs.declared.update.UpdateRec.{UpdateRec}
use Rattle.zk_transcript.specs.declared.transcript.TranscriptLine.{TranscriptLine}
use Rattle.zk_transcript.specs.declared.transcript.TranscriptLine.TheVariants.{Update, Open, Frame as FrameLine, Send, Lapse, Close}
use Rattle.zk_transcript.specs.History.{first_place, when}
use Rattle.zk_transcript.specs.Walks.{Due, Walker, after_place, after_update, fired_above, is_above, then_fired, update_shown}
use Rattle.zk_transcript.proofs.Appending.{first_place-push}
use Rattle.zk_transcript.proofs.Walks.{first_place-bound}
use Rattle.zk_least.specs.LeastQueues.{told_through}
use Rattle.zk_least.proofs.Firing.{fired-within}
use Rattle.zk_least.proofs.FirstPlaces.{first_place-at, first_place-none}
use Rattle.zk_least.proofs.Queues.{none-fires, queue-law, unarmed-fires}
use Rattle.zk_least.proofs.SameZxid.{get-take}
use Rattle.zk_judge.specs.Fronts.{IsFront, IsTold}
use Rattle.zk_judge.proofs.Opened.{take-end}

pub front-get : (past lines : List TranscriptLine) (k : ℕ) (l : TranscriptLine) → IsFront past lines → slice_get past k ≡ Some l → slice_get lines k ≡ Some l
front-get past lines k l front at = (get-take (length past) k lines l (ap (λ (ls : List TranscriptLine). slice_get ls k) (sym front) ∙ at)).1

pub line-at : (ls : List TranscriptLine) (k : ℕ) → k < length ls → (l : TranscriptLine) × (slice_get ls k ≡ Some l)
line-at [] k less = absurd (omega (arith, less))
line-at (l ∷ ls) zero less = (l, refl)
line-at (l ∷ ls) (suc k) less = line-at ls k (omega (arith, less))

-- ---- what fires

-- a line that is no update changes nothing
still : (past : List TranscriptLine) (p : ℤ) (w : Watches) (k : ℕ) → ((u : UpdateRec) → slice_get past k ≡ Some (Update u) → ⊥) → fired_above (take (k + 1) past) p w ≡ fired_above (take k past) p w
still past p w k none = by (slice_get past k) refl
  where
    is-none : (xs : List TranscriptLine) (n : ℕ) → slice_get xs n ≡ None → take (n + 1) xs ≡ take n xs
    is-none [] zero e = refl
    is-none [] (suc n) e = let s : suc n + 1 ≡ suc (n + 1) = omega arith in ap (λ m. take m []) s
    is-none (x ∷ xs) zero e = absurd (cc)
    is-none (x ∷ xs) (suc n) e = let s : suc n + 1 ≡ suc (n + 1) = omega arith in ap (λ m. take m (x ∷ xs)) s ∙ ap (λ ls. x ∷ ls) (is-none xs n e)

    line : (l : TranscriptLine) → slice_get past k ≡ Some l → is_above p l ≡ false → fired_above (take (k + 1) past) p w ≡ fired_above (take k past) p w
    line l at not = queue-law past p w k l at ∙ ap (λ b. then_fired past k b (fired_above (take k past) p w)) not

    by : (o : Option TranscriptLine) → slice_get past k ≡ o → fired_above (take (k + 1) past) p w ≡ fired_above (take k past) p w
    by None at = ap (λ ls. fired_above ls p w) (is-none past k at)
    by (Some (Update u)) at = absurd (none u at)
    by (Some (Open a b d e layout)) at = line (Open a b d e layout) at refl
    by (Some (FrameLine a b d e)) at = line (FrameLine a b d e) at refl
    by (Some (Send a b)) at = line (Send a b) at refl
    by (Some (Lapse a b)) at = line (Lapse a b) at refl
    by (Some (Close a b)) at = line (Close a b) at refl

abbrev pub NoUpdateBetween : List TranscriptLine → ℕ → ℕ → Type 0
NoUpdateBetween past a b = (k : ℕ) (u : UpdateRec) → a ≤ k → k < b → slice_get past k ≡ Some (Update u) → ⊥

over-by : (past : List TranscriptLine) (p : ℤ) (w : Watches) (a d : ℕ) → NoUpdateBetween past a (a + d) → fired_above (take (a + d) past) p w ≡ fired_above (take a past) p w
over-by past p w a zero none = ap (λ k. fired_above (take k past) p w) (let s : a + 0 ≡ a = omega arith in s)
over-by past p w a (suc d) none =
    let s : (a + d) + 1 ≡ a + suc d = omega arith in
    ap (λ k. fired_above (take k past) p w) (sym s)
    ∙ still past p w (a + d) (λ u at. none (a + d) u (omega arith) (omega arith) at)
    ∙ over-by past p w a d (λ k u low high at. none k u low (omega (arith, high)) at)

pub fired-over : (past : List TranscriptLine) (p : ℤ) (w : Watches) (a b : ℕ) → a ≤ b → NoUpdateBetween past a b → fired_above (take b past) p w ≡ fired_above (take a past) p w
fired-over past p w a b le none =
    let s : a + (b - a) ≡ b = omega arith in
    ap (λ k. fired_above (take k past) p w) (sym s) ∙ over-by past p w a (b - a) (subst (λ k. NoUpdateBetween past a k) (sym s) none)

-- no update is left among the first lines
pub fired-end : (past : List TranscriptLine) (p : ℤ) (w : Watches) (a : ℕ) → a ≤ length past → NoUpdateBetween past a (length past) → fired_above (take a past) p w ≡ fired_above past p w
fired-end past p w a le none = sym (fired-over past p w a (length past) le none) ∙ ap (λ (ls : List TranscriptLine). fired_above ls p w) (take-length past)

-- an update is reached, after lines without one
pub fired-next : (past lines : List TranscriptLine) (p : ℤ) (w : Watches) (a b : ℕ) (l : TranscriptLine) (x y : Watches × List Due) → IsFront past lines → a ≤ b → b < length past → NoUpdateBetween past a b
    → slice_get past b ≡ Some l → x ≡ fired_above (take a past) p w → y ≡ then_fired lines b (is_above p l) x → y ≡ fired_above (take (b + 1) past) p w
fired-next past lines p w a b l x y front le within none at first fires =
    let same = fired-over past p w a b le none in
    fires
    ∙ sym (then-in past lines b (is_above p l) x front within)
    ∙ ap (then_fired past b (is_above p l)) (first ∙ sym same)
    ∙ sym (queue-law past p w b l at)
  where
    then-in : (past lines : List TranscriptLine) (k : ℕ) (b : Bool) (x : Watches × List Due) → IsFront past lines → k < length past → then_fired past k b x ≡ then_fired lines k b x
    then-in past lines k false x front within = refl
    then-in past lines k true x front within =
        ap (λ (ls : List TranscriptLine). then_fired ls k true x) front
        ∙ ap (λ (f : Watches × List Due). (f.0, x.1 ++ f.1)) (fired-within lines (length past) k x.0 within)

-- ---- where a walker begins

pub fired-start : (past lines : List TranscriptLine) (w : Walker) → IsFront past lines → IsTold lines w → (w.watches, []) ≡ fired_above (take w.since past) w.zxid w.watches
fired-start past lines w front told =
    sym (none-fires (take w.since past) w.zxid w.watches (λ k l at.
    let q = get-take w.since k past l at in
    told k l (taken w.since k lines l q.0 (front-get past lines k l front q.1))))
  where
    taken : (n k : ℕ) (ls : List TranscriptLine) (l : TranscriptLine) → k < n → slice_get ls k ≡ Some l → slice_get (take n ls) k ≡ Some l
    taken n k ls l less at = slice_get-take ls n k less ∙ at

-- ---- where an update stands

pub record IsUpdateOf (lines : List TranscriptLine) (z : ℤ) (u : ℕ × ℤ) : Type 0 where
  pub update : UpdateRec
  pub there : slice_get lines u.0 ≡ Some (Update update)
  pub zxid : update.zxid ≡ z
  pub found : u.1 ≡ z

pub update-of : (lines : List TranscriptLine) (z : ℤ) (u : ℕ × ℤ) → first_place (update_shown z) 0 lines ≡ Some u → IsUpdateOf lines z u
update-of lines z u h = let f = first_place-at (update_shown z) 0 lines u h in by f.line (subst (λ (k : ℕ). slice_get lines k ≡ Some f.line) (let at = f.at in omega (arith, at)) f.there) f.shown
  where
    on : (x : UpdateRec) (b : Bool) → slice_get lines u.0 ≡ Some (Update x) → int_eq z x.zxid ≡ b → when b x.zxid ≡ Some u.1 → IsUpdateOf lines z u
    on x true at same t = let is : x.zxid ≡ u.1 = cc in let eq : z ≡ x.zxid = grind (arith, ints, nat_tests, same) in record { update = x; there = at; zxid = sym eq; found = sym (eq ∙ is) }
    on x false at same t = absurd (cc)

    by : (l : TranscriptLine) → slice_get lines u.0 ≡ Some l → update_shown z l ≡ Some u.1 → IsUpdateOf lines z u
    by (Update x) at e = on x (int_eq z x.zxid) at refl e
    by (Open a b d e2 layout) at e = absurd (cc)
    by (FrameLine a b d e2) at e = absurd (cc)
    by (Send a b) at e = absurd (cc)
    by (Lapse a b) at e = absurd (cc)
    by (Close a b) at e = absurd (cc)

pub since-front : (past lines : List TranscriptLine) (z : ℤ) (k : ℕ) → IsFront past lines → Some (k, z) ≡ first_place (update_shown z) 0 lines → k < length past → k + 1 ≡ after_update z past
since-front past lines z k front found within = by (first_place (update_shown z) 0 past) refl
  where
    by : (o : Option (ℕ × ℤ)) → first_place (update_shown z) 0 past ≡ o → k + 1 ≡ after_place o
    by (Some x) e =
        let whole = first_place-push (update_shown z) 0 (take (length past) lines) (drop (length past) lines) x (ap (first_place (update_shown z) 0) (sym front) ∙ e) in
        let same : first_place (update_shown z) 0 lines ≡ Some x = ap (first_place (update_shown z) 0) (sym (take-append-drop (length past) lines)) ∙ whole in
        let is : (k, z) ≡ x = cc in
        ap (λ (q : ℕ × ℤ). q.0 + 1) is
    by None e =
        let f = first_place-at (update_shown z) 0 lines (k, z) (sym found) in
        let at = f.at in
        let here : slice_get past f.place ≡ Some f.line = ap (λ (ls : List TranscriptLine). slice_get ls f.place) front ∙ slice_get-take lines (length past) f.place (omega (arith, at, within)) ∙ f.there in
        let none = first_place-none (update_shown z) 0 past e f.place f.line here in
        let some = f.shown in
        absurd (cc)

placed-at : (x : ℕ × ℤ) (z : ℤ) → x.1 ≡ z → x ≡ (x.0, z)
placed-at x z e = ap (λ (y : ℤ). (x.0, y)) e

pub since-none : (past lines : List TranscriptLine) (z : ℤ) → IsFront past lines → ((k : ℕ) → Some (k, z) ≡ first_place (update_shown z) 0 lines → k < length past → ⊥) → 0 ≡ after_update z past
since-none past lines z front none = by (first_place (update_shown z) 0 past) refl
  where
    by : (o : Option (ℕ × ℤ)) → first_place (update_shown z) 0 past ≡ o → 0 ≡ after_place o
    by None e = refl
    by (Some x) e =
        let whole = first_place-push (update_shown z) 0 (take (length past) lines) (drop (length past) lines) x (ap (first_place (update_shown z) 0) (sym front) ∙ e) in
        let same : first_place (update_shown z) 0 lines ≡ Some x = ap (first_place (update_shown z) 0) (sym (take-append-drop (length past) lines)) ∙ whole in
        let u = update-of lines z x same in
        let found = u.found in
        absurd (none x.0 (sym (same ∙ ap Some (placed-at x z found))) (omega (arith, first_place-bound (update_shown z) 0 past x e)))

pub same-place : (z : ℤ) (k j : ℕ) (o : Option (ℕ × ℤ)) → Some (k, z) ≡ o → Some (j, z) ≡ o → k ≡ j
same-place z k j o first second = let same : (k, z) ≡ (j, z) = cc in ap (λ (q : ℕ × ℤ). q.0) same

pub none-placed : (x : ℕ × ℤ) (o : Option (ℕ × ℤ)) → Some x ≡ o → None ≡ o → ⊥
none-placed x None first second = absurd (cc)
none-placed x (Some y) first second = absurd (cc)

-- ---- once nothing is armed, nothing fires

quiet : (lines : List TranscriptLine) (p : ℤ) (k : ℕ) (l : TranscriptLine) (x : Watches × List Due) → slice_get lines k ≡ Some l → is_unarmed x.0 ≡ true → then_fired lines k (is_above p l) x ≡ x
quiet lines p k l x at unarmed =
    by (is_above p l)
    (sym (queue-law lines p x.0 k l at ∙ ap (then_fired lines k (is_above p l)) (unarmed-fires (take k lines) p x.0 unarmed)) ∙ unarmed-fires (take (k + 1) lines) p x.0 unarmed)
  where
    by : (b : Bool) → then_fired lines k b (x.0, []) ≡ (x.0, []) → then_fired lines k b x ≡ x
    by true e = ap (λ (f : Watches × List Due). (f.0, x.1 ++ f.1)) e ∙ ap (λ (ds : List Due). (x.0, ds)) (append-nil x.1)
    by false e = refl

quiet-over : (past : List TranscriptLine) (p : ℤ) (w : Watches) (a d : ℕ) → a + d ≤ length past → is_unarmed (fired_above (take a past) p w).0 ≡ true → fired_above (take (a + d) past) p w ≡ fired_above (take a past) p w
quiet-over past p w a zero le unarmed = ap (λ k. fired_above (take k past) p w) (let s : a + 0 ≡ a = omega arith in s)
quiet-over past p w a (suc d) le unarmed =
    let s : (a + d) + 1 ≡ a + suc d = omega arith in
    let l = line-at past (a + d) (omega (arith, le)) in
    let before = quiet-over past p w a d (omega (arith, le)) unarmed in
    ap (λ k. fired_above (take k past) p w) (sym s)
    ∙ queue-law past p w (a + d) l.0 l.1
    ∙ quiet past p (a + d) l.0 (fired_above (take (a + d) past) p w) l.1 (ap (λ (x : Watches × List Due). is_unarmed x.0) before ∙ unarmed)
    ∙ before

pub fired-unarmed : (past : List TranscriptLine) (p : ℤ) (w : Watches) (a : ℕ) → is_unarmed (fired_above (take a past) p w).0 ≡ true → fired_above (take a past) p w ≡ fired_above past p w
fired-unarmed past p w a unarmed = by (nat_le a (length past)) refl
  where
    by : (b : Bool) → nat_le a (length past) ≡ b → fired_above (take a past) p w ≡ fired_above past p w
    by true e =
        let le : a ≤ length past = grind (arith, nat_tests, e) in
        let s : a + (length past - a) ≡ length past = omega (arith, le) in
        sym (quiet-over past p w a (length past - a) (omega (arith, s)) unarmed)
        ∙ ap (λ k. fired_above (take k past) p w) s
        ∙ ap (λ (ls : List TranscriptLine). fired_above ls p w) (take-length past)
    by false e =
        let le : length past ≤ a = grind (arith, nat_tests, e) in
        ap (λ (ls : List TranscriptLine). fired_above ls p w) (take-end past a le)

-- the updates through the one at a place fire, where something is still armed before it
pub told-through : (lines : List TranscriptLine) (w : Walker) (k : ℕ) (z : ℤ) (x y : Watches × List Due) → k < length lines → x ≡ fired_above (take k lines) w.zxid w.watches → is_unarmed x.0 ≡ false
    → ((l : TranscriptLine) → slice_get lines k ≡ Some l → y ≡ then_fired lines k (is_above w.zxid l) x) → Some (record w { zxid = z; since = k + 1; watches = y.0 }, y.1) ≡ told_through lines w (Some (k, z))
told-through lines w k z x y less first armed fires =
    let here = line-at lines k less in
    let same : y ≡ fired_above (take (k + 1) lines) w.zxid w.watches =
    fires here.0 here.1 ∙ ap (then_fired lines k (is_above w.zxid here.0)) first ∙ sym (queue-law lines w.zxid w.watches k here.0 here.1) in
    by (is_unarmed (fired_above (take k lines) w.zxid w.watches).0) (ap (λ (q : Watches × List Due). is_unarmed q.0) (sym first) ∙ armed) same
  where
    after : Watches × List Due → Walker × List Due
    after q = (record w { zxid = z; since = k + 1; watches = q.0 }, q.1)

    by : (b : Bool) → b ≡ false → y ≡ fired_above (take (k + 1) lines) w.zxid w.watches → Some (after y) ≡ (if b then None else Some (after (fired_above (take (k + 1) lines) w.zxid w.watches)))
    by true e same = absurd (cc)
    by false e same = ap (λ (q : Watches × List Due). Some (after q)) same
