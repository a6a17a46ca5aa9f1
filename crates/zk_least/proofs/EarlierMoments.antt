-- A lesser moment of the last reply leaves each later choice: what is due is the same, and the walkers differ by the moment alone.
use Rattle.std.proofs.Common.{◌≡◌, ℕ, ◌+◌, ◌≤◌, List, [], ◌∷◌, length, take, refl, sym, ap, ◌∙◌, subst, arith, Bool, true, false, ℤ}
use Rattle.std.specs.Prelude.{Option, Some, None, nat_le, int_le, ◌&&◌, if◌then◌else◌}
use Rattle.std.proofs.lemmas.Bool.Decides.{nat_tests}
use Rattle.zk_service.specs.declared.update.UpdateRec.{UpdateRec}
use Rattle.zk_transcript.specs.declared.transcript.TranscriptLine.{TranscriptLine}
use Rattle.zk_jute.specs.Requests.{read_request}
use Rattle.zk_service.specs.Answers.{Told, plain_reply, xid_of, has_header}
use Rattle.zk_transcript.specs.History.{after}
use Rattle.zk_model.specs.Watches.{is_unarmed}
use Rattle.zk_transcript.specs.Walks.{Walker, Choice, Tell, Plain, Answer, Due, move, walk, entry_step, told_update, next_update, then_due, placed_frame, own_update, answer_plainly, plain_answer, later_of, reply_step_if, told_as_of, may_answer_at, answer_as_of, fired_above}
use Rattle.std.proofs.lemmas.Bool.{and_from, and_parts}
use Rattle.zk_transcript.proofs.Longer.{then_due-next}

-- v is w with a moment that is not greater
pub record IsEarlier (v w : Walker) : Type 0 where
  pub zxid : v.zxid ≡ w.zxid
  pub since : v.since ≡ w.since
  pub watches : v.watches ≡ w.watches
  pub next : v.next ≡ w.next
  pub over : v.over ≡ w.over
  pub moment : v.moment ≤ w.moment

abbrev pub with_moment : Walker → ℕ → Walker
with_moment w m = record w { moment = m }

pub earlier-is : (v w : Walker) → IsEarlier v w → v ≡ with_moment w v.moment
earlier-is v w e = go v.zxid v.since v.watches v.next v.over e.zxid e.since e.watches e.next e.over
  where
    go : (z : ℤ) (s : ℕ) (a : _) (n : ℕ) (o : Bool) → z ≡ w.zxid → s ≡ w.since → a ≡ w.watches → n ≡ w.next → o ≡ w.over
        → ◌≡◌ {A = Walker} (record { zxid = z; since = s; watches = a; next = n; moment = v.moment; over = o }) (with_moment w v.moment)
    go z s a n o p q r t u = cc

-- the same packets, and walkers that differ by no more
pub record IsNoLater (o : Option (Walker × List Due)) (y : Walker × List Due) : Type 0 where
  pub walker : Walker
  pub there : o ≡ Some (walker, y.1)
  pub earlier : IsEarlier walker y.0

same-walker : (o : Option (Walker × List Due)) (y : Walker × List Due) → o ≡ Some y → IsNoLater o y
same-walker o y h = record { walker = y.0; there = h; earlier = record { zxid = refl; since = refl; watches = refl; next = refl; over = refl; moment = omega arith } }

-- a result, and what it is where the moment is a lesser one
put-back : (z y : Walker × List Due) (m : ℕ) → ◌≡◌ {A = Option (Walker × List Due)} (Some z) (Some y) → m ≤ z.0.moment → IsNoLater (Some (with_moment z.0 m, z.1)) y
put-back z y m e le =
    let s : z ≡ y = cc in
    subst (IsNoLater (Some (with_moment z.0 m, z.1))) s (record { walker = with_moment z.0 m; there = refl; earlier = record { zxid = refl; since = refl; watches = refl; next = refl; over = refl; moment = le } })

told-earlier : (lines : List TranscriptLine) (w : Walker) (m : ℕ) (o : Option (ℕ × ℤ)) (y : Walker × List Due) → m ≤ w.moment → told_update lines w o ≡ Some y → IsNoLater (told_update lines (with_moment w m) o) y
told-earlier lines w m None y le h = absurd (cc)
told-earlier lines w m (Some u) y le h = put-back _ y m h le

tell-earlier : (lines : List TranscriptLine) (w : Walker) (m : ℕ) (y : Walker × List Due) → m ≤ w.moment → entry_step lines w ≡ Some y → IsNoLater (entry_step lines (with_moment w m)) y
tell-earlier lines w m y le h = go (is_unarmed w.watches) h
  where
    go : (b : Bool) → (if b then None else told_update lines w (next_update w.zxid lines)) ≡ Some y → IsNoLater (if b then None else told_update lines (with_moment w m) (next_update w.zxid lines)) y
    go true e = absurd (cc)
    go false e = told-earlier lines w m (next_update w.zxid lines) y le e

plain-earlier : (w : Walker) (m k : ℕ) (xid : ℤ) (o : Option Told) (y : Walker × List Due) → m ≤ w.moment → plain_answer w k xid o ≡ Some y → IsNoLater (plain_answer (with_moment w m) k xid o) y
plain-earlier w m k xid None y le h = absurd (cc)
plain-earlier w m k xid (Some r) y le h = put-back _ y m h le

plainly-earlier : (w : Walker) (m : ℕ) (o : Option (ℕ × List ℕ)) (y : Walker × List Due) → m ≤ w.moment → answer_plainly w o ≡ Some y → IsNoLater (answer_plainly (with_moment w m) o) y
plainly-earlier w m None y le h = absurd (cc)
plainly-earlier w m (Some f) y le h = plain-earlier w m (later_of w.since (f.0 + 1)) (xid_of (read_request f.1)) (plain_reply w.watches (read_request f.1)) y le h

-- an answer as of a moment forgets the last one
reply-earlier : (past : List TranscriptLine) (w : Walker) (m k : ℕ) (xid : ℤ) (fired : List Due) (o : Option (Bool × Told)) → reply_step_if past (with_moment w m) k xid fired o ≡ reply_step_if past w k xid fired o
reply-earlier past w m k xid fired None = refl
reply-earlier past w m k xid fired (Some t) = refl

may-earlier : (past : List TranscriptLine) (w : Walker) (m : ℕ) → m ≤ w.moment → may_answer_at past w ≡ true → may_answer_at past (with_moment w m) ≡ true
may-earlier past w m le h =
    let q = and_parts (nat_le w.moment (length past)) (int_le w.zxid (after past).zxid) h in
    let a = q.0 in
    and_from (nat_le m (length past)) (int_le w.zxid (after past).zxid) (grind (arith, nat_tests)) q.1

pub if-both : (a b : Bool) (o : Option (Walker × List Due)) (y : Walker × List Due) → (if a && b then o else None) ≡ Some y → (a ≡ true) × (b ≡ true) × (o ≡ Some y)
if-both true true o y h = (refl, refl, h)
if-both true false o y h = absurd (cc)
if-both false b o y h = absurd (cc)

as-of-earlier : (past : List TranscriptLine) (c : ℕ) (id : ℤ) (w : Walker) (m : ℕ) (own : Option (ℕ × UpdateRec)) (o : Option (ℕ × List ℕ)) (y : Walker × List Due) → m ≤ w.moment
    → answer_as_of past c id w own o ≡ Some y → answer_as_of past c id (with_moment w m) own o ≡ Some y
unfolding answer_as_of
as-of-earlier past c id w m own None y le h = h
as-of-earlier past c id w m own (Some f) y le h =
    let x = read_request f.1 in
    let g = fired_above past w.zxid w.watches in
    let q = if-both (may_answer_at past w) (has_header x) (reply_step_if past w f.0 (xid_of x) g.1 (told_as_of past c id x g.0 own)) y h in
    ap (λ b. if b then reply_step_if past (with_moment w m) f.0 (xid_of x) g.1 (told_as_of past c id x g.0 own) else None)
    (and_from (may_answer_at past (with_moment w m)) (has_header x) (may-earlier past w m le q.0) q.1)
    ∙ reply-earlier past w m f.0 (xid_of x) g.1 (told_as_of past c id x g.0 own) ∙ q.2

answer-earlier : (lines : List TranscriptLine) (c : ℕ) (id : ℤ) (w : Walker) (m k : ℕ) (y : Walker × List Due) → m ≤ w.moment → move lines c id w (Answer k) ≡ Some y → move lines c id (with_moment w m) (Answer k) ≡ Some y
unfolding move
answer-earlier lines c id w m k y le h = go w.over (nat_le k (length lines)) h
  where
    go : (a b : Bool) → (if a then None else if b then answer_as_of (take k lines) c id w (own_update c w.next lines) (placed_frame c w.next lines) else None) ≡ Some y
        → (if a then None else if b then answer_as_of (take k lines) c id (with_moment w m) (own_update c w.next lines) (placed_frame c w.next lines) else None) ≡ Some y
    go true b e = e
    go false true e = as-of-earlier (take k lines) c id w m (own_update c w.next lines) (placed_frame c w.next lines) y le e
    go false false e = e

plain-move-earlier : (lines : List TranscriptLine) (c : ℕ) (id : ℤ) (w : Walker) (m : ℕ) (y : Walker × List Due) → m ≤ w.moment → move lines c id w Plain ≡ Some y → IsNoLater (move lines c id (with_moment w m) Plain) y
unfolding move
plain-move-earlier lines c id w m y le h = go w.over h
  where
    go : (b : Bool) → (if b then None else answer_plainly w (placed_frame c w.next lines)) ≡ Some y → IsNoLater (if b then None else answer_plainly (with_moment w m) (placed_frame c w.next lines)) y
    go true e = absurd (cc)
    go false e = plainly-earlier w m (placed_frame c w.next lines) y le e

tell-move-earlier : (lines : List TranscriptLine) (c : ℕ) (id : ℤ) (w : Walker) (m : ℕ) (y : Walker × List Due) → m ≤ w.moment → move lines c id w Tell ≡ Some y → IsNoLater (move lines c id (with_moment w m) Tell) y
unfolding move
tell-move-earlier lines c id w m y le h = tell-earlier lines w m y le h

with-earlier : (lines : List TranscriptLine) (c : ℕ) (id : ℤ) (w : Walker) (m : ℕ) (x : Choice) (y : Walker × List Due) → m ≤ w.moment → move lines c id w x ≡ Some y → IsNoLater (move lines c id (with_moment w m) x) y
with-earlier lines c id w m Tell y le h = tell-move-earlier lines c id w m y le h
with-earlier lines c id w m Plain y le h = plain-move-earlier lines c id w m y le h
with-earlier lines c id w m (Answer k) y le h = same-walker (move lines c id (with_moment w m) (Answer k)) y (answer-earlier lines c id w m k y le h)

-- one choice
pub move-earlier : (lines : List TranscriptLine) (c : ℕ) (id : ℤ) (v w : Walker) (x : Choice) (y : Walker × List Due) → IsEarlier v w → move lines c id w x ≡ Some y → IsNoLater (move lines c id v x) y
move-earlier lines c id v w x y e h = subst (λ (u : Walker). IsNoLater (move lines c id u x) y) (sym (earlier-is v w e)) (with-earlier lines c id w v.moment x y e.moment h)

-- all later choices
pub walk-earlier : (lines : List TranscriptLine) (c : ℕ) (id : ℤ) (v w : Walker) (xs : List Choice) (r : Walker × List Due) → IsEarlier v w → walk lines c id w xs ≡ Some r → IsNoLater (walk lines c id v xs) r
unfolding walk
walk-earlier lines c id v w [] r e h =
    let s : (w, []) ≡ r = cc in
    subst (IsNoLater (Some (v, []))) s (record { walker = v; there = refl; earlier = e })
walk-earlier lines c id v w (x ∷ xs) r e h = go (move lines c id w x) refl (λ a b q f g. walk-earlier lines c id a b xs q f g) h
  where
    go : (o : Option (Walker × List Due)) → move lines c id w x ≡ o
        → ((a b : Walker) (q : Walker × List Due) → IsEarlier a b → walk lines c id b xs ≡ Some q → IsNoLater (walk lines c id a xs) q)
        → (elim o [ None ↦ None | Some y ↦ then_due y.1 (walk lines c id y.0 xs) ]) ≡ Some r
        → IsNoLater (elim (move lines c id v x) [ None ↦ None | Some y ↦ then_due y.1 (walk lines c id y.0 xs) ]) r
    go None f later t = absurd (cc)
    go (Some y) f later t =
        let n = move-earlier lines c id v w x y e f in
        let s = then_due-next y.1 (walk lines c id y.0 xs) r t in
        let l = later n.walker y.0 s.0 n.earlier s.1 in
        record {
          walker = l.walker;
          there = ap (λ (o : Option (Walker × List Due)). elim o [ None ↦ None | Some u ↦ then_due u.1 (walk lines c id u.0 xs) ]) n.there ∙ ap (then_due y.1) l.there ∙ ap (λ ds. Some (l.walker, ds)) s.3;
          earlier = subst (IsEarlier l.walker) s.2 l.earlier;
        }
