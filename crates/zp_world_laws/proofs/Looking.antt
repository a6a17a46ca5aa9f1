-- The moment after all lines may be that of an answer; and a request without a line, or with the line that was just added.
use Rattle.std.proofs.Common.{◌≡◌, ℕ, zero, suc, ◌+◌, ◌≤◌, ◌<◌, List, [], ◌∷◌, ◌++◌, length, take, refl, sym, ap, ◌∙◌, arith, Bool, true, false, ℤ}
use Rattle.std.specs.Prelude.{Option, Some, None, ◌&&◌, ◌==◌, slice_get}
use Rattle.std.proofs.lemmas.Bool.{and_parts}
use Rattle.std.proofs.lemmas.Bool.Decides.{nat_tests}
use Rattle.zk_jute.specs.Requests.{read_request}
use Rattle.zk_transcript.proofs.Longer.{if_Some, then_Some, then_due-next}
use Rattle.zk_transcript.proofs.Walks.{first_place-bound}
use Rattle.zk_service.specs.Answers.{Told, plain_reply, xid_of, has_header}
use Rattle.zk_transcript.specs.History.{first_place, frame_shown, when}
use Rattle.zk_transcript.specs.Legal.{attach_of, attach_shown, index_in, index_shown, is_below_place, is_legal}
use Rattle.zk_transcript.specs.Walks.{Answer, Choice, Due, Plain, Tell, Walker, answer_as_of, answer_plainly, at_start, fired_above, later_of, may_answer_at, move, next_update, own_update, own_update_in, own_update_shown, placed_frame, plain_answer, reply_step_if, then_due, told_update, walk}
use Rattle.zk_transcript.specs.declared.transcript.TranscriptLine.{TranscriptLine}
use Rattle.zk_transcript.specs.declared.transcript.TranscriptLine.TheVariants.{Update, Open, Frame as FrameLine, Send, Lapse, Close}
use Rattle.zk_service.specs.declared.update.UpdateKind.{UpdateKind}
use Rattle.zk_service.specs.declared.update.UpdateKind.TheVariants.{Begin, Session as NewSession, Attach, Asked, Closed, Reaped}
use Rattle.zk_service.specs.declared.update.UpdateRec.{UpdateRec}
use Rattle.zk_model.specs.Watches.{is_unarmed}
use Rattle.zx_base.proofs.Options.{none_some, some_is}
use Rattle.zp_step.specs.Stages.{Core}
use Rattle.zp_laws.proofs.Strides.{placed}
use Rattle.zp_laws.specs.Standing.{IsMoment, IsPastFrame, Matches, is_ahead}
use Rattle.zp_world_laws.specs.Bounds.{attachment}
use Rattle.zp_world_laws.specs.Holding.{Talks}

-- ---- no walker's moment is beyond the lines

reply-moment : (past : List TranscriptLine) (w : Walker) (k : ℕ) (xid : ℤ) (fired : List Due) (o : Option (Bool × Told)) (y : Walker × List Due) → reply_step_if past w k xid fired o ≡ Some y → y.0.moment ≡ length past
reply-moment past w k xid fired None y h = absurd (none_some h)
reply-moment past w k xid fired (Some t) y h = ap (λ (p : Walker × List Due). p.0.moment) (sym (some_is h))

as_of-moment : (past : List TranscriptLine) (c : ℕ) (id : ℤ) (w : Walker) (own : Option (ℕ × UpdateRec)) (o : Option (ℕ × List ℕ)) (y : Walker × List Due) → answer_as_of past c id w own o ≡ Some y → y.0.moment ≡ length past
unfolding answer_as_of
as_of-moment past c id w own None y h = absurd (none_some h)
as_of-moment past c id w own (Some f) y h =
    reply-moment past w f.0 (xid_of (read_request f.1)) (fired_above past w.zxid w.watches).1 _ y
    (then_Some (may_answer_at past w && has_header (read_request f.1)) _ y h)

answer-moment : (lines : List TranscriptLine) (c m : ℕ) (id : ℤ) (w : Walker) (y : Walker × List Due) → move lines c id w (Answer m) ≡ Some y → y.0.moment ≡ length (take m lines)
unfolding move
answer-moment lines c m id w y h = as_of-moment (take m lines) c id w (own_update c w.next lines) (placed_frame c w.next lines) y (then_Some _ _ y (if_Some w.over _ y h))

told-moment : (lines : List TranscriptLine) (w : Walker) (o : Option (ℕ × ℤ)) (y : Walker × List Due) → told_update lines w o ≡ Some y → y.0.moment ≡ w.moment
told-moment lines w None y h = absurd (none_some h)
told-moment lines w (Some u) y h = ap (λ (p : Walker × List Due). p.0.moment) (sym (some_is h))

plain-moment : (w : Walker) (k : ℕ) (xid : ℤ) (o : Option Told) (y : Walker × List Due) → plain_answer w k xid o ≡ Some y → y.0.moment ≡ w.moment
plain-moment w k xid None y h = absurd (none_some h)
plain-moment w k xid (Some t) y h = ap (λ (p : Walker × List Due). p.0.moment) (sym (some_is h))

plainly-moment : (w : Walker) (o : Option (ℕ × List ℕ)) (y : Walker × List Due) → answer_plainly w o ≡ Some y → y.0.moment ≡ w.moment
plainly-moment w None y h = absurd (none_some h)
plainly-moment w (Some f) y h = plain-moment w (later_of w.since (f.0 + 1)) (xid_of (read_request f.1)) (plain_reply w.watches (read_request f.1)) y h

take-short : {A : Type 0} (m : ℕ) (xs : List A) → length (take m xs) ≤ length xs
take-short zero xs = omega arith
take-short (suc m) [] = omega arith
take-short (suc m) (x ∷ xs) = omega (arith, take-short m xs)

move-moment : (lines : List TranscriptLine) (c : ℕ) (id : ℤ) (w : Walker) (x : Choice) (y : Walker × List Due) → move lines c id w x ≡ Some y → w.moment ≤ length lines → y.0.moment ≤ length lines
unfolding move
move-moment lines c id w Tell y h le = omega (arith, le, told-moment lines w (next_update w.zxid lines) y (if_Some (is_unarmed w.watches) _ y h))
move-moment lines c id w Plain y h le = omega (arith, le, plainly-moment w (placed_frame c w.next lines) y (if_Some w.over _ y h))
move-moment lines c id w (Answer m) y h le = omega (arith, answer-moment lines c m id w y h, take-short m lines)

pub walk-moment : (lines : List TranscriptLine) (c : ℕ) (id : ℤ) (w : Walker) (xs : List Choice) (r : Walker × List Due) → walk lines c id w xs ≡ Some r → w.moment ≤ length lines → r.0.moment ≤ length lines
unfolding walk
walk-moment lines c id w [] r h le = let e : (w, []) ≡ r = cc in omega (arith, le, ap (λ (p : Walker × List Due). p.0.moment) e)
walk-moment lines c id w (x ∷ xs) r h le = go (move lines c id w x) refl (λ v q e f. walk-moment lines c id v xs q e f) h
  where
    go : (o : Option (Walker × List Due)) → move lines c id w x ≡ o → ((v : Walker) (q : Walker × List Due) → walk lines c id v xs ≡ Some q → v.moment ≤ length lines → q.0.moment ≤ length lines)
        → (elim o [ None ↦ None | Some y ↦ then_due y.1 (walk lines c id y.0 xs) ]) ≡ Some r → r.0.moment ≤ length lines
    go None e later t = absurd (none_some t)
    go (Some y) e later t = let s = then_due-next y.1 (walk lines c id y.0 xs) r t in
        omega (arith, later y.0 s.0 s.1 (move-moment lines c id w x y e le), ap (λ (v : Walker). v.moment) s.2)

-- ---- the moment after all lines

pub moment-now : (lines : List TranscriptLine) (c : ℕ) (core : Core) (w : Walker) (k : ℕ) → is_legal lines ≡ true → attach_of c lines ≡ Some (k, attachment core.who) → Talks lines c k (attachment core.who) w → Matches lines core w
    → IsMoment lines c core.who w (length lines)
moment-now lines c core w k legal attached t m =
    let a = first_place-bound (attach_shown c) 0 lines (k, attachment core.who) attached in
    record {
      past = omega arith;
      later = walk-moment lines c core.who.session (at_start core.who.mine (k + 1)) t.choices (w, t.due) t.walked (omega arith);
      told = let p = placed lines core w legal m in omega (arith, p.since, p.within);
      place = k;
      attached = attached;
      since = omega (arith, a);
    }

-- each frame that has come has its line before it
pub past-now : (lines : List TranscriptLine) (c i : ℕ) → IsPastFrame lines c i (length lines)
past-now lines c i j bytes e = let b = first_place-bound (frame_shown c i) 0 lines (j, bytes) e in omega (arith, b)

-- ---- a request without a line

below-none : (c i e j : ℕ) (u : UpdateRec) → is_below_place i (when (c == e) j) ≡ true → when ((c == e) && (i == j)) u ≡ None
below-none c i e j u h = go (c == e) (i == j) refl h
  where
    go : (p q : Bool) → (i == j) ≡ q → is_below_place i (when p j) ≡ true → when (p && q) u ≡ None
    go false q s g = refl
    go true false s g = refl
    go true true s g = let same : i ≡ j = grind (arith, nat_tests) in let less : j < i = grind (arith, nat_tests) in absurd (omega (arith, same, less))

kind-none : (c i : ℕ) (u : UpdateRec) (kind : UpdateKind) → is_below_place i (index_in c kind) ≡ true → own_update_in c i u kind ≡ None
kind-none c i u (Begin now) h = refl
kind-none c i u (NewSession id d) h = refl
kind-none c i u (Attach id d) h = refl
kind-none c i u (Asked d j now) h = below-none c i d j u h
kind-none c i u (Closed id d j) h = below-none c i d j u h
kind-none c i u (Reaped id) h = refl

shown-none : (c i : ℕ) (l : TranscriptLine) → is_below_place i (index_shown c l) ≡ true → own_update_shown c i l ≡ None
shown-none c i (Update u) h = kind-none c i u u.kind h
shown-none c i (Open a b d e layout) h = refl
shown-none c i (FrameLine a b d e) h = refl
shown-none c i (Send a b) h = refl
shown-none c i (Lapse a b) h = refl
shown-none c i (Close a b) h = refl

pub ahead-none : (lines : List TranscriptLine) (k c i : ℕ) → is_ahead lines c i ≡ true → first_place (own_update_shown c i) k lines ≡ None
ahead-none [] k c i h = refl
ahead-none (l ∷ ls) k c i h =
    let q = and_parts (is_below_place i (index_shown c l)) (is_ahead ls c i) h in
    ap (λ o. elim o as (λ (p : Option UpdateRec). Option (ℕ × UpdateRec)) [ Some z ↦ Some (k, z) | None ↦ first_place (own_update_shown c i) (k + 1) ls ]) (shown-none c i l q.0) ∙ ahead-none ls (k + 1) c i q.1

pub get-last : {A : Type 0} (ls : List A) (l : A) → slice_get (ls ++ l ∷ []) (length ls) ≡ Some l
get-last [] l = refl
get-last (x ∷ ls) l = get-last ls l
