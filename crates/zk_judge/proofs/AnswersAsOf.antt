-- Answers as of a moment, by what is told.
use Rattle.std.proofs.Common.{◌≡◌, ℕ, ℤ, Bool, true, false, ◌&&◌, List, Option, Some, None, take, refl, ap, sym, ◌∙◌, arith}
use Rattle.std.specs.Prelude.{if◌then◌else◌, nat_le, length, ◌<◌, ◌≤◌}
use Rattle.std.proofs.lemmas.Bool.Decides.{nat_tests}
use Rattle.zk_jute.specs.Requests.{Frame, read_request}
use Rattle.zk_service.specs.declared.update.UpdateRec.{UpdateRec}
use Rattle.zk_transcript.specs.declared.transcript.TranscriptLine.{TranscriptLine}
use Rattle.zk_model.specs.Watches.{Watches}
use Rattle.zk_service.specs.Answers.{Told, xid_of, has_header}
use Rattle.zk_transcript.specs.Walks.{Answer, Due, Walker, answer_as_of, fired_above, may_answer_at, move, own_update, placed_frame, reply_step, reply_step_if, told_as_of}
use Rattle.zk_judge.specs.NextFrames.{before_frame}
use Rattle.zk_judge.specs.Seen.{answer_after}

if-is : {A : Type 0} (b : Bool) (o p : A) → b ≡ true → (if b then o else p) ≡ o
if-is true o p is = refl
if-is false o p is = absurd (cc)

if-not : {A : Type 0} (b : Bool) (o p : A) → b ≡ false → (if b then o else p) ≡ p
if-not true o p is = absurd (cc)
if-not false o p is = refl

pub answered : (past : List TranscriptLine) (c : ℕ) (id : ℤ) (w : Walker) (own : Option (ℕ × UpdateRec)) (k : ℕ) (bytes : List ℕ) (x : Frame)
    → x ≡ read_request bytes → (may_answer_at past w && has_header x) ≡ true → answer_after past c id w own k x ≡ answer_as_of past c id w own (Some (k, bytes))
unfolding answer_as_of
answered past c id w own k bytes x is may = rw (← is) (sym (if-is (may_answer_at past w && has_header x) (answer_after past c id w own k x) None may))

pub not-answered : (past : List TranscriptLine) (c : ℕ) (id : ℤ) (w : Walker) (own : Option (ℕ × UpdateRec)) (k : ℕ) (bytes : List ℕ) (x : Frame)
    → x ≡ read_request bytes → (may_answer_at past w && has_header x) ≡ false → None ≡ answer_as_of past c id w own (Some (k, bytes))
unfolding answer_as_of
not-answered past c id w own k bytes x is may = rw (← is) (sym (if-not (may_answer_at past w && has_header x) (answer_after past c id w own k x) None may))

-- ---- as choices

pub answer-over : (lines : List TranscriptLine) (c : ℕ) (id : ℤ) (w : Walker) (m : ℕ) → w.over ≡ true → None ≡ move lines c id w (Answer m)
unfolding move
answer-over lines c id w m over = rw over refl

pub answer-beyond : (lines : List TranscriptLine) (c : ℕ) (id : ℤ) (w : Walker) (m : ℕ) → length lines < m → None ≡ move lines c id w (Answer m)
unfolding move
answer-beyond lines c id w m beyond =
    let is : nat_le m (length lines) ≡ false = grind (arith, nat_tests) in
    rw is (by w.over)
  where
    by : (b : Bool) → ◌≡◌ {A = Option (Walker × List Due)} None (if b then None else None)
    by true = refl
    by false = refl

pub answer-moves : (lines : List TranscriptLine) (c : ℕ) (id : ℤ) (w : Walker) (m : ℕ) → w.over ≡ false → m ≤ length lines
    → answer_as_of (take m lines) c id w (own_update c w.next lines) (placed_frame c w.next lines) ≡ move lines c id w (Answer m)
unfolding move
answer-moves lines c id w m over within =
    let is : nat_le m (length lines) ≡ true = grind (arith, nat_tests) in
    rw (over, is) refl

pub no-frame : (past : List TranscriptLine) (c : ℕ) (id : ℤ) (w : Walker) (own : Option (ℕ × UpdateRec)) → None ≡ answer_as_of past c id w own None
unfolding answer_as_of
no-frame past c id w own = refl

pub answer-unframed : (lines : List TranscriptLine) (c : ℕ) (id : ℤ) (w : Walker) (m : ℕ) → w.over ≡ false → m ≤ length lines → None ≡ placed_frame c w.next lines → None ≡ move lines c id w (Answer m)
answer-unframed lines c id w m over within none =
    no-frame (take m lines) c id w (own_update c w.next lines)
    ∙ ap (answer_as_of (take m lines) c id w (own_update c w.next lines)) none
    ∙ answer-moves lines c id w m over within

pub answer-asked : (lines past : List TranscriptLine) (c : ℕ) (id : ℤ) (w : Walker) (m i : ℕ) (own : Option (ℕ × UpdateRec))
    → past ≡ take m lines → w.over ≡ false → m ≤ length lines → own ≡ own_update c i lines → i ≡ w.next → answer_as_of past c id w own (placed_frame c w.next lines) ≡ move lines c id w (Answer m)
answer-asked lines past c id w m i own is over within carried next = rw (is, carried, next) (answer-moves lines c id w m over within)

-- ---- after what fired

-- of the walker only the frame that it answers next has a part in what follows
same-next : (past : List TranscriptLine) (w : Walker) (k i : ℕ) (xid : ℤ) (ds : List Due) (o : Option (Bool × Told)) → i ≡ w.next → reply_step_if past (before_frame i) k xid ds o ≡ reply_step_if past w k xid ds o
same-next past w k i xid ds None same = refl
same-next past w k i xid ds (Some t) same = ap (λ (j : ℕ). Some (reply_step past (before_frame j) k xid ds t)) same

pub answer-fired : (past : List TranscriptLine) (c : ℕ) (id : ℤ) (w : Walker) (own : Option (ℕ × UpdateRec)) (k i : ℕ) (x : Frame) (g : Watches × List Due) → i ≡ w.next → g ≡ fired_above past w.zxid w.watches
    → reply_step_if past (before_frame i) k (xid_of x) g.1 (told_as_of past c id x g.0 own) ≡ answer_after past c id w own k x
answer-fired past c id w own k i x g next first =
    same-next past w k i (xid_of x) g.1 (told_as_of past c id x g.0 own) next
    ∙ ap (λ (f : Watches × List Due). reply_step_if past w k (xid_of x) f.1 (told_as_of past c id x f.0 own)) first

-- the frame that is answered, as it is placed
pub asked-placed : (lines past : List TranscriptLine) (c : ℕ) (id : ℤ) (w : Walker) (own : Option (ℕ × UpdateRec)) (i : ℕ) (f : ℕ × List ℕ) → placed_frame c i lines ≡ Some f → i ≡ w.next
    → answer_as_of past c id w own (Some f) ≡ answer_as_of past c id w own (placed_frame c w.next lines)
asked-placed lines past c id w own i f placed next = ap (answer_as_of past c id w own) (sym placed ∙ ap (λ (j : ℕ). placed_frame c j lines) next)
