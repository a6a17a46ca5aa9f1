-- What an answer as of a moment is made of, and what the packets show of it: notices, and after them its reply.
use Rattle.std.proofs.Common.{◌≡◌, ℕ, ◌+◌, ◌≤◌, List, [], ◌∷◌, ◌++◌, length, take, refl, sym, ap, ◌∙◌, arith, Bool, true, false, ℤ, negsuc}
use Rattle.std.specs.Prelude.{Option, Some, None, ◌&&◌, nat_le, bytes_eq, if◌then◌else◌}
use Rattle.std.specs.List.{list_all}
use Rattle.std.specs.Ordering.{int_eq}
use Rattle.std.proofs.lemmas.Slice.Eq.{bytes_eq-Decides}
use Rattle.std.proofs.lemmas.Bool.{and_from, and_parts}
use Rattle.std.proofs.lemmas.Bool.Decides.{nat_tests}
use Rattle.zk_model.specs.declared.reply.Notice.{Notice}
use Rattle.zk_model.specs.Watches.{Watches}
use Rattle.zk_jute.specs.Requests.{read_request}
use Rattle.zk_jute.specs.Packets.{reply_packet}
use Rattle.zk_transcript.specs.declared.transcript.TranscriptLine.{TranscriptLine}
use Rattle.zk_service.specs.Answers.{Told, xid_of, has_header}
use Rattle.zk_transcript.specs.History.{after}
use Rattle.zk_transcript.specs.Walks.{Walker, Answer, Due, move, due_notices, fired_at, is_above, then_fired, fired_from, fired_above, placed_frame, own_update, later_of, told_as_of, reply_step, reply_step_if, may_answer_at, answer_as_of, after_update}
use Rattle.zk_transcript.proofs.Longer.{if_Some, then_Some}
use Rattle.zk_least.specs.LeastWalk.{is_notice, next_reply, rest_after}
use Rattle.zk_least.proofs.EarlierMoments.{if-both}
use Rattle.zk_least.proofs.Rising.{IsLong}
use Rattle.zk_least.proofs.Headers.{notice-zxid, not-notice}

-- ---- what an answer as of a moment was made of

pub record IsMade (lines : List TranscriptLine) (c : ℕ) (id : ℤ) (w : Walker) (m : ℕ) (y : Walker × List Due) : Type 0 where
  pub place : ℕ
  pub bytes : List ℕ
  pub what : Bool × Told
  pub within : m ≤ length lines
  pub live : w.over ≡ false
  pub frame : placed_frame c w.next lines ≡ Some (place, bytes)
  pub may_answer : may_answer_at (take m lines) w ≡ true
  pub header : has_header (read_request bytes) ≡ true
  pub told : told_as_of (take m lines) c id (read_request bytes) (fired_above (take m lines) w.zxid w.watches).0 (own_update c w.next lines) ≡ Some what
  pub gives : reply_step (take m lines) w place (xid_of (read_request bytes)) (fired_above (take m lines) w.zxid w.watches).1 what ≡ y

small-of : (m n : ℕ) (o : Option (Walker × List Due)) (y : Walker × List Due) → (if nat_le m n then o else None) ≡ Some y → m ≤ n
small-of m n o y h = go (nat_le m n) refl h
  where
    go : (b : Bool) → nat_le m n ≡ b → (if b then o else None) ≡ Some y → m ≤ n
    go true e f = grind (arith, nat_tests)
    go false e f = absurd (cc)

if-live : (b : Bool) (o : Option (Walker × List Due)) (y : Walker × List Due) → (if b then None else o) ≡ Some y → b ≡ false
if-live true o y h = absurd (cc)
if-live false o y h = refl

as-of-made : (lines : List TranscriptLine) (c : ℕ) (id : ℤ) (w : Walker) (m : ℕ) (y : Walker × List Due) (o : Option (ℕ × List ℕ)) → m ≤ length lines → w.over ≡ false → placed_frame c w.next lines ≡ o
    → answer_as_of (take m lines) c id w (own_update c w.next lines) o ≡ Some y → IsMade lines c id w m y
unfolding answer_as_of
as-of-made lines c id w m y None le live e h = absurd (cc)
as-of-made lines c id w m y (Some f) le live e h =
    let x = read_request f.1 in
    let g = fired_above (take m lines) w.zxid w.watches in
    let o = told_as_of (take m lines) c id x g.0 (own_update c w.next lines) in
    let q = if-both (may_answer_at (take m lines) w) (has_header x) (reply_step_if (take m lines) w f.0 (xid_of x) g.1 o) y h in
    go o refl q.0 q.1 q.2
  where
    go : (o : Option (Bool × Told)) → told_as_of (take m lines) c id (read_request f.1) (fired_above (take m lines) w.zxid w.watches).0 (own_update c w.next lines) ≡ o
        → may_answer_at (take m lines) w ≡ true → has_header (read_request f.1) ≡ true
        → reply_step_if (take m lines) w f.0 (xid_of (read_request f.1)) (fired_above (take m lines) w.zxid w.watches).1 o ≡ Some y → IsMade lines c id w m y
    go None t a b g = absurd (cc)
    go (Some what) t a b g = record { place = f.0; bytes = f.1; what = what; within = le; live = live; frame = e; may_answer = a; header = b; told = t; gives = (let s : reply_step (take m lines) w f.0 (xid_of (read_request f.1)) (fired_above (take m lines) w.zxid w.watches).1 what ≡ y = cc in s) }

pub made : (lines : List TranscriptLine) (c : ℕ) (id : ℤ) (w : Walker) (m : ℕ) (y : Walker × List Due) → move lines c id w (Answer m) ≡ Some y → IsMade lines c id w m y
unfolding move
made lines c id w m y h =
    as-of-made lines c id w m y (placed_frame c w.next lines) (small-of m (length lines) _ y (if_Some w.over _ y h))
    (if-live w.over _ y h) refl
    (then_Some (nat_le m (length lines)) _ y (if_Some w.over _ y h))

-- ---- notices stand before the reply

abbrev pub are_notices : List Due → Bool
are_notices ds = list_all (λ (d : Due). is_notice d.1) ds

pub due-notices : (k : ℕ) (ns : List Notice) → are_notices (due_notices k ns) ≡ true
due-notices k [] = refl
due-notices k (n ∷ ns) = ap (λ z. int_eq z (negsuc 0) && are_notices (due_notices k ns)) (notice-zxid n) ∙ due-notices k ns

both-notices : (xs ys : List Due) → are_notices xs ≡ true → are_notices ys ≡ true → are_notices (xs ++ ys) ≡ true
both-notices [] ys a b = b
both-notices (x ∷ xs) ys a b =
    let q = and_parts (is_notice x.1) (are_notices xs) a in
    ap (λ p. p && are_notices (xs ++ ys)) q.0 ∙ both-notices xs ys q.1 b

from-notices : (full : List TranscriptLine) (p : ℤ) (k : ℕ) (ls : List TranscriptLine) (x : Watches × List Due) → are_notices x.1 ≡ true → are_notices (fired_from full p k ls x).1 ≡ true
from-notices full p k [] x h = h
from-notices full p k (l ∷ ls) x h = from-notices full p (k + 1) ls (then_fired full k (is_above p l) x) (go (is_above p l))
  where
    go : (b : Bool) → are_notices (then_fired full k b x).1 ≡ true
    go true = both-notices x.1 (fired_at full k x.0).1 h (due-notices (k + 1) _)
    go false = h

pub fired-notices : (past : List TranscriptLine) (p : ℤ) (w : Watches) → are_notices (fired_above past p w).1 ≡ true
unfolding fired_above
fired-notices past p w = from-notices past p 0 past (w, []) refl

-- the reply is the first packet that is no notice
pub reply-next : (ds : List Due) (d : Due) (ps rest : List Due) → are_notices ds ≡ true → is_notice d.1 ≡ false → rest_after (ds ++ d ∷ []) ps ≡ Some rest → next_reply ps ≡ Some d.1
reply-next [] d [] rest a b h = absurd (cc)
reply-next [] d (p ∷ ps) rest a b h = go (nat_le d.0 p.0) (bytes_eq d.1 p.1) refl h
  where
    go : (u v : Bool) → bytes_eq d.1 p.1 ≡ v → (if u && v then Some ps else None) ≡ Some rest → (if is_notice p.1 then next_reply ps else Some p.1) ≡ Some d.1
    go true true e t =
        let same : d.1 ≡ p.1 = (bytes_eq-Decides d.1 p.1).0 e in
        ap (λ bs. if is_notice bs then next_reply ps else Some bs) (sym same) ∙ ap (λ q. if q then next_reply ps else Some d.1) b
    go true false e t = absurd (cc)
    go false v e t = absurd (cc)
reply-next (x ∷ xs) d [] rest a b h = absurd (cc)
reply-next (x ∷ xs) d (p ∷ ps) rest a b h = go (nat_le x.0 p.0) (bytes_eq x.1 p.1) refl (λ t. reply-next xs d ps rest (and_parts (is_notice x.1) (are_notices xs) a).1 b t) h
  where
    go : (u v : Bool) → bytes_eq x.1 p.1 ≡ v → (rest_after (xs ++ d ∷ []) ps ≡ Some rest → next_reply ps ≡ Some d.1) → (if u && v then rest_after (xs ++ d ∷ []) ps else None) ≡ Some rest
        → (if is_notice p.1 then next_reply ps else Some p.1) ≡ Some d.1
    go true true e ih t =
        let same : x.1 ≡ p.1 = (bytes_eq-Decides x.1 p.1).0 e in
        let note : is_notice p.1 ≡ true = ap is_notice (sym same) ∙ (and_parts (is_notice x.1) (are_notices xs) a).0 in
        ap (λ q. if q then next_reply ps else Some p.1) note ∙ ih t
    go true false e ih t = absurd (cc)
    go false v e ih t = absurd (cc)

-- the reply of an answer is the next that the packets show
pub shown-reply : (past : List TranscriptLine) (w : Walker) (k : ℕ) (xid : ℤ) (fired : List Due) (t : Bool × Told) (ps rest : List Due)
    → IsLong (after past).zxid → are_notices fired ≡ true
    → rest_after (reply_step past w k xid fired t).1 ps ≡ Some rest → next_reply ps ≡ Some (reply_packet xid (after past).zxid t.1.reply)
shown-reply past w k xid fired t ps rest long f h =
    let z = (after past).zxid in
    let own = due_notices (later_of (after_update z past) (k + 1)) t.1.notices in
    let d : Due = (later_of (length past) (k + 1), reply_packet xid z t.1.reply) in
    reply-next (fired ++ own) d ps rest (both-notices fired own f (due-notices (later_of (after_update z past) (k + 1)) t.1.notices)) (not-notice xid z t.1.reply long)
    h

-- ---- an answer as of a moment, from its parts

pub answer-move : (lines : List TranscriptLine) (c : ℕ) (id : ℤ) (w : Walker) (m k : ℕ) (bytes : List ℕ) (t : Bool × Told)
    → w.over ≡ false → m ≤ length lines → placed_frame c w.next lines ≡ Some (k, bytes) → may_answer_at (take m lines) w ≡ true → has_header (read_request bytes) ≡ true
    → told_as_of (take m lines) c id (read_request bytes) (fired_above (take m lines) w.zxid w.watches).0 (own_update c w.next lines) ≡ Some t
    → move lines c id w (Answer m) ≡ Some (reply_step (take m lines) w k (xid_of (read_request bytes)) (fired_above (take m lines) w.zxid w.watches).1 t)
unfolding move answer_as_of
answer-move lines c id w m k bytes t o le f op header told =
    let small : nat_le m (length lines) ≡ true = grind (arith, nat_tests) in
    ap (λ b. if b then None else if nat_le m (length lines) then answer_as_of (take m lines) c id w (own_update c w.next lines) (placed_frame c w.next lines) else None) o
    ∙ ap (λ b. if b then answer_as_of (take m lines) c id w (own_update c w.next lines) (placed_frame c w.next lines) else None) small
    ∙ ap (answer_as_of (take m lines) c id w (own_update c w.next lines)) f
    ∙ ap (λ b. if b then reply_step_if (take m lines) w k (xid_of (read_request bytes)) (fired_above (take m lines) w.zxid w.watches).1
    (told_as_of (take m lines) c id (read_request bytes) (fired_above (take m lines) w.zxid w.watches).0 (own_update c w.next lines)) else None)
    (and_from (may_answer_at (take m lines) w) (has_header (read_request bytes)) op header)
    ∙ ap (reply_step_if (take m lines) w k (xid_of (read_request bytes)) (fired_above (take m lines) w.zxid w.watches).1) told
