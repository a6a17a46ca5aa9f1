-- A moment that is allowed may be lowered, within its zxid, as far as the last reply's, the frame's line and the session let it.
use Rattle.std.proofs.Common.{◌≡◌, ℕ, ◌+◌, ◌≤◌, List, [], ◌∷◌, ◌++◌, length, take, length-take-le, refl, sym, ap, ◌∙◌, arith, Bool, true, false, ℤ, pos}
use Rattle.std.specs.Prelude.{Some, None, ◌&&◌, ◌<ℤ◌, ◌≤ℤ◌, is_some, nat_le, int_le, bytes_eq, if◌then◌else◌}
use Rattle.std.proofs.lemmas.Bool.{and_from, and_parts}
use Rattle.std.proofs.lemmas.Bool.Decides.{nat_tests}
use Rattle.std.proofs.lemmas.Int.{ints}
use Rattle.zk_model.specs.Watches.{Watches}
use Rattle.zk_jute.specs.Requests.{Frame, read_request}
use Rattle.zk_jute.specs.Packets.{reply_packet}
use Rattle.zk_transcript.specs.declared.transcript.TranscriptLine.{TranscriptLine}
use Rattle.zk_service.specs.Answers.{Told, xid_of}
use Rattle.zk_transcript.specs.History.{state_at}
use Rattle.zk_service.specs.States.{session_at}
use Rattle.zk_transcript.specs.Legal.{is_legal}
use Rattle.zk_transcript.specs.Walks.{Walker, Answer, Due, move, due_notices, fired_above, own_update, later_of, told_as_of, reply_step, after_update, is_fresh}
use Rattle.zk_least.specs.LeastWalk.{rest_after, given, is_allowed}
use Rattle.zk_least.proofs.Rising.{started}
use Rattle.zk_least.proofs.SameZxid.{IsLag, between, between-is, no-updates, moments-lag}
use Rattle.zk_least.proofs.Firing.{fired-same, since-same}
use Rattle.zk_least.proofs.Sound.{given-is}
use Rattle.zk_least.proofs.Answering.{made, answer-move}
use Rattle.zk_least.proofs.SameAnswer.{told_to, told-tree}
use Rattle.zk_least.proofs.Complete.{given-some, some-is}

rest_after-lower : (ds : List Due) (i j : ℕ) (bytes : List ℕ) (ps rest : List Due) → j ≤ i → rest_after (ds ++ (i, bytes) ∷ []) ps ≡ Some rest → rest_after (ds ++ (j, bytes) ∷ []) ps ≡ Some rest
rest_after-lower [] i j bytes [] rest le h = absurd (cc)
rest_after-lower [] i j bytes (p ∷ ps) rest le h = by (nat_le i p.0) (nat_le j p.0) (bytes_eq bytes p.1) refl refl h
  where
    by : (a b e : Bool) → nat_le i p.0 ≡ a → nat_le j p.0 ≡ b → (if a && e then Some ps else None) ≡ Some rest → (if b && e then Some ps else None) ≡ Some rest
    by true true e f g t = t
    by false b e f g t = absurd (cc)
    by true false e f g t = absurd (bad f g)
      where
        bad : nat_le i p.0 ≡ true → nat_le j p.0 ≡ false → ⊥
        bad f g = grind (arith, nat_tests)
rest_after-lower (d ∷ ds) i j bytes [] rest le h = absurd (cc)
rest_after-lower (d ∷ ds) i j bytes (p ∷ ps) rest le h = by (nat_le d.0 p.0 && bytes_eq d.1 p.1) (rest_after-lower ds i j bytes ps rest le) h
  where
    by : (b : Bool) → (rest_after (ds ++ (i, bytes) ∷ []) ps ≡ Some rest → rest_after (ds ++ (j, bytes) ∷ []) ps ≡ Some rest)
        → (if b then rest_after (ds ++ (i, bytes) ∷ []) ps else None) ≡ Some rest → (if b then rest_after (ds ++ (j, bytes) ∷ []) ps else None) ≡ Some rest
    by true ih t = ih t
    by false ih t = absurd (cc)

later-lower : (a b k : ℕ) → a ≤ b → later_of a k ≤ later_of b k
later-lower a b k h = by (nat_le a k) (nat_le b k) refl refl
  where
    by : (x y : Bool) → nat_le a k ≡ x → nat_le b k ≡ y → (if x then k else a) ≤ (if y then k else b)
    by true true e f = omega arith
    by true false e f = grind (arith, nat_tests)
    by false true e f = grind (arith, nat_tests)
    by false false e f = h

told-lower : (lines : List TranscriptLine) (c : ℕ) (id : ℤ) (x : Frame) (f g : Watches) (k m : ℕ) (t : Bool × Told) → IsLag (state_at lines k) (state_at lines m) → f ≡ g
    → session_at id (state_at lines k) ≡ session_at id (state_at lines m) → told_as_of (take m lines) c id x g None ≡ Some t → told_as_of (take k lines) c id x f None ≡ Some t
unfolding told_as_of
told-lower lines c id x f g k m t lag e s h =
    sym (told-tree (state_at lines k) (state_at lines m) c id x f (session_at id (state_at lines k)) lag.tree)
    ∙ ap (λ w. told_to (state_at lines m) c id x w (session_at id (state_at lines k))) e
    ∙ ap (told_to (state_at lines m) c id x g) s ∙ h

-- no packet and no notice stands in the way of a lesser moment of the same zxid at which the session is the same
pub lower-moment : (lines : List TranscriptLine) (c : ℕ) (id : ℤ) (w : Walker) (ps : List Due) (k m : ℕ) → is_legal lines ≡ true → pos 0 <ℤ w.zxid → own_update c w.next lines ≡ None
    → k ≤ m → w.moment ≤ k → is_fresh lines c w.next (Answer k) ≡ true → (state_at lines m).zxid ≡ (state_at lines k).zxid → session_at id (state_at lines k) ≡ session_at id (state_at lines m)
    → is_allowed lines c id w ps m ≡ true → is_allowed lines c id w ps k ≡ true
lower-moment lines c id w ps k m legal up own le after_last fresh same says h =
    let a = and_parts (is_fresh lines c w.next (Answer m)) (is_some (given ps (move lines c id w (Answer m)))) h in
    let y = some-is (given ps (move lines c id w (Answer m))) a.1 in
    let u = given-is ps (move lines c id w (Answer m)) y.0 y.1 in
    let mk = made lines c id w m u.0 u.1 in
    let bytes = mk.bytes in
    let xid = xid_of (read_request bytes) in
    let zk = (state_at lines k).zxid in
    let zm = (state_at lines m).zxid in
    let o = (and_parts (nat_le w.moment (length (take m lines))) (int_le w.zxid zm) mk.may_answer).1 in
    let lk = length-take-le k lines (omega (arith, le, mk.within)) in
    let reach : w.zxid ≤ℤ zm = grind (arith, nat_tests, ints) in
    let above : pos 0 <ℤ zk = omega (arith, ints, reach, up, same) in
    let early : nat_le w.moment (length (take k lines)) ≡ true = grind (arith, nat_tests) in
    let low : int_le w.zxid zk ≡ true = ap (int_le w.zxid) (sym same) ∙ o in
    let some = started lines k legal above in
    let none = no-updates lines k m legal le some same in
    let lag = moments-lag lines k m legal le some same in
    let whole = between-is lines k m le in
    let fk = fired_above (take k lines) w.zxid w.watches in
    let fm = fired_above (take m lines) w.zxid w.watches in
    let fired : fm ≡ fk = ap (λ past. fired_above past w.zxid w.watches) (sym whole) ∙ fired-same (take k lines) (between k m lines) w.zxid w.watches none in
    let since : after_update zm (take m lines) ≡ after_update zk (take k lines) =
    ap (λ z. after_update z (take m lines)) same ∙ ap (after_update zk) (sym whole) ∙ since-same zk (take k lines) (between k m lines) none in
    let told_none : told_as_of (take m lines) c id (read_request bytes) fm.0 None ≡ Some mk.what = ap (told_as_of (take m lines) c id (read_request bytes) fm.0) (sym own) ∙ mk.told in
    let told : told_as_of (take k lines) c id (read_request bytes) fk.0 (own_update c w.next lines) ≡ Some mk.what =
    ap (told_as_of (take k lines) c id (read_request bytes) fk.0) own
    ∙ told-lower lines c id (read_request bytes) fk.0 fm.0 k m mk.what lag (ap (λ (p : Watches × List Due). p.0) (sym fired)) says told_none in
    let v = reply_step (take k lines) w mk.place xid fk.1 mk.what in
    let moved : move lines c id w (Answer k) ≡ Some v =
    answer-move lines c id w k mk.place bytes mk.what mk.live (omega (arith, le, mk.within)) mk.frame (and_from (nat_le w.moment (length (take k lines))) (int_le w.zxid zk) early low) mk.header told in
    let there_m : rest_after (reply_step (take m lines) w mk.place xid fm.1 mk.what).1 ps ≡ Some y.0.1 = ap (λ (p : Walker × List Due). rest_after p.1 ps) mk.gives ∙ u.3 in
    let d = due_notices (later_of (after_update zk (take k lines)) (mk.place + 1)) mk.what.1.notices in
    let there : rest_after v.1 ps ≡ Some y.0.1 =
    rest_after-lower (fk.1 ++ d) (later_of (length (take m lines)) (mk.place + 1)) (later_of (length (take k lines)) (mk.place + 1)) (reply_packet xid zk mk.what.1.reply) ps y.0.1
    (later-lower (length (take k lines)) (length (take m lines)) (mk.place + 1) (omega (arith, lk, length-take-le m lines mk.within, le)))
    (ap (λ z. rest_after (fk.1 ++ d ++ ((later_of (length (take m lines)) (mk.place + 1), reply_packet xid z mk.what.1.reply) ∷ [])) ps) (sym same)
    ∙ ap (λ n. rest_after (fk.1 ++ due_notices (later_of n (mk.place + 1)) mk.what.1.notices ++ ((later_of (length (take m lines)) (mk.place + 1), reply_packet xid zm mk.what.1.reply) ∷ [])) ps) (sym since)
    ∙ ap (λ (p : Watches × List Due). rest_after (p.1 ++ due_notices (later_of (after_update zm (take m lines)) (mk.place + 1)) mk.what.1.notices ++ ((later_of (length (take m lines)) (mk.place + 1), reply_packet xid zm mk.what.1.reply) ∷ [])) ps) (sym fired)
    ∙ there_m) in
    and_from (is_fresh lines c w.next (Answer k)) (is_some (given ps (move lines c id w (Answer k)))) fresh (ap is_some (given-some ps (move lines c id w (Answer k)) v y.0.1 moved there))
