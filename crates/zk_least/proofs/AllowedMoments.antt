-- What holds of a moment that is allowed.
use Rattle.std.proofs.Common.{◌≡◌, ℕ, ◌+◌, ◌<◌, ◌≤◌, List, length, take, length-take-le, sym, ap, ◌∙◌, refl, arith, Bool, true, false, ℤ, pos}
use Rattle.std.specs.Prelude.{Option, Some, None, ◌<ℤ◌, ◌≤ℤ◌, is_some, nat_le, int_le}
use Rattle.std.proofs.lemmas.Bool.{and_parts}
use Rattle.std.proofs.lemmas.Bool.Decides.{nat_tests}
use Rattle.std.proofs.lemmas.Int.{ints}
use Rattle.zk_model.specs.Watches.{Watches}
use Rattle.zk_jute.specs.Requests.{Frame, read_request}
use Rattle.zk_jute.specs.Packets.{reply_packet}
use Rattle.zk_service.specs.declared.update.UpdateRec.{UpdateRec}
use Rattle.zk_transcript.specs.declared.transcript.TranscriptLine.{TranscriptLine}
use Rattle.zk_service.specs.Answers.{Told, xid_of}
use Rattle.zk_transcript.specs.History.{state_at}
use Rattle.zk_transcript.specs.Legal.{is_legal}
use Rattle.zk_transcript.specs.Walks.{Walker, Answer, Due, move, next_update, placed_frame, own_update, fired_above, told_as_of, is_past, is_fresh}
use Rattle.zk_least.specs.LeastWalk.{zxid_in, next_reply, rest_after, given, is_allowed, HasZxids}
use Rattle.zk_least.specs.LeastMoments.{AllowedMomentLaw}
use Rattle.zk_least.proofs.Rising.{state-long, below-state}
use Rattle.zk_least.proofs.LastUpdates.{past-update}
use Rattle.zk_least.proofs.Headers.{reply-zxid}
use Rattle.zk_least.proofs.Sound.{given-is}
use Rattle.zk_least.proofs.Answering.{IsMade, made, fired-notices, shown-reply}
use Rattle.zk_least.proofs.SameAnswer.{own-place}
use Rattle.zk_least.proofs.Exchange.{next-above}
use Rattle.zk_least.proofs.Complete.{some-is}

pub record AllowedAs (lines : List TranscriptLine) (c : ℕ) (id : ℤ) (w : Walker) (ps : List Due) (m : ℕ) : Type 0 where
  pub result : Walker × List Due
  pub rest : List Due
  pub moved : move lines c id w (Answer m) ≡ Some result
  pub there : rest_after result.1 ps ≡ Some rest
  pub fresh : is_fresh lines c w.next (Answer m) ≡ true
  pub made : IsMade lines c id w m result

pub allowed-as : (lines : List TranscriptLine) (c : ℕ) (id : ℤ) (w : Walker) (ps : List Due) (m : ℕ) → is_allowed lines c id w ps m ≡ true → AllowedAs lines c id w ps m
allowed-as lines c id w ps m h =
    let a = and_parts (is_fresh lines c w.next (Answer m)) (is_some (given ps (move lines c id w (Answer m)))) h in
    let y = some-is (given ps (move lines c id w (Answer m))) a.1 in
    let u = given-is ps (move lines c id w (Answer m)) y.0 y.1 in
    record { result = u.0; rest = y.0.1; moved = u.1; there = u.3; fresh = a.0; made = made lines c id w m u.0 u.1 }

-- the reply that the packets show
pub shown : (lines : List TranscriptLine) (c : ℕ) (id : ℤ) (w : Walker) (ps : List Due) (m : ℕ) (bytes : List ℕ) → is_legal lines ≡ true → HasZxids lines → next_reply ps ≡ Some bytes → (a : AllowedAs lines c id w ps m)
    → bytes ≡ reply_packet (xid_of (read_request a.made.bytes)) (state_at lines m).zxid a.made.what.1.reply
shown lines c id w ps m bytes legal least next a =
    let mk = a.made in
    let s = shown-reply (take m lines) w mk.place (xid_of (read_request mk.bytes)) (fired_above (take m lines) w.zxid w.watches).1 mk.what ps a.rest (state-long lines m legal least) (fired-notices (take m lines) w.zxid w.watches)
    (ap (λ (p : Walker × List Due). rest_after p.1 ps) mk.gives ∙ a.there) in
    one bytes (reply_packet (xid_of (read_request mk.bytes)) (state_at lines m).zxid mk.what.1.reply) (sym next ∙ s)
  where
    one : (a b : List ℕ) → ◌≡◌ {A = Option (List ℕ)} (Some a) (Some b) → a ≡ b
    one a b e = cc

past-is : (m : ℕ) (o : Option (ℕ × List ℕ)) (f : ℕ × List ℕ) → o ≡ Some f → is_past m o ≡ true → f.0 < m
past-is m None f e h = absurd (cc)
past-is m (Some g) f e h =
    let same : g ≡ f = cc in
    let lt : g.0 < m = grind (arith, nat_tests) in
    omega (arith, lt, ap (λ (p : ℕ × List ℕ). p.0) same)

own-moment : (lines : List TranscriptLine) (c m : ℕ) (id : ℤ) (x : Frame) (w : Watches) (own : Option (ℕ × UpdateRec)) (u : ℕ × UpdateRec) (t : Bool × Told) → m ≤ length lines → own ≡ Some u → told_as_of (take m lines) c id x w own ≡ Some t → m ≡ u.0 + 1
unfolding told_as_of
own-moment lines c m id x w None u t le e h = absurd (cc)
own-moment lines c m id x w (Some o) u t le e h =
    let same : o ≡ u = cc in
    let p = own-place (take m lines) o.0 _ t h in
    omega (arith, p, length-take-le m lines le, ap (λ (q : ℕ × UpdateRec). q.0) same)

pub allowed-up : (lines : List TranscriptLine) (c : ℕ) (id : ℤ) (w : Walker) (ps : List Due) (m : ℕ) (z : ℤ) → pos 0 <ℤ w.zxid → AllowedAs lines c id w ps m → (state_at lines m).zxid ≡ z → pos 0 <ℤ z
allowed-up lines c id w ps m z up a at =
    let q = (and_parts (nat_le w.moment (length (take m lines))) (int_le w.zxid (state_at lines m).zxid) a.made.may_answer).1 in
    let reach : w.zxid ≤ℤ (state_at lines m).zxid = grind (arith, nat_tests, ints) in
    omega (arith, ints, up, reach, at)

-- the next update does not stand before the moment
not-past : (lines : List TranscriptLine) (m : ℕ) (z : ℤ) (x : ℕ × ℤ) → is_legal lines ≡ true → (state_at lines m).zxid ≡ z → next_update z lines ≡ Some x → m ≤ x.0
not-past lines m z x legal at h = by (nat_le m x.0) refl
  where
    by : (b : Bool) → nat_le m x.0 ≡ b → m ≤ x.0
    by true e = grind (arith, nat_tests)
    by false e =
        let a = next-above z lines x h in
        let lt : x.0 < m = grind (arith, nat_tests) in
        let low = below-state lines x.0 m a.update legal a.there lt in
        absurd (omega (arith, ints, low, a.same, a.up, at))

pub allowed-moment-law : AllowedMomentLaw
allowed-moment-law lines c id w ps bytes m legal least up next h =
    let a = allowed-as lines c id w ps m h in
    let mk = a.made in
    let early = (and_parts (nat_le w.moment (length (take m lines))) (int_le w.zxid (state_at lines m).zxid) mk.may_answer).0 in
    let back : w.moment ≤ length (take m lines) = grind (arith, nat_tests) in
    let at : (state_at lines m).zxid ≡ zxid_in bytes = sym (ap zxid_in (shown lines c id w ps m bytes legal least next a) ∙ reply-zxid (xid_of (read_request mk.bytes)) (state_at lines m).zxid mk.what.1.reply (state-long lines m legal least)) in
    record {
      within = mk.within;
      not_back = omega (arith, back, length-take-le m lines mk.within);
      frame = (mk.place, mk.bytes);
      framed = mk.frame;
      fresh = past-is m (placed_frame c w.next lines) (mk.place, mk.bytes) mk.frame a.fresh;
      zxid = at;
      update_before = (past-update lines m (zxid_in bytes) legal (allowed-up lines c id w ps m (zxid_in bytes) up a at) at).from;
      before_next = λ x e. not-past lines m (zxid_in bytes) x legal at e;
      own = λ u e. own-moment lines c m id (read_request mk.bytes) (fired_above (take m lines) w.zxid w.watches).0 (own_update c w.next lines) u mk.what mk.within e mk.told;
    }
