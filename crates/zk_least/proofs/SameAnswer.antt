-- After each reply that has a moment the walker's zxid, watches and index depend on the frames, the packets and the history
-- alone: whichever moment was taken, the walkers differ by the moment alone.
use Rattle.std.proofs.Common.{◌≡◌, ℕ, ◌+◌, ◌≤◌, List, [], ◌∷◌, ◌++◌, length, take, length-take-le, refl, sym, ap, ◌∙◌, subst, arith, Bool, true, false, ℤ, pos, inl, inr}
use Rattle.std.specs.Prelude.{Option, Some, None, ◌&&◌, ◌⊎◌, ◌<ℤ◌, option_and_then, nat_le, int_le, ◌==◌, not, bytes_eq, if◌then◌else◌}
use Rattle.std.specs.Ordering.{int_eq}
use Rattle.std.proofs.lemmas.Bool.{and_parts}
use Rattle.std.proofs.lemmas.Bool.Decides.{nat_tests}
use Rattle.std.proofs.lemmas.Int.{ints}
use Rattle.zk_model.specs.declared.reply.Reply.{Reply}
use Rattle.zk_model.specs.declared.reply.Reply.TheVariants as reply
use Rattle.zk_model.specs.declared.request.Request.{Request}
use Rattle.zk_model.specs.Codes.{session_expired, session_moved}
use Rattle.zk_model.specs.Watches.{Watches}
use Rattle.zk_jute.specs.Requests.{Frame, read_request}
use Rattle.zk_jute.specs.Packets.{reply_packet}
use Rattle.zk_service.specs.declared.update.UpdateRec.{UpdateRec}
use Rattle.zk_transcript.specs.declared.transcript.TranscriptLine.{TranscriptLine}
use Rattle.zk_service.specs.States.{State, Session, session_at}
use Rattle.zk_transcript.specs.History.{state_at, asked_in}
use Rattle.zk_transcript.specs.Legal.{is_legal}
use Rattle.zk_service.specs.Answers.{Told, only, plain_reply, xid_of, tree_reply, session_refusal, owned_limit_in}
use Rattle.zk_transcript.specs.Walks.{Walker, Answer, Due, move, due_notices, fired_above, placed_frame, own_update, later_of, with_end, looked, seen_told, told_by_state, told_as_of, closes_session, told_response, response_at, reply_step, may_answer_at, after_update}
use Rattle.zk_least.specs.LeastWalk.{zxid_in, next_reply, rest_after, HasZxids}
use Rattle.zk_least.specs.LeastMoments.{code_in}
use Rattle.zk_least.proofs.Rising.{started, state-long}
use Rattle.zk_least.proofs.Sessions.{SaysAs, says-as}
use Rattle.zk_least.proofs.SameZxid.{IsLag, between, between-is, no-updates, moments-lag}
use Rattle.zk_least.proofs.Firing.{fired-same, since-same}
use Rattle.zk_least.proofs.ShortCodes.{is_fine, code_of, fine_told, tree-fine, IsShortCode, fine-short}
use Rattle.zk_least.proofs.Headers.{reply-zxid, reply-code}
use Rattle.zk_least.proofs.EarlierMoments.{IsEarlier}
use Rattle.zk_least.proofs.Answering.{made, fired-notices, shown-reply}

-- ---- what is told as of two moments of one zxid

pub refused-codes : (c : ℕ) (o : Option Session) (r : Reply) → session_refusal c o ≡ Some r → (r ≡ reply.Refused session_expired) ⊎ (r ≡ reply.Refused session_moved)
refused-codes c None r h = inl (cc)
refused-codes c (Some x) r h = go x.lapsed (not (c == x.connection)) h
  where
    go : (a b : Bool) → (if a then Some (reply.Refused session_expired) else if b then Some (reply.Refused session_moved) else None) ≡ Some r → (r ≡ reply.Refused session_expired) ⊎ (r ≡ reply.Refused session_moved)
    go true b e = inl (cc)
    go false true e = inr (cc)
    go false false e = absurd (cc)

-- what is told to a session of the state
abbrev pub told_to : State → ℕ → ℤ → Frame → Watches → Option Session → Option (Bool × Told)
told_to s c id x w o = seen_told s (owned_limit_in o) id x w (session_refusal c o)

looked-tree : (s t : State) (limit : ℕ) (id : ℤ) (w : Watches) (x : Frame) (o : Option Told) → t.tree ≡ s.tree → looked t limit id w x o ≡ looked s limit id w x o
looked-tree s t limit id w x (Some r) h = refl
looked-tree s t limit id w x None h = ap (λ tree. option_and_then (tree_reply tree limit id w) (asked_in x)) h

seen-tree : (s t : State) (limit : ℕ) (id : ℤ) (x : Frame) (w : Watches) (o : Option Reply) → t.tree ≡ s.tree → seen_told t limit id x w o ≡ seen_told s limit id x w o
seen-tree s t limit id x w (Some r) h = refl
seen-tree s t limit id x w None h = ap (with_end false) (looked-tree s t limit id w x (plain_reply w x) h)

pub told-tree : (s t : State) (c : ℕ) (id : ℤ) (x : Frame) (w : Watches) (o : Option Session) → t.tree ≡ s.tree → told_to t c id x w o ≡ told_to s c id x w o
told-tree s t c id x w o h = seen-tree s t (owned_limit_in o) id x w (session_refusal c o) h

asked-fine : (s : State) (limit : ℕ) (id : ℤ) (w : Watches) (o : Option Request) → fine_told (option_and_then (tree_reply s.tree limit id w) o) ≡ true
asked-fine s limit id w None = refl
asked-fine s limit id w (Some r) = tree-fine s.tree limit id w r

looked-fine : (s : State) (limit : ℕ) (id : ℤ) (w : Watches) (x : Frame) (o : Option Told) → fine_told (looked s limit id w x o) ≡ true
looked-fine s limit id w x (Some t) = refl
looked-fine s limit id w x None = asked-fine s limit id w (asked_in x)

end-fine : (o : Option Told) (u : Bool × Told) → fine_told o ≡ true → with_end false o ≡ Some u → is_fine (code_of u.1.reply) ≡ true
end-fine None u h e = absurd (cc)
end-fine (Some t) u h e = let s : ◌≡◌ {A = Bool × Told} (false, t) u = cc in ap (λ (p : Bool × Told). is_fine (code_of p.1.reply)) (sym s) ∙ h

-- what is not the session test's refusal has another code
seen-fine : (s : State) (limit : ℕ) (id : ℤ) (x : Frame) (w : Watches) (u : Bool × Told) → seen_told s limit id x w None ≡ Some u → is_fine (code_of u.1.reply) ≡ true
seen-fine s limit id x w u h = end-fine (looked s limit id w x (plain_reply w x)) u (looked-fine s limit id w x (plain_reply w x)) h

differ : session_moved ≡ session_expired → ⊥
differ h = let bad : true ≡ false = ap (λ z. int_eq z session_moved) h in cc

-- what a refusal of an expired session is
abbrev expired_told : Watches → Bool × Told
expired_told w = (true, only w (reply.Refused session_expired))

refused-expired : (c : ℕ) (w : Watches) (o : Option Session) (r : Reply) (u : Bool × Told) → session_refusal c o ≡ Some r → (true, only w r) ≡ u → code_of r ≡ session_expired → u ≡ expired_told w
refused-expired c w o r u at own code = elim (refused-codes c o r at) [
  | inl q ↦ sym own ∙ ap (λ p. (true, only w p)) q
  | inr q ↦ absurd (differ (ap code_of (sym q) ∙ code))
]

fine-expired : (z : ℤ) → is_fine z ≡ true → z ≡ session_expired → ⊥
fine-expired z h e = (let bad : is_fine session_expired ≡ true = ap is_fine (sym e) ∙ h in cc)

-- what is told with the code of an expired session is its refusal
expired-told : (s : State) (c : ℕ) (id : ℤ) (x : Frame) (w : Watches) (o : Option Session) (u : Bool × Told) → told_to s c id x w o ≡ Some u → code_of u.1.reply ≡ session_expired → u ≡ expired_told w
expired-told s c id x w o u f e = by (session_refusal c o) refl f
  where
    by : (r : Option Reply) → session_refusal c o ≡ r → seen_told s (owned_limit_in o) id x w r ≡ Some u → u ≡ expired_told w
    by None at g = absurd (fine-expired (code_of u.1.reply) (seen-fine s (owned_limit_in o) id x w u g) e)
    by (Some r) at g =
        let own : ◌≡◌ {A = Bool × Told} (true, only w r) u = cc in
        refused-expired c w o r u at own (ap (λ (p : Bool × Told). code_of p.1.reply) own ∙ e)

seen-same : (s t : State) (c : ℕ) (id : ℤ) (x : Frame) (w : Watches) (u v : Bool × Told) → IsLag s t → told_by_state s c id x w ≡ Some u → told_by_state t c id x w ≡ Some v
    → code_of u.1.reply ≡ code_of v.1.reply → u ≡ v
seen-same s t c id x w u v lag a b e = by (says-as s t c id (lag.session id))
  where
    by : SaysAs s t c id → u ≡ v
    by (inl q) = (let same : Some u ≡ Some v = sym a ∙ sym (ap (told_to t c id x w) q ∙ told-tree s t c id x w (session_at id s) lag.tree) ∙ b in cc)
    by (inr q) =
        let here : Some (expired_told w) ≡ Some v = sym (ap (seen_told t (owned_limit_in (session_at id t)) id x w) q) ∙ b in
        let same : expired_told w ≡ v = cc in
        let code : code_of v.1.reply ≡ session_expired = ap (λ (p : Bool × Told). code_of p.1.reply) (sym same) in
        expired-told s c id x w (session_at id s) u a (e ∙ code) ∙ same

-- each code of the session test or of the tree is a short one
pub expired-short : IsShortCode session_expired
expired-short = (omega (arith, ints), omega (arith, ints))

moved-short : IsShortCode session_moved
moved-short = (omega (arith, ints), omega (arith, ints))

pub refused-short : (c : ℕ) (o : Option Session) (r : Reply) → session_refusal c o ≡ Some r → IsShortCode (code_of r)
refused-short c o r h = elim (refused-codes c o r h) [
  | inl q ↦ subst (λ p. IsShortCode (code_of p)) (sym q) expired-short
  | inr q ↦ subst (λ p. IsShortCode (code_of p)) (sym q) moved-short
]

pub seen-short : (s : State) (c : ℕ) (id : ℤ) (x : Frame) (w : Watches) (u : Bool × Told) → told_by_state s c id x w ≡ Some u → IsShortCode (code_of u.1.reply)
seen-short s c id x w u h = go (session_refusal c (session_at id s)) refl h
  where
    go : (o : Option Reply) → session_refusal c (session_at id s) ≡ o → seen_told s (owned_limit_in (session_at id s)) id x w o ≡ Some u → IsShortCode (code_of u.1.reply)
    go None e g = fine-short (code_of u.1.reply) (seen-fine s (owned_limit_in (session_at id s)) id x w u g)
    go (Some r) e g =
        let own : ◌≡◌ {A = Bool × Told} (true, only w r) u = cc in
        subst (λ (p : Bool × Told). IsShortCode (code_of p.1.reply)) own (refused-short c (session_at id s) r e)

pub own-place : (past : List TranscriptLine) (k : ℕ) (o : Option (Bool × Told)) (t : Bool × Told) → (if length past == k + 1 then o else None) ≡ Some t → length past ≡ k + 1
own-place past k o t h = go (length past == k + 1) refl h
  where
    go : (b : Bool) → (length past == k + 1) ≡ b → (if b then o else None) ≡ Some t → length past ≡ k + 1
    go true e f = grind (arith, nat_tests)
    go false e f = absurd (cc)

-- where two moments give one packet, the same is told as of both
told-same : (lines : List TranscriptLine) (c : ℕ) (id xid z : ℤ) (x : Frame) (w : Watches) (k m : ℕ) (own : Option (ℕ × UpdateRec)) (u v : Bool × Told)
    → k ≤ length lines → m ≤ length lines → IsLag (state_at lines k) (state_at lines m)
    → told_as_of (take k lines) c id x w own ≡ Some u → told_as_of (take m lines) c id x w own ≡ Some v
    → reply_packet xid z u.1.reply ≡ reply_packet xid z v.1.reply → u ≡ v
unfolding told_as_of
told-same lines c id xid z x w k m (Some o) u v a b lag f g e =
    let p = own-place (take k lines) o.0 _ u f in
    let q = own-place (take m lines) o.0 _ v g in
    let same : k ≡ m = omega (arith, p, q, length-take-le k lines a, length-take-le m lines b) in
    let both : Some u ≡ Some v = sym f ∙ ap (λ n. if length (take n lines) == o.0 + 1 then with_end (closes_session o.1.kind) (told_response w (response_at (take n lines) o.0 o.1.zxid o.1.kind)) else None) same ∙ g in
    cc
told-same lines c id xid z x w k m None u v a b lag f g e =
    let p = seen-short (state_at lines k) c id x w u f in
    let q = seen-short (state_at lines m) c id x w v g in
    seen-same (state_at lines k) (state_at lines m) c id x w u v lag f g
    (sym (reply-code xid z u.1.reply p) ∙ ap code_in e ∙ reply-code xid z v.1.reply q)

-- ---- two answers to one frame

rest_after-last : (ds : List Due) (j k : ℕ) (bytes : List ℕ) (ps q r : List Due) → rest_after (ds ++ (j, bytes) ∷ []) ps ≡ Some q → rest_after (ds ++ (k, bytes) ∷ []) ps ≡ Some r → q ≡ r
rest_after-last [] j k bytes [] q r f g = absurd (cc)
rest_after-last [] j k bytes (p ∷ ps) q r f g = go (nat_le j p.0) (nat_le k p.0) (bytes_eq bytes p.1) f g
  where
    go : (a b e : Bool) → (if a && e then Some ps else None) ≡ Some q → (if b && e then Some ps else None) ≡ Some r → q ≡ r
    go true true true f g = cc
    go true true false f g = absurd (cc)
    go false b e f g = absurd (cc)
    go true false e f g = absurd (cc)
rest_after-last (x ∷ xs) j k bytes [] q r f g = absurd (cc)
rest_after-last (x ∷ xs) j k bytes (p ∷ ps) q r f g = go (nat_le x.0 p.0 && bytes_eq x.1 p.1) (rest_after-last xs j k bytes ps q r) f g
  where
    go : (b : Bool) → (rest_after (xs ++ (j, bytes) ∷ []) ps ≡ Some q → rest_after (xs ++ (k, bytes) ∷ []) ps ≡ Some r → q ≡ r)
        → (if b then rest_after (xs ++ (j, bytes) ∷ []) ps else None) ≡ Some q → (if b then rest_after (xs ++ (k, bytes) ∷ []) ps else None) ≡ Some r → q ≡ r
    go true ih f g = ih f g
    go false ih f g = absurd (cc)

some-same : (a b : List ℕ) (o : Option (List ℕ)) → o ≡ Some a → o ≡ Some b → a ≡ b
some-same a b o f g = let e : Some a ≡ Some b = sym f ∙ g in cc

pub record IsSameAnswer (u v : Walker × List Due) (q r : List Due) : Type 0 where
  pub earlier : IsEarlier u.0 v.0
  pub rest : q ≡ r

-- the same frame, answered as of two moments by the same packets
core-same : (lines : List TranscriptLine) (c : ℕ) (id : ℤ) (w : Walker) (k m place : ℕ) (bytes : List ℕ) (u v : Bool × Told) (ps q r : List Due)
    → is_legal lines ≡ true → HasZxids lines → pos 0 <ℤ w.zxid
    → k ≤ m → m ≤ length lines → may_answer_at (take k lines) w ≡ true
    → told_as_of (take k lines) c id (read_request bytes) (fired_above (take k lines) w.zxid w.watches).0 (own_update c w.next lines) ≡ Some u
    → told_as_of (take m lines) c id (read_request bytes) (fired_above (take m lines) w.zxid w.watches).0 (own_update c w.next lines) ≡ Some v
    → rest_after (reply_step (take k lines) w place (xid_of (read_request bytes)) (fired_above (take k lines) w.zxid w.watches).1 u).1 ps ≡ Some q
    → rest_after (reply_step (take m lines) w place (xid_of (read_request bytes)) (fired_above (take m lines) w.zxid w.watches).1 v).1 ps ≡ Some r
    → IsSameAnswer (reply_step (take k lines) w place (xid_of (read_request bytes)) (fired_above (take k lines) w.zxid w.watches).1 u)
    (reply_step (take m lines) w place (xid_of (read_request bytes)) (fired_above (take m lines) w.zxid w.watches).1 v) q r
core-same lines c id w k m place bytes u v ps q r legal least up le within op f g a b =
    let x = read_request bytes in
    let xid = xid_of x in
    let fk = fired_above (take k lines) w.zxid w.watches in
    let fm = fired_above (take m lines) w.zxid w.watches in
    let zk = (state_at lines k).zxid in
    let zm = (state_at lines m).zxid in
    let lk = state-long lines k legal least in
    let lm = state-long lines m legal least in
    let sk = shown-reply (take k lines) w place xid fk.1 u ps q lk (fired-notices (take k lines) w.zxid w.watches) a in
    let sm = shown-reply (take m lines) w place xid fm.1 v ps r lm (fired-notices (take m lines) w.zxid w.watches) b in
    let packets : reply_packet xid zk u.1.reply ≡ reply_packet xid zm v.1.reply = some-same _ _ (next_reply ps) sk sm in
    let same : zm ≡ zk = sym (reply-zxid xid zm v.1.reply lm) ∙ sym (ap zxid_in packets) ∙ reply-zxid xid zk u.1.reply lk in
    let above = (and_parts (nat_le w.moment (length (take k lines))) (int_le w.zxid zk) op).1 in
    let over : pos 0 <ℤ zk = grind (arith, nat_tests, ints) in
    let some = started lines k legal over in
    let none = no-updates lines k m legal le some same in
    let lag = moments-lag lines k m legal le some same in
    let whole = between-is lines k m le in
    let fired : fm ≡ fk = ap (λ past. fired_above past w.zxid w.watches) (sym whole) ∙ fired-same (take k lines) (between k m lines) w.zxid w.watches none in
    let since : after_update zm (take m lines) ≡ after_update zk (take k lines) =
    ap (λ z. after_update z (take m lines)) same ∙ ap (after_update zk) (sym whole) ∙ since-same zk (take k lines) (between k m lines) none in
    let one : u ≡ v = told-same lines c id xid zk x fk.0 k m (own_update c w.next lines) u v (omega (arith, le, within)) within lag f
    (ap (λ (p : Watches × List Due). told_as_of (take m lines) c id x p.0 (own_update c w.next lines)) (sym fired) ∙ g)
    (packets ∙ ap (λ z. reply_packet xid z v.1.reply) same) in
    record {
      earlier = record {
        zxid = sym same;
        since = sym since;
        watches = ap (λ (t : Bool × Told). t.1.watches) one;
        next = refl;
        over = ap (λ (t : Bool × Told). t.0) one;
        moment = omega (arith, le, length-take-le k lines (omega (arith, le, within)), length-take-le m lines within);
      };
      rest = rest_after-last (fk.1 ++ due_notices (later_of (after_update zk (take k lines)) (place + 1)) u.1.notices) (later_of (length (take k lines)) (place + 1)) (later_of (length (take m lines)) (place + 1)) (reply_packet xid zk u.1.reply) ps q r
          a
          (ap (λ (p : Watches × List Due). rest_after (p.1 ++ due_notices (later_of (after_update zk (take k lines)) (place + 1)) u.1.notices ++ ((later_of (length (take m lines)) (place + 1), reply_packet xid zk u.1.reply) ∷ [])) ps) (sym fired)
          ∙ ap (λ n. rest_after (fm.1 ++ due_notices (later_of n (place + 1)) u.1.notices ++ ((later_of (length (take m lines)) (place + 1), reply_packet xid zk u.1.reply) ∷ [])) ps) (sym since)
          ∙ ap (λ (t : Bool × Told). rest_after (fm.1 ++ due_notices (later_of (after_update zm (take m lines)) (place + 1)) t.1.notices ++ ((later_of (length (take m lines)) (place + 1), reply_packet xid zk t.1.reply) ∷ [])) ps) one
          ∙ ap (λ z. rest_after (fm.1 ++ due_notices (later_of (after_update zm (take m lines)) (place + 1)) v.1.notices ++ ((later_of (length (take m lines)) (place + 1), reply_packet xid z v.1.reply) ∷ [])) ps) (sym same)
          ∙ b);
    }

placed-same : (o : Option (ℕ × List ℕ)) (j k : ℕ) (a b : List ℕ) → o ≡ Some (j, a) → o ≡ Some (k, b) → (j ≡ k) × (a ≡ b)
placed-same o j k a b f g =
    let e : ◌≡◌ {A = Option (ℕ × List ℕ)} (Some (j, a)) (Some (k, b)) = sym f ∙ g in
    let p : ◌≡◌ {A = ℕ × List ℕ} (j, a) (k, b) = cc in
    (ap (λ (x : ℕ × List ℕ). x.0) p, ap (λ (x : ℕ × List ℕ). x.1) p)

pub same-answer : (lines : List TranscriptLine) (c : ℕ) (id : ℤ) (w : Walker) (k m : ℕ) (y t : Walker × List Due) (ps q r : List Due)
    → is_legal lines ≡ true → HasZxids lines → pos 0 <ℤ w.zxid → k ≤ m
    → move lines c id w (Answer k) ≡ Some y → move lines c id w (Answer m) ≡ Some t → rest_after y.1 ps ≡ Some q → rest_after t.1 ps ≡ Some r → IsSameAnswer y t q r
same-answer lines c id w k m y t ps q r legal least up le f g a b =
    let mk = made lines c id w k y f in
    let mm = made lines c id w m t g in
    let e = placed-same (placed_frame c w.next lines) mk.place mm.place mk.bytes mm.bytes mk.frame mm.frame in
    let told : told_as_of (take m lines) c id (read_request mk.bytes) (fired_above (take m lines) w.zxid w.watches).0 (own_update c w.next lines) ≡ Some mm.what =
    ap (λ bs. told_as_of (take m lines) c id (read_request bs) (fired_above (take m lines) w.zxid w.watches).0 (own_update c w.next lines)) e.1 ∙ mm.told in
    let gives : reply_step (take m lines) w mk.place (xid_of (read_request mk.bytes)) (fired_above (take m lines) w.zxid w.watches).1 mm.what ≡ t =
    ap (λ n. reply_step (take m lines) w n (xid_of (read_request mk.bytes)) (fired_above (take m lines) w.zxid w.watches).1 mm.what) e.0
    ∙ ap (λ bs. reply_step (take m lines) w mm.place (xid_of (read_request bs)) (fired_above (take m lines) w.zxid w.watches).1 mm.what) e.1 ∙ mm.gives in
    let s = core-same lines c id w k m mk.place mk.bytes mk.what mm.what ps q r legal least up le mm.within mk.may_answer mk.told told
    (ap (λ (p : Walker × List Due). rest_after p.1 ps) mk.gives ∙ a) (ap (λ (p : Walker × List Due). rest_after p.1 ps) gives ∙ b) in
    subst (λ (p : Walker × List Due). IsSameAnswer y p q r) gives (subst (λ (p : Walker × List Due). IsSameAnswer p (reply_step (take m lines) w mk.place (xid_of (read_request mk.bytes)) (fired_above (take m lines) w.zxid w.watches).1 mm.what) q r) mk.gives s)
