-- What a list of choices makes of the packets ahead: told updates alone, a reply that repeats the walker's zxid, or one as of a
-- moment.
use Rattle.std.proofs.Common.{◌≡◌, ℕ, ◌+◌, ◌<◌, List, [], ◌∷◌, ◌++◌, length, take, refl, sym, ap, ◌∙◌, subst, arith, Bool, true, false, ℤ, pos, inl, inr}
use Rattle.std.specs.Prelude.{Option, Some, None, ◌&&◌, ◌||◌, ◌⊎◌, ◌<ℤ◌, ◌≤ℤ◌, nat_le, int_lt, bytes_eq, if◌then◌else◌}
use Rattle.std.proofs.lemmas.Slice.Eq.{bytes_eq-Decides}
use Rattle.std.proofs.lemmas.Bool.{and_parts}
use Rattle.std.proofs.lemmas.Bool.Decides.{nat_tests}
use Rattle.std.proofs.lemmas.Int.{ints}
use Rattle.zk_model.specs.declared.reply.Body.TheVariants as body
use Rattle.zk_model.specs.declared.reply.Notice.{Notice}
use Rattle.zk_model.specs.declared.reply.Reply.{Reply}
use Rattle.zk_model.specs.declared.reply.Reply.TheVariants as reply
use Rattle.zk_model.specs.Codes.{no_watcher, session_expired, session_moved}
use Rattle.zk_model.specs.Limits.{max_long}
use Rattle.zk_model.specs.Watches.{Watches, no_watches}
use Rattle.zk_jute.specs.Requests.{Frame, read_request}
use Rattle.zk_jute.specs.Packets.{reply_packet}
use Rattle.zk_service.specs.declared.update.UpdateRec.{UpdateRec}
use Rattle.zk_transcript.specs.declared.transcript.TranscriptLine.{TranscriptLine}
use Rattle.zk_service.specs.Answers.{Told, asks_of_watches, only, plain_reply, xid_of, session_refusal, owned_limit_in, is_auth_refusal}
use Rattle.zk_service.specs.States.{State, session_at}
use Rattle.zk_transcript.specs.History.{state_at}
use Rattle.zk_transcript.specs.Legal.{is_legal}
use Rattle.zk_transcript.specs.Walks.{Walker, Choice, Tell, Plain, Answer, Due, move, walk, then_due, are_sent, is_walked, placed_frame, own_update, fired_above, later_of, with_end, looked, seen_told, told_by_state, told_as_of, answer_plainly, plain_answer, due_notices, all_choices, next_index, is_fresh, are_fresh}
use Rattle.zk_transcript.proofs.Longer.{if_Some, move-index}
use Rattle.zk_least.specs.LeastWalk.{zxid_in, is_notice, next_reply, rest_after, is_answer, is_watch_answer, is_plain, repeats, plain_choice, HasZxids}
use Rattle.zk_least.specs.LeastMoments.{code_in}
use Rattle.zk_least.proofs.Rising.{at-line, state-long, IsLong}
use Rattle.zk_least.proofs.Sound.{IsGood, IsFresh}
use Rattle.zk_least.proofs.ShortCodes.{is_fine, code_of, fine_told, plain-fine, IsShortCode, fine-short}
use Rattle.zk_service.proofs.PlainReplies.{plain-either, plain-quiet, plain-some, IsEither}
use Rattle.zk_least.proofs.Headers.{reply-zxid, reply-code, not-notice}
use Rattle.zk_least.proofs.Answering.{IsMade, made, are_notices, due-notices, fired-notices, reply-next, shown-reply}
use Rattle.zk_least.proofs.SameAnswer.{refused-codes}
use Rattle.zk_least.proofs.Exchange.{IsTold, told-by, exchange, next-above}

-- ---- the first of good choices

sent-rest_after : (ds es ps : List Due) → are_sent (ds ++ es) ps ≡ true → (rest : List Due) × (rest_after ds ps ≡ Some rest) × (are_sent es rest ≡ true)
sent-rest_after [] es ps h = (ps, refl, h)
sent-rest_after (d ∷ ds) es [] h = absurd (cc)
sent-rest_after (d ∷ ds) es (p ∷ ps) h = go (nat_le d.0 p.0 && bytes_eq d.1 p.1) (sent-rest_after ds es ps) h
  where
    go : (b : Bool) → (are_sent (ds ++ es) ps ≡ true → (rest : List Due) × (rest_after ds ps ≡ Some rest) × (are_sent es rest ≡ true)) → (b && are_sent (ds ++ es) ps) ≡ true
        → (rest : List Due) × ((if b then rest_after ds ps else None) ≡ Some rest) × (are_sent es rest ≡ true)
    go true ih e = ih e
    go false ih e = absurd (cc)

pub record IsFirstOf (lines : List TranscriptLine) (c : ℕ) (id : ℤ) (w : Walker) (ps : List Due) (x : Choice) (xs : List Choice) : Type 0 where
  pub made : Walker × List Due
  pub rest : List Due
  pub moved : move lines c id w x ≡ Some made
  pub there : rest_after made.1 ps ≡ Some rest
  pub fresh : IsFresh lines c w.next x
  pub good : IsGood lines c id made.0 rest xs

pub good-first : (lines : List TranscriptLine) (c : ℕ) (id : ℤ) (w : Walker) (ps : List Due) (x : Choice) (xs : List Choice) → IsGood lines c id w ps (x ∷ xs) → IsFirstOf lines c id w ps x xs
unfolding walk all_choices
good-first lines c id w ps x xs g = by (move lines c id w x) refl g.lawful
  where
    f : (is_fresh lines c w.next x ≡ true) × (are_fresh lines c (next_index w.next x) xs ≡ true)
    f = and_parts (is_fresh lines c w.next x) (are_fresh lines c (next_index w.next x) xs) g.fresh

    on : (u : Walker × List Due) → move lines c id w x ≡ Some u → (o : Option (Walker × List Due)) → walk lines c id u.0 xs ≡ o → is_walked (then_due u.1 o) ps ≡ true → IsFirstOf lines c id w ps x xs
    on u e None r h = absurd (cc)
    on u e (Some q) r h =
        let s = sent-rest_after u.1 q.1 ps h in
        let i : next_index w.next x ≡ u.0.next = sym (move-index lines c id w x u e) in
        record {
          made = u;
          rest = s.0;
          moved = e;
          there = s.1;
          fresh = f.0;
          good = record {
            lawful = ap (λ (p : Option (Walker × List Due)). is_walked p s.0) r ∙ s.2;
            fresh = subst (λ n. are_fresh lines c n xs ≡ true) i f.1;
          };
        }

    by : (o : Option (Walker × List Due)) → move lines c id w x ≡ o → is_walked (elim o [ None ↦ None | Some v ↦ then_due v.1 (walk lines c id v.0 xs) ]) ps ≡ true → IsFirstOf lines c id w ps x xs
    by None e h = absurd (cc)
    by (Some u) e h = on u e (walk lines c id u.0 xs) refl h

-- ---- the range of the walker's zxid

abbrev pub InRange : Walker → Type 0
InRange w = (pos 0 <ℤ w.zxid) × (w.zxid ≤ℤ max_long)

range-long : (w : Walker) → InRange w → IsLong w.zxid
range-long w r = let low = r.0 in (omega (arith, ints, low), r.1)

pub told-range : (lines : List TranscriptLine) (w : Walker) (u : Walker × List Due) → is_legal lines ≡ true → HasZxids lines → InRange w → IsTold lines w u → InRange u.0 × (w.zxid <ℤ u.0.zxid) × (u.0.next ≡ w.next) × (are_notices u.1 ≡ true)
told-range lines w u legal least r t =
    let a = next-above w.zxid lines (t.place, t.zxid) t.next in
    let s = at-line lines t.place a.update legal a.there in
    let l = state-long lines (t.place + 1) legal least in
    let z : t.zxid ≡ u.0.zxid = ap (λ (p : Walker × List Due). p.0.zxid) t.gives in (
      (omega (arith, ints, a.up, r.0, z), omega (arith, ints, l.1, s.zxid, a.same, z)),
      omega (arith, ints, a.up, z),
      sym (ap (λ (p : Walker × List Due). p.0.next) t.gives),
      subst (λ (p : Walker × List Due). are_notices p.1 ≡ true) t.gives (due-notices (t.place + 1) _),
    )

-- ---- a reply that repeats the walker's zxid

pub record IsPlainly (lines : List TranscriptLine) (c : ℕ) (w : Walker) (u : Walker × List Due) : Type 0 where
  pub place : ℕ
  pub bytes : List ℕ
  pub said : Told
  pub frame : placed_frame c w.next lines ≡ Some (place, bytes)
  pub plain : plain_reply w.watches (read_request bytes) ≡ Some said
  pub gives : ◌≡◌ {A = Walker × List Due} (record w { watches = said.watches; next = w.next + 1; over = is_auth_refusal said.reply }, (later_of w.since (place + 1), reply_packet (xid_of (read_request bytes)) w.zxid said.reply) ∷ []) u

pub plainly-by : (lines : List TranscriptLine) (c : ℕ) (id : ℤ) (w : Walker) (u : Walker × List Due) → move lines c id w Plain ≡ Some u → IsPlainly lines c w u
unfolding move
plainly-by lines c id w u h = by (placed_frame c w.next lines) refl (if_Some w.over _ u h)
  where
    on : (f : ℕ × List ℕ) → placed_frame c w.next lines ≡ Some f → (o : Option Told) → plain_reply w.watches (read_request f.1) ≡ o
        → plain_answer w (later_of w.since (f.0 + 1)) (xid_of (read_request f.1)) o ≡ Some u → IsPlainly lines c w u
    on f e None p t = absurd (cc)
    on f e (Some r) p t =
        let k = later_of w.since (f.0 + 1) in
        let packet : Due = (k, reply_packet (xid_of (read_request f.1)) w.zxid r.reply) in
        let after : Walker = record w { watches = r.watches; next = w.next + 1; over = is_auth_refusal r.reply } in
        let sent : List Notice → Walker × List Due = λ ns. (after, due_notices k ns ++ packet ∷ []) in
        let s : ◌≡◌ {A = Walker × List Due} (after, due_notices k r.notices ++ packet ∷ []) u = cc in
        record { place = f.0; bytes = f.1; said = r; frame = e; plain = p; gives = sym (ap sent (plain-quiet w.watches (read_request f.1) r p)) ∙ s }

    by : (o : Option (ℕ × List ℕ)) → placed_frame c w.next lines ≡ o → answer_plainly w o ≡ Some u → IsPlainly lines c w u
    by None e t = absurd (cc)
    by (Some f) e t = on f e (plain_reply w.watches (read_request f.1)) refl t

-- ---- a reply as of a moment is none without the tree

-- a request that was carried out is none that is answered without the tree
abbrev pub CarriedByTree : List TranscriptLine → ℕ → Type 0
CarriedByTree lines c = (i k : ℕ) (u : ℕ × UpdateRec) (bytes : List ℕ) → own_update c i lines ≡ Some u → placed_frame c i lines ≡ Some (k, bytes) → plain_reply no_watches (read_request bytes) ≡ None

-- the reply is a refusal of the session test
abbrev IsSessions : Reply → Type 0
IsSessions t = (t ≡ reply.Refused session_expired) ⊎ (t ≡ reply.Refused session_moved)

fine-not : (z y : ℤ) → is_fine z ≡ true → (y ≡ session_expired) ⊎ (y ≡ session_moved) → z ≡ y → ⊥
fine-not z y h (inl e) f = (let bad : is_fine session_expired ≡ true = ap is_fine (sym (f ∙ e)) ∙ h in cc)
fine-not z y h (inr e) f = (let bad : is_fine session_moved ≡ true = ap is_fine (sym (f ∙ e)) ∙ h in cc)

no-bytes : (xid yid z y : ℤ) (r t : Reply) → is_fine (code_of r) ≡ true → IsSessions t → bytes_eq (reply_packet xid z t) (reply_packet yid y r) ≡ false
no-bytes xid yid z y r t fine is = by (bytes_eq (reply_packet xid z t) (reply_packet yid y r)) refl
  where
    code : (code_of t ≡ session_expired) ⊎ (code_of t ≡ session_moved)
    code = elim is [ inl e ↦ inl (ap code_of e) | inr e ↦ inr (ap code_of e) ]

    short : IsShortCode (code_of t)
    short = elim code [ inl e ↦ (omega (arith, ints, e), omega (arith, ints, e)) | inr e ↦ (omega (arith, ints, e), omega (arith, ints, e)) ]

    by : (b : Bool) → bytes_eq (reply_packet xid z t) (reply_packet yid y r) ≡ b → b ≡ false
    by false e = refl
    by true e =
        let same = (bytes_eq-Decides (reply_packet xid z t) (reply_packet yid y r)).0 e in
        absurd (fine-not (code_of r) (code_of t) fine code (sym (reply-code yid y r (fine-short (code_of r) fine)) ∙ sym (ap code_in same) ∙ reply-code xid z t short))

is-not-plain : (x : Frame) (o : Option Told) (xid z : ℤ) (t : Reply) → plain_reply no_watches x ≡ o → ((r : Told) → o ≡ Some r → IsSessions t) → is_plain x o (reply_packet xid z t) ≡ false
is-not-plain x None xid z t e h = refl
is-not-plain x (Some r) xid z t e h =
    ap (λ b. b || is_watch_answer x packet (asks_of_watches x)) (no-bytes xid (xid_of x) z (zxid_in packet) r.reply t (subst (λ o. fine_told o ≡ true) e (plain-fine no_watches x)) (h r refl))
    ∙ by (asks_of_watches x)
  where
    packet : List ℕ
    packet = reply_packet xid z t

    by : (b : Bool) → is_watch_answer x packet b ≡ false
    by false = refl
    by true =
        ap (λ b. b || is_answer x packet (reply.Refused no_watcher)) (no-bytes xid (xid_of x) z (zxid_in packet) (reply.Good body.Empty) t refl (h r refl))
        ∙ no-bytes xid (xid_of x) z (zxid_in packet) (reply.Refused no_watcher) t refl (h r refl)

with-some : (b : Bool) (o : Option Told) (t : Bool × Told) → with_end b o ≡ Some t → (v : Told) × (o ≡ Some v)
with-some b None t h = absurd (cc)
with-some b (Some v) t h = (v, refl)

-- what is told of the state is the session's refusal, or the frame needs the tree
seen-plain : (s : State) (c : ℕ) (id : ℤ) (x : Frame) (w : Watches) (t : Bool × Told) → told_by_state s c id x w ≡ Some t → (r : Told) → plain_reply no_watches x ≡ Some r → IsSessions t.1.reply
seen-plain s c id x w t h r p = by (session_refusal c (session_at id s)) refl h
  where
    by : (o : Option Reply) → session_refusal c (session_at id s) ≡ o → seen_told s (owned_limit_in (session_at id s)) id x w o ≡ Some t → IsSessions t.1.reply
    by (Some q) e g =
        let own : ◌≡◌ {A = Bool × Told} (true, only w q) t = cc in
        let same : q ≡ t.1.reply = ap (λ (u : Bool × Told). u.1.reply) own in
        elim (refused-codes c (session_at id s) q e) [ inl f ↦ inl (sym same ∙ f) | inr f ↦ inr (sym same ∙ f) ]
    by None e g =
        let v = with-some false (looked s (owned_limit_in (session_at id s)) id w x (plain_reply w x)) t g in
        let plain = plain-some no_watches w x r p in
        let bad : looked s (owned_limit_in (session_at id s)) id w x (Some plain.0) ≡ Some v.0 = ap (looked s (owned_limit_in (session_at id s)) id w x) (sym plain.1) ∙ v.1 in
        absurd (cc)

told-plain : (lines : List TranscriptLine) (c i m k : ℕ) (id : ℤ) (bytes : List ℕ) (w : Watches) (own : Option (ℕ × UpdateRec)) (t : Bool × Told)
    → CarriedByTree lines c → own_update c i lines ≡ own → placed_frame c i lines ≡ Some (k, bytes) → told_as_of (take m lines) c id (read_request bytes) w own ≡ Some t
    → (r : Told) → plain_reply no_watches (read_request bytes) ≡ Some r → IsSessions t.1.reply
unfolding told_as_of
told-plain lines c i m k id bytes w (Some u) t tree own frame h r p = (let bad : None ≡ Some r = sym (tree i k u bytes own frame) ∙ p in absurd (cc))
told-plain lines c i m k id bytes w None t tree own frame h r p = seen-plain (state_at lines m) c id (read_request bytes) w t h r p

no-repeat : (lines : List TranscriptLine) (c : ℕ) (id : ℤ) (w : Walker) (m : ℕ) (y : Walker × List Due) (z : ℤ) → CarriedByTree lines c → (mk : IsMade lines c id w m y)
    → repeats (placed_frame c w.next lines) (reply_packet (xid_of (read_request mk.bytes)) z mk.what.1.reply) ≡ false
no-repeat lines c id w m y z tree mk =
    let x = read_request mk.bytes in
    let bytes = reply_packet (xid_of x) z mk.what.1.reply in
    ap (λ o. repeats o bytes) mk.frame
    ∙ is-not-plain x (plain_reply no_watches x) (xid_of x) z mk.what.1.reply refl
    (told-plain lines c w.next m mk.place id mk.bytes (fired_above (take m lines) w.zxid w.watches).0 (own_update c w.next lines) mk.what tree refl mk.frame mk.told)

-- ---- what lies ahead

pub record IsAfter (lines : List TranscriptLine) (c : ℕ) (id : ℤ) (w : Walker) (ps : List Due) (n : ℕ) (x : Choice) : Type 0 where
  pub made : Walker × List Due
  pub rest : List Due
  pub later : List Choice
  pub moved : move lines c id w x ≡ Some made
  pub there : rest_after made.1 ps ≡ Some rest
  pub fresh : IsFresh lines c w.next x
  pub good : IsGood lines c id made.0 rest later
  pub shorter : length later < n

pub data Ahead (lines : List TranscriptLine) (c : ℕ) (id : ℤ) (w : Walker) (ps : List Due) (n : ℕ) : Type 0 where
  Over : ps ≡ [] → Ahead lines c id w ps n
  Quiet : next_reply ps ≡ None → IsAfter lines c id w ps n Tell → Ahead lines c id w ps n
  Plainly : (bytes : List ℕ) → next_reply ps ≡ Some bytes → repeats (placed_frame c w.next lines) bytes ≡ true → w.zxid ≤ℤ zxid_in bytes → IsAfter lines c id w ps n (plain_choice w (zxid_in bytes)) → Ahead lines c id w ps n
  Asof : (bytes : List ℕ) → next_reply ps ≡ Some bytes → repeats (placed_frame c w.next lines) bytes ≡ false → (m : ℕ) → IsAfter lines c id w ps n (Answer m) → Ahead lines c id w ps n

first-after : (lines : List TranscriptLine) (c : ℕ) (id : ℤ) (w : Walker) (ps : List Due) (x : Choice) (xs : List Choice) → IsFirstOf lines c id w ps x xs → IsAfter lines c id w ps (length (x ∷ xs)) x
first-after lines c id w ps x xs f = record { made = f.made; rest = f.rest; later = xs; moved = f.moved; there = f.there; fresh = f.fresh; good = f.good; shorter = omega arith }

-- notices do not hide the next reply
pub next-rest_after : (ds ps rest : List Due) → are_notices ds ≡ true → rest_after ds ps ≡ Some rest → next_reply ps ≡ next_reply rest
next-rest_after [] ps rest a h = (let e : ps ≡ rest = cc in ap next_reply e)
next-rest_after (d ∷ ds) [] rest a h = absurd (cc)
next-rest_after (d ∷ ds) (p ∷ ps) rest a h = by (nat_le d.0 p.0) (bytes_eq d.1 p.1) refl (next-rest_after ds ps rest (and_parts (is_notice d.1) (are_notices ds) a).1) h
  where
    by : (u v : Bool) → bytes_eq d.1 p.1 ≡ v → (rest_after ds ps ≡ Some rest → next_reply ps ≡ next_reply rest) → (if u && v then rest_after ds ps else None) ≡ Some rest
        → (if is_notice p.1 then next_reply ps else Some p.1) ≡ next_reply rest
    by true true e ih t =
        let same : d.1 ≡ p.1 = (bytes_eq-Decides d.1 p.1).0 e in
        let note : is_notice p.1 ≡ true = ap is_notice (sym same) ∙ (and_parts (is_notice d.1) (are_notices ds) a).0 in
        ap (λ q. if q then next_reply ps else Some p.1) note ∙ ih t
    by true false e ih t = absurd (cc)
    by false v e ih t = absurd (cc)

rest_after-append : (ds es ps qs rest : List Due) → rest_after ds ps ≡ Some qs → rest_after es qs ≡ Some rest → rest_after (ds ++ es) ps ≡ Some rest
rest_after-append [] es ps qs rest f g = (let e : ps ≡ qs = cc in subst (λ l. rest_after es l ≡ Some rest) (sym e) g)
rest_after-append (d ∷ ds) es [] qs rest f g = absurd (cc)
rest_after-append (d ∷ ds) es (p ∷ ps) qs rest f g = by (nat_le d.0 p.0 && bytes_eq d.1 p.1) (λ h. rest_after-append ds es ps qs rest h g) f
  where
    by : (b : Bool) → (rest_after ds ps ≡ Some qs → rest_after (ds ++ es) ps ≡ Some rest) → (if b then rest_after ds ps else None) ≡ Some qs → (if b then rest_after (ds ++ es) ps else None) ≡ Some rest
    by true ih h = ih h
    by false ih h = absurd (cc)

tell-choice : (w : Walker) (z : ℤ) → w.zxid <ℤ z → plain_choice w z ≡ Tell
tell-choice w z h = (let e : int_lt w.zxid z ≡ true = grind (arith, nat_tests, ints) in ap (λ b. if b then Tell else Plain) e)

plain-here : (w : Walker) (z : ℤ) → z ≡ w.zxid → plain_choice w z ≡ Plain
plain-here w z h = (let e : int_lt w.zxid z ≡ false = grind (arith, nat_tests, ints) in ap (λ b. if b then Tell else Plain) e)

-- the packet of an answer without the tree is one of those that are looked for
is-plain : (x : Frame) (t : Told) (r : Reply) (z : ℤ) → zxid_in (reply_packet (xid_of x) z r) ≡ z → IsEither (asks_of_watches x) r t.reply → is_plain x (Some t) (reply_packet (xid_of x) z r) ≡ true
is-plain x t r z back either = by either
  where
    bytes : List ℕ
    bytes = reply_packet (xid_of x) z r

    here : is_answer x bytes r ≡ true
    here = ap (λ y. bytes_eq bytes (reply_packet (xid_of x) y r)) back ∙ (bytes_eq-Decides bytes bytes).1 refl

    or-true : (a : Bool) → (a || true) ≡ true
    or-true true = refl
    or-true false = refl

    watched : (b : Bool) → b ≡ true → (r ≡ reply.Good body.Empty) ⊎ (r ≡ reply.Refused no_watcher) → is_watch_answer x bytes b ≡ true
    watched false e is = absurd (cc)
    watched true e (inl is) = ap (λ b. b || is_answer x bytes (reply.Refused no_watcher)) (ap (is_answer x bytes) (sym is) ∙ here)
    watched true e (inr is) = ap (λ b. is_answer x bytes (reply.Good body.Empty) || b) (ap (is_answer x bytes) (sym is) ∙ here) ∙ or-true (is_answer x bytes (reply.Good body.Empty))

    by : IsEither (asks_of_watches x) r t.reply → is_plain x (Some t) bytes ≡ true
    by (inl same) = ap (λ b. b || is_watch_answer x bytes (asks_of_watches x)) (ap (is_answer x bytes) (sym same) ∙ here)
    by (inr other) = ap (λ b. is_answer x bytes t.reply || b) (watched (asks_of_watches x) other.0 other.1) ∙ or-true (is_answer x bytes t.reply)

plain-ahead : (lines : List TranscriptLine) (c : ℕ) (id : ℤ) (w : Walker) (ps : List Due) (xs : List Choice) → InRange w → IsFirstOf lines c id w ps Plain xs → Ahead lines c id w ps (length (Plain ∷ xs))
plain-ahead lines c id w ps xs r f =
    let q = plainly-by lines c id w f.made f.moved in
    let x = read_request q.bytes in
    let bytes = reply_packet (xid_of x) w.zxid q.said.reply in
    let long = range-long w r in
    let back : zxid_in bytes ≡ w.zxid = reply-zxid (xid_of x) w.zxid q.said.reply long in
    let next : next_reply ps ≡ Some bytes =
    reply-next [] (later_of w.since (q.place + 1), bytes) ps f.rest refl (not-notice (xid_of x) w.zxid q.said.reply long) (ap (λ (p : Walker × List Due). rest_after p.1 ps) q.gives ∙ f.there) in
    let none = plain-some w.watches no_watches x q.said q.plain in
    let again : repeats (placed_frame c w.next lines) bytes ≡ true =
    ap (λ o. repeats o bytes) q.frame ∙ ap (λ o. is_plain x o bytes) none.1
    ∙ is-plain x none.0 q.said.reply w.zxid back (plain-either w.watches no_watches x q.said none.0 q.plain none.1) in
    Plainly bytes next again (omega (arith, ints, back)) (subst (IsAfter lines c id w ps (length (Plain ∷ xs))) (sym (plain-here w (zxid_in bytes) back)) (first-after lines c id w ps Plain xs f))

answer-ahead : (lines : List TranscriptLine) (c : ℕ) (id : ℤ) (w : Walker) (ps : List Due) (m : ℕ) (xs : List Choice) → is_legal lines ≡ true → HasZxids lines → CarriedByTree lines c → IsFirstOf lines c id w ps (Answer m) xs → Ahead lines c id w ps (length (Answer m ∷ xs))
answer-ahead lines c id w ps m xs legal least tree f =
    let mk = made lines c id w m f.made f.moved in
    let z = (state_at lines m).zxid in
    let l = state-long lines m legal least in
    Asof (reply_packet (xid_of (read_request mk.bytes)) z mk.what.1.reply)
    (shown-reply (take m lines) w mk.place (xid_of (read_request mk.bytes)) (fired_above (take m lines) w.zxid w.watches).1 mk.what ps f.rest l (fired-notices (take m lines) w.zxid w.watches)
    (ap (λ (p : Walker × List Due). rest_after p.1 ps) mk.gives ∙ f.there))
    (no-repeat lines c id w m f.made z tree mk) m (first-after lines c id w ps (Answer m) xs f)

tell-ahead : (lines : List TranscriptLine) (c : ℕ) (id : ℤ) (w : Walker) (ps : List Due) (xs : List Choice) → is_legal lines ≡ true → HasZxids lines → InRange w → (f : IsFirstOf lines c id w ps Tell xs)
    → Ahead lines c id f.made.0 f.rest (length xs) → Ahead lines c id w ps (length (Tell ∷ xs))
tell-ahead lines c id w ps xs legal least r f a = by a
  where
    t : InRange f.made.0 × (w.zxid <ℤ f.made.0.zxid) × (f.made.0.next ≡ w.next) × (are_notices f.made.1 ≡ true)
    t = told-range lines w f.made legal least r (told-by lines c id w f.made f.moved)

    same : next_reply ps ≡ next_reply f.rest
    same = next-rest_after f.made.1 ps f.rest t.3 f.there

    by : Ahead lines c id f.made.0 f.rest (length xs) → Ahead lines c id w ps (length (Tell ∷ xs))
    by (Over e) = Quiet (same ∙ ap next_reply e) (first-after lines c id w ps Tell xs f)
    by (Quiet e g) = Quiet (same ∙ e) (first-after lines c id w ps Tell xs f)
    by (Plainly bytes e g le h) =
        Plainly bytes (same ∙ e) (ap (λ i. repeats (placed_frame c i lines) bytes) (sym t.2) ∙ g) (omega (arith, ints, le, t.1))
        (subst (IsAfter lines c id w ps (length (Tell ∷ xs))) (sym (tell-choice w (zxid_in bytes) (omega (arith, ints, le, t.1)))) (first-after lines c id w ps Tell xs f))
    by (Asof bytes e g m h) =
        Asof bytes (same ∙ e) (ap (λ i. repeats (placed_frame c i lines) bytes) (sym t.2) ∙ g) m (record {
          made = (h.made.0, f.made.1 ++ h.made.1);
          rest = h.rest;
          later = h.later;
          moved = exchange lines c id w m f.made h.made legal r.0 f.moved h.moved;
          there = rest_after-append f.made.1 h.made.1 ps f.rest h.rest f.there h.there;
          fresh = subst (λ i. IsFresh lines c i (Answer m)) t.2 h.fresh;
          good = h.good;
          shorter = omega (arith, h.shorter);
        })

empty-over : (lines : List TranscriptLine) (c : ℕ) (id : ℤ) (w : Walker) (ps : List Due) → is_walked (walk lines c id w []) ps ≡ true → ps ≡ []
unfolding walk
empty-over lines c id w [] h = refl
empty-over lines c id w (p ∷ ps) h = absurd (cc)

pub ahead : (lines : List TranscriptLine) (c : ℕ) (id : ℤ) (w : Walker) (ps : List Due) (xs : List Choice) → is_legal lines ≡ true → HasZxids lines → CarriedByTree lines c → InRange w → IsGood lines c id w ps xs → Ahead lines c id w ps (length xs)
ahead lines c id w ps [] legal least tree r g = Over (empty-over lines c id w ps g.lawful)
ahead lines c id w ps (Plain ∷ xs) legal least tree r g = plain-ahead lines c id w ps xs r (good-first lines c id w ps Plain xs g)
ahead lines c id w ps (Answer m ∷ xs) legal least tree r g = answer-ahead lines c id w ps m xs legal least tree (good-first lines c id w ps (Answer m) xs g)
ahead lines c id w ps (Tell ∷ xs) legal least tree r g =
    let f = good-first lines c id w ps Tell xs g in
    let t = told-range lines w f.made legal least r (told-by lines c id w f.made f.moved) in
    tell-ahead lines c id w ps xs legal least r f (ahead lines c id f.made.0 f.rest xs legal least tree t.0 f.good)
