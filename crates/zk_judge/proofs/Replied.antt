-- Conversations as far as they are judged: which moments can be left out, and what a reply makes of what is left.
use Rattle.std.proofs.Common.{◌≡◌, ℕ, ℤ, pos, ◌+◌, ◌<◌, ◌≤◌, Bool, true, false, List, [], ◌∷◌, ◌++◌, length, length-append, length-take-le, take, Option, Some, None, inl, inr, refl, ap, sym, ◌∙◌, subst, arith}
use Rattle.std.specs.Prelude.{◌<ℤ◌, ◌≤ℤ◌, int_le, int_lt, nat_le, option_to_list, if◌then◌else◌, IfOk}
use Rattle.std.specs.Prelude.{Result, Ok, Err}
use Rattle.std.proofs.lemmas.Bool.{and_parts, cases_Bool}
use Rattle.std.proofs.lemmas.Bool.Decides.{nat_tests}
use Rattle.std.proofs.lemmas.Int.{ints}
use Rattle.zk_jute.specs.Requests.{read_request}
use Rattle.zk_jute.specs.Packets.{reply_packet}
use Rattle.zk_transcript.specs.declared.transcript.TranscriptLine.{TranscriptLine}
use Rattle.zk_service.specs.Answers.{xid_of}
use Rattle.zk_transcript.specs.History.{first_place, state_at}
use Rattle.zk_transcript.specs.Legal.{is_legal}
use Rattle.zk_transcript.specs.Walks.{Answer, Due, Plain, Walker, due_notices, after_update, fired_above, later_of, may_answer_at, move, placed_frame, update_shown}
use Rattle.zk_least.specs.LeastMoments.{first_of, moments_for}
use Rattle.zk_least.specs.LeastQueues.{is_front, then_plainly, told_through, told_up_to}
use Rattle.zk_least.specs.LeastReplies.{given_at, is_least_by_reply, reply_given}
use Rattle.zk_least.specs.LeastSteps.{is_least, is_least_after}
use Rattle.zk_least.specs.LeastWalk.{given, is_allowed, next_reply, repeats, zxid_in}
use Rattle.zk_least.proofs.Ahead.{plainly-by}
use Rattle.zk_least.proofs.AllowedMoments.{allowed-as}
use Rattle.zk_least.proofs.Answering.{made}
use Rattle.zk_least.proofs.ChoiceCounts.{places-rise}
use Rattle.zk_least.proofs.Exchange.{not-above}
use Rattle.zk_least.proofs.Replies.{least-replies-law}
use Rattle.zk_least.proofs.Rising.{at-line, below-state}
use Rattle.zk_least.proofs.SameZxid.{get-take}
use Rattle.zk_transcript.proofs.Unarmed.{after_update-bound}
use Rattle.zk_model.specs.Watches.{is_unarmed}
use Rattle.zk_least.proofs.Sound.{given-is}
use Rattle.zk_legal.specs.Faults.{history_fault}
use Rattle.zk_judge.specs.Fronts.{IsTold}
use Rattle.zk_judge.specs.Waiting.{IsEarliest, IsNotBefore, goes_on, tried}
use Rattle.zk_judge.proofs.RestAfter.{rest_after-length}
use Rattle.zk_judge.proofs.Fronts.{IsUpdateOf, update-of}
use Rattle.zk_judge.proofs.Lawful.{legal-when, zxids-when}
use Rattle.zk_judge.proofs.Tries.{first-fails, first-passes}

-- ---- moments

pub goes-skip : (lines : List TranscriptLine) (c : ℕ) (id : ℤ) (w : Walker) (ps : List Due) (m : ℕ) (ms : List ℕ) → tried lines c id w ps m ≡ None → goes_on lines c id w ps (m ∷ ms) ≡ goes_on lines c id w ps ms
unfolding goes_on
goes-skip lines c id w ps m ms none = ap (is_least_after lines c id) (first-fails lines c id w ps m ms none)

pub goes-none : (lines : List TranscriptLine) (c : ℕ) (id : ℤ) (w : Walker) (ps : List Due) → goes_on lines c id w ps [] ≡ false
unfolding goes_on
goes-none lines c id w ps = refl

pub goes-first : (lines : List TranscriptLine) (c : ℕ) (id : ℤ) (w : Walker) (ps : List Due) (m : ℕ) (ms : List ℕ) (y : Walker × List Due)
    → tried lines c id w ps m ≡ Some y → goes_on lines c id w ps (m ∷ ms) ≡ is_least lines c id y.0 y.1
unfolding goes_on
goes-first lines c id w ps m ms y is = ap (is_least_after lines c id) (first-passes lines c id w ps m ms y is)

not-tried : (lines : List TranscriptLine) (c : ℕ) (id : ℤ) (w : Walker) (ps : List Due) (m : ℕ) → (is_allowed lines c id w ps m ≡ true → ⊥) → tried lines c id w ps m ≡ None
not-tried lines c id w ps m not = by (is_allowed lines c id w ps m) refl
  where
    by : (b : Bool) → is_allowed lines c id w ps m ≡ b → ◌≡◌ {A = Option (Walker × List Due)} (if b then given ps (move lines c id w (Answer m)) else None) None
    by true e = absurd (not e)
    by false e = refl

pub too-early : (lines : List TranscriptLine) (c : ℕ) (id : ℤ) (w : Walker) (ps : List Due) (from m : ℕ) → IsEarliest lines w from → m < from → tried lines c id w ps m ≡ None
too-early lines c id w ps from m earliest less =
    not-tried lines c id w ps m (λ allowed. let may = (allowed-as lines c id w ps m allowed).made.may_answer in let not = earliest m less in cc)

pub too-late : (lines : List TranscriptLine) (c : ℕ) (id : ℤ) (w : Walker) (ps : List Due) (m : ℕ) → length lines < m → tried lines c id w ps m ≡ None
too-late lines c id w ps m more =
    not-tried lines c id w ps m (λ allowed. let within = (allowed-as lines c id w ps m allowed).made.within in omega (arith, within, more))

pub next-try : (lines : List TranscriptLine) (c : ℕ) (id : ℤ) (w : Walker) (ps : List Due) (m n : ℕ) (o : Option ℕ) → tried lines c id w ps m ≡ None → o ≡ Some n
    → goes_on lines c id w ps (n ∷ []) ≡ goes_on lines c id w ps (m ∷ option_to_list o)
next-try lines c id w ps m n o none is = sym (goes-skip lines c id w ps m (option_to_list o) none ∙ ap (λ (q : Option ℕ). goes_on lines c id w ps (option_to_list q)) is)

pub both-missed : (lines : List TranscriptLine) (c : ℕ) (id : ℤ) (w : Walker) (ps : List Due) (m n : ℕ) (o : Option ℕ) → tried lines c id w ps m ≡ None → o ≡ Some n → tried lines c id w ps n ≡ None
    → false ≡ goes_on lines c id w ps (m ∷ option_to_list o)
both-missed lines c id w ps m n o none is missed = sym (goes-skip lines c id w ps n [] missed ∙ goes-none lines c id w ps) ∙ next-try lines c id w ps m n o none is

pub one-missed : (lines : List TranscriptLine) (c : ℕ) (id : ℤ) (w : Walker) (ps : List Due) (m : ℕ) (o : Option ℕ) → tried lines c id w ps m ≡ None → o ≡ None
    → false ≡ goes_on lines c id w ps (m ∷ option_to_list o)
one-missed lines c id w ps m o none is =
    sym (goes-skip lines c id w ps m (option_to_list o) none ∙ ap (λ (q : Option ℕ). goes_on lines c id w ps (option_to_list q)) is ∙ goes-none lines c id w ps)

pub not-twice : (lines : List TranscriptLine) (c : ℕ) (id : ℤ) (w : Walker) (ps : List Due) (m n : ℕ) (o : Option ℕ) → tried lines c id w ps m ≡ None → IsNotBefore m o → o ≡ Some n → n ≤ m → tried lines c id w ps n ≡ None
not-twice lines c id w ps m n o none rises is below =
    let more : m ≤ n = subst (λ (q : Option ℕ). IsNotBefore m q) is rises in
    let same : m ≡ n = omega (arith, more, below) in
    subst (λ (k : ℕ). tried lines c id w ps k ≡ None) same none

-- ---- what a reply makes of the packets

abbrev IsRunning : List TranscriptLine → Type 0
IsRunning lines = history_fault lines ≡ None

by-reply : (lines : List TranscriptLine) (c : ℕ) (id : ℤ) (w : Walker) (ps : List Due) (o : Option (List ℕ)) → IsRunning lines → pos 0 <ℤ w.zxid → next_reply ps ≡ o → is_least lines c id w ps ≡ is_least_by_reply lines c id w ps o
by-reply lines c id w ps o run above next = least-replies-law lines c id w ps (legal-when lines run) (zxids-when lines run) above ∙ ap (is_least_by_reply lines c id w ps) next

pub at-end : (lines : List TranscriptLine) (c : ℕ) (id : ℤ) (w : Walker) (ps : List Due) → IsRunning lines → pos 0 <ℤ w.zxid → next_reply ps ≡ None
    → is_least lines c id w ps ≡ is_front ps (fired_above lines w.zxid w.watches).1
at-end lines c id w ps run above next = by-reply lines c id w ps None run above next

pub at-plain : (lines : List TranscriptLine) (c : ℕ) (id : ℤ) (w : Walker) (ps : List Due) (bytes : List ℕ) → IsRunning lines → pos 0 <ℤ w.zxid → next_reply ps ≡ Some bytes
    → repeats (placed_frame c w.next lines) bytes ≡ true → is_least lines c id w ps ≡ is_least_after lines c id (then_plainly lines c id (given ps (told_up_to lines w (zxid_in bytes))))
at-plain lines c id w ps bytes run above next plain =
    by-reply lines c id w ps (Some bytes) run above next ∙ by (repeats (placed_frame c w.next lines) bytes) plain
  where
    by : (b : Bool) → b ≡ true → is_least_after lines c id (reply_given lines c id w ps bytes b) ≡ is_least_after lines c id (then_plainly lines c id (given ps (told_up_to lines w (zxid_in bytes))))
    by true e = refl
    by false e = absurd (cc)

pub at-moments : (lines : List TranscriptLine) (c : ℕ) (id : ℤ) (w : Walker) (ps : List Due) (bytes : List ℕ) → IsRunning lines → pos 0 <ℤ w.zxid → next_reply ps ≡ Some bytes
    → repeats (placed_frame c w.next lines) bytes ≡ false → is_least lines c id w ps ≡ goes_on lines c id w ps (moments_for lines c id w bytes (placed_frame c w.next lines))
unfolding goes_on
at-moments lines c id w ps bytes run above next apart =
    by-reply lines c id w ps (Some bytes) run above next ∙ by (repeats (placed_frame c w.next lines) bytes) apart
  where
    by : (b : Bool) → b ≡ false → is_least_after lines c id (reply_given lines c id w ps bytes b)
        ≡ is_least_after lines c id (given_at lines c id w ps (first_of (is_allowed lines c id w ps) (moments_for lines c id w bytes (placed_frame c w.next lines))))
    by true e = absurd (cc)
    by false e = refl

-- ---- how far a reply brings the walker

-- v went on from w: no earlier moment is open to it, its zxid is above 0, and fewer packets are left
pub record GoesOn (lines : List TranscriptLine) (w v : Walker) (ps qs : List Due) : Type 0 where
  pub above : pos 0 <ℤ v.zxid
  pub earliest : (from : ℕ) → IsEarliest lines w from → IsEarliest lines v from
  pub told : IsTold lines v
  pub fewer : length qs < length ps

no-earlier : (lines : List TranscriptLine) (w v : Walker) (from : ℕ) → v.moment ≡ w.moment → w.zxid ≤ℤ v.zxid → IsEarliest lines w from → IsEarliest lines v from
no-earlier lines w v from same rises earliest m less = elim (cases_Bool (may_answer_at (take m lines) v)) [
  | inr not ↦ not
  | inl may ↦
      let q = and_parts (nat_le v.moment (length (take m lines))) (int_le v.zxid (state_at lines m).zxid) may in
      let reach : v.moment ≤ length (take m lines) = grind (arith, nat_tests, q.0) in
      let up : v.zxid ≤ℤ (state_at lines m).zxid = grind (arith, nat_tests, ints, q.1) in
      let first : nat_le w.moment (length (take m lines)) ≡ true = grind (arith, nat_tests, reach, same) in
      let second : int_le w.zxid (state_at lines m).zxid ≡ true = grind (arith, nat_tests, ints, up, rises) in
      let both : may_answer_at (take m lines) w ≡ true = rw (first, second) refl in
      let not = earliest m less in
      cc
]

pub front-told : (lines : List TranscriptLine) (v : Walker) (m : ℕ) → is_legal lines ≡ true → (state_at lines m).zxid ≡ v.zxid → v.since ≤ m → IsTold lines v
front-told lines v m legal same most k l at =
    let q = get-take v.since k lines l at in
    not-above v.zxid l (λ u is. let low = below-state lines k m u legal (q.1 ∙ ap Some is) (omega (arith, q.0, most)) in omega (arith, ints, low, same))

-- a walker with the zxid of one that was told of the updates up to it was told of them too
same-told : (lines : List TranscriptLine) (w v : Walker) → v.zxid ≡ w.zxid → v.since ≡ w.since → IsTold lines w → IsTold lines v
same-told lines w v zxid since told k l at = rw zxid (told k l (rw (← since) at))

-- a walker that was told up to a zxid
record IsUpTo (lines : List TranscriptLine) (w v : Walker) : Type 0 where
  pub moment : v.moment ≡ w.moment
  pub rises : w.zxid ≤ℤ v.zxid
  pub told : IsTold lines v

through-up : (lines : List TranscriptLine) (w : Walker) (z : ℤ) (o : Option (ℕ × ℤ)) (y : Walker × List Due) → is_legal lines ≡ true → ((u : ℕ × ℤ) → o ≡ Some u → IsUpdateOf lines z u) → w.zxid <ℤ z
    → told_through lines w o ≡ Some y → IsUpTo lines w y.0
through-up lines w z None y legal shown less h = absurd (cc)
through-up lines w z (Some u) y legal shown less h = by (is_unarmed (fired_above (take u.0 lines) w.zxid w.watches).0) h
  where
    told : Walker × List Due
    told = (record w { zxid = u.1; since = u.0 + 1; watches = (fired_above (take (u.0 + 1) lines) w.zxid w.watches).0 }, (fired_above (take (u.0 + 1) lines) w.zxid w.watches).1)

    by : (b : Bool) → (if b then None else Some told) ≡ Some y → IsUpTo lines w y.0
    by true e = absurd (cc)
    by false e =
        let same : told ≡ y = cc in
        let x = shown u refl in
        let r = at-line lines u.0 x.update legal x.there in
        let found = x.found in
        let reached : (state_at lines (u.0 + 1)).zxid ≡ u.1 = r.zxid ∙ x.zxid ∙ sym found in
        subst (λ (q : Walker × List Due). IsUpTo lines w q.0) same
        (record { moment = refl; rises = omega (arith, ints, found, less); told = front-told lines told.0 (u.0 + 1) legal reached (omega arith) })

told-up : (lines : List TranscriptLine) (w : Walker) (z : ℤ) (y : Walker × List Due) → is_legal lines ≡ true → IsTold lines w → told_up_to lines w z ≡ Some y → IsUpTo lines w y.0
told-up lines w z y legal told h = by (int_lt w.zxid z) refl h
  where
    by : (b : Bool) → int_lt w.zxid z ≡ b → (if b then told_through lines w (first_place (update_shown z) 0 lines) else Some (w, [])) ≡ Some y → IsUpTo lines w y.0
    by true e t =
        let less : w.zxid <ℤ z = grind (arith, nat_tests, ints, e) in
        through-up lines w z (first_place (update_shown z) 0 lines) y legal (update-of lines z) less t
    by false e t =
        let same : (w, []) ≡ y = cc in
        subst (λ (q : Walker × List Due). IsUpTo lines w q.0) same (record { moment = refl; rises = omega (arith, ints); told = told })

pub plain-on : (lines : List TranscriptLine) (c : ℕ) (id : ℤ) (w : Walker) (ps : List Due) (z : ℤ) (y : Walker × List Due) → IsRunning lines → pos 0 <ℤ w.zxid → IsTold lines w
    → then_plainly lines c id (given ps (told_up_to lines w z)) ≡ Some y → GoesOn lines w y.0 ps y.1
plain-on lines c id w ps z y run above told h = by (given ps (told_up_to lines w z)) refl h
  where
    by : (o : Option (Walker × List Due)) → given ps (told_up_to lines w z) ≡ o → then_plainly lines c id o ≡ Some y → GoesOn lines w y.0 ps y.1
    by None e t = absurd (cc)
    by (Some x) e t =
        let a = given-is ps (told_up_to lines w z) x e in
        let r = told-up lines w z a.0 (legal-when lines run) told a.1 in
        let b = given-is x.1 (move lines c id x.0 Plain) y t in
        let p = plainly-by lines c id x.0 b.0 b.1 in
        let moment : y.0.moment ≡ w.moment = sym (ap (λ (v : Walker). v.moment) b.2) ∙ sym (ap (λ (q : Walker × List Due). q.0.moment) p.gives) ∙ sym (ap (λ (v : Walker). v.moment) a.2) ∙ r.moment in
        let zxid : y.0.zxid ≡ a.0.0.zxid = sym (ap (λ (v : Walker). v.zxid) b.2) ∙ sym (ap (λ (q : Walker × List Due). q.0.zxid) p.gives) ∙ sym (ap (λ (v : Walker). v.zxid) a.2) in
        let since : y.0.since ≡ a.0.0.since = sym (ap (λ (v : Walker). v.since) b.2) ∙ sym (ap (λ (q : Walker × List Due). q.0.since) p.gives) ∙ sym (ap (λ (v : Walker). v.since) a.2) in
        let up = r.rises in
        let rises : w.zxid ≤ℤ y.0.zxid = omega (arith, ints, zxid, up) in
        let one : length b.0.1 ≡ 1 = sym (ap (λ (q : Walker × List Due). length q.1) p.gives) in
        record {
          above = omega (arith, ints, above, rises);
          earliest = λ from. no-earlier lines w y.0 from moment rises;
          told = same-told lines a.0.0 y.0 zxid since r.told;
          fewer = omega (arith, one, rest_after-length a.0.1 ps x.1 a.3, rest_after-length b.0.1 x.1 y.1 b.3);
        }

some-more : (ds : List Due) (d : Due) → 0 < length (ds ++ d ∷ [])
some-more ds d = omega (arith, length-append ds (d ∷ []))

-- an answer as of a moment, after which none is given as of an earlier one
pub record IsAnswered (lines : List TranscriptLine) (m : ℕ) (v : Walker) (ps qs : List Due) : Type 0 where
  pub above : pos 0 <ℤ v.zxid
  pub earliest : IsEarliest lines v m
  pub told : IsTold lines v
  pub fewer : length qs < length ps

pub answer-on : (lines : List TranscriptLine) (c : ℕ) (id : ℤ) (w : Walker) (ps : List Due) (m : ℕ) (y : Walker × List Due) → IsRunning lines → pos 0 <ℤ w.zxid
    → tried lines c id w ps m ≡ Some y → IsAnswered lines m y.0 ps y.1
answer-on lines c id w ps m y run above h = by (is_allowed lines c id w ps m) h
  where
    by : (b : Bool) → (if b then given ps (move lines c id w (Answer m)) else None) ≡ Some y → IsAnswered lines m y.0 ps y.1
    by false e = absurd (cc)
    by true e =
        let a = given-is ps (move lines c id w (Answer m)) y e in
        let mk = made lines c id w m a.0 a.1 in
        let up = places-rise lines c id w (Answer m) a.0 a.1 in
        let z = (state_at lines m).zxid in
        let within = mk.within in
        let size = length-take-le m lines within in
        let zxid : y.0.zxid ≡ a.0.0.zxid = sym (ap (λ (v : Walker). v.zxid) a.2) in
        let shows : z ≡ y.0.zxid = ap (λ (q : Walker × List Due). q.0.zxid) mk.gives ∙ sym zxid in
        let moment : y.0.moment ≡ length (take m lines) = sym (ap (λ (v : Walker). v.moment) a.2) ∙ sym (ap (λ (q : Walker × List Due). q.0.moment) mk.gives) in
        let since : y.0.since ≡ after_update z (take m lines) = sym (ap (λ (v : Walker). v.since) a.2) ∙ sym (ap (λ (q : Walker × List Due). q.0.since) mk.gives) in
        let some : 0 < length a.0.1 =
        subst (λ (q : Walker × List Due). 0 < length q.1) mk.gives
        (some-more ((fired_above (take m lines) w.zxid w.watches).1 ++ due_notices (later_of (after_update z (take m lines)) (mk.place + 1)) mk.what.1.notices) (later_of (length (take m lines)) (mk.place + 1), reply_packet (xid_of (read_request mk.bytes)) z mk.what.1.reply)) in
        record {
          above = omega (arith, ints, above, up, zxid);
          earliest = λ n less. (let few : length (take n lines) < y.0.moment = omega (arith, size, length-take-le n lines (omega (arith, less, within)), moment, less) in
              let late : nat_le y.0.moment (length (take n lines)) ≡ false = grind (arith, nat_tests, few) in
              rw late refl);
          told = front-told lines y.0 m (legal-when lines run) shows (omega (arith, since, after_update-bound z (take m lines), size));
          fewer = omega (arith, some, rest_after-length a.0.1 ps y.1 a.3);
        }

-- ---- a reply that repeats the walker's zxid

pub plain-some : (lines : List TranscriptLine) (c : ℕ) (id : ℤ) (w : Walker) (ps : List Due) (bytes : List ℕ) (y : Walker × List Due) → IsRunning lines → pos 0 <ℤ w.zxid → next_reply ps ≡ Some bytes
    → repeats (placed_frame c w.next lines) bytes ≡ true → Some y ≡ then_plainly lines c id (given ps (told_up_to lines w (zxid_in bytes))) → is_least lines c id y.0 y.1 ≡ is_least lines c id w ps
plain-some lines c id w ps bytes y run above next plain is = ap (is_least_after lines c id) is ∙ sym (at-plain lines c id w ps bytes run above next plain)

pub plain-none : (lines : List TranscriptLine) (c : ℕ) (id : ℤ) (w : Walker) (ps : List Due) (bytes : List ℕ) → IsRunning lines → pos 0 <ℤ w.zxid → next_reply ps ≡ Some bytes
    → repeats (placed_frame c w.next lines) bytes ≡ true → None ≡ then_plainly lines c id (given ps (told_up_to lines w (zxid_in bytes))) → false ≡ is_least lines c id w ps
plain-none lines c id w ps bytes run above next plain is = ap (is_least_after lines c id) is ∙ sym (at-plain lines c id w ps bytes run above next plain)

pub told-up-as : (lines : List TranscriptLine) (w : Walker) (z : ℤ) (u : ℕ × ℤ) → w.zxid <ℤ z → Some u ≡ first_place (update_shown z) 0 lines → told_through lines w (Some u) ≡ told_up_to lines w z
told-up-as lines w z u less found =
    let is : int_lt w.zxid z ≡ true = grind (arith, nat_tests, ints, less) in
    rw is (ap (told_through lines w) found)

-- what holds of a result, weakened
pub if-ok : {A E : Type 0} {P Q : A → Type 0} (r : Result A E) → ((x : A) → P x → Q x) → IfOk r P → IfOk r Q
if-ok (Ok x) f p = f x p
if-ok (Err e) f p = tt

pub both-ok : {A E : Type 0} {P Q S : A → Type 0} (r : Result A E) → ((x : A) → P x → Q x → S x) → IfOk r P → IfOk r Q → IfOk r S
both-ok (Ok x) f p q = f x p q
both-ok (Err e) f p q = tt
