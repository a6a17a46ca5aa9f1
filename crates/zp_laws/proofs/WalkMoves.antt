-- Walks joined, and the moves that need no moment.
use Rattle.std.proofs.Common.{◌≡◌, ℕ, ◌+◌, ◌≤◌, arith, List, [], ◌∷◌, ◌++◌, refl, sym, ap, ◌∙◌, subst, append_assoc, false, ℤ}
use Rattle.std.specs.Prelude.{Option, Some, None, if◌then◌else◌}
use Rattle.zk_jute.specs.Packets.{reply_packet}
use Rattle.zk_jute.specs.Requests.{read_request}
use Rattle.zk_service.specs.Answers.{Told, plain_reply, xid_of, is_auth_refusal}
use Rattle.zk_transcript.specs.Walks.{Choice, Due, Plain, Walker, answer_plainly, due_notices, later_of, move, placed_frame, plain_answer, then_due, walk}
use Rattle.zk_transcript.specs.declared.transcript.TranscriptLine.{TranscriptLine}
use Rattle.zk_transcript.proofs.Longer.{move-next, then_due-next}
use Rattle.zk_service.proofs.PlainReplies.{plain-quiet}
use Rattle.zx_base.proofs.Options.{none_some, some_is}

pub walk-append : (lines : List TranscriptLine) (c : ℕ) (id : ℤ) (w : Walker) (xs ys : List Choice) (r q : Walker × List Due)
    → walk lines c id w xs ≡ Some r → walk lines c id r.0 ys ≡ Some q → walk lines c id w (xs ++ ys) ≡ Some (q.0, r.1 ++ q.1)
unfolding walk
walk-append lines c id w [] ys r q h g =
    let e : (w, []) ≡ r = cc in
    subst (λ (p : Walker × List Due). walk lines c id p.0 ys ≡ Some q → walk lines c id w ys ≡ Some (q.0, p.1 ++ q.1)) e (λ f. f) g
walk-append lines c id w (x ∷ xs) ys r q h g = go (move lines c id w x) refl (λ v s e n. walk-append lines c id v xs ys s q e n) h
  where
    go : (o : Option (Walker × List Due)) → move lines c id w x ≡ o
        → ((v : Walker) (s : Walker × List Due) → walk lines c id v xs ≡ Some s → walk lines c id s.0 ys ≡ Some q → walk lines c id v (xs ++ ys) ≡ Some (q.0, s.1 ++ q.1))
        → (elim o [ None ↦ None | Some u ↦ then_due u.1 (walk lines c id u.0 xs) ]) ≡ Some r
        → ◌≡◌ {A = Option (Walker × List Due)} (elim o [ None ↦ None | Some u ↦ then_due u.1 (walk lines c id u.0 (xs ++ ys)) ]) (Some (q.0, r.1 ++ q.1))
    go None e later t = absurd (cc)
    go (Some u) e later t =
        let s = then_due-next u.1 (walk lines c id u.0 xs) r t in
        let n : walk lines c id s.0.0 ys ≡ Some q = rw s.2 g in
        rw (later u.0 s.0 s.1 n) (ap (λ l. Some (q.0, l)) (sym (append_assoc u.1 s.0.1 q.1) ∙ ap (λ l. l ++ q.1) s.3))

-- a walk goes back to no earlier frame
pub walk-next : (lines : List TranscriptLine) (c : ℕ) (id : ℤ) (w : Walker) (xs : List Choice) (r : Walker × List Due) → walk lines c id w xs ≡ Some r → w.next ≤ r.0.next
unfolding walk
walk-next lines c id w [] r h = omega (arith, ap (λ (p : Walker × List Due). p.0.next) (some_is h))
walk-next lines c id w (x ∷ xs) r h = go (move lines c id w x) refl h (λ v q e. walk-next lines c id v xs q e)
  where
    go : (o : Option (Walker × List Due)) → move lines c id w x ≡ o → (elim o [ None ↦ None | Some u ↦ then_due u.1 (walk lines c id u.0 xs) ]) ≡ Some r
        → ((v : Walker) (q : Walker × List Due) → walk lines c id v xs ≡ Some q → v.next ≤ q.0.next) → w.next ≤ r.0.next
    go None e t later = absurd (none_some t)
    go (Some u) e t later =
        let s = then_due-next u.1 (walk lines c id u.0 xs) r t in
        omega (arith, move-next lines c id w x u e, later u.0 s.0 s.1, ap (λ (v : Walker). v.next) s.2)

-- a reply that needs no tree
pub plain-move : (lines : List TranscriptLine) (c : ℕ) (id : ℤ) (w : Walker) (k : ℕ) (bytes : List ℕ) (t : Told) → w.over ≡ false → placed_frame c w.next lines ≡ Some (k, bytes) → plain_reply w.watches (read_request bytes) ≡ Some t
    → move lines c id w Plain ≡ Some (record w { watches = t.watches; next = w.next + 1; over = is_auth_refusal t.reply }, (later_of w.since (k + 1), reply_packet (xid_of (read_request bytes)) w.zxid t.reply) ∷ [])
unfolding move
plain-move lines c id w k bytes t o f p =
    let place = later_of w.since (k + 1) in
    let packet : Due = (place, reply_packet (xid_of (read_request bytes)) w.zxid t.reply) in
    let after : Walker = record w { watches = t.watches; next = w.next + 1; over = is_auth_refusal t.reply } in
    ap (λ b. if b then None else answer_plainly w (placed_frame c w.next lines)) o ∙ ap (answer_plainly w) f ∙ ap (plain_answer w place (xid_of (read_request bytes))) p
    ∙ ap (λ ns. Some (after, due_notices place ns ++ packet ∷ [])) (plain-quiet w.watches (read_request bytes) t p)
