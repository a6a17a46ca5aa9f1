-- A reply is sent, or waits for the entries up to its number.
use Rattle.std.proofs.Common.{◌≡◌, ℕ, ◌+◌, ◌≤◌, ◌<◌, List, [], ◌∷◌, ◌++◌, length, take, refl, sym, ap, ◌∙◌, subst, arith, Bool, true, false, ℤ, pos, inr}
use Rattle.std.specs.Prelude.{Option, Some, None, is_some, ◌≤ℤ◌, map, All, nat_le, nat_lt, int_le, if◌then◌else◌}
use Rattle.std.specs.Ordering.{int_eq}
use Rattle.std.proofs.lemmas.Int.{ints}
use Rattle.std.proofs.lemmas.Bool.{and_from}
use Rattle.std.proofs.lemmas.Bool.Decides.{nat_tests, Decides-int_eq}
use Rattle.std.proofs.lemmas.List.{map-append, length-take-le}
use Rattle.std.proofs.lemmas.List.Elements.{All-nil, All-cons, All-append}
use Rattle.ev_types.specs.Store.{Store}
use Rattle.zk_jute.specs.Packets.{reply_packet, notice_packet}
use Rattle.zk_model.specs.Watches.{is_unarmed}
use Rattle.zk_model.specs.declared.reply.Notice.{Notice}
use Rattle.zk_transcript.specs.History.{first_place, frame_shown, state_at}
use Rattle.zk_transcript.specs.Legal.{index_shown, is_below_place, is_legal}
use Rattle.zk_transcript.specs.Walks.{Answer, Due, Walker, after_place, after_update, due_notices, fired_above, is_not_overtaken, is_past, later_of, may_answer_at, move, placed_frame, update_shown}
use Rattle.zk_service.specs.declared.cause.Cause.{Cause}
use Rattle.zk_transcript.specs.declared.transcript.TranscriptLine.{TranscriptLine}
use Rattle.zx_base.proofs.Lists.{slice_get-take, all-take}
use Rattle.zk_transcript.proofs.Walks.{first_place-bound}
use Rattle.zk_least.proofs.Answering.{answer-move}
use Rattle.zk_least.proofs.Firing.{after-line}
use Rattle.zk_least.proofs.Queues.{none-fires, unarmed-fires}
use Rattle.zk_least.proofs.Rising.{at-line, not-below}
use Rattle.zp_step.specs.Replies.{Is, close_after, is_due, replied, send_notices, stage_after, waits}
use Rattle.zp_step.specs.Stages.{Core, Pending, Waiting, counted_up, seen_by, is_open}
use Rattle.zp_step.specs.declared.action.Action.{Action}
use Rattle.zp_step.specs.declared.action.Action.TheVariants as action
use Rattle.zp_laws.specs.Frames.{AreFrames}
use Rattle.zp_laws.specs.Standing.{AreViewsOf, IsPastFrame, IsReply, Matches, StandsOpen, is_ahead}
use Rattle.zp_laws.specs.Walking.{IsAheadIn, Walks}
use Rattle.zp_step.specs.Ending.{sends}
use Rattle.zp_laws.proofs.Going.{close-sends, index-after, later-bound, still-matches}
use Rattle.zp_laws.proofs.Strides.{UpTo, held-after, placed, strides-none, strides-one, turn-next, walks-is}
use Rattle.zp_step.proofs.Sending.{sends-append}
use Rattle.zp_laws.proofs.Updates.{last-update, legal-before, none-above, same-count}

-- a core at work on its next request
pub record Busy (store : Store) (lines : List TranscriptLine) (conn : ℕ) (c : Core) (w : Walker) : Type 0 where
  pub legal : is_legal lines ≡ true
  pub matches : Matches lines c w
  pub waiting : AreFrames lines conn (c.next + 1) c.waiting
  pub turn : is_not_overtaken lines conn c.next ≡ true
  pub views : AreViewsOf store c.views

-- ---- the zxid and the moment

-- A moment that isn't before the last update told: neither its state's zxid nor its number is below the core's, and the lines
-- before it are a legal history.
pub record Past (lines : List TranscriptLine) (c : Core) (w : Walker) (looked : ℕ) : Type 0 where
  pub zxid : c.zxid ≤ℤ (state_at lines looked).zxid
  pub cursor : c.cursor ≤ℤ pos (state_at lines looked).updates
  pub some : 1 ≤ (state_at lines looked).updates
  pub same : c.cursor ≡ pos (state_at lines looked).updates → (state_at lines looked).zxid ≡ c.zxid
  pub legal : is_legal (take looked lines) ≡ true

pub past-told : (lines : List TranscriptLine) (c : Core) (w : Walker) (looked : ℕ) → is_legal lines ≡ true → Matches lines c w → w.since ≤ looked → Past lines c w looked
past-told lines c w looked h m le =
    let p = placed lines c w h m in
    let le' : p.line + 1 ≤ looked = omega (arith, p.since, le) in
    let z = at-line lines p.line p.update h p.shown in
    let some : 0 < (state_at lines (p.line + 1)).updates = omega (arith, z.updates) in
    let n = not-below lines (p.line + 1) looked h le' some in
    record {
      zxid = omega (arith, ints, p.zxid, z.zxid, n.1);
      cursor = omega (arith, ints, p.cursor, n.0);
      some = omega (arith, some, n.0);
      same = λ e. same-count lines (p.line + 1) looked h le' some (omega (arith, ints, e, p.cursor)) ∙ z.zxid ∙ sym p.zxid;
      legal = legal-before lines looked p.line p.update h p.shown (omega (arith, le'));
    }

-- ---- the packets

sends-notices : (ns : List Notice) → sends (send_notices ns) ≡ map notice_packet ns
sends-notices [] = refl
sends-notices (n ∷ ns) = ap (λ l. notice_packet n ∷ l) (sends-notices ns)

due-notices : (k : ℕ) (ns : List Notice) → map (λ (d : Due). d.1) (due_notices k ns) ≡ map notice_packet ns
due-notices k [] = refl
due-notices k (n ∷ ns) = ap (λ l. notice_packet n ∷ l) (due-notices k ns)

pub notices-sent : (k : ℕ) (ns : List Notice) → map (λ (d : Due). d.1) (due_notices k ns) ≡ sends (send_notices ns)
notices-sent k ns = due-notices k ns ∙ sym (sends-notices ns)

pub notices-up : (n k : ℕ) (ns : List Notice) → k ≤ n → All (UpTo n) (due_notices k ns)
notices-up n k [] h = All-nil (UpTo n)
notices-up n k (x ∷ ns) h = All-cons (UpTo n) (k, notice_packet x) (due_notices k ns) h (notices-up n k ns h)

since-bound : (lines : List TranscriptLine) (z : ℤ) (looked : ℕ) → after_update z (take looked lines) ≤ length (take looked lines)
since-bound lines z looked = go (first_place (update_shown z) 0 (take looked lines)) refl
  where
    go : (o : Option (ℕ × ℤ)) → first_place (update_shown z) 0 (take looked lines) ≡ o → after_place o ≤ length (take looked lines)
    go None e = omega arith
    go (Some x) e = omega (arith, first_place-bound (update_shown z) 0 (take looked lines) x e)

-- ---- the reply

abbrev pub after_reply : List TranscriptLine → Walker → Pending → ℕ → Walker
after_reply lines w p looked = let z = (state_at lines looked).zxid in
    record { zxid = z; since = after_update z (take looked lines); watches = (seen_by p.change w.watches).watches; next = w.next + 1; moment = length (take looked lines); over = is_some p.ends }

abbrev reply_due : List TranscriptLine → Walker → Pending → ℕ → ℕ → List Due
reply_due lines w p looked k =
    due_notices (later_of (after_update (state_at lines looked).zxid (take looked lines)) (k + 1)) (seen_by p.change w.watches).notices
    ++ ((later_of (length (take looked lines)) (k + 1), reply_packet p.xid (state_at lines looked).zxid p.answer) ∷ [])

-- the core after a reply
abbrev replied_core : Core → Pending → Option Cause → Core
replied_core c p o = record c { stage = stage_after o; zxid = p.zxid; cursor = p.number; watches = (seen_by p.change c.watches).watches; next = counted_up (c.next + 1) }

module _ (store : Store) (lines : List TranscriptLine) (conn : ℕ) (c : Core) (w : Walker) (p : Pending) (looked : ℕ) (b : Busy store lines conn c w) (r : IsReply lines conn c.who w p looked) where
  m : Matches lines c w
  m = b.matches

  t : Past lines c w looked
  t = past-told lines c w looked b.legal b.matches (r.moment).told

  len : length (take looked lines) ≡ looked
  len = length-take-le looked lines (r.moment).past

  up : counted_up (c.next + 1) ≡ c.next + 1
  up = ap (λ n. counted_up (n + 1)) (sym (m.next)) ∙ index-after lines conn w.next r.bytes r.frame ∙ ap (λ n. n + 1) (m.next)

  -- nothing fires before a reply that is due
  due-fires : is_due c p ≡ true → fired_above (take looked lines) w.zxid w.watches ≡ (w.watches, [])
  due-fires d = go (is_unarmed c.watches) refl d
    where
      go : (u : Bool) → is_unarmed c.watches ≡ u → (if u then true else int_eq c.cursor p.number) ≡ true → fired_above (take looked lines) w.zxid w.watches ≡ (w.watches, [])
      go true e f = unarmed-fires (take looked lines) w.zxid w.watches (ap is_unarmed (m.watches) ∙ e)
      go false e f =
          let same : c.cursor ≡ p.number = (Decides-int_eq c.cursor p.number).0 f in
          let z : (state_at lines looked).zxid ≡ c.zxid = t.same (same ∙ sym r.number) in
          none-fires (take looked lines) w.zxid w.watches (none-above lines looked w.zxid b.legal (omega (arith, ints, z, m.zxid)))

  may-answer : may_answer_at (take looked lines) w ≡ true
  may-answer =
      let later = (r.moment).later in
      let first : nat_le w.moment (length (take looked lines)) ≡ true = grind (arith, nat_tests, len, later) in
      let le : w.zxid ≤ℤ (state_at lines looked).zxid = omega (arith, ints, t.zxid, m.zxid) in
      let second : int_le w.zxid (state_at lines looked).zxid ≡ true = grind (arith, nat_tests, ints) in
      and_from (nat_le w.moment (length (take looked lines))) (int_le w.zxid (state_at lines looked).zxid) first second

  reply-move : is_due c p ≡ true → move lines conn c.who.session w (Answer looked) ≡ Some (after_reply lines w p looked, reply_due lines w p looked (r.frame).place)
  reply-move d =
      let f = due-fires d in
      answer-move lines conn c.who.session w looked (r.frame).place r.bytes (is_some p.ends, record { reply = p.answer; notices = (seen_by p.change w.watches).notices; watches = (seen_by p.change w.watches).watches })
      (m.over) (r.moment).past (r.frame).framed may-answer (r.frame).header (rw f (r.told w.watches))
      ∙ rw (f, r.xid) refl

  stands-after : (o : Option Cause) → p.ends ≡ o → StandsOpen (is_open (stage_after o)) store lines conn (replied_core c p o) (after_reply lines w p looked) looked
  stands-after (Some why) e = tt
  stands-after None e =
      let l = last-update lines looked b.legal (t.some) in
      let here : after_update l.update.zxid lines ≡ l.place + 1 = after-line lines l.place l.update b.legal l.shown in
      let there : after_update l.update.zxid (take looked lines) ≡ l.place + 1 = after-line (take looked lines) l.place l.update (t.legal) (slice_get-take lines looked l.place l.before ∙ l.shown) in
      record {
        matches = record {
          zxid = r.zxid;
          since = ap (λ z. after_update z (take looked lines)) l.zxid ∙ there ∙ sym here ∙ ap (λ z. after_update z lines) (sym l.zxid ∙ r.zxid);
          watches = ap (λ ws. (seen_by p.change ws).watches) (m.watches);
          next = ap (λ n. n + 1) (m.next) ∙ sym up;
          over = ap is_some e;
          at = record { line = l.place; update = l.update; shown = l.shown; zxid = sym r.zxid ∙ l.zxid; cursor = sym r.number ∙ ap pos (sym l.count) };
        };
        work = tt;
        waiting = subst (λ n. AreFrames lines conn n c.waiting) (sym up) b.waiting;
        turn = ap (is_not_overtaken lines conn) up ∙ turn-next lines conn c.next b.turn;
        views = b.views;
        knows = ap (is_ahead lines conn) up ∙ b.turn;
      }

  reply-ahead : (o : Option Cause) → IsAheadIn lines conn (replied_core c p o) (stage_after o)
  reply-ahead None = ap (is_ahead lines conn) up ∙ b.turn
  reply-ahead (Some why) = tt

  pub replied-walks : (Afresh : Type 0) → (Afresh → IsPastFrame lines conn c.next looked) → is_due c p ≡ true → Walks store lines conn Afresh c (replied c p).0 w looked (replied c p).1
  replied-walks Afresh past d =
      let bound = first_place-bound (frame_shown conn w.next) 0 lines ((r.frame).place, r.bytes) (r.frame).framed in
      let z = (state_at lines looked).zxid in
      let n = later_of (after_update z (take looked lines)) ((r.frame).place + 1) in
      let within : n ≤ length lines =
      later-bound (after_update z (take looked lines)) ((r.frame).place + 1) (length lines) (omega (arith, since-bound lines z looked, len, (r.moment).past)) (omega (arith, bound)) in
      let packet : Due = (later_of (length (take looked lines)) ((r.frame).place + 1), reply_packet p.xid z p.answer) in
      let notices = (seen_by p.change w.watches).notices in
      let mine = (seen_by p.change c.watches).notices in
      record {
        walker = after_reply lines w p looked;
        strides = strides-one lines conn Afresh c.who.session w (Answer looked) (after_reply lines w p looked, reply_due lines w p looked (r.frame).place) (replied c p).1
            (reply-move d)
            (map-append (λ (x : Due). x.1) (due_notices n notices) (packet ∷ [])
            ∙ ap (λ l. l ++ reply_packet p.xid z p.answer ∷ []) (notices-sent n notices)
            ∙ ap (λ ws. sends (send_notices (seen_by p.change ws).notices) ++ reply_packet p.xid z p.answer ∷ []) (m.watches)
            ∙ ap (λ y. sends (send_notices mine) ++ reply_packet p.xid y p.answer ∷ []) r.zxid
            ∙ ap (λ l. sends (send_notices mine) ++ l) (sym (close-sends (reply_packet p.xid p.zxid p.answer) p.ends))
            ∙ sym (sends-append (send_notices mine) (action.Send (reply_packet p.xid p.zxid p.answer) ∷ close_after p.ends)))
            (All-append (UpTo (length lines)) (due_notices n notices) (packet ∷ []) (notices-up (length lines) n notices within)
            (All-cons (UpTo (length lines)) packet [] (later-bound (length (take looked lines)) ((r.frame).place + 1) (length lines) (omega (arith, len, (r.moment).past)) (omega (arith, bound))) (All-nil (UpTo (length lines)))))
            (λ q. (let less = past q (r.frame).place r.bytes (ap (λ i. placed_frame conn i lines) (sym m.next) ∙ (r.frame).framed) in let lt : nat_lt (r.frame).place looked ≡ true = grind (arith, nat_tests) in ap (is_past looked) (r.frame).framed ∙ lt))
            (all-take (λ l. is_below_place (w.next + 1) (index_shown conn l)) looked lines (ap (is_not_overtaken lines conn) (m.next) ∙ b.turn));
        stands = stands-after p.ends refl;
        looks = λ q e. absurd (held-after p.ends e);
        who = refl;
        ahead = inr (reply-ahead p.ends);
        zxid = omega (arith, ints, t.zxid, r.zxid);
        cursor = omega (arith, ints, t.cursor, r.number);
      }

  pub waits-walks : (Afresh : Type 0) → (Afresh → IsPastFrame lines conn c.next looked) → (c' : Core) (out : List Action) → Is (waits c p) c' out → Walks store lines conn Afresh c c' w looked out
  waits-walks Afresh past c' out e = go (is_due c p) refl e
    where
      d : Core
      d = record c { stage = Waiting p }

      go : (q : Bool) → is_due c p ≡ q → Is (if q then replied c p else (d, [])) c' out → Walks store lines conn Afresh c c' w looked out
      go true q f = walks-is store lines conn Afresh c c' (replied c p) w looked out f (replied-walks Afresh past q)
      go false q f = walks-is store lines conn Afresh c c' (d, []) w looked out f (record {
        walker = w;
        strides = strides-none lines conn Afresh c.who.session w [] refl;
        stands = record { matches = still-matches lines c d w m refl refl refl refl; work = tt; waiting = b.waiting; turn = b.turn; views = b.views; knows = (r, q) };
        looks = λ y e. past y;
        who = refl;
        ahead = inr tt;
        zxid = omega (arith, ints);
        cursor = omega (arith, ints);
      })

pub replied-next : (store : Store) (lines : List TranscriptLine) (conn : ℕ) (c : Core) (w : Walker) (p : Pending) (looked : ℕ) (b : Busy store lines conn c w) (r : IsReply lines conn c.who w p looked) (Afresh : Type 0) (past : Afresh → IsPastFrame lines conn c.next looked) (d : is_due c p ≡ true)
    → (replied-walks store lines conn c w p looked b r Afresh past d).walker.next ≡ w.next + 1
unfolding replied-walks
replied-next store lines conn c w p looked b r Afresh past d = refl
