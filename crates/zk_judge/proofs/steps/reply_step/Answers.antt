use Rattle.std.proofs.Common.{◌≡◌, ℕ, ℤ, ◌+◌, ◌++◌, ◌∷◌, [], Bool, List, length, refl, ap, ◌∙◌, rules, arith, w64, to_z, of_z}
use Rattle.std.proofs.lemmas.Grind.{common_steps}
use Rattle.zk_jute.specs.Packets.{reply_packet}
use Rattle.zk_model.specs.declared.reply.Notice.{Notice}
use Rattle.zk_transcript.specs.declared.transcript.TranscriptLine.{TranscriptLine}
use Rattle.zk_service.specs.Answers.{Told, xid_of}
use Rattle.zk_transcript.specs.History.{after}
use Rattle.zk_transcript.specs.Walks.{Due, Walker, after_update, due_notices, later_of, reply_step}
use Rattle.zk_judge.specs.NextFrames.{before_frame}
use Rattle.zk_judge.specs.Seen.{ending_of, frame_as}
use Rattle.zk_judge.proofs.steps.reply_step.Goals as goal

replied : (past : List TranscriptLine) (i k : ℕ) (xid z : ℤ) (n : ℕ) (fired due : List Due) (t : Bool × Told)
    → z ≡ (after past).zxid → n ≡ after_update z past
    → due ≡ fired ++ due_notices (later_of n (k + 1)) t.1.notices ++ ((later_of (length past) (k + 1), reply_packet xid z t.1.reply) ∷ [])
    → ◌≡◌ {A = Walker × List Due} (record { zxid = z; since = n; watches = t.1.watches; next = i + 1; moment = length past; over = t.0 }, due) (reply_step past (before_frame i) k xid fired t)
replied past i k xid z n fired due t zxid since dues = rw (dues, since, zxid) refl

pub returns : goal.returns
returns c =
    let z = c.args.zxid in
    let past = c.args.past.now in
    let asked = c.args.asked.now in
    let t = ending_of c.args.ending in
    let xid = xid_of (frame_as asked.read) in
    let n = c.since_of-since.result in
    let fired = c.args.fired.items in
    let same : to_z w64 (of_z w64 z) ≡ z = search rules in
    let since : n ≡ after_update z past = search rules in
    let packet : c.in_ok-packet.packet ≡ reply_packet xid z t.1.reply = first_of (search rules, grind (arith, common_steps)) in
    let notices : c.as_slice.result.now ≡ t.1.notices = first_of (search rules, cc) in
    let dues =
    c.in_ok-due.ensures
    ∙ ap (λ (ns : List Notice). fired ++ due_notices (later_of n (asked.place + 1)) ns ++ ((later_of (length past) (asked.place + 1), c.in_ok-packet.packet) ∷ [])) notices
    ∙ ap (λ (b : List ℕ). fired ++ due_notices (later_of n (asked.place + 1)) t.1.notices ++ ((later_of (length past) (asked.place + 1), b) ∷ [])) packet in
    rw same (replied past asked.index asked.place xid z n fired c.in_ok-due.due.items t c.requires.zxid since dues)
