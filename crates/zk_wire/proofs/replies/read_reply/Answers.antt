use Rattle.std.proofs.Common.{rules, arith, ◌≡◌, w32, w64, SFits, drop, sym, ◌∙◌}
use Rattle.std.proofs.lemmas.Grind.{common_steps}
use Rattle.std.proofs.lemmas.Int.{to_z-of_z}
use Rattle.zk_jute.specs.JuteReading.{front_int, front_long}
use Rattle.zk_jute.specs.ReplyReading.{read_reply, Unknown, Answers, Unreadable}
use Rattle.zk_jute.proofs.ReplyLaws.{reads_no_header, reads_unknown, reads_answers, reads_unreadable}
use Rattle.zk_wire.proofs.replies.read_reply.Goals as goal

pub returns-then-frame-lt-HEADER : goal.returns-then-frame-lt-HEADER
returns-then-frame-lt-HEADER c = reads_no_header c.args.frame.now c.args.kind (omega arith)

pub returns-in_default : goal.returns-in_default
returns-in_default c =
    let f : SFits w32 c.first_int-xid.result = search rules in
    let g : SFits w32 c.args.kind = search rules in
    let numbered = simp to_z-of_z at c.from_number.ensures in
    let e : read_reply c.args.frame.now c.args.kind ≡ Unknown c.first_int-xid.result c.args.kind = rw c.first_int-xid.ensures (reads_unknown c.args.frame.now c.args.kind (omega arith) (sym numbered ∙ c.in_default.is)) in
    simp to_z-of_z e

pub returns-in-Ok : goal.returns-in-Ok
returns-in-Ok c =
    let f : SFits w32 c.first_int-xid.result = search rules in
    let g : SFits w32 c.args.kind = search rules in
    let h : SFits w64 c.first_long-zxid.result = search rules in
    let i : SFits w32 c.first_int-err.result = search rules in
    let numbered = simp to_z-of_z at c.from_number.ensures in
    let zxid : c.first_long-zxid.result ≡ front_long (drop 4 c.args.frame.now) = grind (arith, common_steps) in
    let err : c.first_int-err.result ≡ front_int (drop 12 c.args.frame.now) = grind (arith, common_steps) in
    let rest : c.new-reader.result ≡ drop 16 c.args.frame.now = grind (arith, common_steps) in
    let read = simp to_z-of_z at c.in-Ok.ensures in
    let body = rw (err, rest) at read in
    let e : read_reply c.args.frame.now c.args.kind ≡ Answers c.first_int-xid.result c.first_long-zxid.result c.in-Ok.reply =
    rw (c.first_int-xid.ensures, zxid) (reads_answers c.args.frame.now c.args.kind c.in-Some.code c.in-Ok.reply c.reply.new.reader (omega arith) (sym numbered ∙ c.in-Some.is) body) in
    simp to_z-of_z e

pub returns-in-Err-Unreadable : goal.returns-in-Err-Unreadable
returns-in-Err-Unreadable c =
    let f : SFits w32 c.first_int-xid.result = search rules in
    let g : SFits w32 c.args.kind = search rules in
    let i : SFits w32 c.first_int-err.result = search rules in
    let numbered = simp to_z-of_z at c.from_number.ensures in
    let err : c.first_int-err.result ≡ front_int (drop 12 c.args.frame.now) = grind (arith, common_steps) in
    let rest : c.new-reader.result ≡ drop 16 c.args.frame.now = grind (arith, common_steps) in
    let fault = rw c.in-Err-Unreadable.field-0-is at c.in-Err-Unreadable.ensures in
    let read = simp to_z-of_z at fault in
    let body = rw (err, rest) at read in
    let e : read_reply c.args.frame.now c.args.kind ≡ Unreadable c.first_int-xid.result c.saturating_sub.result =
    rw (c.first_int-xid.ensures, c.saturating_sub.ensures) (reads_unreadable c.args.frame.now c.args.kind c.in-Some.code c.in-Err-Unreadable.left (omega arith) (sym numbered ∙ c.in-Some.is) body) in
    simp to_z-of_z e
