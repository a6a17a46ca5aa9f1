use Rattle.std.proofs.Common.{rules, arith, ◌≡◌, w32, SFits, drop, None, Some, Err, sym, ap, ◌∙◌}
use Rattle.std.proofs.lemmas.Grind.{common_steps}
use Rattle.std.proofs.lemmas.Int.{to_z-of_z}
use Rattle.zk_jute.specs.Numbers.{opcode_numbered}
use Rattle.zk_jute.specs.JuteReading.{front_int}
use Rattle.zk_jute.specs.Requests.{read_request, whole_at, Unknown, Asks, Unreadable}
use Rattle.zk_jute.proofs.Contents.{contents_within}
use Rattle.zk_jute.proofs.RequestLaws.{reads_no_header, reads_unknown, reads_asks, reads_unreadable}
use Rattle.zk_wire.proofs.requests.read_request.Goals as goal

pub returns-then-frame-lt-HEADER : goal.returns-then-frame-lt-HEADER
returns-then-frame-lt-HEADER c = record { exact = reads_no_header c.args.frame.now (omega arith); short = tt }

pub returns-in_default : goal.returns-in_default
returns-in_default c =
    let f : SFits w32 c.first_int-xid.result = search rules in
    let g : SFits w32 c.first_int-kind.result = search rules in
    let kind : c.first_int-kind.result ≡ front_int (drop 4 c.args.frame.now) = grind (arith, common_steps) in
    let none : opcode_numbered (front_int (drop 4 c.args.frame.now)) ≡ None = grind (arith, common_steps) in
    let e : read_request c.args.frame.now ≡ Unknown c.first_int-xid.result c.first_int-kind.result = rw (c.first_int-xid.ensures, kind) (reads_unknown c.args.frame.now (omega arith) none) in
    simp to_z-of_z (record { exact = e; short = tt })

pub returns-in-Ok : goal.returns-in-Ok
returns-in-Ok c =
    let f : SFits w32 c.first_int-xid.result = search rules in
    let g : SFits w32 c.first_int-kind.result = search rules in
    let kind : c.first_int-kind.result ≡ front_int (drop 4 c.args.frame.now) = grind (arith, common_steps) in
    let numbered = simp to_z-of_z at c.from_number.ensures in
    let code : opcode_numbered (front_int (drop 4 c.args.frame.now)) ≡ Some c.in-Some.code = ap opcode_numbered (sym kind) ∙ sym numbered ∙ c.in-Some.is in
    let rest : c.new-reader.result ≡ drop 8 c.args.frame.now = grind (arith, common_steps) in
    let body = rw rest at c.in-Ok.ensures in
    let e : read_request c.args.frame.now ≡ Asks c.first_int-xid.result c.in-Ok.request = rw c.first_int-xid.ensures (reads_asks c.args.frame.now c.in-Some.code c.in-Ok.request c.whole.new.reader (omega arith) code body) in
    simp to_z-of_z (record { exact = e; short = contents_within c.args.frame.now c.first_int-xid.result c.in-Ok.request e })

pub returns-in-Err-Unreadable : goal.returns-in-Err-Unreadable
returns-in-Err-Unreadable c =
    let f : SFits w32 c.first_int-xid.result = search rules in
    let g : SFits w32 c.first_int-kind.result = search rules in
    let kind : c.first_int-kind.result ≡ front_int (drop 4 c.args.frame.now) = grind (arith, common_steps) in
    let numbered = simp to_z-of_z at c.from_number.ensures in
    let code : opcode_numbered (front_int (drop 4 c.args.frame.now)) ≡ Some c.in-Some.code = ap opcode_numbered (sym kind) ∙ sym numbered ∙ c.in-Some.is in
    let rest : c.new-reader.result ≡ drop 8 c.args.frame.now = grind (arith, common_steps) in
    let body : whole_at c.in-Some.code (drop 8 c.args.frame.now) ≡ Err c.in-Err-Unreadable.left = grind (arith, common_steps) in
    let e : read_request c.args.frame.now ≡ Unreadable c.first_int-xid.result c.saturating_sub.result = rw (c.first_int-xid.ensures, c.saturating_sub.ensures) (reads_unreadable c.args.frame.now c.in-Some.code c.in-Err-Unreadable.left (omega arith) code body) in
    simp to_z-of_z (record { exact = e; short = tt })
