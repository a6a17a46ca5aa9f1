-- Which frames have a header: those of eight bytes and more.
use Rattle.std.proofs.Common.{◌≡◌, ℕ, ◌≤◌, ◌<◌, ℤ, true, false, List, length, drop, refl, arith}
use Rattle.std.specs.Prelude.{Option, Some, None, Ok, Err, nat_lt}
use Rattle.std.proofs.lemmas.Bool.Decides.{nat_tests}
use Rattle.zk_jute.specs.declared.opcode.Opcode.{Opcode}
use Rattle.zk_jute.specs.JuteReading.{Read, front_int}
use Rattle.zk_jute.specs.Numbers.{opcode_numbered}
use Rattle.zk_jute.specs.Requests.{asked_as, frame_of_kind, read_request, whole_at}
use Rattle.zk_model.specs.declared.request.Request.{Request}
use Rattle.zk_service.specs.Answers.{has_header}

asked-headed : (xid : ℤ) (size : ℕ) (r : Read Request) → has_header (asked_as xid size r) ≡ true
asked-headed xid size (Ok x) = refl
asked-headed xid size (Err left) = refl

kind-headed : (xid kind : ℤ) (size : ℕ) (body : List ℕ) (o : Option Opcode) → has_header (frame_of_kind xid kind size body o) ≡ true
kind-headed xid kind size body None = refl
kind-headed xid kind size body (Some code) = asked-headed xid size (whole_at code body)

pub headless : (bytes : List ℕ) → length bytes < 8 → has_header (read_request bytes) ≡ false
unfolding read_request
headless bytes short = let test : nat_lt (length bytes) 8 ≡ true = grind (arith, nat_tests) in rw test refl

pub headed : (bytes : List ℕ) → 8 ≤ length bytes → has_header (read_request bytes) ≡ true
unfolding read_request
headed bytes long =
    let test : nat_lt (length bytes) 8 ≡ false = grind (arith, nat_tests) in
    rw test (kind-headed (front_int bytes) (front_int (drop 4 bytes)) (length bytes) (drop 8 bytes) (opcode_numbered (front_int (drop 4 bytes))))
