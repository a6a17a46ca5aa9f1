-- What is written is read again.
use Rattle.std.proofs.Common.{◌≡◌, ℕ, ◌≤◌, true, false, Some, List, [], ◌∷◌, length, refl, sym, arith, ℤ, pos, negsuc}
use Rattle.std.specs.List.{flat_map}
use Rattle.std.proofs.lemmas.List.{append-nil}
use Rattle.zk_jute.specs.declared.opcode.Opcode.{Opcode}
use Rattle.zk_model.specs.declared.reply.Reply.{Reply}
use Rattle.zk_model.specs.declared.request.Part.{Part}
use Rattle.zk_model.specs.declared.request.Request.{Request}
use Rattle.zk_model.specs.declared.request.Request.TheVariants as requests
use Rattle.zk_jute.specs.JuteValues.{int, Spelled, Spells}
use Rattle.zk_jute.specs.JuteWriting.{count_bytes, with_length, AreValues}
use Rattle.zk_jute.specs.Frames.{IsFrame, Framed}
use Rattle.zk_jute.specs.Grammar.{IsPart, IsAsked, IsRequest, Suits}
use Rattle.zk_jute.specs.Numbers.{opcode_number, opcode_of, opcode_numbered, part_number, part_kind}
use Rattle.zk_jute.specs.Packets.{reply_values, reply_bytes, CanBeSent}
use Rattle.zk_jute.specs.Records.{part_values}
use Rattle.zk_jute.specs.ReplyReading as answers
use Rattle.zk_jute.specs.Requests.{Asks, read_request}
use Rattle.zk_jute.specs.Sending.{header_values, whole_part, asked_values, request_values, request_bytes, RequestCanBeSent}
use Rattle.zk_jute.proofs.Framing.{no_frame}
use Rattle.zk_jute.proofs.JuteCanonical.{length_canonical, values_canonical}
use Rattle.zk_jute.proofs.Lengths.{written_can, length-request_bytes, length-reply_bytes}
use Rattle.zk_jute.proofs.Lists.{spelled_split, spelled_items, spelled_each}
use Rattle.zk_jute.proofs.ReplyLaws as replies
use Rattle.zk_jute.proofs.RequestLaws as asked
use Rattle.zk_model.specs.Limits.{max_frame}

-- ---- requests

part_spelled : (p : Part) (bytes : List ℕ) → Spelled Spells (whole_part p) bytes → IsPart p bytes
part_spelled p bytes is =
    let s = spelled_split Spells (header_values (part_number (part_kind p)) false) (part_values p) bytes is in
    (s.front, s.rest, (negsuc 0, s.first), s.second, s.parts)

asked_spelled : (r : Request) (bytes : List ℕ) → Spelled Spells (asked_values r) bytes → IsAsked r bytes
asked_spelled (requests.Multi ps) bytes is =
    let s = spelled_split Spells (flat_map whole_part ps) (header_values (negsuc 0) true) bytes is in
    (s.front, s.rest, spelled_each (λ p. Spelled Spells (whole_part p)) IsPart part_spelled ps s.front (spelled_items Spells whole_part ps s.front s.first), (negsuc 0, (negsuc 0, s.second)), s.parts)
asked_spelled r bytes is = is

request_canonical : (xid : ℤ) (r : Request) → RequestCanBeSent r → AreValues (request_values xid r) → IsRequest xid r (request_bytes xid r)
request_canonical xid r fits good =
    let can = written_can (request_values xid r) (omega (arith, length-request_bytes xid (pos 0) r, fits)) in
    let all = values_canonical (request_values xid r) can good in
    let s = spelled_split Spells (int xid ∷ int (opcode_number (opcode_of r)) ∷ []) (asked_values r) (request_bytes xid r) all in
    (s.front, s.rest, s.first, asked_spelled r s.rest s.second, s.parts)

pub request_comes_back : (xid : ℤ) (r : Request) → RequestCanBeSent r → AreValues (request_values xid r) → read_request (request_bytes xid r) ≡ Asks xid r
request_comes_back xid r fits good = asked.only (request_bytes xid r) xid r (request_canonical xid r fits good)

-- ---- replies

pub reply_comes_back : (kind : ℤ) (code : Opcode) (xid zxid : ℤ) (r : Reply) → opcode_numbered kind ≡ Some code → Suits code r → CanBeSent r → AreValues (reply_values xid zxid r)
    → answers.read_reply (reply_bytes xid zxid r) kind ≡ answers.Answers xid zxid r
reply_comes_back kind code xid zxid r numbered suits fits good =
    let can = written_can (reply_values xid zxid r) (omega (arith, length-reply_bytes xid zxid (pos 0) (pos 0) r, fits)) in
    replies.only (reply_bytes xid zxid r) kind code xid zxid r numbered (record { suits = suits; spelled = values_canonical (reply_values xid zxid r) can good })

-- ---- packets

-- the stream of one packet is one frame
pub packet_framed : (frame : List ℕ) → length frame ≤ max_frame → Framed (with_length frame) (frame ∷ []) []
packet_framed frame le =
    let packet : List ℕ = with_length frame in
    let one : IsFrame frame packet = (count_bytes (length frame), length_canonical (length frame) (omega (arith, le)), le, refl) in
    (packet, (packet, [], one, refl, sym (append-nil packet)), sym (append-nil packet), no_frame [] refl)
