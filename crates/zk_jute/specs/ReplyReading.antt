-- Reading replies: what a frame is read as, by the kind of the request that it answers.
use Rattle.std.specs.Prelude.{ℕ, ◌-◌, ℤ, pos, Option, Some, None, List, length, drop, Ok, Err, nat_lt, if◌then◌else◌}
use Rattle.std.specs.Ordering.{int_eq}
use Rattle.zk_jute.specs.declared.opcode.Opcode.{Opcode}
use Rattle.zk_jute.specs.declared.opcode.Opcode.TheVariants as opcodes
use Rattle.zk_model.specs.declared.reply.Body.{Body}
use Rattle.zk_model.specs.declared.reply.Body.TheVariants as bodies
use Rattle.zk_model.specs.declared.reply.Reply.{Reply}
use Rattle.zk_model.specs.declared.reply.Reply.TheVariants as replies
use Rattle.zk_jute.specs.JuteReading.{Read, ◌>>=◌, front_int, front_long, values_at, all_until_last, ended}
use Rattle.zk_jute.specs.Numbers.{opcode_numbered}
use Rattle.zk_jute.specs.FromValues.{body_from}
use Rattle.zk_jute.specs.Replies.{reply_fields}
use Rattle.zk_jute.specs.Results.{result_at}

-- the body of a reply that is not to a multi
abbrev pub plain_body_at : Opcode → List ℕ → Read Body
plain_body_at code bytes = values_at (reply_fields code) bytes >>= λ x. Ok (body_from code x.0, x.1)

-- the body of a reply to this kind, and the bytes after it
abbrev pub reply_body_at : Opcode → List ℕ → Read Body
reply_body_at opcodes.Multi bytes = all_until_last result_at bytes >>= λ x. Ok (bodies.Parts x.0, x.1)
reply_body_at code bytes = plain_body_at code bytes

-- what comes after the header, to the frame's end: a body only after the error 0
abbrev pub reply_at : Opcode → ℤ → List ℕ → Read Reply
reply_at code err bytes =
    if int_eq err (pos 0) then (reply_body_at code bytes >>= λ x. ended (replies.Good x.0, x.1))
    else ended (replies.Refused err, bytes)

-- what a frame is read as: too short for a header; a reply that can't be read, with the place of the first byte that is to
-- blame; the answer to a kind that isn't listed; or a reply
pub data ReplyFrame : Type 0 where
  NoHeader : ReplyFrame
  Unreadable : (xid : ℤ) (place : ℕ) → ReplyFrame
  Unknown : (xid kind : ℤ) → ReplyFrame
  Answers : (xid zxid : ℤ) (reply : Reply) → ReplyFrame

-- a fault's place in the frame, by how many bytes are left from it on
abbrev pub answered_as : ℤ → ℤ → ℕ → Read Reply → ReplyFrame
answered_as xid zxid size (Ok x) = Answers xid zxid x.0
answered_as xid zxid size (Err left) = Unreadable xid (size - left)

abbrev pub reply_to : ℤ → ℤ → ℤ → ℤ → ℕ → List ℕ → Option Opcode → ReplyFrame
reply_to xid zxid err kind size body None = Unknown xid kind
reply_to xid zxid err kind size body (Some code) = answered_as xid zxid size (reply_at code err body)

-- ReplyHeader, sixteen bytes, and a body to the frame's end
unfoldable pub read_reply : List ℕ → ℤ → ReplyFrame
read_reply frame kind =
    if nat_lt (length frame) 16 then NoHeader
    else reply_to (front_int frame) (front_long (drop 4 frame)) (front_int (drop 12 frame)) kind (length frame) (drop 16 frame) (opcode_numbered kind)
