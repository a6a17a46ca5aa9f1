-- The packets that a server sends: a length, and a reply, a notification or the answer to the connect (zookeeper.jute,
-- `ReplyHeader`, `WatcherEvent`, `ConnectResponse`).
use Rattle.std.specs.Prelude.{ℕ, ℤ, pos, List, [], ◌∷◌, ◌++◌}
use Rattle.zk_model.specs.Codes.{minus}
use Rattle.zk_model.specs.declared.connect.ConnectResponse.{ConnectResponse}
use Rattle.zk_model.specs.declared.reply.Notice.{Notice}
use Rattle.zk_model.specs.declared.reply.Reply.{Reply}
use Rattle.zk_model.specs.declared.reply.Reply.TheVariants as replies
use Rattle.zk_jute.specs.JuteValues.{Value, int, long, ustring}
use Rattle.zk_jute.specs.JuteWriting.{written, with_length, FitsLength}
use Rattle.zk_jute.specs.Connects.{connect_response_values}
use Rattle.zk_jute.specs.Replies.{body_values}

-- the `ReplyHeader`
abbrev pub reply_header : ℤ → ℤ → ℤ → List Value
reply_header xid zxid err = int xid ∷ long zxid ∷ int err ∷ []

-- a reply: its header, and its body after the error 0; a refusal has no body
abbrev pub reply_values : ℤ → ℤ → Reply → List Value
reply_values xid zxid (replies.Refused code) = reply_header xid zxid code
reply_values xid zxid (replies.Good body) = reply_header xid zxid (pos 0) ++ body_values body

abbrev pub reply_bytes : ℤ → ℤ → Reply → List ℕ
reply_bytes xid zxid reply = written (reply_values xid zxid reply)

unfoldable pub reply_packet : ℤ → ℤ → Reply → List ℕ
reply_packet xid zxid reply = with_length (reply_bytes xid zxid reply)

-- the length of a reply's frame fits its int. It is the same whatever the xid and the zxid
abbrev pub CanBeSent : Reply → Type 0
CanBeSent reply = FitsLength (reply_bytes (pos 0) (pos 0) reply)

-- a notification has xid -1, zxid -1, no error, and the state "connected", 3
abbrev pub notice_values : Notice → List Value
notice_values n = reply_header (minus 1) (minus 1) (pos 0) ++ int n.kind ∷ int (pos 3) ∷ ustring n.path ∷ []

abbrev pub notice_bytes : Notice → List ℕ
notice_bytes n = written (notice_values n)

unfoldable pub notice_packet : Notice → List ℕ
notice_packet n = with_length (notice_bytes n)

-- the length of a notification's frame fits its int
abbrev pub NoticeCanBeSent : Notice → Type 0
NoticeCanBeSent n = FitsLength (notice_bytes n)

abbrev pub connect_bytes : ConnectResponse → List ℕ
connect_bytes r = written (connect_response_values r)

unfoldable pub connect_packet : ConnectResponse → List ℕ
connect_packet r = with_length (connect_bytes r)
