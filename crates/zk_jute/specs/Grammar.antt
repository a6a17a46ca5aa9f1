-- What a frame spells: the wire protocol as relations between records and bytes, with every spelling that a record has. Fields
-- stand in the order of zookeeper.jute.
use Rattle.std.specs.Prelude.{◌≡◌, ◌≢◌, ℕ, ℤ, pos, Bool, true, false, Option, None, Some, List, [], ◌∷◌, ◌++◌, length}
use Rattle.zk_model.specs.Codes.{minus}
use Rattle.zk_model.specs.declared.connect.ConnectRequest.{ConnectRequest}
use Rattle.zk_model.specs.declared.connect.ConnectResponse.{ConnectResponse}
use Rattle.zk_jute.specs.declared.opcode.Opcode.{Opcode}
use Rattle.zk_model.specs.declared.reply.Notice.{Notice}
use Rattle.zk_model.specs.declared.reply.Reply.{Reply}
use Rattle.zk_model.specs.declared.reply.Reply.TheVariants as replies
use Rattle.zk_model.specs.declared.request.Part.{Part}
use Rattle.zk_model.specs.declared.request.Request.{Request}
use Rattle.zk_model.specs.declared.request.Request.TheVariants as requests
use Rattle.zk_jute.specs.JuteValues.{int, boolean, IsInt, IsLong, IsBoolean, IsBuffer, IsUstring, Spelled, Spells}
use Rattle.zk_jute.specs.Numbers.{opcode_number, opcode_of, part_number, part_kind}
use Rattle.zk_jute.specs.Records.{values_of, part_values}
use Rattle.zk_jute.specs.Connects.{connect_values}
use Rattle.zk_jute.specs.Replies.{shape_for, shape_of}
use Rattle.zk_jute.specs.Packets.{reply_values}

-- items one after the other, and then the last
abbrev pub IsListed : {A : Type 0} → (A → List ℕ → Type 0) → (List ℕ → Type 0) → List A → List ℕ → Type 0
IsListed Is IsLast xs bytes = (front : List ℕ) × (last : List ℕ) × Spelled Is xs front × IsLast last × (bytes ≡ front ++ last)

-- a MultiHeader of a request; its error is any int
abbrev pub IsHeader : ℤ → Bool → List ℕ → Type 0
IsHeader type last bytes = (err : ℤ) × Spelled Spells (int type ∷ boolean last ∷ int err ∷ []) bytes

-- a part of a multi: its header, and its fields
abbrev pub IsPart : Part → List ℕ → Type 0
IsPart part bytes = (header : List ℕ) × (rest : List ℕ) × IsHeader (part_number (part_kind part)) false header × Spelled Spells (part_values part) rest × (bytes ≡ header ++ rest)

-- the last header of a request; its type is any int
abbrev pub IsLastHeader : List ℕ → Type 0
IsLastHeader bytes = (type : ℤ) × IsHeader type true bytes

-- the body of a request
abbrev pub IsAsked : Request → List ℕ → Type 0
IsAsked (requests.Multi ps) bytes = IsListed IsPart IsLastHeader ps bytes
IsAsked request bytes = Spelled Spells (values_of request) bytes

-- a frame of a request: a `RequestHeader`, which is the xid and the type, and the body
abbrev pub IsRequest : ℤ → Request → List ℕ → Type 0
IsRequest xid request frame = (header : List ℕ) × (body : List ℕ) × Spelled Spells (int xid ∷ int (opcode_number (opcode_of request)) ∷ []) header × IsAsked request body × (frame ≡ header ++ body)

-- the first frame of a connection
abbrev pub IsConnect : ConnectRequest → List ℕ → Type 0
IsConnect r frame = Spelled Spells (connect_values r) frame

-- a refusal's code is not 0; a body is of the shape that answers this kind
abbrev pub Suits : Opcode → Reply → Type 0
Suits code (replies.Refused err) = err ≢ pos 0
Suits code (replies.Good body) = shape_of body ≡ shape_for code

-- a frame of a reply to a request of this kind
pub record IsReply (code : Opcode) (xid zxid : ℤ) (reply : Reply) (frame : List ℕ) : Type 0 where
  pub suits : Suits code reply
  pub spelled : Spelled Spells (reply_values xid zxid reply) frame

-- no bytes, or a boolean
abbrev pub IsReadOnly : Option Bool → List ℕ → Type 0
IsReadOnly None bytes = bytes ≡ []
IsReadOnly (Some flag) bytes = IsBoolean flag bytes

-- a frame of the answer to a connect, `ConnectResponse`: protocol version 0, the timeout, the session, its password of 16 bytes,
-- and whether the server only reads
abbrev pub IsConnectResponse : ConnectResponse → List ℕ → Type 0
IsConnectResponse r frame = (version : List ℕ) × (timeout : List ℕ) × (session : List ℕ) × (passwd : List ℕ) × (read_only : List ℕ)
    × IsInt (pos 0) version × IsInt r.timeout timeout × IsLong r.session session × IsBuffer r.passwd passwd × (length r.passwd ≡ 16) × IsReadOnly r.read_only read_only
    × (frame ≡ version ++ timeout ++ session ++ passwd ++ read_only)

-- the `ReplyHeader` of a notification: xid -1, zxid -1, no error
abbrev pub IsNoticeHeader : List ℕ → Type 0
IsNoticeHeader bytes = (xid : List ℕ) × (zxid : List ℕ) × (err : List ℕ) × IsInt (minus 1) xid × IsLong (minus 1) zxid × IsInt (pos 0) err × (bytes ≡ xid ++ zxid ++ err)

-- `WatcherEvent`: its type, the state "connected", 3, and the path
abbrev pub IsWatcherEvent : Notice → List ℕ → Type 0
IsWatcherEvent n bytes = (type : List ℕ) × (state : List ℕ) × (path : List ℕ) × IsInt n.kind type × IsInt (pos 3) state × IsUstring n.path path × (bytes ≡ type ++ state ++ path)

-- a frame of a notification
abbrev pub IsNotice : Notice → List ℕ → Type 0
IsNotice n frame = (header : List ℕ) × (event : List ℕ) × IsNoticeHeader header × IsWatcherEvent n event × (frame ≡ header ++ event)
