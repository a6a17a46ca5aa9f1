-- The line of a frame: what a client says in it (this project's own format).
use Rattle.std.specs.Prelude.{◌≡◌, ℕ, ℤ, Bool, true, false, Option, Some, None, List, [], ◌∷◌, ◌++◌, codes, decimal}
use Rattle.zk_model.specs.declared.connect.ConnectRequest.{ConnectRequest}
use Rattle.zk_jute.specs.declared.opcode.Opcode.{Opcode}
use Rattle.zk_jute.specs.declared.opcode.Opcode.TheVariants as opcodes
use Rattle.zk_jute.specs.declared.opcode.PartKind.{PartKind}
use Rattle.zk_jute.specs.declared.opcode.PartKind.TheVariants as kinds
use Rattle.zk_model.specs.declared.request.Part.{Part}
use Rattle.zk_model.specs.declared.request.Request.{Request}
use Rattle.zk_model.specs.declared.request.Request.TheVariants as requests
use Rattle.zk_jute.specs.Connects.{read_connect}
use Rattle.zk_jute.specs.JuteValues.{int, long}
use Rattle.zk_jute.specs.JuteWriting.{long_bytes}
use Rattle.zk_jute.specs.Numbers.{opcode_of, part_kind}
use Rattle.zk_jute.specs.Records.{values_of, part_values}
use Rattle.zk_jute.specs.Requests.{Frame, NoHeader, Unreadable, Unknown, Asks, read_request}
use Rattle.zt_show.specs.FieldWords.{spaced_word, signed_word, boolean_word, hex_word, vector_words, record_words}

-- ---- requests

-- the name of each kind of request, as in ZooKeeper's API and `ZooDefs.OpCode`
abbrev pub request_name : Opcode → List ℕ
request_name opcodes.Create = codes "create"
request_name opcodes.Delete = codes "delete"
request_name opcodes.Exists = codes "exists"
request_name opcodes.GetData = codes "getData"
request_name opcodes.SetData = codes "setData"
request_name opcodes.GetAcl = codes "getACL"
request_name opcodes.GetChildren = codes "getChildren"
request_name opcodes.Sync = codes "sync"
request_name opcodes.Ping = codes "ping"
request_name opcodes.GetChildren2 = codes "getChildren2"
request_name opcodes.Check = codes "check"
request_name opcodes.Multi = codes "multi"
request_name opcodes.Auth = codes "auth"
request_name opcodes.SetWatches = codes "setWatches"
request_name opcodes.Close = codes "closeSession"
request_name opcodes.Create2 = codes "create2"
request_name opcodes.CheckWatches = codes "checkWatches"
request_name opcodes.RemoveWatches = codes "removeWatches"

-- the name of each kind of part of a multi
abbrev pub part_name : PartKind → List ℕ
part_name kinds.Create = codes "create"
part_name kinds.Delete = codes "delete"
part_name kinds.SetData = codes "setData"
part_name kinds.Check = codes "check"

-- a part of a multi: its name and its fields
abbrev pub part_words : Part → List ℕ
part_words part = spaced_word (part_name (part_kind part)) ++ record_words (part_values part)

-- a multi is the count of its parts, and the parts; any other request is its fields
abbrev pub body_words : Request → List ℕ
body_words (requests.Multi parts) = vector_words part_words parts
body_words request = record_words (values_of request)

-- the xid and a name, which begin the words of each request
abbrev pub named_kind : ℤ → List ℕ → List ℕ
named_kind xid name = signed_word xid ++ spaced_word name

-- the words of a request: xid, name and body
abbrev pub request_words : ℤ → Request → List ℕ
request_words xid request = named_kind xid (request_name (opcode_of request)) ++ body_words request

-- a body that cannot be read, with the offset in its frame of the first byte to blame
abbrev pub unreadable_words : ℤ → ℕ → List ℕ
unreadable_words xid place = named_kind xid (codes "unreadable") ++ spaced_word (decimal place)

-- a type that is not listed
abbrev pub unknown_words : ℤ → ℤ → List ℕ
unknown_words xid type = named_kind xid (codes "unknown") ++ signed_word type

-- the words after the place; a frame that is too short for a header has none
abbrev pub frame_words : Frame → Option (List ℕ)
frame_words NoHeader = None
frame_words (Unreadable xid place) = Some (unreadable_words xid place)
frame_words (Unknown xid type) = Some (unknown_words xid type)
frame_words (Asks xid request) = Some (request_words xid request)

-- ---- the first frame

-- 0 or 1, or `-` where it is absent
abbrev pub read_only_words : Option Bool → List ℕ
read_only_words (Some flag) = boolean_word flag
read_only_words None = spaced_word (codes "-")

-- the session as 16 hex digits, the password, and whether the client takes a server that only reads
abbrev pub connect_request_words : ConnectRequest → List ℕ
connect_request_words r = hex_word (long_bytes r.session) ++ hex_word r.passwd ++ read_only_words r.read_only

-- the fields of a connect in order
abbrev pub connect_words : ConnectRequest → List ℕ
connect_words r = spaced_word (codes "connect") ++ record_words (int r.protocol ∷ long r.last_zxid ∷ int r.timeout ∷ []) ++ connect_request_words r

-- a first frame that is no connect has no words
abbrev pub words_of_connect : Option ConnectRequest → Option (List ℕ)
words_of_connect (Some request) = Some (connect_words request)
words_of_connect None = None

-- ---- lines

-- the first frame is read as a connect, each later one as a request; the boolean says whether the first came before
abbrev pub words_of_frame : Bool → List ℕ → Option (List ℕ)
words_of_frame false frame = words_of_connect (read_connect frame)
words_of_frame true frame = frame_words (read_request frame)

-- a place, the words after it, and a line feed (10)
abbrev pub line : ℕ → List ℕ → List ℕ
line place words = decimal place ++ words ++ 10 ∷ []

abbrev pub line_of_words : ℕ → Option (List ℕ) → Option (List ℕ)
line_of_words place (Some words) = Some (line place words)
line_of_words place None = None

-- the line of the frame whose length stands at this place; none where a first frame is no connect, or a later one is too short
abbrev pub line_of_frame : Bool → ℕ → List ℕ → Option (List ℕ)
line_of_frame is_begun place frame = line_of_words place (words_of_frame is_begun frame)

-- the line was added to a text, or there is none and nothing was
abbrev pub IsAdded : Bool → Option (List ℕ) → List ℕ → List ℕ → Type 0
IsAdded true added text text' = (words : List ℕ) × (added ≡ Some words) × (text' ≡ text ++ words)
IsAdded false added text text' = (added ≡ None) × (text' ≡ text)
