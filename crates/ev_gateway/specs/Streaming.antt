-- The stream that a watch is answered by (etcd API reference, "Watch"; RFC 9112, section 7.1).
use Rattle.std.specs.Prelude.{◌≡◌, ◌⊎◌, ℕ, ◌+◌, ◌^◌, ℤ, pos, nat_abs, ◌≤ℤ◌, ◌<ℤ◌, List, [], ◌∷◌, ◌++◌, Result, Ok, Err}
use Rattle.ev_types.specs.declared.answer.Kv.{Kv}
use Rattle.ev_json.specs.Messages.{canceled_text, line_text}
use Rattle.zx_outside.specs.Writing.{TakesFront}
use Rattle.ev_http.specs.declared.fault.HttpFault.{HttpFault}
use Rattle.ev_http.specs.declared.fault.HttpFault.TheVariants as http
use Rattle.ev_http.specs.Chunked.{chunk, last_chunk, stream_head}
use Rattle.ev_http.specs.Sending.{Wrote}
use Rattle.ev_http.specs.Taking.{Told}
use Rattle.ev_gateway.specs.Looking.{Leaves, Waits}
use Rattle.ev_http.specs.Sinks.{SinkTold}
use Rattle.ev_gateway.specs.declared.watching.WatchEnd.{WatchEnd}
use Rattle.ev_gateway.specs.declared.watching.WatchEnd.TheVariants as over

-- a line with its line feed, as one chunk
abbrev pub line_chunk : List ℕ → List ℕ
line_chunk line = chunk (line ++ 10 ∷ [])

-- the line of one put, and a line for each of many
abbrev pub put_line : Kv → List ℕ
put_line kv = line_chunk (line_text (kv ∷ []) kv.mod_revision)

abbrev pub put_lines : List Kv → List ℕ
put_lines [] = []
put_lines (kv ∷ kvs) = put_line kv ++ put_lines kvs

-- the head, and the line that says that the watch was created, at this revision of the store
abbrev pub begun : ℤ → List ℕ
begun created = stream_head ++ line_chunk (line_text [] created)

-- a put of this key, at this revision or a later one, below 2^62
abbrev pub IsPut : List ℕ → ℕ → Kv → Type 0
IsPut key from kv = (kv.key ≡ key) × (pos from ≤ℤ kv.mod_revision) × (kv.mod_revision <ℤ pos (2 ^ 62))

-- Each is a put of the key at a later revision than the one before it, the first from one revision on; and from the other on a further
-- one is.
abbrev pub Rise : List ℕ → ℕ → List Kv → ℕ → Type 0
Rise key from [] next = from ≡ next
Rise key from (kv ∷ kvs) next = IsPut key from kv × Rise key (nat_abs kv.mod_revision + 1) kvs next

-- The last chunk, where the store was closed. Before it stands a line, where the revision to go on from was compacted: that is below the
-- least one that can be named, which the line names.
abbrev pub IsEnding : ℕ → List ℕ → Type 0
IsEnding next bytes = (bytes ≡ last_chunk) ⊎ ((floor : ℤ) × (now : ℤ) × (pos next <ℤ floor) × (bytes ≡ line_chunk (canceled_text floor now) ++ last_chunk))

-- The stream of a watch of this key from this revision on: a line that the watch was created, a line for each put, and the end.
pub record IsStream (key : List ℕ) (from : ℕ) (bytes : List ℕ) : Type 0 where
  pub created : ℤ
  pub puts : List Kv
  pub next : ℕ
  pub ending : List ℕ
  pub rise : Rise key from puts next
  pub ends : IsEnding next ending
  pub bytes_are : bytes ≡ (begun created ++ put_lines puts) ++ ending

-- These bytes were written; or a front of them, up to a fault of the sink or until memory ran out.
abbrev pub WroteFront : Result (Unit {0}) HttpFault → List ℕ → SinkTold → SinkTold → Type 0
WroteFront (Err http.Memory) bytes sink sink' = TakesFront bytes sink.taken sink'.taken × (sink'.counts ≡ sink.counts) × (sink'.name ≡ sink.name)
WroteFront result bytes sink sink' = Wrote result bytes sink.taken sink'.taken sink.counts sink'.counts sink.name sink'.name

-- A stream of this key from this revision on was written; or a front of one, up to a fault of the sink or until memory ran out.
pub record Streams (result : Result (Unit {0}) HttpFault) (key : List ℕ) (from : ℕ) (sink sink' : SinkTold) : Type 0 where
  pub bytes : List ℕ
  pub stream : IsStream key from bytes
  pub wrote : WroteFront result bytes sink sink'

-- A stream of this key from this revision on has come to the end of a line: no line is cut, and it has no end yet.
pub record StreamsOn (key : List ℕ) (from : ℕ) (sink sink' : SinkTold) : Type 0 where
  pub created : ℤ
  pub puts : List Kv
  pub next : ℕ
  pub rise : Rise key from puts next
  pub wrote : WroteFront (Ok tt) (begun created ++ put_lines puts) sink sink'

-- How a watch ended: its stream was sent to its end; or its client left it between two lines; or there was a fault of the sink, or memory
-- ran out. In each case the looks at its client found it there and quiet, but for the last one of a client that left.
abbrev pub Watches : Result WatchEnd HttpFault → List ℕ → ℕ → Told → Told → SinkTold → SinkTold → Type 0
Watches (Ok over.Told) key from source source' sink sink' = Streams (Ok tt) key from sink sink' × Waits source source'
Watches (Ok over.Left) key from source source' sink sink' = StreamsOn key from sink sink' × Leaves source source'
Watches (Err f) key from source source' sink sink' = Streams (Err f) key from sink sink' × Waits source source'

-- how a watch ended whose stream was sent to its end
abbrev pub told_whole : Result (Unit {0}) HttpFault → Result WatchEnd HttpFault
told_whole (Ok _) = Ok over.Told
told_whole (Err f) = Err f
