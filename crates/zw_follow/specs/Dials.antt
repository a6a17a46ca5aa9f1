-- What a worker that follows the head comes to, over all the streams that it dials.
use Rattle.std.specs.Prelude.{◌≡◌, ◌⊎◌, ℕ, ◌+◌, ◌<◌, ◌≤◌, ℤ, pos, ◌+ℤ◌, Bool, true, false, List, [], ◌∷◌, ◌++◌, length, slice_get, Option, Some, None, unwrap_or, Result, Ok, Err}
use Rattle.ev_addresses.specs.Lists.{addresses_in, local, next_of}
use Rattle.ev_types.specs.declared.answer.Kv.{Kv}
use Rattle.ev_types.specs.declared.route.Route.TheVariants as route
use Rattle.ev_json.specs.Messages.{watch_text}
use Rattle.ev_http.specs.Sending.{Sends, request_head}
use Rattle.ev_http.specs.Stream.{IsAt}
use Rattle.ev_http.specs.Taking.{Told, told}
use Rattle.ev_http.specs.declared.fault.HttpFault.{HttpFault}
use Rattle.ev_http.specs.declared.fault.HttpFault.TheVariants as http
use Rattle.ev_http.specs.declared.lines.Lines.{Lines}
use Rattle.zn_layout.specs.Keys.{head_name}
use Rattle.zn_layout.specs.declared.entry.Entry.{Entry}
use Rattle.zw_hub.specs.Ends.{IsProper}
use Rattle.zw_hub.specs.Lists.{forgetting, with_end}
use Rattle.zw_hub.specs.declared.feed.FeedEnd.{FeedEnd}
use Rattle.zw_hub.specs.declared.feed.FeedEnd.TheVariants as ends
use Rattle.zw_hub.specs.declared.published.Published.{Published}
use Rattle.zx_net.specs.Nets.{GivesNext, IsFreshSink, IsFreshSource, NetCounts, no_room_after}
use Rattle.zx_net.specs.declared.net.NetFault.{NetFault}
use Rattle.zx_net.specs.declared.net.NetFault.TheVariants as refused
use Rattle.ev_faults.specs.declared.fault.Fault.TheVariants as fault
use Rattle.zx_outside.specs.Counts.{InputCounts, OutputCounts, one_more}
use Rattle.zw_follow.specs.Publishing.{Explains, Publishes, Said, heads_of, told_after, with_entries}
use Rattle.zw_follow.specs.Streams.{IsHeeded, IsOver, IsReadTo, IsWaitedFor, spelled}
use Rattle.zw_follow.specs.declared.stream.StreamEnd.{StreamEnd}
use Rattle.zw_follow.specs.declared.stream.StreamEnd.TheVariants as stream

-- ---- what is told

-- what a net tells
pub record NetTold : Type 0 where
  pub counts : NetCounts
  pub no_room : ℕ
  pub streams : Option (List (List ℕ))

-- what the ends of a net's streams tell
pub record Telling (In Out : Type 0) : Type 0 where
  pub source : In → Told
  pub taken : Out → Option (List ℕ)
  pub counts : Out → OutputCounts
  pub name : Out → ℕ

abbrev pub telling : {In Out : Type 0} → (In → Option (List ℕ)) → (In → Option (List ℕ)) → (In → InputCounts) → (In → Bool) → (In → ℕ)
    → (Out → Option (List ℕ)) → (Out → OutputCounts) → (Out → ℕ) → Telling In Out
telling given left counts ended name taken faults named = record { source = told given left counts ended name; taken = taken; counts = faults; name = named }

-- ---- one dial

-- the request to this host for the puts of the head from the revision after this one on (etcd API reference, "Watch")
abbrev pub request_with : List ℕ → List ℕ → List ℕ
request_with host body = request_head host route.Watch (length body) ++ body

abbrev pub watch_request : List ℕ → ℤ → List ℕ
watch_request host told = request_with host (watch_text (told +ℤ pos 1) head_name)

-- the dial failed for this, which is counted
abbrev pub IsFailed : NetFault → NetTold → NetTold → Type 0
IsFailed why net net' = net' ≡ record net { counts = record (net.counts) { dial_faults = one_more (net.counts).dial_faults }; no_room = no_room_after why net.no_room }

-- The dial gave both ends of a stream, the next one of the net where that is told; and the sending of the request came to this.
pub record Answers {In Out : Type 0} (tells : Telling In Out) (sent : Result (Unit {0}) HttpFault) (host : List ℕ) (told : ℤ) (net net' : NetTold) (source : In) : Type 0 where
  pub counts : net'.counts ≡ net.counts
  pub no_room : net'.no_room ≡ net.no_room
  pub gives : GivesNext net.streams net'.streams (tells.source source).left
  pub fresh : IsFreshSource (tells.source source).given (tells.source source).counts (tells.source source).ended (tells.source source).name 0
  pub sink : Out
  pub fresh_sink : IsFreshSink (tells.taken sink) (tells.counts sink) (tells.name sink) 0
  pub after : Out
  pub sends : Sends sent (watch_request host told) (tells.taken sink) (tells.taken after) (tells.counts sink) (tells.counts after) (tells.name sink) (tells.name after)

-- it gave both ends of a stream, and the request was not sent, for this reason
pub record OpensNone {In Out : Type 0} (tells : Telling In Out) (why : HttpFault) (host : List ℕ) (told : ℤ) (net net' : NetTold) : Type 0 where
  pub source : In
  pub answers : Answers tells (Err why) host told net net' source

-- One dial: the address that was dialled, what the net told before and after it, the revision up to which all was told before, and after
-- which it asks, the lines that its stream gave, and the entries that were published of them.
pub record Dial : Type 0 where
  pub host : List ℕ
  pub before : NetTold
  pub after : NetTold
  pub told : ℤ
  pub said : List Said
  pub entries : List Entry

abbrev pub GaveNothing : Dial → Type 0
GaveNothing d = (d.said ≡ []) × (d.entries ≡ [])

abbrev pub WasRefused : NetFault → Dial → Type 0
WasRefused why d = IsFailed why d.before d.after × GaveNothing d

-- Whether a dial that failed for this counts as one that gave no line: not where there was no room for one, which says nothing of the member.
-- The net has a count of these.
abbrev pub is_barren_dial : NetFault → Bool
is_barren_dial refused.NoRoom = false
is_barren_dial refused.InUse = true
is_barren_dial refused.NoAddress = true
is_barren_dial refused.Denied = true
is_barren_dial refused.Failed = true

-- the request was not sent, for this reason
abbrev pub WasUnsent : {In Out : Type 0} → Telling In Out → List ℕ → HttpFault → Dial → Type 0
WasUnsent tells host why d = OpensNone tells why host d.told d.before d.after × GaveNothing d

-- The request was sent, and these lines were read of what came, none of them after one that says that the member is behind.
pub record WasRead {In Out : Type 0} (tells : Telling In Out) (host : List ℕ) (d : Dial) : Type 0 where
  pub source : In
  pub answers : Answers tells (Ok tt) host d.told d.before d.after source
  pub lines : Lines In
  pub read : IsReadTo tells.source source lines (spelled d.said)
  pub waited : IsWaitedFor tells.source source lines d.said
  pub heeded : IsHeeded d.told d.said

abbrev pub IsDial : {In Out : Type 0} → Telling In Out → List ℕ → Dial → Type 0
IsDial tells host d = ((why : NetFault) × WasRefused why d) ⊎ (((why : HttpFault) × WasUnsent tells host why d) ⊎ WasRead tells host d)

-- The dial failed, its sink had a fault, or its stream is over; and whether it counts as one that gave no line.
abbrev pub IsOverDial : {In Out : Type 0} → Telling In Out → List ℕ → Dial → Bool → Type 0
IsOverDial tells host d barren = ((why : NetFault) × WasRefused why d × (barren ≡ is_barren_dial why))
    ⊎ ((WasUnsent tells host http.WriteFault d × (barren ≡ true))
    ⊎ ((r : WasRead tells host d) × IsOver tells.source r.source d.told d.said barren))

-- ---- dials in a row

abbrev pub said_of : List Dial → List Said
said_of [] = []
said_of (d ∷ ds) = d.said ++ said_of ds

abbrev pub entries_of : List Dial → List Entry
entries_of [] = []
entries_of (d ∷ ds) = d.entries ++ entries_of ds

-- the address with this number among those of a text, and the number of the next one
abbrev pub host_at : List ℕ → ℕ → List ℕ
host_at text at = unwrap_or (slice_get (addresses_in text) at) local

abbrev pub host_after : List ℕ → ℕ → ℕ
host_after text at = next_of (length (addresses_in text)) at

-- the number of the address that is next after these dials
abbrev pub at_after : List ℕ → ℕ → List Dial → ℕ
at_after text at [] = at
at_after text at (d ∷ ds) = at_after text (host_after text at) ds

-- Dials in a row, of the addresses of a text in turn, each of which asks for what comes after the revision up to which all was told before.
abbrev pub AreDials : {In Out : Type 0} → Telling In Out → List ℕ → ℕ → NetTold → ℤ → List Dial → NetTold → Type 0
AreDials tells text at net told [] net' = net' ≡ net
AreDials tells text at net told (d ∷ ds) net' =
    (d.before ≡ net) × (d.told ≡ told) × (d.host ≡ host_at text at) × IsDial tells d.host d × AreDials tells text (host_after text at) d.after (told_after told d.said d.entries) ds net'

-- how many dials in a row gave no line, with one more: one that does not count so starts the count anew
abbrev pub barren_after : Bool → ℕ → ℕ
barren_after true n = n + 1
barren_after false n = 0

-- The list once a dial is over. If that gave no line, readers are told nothing that was published before, since etcd may have been restored from
-- a backup meanwhile, and may show a time before those updates.
abbrev pub left_after : Bool → Published → Published
left_after true list = forgetting list
left_after false list = list

-- Only a dial that is over is followed by another, and none follows on ten in a row that gave no line. So many in a row gave none before
-- these.
abbrev pub AreFewEnough : {In Out : Type 0} → Telling In Out → ℕ → List Dial → Type 0
AreFewEnough tells n [] = Unit {0}
AreFewEnough tells n (d ∷ []) = n < 10
AreFewEnough tells n (d ∷ next ∷ ds) = (n < 10) × (barren : Bool) × IsOverDial tells d.host d barren × AreFewEnough tells (barren_after barren n) (next ∷ ds)

-- each of them counts as one that gave no line
abbrev pub AreBarren : {In Out : Type 0} → Telling In Out → List Dial → Type 0
AreBarren tells [] = Unit {0}
AreBarren tells (d ∷ ds) = IsOverDial tells d.host d true × AreBarren tells ds

-- the last n of them do
pub record EndBarren {In Out : Type 0} (tells : Telling In Out) (n : ℕ) (ds : List Dial) : Type 0 where
  pub earlier : List Dial
  pub last : List Dial
  pub split : ds ≡ earlier ++ last
  pub count : length last ≡ n
  pub barren : AreBarren tells last

-- All of these dials are over, each was made where fewer than ten in a row had given no line, and so many in a row gave none before them, and
-- with them; and what their entries, and what was forgotten after each of them, made of the list.
abbrev pub CountsTo : {In Out : Type 0} → Telling In Out → ℕ → Published → List Dial → ℕ → Published → Type 0
CountsTo tells n list [] n' list' = (n' ≡ n) × (list' ≡ list)
CountsTo tells n list (d ∷ ds) n' list' = (n < 10) × (barren : Bool) × IsOverDial tells d.host d barren
    × CountsTo tells (barren_after barren n) (left_after barren (with_entries list d.entries)) ds n' list'

-- ---- the whole

-- By these dials the list became this one: nothing was forgotten but after a dial that is over, which the last one may not be.
pub record Forgets {In Out : Type 0} (tells : Telling In Out) (ds : List Dial) (before after : Published) : Type 0 where
  pub over : List Dial
  pub last : List Dial
  pub split : ds ≡ over ++ last
  pub one : length last ≤ 1
  pub barren : ℕ
  pub list : Published
  pub counts : CountsTo tells 0 before over barren list
  pub grown : after ≡ with_entries list (entries_of last)

-- These dials were made, one after the other, and the list grew by the entries of the lines that they gave, each once and in order; these
-- heads are left. And this is forgotten of it.
pub record Followed {In Out : Type 0} (tells : Telling In Out) (text : List ℕ) (net net' : NetTold) (told : ℤ) (ds : List Dial) (left : List Kv) (before after : Published) : Type 0 where
  pub dials : AreDials tells text 0 net told ds net'
  pub few : AreFewEnough tells 0 ds
  pub publishes : Publishes (heads_of (said_of ds)) (entries_of ds) left before (record after { forgotten = before.forgotten })
  pub forgets : Forgets tells ds before after

-- why the updates cannot be followed any further: the last ten dials in a row gave no line; or the last line of the last dial shows it
abbrev pub GivesUp : {In Out : Type 0} → Telling In Out → FeedEnd → Published → List Dial → List Kv → Type 0
GivesUp tells ends.NoLine list ds left = (left ≡ []) × EndBarren tells 10 ds
GivesUp tells end list ds left = (earlier : List Dial) × (d : Dial) × (ds ≡ earlier ++ d ∷ []) × Explains end list d.said left

-- What all streams come to, by the readings that found the word to stop set, before and after; the list is open.
abbrev pub Stops : {In Out : Type 0} → Telling In Out → List ℕ → Option FeedEnd → NetTold → NetTold → ℤ → Published → Published → ℕ → ℕ → Type 0
Stops tells text None net net' told before after n n' = (after.end ≡ None) × (n' ≡ one_more n) × (ds : List Dial) × Followed tells text net net' told ds [] before after
Stops tells text (Some end) net net' told before after n n' =
    (after.end ≡ None) × (n' ≡ n) × IsProper end × (ds : List Dial) × (left : List Kv) × Followed tells text net net' told ds left before after × GivesUp tells end after ds left

-- What a worker that follows the head comes to: it was told to stop, and the list is open; or the list is closed for the end that it
-- gives.
abbrev pub Follows : {In Out : Type 0} → Telling In Out → List ℕ → Option FeedEnd → NetTold → NetTold → ℤ → Published → Published → ℕ → ℕ → Type 0
Follows tells text None net net' told before after n n' = Stops tells text None net net' told before after n n'
Follows tells text (Some end) net net' told before after n n' = (between : Published) × Stops tells text (Some end) net net' told before between n n' × (after ≡ with_end between end)

-- ---- for clauses of private functions

-- what it means that a dial failed so
abbrev pub IsUndialledBy : NetFault → StreamEnd → Type 0
IsUndialledBy refused.NoRoom end = end ≡ stream.Over fault.NoRoom false
IsUndialledBy why end = end ≡ stream.Over fault.Dial true

-- what a dial comes to before any line is read
abbrev pub Opens : {In Out : Type 0} → Telling In Out → Result (Lines In) StreamEnd → List ℕ → ℤ → NetTold → NetTold → Type 0
Opens tells (Ok lines) host told net net' = IsAt lines (tells.source lines.source) [] [] × Answers tells (Ok tt) host told net net' lines.source
Opens tells (Err (stream.Over why barren)) host told net net' =
    ((cause : NetFault) × IsFailed cause net net' × (barren ≡ is_barren_dial cause)) ⊎ ((barren ≡ true) × OpensNone tells http.WriteFault host told net net')
Opens tells (Err (stream.Closes end)) host told net net' = (end ≡ ends.Memory) × OpensNone tells http.Memory host told net net'
Opens tells (Err stream.Stopped) host told net net' = ⊥

-- what came of one dial, by its end: its lines, and what they added to the list
abbrev pub Comes : {In Out : Type 0} → Telling In Out → List ℕ → StreamEnd → Dial → List Kv → Published → ℕ → ℕ → Type 0
Comes tells host stream.Stopped d left list n n' = (left ≡ []) × (n' ≡ one_more n)
Comes tells host (stream.Over why barren) d left list n n' = (left ≡ []) × (n' ≡ n) × IsOverDial tells host d barren
Comes tells host (stream.Closes end) d left list n n' = IsProper end × Explains end list d.said left × (n' ≡ n)

pub record DialsOnce {In Out : Type 0} (tells : Telling In Out) (host : List ℕ) (end : StreamEnd) (net net' : NetTold) (before after : Published) (told told' : ℤ) (n n' : ℕ) : Type 0 where
  pub dial : Dial
  pub starts : dial.before ≡ net
  pub stops : dial.after ≡ net'
  pub asks : dial.told ≡ told
  pub names : dial.host ≡ host
  pub is : IsDial tells dial.host dial
  pub left : List Kv
  pub publishes : Publishes (heads_of dial.said) dial.entries left before after
  pub told_is : told' ≡ told_after told dial.said dial.entries
  pub comes : Comes tells dial.host end dial left after n n'

-- some dials were made, and are over, and the address with this number is next
pub record IsBetween {In Out : Type 0} (tells : Telling In Out) (text : List ℕ) (net now : NetTold) (told : ℤ) (before list : Published) (told' : ℤ) (barren at : ℕ) : Type 0 where
  pub dials : List Dial
  pub followed : Followed tells text net now told dials [] before list
  pub counts : CountsTo tells 0 before dials barren list
  pub next : at ≡ at_after text 0 dials
  pub asks : told' ≡ told_after told (said_of dials) (entries_of dials)
  pub none : EndBarren tells barren dials
