-- Where the packets of each connection stand.
use Rattle.std.specs.Prelude.{◌≡◌, ℕ, List, [], map, slice_get, Option, None, Some}
use Rattle.std.specs.Global.{Vec}
use Rattle.std.specs.BTreeMap as tree
use Rattle.std.specs.Ordering.{nat_cmp}
use Rattle.zk_transcript.specs.declared.transcript.TranscriptLine.{TranscriptLine}
use Rattle.zk_transcript.specs.declared.transcript.TranscriptLine.TheVariants.{Send}
use Rattle.zk_transcript.specs.Walks.{Due, packets_from}
use Rattle.zk_judge.specs.declared.sent.Packets.{Packets}
use Rattle.zk_judge.specs.declared.sent.Sent.{Sent}

-- the places of the packets to a connection among these lines, of which the first stands at place k
abbrev pub sent_from : ℕ → ℕ → List TranscriptLine → List ℕ
sent_from c k lines = map (λ (p : Due). p.0) (packets_from c k lines)

abbrev pub places_of : Option (Vec ℕ) → List ℕ
places_of None = []
places_of (Some places) = places.items

abbrev pub places_in : Sent → ℕ → List ℕ
places_in s c = places_of (tree.get nat_cmp s.places c)

-- s has for each connection the places of its packets among these lines
abbrev pub AreSent : List TranscriptLine → Sent → Type 0
AreSent lines s = (c : ℕ) → places_in s c ≡ sent_from c 0 lines

-- ---- packets, by the places of their lines

abbrev pub sent_bytes : Option TranscriptLine → List ℕ
sent_bytes (Some (Send connection bytes)) = bytes
sent_bytes _ = []

abbrev pub packet_at : List TranscriptLine → ℕ → Due
packet_at lines k = (k, sent_bytes (slice_get lines k))

abbrev pub packets_in : Packets → List Due
packets_in p = map (packet_at p.lines.now) p.places.now
