-- What a server has done for its clients: which it has accepted, and what it has written and given to its book about each.
use Rattle.std.specs.Prelude.{◌≡◌, ◌⊎◌, ℕ, zero, suc, ◌+◌, ◌-◌, ◌*◌, ◌<◌, ◌≤◌, Bool, true, false, List, [], ◌∷◌, ◌++◌, length, map, filter, filter_map, flat_map, Result, Ok, Err, IsPermutation}
use Rattle.std.specs.Arc.{arc_value}
use Rattle.zw_hub.specs.Ends.{MayBeTold}
use Rattle.zw_hub.specs.declared.feed.FeedEnd.{FeedEnd}
use Rattle.zx_outside.specs.Writing.{Takes}
use Rattle.zp_server.specs.Books.{with_endings}
use Rattle.zp_server.specs.Lines.{Line, ending_in, is_fed, number_of_line, text_of, unlinked}
use Rattle.zp_server.specs.Telling.{TellsFront, DoorFaulted, Seen, more}
use Rattle.zp_server.specs.declared.ends.Stop.{Stop}
use Rattle.zp_server.specs.declared.ends.Stop.TheVariants as stop

-- n, .. 2, 1
abbrev pub counting : ℕ → List ℕ
counting zero = []
counting (suc n) = suc n ∷ counting n

-- k clients were accepted. Of the connections that were open before, and of the fresh ones, each has its one line, but for those that
-- are open still; the book took those that had a worker, in the order of the lines. For each line without one the dials of all `size`
-- endpoints failed; for the other fresh connections, m of them, no more than (size - 1) * m dials failed in all. Unless a connection has
-- met the hub closed, none of them ended for that.
pub record Logs (size : ℕ) (met : Bool) (k : ℕ) (fresh busy busy' : List ℕ) (t t' : Seen) : Type 0 where
  pub lines : List Line
  pub accepted : (t'.net).accepted ≡ more k (t.net).accepted
  pub doors : (t'.net).door_faults ≡ (t.net).door_faults
  pub passed : ℕ
  pub few : passed + (size - 1) * length (filter_map unlinked lines) ≤ (size - 1) * length fresh
  pub dials : (t'.net).dial_faults ≡ more (size * length (filter_map unlinked lines) + passed) (t.net).dial_faults
  pub numbers : IsPermutation (map number_of_line lines ++ busy') (fresh ++ busy)
  pub fed : met ≡ false → filter is_fed lines ≡ []
  pub book : t'.book ≡ with_endings t.book (filter_map ending_in lines)
  pub written : Takes (flat_map text_of lines) (t.out).taken (t'.out).taken
  pub unharmed : (t'.out).counts ≡ (t.out).counts

-- the number is one of these
abbrev pub IsAmong : ℕ → List ℕ → Type 0
IsAmong number numbers = (others : List ℕ) × IsPermutation (number ∷ others) numbers

-- perhaps a line was written more, of one of these connections, which the book does not know of, and perhaps some dials failed
pub record LogLeaves (left : List ℕ) (t t' : Seen) : Type 0 where
  pub accepted : (t'.net).accepted ≡ (t.net).accepted
  pub doors : (t'.net).door_faults ≡ (t.net).door_faults
  pub book : t'.book ≡ t.book
  pub taken : ((t'.out).taken ≡ (t.out).taken) ⊎ ((last : Line) × IsAmong (number_of_line last) left × Takes (text_of last) (t.out).taken (t'.out).taken)
  pub unharmed : (t'.out).counts ≡ (t.out).counts

-- ---- up to the next client, of whom at most `most` were accepted

-- the door had a fault
pub record NetHalt (size : ℕ) (busy : List ℕ) (t t' : Seen) : Type 0 where
  pub left : List ℕ
  pub between : Seen
  pub logs : Logs size false 0 [] busy left t between
  pub faulted : DoorFaulted between t'

-- the hub was found closed, by an end that may be told
pub record FeedHalt (size : ℕ) (end : FeedEnd) (most : ℕ) (busy busy' : List ℕ) (t t' : Seen) : Type 0 where
  pub may : MayBeTold end
  pub k : ℕ
  pub few : k ≤ most
  pub logs : Logs size true k [] busy busy' t t'

-- the sink had a fault in the next line: that of a connection that is open, or of the fresh one, where all that may be were accepted
pub record WriteHalt (size : ℕ) (most : ℕ) (fresh busy : List ℕ) (t t' : Seen) : Type 0 where
  pub k : ℕ
  pub few : k ≤ most
  pub left : List ℕ
  pub between : Seen
  pub logs : Logs size true k [] busy left t between
  pub last : Line
  pub owed : IsAmong (number_of_line last) left ⊎ ((fresh ≡ number_of_line last ∷ []) × (most ≤ k))
  pub cut : TellsFront (text_of last) between t'

-- memory was refused
pub record MemoryHalt (size : ℕ) (most : ℕ) (busy : List ℕ) (t t' : Seen) : Type 0 where
  pub k : ℕ
  pub few : k ≤ most
  pub left : List ℕ
  pub between : Seen
  pub logs : Logs size true k [] busy left t between
  pub leaves : LogLeaves left between t'

-- why no further client is accepted
abbrev pub LogHalts : ℕ → Stop → ℕ → List ℕ → List ℕ → List ℕ → Seen → Seen → Type 0
LogHalts size stop.Net most fresh busy busy' t t' = (0 < most) × NetHalt size busy t t'
LogHalts size (stop.Feed end) most fresh busy busy' t t' = FeedHalt size (arc_value end) most busy busy' t t'
LogHalts size stop.Write most fresh busy busy' t t' = WriteHalt size most fresh busy t t'
LogHalts size stop.Memory most fresh busy busy' t t' = MemoryHalt size most busy t t'

abbrev pub LogGoes : ℕ → Result (Unit {0}) Stop → ℕ → List ℕ → List ℕ → List ℕ → Seen → Seen → Type 0
LogGoes size (Ok _) k fresh busy busy' t t' = Logs size false k fresh busy busy' t t'
LogGoes size (Err why) k fresh busy busy' t t' = LogHalts size why k fresh busy busy' t t'

-- one more was taken back where the hub is known to be closed, so that it is no stop that others found it closed too
abbrev pub Rests : ℕ → Result (Unit {0}) Stop → List ℕ → List ℕ → Seen → Seen → Type 0
Rests size (Ok _) busy busy' t t' = Logs size true 0 [] busy busy' t t'
Rests size (Err why) busy busy' t t' = LogHalts size why 0 [] busy [] t t'

-- one more client was accepted, once room was made
abbrev pub Admits : {E : Type 0} → ℕ → Result E Stop → List ℕ → List ℕ → Seen → Seen → Type 0
Admits size (Ok ends) busy busy' t t' = Logs size false 1 [] busy busy' t t'
Admits size (Err why) busy busy' t t' = LogHalts size why 1 [] busy busy' t t'

-- ---- all clients

-- n connections have numbers, k clients were accepted, and no more may be than the limit. At most one has no number: the last, who was
-- accepted and not served.
pub record AreFewClients (n k limit : ℕ) : Type 0 where
  pub least : n ≤ k
  pub most : k ≤ n + 1
  pub within : k ≤ limit

pub record NetStop (size : ℕ) (limit : ℕ) (t t' : Seen) : Type 0 where
  pub n : ℕ
  pub fewer : n < limit
  pub left : List ℕ
  pub between : Seen
  pub logs : Logs size false n (counting n) [] left t between
  pub faulted : DoorFaulted between t'

pub record FeedStop (size : ℕ) (end : FeedEnd) (limit : ℕ) (busy : List ℕ) (t t' : Seen) : Type 0 where
  pub may : MayBeTold end
  pub n : ℕ
  pub k : ℕ
  pub few : AreFewClients n k limit
  pub logs : Logs size true k (counting n) [] busy t t'

-- A line that is still to come: of a connection that is open, or of the last client, who was accepted and has no number yet.
abbrev pub IsOwed : Line → ℕ → ℕ → List ℕ → Type 0
IsOwed last n k left = IsAmong (number_of_line last) left ⊎ ((number_of_line last ≡ n + 1) × (k ≡ n + 1))

pub record WriteStop (size : ℕ) (limit : ℕ) (t t' : Seen) : Type 0 where
  pub n : ℕ
  pub k : ℕ
  pub few : AreFewClients n k limit
  pub left : List ℕ
  pub between : Seen
  pub logs : Logs size true k (counting n) [] left t between
  pub last : Line
  pub owed : IsOwed last n k left
  pub cut : TellsFront (text_of last) between t'

pub record MemoryStop (size : ℕ) (limit : ℕ) (t t' : Seen) : Type 0 where
  pub n : ℕ
  pub k : ℕ
  pub few : AreFewClients n k limit
  pub left : List ℕ
  pub between : Seen
  pub logs : Logs size true k (counting n) [] left t between
  pub leaves : LogLeaves left between t'

-- As many clients were accepted as the limit allows, of which these are served still; or fewer, and why.
abbrev pub LogStops : ℕ → Result (Unit {0}) Stop → ℕ → List ℕ → Seen → Seen → Type 0
LogStops size (Ok _) limit busy t t' = Logs size false limit (counting limit) [] busy t t'
LogStops size (Err stop.Net) limit busy t t' = NetStop size limit t t'
LogStops size (Err (stop.Feed end)) limit busy t t' = FeedStop size (arc_value end) limit busy t t'
LogStops size (Err stop.Write) limit busy t t' = WriteStop size limit t t'
LogStops size (Err stop.Memory) limit busy t t' = MemoryStop size limit t t'
