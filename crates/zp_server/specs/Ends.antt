-- How a server ended: by what its net, its cluster, its starter of jobs, its sink and its book tell.
use Rattle.std.specs.Prelude.{◌≡◌, ◌⊎◌, ℕ, false, true, List, [], Result, Ok, Err}
use Rattle.std.specs.Arc.{arc_value}
use Rattle.zw_hub.specs.Ends.{MayBeTold}
use Rattle.zw_hub.specs.declared.feed.FeedEnd.{FeedEnd}
use Rattle.zx_outside.specs.Counts.{one_more}
use Rattle.zp_server.specs.Lines.{Line, fault_text, feed_text, listening_text, text_of}
use Rattle.zp_server.specs.Telling.{TellsFront, DoorFaulted, IsCutOutput, IsWritten, Output, Seen, TellsText}
use Rattle.zp_server.specs.Logs.{AreFewClients, IsOwed, LogLeaves, Logs, NetStop, LogStops, counting}
use Rattle.zp_server.specs.declared.ends.Stop.{Stop}
use Rattle.zp_server.specs.declared.ends.Stop.TheVariants as stop
use Rattle.zp_server.specs.declared.ends.ServeEnd.{ServeEnd}
use Rattle.zp_server.specs.declared.ends.ServeEnd.TheVariants as ends

-- ---- the parts

-- it could not listen, or could not say so
abbrev pub Begun : Result (Unit {0}) Stop → List ℕ → Seen → Seen → Type 0
Begun (Err stop.Net) listen t t' = DoorFaulted t t'
Begun (Err stop.Write) listen t t' = TellsFront (listening_text listen) t t'
Begun (Err stop.Memory) listen t t' = t' ≡ t
Begun _ listen t t' = ⊥

-- it listened, and then no further client was accepted
pub record ServeListened (size : ℕ) (r : Result (Unit {0}) Stop) (listen : List ℕ) (limit : ℕ) (t t' : Seen) : Type 0 where
  pub first : Seen
  pub listens : TellsText (listening_text listen) t first
  pub stops : LogStops size r limit [] first t'

abbrev pub Clients : ℕ → Result (Unit {0}) Stop → List ℕ → ℕ → Seen → Seen → Type 0
Clients size r listen limit t t' = Begun r listen t t' ⊎ ServeListened size r listen limit t t'

-- a worker could not be started, or memory was refused
abbrev pub IsListenRefused : Result (Unit {0}) Stop → ℕ → ℕ → Seen → Seen → Type 0
IsListenRefused (Err stop.Net) refusals refusals' t t' = (refusals' ≡ one_more refusals) × (t' ≡ t)
IsListenRefused (Err stop.Memory) refusals refusals' t t' = t' ≡ t
IsListenRefused _ refusals refusals' t t' = ⊥

abbrev pub ServesFrom : ℕ → Result (Unit {0}) Stop → List ℕ → ℕ → ℕ → ℕ → Seen → Seen → Type 0
ServesFrom size r listen limit refusals refusals' t t' = IsListenRefused r refusals refusals' t t' ⊎ Clients size r listen limit t t'

-- what is written at the end, and what that comes to
abbrev pub ServeFinishes : Result (Unit {0}) Stop → ServeEnd → Output → Output → Type 0
ServeFinishes (Ok _) ends.Done o o' = o' ≡ o
ServeFinishes (Err stop.Net) ends.Net o o' = IsWritten fault_text o o'
ServeFinishes (Err stop.Net) ends.WriteFault o o' = IsCutOutput fault_text o o'
ServeFinishes (Err stop.Write) ends.WriteFault o o' = o' ≡ o
ServeFinishes (Err stop.Memory) ends.Memory o o' = o' ≡ o
ServeFinishes (Err (stop.Feed end)) (ends.Feed told) o o' = (told ≡ end) × IsWritten (feed_text (arc_value end)) o o'
ServeFinishes (Err (stop.Feed end)) ends.WriteFault o o' = IsCutOutput (feed_text (arc_value end)) o o'
ServeFinishes (Err (stop.Feed end)) ends.Memory o o' = o' ≡ o
ServeFinishes _ _ o o' = ⊥

-- ---- the whole

-- the server listened, and then these connections have their lines, in order: n of them have numbers, and k clients were accepted
pub record IsAfterLines (size : ℕ) (listen : List ℕ) (limit : ℕ) (left : List ℕ) (t t' : Seen) : Type 0 where
  pub first : Seen
  pub listens : TellsText (listening_text listen) t first
  pub n : ℕ
  pub k : ℕ
  pub few : AreFewClients n k limit
  pub logs : Logs size true k (counting n) [] left first t'

-- all clients were accepted and have ended, none of them since the hub was closed
pub record IsServeDone (size : ℕ) (listen : List ℕ) (limit : ℕ) (t t' : Seen) : Type 0 where
  pub first : Seen
  pub listens : TellsText (listening_text listen) t first
  pub logs : Logs size false limit (counting limit) [] [] first t'

-- before it listened: the cluster counts a failure more, or the spawner a refused start
pub record IsUnstarted (failures failures' refusals refusals' : ℕ) (t t' : Seen) : Type 0 where
  pub rose : (failures' ≡ one_more failures) ⊎ (refusals' ≡ one_more refusals)
  pub tells : TellsText fault_text t t'

-- it could not listen at its address
pub record IsUnbound (t t' : Seen) : Type 0 where
  pub broken : Seen
  pub faulted : DoorFaulted t broken
  pub tells : TellsText fault_text broken t'

-- the door had a fault after fewer clients than the limit
pub record IsShut (size : ℕ) (listen : List ℕ) (limit : ℕ) (t t' : Seen) : Type 0 where
  pub first : Seen
  pub listens : TellsText (listening_text listen) t first
  pub broken : Seen
  pub stopped : NetStop size limit first broken
  pub tells : TellsText fault_text broken t'

-- the hub was closed by this end, which may be told, and is told after the lines of all connections that have numbers
pub record FeedTold (size : ℕ) (end : FeedEnd) (listen : List ℕ) (limit : ℕ) (t t' : Seen) : Type 0 where
  pub may : MayBeTold end
  pub between : Seen
  pub lines : IsAfterLines size listen limit [] t between
  pub tells : TellsText (feed_text end) between t'

-- What is written next, and where the server stands then: a line that is still to come, or the last line.
abbrev pub IsNextTold : List ℕ → ℕ → ℕ → List ℕ → Seen → Seen → Type 0
IsNextTold text n k left between from =
    ((last : Line) × (((text ≡ text_of last) × IsOwed last n k left) × (from ≡ between)))
    ⊎ (((text ≡ fault_text) × DoorFaulted between from)
    ⊎ ((end : FeedEnd) × ((text ≡ feed_text end) × (from ≡ between))))

pub record IsNextLine (size : ℕ) (text listen : List ℕ) (limit : ℕ) (t from : Seen) : Type 0 where
  pub left : List ℕ
  pub between : Seen
  pub lines : IsAfterLines size listen limit left t between
  pub is_next : IsNextTold text lines.n lines.k left between from

-- the first line, or a fault before it, or what is next after the lines so far
abbrev pub IsWriting : ℕ → List ℕ → List ℕ → ℕ → Seen → Seen → Type 0
IsWriting size text listen limit t from =
    ((text ≡ listening_text listen) × (from ≡ t))
    ⊎ (((text ≡ fault_text) × ((from ≡ t) ⊎ DoorFaulted t from))
    ⊎ IsNextLine size text listen limit t from)

-- the sink had one fault, and took a front of what was to be written next
pub record IsUnwritten (size : ℕ) (listen : List ℕ) (limit : ℕ) (t t' : Seen) : Type 0 where
  pub text : List ℕ
  pub from : Seen
  pub writing : IsWriting size text listen limit t from
  pub cut : TellsFront text from t'

-- memory was refused after the lines so far
pub record IsStarved (size : ℕ) (listen : List ℕ) (limit : ℕ) (t t' : Seen) : Type 0 where
  pub left : List ℕ
  pub between : Seen
  pub lines : IsAfterLines size listen limit left t between
  pub leaves : LogLeaves left between t'

-- How it ended: what each end promises, by the failures that the cluster counts and the refused starts that the spawner counts too.
abbrev pub ServeEnds : ℕ → ServeEnd → List ℕ → ℕ → ℕ → ℕ → ℕ → ℕ → Seen → Seen → Type 0
ServeEnds size ends.Done listen limit failures failures' refusals refusals' t t' = IsServeDone size listen limit t t' × (failures' ≡ failures)
ServeEnds size ends.Net listen limit failures failures' refusals refusals' t t' = IsUnstarted failures failures' refusals refusals' t t' ⊎ (IsUnbound t t' ⊎ IsShut size listen limit t t')
ServeEnds size (ends.Feed end) listen limit failures failures' refusals refusals' t t' = FeedTold size (arc_value end) listen limit t t'
ServeEnds size ends.WriteFault listen limit failures failures' refusals refusals' t t' = IsUnwritten size listen limit t t'
ServeEnds size ends.Memory listen limit failures failures' refusals refusals' t t' = (t' ≡ t) ⊎ IsStarved size listen limit t t'
