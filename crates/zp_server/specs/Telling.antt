-- What a server's net, sink and book tell, and what writing changes in it.
use Rattle.std.specs.Prelude.{◌≡◌, ℕ, ◌+◌, ◌-◌, ◌^◌, Bool, true, false, List, max, min, Option, Result, Ok, Err}
use Rattle.zx_net.specs.Nets.{NetCounts}
use Rattle.zx_outside.specs.Counts.{OutputCounts, one_more}
use Rattle.zx_outside.specs.Writing.{Takes, TakesFront, counts_after_write}
use Rattle.zx_outside.specs.declared.sink.Took.TheVariants as took
use Rattle.zp_server.specs.Books.{Ending}
use Rattle.zp_server.specs.declared.ends.Stop.{Stop}
use Rattle.zp_server.specs.declared.ends.Stop.TheVariants as stop

-- what a sink tells
pub record Output : Type 0 where
  pub taken : Option (List ℕ)
  pub counts : OutputCounts

-- what the net, the sink and the book tell
pub record Seen : Type 0 where
  pub net : NetCounts
  pub out : Output
  pub book : Option (List Ending)

-- a count after n more; it stops at 2^64 - 1
abbrev pub more : ℕ → ℕ → ℕ
more n count = max count (min (count + n) (2 ^ 64 - 1))

-- ---- writing

-- all of the text was taken, and the sink had no fault
pub record IsWritten (text : List ℕ) (o o' : Output) : Type 0 where
  pub taken : Takes text o.taken o'.taken
  pub unharmed : o'.counts ≡ o.counts

-- the sink had one fault, and took a front of the text
pub record IsCutOutput (text : List ℕ) (o o' : Output) : Type 0 where
  pub taken : TakesFront text o.taken o'.taken
  pub harmed : o'.counts ≡ counts_after_write took.Failed o.counts

abbrev pub WritesAll : Bool → List ℕ → Output → Output → Type 0
WritesAll true text o o' = IsWritten text o o'
WritesAll false text o o' = IsCutOutput text o o'

-- a line was written; where memory was refused, nothing was
abbrev pub OutputSays : Result (Unit {0}) Stop → List ℕ → Output → Output → Type 0
OutputSays (Ok _) text o o' = IsWritten text o o'
OutputSays (Err stop.Write) text o o' = IsCutOutput text o o'
OutputSays (Err stop.Memory) text o o' = o' ≡ o
OutputSays (Err _) text o o' = ⊥

-- the text was written, and nothing else has happened
pub record TellsText (text : List ℕ) (t t' : Seen) : Type 0 where
  pub net : t'.net ≡ t.net
  pub out : IsWritten text t.out t'.out
  pub book : t'.book ≡ t.book

-- a front of the text was written, and nothing else has happened, but perhaps a dial that failed
pub record TellsFront (text : List ℕ) (t t' : Seen) : Type 0 where
  pub accepted : (t'.net).accepted ≡ (t.net).accepted
  pub doors : (t'.net).door_faults ≡ (t.net).door_faults
  pub out : IsCutOutput text t.out t'.out
  pub book : t'.book ≡ t.book

-- a door had a fault, and nothing else has happened
pub record DoorFaulted (t t' : Seen) : Type 0 where
  pub accepted : (t'.net).accepted ≡ (t.net).accepted
  pub dials : (t'.net).dial_faults ≡ (t.net).dial_faults
  pub faulted : (t'.net).door_faults ≡ one_more (t.net).door_faults
  pub out : t'.out ≡ t.out
  pub book : t'.book ≡ t.book

-- a worker was started; or that was refused, and is counted
abbrev pub Starts : Result (Unit {0}) Stop → ℕ → ℕ → Type 0
Starts (Ok _) refusals refusals' = refusals' ≡ refusals
Starts (Err stop.Net) refusals refusals' = refusals' ≡ one_more refusals
Starts (Err stop.Memory) refusals refusals' = Unit {0}
Starts (Err _) refusals refusals' = ⊥
