-- The calls of one turn, which goes round all sessions once: lists, one after the other, and after each a reap of each session that it
-- shows as lapsed.
use Rattle.std.specs.Prelude.{◌≡◌, ◌⊎◌, ℕ, zero, suc, ◌<◌, ℤ, pos, nat_abs, ◌≤ℤ◌, Bool, true, false, List, [], ◌++◌, drop, Option, Some, None, Result, Ok, Err}
use Rattle.ev_call.specs.Calls.{Call}
use Rattle.ev_link.specs.Reaching.{undialled_times}
use Rattle.ev_link.specs.declared.failure.LinkFailure.{LinkFailure}
use Rattle.ev_link.specs.declared.failure.LinkFailure.TheVariants as failure
use Rattle.ev_faults.specs.declared.fault.Fault.{Fault}
use Rattle.ev_faults.specs.declared.fault.Fault.TheVariants as told
use Rattle.zn_layout.specs.Keys.{SessionKey, key_bytes}
use Rattle.zx_net.specs.Nets.{NetCounts}
use Rattle.zs_reaper.specs.declared.calling.TurnFault.{TurnFault}
use Rattle.zs_reaper.specs.declared.calling.TurnFault.TheVariants as turn
use Rattle.zs_reaper.specs.declared.listing.Listed.{Listed}
use Rattle.zs_reaper.specs.declared.turning.Page.{Page}
use Rattle.zs_reaper.specs.Calling.{LinkTold, Makes, tells}
use Rattle.zs_reaper.specs.Listing.{Lists, behind}
use Rattle.zs_reaper.specs.Reaping.{AfterFirst, ReapsEach, or_damaged}

-- ---- a page

-- each session that the list shows as lapsed is reaped once, and no other is; a fault stops the turn
abbrev pub AfterList : Result Listed TurnFault → Result Page TurnFault → List Call → Type 0
AfterList (Ok listed) (Ok page) later = ReapsEach listed.lapsed (Ok page.is_damaged) later × (page.next ≡ listed.next)
AfterList (Ok listed) (Err fault) later = ReapsEach listed.lapsed (Err fault) later
AfterList (Err fault) result later = (result ≡ Err fault) × (later ≡ [])

-- a list from this number on, before that one, and what follows it
pub record IsPage (from end : List ℕ) (result : Result Page TurnFault) (calls : List Call) : Type 0 where
  pub listed : Result Listed TurnFault
  pub own : List Call
  pub later : List Call
  pub are : calls ≡ own ++ later
  pub lists : Lists from end listed own
  pub after : AfterList listed result later

-- ---- pages

-- the next page begins where this one says
abbrev pub AfterNext : Bool → Option (List ℕ) → Result Bool TurnFault → List Call → (List ℕ → Result Bool TurnFault → Type 0) → Type 0
AfterNext damaged None result later Others = (result ≡ Ok damaged) × (later ≡ [])
AfterNext damaged (Some from) result later Others = (others : Result Bool TurnFault) × Others from others × (result ≡ or_damaged damaged others)

abbrev pub AfterPage : Result Page TurnFault → Result Bool TurnFault → List Call → (List ℕ → Result Bool TurnFault → Type 0) → Type 0
AfterPage (Ok page) result later Others = AfterNext page.is_damaged page.next result later Others
AfterPage (Err fault) result later Others = (result ≡ Err fault) × (later ≡ [])

-- at most so many pages, the first from this number on, all before that one, up to the last page or a fault; and whether a key was
-- damaged
unfoldable pub Pages : ℕ → List ℕ → List ℕ → Result Bool TurnFault → List Call → Type 0
Pages zero from end result calls = (result ≡ Ok false) × (calls ≡ [])
Pages (suc pages) from end result calls =
    (first : Result Page TurnFault) × (own : List Call) × (later : List Call) × (calls ≡ own ++ later) × IsPage from end first own
    × AfterPage first result later (λ next others. Pages pages next end others later)

-- ---- a turn

-- each half of a turn has at most so many pages
abbrev pub max_lists : ℕ
max_lists = 1000

-- the key of the session of this number, after its kind
abbrev pub place_of : ℤ → List ℕ
place_of n = drop 5 (key_bytes (SessionKey (nat_abs n)))

-- a turn begins at the place of some session's number
abbrev pub IsPlace : List ℕ → Type 0
IsPlace place = (n : ℤ) × (pos 1 ≤ℤ n) × (place ≡ place_of n)

-- from such a place on to the last session, and then from the first one on to that place
pub record GoesRound (result : Result Bool TurnFault) (calls : List Call) : Type 0 where
  pub place : List ℕ
  pub drawn : IsPlace place
  pub first : Result Bool TurnFault
  pub own : List Call
  pub later : List Call
  pub are : calls ≡ own ++ later
  pub onward : Pages max_lists place behind first own
  pub after : AfterFirst first result later (λ others. Pages max_lists [] place others later)

-- one turn; it does not begin where memory is refused for its place
abbrev pub Turns : Result Bool TurnFault → List Call → Type 0
Turns result calls = ((result ≡ Err turn.Memory) × (calls ≡ [])) ⊎ GoesRound result calls

-- ---- a turn over a link that is kept

-- a link that was kept tells what it told; a new one has no calls
abbrev pub begun_from : Option LinkTold → LinkTold
begun_from None = tells [] 0
begun_from (Some t) = t

-- the fault that is told of a link: the one that it keeps, or out of memory
abbrev pub fault_in : Option LinkFailure → Fault
fault_in (Some (failure.Http fault)) = told.Http fault
fault_in (Some (failure.Json fault)) = told.Json fault
fault_in None = told.Memory

-- whether a key was damaged
abbrev pub damage_told : Bool → Result (Unit {0}) Fault
damage_told false = Ok tt
damage_told true = Err told.Damaged

-- The link is kept where all of its calls were answered, up to the end of the turn, or up to a session that another had ended.
-- Otherwise none is, and the next turn has a new one.
abbrev pub TurnsOn : LinkTold → Option LinkTold → Result (Unit {0}) Fault → Type 0
TurnsOn old (Some new) result =
    ((damaged : Bool) × Makes (Turns (Ok damaged)) old new × (result ≡ damage_told damaged)) ⊎ (Makes (Turns (Err turn.Met)) old new × (result ≡ Ok tt))
TurnsOn old None result = (fault : Fault) × (why : TurnFault) × (new : LinkTold) × (result ≡ Err fault) × (why ≡ turn.Met → ⊥) × Makes (Turns (Err why)) old new

-- none was kept
abbrev pub IsLeftNone : Option LinkTold → Type 0
IsLeftNone None = Unit {0}
IsLeftNone (Some t) = ⊥

-- A turn over the link that was kept, or over a new one; or none was kept, and no new one could be had.
abbrev pub TurnsOver : Option LinkTold → Option LinkTold → Result (Unit {0}) Fault → Type 0
TurnsOver old new result = TurnsOn (begun_from old) new result ⊎ (IsLeftNone old × IsLeftNone new × ((fault : Fault) × (result ≡ Err fault)))

-- ---- the net

-- For a new link each dial that failed is counted, and nothing else is: one for each endpoint where none could be dialled, and otherwise
-- fewer.
abbrev pub DialsFor : {A : Type 0} → Result A Fault → ℕ → NetCounts → NetCounts → Type 0
DialsFor (Err told.Dial) size counts counts' = counts' ≡ undialled_times size counts
DialsFor _ size counts counts' = (failed : ℕ) × (failed < size) × (counts' ≡ undialled_times failed counts)

-- over a link that was kept nothing is dialled
abbrev pub DialsOver : {L A : Type 0} → Option L → Result A Fault → ℕ → NetCounts → NetCounts → Type 0
DialsOver (Some link) result size counts counts' = counts' ≡ counts
DialsOver None result size counts counts' = DialsFor result size counts counts'
