-- What a look at the hub tells.
use Rattle.std.specs.Prelude.{◌≡◌, ◌⊎◌, ℕ, ◌+◌, ◌*◌, false, List, Contains, Some, None, Result, Ok, Err}
use Rattle.std.specs.Arc.{arc_value}
use Rattle.zk_service.specs.declared.cause.Cause.{Cause}
use Rattle.zw_hub.specs.Ends.{MayBeTold}
use Rattle.zw_hub.specs.declared.feed.FeedEnd.{FeedEnd}
use Rattle.zw_hub.specs.Readers.{ReaderState}
use Rattle.zp_server.specs.Lines.{is_feed_closed}
use Rattle.zp_server.specs.declared.ends.Stop.{Stop}
use Rattle.zp_server.specs.declared.ends.Stop.TheVariants as stop

-- the reader read the list once more, and the list was open
pub record FindsOpen (s s' : ReaderState) : Type 0 where
  pub once : s'.reads ≡ s.reads + 1
  pub unclosed : s'.closings ≡ s.closings
  pub is_open : (s'.list).end ≡ None

-- the list that was read is open; or it is closed by this end, which may be told; or memory was refused
abbrev pub Looks : Result (Unit {0}) Stop → ReaderState → ReaderState → Type 0
Looks (Ok _) s s' = FindsOpen s s'
Looks (Err (stop.Feed end)) s s' = ((s'.list).end ≡ Some (arc_value end)) × MayBeTold (arc_value end)
Looks (Err stop.Memory) s s' = Unit {0}
Looks (Err _) s s' = ⊥

-- the server goes on only where a connection did not end since the hub is closed
abbrev pub Closes : Result (Unit {0}) Stop → Cause → ReaderState → ReaderState → Type 0
Closes (Ok _) why s s' = is_feed_closed why ≡ false
Closes (Err e) why s s' = Looks (Err e) s s'

-- ---- who found the list closed

-- one of the server's readers, its own or one that serves nobody now, found the list closed by this end at its last read
pub record IsFoundClosed (end : FeedEnd) (own : ReaderState) (free : List ReaderState) : Type 0 where
  pub reader : ReaderState
  pub ours : (reader ≡ own) ⊎ Contains free reader
  pub closed : (reader.list).end ≡ Some end

-- a stop for an end of the list: one of the server's readers found the list closed by that end
abbrev pub IsFound : Stop → ReaderState → List ReaderState → Type 0
IsFound (stop.Feed end) own free = IsFoundClosed (arc_value end) own free
IsFound _ own free = Unit {0}

abbrev pub Finds : {E : Type 0} → Result E Stop → ReaderState → List ReaderState → Type 0
Finds (Ok _) own free = Unit {0}
Finds (Err why) own free = IsFound why own free

-- ---- before and after an accept

-- the list was found open at two reads, one after the other
abbrev pub FindsOpenTwice : ReaderState → ReaderState → Type 0
FindsOpenTwice s s' = (between : ReaderState) × FindsOpen s between × FindsOpen between s'

-- so many times two reads, and the list was open at each
pub record FindsOpenFor (clients : ℕ) (s s' : ReaderState) : Type 0 where
  pub reads : s'.reads ≡ s.reads + 2 * clients
  pub unclosed : s'.closings ≡ s.closings
