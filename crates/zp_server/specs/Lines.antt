-- The lines that a server writes.
use Rattle.std.specs.Prelude.{ℕ, Bool, true, false, List, [], ◌∷◌, ◌++◌, flat_map, codes, decimal, Option, Some, None}
use Rattle.std.specs.Fmt.{signed_decimal}
use Rattle.zk_service.specs.declared.cause.Cause.{Cause}
use Rattle.zk_service.specs.declared.cause.Cause.TheVariants as cause
use Rattle.zt_text.specs.Transcripts.{cause_words, hex_text}
use Rattle.zw_hub.specs.declared.feed.FeedEnd.{FeedEnd}
use Rattle.zw_hub.specs.declared.feed.FeedEnd.TheVariants as feed
use Rattle.zp_server.specs.Books.{Ending}

-- ---- connections

-- a line about a connection: its worker handed it back, or there was no link for it
pub data Line : Type 0 where
  Closed : (ending : Ending) → Line
  NoLink : (number : ℕ) → Line

-- the words of a cause, each after a blank (32), and a line feed (10)
unfoldable pub cause_text : Cause → List ℕ
cause_text why = flat_map (λ (w : List ℕ). 32 ∷ w) (cause_words why) ++ 10 ∷ []

-- `closed N CAUSE`
unfoldable pub closed_text : ℕ → Cause → List ℕ
closed_text number why = codes "closed " ++ (decimal number ++ cause_text why)

-- `closed N no link`
unfoldable pub no_link_text : ℕ → List ℕ
no_link_text number = codes "closed " ++ (decimal number ++ codes " no link\n")

abbrev pub text_of : Line → List ℕ
text_of (Closed e) = closed_text e.number e.cause
text_of (NoLink number) = no_link_text number

abbrev pub number_of_line : Line → ℕ
number_of_line (Closed e) = e.number
number_of_line (NoLink number) = number

abbrev pub ending_in : Line → Option Ending
ending_in (Closed e) = Some e
ending_in (NoLink number) = None

-- the number of a connection for which there was no link
abbrev pub unlinked : Line → Option ℕ
unlinked (Closed e) = None
unlinked (NoLink number) = Some number

-- the connection ended since the hub is closed
abbrev pub is_feed_closed : Cause → Bool
is_feed_closed cause.FeedClosed = true
is_feed_closed _ = false

abbrev pub is_fed : Line → Bool
is_fed (Closed e) = is_feed_closed e.cause
is_fed (NoLink number) = false

-- ---- the first line and the last

-- `listening LISTEN`: the server listens
unfoldable pub listening_text : List ℕ → List ℕ
listening_text listen = codes "listening " ++ (listen ++ 10 ∷ [])

-- the net, the cluster or the start of a worker had a fault
unfoldable pub fault_text : List ℕ
fault_text = codes "net fault\n"

-- why the hub was closed
unfoldable pub feed_text : FeedEnd → List ℕ
feed_text (feed.Compacted rev) = codes "feed compacted " ++ (signed_decimal rev ++ 10 ∷ [])
feed_text (feed.Gap expected found) = codes "feed gap " ++ (signed_decimal expected ++ 32 ∷ signed_decimal found ++ 10 ∷ [])
feed_text (feed.Damaged key value) = codes "feed damaged " ++ (hex_text key ++ 32 ∷ hex_text value ++ 10 ∷ [])
feed_text feed.NoLine = codes "feed no line\n"
feed_text feed.Memory = codes "feed memory\n"
