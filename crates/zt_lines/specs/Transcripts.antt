-- The text of a transcript: its lines, and after them `done` or a fault of the script, or neither.
use Rattle.std.specs.Prelude.{ℕ, ◌+◌, Bool, true, false, ◌||◌, ◌&&◌, List, [], ◌∷◌, ◌++◌, length, take, nat_lt, ◌==◌, bytes_eq, codes, Option, Some, None, if◌then◌else◌}
use Rattle.zk_transcript.specs.declared.transcript.TranscriptLine.{TranscriptLine}
use Rattle.zt_text.specs.Scripts.{max_script, pieces}
use Rattle.zt_text.specs.Words.{Slice}
use Rattle.zt_lines.specs.Words.{place}
use Rattle.zt_lines.specs.Lines.{line_read}

-- ---- the last line

-- a script's line is not possible for its connection or reaper
unfoldable pub is_connection_fault : List ℕ → Bool
is_connection_fault w = bytes_eq w (codes "number in use") || bytes_eq w (codes "no such connection") || bytes_eq w (codes "connection is closed") || bytes_eq w (codes "not a connection")

-- a script's line can't be read, or is not possible for what arrives or for the clock
unfoldable pub is_arrival_fault : List ℕ → Bool
is_arrival_fault w = bytes_eq w (codes "frame is open") || bytes_eq w (codes "too long") || bytes_eq w (codes "unreadable line") || bytes_eq w (codes "clock limit")

-- a script's line is not possible for the request that is out, or because none is
unfoldable pub is_request_fault : List ℕ → Bool
is_request_fault w = bytes_eq w (codes "no request is out") || bytes_eq w (codes "already carried out") || bytes_eq w (codes "not carried out") || bytes_eq w (codes "request is out")

-- a script's line is not possible for the entries that a connection has still to take
unfoldable pub is_entry_fault : List ℕ → Bool
is_entry_fault w = bytes_eq w (codes "no entry to take") || bytes_eq w (codes "no lag")

-- a script's line is not possible for the store: its strays, leases, revisions or keys
unfoldable pub is_store_fault : List ℕ → Bool
is_store_fault w = bytes_eq w (codes "no such stray") || bytes_eq w (codes "no such lease") || bytes_eq w (codes "store is full") || bytes_eq w (codes "key is kept")

-- why a script's line stopped the run
unfoldable pub is_reason : List ℕ → Bool
is_reason w = is_connection_fault w || is_arrival_fault w || is_request_fault w || is_entry_fault w || is_store_fault w

-- a number above 0, as lines are counted from 1
abbrev pub is_positive : Option ℕ → Bool
is_positive None = false
is_positive (Some n) = nat_lt 0 n

-- `fault LINE WHY`: a word, a word, and the rest
abbrev pub is_fault_of : List ℕ → List ℕ → List ℕ → Bool
is_fault_of form n why = bytes_eq form (codes "fault") && is_positive (place n) && is_reason why

-- the bytes before the first c, and those after it; None where there is no c
unfoldable pub parted : ℕ → List ℕ → Option (List ℕ × List ℕ)
parted c [] = None
parted c (b ∷ bs) = if b == c then Some ([], bs) else elim (parted c bs) [ None ↦ None | Some x ↦ Some (b ∷ x.0, x.1) ]

-- the bytes of two slices
abbrev pub seen_parts : Option (Slice × Slice) → Option (List ℕ × List ℕ)
seen_parts None = None
seen_parts (Some x) = Some (x.0.now, x.1.now)

abbrev pub is_fault_after : List ℕ → Option (List ℕ × List ℕ) → Bool
is_fault_after form None = false
is_fault_after form (Some x) = is_fault_of form x.0 x.1

unfoldable pub is_fault_line : List ℕ → Bool
is_fault_line bytes = elim (parted 32 bytes) [ None ↦ false | Some x ↦ is_fault_after x.0 (parted 32 x.1) ]

unfoldable pub is_last_line : List ℕ → Bool
is_last_line bytes = bytes_eq bytes (codes "done") || is_fault_line bytes

-- ---- all lines

-- what the lines say up to the first that can't be read, and the number of that one, from 1
abbrev pub Transcript : Type 0
Transcript = List TranscriptLine × Option ℕ

abbrev pub then_lines : ℕ → Option TranscriptLine → Transcript → Transcript
then_lines n None later = ([], Some n)
then_lines n (Some l) later = (l ∷ later.0, later.1)

-- what is read after `done` or a fault, whose line feed may follow, but no line n
abbrev pub nothing_after : Bool → ℕ → List (List ℕ) → Transcript
nothing_after false n ([] ∷ []) = ([], None)
nothing_after _ n _ = ([], Some n)

-- what follows the last line feed: the last line, or nothing; or the line in which the limit of all bytes is passed
abbrev pub last_line : Bool → ℕ → List ℕ → Transcript
last_line true n bytes = ([], Some n)
last_line false n [] = ([], None)
last_line false n (b ∷ bs) = if is_last_line (b ∷ bs) then ([], None) else then_lines n (line_read (b ∷ bs)) ([], None)

abbrev pub lines_from : Bool → ℕ → List (List ℕ) → Transcript
lines_from is_cut n [] = ([], None)
lines_from is_cut n (bytes ∷ []) = last_line is_cut n bytes
lines_from is_cut n (bytes ∷ more ∷ rest) =
    if is_last_line bytes then nothing_after is_cut (n + 1) (more ∷ rest)
    else then_lines n (line_read bytes) (lines_from is_cut (n + 1) (more ∷ rest))

-- these lines, and what is read after them
abbrev pub onto : List TranscriptLine → Transcript → Transcript
onto lines later = (lines ++ later.0, later.1)

-- what a transcript's text says, of which at most max_script bytes are read (10 is a line feed)
unfoldable pub transcript : List ℕ → Transcript
transcript bytes = lines_from (nat_lt max_script (length bytes)) 1 (pieces 10 (take max_script bytes))
