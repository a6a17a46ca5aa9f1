-- What the tables of the program hold.
use Rattle.std.specs.Prelude.{◌≡◌, ℕ, Bool, true, false, max, List, Option, Some, None}
use Rattle.std.specs.List.{list_all}
use Rattle.std.specs.BTreeMap as tree
use Rattle.std.specs.Ordering.{nat_cmp}
use Rattle.zk_transcript.specs.declared.transcript.TranscriptLine.{TranscriptLine}
use Rattle.zk_transcript.specs.declared.transcript.TranscriptLine.TheVariants.{Frame}
use Rattle.zk_service.specs.States.{or_nothing}
use Rattle.zk_transcript.specs.Legal.{index_shown, is_below_place}
use Rattle.zk_legal.specs.Formed.{frames_of}
use Rattle.zk_legal.specs.declared.counts.Counts.{Counts}
use Rattle.zk_legal.specs.declared.lasts.Lasts.{Lasts}

abbrev pub sender : TranscriptLine → Option ℕ
sender (Frame c i zxid bytes) = Some c
sender _ = None

abbrev pub count_in : Counts → ℕ → ℕ
count_in m c = or_nothing 0 (tree.get nat_cmp m.frames c)

-- m has for each connection the number of its frames among these lines
abbrev pub AreCounts : List TranscriptLine → Counts → Type 0
AreCounts lines m = (c : ℕ) → count_in m c ≡ frames_of c lines

-- ---- requests that were carried out

abbrev pub last_in : Lasts → ℕ → Option ℕ
last_in m c = tree.get nat_cmp m.indices c

-- where the request is the connection's: its index, or the last one, if that is greater
abbrev pub later : Bool → ℕ → Option ℕ → Option ℕ
later false i o = o
later true i None = Some i
later true i (Some j) = Some (max i j)

-- a request comes after all that these lines carry out for a connection exactly where it comes after the one that m has
abbrev pub AreLasts : List TranscriptLine → Lasts → Type 0
AreLasts lines m = (c i : ℕ) → list_all (λ l. is_below_place i (index_shown c l)) lines ≡ is_below_place i (last_in m c)
