-- The packets of a connection, by the places of the lines that send them.
use Rattle.std.proofs.Common.{◌≡◌, ℕ, suc, ◌+◌, Bool, true, false, List, [], ◌∷◌, refl, ap, ◌∙◌, arith}
use Rattle.std.specs.Prelude.{◌==◌, if◌then◌else◌, map, slice_get}
use Rattle.zk_transcript.specs.declared.transcript.TranscriptLine.{TranscriptLine}
use Rattle.zk_transcript.specs.declared.transcript.TranscriptLine.TheVariants.{Update, Open, Frame as FrameLine, Send, Lapse, Close}
use Rattle.zk_transcript.specs.Walks.{Due, packets, packets_from}
use Rattle.zk_judge.specs.Sent.{packet_at, sent_bytes, sent_from}

-- these are the lines from place k on
abbrev AreFrom : List TranscriptLine → ℕ → List TranscriptLine → Type 0
AreFrom lines k ls = (j : ℕ) → slice_get lines (k + j) ≡ slice_get ls j

from-next : (lines : List TranscriptLine) (k : ℕ) (l : TranscriptLine) (ls : List TranscriptLine) → AreFrom lines k (l ∷ ls) → AreFrom lines (k + 1) ls
from-next lines k l ls are j = let s : (k + 1) + j ≡ k + suc j = omega arith in ap (slice_get lines) s ∙ are (suc j)

packets-from-places : (lines : List TranscriptLine) (c k : ℕ) (ls : List TranscriptLine) → AreFrom lines k ls → map (packet_at lines) (sent_from c k ls) ≡ packets_from c k ls
packets-from-places lines c k [] are = refl
packets-from-places lines c k (Send d bytes ∷ ls) are = by (c == d) (packets-from-places lines c (k + 1) ls (from-next lines k (Send d bytes) ls are))
  where
    here : packet_at lines k ≡ (k, bytes)
    here = let s : k ≡ k + 0 = omega arith in ap (λ o. (k, sent_bytes o)) (ap (slice_get lines) s ∙ are 0)

    by : (b : Bool) → map (packet_at lines) (sent_from c (k + 1) ls) ≡ packets_from c (k + 1) ls
        → map (packet_at lines) (map (λ (p : Due). p.0) (if b then (k, bytes) ∷ packets_from c (k + 1) ls else packets_from c (k + 1) ls)) ≡ (if b then (k, bytes) ∷ packets_from c (k + 1) ls else packets_from c (k + 1) ls)
    by true rest = ap (λ (p : Due). p ∷ map (packet_at lines) (sent_from c (k + 1) ls)) here ∙ ap (λ (ps : List Due). (k, bytes) ∷ ps) rest
    by false rest = rest
packets-from-places lines c k (Update u ∷ ls) are = packets-from-places lines c (k + 1) ls (from-next lines k (Update u) ls are)
packets-from-places lines c k (Open d x id pw layout ∷ ls) are = packets-from-places lines c (k + 1) ls (from-next lines k (Open d x id pw layout) ls are)
packets-from-places lines c k (FrameLine d i z bytes ∷ ls) are = packets-from-places lines c (k + 1) ls (from-next lines k (FrameLine d i z bytes) ls are)
packets-from-places lines c k (Lapse r id ∷ ls) are = packets-from-places lines c (k + 1) ls (from-next lines k (Lapse r id) ls are)
packets-from-places lines c k (Close d e ∷ ls) are = packets-from-places lines c (k + 1) ls (from-next lines k (Close d e) ls are)

pub packets-at-places : (c : ℕ) (lines : List TranscriptLine) → map (packet_at lines) (sent_from c 0 lines) ≡ packets c lines
packets-at-places c lines = packets-from-places lines c 0 lines (λ j. ap (slice_get lines) (let s : 0 + j ≡ j = omega arith in s))
