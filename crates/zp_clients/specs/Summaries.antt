-- What is counted in the transcript of a schedule, and its text.
use Rattle.std.specs.Prelude.{ℕ, Bool, false, List, [], ◌∷◌, ◌++◌, codes, count_by, decimal, length}
use Rattle.zk_transcript.specs.History.{updates}
use Rattle.zk_transcript.specs.declared.transcript.TranscriptLine.{TranscriptLine}
use Rattle.zk_transcript.specs.declared.transcript.TranscriptLine.TheVariants.{Send}
use Rattle.zp_clients.specs.declared.summary.Summary.{Summary}
use Rattle.zp_clients.specs.Sent.{is_notice, is_refusal, is_reply}

-- ---- lines that send a packet of one kind

abbrev pub sends_reply : TranscriptLine → Bool
sends_reply (Send c bytes) = is_reply bytes
sends_reply _ = false

abbrev pub sends_refusal : TranscriptLine → Bool
sends_refusal (Send c bytes) = is_refusal bytes
sends_refusal _ = false

abbrev pub sends_notice : TranscriptLine → Bool
sends_notice (Send c bytes) = is_notice bytes
sends_notice _ = false

-- ---- the counts

abbrev pub summary_of : ℕ → List TranscriptLine → Summary
summary_of steps lines = record {
  steps = steps;
  updates = length (updates lines);
  replies = count_by sends_reply lines;
  refused = count_by sends_refusal lines;
  notices = count_by sends_notice lines;
}

-- ---- the text: five lines

abbrev pub count_text : List ℕ → ℕ → List ℕ
count_text name n = name ++ 32 ∷ decimal n ++ 10 ∷ []

abbrev pub summary_text : Summary → List ℕ
summary_text s = count_text (codes "steps") s.steps ++ count_text (codes "updates") s.updates ++ count_text (codes "replies") s.replies
    ++ count_text (codes "refused") s.refused ++ count_text (codes "notices") s.notices
