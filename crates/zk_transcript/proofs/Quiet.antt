-- Lines that change nothing and are always legal: a connection opens, a frame comes, a packet is sent.
use Rattle.std.proofs.Common.{◌≡◌, List, true}
use Rattle.zk_transcript.specs.declared.transcript.TranscriptLine.{TranscriptLine}
use Rattle.zk_service.specs.States.{State}
use Rattle.zk_transcript.specs.History.{change}
use Rattle.zk_transcript.specs.Legal.{is_legal_line, is_in_order}

pub record IsQuiet (l : TranscriptLine) : Type 0 where
  pub stays : (before : List TranscriptLine) (s : State) → change before s l ≡ s
  pub legal : (before : List TranscriptLine) (s : State) → is_legal_line before s l ≡ true
  pub ordered : (before : List TranscriptLine) → is_in_order before l ≡ true
