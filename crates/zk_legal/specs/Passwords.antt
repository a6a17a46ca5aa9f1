-- The passwords that connections offer for new sessions (ZooKeeper's `ConnectRequest`).
use Rattle.std.specs.Prelude.{◌≡◌, ℕ, ℤ, List, length, Some}
use Rattle.zk_service.specs.declared.fresh.Fresh.{Fresh}
use Rattle.zk_transcript.specs.declared.transcript.TranscriptLine.{TranscriptLine}
use Rattle.zk_transcript.specs.History.{opening}

-- each password that a connection offers has 16 bytes
abbrev pub OfferPasswords : List TranscriptLine → Type 0
OfferPasswords lines = (c : ℕ) (f : Fresh) → opening c lines ≡ Some f → length f.passwd ≡ 16
