-- Where Begin may stand, and with what zxid.
use Rattle.std.proofs.Common.{◌≡◌, ℕ, List, [], ◌∷◌, refl, arith, true, false, ℤ}
use Rattle.std.specs.Prelude.{◌≤ℤ◌, int_le}
use Rattle.std.proofs.lemmas.Int.{ints}
use Rattle.zk_model.specs.declared.layout.Layout.{Layout}
use Rattle.zk_model.specs.Limits.{max_long}
use Rattle.zk_transcript.specs.declared.transcript.TranscriptLine.{TranscriptLine}
use Rattle.zk_transcript.specs.declared.transcript.TranscriptLine.TheVariants.{Open, Lapse}
use Rattle.zk_transcript.specs.Legal.{is_legal, may_update}
use Rattle.zk_transcript.proofs.Histories.{begin_line}
use Rattle.zk_transcript.specs.History.{updated, after, begin_lines}
use Rattle.zk_service.specs.States.{first_state}

-- ---- the state after the first update

pub after-begin : (now : ℕ) → after (begin_lines now) ≡ first_state now
unfolding after updated
after-begin now = refl

-- ---- where Begin may stand

pub begin-after : (c proxy : ℕ) (id : ℤ) (passwd : List ℕ) (layout : Layout) (z : ℤ) (now : ℕ) → z ≤ℤ max_long → is_legal (Open c proxy id passwd layout ∷ begin_line z now ∷ []) ≡ true
unfolding is_legal may_update
begin-after c proxy id passwd layout z now most = let long : int_le z max_long ≡ true = grind (arith, ints) in rw long refl

pub begin-before : (revision id : ℤ) (lines : List TranscriptLine) → is_legal (Lapse revision id ∷ lines) ≡ false
unfolding is_legal
begin-before revision id lines = refl
