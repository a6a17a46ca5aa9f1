-- A conversation as far as it is judged: whether its least walk gives the packets, or which moments are tried next for it.
use Rattle.std.specs.Prelude.{◌≡◌, ℕ, ℤ, pos, ◌-◌, ◌<◌, ◌≤◌, ◌<ℤ◌, Bool, false, List, [], ◌∷◌, drop, length, take, Option, Some, None, option_to_list, if◌then◌else◌, ⊤}
use Rattle.zk_transcript.specs.declared.transcript.TranscriptLine.{TranscriptLine}
use Rattle.zk_transcript.specs.Walks.{Answer, Due, Walker, may_answer_at, move, own_update, packets, placed_frame}
use Rattle.zk_least.specs.LeastMoments.{first_of, moments_for, moments_to_try}
use Rattle.zk_least.specs.LeastReplies.{given_at}
use Rattle.zk_least.specs.LeastSteps.{is_least, is_least_after}
use Rattle.zk_least.specs.LeastWalk.{given, is_allowed}
use Rattle.zk_judge.specs.Fronts.{IsTold}
use Rattle.zk_judge.specs.Seen.{walker_of}
use Rattle.zk_judge.specs.declared.waits.Wait.{Wait}
use Rattle.zk_judge.specs.declared.waits.Walked.{Walked}
use Rattle.zk_judge.specs.declared.waits.Walked.TheVariants as walk
use Rattle.zk_judge.specs.declared.walker.Party.{Party}

-- the packets of a connection that are left after the first ones, of which there are `taken`
abbrev pub packets_after : List TranscriptLine → Party → ℕ → List Due
packets_after lines p taken = drop taken (packets p.connection lines)

-- the moments to try for a reply to the next frame
abbrev pub moments_of : List TranscriptLine → Party → Walker → List ℕ → List ℕ
moments_of lines p w reply = moments_for lines p.connection p.session w reply (placed_frame p.connection w.next lines)

-- the moments to try for a reply to the next frame, whose line stands at this place
abbrev pub moments_at : List TranscriptLine → Party → Walker → ℕ → List ℕ → List ℕ
moments_at lines p w place reply = moments_to_try lines p.session w place reply (own_update p.connection w.next lines)

-- a first moment to try, if there is one, and a second
abbrev pub tries_of : Option (ℕ × Option ℕ) → List ℕ
tries_of None = []
tries_of (Some t) = t.0 ∷ option_to_list t.1

-- what an answer as of a moment gives, where it is allowed
abbrev pub tried : List TranscriptLine → ℕ → ℤ → Walker → List Due → ℕ → Option (Walker × List Due)
tried lines c id w ps m = if is_allowed lines c id w ps m then given ps (move lines c id w (Answer m)) else None

-- the least walk goes on from the first of these moments that is allowed
unfoldable pub goes_on : List TranscriptLine → ℕ → ℤ → Walker → List Due → List ℕ → Bool
goes_on lines c id w ps ms = is_least_after lines c id (given_at lines c id w ps (first_of (is_allowed lines c id w ps) ms))

-- the least walk gives the packets that are left
abbrev pub gives_rest : List TranscriptLine → Party → Walker → ℕ → Bool
gives_rest lines p w taken = is_least lines p.connection p.session w (packets_after lines p taken)

-- the least walk gives the packets that are left, where it goes on from the first of these moments that is allowed
abbrev pub gives_rest_from : List TranscriptLine → Party → Walker → ℕ → List ℕ → Bool
gives_rest_from lines p w taken ms = goes_on lines p.connection p.session w (packets_after lines p taken) ms

-- what the reply that a conversation waits for gives as of the moment that is tried next
abbrev pub next_tried : List TranscriptLine → Wait → Option (Walker × List Due)
next_tried lines x = tried lines x.party.connection x.party.session (walker_of x.walker) (packets_after lines x.party x.taken) x.first

-- whether the least walk gives the packets: it is known, or it depends on the moments to try
abbrev pub is_walked : List TranscriptLine → Walked → Bool
is_walked lines (walk.Ends b) = b
is_walked lines (walk.Waits x) = gives_rest_from lines x.party (walker_of x.walker) x.taken (x.first ∷ option_to_list x.second)

-- no reply may be answered as of a moment before this one
abbrev pub IsEarliest : List TranscriptLine → Walker → ℕ → Type 0
IsEarliest lines w from = (m : ℕ) → m < from → may_answer_at (take m lines) w ≡ false

abbrev pub IsNotBefore : ℕ → Option ℕ → Type 0
IsNotBefore m None = ⊤
IsNotBefore m (Some n) = m ≤ n

-- a conversation waits for a moment from `from` on
pub record IsWait (lines : List TranscriptLine) (from : ℕ) (x : Wait) : Type 0 where
  pub first : from ≤ x.first
  pub last : x.first ≤ length lines
  pub second : IsNotBefore x.first x.second
  pub above : pos 0 <ℤ x.walker.zxid
  pub told : IsTold lines (walker_of x.walker)
  pub taken : x.taken ≤ length (packets x.party.connection lines)

abbrev pub IsWaiting : List TranscriptLine → ℕ → Walked → Type 0
IsWaiting lines from (walk.Ends b) = ⊤
IsWaiting lines from (walk.Waits x) = IsWait lines from x

-- how many packets are left
abbrev pub left_of : List TranscriptLine → Walked → ℕ
left_of lines (walk.Ends b) = 0
left_of lines (walk.Waits x) = length (packets x.party.connection lines) - x.taken
