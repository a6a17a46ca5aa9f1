-- The conversations, by the moments that they wait for.
use Rattle.std.specs.Prelude.{◌≡◌, ◌⊎◌, ℕ, ◌+◌, ◌<◌, ◌≤◌, List, [], Option, None, Some, length}
use Rattle.std.specs.Global.{Vec}
use Rattle.std.specs.List.{All, Contains}
use Rattle.std.specs.BTreeMap as tree
use Rattle.std.specs.Ordering.{nat_cmp}
use Rattle.zk_transcript.specs.declared.transcript.TranscriptLine.{TranscriptLine}
use Rattle.zk_judge.specs.Staged.{IsStanding, StandsAtEnd, connections}
use Rattle.zk_judge.specs.declared.agenda.Agenda.{Agenda}
use Rattle.zk_judge.specs.declared.agenda.Lists.{Lists}
use Rattle.zk_judge.specs.declared.conversations.Conversation.{Conversation}

abbrev pub listed : Option (Vec Conversation) → List Conversation
listed None = []
listed (Some list) = list.items

-- the conversations in the list of a moment
abbrev pub waiting_at : Lists → ℕ → List Conversation
waiting_at l m = listed (tree.get nat_cmp l.lists m)

-- conversations that wait for no moment up to the last
abbrev pub AreJudged : List TranscriptLine → List Conversation → Type 0
AreJudged lines xs = All (StandsAtEnd lines) xs

-- none waits for a moment before the next one, or after the last line, and those in a moment's list wait for none before it
pub record IsAgenda (lines : List TranscriptLine) (a : Agenda) : Type 0 where
  pub next : a.next ≤ length lines + 1
  pub past : (m : ℕ) → m < a.next → waiting_at a.waiting m ≡ []
  pub over : (m : ℕ) → length lines < m → waiting_at a.waiting m ≡ []
  pub waiting : (m : ℕ) → All (IsStanding lines m) (waiting_at a.waiting m)
  pub judged : AreJudged lines a.judged.items

-- some list has the conversation of a connection
abbrev pub HasConversation : Agenda → ℕ → Type 0
HasConversation a c = ((m : ℕ) × Contains (connections (waiting_at a.waiting m)) c) ⊎ Contains (connections a.judged.items) c
