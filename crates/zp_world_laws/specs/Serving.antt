-- A store serves a transcript: its keys stand, at each of its revisions from 2 on, for the state of the service then. And what a
-- transaction makes of that.
use Rattle.std.specs.Prelude.{◌≡◌, ℕ, ℤ, pos, ◌+◌, ◌+ℤ◌, ◌≤◌, Bool, true, false, List, [], ◌∷◌, length, Option, Some, None, int_le, if◌then◌else◌}
use Rattle.std.specs.List.{list_all}
use Rattle.std.specs.Ordering.{int_eq}
use Rattle.ev_types.specs.Store.{Store, acts_applied, holds, present, revision, store_at}
use Rattle.ev_types.specs.declared.ask.Act.{Act}
use Rattle.ev_types.specs.declared.ask.Act.TheVariants as act
use Rattle.ev_types.specs.declared.ask.TxnReq.{TxnReq}
use Rattle.zk_transcript.specs.History.{after, state_at, updated}
use Rattle.zk_transcript.specs.Legal.{is_in_order, is_legal, is_ordered, may_update}
use Rattle.zk_transcript.specs.declared.transcript.TranscriptLine.{TranscriptLine}
use Rattle.zk_transcript.specs.declared.transcript.TranscriptLine.TheVariants.{Update, Lapse}
use Rattle.zk_service.specs.declared.update.UpdateKind.{UpdateKind}
use Rattle.zn_layout.specs.StandsFor.{StandsFor}
use Rattle.zp_script.specs.Carrying.{update_line_of}
use Rattle.zp_script.specs.Worlds.{zxid_at}

-- ---- the moment of a revision

-- the revision at which a line's update or lapse was made
abbrev pub line_revision : TranscriptLine → Option ℤ
line_revision (Update u) = Some u.zxid
line_revision (Lapse revision id) = Some revision
line_revision _ = None

abbrev pub is_up_to : ℤ → Option ℤ → Bool
is_up_to r None = false
is_up_to r (Some z) = int_le z r

-- right after the last line that has a revision up to r; `last` where none has
abbrev pub moment_from : ℤ → ℕ → ℕ → List TranscriptLine → ℕ
moment_from r k last [] = last
moment_from r k last (l ∷ ls) = moment_from r (k + 1) (if is_up_to r (line_revision l) then k + 1 else last) ls

abbrev pub moment_of : List TranscriptLine → ℤ → ℕ
moment_of lines r = moment_from r 0 0 lines

-- ---- a store serves

pub record StoreServes (store : Store) (lines : List TranscriptLine) : Type 0 where
  pub legal : is_legal lines ≡ true
  pub ordered : is_ordered lines ≡ true
  -- the store has reached revision 2, that of the first update
  pub begun : 2 ≤ length store.revisions
  pub stands : (r : ℕ) → 2 ≤ r → r ≤ length store.revisions → StandsFor (store_at store r) (state_at lines (moment_of lines (pos r)))
  -- at the store's last revision, and at any above it, the state is the one after all lines
  pub settled : (r : ℕ) → length store.revisions ≤ r → state_at lines (moment_of lines (pos r)) ≡ after lines

-- ---- a transaction that would be carried out now

abbrev pub next_revision : Store → ℤ
next_revision s = revision s +ℤ pos 1

-- It is an update of this kind that the service could make, in its connection's order, and its operations leave keys that stand for
-- the state after it.
pub record Commits (s : Store) (lines : List TranscriptLine) (kind : UpdateKind) (t : TxnReq) : Type 0 where
  pub may : may_update lines (after lines) (next_revision s) kind ≡ true
  pub ordered : is_in_order lines (Update (record { zxid = next_revision s; kind = kind })) ≡ true
  pub stands : StandsFor (acts_applied (next_revision s) (present s) t.success) (updated lines (after lines) (next_revision s) kind)
  pub zxid : (updated lines (after lines) (next_revision s) kind).zxid ≡ next_revision s

abbrev pub GuardsHold : Store → TxnReq → Type 0
GuardsHold s t = list_all (holds (present s)) t.guards ≡ true

-- an operation that changes nothing
abbrev pub is_read : Act → Bool
is_read (act.Put k v lease) = false
is_read (act.Delete k) = false
is_read (act.Range q) = true

abbrev pub only_reads : List Act → Bool
only_reads acts = list_all is_read acts

-- ---- the line that is shown where the head changed

abbrev pub kind_lines : Store → Option UpdateKind → List TranscriptLine
kind_lines s None = []
kind_lines s (Some kind) = update_line_of s kind ∷ []

abbrev pub update_lines : Store → Store → Option UpdateKind → List TranscriptLine
update_lines old new kind = if int_eq (zxid_at old) (zxid_at new) then [] else kind_lines new kind
