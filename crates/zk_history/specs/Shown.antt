-- By what lines are looked up, and the place of the first one that is found.
use Rattle.std.specs.Prelude.{◌≡◌, ℕ, ℤ, ◌&&◌, Bool, false, ◌==◌, List, Option, Some, None, option_map}
use Rattle.std.specs.BTreeMap as tree
use Rattle.std.specs.Ordering.{int_cmp, int_eq, nat_cmp, ordering_then}
use Rattle.std.specs.declared.cmp.Ordering.{Ordering}
use Rattle.zk_service.specs.declared.update.UpdateKind.{UpdateKind}
use Rattle.zk_service.specs.declared.update.UpdateKind.TheVariants.{Session as NewSession, Attach, Asked, Closed}
use Rattle.zk_transcript.specs.declared.transcript.TranscriptLine.{TranscriptLine}
use Rattle.zk_transcript.specs.declared.transcript.TranscriptLine.TheVariants.{Open, Frame, Close, Update}
use Rattle.zk_transcript.specs.History.{first_place, when}
use Rattle.zk_transcript.specs.Legal.{Attachment}
use Rattle.zk_transcript.specs.Walks.{update_shown}
use denote.Ref.{Bor}
use Rattle.zk_history.specs.declared.firsts.Firsts.{Firsts}
use Rattle.zk_history.specs.declared.zxids.Zxids.{Zxids}

-- a connection and an index
abbrev pub Mark : Type 0
Mark = ℕ × ℕ

abbrev pub mark_order : Mark → Mark → Ordering
mark_order a b = ordering_then (nat_cmp a.0 b.0) (nat_cmp a.1 b.1)

abbrev pub nowhere : Option ℕ
nowhere = None

abbrev pub place_in : Firsts → ℕ → ℕ → Option ℕ
place_in f c i = tree.get mark_order f.places (c, i)

abbrev pub is_mark : Option Mark → ℕ → ℕ → Bool
is_mark None c i = false
is_mark (Some m) c i = (m.0 == c) && (m.1 == i)

-- the place that is kept: an earlier one, or else this one where the test holds
abbrev pub kept : Option ℕ → Bool → ℕ → Option ℕ
kept (Some k) is place = Some k
kept None is place = when is place

-- ---- the marks of a line

-- the marks of a connection's open, close and attachment have index 0, those of its frames and of the updates that carry out its
-- requests have the frame's index
abbrev pub open_mark : TranscriptLine → Option Mark
open_mark (Open c proxy id passwd layout) = Some (c, 0)
open_mark _ = None

abbrev pub frame_mark : TranscriptLine → Option Mark
frame_mark (Frame c i zxid bytes) = Some (c, i)
frame_mark _ = None

abbrev pub close_mark : TranscriptLine → Option Mark
close_mark (Close c end) = Some (c, 0)
close_mark _ = None

abbrev pub attach_mark_in : UpdateKind → Option Mark
attach_mark_in (NewSession id c) = Some (c, 0)
attach_mark_in (Attach id c) = Some (c, 0)
attach_mark_in _ = None

abbrev pub attach_mark : TranscriptLine → Option Mark
attach_mark (Update u) = attach_mark_in u.kind
attach_mark _ = None

abbrev pub own_mark_in : UpdateKind → Option Mark
own_mark_in (Asked c i now) = Some (c, i)
own_mark_in (Closed id c i) = Some (c, i)
own_mark_in _ = None

abbrev pub own_mark : TranscriptLine → Option Mark
own_mark (Update u) = own_mark_in u.kind
own_mark _ = None

-- the first line with a mark, and its place
abbrev pub first_marked : (TranscriptLine → Option Mark) → ℕ → ℕ → List TranscriptLine → Option (ℕ × TranscriptLine)
first_marked mark c i lines = first_place (λ l. when (is_mark (mark l) c i) l) 0 lines

-- f has the place of the first of these lines with each mark
abbrev pub AreFirsts : (TranscriptLine → Option Mark) → List TranscriptLine → Firsts → Type 0
AreFirsts mark lines f = (c i : ℕ) → place_in f c i ≡ option_map (λ (x : ℕ × TranscriptLine). x.0) (first_marked mark c i lines)

-- ---- the zxids of updates

abbrev pub update_zxid : TranscriptLine → Option ℤ
update_zxid (Update u) = Some u.zxid
update_zxid _ = None

abbrev pub is_zxid : Option ℤ → ℤ → Bool
is_zxid None z = false
is_zxid (Some y) z = int_eq y z

abbrev pub place_of : Zxids → ℤ → Option ℕ
place_of f z = tree.get int_cmp f.places z

-- f has the place of the first update among these lines with each zxid
abbrev pub AreUpdates : List TranscriptLine → Zxids → Type 0
AreUpdates lines f = (z : ℤ) → place_of f z ≡ option_map (λ (x : ℕ × ℤ). x.0) (first_place (update_shown z) 0 lines)

-- ---- what is read off at a place

abbrev pub attachment_of : ℤ × ℤ → Attachment
attachment_of a = record { zxid = a.0; session = a.1 }

abbrev pub placed_attachment : ℕ × (ℤ × ℤ) → ℕ × Attachment
placed_attachment x = (x.0, attachment_of x.1)

abbrev pub placed_bytes : ℕ × Bor (List ℕ) → ℕ × List ℕ
placed_bytes x = (x.0, x.1.now)
