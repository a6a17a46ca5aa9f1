-- What lines of a watch on the head add to a list: the entries of their heads, each once and in order (etcd API reference, "Watch").
use Rattle.std.specs.Prelude.{◌≡◌, ◌⊎◌, ℕ, ℤ, pos, ◌+ℤ◌, ◌≤ℤ◌, ◌<ℤ◌, ◌^◌, List, [], ◌∷◌, ◌++◌, fold, true, false, None, Result, Ok, Err}
use Rattle.std.specs.Int.{int_max}
use Rattle.ev_types.specs.declared.answer.Kv.{Kv}
use Rattle.ev_json.specs.Bodies.{reads_line}
use Rattle.ev_json.specs.declared.line.Line.{Line}
use Rattle.ev_json.specs.declared.line.Line.TheVariants as line
use Rattle.zn_layout.specs.declared.entry.Entry.{Entry}
use Rattle.zw_feed.specs.Following.{AreEntries, BreaksAt, FollowerState, heads_in}
use Rattle.zw_feed.specs.declared.fault.FeedFault.{FeedFault}
use Rattle.zw_feed.specs.declared.fault.FeedFault.TheVariants as fault
use Rattle.ev_faults.specs.declared.fault.Fault.{Fault}
use Rattle.zw_hub.specs.Ends.{IsProper}
use Rattle.zw_hub.specs.Lists.{last_number}
use Rattle.zw_hub.specs.declared.feed.FeedEnd.{FeedEnd}
use Rattle.zw_hub.specs.declared.feed.FeedEnd.TheVariants as ends
use Rattle.zw_hub.specs.declared.published.Published.{Published}
use Rattle.zx_base.specs.declared.memory.Memory.{Memory}
use Rattle.zw_follow.specs.declared.place.Place.{Place}
use Rattle.zw_follow.specs.declared.stream.StreamEnd.{StreamEnd}
use Rattle.zw_follow.specs.declared.stream.StreamEnd.TheVariants as stream

-- ---- lists that grow

-- entries whose numbers follow this one, and whose zxids are revisions of an etcd: from 0 to below 2 ^ 62
abbrev pub IsRun : ℤ → List Entry → Type 0
IsRun n [] = Unit {0}
IsRun n (e ∷ es) = (e.number ≡ n +ℤ pos 1) × (pos 0 ≤ℤ e.zxid) × (e.zxid <ℤ pos (2 ^ 62)) × IsRun (n +ℤ pos 1) es

-- the list with these entries after its own
abbrev pub with_entries : Published → List Entry → Published
with_entries list es = record list { entries = list.entries ++ es }

-- the zxids of these entries, which are their revisions
abbrev pub zxids : List Entry → List ℤ
zxids [] = []
zxids (e ∷ es) = e.zxid ∷ zxids es

-- The list grew by the entries of these heads, one for each head and with consecutive numbers, up to those heads that are left.
pub record Publishes (heads : List Kv) (entries : List Entry) (left : List Kv) (before after : Published) : Type 0 where
  pub taken : List Kv
  pub split : heads ≡ taken ++ left
  pub gives : AreEntries (last_number before) taken entries
  pub grown : after ≡ with_entries before entries

-- ---- lines

-- a line as it stands in a stream, and what it says
pub record Said : Type 0 where
  pub text : List ℕ
  pub line : Line
  pub read : reads_line text line

-- the heads in these lines, in order
abbrev pub heads_of : List Said → List Kv
heads_of [] = []
heads_of (s ∷ said) = heads_in s.line ++ heads_of said

-- ---- how far all was told

-- the greatest of this revision and those
abbrev pub greatest : ℤ → List ℤ → ℤ
greatest revision others = fold int_max revision others

-- A line in which no key was put says that everything up to its revision was told (etcd API reference, "WatchCreateRequest",
-- `progress_notify`). One with puts says nothing of the kind: its revision may be above theirs. (A line of deletions alone counts as
-- one without puts; a deletion of the head cannot be read.)
abbrev pub told_by : Line → List ℤ
told_by (line.Events revision []) = revision ∷ []
told_by _ = []

-- the revisions up to which these lines say so
abbrev pub told_in : List Said → List ℤ
told_in [] = []
told_in (s ∷ said) = told_by s.line ++ told_in said

-- The revision up to which everything was told, after these lines, of which these entries were published. Before them it was this one, and
-- it never goes back.
abbrev pub told_after : ℤ → List Said → List Entry → ℤ
told_after revision said es = greatest revision (told_in said ++ zxids es)

-- ---- members that are behind

-- The line says that the watch was created by a member that is at a revision below this one, up to which everything was told: the member
-- has forgotten updates, or does not have them yet.
abbrev pub IsBehind : ℤ → Line → Type 0
IsBehind told (line.Created revision) = revision <ℤ told
IsBehind told _ = ⊥

-- the line does not say so
abbrev pub IsNotBehind : ℤ → Line → Type 0
IsNotBehind told (line.Created revision) = told ≤ℤ revision
IsNotBehind told _ = Unit {0}

-- ---- ends

-- What shows an end: a line says that revisions were compacted, or the first head in it that does not go on from the list is a gap or
-- no record. Running out of memory is shown by nothing.
abbrev pub IsShown : Published → FeedEnd → Line → Type 0
IsShown list (ends.Compacted rev) l = l ≡ line.Compacted rev
IsShown list (ends.Gap expected found) l = BreaksAt (last_number list) (heads_in l) (fault.Gap expected found)
IsShown list (ends.Damaged key value) l = BreaksAt (last_number list) (heads_in l) (fault.Damaged key value)
IsShown list ends.NoLine l = ⊥
IsShown list ends.Memory l = Unit {0}

-- The last of the lines shows the end, and its heads alone are left. Running out of memory leaves any heads, and is shown by nothing.
abbrev pub Explains : FeedEnd → Published → List Said → List Kv → Type 0
Explains ends.Memory list said left = Unit {0}
Explains end list said left = (earlier : List Said) × (last : Said) × (said ≡ earlier ++ last ∷ []) × (left ≡ heads_in last.line) × IsShown list end last.line

-- ---- where the worker stands

-- the place is the end of the list, which is open; its number and its revision are from 0 to below 2 ^ 62
pub record IsPlaced (list : Published) (place : Place) : Type 0 where
  pub is_open : list.end ≡ None
  pub placed : place.number ≡ last_number list
  pub least : pos 0 ≤ℤ place.number
  pub most : place.number <ℤ pos (2 ^ 62)
  pub revision_least : pos 0 ≤ℤ place.revision
  pub revision_most : place.revision <ℤ pos (2 ^ 62)

-- the follower stands there too, between two lines
pub record Stands (list : Published) (follower : FollowerState) (place : Place) : Type 0 where
  pub placed : IsPlaced list place
  pub follows : follower ≡ record { number = place.number; fault = None }

-- ---- one line, for clauses of private functions

-- What a line of a watch comes to that was asked for after this revision: what it adds to the list, and up to which revision all was told
-- before it and after it.
abbrev pub TakesLine : Result (Unit {0}) StreamEnd → Line → ℤ → Published → Published → ℤ → ℤ → Type 0
TakesLine (Ok _) l asked before after told told' = IsNotBehind asked l × (es : List Entry) × Publishes (heads_in l) es [] before after × (told' ≡ greatest told (told_by l ++ zxids es))
TakesLine (Err (stream.Closes ends.Memory)) l asked before after told told' =
    IsNotBehind asked l × (es : List Entry) × (left : List Kv) × Publishes (heads_in l) es left before after × (told' ≡ greatest told (told_by l ++ zxids es))
TakesLine (Err (stream.Closes end)) l asked before after told told' = IsNotBehind asked l × (after ≡ before) × (told' ≡ greatest told (told_by l)) × IsProper end × IsShown before end l
TakesLine (Err (stream.Over why barren)) l asked before after told told' =
    (after ≡ before) × (told' ≡ told) × (((l ≡ line.Ended) × (barren ≡ false)) ⊎ (IsBehind asked l × (barren ≡ true)))
TakesLine (Err stream.Stopped) l asked before after told told' = ⊥

-- what a fault of the follower means for its stream
abbrev pub Means : FeedFault → StreamEnd → Type 0
Means fault.Ended end = (why : Fault) × (end ≡ stream.Over why false)
Means (fault.Compacted rev) end = end ≡ stream.Closes (ends.Compacted rev)
Means (fault.Gap expected found) end = end ≡ stream.Closes (ends.Gap expected found)
Means (fault.Damaged key value) end = end ≡ stream.Closes (ends.Damaged key value)
Means fault.Memory end = end ≡ stream.Closes ends.Memory

-- the first of these entries are published, and the queue is left; the place is the end of the list
pub record IsPublishing (all queue : List Entry) (before now : Published) (told : ℤ) (place : Place) : Type 0 where
  pub done : List Entry
  pub split : all ≡ done ++ queue
  pub grown : now ≡ with_entries before done
  pub is_open : now.end ≡ None
  pub run : IsRun (last_number now) queue
  pub placed : place.number ≡ last_number now
  pub told_is : place.revision ≡ greatest told (zxids done)
  pub revision_least : pos 0 ≤ℤ place.revision
  pub revision_most : place.revision <ℤ pos (2 ^ 62)

-- what the publishing of entries comes to: the place is the end of the list, or, where memory was refused, some of them are published
abbrev pub PublishesAll : Result (Unit {0}) Memory → List Entry → Published → Published → Place → Place → Type 0
PublishesAll (Ok _) es before after place place' = IsPublishing es [] before after place.revision place'
PublishesAll (Err _) es before after place place' = (front : List Entry) × (rest : List Entry) × (es ≡ front ++ rest)
    × (after ≡ with_entries before front) × (place'.revision ≡ greatest place.revision (zxids front))
