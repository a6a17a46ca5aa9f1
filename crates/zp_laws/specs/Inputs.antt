-- An input that is true of the store and of the transcript.
use Rattle.std.specs.Prelude.{◌≡◌, ℕ, ℤ, pos, ◌+◌, ◌+ℤ◌, ◌≤◌, ◌<◌, ◌≤ℤ◌, Bool, true, false, List, length, Some, None, slice_get}
use Rattle.std.specs.Arc.{arc_value}
use Rattle.std.specs.Ordering.{int_eq}
use Rattle.ev_types.specs.Denials.{carry}
use Rattle.ev_types.specs.Store.{Store, present, store_at}
use Rattle.ev_types.specs.declared.answer.Answer.{Answer}
use Rattle.ev_types.specs.declared.answer.Answer.TheVariants as answer
use Rattle.ev_types.specs.declared.ask.Ask.{Ask}
use Rattle.zk_model.specs.Limits.{max_long}
use Rattle.zk_model.specs.Watches.{is_unarmed}
use Rattle.zk_model.specs.declared.request.Request.{Request}
use Rattle.zk_model.specs.declared.request.Request.TheVariants as req
use Rattle.zk_transcript.specs.History.{state_at}
use Rattle.zk_transcript.specs.Legal.{is_legal}
use Rattle.zk_transcript.specs.Walks.{Walker, own_update, placed_frame}
use Rattle.zk_transcript.specs.declared.transcript.TranscriptLine.{TranscriptLine}
use Rattle.zk_transcript.specs.declared.transcript.TranscriptLine.TheVariants.{Update}
use Rattle.zk_service.specs.declared.update.UpdateKind.{UpdateKind}
use Rattle.zk_service.specs.declared.update.UpdateKind.TheVariants as kinds
use Rattle.zk_service.specs.declared.update.UpdateRec.{UpdateRec}
use Rattle.zn_layout.specs.StandsFor.{StandsFor}
use Rattle.zn_layout.specs.declared.entry.Entry.{Entry}
use Rattle.zn_view.specs.Seen.{View}
use Rattle.zn_view.specs.declared.plan.Who.{Who}
use Rattle.zp_step.specs.Stages.{Core, Stage, Ready, Checking, Reading, Committing, Waiting, asked_of, max_count, is_served, next_frame}
use Rattle.zp_step.specs.declared.input.Input.{Input}
use Rattle.zp_step.specs.declared.input.Input.TheVariants as input
use Rattle.zp_laws.specs.Standing.{IsMoment, IsPastFrame, Stands}

-- ---- an entry

-- an entry is an update of the transcript
pub record IsEntryOfLines (lines : List TranscriptLine) (e : Entry) : Type 0 where
  pub place : ℕ
  pub update : UpdateRec
  pub shown : slice_get lines place ≡ Some (Update update)
  pub zxid : e.zxid ≡ update.zxid
  pub number : e.number ≡ pos (state_at lines (place + 1)).updates
  pub triggers : e.triggers ≡ (state_at lines (place + 1)).triggers

-- an attached connection takes entries while no ask is out
abbrev pub takes_entries : Stage → Bool
takes_entries Ready = true
takes_entries (Waiting p) = true
takes_entries _ = false

-- it is the next one, and is handed in where something is armed and entries are taken
pub record IsTrueEntry (lines : List TranscriptLine) (c : Core) (e : Entry) : Type 0 where
  pub of : IsEntryOfLines lines e
  pub next : e.number ≡ c.cursor +ℤ pos 1
  pub armed : is_unarmed c.watches ≡ false
  pub taken : takes_entries c.stage ≡ true

-- ---- an answer

-- s may be u at an earlier time: each revision of s has the same keys in u
pub record Precedes (s u : Store) : Type 0 where
  pub longer : length s.revisions ≤ length u.revisions
  pub same : (r : ℕ) → r ≤ length s.revisions → store_at u r ≡ store_at s r

-- an answer in this stage shows the keys as they were when it was given: it is no later round of a view, which is read at the
-- first one's revision
abbrev pub is_first : Stage → Bool
is_first (Checking bytes) = true
is_first (Reading xid r v ws) = int_eq v.revision (pos 0)
is_first (Committing xid r v p time) = true
is_first _ = false

-- the store's keys stood for the state at that moment
pub record StoodAt (store : Store) (lines : List TranscriptLine) (conn : ℕ) (who : Who) (w : Walker) (looked : ℕ) : Type 0 where
  pub stands : StandsFor (present store) (state_at lines looked)
  pub moment : IsMoment lines conn who w looked

-- the view's revision is one that the store `before` had
abbrev pub IsOfEarlier : View → Store → Type 0
IsOfEarlier v before = (r : ℕ) → v.revision ≡ pos r → r ≤ length before.revisions

abbrev pub IsOfEarlierIn : Stage → Store → Type 0
IsOfEarlierIn (Reading xid r v ws) before = IsOfEarlier v before
IsOfEarlierIn (Committing xid r v p time) before = IsOfEarlier v before
IsOfEarlierIn _ before = Unit {0}

-- the update of request i of c, planned at this time (in milliseconds)
abbrev pub kind_for : Request → ℤ → ℕ → ℕ → ℕ → UpdateKind
kind_for req.Close id c i now = kinds.Closed id c i
kind_for _ id c i now = kinds.Asked c i now

-- the request at work has its line, after its frame's and right before the moment; the store that carried it out stood for the
-- state before that line
pub record IsOwnLine (lines : List TranscriptLine) (conn : ℕ) (c : Core) (w : Walker) (before : Store) (request : Request) (time : ℕ) (revision : ℤ) (looked : ℕ) : Type 0 where
  pub place : ℕ
  pub update : UpdateRec
  pub line : own_update conn c.next lines ≡ Some (place, update)
  pub there : slice_get lines place ≡ Some (Update update)
  pub right : looked ≡ place + 1
  pub zxid : update.zxid ≡ revision
  pub kind : update.kind ≡ kind_for request c.who.session conn c.next time
  pub stood : StandsFor (present before) (state_at lines place)
  pub planned : IsMoment lines conn c.who w place
  pub asked : IsPastFrame lines conn c.next place

-- a plan that was carried out has its line; otherwise the request at work has none
abbrev pub IsOwn : List TranscriptLine → ℕ → Core → Walker → Store → ℕ → Stage → Answer → Type 0
IsOwn lines conn c w before looked (Committing xid r v p time) (answer.Txn revision true parts) = IsOwnLine lines conn c w before r time revision looked
IsOwn lines conn c w before looked stage a = own_update conn c.next lines ≡ None

-- the answer to what is out, which was carried out at an earlier time
pub record IsTrueAnswer (store : Store) (lines : List TranscriptLine) (conn : ℕ) (c : Core) (w : Walker) (looked : ℕ) (a : Answer) : Type 0 where
  pub asked : Ask
  pub out : asked_of c.who c.stage ≡ Some asked
  pub before : Store
  pub then_store : Store
  pub carried_out : carry before asked ≡ Some (then_store, a)
  pub begun : 1 ≤ length then_store.revisions
  pub was : Precedes before store
  pub is : Precedes then_store store
  pub earlier : IsOfEarlierIn c.stage before
  pub shown : is_first c.stage ≡ true → StoodAt then_store lines conn c.who w looked
  pub own : IsOwn lines conn c w before looked c.stage a

-- ---- any input

abbrev pub is_answer : Input → Bool
is_answer (input.Answer a) = true
is_answer _ = false

-- the frame is the next one that the transcript shows
pub record IsNextFrame (lines : List TranscriptLine) (conn : ℕ) (c : Core) (bytes : List ℕ) : Type 0 where
  pub place : ℕ
  pub framed : placed_frame conn (next_frame c) lines ≡ Some (place, bytes)
  pub small : next_frame c < max_count

abbrev pub IsTrueInput : Store → List TranscriptLine → ℕ → Core → Walker → ℕ → Input → Type 0
IsTrueInput store lines conn c w looked (input.Frame bytes) = IsNextFrame lines conn c bytes
IsTrueInput store lines conn c w looked (input.Answer a) = IsTrueAnswer store lines conn c w looked a
IsTrueInput store lines conn c w looked (input.Entry e) = IsTrueEntry lines c (arc_value e)
IsTrueInput store lines conn c w looked _ = Unit {0}

-- what is known where an input is handed to an attached core
pub record IsReady (store : Store) (lines : List TranscriptLine) (conn : ℕ) (c : Core) (w : Walker) (looked : ℕ) (x : Input) : Type 0 where
  pub legal : is_legal lines ≡ true
  pub least : pos 1 ≤ℤ c.who.session
  pub most : c.who.session ≤ℤ max_long
  pub rises : pos 1 ≤ℤ c.who.mine
  pub served : is_served c.stage ≡ true
  pub stands : Stands store lines conn c w looked
  pub true_input : IsTrueInput store lines conn c w looked x
