-- The entries that a connection takes: what the service tells of each update to those who watch (Programmer's Guide, "ZooKeeper
-- Watches"). Entry n is that of the n-th update.
use Rattle.std.specs.Prelude.{◌≡◌, ℕ, ℤ, pos, negsuc, ◌+ℤ◌, Bool, false, List, [], length, int_lt, Option, Some, None, slice_get}
use Rattle.std.specs.Option.{option_and_then}
use Rattle.ev_types.specs.declared.answer.Kv.{Kv}
use Rattle.ev_types.specs.Store.{mod_of}
use Rattle.zk_model.specs.declared.node.Trigger.{Trigger}
use Rattle.zn_layout.specs.Kept.{max_kept}
use Rattle.zn_layout.specs.declared.entry.Entry.{Entry}
use Rattle.zn_layout.specs.declared.record.HeadRec.{HeadRec}
use Rattle.zn_layout.specs.Reading.{IsReadAs, head_bytes, IsHeadWithin}
use Rattle.zp_step.specs.declared.wants.Wants.{Wants}
use Rattle.zp_step.specs.declared.wants.Wants.TheVariants as wants
use Rattle.zp_step.specs.Stages.{wants_of}
use Rattle.zp_script.specs.Worlds.{World, Conn, Actor, Connection, conn_at}

-- ---- the entry of an update, by the head that it left

-- the triggers that a head's value records; none where it is no record, which no update puts
abbrev pub triggers_of : Option HeadRec → List Trigger
triggers_of None = []
triggers_of (Some r) = r.triggers

abbrev pub AreTriggersOf : Option Kv → List Trigger → Type 0
AreTriggersOf None ts = ts ≡ []
AreTriggersOf (Some head) ts = (r : Option HeadRec) × IsReadAs head_bytes IsHeadWithin head.value r × (ts ≡ triggers_of r)

-- e is entry n, of the update that left this head
pub record IsEntryOf (n : ℕ) (head : Option Kv) (e : Entry) : Type 0 where
  pub number : e.number ≡ pos n
  pub zxid : e.zxid ≡ mod_of head
  pub triggers : AreTriggersOf head e.triggers

-- ---- what a connection may take

-- the cursor of a connection that waits for an entry
abbrev pub cursor_wanted : Wants → Option ℤ
cursor_wanted (wants.Entry cursor) = Some cursor
cursor_wanted (wants.FrameOrEntry cursor) = Some cursor
cursor_wanted _ = None

-- A reaper waits for none. In a run a connection waits for one where it is attached, has a watch armed and has no ask out.
abbrev pub cursor_of : Actor → Option ℤ
cursor_of (Connection core) = cursor_wanted (wants_of core)
cursor_of _ = None

-- the entry after the one of this number
abbrev pub entry_after : List Entry → ℤ → Option Entry
entry_after es (pos n) = slice_get es n
entry_after es (negsuc n) = None

abbrev pub cursor_at : ℕ → World → Option ℤ
cursor_at c w = option_and_then (λ (x : Conn). cursor_of x.actor) (conn_at c w)

abbrev pub next_entry : ℕ → World → Option Entry
next_entry c w = option_and_then (entry_after w.entries) (cursor_at c w)

-- how many of the newest entries are kept
abbrev pub max_kept_entries : ℕ
max_kept_entries = max_kept

-- more than so many come after the cursor
abbrev pub is_lagging_at : ℕ → Option ℤ → Bool
is_lagging_at last None = false
is_lagging_at last (Some cursor) = int_lt (cursor +ℤ pos max_kept_entries) (pos last)

abbrev pub is_lagging : ℕ → World → Bool
is_lagging c w = is_lagging_at (length w.entries) (cursor_at c w)
