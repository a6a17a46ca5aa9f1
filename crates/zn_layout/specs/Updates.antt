-- The transaction of an update: guards on what was looked up, the changes and the head, and the same look-up again where a
-- guard fails.
use Rattle.std.specs.Prelude.{◌≡◌, List, [], ◌∷◌, ◌++◌, map}
use Rattle.std.specs.FinMap.{get}
use Rattle.ev_types.specs.declared.ask.Act.{Act}
use Rattle.ev_types.specs.declared.ask.Ask.{Ask}
use Rattle.ev_types.specs.declared.ask.Ask.TheVariants as ask
use Rattle.ev_types.specs.declared.ask.Guard.{Guard}
use Rattle.ev_types.specs.declared.ask.TxnReq.{TxnReq}
use Rattle.ev_types.specs.Ranges.{Keys}
use Rattle.ev_types.specs.Reads.{read_key}
use Rattle.ev_types.specs.Store.{mod_of}
use Rattle.zk_model.specs.declared.node.Trigger.{Trigger}
use Rattle.zx_base.specs.Maps.{Bytes}
use Rattle.zn_layout.specs.Keys.{HeadKey, key_bytes}
use Rattle.zn_layout.specs.Changes.{KeyChange, update_acts}

-- the keys that a request looks up, and the head last
abbrev pub with_head_key : List Bytes → List Bytes
with_head_key keys = keys ++ key_bytes HeadKey ∷ []

abbrev pub reads_of : List Bytes → List Act
reads_of keys = map read_key (with_head_key keys)

-- the key's last put is the one that was seen; where nothing was seen the key is absent
abbrev pub guard_at : Keys → Bytes → Guard
guard_at seen k = record { key = k; mod_revision = mod_of (get seen k) }

-- a guard on each key that was looked up, but for the head
abbrev pub guards_at : Keys → List Bytes → List Guard
guards_at seen keys = map (guard_at seen) keys

-- the key was put last at the revision at which it was seen, or is absent as it was then
abbrev pub IsAsSeen : Keys → Keys → Bytes → Type 0
IsAsSeen now seen k = mod_of (get now k) ≡ mod_of (get seen k)

-- an update that was decided on what these keys had: where one of them changed since, it reads them all and the head again
abbrev pub update_ask : Keys → List Bytes → List Act → Ask
update_ask seen keys acts = ask.Txn (record { guards = guards_at seen keys; success = acts; failure = reads_of keys })

-- guards, an update's operations, and what is read where a guard doesn't hold
abbrev pub update_txn : List Guard → List KeyChange → List Trigger → List Act → TxnReq
update_txn guards cs ts again = record { guards = guards; success = update_acts cs ts; failure = again }
