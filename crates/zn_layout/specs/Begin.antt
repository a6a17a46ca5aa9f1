-- The first transaction of a new store: the root, and the head of the first update.
use Rattle.std.specs.Prelude.{◌≡◌, ℕ, ℤ, pos, true, List, [], ◌∷◌, Some}
use Rattle.ev_types.specs.declared.answer.Kv.{Kv}
use Rattle.ev_types.specs.declared.ask.Ask.{Ask}
use Rattle.ev_types.specs.declared.ask.Ask.TheVariants as ask
use Rattle.ev_types.specs.declared.ask.Guard.{Guard}
use Rattle.ev_types.specs.declared.answer.ActAns.{ActAns}
use Rattle.ev_types.specs.declared.answer.ActAns.TheVariants as part
use Rattle.ev_types.specs.declared.answer.Answer.TheVariants as answer
use Rattle.ev_types.specs.Store.{Store, new_store, revision, present}
use Rattle.ev_types.specs.Denials.{carry}
use Rattle.ev_types.specs.Reads.{read_key, one_found}
use Rattle.zk_model.specs.Paths.{root}
use Rattle.zx_base.specs.Maps.{Bytes}
use Rattle.zn_layout.specs.declared.record.NodeRec.{NodeRec}
use Rattle.zn_layout.specs.declared.record.CountRec.{CountRec}
use Rattle.zn_layout.specs.Keys.{HeadKey, DataKey, CountsKey, key_bytes}
use Rattle.zn_layout.specs.StandsFor.{StandsFor}
use Rattle.zn_layout.specs.Changes.{KeyChange, put_key}
use Rattle.zn_layout.specs.Updates.{update_txn}
use Rattle.zn_layout.specs.Records.{node_value, counts_value, head_value}
use Rattle.zk_service.specs.States.{first_state}

-- the record of a new node. A czxid of 0 stands for the revision of the put
abbrev pub new_record : Bytes → ℕ → ℤ → NodeRec
new_record content now owner = record { czxid = pos 0; version = pos 0; ctime = pos now; mtime = pos now; owner = owner; content = content }

abbrev pub first_counts : CountRec
first_counts = record { creates = pos 0; children = pos 0 }

-- the root is made at this time, in milliseconds: it has no data and no children
abbrev pub begin_changes : ℕ → List KeyChange
begin_changes now = put_key (DataKey root) (node_value (new_record [] now (pos 0))) ∷ put_key (CountsKey root) (counts_value first_counts) ∷ []

abbrev pub head_is_absent : Guard
head_is_absent = record { key = key_bytes HeadKey; mod_revision = pos 0 }

-- where there is no head, the root and a head without triggers are put; otherwise the head is read
unfoldable pub begin_ask : ℕ → Ask
begin_ask now = ask.Txn (update_txn (head_is_absent ∷ []) (begin_changes now) [] (read_key (key_bytes HeadKey) ∷ []))

-- ---- what it does to a new store

-- the head that it puts
abbrev pub first_head : Kv
first_head = record { key = key_bytes HeadKey; value = head_value []; create_revision = pos 2; mod_revision = pos 2; version = pos 1; lease = pos 0 }

abbrev pub begin_parts : List ActAns
begin_parts = part.Put ∷ part.Put ∷ part.Put ∷ part.Range (one_found (Some first_head)) ∷ []

-- it isn't denied, succeeds at revision 2, answers the head that it put, and leaves keys that stand for the first state
pub record Begins (now : ℕ) : Type 0 where
  pub new : Store
  pub carried : carry new_store (begin_ask now) ≡ Some (new, answer.Txn (pos 2) true begin_parts)
  pub revision_is : revision new ≡ pos 2
  pub stands : StandsFor (present new) (first_state now)
