-- etcd as a list of revisions (etcd API reference, "KV", "Lease"; "API guarantees": one revision for the whole store, which
-- each transaction that changes something raises by one).
use Rattle.std.specs.Prelude.{ℕ, ℤ, pos, nat_abs, ◌+◌, ◌+ℤ◌, Bool, List, [], ◌∷◌, ◌++◌, length, take, fold, if◌then◌else◌, Option, Some, None}
use Rattle.std.specs.List.{list_all}
use Rattle.std.specs.Ordering.{int_eq, int_cmp}
use Rattle.std.specs.FinMap.{FinMap, get, insert, remove, empty}
use Rattle.ev_types.specs.declared.answer.Kv.{Kv}
use Rattle.ev_types.specs.declared.answer.ActAns.{ActAns}
use Rattle.ev_types.specs.declared.answer.ActAns.TheVariants as part
use Rattle.ev_types.specs.declared.answer.Answer.{Answer}
use Rattle.ev_types.specs.declared.answer.Answer.TheVariants as answer
use Rattle.ev_types.specs.declared.ask.Guard.{Guard}
use Rattle.ev_types.specs.declared.ask.Act.{Act}
use Rattle.ev_types.specs.declared.ask.Act.TheVariants as act
use Rattle.ev_types.specs.declared.ask.TxnReq.{TxnReq}
use Rattle.ev_types.specs.declared.ask.Ask.{Ask}
use Rattle.ev_types.specs.declared.ask.Ask.TheVariants as ask
use Rattle.ev_types.specs.Ranges.{Keys, found}
use Rattle.zx_base.specs.Maps.{Bytes}

-- ---- the store

-- what a revision did to one key
pub data Change : Type 0 where
  Puts : (key value : Bytes) (lease : ℤ) → Change
  Removes : (key : Bytes) → Change

pub record Store : Type 0 where
  -- the changes of each revision, from revision 1 on
  pub revisions : List (List Change)
  -- the leases that are there, with their seconds
  pub leases : FinMap int_cmp ℤ
  -- the greatest revision that was compacted, 0 for none
  pub floor : ℤ

-- a new store stands at revision 1
abbrev pub new_store : Store
new_store = record { revisions = [] ∷ []; leases = empty; floor = pos 0 }

-- the present revision
abbrev pub revision : Store → ℤ
revision s = pos (length s.revisions)

-- the last revision that there can be
abbrev pub max_revisions : ℕ
max_revisions = 4611686018427387903

abbrev pub last_revision : ℤ
last_revision = pos max_revisions

-- ---- the keys at a revision

-- a key after a put at revision r over what it had
abbrev pub put_over : ℤ → Bytes → Bytes → ℤ → Option Kv → Kv
put_over r k v lease None = record { key = k; value = v; create_revision = r; mod_revision = r; version = pos 1; lease = lease }
put_over r k v lease (Some old) = record { key = k; value = v; create_revision = old.create_revision; mod_revision = r; version = old.version +ℤ pos 1; lease = lease }

-- the keys after one change at revision r
abbrev pub changed : ℤ → Keys → Change → Keys
changed r m (Puts k v lease) = insert m k (put_over r k v lease (get m k))
changed r m (Removes k) = remove m k

abbrev pub after_changes : ℤ → Keys → List Change → Keys
after_changes r m cs = fold (changed r) m cs

-- the keys after further revisions, of which the first has number r
abbrev pub keys_from : ℕ → Keys → List (List Change) → Keys
keys_from r m [] = m
keys_from r m (cs ∷ css) = keys_from (r + 1) (after_changes (pos r) m cs) css

-- the keys after the first r revisions
unfoldable pub store_at : Store → ℕ → Keys
store_at s r = keys_from 1 empty (take r s.revisions)

abbrev pub present : Store → Keys
present s = store_at s (length s.revisions)

-- the keys that a range looks at: those of the transaction so far, or those of the revision that it names
abbrev pub looked_at : Store → Keys → ℤ → Keys
looked_at s now r = if int_eq r (pos 0) then now else store_at s (nat_abs r)

-- ---- a transaction

-- the revision of a key's last put, 0 where it isn't there
abbrev pub mod_of : Option Kv → ℤ
mod_of None = pos 0
mod_of (Some kv) = kv.mod_revision

-- the guard's key was put last at the guard's revision, or is absent where that is 0
abbrev pub holds : Keys → Guard → Bool
holds m g = int_eq (mod_of (get m g.key)) g.mod_revision

-- all guards hold on the present keys
abbrev pub succeeds : Store → TxnReq → Bool
succeeds s t = list_all (holds (present s)) t.guards

abbrev pub chosen : Bool → TxnReq → List Act
chosen b t = if b then t.success else t.failure

-- what one operation changes, and what it answers, over the keys so far
pub record Done : Type 0 where
  pub changes : List Change
  pub parts : List ActAns

abbrev pub key_removal : Bytes → Option Kv → Done
key_removal k None = record { changes = []; parts = part.Deleted (pos 0) ∷ [] }
key_removal k (Some kv) = record { changes = Removes k ∷ []; parts = part.Deleted (pos 1) ∷ [] }

abbrev pub one_act : Store → Keys → Act → Done
one_act s m (act.Put k v lease) = record { changes = Puts k v lease ∷ []; parts = part.Put ∷ [] }
one_act s m (act.Delete k) = key_removal k (get m k)
one_act s m (act.Range q) = record { changes = []; parts = part.Range (found q (looked_at s m q.revision)) ∷ [] }

abbrev pub then_done : Done → Done → Done
then_done a b = record { changes = a.changes ++ b.changes; parts = a.parts ++ b.parts }

-- the operations of a list in order at revision r, each over what the earlier ones left
abbrev pub acts_from : Store → ℤ → Keys → List Act → Done
acts_from s r m [] = record { changes = []; parts = [] }
acts_from s r m (a ∷ acts) =
    let first = one_act s m a in
    then_done first (acts_from s r (after_changes r m first.changes) acts)

unfoldable pub worked : Store → List Act → Done
worked s acts = acts_from s (revision s +ℤ pos 1) (present s) acts

-- the store with one revision more, unless nothing changed
abbrev pub grown : Store → List Change → Store
grown s [] = s
grown s (c ∷ cs) = record s { revisions = s.revisions ++ (c ∷ cs) ∷ [] }

abbrev pub txn_answer : Store → Bool → Done → Store × Answer
txn_answer s succeeded w = (grown s w.changes, answer.Txn (revision (grown s w.changes)) succeeded w.parts)

unfoldable pub txn_done : Store → TxnReq → Store × Answer
txn_done s t = txn_answer s (succeeds s t) (worked s (chosen (succeeds s t) t))

-- ---- one ask that isn't denied

-- the seconds of a lease, 0 where it isn't there
abbrev pub seconds : Option ℤ → ℤ
seconds None = pos 0
seconds (Some ttl) = ttl

-- the store after the ask, and the answer
unfoldable pub carried_out : Store → Ask → Store × Answer
carried_out s (ask.Txn t) = txn_done s t
carried_out s (ask.Range q) = (s, answer.Range (revision s) (found q (looked_at s (present s) q.revision)))
carried_out s (ask.Grant id ttl) = (record s { leases = insert s.leases id ttl }, answer.Granted (revision s) id ttl)
carried_out s (ask.Alive id) = (s, answer.Alive (revision s) id (seconds (get s.leases id)))

-- ---- what a list of operations does to keys, apart from any store

abbrev pub act_changes : Act → List Change
act_changes (act.Put k v lease) = Puts k v lease ∷ []
act_changes (act.Delete k) = Removes k ∷ []
act_changes (act.Range q) = []

abbrev pub acts_applied : ℤ → Keys → List Act → Keys
acts_applied r m [] = m
acts_applied r m (a ∷ acts) = acts_applied r (after_changes r m (act_changes a)) acts
