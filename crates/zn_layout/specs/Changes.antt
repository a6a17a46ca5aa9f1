-- Changes of keys by one update, and the operations of a transaction that make them.
use Rattle.std.specs.Prelude.{ℕ, ◌+◌, ℤ, pos, Bool, true, not, ◌&&◌, cond, List, [], ◌∷◌, ◌++◌, length, map, Option, Some, None}
use Rattle.std.specs.List.{list_any, list_all}
use Rattle.ev_types.specs.declared.ask.Act.{Act}
use Rattle.ev_types.specs.declared.ask.Act.TheVariants as act
use Rattle.ev_types.specs.Denials.{lacks_lease}
use Rattle.ev_types.specs.Reads.{read_key}
use Rattle.ev_types.specs.Store.{Store}
use Rattle.zk_model.specs.declared.node.Trigger.{Trigger}
use Rattle.zx_base.specs.Maps.{Bytes}
use Rattle.zn_layout.specs.Keys.{Key, HeadKey, key_bytes, same_key}
use Rattle.zn_layout.specs.Records.{head_value}

-- a value and its lease, 0 for none
pub record Put : Type 0 where
  pub value : Bytes
  pub lease : ℤ

-- a key is put, or deleted where there is no put
pub record KeyChange : Type 0 where
  pub key : Key
  pub put : Option Put

-- a put without a lease
abbrev pub put_key : Key → Bytes → KeyChange
put_key k v = record { key = k; put = Some (record { value = v; lease = pos 0 }) }

abbrev pub delete_key : Key → KeyChange
delete_key k = record { key = k; put = None }

-- ---- as operations

abbrev pub act_at : Bytes → Option Put → Act
act_at key None = act.Delete key
act_at key (Some w) = act.Put key w.value w.lease

abbrev pub act_of : KeyChange → Act
act_of c = act_at (key_bytes c.key) c.put

abbrev pub acts_of : List KeyChange → List Act
acts_of cs = map act_of cs

-- the head, with what watches see of the update
abbrev pub head_put : List Trigger → KeyChange
head_put ts = put_key HeadKey (head_value ts)

-- an update's changes, and the head, which is put last and then read
abbrev pub update_acts : List KeyChange → List Trigger → List Act
update_acts cs ts = acts_of (cs ++ head_put ts ∷ []) ++ read_key (key_bytes HeadKey) ∷ []

-- ---- what a list of changes says of a key

abbrev pub put_or_else : Option (Option Put) → Option (Option Put) → Option (Option Put)
put_or_else None y = y
put_or_else (Some x) y = Some x

-- what the last change of a key does: a put or a delete; None where no change writes the key
abbrev pub last : List KeyChange → Key → Option (Option Put)
last [] k = None
last (c ∷ cs) k = put_or_else (last cs k) (cond (same_key k c.key) (Some c.put) None)

abbrev pub writes_key : Key → KeyChange → Bool
writes_key k c = same_key k c.key

-- no key is written twice
abbrev pub are_distinct : List KeyChange → Bool
are_distinct [] = true
are_distinct (c ∷ cs) = not (list_any (writes_key c.key) cs) && are_distinct cs

-- the lease of a put is 0, or one that the store has
abbrev pub has_its_lease : Store → Option Put → Bool
has_its_lease s None = true
has_its_lease s (Some w) = not (lacks_lease s w.lease)

abbrev pub have_leases : Store → List KeyChange → Bool
have_leases s cs = list_all (λ (c : KeyChange). has_its_lease s c.put) cs

-- ---- how large changes are

abbrev pub put_size : Option Put → ℕ
put_size None = 0
put_size (Some w) = length w.value

-- the bytes of the key and of the value
abbrev pub change_size : KeyChange → ℕ
change_size c = length (key_bytes c.key) + put_size c.put
