-- How asks are read, a line for each member (etcd API reference: "KV", "Lease", "Watch").
use Rattle.std.specs.Prelude.{ℕ, ℤ, List, Result, Ok, Err, if◌then◌else◌, codes}
use Rattle.serde_json.specs.Data.{Data}
use Rattle.ev_types.specs.declared.ask.RangeReq.{RangeReq}
use Rattle.ev_types.specs.declared.ask.Guard.{Guard}
use Rattle.ev_types.specs.declared.ask.Act.{Act}
use Rattle.ev_types.specs.declared.ask.Act.TheVariants as act
use Rattle.ev_types.specs.declared.ask.TxnReq.{TxnReq}
use Rattle.ev_types.specs.declared.ask.Ask.{Ask}
use Rattle.ev_types.specs.declared.ask.Ask.TheVariants as ask
use Rattle.ev_types.specs.declared.route.Route.{Route}
use Rattle.ev_types.specs.declared.route.Route.TheVariants as route
use Rattle.ev_fields.specs.declared.field.Field.{Field}
use Rattle.ev_fields.specs.declared.field.Field.TheVariants as field
use Rattle.ev_fields.specs.Kinds.{◌>>=◌, known, message_of, has, count_in, lease_in, flag_in, bytes_in, key_in, positive_count, positive_lease, word_in, word_or_none, message_in, without, list_in}

-- a compare: its target is MOD, and its result EQUAL or left out. It is of one key: etcd would compare a whole range where there is
-- a `range_end`
unfoldable pub guard_in : Data → Result Guard Field
guard_in d = do
  key ← key_in d
  mod_revision ← count_in field.ModRevision d
  no_end ← without field.RangeEnd d
  same ← word_or_none field.Result (codes "EQUAL") d
  right ← word_in field.Target (codes "MOD") d
  Ok (record { key = key; mod_revision = mod_revision })

unfoldable pub range_in : Data → Result RangeReq Field
range_in d = do
  key ← key_in d
  keys_only ← flag_in field.KeysOnly d
  limit ← count_in field.Limit d
  end ← bytes_in field.RangeEnd d
  revision ← count_in field.Revision d
  Ok (record { key = key; end = end; revision = revision; limit = limit; keys_only = keys_only })

unfoldable pub put_in : Data → Result Act Field
put_in d = do
  put ← message_in field.RequestPut d
  key ← key_in put
  lease ← lease_in field.Lease put
  value ← bytes_in field.Value put
  no_delete ← without field.RequestDeleteRange d
  no_range ← without field.RequestRange d
  Ok (act.Put key value lease)

-- a delete is of one key: etcd would delete a whole range where there is a `range_end`
unfoldable pub delete_in : Data → Result Act Field
delete_in d = do
  delete ← message_in field.RequestDeleteRange d
  key ← key_in delete
  no_end ← without field.RangeEnd delete
  no_range ← without field.RequestRange d
  Ok (act.Delete key)

unfoldable pub range_act_in : Data → Result Act Field
range_act_in d = do
  range ← message_in field.RequestRange d
  asked ← range_in range
  Ok (act.Range asked)

-- an operation has exactly one of its three members
unfoldable pub act_in : Data → Result Act Field
act_in d = if has field.RequestPut d then put_in d else if has field.RequestDeleteRange d then delete_in d else range_act_in d

-- where the body is not an object, the fault names its success list
unfoldable pub txn_in : Data → Result TxnReq Field
txn_in d = do
  object ← known field.Success (message_of d)
  guards ← list_in guard_in field.Compare d
  failure ← list_in act_in field.Failure d
  success ← list_in act_in field.Success d
  Ok (record { guards = guards; success = success; failure = failure })

unfoldable pub txn_ask_in : Data → Result Ask Field
txn_ask_in d = do
  txn ← txn_in d
  Ok (ask.Txn txn)

unfoldable pub range_ask_in : Data → Result Ask Field
range_ask_in d = do
  asked ← range_in d
  Ok (ask.Range asked)

unfoldable pub grant_in : Data → Result Ask Field
grant_in d = do
  id ← positive_lease field.Id d
  ttl ← positive_count field.Ttl d
  Ok (ask.Grant id ttl)

unfoldable pub alive_in : Data → Result Ask Field
alive_in d = do
  id ← positive_lease field.Id d
  Ok (ask.Alive id)

-- an ask by where it was posted to; a watch is read by `watch_in`
unfoldable pub ask_in : Route → Data → Result Ask Field
ask_in route.Txn d = txn_ask_in d
ask_in route.Range d = range_ask_in d
ask_in route.Grant d = grant_in d
ask_in route.Alive d = alive_in d
ask_in route.Watch d = Err field.CreateRequest

-- a request to watch one key: the revision to start at, and the key
unfoldable pub watch_in : Data → Result (ℤ × List ℕ) Field
watch_in d = do
  request ← message_in field.CreateRequest d
  key ← key_in request
  from ← positive_count field.StartRevision request
  Ok (from, key)
