-- The messages of etcd's JSON gateway as they are written, member by member in the order of their names (etcd API reference:
-- "KV", "Lease", "Watch"). Each message has one text: compact, without blanks.
use Rattle.std.specs.Prelude.{true, ℕ, ℤ, List, ◌++◌, ◌==◌, length, map, Bool, codes}
use Rattle.serde_json.specs.Data.{Data}
use Rattle.serde_json.specs.Written.{compact_text}
use Rattle.ev_types.specs.declared.answer.Kv.{Kv}
use Rattle.ev_types.specs.declared.answer.RangeAns.{RangeAns}
use Rattle.ev_types.specs.declared.answer.ActAns.{ActAns}
use Rattle.ev_types.specs.declared.answer.ActAns.TheVariants as part
use Rattle.ev_types.specs.declared.answer.Answer.{Answer}
use Rattle.ev_types.specs.declared.answer.Answer.TheVariants as answer
use Rattle.ev_types.specs.declared.ask.RangeReq.{RangeReq}
use Rattle.ev_types.specs.declared.ask.Guard.{Guard}
use Rattle.ev_types.specs.declared.ask.Act.{Act}
use Rattle.ev_types.specs.declared.ask.Act.TheVariants as act
use Rattle.ev_types.specs.declared.ask.TxnReq.{TxnReq}
use Rattle.ev_types.specs.declared.ask.Ask.{Ask}
use Rattle.ev_types.specs.declared.ask.Ask.TheVariants as ask
use Rattle.ev_types.specs.declared.route.Route.{Route}
use Rattle.ev_types.specs.declared.route.Route.TheVariants as route
use Rattle.ev_fields.specs.declared.field.Field.TheVariants as field
use Rattle.ev_fields.specs.Members.{none, object_of, given, number, number_if, bytes, bytes_if, true_if, text, list_if, kv_member}

-- ---- asks

-- a compare: target MOD, result EQUAL
unfoldable pub guard_data : Guard → Data
guard_data g = object_of (none
    ++ bytes field.Key g.key
    ++ number field.ModRevision g.mod_revision
    ++ text field.Result (codes "EQUAL")
    ++ text field.Target (codes "MOD"))

unfoldable pub range_data : RangeReq → Data
range_data r = object_of (none
    ++ bytes field.Key r.key
    ++ true_if field.KeysOnly r.keys_only
    ++ number_if field.Limit r.limit
    ++ bytes_if field.RangeEnd r.end
    ++ number_if field.Revision r.revision)

unfoldable pub put_data : List ℕ → List ℕ → ℤ → Data
put_data key value lease = object_of (none
    ++ bytes field.Key key
    ++ number_if field.Lease lease
    ++ bytes field.Value value)

unfoldable pub delete_data : List ℕ → Data
delete_data key = object_of (none ++ bytes field.Key key)

-- an operation has one of three members
unfoldable pub act_data : Act → Data
act_data (act.Put key value lease) = object_of (none ++ given field.RequestPut (put_data key value lease))
act_data (act.Delete key) = object_of (none ++ given field.RequestDeleteRange (delete_data key))
act_data (act.Range r) = object_of (none ++ given field.RequestRange (range_data r))

unfoldable pub txn_data : TxnReq → Data
txn_data t = object_of (none
    ++ list_if field.Compare (map guard_data t.guards)
    ++ list_if field.Failure (map act_data t.failure)
    ++ list_if field.Success (map act_data t.success))

unfoldable pub ask_data : Ask → Data
ask_data (ask.Txn t) = txn_data t
ask_data (ask.Range r) = range_data r
ask_data (ask.Grant id ttl) = object_of (none ++ number field.Id id ++ number field.Ttl ttl)
ask_data (ask.Alive id) = object_of (none ++ number field.Id id)

-- where an ask is posted to
unfoldable pub route_of : Ask → Route
route_of (ask.Txn t) = route.Txn
route_of (ask.Range r) = route.Range
route_of (ask.Grant id ttl) = route.Grant
route_of (ask.Alive id) = route.Alive

-- the one text of an ask
unfoldable pub ask_text : Ask → List ℕ
ask_text a = compact_text (ask_data a)

-- ---- answers

unfoldable pub header_data : ℤ → Data
header_data revision = object_of (none ++ number field.Revision revision)

unfoldable pub kv_data : Kv → Data
kv_data kv = object_of (none
    ++ number_if field.CreateRevision kv.create_revision
    ++ bytes field.Key kv.key
    ++ number_if field.Lease kv.lease
    ++ number_if field.ModRevision kv.mod_revision
    ++ bytes_if field.Value kv.value
    ++ number_if field.Version kv.version)

unfoldable pub found_data : RangeAns → Data
found_data found = object_of (none
    ++ number_if field.Count found.count
    ++ list_if field.Kvs (map kv_data found.kvs)
    ++ true_if field.More found.more)

unfoldable pub deleted_data : ℤ → Data
deleted_data n = object_of (none ++ number_if field.Deleted n)

-- the answer to an operation has one of three members
unfoldable pub part_data : ActAns → Data
part_data part.Put = object_of (none ++ given field.ResponsePut (object_of none))
part_data (part.Deleted n) = object_of (none ++ given field.ResponseDeleteRange (deleted_data n))
part_data (part.Range found) = object_of (none ++ given field.ResponseRange (found_data found))

unfoldable pub txn_answer_data : ℤ → List ActAns → Bool → Data
txn_answer_data revision parts succeeded = object_of (none
    ++ given field.Header (header_data revision)
    ++ list_if field.Responses (map part_data parts)
    ++ true_if field.Succeeded succeeded)

unfoldable pub range_answer_data : ℤ → RangeAns → Data
range_answer_data revision found = object_of (none
    ++ number_if field.Count found.count
    ++ given field.Header (header_data revision)
    ++ list_if field.Kvs (map kv_data found.kvs)
    ++ true_if field.More found.more)

unfoldable pub granted_data : ℤ → ℤ → ℤ → Data
granted_data revision id ttl = object_of (none
    ++ number field.Id id
    ++ number field.Ttl ttl
    ++ given field.Header (header_data revision))

unfoldable pub alive_data : ℤ → ℤ → ℤ → Data
alive_data revision id ttl = object_of (none
    ++ number field.Id id
    ++ number_if field.Ttl ttl
    ++ given field.Header (header_data revision))

-- the answer to a keepalive is one message of a stream, and so stands as its `result`
unfoldable pub answer_data : Answer → Data
answer_data (answer.Txn revision succeeded parts) = txn_answer_data revision parts succeeded
answer_data (answer.Range revision found) = range_answer_data revision found
answer_data (answer.Granted revision id ttl) = granted_data revision id ttl
answer_data (answer.Alive revision id ttl) = object_of (none ++ given field.Result (alive_data revision id ttl))

-- the one text of an answer
unfoldable pub answer_text : Answer → List ℕ
answer_text a = compact_text (answer_data a)

-- ---- watches

-- the member may split a change into several lines, and tells of progress where no key changes
unfoldable pub create_data : ℤ → List ℕ → Data
create_data from key = object_of (none
    ++ true_if field.Fragment true
    ++ bytes field.Key key
    ++ true_if field.ProgressNotify true
    ++ number field.StartRevision from)

unfoldable pub watch_data : ℤ → List ℕ → Data
watch_data from key = object_of (none ++ given field.CreateRequest (create_data from key))

-- the one text of a request to watch one key from a revision on
unfoldable pub watch_text : ℤ → List ℕ → List ℕ
watch_text from key = compact_text (watch_data from key)

unfoldable pub event_data : Kv → Data
event_data kv = object_of (none ++ kv_member (kv_data kv))

-- a line without puts is the one that says that the watch was created
unfoldable pub change_data : List Kv → ℤ → Data
change_data events revision = object_of (none
    ++ true_if field.Created (length events == 0)
    ++ list_if field.Events (map event_data events)
    ++ given field.Header (header_data revision))

unfoldable pub line_data : List Kv → ℤ → Data
line_data events revision = object_of (none ++ given field.Result (change_data events revision))

-- the one text of a watch's line, without its line feed
unfoldable pub line_text : List Kv → ℤ → List ℕ
line_text events revision = compact_text (line_data events revision)

-- a watch is canceled, since the revisions below this one were compacted
unfoldable pub cancel_data : ℤ → ℤ → Data
cancel_data compacted revision = object_of (none
    ++ true_if field.Canceled true
    ++ number field.CompactRevision compacted
    ++ given field.Header (header_data revision))

unfoldable pub canceled_data : ℤ → ℤ → Data
canceled_data compacted revision = object_of (none ++ given field.Result (cancel_data compacted revision))

-- the one text of the line that cancels a watch, without its line feed
unfoldable pub canceled_text : ℤ → ℤ → List ℕ
canceled_text compacted revision = compact_text (canceled_data compacted revision)
