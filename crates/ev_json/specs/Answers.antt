-- How answers and the lines of watches are read, a line for each member (etcd API reference: "KV", "Lease", "Watch").
use Rattle.std.specs.Prelude.{ℕ, ℤ, pos, List, [], ◌∷◌, Bool, true, false, int_lt, is_some, Option, Some, None, Result, Ok, Err, if◌then◌else◌, bytes_eq, codes}
use Rattle.std.specs.List.{flat_map}
use Rattle.std.specs.Option.{option_to_list}
use Rattle.serde_json.specs.Data.{Data, Items, no_items, item}
use Rattle.serde_json.specs.Find.{get, as_str}
use Rattle.ev_types.specs.declared.answer.Kv.{Kv}
use Rattle.ev_types.specs.declared.answer.RangeAns.{RangeAns}
use Rattle.ev_types.specs.declared.answer.ActAns.{ActAns}
use Rattle.ev_types.specs.declared.answer.ActAns.TheVariants as part
use Rattle.ev_types.specs.declared.answer.Answer.{Answer}
use Rattle.ev_types.specs.declared.answer.Answer.TheVariants as answer
use Rattle.ev_types.specs.declared.ask.Act.{Act}
use Rattle.ev_types.specs.declared.ask.Act.TheVariants as act
use Rattle.ev_types.specs.declared.ask.Guard.{Guard}
use Rattle.ev_types.specs.declared.ask.TxnReq.{TxnReq}
use Rattle.ev_types.specs.declared.ask.Ask.{Ask}
use Rattle.ev_types.specs.declared.ask.Ask.TheVariants as ask
use Rattle.ev_fields.specs.declared.field.Field.{Field}
use Rattle.ev_fields.specs.declared.field.Field.TheVariants as field
use Rattle.ev_json.specs.declared.line.Line.{Line}
use Rattle.ev_json.specs.declared.line.Line.TheVariants as line
use Rattle.ev_json.specs.declared.line.Event.{Event}
use Rattle.ev_fields.specs.Kinds.{◌>>=◌, known_or, message_of, member_of, count_in, lease_in, flag_in, bytes_in, needed_bytes, needed_count, message_in, without, items_in, list_in}

-- the revision in a message's header; both must be there
unfoldable pub revision_in : Data → Result ℤ Field
revision_in d = do
  header ← message_in field.Header d
  needed_count field.Revision header

unfoldable pub kv_in : Data → Result Kv Field
kv_in d = do
  create_revision ← count_in field.CreateRevision d
  key ← needed_bytes field.Key d
  lease ← lease_in field.Lease d
  mod_revision ← count_in field.ModRevision d
  value ← bytes_in field.Value d
  version ← count_in field.Version d
  Ok (record { key = key; value = value; create_revision = create_revision; mod_revision = mod_revision; version = version; lease = lease })

unfoldable pub found_in : Data → Result RangeAns Field
found_in d = do
  count ← count_in field.Count d
  kvs ← list_in kv_in field.Kvs d
  more ← flag_in field.More d
  Ok (record { kvs = kvs; more = more; count = count })

-- ---- answers to asks

unfoldable pub put_done_in : Data → Result ActAns Field
put_done_in d = do
  done ← message_in field.ResponsePut d
  no_delete ← without field.ResponseDeleteRange d
  no_range ← without field.ResponseRange d
  Ok part.Put

unfoldable pub deleted_in : Data → Result ActAns Field
deleted_in d = do
  delete ← message_in field.ResponseDeleteRange d
  deleted ← count_in field.Deleted delete
  no_put ← without field.ResponsePut d
  no_range ← without field.ResponseRange d
  Ok (part.Deleted deleted)

unfoldable pub range_part_in : Data → Result ActAns Field
range_part_in d = do
  range ← message_in field.ResponseRange d
  found ← found_in range
  no_put ← without field.ResponsePut d
  no_delete ← without field.ResponseDeleteRange d
  Ok (part.Range found)

-- the answer to one operation has that operation's member, and no other
unfoldable pub part_in : Act → Data → Result ActAns Field
part_in (act.Put key value lease) d = put_done_in d
part_in (act.Delete key) d = deleted_in d
part_in (act.Range r) d = range_part_in d

-- one answer for each operation of the list that was applied
unfoldable pub parts_in : List Act → Items → Result (List ActAns) Field
parts_in [] no_items = Ok []
parts_in [] (item d ds) = Err field.Responses
parts_in (a ∷ acts) no_items = Err field.Responses
parts_in (a ∷ acts) (item d ds) = do
  first ← part_in a d
  others ← parts_in acts ds
  Ok (first ∷ others)

-- Whether the guards held. Where there are none, they did: an empty compare always holds.
unfoldable pub held : List Guard → Bool → Result Bool Field
held [] false = Err field.Succeeded
held [] true = Ok true
held (guard ∷ guards) succeeded = Ok succeeded

unfoldable pub txn_answer_in : TxnReq → Data → Result Answer Field
txn_answer_in t d = do
  revision ← revision_in d
  succeeded ← flag_in field.Succeeded d
  responses ← items_in field.Responses d
  parts ← parts_in (if succeeded then t.success else t.failure) responses
  outcome ← held t.guards succeeded
  Ok (answer.Txn revision outcome parts)

unfoldable pub range_answer_in : Data → Result Answer Field
range_answer_in d = do
  revision ← revision_in d
  found ← found_in d
  Ok (answer.Range revision found)

unfoldable pub granted_in : Data → Result Answer Field
granted_in d = do
  id ← lease_in field.Id d
  ttl ← count_in field.Ttl d
  revision ← revision_in d
  Ok (answer.Granted revision id ttl)

unfoldable pub kept_in : Data → Result Answer Field
kept_in d = do
  id ← lease_in field.Id d
  ttl ← count_in field.Ttl d
  revision ← revision_in d
  Ok (answer.Alive revision id ttl)

-- a line of a stream has its message as its `result`, or is the message itself
unfoldable pub result_in : Data → Result Data Field
result_in d = known_or field.Result d message_of (member_of field.Result d)

unfoldable pub kept_alive_in : Data → Result Answer Field
kept_alive_in d = do
  message ← result_in d
  kept_in message

-- the answer to an ask
unfoldable pub answer_in : Ask → Data → Result Answer Field
answer_in (ask.Txn t) d = txn_answer_in t d
answer_in (ask.Range r) d = range_answer_in d
answer_in (ask.Grant id ttl) d = granted_in d
answer_in (ask.Alive id) d = kept_alive_in d

-- ---- the lines of a watch

-- whether the type of an event, which is to be DELETE or PUT, is that of a deletion
abbrev pub kind_named : Option (List ℕ) → Result Bool Field
kind_named None = Err field.Kind
kind_named (Some s) = if bytes_eq s (codes "DELETE") then Ok true else if bytes_eq s (codes "PUT") then Ok false else Err field.Kind

abbrev pub kind_or_put : Option Data → Result Bool Field
kind_or_put None = Ok false
kind_or_put (Some v) = kind_named (as_str v)

-- whether an event is a deletion; without a type it is a put
unfoldable pub deletion_in : Data → Result Bool Field
deletion_in d = kind_or_put (member_of field.Kind d)

-- the `kv` of an event must be there; where it isn't, the fault names the key
abbrev pub kv_needed : Option Data → Result Kv Field
kv_needed None = Err field.Key
kv_needed (Some v) = kv_in v

-- a put gives its key, and a deletion gives none; a deletion of the tree's head is a fault of the event's type
abbrev pub unless_head : Bool → Kv → Result Event Field
unless_head false kv = Ok (record { kv = Some kv })
unless_head true kv = if bytes_eq kv.key (codes "zk/head") then Err field.Kind else Ok (record { kv = None })

-- an event has a type and a `kv`, which is read in a deletion too
unfoldable pub event_in : Data → Result Event Field
event_in d = do
  deletion ← deletion_in d
  kv ← kv_needed (get (codes "kv") d)
  unless_head deletion kv

-- the puts among the events
abbrev pub puts_of : List Event → List Kv
puts_of events = flat_map (λ (e : Event). option_to_list e.kv) events

-- a canceled watch: where the number is above 0, the revisions below it were compacted
abbrev pub canceled_line : ℤ → Line
canceled_line rev = if int_lt (pos 0) rev then line.Compacted rev else line.Ended

-- a line of a watch that goes on: it says that the watch was created, or gives the puts of its events
unfoldable pub news_in : Data → Result Line Field
news_in d = do
  revision ← revision_in d
  created ← flag_in field.Created d
  events ← list_in event_in field.Events d
  Ok (if created then line.Created revision else line.Events revision (puts_of events))

-- a canceled line needs no header
unfoldable pub change_in : Data → Result Line Field
change_in d = do
  canceled ← flag_in field.Canceled d
  rev ← count_in field.CompactRevision d
  if canceled then Ok (canceled_line rev) else news_in d

-- a line with a member `error` ends the watch
unfoldable pub line_in : Data → Result Line Field
line_in d = if is_some (get (codes "error") d) then Ok line.Ended else (result_in d >>= change_in)
