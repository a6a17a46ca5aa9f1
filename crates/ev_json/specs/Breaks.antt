-- Which members of a message break its rules: one that is missing, of another kind, out of range, or there where it must not
-- be. A message may break several at once; nothing here says which of them a reading names.
use Rattle.std.specs.Prelude.{◌≡◌, ◌⊎◌, Bool, true, false, List, [], ◌∷◌, Option, Some, None, option_and_then, Ok, Err, if◌then◌else◌, codes, bytes_eq}
use Rattle.serde_json.specs.Data.{Data, Items, no_items, item}
use Rattle.serde_json.specs.Find.{get, as_bool, as_array}
use Rattle.ev_types.specs.declared.answer.Kv.{Kv}
use Rattle.ev_types.specs.declared.ask.Act.{Act}
use Rattle.ev_types.specs.declared.ask.Act.TheVariants as act
use Rattle.ev_types.specs.declared.ask.Ask.{Ask}
use Rattle.ev_types.specs.declared.ask.Ask.TheVariants as ask
use Rattle.ev_types.specs.declared.ask.Guard.{Guard}
use Rattle.ev_types.specs.declared.ask.TxnReq.{TxnReq}
use Rattle.ev_types.specs.declared.route.Route.{Route}
use Rattle.ev_types.specs.declared.route.Route.TheVariants as route
use Rattle.ev_fields.specs.declared.field.Field.{Field}
use Rattle.ev_fields.specs.declared.field.Field.TheVariants as field
use Rattle.ev_json.specs.Answers.{kv_in, deletion_in, result_in}
use Rattle.ev_fields.specs.Kinds.{member_of, has, count_of, lease_of, from_one, bytes_of, some_byte, word_of, message_of, flag_in, items_in}

-- the member g is there, and is not of this kind
abbrev pub Wrong : {A : Type 0} → (Data → Option A) → Field → Field → Data → Type 0
Wrong kind g f d = (f ≡ g) × (v : Data) × (member_of g d ≡ Some v) × (kind v ≡ None)

-- the member g is missing, or is not of this kind
abbrev pub Lacks : {A : Type 0} → (Data → Option A) → Field → Field → Data → Type 0
Lacks kind g f d = (f ≡ g) × (option_and_then kind (member_of g d) ≡ None)

-- the member g is there, and must not be
abbrev pub Excess : Field → Field → Data → Type 0
Excess g f d = (f ≡ g) × (has g d ≡ true)

-- one of the items is broken
abbrev pub AnyItem : (Data → Type 0) → Items → Type 0
AnyItem broken no_items = ⊥
AnyItem broken (item d ds) = broken d ⊎ AnyItem broken ds

-- the member g is there and is no list, or is a list with an item that breaks its rules
abbrev pub InList : (Field → Data → Type 0) → Field → Field → Data → Type 0
InList breaks g f d = Wrong as_array g f d ⊎ ((v : Data) × (ds : Items) × (member_of g d ≡ Some v) × (as_array v ≡ Some ds) × AnyItem (breaks f) ds)

-- the member g is missing or no object, or the message that it is breaks its rules
abbrev pub InMessage : (Field → Data → Type 0) → Field → Field → Data → Type 0
InMessage breaks g f d = Lacks message_of g f d ⊎ ((v : Data) × (member_of g d ≡ Some v) × breaks f v)

-- ---- asks

abbrev pub KeyBreaks : Field → Data → Type 0
KeyBreaks f d = Lacks (λ v. some_byte (bytes_of v)) field.Key f d

unfoldable pub GuardBreaks : Field → Data → Type 0
GuardBreaks f d = KeyBreaks f d
    ⊎ (Wrong count_of field.ModRevision f d
    ⊎ (Excess field.RangeEnd f d ⊎ (Wrong (word_of (codes "EQUAL")) field.Result f d ⊎ Lacks (word_of (codes "MOD")) field.Target f d)))

unfoldable pub RangeBreaks : Field → Data → Type 0
RangeBreaks f d = KeyBreaks f d ⊎ (Wrong as_bool field.KeysOnly f d ⊎ (Wrong count_of field.Limit f d ⊎ (Wrong bytes_of field.RangeEnd f d ⊎ Wrong count_of field.Revision f d)))

unfoldable pub PutBreaks : Field → Data → Type 0
PutBreaks f d = KeyBreaks f d ⊎ (Wrong lease_of field.Lease f d ⊎ Wrong bytes_of field.Value f d)

unfoldable pub DeleteBreaks : Field → Data → Type 0
DeleteBreaks f d = KeyBreaks f d ⊎ Excess field.RangeEnd f d

-- both members are there, where only one may be; the second is named
abbrev pub Beside : Field → Field → Field → Data → Type 0
Beside h g f d = (f ≡ g) × (has h d ≡ true) × (has g d ≡ true)

-- the member g is there, and its message breaks its rules
abbrev pub InGiven : (Field → Data → Type 0) → Field → Field → Data → Type 0
InGiven breaks g f d = (has g d ≡ true) × InMessage breaks g f d

-- an operation has none of its three members; the range is named
abbrev pub NoneOfThree : Field → Data → Type 0
NoneOfThree f d = (f ≡ field.RequestRange) × (has field.RequestPut d ≡ false) × (has field.RequestDeleteRange d ≡ false) × (has field.RequestRange d ≡ false)

-- an operation has two of its three members
abbrev pub TwoOfThree : Field → Data → Type 0
TwoOfThree f d = Beside field.RequestPut field.RequestDeleteRange f d ⊎ (Beside field.RequestPut field.RequestRange f d ⊎ Beside field.RequestDeleteRange field.RequestRange f d)

-- an operation has none or two of its three members, or the one that it has breaks its rules
unfoldable pub ActBreaks : Field → Data → Type 0
ActBreaks f d = InGiven PutBreaks field.RequestPut f d ⊎ (InGiven DeleteBreaks field.RequestDeleteRange f d ⊎ (InGiven RangeBreaks field.RequestRange f d ⊎ (NoneOfThree f d ⊎ TwoOfThree f d)))

-- the body is no object, for which its success list is named; or one of the three lists breaks its rules
unfoldable pub TxnBreaks : Field → Data → Type 0
TxnBreaks f d = ((f ≡ field.Success) × (message_of d ≡ None)) ⊎ (InList GuardBreaks field.Compare f d ⊎ (InList ActBreaks field.Failure f d ⊎ InList ActBreaks field.Success f d))

unfoldable pub GrantBreaks : Field → Data → Type 0
GrantBreaks f d = Lacks (λ v. from_one (lease_of v)) field.Id f d ⊎ Lacks (λ v. from_one (count_of v)) field.Ttl f d

-- a request to watch is no ask
unfoldable pub AskBreaks : Route → Field → Data → Type 0
AskBreaks route.Txn f d = TxnBreaks f d
AskBreaks route.Range f d = RangeBreaks f d
AskBreaks route.Grant f d = GrantBreaks f d
AskBreaks route.Alive f d = Lacks (λ v. from_one (lease_of v)) field.Id f d
AskBreaks route.Watch f d = f ≡ field.CreateRequest

abbrev pub CreateBreaks : Field → Data → Type 0
CreateBreaks f d = KeyBreaks f d ⊎ Lacks (λ v. from_one (count_of v)) field.StartRevision f d

unfoldable pub WatchBreaks : Field → Data → Type 0
WatchBreaks f d = InMessage CreateBreaks field.CreateRequest f d

-- ---- answers

abbrev pub HeaderBreaks : Field → Data → Type 0
HeaderBreaks f d = InMessage (Lacks count_of field.Revision) field.Header f d

unfoldable pub KvBreaks : Field → Data → Type 0
KvBreaks f d =
    Wrong count_of field.CreateRevision f d
    ⊎ (Lacks bytes_of field.Key f d
    ⊎ (Wrong lease_of field.Lease f d
    ⊎ (Wrong count_of field.ModRevision f d ⊎ (Wrong bytes_of field.Value f d ⊎ Wrong count_of field.Version f d))))

unfoldable pub FoundBreaks : Field → Data → Type 0
FoundBreaks f d = Wrong count_of field.Count f d ⊎ (InList KvBreaks field.Kvs f d ⊎ Wrong as_bool field.More f d)

-- in the answer to an operation, the operation's own member is missing or breaks its rules, or another one is there too
unfoldable pub PartBreaks : Act → Field → Data → Type 0
PartBreaks (act.Put key value lease) f d = Lacks message_of field.ResponsePut f d ⊎ (Excess field.ResponseDeleteRange f d ⊎ Excess field.ResponseRange f d)
PartBreaks (act.Delete key) f d = InMessage (Wrong count_of field.Deleted) field.ResponseDeleteRange f d ⊎ (Excess field.ResponsePut f d ⊎ Excess field.ResponseRange f d)
PartBreaks (act.Range r) f d = InMessage FoundBreaks field.ResponseRange f d ⊎ (Excess field.ResponsePut f d ⊎ Excess field.ResponseDeleteRange f d)

-- more answers or fewer than operations, or an answer that breaks its rules
unfoldable pub PartsBreak : List Act → Field → Items → Type 0
PartsBreak [] f no_items = ⊥
PartsBreak [] f (item d ds) = f ≡ field.Responses
PartsBreak (a ∷ acts) f no_items = f ≡ field.Responses
PartsBreak (a ∷ acts) f (item d ds) = PartBreaks a f d ⊎ PartsBreak acts f ds

-- the responses are no list, or their items do not answer the list that was applied; an absent list has no items
abbrev pub ResponsesBreak : TxnReq → Field → Data → Type 0
ResponsesBreak t f d = Wrong as_array field.Responses f d
    ⊎ ((succeeded : Bool) × (ds : Items) × (flag_in field.Succeeded d ≡ Ok succeeded) × (items_in field.Responses d ≡ Ok ds)
    × PartsBreak (if succeeded then t.success else t.failure) f ds)

-- there are no guards, and yet they are said to have failed
abbrev pub FailedUnguarded : List Guard → Field → Data → Type 0
FailedUnguarded guards f d = (f ≡ field.Succeeded) × (guards ≡ []) × (flag_in field.Succeeded d ≡ Ok false)

unfoldable pub TxnAnswerBreaks : TxnReq → Field → Data → Type 0
TxnAnswerBreaks t f d = HeaderBreaks f d ⊎ (Wrong as_bool field.Succeeded f d ⊎ (ResponsesBreak t f d ⊎ FailedUnguarded t.guards f d))

unfoldable pub LeaseAnswerBreaks : Field → Data → Type 0
LeaseAnswerBreaks f d = Wrong lease_of field.Id f d ⊎ (Wrong count_of field.Ttl f d ⊎ HeaderBreaks f d)

-- the `result` of a line is no object; or the message, which is the `result` or the whole line, breaks its rules
abbrev pub InResult : (Field → Data → Type 0) → Field → Data → Type 0
InResult breaks f d = Wrong message_of field.Result f d ⊎ ((v : Data) × (result_in d ≡ Ok v) × breaks f v)

unfoldable pub AnswerBreaks : Ask → Field → Data → Type 0
AnswerBreaks (ask.Txn t) f d = TxnAnswerBreaks t f d
AnswerBreaks (ask.Range r) f d = HeaderBreaks f d ⊎ FoundBreaks f d
AnswerBreaks (ask.Grant id ttl) f d = LeaseAnswerBreaks f d
AnswerBreaks (ask.Alive id) f d = InResult LeaseAnswerBreaks f d

-- ---- lines

-- a type that is neither of the two, or the deletion of the tree's head
abbrev pub KindBreaks : Field → Data → Type 0
KindBreaks f d = (f ≡ field.Kind) × (deletion_in d ≡ Err field.Kind
    ⊎ ((v : Data) × (kv : Kv) × (deletion_in d ≡ Ok true) × (get (codes "kv") d ≡ Some v) × (kv_in v ≡ Ok kv)
    × (bytes_eq kv.key (codes "zk/head") ≡ true)))

-- the type breaks its rules; or `kv` is missing, for which the key is named; or `kv` breaks its rules
unfoldable pub EventBreaks : Field → Data → Type 0
EventBreaks f d = KindBreaks f d ⊎ (((f ≡ field.Key) × (get (codes "kv") d ≡ None)) ⊎ ((v : Data) × (get (codes "kv") d ≡ Some v) × KvBreaks f v))

-- the header, `created` and the events of a canceled watch are not looked at
unfoldable pub ChangeBreaks : Field → Data → Type 0
ChangeBreaks f d = Wrong as_bool field.Canceled f d ⊎ (Wrong count_of field.CompactRevision f d
    ⊎ ((flag_in field.Canceled d ≡ Ok false) × (HeaderBreaks f d ⊎ (Wrong as_bool field.Created f d ⊎ InList EventBreaks field.Events f d))))

-- a line with a member `error` breaks no rule
unfoldable pub LineBreaks : Field → Data → Type 0
LineBreaks f d = (get (codes "error") d ≡ None) × InResult ChangeBreaks f d
