-- A member that a reading names breaks a rule of its message.
use Rattle.std.proofs.Common.{◌≡◌, ◌⊎◌, inl, inr, Bool, true, false, List, [], ◌∷◌, Option, Some, None, Result, Ok, Err, option_and_then, refl, sym, subst, ap, ◌∙◌}
use Rattle.std.specs.Prelude.{ℕ, codes, is_some, bytes_eq, if◌then◌else◌}
use Rattle.serde_json.specs.Data.{Data, Items, no_items, item}
use Rattle.serde_json.specs.Find.{get, as_bool, as_array, as_str}
use Rattle.ev_types.specs.declared.answer.Kv.{Kv}
use Rattle.ev_types.specs.declared.ask.Act.{Act}
use Rattle.ev_types.specs.declared.ask.Act.TheVariants as act
use Rattle.ev_types.specs.declared.ask.Ask.{Ask}
use Rattle.ev_types.specs.declared.ask.Ask.TheVariants as ask
use Rattle.ev_types.specs.declared.ask.Guard.{Guard}
use Rattle.ev_types.specs.declared.ask.TxnReq.{TxnReq}
use Rattle.ev_types.specs.declared.route.Route.{Route}
use Rattle.ev_types.specs.declared.route.Route.TheVariants as route
use Rattle.ev_fields.specs.declared.field.Field.{Field}
use Rattle.ev_fields.specs.declared.field.Field.TheVariants as field
use Rattle.ev_json.specs.declared.line.Event.{Event}
use Rattle.ev_json.specs.Asks.{guard_in, range_in, put_in, delete_in, range_act_in, act_in, txn_in, txn_ask_in, range_ask_in, grant_in, alive_in, ask_in, watch_in}
use Rattle.ev_json.specs.Answers.{revision_in, kv_in, found_in, put_done_in, deleted_in, range_part_in, part_in, parts_in, held, txn_answer_in, range_answer_in, granted_in, kept_in, result_in, kept_alive_in, answer_in, kind_named, kind_or_put, kv_needed, unless_head, deletion_in, event_in, news_in, change_in, line_in}
use Rattle.ev_json.specs.Breaks.{Wrong, Lacks, Excess, AnyItem, InList, InMessage, KeyBreaks, GuardBreaks, RangeBreaks, PutBreaks, DeleteBreaks, ActBreaks, TxnBreaks, GrantBreaks, AskBreaks, WatchBreaks, HeaderBreaks, KvBreaks, FoundBreaks, PartBreaks, PartsBreak, FailedUnguarded, TxnAnswerBreaks, LeaseAnswerBreaks, AnswerBreaks, EventBreaks, ChangeBreaks, LineBreaks}
use Rattle.ev_fields.specs.Kinds.{◌>>=◌, member_of, has, known, known_or, optional, needed, count_of, lease_of, from_one, bytes_of, some_byte, word_of, message_of, is_object, count_in, lease_in, flag_in, bytes_in, needed_bytes, needed_count, positive_count, positive_lease, key_in, word_in, word_or_none, message_in, without, each, items_in, list_in}

-- ---- one step of a reading

-- where a reading fails, its first step fails or what follows does
step : {A B : Type 0} {P Q : Type 0} (r : Result A Field) (k : A → Result B Field) (f : Field) → (r >>= k) ≡ Err f → (r ≡ Err f → P) → ((x : A) → r ≡ Ok x → k x ≡ Err f → Q) → P ⊎ Q
step (Ok x) k f e here later = inr (later x refl e)
step (Err g) k f e here later = let same : g ≡ f = cc in inl (here (ap (λ (x : Field). Err x) same))

-- a last step, after which nothing fails
last : {A B : Type 0} (r : Result A Field) (k : A → B) (f : Field) → (r >>= λ x. Ok (k x)) ≡ Err f → r ≡ Err f
last (Ok x) k f e = absurd cc
last (Err g) k f e = let same : g ≡ f = cc in ap (λ (x : Field). Err x) same

-- a step that tells nothing by itself
pass : {A B : Type 0} {Q : Type 0} (r : Result A Field) (k : A → Result B Field) (f : Field) → (r >>= k) ≡ Err f → (r ≡ Err f → Q) → ((x : A) → r ≡ Ok x → k x ≡ Err f → Q) → Q
pass (Ok x) k f e here later = later x refl e
pass (Err g) k f e here later = let same : g ≡ f = cc in here (ap (λ (x : Field). Err x) same)

known_err : {A : Type 0} (g f : Field) (o : Option A) → known g o ≡ Err f → (f ≡ g) × (o ≡ None)
known_err g f None e = (cc, refl)
known_err g f (Some x) e = absurd cc

known_ok : {A : Type 0} (g : Field) (o : Option A) (x : A) → known g o ≡ Ok x → o ≡ Some x
known_ok g None x e = absurd cc
known_ok g (Some y) x e = cc

known_or_err : {A : Type 0} (g f : Field) (default : A) (kind : Data → Option A) (o : Option Data) → known_or g default kind o ≡ Err f → (f ≡ g) × (v : Data) × (o ≡ Some v) × (kind v ≡ None)
known_or_err g f default kind None e = absurd cc
known_or_err g f default kind (Some v) e = let p = known_err g f (kind v) e in (p.0, v, refl, p.1)

wrong : {A : Type 0} (kind : Data → Option A) (g f : Field) (default : A) (d : Data) → optional g default kind d ≡ Err f → Wrong kind g f d
wrong kind g f default d e = known_or_err g f default kind (member_of g d) e

lacks : {A : Type 0} (kind : Data → Option A) (g f : Field) (d : Data) → needed g kind d ≡ Err f → Lacks kind g f d
lacks kind g f d e = known_err g f (option_and_then kind (member_of g d)) e

count_err : (g f : Field) (d : Data) → count_in g d ≡ Err f → Wrong count_of g f d
unfolding count_in
count_err g f d e = wrong count_of g f _ d e

lease_err : (g f : Field) (d : Data) → lease_in g d ≡ Err f → Wrong lease_of g f d
unfolding lease_in
lease_err g f d e = wrong lease_of g f _ d e

flag_err : (g f : Field) (d : Data) → flag_in g d ≡ Err f → Wrong as_bool g f d
unfolding flag_in
flag_err g f d e = wrong as_bool g f _ d e

bytes_err : (g f : Field) (d : Data) → bytes_in g d ≡ Err f → Wrong bytes_of g f d
unfolding bytes_in
bytes_err g f d e = wrong bytes_of g f _ d e

key_err : (f : Field) (d : Data) → key_in d ≡ Err f → KeyBreaks f d
unfolding key_in
key_err f d e = lacks (λ v. some_byte (bytes_of v)) field.Key f d e

if_there : (g f : Field) (b : Bool) → (if b then Err g else Ok true) ≡ Err f → (f ≡ g) × (b ≡ true)
if_there g f true e = (cc, refl)
if_there g f false e = absurd cc

excess : (g f : Field) (d : Data) → without g d ≡ Err f → Excess g f d
unfolding without
excess g f d e = if_there g f (has g d) e

if_object : (g : Field) (b : Bool) (w v : Data) → known g (if b then Some w else None) ≡ Ok v → w ≡ v
if_object g true w v e = cc
if_object g false w v e = absurd cc

found_message : (g : Field) (o : Option Data) (v : Data) → known g (option_and_then message_of o) ≡ Ok v → o ≡ Some v
found_message g None v e = absurd cc
found_message g (Some w) v e = ap (λ (x : Data). Some x) (if_object g (is_object w) w v e)

message_found : (g : Field) (d v : Data) → message_in g d ≡ Ok v → member_of g d ≡ Some v
unfolding message_in
message_found g d v e = found_message g (member_of g d) v e

message_err : (g f : Field) (d : Data) → message_in g d ≡ Err f → Lacks message_of g f d
unfolding message_in
message_err g f d e = lacks message_of g f d e

-- ---- lists

each_err : {A : Type 0} (reading : Data → Result A Field) (breaks : Field → Data → Type 0) → ((f : Field) (d : Data) → reading d ≡ Err f → breaks f d)
    → (f : Field) (ds : Items) → each reading ds ≡ Err f → AnyItem (breaks f) ds
unfolding each
each_err reading breaks h f no_items e = absurd cc
each_err reading breaks h f (item d ds) e = step (reading d) _ f e (h f d) (λ x is e. each_err reading breaks h f ds (last (each reading ds) _ f e))

items_found : {A : Type 0} (reading : Data → Result A Field) (breaks : Field → Data → Type 0) → ((f : Field) (d : Data) → reading d ≡ Err f → breaks f d)
    → (g f : Field) (o : Option Data) (ds : Items) → known_or g no_items as_array o ≡ Ok ds → each reading ds ≡ Err f → (v : Data) × (items : Items) × (o ≡ Some v) × (as_array v ≡ Some items) × AnyItem (breaks f) items
unfolding each
items_found reading breaks h g f None ds is e =
    let same : no_items ≡ ds = cc in
    let none : each reading no_items ≡ Err f = subst (λ (x : Items). each reading x ≡ Err f) (sym same) e in
    absurd cc
items_found reading breaks h g f (Some v) ds is e = (v, ds, refl, known_ok g (as_array v) ds is, each_err reading breaks h f ds e)

items_err : (g f : Field) (d : Data) → items_in g d ≡ Err f → Wrong as_array g f d
unfolding items_in
items_err g f d e = wrong as_array g f no_items d e

list_err : {A : Type 0} (reading : Data → Result A Field) (breaks : Field → Data → Type 0) → ((f : Field) (d : Data) → reading d ≡ Err f → breaks f d)
    → (g f : Field) (d : Data) → list_in reading g d ≡ Err f → InList breaks g f d
unfolding list_in items_in
list_err reading breaks h g f d e = step (items_in g d) (each reading) f e (items_err g f d) (λ ds is e. items_found reading breaks h g f (member_of g d) ds is e)

-- ---- asks

guard_err : (f : Field) (d : Data) → guard_in d ≡ Err f → GuardBreaks f d
unfolding guard_in GuardBreaks word_or_none word_in
guard_err f d e =
    step (key_in d) _ f e (key_err f d)
    (λ key is e. step (count_in field.ModRevision d) _ f e (count_err field.ModRevision f d)
    (λ n is e. step (without field.RangeEnd d) _ f e (excess field.RangeEnd f d)
    (λ b is e. step (word_or_none field.Result (codes "EQUAL") d) _ f e (wrong (word_of (codes "EQUAL")) field.Result f true d)
    (λ b is e. lacks (word_of (codes "MOD")) field.Target f d (last (word_in field.Target (codes "MOD") d) _ f e)))))

range_err : (f : Field) (d : Data) → range_in d ≡ Err f → RangeBreaks f d
unfolding range_in RangeBreaks
range_err f d e =
    step (key_in d) _ f e (key_err f d)
    (λ key is e. step (flag_in field.KeysOnly d) _ f e (flag_err field.KeysOnly f d)
    (λ b is e. step (count_in field.Limit d) _ f e (count_err field.Limit f d)
    (λ n is e. step (bytes_in field.RangeEnd d) _ f e (bytes_err field.RangeEnd f d)
    (λ bs is e. count_err field.Revision f d (last (count_in field.Revision d) _ f e)))))

put_err : (f : Field) (d : Data) → has field.RequestPut d ≡ true → put_in d ≡ Err f → ActBreaks f d
unfolding put_in ActBreaks PutBreaks
put_err f d here e =
    pass (message_in field.RequestPut d) _ f e (λ e. inl (here, inl (message_err field.RequestPut f d e)))
    (λ put there e. pass (key_in put) _ f e (λ e. inl (here, inr (put, message_found field.RequestPut d put there, inl (key_err f put e))))
    (λ key is e. pass (lease_in field.Lease put) _ f e (λ e. inl (here, inr (put, message_found field.RequestPut d put there, inr (inl (lease_err field.Lease f put e)))))
    (λ n is e. pass (bytes_in field.Value put) _ f e (λ e. inl (here, inr (put, message_found field.RequestPut d put there, inr (inr (bytes_err field.Value f put e)))))
    (λ bs is e. pass (without field.RequestDeleteRange d) _ f e (λ e. let x = excess field.RequestDeleteRange f d e in inr (inr (inr (inr (inl (x.0, here, x.1))))))
    (λ b is e. let x = excess field.RequestRange f d (last (without field.RequestRange d) _ f e) in inr (inr (inr (inr (inr (inl (x.0, here, x.1)))))))))))

delete_err : (f : Field) (d : Data) → has field.RequestDeleteRange d ≡ true → delete_in d ≡ Err f → ActBreaks f d
unfolding delete_in ActBreaks DeleteBreaks
delete_err f d here e =
    pass (message_in field.RequestDeleteRange d) _ f e (λ e. inr (inl (here, inl (message_err field.RequestDeleteRange f d e))))
    (λ delete there e. pass (key_in delete) _ f e (λ e. inr (inl (here, inr (delete, message_found field.RequestDeleteRange d delete there, inl (key_err f delete e)))))
    (λ key is e. pass (without field.RangeEnd delete) _ f e (λ e. inr (inl (here, inr (delete, message_found field.RequestDeleteRange d delete there, inr (excess field.RangeEnd f delete e)))))
    (λ b is e. let x = excess field.RequestRange f d (last (without field.RequestRange d) _ f e) in inr (inr (inr (inr (inr (inr (x.0, here, x.1)))))))))

range_act_err : (f : Field) (d : Data) → has field.RequestRange d ≡ true → range_act_in d ≡ Err f → ActBreaks f d
unfolding range_act_in ActBreaks
range_act_err f d here e =
    pass (message_in field.RequestRange d) _ f e (λ e. inr (inr (inl (here, inl (message_err field.RequestRange f d e)))))
    (λ range there e. inr (inr (inl (here, inr (range, message_found field.RequestRange d range there, range_err f range (last (range_in range) _ f e))))))

by_bool : {P : Type 0} (b : Bool) → (b ≡ true → P) → (b ≡ false → P) → P
by_bool true if_true if_false = if_true refl
by_bool false if_true if_false = if_false refl

absent : (o : Option Data) → is_some o ≡ false → o ≡ None
absent None h = refl
absent (Some v) h = absurd cc

none_err : (f : Field) (d : Data) → has field.RequestRange d ≡ false → range_act_in d ≡ Err f → f ≡ field.RequestRange
unfolding range_act_in message_in
none_err f d h e =
    let none : member_of field.RequestRange d ≡ None = absent (member_of field.RequestRange d) h in
    pass (message_in field.RequestRange d) _ f e (λ e. (message_err field.RequestRange f d e).0)
    (λ range there e. let found : Some range ≡ None = sym (message_found field.RequestRange d range there) ∙ none in absurd cc)

act_err : (f : Field) (d : Data) → act_in d ≡ Err f → ActBreaks f d
unfolding act_in ActBreaks
act_err f d e = by_bool (has field.RequestPut d)
    (λ put. put_err f d put (rw put at e))
    (λ no_put. by_bool (has field.RequestDeleteRange d)
    (λ delete. delete_err f d delete (rw (no_put, delete) at e))
    (λ no_delete. by_bool (has field.RequestRange d)
    (λ range. range_act_err f d range (rw (no_put, no_delete) at e))
    (λ no_range. inr (inr (inr (inl (none_err f d no_range (rw (no_put, no_delete) at e), no_put, no_delete, no_range)))))))

txn_err : (f : Field) (d : Data) → txn_in d ≡ Err f → TxnBreaks f d
unfolding txn_in TxnBreaks
txn_err f d e =
    step (known field.Success (message_of d)) _ f e (known_err field.Success f (message_of d))
    (λ m is e. step (list_in guard_in field.Compare d) _ f e (list_err guard_in GuardBreaks guard_err field.Compare f d)
    (λ gs is e. step (list_in act_in field.Failure d) _ f e (list_err act_in ActBreaks act_err field.Failure f d)
    (λ fs is e. list_err act_in ActBreaks act_err field.Success f d (last (list_in act_in field.Success d) _ f e))))

grant_err : (f : Field) (d : Data) → grant_in d ≡ Err f → GrantBreaks f d
unfolding grant_in GrantBreaks positive_lease positive_count
grant_err f d e =
    step (positive_lease field.Id d) _ f e (lacks (λ v. from_one (lease_of v)) field.Id f d)
    (λ n is e. lacks (λ v. from_one (count_of v)) field.Ttl f d (last (positive_count field.Ttl d) _ f e))

pub ask_err : (to : Route) (f : Field) (d : Data) → ask_in to d ≡ Err f → AskBreaks to f d
unfolding ask_in AskBreaks txn_ask_in range_ask_in alive_in positive_lease
ask_err route.Txn f d e = txn_err f d (last (txn_in d) _ f e)
ask_err route.Range f d e = range_err f d (last (range_in d) _ f e)
ask_err route.Grant f d e = grant_err f d e
ask_err route.Alive f d e = lacks (λ v. from_one (lease_of v)) field.Id f d (last (positive_lease field.Id d) _ f e)
ask_err route.Watch f d e = cc

pub watch_err : (f : Field) (d : Data) → watch_in d ≡ Err f → WatchBreaks f d
unfolding watch_in WatchBreaks positive_count
watch_err f d e =
    step (message_in field.CreateRequest d) _ f e (message_err field.CreateRequest f d)
    (λ request there e. (
      request,
      message_found field.CreateRequest d request there,
      step (key_in request) _ f e (key_err f request) (λ key is e. lacks (λ v. from_one (count_of v)) field.StartRevision f request (last (positive_count field.StartRevision request) _ f e)),
    ))

-- ---- answers

header_err : (f : Field) (d : Data) → revision_in d ≡ Err f → HeaderBreaks f d
unfolding revision_in needed_count
header_err f d e =
    step (message_in field.Header d) _ f e (message_err field.Header f d)
    (λ header there e. (header, message_found field.Header d header there, lacks count_of field.Revision f header e))

kv_err : (f : Field) (d : Data) → kv_in d ≡ Err f → KvBreaks f d
unfolding kv_in KvBreaks needed_bytes
kv_err f d e =
    step (count_in field.CreateRevision d) _ f e (count_err field.CreateRevision f d)
    (λ n is e. step (needed_bytes field.Key d) _ f e (lacks bytes_of field.Key f d)
    (λ bs is e. step (lease_in field.Lease d) _ f e (lease_err field.Lease f d)
    (λ n is e. step (count_in field.ModRevision d) _ f e (count_err field.ModRevision f d)
    (λ n is e. step (bytes_in field.Value d) _ f e (bytes_err field.Value f d)
    (λ bs is e. count_err field.Version f d (last (count_in field.Version d) _ f e))))))

found_err : (f : Field) (d : Data) → found_in d ≡ Err f → FoundBreaks f d
unfolding found_in FoundBreaks
found_err f d e =
    step (count_in field.Count d) _ f e (count_err field.Count f d)
    (λ n is e. step (list_in kv_in field.Kvs d) _ f e (list_err kv_in KvBreaks kv_err field.Kvs f d)
    (λ kvs is e. flag_err field.More f d (last (flag_in field.More d) _ f e)))

put_done_err : (f : Field) (d : Data) → put_done_in d ≡ Err f → Lacks message_of field.ResponsePut f d ⊎ (Excess field.ResponseDeleteRange f d ⊎ Excess field.ResponseRange f d)
unfolding put_done_in
put_done_err f d e =
    step (message_in field.ResponsePut d) _ f e (message_err field.ResponsePut f d)
    (λ v is e. step (without field.ResponseDeleteRange d) _ f e (excess field.ResponseDeleteRange f d)
    (λ b is e. excess field.ResponseRange f d (last (without field.ResponseRange d) _ f e)))

deleted_err : (f : Field) (d : Data) → deleted_in d ≡ Err f → InMessage (Wrong count_of field.Deleted) field.ResponseDeleteRange f d ⊎ (Excess field.ResponsePut f d ⊎ Excess field.ResponseRange f d)
unfolding deleted_in
deleted_err f d e =
    pass (message_in field.ResponseDeleteRange d) _ f e (λ e. inl (inl (message_err field.ResponseDeleteRange f d e)))
    (λ v there e. pass (count_in field.Deleted v) _ f e (λ e. inl (inr (v, message_found field.ResponseDeleteRange d v there, count_err field.Deleted f v e)))
    (λ n is e. pass (without field.ResponsePut d) _ f e (λ e. inr (inl (excess field.ResponsePut f d e)))
    (λ b is e. inr (inr (excess field.ResponseRange f d (last (without field.ResponseRange d) _ f e))))))

range_part_err : (f : Field) (d : Data) → range_part_in d ≡ Err f → InMessage FoundBreaks field.ResponseRange f d ⊎ (Excess field.ResponsePut f d ⊎ Excess field.ResponseDeleteRange f d)
unfolding range_part_in
range_part_err f d e =
    pass (message_in field.ResponseRange d) _ f e (λ e. inl (inl (message_err field.ResponseRange f d e)))
    (λ v there e. pass (found_in v) _ f e (λ e. inl (inr (v, message_found field.ResponseRange d v there, found_err f v e)))
    (λ n is e. pass (without field.ResponsePut d) _ f e (λ e. inr (inl (excess field.ResponsePut f d e)))
    (λ b is e. inr (inr (excess field.ResponseDeleteRange f d (last (without field.ResponseDeleteRange d) _ f e))))))

part_err : (a : Act) (f : Field) (d : Data) → part_in a d ≡ Err f → PartBreaks a f d
unfolding part_in PartBreaks
part_err (act.Put key value lease) f d e = put_done_err f d e
part_err (act.Delete key) f d e = deleted_err f d e
part_err (act.Range r) f d e = range_part_err f d e

parts_err : (acts : List Act) (f : Field) (ds : Items) → parts_in acts ds ≡ Err f → PartsBreak acts f ds
unfolding parts_in PartsBreak
parts_err [] f no_items e = absurd cc
parts_err [] f (item d ds) e = cc
parts_err (a ∷ acts) f no_items e = cc
parts_err (a ∷ acts) f (item d ds) e = step (part_in a d) _ f e (part_err a f d) (λ p is e. parts_err acts f ds (last (parts_in acts ds) _ f e))

held_err : (guards : List Guard) (succeeded : Bool) (f : Field) (d : Data) → flag_in field.Succeeded d ≡ Ok succeeded → held guards succeeded ≡ Err f → FailedUnguarded guards f d
unfolding held
held_err [] false f d flag e = (cc, refl, flag)
held_err [] true f d flag e = absurd cc
held_err (guard ∷ guards) succeeded f d flag e = absurd cc

txn_answer_err : (t : TxnReq) (f : Field) (d : Data) → txn_answer_in t d ≡ Err f → TxnAnswerBreaks t f d
unfolding txn_answer_in TxnAnswerBreaks
txn_answer_err t f d e =
    step (revision_in d) _ f e (header_err f d)
    (λ n is e. step (flag_in field.Succeeded d) _ f e (flag_err field.Succeeded f d)
    (λ succeeded flag e. pass (items_in field.Responses d) _ f e (λ e. inl (inl (items_err field.Responses f d e)))
    (λ ds items e. step (parts_in (if succeeded then t.success else t.failure) ds) _ f e
    (λ e. inr (succeeded, ds, flag, items, parts_err (if succeeded then t.success else t.failure) f ds e))
    (λ parts parted e. held_err t.guards succeeded f d flag (last (held t.guards succeeded) _ f e)))))

granted_err : (f : Field) (d : Data) → granted_in d ≡ Err f → LeaseAnswerBreaks f d
unfolding granted_in LeaseAnswerBreaks
granted_err f d e =
    step (lease_in field.Id d) _ f e (lease_err field.Id f d)
    (λ n is e. step (count_in field.Ttl d) _ f e (count_err field.Ttl f d)
    (λ n is e. header_err f d (last (revision_in d) _ f e)))

kept_err : (f : Field) (d : Data) → kept_in d ≡ Err f → LeaseAnswerBreaks f d
unfolding kept_in LeaseAnswerBreaks
kept_err f d e =
    step (lease_in field.Id d) _ f e (lease_err field.Id f d)
    (λ n is e. step (count_in field.Ttl d) _ f e (count_err field.Ttl f d)
    (λ n is e. header_err f d (last (revision_in d) _ f e)))

result_err : (f : Field) (d : Data) → result_in d ≡ Err f → Wrong message_of field.Result f d
unfolding result_in
result_err f d e = known_or_err field.Result f d message_of (member_of field.Result d) e

pub answer_err : (asked : Ask) (f : Field) (d : Data) → answer_in asked d ≡ Err f → AnswerBreaks asked f d
unfolding answer_in AnswerBreaks range_answer_in kept_alive_in
answer_err (ask.Txn t) f d e = txn_answer_err t f d e
answer_err (ask.Range r) f d e = step (revision_in d) _ f e (header_err f d) (λ n is e. found_err f d (last (found_in d) _ f e))
answer_err (ask.Grant id ttl) f d e = granted_err f d e
answer_err (ask.Alive id) f d e = step (result_in d) kept_in f e (result_err f d) (λ v is e. (v, is, kept_err f v e))

-- ---- lines

kind_of : (f : Field) (o : Option (List ℕ)) → kind_named o ≡ Err f → f ≡ field.Kind
kind_of f None e = cc
kind_of f (Some s) e = either (bytes_eq s (codes "DELETE")) (bytes_eq s (codes "PUT")) e where
  either : (a b : Bool) → ◌≡◌ {A = Result Bool Field} (if a then Ok true else if b then Ok false else Err field.Kind) (Err f) → f ≡ field.Kind
  either true b e = absurd cc
  either false true e = absurd cc
  either false false e = cc

kind_or_put_err : (f : Field) (o : Option Data) → kind_or_put o ≡ Err f → f ≡ field.Kind
kind_or_put_err f None e = absurd cc
kind_or_put_err f (Some v) e = kind_of f (as_str v) e

deletion_err : (f : Field) (d : Data) → deletion_in d ≡ Err f → f ≡ field.Kind
unfolding deletion_in
deletion_err f d e = kind_or_put_err f (member_of field.Kind d) e

kv_needed_err : (f : Field) (o : Option Data) → kv_needed o ≡ Err f → ((f ≡ field.Key) × (o ≡ None)) ⊎ ((v : Data) × (o ≡ Some v) × KvBreaks f v)
kv_needed_err f None e = inl (cc, refl)
kv_needed_err f (Some v) e = inr (v, refl, kv_err f v e)

kv_needed_ok : (o : Option Data) (kv : Kv) → kv_needed o ≡ Ok kv → (v : Data) × (o ≡ Some v) × (kv_in v ≡ Ok kv)
kv_needed_ok None kv e = absurd cc
kv_needed_ok (Some v) kv e = (v, refl, e)

head_deleted : (b : Bool) (kv : Kv) (f : Field) → unless_head b kv ≡ Err f → (f ≡ field.Kind) × (b ≡ true) × (bytes_eq kv.key (codes "zk/head") ≡ true)
head_deleted false kv f e = absurd cc
head_deleted true kv f e = let p = if_head (bytes_eq kv.key (codes "zk/head")) e in (p.0, refl, p.1) where
  if_head : (b : Bool) → ◌≡◌ {A = Result Event Field} (if b then Err field.Kind else Ok (record { kv = None })) (Err f) → (f ≡ field.Kind) × (b ≡ true)
  if_head true e = (cc, refl)
  if_head false e = absurd cc

event_err : (f : Field) (d : Data) → event_in d ≡ Err f → EventBreaks f d
unfolding event_in EventBreaks
event_err f d e =
    pass (deletion_in d) _ f e (λ e. let named = deletion_err f d e in inl (named, inl (e ∙ ap (λ (g : Field). Err g) named)))
    (λ b deletion e. pass (kv_needed (get (codes "kv") d)) _ f e (λ e. inr (kv_needed_err f (get (codes "kv") d) e))
    (λ kv found e.
    let head = head_deleted b kv f e in
    let at = kv_needed_ok (get (codes "kv") d) kv found in
    inl (head.0, inr (at.0, kv, deletion ∙ ap (λ (x : Bool). Ok x) head.1, at.1, at.2, head.2))))

news_err : (f : Field) (d : Data) → news_in d ≡ Err f → HeaderBreaks f d ⊎ (Wrong as_bool field.Created f d ⊎ InList EventBreaks field.Events f d)
unfolding news_in
news_err f d e =
    step (revision_in d) _ f e (header_err f d)
    (λ n is e. step (flag_in field.Created d) _ f e (flag_err field.Created f d)
    (λ b is e. list_err event_in EventBreaks event_err field.Events f d (last (list_in event_in field.Events d) _ f e)))

unless_canceled : {A : Type 0} (b : Bool) (l : A) (r : Result A Field) (f : Field) → (if b then Ok l else r) ≡ Err f → (b ≡ false) × (r ≡ Err f)
unless_canceled true l r f e = absurd cc
unless_canceled false l r f e = (refl, e)

change_err : (f : Field) (d : Data) → change_in d ≡ Err f → ChangeBreaks f d
unfolding change_in ChangeBreaks
change_err f d e =
    step (flag_in field.Canceled d) _ f e (flag_err field.Canceled f d)
    (λ b flag e. step (count_in field.CompactRevision d) _ f e (count_err field.CompactRevision f d)
    (λ n is e. let p = unless_canceled b _ (news_in d) f e in (flag ∙ ap (λ (x : Bool). Ok x) p.0, news_err f d p.1)))

if_error : {A : Type 0} (o : Option Data) (l : A) (r : Result A Field) (f : Field) → (if is_some o then Ok l else r) ≡ Err f → (o ≡ None) × (r ≡ Err f)
if_error None l r f e = (refl, e)
if_error (Some v) l r f e = absurd cc

pub line_err : (f : Field) (d : Data) → line_in d ≡ Err f → LineBreaks f d
unfolding line_in LineBreaks
line_err f d e =
    let p = if_error (get (codes "error") d) _ (result_in d >>= change_in) f e in
    (p.0, step (result_in d) change_in f p.1 (result_err f d) (λ v is e. (v, is, change_err f v e)))
