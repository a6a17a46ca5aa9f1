-- What reads as a message is within its ranges.
use Rattle.std.proofs.Common.{◌≡◌, ℕ, ◌<◌, ◌^◌, ◌==◌, nat_lt, Bool, true, false, List, [], ◌∷◌, length, refl, sym, subst, ap, arith}
use Rattle.std.specs.Prelude.{ℤ, pos, int_lt, ◌++◌, codes, is_some, Option, Some, None, option_and_then, Result, Ok, Err, if◌then◌else◌}
use Rattle.std.specs.Option.{option_to_list}
use Rattle.std.specs.List.{AllByRecursion}
use Rattle.std.specs.Result.{result_ok}
use Rattle.std.proofs.lemmas.Bool.{ltb-true, eqb-false}
use Rattle.serde_json.specs.Data.{Data, Items, no_items, item}
use Rattle.serde_json.specs.Find.{get, as_str, as_number}
use Rattle.base64.specs.Engines.{standard}
use Rattle.base64.specs.GeneralPurpose.{IsBytes, decode_of}
use Rattle.base64.specs.declared.decode.DecodeError.{DecodeError}
use Rattle.ev_types.specs.declared.answer.Kv.{Kv}
use Rattle.ev_types.specs.declared.answer.RangeAns.{RangeAns}
use Rattle.ev_types.specs.declared.answer.ActAns.{ActAns}
use Rattle.ev_types.specs.declared.answer.Answer.{Answer}
use Rattle.ev_types.specs.declared.ask.RangeReq.{RangeReq}
use Rattle.ev_types.specs.declared.ask.Guard.{Guard}
use Rattle.ev_types.specs.declared.ask.Act.{Act}
use Rattle.ev_types.specs.declared.ask.Act.TheVariants as act
use Rattle.ev_types.specs.declared.ask.TxnReq.{TxnReq}
use Rattle.ev_types.specs.declared.ask.Ask.{Ask}
use Rattle.ev_types.specs.declared.ask.Ask.TheVariants as ask
use Rattle.ev_types.specs.declared.route.Route.{Route}
use Rattle.ev_types.specs.declared.route.Route.TheVariants as route
use Rattle.ev_fields.specs.declared.field.Field.{Field}
use Rattle.ev_fields.specs.declared.field.Field.TheVariants as field
use Rattle.ev_fields.specs.Kinds.{◌>>=◌, member_of, has, below, from_text_or, number_of, count_of, lease_of, from_one, bytes_of, some_byte, word_in, word_or_none, message_of, known, known_or, count_in, lease_in, flag_in, bytes_in, needed_bytes, needed_count, positive_count, positive_lease, key_in, message_in, without, each, items_in, list_in}
use Rattle.ev_fields.specs.Ranges.{IsCount, IsLease, IsPositiveCount, IsPositiveLease, IsKey}
use Rattle.ev_json.specs.declared.line.Event.{Event}
use Rattle.ev_json.specs.declared.line.Line.{Line}
use Rattle.ev_json.specs.declared.line.Line.TheVariants as line
use Rattle.ev_json.specs.Answers.{revision_in, kv_in, found_in, put_done_in, deleted_in, range_part_in, part_in, parts_in, held, txn_answer_in, range_answer_in, granted_in, kept_in, result_in, kept_alive_in, answer_in, deletion_in, kv_needed, unless_head, event_in, puts_of, news_in, change_in, line_in}
use Rattle.ev_json.specs.Asks.{guard_in, range_in, put_in, delete_in, range_act_in, act_in, txn_in, txn_ask_in, range_ask_in, grant_in, alive_in, ask_in, watch_in}
use Rattle.ev_json.specs.Ranges.{GuardFits, RangeFits, ActFits, TxnFits, AskFits, KvFits, FoundFits, PartFits, PartsFit, CanCome, AnswerFits, LineFits}
use Rattle.ev_json.proofs.Decoded.{decoded_is_bytes}
use Rattle.zx_base.proofs.Options.{some_is}

-- ---- one step of a reading

step : {A B P : Type 0} (r : Result A Field) (k : A → Result B Field) (y : B) → (r >>= k) ≡ Ok y → ((x : A) → r ≡ Ok x → k x ≡ Ok y → P) → P
step (Ok x) k y e go = go x refl e
step (Err g) k y e go = absurd cc

abbrev read_as : {A : Type 0} → A → Result A Field
read_as x = Ok x

ok_is : {A : Type 0} {x y : A} → read_as x ≡ Ok y → x ≡ y
ok_is e = cc

known_some : {A : Type 0} (g : Field) (o : Option A) (x : A) → known g o ≡ Ok x → o ≡ Some x
known_some g None x e = absurd cc
known_some g (Some y) x e = cc

-- what an absent member is taken for, or what its value gives
by_member : {A P : Type 0} (g : Field) (default x : A) (kind : Data → Option A) (o : Option Data) → known_or g default kind o ≡ Ok x → (default ≡ x → P) → ((v : Data) → kind v ≡ Some x → P) → P
by_member g default x kind None e absent given = absent (ok_is e)
by_member g default x kind (Some v) e absent given = given v (known_some g (kind v) x e)

-- what the value of a member that must be there gives
by_needed : {A P : Type 0} (g : Field) (x : A) (kind : Data → Option A) (o : Option Data) → known g (option_and_then kind o) ≡ Ok x → ((v : Data) → kind v ≡ Some x → P) → P
by_needed g x kind None e given = absurd cc
by_needed g x kind (Some v) e given = given v (known_some g (kind v) x e)

-- ---- numbers

abbrev IsBelow : ℕ → ℤ → Type 0
IsBelow top n = (k : ℕ) × (n ≡ pos k) × (k < top)

if_below : (b : Bool) (k : ℕ) (n : ℤ) → (if b then Some (pos k) else None) ≡ Some n → (b ≡ true) × (n ≡ pos k)
if_below true k n e = (refl, sym (some_is e))
if_below false k n e = absurd cc

within : (top : ℕ) (o : Option ℕ) (n : ℤ) → below top o ≡ Some n → IsBelow top n
within top None n e = absurd cc
within top (Some k) n e = let b = if_below (nat_lt k top) k n e in (k, b.1, ltb-true k top b.0)

number : (top : ℕ) (d : Data) (n : ℤ) → number_of top d ≡ Some n → IsBelow top n
unfolding number_of
number top d n e = within top (from_text_or (as_str d) (as_number d)) n e

count : (d : Data) (n : ℤ) → count_of d ≡ Some n → IsCount n
unfolding count_of
count d n e = number (2 ^ 62) d n e

lease : (d : Data) (n : ℤ) → lease_of d ≡ Some n → IsLease n
unfolding lease_of
lease d n e = number (2 ^ 63) d n e

no_number : (top : ℕ) (n : ℤ) → 0 < top → pos 0 ≡ n → IsBelow top n
no_number top n some e = (0, sym e, some)

count_fits : (f : Field) (d : Data) (n : ℤ) → count_in f d ≡ Ok n → IsCount n
unfolding count_in
count_fits f d n e = by_member f (pos 0) n count_of (member_of f d) e (no_number (2 ^ 62) n (omega arith)) (λ v e. count v n e)

lease_fits : (f : Field) (d : Data) (n : ℤ) → lease_in f d ≡ Ok n → IsLease n
unfolding lease_in
lease_fits f d n e = by_member f (pos 0) n lease_of (member_of f d) e (no_number (2 ^ 63) n (omega arith)) (λ v e. lease v n e)

needed_count_fits : (f : Field) (d : Data) (n : ℤ) → needed_count f d ≡ Ok n → IsCount n
unfolding needed_count
needed_count_fits f d n e = by_needed f n count_of (member_of f d) e (λ v e. count v n e)

if_one : (b : Bool) (m n : ℤ) → (if b then Some m else None) ≡ Some n → (b ≡ true) × (m ≡ n)
if_one true m n e = (refl, some_is e)
if_one false m n e = absurd cc

positive : (top : ℕ) (k : ℕ) (n : ℤ) → n ≡ pos k → k < top → int_lt (pos 0) n ≡ true → (m : ℕ) × (n ≡ pos m) × (0 < m) × (m < top)
positive top k n is lt e = let some : nat_lt 0 k ≡ true = rw is at e in (k, is, ltb-true 0 k some, lt)

from_one_fits : (top : ℕ) (o : Option ℤ) (n : ℤ) → ((m : ℤ) → o ≡ Some m → IsBelow top m) → from_one o ≡ Some n → (m : ℕ) × (n ≡ pos m) × (0 < m) × (m < top)
from_one_fits top None n small e = absurd cc
from_one_fits top (Some m) n small e =
    let one = if_one (int_lt (pos 0) m) m n e in
    let b = small m refl in
    subst (λ (x : ℤ). (k : ℕ) × (x ≡ pos k) × (0 < k) × (k < top)) one.1 (positive top b.0 m b.1 b.2 one.0)

positive_count_fits : (f : Field) (d : Data) (n : ℤ) → positive_count f d ≡ Ok n → IsPositiveCount n
unfolding positive_count
positive_count_fits f d n e = by_needed f n (λ v. from_one (count_of v)) (member_of f d) e (λ v e. from_one_fits (2 ^ 62) (count_of v) n (count v) e)

positive_lease_fits : (f : Field) (d : Data) (n : ℤ) → positive_lease f d ≡ Ok n → IsPositiveLease n
unfolding positive_lease
positive_lease_fits f d n e = by_needed f n (λ v. from_one (lease_of v)) (member_of f d) e (λ v e. from_one_fits (2 ^ 63) (lease_of v) n (lease v) e)

-- ---- bytes

ok_of : (r : Result (List ℕ) DecodeError) (b : List ℕ) → result_ok r ≡ Some b → r ≡ Ok b
ok_of (Ok x) b e = ap (λ (y : List ℕ). Ok y) (some_is e)
ok_of (Err x) b e = absurd cc

text_bytes : (o : Option (List ℕ)) (b : List ℕ) → option_and_then (λ s. result_ok (decode_of standard s)) o ≡ Some b → IsBytes b
text_bytes None b e = absurd cc
text_bytes (Some s) b e = decoded_is_bytes s b (ok_of (decode_of standard s) b e)

bytes : (d : Data) (b : List ℕ) → bytes_of d ≡ Some b → IsBytes b
unfolding bytes_of
bytes d b e = text_bytes (as_str d) b e

no_bytes : (b : List ℕ) → [] ≡ b → IsBytes b
no_bytes b e = subst IsBytes e (λ i. omega arith)

bytes_fit : (f : Field) (d : Data) (b : List ℕ) → bytes_in f d ≡ Ok b → IsBytes b
unfolding bytes_in
bytes_fit f d b e = by_member f [] b bytes_of (member_of f d) e (no_bytes b) (λ v e. bytes v b e)

needed_bytes_fit : (f : Field) (d : Data) (b : List ℕ) → needed_bytes f d ≡ Ok b → IsBytes b
unfolding needed_bytes
needed_bytes_fit f d b e = by_needed f b bytes_of (member_of f d) e (λ v e. bytes v b e)

if_some_byte : (c : Bool) (b k : List ℕ) → (if c then None else Some b) ≡ Some k → (c ≡ false) × (b ≡ k)
if_some_byte true b k e = absurd cc
if_some_byte false b k e = (refl, some_is e)

some_length : (b : List ℕ) → (length b == 0) ≡ false → 0 < length b
some_length b e = omega (arith, eqb-false (length b) 0 e)

some_byte_fits : (o : Option (List ℕ)) (k : List ℕ) → ((b : List ℕ) → o ≡ Some b → IsBytes b) → some_byte o ≡ Some k → IsKey k
some_byte_fits None k small e = absurd cc
some_byte_fits (Some b) k small e = let one = if_some_byte (length b == 0) b k e in subst IsKey one.1 (small b refl, some_length b one.0)

key_fits : (d : Data) (k : List ℕ) → key_in d ≡ Ok k → IsKey k
unfolding key_in
key_fits d k e = by_needed field.Key k (λ v. some_byte (bytes_of v)) (member_of field.Key d) e (λ v e. some_byte_fits (bytes_of v) k (bytes v) e)

-- ---- lists

each_fits : {A : Type 0} (P : A → Type 0) (reading : Data → Result A Field) → ((d : Data) (x : A) → reading d ≡ Ok x → P x) → (ds : Items) (xs : List A) → each reading ds ≡ Ok xs → AllByRecursion P xs
unfolding each
each_fits P reading fits no_items xs e = subst (AllByRecursion P) (ok_is e) tt
each_fits P reading fits (item d ds) xs e =
    step (reading d) _ xs e (λ x first e.
    step (each reading ds) _ xs e (λ others rest e. subst (AllByRecursion P) (ok_is e) (fits d x first, each_fits P reading fits ds others rest)))

list_fits : {A : Type 0} (P : A → Type 0) (reading : Data → Result A Field) → ((d : Data) (x : A) → reading d ≡ Ok x → P x) → (f : Field) (d : Data) (xs : List A) → list_in reading f d ≡ Ok xs → AllByRecursion P xs
unfolding list_in
list_fits P reading fits f d xs e = step (items_in f d) _ xs e (λ ds there e. each_fits P reading fits ds xs e)

-- ---- answers

revision_fits : (d : Data) (r : ℤ) → revision_in d ≡ Ok r → IsCount r
unfolding revision_in
revision_fits d r e = step (message_in field.Header d) _ r e (λ header there e. needed_count_fits field.Revision header r e)

pub kv_fits : (d : Data) (kv : Kv) → kv_in d ≡ Ok kv → KvFits kv
unfolding kv_in
kv_fits d kv e =
    step (count_in field.CreateRevision d) _ kv e (λ create created e.
    step (needed_bytes field.Key d) _ kv e (λ key keyed e.
    step (lease_in field.Lease d) _ kv e (λ id leased e.
    step (count_in field.ModRevision d) _ kv e (λ changed altered e.
    step (bytes_in field.Value d) _ kv e (λ value valued e.
    step (count_in field.Version d) _ kv e (λ version versioned e.
    subst KvFits (ok_is e) (needed_bytes_fit _ d key keyed, bytes_fit _ d value valued, count_fits _ d create created, count_fits _ d changed altered, count_fits _ d version versioned, lease_fits _ d id leased)))))))

found_fits : (d : Data) (found : RangeAns) → found_in d ≡ Ok found → FoundFits found
unfolding found_in
found_fits d found e =
    step (count_in field.Count d) _ found e (λ n counted e.
    step (list_in kv_in field.Kvs d) _ found e (λ kvs listed e.
    step (flag_in field.More d) _ found e (λ more flagged e.
    subst FoundFits (ok_is e) (list_fits KvFits kv_in kv_fits field.Kvs d kvs listed, count_fits _ d n counted))))

put_done_fits : (key value : List ℕ) (id : ℤ) (d : Data) (p : ActAns) → put_done_in d ≡ Ok p → PartFits (act.Put key value id) p
unfolding put_done_in
put_done_fits key value id d p e =
    step (message_in field.ResponsePut d) _ p e (λ done a e.
    step (without field.ResponseDeleteRange d) _ p e (λ x b e.
    step (without field.ResponseRange d) _ p e (λ y c e.
    subst (PartFits (act.Put key value id)) (ok_is e) tt)))

deleted_fits : (key : List ℕ) (d : Data) (p : ActAns) → deleted_in d ≡ Ok p → PartFits (act.Delete key) p
unfolding deleted_in
deleted_fits key d p e =
    step (message_in field.ResponseDeleteRange d) _ p e (λ delete a e.
    step (count_in field.Deleted delete) _ p e (λ n counted e.
    step (without field.ResponsePut d) _ p e (λ x b e.
    step (without field.ResponseRange d) _ p e (λ y c e.
    subst (PartFits (act.Delete key)) (ok_is e) (count_fits _ delete n counted)))))

range_part_fits : (r : RangeReq) (d : Data) (p : ActAns) → range_part_in d ≡ Ok p → PartFits (act.Range r) p
unfolding range_part_in
range_part_fits r d p e =
    step (message_in field.ResponseRange d) _ p e (λ range a e.
    step (found_in range) _ p e (λ found there e.
    step (without field.ResponsePut d) _ p e (λ x b e.
    step (without field.ResponseDeleteRange d) _ p e (λ y c e.
    subst (PartFits (act.Range r)) (ok_is e) (found_fits range found there)))))

part_fits : (a : Act) (d : Data) (p : ActAns) → part_in a d ≡ Ok p → PartFits a p
unfolding part_in
part_fits (act.Put key value id) d p e = put_done_fits key value id d p e
part_fits (act.Delete key) d p e = deleted_fits key d p e
part_fits (act.Range r) d p e = range_part_fits r d p e

parts_fit : (acts : List Act) (ds : Items) (ps : List ActAns) → parts_in acts ds ≡ Ok ps → PartsFit acts ps
unfolding parts_in
parts_fit [] no_items ps e = subst (PartsFit []) (ok_is e) tt
parts_fit [] (item d ds) ps e = absurd cc
parts_fit (a ∷ acts) no_items ps e = absurd cc
parts_fit (a ∷ acts) (item d ds) ps e =
    step (part_in a d) _ ps e (λ p first e.
    step (parts_in acts ds) _ ps e (λ others rest e.
    subst (PartsFit (a ∷ acts)) (ok_is e) (part_fits a d p first, parts_fit acts ds others rest)))

held_came : (guards : List Guard) (succeeded outcome : Bool) → held guards succeeded ≡ Ok outcome → (outcome ≡ succeeded) × CanCome guards outcome
unfolding held
held_came [] false outcome e = absurd cc
held_came [] true outcome e = (sym (ok_is e), sym (ok_is e))
held_came (guard ∷ guards) succeeded outcome e = (sym (ok_is e), tt)

txn_answer_fits : (t : TxnReq) (d : Data) (a : Answer) → txn_answer_in t d ≡ Ok a → AnswerFits (ask.Txn t) a
unfolding txn_answer_in
txn_answer_fits t d a e =
    step (revision_in d) _ a e (λ r revised e.
    step (flag_in field.Succeeded d) _ a e (λ succeeded flagged e.
    step (items_in field.Responses d) _ a e (λ ds there e.
    step (parts_in (if succeeded then t.success else t.failure) ds) _ a e (λ parts parted e.
    step (held t.guards succeeded) _ a e (λ outcome holding e.
    let came = held_came t.guards succeeded outcome holding in
    subst (AnswerFits (ask.Txn t)) (ok_is e) (revision_fits d r revised, rw came.0 (parts_fit _ ds parts parted), came.1))))))

range_answer_fits : (q : RangeReq) (d : Data) (a : Answer) → range_answer_in d ≡ Ok a → AnswerFits (ask.Range q) a
unfolding range_answer_in
range_answer_fits q d a e =
    step (revision_in d) _ a e (λ r revised e.
    step (found_in d) _ a e (λ found there e.
    subst (AnswerFits (ask.Range q)) (ok_is e) (revision_fits d r revised, found_fits d found there)))

granted_fits : (id ttl : ℤ) (d : Data) (a : Answer) → granted_in d ≡ Ok a → AnswerFits (ask.Grant id ttl) a
unfolding granted_in
granted_fits id ttl d a e =
    step (lease_in field.Id d) _ a e (λ granted leased e.
    step (count_in field.Ttl d) _ a e (λ left timed e.
    step (revision_in d) _ a e (λ r revised e.
    subst (AnswerFits (ask.Grant id ttl)) (ok_is e) (revision_fits d r revised, lease_fits _ d granted leased, count_fits _ d left timed))))

kept_fits : (id : ℤ) (d : Data) (a : Answer) → kept_in d ≡ Ok a → AnswerFits (ask.Alive id) a
unfolding kept_in
kept_fits id d a e =
    step (lease_in field.Id d) _ a e (λ kept leased e.
    step (count_in field.Ttl d) _ a e (λ left timed e.
    step (revision_in d) _ a e (λ r revised e.
    subst (AnswerFits (ask.Alive id)) (ok_is e) (revision_fits d r revised, lease_fits _ d kept leased, count_fits _ d left timed))))

pub answer_fits : (asked : Ask) (d : Data) (a : Answer) → answer_in asked d ≡ Ok a → AnswerFits asked a
unfolding answer_in kept_alive_in
answer_fits (ask.Txn t) d a e = txn_answer_fits t d a e
answer_fits (ask.Range q) d a e = range_answer_fits q d a e
answer_fits (ask.Grant id ttl) d a e = granted_fits id ttl d a e
answer_fits (ask.Alive id) d a e = step (result_in d) _ a e (λ message there e. kept_fits id message a e)

-- ---- asks

guard_fits : (d : Data) (g : Guard) → guard_in d ≡ Ok g → GuardFits g
unfolding guard_in
guard_fits d g e =
    step (key_in d) _ g e (λ key keyed e.
    step (count_in field.ModRevision d) _ g e (λ n counted e.
    step (without field.RangeEnd d) _ g e (λ x no_end e.
    step (word_or_none field.Result _ d) _ g e (λ y same e.
    step (word_in field.Target _ d) _ g e (λ z right e.
    subst GuardFits (ok_is e) (key_fits d key keyed, count_fits _ d n counted))))))

range_fits : (d : Data) (r : RangeReq) → range_in d ≡ Ok r → RangeFits r
unfolding range_in
range_fits d r e =
    step (key_in d) _ r e (λ key keyed e.
    step (flag_in field.KeysOnly d) _ r e (λ keys_only flagged e.
    step (count_in field.Limit d) _ r e (λ limit limited e.
    step (bytes_in field.RangeEnd d) _ r e (λ end ended e.
    step (count_in field.Revision d) _ r e (λ revision revised e.
    subst RangeFits (ok_is e) (key_fits d key keyed, bytes_fit _ d end ended, count_fits _ d revision revised, count_fits _ d limit limited))))))

put_fits : (d : Data) (a : Act) → put_in d ≡ Ok a → ActFits a
unfolding put_in
put_fits d a e =
    step (message_in field.RequestPut d) _ a e (λ put there e.
    step (key_in put) _ a e (λ key keyed e.
    step (lease_in field.Lease put) _ a e (λ id leased e.
    step (bytes_in field.Value put) _ a e (λ value valued e.
    step (without field.RequestDeleteRange d) _ a e (λ x no_delete e.
    step (without field.RequestRange d) _ a e (λ y no_range e.
    subst ActFits (ok_is e) (key_fits put key keyed, bytes_fit _ put value valued, lease_fits _ put id leased)))))))

delete_fits : (d : Data) (a : Act) → delete_in d ≡ Ok a → ActFits a
unfolding delete_in
delete_fits d a e =
    step (message_in field.RequestDeleteRange d) _ a e (λ delete there e.
    step (key_in delete) _ a e (λ key keyed e.
    step (without field.RangeEnd delete) _ a e (λ x no_end e.
    step (without field.RequestRange d) _ a e (λ y no_range e.
    subst ActFits (ok_is e) (key_fits delete key keyed)))))

range_act_fits : (d : Data) (a : Act) → range_act_in d ≡ Ok a → ActFits a
unfolding range_act_in
range_act_fits d a e =
    step (message_in field.RequestRange d) _ a e (λ range there e.
    step (range_in range) _ a e (λ asked read e.
    subst ActFits (ok_is e) (range_fits range asked read)))

choose : {P : Type 0} (b : Bool) (x y : Result Act Field) (a : Act) → (if b then x else y) ≡ Ok a → (x ≡ Ok a → P) → (y ≡ Ok a → P) → P
choose true x y a e if_true if_false = if_true e
choose false x y a e if_true if_false = if_false e

act_fits : (d : Data) (a : Act) → act_in d ≡ Ok a → ActFits a
unfolding act_in
act_fits d a e = choose (has field.RequestPut d) _ _ a e (put_fits d a) (λ e. choose (has field.RequestDeleteRange d) _ _ a e (delete_fits d a) (range_act_fits d a))

txn_fits : (d : Data) (t : TxnReq) → txn_in d ≡ Ok t → TxnFits t
unfolding txn_in
txn_fits d t e =
    step (known field.Success (message_of d)) _ t e (λ object there e.
    step (list_in guard_in field.Compare d) _ t e (λ guards guarded e.
    step (list_in act_in field.Failure d) _ t e (λ failure failed e.
    step (list_in act_in field.Success d) _ t e (λ success succeeded e.
    subst TxnFits (ok_is e) (list_fits GuardFits guard_in guard_fits _ d guards guarded, list_fits ActFits act_in act_fits _ d success succeeded, list_fits ActFits act_in act_fits _ d failure failed)))))

pub ask_fits : (to : Route) (d : Data) (a : Ask) → ask_in to d ≡ Ok a → AskFits a
unfolding ask_in txn_ask_in range_ask_in grant_in alive_in
ask_fits route.Txn d a e = step (txn_in d) _ a e (λ t read e. subst AskFits (ok_is e) (txn_fits d t read))
ask_fits route.Range d a e = step (range_in d) _ a e (λ q read e. subst AskFits (ok_is e) (range_fits d q read))
ask_fits route.Grant d a e =
    step (positive_lease field.Id d) _ a e (λ id leased e.
    step (positive_count field.Ttl d) _ a e (λ ttl timed e.
    subst AskFits (ok_is e) (positive_lease_fits _ d id leased, positive_count_fits _ d ttl timed)))
ask_fits route.Alive d a e = step (positive_lease field.Id d) _ a e (λ id leased e. subst AskFits (ok_is e) (positive_lease_fits _ d id leased))
ask_fits route.Watch d a e = absurd cc

pub watch_fits : (d : Data) (from : ℤ) (key : List ℕ) → watch_in d ≡ Ok (from, key) → IsPositiveCount from × IsKey key
unfolding watch_in
watch_fits d from key e =
    step (message_in field.CreateRequest d) _ (from, key) e (λ request there e.
    step (key_in request) _ (from, key) e (λ k keyed e.
    step (positive_count field.StartRevision request) _ (from, key) e (λ n counted e.
    subst (λ (w : ℤ × List ℕ). IsPositiveCount w.0 × IsKey w.1) (ok_is e) (positive_count_fits _ request n counted, key_fits request k keyed))))

-- ---- lines

abbrev EventFits : Option Kv → Type 0
EventFits None = Unit {0}
EventFits (Some kv) = KvFits kv

if_event : (b : Bool) (f : Field) (x y : Event) → (if b then Err f else Ok x) ≡ Ok y → x ≡ y
if_event true f x y e = absurd cc
if_event false f x y e = ok_is e

event_made : (deletion : Bool) (kv : Kv) (ev : Event) → KvFits kv → unless_head deletion kv ≡ Ok ev → EventFits ev.kv
event_made false kv ev h e = subst (λ (v : Event). EventFits v.kv) (ok_is e) h
event_made true kv ev h e = subst (λ (v : Event). EventFits v.kv) (if_event _ _ _ ev e) tt

kv_needed_fits : (o : Option Data) (kv : Kv) → kv_needed o ≡ Ok kv → KvFits kv
kv_needed_fits None kv e = absurd cc
kv_needed_fits (Some v) kv e = kv_fits v kv e

event_fits : (d : Data) (ev : Event) → event_in d ≡ Ok ev → EventFits ev.kv
unfolding event_in
event_fits d ev e =
    step (deletion_in d) _ ev e (λ deletion kind e.
    step (kv_needed (get (codes "kv") d)) _ ev e (λ kv there e. event_made deletion kv ev (kv_needed_fits _ kv there) e))

one_more_put : (o : Option Kv) (kvs : List Kv) → EventFits o → AllByRecursion KvFits kvs → AllByRecursion KvFits (option_to_list o ++ kvs)
one_more_put None kvs h rest = rest
one_more_put (Some kv) kvs h rest = (h, rest)

puts_fit : (events : List Event) → AllByRecursion (λ (ev : Event). EventFits ev.kv) events → AllByRecursion KvFits (puts_of events)
puts_fit [] h = tt
puts_fit (ev ∷ events) h = one_more_put ev.kv (puts_of events) h.0 (puts_fit events h.1)

canceled_fits : (rev : ℤ) (b : Bool) → int_lt (pos 0) rev ≡ b → IsCount rev → LineFits (if b then line.Compacted rev else line.Ended)
canceled_fits rev true some h = positive (2 ^ 62) h.0 rev h.1 h.2 some
canceled_fits rev false none h = tt

said_fits : (created : Bool) (r : ℤ) (kvs : List Kv) → IsCount r → AllByRecursion KvFits kvs → LineFits (if created then line.Created r else line.Events r kvs)
said_fits true r kvs h all = h
said_fits false r kvs h all = (h, all)

news_fits : (d : Data) (l : Line) → news_in d ≡ Ok l → LineFits l
unfolding news_in
news_fits d l e =
    step (revision_in d) _ l e (λ r revised e.
    step (flag_in field.Created d) _ l e (λ created flagged e.
    step (list_in event_in field.Events d) _ l e (λ events listed e.
    subst LineFits (ok_is e) (said_fits created r (puts_of events) (revision_fits d r revised) (puts_fit events (list_fits (λ (ev : Event). EventFits ev.kv) event_in event_fits _ d events listed))))))

if_line : {P : Type 0} (b : Bool) (x y : Result Line Field) (l : Line) → (if b then x else y) ≡ Ok l → (x ≡ Ok l → P) → (y ≡ Ok l → P) → P
if_line true x y l e if_true if_false = if_true e
if_line false x y l e if_true if_false = if_false e

change_fits : (d : Data) (l : Line) → change_in d ≡ Ok l → LineFits l
unfolding change_in
change_fits d l e =
    step (flag_in field.Canceled d) _ l e (λ canceled flagged e.
    step (count_in field.CompactRevision d) _ l e (λ rev counted e.
    if_line canceled _ _ l e (λ e. subst LineFits (ok_is e) (canceled_fits rev _ refl (count_fits _ d rev counted))) (news_fits d l)))

pub line_fits : (d : Data) (l : Line) → line_in d ≡ Ok l → LineFits l
unfolding line_in
line_fits d l e = if_line (is_some (get (codes "error") d)) _ _ l e (λ e. subst LineFits (ok_is e) tt) (λ e. step (result_in d) _ l e (λ message there e. change_fits message l e))
