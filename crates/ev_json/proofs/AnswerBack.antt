-- Each answer that was written reads back.
use Rattle.std.proofs.Common.{◌≡◌, ℕ, suc, Bool, true, false, List, [], ◌∷◌, map, Option, Some, Ok, refl, ap, ◌∙◌}
use Rattle.std.specs.Prelude.{ℤ, if◌then◌else◌}
use Rattle.serde_json.specs.Data.{Data}
use Rattle.serde_json.specs.View.{items_of}
use Rattle.ev_types.specs.declared.answer.RangeAns.{RangeAns}
use Rattle.ev_types.specs.declared.answer.ActAns.{ActAns}
use Rattle.ev_types.specs.declared.answer.ActAns.TheVariants as part
use Rattle.ev_types.specs.declared.answer.Answer.{Answer}
use Rattle.ev_types.specs.declared.answer.Answer.TheVariants as answer
use Rattle.ev_types.specs.declared.ask.Act.{Act}
use Rattle.ev_types.specs.declared.ask.Act.TheVariants as act
use Rattle.ev_types.specs.declared.ask.Guard.{Guard}
use Rattle.ev_types.specs.declared.ask.TxnReq.{TxnReq}
use Rattle.ev_types.specs.declared.ask.Ask.{Ask}
use Rattle.ev_types.specs.declared.ask.Ask.TheVariants as ask
use Rattle.ev_fields.specs.declared.field.Field.{Field}
use Rattle.ev_fields.specs.declared.field.Field.TheVariants as field
use Rattle.ev_fields.specs.Names.{snake, camel}
use Rattle.ev_fields.specs.Members.{none, object_of}
use Rattle.ev_json.specs.Messages.{header_data, kv_data, found_data, deleted_data, part_data, txn_answer_data, range_answer_data, granted_data, alive_data, answer_data}
use Rattle.ev_fields.specs.Kinds.{member_of, is_object, without}
use Rattle.ev_json.specs.Answers.{revision_in, kv_in, found_in, put_done_in, deleted_in, range_part_in, part_in, parts_in, held, txn_answer_in, range_answer_in, granted_in, kept_in, result_in, kept_alive_in, answer_in}
use Rattle.ev_fields.specs.Ranges.{IsCount, IsLease}
use Rattle.ev_json.specs.Ranges.{KvFits, FoundFits, PartFits, PartsFit, CanCome, AnswerFits}
use Rattle.ev_fields.proofs.Backs.{in_digits, unless_zero, if_true, if_some, given-piece, number-piece, number_if-piece, true_if-piece, list_if-piece, more, count_in-back, count_in-written, lease_in-written, needed_count-back, flag_in-back, message_in-back, object_of-is_object, items_in-back, list_in-back, plain-digits, plain-flag, plain-list}
use Rattle.ev_json.proofs.KvBack.{plain-kv, kv_back}
use Rattle.ev_fields.proofs.Rising.{pieces, one_piece, gathered-pieces, member_one, member_two, Plain, plain-string, plain-object}

-- ---- headers

abbrev header_pieces : ℤ → List (Field × Option Data)
header_pieces revision = one_piece field.Revision (in_digits revision)

header_data-pieces : (revision : ℤ) → header_data revision ≡ object_of (pieces (header_pieces revision))
unfolding header_data none
header_data-pieces revision = ap object_of (number-piece _ _ ∙ gathered-pieces [] (header_pieces revision))

pub plain-header : (n : ℕ) (revision : ℤ) → Plain (suc n) (header_data revision)
unfolding snake
plain-header n revision = rw (header_data-pieces revision) (plain-object n (header_pieces revision) refl (plain-string n _, tt))

pub revision_back : (d : Data) (revision : ℤ) → member_of field.Header d ≡ Some (header_data revision) → IsCount revision → revision_in d ≡ Ok revision
unfolding revision_in snake camel
revision_back d revision e h =
    let inner = object_of (pieces (header_pieces revision)) in
    let header = message_in-back field.Header d inner (e ∙ ap (λ (x : Data). Some x) (header_data-pieces revision)) (object_of-is_object (pieces (header_pieces revision))) in
    let count = needed_count-back field.Revision inner revision (member_one _ (header_pieces revision) _ refl refl refl) h in
    rw (header, count) refl

-- ---- what was found

abbrev found_pieces : RangeAns → List (Field × Option Data)
found_pieces found =
    (field.Count, unless_zero found.count)
    ∷ (field.Kvs, if_some (map kv_data found.kvs))
    ∷ (field.More, if_true found.more)
    ∷ []

found_data-pieces : (found : RangeAns) → found_data found ≡ object_of (pieces (found_pieces found))
unfolding found_data none
found_data-pieces found = ap object_of (more (more (number_if-piece _ _) (list_if-piece _ _)) (true_if-piece _ _) ∙ gathered-pieces [] (found_pieces found))

plain-found : (n : ℕ) (found : RangeAns) → Plain (suc (suc (suc n))) (found_data found)
unfolding snake
plain-found n found = rw (found_data-pieces found) (plain-object (suc (suc n)) (found_pieces found) refl (plain-digits (suc (suc n)) found.count, (plain-list (suc n) kv_data (plain-kv n) found.kvs, (plain-flag (suc (suc n)) found.more, tt))))

-- what was found is read from any object with its members
found_from : (d : Data) (found : RangeAns) → member_of field.Count d ≡ unless_zero found.count → member_of field.Kvs d ≡ if_some (map kv_data found.kvs) → member_of field.More d ≡ if_true found.more → FoundFits found → found_in d ≡ Ok found
unfolding found_in
found_from d found c k m h = rw (count_in-back field.Count d found.count c h.1, list_in-back KvFits kv_data kv_in kv_back field.Kvs d found.kvs k h.0, flag_in-back field.More d found.more m) refl

found_back : (found : RangeAns) → FoundFits found → found_in (found_data found) ≡ Ok found
unfolding snake camel
found_back found h = rw (found_data-pieces found) (found_from (object_of (pieces (found_pieces found))) found (member_one _ (found_pieces found) _ refl refl refl) (member_one _ (found_pieces found) _ refl refl refl) (member_one _ (found_pieces found) _ refl refl refl) h)

-- ---- the answers to operations

abbrev deleted_pieces : ℤ → List (Field × Option Data)
deleted_pieces n = (field.Deleted, unless_zero n) ∷ []

deleted_data-pieces : (n : ℤ) → deleted_data n ≡ object_of (pieces (deleted_pieces n))
unfolding deleted_data none
deleted_data-pieces n = ap object_of (number_if-piece _ _ ∙ gathered-pieces [] (deleted_pieces n))

plain-deleted : (k : ℕ) (n : ℤ) → Plain (suc k) (deleted_data n)
unfolding snake
plain-deleted k n = rw (deleted_data-pieces n) (plain-object k (deleted_pieces n) refl (plain-digits k n, tt))

part_data-put : part_data part.Put ≡ object_of (pieces (one_piece field.ResponsePut (object_of none)))
unfolding part_data none
part_data-put = ap object_of (given-piece _ _ ∙ gathered-pieces [] (one_piece field.ResponsePut (object_of [])))

part_data-deleted : (n : ℤ) → part_data (part.Deleted n) ≡ object_of (pieces (one_piece field.ResponseDeleteRange (deleted_data n)))
unfolding part_data none
part_data-deleted n = ap object_of (given-piece _ _ ∙ gathered-pieces [] (one_piece field.ResponseDeleteRange (deleted_data n)))

part_data-range : (found : RangeAns) → part_data (part.Range found) ≡ object_of (pieces (one_piece field.ResponseRange (found_data found)))
unfolding part_data none
part_data-range found = ap object_of (given-piece _ _ ∙ gathered-pieces [] (one_piece field.ResponseRange (found_data found)))

plain-none : (n : ℕ) → Plain (suc n) (object_of none)
unfolding none
plain-none n = plain-object n [] refl tt

plain-part : (n : ℕ) (p : ActAns) → Plain (suc (suc (suc (suc n)))) (part_data p)
unfolding snake
plain-part n part.Put = rw part_data-put (plain-object (suc (suc (suc n))) (one_piece field.ResponsePut (object_of none)) refl (plain-none (suc (suc n)), tt))
plain-part n (part.Deleted k) = rw (part_data-deleted k) (plain-object (suc (suc (suc n))) (one_piece field.ResponseDeleteRange (deleted_data k)) refl (plain-deleted (suc (suc n)) k, tt))
plain-part n (part.Range found) = rw (part_data-range found) (plain-object (suc (suc (suc n))) (one_piece field.ResponseRange (found_data found)) refl (plain-found n found, tt))

put_done_back : put_done_in (part_data part.Put) ≡ Ok part.Put
unfolding put_done_in without snake camel
put_done_back =
    let ps = one_piece field.ResponsePut (object_of none) in
    let done = message_in-back field.ResponsePut (object_of (pieces ps)) (object_of none) (member_two _ ps _ refl refl refl) (object_of-is_object none) in
    let no_delete = member_two field.ResponseDeleteRange ps _ refl refl refl in
    let no_range = member_two field.ResponseRange ps _ refl refl refl in
    rw part_data-put (rw (done, no_delete, no_range) refl)

deleted_back : (n : ℤ) → IsCount n → deleted_in (part_data (part.Deleted n)) ≡ Ok (part.Deleted n)
unfolding deleted_in without snake camel
deleted_back n h =
    let ps = one_piece field.ResponseDeleteRange (deleted_data n) in
    let inner = object_of (pieces (deleted_pieces n)) in
    let delete = message_in-back field.ResponseDeleteRange (object_of (pieces ps)) inner (member_two field.ResponseDeleteRange ps _ refl refl refl ∙ ap (λ (x : Data). Some x) (deleted_data-pieces n)) (object_of-is_object (pieces (deleted_pieces n))) in
    let count = count_in-back field.Deleted inner n (member_one _ (deleted_pieces n) _ refl refl refl) h in
    let no_put = member_two field.ResponsePut ps _ refl refl refl in
    let no_range = member_two field.ResponseRange ps _ refl refl refl in
    rw (part_data-deleted n) (rw (delete, count, no_put, no_range) refl)

range_part_back : (found : RangeAns) → FoundFits found → range_part_in (part_data (part.Range found)) ≡ Ok (part.Range found)
unfolding range_part_in without snake camel
range_part_back found h =
    let ps = one_piece field.ResponseRange (found_data found) in
    let range = message_in-back field.ResponseRange (object_of (pieces ps)) (found_data found) (member_two field.ResponseRange ps _ refl refl refl) (rw (found_data-pieces found) (object_of-is_object (pieces (found_pieces found)))) in
    let no_put = member_two field.ResponsePut ps _ refl refl refl in
    let no_delete = member_two field.ResponseDeleteRange ps _ refl refl refl in
    rw (part_data-range found) (rw (range, found_back found h, no_put, no_delete) refl)

part_back : (a : Act) (p : ActAns) → PartFits a p → part_in a (part_data p) ≡ Ok p
unfolding part_in
part_back (act.Put key value lease) part.Put h = put_done_back
part_back (act.Put key value lease) (part.Deleted n) h = absurd h
part_back (act.Put key value lease) (part.Range found) h = absurd h
part_back (act.Delete key) part.Put h = absurd h
part_back (act.Delete key) (part.Deleted n) h = deleted_back n h
part_back (act.Delete key) (part.Range found) h = absurd h
part_back (act.Range r) part.Put h = absurd h
part_back (act.Range r) (part.Deleted n) h = absurd h
part_back (act.Range r) (part.Range found) h = range_part_back found h

parts_back : (acts : List Act) (ps : List ActAns) → PartsFit acts ps → parts_in acts (items_of (map part_data ps)) ≡ Ok ps
unfolding parts_in
parts_back [] [] h = refl
parts_back [] (p ∷ ps) h = absurd h
parts_back (a ∷ acts) [] h = absurd h
parts_back (a ∷ acts) (p ∷ ps) h = rw (part_back a p h.0, parts_back acts ps h.1) refl

-- ---- the answers to transactions and ranges

abbrev txn_answer_pieces : ℤ → List ActAns → Bool → List (Field × Option Data)
txn_answer_pieces revision parts succeeded =
    (field.Header, Some (header_data revision))
    ∷ (field.Responses, if_some (map part_data parts))
    ∷ (field.Succeeded, if_true succeeded)
    ∷ []

txn_answer_data-pieces : (revision : ℤ) (parts : List ActAns) (succeeded : Bool) → txn_answer_data revision parts succeeded ≡ object_of (pieces (txn_answer_pieces revision parts succeeded))
unfolding txn_answer_data none
txn_answer_data-pieces revision parts succeeded = ap object_of (more (more (given-piece _ _) (list_if-piece _ _)) (true_if-piece _ _) ∙ gathered-pieces [] (txn_answer_pieces revision parts succeeded))

plain-txn_answer : (revision : ℤ) (parts : List ActAns) (succeeded : Bool) → Plain 127 (txn_answer_data revision parts succeeded)
unfolding snake
plain-txn_answer revision parts succeeded = rw (txn_answer_data-pieces revision parts succeeded)
    (plain-object 126 (txn_answer_pieces revision parts succeeded) refl (plain-header 125 revision, (plain-list 125 part_data (plain-part 121) parts, (plain-flag 126 succeeded, tt))))

held_back : (guards : List Guard) (succeeded : Bool) → CanCome guards succeeded → held guards succeeded ≡ Ok succeeded
unfolding held
held_back [] true come = refl
held_back [] false come = absurd cc
held_back (guard ∷ guards) succeeded come = refl

txn_answer_back : (t : TxnReq) (revision : ℤ) (parts : List ActAns) (succeeded : Bool) → IsCount revision → PartsFit (if succeeded then t.success else t.failure) parts → CanCome t.guards succeeded → txn_answer_in t (txn_answer_data revision parts succeeded) ≡ Ok (answer.Txn revision succeeded parts)
unfolding txn_answer_in snake camel
txn_answer_back t revision parts succeeded h k come =
    let ps = txn_answer_pieces revision parts succeeded in
    let d = object_of (pieces ps) in
    let revised = revision_back d revision (member_one _ ps _ refl refl refl) h in
    let flag = flag_in-back field.Succeeded d succeeded (member_one _ ps _ refl refl refl) in
    let responses = items_in-back field.Responses d (map part_data parts) (member_one _ ps _ refl refl refl) in
    rw (txn_answer_data-pieces revision parts succeeded) (rw (revised, flag, responses, parts_back (if succeeded then t.success else t.failure) parts k, held_back t.guards succeeded come) refl)

abbrev range_answer_pieces : ℤ → RangeAns → List (Field × Option Data)
range_answer_pieces revision found =
    (field.Count, unless_zero found.count)
    ∷ (field.Header, Some (header_data revision))
    ∷ (field.Kvs, if_some (map kv_data found.kvs))
    ∷ (field.More, if_true found.more)
    ∷ []

range_answer_data-pieces : (revision : ℤ) (found : RangeAns) → range_answer_data revision found ≡ object_of (pieces (range_answer_pieces revision found))
unfolding range_answer_data none
range_answer_data-pieces revision found = ap object_of (more (more (more (number_if-piece _ _) (given-piece _ _)) (list_if-piece _ _)) (true_if-piece _ _) ∙ gathered-pieces [] (range_answer_pieces revision found))

plain-range_answer : (revision : ℤ) (found : RangeAns) → Plain 127 (range_answer_data revision found)
unfolding snake
plain-range_answer revision found = rw (range_answer_data-pieces revision found)
    (plain-object 126 (range_answer_pieces revision found) refl (plain-digits 126 found.count, (plain-header 125 revision, (plain-list 125 kv_data (plain-kv 124) found.kvs, (plain-flag 126 found.more, tt)))))

range_answer_back : (revision : ℤ) (found : RangeAns) → IsCount revision → FoundFits found → range_answer_in (range_answer_data revision found) ≡ Ok (answer.Range revision found)
unfolding range_answer_in snake camel
range_answer_back revision found h k =
    let ps = range_answer_pieces revision found in
    let d = object_of (pieces ps) in
    let revised = revision_back d revision (member_one _ ps _ refl refl refl) h in
    let all = found_from d found (member_one _ ps _ refl refl refl) (member_one _ ps _ refl refl refl) (member_one _ ps _ refl refl refl) k in
    rw (range_answer_data-pieces revision found) (rw (revised, all) refl)

-- ---- the answers about leases

abbrev granted_pieces : ℤ → ℤ → ℤ → List (Field × Option Data)
granted_pieces revision id ttl = (field.Id, Some (in_digits id)) ∷ (field.Ttl, Some (in_digits ttl)) ∷ (field.Header, Some (header_data revision)) ∷ []

granted_data-pieces : (revision id ttl : ℤ) → granted_data revision id ttl ≡ object_of (pieces (granted_pieces revision id ttl))
unfolding granted_data none
granted_data-pieces revision id ttl = ap object_of (more (more (number-piece _ _) (number-piece _ _)) (given-piece _ _) ∙ gathered-pieces [] (granted_pieces revision id ttl))

plain-granted : (revision id ttl : ℤ) → Plain 127 (granted_data revision id ttl)
unfolding snake
plain-granted revision id ttl = rw (granted_data-pieces revision id ttl) (plain-object 126 (granted_pieces revision id ttl) refl (plain-string 126 _, (plain-string 126 _, (plain-header 125 revision, tt))))

granted_back : (revision id ttl : ℤ) → IsCount revision → IsLease id → IsCount ttl → granted_in (granted_data revision id ttl) ≡ Ok (answer.Granted revision id ttl)
unfolding granted_in snake camel
granted_back revision id ttl h k l =
    let ps = granted_pieces revision id ttl in
    let d = object_of (pieces ps) in
    let named = lease_in-written field.Id d id (member_one _ ps _ refl refl refl) k in
    let seconds = count_in-written field.Ttl d ttl (member_one _ ps _ refl refl refl) l in
    let revised = revision_back d revision (member_one _ ps _ refl refl refl) h in
    rw (granted_data-pieces revision id ttl) (rw (named, seconds, revised) refl)

abbrev alive_pieces : ℤ → ℤ → ℤ → List (Field × Option Data)
alive_pieces revision id ttl = (field.Id, Some (in_digits id)) ∷ (field.Ttl, unless_zero ttl) ∷ (field.Header, Some (header_data revision)) ∷ []

alive_data-pieces : (revision id ttl : ℤ) → alive_data revision id ttl ≡ object_of (pieces (alive_pieces revision id ttl))
unfolding alive_data none
alive_data-pieces revision id ttl = ap object_of (more (more (number-piece _ _) (number_if-piece _ _)) (given-piece _ _) ∙ gathered-pieces [] (alive_pieces revision id ttl))

plain-alive : (revision id ttl : ℤ) → Plain 126 (alive_data revision id ttl)
unfolding snake
plain-alive revision id ttl = rw (alive_data-pieces revision id ttl) (plain-object 125 (alive_pieces revision id ttl) refl (plain-string 125 _, (plain-digits 125 ttl, (plain-header 124 revision, tt))))

kept_back : (revision id ttl : ℤ) → IsCount revision → IsLease id → IsCount ttl → kept_in (alive_data revision id ttl) ≡ Ok (answer.Alive revision id ttl)
unfolding kept_in snake camel
kept_back revision id ttl h k l =
    let ps = alive_pieces revision id ttl in
    let d = object_of (pieces ps) in
    let named = lease_in-written field.Id d id (member_one _ ps _ refl refl refl) k in
    let seconds = count_in-back field.Ttl d ttl (member_one _ ps _ refl refl refl) l in
    let revised = revision_back d revision (member_one _ ps _ refl refl refl) h in
    rw (alive_data-pieces revision id ttl) (rw (named, seconds, revised) refl)

pub result_in-back : (d v : Data) → member_of field.Result d ≡ Some v → is_object v ≡ true → result_in d ≡ Ok v
unfolding result_in
result_in-back d v e h = rw (e, h) refl

kept_alive_data-pieces : (revision id ttl : ℤ) → answer_data (answer.Alive revision id ttl) ≡ object_of (pieces (one_piece field.Result (alive_data revision id ttl)))
unfolding answer_data none
kept_alive_data-pieces revision id ttl = ap object_of (given-piece _ _ ∙ gathered-pieces [] (one_piece field.Result (alive_data revision id ttl)))

kept_alive_back : (revision id ttl : ℤ) → IsCount revision → IsLease id → IsCount ttl → kept_alive_in (answer_data (answer.Alive revision id ttl)) ≡ Ok (answer.Alive revision id ttl)
unfolding kept_alive_in snake camel
kept_alive_back revision id ttl h k l =
    let ps = one_piece field.Result (alive_data revision id ttl) in
    let result = result_in-back (object_of (pieces ps)) (alive_data revision id ttl) (member_one _ ps _ refl refl refl) (rw (alive_data-pieces revision id ttl) (object_of-is_object (pieces (alive_pieces revision id ttl)))) in
    rw (kept_alive_data-pieces revision id ttl) (rw (result, kept_back revision id ttl h k l) refl)

-- ---- all answers

pub plain-answer : (a : Answer) → Plain 127 (answer_data a)
unfolding answer_data snake
plain-answer (answer.Txn revision succeeded parts) = plain-txn_answer revision parts succeeded
plain-answer (answer.Range revision found) = plain-range_answer revision found
plain-answer (answer.Granted revision id ttl) = plain-granted revision id ttl
plain-answer (answer.Alive revision id ttl) = rw (kept_alive_data-pieces revision id ttl) (plain-object 126 (one_piece field.Result (alive_data revision id ttl)) refl (plain-alive revision id ttl, tt))

pub answer_back : (asked : Ask) (a : Answer) → AnswerFits asked a → answer_in asked (answer_data a) ≡ Ok a
unfolding answer_in answer_data
answer_back (ask.Txn t) (answer.Txn revision succeeded parts) h = txn_answer_back t revision parts succeeded h.0 h.1 h.2
answer_back (ask.Txn t) (answer.Range revision found) h = absurd h
answer_back (ask.Txn t) (answer.Granted revision id ttl) h = absurd h
answer_back (ask.Txn t) (answer.Alive revision id ttl) h = absurd h
answer_back (ask.Range r) (answer.Txn revision succeeded parts) h = absurd h
answer_back (ask.Range r) (answer.Range revision found) h = range_answer_back revision found h.0 h.1
answer_back (ask.Range r) (answer.Granted revision id ttl) h = absurd h
answer_back (ask.Range r) (answer.Alive revision id ttl) h = absurd h
answer_back (ask.Grant id ttl) (answer.Txn revision succeeded parts) h = absurd h
answer_back (ask.Grant id ttl) (answer.Range revision found) h = absurd h
answer_back (ask.Grant id ttl) (answer.Granted revision granted left) h = granted_back revision granted left h.0 h.1 h.2
answer_back (ask.Grant id ttl) (answer.Alive revision kept left) h = absurd h
answer_back (ask.Alive id) (answer.Txn revision succeeded parts) h = absurd h
answer_back (ask.Alive id) (answer.Range revision found) h = absurd h
answer_back (ask.Alive id) (answer.Granted revision granted left) h = absurd h
answer_back (ask.Alive id) (answer.Alive revision kept left) h = kept_alive_back revision kept left h.0 h.1 h.2
