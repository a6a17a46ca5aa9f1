-- Each ask that was written reads back.
use Rattle.std.proofs.Common.{◌≡◌, ℕ, suc, true, List, [], ◌∷◌, map, Option, Some, Ok, refl, ap, ◌∙◌}
use Rattle.std.specs.Prelude.{ℤ, codes}
use Rattle.serde_json.specs.Data.{Data, string}
use Rattle.ev_types.specs.declared.ask.RangeReq.{RangeReq}
use Rattle.ev_types.specs.declared.ask.Guard.{Guard}
use Rattle.ev_types.specs.declared.ask.Act.{Act}
use Rattle.ev_types.specs.declared.ask.Act.TheVariants as act
use Rattle.ev_types.specs.declared.ask.TxnReq.{TxnReq}
use Rattle.ev_types.specs.declared.ask.Ask.{Ask}
use Rattle.ev_types.specs.declared.ask.Ask.TheVariants as ask
use Rattle.ev_fields.specs.declared.field.Field.{Field}
use Rattle.ev_fields.specs.declared.field.Field.TheVariants as field
use Rattle.ev_fields.specs.Names.{snake, camel}
use Rattle.ev_fields.specs.Members.{none, object_of}
use Rattle.ev_json.specs.Messages.{guard_data, range_data, put_data, delete_data, act_data, txn_data, ask_data, route_of, create_data, watch_data}
use Rattle.ev_fields.specs.Kinds.{without, word_in, word_or_none, word_of}
use Rattle.ev_json.specs.Asks.{guard_in, range_in, put_in, delete_in, range_act_in, act_in, txn_in, txn_ask_in, range_ask_in, grant_in, alive_in, ask_in, watch_in}
use Rattle.ev_fields.specs.Ranges.{IsKey, IsPositiveCount, IsPositiveLease}
use Rattle.ev_json.specs.Ranges.{GuardFits, RangeFits, ActFits, TxnFits, AskFits}
use Rattle.ev_fields.proofs.Backs.{in_digits, coded, unless_zero, unless_empty, if_true, if_some, given-piece, number-piece, number_if-piece, bytes-piece, bytes_if-piece, true_if-piece, text-piece, list_if-piece, more, count_in-back, count_in-written, lease_in-back, bytes_in-back, bytes_in-written, key_in-back, flag_in-back, positive_count-back, positive_lease-back, message_in-back, object_of-is_object, list_in-back, plain-digits, plain-coded, plain-flag, plain-list}
use Rattle.ev_fields.proofs.Rising.{pieces, one_piece, gathered-pieces, member_one, member_two, Plain, plain-string, plain-object}

-- ---- compares

abbrev guard_pieces : Guard → List (Field × Option Data)
guard_pieces g =
    (field.Key, Some (coded g.key))
    ∷ (field.ModRevision, Some (in_digits g.mod_revision))
    ∷ (field.Result, Some (string (codes "EQUAL")))
    ∷ (field.Target, Some (string (codes "MOD")))
    ∷ []

guard_data-pieces : (g : Guard) → guard_data g ≡ object_of (pieces (guard_pieces g))
unfolding guard_data none
guard_data-pieces g = ap object_of (more (more (more (bytes-piece _ _) (number-piece _ _)) (text-piece _ _)) (text-piece _ _) ∙ gathered-pieces [] (guard_pieces g))

plain-guard : (n : ℕ) (g : Guard) → Plain (suc n) (guard_data g)
unfolding snake
plain-guard n g = rw (guard_data-pieces g) (plain-object n (guard_pieces g) refl (plain-string n _, (plain-string n _, (plain-string n _, (plain-string n _, tt)))))

guard_back : (g : Guard) → GuardFits g → guard_in (guard_data g) ≡ Ok g
unfolding guard_in snake camel word_in word_or_none word_of without
guard_back g h =
    let d = object_of (pieces (guard_pieces g)) in
    let key = key_in-back d g.key (member_one field.Key (guard_pieces g) _ refl refl refl) h.0 in
    let revision = count_in-written field.ModRevision d g.mod_revision (member_two _ (guard_pieces g) _ refl refl refl) h.1 in
    let no_end = member_two field.RangeEnd (guard_pieces g) _ refl refl refl in
    let equal = member_one field.Result (guard_pieces g) _ refl refl refl in
    let target = member_one field.Target (guard_pieces g) _ refl refl refl in
    rw (guard_data-pieces g) (rw (key, revision, no_end, equal, target) refl)

-- ---- ranges

abbrev range_pieces : RangeReq → List (Field × Option Data)
range_pieces r =
    (field.Key, Some (coded r.key))
    ∷ (field.KeysOnly, if_true r.keys_only)
    ∷ (field.Limit, unless_zero r.limit)
    ∷ (field.RangeEnd, unless_empty r.end)
    ∷ (field.Revision, unless_zero r.revision)
    ∷ []

range_data-pieces : (r : RangeReq) → range_data r ≡ object_of (pieces (range_pieces r))
unfolding range_data none
range_data-pieces r = ap object_of (more (more (more (more (bytes-piece _ _) (true_if-piece _ _)) (number_if-piece _ _)) (bytes_if-piece _ _)) (number_if-piece _ _) ∙ gathered-pieces [] (range_pieces r))

plain-range : (n : ℕ) (r : RangeReq) → Plain (suc n) (range_data r)
unfolding snake
plain-range n r = rw (range_data-pieces r) (plain-object n (range_pieces r) refl (plain-string n _, (plain-flag n r.keys_only, (plain-digits n r.limit, (plain-coded n r.end, (plain-digits n r.revision, tt))))))

range_back : (r : RangeReq) → RangeFits r → range_in (range_data r) ≡ Ok r
unfolding range_in snake camel
range_back r h =
    let d = object_of (pieces (range_pieces r)) in
    let key = key_in-back d r.key (member_one field.Key (range_pieces r) _ refl refl refl) h.0 in
    let keys_only = flag_in-back field.KeysOnly d r.keys_only (member_two _ (range_pieces r) _ refl refl refl) in
    let limit = count_in-back field.Limit d r.limit (member_one _ (range_pieces r) _ refl refl refl) h.3 in
    let end = bytes_in-back field.RangeEnd d r.end (member_two _ (range_pieces r) _ refl refl refl) h.1 in
    let revision = count_in-back field.Revision d r.revision (member_one _ (range_pieces r) _ refl refl refl) h.2 in
    rw (range_data-pieces r) (rw (key, keys_only, limit, end, revision) refl)

-- ---- operations

abbrev put_pieces : List ℕ → List ℕ → ℤ → List (Field × Option Data)
put_pieces key value lease = (field.Key, Some (coded key)) ∷ (field.Lease, unless_zero lease) ∷ (field.Value, Some (coded value)) ∷ []

put_data-pieces : (key value : List ℕ) (lease : ℤ) → put_data key value lease ≡ object_of (pieces (put_pieces key value lease))
unfolding put_data none
put_data-pieces key value lease = ap object_of (more (more (bytes-piece _ _) (number_if-piece _ _)) (bytes-piece _ _) ∙ gathered-pieces [] (put_pieces key value lease))

plain-put : (n : ℕ) (key value : List ℕ) (lease : ℤ) → Plain (suc n) (put_data key value lease)
unfolding snake
plain-put n key value lease = rw (put_data-pieces key value lease) (plain-object n (put_pieces key value lease) refl (plain-string n _, (plain-digits n lease, (plain-string n _, tt))))

abbrev delete_pieces : List ℕ → List (Field × Option Data)
delete_pieces key = (field.Key, Some (coded key)) ∷ []

delete_data-pieces : (key : List ℕ) → delete_data key ≡ object_of (pieces (delete_pieces key))
unfolding delete_data none
delete_data-pieces key = ap object_of (bytes-piece _ _ ∙ gathered-pieces [] (delete_pieces key))

plain-delete : (n : ℕ) (key : List ℕ) → Plain (suc n) (delete_data key)
unfolding snake
plain-delete n key = rw (delete_data-pieces key) (plain-object n (delete_pieces key) refl (plain-string n _, tt))

act_data-put : (key value : List ℕ) (lease : ℤ) → act_data (act.Put key value lease) ≡ object_of (pieces (one_piece field.RequestPut (put_data key value lease)))
unfolding act_data none
act_data-put key value lease = ap object_of (given-piece _ _ ∙ gathered-pieces [] (one_piece field.RequestPut (put_data key value lease)))

act_data-delete : (key : List ℕ) → act_data (act.Delete key) ≡ object_of (pieces (one_piece field.RequestDeleteRange (delete_data key)))
unfolding act_data none
act_data-delete key = ap object_of (given-piece _ _ ∙ gathered-pieces [] (one_piece field.RequestDeleteRange (delete_data key)))

act_data-range : (r : RangeReq) → act_data (act.Range r) ≡ object_of (pieces (one_piece field.RequestRange (range_data r)))
unfolding act_data none
act_data-range r = ap object_of (given-piece _ _ ∙ gathered-pieces [] (one_piece field.RequestRange (range_data r)))

plain-act : (n : ℕ) (a : Act) → Plain (suc (suc n)) (act_data a)
unfolding snake
plain-act n (act.Put key value lease) = rw (act_data-put key value lease) (plain-object (suc n) (one_piece field.RequestPut (put_data key value lease)) refl (plain-put n key value lease, tt))
plain-act n (act.Delete key) = rw (act_data-delete key) (plain-object (suc n) (one_piece field.RequestDeleteRange (delete_data key)) refl (plain-delete n key, tt))
plain-act n (act.Range r) = rw (act_data-range r) (plain-object (suc n) (one_piece field.RequestRange (range_data r)) refl (plain-range n r, tt))

put_back : (key value : List ℕ) (lease : ℤ) → ActFits (act.Put key value lease) → act_in (act_data (act.Put key value lease)) ≡ Ok (act.Put key value lease)
unfolding act_in put_in snake camel without
put_back key value lease h =
    let ps = one_piece field.RequestPut (put_data key value lease) in
    let d = object_of (pieces ps) in
    let inner = object_of (pieces (put_pieces key value lease)) in
    let there = member_two field.RequestPut ps _ refl refl refl in
    let put = message_in-back field.RequestPut d inner (there ∙ ap (λ (x : Data). Some x) (put_data-pieces key value lease)) (object_of-is_object (pieces (put_pieces key value lease))) in
    let keyed = key_in-back inner key (member_one field.Key (put_pieces key value lease) _ refl refl refl) h.0 in
    let leased = lease_in-back field.Lease inner lease (member_one _ (put_pieces key value lease) _ refl refl refl) h.2 in
    let valued = bytes_in-written field.Value inner value (member_one _ (put_pieces key value lease) _ refl refl refl) h.1 in
    let no_delete = member_two field.RequestDeleteRange ps _ refl refl refl in
    let no_range = member_two field.RequestRange ps _ refl refl refl in
    rw (act_data-put key value lease) (rw (there, put, keyed, leased, valued, no_delete, no_range) refl)

delete_back : (key : List ℕ) → ActFits (act.Delete key) → act_in (act_data (act.Delete key)) ≡ Ok (act.Delete key)
unfolding act_in delete_in snake camel without
delete_back key h =
    let ps = one_piece field.RequestDeleteRange (delete_data key) in
    let d = object_of (pieces ps) in
    let inner = object_of (pieces (delete_pieces key)) in
    let no_put = member_two field.RequestPut ps _ refl refl refl in
    let there = member_two field.RequestDeleteRange ps _ refl refl refl in
    let delete = message_in-back field.RequestDeleteRange d inner (there ∙ ap (λ (x : Data). Some x) (delete_data-pieces key)) (object_of-is_object (pieces (delete_pieces key))) in
    let keyed = key_in-back inner key (member_one field.Key (delete_pieces key) _ refl refl refl) h in
    let no_end = member_two field.RangeEnd (delete_pieces key) _ refl refl refl in
    let no_range = member_two field.RequestRange ps _ refl refl refl in
    rw (act_data-delete key) (rw (no_put, there, delete, keyed, no_end, no_range) refl)

range_act_back : (r : RangeReq) → RangeFits r → act_in (act_data (act.Range r)) ≡ Ok (act.Range r)
unfolding act_in range_act_in snake camel
range_act_back r h =
    let ps = one_piece field.RequestRange (range_data r) in
    let d = object_of (pieces ps) in
    let no_put = member_two field.RequestPut ps _ refl refl refl in
    let no_delete = member_two field.RequestDeleteRange ps _ refl refl refl in
    let there = member_two field.RequestRange ps _ refl refl refl in
    let range = message_in-back field.RequestRange d (range_data r) there (rw (range_data-pieces r) (object_of-is_object (pieces (range_pieces r)))) in
    rw (act_data-range r) (rw (no_put, no_delete, range, range_back r h) refl)

act_back : (a : Act) → ActFits a → act_in (act_data a) ≡ Ok a
act_back (act.Put key value lease) h = put_back key value lease h
act_back (act.Delete key) h = delete_back key h
act_back (act.Range r) h = range_act_back r h

-- ---- transactions

abbrev txn_pieces : TxnReq → List (Field × Option Data)
txn_pieces t =
    (field.Compare, if_some (map guard_data t.guards))
    ∷ (field.Failure, if_some (map act_data t.failure))
    ∷ (field.Success, if_some (map act_data t.success))
    ∷ []

txn_data-pieces : (t : TxnReq) → txn_data t ≡ object_of (pieces (txn_pieces t))
unfolding txn_data none
txn_data-pieces t = ap object_of (more (more (list_if-piece _ _) (list_if-piece _ _)) (list_if-piece _ _) ∙ gathered-pieces [] (txn_pieces t))

plain-txn : (n : ℕ) (t : TxnReq) → Plain (suc (suc (suc (suc n)))) (txn_data t)
unfolding snake
plain-txn n t =
    let acts = plain-act n in
    rw (txn_data-pieces t) (plain-object (suc (suc (suc n))) (txn_pieces t) refl (plain-list (suc (suc n)) guard_data (plain-guard (suc n)) t.guards, (plain-list (suc (suc n)) act_data acts t.failure, (plain-list (suc (suc n)) act_data acts t.success, tt))))

txn_back : (t : TxnReq) → TxnFits t → txn_in (txn_data t) ≡ Ok t
unfolding txn_in snake camel
txn_back t h =
    let d = object_of (pieces (txn_pieces t)) in
    let is = object_of-is_object (pieces (txn_pieces t)) in
    let guards = list_in-back GuardFits guard_data guard_in guard_back field.Compare d t.guards (member_one _ (txn_pieces t) _ refl refl refl) h.0 in
    let failure = list_in-back ActFits act_data act_in act_back field.Failure d t.failure (member_one _ (txn_pieces t) _ refl refl refl) h.2 in
    let success = list_in-back ActFits act_data act_in act_back field.Success d t.success (member_one _ (txn_pieces t) _ refl refl refl) h.1 in
    rw (txn_data-pieces t) (rw (is, guards, failure, success) refl)

-- ---- leases

abbrev grant_pieces : ℤ → ℤ → List (Field × Option Data)
grant_pieces id ttl = (field.Id, Some (in_digits id)) ∷ (field.Ttl, Some (in_digits ttl)) ∷ []

grant_data-pieces : (id ttl : ℤ) → ask_data (ask.Grant id ttl) ≡ object_of (pieces (grant_pieces id ttl))
unfolding ask_data none
grant_data-pieces id ttl = ap object_of (more (number-piece _ _) (number-piece _ _) ∙ gathered-pieces [] (grant_pieces id ttl))

abbrev alive_pieces : ℤ → List (Field × Option Data)
alive_pieces id = one_piece field.Id (in_digits id)

alive_data-pieces : (id : ℤ) → ask_data (ask.Alive id) ≡ object_of (pieces (alive_pieces id))
unfolding ask_data none
alive_data-pieces id = ap object_of (number-piece _ _ ∙ gathered-pieces [] (alive_pieces id))

grant_back : (id ttl : ℤ) → IsPositiveLease id → IsPositiveCount ttl → grant_in (ask_data (ask.Grant id ttl)) ≡ Ok (ask.Grant id ttl)
unfolding grant_in snake camel
grant_back id ttl h k =
    let d = object_of (pieces (grant_pieces id ttl)) in
    let named = positive_lease-back field.Id d id (member_one _ (grant_pieces id ttl) _ refl refl refl) h in
    let seconds = positive_count-back field.Ttl d ttl (member_one _ (grant_pieces id ttl) _ refl refl refl) k in
    rw (grant_data-pieces id ttl) (rw (named, seconds) refl)

alive_back : (id : ℤ) → IsPositiveLease id → alive_in (ask_data (ask.Alive id)) ≡ Ok (ask.Alive id)
unfolding alive_in snake camel
alive_back id h =
    let named = positive_lease-back field.Id (object_of (pieces (alive_pieces id))) id (member_one _ (alive_pieces id) _ refl refl refl) h in
    rw (alive_data-pieces id) (rw named refl)

-- ---- all asks

pub plain-ask : (a : Ask) → Plain 127 (ask_data a)
unfolding ask_data snake
plain-ask (ask.Txn t) = plain-txn 123 t
plain-ask (ask.Range r) = plain-range 126 r
plain-ask (ask.Grant id ttl) = rw (grant_data-pieces id ttl) (plain-object 126 (grant_pieces id ttl) refl (plain-string 126 _, (plain-string 126 _, tt)))
plain-ask (ask.Alive id) = rw (alive_data-pieces id) (plain-object 126 (alive_pieces id) refl (plain-string 126 _, tt))

pub ask_back : (a : Ask) → AskFits a → ask_in (route_of a) (ask_data a) ≡ Ok a
unfolding ask_in route_of ask_data txn_ask_in range_ask_in
ask_back (ask.Txn t) h = rw (txn_back t h) refl
ask_back (ask.Range r) h = rw (range_back r h) refl
ask_back (ask.Grant id ttl) h = grant_back id ttl h.0 h.1
ask_back (ask.Alive id) h = alive_back id h

-- ---- watches

abbrev create_pieces : ℤ → List ℕ → List (Field × Option Data)
create_pieces from key =
    (field.Fragment, if_true true)
    ∷ (field.Key, Some (coded key))
    ∷ (field.ProgressNotify, if_true true)
    ∷ (field.StartRevision, Some (in_digits from))
    ∷ []

create_data-pieces : (from : ℤ) (key : List ℕ) → create_data from key ≡ object_of (pieces (create_pieces from key))
unfolding create_data none
create_data-pieces from key = ap object_of (more (more (more (true_if-piece _ _) (bytes-piece _ _)) (true_if-piece _ _)) (number-piece _ _) ∙ gathered-pieces [] (create_pieces from key))

watch_data-pieces : (from : ℤ) (key : List ℕ) → watch_data from key ≡ object_of (pieces (one_piece field.CreateRequest (create_data from key)))
unfolding watch_data none
watch_data-pieces from key = ap object_of (given-piece _ _ ∙ gathered-pieces [] (one_piece field.CreateRequest (create_data from key)))

pub plain-watch : (from : ℤ) (key : List ℕ) → Plain 127 (watch_data from key)
unfolding snake
plain-watch from key =
    let inner : Plain 126 (create_data from key) = rw (create_data-pieces from key) (plain-object 125 (create_pieces from key) refl (plain-flag 125 true, (plain-string 125 _, (plain-flag 125 true, (plain-string 125 _, tt))))) in
    rw (watch_data-pieces from key) (plain-object 126 (one_piece field.CreateRequest (create_data from key)) refl (inner, tt))

pub watch_back : (from : ℤ) (key : List ℕ) → IsPositiveCount from → IsKey key → watch_in (watch_data from key) ≡ Ok (from, key)
unfolding watch_in snake camel
watch_back from key h k =
    let ps = one_piece field.CreateRequest (create_data from key) in
    let inner = object_of (pieces (create_pieces from key)) in
    let request = message_in-back field.CreateRequest (object_of (pieces ps)) inner (member_two field.CreateRequest ps _ refl refl refl ∙ ap (λ (x : Data). Some x) (create_data-pieces from key)) (object_of-is_object (pieces (create_pieces from key))) in
    let keyed = key_in-back inner key (member_one field.Key (create_pieces from key) _ refl refl refl) k in
    let start = positive_count-back field.StartRevision inner from (member_two _ (create_pieces from key) _ refl refl refl) h in
    rw (watch_data-pieces from key) (rw (request, keyed, start) refl)
