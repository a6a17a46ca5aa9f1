-- Each line of a watch that was written reads back.
use Rattle.std.proofs.Common.{◌≡◌, ℕ, suc, ◌==◌, true, cond, List, [], ◌∷◌, length, map, Option, Some, None, Ok, refl, ap, ◌∙◌}
use Rattle.std.specs.Prelude.{ℤ, codes}
use Rattle.std.specs.List.{AllByRecursion}
use Rattle.std.proofs.lemmas.Bool.{ne_eqb, lt-ltb}
use Rattle.serde_json.specs.Data.{Data}
use Rattle.serde_json.specs.View.{items_of}
use Rattle.ev_types.specs.declared.answer.Kv.{Kv}
use Rattle.ev_fields.specs.declared.field.Field.{Field}
use Rattle.ev_fields.specs.declared.field.Field.TheVariants as field
use Rattle.ev_json.specs.declared.line.Line.{Line}
use Rattle.ev_json.specs.declared.line.Line.TheVariants as line
use Rattle.ev_json.specs.declared.line.Event.{Event}
use Rattle.ev_fields.specs.Names.{snake, camel}
use Rattle.ev_fields.specs.Members.{none, object_of, kv_member}
use Rattle.ev_json.specs.Messages.{header_data, kv_data, event_data, change_data, line_data, cancel_data, canceled_data}
use Rattle.ev_fields.specs.Kinds.{member_of, each, list_in, flag_in, count_in}
use Rattle.ev_json.specs.Answers.{deletion_in, event_in, puts_of, canceled_line, news_in, change_in, line_in}
use Rattle.ev_fields.specs.Ranges.{IsCount, IsPositiveCount}
use Rattle.ev_json.specs.Ranges.{KvFits, line_of}
use Rattle.ev_json.proofs.AnswerBack.{plain-header, revision_back, result_in-back}
use Rattle.ev_fields.proofs.Backs.{in_digits, if_true, if_some, given-piece, number-piece, count_in-written, true_if-piece, list_if-piece, more, flag_in-back, object_of-is_object, items_in-back, plain-flag, plain-list}
use Rattle.ev_json.proofs.KvBack.{plain-kv, kv_back}
use Rattle.ev_fields.proofs.Rising.{pieces, one_piece, gathered-pieces, member_one, member_two, Plain, plain-object, plain-single, plain-string}

-- ---- events

plain-event : (n : ℕ) (kv : Kv) → Plain (suc (suc n)) (event_data kv)
unfolding event_data none kv_member
plain-event n kv = plain-single (suc n) (codes "kv") (kv_data kv) (plain-kv n kv)

abbrev put_event : Kv → Event
put_event kv = record { kv = Some kv }

event_back : (kv : Kv) → KvFits kv → event_in (event_data kv) ≡ Ok (put_event kv)
unfolding event_in deletion_in event_data none kv_member object_of member_of snake camel
event_back kv h = rw (kv_back kv h) refl

events_back : (kvs : List Kv) → AllByRecursion KvFits kvs → each event_in (items_of (map event_data kvs)) ≡ Ok (map put_event kvs)
unfolding each
events_back [] h = refl
events_back (kv ∷ kvs) h = rw (event_back kv h.0, events_back kvs h.1) refl

puts_of-put_event : (kvs : List Kv) → puts_of (map put_event kvs) ≡ kvs
puts_of-put_event [] = refl
puts_of-put_event (kv ∷ kvs) = ap (λ (xs : List Kv). kv ∷ xs) (puts_of-put_event kvs)

-- ---- lines

abbrev change_pieces : List Kv → ℤ → List (Field × Option Data)
change_pieces kvs revision =
    (field.Created, if_true (length kvs == 0))
    ∷ (field.Events, if_some (map event_data kvs))
    ∷ (field.Header, Some (header_data revision))
    ∷ []

change_data-pieces : (kvs : List Kv) (revision : ℤ) → change_data kvs revision ≡ object_of (pieces (change_pieces kvs revision))
unfolding change_data none
change_data-pieces kvs revision = ap object_of (more (more (true_if-piece _ _) (list_if-piece _ _)) (given-piece _ _) ∙ gathered-pieces [] (change_pieces kvs revision))

plain-change : (kvs : List Kv) (revision : ℤ) → Plain 126 (change_data kvs revision)
unfolding snake
plain-change kvs revision = rw (change_data-pieces kvs revision)
    (plain-object 125 (change_pieces kvs revision) refl (plain-flag 125 (length kvs == 0), (plain-list 124 event_data (plain-event 122) kvs, (plain-header 124 revision, tt))))

line_data-pieces : (kvs : List Kv) (revision : ℤ) → line_data kvs revision ≡ object_of (pieces (one_piece field.Result (change_data kvs revision)))
unfolding line_data none
line_data-pieces kvs revision = ap object_of (given-piece _ _ ∙ gathered-pieces [] (one_piece field.Result (change_data kvs revision)))

pub plain-line : (kvs : List Kv) (revision : ℤ) → Plain 127 (line_data kvs revision)
unfolding snake
plain-line kvs revision = rw (line_data-pieces kvs revision) (plain-object 126 (one_piece field.Result (change_data kvs revision)) refl (plain-change kvs revision, tt))

said : (kvs : List Kv) (revision : ℤ) → cond (length kvs == 0) (line.Created revision) (line.Events revision kvs) ≡ line_of kvs revision
said [] revision = refl
said (kv ∷ kvs) revision = rw (ne_eqb (suc (length kvs)) 0 (λ e. cc)) refl

change_back : (kvs : List Kv) (revision : ℤ) → AllByRecursion KvFits kvs → IsCount revision → change_in (object_of (pieces (change_pieces kvs revision))) ≡ Ok (line_of kvs revision)
unfolding change_in news_in flag_in count_in list_in snake camel
change_back kvs revision h k =
    let ps = change_pieces kvs revision in
    let d = object_of (pieces ps) in
    let canceled = member_one field.Canceled ps None refl refl refl in
    let compacted = member_two field.CompactRevision ps None refl refl refl in
    let revised = revision_back d revision (member_one _ ps _ refl refl refl) k in
    let created = flag_in-back field.Created d (length kvs == 0) (member_one _ ps _ refl refl refl) in
    let events = items_in-back field.Events d (map event_data kvs) (member_one _ ps _ refl refl refl) in
    rw (canceled, compacted, revised, created, events, events_back kvs h, puts_of-put_event kvs) (ap (λ (l : Line). Ok l) (said kvs revision))

pub line_back : (kvs : List Kv) (revision : ℤ) → AllByRecursion KvFits kvs → IsCount revision → line_in (line_data kvs revision) ≡ Ok (line_of kvs revision)
unfolding line_in object_of snake camel
line_back kvs revision h k =
    let ps = one_piece field.Result (change_data kvs revision) in
    let inner = object_of (pieces (change_pieces kvs revision)) in
    let result = result_in-back (object_of (pieces ps)) inner (member_one field.Result ps _ refl refl refl ∙ ap (λ (x : Data). Some x) (change_data-pieces kvs revision)) (object_of-is_object (pieces (change_pieces kvs revision))) in
    rw (line_data-pieces kvs revision) (rw result (change_back kvs revision h k))

-- ---- a line that cancels a watch

abbrev cancel_pieces : ℤ → ℤ → List (Field × Option Data)
cancel_pieces compacted revision =
    (field.Canceled, if_true true)
    ∷ (field.CompactRevision, Some (in_digits compacted))
    ∷ (field.Header, Some (header_data revision))
    ∷ []

cancel_data-pieces : (compacted revision : ℤ) → cancel_data compacted revision ≡ object_of (pieces (cancel_pieces compacted revision))
unfolding cancel_data none
cancel_data-pieces compacted revision = ap object_of (more (more (true_if-piece _ _) (number-piece _ _)) (given-piece _ _) ∙ gathered-pieces [] (cancel_pieces compacted revision))

plain-cancel : (compacted revision : ℤ) → Plain 126 (cancel_data compacted revision)
unfolding snake
plain-cancel compacted revision = rw (cancel_data-pieces compacted revision)
    (plain-object 125 (cancel_pieces compacted revision) refl (plain-flag 125 true, (plain-string 125 _, (plain-header 124 revision, tt))))

canceled_data-pieces : (compacted revision : ℤ) → canceled_data compacted revision ≡ object_of (pieces (one_piece field.Result (cancel_data compacted revision)))
unfolding canceled_data none
canceled_data-pieces compacted revision = ap object_of (given-piece _ _ ∙ gathered-pieces [] (one_piece field.Result (cancel_data compacted revision)))

pub plain-canceled : (compacted revision : ℤ) → Plain 127 (canceled_data compacted revision)
unfolding snake
plain-canceled compacted revision = rw (canceled_data-pieces compacted revision) (plain-object 126 (one_piece field.Result (cancel_data compacted revision)) refl (plain-cancel compacted revision, tt))

above_none : (rev : ℤ) → IsPositiveCount rev → canceled_line rev ≡ line.Compacted rev
above_none rev h = rw h.1 (rw (lt-ltb 0 h.0 h.2) refl)

cancel_back : (compacted revision : ℤ) → IsPositiveCount compacted → change_in (object_of (pieces (cancel_pieces compacted revision))) ≡ Ok (line.Compacted compacted)
unfolding change_in snake camel
cancel_back compacted revision h =
    let ps = cancel_pieces compacted revision in
    let d = object_of (pieces ps) in
    let canceled = flag_in-back field.Canceled d true (member_one _ ps _ refl refl refl) in
    let rev = count_in-written field.CompactRevision d compacted (member_two _ ps _ refl refl refl) (h.0, h.1, h.3) in
    rw (canceled, rev) (ap (λ (l : Line). Ok l) (above_none compacted h))

pub canceled_back : (compacted revision : ℤ) → IsPositiveCount compacted → line_in (canceled_data compacted revision) ≡ Ok (line.Compacted compacted)
unfolding line_in object_of snake camel
canceled_back compacted revision h =
    let ps = one_piece field.Result (cancel_data compacted revision) in
    let inner = object_of (pieces (cancel_pieces compacted revision)) in
    let result = result_in-back (object_of (pieces ps)) inner (member_one field.Result ps _ refl refl refl ∙ ap (λ (x : Data). Some x) (cancel_data-pieces compacted revision)) (object_of-is_object (pieces (cancel_pieces compacted revision))) in
    rw (canceled_data-pieces compacted revision) (rw result (cancel_back compacted revision h))
