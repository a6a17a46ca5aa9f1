-- Each key with its value that was written reads back.
use Rattle.std.proofs.Common.{◌≡◌, ℕ, suc, List, [], ◌∷◌, Option, Some, Ok, refl, ap, ◌∙◌}
use Rattle.serde_json.specs.Data.{Data}
use Rattle.ev_types.specs.declared.answer.Kv.{Kv}
use Rattle.ev_fields.specs.declared.field.Field.{Field}
use Rattle.ev_fields.specs.declared.field.Field.TheVariants as field
use Rattle.ev_fields.specs.Names.{snake, camel}
use Rattle.ev_fields.specs.Members.{none, object_of}
use Rattle.ev_json.specs.Messages.{kv_data}
use Rattle.ev_json.specs.Answers.{kv_in}
use Rattle.ev_json.specs.Ranges.{KvFits}
use Rattle.ev_fields.proofs.Backs.{coded, unless_zero, unless_empty, number_if-piece, bytes-piece, bytes_if-piece, more, count_in-back, lease_in-back, needed_bytes-back, bytes_in-back, plain-digits, plain-coded}
use Rattle.ev_fields.proofs.Rising.{pieces, gathered-pieces, member_one, member_two, Plain, plain-string, plain-object}

abbrev kv_pieces : Kv → List (Field × Option Data)
kv_pieces kv =
    (field.CreateRevision, unless_zero kv.create_revision)
    ∷ (field.Key, Some (coded kv.key))
    ∷ (field.Lease, unless_zero kv.lease)
    ∷ (field.ModRevision, unless_zero kv.mod_revision)
    ∷ (field.Value, unless_empty kv.value)
    ∷ (field.Version, unless_zero kv.version)
    ∷ []

kv_data-pieces : (kv : Kv) → kv_data kv ≡ object_of (pieces (kv_pieces kv))
unfolding kv_data none
kv_data-pieces kv = ap object_of (more (more (more (more (more (number_if-piece _ _) (bytes-piece _ _)) (number_if-piece _ _)) (number_if-piece _ _)) (bytes_if-piece _ _)) (number_if-piece _ _) ∙ gathered-pieces [] (kv_pieces kv))

pub plain-kv : (n : ℕ) (kv : Kv) → Plain (suc n) (kv_data kv)
unfolding snake
plain-kv n kv = rw (kv_data-pieces kv) (plain-object n (kv_pieces kv) refl (plain-digits n kv.create_revision, (plain-string n _, (plain-digits n kv.lease, (plain-digits n kv.mod_revision, (plain-coded n kv.value, (plain-digits n kv.version, tt)))))))

pub kv_back : (kv : Kv) → KvFits kv → kv_in (kv_data kv) ≡ Ok kv
unfolding kv_in snake camel
kv_back kv h =
    let d = object_of (pieces (kv_pieces kv)) in
    let create = count_in-back field.CreateRevision d kv.create_revision (member_two _ (kv_pieces kv) _ refl refl refl) h.2 in
    let key = needed_bytes-back field.Key d kv.key (member_one _ (kv_pieces kv) _ refl refl refl) h.0 in
    let lease = lease_in-back field.Lease d kv.lease (member_one _ (kv_pieces kv) _ refl refl refl) h.5 in
    let changed = count_in-back field.ModRevision d kv.mod_revision (member_two _ (kv_pieces kv) _ refl refl refl) h.3 in
    let value = bytes_in-back field.Value d kv.value (member_one _ (kv_pieces kv) _ refl refl refl) h.1 in
    let version = count_in-back field.Version d kv.version (member_one _ (kv_pieces kv) _ refl refl refl) h.4 in
    rw (kv_data-pieces kv) (rw (create, key, lease, changed, value, version) refl)
