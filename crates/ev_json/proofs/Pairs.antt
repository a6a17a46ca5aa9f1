-- Reading the answers of a list of operations one after another, as a loop does.
use Rattle.std.proofs.Common.{◌≡◌, ℕ, ◌+◌, ◌≤◌, ◌<◌, List, [], ◌∷◌, ◌++◌, length, drop, get_or, Result, Ok, Err, refl, sym, ap, ◌∙◌}
use Rattle.std.proofs.lemmas.List.{append-nil, drop_all, drop_more}
use Rattle.serde_json.specs.Data.{Data, Items, no_items, item}
use Rattle.ev_types.specs.declared.ask.Act.{Act}
use Rattle.ev_types.specs.declared.answer.ActAns.{ActAns}
use Rattle.ev_fields.specs.declared.field.Field.{Field}
use Rattle.ev_fields.specs.declared.field.Field.TheVariants as field
use Rattle.ev_fields.specs.declared.fault.JsonFault.{JsonFault}
use Rattle.ev_fields.specs.declared.fault.JsonFault.TheVariants as fault
use Rattle.ev_json.specs.Answers.{part_in, parts_in}
use Rattle.ev_fields.specs.Gives.{Fails}
use Rattle.ev_json.proofs.Loop.{with_front, regroup}

abbrev pub rest_of : List Act → ℕ → Items → Result (List ActAns) Field
rest_of acts i ds = parts_in (drop i acts) ds

pub cut : (acts : List Act) (i : ℕ) (a : Act) → i < length acts → a ≡ get_or acts i a → drop i acts ≡ a ∷ drop (i + 1) acts
cut acts i a lt is = drop_more acts i a lt ∙ ap (λ (y : Act). y ∷ drop (i + 1) acts) (sym is)

pub part_goes_on : (front : List ActAns) (acts : List Act) (i : ℕ) (a : Act) (ds rest : Items) (d : Data) (y : ActAns) (total : Result (List ActAns) Field)
    → i < length acts → a ≡ get_or acts i a → ds ≡ item d rest → part_in a d ≡ Ok y
    → with_front front (rest_of acts i ds) ≡ total → with_front (front ++ y ∷ []) (rest_of acts (i + 1) rest) ≡ total
unfolding parts_in
part_goes_on front acts i a ds rest d y total lt at is h so_far =
    let one : with_front front (rest_of acts i ds) ≡ with_front (front ++ y ∷ []) (rest_of acts (i + 1) rest) = rw (cut acts i a lt at, is, h) (regroup front y (rest_of acts (i + 1) rest)) in
    sym one ∙ so_far

pub part_ends : (e : JsonFault) (front : List ActAns) (acts : List Act) (i : ℕ) (a : Act) (ds rest : Items) (d : Data) (total : Result (List ActAns) Field)
    → i < length acts → a ≡ get_or acts i a → ds ≡ item d rest → Fails e (part_in a d) → with_front front (rest_of acts i ds) ≡ total → Fails e total
unfolding parts_in
part_ends fault.Memory front acts i a ds rest d total lt at is h so_far = tt
part_ends fault.NotJson front acts i a ds rest d total lt at is h so_far = h
part_ends (fault.Unreadable f) front acts i a ds rest d total lt at is h so_far =
    let one : with_front front (rest_of acts i ds) ≡ Err f = rw (cut acts i a lt at, is, h) refl in
    sym so_far ∙ one

pub part_missing : (front : List ActAns) (acts : List Act) (i : ℕ) (a : Act) (ds : Items) (total : Result (List ActAns) Field)
    → i < length acts → a ≡ get_or acts i a → ds ≡ no_items → with_front front (rest_of acts i ds) ≡ total → total ≡ Err field.Responses
unfolding parts_in
part_missing front acts i a ds total lt at is so_far =
    let one : with_front front (rest_of acts i ds) ≡ Err field.Responses = rw (cut acts i a lt at, is) refl in
    sym so_far ∙ one

pub part_too_many : (front : List ActAns) (acts : List Act) (i : ℕ) (ds rest : Items) (d : Data) (total : Result (List ActAns) Field)
    → length acts ≤ i → ds ≡ item d rest → with_front front (rest_of acts i ds) ≡ total → total ≡ Err field.Responses
unfolding parts_in
part_too_many front acts i ds rest d total le is so_far =
    let one : with_front front (rest_of acts i ds) ≡ Err field.Responses = rw (drop_all i acts le, is) refl in
    sym so_far ∙ one

pub part_done : (front : List ActAns) (acts : List Act) (i : ℕ) (ds : Items) (total : Result (List ActAns) Field) → length acts ≤ i → ds ≡ no_items → with_front front (rest_of acts i ds) ≡ total → total ≡ Ok front
unfolding parts_in
part_done front acts i ds total le is so_far =
    let one : with_front front (rest_of acts i ds) ≡ Ok front = rw (drop_all i acts le, is) (ap (λ ys. Ok ys) (append-nil front)) in
    sym so_far ∙ one
