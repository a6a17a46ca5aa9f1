-- Reading the items of a list one after another, as a loop does.
use Rattle.std.proofs.Common.{◌≡◌, List, [], ◌∷◌, ◌++◌, Result, Ok, Err, refl, sym, ap, ◌∙◌, append_assoc}
use Rattle.std.proofs.lemmas.List.{append-nil}
use Rattle.serde_json.specs.Data.{Data, Items, no_items, item}
use Rattle.ev_fields.specs.declared.field.Field.{Field}
use Rattle.ev_fields.specs.declared.fault.JsonFault.{JsonFault}
use Rattle.ev_fields.specs.declared.fault.JsonFault.TheVariants as fault
use Rattle.ev_fields.specs.Kinds.{◌>>=◌, each}
use Rattle.ev_fields.specs.Gives.{Fails}

abbrev pub with_front : {A : Type 0} → List A → Result (List A) Field → Result (List A) Field
with_front front read = read >>= λ xs. Ok (front ++ xs)

pub regroup : {A : Type 0} (front : List A) (x : A) (read : Result (List A) Field) → with_front front (read >>= λ xs. Ok (x ∷ xs)) ≡ with_front (front ++ x ∷ []) read
regroup front x (Ok xs) = ap (λ ys. Ok ys) (sym (append_assoc front (x ∷ []) xs))
regroup front x (Err f) = refl

pub goes_on : {A : Type 0} (reading : Data → Result A Field) (front : List A) (ds rest : Items) (d : Data) (y : A) (total : Result (List A) Field)
    → ds ≡ item d rest → reading d ≡ Ok y → with_front front (each reading ds) ≡ total → with_front (front ++ y ∷ []) (each reading rest) ≡ total
unfolding each
goes_on reading front ds rest d y total is h so_far =
    let one : with_front front (each reading ds) ≡ with_front (front ++ y ∷ []) (each reading rest) = rw (is, h) (regroup front y (each reading rest)) in
    sym one ∙ so_far

pub ends : {A : Type 0} (reading : Data → Result A Field) (e : JsonFault) (front : List A) (ds rest : Items) (d : Data) (total : Result (List A) Field)
    → ds ≡ item d rest → Fails e (reading d) → with_front front (each reading ds) ≡ total → Fails e total
unfolding each
ends reading fault.Memory front ds rest d total is h so_far = tt
ends reading fault.NotJson front ds rest d total is h so_far = h
ends reading (fault.Unreadable f) front ds rest d total is h so_far =
    let one : with_front front (each reading ds) ≡ Err f = rw (is, h) refl in
    sym so_far ∙ one

pub is_done : {A : Type 0} (reading : Data → Result A Field) (front : List A) (ds : Items) (total : Result (List A) Field) → ds ≡ no_items → with_front front (each reading ds) ≡ total → total ≡ Ok front
unfolding each
is_done reading front ds total is so_far =
    let one : with_front front (each reading ds) ≡ Ok front = rw is (ap (λ ys. Ok ys) (append-nil front)) in
    sym so_far ∙ one
