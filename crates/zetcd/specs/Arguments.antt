-- The words of a command.
use Rattle.std.specs.Prelude.{◌≡◌, ℕ, List, [], ◌∷◌, map, drop, true, string_bytes, codes, Some}
use Rattle.std.specs.declared.string.String.{String}
use Rattle.zetcd_cmd.specs.Serving.{are_addresses, is_address, limit_in}
use Rattle.zetcd_cmd.specs.Stressing.{count_in, max_connections, max_steps, number_in}

-- the words after the program's name
abbrev pub arguments : {Z : Type 0} → List (String Z) → List (List ℕ)
arguments words = drop 1 (map string_bytes words)

-- the words after the program's name are none of the three commands that read the input
pub record ReadsNothing (words : List (List ℕ)) : Type 0 where
  pub no_replay : ¬ (words ≡ codes "replay" ∷ [])
  pub no_show : ¬ (words ≡ codes "show" ∷ [])
  pub no_judge : ¬ (words ≡ codes "judge" ∷ [])

-- the words after the program's name are `etcd`, this address, and the text of this limit
abbrev pub IsServeWords : List (List ℕ) → List ℕ → ℕ → Type 0
IsServeWords words listen limit =
    (text : List ℕ) × (words ≡ codes "etcd" ∷ (listen ∷ (text ∷ []))) × (is_address listen ≡ true) × (limit_in text ≡ Some limit)

abbrev pub IsNoServing : List (List ℕ) → Type 0
IsNoServing words = (listen : List ℕ) (limit : ℕ) → ¬ IsServeWords words listen limit

-- the words after the program's name are `serve`, this address, these one to five addresses, and the text of this limit
abbrev pub IsProxying : List (List ℕ) → List ℕ → List ℕ → ℕ → Type 0
IsProxying words listen endpoint limit =
    (text : List ℕ) × (words ≡ codes "serve" ∷ (listen ∷ (endpoint ∷ (text ∷ [])))) × (is_address listen ≡ true) × (are_addresses endpoint ≡ true) × (limit_in text ≡ Some limit)

abbrev pub IsNoProxying : List (List ℕ) → Type 0
IsNoProxying words = (listen : List ℕ) (endpoint : List ℕ) (limit : ℕ) → ¬ IsProxying words listen endpoint limit

-- the words after the program's name are `stress` and the texts of these three numbers
abbrev pub IsStressing : List (List ℕ) → ℕ → ℕ → ℕ → Type 0
IsStressing words number connections steps =
    (first : List ℕ) × (second : List ℕ) × (third : List ℕ) × (words ≡ codes "stress" ∷ (first ∷ (second ∷ (third ∷ []))))
    × (number_in first ≡ Some number) × (count_in max_connections second ≡ Some connections) × (count_in max_steps third ≡ Some steps)

abbrev pub IsNoStressing : List (List ℕ) → Type 0
IsNoStressing words = (number : ℕ) (connections : ℕ) (steps : ℕ) → ¬ IsStressing words number connections steps
