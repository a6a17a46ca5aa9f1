-- The first line of bytes, looked for byte by byte.
use Rattle.std.proofs.Common.{◌≡◌, ◌≢◌, eq-eqb, ℕ, ◌+◌, ◌<◌, ◌≤◌, ◌==◌, true, false, List, [], ◌∷◌, ◌++◌, length, take, drop, get_or, refl, sym, ap, ◌∙◌, append_assoc, append-nil}
use Rattle.std.proofs.lemmas.List.{drop_all, drop_more, take_more, take_all}
use Rattle.std.proofs.lemmas.Bool.{ne_eqb, and_parts}
use Rattle.std.specs.Prelude.{not}
use Rattle.ev_json.specs.Bodies.{first_line, IsOneLine}
use Rattle.zx_base.proofs.Booleans.{not-true}

first_line-end : (b : ℕ) (bs : List ℕ) → (b == 10) ≡ true → first_line (b ∷ bs) ≡ []
unfolding first_line
first_line-end b bs e = rw e refl

first_line-more : (b : ℕ) (bs : List ℕ) → (b == 10) ≡ false → first_line (b ∷ bs) ≡ b ∷ first_line bs
unfolding first_line
first_line-more b bs e = rw e refl

pub line_ends : (bs : List ℕ) (i : ℕ) → i < length bs → get_or bs i 0 ≡ 10 → first_line bs ≡ take i bs ++ first_line (drop i bs) → take i bs ≡ first_line bs
line_ends bs i lt e so_far =
    let rest : first_line (drop i bs) ≡ [] = ap first_line (drop_more bs i 0 lt) ∙ first_line-end (get_or bs i 0) (drop (i + 1) bs) (eq-eqb _ _ e) in
    sym (so_far ∙ ap (λ (xs : List ℕ). take i bs ++ xs) rest ∙ append-nil (take i bs))

pub line_goes_on : (bs : List ℕ) (i : ℕ) → i < length bs → get_or bs i 0 ≢ 10 → first_line bs ≡ take i bs ++ first_line (drop i bs) → first_line bs ≡ take (i + 1) bs ++ first_line (drop (i + 1) bs)
line_goes_on bs i lt e so_far =
    let rest : first_line (drop i bs) ≡ get_or bs i 0 ∷ first_line (drop (i + 1) bs) = ap first_line (drop_more bs i 0 lt) ∙ first_line-more (get_or bs i 0) (drop (i + 1) bs) (ne_eqb _ _ e) in
    so_far ∙ ap (λ (xs : List ℕ). take i bs ++ xs) rest ∙ sym (append_assoc (take i bs) (get_or bs i 0 ∷ []) (first_line (drop (i + 1) bs))) ∙ ap (λ (xs : List ℕ). xs ++ first_line (drop (i + 1) bs)) (sym (take_more bs i 0 lt))

pub line_is_all : (bs : List ℕ) (i : ℕ) → length bs ≤ i → first_line bs ≡ take i bs ++ first_line (drop i bs) → bs ≡ first_line bs
unfolding first_line
line_is_all bs i le so_far = sym (so_far ∙ ap (λ (xs : List ℕ). take i bs ++ first_line xs) (drop_all i bs le) ∙ append-nil (take i bs) ∙ take_all i bs le)

pub first_line-one : (bs : List ℕ) → IsOneLine bs → first_line bs ≡ bs
unfolding first_line
first_line-one [] h = refl
first_line-one (b ∷ bs) h = let p = and_parts (not (b == 10)) _ h in rw (not-true (b == 10) p.0) (ap (λ (xs : List ℕ). b ∷ xs) (first_line-one bs p.1))

pub first_line-feed : (bs rest : List ℕ) → IsOneLine bs → first_line (bs ++ 10 ∷ rest) ≡ bs
unfolding first_line
first_line-feed [] rest h = refl
first_line-feed (b ∷ bs) rest h = let p = and_parts (not (b == 10)) _ h in rw (not-true (b == 10) p.0) (ap (λ (xs : List ℕ). b ∷ xs) (first_line-feed bs rest p.1))

pub ruleset lines = (line_ends, line_goes_on, line_is_all)
