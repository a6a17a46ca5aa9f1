-- Lists of values put one after the other.
use Rattle.std.proofs.Common.{◌≡◌, ℕ, ◌+◌, List, [], ◌∷◌, ◌++◌, length, arith, refl, sym, ap, ◌∙◌, append_assoc}
use Rattle.std.specs.List.{flat_map}
use Rattle.std.proofs.lemmas.Grind.{flat_map-append}
use Rattle.std.proofs.lemmas.List.{append-nil, length-append}
use Rattle.zk_jute.specs.JuteValues.{Value}
use Rattle.zk_jute.specs.JuteWriting.{canonical, written}
use Rattle.zk_wire.specs.Putting.{put_all, counted}

pub put_all-append : {S : Type 0} (put : S → Value → S) (s : S) (vs ws : List Value) → put_all put s (vs ++ ws) ≡ put_all put (put_all put s vs) ws
put_all-append {S = S} put s [] ws = refl
put_all-append {S = S} put s (v ∷ vs) ws = put_all-append put (put s v) vs ws

-- the values of one item more
pub put_more : {S A : Type 0} (put : S → Value → S) (s : S) (f : A → List Value) (xs : List A) (x : A) → put_all put (put_all put s (flat_map f xs)) (f x) ≡ put_all put s (flat_map f (xs ++ x ∷ []))
put_more {S = S} {A = A} put s f xs x = sym (put_all-append put s (flat_map f xs) (f x)) ∙ ap (put_all put s) (sym (flat_map-append f xs (x ∷ []) ∙ ap (λ (vs : List Value). flat_map f xs ++ vs) (append-nil (f x))))

-- ---- at a whole record

-- what a writer holds after the values
pub put_all_written : (out : List ℕ) (vs : List Value) → put_all (λ (o : List ℕ) (v : Value). o ++ canonical v) out vs ≡ out ++ written vs
put_all_written out [] = sym (append-nil out)
put_all_written out (v ∷ vs) = put_all_written (out ++ canonical v) vs ∙ append_assoc out (canonical v) (written vs)

pub frame_is : (start frame : List ℕ) (vs : List Value) → start ≡ [] → frame ≡ put_all (λ (o : List ℕ) (v : Value). o ++ canonical v) start vs → frame ≡ written vs
frame_is start frame vs none e = e ∙ ap (λ (s : List ℕ). put_all (λ (o : List ℕ) (v : Value). o ++ canonical v) s vs) none ∙ put_all_written [] vs

-- what a size counts after the values
pub put_all_counted : (n : ℕ) (vs : List Value) → put_all (λ (m : ℕ) (v : Value). counted (m + length (canonical v))) (counted n) vs ≡ counted (n + length (written vs))
put_all_counted n [] = omega arith
put_all_counted n (v ∷ vs) =
    let one : counted (counted n + length (canonical v)) ≡ counted (n + length (canonical v)) = omega arith in
    ap (λ (m : ℕ). put_all (λ (k : ℕ) (w : Value). counted (k + length (canonical w))) m vs) one ∙ put_all_counted (n + length (canonical v)) vs
    ∙ ap counted (omega (arith, length-append (canonical v) (written vs)))

pub size_is : (start size : ℕ) (vs : List Value) → start ≡ 0 → size ≡ put_all (λ (m : ℕ) (v : Value). counted (m + length (canonical v))) start vs → size ≡ counted (length (written vs))
size_is start size vs zero e = e ∙ ap (λ (m : ℕ). put_all (λ (k : ℕ) (v : Value). counted (k + length (canonical v))) m vs) zero ∙ put_all_counted 0 vs ∙ ap counted (omega arith)
