-- Frames, one after the other, and the one list of frames that a stream has.
use Rattle.std.proofs.Common.{◌≡◌, ℕ, ◌<◌, ◌≤◌, Bool, true, false, cond, ltb, Some, None, List, [], ◌∷◌, ◌++◌, length, take, drop, Result, Ok, Err, refl, sym, ap, subst, ◌∙◌, append_assoc, arith, ℤ, pos, negsuc, IsErr}
use Rattle.std.proofs.lemmas.Bool.{ltb-false, le-ltb}
use Rattle.std.proofs.lemmas.List.{append-nil, take_at, drop_at, take-append-drop, length-append, length-take}
use Rattle.zx_base.proofs.Options.{some_none}
use Rattle.zk_jute.specs.JuteValues.{IsInt, Spelled}
use Rattle.zk_jute.specs.JuteReading.{Read, int_at}
use Rattle.zk_jute.specs.Frames.{IsFrame, IsRest, Framed, out_of_range, out_of_range_in, bad_length, frame_of, frame_at}
use Rattle.zk_jute.proofs.JuteFields.{Takes, IsField, bind_ok, guard_ok, ok_is, joined, int_field}
use Rattle.zk_model.specs.Limits.{max_frame}

guard_then : {A : Type 0} (b : Bool) (d : ℕ) (y : A) (r : Result A ℕ) → cond b (Err d) r ≡ Ok y → (b ≡ false) × (r ≡ Ok y)
guard_then true d y r e = absurd cc
guard_then false d y r e = (refl, e)

frame_of_takes : (left : ℕ) (z : ℤ) (bytes frame rest : List ℕ) → frame_of left z bytes ≡ Ok (frame, rest) → (z ≡ pos (length frame)) × (length frame ≤ max_frame) × (bytes ≡ frame ++ rest)
frame_of_takes left (pos n) bytes frame rest e =
    let a = guard_then (ltb max_frame n) left (frame, rest) (cond (ltb (length bytes) n) (Err left) (Ok (take n bytes, drop n bytes))) e in
    let b = guard_ok (ltb (length bytes) n) left (take n bytes, drop n bytes) (frame, rest) a.1 in
    let small : n ≤ max_frame = ltb-false _ _ a.0 in
    let long_enough : n ≤ length bytes = ltb-false _ _ b.0 in
    let len : length (take n bytes) ≡ n = omega (arith, length-take n bytes) in
    subst (λ (y : List ℕ × List ℕ). (pos n ≡ pos (length y.0)) × (length y.0 ≤ max_frame) × (bytes ≡ y.0 ++ y.1)) b.1 (ap pos (sym len), omega arith, sym (take-append-drop n bytes))
frame_of_takes left (negsuc n) bytes frame rest e = absurd cc

frame_takes : (bytes frame rest : List ℕ) → frame_at bytes ≡ Ok (frame, rest) → Takes IsFrame bytes frame rest
frame_takes bytes frame rest e =
    let a = bind_ok (int_at bytes) (λ n. frame_of (length bytes) n.0 n.1) (frame, rest) e in
    let t = int_field.takes bytes a.0.0 a.0.1 a.1 in
    let c = frame_of_takes (length bytes) a.0.0 a.0.1 frame rest a.2 in
    record { front = t.front ++ frame; spelled = (t.front, subst (λ (z : ℤ). IsInt z t.front) c.0 t.spelled, c.1, refl); parts = joined bytes t.front a.0.1 frame rest t.parts c.2 }

frame_again : (frame front rest : List ℕ) → IsFrame frame front → frame_at (front ++ rest) ≡ Ok (frame, rest)
frame_again frame front rest is =
    let regrouped : front ++ rest ≡ is.0 ++ (frame ++ rest) = rw is.3 (append_assoc is.0 frame rest) in
    let small : ltb max_frame (length frame) ≡ false = le-ltb _ _ is.2 in
    let long_enough : ltb (length (frame ++ rest)) (length frame) ≡ false = le-ltb _ _ (omega (arith, length-append frame rest)) in
    ap frame_at regrouped ∙ rw (int_field.again (pos (length frame)) is.0 (frame ++ rest) is.1, small, long_enough, take_at frame rest (length frame) refl, drop_at frame rest (length frame) refl) refl

pub frame_field : IsField IsFrame frame_at
frame_field = record { takes = frame_takes; again = frame_again }

-- a list with one more item
pub spelled_more : {A : Type 0} (Is : A → List ℕ → Type 0) (xs : List A) (front : List ℕ) (x : A) (one : List ℕ) → Spelled Is xs front → Is x one → Spelled Is (xs ++ x ∷ []) (front ++ one)
spelled_more {A = A} Is [] front x one is h = (one, [], h, refl, rw is (sym (append-nil one)))
spelled_more {A = A} Is (y ∷ ys) front x one is h = (is.0, is.1 ++ one, is.2, spelled_more Is ys is.1 x one is.3 h, rw is.4 (append_assoc is.0 is.1 one))

-- what follows a frame is shorter than the whole
pub shorter : (bytes frame rest : List ℕ) → frame_at bytes ≡ Ok (frame, rest) → length rest < length bytes
shorter bytes frame rest e =
    let t = frame_takes bytes frame rest e in
    let s = t.spelled in
    omega (arith, ap length t.parts, length-append t.front rest, ap length s.3, length-append s.0 frame, s.1.0)

not_err : (x : List ℕ × List ℕ) → IsErr {E = ℕ} (Ok x) → ⊥
not_err x h = absurd cc

pub no_frame : (rest : List ℕ) → IsErr (frame_at rest) → IsRest rest
no_frame rest err frame front after is e = not_err (frame, after) (subst (λ (r : Read (List ℕ)). IsErr r) (ap frame_at e ∙ frame_again frame front after is) err)

pub goes_on : (bytes : List ℕ) (frames : List (List ℕ)) (rest frame after : List ℕ) → ((front : List ℕ) × Spelled IsFrame frames front × (bytes ≡ front ++ rest)) → frame_at rest ≡ Ok (frame, after)
    → (front : List ℕ) × Spelled IsFrame (frames ++ frame ∷ []) front × (bytes ≡ front ++ after)
goes_on bytes frames rest frame after so_far e =
    let t = frame_takes rest frame after e in
    (so_far.0 ++ t.front, spelled_more IsFrame frames so_far.0 frame t.front so_far.1 t.spelled, joined bytes so_far.0 rest t.front after so_far.2 t.parts)

-- what spells one list and then what spells another spells both lists together
pub spelled_join : {A : Type 0} (Is : A → List ℕ → Type 0) (xs ys : List A) (a b : List ℕ) → Spelled Is xs a → Spelled Is ys b → Spelled Is (xs ++ ys) (a ++ b)
spelled_join {A = A} Is [] ys a b p q = rw p q
spelled_join {A = A} Is (x ∷ xs) ys a b p q = (p.0, p.1 ++ b, p.2, spelled_join Is xs ys p.1 b p.3 q, ap (λ (z : List ℕ). z ++ b) p.4 ∙ append_assoc p.0 p.1 b)

-- the frames of a stream are those of a front of it, and those of what is left and comes after
pub framed_join : (stream piece : List ℕ) (fs gs : List (List ℕ)) (r s : List ℕ) → Framed stream fs r → Framed (r ++ piece) gs s → Framed (stream ++ piece) (fs ++ gs) s
framed_join stream piece fs gs r s p q =
    (p.0 ++ q.0, spelled_join IsFrame fs gs p.0 q.0 p.1 q.1, ap (λ (z : List ℕ). z ++ piece) p.2 ∙ append_assoc p.0 r piece ∙ ap (λ (z : List ℕ). p.0 ++ z) q.2 ∙ sym (append_assoc p.0 q.0 s), q.3)

-- a stream has one list of frames
pub one_framing : (stream : List ℕ) (fs gs : List (List ℕ)) (r s : List ℕ) → Framed stream fs r → Framed stream gs s → (fs ≡ gs) × (r ≡ s)
one_framing stream [] [] r s p q = (refl, sym (p.2 ∙ ap (λ (z : List ℕ). z ++ r) p.1) ∙ q.2 ∙ ap (λ (z : List ℕ). z ++ s) q.1)
one_framing stream [] (g ∷ gs) r s p q =
    absurd (p.3 g q.1.0 (q.1.1 ++ s) q.1.2 (sym (p.2 ∙ ap (λ (z : List ℕ). z ++ r) p.1) ∙ q.2 ∙ ap (λ (z : List ℕ). z ++ s) q.1.4 ∙ append_assoc q.1.0 q.1.1 s))
one_framing stream (f ∷ fs) [] r s p q =
    absurd (q.3 f p.1.0 (p.1.1 ++ r) p.1.2 (sym (q.2 ∙ ap (λ (z : List ℕ). z ++ s) q.1) ∙ p.2 ∙ ap (λ (z : List ℕ). z ++ r) p.1.4 ∙ append_assoc p.1.0 p.1.1 r))
one_framing stream (f ∷ fs) (g ∷ gs) r s p q =
    let a : stream ≡ p.1.0 ++ (p.1.1 ++ r) = p.2 ∙ ap (λ (z : List ℕ). z ++ r) p.1.4 ∙ append_assoc p.1.0 p.1.1 r in
    let b : stream ≡ q.1.0 ++ (q.1.1 ++ s) = q.2 ∙ ap (λ (z : List ℕ). z ++ s) q.1.4 ∙ append_assoc q.1.0 q.1.1 s in
    let x = ap frame_at a ∙ frame_field.again f p.1.0 (p.1.1 ++ r) p.1.2 in
    let y = ap frame_at b ∙ frame_field.again g q.1.0 (q.1.1 ++ s) q.1.2 in
    let same : (f, p.1.1 ++ r) ≡ (g, q.1.1 ++ s) = ok_is (f, p.1.1 ++ r) (g, q.1.1 ++ s) (sym x ∙ y) in
    let rest : p.1.1 ++ r ≡ q.1.1 ++ s = ap (λ (z : List ℕ × List ℕ). z.1) same in
    let others = one_framing (p.1.1 ++ r) fs gs r s (p.1.1, p.1.3, refl, p.3) (q.1.1, q.1.3, rest, q.3) in
    (ap (λ (z : List ℕ). z ∷ fs) (ap (λ (z : List ℕ × List ℕ). z.0) same) ∙ ap (λ (zs : List (List ℕ)). g ∷ zs) others.0, others.1)

-- a length out of range at the front stays there, and no frame begins with it

bad_read : (read : Read ℤ) (bytes more : List ℕ) (n : ℤ) → int_at bytes ≡ read → out_of_range_in read ≡ Some n → bad_length (bytes ++ more) ≡ Some n
bad_read (Err left) bytes more n e is = absurd cc
bad_read (Ok x) bytes more n e is =
    let t = int_field.takes bytes x.0 x.1 e in
    let grouped : bytes ++ more ≡ t.front ++ (x.1 ++ more) = ap (λ (z : List ℕ). z ++ more) t.parts ∙ append_assoc t.front x.1 more in
    ap bad_length grouped ∙ ap out_of_range_in (int_field.again x.0 t.front (x.1 ++ more) t.spelled) ∙ is

pub bad_stays : (bytes more : List ℕ) (n : ℤ) → bad_length bytes ≡ Some n → bad_length (bytes ++ more) ≡ Some n
bad_stays bytes more n e = bad_read (int_at bytes) bytes more n refl e

in_range : (n : ℕ) → n ≤ max_frame → out_of_range (pos n) ≡ None
in_range n le = rw (le-ltb _ _ le) refl

pub bad_rest : (bytes : List ℕ) (n : ℤ) → bad_length bytes ≡ Some n → IsRest bytes
bad_rest bytes n bad frame front after is e =
    let grouped : bytes ≡ is.0 ++ (frame ++ after) = e ∙ ap (λ (z : List ℕ). z ++ after) is.3 ∙ append_assoc is.0 frame after in
    let good : bad_length bytes ≡ None = ap bad_length grouped ∙ ap out_of_range_in (int_field.again (pos (length frame)) is.0 (frame ++ after) is.1) ∙ in_range (length frame) is.2 in
    some_none (sym bad ∙ good)
