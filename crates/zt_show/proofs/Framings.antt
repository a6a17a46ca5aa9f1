-- Frames of streams: each stream has some, and how many bytes they have.
use Rattle.std.proofs.Common.{◌≡◌, ℕ, zero, suc, ◌+◌, ◌<◌, List, [], ◌∷◌, ◌++◌, length, Ok, Err, refl, sym, ap, ◌∙◌, append_assoc, arith}
use Rattle.std.proofs.lemmas.List.{append-nil, length-append}
use Rattle.std.proofs.lemmas.List.Sums.{sum_by-append}
use Rattle.zk_jute.specs.JuteValues.{Spelled}
use Rattle.zk_jute.specs.JuteReading.{Read}
use Rattle.zk_jute.specs.Frames.{IsFrame, IsRest, Framed, frame_at}
use Rattle.zk_jute.proofs.Framing.{no_frame, shorter, frame_field, one_framing}
use Rattle.zt_show.specs.Showing.{size_of}

-- ---- a stream has frames

abbrev pub HasFrames : List ℕ → Type 0
HasFrames bytes = (frames : List (List ℕ)) × (rest : List ℕ) × Framed bytes frames rest

one_more : (bytes frame later : List ℕ) → frame_at bytes ≡ Ok (frame, later) → HasFrames later → HasFrames bytes
one_more bytes frame later e has =
    let t = frame_field.takes bytes frame later e in
    let parts : bytes ≡ (t.front ++ has.2.0) ++ has.1 = t.parts ∙ ap (λ (z : List ℕ). t.front ++ z) has.2.2 ∙ sym (append_assoc t.front has.2.0 has.1) in
    (frame ∷ has.0, has.1, (t.front ++ has.2.0, (t.front, has.2.0, t.spelled, has.2.1, refl), parts, has.2.3))

none_read : (bytes : List ℕ) (left : ℕ) → frame_at bytes ≡ Err left → HasFrames bytes
none_read bytes left e = ([], bytes, ([], refl, refl, no_frame bytes (rw e refl)))

has_read : (n : ℕ) (bytes : List ℕ) (read : Read (List ℕ)) → frame_at bytes ≡ read → length bytes < suc n → ((later : List ℕ) → length later < n → HasFrames later) → HasFrames bytes
has_read n bytes (Err left) e fits goes = none_read bytes left e
has_read n bytes (Ok x) e fits goes =
    let less = shorter bytes x.0 x.1 e in
    one_more bytes x.0 x.1 e (goes x.1 (omega arith))

has_within : (n : ℕ) (bytes : List ℕ) → length bytes < n → HasFrames bytes
has_within zero bytes fits = absurd (omega arith)
has_within (suc n) bytes fits = has_read n bytes (frame_at bytes) refl fits (λ later less. has_within n later less)

pub has_frames : (bytes : List ℕ) → HasFrames bytes
has_frames bytes = has_within (length bytes + 1) bytes (omega arith)

-- ---- their bytes

spelled_size : (frames : List (List ℕ)) (front : List ℕ) → Spelled IsFrame frames front → length front ≡ size_of frames
spelled_size [] front e = ap length e
spelled_size (f ∷ fs) front is =
    let frame = is.2 in
    let sizes : size_of (f ∷ fs) ≡ (0 + (4 + length f)) + size_of fs = sum_by-append (λ (x : List ℕ). 4 + length x) (f ∷ []) fs in
    omega (arith, sizes, ap length is.4, length-append is.0 is.1, ap length frame.3, length-append frame.0 f, frame.1.0, spelled_size fs is.1 is.3)

pub framed_size : (bytes : List ℕ) (frames : List (List ℕ)) (rest : List ℕ) → Framed bytes frames rest → length bytes ≡ size_of frames + length rest
framed_size bytes frames rest f = omega (arith, ap length f.2, length-append f.0 rest, spelled_size frames f.0 f.1)

-- ---- where there are none

pub framed_none : (rest : List ℕ) → IsRest rest → Framed rest [] rest
framed_none rest is = ([], refl, refl, is)

pub nothing_more : (rest : List ℕ) (frames : List (List ℕ)) (later : List ℕ) → IsRest rest → Framed (rest ++ []) frames later → (frames ≡ []) × (later ≡ rest)
nothing_more rest frames later is f =
    let f' = rw (append-nil rest) at f in
    one_framing rest frames [] later rest f' (framed_none rest is)
