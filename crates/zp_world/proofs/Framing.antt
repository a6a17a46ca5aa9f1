-- What is cut from the front of a stream, and what is left.
use Rattle.std.proofs.Common.{◌≡◌, ℕ, ◌+◌, ◌-◌, ◌<◌, ◌≤◌, min, List, [], ◌∷◌, ◌++◌, length, drop, get_or, refl, sym, ap, ◌∙◌, subst, arith, inl, inr, length-append}
use Rattle.std.specs.Prelude.{Option, Some, None, ℤ, pos, sum_by, All, IsErr}
use Rattle.std.specs.Int.{w32}
use Rattle.std.specs.Int.RustNames.{FitsSigned}
use Rattle.std.proofs.lemmas.Int.{ints}
use Rattle.std.proofs.lemmas.List.{append-nil, drop_at, nil_from_length}
use Rattle.std.proofs.lemmas.List.Sums.{sum_by-cons, sum_by-drop_more}
use Rattle.zk_jute.proofs.Framing.{bad_rest, no_frame}
use Rattle.zk_jute.proofs.JuteCanonical.{int_canonical}
use Rattle.zk_jute.proofs.Lengths.{length-string_bytes}
use Rattle.zk_jute.specs.Frames.{Framed, IsFrame, bad_length, frame_at}
use Rattle.zk_jute.specs.JuteValues.{Spelled}
use Rattle.zk_jute.specs.JuteWriting.{int_bytes, with_length}
use Rattle.zk_model.specs.Limits.{max_frame}
use Rattle.zk_wire.specs.Cutting.{Hands, CutRefuses, CutStands, Stream, unread}
use Rattle.zp_script.specs.Arriving.{CutsFrames}
use Rattle.zp_step.specs.Stages.{counted_up, max_count}
use Rattle.zp_world.proofs.Shortness.{spelled-short}
use Rattle.zp_world.specs.Framing.{framed_size}

-- ---- a stream that comes at once

pub stands-cut : (stream : List ℕ) (frames : List (List ℕ)) (old new : Stream) → old ≡ unread → Hands old stream frames new → CutStands stream frames new
stands-cut stream frames old new e h =
    let whole : old.rest ++ stream ≡ stream = ap (λ (s : Stream). s.rest ++ stream) e in
    record { rest = new.rest; framed = subst (λ (bytes : List ℕ). Framed bytes frames new.rest) whole h.framed; held = inl refl }

pub stands-bad : (stream : List ℕ) (frames : List (List ℕ)) (place : ℕ) (n : ℤ) (old new : Stream) → old ≡ unread → frames ≡ [] → CutRefuses old stream place n new → CutStands stream frames new
stands-bad stream frames place n old new e none h =
    let whole : old.rest ++ stream ≡ stream = ap (λ (s : Stream). s.rest ++ stream) e in
    let bad : bad_length stream ≡ Some n = ap bad_length (sym whole) ∙ h.bad in
    record { rest = stream; framed = ([], rw none refl, refl, bad_rest stream n bad); held = inr (n, bad, h.stays) }

pub stands-short : (stream : List ℕ) (frames : List (List ℕ)) (state : Stream) → CutStands stream frames state → All (λ (f : List ℕ). length f ≤ max_frame) frames
stands-short stream frames state s = spelled-short frames s.framed.0 s.framed.1

-- ---- the bytes of the frames

spelled-size : (frames : List (List ℕ)) (front : List ℕ) → Spelled IsFrame frames front → length front ≡ sum_by framed_size frames
spelled-size [] front h = ap length h
spelled-size (f ∷ frames) front (first, rest, frame, more, is) =
    let one : length first ≡ 4 + length f = ap length frame.3 ∙ length-append frame.0 f ∙ ap (λ n. n + length f) frame.1.0 in
    let others = spelled-size frames rest more in
    ap length is ∙ length-append first rest ∙ ap (λ n. n + length rest) one ∙ ap (λ n. (4 + length f) + n) others ∙ sym (sum_by-cons framed_size f frames)

-- a loop over the frames adds one more
pub size-more : (size four next i total : ℕ) (frames : List (List ℕ)) (x : List ℕ) → i < length frames → get_or frames i [] ≡ x → four ≡ min (size + 4) max_count → next ≡ min (four + length x) max_count
    → min (size + sum_by framed_size (drop i frames)) max_count ≡ total → min (next + sum_by framed_size (drop (i + 1) frames)) max_count ≡ total
size-more size four next i total frames x within is four_is next_is so_far =
    let left : sum_by framed_size (drop i frames) ≡ (4 + length x) + sum_by framed_size (drop (i + 1) frames) = sum_by-drop_more framed_size frames i [] within ∙ ap (λ (f : List ℕ). (4 + length f) + sum_by framed_size (drop (i + 1) frames)) is in
    size-sum size four next (length x) (sum_by framed_size (drop (i + 1) frames)) (sum_by framed_size (drop i frames)) total left four_is next_is so_far
  where
    size-sum : (size four next x more all total : ℕ) → all ≡ (4 + x) + more → four ≡ min (size + 4) max_count → next ≡ min (four + x) max_count → min (size + all) max_count ≡ total → min (next + more) max_count ≡ total
    size-sum size four next x more all total a f n t = omega arith

-- ---- what a client's stream is cut into

pub cuts-of : (old state new : Stream) (bytes stream : List ℕ) (frames : List (List ℕ)) (bad : Option ℤ) (size used : ℕ) → stream ≡ old.rest ++ bytes → CutStands stream frames state → bad ≡ bad_length state.rest
    → size ≡ min (sum_by framed_size frames) max_count → length stream ≤ max_count → used ≡ min size (length stream) → new.rest ≡ drop used stream → new.place ≡ min (old.place + used) max_count → CutsFrames old bytes frames bad new
cuts-of old state new bytes stream frames bad size used whole s bad_is size_is fits used_is rest_is place_is =
    let front : List ℕ = s.framed.0 in
    let total : length stream ≡ length front + length s.rest = ap length s.framed.2 ∙ length-append front s.rest in
    let front_size = spelled-size frames front s.framed.1 in
    let used_all : used ≡ length front = omega arith in
    let left : drop used stream ≡ s.rest = ap (λ n. drop n stream) used_all ∙ ap (λ (z : List ℕ). drop (length front) z) s.framed.2 ∙ drop_at front s.rest (length front) refl in
    let rest : new.rest ≡ s.rest = rest_is ∙ left in
    let is_bad : bad_length s.rest ≡ bad = elim s.held [ inl e ↦ ap bad_length e ∙ sym bad_is | inr x ↦ x.1 ∙ sym x.2 ∙ sym bad_is ] in
    let taken : used ≡ length (old.rest ++ bytes) - length s.rest = (let same : length (old.rest ++ bytes) ≡ length stream = ap length (sym whole) in omega arith) in
    record {
      rest = s.rest;
      framed = subst (λ (z : List ℕ). Framed z frames s.rest) whole s.framed;
      bad_is = is_bad;
      held = λ none. rest;
      stays = ap bad_length rest ∙ is_bad;
      place = place_is ∙ ap (λ n. counted_up (old.place + n)) taken;
    }

-- a whole frame, where no part of one is there
pub cuts-frame : (old new : Stream) (bytes : List ℕ) → length bytes ≤ max_frame → length old.rest ≡ 0 → new.rest ≡ [] → new.place ≡ min (old.place + (4 + length bytes)) max_count → CutsFrames old (with_length bytes) (bytes ∷ []) None new
cuts-frame old new bytes short none rest_is place_is =
    let nothing : old.rest ≡ [] = nil_from_length old.rest none in
    let whole : old.rest ++ with_length bytes ≡ with_length bytes = ap (λ (z : List ℕ). z ++ with_length bytes) nothing in
    let front : List ℕ = int_bytes (pos (length bytes)) in
    let fits : FitsSigned w32 (pos (length bytes)) = grind (arith, ints) in
    let frame : IsFrame bytes (with_length bytes) = (front, int_canonical (pos (length bytes)) fits, short, refl) in
    let size : length (old.rest ++ with_length bytes) ≡ 4 + length bytes = ap length whole ∙ (let n = length-string_bytes bytes in omega arith) in
    record {
      rest = [];
      framed = (with_length bytes, (with_length bytes, [], frame, refl, sym (append-nil (with_length bytes))), whole ∙ sym (append-nil (with_length bytes)), no_frame [] refl);
      bad_is = refl;
      held = λ h. rest_is;
      stays = ap bad_length rest_is;
      place = place_is ∙ ap (λ n. counted_up (old.place + n)) (let same = size in omega arith);
    }

-- a part of a frame, of a length in range: more has to come
pub cuts-part : (old new : Stream) (bytes : List ℕ) (frames : List (List ℕ)) → frames ≡ [] → IsErr (frame_at new.rest) → bad_length new.rest ≡ None → new.rest ≡ old.rest ++ bytes → new.place ≡ old.place → old.place ≤ max_count
    → CutsFrames old bytes frames None new
cuts-part old new bytes frames none part good rest_is place_is most =
    record {
      rest = new.rest;
      framed = ([], rw none refl, sym rest_is, no_frame new.rest part);
      bad_is = good;
      held = λ h. refl;
      stays = good;
      place = place_is ∙ (let same : length (old.rest ++ bytes) ≡ length new.rest = ap length (sym rest_is) in omega arith);
    }
