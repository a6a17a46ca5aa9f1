-- Frames in whatever pieces a stream comes.
use Rattle.std.proofs.Common.{◌≡◌, ℕ, ◌+◌, ◌-◌, ◌<◌, ◌^◌, min, Bool, true, false, eqb, Some, None, List, [], ◌∷◌, ◌++◌, length, Result, Ok, Err, refl, sym, ap, subst, ◌∙◌, append_assoc, arith, ℤ, ◌⊎◌, inl, inr}
use Rattle.std.proofs.lemmas.List.{append-nil}
use Rattle.std.specs.Global.{Vec}
use Rattle.zx_base.proofs.Options.{some_none}
use Rattle.zk_jute.specs.Frames.{Framed, bad_length}
use Rattle.zk_jute.proofs.Framing.{no_frame, framed_join, bad_stays, bad_rest}
use Rattle.zk_wire.specs.Cutting.{Stream, unread, Hands, CutRefuses, CutTakes, CutStands, Call, Calls, taken, taken_by, handed, handed_by, all_taken, all_handed}
use Rattle.zk_wire.specs.declared.cutter.CutFault.{CutFault}
use Rattle.zk_wire.specs.declared.cutter.CutFault.TheVariants.{BadLength, Memory}

-- ---- one call

nothing_cut : (whole rest : List ℕ) → Framed whole [] rest → rest ≡ whole
nothing_cut whole rest f = sym (f.2 ∙ rw f.1 refl)

pub hands_none : (old : Stream) (piece whole : List ℕ) (frames : List (List ℕ)) (rest : List ℕ) → old.place < 2 ^ 64 → whole ≡ old.rest ++ piece → Framed whole frames rest → frames ≡ [] → bad_length whole ≡ None
    → Hands old piece frames (record { place = old.place; rest = whole })
hands_none old piece whole frames rest small e f none bad = record {
  framed =
      let same : rest ≡ whole = nothing_cut whole rest (subst (λ (fs : List (List ℕ)). Framed whole fs rest) none f) in
      subst (λ (r : List ℕ). Framed (old.rest ++ piece) frames r) same (subst (λ (w : List ℕ). Framed w frames rest) e f);
  place = rw (← e) (omega arith);
  bad = λ _. bad;
}

pub hands_some : (old : Stream) (piece whole : List ℕ) (frames : List (List ℕ)) (rest : List ℕ) (place : ℕ) → whole ≡ old.rest ++ piece → Framed whole frames rest → (frames ≡ [] → ⊥)
    → place ≡ min (old.place + (length whole - length rest)) (2 ^ 64 - 1) → Hands old piece frames (record { place = place; rest = rest })
hands_some old piece whole frames rest place e f some p = record {
  framed = subst (λ (w : List ℕ). Framed w frames rest) e f;
  place = rw (← e) p;
  bad = λ none. absurd (some none);
}

pub not_empty : (b : Bool) (frames : List (List ℕ)) → b ≡ eqb (length frames) 0 → b ≡ false → frames ≡ [] → ⊥
not_empty b frames is filled e = let f : eqb (length frames) 0 ≡ true = rw e refl in absurd cc

-- ---- many calls

still_bad : (rest held piece : List ℕ) (n : ℤ) → (rest ≡ held) ⊎ ((m : ℤ) × (bad_length rest ≡ Some m) × (bad_length held ≡ Some m)) → bad_length (held ++ piece) ≡ Some n → bad_length (rest ++ piece) ≡ Some n
still_bad rest held piece n (inl e) bad = rw e bad
still_bad rest held piece n (inr b) bad = bad_stays rest piece b.0 b.1 ∙ sym (bad_stays held piece b.0 b.2) ∙ bad

frames_none : (old : Stream) (piece : List ℕ) (n : ℤ) (frames : List (List ℕ)) (new : Stream) → bad_length old.rest ≡ Some n → Hands old piece frames new → ⊥
frames_none old piece n [] new bad h =
    let whole : old.rest ++ piece ≡ new.rest = h.framed.2 ∙ ap (λ (z : List ℕ). z ++ new.rest) h.framed.1 in
    some_none (sym (bad_stays old.rest piece n bad) ∙ ap bad_length whole ∙ h.bad refl)
frames_none old piece n (f ∷ fs) new bad h =
    let x = h.framed.1 in
    bad_rest (old.rest ++ piece) n (bad_stays old.rest piece n bad) f x.0 (x.1 ++ new.rest) x.2 (h.framed.2 ∙ ap (λ (z : List ℕ). z ++ new.rest) x.4 ∙ append_assoc x.0 x.1 new.rest)

hands_on : (stream piece : List ℕ) (fs : List (List ℕ)) (old new : Stream) (frames : List (List ℕ)) → CutStands stream fs old → Hands old piece frames new → CutStands (stream ++ piece) (fs ++ frames) new
hands_on stream piece fs old new frames s h =
    elim s.held [
      | inl e ↦ record { rest = new.rest; framed = framed_join stream piece fs frames s.rest new.rest s.framed (subst (λ (r : List ℕ). Framed (r ++ piece) frames new.rest) (sym e) h.framed); held = inl refl }
      | inr b ↦ absurd (frames_none old piece b.0 frames new b.2 h)
    ]

refuses_on : (stream piece : List ℕ) (fs : List (List ℕ)) (old new : Stream) (place : ℕ) (n : ℤ) → CutStands stream fs old → CutRefuses old piece place n new → CutStands (stream ++ piece) (fs ++ []) new
refuses_on stream piece fs old new place n s r =
    let bad : bad_length (s.rest ++ piece) ≡ Some n = still_bad s.rest old.rest piece n s.held r.bad in
    record { rest = s.rest ++ piece; framed = framed_join stream piece fs [] s.rest (s.rest ++ piece) s.framed ([], refl, refl, bad_rest (s.rest ++ piece) n bad); held = inr (n, bad, r.stays) }

-- a call goes on from the frames of the stream so far
pub takes_on : (stream : List ℕ) (fs : List (List ℕ)) (piece : List ℕ) (result : Result (Vec (List ℕ)) CutFault) (old new : Stream) → CutStands stream fs old → CutTakes old piece result new
    → CutStands (stream ++ taken_by piece result) (fs ++ handed_by result) new
takes_on stream fs piece (Ok frames) old new s t = hands_on stream piece fs old new frames.items s t
takes_on stream fs piece (Err (BadLength place n)) old new s t = refuses_on stream piece fs old new place n s t
takes_on stream fs piece (Err Memory) old new s t = rw (append-nil stream, append-nil fs, t) s

pub at_first : CutStands [] [] unread
at_first = record { rest = []; framed = ([], refl, refl, no_frame [] refl); held = inl refl }

calls_on : (calls : List Call) (stream : List ℕ) (fs : List (List ℕ)) (old new : Stream) → CutStands stream fs old → Calls old calls new → CutStands (stream ++ all_taken calls) (fs ++ all_handed calls) new
calls_on [] stream fs old new s e = rw (append-nil stream, append-nil fs, ← e) s
calls_on (call ∷ calls) stream fs old new s t =
    let next = takes_on stream fs call.piece call.result old t.0 s t.1 in
    let all = calls_on calls (stream ++ taken call) (fs ++ handed call) t.0 new next t.2 in
    rw (← append_assoc stream (taken call) (all_taken calls), ← append_assoc fs (handed call) (all_handed calls)) all

pub calls_from_first : (calls : List Call) (new : Stream) → Calls unread calls new → CutStands (all_taken calls) (all_handed calls) new
calls_from_first calls new t = calls_on calls [] [] unread new at_first t
