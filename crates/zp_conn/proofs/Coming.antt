-- Frames come in order, in whatever pieces.
use Rattle.std.proofs.Common.{◌≡◌, ℕ, ◌+◌, ◌-◌, ◌≤◌, ◌^◌, Bool, ℤ, List, [], ◌∷◌, ◌++◌, length, min, refl, sym, ap, ◌∙◌, subst, append-nil, append_assoc, length-append, arith, inl, inr}
use Rattle.std.specs.Prelude.{Option, Some, None, Result, Ok, Err, ◌⊎◌}
use Rattle.zk_jute.specs.Frames.{Framed, bad_length}
use Rattle.zk_jute.proofs.Framing.{framed_join, bad_stays, bad_rest}
use Rattle.zk_wire.specs.Cutting.{Hands, CutRefuses, Stream}
use Rattle.zk_wire.specs.declared.cutter.CutFault.TheVariants.{BadLength, Memory}
use Rattle.zk_wire.specs.declared.cutter.CutFault.{CutFault}
use Rattle.zx_base.proofs.Options.{some_none}
use Rattle.zx_outside.specs.Reading.{Gives, GivesNone}
use Rattle.zx_outside.proofs.Streams.{Gives-nil, Gives-none}
use Rattle.zp_conn.specs.declared.inbox.Came.{Came}
use Rattle.zp_conn.specs.declared.inbox.Came.TheVariants.{End, Failed, Frame, Nothing}
use Rattle.zp_step.specs.Stages.{counted_up}
use Rattle.zp_conn.specs.Inboxes.{Comes, Cuts, Holds, InboxState, IsBadAt, IsEndedAfter, IsQuiet, Pops, ReadsFrom, ReadsOn, came_by, faults_after, kept_by}

abbrev IsHeldAs : List ℕ → Stream → Type 0
IsHeldAs rest s = (rest ≡ s.rest) ⊎ ((n : ℤ) × (bad_length rest ≡ Some n) × (bad_length s.rest ≡ Some n))

-- ---- counts

counted-more : (a b : ℕ) → counted_up (counted_up a + b) ≡ counted_up (a + b)
counted-more a b = omega (arith)

count-on : (read piece : List ℕ) (old new : ℕ) → old ≡ counted_up (length read) → new ≡ counted_up (old + length piece) → new ≡ counted_up (length (read ++ piece))
count-on read piece old new h e = e ∙ ap (λ n. counted_up (n + length piece)) h ∙ counted-more (length read) (length piece) ∙ ap counted_up (sym (length-append read piece))

rest-within : (stream : List ℕ) (frames : List (List ℕ)) (rest : List ℕ) → Framed stream frames rest → length rest ≤ length stream
rest-within stream frames rest f = (let same : length stream ≡ length f.0 + length rest = ap length f.2 ∙ length-append f.0 rest in omega (arith, same))

place-on : (p p' read piece rest whole left all : ℕ) → p ≡ counted_up (read - rest) → rest ≤ read → whole ≡ rest + piece → left ≤ whole → p' ≡ min (p + (whole - left)) (2 ^ 64 - 1) → all ≡ read + piece → p' ≡ counted_up (all - left)
place-on p p' read piece rest whole left all h small e l k a = omega (arith, h, small, e, l, k, a)

place-same : (p read piece rest all after : ℕ) → p ≡ counted_up (read - rest) → all ≡ read + piece → after ≡ rest + piece → p ≡ counted_up (all - after)
place-same p read piece rest all after h a b = omega (arith, h, a, b)

-- ---- the next frame

pub pop_holds : (read : List ℕ) (handed : List (List ℕ)) (old new : InboxState) (f : List ℕ) → Holds read handed old → Pops (Some f) old new → Holds read (handed ++ f ∷ []) new
pop_holds read handed old new f h p = record {
  stands = record {
    rest = (h.stands).rest;
    framed = subst (λ l. Framed read l (h.stands).rest) (ap (λ l. handed ++ l) p.0 ∙ sym (append_assoc handed (f ∷ []) new.frames)) (h.stands).framed;
    held = subst (IsHeldAs (h.stands).rest) (sym p.1) (h.stands).held;
  };
  placed = ap (λ (s : Stream). s.place) p.1 ∙ h.placed;
  counted = p.2 ∙ h.counted;
}

-- ---- a piece

still-bad : (rest held piece : List ℕ) (n : ℤ) → (rest ≡ held) ⊎ ((m : ℤ) × (bad_length rest ≡ Some m) × (bad_length held ≡ Some m)) → bad_length (held ++ piece) ≡ Some n → bad_length (rest ++ piece) ≡ Some n
still-bad rest held piece n (inl e) bad = rw e bad
still-bad rest held piece n (inr b) bad = bad_stays rest piece b.0 b.1 ∙ sym (bad_stays held piece b.0 b.2) ∙ bad

-- nothing is cut where a length out of range stands at the front
bad-cuts-nothing : (old : Stream) (piece : List ℕ) (n : ℤ) (frames : List (List ℕ)) (new : Stream) → bad_length old.rest ≡ Some n → Hands old piece frames new → ⊥
bad-cuts-nothing old piece n [] new bad h =
    let whole : old.rest ++ piece ≡ new.rest = h.framed.2 ∙ ap (λ (z : List ℕ). z ++ new.rest) h.framed.1 in
    some_none (sym (bad_stays old.rest piece n bad) ∙ ap bad_length whole ∙ h.bad refl)
bad-cuts-nothing old piece n (f ∷ fs) new bad h =
    let x = h.framed.1 in
    bad_rest (old.rest ++ piece) n (bad_stays old.rest piece n bad) f x.0 (x.1 ++ new.rest) x.2 (h.framed.2 ∙ ap (λ (z : List ℕ). z ++ new.rest) x.4 ∙ append_assoc x.0 x.1 new.rest)

module _ (read piece : List ℕ) (handed : List (List ℕ)) (old new : InboxState) (h : Holds read handed old) where
  abbrev rest : List ℕ
  rest = (h.stands).rest

  cut-at : (items : List (List ℕ)) → Hands old.stream piece items new.stream → rest ≡ (old.stream).rest → new.frames ≡ old.frames ++ items → new.count ≡ counted_up (old.count + length piece) → Holds (read ++ piece) handed new
  cut-at items k e frames count = record {
    stands = record {
      rest = (new.stream).rest;
      framed = subst (λ l. Framed (read ++ piece) l (new.stream).rest) (append_assoc handed old.frames items ∙ ap (λ l. handed ++ l) (sym frames))
          (framed_join read piece (handed ++ old.frames) items rest (new.stream).rest (h.stands).framed (subst (λ r. Framed (r ++ piece) items (new.stream).rest) (sym e) k.framed));
      held = inl refl;
    };
    placed = place-on (old.stream).place (new.stream).place (length read) (length piece) (length rest) (length ((old.stream).rest ++ piece)) (length (new.stream).rest) (length (read ++ piece)) h.placed
        (rest-within read (handed ++ old.frames) rest (h.stands).framed) (length-append (old.stream).rest piece ∙ ap (λ l. length l + length piece) (sym e)) (rest-within ((old.stream).rest ++ piece) items (new.stream).rest k.framed) k.place (length-append read piece);
    counted = count-on read piece old.count new.count h.counted count;
  }

  cut-any : (items : List (List ℕ)) → Hands old.stream piece items new.stream → IsHeldAs rest old.stream → new.frames ≡ old.frames ++ items → new.count ≡ counted_up (old.count + length piece) → Holds (read ++ piece) handed new
  cut-any items k (inl e) frames count = cut-at items k e frames count
  cut-any items k (inr b) frames count = absurd (bad-cuts-nothing old.stream piece b.0 items new.stream b.2 k)

  pub cut_holds : Cuts (Ok tt) piece old new → Holds (read ++ piece) handed new
  cut_holds ((v, takes, items), count) = cut-any v.items takes (h.stands).held items count

  -- a length out of range is met
  module _ (place : ℕ) (n : ℤ) (r : CutRefuses old.stream piece place n new.stream) where
    bad-after : bad_length (rest ++ piece) ≡ Some n
    bad-after = still-bad rest (old.stream).rest piece n (h.stands).held r.bad

    framed-after : Framed (read ++ piece) (handed ++ old.frames) (rest ++ piece)
    framed-after = subst (λ l. Framed (read ++ piece) l (rest ++ piece)) (append-nil (handed ++ old.frames)) (framed_join read piece (handed ++ old.frames) [] rest (rest ++ piece) (h.stands).framed ([], refl, refl, bad_rest (rest ++ piece) n bad-after))

    placed-after : (old.stream).place ≡ counted_up (length (read ++ piece) - length (rest ++ piece))
    placed-after = place-same (old.stream).place (length read) (length piece) (length rest) (length (read ++ piece)) (length (rest ++ piece)) h.placed (length-append read piece) (length-append rest piece)

    pub cut_kept : new.frames ≡ old.frames → new.count ≡ counted_up (old.count + length piece) → Holds (read ++ piece) handed new
    cut_kept frames count = record {
      stands = record {
        rest = rest ++ piece;
        framed = subst (λ l. Framed (read ++ piece) (handed ++ l) (rest ++ piece)) (sym frames) framed-after;
        held = inr (n, bad-after, r.stays);
      };
      placed = r.stands ∙ placed-after;
      counted = count-on read piece old.count new.count h.counted count;
    }

    pub cut_bad : old.frames ≡ [] → IsBadAt (read ++ piece) handed place n
    cut_bad none = record {
      rest = rest ++ piece;
      framed = subst (λ l. Framed (read ++ piece) l (rest ++ piece)) (ap (λ l. handed ++ l) none ∙ append-nil handed) framed-after;
      bad = bad-after;
      at = r.at ∙ placed-after;
    }

-- ---- a read

reads-bytes : (r : Result (Unit {0}) CutFault) (read piece : List ℕ) (handed : List (List ℕ)) (old new : InboxState) → Holds read handed old → old.frames ≡ [] → Cuts r piece old new → Comes (came_by r) (read ++ piece) handed new
reads-bytes (Ok u) read piece handed old new h none c = cut_holds read piece handed old new h c
reads-bytes (Err (BadLength place n)) read piece handed old new h none c = cut_bad read piece handed old new h place n c.0 none
reads-bytes (Err Memory) read piece handed old new h none c = tt

keeps-bytes : (r : Result (Unit {0}) CutFault) (read piece : List ℕ) (handed : List (List ℕ)) (old new : InboxState) → Holds read handed old → Cuts r piece old new → Comes (kept_by r) (read ++ piece) handed new
keeps-bytes (Ok u) read piece handed old new h c = cut_holds read piece handed old new h c
keeps-bytes (Err (BadLength place n)) read piece handed old new h c = cut_kept read piece handed old new h place n c.0 c.1 c.2
keeps-bytes (Err Memory) read piece handed old new h c = tt

pub read_bytes : (r : Result (Unit {0}) CutFault) (piece : List ℕ) (old new : InboxState) (given given' left left' : Option (List ℕ)) → Gives piece given given' left left' → Cuts r piece old new → ReadsFrom (came_by r) old new given given' left left'
read_bytes r piece old new given given' left left' g c = record { piece = piece; gives = g; comes = λ read handed none h. reads-bytes r read piece handed old new h none c }

pub kept_bytes : (r : Result (Unit {0}) CutFault) (piece : List ℕ) (old new : InboxState) (given given' left left' : Option (List ℕ)) → Gives piece given given' left left' → Cuts r piece old new → ReadsOn (kept_by r) old new given given' left left'
kept_bytes r piece old new given given' left left' g c = record { piece = piece; gives = g; comes = λ read handed h. keeps-bytes r read piece handed old new h c }

same-read : (i : InboxState) (read : List ℕ) (handed : List (List ℕ)) → Holds read handed i → Holds (read ++ []) handed i
same-read i read handed h = subst (λ l. Holds l handed i) (sym (append-nil read)) h

none-given : (given given' left left' : Option (List ℕ)) → GivesNone given given' left left' → Gives [] given given' left left'
none-given given given' left left' n = Gives-none [] given given given' left left left' (Gives-nil given left) n

pub read_nothing : (i : InboxState) (given given' left left' : Option (List ℕ)) → GivesNone given given' left left' → ReadsFrom Nothing i i given given' left left'
read_nothing i given given' left left' g = record { piece = []; gives = none-given given given' left left' g; comes = λ read handed none h. same-read i read handed h }

pub read_failed : (i : InboxState) (given given' left left' : Option (List ℕ)) → GivesNone given given' left left' → ReadsFrom Failed i i given given' left left'
read_failed i given given' left left' g = record { piece = []; gives = none-given given given' left left' g; comes = λ read handed none h. same-read i read handed h }

pub read_end : (i : InboxState) (given given' left left' : Option (List ℕ)) → GivesNone given given' left left' → ReadsFrom (End i.count) i i given given' left left'
read_end i given given' left left' g = record {
  piece = [];
  gives = none-given given given' left left' g;
  comes = λ read handed none h. (same-read i read handed h, none, h.counted ∙ ap (λ l. counted_up (length l)) (sym (append-nil read)));
}

-- while no frame is wanted
pub waits_nothing : (i : InboxState) (given given' left left' : Option (List ℕ)) → GivesNone given given' left left' → ReadsOn Nothing i i given given' left left'
waits_nothing i given given' left left' g = record { piece = []; gives = none-given given given' left left' g; comes = λ read handed h. same-read i read handed h }

pub waits_failed : (i : InboxState) (given given' left left' : Option (List ℕ)) → GivesNone given given' left left' → ReadsOn Failed i i given given' left left'
waits_failed i given given' left left' g = record { piece = []; gives = none-given given given' left left' g; comes = λ read handed h. same-read i read handed h }

pub waits_unread : (i : InboxState) (given left : Option (List ℕ)) → ReadsOn Nothing i i given given left left
waits_unread i given left = record { piece = []; gives = Gives-nil given left; comes = λ read handed h. same-read i read handed h }

-- ---- a whole look

as-it-was : (old mid : InboxState) (read : List ℕ) (handed : List (List ℕ)) → Pops None old mid → Holds read handed old → Holds read handed mid
as-it-was old mid read handed p h = subst (Holds read handed) (sym p.1) h

none-left : (old mid : InboxState) → Pops None old mid → mid.frames ≡ []
none-left old mid p = ap (λ (i : InboxState). i.frames) p.1 ∙ p.0

cut-nothing : (mid m : InboxState) (read : List ℕ) (handed : List (List ℕ)) → Cuts (Ok tt) [] mid m → Holds read handed mid → Holds read handed m
cut-nothing mid m read handed c h = subst (λ l. Holds l handed m) (append-nil read) (cut_holds read [] handed mid m h c)

pub next_first : (old new : InboxState) (f : List ℕ) (given left : Option (List ℕ)) → Pops (Some f) old new → ReadsOn (Frame f) old new given given left left
next_first old new f given left p = record { piece = []; gives = Gives-nil given left; comes = λ read handed h. subst (λ l. Holds l (handed ++ f ∷ []) new) (sym (append-nil read)) (pop_holds read handed old new f h p) }

pub next_bad : (old mid new : InboxState) (e : CutFault) (given left : Option (List ℕ)) → Pops None old mid → Cuts (Err e) [] mid new → ReadsOn (came_by (Err e)) old new given given left left
next_bad old mid new e given left p c = record { piece = []; gives = Gives-nil given left; comes = λ read handed h. reads-bytes (Err e) read [] handed mid new (as-it-was old mid read handed p h) (none-left old mid p) c }

pub next_second : (old mid m new : InboxState) (f : List ℕ) (given left : Option (List ℕ)) → Pops None old mid → Cuts (Ok tt) [] mid m → Pops (Some f) m new → ReadsOn (Frame f) old new given given left left
next_second old mid m new f given left p c q = record {
  piece = [];
  gives = Gives-nil given left;
  comes = λ read handed h. subst (λ l. Holds l (handed ++ f ∷ []) new) (sym (append-nil read)) (pop_holds read handed m new f (cut-nothing mid m read handed c (as-it-was old mid read handed p h)) q);
}

pub next_read : (old mid m n new : InboxState) (r : Came) (given given' left left' : Option (List ℕ)) → Pops None old mid → Cuts (Ok tt) [] mid m → Pops None m n → ReadsFrom r n new given given' left left' → ReadsOn r old new given given' left left'
next_read old mid m n new r given given' left left' p c q x = record {
  piece = x.piece;
  gives = x.gives;
  comes = λ read handed h. x.comes read handed (none-left m n q) (as-it-was m n read handed q (cut-nothing mid m read handed c (as-it-was old mid read handed p h)));
}

-- ---- what cutting comes to

-- no fault of the source
pub cut_faults : (r : Result (Unit {0}) CutFault) (count : ℕ) → faults_after (came_by r) count ≡ count
cut_faults (Ok u) count = refl
cut_faults (Err (BadLength place n)) count = refl
cut_faults (Err Memory) count = refl

pub kept_faults : (r : Result (Unit {0}) CutFault) (count : ℕ) → faults_after (kept_by r) count ≡ count
kept_faults (Ok u) count = refl
kept_faults (Err (BadLength place n)) count = refl
kept_faults (Err Memory) count = refl

-- and not the client's end
pub cut_ended : (r : Result (Unit {0}) CutFault) (ended : Bool) → IsEndedAfter (came_by r) ended
cut_ended (Ok u) ended = tt
cut_ended (Err (BadLength place n)) ended = tt
cut_ended (Err Memory) ended = tt

pub kept_quiet : (r : Result (Unit {0}) CutFault) → IsQuiet (kept_by r)
kept_quiet (Ok u) = tt
kept_quiet (Err (BadLength place n)) = tt
kept_quiet (Err Memory) = tt
