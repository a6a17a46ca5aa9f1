-- What the progress of a number says of look-ups in the lines.
use Rattle.std.proofs.Common.{◌≡◌, ℕ, ℤ, ◌+◌, List, [], ◌∷◌, ◌++◌, length, refl, sym, ap, ◌∙◌, subst, append_assoc, append-nil, arith, Bool, true, false}
use Rattle.std.specs.Prelude.{Some, None, if◌then◌else◌, nat_le, ◌&&◌, ◌==◌}
use Rattle.zk_service.specs.declared.fresh.Fresh.{Fresh}
use Rattle.zk_model.specs.declared.layout.Layout.{Layout}
use Rattle.zk_legal.specs.Formed.{frames_of, is_frame_of}
use Rattle.zk_model.specs.Limits.{max_frame}
use Rattle.zk_transcript.proofs.Histories.{first_shown-push}
use Rattle.zk_transcript.proofs.Lookups.{first_shown-new, first_shown-skip}
use Rattle.zk_transcript.specs.Conversations.{close_shown}
use Rattle.zk_transcript.specs.History.{first_shown, frame, frame_shown, open_shown, opening, when}
use Rattle.zk_service.specs.declared.cause.Ended.{Ended as SomeEnd}
use Rattle.zk_transcript.specs.declared.transcript.TranscriptLine.TheVariants.{Close, Frame as FrameLine, Lapse, Open, Send, Update}
use Rattle.zk_transcript.specs.declared.transcript.TranscriptLine.{TranscriptLine}
use Rattle.zp_verdict_laws.proofs.Progress.{Broken, Ended, Opened, Progress, Unused, closes, frames_of-append, opens, progress, progress_from, progressed, sends, takes}
use Rattle.zx_base.proofs.Options.{none_some}

-- nothing is shown of it
pub record IsUnshown (lines : List TranscriptLine) (c : ℕ) : Type 0 where
  pub unopened : opening c lines ≡ None
  pub unclosed : first_shown (close_shown c) lines ≡ None
  pub unframed : (i : ℕ) → frame c i lines ≡ None
  pub none : frames_of c lines ≡ 0

-- it was opened and not closed, and it has so many frames
pub record IsOpenSoFar (lines : List TranscriptLine) (c n : ℕ) : Type 0 where
  pub offer : Fresh
  pub opened : opening c lines ≡ Some offer
  pub unclosed : first_shown (close_shown c) lines ≡ None
  pub count : frames_of c lines ≡ n

abbrev pub WasOpened : List TranscriptLine → ℕ → Type 0
WasOpened lines c = (o : Fresh) × (opening c lines ≡ Some o)

-- what has frames was opened
abbrev pub OpensBeforeFrames : List TranscriptLine → ℕ → Type 0
OpensBeforeFrames lines c = (i : ℕ) (bytes : List ℕ) → frame c i lines ≡ Some bytes → WasOpened lines c

abbrev pub IsFoundAs : List TranscriptLine → ℕ → Progress → Type 0
IsFoundAs lines c Unused = IsUnshown lines c
IsFoundAs lines c (Opened n) = IsOpenSoFar lines c n
IsFoundAs lines c Ended = OpensBeforeFrames lines c
IsFoundAs lines c Broken = Unit {0}

-- ---- a line that shows nothing of it

not-counted : (c : ℕ) (lines : List TranscriptLine) (l : TranscriptLine) → is_frame_of c l ≡ false → frames_of c (lines ++ l ∷ []) ≡ frames_of c lines
not-counted c lines l h = frames_of-append c lines (l ∷ []) ∙ ap (λ b. frames_of c lines + (if b then 0 + 1 else 0)) h ∙ omega arith

still-opened : (c : ℕ) (lines : List TranscriptLine) (l : TranscriptLine) → WasOpened lines c → WasOpened (lines ++ l ∷ []) c
still-opened c lines l (o, is) = (o, first_shown-push (open_shown c) lines (l ∷ []) o is)

module _ (c : ℕ) (lines : List TranscriptLine) (l : TranscriptLine) (open_none : open_shown c l ≡ None) (close_none : close_shown c l ≡ None) (frame_none : (i : ℕ) → frame_shown c i l ≡ None) (uncounted : is_frame_of c l ≡ false) where
  found-skip : (p : Progress) → IsFoundAs lines c p → IsFoundAs (lines ++ l ∷ []) c p
  found-skip Unused s = record {
    unopened = first_shown-skip (open_shown c) lines l open_none ∙ s.unopened;
    unclosed = first_shown-skip (close_shown c) lines l close_none ∙ s.unclosed;
    unframed = λ i. first_shown-skip (frame_shown c i) lines l (frame_none i) ∙ s.unframed i;
    none = not-counted c lines l uncounted ∙ s.none;
  }
  found-skip (Opened n) s = record {
    offer = s.offer;
    opened = first_shown-push (open_shown c) lines (l ∷ []) s.offer s.opened;
    unclosed = first_shown-skip (close_shown c) lines l close_none ∙ s.unclosed;
    count = not-counted c lines l uncounted ∙ s.count;
  }
  found-skip Ended s = λ i bytes e. still-opened c lines l (s i bytes (sym (first_shown-skip (frame_shown c i) lines l (frame_none i)) ∙ e))
  found-skip Broken s = tt

-- ---- each kind of line

when-off : {A : Type 0} (b : Bool) (x : A) → b ≡ false → when b x ≡ None
when-off true x h = absurd (cc)
when-off false x h = refl

when-on : {A : Type 0} (b : Bool) (x : A) → b ≡ true → when b x ≡ Some x
when-on true x h = refl
when-on false x h = absurd (cc)

off-both : (a b : Bool) → a ≡ false → (a && b) ≡ false
off-both true b h = absurd (cc)
off-both false b h = refl

module _ (c d : ℕ) (lines : List TranscriptLine) where
  -- it opens
  module _ (proxy : ℕ) (id : ℤ) (passwd : List ℕ) (layout : Layout) where
    open-own : (p : Progress) → (c == d) ≡ true → IsFoundAs lines c p → IsFoundAs (lines ++ Open d proxy id passwd layout ∷ []) c (opens p)
    open-own Unused same s = record {
      offer = (record { id = id; passwd = passwd; layout = layout });
      opened = first_shown-new (open_shown c) lines (Open d proxy id passwd layout) s.unopened ∙ when-on (c == d) (record { id = id; passwd = passwd; layout = layout }) same;
      unclosed = first_shown-skip (close_shown c) lines (Open d proxy id passwd layout) refl ∙ s.unclosed;
      count = not-counted c lines (Open d proxy id passwd layout) refl ∙ s.none;
    }
    open-own (Opened n) same s = tt
    open-own Ended same s = tt
    open-own Broken same s = tt

    found-open : (p : Progress) → IsFoundAs lines c p → IsFoundAs (lines ++ Open d proxy id passwd layout ∷ []) c (progressed c p (Open d proxy id passwd layout))
    found-open p s = go (c == d) refl
      where
        go : (b : Bool) → (c == d) ≡ b → IsFoundAs (lines ++ Open d proxy id passwd layout ∷ []) c (if b then opens p else p)
        go true e = open-own p e s
        go false e = found-skip c lines (Open d proxy id passwd layout) (when-off (c == d) (record { id = id; passwd = passwd; layout = layout }) e) refl (λ i. refl) refl p s

  -- a frame comes
  module _ (i : ℕ) (zxid : ℤ) (bytes : List ℕ) where
    frame-own : (p : Progress) → (c == d) ≡ true → IsFoundAs lines c p → IsFoundAs (lines ++ FrameLine d i zxid bytes ∷ []) c (takes i bytes p)
    frame-own Unused same s = tt
    frame-own (Opened n) same s = go ((i == n) && nat_le (length bytes) max_frame)
      where
        go : (b : Bool) → IsFoundAs (lines ++ FrameLine d i zxid bytes ∷ []) c (if b then Opened (n + 1) else Broken)
        go true = record {
          offer = s.offer;
          opened = first_shown-push (open_shown c) lines (FrameLine d i zxid bytes ∷ []) s.offer s.opened;
          unclosed = first_shown-skip (close_shown c) lines (FrameLine d i zxid bytes) refl ∙ s.unclosed;
          count = frames_of-append c lines (FrameLine d i zxid bytes ∷ []) ∙ ap (λ b. frames_of c lines + (if b then 0 + 1 else 0)) same ∙ ap (λ m. m + 1) s.count;
        }
        go false = tt
    frame-own Ended same s = tt
    frame-own Broken same s = tt

    found-frame : (p : Progress) → IsFoundAs lines c p → IsFoundAs (lines ++ FrameLine d i zxid bytes ∷ []) c (progressed c p (FrameLine d i zxid bytes))
    found-frame p s = go (c == d) refl
      where
        go : (b : Bool) → (c == d) ≡ b → IsFoundAs (lines ++ FrameLine d i zxid bytes ∷ []) c (if b then takes i bytes p else p)
        go true e = frame-own p e s
        go false e = found-skip c lines (FrameLine d i zxid bytes) refl refl (λ j. when-off ((c == d) && (j == i)) bytes (off-both (c == d) (j == i) e)) e p s

  -- a packet is sent
  found-send : (bytes : List ℕ) (p : Progress) → IsFoundAs lines c p → IsFoundAs (lines ++ Send d bytes ∷ []) c (progressed c p (Send d bytes))
  found-send bytes p s = go (c == d)
    where
      own : (p : Progress) → IsFoundAs lines c p → IsFoundAs (lines ++ Send d bytes ∷ []) c (sends p)
      own Unused s = tt
      own (Opened n) s = found-skip c lines (Send d bytes) refl refl (λ i. refl) refl (Opened n) s
      own Ended s = tt
      own Broken s = tt

      go : (b : Bool) → IsFoundAs (lines ++ Send d bytes ∷ []) c (if b then sends p else p)
      go true = own p s
      go false = found-skip c lines (Send d bytes) refl refl (λ i. refl) refl p s

  -- it closes
  found-close : (end : SomeEnd) (p : Progress) → IsFoundAs lines c p → IsFoundAs (lines ++ Close d end ∷ []) c (progressed c p (Close d end))
  found-close end p s = go (c == d) refl
    where
      unframed-end : (i : ℕ) → frame c i (lines ++ Close d end ∷ []) ≡ frame c i lines
      unframed-end i = first_shown-skip (frame_shown c i) lines (Close d end) refl

      own : (p : Progress) → IsFoundAs lines c p → IsFoundAs (lines ++ Close d end ∷ []) c (closes p)
      own Unused s = λ i bytes e. absurd (none_some (sym (unframed-end i ∙ s.unframed i) ∙ e))
      own (Opened n) s = λ i bytes e. still-opened c lines (Close d end) (s.offer, s.opened)
      own Ended s = tt
      own Broken s = tt

      go : (b : Bool) → (c == d) ≡ b → IsFoundAs (lines ++ Close d end ∷ []) c (if b then closes p else p)
      go true e = own p s
      go false e = found-skip c lines (Close d end) refl (when-off (c == d) d e) (λ i. refl) refl p s

found-line : (c : ℕ) (lines : List TranscriptLine) (p : Progress) (l : TranscriptLine) → IsFoundAs lines c p → IsFoundAs (lines ++ l ∷ []) c (progressed c p l)
found-line c lines p (Open d proxy id passwd layout) s = found-open c d lines proxy id passwd layout p s
found-line c lines p (FrameLine d i zxid bytes) s = found-frame c d lines i zxid bytes p s
found-line c lines p (Send d bytes) s = found-send c d lines bytes p s
found-line c lines p (Close d end) s = found-close c d lines end p s
found-line c lines p (Update u) s = found-skip c lines (Update u) refl refl (λ i. refl) refl p s
found-line c lines p (Lapse revision id) s = found-skip c lines (Lapse revision id) refl refl (λ i. refl) refl p s

-- ---- all lines

found-from : (c : ℕ) (before : List TranscriptLine) (p : Progress) (ls : List TranscriptLine) → IsFoundAs before c p → IsFoundAs (before ++ ls) c (progress_from c p ls)
found-from c before p [] s = subst (λ b. IsFoundAs b c p) (sym (append-nil before)) s
found-from c before p (l ∷ ls) s =
    subst (λ b. IsFoundAs b c (progress_from c (progressed c p l) ls)) (append_assoc before (l ∷ []) ls)
    (found-from c (before ++ l ∷ []) (progressed c p l) ls (found-line c before p l s))

pub found : (c : ℕ) (lines : List TranscriptLine) → IsFoundAs lines c (progress c lines)
found c lines = found-from c [] Unused lines (record { unopened = refl; unclosed = refl; unframed = λ i. refl; none = refl })

pub found-as : (c : ℕ) (lines : List TranscriptLine) (p : Progress) → progress c lines ≡ p → IsFoundAs lines c p
found-as c lines p e = subst (IsFoundAs lines c) e (found c lines)

-- what has frames was opened, while nothing is broken
pub framed-opened : (c : ℕ) (lines : List TranscriptLine) (i : ℕ) (bytes : List ℕ) → (progress c lines ≡ Broken → ⊥) → frame c i lines ≡ Some bytes → WasOpened lines c
framed-opened c lines i bytes unbroken e = go (progress c lines) refl
  where
    go : (p : Progress) → progress c lines ≡ p → WasOpened lines c
    go Unused f = absurd (none_some (sym ((found-as c lines Unused f).unframed i) ∙ e))
    go (Opened n) f = ((found-as c lines (Opened n) f).offer, (found-as c lines (Opened n) f).opened)
    go Ended f = found-as c lines Ended f i bytes e
    go Broken f = absurd (unbroken f)
