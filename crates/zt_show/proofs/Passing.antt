-- Frames that come after others, and the lines that they add.
use Rattle.std.proofs.Common.{◌≡◌, ℕ, ◌+◌, ◌<◌, ◌≤◌, Bool, true, false, Option, Some, None, List, [], ◌∷◌, ◌++◌, length, take, drop, get_or, refl, sym, ap, subst, ◌∙◌, append_assoc, arith}
use Rattle.std.proofs.lemmas.Grind.{flat_map-append}
use Rattle.std.proofs.lemmas.List.{append-nil, length-append, take-append-drop, take_more, drop_more}
use Rattle.std.proofs.lemmas.List.Sums.{sum_by-append}
use Rattle.zt_show.specs.declared.ending.Ending.{Ending}
use Rattle.zt_show.specs.declared.ending.Ending.TheVariants as ending
use Rattle.zt_show.specs.declared.progress.Progress.{Progress}
use Rattle.zt_show.specs.FrameLines.{line_of_frame, IsAdded}
use Rattle.zt_show.specs.Shown.{Shown, joined, max_stream, before, shown_from}
use Rattle.zt_show.specs.Showing.{with_first, shown_on, size_of, passed, FramesPass, Blocks, AddsLines}

pub size_of-more : (frames : List (List ℕ)) (frame : List ℕ) → size_of (frames ++ frame ∷ []) ≡ size_of frames + (4 + length frame)
size_of-more frames frame = sum_by-append (λ (f : List ℕ). 4 + length f) frames (frame ∷ []) ∙ omega arith

pub joined-more : (lines : List (List ℕ)) (line : List ℕ) → joined (lines ++ line ∷ []) ≡ joined lines ++ line
joined-more lines line = flat_map-append (λ (l : List ℕ). l) lines (line ∷ []) ∙ ap (λ (t : List ℕ). joined lines ++ t) (append-nil line)

pub joined-append : (lines later : List (List ℕ)) → joined (lines ++ later) ≡ joined lines ++ joined later
joined-append lines later = flat_map-append (λ (l : List ℕ). l) lines later

abbrev with_ending : List (List ℕ) → Shown → Shown
with_ending lines shown = record { lines = lines; ending = shown.ending }

pub with_first-with_first : (first second : List (List ℕ)) (shown : Shown) → with_first first (with_first second shown) ≡ with_first (first ++ second) shown
with_first-with_first first second shown = ap (λ (ls : List (List ℕ)). with_ending ls shown) (sym (append_assoc first second shown.lines))

abbrev ended : List (List ℕ) → Ending → Shown
ended lines end = record { lines = lines; ending = end }

-- no frame
pub Passes-nil : (p : Progress) → p.lines ≤ p.place → FramesPass [] [] p p
Passes-nil p few = record { says = λ later rest. refl; place = omega arith; count = omega arith; few = few }

-- one frame more, of this line
shown_frame : (is_begun : Bool) (place : ℕ) (frame line : List ℕ) (later : List (List ℕ)) (rest : List ℕ) → line_of_frame is_begun place frame ≡ Some line →
    shown_from is_begun place (frame ∷ later) rest ≡ with_first (line ∷ []) (shown_from true (place + 4 + length frame) later rest)
unfolding shown_from
shown_frame is_begun place frame line later rest is = ap (λ (l : Option (List ℕ)). before place l (shown_from true (place + 4 + length frame) later rest)) is

shown_blocked : (is_begun : Bool) (place : ℕ) (frame : List ℕ) (later : List (List ℕ)) (rest : List ℕ) → line_of_frame is_begun place frame ≡ None →
    shown_from is_begun place (frame ∷ later) rest ≡ record { lines = []; ending = ending.NoHeader place }
unfolding shown_from
shown_blocked is_begun place frame later rest is = ap (λ (l : Option (List ℕ)). before place l (shown_from true (place + 4 + length frame) later rest)) is

passed_place : (p : Progress) (size : ℕ) → p.place + 4 + size ≤ max_stream → (passed p size).place ≡ p.place + 4 + size
passed_place p size fits = omega arith

pub Passes-more : (frames added : List (List ℕ)) (frame line : List ℕ) (old mid : Progress) → old.place + size_of (frames ++ frame ∷ []) ≤ max_stream → FramesPass frames added old mid →
    line_of_frame mid.is_begun mid.place frame ≡ Some line → FramesPass (frames ++ frame ∷ []) (added ++ line ∷ []) old (passed mid (length frame))
Passes-more frames added frame line old mid fits so_far is =
    let size = size_of-more frames frame in
    let at : mid.place + 4 + length frame ≤ max_stream = omega (arith, so_far.place) in
    let place = passed_place mid (length frame) at in
    record {
      says = λ later rest.
          ap (λ (fs : List (List ℕ)). shown_on old fs rest) (append_assoc frames (frame ∷ []) later) ∙ so_far.says (frame ∷ later) rest
          ∙ ap (with_first added) (shown_frame mid.is_begun mid.place frame line later rest is)
          ∙ with_first-with_first added (line ∷ []) (shown_from true (mid.place + 4 + length frame) later rest)
          ∙ ap (λ (n : ℕ). with_first (added ++ line ∷ []) (shown_from true n later rest)) (sym place);
      place = omega (arith, so_far.place);
      count = omega (arith, so_far.count, so_far.few, length-append added (line ∷ []));
      few = omega (arith, so_far.few);
    }

pub Blocks-more : (frames added : List (List ℕ)) (frame : List ℕ) (later : List (List ℕ)) (old mid : Progress) → old.place + size_of (frames ++ frame ∷ later) ≤ max_stream → FramesPass frames added old mid →
    line_of_frame mid.is_begun mid.place frame ≡ None → Blocks (frames ++ frame ∷ later) added old mid
Blocks-more frames added frame others old mid fits so_far is =
    let size : size_of (frames ++ frame ∷ others) ≡ size_of frames + size_of (frame ∷ others) = sum_by-append (λ (f : List ℕ). 4 + length f) frames (frame ∷ others) in
    record {
      says = λ later rest.
          ap (λ (fs : List (List ℕ)). shown_on old fs rest) (append_assoc frames (frame ∷ others) later) ∙ so_far.says (frame ∷ (others ++ later)) rest
          ∙ ap (with_first added) (shown_blocked mid.is_begun mid.place frame (others ++ later) rest is)
          ∙ ap (λ (ls : List (List ℕ)). ended ls (ending.NoHeader mid.place)) (append-nil added);
      count = so_far.count;
      few = omega (arith, so_far.few, so_far.place);
    }

-- ---- in a list of frames

added_none : (is_shown : Bool) (line : Option (List ℕ)) (text text' : List ℕ) → is_shown ≡ false → IsAdded is_shown line text text' → (line ≡ None) × (text' ≡ text)
added_none true line text text' is a = absurd cc
added_none false line text text' is a = a

added_some : (is_shown : Bool) (line : Option (List ℕ)) (text text' : List ℕ) → is_shown ≡ true → IsAdded is_shown line text text' → (words : List ℕ) × (line ≡ Some words) × (text' ≡ text ++ words)
added_some true line text text' is a = a
added_some false line text text' is a = absurd cc

-- the frame at i has no header
pub AddsLines-blocked : (frames : List (List ℕ)) (i : ℕ) (frame text text' text'' : List ℕ) (is_shown : Bool) (old mid : Progress) → i < length frames → frame ≡ get_or frames i frame →
    AddsLines true (take i frames) old text text' mid → is_shown ≡ false → IsAdded is_shown (line_of_frame mid.is_begun mid.place frame) text' text'' → AddsLines false frames old text text'' mid
AddsLines-blocked frames i frame text text' text'' is_shown old mid within at lines is added =
    let none = added_none is_shown (line_of_frame mid.is_begun mid.place frame) text' text'' is added in
    let whole : take i frames ++ frame ∷ drop (i + 1) frames ≡ frames =
    ap (λ (f : List ℕ). take i frames ++ f ∷ drop (i + 1) frames) at ∙ ap (λ (fs : List (List ℕ)). take i frames ++ fs) (sym (drop_more frames i frame within)) ∙ take-append-drop i frames in (
      lines.0,
      none.1 ∙ lines.1,
      lines.2,
      λ few fits.
          let sizes = sum_by-append (λ (f : List ℕ). 4 + length f) (take i frames) (frame ∷ drop (i + 1) frames) in
          let fits_whole : old.place + size_of (take i frames ++ frame ∷ drop (i + 1) frames) ≤ max_stream = rw whole fits in
          subst (λ (fs : List (List ℕ)). Blocks fs lines.0 old mid) whole
          (Blocks-more (take i frames) lines.0 frame (drop (i + 1) frames) old mid fits_whole (lines.3 few (omega arith)) none.0),
    )

-- the frame at i has a line
pub AddsLines-more : (frames : List (List ℕ)) (i : ℕ) (frame text text' text'' : List ℕ) (is_shown : Bool) (old mid new : Progress) → i < length frames → frame ≡ get_or frames i frame →
    AddsLines true (take i frames) old text text' mid → is_shown ≡ true → IsAdded is_shown (line_of_frame mid.is_begun mid.place frame) text' text'' → new ≡ passed mid (length frame) →
    AddsLines true (take (i + 1) frames) old text text'' new
AddsLines-more frames i frame text text' text'' is_shown old mid new within at lines is added passes =
    let some = added_some is_shown (line_of_frame mid.is_begun mid.place frame) text' text'' is added in
    let front : take (i + 1) frames ≡ take i frames ++ frame ∷ [] = take_more frames i frame within ∙ ap (λ (f : List ℕ). take i frames ++ f ∷ []) (sym at) in (
      lines.0 ++ some.0 ∷ [],
      some.2 ∙ ap (λ (t : List ℕ). t ++ some.0) lines.1 ∙ append_assoc text (joined lines.0) some.0 ∙ ap (λ (t : List ℕ). text ++ t) (sym (joined-more lines.0 some.0)),
      ap (λ (p : Progress). p.room) passes ∙ lines.2,
      λ few fits.
          let size = size_of-more (take i frames) frame in
          let fits_front : old.place + size_of (take i frames ++ frame ∷ []) ≤ max_stream = rw (← front) fits in
          rw (front, passes) (Passes-more (take i frames) lines.0 frame some.0 old mid fits_front (lines.3 few (omega arith)) some.1),
    )
