-- What a piece adds to what is shown of a stream.
use Rattle.std.proofs.Common.{◌≡◌, ◌≢◌, ℕ, ◌+◌, ◌-◌, ◌<◌, ◌≤◌, Bool, true, false, ne_eqb, ℤ, Option, Some, None, List, [], ◌++◌, length, take, drop, refl, sym, ap, subst, ◌∙◌, append_assoc, arith}
use Rattle.std.specs.Prelude.{◌==◌, if◌then◌else◌}
use Rattle.std.proofs.lemmas.List.{append-nil, length-append, length-take, take-append-drop}
use Rattle.zk_jute.specs.Frames.{bad_length}
use Rattle.zk_jute.proofs.Framing.{bad_rest}
use Rattle.zk_wire.specs.Cutting.{Stream, Hands, CutRefuses}
use Rattle.zk_wire.specs.Putting.{counted}
use Rattle.zt_show.specs.declared.ending.Ending.{Ending}
use Rattle.zt_show.specs.declared.ending.Ending.TheVariants as ending
use Rattle.zt_show.specs.declared.progress.Progress.{Progress}
use Rattle.zt_show.specs.Shown.{joined, max_stream, ending_of_stream, ending_line}
use Rattle.zt_show.specs.Showing.{Showing, showing, ShowingFollows, FramesPass, Blocks, PassesIf, AddsLines, AddsFrames, IsShownAs, Adds, ShowingFinishes, long_unless}
use Rattle.zt_show.proofs.Framings.{framed_none, nothing_more}
use Rattle.zt_show.proofs.Passing.{Passes-nil}
use Rattle.zt_show.proofs.Stopping.{Came, Came-from, Came-more, Follows-from, Stops-length, Stops-blocked, IsShown-stops, IsShown-long, IsShown-whole}

-- ---- frames

-- the progress with room for so many bytes less
abbrev pub less : Progress → ℕ → Progress
less p size = record { is_begun = p.is_begun; place = p.place; room = p.room - size; lines = p.lines }

passes_if : (are_all : Bool) (frames added : List (List ℕ)) (old new : Progress) → are_all ≡ true → PassesIf are_all frames added old new → FramesPass frames added old new
passes_if true frames added old new is p = p
passes_if false frames added old new is p = absurd cc

blocks_if : (are_all : Bool) (frames added : List (List ℕ)) (old new : Progress) → are_all ≡ false → PassesIf are_all frames added old new → Blocks frames added old new
blocks_if true frames added old new is p = absurd cc
blocks_if false frames added old new is p = p

-- all frames of the bytes have lines
came_all : (old mid : Stream) (bytes text text' : List ℕ) (frames : List (List ℕ)) (are_all : Bool) (p r : Progress) → length bytes ≤ p.room → are_all ≡ true → Hands old bytes frames mid →
    (lines : AddsLines are_all frames (less p (length bytes)) text text' r) → (seen : List ℕ) (shown : List (List ℕ)) → ShowingFollows seen shown (showing old.rest p) → Came (seen ++ bytes) (shown ++ lines.0) mid.rest r
came_all old mid bytes text text' frames are_all p r fits is hands lines seen shown f =
    Came-more seen bytes shown lines.0 frames old.rest mid.rest p (less p (length bytes)) r refl refl refl (omega arith) lines.2 (Came-from seen shown old.rest p f) hands.framed
    (λ few room. passes_if are_all frames lines.0 (less p (length bytes)) r is (lines.3 few room))

pub AddsFrames-all : (old mid new : Stream) (bytes text text' : List ℕ) (frames more : List (List ℕ)) (are_all : Bool) (p r : Progress) → length bytes ≤ p.room → are_all ≡ true → Hands old bytes frames mid →
    AddsLines are_all frames (less p (length bytes)) text text' r → Hands mid [] more new → AddsFrames None (showing old.rest p) bytes text text' (showing new.rest r)
AddsFrames-all old mid new bytes text text' frames more are_all p r fits is hands lines later = (
  lines.0,
  lines.1,
  λ seen shown f.
      let came = came_all old mid bytes text text' frames are_all p r fits is hands lines seen shown f in
      let nothing = nothing_more mid.rest more new.rest hands.framed.3 later.framed in
      Follows-from (seen ++ bytes) (shown ++ lines.0) new.rest r (subst (λ (rest : List ℕ). Came (seen ++ bytes) (shown ++ lines.0) rest r) (sym nothing.1) came) (later.bad nothing.0),
)

-- a length out of range stands after the frames
pub AddsFrames-length_after : (old mid new : Stream) (bytes text text' : List ℕ) (frames : List (List ℕ)) (are_all : Bool) (p r : Progress) (place : ℕ) (n : ℤ) (rest : List ℕ) → length bytes ≤ p.room → are_all ≡ true →
    Hands old bytes frames mid → AddsLines are_all frames (less p (length bytes)) text text' r → CutRefuses mid [] place n new → AddsFrames (Some (ending.Length r.place n)) (showing old.rest p) bytes text text' (showing rest r)
AddsFrames-length_after old mid new bytes text text' frames are_all p r place n rest fits is hands lines refuses = (
  lines.0,
  lines.1,
  λ seen shown f.
      let came = came_all old mid bytes text text' frames are_all p r fits is hands lines seen shown f in
      Stops-length (seen ++ bytes) (shown ++ lines.0) mid.rest r n came (ap bad_length (sym (append-nil mid.rest)) ∙ refuses.bad),
)

-- a length out of range stands before any frame
pub AddsFrames-length : (old new : Stream) (bytes text : List ℕ) (p : Progress) (place : ℕ) (n : ℤ) (rest : List ℕ) → length bytes ≤ p.room → CutRefuses old bytes place n new →
    AddsFrames (Some (ending.Length p.place n)) (showing old.rest p) bytes text text (showing rest (less p (length bytes)))
AddsFrames-length old new bytes text p place n rest fits refuses = (
  [],
  sym (append-nil text),
  λ seen shown f.
      let q = less p (length bytes) in
      let came = Came-more seen bytes shown [] [] old.rest (old.rest ++ bytes) p q q refl refl refl (omega arith) refl (Came-from seen shown old.rest p f)
      (framed_none (old.rest ++ bytes) (bad_rest (old.rest ++ bytes) n refuses.bad)) (λ few room. Passes-nil q few) in
      Stops-length (seen ++ bytes) (shown ++ []) (old.rest ++ bytes) q n came refuses.bad,
)

-- a frame of the bytes has no header
pub AddsFrames-blocked : (old mid : Stream) (bytes text text' : List ℕ) (frames : List (List ℕ)) (are_all : Bool) (p r : Progress) (rest : List ℕ) → length bytes ≤ p.room → are_all ≡ false → Hands old bytes frames mid →
    AddsLines are_all frames (less p (length bytes)) text text' r → AddsFrames (Some (ending.NoHeader r.place)) (showing old.rest p) bytes text text' (showing rest r)
AddsFrames-blocked old mid bytes text text' frames are_all p r rest fits is hands lines = (
  lines.0,
  lines.1,
  λ seen shown f.
      Stops-blocked seen bytes shown lines.0 frames old.rest mid.rest p (less p (length bytes)) r refl refl refl (omega arith) lines.2 (Came-from seen shown old.rest p f) hands.framed
      (λ few room. blocks_if are_all frames lines.0 (less p (length bytes)) r is (lines.3 few room)),
)

-- ---- a piece

last_count : (p : Progress) (last : ℕ) (lines : List (List ℕ)) → last ≡ counted (p.lines + 1) → p.lines ≡ length lines → p.lines ≤ max_stream → last ≡ length lines + 1
last_count p last lines is count few = omega arith

text_end : (text text' text'' added last : List ℕ) → text' ≡ text ++ added → text'' ≡ text' ++ last → text'' ≡ text ++ (added ++ last)
text_end text text' text'' added last first second = second ∙ ap (λ (t : List ℕ). t ++ last) first ∙ append_assoc text added last

pub Adds-end : (old new : Showing) (piece text text' text'' : List ℕ) (end : Ending) (last : Progress) → AddsFrames (Some end) old piece text text' new → text'' ≡ text' ++ ending_line end →
    last.lines ≡ counted (new.progress.lines + 1) → Adds (Some end) old piece text text'' (showing [] last)
Adds-end old new piece text text' text'' end last frames written count = (
  frames.0,
  text_end text text' text'' (joined frames.0) (ending_line end) frames.1 written,
  λ seen more lines f.
      let stops = frames.2 seen lines f in
      (record { shown = IsShown-stops (seen ++ piece) more (lines ++ frames.0) end new.progress stops; count = last_count new.progress last.lines (lines ++ frames.0) count stops.count stops.few }, stops.stays),
)

-- a piece of which the room holds a front
regroup : (seen piece more : List ℕ) (room : ℕ) → (seen ++ take room piece) ++ (drop room piece ++ more) ≡ (seen ++ piece) ++ more
regroup seen piece more room =
    append_assoc seen (take room piece) (drop room piece ++ more) ∙ ap (λ (t : List ℕ). seen ++ t) (sym (append_assoc (take room piece) (drop room piece) more) ∙ ap (λ (t : List ℕ). t ++ more) (take-append-drop room piece))
    ∙ sym (append_assoc seen piece more)

pub Adds-long : (old new : Showing) (piece text text' text'' : List ℕ) (found : Option Ending) (last : Progress) → old.progress.room < length piece →
    AddsFrames found old (take old.progress.room piece) text text' new → text'' ≡ text' ++ ending_line (long_unless found) → last.lines ≡ counted (new.progress.lines + 1) →
    Adds (Some (long_unless found)) old piece text text'' (showing [] last)
Adds-long old new piece text text' text'' (Some end) last over frames written count = (
  frames.0,
  text_end text text' text'' (joined frames.0) (ending_line end) frames.1 written,
  λ seen more lines f.
      let room = old.progress.room in
      let front = take room piece in
      let stops = frames.2 seen lines f in (
        record {
          shown = subst (λ (t : List ℕ). IsShownAs t (lines ++ frames.0) end) (regroup seen piece more room) (IsShown-stops (seen ++ front) (drop room piece ++ more) (lines ++ frames.0) end new.progress stops);
          count = last_count new.progress last.lines (lines ++ frames.0) count stops.count stops.few;
        },
        stops.stays,
      ),
)
Adds-long old new piece text text' text'' None last over frames written count = (
  frames.0,
  text_end text text' text'' (joined frames.0) (ending_line ending.Long) frames.1 written,
  λ seen more lines f.
      let room = old.progress.room in
      let front = take room piece in
      let follows = frames.2 seen lines f in
      let full : length (seen ++ front) ≡ max_stream = omega (arith, f.room, length-append seen front, length-take room piece) in
      let some : 0 < length (drop room piece ++ more) = omega (arith, length-append (drop room piece) more, ap length (take-append-drop room piece), length-append front (drop room piece), length-take room piece) in (
        record {
          shown = subst (λ (t : List ℕ). IsShownAs t (lines ++ frames.0) ending.Long) (regroup seen piece more room) (IsShown-long (seen ++ front) (drop room piece ++ more) (lines ++ frames.0) new follows full some);
          count = last_count new.progress last.lines (lines ++ frames.0) count follows.count (omega (arith, follows.few, follows.place, follows.room));
        },
        refl,
      ),
)

-- ---- the end

pub ends_whole : (old : Showing) (place : ℕ) → place ≡ max_stream - old.progress.room → place ≡ old.progress.place → (seen : List ℕ) (lines : List (List ℕ)) → ShowingFollows seen lines old →
    ending.End place ≡ ending_of_stream old.progress.place (length old.rest) None
ends_whole old place is same seen lines f =
    let none : length old.rest ≡ 0 = omega (arith, f.place, f.room) in
    ap ending.End same ∙ sym (ap (λ (n : ℕ). ending_of_stream old.progress.place n None) none)

pub ends_cut : (old : Showing) (place : ℕ) → place ≡ max_stream - old.progress.room → place ≢ old.progress.place → (seen : List ℕ) (lines : List (List ℕ)) → ShowingFollows seen lines old →
    ending.Cut place ≡ ending_of_stream old.progress.place (length old.rest) None
ends_cut old place is other seen lines f =
    let at : place ≡ old.progress.place + length old.rest = omega (arith, f.place, f.room) in
    let some : (length old.rest == 0) ≡ false = ne_eqb _ _ (λ none. other (omega arith)) in
    ap ending.Cut at ∙ sym (ap (λ (b : Bool). if b then ending.End old.progress.place else ending.Cut (old.progress.place + length old.rest)) some)

pub Finishes-from : (old : Showing) (text text' : List ℕ) (end : Ending) (last : Progress) → ((seen : List ℕ) (lines : List (List ℕ)) → ShowingFollows seen lines old → end ≡ ending_of_stream old.progress.place (length old.rest) None) →
    text' ≡ text ++ ending_line end → last.lines ≡ counted (old.progress.lines + 1) → ShowingFinishes end old text text' (showing [] last)
Finishes-from old text text' end last is written count = (
  written,
  λ seen lines f. record { shown = IsShown-whole seen lines old end f (is seen lines f); count = last_count old.progress last.lines lines count f.count (omega (arith, f.few, f.place, f.room)) },
)

-- the last line, made apart, is added to the end of a text

pub Finishes-appended : (end : Ending) (rest : List ℕ) (p : Progress) (failed : Bool) (new : Showing) (before added text text' : List ℕ) → failed ≡ false → before ≡ [] → ShowingFinishes end (showing rest p) before added new →
    text' ≡ text ++ added → ShowingFinishes end (record { rest = rest; progress = p; has_failed = failed }) text text' new
Finishes-appended end rest p failed new before added text text' good none finishes is =
    rw good (is ∙ ap (λ (t : List ℕ). text ++ t) (finishes.0 ∙ ap (λ (t : List ℕ). t ++ ending_line end) none), finishes.1)
