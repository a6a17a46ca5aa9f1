-- What is shown of a stream of which some came: where it goes on, and where it ended.
use Rattle.std.proofs.Common.{◌≡◌, ℕ, ◌+◌, ◌-◌, ◌<◌, ◌≤◌, Bool, true, false, ℤ, Option, Some, None, List, [], ◌++◌, length, take, refl, sym, ap, subst, ◌∙◌, append_assoc, arith}
use Rattle.std.specs.Prelude.{nat_lt, ◌==◌, if◌then◌else◌}
use Rattle.std.proofs.Math.Seq.{take-append-add}
use Rattle.std.proofs.lemmas.Bool.{le-ltb, lt-ltb}
use Rattle.std.proofs.lemmas.List.{append-nil, length-append, take_all, take_at}
use Rattle.zk_jute.specs.Frames.{Framed, bad_length}
use Rattle.zk_jute.proofs.Framing.{framed_join, bad_stays, bad_rest}
use Rattle.zt_show.specs.declared.ending.Ending.{Ending}
use Rattle.zt_show.specs.declared.ending.Ending.TheVariants as ending
use Rattle.zt_show.specs.declared.progress.Progress.{Progress}
use Rattle.zt_show.specs.Shown.{Shown, max_stream, ending_of_stream, ending_at, shown_from, IsShownWhole, ending_before_more, before_more}
use Rattle.zt_show.specs.Showing.{Showing, showing, with_first, shown_on, size_of, ShowingFollows, FramesPass, Blocks, ShowingStops, IsShownAs}
use Rattle.zt_show.proofs.Framings.{has_frames, framed_size, framed_none}
use Rattle.zt_show.proofs.Passing.{with_first-with_first}

-- ---- whole frames came, and a rest of which nothing is said yet

pub record Came (seen : List ℕ) (lines : List (List ℕ)) (rest : List ℕ) (p : Progress) : Type 0 where
  pub frames : List (List ℕ)
  pub framed : Framed seen frames rest
  pub says : (later : List (List ℕ)) (after_them : List ℕ) → shown_from false 0 (frames ++ later) after_them ≡ with_first lines (shown_on p later after_them)
  pub place : p.place + length rest ≡ length seen
  pub count : p.lines ≡ length lines
  pub few : p.lines ≤ p.place
  pub room : length seen + p.room ≡ max_stream

pub Came-from : (seen : List ℕ) (lines : List (List ℕ)) (rest : List ℕ) (p : Progress) → ShowingFollows seen lines (showing rest p) → Came seen lines rest p
Came-from seen lines rest p f = record { frames = f.frames; framed = f.framed; says = f.says; place = f.place; count = f.count; few = f.few; room = f.room }

pub Follows-from : (seen : List ℕ) (lines : List (List ℕ)) (rest : List ℕ) (p : Progress) → Came seen lines rest p → bad_length rest ≡ None → ShowingFollows seen lines (showing rest p)
Follows-from seen lines rest p f good = record { frames = f.frames; framed = f.framed; good = good; says = f.says; place = f.place; count = f.count; few = f.few; room = f.room }

-- what is said of more frames
says_more : (frames more : List (List ℕ)) (lines added : List (List ℕ)) (p q : Progress) → ((later : List (List ℕ)) (rest : List ℕ) → shown_from false 0 (frames ++ later) rest ≡ with_first lines (shown_on p later rest)) →
    ((later : List (List ℕ)) (rest : List ℕ) → shown_on p (more ++ later) rest ≡ with_first added (shown_on q later rest)) → (later : List (List ℕ)) (rest : List ℕ) →
    shown_from false 0 ((frames ++ more) ++ later) rest ≡ with_first (lines ++ added) (shown_on q later rest)
says_more frames more lines added p q first second later rest =
    ap (λ (fs : List (List ℕ)). shown_from false 0 fs rest) (append_assoc frames more later) ∙ first (more ++ later) rest ∙ ap (with_first lines) (second later rest) ∙ with_first-with_first lines added (shown_on q later rest)

-- the frames of a piece that all have lines; `q` is what `p` is with the room for the piece taken away
pub Came-more : (seen bytes : List ℕ) (lines added frames : List (List ℕ)) (rest rest' : List ℕ) (p q r : Progress) → q.place ≡ p.place → q.is_begun ≡ p.is_begun → q.lines ≡ p.lines →
    q.room + length bytes ≡ p.room → r.room ≡ q.room → Came seen lines rest p → Framed (rest ++ bytes) frames rest' →
    (q.lines ≤ q.place → q.place + size_of frames ≤ max_stream → FramesPass frames added q r) → Came (seen ++ bytes) (lines ++ added) rest' r
Came-more seen bytes lines added frames rest rest' p q r place begun count room stays came framed passes =
    let size = framed_size (rest ++ bytes) frames rest' framed in
    let both = length-append rest bytes in
    let all = length-append seen bytes in
    let few : q.lines ≤ q.place = omega (arith, came.few) in
    let fits : q.place + size_of frames ≤ max_stream = omega (arith, came.place, came.room) in
    let passed = passes few fits in
    let same : (later : List (List ℕ)) (after_them : List ℕ) → shown_on q later after_them ≡ shown_on p later after_them =
    λ later after_them. ap (λ (b : Bool). shown_from b q.place later after_them) begun ∙ ap (λ (n : ℕ). shown_from p.is_begun n later after_them) place in
    record {
      frames = came.frames ++ frames;
      framed = framed_join seen bytes came.frames frames rest rest' came.framed framed;
      says = says_more came.frames frames lines added p r came.says (λ later after_them. sym (same (frames ++ later) after_them) ∙ passed.says later after_them);
      place = omega (arith, passed.place, came.place);
      count = omega (arith, passed.count, came.count, length-append lines added);
      few = passed.few;
      room = omega (arith, came.room);
    }

-- ---- where it ended

abbrev ended : List (List ℕ) → Ending → Shown
ended lines end = record { lines = lines; ending = end }

ended_lines : (lines : List (List ℕ)) (later : Shown) (end : Ending) → later ≡ record { lines = []; ending = end } → with_first lines later ≡ record { lines = lines; ending = end }
ended_lines lines later end is = ap (with_first lines) is ∙ ap (λ (ls : List (List ℕ)). ended ls end) (append-nil lines)

shown_rest : (p : Progress) (rest : List ℕ) → shown_on p [] rest ≡ ended [] (ending_at p.place rest)
unfolding shown_from
shown_rest p rest = refl

-- at a length out of range
pub Stops-length : (seen : List ℕ) (lines : List (List ℕ)) (rest : List ℕ) (p : Progress) (n : ℤ) → Came seen lines rest p → bad_length rest ≡ Some n → ShowingStops seen lines (ending.Length p.place n) p
Stops-length seen lines rest p n came bad = record {
  shown = λ more.
      let worse : bad_length (rest ++ more) ≡ Some n = bad_stays rest more n bad in
      let tail = framed_none (rest ++ more) (bad_rest (rest ++ more) n worse) in (
        came.frames ++ [],
        rest ++ more,
        framed_join seen more came.frames [] rest (rest ++ more) came.framed tail,
        sym (came.says [] (rest ++ more) ∙ ended_lines lines (shown_on p [] (rest ++ more)) (ending.Length p.place n)
            (shown_rest p (rest ++ more) ∙ ap (λ (b : Option ℤ). ended [] (ending_of_stream p.place (length (rest ++ more)) b)) worse)),
      );
  stays = refl;
  count = came.count;
  few = omega (arith, came.few, came.place, came.room);
  room = came.room;
}

-- at a frame without a header
pub Stops-blocked : (seen bytes : List ℕ) (lines added frames : List (List ℕ)) (rest rest' : List ℕ) (p q r : Progress) → q.place ≡ p.place → q.is_begun ≡ p.is_begun → q.lines ≡ p.lines →
    q.room + length bytes ≡ p.room → r.room ≡ q.room → Came seen lines rest p → Framed (rest ++ bytes) frames rest' →
    (q.lines ≤ q.place → q.place + size_of frames ≤ max_stream → Blocks frames added q r) → ShowingStops (seen ++ bytes) (lines ++ added) (ending.NoHeader r.place) r
Stops-blocked seen bytes lines added frames rest rest' p q r place begun count room stays came framed blocks =
    let size = framed_size (rest ++ bytes) frames rest' framed in
    let both = length-append rest bytes in
    let all = length-append seen bytes in
    let few : q.lines ≤ q.place = omega (arith, came.few) in
    let fits : q.place + size_of frames ≤ max_stream = omega (arith, came.place, came.room) in
    let blocked = blocks few fits in
    let same : (later : List (List ℕ)) (after_them : List ℕ) → shown_on q later after_them ≡ shown_on p later after_them =
    λ later after_them. ap (λ (b : Bool). shown_from b q.place later after_them) begun ∙ ap (λ (n : ℕ). shown_from p.is_begun n later after_them) place in
    let whole = framed_join seen bytes came.frames frames rest rest' came.framed framed in
    record {
      shown = λ more.
          let has = has_frames (rest' ++ more) in (
            (came.frames ++ frames) ++ has.0,
            has.1,
            framed_join (seen ++ bytes) more (came.frames ++ frames) has.0 rest' has.1 whole has.2,
            sym (ap (λ (fs : List (List ℕ)). shown_from false 0 fs has.1) (append_assoc came.frames frames has.0) ∙ came.says (frames ++ has.0) has.1
                ∙ ap (with_first lines) (sym (same (frames ++ has.0) has.1) ∙ blocked.says has.0 has.1)),
          );
      stays = refl;
      count = omega (arith, blocked.count, came.count, length-append lines added);
      few = blocked.few;
      room = omega (arith, came.room);
    }

-- ---- the whole stream

before_more-stays : (b : Bool) (lines : List (List ℕ)) (end : Ending) → ending_before_more end ≡ end → before_more b (ended lines end) ≡ ended lines end
before_more-stays true lines end stays = ap (ended lines) stays
before_more-stays false lines end stays = refl

front_of : (seen more : List ℕ) → length seen ≤ max_stream → take max_stream (seen ++ more) ≡ seen ++ take (max_stream - length seen) more
front_of seen more fits =
    let parts : max_stream ≡ length seen + (max_stream - length seen) = omega arith in
    ap (λ (n : ℕ). take n (seen ++ more)) parts ∙ take-append-add seen more (max_stream - length seen)

-- a stream that ended, whatever comes after
pub IsShown-stops : (seen more : List ℕ) (lines : List (List ℕ)) (end : Ending) (p : Progress) → ShowingStops seen lines end p → IsShownAs (seen ++ more) lines end
IsShown-stops seen more lines end p stops =
    let front = front_of seen more (omega (arith, stops.room)) in (
      ended lines end,
      subst (λ (t : List ℕ). IsShownWhole t (ended lines end)) (sym front) (stops.shown (take (max_stream - length seen) more)),
      sym (before_more-stays (nat_lt max_stream (length (seen ++ more))) lines end stops.stays),
    )

whole_of : (seen : List ℕ) (lines : List (List ℕ)) (s : Showing) → ShowingFollows seen lines s → IsShownWhole seen (ended lines (ending_at s.progress.place s.rest))
whole_of seen lines s f = (
  f.frames,
  s.rest,
  f.framed,
  sym (ap (λ (fs : List (List ℕ)). shown_from false 0 fs s.rest) (sym (append-nil f.frames)) ∙ f.says [] s.rest ∙ ended_lines lines (shown_on s.progress [] s.rest) (ending_at s.progress.place s.rest) (shown_rest s.progress s.rest)),
)

long_part : (b : Bool) (place size : ℕ) → ending_before_more (if b then ending.End place else ending.Cut (place + size)) ≡ ending.Long
long_part true place size = refl
long_part false place size = refl

long_of : (place size : ℕ) (bad : Option ℤ) → bad ≡ None → ending_before_more (ending_of_stream place size bad) ≡ ending.Long
long_of place size bad none = ap (λ (b : Option ℤ). ending_before_more (ending_of_stream place size b)) none ∙ long_part (size == 0) place size

-- a stream that came up to the limit, and has more bytes
pub IsShown-long : (seen more : List ℕ) (lines : List (List ℕ)) (s : Showing) → ShowingFollows seen lines s → length seen ≡ max_stream → 0 < length more → IsShownAs (seen ++ more) lines ending.Long
IsShown-long seen more lines s f full some =
    let end = ending_at s.progress.place s.rest in
    let front : take max_stream (seen ++ more) ≡ seen = take_at seen more max_stream full in
    let over : nat_lt max_stream (length (seen ++ more)) ≡ true = lt-ltb max_stream (length (seen ++ more)) (omega (arith, length-append seen more)) in (
      ended lines end,
      subst (λ (t : List ℕ). IsShownWhole t (ended lines end)) (sym front) (whole_of seen lines s f),
      sym (ap (λ (b : Bool). before_more b (ended lines end)) over ∙ ap (ended lines) (long_of s.progress.place (length s.rest) (bad_length s.rest) f.good)),
    )

-- a stream that came whole
pub IsShown-whole : (seen : List ℕ) (lines : List (List ℕ)) (s : Showing) (end : Ending) → ShowingFollows seen lines s → end ≡ ending_of_stream s.progress.place (length s.rest) None → IsShownAs seen lines end
IsShown-whole seen lines s end f is =
    let last : ending_at s.progress.place s.rest ≡ end = ap (ending_of_stream s.progress.place (length s.rest)) f.good ∙ sym is in
    let front : take max_stream seen ≡ seen = take_all max_stream seen (omega (arith, f.room)) in
    let under : nat_lt max_stream (length seen) ≡ false = le-ltb max_stream (length seen) (omega (arith, f.room)) in (
      ended lines end,
      subst (λ (t : List ℕ). IsShownWhole t (ended lines end)) (sym front) (subst (λ (e : Ending). IsShownWhole seen (ended lines e)) last (whole_of seen lines s f)),
      sym (ap (λ (b : Bool). before_more b (ended lines end)) under),
    )
