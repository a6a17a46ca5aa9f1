-- A line, taken.
use Rattle.std.proofs.Common.{SFits, ◌≡◌, ◌^◌, ℤ, pos, to_z, of_z, w64, List, [], ◌++◌, length, refl, sym, ap, ◌∙◌, subst, arith, append-nil, None, Result, Ok, Err, inl}
use Rattle.std.proofs.lemmas.Int.{ints, to_z-of_z}
use Rattle.std.specs.Prelude.{◌≢◌, ◌+ℤ◌, ◌≤ℤ◌, ◌<ℤ◌}
use Rattle.std.specs.Global.{Vec}
use Rattle.zx_base.specs.Maps.{Bytes}
use Rattle.zx_base.specs.declared.memory.Memory.{Memory}
use Rattle.ev_json.specs.Ranges.{LineFits}
use Rattle.ev_json.specs.declared.line.Line.{Line}
use Rattle.ev_json.specs.declared.line.Line.TheVariants as line
use Rattle.zn_layout.specs.Reading.{IsNoValue, head_bytes, IsHeadWithin}
use Rattle.zn_layout.specs.declared.entry.Entry.{Entry}
use Rattle.zw_feed.specs.Following.{AreEntries, BreaksAt, FollowerState, Gives, IsBroken, Takes, heads_in}
use Rattle.zw_feed.specs.Following as follow
use Rattle.zw_feed.specs.declared.fault.FeedFault.{FeedFault}
use Rattle.zw_feed.specs.declared.fault.FeedFault.TheVariants as feed
use Rattle.zw_hub.specs.Ends.{IsProper}
use Rattle.zw_hub.specs.Lists.{last_number}
use Rattle.zw_hub.specs.declared.feed.FeedEnd.{FeedEnd}
use Rattle.zw_hub.specs.declared.feed.FeedEnd.TheVariants as ends
use Rattle.zw_hub.specs.declared.published.Published.{Published}
use Rattle.zw_follow.specs.Publishing.{IsNotBehind, IsPlaced, IsRun, Means, PublishesAll, Stands, TakesLine, greatest, told_by, with_entries, zxids}
use Rattle.zw_follow.specs.Streams.{GoesOn}
use Rattle.zw_follow.specs.declared.place.Place.{Place}
use Rattle.zw_follow.specs.declared.stream.StreamEnd.{StreamEnd}
use Rattle.zw_follow.specs.declared.stream.StreamEnd.TheVariants as stream
use Rattle.zw_follow.proofs.Ending.{is_no_gap, is_not_damaged, proper_compacted}
use Rattle.zw_follow.proofs.Growing.{entries_below, entries_run, greatest_join, heads_fit, last_with, publishes_front, still_open, told_by_fits, with_none}

-- ---- ends that a broken head shows

abbrev expected_of : FeedEnd → ℤ
expected_of (ends.Gap expected found) = expected
expected_of _ = pos 0

abbrev found_of : FeedEnd → ℤ
found_of (ends.Gap expected found) = found
found_of _ = pos 0

abbrev value_of : FeedEnd → Bytes
value_of (ends.Damaged key value) = value
value_of _ = []

proper_gap : (expected found : ℤ) → found ≢ expected → IsProper (ends.Gap expected found)
proper_gap expected found differ = record {
  gap = λ expected' found' is same. differ (ap found_of is ∙ sym same ∙ sym (ap expected_of is));
  damaged = λ key value is. absurd (subst is_not_damaged is tt);
}

proper_damaged : (key value : Bytes) → IsNoValue head_bytes IsHeadWithin value → IsProper (ends.Damaged key value)
proper_damaged key value broken = record {
  gap = λ expected found is. absurd (subst is_no_gap is tt);
  damaged = λ key' value' is. subst (IsNoValue head_bytes IsHeadWithin) (ap value_of is) broken;
}

-- ---- what the follower said

abbrev at_number : ℤ → FollowerState
at_number n = record { number = n; fault = None }

abbrev at_place : Place → FollowerState
at_place place = at_number place.number

-- a follower that has no fault
gives_at : (l : Line) (r : Result (Vec Entry) FeedFault) (s s' : FollowerState) (place : Place) → s ≡ at_place place → Takes s l r s' → Gives place.number l r × (s' ≡ follow.after (at_place place) r)
gives_at l r s s' place is takes = subst (λ (x : FollowerState). Takes x l r s') is takes

-- the place, with what a line says
abbrev pub place_with : Place → Line → Place
place_with place l = record place { revision = greatest place.revision (told_by l) }

pub stands_with : (l : Line) (list : Published) (follower : FollowerState) (place place' : Place) → LineFits l → place' ≡ place_with place l → Stands list follower place → Stands list follower place'
stands_with l list follower place place' fits is stands =
    let range = told_by_fits l place.revision fits (stands.placed).revision_least (stands.placed).revision_most in
    subst (Stands list follower) (sym is) (record {
      placed = record {
        is_open = (stands.placed).is_open;
        placed = (stands.placed).placed;
        least = (stands.placed).least;
        most = (stands.placed).most;
        revision_least = range.0;
        revision_most = range.1;
      };
      follows = stands.follows;
    })

pub revision_of : (place place' : Place) (l : Line) → place' ≡ place_with place l → place'.revision ≡ greatest place.revision (told_by l)
revision_of place place' l is = ap (λ (p : Place). p.revision) is

ended_stays : (l : Line) (told : ℤ) → l ≡ line.Ended → greatest told (told_by l) ≡ told
ended_stays l told is = ap (λ (m : Line). greatest told (told_by m)) is

-- a call is given the revision that it is
pub not_behind_at : (l : Line) (asked : ℤ) → SFits w64 asked → IsNotBehind (to_z w64 (of_z w64 asked)) l → IsNotBehind asked l
not_behind_at l asked fits h = subst (λ (z : ℤ). IsNotBehind z l) (to_z-of_z w64 asked fits) h

pub line_fails : (l : Line) (asked : ℤ) (f : FeedFault) (end : StreamEnd) (s s' : FollowerState) (list : Published) (place : Place) (told : ℤ) → IsNotBehind asked l → place.revision ≡ greatest told (told_by l) → Stands list s place → Takes s l (Err f) s' → Means f end
    → TakesLine (Err end) l asked list list told place.revision
line_fails l asked feed.Ended end s s' list place told ahead is stands takes means =
    let g = gives_at l (Err feed.Ended) s s' place stands.follows takes in
    subst (λ (e : StreamEnd). TakesLine (Err e) l asked list list told place.revision) (sym means.1) (refl, is ∙ ended_stays l told g.0, inl (g.0, refl))
line_fails l asked (feed.Compacted rev) end s s' list place told ahead is stands takes means =
    let g = gives_at l (Err (feed.Compacted rev)) s s' place stands.follows takes in
    subst (λ (e : StreamEnd). TakesLine (Err e) l asked list list told place.revision) (sym means) (ahead, refl, is, proper_compacted rev, g.0)
line_fails l asked (feed.Gap expected found) end s s' list place told ahead is stands takes means =
    let g = gives_at l (Err (feed.Gap expected found)) s s' place stands.follows takes in
    let broken = (g.0).broken in
    subst (λ (e : StreamEnd). TakesLine (Err e) l asked list list told place.revision) (sym means)
    (ahead, refl, is, proper_gap expected found broken.2, subst (λ (n : ℤ). BreaksAt n (heads_in l) (feed.Gap expected found)) (stands.placed).placed g.0)
line_fails l asked (feed.Damaged key value) end s s' list place told ahead is stands takes means =
    let g = gives_at l (Err (feed.Damaged key value)) s s' place stands.follows takes in
    let broken = (g.0).broken in
    subst (λ (e : StreamEnd). TakesLine (Err e) l asked list list told place.revision) (sym means)
    (ahead, refl, is, proper_damaged key value (subst (IsNoValue head_bytes IsHeadWithin) (sym broken.2) broken.3), subst (λ (n : ℤ). BreaksAt n (heads_in l) (feed.Damaged key value)) (stands.placed).placed g.0)
line_fails l asked feed.Memory end s s' list place told ahead is stands takes means =
    subst (λ (e : StreamEnd). TakesLine (Err e) l asked list list told place.revision) (sym means)
    (ahead, [], heads_in l, record { taken = []; split = refl; gives = tt; grown = sym (with_none list) }, is ∙ ap (greatest told) (sym (append-nil (told_by l))))

-- the worker stays at its place
pub goes_on_failed : (f : FeedFault) (end : StreamEnd) (list : Published) (place : Place) → Means f end → IsPlaced list place → GoesOn end list place
goes_on_failed feed.Ended end list place means placed = subst (λ (e : StreamEnd). GoesOn e list place) (sym means.1) placed
goes_on_failed (feed.Compacted rev) end list place means placed = subst (λ (e : StreamEnd). GoesOn e list place) (sym means) placed.is_open
goes_on_failed (feed.Gap expected found) end list place means placed = subst (λ (e : StreamEnd). GoesOn e list place) (sym means) placed.is_open
goes_on_failed (feed.Damaged key value) end list place means placed = subst (λ (e : StreamEnd). GoesOn e list place) (sym means) placed.is_open
goes_on_failed feed.Memory end list place means placed = subst (λ (e : StreamEnd). GoesOn e list place) (sym means) placed.is_open

-- ---- entries

entries_at : (l : Line) (es : Vec Entry) (s s' : FollowerState) (list : Published) (place : Place) → Stands list s place → Takes s l (Ok es) s' → AreEntries (last_number list) (heads_in l) es.items
entries_at l es s s' list place stands takes =
    let g = gives_at l (Ok es) s s' place stands.follows takes in subst (λ (n : ℤ). AreEntries n (heads_in l) es.items) (stands.placed).placed (g.0).0

pub run_at : (l : Line) (es : Vec Entry) (s s' : FollowerState) (list : Published) (place : Place) → LineFits l → Stands list s place → Takes s l (Ok es) s' → IsRun (last_number list) es.items
run_at l es s s' list place fits stands takes = entries_run (last_number list) (heads_in l) es.items (heads_fit l fits) (entries_at l es s s' list place stands takes)

-- how far all was told, with a line and with these entries of it
told_with : (l : Line) (es : List Entry) (told : ℤ) (place place' : Place) → place.revision ≡ greatest told (told_by l) → place'.revision ≡ greatest place.revision (zxids es) → place'.revision ≡ greatest told (told_by l ++ zxids es)
told_with l es told place place' is is' = is' ∙ ap (λ (z : ℤ). greatest z (zxids es)) is ∙ sym (greatest_join told (told_by l) (zxids es))

pub line_taken : (l : Line) (asked : ℤ) (es : Vec Entry) (s s' : FollowerState) (before after : Published) (told : ℤ) (place place' : Place) (u : Unit {0}) → IsNotBehind asked l → place.revision ≡ greatest told (told_by l) → Stands before s place → Takes s l (Ok es) s'
    → PublishesAll (Ok u) es.items before after place place' → TakesLine (Ok u) l asked before after told place'.revision
line_taken l asked es s s' before after told place place' u ahead is stands takes p =
    let all : es.items ≡ p.done = p.split ∙ append-nil p.done in (
      ahead,
      es.items,
      record { taken = heads_in l; split = sym (append-nil (heads_in l)); gives = entries_at l es s s' before place stands takes; grown = p.grown ∙ ap (with_entries before) (sym all) },
      told_with l es.items told place place' is (p.told_is ∙ ap (λ (done : List Entry). greatest place.revision (zxids done)) (sym all)),
    )

pub line_stands : (l : Line) (es : Vec Entry) (s s' : FollowerState) (before after : Published) (place place' : Place) (u : Unit {0}) → LineFits l → Stands before s place → Takes s l (Ok es) s'
    → PublishesAll (Ok u) es.items before after place place' → Stands after s' place'
line_stands l es s s' before after place place' u fits stands takes p =
    let all : es.items ≡ p.done = p.split ∙ append-nil p.done in
    let g = gives_at l (Ok es) s s' place stands.follows takes in
    let last : place'.number ≡ place.number +ℤ pos (length es.items) =
    p.placed ∙ ap last_number (p.grown ∙ ap (with_entries before) (sym all)) ∙ last_with before es.items ∙ ap (λ (n : ℤ). n +ℤ pos (length es.items)) (sym (stands.placed).placed) in
    let is : s' ≡ at_place place' = g.1 ∙ ap at_number (sym last) in
    let least : pos 0 ≤ℤ place.number = (stands.placed).least in
    let below : (place.number +ℤ pos (length es.items)) <ℤ pos (2 ^ 62) = entries_below place.number (heads_in l) es.items (heads_fit l fits) (g.0).0 (stands.placed).most in
    record {
      placed = record {
        is_open = p.is_open;
        placed = p.placed;
        least = omega (arith, ints, last, least);
        most = subst (λ (n : ℤ). n <ℤ pos (2 ^ 62)) (sym last) below;
        revision_least = p.revision_least;
        revision_most = p.revision_most;
      };
      follows = is;
    }

-- memory was refused before all of them were published
pub line_refused : (l : Line) (asked : ℤ) (es : Vec Entry) (s s' : FollowerState) (before after : Published) (told : ℤ) (place place' : Place) (m : Memory) → IsNotBehind asked l → place.revision ≡ greatest told (told_by l) → Stands before s place → Takes s l (Ok es) s'
    → PublishesAll (Err m) es.items before after place place' → TakesLine (Err (stream.Closes ends.Memory)) l asked before after told place'.revision
line_refused l asked es s s' before after told place place' m ahead is stands takes p =
    let cut = publishes_front (heads_in l) es.items p.0 p.1 before after (entries_at l es s s' before place stands takes) p.2 p.3 in
    (ahead, p.0, cut.0, cut.1, told_with l p.0 told place place' is p.4)

pub open_refused : (es : List Entry) (before after : Published) (place place' : Place) (m : Memory) → PublishesAll (Err m) es before after place place' → before.end ≡ None → after.end ≡ None
open_refused es before after place place' m p is_open = still_open before after p.0 p.3 is_open
