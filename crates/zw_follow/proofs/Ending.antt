-- How a stream goes on, and how it ends.
use Rattle.std.proofs.Common.{◌≡◌, ℕ, ◌+◌, ◌*◌, ◌<◌, ◌≤◌, ◌^◌, ℤ, pos, to_z, of_z, w64, Bool, true, false, List, [], ◌∷◌, ◌++◌, length, length-append, arith, refl, sym, ap, ◌∙◌, subst, Option, Some, None, Result, Ok, Err, inl, inr}
use Rattle.std.specs.Prelude.{◌≤ℤ◌, ◌<ℤ◌}
use Rattle.ev_http.specs.Stream.{IsAt}
use Rattle.ev_http.specs.Taking.{Told, risen}
use Rattle.ev_http.specs.declared.lines.Lines.{Lines}
use Rattle.ev_json.specs.declared.line.Line.{Line}
use Rattle.ev_json.specs.declared.line.Line.TheVariants as line
use Rattle.ev_faults.specs.declared.fault.Fault.{Fault}
use Rattle.ev_faults.specs.declared.fault.Fault.TheVariants as fault
use Rattle.zw_feed.specs.Following.{FollowerState, heads_in}
use Rattle.zw_hub.specs.Ends.{IsProper}
use Rattle.zw_hub.specs.declared.feed.FeedEnd.{FeedEnd}
use Rattle.zw_hub.specs.declared.feed.FeedEnd.TheVariants as ends
use Rattle.zw_hub.specs.declared.published.Published.{Published}
use Rattle.zx_outside.specs.Counts.{one_more}
use Rattle.zx_random.specs.Words.{readings_after}
use Rattle.zx_outside.proofs.Streams.{Gives-nil}
use Rattle.zw_follow.specs.Publishing.{IsBehind, IsNotBehind, IsPlaced, IsShown, Said, Stands, TakesLine, greatest, told_after, told_by, zxids}
use Rattle.zw_follow.specs.Streams.{AreNotBehind, EndsBehind, EndsBy, GoesOn, IsBrokenBy, IsFollowing, IsHeeded, IsReadTo, IsSilent, IsWaitedFor, ReadsOn, ReadsStream, idles_of, is_barren, max_silence, minute, spelled, taken_after}
use Rattle.zw_follow.specs.declared.place.Place.{Place}
use Rattle.zw_follow.specs.declared.stream.StreamEnd.{StreamEnd}
use Rattle.zw_follow.specs.declared.stream.StreamEnd.TheVariants as stream
use Rattle.zw_follow.specs.declared.stream.Taken.{Taken}
use Rattle.zw_follow.specs.declared.stream.Taken.TheVariants as taken
use Rattle.zw_follow.proofs.Growing.{passed, publishes_line, publishes_nothing, publishes_unread, told_line, told_line_alone}
use Rattle.zw_follow.proofs.Reading.{taken_push}

-- ---- ends that may close a list

abbrev pub is_no_gap : FeedEnd → Type 0
is_no_gap (ends.Gap expected found) = ⊥
is_no_gap _ = Unit {0}

abbrev pub is_not_damaged : FeedEnd → Type 0
is_not_damaged (ends.Damaged key value) = ⊥
is_not_damaged _ = Unit {0}

proper_plain : (end : FeedEnd) → is_no_gap end → is_not_damaged end → IsProper end
proper_plain end gap damaged = record {
  gap = λ expected found is. absurd (subst is_no_gap is gap);
  damaged = λ key value is. absurd (subst is_not_damaged is damaged);
}

pub proper_memory : IsProper ends.Memory
proper_memory = proper_plain ends.Memory tt tt

pub proper_no_line : IsProper ends.NoLine
proper_no_line = proper_plain ends.NoLine tt tt

pub proper_compacted : (rev : ℤ) → IsProper (ends.Compacted rev)
proper_compacted rev = proper_plain (ends.Compacted rev) tt tt

-- ---- the word to stop

pub set_now : (r : Bool) (first n n' : ℕ) → n' ≡ readings_after r n → r ≡ true → n ≡ first → n' ≡ one_more first
set_now r first n n' counted set same = counted ∙ ap (λ (b : Bool). readings_after b n) set ∙ ap one_more same

pub unset_now : (r : Bool) (first n n' : ℕ) → n' ≡ readings_after r n → r ≡ false → n ≡ first → n' ≡ first
unset_now r first n n' counted unset same = counted ∙ ap (λ (b : Bool). readings_after b n) unset ∙ same

-- ---- a stream

-- where a new follower stands
pub follower_at : (n : ℤ) (s : FollowerState) → pos 0 ≤ℤ n → n <ℤ pos (2 ^ 62) → s ≡ record { number = to_z w64 (of_z w64 n); fault = None } → s ≡ record { number = n; fault = None }
follower_at n s least most is = is ∙ ap (λ (k : ℤ). record { number = k; fault = None }) (passed n least most)

-- the idle turns of a wait that begins
none_waited : (n : ℕ) → risen (0 * minute) n ≤ n
none_waited n = omega arith

-- one more minute
more_waited : (m since n n' : ℕ) → risen (m * minute) since ≤ n → risen minute n ≤ n' → risen ((m + 1) * minute) since ≤ n'
more_waited m since n n' early late = omega (arith, early, late)

-- it is waited for one more line
line_waited : (first n n' m lines lines' : ℕ) → m < max_silence → n ≤ first + max_silence * minute * lines + m * minute → n' ≤ n + minute → lines' ≡ lines + 1 → n' ≤ first + max_silence * minute * lines'
line_waited first n n' m lines lines' few early late more = omega (arith, few, early, late, more)

said_more : (said : List Said) (s : Said) → length (said ++ s ∷ []) ≡ length said + 1
said_more said s = length-append said (s ∷ [])

not_behind_push : (told : ℤ) (said : List Said) (s : Said) → AreNotBehind told said → IsNotBehind told s.line → AreNotBehind told (said ++ s ∷ [])
not_behind_push told [] s h last = (last, tt)
not_behind_push told (first ∷ said) s h last = (h.0, not_behind_push told said s h.1 last)

pub following_starts : {In : Type 0} (tells : In → Told) (lines : Lines In) (list : Published) (place : Place) (follower : FollowerState) → IsAt lines (tells lines.source) [] [] → IsPlaced list place → follower ≡ record { number = place.number; fault = None }
    → IsFollowing tells lines.source lines list list place.revision place follower taken.Nothing 0
following_starts tells lines list place follower at placed follows =
    let read : IsReadTo tells lines.source lines [] = record { taken = []; gives = Gives-nil _ _; at = at; calm = refl } in
    record {
      said = [];
      read = read;
      since = lines;
      came = read;
      idle = none_waited (idles_of tells lines);
      waited = omega arith;
      ahead = tt;
      entries = [];
      publishes = publishes_nothing list;
      told_is = refl;
      stands = record { placed = placed; follows = follows };
      is = refl;
    }

-- no line came in time
pub following_waits : {In : Type 0} (tells : In → Told) (dialled : In) (lines lines' : Lines In) (before now : Published) (asked : ℤ) (place : Place) (follower : FollowerState) (gave : Taken) (minutes : ℕ) (found : Option Line)
    → (h : IsFollowing tells dialled lines before now asked place follower gave minutes) → found ≡ None → ReadsOn tells dialled (Ok found) lines lines' h.said → IsFollowing tells dialled lines' before now asked place follower gave (minutes + 1)
following_waits tells dialled lines lines' before now asked place follower gave minutes found h none reads =
    let read : ReadsOn tells dialled (Ok None) lines lines' h.said = subst (λ (f : Option Line). ReadsOn tells dialled (Ok f) lines lines' h.said) none reads in
    let early = h.waited in
    let late = read.2 in
    record {
      said = h.said;
      read = read.0;
      since = h.since;
      came = h.came;
      idle = more_waited minutes (idles_of tells h.since) (idles_of tells lines) (idles_of tells lines') h.idle read.1;
      waited = omega (arith, early, late);
      ahead = h.ahead;
      entries = h.entries;
      publishes = h.publishes;
      told_is = h.told_is;
      stands = h.stands;
      is = h.is;
    }

-- one more line was taken
pub following_goes : {In : Type 0} (tells : In → Told) (dialled : In) (lines lines' : Lines In) (before now next : Published) (asked : ℤ) (place place' : Place) (follower follower' : FollowerState) (gave gave' : Taken) (minutes : ℕ) (found : Option Line) (l : Line) (u : Unit {0})
    → (h : IsFollowing tells dialled lines before now asked place follower gave minutes) → minutes < max_silence → found ≡ Some l → ReadsOn tells dialled (Ok found) lines lines' h.said → TakesLine (Ok u) l asked now next place.revision place'.revision → Stands next follower' place'
    → gave' ≡ taken_after l gave → IsFollowing tells dialled lines' before next asked place' follower' gave' 0
following_goes tells dialled lines lines' before now next asked place place' follower follower' gave gave' minutes found l u h few some reads takes stands counted =
    let read : ReadsOn tells dialled (Ok (Some l)) lines lines' h.said = subst (λ (f : Option Line). ReadsOn tells dialled (Ok f) lines lines' h.said) some reads in
    let waited : idles_of tells lines' ≤ ((tells dialled).counts).idles + max_silence * minute * length (h.said ++ read.0 ∷ []) = line_waited ((tells dialled).counts).idles (idles_of tells lines) (idles_of tells lines') minutes (length h.said) _ few h.waited read.3 (said_more h.said read.0) in
    record {
      said = h.said ++ read.0 ∷ [];
      read = read.2;
      since = lines';
      came = read.2;
      idle = none_waited (idles_of tells lines');
      waited = omega (arith, waited);
      ahead = not_behind_push asked h.said read.0 h.ahead (subst (IsNotBehind asked) (sym read.1) takes.0);
      entries = h.entries ++ takes.1;
      publishes = publishes_line h.said read.0 l h.entries takes.1 [] before now next read.1 h.publishes takes.2;
      told_is = takes.3 ∙ ap (λ (z : ℤ). greatest z (told_by l ++ zxids takes.1)) h.told_is ∙ told_line asked h.said read.0 l h.entries takes.1 read.1;
      stands = stands;
      is = counted ∙ taken_push gave h.said read.0 l read.1 h.is;
    }

-- ---- its end

still_waited : (first n m lines : ℕ) → m ≤ max_silence → n ≤ first + max_silence * minute * lines + m * minute → n ≤ first + max_silence * minute * (lines + 1)
still_waited first n m lines few early = omega (arith, few, early)

pub is_few : (m : ℕ) → m < max_silence → m ≤ max_silence
is_few m few = omega (arith, few)

waited_on : {In : Type 0} (tells : In → Told) (dialled : In) (lines : Lines In) (before now : Published) (asked : ℤ) (place : Place) (follower : FollowerState) (gave : Taken) (minutes : ℕ)
    → (h : IsFollowing tells dialled lines before now asked place follower gave minutes) → minutes ≤ max_silence → IsWaitedFor tells dialled lines h.said
waited_on tells dialled lines before now asked place follower gave minutes h few = still_waited ((tells dialled).counts).idles (idles_of tells lines) minutes (length h.said) few h.waited

pub stream_stops : {In : Type 0} (tells : In → Told) (dialled : In) (lines : Lines In) (before now : Published) (asked : ℤ) (place : Place) (follower : FollowerState) (gave : Taken) (minutes n n' : ℕ)
    → IsFollowing tells dialled lines before now asked place follower gave minutes → minutes ≤ max_silence → n' ≡ one_more n → ReadsStream tells dialled stream.Stopped before now asked place.revision n n'
stream_stops tells dialled lines before now asked place follower gave minutes n n' h few counted = record {
  said = h.said;
  lines = lines;
  read = h.read;
  waited = waited_on tells dialled lines before now asked place follower gave minutes h few;
  heeded = inl h.ahead;
  entries = h.entries;
  left = [];
  publishes = h.publishes;
  told_is = h.told_is;
  ends = (refl, counted);
}

-- nothing further can be read
pub stream_breaks : {In : Type 0} (tells : In → Told) (dialled : In) (lines lines' : Lines In) (before now : Published) (asked : ℤ) (place : Place) (follower : FollowerState) (gave : Taken) (minutes : ℕ) (why : Fault) (end : StreamEnd) (n n' : ℕ)
    → (h : IsFollowing tells dialled lines before now asked place follower gave minutes) → minutes ≤ max_silence → ReadsOn tells dialled (Err why) lines lines' h.said → IsBrokenBy why gave end → n' ≡ n → ReadsStream tells dialled end before now asked place.revision n n'
stream_breaks tells dialled lines lines' before now asked place follower gave minutes why (stream.Over told barren) n n' h few stops broken counted = record {
  said = h.said;
  lines = lines;
  read = h.read;
  waited = waited_on tells dialled lines before now asked place follower gave minutes h few;
  heeded = inl h.ahead;
  entries = h.entries;
  left = [];
  publishes = h.publishes;
  told_is = h.told_is;
  ends = (refl, counted, inl (h.ahead, record { why = why; stops = stops; http = broken.1; json = broken.2; counts = broken.0 ∙ ap (is_barren why) h.is }));
}
stream_breaks tells dialled lines lines' before now asked place follower gave minutes why (stream.Closes end) n n' h few stops broken counted = record {
  said = h.said;
  lines = lines;
  read = h.read;
  waited = waited_on tells dialled lines before now asked place follower gave minutes h few;
  heeded = inl h.ahead;
  entries = h.entries;
  left = [];
  publishes = h.publishes;
  told_is = h.told_is;
  ends = subst (λ (e : FeedEnd). EndsBy tells dialled (stream.Closes e) asked h.said [] now n n') (sym broken) (proper_memory, tt, counted);
}
stream_breaks tells dialled lines lines' before now asked place follower gave minutes why stream.Stopped n n' h few stops broken counted = absurd broken

-- no line came for so many minutes
pub stream_is_silent : {In : Type 0} (tells : In → Told) (dialled : In) (lines : Lines In) (before now : Published) (asked : ℤ) (place : Place) (follower : FollowerState) (gave : Taken) (minutes : ℕ) (end : StreamEnd) (n n' : ℕ)
    → IsFollowing tells dialled lines before now asked place follower gave minutes → minutes ≡ max_silence → IsBrokenBy fault.Silent gave end → n' ≡ n → ReadsStream tells dialled end before now asked place.revision n n'
stream_is_silent tells dialled lines before now asked place follower gave minutes end n n' h all broken counted =
    let silent : IsSilent tells dialled (spelled h.said) = record { since = h.since; lines = lines; came = h.came; still = h.read; long = subst (λ (m : ℕ). risen (m * minute) (idles_of tells h.since) ≤ idles_of tells lines) all h.idle } in
    stream_breaks tells dialled lines lines before now asked place follower gave minutes fault.Silent end n n' h (omega (arith, all)) silent broken counted

-- a broken stream leaves the worker at its place
pub goes_on_broken : (list : Published) (place : Place) (why : Fault) (gave : Taken) (end : StreamEnd) → IsBrokenBy why gave end → IsPlaced list place → GoesOn end list place
goes_on_broken list place why gave (stream.Over told barren) broken placed = placed
goes_on_broken list place why gave (stream.Closes end) broken placed = placed.is_open
goes_on_broken list place why gave stream.Stopped broken placed = absurd broken

-- it was waited for one more line
line_waited_for : {In : Type 0} (tells : In → Told) (dialled : In) (lines lines' : Lines In) (before now : Published) (asked : ℤ) (place : Place) (follower : FollowerState) (gave : Taken) (minutes : ℕ) (l : Line)
    → (h : IsFollowing tells dialled lines before now asked place follower gave minutes) → minutes < max_silence → (read : ReadsOn tells dialled (Ok (Some l)) lines lines' h.said) → IsWaitedFor tells dialled lines' (h.said ++ read.0 ∷ [])
line_waited_for tells dialled lines lines' before now asked place follower gave minutes l h few read =
    let waited : idles_of tells lines' ≤ ((tells dialled).counts).idles + max_silence * minute * length (h.said ++ read.0 ∷ []) = line_waited ((tells dialled).counts).idles (idles_of tells lines) (idles_of tells lines') minutes (length h.said) _ few h.waited read.3 (said_more h.said read.0) in
    omega (arith, waited)

-- a line shows that the updates cannot be followed any further
stream_closes : {In : Type 0} (tells : In → Told) (dialled : In) (lines lines' : Lines In) (before now next : Published) (asked told' : ℤ) (place : Place) (follower : FollowerState) (gave : Taken) (minutes : ℕ) (l : Line) (end : StreamEnd) (n n' : ℕ)
    → (h : IsFollowing tells dialled lines before now asked place follower gave minutes) → minutes < max_silence → (read : ReadsOn tells dialled (Ok (Some l)) lines lines' h.said) → next ≡ now → told' ≡ greatest place.revision (told_by l)
    → IsHeeded asked (h.said ++ read.0 ∷ []) → EndsBy tells dialled end asked (h.said ++ read.0 ∷ []) (heads_in (read.0).line) next n n' → ReadsStream tells dialled end before next asked told' n n'
stream_closes tells dialled lines lines' before now next asked told' place follower gave minutes l end n n' h few read same told_is heeded ends = record {
  said = h.said ++ read.0 ∷ [];
  lines = lines';
  read = read.2;
  waited = line_waited_for tells dialled lines lines' before now asked place follower gave minutes l h few read;
  heeded = heeded;
  entries = h.entries;
  left = heads_in (read.0).line;
  publishes = publishes_unread h.said read.0 h.entries before now next same h.publishes;
  told_is = told_is ∙ ap (λ (z : ℤ). greatest z (told_by l)) h.told_is ∙ told_line_alone asked h.said read.0 l h.entries read.1;
  ends = ends;
}

-- the same line and the same list
shown_in : (list list' : Published) (l l' : Line) (end : FeedEnd) → list' ≡ list → l' ≡ l → IsShown list end l → IsShown list' end l'
shown_in list list' l l' end same is shown = subst (λ (x : Published). IsShown x end l') (sym same) (subst (λ (x : Line). IsShown list end x) (sym is) shown)

-- a line that says that the member is behind adds nothing, and says nothing of how far all was told
behind_is_bare : (told asked : ℤ) (l : Line) → IsBehind asked l → (heads_in l ≡ []) × (told ≡ greatest told (told_by l))
behind_is_bare told asked (line.Created revision) h = (refl, refl)
behind_is_bare told asked (line.Events revision kvs) h = absurd h
behind_is_bare told asked (line.Compacted rev) h = absurd h
behind_is_bare told asked line.Ended h = absurd h

ended_is_bare : (told asked : ℤ) (l : Line) → l ≡ line.Ended → IsNotBehind asked l × (heads_in l ≡ []) × (told ≡ greatest told (told_by l))
ended_is_bare told asked l is = subst (λ (m : Line). IsNotBehind asked m × (heads_in m ≡ []) × (told ≡ greatest told (told_by m))) (sym is) (tt, refl, refl)

-- none of the lines so far is behind
heeded_on : {In : Type 0} (tells : In → Told) (dialled : In) (lines lines' : Lines In) (before now : Published) (asked : ℤ) (place : Place) (follower : FollowerState) (gave : Taken) (minutes : ℕ) (l : Line)
    → (h : IsFollowing tells dialled lines before now asked place follower gave minutes) → (read : ReadsOn tells dialled (Ok (Some l)) lines lines' h.said) → IsNotBehind asked l → IsHeeded asked (h.said ++ read.0 ∷ [])
heeded_on tells dialled lines lines' before now asked place follower gave minutes l h read ahead = inl (not_behind_push asked h.said read.0 h.ahead (subst (IsNotBehind asked) (sym read.1) ahead))

stream_ends : {In : Type 0} (tells : In → Told) (dialled : In) (lines lines' : Lines In) (before now next : Published) (asked told' : ℤ) (place : Place) (follower : FollowerState) (gave : Taken) (minutes : ℕ) (l : Line) (end : StreamEnd) (n n' : ℕ)
    → IsFollowing tells dialled lines before now asked place follower gave minutes → minutes < max_silence → ((said : List Said) → IsReadTo tells dialled lines (spelled said) → ReadsOn tells dialled (Ok (Some l)) lines lines' said)
    → TakesLine (Err end) l asked now next place.revision told' → n' ≡ n → ReadsStream tells dialled end before next asked told' n n'
stream_ends tells dialled lines lines' before now next asked told' place follower gave minutes l (stream.Closes ends.Memory) n n' h few reads takes counted =
    let read = reads h.said h.read in
    record {
      said = h.said ++ read.0 ∷ [];
      lines = lines';
      read = read.2;
      waited = line_waited_for tells dialled lines lines' before now asked place follower gave minutes l h few read;
      heeded = heeded_on tells dialled lines lines' before now asked place follower gave minutes l h read takes.0;
      entries = h.entries ++ takes.1;
      left = takes.2;
      publishes = publishes_line h.said read.0 l h.entries takes.1 takes.2 before now next read.1 h.publishes takes.3;
      told_is = takes.4 ∙ ap (λ (z : ℤ). greatest z (told_by l ++ zxids takes.1)) h.told_is ∙ told_line asked h.said read.0 l h.entries takes.1 read.1;
      ends = (proper_memory, tt, counted);
    }
stream_ends tells dialled lines lines' before now next asked told' place follower gave minutes l (stream.Closes (ends.Compacted rev)) n n' h few reads takes counted =
    let read = reads h.said h.read in
    stream_closes tells dialled lines lines' before now next asked told' place follower gave minutes l (stream.Closes (ends.Compacted rev)) n n' h few read takes.1 takes.2
    (heeded_on tells dialled lines lines' before now asked place follower gave minutes l h read takes.0) (takes.3, (h.said, read.0, refl, refl, read.1 ∙ takes.4), counted)
stream_ends tells dialled lines lines' before now next asked told' place follower gave minutes l (stream.Closes (ends.Gap expected found)) n n' h few reads takes counted =
    let read = reads h.said h.read in
    stream_closes tells dialled lines lines' before now next asked told' place follower gave minutes l (stream.Closes (ends.Gap expected found)) n n' h few read takes.1 takes.2
    (heeded_on tells dialled lines lines' before now asked place follower gave minutes l h read takes.0)
    (takes.3, (h.said, read.0, refl, refl, shown_in now next l (read.0).line (ends.Gap expected found) takes.1 read.1 takes.4), counted)
stream_ends tells dialled lines lines' before now next asked told' place follower gave minutes l (stream.Closes (ends.Damaged key value)) n n' h few reads takes counted =
    let read = reads h.said h.read in
    stream_closes tells dialled lines lines' before now next asked told' place follower gave minutes l (stream.Closes (ends.Damaged key value)) n n' h few read takes.1 takes.2
    (heeded_on tells dialled lines lines' before now asked place follower gave minutes l h read takes.0)
    (takes.3, (h.said, read.0, refl, refl, shown_in now next l (read.0).line (ends.Damaged key value) takes.1 read.1 takes.4), counted)
stream_ends tells dialled lines lines' before now next asked told' place follower gave minutes l (stream.Closes ends.NoLine) n n' h few reads takes counted = absurd takes.4
stream_ends tells dialled lines lines' before now next asked told' place follower gave minutes l (stream.Over why barren) n n' h few reads (same, stays, inl ended) counted =
    let read = reads h.said h.read in
    let bare = ended_is_bare place.revision asked l ended.0 in
    stream_closes tells dialled lines lines' before now next asked told' place follower gave minutes l (stream.Over why barren) n n' h few read same (stays ∙ bare.2)
    (heeded_on tells dialled lines lines' before now asked place follower gave minutes l h read bare.0)
    (ap heads_in read.1 ∙ bare.1, counted, inr (inl ((h.said, read.0, refl, read.1 ∙ ended.0), ended.1)))
stream_ends tells dialled lines lines' before now next asked told' place follower gave minutes l (stream.Over why barren) n n' h few reads (same, stays, inr behind) counted =
    let read = reads h.said h.read in
    let bare = behind_is_bare place.revision asked l behind.0 in
    let last : EndsBehind asked (h.said ++ read.0 ∷ []) = (h.said, read.0, refl, h.ahead, subst (IsBehind asked) (sym read.1) behind.0) in
    stream_closes tells dialled lines lines' before now next asked told' place follower gave minutes l (stream.Over why barren) n n' h few read same (stays ∙ bare.1)
    (inr last) (ap heads_in read.1 ∙ bare.0, counted, inr (inr (last, behind.1)))
stream_ends tells dialled lines lines' before now next asked told' place follower gave minutes l stream.Stopped n n' h few reads takes counted = absurd takes

-- a call is given the revision that it is
pub takes_at : (r : Result (Unit {0}) StreamEnd) (l : Line) (asked : ℤ) (before after : Published) (told told' : ℤ) → pos 0 ≤ℤ asked → asked <ℤ pos (2 ^ 62) → TakesLine r l (to_z w64 (of_z w64 asked)) before after told told' → TakesLine r l asked before after told told'
takes_at r l asked before after told told' least most h = subst (λ (z : ℤ). TakesLine r l z before after told told') (passed asked least most) h

-- the same, where what was found is that line
pub stream_ends_at : {In : Type 0} (tells : In → Told) (dialled : In) (lines lines' : Lines In) (before now next : Published) (asked told' : ℤ) (place : Place) (follower : FollowerState) (gave : Taken) (minutes : ℕ) (found : Option Line) (l : Line) (end : StreamEnd) (n n' : ℕ)
    → IsFollowing tells dialled lines before now asked place follower gave minutes → minutes < max_silence → found ≡ Some l → ((said : List Said) → IsReadTo tells dialled lines (spelled said) → ReadsOn tells dialled (Ok found) lines lines' said)
    → TakesLine (Err end) l asked now next place.revision told' → n' ≡ n → ReadsStream tells dialled end before next asked told' n n'
stream_ends_at tells dialled lines lines' before now next asked told' place follower gave minutes found l end n n' h few some reads takes counted =
    stream_ends tells dialled lines lines' before now next asked told' place follower gave minutes l end n n' h few
    (λ said read. subst (λ (f : Option Line). ReadsOn tells dialled (Ok f) lines lines' said) some (reads said read)) takes counted
