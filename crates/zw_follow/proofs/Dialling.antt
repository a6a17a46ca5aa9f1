-- Dials, one after the other.
use Rattle.std.proofs.Common.{◌≡◌, ℕ, ◌+◌, ◌^◌, ◌<◌, ◌≤◌, ℤ, pos, to_z, of_z, w64, Bool, true, false, List, [], ◌∷◌, ◌++◌, refl, sym, ap, ◌∙◌, subst, arith, append_assoc, append-nil, length-append, Option, Some, None, Result, Ok, Err, inl, inr}
use Rattle.std.specs.Prelude.{◌≤ℤ◌, ◌<ℤ◌}
use Rattle.ev_types.specs.declared.answer.Kv.{Kv}
use Rattle.ev_http.specs.Stream.{IsAt}
use Rattle.ev_http.specs.declared.fault.HttpFault.{HttpFault}
use Rattle.ev_http.specs.declared.fault.HttpFault.TheVariants as http
use Rattle.ev_http.specs.declared.lines.Lines.{Lines}
use Rattle.ev_faults.specs.declared.fault.Fault.{Fault}
use Rattle.zn_layout.specs.declared.entry.Entry.{Entry}
use Rattle.zw_hub.specs.Lists.{forgetting, with_end}
use Rattle.zw_hub.specs.declared.feed.FeedEnd.{FeedEnd}
use Rattle.zw_hub.specs.declared.feed.FeedEnd.TheVariants as ends
use Rattle.zw_hub.specs.declared.published.Published.{Published}
use Rattle.zx_net.specs.Nets.{NetCounts}
use Rattle.zx_net.specs.declared.net.NetFault.{NetFault}
use Rattle.zx_net.specs.declared.net.NetFault.TheVariants as refused
use Rattle.zx_outside.specs.Counts.{one_more}
use Rattle.zw_follow.specs.Dials.{Answers, AreBarren, AreDials, AreFewEnough, Comes, CountsTo, Dial, DialsOnce, EndBarren, Followed, Follows, Forgets, GivesUp, IsBetween, IsDial, IsFailed, IsOverDial, IsUndialledBy, NetTold, Opens, OpensNone, Stops, Telling, WasRead, at_after, barren_after, entries_of, host_after, host_at, left_after, said_of}
use Rattle.zw_follow.specs.Publishing.{Explains, IsPlaced, Publishes, Said, heads_of, told_after, with_entries}
use Rattle.zw_follow.specs.Streams.{GoesOn, IsOver, IsUnsentBy, ReadsStream}
use Rattle.zw_follow.specs.declared.place.Place.{Place}
use Rattle.zw_follow.specs.declared.stream.StreamEnd.{StreamEnd}
use Rattle.zw_follow.specs.declared.stream.StreamEnd.TheVariants as stream
use Rattle.zw_follow.proofs.Ending.{proper_memory, proper_no_line}
use Rattle.zw_follow.proofs.Growing.{heads_join, passed, publishes_join, publishes_nothing, told_join, with_none}

-- ---- one dial

-- a call is given the number that it is
pub opens_at : {In Out : Type 0} (tells : Telling In Out) (result : Result (Lines In) StreamEnd) (host : List ℕ) (told : ℤ) (net net' : NetTold) → pos 0 ≤ℤ told → told <ℤ pos (2 ^ 62) → Opens tells result host (to_z w64 (of_z w64 told)) net net'
    → Opens tells result host told net net'
opens_at tells result host told net net' least most h = subst (λ (z : ℤ). Opens tells result host z net net') (passed told least most) h

-- the dial failed
pub opens_undialled : {In Out : Type 0} (tells : Telling In Out) (why : NetFault) (end : StreamEnd) (host : List ℕ) (told : ℤ) (net net' : NetTold) → IsUndialledBy why end → IsFailed why net net' → Opens tells (Err end) host told net net'
opens_undialled tells refused.NoRoom end host told net net' is failed = subst (λ (e : StreamEnd). Opens tells (Err e) host told net net') (sym is) (inl (refused.NoRoom, failed, refl))
opens_undialled tells refused.InUse end host told net net' is failed = subst (λ (e : StreamEnd). Opens tells (Err e) host told net net') (sym is) (inl (refused.InUse, failed, refl))
opens_undialled tells refused.NoAddress end host told net net' is failed = subst (λ (e : StreamEnd). Opens tells (Err e) host told net net') (sym is) (inl (refused.NoAddress, failed, refl))
opens_undialled tells refused.Denied end host told net net' is failed = subst (λ (e : StreamEnd). Opens tells (Err e) host told net net') (sym is) (inl (refused.Denied, failed, refl))
opens_undialled tells refused.Failed end host told net net' is failed = subst (λ (e : StreamEnd). Opens tells (Err e) host told net net') (sym is) (inl (refused.Failed, failed, refl))

-- the request was sent
pub opens_lines : {In Out : Type 0} (tells : Telling In Out) (lines : Lines In) (source : In) (host : List ℕ) (told : ℤ) (net net' : NetTold) → lines.source ≡ source → IsAt lines (tells.source source) [] [] → Answers tells (Ok tt) host told net net' source
    → Opens tells (Ok lines) host told net net'
opens_lines {In = In} tells lines source host told net net' is at answers =
    (subst (λ (s : In). IsAt lines (tells.source s) [] []) (sym is) at, subst (λ (s : In). Answers tells (Ok tt) host told net net' s) (sym is) answers)

-- it was not sent: the sink had a fault, or memory was refused
pub opens_none : {In Out : Type 0} (tells : Telling In Out) (why : HttpFault) (end : StreamEnd) (host : List ℕ) (told : ℤ) (net net' : NetTold) → IsUnsentBy why end → OpensNone tells why host told net net' → Opens tells (Err end) host told net net'
opens_none tells why (stream.Closes end) host told net net' unsent none = (unsent.0, subst (λ (w : HttpFault). OpensNone tells w host told net net') unsent.1 none)
opens_none tells http.WriteFault (stream.Over why barren) host told net net' unsent none = inr (unsent.0, none)
opens_none tells http.Memory (stream.Over cause barren) host told net net' unsent none = absurd (unsent.1 refl)
opens_none tells http.Head (stream.Over cause barren) host told net net' unsent none = absurd (none.answers).sends
opens_none tells (http.Status n) (stream.Over cause barren) host told net net' unsent none = absurd (none.answers).sends
opens_none tells http.Route (stream.Over cause barren) host told net net' unsent none = absurd (none.answers).sends
opens_none tells (http.Body place) (stream.Over cause barren) host told net net' unsent none = absurd (none.answers).sends
opens_none tells (http.TooLong n) (stream.Over cause barren) host told net net' unsent none = absurd (none.answers).sends
opens_none tells (http.Ended n) (stream.Over cause barren) host told net net' unsent none = absurd (none.answers).sends
opens_none tells http.Idle (stream.Over cause barren) host told net net' unsent none = absurd (none.answers).sends
opens_none tells http.ReadFault (stream.Over cause barren) host told net net' unsent none = absurd (none.answers).sends
opens_none tells why stream.Stopped host told net net' unsent none = absurd unsent

-- a dial that read no line
pub dials_none : {In Out : Type 0} (tells : Telling In Out) (host : List ℕ) (end : StreamEnd) (net net' : NetTold) (list : Published) (told : ℤ) (n : ℕ) → Opens tells (Err end) host told net net' → DialsOnce tells host end net net' list list told told n n
dials_none tells host (stream.Over why barren) net net' list told n (inl (cause, failed, counts)) = record {
  dial = record { host = host; before = net; after = net'; told = told; said = []; entries = [] };
  starts = refl;
  stops = refl;
  asks = refl;
  names = refl;
  is = inl (cause, (failed, (refl, refl)));
  left = [];
  publishes = publishes_nothing list;
  told_is = refl;
  comes = (refl, refl, inl (cause, (failed, (refl, refl)), counts));
}
dials_none tells host (stream.Over why barren) net net' list told n (inr (counts, none)) = record {
  dial = record { host = host; before = net; after = net'; told = told; said = []; entries = [] };
  starts = refl;
  stops = refl;
  asks = refl;
  names = refl;
  is = inr (inl (http.WriteFault, (none, (refl, refl))));
  left = [];
  publishes = publishes_nothing list;
  told_is = refl;
  comes = (refl, refl, inr (inl ((none, (refl, refl)), counts)));
}
dials_none tells host (stream.Closes end) net net' list told n opens =
    let d : Dial = record { host = host; before = net; after = net'; told = told; said = []; entries = [] } in
    record {
      dial = d;
      starts = refl;
      stops = refl;
      asks = refl;
      names = refl;
      is = inr (inl (http.Memory, (opens.1, (refl, refl))));
      left = [];
      publishes = publishes_nothing list;
      told_is = refl;
      comes = subst (λ (e : FeedEnd). Comes tells host (stream.Closes e) d [] list n n) (sym opens.0) (proper_memory, tt, refl);
    }
dials_none tells host stream.Stopped net net' list told n opens = absurd opens

-- the worker stays at its place
pub goes_on_unopened : {In Out : Type 0} (tells : Telling In Out) (end : StreamEnd) (host : List ℕ) (told : ℤ) (net net' : NetTold) (list : Published) (place : Place) → Opens tells (Err end) host told net net' → IsPlaced list place → GoesOn end list place
goes_on_unopened tells (stream.Over why barren) host told net net' list place opens placed = placed
goes_on_unopened tells (stream.Closes end) host told net net' list place opens placed = placed.is_open
goes_on_unopened tells stream.Stopped host told net net' list place opens placed = absurd opens

comes_read : {In Out : Type 0} (tells : Telling In Out) (host : List ℕ) (end : StreamEnd) (d : Dial) (before after : Published) (told told' : ℤ) (n n' : ℕ) (w : WasRead tells host d) (r : ReadsStream tells.source w.source end before after told told' n n')
    → d.said ≡ r.said → d.told ≡ told → Comes tells host end d r.left after n n'
comes_read tells host stream.Stopped d before after told told' n n' w r same asks = r.ends
comes_read tells host (stream.Over why barren) d before after told told' n n' w r same asks =
    let over : IsOver tells.source w.source told d.said barren = subst (λ (said : List Said). IsOver tells.source w.source told said barren) (sym same) (r.ends).2 in
    ((r.ends).0, (r.ends).1, inr (inr (w, subst (λ (z : ℤ). IsOver tells.source w.source z d.said barren) (sym asks) over)))
comes_read tells host (stream.Closes end) d before after told told' n n' w r same asks =
    ((r.ends).0, subst (λ (said : List Said). Explains end after said r.left) (sym same) (r.ends).1, (r.ends).2)

-- a dial whose stream was read
pub dials_read : {In Out : Type 0} (tells : Telling In Out) (lines : Lines In) (host : List ℕ) (end : StreamEnd) (net net' : NetTold) (before after : Published) (told told' : ℤ) (n n' : ℕ) → Opens tells (Ok lines) host told net net'
    → ReadsStream tells.source lines.source end before after told told' n n' → DialsOnce tells host end net net' before after told told' n n'
dials_read tells lines host end net net' before after told told' n n' opens r =
    let d : Dial = record { host = host; before = net; after = net'; told = told; said = r.said; entries = r.entries } in
    let w : WasRead tells host d = record { source = lines.source; answers = opens.1; lines = r.lines; read = r.read; waited = r.waited; heeded = r.heeded } in
    record {
      dial = d;
      starts = refl;
      stops = refl;
      asks = refl;
      names = refl;
      is = inr (inr w);
      left = r.left;
      publishes = r.publishes;
      told_is = r.told_is;
      comes = comes_read tells host end d before after told told' n n' w r refl refl;
    }

-- the net was told that the stream was of use, and tells the same
pub settled : {In Out : Type 0} (tells : Telling In Out) (host : List ℕ) (end : StreamEnd) (net : NetTold) (counts counts' : NetCounts) (no_room no_room' : ℕ) (streams streams' : Option (List (List ℕ))) (before after : Published) (told told' : ℤ) (n n' : ℕ) → counts' ≡ counts → no_room' ≡ no_room → streams' ≡ streams
    → DialsOnce tells host end net (record { counts = counts; no_room = no_room; streams = streams }) before after told told' n n' → DialsOnce tells host end net (record { counts = counts'; no_room = no_room'; streams = streams' }) before after told told' n n'
settled tells host end net counts counts' no_room no_room' streams streams' before after told told' n n' same_counts same_no_room same_streams h =
    subst (λ (c : NetCounts). DialsOnce tells host end net (record { counts = c; no_room = no_room'; streams = streams' }) before after told told' n n') (sym same_counts)
    (subst (λ (k : ℕ). DialsOnce tells host end net (record { counts = counts; no_room = k; streams = streams' }) before after told told' n n') (sym same_no_room)
    (subst (λ (s : Option (List (List ℕ))). DialsOnce tells host end net (record { counts = counts; no_room = no_room; streams = s }) before after told told' n n') (sym same_streams) h))

-- ---- one more dial

said_push : (ds : List Dial) (d : Dial) → said_of (ds ++ d ∷ []) ≡ said_of ds ++ d.said
said_push [] d = append-nil d.said
said_push (first ∷ ds) d = ap (λ (said : List Said). first.said ++ said) (said_push ds d) ∙ sym (append_assoc first.said (said_of ds) d.said)

entries_push : (ds : List Dial) (d : Dial) → entries_of (ds ++ d ∷ []) ≡ entries_of ds ++ d.entries
entries_push [] d = append-nil d.entries
entries_push (first ∷ ds) d = ap (λ (es : List Entry). first.entries ++ es) (entries_push ds d) ∙ sym (append_assoc first.entries (entries_of ds) d.entries)

at_push : (text : List ℕ) (at : ℕ) (ds : List Dial) (d : Dial) → at_after text at (ds ++ d ∷ []) ≡ host_after text (at_after text at ds)
at_push text at [] d = refl
at_push text at (first ∷ ds) d = at_push text (host_after text at) ds d

dials_push : {In Out : Type 0} (tells : Telling In Out) (text : List ℕ) (at : ℕ) (net now : NetTold) (told : ℤ) (ds : List Dial) (d : Dial) → AreDials tells text at net told ds now → d.before ≡ now → d.told ≡ told_after told (said_of ds) (entries_of ds)
    → d.host ≡ host_at text (at_after text at ds) → IsDial tells d.host d → AreDials tells text at net told (ds ++ d ∷ []) d.after
dials_push tells text at net now told [] d dials starts asks names is = (starts ∙ dials, asks, names, is, refl)
dials_push tells text at net now told (first ∷ ds) d dials starts asks names is =
    (dials.0, dials.1, dials.2, dials.3, dials_push tells text (host_after text at) first.after now (told_after told first.said first.entries) ds d dials.4 starts (asks ∙ told_join told first.said (said_of ds) first.entries (entries_of ds)) names is)

counts_push : {In Out : Type 0} (tells : Telling In Out) (n m k : ℕ) (before list after : Published) (ds : List Dial) (d : Dial) (barren : Bool) → CountsTo tells n before ds m list → m < 10 → IsOverDial tells d.host d barren
    → k ≡ barren_after barren m → after ≡ left_after barren (with_entries list d.entries) → CountsTo tells n before (ds ++ d ∷ []) k after
counts_push tells n m k before list after [] d barren h small over counted left = (
  subst (λ (i : ℕ). i < 10) h.0 small,
  barren,
  over,
  (counted ∙ ap (barren_after barren) h.0, left ∙ ap (λ (l : Published). left_after barren (with_entries l d.entries)) h.1),
)
counts_push tells n m k before list after (first ∷ ds) d barren h small over counted left =
    (h.0, h.1, h.2, counts_push tells (barren_after h.1 n) m k (left_after h.1 (with_entries before first.entries)) list after ds d barren h.3 small over counted left)

-- a dial was made where fewer than ten in a row had given no line
few_push : {In Out : Type 0} (tells : Telling In Out) (n m : ℕ) (before list : Published) (ds : List Dial) (d : Dial) → CountsTo tells n before ds m list → m < 10 → AreFewEnough tells n (ds ++ d ∷ [])
few_push tells n m before list [] d h small = subst (λ (k : ℕ). k < 10) h.0 small
few_push tells n m before list (first ∷ []) d h small =
    (h.0, h.1, h.2, few_push tells (barren_after h.1 n) m (left_after h.1 (with_entries before first.entries)) list [] d h.3 small)
few_push tells n m before list (first ∷ second ∷ ds) d h small =
    (h.0, h.1, h.2, few_push tells (barren_after h.1 n) m (left_after h.1 (with_entries before first.entries)) list (second ∷ ds) d h.3 small)

-- what was published does not depend on what is forgotten
publishes_at : (heads : List Kv) (entries : List Entry) (left : List Kv) (before after : Published) (z : ℤ) → Publishes heads entries left before after
    → Publishes heads entries left (record before { forgotten = z }) (record after { forgotten = z })
publishes_at heads entries left before after z h = record { taken = h.taken; split = h.split; gives = h.gives; grown = ap (λ (l : Published). record l { forgotten = z }) h.grown }

left_at : (barren : Bool) (list : Published) (z : ℤ) → record (left_after barren list) { forgotten = z } ≡ record list { forgotten = z }
left_at true list z = refl
left_at false list z = refl

-- a list that forgets is open, and has its place
placed_by : (barren : Bool) (list : Published) (place : Place) → IsPlaced list place → IsPlaced (left_after barren list) place
placed_by true list place placed = record { is_open = placed.is_open; placed = placed.placed; least = placed.least; most = placed.most; revision_least = placed.revision_least; revision_most = placed.revision_most }
placed_by false list place placed = placed

pub placed_left : (barren : Bool) (list list' : Published) (place : Place) → list' ≡ left_after barren list → IsPlaced list place → IsPlaced list' place
placed_left barren list list' place is placed = subst (λ (l : Published). IsPlaced l place) (sym is) (placed_by barren list place placed)

barren_push : {In Out : Type 0} (tells : Telling In Out) (ds : List Dial) (d : Dial) → AreBarren tells ds → IsOverDial tells d.host d true → AreBarren tells (ds ++ d ∷ [])
barren_push tells [] d h over = (over, tt)
barren_push tells (first ∷ ds) d h over = (h.0, barren_push tells ds d h.1 over)

end_barren : {In Out : Type 0} (tells : Telling In Out) (n : ℕ) (ds : List Dial) (d : Dial) (barren : Bool) → EndBarren tells n ds → IsOverDial tells d.host d barren → EndBarren tells (barren_after barren n) (ds ++ d ∷ [])
end_barren tells n ds d true h over = record {
  earlier = h.earlier;
  last = h.last ++ d ∷ [];
  split = ap (λ (l : List Dial). l ++ d ∷ []) h.split ∙ append_assoc h.earlier h.last (d ∷ []);
  count = length-append h.last (d ∷ []) ∙ ap (λ (k : ℕ). k + 1) h.count;
  barren = barren_push tells h.last d h.barren over;
}
end_barren tells n ds d false h over = record { earlier = ds ++ d ∷ []; last = []; split = sym (append-nil (ds ++ d ∷ [])); count = refl; barren = tt }

followed_push : {In Out : Type 0} (tells : Telling In Out) (text host : List ℕ) (at : ℕ) (end : StreamEnd) (net now net' : NetTold) (told told' told'' : ℤ) (before list after : Published) (barren n n' : ℕ)
    → (b : IsBetween tells text net now told before list told' barren at) → barren < 10 → host ≡ host_at text at → (o : DialsOnce tells host end now net' list after told' told'' n n') → Followed tells text net net' told (b.dials ++ o.dial ∷ []) o.left before after
followed_push tells text host at end net now net' told told' told'' before list after barren n n' b small is_host o = record {
  dials = subst (AreDials tells text 0 net told (b.dials ++ o.dial ∷ [])) o.stops
      (dials_push tells text 0 net now told b.dials o.dial (b.followed).dials o.starts (o.asks ∙ b.asks) (o.names ∙ is_host ∙ ap (host_at text) b.next) o.is);
  few = few_push tells 0 barren before list b.dials o.dial b.counts small;
  publishes = subst (λ (es : List Entry). Publishes (heads_of (said_of (b.dials ++ o.dial ∷ []))) es o.left before (record after { forgotten = before.forgotten })) (sym (entries_push b.dials o.dial))
      (subst (λ (heads : List Kv). Publishes heads (entries_of b.dials ++ (o.dial).entries) o.left before (record after { forgotten = before.forgotten }))
      (sym (ap heads_of (said_push b.dials o.dial) ∙ heads_join (said_of b.dials) (o.dial).said))
      (publishes_join (heads_of (said_of b.dials)) (heads_of (o.dial).said) (entries_of b.dials) (o.dial).entries o.left before (record list { forgotten = before.forgotten }) (record after { forgotten = before.forgotten }) (b.followed).publishes
      (publishes_at (heads_of (o.dial).said) (o.dial).entries o.left list after before.forgotten o.publishes)));
  forgets = record {
    over = b.dials;
    last = o.dial ∷ [];
    split = refl;
    one = omega arith;
    barren = barren;
    list = list;
    counts = b.counts;
    grown = (o.publishes).grown ∙ ap (with_entries list) (sym (append-nil (o.dial).entries));
  };
}

-- ---- all dials

pub between_starts : {In Out : Type 0} (tells : Telling In Out) (text : List ℕ) (net : NetTold) (told : ℤ) (list : Published) → IsBetween tells text net net told list list told 0 0
between_starts tells text net told list = record {
  dials = [];
  followed = record {
    dials = refl;
    few = tt;
    publishes = publishes_nothing list;
    forgets = record { over = []; last = []; split = refl; one = omega arith; barren = 0; list = list; counts = (refl, refl); grown = sym (with_none list) };
  };
  counts = (refl, refl);
  next = refl;
  asks = refl;
  none = record { earlier = []; last = []; split = refl; count = refl; barren = tt };
}

pub between_goes : {In Out : Type 0} (tells : Telling In Out) (text host : List ℕ) (at at' : ℕ) (why : Fault) (is_barren : Bool) (net now net' : NetTold) (told told' told'' : ℤ) (before list after after' : Published) (barren barren' n n' : ℕ)
    → IsBetween tells text net now told before list told' barren at → barren < 10 → host ≡ host_at text at → DialsOnce tells host (stream.Over why is_barren) now net' list after told' told'' n n'
    → barren' ≡ barren_after is_barren barren → at' ≡ host_after text at → after' ≡ left_after is_barren after → IsBetween tells text net net' told before after' told'' barren' at'
between_goes tells text host at at' why is_barren net now net' told told' told'' before list after after' barren barren' n n' b small is_host o counted turned forgot =
    let f = followed_push tells text host at (stream.Over why is_barren) net now net' told told' told'' before list after barren n n' b small is_host o in
    let counts : CountsTo tells 0 before (b.dials ++ o.dial ∷ []) barren' after' =
    counts_push tells 0 barren barren' before list after' b.dials o.dial is_barren b.counts small (o.comes).2 counted (forgot ∙ ap (left_after is_barren) (o.publishes).grown) in
    let same : record after' { forgotten = before.forgotten } ≡ record after { forgotten = before.forgotten } = ap (λ (l : Published). record l { forgotten = before.forgotten }) forgot ∙ left_at is_barren after before.forgotten in
    record {
      dials = b.dials ++ o.dial ∷ [];
      followed = record {
        dials = f.dials;
        few = f.few;
        publishes = subst (λ (left : List Kv). Publishes (heads_of (said_of (b.dials ++ o.dial ∷ []))) (entries_of (b.dials ++ o.dial ∷ [])) left before (record after' { forgotten = before.forgotten })) (o.comes).0
            (subst (λ (l : Published). Publishes (heads_of (said_of (b.dials ++ o.dial ∷ []))) (entries_of (b.dials ++ o.dial ∷ [])) o.left before l) (sym same) f.publishes);
        forgets = record { over = b.dials ++ o.dial ∷ []; last = []; split = sym (append-nil (b.dials ++ o.dial ∷ [])); one = omega arith; barren = barren'; list = after'; counts = counts; grown = sym (with_none after') };
      };
      counts = counts;
      next = turned ∙ ap (host_after text) b.next ∙ sym (at_push text 0 b.dials o.dial);
      asks = o.told_is
          ∙ ap (λ (z : ℤ). told_after z (o.dial).said (o.dial).entries) b.asks
          ∙ sym (told_join told (said_of b.dials) (o.dial).said (entries_of b.dials) (o.dial).entries)
          ∙ ap (λ (said : List Said). told_after told said (entries_of b.dials ++ (o.dial).entries)) (sym (said_push b.dials o.dial))
          ∙ ap (told_after told (said_of (b.dials ++ o.dial ∷ []))) (sym (entries_push b.dials o.dial));
      none = subst (λ (k : ℕ). EndBarren tells k (b.dials ++ o.dial ∷ [])) (sym counted) (end_barren tells barren b.dials o.dial is_barren b.none (o.comes).2);
    }

-- the word to stop was set, between two dials
pub stops_between : {In Out : Type 0} (tells : Telling In Out) (text : List ℕ) (at : ℕ) (net now : NetTold) (told told' : ℤ) (before list : Published) (barren n n' : ℕ) → IsBetween tells text net now told before list told' barren at → list.end ≡ None → n' ≡ one_more n
    → Stops tells text None net now told before list n n'
stops_between tells text at net now told told' before list barren n n' b is_open counted = (is_open, counted, b.dials, b.followed)

-- the word to stop was set while a stream was read
pub stops_within : {In Out : Type 0} (tells : Telling In Out) (text host : List ℕ) (at : ℕ) (net now net' : NetTold) (told told' told'' : ℤ) (before list after : Published) (barren first n n' : ℕ) → IsBetween tells text net now told before list told' barren at → barren < 10
    → host ≡ host_at text at → DialsOnce tells host stream.Stopped now net' list after told' told'' n n' → after.end ≡ None → n ≡ first → Stops tells text None net net' told before after first n'
stops_within tells text host at net now net' told told' told'' before list after barren first n n' b small is_host o is_open unset = (
  is_open,
  (o.comes).1 ∙ ap one_more unset,
  b.dials ++ o.dial ∷ [],
  subst (λ (left : List Kv). Followed tells text net net' told (b.dials ++ o.dial ∷ []) left before after) (o.comes).0
      (followed_push tells text host at stream.Stopped net now net' told told' told'' before list after barren n n' b small is_host o),
)

gives_up : {In Out : Type 0} (tells : Telling In Out) (end : FeedEnd) (list : Published) (ds : List Dial) (d : Dial) (left : List Kv) → Explains end list d.said left → GivesUp tells end list (ds ++ d ∷ []) left
gives_up tells (ends.Compacted rev) list ds d left why = (ds, d, refl, why)
gives_up tells (ends.Gap expected found) list ds d left why = (ds, d, refl, why)
gives_up tells (ends.Damaged key value) list ds d left why = (ds, d, refl, why)
gives_up tells ends.NoLine list ds d left why = absurd why.4
gives_up tells ends.Memory list ds d left why = (ds, d, refl, why)

-- the updates cannot be followed any further
pub closes : {In Out : Type 0} (tells : Telling In Out) (text host : List ℕ) (at : ℕ) (end : FeedEnd) (net now net' : NetTold) (told told' told'' : ℤ) (before list after : Published) (barren first n n' : ℕ) → IsBetween tells text net now told before list told' barren at → barren < 10
    → host ≡ host_at text at → DialsOnce tells host (stream.Closes end) now net' list after told' told'' n n' → after.end ≡ None → n ≡ first → Stops tells text (Some end) net net' told before after first n'
closes tells text host at end net now net' told told' told'' before list after barren first n n' b small is_host o is_open unset = (
  is_open,
  (o.comes).2 ∙ unset,
  (o.comes).0,
  b.dials ++ o.dial ∷ [],
  o.left,
  followed_push tells text host at (stream.Closes end) net now net' told told' told'' before list after barren n n' b small is_host o,
  gives_up tells end after b.dials o.dial o.left (o.comes).1,
)

-- ten dials in a row gave no line
pub no_line : {In Out : Type 0} (tells : Telling In Out) (text : List ℕ) (at : ℕ) (net now : NetTold) (told told' : ℤ) (before list : Published) (barren first n : ℕ) → IsBetween tells text net now told before list told' barren at → barren ≡ 10 → list.end ≡ None → n ≡ first
    → Stops tells text (Some ends.NoLine) net now told before list first n
no_line tells text at net now told told' before list barren first n b ten is_open unset =
    (is_open, unset, proper_no_line, b.dials, [], b.followed, (refl, subst (λ (k : ℕ). EndBarren tells k b.dials) ten b.none))

pub barren_small : (is_barren : Bool) (n : ℕ) → n < 10 → barren_after is_barren n ≤ 10
barren_small true n small = omega (arith, small)
barren_small false n small = omega arith

pub ten_barren : (n : ℕ) → n ≤ 10 → 10 ≤ n → n ≡ 10
ten_barren n most least = omega (arith, most, least)

-- the list is closed for the end
pub follows_closed : {In Out : Type 0} (tells : Telling In Out) (text : List ℕ) (end end' : FeedEnd) (net net' : NetTold) (told : ℤ) (before between after : Published) (n n' : ℕ) → Stops tells text (Some end) net net' told before between n n' → end' ≡ end → after ≡ with_end between end
    → Follows tells text (Some end') net net' told before after n n'
follows_closed tells text end end' net net' told before between after n n' stops same closed =
    subst (λ (e : FeedEnd). Follows tells text (Some e) net net' told before after n n') (sym same) (between, stops, closed)
