-- A list that grows by entries.
use Rattle.std.proofs.Common.{◌≡◌, ◌+◌, ◌<◌, ◌^◌, ℤ, pos, negsuc, to_z, of_z, w64, List, [], ◌∷◌, ◌++◌, length, refl, sym, ap, ◌∙◌, subst, arith, append_assoc, append-nil, length-append}
use Rattle.std.proofs.lemmas.Int.{clamps, ints, to_z_pos}
use Rattle.std.proofs.lemmas.List.Sums.{fold-append}
use Rattle.std.proofs.lemmas.List.Elements.{All-filter, All-from_recursion, All-head, All-nil, All-tail, All-weaker}
use Rattle.std.specs.Int.{int_max}
use Rattle.std.specs.Prelude.{◌+ℤ◌, ◌≤ℤ◌, ◌<ℤ◌, All, None, Ok, Err}
use Rattle.ev_types.specs.declared.answer.Kv.{Kv}
use Rattle.ev_fields.specs.Ranges.{IsCount}
use Rattle.ev_json.specs.Ranges.{KvFits, LineFits}
use Rattle.ev_json.specs.declared.line.Line.{Line}
use Rattle.ev_json.specs.declared.line.Line.TheVariants as line
use Rattle.zn_layout.specs.declared.entry.Entry.{Entry}
use Rattle.zw_feed.specs.Following.{AreEntries, IsNumbered, heads_in, is_head}
use Rattle.zw_feed.specs.Following as feed
use Rattle.zw_hub.specs.Lists.{last_number, with_entry}
use Rattle.zw_hub.specs.declared.published.Published.{Published}
use Rattle.zx_base.specs.declared.memory.Memory.{Memory}
use Rattle.zw_follow.specs.Publishing.{IsPlaced, IsPublishing, IsRun, Publishes, PublishesAll, Said, greatest, heads_of, told_after, told_by, told_in, with_entries, zxids}
use Rattle.zw_follow.specs.declared.place.Place.{Place}

-- ---- numbers of an etcd

-- such a number is the one that a callee is given
pub passed : (z : ℤ) → pos 0 ≤ℤ z → z <ℤ pos (2 ^ 62) → to_z w64 (of_z w64 z) ≡ z
passed (pos n) least most = let small : n < 2 ^ 63 = omega (arith, ints, most) in to_z_pos w64 n small
passed (negsuc n) least most = absurd (omega (arith, ints, least))

counted : (n m : ℤ) → n ≡ m → IsCount m → (pos 0 ≤ℤ n) × (n <ℤ pos (2 ^ 62))
counted n m is c = let e : m ≡ pos c.0 = c.1 in let l : c.0 < 2 ^ 62 = c.2 in (omega (arith, ints, is, e), omega (arith, ints, is, e, l))

numbered : (kv : Kv) → KvFits kv → IsNumbered kv
numbered kv h = let c = counted kv.version kv.version refl h.4 in record { least = c.0; most = c.1 }

-- a line that was read may be taken
pub line_fits : (l : Line) → LineFits l → feed.LineFits l
line_fits (line.Created revision) h = tt
line_fits (line.Events revision kvs) h = All-weaker KvFits IsNumbered numbered kvs (All-from_recursion KvFits kvs h.1)
line_fits (line.Compacted rev) h = tt
line_fits line.Ended h = tt

pub heads_fit : (l : Line) → LineFits l → All KvFits (heads_in l)
heads_fit (line.Created revision) h = All-nil KvFits
heads_fit (line.Events revision kvs) h = All-filter is_head KvFits kvs (All-from_recursion KvFits kvs h.1)
heads_fit (line.Compacted rev) h = All-nil KvFits
heads_fit line.Ended h = All-nil KvFits

-- the entries of heads have numbers that follow
pub entries_run : (n : ℤ) (kvs : List Kv) (es : List Entry) → All KvFits kvs → AreEntries n kvs es → IsRun n es
entries_run n [] [] fits h = tt
entries_run n [] (e ∷ es) fits h = absurd h
entries_run n (kv ∷ kvs) [] fits h = absurd h
entries_run n (kv ∷ kvs) (e ∷ es) fits h =
    let c = counted e.zxid kv.mod_revision (h.0).zxid (All-head KvFits kv kvs fits).3 in
    ((h.0).number_is, c.0, c.1, entries_run (n +ℤ pos 1) kvs es (All-tail KvFits kv kvs fits) h.1)

-- the number of the last of them is below 2 ^ 62
pub entries_below : (n : ℤ) (kvs : List Kv) (es : List Entry) → All KvFits kvs → AreEntries n kvs es → n <ℤ pos (2 ^ 62) → (n +ℤ pos (length es)) <ℤ pos (2 ^ 62)
entries_below n [] [] fits h below = omega (arith, ints, below)
entries_below n [] (e ∷ es) fits h below = absurd h
entries_below n (kv ∷ kvs) [] fits h below = absurd h
entries_below n (kv ∷ kvs) (e ∷ es) fits h below =
    let c = counted (n +ℤ pos 1) kv.version (sym (h.0).shown) (All-head KvFits kv kvs fits).4 in
    let rest : (n +ℤ pos 1 +ℤ pos (length es)) <ℤ pos (2 ^ 62) = entries_below (n +ℤ pos 1) kvs es (All-tail KvFits kv kvs fits) h.1 c.1 in omega (arith, ints, rest)

-- ---- lists

pub with_none : (list : Published) → with_entries list [] ≡ list
with_none list = ap (λ (es : List Entry). record list { entries = es }) (append-nil list.entries)

pub with_more : (list : Published) (es others : List Entry) → with_entries (with_entries list es) others ≡ with_entries list (es ++ others)
with_more list es others = ap (λ (all : List Entry). record list { entries = all }) (append_assoc list.entries es others)

pub last_after : (list : Published) (e : Entry) → last_number (with_entry list e) ≡ last_number list +ℤ pos 1
last_after list e = let s : length (list.entries ++ e ∷ []) ≡ length list.entries + 1 = length-append list.entries (e ∷ []) in omega (arith, ints, s)

pub last_with : (list : Published) (es : List Entry) → last_number (with_entries list es) ≡ last_number list +ℤ pos (length es)
last_with list es = let s : length (list.entries ++ es) ≡ length list.entries + length es = length-append list.entries es in omega (arith, ints, s)

pub still_open : (before now : Published) (es : List Entry) → now ≡ with_entries before es → before.end ≡ None → now.end ≡ None
still_open before now es grown h = ap (λ (list : Published). list.end) grown ∙ h

-- ---- how far all was told

max_swap : (a b c : ℤ) → int_max (int_max a b) c ≡ int_max (int_max a c) b
max_swap a b c = omega (arith, ints, clamps)

max_of_more : (a : ℤ) (others : List ℤ) (b : ℤ) → greatest (int_max a b) others ≡ int_max (greatest a others) b
max_of_more a [] b = refl
max_of_more a (c ∷ others) b = ap (λ (m : ℤ). greatest m others) (max_swap a b c) ∙ max_of_more (int_max a c) others b

greatest_swap : (told : ℤ) (some others : List ℤ) → greatest (greatest told some) others ≡ greatest (greatest told others) some
greatest_swap told [] others = refl
greatest_swap told (a ∷ some) others = greatest_swap (int_max told a) some others ∙ ap (λ (m : ℤ). greatest m some) (max_of_more told others a)

pub greatest_join : (told : ℤ) (some others : List ℤ) → greatest told (some ++ others) ≡ greatest (greatest told some) others
greatest_join told some others = fold-append int_max told some others

zxids_join : (es others : List Entry) → zxids (es ++ others) ≡ zxids es ++ zxids others
zxids_join [] others = refl
zxids_join (e ∷ es) others = ap (λ (l : List ℤ). e.zxid ∷ l) (zxids_join es others)

told_in_join : (said more : List Said) → told_in (said ++ more) ≡ told_in said ++ told_in more
told_in_join [] more = refl
told_in_join (s ∷ said) more = ap (λ (l : List ℤ). told_by s.line ++ l) (told_in_join said more) ∙ sym (append_assoc (told_by s.line) (told_in said) (told_in more))

-- in whatever order the lines and the entries come
told_apart : (told : ℤ) (said : List Said) (es : List Entry) → told_after told said es ≡ greatest (greatest told (told_in said)) (zxids es)
told_apart told said es = greatest_join told (told_in said) (zxids es)

pub told_join : (told : ℤ) (said more : List Said) (es others : List Entry) → told_after told (said ++ more) (es ++ others) ≡ told_after (told_after told said es) more others
told_join told said more es others =
    told_apart told (said ++ more) (es ++ others)
    ∙ ap (λ (l : List ℤ). greatest (greatest told l) (zxids (es ++ others))) (told_in_join said more)
    ∙ ap (λ (l : List ℤ). greatest (greatest told (told_in said ++ told_in more)) l) (zxids_join es others)
    ∙ ap (λ (m : ℤ). greatest m (zxids es ++ zxids others)) (greatest_join told (told_in said) (told_in more))
    ∙ greatest_join (greatest (greatest told (told_in said)) (told_in more)) (zxids es) (zxids others)
    ∙ ap (λ (m : ℤ). greatest m (zxids others)) (greatest_swap (greatest told (told_in said)) (told_in more) (zxids es))
    ∙ ap (λ (m : ℤ). greatest (greatest m (told_in more)) (zxids others)) (sym (told_apart told said es))
    ∙ sym (told_apart (told_after told said es) more others)

-- one more line
pub told_line : (told : ℤ) (said : List Said) (s : Said) (l : Line) (es others : List Entry) → s.line ≡ l → greatest (told_after told said es) (told_by l ++ zxids others) ≡ told_after told (said ++ s ∷ []) (es ++ others)
told_line told said s l es others is =
    ap (λ (m : Line). greatest (told_after told said es) (told_by m ++ zxids others)) (sym is)
    ∙ ap (λ (r : List ℤ). greatest (told_after told said es) (r ++ zxids others)) (sym (append-nil (told_by s.line)))
    ∙ sym (told_join told said (s ∷ []) es others)

-- one more line, of which nothing is published
pub told_line_alone : (told : ℤ) (said : List Said) (s : Said) (l : Line) (es : List Entry) → s.line ≡ l → greatest (told_after told said es) (told_by l) ≡ told_after told (said ++ s ∷ []) es
told_line_alone told said s l es is =
    ap (λ (r : List ℤ). greatest (told_after told said es) r) (sym (append-nil (told_by l)))
    ∙ told_line told said s l es [] is
    ∙ ap (λ (all : List Entry). told_after told (said ++ s ∷ []) all) (append-nil es)

-- a revision of an etcd, as the others are
pub later_fits : (a b : ℤ) → pos 0 ≤ℤ a → a <ℤ pos (2 ^ 62) → b <ℤ pos (2 ^ 62) → (pos 0 ≤ℤ int_max a b) × (int_max a b <ℤ pos (2 ^ 62))
later_fits a b least most most_b = (omega (arith, ints, clamps, least), omega (arith, ints, clamps, most, most_b))

-- what a line says keeps in that range
pub told_by_fits : (l : Line) (told : ℤ) → LineFits l → pos 0 ≤ℤ told → told <ℤ pos (2 ^ 62) → (pos 0 ≤ℤ greatest told (told_by l)) × (greatest told (told_by l) <ℤ pos (2 ^ 62))
told_by_fits (line.Created revision) told h least most = (least, most)
told_by_fits (line.Events revision []) told h least most = let c = counted revision revision refl h.0 in later_fits told revision least most c.1
told_by_fits (line.Events revision (kv ∷ kvs)) told h least most = (least, most)
told_by_fits (line.Compacted rev) told h least most = (least, most)
told_by_fits line.Ended told h least most = (least, most)

-- ---- a list of entries, one after the other

pub publishing_starts : (all : List Entry) (list : Published) (place : Place) → IsRun (last_number list) all → IsPlaced list place → IsPublishing all all list list place.revision place
publishing_starts all list place run placed = record {
  done = [];
  split = refl;
  grown = sym (with_none list);
  is_open = placed.is_open;
  run = run;
  placed = placed.placed;
  told_is = refl;
  revision_least = placed.revision_least;
  revision_most = placed.revision_most;
}

-- one more is published
pub publishing_goes : (all queue rest : List Entry) (e : Entry) (before now next : Published) (told : ℤ) (place place' : Place) → queue ≡ e ∷ rest → next ≡ with_entry now e → place'.number ≡ e.number → place'.revision ≡ int_max place.revision e.zxid
    → IsPublishing all queue before now told place → IsPublishing all rest before next told place'
publishing_goes all queue rest e before now next told place place' popped grown is stands h = record {
  done = h.done ++ e ∷ [];
  split = h.split ∙ ap (λ (q : List Entry). h.done ++ q) popped ∙ sym (append_assoc h.done (e ∷ []) rest);
  grown = grown ∙ ap (λ (list : Published). with_entry list e) h.grown ∙ with_more before h.done (e ∷ []);
  is_open = ap (λ (list : Published). list.end) grown ∙ h.is_open;
  run = subst (λ (n : ℤ). IsRun n rest) (sym last) run.3;
  placed = is ∙ run.0 ∙ sym last;
  told_is = stands ∙ ap (λ (z : ℤ). int_max z e.zxid) h.told_is ∙ sym (greatest_join told (zxids h.done) (e.zxid ∷ [])) ∙ ap (greatest told) (sym (zxids_join h.done (e ∷ [])));
  revision_least = subst (λ (z : ℤ). pos 0 ≤ℤ z) (sym stands) fits.0;
  revision_most = subst (λ (z : ℤ). z <ℤ pos (2 ^ 62)) (sym stands) fits.1;
}
  where
    run : IsRun (last_number now) (e ∷ rest)
    run = subst (IsRun (last_number now)) popped h.run

    fits : (pos 0 ≤ℤ int_max place.revision e.zxid) × (int_max place.revision e.zxid <ℤ pos (2 ^ 62))
    fits = later_fits place.revision e.zxid h.revision_least h.revision_most run.2

    last : last_number next ≡ last_number now +ℤ pos 1
    last = ap last_number grown ∙ last_after now e

-- the next one has the next number
pub next_number : (all queue rest : List Entry) (e : Entry) (before now : Published) (told : ℤ) (place : Place) → queue ≡ e ∷ rest → IsPublishing all queue before now told place → e.number ≡ last_number now +ℤ pos 1
next_number all queue rest e before now told place popped h = (subst (IsRun (last_number now)) popped h.run).0

pub published_all : (all queue : List Entry) (before now : Published) (place place' : Place) (u : Unit {0}) → queue ≡ [] → IsPublishing all queue before now place.revision place' → PublishesAll (Ok u) all before now place place'
published_all all queue before now place place' u none h = subst (λ (q : List Entry). IsPublishing all q before now place.revision place') none h

-- memory was refused
pub published_front : (all queue : List Entry) (before now now' : Published) (place place' : Place) (m : Memory) → now' ≡ now → IsPublishing all queue before now place.revision place' → PublishesAll (Err m) all before now' place place'
published_front all queue before now now' place place' m same h = (h.done, queue, h.split, same ∙ h.grown, h.told_is)

-- ---- what is added

pub publishes_nothing : (list : Published) → Publishes [] [] [] list list
publishes_nothing list = record { taken = []; split = refl; gives = tt; grown = sym (with_none list) }

pub entries_join : (n : ℤ) (kvs kvs' : List Kv) (es es' : List Entry) → AreEntries n kvs es → AreEntries (n +ℤ pos (length es)) kvs' es' → AreEntries n (kvs ++ kvs') (es ++ es')
entries_join n [] kvs' [] es' h h' = subst (λ (m : ℤ). AreEntries m kvs' es') (omega (arith, ints)) h'
entries_join n [] kvs' (e ∷ es) es' h h' = absurd h
entries_join n (kv ∷ kvs) kvs' [] es' h h' = absurd h
entries_join n (kv ∷ kvs) kvs' (e ∷ es) es' h h' = (h.0, entries_join (n +ℤ pos 1) kvs kvs' es es' h.1 (subst (λ (m : ℤ). AreEntries m kvs' es') (omega (arith, ints)) h'))

pub publishes_join : (heads heads' : List Kv) (es es' : List Entry) (left : List Kv) (first second third : Published) → Publishes heads es [] first second → Publishes heads' es' left second third
    → Publishes (heads ++ heads') (es ++ es') left first third
publishes_join heads heads' es es' left first second third h h' = record {
  taken = h.taken ++ h'.taken;
  split = ap (λ (kvs : List Kv). kvs ++ heads') (h.split ∙ append-nil h.taken) ∙ ap (λ (kvs : List Kv). h.taken ++ kvs) h'.split ∙ sym (append_assoc h.taken h'.taken left);
  gives = entries_join (last_number first) h.taken h'.taken es es' h.gives (subst (λ (n : ℤ). AreEntries n h'.taken es') (ap last_number h.grown ∙ last_with first es) h'.gives);
  grown = h'.grown ∙ ap (λ (list : Published). with_entries list es') h.grown ∙ with_more first es es';
}

-- nothing of these heads is added
pub publishes_left : (heads heads' : List Kv) (es : List Entry) (first second third : Published) → third ≡ second → Publishes heads es [] first second → Publishes (heads ++ heads') es heads' first third
publishes_left heads heads' es first second third same h = record {
  taken = h.taken;
  split = ap (λ (kvs : List Kv). kvs ++ heads') (h.split ∙ append-nil h.taken);
  gives = h.gives;
  grown = same ∙ h.grown;
}

-- a front of the entries are the entries of a front of the heads
entries_front : (n : ℤ) (kvs : List Kv) (es left : List Entry) → AreEntries n kvs (es ++ left) → (front : List Kv) × (rest : List Kv) × (kvs ≡ front ++ rest) × AreEntries n front es
entries_front n kvs [] left h = ([], kvs, refl, tt)
entries_front n [] (e ∷ es) left h = absurd h
entries_front n (kv ∷ kvs) (e ∷ es) left h =
    let rest = entries_front (n +ℤ pos 1) kvs es left h.1 in
    (kv ∷ rest.0, rest.1, ap (λ (l : List Kv). kv ∷ l) rest.2, (h.0, rest.3))

pub publishes_front : (kvs : List Kv) (es front rest : List Entry) (before after : Published) → AreEntries (last_number before) kvs es → es ≡ front ++ rest → after ≡ with_entries before front
    → (left : List Kv) × Publishes kvs front left before after
publishes_front kvs es front rest before after gives split grown =
    let cut = entries_front (last_number before) kvs front rest (subst (AreEntries (last_number before) kvs) split gives) in
    (cut.1, record { taken = cut.0; split = cut.2; gives = cut.3; grown = grown })

-- ---- lines

pub heads_join : (said more : List Said) → heads_of (said ++ more) ≡ heads_of said ++ heads_of more
heads_join [] more = refl
heads_join (s ∷ said) more = ap (λ (kvs : List Kv). heads_in s.line ++ kvs) (heads_join said more) ∙ sym (append_assoc (heads_in s.line) (heads_of said) (heads_of more))

pub heads_push : (said : List Said) (s : Said) (l : Line) → s.line ≡ l → heads_of (said ++ s ∷ []) ≡ heads_of said ++ heads_in l
heads_push said s l is = heads_join said (s ∷ []) ∙ ap (λ (kvs : List Kv). heads_of said ++ kvs) (append-nil (heads_in s.line) ∙ ap heads_in is)

-- one more line
pub publishes_line : (said : List Said) (s : Said) (l : Line) (es es' : List Entry) (left : List Kv) (first second third : Published) → s.line ≡ l → Publishes (heads_of said) es [] first second → Publishes (heads_in l) es' left second third
    → Publishes (heads_of (said ++ s ∷ [])) (es ++ es') left first third
publishes_line said s l es es' left first second third is h h' =
    subst (λ (kvs : List Kv). Publishes kvs (es ++ es') left first third) (sym (heads_push said s l is)) (publishes_join (heads_of said) (heads_in l) es es' left first second third h h')

-- one more line that adds nothing
pub publishes_unread : (said : List Said) (s : Said) (es : List Entry) (first second third : Published) → third ≡ second → Publishes (heads_of said) es [] first second
    → Publishes (heads_of (said ++ s ∷ [])) es (heads_in s.line) first third
publishes_unread said s es first second third same h =
    subst (λ (kvs : List Kv). Publishes kvs es (heads_in s.line) first third) (sym (heads_push said s s.line refl)) (publishes_left (heads_of said) (heads_in s.line) es first second third same h)
