-- Lines without a fault bring no number beyond its field.
use Rattle.std.proofs.Common.{◌≡◌, ℕ, zero, suc, ℤ, ◌+◌, ◌<◌, ◌≤◌, Bool, true, false, ◌==◌, List, [], ◌∷◌, ◌++◌, length, Option, Some, None, refl, sym, ap, ◌∙◌, subst, inl, inr, append_assoc, append-nil, eqb-true, leb-true, arith}
use Rattle.std.specs.Prelude.{if◌then◌else◌, is_some, nat_le, option_and_then, slice_get}
use Rattle.std.specs.List.{AllByRecursion, flat_map}
use Rattle.std.specs.Ordering.{int_eq}
use Rattle.std.proofs.lemmas.Bool.{and_parts, cases_Bool}
use Rattle.std.proofs.lemmas.List.{length-append}
use Rattle.std.proofs.lemmas.List.Elements.{All-weaker, recursion_from_All}
use Rattle.zk_model.specs.Limits.{max_frame, max_time}
use Rattle.zk_model.specs.Multi.{data_len}
use Rattle.zk_model.specs.Znodes.{Tree}
use Rattle.zk_model.specs.declared.request.Part.{Part}
use Rattle.zk_model.specs.declared.request.Part.TheVariants as part
use Rattle.zk_model.specs.declared.request.Request.{Request}
use Rattle.zk_model.specs.declared.request.Request.TheVariants as req
use Rattle.zk_jute.specs.Records.{contents_of, part_contents}
use Rattle.zk_jute.specs.Requests.{Frame, NoHeader, Unreadable, Unknown, Asks, read_request}
use Rattle.zk_jute.proofs.Contents.{contents_within}
use Rattle.zk_jute.proofs.Lists.{first_of_both, second_of_both}
use Rattle.zk_service.specs.declared.update.UpdateKind.{UpdateKind}
use Rattle.zk_service.specs.declared.update.UpdateKind.TheVariants as kind
use Rattle.zk_transcript.specs.declared.transcript.TranscriptLine.{TranscriptLine}
use Rattle.zk_transcript.specs.declared.transcript.TranscriptLine.TheVariants as line
use Rattle.zk_service.specs.States.{Session, State, attached_session, limit_of, nothing_yet}
use Rattle.zk_transcript.specs.History.{after, after_from, asked_commit, asked_in, change, frame, request}
use Rattle.zk_transcript.specs.Legal.{is_next_zxid, is_small_frame, is_within_parts, may_update}
use Rattle.zk_transcript.proofs.Appending.{after-push}
use Rattle.zk_service.proofs.SoundEffects.{IsShort, IsSmallPart}
use Rattle.zk_transcript.proofs.SoundHistories.{legal-sound}
use Rattle.zk_machine.specs.Faults.{IsWhole}
use Rattle.zk_machine.proofs.WholeTrees.{empty-whole, parts-within, sound-whole}
use Rattle.zk_history.specs.Fits.{AllFit, AskedFits, Fits, IsTime, RequestFits, UpdateFits}
use Rattle.zk_history.proofs.Counts.{change-updates}
use Rattle.zk_legal.specs.Formed.{frames_of, has_begun, is_formed_line}
use Rattle.zk_legal.specs.Faults.{IsRunTo, has_event, history_fault, history_fault_from, is_history_line, is_timely, or_empty}
use Rattle.zk_legal.proofs.Counting.{frames-few}
use Rattle.zk_legal.proofs.NoFault.{first, history_fault-none, legal-line, no_fault}
use Rattle.zk_legal.proofs.WithoutFault.{formed-line, range-line}

-- ---- lines from a place on

pub faultless-front : (b : List TranscriptLine) (s : State) (ls more : List TranscriptLine) → history_fault_from b s (ls ++ more) ≡ None → history_fault_from b s ls ≡ None
faultless-front b s [] more none = refl
faultless-front b s (x ∷ ls) more none =
    let parts = first b s x (ls ++ more) none in
    ap (λ (holds : Bool). if holds then history_fault_from (b ++ x ∷ []) (change b s x) ls else Some (length b + 1)) parts.0 ∙ faultless-front (b ++ x ∷ []) (change b s x) ls more parts.1

faultless-line : (b : List TranscriptLine) (s : State) (ls : List TranscriptLine) (l : TranscriptLine) (more : List TranscriptLine) → history_fault_from b s (ls ++ l ∷ more) ≡ None
    → is_history_line (b ++ ls) (after_from b s ls) l ≡ true
faultless-line b s [] l more none = subst (λ (c : List TranscriptLine). is_history_line c s l ≡ true) (sym (append-nil b)) (first b s l more none).0
faultless-line b s (x ∷ ls) l more none =
    subst (λ (c : List TranscriptLine). is_history_line c (after_from (b ++ x ∷ []) (change b s x) ls) l ≡ true) (append_assoc b (x ∷ []) ls)
    (faultless-line (b ++ x ∷ []) (change b s x) ls l more (first b s x (ls ++ l ∷ more) none).1)

faultless-more : (b : List TranscriptLine) (s : State) (ls : List TranscriptLine) (l : TranscriptLine) → history_fault_from b s ls ≡ None → is_history_line (b ++ ls) (after_from b s ls) l ≡ true
    → history_fault_from b s (ls ++ l ∷ []) ≡ None
faultless-more b s [] l none holds =
    ap (λ (holds : Bool). if holds then history_fault_from (b ++ l ∷ []) (change b s l) [] else Some (length b + 1)) (subst (λ (c : List TranscriptLine). is_history_line c s l ≡ true) (append-nil b) holds)
faultless-more b s (x ∷ ls) l none holds =
    let parts = first b s x ls none in
    ap (λ (holds : Bool). if holds then history_fault_from (b ++ x ∷ []) (change b s x) (ls ++ l ∷ []) else Some (length b + 1)) parts.0
    ∙ faultless-more (b ++ x ∷ []) (change b s x) ls l parts.1
    (subst (λ (c : List TranscriptLine). is_history_line c (after_from (b ++ x ∷ []) (change b s x) ls) l ≡ true) (sym (append_assoc b (x ∷ []) ls)) holds)

-- ---- from the first line on

start-run : IsRunTo [] nothing_yet
unfolding after
start-run = record { faultless = refl; reached = refl }

pub no-lines-run : (s : State) → s ≡ nothing_yet → IsRunTo [] s
no-lines-run s new = subst (λ (s : State). IsRunTo [] s) (sym new) start-run

-- one more line that a run can have written
pub run-more : (before : List TranscriptLine) (s t : State) (l : TranscriptLine) → IsRunTo before s → is_history_line before s l ≡ true → t ≡ change before s l → IsRunTo (before ++ l ∷ []) t
unfolding after
run-more before s t l run holds changes = record {
  faultless = faultless-more [] nothing_yet before l run.faultless (subst (λ (x : State). is_history_line before x l ≡ true) run.reached holds);
  reached = changes ∙ ap (λ (x : State). change before x l) run.reached ∙ sym (after-push before l);
}

-- the lines before a line of a transcript without a fault, and that line
module _ (lines before : List TranscriptLine) (l : TranscriptLine) (rest : List TranscriptLine) (none : history_fault lines ≡ None) (split : lines ≡ before ++ l ∷ rest) where
  from_start : history_fault_from [] nothing_yet (before ++ l ∷ rest) ≡ None
  from_start = subst (λ (ls : List TranscriptLine). history_fault_from [] nothing_yet ls ≡ None) split (no_fault lines none).1

  pub run-before : IsRunTo before (after before)
  run-before = record { faultless = faultless-front [] nothing_yet before (l ∷ rest) from_start; reached = refl }

  pub line-holds : is_history_line before (after before) l ≡ true
  unfolding after
  line-holds = faultless-line [] nothing_yet before l rest from_start

pub run-front : (lines before more : List TranscriptLine) → history_fault lines ≡ None → lines ≡ before ++ more → IsRunTo before (after before)
run-front lines before more none split = record {
  faultless = faultless-front [] nothing_yet before more (subst (λ (ls : List TranscriptLine). history_fault_from [] nothing_yet ls ≡ None) split (no_fault lines none).1);
  reached = refl;
}

-- ---- the tree

-- without an update or a lapse the state stays as it was
pub uneventful : (b : List TranscriptLine) (s : State) (ls : List TranscriptLine) → has_event ls ≡ false → after_from b s ls ≡ s
uneventful b s [] none = refl
uneventful b s (line.Update u ∷ ls) none = absurd (cc)
uneventful b s (line.Lapse revision id ∷ ls) none = absurd (cc)
uneventful b s (line.Open c p id pw layout ∷ ls) none = uneventful (b ++ line.Open c p id pw layout ∷ []) s ls none
uneventful b s (line.Frame c i z bytes ∷ ls) none = uneventful (b ++ line.Frame c i z bytes ∷ []) s ls none
uneventful b s (line.Send c bytes ∷ ls) none = uneventful (b ++ line.Send c bytes ∷ []) s ls none
uneventful b s (line.Close c end ∷ ls) none = uneventful (b ++ line.Close c end ∷ []) s ls none

whole-after : (before : List TranscriptLine) → history_fault_from [] nothing_yet before ≡ None → IsWhole (after before).tree
unfolding history_fault after
whole-after before none = elim (cases_Bool (has_event before)) [
  | inl event ↦
      let run : history_fault before ≡ None = ap (or_empty before) none ∙ ap (λ (holds : Bool). if holds then None else Some (length before + 1)) event in
      sound-whole (after before).sessions (after before).tree (legal-sound before (history_fault-none before run))
  | inr still ↦ subst (λ (s : State). IsWhole s.tree) (sym (uneventful [] nothing_yet before still)) empty-whole
]

pub run-whole : (before : List TranscriptLine) (s : State) → IsRunTo before s → IsWhole s.tree
run-whole before s run = subst (λ (s : State). IsWhole s.tree) (sym run.reached) (whole-after before run.faultless)

-- ---- how many updates

updates-few : (b : List TranscriptLine) (s : State) (ls : List TranscriptLine) → (after_from b s ls).updates ≤ s.updates + length ls
updates-few b s [] = omega arith
updates-few b s (l ∷ ls) = omega (arith, change-updates b s l, updates-few (b ++ l ∷ []) (change b s l) ls)

after-is : (before : List TranscriptLine) → after before ≡ after_from [] nothing_yet before
unfolding after
after-is before = refl

pub run-few : (before : List TranscriptLine) (s : State) → IsRunTo before s → s.updates ≤ length before
run-few before s run = omega (arith, updates-few [] nothing_yet before, ap (λ (x : State). x.updates) (run.reached ∙ after-is before))

-- ---- requests

pub asked-short : (bytes : List ℕ) (xid : ℤ) (r : Request) → length bytes ≤ max_frame → read_request bytes ≡ Asks xid r → AllByRecursion IsShort (contents_of r)
asked-short bytes xid r le is =
    recursion_from_All IsShort (contents_of r) (All-weaker (λ content. length content ≤ length bytes) IsShort (λ content short. omega (arith, short, le)) (contents_of r) (contents_within bytes xid r is))

part-short : (p : Part) → IsSmallPart p → data_len p ≤ max_frame
part-short (part.Create path content acl flags) small = small.0
part-short (part.Delete path version) small = omega arith
part-short (part.SetData path content version) small = small.0
part-short (part.Check path version) small = omega arith

pub parts-short : (ps : List Part) → AllByRecursion IsShort (flat_map part_contents ps) → AllByRecursion (λ p. data_len p ≤ max_frame) ps
parts-short [] small = tt
parts-short (p ∷ ps) small = (part-short p (first_of_both IsShort (part_contents p) (flat_map part_contents ps) small), parts-short ps (second_of_both IsShort (part_contents p) (flat_map part_contents ps) small))

request-fits : (t : Tree) (limit : ℕ) (session : ℤ) (r : Request) (zxid : ℤ) (now : ℕ) → IsWhole t → AllByRecursion IsShort (contents_of r) → RequestFits t limit session r zxid now
request-fits t limit session (req.Create path content acl flags) zxid now whole small = (whole.within, small.0)
request-fits t limit session (req.Create2 path content acl flags) zxid now whole small = (whole.within, small.0)
request-fits t limit session (req.Delete path version) zxid now whole small = (whole.within, omega arith)
request-fits t limit session (req.SetData path content version) zxid now whole small = (whole.within, small.0)
request-fits t limit session (req.Multi parts) zxid now whole small = parts-within limit session zxid now t parts whole (parts-short parts small)
request-fits t limit session r zxid now whole small = tt

pub asked-fits : (before : List TranscriptLine) (s : State) (c i : ℕ) (zxid : ℤ) (now : ℕ) → IsWhole s.tree → is_small_frame (frame c i before) ≡ true → AskedFits s.tree (attached_session c s) (request c i before) zxid now
asked-fits before s c i zxid now whole small = by_session (attached_session c s) (request c i before) refl
  where
    by_reading : (bytes : List ℕ) (f : Frame) (r : Request) → read_request bytes ≡ f → length bytes ≤ max_frame → asked_in f ≡ Some r → AllByRecursion IsShort (contents_of r)
    by_reading bytes NoHeader r e le is = absurd (cc)
    by_reading bytes (Unreadable xid place) r e le is = absurd (cc)
    by_reading bytes (Unknown xid number) r e le is = absurd (cc)
    by_reading bytes (Asks xid q) r e le is = let same : q ≡ r = cc in subst (λ (q : Request). AllByRecursion IsShort (contents_of q)) same (asked-short bytes xid q le e)

    by_frame : (o : Option (List ℕ)) (r : Request) → is_small_frame o ≡ true → option_and_then (λ bytes. asked_in (read_request bytes)) o ≡ Some r → AllByRecursion IsShort (contents_of r)
    by_frame None r fits is = absurd (cc)
    by_frame (Some bytes) r fits is = by_reading bytes (read_request bytes) r refl (leb-true (length bytes) max_frame fits) is

    by_session : (o : Option (ℤ × Session)) (q : Option Request) → request c i before ≡ q → AskedFits s.tree o q zxid now
    by_session None q is = tt
    by_session (Some e) None is = tt
    by_session (Some e) (Some r) is = request-fits s.tree (limit_of e.1) e.0 r zxid now whole (by_frame (frame c i before) r small is)

-- ---- lines

pub time-fits : (now : ℕ) → now ≤ max_time → IsTime now
time-fits now le = omega (arith, le)

kind-fits : (before : List TranscriptLine) (s : State) (zxid : ℤ) (k : UpdateKind) → IsWhole s.tree → is_timely k ≡ true → may_update before s zxid k ≡ true → UpdateFits before s zxid k
unfolding may_update
kind-fits before s zxid (kind.Begin now) whole timely may = time-fits now (leb-true now max_time timely)
kind-fits before s zxid (kind.Asked c i now) whole timely may =
    let a = and_parts _ (is_some (asked_commit before s zxid c i now)) may in
    let b = and_parts _ (is_within_parts (request c i before)) a.0 in
    let small = (and_parts _ (is_small_frame (frame c i before)) b.0).1 in
    (time-fits now (leb-true now max_time timely), asked-fits before s c i zxid now whole small)
kind-fits before s zxid (kind.Session id c) whole timely may = tt
kind-fits before s zxid (kind.Attach id c) whole timely may = tt
kind-fits before s zxid (kind.Closed id c i) whole timely may = tt
kind-fits before s zxid (kind.Reaped id) whole timely may = tt

pub line-fits : (before : List TranscriptLine) (s : State) (l : TranscriptLine) → IsRunTo before s → is_history_line before s l ≡ true → Fits before s l
line-fits before s (line.Update u) run holds =
    let timely = (and_parts _ (is_timely u.kind) (range-line before s (line.Update u) holds)).1 in
    let may = (and_parts (may_update before s u.zxid u.kind) (is_next_zxid s u.zxid) (legal-line before s (line.Update u) holds)).0 in
    kind-fits before s u.zxid u.kind (run-whole before s run) timely may
line-fits before s (line.Open c p id pw layout) run holds = tt
line-fits before s (line.Frame c i z bytes) run holds = tt
line-fits before s (line.Send c bytes) run holds = tt
line-fits before s (line.Lapse revision id) run holds = tt
line-fits before s (line.Close c end) run holds = tt

pub all-fit : (lines : List TranscriptLine) → history_fault lines ≡ None → AllFit lines
all-fit lines none before l rest split = line-fits before (after before) l (run-before lines before l rest none split) (line-holds lines before l rest none split)

-- ---- frames

-- a frame no longer than it may be, whose index is below `most`
pub record IsFitFrame (i : ℕ) (bytes : List ℕ) (most : ℕ) : Type 0 where
  pub small : length bytes ≤ max_frame
  pub index : i < most

fit-frame : (before : List TranscriptLine) (s : State) (c i : ℕ) (z : ℤ) (bytes : List ℕ) (most : ℕ) → length before < most → is_formed_line before s (line.Frame c i z bytes) ≡ true → IsFitFrame i bytes most
unfolding is_formed_line
fit-frame before s c i z bytes most less h =
    let a = and_parts _ (int_eq z s.zxid) h in
    let b = and_parts _ (has_begun s) a.0 in
    let d = and_parts _ (nat_le (length bytes) max_frame) b.0 in
    let e = and_parts _ (i == frames_of c before) d.0 in
    let at : i ≡ frames_of c before = eqb-true i (frames_of c before) e.1 in
    record { small = leb-true (length bytes) max_frame d.1; index = omega (arith, at, frames-few c before, less) }

frames-from : (before : List TranscriptLine) (s : State) (ls : List TranscriptLine) (most : ℕ) → length before + length ls ≤ most → history_fault_from before s ls ≡ None
    → (k c i : ℕ) (z : ℤ) (bytes : List ℕ) → slice_get ls k ≡ Some (line.Frame c i z bytes) → IsFitFrame i bytes most
frames-from before s [] most within none k c i z bytes at = absurd (cc)
frames-from before s (l ∷ ls) most within none zero c i z bytes at =
    let same : l ≡ line.Frame c i z bytes = cc in
    fit-frame before s c i z bytes most (omega (arith, within)) (subst (λ (x : TranscriptLine). is_formed_line before s x ≡ true) same (formed-line before s l (first before s l ls none).0))
frames-from before s (l ∷ ls) most within none (suc k) c i z bytes at =
    frames-from (before ++ l ∷ []) (change before s l) ls most (omega (arith, within, length-append before (l ∷ []))) (first before s l ls none).1 k c i z bytes at

pub frames-fit : (lines : List TranscriptLine) → history_fault lines ≡ None → (k c i : ℕ) (z : ℤ) (bytes : List ℕ) → slice_get lines k ≡ Some (line.Frame c i z bytes) → IsFitFrame i bytes (length lines)
frames-fit lines none = frames-from [] nothing_yet lines (length lines) (omega arith) (no_fault lines none).1
