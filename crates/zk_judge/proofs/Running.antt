-- What a transcript shows whose history has no fault: frames no longer than they may be, and trees whose numbers fit.
use Rattle.std.proofs.Common.{◌≡◌, ℕ, ℤ, pos, ◌<◌, ◌≤◌, Bool, true, false, ◌&&◌, ◌==◌, List, [], ◌∷◌, ◌++◌, length, drop, take-append-drop, Option, Some, None, refl, sym, ap, ◌∙◌, subst, eqb-true, arith}
use Rattle.std.specs.Prelude.{IfSome, option_map, slice_get}
use Rattle.std.specs.List.{AllByRecursion}
use Rattle.std.proofs.lemmas.Bool.{and_parts}
use Rattle.zx_base.proofs.Options.{some_is}
use Rattle.zk_model.specs.Limits.{max_frame}
use Rattle.zk_model.specs.Znodes.{Tree}
use Rattle.zk_model.specs.declared.request.Request.{Request}
use Rattle.zk_model.specs.declared.request.Request.TheVariants as req
use Rattle.zk_jute.specs.Records.{contents_of}
use Rattle.zk_jute.specs.Requests.{Frame, NoHeader, Unreadable, Unknown, Asks}
use Rattle.zk_service.specs.declared.fresh.Fresh.{Fresh}
use Rattle.zk_model.specs.declared.layout.Layout.{Layout}
use Rattle.zk_transcript.specs.declared.transcript.TranscriptLine.{TranscriptLine}
use Rattle.zk_transcript.specs.declared.transcript.TranscriptLine.TheVariants.{Update, Open, Frame as FrameLine, Send, Lapse, Close}
use Rattle.zk_service.specs.States.{State}
use Rattle.zk_transcript.specs.History.{after, asked_in, frame_shown, open_shown, opening, when}
use Rattle.zk_transcript.specs.Walks.{placed_frame}
use Rattle.zk_transcript.proofs.Histories.{first_shown-push}
use Rattle.zk_transcript.proofs.Lookups.{first_shown-new}
use Rattle.zk_service.proofs.SoundEffects.{IsShort}
use Rattle.zk_least.proofs.FirstPlaces.{first_place-at}
use Rattle.zk_machine.specs.Faults.{BeyondUnless, IsWhole}
use Rattle.zk_machine.specs.declared.fault.Fault.{Fault}
use Rattle.zk_machine.specs.declared.fault.Fault.TheVariants.{Beyond}
use Rattle.zk_machine.proofs.WholeTrees.{parts-within}
use Rattle.zk_answers.specs.Fits.{FitsRequest}
use Rattle.zk_history.specs.Shown.{placed_bytes}
use Rattle.zk_legal.specs.Faults.{history_fault}
use Rattle.zk_legal.specs.Passwords.{OfferPasswords}
use Rattle.zk_legal.proofs.Fitting.{IsFitFrame, asked-short, frames-fit, parts-short, run-front, run-whole}
use Rattle.zk_judge.specs.Fronts.{IsFront}
use Rattle.zk_judge.specs.Seen.{IsShortFrame}
use denote.Ref.{Bor}

-- a number is beyond its field only where something does not fit
pub never-beyond : (P : Type 0) (f : Fault) → f ≡ Beyond → BeyondUnless P f → P → ⊥
never-beyond P f is beyond = subst (λ (g : Fault). BeyondUnless P g) is beyond

-- ---- frames

shown-fits : (lines : List TranscriptLine) (c i k : ℕ) (l : TranscriptLine) (bytes : List ℕ) → history_fault lines ≡ None → slice_get lines k ≡ Some l → frame_shown c i l ≡ Some bytes → IsFitFrame i bytes (length lines)
shown-fits lines c i k (FrameLine d j z content) bytes none at shown = by_test ((c == d) && (i == j)) refl shown
  where
    by_test : (b : Bool) → ((c == d) && (i == j)) ≡ b → when b content ≡ Some bytes → IsFitFrame i bytes (length lines)
    by_test false e is = absurd (cc)
    by_test true e is =
        let same : content ≡ bytes = cc in
        let index : i ≡ j = eqb-true i j (and_parts (c == d) (i == j) e).1 in
        let fits = frames-fit lines none k d j z content at in
        subst (λ (b : List ℕ). IsFitFrame i b (length lines)) same (record { small = fits.small; index = omega (arith, index, fits.index) })
shown-fits lines c i k (Update u) bytes none at shown = absurd (cc)
shown-fits lines c i k (Open d p id pw layout) bytes none at shown = absurd (cc)
shown-fits lines c i k (Send d content) bytes none at shown = absurd (cc)
shown-fits lines c i k (Lapse r id) bytes none at shown = absurd (cc)
shown-fits lines c i k (Close d e) bytes none at shown = absurd (cc)

placed-fits : (lines : List TranscriptLine) (c i : ℕ) (x : ℕ × List ℕ) → history_fault lines ≡ None → placed_frame c i lines ≡ Some x → IsFitFrame i x.1 (length lines)
placed-fits lines c i x none is = let found = first_place-at (frame_shown c i) 0 lines x is in shown-fits lines c i found.place found.line x.1 none found.there found.shown

pub placed-short : (lines : List TranscriptLine) (c i : ℕ) (o : Option (ℕ × Bor (List ℕ))) → history_fault lines ≡ None → option_map placed_bytes o ≡ placed_frame c i lines → IfSome o (λ x. length x.1.now ≤ max_frame)
placed-short lines c i None none is = tt {0}
placed-short lines c i (Some x) none is = (placed-fits lines c i (placed_bytes x) none (sym is)).small

pub placed-below : (lines : List TranscriptLine) (c i : ℕ) (o : Option (ℕ × Bor (List ℕ))) → history_fault lines ≡ None → option_map placed_bytes o ≡ placed_frame c i lines → IfSome o (λ x. i < length lines)
placed-below lines c i None none is = tt {0}
placed-below lines c i (Some x) none is = (placed-fits lines c i (placed_bytes x) none (sym is)).index

-- ---- trees

split : (past lines : List TranscriptLine) → IsFront past lines → lines ≡ past ++ drop (length past) lines
split past lines front = sym (ap (λ (ls : List TranscriptLine). ls ++ drop (length past) lines) front ∙ take-append-drop (length past) lines)

pub front-whole : (past lines : List TranscriptLine) (s : State) → history_fault lines ≡ None → IsFront past lines → s ≡ after past → IsWhole s.tree
front-whole past lines s none front reached =
    subst (λ (x : State). IsWhole x.tree) (sym reached) (run-whole past (after past) (run-front lines past (drop (length past) lines) none (split past lines front)))

request-looks : (t : Tree) (limit : ℕ) (session : ℤ) (r : Request) → IsWhole t → AllByRecursion IsShort (contents_of r) → FitsRequest t limit session r (pos 0) 0
request-looks t limit session (req.SetData path content version) whole small = (whole.within, small.0)
request-looks t limit session (req.Multi parts) whole small = (whole.within, parts-within limit session (pos 0) 0 t parts whole (parts-short parts small))
request-looks t limit session r whole small = whole.within

-- a request that is read from a frame no longer than it may be
pub asked-looks : (t : Tree) (limit : ℕ) (session : ℤ) (x : Frame) (r : Request) → IsWhole t → IsShortFrame x → Some r ≡ asked_in x → FitsRequest t limit session r (pos 0) 0
asked-looks t limit session (Asks xid q) r whole frame is =
    subst (λ (p : Request). FitsRequest t limit session p (pos 0) 0) (sym (some_is is)) (request-looks t limit session q whole (asked-short frame.bytes xid q frame.short frame.reads))
asked-looks t limit session NoHeader r whole frame is = absurd (cc)
asked-looks t limit session (Unreadable xid place) r whole frame is = absurd (cc)
asked-looks t limit session (Unknown xid kind) r whole frame is = absurd (cc)

-- ---- passwords

pub offered-one : (l : TranscriptLine) (c proxy : ℕ) (id : ℤ) (passwd : List ℕ) (layout : Layout) → l ≡ Open c proxy id passwd layout → length passwd ≡ 16 → (d : ℕ) (o : Fresh) → open_shown d l ≡ Some o → length o.passwd ≡ 16
offered-one l c proxy id passwd layout is long d o shown = by_test (d == c) (sym (ap (open_shown d) is) ∙ shown)
  where
    by_test : (b : Bool) → when b (record { id = id; passwd = passwd; layout = layout }) ≡ Some o → length o.passwd ≡ 16
    by_test false e = absurd (cc)
    by_test true e = ap (λ (y : Fresh). length y.passwd) (sym (some_is e)) ∙ long

-- one more line, which offers a password of 16 bytes or none
pub offered-more : (before : List TranscriptLine) (l : TranscriptLine) → ((c : ℕ) (o : Fresh) → open_shown c l ≡ Some o → length o.passwd ≡ 16) → OfferPasswords before → OfferPasswords (before ++ l ∷ [])
offered-more before l one offered c o is = by_opening (opening c before) refl
  where
    by_opening : (p : Option Fresh) → opening c before ≡ p → length o.passwd ≡ 16
    by_opening (Some x) e =
        let same : x ≡ o = some_is (sym (first_shown-push (open_shown c) before (l ∷ []) x e) ∙ is) in
        ap (λ (y : Fresh). length y.passwd) (sym same) ∙ offered c x e
    by_opening None e = one c o (sym (first_shown-new (open_shown c) before l e) ∙ is)
