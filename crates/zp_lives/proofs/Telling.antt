-- What the lines show that a step leaves.
use Rattle.ev_types.specs.Store.{Store}
use Rattle.std.proofs.Common.{Bool, List, [], ap, append-nil, append_assoc, false, refl, sym, true, ℕ, ℤ, ◌++◌, ◌∙◌, ◌∷◌, ◌≡◌}
use Rattle.std.proofs.lemmas.Bool.{and_parts}
use Rattle.std.proofs.lemmas.List.Elements.{filter_map-append}
use Rattle.std.specs.Ordering.{int_eq}
use Rattle.std.specs.Prelude.{None, Option, Some, filter_map, fold, if◌then◌else◌, not, ◌==◌}
use Rattle.zk_transcript.specs.History.{when}
use Rattle.zk_service.specs.declared.cause.Ended.TheVariants as ended
use Rattle.zk_transcript.specs.declared.transcript.TranscriptLine.TheVariants.{Close, Frame as FrameLine, Lapse, Open, Send, Update}
use Rattle.zk_transcript.specs.declared.transcript.TranscriptLine.{TranscriptLine}
use Rattle.zk_service.specs.declared.update.UpdateKind.{UpdateKind}
use Rattle.zp_script.specs.StepOutcomes.{StepOutcome, acts, acts_all, quiet}
use Rattle.zp_script.specs.Worlds.{zxid_at}
use Rattle.zp_script.specs.declared.flight.Flight.{Flight}
use Rattle.zp_lives.specs.Showing.{Came, Ends, Sent, Shown, shown_act, shown_by, shown_of}
use Rattle.zp_step.specs.declared.action.Action.TheVariants as action
use Rattle.zp_step.specs.declared.action.Action.{Action}
use Rattle.zp_world_laws.specs.Naming.{is_unnamed, names_conn}
use Rattle.zp_world_laws.specs.Serving.{kind_lines, update_lines}
use Rattle.zx_base.proofs.Booleans.{same-test as same-nat}

pub shown-append : (c : ℕ) (xs ys : List TranscriptLine) → shown_of c (xs ++ ys) ≡ shown_of c xs ++ shown_of c ys
shown-append c xs ys = filter_map-append (shown_by c) xs ys

-- ---- a frame

pub frame-shows : (c i : ℕ) (z : ℤ) (bytes : List ℕ) → shown_of c (FrameLine c i z bytes ∷ []) ≡ Came i bytes ∷ []
frame-shows c i z bytes = ap (λ b. filter_map (λ (o : Option Shown). o) (when b (Came i bytes) ∷ [])) (same-nat c)

-- ---- the actions

act-shows : (c : ℕ) (kind : Option UpdateKind) (o : StepOutcome) (a : Action) → shown_of c (acts c kind [] o a).lines ≡ shown_of c o.lines ++ filter_map shown_act (a ∷ [])
act-shows c kind o (action.Send bytes) = shown-append c o.lines (Send c bytes ∷ []) ∙ ap (λ b. shown_of c o.lines ++ filter_map (λ (p : Option Shown). p) (when b (Sent bytes) ∷ [])) (same-nat c)
act-shows c kind o (action.Ask a) = sym (append-nil (shown_of c o.lines))
act-shows c kind o (action.Close why) = ap (λ l. shown_of c (l ++ Close c (ended.Cause why) ∷ [])) (append-nil o.lines) ∙ shown-append c o.lines (Close c (ended.Cause why) ∷ []) ∙ ap (λ b. shown_of c o.lines ++ filter_map (λ (p : Option Shown). p) (when b (Ends (ended.Cause why)) ∷ [])) (same-nat c)

acts-show : (c : ℕ) (kind : Option UpdateKind) (out : List Action) (o : StepOutcome) → shown_of c (fold (acts c kind []) o out).lines ≡ shown_of c o.lines ++ filter_map shown_act out
acts-show c kind [] o = sym (append-nil (shown_of c o.lines))
acts-show c kind (a ∷ out) o =
    acts-show c kind out (acts c kind [] o a) ∙ ap (λ l. l ++ filter_map shown_act out) (act-shows c kind o a) ∙ append_assoc (shown_of c o.lines) (filter_map shown_act (a ∷ [])) (filter_map shown_act out)
    ∙ ap (λ l. shown_of c o.lines ++ l) (sym (filter_map-append shown_act (a ∷ []) out))

pub step-shows : (c : ℕ) (kind : Option UpdateKind) (flight : Option Flight) (out : List Action) → shown_of c (acts_all c kind [] flight out).lines ≡ filter_map shown_act out
step-shows c kind flight out = acts-show c kind out (quiet flight)

-- ---- lines that show nothing of it

pub updates-show : (c : ℕ) (old new : Store) (kind : Option UpdateKind) → shown_of c (update_lines old new kind) ≡ []
updates-show c old new kind = go (int_eq (zxid_at old) (zxid_at new)) kind
  where
    go : (b : Bool) (o : Option UpdateKind) → shown_of c (if b then [] else kind_lines new o) ≡ []
    go true o = refl
    go false None = refl
    go false (Some k) = refl

unnamed-line : (c : ℕ) (l : TranscriptLine) → not (names_conn c l) ≡ true → shown_by c l ≡ None
unnamed-line c (Update u) h = refl
unnamed-line c (Open d p id passwd layout) h = refl
unnamed-line c (Lapse r id) h = refl
unnamed-line c (FrameLine d i z bytes) h = go (c == d) h
  where
    go : (b : Bool) → not b ≡ true → when b (Came i bytes) ≡ None
    go false e = refl
    go true e = absurd (cc)
unnamed-line c (Send d bytes) h = go (c == d) h
  where
    go : (b : Bool) → not b ≡ true → when b (Sent bytes) ≡ None
    go false e = refl
    go true e = absurd (cc)
unnamed-line c (Close d end) h = go (c == d) h
  where
    go : (b : Bool) → not b ≡ true → when b (Ends end) ≡ None
    go false e = refl
    go true e = absurd (cc)

pub unnamed-shows : (c : ℕ) (ls : List TranscriptLine) → is_unnamed c ls ≡ true → shown_of c ls ≡ []
unnamed-shows c [] h = refl
unnamed-shows c (l ∷ ls) h =
    let q = and_parts (not (names_conn c l)) (is_unnamed c ls) h in
    shown-append c (l ∷ []) ls ∙ ap (λ o. filter_map (λ (p : Option Shown). p) (o ∷ []) ++ shown_of c ls) (unnamed-line c l q.0) ∙ unnamed-shows c ls q.1
