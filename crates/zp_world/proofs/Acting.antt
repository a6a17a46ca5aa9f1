-- The actions of a step, done one by one: what is done, and what is still to be done.
use Rattle.std.proofs.Common.{◌≡◌, ℕ, ◌+◌, ℤ, List, [], ◌∷◌, ◌++◌, refl, sym, ap, ◌∙◌, subst, append_assoc, Bool, true, false, ◌⊎◌, inl, inr}
use Rattle.std.specs.FinMap.{insert}
use Rattle.std.specs.Prelude.{Option, Some, None, IfSome, fold, if◌then◌else◌}
use Rattle.std.proofs.lemmas.List.{append-nil}
use Rattle.zk_transcript.specs.declared.transcript.TranscriptLine.{TranscriptLine}
use Rattle.zk_transcript.specs.declared.transcript.TranscriptLine.TheVariants.{Close, Frame as FrameLine, Send}
use Rattle.zk_service.specs.declared.cause.Ended.TheVariants as ended
use Rattle.zk_service.specs.declared.update.UpdateKind.{UpdateKind}
use Rattle.zx_base.proofs.Options.{none_some}
use Rattle.zt_text.specs.Transcripts.{IsWellFormedKind}
use Rattle.zp_core.specs.Held.{IsHeld}
use Rattle.zp_script.specs.declared.flight.Flight.{Flight}
use Rattle.zp_script.specs.declared.flight.Flight.TheVariants.{Out}
use Rattle.zp_script.specs.Arriving.{frame_lines}
use Rattle.zp_script.specs.StepOutcomes.{StepOutcome, acts, acts_all, leaves, left_by, quiet}
use Rattle.zp_script.specs.Worlds.{Actor, Conns, Connection, Closed, World}
use Rattle.zp_step.specs.Ending.{is_end}
use Rattle.zp_step.specs.Stages.{Core, counted_up, is_shut}
use Rattle.zp_step.specs.declared.action.Action.{Action}
use Rattle.zp_step.specs.declared.action.Action.TheVariants as action
use Rattle.zp_world.specs.Adding.{added, frames_left}
use Rattle.zp_world.specs.Doing.{left, seated}
use Rattle.zp_world.specs.Flying.{IsActive, IsFitFlight, IsFlyingOf}
use Rattle.zp_world.specs.Leaving.{Leaves}
use Rattle.zp_world.specs.declared.activity.Seat.{Seat}
use Rattle.zp_world.proofs.Grantable.{grantable}
use Rattle.zx_base.proofs.Booleans.{true-not_false}

-- ---- one more action

added-quiet : (w : World) (flight : Option Flight) → w ≡ added w (quiet flight)
added-quiet w flight = λ i. record w { lines = sym (append-nil w.lines) i; strays = sym (append-nil w.strays) i }

-- an outcome and one more action's are one outcome
added-twice : (c : ℕ) (kind : Option UpdateKind) (lines : List TranscriptLine) (w : World) (o : StepOutcome) (a : Action)
    → added (added w o) (acts c kind lines (quiet o.flight) a) ≡ added w (acts c kind lines o a)
added-twice c kind lines w o (action.Send bytes) = λ i. record w { lines = append_assoc w.lines o.lines (Send c bytes ∷ []) i; strays = append-nil (w.strays ++ o.strays) i }
added-twice c kind lines w o (action.Ask a) = λ i. record w { lines = append-nil (w.lines ++ o.lines) i; strays = append-nil (w.strays ++ o.strays) i }
added-twice c kind lines w o (action.Close why) =
    let end : List TranscriptLine = Close c (ended.Cause why) ∷ [] in
    λ i. record w {
      lines = (append_assoc w.lines o.lines (lines ++ end) ∙ ap (λ ls. w.lines ++ ls) (sym (append_assoc o.lines lines end))) i;
      strays = append_assoc w.strays o.strays (left_by o.flight) i;
    }

out-as : (c : ℕ) (kind : Option UpdateKind) (lines : List TranscriptLine) (o : StepOutcome) (a : Action) → (acts c kind lines (quiet o.flight) a).flight ≡ (acts c kind lines o a).flight
out-as c kind lines o (action.Send bytes) = refl
out-as c kind lines o (action.Ask a) = refl
out-as c kind lines o (action.Close why) = refl

-- ---- what is still to be done

-- nothing closed so far, or nothing is to come
abbrev pub Goes : Core → List (List ℕ) → Option Flight → List Action → List (List ℕ) → Type 0
Goes core frames flight rest left =
    (Leaves flight core rest × IsFitFlight flight × (left ≡ frames)) ⊎ ((is_shut core.stage ≡ true) × (rest ≡ []) × (flight ≡ None) × (left ≡ []))

-- the actions so far had this outcome
pub record IsActing (c : ℕ) (kind : Option UpdateKind) (first : ℕ) (zxid : ℤ) (frames : List (List ℕ)) (core : Core) (w : World) (flight : Option Flight) (out : List Action) (w' : World) (now : Option Flight) (rest : List Action) (left : List (List ℕ)) : Type 0 where
  pub done : StepOutcome
  pub world : w' ≡ added w done
  pub flight_is : now ≡ done.flight
  pub later : fold (acts c kind (frame_lines c first zxid frames)) done rest ≡ acts_all c kind (frame_lines c first zxid frames) flight out
  pub goes : Goes core frames now rest left

nothing_more : (more : List Action) → is_end more ≡ true → more ≡ []
nothing_more [] h = refl
nothing_more (a ∷ more) h = cc

cons_nil : {A : Type 0} {x : A} {xs : List A} → x ∷ xs ≡ [] → ⊥
cons_nil e = cc

-- the next action of a step that has closed nothing yet
goes-on : (c : ℕ) (kind : Option UpdateKind) (lines : List TranscriptLine) (frames : List (List ℕ)) (core : Core) (now : Option Flight) (a : Action) (more : List Action) (left : List (List ℕ))
    → IsHeld core → IfSome kind IsWellFormedKind → Leaves now core (a ∷ more) → IsFitFlight now → left ≡ frames
    → Goes core frames (acts c kind lines (quiet now) a).flight more (frames_left a left)
goes-on c kind lines frames core now (action.Send bytes) more left held formed l fit same =
    inl (record { well = l.well; closes = l.closes; asks = l.asks; stays = l.stays }, fit, same)
goes-on c kind lines frames core now (action.Ask a) more left held formed l fit same =
    let live : is_shut core.stage ≡ false = sym l.closes in
    let none : more ≡ [] = nothing_more more l.well in
    inl (
      subst (Leaves (Some (Out (record { ask = a; kind = kind }))) core) (sym none) (record {
        well = refl;
        closes = l.closes;
        asks = λ b h. absurd (none_some h);
        stays = λ o n. record { asked = l.asks a refl; fit = record { grantable = grantable core a held live (l.asks a refl); formed = formed } };
      }),
      record { grantable = grantable core a held live (l.asks a refl); formed = formed },
      same,
    )
goes-on c kind lines frames core now (action.Close why) more left held formed l fit same =
    inr (sym l.closes, nothing_more more l.well, refl, refl)

-- ---- the loop over the actions

pub begin-acting : (c : ℕ) (kind : Option UpdateKind) (first : ℕ) (zxid : ℤ) (frames : List (List ℕ)) (core : Core) (w : World) (flight : Option Flight) (out rest : List Action)
    → Leaves flight core out → IsFitFlight flight → rest ≡ out → IsActing c kind first zxid frames core w flight out w flight rest frames
begin-acting c kind first zxid frames core w flight out rest l fit all = subst (λ (r : List Action). IsActing c kind first zxid frames core w flight out w flight r frames) (sym all)
    (record { done = quiet flight; world = added-quiet w flight; flight_is = refl; later = refl; goes = inl (l, fit, refl) })

next-acting : (c : ℕ) (kind : Option UpdateKind) (first : ℕ) (zxid : ℤ) (frames : List (List ℕ)) (core : Core) (w : World) (flight : Option Flight) (out : List Action)
    (w' : World) (now : Option Flight) (a : Action) (more : List Action) (left : List (List ℕ)) (w'' : World) (next : Option Flight) (left' : List (List ℕ))
    → IsHeld core → IfSome kind IsWellFormedKind
    → IsActing c kind first zxid frames core w flight out w' now (a ∷ more) left
    → w'' ≡ added w' (acts c kind (frame_lines c first zxid left) (quiet now) a) → next ≡ (acts c kind (frame_lines c first zxid left) (quiet now) a).flight → left' ≡ frames_left a left
    → IsActing c kind first zxid frames core w flight out w'' next more left'
next-acting c kind first zxid frames core w flight out w' now a more left w'' next left' held formed acting world out_is left_is =
    elim acting.goes [
      | inr over ↦ absurd (cons_nil over.1)
      | inl on ↦
          (let lines : List (List ℕ) → List TranscriptLine = frame_lines c first zxid in
          let shown : w'' ≡ added w' (acts c kind (lines frames) (quiet now) a) = world ∙ ap (λ (fs : List (List ℕ)). added w' (acts c kind (lines fs) (quiet now) a)) on.2 in
          let is : next ≡ (acts c kind (lines frames) (quiet now) a).flight = out_is ∙ ap (λ (fs : List (List ℕ)). (acts c kind (lines fs) (quiet now) a).flight) on.2 in
          record {
            done = acts c kind (lines frames) acting.done a;
            world = shown ∙ ap (λ (v : World). added v (acts c kind (lines frames) (quiet now) a)) acting.world
                ∙ ap (λ (f : Option Flight). added (added w acting.done) (acts c kind (lines frames) (quiet f) a)) acting.flight_is
                ∙ added-twice c kind (lines frames) w acting.done a;
            flight_is = is ∙ ap (λ (f : Option Flight). (acts c kind (lines frames) (quiet f) a).flight) acting.flight_is ∙ out-as c kind (lines frames) acting.done a;
            later = acting.later;
            goes = subst (λ (f : Option Flight). Goes core frames f more left') (sym is)
                (subst (Goes core frames (acts c kind (lines frames) (quiet now) a).flight more) (sym left_is)
                (goes-on c kind (lines frames) frames core now a more left held formed on.0 on.1 on.2));
          })
    ]

pub more-acting : (c : ℕ) (kind : Option UpdateKind) (first : ℕ) (zxid : ℤ) (frames : List (List ℕ)) (core : Core) (w : World) (flight : Option Flight) (out : List Action)
    (w' : World) (now : Option Flight) (rest : List Action) (a : Action) (more : List Action) (left : List (List ℕ)) (w'' : World) (next : Option Flight) (left' : List (List ℕ))
    → IsHeld core → IfSome kind IsWellFormedKind → rest ≡ a ∷ more
    → IsActing c kind first zxid frames core w flight out w' now rest left
    → w'' ≡ added w' (acts c kind (frame_lines c first zxid left) (quiet now) a) → next ≡ (acts c kind (frame_lines c first zxid left) (quiet now) a).flight → left' ≡ frames_left a left
    → IsActing c kind first zxid frames core w flight out w'' next more left'
more-acting c kind first zxid frames core w flight out w' now rest a more left w'' next left' held formed first_is acting world out_is left_is =
    next-acting c kind first zxid frames core w flight out w' now a more left w'' next left' held formed
    (subst (λ (r : List Action). IsActing c kind first zxid frames core w flight out w' now r left) first_is acting) world out_is left_is

pub fit-acting : (c : ℕ) (kind : Option UpdateKind) (first : ℕ) (zxid : ℤ) (frames : List (List ℕ)) (core : Core) (w : World) (flight : Option Flight) (out : List Action)
    (w' : World) (now : Option Flight) (rest : List Action) (left : List (List ℕ)) → IsActing c kind first zxid frames core w flight out w' now rest left → IsFitFlight now
fit-acting c kind first zxid frames core w flight out w' now rest left acting =
    elim acting.goes [ inl on ↦ on.1 | inr over ↦ subst IsFitFlight (sym over.2) tt ]

-- ---- after the last one

pub record HasActed (c : ℕ) (kind : Option UpdateKind) (first : ℕ) (zxid : ℤ) (frames : List (List ℕ)) (core : Core) (w : World) (flight : Option Flight) (out : List Action) (w' : World) (now : Option Flight) (left : List (List ℕ)) : Type 0 where
  pub after : left ≡ (if is_shut core.stage then [] else frames)
  pub out_is : now ≡ (acts_all c kind (frame_lines c first zxid frames) flight out).flight
  pub fit : IsFitFlight now
  pub flies : is_shut core.stage ≡ false → IsFlyingOf core now
  pub world : w' ≡ added w (acts_all c kind (frame_lines c first zxid frames) flight out)

left-after : (core : Core) (frames : List (List ℕ)) (now : Option Flight) (left : List (List ℕ)) → Goes core frames now [] left → left ≡ (if is_shut core.stage then [] else frames)
left-after core frames now left (inl on) = on.2 ∙ ap (λ b. if b then [] else frames) on.0.closes
left-after core frames now left (inr over) = over.3 ∙ sym (ap (λ b. if b then [] else frames) over.0)

flies-then : (core : Core) (frames : List (List ℕ)) (now : Option Flight) (left : List (List ℕ)) → Goes core frames now [] left → is_shut core.stage ≡ false → IsFlyingOf core now
flies-then core frames now left (inl on) live = on.0.stays live refl
flies-then core frames now left (inr over) live = absurd (true-not_false (sym over.0 ∙ live))

pub end-acting : (c : ℕ) (kind : Option UpdateKind) (first : ℕ) (zxid : ℤ) (frames : List (List ℕ)) (core : Core) (w : World) (flight : Option Flight) (out : List Action)
    (w' : World) (now : Option Flight) (rest : List Action) (left : List (List ℕ)) → rest ≡ [] → IsActing c kind first zxid frames core w flight out w' now rest left
    → HasActed c kind first zxid frames core w flight out w' now left
end-acting c kind first zxid frames core w flight out w' now rest left none acting =
    let goes : Goes core frames now [] left = subst (λ (r : List Action). Goes core frames now r left) none acting.goes in
    let done : acting.done ≡ acts_all c kind (frame_lines c first zxid frames) flight out = sym (ap (fold (acts c kind (frame_lines c first zxid frames)) acting.done) none) ∙ acting.later in
    record {
      after = left-after core frames now left goes;
      out_is = acting.flight_is ∙ ap (λ (o : StepOutcome). o.flight) done;
      fit = fit-acting c kind first zxid frames core w flight out w' now rest left acting;
      flies = flies-then core frames now left goes;
      world = acting.world ∙ ap (added w) done;
    }

pub acted-as : (c : ℕ) (kind kind' : Option UpdateKind) (first : ℕ) (zxid : ℤ) (frames : List (List ℕ)) (core : Core) (w : World) (flight : Option Flight) (out : List Action) (w' : World) (now : Option Flight) (left : List (List ℕ))
    → kind ≡ kind' → HasActed c kind first zxid frames core w flight out w' now left → HasActed c kind' first zxid frames core w flight out w' now left
acted-as c kind kind' first zxid frames core w flight out w' now left same acted = subst (λ (k : Option UpdateKind). HasActed c k first zxid frames core w flight out w' now left) same acted

-- ---- what is put back

pub active-after : (core : Core) (now : Option Flight) (b : Bool) → is_shut core.stage ≡ b → IsFitFlight now → (is_shut core.stage ≡ false → IsFlyingOf core now) → IsActive (if b then Closed else Connection core) now
active-after core now true is fit flies = fit
active-after core now false is fit flies = record { live = is; flies = flies is }

seated-same : (seat : Seat) (a b : Actor) (f g : Option Flight) → a ≡ b → f ≡ g → seated seat a f ≡ seated seat b g
seated-same seat a b f g e h = λ i. seated seat (e i) (h i)

pub put-after : (c : ℕ) (w mid : World) (seat : Seat) (a b : Actor) (now : Option Flight) (o : StepOutcome) (conns : Conns) → mid ≡ added w o → conns ≡ insert mid.conns c (seated seat a now) → a ≡ b → now ≡ o.flight
    → record mid { conns = conns } ≡ leaves c w (left seat) b o
put-after c w mid seat a b now o conns is put actor_is out_is =
    ap (λ (m : Conns). record mid { conns = m }) (put ∙ ap (insert mid.conns c) (seated-same seat a b now o.flight actor_is out_is))
    ∙ ap (λ (v : World). record v { conns = insert v.conns c (seated seat b o.flight) }) is

-- ---- frames that came at once

pub shown-none : (c index : ℕ) (zxid : ℤ) (lines all : List TranscriptLine) (frames : List (List ℕ)) → frames ≡ [] → lines ++ frame_lines c index zxid frames ≡ all → lines ≡ all
shown-none c index zxid lines all frames none so_far = sym (append-nil lines) ∙ ap (λ (fs : List (List ℕ)). lines ++ frame_lines c index zxid fs) (sym none) ∙ so_far

-- the first of them, and then the others
pub shown-more : (c index next : ℕ) (zxid : ℤ) (lines later all : List TranscriptLine) (frame : List ℕ) (frames more : List (List ℕ)) → frames ≡ frame ∷ more → next ≡ counted_up (index + 1) → later ≡ lines ++ FrameLine c index zxid frame ∷ []
    → lines ++ frame_lines c index zxid frames ≡ all → later ++ frame_lines c next zxid more ≡ all
shown-more c index next zxid lines later all frame frames more are next_is shown so_far =
    ap (λ ls. ls ++ frame_lines c next zxid more) shown
    ∙ ap (λ n. (lines ++ FrameLine c index zxid frame ∷ []) ++ frame_lines c n zxid more) next_is
    ∙ append_assoc lines (FrameLine c index zxid frame ∷ []) (frame_lines c (counted_up (index + 1)) zxid more)
    ∙ ap (λ (fs : List (List ℕ)). lines ++ frame_lines c index zxid fs) (sym are) ∙ so_far
