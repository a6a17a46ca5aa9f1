-- What the parts of a multi come to, each on what the parts before it left.
use Rattle.std.specs.Prelude.{◌≡◌, ℕ, ℤ, pos, ◌+◌, ◌≤◌, List, [], ◌∷◌, ◌++◌, length, All, Option, Some, None, if◌then◌else◌}
use Rattle.std.specs.Ordering.{int_eq}
use Rattle.std.specs.Option.{option_to_list}
use Rattle.zk_model.specs.declared.node.Trigger.{Trigger}
use Rattle.zk_model.specs.declared.reply.PartResult.{PartResult}
use Rattle.zk_model.specs.declared.request.Part.{Part}
use Rattle.zk_model.specs.declared.request.Part.TheVariants as part
use Rattle.zk_model.specs.Limits.{max_frame}
use Rattle.zk_model.specs.Single.{is_ephemeral}
use Rattle.zn_layout.specs.Changes.{KeyChange, acts_of}
use Rattle.zn_view.specs.declared.plan.Who.{Who}
use Rattle.zn_view.specs.Seen.{View, empty_view}
use Rattle.zx_base.specs.Maps.{Bytes}
use Rattle.zn_updates.specs.declared.chosen.Chosen.TheVariants as chosen
use Rattle.zn_updates.specs.declared.seen.SeenData.{SeenData}
use Rattle.zn_updates.specs.Choices.{Choice, Make}
use Rattle.zn_updates.specs.Deciding.{owner_seen}
use Rattle.zn_updates.specs.Forms.{IsInnerPath}
use Rattle.zn_updates.specs.Layers.{IsChosen, layered}
use Rattle.zn_updates.specs.Parts.{AreKept, AreOwn, IfData, IsNarrower, IsPartChoice, IsPartSeen, part_content}
use Rattle.zn_multi.specs.Laying.{with_acts}
use Rattle.zn_multi.specs.declared.carrying.Carried.{Carried}
use Rattle.zn_multi.specs.declared.carrying.Carried.TheVariants.{Stopped, Passed}
use Rattle.zn_multi.specs.declared.carrying.Progress.{Progress}

-- each part's data fit a frame
abbrev pub AreShort : List Part → Type 0
AreShort parts = All (λ (p : Part). length (part_content p) ≤ max_frame) parts

abbrev pub no_progress : Progress
no_progress = record { over = empty_view; results = []; triggers = []; touched = [] }

-- ---- the session whose node a part makes or removes

-- an owner of 0 is none
abbrev pub some_owner : ℤ → Option ℤ
some_owner owner = if int_eq owner (pos 0) then None else Some owner

-- the owner of the node at a path, by its record, if that was looked up
abbrev pub IsOwnerOver : View → Option Bytes → Option ℤ → Type 0
IsOwnerOver v None o = o ≡ None
IsOwnerOver v (Some p) o = (x : Option SeenData) × IfData v p x × (o ≡ some_owner (owner_seen x))

abbrev pub IsTouched : View → ℤ → Part → Option ℤ → Type 0
IsTouched v id (part.Create path d a f) o = o ≡ (if is_ephemeral f then Some id else None)
IsTouched v id (part.Delete path x) o = (p : Option Bytes) × IsInnerPath path p × IsOwnerOver v p o
IsTouched v id (part.SetData path d x) o = o ≡ None
IsTouched v id (part.Check path x) o = o ≡ None

-- ---- a part

-- the part is not refused, and its changes are laid over those of the parts before it
pub record IsStep (p : Part) (who : Who) (now : ℕ) (v : View) (old new : Progress) : Type 0 where
  pub changes : List KeyChange
  pub told : List Trigger
  pub draft : PartResult
  pub choice : ℕ → Choice
  pub is : choice now ≡ Make changes told draft
  pub chosen : (near : View) → IsNarrower near (layered old.over v) → IsPartSeen who.session near p → IsChosen p who near choice
  pub kept : AreKept changes told
  pub own : AreOwn who.session (layered old.over v) p changes
  pub owner : Option ℤ
  pub owner_is : IsTouched (layered old.over v) who.session p owner
  pub over : new.over ≡ with_acts old.over (acts_of changes)
  pub results : new.results ≡ old.results ++ draft ∷ []
  pub triggers : new.triggers ≡ old.triggers ++ told
  pub touched : new.touched ≡ old.touched ++ option_to_list owner

-- the part at this place is refused, or is a step
abbrev pub IsCarriedOne : Part → Who → ℕ → View → Progress → ℕ → Carried → Type 0
IsCarriedOne p who now v old place (Stopped k code) = (k ≡ place) × IsPartChoice p who now (layered old.over v) (chosen.Refused code)
IsCarriedOne p who now v old place (Passed new) = IsStep p who now v old new

-- ---- all parts, one after the other

-- what these parts come to, of which the first has this place: they stop at the first that is refused
abbrev pub Runs : Who → ℕ → View → Progress → ℕ → List Part → Carried → Type 0
Runs who now v old place [] c = c ≡ Passed old
Runs who now v old place (p ∷ ps) c = (one : Carried) × IsCarriedOne p who now v old place one × (elim one [ Stopped k code ↦ c ≡ Stopped k code | Passed new ↦ Runs who now v new (place + 1) ps c ])

-- what the choice of each part looks at is seen on the view `near` with the keys laid over it that the parts before wrote
abbrev pub RunsSeen : (who : Who) (now : ℕ) (v near : View) (old : Progress) (place : ℕ) (ps : List Part) (c : Carried) → Runs who now v old place ps c → Type 0
RunsSeen who now v near old place [] c run = Unit {0}
RunsSeen who now v near old place (p ∷ ps) c (Stopped k code, one, rest) = IsPartSeen who.session (layered old.over near) p
RunsSeen who now v near old place (p ∷ ps) c (Passed new, one, rest) = IsPartSeen who.session (layered old.over near) p × RunsSeen who now v near new (place + 1) ps c rest
