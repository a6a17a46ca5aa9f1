-- Which requests read, and when the decision on one is right.
use Rattle.std.specs.Prelude.{◌≡◌, ℕ, ℤ, Bool, true, false, None}
use Rattle.zk_model.specs.declared.request.Request.{Request}
use Rattle.zk_model.specs.declared.request.Request.TheVariants as req
use Rattle.zk_model.specs.Watches.{no_watches}
use Rattle.zk_service.specs.Answers.{plain_request, tree_reply}
use Rattle.zk_service.specs.States.{State, IsSound}
use Rattle.zn_layout.specs.Listing.{HasValidPaths}
use Rattle.zn_view.specs.declared.plan.Decision.{Decision}
use Rattle.zn_view.specs.declared.plan.Decision.TheVariants.{Answered, Planned, Expired, Moved}
use Rattle.zn_view.specs.declared.plan.Who.{Who}
use Rattle.zn_view.specs.Deciding.{IsToldByForm}
use Rattle.zn_view.specs.Needs.{LacksNothing}
use Rattle.zn_view.specs.Seen.{View}
use Rattle.zn_view.specs.Views.{IsOf, IsByTree}

-- the requests that are decided here
abbrev pub is_read : Request → Bool
is_read (req.Exists p watch) = true
is_read (req.GetData p watch) = true
is_read (req.GetAcl p) = true
is_read (req.GetChildren p watch) = true
is_read (req.GetChildren2 p watch) = true
is_read (req.Check p version) = true
is_read (req.Sync p) = true
is_read (req.SetWatches since exists datas children) = true
is_read _ = false

-- the requests that list children
abbrev pub lists : Request → Bool
lists (req.GetChildren p watch) = true
lists (req.GetChildren2 p watch) = true
lists _ = false

-- Where the form does not decide and the view lacks nothing, the decision is the tree's in each sound state that the view is of,
-- whoever asks. Children are listed by a range of keys, which is theirs alone where each path of the tree is valid.
abbrev pub IsDecided : Request → View → Decision → Type 0
IsDecided r v d =
    (who : Who) → LacksNothing r who v → (s : State) → IsSound s → (lists r ≡ true → HasValidPaths s.tree) → IsOf v s
    → plain_request no_watches r ≡ None → (limit : ℕ) (session : ℤ) → IsByTree r d (tree_reply s.tree limit session no_watches r)

-- it is an answer: nothing is planned, and no session is tested
abbrev pub IsAnswered : Decision → Type 0
IsAnswered (Answered reply arm) = Unit {0}
IsAnswered (Planned p) = ⊥
IsAnswered Expired = ⊥
IsAnswered (Moved found) = ⊥

abbrev pub IsAnsweredBy : Request → View → Decision → Type 0
IsAnsweredBy r v d = IsAnswered d × IsDecided r v d

-- the decision is an answer: by the form where that decides, and otherwise by the tree
pub record IsReadDecision (r : Request) (v : View) (d : Decision) : Type 0 where
  pub by_form : IsToldByForm r d
  pub decided : IsDecided r v d
  pub answered : IsAnswered d
