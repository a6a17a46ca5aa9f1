-- The laws of multis.
use Rattle.std.specs.Prelude.{◌<◌, ◌^◌, ◌≡◌, ◌≤◌, ◌++◌, ℕ, ℤ, [], length, List, Some, true}
use Rattle.zk_model.specs.declared.request.Part.{Part}
use Rattle.zk_model.specs.declared.request.Request.TheVariants as requests
use Rattle.zk_model.specs.Limits.{max_parts}
use Rattle.zk_model.specs.Multi.{Stopped as StoppedAt, parts_of}
use Rattle.zk_service.specs.States.{Session, IsSound, session_at, State, limit_of}
use Rattle.zn_view.specs.declared.plan.Who.{Who}
use Rattle.zn_layout.specs.Fits.{ChangesFit}
use Rattle.zn_view.specs.Needs.{IsWhole}
use Rattle.zn_view.specs.Seen.{View}
use Rattle.zk_model.specs.Znodes.{Tree}
use Rattle.zn_updates.specs.Layers.{Shows, layered}
use Rattle.zn_updates.specs.Parts.{IsNarrower}
use Rattle.zn_layout.specs.Changes.{KeyChange, acts_of, are_distinct, last}
use Rattle.zn_layout.specs.Keys.{Key}
use Rattle.zn_multi.specs.Carrying.{no_progress, AreShort, Runs, RunsSeen}
use Rattle.zn_multi.specs.Leading.{LeadsTo}
use Rattle.zn_multi.specs.declared.carrying.Carried.{Carried}
use Rattle.zn_multi.specs.declared.carrying.Carried.TheVariants.{Stopped, Passed}
use Rattle.zn_multi.specs.declared.carrying.Progress.{Progress}
use Rattle.zn_multi.specs.Laying.{all_laid, laid_view, with_acts}

-- ---- changes that are laid over others

-- changes that are laid over others, one for each key, leave each key once
abbrev pub EachKeyIsLaidOnce : Type 0
EachKeyIsLaidOnce = (ws cs : List KeyChange) → are_distinct ws ≡ true → are_distinct (all_laid ws cs) ≡ true

-- changes that are laid over others, one for each key, leave each key with the last change of it
abbrev pub LastChangeIsLaid : Type 0
LastChangeIsLaid = (ws cs : List KeyChange) (k : Key) → are_distinct ws ≡ true → last (all_laid ws cs) k ≡ last (ws ++ cs) k

-- the operations of changes, laid over a view of others alone, give the view of what is left when the changes are laid over them
abbrev pub OperationsAreLaid : Type 0
OperationsAreLaid = (ws cs : List KeyChange) → with_acts (laid_view ws) (acts_of cs) ≡ laid_view (all_laid ws cs)

-- changes that lead from one state to another and write each key once, laid over a view that shows the first state, show the
-- second
abbrev pub LaterPartsSeeEarlierOnes : Type 0
LaterPartsSeeEarlierOnes = (z : ℤ) (v : View) (ws : List KeyChange) (s new : State) → Shows z v s → ChangesFit z ws s new
    → are_distinct ws ≡ true → Shows z (layered (laid_view ws) v) new

-- ---- the parts of a multi

-- Where the parts stop on a view, they stop at the same one with the same code in each sound state in which the session is open
-- and of which the view shows what the parts look at, at any zxid. Other keys of the view may differ from that state.
abbrev pub PartsStopAlike : Type 0
PartsStopAlike = (who : Who) (now : ℕ) (v near : View) (parts : List Part) (s : State) (z : ℤ) (x : Session) (place : ℕ) (code : ℤ)
    (run : Runs who now v no_progress 0 parts (Stopped place code)) → RunsSeen who now v near no_progress 0 parts (Stopped place code) run
    → IsNarrower near v → now < 2 ^ 62 → AreShort parts → IsSound s → Shows z near s → session_at who.session s ≡ Some x
    → parts_of s.tree (limit_of x) who.session parts z now ≡ StoppedAt place code

-- where the parts pass on a view, they pass in each sound state in which the session is open and of which the view shows what the
-- parts look at, at any zxid, and the keys that were laid over the view are the changes that lead to the state after them
abbrev pub PartsPassAlike : Type 0
PartsPassAlike = (who : Who) (now : ℕ) (v near : View) (parts : List Part) (s : State) (z : ℤ) (x : Session) (p : Progress)
    (run : Runs who now v no_progress 0 parts (Passed p)) → RunsSeen who now v near no_progress 0 parts (Passed p) run → IsNarrower near v
    → now < 2 ^ 62 → AreShort parts → IsSound s → Shows z near s → session_at who.session s ≡ Some x
    → LeadsTo who.session now v parts [] p s z

-- whether parts are refused, and which of them with which code, depends neither on the zxid nor on the time
abbrev pub RefusalsDoNotDependOnTheTime : Type 0
RefusalsDoNotDependOnTheTime = (t : Tree) (limit : ℕ) (id : ℤ) (parts : List Part) (z y : ℤ) (now other : ℕ) (place : ℕ) (code : ℤ)
    → parts_of t limit id parts z now ≡ StoppedAt place code → parts_of t limit id parts y other ≡ StoppedAt place code

-- on a view that shows a sound state with the session open, and lacks nothing that at most `max_parts` parts read, what each part looks at
-- was looked up or was written by the parts before it
abbrev pub WhatPartsLookAtWasSeen : Type 0
WhatPartsLookAtWasSeen = (who : Who) (now : ℕ) (v : View) (parts : List Part) (s : State) (z : ℤ) (x : Session) (c : Carried)
    (run : Runs who now v no_progress 0 parts c) → length parts ≤ max_parts → IsWhole (requests.Multi parts) who v → now < 2 ^ 62
    → AreShort parts → IsSound s → Shows z v s → session_at who.session s ≡ Some x → RunsSeen who now v v no_progress 0 parts c run
