-- What is asked of each decision on a view: the form is tested first, then the session by the record of its life, and a plan is a
-- good one.
use Rattle.std.specs.Prelude.{◌≡◌, ℕ, ◌<ℤ◌, nat_abs, Bool, true, false, Option, Some, None, MatchBool}
use Rattle.std.specs.Ordering.{int_eq}
use Rattle.ev_types.specs.declared.answer.Kv.{Kv}
use Rattle.ev_types.specs.Denials.{is_denied}
use Rattle.ev_types.specs.Store.{Store, revision, last_revision}
use Rattle.zk_model.specs.declared.request.Request.{Request}
use Rattle.zk_model.specs.Watches.{no_watches}
use Rattle.zk_service.specs.Answers.{Told, plain_request}
use Rattle.zk_service.specs.States.{State, IsSound}
use Rattle.zn_layout.specs.Keys.{LeaseKey}
use Rattle.zn_view.specs.declared.plan.Decision.{Decision}
use Rattle.zn_view.specs.declared.plan.Decision.TheVariants.{Answered, Planned, Expired, Moved}
use Rattle.zn_view.specs.declared.plan.Plan.{Plan}
use Rattle.zn_view.specs.declared.plan.Who.{Who}
use Rattle.zn_view.specs.Asks.{IsAskedPlan, WritesOwnKeys, transaction}
use Rattle.zn_view.specs.Lookups.{sees}
use Rattle.zn_view.specs.Needs.{GuardsReads, finished}
use Rattle.zn_view.specs.Seen.{View}
use Rattle.zn_view.specs.Views.{IsOf, IsPlan, IsSmallPlan}

-- ---- the form decides first

-- what the request's form tells is the answer, which arms nothing
abbrev pub IsToldByForm : Request → Decision → Type 0
IsToldByForm r d = (t : Told) → plain_request no_watches r ≡ Some t → d ≡ Answered t.reply None

-- ---- the session is tested

-- the decision is neither that the session has expired nor that it has moved
abbrev pub is_by_tree : Decision → Bool
is_by_tree Expired = false
is_by_tree (Moved found) = false
is_by_tree _ = true

-- by the record of the session's life, which was looked up: where it is gone the session is closed or has lapsed, and where it was
-- put by another attachment the session has moved
abbrev pub IsTestedBy : Who → Decision → Option (Option Kv) → Type 0
IsTestedBy who d None = ⊥
IsTestedBy who d (Some None) = d ≡ Expired
IsTestedBy who d (Some (Some kv)) = MatchBool (int_eq kv.mod_revision who.mine) (is_by_tree d ≡ true) (d ≡ Moved kv.mod_revision)

-- A request that its form does not decide is expired or moved exactly by that record. This holds of every view, also of one that
-- no state has.
abbrev pub IsTested : Request → Who → View → Decision → Type 0
IsTested r who v d = plain_request no_watches r ≡ None → IsTestedBy who d (sees v (LeaseKey (nat_abs who.session)))

-- ---- a plan

abbrev pub IfPlanned : (Plan → Type 0) → Decision → Type 0
IfPlanned P (Planned p) = P p
IfPlanned P (Answered x arm) = Unit {0}
IfPlanned P Expired = Unit {0}
IfPlanned P (Moved found) = Unit {0}

-- it is small enough, and an etcd that has a revision to come does not deny it; so it writes no key twice
pub record IsTaken (p : Plan) : Type 0 where
  pub small : IsSmallPlan p
  pub allowed : (t : Store) → revision t <ℤ last_revision → is_denied t (transaction p) ≡ false

-- A good plan carries the update out, and its finished draft is the update's reply. It may be asked of an etcd, and guards what the
-- request reads and nothing else. It writes keys of the service alone. On a view of a sound state an etcd takes it: it has at most
-- 128 guards, 128 operations in a list, and 1,500,000 bytes of keys and values, and isn't denied while there is a revision to come.
pub record IsGood (r : Request) (who : Who) (now : ℕ) (v : View) (p : Plan) : Type 0 where
  pub commits : IsPlan r who now v p (λ z. finished z p.draft)
  pub asked : IsAskedPlan who v p
  pub reads : GuardsReads r who v p
  pub writes : WritesOwnKeys p
  pub taken : (s : State) → IsSound s → IsOf v s → IsTaken p
