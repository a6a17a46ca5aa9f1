-- The session is tested on a view that lacks nothing, and where it is attached here the tree decides.
use Rattle.std.proofs.Common.{◌≡◌, ℕ, ℤ, pos, Bool, true, false, Option, Some, None, refl, sym, ap, ◌∙◌, subst, inl, inr}
use Rattle.std.specs.Prelude.{nat_abs, ◌≤ℤ◌, if◌then◌else◌, MatchBool}
use Rattle.std.specs.Ordering.{int_eq}
use Rattle.zk_model.specs.declared.request.Request.{Request}
use Rattle.zk_model.specs.declared.request.Request.TheVariants as req
use Rattle.zk_model.specs.Watches.{no_watches}
use Rattle.zk_service.specs.Answers.{Told, plain_request}
use Rattle.zk_service.specs.States.{IsSound, Session, State, limit_of, session_at}
use Rattle.zx_base.proofs.Options.{none_some, some_is}
use Rattle.zn_layout.specs.Keys.{LeaseKey}
use Rattle.zn_ops.specs.Deciding.{IsAttachedAt}
use Rattle.zn_reads.specs.Deciding.{IsAnswered, IsReadDecision}
use Rattle.zn_view.specs.declared.plan.Plan.{Plan}
use Rattle.zn_view.specs.Asks.{WritesOnce}
use Rattle.zn_view.specs.Deciding.{IfPlanned, IsGood, IsTaken, IsTested, IsTestedBy, IsToldByForm, is_by_tree}
use Rattle.zn_view.specs.Keeping.{IsKeepable}
use Rattle.zn_updates.specs.Deciding.{IsAttached, IsBounded, IsBySound, IsGuarded, IsTakenIfCreate}
use Rattle.zn_view.specs.declared.plan.Decision.{Decision}
use Rattle.zn_view.specs.declared.plan.Decision.TheVariants.{Answered, Planned, Expired, Moved}
use Rattle.zn_view.specs.declared.plan.Who.{Who}
use Rattle.zn_view.specs.Lookups.{HasSeen, sees}
use Rattle.zn_view.specs.Needs.{life_want, IsWhole}
use Rattle.zn_view.specs.Seen.{View}
use Rattle.zn_view.specs.Views.{IsDecision, IsOf, live}
use Rattle.zn_view.proofs.Tested.{expired-decides, moved-decides, tree-decides}
use Rattle.zx_base.proofs.Booleans.{same-int as int_eq-same}

pub life-looked_up : (r : Request) (who : Who) (v : View) → plain_request no_watches r ≡ None → IsWhole r who v → HasSeen v (LeaseKey (nat_abs who.session))
life-looked_up r who v plain whole = λ none. whole plain (life_want who.session) (inr (inl refl)) none

pub expired : (r : Request) (who : Who) (v : View) → pos 1 ≤ℤ who.session → plain_request no_watches r ≡ None → IsAttachedAt (sees v (LeaseKey (nat_abs who.session))) None → IsDecision r who v Expired
expired r who v real plain saw = expired-decides r who v real plain saw

pub moved : (r : Request) (who : Who) (v : View) (n : ℤ) → pos 1 ≤ℤ who.session → plain_request no_watches r ≡ None → IsAttachedAt (sees v (LeaseKey (nat_abs who.session))) (Some n) → int_eq n who.mine ≡ false → IsDecision r who v (Moved n)
moved r who v n real plain saw apart =
    subst (λ (k : ℤ). IsDecision r who v (Moved k)) saw.2 (moved-decides r who v saw.0 real plain saw.1 (ap (λ (k : ℤ). int_eq k who.mine) saw.2 ∙ apart))

open_by : (x y : Session) (lapsed : Bool) → (if lapsed then None else Some y) ≡ Some x → Some y ≡ Some x
open_by x y true h = cc
open_by x y false h = h

-- a live session is open
pub live-open : (o : Option Session) (x : Session) → live o ≡ Some x → o ≡ Some x
live-open None x h = h
live-open (Some y) x h = open_by x y y.lapsed h

pub update-decided : (r : Request) (who : Who) (v : View) (d : Decision) → pos 1 ≤ℤ who.session → plain_request no_watches r ≡ None → IsAttached who v → IsBySound r who v d → IsDecision r who v d
update-decided r who v d real plain attached decided =
    tree-decides r who v d attached.0 real plain attached.1 (int_eq-same (attached.0).mod_revision who.mine attached.2)
    (λ m s x sound valid stands agrees lives. decided plain s sound (m, stands, agrees) x (live-open (session_at who.session s) x lives))

pub read-decided : (r : Request) (who : Who) (v : View) (d : Decision) → pos 1 ≤ℤ who.session → plain_request no_watches r ≡ None → IsAttached who v → IsWhole r who v → IsReadDecision r v d → IsDecision r who v d
read-decided r who v d real plain attached whole read =
    tree-decides r who v d attached.0 real plain attached.1 (int_eq-same (attached.0).mod_revision who.mine attached.2)
    (λ m s x sound valid stands agrees lives. read.decided who (whole plain) s sound (λ _. valid) (m, stands, agrees) plain (limit_of x) who.session)

-- ---- the session's test

pub expired-tested : (r : Request) (who : Who) (v : View) → IsAttachedAt (sees v (LeaseKey (nat_abs who.session))) None → IsTested r who v Expired
expired-tested r who v saw plain = subst (IsTestedBy who Expired) (sym saw) refl

pub moved-tested : (r : Request) (who : Who) (v : View) (n : ℤ) → IsAttachedAt (sees v (LeaseKey (nat_abs who.session))) (Some n) → int_eq n who.mine ≡ false → IsTested r who v (Moved n)
moved-tested r who v n saw apart plain =
    subst (IsTestedBy who (Moved n)) (sym saw.1)
    (subst (λ (b : Bool). MatchBool b (is_by_tree (Moved n) ≡ true) (Moved n ≡ Moved (saw.0).mod_revision)) (sym (ap (λ (k : ℤ). int_eq k who.mine) saw.2 ∙ apart)) (ap Moved (sym saw.2)))

pub read-by_tree : (d : Decision) → IsAnswered d → is_by_tree d ≡ true
read-by_tree (Planned p) h = absurd h
read-by_tree (Answered x arm) h = refl
read-by_tree Expired h = absurd h
read-by_tree (Moved found) h = absurd h

-- ---- the form

-- a request that its form does not decide is told nothing by it
pub plain-told : (r : Request) (d : Decision) → plain_request no_watches r ≡ None → IsToldByForm r d
plain-told r d plain t e = absurd (none_some (sym plain ∙ e))

-- the answer that the form decides
pub form-told : (r : Request) (d : Decision) (t : Told) → plain_request no_watches r ≡ Some t → d ≡ Answered t.reply None → IsToldByForm r d
form-told r d t told is u e = is ∙ ap (λ (w : Told). Answered w.reply None) (some_is (sym told ∙ e))

-- ---- plans

-- a view of a sound state bounds any plan
bounded : (r : Request) (v : View) (s : State) → IsSound s → IsOf v s → IsBounded r v
bounded (req.Create p d a f) v s sound of = tt
bounded (req.Create2 p d a f) v s sound of = tt
bounded _ v s sound of = (s, sound, of)

-- a create's plan is bounded by any view
taken-as_create : (r : Request) (v : View) (p : Plan) → (IsBounded r v → IsTaken p) → IsTakenIfCreate r p
taken-as_create (req.Create path d a f) v p h = h tt
taken-as_create (req.Create2 path d a f) v p h = h tt
taken-as_create _ v p h = tt

pub update-planned : (r : Request) (who : Who) (now : ℕ) (v : View) (d : Decision) → IsAttached who v → IfPlanned (IsGuarded r who now v) d → IfPlanned (IsGood r who now v) d
update-planned r who now v (Planned p) attached h = record { commits = (h.commits attached).0; asked = (h.commits attached).1; reads = h.reads; writes = h.writes.own; taken = λ s sound of. h.taken (bounded r v s sound of) }
update-planned r who now v (Answered x arm) attached h = tt
update-planned r who now v Expired attached h = tt
update-planned r who now v (Moved found) attached h = tt

pub update-once : (r : Request) (who : Who) (now : ℕ) (v : View) (d : Decision) → IfPlanned (IsGuarded r who now v) d → IfPlanned WritesOnce d
update-once r who now v (Planned p) h = h.writes
update-once r who now v (Answered x arm) h = tt
update-once r who now v Expired h = tt
update-once r who now v (Moved found) h = tt

pub update-created : (r : Request) (who : Who) (now : ℕ) (v : View) (d : Decision) → IfPlanned (IsGuarded r who now v) d → IfPlanned (IsTakenIfCreate r) d
update-created r who now v (Planned p) h = taken-as_create r v p h.taken
update-created r who now v (Answered x arm) h = tt
update-created r who now v Expired h = tt
update-created r who now v (Moved found) h = tt

pub update-keepable : (r : Request) (who : Who) (now : ℕ) (v : View) (d : Decision) → IfPlanned (IsGuarded r who now v) d → IfPlanned (IsKeepable r v) d
update-keepable r who now v (Planned p) h = h.keepable
update-keepable r who now v (Answered x arm) h = tt
update-keepable r who now v Expired h = tt
update-keepable r who now v (Moved found) h = tt

-- a read plans nothing
pub read-planned : (P : Plan → Type 0) (d : Decision) → IsAnswered d → IfPlanned P d
read-planned P (Planned p) h = absurd h
read-planned P (Answered x arm) h = tt
read-planned P Expired h = tt
read-planned P (Moved found) h = tt
