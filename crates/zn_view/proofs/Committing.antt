-- A plan carries out its update: what has to be shown of a request is that its changes are those of the update.
use Rattle.std.proofs.Common.{◌≡◌, ℕ, ℤ, pos, refl, sym, ap, ◌∙◌, subst, arith, List}
use Rattle.std.specs.Prelude.{Option, Some, None, ◌≤ℤ◌, ◌<ℤ◌}
use Rattle.std.proofs.lemmas.Int.{ints}
use Rattle.ev_types.specs.declared.ask.Act.{Act}
use Rattle.ev_types.specs.Ranges.{Keys}
use Rattle.ev_types.specs.Store.{acts_applied, last_revision}
use Rattle.zk_model.specs.declared.node.Trigger.{Trigger}
use Rattle.zk_model.specs.declared.reply.Reply.{Reply}
use Rattle.zk_model.specs.declared.request.Request.{Request}
use Rattle.zk_model.specs.declared.request.Request.TheVariants as req
use Rattle.zk_service.specs.States.{State, Commit, IsSound, committed}
use Rattle.zn_layout.specs.Changes.{KeyChange, last, update_acts}
use Rattle.zn_layout.specs.Fits.{IsNextState}
use Rattle.zn_layout.specs.Keys.{HeadKey}
use Rattle.zn_layout.specs.Records.{IsHeadRec}
use Rattle.zn_layout.specs.StandsFor.{StandsFor}
use Rattle.zn_layout.proofs.Lookups.{head_found}
use Rattle.zn_layout.proofs.Stands.{stands_after}
use Rattle.zn_view.specs.declared.plan.Plan.{Plan}
use Rattle.zn_view.specs.declared.plan.Who.{Who}
use Rattle.zn_view.specs.Asks.{guards_of}
use Rattle.zn_view.specs.Seen.{View}
use Rattle.zn_view.specs.Views.{AreAsSeen, IsPlan, IsMade, done_by, state_after}
use Rattle.zn_view.proofs.AsSeen.{commits-as_seen}

-- the zxid of a state that keys stand for is a revision
pub zxid-least : (m : Keys) (s : State) → StandsFor m s → pos 1 ≤ℤ s.zxid
zxid-least m s stands =
    let head = head_found m s stands in
    subst (λ (n : ℤ). pos 1 ≤ℤ n) (head.is).zxid ((stands.layout).least _ head.kv head.there)

next-committed : (s : State) (z : ℤ) (ts : List Trigger) (o : Option Commit) (made : Commit) → o ≡ Some made → ts ≡ made.triggers → IsNextState z ts s (committed s z o)
next-committed s z ts None made e t = absurd (cc)
next-committed s z ts (Some x) made e t =
    let is : x ≡ made = cc in
    record { zxid = refl; updates = refl; triggers = ap (λ (c : Commit). c.triggers) is ∙ sym t }

next-closed : (s : State) (z session : ℤ) (now : ℕ) (ts : List Trigger) (made : Commit) → done_by s z session req.Close now ≡ Some made → ts ≡ made.triggers → IsNextState z ts s (state_after s z session req.Close now)
next-closed s z session now ts made e t =
    let is : (state_after s z session req.Close now).triggers ≡ made.triggers = ap (λ (o : Option Commit). triggers_in o) e in
    record { zxid = refl; updates = refl; triggers = is ∙ sym t }
  where
    triggers_in : Option Commit → List Trigger
    triggers_in None = (state_after s z session req.Close now).triggers
    triggers_in (Some x) = x.triggers

next-done : (s : State) (z session : ℤ) (r : Request) (now : ℕ) (ts : List Trigger) (made : Commit) → done_by s z session r now ≡ Some made → ts ≡ made.triggers → IsNextState z ts s (state_after s z session r now)
next-done s z session (req.Create p d a f) now ts made e t = next-committed s z ts (done_by s z session (req.Create p d a f) now) made e t
next-done s z session (req.Delete p v) now ts made e t = next-committed s z ts (done_by s z session (req.Delete p v) now) made e t
next-done s z session (req.SetData p d v) now ts made e t = next-committed s z ts (done_by s z session (req.SetData p d v) now) made e t
next-done s z session (req.Multi parts) now ts made e t = next-committed s z ts (done_by s z session (req.Multi parts) now) made e t
next-done s z session (req.Exists p w) now ts made e t = next-committed s z ts (done_by s z session (req.Exists p w) now) made e t
next-done s z session (req.GetData p w) now ts made e t = next-committed s z ts (done_by s z session (req.GetData p w) now) made e t
next-done s z session (req.GetAcl p) now ts made e t = next-committed s z ts (done_by s z session (req.GetAcl p) now) made e t
next-done s z session (req.GetChildren p w) now ts made e t = next-committed s z ts (done_by s z session (req.GetChildren p w) now) made e t
next-done s z session (req.GetChildren2 p w) now ts made e t = next-committed s z ts (done_by s z session (req.GetChildren2 p w) now) made e t
next-done s z session (req.Sync p) now ts made e t = next-committed s z ts (done_by s z session (req.Sync p) now) made e t
next-done s z session req.Ping now ts made e t = next-committed s z ts (done_by s z session req.Ping now) made e t
next-done s z session (req.Check p v) now ts made e t = next-committed s z ts (done_by s z session (req.Check p v) now) made e t
next-done s z session (req.Auth kind scheme auth) now ts made e t = next-committed s z ts (done_by s z session (req.Auth kind scheme auth) now) made e t
next-done s z session (req.SetWatches since exists datas children) now ts made e t = next-committed s z ts (done_by s z session (req.SetWatches since exists datas children) now) made e t
next-done s z session req.Close now ts made e t = next-closed s z session now ts made e t
next-done s z session (req.Create2 p d a f) now ts made e t = next-committed s z ts (done_by s z session (req.Create2 p d a f) now) made e t
next-done s z session (req.CheckWatches p k) now ts made e t = next-committed s z ts (done_by s z session (req.CheckWatches p k) now) made e t
next-done s z session (req.RemoveWatches p k) now ts made e t = next-committed s z ts (done_by s z session (req.RemoveWatches p k) now) made e t

-- What is to be shown of a request: where keys have what the view saw, its changes are those of the update.
pub plan-commits : (r : Request) (who : Who) (now : ℕ) (v : View) (p : Plan) (finish : ℤ → Reply) (cs : List KeyChange)
    → p.guards ≡ guards_of v.keys → p.success ≡ update_acts cs p.triggers → IsHeadRec p.triggers → last cs HeadKey ≡ None
    → ((m : Keys) (s : State) (z : ℤ) → IsSound s → StandsFor m s → AreAsSeen v m → s.zxid <ℤ z → z ≤ℤ last_revision → IsMade r who now finish cs p.triggers s z)
    → IsPlan r who now v p finish
plan-commits r who now v p finish cs guards acts bounds none made = record {
  carries = λ m s z sound stands may later fits.
      let is = made m s z sound stands (commits-as_seen p v m guards may) later fits in
      let low : pos 1 ≤ℤ z = omega (arith, ints, zxid-least m s stands, later) in
      let next = next-done s z who.session r now p.triggers (is.is_done).made (is.is_done).commits (is.is_done).triggers in
      subst (λ (as' : List Act). StandsFor (acts_applied z m as') (state_after s z who.session r now)) (sym acts)
      (stands_after z cs p.triggers m s (state_after s z who.session r now) low fits bounds none next stands is.fits);
  answers = λ m s z sound stands may later fits. (made m s z sound stands (commits-as_seen p v m guards may) later fits).is_done;
}
