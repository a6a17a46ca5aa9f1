-- A single request is an update, a read, or answered by its form.
use Rattle.std.proofs.Common.{◌≡◌, true, false, [], List, Some, None, refl, sym, ◌∙◌, subst}
use Rattle.zk_model.specs.declared.request.Request.{Request}
use Rattle.zk_model.specs.declared.request.Request.TheVariants as req
use Rattle.zk_model.specs.Watches.{no_watches}
use Rattle.zk_service.specs.Answers.{Told, plain_request}
use Rattle.zx_base.proofs.Options.{none_some}
use Rattle.zn_ops.specs.Forms.{is_single}
use Rattle.zn_reads.specs.Deciding.{is_read}
use Rattle.zk_model.specs.Kinds.{is_update}
use Rattle.zn_view.specs.declared.plan.Who.{Who}
use Rattle.zn_view.specs.declared.want.Want.{Want}
use Rattle.zn_view.specs.Needs.{AreNeeds}
use Rattle.zn_view.specs.Seen.{View}
use Rattle.zn_view.proofs.Wanted.{no-needs}

-- a request that reads nothing and changes nothing is told by its form
plain_told : (r : Request) → is_single r ≡ true → is_update r ≡ false → is_read r ≡ false → (t : Told) × (plain_request no_watches r ≡ Some t)
unfolding plain_request
plain_told (req.Create p content acl flags) single update read = cc
plain_told (req.Delete p version) single update read = cc
plain_told (req.Exists p watch) single update read = cc
plain_told (req.GetData p watch) single update read = cc
plain_told (req.SetData p content version) single update read = cc
plain_told (req.GetAcl p) single update read = cc
plain_told (req.GetChildren p watch) single update read = cc
plain_told (req.GetChildren2 p watch) single update read = cc
plain_told (req.Sync p) single update read = cc
plain_told req.Ping single update read = (_, refl)
plain_told (req.Check p version) single update read = cc
plain_told (req.Multi parts) single update read = cc
plain_told (req.Auth kind scheme auth) single update read = (_, refl)
plain_told (req.SetWatches since exists datas children) single update read = cc
plain_told req.Close single update read = cc
plain_told (req.Create2 p content acl flags) single update read = cc
plain_told (req.CheckWatches p kind) single update read = (_, refl)
plain_told (req.RemoveWatches p kind) single update read = (_, refl)

pub read-otherwise : (r : Request) → is_single r ≡ true → plain_request no_watches r ≡ None → is_update r ≡ false → is_read r ≡ true
read-otherwise r single plain update = elim (is_read r) as (λ b. is_read r ≡ b → b ≡ true) [
  | true ↦ λ read. refl
  | false ↦ λ read. absurd (none_some (sym plain ∙ (plain_told r single update read).1))
] refl

told_needed : (r : Request) (who : Who) (v : View) (t : Told) → plain_request no_watches r ≡ Some t → AreNeeds r who v []
told_needed r who v t plain = no-needs r who v t [] refl plain

-- a request that reads nothing and changes nothing looks up nothing
pub plain-needed : (r : Request) (who : Who) (v : View) (ws : List Want) → is_single r ≡ true → is_update r ≡ false → is_read r ≡ false → ws ≡ [] → AreNeeds r who v ws
plain-needed r who v ws single update read is =
    let told = plain_told r single update read in
    subst (λ (l : List Want). AreNeeds r who v l) (sym is) (told_needed r who v told.0 told.1)
