-- On a view of a sound state a request is planned where the tree doesn't answer it, and only an update is.
use Rattle.std.proofs.Common.{◌≡◌, ℕ, ℤ, Bool, true, false, Option, Some, None, refl, sym, ◌∙◌, subst}
use Rattle.std.specs.Prelude.{◌↔◌, if◌then◌else◌, MatchBool}
use Rattle.std.specs.FinMap.{get}
use Rattle.std.specs.Ordering.{int_eq}
use Rattle.zx_base.proofs.Options.{some_none}
use Rattle.zk_model.specs.declared.node.Node.{Node}
use Rattle.zk_model.specs.declared.reply.Body.{Body}
use Rattle.zk_model.specs.declared.reply.Reply.{Reply}
use Rattle.zk_model.specs.declared.request.Request.{Request}
use Rattle.zk_model.specs.declared.request.Request.TheVariants as req
use Rattle.zk_model.specs.Single.{Outcome, Refused, Done, single}
use Rattle.zk_model.specs.Watches.{Watches, no_watches}
use Rattle.zk_model.specs.Znodes.{Tree, stat_of, child_names}
use Rattle.zk_model.specs.declared.reply.Body.TheVariants as body
use Rattle.zk_service.specs.Answers.{Told, about, listing, checked, armed_data, armed_children, fits_reply, plain_request, tree_reply}
use Rattle.zk_service.specs.States.{State, Session, IsSound, limit_of, session_at}
use Rattle.zn_layout.specs.Listing.{HasValidPaths}
use Rattle.zn_ops.specs.Forms.{is_single}
use Rattle.zn_ops.proofs.SingleRequests.{read-otherwise}
use Rattle.zn_reads.specs.Deciding.{is_read}
use Rattle.zk_model.specs.Kinds.{is_update}
use Rattle.zn_view.specs.declared.plan.Arm.{Arm}
use Rattle.zn_view.specs.declared.plan.Decision.{Decision}
use Rattle.zn_view.specs.declared.plan.Decision.TheVariants.{Answered, Planned, Expired, Moved}
use Rattle.zn_view.specs.declared.plan.Who.{Who}
use Rattle.zn_view.specs.Seen.{View}
use Rattle.zn_view.specs.Views.{IsByForm, IsBySession, IsByTree, IsDecision, IsOf, IsPlanned, live}

-- ---- the tree answers each read

about_told : (armed w : Watches) (o : Option Node) (f : Node → Body) → about armed w o f ≡ None → ⊥
about_told armed w None f h = cc
about_told armed w (Some n) f h = cc

one_told : (b : Bool) (x y : Told) → (if b then Some x else Some y) ≡ None → ⊥
one_told true x y h = cc
one_told false x y h = cc

listing_told : (armed w : Watches) (o : Option Node) (f : Node → Body) → listing armed w o f ≡ None → ⊥
listing_told armed w None f h = cc
listing_told armed w (Some n) f h = one_told (fits_reply (f n)) _ _ h

checked_told : (w : Watches) (o : Outcome) → checked w o ≡ None → ⊥
checked_told w (Refused code) h = cc
checked_told w (Done r t g) h = cc

read_told : (t : Tree) (limit : ℕ) (session : ℤ) (w : Watches) (r : Request) → is_read r ≡ true → tree_reply t limit session w r ≡ None → ⊥
unfolding tree_reply
read_told t limit session w (req.Create p content acl flags) read h = cc
read_told t limit session w (req.Delete p version) read h = cc
read_told t limit session w (req.Exists p watch) read h = about_told (armed_data watch p w) (armed_data watch p w) (get t p) (λ n. body.Stat (stat_of t p n)) h
read_told t limit session w (req.GetData p watch) read h = about_told (armed_data watch p w) w (get t p) (λ n. body.Content n.content (stat_of t p n)) h
read_told t limit session w (req.SetData p content version) read h = cc
read_told t limit session w (req.GetAcl p) read h = about_told w w (get t p) (λ n. body.OpenAcl (stat_of t p n)) h
read_told t limit session w (req.GetChildren p watch) read h = listing_told (armed_children watch p w) w (get t p) (λ n. body.Names (child_names t p)) h
read_told t limit session w (req.GetChildren2 p watch) read h = listing_told (armed_children watch p w) w (get t p) (λ n. body.NamesStat (child_names t p) (stat_of t p n)) h
read_told t limit session w (req.Sync p) read h = cc
read_told t limit session w req.Ping read h = cc
read_told t limit session w (req.Check p version) read h = checked_told w _ h
read_told t limit session w (req.Multi parts) read h = cc
read_told t limit session w (req.Auth kind scheme auth) read h = cc
read_told t limit session w (req.SetWatches since exists datas children) read h = cc
read_told t limit session w req.Close read h = cc
read_told t limit session w (req.Create2 p content acl flags) read h = cc
read_told t limit session w (req.CheckWatches p kind) read h = cc
read_told t limit session w (req.RemoveWatches p kind) read h = cc

-- ---- what is no plan

answered_planned : (d : Decision) (x : Reply) (arm : Option Arm) → d ≡ Answered x arm → IsPlanned d → ⊥
answered_planned d x arm is planned = let e : Answered x arm ≡ Planned planned.0 = sym is ∙ planned.1 in cc

expired_planned : (d : Decision) → d ≡ Expired → IsPlanned d → ⊥
expired_planned d is planned = let e : Expired ≡ Planned planned.0 = sym is ∙ planned.1 in cc

moved_planned : (d : Decision) (n : ℤ) → d ≡ Moved n → IsPlanned d → ⊥
moved_planned d n is planned = let e : Moved n ≡ Planned planned.0 = sym is ∙ planned.1 in cc

planned_by : (r : Request) (d : Decision) (o : Option Told) → IsByTree r d o → IsPlanned d ↔ (o ≡ None)
planned_by r d None h = (λ p. refl, λ e. h)
planned_by r d (Some t) h = (λ p. absurd (answered_planned d t.reply h.0 h.1 p), λ e. absurd (some_none e))

-- ---- the law

pub planned-where : (r : Request) (who : Who) (v : View) (d : Decision) (s : State) (x : Session) → IsDecision r who v d → IsSound s → HasValidPaths s.tree → IsOf v s → plain_request no_watches r ≡ None → live (session_at who.session s) ≡ Some x → int_eq x.attached who.mine ≡ true
    → IsPlanned d ↔ (tree_reply s.tree (limit_of x) who.session no_watches r ≡ None)
planned-where r who v d s x decision sound valid of plain lives here =
    let form = subst (λ (o : Option Told). IsByForm s who r d o) plain (decision s sound valid of) in
    let session = subst (λ (o : Option Session). IsBySession s who r d o) lives form in
    planned_by r d (tree_reply s.tree (limit_of x) who.session no_watches r)
    (subst (λ (b : Bool). MatchBool b (IsByTree r d (tree_reply s.tree (limit_of x) who.session no_watches r)) (d ≡ Moved x.attached)) here session)

-- the request isn't refused by its form, and its session's life is this
planned_tree : (r : Request) (who : Who) (d : Decision) (s : State) (x : Session) (here : Bool) → is_read r ≡ true → MatchBool here (IsByTree r d (tree_reply s.tree (limit_of x) who.session no_watches r)) (d ≡ Moved x.attached) → IsPlanned d → ⊥
planned_tree r who d s x true read h planned = read_told s.tree (limit_of x) who.session no_watches r read ((planned_by r d _ h).0 planned)
planned_tree r who d s x false read h planned = moved_planned d x.attached h planned

planned_session : (r : Request) (who : Who) (d : Decision) (s : State) (o : Option Session) → is_read r ≡ true → IsBySession s who r d o → IsPlanned d → ⊥
planned_session r who d s None read h planned = expired_planned d h planned
planned_session r who d s (Some x) read h planned = planned_tree r who d s x (int_eq x.attached who.mine) read h planned

update_by : (r : Request) (who : Who) (d : Decision) (s : State) (o : Option Told) → plain_request no_watches r ≡ o → is_single r ≡ true → IsByForm s who r d o → IsPlanned d → is_update r ≡ true
update_by r who d s (Some t) plain single h planned = absurd (answered_planned d t.reply None h planned)
update_by r who d s None plain single h planned = elim (is_update r) as (λ b. is_update r ≡ b → b ≡ true) [
  | true ↦ λ update. refl
  | false ↦ λ update. absurd (planned_session r who d s (live (session_at who.session s)) (read-otherwise r single plain update) h planned)
] refl

pub planned-update : (r : Request) (who : Who) (v : View) (d : Decision) (s : State) → is_single r ≡ true → IsDecision r who v d → IsSound s → HasValidPaths s.tree → IsOf v s → IsPlanned d → is_update r ≡ true
planned-update r who v d s single decision sound valid of planned = update_by r who d s (plain_request no_watches r) refl single (decision s sound valid of) planned
