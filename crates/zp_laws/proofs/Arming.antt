-- A read arms the same watch, whatever is armed already.
use Rattle.std.proofs.Common.{◌≡◌, ◌≢◌, [], refl, sym, ap, ◌∙◌, Bool, true, false, ℤ, ℕ, ⊎_elim}
use Rattle.std.specs.Prelude.{Option, Some, None, if◌then◌else◌}
use Rattle.std.specs.Cmp.Lexicographic.{slice_cmp}
use Rattle.std.specs.FinMap.{empty, get, get-empty, insert}
use Rattle.std.specs.Ordering.{nat_cmp}
use Rattle.zk_model.specs.Codes.{no_node, system_error}
use Rattle.zk_model.specs.Multi.{Several, Denied, Codes, All as AllDone}
use Rattle.zk_model.specs.Single.{Outcome, Refused, Done}
use Rattle.zk_model.specs.Watches.{PathSet, Watches, arm_children, arm_data, no_watches}
use Rattle.zk_model.specs.Znodes.{Tree}
use Rattle.zk_model.specs.declared.node.Node.{Node}
use Rattle.zk_model.specs.declared.reply.Body.{Body}
use Rattle.zk_model.specs.declared.reply.Reply.{Reply}
use Rattle.zk_model.specs.declared.reply.Reply.TheVariants as reply
use Rattle.zk_model.specs.declared.request.Request.{Request}
use Rattle.zk_model.specs.declared.request.Request.TheVariants as req
use Rattle.zk_service.specs.Answers.{Told, about, armed_children, armed_data, checked, fits_reply, listing, refusal_of, refusal_of_several, told, tree_reply}
use Rattle.zx_base.specs.Maps.{Bytes}
use Rattle.zx_base.proofs.MapLaws.{either, get-insert_other, get-insert_same}
use Rattle.zx_base.proofs.Options.{none_some, some_is}
use Rattle.zn_view.specs.Views.{armed_by, rearms}
use Rattle.zn_view.specs.declared.plan.Arm.{Arm}

-- ---- sets with one path

abbrev no_paths : PathSet
no_paths = empty

abbrev one_path : Bytes → PathSet
one_path p = insert empty p tt

none-there : (p : Bytes) → get no_paths p ≡ None
none-there p = get-empty (slice_cmp nat_cmp) p

one-there : (p : Bytes) → get (one_path p) p ≡ Some tt
one-there p = get-insert_same empty p tt

others-absent : (p q : Bytes) → p ≢ q → get (one_path q) p ≡ None
others-absent p q apart = get-insert_other empty q p tt apart ∙ get-empty (slice_cmp nat_cmp) p

not-empty : (p : Bytes) → one_path p ≡ no_paths → ⊥
not-empty p e = none_some (sym (none-there p) ∙ sym (ap (λ (m : PathSet). get m p) e) ∙ one-there p)

same-path : (p q : Bytes) → one_path p ≡ one_path q → p ≡ q
same-path p q e = ⊎_elim
    (λ same. same)
    (λ apart. absurd (none_some (sym (others-absent p q apart) ∙ sym (ap (λ (m : PathSet). get m p) e) ∙ one-there p)))
    (either p q)

-- ---- what is armed by a watch or none

armed-as : (a : Option Arm) (w : Watches) → armed_by a no_watches ≡ no_watches → armed_by a w ≡ w
armed-as None w h = refl
armed-as (Some x) w h = go x.child h
  where
    go : (b : Bool) → (if b then arm_children no_watches x.path else arm_data no_watches x.path) ≡ no_watches → (if b then arm_children w x.path else arm_data w x.path) ≡ w
    go true e = absurd (not-empty x.path (ap (λ (v : Watches). v.on_children) e))
    go false e = absurd (not-empty x.path (ap (λ (v : Watches). v.on_data) e))

data-as : (a : Option Arm) (p : Bytes) (w : Watches) → arm_data no_watches p ≡ armed_by a no_watches → arm_data w p ≡ armed_by a w
data-as None p w h = absurd (not-empty p (ap (λ (v : Watches). v.on_data) h))
data-as (Some x) p w h = go x.child h
  where
    go : (b : Bool) → arm_data no_watches p ≡ (if b then arm_children no_watches x.path else arm_data no_watches x.path) → arm_data w p ≡ (if b then arm_children w x.path else arm_data w x.path)
    go true e = absurd (not-empty p (ap (λ (v : Watches). v.on_data) e))
    go false e = ap (arm_data w) (same-path p x.path (ap (λ (v : Watches). v.on_data) e))

children-as : (a : Option Arm) (p : Bytes) (w : Watches) → arm_children no_watches p ≡ armed_by a no_watches → arm_children w p ≡ armed_by a w
children-as None p w h = absurd (not-empty p (ap (λ (v : Watches). v.on_children) h))
children-as (Some x) p w h = go x.child h
  where
    go : (b : Bool) → arm_children no_watches p ≡ (if b then arm_children no_watches x.path else arm_data no_watches x.path) → arm_children w p ≡ (if b then arm_children w x.path else arm_data w x.path)
    go true e = ap (arm_children w) (same-path p x.path (ap (λ (v : Watches). v.on_children) e))
    go false e = absurd (not-empty p (ap (λ (v : Watches). v.on_children) e))

-- a way to arm
record Arms (f : Watches → Watches) : Type 0 where
  same : (a : Option Arm) (w : Watches) → f no_watches ≡ armed_by a no_watches → f w ≡ armed_by a w

arms-none : Arms (λ w. w)
arms-none = record { same = λ a w h. sym (armed-as a w (sym h)) }

arms-data : (b : Bool) (p : Bytes) → Arms (armed_data b p)
arms-data true p = record { same = λ a w h. data-as a p w h }
arms-data false p = arms-none

arms-children : (b : Bool) (p : Bytes) → Arms (armed_children b p)
arms-children true p = record { same = λ a w h. children-as a p w h }
arms-children false p = arms-none

-- ---- answers that arm the same from any watches

abbrev Alike : (Watches → Option Told) → Type 0
Alike g = (t : Told) (a : Option Arm) (w : Watches) → g no_watches ≡ Some t → t.watches ≡ armed_by a no_watches → g w ≡ Some (record { reply = t.reply; notices = []; watches = armed_by a w })

retold : (x y : Watches) (r q : Reply) → x ≡ y → r ≡ q → ◌≡◌ {A = Option Told} (Some (record { reply = r; notices = []; watches = x })) (Some (record { reply = q; notices = []; watches = y }))
retold x y r q e f = λ i. Some (record { reply = f i; notices = []; watches = e i })

told-alike : (f : Watches → Watches) (r : Reply) → Arms f → Alike (λ w. told (f w) r)
told-alike f r s t a w h e =
    let same : record { reply = r; notices = []; watches = f no_watches } ≡ t = some_is h in
    retold (f w) (armed_by a w) r t.reply (s.same a w (ap (λ (v : Told). v.watches) same ∙ e)) (ap (λ (v : Told). v.reply) same)

about-alike : (f g : Watches → Watches) (n : Option Node) (b : Node → Body) → Arms f → Arms g → Alike (λ w. about (f w) (g w) n b)
about-alike f g None b s u = told-alike g (reply.Refused no_node) u
about-alike f g (Some n) b s u = told-alike f (reply.Good (b n)) s

listing-alike : (f : Watches → Watches) (n : Option Node) (b : Node → Body) → Arms f → Alike (λ w. listing (f w) w n b)
listing-alike f None b s = told-alike (λ w. w) (reply.Refused no_node) arms-none
listing-alike f (Some n) b s = go (fits_reply (b n))
  where
    go : (c : Bool) → Alike (λ w. if c then told (f w) (reply.Good (b n)) else told w (reply.Refused system_error))
    go true = told-alike f (reply.Good (b n)) s
    go false = told-alike (λ w. w) (reply.Refused system_error) arms-none

refusal-alike : (o : Outcome) → Alike (λ w. refusal_of w o)
refusal-alike (Refused code) = told-alike (λ w. w) _ arms-none
refusal-alike (Done r t g) = λ u a w h e. absurd (none_some h)

several-alike : (o : Several) → Alike (λ w. refusal_of_several w o)
several-alike (Denied code) = told-alike (λ w. w) _ arms-none
several-alike (Codes row) = told-alike (λ w. w) _ arms-none
several-alike (AllDone rs t g) = λ u a w h e. absurd (none_some h)

checked-alike : (o : Outcome) → Alike (λ w. checked w o)
checked-alike (Refused code) = told-alike (λ w. w) _ arms-none
checked-alike (Done r t g) = told-alike (λ w. w) _ arms-none

no-alike : Alike (λ w. None)
no-alike = λ u a w h e. absurd (none_some h)

pub tree-alike : (t : Tree) (limit : ℕ) (id : ℤ) (q : Request) → rearms q ≡ false → Alike (λ w. tree_reply t limit id w q)
unfolding tree_reply
tree-alike t limit id (req.Exists p watch) h = about-alike (armed_data watch p) (armed_data watch p) _ _ (arms-data watch p) (arms-data watch p)
tree-alike t limit id (req.GetData p watch) h = about-alike (armed_data watch p) (λ w. w) _ _ (arms-data watch p) arms-none
tree-alike t limit id (req.GetAcl p) h = about-alike (λ w. w) (λ w. w) _ _ arms-none arms-none
tree-alike t limit id (req.GetChildren p watch) h = listing-alike (armed_children watch p) _ _ (arms-children watch p)
tree-alike t limit id (req.GetChildren2 p watch) h = listing-alike (armed_children watch p) _ _ (arms-children watch p)
tree-alike t limit id (req.Sync p) h = told-alike (λ w. w) _ arms-none
tree-alike t limit id (req.SetWatches since exists datas children) h = absurd (cc)
tree-alike t limit id (req.Check p v) h = checked-alike _
tree-alike t limit id (req.Create p d a f) h = refusal-alike _
tree-alike t limit id (req.Delete p v) h = refusal-alike _
tree-alike t limit id (req.SetData p d v) h = refusal-alike _
tree-alike t limit id (req.Multi parts) h = several-alike _
tree-alike t limit id req.Ping h = no-alike
tree-alike t limit id (req.Auth kind scheme auth) h = no-alike
tree-alike t limit id req.Close h = no-alike
tree-alike t limit id (req.Create2 p d a f) h = refusal-alike _
tree-alike t limit id (req.CheckWatches p k) h = no-alike
tree-alike t limit id (req.RemoveWatches p k) h = no-alike
