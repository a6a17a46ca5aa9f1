-- An answer of the tree to a request that is no setWatches: what is armed has no part in it, and it arms at most one path.
use Rattle.std.proofs.Common.{◌≡◌, ℕ, ℤ, pos, Bool, true, false, Option, Some, None, refl, ap}
use Rattle.std.specs.Prelude.{option_map, if◌then◌else◌}
use Rattle.std.specs.FinMap.{get}
use Rattle.zx_base.specs.Maps.{Bytes}
use Rattle.zk_model.specs.declared.node.Node.{Node}
use Rattle.zk_model.specs.declared.reply.Body.{Body}
use Rattle.zk_model.specs.declared.reply.Body.TheVariants as body
use Rattle.zk_model.specs.declared.reply.Reply.TheVariants as reply
use Rattle.zk_model.specs.declared.request.Part.TheVariants as part
use Rattle.zk_model.specs.declared.request.Request.{Request}
use Rattle.zk_model.specs.declared.request.Request.TheVariants as req
use Rattle.zk_model.specs.Codes.{system_error}
use Rattle.zk_model.specs.Multi.{Several, Denied, Codes, All as AllDone, several}
use Rattle.zk_model.specs.Single.{Outcome, Refused, Done, single}
use Rattle.zk_model.specs.Watches.{Watches, no_watches}
use Rattle.zk_model.specs.Znodes.{Tree, child_names, stat_of}
use Rattle.zk_service.specs.Answers.{about, armed_children, armed_data, checked, fits_reply, listing, only, refusal_of, refusal_of_several, told, tree_reply}
use Rattle.zk_judge.specs.Arming.{armed_by, is_set_watches, with_armed}

exists-arms : (w : Watches) (p : Bytes) (b : Bool) (o : Option Node) (f : Node → Body)
    → option_map (with_armed (req.Exists p b) w) (about (armed_data b p no_watches) (armed_data b p no_watches) o f) ≡ about (armed_data b p w) (armed_data b p w) o f
exists-arms w p b None f = refl
exists-arms w p b (Some n) f = refl

data-arms : (w : Watches) (p : Bytes) (b : Bool) (o : Option Node) (f : Node → Body) → option_map (with_armed (req.GetData p b) w) (about (armed_data b p no_watches) no_watches o f) ≡ about (armed_data b p w) w o f
data-arms w p b None f = refl
data-arms w p b (Some n) f = refl

acl-arms : (w : Watches) (p : Bytes) (o : Option Node) (f : Node → Body) → option_map (with_armed (req.GetAcl p) w) (about no_watches no_watches o f) ≡ about w w o f
acl-arms w p None f = refl
acl-arms w p (Some n) f = refl

names-arms : (w : Watches) (p : Bytes) (b : Bool) (o : Option Node) (f : Node → Body) → option_map (with_armed (req.GetChildren p b) w) (listing (armed_children b p no_watches) no_watches o f) ≡ listing (armed_children b p w) w o f
names-arms w p b None f = refl
names-arms w p b (Some n) f = by (fits_reply (f n))
  where
    by : (x : Bool)
        → option_map (with_armed (req.GetChildren p b) w) (if x then told (armed_children b p no_watches) (reply.Good (f n)) else told no_watches (reply.Refused system_error))
        ≡ (if x then told (armed_children b p w) (reply.Good (f n)) else told w (reply.Refused system_error))
    by true = refl
    by false = refl

names-stat-arms : (w : Watches) (p : Bytes) (b : Bool) (o : Option Node) (f : Node → Body) → option_map (with_armed (req.GetChildren2 p b) w) (listing (armed_children b p no_watches) no_watches o f) ≡ listing (armed_children b p w) w o f
names-stat-arms w p b None f = refl
names-stat-arms w p b (Some n) f = by (fits_reply (f n))
  where
    by : (x : Bool)
        → option_map (with_armed (req.GetChildren2 p b) w) (if x then told (armed_children b p no_watches) (reply.Good (f n)) else told no_watches (reply.Refused system_error))
        ≡ (if x then told (armed_children b p w) (reply.Good (f n)) else told w (reply.Refused system_error))
    by true = refl
    by false = refl

check-arms : (w : Watches) (p : Bytes) (v : ℤ) (o : Outcome) → option_map (with_armed (req.Check p v) w) (checked no_watches o) ≡ checked w o
check-arms w p v (Refused code) = refl
check-arms w p v (Done r t g) = refl

refusal-arms : (w : Watches) (r : Request) (o : Outcome) → ((good : Bool) → armed_by r good w ≡ w) → option_map (with_armed r w) (refusal_of no_watches o) ≡ refusal_of w o
refusal-arms w r (Refused code) none = ap (λ (v : Watches). Some (only v (reply.Refused code))) (none false)
refusal-arms w r (Done s t g) none = refl

several-arms : (w : Watches) (r : Request) (o : Several) → ((good : Bool) → armed_by r good w ≡ w) → option_map (with_armed r w) (refusal_of_several no_watches o) ≡ refusal_of_several w o
several-arms w r (Denied code) none = ap (λ (v : Watches). Some (only v (reply.Refused code))) (none false)
several-arms w r (Codes row) none = ap (λ (v : Watches). Some (only v (reply.Good (body.Parts row)))) (none true)
several-arms w r (AllDone rs t g) none = refl

pub tree-arms : (t : Tree) (limit : ℕ) (id : ℤ) (w : Watches) (r : Request) → is_set_watches r ≡ false → option_map (with_armed r w) (tree_reply t limit id no_watches r) ≡ tree_reply t limit id w r
unfolding tree_reply
tree-arms t limit id w (req.Exists p b) other = exists-arms w p b (get t p) (λ n. body.Stat (stat_of t p n))
tree-arms t limit id w (req.GetData p b) other = data-arms w p b (get t p) (λ n. body.Content n.content (stat_of t p n))
tree-arms t limit id w (req.GetAcl p) other = acl-arms w p (get t p) (λ n. body.OpenAcl (stat_of t p n))
tree-arms t limit id w (req.GetChildren p b) other = names-arms w p b (get t p) (λ n. body.Names (child_names t p))
tree-arms t limit id w (req.GetChildren2 p b) other = names-stat-arms w p b (get t p) (λ n. body.NamesStat (child_names t p) (stat_of t p n))
tree-arms t limit id w (req.Sync p) other = refl
tree-arms t limit id w (req.SetWatches since exists datas children) other = absurd (cc)
tree-arms t limit id w (req.Check p v) other = check-arms w p v (single t limit id (part.Check p v) (pos 0) 0)
tree-arms t limit id w (req.Create p d a f) other = refusal-arms w (req.Create p d a f) (single t limit id (part.Create p d a f) (pos 0) 0) (λ g. refl)
tree-arms t limit id w (req.Delete p v) other = refusal-arms w (req.Delete p v) (single t limit id (part.Delete p v) (pos 0) 0) (λ g. refl)
tree-arms t limit id w (req.SetData p d v) other = refusal-arms w (req.SetData p d v) (single t limit id (part.SetData p d v) (pos 0) 0) (λ g. refl)
tree-arms t limit id w (req.Multi parts) other = several-arms w (req.Multi parts) (several t limit id parts (pos 0) 0) (λ g. refl)
tree-arms t limit id w req.Ping other = refl
tree-arms t limit id w (req.Auth kind scheme auth) other = refl
tree-arms t limit id w req.Close other = refl
tree-arms t limit id w (req.Create2 p d a f) other = refusal-arms w (req.Create2 p d a f) (single t limit id (part.Create p d a f) (pos 0) 0) (λ g. refl)
tree-arms t limit id w (req.CheckWatches p k) other = refl
tree-arms t limit id w (req.RemoveWatches p k) other = refl
