-- Each reply to a read is the one by the tree.
use Rattle.std.proofs.Common.{◌≡◌, ℕ, ℤ, Bool, true, false, ◌&&◌, [], Option, Some, None, refl, sym, ap, ◌∙◌, subst}
use Rattle.std.specs.Prelude.{option_map, List, pos, not, is_some, if◌then◌else◌}
use Rattle.std.specs.FinMap.{get}
use Rattle.zk_model.specs.declared.node.Node.{Node}
use Rattle.zk_model.specs.declared.node.Stat.{Stat}
use Rattle.zk_model.specs.declared.reply.Body.{Body}
use Rattle.zk_model.specs.declared.reply.Body.TheVariants as body
use Rattle.zk_model.specs.declared.reply.Reply.{Reply}
use Rattle.zk_model.specs.declared.reply.Reply.TheVariants as reply
use Rattle.zk_model.specs.declared.request.Request.{Request}
use Rattle.zk_model.specs.declared.request.Request.TheVariants as req
use Rattle.zk_model.specs.declared.request.Part.TheVariants as part
use Rattle.zk_model.specs.Codes.{bad_version, system_error}
use Rattle.zk_model.specs.Paths.{is_path}
use Rattle.zk_model.specs.declared.reply.PartResult.TheVariants as result
use Rattle.zk_model.specs.Single.{Refused, Done, matches, path_refusal, form_refusal, single, effect, unless_refused, check}
use Rattle.zk_model.specs.Watches.{Watches, no_watches}
use Rattle.zk_model.specs.Znodes.{Tree, stat_of, children, child_names}
use Rattle.zk_service.specs.Answers.{Told, told, about, listing, checked, armed_data, armed_children, fits_reply, tree_reply}
use Rattle.zx_base.specs.Maps.{Bytes}
use Rattle.zn_view.specs.declared.plan.Arm.{Arm}
use Rattle.zn_view.specs.declared.plan.Decision.TheVariants.{Answered}
use Rattle.zn_view.specs.Views.{IsByTree, armed_by, rearms}
use Rattle.zn_reads.specs.Replies.{exists_reply, data_reply, acl_reply, fitting, names_reply, names_stat_reply, check_reply, is_good, watch_if}

arms_nothing : (b : Bool) (arm : Option Arm) → b ≡ false → b ≡ true → arm ≡ None
arms_nothing true arm e h = absurd (cc)
arms_nothing false arm e h = absurd (cc)

-- a reply with what it arms, where the tree tells that
by_told : (r : Request) → rearms r ≡ false → (x : Option Told) (w : Watches) (answer : Reply) (arm : Option Arm) → x ≡ told w answer → w ≡ armed_by arm no_watches → IsByTree r (Answered answer arm) x
by_told r plain x w answer arm is armed = subst (λ (o : Option Told). IsByTree r (Answered answer arm) o) (sym is) (arm, refl, λ _. armed, arms_nothing (rearms r) arm plain)

-- ---- what is armed

data_armed : (is_asked : Bool) (p : Bytes) → armed_data is_asked p no_watches ≡ armed_by (watch_if is_asked false p) no_watches
data_armed true p = refl
data_armed false p = refl

children_armed : (is_asked : Bool) (p : Bytes) → armed_children is_asked p no_watches ≡ armed_by (watch_if is_asked true p) no_watches
children_armed true p = refl
children_armed false p = refl

-- ---- exists

exists_told : (t : Tree) (p : Bytes) (w : Watches) (o : Option Node) → about w w o (λ n. body.Stat (stat_of t p n)) ≡ told w (exists_reply (option_map (stat_of t p) o))
exists_told t p w None = refl
exists_told t p w (Some n) = refl

pub exists-decided : (t : Tree) (limit : ℕ) (session : ℤ) (p : Bytes) (watch : Bool) (st : Option Stat) (answer : Reply) (arm : Option Arm) → option_map (stat_of t p) (get t p) ≡ st → answer ≡ exists_reply st → arm ≡ watch_if watch false p → IsByTree (req.Exists p watch) (Answered answer arm) (tree_reply t limit session no_watches (req.Exists p watch))
unfolding tree_reply
exists-decided t limit session p watch st answer arm found is armed =
    by_told (req.Exists p watch) refl _ (armed_data watch p no_watches) answer arm
    (exists_told t p (armed_data watch p no_watches) (get t p) ∙ ap (told (armed_data watch p no_watches)) (ap exists_reply found ∙ sym is))
    (data_armed watch p ∙ ap (λ a. armed_by a no_watches) (sym armed))

-- ---- getData and getACL

data_told : (t : Tree) (p content : Bytes) (watch : Bool) (o : Option Node) → ((n : Node) → o ≡ Some n → content ≡ n.content) →
    about (armed_data watch p no_watches) no_watches o (λ n. body.Content n.content (stat_of t p n)) ≡ told (armed_by (watch_if (is_good (data_reply content (option_map (stat_of t p) o)) && watch) false p) no_watches) (data_reply content (option_map (stat_of t p) o))
data_told t p content watch None is = refl
data_told t p content watch (Some n) is = λ i. told (data_armed watch p i) (reply.Good (body.Content (sym (is n refl) i) (stat_of t p n)))

pub get_data-decided : (t : Tree) (limit : ℕ) (session : ℤ) (p content : Bytes) (watch : Bool) (st : Option Stat) (answer : Reply) (arm : Option Arm) → option_map (stat_of t p) (get t p) ≡ st → ((n : Node) → get t p ≡ Some n → content ≡ n.content) → answer ≡ data_reply content st → arm ≡ watch_if (is_good answer && watch) false p → IsByTree (req.GetData p watch) (Answered answer arm) (tree_reply t limit session no_watches (req.GetData p watch))
unfolding tree_reply
get_data-decided t limit session p content watch st answer arm found content_is is armed =
    let reply_is : answer ≡ data_reply content (option_map (stat_of t p) (get t p)) = is ∙ ap (data_reply content) (sym found) in
    by_told (req.GetData p watch) refl _ (armed_by arm no_watches) answer arm
    (data_told t p content watch (get t p) content_is ∙ (λ i. told (armed_by ((ap (λ r. watch_if (is_good r && watch) false p) (sym reply_is) ∙ sym armed) i) no_watches) (sym reply_is i)))
    refl

acl_told : (t : Tree) (p : Bytes) (o : Option Node) → about no_watches no_watches o (λ n. body.OpenAcl (stat_of t p n)) ≡ told no_watches (acl_reply (option_map (stat_of t p) o))
acl_told t p None = refl
acl_told t p (Some n) = refl

pub get_acl-decided : (t : Tree) (limit : ℕ) (session : ℤ) (p : Bytes) (st : Option Stat) (answer : Reply) → option_map (stat_of t p) (get t p) ≡ st → answer ≡ acl_reply st → IsByTree (req.GetAcl p) (Answered answer None) (tree_reply t limit session no_watches (req.GetAcl p))
unfolding tree_reply
get_acl-decided t limit session p st answer found is =
    by_told (req.GetAcl p) refl _ no_watches answer None (acl_told t p (get t p) ∙ ap (told no_watches) (ap acl_reply found ∙ sym is)) refl

-- ---- getChildren

-- a listing that fits is told with its watch, and another refused without
fitting_told : (p : Bytes) (watch : Bool) (b : Body) →
    (if fits_reply b then told (armed_children watch p no_watches) (reply.Good b) else told no_watches (reply.Refused system_error)) ≡ told (armed_by (watch_if (is_good (fitting b) && watch) true p) no_watches) (fitting b)
fitting_told p watch b = elim (fits_reply b) as (λ f. (if f then told (armed_children watch p no_watches) (reply.Good b) else told no_watches (reply.Refused system_error)) ≡ told (armed_by (watch_if (is_good (if f then reply.Good b else reply.Refused system_error) && watch) true p) no_watches) (if f then reply.Good b else reply.Refused system_error)) [
  | true ↦ ap (λ w. told w (reply.Good b)) (children_armed watch p)
  | false ↦ refl
]

names_told : (t : Tree) (p : Bytes) (watch : Bool) (names : List Bytes) (o : Option Node) → ((n : Node) → o ≡ Some n → names ≡ child_names t p) →
    listing (armed_children watch p no_watches) no_watches o (λ n. body.Names (child_names t p)) ≡ told (armed_by (watch_if (is_good (names_reply names (is_some o)) && watch) true p) no_watches) (names_reply names (is_some o))
names_told t p watch names None is = refl
names_told t p watch names (Some n) is =
    fitting_told p watch (body.Names (child_names t p)) ∙ ap (λ (ns : List Bytes). told (armed_by (watch_if (is_good (fitting (body.Names ns)) && watch) true p) no_watches) (fitting (body.Names ns))) (sym (is n refl))

pub get_children-decided : (t : Tree) (limit : ℕ) (session : ℤ) (p : Bytes) (watch is_there : Bool) (names : List Bytes) (answer : Reply) (arm : Option Arm) → is_some (get t p) ≡ is_there → ((n : Node) → get t p ≡ Some n → names ≡ child_names t p) → answer ≡ names_reply names is_there → arm ≡ watch_if (is_good answer && watch) true p → IsByTree (req.GetChildren p watch) (Answered answer arm) (tree_reply t limit session no_watches (req.GetChildren p watch))
unfolding tree_reply
get_children-decided t limit session p watch is_there names answer arm found names_are is armed =
    let reply_is : answer ≡ names_reply names (is_some (get t p)) = is ∙ ap (names_reply names) (sym found) in
    by_told (req.GetChildren p watch) refl _ (armed_by arm no_watches) answer arm
    (names_told t p watch names (get t p) names_are ∙ (λ i. told (armed_by ((ap (λ r. watch_if (is_good r && watch) true p) (sym reply_is) ∙ sym armed) i) no_watches) (sym reply_is i)))
    refl

names_stat_told : (t : Tree) (p : Bytes) (watch : Bool) (names : List Bytes) (o : Option Node) → ((n : Node) → o ≡ Some n → names ≡ child_names t p) →
    listing (armed_children watch p no_watches) no_watches o (λ n. body.NamesStat (child_names t p) (stat_of t p n)) ≡ told (armed_by (watch_if (is_good (names_stat_reply names (option_map (stat_of t p) o)) && watch) true p) no_watches) (names_stat_reply names (option_map (stat_of t p) o))
names_stat_told t p watch names None is = refl
names_stat_told t p watch names (Some n) is =
    fitting_told p watch (body.NamesStat (child_names t p) (stat_of t p n)) ∙ ap (λ (ns : List Bytes). told (armed_by (watch_if (is_good (fitting (body.NamesStat ns (stat_of t p n))) && watch) true p) no_watches) (fitting (body.NamesStat ns (stat_of t p n)))) (sym (is n refl))

pub get_children2-decided : (t : Tree) (limit : ℕ) (session : ℤ) (p : Bytes) (watch : Bool) (names : List Bytes) (st : Option Stat) (answer : Reply) (arm : Option Arm) → option_map (stat_of t p) (get t p) ≡ st → ((n : Node) → get t p ≡ Some n → names ≡ child_names t p) → answer ≡ names_stat_reply names st → arm ≡ watch_if (is_good answer && watch) true p → IsByTree (req.GetChildren2 p watch) (Answered answer arm) (tree_reply t limit session no_watches (req.GetChildren2 p watch))
unfolding tree_reply
get_children2-decided t limit session p watch names st answer arm found names_are is armed =
    let reply_is : answer ≡ names_stat_reply names (option_map (stat_of t p) (get t p)) = is ∙ ap (names_stat_reply names) (sym found) in
    by_told (req.GetChildren2 p watch) refl _ (armed_by arm no_watches) answer arm
    (names_stat_told t p watch names (get t p) names_are ∙ (λ i. told (armed_by ((ap (λ r. watch_if (is_good r && watch) true p) (sym reply_is) ∙ sym armed) i) no_watches) (sym reply_is i)))
    refl

-- ---- check, sync and setWatches

matching_told : (t : Tree) (asked : ℤ) (n : Node) → checked no_watches (check t asked (Some n)) ≡ told no_watches (check_reply asked (Some n.version))
matching_told t asked n = elim (matches asked n.version) as (λ b. checked no_watches (if not b then Refused bad_version else Done result.Checked t []) ≡ told no_watches (if b then reply.Good body.Empty else reply.Refused bad_version)) [ true ↦ refl | false ↦ refl ]

check_told : (t : Tree) (asked : ℤ) (o : Option Node) → checked no_watches (check t asked o) ≡ told no_watches (check_reply asked (option_map (λ n. n.version) o))
check_told t asked None = refl
check_told t asked (Some n) = matching_told t asked n

single_check : (t : Tree) (limit : ℕ) (session : ℤ) (p : Bytes) (asked : ℤ) → is_path p ≡ true → single t limit session (part.Check p asked) (pos 0) 0 ≡ check t asked (get t p)
unfolding single effect form_refusal
single_check t limit session p asked valid = ap (λ b. unless_refused (path_refusal b) (check t asked (get t p))) valid

pub check-decided : (t : Tree) (limit : ℕ) (session : ℤ) (p : Bytes) (asked : ℤ) (version : Option ℤ) (answer : Reply) → is_path p ≡ true → option_map (λ (n : Node). n.version) (get t p) ≡ version → answer ≡ check_reply asked version → IsByTree (req.Check p asked) (Answered answer None) (tree_reply t limit session no_watches (req.Check p asked))
unfolding tree_reply
check-decided t limit session p asked version answer valid found is =
    by_told (req.Check p asked) refl _ no_watches answer None (ap (checked no_watches) (single_check t limit session p asked valid) ∙ check_told t asked (get t p) ∙ ap (told no_watches) (ap (check_reply asked) found ∙ sym is)) refl

pub sync-decided : (t : Tree) (limit : ℕ) (session : ℤ) (p : Bytes) → IsByTree (req.Sync p) (Answered (reply.Good (body.Path p)) None) (tree_reply t limit session no_watches (req.Sync p))
unfolding tree_reply
sync-decided t limit session p = (None, refl, λ _. refl, λ _. refl)

pub set_watches-decided : (t : Tree) (limit : ℕ) (session since : ℤ) (exists datas children : List Bytes) → IsByTree (req.SetWatches since exists datas children) (Answered (reply.Good body.Empty) None) (tree_reply t limit session no_watches (req.SetWatches since exists datas children))
unfolding tree_reply
set_watches-decided t limit session since exists datas children = (None, refl, λ e. absurd (cc), λ _. refl)

-- a node is there where it has a version
pub version-there : (n : Option Node) (version : Option ℤ) (is_there : Bool) → option_map (λ (x : Node). x.version) n ≡ version → is_there ≡ is_some version → is_some n ≡ is_there
version-there None version is_there e h = sym (h ∙ ap is_some (sym e))
version-there (Some n) version is_there e h = sym (h ∙ ap is_some (sym e))
