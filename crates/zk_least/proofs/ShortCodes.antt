-- The codes -112 and -118 come from the session test alone: neither the tree's answers nor those without it have one.
use Rattle.std.proofs.Common.{◌≡◌, ℕ, List, refl, arith, Bool, true, false, ℤ, pos, negsuc}
use Rattle.std.specs.Prelude.{Option, Some, None, ◌≤ℤ◌, ◌&&◌, not, if◌then◌else◌, int_le}
use Rattle.std.specs.Ordering.{int_eq}
use Rattle.std.specs.FinMap.{get}
use Rattle.std.proofs.lemmas.Bool.{and_parts}
use Rattle.std.proofs.lemmas.Bool.Decides.{nat_tests}
use Rattle.std.proofs.lemmas.Int.{ints}
use Rattle.zx_base.specs.Maps.{Bytes}
use Rattle.zk_model.specs.declared.node.Node.{Node}
use Rattle.zk_model.specs.declared.reply.Body.{Body}
use Rattle.zk_model.specs.declared.reply.Body.TheVariants as body
use Rattle.zk_model.specs.declared.request.Part.{Part}
use Rattle.zk_model.specs.declared.request.Part.TheVariants as part
use Rattle.zk_model.specs.declared.reply.Reply.{Reply}
use Rattle.zk_model.specs.declared.reply.Reply.TheVariants as reply
use Rattle.zk_model.specs.declared.request.Request.{Request}
use Rattle.zk_model.specs.declared.request.Request.TheVariants as req
use Rattle.zk_model.specs.Codes.{no_children_for_ephemerals, system_error}
use Rattle.zk_model.specs.Paths.{parent}
use Rattle.zk_model.specs.Znodes.{Tree, stat_of, child_names}
use Rattle.zk_model.specs.Single.{Outcome, Refused, Done, single, form_refusal, effect, unless_refused, create_at, create_under, create_node, made_path, named, is_full, delete, set_data, check}
use Rattle.zk_model.specs.Multi.{Parts, Stopped, Passed, several, settled, parts_of}
use Rattle.zk_model.specs.Watches.{Watches, is_watched, unwatched}
use Rattle.zk_jute.specs.Requests.{Frame, NoHeader, Unreadable, Unknown, Asks}
use Rattle.zk_service.specs.Answers.{Told, about, listing, refusal_of, checked, refusal_of_several, armed_data, armed_children, tree_reply, plain_request, plain_reply, told_refusal, told_of_path, told_of_watcher, has_valid_form}

-- a code that is no session's, in a short range
abbrev pub is_fine : ℤ → Bool
is_fine code = int_le (negsuc 200) code && int_le code (pos 0) && not (int_eq code (negsuc 111)) && not (int_eq code (negsuc 117))

abbrev pub code_of : Reply → ℤ
code_of (reply.Refused code) = code
code_of (reply.Good b) = pos 0

abbrev fine_option : Option ℤ → Bool
fine_option None = true
fine_option (Some code) = is_fine code

abbrev fine_outcome : Outcome → Bool
fine_outcome (Refused code) = is_fine code
fine_outcome (Done r t g) = true

abbrev pub fine_told : Option Told → Bool
fine_told None = true
fine_told (Some t) = is_fine (code_of t.reply)

abbrev pub IsShortCode : ℤ → Type 0
IsShortCode z = (negsuc 200 ≤ℤ z) × (z ≤ℤ pos 0)

pub fine-short : (z : ℤ) → is_fine z ≡ true → IsShortCode z
fine-short z h =
    let a = and_parts (int_le (negsuc 200) z && int_le z (pos 0) && not (int_eq z (negsuc 111))) (not (int_eq z (negsuc 117))) h in
    let b = and_parts (int_le (negsuc 200) z && int_le z (pos 0)) (not (int_eq z (negsuc 111))) a.0 in
    let d = and_parts (int_le (negsuc 200) z) (int_le z (pos 0)) b.0 in
    let e = d.0 in
    let f = d.1 in
    (grind (arith, nat_tests, ints), grind (arith, nat_tests, ints))

-- ---- one request

fine-if : (b : Bool) (o p : Outcome) → fine_outcome o ≡ true → fine_outcome p ≡ true → fine_outcome (if b then o else p) ≡ true
fine-if true o p f g = f
fine-if false o p f g = g

form-fine : (p : Part) → fine_option (form_refusal p) ≡ true
unfolding form_refusal
form-fine (part.Create p d a f) = grind arith
form-fine (part.Delete p v) = grind arith
form-fine (part.SetData p d v) = grind arith
form-fine (part.Check p v) = grind arith

node-fine : (t : Tree) (limit : ℕ) (session flags : ℤ) (content : Bytes) (zxid : ℤ) (now : ℕ) (q : Bytes) (up : Node) (p : Bytes) (o : Option Node) → fine_outcome (create_node t limit session flags content zxid now q up p o) ≡ true
node-fine t limit session flags content zxid now q up p (Some old) = refl
node-fine t limit session flags content zxid now q up p None =
    fine-if (not (int_eq up.owner (pos 0))) (Refused no_children_for_ephemerals) _ refl (fine-if (is_full t limit session flags up) (Refused system_error) _ refl refl)

under-fine : (t : Tree) (limit : ℕ) (session flags : ℤ) (content : Bytes) (zxid : ℤ) (now : ℕ) (path q : Bytes) (o : Option Node) → fine_outcome (create_under t limit session flags content zxid now path q o) ≡ true
under-fine t limit session flags content zxid now path q None = refl
under-fine t limit session flags content zxid now path q (Some up) = node-fine t limit session flags content zxid now q up (made_path flags path up) (get t (made_path flags path up))

at-fine : (t : Tree) (limit : ℕ) (session flags : ℤ) (content : Bytes) (zxid : ℤ) (now : ℕ) (path : Bytes) (o : Option Bytes) → fine_outcome (create_at t limit session flags content zxid now path o) ≡ true
at-fine t limit session flags content zxid now path None = refl
at-fine t limit session flags content zxid now path (Some q) = under-fine t limit session flags content zxid now path q (get t q)

delete-fine : (t : Tree) (p : Bytes) (v zxid : ℤ) (o : Option Node) → fine_outcome (delete t p v zxid o) ≡ true
delete-fine t p v zxid None = refl
delete-fine t p v zxid (Some n) = grind arith

set-fine : (t : Tree) (p content : Bytes) (v zxid : ℤ) (now : ℕ) (o : Option Node) → fine_outcome (set_data t p content v zxid now o) ≡ true
set-fine t p content v zxid now None = refl
set-fine t p content v zxid now (Some n) = grind arith

check-fine : (t : Tree) (v : ℤ) (o : Option Node) → fine_outcome (check t v o) ≡ true
check-fine t v None = refl
check-fine t v (Some n) = grind arith

effect-fine : (t : Tree) (limit : ℕ) (session : ℤ) (p : Part) (zxid : ℤ) (now : ℕ) → fine_outcome (effect t limit session p zxid now) ≡ true
unfolding effect
effect-fine t limit session (part.Create p d a f) zxid now = at-fine t limit session f d zxid now p (parent (named f p))
effect-fine t limit session (part.Delete p v) zxid now = delete-fine t p v zxid (get t p)
effect-fine t limit session (part.SetData p d v) zxid now = set-fine t p d v zxid now (get t p)
effect-fine t limit session (part.Check p v) zxid now = check-fine t v (get t p)

unless-fine : (o : Option ℤ) (p : Outcome) → fine_option o ≡ true → fine_outcome p ≡ true → fine_outcome (unless_refused o p) ≡ true
unless-fine (Some c) p f g = f
unless-fine None p f g = g

single-fine : (t : Tree) (limit : ℕ) (session : ℤ) (p : Part) (zxid : ℤ) (now : ℕ) → fine_outcome (single t limit session p zxid now) ≡ true
unfolding single
single-fine t limit session p zxid now = unless-fine (form_refusal p) (effect t limit session p zxid now) (form-fine p) (effect-fine t limit session p zxid now)

-- ---- the tree's answers

refusal-fine : (w : Watches) (o : Outcome) → fine_outcome o ≡ true → fine_told (refusal_of w o) ≡ true
refusal-fine w (Refused code) h = h
refusal-fine w (Done r t g) h = refl

checked-fine : (w : Watches) (o : Outcome) → fine_outcome o ≡ true → fine_told (checked w o) ≡ true
checked-fine w (Refused code) h = h
checked-fine w (Done r t g) h = refl

settled-fine : (w : Watches) (t : Tree) (parts : List Part) (o : Parts) → fine_told (refusal_of_several w (settled t parts o)) ≡ true
settled-fine w t parts (Stopped place code) = refl
settled-fine w t parts (Passed rs u gs ss) = grind arith

several-fine : (w : Watches) (t : Tree) (limit : ℕ) (session : ℤ) (parts : List Part) (zxid : ℤ) (now : ℕ) → fine_told (refusal_of_several w (several t limit session parts zxid now)) ≡ true
unfolding several
several-fine w t limit session parts zxid now = settled-fine w t parts (parts_of t limit session parts zxid now)

about-fine : (a w : Watches) (o : Option Node) (f : Node → Body) → fine_told (about a w o f) ≡ true
about-fine a w None f = refl
about-fine a w (Some n) f = refl

listing-fine : (a w : Watches) (o : Option Node) (f : Node → Body) → fine_told (listing a w o f) ≡ true
listing-fine a w None f = refl
listing-fine a w (Some n) f = grind arith

pub tree-fine : (t : Tree) (limit : ℕ) (session : ℤ) (w : Watches) (r : Request) → fine_told (tree_reply t limit session w r) ≡ true
unfolding tree_reply
tree-fine t limit session w (req.Exists p watch) = about-fine (armed_data watch p w) (armed_data watch p w) (get t p) (λ n. body.Stat (stat_of t p n))
tree-fine t limit session w (req.GetData p watch) = about-fine (armed_data watch p w) w (get t p) (λ n. body.Content n.content (stat_of t p n))
tree-fine t limit session w (req.GetAcl p) = about-fine w w (get t p) (λ n. body.OpenAcl (stat_of t p n))
tree-fine t limit session w (req.GetChildren p watch) = listing-fine (armed_children watch p w) w (get t p) (λ n. body.Names (child_names t p))
tree-fine t limit session w (req.GetChildren2 p watch) = listing-fine (armed_children watch p w) w (get t p) (λ n. body.NamesStat (child_names t p) (stat_of t p n))
tree-fine t limit session w (req.Sync p) = refl
tree-fine t limit session w (req.SetWatches since e d c) = refl
tree-fine t limit session w (req.Check p v) = checked-fine w (single t limit session (part.Check p v) (pos 0) 0) (single-fine t limit session (part.Check p v) (pos 0) 0)
tree-fine t limit session w (req.Create p d a f) = refusal-fine w (single t limit session (part.Create p d a f) (pos 0) 0) (single-fine t limit session (part.Create p d a f) (pos 0) 0)
tree-fine t limit session w (req.Delete p v) = refusal-fine w (single t limit session (part.Delete p v) (pos 0) 0) (single-fine t limit session (part.Delete p v) (pos 0) 0)
tree-fine t limit session w (req.SetData p d v) = refusal-fine w (single t limit session (part.SetData p d v) (pos 0) 0) (single-fine t limit session (part.SetData p d v) (pos 0) 0)
tree-fine t limit session w (req.Multi parts) = several-fine w t limit session parts (pos 0) 0
tree-fine t limit session w req.Ping = refl
tree-fine t limit session w (req.Auth k s a) = refl
tree-fine t limit session w req.Close = refl
tree-fine t limit session w (req.Create2 p d a f) = refusal-fine w (single t limit session (part.Create p d a f) (pos 0) 0) (single-fine t limit session (part.Create p d a f) (pos 0) 0)
tree-fine t limit session w (req.CheckWatches p k) = refl
tree-fine t limit session w (req.RemoveWatches p k) = refl

-- ---- the answers without the tree

refused-fine : (w : Watches) (o : Option ℤ) → fine_option o ≡ true → fine_told (told_refusal w o) ≡ true
refused-fine w None h = refl
refused-fine w (Some c) h = h

path-fine : (w : Watches) (p : Bytes) → fine_told (told_of_path w p) ≡ true
path-fine w p = grind arith

watcher-fine : (w rest : Watches) (valid hit : Bool) → fine_told (Some (told_of_watcher w rest valid hit)) ≡ true
watcher-fine w rest false hit = refl
watcher-fine w rest true false = refl
watcher-fine w rest true true = refl

request-fine : (w : Watches) (r : Request) → fine_told (plain_request w r) ≡ true
unfolding plain_request
request-fine w req.Ping = refl
request-fine w (req.Auth k s a) = grind arith
request-fine w (req.Multi parts) = grind arith
request-fine w (req.Create p d a f) = refused-fine w (form_refusal (part.Create p d a f)) (form-fine (part.Create p d a f))
request-fine w (req.Delete p v) = refused-fine w (form_refusal (part.Delete p v)) (form-fine (part.Delete p v))
request-fine w (req.SetData p d v) = refused-fine w (form_refusal (part.SetData p d v)) (form-fine (part.SetData p d v))
request-fine w (req.Check p v) = refused-fine w (form_refusal (part.Check p v)) (form-fine (part.Check p v))
request-fine w (req.Exists p b) = path-fine w p
request-fine w (req.GetData p b) = path-fine w p
request-fine w (req.GetAcl p) = path-fine w p
request-fine w (req.GetChildren p b) = path-fine w p
request-fine w (req.GetChildren2 p b) = path-fine w p
request-fine w (req.Sync p) = path-fine w p
request-fine w (req.SetWatches r e d c) = refl
request-fine w req.Close = refl
request-fine w (req.Create2 p d a f) = refused-fine w (form_refusal (part.Create p d a f)) (form-fine (part.Create p d a f))
request-fine w (req.CheckWatches p k) = watcher-fine w w (has_valid_form p k) (is_watched w p k)
request-fine w (req.RemoveWatches p k) = watcher-fine w (unwatched w p k) (has_valid_form p k) (is_watched w p k)

pub plain-fine : (w : Watches) (x : Frame) → fine_told (plain_reply w x) ≡ true
plain-fine w NoHeader = refl
plain-fine w (Unreadable xid place) = refl
plain-fine w (Unknown xid kind) = refl
plain-fine w (Asks xid r) = request-fine w r
