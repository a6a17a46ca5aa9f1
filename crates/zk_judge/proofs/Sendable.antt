-- What a client is told in a run can be sent: the lengths of replies and notices fit their int.
use Rattle.std.proofs.Common.{◌≡◌, ℕ, ℤ, pos, ◌+◌, ◌*◌, ◌^◌, ◌<◌, ◌≤◌, Bool, true, false, not, List, [], ◌∷◌, ◌++◌, length, Option, Some, None, refl, ap, arith}
use Rattle.std.specs.Prelude.{⊤, bytes_eq, codes, flat_map, if◌then◌else◌, int_lt, nat_lt, nat_le}
use Rattle.std.specs.List.{All, AllByRecursion}
use Rattle.std.proofs.lemmas.Bool.{leb-true}
use Rattle.std.proofs.lemmas.Bool.Decides.{nat_tests}
use Rattle.std.proofs.lemmas.List.{length-append}
use Rattle.std.proofs.lemmas.List.Elements.{All-from_recursion}
use Rattle.std.specs.FinMap.{get}
use Rattle.zx_base.specs.Maps.{Bytes}
use Rattle.zk_model.specs.Codes.{auth_failed, bad_arguments, marshalling_error, no_node, no_watcher, system_error, unimplemented}
use Rattle.zk_model.specs.Limits.{max_frame, max_parts, max_path}
use Rattle.zk_model.specs.Paths.{is_path}
use Rattle.zk_model.specs.Single.{Outcome, Refused, Done, form_refusal}
use Rattle.zk_model.specs.Multi.{Several, Denied, Codes, All as AllDone}
use Rattle.zk_model.specs.Watches.{Seen, Watches, arm_children, arm_data, fire, fire_all, is_watched, note, see_all, see_children, see_data, see_exist, set_watches, tell, valid_at, trigger_path, unwatched}
use Rattle.zk_model.specs.Znodes.{Tree, child_names, stat_of}
use Rattle.zk_model.specs.declared.node.Node.{Node}
use Rattle.zk_model.specs.declared.node.Stat.{Stat}
use Rattle.zk_model.specs.declared.node.Trigger.{Trigger}
use Rattle.zk_model.specs.declared.node.Trigger.TheVariants.{Created, Deleted, Changed, Children}
use Rattle.zk_model.specs.declared.reply.Body.{Body}
use Rattle.zk_model.specs.declared.reply.Body.TheVariants as body
use Rattle.zk_model.specs.declared.reply.Notice.{Notice}
use Rattle.zk_model.specs.declared.reply.PartResult.{PartResult}
use Rattle.zk_model.specs.declared.reply.PartResult.TheVariants as result
use Rattle.zk_model.specs.declared.reply.Reply.{Reply}
use Rattle.zk_model.specs.declared.reply.Reply.TheVariants as reply
use Rattle.zk_model.specs.declared.request.Part.TheVariants as part
use Rattle.zk_model.specs.declared.request.Request.{Request}
use Rattle.zk_model.specs.declared.request.Request.TheVariants as req
use Rattle.zk_jute.specs.Grammar.{IsAsked}
use Rattle.zk_jute.specs.JuteValues.{Value, int, long, boolean, buffer, ustring, ustrings, acls, open_acl, IsUstring, IsVector, Spelled}
use Rattle.zk_jute.specs.JuteWriting.{canonical, written}
use Rattle.zk_jute.specs.Packets.{CanBeSent, NoticeCanBeSent, notice_values, reply_bytes, reply_values}
use Rattle.zk_jute.specs.Records.{stat_values}
use Rattle.zk_jute.specs.Requests.{Frame, NoHeader, Unreadable, Unknown, Asks}
use Rattle.zk_jute.specs.Results.{last_result, result_values}
use Rattle.zk_jute.proofs.Lengths.{length-boolean_bytes, length-int_bytes, length-long_bytes, length-open_acl, length-string_bytes}
use Rattle.zk_jute.proofs.Lists.{both_of}
use Rattle.zk_jute.proofs.RequestLaws.{found}
use Rattle.zk_service.specs.Answers.{Told, about, checked, fits_reply, listing, has_valid_form, only, plain_reply, plain_request, refusal_of, refusal_of_several, told, told_of_watcher, told_refusal, tree_reply}
use Rattle.zk_transcript.specs.Legal.{is_within_parts}
use Rattle.zk_machine.specs.Faults.{IsWhole}
use Rattle.zk_legal.specs.Short.{AreShort, IsShortBody, IsShortResult}
use Rattle.zk_legal.proofs.ShortPaths.{SeveralGives, several-gives}
use Rattle.zk_judge.specs.Seen.{IsShortFrame}
use Rattle.zk_judge.specs.Sendable.{CanBeTold}

-- ---- the bytes of values

abbrev size : Value → ℕ
size (int n) = 4
size (long n) = 8
size (boolean b) = 1
size (buffer content) = length content + 4
size (ustring text) = length text + 4
size (ustrings texts) = length (canonical (ustrings texts))
size (acls entries) = length (canonical (acls entries))
size open_acl = 27

abbrev sizes : List Value → ℕ
sizes [] = 0
sizes (v ∷ vs) = size v + sizes vs

size-is : (v : Value) → length (canonical v) ≡ size v
size-is (int n) = length-int_bytes n
size-is (long n) = length-long_bytes n
size-is (boolean b) = length-boolean_bytes b
size-is (buffer content) = length-string_bytes content
size-is (ustring text) = length-string_bytes text
size-is (ustrings texts) = refl
size-is (acls entries) = refl
size-is open_acl = length-open_acl

sizes-are : (vs : List Value) → length (written vs) ≡ sizes vs
sizes-are [] = refl
sizes-are (v ∷ vs) = omega (arith, length-append (canonical v) (written vs), size-is v, sizes-are vs)

sizes-append : (vs ws : List Value) → sizes (vs ++ ws) ≡ sizes vs + sizes ws
sizes-append [] ws = omega arith
sizes-append (v ∷ vs) ws = omega (arith, sizes-append vs ws)

stat-size : (s : Stat) → sizes (stat_values s) ≡ 68
unfolding stat_values
stat-size s = refl

-- ---- replies

reply-fits : (r : Reply) → sizes (reply_values (pos 0) (pos 0) r) < 2 ^ 31 → CanBeSent r
reply-fits r fits = omega (arith, sizes-are (reply_values (pos 0) (pos 0) r), fits)

pub refused-fits : (code : ℤ) → CanBeSent (reply.Refused code)
refused-fits code = reply-fits (reply.Refused code) (omega arith)

pub empty-fits : CanBeSent (reply.Good body.Empty)
empty-fits = reply-fits (reply.Good body.Empty) (omega arith)

path-fits : (p : Bytes) → length p ≤ max_frame → CanBeSent (reply.Good (body.Path p))
path-fits p short = reply-fits (reply.Good (body.Path p)) (omega (arith, short))

stat-fits : (s : Stat) → CanBeSent (reply.Good (body.Stat s))
stat-fits s = reply-fits (reply.Good (body.Stat s)) (omega (arith, stat-size s))

content-fits : (content : Bytes) (s : Stat) → length content ≤ max_frame → CanBeSent (reply.Good (body.Content content s))
content-fits content s short = reply-fits (reply.Good (body.Content content s)) (omega (arith, stat-size s, short))

acl-fits : (s : Stat) → CanBeSent (reply.Good (body.OpenAcl s))
acl-fits s = reply-fits (reply.Good (body.OpenAcl s)) (omega (arith, stat-size s))

result-size : (r : PartResult) → IsShortResult r → sizes (result_values r) ≤ 1100
result-size (result.Created p) short = omega (arith, short)
result-size result.Deleted short = omega arith
result-size (result.Set stat) short = omega (arith, stat-size stat)
result-size result.Checked short = omega arith
result-size (result.Code code) short = omega arith

results-size : (rs : List PartResult) → AllByRecursion IsShortResult rs → sizes (flat_map result_values rs) ≤ 1100 * length rs
results-size [] short = omega arith
results-size (r ∷ rs) short = omega (arith, sizes-append (result_values r) (flat_map result_values rs), result-size r short.0, results-size rs short.1)

parts-fit : (rs : List PartResult) → AllByRecursion IsShortResult rs → length rs ≤ max_parts → CanBeSent (reply.Good (body.Parts rs))
parts-fit rs short few =
    reply-fits (reply.Good (body.Parts rs)) (omega (arith, sizes-append (flat_map result_values rs) last_result, results-size rs short, few))

pub body-fits : (b : Body) → IsShortBody b → CanBeSent (reply.Good b)
body-fits body.Empty short = empty-fits
body-fits (body.Path p) short = path-fits p (omega (arith, short))
body-fits (body.Stat s) short = stat-fits s
body-fits (body.Content content s) short = absurd short
body-fits (body.Names names) short = absurd short
body-fits (body.NamesStat names s) short = absurd short
body-fits (body.OpenAcl s) short = absurd short
body-fits (body.Parts rs) short = parts-fit rs short.0 short.1
body-fits (body.PathStat p s) short = reply-fits (reply.Good (body.PathStat p s)) (omega (arith, stat-size s, short))

listed-fits : (b : Body) → fits_reply b ≡ true → CanBeSent (reply.Good b)
listed-fits b fits = by_test (nat_lt 2147483647 (length (reply_bytes (pos 0) (pos 0) (reply.Good b)))) refl fits
  where
    by_test : (t : Bool) → nat_lt 2147483647 (length (reply_bytes (pos 0) (pos 0) (reply.Good b))) ≡ t → not t ≡ true → CanBeSent (reply.Good b)
    by_test true e h = absurd (cc)
    by_test false e h = grind (arith, nat_tests, e)

-- ---- notices

abbrev NoticesFit : List Notice → Type 0
NoticesFit ns = AllByRecursion NoticeCanBeSent ns

notice-fits : (n : Notice) → length n.path ≤ max_frame → NoticeCanBeSent n
notice-fits n short = omega (arith, sizes-are (notice_values n), short)

note-fits : (hit : Bool) (kind : ℕ) (p : Bytes) → length p ≤ max_frame → NoticesFit (note hit kind p)
note-fits true kind p short = (notice-fits (record { kind = pos kind; path = p }) short, tt)
note-fits false kind p short = tt

wide : (p : Bytes) → length p ≤ max_path → length p ≤ max_frame
wide p short = omega (arith, short)

fire-fits : (w : Watches) (t : Trigger) → length (trigger_path t) ≤ max_path → NoticesFit (fire w t).1
fire-fits w (Created p) short = note-fits _ 1 p (wide p short)
fire-fits w (Deleted p) short = note-fits _ 2 p (wide p short)
fire-fits w (Changed p) short = note-fits _ 3 p (wide p short)
fire-fits w (Children p) short = note-fits _ 4 p (wide p short)

fired-fit : (w : Watches) (ts : List Trigger) → AreShort ts → NoticesFit (fire_all w ts).1
unfolding fire_all
fired-fit w [] short = tt
fired-fit w (t ∷ ts) short = both_of NoticeCanBeSent (fire w t).1 (fire_all (fire w t).0 ts).1 (fire-fits w t short.0) (fired-fit (fire w t).0 ts short.1)

pub fired-sent : (w : Watches) (ts : List Trigger) → AreShort ts → All NoticeCanBeSent (fire_all w ts).1
fired-sent w ts short = All-from_recursion NoticeCanBeSent (fire_all w ts).1 (fired-fit w ts short)

-- ---- the texts of a frame

text-within : (text bytes : List ℕ) → IsUstring text bytes → length text ≤ length bytes
text-within text bytes is = omega (arith, ap length is.3, length-append is.0 text)

texts-within : (n : ℕ) (texts : List (List ℕ)) (bytes : List ℕ) → length bytes ≤ n → Spelled IsUstring texts bytes → AllByRecursion (λ text. length text ≤ n) texts
texts-within n [] bytes le is = tt
texts-within n (t ∷ ts) bytes le is =
    let whole = ap length is.4 in
    let parted = length-append is.0 is.1 in
    (omega (arith, text-within t is.0 is.2, whole, parted, le), texts-within n ts is.1 (omega (arith, whole, parted, le)) is.3)

vector-within : (n : ℕ) (texts : List (List ℕ)) (bytes : List ℕ) → length bytes ≤ n → IsVector IsUstring texts bytes → AllByRecursion (λ text. length text ≤ n) texts
vector-within n texts bytes le is = texts-within n texts is.1 (omega (arith, ap length is.4, length-append is.0 is.1, le)) is.3

abbrev AreWithin : List Bytes → Type 0
AreWithin ps = AllByRecursion (λ p. length p ≤ max_frame) ps

module _ (xid : ℤ) (r : Request) (frame : IsShortFrame (Asks xid r)) where
  asked-body : (bytes : List ℕ) × (length bytes ≤ max_frame) × IsAsked r bytes
  asked-body =
      let is = found frame.bytes xid r frame.reads in
      let short = frame.short in
      (is.1, omega (arith, ap length is.4, length-append is.0 is.1, short), is.3)

sync-path : (xid : ℤ) (p : Bytes) → IsShortFrame (Asks xid (req.Sync p)) → length p ≤ max_frame
sync-path xid p frame =
    let b = asked-body xid (req.Sync p) frame in
    let is = b.2 in
    omega (arith, text-within p is.0 is.2, ap length is.4, length-append is.0 is.1, b.1)

module _ (xid relative : ℤ) (exists datas children : List Bytes) (frame : IsShortFrame (Asks xid (req.SetWatches relative exists datas children))) where
  watched-within : AreWithin datas × AreWithin exists × AreWithin children
  watched-within =
      let b = asked-body xid (req.SetWatches relative exists datas children) frame in
      let all = b.2 in
      let rest : length all.1 ≤ max_frame = omega (arith, ap length all.4, length-append all.0 all.1, b.1) in
      let first = all.3 in
      let after_first : length first.1 ≤ max_frame = omega (arith, ap length first.4, length-append first.0 first.1, rest) in
      let second = first.3 in
      let after_second : length second.1 ≤ max_frame = omega (arith, ap length second.4, length-append second.0 second.1, after_first) in
      let third = second.3 in (
        vector-within max_frame datas first.0 (omega (arith, ap length first.4, length-append first.0 first.1, rest)) first.2,
        vector-within max_frame exists second.0 (omega (arith, ap length second.4, length-append second.0 second.1, after_first)) second.2,
        vector-within max_frame children third.0 (omega (arith, ap length third.4, length-append third.0 third.1, after_second)) third.2,
      )

-- ---- setWatches

seen-all : (f : Seen → Bytes → Seen) → ((s : Seen) (p : Bytes) → length p ≤ max_frame → NoticesFit s.notices → NoticesFit (f s p).notices) → (s : Seen) (ps : List Bytes) → AreWithin ps → NoticesFit s.notices
    → NoticesFit (see_all f s ps).notices
seen-all f one s [] short fit = fit
seen-all f one s (p ∷ ps) short fit = seen-all f one (f s p) ps short.1 (one s p short.0 fit)

tell-fits : (s : Seen) (kind : ℕ) (p : Bytes) → length p ≤ max_frame → NoticesFit s.notices → NoticesFit (tell s kind p).notices
tell-fits s kind p short fit = both_of NoticeCanBeSent s.notices (note true kind p) fit (note-fits true kind p short)

told_or : (b : Bool) (s : Seen) (w : Watches) (kind : ℕ) (p : Bytes) → length p ≤ max_frame → NoticesFit s.notices → NoticesFit (if b then tell s kind p else record s { watches = w }).notices
told_or true s w kind p short fit = tell-fits s kind p short fit
told_or false s w kind p short fit = fit

data-fits : (since : ℤ) (s : Seen) (p : Bytes) (o : Option Node) → length p ≤ max_frame → NoticesFit s.notices → NoticesFit (see_data since s p o).notices
data-fits since s p None short fit = tell-fits s 2 p short fit
data-fits since s p (Some n) short fit = told_or (int_lt since n.mzxid) s (arm_data s.watches p) 3 p short fit

exist-fits : (valid : Bool) (s : Seen) (p : Bytes) (o : Option Node) → length p ≤ max_frame → NoticesFit s.notices → NoticesFit (see_exist valid s p o).notices
exist-fits valid s p (Some n) short fit = tell-fits s 1 p short fit
exist-fits true s p None short fit = fit
exist-fits false s p None short fit = fit

children-fits : (since : ℤ) (s : Seen) (p : Bytes) (o : Option Node) → length p ≤ max_frame → NoticesFit s.notices → NoticesFit (see_children since s p o).notices
children-fits since s p None short fit = tell-fits s 2 p short fit
children-fits since s p (Some n) short fit = told_or (int_lt since n.pzxid) s (arm_children s.watches p) 4 p short fit

rearmed-fits : (t : Tree) (since : ℤ) (datas exists children : List Bytes) (w : Watches) → AreWithin datas → AreWithin exists → AreWithin children → NoticesFit (set_watches t since datas exists children w).notices
unfolding set_watches
rearmed-fits t since datas exists children w first second third =
    seen-all (λ s p. see_children since s p (valid_at p t)) (λ s p. children-fits since s p (valid_at p t)) _ children third
    (seen-all (λ s p. see_exist (is_path p) s p (valid_at p t)) (λ s p. exist-fits (is_path p) s p (valid_at p t)) _ exists second
    (seen-all (λ s p. see_data since s p (valid_at p t)) (λ s p. data-fits since s p (valid_at p t)) (record { watches = w; notices = [] }) datas first tt))

-- ---- what is told

abbrev pub IfTold : Option Told → Type 0
IfTold None = ⊤
IfTold (Some t) = CanBeTold t

pub only-fits : (w : Watches) (r : Reply) → CanBeSent r → CanBeTold (only w r)
only-fits w r fits = record { reply = fits; notices = All-from_recursion NoticeCanBeSent [] tt }

refusal-told : (w : Watches) (o : Option ℤ) → IfTold (told_refusal w o)
refusal-told w None = tt
refusal-told w (Some code) = only-fits w (reply.Refused code) (refused-fits code)

unless-told : (w : Watches) (b : Bool) (code : ℤ) → IfTold (if b then None else told w (reply.Refused code))
unless-told w true code = tt
unless-told w false code = only-fits w (reply.Refused code) (refused-fits code)

if-told : (w : Watches) (b : Bool) (code : ℤ) → IfTold (if b then told w (reply.Refused code) else None)
if-told w true code = only-fits w (reply.Refused code) (refused-fits code)
if-told w false code = tt

done-fits : (b : Bool) (code : ℤ) → CanBeSent (if b then reply.Good body.Empty else reply.Refused code)
done-fits true code = empty-fits
done-fits false code = refused-fits code

watcher-told : (w rest : Watches) (valid hit : Bool) → CanBeTold (told_of_watcher w rest valid hit)
watcher-told w rest false hit = only-fits w (reply.Refused bad_arguments) (refused-fits bad_arguments)
watcher-told w rest true false = only-fits w (reply.Refused no_watcher) (refused-fits no_watcher)
watcher-told w rest true true = only-fits rest (reply.Good body.Empty) empty-fits

request-told : (w : Watches) (r : Request) → IfTold (plain_request w r)
unfolding plain_request
request-told w req.Ping = only-fits w (reply.Good body.Empty) empty-fits
request-told w (req.Auth kind scheme auth) = only-fits w _ (done-fits (bytes_eq scheme (codes "digest")) auth_failed)
request-told w (req.Multi parts) = if-told w (nat_lt max_parts (length parts)) bad_arguments
request-told w (req.Create p d a f) = refusal-told w (form_refusal (part.Create p d a f))
request-told w (req.Delete p v) = refusal-told w (form_refusal (part.Delete p v))
request-told w (req.SetData p d v) = refusal-told w (form_refusal (part.SetData p d v))
request-told w (req.Check p v) = refusal-told w (form_refusal (part.Check p v))
request-told w (req.Exists p watch) = unless-told w (is_path p) bad_arguments
request-told w (req.GetData p watch) = unless-told w (is_path p) bad_arguments
request-told w (req.GetAcl p) = unless-told w (is_path p) bad_arguments
request-told w (req.GetChildren p watch) = unless-told w (is_path p) bad_arguments
request-told w (req.GetChildren2 p watch) = unless-told w (is_path p) bad_arguments
request-told w (req.Sync p) = unless-told w (is_path p) bad_arguments
request-told w (req.SetWatches r e d c) = tt
request-told w req.Close = tt
request-told w (req.Create2 p d a f) = refusal-told w (form_refusal (part.Create p d a f))
request-told w (req.CheckWatches p k) = watcher-told w w (has_valid_form p k) (is_watched w p k)
request-told w (req.RemoveWatches p k) = watcher-told w (unwatched w p k) (has_valid_form p k) (is_watched w p k)

pub plain-told : (w : Watches) (x : Frame) → IfTold (plain_reply w x)
plain-told w NoHeader = tt
plain-told w (Unreadable xid place) = only-fits w (reply.Refused marshalling_error) (refused-fits marshalling_error)
plain-told w (Unknown xid kind) = only-fits w (reply.Refused unimplemented) (refused-fits unimplemented)
plain-told w (Asks xid r) = request-told w r

-- ---- by the tree

about-told : (armed w : Watches) (o : Option Node) (f : Node → Body) → ((n : Node) → o ≡ Some n → CanBeSent (reply.Good (f n))) → IfTold (about armed w o f)
about-told armed w None f fits = only-fits w (reply.Refused no_node) (refused-fits no_node)
about-told armed w (Some n) f fits = only-fits armed (reply.Good (f n)) (fits n refl)

listing-told : (armed w : Watches) (o : Option Node) (f : Node → Body) → IfTold (listing armed w o f)
listing-told armed w None f = only-fits w (reply.Refused no_node) (refused-fits no_node)
listing-told armed w (Some n) f = by_test (fits_reply (f n)) refl
  where
    by_test : (b : Bool) → fits_reply (f n) ≡ b → IfTold (if b then told armed (reply.Good (f n)) else told w (reply.Refused system_error))
    by_test true e = only-fits armed (reply.Good (f n)) (listed-fits (f n) e)
    by_test false e = only-fits w (reply.Refused system_error) (refused-fits system_error)

refused-told : (w : Watches) (o : Outcome) → IfTold (refusal_of w o)
refused-told w (Refused code) = only-fits w (reply.Refused code) (refused-fits code)
refused-told w (Done r t g) = tt

checked-told : (w : Watches) (o : Outcome) → IfTold (checked w o)
checked-told w (Refused code) = only-fits w (reply.Refused code) (refused-fits code)
checked-told w (Done r t g) = only-fits w (reply.Good body.Empty) empty-fits

several-told : (w : Watches) (n : ℕ) (o : Several) → n ≤ max_parts → SeveralGives n o → IfTold (refusal_of_several w o)
several-told w n (Denied code) few gives = only-fits w (reply.Refused code) (refused-fits code)
several-told w n (Codes row) few gives = only-fits w (reply.Good (body.Parts row)) (parts-fit row gives.0 (omega (arith, gives.1, few)))
several-told w n (AllDone rs t g) few gives = tt

pub tree-told : (t : Tree) (limit : ℕ) (session : ℤ) (w : Watches) (xid : ℤ) (r : Request) → IsWhole t → IsShortFrame (Asks xid r) → is_within_parts (Some r) ≡ true → IfTold (tree_reply t limit session w r)
unfolding tree_reply
tree-told t limit session w xid (req.Exists p watch) whole frame few = about-told _ _ (get t p) _ (λ n there. stat-fits (stat_of t p n))
tree-told t limit session w xid (req.GetData p watch) whole frame few = about-told _ _ (get t p) _ (λ n there. content-fits n.content (stat_of t p n) (whole.within p n there).small)
tree-told t limit session w xid (req.GetAcl p) whole frame few = about-told _ _ (get t p) _ (λ n there. acl-fits (stat_of t p n))
tree-told t limit session w xid (req.GetChildren p watch) whole frame few = listing-told _ _ (get t p) (λ n. body.Names (child_names t p))
tree-told t limit session w xid (req.GetChildren2 p watch) whole frame few = listing-told _ _ (get t p) (λ n. body.NamesStat (child_names t p) (stat_of t p n))
tree-told t limit session w xid (req.Sync p) whole frame few = only-fits w (reply.Good (body.Path p)) (path-fits p (sync-path xid p frame))
tree-told t limit session w xid (req.SetWatches since exists datas children) whole frame few =
    let short = watched-within xid since exists datas children frame in
    record { reply = empty-fits; notices = All-from_recursion NoticeCanBeSent _ (rearmed-fits t since datas exists children w short.0 short.1 short.2) }
tree-told t limit session w xid (req.Check p v) whole frame few = checked-told w _
tree-told t limit session w xid (req.Create p d a f) whole frame few = refused-told w _
tree-told t limit session w xid (req.Delete p v) whole frame few = refused-told w _
tree-told t limit session w xid (req.SetData p d v) whole frame few = refused-told w _
tree-told t limit session w xid (req.Multi parts) whole frame few = several-told w (length parts) _ (leb-true (length parts) max_parts few) (several-gives limit session (pos 0) 0 t parts)
tree-told t limit session w xid req.Ping whole frame few = tt
tree-told t limit session w xid (req.Auth kind scheme auth) whole frame few = tt
tree-told t limit session w xid req.Close whole frame few = tt
tree-told t limit session w xid (req.Create2 p d a f) whole frame few = refused-told w _
tree-told t limit session w xid (req.CheckWatches p k) whole frame few = tt
tree-told t limit session w xid (req.RemoveWatches p k) whole frame few = tt

-- a request of which nothing is told without the tree has no more parts than a transaction may have
pub unanswered-few : (w : Watches) (r : Request) → plain_request w r ≡ None → is_within_parts (Some r) ≡ true
unfolding plain_request
unanswered-few w (req.Multi parts) none = by_test (nat_lt max_parts (length parts)) refl none
  where
    by_test : (b : Bool) → nat_lt max_parts (length parts) ≡ b → (if b then told w (reply.Refused bad_arguments) else None) ≡ None → nat_le (length parts) max_parts ≡ true
    by_test true e h = absurd (cc)
    by_test false e h = grind (arith, nat_tests, e)
unanswered-few w r none = refl
