-- The paths that an update shows are valid, so they are short: those of its triggers, and those in the reply to its request.
use Rattle.std.proofs.Common.{◌≡◌, ℕ, zero, suc, ℤ, pos, ◌-◌, ◌<◌, ◌≤◌, Bool, true, false, not, length, List, [], ◌∷◌, Option, Some, None, refl, ap, arith}
use Rattle.std.specs.Prelude.{⊤, nat_abs, nat_lt, if◌then◌else◌, ◌==◌, replicate}
use Rattle.std.specs.List.{AllByRecursion}
use Rattle.std.specs.Ordering.{int_eq}
use Rattle.std.proofs.lemmas.Bool.{and_parts, leb-true}
use Rattle.std.proofs.lemmas.List.{length-append}
use Rattle.std.specs.FinMap.{get}
use Rattle.zx_base.specs.Maps.{Bytes, same}
use Rattle.zk_model.specs.Codes.{bad_arguments, ok, runtime_inconsistency}
use Rattle.zk_model.specs.Limits.{max_load, max_parts, max_path, max_version}
use Rattle.zk_model.specs.declared.node.Node.{Node}
use Rattle.zk_model.specs.declared.node.Trigger.{Trigger}
use Rattle.zk_model.specs.declared.node.Stat.{Stat}
use Rattle.zk_model.specs.declared.reply.Body.{Body}
use Rattle.zk_model.specs.declared.reply.Body.TheVariants as body
use Rattle.zk_model.specs.declared.reply.PartResult.{PartResult}
use Rattle.zk_model.specs.declared.reply.PartResult.TheVariants as result
use Rattle.zk_model.specs.declared.request.Part.{Part}
use Rattle.zk_model.specs.declared.request.Part.TheVariants as part
use Rattle.zk_model.specs.declared.request.Request.{Request}
use Rattle.zk_model.specs.declared.request.Request.TheVariants as req
use Rattle.zk_model.specs.Multi.{Parts, Stopped, Passed, then_parts, touched_by, parts_of, Several, Denied, Codes, All as AllDone, load, row_of, settled, several}
use Rattle.zk_model.specs.Paths.{is_path, is_sequence_prefix, parent, root, sequence_path}
use Rattle.zk_model.specs.Single.{Outcome, Refused, Done, named, made_path, is_full, is_sequential, create_node, create_under, create_at, create, removal, removal_under, delete, set_data, check, matches, effect, form_refusal, or_else, path_refusal, unless_refused, single}
use Rattle.zk_model.specs.Znodes.{Tree, num_children}
use Rattle.zk_model.proofs.SequencePaths.{sequence-valid}
use Rattle.zk_model.proofs.ValidPaths.{parent-valid, valid-from}
use Rattle.zk_jute.proofs.Lists.{both_of}
use Rattle.zk_service.specs.States.{Commit, commit, commit_several, commit_single, body_with_stat, commit_with_stat, response_of}
use Rattle.zk_transcript.specs.Legal.{is_within_parts}
use Rattle.zk_machine.proofs.WholeTrees.{parent-made}
use Rattle.zk_legal.specs.Short.{AreShort, IsShortBody, IsShortResult}
use Rattle.zk_model.specs.Watches.{trigger_path}

abbrev Gives : Outcome → Type 0
Gives (Refused code) = ⊤
Gives (Done r t g) = IsShortResult r × AreShort g

-- the parts give n results, or the place of the one that was refused is below n
abbrev PartsGive : ℕ → Parts → Type 0
PartsGive n (Stopped place code) = place < n
PartsGive n (Passed results t gs touched) = AllByRecursion IsShortResult results × AreShort gs × (length results ≡ n)

-- what a transaction of n parts gives is short
abbrev pub SeveralGives : ℕ → Several → Type 0
SeveralGives n (Denied code) = ⊤
SeveralGives n (Codes row) = AllByRecursion IsShortResult row × (length row ≤ n)
SeveralGives n (AllDone results t gs) = AllByRecursion IsShortResult results × AreShort gs × (length results ≤ n)

abbrev pub CommitGives : Option Commit → Type 0
CommitGives None = ⊤
CommitGives (Some x) = IsShortBody x.response × AreShort x.triggers

pub valid-short : (p : Bytes) → is_path p ≡ true → length p ≤ max_path
valid-short p valid = (valid-from p valid).short

pub removal-short : (p : Bytes) → is_path p ≡ true → AreShort (removal p)
removal-short p valid = by_parent (parent p) refl
  where
    by_parent : (o : Option Bytes) → parent p ≡ o → AreShort (removal_under p o)
    by_parent None is = (valid-short p valid, tt)
    by_parent (Some q) is = (valid-short p valid, (valid-short q (parent-valid p q valid is).0, tt))

-- ---- one request

gives_unless : (b : Bool) (code : ℤ) (o : Outcome) → Gives o → Gives (if b then Refused code else o)
gives_unless true code o gives = tt
gives_unless false code o gives = gives

module _ (t : Tree) (limit : ℕ) (session flags : ℤ) (content : Bytes) (z : ℤ) (now : ℕ) (path : Bytes) (form : (if is_sequential flags then is_sequence_prefix path else is_path path) ≡ true) where
  valid-made : (up : Node) → is_path (made_path flags path up) ≡ true
  valid-made up = by_mode (is_sequential flags) form
    where
      by_mode : (b : Bool) → (if b then is_sequence_prefix path else is_path path) ≡ true → is_path (if b then sequence_path path (nat_abs up.creates) else path) ≡ true
      by_mode true e = sequence-valid path (nat_abs up.creates) e
      by_mode false e = e

  node-gives : (q : Bytes) (up : Node) (o : Option Node) → parent (named flags path) ≡ Some q → Gives (create_node t limit session flags content z now q up (made_path flags path up) o)
  node-gives q up (Some old) below = tt
  node-gives q up None below =
      let p = made_path flags path up in
      let short = valid-short p (valid-made up) in
      let above = valid-short q (parent-valid p q (valid-made up) (parent-made flags path q up below)).0 in
      gives_unless (not (int_eq up.owner (pos 0))) _ _ (gives_unless (is_full t limit session flags up) _ _ (short, (short, (above, tt))))

  under-gives : (q : Bytes) (o : Option Node) → parent (named flags path) ≡ Some q → Gives (create_under t limit session flags content z now path q o)
  under-gives q None below = tt
  under-gives q (Some up) below = node-gives q up (get t (made_path flags path up)) below

  at-gives : (o : Option Bytes) → parent (named flags path) ≡ o → Gives (create_at t limit session flags content z now path o)
  at-gives None is = tt
  at-gives (Some q) is = under-gives q (get t q) is

  create-gives : Gives (create t limit session flags content z now path)
  create-gives = at-gives (parent (named flags path)) refl

delete-gives : (t : Tree) (p : Bytes) (version z : ℤ) (o : Option Node) → is_path p ≡ true → Gives (delete t p version z o)
delete-gives t p version z None valid = tt
delete-gives t p version z (Some n) valid = gives_unless (not (matches version n.version)) _ _ (gives_unless (not (num_children t p == 0)) _ _ (tt, removal-short p valid))

set_data-gives : (t : Tree) (p content : Bytes) (version z : ℤ) (now : ℕ) (o : Option Node) → is_path p ≡ true → Gives (set_data t p content version z now o)
set_data-gives t p content version z now None valid = tt
set_data-gives t p content version z now (Some n) valid = gives_unless (not (matches version n.version)) _ _ (gives_unless (int_eq n.version max_version) _ _ (tt, (valid-short p valid, tt)))

check-gives : (t : Tree) (version : ℤ) (o : Option Node) → Gives (check t version o)
check-gives t version None = tt
check-gives t version (Some n) = gives_unless (not (matches version n.version)) _ _ (tt, tt)

no_other : (a b : Option ℤ) → or_else a b ≡ None → a ≡ None
no_other (Some c) b h = absurd (cc)
no_other None b h = refl

not_refused : (b : Bool) → path_refusal b ≡ None → b ≡ true
not_refused true h = refl
not_refused false h = absurd (cc)

module _ (limit : ℕ) (session z : ℤ) (now : ℕ) where
  effect-gives : (t : Tree) (p : Part) → form_refusal p ≡ None → Gives (effect t limit session p z now)
  unfolding effect form_refusal
  effect-gives t (part.Create path content acl flags) form =
      create-gives t limit session flags content z now path (not_refused _ (no_other (path_refusal (if is_sequential flags then is_sequence_prefix path else is_path path)) _ form))
  effect-gives t (part.Delete path version) form = delete-gives t path version z (get t path) (and_parts (is_path path) (not (same path root)) (not_refused _ form)).0
  effect-gives t (part.SetData path content version) form = set_data-gives t path content version z now (get t path) (not_refused _ form)
  effect-gives t (part.Check path version) form = check-gives t version (get t path)

  single-gives : (t : Tree) (p : Part) → Gives (single t limit session p z now)
  unfolding single
  single-gives t p = by_form (form_refusal p) refl
    where
      by_form : (o : Option ℤ) → form_refusal p ≡ o → Gives (unless_refused o (effect t limit session p z now))
      by_form (Some code) is = tt
      by_form None is = effect-gives t p is

  -- ---- several

  then-gives : (n : ℕ) (r : PartResult) (g : List Trigger) (touched : List ℤ) (ps : Parts) → IsShortResult r → AreShort g → PartsGive n ps → PartsGive (suc n) (then_parts r g touched ps)
  then-gives n r g touched (Stopped place code) short triggers give = omega (arith, give)
  then-gives n r g touched (Passed results t gs more) short triggers give = ((short, give.0), both_of (λ x. length (trigger_path x) ≤ max_path) g gs triggers give.1, ap suc give.2)

  parts-give : (t : Tree) (ps : List Part) → PartsGive (length ps) (parts_of t limit session ps z now)
  unfolding parts_of
  parts-give t [] = (tt, tt, refl)
  parts-give t (p ∷ ps) = next (single t limit session p z now) (single-gives t p) (λ u. parts-give u ps)
    where
      next : (o : Outcome) → Gives o → ((u : Tree) → PartsGive (length ps) (parts_of u limit session ps z now))
          → PartsGive (suc (length ps)) (elim o [ Refused code ↦ Stopped 0 code | Done r u g ↦ then_parts r g (touched_by t session p) (parts_of u limit session ps z now) ])
      next (Refused code) gives more = omega arith
      next (Done r u g) gives more = then-gives (length ps) r g (touched_by t session p) (parts_of u limit session ps z now) gives.0 gives.1 (more u)

  codes-short : (n : ℕ) (code : ℤ) → AllByRecursion IsShortResult (replicate n (result.Code code)) × (length (replicate n (result.Code code)) ≡ n)
  codes-short zero code = (tt, refl)
  codes-short (suc n) code = let rest = codes-short n code in ((tt, rest.0), ap suc rest.1)

  row-short : (n place : ℕ) (code : ℤ) → place < n → AllByRecursion IsShortResult (row_of n place code) × (length (row_of n place code) ≤ n)
  row-short n place code less =
      let first = codes-short place ok in
      let last = codes-short (n - place - 1) runtime_inconsistency in
      let tail : List PartResult = result.Code code ∷ replicate (n - place - 1) (result.Code runtime_inconsistency) in
      (both_of IsShortResult (replicate place (result.Code ok)) tail first.0 (tt, last.0), omega (arith, length-append (replicate place (result.Code ok)) tail, first.1, last.1, less))

  settled-gives : (t : Tree) (ps : List Part) (done : Parts) → PartsGive (length ps) done → SeveralGives (length ps) (settled t ps done)
  settled-gives t ps (Stopped place code) give = row-short (length ps) place code give
  settled-gives t ps (Passed results u gs touched) give = by_load (nat_lt max_load (load t ps touched))
    where
      by_load : (b : Bool) → SeveralGives (length ps) (if b then Denied bad_arguments else AllDone results u gs)
      by_load true = tt
      by_load false = (give.0, give.1, omega (arith, give.2))

  pub several-gives : (t : Tree) (ps : List Part) → SeveralGives (length ps) (several t limit session ps z now)
  unfolding several
  several-gives t ps = settled-gives t ps (parts_of t limit session ps z now) (parts-give t ps)

  -- ---- what is carried out

  response-short : (r : PartResult) → IsShortResult r → IsShortBody (response_of r)
  response-short (result.Created p) short = short
  response-short result.Deleted short = tt
  response-short (result.Set stat) short = tt
  response-short result.Checked short = tt
  response-short (result.Code code) short = tt

  of_single : (o : Outcome) → Gives o → CommitGives (commit_single o)
  of_single (Refused code) gives = tt
  of_single (Done r t g) gives = (response-short r gives.0, gives.1)

  stat-short : (s : Stat) (b : Body) → IsShortBody b → IsShortBody (body_with_stat s b)
  stat-short s body.Empty short = short
  stat-short s (body.Path p) short = short
  stat-short s (body.Stat x) short = short
  stat-short s (body.Content content x) short = short
  stat-short s (body.Names names) short = short
  stat-short s (body.NamesStat names x) short = short
  stat-short s (body.OpenAcl x) short = short
  stat-short s (body.Parts results) short = short
  stat-short s (body.PathStat p x) short = short

  of_single_with_stat : (s : Stat) (o : Outcome) → Gives o → CommitGives (commit_with_stat s o)
  of_single_with_stat s (Refused code) gives = tt
  of_single_with_stat s (Done r t g) gives = (stat-short s (response_of r) (response-short r gives.0), gives.1)

  of_several : (n : ℕ) (o : Several) → n ≤ max_parts → SeveralGives n o → CommitGives (commit_several o)
  of_several n (Denied code) few gives = tt
  of_several n (Codes row) few gives = tt
  of_several n (AllDone results t gs) few gives = ((gives.0, omega (arith, gives.2, few)), gives.1)

  pub commit-gives : (t : Tree) (r : Request) → is_within_parts (Some r) ≡ true → CommitGives (commit t limit session r z now)
  unfolding commit
  commit-gives t (req.Create p d a f) few = of_single _ (single-gives t (part.Create p d a f))
  commit-gives t (req.Create2 p d a f) few = of_single_with_stat _ _ (single-gives t (part.Create p d a f))
  commit-gives t (req.Delete p v) few = of_single _ (single-gives t (part.Delete p v))
  commit-gives t (req.SetData p d v) few = of_single _ (single-gives t (part.SetData p d v))
  commit-gives t (req.Multi parts) few = of_several (length parts) _ (leb-true (length parts) max_parts few) (several-gives t parts)
  commit-gives t r few = tt
