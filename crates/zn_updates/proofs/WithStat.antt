-- What holds of the decision on a create holds of that on the create2 with the same fields.
use Rattle.std.proofs.Common.{◌≡◌, ℕ, ℤ, pos, List, true, Option, Some, None, refl, sym, ap, ◌∙◌, subst}
use Rattle.std.specs.Prelude.{IfSome}
use Rattle.ev_types.specs.Ranges.{Keys}
use Rattle.ev_types.specs.Store.{acts_applied}
use Rattle.zx_base.specs.Maps.{Bytes}
use Rattle.zk_model.specs.declared.node.Stat.{Stat}
use Rattle.zk_model.specs.declared.reply.Body.{Body}
use Rattle.zk_model.specs.declared.reply.Body.TheVariants as body
use Rattle.zk_model.specs.declared.reply.Reply.{Reply}
use Rattle.zk_model.specs.declared.reply.Reply.TheVariants as reply
use Rattle.zk_model.specs.declared.request.Acl.{Acl}
use Rattle.zk_model.specs.declared.request.Part.TheVariants as part
use Rattle.zk_model.specs.declared.request.Request.{Request}
use Rattle.zk_model.specs.declared.request.Request.TheVariants as req
use Rattle.zk_model.specs.Single.{Outcome, Refused, Done, single}
use Rattle.zk_model.specs.Watches.{no_watches}
use Rattle.zk_service.specs.Answers.{Told, plain_request, tree_reply}
use Rattle.zk_service.specs.States.{State, Commit, body_with_stat, commit, commit_single, commit_with_stat, committed, limit_of, made_stat, response_of}
use Rattle.zn_layout.specs.StandsFor.{StandsFor}
use Rattle.zn_view.specs.declared.plan.Decision.{Decision}
use Rattle.zn_view.specs.declared.plan.Decision.TheVariants.{Answered, Planned, Expired, Moved}
use Rattle.zn_view.specs.declared.plan.Plan.{Plan}
use Rattle.zn_view.specs.declared.plan.Who.{Who}
use Rattle.zn_view.specs.declared.want.Want.{Want}
use Rattle.zn_view.specs.Asks.{IsAskedPlan, WritesOnce}
use Rattle.zn_view.specs.Deciding.{IfPlanned, IsTaken, IsToldByForm, is_by_tree}
use Rattle.zn_view.specs.Keeping.{PutsNewKeys, update_path}
use Rattle.zn_view.specs.Needs.{AreNeeds, GuardsReads, IsWhole, finished, own_body}
use Rattle.zn_view.specs.Seen.{View}
use Rattle.zn_view.specs.Views.{IsByTree, IsDone, IsPlan, MayCommit, limit_at, reads}
use Rattle.zn_updates.specs.Deciding.{IsBySound, IsGuarded}
use Rattle.zn_updates.specs.WithStat.{plan_with_stat, reply_with_stat, with_stat}
use Rattle.zn_updates.specs.Writing.{WritesAs}

-- ---- by the tree

with_stat-told : (stat : Stat) (r q : Request) (d : Decision) (o : Option Told)
    → ((t : Told) → IsByTree r d (Some t) → IsByTree q (with_stat stat d) (Some t)) → IsByTree r d o → IsByTree q (with_stat stat d) o
with_stat-told stat r q d None told (p, is) = (plan_with_stat stat p, ap (with_stat stat) is)
with_stat-told stat r q d (Some t) told is = told t is

pub with_stat-tree : (stat : Stat) (d : Decision) → is_by_tree d ≡ true → is_by_tree (with_stat stat d) ≡ true
with_stat-tree stat (Answered answer arm) is = refl
with_stat-tree stat (Planned p) is = refl
with_stat-tree stat Expired is = is
with_stat-tree stat (Moved found) is = is

-- ---- the plan

may_commit : (stat : Stat) (p : Plan) (v : View) (m : Keys) → MayCommit (plan_with_stat stat p) v m → MayCommit p v m
may_commit stat p v m may = record { holds = may.holds; same = may.same; put = may.put }

asked-with_stat : (stat : Stat) (who : Who) (v : View) (p : Plan) → IsAskedPlan who v p → IsAskedPlan who v (plan_with_stat stat p)
asked-with_stat stat who v p a = record { keys = a.keys; among = a.among; guards = a.guards; again = a.again; lease = a.lease; shows = a.shows }

once-with_stat : (stat : Stat) (p : Plan) → WritesOnce p → WritesOnce (plan_with_stat stat p)
once-with_stat stat p w = record {
  own = record { changes = w.own.changes; acts = w.own.acts; leases = w.own.leases; triggers = w.own.triggers; reads = w.own.reads };
  once = w.once;
}

taken-with_stat : (stat : Stat) (p : Plan) → IsTaken p → IsTaken (plan_with_stat stat p)
taken-with_stat stat p t = record { small = t.small; allowed = t.allowed }

keepable-with_stat : (stat : Stat) (v : View) (p : Plan) (o : Option Bytes) → IfSome o (λ q. PutsNewKeys v p) → IfSome o (λ q. PutsNewKeys v (plan_with_stat stat p))
keepable-with_stat stat v p None keeps = keeps
keepable-with_stat stat v p (Some q) keeps = λ m s sound stands may. keeps m s sound stands (may_commit stat p v m may)

-- the same update is committed, and the response has the Stat besides
committed-with_stat : (s : State) (z : ℤ) (stat : Stat) (o : Outcome) → committed s z (commit_single o) ≡ committed s z (commit_with_stat stat o)
committed-with_stat s z stat (Refused code) = refl
committed-with_stat s z stat (Done r t g) = refl

-- a draft's Stat gets the zxid where the draft gets it
own-with_stat : (flags : ℤ) (content : Bytes) (session z : ℤ) (now : ℕ) (b : Body)
    → own_body z (body_with_stat (made_stat flags content session (pos 0) now) b) ≡ body_with_stat (made_stat flags content session z now) (own_body z b)
own-with_stat flags content session z now body.Empty = refl
own-with_stat flags content session z now (body.Path p) = refl
own-with_stat flags content session z now (body.Stat s) = refl
own-with_stat flags content session z now (body.Content c s) = refl
own-with_stat flags content session z now (body.Names names) = refl
own-with_stat flags content session z now (body.NamesStat names s) = refl
own-with_stat flags content session z now (body.OpenAcl s) = refl
own-with_stat flags content session z now (body.Parts rs) = refl
own-with_stat flags content session z now (body.PathStat p s) = refl

finished-with_stat : (flags : ℤ) (content : Bytes) (session z : ℤ) (now : ℕ) (r : Reply)
    → finished z (reply_with_stat (made_stat flags content session (pos 0) now) r) ≡ reply_with_stat (made_stat flags content session z now) (finished z r)
finished-with_stat flags content session z now (reply.Good b) = ap reply.Good (own-with_stat flags content session z now b)
finished-with_stat flags content session z now (reply.Refused code) = refl

-- what is made of an outcome with a Stat
record IsMadeWith (stat : Stat) (o : Outcome) (made : Commit) : Type 0 where
  update : Commit
  is : commit_with_stat stat o ≡ Some update
  triggers : made.triggers ≡ update.triggers
  response : body_with_stat stat made.response ≡ update.response

made-with : (stat : Stat) (o : Outcome) (made : Commit) → commit_single o ≡ Some made → IsMadeWith stat o made
made-with stat (Refused code) made e = absurd (cc)
made-with stat (Done r t g) made e =
    let x : Commit = record { response = response_of r; tree = t; triggers = g } in
    let is : x ≡ made = cc in
    record {
      update = record { response = body_with_stat stat (response_of r); tree = t; triggers = g };
      is = refl;
      triggers = sym (ap (λ (y : Commit). y.triggers) is);
      response = ap (λ (y : Commit). body_with_stat stat y.response) (sym is);
    }

module _ (path content : Bytes) (acl : List Acl) (flags : ℤ) where
  abbrev plainly : Request
  plainly = req.Create path content acl flags

  abbrev asked : Request
  asked = req.Create2 path content acl flags

  abbrev stat_at : ℤ → ℤ → ℕ → Stat
  stat_at session z now = made_stat flags content session z now

  pub whole-plainly : (who : Who) (v : View) → IsWhole asked who v → IsWhole plainly who v
  unfolding plain_request reads
  whole-plainly who v whole = whole

  pub needs-asked : (who : Who) (v : View) (ws : List Want) → AreNeeds plainly who v ws → AreNeeds asked who v ws
  unfolding plain_request reads
  needs-asked who v ws n = record { only = n.only; enough = n.enough; all = n.all; once = n.once; none = n.none }

  pub form-asked : (stat : Stat) (d : Decision) → IsToldByForm plainly d → IsToldByForm asked (with_stat stat d)
  unfolding plain_request
  form-asked stat d form = λ t told. ap (with_stat stat) (form t told)

  told-asked : (stat : Stat) (d : Decision) (t : Told) → IsByTree plainly d (Some t) → IsByTree asked (with_stat stat d) (Some t)
  told-asked stat d t (arm, is, armed, rearmed) = (arm, ap (with_stat stat) is, armed, rearmed)

  pub sound-asked : (stat : Stat) (who : Who) (v : View) (d : Decision) → IsBySound plainly who v d → IsBySound asked who v (with_stat stat d)
  unfolding plain_request tree_reply
  sound-asked stat who v d sound = λ plain s is of x opened. with_stat-told stat plainly asked d (tree_reply s.tree (limit_of x) who.session no_watches plainly) (told-asked stat d) (sound plain s is of x opened)

  is_done-asked : (s : State) (z session : ℤ) (now : ℕ) (p : Plan) → IsDone s z session plainly now p.triggers (finished z p.draft)
      → IsDone s z session asked now p.triggers (finished z (reply_with_stat (stat_at session (pos 0) now) p.draft))
  unfolding commit
  is_done-asked s z session now p done =
      let w = made-with (stat_at session z now) (single s.tree (limit_at session s) session (part.Create path content acl flags) z now) done.made done.commits in
      record {
        made = w.update;
        commits = w.is;
        triggers = done.triggers ∙ w.triggers;
        answers = finished-with_stat flags content session z now p.draft ∙ ap (reply_with_stat (stat_at session z now)) done.answers ∙ ap reply.Good w.response;
      }

  plan-asked : (who : Who) (now : ℕ) (v : View) (p : Plan) → IsPlan plainly who now v p (λ z. finished z p.draft)
      → IsPlan asked who now v (plan_with_stat (stat_at who.session (pos 0) now) p) (λ z. finished z (reply_with_stat (stat_at who.session (pos 0) now) p.draft))
  unfolding commit
  plan-asked who now v p plan = record {
    carries = λ m s z sound stands may above most.
        subst (StandsFor (acts_applied z m p.success)) (committed-with_stat s z (stat_at who.session z now) (single s.tree (limit_at who.session s) who.session (part.Create path content acl flags) z now))
        (plan.carries m s z sound stands (may_commit (stat_at who.session (pos 0) now) p v m may) above most);
    answers = λ m s z sound stands may above most. is_done-asked s z who.session now p (plan.answers m s z sound stands (may_commit (stat_at who.session (pos 0) now) p v m may) above most);
  }

  reads-asked : (who : Who) (v : View) (stat : Stat) (p : Plan) → GuardsReads plainly who v p → GuardsReads asked who v (plan_with_stat stat p)
  unfolding reads
  reads-asked who v stat p g = record { keys = g.keys; guards = g.guards; again = g.again; all = g.all; only = g.only }

  guarded-asked : (who : Who) (now : ℕ) (v : View) (p : Plan) → IsGuarded plainly who now v p → IsGuarded asked who now v (plan_with_stat (stat_at who.session (pos 0) now) p)
  guarded-asked who now v p g =
      let stat = stat_at who.session (pos 0) now in
      record {
        commits = λ attached. (plan-asked who now v p (g.commits attached).0, asked-with_stat stat who v p (g.commits attached).1);
        reads = reads-asked who v stat p g.reads;
        writes = once-with_stat stat p g.writes;
        taken = λ bounded. taken-with_stat stat p (g.taken bounded);
        keepable = keepable-with_stat stat v p (update_path plainly) g.keepable;
      }

  pub plans-asked : (who : Who) (now : ℕ) (v : View) (d : Decision) → IfPlanned (IsGuarded plainly who now v) d → IfPlanned (IsGuarded asked who now v) (with_stat (stat_at who.session (pos 0) now) d)
  plans-asked who now v (Planned p) g = guarded-asked who now v p g
  plans-asked who now v (Answered answer arm) g = g
  plans-asked who now v Expired g = g
  plans-asked who now v (Moved found) g = g

  pub writes-asked : (stat : Stat) (who : Who) (v : View) (d : Decision) → IfPlanned (WritesAs plainly who v) d → IfPlanned (WritesAs asked who v) (with_stat stat d)
  writes-asked stat who v (Planned p) w = record { changes = w.changes; acts = w.acts; writes = w.writes }
  writes-asked stat who v (Answered answer arm) w = w
  writes-asked stat who v Expired w = w
  writes-asked stat who v (Moved found) w = w
