-- A choice that is right wherever the keys have what was seen makes a decision that is right, and a plan that commits.
use Rattle.std.proofs.Common.{◌^◌, ◌<◌, ◌≡◌, ℕ, ℤ, pos, List, Option, Some, None, refl, sym, ap, ◌∙◌, subst, arith}
use Rattle.std.specs.Prelude.{◌≤ℤ◌, ◌<ℤ◌, nat_abs}
use Rattle.std.proofs.lemmas.Int.{ints}
use Rattle.ev_types.specs.declared.answer.Kv.{Kv}
use Rattle.ev_types.specs.Ranges.{Keys}
use Rattle.ev_types.specs.Store.{acts_applied, last_revision}
use Rattle.zx_base.proofs.Options.{some_is}
use Rattle.zk_model.specs.declared.node.Trigger.{Trigger}
use Rattle.zk_model.specs.declared.reply.PartResult.{PartResult}
use Rattle.zk_model.specs.declared.reply.PartResult.TheVariants as result
use Rattle.zk_model.specs.declared.reply.Reply.TheVariants as reply
use Rattle.zk_model.specs.declared.request.Part.{Part}
use Rattle.zk_model.specs.declared.request.Request.{Request}
use Rattle.zk_model.specs.Single.{Outcome, Refused, single}
use Rattle.zk_model.specs.Watches.{no_watches}
use Rattle.zk_model.specs.Znodes.{Tree}
use Rattle.zk_service.specs.Answers.{owned_limit_in, refusal_of, tree_reply}
use Rattle.zk_service.specs.States.{State, Session, Commit, IsSound, advanced, commit_single, committed, limit_of, response_of, session_at}
use Rattle.zn_layout.specs.Changes.{KeyChange, Put, last, update_acts}
use Rattle.zn_layout.specs.Fits.{ChangesFit, KeyFits}
use Rattle.zn_layout.specs.Keys.{Key, HeadKey, DataKey, CountsKey, SessionKey, LeaseKey, key_bytes}
use Rattle.zn_layout.specs.Records.{IsHeadRec}
use Rattle.zn_layout.specs.StandsFor.{Stored, stored_of, at, Means, LifeMeans, StandsFor}
use Rattle.zn_layout.proofs.Lookups.{head_found}
use Rattle.zn_layout.proofs.Stands.{stands_after}
use Rattle.zn_view.specs.declared.plan.Decision.TheVariants.{Answered, Planned}
use Rattle.zn_view.specs.declared.plan.Plan.{Plan}
use Rattle.zn_view.specs.declared.plan.Who.{Who}
use Rattle.zn_view.specs.Needs.{own_result, finished}
use Rattle.zn_view.specs.Seen.{View}
use Rattle.zn_view.specs.Views.{IsByTree, IsDone, IsOf, IsPlan, MayCommit, done_by, limit_at, state_after}
use Rattle.zn_updates.specs.Choices.{Choice, Refuse, Make}
use Rattle.zn_updates.specs.Deciding.{IsAttached, decision_of, plan_of}
use Rattle.zn_updates.specs.Right.{IsRight, IsOutcome, with_tree}
use Rattle.zn_view.proofs.AsSeen.{agrees-as_seen, commits-as_seen}
use Rattle.zn_updates.specs.Layers.{code_of, IsChosen}
use Rattle.zn_updates.proofs.Telling.{Tells, shows, told}

-- the request is this part, asked alone
pub record IsPart (r : Request) (p : Part) : Type 0 where
  pub told : (t : Tree) (limit : ℕ) (session : ℤ) → tree_reply t limit session no_watches r ≡ refusal_of no_watches (single t limit session p (pos 0) 0)
  pub done : (s : State) (z session : ℤ) (now : ℕ) → done_by s z session r now ≡ commit_single (single s.tree (limit_at session s) session p z now)
  pub after : (s : State) (z session : ℤ) (now : ℕ) → state_after s z session r now ≡ committed s z (commit_single (single s.tree (limit_at session s) session p z now))

refuse_of : (c : Choice) (code : ℤ) → code_of c ≡ Some code → c ≡ Refuse code
refuse_of (Refuse x) code e = ap Refuse (some_is e)
refuse_of (Make cs ts draft) code e = absurd (cc)

-- ---- by the tree

refused_told : (r : Request) (code : ℤ) (o : Outcome) → o ≡ Refused code → IsByTree r (Answered (reply.Refused code) None) (refusal_of no_watches o)
refused_told r code o e = subst (λ (x : Outcome). IsByTree r (Answered (reply.Refused code) None) (refusal_of no_watches x)) (sym e) (None, refl, λ _. refl, λ _. refl)

done_told : (r : Request) (v : View) (cs : List KeyChange) (ts : List Trigger) (draft : PartResult) (z : ℤ) (s : State) (c : Choice) (o : Outcome) → code_of c ≡ None → IsRight z s c o → IsByTree r (Planned (plan_of v cs ts draft)) (refusal_of no_watches o)
done_told r v cs ts draft z s (Refuse code) o e right = absurd (cc)
done_told r v cs ts draft z s (Make ds us other) o e right =
    subst (λ (x : Outcome). IsByTree r (Planned (plan_of v cs ts draft)) (refusal_of no_watches x)) (sym right.done) (plan_of v cs ts draft, refl)

by_choice : (r : Request) (v : View) (s : State) (zero_choice c : Choice) (o : Outcome) → code_of c ≡ code_of zero_choice → IsRight (pos 0) s zero_choice o → IsByTree r (decision_of v c) (refusal_of no_watches o)
by_choice r v s first (Refuse code) o e right = refused_told r code o (subst (λ (x : Choice). IsRight (pos 0) s x o) (refuse_of first code (sym e)) right)
by_choice r v s first (Make cs ts draft) o e right = done_told r v cs ts draft (pos 0) s first o (sym e) right

-- a right choice decides as the tree does, whatever keys its plan guards
pub by_tree : (r : Request) (p : Part) (who : Who) (v near : View) (choice : ℕ → Choice) (now : ℕ) → IsPart r p → IsChosen p who v choice → (s : State) → IsSound s → IsOf v s → (x : Session) → session_at who.session s ≡ Some x
    → IsByTree r (decision_of near (choice now)) (tree_reply s.tree (limit_of x) who.session no_watches r)
by_tree r p who v near choice now part chosen s sound of x opened =
    subst (IsByTree r (decision_of near (choice now))) (sym (part.told s.tree (limit_of x) who.session))
    (by_choice r near s (choice 0) (choice now) _ (chosen.same_code now)
    (chosen.right s (pos 0) 0 (omega arith) sound (shows (pos 0) v of.0 s of.1 (told v of.0 (agrees-as_seen v of.0 of.2))) x opened))

-- ---- the plan

-- only the tree and the sessions matter to what keys mean
same_means : (s : State) (t : Tree) (z : ℤ) (ts : List Trigger) (k : Key) (o : Option Stored) → Means (with_tree s t) k o → Means (advanced s z t ts s.sessions) k o
same_means s t z ts HeadKey o h = h
same_means s t z ts (DataKey p) o h = h
same_means s t z ts (CountsKey p) o h = h
same_means s t z ts (SessionKey id) o h = h
same_means s t z ts (LeaseKey id) o h = h

key_fits : (s : State) (t : Tree) (z : ℤ) (ts : List Trigger) (k : Key) (w : Option (Option Put)) → KeyFits z w k s (with_tree s t) → KeyFits z w k s (advanced s z t ts s.sessions)
key_fits s t z ts k None h = λ o was. same_means s t z ts k o (h o was)
key_fits s t z ts k (Some w) h = same_means s t z ts k _ h

pub fits_advanced : (s : State) (t : Tree) (z : ℤ) (ts : List Trigger) (cs : List KeyChange) → ChangesFit z cs s (with_tree s t) → ChangesFit z cs s (advanced s z t ts s.sessions)
fits_advanced s t z ts cs f = record { each = λ k. key_fits s t z ts k (last cs k) (f.each k) }

finished_result : (z : ℤ) (draft : PartResult) → finished z (reply.Good (response_of draft)) ≡ reply.Good (response_of (own_result z draft))
finished_result z (result.Created p) = refl
finished_result z result.Deleted = refl
finished_result z (result.Set s) = refl
finished_result z result.Checked = refl
finished_result z (result.Code c) = refl

-- the session of a connection whose lease record is there is open
living : (id : ℕ) (o : Option Session) (k : Option Kv) (kv : Kv) → k ≡ Some kv → LifeMeans id o (stored_of k) → (x : Session) × (o ≡ Some x)
living id None None kv e h = absurd (cc)
living id None (Some y) kv e h = absurd h
living id (Some x) k kv e h = (x, refl)

module _ (r : Request) (p : Part) (who : Who) (v : View) (choice : ℕ → Choice) (now : ℕ) (part : IsPart r p) (chosen : IsChosen p who v choice) (time : now < 2 ^ 62)
    (cs : List KeyChange) (ts : List Trigger) (draft : PartResult) (is : choice now ≡ Make cs ts draft) (bounds : IsHeadRec ts) (real : pos 1 ≤ℤ who.session) (attached : IsAttached who v) where
  abbrev plan : Plan
  plan = plan_of v cs ts draft

  module _ (m : Keys) (s : State) (z : ℤ) (sound : IsSound s) (stands : StandsFor m s) (may : MayCommit plan v m) (above : s.zxid <ℤ z) where
    tells : Tells v m
    tells = told v m (commits-as_seen plan v m refl may)

    id_is : pos (nat_abs who.session) ≡ who.session
    id_is = omega (arith, ints, real)

    opened : (x : Session) × (session_at who.session s ≡ Some x)
    opened = subst (λ (id : ℤ). (x : Session) × (session_at id s ≡ Some x)) id_is
        (living (nat_abs who.session) (session_at (pos (nat_abs who.session)) s) (at m (LeaseKey (nat_abs who.session))) attached.0
        (tells (LeaseKey (nat_abs who.session)) (λ e. life_not_head (nat_abs who.session) e) (Some attached.0) attached.1) (stands.each (LeaseKey (nat_abs who.session))))
      where
        life_not_head : (n : ℕ) → LeaseKey n ≡ HeadKey → ⊥
        life_not_head n e = cc

    limit : limit_at who.session s ≡ limit_of opened.0
    limit = ap owned_limit_in opened.1

    made : IsOutcome z s cs ts draft (single s.tree (limit_of opened.0) who.session p z now)
    made = subst (λ (c : Choice). IsRight z s c (single s.tree (limit_of opened.0) who.session p z now)) is (chosen.right s z now time sound (shows z v m s stands tells) opened.0 opened.1)

    abbrev commits : Commit
    commits = record { response = response_of (own_result z draft); tree = made.tree; triggers = ts }

    does : commit_single (single s.tree (limit_at who.session s) who.session p z now) ≡ Some commits
    does = ap (λ (n : ℕ). commit_single (single s.tree n who.session p z now)) limit ∙ ap commit_single made.done

    least : pos 1 ≤ℤ z
    least =
        let head = head_found m s stands in
        let low = stands.layout.least (key_bytes HeadKey) head.kv head.there in
        let at_head = head.is.zxid in
        omega (arith, ints, low, at_head, above)

    pub plan_carries : z ≤ℤ last_revision → StandsFor (acts_applied z m (update_acts cs ts)) (state_after s z who.session r now)
    plan_carries most =
        subst (StandsFor (acts_applied z m (update_acts cs ts))) (sym (part.after s z who.session now ∙ ap (committed s z) does))
        (stands_after z cs ts m s (committed s z (Some commits)) least most bounds made.headless (record { zxid = refl; updates = refl; triggers = refl }) stands
        (fits_advanced s made.tree z ts cs made.fits))

    pub plan_answers : IsDone s z who.session r now ts (finished z (reply.Good (response_of draft)))
    plan_answers = record {
      made = commits;
      commits = part.done s z who.session now ∙ does;
      triggers = refl;
      answers = finished_result z draft;
    }

  pub plan_is : IsPlan r who now v plan (λ z. finished z plan.draft)
  plan_is = record {
    carries = λ m s z sound stands may above most. plan_carries m s z sound stands may above most;
    answers = λ m s z sound stands may above most. plan_answers m s z sound stands may above;
  }
