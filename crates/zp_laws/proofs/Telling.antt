-- What is told as of a moment, by the session and by the tree.
use Rattle.std.proofs.Common.{◌≡◌, ℕ, List, [], take, refl, sym, ap, ◌∙◌, subst, Bool, true, false, ℤ}
use Rattle.std.specs.Prelude.{Option, Some, None, MatchBool}
use Rattle.std.specs.Ordering.{int_eq}
use Rattle.std.proofs.lemmas.Bool.Decides.{Decides-int_eq}
use Rattle.zk_jute.specs.Requests.{Frame, Asks}
use Rattle.zk_model.specs.Watches.{Seen, Watches, no_watches, set_watches}
use Rattle.zk_model.specs.Znodes.{Tree}
use Rattle.zk_model.specs.declared.reply.Body.TheVariants as body
use Rattle.zk_model.specs.declared.reply.Reply.{Reply}
use Rattle.zk_model.specs.declared.reply.Reply.TheVariants as reply
use Rattle.zk_model.specs.declared.request.Request.{Request}
use Rattle.zk_model.specs.declared.request.Request.TheVariants as req
use Rattle.zk_service.specs.Answers.{Told, owned_limit_in, only, plain_request, rearmed, session_refusal, tree_reply}
use Rattle.zk_service.specs.States.{Session, State, limit_of, session_at}
use Rattle.zk_transcript.specs.History.{state_at}
use Rattle.zk_transcript.specs.Walks.{looked, seen_told, told_as_of, with_end}
use Rattle.zk_transcript.specs.declared.transcript.TranscriptLine.{TranscriptLine}
use Rattle.zk_service.proofs.PlainReplies.{plain-none}
use Rattle.zx_base.proofs.Options.{some_is}
use Rattle.zn_reads.specs.SeenPaths.{seen_paths}
use Rattle.zn_view.specs.Needs.{LacksNothing}
use Rattle.zn_reads.proofs.Setting.{set_by}
use Rattle.zn_view.specs.Seen.{View}
use Rattle.zn_view.specs.Views.{IsByForm, IsBySession, IsByTree, IsOf, armed_by, live, rearms}
use Rattle.zn_view.specs.declared.plan.Arm.{Arm}
use Rattle.zn_view.specs.declared.plan.Decision.{Decision}
use Rattle.zn_view.specs.declared.plan.Decision.TheVariants.{Answered, Expired, Moved}
use Rattle.zn_view.specs.declared.plan.Who.{Who}
use Rattle.zw_watch.specs.SeenPaths.{see_paths, unseen}
use Rattle.zp_step.specs.Looking.{change_by}
use Rattle.zp_step.specs.Stages.{WatchChange, seen_by}
use Rattle.zp_laws.proofs.Arming.{tree-alike}

-- ---- as of a moment, where the request has no line of its own

-- the session's refusal ends the conversation
pub refused-told : (lines : List TranscriptLine) (conn moment : ℕ) (id : ℤ) (x : Frame) (r : Reply) (ws : Watches) → session_refusal conn (session_at id (state_at lines moment)) ≡ Some r
    → told_as_of (take moment lines) conn id x ws None ≡ Some (true, only ws r)
unfolding told_as_of
refused-told lines conn moment id x r ws h = ap (seen_told (state_at lines moment) (owned_limit_in (session_at id (state_at lines moment))) id x ws) h

-- and else it is the tree's answer
pub tree-told : (lines : List TranscriptLine) (conn moment : ℕ) (id : ℤ) (xid : ℤ) (q : Request) (t : Told) (ws : Watches) (limit : ℕ) → owned_limit_in (session_at id (state_at lines moment)) ≡ limit
    → session_refusal conn (session_at id (state_at lines moment)) ≡ None → plain_request no_watches q ≡ None → tree_reply (state_at lines moment).tree limit id ws q ≡ Some t
    → told_as_of (take moment lines) conn id (Asks xid q) ws None ≡ Some (false, t)
unfolding told_as_of
tree-told lines conn moment id xid q t ws limit l h p r =
    let s = state_at lines moment in
    let x = Asks xid q in
    ap (λ n. seen_told s n id x ws (session_refusal conn (session_at id s))) l
    ∙ ap (seen_told s limit id x ws) h
    ∙ ap (λ o. with_end false (looked s limit id ws x o)) (plain-none no_watches ws (Asks xid q) p)
    ∙ ap (with_end false) r

-- ---- what a decision says of a state

-- the session is here, and the reply is the tree's
pub record ByTree (s : State) (who : Who) (q : Request) (r : Reply) (arm : Option Arm) : Type 0 where
  pub session : Session
  pub lives : live (session_at who.session s) ≡ Some session
  pub mine : session.attached ≡ who.mine
  pub told : Told
  pub tree : tree_reply s.tree (limit_of session) who.session no_watches q ≡ Some told
  pub said : told.reply ≡ r
  pub armed : rearms q ≡ false → told.watches ≡ armed_by arm no_watches

answered-same : (r x : Reply) (arm a : Option Arm) → Answered r arm ≡ Answered x a → (r ≡ x) × (arm ≡ a)
answered-same r x arm a e = (cc, cc)

pub answered-by : (s : State) (who : Who) (q : Request) (r : Reply) (arm : Option Arm) (o : Option Session) → live (session_at who.session s) ≡ o → IsBySession s who q (Answered r arm) o → ByTree s who q r arm
answered-by s who q r arm None e b = absurd (cc)
answered-by s who q r arm (Some x) e b = go (int_eq x.attached who.mine) refl b
  where
    by_tree : (o : Option Told) → tree_reply s.tree (limit_of x) who.session no_watches q ≡ o → int_eq x.attached who.mine ≡ true → IsByTree q (Answered r arm) o → ByTree s who q r arm
    by_tree None f i (p, g) = absurd (cc)
    by_tree (Some t) f i (a, g, armed, none) =
        let same = answered-same r t.reply arm a g in
        record { session = x; lives = e; mine = (Decides-int_eq x.attached who.mine).0 i; told = t; tree = f; said = sym same.0; armed = λ h. armed h ∙ ap (λ y. armed_by y no_watches) (sym same.1) }

    go : (i : Bool) → int_eq x.attached who.mine ≡ i → MatchBool i (IsByTree q (Answered r arm) (tree_reply s.tree (limit_of x) who.session no_watches q)) (Answered r arm ≡ Moved x.attached) → ByTree s who q r arm
    go true i t = by_tree (tree_reply s.tree (limit_of x) who.session no_watches q) refl i t
    go false i t = absurd (cc)

pub expired-by : (s : State) (who : Who) (q : Request) (o : Option Session) → IsBySession s who q Expired o → o ≡ None
expired-by s who q None b = refl
expired-by s who q (Some x) b = go (int_eq x.attached who.mine) b
  where
    by_tree : (t : Option Told) → IsByTree q Expired t → ⊥
    by_tree None (p, g) = cc
    by_tree (Some t) (a, g, armed, none) = cc

    go : (i : Bool) → MatchBool i (IsByTree q Expired (tree_reply s.tree (limit_of x) who.session no_watches q)) (Expired ≡ Moved x.attached) → Some x ≡ None
    go true t = absurd (by_tree (tree_reply s.tree (limit_of x) who.session no_watches q) t)
    go false t = absurd (cc)

pub record MovedTo (o : Option Session) (mine : ℤ) : Type 0 where
  pub session : Session
  pub there : o ≡ Some session
  pub differ : session.attached ≡ mine → ⊥

pub moved-by : (s : State) (who : Who) (q : Request) (found : ℤ) (o : Option Session) → IsBySession s who q (Moved found) o → MovedTo o who.mine
moved-by s who q found None b = absurd (cc)
moved-by s who q found (Some x) b = go (int_eq x.attached who.mine) refl b
  where
    by_tree : (t : Option Told) → IsByTree q (Moved found) t → ⊥
    by_tree None (p, g) = cc
    by_tree (Some t) (a, g, armed, none) = cc

    no : int_eq x.attached who.mine ≡ false → x.attached ≡ who.mine → ⊥
    no e s = let t = (Decides-int_eq x.attached who.mine).1 s in cc

    go : (i : Bool) → int_eq x.attached who.mine ≡ i → MatchBool i (IsByTree q (Moved found) (tree_reply s.tree (limit_of x) who.session no_watches q)) (Moved found ≡ Moved x.attached) → MovedTo (Some x) who.mine
    go true e t = absurd (by_tree (tree_reply s.tree (limit_of x) who.session no_watches q) t)
    go false e t = record { session = x; there = refl; differ = no e }

-- the form decides nothing here
pub by-form : (s : State) (who : Who) (q : Request) (d : Decision) → plain_request no_watches q ≡ None → IsByForm s who q d (plain_request no_watches q) → IsBySession s who q d (live (session_at who.session s))
by-form s who q d h f = subst (IsByForm s who q d) h f

-- ---- what is told, whatever is armed

abbrev pub told_by : WatchChange → Reply → Watches → Told
told_by change r ws = record { reply = r; notices = (seen_by change ws).notices; watches = (seen_by change ws).watches }

set-told : (t : Tree) (limit : ℕ) (id since : ℤ) (exists datas children : List (List ℕ)) (ws : Watches) (u : Told) (r : Reply) (f : Seen) → set_watches t since datas exists children ws ≡ f
    → tree_reply t limit id no_watches (req.SetWatches since exists datas children) ≡ Some u → u.reply ≡ r → tree_reply t limit id ws (req.SetWatches since exists datas children) ≡ Some (record { reply = r; notices = f.notices; watches = f.watches })
unfolding tree_reply
set-told t limit id since exists datas children ws u r f e a b =
    let s = set_watches t since datas exists children no_watches in
    let same : record { reply = reply.Good body.Empty; notices = s.notices; watches = s.watches } ≡ u = some_is a in
    ap rearmed e ∙ ap (λ y. Some (record { reply = y; notices = f.notices; watches = f.watches })) (ap (λ (x : Told). x.reply) same ∙ b)

module _ (s : State) (who : Who) (v : View) (r : Reply) (arm : Option Arm) (ws : Watches) (of : IsOf v s) where
  read-told : (q : Request) (b : ByTree s who q r arm) → rearms q ≡ false → tree_reply s.tree (limit_of b.session) who.session ws q ≡ Some (record { reply = r; notices = []; watches = armed_by arm ws })
  read-told q b h = tree-alike s.tree (limit_of b.session) who.session q h b.told arm ws b.tree (b.armed h) ∙ ap (λ y. Some (record { reply = y; notices = []; watches = armed_by arm ws })) b.said

  pub told-by : (q : Request) (b : ByTree s who q r arm) → LacksNothing q who v → tree_reply s.tree (limit_of b.session) who.session ws q ≡ Some (told_by (change_by q v arm) r ws)
  told-by (req.SetWatches since exists datas children) b whole =
      set-told s.tree (limit_of b.session) who.session since exists datas children ws b.told r (see_paths since (unseen ws) (seen_paths v datas exists children)) (set_by v datas exists children who since whole s of ws) b.tree b.said
  told-by (req.Exists p x) b whole = read-told (req.Exists p x) b refl
  told-by (req.GetData p x) b whole = read-told (req.GetData p x) b refl
  told-by (req.GetAcl p) b whole = read-told (req.GetAcl p) b refl
  told-by (req.GetChildren p x) b whole = read-told (req.GetChildren p x) b refl
  told-by (req.GetChildren2 p x) b whole = read-told (req.GetChildren2 p x) b refl
  told-by (req.Sync p) b whole = read-told (req.Sync p) b refl
  told-by (req.Check p x) b whole = read-told (req.Check p x) b refl
  told-by (req.Create p d a x) b whole = read-told (req.Create p d a x) b refl
  told-by (req.Delete p x) b whole = read-told (req.Delete p x) b refl
  told-by (req.SetData p d x) b whole = read-told (req.SetData p d x) b refl
  told-by (req.Multi parts) b whole = read-told (req.Multi parts) b refl
  told-by req.Ping b whole = read-told req.Ping b refl
  told-by (req.Auth kind scheme auth) b whole = read-told (req.Auth kind scheme auth) b refl
  told-by req.Close b whole = read-told req.Close b refl
  told-by (req.Create2 p d a x) b whole = read-told (req.Create2 p d a x) b refl
  told-by (req.CheckWatches p x) b whole = read-told (req.CheckWatches p x) b refl
  told-by (req.RemoveWatches p x) b whole = read-told (req.RemoveWatches p x) b refl
