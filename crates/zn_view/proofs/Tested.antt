-- The session test: what the record of a session's life says of the session, and the decisions that follow.
use Rattle.std.proofs.Common.{◌≡◌, ℕ, ℤ, pos, refl, sym, ap, ◌∙◌, subst, Bool, true, false}
use Rattle.std.specs.Prelude.{Option, Some, None, nat_abs, ◌≤ℤ◌, if◌then◌else◌, MatchBool}
use Rattle.std.specs.Ordering.{int_eq}
use Rattle.ev_types.specs.declared.answer.Kv.{Kv}
use Rattle.ev_types.specs.Ranges.{Keys}
use Rattle.zk_model.specs.declared.request.Request.{Request}
use Rattle.zk_model.specs.Watches.{no_watches}
use Rattle.zk_service.specs.Answers.{Told, plain_request, tree_reply}
use Rattle.zk_service.specs.States.{State, Session, IsSound, limit_of, session_at}
use Rattle.zn_layout.specs.Keys.{LeaseKey, key_bytes}
use Rattle.zn_layout.specs.StandsFor.{StandsFor, LifeMeans, at, stored_of}
use Rattle.zn_view.specs.declared.plan.Decision.{Decision}
use Rattle.zn_view.specs.declared.plan.Decision.TheVariants.{Answered, Expired, Moved}
use Rattle.zn_view.specs.declared.plan.Who.{Who}
use Rattle.zn_layout.specs.Listing.{HasValidPaths}
use Rattle.zn_view.specs.Laws.{LivesAs, life_seen}
use Rattle.zn_view.specs.Seen.{View}
use Rattle.zn_view.specs.Views.{Agrees, IsByForm, IsBySession, IsByTree, IsDecision, IsOf, live}
use Rattle.zn_view.proofs.AsSeen.{agrees-seen}
use Rattle.zx_base.proofs.Numbers.{pos-abs}

-- ---- a session by the record of its life

live-lapsed : (x : Session) (b : Bool) → x.lapsed ≡ b → live (Some x) ≡ (if b then None else Some x)
live-lapsed x b e = ap (λ (c : Bool). if c then None else Some x) e

lives-means : (id : ℕ) (o : Option Session) (kv : Option Kv) → LifeMeans id o (stored_of kv) → LivesAs kv (live o)
lives-means id None None h = refl
lives-means id None (Some kv) h = absurd h
lives-means id (Some x) None h = live-lapsed x true h
lives-means id (Some x) (Some kv) h = (x, live-lapsed x false h.alive, h.attached)

pub session-lives : (m : Keys) (s : State) (id : ℤ) → pos 1 ≤ℤ id → StandsFor m s → LivesAs (at m (LeaseKey (nat_abs id))) (live (session_at id s))
session-lives m s id least stands =
    subst (λ (i : ℤ). LivesAs (at m (LeaseKey (nat_abs id))) (live (session_at i s))) (pos-abs id least)
    (lives-means (nat_abs id) (session_at (pos (nat_abs id)) s) (at m (LeaseKey (nat_abs id))) (stands.each (LeaseKey (nat_abs id))))

-- ---- decisions

lives-seen : (v : View) (who : Who) (s : State) (o : Option Kv) → pos 1 ≤ℤ who.session → life_seen v who ≡ Some o → IsOf v s → LivesAs o (live (session_at who.session s))
lives-seen v who s o least saw of =
    subst (λ (p : Option Kv). LivesAs p (live (session_at who.session s))) (agrees-seen v of.0 (key_bytes (LeaseKey (nat_abs who.session))) o of.2 saw)
    (session-lives of.0 s who.session least of.1)

by-session : (r : Request) (who : Who) (s : State) (d : Decision) → plain_request no_watches r ≡ None → IsBySession s who r d (live (session_at who.session s)) → IsByForm s who r d (plain_request no_watches r)
by-session r who s d plain h = subst (λ (o : Option Told). IsByForm s who r d o) (sym plain) h

-- the record of the session's life isn't there
pub expired-decides : (r : Request) (who : Who) (v : View) → pos 1 ≤ℤ who.session → plain_request no_watches r ≡ None → life_seen v who ≡ Some None → IsDecision r who v Expired
expired-decides r who v least plain saw = λ s sound valid of.
    by-session r who s Expired plain (subst (λ (o : Option Session). IsBySession s who r Expired o) (sym (lives-seen v who s None least saw of)) refl)

moved-by : (r : Request) (who : Who) (s : State) (x : Session) (n : ℤ) (b : Bool) → int_eq x.attached who.mine ≡ b → b ≡ false → x.attached ≡ n → IsBySession s who r (Moved n) (Some x)
moved-by r who s x n b e f is = subst (λ (c : Bool). MatchBool c (IsByTree r (Moved n) (tree_reply s.tree (limit_of x) who.session no_watches r)) (Moved n ≡ Moved x.attached)) (sym (e ∙ f)) (ap (λ (k : ℤ). Moved k) (sym is))

-- the record was put at another revision
pub moved-decides : (r : Request) (who : Who) (v : View) (kv : Kv) → pos 1 ≤ℤ who.session → plain_request no_watches r ≡ None → life_seen v who ≡ Some (Some kv) → int_eq kv.mod_revision who.mine ≡ false → IsDecision r who v (Moved kv.mod_revision)
moved-decides r who v kv least plain saw apart = λ s sound valid of.
    let lives = lives-seen v who s (Some kv) least saw of in
    by-session r who s (Moved kv.mod_revision) plain
    (subst (λ (o : Option Session). IsBySession s who r (Moved kv.mod_revision) o) (sym lives.1)
    (moved-by r who s lives.0 kv.mod_revision (int_eq (lives.0).attached who.mine) refl (ap (λ (n : ℤ). int_eq n who.mine) lives.2 ∙ apart) lives.2))

tree-by : (r : Request) (who : Who) (s : State) (x : Session) (d : Decision) → int_eq x.attached who.mine ≡ true → IsByTree r d (tree_reply s.tree (limit_of x) who.session no_watches r) → IsBySession s who r d (Some x)
tree-by r who s x d e h = subst (λ (c : Bool). MatchBool c (IsByTree r d (tree_reply s.tree (limit_of x) who.session no_watches r)) (d ≡ Moved x.attached)) (sym e) h

-- the record was put at the attachment's revision: the tree decides
pub tree-decides : (r : Request) (who : Who) (v : View) (d : Decision) (kv : Kv) → pos 1 ≤ℤ who.session → plain_request no_watches r ≡ None → life_seen v who ≡ Some (Some kv) → int_eq kv.mod_revision who.mine ≡ true
    → ((m : Keys) (s : State) (x : Session) → IsSound s → HasValidPaths s.tree → StandsFor m s → Agrees v m → live (session_at who.session s) ≡ Some x → IsByTree r d (tree_reply s.tree (limit_of x) who.session no_watches r))
    → IsDecision r who v d
tree-decides r who v d kv least plain saw here tells = λ s sound valid of.
    let lives = lives-seen v who s (Some kv) least saw of in
    by-session r who s d plain
    (subst (λ (o : Option Session). IsBySession s who r d o) (sym lives.1)
    (tree-by r who s lives.0 d (ap (λ (n : ℤ). int_eq n who.mine) lives.2 ∙ here) (tells of.0 s lives.0 sound valid of.1 of.2 lives.1)))

-- the form decides before the session
pub form-decides : (r : Request) (who : Who) (v : View) (t : Told) → plain_request no_watches r ≡ Some t → IsDecision r who v (Answered t.reply None)
form-decides r who v t plain = λ s sound valid of. subst (λ (o : Option Told). IsByForm s who r (Answered t.reply None) o) (sym plain) refl
