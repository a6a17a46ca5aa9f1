-- Answers without the tree, by their replies.
use Rattle.std.proofs.Common.{◌≡◌, ℕ, ℤ, ◌+◌, Bool, true, false, List, Option, Some, None, refl, sym, ap, ◌∙◌, subst}
use Rattle.std.specs.Prelude.{◌||◌, is_some, option_and_then, option_map}
use Rattle.zx_base.proofs.Options.{some_is}
use Rattle.zk_jute.specs.Packets.{CanBeSent}
use Rattle.zk_jute.specs.Requests.{Frame, Asks, read_request}
use Rattle.zk_model.specs.Watches.{Watches, no_watches}
use Rattle.zk_model.specs.declared.reply.Reply.{Reply}
use Rattle.zk_model.specs.declared.request.Request.{Request}
use Rattle.zk_model.specs.declared.request.Request.TheVariants as req
use Rattle.zx_base.specs.Maps.{Bytes}
use Rattle.zk_service.specs.Answers.{Told, asks_of_watches, only, plain_reply, told_of_watcher, tree_reply, xid_of}
use Rattle.zk_service.specs.States.{State}
use Rattle.zk_transcript.specs.History.{asked_in}
use Rattle.zk_transcript.specs.Walks.{Walker, answer_plainly, later_of, looked, plain_answer}
use Rattle.zk_least.specs.LeastWalk.{is_answer, is_plain, is_watch_answer}
use Rattle.zk_service.proofs.PlainReplies.{plain-none, plain-only, plain-some}
use Rattle.zk_judge.specs.Seen.{reply_in}
use Rattle.zk_judge.proofs.Sendable.{IfTold, plain-told}

-- the reply of an answer without the tree can be sent
pub plain-sent : (x : Frame) (r : Reply) → Some r ≡ reply_in (plain_reply no_watches x) → CanBeSent r
plain-sent x r is = by (plain_reply no_watches x) (plain-told no_watches x) is
  where
    by : (o : Option Told) → IfTold o → Some r ≡ reply_in o → CanBeSent r
    by None fits e = absurd (cc)
    by (Some t) fits e = subst CanBeSent (sym (some_is e)) fits.reply

pub plain-is : (x : Frame) (o : Option Told) (r : Reply) (bytes : List ℕ) → Some r ≡ reply_in o → (is_answer x bytes r || is_watch_answer x bytes (asks_of_watches x)) ≡ is_plain x o bytes
plain-is x None r bytes is = absurd (cc)
plain-is x (Some t) r bytes is = ap (λ (q : Reply). is_answer x bytes q || is_watch_answer x bytes (asks_of_watches x)) (some_is is)

pub plain-is-not : (x : Frame) (o : Option Told) (bytes : List ℕ) → None ≡ reply_in o → false ≡ is_plain x o bytes
plain-is-not x None bytes is = refl
plain-is-not x (Some t) bytes is = absurd (cc)

-- ---- with what is armed

-- the reply to another frame than a checkWatches or removeWatches is the same with any watches, and leaves them armed
pub with-armed : (w : Watches) (x : Frame) (o : Option Reply) → asks_of_watches x ≡ false → o ≡ reply_in (plain_reply no_watches x) → option_map (only w) o ≡ plain_reply w x
with-armed w x o other is = ap (option_map (only w)) is ∙ sym (plain-only w no_watches x other)

-- a reply to a frame that the tree does not decide can be sent, whatever is armed
pub said-sent : (w : Watches) (x : Frame) (t : Told) → Some t ≡ plain_reply w x → CanBeSent t.reply
said-sent w x t is = (subst IfTold (sym is) (plain-told w x)).reply

pub plainly-said : (w : Walker) (k : ℕ) (bytes : List ℕ) (x : Frame) (t : Told) → x ≡ read_request bytes → Some t ≡ plain_reply w.watches x
    → plain_answer w (later_of w.since (k + 1)) (xid_of x) (Some t) ≡ answer_plainly w (Some (k, bytes))
plainly-said w k bytes x t reads is =
    ap (plain_answer w (later_of w.since (k + 1)) (xid_of x)) is
    ∙ ap (λ (y : Frame). plain_answer w (later_of w.since (k + 1)) (xid_of y) (plain_reply w.watches y)) reads

pub plainly-none : (w : Walker) (k : ℕ) (bytes : List ℕ) (x : Frame) → x ≡ read_request bytes → None ≡ plain_reply w.watches x → None ≡ answer_plainly w (Some (k, bytes))
plainly-none w k bytes x reads is =
    ap (plain_answer w (later_of w.since (k + 1)) (xid_of x)) is
    ∙ ap (λ (y : Frame). plain_answer w (later_of w.since (k + 1)) (xid_of y) (plain_reply w.watches y)) reads

-- what is told of watches has no notices
pub watcher-only : (w rest : Watches) (valid hit : Bool) → only (told_of_watcher w rest valid hit).watches (told_of_watcher w rest valid hit).reply ≡ told_of_watcher w rest valid hit
watcher-only w rest false hit = refl
watcher-only w rest true false = refl
watcher-only w rest true true = refl

-- any other request is not about watches
pub other-watches : (xid : ℤ) (r : Request) → ((p : Bytes) (kind : ℤ) → r ≡ req.CheckWatches p kind → ⊥) → ((p : Bytes) (kind : ℤ) → r ≡ req.RemoveWatches p kind → ⊥) → asks_of_watches (Asks xid r) ≡ false
other-watches xid (req.CheckWatches p kind) check remove = absurd (check p kind refl)
other-watches xid (req.RemoveWatches p kind) check remove = absurd (remove p kind refl)
other-watches xid _ check remove = refl

-- ---- the tree is asked only where it decides

reply-some : (o : Option Told) (p : Option Reply) → p ≡ reply_in o → is_some p ≡ true → (t : Told) × (o ≡ Some t)
reply-some None p is some = (let bad : false ≡ true = sym (ap is_some is) ∙ some in absurd (cc))
reply-some (Some t) p is some = (t, refl)

reply-none : (o : Option Told) (p : Option Reply) → p ≡ reply_in o → is_some p ≡ false → o ≡ None
reply-none None p is none = refl
reply-none (Some t) p is none = (let bad : true ≡ false = sym (ap is_some is) ∙ none in absurd (cc))

pub looked-plain : (s : State) (limit : ℕ) (id : ℤ) (w : Watches) (x : Frame) (o : Option Reply) → o ≡ reply_in (plain_reply no_watches x) → is_some o ≡ true → None ≡ looked s limit id w x (plain_reply w x)
looked-plain s limit id w x o is some =
    let a = reply-some (plain_reply no_watches x) o is some in
    let b = plain-some no_watches w x a.0 a.1 in
    ap (looked s limit id w x) (sym b.1)

pub looked-tree : (s : State) (limit : ℕ) (id : ℤ) (w : Watches) (x : Frame) (o : Option Reply) → o ≡ reply_in (plain_reply no_watches x) → is_some o ≡ false
    → option_and_then (tree_reply s.tree limit id w) (asked_in x) ≡ looked s limit id w x (plain_reply w x)
looked-tree s limit id w x o is none = ap (looked s limit id w x) (sym (plain-none no_watches w x (reply-none (plain_reply no_watches x) o is none)))
