-- An answer without the tree has no notices, and only that to a checkWatches or removeWatches depends on what is armed.
use Rattle.std.proofs.Common.{◌≡◌, refl, sym, ap, ◌∙◌, subst, Bool, true, false, ℤ, [], inl, inr}
use Rattle.std.specs.Prelude.{◌⊎◌, Option, Some, None, option_map, length, nat_lt, if◌then◌else◌}
use Rattle.zx_base.specs.Maps.{Bytes}
use Rattle.zk_model.specs.declared.reply.Body.TheVariants as body
use Rattle.zk_model.specs.declared.reply.Reply.{Reply}
use Rattle.zk_model.specs.declared.reply.Reply.TheVariants as reply
use Rattle.zk_model.specs.declared.request.Part.TheVariants as part
use Rattle.zk_model.specs.declared.request.Request.{Request}
use Rattle.zk_model.specs.declared.request.Request.TheVariants as req
use Rattle.zk_model.specs.Codes.{bad_arguments, no_watcher}
use Rattle.zk_model.specs.Limits.{max_parts}
use Rattle.zk_model.specs.Paths.{is_path}
use Rattle.zk_model.specs.Single.{form_refusal}
use Rattle.zk_model.specs.Watches.{Watches, is_watched, unwatched}
use Rattle.zk_jute.specs.Requests.{Frame, NoHeader, Unreadable, Unknown, Asks}
use Rattle.zk_service.specs.Answers.{is_auth_refusal, Told, asks_of_watches, has_valid_form, only, told, plain_request, plain_reply, told_of_watcher, told_refusal, told_of_path}

-- the reply of what is told
abbrev pub reply_in : Option Told → Option Reply
reply_in o = option_map (λ (t : Told). t.reply) o

-- what an answer without the tree is: none, the same with any watches, or one to a request about watches
data Plain (w v : Watches) (watches : Bool) (o p : Option Told) : Type 0 where
  Untold : o ≡ None → p ≡ None → Plain w v watches o p
  Alike : (r : Reply) → o ≡ told w r → p ≡ told v r → Plain w v watches o p
  Watched : watches ≡ true → (a b : Watches) (hit met : Bool) (valid : Bool) → o ≡ Some (told_of_watcher w a valid hit) → p ≡ Some (told_of_watcher v b valid met) → Plain w v watches o p

refusal-both : (w v : Watches) (o : Option ℤ) → Plain w v false (told_refusal w o) (told_refusal v o)
refusal-both w v None = Untold refl refl
refusal-both w v (Some code) = Alike (reply.Refused code) refl refl

path-both : (w v : Watches) (p : Bytes) → Plain w v false (told_of_path w p) (told_of_path v p)
path-both w v p = by (is_path p)
  where
    by : (b : Bool) → Plain w v false (if b then None else told w (reply.Refused bad_arguments)) (if b then None else told v (reply.Refused bad_arguments))
    by true = Untold refl refl
    by false = Alike (reply.Refused bad_arguments) refl refl

multi-both : (w v : Watches) (b : Bool) (r : Reply) → Plain w v false (if b then told w r else None) (if b then told v r else None)
multi-both w v true r = Alike r refl refl
multi-both w v false r = Untold refl refl

request-both : (w v : Watches) (xid : ℤ) (r : Request) → Plain w v (asks_of_watches (Asks xid r)) (plain_request w r) (plain_request v r)
unfolding plain_request
request-both w v xid req.Ping = Alike _ refl refl
request-both w v xid (req.Auth k s a) = Alike _ refl refl
request-both w v xid (req.Multi parts) = multi-both w v (nat_lt max_parts (length parts)) (reply.Refused bad_arguments)
request-both w v xid (req.Create p d a f) = refusal-both w v (form_refusal (part.Create p d a f))
request-both w v xid (req.Delete p x) = refusal-both w v (form_refusal (part.Delete p x))
request-both w v xid (req.SetData p d x) = refusal-both w v (form_refusal (part.SetData p d x))
request-both w v xid (req.Check p x) = refusal-both w v (form_refusal (part.Check p x))
request-both w v xid (req.Exists p b) = path-both w v p
request-both w v xid (req.GetData p b) = path-both w v p
request-both w v xid (req.GetAcl p) = path-both w v p
request-both w v xid (req.GetChildren p b) = path-both w v p
request-both w v xid (req.GetChildren2 p b) = path-both w v p
request-both w v xid (req.Sync p) = path-both w v p
request-both w v xid (req.SetWatches r e d c) = Untold refl refl
request-both w v xid req.Close = Untold refl refl
request-both w v xid (req.Create2 p d a f) = refusal-both w v (form_refusal (part.Create p d a f))
request-both w v xid (req.CheckWatches p k) = Watched refl w v (is_watched w p k) (is_watched v p k) (has_valid_form p k) refl refl
request-both w v xid (req.RemoveWatches p k) = Watched refl (unwatched w p k) (unwatched v p k) (is_watched w p k) (is_watched v p k) (has_valid_form p k) refl refl

plain-both : (w v : Watches) (x : Frame) → Plain w v (asks_of_watches x) (plain_reply w x) (plain_reply v x)
plain-both w v NoHeader = Untold refl refl
plain-both w v (Unreadable xid place) = Alike _ refl refl
plain-both w v (Unknown xid kind) = Alike _ refl refl
plain-both w v (Asks xid r) = request-both w v xid r

-- whatever is armed, there is an answer or there is none
pub plain-none : (w v : Watches) (x : Frame) → plain_reply w x ≡ None → plain_reply v x ≡ None
plain-none w v x h = by (plain-both w v x)
  where
    by : Plain w v (asks_of_watches x) (plain_reply w x) (plain_reply v x) → plain_reply v x ≡ None
    by (Untold e f) = f
    by (Alike r e f) = absurd (cc)
    by (Watched is a b hit met valid e f) = absurd (cc)

pub plain-some : (w v : Watches) (x : Frame) (t : Told) → plain_reply w x ≡ Some t → (u : Told) × (plain_reply v x ≡ Some u)
plain-some w v x t h = by (plain-both w v x)
  where
    by : Plain w v (asks_of_watches x) (plain_reply w x) (plain_reply v x) → (u : Told) × (plain_reply v x ≡ Some u)
    by (Untold e f) = absurd (cc)
    by (Alike r e f) = (_, f)
    by (Watched is a b hit met valid e f) = (_, f)

same_told : (t u : Told) (o : Option Told) → o ≡ Some t → o ≡ Some u → t ≡ u
same_told t u o e f = let s : Some t ≡ Some u = sym e ∙ f in cc

watcher-quiet : (w a : Watches) (valid hit : Bool) → (told_of_watcher w a valid hit).notices ≡ []
watcher-quiet w a false hit = refl
watcher-quiet w a true false = refl
watcher-quiet w a true true = refl

pub plain-quiet : (w : Watches) (x : Frame) (t : Told) → plain_reply w x ≡ Some t → t.notices ≡ []
plain-quiet w x t h = by (plain-both w w x)
  where
    by : Plain w w (asks_of_watches x) (plain_reply w x) (plain_reply w x) → t.notices ≡ []
    by (Untold e f) = absurd (cc)
    by (Alike r e f) = ap (λ (u : Told). u.notices) (same_told t (only w r) (plain_reply w x) h e)
    by (Watched is a b hit met valid e f) =
        ap (λ (u : Told). u.notices) (same_told t (told_of_watcher w a valid hit) (plain_reply w x) h e) ∙ watcher-quiet w a valid hit

-- the reply is the same with any watches, or one that a request about watches gets by what is armed
abbrev pub IsEither : Bool → Reply → Reply → Type 0
IsEither watches r s = (r ≡ s) ⊎ ((watches ≡ true) × ((r ≡ reply.Good body.Empty) ⊎ (r ≡ reply.Refused no_watcher)))

watcher-either : (w v a b : Watches) (valid hit met watches : Bool) → watches ≡ true → IsEither watches (told_of_watcher w a valid hit).reply (told_of_watcher v b valid met).reply
watcher-either w v a b false hit met watches is = inl refl
watcher-either w v a b true false met watches is = inr (is, inr refl)
watcher-either w v a b true true met watches is = inr (is, inl refl)

pub plain-either : (w v : Watches) (x : Frame) (t u : Told) → plain_reply w x ≡ Some t → plain_reply v x ≡ Some u → IsEither (asks_of_watches x) t.reply u.reply
plain-either w v x t u h k = by (plain-both w v x)
  where
    by : Plain w v (asks_of_watches x) (plain_reply w x) (plain_reply v x) → IsEither (asks_of_watches x) t.reply u.reply
    by (Untold e f) = absurd (cc)
    by (Alike r e f) =
        inl (ap (λ (y : Told). y.reply) (same_told t (only w r) (plain_reply w x) h e) ∙ sym (ap (λ (y : Told). y.reply) (same_told u (only v r) (plain_reply v x) k f)))
    by (Watched is a b hit met valid e f) =
        subst (λ (y : Told). IsEither (asks_of_watches x) y.reply u.reply) (sym (same_told t (told_of_watcher w a valid hit) (plain_reply w x) h e))
        (subst (λ (y : Told). IsEither (asks_of_watches x) (told_of_watcher w a valid hit).reply y.reply) (sym (same_told u (told_of_watcher v b valid met) (plain_reply v x) k f))
        (watcher-either w v a b valid hit met (asks_of_watches x) is))

-- any other answer than one to a request about watches is the same with any watches, and leaves them armed
pub plain-only : (w v : Watches) (x : Frame) → asks_of_watches x ≡ false → plain_reply w x ≡ option_map (only w) (reply_in (plain_reply v x))
plain-only w v x other = by (plain-both w v x)
  where
    by : Plain w v (asks_of_watches x) (plain_reply w x) (plain_reply v x) → plain_reply w x ≡ option_map (only w) (reply_in (plain_reply v x))
    by (Untold e f) = e ∙ sym (ap (λ o. option_map (only w) (reply_in o)) f)
    by (Alike r e f) = e ∙ sym (ap (λ o. option_map (only w) (reply_in o)) f)
    by (Watched is a b hit met valid e f) = absurd (cc)

-- only an `auth` is refused so that the connection is closed, whatever is armed
watcher-mild : (w a : Watches) (valid hit : Bool) → is_auth_refusal (told_of_watcher w a valid hit).reply ≡ false
watcher-mild w a false hit = refl
watcher-mild w a true false = refl
watcher-mild w a true true = refl

pub plain-closes : (w v : Watches) (x : Frame) (t : Told) → plain_reply w x ≡ Some t → is_auth_refusal t.reply ≡ true → plain_reply v x ≡ Some (only v t.reply)
plain-closes w v x t h refused = by (plain-both w v x)
  where
    by : Plain w v (asks_of_watches x) (plain_reply w x) (plain_reply v x) → plain_reply v x ≡ Some (only v t.reply)
    by (Untold e f) = absurd (cc)
    by (Alike r e f) = f ∙ ap (λ (y : Reply). Some (only v y)) (sym (ap (λ (y : Told). y.reply) (same_told t (only w r) (plain_reply w x) h e)))
    by (Watched is a b hit met valid e f) =
        let mild = watcher-mild w a valid hit in
        let bad : true ≡ false = sym refused ∙ ap (λ (y : Told). is_auth_refusal y.reply) (same_told t (told_of_watcher w a valid hit) (plain_reply w x) h e) ∙ mild in
        absurd (cc)
