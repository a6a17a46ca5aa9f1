-- How a request that is not about watches is answered without the tree, whatever is armed.
use Rattle.std.proofs.Common.{◌≡◌, Bool, true, false, ℤ, refl, sym, ap, ◌∙◌}
use Rattle.std.specs.Prelude.{◌&&◌, Option, Some, None, option_map}
use Rattle.zk_jute.specs.Requests.{Asks}
use Rattle.zx_base.specs.Maps.{Bytes}
use Rattle.zk_model.specs.declared.reply.Body.TheVariants as body
use Rattle.zk_model.specs.declared.reply.Reply.TheVariants as reply
use Rattle.zk_model.specs.declared.request.Request.{Request}
use Rattle.zk_model.specs.declared.request.Request.TheVariants as req
use Rattle.zk_model.specs.Codes.{bad_arguments, no_watcher}
use Rattle.zk_model.specs.Paths.{is_path}
use Rattle.zk_model.specs.Watches.{Watches, is_watched, is_watcher_type, no_watches}
use Rattle.zk_service.specs.Answers.{Told, asks_of_watches, has_valid_form, only, plain_request, told_of_watcher}
use Rattle.zk_service.proofs.PlainReplies.{plain-only, reply_in}
use Rattle.zp_core.specs.Meanings.{told_with}

pub other-watches : (xid : ℤ) (r : Request) → ((p : Bytes) (kind : ℤ) → r ≡ req.CheckWatches p kind → ⊥) → ((p : Bytes) (kind : ℤ) → r ≡ req.RemoveWatches p kind → ⊥) → asks_of_watches (Asks xid r) ≡ false
other-watches xid (req.CheckWatches p kind) check remove = absurd (check p kind refl)
other-watches xid (req.RemoveWatches p kind) check remove = absurd (remove p kind refl)
other-watches xid _ check remove = refl

same-told : (w : Watches) (o : Option Told) → option_map (only w) (reply_in o) ≡ told_with w o
same-told w None = refl
same-told w (Some t) = refl

pub plain-with : (w : Watches) (xid : ℤ) (r : Request) → asks_of_watches (Asks xid r) ≡ false → plain_request w r ≡ told_with w (plain_request no_watches r)
plain-with w xid r other = plain-only w no_watches (Asks xid r) other ∙ same-told w (plain_request no_watches r)

-- ---- the answer by what was tested

pub no_path : (w rest : Watches) (p : Bytes) (kind : ℤ) (hit : Bool) → is_path p ≡ false → only w (reply.Refused bad_arguments) ≡ told_of_watcher w rest (has_valid_form p kind) hit
no_path w rest p kind hit e = sym (ap (λ (b : Bool). told_of_watcher w rest (b && is_watcher_type kind) hit) e)

pub no_type : (w rest : Watches) (p : Bytes) (kind : ℤ) (hit : Bool) → is_path p ≡ true → is_watcher_type kind ≡ false → only w (reply.Refused bad_arguments) ≡ told_of_watcher w rest (has_valid_form p kind) hit
no_type w rest p kind hit e f = sym (λ i. told_of_watcher w rest (e i && f i) hit)

pub no_watch : (w rest : Watches) (p : Bytes) (kind : ℤ) → is_path p ≡ true → is_watcher_type kind ≡ true → is_watched w p kind ≡ false
    → only w (reply.Refused no_watcher) ≡ told_of_watcher w rest (has_valid_form p kind) (is_watched w p kind)
no_watch w rest p kind e f g = sym (λ i. told_of_watcher w rest (e i && f i) (g i))

pub some_watch : (w rest : Watches) (p : Bytes) (kind : ℤ) → is_path p ≡ true → is_watcher_type kind ≡ true → is_watched w p kind ≡ true
    → only rest (reply.Good body.Empty) ≡ told_of_watcher w rest (has_valid_form p kind) (is_watched w p kind)
some_watch w rest p kind e f g = sym (λ i. told_of_watcher w rest (e i && f i) (g i))
