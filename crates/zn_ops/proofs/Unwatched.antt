-- Where nothing is armed, no watch is found.
use Rattle.std.proofs.Common.{◌≡◌, Bool, true, false, ℤ, refl, sym, ap, ◌∙◌}
use Rattle.std.specs.Prelude.{◌&&◌, ◌||◌, Some}
use Rattle.std.specs.FinMap.{get-empty}
use Rattle.zx_base.specs.Maps.{Bytes}
use Rattle.zk_model.specs.declared.reply.Reply.{Reply}
use Rattle.zk_model.specs.declared.request.Request.TheVariants as req
use Rattle.zk_model.specs.Watches.{Watches, is_watched, names_children, names_data, no_watches, unwatched}
use Rattle.zk_service.specs.Answers.{has_valid_form, only, plain_request, told_of_watcher}

neither : (a b : Bool) → ((a && false) || (b && false)) ≡ false
neither true true = refl
neither true false = refl
neither false true = refl
neither false false = refl

unwatched-none : (p : Bytes) (kind : ℤ) → is_watched no_watches p kind ≡ false
unwatched-none p kind = rw (get-empty {X = Unit {0}} _ p) (neither (names_children kind) (names_data kind))

pub check-plain : (p : Bytes) (kind : ℤ) (r : Reply) → ((rest : Watches) → only no_watches r ≡ told_of_watcher no_watches rest (has_valid_form p kind) false) → Some (only no_watches r) ≡ plain_request no_watches (req.CheckWatches p kind)
unfolding plain_request
check-plain p kind r is = ap Some (is no_watches ∙ ap (told_of_watcher no_watches no_watches (has_valid_form p kind)) (sym (unwatched-none p kind)))

pub remove-plain : (p : Bytes) (kind : ℤ) (r : Reply) → ((rest : Watches) → only no_watches r ≡ told_of_watcher no_watches rest (has_valid_form p kind) false) → Some (only no_watches r) ≡ plain_request no_watches (req.RemoveWatches p kind)
unfolding plain_request
remove-plain p kind r is = ap Some (is (unwatched no_watches p kind) ∙ ap (told_of_watcher no_watches (unwatched no_watches p kind) (has_valid_form p kind)) (sym (unwatched-none p kind)))
