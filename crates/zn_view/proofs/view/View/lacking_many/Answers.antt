use Rattle.std.proofs.Common.{◌≡◌, ap, ◌∙◌}
use Rattle.std.specs.Prelude.{is_some}
use Rattle.std.proofs.lemmas.Result.{IfOk-weaker}
use Rattle.std.specs.BTreeSet as set
use Rattle.std.specs.Ordering.{nat_cmp}
use Rattle.std.specs.Cmp.Lexicographic.{slice_cmp}
use Rattle.zx_base.specs.Maps.{Bytes}
use Rattle.zn_view.specs.Seen.{seen_in}
use Rattle.zn_view.proofs.Unknown.{known_from-none}
use Rattle.zn_view.proofs.view.View.lacking_many.Goals as goal

pub returns : goal.returns
returns c =
    let knows : (q : Bytes) → set.contains (slice_cmp nat_cmp) c.in_ok-known.known q ≡ is_some (seen_in q c.args.self.now.keys) = λ q. c.in_ok-known.ensures q ∙ known_from-none q c.keys.result.now ∙ ap (λ xs. is_some (seen_in q xs)) c.keys.ensures.is in
    IfOk-weaker c.want_all_unknown.result _ _ (λ ws is. is c.args.self.now knows) c.want_all_unknown.ensures
