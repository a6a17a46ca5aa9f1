use Rattle.std.proofs.Common.{◌≡◌, Bool, cond, ◌||◌, ◌+◌, [], ◌∷◌, ◌++◌, List, sym, ap, ◌∙◌, get_or, drop, rules, arith}
use Rattle.std.specs.Prelude.{fold}
use Rattle.std.proofs.lemmas.Grind.{common_steps}
use Rattle.std.proofs.lemmas.List.{at_drop_more}
use Rattle.std.specs.BTreeSet as set
use Rattle.std.specs.Ordering.{nat_cmp}
use Rattle.std.specs.Cmp.Lexicographic.{slice_cmp}
use Rattle.zx_base.specs.Maps.{Bytes, same}
use Rattle.zn_view.specs.declared.want.Want.{Want}
use Rattle.zn_view.specs.declared.want.Want.TheVariants as want
use Rattle.zn_view.specs.Lacking.{with_want}
use Rattle.zn_view.proofs.Unknown.{next-knows, next-wants}
use Rattle.zn_view.proofs.lacking.want_all_unknown.Goals as goal

pub loop-key-preserved : goal.loop-key-preserved
loop-key-preserved c v knows =
    let was = c.loop-key.invariant v knows in
    let k : Bytes = get_or c.args.keys.now c.loop-key.key-index [] in
    let step = at_drop_more (fold (with_want v) c.loop-key.wants) c.args.keys.now c.loop-key.key-index [] c.loop-key-test.true in
    let known : Bytes → Bool = λ q. set.contains (slice_cmp nat_cmp) c.loop-key.known q in
    let next : Bytes → Bool = λ q. set.contains (slice_cmp nat_cmp) c.want_unknown.new.known q in
    let item : c.key-item.result ≡ k = first_of (search rules, grind (arith, common_steps)) in
    let more : (q : Bytes) → next q ≡ (known q || same k q) = λ q. c.in_ok-want_unknown.ensures.known q ∙ ap (λ (b : Bytes). known q || same b q) item in
    let new : c.want_unknown.new.wants ≡ cond (known k) c.loop-key.wants (c.loop-key.wants ++ want.Key k ∷ []) =
    c.in_ok-want_unknown.ensures.wants ∙ ap (λ (b : Bytes). cond (known b) c.loop-key.wants (c.loop-key.wants ++ want.Key b ∷ [])) item in (
      next-knows v c.loop-key.wants known next k more was.0 c.want_unknown.new.wants new,
      ap (λ (l : List Want). fold (with_want v) l (drop (c.loop-key.key-index + 1) c.args.keys.now)) (sym (next-wants v c.loop-key.wants known next k more was.0 c.want_unknown.new.wants new)) ∙ sym step ∙ was.1,
    )
