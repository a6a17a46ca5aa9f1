-- A pair that is there goes first.
use Rattle.std.proofs.Common.{ap, sym, subst, ◌∙◌, List, All}
use Rattle.lru.specs.LruCache.{LruCache}
use Rattle.zx_base.specs.Maps.{Bytes, same}
use Rattle.zn_view.specs.Seen.{View}
use Rattle.zp_kept.specs.Entries.{IsPlainPair}
use Rattle.zp_kept.proofs.Putting.{promoted-is, promoted-plain, promoted-stays}
use Rattle.zp_kept.proofs.views.promote.Goals as goal

pub returns-clause-first : goal.returns-clause-first
returns-clause-first c = λ v e. ap (λ (d : LruCache Bytes View). d.entries) c.promote-there.ensures.entries ∙ promoted-is c.args.path.now v c.args.cache.now.entries e

pub returns-clause-none : goal.returns-clause-none
returns-clause-none c = λ e. ap (λ (d : LruCache Bytes View). d.entries) c.promote-there.ensures.entries ∙ promoted-stays (same c.args.path.now) c.args.cache.now.entries e

pub returns-clause-views : goal.returns-clause-views
returns-clause-views c = (
  ap (λ (d : LruCache Bytes View). d.cap) c.promote-there.ensures.entries ∙ c.requires.0,
  subst (λ (l : List (Bytes × View)). All IsPlainPair l) (sym (ap (λ (d : LruCache Bytes View). d.entries) c.promote-there.ensures.entries)) (promoted-plain (same c.args.path.now) c.args.cache.now.entries c.requires.1),
)
