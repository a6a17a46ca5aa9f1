-- The pairs that are left have no lists either.
use Rattle.std.proofs.Common.{ap, sym, subst, ◌∙◌, List, All}
use Rattle.lru.specs.LruCache.{LruCache}
use Rattle.zx_base.specs.Maps.{Bytes, same}
use Rattle.zn_view.specs.Seen.{View}
use Rattle.zp_kept.specs.Entries.{IsPlainPair}
use Rattle.zp_kept.proofs.Putting.{removed-plain}
use Rattle.zp_kept.proofs.views.take_out.Goals as goal

pub returns-clause-views : goal.returns-clause-views
returns-clause-views c = (
  ap (λ (d : LruCache Bytes View). d.cap) c.pop-old.ensures.entries ∙ c.requires.0,
  subst (λ (l : List (Bytes × View)). All IsPlainPair l) (sym (ap (λ (d : LruCache Bytes View). d.entries) c.pop-old.ensures.entries)) (removed-plain (same c.args.path.now) c.args.cache.now.entries c.requires.1),
)
