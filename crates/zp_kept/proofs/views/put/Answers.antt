-- A cache of 16 pairs or fewer takes the pair in, and drops the last one if it was full.
use Rattle.std.proofs.Common.{rules, ap, sym, subst, ◌∙◌, ◌≤◌, length, List, All}
use Rattle.lru.specs.LruCache.{LruCache}
use Rattle.zx_base.specs.Maps.{Bytes}
use Rattle.zn_view.specs.Seen.{View}
use Rattle.zp_kept.specs.Entries.{IsPlainPair}
use Rattle.zp_kept.proofs.Putting.{put-is, put-plain}
use Rattle.zp_kept.proofs.views.put.Goals as goal

pub returns-in-Ok-clause-put : goal.returns-in-Ok-clause-put
returns-in-Ok-clause-put c =
    let few : length c.args.cache.now.entries ≤ c.args.cache.now.cap = search rules in
    ap (λ (d : LruCache Bytes View). d.entries) c.in-Ok.ensures.entries ∙ put-is c.args.path c.args.view c.args.cache.now.entries c.args.cache.now.cap c.requires.views.0 few

pub returns-in-Ok-clause-views : goal.returns-in-Ok-clause-views
returns-in-Ok-clause-views c =
    let few : length c.args.cache.now.entries ≤ c.args.cache.now.cap = search rules in
    let is = ap (λ (d : LruCache Bytes View). d.entries) c.in-Ok.ensures.entries ∙ put-is c.args.path c.args.view c.args.cache.now.entries c.args.cache.now.cap c.requires.views.0 few in (
      ap (λ (d : LruCache Bytes View). d.cap) c.in-Ok.ensures.entries ∙ c.requires.views.0,
      subst (λ (l : List (Bytes × View)). All IsPlainPair l) (sym is) (put-plain c.args.path c.args.view c.args.cache.now.entries c.requires.plain c.requires.views.1),
    )
