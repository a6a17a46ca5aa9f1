use Rattle.std.proofs.Common.{rules, ◌≡◌, ap, subst, ◌∙◌, refl}
use Rattle.ev_types.specs.declared.answer.Kv.{Kv}
use Rattle.ev_types.specs.Store.{put_over}
use Rattle.zx_base.specs.Maps.{Bytes}
use Rattle.zn_view.specs.Seen.{IsFound, found_of, seen_in}
use Rattle.zn_view.proofs.KeptActs.{put-named}
use Rattle.zn_view.proofs.keep.lay_put.Goals as goal

pub returns-clause-told : goal.returns-clause-told
returns-clause-told c =
    let is : c.in_ok-kv.kv ≡ put_over c.args.revision c.args.key.now c.args.value.now c.args.lease (found_of (seen_in c.args.key.now c.args.keys.now.items)) = search rules in
    let named : (c.in_ok-kv.kv).key ≡ c.args.key.now = ap (λ (x : Kv). x.key) is ∙ put-named c.args.revision c.args.key.now c.args.value.now c.args.lease (found_of (seen_in c.args.key.now c.args.keys.now.items)) in
    let found : IsFound (c.in_ok-kv.kv).key c.in_ok-kv.kv = search rules in
    (λ t. subst (λ (x : Kv). IsFound c.args.key.now x) is (subst (λ (k : Bytes). IsFound k c.in_ok-kv.kv) named found), λ f. refl)
