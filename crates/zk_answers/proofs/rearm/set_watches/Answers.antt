use Rattle.std.proofs.Common.{◌≡◌, ap, ◌∙◌, [], ℤ, w64, to_z, of_z, arith}
use Rattle.std.proofs.lemmas.Int.{to_z-of_z}
use Rattle.zx_base.specs.Maps.{Bytes}
use Rattle.zk_model.specs.Paths.{is_path}
use Rattle.zk_model.specs.Watches.{Seen, see_data, see_exist, see_children, see_all, set_watches, valid_at}
use Rattle.zk_answers.specs.Outcomes.{seen_of}
use Rattle.zk_answers.proofs.rearm.set_watches.Goals as goal

pub returns : goal.returns
unfolding set_watches
returns c =
    let on_data : ℤ → Seen → Bytes → Seen = λ z s p. see_data z s p (valid_at p c.args.tree.now) in
    let on_children : ℤ → Seen → Bytes → Seen = λ z s p. see_children z s p (valid_at p c.args.tree.now) in
    let on_exist : Seen → Bytes → Seen = λ s p. see_exist (is_path p) s p (valid_at p c.args.tree.now) in
    let before : Seen = record { watches = c.args.watches.now; notices = [] } in
    let copied : Seen = record { watches = c.in_ok-copy.field-0; notices = c.new.result } in
    let begun : copied ≡ before = λ i. record { watches = c.in_ok-copy.ensures i; notices = c.new.ensures i } in
    let since : to_z w64 (of_z w64 c.args.since) ≡ c.args.since = grind (arith, to_z-of_z) in
    let first : seen_of c.in_ok-first.first ≡ see_all (on_data c.args.since) before c.args.datas.now =
    c.in_ok-first.ensures
    ∙ ap (λ (z : ℤ). see_all (on_data z) copied c.args.datas.now) since
    ∙ ap (λ (s : Seen). see_all (on_data c.args.since) s c.args.datas.now) begun in
    let last : seen_of c.in_ok-see_all_children.field-0 ≡ see_all (on_children c.args.since) (seen_of c.in_ok-second.second) c.args.children.now =
    c.in_ok-see_all_children.ensures ∙ ap (λ (z : ℤ). see_all (on_children z) (seen_of c.in_ok-second.second) c.args.children.now) since in
    last
    ∙ ap (λ (s : Seen). see_all (on_children c.args.since) s c.args.children.now) (c.in_ok-second.ensures ∙ ap (λ (s : Seen). see_all on_exist s c.args.exists.now) first)
