use Rattle.std.proofs.Common.{◌≡◌, false, [], ◌∷◌, ◌++◌, List, sym, ◌∙◌, subst}
use Rattle.std.specs.FinMap.{contains_key}
use Rattle.zk_model.specs.Watches.{PathSet}
use Rattle.zx_base.specs.Maps.{Bytes}
use Rattle.zw_watch.specs.Noted.{IsWithout}
use Rattle.zk_model.proofs.SetLaws.{insert-there}
use Rattle.zw_watch.proofs.Undoing.{without-noted, without-inserted}
use Rattle.zw_watch.proofs.noted.insert_noted.Goals as goal

pub returns-then-contains-clause-ok : goal.returns-then-contains-clause-ok
returns-then-contains-clause-ok c = insert-there c.args.paths.now c.args.path.now (sym c.contains.ensures ∙ c.if-contains.true)

pub returns-in_err-insert-clause-noted : goal.returns-in_err-insert-clause-noted
returns-in_err-insert-clause-noted c before h =
    let now = c.args.paths.now in
    let path = c.args.path.now in
    let noted = c.args.noted.now.items in
    let gone : contains_key now path ≡ false = sym c.contains.ensures ∙ c.if-contains.false in
    subst (λ (ps : List Bytes). IsWithout c.insert.new.self ps before) (sym c.in_ok-push.ensures.items)
    (subst (λ (s : PathSet). IsWithout s (noted ++ path ∷ []) before) (sym c.in_err-insert.ensures.err) (without-noted now before noted path gone h))

pub returns-clause-noted : goal.returns-clause-noted
returns-clause-noted c before h =
    let now = c.args.paths.now in
    let path = c.args.path.now in
    let noted = c.args.noted.now.items in
    let gone : contains_key now path ≡ false = sym c.contains.ensures ∙ c.if-contains.false in
    subst (λ (ps : List Bytes). IsWithout c.insert.new.self ps before) (sym c.in_ok-push.ensures.items)
    (subst (λ (s : PathSet). IsWithout s (noted ++ path ∷ []) before) (sym c.in_ok-insert.ensures.ok) (without-inserted now before noted path (without-noted now before noted path gone h)))
