use Rattle.std.proofs.Common.{◌≡◌, ap, sym, ◌∙◌, w64, to_z, of_z, rules}
use Rattle.std.proofs.lemmas.Int.{to_z-of_z}
use Rattle.std.specs.BTreeMap as tree
use Rattle.std.specs.Ordering.{int_cmp, int_eq}
use Rattle.zk_history.specs.Shown.{is_zxid, kept, place_of}
use Rattle.zk_history.proofs.Marks.{new-kept, old-kept}
use Rattle.zk_history.proofs.zxids.Zxids.noted.Goals as goal
use Rattle.zk_history.proofs.zxids.Zxids.noted.Goals.{then-not-contains_key+in_ok-insert, else-not-contains_key}
use Rattle.zx_base.proofs.Booleans.{same-from_int_eq as same_zxid}

pub returns : goal.returns
returns c = λ z.
    let key = to_z w64 (of_z w64 c.in-Some.zxid) in
    let back : key ≡ c.in-Some.zxid = to_z-of_z w64 c.in-Some.zxid (search rules) in
    let marked = ap (λ m. kept (place_of c.args.self z) (int_eq m z) c.args.place) back ∙ ap (λ o. kept (place_of c.args.self z) (is_zxid o z) c.args.place) (sym c.in-Some.is) in
    elim c.if-not-contains_key.branch [
      | then-not-contains_key+in_ok-insert w ↦
          ap (λ p. tree.get int_cmp p z) w.places-is
          ∙ new-kept int_eq same_zxid (λ q. tree.get int_cmp c.args.self.places q) (λ q. tree.get int_cmp w.insert.new.self q) key c.args.place (sym w.if-not-contains_key.ensures) w.in_ok-insert.ensures.updates.0 z
          ∙ marked
      | else-not-contains_key w ↦
          ap (λ p. tree.get int_cmp p z) w.places-is ∙ old-kept int_eq same_zxid (λ q. tree.get int_cmp c.args.self.places q) key c.args.place (sym w.if-not-contains_key.ensures) z ∙ marked
    ]
