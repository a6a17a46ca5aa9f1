use Rattle.std.proofs.Common.{ℤ, [], ◌∷◌, ◌++◌, SFits, w64, sym, ap, ◌∙◌, rules}
use Rattle.std.proofs.lemmas.Int.{to_z-of_z}
use Rattle.zs_reaper.proofs.Searching.{numbers_more, numbers_same}
use Rattle.zs_reaper.proofs.listing.numbers_in.Goals as goal
use Rattle.zs_reaper.proofs.listing.numbers_in.Goals.{in-Some+in_ok-push-in-Some, in-None}

pub keys-preserved : goal.keys-preserved
keys-preserved c = elim c.match-session_in.branch [
  | in-Some+in_ok-push-in-Some w ↦
      let fits : SFits w64 w.in-Some.number = search rules in
      let more = w.in_ok-push-in-Some.ensures.items ∙ ap (λ (n : ℤ). c.keys.found.items ++ n ∷ []) (to_z-of_z w64 w.in-Some.number fits) in
      rw w.found-is (numbers_more c.args.kind.now c.args.kvs.now c.keys.kv-index c.kv-item.result w.in-Some.number c.keys.found.items w.push.new.self.items c.keys-test.true c.kv-item.is (sym c.session_in.ensures ∙ w.in-Some.is) c.keys.invariant more)
  | in-None w ↦
      rw w.found-is (numbers_same c.args.kind.now c.args.kvs.now c.keys.kv-index c.kv-item.result c.keys.found.items c.keys-test.true c.kv-item.is (sym c.session_in.ensures ∙ w.in-None.is) c.keys.invariant)
]
