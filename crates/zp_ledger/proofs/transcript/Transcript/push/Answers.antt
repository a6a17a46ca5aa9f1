use Rattle.std.proofs.Common.{◌≡◌, ◌++◌, ◌∷◌, [], rules}
use Rattle.zp_ledger.proofs.Written.{written-push}
use Rattle.zp_ledger.proofs.transcript.Transcript.push.Goals as goal

pub invariant_of-self-2 : goal.invariant_of-self-2
invariant_of-self-2 c =
    let grown : c.push.new.self.items ≡ c.self.inside.lines.items ++ c.args.line ∷ [] = search rules in
    rw grown (written-push _ _ _ c.self.invariant c.requires.other c.requires.formed)
