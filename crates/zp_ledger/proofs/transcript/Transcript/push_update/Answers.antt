use Rattle.std.proofs.Common.{◌≡◌, ◌++◌, ◌∷◌, [], ◌<◌, ◌^◌, rules, arith}
use Rattle.std.specs.Prelude.{nat_abs}
use Rattle.std.proofs.lemmas.Int.{ints}
use Rattle.zk_transcript.specs.declared.transcript.TranscriptLine.TheVariants.{Update}
use Rattle.zp_ledger.proofs.Written.{written-update}
use Rattle.zp_ledger.proofs.transcript.Transcript.push_update.Goals as goal

pub invariant_of-self-else-is_err : goal.invariant_of-self-else-is_err
invariant_of-self-else-is_err c =
    let lines : c.push.new.self.items ≡ c.self.inside.lines.items ++ Update (record { zxid = c.args.zxid; kind = c.args.kind }) ∷ [] = search rules in
    let updates : c.push-2.new.self.items ≡ c.self.inside.updates.items ++ record { zxid = c.args.zxid; kind = c.args.kind } ∷ [] = search rules in
    let small : nat_abs c.args.zxid < 2 ^ 64 = grind (arith, ints) in
    rw (lines, updates) (written-update _ _ _ c.self.invariant (small, c.requires))
