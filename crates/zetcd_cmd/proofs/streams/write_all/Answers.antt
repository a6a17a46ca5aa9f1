use Rattle.zetcd_cmd.proofs.Fronts.{TakesSome-front}
use Rattle.zetcd_cmd.proofs.streams.write_all.Goals as goal

pub returns-clause-front : goal.returns-clause-front
returns-clause-front g c = λ no. TakesSome-front c.args.bytes.now _ _ (c.write_all.ensures.front no)
