use Rattle.zp_verdict_laws.proofs.Fitting.{lines-of-runs-fit, written-replays-are-lawful}
use Rattle.zp_verdict_laws.proofs.laws.every_written_replay_is_lawful.Goals as goal

pub returns : goal.returns
returns c = record { fits = lines-of-runs-fit; text = written-replays-are-lawful }
