use Rattle.std.proofs.Common.{rules}
use Rattle.zp_server.proofs.starting.fn.start_reaper.job+FnOnce.call_once.Goals as goal

pub job-requires : goal.job-requires
job-requires g c = search (rules, c.requires) depth 40
