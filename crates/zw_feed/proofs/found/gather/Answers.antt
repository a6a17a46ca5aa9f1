use Rattle.zw_feed.proofs.Entries.{goes_on}
use Rattle.zw_feed.proofs.found.gather.Goals as goal

pub puts-preserved : goal.puts-preserved
puts-preserved c = goes_on c.args.kvs.now c.puts.at c.args.found.now.first c.puts.found c.put.new.self c.index-kvs-at.result c.index-kvs-at.is c.puts-test.true c.requires.puts c.puts.invariant c.in-Ok.ensures.grown
