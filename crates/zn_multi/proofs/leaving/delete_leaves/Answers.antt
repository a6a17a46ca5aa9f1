-- A valid path is short.
use Rattle.std.proofs.Common.{rules}
use Rattle.std.specs.Prelude.{IsTrue}
use Rattle.zk_model.specs.Paths.{is_path}
use Rattle.zn_layout.proofs.Paths.{path_short}
use Rattle.zn_multi.proofs.leaving.delete_leaves.Goals as goal

pub delete_change-requires : goal.delete_change-requires
delete_change-requires c = let valid : IsTrue (is_path c.args.path) = search rules in path_short c.args.path valid
