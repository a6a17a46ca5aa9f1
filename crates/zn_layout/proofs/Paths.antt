-- A valid path is short.
use Rattle.std.proofs.Common.{◌≤◌, length}
use Rattle.std.specs.Prelude.{IsTrue}
use Rattle.std.proofs.lemmas.Bool.{and_parts, leb-true}
use Rattle.zk_model.specs.Paths.{is_path}
use Rattle.zx_base.specs.Maps.{Bytes}
use Rattle.zk_model.specs.Limits.{max_path}

pub path_short : (p : Bytes) → IsTrue (is_path p) → length p ≤ max_path
unfolding is_path
path_short p h = leb-true _ _ (and_parts _ _ (and_parts _ _ (and_parts _ _ (and_parts _ _ h).0).0).0).0
