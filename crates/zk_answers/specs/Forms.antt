-- Why a create and a delete are refused for their form alone.
use Rattle.std.specs.Prelude.{ℤ, ◌&&◌, not, List, Option, Some, None, if◌then◌else◌}
use Rattle.zx_base.specs.Maps.{Bytes, same}
use Rattle.zk_model.specs.Access.{is_open_acl}
use Rattle.zk_model.specs.Codes.{bad_arguments, invalid_acl}
use Rattle.zk_model.specs.Paths.{is_path, is_sequence_prefix, root}
use Rattle.zk_model.specs.Single.{or_else, path_refusal, is_create_mode, is_sequential}
use Rattle.zk_model.specs.declared.request.Acl.{Acl}

-- for the path, then for the flags, then for the access list
abbrev pub create_refusal : Bytes → List Acl → ℤ → Option ℤ
create_refusal text acl flags =
    or_else (path_refusal (if is_sequential flags then is_sequence_prefix text else is_path text))
    (if not (is_create_mode flags) then Some bad_arguments else if not (is_open_acl acl) then Some invalid_acl else None)

-- for the path; the root cannot be deleted
abbrev pub delete_refusal : Bytes → Option ℤ
delete_refusal text = path_refusal (is_path text && not (same text root))
