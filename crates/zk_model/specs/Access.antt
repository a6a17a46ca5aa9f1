-- The one access list of this project (Programmer's Guide, "ZooKeeper access control using ACLs"): everything is allowed
-- to everyone.
use Rattle.std.specs.Prelude.{pos, Bool, false, ◌&&◌, List, [], ◌∷◌, codes, bytes_eq}
use Rattle.std.specs.Ordering.{int_eq}
use Rattle.zk_model.specs.declared.request.Acl.{Acl}

-- all five permissions, of the scheme `world` and its id `anyone`
abbrev pub open_entry : Acl
open_entry = record { perms = pos 31; scheme = codes "world"; id = codes "anyone" }

-- the list of that one entry
abbrev pub is_open_acl : List Acl → Bool
is_open_acl [] = false
is_open_acl (entry ∷ []) = int_eq entry.perms open_entry.perms && (bytes_eq entry.scheme open_entry.scheme && bytes_eq entry.id open_entry.id)
is_open_acl (a ∷ b ∷ entries) = false
