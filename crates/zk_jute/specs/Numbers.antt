-- The kinds of requests and of the parts of a multi, and their numbers (`ZooDefs.OpCode`, release 3.5).
use Rattle.std.specs.Prelude.{ℕ, ◌==◌, ℤ, pos, negsuc, Option, Some, None, if◌then◌else◌}
use Rattle.zk_model.specs.Codes.{minus}
use Rattle.zk_jute.specs.declared.opcode.Opcode.{Opcode}
use Rattle.zk_jute.specs.declared.opcode.Opcode.TheVariants as opcodes
use Rattle.zk_jute.specs.declared.opcode.PartKind.{PartKind}
use Rattle.zk_jute.specs.declared.opcode.PartKind.TheVariants as kinds
use Rattle.zk_model.specs.declared.request.Part.{Part}
use Rattle.zk_model.specs.declared.request.Part.TheVariants as parts
use Rattle.zk_model.specs.declared.request.Request.{Request}
use Rattle.zk_model.specs.declared.request.Request.TheVariants as requests

-- a request's kind
abbrev pub opcode_of : Request → Opcode
opcode_of (requests.Create path content acl flags) = opcodes.Create
opcode_of (requests.Delete path version) = opcodes.Delete
opcode_of (requests.Exists path watch) = opcodes.Exists
opcode_of (requests.GetData path watch) = opcodes.GetData
opcode_of (requests.SetData path content version) = opcodes.SetData
opcode_of (requests.GetAcl path) = opcodes.GetAcl
opcode_of (requests.GetChildren path watch) = opcodes.GetChildren
opcode_of (requests.Sync path) = opcodes.Sync
opcode_of requests.Ping = opcodes.Ping
opcode_of (requests.GetChildren2 path watch) = opcodes.GetChildren2
opcode_of (requests.Check path version) = opcodes.Check
opcode_of (requests.Multi ps) = opcodes.Multi
opcode_of (requests.Auth kind scheme auth) = opcodes.Auth
opcode_of (requests.SetWatches relative exists datas children) = opcodes.SetWatches
opcode_of requests.Close = opcodes.Close
opcode_of (requests.Create2 path content acl flags) = opcodes.Create2
opcode_of (requests.CheckWatches path kind) = opcodes.CheckWatches
opcode_of (requests.RemoveWatches path kind) = opcodes.RemoveWatches

-- a part's kind
abbrev pub part_kind : Part → PartKind
part_kind (parts.Create path content acl flags) = kinds.Create
part_kind (parts.Delete path version) = kinds.Delete
part_kind (parts.SetData path content version) = kinds.SetData
part_kind (parts.Check path version) = kinds.Check

-- the type in the header of a request of this kind
abbrev pub opcode_number : Opcode → ℤ
opcode_number opcodes.Create = pos 1
opcode_number opcodes.Delete = pos 2
opcode_number opcodes.Exists = pos 3
opcode_number opcodes.GetData = pos 4
opcode_number opcodes.SetData = pos 5
opcode_number opcodes.GetAcl = pos 6
opcode_number opcodes.GetChildren = pos 8
opcode_number opcodes.Sync = pos 9
opcode_number opcodes.Ping = pos 11
opcode_number opcodes.GetChildren2 = pos 12
opcode_number opcodes.Check = pos 13
opcode_number opcodes.Multi = pos 14
opcode_number opcodes.Auth = pos 100
opcode_number opcodes.SetWatches = pos 101
opcode_number opcodes.Close = minus 11
opcode_number opcodes.Create2 = pos 15
opcode_number opcodes.CheckWatches = pos 17
opcode_number opcodes.RemoveWatches = pos 18

abbrev pub unsigned_opcode : ℕ → Option Opcode
unsigned_opcode n =
    if n == 1 then Some opcodes.Create
    else (if n == 2 then Some opcodes.Delete
    else (if n == 3 then Some opcodes.Exists
    else (if n == 4 then Some opcodes.GetData
    else (if n == 5 then Some opcodes.SetData
    else (if n == 6 then Some opcodes.GetAcl
    else (if n == 8 then Some opcodes.GetChildren
    else (if n == 9 then Some opcodes.Sync
    else (if n == 11 then Some opcodes.Ping
    else (if n == 12 then Some opcodes.GetChildren2
    else (if n == 13 then Some opcodes.Check
    else (if n == 14 then Some opcodes.Multi
    else (if n == 15 then Some opcodes.Create2
    else (if n == 17 then Some opcodes.CheckWatches
    else (if n == 18 then Some opcodes.RemoveWatches
    else (if n == 100 then Some opcodes.Auth
    else (if n == 101 then Some opcodes.SetWatches
    else None))))))))))))))))

-- the kind of request that has this type, if there is one
abbrev pub opcode_numbered : ℤ → Option Opcode
opcode_numbered (pos n) = unsigned_opcode n
opcode_numbered (negsuc n) = if n == 10 then Some opcodes.Close else None

-- the type in the header of a part of this kind
abbrev pub part_number : PartKind → ℤ
part_number kinds.Create = pos 1
part_number kinds.Delete = pos 2
part_number kinds.SetData = pos 5
part_number kinds.Check = pos 13

-- the kind of part that has this type, if there is one
abbrev pub part_numbered : ℤ → Option PartKind
part_numbered (pos n) =
    if n == 1 then Some kinds.Create
    else (if n == 2 then Some kinds.Delete
    else (if n == 5 then Some kinds.SetData
    else (if n == 13 then Some kinds.Check
    else None)))
part_numbered (negsuc n) = None
