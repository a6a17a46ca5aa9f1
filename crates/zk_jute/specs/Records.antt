-- The records of zookeeper.jute (release 3.5) that requests and replies are made of. Each has two rows: the kinds of its
-- fields, and what a record says, field by field.
use Rattle.std.specs.Prelude.{ℕ, ℤ, List, [], ◌∷◌}
use Rattle.std.specs.List.{flat_map}
use Rattle.zk_model.specs.declared.node.Stat.{Stat}
use Rattle.zk_jute.specs.declared.opcode.Opcode.{Opcode}
use Rattle.zk_jute.specs.declared.opcode.Opcode.TheVariants as opcodes
use Rattle.zk_jute.specs.declared.opcode.PartKind.{PartKind}
use Rattle.zk_jute.specs.declared.opcode.PartKind.TheVariants as kinds
use Rattle.zk_model.specs.declared.request.Acl.{Acl}
use Rattle.zk_model.specs.declared.request.Part.{Part}
use Rattle.zk_model.specs.declared.request.Part.TheVariants as parts
use Rattle.zk_model.specs.declared.request.Request.{Request}
use Rattle.zk_model.specs.declared.request.Request.TheVariants as requests
use Rattle.zk_jute.specs.JuteValues.{Value, int, long, boolean, buffer, ustring, ustrings, acls, Kind, an_int, a_long, a_boolean, a_buffer, a_ustring, some_ustrings, some_acls}

-- ---- records of more than one use

-- CreateRequest
abbrev pub create_fields : List Kind
create_fields = a_ustring ∷ a_buffer ∷ some_acls ∷ an_int ∷ []

abbrev pub create_values : List ℕ → List ℕ → List Acl → ℤ → List Value
create_values path content acl flags = ustring path ∷ buffer content ∷ acls acl ∷ int flags ∷ []

-- DeleteRequest
abbrev pub delete_fields : List Kind
delete_fields = a_ustring ∷ an_int ∷ []

abbrev pub delete_values : List ℕ → ℤ → List Value
delete_values path version = ustring path ∷ int version ∷ []

-- SetDataRequest
abbrev pub set_data_fields : List Kind
set_data_fields = a_ustring ∷ a_buffer ∷ an_int ∷ []

abbrev pub set_data_values : List ℕ → List ℕ → ℤ → List Value
set_data_values path content version = ustring path ∷ buffer content ∷ int version ∷ []

-- CheckVersionRequest
abbrev pub check_fields : List Kind
check_fields = a_ustring ∷ an_int ∷ []

abbrev pub check_values : List ℕ → ℤ → List Value
check_values path version = ustring path ∷ int version ∷ []

-- CheckWatchesRequest and RemoveWatchesRequest
abbrev pub watcher_fields : List Kind
watcher_fields = a_ustring ∷ an_int ∷ []

abbrev pub watcher_values : List ℕ → ℤ → List Value
watcher_values path kind = ustring path ∷ int kind ∷ []

-- Stat
unfoldable pub stat_fields : List Kind
stat_fields = a_long ∷ a_long ∷ a_long ∷ a_long ∷ an_int ∷ an_int ∷ an_int ∷ a_long ∷ an_int ∷ an_int ∷ a_long ∷ []

unfoldable pub stat_values : Stat → List Value
stat_values s =
    long s.czxid ∷ long s.mzxid ∷ long s.ctime ∷ long s.mtime ∷ int s.version ∷ int s.cversion ∷ int s.aversion
    ∷ long s.ephemeral_owner ∷ int s.data_length ∷ int s.num_children ∷ long s.pzxid ∷ []

-- ---- the bodies of requests. A multi's has no fields of its own

abbrev pub fields_of : Opcode → List Kind
fields_of opcodes.Create = create_fields
fields_of opcodes.Delete = delete_fields
fields_of opcodes.Exists = a_ustring ∷ a_boolean ∷ []
fields_of opcodes.GetData = a_ustring ∷ a_boolean ∷ []
fields_of opcodes.SetData = set_data_fields
fields_of opcodes.GetAcl = a_ustring ∷ []
fields_of opcodes.GetChildren = a_ustring ∷ a_boolean ∷ []
fields_of opcodes.Sync = a_ustring ∷ []
fields_of opcodes.Ping = []
fields_of opcodes.GetChildren2 = a_ustring ∷ a_boolean ∷ []
fields_of opcodes.Check = check_fields
fields_of opcodes.Multi = []
fields_of opcodes.Auth = an_int ∷ a_ustring ∷ a_buffer ∷ []
fields_of opcodes.SetWatches = a_long ∷ some_ustrings ∷ some_ustrings ∷ some_ustrings ∷ []
fields_of opcodes.Close = []
fields_of opcodes.Create2 = create_fields
fields_of opcodes.CheckWatches = watcher_fields
fields_of opcodes.RemoveWatches = watcher_fields

abbrev pub values_of : Request → List Value
values_of (requests.Create path content acl flags) = create_values path content acl flags
values_of (requests.Delete path version) = delete_values path version
values_of (requests.Exists path watch) = ustring path ∷ boolean watch ∷ []
values_of (requests.GetData path watch) = ustring path ∷ boolean watch ∷ []
values_of (requests.SetData path content version) = set_data_values path content version
values_of (requests.GetAcl path) = ustring path ∷ []
values_of (requests.GetChildren path watch) = ustring path ∷ boolean watch ∷ []
values_of (requests.Sync path) = ustring path ∷ []
values_of requests.Ping = []
values_of (requests.GetChildren2 path watch) = ustring path ∷ boolean watch ∷ []
values_of (requests.Check path version) = check_values path version
values_of (requests.Multi ps) = []
values_of (requests.Auth kind scheme auth) = int kind ∷ ustring scheme ∷ buffer auth ∷ []
values_of (requests.SetWatches relative exists datas children) = long relative ∷ ustrings datas ∷ ustrings exists ∷ ustrings children ∷ []
values_of requests.Close = []
values_of (requests.Create2 path content acl flags) = create_values path content acl flags
values_of (requests.CheckWatches path kind) = watcher_values path kind
values_of (requests.RemoveWatches path kind) = watcher_values path kind

-- ---- the parts of a multi

abbrev pub part_fields : PartKind → List Kind
part_fields kinds.Create = create_fields
part_fields kinds.Delete = delete_fields
part_fields kinds.SetData = set_data_fields
part_fields kinds.Check = check_fields

abbrev pub part_values : Part → List Value
part_values (parts.Create path content acl flags) = create_values path content acl flags
part_values (parts.Delete path version) = delete_values path version
part_values (parts.SetData path content version) = set_data_values path content version
part_values (parts.Check path version) = check_values path version

-- ---- the data that a request carries

abbrev pub part_contents : Part → List (List ℕ)
part_contents (parts.Create path content acl flags) = content ∷ []
part_contents (parts.Delete path version) = []
part_contents (parts.SetData path content version) = content ∷ []
part_contents (parts.Check path version) = []

abbrev pub contents_of : Request → List (List ℕ)
contents_of (requests.Create path content acl flags) = content ∷ []
contents_of (requests.SetData path content version) = content ∷ []
contents_of (requests.Create2 path content acl flags) = content ∷ []
contents_of (requests.Multi ps) = flat_map part_contents ps
contents_of _ = []
