-- The values of a record are of its kinds and make that record, and values of these kinds are those of the record made.
use Rattle.std.proofs.Common.{◌≡◌, ℕ, List, [], ◌∷◌, map, refl, sym, ap, ◌∙◌}
use Rattle.zk_jute.specs.declared.opcode.Opcode.{Opcode}
use Rattle.zk_jute.specs.declared.opcode.Opcode.TheVariants as opcodes
use Rattle.zk_jute.specs.declared.opcode.PartKind.{PartKind}
use Rattle.zk_jute.specs.declared.opcode.PartKind.TheVariants as kinds
use Rattle.zk_model.specs.declared.request.Part.{Part}
use Rattle.zk_model.specs.declared.request.Part.TheVariants as parts
use Rattle.zk_model.specs.declared.request.Request.{Request}
use Rattle.zk_model.specs.declared.request.Request.TheVariants as requests
use Rattle.zk_jute.specs.JuteValues.{Value, int, long, boolean, buffer, ustring, ustrings, acls, open_acl, Kind, an_int, a_long, a_boolean, a_buffer, a_ustring, some_ustrings, some_acls, the_open_acl, kind_of, Spelled, Spells}
use Rattle.zk_jute.specs.FromValues.{value_in, number_in, flag_in, bytes_in, texts_in, acls_in, later, request_with, request_from, part_with, part_from}
use Rattle.zk_jute.specs.Grammar.{IsAsked}
use Rattle.zk_jute.specs.Numbers.{opcode_of, part_kind}
use Rattle.zk_jute.specs.Records.{fields_of, values_of, part_fields, part_values}

-- a value as one of this kind
abbrev pub normal : Kind → Value → Value
normal an_int v = int (number_in v)
normal a_long v = long (number_in v)
normal a_boolean v = boolean (flag_in v)
normal a_buffer v = buffer (bytes_in v)
normal a_ustring v = ustring (bytes_in v)
normal some_ustrings v = ustrings (texts_in v)
normal some_acls v = acls (acls_in v)
normal the_open_acl v = open_acl

abbrev pub normals : List Kind → (ℕ → Value) → List Value
normals [] v = []
normals (k ∷ ks) v = normal k (v 0) ∷ normals ks (later v)

normal_is : (v : Value) → normal (kind_of v) v ≡ v
normal_is (int n) = refl
normal_is (long n) = refl
normal_is (boolean b) = refl
normal_is (buffer content) = refl
normal_is (ustring text) = refl
normal_is (ustrings texts) = refl
normal_is (acls entries) = refl
normal_is open_acl = refl

normals_of : (vs : List Value) → normals (map kind_of vs) (value_in vs) ≡ vs
normals_of [] = refl
normals_of (v ∷ vs) = rw (normal_is v, normals_of vs) refl

pub normals_are : (ks : List Kind) (vs : List Value) → map kind_of vs ≡ ks → normals ks (value_in vs) ≡ vs
normals_are ks vs e = ap (λ (k : List Kind). normals k (value_in vs)) (sym e) ∙ normals_of vs

-- ---- requests

pub request_kinds : (r : Request) → map kind_of (values_of r) ≡ fields_of (opcode_of r)
request_kinds (requests.Create path content acl flags) = refl
request_kinds (requests.Delete path version) = refl
request_kinds (requests.Exists path watch) = refl
request_kinds (requests.GetData path watch) = refl
request_kinds (requests.SetData path content version) = refl
request_kinds (requests.GetAcl path) = refl
request_kinds (requests.GetChildren path watch) = refl
request_kinds (requests.Sync path) = refl
request_kinds requests.Ping = refl
request_kinds (requests.GetChildren2 path watch) = refl
request_kinds (requests.Check path version) = refl
request_kinds (requests.Multi ps) = refl
request_kinds (requests.Auth kind scheme auth) = refl
request_kinds (requests.SetWatches relative exists datas children) = refl
request_kinds requests.Close = refl
request_kinds (requests.Create2 path content acl flags) = refl
request_kinds (requests.CheckWatches path kind) = refl
request_kinds (requests.RemoveWatches path kind) = refl

pub request_back : (r : Request) → (opcode_of r ≡ opcodes.Multi → ⊥) → request_from (opcode_of r) (values_of r) ≡ r
request_back (requests.Create path content acl flags) plain = refl
request_back (requests.Delete path version) plain = refl
request_back (requests.Exists path watch) plain = refl
request_back (requests.GetData path watch) plain = refl
request_back (requests.SetData path content version) plain = refl
request_back (requests.GetAcl path) plain = refl
request_back (requests.GetChildren path watch) plain = refl
request_back (requests.Sync path) plain = refl
request_back requests.Ping plain = refl
request_back (requests.GetChildren2 path watch) plain = refl
request_back (requests.Check path version) plain = refl
request_back (requests.Multi ps) plain = absurd (plain refl)
request_back (requests.Auth kind scheme auth) plain = refl
request_back (requests.SetWatches relative exists datas children) plain = refl
request_back requests.Close plain = refl
request_back (requests.Create2 path content acl flags) plain = refl
request_back (requests.CheckWatches path kind) plain = refl
request_back (requests.RemoveWatches path kind) plain = refl

pub request_with-opcode : (code : Opcode) (v : ℕ → Value) → opcode_of (request_with code v) ≡ code
request_with-opcode opcodes.Create v = refl
request_with-opcode opcodes.Delete v = refl
request_with-opcode opcodes.Exists v = refl
request_with-opcode opcodes.GetData v = refl
request_with-opcode opcodes.SetData v = refl
request_with-opcode opcodes.GetAcl v = refl
request_with-opcode opcodes.GetChildren v = refl
request_with-opcode opcodes.Sync v = refl
request_with-opcode opcodes.Ping v = refl
request_with-opcode opcodes.GetChildren2 v = refl
request_with-opcode opcodes.Check v = refl
request_with-opcode opcodes.Multi v = refl
request_with-opcode opcodes.Auth v = refl
request_with-opcode opcodes.SetWatches v = refl
request_with-opcode opcodes.Close v = refl
request_with-opcode opcodes.Create2 v = refl
request_with-opcode opcodes.CheckWatches v = refl
request_with-opcode opcodes.RemoveWatches v = refl

-- what spells values of the kinds of a body spells the request made of them
pub request_with-asked : (code : Opcode) (v : ℕ → Value) (bytes : List ℕ) → (code ≡ opcodes.Multi → ⊥) → Spelled Spells (normals (fields_of code) v) bytes → IsAsked (request_with code v) bytes
request_with-asked opcodes.Create v bytes plain is = is
request_with-asked opcodes.Delete v bytes plain is = is
request_with-asked opcodes.Exists v bytes plain is = is
request_with-asked opcodes.GetData v bytes plain is = is
request_with-asked opcodes.SetData v bytes plain is = is
request_with-asked opcodes.GetAcl v bytes plain is = is
request_with-asked opcodes.GetChildren v bytes plain is = is
request_with-asked opcodes.Sync v bytes plain is = is
request_with-asked opcodes.Ping v bytes plain is = is
request_with-asked opcodes.GetChildren2 v bytes plain is = is
request_with-asked opcodes.Check v bytes plain is = is
request_with-asked opcodes.Multi v bytes plain is = absurd (plain refl)
request_with-asked opcodes.Auth v bytes plain is = is
request_with-asked opcodes.SetWatches v bytes plain is = is
request_with-asked opcodes.Close v bytes plain is = is
request_with-asked opcodes.Create2 v bytes plain is = is
request_with-asked opcodes.CheckWatches v bytes plain is = is
request_with-asked opcodes.RemoveWatches v bytes plain is = is

-- ---- the parts of a multi

pub part_kinds : (p : Part) → map kind_of (part_values p) ≡ part_fields (part_kind p)
part_kinds (parts.Create path content acl flags) = refl
part_kinds (parts.Delete path version) = refl
part_kinds (parts.SetData path content version) = refl
part_kinds (parts.Check path version) = refl

pub part_back : (p : Part) → part_from (part_kind p) (part_values p) ≡ p
part_back (parts.Create path content acl flags) = refl
part_back (parts.Delete path version) = refl
part_back (parts.SetData path content version) = refl
part_back (parts.Check path version) = refl

pub part_with-kind : (kind : PartKind) (v : ℕ → Value) → part_kind (part_with kind v) ≡ kind
part_with-kind kinds.Create v = refl
part_with-kind kinds.Delete v = refl
part_with-kind kinds.SetData v = refl
part_with-kind kinds.Check v = refl

pub part_with-values : (kind : PartKind) (v : ℕ → Value) → part_values (part_with kind v) ≡ normals (part_fields kind) v
part_with-values kinds.Create v = refl
part_with-values kinds.Delete v = refl
part_with-values kinds.SetData v = refl
part_with-values kinds.Check v = refl
