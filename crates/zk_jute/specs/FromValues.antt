-- The record that values make: the reverse of `values_of`. `Grammar` says what a frame spells without these, and the laws
-- `requests_are_spelled` and `replies_are_spelled` show that reading with them is the same. Where the values are not of the
-- record's kinds, which reading excludes, a field is 0, false or empty.
use Rattle.std.specs.Prelude.{ℕ, zero, suc, ℤ, pos, Bool, false, List, [], ◌∷◌}
use Rattle.zk_model.specs.declared.node.Stat.{Stat}
use Rattle.zk_jute.specs.declared.opcode.Opcode.{Opcode}
use Rattle.zk_jute.specs.declared.opcode.Opcode.TheVariants as opcodes
use Rattle.zk_jute.specs.declared.opcode.PartKind.{PartKind}
use Rattle.zk_jute.specs.declared.opcode.PartKind.TheVariants as kinds
use Rattle.zk_model.specs.declared.reply.Body.{Body}
use Rattle.zk_model.specs.declared.reply.Body.TheVariants as bodies
use Rattle.zk_model.specs.declared.reply.PartResult.{PartResult}
use Rattle.zk_model.specs.declared.reply.PartResult.TheVariants as results
use Rattle.zk_model.specs.declared.request.Acl.{Acl}
use Rattle.zk_model.specs.declared.request.Part.{Part}
use Rattle.zk_model.specs.declared.request.Part.TheVariants as parts
use Rattle.zk_model.specs.declared.request.Request.{Request}
use Rattle.zk_model.specs.declared.request.Request.TheVariants as requests
use Rattle.zk_jute.specs.JuteValues.{Value, int, long, boolean, buffer, ustring, ustrings, acls}

-- the value with this number, counted from 0; the int 0 where there are fewer
abbrev pub value_in : List Value → ℕ → Value
value_in [] n = int (pos 0)
value_in (v ∷ vs) zero = v
value_in (v ∷ vs) (suc n) = value_in vs n

abbrev pub number_in : Value → ℤ
number_in (int n) = n
number_in (long n) = n
number_in _ = pos 0

abbrev pub flag_in : Value → Bool
flag_in (boolean b) = b
flag_in _ = false

abbrev pub bytes_in : Value → List ℕ
bytes_in (buffer content) = content
bytes_in (ustring text) = text
bytes_in _ = []

abbrev pub texts_in : Value → List (List ℕ)
texts_in (ustrings texts) = texts
texts_in _ = []

abbrev pub acls_in : Value → List Acl
acls_in (acls entries) = entries
acls_in _ = []

-- ---- requests

abbrev pub request_with : Opcode → (ℕ → Value) → Request
request_with opcodes.Create v = requests.Create (bytes_in (v 0)) (bytes_in (v 1)) (acls_in (v 2)) (number_in (v 3))
request_with opcodes.Delete v = requests.Delete (bytes_in (v 0)) (number_in (v 1))
request_with opcodes.Exists v = requests.Exists (bytes_in (v 0)) (flag_in (v 1))
request_with opcodes.GetData v = requests.GetData (bytes_in (v 0)) (flag_in (v 1))
request_with opcodes.SetData v = requests.SetData (bytes_in (v 0)) (bytes_in (v 1)) (number_in (v 2))
request_with opcodes.GetAcl v = requests.GetAcl (bytes_in (v 0))
request_with opcodes.GetChildren v = requests.GetChildren (bytes_in (v 0)) (flag_in (v 1))
request_with opcodes.Sync v = requests.Sync (bytes_in (v 0))
request_with opcodes.Ping v = requests.Ping
request_with opcodes.GetChildren2 v = requests.GetChildren2 (bytes_in (v 0)) (flag_in (v 1))
request_with opcodes.Check v = requests.Check (bytes_in (v 0)) (number_in (v 1))
request_with opcodes.Multi v = requests.Multi []
request_with opcodes.Auth v = requests.Auth (number_in (v 0)) (bytes_in (v 1)) (bytes_in (v 2))
request_with opcodes.SetWatches v = requests.SetWatches (number_in (v 0)) (texts_in (v 2)) (texts_in (v 1)) (texts_in (v 3))
request_with opcodes.Close v = requests.Close
request_with opcodes.Create2 v = requests.Create2 (bytes_in (v 0)) (bytes_in (v 1)) (acls_in (v 2)) (number_in (v 3))
request_with opcodes.CheckWatches v = requests.CheckWatches (bytes_in (v 0)) (number_in (v 1))
request_with opcodes.RemoveWatches v = requests.RemoveWatches (bytes_in (v 0)) (number_in (v 1))

-- the request of this kind with these values; of a multi, the one without parts
abbrev pub request_from : Opcode → List Value → Request
request_from code vs = request_with code (value_in vs)

abbrev pub part_with : PartKind → (ℕ → Value) → Part
part_with kinds.Create v = parts.Create (bytes_in (v 0)) (bytes_in (v 1)) (acls_in (v 2)) (number_in (v 3))
part_with kinds.Delete v = parts.Delete (bytes_in (v 0)) (number_in (v 1))
part_with kinds.SetData v = parts.SetData (bytes_in (v 0)) (bytes_in (v 1)) (number_in (v 2))
part_with kinds.Check v = parts.Check (bytes_in (v 0)) (number_in (v 1))

-- the part of this kind with these values
abbrev pub part_from : PartKind → List Value → Part
part_from kind vs = part_with kind (value_in vs)

-- ---- replies

-- the Stat with these values, from the first on
unfoldable pub stat_with : (ℕ → Value) → Stat
stat_with v = record {
  czxid = number_in (v 0);
  mzxid = number_in (v 1);
  ctime = number_in (v 2);
  mtime = number_in (v 3);
  version = number_in (v 4);
  cversion = number_in (v 5);
  aversion = number_in (v 6);
  ephemeral_owner = number_in (v 7);
  data_length = number_in (v 8);
  num_children = number_in (v 9);
  pzxid = number_in (v 10);
}

-- the values after the first
abbrev pub later : (ℕ → Value) → ℕ → Value
later v n = v (suc n)

abbrev pub body_with : Opcode → (ℕ → Value) → Body
body_with opcodes.Create v = bodies.Path (bytes_in (v 0))
body_with opcodes.Exists v = bodies.Stat (stat_with v)
body_with opcodes.GetData v = bodies.Content (bytes_in (v 0)) (stat_with (later v))
body_with opcodes.SetData v = bodies.Stat (stat_with v)
body_with opcodes.GetAcl v = bodies.OpenAcl (stat_with (later v))
body_with opcodes.GetChildren v = bodies.Names (texts_in (v 0))
body_with opcodes.Sync v = bodies.Path (bytes_in (v 0))
body_with opcodes.GetChildren2 v = bodies.NamesStat (texts_in (v 0)) (stat_with (later v))
body_with opcodes.Multi v = bodies.Parts []
body_with opcodes.Create2 v = bodies.PathStat (bytes_in (v 0)) (stat_with (later v))
body_with _ v = bodies.Empty

-- the body of a reply to this kind with these values; of a multi, the one without results
abbrev pub body_from : Opcode → List Value → Body
body_from code vs = body_with code (value_in vs)

abbrev pub result_with : PartKind → (ℕ → Value) → PartResult
result_with kinds.Create v = results.Created (bytes_in (v 0))
result_with kinds.Delete v = results.Deleted
result_with kinds.SetData v = results.Set (stat_with v)
result_with kinds.Check v = results.Checked

-- the result of a part of this kind with these values
abbrev pub result_from : PartKind → List Value → PartResult
result_from kind vs = result_with kind (value_in vs)
