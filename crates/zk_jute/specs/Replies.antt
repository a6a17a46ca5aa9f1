-- The bodies of replies (zookeeper.jute). Each has two rows: the kinds of its fields, and what a body says, field by field.
use Rattle.std.specs.Prelude.{List, [], ◌∷◌, ◌++◌, map}
use Rattle.std.specs.List.{flat_map}
use Rattle.zk_model.specs.declared.reply.Body.{Body}
use Rattle.zk_model.specs.declared.reply.Body.TheVariants as bodies
use Rattle.zk_jute.specs.declared.opcode.Opcode.{Opcode}
use Rattle.zk_jute.specs.declared.opcode.Opcode.TheVariants as opcodes
use Rattle.zk_jute.specs.JuteValues.{Value, buffer, ustring, ustrings, open_acl, Kind, a_buffer, a_ustring, some_ustrings, the_open_acl, kind_of}
use Rattle.zk_jute.specs.Records.{stat_fields, stat_values}
use Rattle.zk_jute.specs.Results.{result_values, last_result}

-- the kinds of the fields of a reply's body, by the kind of the request; a multi's reply has no fields of its own
abbrev pub reply_fields : Opcode → List Kind
reply_fields opcodes.Create = a_ustring ∷ []
reply_fields opcodes.Exists = stat_fields
reply_fields opcodes.GetData = a_buffer ∷ stat_fields
reply_fields opcodes.SetData = stat_fields
reply_fields opcodes.GetAcl = the_open_acl ∷ stat_fields
reply_fields opcodes.GetChildren = some_ustrings ∷ []
reply_fields opcodes.Sync = a_ustring ∷ []
reply_fields opcodes.GetChildren2 = some_ustrings ∷ stat_fields
reply_fields opcodes.Create2 = a_ustring ∷ stat_fields
reply_fields _ = []

-- what a body says, field by field; of a multi, its results and the last header
abbrev pub body_values : Body → List Value
body_values bodies.Empty = []
body_values (bodies.Path path) = ustring path ∷ []
body_values (bodies.Stat stat) = stat_values stat
body_values (bodies.Content content stat) = buffer content ∷ stat_values stat
body_values (bodies.Names names) = ustrings names ∷ []
body_values (bodies.NamesStat names stat) = ustrings names ∷ stat_values stat
body_values (bodies.OpenAcl stat) = open_acl ∷ stat_values stat
body_values (bodies.Parts results) = flat_map result_values results ++ last_result
body_values (bodies.PathStat path stat) = ustring path ∷ stat_values stat

-- ---- which body answers which kind

-- fields of these kinds, or the results of a multi
pub data Shape : Type 0 where
  fields : List Kind → Shape
  results : Shape

abbrev pub shape_for : Opcode → Shape
shape_for opcodes.Multi = results
shape_for code = fields (reply_fields code)

abbrev pub shape_of : Body → Shape
shape_of (bodies.Parts rs) = results
shape_of body = fields (map kind_of (body_values body))
