-- The first frame of a connection and its answer (zookeeper.jute, `ConnectRequest`, `ConnectResponse`; the read-only byte
-- of release 3.4 comes after their fields).
use Rattle.std.specs.Prelude.{ℕ, ◌==◌, pos, Option, Some, None, Bool, List, [], ◌∷◌, length, Ok, Err, if◌then◌else◌}
use Rattle.zk_model.specs.declared.connect.ConnectRequest.{ConnectRequest}
use Rattle.zk_model.specs.declared.connect.ConnectResponse.{ConnectResponse}
use Rattle.zk_jute.specs.JuteValues.{Value, int, long, boolean, buffer, Kind, an_int, a_long, a_buffer}
use Rattle.zk_jute.specs.JuteReading.{Read, ◌>>=◌, boolean_at, values_at, ended}
use Rattle.zk_jute.specs.FromValues.{value_in, number_in, bytes_in}

-- the kinds of the fields of a connect, without the read-only byte
abbrev pub connect_fields : List Kind
connect_fields = an_int ∷ a_long ∷ an_int ∷ a_long ∷ a_buffer ∷ []

-- no value, or a boolean
abbrev pub optional : Option Bool → List Value
optional None = []
optional (Some b) = boolean b ∷ []

-- what a connect says, field by field
abbrev pub connect_values : ConnectRequest → List Value
connect_values r = int r.protocol ∷ long r.last_zxid ∷ int r.timeout ∷ long r.session ∷ buffer r.passwd ∷ optional r.read_only

-- what the answer says, field by field; its protocol version is 0
abbrev pub connect_response_values : ConnectResponse → List Value
connect_response_values r = int (pos 0) ∷ int r.timeout ∷ long r.session ∷ buffer r.passwd ∷ optional r.read_only

-- ---- reading

-- the connect with these values
abbrev pub connect_with : (ℕ → Value) → Option Bool → ConnectRequest
connect_with v read_only = record {
  protocol = number_in (v 0);
  last_zxid = number_in (v 1);
  timeout = number_in (v 2);
  session = number_in (v 3);
  passwd = bytes_in (v 4);
  read_only = read_only;
}

-- nothing comes after the fields; or a boolean does, and nothing after it
abbrev pub read_only_at : List ℕ → Read (Option Bool)
read_only_at bytes = if length bytes == 0 then Ok (None, bytes) else (boolean_at bytes >>= λ x. ended (Some x.0, x.1))

-- the fields, and the read-only byte where there is one
abbrev pub connect_at : List ℕ → Read ConnectRequest
connect_at bytes = values_at connect_fields bytes >>= λ x. read_only_at x.1 >>= λ read_only. Ok (connect_with (value_in x.0) read_only.0, read_only.1)

abbrev pub connect_of : Read ConnectRequest → Option ConnectRequest
connect_of (Ok x) = Some x.0
connect_of (Err left) = None

-- a frame as a connect, where it can be read as one
unfoldable pub read_connect : List ℕ → Option ConnectRequest
read_connect frame = connect_of (connect_at frame)
