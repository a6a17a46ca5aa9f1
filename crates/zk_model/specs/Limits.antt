-- Limits of the service. Those on counts and sizes keep each transaction within what etcd takes, and each number within
-- its field on the wire (zookeeper.jute).
use Rattle.std.specs.Prelude.{ℕ, ℤ, pos}
use Rattle.zk_model.specs.declared.layout.Layout.{Layout}
use Rattle.zk_model.specs.declared.layout.Layout.TheVariants.{One, Two}

-- the most bytes of a frame without its length, and so of a node's data (`jute.maxbuffer`)
abbrev pub max_frame : ℕ
max_frame = 1048575

-- the most bytes of a path
abbrev pub max_path : ℕ
max_path = 1024

-- the most bytes of the path of a sequential create, before its ten digits
abbrev pub max_sequence_prefix : ℕ
max_sequence_prefix = 1014

-- the most creates of children that a node counts: the Stat's `cversion` is an int and counts each of them twice
abbrev pub max_creates : ℤ
max_creates = pos 1073741823

-- the greatest version of a node's data, an int
abbrev pub max_version : ℤ
max_version = pos 2147483647

-- The most ephemeral nodes that a session owns, by its layout. Those of layout 2 have fewer records, so that as many more of them
-- go with their session in one transaction
abbrev pub max_owned : Layout → ℕ
max_owned One = 40
max_owned Two = 60

-- the most parts of a multi
abbrev pub max_parts : ℕ
max_parts = 24

-- the greatest `load` of a multi, in bytes
abbrev pub max_load : ℕ
max_load = 1000000

-- the least session timeout, in milliseconds
abbrev pub min_timeout : ℤ
min_timeout = pos 4000

-- the greatest session timeout, in milliseconds
abbrev pub max_timeout : ℤ
max_timeout = pos 40000

-- the greatest reading of the clock, in milliseconds
abbrev pub max_time : ℕ
max_time = 9000000000000000

-- the greatest long: of session numbers, zxids and revisions
abbrev pub max_long : ℤ
max_long = pos 9223372036854775807
