-- The names of members: in snake case as etcd's protobuf messages have them, and in camel case as protobuf's JSON mapping does.
use Rattle.std.specs.Prelude.{ℕ, ◌-◌, ◌==◌, List, [], ◌∷◌, codes, if◌then◌else◌}
use Rattle.ev_fields.specs.declared.field.Field.{Field}
use Rattle.ev_fields.specs.declared.field.Field.TheVariants.{Header, Revision, Succeeded, Responses, ResponsePut, ResponseDeleteRange, ResponseRange, Deleted, Kvs, Key, Value, CreateRevision, ModRevision, Version, Lease, Count, More, Id, Ttl, Result, Events, Kind, CompactRevision, Canceled, Created, Compare, Success, Failure, Target, RequestPut, RequestDeleteRange, RequestRange, RangeEnd, Limit, KeysOnly, CreateRequest, Fragment, ProgressNotify, StartRevision}

unfoldable pub snake : Field → List ℕ
snake Header = codes "header"
snake Revision = codes "revision"
snake Succeeded = codes "succeeded"
snake Responses = codes "responses"
snake ResponsePut = codes "response_put"
snake ResponseDeleteRange = codes "response_delete_range"
snake ResponseRange = codes "response_range"
snake Deleted = codes "deleted"
snake Kvs = codes "kvs"
snake Key = codes "key"
snake Value = codes "value"
snake CreateRevision = codes "create_revision"
snake ModRevision = codes "mod_revision"
snake Version = codes "version"
snake Lease = codes "lease"
snake Count = codes "count"
snake More = codes "more"
snake Id = codes "ID"
snake Ttl = codes "TTL"
snake Result = codes "result"
snake Events = codes "events"
snake Kind = codes "type"
snake CompactRevision = codes "compact_revision"
snake Canceled = codes "canceled"
snake Created = codes "created"
snake Compare = codes "compare"
snake Success = codes "success"
snake Failure = codes "failure"
snake Target = codes "target"
snake RequestPut = codes "request_put"
snake RequestDeleteRange = codes "request_delete_range"
snake RequestRange = codes "request_range"
snake RangeEnd = codes "range_end"
snake Limit = codes "limit"
snake KeysOnly = codes "keys_only"
snake CreateRequest = codes "create_request"
snake Fragment = codes "fragment"
snake ProgressNotify = codes "progress_notify"
snake StartRevision = codes "start_revision"

-- each small letter after an underscore becomes a capital, and the underscore goes
abbrev pub without_underscores : List ℕ → List ℕ
without_underscores [] = []
without_underscores (a ∷ []) = a ∷ []
without_underscores (a ∷ b ∷ bs) = if a == 95 then (b - 32) ∷ without_underscores bs else a ∷ without_underscores (b ∷ bs)

unfoldable pub camel : Field → List ℕ
camel f = without_underscores (snake f)
