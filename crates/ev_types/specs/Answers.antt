-- What all answers have (etcd API reference, `ResponseHeader`).
use Rattle.std.specs.Prelude.{ℤ}
use Rattle.ev_types.specs.declared.answer.Answer.{Answer}
use Rattle.ev_types.specs.declared.answer.Answer.TheVariants.{Txn, Range, Granted, Alive}

-- the store's revision after the ask
abbrev pub revision_in : Answer → ℤ
revision_in (Txn revision succeeded parts) = revision
revision_in (Range revision found) = revision
revision_in (Granted revision id ttl) = revision
revision_in (Alive revision id ttl) = revision
