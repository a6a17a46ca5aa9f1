-- The numbers that a store answers (etcd API reference, `KeyValue`): a key was put last at a revision up to the answer's own, and
-- each revision puts it once at most.
use Rattle.std.specs.Prelude.{ℤ, pos, ◌≤ℤ◌, All}
use Rattle.ev_types.specs.Answers.{revision_in}
use Rattle.ev_types.specs.Store.{last_revision}
use Rattle.ev_types.specs.declared.answer.ActAns.{ActAns}
use Rattle.ev_types.specs.declared.answer.ActAns.TheVariants as part
use Rattle.ev_types.specs.declared.answer.Answer.{Answer}
use Rattle.ev_types.specs.declared.answer.Answer.TheVariants as answer
use Rattle.ev_types.specs.declared.answer.Kv.{Kv}

-- a key as a store can have it at revision r
pub record IsPutBy (r : ℤ) (kv : Kv) : Type 0 where
  pub first : pos 1 ≤ℤ kv.mod_revision
  pub last : kv.mod_revision ≤ℤ r
  pub least : pos 0 ≤ℤ kv.version
  pub most : kv.version ≤ℤ r

-- each key that one operation of a transaction shows is one that a store can have at revision r
abbrev pub ShowsPuts : ℤ → ActAns → Type 0
ShowsPuts r (part.Range found) = All (IsPutBy r) found.kvs
ShowsPuts r part.Put = Unit {0}
ShowsPuts r (part.Deleted count) = Unit {0}

-- each key that an answer shows is one that a store can have at the answer's revision
abbrev pub AnswersPuts : Answer → Type 0
AnswersPuts (answer.Txn r succeeded parts) = All (ShowsPuts r) parts
AnswersPuts (answer.Range r found) = All (IsPutBy r) found.kvs
AnswersPuts (answer.Granted r id ttl) = Unit {0}
AnswersPuts (answer.Alive r id ttl) = Unit {0}

-- an answer's revision is one that a store can stand at, and each key that it shows is one of a store at that revision
pub record HasNumbers (a : Answer) : Type 0 where
  pub least : pos 0 ≤ℤ revision_in a
  pub most : revision_in a ≤ℤ last_revision
  pub puts : AnswersPuts a
