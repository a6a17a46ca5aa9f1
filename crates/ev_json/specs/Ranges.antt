-- The ranges within which a message that was written reads back as itself. Their lower ends are etcd's, and their upper ends are
-- this project's.
use Rattle.std.specs.Prelude.{◌≡◌, ℤ, Bool, true, List, [], ◌∷◌, if◌then◌else◌, ⊤}
use Rattle.std.specs.List.{AllByRecursion}
use Rattle.base64.specs.GeneralPurpose.{IsBytes}
use Rattle.ev_types.specs.declared.answer.Kv.{Kv}
use Rattle.ev_types.specs.declared.answer.RangeAns.{RangeAns}
use Rattle.ev_types.specs.declared.answer.ActAns.{ActAns}
use Rattle.ev_types.specs.declared.answer.ActAns.TheVariants as part
use Rattle.ev_types.specs.declared.answer.Answer.{Answer}
use Rattle.ev_types.specs.declared.answer.Answer.TheVariants as answer
use Rattle.ev_types.specs.declared.ask.RangeReq.{RangeReq}
use Rattle.ev_types.specs.declared.ask.Guard.{Guard}
use Rattle.ev_types.specs.declared.ask.Act.{Act}
use Rattle.ev_types.specs.declared.ask.Act.TheVariants as act
use Rattle.ev_types.specs.declared.ask.TxnReq.{TxnReq}
use Rattle.ev_types.specs.declared.ask.Ask.{Ask}
use Rattle.ev_types.specs.declared.ask.Ask.TheVariants as ask
use Rattle.ev_fields.specs.Ranges.{IsCount, IsLease, IsPositiveCount, IsPositiveLease, IsKey}
use Rattle.ev_json.specs.declared.line.Line.{Line}
use Rattle.ev_json.specs.declared.line.Line.TheVariants as line

-- ---- asks

abbrev pub GuardFits : Guard → Type 0
GuardFits g = IsKey g.key × IsCount g.mod_revision

abbrev pub RangeFits : RangeReq → Type 0
RangeFits r = IsKey r.key × IsBytes r.end × IsCount r.revision × IsCount r.limit

abbrev pub ActFits : Act → Type 0
ActFits (act.Put key value lease) = IsKey key × IsBytes value × IsLease lease
ActFits (act.Delete key) = IsKey key
ActFits (act.Range r) = RangeFits r

abbrev pub TxnFits : TxnReq → Type 0
TxnFits t = AllByRecursion GuardFits t.guards × AllByRecursion ActFits t.success × AllByRecursion ActFits t.failure

abbrev pub AskFits : Ask → Type 0
AskFits (ask.Txn t) = TxnFits t
AskFits (ask.Range r) = RangeFits r
AskFits (ask.Grant id ttl) = IsPositiveLease id × IsPositiveCount ttl
AskFits (ask.Alive id) = IsPositiveLease id

-- ---- answers

abbrev pub KvFits : Kv → Type 0
KvFits kv = IsBytes kv.key × IsBytes kv.value × IsCount kv.create_revision × IsCount kv.mod_revision × IsCount kv.version × IsLease kv.lease

abbrev pub FoundFits : RangeAns → Type 0
FoundFits found = AllByRecursion KvFits found.kvs × IsCount found.count

-- the answer is of the operation's kind, and its numbers are in range
abbrev pub PartFits : Act → ActAns → Type 0
PartFits (act.Put key value lease) part.Put = ⊤
PartFits (act.Put key value lease) (part.Deleted n) = ⊥
PartFits (act.Put key value lease) (part.Range found) = ⊥
PartFits (act.Delete key) part.Put = ⊥
PartFits (act.Delete key) (part.Deleted n) = IsCount n
PartFits (act.Delete key) (part.Range found) = ⊥
PartFits (act.Range r) part.Put = ⊥
PartFits (act.Range r) (part.Deleted n) = ⊥
PartFits (act.Range r) (part.Range found) = FoundFits found

-- one answer for each operation, which fits it
abbrev pub PartsFit : List Act → List ActAns → Type 0
PartsFit [] [] = ⊤
PartsFit [] (p ∷ ps) = ⊥
PartsFit (a ∷ acts) [] = ⊥
PartsFit (a ∷ acts) (p ∷ ps) = PartFits a p × PartsFit acts ps

-- without guards it is the success list that is carried out
abbrev pub CanCome : List Guard → Bool → Type 0
CanCome [] succeeded = succeeded ≡ true
CanCome (guard ∷ guards) succeeded = ⊤

-- the answer is of the ask's kind, its numbers are in range, and it is of a list that can have been carried out
abbrev pub AnswerFits : Ask → Answer → Type 0
AnswerFits (ask.Txn t) (answer.Txn revision succeeded parts) = IsCount revision × PartsFit (if succeeded then t.success else t.failure) parts × CanCome t.guards succeeded
AnswerFits (ask.Txn t) (answer.Range revision found) = ⊥
AnswerFits (ask.Txn t) (answer.Granted revision id ttl) = ⊥
AnswerFits (ask.Txn t) (answer.Alive revision id ttl) = ⊥
AnswerFits (ask.Range r) (answer.Txn revision succeeded parts) = ⊥
AnswerFits (ask.Range r) (answer.Range revision found) = IsCount revision × FoundFits found
AnswerFits (ask.Range r) (answer.Granted revision id ttl) = ⊥
AnswerFits (ask.Range r) (answer.Alive revision id ttl) = ⊥
AnswerFits (ask.Grant id ttl) (answer.Txn revision succeeded parts) = ⊥
AnswerFits (ask.Grant id ttl) (answer.Range revision found) = ⊥
AnswerFits (ask.Grant id ttl) (answer.Granted revision granted left) = IsCount revision × IsLease granted × IsCount left
AnswerFits (ask.Grant id ttl) (answer.Alive revision kept left) = ⊥
AnswerFits (ask.Alive id) (answer.Txn revision succeeded parts) = ⊥
AnswerFits (ask.Alive id) (answer.Range revision found) = ⊥
AnswerFits (ask.Alive id) (answer.Granted revision granted left) = ⊥
AnswerFits (ask.Alive id) (answer.Alive revision kept left) = IsCount revision × IsLease kept × IsCount left

-- ---- lines

-- what a line says that was written for these puts: that the watch was created, where there are none
abbrev pub line_of : List Kv → ℤ → Line
line_of [] revision = line.Created revision
line_of (kv ∷ kvs) revision = line.Events revision (kv ∷ kvs)

-- the numbers of a line that was read are in range
abbrev pub LineFits : Line → Type 0
LineFits (line.Created revision) = IsCount revision
LineFits (line.Events revision kvs) = IsCount revision × AllByRecursion KvFits kvs
LineFits (line.Compacted rev) = IsPositiveCount rev
LineFits line.Ended = ⊤
