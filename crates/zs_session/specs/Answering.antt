-- Which answers an ask may have, and what a look shows.
use Rattle.std.specs.Prelude.{◌≡◌, ℤ, Bool, true, List, [], ◌∷◌, Option, Some, None}
use Rattle.ev_types.specs.Store.{chosen}
use Rattle.ev_types.specs.declared.answer.ActAns.{ActAns}
use Rattle.ev_types.specs.declared.answer.ActAns.TheVariants as part
use Rattle.ev_types.specs.declared.answer.Answer.{Answer}
use Rattle.ev_types.specs.declared.answer.Answer.TheVariants as answer
use Rattle.ev_types.specs.declared.ask.Act.{Act}
use Rattle.ev_types.specs.declared.ask.Act.TheVariants as act
use Rattle.ev_types.specs.declared.ask.Ask.{Ask}
use Rattle.ev_types.specs.declared.ask.Ask.TheVariants as ask
use Rattle.ev_types.specs.declared.ask.Guard.{Guard}
use Rattle.ev_types.specs.declared.ask.TxnReq.{TxnReq}
use Rattle.zn_view.specs.declared.want.Want.{Want}
use Rattle.zn_view.specs.Adding.{AreNumbers, at_revision, IsFirstDamaged}
use Rattle.zn_view.specs.Asks.{with_parts}
use Rattle.zn_view.specs.Seen.{View, empty_view, IsCountNumber}
use Rattle.zs_session.specs.declared.fault.StepFault.{StepFault}
use Rattle.zs_session.specs.declared.fault.StepFault.TheVariants.{Damaged, Memory}

-- the revision and the numbers of what was found are in an etcd's range
pub record IsTxnAnswer (revision : ℤ) (parts : List ActAns) : Type 0 where
  pub revision_is : IsCountNumber revision
  pub numbers : AreNumbers parts

-- so they are where the answer is a transaction's
abbrev pub HasTxnNumbers : Answer → Type 0
HasTxnNumbers (answer.Txn revision succeeded parts) = IsTxnAnswer revision parts
HasTxnNumbers _ = Unit {0}

-- a part is of its operation's kind
abbrev pub IsPartOf : Act → ActAns → Type 0
IsPartOf (act.Put k v lease) part.Put = Unit {0}
IsPartOf (act.Delete k) (part.Deleted n) = Unit {0}
IsPartOf (act.Range q) (part.Range found) = Unit {0}
IsPartOf _ _ = ⊥

-- one part for each operation, in their order
abbrev pub ArePartsOf : List Act → List ActAns → Type 0
ArePartsOf [] [] = Unit {0}
ArePartsOf (a ∷ acts) (p ∷ parts) = IsPartOf a p × ArePartsOf acts parts
ArePartsOf _ _ = ⊥

-- a transaction without guards succeeds
abbrev pub MaySucceed : List Guard → Bool → Type 0
MaySucceed [] succeeded = succeeded ≡ true
MaySucceed (guard ∷ guards) succeeded = Unit {0}

-- the answer to a transaction has numbers in an etcd's range, and a part for each operation of the list that was carried out
pub record IsAnswerToTxn (t : TxnReq) (revision : ℤ) (succeeded : Bool) (parts : List ActAns) : Type 0 where
  pub revision_is : IsCountNumber revision
  pub numbers : AreNumbers parts
  pub succeeds : MaySucceed t.guards succeeded
  pub each : ArePartsOf (chosen succeeded t) parts

-- an answer is of the kind of its ask
abbrev pub IsAnswerTo : Ask → Answer → Type 0
IsAnswerTo (ask.Txn t) (answer.Txn revision succeeded parts) = IsAnswerToTxn t revision succeeded parts
IsAnswerTo (ask.Range q) (answer.Range revision found) = Unit {0}
IsAnswerTo (ask.Grant id ttl) (answer.Granted revision i seconds) = Unit {0}
IsAnswerTo (ask.Alive id) (answer.Alive revision i seconds) = Unit {0}
IsAnswerTo _ _ = ⊥

-- the first step has no answer; each other one has an answer to what was asked last
abbrev pub IsAwaited : Option Ask → Option Answer → Type 0
IsAwaited None None = Unit {0}
IsAwaited (Some q) (Some a) = IsAnswerTo q a
IsAwaited _ _ = ⊥

-- it is the answer of a transaction, of which this holds
abbrev pub OfTxn : Answer → (ℤ → Bool → List ActAns → Type 0) → Type 0
OfTxn (answer.Txn revision succeeded parts) P = P revision succeeded parts
OfTxn _ P = ⊥

-- it is the answer of a keepalive, and this holds of the seconds that the lease has left
abbrev pub OfAlive : Answer → (ℤ → Type 0) → Type 0
OfAlive (answer.Alive revision id seconds) P = P seconds
OfAlive _ P = ⊥

-- what a look at these keys at a revision shows
abbrev pub viewed : ℤ → List Want → List ActAns → View
viewed revision ws parts = with_parts (at_revision empty_view revision) ws parts

-- the first of the keys whose value isn't a record, with that value; or memory was refused
abbrev pub IsLookFault : List Want → List ActAns → StepFault → Type 0
IsLookFault ws parts (Damaged key value) = IsFirstDamaged ws parts key value
IsLookFault ws parts Memory = Unit {0}
