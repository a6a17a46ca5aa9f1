-- An answer that fits a transaction is one that a reaper's next step takes.
use Rattle.std.proofs.Common.{List, [], ◌∷◌}
use Rattle.std.specs.Prelude.{Some}
use Rattle.std.proofs.lemmas.List.Elements.{All-cons, All-nil}
use Rattle.ev_call.specs.Asks.{IsGrantable}
use Rattle.ev_call.specs.Fitting.{AreCounts, Fits, PartFits, PartsFit}
use Rattle.ev_types.specs.Store.{chosen}
use Rattle.ev_types.specs.declared.answer.ActAns.{ActAns}
use Rattle.ev_types.specs.declared.answer.ActAns.TheVariants as part
use Rattle.ev_types.specs.declared.answer.Answer.{Answer}
use Rattle.ev_types.specs.declared.answer.Answer.TheVariants as answer
use Rattle.ev_types.specs.declared.answer.Kv.{Kv}
use Rattle.ev_types.specs.declared.ask.Act.{Act}
use Rattle.ev_types.specs.declared.ask.Act.TheVariants as act
use Rattle.ev_types.specs.declared.ask.Ask.{Ask}
use Rattle.ev_types.specs.declared.ask.Ask.TheVariants as ask
use Rattle.zn_view.specs.Adding.{AreNumbers, AreNumbersIn}
use Rattle.zn_view.specs.Seen as seen
use Rattle.zs_reap.specs.Steps.{IsOfTxn, IsTxn, IsReaperWaiting, MayStepReaper}
use Rattle.zs_reap.specs.declared.reap.Reap.{Reap}
use Rattle.zs_reap.specs.declared.reap.ReapStep.TheVariants as steps

kv-counts : (kv : Kv) → AreCounts kv → seen.AreCounts kv
kv-counts kv h = record { revision = record { least = (h.revision).least; most = (h.revision).most }; version = record { least = (h.version).least; most = (h.version).most } }

part-numbers : (a : Act) (p : ActAns) → PartFits a p → AreNumbersIn p
part-numbers (act.Put k v lease) part.Put h = All-nil seen.AreCounts
part-numbers (act.Delete k) (part.Deleted n) h = All-nil seen.AreCounts
part-numbers (act.Range q) (part.Range found) h = λ k d below. kv-counts _ (h k d below)
part-numbers (act.Put k v lease) (part.Deleted n) h = absurd h
part-numbers (act.Put k v lease) (part.Range found) h = absurd h
part-numbers (act.Delete k) part.Put h = absurd h
part-numbers (act.Delete k) (part.Range found) h = absurd h
part-numbers (act.Range q) part.Put h = absurd h
part-numbers (act.Range q) (part.Deleted n) h = absurd h

parts-numbers : (acts : List Act) (parts : List ActAns) → PartsFit acts parts → AreNumbers parts
parts-numbers [] [] h = All-nil AreNumbersIn
parts-numbers [] (p ∷ ps) h = absurd h
parts-numbers (a ∷ acts) [] h = absurd h
parts-numbers (a ∷ acts) (p ∷ ps) h = All-cons AreNumbersIn p ps (part-numbers a p h.0) (parts-numbers acts ps h.1)

fits_txn : (q : Ask) (a : Answer) → IsTxn q → Fits q a → IsOfTxn a
fits_txn (ask.Txn t) (answer.Txn revision b parts) is h = record { revision_is = record { least = (h.0).least; most = (h.0).most }; numbers = parts-numbers (chosen b t) parts h.1 }
fits_txn (ask.Txn t) (answer.Range revision found) is h = absurd h
fits_txn (ask.Txn t) (answer.Granted revision id ttl) is h = absurd h
fits_txn (ask.Txn t) (answer.Alive revision id ttl) is h = absurd h
fits_txn (ask.Range q) a is h = absurd is
fits_txn (ask.Grant i s) a is h = absurd is
fits_txn (ask.Alive i) a is h = absurd is

-- a reaper asks transactions alone
txn_grantable : (q : Ask) → IsTxn q → IsGrantable q
txn_grantable (ask.Txn t) is = tt
txn_grantable (ask.Range q) is = tt
txn_grantable (ask.Grant i s) is = absurd is
txn_grantable (ask.Alive i) is = tt

pub may_next : (q : Ask) (r : Reap) (got : Answer) → IsReaperWaiting (steps.Ask q) r.phase → Fits q got → MayStepReaper r (Some got)
may_next q r got waits fits = (waits.0, fits_txn q got waits.1 fits)

pub granted : (q : Ask) (r : Reap) → IsReaperWaiting (steps.Ask q) r.phase → IsGrantable q
granted q r waits = txn_grantable q waits.1
