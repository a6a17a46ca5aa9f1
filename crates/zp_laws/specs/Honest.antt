-- An etcd that keeps its guarantees shows no value that is no record: where its keys stand for a state of the service, what is
-- found under each key is a record of the key's kind.
use Rattle.std.specs.Prelude.{◌≡◌, ℕ, ℤ, pos, ◌≤◌, Bool, List, Some}
use Rattle.ev_types.specs.Denials.{carry}
use Rattle.ev_types.specs.Store.{Store, chosen, present, store_at}
use Rattle.ev_types.specs.declared.answer.ActAns.{ActAns}
use Rattle.ev_types.specs.declared.answer.Answer.TheVariants as answer
use Rattle.ev_types.specs.declared.ask.Ask.TheVariants as ask
use Rattle.ev_types.specs.declared.ask.TxnReq.{TxnReq}
use Rattle.zk_service.specs.States.{State}
use Rattle.zn_layout.specs.StandsFor.{StandsFor}
use Rattle.zn_view.specs.Adding.{AreRecords, IsFirstDamaged}
use Rattle.zn_view.specs.Asks.{ranges_of}
use Rattle.zn_view.specs.declared.want.Want.{Want}
use Rattle.zx_base.specs.Maps.{Bytes}

-- in a look at the present, whatever transaction makes it
abbrev pub PresentIsRecords : Type 0
PresentIsRecords = (s new : Store) (t : TxnReq) (x : State) (ws : List Want) (r : ℤ) (b : Bool) (parts : List ActAns) → carry s (ask.Txn t) ≡ Some (new, answer.Txn r b parts)
    → chosen b t ≡ ranges_of (pos 0) ws → StandsFor (present s) x → AreRecords ws parts

-- and in one at an earlier revision
abbrev pub PastIsRecords : Type 0
PastIsRecords = (s new : Store) (t : TxnReq) (x : State) (n : ℕ) (ws : List Want) (r : ℤ) (b : Bool) (parts : List ActAns) → carry s (ask.Txn t) ≡ Some (new, answer.Txn r b parts)
    → chosen b t ≡ ranges_of (pos n) ws → 1 ≤ n → StandsFor (store_at s n) x → AreRecords ws parts

-- among records none is damaged
abbrev pub RecordsAreSound : Type 0
RecordsAreSound = (ws : List Want) (parts : List ActAns) (key value : Bytes) → AreRecords ws parts → IsFirstDamaged ws parts key value → ⊥
