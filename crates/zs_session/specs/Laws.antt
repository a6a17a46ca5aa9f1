-- The laws of the transactions of sessions.
use Rattle.std.specs.Prelude.{◌≡◌, ℤ, pos, true, List, length, Some}
use Rattle.ev_types.specs.declared.answer.ActAns.{ActAns}
use Rattle.ev_types.specs.declared.answer.Answer.TheVariants as answer
use Rattle.ev_types.specs.declared.ask.Ask.TheVariants as ask
use Rattle.ev_types.specs.Denials.{carry}
use Rattle.ev_types.specs.Reads.{are_present_reads}
use Rattle.ev_types.specs.Sizes.{IsSendable}
use Rattle.ev_types.specs.Store.{Store, present}
use Rattle.zk_service.specs.States.{State}
use Rattle.zn_layout.specs.declared.record.LeaseRec.{LeaseRec}
use Rattle.zn_layout.specs.Records.{IsLeaseRec}
use Rattle.zn_layout.specs.StandsFor.{StandsFor}
use Rattle.zk_service.specs.declared.fresh.Fresh.{Fresh}
use Rattle.zs_session.specs.Connecting.{number_shown}
use Rattle.zs_session.specs.Sessions.{attach_txn, new_session_txn}

-- an etcd takes the transaction of a new session: it keeps its bounds
abbrev pub NewSessionIsSendable : Type 0
NewSessionIsSendable = (f : Fresh) (timeout : ℤ) → length f.passwd ≡ 16 → IsSendable (new_session_txn f timeout)

-- an etcd takes the transaction of an attachment: it keeps its bounds
abbrev pub AttachmentIsSendable : Type 0
AttachmentIsSendable = (id seen : ℤ) (life : LeaseRec) → IsLeaseRec life → IsSendable (attach_txn id seen life)

-- where a guard fails, the transaction of a new session reads and changes nothing
abbrev pub NewSessionIsReadAgain : Type 0
NewSessionIsReadAgain = (f : Fresh) (timeout : ℤ) → are_present_reads (new_session_txn f timeout).failure ≡ true

-- where a guard fails, the transaction of an attachment reads and changes nothing
abbrev pub AttachmentIsReadAgain : Type 0
AttachmentIsReadAgain = (id seen : ℤ) (life : LeaseRec) → are_present_reads (attach_txn id seen life).failure ≡ true

-- the answer of a new session's transaction that succeeded shows the number of its update: that of the state for which the keys
-- stand then
abbrev pub NewSessionShowsItsNumber : Type 0
NewSessionShowsItsNumber = (f : Fresh) (timeout : ℤ) (s new : Store) (z : ℤ) (parts : List ActAns) (t : State)
    → carry s (ask.Txn (new_session_txn f timeout)) ≡ Some (new, answer.Txn z true parts) → StandsFor (present new) t
    → number_shown parts ≡ pos t.updates

-- the answer of an attachment's transaction that succeeded shows the number of its update: that of the state for which the keys
-- stand then
abbrev pub AttachmentShowsItsNumber : Type 0
AttachmentShowsItsNumber = (id seen : ℤ) (life : LeaseRec) (s new : Store) (z : ℤ) (parts : List ActAns) (t : State)
    → carry s (ask.Txn (attach_txn id seen life)) ≡ Some (new, answer.Txn z true parts) → StandsFor (present new) t
    → number_shown parts ≡ pos t.updates
