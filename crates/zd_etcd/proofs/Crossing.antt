-- A shared store may be shared by threads.
use denote.Param.Send.{IsSend, IsSync, sendable}
use Rattle.std.proofs.Crossing.{crosses}
use Rattle.ev_shared.specs.contracts.event.Event as Event
use Rattle.ev_shared.specs.contracts.kept.Kept as Kept
use Rattle.ev_shared.specs.contracts.shared_store.SharedStore as SharedStore
use Rattle.ev_store.proofs.store.Store.TheSendSync as store
use Rattle.ev_shared.proofs.term.Term.TheSendSync as term
use Rattle.ev_shared.proofs.crowd.Crowd.TheSendSync as crowd
use Rattle.zx_history.proofs.ghost_history.GhostHistory.TheSendSync as ghost

event_send : IsSend (Event.the_field).row
event_send = search sendable depth 20

kept_send : IsSend (Kept.the_field).row
kept_send = search (sendable, crosses, event_send, store.the_send, term.the_field_send, ghost.the_send) depth 20

pub shared_send : IsSend (SharedStore.the_field).row
shared_send = search (sendable, crosses, kept_send, crowd.the_field_send) depth 20

pub shared_sync : IsSync (SharedStore.the_field).row
shared_sync = search (sendable, crosses, kept_send, crowd.the_field_sync) depth 20
