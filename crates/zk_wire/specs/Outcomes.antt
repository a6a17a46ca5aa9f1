-- What a call that reads a frame answers, by what the definitions read the frame as. `Memory` may come at any frame.
use Rattle.std.specs.Prelude.{◌≡◌, ℤ, Option, Some, None, Result, Ok, Err}
use Rattle.zk_model.specs.declared.connect.ConnectRequest.{ConnectRequest}
use Rattle.zk_model.specs.declared.reply.Reply.{Reply}
use Rattle.zk_model.specs.declared.request.Request.{Request}
use Rattle.zk_jute.specs.Requests.{Frame, NoHeader, Unreadable, Unknown, Asks}
use Rattle.zk_jute.specs.ReplyReading as replies
use Rattle.zk_jute.specs.ReplyReading.{ReplyFrame, Answers}
use Rattle.zk_wire.specs.declared.fault.WireFault.{WireFault}
use Rattle.zk_wire.specs.declared.fault.WireFault.TheVariants as faults

abbrev pub IsReadAs : Result (ℤ × Request) WireFault → Frame → Type 0
IsReadAs (Ok x) frame = frame ≡ Asks x.0 x.1
IsReadAs (Err faults.NoHeader) frame = frame ≡ NoHeader
IsReadAs (Err (faults.Unreadable xid place)) frame = frame ≡ Unreadable xid place
IsReadAs (Err (faults.Unknown xid kind)) frame = frame ≡ Unknown xid kind
IsReadAs (Err faults.Memory) frame = Unit {0}

-- a first frame has one fault alone: that it is no connect
abbrev pub IsConnectReadAs : Result ConnectRequest WireFault → Option ConnectRequest → Type 0
IsConnectReadAs (Ok request) read = read ≡ Some request
IsConnectReadAs (Err faults.NoHeader) read = read ≡ None
IsConnectReadAs (Err (faults.Unreadable xid place)) read = ⊥
IsConnectReadAs (Err (faults.Unknown xid kind)) read = ⊥
IsConnectReadAs (Err faults.Memory) read = Unit {0}

abbrev pub IsReplyReadAs : Result (ℤ × ℤ × Reply) WireFault → ReplyFrame → Type 0
IsReplyReadAs (Ok x) frame = frame ≡ Answers x.0 x.1 x.2
IsReplyReadAs (Err faults.NoHeader) frame = frame ≡ replies.NoHeader
IsReplyReadAs (Err (faults.Unreadable xid place)) frame = frame ≡ replies.Unreadable xid place
IsReplyReadAs (Err (faults.Unknown xid kind)) frame = frame ≡ replies.Unknown xid kind
IsReplyReadAs (Err faults.Memory) frame = Unit {0}
