-- What the program sees, as the definitions' data.
use Rattle.std.specs.Prelude.{◌≡◌, ◌≤◌, ℕ, ℤ, Bool, List, Option, length, drop, take, option_map}
use Rattle.zk_jute.specs.Requests.{Frame, NoHeader, Unreadable, Unknown, Asks, read_request}
use Rattle.zk_model.specs.Limits.{max_frame}
use Rattle.zk_model.specs.Watches.{Watches}
use Rattle.zk_model.specs.declared.reply.Body.{Body}
use Rattle.zk_model.specs.declared.reply.Reply.{Reply}
use Rattle.zk_service.specs.declared.update.UpdateRec.{UpdateRec}
use Rattle.zk_transcript.specs.declared.transcript.TranscriptLine.{TranscriptLine}
use Rattle.zk_service.specs.Answers.{Told, only, xid_of}
use Rattle.zk_transcript.specs.History.{state_at}
use Rattle.zk_transcript.specs.Walks.{Due, Walker, fired_above, reply_step_if, told_as_of}
use Rattle.zk_least.specs.LeastQueues.{then_plainly, told_up_to}
use Rattle.zk_least.specs.LeastWalk.{given, zxid_in}
use Rattle.zk_history.specs.Commits.{response_in}
use Rattle.zk_answers.specs.Outcomes.{told_of}
use Rattle.zk_judge.specs.declared.frames.FrameRead.{FrameRead}
use Rattle.zk_judge.specs.declared.frames.FrameRead.TheVariants as read
use Rattle.zk_judge.specs.declared.frames.Said.{Said}
use Rattle.zk_judge.specs.declared.walker.Party.{Party}
use Rattle.zk_judge.specs.declared.walker.Walker.{Walker as Walking}
use Rattle.zk_judge.specs.declared.walker.Step.{Step}
use Rattle.zk_judge.specs.declared.walker.Fired.{Fired}
use Rattle.zk_judge.specs.declared.queues.Taken.{Taken}
use Rattle.zk_judge.specs.declared.answers.Ending.{Ending}

-- the reply of what is told
abbrev pub reply_in : Option Told → Option Reply
reply_in o = option_map (λ (t : Told). t.reply) o

-- a reply that the tree does not decide, which has no notices
abbrev pub said_of : Said → Told
said_of s = only s.watches s.reply

abbrev pub frame_as : FrameRead → Frame
frame_as read.NoHeader = NoHeader
frame_as (read.Unreadable xid place) = Unreadable xid place
frame_as (read.Unknown xid kind) = Unknown xid kind
frame_as (read.Asks xid r) = Asks xid r.value

-- some bytes, no longer than a frame may be, are read as this
pub record IsShortFrame (f : Frame) : Type 0 where
  pub bytes : List ℕ
  pub short : length bytes ≤ max_frame
  pub reads : read_request bytes ≡ f

abbrev pub walker_of : Walking → Walker
walker_of w = record { zxid = w.zxid; since = w.since; watches = w.watches; next = w.next; moment = w.moment; over = w.is_over }

-- how far a step brings the connection, and what is due with it
abbrev pub step_of : Step → Walker × List Due
step_of s = (walker_of s.walker, s.due.items)

abbrev pub fired_of : Fired → Watches × List Due
fired_of f = (f.watches, f.due.items)

-- whether no request is answered after what is told, and what is told
abbrev pub ending_of : Ending → Bool × Told
ending_of e = (e.is_over, told_of e.told)

-- how far a step brings the connection, and the packets that it leaves
abbrev pub left_by : List Due → Step → Walker × List Due
left_by ps s = (walker_of s.walker, drop (length s.due.items) ps)

-- how far a reply brings the connection, and the packets that it leaves
abbrev pub taken_by : List Due → Taken → Walker × List Due
taken_by ps t = (walker_of t.walker, drop t.count ps)

-- how far the next frame's answer without the tree brings a connection after what it was told, and the packets that it leaves
abbrev pub then_answered : List TranscriptLine → Party → Option (Walker × List Due) → Option (Walker × List Due)
then_answered lines p told = then_plainly lines p.connection p.session told

-- how far a reply without the tree brings the connection, with what it is told before, and the packets that these leave
abbrev pub plainly_given : List TranscriptLine → Party → Walker → List Due → List ℕ → Option (Walker × List Due)
plainly_given lines p w ps reply = then_answered lines p (given ps (told_up_to lines w (zxid_in reply)))

-- the body of the reply to the request that an update carried out, whose line stands at place k
abbrev pub update_response : List TranscriptLine → ℕ → UpdateRec → Option Body
update_response lines k u = response_in (take k lines) (state_at lines k) u.zxid u.kind

-- the answer to a frame at place k that may be answered as of the moment after these lines
abbrev pub answer_after : List TranscriptLine → ℕ → ℤ → Walker → Option (ℕ × UpdateRec) → ℕ → Frame → Option (Walker × List Due)
answer_after past c id w own k x = let g = fired_above past w.zxid w.watches in reply_step_if past w k (xid_of x) g.1 (told_as_of past c id x g.0 own)
