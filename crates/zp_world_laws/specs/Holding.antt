-- What holds of a world: its store serves the transcript, whatever may still be carried out is bound, and what each connection was
-- sent is a walk from its attachment on.
use Rattle.std.specs.Prelude.{◌≡◌, ◌≢◌, ℕ, ◌+◌, ◌≤◌, true, List, ◌++◌, Option, Some, None, slice_get}
use Rattle.std.specs.Option.{option_and_then}
use Rattle.ev_types.specs.Denials.{carry}
use Rattle.ev_types.specs.Store.{Store}
use Rattle.ev_types.specs.declared.answer.Answer.{Answer}
use Rattle.zk_transcript.specs.Conversations.{IsShownFresh, later_packets}
use Rattle.zk_transcript.specs.Legal.{Attachment, attach_of}
use Rattle.zk_transcript.specs.Walks.{Choice, Due, Walker, are_fresh, are_in_turn, are_sent, at_start, walk}
use Rattle.zk_transcript.specs.declared.transcript.TranscriptLine.{TranscriptLine}
use Rattle.zk_service.specs.declared.update.UpdateKind.{UpdateKind}
use Rattle.zk_service.specs.declared.update.UpdateKind.TheVariants.{Session as NewSession, Attach, Asked, Closed}
use Rattle.zp_laws.specs.Standing.{is_ahead}
use Rattle.zp_script.specs.declared.flight.Asking.{Asking}
use Rattle.zp_script.specs.declared.flight.Flight.{Flight}
use Rattle.zp_script.specs.declared.flight.Flight.TheVariants.{Out, Carried, Denied}
use Rattle.zp_script.specs.Worlds.{World, Conn, conn_at}
use Rattle.zp_world_laws.specs.Serving.{StoreServes, update_lines}
use Rattle.zp_world_laws.specs.Bounds.{IsBoundAsk}

-- ---- what may still be carried out

-- where an ask that may still be carried out is: out of connection or reaper c, or stray k (counted from 0)
pub data Source : Type 0 where
  Of : (c : ℕ) → Source
  Left : (k : ℕ) → Source

abbrev pub out_in : Option Flight → Option Asking
out_in None = None
out_in (Some (Out x)) = Some x
out_in (Some (Carried a)) = None
out_in (Some Denied) = None

abbrev pub out_of : Option Conn → Option Asking
out_of None = None
out_of (Some x) = out_in x.flight

abbrev pub left_in : Option (Option Asking) → Option Asking
left_in None = None
left_in (Some o) = o

abbrev pub air : World → Source → Option Asking
air w (Of c) = out_of (conn_at c w)
air w (Left k) = left_in (slice_get w.strays k)

-- the connection and the index of the request that an update carries out
pub record Indexed : Type 0 where
  pub connection : ℕ
  pub index : ℕ

abbrev pub requested_by : UpdateKind → Option Indexed
requested_by (Asked c i now) = Some (record { connection = c; index = i })
requested_by (Closed id c i) = Some (record { connection = c; index = i })
requested_by _ = None

-- the connection for which an update is made
abbrev pub made_for : UpdateKind → Option ℕ
made_for (NewSession id c) = Some c
made_for (Attach id c) = Some c
made_for (Asked c i now) = Some c
made_for (Closed id c i) = Some c
made_for _ = None

-- the connection that it attaches
abbrev pub attaches : UpdateKind → Option ℕ
attaches (NewSession id c) = Some c
attaches (Attach id c) = Some c
attaches _ = None

abbrev pub request_in : Asking → Option Indexed
request_in x = option_and_then requested_by x.kind

abbrev pub asker_in : Asking → Option ℕ
asker_in x = option_and_then made_for x.kind

-- ---- conversations

-- some choices, fresh and in turn, lead from the attachment to this walker, and give the packets after the welcome
pub record Talks (lines : List TranscriptLine) (c k : ℕ) (a : Attachment) (w : Walker) : Type 0 where
  pub choices : List Choice
  pub due : List Due
  pub walked : walk lines c a.session (at_start a.zxid (k + 1)) choices ≡ Some (w, due)
  pub sent : are_sent due (later_packets c lines) ≡ true
  pub fresh : are_fresh lines c 1 choices ≡ true
  pub in_turn : are_in_turn lines c 1 choices ≡ true

-- request i, which may still be carried out, has no reply yet, and neither it nor a later one has a line
pub record IsAhead (lines : List TranscriptLine) (c : ℕ) (walker : Walker) (i : ℕ) : Type 0 where
  pub unanswered : walker.next ≤ i
  pub follows : is_ahead lines c i ≡ true

pub record IsSpoken (w : World) (c k : ℕ) (a : Attachment) : Type 0 where
  pub walker : Walker
  pub talks : Talks w.lines c k a walker
  pub ahead : (src : Source) (x : Asking) (i : ℕ) → air w src ≡ Some x → request_in x ≡ Some (record { connection = c; index = i }) → IsAhead w.lines c walker i

-- ---- the world

pub record Holds (w : World) : Type 0 where
  pub serves : StoreServes w.store w.lines
  pub fresh : IsShownFresh w.lines
  pub bound : (src : Source) (x : Asking) → air w src ≡ Some x → IsBoundAsk w.store w.lines x
  -- of one connection at most one update may still be carried out
  pub alone : (a b : Source) (x y : Asking) (c : ℕ) → air w a ≡ Some x → air w b ≡ Some y → asker_in x ≡ Some c → asker_in y ≡ Some c → a ≡ b
  pub spoken : (c k : ℕ) (a : Attachment) → attach_of c w.lines ≡ Some (k, a) → IsSpoken w c k a

-- ---- something is carried out: of a connection, or a stray

pub record Carries (w : World) (src : Source) (w' : World) : Type 0 where
  pub what : Asking
  pub was : air w src ≡ Some what
  pub store : Store
  pub answer : Answer
  pub carried : carry w.store what.ask ≡ Some (store, answer)
  pub now : w'.store ≡ store
  pub lines : w'.lines ≡ w.lines ++ update_lines w.store store what.kind
  pub gone : air w' src ≡ None
  pub others : (o : Source) (x : Asking) → air w' o ≡ Some x → (o ≢ src) × (air w o ≡ Some x)
