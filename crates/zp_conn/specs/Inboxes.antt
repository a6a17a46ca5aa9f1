-- What came of a client's stream, and what of it was handed in.
use Rattle.std.specs.Prelude.{◌≡◌, ℕ, ℤ, ◌+◌, ◌-◌, Bool, true, List, [], ◌∷◌, ◌++◌, length, Option, Some, None, Result, Ok, Err}
use Rattle.std.specs.Global.{Vec}
use Rattle.zk_wire.specs.Cutting.{CutTakes as CutterTakes}
use Rattle.zk_wire.specs.declared.cutter.CutFault.{CutFault}
use Rattle.zk_wire.specs.declared.cutter.CutFault.TheVariants as faults
use Rattle.zk_jute.specs.Frames.{Framed, bad_length}
use Rattle.zk_wire.specs.Cutting.{CutStands, Stream}
use Rattle.zp_step.specs.Stages.{counted_up}
use Rattle.zx_outside.specs.Counts.{one_more}
use Rattle.zx_outside.specs.Reading.{Gives}
use Rattle.zp_conn.specs.declared.inbox.Came.{Came}
use Rattle.zp_conn.specs.declared.inbox.Came.TheVariants as came

-- what the cutter holds, the whole frames that were not handed in, and the number of bytes that came
pub record InboxState : Type 0 where
  pub stream : Stream
  pub frames : List (List ℕ)
  pub count : ℕ

-- after the bytes `read`, of whose frames these were handed in
pub record Holds (read : List ℕ) (given : List (List ℕ)) (i : InboxState) : Type 0 where
  pub stands : CutStands read (given ++ i.frames) i.stream
  pub placed : (i.stream).place ≡ counted_up (length read - length stands.rest)
  pub counted : i.count ≡ counted_up (length read)

-- after all whole frames of these bytes, which were handed in, stands a length out of range, after so many bytes
pub record IsBadAt (read : List ℕ) (given : List (List ℕ)) (place : ℕ) (n : ℤ) : Type 0 where
  pub rest : List ℕ
  pub framed : Framed read given rest
  pub bad : bad_length rest ≡ Some n
  pub at : place ≡ counted_up (length read - length rest)

-- what came, where these bytes were read in all
abbrev pub Comes : Came → List ℕ → List (List ℕ) → InboxState → Type 0
Comes (came.Frame bytes) read given new = Holds read (given ++ bytes ∷ []) new
Comes (came.BadLength place n) read given new = IsBadAt read given place n
Comes (came.End place) read given new = Holds read given new × (new.frames ≡ []) × (place ≡ counted_up (length read))
Comes came.Nothing read given new = Holds read given new
Comes came.Failed read given new = Holds read given new
Comes came.Memory read given new = Unit {0}

-- ---- the parts of a look

-- the next of the frames that are whole
abbrev pub Pops : Option (List ℕ) → InboxState → InboxState → Type 0
Pops None old new = (old.frames ≡ []) × (new ≡ old)
Pops (Some f) old new = (old.frames ≡ f ∷ new.frames) × (new.stream ≡ old.stream) × (new.count ≡ old.count)

-- this piece is cut, and its frames wait after those that are there
abbrev pub Cuts : Result (Unit {0}) CutFault → List ℕ → InboxState → InboxState → Type 0
Cuts (Ok _) piece old new = ((v : Vec (List ℕ)) × CutterTakes old.stream piece (Ok v) new.stream × (new.frames ≡ old.frames ++ v.items)) × (new.count ≡ counted_up (old.count + length piece))
Cuts (Err (faults.BadLength place n)) piece old new = CutterTakes old.stream piece (Err (faults.BadLength place n)) new.stream
    × (new.frames ≡ old.frames) × (new.count ≡ counted_up (old.count + length piece))
Cuts (Err faults.Memory) piece old new = Unit {0}

abbrev pub came_by : Result (Unit {0}) CutFault → Came
came_by (Ok _) = came.Nothing
came_by (Err (faults.BadLength place n)) = came.BadLength place n
came_by (Err faults.Memory) = came.Memory

-- where no frame is wanted, a length out of range stays where it is
abbrev pub kept_by : Result (Unit {0}) CutFault → Came
kept_by (Ok _) = came.Nothing
kept_by (Err (faults.BadLength place n)) = came.Nothing
kept_by (Err faults.Memory) = came.Memory

-- what may come where no frame is wanted
abbrev pub IsQuiet : Came → Type 0
IsQuiet came.Nothing = Unit {0}
IsQuiet came.Failed = Unit {0}
IsQuiet came.Memory = Unit {0}
IsQuiet _ = ⊥

-- a fault of the source is counted
abbrev pub faults_after : Came → ℕ → ℕ
faults_after came.Failed count = one_more count
faults_after (came.Frame bytes) count = count
faults_after (came.BadLength place n) count = count
faults_after (came.End place) count = count
faults_after came.Nothing count = count
faults_after came.Memory count = count

-- the client's end comes where the source has ended
abbrev pub IsEndedAfter : Came → Bool → Type 0
IsEndedAfter (came.End place) ended = ended ≡ true
IsEndedAfter _ ended = Unit {0}

-- a call read this piece of the stream, and goes on by it, where no whole frame was left
pub record ReadsFrom (result : Came) (old new : InboxState) (given given' left left' : Option (List ℕ)) : Type 0 where
  pub piece : List ℕ
  pub gives : Gives piece given given' left left'
  pub comes : (read : List ℕ) (handed : List (List ℕ)) → old.frames ≡ [] → Holds read handed old → Comes result (read ++ piece) handed new

-- a call read this piece of the stream, and gives what comes next
pub record ReadsOn (result : Came) (old new : InboxState) (given given' left left' : Option (List ℕ)) : Type 0 where
  pub piece : List ℕ
  pub gives : Gives piece given given' left left'
  pub comes : (read : List ℕ) (handed : List (List ℕ)) → Holds read handed old → Comes result (read ++ piece) handed new
