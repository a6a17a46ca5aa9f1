-- The first asks: where the updates stand, or why that is not known.
use Rattle.std.specs.Prelude.{◌≡◌, ◌⊎◌, ℕ, ◌-◌, ℤ, pos, ◌≤ℤ◌, ◌<ℤ◌, ◌^◌, Bool, true, false, List, [], ◌∷◌, length, slice_get, Option, Some, None, is_some, Result, Ok, Err, IfOk}
use Rattle.ev_types.specs.Answers.{revision_in}
use Rattle.ev_types.specs.declared.answer.ActAns.{ActAns}
use Rattle.ev_types.specs.declared.answer.ActAns.TheVariants as part
use Rattle.ev_types.specs.declared.answer.Answer.{Answer}
use Rattle.ev_types.specs.declared.answer.Answer.TheVariants as answer
use Rattle.ev_types.specs.declared.answer.Kv.{Kv}
use Rattle.ev_types.specs.declared.answer.RangeAns.{RangeAns}
use Rattle.ev_types.specs.declared.ask.Ask.{Ask}
use Rattle.ev_call.specs.Calls.{Call, with_call}
use Rattle.ev_call.specs.declared.etcd.CallFault.TheVariants as fault
use Rattle.zn_layout.specs.Begin.{begin_ask}
use Rattle.zn_view.specs.Asks.{head_want, reading}
use Rattle.zx_outside.specs.Counts.{one_more}
use Rattle.zw_follow.specs.declared.place.Place.{Place}
use Rattle.zp_server.specs.declared.ends.Stop.{Stop}
use Rattle.zp_server.specs.declared.ends.Stop.TheVariants as stop

-- ---- the head, by the answer

-- the last part of a transaction's answer
abbrev pub last_part : Answer → Option ActAns
last_part (answer.Txn revision succeeded parts) = slice_get parts (length parts - 1)
last_part _ = None

-- what a part found, where it is that of a read
abbrev pub found_by : Option ActAns → Option RangeAns
found_by (Some (part.Range found)) = Some found
found_by _ = None

abbrev pub first_of : Option RangeAns → Option Kv
first_of (Some found) = slice_get found.kvs 0
first_of None = None

-- the head, where an answer shows it: whether or not the root was made, the head is read last
abbrev pub head_in : Answer → Option Kv
head_in a = first_of (found_by (last_part a))

-- The head's version is the number of the last update. Where there is no head, there was no update.
abbrev pub number_at : Option Kv → ℤ
number_at (Some head) = head.version
number_at None = pos 0

-- At the revision of the answer the head is what it shows: each later update has a later revision. The revision of the head itself may
-- have been compacted, where other keys were put after it.
abbrev pub place_in : Answer → Place
place_in a = record { number = number_at (head_in a); revision = revision_in a }

-- the number and the revision are in an etcd's range
pub record IsPlace (p : Place) : Type 0 where
  pub number_least : pos 0 ≤ℤ p.number
  pub number_most : p.number <ℤ pos (2 ^ 62)
  pub revision_least : pos 0 ≤ℤ p.revision
  pub revision_most : p.revision <ℤ pos (2 ^ 62)

-- ---- what is asked, in order, and what it comes to

-- what a cluster tells: how many of its calls failed, and, where it tells them, which calls they were
pub record ClusterTold : Type 0 where
  pub failures : ℕ
  pub calls : Option (List Call)

-- the look: it reads the head and nothing else
abbrev pub look_ask : Ask
look_ask = reading (pos 0) (head_want ∷ [])

-- this was asked and answered, and nothing else was asked
pub record IsAnswered (q : Ask) (a : Answer) (c c' : ClusterTold) : Type 0 where
  pub failures : c'.failures ≡ c.failures
  pub calls : c'.calls ≡ with_call c.calls q (Ok a)

-- this was asked and failed, and nothing else was asked
pub record IsUnanswered (q : Ask) (c c' : ClusterTold) : Type 0 where
  pub failures : c'.failures ≡ one_more c.failures
  pub calls : c'.calls ≡ with_call c.calls q (Err fault.Failed)

-- memory was refused before this was asked, or while it was
pub record IsUnasked (q : Ask) (c c' : ClusterTold) : Type 0 where
  pub failures : c'.failures ≡ c.failures
  pub calls : (c'.calls ≡ c.calls) ⊎ (c'.calls ≡ with_call c.calls q (Err fault.Memory))

-- what one ask came to
abbrev pub Asks : Result Answer Stop → Ask → ClusterTold → ClusterTold → Type 0
Asks (Ok a) q c c' = IsAnswered q a c c'
Asks (Err stop.Net) q c c' = IsUnanswered q c c'
Asks (Err stop.Memory) q c c' = IsUnasked q c c'
Asks (Err _) q c c' = ⊥

-- the updates stand where the last answer says; without one, it is known why
abbrev pub Comes : Result Answer Stop → Result Place Stop → Type 0
Comes (Ok a) (Ok p) = p ≡ place_in a
Comes (Err e) (Err e') = e' ≡ e
Comes _ _ = ⊥

-- the look was the only ask: its answer shows the head, or it has none
pub record BeginsFound (r : Result Place Stop) (c c' : ClusterTold) : Type 0 where
  pub last : Result Answer Stop
  pub asked : Asks last look_ask c c'
  pub found : IfOk last (λ (a : Answer). is_some (head_in a) ≡ true)
  pub comes : Comes last r

-- the look's answer shows no head, and then the cluster was asked to make the root at this time
pub record BeginsMade (now : ℕ) (r : Result Place Stop) (c c' : ClusterTold) : Type 0 where
  pub seen : Answer
  pub between : ClusterTold
  pub looked : IsAnswered look_ask seen c between
  pub none : is_some (head_in seen) ≡ false
  pub last : Result Answer Stop
  pub asked : Asks last (begin_ask now) between c'
  pub comes : Comes last r

-- the place is in an etcd's range
abbrev pub Begins : ℕ → Result Place Stop → ClusterTold → ClusterTold → Type 0
Begins now r c c' = IfOk r IsPlace × (BeginsFound r c c' ⊎ BeginsMade now r c c')
