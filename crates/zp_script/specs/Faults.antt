-- Why a line of a script isn't possible: the first of its tests that fails. A line's tests are made in the order in which they
-- stand here.
use Rattle.std.specs.Prelude.{ℕ, pos, ◌+◌, ◌-◌, Bool, true, false, not, ◌||◌, List, [], ◌∷◌, length, nat_lt, nat_eq, Option, Some, None, is_some, is_none, slice_get, if◌then◌else◌}
use Rattle.std.specs.Option.{option_and_then}
use Rattle.std.specs.List.{starts_with}
use Rattle.ev_types.specs.Store.{Store, Change, Puts}
use Rattle.ev_types.specs.Denials.{has_lease, is_full_store}
use Rattle.ev_types.specs.Lapses.{leased_keys, removals}
use Rattle.zk_model.specs.Limits.{max_frame, max_time}
use Rattle.zx_base.specs.Maps.{Bytes, same}
use Rattle.zn_layout.specs.Keys.{front}
use Rattle.zt_text.specs.declared.script.Happening.{Happening}
use Rattle.zt_text.specs.declared.script.Happening.TheVariants as line
use Rattle.zt_text.specs.declared.script.Why.{Why}
use Rattle.zt_text.specs.declared.script.Why.TheVariants as why
use Rattle.zp_script.specs.declared.flight.Asking.{Asking}
use Rattle.zp_script.specs.declared.flight.Flight.{Flight}
use Rattle.zp_script.specs.declared.flight.Flight.TheVariants.{Out}
use Rattle.zp_script.specs.Worlds.{World, Conn, conn_at, is_closed_actor, is_reaper}
use Rattle.zp_script.specs.Entries.{next_entry, is_lagging}

abbrev pub if_fails : Bool → Why → Option Why → Option Why
if_fails b x later = if b then Some x else later

-- ---- the tests of a number

-- the number was never used
abbrev pub new_fault : ℕ → World → Option Why → Option Why
new_fault c w later = if_fails (is_some (conn_at c w)) why.NumberInUse later

-- there is a connection or a reaper of this number, and it is open
abbrev pub open_fault : ℕ → World → Option Why → Option Why
open_fault c w later = elim (conn_at c w) [ None ↦ Some why.NoSuchConnection | Some x ↦ if_fails (is_closed_actor x.actor) why.ConnectionClosed later ]

abbrev pub is_reaper_at : ℕ → World → Bool
is_reaper_at c w = elim (conn_at c w) [ None ↦ false | Some x ↦ is_reaper x.actor ]

-- there is an open one of this number, and it is no reaper
abbrev pub connection_fault : ℕ → World → Option Why → Option Why
connection_fault c w later = open_fault c w (if_fails (is_reaper_at c w) why.NotAConnection later)

-- ---- the tests of an ask

abbrev pub flight_at : ℕ → World → Option Flight
flight_at c w = option_and_then (λ (x : Conn). x.flight) (conn_at c w)

abbrev pub is_to_carry_out : Option Flight → Bool
is_to_carry_out (Some (Out asking)) = true
is_to_carry_out _ = false

-- it is open, and has an ask whose answer is not delivered
abbrev pub ask_fault : ℕ → World → Option Why → Option Why
ask_fault c w later = open_fault c w (if_fails (is_none (flight_at c w)) why.NoRequestOut later)

-- it is open, and has an ask that is not carried out
abbrev pub carry_fault : ℕ → World → Option Why
carry_fault c w = ask_fault c w (if_fails (not (is_to_carry_out (flight_at c w))) why.AlreadyCarriedOut None)

-- it is an open connection, has no ask out, and has an entry to take
abbrev pub entry_fault : ℕ → World → Option Why → Option Why
entry_fault c w later = connection_fault c w (if_fails (is_some (flight_at c w)) why.RequestOut (if_fails (is_none (next_entry c w)) why.NoEntry later))

-- ---- the others

-- a part of a frame has come
abbrev pub has_part : Option Conn → Bool
has_part None = false
has_part (Some x) = nat_lt 0 (length x.stream.rest)

-- stray k, where it is still to be carried out; strays are numbered from 1
abbrev pub left_at : ℕ → List (Option Asking) → Option Asking
left_at k strays = if nat_lt 0 k then option_and_then (λ (o : Option Asking). o) (slice_get strays (k - 1)) else None

-- these changes would need a revision after the last that there can be (a lease without keys lapses without a revision)
abbrev pub full_fault : Store → List Change → Option Why
full_fault s changes = if_fails (is_full_store s changes) why.StoreFull None

-- a key that no other user may put: the empty one, or one that begins with `zk/`
abbrev pub is_kept_key : Bytes → Bool
is_kept_key k = same k [] || starts_with nat_eq k front

-- ---- each line

unfoldable pub fault : World → Happening → Option Why
fault w (line.Open c p id passwd layout) = new_fault c w None
fault w (line.Frame c bytes) = connection_fault c w (if_fails (has_part (conn_at c w)) why.FrameOpen (if_fails (nat_lt max_frame (length bytes)) why.TooLong None))
fault w (line.Arrive c bytes) = connection_fault c w None
fault w (line.Exec c) = carry_fault c w
fault w (line.Answer c) = ask_fault c w (if_fails (is_to_carry_out (flight_at c w)) why.NotCarriedOut None)
fault w (line.Cut c) = ask_fault c w None
fault w (line.Refuse c) = carry_fault c w
fault w (line.Stray k) = if_fails (is_none (left_at k w.strays)) why.NoSuchStray None
fault w (line.Entry c) = entry_fault c w None
fault w (line.Lag c) = entry_fault c w (if_fails (not (is_lagging c w)) why.NoLag None)
fault w (line.End c) = connection_fault c w None
fault w (line.Restart p) = None
fault w (line.Lapse id) = if_fails (not (has_lease w.store id)) why.NoSuchLease (full_fault w.store (removals (leased_keys w.store id)))
fault w (line.Foreign k v) = if_fails (is_kept_key k) why.KeyKept (full_fault w.store (Puts k v (pos 0) ∷ []))
fault w (line.Reap c p id) = new_fault c w None
fault w (line.Tick n) = if_fails (nat_lt max_time (w.clock + n)) why.ClockLimit None
fault w (line.Settle c) = open_fault c w None
