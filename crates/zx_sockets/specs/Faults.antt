-- What the system's faults mean, by their codes (errno of Linux).
use Rattle.std.specs.Prelude.{ℤ, pos, Bool, false, List, [], ◌∷◌, Option, Some, None, if◌then◌else◌}
use Rattle.std.specs.List.{list_any}
use Rattle.std.specs.Ordering.{int_eq}
use Rattle.zx_net.specs.declared.net.NetFault.{NetFault}
use Rattle.zx_net.specs.declared.net.NetFault.TheVariants as faults

-- a code is one of these
abbrev pub is_among : List ℤ → ℤ → Bool
is_among codes code = list_any (λ one. int_eq one code) codes

-- The codes of an accept that may be tried again: a signal, no memory, no descriptors in the system or the process, a peer that is
-- gone already, no room for buffers; and errors of the network that wait on the new stream (accept(2), "Error handling": ENONET,
-- EPROTO, ENOPROTOOPT, EOPNOTSUPP, ENETDOWN, ENETUNREACH, EHOSTDOWN, EHOSTUNREACH).
abbrev pub is_passing : Option ℤ → Bool
is_passing None = false
is_passing (Some code) = is_among
    (pos 4 ∷ pos 12 ∷ pos 23 ∷ pos 24 ∷ pos 64 ∷ pos 71 ∷ pos 92 ∷ pos 95 ∷ pos 100 ∷ pos 101 ∷ pos 103 ∷ pos 105 ∷ pos 112 ∷ pos 113 ∷ []) code

-- the address is in use (EADDRINUSE)
abbrev pub is_in_use : ℤ → Bool
is_in_use = is_among (pos 98 ∷ [])

-- the address is not one of this machine (EADDRNOTAVAIL)
abbrev pub is_elsewhere : ℤ → Bool
is_elsewhere = is_among (pos 99 ∷ [])

-- this program may not (EPERM, EACCES)
abbrev pub is_denied : ℤ → Bool
is_denied = is_among (pos 1 ∷ pos 13 ∷ [])

-- no memory or no descriptor is left (ENOMEM, ENFILE, EMFILE, ENOBUFS)
abbrev pub is_without_room : ℤ → Bool
is_without_room = is_among (pos 12 ∷ pos 23 ∷ pos 24 ∷ pos 105 ∷ [])

-- What a fault with this code, or with none, says of a bind, an accept or a dial.
abbrev pub fault_of : Option ℤ → NetFault
fault_of None = faults.Failed
fault_of (Some code) =
    if is_in_use code then faults.InUse else
    (if is_elsewhere code then faults.NoAddress else
    (if is_denied code then faults.Denied else
    (if is_without_room code then faults.NoRoom else faults.Failed)))
