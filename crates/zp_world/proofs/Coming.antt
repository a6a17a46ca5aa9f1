-- What follows the frames that came at once: a length out of range, and what is left of the stream.
use Rattle.std.proofs.Common.{◌≡◌, ℕ, refl, sym, ap, ◌∙◌, true, false, []}
use Rattle.std.specs.Prelude.{Option, Some, ℤ, not}
use Rattle.zx_base.proofs.Options.{some_is}
use Rattle.zp_script.specs.Arriving.{EndsBadly}
use Rattle.zp_script.specs.Handing.{Handed}
use Rattle.zp_script.specs.Worlds.{Actor, Closed, Conn, Conns, Connection, Reaper, World, conn_at, is_closed_actor, is_open_conn, is_reaper, with_conn}
use Rattle.zp_step.specs.Stages.{Core}
use Rattle.zp_step.specs.declared.input.Input.TheVariants as input
use Rattle.std.specs.FinMap.{insert, remove}
use Rattle.zk_wire.specs.Cutting.{Stream}
use Rattle.zp_world.proofs.Apart.{with_conn-without}
use Rattle.zp_world.specs.Doing.{seated}
use Rattle.zp_world.specs.declared.activity.Seat.{Seat}
use Rattle.zp_script.specs.declared.flight.Flight.{Flight}
use Rattle.zp_world.specs.Taking.{IsConnectionAt}

-- ---- a length out of range

pub ends-open : (c : ℕ) (w w' : World) (place : ℕ) (n : ℤ) → is_open_conn (conn_at c w) ≡ true → IsConnectionAt c w
    → ((x : Conn) (core : Core) → conn_at c w ≡ Some x → x.actor ≡ Connection core → Handed c [] w (input.BadLength place n) w') → EndsBadly c w place (Some n) w'
ends-open c w w' place n opened at handed = rw opened (go at.conn.actor refl at.served (sym (ap is_open_conn at.found) ∙ opened))
  where
    go : (a : Actor) → at.conn.actor ≡ a → is_reaper a ≡ false → not (is_closed_actor a) ≡ true → Handed c [] w (input.BadLength place n) w'
    go (Connection core) e served live = handed at.conn core at.found e
    go (Reaper reap) e served live = absurd (cc)
    go Closed e served live = absurd (cc)

-- ---- what is left of its stream

pub kept-inbox : (c : ℕ) (w old : World) (conns taken : Conns) (x y : Conn) (seat : Seat) (role : Actor) (flight : Option Flight) (inbox : Stream) → old ≡ w → conn_at c w ≡ Some x → conn_at c w ≡ Some y → seated seat role flight ≡ y
    → taken ≡ remove old.conns c → conns ≡ insert taken c (record (seated seat role flight) { stream = inbox }) → record old { conns = conns } ≡ with_conn w c (record x { stream = inbox })
kept-inbox c w old conns taken x y seat role flight inbox is there found sits taken_is conns_is =
    let k : Conn = record (seated seat role flight) { stream = inbox } in
    ap (λ (m : Conns). record old { conns = m }) (conns_is ∙ ap (λ (m : Conns). insert m c k) taken_is)
    ∙ with_conn-without c old k
    ∙ ap (λ (v : World). with_conn v c k) is
    ∙ ap (λ (z : Conn). with_conn w c (record z { stream = inbox })) (sits ∙ some_is (sym found ∙ there))
