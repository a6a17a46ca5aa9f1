-- The tests of lines, one after the other.
use Rattle.std.proofs.Common.{◌≡◌, ℕ, refl, sym, ap, ◌∙◌, Bool, true, false}
use Rattle.std.specs.Prelude.{Option, Some, None, Err, is_none, not, pos, ℤ, List, ◌∷◌, [], nat_lt, ◌+◌, length}
use Rattle.ev_types.specs.Store.{Puts}
use Rattle.ev_types.specs.Lapses.{leased_keys, removals}
use Rattle.ev_types.specs.Denials.{has_lease}
use Rattle.zk_model.specs.Limits.{max_frame, max_time}
use Rattle.zk_service.specs.declared.fresh.Fresh.{Fresh}
use Rattle.zt_text.specs.declared.script.Happening.{Happening}
use Rattle.zt_text.specs.declared.script.Happening.TheVariants as line
use Rattle.zt_text.specs.declared.script.Why.{Why}
use Rattle.zt_text.specs.declared.script.Why.TheVariants as why
use Rattle.zp_script.specs.Entries.{is_lagging}
use Rattle.zp_script.specs.Faults.{fault, if_fails, new_fault, open_fault, connection_fault, ask_fault, carry_fault, entry_fault, flight_at, full_fault, has_part, is_kept_key, is_reaper_at, is_to_carry_out, left_at}
use Rattle.zp_script.specs.Worlds.{World, Conn, conn_at, is_closed_actor}
use Rattle.zp_world.specs.declared.fault.ApplyFault.{ApplyFault}
use Rattle.zp_world.specs.declared.fault.ApplyFault.TheVariants.{NotPossible}
use Rattle.zp_world.specs.Applying.{Applies}

pub refuses : (w : World) (h : Happening) (cause : Why) (r : ApplyFault) → fault w h ≡ Some cause → r ≡ NotPossible cause → Applies w h (Err r) w
refuses w h cause r f e = rw e (f, refl)

pub refuses-same : (w w' : World) (h : Happening) (cause : Why) (r : ApplyFault) → fault w h ≡ Some cause → r ≡ NotPossible cause → w' ≡ w → Applies w h (Err r) w'
refuses-same w w' h cause r f e same = rw e (f, same)

-- ---- the tests of each line

pub open-line : (w : World) (c p : ℕ) (f : Fresh) → fault w (line.Open c p f.id f.passwd f.layout) ≡ new_fault c w None
unfolding fault
open-line w c p f = refl

pub frame-line : (w : World) (c : ℕ) (bytes : List ℕ) → fault w (line.Frame c bytes) ≡ connection_fault c w (if_fails (has_part (conn_at c w)) why.FrameOpen (if_fails (nat_lt max_frame (length bytes)) why.TooLong None))
unfolding fault
frame-line w c bytes = refl

-- of a frame of n bytes
pub frame-of : (w : World) (c n : ℕ) (bytes : List ℕ) → n ≡ length bytes → fault w (line.Frame c bytes) ≡ connection_fault c w (if_fails (has_part (conn_at c w)) why.FrameOpen (if_fails (nat_lt max_frame n) why.TooLong None))
frame-of w c n bytes is = frame-line w c bytes ∙ ap (λ m. connection_fault c w (if_fails (has_part (conn_at c w)) why.FrameOpen (if_fails (nat_lt max_frame m) why.TooLong None))) (sym is)

pub bytes-line : (w : World) (c : ℕ) (bytes : List ℕ) → fault w (line.Arrive c bytes) ≡ connection_fault c w None
unfolding fault
bytes-line w c bytes = refl

pub exec-line : (w : World) (c : ℕ) → fault w (line.Exec c) ≡ carry_fault c w
unfolding fault
exec-line w c = refl

pub answer-line : (w : World) (c : ℕ) → fault w (line.Answer c) ≡ ask_fault c w (if_fails (is_to_carry_out (flight_at c w)) why.NotCarriedOut None)
unfolding fault
answer-line w c = refl

pub cut-line : (w : World) (c : ℕ) → fault w (line.Cut c) ≡ ask_fault c w None
unfolding fault
cut-line w c = refl

pub refuse-line : (w : World) (c : ℕ) → fault w (line.Refuse c) ≡ carry_fault c w
unfolding fault
refuse-line w c = refl

pub stray-line : (w : World) (k : ℕ) → fault w (line.Stray k) ≡ if_fails (is_none (left_at k w.strays)) why.NoSuchStray None
unfolding fault
stray-line w k = refl

pub entry-line : (w : World) (c : ℕ) → fault w (line.Entry c) ≡ entry_fault c w None
unfolding fault
entry-line w c = refl

pub lag-line : (w : World) (c : ℕ) → fault w (line.Lag c) ≡ entry_fault c w (if_fails (not (is_lagging c w)) why.NoLag None)
unfolding fault
lag-line w c = refl

pub end-line : (w : World) (c : ℕ) → fault w (line.End c) ≡ connection_fault c w None
unfolding fault
end-line w c = refl

pub restart-line : (w : World) (p : ℕ) → fault w (line.Restart p) ≡ None
unfolding fault
restart-line w p = refl

pub lapse-line : (w : World) (id : ℤ) → fault w (line.Lapse id) ≡ if_fails (not (has_lease w.store id)) why.NoSuchLease (full_fault w.store (removals (leased_keys w.store id)))
unfolding fault
lapse-line w id = refl

pub foreign-line : (w : World) (k v : List ℕ) → fault w (line.Foreign k v) ≡ if_fails (is_kept_key k) why.KeyKept (full_fault w.store (Puts k v (pos 0) ∷ []))
unfolding fault
foreign-line w k v = refl

pub reap-line : (w : World) (c p : ℕ) (id : ℤ) → fault w (line.Reap c p id) ≡ new_fault c w None
unfolding fault
reap-line w c p id = refl

pub tick-line : (w : World) (n : ℕ) → fault w (line.Tick n) ≡ if_fails (nat_lt max_time (w.clock + n)) why.ClockLimit None
unfolding fault
tick-line w n = refl

pub settle-line : (w : World) (c : ℕ) → fault w (line.Settle c) ≡ open_fault c w None
unfolding fault
settle-line w c = refl

-- ---- the first test that fails

pub or_else : Option Why → Option Why → Option Why
or_else None later = later
or_else (Some x) later = Some x

two-tests : (a b : Bool) (x y : Why) (later : Option Why) → if_fails a x (if_fails b y later) ≡ or_else (if_fails a x (if_fails b y None)) later
unfolding or_else
two-tests true b x y later = refl
two-tests false true x y later = refl
two-tests false false x y later = refl

pub connection-first : (w : World) (c : ℕ) (later : Option Why) → connection_fault c w later ≡ or_else (connection_fault c w None) later
unfolding or_else
connection-first w c later = go (conn_at c w) (is_reaper_at c w)
  where
    go : (o : Option Conn) (b : Bool) → (elim o [ None ↦ Some why.NoSuchConnection | Some x ↦ if_fails (is_closed_actor x.actor) why.ConnectionClosed (if_fails b why.NotAConnection later) ])
        ≡ or_else (elim o [ None ↦ Some why.NoSuchConnection | Some x ↦ if_fails (is_closed_actor x.actor) why.ConnectionClosed (if_fails b why.NotAConnection None) ]) later
    go None b = refl
    go (Some x) b = two-tests (is_closed_actor x.actor) b why.ConnectionClosed why.NotAConnection later

pub connection-fails : (w : World) (c : ℕ) (later : Option Why) (x : Why) → connection_fault c w None ≡ Some x → connection_fault c w later ≡ Some x
unfolding or_else
connection-fails w c later x h = connection-first w c later ∙ ap (λ o. or_else o later) h

pub connection-passes : (w : World) (c : ℕ) (later : Option Why) → connection_fault c w None ≡ None → connection_fault c w later ≡ later
unfolding or_else
connection-passes w c later h = connection-first w c later ∙ ap (λ o. or_else o later) h
