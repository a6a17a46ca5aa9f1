-- What a connection awaits, by what it wants.
use Rattle.std.proofs.Common.{◌≡◌, ℕ, refl, sym, ap, ◌∙◌, Bool, true, false, cond}
use Rattle.std.specs.Prelude.{Some, None, List, ℤ, pos, negsuc, ◌+ℤ◌}
use Rattle.std.specs.Option.{option_and_then}
use Rattle.zk_model.specs.Watches.{is_unarmed}
use Rattle.zp_script.specs.Entries.{cursor_at, cursor_of, cursor_wanted, entry_after}
use Rattle.zp_script.specs.Faults.{flight_at}
use Rattle.zp_script.specs.Worlds.{Conn, Connection, World, conn_at}
use Rattle.zn_layout.specs.declared.entry.Entry.{Entry}
use Rattle.zp_ledger.specs.Entering.{AreNumbered}
use Rattle.zp_step.specs.Stages.{Core, Stage, Unconnected, Connecting, Ready, KeepingAlive, Checking, Reading, Committing, Waiting, Shut, wanted_in, wants_of}
use Rattle.zp_step.specs.Steps.{awaits_entry}
use Rattle.zp_step.specs.declared.wants.Wants.{Wants}
use Rattle.zp_step.specs.declared.wants.Wants.TheVariants as wants
use Rattle.zx_base.proofs.Options.{none_some, some_is}

IsNext : Core → Wants → ℤ → Type 0
IsNext core w cursor = (awaits_entry w ≡ true) × (cursor ≡ core.cursor)

ready-next : (core : Core) (b : Bool) (cursor : ℤ) → cursor_wanted (cond b wants.Frame (wants.FrameOrEntry core.cursor)) ≡ Some cursor → IsNext core (cond b wants.Frame (wants.FrameOrEntry core.cursor)) cursor
unfolding IsNext
ready-next core true cursor h = absurd (none_some h)
ready-next core false cursor h = (refl, sym (some_is h))

stage-next : (core : Core) (s : Stage) (cursor : ℤ) → cursor_wanted (wanted_in core s) ≡ Some cursor → IsNext core (wanted_in core s) cursor
unfolding IsNext
stage-next core (Unconnected fresh) cursor h = absurd (none_some h)
stage-next core (Connecting connect) cursor h = absurd (none_some h)
stage-next core Ready cursor h = (let n = ready-next core (is_unarmed core.watches) cursor h in n)
stage-next core (KeepingAlive frame) cursor h = absurd (none_some h)
stage-next core (Checking frame) cursor h = absurd (none_some h)
stage-next core (Reading xid r v ws) cursor h = absurd (none_some h)
stage-next core (Committing xid r v p m) cursor h = absurd (none_some h)
stage-next core (Waiting p) cursor h = (refl, sym (some_is h))
stage-next core Shut cursor h = absurd (none_some h)

pub awaits-next : (core : Core) (cursor : ℤ) → cursor_wanted (wants_of core) ≡ Some cursor → awaits_entry (wants_of core) ≡ true
unfolding IsNext
awaits-next core cursor h = (stage-next core core.stage cursor h).0

pub cursor-is : (core : Core) (cursor : ℤ) → cursor_wanted (wants_of core) ≡ Some cursor → cursor ≡ core.cursor
unfolding IsNext
cursor-is core cursor h = (stage-next core core.stage cursor h).1

-- ---- the connection of a number

pub cursor-wanted : (w : World) (c : ℕ) (x : Conn) (core : Core) (cursor : ℤ) → conn_at c w ≡ Some x → x.actor ≡ Connection core → cursor_at c w ≡ Some cursor → cursor_wanted (wants_of core) ≡ Some cursor
cursor-wanted w c x core cursor there is at = sym (ap (option_and_then (λ (y : Conn). cursor_of y.actor)) there ∙ ap cursor_of is) ∙ at

pub flight-none : (w : World) (c : ℕ) (x : Conn) → conn_at c w ≡ Some x → flight_at c w ≡ None → x.flight ≡ None
flight-none w c x there none = sym (ap (option_and_then (λ (y : Conn). y.flight)) there) ∙ none

pub next-number : (es : List Entry) (cursor : ℤ) (e : Entry) → AreNumbered es → entry_after es cursor ≡ Some e → e.number ≡ cursor +ℤ pos 1
next-number es (pos n) e numbered h = (numbered n e h).number
next-number es (negsuc n) e numbered h = absurd (none_some h)
