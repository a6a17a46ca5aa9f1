-- The lines of a script that keep a world whole.
use Rattle.std.proofs.Common.{◌≡◌, ℕ, ◌+◌, List, refl, sym, ap, ◌∙◌, subst, Bool, true, false, ℤ}
use Rattle.std.specs.Prelude.{Option, Some, None, is_none, is_some, option_and_then}
use Rattle.zk_model.specs.declared.layout.Layout.{Layout}
use Rattle.zt_text.specs.declared.script.Happening.TheVariants as line
use Rattle.zt_text.specs.declared.script.Why.{Why}
use Rattle.zt_text.specs.declared.script.Why.TheVariants as why
use Rattle.zn_layout.specs.declared.entry.Entry.{Entry}
use Rattle.zp_step.specs.declared.input.Input.{Input}
use Rattle.zp_step.specs.declared.input.Input.TheVariants as input
use Rattle.zp_laws.specs.Inputs.{IsTrueEntry}
use Rattle.zp_script.specs.Effects.{EntersBy, IsEntry}
use Rattle.zp_script.specs.Entries.{next_entry}
use Rattle.zp_script.specs.Faults.{entry_fault, fault, flight_at, if_fails, is_kept_key, is_reaper_at, open_fault}
use Rattle.zp_script.specs.Worlds.{Conn, World, conn_at, is_closed_actor}
use Rattle.zx_base.proofs.Options.{some_none, none-unless_some}
use Rattle.zp_world_laws.proofs.Delivering.{IsTrueEntryInput, answer-whole, entry-whole}
use Rattle.zp_world_laws.proofs.Entering.{exec-entries, next-true, stray-entries}
use Rattle.zp_world_laws.proofs.Ends.{cut-whole, end-whole, lag-whole, refuse-whole}
use Rattle.zp_world_laws.proofs.Kept.{executes-whole, foreign-whole, lapse-whole, stray-whole, tick-whole}
use Rattle.zp_world_laws.proofs.Opening.{open-whole}
use Rattle.zp_world_laws.proofs.Reaping.{reap-whole}
use Rattle.zp_world_laws.proofs.Restarting.{restart-whole}
use Rattle.zp_world_laws.specs.Connections.{Whole}
use Rattle.zp_world_laws.specs.Keeping.{IsAttachedIn, Keeps, KeepsEntries, KeepsIf, MayEnter}

-- ---- tests that pass

pub passes : (b : Bool) (cause : Why) (later : Option Why) → if_fails b cause later ≡ None → (b ≡ false) × (later ≡ None)
passes true cause later h = absurd (some_none h)
passes false cause later h = (refl, h)

-- ---- one by one

pub tick-keeps : (n : ℕ) → Keeps (line.Tick n)
tick-keeps n w w' possible does h = subst Whole (sym does) (tick-whole w (w.clock + n) h)

pub foreign-keeps : (k v : List ℕ) → Keeps (line.Foreign k v)
unfolding fault
foreign-keeps k v w w' possible does h = foreign-whole w w' k v ((passes (is_kept_key k) _ _ possible).0) does h

pub lapse-keeps : (id : ℤ) → Keeps (line.Lapse id)
lapse-keeps id w w' possible does h = lapse-whole w w' id does h

pub exec-keeps : (c : ℕ) → Keeps (line.Exec c)
exec-keeps c w w' possible does h = executes-whole w w' c does h

pub stray-keeps : (k : ℕ) → Keeps (line.Stray k)
stray-keeps k w w' possible does h = stray-whole w w' k does h

pub cut-keeps : (c : ℕ) → Keeps (line.Cut c)
cut-keeps c w w' possible does h = cut-whole w w' c does h

pub refuse-keeps : (c : ℕ) → Keeps (line.Refuse c)
refuse-keeps c w w' possible does h = refuse-whole w w' c does h

pub lag-keeps : (c : ℕ) → Keeps (line.Lag c)
lag-keeps c w w' possible does h = lag-whole w w' c _ does h

pub end-keeps : (c : ℕ) → Keeps (line.End c)
end-keeps c w w' possible does h = end-whole w w' c _ does h

pub restart-keeps : (p : ℕ) → Keeps (line.Restart p)
restart-keeps p w w' possible does h = subst Whole (sym does) (restart-whole w p h)

pub open-keeps : (c p : ℕ) (id : ℤ) (passwd : List ℕ) (layout : Layout) → Keeps (line.Open c p id passwd layout)
unfolding fault
open-keeps c p id passwd layout w w' possible does h = subst Whole (sym does) (open-whole w c p id passwd layout (none-unless_some (conn_at c w) ((passes (is_some (conn_at c w)) _ _ possible).0)) h)

pub reap-keeps : (c p : ℕ) (id : ℤ) → Keeps (line.Reap c p id)
unfolding fault
reap-keeps c p id w w' possible does h = reap-whole w w' c p id (none-unless_some (conn_at c w) ((passes (is_some (conn_at c w)) _ _ possible).0)) does h

pub answer-keeps : (c : ℕ) → KeepsIf (λ w. IsAttachedIn w c) (line.Answer c)
answer-keeps c w w' a possible does h = answer-whole w w' c a.conn a.core a.there a.connection a.served does h

-- ---- an entry

-- the tests of a number that all pass
open-passes : (c : ℕ) (w : World) (later : Option Why) → open_fault c w later ≡ None → later ≡ None
open-passes c w later h = go (conn_at c w) h
  where
    go : (o : Option Conn) → ◌≡◌ {A = Option Why} (elim o [ None ↦ Some why.NoSuchConnection | Some x ↦ if_fails (is_closed_actor x.actor) why.ConnectionClosed later ]) None → later ≡ None
    go None e = absurd (some_none e)
    go (Some x) e = (passes (is_closed_actor x.actor) why.ConnectionClosed later e).1

pub entry-idle-at : (c : ℕ) (w : World) → entry_fault c w None ≡ None → flight_at c w ≡ None
entry-idle-at c w possible =
    let entry : Option Why = if_fails (is_some (flight_at c w)) why.RequestOut (if_fails (is_none (next_entry c w)) why.NoEntry None) in
    let a = open-passes c w (if_fails (is_reaper_at c w) why.NotAConnection entry) possible in
    let b = passes (is_reaper_at c w) why.NotAConnection entry a in
    let d = passes (is_some (flight_at c w)) why.RequestOut (if_fails (is_none (next_entry c w)) why.NoEntry None) b.1 in
    none-unless_some (flight_at c w) d.0

entry-flight : (c : ℕ) (w : World) (x : Conn) → conn_at c w ≡ Some x → entry_fault c w None ≡ None → x.flight ≡ None
entry-flight c w x there possible = sym (ap (option_and_then (λ (y : Conn). y.flight)) there) ∙ entry-idle-at c w possible

entry-true : (w : World) (c : ℕ) (m : MayEnter w c) (e : Entry) (i : Input) → Whole w → next_entry c w ≡ Some e → IsEntry e i → IsTrueEntryInput w ((m.attached).core) i
entry-true w c m e (input.Entry shared) h next is =
    let a = m.attached in
    subst (λ x. IsTrueEntry w.lines a.core x) (sym is) (next-true w c a.conn a.core e a.there a.connection (h.serving c a.conn a.core a.there a.connection a.served) m.entries next)
entry-true w c m e _ h next is = absurd is

pub entry-keeps : (c : ℕ) → KeepsIf (λ w. MayEnter w c) (line.Entry c)
unfolding fault
entry-keeps c w w' m possible does h = go (next_entry c w) refl does
  where
    go : (o : Option Entry) → next_entry c w ≡ o → EntersBy c w w' o → Whole w'
    go None e p = absurd p
    go (Some x) e (i, is, hd) =
        let a = m.attached in
        entry-whole w w' c a.conn a.core i a.there a.connection a.served (entry-flight c w a.conn a.there possible) (entry-true w c m x i h e is) hd h

-- ---- entries

pub exec-enters : (c : ℕ) → KeepsEntries (line.Exec c)
exec-enters c w w' does h all = exec-entries w w' c does h.holds all

pub stray-enters : (k : ℕ) → KeepsEntries (line.Stray k)
stray-enters k w w' does h all = stray-entries w w' k does h.holds all
