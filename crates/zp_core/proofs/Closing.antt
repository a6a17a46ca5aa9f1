-- A connection is closed by its input.
use Rattle.std.proofs.Common.{◌≡◌, ℕ, List, ap, subst, sym}
use Rattle.std.specs.Prelude.{Some, IfOk, Result}
use Rattle.std.specs.Arc.{arc_value}
use Rattle.zk_service.specs.declared.cause.Cause.{Cause}
use Rattle.zn_layout.specs.declared.entry.Entry.{Entry}
use Rattle.zx_base.specs.declared.memory.Memory.{Memory}
use Rattle.zx_base.proofs.Options.{none_some, some_is}
use Rattle.zp_step.specs.declared.action.Action.{Action}
use Rattle.zp_step.specs.declared.input.Input.{Input}
use Rattle.zp_step.specs.declared.input.Input.TheVariants as input
use Rattle.zp_step.specs.Entries.{told_entry}
use Rattle.zp_step.specs.Laws.{end_by}
use Rattle.zp_step.specs.Replies.{Is, closed_by}
use Rattle.zp_step.specs.Stages.{Core, Stage}
use Rattle.zp_step.specs.Steps.{Handles}
use Rattle.zp_core.specs.Meanings.{Leads, Shuts, core_of}
use Rattle.zp_core.specs.declared.client.Client.{Client}
use Rattle.zp_core.specs.declared.moves.Move.{Move}

pub shuts-leads : (client : Client) (s : Stage) (why : Cause) (m : Move) → Shuts why m → Leads (Is (closed_by (core_of client s) why)) client m
shuts-leads client s why m h = (ap (core_of client) h.0, h.1)

pub ended-handles : (c : Core) (x : Input) (why : Cause) (now : ℕ) (c' : Core) (out : List Action) → end_by x ≡ Some why → Is (closed_by c why) c' out → Handles c x now c' out
ended-handles c (input.Frame bytes) why now c' out e h = absurd (none_some e)
ended-handles c (input.Answer a) why now c' out e h = absurd (none_some e)
ended-handles c (input.Entry a) why now c' out e h = absurd (none_some e)
ended-handles c input.Failed why now c' out e h = subst (λ (y : Cause). Is (closed_by c y) c' out) (some_is (sym e)) h
ended-handles c (input.BadLength place length) why now c' out e h = subst (λ (y : Cause). Is (closed_by c y) c' out) (some_is (sym e)) h
ended-handles c (input.Lagged cursor floor) why now c' out e h = subst (λ (y : Cause). Is (closed_by c y) c' out) (some_is (sym e)) h
ended-handles c input.FeedClosed why now c' out e h = subst (λ (y : Cause). Is (closed_by c y) c' out) (some_is (sym e)) h
ended-handles c (input.ClientEnd place) why now c' out e h = subst (λ (y : Cause). Is (closed_by c y) c' out) (some_is (sym e)) h

-- ---- an entry is told

-- the input is this entry
abbrev pub IsEntryIn : Input → Entry → Type 0
IsEntryIn (input.Entry shared) e = e ≡ arc_value shared
IsEntryIn _ e = ⊥

pub entry-handles : (r : Result Move Memory) (old new : Client) (s : Stage) (x : Input) (e : Entry) (now : ℕ) → IsEntryIn x e → IfOk r (Leads (Is (told_entry (core_of old s) e)) new)
    → IfOk r (Leads (Handles (core_of old s) x now) new)
entry-handles r old new s (input.Entry shared) e now told h = subst (λ (d : Entry). IfOk r (Leads (Is (told_entry (core_of old s) d)) new)) told h
entry-handles r old new s (input.Frame bytes) e now told h = absurd told
entry-handles r old new s (input.Answer a) e now told h = absurd told
entry-handles r old new s input.Failed e now told h = absurd told
entry-handles r old new s (input.BadLength place length) e now told h = absurd told
entry-handles r old new s (input.Lagged cursor floor) e now told h = absurd told
entry-handles r old new s input.FeedClosed e now told h = absurd told
entry-handles r old new s (input.ClientEnd place) e now told h = absurd told
