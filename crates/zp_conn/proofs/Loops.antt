-- The loop: how it begins, how a turn goes on, and how it ends.
use Rattle.std.proofs.Common.{◌≡◌, ◌≤◌, ◌+◌, ℕ, ℤ, pos, List, [], Bool, true, false, refl, sym, ap, subst, inl, inr, append-nil, arith}
use Rattle.std.specs.Prelude.{◌≤ℤ◌, Option, Some, None, Result, Ok, Err}
use Rattle.std.proofs.lemmas.List.Elements.{All-nil}
use Rattle.ev_call.specs.Calls.{Call}
use Rattle.ev_types.specs.declared.ask.Ask.{Ask}
use Rattle.zk_service.specs.declared.cause.Cause.{Cause}
use Rattle.zk_service.specs.declared.cause.Cause.TheVariants as cause
use Rattle.zk_service.specs.declared.fresh.Fresh.{Fresh}
use Rattle.zx_base.specs.declared.memory.Memory.{Memory}
use Rattle.zx_outside.specs.Counts.{OutputCounts}
use Rattle.zx_outside.proofs.Streams.{Gives-nil, append_known-nil}
use Rattle.zp_core.specs.Held.{IsFrame}
use Rattle.zp_step.specs.Stages.{Core, new_core}
use Rattle.zp_step.specs.declared.input.Input.{Input}
use Rattle.zp_run.specs.Notes.{Noted}
use Rattle.zp_conn.proofs.Closings.{closes-last}
use Rattle.zp_conn.proofs.Cuttings.{flush-last, flush-on, hand-last, no-notes}
use Rattle.zp_conn.proofs.Ends.{Last}
use Rattle.zp_conn.proofs.Goings.{spoken-on}
use Rattle.zp_conn.proofs.Turning.{contains-none}
use Rattle.zp_conn.specs.Handing.{Hands}
use Rattle.zp_conn.specs.Inboxes.{Holds, InboxState}
use Rattle.zp_conn.specs.Serving.{Told, with_calls}
use Rattle.zp_conn.specs.Turning.{Stood, goes_on}
use Rattle.zp_conn.specs.Writing.{FlushesIf}
use Rattle.zp_conn.specs.declared.inputs.Next.TheVariants as next
use Rattle.zp_conn.specs.declared.speaking.Rest.{Rest}
use Rattle.zp_conn.specs.declared.speaking.Rest.TheVariants as rest
use Rattle.zp_conn.specs.declared.writing.WriteFault.{WriteFault}

-- ---- it begins

no-calls : (told : Option (List Call)) → told ≡ with_calls told []
no-calls None = refl
no-calls (Some calls) = ap Some (sym (append-nil calls))

at-least : (n : ℕ) → n ≤ n
at-least n = omega arith

and-none : (n : ℕ) → n ≡ n + 0
and-none n = omega arith

pub starts : (fresh : Fresh) (t : Told) (i : InboxState) (o : List ℕ) → pos 1 ≤ℤ fresh.id → Holds [] [] i → o ≡ [] → Stood fresh t t (new_core fresh) i o None next.Idle
starts fresh t i o least holds none = record {
  steps = [];
  ran = refl;
  timely = refl;
  holds = record { frames = All-nil IsFrame; stage = least };
  rested = refl;
  answering = (refl, refl);
  opened = refl;
  out = refl;
  may = tt;
  in_time = tt;
  read = [];
  gives = Gives-nil (t.source).given (t.source).left;
  held = holds;
  calls = [];
  called = no-calls (t.link).calls;
  asks = refl;
  unheard = [];
  outcomes = refl;
  wanting = inl refl;
  entries = λ e c. absurd (contains-none e c);
  looked = inl refl;
  written = [];
  takes = sym (append_known-nil (t.sink).taken);
  says = none;
  noted = no-notes t.notes;
  grown = record { source = at-least (t.source).faults; sink = refl; link = at-least (t.link).failures };
  lags = and-none (t.feed).lags;
  closings = and-none (t.feed).closings;
  shown = tt;
}

pub begins : (fresh : Fresh) (t : Told) (core : Core) (i : InboxState) (o : List ℕ) → pos 1 ≤ℤ fresh.id → core ≡ new_core fresh → Holds [] [] i → o ≡ [] → Stood fresh t t core i o None next.Idle
begins fresh t core i o least new holds none = subst (λ c. Stood fresh t t c i o None next.Idle) (sym new) (starts fresh t i o least holds none)

-- ---- a step

module _ (fresh : Fresh) (old new : Told) (core core' : Core) (i : InboxState) (x : Input) (now : ℕ) (o o' : List ℕ) (n : Option (List Noted)) (s : Stood fresh old new core i o None (next.Input x)) where
  pub hand-on : (h : Result Rest Memory) (asked : Option Ask) → Hands h x now core core' o o' new.notes n → goes_on h ≡ Ok asked → Stood fresh old (record new { notes = n }) core' i o' asked next.Idle
  hand-on (Ok r) asked (inl refused) e = absurd refused
  hand-on (Ok r) asked (inr (inl refused)) e = absurd refused
  hand-on (Ok rest.Nothing) asked (inr (inr p)) e = subst (λ q. Stood fresh old (record new { notes = n }) core' i o' q next.Idle) (is-asked None asked e) (spoken-on fresh old new core core' i x now o o' n rest.Nothing s p (p.speaks).1.1)
    where
      is-asked : (a b : Option Ask) → ◌≡◌ {A = Result (Option Ask) Cause} (Ok a) (Ok b) → a ≡ b
      is-asked a b e = cc
  hand-on (Ok (rest.Ask q)) asked (inr (inr p)) e = subst (λ q. Stood fresh old (record new { notes = n }) core' i o' q next.Idle) (is-asked (Some q) asked e) (spoken-on fresh old new core core' i x now o o' n (rest.Ask q) s p (p.speaks).1.1)
    where
      is-asked : (a b : Option Ask) → ◌≡◌ {A = Result (Option Ask) Cause} (Ok a) (Ok b) → a ≡ b
      is-asked a b e = cc
  hand-on (Ok (rest.Close why)) asked (inr (inr p)) e = absurd (cc)
  hand-on (Err m) asked h e = absurd (cc)

  pub hand-over : (h : Result Rest Memory) (why : Cause) → Hands h x now core core' o o' new.notes n → goes_on h ≡ Err why → Last fresh old (record new { notes = n }) o' why
  hand-over (Ok r) why (inl refused) e = absurd refused
  hand-over (Ok r) why (inr (inl refused)) e = absurd refused
  hand-over (Ok rest.Nothing) why (inr (inr p)) e = absurd (cc)
  hand-over (Ok (rest.Ask q)) why (inr (inr p)) e = absurd (cc)
  hand-over (Ok (rest.Close w)) why (inr (inr p)) e = subst (Last fresh old (record new { notes = n }) o') (is-why w why e) (closes-last fresh old new core core' i x now o o' n w s p)
    where
      is-why : (a b : Cause) → ◌≡◌ {A = Result (Option Ask) Cause} (Err a) (Err b) → a ≡ b
      is-why a b e = cc
  hand-over (Err m) why h e = subst (Last fresh old (record new { notes = n }) o') (is-why cause.Memory why e) (hand-last fresh old new core core' i x now o o' n m s h)
    where
      is-why : (a b : Cause) → ◌≡◌ {A = Result (Option Ask) Cause} (Err a) (Err b) → a ≡ b
      is-why a b e = cc

-- ---- a write

module _ (fresh : Fresh) (old new : Told) (core : Core) (i : InboxState) (o o' : List ℕ) (asked : Option Ask) (t' : Option (List ℕ)) (c' : OutputCounts) (s : Stood fresh old new core i o asked next.Idle) where
  pub write-on : (due : Bool) (r : Result (Unit {0}) WriteFault) → r ≡ Ok tt → FlushesIf due r o o' (new.sink).taken t' (new.sink).counts c' → Stood fresh old (record new { sink = record { taken = t'; counts = c' } }) core i o' asked next.Idle
  write-on true (Ok u) e f = flush-on fresh old new core i o o' asked (record { taken = t'; counts = c' }) s f
  write-on true (Err w) e f = absurd (cc)
  write-on false r e f =
      subst (λ t. Stood fresh old (record new { sink = record { taken = t; counts = c' } }) core i o' asked next.Idle) (sym f.2)
      (subst (λ c. Stood fresh old (record new { sink = record { taken = (new.sink).taken; counts = c } }) core i o' asked next.Idle) (sym f.3)
      (subst (λ p. Stood fresh old new core i p asked next.Idle) (sym f.1) s))

  pub write-over : (due : Bool) (r : Result (Unit {0}) WriteFault) (w : WriteFault) → r ≡ Err w → FlushesIf due r o o' (new.sink).taken t' (new.sink).counts c' → Last fresh old (record new { sink = record { taken = t'; counts = c' } }) o' cause.WriteFault
  write-over true (Ok u) w e f = absurd (cc)
  write-over true (Err v) w e f = flush-last fresh old new core i o o' asked (record { taken = t'; counts = c' }) s v f
  write-over false r w e f = absurd (is-fault r w e f.0)
    where
      is-fault : (r : Result (Unit {0}) WriteFault) (w : WriteFault) → r ≡ Err w → r ≡ Ok tt → ⊥
      is-fault r w e f = cc
