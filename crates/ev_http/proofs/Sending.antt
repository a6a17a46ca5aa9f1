-- Writes in a row.
use Rattle.std.proofs.Common.{◌≡◌, ℕ, ◌+◌, List, ◌++◌, length, take, Ok, Err, Result, sym, ap, subst, ◌∙◌, length-append, arith}
use Rattle.std.specs.Prelude.{Option}
use Rattle.std.proofs.Math.Seq.{take-append-add}
use Rattle.zx_outside.specs.Counts.{OutputCounts, one_more}
use Rattle.zx_outside.specs.Writing.{Takes}
use Rattle.zx_outside.proofs.Streams.{Takes-append}
use Rattle.ev_http.specs.declared.fault.HttpFault.{HttpFault}
use Rattle.ev_http.specs.declared.fault.HttpFault.TheVariants as fault
use Rattle.ev_http.specs.Sending.{Wrote}

-- a head that was written whole, and then a body or a front of it
pub wrote_both : (r : Result (Unit {0}) HttpFault) (head body : List ℕ) (t t' t'' : Option (List ℕ)) (c c' c'' : OutputCounts) (n n' n'' : ℕ) → Takes head t t' × (c' ≡ c) × (n' ≡ n) → Wrote r body t' t'' c' c'' n' n'' → Wrote r (head ++ body) t t'' c c'' n n''
wrote_both (Ok u) head body t t' t'' c c' c'' n n' n'' early late = (Takes-append head body t t' t'' early.0 late.0, late.1 ∙ early.1, late.2 ∙ early.2)
wrote_both (Err fault.WriteFault) head body t t' t'' c c' c'' n n' n'' early late = (
  (length head + late.0.0, omega (arith, late.0.1, length-append head body), subst (λ (x : List ℕ). Takes x t t'') (sym (take-append-add head body late.0.0)) (Takes-append head (take late.0.0 body) t t' t'' early.0 late.0.2)),
  late.1 ∙ ap (λ (x : OutputCounts). one_more x.faults) early.1,
  late.2 ∙ early.2,
)
wrote_both (Err fault.Memory) head body t t' t'' c c' c'' n n' n'' early late = absurd late
wrote_both (Err fault.Head) head body t t' t'' c c' c'' n n' n'' early late = absurd late
wrote_both (Err (fault.Status m)) head body t t' t'' c c' c'' n n' n'' early late = absurd late
wrote_both (Err fault.Route) head body t t' t'' c c' c'' n n' n'' early late = absurd late
wrote_both (Err (fault.Body m)) head body t t' t'' c c' c'' n n' n'' early late = absurd late
wrote_both (Err (fault.TooLong m)) head body t t' t'' c c' c'' n n' n'' early late = absurd late
wrote_both (Err (fault.Ended m)) head body t t' t'' c c' c'' n n' n'' early late = absurd late
wrote_both (Err fault.Idle) head body t t' t'' c c' c'' n n' n'' early late = absurd late
wrote_both (Err fault.ReadFault) head body t t' t'' c c' c'' n n' n'' early late = absurd late
