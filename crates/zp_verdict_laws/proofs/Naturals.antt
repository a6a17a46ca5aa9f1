-- Numbers that are not below 0, and sessions' numbers that are above 0, in a world and its lines. Updates are left out: what they
-- show is in range since their history is legal.
use Rattle.std.proofs.Common.{◌≡◌, ◌≢◌, ℕ, pos, List, [], ◌∷◌, ◌++◌, sym, ap, ◌∙◌, subst, inl, inr}
use Rattle.std.proofs.lemmas.List.Elements.{All-append, All-cons, All-nil}
use Rattle.std.specs.FinMap.{get}
use Rattle.std.specs.Prelude.{All, None, Option, Some, fold, ◌≤ℤ◌}
use Rattle.zk_service.specs.declared.cause.Ended.TheVariants as ended
use Rattle.zk_service.specs.declared.cause.Ended.{Ended}
use Rattle.zk_transcript.specs.declared.transcript.TranscriptLine.TheVariants.{Close, Frame as FrameLine, Lapse as LapseLine, Open, Send}
use Rattle.zk_transcript.specs.declared.transcript.TranscriptLine.{TranscriptLine}
use Rattle.zk_service.specs.declared.update.UpdateKind.{UpdateKind}
use Rattle.zn_layout.specs.declared.entry.Entry.{Entry}
use Rattle.zp_script.specs.StepOutcomes.{StepOutcome, acts, ends}
use Rattle.zp_script.specs.Worlds.{Actor, Closed, Conn, Connection, Reaper, World, conn_at}
use Rattle.zp_script.specs.declared.flight.Flight.TheVariants.{Carried, Denied, Out}
use Rattle.zp_script.specs.declared.flight.Flight.{Flight}
use Rattle.zp_verdict_laws.proofs.Reaping.{IsNaturalPhase}
use Rattle.zp_verdict_laws.proofs.Stepping.{AreNatural, IsNaturalCore}
use Rattle.zp_verdict_laws.proofs.Stored.{IsNatural, IsNaturalAnswer, IsNaturalCause}
use Rattle.zp_step.specs.declared.action.Action.TheVariants as action
use Rattle.zp_step.specs.declared.action.Action.{Action}
use Rattle.zp_world_laws.proofs.Numbers.{either-number}
use Rattle.zx_base.proofs.Options.{some_is}

abbrev pub IsNaturalEnd : Ended → Type 0
IsNaturalEnd (ended.Cause why) = IsNaturalCause why
IsNaturalEnd (ended.Reaped z) = IsNatural z
IsNaturalEnd (ended.Kept z) = IsNatural z
IsNaturalEnd (ended.Gone z) = IsNatural z

abbrev pub IsNaturalLine : TranscriptLine → Type 0
IsNaturalLine (Open c p id passwd layout) = pos 1 ≤ℤ id
IsNaturalLine (FrameLine c i z bytes) = IsNatural z
IsNaturalLine (LapseLine z id) = IsNatural z × (pos 1 ≤ℤ id)
IsNaturalLine (Close c end) = IsNaturalEnd end
IsNaturalLine _ = Unit {0}

abbrev pub AreNaturalLines : List TranscriptLine → Type 0
AreNaturalLines ls = All IsNaturalLine ls

abbrev pub IsNaturalActor : Actor → Type 0
IsNaturalActor (Connection core) = IsNaturalCore core
IsNaturalActor (Reaper r) = IsNaturalPhase r.phase
IsNaturalActor Closed = Unit {0}

abbrev pub IsNaturalFlight : Option Flight → Type 0
IsNaturalFlight None = Unit {0}
IsNaturalFlight (Some (Out a)) = Unit {0}
IsNaturalFlight (Some (Carried a)) = IsNaturalAnswer a
IsNaturalFlight (Some Denied) = Unit {0}

pub record IsNaturalConn (x : Conn) : Type 0 where
  pub actor : IsNaturalActor x.actor
  pub flight : IsNaturalFlight x.flight

abbrev pub IsNaturalEntry : Entry → Type 0
IsNaturalEntry e = IsNatural e.number

pub record IsNaturalWorld (w : World) : Type 0 where
  pub lines : AreNaturalLines w.lines
  pub conns : (c : ℕ) (x : Conn) → conn_at c w ≡ Some x → IsNaturalConn x
  pub entries : All IsNaturalEntry w.entries

-- ---- lines are added

pub no-lines : AreNaturalLines []
no-lines = All-nil IsNaturalLine

pub one-line : (l : TranscriptLine) → IsNaturalLine l → AreNaturalLines (l ∷ [])
one-line l n = All-cons IsNaturalLine l [] n (All-nil IsNaturalLine)

-- and one number changes
pub one-natural : (w w' : World) (c : ℕ) (v : Conn) (more : List TranscriptLine) → w'.lines ≡ w.lines ++ more → conn_at c w' ≡ Some v → ((d : ℕ) → d ≢ c → conn_at d w' ≡ conn_at d w) → w'.entries ≡ w.entries
    → AreNaturalLines more → IsNaturalConn v → IsNaturalWorld w → IsNaturalWorld w'
one-natural w w' c v more lines there others entries new now k = record {
  lines = subst AreNaturalLines (sym lines) (All-append IsNaturalLine w.lines more k.lines new);
  conns = λ d x e. elim (either-number d c) [
    | inl same ↦ subst IsNaturalConn (some_is (sym there ∙ ap (λ n. conn_at n w') (sym same) ∙ e)) now
    | inr apart ↦ k.conns d x (sym (others d apart) ∙ e)
  ];
  entries = subst (All IsNaturalEntry) (sym entries) k.entries;
}

-- and no number changes
pub others-natural : (w w' : World) (more : List TranscriptLine) → w'.lines ≡ w.lines ++ more → w'.conns ≡ w.conns → AreNaturalLines more → All IsNaturalEntry w'.entries → IsNaturalWorld w → IsNaturalWorld w'
others-natural w w' more lines conns new entries k = record {
  lines = subst AreNaturalLines (sym lines) (All-append IsNaturalLine w.lines more k.lines new);
  conns = λ d x e. k.conns d x (sym (ap (λ m. get m d) conns) ∙ e);
  entries = entries;
}

-- ---- what a step leaves

pub record LeavesNatural (o : StepOutcome) : Type 0 where
  pub lines : AreNaturalLines o.lines
  pub flight : IsNaturalFlight o.flight

pub ends-natural : (c : ℕ) (after : List TranscriptLine) (end : Ended) (o : StepOutcome) → AreNaturalLines after → IsNaturalEnd end → LeavesNatural o → LeavesNatural (ends c after end o)
ends-natural c after end o b n k =
    record { lines = All-append IsNaturalLine (o.lines ++ after) (Close c end ∷ []) (All-append IsNaturalLine o.lines after k.lines b) (one-line (Close c end) n); flight = tt }

pub acts-natural : (c : ℕ) (kind : Option UpdateKind) (after : List TranscriptLine) (out : List Action) (o : StepOutcome) → AreNaturalLines after → AreNatural out → LeavesNatural o → LeavesNatural (fold (acts c kind after) o out)
acts-natural c kind after [] o b n k = k
acts-natural c kind after (action.Send bytes ∷ out) o b n k = acts-natural c kind after out (acts c kind after o (action.Send bytes)) b n (record { lines = All-append IsNaturalLine o.lines (Send c bytes ∷ []) k.lines (one-line (Send c bytes) tt); flight = k.flight })
acts-natural c kind after (action.Ask a ∷ out) o b n k = acts-natural c kind after out (acts c kind after o (action.Ask a)) b n (record { lines = k.lines; flight = tt })
acts-natural c kind after (action.Close why ∷ out) o b n k = acts-natural c kind after out (acts c kind after o (action.Close why)) b n.1 (ends-natural c after (ended.Cause why) o b n.0 k)
