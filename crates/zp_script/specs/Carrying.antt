-- The store carries out an ask. Where that changes the head, the ask was an update, and gets a line and an entry.
use Rattle.std.specs.Prelude.{◌≡◌, ℕ, ◌+◌, ◌-◌, [], ◌∷◌, ◌++◌, length, slice_set, Option, Some, None, MatchBool}
use Rattle.std.specs.Ordering.{int_eq}
use Rattle.ev_types.specs.declared.answer.Answer.{Answer}
use Rattle.ev_types.specs.Store.{Store, present}
use Rattle.ev_types.specs.Denials.{carry}
use Rattle.zk_service.specs.declared.update.UpdateKind.{UpdateKind}
use Rattle.zk_transcript.specs.declared.transcript.TranscriptLine.{TranscriptLine}
use Rattle.zk_transcript.specs.declared.transcript.TranscriptLine.TheVariants.{Update}
use Rattle.zn_layout.specs.declared.entry.Entry.{Entry}
use Rattle.zn_layout.specs.Keys.{HeadKey}
use Rattle.zn_layout.specs.StandsFor.{at}
use Rattle.zp_script.specs.declared.flight.Asking.{Asking}
use Rattle.zp_script.specs.declared.flight.Flight.{Flight}
use Rattle.zp_script.specs.declared.flight.Flight.TheVariants.{Out, Carried, Denied}
use Rattle.zp_script.specs.Worlds.{World, Conn, conn_at, with_conn, zxid_at}
use Rattle.zp_script.specs.Entries.{IsEntryOf}
use Rattle.zp_script.specs.Faults.{left_at}

-- ---- what is shown of it

abbrev pub update_line_of : Store → UpdateKind → TranscriptLine
update_line_of s kind = Update (record { zxid = zxid_at s; kind = kind })

-- The head changed, by an ask of this kind. An ask without a kind changes no key, so in a run it never changes the head
-- (`every_line_is_accounted_for` of `zp_world_laws`).
abbrev pub ShowsUpdate : World → Store → Option UpdateKind → World → Type 0
ShowsUpdate w s None w' = w' ≡ record w { store = s }
ShowsUpdate w s (Some kind) w' = (e : Entry) × IsEntryOf (length w.entries + 1) (at (present s) HeadKey) e
    × (w' ≡ record w { store = s; lines = w.lines ++ update_line_of s kind ∷ []; entries = w.entries ++ e ∷ [] })

-- the store is this one from now on
abbrev pub HasStore : World → Store → Option UpdateKind → World → Type 0
HasStore w s kind w' = MatchBool (int_eq (zxid_at w.store) (zxid_at s)) (w' ≡ record w { store = s }) (ShowsUpdate w s kind w')

-- ---- an ask is carried out

abbrev pub CarriedBy : World → Option UpdateKind → Flight → World → Option (Store × Answer) → Type 0
CarriedBy w kind flight w' None = (flight ≡ Denied) × (w' ≡ w)
CarriedBy w kind flight w' (Some x) = (flight ≡ Carried x.1) × HasStore w x.0 kind w'

abbrev pub CarriesOut : World → Asking → Flight → World → Type 0
CarriesOut w asking flight w' = CarriedBy w asking.kind flight w' (carry w.store asking.ask)

-- what c asked is carried out; its answer is delivered later
pub record Executes (c : ℕ) (w w' : World) : Type 0 where
  pub conn : Conn
  pub asking : Asking
  pub found : conn_at c w ≡ Some conn
  pub out : conn.flight ≡ Some (Out asking)
  pub flight : Flight
  pub mid : World
  pub carries : CarriesOut w asking flight mid
  pub result : w' ≡ with_conn mid c (record conn { flight = Some flight })

-- stray k is carried out, and nobody takes its answer
pub record ExecutesStray (k : ℕ) (w w' : World) : Type 0 where
  pub asking : Asking
  pub left : left_at k w.strays ≡ Some asking
  pub flight : Flight
  pub mid : World
  pub carries : CarriesOut w asking flight mid
  pub result : w' ≡ record mid { strays = slice_set mid.strays (k - 1) None }
