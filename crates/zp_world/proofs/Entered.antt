-- An entry, a lag or the end of its client is handed to a connection.
use Rattle.std.proofs.Common.{◌≡◌, ℕ, ◌+◌, ◌-◌, ℤ, sym, ◌∙◌, subst, [], length}
use Rattle.std.specs.Prelude.{Some, OnOk, Result, pos}
use Rattle.std.proofs.lemmas.Result.{on_ok_weaker}
use Rattle.zn_layout.specs.declared.entry.Entry.{Entry}
use Rattle.zp_script.specs.Effects.{EndsBy, EntersBy, IsEntry, LagsBy}
use Rattle.zp_script.specs.Entries.{cursor_at, entry_after, max_kept_entries, next_entry}
use Rattle.zp_script.specs.Handing.{Handed}
use Rattle.zp_script.specs.Worlds.{Conn, Connection, World, conn_at}
use Rattle.zp_step.specs.Stages.{Core, counted_up}
use Rattle.zp_step.specs.declared.input.Input.{Input}
use Rattle.zp_step.specs.declared.input.Input.TheVariants as input
use Rattle.zp_world.proofs.Possible.{IsServing, next-is}

-- it is handed to the one that is there
abbrev pub HandsTo : ℕ → World → Input → World → Type 0
HandsTo c w x w' = (conn : Conn) (core : Core) → conn_at c w ≡ Some conn → conn.actor ≡ Connection core → Handed c [] w x w'

to-serving : (c : ℕ) (w w' : World) (x : Input) → IsServing c w → HandsTo c w x w' → Handed c [] w x w'
to-serving c w w' x s all = all s.conn s.core s.found s.serving

module _ {E : Type 0} (c : ℕ) (w w' : World) (r : Result (Unit {0}) E) where
  pub entered : (x : Input) (e : Entry) (cursor : ℤ) → IsServing c w → cursor_at c w ≡ Some cursor → entry_after w.entries cursor ≡ Some e → IsEntry e x
      → OnOk r (HandsTo c w x w') → OnOk r (EntersBy c w w' (next_entry c w))
  entered x e cursor serving at after is h = on_ok_weaker r (λ (all : HandsTo c w x w').
      subst (EntersBy c w w') (sym (next-is c w (Some cursor) at ∙ after)) (x, is, to-serving c w w' x serving all)) h

  pub lagged : (cursor floor : ℤ) → IsServing c w → cursor_at c w ≡ Some cursor → floor ≡ pos (length w.entries - max_kept_entries)
      → OnOk r (HandsTo c w (input.Lagged cursor floor) w') → OnOk r (LagsBy c w w' (cursor_at c w))
  lagged cursor floor serving at is h = on_ok_weaker r (λ (all : HandsTo c w (input.Lagged cursor floor) w').
      subst (LagsBy c w w') (sym at) (subst (λ (z : ℤ). Handed c [] w (input.Lagged cursor z) w') is (to-serving c w w' (input.Lagged cursor floor) serving all))) h

  pub client-ended : (place : ℕ) (s : IsServing c w) → place ≡ counted_up (s.conn.stream.place + length s.conn.stream.rest)
      → OnOk r (HandsTo c w (input.ClientEnd place) w') → OnOk r (EndsBy c w w' (conn_at c w))
  client-ended place s is h = on_ok_weaker r (λ (all : HandsTo c w (input.ClientEnd place) w').
      subst (EndsBy c w w') (sym s.found) (subst (λ (n : ℕ). Handed c [] w (input.ClientEnd n) w') is (to-serving c w w' (input.ClientEnd place) s all))) h
