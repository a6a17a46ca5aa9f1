-- What a connection asked can be carried out, where the store has an answer to it.
use Rattle.ev_types.specs.Denials.{carry}
use Rattle.ev_types.specs.Store.{Store, present}
use Rattle.ev_types.specs.declared.answer.Answer.{Answer}
use Rattle.ev_types.specs.declared.answer.Kv.{Kv}
use Rattle.std.proofs.Common.{Bool, List, [], ap, false, inl, inr, length, pos, refl, subst, sym, true, ℕ, ◌++◌, ◌+◌, ◌∙◌, ◌∷◌, ◌≡◌}
use Rattle.std.specs.Option.{option_and_then}
use Rattle.std.specs.Ordering.{int_eq}
use Rattle.std.specs.Prelude.{MatchBool, None, Option, Some, if◌then◌else◌, is_none, not}
use Rattle.zk_transcript.specs.History.{after}
use Rattle.zk_transcript.specs.declared.transcript.TranscriptLine.{TranscriptLine}
use Rattle.zk_service.specs.declared.update.UpdateKind.{UpdateKind}
use Rattle.ev_types.specs.Store.{mod_of}
use Rattle.zn_layout.specs.Keys.{HeadKey}
use Rattle.zn_layout.specs.StandsFor.{HeadMeans, at}
use Rattle.zn_layout.specs.declared.entry.Entry.{Entry}
use Rattle.zp_script.specs.Carrying.{CarriedBy, Executes, HasStore, ShowsUpdate, update_line_of}
use Rattle.zp_script.specs.Entries.{IsEntryOf}
use Rattle.zp_script.specs.Faults.{fault, flight_at, if_fails, is_to_carry_out}
use Rattle.zp_script.specs.Happens.{Happens}
use Rattle.zp_script.specs.Worlds.{Actor, Conn, Connection, World, conn_at, is_closed_actor, with_conn, zxid_at}
use Rattle.zp_script.specs.declared.flight.Asking.{Asking}
use Rattle.zp_script.specs.declared.flight.Flight.TheVariants.{Carried, Out}
use Rattle.zp_script.specs.declared.flight.Flight.{Flight}
use Rattle.zp_step.specs.Stages.{Core}
use Rattle.zp_world_laws.proofs.Accounts.{exec-accounted}
use Rattle.zp_world_laws.proofs.Carrying.{air-outcome}
use Rattle.zp_world_laws.proofs.Commits.{stands-now}
use Rattle.zp_world_laws.proofs.Effects.{stored-in}
use Rattle.zp_world_laws.proofs.Numbers.{conn-here}
use Rattle.zp_world_laws.specs.Accounting.{IsAccounted}
use Rattle.zp_world_laws.specs.Holding.{Of, out_in, out_of}
use Rattle.zp_world_laws.specs.Serving.{StoreServes, kind_lines, update_lines}
use Rattle.zt_text.specs.declared.script.Happening.TheVariants as line
use Rattle.zt_text.specs.declared.script.Why.TheVariants as why
use Rattle.zt_text.specs.declared.script.Why.{Why}

-- ---- its tests pass

out-possible : (c : ℕ) (w : World) (x : Conn) (core : Core) (a : Asking) → conn_at c w ≡ Some x → x.actor ≡ Connection core → x.flight ≡ Some (Out a) → fault w (line.Exec c) ≡ None
unfolding fault
out-possible c w x core a there actor out =
    let flight : flight_at c w ≡ Some (Out a) = ap (option_and_then (λ (y : Conn). y.flight)) there ∙ out in
    let later : Option Why = if_fails (is_none (flight_at c w)) why.NoRequestOut (if_fails (not (is_to_carry_out (flight_at c w))) why.AlreadyCarriedOut None) in
    ap (λ (o : Option Conn). elim o [ None ↦ Some why.NoSuchConnection | Some y ↦ if_fails (is_closed_actor y.actor) why.ConnectionClosed later ]) there
    ∙ ap (λ (b : Actor). if_fails (is_closed_actor b) why.ConnectionClosed later) actor
    ∙ ap (λ (f : Option Flight). if_fails (is_none f) why.NoRequestOut (if_fails (not (is_to_carry_out f)) why.AlreadyCarriedOut None)) flight

-- ---- an update has its entry

head-entry : (n : ℕ) (s : Store) (lines : List TranscriptLine) → StoreServes s lines → (e : Entry) × IsEntryOf n (at (present s) HeadKey) e
head-entry n s lines serves = go (at (present s) HeadKey) (stands-now s lines serves).head
  where
    go : (o : Option Kv) → HeadMeans o (after lines) → (e : Entry) × IsEntryOf n o e
    go None h = absurd h
    go (Some kv) h = (
      record { number = pos n; zxid = mod_of (Some kv); triggers = (after lines).triggers },
      record { number = refl; zxid = refl; triggers = (Some (record { triggers = (after lines).triggers }), (h.fits, h.value), refl) },
    )

one-line : (l : TranscriptLine) → ◌≡◌ {A = List TranscriptLine} (l ∷ []) [] → ⊥
one-line l e = cc

-- ---- the world then

pub record IsCarriedTo (c : ℕ) (w : World) (x : Conn) (s : Store) (a : Answer) (kind : Option UpdateKind) (mid : World) : Type 0 where
  pub happens : Happens w (line.Exec c) mid
  pub accounted : IsAccounted mid
  pub there : conn_at c mid ≡ Some (record x { flight = Some (Carried a) })
  pub store : mid.store ≡ s
  pub lines : mid.lines ≡ w.lines ++ update_lines w.store s kind

module _ (c : ℕ) (w : World) (x : Conn) (core : Core) (asking : Asking) (s : Store) (a : Answer) (k : IsAccounted w) (there : conn_at c w ≡ Some x) (actor : x.actor ≡ Connection core) (out : x.flight ≡ Some (Out asking)) (done : carry w.store asking.ask ≡ Some (s, a)) where
  update-entry : (kind : UpdateKind) → asking.kind ≡ Some kind → int_eq (zxid_at w.store) (zxid_at s) ≡ false → (e : Entry) × IsEntryOf (length w.entries + 1) (at (present s) HeadKey) e
  update-entry kind is moved = elim (air-outcome w (Of c) asking s a (k.whole).holds (ap out_of there ∙ ap out_in out) done) [
    | inl still ↦ absurd (one-line (update_line_of s kind) (sym (ap (λ b. if b then [] else kind_lines s (Some kind)) moved) ∙ sym (ap (update_lines w.store s) is) ∙ still.lines))
    | inr updated ↦ head-entry (length w.entries + 1) s _ (updated.done).serves
  ]

  stored : (mid : World) × HasStore w s asking.kind mid
  stored = go (int_eq (zxid_at w.store) (zxid_at s)) refl
    where
      by-kind : int_eq (zxid_at w.store) (zxid_at s) ≡ false → (o : Option UpdateKind) → asking.kind ≡ o → (mid : World) × ShowsUpdate w s o mid
      by-kind moved None e = (record w { store = s }, refl)
      by-kind moved (Some kind) e =
          let y = update-entry kind e moved in
          (record w { store = s; lines = w.lines ++ update_line_of s kind ∷ []; entries = w.entries ++ y.0 ∷ [] }, (y.0, y.1, refl))

      go : (b : Bool) → int_eq (zxid_at w.store) (zxid_at s) ≡ b → (mid : World) × MatchBool b (mid ≡ record w { store = s }) (ShowsUpdate w s asking.kind mid)
      go true e = (record w { store = s }, refl)
      go false e = by-kind e asking.kind refl

  executes : (mid : World) → HasStore w s asking.kind mid → Executes c w (with_conn mid c (record x { flight = Some (Carried a) }))
  executes mid has = record {
    conn = x;
    asking = asking;
    found = there;
    out = out;
    flight = Carried a;
    mid = mid;
    carries = subst (CarriedBy w asking.kind (Carried a) mid) (sym done) (refl, has);
    result = refl;
  }

  pub carried-to : (mid : World) × IsCarriedTo c w x s a asking.kind mid
  carried-to = go stored.0 stored.1
    where
      go : (mid : World) → HasStore w s asking.kind mid → (m : World) × IsCarriedTo c w x s a asking.kind m
      go mid has = (
        with_conn mid c (record x { flight = Some (Carried a) }),
        record {
          happens = record { possible = out-possible c w x core asking there actor out; effect = executes mid has };
          accounted = exec-accounted w (with_conn mid c (record x { flight = Some (Carried a) })) c (executes mid has) k;
          there = conn-here mid c (record x { flight = Some (Carried a) });
          store = (stored-in w mid s asking.kind has).store;
          lines = (stored-in w mid s asking.kind has).lines;
        },
      )
