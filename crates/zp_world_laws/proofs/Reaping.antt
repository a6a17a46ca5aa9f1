-- A reaper begins, under a number that was not in use: it looks at its session.
use Rattle.ev_types.specs.declared.ask.Ask.{Ask}
use Rattle.std.proofs.Common.{[], ap, append-nil, inl, inr, pos, refl, subst, sym, ℕ, ℤ, ◌++◌, ◌∙◌, ◌≡◌, ◌≢◌}
use Rattle.std.specs.Prelude.{None, Option, Some, if◌then◌else◌, ◌⊎◌}
use Rattle.zn_view.specs.Asks.{reading}
use Rattle.zp_script.specs.Effects.{new_reap, new_reaper}
use Rattle.zp_script.specs.Handing.{ReapSteps, Reaps}
use Rattle.zp_script.specs.Kinds.{kind_of_reap}
use Rattle.zp_script.specs.StepOutcomes.{leaves, reap_acts}
use Rattle.zp_script.specs.Worlds.{Closed, Conn, Connection, Reaper, World, conn_at, is_over, with_conn}
use Rattle.zp_script.specs.declared.flight.Asking.{Asking}
use Rattle.zp_script.specs.declared.flight.Flight.TheVariants.{Out}
use Rattle.zp_script.specs.declared.flight.Flight.{Flight}
use Rattle.zp_step.specs.Stages.{Core}
use Rattle.zp_world_laws.proofs.Asking.{ranges-read}
use Rattle.zp_world_laws.proofs.Kept.{closed-same}
use Rattle.zp_world_laws.proofs.Numbers.{conn-here, conn-there, either-number}
use Rattle.zp_world_laws.specs.Bounds.{IsBoundAsk}
use Rattle.zp_world_laws.specs.Connections.{IsClosedAt, Whole}
use Rattle.zp_world_laws.specs.Holding.{Holds, Left, Of, Source, air, asker_in, out_in, out_of, request_in}
use Rattle.zs_reap.specs.Steps.{reaper_wants}
use Rattle.zs_reap.specs.declared.reap.Phase.{Phase}
use Rattle.zs_reap.specs.declared.reap.Reap.{Reap}
use Rattle.zs_reap.specs.declared.reap.ReapStep.TheVariants as reaped
use Rattle.zs_session.specs.declared.fault.StepFault.TheVariants.{Damaged, Memory}
use Rattle.zx_base.proofs.Options.{none_some, some_is}
use Rattle.zx_base.specs.Maps.{Bytes}

-- ---- a reaper under a new number, with an ask that is no update

module _ (w : World) (c : ℕ) (v : Conn) (reap : Reap) (q : Ask) (free : conn_at c w ≡ None) (actor : v.actor ≡ Reaper reap) (flight : v.flight ≡ Some (Out (record { ask = q; kind = None }))) (bound : IsBoundAsk w.store w.lines (record { ask = q; kind = None })) (h : Whole w) where
  there : (d : ℕ) → d ≢ c → conn_at d (with_conn w c v) ≡ conn_at d w
  there d apart = conn-there w c d v apart

  here : (d : ℕ) (y : Conn) → d ≡ c → conn_at d (with_conn w c v) ≡ Some y → v ≡ y
  here d y same e = some_is (sym (conn-here w c v) ∙ ap (λ n. conn_at n (with_conn w c v)) (sym same) ∙ e)

  out-is : (f : Option Flight) (a : Asking) → f ≡ Some (Out (record { ask = q; kind = None })) → f ≡ Some (Out a) → record { ask = q; kind = None } ≡ a
  out-is f a e g = out-same _ a (some_is (sym e ∙ g))
    where
      out-same : (x y : Asking) → Out x ≡ Out y → x ≡ y
      out-same x y k = cc

  cases : (o : Source) (a : Asking) → air (with_conn w c v) o ≡ Some a → ((o ≡ Of c) × (record { ask = q; kind = None } ≡ a)) ⊎ (air w o ≡ Some a)
  cases (Left k) a e = inr e
  cases (Of d) a e = elim (either-number d c) [
    | inl same ↦ inl (ap Of same, some_is (sym (ap out_of (ap (λ n. conn_at n (with_conn w c v)) same ∙ conn-here w c v) ∙ flown) ∙ e))
    | inr apart ↦ inr (ap out_of (sym (there d apart)) ∙ e)
  ]
    where
      flown : out_of (Some v) ≡ Some (record { ask = q; kind = None })
      flown = ap (λ f. out_in f) flight

  no-asker : (a : Asking) (d : ℕ) → record { ask = q; kind = None } ≡ a → asker_in a ≡ Some d → ⊥
  no-asker a d e r = none_some (ap asker_in e ∙ r)

  holds : Holds (with_conn w c v)
  holds = record {
    serves = (h.holds).serves;
    fresh = (h.holds).fresh;
    bound = λ o a e. elim (cases o a e) [ inl new ↦ subst (IsBoundAsk w.store w.lines) new.1 bound | inr old ↦ (h.holds).bound o a old ];
    alone = λ x y a b d ea eb ca cb. elim (cases x a ea) [
      | inl new ↦ absurd (no-asker a d new.1 ca)
      | inr old ↦ elim (cases y b eb) [ inl new ↦ absurd (no-asker b d new.1 cb) | inr also ↦ (h.holds).alone x y a b d old also ca cb ]
    ];
    spoken = λ d k a e. (let sp = (h.holds).spoken d k a e in record {
      walker = sp.walker;
      talks = sp.talks;
      ahead = λ o y i eo r. elim (cases o y eo) [ inl new ↦ absurd (none_some (ap request_in new.1 ∙ r)) | inr old ↦ sp.ahead o y i old r ];
    });
  }

  no-core : (d : ℕ) (y : Conn) (core : Core) → d ≡ c → conn_at d (with_conn w c v) ≡ Some y → y.actor ≡ Connection core → ⊥
  no-core d y core same e a = reaper-core (sym actor ∙ ap (λ (z : Conn). z.actor) (here d y same e) ∙ a)
    where
      reaper-core : Reaper reap ≡ Connection core → ⊥
      reaper-core f = cc

  pub placed-whole : Whole (with_conn w c v)
  placed-whole = record {
    holds = holds;
    serving = λ d y core e a s. elim (either-number d c) [ inl same ↦ absurd (no-core d y core same e a) | inr apart ↦ h.serving d y core (sym (there d apart) ∙ e) a s ];
    unshut = λ d y core e a. elim (either-number d c) [ inl same ↦ absurd (no-core d y core same e a) | inr apart ↦ h.unshut d y core (sym (there d apart) ∙ e) a ];
    own = λ e d y a f g r. elim (either-number e c) [
      | inl same ↦ absurd (no-asker a d (out-is y.flight a (ap (λ (z : Conn). z.flight) (sym (here e y same f)) ∙ flight) g) r)
      | inr apart ↦ h.own e d y a (sym (there e apart) ∙ f) g r
    ];
    left = λ k d a e r. still d (h.left k d a e r);
    small = h.small;
  }
    where
      still : (d : ℕ) → IsClosedAt w d → IsClosedAt (with_conn w c v) d
      still d t = elim (either-number d c) [
        | inl same ↦ absurd (none_some (sym free ∙ ap (λ n. conn_at n w) (sym same) ∙ t.1))
        | inr apart ↦ closed-same w (with_conn w c v) d (there d apart) t
      ]

-- ---- the first step

-- the reaper that has looked
abbrev pub looking_reaper : ℕ → ℤ → Reap → Conn
looking_reaper p id next = record (new_reaper p id) { actor = Reaper next; flight = Some (Out (record { ask = reading (pos 0) (reaper_wants id); kind = None })) }

pub looks-first : (w w' : World) (c p : ℕ) (id : ℤ) (r : ReapSteps c w (new_reaper p id) (new_reap id) None w') → w' ≡ with_conn w c (looking_reaper p id r.next)
looks-first w w' c p id r =
    let m = (r.stepped).moves in
    let q : Ask = reading (pos 0) (reaper_wants id) in
    let v : Conn = looking_reaper p id r.next in
    r.result
    ∙ ap (λ s. leaves c w (new_reaper p id) (if is_over (r.next).phase then Closed else Reaper r.next) (reap_acts c (kind_of_reap (r.next).session (r.next).phase) None s)) m.1
    ∙ ap (λ (ph : Phase). leaves c w (new_reaper p id) (if is_over ph then Closed else Reaper r.next) (reap_acts c (kind_of_reap (r.next).session ph) None (reaped.Ask q))) m.0
    ∙ ap (λ l. record (with_conn w c v) { lines = l; strays = w.strays ++ [] }) (append-nil w.lines)
    ∙ ap (λ s. record (with_conn w c v) { strays = s }) (append-nil w.strays)

first-look : (w w' : World) (c p : ℕ) (id : ℤ) → conn_at c w ≡ None → ReapSteps c w (new_reaper p id) (new_reap id) None w' → Whole w → Whole w'
first-look w w' c p id free r h =
    subst Whole (sym (looks-first w w' c p id r)) (placed-whole w c (looking_reaper p id r.next) r.next (reading (pos 0) (reaper_wants id)) free refl refl (record { success = ranges-read (pos 0) (reaper_wants id); failure = refl }) h)

pub damaged-memory : (k v : Bytes) → Damaged k v ≡ Memory → ⊥
damaged-memory k v f = cc

pub reap-whole : (w w' : World) (c p : ℕ) (id : ℤ) → conn_at c w ≡ None → Reaps c w None w' (new_reaper p id) (new_reap id) → Whole w → Whole w'
reap-whole w w' c p id free (inl e) h = absurd (damaged-memory e.key e.value e.found)
reap-whole w w' c p id free (inr r) h = first-look w w' c p id free r h
