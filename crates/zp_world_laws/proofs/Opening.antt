-- A connection opens under a number that was not in use.
use Rattle.std.proofs.Common.{◌≡◌, ◌≢◌, ℕ, List, [], ◌∷◌, ◌++◌, refl, sym, ap, ◌∙◌, true, false, ℤ, inl, inr}
use Rattle.std.specs.Prelude.{Some, None}
use Rattle.zk_model.specs.declared.layout.Layout.{Layout}
use Rattle.zk_transcript.specs.declared.transcript.TranscriptLine.TheVariants.{Open}
use Rattle.zp_step.specs.Stages.{Core, is_shut, new_core, is_served}
use Rattle.zp_script.specs.Effects.{new_conn, opened}
use Rattle.zp_script.specs.Worlds.{Conn, Connection, World, conn_at}
use Rattle.zp_script.specs.declared.flight.Asking.{Asking}
use Rattle.zx_base.proofs.Options.{none_some, some_is}
use Rattle.zp_world_laws.proofs.Effects.{out-with}
use Rattle.zp_world_laws.proofs.Executing.{precedes-self}
use Rattle.zp_world_laws.proofs.Kept.{closed-same, small-more}
use Rattle.zp_world_laws.proofs.Lines.{quiet-holds, same-air}
use Rattle.zp_world_laws.proofs.Numbers.{conn-here, conn-there, either-number}
use Rattle.zp_world_laws.proofs.Serving.{elsewhere-plain, serving-push}
use Rattle.zp_world_laws.specs.Connections.{IsClosedAt, Whole}
use Rattle.zp_world_laws.specs.Holding.{Holds, Left, Of, Source, air}

module _ (w : World) (c p : ℕ) (id : ℤ) (passwd : List ℕ) (layout : Layout) (free : conn_at c w ≡ None) (h : Whole w) where
  there : (d : ℕ) → d ≢ c → conn_at d (opened w c p (record { id = id; passwd = passwd; layout = layout })) ≡ conn_at d w
  there d apart = conn-there w c d (new_conn p (Connection (new_core (record { id = id; passwd = passwd; layout = layout })))) apart

  here : (d : ℕ) (y : Conn) → d ≡ c → conn_at d (opened w c p (record { id = id; passwd = passwd; layout = layout })) ≡ Some y → new_conn p (Connection (new_core (record { id = id; passwd = passwd; layout = layout }))) ≡ y
  here d y same e = some_is (sym (conn-here w c (new_conn p (Connection (new_core (record { id = id; passwd = passwd; layout = layout }))))) ∙ ap (λ n. conn_at n (opened w c p (record { id = id; passwd = passwd; layout = layout }))) (sym same) ∙ e)

  opened-air : (o : Source) (x : Asking) → air (opened w c p (record { id = id; passwd = passwd; layout = layout })) o ≡ Some x → air w o ≡ Some x
  opened-air (Of d) x e = (out-with w c d (new_conn p (Connection (new_core (record { id = id; passwd = passwd; layout = layout })))) x refl e).1
  opened-air (Left k) x e = e

  holds : Holds (opened w c p (record { id = id; passwd = passwd; layout = layout }))
  holds = quiet-holds w (opened w c p (record { id = id; passwd = passwd; layout = layout })) (Open c p id passwd layout) refl refl refl refl (λ d i z bytes e. absurd (cc)) (same-air w (opened w c p (record { id = id; passwd = passwd; layout = layout })) opened-air) h.holds

  core-same : (a b : Core) → Connection a ≡ Connection b → a ≡ b
  core-same a b e = cc

  core-is : (d : ℕ) (y : Conn) (q : Core) → d ≡ c → conn_at d (opened w c p (record { id = id; passwd = passwd; layout = layout })) ≡ Some y → y.actor ≡ Connection q → new_core (record { id = id; passwd = passwd; layout = layout }) ≡ q
  core-is d y q same e a = core-same _ q (ap (λ (z : Conn). z.actor) (here d y same e) ∙ a)

  still : (d : ℕ) → IsClosedAt w d → IsClosedAt (opened w c p (record { id = id; passwd = passwd; layout = layout })) d
  still d t = elim (either-number d c) [
    | inl same ↦ absurd (none_some (sym free ∙ ap (λ n. conn_at n w) (sym same) ∙ t.1))
    | inr apart ↦ closed-same w (opened w c p (record { id = id; passwd = passwd; layout = layout })) d (there d apart) t
  ]

  pub open-whole : Whole (opened w c p (record { id = id; passwd = passwd; layout = layout }))
  open-whole = record {
    holds = holds;
    serving = λ d y q e a s. elim (either-number d c) [
      | inl same ↦ absurd (unserved (ap (λ (k : Core). is_served k.stage) (core-is d y q same e a) ∙ s))
      | inr apart ↦ serving-push w.store w.store w.lines (Open c p id passwd layout ∷ []) d q y.flight ((h.holds).serves).legal (holds.serves).legal (precedes-self w.store)
          (elsewhere-plain w.lines d (Open c p id passwd layout) refl) (h.serving d y q (sym (there d apart) ∙ e) a s)
    ];
    unshut = λ d y q e a. elim (either-number d c) [
      | inl same ↦ ap (λ (k : Core). is_shut k.stage) (sym (core-is d y q same e a))
      | inr apart ↦ h.unshut d y q (sym (there d apart) ∙ e) a
    ];
    own = λ e d y a f g r. elim (either-number e c) [
      | inl same ↦ absurd (none_some (ap (λ (z : Conn). z.flight) (here e y same f) ∙ g))
      | inr apart ↦ h.own e d y a (sym (there e apart) ∙ f) g r
    ];
    left = λ k d a e r. still d (h.left k d a e r);
    small = small-more w.lines (w.lines ++ Open c p id passwd layout ∷ []) (Open c p id passwd layout ∷ []) refl (λ d i. refl) h.small;
  }
    where
      unserved : false ≡ true → ⊥
      unserved e = cc
