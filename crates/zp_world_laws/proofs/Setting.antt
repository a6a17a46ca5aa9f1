-- The record of an open connection, or of a reaper, is replaced, with its flight, in a world that is whole but for it.
use Rattle.std.proofs.Common.{ap, false, inl, inr, refl, subst, sym, true, ℕ, ◌∙◌, ◌≡◌, ◌≢◌}
use Rattle.std.specs.Prelude.{None, Option, Some, ◌⊎◌}
use Rattle.zk_transcript.specs.Legal.{Attachment, attach_of}
use Rattle.zk_transcript.specs.Walks.{Walker}
use Rattle.zp_script.specs.Worlds.{Conn, Connection, World, conn_at, is_closed_actor, with_conn}
use Rattle.zp_script.specs.declared.flight.Asking.{Asking}
use Rattle.zp_script.specs.declared.flight.Flight.TheVariants.{Carried, Denied, Out}
use Rattle.zp_script.specs.declared.flight.Flight.{Flight}
use Rattle.zp_step.specs.Stages.{is_served, Core, is_shut}
use Rattle.zp_world_laws.proofs.Carrying.{one, request-asker}
use Rattle.zp_world_laws.proofs.Closing.{But}
use Rattle.zp_world_laws.proofs.Kept.{closed-same, no-stray}
use Rattle.zp_world_laws.proofs.Numbers.{conn-here, conn-there, either-number, of-same}
use Rattle.zp_world_laws.specs.Bounds.{IsBoundAsk}
use Rattle.zp_world_laws.specs.Connections.{IsClosedAt, IsServingConn, Whole}
use Rattle.zp_world_laws.specs.Holding.{Holds, IsAhead, IsSpoken, Left, Of, Source, Talks, air, asker_in, out_in, out_of, request_in}
use Rattle.zx_base.proofs.Options.{none_some, some_is}
use Rattle.zx_base.proofs.Booleans.{true-not_false as true-false}

-- nothing of c may still be carried out but what is out of it
pub lone : (w : World) (c : ℕ) (x : Conn) → ((e d : ℕ) (y : Conn) (a : Asking) → conn_at e w ≡ Some y → y.flight ≡ Some (Out a) → asker_in a ≡ Some d → d ≡ e) → ((k d : ℕ) (a : Asking) → air w (Left k) ≡ Some a → asker_in a ≡ Some d → IsClosedAt w d) → conn_at c w ≡ Some x → is_closed_actor x.actor ≡ false
    → (o : Source) (a : Asking) → air w o ≡ Some a → asker_in a ≡ one c → o ≡ Of c
lone w c x own left there opens (Left k) a e r = absurd (no-stray w c x left there opens k a e r)
lone w c x own left there opens (Of d) a e r = ap Of (at-conn (conn_at d w) refl e)
  where
    at-flight : (y : Conn) → conn_at d w ≡ Some y → (f : Option Flight) → y.flight ≡ f → out_in f ≡ Some a → d ≡ c
    at-flight y g None h p = absurd (none_some p)
    at-flight y g (Some (Out b)) h p = sym (own d c y a g (h ∙ ap (λ q. Some (Out q)) (some_is p)) r)
    at-flight y g (Some (Carried b)) h p = absurd (none_some p)
    at-flight y g (Some Denied) h p = absurd (none_some p)

    at-conn : (o : Option Conn) → conn_at d w ≡ o → out_of o ≡ Some a → d ≡ c
    at-conn None g p = absurd (none_some p)
    at-conn (Some y) g p = at-flight y g y.flight refl p

-- what is known of its conversation, and of what is out of it
pub record IsHeardAs (w : World) (c : ℕ) (v : Conn) (k : ℕ) (a : Attachment) : Type 0 where
  pub walker : Walker
  pub talks : Talks w.lines c k a walker
  pub ahead : (x : Asking) (i : ℕ) → v.flight ≡ Some (Out x) → request_in x ≡ Some (record { connection = c; index = i }) → IsAhead w.lines c walker i

pub record Sets (w : World) (c : ℕ) (x v : Conn) : Type 0 where
  pub but : But w c
  pub there : conn_at c w ≡ Some x
  pub opens : is_closed_actor x.actor ≡ false
  pub unshut : (core : Core) → v.actor ≡ Connection core → is_shut core.stage ≡ false
  pub serves : (core : Core) → v.actor ≡ Connection core → is_served core.stage ≡ true → IsServingConn w.store w.lines c core v.flight
  pub bound : (a : Asking) → v.flight ≡ Some (Out a) → IsBoundAsk w.store w.lines a
  pub own : (a : Asking) (d : ℕ) → v.flight ≡ Some (Out a) → asker_in a ≡ Some d → d ≡ c
  pub heard : (k : ℕ) (a : Attachment) → attach_of c w.lines ≡ Some (k, a) → IsHeardAs w c v k a

module _ (w : World) (c : ℕ) (x v : Conn) (s : Sets w c x v) where
  here : conn_at c (with_conn w c v) ≡ Some v
  here = conn-here w c v

  others : (d : ℕ) → d ≢ c → conn_at d (with_conn w c v) ≡ conn_at d w
  others d apart = conn-there w c d v apart

  -- what is out of c is what is out of v; all else is out as it was
  out-flight : (f : Option Flight) (a : Asking) → out_in f ≡ Some a → f ≡ Some (Out a)
  out-flight None a e = absurd (none_some e)
  out-flight (Some (Out b)) a e = ap (λ q. Some (Out q)) (some_is e)
  out-flight (Some (Carried b)) a e = absurd (none_some e)
  out-flight (Some Denied) a e = absurd (none_some e)

  cases : (o : Source) (a : Asking) → air (with_conn w c v) o ≡ Some a → ((o ≡ Of c) × (v.flight ≡ Some (Out a))) ⊎ ((o ≢ Of c) × (air w o ≡ Some a))
  cases (Left k) a e = inr ((λ f. absurd (cc)), e)
  cases (Of d) a e = elim (either-number d c) [
    | inl same ↦ inl (ap Of same, out-flight v.flight a (ap out_of (sym here) ∙ ap (λ n. out_of (conn_at n (with_conn w c v))) (sym same) ∙ e))
    | inr apart ↦ inr ((λ f. apart (of-same d c f)), ap out_of (sym (others d apart)) ∙ e)
  ]

  free : (o : Source) (a : Asking) → o ≢ Of c → air w o ≡ Some a → asker_in a ≡ one c → ⊥
  free o a apart e r = apart (lone w c x (s.but).own (s.but).left s.there s.opens o a e r)

  sets-holds : Holds (with_conn w c v)
  sets-holds = record {
    serves = ((s.but).holds).serves;
    fresh = ((s.but).holds).fresh;
    bound = λ o a e. elim (cases o a e) [ inl new ↦ s.bound a new.1 | inr old ↦ ((s.but).holds).bound o a old.1 ];
    alone = λ p q y z d ea eb ca cb. elim (cases p y ea) [
      | inl np ↦ elim (cases q z eb) [
        | inl nq ↦ np.0 ∙ sym nq.0
        | inr oq ↦ absurd (free q z oq.0 oq.1 (cb ∙ ap one (s.own y d np.1 ca)))
      ]
      | inr op ↦ elim (cases q z eb) [
        | inl nq ↦ absurd (free p y op.0 op.1 (ca ∙ ap one (s.own z d nq.1 cb)))
        | inr oq ↦ ((s.but).holds).alone p q y z d op.1 oq.1 ca cb
      ]
    ];
    spoken = λ d k a e. spoken d k a e (either-number d c);
  }
    where
      spoken : (d k : ℕ) (a : Attachment) → attach_of d w.lines ≡ Some (k, a) → (d ≡ c) ⊎ (d ≢ c) → IsSpoken (with_conn w c v) d k a
      spoken d k a e (inl same) =
          let hr = s.heard k a (ap (λ n. attach_of n w.lines) (sym same) ∙ e) in
          subst (λ n. IsSpoken (with_conn w c v) n k a) (sym same) (record {
            walker = hr.walker;
            talks = hr.talks;
            ahead = λ o y i eo r. elim (cases o y eo) [
              | inl new ↦ hr.ahead y i new.1 r
              | inr old ↦ absurd (free o y old.0 old.1 (request-asker y c i r))
            ];
          })
      spoken d k a e (inr apart) =
          let sp = ((s.but).holds).spoken d k a e in
          record {
            walker = sp.walker;
            talks = sp.talks;
            ahead = λ o y i eo r. elim (cases o y eo) [
              | inl new ↦ absurd (apart (s.own y d new.1 (request-asker y d i r)))
              | inr old ↦ sp.ahead o y i old.1 r
            ];
          }

  is-here : (d : ℕ) (y : Conn) → d ≡ c → conn_at d (with_conn w c v) ≡ Some y → v ≡ y
  is-here d y same e = some_is (sym here ∙ ap (λ n. conn_at n (with_conn w c v)) (sym same) ∙ e)

  still : (d : ℕ) → IsClosedAt w d → IsClosedAt (with_conn w c v) d
  still d t = elim (either-number d c) [
    | inl same ↦ absurd (true-false (sym t.2 ∙ ap (λ (y : Conn). is_closed_actor y.actor) (some_is (sym t.1 ∙ ap (λ n. conn_at n w) same ∙ s.there)) ∙ s.opens))
    | inr apart ↦ closed-same w (with_conn w c v) d (others d apart) t
  ]

  pub sets-whole : Whole (with_conn w c v)
  sets-whole = record {
    holds = sets-holds;
    serving = λ d y q e a t. elim (either-number d c) [
      | inl same ↦
          let is = is-here d y same e in
          subst (λ n. IsServingConn w.store w.lines n q y.flight) (sym same) (subst (λ (z : Conn). IsServingConn w.store w.lines c q z.flight) is (s.serves q (ap (λ (z : Conn). z.actor) is ∙ a) t))
      | inr apart ↦ (s.but).serving d y q apart (sym (others d apart) ∙ e) a t
    ];
    unshut = λ d y q e a. elim (either-number d c) [
      | inl same ↦ s.unshut q (ap (λ (z : Conn). z.actor) (is-here d y same e) ∙ a)
      | inr apart ↦ (s.but).unshut d y q (sym (others d apart) ∙ e) a
    ];
    own = λ e d y a p q r. elim (either-number e c) [
      | inl same ↦ s.own a d (ap (λ (z : Conn). z.flight) (is-here e y same p) ∙ q) r ∙ sym same
      | inr apart ↦ (s.but).own e d y a (sym (others e apart) ∙ p) q r
    ];
    left = λ k d a e r. still d ((s.but).left k d a e r);
    small = (s.but).small;
  }
