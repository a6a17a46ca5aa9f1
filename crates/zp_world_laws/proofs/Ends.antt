-- A failure, a lag, a bad length or the end of the stream ends a connection at once, whatever it has out; a failure ends a reaper.
use Rattle.std.proofs.Common.{◌≡◌, ℕ, List, [], ◌∷◌, refl, sym, ap, ◌∙◌, subst, true, ℤ, inl, inr}
use Rattle.std.specs.Prelude.{Option, Some, None, if◌then◌else◌}
use Rattle.zk_transcript.specs.History.{after}
use Rattle.zk_service.specs.declared.cause.Cause.{Cause}
use Rattle.zk_service.specs.declared.cause.Cause.TheVariants as cause
use Rattle.zk_service.specs.declared.cause.Ended.TheVariants as ended
use Rattle.zk_transcript.specs.declared.transcript.TranscriptLine.{TranscriptLine}
use Rattle.zp_step.proofs.Shutting.{ends-named}
use Rattle.zp_step.specs.Laws.{end_by}
use Rattle.zp_step.specs.Stages.{is_shut}
use Rattle.zp_step.specs.declared.action.Action.TheVariants as action
use Rattle.zp_step.specs.declared.input.Input.{Input}
use Rattle.zp_step.specs.declared.input.Input.TheVariants as input
use Rattle.zp_script.specs.Effects.{EndsBy, LagsBy}
use Rattle.zp_script.specs.Handing.{FailureComes, FailureComesTo, Handed, landed, landed_conn}
use Rattle.zp_script.specs.Kinds.{kind_asked}
use Rattle.zp_script.specs.StepOutcomes.{acts_all, ends, leaves, quiet}
use Rattle.zp_script.specs.Worlds.{Actor, Closed, Conn, Connection, Reaper, World, after_step, conn_at, is_closed_actor, with_conn}
use Rattle.zp_script.specs.declared.flight.Asking.{Asking}
use Rattle.zx_base.proofs.Options.{none_some, some_is}
use Rattle.zp_world_laws.proofs.Closing.{AreShown, But, but-of, ends-whole}
use Rattle.zp_world_laws.proofs.Effects.{out-with}
use Rattle.zp_world_laws.proofs.Executing.{precedes-self}
use Rattle.zp_world_laws.proofs.Kept.{closed-same}
use Rattle.zp_world_laws.proofs.Lines.{same-air, silent-holds}
use Rattle.zp_world_laws.proofs.Numbers.{conn-here, conn-there, either-number}
use Rattle.zp_world_laws.specs.Connections.{IsClosedAt, Whole}
use Rattle.zp_world_laws.specs.Holding.{Left, Of, Source, air}

-- ---- a step that only closes

pub closing-whole : (w w' : World) (c : ℕ) (rest : List TranscriptLine) (i : Input) (why : Cause) (z : ℤ) → (hd : Handed c rest w i w') → is_shut hd.next.stage ≡ true → hd.out ≡ action.Close why ∷ [] → z ≡ (after w.lines).zxid → AreShown c z rest → But w c → Whole w'
closing-whole w w' c rest i why z hd shut out last shown h =
    let is : w' ≡ leaves c w hd.conn Closed (ends c rest (ended.Cause why) (quiet hd.conn.flight)) =
    hd.result ∙ ap (λ l. leaves c w hd.conn (after_step hd.next) (acts_all c (kind_asked c (Connection hd.next)) rest hd.conn.flight l)) out
    ∙ ap (λ b. leaves c w hd.conn (if b then Closed else Connection hd.next) (ends c rest (ended.Cause why) (quiet hd.conn.flight))) shut in
    subst Whole (sym is) (ends-whole w c hd.conn z rest (ended.Cause why) hd.found last shown h)

pub closes-whole : (w w' : World) (c : ℕ) (i : Input) (why : Cause) → end_by i ≡ Some why → (hd : Handed c [] w i w') → But w c → Whole w'
closes-whole w w' c i why e hd h =
    let s = ends-named hd.core hd.next i why w.clock hd.out (h.unshut c hd.conn hd.core hd.found hd.serving) e hd.stepped in
    closing-whole w w' c [] i why ((after w.lines).zxid) hd (ap is_shut s.0) s.1 refl tt h

-- ---- what was out has landed

landed-air : (w : World) (c : ℕ) (x : Conn) (o : Source) (a : Asking) → air (with_conn w c (record x { flight = None })) o ≡ Some a → air w o ≡ Some a
landed-air w c x (Of d) a e = (out-with w c d (record x { flight = None }) a refl e).1
landed-air w c x (Left k) a e = e

pub landed-but : (w : World) (c : ℕ) (x : Conn) → conn_at c w ≡ Some x → Whole w → But (with_conn w c (record x { flight = None })) c
landed-but w c x there h =
    let v : Conn = record x { flight = None } in
    let w1 : World = with_conn w c v in
    record {
      holds = silent-holds w w1 (precedes-self w.store) (h.holds).serves refl (same-air w w1 (landed-air w c x)) h.holds;
      serving = λ d y core apart e a s. h.serving d y core (sym (conn-there w c d v apart) ∙ e) a s;
      unshut = λ d y core e a. elim (either-number d c) [
        | inl same ↦ h.unshut c x core there (ap (λ (z : Conn). z.actor) (some_is (sym (conn-here w c v) ∙ ap (λ n. conn_at n w1) (sym same) ∙ e)) ∙ a)
        | inr apart ↦ h.unshut d y core (sym (conn-there w c d v apart) ∙ e) a
      ];
      own = λ e d y a p q r. elim (either-number e c) [
        | inl same ↦ absurd (none_some (ap (λ (z : Conn). z.flight) (some_is (sym (conn-here w c v) ∙ ap (λ n. conn_at n w1) (sym same) ∙ p)) ∙ q))
        | inr apart ↦ h.own e d y a (sym (conn-there w c e v apart) ∙ p) q r
      ];
      left = λ k d a e r. still w1 refl d (h.left k d a e r);
      small = h.small;
    }
  where
    still : (w1 : World) → w1 ≡ with_conn w c (record x { flight = None }) → (d : ℕ) → IsClosedAt w d → IsClosedAt w1 d
    still w1 is d t = elim (either-number d c) [
      | inl same ↦ (record x { flight = None }, ap (conn_at d) is ∙ ap (λ n. conn_at n (with_conn w c (record x { flight = None }))) same ∙ conn-here w c (record x { flight = None }), ap (λ (y : Conn). is_closed_actor y.actor) (some_is (sym there ∙ ap (λ n. conn_at n w) (sym same) ∙ t.1)) ∙ t.2)
      | inr apart ↦ closed-same w w1 d (ap (conn_at d) is ∙ conn-there w c d (record x { flight = None }) apart) t
    ]

-- ---- the lines

failure-at : (w w' : World) (c : ℕ) (x : Conn) (a : Actor) → x.actor ≡ a → conn_at c w ≡ Some x → FailureComesTo c w x w' a → But w c → Whole w'
failure-at w w' c x (Connection core) e there f h = closes-whole w w' c input.Failed cause.LinkFault refl f h
failure-at w w' c x (Reaper reap) e there f h = subst Whole (sym f) (ends-whole w c x ((after w.lines).zxid) [] (ended.Cause cause.LinkFault) there refl tt h)
failure-at w w' c x Closed e there f h = absurd f

pub failure-whole : (w w' : World) (c : ℕ) → FailureComes c w w' → But w c → Whole w'
failure-whole w w' c f h = failure-at w w' c f.0 (f.0).actor refl f.1 f.2 h

pub cut-whole : (w w' : World) (c : ℕ) → FailureComes c w w' → Whole w → Whole w'
cut-whole w w' c f h = failure-whole w w' c f (but-of w c h)

pub landed-is : (w : World) (c : ℕ) (x : Conn) → conn_at c w ≡ Some x → landed c w ≡ with_conn w c (record x { flight = None })
landed-is w c x e = ap (landed_conn c w) e

pub refuse-whole : (w w' : World) (c : ℕ) → FailureComes c (landed c w) w' → Whole w → Whole w'
refuse-whole w w' c f h = go (conn_at c w) refl
  where
    go : (o : Option Conn) → conn_at c w ≡ o → Whole w'
    go (Some x) e = failure-whole (landed c w) w' c f (subst (λ v. But v c) (sym (landed-is w c x e)) (landed-but w c x e h))
    go None e = absurd (none_some (sym e ∙ ap (λ v. conn_at c v) (sym (ap (landed_conn c w) e)) ∙ f.1))

pub lag-whole : (w w' : World) (c : ℕ) (cursor : Option ℤ) → LagsBy c w w' cursor → Whole w → Whole w'
lag-whole w w' c None l h = absurd l
lag-whole w w' c (Some z) l h = closes-whole w w' c _ _ refl l (but-of w c h)

pub end-whole : (w w' : World) (c : ℕ) (x : Option Conn) → EndsBy c w w' x → Whole w → Whole w'
end-whole w w' c None e h = absurd e
end-whole w w' c (Some x) e h = closes-whole w w' c _ _ refl e (but-of w c h)
