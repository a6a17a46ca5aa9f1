-- A proxy restarts: all its open connections and reapers end.
use Rattle.std.proofs.Common.{◌≡◌, ℕ, List, [], ◌∷◌, refl, sym, ap, Bool, true, false}
use Rattle.std.proofs.lemmas.Bool.{and_parts}
use Rattle.std.specs.FinMap.{entries, entries_sorted, find, get-entries, is_sorted}
use Rattle.std.specs.Ordering.{nat_cmp}
use Rattle.std.specs.Prelude.{fold, if◌then◌else◌, not, ◌==◌}
use Rattle.zk_service.specs.declared.cause.Cause.TheVariants as cause
use Rattle.zk_service.specs.declared.cause.Ended.TheVariants as ended
use Rattle.zp_script.specs.Effects.{is_open_at, restarted, stopped}
use Rattle.zp_script.specs.StepOutcomes.{ended_by, leaves}
use Rattle.zp_script.specs.Worlds.{Closed, Conn, World, conn_at, is_closed_actor}
use Rattle.zp_verdict_laws.proofs.Handing.{ended-proceeds}
use Rattle.zp_verdict_laws.proofs.Tidy.{Free, Proceeds, proceeds-same, proceeds-then}
use Rattle.zp_world_laws.proofs.Restarting.{Distinct, Gives, all-found, gives-as, gives-others, sorted-distinct}
use Rattle.zx_base.proofs.Booleans.{true-from_T as is-true}

not-closed : (p : ℕ) (x : Conn) → is_open_at p x ≡ true → x.actor ≡ Closed → ⊥
not-closed p x h e = closed-open (sym (ap is_closed_actor e)) ((and_parts (p == x.proxy) (not (is_closed_actor x.actor)) h).1)
  where
    closed-open : true ≡ is_closed_actor x.actor → not (is_closed_actor x.actor) ≡ true → ⊥
    closed-open f g = absurd (cc)

stopped-proceeds : (p : ℕ) (w : World) (es : List (ℕ × Conn)) → Distinct es → Gives (λ k. conn_at k w) es → Proceeds Free w (fold (stopped p) w es)
stopped-proceeds p w [] d g = proceeds-same w w refl
stopped-proceeds p w (e ∷ es) d g = go (is_open_at p e.1) refl (λ v. stopped-proceeds p v es d.1)
  where
    go : (b : Bool) → is_open_at p e.1 ≡ b → ((v : World) → Gives (λ k. conn_at k v) es → Proceeds Free v (fold (stopped p) v es)) → Proceeds Free w (fold (stopped p) (if b then leaves e.0 w e.1 Closed (ended_by e.0 cause.Restart e.1.flight) else w) es)
    go false is later = later w g.1
    go true is later =
        let v : World = leaves e.0 w e.1 Closed (ended_by e.0 cause.Restart e.1.flight) in
        proceeds-then w v (fold (stopped p) v es) (ended-proceeds w e.0 e.1 (ended.Cause cause.Restart) e.1.flight tt (not-closed p e.1 is) g.0) (later v (gives-others w e.0 e.1 es d.0 g.1))

pub restart-proceeds : (p : ℕ) (w : World) → Proceeds Free w (restarted p w)
restart-proceeds p w =
    let d = sorted-distinct (entries w.conns) (is-true (is_sorted nat_cmp (entries w.conns)) (entries_sorted w.conns)) in
    stopped-proceeds p w (entries w.conns) d (gives-as (λ k. find nat_cmp k (entries w.conns)) (λ k. conn_at k w) (entries w.conns) (λ k. get-entries w.conns k) (all-found (entries w.conns) d))
