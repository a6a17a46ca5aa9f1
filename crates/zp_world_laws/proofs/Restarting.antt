-- A proxy restarts: all its open connections and reapers end.
use Rattle.std.proofs.Common.{◌≡◌, ◌≢◌, ℕ, List, [], ◌∷◌, refl, ap, ◌∙◌, Bool, true, false, cond}
use Rattle.std.specs.Prelude.{Option, Some, fold, if◌then◌else◌}
use Rattle.std.specs.Cmp.{unsigned_tied}
use Rattle.std.specs.FinMap.{entries, entries_sorted, find, get-entries, is_sorted}
use Rattle.std.specs.FinMap.Entries.{below_all}
use Rattle.std.specs.Ordering.{is_lt, nat_cmp}
use Rattle.std.proofs.lemmas.Bool.{and_parts}
use Rattle.zk_transcript.specs.History.{after}
use Rattle.zk_service.specs.declared.cause.Cause.TheVariants as cause
use Rattle.zk_service.specs.declared.cause.Ended.TheVariants as ended
use Rattle.zp_script.specs.Effects.{is_open_at, restarted, stopped}
use Rattle.zp_script.specs.StepOutcomes.{ended_by, leaves}
use Rattle.zp_script.specs.Worlds.{Closed, Conn, World, conn_at}
use Rattle.zp_world_laws.proofs.Closing.{but-of, closed_conn, ends-whole}
use Rattle.zp_world_laws.proofs.Numbers.{conn-there, other-number}
use Rattle.zp_world_laws.specs.Connections.{Whole}
use Rattle.zx_base.proofs.Booleans.{true-from_T, same-number}
use Rattle.zx_base.proofs.Orders.{less-apart}

-- a function gives each of these entries
abbrev pub Gives : (ℕ → Option Conn) → List (ℕ × Conn) → Type 0
Gives f [] = Unit {0}
Gives f (e ∷ es) = (f e.0 ≡ Some e.1) × Gives f es

abbrev pub Apart : ℕ → List (ℕ × Conn) → Type 0
Apart k [] = Unit {0}
Apart k (e ∷ es) = (e.0 ≢ k) × Apart k es

abbrev pub Distinct : List (ℕ × Conn) → Type 0
Distinct [] = Unit {0}
Distinct (e ∷ es) = Apart e.0 es × Distinct es

-- ---- the entries of a map

below-apart : (k : ℕ) (es : List (ℕ × Conn)) → below_all nat_cmp k es ≡ true → Apart k es
below-apart k [] h = tt
below-apart k (e ∷ es) h = let q = and_parts (is_lt (nat_cmp k e.0)) (below_all nat_cmp k es) h in (less-apart k e.0 q.0, below-apart k es q.1)

pub sorted-distinct : (es : List (ℕ × Conn)) → is_sorted nat_cmp es ≡ true → Distinct es
sorted-distinct [] h = tt
sorted-distinct (e ∷ es) h = let q = and_parts (below_all nat_cmp e.0 es) (is_sorted nat_cmp es) h in (below-apart e.0 es q.0, sorted-distinct es q.1)

found-apart : (e : ℕ × Conn) (more es : List (ℕ × Conn)) → Apart e.0 es → Gives (λ k. find nat_cmp k more) es → Gives (λ k. find nat_cmp k (e ∷ more)) es
found-apart e more [] a g = tt
found-apart e more (d ∷ es) a g =
    (ap (λ b. cond b (Some e.1) (find nat_cmp d.0 more)) (unsigned_tied d.0 e.0 ∙ other-number d.0 e.0 a.0) ∙ g.0, found-apart e more es a.1 g.1)

pub all-found : (es : List (ℕ × Conn)) → Distinct es → Gives (λ k. find nat_cmp k es) es
all-found [] d = tt
all-found (e ∷ es) d =
    (ap (λ b. cond b (Some e.1) (find nat_cmp e.0 es)) (unsigned_tied e.0 e.0 ∙ same-number e.0 e.0 refl), found-apart e es es d.0 (all-found es d.1))

pub gives-as : (f g : ℕ → Option Conn) (es : List (ℕ × Conn)) → ((k : ℕ) → g k ≡ f k) → Gives f es → Gives g es
gives-as f g [] same h = tt
gives-as f g (e ∷ es) same h = (same e.0 ∙ h.0, gives-as f g es same h.1)

-- ---- one by one

pub gives-others : (w : World) (c : ℕ) (x : Conn) (es : List (ℕ × Conn)) → Apart c es → Gives (λ k. conn_at k w) es → Gives (λ k. conn_at k (leaves c w x Closed (ended_by c cause.Restart x.flight))) es
gives-others w c x [] a g = tt
gives-others w c x (e ∷ es) a g = (conn-there w c e.0 (closed_conn x) a.0 ∙ g.0, gives-others w c x es a.1 g.1)

stopped-whole : (p : ℕ) (w : World) (es : List (ℕ × Conn)) → Distinct es → Gives (λ k. conn_at k w) es → Whole w → Whole (fold (stopped p) w es)
stopped-whole p w [] d g h = h
stopped-whole p w (e ∷ es) d g h = go (is_open_at p e.1) (λ v. stopped-whole p v es d.1)
  where
    go : (b : Bool) → ((v : World) → Gives (λ k. conn_at k v) es → Whole v → Whole (fold (stopped p) v es)) → Whole (fold (stopped p) (if b then leaves e.0 w e.1 Closed (ended_by e.0 cause.Restart e.1.flight) else w) es)
    go false later = later w g.1 h
    go true later = later (leaves e.0 w e.1 Closed (ended_by e.0 cause.Restart e.1.flight)) (gives-others w e.0 e.1 es d.0 g.1)
        (ends-whole w e.0 e.1 ((after w.lines).zxid) [] (ended.Cause cause.Restart) g.0 refl tt (but-of w e.0 h))

pub restart-whole : (w : World) (p : ℕ) → Whole w → Whole (restarted p w)
restart-whole w p h =
    let d = sorted-distinct (entries w.conns) (true-from_T (is_sorted nat_cmp (entries w.conns)) (entries_sorted w.conns)) in
    stopped-whole p w (entries w.conns) d (gives-as (λ k. find nat_cmp k (entries w.conns)) (λ k. conn_at k w) (entries w.conns) (λ k. get-entries w.conns k) (all-found (entries w.conns) d)) h
