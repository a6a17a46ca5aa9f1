-- A proxy restarts: those that are open at it end one by one, each as it was before the first one ended.
use Rattle.std.proofs.Common.{◌≡◌, ◌≢◌, ℕ, List, [], ◌∷◌, map, refl, sym, ap, ◌∙◌, subst, Bool, true, false, cond}
use Rattle.std.specs.Prelude.{Option, Some, None, filter, fold, if◌then◌else◌}
use Rattle.std.specs.FinMap.{entries, entries_sorted, find, get, get-entries, get-insert, is_sorted}
use Rattle.std.specs.FinMap.Entries.{below_all}
use Rattle.std.specs.Ordering.{eq_by_cmp, is_lt, nat_cmp}
use Rattle.std.proofs.lemmas.Bool.{and_parts}
use Rattle.std.proofs.lemmas.Cmp.{nat_cmp_total}
use Rattle.zk_service.specs.declared.cause.Cause.TheVariants as cause
use Rattle.zp_script.specs.Effects.{is_open_at, restarted, stopped}
use Rattle.zp_script.specs.StepOutcomes.{ended_by, leaves}
use Rattle.zp_script.specs.Worlds.{Closed, Conn, World, conn_at}
use Rattle.zp_world.specs.Activities.{open_numbers}
use Rattle.zp_world.proofs.Apart.{equal, itself}
use Rattle.zx_base.proofs.Booleans.{true-from_T}
use Rattle.zx_base.proofs.Orders.{less-apart}

-- none of them has this number
abbrev AreOthers : ℕ → List (ℕ × Conn) → Type 0
AreOthers k [] = Unit {0}
AreOthers k (e ∷ es) = (e.0 ≢ k) × AreOthers k es

-- each is found under its number, which no later one has
abbrev Stand : (ℕ → Option Conn) → List (ℕ × Conn) → Type 0
Stand f [] = Unit {0}
Stand f (e ∷ es) = (f e.0 ≡ Some e.1) × AreOthers e.0 es × Stand f es

abbrev AreOpen : ℕ → List (ℕ × Conn) → Type 0
AreOpen p [] = Unit {0}
AreOpen p (e ∷ es) = (is_open_at p e.1 ≡ true) × AreOpen p es

abbrev pub open_among : ℕ → List (ℕ × Conn) → List (ℕ × Conn)
open_among p es = filter (λ (e : ℕ × Conn). is_open_at p e.1) es

abbrev pub numbers_among : ℕ → List (ℕ × Conn) → List ℕ
numbers_among p es = map (λ (e : ℕ × Conn). e.0) (open_among p es)

-- ---- the entries of a map stand

below-others : (k : ℕ) (es : List (ℕ × Conn)) → below_all nat_cmp k es ≡ true → AreOthers k es
below-others k [] h = tt
below-others k (e ∷ es) h = let q = and_parts (is_lt (nat_cmp k e.0)) (below_all nat_cmp k es) h in (less-apart k e.0 q.0, below-others k es q.1)

untied : (k n : ℕ) → n ≢ k → eq_by_cmp nat_cmp n k ≡ false
untied k n apart = go (eq_by_cmp nat_cmp n k) refl
  where
    go : (b : Bool) → eq_by_cmp nat_cmp n k ≡ b → b ≡ false
    go true e = absurd (apart (equal k n e))
    go false e = refl

-- one more in front
found-after : (e : ℕ × Conn) (more es : List (ℕ × Conn)) → AreOthers e.0 es → Stand (λ k. find nat_cmp k more) es → Stand (λ k. find nat_cmp k (e ∷ more)) es
found-after e more [] others stand = tt
found-after e more (d ∷ es) others stand =
    (ap (λ b. cond b (Some e.1) (find nat_cmp d.0 more)) (untied e.0 d.0 others.0) ∙ stand.0, stand.1, found-after e more es others.1 stand.2)

all-found : (es : List (ℕ × Conn)) → is_sorted nat_cmp es ≡ true → Stand (λ k. find nat_cmp k es) es
all-found [] h = tt
all-found (e ∷ es) h =
    let q = and_parts (below_all nat_cmp e.0 es) (is_sorted nat_cmp es) h in
    let others = below-others e.0 es q.0 in
    (ap (λ b. cond b (Some e.1) (find nat_cmp e.0 es)) (itself e.0), others, found-after e es es others (all-found es q.1))

stand-as : (f g : ℕ → Option Conn) (es : List (ℕ × Conn)) → ((k : ℕ) → g k ≡ f k) → Stand f es → Stand g es
stand-as f g [] same h = tt
stand-as f g (e ∷ es) same h = (same e.0 ∙ h.0, h.1, stand-as f g es same h.2)

entries-stand : (w : World) → Stand (λ k. conn_at k w) (entries w.conns)
entries-stand w =
    stand-as (λ k. find nat_cmp k (entries w.conns)) (λ k. conn_at k w) (entries w.conns) (λ k. get-entries w.conns k)
    (all-found (entries w.conns) (true-from_T (is_sorted nat_cmp (entries w.conns)) (entries_sorted w.conns)))

-- ---- those that are open

others-among : (p k : ℕ) (es : List (ℕ × Conn)) → AreOthers k es → AreOthers k (open_among p es)
others-among p k [] h = tt
others-among p k (e ∷ es) h = go (is_open_at p e.1) (others-among p k es h.1)
  where
    go : (b : Bool) → AreOthers k (open_among p es) → AreOthers k (cond b (e ∷ open_among p es) (open_among p es))
    go true later = (h.0, later)
    go false later = later

stand-among : (p : ℕ) (f : ℕ → Option Conn) (es : List (ℕ × Conn)) → Stand f es → Stand f (open_among p es)
stand-among p f [] h = tt
stand-among p f (e ∷ es) h = go (is_open_at p e.1) (stand-among p f es h.2)
  where
    go : (b : Bool) → Stand f (open_among p es) → Stand f (cond b (e ∷ open_among p es) (open_among p es))
    go true later = (h.0, others-among p e.0 es h.1, later)
    go false later = later

open-among : (p : ℕ) (es : List (ℕ × Conn)) → AreOpen p (open_among p es)
open-among p [] = tt
open-among p (e ∷ es) = go (is_open_at p e.1) refl (open-among p es)
  where
    go : (b : Bool) → is_open_at p e.1 ≡ b → AreOpen p (open_among p es) → AreOpen p (cond b (e ∷ open_among p es) (open_among p es))
    go true is later = (is, later)
    go false is later = later

abbrev ended : World → ℕ × Conn → World
ended w e = leaves e.0 w e.1 Closed (ended_by e.0 cause.Restart e.1.flight)

-- the others stay as they are
stopped-among : (p : ℕ) (w : World) (es : List (ℕ × Conn)) → fold (stopped p) w (open_among p es) ≡ fold (stopped p) w es
stopped-among p w [] = refl
stopped-among p w (e ∷ es) = go (is_open_at p e.1) refl (λ v. stopped-among p v es)
  where
    go : (b : Bool) → is_open_at p e.1 ≡ b → ((v : World) → fold (stopped p) v (open_among p es) ≡ fold (stopped p) v es)
        → fold (stopped p) w (cond b (e ∷ open_among p es) (open_among p es)) ≡ fold (stopped p) (if b then ended w e else w) es
    go true is later = ap (λ b. fold (stopped p) (if b then ended w e else w) (open_among p es)) is ∙ later (ended w e)
    go false is later = later w

-- ---- one by one

-- these are still to end
pub record IsStopping (p : ℕ) (w w' : World) (numbers : List ℕ) : Type 0 where
  pub left : List (ℕ × Conn)
  pub numbers_are : numbers ≡ map (λ (e : ℕ × Conn). e.0) left
  pub stand : Stand (λ k. conn_at k w') left
  pub open_are : AreOpen p left
  pub later : fold (stopped p) w' left ≡ restarted p w

pub begin-stopping : (p : ℕ) (w : World) (numbers : List ℕ) → numbers ≡ open_numbers p w.conns → IsStopping p w w numbers
begin-stopping p w numbers are = record {
  left = open_among p (entries w.conns);
  numbers_are = are;
  stand = stand-among p (λ k. conn_at k w) (entries w.conns) (entries-stand w);
  open_are = open-among p (entries w.conns);
  later = stopped-among p w (entries w.conns);
}

stand-after : (w : World) (e : ℕ × Conn) (es : List (ℕ × Conn)) → AreOthers e.0 es → Stand (λ k. conn_at k w) es → Stand (λ k. conn_at k (ended w e)) es
stand-after w e [] others stand = tt
stand-after w e (d ∷ es) others stand = (
  get-insert nat_cmp_total w.conns e.0 (record e.1 { actor = Closed; flight = None }) d.0 ∙ ap (λ b. cond b (Some (record e.1 { actor = Closed; flight = None })) (get w.conns d.0)) (untied e.0 d.0 others.0) ∙ stand.0,
  stand.1,
  stand-after w e es others.1 stand.2,
)

first-is : {A : Type 0} {x y : A} {xs ys : List A} → x ∷ xs ≡ y ∷ ys → x ≡ y
first-is e = cc

rest-is : {A : Type 0} {x y : A} {xs ys : List A} → x ∷ xs ≡ y ∷ ys → xs ≡ ys
rest-is e = cc

pub more-stopping : (p : ℕ) (w w' w'' : World) (n : ℕ) (more rest : List ℕ) → rest ≡ n ∷ more → IsStopping p w w' rest
    → ((x : Conn) → conn_at n w' ≡ Some x → w'' ≡ leaves n w' x Closed (ended_by n cause.Restart x.flight)) → IsStopping p w w'' more
more-stopping p w w' w'' n more rest first s ends = go s.left (sym first ∙ s.numbers_are) s.stand s.open_are s.later
  where
    go : (es : List (ℕ × Conn)) → n ∷ more ≡ map (λ (e : ℕ × Conn). e.0) es → Stand (λ k. conn_at k w') es → AreOpen p es → fold (stopped p) w' es ≡ restarted p w → IsStopping p w w'' more
    go [] are stand open_are later = absurd (cc)
    go (e ∷ es) are stand open_are later =
        let here : n ≡ e.0 = first-is are in
        let now : w'' ≡ ended w' e = ends e.1 (ap (λ k. conn_at k w') here ∙ stand.0) ∙ ap (λ k. leaves k w' e.1 Closed (ended_by k cause.Restart e.1.flight)) here in
        record {
          left = es;
          numbers_are = rest-is are;
          stand = subst (λ (v : World). Stand (λ k. conn_at k v) es) (sym now) (stand-after w' e es stand.1 stand.2);
          open_are = open_are.1;
          later = ap (λ (v : World). fold (stopped p) v es) now ∙ ap (λ b. fold (stopped p) (if b then ended w' e else w') es) (sym open_are.0) ∙ later;
        }

pub end-stopping : (p : ℕ) (w w' : World) (rest : List ℕ) → rest ≡ [] → IsStopping p w w' rest → w' ≡ restarted p w
end-stopping p w w' rest none s = go s.left (sym none ∙ s.numbers_are) s.later
  where
    go : (es : List (ℕ × Conn)) → [] ≡ map (λ (e : ℕ × Conn). e.0) es → fold (stopped p) w' es ≡ restarted p w → w' ≡ restarted p w
    go [] are later = later
    go (e ∷ es) are later = absurd (cc)
