-- What answers to a number is taken out of its world, and put back after a step.
use Rattle.std.proofs.Common.{◌≡◌, ℕ, ◌++◌, refl, sym, ap, ◌∙◌, Bool, true, false, cond}
use Rattle.std.specs.Prelude.{Option, Some, None}
use Rattle.std.specs.declared.cmp.Ordering.{Ordering}
use Rattle.std.specs.declared.cmp.Ordering.TheVariants.{Less, Equal, Greater}
use Rattle.std.specs.Ordering.{eq_by_cmp, is_eq, nat_cmp}
use Rattle.std.specs.FinMap.{get, get-insert, get-remove, insert, remove, same_map}
use Rattle.std.proofs.lemmas.Cmp.{nat_cmp_total, tied_itself}
use Rattle.std.proofs.lemmas.Map.Lookups.{exact_unsigned}
use Rattle.zp_script.specs.StepOutcomes.{StepOutcome, leaves}
use Rattle.zp_script.specs.Worlds.{Actor, Conn, Conns, World, conn_at, with_conn}
use Rattle.zp_world.specs.Doing.{without}

-- ---- in a map

pub itself : (k : ℕ) → eq_by_cmp nat_cmp k k ≡ true
itself k = ap is_eq (tied_itself nat_cmp_total k)

-- the last value stands, whatever the key had
shadowed : (b : Bool) (x y z : Option Conn) → cond b x (cond b y z) ≡ cond b x z
shadowed true x y z = refl
shadowed false x y z = refl

kept : (b : Bool) (x z : Option Conn) → (b ≡ true → z ≡ x) → cond b x z ≡ z
kept true x z h = sym (h refl)
kept false x z h = refl

pub equal : (k q : ℕ) → eq_by_cmp nat_cmp q k ≡ true → q ≡ k
equal k q h = exact_unsigned q k (tied (nat_cmp q k) h)
  where
    tied : (r : Ordering) → is_eq r ≡ true → r ≡ Equal
    tied Less h = cc
    tied Equal h = refl
    tied Greater h = cc

pub get-inserted : (m : Conns) (k : ℕ) (v : Conn) → get (insert m k v) k ≡ Some v
get-inserted m k v = get-insert nat_cmp_total m k v k ∙ ap (λ b. cond b (Some v) (get m k)) (itself k)

pub get-removed : (m : Conns) (k : ℕ) → get (remove m k) k ≡ None
get-removed m k = get-remove nat_cmp_total m k k ∙ ap (λ b. cond b None (get m k)) (itself k)

pub insert-removed : (m : Conns) (k : ℕ) (v : Conn) → insert (remove m k) k v ≡ insert m k v
insert-removed m k v = same_map nat_cmp_total exact_unsigned _ _ (λ q.
    get-insert nat_cmp_total (remove m k) k v q ∙ ap (cond (eq_by_cmp nat_cmp q k) (Some v)) (get-remove nat_cmp_total m k q)
    ∙ shadowed (eq_by_cmp nat_cmp q k) (Some v) None (get m q) ∙ sym (get-insert nat_cmp_total m k v q))

pub insert-twice : (m : Conns) (k : ℕ) (v u : Conn) → insert (insert m k v) k u ≡ insert m k u
insert-twice m k v u = same_map nat_cmp_total exact_unsigned _ _ (λ q.
    get-insert nat_cmp_total (insert m k v) k u q ∙ ap (cond (eq_by_cmp nat_cmp q k) (Some u)) (get-insert nat_cmp_total m k v q)
    ∙ shadowed (eq_by_cmp nat_cmp q k) (Some u) (Some v) (get m q) ∙ sym (get-insert nat_cmp_total m k u q))

-- what was there is put back
pub insert-same : (m : Conns) (k : ℕ) (v : Conn) → get m k ≡ Some v → insert m k v ≡ m
insert-same m k v there = same_map nat_cmp_total exact_unsigned _ _ (λ q.
    get-insert nat_cmp_total m k v q ∙ kept (eq_by_cmp nat_cmp q k) (Some v) (get m q) (λ e. ap (get m) (equal k q e) ∙ there))

-- ---- in a world

pub conn-inserted : (c : ℕ) (w : World) (x : Conn) → conn_at c (with_conn w c x) ≡ Some x
conn-inserted c w x = get-inserted w.conns c x

pub with_conn-without : (c : ℕ) (w : World) (x : Conn) → with_conn (without c w) c x ≡ with_conn w c x
with_conn-without c w x = ap (λ (m : Conns). record w { conns = m }) (insert-removed w.conns c x)

pub with_conn-same : (c : ℕ) (w : World) (x : Conn) → conn_at c w ≡ Some x → with_conn w c x ≡ w
with_conn-same c w x there = ap (λ (m : Conns). record w { conns = m }) (insert-same w.conns c x there)

-- taken out and put back as it was
pub put-back : (c : ℕ) (w : World) (x : Conn) → conn_at c w ≡ Some x → with_conn (without c w) c x ≡ w
put-back c w x there = with_conn-without c w x ∙ with_conn-same c w x there

pub leaves-without : (c : ℕ) (w : World) (x : Conn) (a : Actor) (o : StepOutcome) → leaves c (without c w) x a o ≡ leaves c w x a o
leaves-without c w x a o = ap (λ (m : Conns). record w { conns = m; lines = w.lines ++ o.lines; strays = w.strays ++ o.strays }) (insert-removed w.conns c (record x { actor = a; flight = o.flight }))

pub leaves-with_conn : (c : ℕ) (w : World) (x y : Conn) (a : Actor) (o : StepOutcome) → leaves c (with_conn w c y) x a o ≡ leaves c w x a o
leaves-with_conn c w x y a o = ap (λ (m : Conns). record w { conns = m; lines = w.lines ++ o.lines; strays = w.strays ++ o.strays }) (insert-twice w.conns c y (record x { actor = a; flight = o.flight }))

pub conn-left : (c : ℕ) (w : World) (x : Conn) (a : Actor) (o : StepOutcome) → conn_at c (leaves c w x a o) ≡ Some (record x { actor = a; flight = o.flight })
conn-left c w x a o = get-inserted w.conns c (record x { actor = a; flight = o.flight })
