-- Accepts, one after the other.
use Rattle.std.proofs.Common.{◌≡◌, ℕ, ◌+◌, ◌-◌, ◌<◌, refl, sym, ap, ◌∙◌, arith}
use Rattle.std.specs.Prelude.{Ok, Err}
use Rattle.zx_net.specs.Nets.{NetCounts}
use Rattle.zd_etcd.specs.declared.serving.Stop.{Stop}
use Rattle.zd_etcd.specs.declared.serving.Stop.TheVariants as stop
use Rattle.zd_etcd.specs.Serving.{EtcdStops, accepts, door_fault, more}

more_none : (count : ℕ) → more 0 count ≡ count
more_none count = omega arith

more_plus : (n k count : ℕ) → more k (more n count) ≡ more (n + k) count
more_plus n k count = omega arith

pub accepts_none : (counts : NetCounts) → accepts 0 counts ≡ counts
accepts_none counts = ap (λ (a : ℕ). record counts { accepted = a }) (more_none counts.accepted)

pub accepts_plus : (n k : ℕ) (counts : NetCounts) → accepts k (accepts n counts) ≡ accepts (n + k) counts
accepts_plus n k counts = ap (λ (a : ℕ). record counts { accepted = a }) (more_plus n k counts.accepted)

pub accepts_one : (n : ℕ) (counts between counts' : NetCounts) → between ≡ accepts n counts → EtcdStops (Ok tt) 1 between counts' → counts' ≡ accepts (n + 1) counts
accepts_one n counts between counts' first then = then ∙ ap (accepts 1) first ∙ accepts_plus n 1 counts

-- the door had a fault, or memory was refused, before the next connection was accepted
pub stopped_first : (why : Stop) (counts counts' : NetCounts) → (why ≡ stop.Door → counts' ≡ door_fault counts) → (why ≡ stop.Memory → counts' ≡ counts) → EtcdStops (Err why) 1 counts counts'
stopped_first stop.Door counts counts' door memory = (0, omega arith, door refl ∙ ap door_fault (sym (accepts_none counts)))
stopped_first stop.Memory counts counts' door memory = (0, omega arith, memory refl ∙ sym (accepts_none counts))

-- the same after n connections
pub stopped_later : (why : Stop) (n limit : ℕ) (counts between counts' : NetCounts) → n < limit → between ≡ accepts n counts → EtcdStops (Err why) 1 between counts' → EtcdStops (Err why) limit counts counts'
stopped_later stop.Door n limit counts between counts' within first stops =
    let none : stops.0 ≡ 0 = omega (arith, stops.1) in
    (n, within, stops.2 ∙ ap (λ (k : ℕ). door_fault (accepts k between)) none ∙ ap door_fault (accepts_none between ∙ first))
stopped_later stop.Memory n limit counts between counts' within first stops =
    let none : stops.0 ≡ 0 = omega (arith, stops.1) in
    (n, within, stops.2 ∙ ap (λ (k : ℕ). accepts k between) none ∙ accepts_none between ∙ first)
