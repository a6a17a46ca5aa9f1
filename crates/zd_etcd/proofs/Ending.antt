-- How the parts of a server's end come together.
use Rattle.std.proofs.Common.{◌≡◌, ℕ, List, refl, sym, subst, inl, inr}
use Rattle.std.specs.Prelude.{Option, Result, Ok, Err}
use Rattle.zx_outside.specs.Writing.{Takes, TakesFront}
use Rattle.zx_net.specs.Nets.{NetCounts}
use Rattle.zd_etcd.specs.declared.serving.EtcdEnd.{EtcdEnd}
use Rattle.zd_etcd.specs.declared.serving.EtcdEnd.TheVariants as ends
use Rattle.zd_etcd.specs.declared.serving.Stop.{Stop}
use Rattle.zd_etcd.specs.declared.serving.Stop.TheVariants as stop
use Rattle.zd_etcd.specs.Serving.{EtcdEnds, Faults, EtcdFinishes, EtcdAccepts, EtcdStops, door_fault, listening_text}

pub served : (accepted : Result (Unit {0}) Stop) (end : EtcdEnd) (limit : ℕ) (counts counts' : NetCounts) (taken taken' : Option (List ℕ)) →
    EtcdStops accepted limit counts counts' → EtcdFinishes accepted end taken taken' → EtcdAccepts end limit counts counts' taken taken'
served (Ok u) end limit counts counts' taken taken' stops fin = subst (λ (e : EtcdEnd). EtcdAccepts e limit counts counts' taken taken') (sym fin.0) (stops, fin.1)
served (Err stop.Door) ends.Net limit counts counts' taken taken' stops fin = (stops.0, stops.1, stops.2, fin)
served (Err stop.Door) ends.WriteFault limit counts counts' taken taken' stops fin = (stops.0, stops.1, stops.2, fin)
served (Err stop.Door) ends.Done limit counts counts' taken taken' stops fin = absurd fin
served (Err stop.Door) ends.Memory limit counts counts' taken taken' stops fin = absurd fin
served (Err stop.Memory) end limit counts counts' taken taken' stops fin =
    subst (λ (e : EtcdEnd). EtcdAccepts e limit counts counts' taken taken') (sym fin.0) (stops.0, stops.1, stops.2, fin.1)

pub listened : (end : EtcdEnd) (listen : List ℕ) (limit : ℕ) (counts counts' : NetCounts) (taken between taken' : Option (List ℕ)) →
    Takes (listening_text listen) taken between → EtcdAccepts end limit counts counts' between taken' → EtcdEnds end listen limit counts counts' taken taken'
listened ends.Done listen limit counts counts' taken between taken' wrote serves = (between, wrote, serves)
listened ends.Net listen limit counts counts' taken between taken' wrote serves = inr (between, wrote, serves)
listened ends.WriteFault listen limit counts counts' taken between taken' wrote serves = inr (inr (between, wrote, serves))
listened ends.Memory listen limit counts counts' taken between taken' wrote serves = inr (between, wrote, serves)

pub unbound : (end : EtcdEnd) (listen : List ℕ) (limit : ℕ) (counts counts' : NetCounts) (taken taken' : Option (List ℕ)) →
    counts' ≡ door_fault counts → Faults end taken taken' → EtcdEnds end listen limit counts counts' taken taken'
unbound ends.Net listen limit counts counts' taken taken' counted told = inl (counted, told)
unbound ends.WriteFault listen limit counts counts' taken taken' counted told = inr (inl (counted, told))
unbound ends.Done listen limit counts counts' taken taken' counted told = absurd told
unbound ends.Memory listen limit counts counts' taken taken' counted told = absurd told

pub unwritten : (listen : List ℕ) (limit : ℕ) (counts counts' : NetCounts) (taken taken' : Option (List ℕ)) → counts' ≡ counts → TakesFront (listening_text listen) taken taken' →
    EtcdEnds ends.WriteFault listen limit counts counts' taken taken'
unwritten listen limit counts counts' taken taken' counted front = inl (counted, front)

pub refused : (listen : List ℕ) (limit : ℕ) (counts : NetCounts) (taken : Option (List ℕ)) → EtcdEnds ends.Memory listen limit counts counts taken taken
refused listen limit counts taken = inl (refl, refl)
