-- Which record of a session's life a view shows.
use Rattle.std.proofs.Common.{◌≡◌, sym, ap, ◌∙◌, ℤ}
use Rattle.std.specs.Prelude.{Some}
use Rattle.ev_types.specs.declared.answer.Kv.{Kv}
use Rattle.zk_model.specs.declared.connect.ConnectRequest.{ConnectRequest}
use Rattle.zn_layout.specs.declared.record.LeaseRec.{LeaseRec}
use Rattle.zn_layout.proofs.Leases.{lease_value-injective}
use Rattle.zn_view.specs.Seen.{View}
use Rattle.zs_session.specs.Connecting.{SawLifeAt, SawNoneOfMine}

-- a view shows one record
life-shown : (v : View) (id seen other : ℤ) (life found : LeaseRec) → SawLifeAt v id seen life → SawLifeAt v id other found → found ≡ life
life-shown v id seen other life found saw again =
    let whole : Some (Some again.kv) ≡ Some (Some saw.kv) = sym again.shown ∙ saw.shown in
    let same : again.kv ≡ saw.kv = cc in
    lease_value-injective found life (again.value).0 (saw.value).0 (sym (again.value).1 ∙ ap (λ (kv : Kv). kv.value) same ∙ (saw.value).1)

pub other-not_mine : (r : ConnectRequest) (v : View) (seen : ℤ) (life : LeaseRec) → SawLifeAt v r.session seen life → (life.passwd ≡ r.passwd → ⊥) → SawNoneOfMine r v
other-not_mine r v seen life saw apart other found mine =
    apart (ap (λ (l : LeaseRec). l.passwd) (sym (life-shown v r.session seen other life found saw mine.saw)) ∙ mine.passwd)
