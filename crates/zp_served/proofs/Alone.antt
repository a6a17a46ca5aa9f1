-- What one call did is a run of one connection alone.
use Rattle.std.proofs.Common.{subst}
use Rattle.ev_call.specs.Honest.{CarriesAll}
use Rattle.zp_run.specs.Runs.{answers_of}
use Rattle.zp_lives.proofs.Living.{alone-from-the-first, alone-served}
use Rattle.zp_lives.specs.Feeding.{AreAnswered}
use Rattle.zp_served.proofs.Carrying.{answered, same-calls}
use Rattle.zp_served.specs.Served.{ServedAreAlone, ServedAreFed, ServedFromTheFirst}

pub fed : ServedAreFed
fed s fresh old new why h k =
    let l = k.link in
    let carried : CarriesAll s h.calls l.after = subst (λ cs. CarriesAll s cs l.after) (same-calls _ _ l.before h.calls l.calls l.told l.more h.called) l.carries in
    let given = answered s l.after h.calls (h.asked).uncalled (answers_of h.steps) (h.asked).unheard carried (h.asked).outcomes in
    record {
      offer = k.offer;
      ran = h.ran;
      fed = record { after = given.0; answers = subst (λ asks. AreAnswered s asks (answers_of h.steps) given.0) (h.asked).asks given.1; entries = k.feed };
      few = k.few;
    }

pub accounted : ServedAreAlone
accounted w c p fresh old new why h all free k = alone-served w c p fresh h.steps h.core all free (fed w.store fresh old new why h k)

pub first : ServedFromTheFirst
first s a c p fresh old new why h begins k = alone-from-the-first s a c p fresh h.steps h.core begins (fed s fresh old new why h k)
