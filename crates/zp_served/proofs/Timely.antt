-- A store that answers keeps its entries.
use Rattle.std.proofs.Common.{◌≡◌, List, [], ◌∷◌, ◌++◌, refl, sym, ap, subst, ◌∙◌, arith, append_assoc}
use Rattle.std.specs.Prelude.{Option, Some, None, Ok, Err, Contains}
use Rattle.std.proofs.lemmas.List.Elements.{Contains-append_left, Contains-push, filter_map-append}
use Rattle.ev_call.specs.Calls.{Call}
use Rattle.ev_call.specs.Honest.{CarriesAll, Continues}
use Rattle.ev_call.specs.declared.etcd.CallFault.TheVariants as fault
use Rattle.ev_call.proofs.Alone.{honest}
use Rattle.ev_types.specs.Store.{Store}
use Rattle.ev_types.specs.declared.answer.Answer.{Answer}
use Rattle.ev_types.specs.declared.ask.Ask.{Ask}
use Rattle.zk_service.specs.declared.cause.Cause.{Cause}
use Rattle.zn_layout.specs.Keys.{HeadKey}
use Rattle.zn_layout.specs.StandsFor.{at}
use Rattle.zn_layout.specs.declared.entry.Entry.{Entry}
use Rattle.zk_service.specs.declared.fresh.Fresh.{Fresh}
use Rattle.zw_hub.specs.Lists.{IsAt}
use Rattle.zp_run.specs.Runs.{Step, entries_of, entry_in}
use Rattle.zp_conn.proofs.Turning.{filter_map-push}
use Rattle.zp_conn.specs.Serving.{Serves, Told}
use Rattle.zp_conn.specs.Turning.{listed}
use Rattle.zp_lives.specs.Feeding.{AreAnswered, IsAnswered, IsEntryIn}
use Rattle.zp_served.specs.Honest.{AreEntriesOf, IsInTime}

-- ---- the store goes on

-- an answer, as a call of an honest link
call-of : (s t : Store) (q : Ask) (o : Option Answer) → IsAnswered s q o t → (c : Call) × CarriesAll s (c ∷ []) t
call-of s t q (Some a) h = (record { ask = q; result = Ok a }, (t, h, refl))
call-of s t q None h = (record { ask = q; result = Err fault.Failed }, (t, h, refl))

goes-on : (s t u : Store) → Continues s t → Continues t u → Continues s u
goes-on s t u f g = let first = f.longer in let later = g.longer in record {
  longer = omega (arith, first, later);
  same = λ r le. g.same r (omega (arith, le, first)) ∙ f.same r le;
}

pub continues : (s t : Store) (asks : List Ask) (os : List (Option Answer)) → AreAnswered s asks os t → Continues s t
continues s t asks [] h = subst (Continues s) (sym h) (honest s s [] refl).0
continues s t [] (o ∷ os) h = absurd h
continues s t (q ∷ asks) (o ∷ os) (mid, first, more) =
    let c = call-of s mid q o first in
    goes-on s mid t (honest s mid (c.0 ∷ []) c.1).0 (continues mid t asks os more)

kept : (s t : Store) (e : Entry) → Continues s t → IsEntryIn s e → IsEntryIn t e
kept s t e c i = let known = i.known in let longer = c.longer in record {
  revision = i.revision;
  least = i.least;
  known = omega (arith, known, longer);
  head = i.head;
  there = ap (λ k. at k HeadKey) (c.same i.revision i.known) ∙ i.there;
  number = i.number;
  zxid = i.zxid;
  triggers = i.triggers;
}

-- ---- an entry that was handed in is in the list

entry-there : (before more : List Step) (step : Step) (e : Entry) → entry_in step.input ≡ Some e → Contains (entries_of (before ++ step ∷ more)) e
entry-there before more step e is =
    let one : entries_of (before ++ step ∷ []) ≡ entries_of before ++ e ∷ [] = filter_map-push (λ (t : Step). entry_in t.input) before step ∙ ap (λ o. entries_of before ++ listed o) is in
    let all : entries_of (before ++ step ∷ more) ≡ entries_of (before ++ step ∷ []) ++ entries_of more = ap entries_of (sym (append_assoc before (step ∷ []) more)) ∙ filter_map-append (λ (t : Step). entry_in t.input) (before ++ step ∷ []) more in
    subst (λ l. Contains l e) (sym all) (Contains-append_left (entries_of (before ++ step ∷ [])) (entries_of more) e (subst (λ l. Contains l e) (sym one) (Contains-push (entries_of before) e)))

pub earlier-in-time : (s : Store) (fresh : Fresh) (old new : Told) (why : Cause) (h : Serves fresh old new why) → AreEntriesOf s (new.feed).list → IsInTime s h.steps
earlier-in-time s fresh old new why h listed before more step e now split is answers =
    let found : IsAt (new.feed).list e.number e = h.entries e (subst (λ l. Contains (entries_of l) e) (sym split) (entry-there before more step e is)) in
    kept s now e (continues s now _ _ answers) (listed found.0 e found.1)
