-- What is read over HTTP fits what was asked.
use Rattle.std.proofs.Common.{ℕ, List, [], ◌∷◌, Bool, true, false, sym, subst, arith}
use Rattle.std.proofs.lemmas.Int.{ints}
use Rattle.std.proofs.lemmas.List.Elements.{All-cons, All-nil}
use Rattle.std.specs.List.{AllByRecursion}
use Rattle.std.specs.Prelude.{ℤ, All, Result, Ok, Err, IfOk}
use Rattle.ev_types.specs.Store.{chosen}
use Rattle.ev_types.specs.declared.answer.ActAns.{ActAns}
use Rattle.ev_types.specs.declared.answer.ActAns.TheVariants as part
use Rattle.ev_types.specs.declared.answer.Answer.{Answer}
use Rattle.ev_types.specs.declared.answer.Answer.TheVariants as answer
use Rattle.ev_types.specs.declared.answer.Kv.{Kv}
use Rattle.ev_types.specs.declared.ask.Act.{Act}
use Rattle.ev_types.specs.declared.ask.Act.TheVariants as act
use Rattle.ev_types.specs.declared.ask.Ask.{Ask}
use Rattle.ev_types.specs.declared.ask.Ask.TheVariants as ask
use Rattle.ev_types.specs.declared.ask.Guard.{Guard}
use Rattle.ev_fields.specs.Ranges.{IsCount as IsCounted}
use Rattle.ev_json.specs.Bodies.{reads}
use Rattle.ev_json.specs.Ranges.{KvFits, PartFits as IsPart, PartsFit as AreParts, CanCome as Comes, AnswerFits}
use Rattle.ev_call.specs.Fitting.{IsCount, AreCounts, CanCome, Fits, PartFits, PartsFit}
use Rattle.ev_call.specs.declared.etcd.CallFault.{CallFault}
use Rattle.ev_http.specs.Taking.{Told}
use Rattle.ev_link.specs.Asking.{Calls, Exchanges, answer_of, is_memory}
use Rattle.ev_http.specs.Sinks.{SinkTold}
use Rattle.ev_link.specs.declared.failure.LinkFailure.{LinkFailure}
use Rattle.ev_link.specs.declared.http_link.State.{State}
use Rattle.ev_link.specs.declared.http_link.State.TheVariants as state
use Rattle.ev_call.specs.declared.etcd.CallFault.TheVariants as fault
use Rattle.std.specs.Prelude.{if◌then◌else◌}

count : (n : ℤ) → IsCounted n → IsCount n
count n h = let e = h.1 in let small = h.2 in record { least = omega (arith, ints); most = omega (arith, ints) }

kvs_count : (kvs : List Kv) → AllByRecursion KvFits kvs → All AreCounts kvs
kvs_count [] h = All-nil AreCounts
kvs_count (kv ∷ kvs) h = All-cons AreCounts kv kvs (record { revision = count kv.mod_revision h.0.3; version = count kv.version h.0.4 }) (kvs_count kvs h.1)

part_fits : (a : Act) (p : ActAns) → IsPart a p → PartFits a p
part_fits (act.Put k v lease) part.Put h = tt
part_fits (act.Put k v lease) (part.Deleted n) h = absurd h
part_fits (act.Put k v lease) (part.Range found) h = absurd h
part_fits (act.Delete k) part.Put h = absurd h
part_fits (act.Delete k) (part.Deleted n) h = tt
part_fits (act.Delete k) (part.Range found) h = absurd h
part_fits (act.Range q) part.Put h = absurd h
part_fits (act.Range q) (part.Deleted n) h = absurd h
part_fits (act.Range q) (part.Range found) h = kvs_count found.kvs h.0

parts_fit : (acts : List Act) (parts : List ActAns) → AreParts acts parts → PartsFit acts parts
parts_fit [] [] h = tt
parts_fit [] (p ∷ parts) h = absurd h
parts_fit (a ∷ acts) [] h = absurd h
parts_fit (a ∷ acts) (p ∷ parts) h = (part_fits a p h.0, parts_fit acts parts h.1)

can_come : (guards : List Guard) (succeeded : Bool) → Comes guards succeeded → CanCome guards succeeded
can_come [] succeeded h = h
can_come (guard ∷ guards) succeeded h = tt

fits : (q : Ask) (a : Answer) → AnswerFits q a → Fits q a
fits (ask.Txn t) (answer.Txn r succeeded parts) h = (count r h.0, parts_fit (chosen succeeded t) parts h.1, can_come t.guards succeeded h.2)
fits (ask.Txn t) (answer.Range r found) h = absurd h
fits (ask.Txn t) (answer.Granted r id ttl) h = absurd h
fits (ask.Txn t) (answer.Alive r id ttl) h = absurd h
fits (ask.Range q) (answer.Txn r succeeded parts) h = absurd h
fits (ask.Range q) (answer.Range r found) h = (count r h.0, kvs_count found.kvs h.1.0)
fits (ask.Range q) (answer.Granted r id ttl) h = absurd h
fits (ask.Range q) (answer.Alive r id ttl) h = absurd h
fits (ask.Grant id ttl) (answer.Txn r succeeded parts) h = absurd h
fits (ask.Grant id ttl) (answer.Range r found) h = absurd h
fits (ask.Grant id ttl) (answer.Granted r granted left) h = count r h.0
fits (ask.Grant id ttl) (answer.Alive r kept left) h = absurd h
fits (ask.Alive id) (answer.Txn r succeeded parts) h = absurd h
fits (ask.Alive id) (answer.Range r found) h = absurd h
fits (ask.Alive id) (answer.Granted r granted left) h = absurd h
fits (ask.Alive id) (answer.Alive r kept left) h = count r h.0

pub fits_if_ok : (q : Ask) (r : Result Answer CallFault) → IfOk r (AnswerFits q) → IfOk r (Fits q)
fits_if_ok q (Ok a) h = fits q a h
fits_if_ok q (Err e) h = h

no_answer : (q : Ask) (f : LinkFailure) (b : Bool) → IfOk (if b then Err fault.Memory else Err fault.Failed) (AnswerFits q)
no_answer q f true = tt
no_answer q f false = tt

exchanged : (came : Result Answer LinkFailure) (host : List ℕ) (q : Ask) (source source' : Told) (sink sink' : SinkTold) → ((asked : Ask) (a : Answer) (body : List ℕ) → reads asked body a → AnswerFits asked a)
    → Exchanges came host q source source' sink sink' → IfOk (answer_of came) (AnswerFits q)
exchanged (Ok a) host q source source' sink sink' law h = law q a h.1.items h.3
exchanged (Err f) host q source source' sink sink' law h = no_answer q f (is_memory f)

pub call_fits : (before after : State) (result : Result Answer CallFault) (host : List ℕ) (q : Ask) (source source' : Told) (sink sink' : SinkTold) → ((asked : Ask) (a : Answer) (body : List ℕ) → reads asked body a → AnswerFits asked a)
    → Calls before after result host q source source' sink sink' → IfOk result (AnswerFits q)
call_fits state.Open after result host q source source' sink sink' law h = subst (λ (r : Result Answer CallFault). IfOk r (AnswerFits q)) (sym h.2) (exchanged h.0 host q source source' sink sink' law h.1)
call_fits (state.Failed f) after result host q source source' sink sink' law h = subst (λ (r : Result Answer CallFault). IfOk r (AnswerFits q)) (sym h.0) tt
call_fits state.Starved after result host q source source' sink sink' law h = subst (λ (r : Result Answer CallFault). IfOk r (AnswerFits q)) (sym h.0) tt
