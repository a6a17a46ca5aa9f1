-- How the calls of a reap go on, and how they end.
use Rattle.std.proofs.Common.{◌≡◌, ℕ, ◌+◌, ℤ, List, [], ◌∷◌, ◌++◌, length, refl, sym, ap, ◌∙◌, subst, inl, inr, length-append}
use Rattle.std.specs.Prelude.{Bool, Option, Some, None, Result, Ok, Err, true, false}
use Rattle.ev_types.specs.declared.answer.Answer.{Answer}
use Rattle.ev_types.specs.declared.ask.Ask.{Ask}
use Rattle.ev_call.specs.Calls.{Call}
use Rattle.ev_call.specs.declared.etcd.CallFault.{CallFault}
use Rattle.ev_call.specs.declared.etcd.CallFault.TheVariants as call
use Rattle.zs_session.specs.declared.fault.StepFault.TheVariants.{Damaged}
use Rattle.zs_reap.specs.Steps.{IsReapFault, MayStepReaper, ReaperSteps}
use Rattle.zs_reap.specs.declared.reap.Reap.{Reap}
use Rattle.zs_reap.specs.declared.reap.ReapStep.{ReapStep}
use Rattle.zs_reap.specs.declared.reap.ReapStep.TheVariants as steps
use Rattle.zs_reaper.specs.declared.calling.TurnFault.{TurnFault}
use Rattle.zs_reaper.specs.declared.calling.TurnFault.TheVariants as turn
use Rattle.zs_reaper.specs.Calling.{Calls, LinkTold, Makes}
use Rattle.zs_reaper.specs.Reaping.{IsReapedTo, Reaps, Walks, WasThere, begun, max_asks}
use Rattle.zs_reaper.proofs.Listed.{came_failed, came_memory, came_met, came_none, came_ok}
use Rattle.zs_reaper.proofs.Making.{made_as, made_then, no_calls}

-- after so many calls, all answered, a reap of this session stands so
pub record Stands (session : ℤ) (r : Reap) (a : Option Answer) (count : ℕ) (calls : List Call) : Type 0 where
  pub walks : Walks (begun session) None calls r a
  pub many : length calls ≡ count

may-from : (r s : Reap) (a b : Option Answer) → s ≡ r → b ≡ a → MayStepReaper s b → MayStepReaper r a
may-from r s a b same answer may = subst (λ (x : Option Answer). MayStepReaper r x) answer (subst (λ (x : Reap). MayStepReaper x b) same may)

steps-from : (r s : Reap) (a b : Option Answer) (step : ReapStep) (next : Reap) → s ≡ r → b ≡ a → ReaperSteps s b step next → ReaperSteps r a step next
steps-from r s a b step next same answer st = subst (λ (x : Option Answer). ReaperSteps r x step next) answer (subst (λ (x : Reap). ReaperSteps x b step next) same st)

walks-more : (r : Reap) (a : Option Answer) (cs : List Call) (s : Reap) (b : Option Answer) (q : Ask) (next : Reap) (got : Answer) → Walks r a cs s b → MayStepReaper s b → ReaperSteps s b (steps.Ask q) next → Walks r a (cs ++ record { ask = q; result = Ok got } ∷ []) next (Some got)
walks-more r a [] s b q next got w may st = (next, got, may-from r s a b w.0 w.1 may, steps-from r s a b (steps.Ask q) next w.0 w.1 st, refl, (refl, refl))
walks-more r a (c ∷ cs) s b q next got w may st = (w.0, w.1, w.2, w.3, w.4, walks-more w.0 (Some w.1) cs s b q next got w.5 may st)

one-longer : (cs : List Call) (c : Call) (n : ℕ) → length cs ≡ n → length (cs ++ c ∷ []) ≡ n + 1
one-longer cs c n many = length-append cs (c ∷ []) ∙ ap (λ (k : ℕ). k + 1) many

one-of : (q : Ask) (came was : Result Answer CallFault) (cs : List Call) → came ≡ was → cs ≡ record { ask = q; result = came } ∷ [] → cs ≡ record { ask = q; result = was } ∷ []
one-of q came was cs is one = one ∙ ap (λ (r : Result Answer CallFault). record { ask = q; result = r } ∷ []) is

-- ---- it goes on

pub stands_first : (session : ℤ) (r : Reap) (t : LinkTold) → r ≡ begun session → Makes (Stands session r None 0) t t
stands_first session r t is = no_calls (Stands session r None 0) t (record { walks = (is, refl); many = refl })

pub may_first : (session : ℤ) (r : Reap) → r ≡ begun session → MayStepReaper r None
may_first session r is = ap (λ (x : Reap). x.phase) is

stands-next : (session : ℤ) (r : Reap) (a : Option Answer) (n : ℕ) (q : Ask) (next : Reap) (got : Answer) → MayStepReaper r a → ReaperSteps r a (steps.Ask q) next → (xs ys : List Call) → Stands session r a n xs → Calls q (Ok got) ys → Stands session next (Some got) (n + 1) (xs ++ ys)
stands-next session r a n q next got may st xs ys s c =
    let one : ys ≡ record { ask = q; result = Ok got } ∷ [] = one-of q c.0 (Ok got) ys (came_ok got c.0 c.2) c.1 in
    subst (λ (l : List Call). Stands session next (Some got) (n + 1) (xs ++ l)) (sym one) (record {
      walks = walks-more (begun session) None xs r a q next got s.walks may st;
      many = one-longer xs (record { ask = q; result = Ok got }) n s.many;
    })

pub stands_more : (session : ℤ) (r : Reap) (a : Option Answer) (n : ℕ) (q : Ask) (next : Reap) (got : Answer) (old mid new : LinkTold) → Makes (Stands session r a n) old mid → MayStepReaper r a → ReaperSteps r a (steps.Ask q) next → Makes (Calls q (Ok got)) mid new → Makes (Stands session next (Some got) (n + 1)) old new
stands_more session r a n q next got old mid new m may st c = made_then (Stands session r a n) (Calls q (Ok got)) (Stands session next (Some got) (n + 1)) old mid new (stands-next session r a n q next got may st) m c

-- ---- it ends

reaps-of : (session : ℤ) (r : Reap) (a : Option Answer) (n : ℕ) (result : Result Bool TurnFault) (xs cs : List Call) → Stands session r a n xs → MayStepReaper r a → IsReapedTo r a xs result cs → Reaps session result cs
reaps-of session r a n result xs cs s may ends = record { reap = r; answer = a; answered = xs; walks = s.walks; may = may; ends = ends }

cut : (session : ℤ) (r : Reap) (a : Option Answer) (n : ℕ) (q : Ask) (next : Reap) (e : TurnFault) → MayStepReaper r a → ReaperSteps r a (steps.Ask q) next → (xs ys : List Call) → Stands session r a n xs → Calls q (Err e) ys → Reaps session (Err e) (xs ++ ys)
cut session r a n q next turn.Failed may st xs ys s c = reaps-of session r a n (Err turn.Failed) xs (xs ++ ys) s may (q, next, st, ap (λ (l : List Call). xs ++ l) (one-of q c.0 (Err call.Failed) ys (came_failed c.0 c.2) c.1))
cut session r a n q next turn.Memory may st xs ys s c = reaps-of session r a n (Err turn.Memory) xs (xs ++ ys) s may (inr (q, next, st, ap (λ (l : List Call). xs ++ l) (one-of q c.0 (Err call.Memory) ys (came_memory c.0 c.2) c.1)))
cut session r a n q next turn.NoList may st xs ys s c = absurd (came_none c.0 c.2)
cut session r a n q next turn.Met may st xs ys s c = absurd (came_met c.0 c.2)

pub reap_cut : (session : ℤ) (r : Reap) (a : Option Answer) (n : ℕ) (q : Ask) (next : Reap) (e : TurnFault) (old mid new : LinkTold) → Makes (Stands session r a n) old mid → MayStepReaper r a → ReaperSteps r a (steps.Ask q) next → Makes (Calls q (Err e)) mid new → Makes (Reaps session (Err e)) old new
reap_cut session r a n q next e old mid new m may st c = made_then (Stands session r a n) (Calls q (Err e)) (Reaps session (Err e)) old mid new (cut session r a n q next e may st) m c

ended-with : (session : ℤ) (r : Reap) (a : Option Answer) (n : ℕ) (step : ReapStep) (over : Reap) (old new : LinkTold) → Makes (Stands session r a n) old new → MayStepReaper r a → ReaperSteps r a step over → WasThere step → Makes (Reaps session (Ok false)) old new
ended-with session r a n step over old new m may st there = made_as (Stands session r a n) (Reaps session (Ok false)) old new (λ cs s. reaps-of session r a n (Ok false) cs cs s may (refl, inl (step, over, st, there))) m

pub reap_ended : (session : ℤ) (r : Reap) (a : Option Answer) (n : ℕ) (zxid : ℤ) (over : Reap) (old new : LinkTold) → Makes (Stands session r a n) old new → MayStepReaper r a → ReaperSteps r a (steps.Reaped zxid) over → Makes (Reaps session (Ok false)) old new
reap_ended session r a n zxid over old new m may st = ended-with session r a n (steps.Reaped zxid) over old new m may st tt

pub reap_kept : (session : ℤ) (r : Reap) (a : Option Answer) (n : ℕ) (rev : ℤ) (over : Reap) (old new : LinkTold) → Makes (Stands session r a n) old new → MayStepReaper r a → ReaperSteps r a (steps.Kept rev) over → Makes (Reaps session (Ok false)) old new
reap_kept session r a n rev over old new m may st = ended-with session r a n (steps.Kept rev) over old new m may st tt

pub reap_gone : (session : ℤ) (r : Reap) (a : Option Answer) (n : ℕ) (rev : ℤ) (over : Reap) (old new : LinkTold) → Makes (Stands session r a n) old new → MayStepReaper r a → ReaperSteps r a (steps.Gone rev) over → Makes (Reaps session (Err turn.Met)) old new
reap_gone session r a n rev over old new m may st = made_as (Stands session r a n) (Reaps session (Err turn.Met)) old new (λ cs s. reaps-of session r a n (Err turn.Met) cs cs s may (refl, (rev, over, st))) m

pub reap_damaged : (session : ℤ) (r : Reap) (a : Option Answer) (n : ℕ) (key value : List ℕ) (old new : LinkTold) → Makes (Stands session r a n) old new → MayStepReaper r a → IsReapFault r a (Damaged key value) → Makes (Reaps session (Ok true)) old new
reap_damaged session r a n key value old new m may fault = made_as (Stands session r a n) (Reaps session (Ok true)) old new (λ cs s. reaps-of session r a n (Ok true) cs cs s may (refl, (key, value, fault))) m

pub reap_starved : (session : ℤ) (r : Reap) (a : Option Answer) (n : ℕ) (old new : LinkTold) → Makes (Stands session r a n) old new → MayStepReaper r a → Makes (Reaps session (Err turn.Memory)) old new
reap_starved session r a n old new m may = made_as (Stands session r a n) (Reaps session (Err turn.Memory)) old new (λ cs s. reaps-of session r a n (Err turn.Memory) cs cs s may (inl refl)) m

pub reap_left : (session : ℤ) (r : Reap) (a : Option Answer) (n : ℕ) (old new : LinkTold) → Makes (Stands session r a n) old new → MayStepReaper r a → n ≡ max_asks → Makes (Reaps session (Ok false)) old new
reap_left session r a n old new m may many = made_as (Stands session r a n) (Reaps session (Ok false)) old new (λ cs s. reaps-of session r a n (Ok false) cs cs s may (refl, inr (s.many ∙ many))) m
