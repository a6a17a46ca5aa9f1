-- Calls of a link, one after the other.
use Rattle.std.proofs.Common.{◌≡◌, ℕ, List, [], ◌∷◌, ◌++◌, refl, sym, ap, ◌∙◌, append_assoc, append-nil}
use Rattle.std.specs.Prelude.{Option, Some, None, Result}
use Rattle.ev_types.specs.declared.answer.Answer.{Answer}
use Rattle.ev_types.specs.declared.ask.Ask.{Ask}
use Rattle.ev_call.specs.Calls.{Call, failures_after, with_call}
use Rattle.ev_call.specs.declared.etcd.CallFault.{CallFault}
use Rattle.zs_reaper.specs.declared.calling.TurnFault.{TurnFault}
use Rattle.zs_reaper.specs.Calling.{Calls, LinkTold, Makes, failures_over, told_as, with_calls}

with_no_calls : (o : Option (List Call)) → o ≡ with_calls o []
with_no_calls None = refl
with_no_calls (Some all) = ap Some (sym (append-nil all))

with_one_call : (o : Option (List Call)) (q : Ask) (r : Result Answer CallFault) → with_call o q r ≡ with_calls o (record { ask = q; result = r } ∷ [])
with_one_call None q r = refl
with_one_call (Some all) q r = refl

with_more_calls : (o : Option (List Call)) (xs ys : List Call) → with_calls (with_calls o xs) ys ≡ with_calls o (xs ++ ys)
with_more_calls None xs ys = refl
with_more_calls (Some all) xs ys = ap Some (append_assoc all xs ys)

failures_more : (xs ys : List Call) (n : ℕ) → failures_over ys (failures_over xs n) ≡ failures_over (xs ++ ys) n
failures_more [] ys n = refl
failures_more (x ∷ xs) ys n = failures_more xs ys (failures_after x.result n)

pub no_calls : (P : List Call → Type 0) (t : LinkTold) → P [] → Makes P t t
no_calls P t p = record { calls = []; called = with_no_calls t.calls; counted = refl; made = p }

pub one_call : (q : Ask) (result : Result Answer TurnFault) (came : Result Answer CallFault) (old new : LinkTold) → new.calls ≡ with_call old.calls q came → new.failures ≡ failures_after came old.failures → result ≡ told_as came → Makes (Calls q result) old new
one_call q result came old new called counted is = record {
  calls = record { ask = q; result = came } ∷ [];
  called = called ∙ with_one_call old.calls q came;
  counted = counted;
  made = (came, refl, is);
}

-- the same calls, said otherwise
pub made_as : (P Q : List Call → Type 0) (old new : LinkTold) → ((cs : List Call) → P cs → Q cs) → Makes P old new → Makes Q old new
made_as P Q old new f m = record { calls = m.calls; called = m.called; counted = m.counted; made = f m.calls m.made }

-- calls, and then others
pub made_then : (P Q R : List Call → Type 0) (old mid new : LinkTold) → ((xs ys : List Call) → P xs → Q ys → R (xs ++ ys)) → Makes P old mid → Makes Q mid new → Makes R old new
made_then P Q R old mid new f m n = record {
  calls = m.calls ++ n.calls;
  called = n.called ∙ ap (λ (o : Option (List Call)). with_calls o n.calls) m.called ∙ with_more_calls old.calls m.calls n.calls;
  counted = n.counted ∙ ap (failures_over n.calls) m.counted ∙ failures_more m.calls n.calls old.failures;
  made = f m.calls n.calls m.made n.made;
}
