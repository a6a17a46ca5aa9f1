-- What the call of one list comes to.
use Rattle.std.proofs.Common.{◌≡◌, ℕ, List, [], ◌∷◌, refl, sym, ap, ◌∙◌, inl, inr}
use Rattle.std.specs.Prelude.{Result, Ok, Err}
use Rattle.ev_types.specs.declared.answer.Answer.{Answer}
use Rattle.ev_types.specs.declared.ask.Ask.{Ask}
use Rattle.ev_call.specs.Calls.{Call}
use Rattle.ev_call.specs.declared.etcd.CallFault.{CallFault}
use Rattle.ev_call.specs.declared.etcd.CallFault.TheVariants as call
use Rattle.zs_reaper.specs.declared.calling.TurnFault.{TurnFault}
use Rattle.zs_reaper.specs.declared.calling.TurnFault.TheVariants as turn
use Rattle.zs_reaper.specs.declared.listing.Listed.{Listed}
use Rattle.zs_reaper.specs.Calling.{Calls, LinkTold, Makes, told_as}
use Rattle.zs_reaper.specs.Listing.{Lists, Shows, list_ask}
use Rattle.zs_reaper.proofs.Making.{made_as, no_calls}

-- ---- what a call was told as

abbrev failed : Result Answer TurnFault
failed = Err turn.Failed

abbrev starved : Result Answer TurnFault
starved = Err turn.Memory

abbrev unlisted : Result Answer TurnFault
unlisted = Err turn.NoList

abbrev call-failed : Result Answer CallFault
call-failed = Err call.Failed

abbrev call-starved : Result Answer CallFault
call-starved = Err call.Memory

ok-failed : (a : Answer) (e : TurnFault) → Ok a ≡ Err e → ⊥
ok-failed a e is = cc

failed-memory : failed ≡ starved → ⊥
failed-memory is = cc

none-failed : unlisted ≡ failed → ⊥
none-failed is = cc

none-memory : unlisted ≡ starved → ⊥
none-memory is = cc

abbrev met : Result Answer TurnFault
met = Err turn.Met

met-failed : met ≡ failed → ⊥
met-failed is = cc

met-memory : met ≡ starved → ⊥
met-memory is = cc

call-differs : call-starved ≡ call-failed → ⊥
call-differs is = cc

call-ok : (a : Answer) → Ok a ≡ call-failed → ⊥
call-ok a is = cc

same-ok : (a b : Answer) (x y : Result Answer TurnFault) → x ≡ Ok a → y ≡ Ok b → x ≡ y → a ≡ b
same-ok a b x y e f g = cc

pub came_ok : (a : Answer) (came : Result Answer CallFault) → Ok a ≡ told_as came → came ≡ Ok a
came_ok a (Ok b) is = ap Ok (sym (same-ok a b (Ok a) (Ok b) refl refl is))
came_ok a (Err call.Failed) is = absurd (ok-failed a turn.Failed is)
came_ok a (Err call.Memory) is = absurd (ok-failed a turn.Memory is)

pub came_failed : (came : Result Answer CallFault) → Err turn.Failed ≡ told_as came → came ≡ Err call.Failed
came_failed (Ok a) is = absurd (ok-failed a turn.Failed (sym is))
came_failed (Err call.Failed) is = refl
came_failed (Err call.Memory) is = absurd (failed-memory is)

pub came_memory : (came : Result Answer CallFault) → Err turn.Memory ≡ told_as came → came ≡ Err call.Memory
came_memory (Ok a) is = absurd (ok-failed a turn.Memory (sym is))
came_memory (Err call.Failed) is = absurd (failed-memory (sym is))
came_memory (Err call.Memory) is = refl

pub came_none : (came : Result Answer CallFault) → Err turn.NoList ≡ told_as came → ⊥
came_none (Ok a) is = ok-failed a turn.NoList (sym is)
came_none (Err call.Failed) is = none-failed is
came_none (Err call.Memory) is = none-memory is

pub came_met : (came : Result Answer CallFault) → Err turn.Met ≡ told_as came → ⊥
came_met (Ok a) is = ok-failed a turn.Met (sym is)
came_met (Err call.Failed) is = met-failed is
came_met (Err call.Memory) is = met-memory is

pub one_is : (q p : Ask) (came was : Result Answer CallFault) (cs : List Call) → q ≡ p → came ≡ was → cs ≡ record { ask = q; result = came } ∷ [] → cs ≡ record { ask = p; result = was } ∷ []
one_is q p came was cs asked is one = one ∙ ap (λ (a : Ask). record { ask = a; result = came } ∷ []) asked ∙ ap (λ (r : Result Answer CallFault). record { ask = p; result = r } ∷ []) is

-- ---- one list

answered : (from end : List ℕ) (a : Answer) (result : Result Listed TurnFault) (cs : List Call) → cs ≡ record { ask = list_ask from end; result = Ok a } ∷ [] → Shows a result → Lists from end result cs
answered from end a (Ok listed) cs one shows = (a, one, shows)
answered from end a (Err turn.NoList) cs one shows = (a, one, shows)
answered from end a (Err turn.Failed) cs one shows = absurd shows
answered from end a (Err turn.Memory) cs one shows = inr (Ok a, one, call-ok a)
answered from end a (Err turn.Met) cs one shows = absurd shows

unanswered : (from end : List ℕ) (q : Ask) (e : TurnFault) (cs : List Call) → q ≡ list_ask from end → Calls q (Err e) cs → Lists from end (Err e) cs
unanswered from end q turn.Failed cs asked c = one_is q (list_ask from end) c.0 (Err call.Failed) cs asked (came_failed c.0 c.2) c.1
unanswered from end q turn.Memory cs asked c = inr (Err call.Memory, one_is q (list_ask from end) c.0 (Err call.Memory) cs asked (came_memory c.0 c.2) c.1, call-differs)
unanswered from end q turn.NoList cs asked c = absurd (came_none c.0 c.2)
unanswered from end q turn.Met cs asked c = absurd (came_met c.0 c.2)

pub list_none : (from end : List ℕ) (t : LinkTold) → Makes (Lists from end (Err turn.Memory)) t t
list_none from end t = no_calls (Lists from end (Err turn.Memory)) t (inl refl)

pub list_shown : (from end : List ℕ) (q : Ask) (a : Answer) (result : Result Listed TurnFault) (old new : LinkTold) → q ≡ list_ask from end → Makes (Calls q (Ok a)) old new → Shows a result → Makes (Lists from end result) old new
list_shown from end q a result old new asked m shows =
    made_as (Calls q (Ok a)) (Lists from end result) old new (λ cs c. answered from end a result cs (one_is q (list_ask from end) c.0 (Ok a) cs asked (came_ok a c.0 c.2) c.1) shows) m

pub list_failed : (from end : List ℕ) (q : Ask) (e : TurnFault) (old new : LinkTold) → q ≡ list_ask from end → Makes (Calls q (Err e)) old new → Makes (Lists from end (Err e)) old new
list_failed from end q e old new asked m = made_as (Calls q (Err e)) (Lists from end (Err e)) old new (λ cs. unanswered from end q e cs asked) m
