-- The number of a session's update, as its transaction's answer shows it.
use Rattle.std.proofs.Common.{◌≡◌, ℤ, pos, true, List, [], ◌∷◌, ◌++◌, Some, refl, ap, ◌∙◌}
use Rattle.ev_types.specs.declared.answer.ActAns.{ActAns}
use Rattle.ev_types.specs.declared.answer.Answer.TheVariants as answer
use Rattle.ev_types.specs.declared.ask.Ask.TheVariants as ask
use Rattle.ev_types.specs.declared.ask.Guard.{Guard}
use Rattle.ev_types.specs.Denials.{carry}
use Rattle.ev_types.specs.Store.{Store, present}
use Rattle.zk_model.specs.declared.reply.Body.TheVariants as body
use Rattle.zk_model.specs.declared.reply.Reply.TheVariants as reply
use Rattle.zk_service.specs.States.{State}
use Rattle.zn_layout.specs.Changes.{KeyChange, acts_of, head_put, update_acts}
use Rattle.zn_layout.specs.StandsFor.{StandsFor}
use Rattle.zn_layout.specs.Updates.{update_txn}
use Rattle.zn_layout.proofs.Lookups.{head_found}
use Rattle.zn_view.specs.declared.plan.Plan.{Plan}
use Rattle.zn_view.specs.declared.want.Want.{Want}
use Rattle.zn_view.specs.Asks.{ranges_of}
use Rattle.zn_view.specs.Seen.{head_number}
use Rattle.zn_view.proofs.Showing.{carried-out}
use Rattle.zs_session.specs.Connecting.{number_shown}

-- a transaction of a session as a plan, of which only the operations count here
abbrev as_plan : List Guard → List KeyChange → List Want → Plan
as_plan guards cs again = record { guards = guards; success = update_acts cs []; again = again; draft = reply.Good body.Empty; triggers = [] }

pub number-welcomed : (guards : List Guard) (cs : List KeyChange) (again : List Want) (s new : Store) (z : ℤ) (parts : List ActAns) (t : State)
    → carry s (ask.Txn (update_txn guards cs [] (ranges_of (pos 0) again))) ≡ Some (new, answer.Txn z true parts) → StandsFor (present new) t → number_shown parts ≡ pos t.updates
number-welcomed guards cs again s new z parts t e stands =
    let out = carried-out s new (as_plan guards cs again) z parts (acts_of (cs ++ head_put [] ∷ []), refl) e in
    let head = head_found (present new) t stands in
    ap head_number (out.head ∙ head.there) ∙ (head.is).number
