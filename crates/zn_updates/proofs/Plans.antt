-- The parts of a plan are those of its choice, and what a refusal by the form is worth.
use Rattle.std.proofs.Common.{◌≡◌, ℤ, true, List, [], ◌∷◌, ◌++◌, Option, Some, None, refl, sym, ap, ◌∙◌}
use Rattle.ev_types.specs.declared.ask.Act.{Act}
use Rattle.ev_types.specs.Reads.{read_key}
use Rattle.zk_model.specs.declared.reply.Reply.TheVariants as reply
use Rattle.zk_model.specs.declared.request.Request.{Request}
use Rattle.zk_model.specs.Watches.{no_watches}
use Rattle.zk_service.specs.Answers.{Told, plain_request, told_refusal}
use Rattle.zk_service.specs.States.{response_of}
use Rattle.zn_layout.specs.Changes.{KeyChange, act_of, acts_of, head_put, update_acts}
use Rattle.zn_layout.specs.Keys.{HeadKey, key_bytes}
use Rattle.zn_view.specs.declared.plan.Decision.{Decision}
use Rattle.zn_view.specs.declared.plan.Decision.TheVariants.{Answered, Planned}
use Rattle.zn_view.specs.declared.plan.Plan.{Plan}
use Rattle.zn_view.specs.declared.plan.Who.{Who}
use Rattle.zn_view.specs.declared.want.Want.{Want}
use Rattle.zn_view.specs.Asks.{again_of, guards_of}
use Rattle.zn_view.specs.Needs.{AreNeeds}
use Rattle.zn_view.specs.Seen.{View}
use Rattle.zn_view.proofs.Wanted.{no-needs}
use Rattle.zn_updates.specs.declared.chosen.Chosen.TheVariants.{Refused, Made}
use Rattle.zn_updates.specs.declared.chosen.Update.{Update}
use Rattle.zn_updates.specs.Choices.{Choice, Refuse, Make}
use Rattle.zn_view.specs.Deciding.{IsToldByForm, is_by_tree}
use Rattle.zn_updates.specs.Deciding.{IsBySound, decision_of}
use Rattle.zn_updates.specs.Making.{chosen_of}

acts_push : (cs : List KeyChange) (c : KeyChange) → acts_of (cs ++ c ∷ []) ≡ acts_of cs ++ act_of c ∷ []
acts_push [] c = refl
acts_push (d ∷ ds) c = ap (λ (l : List Act). act_of d ∷ l) (acts_push ds c)

made_not_refused : (u : Update) (code : ℤ) → Made u ≡ Refused code → ⊥
made_not_refused u code e = cc

made_same : (u w : Update) → Made u ≡ Made w → u ≡ w
made_same u w e = cc

pub planned_of : (v : View) (u : Update) (p : Plan) (choice : Choice) → Made u ≡ chosen_of choice → p.guards ≡ guards_of v.keys
    → p.success ≡ (u.acts ++ act_of (head_put u.triggers) ∷ []) ++ read_key (key_bytes HeadKey) ∷ [] → p.again ≡ again_of v.keys → p.draft ≡ reply.Good (response_of u.draft) → p.triggers ≡ u.triggers
    → Planned p ≡ decision_of v choice
planned_of v u p (Refuse code) is guards success again draft triggers = absurd (made_not_refused u code is)
planned_of v u p (Make cs ts result) is guards success again draft triggers =
    let same : u ≡ record { acts = acts_of cs; triggers = ts; draft = result } = made_same u _ is in
    let acts : p.success ≡ update_acts cs ts =
    success ∙ ap (λ (w : Update). (w.acts ++ act_of (head_put w.triggers) ∷ []) ++ read_key (key_bytes HeadKey) ∷ []) same ∙ ap (λ (l : List Act). l ++ read_key (key_bytes HeadKey) ∷ []) (sym (acts_push cs (head_put ts))) in
    λ i. Planned (record {
      guards = guards i;
      success = acts i;
      again = again i;
      draft = (draft ∙ ap (λ (w : Update). reply.Good (response_of w.draft)) same) i;
      triggers = (triggers ∙ ap (λ (w : Update). w.triggers) same) i;
    })

-- ---- a choice does not look at the session

pub choice-by_tree : (v : View) (choice : Choice) (d : Decision) → d ≡ decision_of v choice → is_by_tree d ≡ true
choice-by_tree v (Refuse code) d is = ap is_by_tree is
choice-by_tree v (Make cs ts draft) d is = ap is_by_tree is

-- ---- where the form refuses

module _ (r : Request) (code : ℤ) (plain : plain_request no_watches r ≡ told_refusal no_watches (Some code)) where
  reply_is : (o : Option Told) (t : Told) → o ≡ told_refusal no_watches (Some code) → o ≡ Some t → reply.Refused code ≡ t.reply
  reply_is None t e f = absurd (cc)
  reply_is (Some x) t e f = let a : x ≡ record { reply = reply.Refused code; notices = []; watches = no_watches } = cc in let b : x ≡ t = cc in ap (λ (y : Told). y.reply) (sym a ∙ b)

  pub refused_form : (d : Decision) → d ≡ Answered (reply.Refused code) None → IsToldByForm r d
  refused_form d is t e = is ∙ ap (λ x. Answered x None) (reply_is (plain_request no_watches r) t plain e)

  not_none : (o : Option Told) → o ≡ told_refusal no_watches (Some code) → o ≡ None → ⊥
  not_none None e f = cc
  not_none (Some x) e f = cc

  pub refused_sound : (who : Who) (v : View) (d : Decision) → IsBySound r who v d
  refused_sound who v d none = absurd (not_none (plain_request no_watches r) plain none)

  pub refused_needs : (who : Who) (v : View) (ws : List Want) → ws ≡ [] → AreNeeds r who v ws
  refused_needs who v ws is = no-needs r who v _ ws is plain
