-- A request whose path isn't valid is answered by its form, and another by the tree.
use Rattle.std.proofs.Common.{◌≡◌, ℤ, Bool, true, false, Some, None, refl, sym, ap, ◌∙◌, subst}
use Rattle.std.specs.Prelude.{IsTrue, if◌then◌else◌}
use Rattle.zx_base.specs.Maps.{Bytes}
use Rattle.zx_base.proofs.Options.{none_some, some_is}
use Rattle.zk_model.specs.declared.reply.Reply.TheVariants as reply
use Rattle.zk_model.specs.declared.request.Request.{Request}
use Rattle.zk_model.specs.declared.request.Request.TheVariants as req
use Rattle.zk_model.specs.Codes.{bad_arguments}
use Rattle.zk_model.specs.Paths.{is_path}
use Rattle.zk_model.specs.Single.{form_refusal, path_refusal}
use Rattle.zk_model.specs.Watches.{no_watches}
use Rattle.zk_service.specs.Answers.{Told, told, told_of_path, told_refusal, plain_request}
use Rattle.zn_layout.specs.ReadingSteps.{IsPathOf}
use Rattle.zn_view.specs.declared.plan.Decision.{Decision}
use Rattle.zn_view.specs.declared.plan.Decision.TheVariants.{Answered}
use Rattle.zn_view.specs.Seen.{View}
use Rattle.zn_reads.specs.Deciding.{IsAnsweredBy, IsReadDecision}
use Rattle.zn_reads.specs.Wanting.{IsFormed}

-- ---- the form of each kind is that of its path

pub formed-exists : (text : Bytes) (watch : Bool) → IsFormed (req.Exists text watch) text
unfolding plain_request
formed-exists text watch = refl

pub formed-get_data : (text : Bytes) (watch : Bool) → IsFormed (req.GetData text watch) text
unfolding plain_request
formed-get_data text watch = refl

pub formed-get_acl : (text : Bytes) → IsFormed (req.GetAcl text) text
unfolding plain_request
formed-get_acl text = refl

pub formed-get_children : (text : Bytes) (watch : Bool) → IsFormed (req.GetChildren text watch) text
unfolding plain_request
formed-get_children text watch = refl

pub formed-get_children2 : (text : Bytes) (watch : Bool) → IsFormed (req.GetChildren2 text watch) text
unfolding plain_request
formed-get_children2 text watch = refl

pub formed-sync : (text : Bytes) → IsFormed (req.Sync text) text
unfolding plain_request
formed-sync text = refl

pub formed-check : (text : Bytes) (version : ℤ) → IsFormed (req.Check text version) text
unfolding plain_request form_refusal
formed-check text version = elim (is_path text) as (λ b. told_refusal no_watches (path_refusal b) ≡ (if b then None else told no_watches (reply.Refused bad_arguments))) [ true ↦ refl | false ↦ refl ]

-- ---- by the form

formed_true : (text : Bytes) → is_path text ≡ true → told_of_path no_watches text ≡ None
formed_true text h = ap (λ b. if b then None else told no_watches (reply.Refused bad_arguments)) h

formed_false : (text : Bytes) (b : Bool) → is_path text ≡ b → (IsTrue (is_path text) → ⊥) → told_of_path no_watches text ≡ told no_watches (reply.Refused bad_arguments)
formed_false text true h bad = absurd (bad h)
formed_false text false h bad = ap (λ b. if b then None else told no_watches (reply.Refused bad_arguments)) h

valid_decided : (r : Request) (text : Bytes) (v : View) (d : Decision) → IsFormed r text → is_path text ≡ true → IsAnsweredBy r v d → IsReadDecision r v d
valid_decided r text v d formed valid decided = record {
  by_form = λ t h. absurd (none_some (sym (formed ∙ formed_true text valid) ∙ h));
  decided = decided.1;
  answered = decided.0;
}

bad_decided : (r : Request) (text : Bytes) (v : View) → IsFormed r text → (IsTrue (is_path text) → ⊥) → IsReadDecision r v (Answered (reply.Refused bad_arguments) None)
bad_decided r text v formed bad =
    let plain : plain_request no_watches r ≡ told no_watches (reply.Refused bad_arguments) = formed ∙ formed_false text (is_path text) refl bad in record {
      by_form = λ t h. ap (λ (x : Told). Answered x.reply None) (some_is (sym plain ∙ h));
      decided = λ who whole s sound valid of none limit session. absurd (none_some (sym none ∙ plain));
      answered = tt;
    }

-- ---- as the path was read

pub path-decided : (make : Bytes → Request) (text p : Bytes) (v : View) (d : Decision) → IsFormed (make text) text → IsPathOf text (Some p) → IsAnsweredBy (make p) v d → IsReadDecision (make text) v d
path-decided make text p v d formed path decided =
    valid_decided (make text) text v d formed (subst (λ (q : Bytes). IsTrue (is_path q)) path.0 path.1) (subst (λ (q : Bytes). IsAnsweredBy (make q) v d) path.0 decided)

pub no_path-decided : (make : Bytes → Request) (text : Bytes) (v : View) (d : Decision) → IsFormed (make text) text → IsPathOf text None → d ≡ Answered (reply.Refused bad_arguments) None → IsReadDecision (make text) v d
no_path-decided make text v d formed bad is = subst (λ (x : Decision). IsReadDecision (make text) v x) (sym is) (bad_decided (make text) text v formed bad)
