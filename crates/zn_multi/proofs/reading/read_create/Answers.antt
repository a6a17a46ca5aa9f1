use Rattle.std.proofs.Common.{◌≡◌, ◌∙◌, ℤ, Bool, true, [], sym, ap, subst, w32, w64, rules}
use Rattle.std.specs.Prelude.{Option}
use Rattle.std.proofs.lemmas.Int.{to_z-of_z}
use Rattle.std.proofs.lemmas.Result.{IfOk-weaker}
use mir.Val.{SFits}
use Rattle.zk_model.specs.declared.request.Part.TheVariants as parts
use Rattle.zk_model.specs.PathFaults.{is_valid, tested}
use Rattle.zk_model.specs.Paths.{parent}
use Rattle.zk_model.specs.Single.{is_ephemeral, is_sequential, named}
use Rattle.zx_base.specs.Maps.{Bytes}
use Rattle.zn_updates.proofs.CreateClauses.{form_at}
use Rattle.zn_updates.proofs.Forms.{create_path_valid}
use Rattle.zn_multi.specs.Reading.{IsCreateRead, IsReadBy, Left}
use Rattle.zn_multi.proofs.ReadKeys.{formed_read, refused_read}
use Rattle.zn_multi.proofs.reading.read_create.Goals as goal

pub read_named-requires-clause-prefix : goal.read_named-requires-clause-prefix
read_named-requires-clause-prefix c =
    let fits : SFits w32 c.args.flags = search rules in
    let flags = to_z-of_z w32 _ fits in
    let sequential : c.is_sequential.result ≡ is_sequential c.args.flags = c.is_sequential.ensures ∙ ap is_sequential flags in
    let form = form_at c.args.path.now c.args.acl.now c.args.flags _ _ _ flags c.in-Valid.is c.in_ok-named.ensures [] in
    let valid = create_path_valid c.args.path.now [] c.args.acl.now c.args.flags form.1 in
    λ t. subst (λ b. is_valid b c.args.path.now ≡ true) (sym sequential ∙ t) valid

pub read_named-requires-clause-named : goal.read_named-requires-clause-named
read_named-requires-clause-named c =
    let fits : SFits w32 c.args.flags = search rules in
    let flags = to_z-of_z w32 _ fits in
    let sequential : c.is_sequential.result ≡ is_sequential c.args.flags = c.is_sequential.ensures ∙ ap is_sequential flags in
    let form = form_at c.args.path.now c.args.acl.now c.args.flags _ _ _ flags c.in-Valid.is c.in_ok-named.ensures [] in
    λ f. form.0 ∙ ap (λ b. tested b c.args.path.now) (sym sequential ∙ f)

pub returns-in-Valid : goal.returns-in-Valid
returns-in-Valid c =
    let fits : SFits w32 c.args.flags = search rules in
    let flags = to_z-of_z w32 _ fits in
    let sequential : c.is_sequential.result ≡ is_sequential c.args.flags = c.is_sequential.ensures ∙ ap is_sequential flags in
    let ephemeral : c.is_ephemeral.result ≡ is_ephemeral c.args.flags = c.is_ephemeral.ensures ∙ ap is_ephemeral flags in
    let session_fits : SFits w64 c.args.session = search rules in
    let session = to_z-of_z w64 _ session_fits in
    IfOk-weaker c.read_named.result _ _ (λ r is. λ content.
    let form = form_at c.args.path.now c.args.acl.now c.args.flags _ _ _ flags c.in-Valid.is c.in_ok-named.ensures content in
    let up : parent c.in-Valid.named ≡ parent (named c.args.flags c.args.path.now) = ap parent form.0 in record {
      own = is.0;
      keys = is.1;
      read = formed_read c.args.session c.args.view.now c.args.left (parts.Create c.args.path.now content c.args.acl.now c.args.flags) is.0 r.left form.1
          (subst (λ (t : ℤ × Bool × Bool × Option Bytes). IsCreateRead t.0 c.args.view.now c.args.left c.args.path.now t.1 t.2 t.3 is.0 r.left) (λ i. (session i, sequential i, ephemeral i, up i)) is.2);
    }) c.read_named.ensures

pub returns-in-Refused : goal.returns-in-Refused
returns-in-Refused c = λ content.
    let fits : SFits w32 c.args.flags = search rules in
    let form = form_at c.args.path.now c.args.acl.now c.args.flags _ _ _ (to_z-of_z w32 _ fits) c.in-Refused.is c.in_ok-named.ensures content in record {
      own = [];
      keys = c.nothing_read.ensures.keys;
      read = subst (λ (n : Left). IsReadBy c.args.session c.args.view.now c.args.left (parts.Create c.args.path.now content c.args.acl.now c.args.flags) [] n) (sym c.nothing_read.ensures.left)
          (refused_read c.args.session c.args.view.now c.args.left (parts.Create c.args.path.now content c.args.acl.now c.args.flags) c.in-Refused.field-0 form);
    }
