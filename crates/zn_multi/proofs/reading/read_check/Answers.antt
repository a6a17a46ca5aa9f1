use Rattle.std.proofs.Common.{◌≤◌, ◌∙◌, true, false, length, [], ◌∷◌, refl, sym, ap, subst, ℤ, rules, w32}
use Rattle.std.specs.Prelude.{Option, map}
use Rattle.std.proofs.lemmas.Int.{to_z-of_z}
use mir.Val.{SFits}
use Rattle.std.proofs.lemmas.Result.{IfOk-weaker}
use Rattle.zk_model.specs.declared.request.Part.TheVariants as parts
use Rattle.zk_model.specs.Codes.{bad_arguments}
use Rattle.zk_model.specs.Limits.{max_path}
use Rattle.zx_base.specs.Maps.{Bytes}
use Rattle.zn_layout.specs.Keys.{DataKey, key_bytes}
use Rattle.zn_layout.proofs.Paths.{path_short}
use Rattle.zn_view.specs.Leaving.{CheckLeaves}
use Rattle.zk_model.specs.PathFaults.{IsPathOf}
use Rattle.zn_updates.proofs.PartChoices.{check_refusal}
use Rattle.zn_multi.specs.Reading.{IfLeft, IsReadBy, Left}
use Rattle.zn_multi.proofs.ReadKeys.{formed_read, refused_read}
use Rattle.zn_multi.proofs.reading.read_check.Goals as goal

pub read_data-requires-clause-short : goal.read_data-requires-clause-short
read_data-requires-clause-short c =
    let path = subst (λ (o : Option Bytes). IsPathOf false c.args.path.now o) c.in-Some.is c.in_ok-path.ensures in
    subst (λ (p : Bytes). length p ≤ max_path) (sym path.0) (path_short c.args.path.now path.1)

pub returns-in-Some : goal.returns-in-Some
returns-in-Some c =
    let path = subst (λ (o : Option Bytes). IsPathOf false c.args.path.now o) c.in-Some.is c.in_ok-path.ensures in
    let fits : SFits w32 c.args.version = search rules in
    let version = to_z-of_z w32 _ fits in
    IfOk-weaker c.read_data.result _ _ (λ r is. λ id. record {
      own = DataKey c.args.path.now ∷ [];
      keys = is.0 ∙ ap (λ (p : Bytes). map key_bytes (DataKey p ∷ [])) path.0;
      read = formed_read id c.args.view.now c.args.left (parts.Check c.args.path.now c.args.version) (DataKey c.args.path.now ∷ []) r.left (check_refusal c.args.path.now c.args.version true path.1)
          (refl, subst (λ (t : Bytes × ℤ). IfLeft c.args.left (λ changes n. CheckLeaves c.args.view.now changes t.0 t.1 n) r.left) (λ i. (path.0 i, version i)) is.1);
    }) c.read_data.ensures

pub returns-in-None : goal.returns-in-None
returns-in-None c = λ id.
    let invalid = subst (λ (o : Option Bytes). IsPathOf false c.args.path.now o) c.in-None.is c.in_ok-path.ensures in record {
      own = [];
      keys = c.nothing_read.ensures.keys;
      read = subst (λ (n : Left). IsReadBy id c.args.view.now c.args.left (parts.Check c.args.path.now c.args.version) [] n) (sym c.nothing_read.ensures.left)
          (refused_read id c.args.view.now c.args.left (parts.Check c.args.path.now c.args.version) bad_arguments (check_refusal c.args.path.now c.args.version false invalid));
    }
