use Rattle.std.proofs.Common.{◌≤◌, true, false, length, [], sym, subst, ℤ, rules, w32}
use Rattle.std.specs.Prelude.{Option}
use Rattle.std.proofs.lemmas.Bool.{and_parts}
use Rattle.std.proofs.lemmas.Int.{to_z-of_z}
use mir.Val.{SFits}
use Rattle.std.proofs.lemmas.Result.{IfOk-weaker}
use Rattle.zk_model.specs.declared.request.Part.TheVariants as parts
use Rattle.zk_model.specs.Codes.{bad_arguments}
use Rattle.zk_model.specs.Limits.{max_path}
use Rattle.zx_base.specs.Maps.{Bytes}
use Rattle.zn_layout.proofs.Paths.{path_short}
use Rattle.zn_updates.specs.Forms.{IsInnerPath}
use Rattle.zn_updates.proofs.Forms.{delete_refusal}
use Rattle.zn_multi.specs.Reading.{IsDeleteRead, IsReadBy, Left}
use Rattle.zn_multi.proofs.ReadKeys.{formed_read, refused_read}
use Rattle.zn_multi.proofs.reading.read_delete.Goals as goal

pub read_removal-requires-clause-short : goal.read_removal-requires-clause-short
read_removal-requires-clause-short c =
    let path = subst (λ (o : Option Bytes). IsInnerPath c.args.path.now o) c.in-Some.is c.in_ok-path.ensures in
    subst (λ (p : Bytes). length p ≤ max_path) (sym path.0) (path_short c.args.path.now (and_parts _ _ path.1).0)

pub returns-in-Some : goal.returns-in-Some
returns-in-Some c =
    let path = subst (λ (o : Option Bytes). IsInnerPath c.args.path.now o) c.in-Some.is c.in_ok-path.ensures in
    let fits : SFits w32 c.args.version = search rules in
    let version = to_z-of_z w32 _ fits in
    IfOk-weaker c.read_removal.result _ _ (λ r is. λ id. record {
      own = is.0;
      keys = is.1;
      read = formed_read id c.args.view.now c.args.left (parts.Delete c.args.path.now c.args.version) is.0 r.left (delete_refusal c.args.path.now c.args.version true path.1)
          (subst (λ (t : Bytes × ℤ). IsDeleteRead c.args.view.now c.args.left t.0 t.1 is.0 r.left) (λ i. (path.0 i, version i)) is.2);
    }) c.read_removal.ensures

pub returns-in-None : goal.returns-in-None
returns-in-None c = λ id.
    let invalid = subst (λ (o : Option Bytes). IsInnerPath c.args.path.now o) c.in-None.is c.in_ok-path.ensures in record {
      own = [];
      keys = c.nothing_read.ensures.keys;
      read = subst (λ (n : Left). IsReadBy id c.args.view.now c.args.left (parts.Delete c.args.path.now c.args.version) [] n) (sym c.nothing_read.ensures.left)
          (refused_read id c.args.view.now c.args.left (parts.Delete c.args.path.now c.args.version) bad_arguments (delete_refusal c.args.path.now c.args.version false invalid));
    }
