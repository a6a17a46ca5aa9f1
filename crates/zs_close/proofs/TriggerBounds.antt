-- What watches see of the end of a session is within a head's bounds.
use Rattle.std.proofs.Common.{◌≡◌, ◌*◌, ◌≤◌, length, List, [], ◌∷◌, Option, Some, None, refl, arith}
use Rattle.std.specs.Prelude.{All, IsTrue}
use Rattle.std.proofs.lemmas.List.{length-append}
use Rattle.std.proofs.lemmas.List.Elements.{All-nil, All-cons, All-head, All-tail, All-append}
use Rattle.zk_model.specs.declared.node.Trigger.{Trigger}
use Rattle.zk_model.specs.declared.node.Trigger.TheVariants.{Deleted, Children}
use Rattle.zk_model.specs.Paths.{is_path, parent}
use Rattle.zk_model.specs.Single.{removal, removal_under}
use Rattle.zk_model.proofs.ValidPaths.{parent-valid}
use Rattle.zx_base.specs.Maps.{Bytes}
use Rattle.zn_layout.specs.Records.{IsHeadRec}
use Rattle.zk_model.specs.Watches.{trigger_path}
use Rattle.zs_close.specs.Ending.{end_triggers}

abbrev IsOfPath : Trigger → Type 0
IsOfPath t = IsTrue (is_path (trigger_path t))

removal_few : (p : Bytes) (o : Option Bytes) → length (removal_under p o) ≤ 2
removal_few p None = omega arith
removal_few p (Some q) = omega arith

pub end_triggers-length : (ps : List Bytes) → length (end_triggers ps) ≤ 2 * length ps
end_triggers-length [] = omega arith
end_triggers-length (p ∷ ps) = omega (arith, length-append (removal p) (end_triggers ps), removal_few p (parent p), end_triggers-length ps)

removal_valid : (p : Bytes) (o : Option Bytes) → parent p ≡ o → IsTrue (is_path p) → All IsOfPath (removal_under p o)
removal_valid p None e valid = All-cons IsOfPath (Deleted p) [] valid (All-nil IsOfPath)
removal_valid p (Some q) e valid = All-cons IsOfPath (Deleted p) (Children q ∷ []) valid (All-cons IsOfPath (Children q) [] (parent-valid p q valid e).0 (All-nil IsOfPath))

pub end_triggers-valid : (ps : List Bytes) → All (λ p. IsTrue (is_path p)) ps → All (λ t. IsTrue (is_path (trigger_path t))) (end_triggers ps)
end_triggers-valid [] all = All-nil IsOfPath
end_triggers-valid (p ∷ ps) all =
    All-append IsOfPath (removal p) (end_triggers ps) (removal_valid p (parent p) refl (All-head (λ q. IsTrue (is_path q)) p ps all)) (end_triggers-valid ps (All-tail (λ q. IsTrue (is_path q)) p ps all))

pub end_triggers-within : (ps : List Bytes) → length ps ≤ 60 → All (λ p. IsTrue (is_path p)) ps → IsHeadRec (end_triggers ps)
end_triggers-within ps few all = record { count = omega (arith, end_triggers-length ps, few); valid = end_triggers-valid ps all }
