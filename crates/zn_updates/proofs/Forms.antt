-- The refusal of a request by its form, from the tests that were made.
use Rattle.std.proofs.Common.{◌≡◌, ℤ, Bool, true, false, cond, List, Option, Some, None, refl, sym, ap, ◌∙◌}
use Rattle.std.specs.Prelude.{not, ◌&&◌}
use Rattle.zk_model.specs.declared.request.Acl.{Acl}
use Rattle.zk_model.specs.declared.request.Part.TheVariants.{Create, Delete, SetData}
use Rattle.zk_model.specs.Access.{is_open_acl}
use Rattle.zk_model.specs.Codes.{bad_arguments, invalid_acl}
use Rattle.zk_model.specs.PathFaults.{is_valid}
use Rattle.zk_model.specs.Paths.{is_path, root}
use Rattle.zk_model.specs.Single.{form_refusal, is_create_mode, is_sequential, or_else, path_refusal}
use Rattle.zx_base.specs.Maps.{Bytes, same}

pub create_refusal : (p content : Bytes) (acl : List Acl) (flags : ℤ) (valid mode allowed : Bool) → is_valid (is_sequential flags) p ≡ valid → is_create_mode flags ≡ mode → is_open_acl acl ≡ allowed →
    form_refusal (Create p content acl flags) ≡ or_else (path_refusal valid) (cond (not mode) (Some bad_arguments) (cond (not allowed) (Some invalid_acl) None))
unfolding form_refusal
create_refusal p content acl flags valid mode allowed a b c = λ i. or_else (path_refusal (a i)) (cond (not (b i)) (Some bad_arguments) (cond (not (c i)) (Some invalid_acl) None))

pub invalid_refusal : (p content : Bytes) (acl : List Acl) (flags : ℤ) → is_valid (is_sequential flags) p ≡ false → form_refusal (Create p content acl flags) ≡ Some bad_arguments
invalid_refusal p content acl flags h = create_refusal p content acl flags false _ _ h refl refl

pub delete_refusal : (p : Bytes) (version : ℤ) (valid : Bool) → (is_path p && not (same p root)) ≡ valid → form_refusal (Delete p version) ≡ path_refusal valid
unfolding form_refusal
delete_refusal p version valid h = ap path_refusal h

pub set_refusal : (p content : Bytes) (version : ℤ) (valid : Bool) → is_path p ≡ valid → form_refusal (SetData p content version) ≡ path_refusal valid
unfolding form_refusal
set_refusal p content version valid h = ap path_refusal h

valid_at : (b : Bool) (o : Option ℤ) → or_else (path_refusal b) o ≡ None → b ≡ true
valid_at true o h = refl
valid_at false o h = absurd (cc)

-- a create that its form doesn't refuse has a valid path
pub create_path_valid : (p content : Bytes) (acl : List Acl) (flags : ℤ) → form_refusal (Create p content acl flags) ≡ None → is_valid (is_sequential flags) p ≡ true
create_path_valid p content acl flags h = valid_at (is_valid (is_sequential flags) p) _ (sym (create_refusal p content acl flags _ _ _ refl refl refl) ∙ h)
