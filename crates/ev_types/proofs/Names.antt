-- Two names tie in the order of bytes exactly where they are the same.
use Rattle.std.proofs.Common.{◌≡◌, Bool, true, false, refl, sym, ap, ◌∙◌, subst}
use Rattle.std.specs.BTreeMap.{is_at}
use Rattle.std.specs.Ordering.{nat_cmp, is_eq}
use Rattle.std.specs.Cmp.Lexicographic.{slice_cmp, nat_list_cmp_total}
use Rattle.std.proofs.lemmas.Cmp.{tied_itself}
use Rattle.std.proofs.lemmas.Map.Lookups.{exact_bytes}
use Rattle.zx_base.specs.Maps.{Bytes, same}
use Rattle.zx_base.proofs.MapLaws.{same-true, apart-from_same}
use Rattle.zx_base.proofs.Orders.{equal-from_is_eq}

by-test : (k q : Bytes) (b : Bool) → same k q ≡ b → (t : Bool) → is_at (slice_cmp nat_cmp k) q ≡ t → t ≡ b
by-test k q true e true t = refl
by-test k q true e false t = sym t ∙ subst (λ (x : Bytes). is_at (slice_cmp nat_cmp k) x ≡ true) (same-true k q e) (ap is_eq (tied_itself nat_list_cmp_total k))
by-test k q false e true t = absurd (apart-from_same k q e (exact_bytes k q (equal-from_is_eq _ t)))
by-test k q false e false t = refl

pub names-tie : (k q : Bytes) → is_at (slice_cmp nat_cmp k) q ≡ same k q
names-tie k q = by-test k q (same k q) refl (is_at (slice_cmp nat_cmp k) q) refl
