-- Writes that took some front of what there was to write.
use Rattle.std.proofs.Common.{ℕ, List, ◌++◌, take, drop, sym, ap, ◌∙◌, append_assoc}
use Rattle.std.specs.Prelude.{Option}
use Rattle.std.proofs.lemmas.List.{take-append-drop}
use Rattle.zx_outside.specs.Writing.{Takes, TakesFront}
use Rattle.zx_outside.proofs.Streams.{Takes-append}
use Rattle.zetcd_cmd.specs.Outcomes.{TakesSome}

pub TakesSome-front : (whole : List ℕ) (taken taken' : Option (List ℕ)) → TakesFront whole taken taken' → TakesSome whole taken taken'
TakesSome-front whole taken taken' front = (take front.0 whole, drop front.0 whole, sym (take-append-drop front.0 whole), front.2)

-- all of what stands before, and then some
pub TakesSome-after : (first second : List ℕ) (taken taken' taken'' : Option (List ℕ)) → Takes first taken taken' → TakesSome second taken' taken'' → TakesSome (first ++ second) taken taken''
TakesSome-after first second taken taken' taken'' takes some = (
  first ++ some.0,
  some.1,
  ap (λ t. first ++ t) some.2 ∙ sym (append_assoc first some.0 some.1),
  Takes-append first some.0 taken taken' taken'' takes some.3,
)

-- with more to come
pub TakesSome-more : (whole more : List ℕ) (taken taken' : Option (List ℕ)) → TakesSome whole taken taken' → TakesSome (whole ++ more) taken taken'
TakesSome-more whole more taken taken' some = (some.0, some.1 ++ more, ap (λ t. t ++ more) some.2 ∙ append_assoc some.0 some.1 more, some.3)
