-- The frames of a stream have the service's size.
use Rattle.std.proofs.Common.{ℕ, ◌≤◌, List, [], ◌∷◌, length}
use Rattle.std.specs.Prelude.{All}
use Rattle.std.proofs.lemmas.List.Elements.{All-nil, All-cons}
use Rattle.zk_jute.specs.Frames.{IsFrame}
use Rattle.zk_jute.specs.JuteValues.{Spelled}
use Rattle.zk_model.specs.Limits.{max_frame}

pub spelled-short : (frames : List (List ℕ)) (front : List ℕ) → Spelled IsFrame frames front → All (λ (f : List ℕ). length f ≤ max_frame) frames
spelled-short [] front h = All-nil _
spelled-short (f ∷ frames) front (first, rest, frame, more, is) = All-cons (λ (g : List ℕ). length g ≤ max_frame) f frames frame.2 (spelled-short frames rest more)
