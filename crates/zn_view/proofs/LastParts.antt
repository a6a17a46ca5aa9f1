-- What the last part of an answer found.
use Rattle.std.proofs.Common.{◌≡◌, refl, sym, List, [], ◌∷◌}
use Rattle.ev_types.specs.declared.answer.ActAns.{ActAns}
use Rattle.ev_types.specs.declared.answer.Kv.{Kv}
use Rattle.zn_view.specs.Asks.{found_in, last_part}

-- what the last of these parts found; if there is none, what was found before
abbrev pub last_from : List Kv → List ActAns → List Kv
last_from found [] = found
last_from found (a ∷ more) = last_from (found_in a) more

last_after : (a : ActAns) (more : List ActAns) → last_part (a ∷ more) ≡ last_from (found_in a) more
last_after a [] = refl
last_after a (b ∷ more) = last_after b more

pub last_from-none : (parts : List ActAns) → last_from [] parts ≡ last_part parts
last_from-none [] = refl
last_from-none (a ∷ more) = sym (last_after a more)
