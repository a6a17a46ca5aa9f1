-- A new hub stands where the updates do.
use Rattle.std.proofs.Common.{◌≡◌, refl, sym, subst, arith}
use Rattle.std.proofs.lemmas.Int.{ints}
use Rattle.zw_follow.specs.Publishing.{IsPlaced}
use Rattle.zw_follow.specs.declared.place.Place.{Place}
use Rattle.zw_hub.specs.Lists.{empty}
use Rattle.zw_hub.specs.declared.published.Published.{Published}
use Rattle.zp_server.specs.Beginning.{IsPlace}

pub placed_first : (list : Published) (place : Place) → list ≡ empty place.number → IsPlace place → IsPlaced list place
placed_first list place new at =
    subst (λ (l : Published). IsPlaced l place) (sym new) (record {
      is_open = refl;
      placed = omega (arith, ints);
      least = at.number_least;
      most = at.number_most;
      revision_least = at.revision_least;
      revision_most = at.revision_most;
    })
