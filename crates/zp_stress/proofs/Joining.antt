-- Lines of a schedule, one part after the other.
use Rattle.std.proofs.Common.{◌≡◌, List, [], ◌∷◌, ◌++◌, sym, subst}
use Rattle.std.specs.Prelude.{Some}
use Rattle.zt_text.specs.declared.script.Why.{Why}
use Rattle.zp_script.specs.Faults.{fault}
use Rattle.zp_script.specs.Happens.{Happens}
use Rattle.zt_text.specs.declared.script.Happening.{Happening}
use Rattle.zp_script.specs.Worlds.{World}
use Rattle.zp_stress.specs.Passing.{Passes, PassesAll, PassesBy}

pub passes_append : (hs gs : List Happening) (w mid w' : World) → PassesAll w hs mid → PassesAll mid gs w' → PassesAll w (hs ++ gs) w'
passes_append [] gs w mid w' same more = subst (λ (v : World). PassesAll v gs w') same more
passes_append (h ∷ hs) gs w mid w' p more = (p.0, p.1, passes_append hs gs p.0 mid w' p.2 more)

-- ---- one line

pub passes_happens : (w : World) (h : Happening) (w' : World) → Happens w h w' → Passes w h w'
passes_happens w h w' happens = subst (PassesBy w h w') (sym happens.possible) happens

pub passes_over : (w : World) (h : Happening) (w' : World) (why : Why) → fault w h ≡ Some why → w' ≡ w → Passes w h w'
passes_over w h w' why is same = subst (PassesBy w h w') (sym is) same

-- what is not possible changes nothing
pub same_world : (w : World) (h : Happening) (w' : World) (why : Why) → fault w h ≡ Some why → Passes w h w' → w' ≡ w
same_world w h w' why is passes = subst (PassesBy w h w') is passes
