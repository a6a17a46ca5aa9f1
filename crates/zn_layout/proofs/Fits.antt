-- Changes that fit, one list after another.
use Rattle.std.proofs.Common.{◌≡◌, ℤ, cond, List, [], ◌∷◌, ◌++◌, Option, Some, None, refl, sym, ap, ◌∙◌, subst}
use Rattle.zk_model.specs.declared.node.Trigger.{Trigger}
use Rattle.zk_service.specs.States.{State}
use Rattle.zn_layout.specs.Keys.{Key, HeadKey, DataKey, CountsKey, SessionKey, LeaseKey, same_key}
use Rattle.zn_layout.specs.Changes.{Put, KeyChange, head_put, put_or_else, last}
use Rattle.zn_layout.specs.Fits.{left, KeyFits, ChangesFit}

or_else_assoc : (x y w : Option (Option Put)) → put_or_else (put_or_else x y) w ≡ put_or_else x (put_or_else y w)
or_else_assoc None y w = refl
or_else_assoc (Some v) y w = refl

or_else_none : (x : Option (Option Put)) → put_or_else x None ≡ x
or_else_none None = refl
or_else_none (Some v) = refl

pub last-append : (cs ds : List KeyChange) (k : Key) → last (cs ++ ds) k ≡ put_or_else (last ds k) (last cs k)
last-append [] ds k = sym (or_else_none (last ds k))
last-append (c ∷ cs) ds k = ap (λ x. put_or_else x (cond (same_key k c.key) (Some c.put) None)) (last-append cs ds k) ∙ or_else_assoc (last ds k) (last cs k) _

then_fits : (z : ℤ) (x y : Option (Option Put)) (k : Key) (old mid new : State) → KeyFits z x k old mid → KeyFits z y k mid new → KeyFits z (put_or_else y x) k old new
then_fits z None None k old mid new f g = λ o h. g o (f o h)
then_fits z (Some w) None k old mid new f g = g (left z w) f
then_fits z x (Some w) k old mid new f g = g

-- the changes of several steps at one zxid, one after another
pub fits_append : (z : ℤ) (cs ds : List KeyChange) (old mid new : State) → ChangesFit z cs old mid → ChangesFit z ds mid new → ChangesFit z (cs ++ ds) old new
fits_append z cs ds old mid new f g = record { each = λ k. subst (λ l. KeyFits z l k old new) (sym (last-append cs ds k)) (then_fits z (last cs k) (last ds k) k old mid new (f.each k) (g.each k)) }

-- only what a list says last of each key counts
pub fits_same : (z : ℤ) (cs ds : List KeyChange) (old new : State) → ((k : Key) → last ds k ≡ last cs k) → ChangesFit z cs old new → ChangesFit z ds old new
fits_same z cs ds old new e f = record { each = λ k. subst (λ l. KeyFits z l k old new) (sym (e k)) (f.each k) }

head_fits : (z : ℤ) (ts : List Trigger) (s : State) (k : Key) → KeyFits z (last (head_put ts ∷ []) k) k s s
head_fits z ts s HeadKey = tt
head_fits z ts s (DataKey p) = λ o h. h
head_fits z ts s (CountsKey p) = λ o h. h
head_fits z ts s (SessionKey id) = λ o h. h
head_fits z ts s (LeaseKey id) = λ o h. h

-- the head's put says nothing of the tree and the sessions
pub fits_head : (z : ℤ) (cs : List KeyChange) (ts : List Trigger) (old new : State) → ChangesFit z cs old new → ChangesFit z (cs ++ head_put ts ∷ []) old new
fits_head z cs ts old new f = fits_append z cs (head_put ts ∷ []) old new new f (record { each = head_fits z ts new })
