-- The paths of a node's children among what was found, key by key.
use Rattle.std.proofs.Common.{◌≡◌, ap, ◌∙◌, sym, refl, Bool, true, false, not, ◌&&◌, List, [], ◌∷◌, ◌++◌, map, append_assoc}
use Rattle.std.specs.Prelude.{filter, if◌then◌else◌}
use Rattle.ev_types.specs.declared.answer.Kv.{Kv}
use Rattle.ev_types.specs.Ranges.{is_within, comes_before}
use Rattle.zx_base.specs.Maps.{Bytes}
use Rattle.zn_view.specs.Asks.{children_start, children_until, is_child_of, path_in, paths_in}

-- the end of the range is an end
pub end-is_end : (p from k : Bytes) → is_within from (children_until p) k ≡ (not (comes_before k from) && comes_before k (children_until p))
unfolding is_within children_until
end-is_end p from k = refl

pub child-between : (p start end : Bytes) (kv : Kv) (b : Bool) → start ≡ children_start p → end ≡ children_until p → b ≡ (not (comes_before kv.key start) && comes_before kv.key end) → is_child_of p kv ≡ b
child-between p start end kv b s e h =
    end-is_end p (children_start p) kv.key ∙ ap (λ (l : Bytes). not (comes_before kv.key l) && comes_before kv.key (children_until p)) (sym s)
    ∙ ap (λ (l : Bytes). not (comes_before kv.key start) && comes_before kv.key l) (sym e) ∙ sym h

pub child-passed : (p : Bytes) (kv : Kv) (old : List Bytes) (rest : List Kv) → is_child_of p kv ≡ false → old ++ paths_in p rest ≡ old ++ paths_in p (kv ∷ rest)
child-passed p kv old rest h = ap (λ (b : Bool). old ++ map path_in (if b then kv ∷ filter (is_child_of p) rest else filter (is_child_of p) rest)) (sym h)

pub child-taken : (p : Bytes) (kv : Kv) (old : List Bytes) (q : Bytes) (rest : List Kv) → is_child_of p kv ≡ true → q ≡ path_in kv → (old ++ q ∷ []) ++ paths_in p rest ≡ old ++ paths_in p (kv ∷ rest)
child-taken p kv old q rest h is =
    append_assoc old (q ∷ []) (paths_in p rest) ∙ ap (λ (l : Bytes). old ++ (l ∷ paths_in p rest)) is
    ∙ ap (λ (b : Bool). old ++ map path_in (if b then kv ∷ filter (is_child_of p) rest else filter (is_child_of p) rest)) (sym h)
