-- Several changes fire what is armed, one after the other.
use Rattle.std.proofs.Common.{◌≡◌, ℕ, suc, ◌+◌, ◌<◌, ◌≤◌, List, [], ◌∷◌, ◌++◌, length, drop, get_or, drop-cons, add-one, append-nil, append_assoc, refl, sym, ap, ◌∙◌, subst}
use Rattle.std.proofs.Math.ListN.{drop_of_length-le}
use Rattle.std.specs.Prelude.{Option}
use Rattle.std.specs.Option.{option_to_list}
use Rattle.zk_model.specs.Watches.{Watches, fire, fire_all}
use Rattle.zk_model.specs.declared.node.Trigger.{Trigger}
use Rattle.zk_model.specs.declared.reply.Notice.{Notice}
use Rattle.zw_watch.specs.Armed.{fired_of}

-- after some changes these watches are armed and these notices were given; the other changes are to come
abbrev pub Fires : Watches → List Trigger → Watches → List Notice → List Trigger → Type 0
Fires start all w ns rest = fire_all start all ≡ ((fire_all w rest).0, ns ++ (fire_all w rest).1)

one-more : (w : Watches) (t : Trigger) (rest : List Trigger) → fire_all w (t ∷ rest) ≡ ((fire_all (fire w t).0 rest).0, (fire w t).1 ++ (fire_all (fire w t).0 rest).1)
unfolding fire_all
one-more w t rest = refl

pub fires-more : (start w next : Watches) (all rest : List Trigger) (t : Trigger) (ns : List Notice) (notice : Option Notice) → Fires start all w ns (t ∷ rest) → fired_of next notice ≡ fire w t
    → Fires start all next (ns ++ option_to_list notice) rest
fires-more start w next all rest t ns notice h e =
    let step : Watches × List Notice → Watches × List Notice = λ f. ((fire_all f.0 rest).0, ns ++ (f.1 ++ (fire_all f.0 rest).1)) in
    h ∙ ap (λ (f : Watches × List Notice). (f.0, ns ++ f.1)) (one-more w t rest) ∙ ap step (sym e)
    ∙ ap (λ (l : List Notice). ((fire_all next rest).0, l)) (sym (append_assoc ns (option_to_list notice) (fire_all next rest).1))

-- the change at this place is the next one
pub fires-next : (start w : Watches) (all : List Trigger) (ns : List Notice) (i : ℕ) (t : Trigger) → i < length all → t ≡ get_or all i t → Fires start all w ns (drop i all) → Fires start all w ns (t ∷ drop (i + 1) all)
fires-next start w all ns i t less is h =
    let next : drop i all ≡ t ∷ drop (i + 1) all = rw add-one (drop-cons all i t less ∙ ap (λ (x : Trigger). x ∷ drop (suc i) all) (sym is)) in
    subst (λ (rest : List Trigger). Fires start all w ns rest) next h

none-left : (start w : Watches) (all : List Trigger) (ns : List Notice) → Fires start all w ns [] → (w, ns) ≡ fire_all start all
unfolding fire_all
none-left start w all ns h = sym (h ∙ ap (λ (l : List Notice). (w, l)) (append-nil ns))

pub fires-all : (start w : Watches) (all : List Trigger) (ns : List Notice) (i : ℕ) → length all ≤ i → Fires start all w ns (drop i all) → (w, ns) ≡ fire_all start all
fires-all start w all ns i past h = none-left start w all ns (subst (λ (rest : List Trigger). Fires start all w ns rest) (drop_of_length-le all past) h)
