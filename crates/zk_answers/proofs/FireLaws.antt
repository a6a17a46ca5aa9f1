-- Changes that fire one after another, and paths that are seen one after another.
use Rattle.std.proofs.Common.{◌≡◌, ℕ, ◌+◌, ◌<◌, ◌≤◌, List, ◌∷◌, ◌++◌, length, drop, get_or, sym, ap, ◌∙◌, append_assoc, append-nil}
use Rattle.std.proofs.lemmas.List.{at_drop_more, at_drop_all}
use Rattle.zk_model.specs.declared.node.Trigger.{Trigger}
use Rattle.zk_model.specs.declared.reply.Notice.{Notice}
use Rattle.zk_model.specs.Watches.{Watches, fire, fire_all}

-- what further changes leave armed, and their notices after those that were given before
abbrev pub fired_on : Watches → List Notice → List Trigger → Watches × List Notice
fired_on w ns ts = ((fire_all w ts).0, ns ++ (fire_all w ts).1)

pub fired_on-done : (w : Watches) (ns : List Notice) (ts : List Trigger) (i : ℕ) → length ts ≤ i → fired_on w ns (drop i ts) ≡ (w, ns)
unfolding fire_all
fired_on-done w ns ts i h = at_drop_all (fired_on w ns) ts i h ∙ ap (λ (x : List Notice). (w, x)) (append-nil ns)

fired_on-cons : (w : Watches) (ns : List Notice) (t : Trigger) (ts : List Trigger) → fired_on w ns (t ∷ ts) ≡ fired_on (fire w t).0 (ns ++ (fire w t).1) ts
unfolding fire_all
fired_on-cons w ns t ts = ap (λ (x : List Notice). ((fire_all (fire w t).0 ts).0, x)) (sym (append_assoc ns (fire w t).1 (fire_all (fire w t).0 ts).1))

pub fired_on-more : (w u : Watches) (ns told : List Notice) (ts : List Trigger) (i : ℕ) (t : Trigger) → i < length ts → t ≡ get_or ts i t → (u, told) ≡ fire w t
    → fired_on w ns (drop i ts) ≡ fired_on u (ns ++ told) (drop (i + 1) ts)
fired_on-more w u ns told ts i t h is fires =
    at_drop_more (fired_on w ns) ts i t h
    ∙ ap (λ (x : Trigger). fired_on w ns (x ∷ drop (i + 1) ts)) (sym is)
    ∙ fired_on-cons w ns t (drop (i + 1) ts)
    ∙ ap (λ (f : Watches × List Notice). fired_on f.0 (ns ++ f.1) (drop (i + 1) ts)) (sym fires)
