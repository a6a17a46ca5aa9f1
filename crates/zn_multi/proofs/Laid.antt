-- Changes that are laid over a view, each key once: what is last of each key, and what the view shows.
use Rattle.std.proofs.Common.{◌≡◌, Bool, true, false, not, ◌||◌, cond, List, [], ◌∷◌, ◌++◌, map, Option, Some, None, refl, sym, ap, ◌∙◌, subst}
use Rattle.std.specs.Prelude.{All}
use Rattle.std.specs.List.{list_any}
use Rattle.std.proofs.lemmas.Bool.{and_parts, and_from, true≢false, not-true, or_parts}
use Rattle.std.proofs.lemmas.List.Elements.{All-cons, All-head, All-nil, All-tail}
use Rattle.ev_types.specs.declared.answer.Kv.{Kv}
use Rattle.zx_base.specs.Maps.{same}
use Rattle.zx_base.proofs.MapLaws.{same-refl, same-true}
use Rattle.zn_layout.specs.Changes.{KeyChange, Put, act_at, acts_of, are_distinct, last, put_or_else, writes_key}
use Rattle.zn_layout.specs.Keys.{Key, key_bytes, same_key}
use Rattle.zn_layout.proofs.Fits.{last-append}
use Rattle.zn_layout.proofs.Keys.{key_bytes-injective, same_key-refl, same_key-true}
use Rattle.zn_view.specs.declared.snapshot.SeenKey.{SeenKey}
use Rattle.zn_view.specs.Laying.{placed, with_laid}
use Rattle.zn_view.specs.Seen.{View, seen, seen_in}
use Rattle.zn_multi.specs.Laying.{all_laid, found_of, laid, laid_view, seen_of, with_act, with_acts}
use Rattle.zx_base.proofs.Booleans.{or-swap, or-again}

-- the bytes of two keys are the same exactly where the keys are
same_bytes : (k l : Key) (b : Bool) → same (key_bytes k) (key_bytes l) ≡ b → same_key k l ≡ b
same_bytes k l true h = subst (λ (x : Key). same_key k x ≡ true) (key_bytes-injective k l (same-true (key_bytes k) (key_bytes l) h)) (same_key-refl k)
same_bytes k l false h = apart (same_key k l) refl
  where
    apart : (b : Bool) → same_key k l ≡ b → b ≡ false
    apart false e = refl
    apart true e = absurd (true≢false (sym (sym (ap (λ (x : Key). same (key_bytes k) (key_bytes x)) (same_key-true k l e)) ∙ same-refl (key_bytes k)) ∙ h))

same_back : (k l : Key) (b : Bool) → same (key_bytes k) (key_bytes l) ≡ b → same_key l k ≡ b
same_back k l true h = subst (λ (x : Key). same_key l x ≡ true) (sym (key_bytes-injective k l (same-true (key_bytes k) (key_bytes l) h))) (same_key-refl l)
same_back k l false h = apart (same_key l k) refl
  where
    apart : (b : Bool) → same_key l k ≡ b → b ≡ false
    apart false e = refl
    apart true e = absurd (true≢false (sym (ap (λ (x : Key). same (key_bytes k) (key_bytes x)) (same_key-true l k e) ∙ same-refl (key_bytes k)) ∙ h))

one_key : (k l : Key) → same (key_bytes k) (key_bytes l) ≡ true → k ≡ l
one_key k l h = key_bytes-injective k l (same-true (key_bytes k) (key_bytes l) h)

-- ---- what is last of each key

abbrev at_key : Key → KeyChange → Option (Option Put)
at_key k c = cond (same_key k c.key) (Some c.put) None

or_none : (x : Option (Option Put)) → put_or_else x None ≡ x
or_none None = refl
or_none (Some v) = refl

assoc : (x y w : Option (Option Put)) → put_or_else (put_or_else x y) w ≡ put_or_else x (put_or_else y w)
assoc None y w = refl
assoc (Some v) y w = refl

pub unwritten : (k : Key) (ws : List KeyChange) → list_any (writes_key k) ws ≡ false → last ws k ≡ None
unwritten k [] h = refl
unwritten k (w ∷ ws) h =
    let both = or_parts (same_key k w.key) (list_any (writes_key k) ws) h in
    (λ i. put_or_else (unwritten k ws both.1 i) (cond (both.0 i) (Some w.put) None))

pub rest_distinct : (w : KeyChange) (ws : List KeyChange) → are_distinct (w ∷ ws) ≡ true → (list_any (writes_key w.key) ws ≡ false) × (are_distinct ws ≡ true)
rest_distinct w ws h = let both = and_parts (not (list_any (writes_key w.key) ws)) (are_distinct ws) h in (not-true _ both.0, both.1)

last_first : (k : Key) (c : KeyChange) (o : Option (Option Put)) (b : Bool) → same_key k c.key ≡ b → (b ≡ true → o ≡ None) → (q : Option (Option Put)) → (b ≡ false → q ≡ None)
    → put_or_else o (at_key k c) ≡ put_or_else (at_key k c) (put_or_else o q)
last_first k c o true e gone q none = (λ i. put_or_else (gone refl i) (cond (e i) (Some c.put) None)) ∙ sym (ap (λ b. put_or_else (cond b (Some c.put) None) (put_or_else o q)) e)
last_first k c o false e gone q none =
    ap (λ b. put_or_else o (cond b (Some c.put) None)) e ∙ ap (λ x. put_or_else o x) (sym (none refl)) ∙ sym (ap (λ b. put_or_else (cond b (Some c.put) None) (put_or_else o q)) e)

pub last-laid : (ws : List KeyChange) (c : KeyChange) (k : Key) → are_distinct ws ≡ true → last (laid ws c) k ≡ put_or_else (at_key k c) (last ws k)
last-laid [] c k h = sym (or_none (at_key k c))
last-laid (w ∷ ws) c k h = elim (same (key_bytes w.key) (key_bytes c.key)) as (λ b. same (key_bytes w.key) (key_bytes c.key) ≡ b → last (cond b (c ∷ ws) (w ∷ laid ws c)) k ≡ put_or_else (at_key k c) (put_or_else (last ws k) (at_key k w))) [
  | true ↦ λ e.
      let one : w.key ≡ c.key = one_key w.key c.key e in
      last_first k c (last ws k) (same_key k c.key) refl
      (λ here. unwritten k ws (subst (λ (x : Key). list_any (writes_key x) ws ≡ false) (one ∙ sym (same_key-true k c.key here)) (rest_distinct w ws h).0))
      (at_key k w) (λ apart. ap (λ b. cond b (Some w.put) None) (ap (same_key k) one ∙ apart))
  | false ↦ λ e. ap (λ x. put_or_else x (at_key k w)) (last-laid ws c k (rest_distinct w ws h).1) ∙ assoc (at_key k c) (last ws k) (at_key k w)
] refl

-- ---- each key stays once

any_laid : (x : Key) (ws : List KeyChange) (c : KeyChange) → list_any (writes_key x) (laid ws c) ≡ (writes_key x c || list_any (writes_key x) ws)
any_laid x [] c = refl
any_laid x (w ∷ ws) c = elim (same (key_bytes w.key) (key_bytes c.key)) as (λ b. same (key_bytes w.key) (key_bytes c.key) ≡ b → list_any (writes_key x) (cond b (c ∷ ws) (w ∷ laid ws c)) ≡ (writes_key x c || (writes_key x w || list_any (writes_key x) ws))) [
  | true ↦ λ e. or-again (writes_key x c) (list_any (writes_key x) ws) ∙ ap (λ (k : Key). writes_key x c || (same_key x k || list_any (writes_key x) ws)) (sym (one_key w.key c.key e))
  | false ↦ λ e. ap (λ b. writes_key x w || b) (any_laid x ws c) ∙ or-swap (writes_key x w) (writes_key x c) (list_any (writes_key x) ws)
] refl

pub distinct-laid : (ws : List KeyChange) (c : KeyChange) → are_distinct ws ≡ true → are_distinct (laid ws c) ≡ true
distinct-laid [] c h = refl
distinct-laid (w ∷ ws) c h =
    let rest = rest_distinct w ws h in
    elim (same (key_bytes w.key) (key_bytes c.key)) as (λ b. same (key_bytes w.key) (key_bytes c.key) ≡ b → are_distinct (cond b (c ∷ ws) (w ∷ laid ws c)) ≡ true) [
      | true ↦ λ e. and_from _ _ (ap not (subst (λ (x : Key). list_any (writes_key x) ws ≡ false) (one_key w.key c.key e) rest.0)) rest.1
      | false ↦ λ e. and_from _ _ (ap not (any_laid w.key ws c ∙ (λ i. same_bytes w.key c.key false e i || rest.0 i))) (distinct-laid ws c rest.1)
    ] refl

pub distinct-all_laid : (ws cs : List KeyChange) → are_distinct ws ≡ true → are_distinct (all_laid ws cs) ≡ true
distinct-all_laid ws [] h = h
distinct-all_laid ws (c ∷ cs) h = distinct-all_laid (laid ws c) cs (distinct-laid ws c h)

pub last-all_laid : (ws cs : List KeyChange) (k : Key) → are_distinct ws ≡ true → last (all_laid ws cs) k ≡ last (ws ++ cs) k
last-all_laid ws cs k h = go ws cs h ∙ sym (last-append ws cs k)
  where
    go : (vs ds : List KeyChange) → are_distinct vs ≡ true → last (all_laid vs ds) k ≡ put_or_else (last ds k) (last vs k)
    go vs [] e = refl
    go vs (d ∷ ds) e = go (laid vs d) ds (distinct-laid vs d e) ∙ ap (λ x. put_or_else (last ds k) x) (last-laid vs d k e) ∙ sym (assoc (last ds k) (at_key k d) (last vs k))

pub kept-laid : (P : KeyChange → Type 0) (ws : List KeyChange) (c : KeyChange) → All P ws → P c → All P (laid ws c)
kept-laid P [] c all here = All-cons P c [] here (All-nil P)
kept-laid P (w ∷ ws) c all here = elim (same (key_bytes w.key) (key_bytes c.key)) as (λ b. All P (cond b (c ∷ ws) (w ∷ laid ws c))) [
  | true ↦ All-cons P c ws here (All-tail P w ws all)
  | false ↦ All-cons P w (laid ws c) (All-head P w ws all) (kept-laid P ws c (All-tail P w ws all) here)
]

pub kept-all_laid : (P : KeyChange → Type 0) (ws cs : List KeyChange) → All P ws → All P cs → All P (all_laid ws cs)
kept-all_laid P ws [] all more = all
kept-all_laid P ws (c ∷ cs) all more = kept-all_laid P (laid ws c) cs (kept-laid P ws c all (All-head P c cs more)) (All-tail P c cs more)

-- ---- what the view shows

abbrev pub shown_at : Key → Option (Option Put) → Option (Option Kv)
shown_at k None = None
shown_at k (Some w) = Some (found_of k w)

pub seen-laid : (ws : List KeyChange) (k : Key) → are_distinct ws ≡ true → seen (laid_view ws) (key_bytes k) ≡ shown_at k (last ws k)
seen-laid [] k h = refl
seen-laid (w ∷ ws) k h =
    let rest = rest_distinct w ws h in
    elim (same (key_bytes w.key) (key_bytes k)) as (λ b. same (key_bytes w.key) (key_bytes k) ≡ b → cond b (Some (found_of w.key w.put)) (seen_in (key_bytes k) (map seen_of ws)) ≡ shown_at k (put_or_else (last ws k) (at_key k w))) [
      | true ↦ λ e.
          let one : w.key ≡ k = one_key w.key k e in
          ap (λ (x : Key). Some (found_of x w.put)) one
          ∙ sym (λ i. shown_at k (put_or_else (unwritten k ws (subst (λ (x : Key). list_any (writes_key x) ws ≡ false) one rest.0) i) (cond (same_back w.key k true e i) (Some w.put) None)))
      | false ↦ λ e.
          seen-laid ws k rest.1 ∙ sym (ap (λ b. shown_at k (put_or_else (last ws k) (cond b (Some w.put) None))) (same_back w.key k false e) ∙ ap (shown_at k) (or_none (last ws k)))
    ] refl

-- ---- operations, one after the other

placed-seen : (ws : List KeyChange) (c : KeyChange) → placed (seen_of c) (map seen_of ws) ≡ map seen_of (laid ws c)
placed-seen [] c = refl
placed-seen (w ∷ ws) c = elim (same (key_bytes w.key) (key_bytes c.key)) as (λ b. cond b (seen_of c ∷ map seen_of ws) (seen_of w ∷ placed (seen_of c) (map seen_of ws)) ≡ map seen_of (cond b (c ∷ ws) (w ∷ laid ws c))) [
  | true ↦ refl
  | false ↦ ap (λ (l : List SeenKey). seen_of w ∷ l) (placed-seen ws c)
]

act_laid : (v : View) (k : Key) (put : Option Put) → with_act v (act_at (key_bytes k) put) ≡ with_laid v (record { key = key_bytes k; found = found_of k put })
act_laid v k None = refl
act_laid v k (Some w) = refl

pub acts-laid : (ws cs : List KeyChange) → with_acts (laid_view ws) (acts_of cs) ≡ laid_view (all_laid ws cs)
acts-laid ws [] = refl
acts-laid ws (c ∷ cs) =
    ap (λ (v : View). with_acts v (acts_of cs)) (act_laid (laid_view ws) c.key c.put ∙ ap (λ (l : List SeenKey). record (laid_view ws) { keys = l }) (placed-seen ws c)) ∙ acts-laid (laid ws c) cs

-- ---- the view tells what was laid

abbrev value_of : Option Kv → Option Put
value_of None = None
value_of (Some kv) = Some (record { value = kv.value; lease = kv.lease })

value-found : (k : Key) (w : Option Put) → value_of (found_of k w) ≡ w
value-found k None = refl
value-found k (Some w) = refl

seen-injective : (a b : KeyChange) → seen_of a ≡ seen_of b → a ≡ b
seen-injective a b e =
    let key : a.key ≡ b.key = key_bytes-injective a.key b.key (ap (λ (x : SeenKey). x.key) e) in
    let put : a.put ≡ b.put = sym (value-found a.key a.put) ∙ ap (λ (x : SeenKey). value_of x.found) e ∙ value-found b.key b.put in
    λ i. record { key = key i; put = put i }

map-injective : (us ws : List KeyChange) → map seen_of us ≡ map seen_of ws → us ≡ ws
map-injective [] [] e = refl
map-injective [] (w ∷ ws) e = absurd (cc)
map-injective (u ∷ us) [] e = absurd (cc)
map-injective (u ∷ us) (w ∷ ws) e =
    let both = cons_is (seen_of u) (seen_of w) (map seen_of us) (map seen_of ws) e in
    (λ i. seen-injective u w both.0 i ∷ map-injective us ws both.1 i)
  where
    cons_is : (x y : SeenKey) (xs ys : List SeenKey) → x ∷ xs ≡ y ∷ ys → (x ≡ y) × (xs ≡ ys)
    cons_is x y xs ys e = (cc, cc)

pub laid-injective : (us ws : List KeyChange) → laid_view us ≡ laid_view ws → us ≡ ws
laid-injective us ws e = map-injective us ws (ap (λ (v : View). v.keys) e)
