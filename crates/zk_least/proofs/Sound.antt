-- The least walk's choices are choices of the walk.
use Rattle.std.proofs.Common.{◌≡◌, ℕ, zero, suc, ◌+◌, List, [], ◌∷◌, ◌++◌, length, refl, sym, ap, ◌∙◌, subst, Bool, true, false, ℤ}
use Rattle.std.specs.Prelude.{Option, Some, None, option_map, is_some, nat_le, ◌&&◌, if◌then◌else◌, IsTrue, bytes_eq}
use Rattle.zk_transcript.specs.declared.transcript.TranscriptLine.{TranscriptLine}
use Rattle.zk_transcript.specs.Walks.{Walker, Choice, Tell, Plain, Answer, Due, move, walk, then_due, are_sent, is_walked, at_start, placed_frame, next_index, all_choices, is_fresh, are_fresh, IsFreshWalk}
use Rattle.zk_least.specs.LeastWalk.{rest_after, given, is_allowed, first_passing, least_moment, plain_choice, repeats, choice_for, least_choice, next_reply, least_from, least_walk, zxid_in}
use Rattle.std.proofs.lemmas.Bool.{and_from, and_parts}
use Rattle.zk_transcript.proofs.Longer.{move-index}

-- ---- packets that are due, and those after them

pub rest_after-sent : (ds es ps rest : List Due) → rest_after ds ps ≡ Some rest → are_sent es rest ≡ true → are_sent (ds ++ es) ps ≡ true
rest_after-sent [] es ps rest h s = let e : ps ≡ rest = cc in subst (λ l. are_sent es l ≡ true) (sym e) s
rest_after-sent (d ∷ ds) es [] rest h s = absurd (cc)
rest_after-sent (d ∷ ds) es (p ∷ ps) rest h s = go (nat_le d.0 p.0 && bytes_eq d.1 p.1) (λ e. rest_after-sent ds es ps rest e s) h
  where
    go : (b : Bool) → (rest_after ds ps ≡ Some rest → are_sent (ds ++ es) ps ≡ true) → (if b then rest_after ds ps else None) ≡ Some rest → (b && are_sent (ds ++ es) ps) ≡ true
    go true ih e = ih e
    go false ih e = absurd (cc)

-- ---- what the least choice passes

pub passing : (test : ℕ → Bool) (m n k : ℕ) → first_passing test m n ≡ Some k → test k ≡ true
passing test m zero k h = go (test m) refl h
  where
    go : (b : Bool) → test m ≡ b → (if b then Some m else None) ≡ Some k → test k ≡ true
    go true e t = let s : m ≡ k = cc in subst (λ j. test j ≡ true) s e
    go false e t = absurd (cc)
passing test m (suc n) k h = go (test m) refl (passing test (m + 1) n k) h
  where
    go : (b : Bool) → test m ≡ b → (first_passing test (m + 1) n ≡ Some k → test k ≡ true) → (if b then Some m else first_passing test (m + 1) n) ≡ Some k → test k ≡ true
    go true e ih t = let s : m ≡ k = cc in subst (λ j. test j ≡ true) s e
    go false e ih t = ih t

abbrev pub IsFresh : List TranscriptLine → ℕ → ℕ → Choice → Type 0
IsFresh lines c i x = is_fresh lines c i x ≡ true

plain-fresh : (lines : List TranscriptLine) (c : ℕ) (w : Walker) (z : ℤ) (b : Bool) (x : Choice) → (if b then Tell else Plain) ≡ x → IsFresh lines c w.next x
plain-fresh lines c w z true x h = subst (IsFresh lines c w.next) h refl
plain-fresh lines c w z false x h = subst (IsFresh lines c w.next) h refl

answer-fresh : (lines : List TranscriptLine) (c : ℕ) (id : ℤ) (w : Walker) (ps : List Due) (o : Option ℕ) (x : Choice) → least_moment lines c id w ps ≡ o → option_map (λ m. Answer m) o ≡ Some x → IsFresh lines c w.next x
answer-fresh lines c id w ps None x e h = absurd (cc)
answer-fresh lines c id w ps (Some m) x e h =
    let s : Answer m ≡ x = cc in
    let q = and_parts (is_fresh lines c w.next (Answer m)) (is_some (given ps (move lines c id w (Answer m)))) (passing (is_allowed lines c id w ps) 0 (length lines) m e) in
    subst (IsFresh lines c w.next) s q.0

for-fresh : (lines : List TranscriptLine) (c : ℕ) (id : ℤ) (w : Walker) (ps : List Due) (o : Option (List ℕ)) (x : Choice) → choice_for lines c id w ps o ≡ Some x → IsFresh lines c w.next x
for-fresh lines c id w ps None x h = let s : Tell ≡ x = cc in subst (IsFresh lines c w.next) s refl
for-fresh lines c id w ps (Some bytes) x h = go (repeats (placed_frame c w.next lines) bytes) h
  where
    go : (b : Bool) → (if b then Some (plain_choice w (zxid_in bytes)) else option_map (λ m. Answer m) (least_moment lines c id w ps)) ≡ Some x → IsFresh lines c w.next x
    go true t = let s : plain_choice w (zxid_in bytes) ≡ x = cc in plain-fresh lines c w (zxid_in bytes) _ x s
    go false t = answer-fresh lines c id w ps (least_moment lines c id w ps) x refl t

pub choice-fresh : (lines : List TranscriptLine) (c : ℕ) (id : ℤ) (w : Walker) (ps : List Due) (x : Choice) → least_choice lines c id w ps ≡ Some x → IsFresh lines c w.next x
unfolding least_choice
choice-fresh lines c id w ps x h = for-fresh lines c id w ps (next_reply ps) x h

-- ---- the walk

pub record IsGood (lines : List TranscriptLine) (c : ℕ) (id : ℤ) (w : Walker) (ps : List Due) (xs : List Choice) : Type 0 where
  pub lawful : is_walked (walk lines c id w xs) ps ≡ true
  pub fresh : are_fresh lines c w.next xs ≡ true

pub given-is : (ps : List Due) (o : Option (Walker × List Due)) (y : Walker × List Due) → given ps o ≡ Some y → (u : Walker × List Due) × (o ≡ Some u) × (u.0 ≡ y.0) × (rest_after u.1 ps ≡ Some y.1)
given-is ps None y h = absurd (cc)
given-is ps (Some u) y h = go (rest_after u.1 ps) refl h
  where
    go : (o : Option (List Due)) → rest_after u.1 ps ≡ o → option_map (λ rest. (u.0, rest)) o ≡ Some y → (v : Walker × List Due) × (Some u ≡ Some v) × (v.0 ≡ y.0) × (rest_after v.1 ps ≡ Some y.1)
    go None e t = absurd (cc)
    go (Some rest) e t = let s : (u.0, rest) ≡ y = cc in (u, refl, ap (λ (p : Walker × List Due). p.0) s, e ∙ ap (λ (p : Walker × List Due). Some p.1) s)

walked-more : (first : List Due) (o : Option (Walker × List Due)) (ps rest : List Due) → rest_after first ps ≡ Some rest → is_walked o rest ≡ true → is_walked (then_due first o) ps ≡ true
walked-more first None ps rest h s = absurd (cc)
walked-more first (Some r) ps rest h s = rest_after-sent first r.1 ps rest h s

good-empty : (lines : List TranscriptLine) (c : ℕ) (id : ℤ) (w : Walker) (xs : List Choice) → [] ≡ xs → IsGood lines c id w [] xs
unfolding walk all_choices
good-empty lines c id w [] e = record { lawful = refl; fresh = refl }
good-empty lines c id w (x ∷ xs) e = absurd (cc)

-- a choice that gives the next packets, and a good walk over the rest, are a good walk
pub good-more : (lines : List TranscriptLine) (c : ℕ) (id : ℤ) (w : Walker) (ps : List Due) (x : Choice) (xs : List Choice) (y : Walker × List Due)
    → IsFresh lines c w.next x → given ps (move lines c id w x) ≡ Some y → IsGood lines c id y.0 y.1 xs → IsGood lines c id w ps (x ∷ xs)
unfolding walk all_choices
good-more lines c id w ps x xs y pass g good =
    let u = given-is ps (move lines c id w x) y g in
    let i : u.0.0.next ≡ next_index w.next x = move-index lines c id w x u.0 u.1 in
    let j : y.0.next ≡ next_index w.next x = ap (λ (v : Walker). v.next) (sym u.2) ∙ i in
    record {
      lawful = subst (λ (o : Option (Walker × List Due)). is_walked (elim o [ None ↦ None | Some v ↦ then_due v.1 (walk lines c id v.0 xs) ]) ps ≡ true) (sym u.1) (walked-more u.0.1 (walk lines c id u.0.0 xs) ps y.1 u.3 (subst (λ (v : Walker). is_walked (walk lines c id v xs) y.1 ≡ true) (sym u.2) good.lawful));
      fresh = and_from (is_fresh lines c w.next x) _ pass (subst (λ n. are_fresh lines c n xs ≡ true) j good.fresh);
    }

pub least-good : (n : ℕ) (lines : List TranscriptLine) (c : ℕ) (id : ℤ) (w : Walker) (ps : List Due) (xs : List Choice) → least_from n lines c id w ps ≡ Some xs → IsGood lines c id w ps xs
unfolding least_from
least-good zero lines c id w [] xs h = good-empty lines c id w xs (cc)
least-good (suc n) lines c id w [] xs h = good-empty lines c id w xs (cc)
least-good zero lines c id w (p ∷ ps) xs h = absurd (cc)
least-good (suc n) lines c id w (p ∷ ps) xs h = go (least_choice lines c id w (p ∷ ps)) refl (λ v qs zs e. least-good n lines c id v qs zs e) h
  where
    Later : Type 0
    Later = (v : Walker) (qs : List Due) (zs : List Choice) → least_from n lines c id v qs ≡ Some zs → IsGood lines c id v qs zs

    on : Later → (x : Choice) (y : Walker × List Due) → least_choice lines c id w (p ∷ ps) ≡ Some x → given (p ∷ ps) (move lines c id w x) ≡ Some y
        → (o : Option (List Choice)) → least_from n lines c id y.0 y.1 ≡ o → option_map (λ zs. x ∷ zs) o ≡ Some xs → IsGood lines c id w (p ∷ ps) xs
    on ih x y e g None f t = absurd (cc)
    on ih x y e g (Some zs) f t =
        let s : x ∷ zs ≡ xs = cc in
        subst (IsGood lines c id w (p ∷ ps)) s (good-more lines c id w (p ∷ ps) x zs y (choice-fresh lines c id w (p ∷ ps) x e) g (ih y.0 y.1 zs f))

    next : Later → (x : Choice) → least_choice lines c id w (p ∷ ps) ≡ Some x → (o : Option (Walker × List Due)) → given (p ∷ ps) (move lines c id w x) ≡ o
        → (elim o [ None ↦ None | Some y ↦ option_map (λ zs. x ∷ zs) (least_from n lines c id y.0 y.1) ]) ≡ Some xs → IsGood lines c id w (p ∷ ps) xs
    next ih x e None g t = absurd (cc)
    next ih x e (Some y) g t = on ih x y e g (least_from n lines c id y.0 y.1) refl t

    go : (o : Option Choice) → least_choice lines c id w (p ∷ ps) ≡ o → Later
        → (elim o [ None ↦ None | Some x ↦ elim (given (p ∷ ps) (move lines c id w x)) [ None ↦ None | Some y ↦ option_map (λ zs. x ∷ zs) (least_from n lines c id y.0 y.1) ] ]) ≡ Some xs → IsGood lines c id w (p ∷ ps) xs
    go None e ih t = absurd (cc)
    go (Some x) e ih t = next ih x e (given (p ∷ ps) (move lines c id w x)) refl t

-- what the least walk finds is a walk
pub least-is-walk : (lines : List TranscriptLine) (c : ℕ) (id zxid : ℤ) (since : ℕ) (ps : List Due) → IsTrue (is_some (least_walk lines c id zxid since ps)) → IsFreshWalk lines c id zxid since ps
least-is-walk lines c id zxid since ps h = go (least_walk lines c id zxid since ps) refl h
  where
    go : (o : Option (List Choice)) → least_walk lines c id zxid since ps ≡ o → IsTrue (is_some o) → IsFreshWalk lines c id zxid since ps
    go None e t = absurd (cc)
    go (Some xs) e t =
        let g = least-good (length lines + length ps) lines c id (at_start zxid since) ps xs e in
        record { choices = xs; lawful = g.lawful; fresh = g.fresh }
