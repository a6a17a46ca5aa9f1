-- The packets of a connection in a longer transcript, and when they are the ones due.
use Rattle.std.proofs.Common.{◌≡◌, ℕ, suc, ◌+◌, ◌≤◌, List, [], ◌∷◌, ◌++◌, length, refl, ap, ◌∙◌, arith, Bool, true, false}
use Rattle.std.specs.Prelude.{if◌then◌else◌, ◌&&◌, nat_le, ◌==◌, All, map, bytes_eq}
use Rattle.std.proofs.lemmas.Bool.Decides.{nat_tests}
use Rattle.std.proofs.lemmas.List.Elements.{All-cons, All-head, All-nil, All-tail}
use Rattle.std.proofs.lemmas.Slice.Eq.{bytes_eq-Decides}
use Rattle.zk_transcript.specs.Walks.{Due, are_sent, packets, packets_from}
use Rattle.zk_transcript.specs.declared.transcript.TranscriptLine.{TranscriptLine}
use Rattle.zk_transcript.specs.declared.transcript.TranscriptLine.TheVariants.{Update, Open, Frame as FrameLine, Send, Lapse, Close}
use Rattle.zx_base.proofs.Booleans.{and-both}

-- ---- in a longer transcript

packets_from-append : (c k : ℕ) (xs ys : List TranscriptLine) → packets_from c k (xs ++ ys) ≡ packets_from c k xs ++ packets_from c (k + length xs) ys
packets_from-append c k [] ys = ap (λ n. packets_from c n ys) (omega arith)
packets_from-append c k (Send d bytes ∷ xs) ys = go (c == d) (packets_from-append c (k + 1) xs ys)
  where
    shift : packets_from c ((k + 1) + length xs) ys ≡ packets_from c (k + suc (length xs)) ys
    shift = ap (λ n. packets_from c n ys) (omega arith)

    go : (b : Bool) → packets_from c (k + 1) (xs ++ ys) ≡ packets_from c (k + 1) xs ++ packets_from c ((k + 1) + length xs) ys
        → (if b then (k, bytes) ∷ packets_from c (k + 1) (xs ++ ys) else packets_from c (k + 1) (xs ++ ys))
        ≡ (if b then (k, bytes) ∷ packets_from c (k + 1) xs else packets_from c (k + 1) xs) ++ packets_from c (k + suc (length xs)) ys
    go true ih = ap (λ l. (k, bytes) ∷ l) (ih ∙ ap (λ l. packets_from c (k + 1) xs ++ l) shift)
    go false ih = ih ∙ ap (λ l. packets_from c (k + 1) xs ++ l) shift
packets_from-append c k (Update u ∷ xs) ys = packets_from-append c (k + 1) xs ys ∙ ap (λ n. packets_from c (k + 1) xs ++ packets_from c n ys) (omega arith)
packets_from-append c k (Open a b d e layout ∷ xs) ys = packets_from-append c (k + 1) xs ys ∙ ap (λ n. packets_from c (k + 1) xs ++ packets_from c n ys) (omega arith)
packets_from-append c k (FrameLine a b d e ∷ xs) ys = packets_from-append c (k + 1) xs ys ∙ ap (λ n. packets_from c (k + 1) xs ++ packets_from c n ys) (omega arith)
packets_from-append c k (Lapse a b ∷ xs) ys = packets_from-append c (k + 1) xs ys ∙ ap (λ n. packets_from c (k + 1) xs ++ packets_from c n ys) (omega arith)
packets_from-append c k (Close a b ∷ xs) ys = packets_from-append c (k + 1) xs ys ∙ ap (λ n. packets_from c (k + 1) xs ++ packets_from c n ys) (omega arith)

pub packets-append : (c : ℕ) (xs ys : List TranscriptLine) → packets c (xs ++ ys) ≡ packets c xs ++ packets_from c (length xs) ys
packets-append c xs ys = packets_from-append c 0 xs ys ∙ ap (λ n. packets_from c 0 xs ++ packets_from c n ys) (omega arith)

-- ---- the packets due

pub are_sent-append : (ds ps es qs : List Due) → are_sent ds ps ≡ true → are_sent es qs ≡ true → are_sent (ds ++ es) (ps ++ qs) ≡ true
are_sent-append [] [] es qs h g = g
are_sent-append [] (p ∷ ps) es qs h g = absurd (cc)
are_sent-append (d ∷ ds) [] es qs h g = absurd (cc)
are_sent-append (d ∷ ds) (p ∷ ps) es qs h g = go (nat_le d.0 p.0 && bytes_eq d.1 p.1) (are_sent-append ds ps es qs) h
  where
    go : (b : Bool) → (are_sent ds ps ≡ true → are_sent es qs ≡ true → are_sent (ds ++ es) (ps ++ qs) ≡ true) → (b && are_sent ds ps) ≡ true → (b && are_sent (ds ++ es) (ps ++ qs)) ≡ true
    go true ih e = ih e g
    go false ih e = absurd (cc)

abbrev pub FromPlace : ℕ → Due → Type 0
FromPlace n p = n ≤ p.0

abbrev pub UpToPlace : ℕ → Due → Type 0
UpToPlace n d = d.0 ≤ n

weaker : (k : ℕ) (ps : List Due) → All (FromPlace (k + 1)) ps → All (FromPlace k) ps
weaker k ps h = λ j d small. omega (arith, h j d small)

pub packets-from : (c k : ℕ) (ls : List TranscriptLine) → All (FromPlace k) (packets_from c k ls)
packets-from c k [] = All-nil (FromPlace k)
packets-from c k (Send d bytes ∷ ls) = go (c == d) (weaker k (packets_from c (k + 1) ls) (packets-from c (k + 1) ls))
  where
    go : (b : Bool) → All (FromPlace k) (packets_from c (k + 1) ls) → All (FromPlace k) (if b then (k, bytes) ∷ packets_from c (k + 1) ls else packets_from c (k + 1) ls)
    go true ih = All-cons (FromPlace k) (k, bytes) (packets_from c (k + 1) ls) (omega arith) ih
    go false ih = ih
packets-from c k (Update u ∷ ls) = weaker k (packets_from c (k + 1) ls) (packets-from c (k + 1) ls)
packets-from c k (Open a b d e layout ∷ ls) = weaker k (packets_from c (k + 1) ls) (packets-from c (k + 1) ls)
packets-from c k (FrameLine a b d e ∷ ls) = weaker k (packets_from c (k + 1) ls) (packets-from c (k + 1) ls)
packets-from c k (Lapse a b ∷ ls) = weaker k (packets_from c (k + 1) ls) (packets-from c (k + 1) ls)
packets-from c k (Close a b ∷ ls) = weaker k (packets_from c (k + 1) ls) (packets-from c (k + 1) ls)

heads : {A : Type 0} (x y : A) (xs ys : List A) → x ∷ xs ≡ y ∷ ys → (x ≡ y) × (xs ≡ ys)
heads x y xs ys h = (cc, cc)

one_sent : (d p : Due) (n : ℕ) → d.0 ≤ n → n ≤ p.0 → d.1 ≡ p.1 → (nat_le d.0 p.0 && bytes_eq d.1 p.1) ≡ true
one_sent d p n a b e = and-both (nat_le d.0 p.0) (bytes_eq d.1 p.1) (grind (arith, nat_tests)) ((bytes_eq-Decides d.1 p.1).1 e)

-- the same packets, due no later than a place from which on they stand
pub all_sent : (n : ℕ) (ds ps : List Due) → All (UpToPlace n) ds → All (FromPlace n) ps → map (λ (d : Due). d.1) ds ≡ map (λ (p : Due). p.1) ps → are_sent ds ps ≡ true
all_sent n [] [] a b f = refl
all_sent n [] (p ∷ ps) a b f = absurd (cc)
all_sent n (d ∷ ds) [] a b f = absurd (cc)
all_sent n (d ∷ ds) (p ∷ ps) a b f =
    let h = heads d.1 p.1 (map (λ (x : Due). x.1) ds) (map (λ (x : Due). x.1) ps) f in
    and-both (nat_le d.0 p.0 && bytes_eq d.1 p.1) (are_sent ds ps) (one_sent d p n (All-head (UpToPlace n) d ds a) (All-head (FromPlace n) p ps b) h.0) (all_sent n ds ps (All-tail (UpToPlace n) d ds a) (All-tail (FromPlace n) p ps b) h.1)
