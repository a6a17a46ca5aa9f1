-- The search for lapsed sessions, one key after the other.
use Rattle.std.proofs.Common.{◌≡◌, ℕ, ◌+◌, ◌<◌, ℤ, Bool, true, false, not, List, [], ◌∷◌, ◌++◌, length, take, get_or, refl, sym, ap, ◌∙◌, append-nil}
use Rattle.std.specs.Prelude.{Option, Some, None, cond}
use Rattle.std.specs.List.{cons_option}
use Rattle.std.proofs.lemmas.List.{take_more}
use Rattle.std.proofs.lemmas.List.Elements.{filter_map-append, filter_more}
use Rattle.ev_types.specs.declared.answer.Kv.{Kv}
use Rattle.zs_reaper.specs.Listing.{is_among, numbers_in, session_in, without_of}

one-more : (kind : List ℕ) (kv : Kv) → numbers_in kind (kv ∷ []) ≡ cons_option (session_in kind kv) []
one-more kind kv = refl

-- ---- the sessions whose keys these are

pub numbers_next : (kind : List ℕ) (kvs : List Kv) (at : ℕ) (kv : Kv) → at < length kvs → kv ≡ get_or kvs at kv → numbers_in kind (take (at + 1) kvs) ≡ numbers_in kind (take at kvs) ++ cons_option (session_in kind kv) []
numbers_next kind kvs at kv below is =
    let taken : take (at + 1) kvs ≡ take at kvs ++ kv ∷ [] = take_more kvs at kv below ∙ ap (λ (x : Kv). take at kvs ++ x ∷ []) (sym is) in
    ap (numbers_in kind) taken ∙ filter_map-append (session_in kind) (take at kvs) (kv ∷ []) ∙ ap (λ (l : List ℤ). numbers_in kind (take at kvs) ++ l) (one-more kind kv)

pub numbers_more : (kind : List ℕ) (kvs : List Kv) (at : ℕ) (kv : Kv) (n : ℤ) (found found' : List ℤ) → at < length kvs → kv ≡ get_or kvs at kv → session_in kind kv ≡ Some n → found ≡ numbers_in kind (take at kvs) → found' ≡ found ++ n ∷ [] → found' ≡ numbers_in kind (take (at + 1) kvs)
numbers_more kind kvs at kv n found found' below is some so more =
    more ∙ ap (λ (l : List ℤ). l ++ n ∷ []) so ∙ ap (λ (o : Option ℤ). numbers_in kind (take at kvs) ++ cons_option o []) (sym some) ∙ sym (numbers_next kind kvs at kv below is)

pub numbers_same : (kind : List ℕ) (kvs : List Kv) (at : ℕ) (kv : Kv) (found : List ℤ) → at < length kvs → kv ≡ get_or kvs at kv → session_in kind kv ≡ None → found ≡ numbers_in kind (take at kvs) → found ≡ numbers_in kind (take (at + 1) kvs)
numbers_same kind kvs at kv found below is none so =
    so ∙ sym (append-nil (numbers_in kind (take at kvs))) ∙ ap (λ (o : Option ℤ). numbers_in kind (take at kvs) ++ cons_option o []) (sym none) ∙ sym (numbers_next kind kvs at kv below is)

-- ---- those that are not among the living

pub without_next : (numbers living : List ℤ) (at : ℕ) (n : ℤ) → at < length numbers → n ≡ get_or numbers at n → without_of (take (at + 1) numbers) living ≡ without_of (take at numbers) living ++ cond (not (is_among living n)) (n ∷ []) []
without_next numbers living at n below is =
    filter_more (λ (m : ℤ). not (is_among living m)) numbers at n below ∙ ap (λ (m : ℤ). without_of (take at numbers) living ++ cond (not (is_among living m)) (m ∷ []) []) (sym is)

pub without_more : (numbers living : List ℤ) (at : ℕ) (n : ℤ) (b : Bool) (found found' : List ℤ) → at < length numbers → n ≡ get_or numbers at n → b ≡ is_among living n → b ≡ false → found ≡ without_of (take at numbers) living → found' ≡ found ++ n ∷ [] → found' ≡ without_of (take (at + 1) numbers) living
without_more numbers living at n b found found' below is among out so more =
    more ∙ ap (λ (l : List ℤ). l ++ n ∷ []) so ∙ ap (λ (c : Bool). without_of (take at numbers) living ++ cond (not c) (n ∷ []) []) (sym out ∙ among) ∙ sym (without_next numbers living at n below is)

pub without_same : (numbers living : List ℤ) (at : ℕ) (n : ℤ) (b : Bool) (found : List ℤ) → at < length numbers → n ≡ get_or numbers at n → b ≡ is_among living n → b ≡ true → found ≡ without_of (take at numbers) living → found ≡ without_of (take (at + 1) numbers) living
without_same numbers living at n b found below is among there so =
    so ∙ sym (append-nil (without_of (take at numbers) living)) ∙ ap (λ (c : Bool). without_of (take at numbers) living ++ cond (not c) (n ∷ []) []) (sym there ∙ among) ∙ sym (without_next numbers living at n below is)
