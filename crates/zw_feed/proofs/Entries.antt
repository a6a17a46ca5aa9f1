-- The entries of a list of heads, one after the other.
use Rattle.std.proofs.Common.{◌≡◌, ℕ, ◌+◌, ◌<◌, ℤ, pos, List, [], ◌∷◌, ◌++◌, length, take, drop, refl, sym, ap, ◌∙◌, subst, arith, Bool, true, false}
use Rattle.std.proofs.lemmas.Int.{ints}
use Rattle.std.specs.Prelude.{◌+ℤ◌, All, filter, if◌then◌else◌, slice_index_or}
use Rattle.std.proofs.Common.{append-nil, length-append}
use Rattle.std.proofs.lemmas.List.{drop_more, take-append-drop, take_more}
use Rattle.std.proofs.lemmas.List.Elements.{filter-append}
use Rattle.std.proofs.Common.{inl, inr}
use Rattle.std.specs.Prelude.{◌⊎◌}
use Rattle.zw_feed.specs.declared.found.Found.{Found}
use Rattle.zw_feed.specs.declared.fault.FeedFault.{FeedFault}
use Rattle.zw_feed.specs.declared.fault.FeedFault.TheVariants as fault
use Rattle.ev_types.specs.declared.answer.Kv.{Kv}
use Rattle.zn_layout.specs.declared.entry.Entry.{Entry}
use Rattle.zw_feed.specs.Following.{AreEntries, BreaksAt, IsBroken, IsEntryOf, IsNumbered, is_head}
use Rattle.zw_feed.specs.Gathering.{Grows, GrowsIf, IsSoFar}

pub entries_push : (n m : ℤ) (kvs : List Kv) (es : List Entry) (kv : Kv) (e : Entry) → m ≡ n +ℤ pos (length es) +ℤ pos 1 → AreEntries n kvs es → IsEntryOf m kv e → AreEntries n (kvs ++ kv ∷ []) (es ++ e ∷ [])
entries_push n m [] [] kv e is h i = (subst (λ z. IsEntryOf z kv e) (is ∙ omega (arith, ints)) i, tt)
entries_push n m [] (x ∷ es) kv e is h i = absurd h
entries_push n m (k ∷ kvs) [] kv e is h i = absurd h
entries_push n m (k ∷ kvs) (x ∷ es) kv e is h i = (h.0, entries_push (n +ℤ pos 1) m kvs es kv e (omega (arith, ints, is)) h.1 i)

pub entries_length : (n : ℤ) (kvs : List Kv) (es : List Entry) → AreEntries n kvs es → length kvs ≡ length es
entries_length n [] [] h = refl
entries_length n [] (x ∷ es) h = absurd h
entries_length n (k ∷ kvs) [] h = absurd h
entries_length n (k ∷ kvs) (x ∷ es) h = let e = entries_length (n +ℤ pos 1) kvs es h.1 in omega (arith, e)

filter-one : (kv : Kv) (later : List Kv) → is_head kv ≡ true → filter is_head (kv ∷ later) ≡ kv ∷ filter is_head later
filter-one kv later h = ap (λ b. if b then kv ∷ filter is_head later else filter is_head later) h

filter-none : (kv : Kv) (later : List Kv) → is_head kv ≡ false → filter is_head (kv ∷ later) ≡ filter is_head later
filter-none kv later h = ap (λ b. if b then kv ∷ filter is_head later else filter is_head later) h

-- the put at this place is broken
pub breaks : (kvs : List Kv) (at : ℕ) (first : ℤ) (g : Found) (f : FeedFault) (kv : Kv) → kv ≡ slice_index_or kvs at kv → at < length kvs → IsSoFar kvs at first g → (f ≡ fault.Memory) ⊎ ((is_head kv ≡ true) × IsBroken (g.last +ℤ pos 1) kv f) → (f ≡ fault.Memory) ⊎ BreaksAt first (filter is_head kvs) f
breaks kvs at first g f kv there below h (inl x) = inl x
breaks kvs at first g f kv there below h (inr b) = inr (record {
  before = filter is_head (take at kvs);
  kv = kv;
  later = filter is_head (drop (at + 1) kvs);
  split = ap (filter is_head) (sym (take-append-drop at kvs)) ∙ filter-append is_head (take at kvs) (drop at kvs)
      ∙ ap (λ l. filter is_head (take at kvs) ++ filter is_head l) (drop_more kvs at kv below ∙ ap (λ x. x ∷ drop (at + 1) kvs) (sym there)) ∙ ap (λ l. filter is_head (take at kvs) ++ l) (filter-one kv (drop (at + 1) kvs) b.0);
  entries = (g.entries).items;
  good = h.so_far;
  broken = subst (λ z. IsBroken z kv f) (ap (λ z. z +ℤ pos 1) (h.last_is ∙ ap (λ m. first +ℤ pos m) (sym (entries_length first (filter is_head (take at kvs)) (g.entries).items h.so_far)))) b.1;
})

-- one more put
pub goes_on : (kvs : List Kv) (at : ℕ) (first : ℤ) (g g' : Found) (kv : Kv) → kv ≡ slice_index_or kvs at kv → at < length kvs → All IsNumbered kvs → IsSoFar kvs at first g → Grows g kv g' → IsSoFar kvs (at + 1) first g'
goes_on kvs at first g g' kv there below small h i = go (is_head kv) refl i
  where
    taken : take (at + 1) kvs ≡ take at kvs ++ kv ∷ []
    taken = take_more kvs at kv below ∙ ap (λ x. take at kvs ++ x ∷ []) (sym there)

    heads : filter is_head (take (at + 1) kvs) ≡ filter is_head (take at kvs) ++ filter is_head (kv ∷ [])
    heads = ap (filter is_head) taken ∙ filter-append is_head (take at kvs) (kv ∷ [])

    numbered : IsNumbered kv
    numbered = subst IsNumbered (sym there) (small at kv below)

    go : (b : Bool) → is_head kv ≡ b → GrowsIf b g kv g' → IsSoFar kvs (at + 1) first g'
    go false e same = subst (IsSoFar kvs (at + 1) first) (sym same) (record {
      within = omega (arith, below);
      same = h.same;
      so_far = subst (λ l. AreEntries first l (g.entries).items) (sym (heads ∙ ap (λ l. filter is_head (take at kvs) ++ l) (filter-none kv [] e) ∙ append-nil (filter is_head (take at kvs)))) h.so_far;
      last_is = h.last_is;
      least = h.least;
      most = h.most;
    })
    go true e (x, entry, firsts, lasts, items) = record {
      within = omega (arith, below);
      same = firsts ∙ h.same;
      so_far = subst (λ l. AreEntries first l (g'.entries).items) (sym (heads ∙ ap (λ l. filter is_head (take at kvs) ++ l) (filter-one kv [] e)))
          (subst (λ es. AreEntries first (filter is_head (take at kvs) ++ kv ∷ []) es) (sym items) (entries_push first (g.last +ℤ pos 1) (filter is_head (take at kvs)) (g.entries).items kv x (ap (λ z. z +ℤ pos 1) h.last_is) h.so_far entry));
      last_is = lasts ∙ ap (λ z. z +ℤ pos 1) h.last_is ∙ (let s : length ((g.entries).items ++ x ∷ []) ≡ length (g.entries).items + 1 = length-append (g.entries).items (x ∷ []) in let t : length (g'.entries).items ≡ length ((g.entries).items ++ x ∷ []) = ap length items in omega (arith, ints, s, t));
      least = (let l = h.least in omega (arith, ints, l, lasts));
      most = (let m = numbered.most in let s = entry.shown in omega (arith, ints, m, s, lasts));
    }
