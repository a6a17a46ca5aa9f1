-- A follower over an honest watch gives the store's entries, and ends for no fault.
use Rattle.std.proofs.Common.{◌≡◌, ℕ, suc, ℤ, pos, ◌+ℤ◌, List, [], ◌∷◌, ◌++◌, length, refl, sym, subst, ◌∙◌, arith}
use Rattle.std.proofs.lemmas.Int.{ints}
use Rattle.std.proofs.lemmas.List.Elements.{All-cons, All-nil}
use Rattle.std.specs.Global.{Vec}
use Rattle.std.specs.Prelude.{All, Some, Result, Ok, Err}
use Rattle.ev_types.specs.Store.{Store}
use Rattle.ev_types.specs.declared.answer.Kv.{Kv}
use Rattle.ev_json.specs.declared.line.Line.{Line}
use Rattle.zn_layout.specs.Reading.{IsHeadWithin, IsSomeValue, head_bytes}
use Rattle.zn_layout.specs.declared.entry.Entry.{Entry}
use Rattle.zw_feed.specs.Following.{AreEntries, BreaksAt, Gives, IsBroken, IsEntryOf, heads_in}
use Rattle.zw_feed.specs.declared.fault.FeedFault.{FeedFault}
use Rattle.zw_feed.specs.declared.fault.FeedFault.TheVariants as fault
use Rattle.zp_lives.specs.Feeding.{IsEntryIn}
use Rattle.zp_lives.specs.Followed.{AreNextHeads, GivesEntriesOf, IsHeadOf, IsHonestLine}

-- ---- entries

entry-in : (s : Store) (n : ℤ) (kv : Kv) (e : Entry) → IsHeadOf s kv → IsEntryOf n kv e → IsEntryIn s e
entry-in s n kv e h g = record {
  revision = h.revision;
  least = h.least;
  known = h.known;
  head = kv;
  there = h.there;
  number = g.number_is ∙ sym g.shown;
  zxid = g.zxid;
  triggers = (Some g.record_is, g.read, g.triggers);
}

entries-in : (s : Store) (n : ℤ) (kvs : List Kv) (es : List Entry) → AreNextHeads s n kvs → AreEntries n kvs es → All (IsEntryIn s) es
entries-in s n [] [] h g = All-nil (IsEntryIn s)
entries-in s n [] (e ∷ es) h g = absurd g
entries-in s n (kv ∷ kvs) [] h g = absurd g
entries-in s n (kv ∷ kvs) (e ∷ es) h g = All-cons (IsEntryIn s) e es (entry-in s (n +ℤ pos 1) kv e h.0 g.0) (entries-in s (n +ℤ pos 1) kvs es h.3 g.1)

-- ---- no fault

further : (n : ℤ) (k : ℕ) → (n +ℤ pos 1) +ℤ pos k +ℤ pos 1 ≡ n +ℤ pos (suc k) +ℤ pos 1
further n k = omega (arith, ints)

next-at : (s : Store) (n : ℤ) (before : List Kv) (kv : Kv) (later : List Kv) → AreNextHeads s n (before ++ kv ∷ later)
    → (kv.version ≡ n +ℤ pos (length before) +ℤ pos 1) × IsSomeValue head_bytes IsHeadWithin kv.value
next-at s n [] kv later h = (let is = h.1 in omega (arith, ints, is), h.2)
next-at s n (x ∷ before) kv later h = let rest = next-at s (n +ℤ pos 1) before kv later h.3 in (rest.0 ∙ further n (length before), rest.1)

whole : (number : ℤ) (kv : Kv) (f : FeedFault) → kv.version ≡ number → IsSomeValue head_bytes IsHeadWithin kv.value → IsBroken number kv f → ⊥
whole number kv (fault.Gap expected found) is value b = b.2 (b.1 ∙ is ∙ sym b.0)
whole number kv (fault.Damaged key v) is value b = b.3 value.0 value.1.0 value.1.1
whole number kv fault.Ended is value b = b
whole number kv (fault.Compacted rev) is value b = b
whole number kv fault.Memory is value b = b

unbroken : (s : Store) (n : ℤ) (heads : List Kv) (f : FeedFault) → AreNextHeads s n heads → BreaksAt n heads f → ⊥
unbroken s n heads f h b =
    let next = next-at s n b.before b.kv b.later (subst (AreNextHeads s n) b.split h) in
    whole (n +ℤ pos (length b.before) +ℤ pos 1) b.kv f next.0 next.1 b.broken

-- ---- a line

pub given : (s : Store) (n : ℤ) (l : Line) (r : Result (Vec Entry) FeedFault) → IsHonestLine s n l → Gives n l r → GivesEntriesOf s r
given s n l (Ok entries) h g = entries-in s n (heads_in l) entries.items h.0 g.0
given s n l (Err fault.Ended) h g = absurd (h.1 g)
given s n l (Err (fault.Compacted rev)) h g = absurd (h.2 rev g)
given s n l (Err fault.Memory) h g = refl
given s n l (Err (fault.Gap expected found)) h g = absurd (unbroken s n (heads_in l) (fault.Gap expected found) h.0 g)
given s n l (Err (fault.Damaged key value)) h g = absurd (unbroken s n (heads_in l) (fault.Damaged key value) h.0 g)
