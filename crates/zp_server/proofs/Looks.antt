-- Looks at the hub, one after the other.
use Rattle.std.proofs.Common.{◌≡◌, ℕ, ◌+◌, ℤ, List, [], ◌∷◌, ◌++◌, refl, sym, ◌∙◌, inl, inr, ⊎_elim, subst, arith}
use Rattle.std.specs.Prelude.{Contains, Result, Ok, Err, OnOk}
use Rattle.std.proofs.lemmas.List.Elements.{Contains-append_left, Contains-append_right}
use Rattle.zw_hub.specs.Feeds.{IsFed, IsOneRead, if_closed}
use Rattle.zw_hub.specs.Readers.{ReaderState}
use Rattle.zw_hub.specs.declared.feed.Fed.{Fed}
use Rattle.zw_hub.specs.declared.feed.FeedEnd.{FeedEnd}
use Rattle.zw_hub.specs.declared.feed.Fed.TheVariants as fed
use Rattle.zk_service.specs.declared.cause.Cause.{Cause}
use Rattle.zp_server.specs.Looking.{Closes, Finds, IsFound, IsFoundClosed, FindsOpen, FindsOpenFor, FindsOpenTwice, Looks}
use Rattle.zp_server.specs.Telling.{Output, OutputSays}
use Rattle.zp_server.specs.declared.ends.Stop.{Stop}
use Rattle.zp_server.specs.declared.ends.Stop.TheVariants as stop

abbrev is_no_want : Fed → Type 0
is_no_want fed.Memory = ⊥
is_no_want _ = Unit {0}

-- the answer is that no entry is there yet
pub found_open : (s s' : ReaderState) (cursor : ℤ) → IsOneRead fed.None s.reads s'.reads s.list s'.list → IsFed s'.list cursor fed.None → s'.closings ≡ s.closings + if_closed fed.None → FindsOpen s s'
found_open s s' cursor (inl once) fed closings = let same : s'.closings ≡ s.closings + 0 = closings in record { once = once; unclosed = omega (arith, same); is_open = fed.1 }
found_open s s' cursor (inr unread) fed closings = absurd (subst is_no_want unread.0 tt)

-- before an accept and after it
pub open_twice : (s first between s' : ReaderState) → first ≡ s → FindsOpen first between → FindsOpen between s' → FindsOpenTwice s s'
open_twice s first between s' same a b = (between, subst (λ (r : ReaderState). FindsOpen r between) same a, b)

-- the client was served, or not
pub open_still : (r : Result (Unit {0}) Stop) (s s' s'' : ReaderState) → FindsOpenTwice s s' → s'' ≡ s' → OnOk r (FindsOpenTwice s s'')
open_still (Ok u) s s' s'' found same = subst (FindsOpenTwice s) (sym same) found
open_still (Err why) s s' s'' found same = tt

pub open_first : (s : ReaderState) → FindsOpenFor 0 s s
open_first s = record { reads = omega arith; unclosed = refl }

pub open_again : (n : ℕ) (s s' s'' : ReaderState) → FindsOpenFor n s s' → FindsOpenTwice s' s'' → FindsOpenFor (n + 1) s s''
open_again n s s' s'' h (between, a, b) = record { reads = omega (arith, h.reads, a.once, b.once); unclosed = b.unclosed ∙ a.unclosed ∙ h.unclosed }

-- ---- who found the list closed

-- the server's own reader
pub found_by_own : (why : Stop) (s s' : ReaderState) (free : List ReaderState) → Looks (Err why) s s' → IsFound why s' free
found_by_own (stop.Feed end) s s' free looks = record { reader = s'; ours = inl refl; closed = looks.0 }
found_by_own stop.Net s s' free looks = tt
found_by_own stop.Write s s' free looks = tt
found_by_own stop.Memory s s' free looks = tt

-- one that a worker handed back
pub found_by_returned : (r : Result (Unit {0}) Stop) (why : Cause) (s s' own : ReaderState) (free free' : List ReaderState) → Closes r why s s' → free' ≡ free ++ s' ∷ [] → Finds r own free'
found_by_returned (Ok u) why s s' own free free' closes kept = tt
found_by_returned (Err (stop.Feed end)) why s s' own free free' closes kept = record { reader = s'; ours = inr (subst (λ (rs : List ReaderState). Contains rs s') (sym kept) (Contains-append_right free (s' ∷ []) s' (0, omega arith, refl))); closed = closes.0 }
found_by_returned (Err stop.Net) why s s' own free free' closes kept = tt
found_by_returned (Err stop.Write) why s s' own free free' closes kept = tt
found_by_returned (Err stop.Memory) why s s' own free free' closes kept = tt

-- a line that was not written tells of no list
pub nothing_found : (r : Result (Unit {0}) Stop) (text : List ℕ) (o o' : Output) (own : ReaderState) (free : List ReaderState) → OutputSays r text o o' → Finds r own free
nothing_found (Ok u) text o o' own free says = tt
nothing_found (Err (stop.Feed end)) text o o' own free says = absurd says
nothing_found (Err stop.Net) text o o' own free says = tt
nothing_found (Err stop.Write) text o o' own free says = tt
nothing_found (Err stop.Memory) text o o' own free says = tt

-- a reader that is there stays there
pub found_still : (end : FeedEnd) (own own' : ReaderState) (free free' : List ReaderState) → own' ≡ own → ((r : ReaderState) → Contains free r → Contains free' r) → IsFoundClosed end own free → IsFoundClosed end own' free'
found_still end own own' free free' same kept found = record {
  reader = found.reader;
  ours = ⊎_elim (λ (mine : found.reader ≡ own). inl (mine ∙ sym same)) (λ (theirs : Contains free found.reader). inr (kept found.reader theirs)) found.ours;
  closed = found.closed;
}

-- a reader that is handed back is one more
pub kept_more : (free free' : List ReaderState) (more : ReaderState) → free' ≡ free ++ more ∷ [] → (r : ReaderState) → Contains free r → Contains free' r
kept_more free free' more is r there = subst (λ (rs : List ReaderState). Contains rs r) (sym is) (Contains-append_left free (more ∷ []) r there)
