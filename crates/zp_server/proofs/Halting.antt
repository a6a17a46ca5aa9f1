-- How a server comes to accept no further client.
use Rattle.std.proofs.Common.{◌≡◌, ◌⊎◌, ℕ, ◌+◌, ◌<◌, ◌≤◌, true, false, List, [], ◌∷◌, Option, refl, sym, ap, inl, inr, subst, arith}
use Rattle.std.specs.Prelude.{IsPermutation, Result, Ok, Err}
use Rattle.zk_service.specs.declared.cause.Cause.{Cause}
use Rattle.zx_outside.specs.Counts.{one_more}
use Rattle.zw_hub.specs.Ends.{MayBeTold}
use Rattle.zw_hub.specs.declared.feed.FeedEnd.{FeedEnd}
use Rattle.zw_hub.specs.Readers.{ReaderState}
use Rattle.zx_net.specs.Nets.{NetCounts}
use Rattle.zp_server.specs.Books.{Ending, with_ending}
use Rattle.zp_server.specs.Lines.{Line, Closed, NoLink, closed_text, no_link_text, number_of_line, text_of}
use Rattle.zp_server.specs.Looking.{Closes, Looks}
use Rattle.zp_server.specs.Telling.{IsWritten, Output, OutputSays, Seen, more}
use Rattle.zp_server.specs.Logs.{AreFewClients, FeedHalt, LogGoes, LogHalts, IsAmong, LogLeaves, Logs, MemoryHalt, Rests, LogStops, counting}
use Rattle.zp_server.specs.declared.ends.Stop.{Stop}
use Rattle.zp_server.specs.declared.ends.Stop.TheVariants as stop
use Rattle.zp_server.proofs.Logging.{logs_closed, logs_met, logs_none, logs_then, logs_unlinked}

no_one : {x : ℕ} → [] ≡ x ∷ [] → ⊥
no_one e = cc

the_one : {x y : ℕ} → x ∷ [] ≡ y ∷ [] → x ≡ y
the_one e = cc

leaves_none : (left : List ℕ) (t : Seen) → LogLeaves left t t
leaves_none left t = record { accepted = refl; doors = refl; book = refl; taken = inl refl; unharmed = refl }

-- memory was refused after a log
pub starved_after : (size : ℕ) (most k : ℕ) (busy left busy' : List ℕ) (t t' : Seen) → k ≤ most → Logs size true k [] busy left t t' → MemoryHalt size most busy t t'
starved_after size most j busy remaining busy' t t' within log = record { k = j; few = within; left = remaining; between = t'; logs = log; leaves = leaves_none remaining t' }

-- memory was refused, and nothing has happened but perhaps a dial that failed
pub starved : (size : ℕ) (most : ℕ) (busy busy' : List ℕ) (t t' : Seen) → (t'.net).accepted ≡ (t.net).accepted → (t'.net).door_faults ≡ (t.net).door_faults → t'.out ≡ t.out → t'.book ≡ t.book
    → MemoryHalt size most busy t t'
starved size most busy busy' t t' accepted doors out book = record {
  k = 0;
  few = omega arith;
  left = busy;
  between = t;
  logs = logs_none size true busy t;
  leaves = record { accepted = accepted; doors = doors; book = book; taken = inl (ap (λ (o : Output). o.taken) out); unharmed = ap (λ (o : Output). o.counts) out };
}

-- a line could not be written, of a connection that is open or of the fresh one
pub unsaid : (size : ℕ) (why : Stop) (l : Line) (fresh busy busy' : List ℕ) (t t' : Seen) → IsAmong (number_of_line l) busy ⊎ ((fresh ≡ number_of_line l ∷ []) × (0 ≤ 0)) → (t'.net).accepted ≡ (t.net).accepted → (t'.net).door_faults ≡ (t.net).door_faults → t'.book ≡ t.book
    → OutputSays (Err why) (text_of l) t.out t'.out → LogHalts size why 0 fresh busy busy' t t'
unsaid size stop.Write l fresh busy busy' t t' owed accepted doors book cut = record {
  k = 0;
  few = omega arith;
  left = busy;
  between = t;
  logs = logs_none size true busy t;
  last = l;
  owed = owed;
  cut = record { accepted = accepted; doors = doors; out = cut; book = book };
}
unsaid size stop.Memory l fresh busy busy' t t' owed accepted doors book same = starved size 0 busy busy' t t' accepted doors same book
unsaid size stop.Net l fresh busy busy' t t' owed accepted doors book said = absurd said
unsaid size (stop.Feed end) l fresh busy busy' t t' owed accepted doors book said = absurd said

-- a line was written, and the book does not know of it
pub unbooked : (size : ℕ) (l : Line) (busy busy' : List ℕ) (t t' : Seen) → IsAmong (number_of_line l) busy → t'.net ≡ t.net → t'.book ≡ t.book → IsWritten (text_of l) t.out t'.out → MemoryHalt size 0 busy t t'
unbooked size l busy busy' t t' whose net book written = record {
  k = 0;
  few = omega arith;
  left = busy;
  between = t;
  logs = logs_none size true busy t;
  leaves = record { accepted = ap (λ (n : NetCounts). n.accepted) net; doors = ap (λ (n : NetCounts). n.door_faults) net; book = book; taken = inr (l, whose, written.taken); unharmed = written.unharmed };
}

-- a worker has handed back a connection, of which the line was written and the book knows; and its reader was asked for the hub
pub took_back : (size : ℕ) (r : Result (Unit {0}) Stop) (e : Ending) (s s' : ReaderState) (busy busy' : List ℕ) (t t' : Seen) → Closes r e.cause s s' → IsPermutation (e.number ∷ busy') busy
    → t'.net ≡ t.net → IsWritten (closed_text e.number e.cause) t.out t'.out → t'.book ≡ with_ending t.book e → LogGoes size r 0 [] busy busy' t t'
took_back size (Ok u) e s s' busy busy' t t' closes numbers net written book = logs_closed size false e busy busy' t t' (λ unmet. closes) numbers net written book
took_back size (Err (stop.Feed end)) e s s' busy busy' t t' closes numbers net written book =
    record { may = closes.1; k = 0; few = omega arith; logs = logs_closed size true e busy busy' t t' (λ (unmet : true ≡ false). absurd (cc)) numbers net written book }
took_back size (Err stop.Memory) e s s' busy busy' t t' closes numbers net written book =
    starved_after size 0 0 busy busy' busy' t t' (omega arith) (logs_closed size true e busy busy' t t' (λ (unmet : true ≡ false). absurd (cc)) numbers net written book)
took_back size (Err stop.Net) e s s' busy busy' t t' closes numbers net written book = absurd closes
took_back size (Err stop.Write) e s s' busy busy' t t' closes numbers net written book = absurd closes

-- its reader could not be kept
pub unkept : (size : ℕ) (e : Ending) (busy busy' : List ℕ) (t t' : Seen) → IsPermutation (e.number ∷ busy') busy
    → t'.net ≡ t.net → IsWritten (closed_text e.number e.cause) t.out t'.out → t'.book ≡ with_ending t.book e → MemoryHalt size 0 busy t t'
unkept size e busy busy' t t' numbers net written book =
    starved_after size 0 0 busy busy' busy' t t' (omega arith) (logs_closed size true e busy busy' t t' (λ (unmet : true ≡ false). absurd (cc)) numbers net written book)

-- ---- after other steps

owed_later : (number : ℕ) (left fresh : List ℕ) (j most k : ℕ) → IsAmong number left ⊎ ((fresh ≡ number ∷ []) × (most ≤ k)) → IsAmong number left ⊎ ((fresh ≡ number ∷ []) × (j + most ≤ j + k))
owed_later number left fresh j most k (inl among) = inl among
owed_later number left fresh j most k (inr (only, all)) = inr (only, omega (arith, all))

-- nobody is fresh
pub owed_open : {P : Type 0} (number : ℕ) (left : List ℕ) → IsAmong number left ⊎ (([] ≡ number ∷ []) × P) → IsAmong number left
owed_open number left (inl among) = among
owed_open number left (inr (none, _)) = absurd (no_one none)

-- after some log, with so many accepted in it
pub halts_later : (size : ℕ) (why : Stop) (j most : ℕ) (fresh busy busy' busy'' : List ℕ) (t t' t'' : Seen) → j + most ≤ 1 → Logs size false j [] busy busy' t t' → LogHalts size why most fresh busy' busy'' t' t''
    → LogHalts size why (j + most) fresh busy busy'' t t''
halts_later size stop.Net j most fresh busy busy' busy'' t t' t'' few logs h =
    let none : j ≡ 0 = omega (arith, few, h.0) in (
      omega (arith, h.0),
      record {
        left = (h.1).left;
        between = (h.1).between;
        logs = logs_then size false 0 0 0 (omega arith) [] [] busy busy' (h.1).left t t' (h.1).between (rw none at logs) (h.1).logs;
        faulted = (h.1).faulted;
      },
    )
halts_later size (stop.Feed end) j most fresh busy busy' busy'' t t' t'' few logs h = record {
  may = h.may;
  k = j + h.k;
  few = omega (arith, h.few);
  logs = logs_then size true j h.k (j + h.k) (omega arith) [] [] busy busy' busy'' t t' t'' (logs_met size false j [] busy busy' t t' logs) h.logs;
}
halts_later size stop.Write j most fresh busy busy' busy'' t t' t'' few logs h = record {
  k = j + h.k;
  few = omega (arith, h.few);
  left = h.left;
  between = h.between;
  logs = logs_then size true j h.k (j + h.k) (omega arith) [] [] busy busy' h.left t t' h.between (logs_met size false j [] busy busy' t t' logs) h.logs;
  last = h.last;
  owed = owed_later (number_of_line h.last) h.left fresh j most h.k h.owed;
  cut = h.cut;
}
halts_later size stop.Memory j most fresh busy busy' busy'' t t' t'' few logs h = record {
  k = j + h.k;
  few = omega (arith, h.few);
  left = h.left;
  between = h.between;
  logs = logs_then size true j h.k (j + h.k) (omega arith) [] [] busy busy' h.left t t' h.between (logs_met size false j [] busy busy' t t' logs) h.logs;
  leaves = h.leaves;
}

-- at most so many were accepted, and perhaps one is fresh
pub halts_most : (size : ℕ) (why : Stop) (most most' : ℕ) (fresh busy busy' : List ℕ) (t t' : Seen) → most ≤ most' → LogHalts size why most [] busy busy' t t' → LogHalts size why most' fresh busy busy' t t'
halts_most size stop.Net most most' fresh busy busy' t t' le h = (omega (arith, le, h.0), h.1)
halts_most size (stop.Feed end) most most' fresh busy busy' t t' le h = record { may = h.may; k = h.k; few = omega (arith, le, h.few); logs = h.logs }
halts_most size stop.Write most most' fresh busy busy' t t' le h = record {
  k = h.k;
  few = omega (arith, le, h.few);
  left = h.left;
  between = h.between;
  logs = h.logs;
  last = h.last;
  owed = inl (owed_open (number_of_line h.last) h.left h.owed);
  cut = h.cut;
}
halts_most size stop.Memory most most' fresh busy busy' t t' le h = record { k = h.k; few = omega (arith, le, h.few); left = h.left; between = h.between; logs = h.logs; leaves = h.leaves }

-- the hub was found closed by the server's own reader
pub looked : (size : ℕ) (why : Stop) (s s' : ReaderState) (most k : ℕ) (busy busy' : List ℕ) (t t' : Seen) → k ≤ most → Looks (Err why) s s' → Logs size false k [] busy busy' t t' → LogHalts size why most [] busy busy' t t'
looked size (stop.Feed end) s s' most k busy busy' t t' few looks logs = record { may = looks.1; k = k; few = few; logs = logs_met size false k [] busy busy' t t' logs }
looked size stop.Memory s s' most k busy busy' t t' few looks logs = starved_after size most k busy busy' busy' t t' few (logs_met size false k [] busy busy' t t' logs)
looked size stop.Net s s' most k busy busy' t t' few looks logs = absurd looks
looked size stop.Write s s' most k busy busy' t t' few looks logs = absurd looks

-- ---- all clients

few_of : (n k limit : ℕ) → n < limit → k ≤ 1 → AreFewClients n (n + k) limit
few_of n k limit fewer few = record { least = omega arith; most = omega (arith, few); within = omega (arith, fewer, few) }

owed_next : (number n k : ℕ) (left : List ℕ) → k ≤ 1 → IsAmong number left ⊎ (((n + 1) ∷ [] ≡ number ∷ []) × (1 ≤ k)) → IsAmong number left ⊎ ((number ≡ n + 1) × (n + k ≡ n + 1))
owed_next number n k left few (inl among) = inl among
owed_next number n k left few (inr (only, all)) = inr (sym (the_one only), omega (arith, few, all))

-- n clients were served or are, and the next was not accepted or not served
pub stops_at : (size : ℕ) (why : Stop) (n limit : ℕ) (busy busy' busy'' : List ℕ) (t t' t'' : Seen) → n < limit → Logs size false n (counting n) [] busy' t t' → LogHalts size why 1 ((n + 1) ∷ []) busy' busy'' t' t''
    → LogStops size (Err why) limit busy'' t t''
stops_at size stop.Net n limit busy busy' busy'' t t' t'' fewer logs h = record {
  n = n;
  fewer = fewer;
  left = (h.1).left;
  between = (h.1).between;
  logs = logs_then size false n 0 n (omega arith) (counting n) [] [] busy' (h.1).left t t' (h.1).between logs (h.1).logs;
  faulted = (h.1).faulted;
}
stops_at size (stop.Feed end) n limit busy busy' busy'' t t' t'' fewer logs h = record {
  may = h.may;
  n = n;
  k = n + h.k;
  few = few_of n h.k limit fewer h.few;
  logs = logs_then size true n h.k (n + h.k) (omega arith) (counting n) [] [] busy' busy'' t t' t'' (logs_met size false n (counting n) [] busy' t t' logs) h.logs;
}
stops_at size stop.Write n limit busy busy' busy'' t t' t'' fewer logs h = record {
  n = n;
  k = n + h.k;
  few = few_of n h.k limit fewer h.few;
  left = h.left;
  between = h.between;
  logs = logs_then size true n h.k (n + h.k) (omega arith) (counting n) [] [] busy' h.left t t' h.between (logs_met size false n (counting n) [] busy' t t' logs) h.logs;
  last = h.last;
  owed = owed_next (number_of_line h.last) n h.k h.left h.few h.owed;
  cut = h.cut;
}
stops_at size stop.Memory n limit busy busy' busy'' t t' t'' fewer logs h = record {
  n = n;
  k = n + h.k;
  few = few_of n h.k limit fewer h.few;
  left = h.left;
  between = h.between;
  logs = logs_then size true n h.k (n + h.k) (omega arith) (counting n) [] [] busy' h.left t t' h.between (logs_met size false n (counting n) [] busy' t t' logs) h.logs;
  leaves = h.leaves;
}

-- ---- what the calls of a server make of these

-- the number of a connection that was handed back was not open
pub not_open : (size : ℕ) (busy busy' : List ℕ) (net : NetCounts) (o : Output) (book : Option (List Ending)) →
    MemoryHalt size 0 busy (record { net = net; out = o; book = book }) (record { net = net; out = o; book = book })
not_open size busy busy' net o book = starved size 0 busy busy' _ _ refl refl refl refl

-- its line could not be written
pub unclosed : (size : ℕ) (why : Stop) (number : ℕ) (end : Cause) (busy busy' : List ℕ) (net : NetCounts) (o o' : Output) (book : Option (List Ending)) → IsPermutation (number ∷ busy') busy → OutputSays (Err why) (closed_text number end) o o' →
    LogHalts size why 0 [] busy busy' (record { net = net; out = o; book = book }) (record { net = net; out = o'; book = book })
unclosed size why number end busy busy' net o o' book numbers said = unsaid size why (Closed (record { number = number; cause = end })) [] busy busy' _ _ (inl (busy', numbers)) refl refl refl said

-- the book refused it
pub unbooked_closed : (size : ℕ) (number : ℕ) (end : Cause) (busy busy' : List ℕ) (net : NetCounts) (o o' : Output) (book book' : Option (List Ending)) → IsPermutation (number ∷ busy') busy → OutputSays (Ok tt) (closed_text number end) o o' → book' ≡ book →
    MemoryHalt size 0 busy (record { net = net; out = o; book = book }) (record { net = net; out = o'; book = book' })
unbooked_closed size number end busy busy' net o o' book book' numbers said same = unbooked size (Closed (record { number = number; cause = end })) busy busy' _ _ (busy', numbers) refl same said

-- there was no room for its reader
pub unkept_closed : (size : ℕ) (number : ℕ) (end : Cause) (busy busy' : List ℕ) (net : NetCounts) (o o' : Output) (book book' : Option (List Ending)) → IsPermutation (number ∷ busy') busy → OutputSays (Ok tt) (closed_text number end) o o'
    → book' ≡ with_ending book (record { number = number; cause = end }) → MemoryHalt size 0 busy (record { net = net; out = o; book = book }) (record { net = net; out = o'; book = book' })
unkept_closed size number end busy busy' net o o' book book' numbers said taken = unkept size (record { number = number; cause = end }) busy busy' _ _ numbers refl said taken

-- it was taken back
pub taken_closed : (size : ℕ) (r : Result (Unit {0}) Stop) (number : ℕ) (end : Cause) (s s' : ReaderState) (busy busy' : List ℕ) (net : NetCounts) (o o' : Output) (book book' : Option (List Ending)) → Closes r end s s'
    → IsPermutation (number ∷ busy') busy → OutputSays (Ok tt) (closed_text number end) o o' → book' ≡ with_ending book (record { number = number; cause = end })
    → LogGoes size r 0 [] busy busy' (record { net = net; out = o; book = book }) (record { net = net; out = o'; book = book' })
taken_closed size r number end s s' busy busy' net o o' book book' closes numbers said taken = took_back size r (record { number = number; cause = end }) s s' busy busy' _ _ closes numbers refl said taken

-- ---- a client that was accepted

-- there is no link for it
pub unlinked_said : (size : ℕ) (r : Result (Unit {0}) Stop) (number : ℕ) (busy : List ℕ) (t t' : Seen) → (t'.net).accepted ≡ (t.net).accepted → (t'.net).door_faults ≡ (t.net).door_faults
    → (t'.net).dial_faults ≡ more size (t.net).dial_faults → t'.book ≡ t.book → OutputSays r (no_link_text number) t.out t'.out → LogGoes size r 0 (number ∷ []) busy busy t t'
unlinked_said size (Ok u) number busy t t' accepted doors dials book said = logs_unlinked size false number busy t t' accepted doors dials said book
unlinked_said size (Err why) number busy t t' accepted doors dials book said = unsaid size why (NoLink number) (number ∷ []) busy busy t t' (inr (refl, omega arith)) accepted doors book said

-- ---- one after the other, with nobody accepted

pub goes_on : (size : ℕ) (busy busy' busy'' : List ℕ) (t t' t'' : Seen) → Logs size false 0 [] busy busy' t t' → LogGoes size (Ok tt) 0 [] busy' busy'' t' t'' → Logs size false 0 [] busy busy'' t t''
goes_on size busy busy' busy'' t t' t'' logs next = logs_then size false 0 0 0 (omega arith) [] [] busy busy' busy'' t t' t'' logs next

pub goes_later : (size : ℕ) (why : Stop) (most : ℕ) (busy busy' busy'' : List ℕ) (t t' t'' : Seen) → most ≤ 1 → Logs size false 0 [] busy busy' t t' → LogHalts size why most [] busy' busy'' t' t'' → LogHalts size why most [] busy busy'' t t''
goes_later size why most busy busy' busy'' t t' t'' few logs h =
    let all : 0 + most ≡ most = omega arith in
    subst (λ (n : ℕ). LogHalts size why n [] busy busy'' t t'') all (halts_later size why 0 most [] busy busy' busy'' t t' t'' (omega (arith, few)) logs h)

pub starves_later : (size : ℕ) (most : ℕ) (busy busy' busy'' : List ℕ) (t t' : Seen) → Logs size false 0 [] busy busy' t t' → MemoryHalt size most busy t t'
starves_later size most busy busy' busy'' t t' logs = starved_after size most 0 busy busy' busy'' t t' (omega arith) (logs_met size false 0 [] busy busy' t t' logs)

-- the hub is known to be closed

pub met_on : (size : ℕ) (busy busy' busy'' : List ℕ) (t t' t'' : Seen) → Logs size true 0 [] busy busy' t t' → Rests size (Ok tt) busy' busy'' t' t'' → Logs size true 0 [] busy busy'' t t''
met_on size busy busy' busy'' t t' t'' logs next = logs_then size true 0 0 0 (omega arith) [] [] busy busy' busy'' t t' t'' logs next

-- another found it closed too
pub met_found : (size : ℕ) (end : FeedEnd) (busy busy' : List ℕ) (t t' : Seen) → FeedHalt size end 0 busy busy' t t' → Logs size true 0 [] busy busy' t t'
met_found size end busy busy' t t' h = let none : h.k ≡ 0 = omega (arith, h.few) in subst (λ (n : ℕ). Logs size true n [] busy busy' t t') none h.logs

-- nobody is left
pub rested : (size : ℕ) (end : FeedEnd) (busy busy' : List ℕ) (t t' : Seen) → MayBeTold end → busy' ≡ [] → Logs size true 0 [] busy busy' t t' → FeedHalt size end 0 busy [] t t'
rested size end busy busy' t t' may none logs = record { may = may; k = 0; few = omega arith; logs = subst (λ (b : List ℕ). Logs size true 0 [] busy b t t') none logs }

pub met_later : (size : ℕ) (why : Stop) (busy busy' busy'' : List ℕ) (t t' t'' : Seen) → Logs size true 0 [] busy busy' t t' → LogHalts size why 0 [] busy' busy'' t' t'' → LogHalts size why 0 [] busy busy'' t t''
met_later size stop.Net busy busy' busy'' t t' t'' logs h = absurd (omega (arith, h.0))
met_later size (stop.Feed end) busy busy' busy'' t t' t'' logs h =
    record { may = h.may; k = h.k; few = h.few; logs = logs_then size true 0 h.k h.k (omega arith) [] [] busy busy' busy'' t t' t'' logs h.logs }
met_later size stop.Write busy busy' busy'' t t' t'' logs h = record {
  k = h.k;
  few = h.few;
  left = h.left;
  between = h.between;
  logs = logs_then size true 0 h.k h.k (omega arith) [] [] busy busy' h.left t t' h.between logs h.logs;
  last = h.last;
  owed = h.owed;
  cut = h.cut;
}
met_later size stop.Memory busy busy' busy'' t t' t'' logs h = record {
  k = h.k;
  few = h.few;
  left = h.left;
  between = h.between;
  logs = logs_then size true 0 h.k h.k (omega arith) [] [] busy busy' h.left t t' h.between logs h.logs;
  leaves = h.leaves;
}

pub met_starved : (size : ℕ) (busy busy' busy'' : List ℕ) (t t' : Seen) → Logs size true 0 [] busy busy' t t' → MemoryHalt size 0 busy t t'
met_starved size busy busy' busy'' t t' logs = starved_after size 0 0 busy busy' busy'' t t' (omega arith) logs

-- one found it closed, and the others were waited for
pub rest_later : (size : ℕ) (end : FeedEnd) (why : Stop) (busy busy' busy'' : List ℕ) (t t' t'' : Seen) → FeedHalt size end 0 busy busy' t t' → (MayBeTold end → LogHalts size why 0 [] busy' busy'' t' t'') → LogHalts size why 0 [] busy busy'' t t''
rest_later size end why busy busy' busy'' t t' t'' found rest = met_later size why busy busy' busy'' t t' t'' (met_found size end busy busy' t t' found) (rest found.may)
