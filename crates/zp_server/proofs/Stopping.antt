-- A client that is let in, and a server that accepts no more.
use Rattle.std.proofs.Common.{◌≡◌, ℕ, ◌+◌, ◌≤◌, true, false, List, [], ◌∷◌, Option, refl, ap, inl, arith}
use Rattle.std.specs.Prelude.{Err}
use Rattle.zx_outside.specs.Counts.{one_more}
use Rattle.zw_hub.specs.declared.feed.FeedEnd.{FeedEnd}
use Rattle.zx_net.specs.Nets.{NetCounts}
use Rattle.zp_server.specs.Books.{Ending}
use Rattle.zp_server.specs.Lines.{number_of_line}
use Rattle.zp_server.specs.Telling.{DoorFaulted, Output, Seen}
use Rattle.zp_server.specs.Logs.{AreFewClients, FeedStop, LogHalts, Logs, LogStops, counting}
use Rattle.zp_server.specs.declared.ends.Stop.{Stop}
use Rattle.zp_server.specs.declared.ends.Stop.TheVariants as stop
use Rattle.zp_server.proofs.Logging.{logs_accepted, logs_met, logs_then}
use Rattle.zp_server.proofs.Halting.{halts_later, owed_open}

-- ---- one client

-- it was accepted, once room was made
pub admitted : (size : ℕ) (busy busy' : List ℕ) (t t' t'' : Seen) → Logs size false 0 [] busy busy' t t' → (t''.net).accepted ≡ one_more (t'.net).accepted → (t''.net).door_faults ≡ (t'.net).door_faults
    → (t''.net).dial_faults ≡ (t'.net).dial_faults → t''.out ≡ t'.out → t''.book ≡ t'.book → Logs size false 1 [] busy busy' t t''
admitted size busy busy' t t' t'' logs accepted doors dials out book =
    logs_then size false 0 1 1 (omega arith) [] [] busy busy' busy' t t' t'' logs (logs_accepted size false busy' t' t'' accepted doors dials out book)

-- the door had a fault, once room was made
pub shut : (size : ℕ) (busy busy' busy'' : List ℕ) (t t' t'' : Seen) → Logs size false 0 [] busy busy' t t' → DoorFaulted t' t'' → LogHalts size stop.Net 1 [] busy busy'' t t''
shut size busy busy' busy'' t t' t'' logs faulted = (omega arith, record { left = busy'; between = t'; logs = logs; faulted = faulted })

door_faulted : (n n' : NetCounts) (o : Output) (book : Option (List Ending)) → n' ≡ record n { door_faults = one_more n.door_faults } → DoorFaulted (record { net = n; out = o; book = book }) (record { net = n'; out = o; book = book })
door_faulted n n' o book is = record {
  accepted = ap (λ (m : NetCounts). m.accepted) is;
  dials = ap (λ (m : NetCounts). m.dial_faults) is;
  faulted = ap (λ (m : NetCounts). m.door_faults) is;
  out = refl;
  book = refl;
}

-- by what the net counts
pub let_in : (size : ℕ) (busy busy' : List ℕ) (n n' : NetCounts) (o o' : Output) (book book' : Option (List Ending)) → Logs size false 0 [] busy busy' (record { net = n; out = o; book = book }) (record { net = n; out = o'; book = book' })
    → n' ≡ record n { accepted = one_more n.accepted } → Logs size false 1 [] busy busy' (record { net = n; out = o; book = book }) (record { net = n'; out = o'; book = book' })
let_in size busy busy' n n' o o' book book' logs is =
    admitted size busy busy' _ (record { net = n; out = o'; book = book' }) _ logs (ap (λ (m : NetCounts). m.accepted) is) (ap (λ (m : NetCounts). m.door_faults) is) (ap (λ (m : NetCounts). m.dial_faults) is) refl refl

pub shut_out : (size : ℕ) (busy busy' busy'' : List ℕ) (n n' : NetCounts) (o o' : Output) (book book' : Option (List Ending)) → Logs size false 0 [] busy busy' (record { net = n; out = o; book = book }) (record { net = n; out = o'; book = book' })
    → n' ≡ record n { door_faults = one_more n.door_faults } → LogHalts size stop.Net 1 [] busy busy'' (record { net = n; out = o; book = book }) (record { net = n'; out = o'; book = book' })
shut_out size busy busy' busy'' n n' o o' book book' logs is = shut size busy busy' busy'' _ (record { net = n; out = o'; book = book' }) _ logs (door_faulted n n' o' book' is)

-- it was let in, and then served
pub one_on : (size : ℕ) (number : ℕ) (busy busy' busy'' : List ℕ) (t t' t'' : Seen) → Logs size false 1 [] busy busy' t t' → Logs size false 0 (number ∷ []) busy' busy'' t' t'' → Logs size false 1 (number ∷ []) busy busy'' t t''
one_on size number busy busy' busy'' t t' t'' first then = logs_then size false 1 0 1 (omega arith) [] (number ∷ []) busy busy' busy'' t t' t'' first then

-- it was let in, and could not be served
pub one_later : (size : ℕ) (why : Stop) (fresh busy busy' busy'' : List ℕ) (t t' t'' : Seen) → Logs size false 1 [] busy busy' t t' → LogHalts size why 0 fresh busy' busy'' t' t'' → LogHalts size why 1 fresh busy busy'' t t''
one_later size why fresh busy busy' busy'' t t' t'' first h = halts_later size why 1 0 fresh busy busy' busy'' t t' t'' (omega arith) first h

-- ---- all clients

few_still : (n k j limit : ℕ) → AreFewClients n k limit → j ≤ 0 → AreFewClients n (k + j) limit
few_still n k j limit few none = record { least = omega (arith, few.least); most = omega (arith, few.most, none); within = omega (arith, few.within, none) }

few_all : (limit : ℕ) → AreFewClients limit limit limit
few_all limit = record { least = omega arith; most = omega arith; within = omega arith }

-- all were accepted, and all have ended
pub stops_done : (size : ℕ) (limit : ℕ) (busy : List ℕ) (t t' t'' : Seen) → Logs size false limit (counting limit) [] busy t t' → Logs size false 0 [] busy [] t' t'' → Logs size false limit (counting limit) [] [] t t''
stops_done size limit busy t t' t'' first then = logs_then size false limit 0 limit (omega arith) (counting limit) [] [] busy [] t t' t'' first then

-- all were accepted, and something went wrong while the last were waited for
pub stops_last : (size : ℕ) (why : Stop) (limit : ℕ) (busy busy' : List ℕ) (t t' t'' : Seen) → Logs size false limit (counting limit) [] busy t t' → LogHalts size why 0 [] busy busy' t' t'' → LogStops size (Err why) limit busy' t t''
stops_last size stop.Net limit busy busy' t t' t'' logs h = absurd (omega (arith, h.0))
stops_last size (stop.Feed end) limit busy busy' t t' t'' logs h = record {
  may = h.may;
  n = limit;
  k = limit + h.k;
  few = few_still limit limit h.k limit (few_all limit) h.few;
  logs = logs_then size true limit h.k (limit + h.k) (omega arith) (counting limit) [] [] busy busy' t t' t'' (logs_met size false limit (counting limit) [] busy t t' logs) h.logs;
}
stops_last size stop.Write limit busy busy' t t' t'' logs h = record {
  n = limit;
  k = limit + h.k;
  few = few_still limit limit h.k limit (few_all limit) h.few;
  left = h.left;
  between = h.between;
  logs = logs_then size true limit h.k (limit + h.k) (omega arith) (counting limit) [] [] busy h.left t t' h.between (logs_met size false limit (counting limit) [] busy t t' logs) h.logs;
  last = h.last;
  owed = inl (owed_open (number_of_line h.last) h.left h.owed);
  cut = h.cut;
}
stops_last size stop.Memory limit busy busy' t t' t'' logs h = record {
  n = limit;
  k = limit + h.k;
  few = few_still limit limit h.k limit (few_all limit) h.few;
  left = h.left;
  between = h.between;
  logs = logs_then size true limit h.k (limit + h.k) (omega arith) (counting limit) [] [] busy h.left t t' h.between (logs_met size false limit (counting limit) [] busy t t' logs) h.logs;
  leaves = h.leaves;
}

-- the hub was found closed, and this is what became of the others
pub stops_rest : (size : ℕ) (end : FeedEnd) (why : Stop) (limit : ℕ) (busy busy' : List ℕ) (t t' t'' : Seen) → FeedStop size end limit busy t t' → LogHalts size why 0 [] busy busy' t' t'' → LogStops size (Err why) limit busy' t t''
stops_rest size end stop.Net limit busy busy' t t' t'' f h = absurd (omega (arith, h.0))
stops_rest size end (stop.Feed last) limit busy busy' t t' t'' f h = record {
  may = h.may;
  n = f.n;
  k = f.k + h.k;
  few = few_still f.n f.k h.k limit f.few h.few;
  logs = logs_then size true f.k h.k (f.k + h.k) (omega arith) (counting f.n) [] [] busy busy' t t' t'' f.logs h.logs;
}
stops_rest size end stop.Write limit busy busy' t t' t'' f h = record {
  n = f.n;
  k = f.k + h.k;
  few = few_still f.n f.k h.k limit f.few h.few;
  left = h.left;
  between = h.between;
  logs = logs_then size true f.k h.k (f.k + h.k) (omega arith) (counting f.n) [] [] busy h.left t t' h.between f.logs h.logs;
  last = h.last;
  owed = inl (owed_open (number_of_line h.last) h.left h.owed);
  cut = h.cut;
}
stops_rest size end stop.Memory limit busy busy' t t' t'' f h = record {
  n = f.n;
  k = f.k + h.k;
  few = few_still f.n f.k h.k limit f.few h.few;
  left = h.left;
  between = h.between;
  logs = logs_then size true f.k h.k (f.k + h.k) (omega arith) (counting f.n) [] [] busy h.left t t' h.between f.logs h.logs;
  leaves = h.leaves;
}
