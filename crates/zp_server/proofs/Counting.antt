-- So many clients, and all of them.
use Rattle.std.proofs.Common.{◌≡◌, ℕ, ◌+◌, ◌^◌, ◌<◌, Bool, true, false, List, [], ◌∷◌, sym, subst, arith, add-one}
use Rattle.std.specs.Prelude.{Result, Ok, Err}
use Rattle.zp_server.specs.Telling.{Seen}
use Rattle.zp_server.specs.Logs.{LogGoes, Logs, LogStops, counting}
use Rattle.zp_server.specs.declared.ends.Stop.{Stop}
use Rattle.zp_server.proofs.Logging.{logs_none, logs_then}
use Rattle.zp_server.proofs.Stopping.{stops_done, stops_last}

-- ---- so many clients

-- nobody was let in yet
pub logs_begun : (size : ℕ) (busy : List ℕ) (t : Seen) → busy ≡ [] → Logs size false 0 (counting 0) [] busy t t
logs_begun size busy t idle = subst (λ (served : List ℕ). Logs size false 0 [] [] served t t) (sym idle) (logs_none size false [] t)

counting_next : (n : ℕ) → counting (n + 1) ≡ (n + 1) ∷ counting n
counting_next n = rw add-one

-- one more was let in
pub one_more_on : (size : ℕ) (n : ℕ) (busy busy' busy'' : List ℕ) (t t' t'' : Seen) → Logs size false n (counting n) busy busy' t t' → Logs size false 1 ((n + 1) ∷ []) busy' busy'' t' t''
    → Logs size false (n + 1) (counting (n + 1)) busy busy'' t t''
one_more_on size n busy busy' busy'' t t' t'' logs next =
    subst (λ (numbers : List ℕ). Logs size false (n + 1) numbers busy busy'' t t'') (sym (counting_next n))
    (logs_then size false n 1 (n + 1) (omega arith) (counting n) ((n + 1) ∷ []) busy busy' busy'' t t' t'' logs next)

-- the net has counted those that were let in
pub counted_so_far : (size : ℕ) (met : Bool) (k before : ℕ) (fresh busy busy' : List ℕ) (t t' : Seen) → Logs size met k fresh busy busy' t t' → (t.net).accepted ≡ before → before + k < 2 ^ 64 → (t'.net).accepted ≡ before + k
counted_so_far size met k before fresh busy busy' t t' logs from few = omega (arith, logs.accepted, from, few)

pub counted_from_none : (size : ℕ) (k : ℕ) (fresh busy busy' : List ℕ) (t t' : Seen) → Logs size false k fresh busy busy' t t' → (t.net).accepted ≡ 0 → k < 2 ^ 64 → (t'.net).accepted ≡ k
counted_from_none size k fresh busy busy' t t' logs from few = omega (arith, logs.accepted, from, few)

-- ---- all clients

-- the last were waited for
pub stops_end : (size : ℕ) (r : Result (Unit {0}) Stop) (limit : ℕ) (busy : List ℕ) (t t' t'' : Seen) → Logs size false limit (counting limit) [] busy t t' → LogGoes size r 0 [] busy [] t' t'' → LogStops size r limit [] t t''
stops_end size (Ok u) limit busy t t' t'' logs goes = stops_done size limit busy t t' t'' logs goes
stops_end size (Err why) limit busy t t' t'' logs halts = stops_last size why limit busy [] t t' t'' logs halts
