-- One client that was accepted.
use Rattle.std.proofs.Common.{◌≡◌, ◌∙◌, ℕ, ◌<◌, false, List, [], ◌∷◌, ◌++◌, Option, refl, sym, ap, subst}
use Rattle.std.specs.Prelude.{Result, Ok, Err}
use Rattle.zx_net.specs.Nets.{NetCounts}
use Rattle.ev_link.specs.Reaching.{undialled_times}
use Rattle.zp_server.specs.Books.{Ending}
use Rattle.zp_server.specs.Lines.{no_link_text}
use Rattle.zp_server.specs.Telling.{Output, OutputSays, Seen}
use Rattle.zp_server.specs.Logs.{LogGoes, Logs, MemoryHalt}
use Rattle.zp_server.specs.declared.ends.Stop.{Stop}
use Rattle.zp_server.proofs.Logging.{logs_started, same_accepted, same_doors, times_failed}
use Rattle.zp_server.proofs.Halting.{starved, unlinked_said}
use Rattle.zp_server.proofs.Stopping.{one_later, one_on}

-- its worker was started
pub started : (size : ℕ) (number : ℕ) (busy busy' : List ℕ) (n n' : NetCounts) (o : Output) (book book' : Option (List Ending)) (failed : ℕ) → failed < size → n' ≡ undialled_times failed n → busy' ≡ busy ++ number ∷ [] → book' ≡ book →
    Logs size false 0 (number ∷ []) busy busy' (record { net = n; out = o; book = book }) (record { net = n'; out = o; book = book' })
started size number busy busy' n n' o book book' failed fewer net now_busy booked =
    subst (λ (b : List ℕ). Logs size false 0 (number ∷ []) busy b (record { net = n; out = o; book = book }) (record { net = n'; out = o; book = book' })) (sym now_busy)
    (logs_started size false number busy (record { net = n; out = o; book = book }) (record { net = n'; out = o; book = book' }) failed fewer net refl booked)

-- memory was refused for it
pub unstarted : (size : ℕ) (busy busy' : List ℕ) (n n' : NetCounts) (o : Output) (book book' : Option (List Ending)) (failed : ℕ) → n' ≡ undialled_times failed n → book' ≡ book →
    MemoryHalt size 0 busy (record { net = n; out = o; book = book }) (record { net = n'; out = o; book = book' })
unstarted size busy busy' n n' o book book' failed net booked =
    starved size 0 busy busy' (record { net = n; out = o; book = book }) (record { net = n'; out = o; book = book' }) (ap (λ (m : NetCounts). m.accepted) net ∙ same_accepted failed n) (ap (λ (m : NetCounts). m.door_faults) net ∙ same_doors failed n) refl booked

-- there is no link for it
pub undialled : (size : ℕ) (r : Result (Unit {0}) Stop) (number : ℕ) (busy : List ℕ) (n n' : NetCounts) (o o' : Output) (book : Option (List Ending)) → n' ≡ undialled_times size n → OutputSays r (no_link_text number) o o' →
    LogGoes size r 0 (number ∷ []) busy busy (record { net = n; out = o; book = book }) (record { net = n'; out = o'; book = book })
undialled size r number busy n n' o o' book net said =
    unlinked_said size r number busy (record { net = n; out = o; book = book }) (record { net = n'; out = o'; book = book }) (ap (λ (m : NetCounts). m.accepted) net ∙ same_accepted size n)
    (ap (λ (m : NetCounts). m.door_faults) net ∙ same_doors size n) (ap (λ (m : NetCounts). m.dial_faults) net ∙ times_failed size n) refl said

-- it was let in, and then served or not
pub one_served : (size : ℕ) (r : Result (Unit {0}) Stop) (number : ℕ) (busy busy' busy'' : List ℕ) (t t' t'' : Seen) → Logs size false 1 [] busy busy' t t' → LogGoes size r 0 (number ∷ []) busy' busy'' t' t'' → LogGoes size r 1 (number ∷ []) busy busy'' t t''
one_served size (Ok u) number busy busy' busy'' t t' t'' first goes = one_on size number busy busy' busy'' t t' t'' first goes
one_served size (Err why) number busy busy' busy'' t t' t'' first halts = one_later size why (number ∷ []) busy busy' busy'' t t' t'' first halts
