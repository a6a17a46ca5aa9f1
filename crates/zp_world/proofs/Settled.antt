-- Settle does one line after the other.
use Rattle.std.proofs.Common.{◌≡◌, ℕ, zero, suc, refl, sym, ap, ◌∙◌, subst, Bool, true, false}
use Rattle.std.specs.Prelude.{Option, Some, None, if◌then◌else◌, is_none, is_some, not}
use Rattle.zp_script.specs.declared.flight.Asking.{Asking}
use Rattle.zp_script.specs.declared.flight.Flight.{Flight}
use Rattle.zp_script.specs.declared.flight.Flight.TheVariants.{Out, Carried, Denied}
use Rattle.zp_script.specs.Effects.{Does}
use Rattle.zp_script.specs.Entries.{next_entry}
use Rattle.zp_script.specs.Faults.{fault, flight_at, if_fails, is_reaper_at, is_to_carry_out}
use Rattle.zp_script.specs.Happens.{Settles, entry_line, flight_line, is_waiting, settling, settling_conn}
use Rattle.zp_script.specs.Worlds.{Actor, Closed, Conn, Connection, Reaper, World, conn_at, is_closed_actor, is_reaper}
use Rattle.zt_text.specs.declared.script.Happening.{Happening}
use Rattle.zt_text.specs.declared.script.Happening.TheVariants as line
use Rattle.zt_text.specs.declared.script.Why.{Why}
use Rattle.zt_text.specs.declared.script.Why.TheVariants as why
use Rattle.zx_base.proofs.Options.{none_some, some_is}
use Rattle.zp_world.specs.Moving.{line_of}
use Rattle.zp_world.specs.declared.settling.Move.{Move}
use Rattle.zp_world.specs.declared.settling.Move.TheVariants.{Execute, Deliver, Enter}
use Rattle.zp_world.proofs.Possible.{flight-is, open-allowed, reaper-is}

-- ---- one more

SettlesBy : ℕ → ℕ → World → World → Option Happening → Type 0
SettlesBy n c w w' None = w' ≡ w
SettlesBy n c w w' (Some h) = (mid : World) × Does w h mid × Settles n c mid w'

settles-by : (n c : ℕ) (w w' : World) → SettlesBy n c w w' (settling c w) → Settles (suc n) c w w'
unfolding SettlesBy
settles-by n c w w' h = h

pub settles-more : (n c : ℕ) (w mid w' : World) (h : Happening) → settling c w ≡ Some h → Does w h mid → Settles n c mid w' → Settles (suc n) c w w'
unfolding SettlesBy
settles-more n c w mid w' h is does more = settles-by n c w w' (subst (SettlesBy n c w w') (sym is) (mid, does, more))

-- nothing is left
pub settles-none : (n c : ℕ) (w : World) → settling c w ≡ None → Settles n c w w
unfolding SettlesBy
settles-none zero c w is = refl
settles-none (suc n) c w is = settles-by n c w w (subst (SettlesBy n c w w) (sym is) refl)

-- ---- the line that settle does is possible

where-none : {A : Type 0} (b : Bool) (o : Option A) (x : A) → (if b then None else o) ≡ Some x → (b ≡ false) × (o ≡ Some x)
where-none true o x h = absurd (none_some h)
where-none false o x h = (refl, h)

where-some : {A : Type 0} (b : Bool) (o : Option A) (x : A) → (if b then o else None) ≡ Some x → (b ≡ true) × (o ≡ Some x)
where-some true o x h = (refl, h)
where-some false o x h = absurd (none_some h)

opened : (c : ℕ) (w : World) (h : Happening) (o : Option Conn) → conn_at c w ≡ o → settling_conn c w o ≡ Some h → (x : Conn) × (conn_at c w ≡ Some x) × (is_closed_actor x.actor ≡ false) × (flight_line c w x x.flight ≡ Some h)
opened c w h None found is = absurd (none_some is)
opened c w h (Some x) found is = let p = where-none (is_closed_actor x.actor) (flight_line c w x x.flight) h is in (x, found, p.0, p.1)

no-entry : (c : ℕ) (w : World) (x : Conn) (h : Happening) → entry_line c w x ≡ Some h → h ≡ line.Entry c
no-entry c w x h is =
    let p = where-some (is_waiting x.actor) (if is_some (next_entry c w) then Some (line.Entry c) else None) h is in
    let q = where-some (is_some (next_entry c w)) (Some (line.Entry c)) h p.1 in
    sym (some_is q.1)

exec-out : (c : ℕ) (w : World) (x : Conn) (f : Option Flight) → flight_line c w x f ≡ Some (line.Exec c) → (asking : Asking) × (f ≡ Some (Out asking))
exec-out c w x None is = absurd (let e : line.Exec c ≡ line.Entry c = no-entry c w x (line.Exec c) is in cc)
exec-out c w x (Some (Out asking)) is = (asking, refl)
exec-out c w x (Some (Carried a)) is = absurd (let e : line.Answer c ≡ line.Exec c = some_is is in cc)
exec-out c w x (Some Denied) is = absurd (let e : line.Answer c ≡ line.Exec c = some_is is in cc)

abbrev IsBack : Option Flight → Type 0
IsBack (Some (Carried a)) = Unit {0}
IsBack (Some Denied) = Unit {0}
IsBack _ = ⊥

answer-out : (c : ℕ) (w : World) (x : Conn) (f : Option Flight) → flight_line c w x f ≡ Some (line.Answer c) → IsBack f
answer-out c w x None is = absurd (let e : line.Answer c ≡ line.Entry c = no-entry c w x (line.Answer c) is in cc)
answer-out c w x (Some (Out asking)) is = absurd (let e : line.Exec c ≡ line.Answer c = some_is is in cc)
answer-out c w x (Some (Carried a)) is = tt
answer-out c w x (Some Denied) is = tt

entry-out : (c : ℕ) (w : World) (x : Conn) (f : Option Flight) → flight_line c w x f ≡ Some (line.Entry c) → (f ≡ None) × (is_waiting x.actor ≡ true) × (is_some (next_entry c w) ≡ true)
entry-out c w x None is =
    let p = where-some (is_waiting x.actor) (if is_some (next_entry c w) then Some (line.Entry c) else None) (line.Entry c) is in
    let q = where-some (is_some (next_entry c w)) (Some (line.Entry c)) (line.Entry c) p.1 in
    (refl, p.0, q.0)
entry-out c w x (Some (Out asking)) is = absurd (let e : line.Exec c ≡ line.Entry c = some_is is in cc)
entry-out c w x (Some (Carried a)) is = absurd (let e : line.Answer c ≡ line.Entry c = some_is is in cc)
entry-out c w x (Some Denied) is = absurd (let e : line.Answer c ≡ line.Entry c = some_is is in cc)

-- ---- its tests

exec-allowed : (c : ℕ) (w : World) (x : Conn) (asking : Asking) → conn_at c w ≡ Some x → is_closed_actor x.actor ≡ false → x.flight ≡ Some (Out asking) → fault w (line.Exec c) ≡ None
unfolding fault
exec-allowed c w x asking there live out =
    open-allowed c w x _ there live
    ∙ ap (λ (f : Option Flight). if_fails (is_none f) why.NoRequestOut (if_fails (not (is_to_carry_out f)) why.AlreadyCarriedOut None)) (flight-is c w x there ∙ out)

back-allowed : (f : Option Flight) → IsBack f → if_fails (is_none f) why.NoRequestOut (if_fails (is_to_carry_out f) why.NotCarriedOut None) ≡ None
back-allowed None back = absurd back
back-allowed (Some (Out asking)) back = absurd back
back-allowed (Some (Carried a)) back = refl
back-allowed (Some Denied) back = refl

answer-allowed : (c : ℕ) (w : World) (x : Conn) → conn_at c w ≡ Some x → is_closed_actor x.actor ≡ false → IsBack x.flight → fault w (line.Answer c) ≡ None
unfolding fault
answer-allowed c w x there live back =
    open-allowed c w x _ there live
    ∙ ap (λ (f : Option Flight). if_fails (is_none f) why.NoRequestOut (if_fails (is_to_carry_out f) why.NotCarriedOut None)) (flight-is c w x there) ∙ back-allowed x.flight back

waiting-serves : (a : Actor) → is_waiting a ≡ true → is_reaper a ≡ false
waiting-serves (Connection core) h = refl
waiting-serves (Reaper reap) h = absurd (let e : false ≡ true = h in cc)
waiting-serves Closed h = refl

not-none : {A : Type 0} (o : Option A) → is_some o ≡ true → is_none o ≡ false
not-none None h = absurd (let e : false ≡ true = h in cc)
not-none (Some x) h = refl

entry-allowed : (c : ℕ) (w : World) (x : Conn) → conn_at c w ≡ Some x → is_closed_actor x.actor ≡ false → is_waiting x.actor ≡ true → x.flight ≡ None → is_some (next_entry c w) ≡ true → fault w (line.Entry c) ≡ None
unfolding fault
entry-allowed c w x there live waits out next =
    let later : Option Why = if_fails (is_none (next_entry c w)) why.NoEntry None in
    open-allowed c w x (if_fails (is_reaper_at c w) why.NotAConnection (if_fails (is_some (flight_at c w)) why.RequestOut later)) there live
    ∙ ap (λ b. if_fails b why.NotAConnection (if_fails (is_some (flight_at c w)) why.RequestOut later)) (reaper-is c w x there ∙ waiting-serves x.actor waits)
    ∙ ap (λ (f : Option Flight). if_fails (is_some f) why.RequestOut later) (flight-is c w x there ∙ out)
    ∙ ap (λ b. if_fails b why.NoEntry None) (not-none (next_entry c w) next)

pub exec-possible : (c : ℕ) (w : World) → settling c w ≡ Some (line.Exec c) → fault w (line.Exec c) ≡ None
exec-possible c w is =
    let o = opened c w (line.Exec c) (conn_at c w) refl is in
    let e = exec-out c w o.0 o.0.flight o.3 in
    exec-allowed c w o.0 e.0 o.1 o.2 e.1

pub answer-possible : (c : ℕ) (w : World) → settling c w ≡ Some (line.Answer c) → fault w (line.Answer c) ≡ None
answer-possible c w is =
    let o = opened c w (line.Answer c) (conn_at c w) refl is in
    answer-allowed c w o.0 o.1 o.2 (answer-out c w o.0 o.0.flight o.3)

pub entry-possible : (c : ℕ) (w : World) → settling c w ≡ Some (line.Entry c) → fault w (line.Entry c) ≡ None
entry-possible c w is =
    let o = opened c w (line.Entry c) (conn_at c w) refl is in
    let e = entry-out c w o.0 o.0.flight o.3 in
    entry-allowed c w o.0 o.1 o.2 e.1 e.0 e.2

pub move-possible : (c : ℕ) (w : World) (m : Move) → settling c w ≡ Some (line_of c m) → fault w (line_of c m) ≡ None
move-possible c w Execute is = exec-possible c w is
move-possible c w Deliver is = answer-possible c w is
move-possible c w Enter is = entry-possible c w is

-- ---- the line that it does, by what stands there

pub entry-idle : (c : ℕ) (w : World) (x : Conn) → is_waiting x.actor ≡ false → entry_line c w x ≡ None
entry-idle c w x idle = ap (λ (b : Bool). if b then (if is_some (next_entry c w) then Some (line.Entry c) else None) else None) idle

lacking : (b d : Bool) (h : Happening) → d ≡ false → (if b then (if d then Some h else None) else None) ≡ None
lacking true d h e = ap (λ (x : Bool). if x then Some h else None) e
lacking false d h e = refl
