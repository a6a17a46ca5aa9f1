-- What is known of an ask until its answer is delivered: the store takes it, and its answer is one that its asker awaits.
use Rattle.std.specs.Prelude.{◌≡◌, ◌≢◌, ◌⊎◌, pos, ◌≤ℤ◌, false, List, Option, Some, None, IfSome, All}
use Rattle.ev_store.specs.Asks.{IsGrantable}
use Rattle.ev_types.specs.declared.ask.Ask.{Ask}
use Rattle.zk_service.specs.declared.cause.Cause.{Cause}
use Rattle.zk_service.specs.declared.update.UpdateKind.{UpdateKind}
use Rattle.zk_service.specs.declared.update.UpdateKind.TheVariants as kind
use Rattle.zp_script.specs.declared.flight.Asking.{Asking}
use Rattle.zp_script.specs.declared.flight.Flight.{Flight}
use Rattle.zp_script.specs.declared.flight.Flight.TheVariants.{Out, Carried, Denied}
use Rattle.zp_script.specs.Worlds.{Actor, Connection, Reaper, Closed}
use Rattle.zp_step.specs.Laws.{end_by}
use Rattle.zp_step.specs.Stages.{Core, asked_of, is_shut}
use Rattle.zp_step.specs.declared.input.Input.{Input}
use Rattle.zs_reap.specs.Steps.{IsAsked, IsOfTxn, IsTxn}
use Rattle.zs_reap.specs.declared.reap.Reap.{Reap}
use Rattle.zs_session.specs.Answering.{IsAnswerTo, IsAwaited}
use Rattle.zt_text.specs.Transcripts.{IsWellFormedKind}

-- ---- an ask

-- a session's number is at least 1
abbrev pub HasSession : UpdateKind → Type 0
HasSession (kind.Session id c) = pos 1 ≤ℤ id
HasSession (kind.Attach id c) = pos 1 ≤ℤ id
HasSession (kind.Closed id c i) = pos 1 ≤ℤ id
HasSession (kind.Reaped id) = pos 1 ≤ℤ id
HasSession _ = Unit {0}

-- a store takes it, and the line of its update has one reading
pub record IsFit (x : Asking) : Type 0 where
  pub grantable : IsGrantable x.ask
  pub formed : IfSome x.kind IsWellFormedKind

abbrev pub AreFit : List (Option Asking) → Type 0
AreFit xs = All (λ (x : Option Asking). IfSome x IsFit) xs

abbrev pub IsFitFlight : Option Flight → Type 0
IsFitFlight (Some (Out x)) = IsFit x
IsFitFlight _ = Unit {0}

-- what came of an ask that was out
abbrev pub IsCarried : Ask → Flight → Type 0
IsCarried q (Out x) = ⊥
IsCarried q (Carried a) = IsAnswerTo q a
IsCarried q Denied = Unit {0}

-- ---- of a connection

-- what is out is what the connection's stage asks
pub record IsOut (core : Core) (x : Asking) : Type 0 where
  pub asked : asked_of core.who core.stage ≡ Some x.ask
  pub fit : IsFit x

abbrev pub IsFlyingOf : Core → Option Flight → Type 0
IsFlyingOf core None = Unit {0}
IsFlyingOf core (Some (Out x)) = IsOut core x
IsFlyingOf core (Some (Carried a)) = IsAwaited (asked_of core.who core.stage) (Some a)
IsFlyingOf core (Some Denied) = asked_of core.who core.stage ≢ None

-- ---- of a reaper

pub record IsReapOut (reap : Reap) (x : Asking) : Type 0 where
  pub asked : IsAsked reap.phase
  pub txn : IsTxn x.ask
  pub fit : IsFit x

abbrev pub IsReapFlying : Reap → Option Flight → Type 0
IsReapFlying reap None = Unit {0}
IsReapFlying reap (Some (Out x)) = IsReapOut reap x
IsReapFlying reap (Some (Carried a)) = IsAsked reap.phase × IsOfTxn a
IsReapFlying reap (Some Denied) = Unit {0}

-- ---- of either; one that has closed keeps no core

pub record IsServed (core : Core) (flight : Option Flight) : Type 0 where
  pub live : is_shut core.stage ≡ false
  pub flies : IsFlyingOf core flight

abbrev pub IsActive : Actor → Option Flight → Type 0
IsActive (Connection core) flight = IsServed core flight
IsActive (Reaper reap) flight = IsReapFlying reap flight
IsActive Closed flight = IsFitFlight flight

-- an answer or a failure may come
pub record IsAsking (core : Core) : Type 0 where
  pub live : is_shut core.stage ≡ false
  pub asked : asked_of core.who core.stage ≢ None

abbrev pub MayFail : Actor → Type 0
MayFail (Connection core) = IsAsking core
MayFail _ = Unit {0}

-- ---- what is handed in

-- an input that ends a connection in any of its stages
abbrev pub IsEnd : Input → Type 0
IsEnd x = (why : Cause) × (end_by x ≡ Some why)

-- nothing is out, or the input ends the connection
abbrev pub LeavesFree : Option Flight → Input → Type 0
LeavesFree flight x = (flight ≡ None) ⊎ IsEnd x
