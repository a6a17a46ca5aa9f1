-- A frame comes: the first one is the connect, and another one waits or ends the connection.
use Rattle.std.proofs.Common.{◌≡◌, ℕ, ◌<◌, ◌≤◌, List, [], length, refl, ap}
use Rattle.zk_service.specs.declared.cause.Cause.TheVariants as cause
use Rattle.zp_step.specs.Stages.{Core}
use Rattle.zp_step.specs.Steps.{queued}
use Rattle.zp_core.specs.Handling.{ComesLater}
use Rattle.zp_core.specs.Meanings.{Shuts, ready, stage_of}
use Rattle.zp_core.specs.declared.client.Client.{Client}
use Rattle.zp_core.specs.declared.moves.Move.{Move}
use Rattle.zp_core.specs.declared.stage.Stage.{Stage}
use Rattle.zp_core.proofs.Closing.{shuts-leads}
use Rattle.zp_core.proofs.Headers.{headed, headless}

pub later-waits : (old new : Client) (s : Stage) (frame : List ℕ) → 8 ≤ length frame → ready new ≡ queued (ready old) frame → ComesLater old s frame new (record { stage = s; actions = [] })
later-waits old new s frame long e = rw (headed frame long) (ap (λ (d : Core). record d { stage = stage_of s }) e, refl)

pub later-closes : (old : Client) (s : Stage) (frame : List ℕ) (m : Move) → length frame < 8 → Shuts (cause.NoHeader old.taken) m → ComesLater old s frame old m
later-closes old s frame m short h = rw (headless frame short) (shuts-leads old (stage_of s) (cause.NoHeader old.taken) m h)
