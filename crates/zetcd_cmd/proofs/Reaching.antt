-- From line to line of a run.
use Rattle.std.proofs.Common.{◌≡◌, ℕ, List, [], ◌∷◌, ◌++◌, refl, ap, subst}
use Rattle.std.proofs.lemmas.List.Elements.{All-append, All-cons, All-nil}
use Rattle.std.specs.Prelude.{length, ◌<◌, ◌⊎◌}
use Rattle.zt_lines.specs.Readable.{IsLastLine}
use Rattle.zk_transcript.specs.Legal.{Tick}
use Rattle.zk_transcript.specs.declared.transcript.TranscriptLine.{TranscriptLine}
use Rattle.zt_text.specs.Transcripts.{transcript_text}
use Rattle.zt_text.specs.declared.script.Happening.{Happening}
use Rattle.zp_script.specs.Happens.{Happens}
use Rattle.zp_script.specs.Runs.{IsFirst, RunsFrom, tick_of}
use Rattle.zp_script.specs.Worlds.{World}
use Rattle.zp_verdict_laws.proofs.Fitting.{all-offer, lines-of-runs-fit, written-replays-are-lawful}
use Rattle.zp_verdict_laws.proofs.Running.{few-counted}
use Rattle.zp_verdict_laws.proofs.Verdict.{every-replay-lawful}
use Rattle.zp_verdict_laws.specs.Written.{AreTyped, NamesSession}
use Rattle.zp_step.specs.Stages.{max_count}
use Rattle.zp_world_laws.proofs.Timing.{every-run-served}
use Rattle.zp_world_laws.specs.Accounting.{IsWithinCounts}
use Rattle.zetcd_cmd.specs.Claims.{IsLawfulWithin, IsOneRun}
use Rattle.zetcd_cmd.specs.Reached.{Reached}

runs-push : (w v w' : World) (hs : List Happening) (ticks : List Tick) (h : Happening) → RunsFrom w hs ticks v → Happens v h w' → RunsFrom w (hs ++ h ∷ []) (ticks ++ tick_of w' ∷ []) w'
runs-push w v w' [] ticks h r happens = (w', [], subst (λ (u : World). Happens u h w') r.1 happens, ap (λ t. t ++ tick_of w' ∷ []) r.0, (refl, refl))
runs-push w v w' (g ∷ hs) ticks h r happens = (r.0, r.1 ++ tick_of w' ∷ [], r.2, ap (λ t. t ++ tick_of w' ∷ []) r.3, runs-push r.0 v w' hs r.1 h r.4 happens)

pub reached-on : (hs : List Happening) (w w' : World) (h : Happening) → NamesSession h → Happens w h w' → IsWithinCounts w' → Reached hs w → Reached (hs ++ h ∷ []) w'
reached-on hs w w' h names happens within r = record {
  ticks = r.ticks ++ tick_of w' ∷ [];
  runs = (r.runs.0, r.runs.1, runs-push r.runs.0 w w' hs r.ticks h r.runs.2 happens);
  names = All-append NamesSession hs (h ∷ []) r.names (All-cons NamesSession h [] names (All-nil NamesSession));
  within = within;
}

pub reached-first : (w : World) → IsFirst w → IsWithinCounts w → Reached [] w
reached-first w first within = record { ticks = []; runs = (w, first, (refl, refl)); names = All-nil NamesSession; within = within }

-- lines that are held in memory: there are fewer than can be counted, and their fields are of their types
pub record AreHeld (lines : List TranscriptLine) : Type 0 where
  pub few : length lines < max_count
  pub typed : AreTyped lines

module _ (hs : List Happening) (w : World) (held : AreHeld w.lines) (r : Reached hs w) where
  pub reached-claims : IsOneRun r.ticks w.lines
  reached-claims =
      let run = every-run-served hs r.ticks w (all-offer hs r.names) r.within r.runs in
      record {
        legal = run.history.legal;
        ordered = run.history.ordered;
        punctual = run.punctual;
        shown = run.history.shown;
        served = run.served;
        lawful = every-replay-lawful hs r.ticks w (all-offer hs r.names) (few-counted w.lines held.few) r.runs;
        fits = lines-of-runs-fit hs r.ticks w r.names (few-counted w.lines held.few) held.typed r.runs;
      }

  pub reached-judged : (end : List ℕ) → (end ≡ []) ⊎ IsLastLine end → IsLawfulWithin (transcript_text w.lines ++ end) w.lines
  reached-judged end last short room = written-replays-are-lawful hs r.ticks w end r.names (few-counted w.lines held.few) held.typed r.runs last short room
