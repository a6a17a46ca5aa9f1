-- What a worker that served a connection hands back.
use Rattle.std.specs.Prelude.{◌≡◌, ℕ, false, List, [], Option, Some, IfSome}
use Rattle.zk_service.specs.declared.cause.Cause.{Cause}
use Rattle.zk_service.specs.declared.fresh.Fresh.{Fresh}
use Rattle.zx_net.specs.Nets.{IsNoneYet}
use Rattle.zp_run.specs.Notes.{Noted}
use Rattle.zp_conn.specs.Serving.{FeedTold, LinkTold, Serves, SinkTold, SourceTold, Told}

-- nothing was noted yet, where that is told
abbrev pub IsUnnoted : Option (List Noted) → Type 0
IsUnnoted notes = IfSome notes (λ (events : List Noted). events ≡ [])

-- nothing was read, written, asked or noted yet, and nothing failed
pub record IsNothingYet (source : SourceTold) (sink : SinkTold) (link : LinkTold) (notes : Option (List Noted)) : Type 0 where
  pub given : IsNoneYet source.given
  pub reads : source.faults ≡ 0
  pub is_open : source.ended ≡ false
  pub taken : IsNoneYet sink.taken
  pub writes : (sink.counts).faults ≡ 0
  pub asks : link.calls ≡ Some []
  pub failures : link.failures ≡ 0
  pub noted : IsUnnoted notes

-- a connection that was served: its ends go by its number, and all that they, its link and its trace tell is of one call that served
-- it to its end, for this cause
pub record IsServed (number source_name sink_name : ℕ) (fresh : Fresh) (source : SourceTold) (sink : SinkTold) (link : LinkTold) (notes : Option (List Noted)) (why : Cause) : Type 0 where
  pub source_named : source_name ≡ number
  pub sink_named : sink_name ≡ number
  pub before : Told
  pub nothing : IsNothingYet before.source before.sink before.link before.notes
  pub feed : FeedTold
  pub serves : Serves fresh before (record { source = source; sink = sink; link = link; feed = feed; notes = notes }) why
