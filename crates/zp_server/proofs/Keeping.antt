-- What a connection keeps from before it is served until it is handed back.
use Rattle.std.proofs.Common.{◌≡◌, ℕ, ◌<◌, Bool, List, [], Option, Some, Result, ap, sym, subst, arith}
use Rattle.std.proofs.Math.Logic.{∥∥₁_map}
use Rattle.ev_call.specs.Calls.{Call, calls_of}
use Rattle.ev_call.specs.declared.etcd.CallFault.{CallFault}
use Rattle.ev_types.specs.declared.answer.Answer.{Answer}
use Rattle.ev_types.specs.declared.ask.Ask.{Ask}
use Rattle.zk_service.specs.declared.cause.Cause.{Cause}
use Rattle.zk_service.specs.declared.cause.Cause.TheVariants as cause
use Rattle.zk_service.specs.declared.fresh.Fresh.{Fresh}
use Rattle.zx_history.specs.declared.ghost_history.GhostHistory.{GhostHistory}
use Rattle.zx_net.specs.Nets.{IsFreshSink, IsFreshSource}
use Rattle.zx_outside.specs.Counts.{InputCounts, OutputCounts}
use Rattle.zp_run.specs.Notes.{Noted}
use Rattle.zp_conn.specs.Serving.{FeedTold, IsEndedFor, LinkTold, Serves, SinkTold, SourceTold, Told}
use Rattle.zp_server.specs.Serving.{IsNothingYet, IsServed, IsUnnoted}

-- the ends that were accepted, a link that was dialled and a trace of the book tell nothing yet
pub nothing_of : (number : ℕ) (given left : Option (List ℕ)) (counts : InputCounts) (ended : Bool) (name : ℕ) (taken : Option (List ℕ)) (counts' : OutputCounts) (name' : ℕ) (calls : List Call) (failures : ℕ) (notes : Option (List Noted))
    → IsFreshSource given counts ended name number → IsFreshSink taken counts' name' number → failures ≡ 0 → calls ≡ [] → IsUnnoted notes
    → IsNothingYet (record { given = given; left = left; faults = counts.faults; ended = ended }) (record { taken = taken; counts = counts' }) (record { calls = Some calls; failures = failures }) notes
nothing_of number given left counts ended name taken counts' name' calls failures notes source sink unfailed uncalled unnoted = record {
  given = source.given_none;
  reads = ap (λ (c : InputCounts). c.faults) source.counted_none;
  is_open = source.is_open;
  taken = sink.taken_none;
  writes = ap (λ (c : OutputCounts). c.faults) sink.counted_none;
  asks = ap Some uncalled;
  failures = unfailed;
  noted = unnoted;
}

-- a source that tells the same
pub told_still : (given left given' left' : Option (List ℕ)) (counts counts' : InputCounts) (ended ended' : Bool) → given' ≡ given → left' ≡ left → counts' ≡ counts → ended' ≡ ended
    → ◌≡◌ {A = SourceTold} (record { given = given'; left = left'; faults = counts'.faults; ended = ended' }) (record { given = given; left = left; faults = counts.faults; ended = ended })
told_still given left given' left' counts counts' ended ended' g l c e = rw (g, l, c, e)

-- a sink that tells the same
pub sink_still : (taken taken' : Option (List ℕ)) (counts counts' : OutputCounts) → taken' ≡ taken → counts' ≡ counts
    → ◌≡◌ {A = SinkTold} (record { taken = taken'; counts = counts' }) (record { taken = taken; counts = counts })
sink_still taken taken' counts counts' t c = rw (t, c)

-- a link that tells the same
pub link_still : (asks asks' : GhostHistory Ask) (results results' : GhostHistory (Result Answer CallFault)) (failures failures' : ℕ) → asks' ≡ asks → results' ≡ results → failures' ≡ failures
    → ◌≡◌ {A = LinkTold} (record { calls = Some (calls_of asks'.items results'.items); failures = failures' }) (record { calls = Some (calls_of asks.items results.items); failures = failures })
link_still asks asks' results results' failures failures' a r f = rw (a, r, f)

-- what was served, by one call, under its number: its ends and its link tell the same since
pub served_of : (number name name' : ℕ) (fresh : Fresh) (source source' source'' : SourceTold) (sink sink' sink'' : SinkTold) (link link' link'' : LinkTold) (feed feed' : FeedTold) (empty notes notes' noted : Option (List Noted)) (why : Cause)
    → Serves fresh (record { source = source; sink = sink; link = link; feed = feed; notes = notes }) (record { source = source'; sink = sink'; link = link'; feed = feed'; notes = notes' }) why
    → ∥ IsNothingYet source sink link empty ∥₁ → notes ≡ empty → source'' ≡ source' → sink'' ≡ sink' → link'' ≡ link' → noted ≡ notes' → name ≡ number → name' ≡ number
    → ∥ IsServed number name name' fresh source'' sink'' link'' noted why ∥₁
served_of number name name' fresh source source' source'' sink sink' sink'' link link' link'' feed feed' empty notes notes' noted why serves nothing unnoted sources sinks links told named named' =
    ∥∥₁_map nothing (λ (n : IsNothingYet source sink link empty). record {
      source_named = named;
      sink_named = named';
      before = record { source = source; sink = sink; link = link; feed = feed; notes = empty };
      nothing = n;
      feed = feed';
      serves = rw (sources, sinks, links, told, sym unnoted) serves;
    })

-- the feed was told that the hub is closed, where the connection ended for that
pub closed_told : (fresh : Fresh) (old new : Told) (why : Cause) → Serves fresh old new why → why ≡ cause.FeedClosed → 0 < (new.feed).closings
closed_told fresh old new why serves is =
    let ended : IsEndedFor fresh serves.steps serves.core old new serves.read cause.FeedClosed = subst (λ (w : Cause). IsEndedFor fresh serves.steps serves.core old new serves.read w) is serves.ended in
    omega (arith, ended.1)
