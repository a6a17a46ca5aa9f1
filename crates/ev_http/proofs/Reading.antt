-- A body that is read part by part.
use Rattle.std.proofs.Common.{◌≡◌, ◌≢◌, ℕ, ◌+◌, ◌<◌, ◌≤◌, ◌^◌, List, [], length, Err, refl, ap, arith}
use Rattle.std.proofs.lemmas.List.Elements.{All-nil}
use Rattle.ev_http.specs.declared.fault.HttpFault.{HttpFault}
use Rattle.ev_http.specs.declared.fault.HttpFault.TheVariants as fault
use Rattle.ev_http.specs.declared.framing.Framing.{Framing}
use Rattle.ev_http.specs.declared.framing.Framing.TheVariants as framing
use Rattle.ev_http.specs.declared.body.Part.{Part}
use Rattle.ev_http.specs.declared.body.Part.TheVariants as part
use Rattle.ev_http.specs.declared.taking.Tally.{Tally}
use Rattle.ev_http.specs.Taking.{Told, counted, risen}
use Rattle.ev_http.specs.Body.{IsChunk, Came, EndsWhole, PartAnswer, BodyAnswer, announced, first_part}
use Rattle.ev_http.proofs.Takings.{no_feed-nil}

-- in front of the first byte of a body
pub came_first : (f : Framing) (start : ℕ) → start < 2 ^ 64 → Came start f (first_part f start) [] [] []
came_first (framing.Counted n) start fits = (ap framing.Counted (omega arith), refl)
came_first framing.ToEnd start fits = (refl, refl)
came_first framing.Chunked start fits = record {
  chunks = [];
  so_far = record { chunked = refl; are_chunks = All-nil IsChunk; bytes_are = refl; place_is = omega arith };
  body_is = refl;
  no_feed = no_feed-nil;
}

pub ends_first : (f : Framing) (start : ℕ) (source : Told) → EndsWhole f (first_part f start) source
ends_first (framing.Counted n) start source = tt
ends_first framing.ToEnd start source = tt
ends_first framing.Chunked start source = tt

pub counted_taken : (start taken : ℕ) (bytes : List ℕ) → start < 2 ^ 64 → taken ≡ risen (length bytes) start → taken ≡ counted (start + length bytes)
counted_taken start taken bytes fits is = omega (arith, is)

-- why the reading of a body stopped in a part
pub body_stops : (e : HttpFault) (p : Part) (start : ℕ) (f : Framing) (line bytes body : List ℕ) (source : Told) (tally : Tally) → PartAnswer (Err e) start f p line bytes body source tally → p ≢ part.Whole → length body + announced p ≤ 8388608 → BodyAnswer (Err e) start f bytes source tally
body_stops fault.Idle p start f line bytes body source tally answer more fits = (record { next = p; line = line; body = body; came = answer.0; more = more; fits = fits }, answer.1)
body_stops fault.ReadFault p start f line bytes body source tally answer more fits = record { next = p; line = line; body = body; came = answer; more = more; fits = fits }
body_stops fault.Memory p start f line bytes body source tally answer more fits = tt
body_stops (fault.Ended n) p start f line bytes body source tally answer more fits = (record { part = p; line = line; body = body; came = answer.0; more = answer.1; fits = fits }, answer.2, answer.3)
body_stops (fault.Body place) p start f line bytes body source tally answer more fits = answer
body_stops fault.Head p start f line bytes body source tally answer more fits = absurd answer
body_stops (fault.Status n) p start f line bytes body source tally answer more fits = absurd answer
body_stops fault.Route p start f line bytes body source tally answer more fits = absurd answer
body_stops (fault.TooLong n) p start f line bytes body source tally answer more fits = absurd answer
body_stops fault.WriteFault p start f line bytes body source tally answer more fits = absurd answer
