-- The words `serve LISTEN ENDPOINT LIMIT`, and what the command came to.
use Rattle.std.specs.Prelude.{◌≡◌, ◌⊎◌, ℕ, true, List, [], ◌∷◌, codes, Option, Some, None}
use Rattle.std.specs.Arc.{arc_value}
use denote.Ref.{Bor}
use Rattle.zx_outside.specs.Counts.{OutputCounts, one_more}
use Rattle.zx_outside.specs.Writing.{Takes}
use Rattle.zx_net.specs.Nets.{NetCounts}
use Rattle.zp_server.specs.Ends.{FeedTold, IsServeDone, IsShut, IsStarved, IsUnbound, IsUnstarted, IsUnwritten}
use Rattle.zp_server.specs.Lines.{fault_text}
use Rattle.zp_server.specs.Telling.{Seen}
use Rattle.zp_server.specs.declared.ends.ServeEnd.{ServeEnd}
use Rattle.zp_server.specs.declared.ends.ServeEnd.TheVariants as ends
use Rattle.zetcd_cmd.specs.Serving.{are_addresses, is_address, limit_in}
use Rattle.zetcd_cmd.specs.declared.status.Status.{Status}
use Rattle.zetcd_cmd.specs.declared.status.Status.TheVariants as status

-- ---- the words

-- the words are `serve`, an address to listen at, one to five addresses of an etcd, and this limit
abbrev pub IsServe : List (Bor (List ℕ)) → List ℕ → List ℕ → ℕ → Type 0
IsServe [] listen endpoint limit = ⊥
IsServe (word ∷ []) listen endpoint limit = ⊥
IsServe (word ∷ first ∷ []) listen endpoint limit = ⊥
IsServe (word ∷ first ∷ second ∷ []) listen endpoint limit = ⊥
IsServe (word ∷ first ∷ second ∷ third ∷ []) listen endpoint limit =
    (word.now ≡ codes "serve") × (first.now ≡ listen) × (is_address listen ≡ true) × (second.now ≡ endpoint) × (are_addresses endpoint ≡ true) × (limit_in third.now ≡ Some limit)
IsServe (word ∷ first ∷ second ∷ third ∷ fourth ∷ words) listen endpoint limit = ⊥

abbrev pub NamesServe : List (Bor (List ℕ)) → Type 0
NamesServe words = (listen : List ℕ) × (endpoint : List ℕ) × (limit : ℕ) × IsServe words listen endpoint limit

-- ---- the outcome

-- what the net and the output tell; no book is kept
abbrev pub seen_so_far : NetCounts → Option (List ℕ) → OutputCounts → Seen
seen_so_far counts taken written = record { net = counts; out = record { taken = taken; counts = written }; book = None }

abbrev pub serve_status : ServeEnd → Status
serve_status ends.Done = status.Done
serve_status ends.WriteFault = status.WriteFault
serve_status ends.Net = status.Net
serve_status ends.Memory = status.Memory
serve_status (ends.Feed end) = status.Feed end

-- A proxy ended with this status, by what its net and its output tell, by the failures of its first ask, and by the starts of workers
-- that were refused.
--
-- 0: it listened, as many clients as the limit allows were accepted, and there is one line about each: `closed N CAUSE`, or
-- `closed N no link` where the dial of each endpoint failed. No cause is `feed`.
-- 10: the hub was found closed by this end, which is told after the lines about all clients so far, but for one at most: the last, who
-- was accepted as the hub was found closed, and has no number.
-- 6: the first ask failed or a worker was not started, and `net fault` is all that was written; or a door had a fault, at once or
-- after the lines so far, of fewer clients than the limit allows.
-- 5: a front of what was to be written next: a line about a client is about one that has none yet. 7: the lines so far, and perhaps one
-- more, about such a client.
abbrev pub Proxies : ℕ → Status → List ℕ → ℕ → ℕ → ℕ → ℕ → ℕ → Seen → Seen → Type 0
Proxies size status.Done listen limit failures failures' refusals refusals' t t' = IsServeDone size listen limit t t' × (failures' ≡ failures)
Proxies size (status.Feed end) listen limit failures failures' refusals refusals' t t' = FeedTold size (arc_value end) listen limit t t'
Proxies size status.Net listen limit failures failures' refusals refusals' t t' = IsUnstarted failures failures' refusals refusals' t t' ⊎ (IsUnbound t t' ⊎ IsShut size listen limit t t')
Proxies size status.WriteFault listen limit failures failures' refusals refusals' t t' = IsUnwritten size listen limit t t'
Proxies size status.Memory listen limit failures failures' refusals refusals' t t' = (t' ≡ t) ⊎ IsStarved size listen limit t t'
Proxies size _ listen limit failures failures' refusals refusals' t t' = ⊥

-- why the net is at fault: a door had one fault; or the etcd's first answer failed, or a start of a worker was refused, and then
-- nothing was written but `net fault`
abbrev pub HasNetCause : ℕ → ℕ → ℕ → ℕ → NetCounts → NetCounts → Option (List ℕ) → Option (List ℕ) → Type 0
HasNetCause failures failures' refusals refusals' counts counts' taken taken' =
    (counts'.door_faults ≡ one_more counts.door_faults)
    ⊎ (((failures' ≡ one_more failures) ⊎ (refusals' ≡ one_more refusals)) × Takes fault_text taken taken')
