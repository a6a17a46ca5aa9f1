use Rattle.std.proofs.Common.{◌≡◌, map, drop}
use Rattle.httparse.specs.Spans.{header_bytes}
use Rattle.ev_http.specs.declared.framing.Framing.TheVariants.{ToEnd}
use Rattle.ev_http.specs.Framing.{framing_after}
use Rattle.ev_http.proofs.Framings.{later_by}
use Rattle.ev_http.proofs.framing.read_framing.Given as goal

abbrev pub invariant-fields : goal.invariant-fields
invariant-fields l =
    framing_after l.kind ToEnd (map (header_bytes l.head) l.fields) ≡ later_by l.number (framing_after l.kind l.framing (map (header_bytes l.head) (drop l.number l.fields)))
