use Rattle.std.proofs.Common.{◌≡◌, ◌-◌, ◌≤◌, ◌++◌, List, ℕ, length, take}
use Rattle.std.specs.Prelude.{All}
use Rattle.ev_http.specs.Taking.{IsLine}
use Rattle.ev_http.specs.Framing.{EndsInFeed}
use Rattle.ev_http.proofs.Places.{joined}
use Rattle.ev_http.proofs.framing.last_lines.Given as goal

abbrev pub invariant-lines : goal.invariant-lines
invariant-lines l = record {
  within : l.end ≤ length l.bytes;
  begins :
      (before : List ℕ) (lines : List (List ℕ)) → l.bytes ≡ before ++ joined lines → All IsLine lines → length lines ≡ l.count → EndsInFeed before
      → l.end ≡ length (before ++ joined (take (l.count - l.counter) lines));
}
