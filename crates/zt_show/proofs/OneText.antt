-- A stream has one text.
use Rattle.std.proofs.Common.{◌≡◌, ℕ, List, length, take, refl, sym, ap, ◌∙◌}
use Rattle.std.specs.Prelude.{nat_lt, false}
use Rattle.zk_jute.proofs.Framing.{one_framing}
use Rattle.zt_show.specs.Shown.{Shown, IsShown, IsShownWhole, max_stream, before_more, shown_from}
use Rattle.zt_show.proofs.Framings.{has_frames}

pub some_whole : (stream : List ℕ) → (shown : Shown) × IsShownWhole stream shown
some_whole stream =
    let has = has_frames stream in
    (shown_from false 0 has.0 has.1, (has.0, has.1, has.2, refl))

pub some_shown : (stream : List ℕ) → (shown : Shown) × IsShown stream shown
some_shown stream =
    let front = some_whole (take max_stream stream) in
    (before_more (nat_lt max_stream (length stream)) front.0, (front.0, front.1, refl))

pub one_whole : (stream : List ℕ) (shown other : Shown) → IsShownWhole stream shown → IsShownWhole stream other → shown ≡ other
one_whole stream shown other p q =
    let same = one_framing stream p.0 q.0 p.1 q.1 p.2 q.2 in
    p.3 ∙ ap (λ (fs : List (List ℕ)). shown_from false 0 fs p.1) same.0 ∙ ap (λ (r : List ℕ). shown_from false 0 q.0 r) same.1 ∙ sym q.3

pub one_shown : (stream : List ℕ) (shown other : Shown) → IsShown stream shown → IsShown stream other → shown ≡ other
one_shown stream shown other p q = p.2 ∙ ap (before_more (nat_lt max_stream (length stream))) (one_whole (take max_stream stream) p.0 q.0 p.1 q.1) ∙ sym q.2
