-- Lines that are updates.
use Rattle.std.proofs.Common.{◌≡◌, ℕ, Bool, true, false, ◌&&◌, List, sym, ap, ◌∙◌, arith}
use Rattle.std.specs.Prelude.{Option, Some, None, IfSome, slice_get, ◌==◌}
use Rattle.std.proofs.lemmas.Option.{same_Some}
use Rattle.zk_service.specs.declared.update.UpdateRec.{UpdateRec}
use Rattle.zk_service.specs.declared.update.UpdateKind.{UpdateKind}
use Rattle.zk_service.specs.declared.update.UpdateKind.TheVariants.{Begin, Session, Attach, Asked, Closed, Reaped}
use Rattle.zk_transcript.specs.declared.transcript.TranscriptLine.{TranscriptLine}
use Rattle.zk_transcript.specs.declared.transcript.TranscriptLine.TheVariants.{Update, Open, Frame, Send, Lapse, Close}
use Rattle.zk_transcript.specs.History.{when}
use Rattle.zk_transcript.specs.Walks.{own_update, own_update_in, own_update_shown}
use Rattle.zk_least.proofs.FirstPlaces.{first_place-at}

when_is : (b : Bool) (u v : UpdateRec) → when b u ≡ Some v → u ≡ v
when_is true u v h = same_Some u v h
when_is false u v h = absurd (cc)

own_in : (c i : ℕ) (u v : UpdateRec) (kind : UpdateKind) → own_update_in c i u kind ≡ Some v → u ≡ v
own_in c i u v (Asked d j now) h = when_is ((c == d) && (i == j)) u v h
own_in c i u v (Closed id d j) h = when_is ((c == d) && (i == j)) u v h
own_in c i u v (Begin now) h = absurd (cc)
own_in c i u v (Session id d) h = absurd (cc)
own_in c i u v (Attach id d) h = absurd (cc)
own_in c i u v (Reaped id) h = absurd (cc)

own_line : (c i : ℕ) (l : TranscriptLine) (v : UpdateRec) → own_update_shown c i l ≡ Some v → l ≡ Update v
own_line c i (Update u) v h = ap (λ (w : UpdateRec). Update w) (own_in c i u v u.kind h)
own_line c i (Open d p id pw layout) v h = absurd (cc)
own_line c i (Frame d j y bytes) v h = absurd (cc)
own_line c i (Send d bytes) v h = absurd (cc)
own_line c i (Lapse r id) v h = absurd (cc)
own_line c i (Close d e) v h = absurd (cc)

-- the update that carries a request out stands at its place
pub own-stands : (c i : ℕ) (lines : List TranscriptLine) (o : Option (ℕ × UpdateRec)) → o ≡ own_update c i lines → IfSome o (λ x. slice_get lines x.0 ≡ Some (Update x.1))
own-stands c i lines None h = tt {0}
own-stands c i lines (Some x) h =
    let found = first_place-at (own_update_shown c i) 0 lines x (sym h) in
    let place : x.0 ≡ found.place = omega (arith, found.at) in
    ap (λ (k : ℕ). slice_get lines k) place ∙ found.there ∙ ap (λ (l : TranscriptLine). Some l) (own_line c i found.line x.1 found.shown)
