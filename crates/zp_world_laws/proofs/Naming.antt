-- Lines that don't name a connection leave what the transcript shows of it.
use Rattle.std.proofs.Common.{List, [], ap, append-nil, append_assoc, arith, false, length, refl, subst, sym, true, ℕ, ◌++◌, ◌+◌, ◌∙◌, ◌∷◌, ◌≡◌}
use Rattle.std.proofs.lemmas.Bool.{and_parts}
use Rattle.std.specs.Prelude.{None, Option, Some, if◌then◌else◌, not, ◌&&◌, ◌==◌}
use Rattle.zk_transcript.specs.Conversations.{close_shown}
use Rattle.zk_transcript.specs.History.{first_place, first_shown, frame_shown, open_shown, opening, when}
use Rattle.zk_transcript.specs.Legal.{Attachment, attach_of, attach_shown, index_shown, is_below_place}
use Rattle.zk_transcript.specs.Walks.{Walker, own_update, own_update_shown, packets, packets_from}
use Rattle.zk_transcript.specs.declared.transcript.TranscriptLine.TheVariants.{Close, Frame as FrameLine, Lapse as LapseLine, Open, Send, Update}
use Rattle.zk_transcript.specs.declared.transcript.TranscriptLine.{TranscriptLine}
use Rattle.zk_service.specs.declared.update.UpdateRec.{UpdateRec}
use Rattle.zp_laws.specs.Standing.{is_ahead}
use Rattle.zp_world_laws.proofs.Carrying.{no-attach, no-index, one, requested-for, unlike}
use Rattle.zp_world_laws.proofs.Numbers.{number-same}
use Rattle.zp_world_laws.proofs.Packets.{packets-append}
use Rattle.zp_world_laws.proofs.Serving.{Elsewhere}
use Rattle.zp_world_laws.proofs.Talking.{ahead-push, first_place-front, own-none, talks-push}
use Rattle.zp_world_laws.specs.Holding.{Talks, made_for}
use Rattle.zp_world_laws.specs.Naming.{is_made_for, is_unnamed, names_conn}
use Rattle.zx_base.proofs.Options.{none_some, some_is}
use Rattle.zx_base.proofs.Booleans.{and-both as both-true, not-true, true-not_false as true-false, same-number}

-- ---- one line

number-made : (c : ℕ) (o : Option ℕ) → is_made_for c o ≡ false → o ≡ one c → ⊥
number-made c None h e = none_some e
number-made c (Some d) h e = let same : d ≡ c = some_is e in true-false (sym (same-number c d (sym same)) ∙ h)

pub made-number : (c : ℕ) (o : Option ℕ) → (o ≡ one c → ⊥) → is_made_for c o ≡ false
made-number c None h = refl
made-number c (Some d) h = unlike c d h

pub made-of : (c : ℕ) (o : Option ℕ) → is_made_for c o ≡ true → o ≡ one c
made-of c None h = absurd (cc)
made-of c (Some d) h = ap one (sym (number-same c d h))

unmade : (c : ℕ) (u : UpdateRec) → names_conn c (Update u) ≡ false → made_for u.kind ≡ one c → ⊥
unmade c u h = number-made c (made_for u.kind) h

unnamed-attach : (c : ℕ) (l : TranscriptLine) → names_conn c l ≡ false → attach_shown c l ≡ None
unnamed-attach c (Update u) h = no-attach c u.zxid u.kind (unmade c u h)
unnamed-attach c _ h = refl

unnamed-index : (c : ℕ) (l : TranscriptLine) → names_conn c l ≡ false → index_shown c l ≡ None
unnamed-index c (Update u) h = no-index c u.zxid u.kind (unmade c u h)
unnamed-index c _ h = refl

unnamed-own : (c i : ℕ) (l : TranscriptLine) → names_conn c l ≡ false → own_update_shown c i l ≡ None
unnamed-own c i (Update u) h = own-none c i (i + 1) u.zxid u.kind (λ j r. absurd (unmade c u h (requested-for u.kind c j r))) (omega arith)
unnamed-own c i _ h = refl

unnamed-frame : (c i : ℕ) (l : TranscriptLine) → names_conn c l ≡ false → frame_shown c i l ≡ None
unnamed-frame c i (FrameLine d j z bytes) h = ap (λ b. when (b && (i == j)) bytes) h
unnamed-frame c i _ h = refl

unnamed-open : (c : ℕ) (l : TranscriptLine) → names_conn c l ≡ false → open_shown c l ≡ None
unnamed-open c (Open d p id passwd layout) h = ap (λ b. when b (record { id = id; passwd = passwd; layout = layout })) h
unnamed-open c _ h = refl

unnamed-close : (c : ℕ) (l : TranscriptLine) → names_conn c l ≡ false → close_shown c l ≡ None
unnamed-close c (Close d end) h = ap (λ b. when b d) h
unnamed-close c _ h = refl

unnamed-packets : (c k : ℕ) (l : TranscriptLine) → names_conn c l ≡ false → packets_from c k (l ∷ []) ≡ []
unnamed-packets c k (Send d bytes) h = ap (λ b. if b then (k, bytes) ∷ [] else []) h
unnamed-packets c k _ h = refl

-- ---- several lines

no-place : {A : Type 0} (show : TranscriptLine → Option A) (c k : ℕ) (ls : List TranscriptLine) → ((l : TranscriptLine) → names_conn c l ≡ false → show l ≡ None) → is_unnamed c ls ≡ true → first_place show k ls ≡ None
no-place show c k [] h f = refl
no-place {A} show c k (l ∷ ls) h f =
    let q = and_parts (not (names_conn c l)) (is_unnamed c ls) f in
    ap (λ o. elim o as (λ (p : Option A). Option (ℕ × A)) [ Some z ↦ Some (k, z) | None ↦ first_place show (k + 1) ls ]) (h l (not-true (names_conn c l) q.0)) ∙ no-place show c (k + 1) ls h q.1

none-shown : {A : Type 0} (show : TranscriptLine → Option A) (c : ℕ) (ls : List TranscriptLine) → ((l : TranscriptLine) → names_conn c l ≡ false → show l ≡ None) → is_unnamed c ls ≡ true → first_shown show ls ≡ None
none-shown show c [] h f = refl
none-shown {A} show c (l ∷ ls) h f =
    let q = and_parts (not (names_conn c l)) (is_unnamed c ls) f in
    ap (λ o. elim o as (λ (p : Option A). Option A) [ Some z ↦ Some z | None ↦ first_shown show ls ]) (h l (not-true (names_conn c l) q.0)) ∙ none-shown show c ls h q.1

pub attach-unnamed : (c : ℕ) (lines more : List TranscriptLine) → is_unnamed c more ≡ true → attach_of c (lines ++ more) ≡ attach_of c lines
attach-unnamed c lines more h = first_place-front (attach_shown c) 0 lines more (λ n. no-place (attach_shown c) c n more (unnamed-attach c) h)

pub own-unnamed : (c i : ℕ) (lines more : List TranscriptLine) → is_unnamed c more ≡ true → own_update c i (lines ++ more) ≡ own_update c i lines
own-unnamed c i lines more h = first_place-front (own_update_shown c i) 0 lines more (λ n. no-place (own_update_shown c i) c n more (unnamed-own c i) h)

no-packets : (c k : ℕ) (ls : List TranscriptLine) → is_unnamed c ls ≡ true → packets_from c k ls ≡ []
no-packets c k [] h = refl
no-packets c k (Send d bytes ∷ ls) h =
    let q = and_parts (not (c == d)) (is_unnamed c ls) h in
    ap (λ b. if b then (k, bytes) ∷ packets_from c (k + 1) ls else packets_from c (k + 1) ls) (not-true (c == d) q.0) ∙ no-packets c (k + 1) ls q.1
no-packets c k (Update u ∷ ls) h = no-packets c (k + 1) ls ((and_parts (not (names_conn c (Update u))) (is_unnamed c ls) h).1)
no-packets c k (Open d p id passwd layout ∷ ls) h = no-packets c (k + 1) ls ((and_parts (not (c == d)) (is_unnamed c ls) h).1)
no-packets c k (FrameLine d i z bytes ∷ ls) h = no-packets c (k + 1) ls ((and_parts (not (c == d)) (is_unnamed c ls) h).1)
no-packets c k (LapseLine r id ∷ ls) h = no-packets c (k + 1) ls h
no-packets c k (Close d end ∷ ls) h = no-packets c (k + 1) ls ((and_parts (not (c == d)) (is_unnamed c ls) h).1)

pub packets-unnamed : (c : ℕ) (lines more : List TranscriptLine) → is_unnamed c more ≡ true → packets c (lines ++ more) ≡ packets c lines
packets-unnamed c lines more h = packets-append c lines more ∙ ap (λ p. packets c lines ++ p) (no-packets c (length lines) more h) ∙ append-nil (packets c lines)

pub ahead-unnamed : (c i : ℕ) (lines more : List TranscriptLine) → is_unnamed c more ≡ true → is_ahead lines c i ≡ true → is_ahead (lines ++ more) c i ≡ true
ahead-unnamed c i lines [] h f = subst (λ l. is_ahead l c i ≡ true) (sym (append-nil lines)) f
ahead-unnamed c i lines (l ∷ ls) h f =
    let q = and_parts (not (names_conn c l)) (is_unnamed c ls) h in
    subst (λ k. is_ahead k c i ≡ true) (append_assoc lines (l ∷ []) ls) (ahead-unnamed c i (lines ++ l ∷ []) ls q.1 (ahead-push lines l c i (ap (is_below_place i) (unnamed-index c l (not-true (names_conn c l) q.0))) f))

talks-unnamed : (lines more : List TranscriptLine) (c k : ℕ) (a : Attachment) (w : Walker) → is_unnamed c more ≡ true → Talks lines c k a w → Talks (lines ++ more) c k a w
talks-unnamed lines [] c k a w h t = subst (λ l. Talks l c k a w) (sym (append-nil lines)) t
talks-unnamed lines (l ∷ ls) c k a w h t =
    let q = and_parts (not (names_conn c l)) (is_unnamed c ls) h in
    let n : names_conn c l ≡ false = not-true (names_conn c l) q.0 in
    subst (λ m. Talks m c k a w) (append_assoc lines (l ∷ []) ls)
    (talks-unnamed (lines ++ l ∷ []) ls c k a w q.1 (talks-push lines l c k a w (λ j small. unnamed-own c j l n) (unnamed-packets c (length lines) l n) t))

pub elsewhere-unnamed : (lines more : List TranscriptLine) (c : ℕ) → is_unnamed c more ≡ true → Elsewhere lines more c
elsewhere-unnamed lines more c h = record {
  below = λ i f. ahead-unnamed c i lines more h f;
  same = λ i. own-unnamed c i lines more h;
  packets = packets-unnamed c lines more h;
  talks = λ k a w t. talks-unnamed lines more c k a w h t;
}

pub frame-none : (c i n : ℕ) (lines : List TranscriptLine) → is_unnamed c lines ≡ true → first_place (frame_shown c i) n lines ≡ None
frame-none c i n lines h = no-place (frame_shown c i) c n lines (unnamed-frame c i) h

pub close-none : (c n : ℕ) (lines : List TranscriptLine) → is_unnamed c lines ≡ true → first_place (close_shown c) n lines ≡ None
close-none c n lines h = no-place (close_shown c) c n lines (unnamed-close c) h

-- nothing that a connection is known by stands in lines that don't name it
pub never-attached : (c : ℕ) (lines : List TranscriptLine) → is_unnamed c lines ≡ true → attach_of c lines ≡ None
never-attached c lines h = no-place (attach_shown c) c 0 lines (unnamed-attach c) h

pub never-opened : (c : ℕ) (lines : List TranscriptLine) → is_unnamed c lines ≡ true → opening c lines ≡ None
never-opened c lines h = none-shown (open_shown c) c lines (unnamed-open c) h

pub never-sent : (c : ℕ) (lines : List TranscriptLine) → is_unnamed c lines ≡ true → packets c lines ≡ []
never-sent c lines h = no-packets c 0 lines h

pub never-carried : (c i : ℕ) (lines : List TranscriptLine) → is_unnamed c lines ≡ true → is_ahead lines c i ≡ true
never-carried c i [] h = refl
never-carried c i (l ∷ ls) h =
    let q = and_parts (not (names_conn c l)) (is_unnamed c ls) h in
    both-true (is_below_place i (index_shown c l)) (is_ahead ls c i) (ap (is_below_place i) (unnamed-index c l (not-true (names_conn c l) q.0))) (never-carried c i ls q.1)
