-- A reply that repeats the walker's zxid, in one step: the whole queue is told, and then the frame is answered.
use Rattle.std.proofs.Common.{◌≡◌, ℕ, zero, suc, ◌+◌, ◌≤◌, ◌<◌, List, [], ◌∷◌, ◌++◌, take, append-nil, refl, sym, ap, ◌∙◌, subst, arith, Bool, true, false, ℤ, inl, inr}
use Rattle.std.specs.Prelude.{Option, Some, None, option_map, ◌&&◌, ◌⊎◌, ◌<ℤ◌, slice_get, nat_le, nat_lt, int_lt, bytes_eq, if◌then◌else◌}
use Rattle.std.specs.Ordering.{int_eq}
use Rattle.std.proofs.lemmas.Bool.Decides.{Decides-int_eq, nat_tests}
use Rattle.std.proofs.lemmas.Int.{ints}
use Rattle.zk_model.specs.Watches.{Watches, is_unarmed}
use Rattle.zk_jute.specs.Requests.{read_request}
use Rattle.zk_jute.specs.Packets.{reply_packet}
use Rattle.zk_service.specs.declared.update.UpdateRec.{UpdateRec}
use Rattle.zk_transcript.specs.declared.transcript.TranscriptLine.{TranscriptLine}
use Rattle.zk_transcript.specs.declared.transcript.TranscriptLine.TheVariants.{Update, Open, Frame as FrameLine, Send, Lapse, Close}
use Rattle.zk_service.specs.Answers.{xid_of}
use Rattle.zk_transcript.specs.History.{first_place, when}
use Rattle.zk_transcript.specs.Legal.{is_legal}
use Rattle.zk_transcript.specs.Walks.{Walker, Tell, Plain, Answer, Due, move, placed_frame, fired_at, fired_above, later_of, next_update, above_shown, update_shown, told_update, then_due}
use Rattle.zk_transcript.proofs.Zxids.{zxids-rise}
use Rattle.zk_least.specs.LeastWalk.{zxid_in, next_reply, rest_after, given, repeats, plain_choice, choice_for, least_choice, least_moment, HasZxids}
use Rattle.zk_least.specs.LeastSteps.{is_least, is_least_after, least_step}
use Rattle.zk_least.specs.LeastQueues.{told_through, told_up_to, then_plainly, PlainReplyLaw}
use Rattle.zk_least.proofs.Rising.{IsLong, at-line, state-long}
use Rattle.zk_least.proofs.FirstPlaces.{first_place-at, first_place-none}
use Rattle.zk_least.proofs.Headers.{reply-zxid, not-notice}
use Rattle.zk_least.proofs.Sound.{given-is}
use Rattle.zk_least.proofs.Answering.{due-notices, reply-next}
use Rattle.zk_least.proofs.Exchange.{IsAbove, next-above, told-by}
use Rattle.zk_least.proofs.Ahead.{plainly-by, next-rest_after}
use Rattle.zk_least.proofs.ChoiceCounts.{above, told-less, least-step-law}
use Rattle.zk_least.proofs.Queues.{unarmed-fires, before-first, rest_after-first, at-first}

-- ---- the update of a zxid, and the first above the walker's

record IsUpdateOf (lines : List TranscriptLine) (z : ℤ) (u : ℕ × ℤ) : Type 0 where
  pub update : UpdateRec
  pub there : slice_get lines u.0 ≡ Some (Update update)
  pub same : update.zxid ≡ z
  pub told : u.1 ≡ z

shown-update : (z x : ℤ) (l : TranscriptLine) → update_shown z l ≡ Some x → (v : UpdateRec) × (l ≡ Update v) × (v.zxid ≡ z) × (x ≡ z)
shown-update z x (Update v) h = by (int_eq z v.zxid) refl h
  where
    by : (b : Bool) → int_eq z v.zxid ≡ b → ◌≡◌ {A = Option ℤ} (if b then Some v.zxid else None) (Some x) → (u : UpdateRec) × (Update v ≡ Update u) × (u.zxid ≡ z) × (x ≡ z)
    by true e t =
        let same : z ≡ v.zxid = (Decides-int_eq z v.zxid).0 e in
        let told : v.zxid ≡ x = cc in
        (v, refl, sym same, sym told ∙ sym same)
    by false e t = absurd (cc)
shown-update z x (Open a b c d layout) h = absurd (cc)
shown-update z x (FrameLine a b c d) h = absurd (cc)
shown-update z x (Send a b) h = absurd (cc)
shown-update z x (Lapse a b) h = absurd (cc)
shown-update z x (Close a b) h = absurd (cc)

update-of : (lines : List TranscriptLine) (z : ℤ) (u : ℕ × ℤ) → first_place (update_shown z) 0 lines ≡ Some u → IsUpdateOf lines z u
update-of lines z u h =
    let f = first_place-at (update_shown z) 0 lines u h in
    let s = shown-update z u.1 f.line f.shown in
    let at = f.at in
    let place : f.place ≡ u.0 = omega (arith, at) in
    record { update = s.0; there = ap (slice_get lines) (sym place) ∙ f.there ∙ ap Some s.1; same = s.2; told = s.3 }

-- the update of a zxid above the walker's is the first above the walker's, or stands after that one
placed-above : (lines : List TranscriptLine) (p : ℤ) (e : ℕ) (y z : ℤ) (u : ℕ × ℤ) → is_legal lines ≡ true → IsAbove p lines e y → IsUpdateOf lines z u → p <ℤ z → ((e ≡ u.0) × (y ≡ z)) ⊎ ((e < u.0) × (y <ℤ z))
placed-above lines p e y z u legal a o up = by (nat_lt u.0 e) (nat_lt e u.0) refl refl
  where
    by : (b d : Bool) → nat_lt u.0 e ≡ b → nat_lt e u.0 ≡ d → ((e ≡ u.0) × (y ≡ z)) ⊎ ((e < u.0) × (y <ℤ z))
    by true d f g =
        let low = a.before u.0 o.update (grind (arith, nat_tests)) o.there in
        absurd (omega (arith, ints, low, o.same, up))
    by false true f g =
        let lt : e < u.0 = grind (arith, nat_tests) in
        let more = zxids-rise lines e u.0 a.update o.update legal lt a.there o.there in
        inr (lt, omega (arith, ints, more, a.same, o.same))
    by false false f g =
        let same : e ≡ u.0 = grind (arith, nat_tests) in
        let both : Some (Update a.update) ≡ Some (Update o.update) = sym a.there ∙ ap (slice_get lines) same ∙ o.there in
        let one : a.update ≡ o.update = cc in
        inl (same, sym a.same ∙ ap (λ (v : UpdateRec). v.zxid) one ∙ o.same)

-- ---- packets

rest_after-then : (ds es ps qs : List Due) → rest_after ds ps ≡ Some qs → rest_after (ds ++ es) ps ≡ rest_after es qs
rest_after-then [] es ps qs h = (let e : ps ≡ qs = cc in ap (rest_after es) e)
rest_after-then (d ∷ ds) es [] qs h = absurd (cc)
rest_after-then (d ∷ ds) es (p ∷ ps) qs h = by (nat_le d.0 p.0 && bytes_eq d.1 p.1) (rest_after-then ds es ps qs) h
  where
    by : (b : Bool) → (rest_after ds ps ≡ Some qs → rest_after (ds ++ es) ps ≡ rest_after es qs) → (if b then rest_after ds ps else None) ≡ Some qs → (if b then rest_after (ds ++ es) ps else None) ≡ rest_after es qs
    by true ih t = ih t
    by false ih t = absurd (cc)

rest_after-none : (ds es ps : List Due) → rest_after ds ps ≡ None → rest_after (ds ++ es) ps ≡ None
rest_after-none [] es ps h = absurd (cc)
rest_after-none (d ∷ ds) es [] h = refl
rest_after-none (d ∷ ds) es (p ∷ ps) h = by (nat_le d.0 p.0 && bytes_eq d.1 p.1) (rest_after-none ds es ps) h
  where
    by : (b : Bool) → (rest_after ds ps ≡ None → rest_after (ds ++ es) ps ≡ None) → (if b then rest_after ds ps else None) ≡ None → (if b then rest_after (ds ++ es) ps else None) ≡ None
    by true ih t = ih t
    by false ih t = refl

given-then : (ds ps qs : List Due) (o : Option (Walker × List Due)) → rest_after ds ps ≡ Some qs → given ps (then_due ds o) ≡ given qs o
given-then ds ps qs None h = refl
given-then ds ps qs (Some y) h = ap (option_map (λ rest. (y.0, rest))) (rest_after-then ds y.1 ps qs h)

given-none : (ds ps : List Due) (o : Option (Walker × List Due)) → rest_after ds ps ≡ None → given ps (then_due ds o) ≡ None
given-none ds ps None h = refl
given-none ds ps (Some y) h = ap (option_map (λ rest. (y.0, rest))) (rest_after-none ds y.1 ps h)

-- ---- the walker right after the first update above its zxid

abbrev pub told_first : List TranscriptLine → Walker → ℕ → ℤ → Walker
told_first lines w e y = record w { zxid = y; since = e + 1; watches = (fired_at lines e w.watches).0 }

pub tell-unarmed : (lines : List TranscriptLine) (c : ℕ) (id : ℤ) (w : Walker) → is_unarmed w.watches ≡ true → move lines c id w Tell ≡ None
unfolding move
tell-unarmed lines c id w h = ap (λ b. if b then None else told_update lines w (next_update w.zxid lines)) h

pub tell-last : (lines : List TranscriptLine) (c : ℕ) (id : ℤ) (w : Walker) → next_update w.zxid lines ≡ None → move lines c id w Tell ≡ None
unfolding move
tell-last lines c id w h = ap (λ o. if is_unarmed w.watches then None else told_update lines w o) h ∙ both (is_unarmed w.watches)
  where
    both : (b : Bool) → ◌≡◌ {A = Option (Walker × List Due)} (if b then None else None) None
    both true = refl
    both false = refl

pub tell-next : (lines : List TranscriptLine) (c : ℕ) (id : ℤ) (w : Walker) (e : ℕ) (y : ℤ) → is_unarmed w.watches ≡ false → next_update w.zxid lines ≡ Some (e, y) → move lines c id w Tell ≡ Some (told_first lines w e y, (fired_at lines e w.watches).1)
unfolding move
tell-next lines c id w e y h n = ap (λ b. if b then None else told_update lines w (next_update w.zxid lines)) h ∙ ap (told_update lines w) n

through-unarmed : (lines : List TranscriptLine) (w : Walker) (o : Option (ℕ × ℤ)) → is_unarmed w.watches ≡ true → told_through lines w o ≡ None
through-unarmed lines w None h = refl
through-unarmed lines w (Some u) h =
    ap (λ b. if b then None else Some (record w { zxid = u.1; since = u.0 + 1; watches = (fired_above (take (u.0 + 1) lines) w.zxid w.watches).0 }, (fired_above (take (u.0 + 1) lines) w.zxid w.watches).1))
    (ap (λ (x : Watches × List Due). is_unarmed x.0) (unarmed-fires (take u.0 lines) w.zxid w.watches h) ∙ h)

through-first : (lines : List TranscriptLine) (w : Walker) (e : ℕ) (y : ℤ) → IsAbove w.zxid lines e y → is_unarmed w.watches ≡ false → told_through lines w (Some (e, y)) ≡ Some (told_first lines w e y, (fired_at lines e w.watches).1)
through-first lines w e y a h =
    ap (λ b. if b then None else Some (record w { zxid = y; since = e + 1; watches = (fired_above (take (e + 1) lines) w.zxid w.watches).0 }, (fired_above (take (e + 1) lines) w.zxid w.watches).1))
    (ap (λ (x : Watches × List Due). is_unarmed x.0) (before-first lines w.zxid e y w.watches a) ∙ h)
    ∙ ap (λ (x : Watches × List Due). Some (record w { zxid = y; since = e + 1; watches = x.0 }, x.1)) (at-first lines w.zxid e y w.watches a)

through-later : (lines : List TranscriptLine) (w : Walker) (e : ℕ) (y : ℤ) (u : ℕ × ℤ) → is_legal lines ≡ true → IsAbove w.zxid lines e y → e < u.0 → told_through lines w (Some u) ≡ then_due (fired_at lines e w.watches).1 (told_through lines (told_first lines w e y) (Some u))
through-later lines w e y u legal a lt =
    let f = fired_at lines e w.watches in
    let old = fired_above (take u.0 lines) y f.0 in
    ap (λ b. if b then None else Some (record w { zxid = u.1; since = u.0 + 1; watches = (fired_above (take (u.0 + 1) lines) w.zxid w.watches).0 }, (fired_above (take (u.0 + 1) lines) w.zxid w.watches).1))
    (ap (λ (x : Watches × List Due). is_unarmed x.0) (rest_after-first lines u.0 w.zxid e y w.watches legal a lt))
    ∙ ap (λ (x : Watches × List Due). if is_unarmed old.0 then None else Some (record w { zxid = u.1; since = u.0 + 1; watches = x.0 }, x.1)) (rest_after-first lines (u.0 + 1) w.zxid e y w.watches legal a (omega (arith, lt)))
    ∙ both (is_unarmed old.0) (record w { zxid = u.1; since = u.0 + 1; watches = (fired_above (take (u.0 + 1) lines) y f.0).0 }) f.1 (fired_above (take (u.0 + 1) lines) y f.0).1
  where
    both : (b : Bool) (v : Walker) (ds es : List Due) → ◌≡◌ {A = Option (Walker × List Due)} (if b then None else Some (v, ds ++ es)) (then_due ds (if b then None else Some (v, es)))
    both true v ds es = refl
    both false v ds es = refl

-- ---- told through the first update above, and then the rest

-- the first update above the walker's zxid is not above the reply's: it is told, and then the rest
through-rest : (lines : List TranscriptLine) (w : Walker) (e : ℕ) (y z : ℤ) → is_legal lines ≡ true → IsAbove w.zxid lines e y → is_unarmed w.watches ≡ false → w.zxid <ℤ z → int_lt z y ≡ false
    → told_through lines w (first_place (update_shown z) 0 lines) ≡ then_due (fired_at lines e w.watches).1 (told_up_to lines (told_first lines w e y) z)
through-rest lines w e y z legal a armed up low = by (first_place (update_shown z) 0 lines) refl (int_lt y z) refl
  where
    f : List Due
    f = (fired_at lines e w.watches).1

    v : Walker
    v = told_first lines w e y

    own : y ≡ z → update_shown z (Update a.update) ≡ Some a.update.zxid
    own same = ap (λ b. when b a.update.zxid) ((Decides-int_eq z a.update.zxid).1 (sym same ∙ sym a.same))

    by : (o : Option (ℕ × ℤ)) → first_place (update_shown z) 0 lines ≡ o → (b : Bool) → int_lt y z ≡ b → told_through lines w o ≡ then_due f (if b then told_through lines v o else Some (v, []))
    by None h true g = refl
    by None h false g =
        let same : y ≡ z = grind (arith, nat_tests, ints) in
        let none : update_shown z (Update a.update) ≡ None = first_place-none (update_shown z) 0 lines h e (Update a.update) a.there in
        absurd (let bad : None ≡ Some a.update.zxid = sym none ∙ own same in cc)
    by (Some u) h true g =
        let more : y <ℤ z = grind (arith, nat_tests, ints) in
        let o = update-of lines z u h in
        elim (placed-above lines w.zxid e y z u legal a o up) [
          | inl q ↦ absurd (let s = q.1 in omega (arith, ints, s, more))
          | inr q ↦ through-later lines w e y u legal a q.0
        ]
    by (Some u) h false g =
        let same : y ≡ z = grind (arith, nat_tests, ints) in
        let o = update-of lines z u h in
        elim (placed-above lines w.zxid e y z u legal a o up) [
          | inl q ↦ first_is u q.0 (same ∙ sym o.told)
          | inr q ↦ absurd (let s = q.1 in omega (arith, ints, s, same))
        ]
      where
        first_is : (u : ℕ × ℤ) → e ≡ u.0 → y ≡ u.1 → told_through lines w (Some u) ≡ Some (v, f ++ [])
        first_is u p q =
            let pair : ◌≡◌ {A = ℕ × ℤ} u (e, y) = λ i. (sym p i, sym q i) in
            ap (λ x. told_through lines w (Some x)) pair ∙ through-first lines w e y a armed ∙ ap (λ l. Some (v, l)) (sym (append-nil f))

-- the first update above the walker's zxid is above the reply's, which is then no update's
through-none : (lines : List TranscriptLine) (w : Walker) (e : ℕ) (y z : ℤ) → is_legal lines ≡ true → IsAbove w.zxid lines e y → w.zxid <ℤ z → int_lt z y ≡ true → told_through lines w (first_place (update_shown z) 0 lines) ≡ None
through-none lines w e y z legal a up low = by (first_place (update_shown z) 0 lines) refl
  where
    by : (o : Option (ℕ × ℤ)) → first_place (update_shown z) 0 lines ≡ o → told_through lines w o ≡ None
    by None h = refl
    by (Some u) h =
        let less : z <ℤ y = grind (arith, nat_tests, ints) in
        absurd (elim (placed-above lines w.zxid e y z u legal a (update-of lines z u h) up) [
          | inl q ↦ let s = q.1 in omega (arith, ints, s, less)
          | inr q ↦ let s = q.1 in omega (arith, ints, s, less)
        ])

-- no update is above the walker's zxid, so there is none to be told
through-last : (lines : List TranscriptLine) (w : Walker) (z : ℤ) → next_update w.zxid lines ≡ None → w.zxid <ℤ z → told_through lines w (first_place (update_shown z) 0 lines) ≡ None
through-last lines w z none up = by (first_place (update_shown z) 0 lines) refl
  where
    by : (o : Option (ℕ × ℤ)) → first_place (update_shown z) 0 lines ≡ o → told_through lines w o ≡ None
    by None h = refl
    by (Some u) h =
        let o = update-of lines z u h in
        let same = o.same in
        let hidden : above_shown w.zxid (Update o.update) ≡ None = first_place-none (above_shown w.zxid) 0 lines none u.0 (Update o.update) o.there in
        let shown : int_lt w.zxid o.update.zxid ≡ true = (let more : w.zxid <ℤ o.update.zxid = omega (arith, ints, up, same) in grind (arith, nat_tests, ints)) in
        absurd (let bad : None ≡ Some o.update.zxid = sym hidden ∙ ap (λ b. when b o.update.zxid) shown in cc)

-- ---- no reply of another zxid

no-plain : (lines : List TranscriptLine) (c : ℕ) (id : ℤ) (w : Walker) (qs : List Due) (bytes : List ℕ) → IsLong w.zxid → next_reply qs ≡ Some bytes → (zxid_in bytes ≡ w.zxid → ⊥) → given qs (move lines c id w Plain) ≡ None
no-plain lines c id w qs bytes long next apart = by (given qs (move lines c id w Plain)) refl
  where
    one : (a b : List ℕ) → ◌≡◌ {A = Option (List ℕ)} (Some a) (Some b) → a ≡ b
    one a b e = cc

    by : (o : Option (Walker × List Due)) → given qs (move lines c id w Plain) ≡ o → o ≡ None
    by None h = refl
    by (Some y) h =
        let u = given-is qs (move lines c id w Plain) y h in
        let q = plainly-by lines c id w u.0 u.1 in
        let x = read_request q.bytes in
        let packet = reply_packet (xid_of x) w.zxid q.said.reply in
        let shown : next_reply qs ≡ Some packet =
        reply-next [] (later_of w.since (q.place + 1), packet) qs y.1 refl (not-notice (xid_of x) w.zxid q.said.reply long) (ap (λ (p : Walker × List Due). rest_after p.1 qs) q.gives ∙ u.3) in
        absurd (apart (ap zxid_in (one bytes packet (sym next ∙ shown)) ∙ reply-zxid (xid_of x) w.zxid q.said.reply long))

-- ---- the law

plain-step : (lines : List TranscriptLine) (c : ℕ) (id : ℤ) (w : Walker) (ps : List Due) (bytes : List ℕ) → next_reply ps ≡ Some bytes → repeats (placed_frame c w.next lines) bytes ≡ true
    → least_step lines c id w ps ≡ given ps (move lines c id w (plain_choice w (zxid_in bytes)))
unfolding least_choice
plain-step lines c id w ps bytes next rep =
    ap (λ o. elim o [ None ↦ None | Some x ↦ given ps (move lines c id w x) ])
    (ap (choice_for lines c id w ps) next ∙ ap (λ b. if b then Some (plain_choice w (zxid_in bytes)) else option_map (λ m. Answer m) (least_moment lines c id w ps)) rep)

module _ (lines : List TranscriptLine) (c : ℕ) (id : ℤ) (bytes : List ℕ) (legal : is_legal lines ≡ true) (least : HasZxids lines) where
  -- what is to be shown of a walker and the packets ahead
  abbrev Goes : Walker → List Due → Type 0
  Goes w ps = is_least lines c id w ps ≡ is_least_after lines c id (then_plainly lines c id (given ps (told_up_to lines w (zxid_in bytes))))

  abbrev Later : Walker → Type 0
  Later w = (v : Walker) (qs : List Due) → above v.zxid lines < above w.zxid lines → next_reply qs ≡ Some bytes → repeats (placed_frame c v.next lines) bytes ≡ true → Goes v qs

  first-long : (w : Walker) (e : ℕ) (y : ℤ) → IsAbove w.zxid lines e y → IsLong y
  first-long w e y a = subst IsLong ((at-line lines e a.update legal a.there).zxid ∙ a.same) (state-long lines (e + 1) legal least)

  told-more : (w : Walker) (ps : List Due) (e : ℕ) (y : ℤ) → next_reply ps ≡ Some bytes → repeats (placed_frame c w.next lines) bytes ≡ true → w.zxid <ℤ zxid_in bytes → is_unarmed w.watches ≡ false → next_update w.zxid lines ≡ Some (e, y) → Later w
      → is_least_after lines c id (given ps (Some (told_first lines w e y, (fired_at lines e w.watches).1))) ≡ is_least_after lines c id (then_plainly lines c id (given ps (told_through lines w (first_place (update_shown (zxid_in bytes)) 0 lines))))
  told-more w ps e y next rep up armed n later = by (rest_after f ps) refl (int_lt z y) refl
    where
      z : ℤ
      z = zxid_in bytes

      f : List Due
      f = (fired_at lines e w.watches).1

      v : Walker
      v = told_first lines w e y

      a : IsAbove w.zxid lines e y
      a = next-above w.zxid lines (e, y) n

      less : above v.zxid lines < above w.zxid lines
      less = told-less lines w (v, f) (told-by lines c id w (v, f) (tell-next lines c id w e y armed n))

      rest : (qs : List Due) → rest_after f ps ≡ Some qs → is_least lines c id v qs ≡ is_least_after lines c id (then_plainly lines c id (given qs (told_up_to lines v z)))
      rest qs h = later v qs less (sym (next-rest_after f ps qs (due-notices (e + 1) _) h) ∙ next) rep

      by : (o : Option (List Due)) → rest_after f ps ≡ o → (b : Bool) → int_lt z y ≡ b
          → is_least_after lines c id (option_map (λ qs. (v, qs)) o) ≡ is_least_after lines c id (then_plainly lines c id (given ps (told_through lines w (first_place (update_shown z) 0 lines))))
      by None h true g = ap (λ x. is_least_after lines c id (then_plainly lines c id (given ps x))) (sym (through-none lines w e y z legal a up g))
      by None h false g =
          ap (λ x. is_least_after lines c id (then_plainly lines c id x)) (sym (given-none f ps (told_up_to lines v z) h))
          ∙ ap (λ x. is_least_after lines c id (then_plainly lines c id (given ps x))) (sym (through-rest lines w e y z legal a armed up g))
      by (Some qs) h false g =
          rest qs h
          ∙ ap (λ x. is_least_after lines c id (then_plainly lines c id x)) (sym (given-then f ps qs (told_up_to lines v z) h))
          ∙ ap (λ x. is_least_after lines c id (then_plainly lines c id (given ps x))) (sym (through-rest lines w e y z legal a armed up g))
      by (Some qs) h true g =
          let low : z <ℤ y = grind (arith, nat_tests, ints) in
          let here : int_lt y z ≡ false = grind (arith, nat_tests, ints) in
          rest qs h
          ∙ ap (λ b. is_least_after lines c id (then_plainly lines c id (given qs (if b then told_through lines v (first_place (update_shown z) 0 lines) else Some (v, []))))) here
          ∙ ap (is_least_after lines c id) (no-plain lines c id v qs bytes (first-long w e y a) (sym (next-rest_after f ps qs (due-notices (e + 1) _) h) ∙ next) (λ s. omega (arith, ints, s, low)))
          ∙ ap (λ x. is_least_after lines c id (then_plainly lines c id (given ps x))) (sym (through-none lines w e y z legal a up g))

  told-case : (w : Walker) (ps : List Due) → next_reply ps ≡ Some bytes → repeats (placed_frame c w.next lines) bytes ≡ true → w.zxid <ℤ zxid_in bytes → Later w
      → is_least_after lines c id (given ps (move lines c id w Tell)) ≡ is_least_after lines c id (then_plainly lines c id (given ps (told_through lines w (first_place (update_shown (zxid_in bytes)) 0 lines))))
  told-case w ps next rep up later = by (is_unarmed w.watches) refl (next_update w.zxid lines) refl
    where
      o : Option (ℕ × ℤ)
      o = first_place (update_shown (zxid_in bytes)) 0 lines

      nothing : move lines c id w Tell ≡ None → told_through lines w o ≡ None → is_least_after lines c id (given ps (move lines c id w Tell)) ≡ is_least_after lines c id (then_plainly lines c id (given ps (told_through lines w o)))
      nothing p q = ap (λ x. is_least_after lines c id (given ps x)) p ∙ ap (λ x. is_least_after lines c id (then_plainly lines c id (given ps x))) (sym q)

      by : (b : Bool) → is_unarmed w.watches ≡ b → (n : Option (ℕ × ℤ)) → next_update w.zxid lines ≡ n
          → is_least_after lines c id (given ps (move lines c id w Tell)) ≡ is_least_after lines c id (then_plainly lines c id (given ps (told_through lines w o)))
      by true h n g = nothing (tell-unarmed lines c id w h) (through-unarmed lines w o h)
      by false h None g = nothing (tell-last lines c id w g) (through-last lines w (zxid_in bytes) g up)
      by false h (Some x) g = ap (λ y. is_least_after lines c id (given ps y)) (tell-next lines c id w x.0 x.1 h g) ∙ told-more w ps x.0 x.1 next rep up h g later

  goes : (w : Walker) (ps : List Due) → next_reply ps ≡ Some bytes → repeats (placed_frame c w.next lines) bytes ≡ true → Later w → Goes w ps
  goes w [] next rep later = absurd (cc)
  goes w (p ∷ ps) next rep later =
      (least-step-law lines c id w).more p ps ∙ ap (is_least_after lines c id) (plain-step lines c id w (p ∷ ps) bytes next rep) ∙ by (int_lt w.zxid (zxid_in bytes)) refl
    where
      by : (b : Bool) → int_lt w.zxid (zxid_in bytes) ≡ b
          → is_least_after lines c id (given (p ∷ ps) (move lines c id w (if b then Tell else Plain)))
          ≡ is_least_after lines c id (then_plainly lines c id (given (p ∷ ps) (if b then told_through lines w (first_place (update_shown (zxid_in bytes)) 0 lines) else Some (w, []))))
      by true h = told-case w (p ∷ ps) next rep (grind (arith, nat_tests, ints)) later
      by false h = refl

  pub plain-goes : (n : ℕ) (w : Walker) (ps : List Due) → above w.zxid lines ≤ n → next_reply ps ≡ Some bytes → repeats (placed_frame c w.next lines) bytes ≡ true → Goes w ps
  plain-goes zero w ps le next rep = goes w ps next rep (λ v qs lt e f. absurd (omega (arith, lt, le)))
  plain-goes (suc n) w ps le next rep = goes w ps next rep (λ v qs lt e f. plain-goes n v qs (omega (arith, lt, le)) e f)

pub plain-reply-law : PlainReplyLaw
plain-reply-law lines c id w ps bytes legal least next rep = plain-goes lines c id bytes legal least (above w.zxid lines) w ps (omega arith) next rep
