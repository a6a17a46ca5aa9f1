-- The law of the least walk, both ways.
use Rattle.std.proofs.Common.{◌≡◌, ℕ, zero, suc, ◌+◌, ◌≤◌, ◌<◌, List, [], ◌∷◌, length, take, refl, sym, ap, ◌∙◌, arith, true, false, ℤ}
use Rattle.std.specs.Prelude.{Some, is_some, slice_get, IsTrue}
use Rattle.std.proofs.lemmas.Bool.{and_parts}
use Rattle.std.proofs.lemmas.Bool.Decides.{nat_tests}
use Rattle.std.proofs.lemmas.Int.{ints}
use Rattle.zk_service.specs.declared.update.UpdateRec.{UpdateRec}
use Rattle.zk_service.specs.declared.update.UpdateKind.{UpdateKind}
use Rattle.zk_service.specs.declared.update.UpdateKind.TheVariants.{Begin, Session as NewSession, Attach, Asked, Closed, Reaped}
use Rattle.zk_transcript.specs.declared.transcript.TranscriptLine.{TranscriptLine}
use Rattle.zk_transcript.specs.declared.transcript.TranscriptLine.TheVariants.{Update, Open, Frame as FrameLine, Send, Lapse, Close}
use Rattle.zk_transcript.specs.History.{state_at}
use Rattle.zk_transcript.specs.Legal.{Attachment, attach_of, attach_in, attach_shown, begins, is_begin, is_legal, is_next_zxid, may_update}
use Rattle.zk_transcript.specs.Walks.{Due, at_start, IsFreshWalk}
use Rattle.zk_transcript.specs.Conversations.{later_packets}
use Rattle.zk_transcript.proofs.Histories.{above-next, legal-begun}
use Rattle.zk_transcript.proofs.Placed.{is_legal-at}
use Rattle.zk_transcript.proofs.Prefixes.{begins-take, is_legal-take, is_legal-begins}
use Rattle.zk_least.specs.LeastWalk.{least_walk, HasZxids, LeastWalkLaw, ConversationLaw}
use Rattle.zk_least.specs.LeastSteps.{AttachedAboveZero}
use Rattle.zk_least.proofs.Rising.{at-line, state-long}
use Rattle.zk_least.proofs.Sound.{IsGood, least-is-walk}
use Rattle.zk_least.proofs.Ahead.{CarriedByTree, InRange}
use Rattle.zk_least.proofs.ChoiceCounts.{few, above-small}
use Rattle.zk_least.proofs.Complete.{complete}
use Rattle.zk_least.proofs.FirstPlaces.{first_place-at}
use Rattle.zk_least.proofs.CarriedOut.{carried-by-tree}

pub walk-is-least : (lines : List TranscriptLine) (c : ℕ) (id zxid : ℤ) (since : ℕ) (ps : List Due) → is_legal lines ≡ true → HasZxids lines → CarriedByTree lines c
    → InRange (at_start zxid since) → IsFreshWalk lines c id zxid since ps → IsTrue (is_some (least_walk lines c id zxid since ps))
walk-is-least lines c id zxid since ps legal least tree r w =
    let g : IsGood lines c id (at_start zxid since) ps w.choices = record { lawful = w.lawful; fresh = w.fresh } in
    complete (length lines + length ps) lines c id (at_start zxid since) ps w.choices legal least tree r
    (omega (arith, few lines c id (at_start zxid since) ps w.choices g, above-small zxid lines)) g

-- ---- from an attachment

-- a Session or Attach line is an update's, and no Begin
record IsAttaching (l : TranscriptLine) (a : Attachment) : Type 0 where
  pub update : UpdateRec
  pub is : l ≡ Update update
  pub later : is_begin update.kind ≡ false
  pub zxid : update.zxid ≡ a.zxid

attach-kind : (c : ℕ) (u : UpdateRec) (kind : UpdateKind) (a : Attachment) → attach_in c u.zxid kind ≡ Some a → (is_begin kind ≡ false) × (u.zxid ≡ a.zxid)
attach-kind c u (Begin now) a h = absurd (cc)
attach-kind c u (NewSession id d) a h = (refl, grind (arith, nat_tests))
attach-kind c u (Attach id d) a h = (refl, grind (arith, nat_tests))
attach-kind c u (Asked d i now) a h = absurd (cc)
attach-kind c u (Closed id d i) a h = absurd (cc)
attach-kind c u (Reaped id) a h = absurd (cc)

attaching : (c : ℕ) (l : TranscriptLine) (a : Attachment) → attach_shown c l ≡ Some a → IsAttaching l a
attaching c (Update u) a h = let k = attach-kind c u u.kind a h in record { update = u; is = refl; later = k.0; zxid = k.1 }
attaching c (Open d p q e layout) a h = absurd (cc)
attaching c (FrameLine d p q e) a h = absurd (cc)
attaching c (Send d p) a h = absurd (cc)
attaching c (Lapse d p) a h = absurd (cc)
attaching c (Close d p) a h = absurd (cc)

-- Begin stands before each other update
record IsUpdateBefore (ls : List TranscriptLine) (e : ℕ) : Type 0 where
  pub place : ℕ
  pub update : UpdateRec
  pub before : place < e
  pub there : slice_get ls place ≡ Some (Update update)

before-more : (l : TranscriptLine) (ls : List TranscriptLine) (e : ℕ) → IsUpdateBefore ls e → IsUpdateBefore (l ∷ ls) (suc e)
before-more l ls e b = let lt = b.before in record { place = suc b.place; update = b.update; before = omega (arith, lt); there = b.there }

rest_after-line : (l : TranscriptLine) (ls : List TranscriptLine) (e : ℕ) (u : UpdateRec) → (l ≡ Update u → ⊥) → slice_get (l ∷ ls) e ≡ Some (Update u)
    → ((k : ℕ) → slice_get ls k ≡ Some (Update u) → IsUpdateBefore ls k) → IsUpdateBefore (l ∷ ls) e
rest_after-line l ls zero u apart at later = absurd (apart (let same : l ≡ Update u = cc in same))
rest_after-line l ls (suc k) u apart at later = before-more l ls k (later k at)

begin-before : (ls : List TranscriptLine) (e : ℕ) (u : UpdateRec) → begins ls ≡ true → is_begin u.kind ≡ false → slice_get ls e ≡ Some (Update u) → IsUpdateBefore ls e
begin-before [] e u h b at = absurd (cc)
begin-before (Update v ∷ ls) zero u h b at =
    let same : v ≡ u = cc in
    let bad : true ≡ false = sym h ∙ ap (λ (x : UpdateRec). is_begin x.kind) same ∙ b in
    absurd (cc)
begin-before (Update v ∷ ls) (suc e) u h b at = record { place = 0; update = v; before = omega arith; there = refl }
begin-before (Lapse r d ∷ ls) e u h b at = absurd (cc)
begin-before (Open p q r s layout ∷ ls) e u h b at = rest_after-line (Open p q r s layout) ls e u (λ x. cc) at (λ k is. begin-before ls k u h b is)
begin-before (FrameLine p q r s ∷ ls) e u h b at = rest_after-line (FrameLine p q r s) ls e u (λ x. cc) at (λ k is. begin-before ls k u h b is)
begin-before (Send p q ∷ ls) e u h b at = rest_after-line (Send p q) ls e u (λ x. cc) at (λ k is. begin-before ls k u h b is)
begin-before (Close p q ∷ ls) e u h b at = rest_after-line (Close p q) ls e u (λ x. cc) at (λ k is. begin-before ls k u h b is)

some-before : (lines : List TranscriptLine) (e : ℕ) (u : UpdateRec) → is_legal lines ≡ true → is_begin u.kind ≡ false → slice_get lines e ≡ Some (Update u) → 1 ≤ (state_at lines e).updates
some-before lines e u legal later at =
    let b = begin-before lines e u (is_legal-begins lines legal) later at in
    legal-begun (take e lines) (is_legal-take lines e (begins-take lines e b.place b.update b.before b.there (is_legal-begins lines legal)) legal)

attach-range : (lines : List TranscriptLine) (c : ℕ) (a : ℕ × Attachment) (since : ℕ) → is_legal lines ≡ true → HasZxids lines → attach_of c lines ≡ Some a → InRange (at_start a.1.zxid since)
attach-range lines c a since legal least h =
    let f = first_place-at (attach_shown c) 0 lines a h in
    let l = attaching c f.line a.1 f.shown in
    let at : slice_get lines f.place ≡ Some (Update l.update) = f.there ∙ ap Some l.is in
    let next = (and_parts (may_update (take f.place lines) (state_at lines f.place) l.update.zxid l.update.kind) (is_next_zxid (state_at lines f.place) l.update.zxid) (is_legal-at lines f.place (Update l.update) legal at)).1 in
    let up = above-next (state_at lines f.place) l.update.zxid (some-before lines f.place l.update legal l.later at) next in
    let low = state-long lines f.place legal least in
    let high = state-long lines (f.place + 1) legal least in
    let r = at-line lines f.place l.update legal at in
    (omega (arith, ints, low.0, up, l.zxid), omega (arith, ints, high.1, r.zxid, l.zxid))

pub attached-above-zero : AttachedAboveZero
attached-above-zero lines c a legal least at = (attach-range lines c a 0 legal least at).0

pub least-walk-law : LeastWalkLaw
least-walk-law lines c a ps legal least at = record {
  sound = least-is-walk lines c a.1.session a.1.zxid (a.0 + 1) ps;
  complete = walk-is-least lines c a.1.session a.1.zxid (a.0 + 1) ps legal least (carried-by-tree lines c legal) (attach-range lines c a (a.0 + 1) legal least at);
}

-- ---- whole conversations

pub conversation-law : ConversationLaw
conversation-law lines c legal least = record {
  sound = λ h. record { within = h.within; walks = λ a at. (least-walk-law lines c a (later_packets c lines) legal least at).sound (h.walks a at) };
  complete = λ h. record { within = h.within; walks = λ a at. (least-walk-law lines c a (later_packets c lines) legal least at).complete (h.walks a at) };
}
