-- What a connection's session is at a moment after its attachment.
use Rattle.std.proofs.Common.{◌≡◌, ℕ, zero, suc, ◌+◌, ◌≤◌, ◌<◌, List, [], ◌∷◌, take, refl, sym, ap, ◌∙◌, arith, Bool, true, false, pos}
use Rattle.std.specs.Prelude.{Option, Some, None, not, ◌≤ℤ◌, ◌==◌, if◌then◌else◌, slice_get}
use Rattle.std.proofs.lemmas.Bool.Decides.{nat_tests}
use Rattle.zk_model.specs.Codes.{session_expired, session_moved}
use Rattle.zk_model.specs.declared.reply.Reply.TheVariants as reply
use Rattle.zk_service.specs.Answers.{session_refusal}
use Rattle.zk_service.specs.States.{IsSound, Session, State, attached_session, session_at}
use Rattle.zk_transcript.specs.History.{after, first_place, first_shown, state_at, update_in}
use Rattle.zk_transcript.specs.Legal.{Attachment, attach_of, attach_shown, is_legal}
use Rattle.zk_transcript.specs.declared.transcript.TranscriptLine.{TranscriptLine}
use Rattle.zk_transcript.specs.declared.transcript.TranscriptLine.TheVariants.{Update, Open, Frame as FrameLine, Send, Lapse, Close}
use Rattle.zk_service.specs.declared.update.UpdateRec.{UpdateRec}
use Rattle.zk_transcript.proofs.Attachments.{IsListed, attached-to_own_line, legal-lined}
use Rattle.zk_transcript.proofs.SoundHistories.{legal-bounded, legal-sound}
use Rattle.zk_least.proofs.FirstPlaces.{first_place-at}
use Rattle.zx_base.proofs.Options.{none_some, some_is}
use Rattle.zn_layout.specs.Listing.{HasValidPaths}
use Rattle.zn_layout.proofs.Listing.{valid-bounded}
use Rattle.zn_view.specs.Views.{live}
use Rattle.zn_view.specs.declared.plan.Who.{Who}

-- ---- looking for a line among those before a moment

first_place-least : {A : Type 0} (show : TranscriptLine → Option A) (n : ℕ) (xs : List TranscriptLine) (i : ℕ) (y : A) → first_place show n xs ≡ Some (i, y) → n ≤ i
first_place-least show n xs i y e = omega (arith, (first_place-at show n xs (i, y) e).at)

pub first_place-take : {A : Type 0} (show : TranscriptLine → Option A) (k m : ℕ) (ls : List TranscriptLine) (i : ℕ) (y : A) → first_place show k ls ≡ Some (i, y) → i < k + m → first_place show k (take m ls) ≡ Some (i, y)
first_place-take show k m [] i y h lt = absurd (none_some h)
first_place-take show k zero (l ∷ ls) i y h lt = absurd (omega (arith, lt, first_place-least show k (l ∷ ls) i y h))
first_place-take {A} show k (suc m) (l ∷ ls) i y h lt = go (show l) h (λ e. first_place-take show (k + 1) m ls i y e (omega (arith, lt)))
  where
    go : (o : Option A) → ◌≡◌ {A = Option (ℕ × A)} (elim o [ Some z ↦ Some (k, z) | None ↦ first_place show (k + 1) ls ]) (Some (i, y)) → (first_place show (k + 1) ls ≡ Some (i, y) → first_place show (k + 1) (take m ls) ≡ Some (i, y))
        → ◌≡◌ {A = Option (ℕ × A)} (elim o [ Some z ↦ Some (k, z) | None ↦ first_place show (k + 1) (take m ls) ]) (Some (i, y))
    go (Some z) e ih = e
    go None e ih = ih e

-- ---- the state after a legal history

abbrev pub HasFirst : List TranscriptLine → Type 0
HasFirst lines = (u : UpdateRec) × (first_shown update_in lines ≡ Some u)

pub first-there : (lines : List TranscriptLine) (k : ℕ) (u : UpdateRec) → slice_get lines k ≡ Some (Update u) → HasFirst lines
first-there [] k u h = absurd (none_some h)
first-there (l ∷ ls) zero u h = (u, ap (λ x. first_shown update_in (x ∷ ls)) (some_is h))
first-there (l ∷ ls) (suc k) u h = go (update_in l) (first-there ls k u h)
  where
    go : (o : Option UpdateRec) → HasFirst ls → (v : UpdateRec) × ((elim o [ Some x ↦ Some x | None ↦ first_shown update_in ls ]) ≡ Some v)
    go (Some x) f = (x, refl)
    go None f = f

-- ---- after an attachment

pub record IsAttached (lines : List TranscriptLine) (conn : ℕ) (who : Who) (looked : ℕ) : Type 0 where
  pub legal : is_legal (take looked lines) ≡ true
  pub place : ℕ
  pub own : attach_of conn (take looked lines) ≡ Some (place, record { zxid = who.mine; session = who.session })
  pub least : pos 1 ≤ℤ who.session

-- an attachment is an update
shown-update : (c : ℕ) (l : TranscriptLine) (a : Attachment) → attach_shown c l ≡ Some a → (u : UpdateRec) × (l ≡ Update u)
shown-update c (Update u) a h = (u, refl)
shown-update c (Open a b d e layout) x h = absurd (none_some h)
shown-update c (FrameLine a b d e) x h = absurd (none_some h)
shown-update c (Send a b) x h = absurd (none_some h)
shown-update c (Lapse a b) x h = absurd (none_some h)
shown-update c (Close a b) x h = absurd (none_some h)

pub record IsMoored (s : State) : Type 0 where
  pub sound : IsSound s
  pub valid : HasValidPaths s.tree

moored-by : (lines : List TranscriptLine) (c : ℕ) (x : ℕ × Attachment) → is_legal lines ≡ true → attach_of c lines ≡ Some x → IsMoored (after lines)
moored-by lines c x h own =
    let f = first_place-at (attach_shown c) 0 lines x own in
    let u = shown-update c f.line x.1 f.shown in
    let first = first-there lines f.place u.0 (f.there ∙ ap Some u.1) in
    record { sound = legal-sound lines h; valid = valid-bounded (first.0).zxid (after lines) (legal-bounded lines first.0 h first.1) }

-- the state is sound, and the paths of its tree are valid
pub moored : (lines : List TranscriptLine) (conn : ℕ) (who : Who) (looked : ℕ) → IsAttached lines conn who looked → IsMoored (state_at lines looked)
moored lines conn who looked a = moored-by (take looked lines) conn (a.place, record { zxid = who.mine; session = who.session }) a.legal a.own

-- ---- the session test

pub record IsLive (o : Option Session) (x : Session) : Type 0 where
  pub there : o ≡ Some x
  pub alive : x.lapsed ≡ false

pub live-is : (o : Option Session) (x : Session) → live o ≡ Some x → IsLive o x
live-is None x h = absurd (none_some h)
live-is (Some y) x h = go y.lapsed refl h
  where
    go : (b : Bool) → y.lapsed ≡ b → (if b then None else Some y) ≡ Some x → IsLive (Some y) x
    go true e f = absurd (none_some f)
    go false e f = record { there = f; alive = ap (λ (v : Session). v.lapsed) (sym (some_is f)) ∙ e }

gone : (c : ℕ) (o : Option Session) → live o ≡ None → session_refusal c o ≡ Some (reply.Refused session_expired)
gone c None h = refl
gone c (Some y) h = go y.lapsed h
  where
    go : (b : Bool) → (if b then None else Some y) ≡ None → (if b then Some (reply.Refused session_expired) else if not (c == y.connection) then Some (reply.Refused session_moved) else None) ≡ Some (reply.Refused session_expired)
    go true f = refl
    go false f = absurd (none_some (sym f))

at-live : (c : ℕ) (x : Session) (b : Bool) → x.lapsed ≡ false → (c == x.connection) ≡ b → session_refusal c (Some x) ≡ (if not b then Some (reply.Refused session_moved) else None)
at-live c x b alive e =
    ap (λ t. if t then Some (reply.Refused session_expired) else if not (c == x.connection) then Some (reply.Refused session_moved) else None) alive
    ∙ ap (λ t. if not t then Some (reply.Refused session_moved) else None) e

module _ (lines : List TranscriptLine) (conn : ℕ) (who : Who) (looked : ℕ) (a : IsAttached lines conn who looked) where
  listed : (x : Session) → session_at who.session (state_at lines looked) ≡ Some x → IsListed (take looked lines) who.session x
  listed x there = (legal-lined (take looked lines) a.legal).all who.session x there

  -- attached by this connection's own line: the session is here
  pub mine-here : (x : Session) → session_at who.session (state_at lines looked) ≡ Some x → x.attached ≡ who.mine → x.connection ≡ conn
  mine-here x there same = (listed x there).one conn a.place who.mine a.own same

  mine-only : (x : Session) → session_at who.session (state_at lines looked) ≡ Some x → x.connection ≡ conn → x.attached ≡ who.mine
  mine-only x there c =
      let l = listed x there in
      let e : Some (l.place, record { zxid = x.attached; session = who.session }) ≡ Some (a.place, record { zxid = who.mine; session = who.session }) = sym l.own ∙ ap (λ n. attach_of n (take looked lines)) c ∙ a.own in
      ap (λ (p : ℕ × Attachment). p.1.zxid) (some_is e)

  pub gone-refused : live (session_at who.session (state_at lines looked)) ≡ None → session_refusal conn (session_at who.session (state_at lines looked)) ≡ Some (reply.Refused session_expired)
  gone-refused h = gone conn (session_at who.session (state_at lines looked)) h

  pub here-served : (x : Session) → live (session_at who.session (state_at lines looked)) ≡ Some x → x.attached ≡ who.mine → session_refusal conn (session_at who.session (state_at lines looked)) ≡ None
  here-served x h same =
      let l = live-is (session_at who.session (state_at lines looked)) x h in
      let c : x.connection ≡ conn = mine-here x l.there same in
      let b : (conn == x.connection) ≡ true = grind (arith, nat_tests) in
      ap (session_refusal conn) l.there ∙ at-live conn x true l.alive b

  pub away-refused : (x : Session) → live (session_at who.session (state_at lines looked)) ≡ Some x → (x.attached ≡ who.mine → ⊥) → session_refusal conn (session_at who.session (state_at lines looked)) ≡ Some (reply.Refused session_moved)
  away-refused x h differ =
      let l = live-is (session_at who.session (state_at lines looked)) x h in
      ap (session_refusal conn) l.there ∙ at-live conn x false l.alive (go (conn == x.connection) refl l.there)
    where
      go : (b : Bool) → (conn == x.connection) ≡ b → session_at who.session (state_at lines looked) ≡ Some x → b ≡ false
      go false e there = refl
      go true e there =
          let c : x.connection ≡ conn = grind (arith, nat_tests) in
          absurd (differ (mine-only x there c))

  -- it acts for this connection
  pub acts-here : (x : Session) → session_at who.session (state_at lines looked) ≡ Some x → x.attached ≡ who.mine → attached_session conn (state_at lines looked) ≡ Some (who.session, x)
  acts-here x there same =
      attached-to_own_line (take looked lines) conn a.place who.mine who.session x a.legal a.own there same
