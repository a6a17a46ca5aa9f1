-- Steps of a walk, joined.
use Rattle.std.proofs.Common.{◌≡◌, ℕ, ◌+◌, ◌≤◌, List, [], ◌∷◌, ◌++◌, length, refl, sym, ap, ◌∙◌, subst, arith, Bool, true, false, ℤ, pos, append-nil, inl, inr}
use Rattle.std.specs.Prelude.{Option, Some, None, ◌⊎◌, ◌&&◌, map, All, slice_get, nat_lt, ◌==◌}
use Rattle.std.proofs.lemmas.Int.{ints}
use Rattle.std.proofs.lemmas.Bool.{and_parts, and_from}
use Rattle.std.proofs.lemmas.Bool.Decides.{nat_tests}
use Rattle.std.proofs.lemmas.List.{map-append}
use Rattle.std.proofs.lemmas.List.Elements.{All-nil, All-append}
use Rattle.std.proofs.lemmas.Option.{slice_get_within}
use Rattle.ev_types.specs.Store.{Store}
use Rattle.zk_transcript.specs.History.{first_place, state_at, when}
use Rattle.zk_transcript.specs.Legal.{index_in, index_shown, is_below_place, is_legal}
use Rattle.zk_transcript.specs.Walks.{Choice, Due, Walker, after_update, all_choices, is_fresh, is_in_turn, is_not_overtaken, move, own_update_in, own_update_shown, then_due, walk}
use Rattle.zk_service.specs.declared.cause.Cause.{Cause}
use Rattle.zk_transcript.specs.declared.transcript.TranscriptLine.{TranscriptLine}
use Rattle.zk_transcript.specs.declared.transcript.TranscriptLine.TheVariants.{Update, Open, Frame as FrameLine, Send, Lapse, Close as CloseLine}
use Rattle.zk_service.specs.declared.update.UpdateKind.{UpdateKind}
use Rattle.zk_service.specs.declared.update.UpdateKind.TheVariants.{Begin, Session as NewSession, Attach, Asked, Closed, Reaped}
use Rattle.zk_service.specs.declared.update.UpdateRec.{UpdateRec}
use Rattle.zk_transcript.proofs.Choices.{choices-append}
use Rattle.zk_least.proofs.Firing.{after-line}
use Rattle.zn_view.specs.declared.plan.Who.{Who}
use Rattle.zp_step.proofs.Sending.{sends-append}
use Rattle.zp_step.specs.declared.action.Action.{Action}
use Rattle.zp_step.specs.Replies.{Is, stage_after}
use Rattle.zp_step.specs.Stages.{Core, Stage, Unconnected, Connecting, Ready, KeepingAlive, Checking, Reading, Committing, Waiting, Shut}
use Rattle.zp_laws.specs.Standing.{IsFreshLook, Matches, has_looked, is_ahead}
use Rattle.zp_laws.specs.Walking.{IsAheadIn, IsStill, Strides, Walks}
use Rattle.zp_step.specs.Ending.{sends}
use Rattle.zp_laws.proofs.WalkMoves.{walk-append}

abbrev pub UpTo : ℕ → Due → Type 0
UpTo n d = d.0 ≤ n

-- nothing is sent
pub strides-none : (lines : List TranscriptLine) (conn : ℕ) (Afresh : Type 0) (id : ℤ) (w : Walker) (out : List Action) → sends out ≡ [] → Strides lines conn Afresh id w w out
unfolding walk all_choices
strides-none lines conn Afresh id w out h = record { choices = []; due = []; walked = refl; sent = sym h; small = All-nil (UpTo (length lines)); fresh = λ q. refl; in_turn = refl }

walk-one : (lines : List TranscriptLine) (conn : ℕ) (id : ℤ) (w : Walker) (x : Choice) (y : Walker × List Due) → move lines conn id w x ≡ Some y → walk lines conn id w (x ∷ []) ≡ Some y
unfolding walk
walk-one lines conn id w x y h = go (move lines conn id w x) h
  where
    go : (o : Option (Walker × List Due)) → o ≡ Some y → ◌≡◌ {A = Option (Walker × List Due)} (elim o [ None ↦ None | Some u ↦ then_due u.1 (Some (u.0, [])) ]) (Some y)
    go o e = rw e (ap (λ l. Some (y.0, l)) (append-nil y.1))

one-choice : (test : ℕ → Choice → Bool) (i : ℕ) (x : Choice) → test i x ≡ true → all_choices test i (x ∷ []) ≡ true
unfolding all_choices
one-choice test i x h = and_from (test i x) true h refl

-- one choice
pub strides-one : (lines : List TranscriptLine) (conn : ℕ) (Afresh : Type 0) (id : ℤ) (w : Walker) (x : Choice) (y : Walker × List Due) (out : List Action)
    → move lines conn id w x ≡ Some y → map (λ (d : Due). d.1) y.1 ≡ sends out → All (UpTo (length lines)) y.1 → (Afresh → is_fresh lines conn w.next x ≡ true) → is_in_turn lines conn w.next x ≡ true
    → Strides lines conn Afresh id w y.0 out
strides-one lines conn Afresh id w x y out m sent small fresh turn = record {
  choices = x ∷ [];
  due = y.1;
  walked = walk-one lines conn id w x y m;
  sent = sent;
  small = small;
  fresh = λ q. one-choice (is_fresh lines conn) w.next x (fresh q);
  in_turn = one-choice (is_in_turn lines conn) w.next x turn;
}

pub strides-append : (lines : List TranscriptLine) (conn : ℕ) (Afresh : Type 0) (id : ℤ) (w v u : Walker) (first later : List Action)
    → Strides lines conn Afresh id w v first → Strides lines conn Afresh id v u later → Strides lines conn Afresh id w u (first ++ later)
strides-append lines conn Afresh id w v u first later a b = record {
  choices = a.choices ++ b.choices;
  due = a.due ++ b.due;
  walked = walk-append lines conn id w a.choices b.choices (v, a.due) (u, b.due) a.walked b.walked;
  sent = map-append (λ (d : Due). d.1) a.due b.due ∙ ap (λ l. l ++ map (λ (d : Due). d.1) b.due) a.sent ∙ ap (λ l. sends first ++ l) b.sent ∙ sym (sends-append first later);
  small = All-append (UpTo (length lines)) a.due b.due a.small b.small;
  fresh = λ q. choices-append (is_fresh lines conn) lines conn id w a.choices b.choices (v, a.due) a.walked (a.fresh q) (b.fresh q);
  in_turn = choices-append (is_in_turn lines conn) lines conn id w a.choices b.choices (v, a.due) a.walked a.in_turn b.in_turn;
}

-- under a premise that gives the one that they have
pub strides-if : (lines : List TranscriptLine) (conn : ℕ) (A B : Type 0) (id : ℤ) (w v : Walker) (out : List Action) → (A → B) → Strides lines conn B id w v out → Strides lines conn A id w v out
strides-if lines conn A B id w v out f a = record { choices = a.choices; due = a.due; walked = a.walked; sent = a.sent; small = a.small; fresh = λ q. a.fresh (f q); in_turn = a.in_turn }

-- after a reply nothing is held
pub held-after : (o : Option Cause) → has_looked false (stage_after o) ≡ true → ⊥
held-after None h = absurd (cc)
held-after (Some why) h = absurd (cc)

pub ahead-append : (lines : List TranscriptLine) (conn : ℕ) (c d c' : Core) → IsStill c d ⊎ IsAheadIn lines conn d d.stage → IsStill d c' ⊎ IsAheadIn lines conn c' c'.stage → IsStill c c' ⊎ IsAheadIn lines conn c' c'.stage
ahead-append lines conn c d c' a (inr y) = inr y
ahead-append lines conn c d c' (inl x) (inl y) = inl (y.0 ∙ x.0, y.1 ∙ x.1)
ahead-append lines conn c d c' (inr x) (inl y) = inr (subst (λ st. IsAheadIn lines conn c' st) (sym y.0) (moved d.stage x))
  where
    moved : (st : Stage) → IsAheadIn lines conn d st → IsAheadIn lines conn c' st
    moved (Waiting p) h = tt
    moved (Unconnected fresh) h = tt
    moved (Connecting connect) h = tt
    moved Shut h = tt
    moved Ready h = subst (λ n. is_ahead lines conn n ≡ true) (sym y.1) h
    moved (KeepingAlive f) h = subst (λ n. is_ahead lines conn n ≡ true) (sym y.1) h
    moved (Checking f) h = subst (λ n. is_ahead lines conn n ≡ true) (sym y.1) h
    moved (Reading xid r v ws) h = subst (λ n. is_ahead lines conn n ≡ true) (sym y.1) h
    moved (Committing xid r v p m) h = subst (λ n. is_ahead lines conn n ≡ true) (sym y.1) h

-- and then frames are taken up, from what is held
pub walks-append : (store : Store) (lines : List TranscriptLine) (conn : ℕ) (Afresh : Type 0) (c d c' : Core) (w : Walker) (looked : ℕ) (first later : List Action)
    → (a : Walks store lines conn Afresh c d w looked first) → Walks store lines conn (IsFreshLook lines conn false d looked) d c' a.walker looked later → Walks store lines conn Afresh c c' w looked (first ++ later)
walks-append store lines conn Afresh c d c' w looked first later a b = record {
  walker = b.walker;
  strides = strides-append lines conn Afresh c.who.session w a.walker b.walker first later a.strides
      (strides-if lines conn Afresh (IsFreshLook lines conn false d looked) c.who.session a.walker b.walker later a.looks
      (subst (λ (who : Who). Strides lines conn (IsFreshLook lines conn false d looked) who.session a.walker b.walker later) a.who b.strides));
  stands = b.stands;
  looks = λ q. b.looks (a.looks q);
  who = b.who ∙ a.who;
  ahead = ahead-append lines conn c d c' a.ahead b.ahead;
  zxid = omega (arith, ints, a.zxid, b.zxid);
  cursor = omega (arith, ints, a.cursor, b.cursor);
}

pub walks-if : (store : Store) (lines : List TranscriptLine) (conn : ℕ) (A B : Type 0) (c c' : Core) (w : Walker) (looked : ℕ) (out : List Action) → (A → B) → Walks store lines conn B c c' w looked out → Walks store lines conn A c c' w looked out
walks-if store lines conn A B c c' w looked out f h = record {
  walker = h.walker;
  strides = strides-if lines conn A B c.who.session w h.walker out f h.strides;
  stands = h.stands;
  looks = λ q. h.looks (f q);
  who = h.who;
  ahead = h.ahead;
  zxid = h.zxid;
  cursor = h.cursor;
}

pub walks-is : (store : Store) (lines : List TranscriptLine) (conn : ℕ) (Afresh : Type 0) (c c' : Core) (x : Core × List Action) (w : Walker) (looked : ℕ) (out : List Action)
    → Is x c' out → Walks store lines conn Afresh c x.0 w looked x.1 → Walks store lines conn Afresh c c' w looked out
walks-is store lines conn Afresh c c' x w looked out e h =
    subst (λ d. Walks store lines conn Afresh c d w looked out) (sym e.0) (subst (λ o. Walks store lines conn Afresh c x.0 w looked o) (sym e.1) h)

-- ---- a core that stands

-- the moment right after the update that a core's zxid is of
pub record IsPlaced (lines : List TranscriptLine) (c : Core) (w : Walker) : Type 0 where
  pub line : ℕ
  pub update : UpdateRec
  pub shown : slice_get lines line ≡ Some (Update update)
  pub zxid : c.zxid ≡ update.zxid
  pub cursor : c.cursor ≡ pos (state_at lines (line + 1)).updates
  pub since : w.since ≡ line + 1
  pub within : line + 1 ≤ length lines

pub placed : (lines : List TranscriptLine) (c : Core) (w : Walker) → is_legal lines ≡ true → Matches lines c w → IsPlaced lines c w
placed lines c w h m =
    let t = m.at in
    record {
      line = t.line;
      update = t.update;
      shown = t.shown;
      zxid = t.zxid;
      cursor = t.cursor;
      since = m.since ∙ ap (λ z. after_update z lines) t.zxid ∙ after-line lines t.line t.update h t.shown;
      within = omega (arith, slice_get_within lines t.line (Update t.update) t.shown);
    }

below-more : (i : ℕ) (o : Option ℕ) → is_below_place (i + 1) o ≡ true → is_below_place (i + 1 + 1) o ≡ true
below-more i None h = refl
below-more i (Some j) h = grind (arith, nat_tests)

-- where no request after i was carried out, none after i + 1 was
pub turn-next : (lines : List TranscriptLine) (conn i : ℕ) → is_not_overtaken lines conn i ≡ true → is_not_overtaken lines conn (i + 1) ≡ true
turn-next [] conn i h = refl
turn-next (l ∷ ls) conn i h =
    let q = and_parts (is_below_place (i + 1) (index_shown conn l)) (is_not_overtaken ls conn i) h in
    and_from (is_below_place (i + 1 + 1) (index_shown conn l)) (is_not_overtaken ls conn (i + 1)) (below-more i (index_shown conn l) q.0) (turn-next ls conn i q.1)

-- a request without a line of its own, where no later one has a line
none-first : {A : Type 0} (show : TranscriptLine → Option A) (k : ℕ) (l : TranscriptLine) (ls : List TranscriptLine) → first_place show k (l ∷ ls) ≡ None → (show l ≡ None) × (first_place show (k + 1) ls ≡ None)
none-first {A} show k l ls h = go (show l) h
  where
    go : (o : Option A) → ◌≡◌ {A = Option (ℕ × A)} (elim o [ Some z ↦ Some (k, z) | None ↦ first_place show (k + 1) ls ]) None → (o ≡ None) × (first_place show (k + 1) ls ≡ None)
    go (Some z) f = absurd (cc)
    go None f = (refl, f)

strict : (i j : ℕ) → nat_lt j (i + 1) ≡ true → (i == j) ≡ false → nat_lt j i ≡ true
strict i j a b = grind (arith, nat_tests)

differs : (c i : ℕ) (e j : ℕ) (u : UpdateRec) → when ((c == e) && (i == j)) u ≡ None → is_below_place (i + 1) (when (c == e) j) ≡ true → is_below_place i (when (c == e) j) ≡ true
differs c i e j u n h = go (c == e) (i == j) refl n h
  where
    go : (p q : Bool) → (i == j) ≡ q → when (p && q) u ≡ None → is_below_place (i + 1) (when p j) ≡ true → is_below_place i (when p j) ≡ true
    go false q s f g = refl
    go true true s f g = absurd (cc)
    go true false s f g = strict i j g s

in-kind : (c i : ℕ) (u : UpdateRec) (kind : UpdateKind) → own_update_in c i u kind ≡ None → is_below_place (i + 1) (index_in c kind) ≡ true → is_below_place i (index_in c kind) ≡ true
in-kind c i u (Begin now) n h = refl
in-kind c i u (NewSession id d) n h = refl
in-kind c i u (Attach id d) n h = refl
in-kind c i u (Asked d j now) n h = differs c i d j u n h
in-kind c i u (Closed id d j) n h = differs c i d j u n h
in-kind c i u (Reaped id) n h = refl

below-now : (c i : ℕ) (l : TranscriptLine) → is_below_place (i + 1) (index_shown c l) ≡ true → own_update_shown c i l ≡ None → is_below_place i (index_shown c l) ≡ true
below-now c i (Update u) h n = in-kind c i u u.kind n h
below-now c i (Open a b d e layout) h n = refl
below-now c i (FrameLine a b d e) h n = refl
below-now c i (Send a b) h n = refl
below-now c i (Lapse a b) h n = refl
below-now c i (CloseLine a b) h n = refl

pub ahead-now : (lines : List TranscriptLine) (k conn i : ℕ) → is_not_overtaken lines conn i ≡ true → first_place (own_update_shown conn i) k lines ≡ None → is_ahead lines conn i ≡ true
ahead-now [] k conn i h n = refl
ahead-now (l ∷ ls) k conn i h n =
    let q = and_parts (is_below_place (i + 1) (index_shown conn l)) (is_not_overtaken ls conn i) h in
    let r = none-first (own_update_shown conn i) k l ls n in
    and_from (is_below_place i (index_shown conn l)) (is_ahead ls conn i) (below-now conn i l q.0 r.0) (ahead-now ls (k + 1) conn i q.1 r.1)
