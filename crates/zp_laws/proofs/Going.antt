-- Frames are taken up: some are answered without the tree, and the first other one leads to an ask.
use Rattle.std.proofs.Common.{◌≡◌, ℕ, ◌+◌, ◌≤◌, List, [], ◌∷◌, length, take, refl, sym, ap, ◌∙◌, subst, arith, Bool, true, false, ℤ, inl, inr}
use Rattle.std.specs.Prelude.{Option, Some, None, nat_le, if◌then◌else◌}
use Rattle.std.specs.Map.{lookup}
use Rattle.std.proofs.lemmas.Int.{ints}
use Rattle.std.proofs.lemmas.List.Elements.{All-nil, All-cons}
use Rattle.ev_types.specs.Store.{Store}
use Rattle.zk_jute.specs.Packets.{reply_packet}
use Rattle.zk_jute.specs.Requests.{Frame, NoHeader, Unreadable, Unknown, Asks, read_request}
use Rattle.zk_model.specs.Watches.{Watches, no_watches}
use Rattle.zk_model.specs.declared.request.Request.{Request}
use Rattle.zk_service.proofs.PlainReplies.{plain-none}
use Rattle.zk_service.specs.Answers.{Told, plain_reply, xid_of, is_auth_refusal}
use Rattle.zk_transcript.specs.History.{frame_shown}
use Rattle.zk_transcript.specs.Legal.{is_legal}
use Rattle.zk_transcript.specs.Walks.{Plain, Walker, is_not_overtaken, later_of, placed_frame, after_update}
use Rattle.zk_service.specs.declared.cause.Cause.{Cause}
use Rattle.zk_transcript.specs.declared.transcript.TranscriptLine.{TranscriptLine}
use Rattle.zk_transcript.proofs.Walks.{first_place-bound}
use Rattle.zx_base.specs.Maps.{Bytes, same}
use Rattle.zn_view.specs.Asks.{head_want, transaction}
use Rattle.zn_view.specs.declared.plan.Decision.TheVariants.{Planned}
use Rattle.zn_view.specs.declared.plan.Plan.{Plan}
use Rattle.zp_step.specs.Kept.{used_first}
use Rattle.zn_view.specs.Keeping.{update_path}
use Rattle.zn_view.specs.Seen.{View, empty_view}
use Rattle.zn_view.specs.declared.want.Want.{Want}
use Rattle.zs_session.specs.Alive.{is_alive_due}
use Rattle.zp_step.specs.Keepalives.{TakesUp, keeps_alive}
use Rattle.zp_step.specs.Looking.{Looks, asks_for, decided, max_ranges, IsForTree}
use Rattle.zp_step.specs.Replies.{Is, close_after, stage_after}
use Rattle.zp_step.specs.Stages.{Committing, Core, KeptViews, Ready, Reading, counted_up, is_open, waits_from}
use Rattle.zp_step.specs.Steps.{Goes, rests, takes}
use Rattle.zp_step.specs.Taking.{LooksFirst, LooksOn, PlansAtOnce, TakesFrame, TakesReadable, end_of_plain, plainly}
use Rattle.zp_step.specs.declared.action.Action.{Action}
use Rattle.zp_step.specs.declared.action.Action.TheVariants as action
use Rattle.zp_laws.specs.Frames.{AreFrames, IsFrameAt}
use Rattle.zp_laws.specs.Standing.{AreViewsOf, IsBoundPlan, IsFreshLook, IsViewOf, Knows, Matches, Stands, StandsOpen, is_ahead}
use Rattle.zp_laws.specs.Walking.{IsAheadIn, Walks}
use Rattle.zp_step.specs.Ending.{sends}
use Rattle.zp_step.proofs.Counting.{counted-small}
use Rattle.zp_laws.proofs.Keeping.{views-of, views-used}
use Rattle.zp_laws.proofs.Strides.{UpTo, held-after, placed, strides-none, strides-one, turn-next, walks-append, walks-is}
use Rattle.zp_laws.proofs.WalkMoves.{plain-move}
use Rattle.zx_base.proofs.Booleans.{either}

-- the next frame is at work, and those that wait come after it
pub record Works (store : Store) (lines : List TranscriptLine) (conn : ℕ) (c : Core) (w : Walker) (bytes : List ℕ) : Type 0 where
  pub legal : is_legal lines ≡ true
  pub matches : Matches lines c w
  pub frame : IsFrameAt lines conn c.next bytes
  pub waiting : AreFrames lines conn (c.next + 1) c.waiting
  pub turn : is_not_overtaken lines conn c.next ≡ true
  pub views : AreViewsOf store c.views
  pub ahead : is_ahead lines conn c.next ≡ true

-- the index after that of a frame
pub index-after : (lines : List TranscriptLine) (conn i : ℕ) (bytes : List ℕ) → IsFrameAt lines conn i bytes → counted_up (i + 1) ≡ i + 1
index-after lines conn i bytes f = counted-small (i + 1) (omega (arith, f.small))

-- the walker stands where the core does, whatever else the core keeps
pub still-matches : (lines : List TranscriptLine) (c d : Core) (w : Walker) → Matches lines c w → d.zxid ≡ c.zxid → d.cursor ≡ c.cursor → d.watches ≡ c.watches → d.next ≡ c.next → Matches lines d w
still-matches lines c d w m z n ws i = record {
  zxid = m.zxid ∙ sym z;
  since = m.since ∙ ap (λ (x : ℤ). after_it x) (sym z);
  watches = m.watches ∙ sym ws;
  next = m.next ∙ sym i;
  over = m.over;
  at = record { line = (m.at).line; update = (m.at).update; shown = (m.at).shown; zxid = z ∙ (m.at).zxid; cursor = n ∙ (m.at).cursor };
}
  where
    after_it : ℤ → ℕ
    after_it x = after_update x lines

-- ---- an answer without the tree

pub later-bound : (a b n : ℕ) → a ≤ n → b ≤ n → later_of a b ≤ n
later-bound a b n h e = go (nat_le a b)
  where
    go : (t : Bool) → (if t then b else a) ≤ n
    go true = e
    go false = h

pub close-sends : (bytes : List ℕ) (o : Option Cause) → sends (action.Send bytes ∷ close_after o) ≡ bytes ∷ []
close-sends bytes None = refl
close-sends bytes (Some why) = refl

-- none of these steps is as of a moment, so what they send is fresh under any premise
module _ (store : Store) (lines : List TranscriptLine) (conn : ℕ) (Afresh : Type 0) where
  -- the core after a plain reply
  abbrev plain_core : Core → Watches → Bool → Core
  plain_core c ws b = record c { stage = stage_after (end_of_plain b); watches = ws; next = counted_up (c.next + 1) }

  plain-stands : (c : Core) (w : Walker) (bytes : List ℕ) (looked : ℕ) (ws : Watches) (b : Bool) → Works store lines conn c w bytes
      → StandsOpen (is_open (stage_after (end_of_plain b))) store lines conn (plain_core c ws b) (record w { watches = ws; next = w.next + 1; over = b }) looked
  plain-stands c w bytes looked ws true k = tt
  plain-stands c w bytes looked ws false k =
      let up = index-after lines conn c.next bytes k.frame in
      record {
        matches = record { zxid = (k.matches).zxid; since = (k.matches).since; watches = refl; next = ap (λ n. n + 1) (k.matches).next ∙ sym up; over = refl; at = record { line = ((k.matches).at).line; update = ((k.matches).at).update; shown = ((k.matches).at).shown; zxid = ((k.matches).at).zxid; cursor = ((k.matches).at).cursor } };
        work = tt;
        waiting = subst (λ n. AreFrames lines conn n c.waiting) (sym up) k.waiting;
        turn = ap (is_not_overtaken lines conn) up ∙ turn-next lines conn c.next k.turn;
        views = k.views;
        knows = ap (is_ahead lines conn) up ∙ k.turn;
      }

  plain-ahead : (c : Core) (w : Walker) (bytes : List ℕ) (ws : Watches) (b : Bool) → Works store lines conn c w bytes → IsAheadIn lines conn (plain_core c ws b) (stage_after (end_of_plain b))
  plain-ahead c w bytes ws true k = tt
  plain-ahead c w bytes ws false k = ap (is_ahead lines conn) (index-after lines conn c.next bytes k.frame) ∙ k.turn

  pub plain-walks : (c : Core) (w : Walker) (bytes : List ℕ) (looked : ℕ) (t : Told) → Works store lines conn c w bytes → plain_reply c.watches (read_request bytes) ≡ Some t
      → Walks store lines conn Afresh c (plainly c (xid_of (read_request bytes)) t).0 w looked (plainly c (xid_of (read_request bytes)) t).1
  plain-walks c w bytes looked t k h =
      let f = k.frame in
      let m = k.matches in
      let p = placed lines c w k.legal m in
      let x = xid_of (read_request bytes) in
      let at_next : placed_frame conn w.next lines ≡ Some (f.place, bytes) = ap (λ n. placed_frame conn n lines) m.next ∙ f.framed in
      let y = plain-move lines conn c.who.session w f.place bytes t m.over at_next (ap (λ (v : Watches). plain_reply v (read_request bytes)) m.watches ∙ h) in
      let bound = first_place-bound (frame_shown conn c.next) 0 lines (f.place, bytes) f.framed in
      let packet = reply_packet x w.zxid t.reply in
      let b = is_auth_refusal t.reply in
      record {
        walker = record w { watches = t.watches; next = w.next + 1; over = b };
        strides = strides-one lines conn Afresh c.who.session w Plain (record w { watches = t.watches; next = w.next + 1; over = b }, (later_of w.since (f.place + 1), packet) ∷ []) (plainly c x t).1
            y (ap (λ z. reply_packet x z t.reply ∷ []) m.zxid ∙ sym (close-sends (reply_packet x c.zxid t.reply) (end_of_plain b)))
            (All-cons (UpTo (length lines)) (later_of w.since (f.place + 1), packet) [] (later-bound w.since (f.place + 1) (length lines) (omega (arith, p.since, p.within)) (omega (arith, bound))) (All-nil (UpTo (length lines)))) (λ q. refl) refl;
        stands = plain-stands c w bytes looked t.watches b k;
        looks = λ q e. absurd (held-after (end_of_plain b) e);
        who = refl;
        ahead = inr (plain-ahead c w bytes t.watches b k);
        zxid = omega (arith, ints);
        cursor = omega (arith, ints);
      }

  -- ---- a frame that only the tree answers

  -- a core that asks while its frame is at work
  pub asking-walks : (c d : Core) (w : Walker) (bytes : List ℕ) (looked : ℕ) (out : List Action) → Works store lines conn c w bytes → sends out ≡ []
      → d.zxid ≡ c.zxid → d.cursor ≡ c.cursor → d.watches ≡ c.watches → d.next ≡ c.next → d.who ≡ c.who → Stands store lines conn d w looked → is_open d.stage ≡ true → IsAheadIn lines conn d d.stage → (Afresh → IsFreshLook lines conn false d looked)
      → Walks store lines conn Afresh c d w looked out
  asking-walks c d w bytes looked out k quiet z n ws i who s op a fresh = record {
    walker = w;
    strides = strides-none lines conn Afresh c.who.session w out quiet;
    stands = subst (λ b. StandsOpen b store lines conn d w looked) (sym op) s;
    looks = fresh;
    who = who;
    ahead = inr a;
    zxid = omega (arith, ints, z);
    cursor = omega (arith, ints, n);
  }

  pub reads-walks : (c : Core) (w : Walker) (bytes : List ℕ) (looked : ℕ) (xid : ℤ) (r : Request) (v : View) (ws : List Want)
      → Works store lines conn c w bytes → read_request bytes ≡ Asks xid r → Knows store lines conn (asks_for c xid r v ws).0 w looked (Reading xid r v ws) → (Afresh → IsFreshLook lines conn false (asks_for c xid r v ws).0 looked)
      → Walks store lines conn Afresh c (asks_for c xid r v ws).0 w looked (asks_for c xid r v ws).1
  reads-walks c w bytes looked xid r v ws k e knows fresh =
      asking-walks c (asks_for c xid r v ws).0 w bytes looked (asks_for c xid r v ws).1 k refl refl refl refl refl refl (record {
        matches = still-matches lines c (asks_for c xid r v ws).0 w k.matches refl refl refl refl;
        work = record { bytes = bytes; frame = k.frame; reads = e };
        waiting = k.waiting;
        turn = k.turn;
        views = k.views;
        knows = knows;
      }) refl k.ahead fresh

  -- a core whose kept views alone are others
  pub beside-walks : (c d : Core) (xs : KeptViews) (w : Walker) (looked : ℕ) (out : List Action) → Walks store lines conn Afresh (record c { views = xs }) d w looked out → Walks store lines conn Afresh c d w looked out
  beside-walks c d xs w looked out h = record { walker = h.walker; strides = h.strides; stands = h.stands; looks = h.looks; who = h.who; ahead = h.ahead; zxid = h.zxid; cursor = h.cursor }

  pub beside-works : (c : Core) (xs : KeptViews) (w : Walker) (bytes : List ℕ) → AreViewsOf store xs → Works store lines conn c w bytes → Works store lines conn (record c { views = xs }) w bytes
  beside-works c xs w bytes h k = record { legal = k.legal; matches = still-matches lines c (record c { views = xs }) w k.matches refl refl refl refl; frame = k.frame; waiting = k.waiting; turn = k.turn; views = h; ahead = k.ahead }

  -- a plan is asked
  pub plans-walks : (c : Core) (w : Walker) (bytes : List ℕ) (looked now : ℕ) (xid : ℤ) (r : Request) (v : View) (p : Plan) → Works store lines conn c w bytes → read_request bytes ≡ Asks xid r → IsForTree r → IsBoundPlan store c.who r v p now
      → Walks store lines conn Afresh c (decided c xid r v now (Planned p)).0 w looked (decided c xid r v now (Planned p)).1
  plans-walks c w bytes looked now xid r v p k e h bound =
      let d = record c { stage = Committing xid r v p now } in
      asking-walks c d w bytes looked (action.Ask (transaction p) ∷ []) k refl refl refl refl refl refl (record {
        matches = still-matches lines c d w k.matches refl refl refl refl;
        work = record { bytes = bytes; frame = k.frame; reads = e };
        waiting = k.waiting;
        turn = k.turn;
        views = k.views;
        knows = (h, bound);
      }) refl k.ahead (λ q f. absurd (cc))

  anew-walks : (c c' : Core) (w : Walker) (bytes : List ℕ) (looked now : ℕ) (xid : ℤ) (r : Request) (out : List Action)
      → Works store lines conn c w bytes → read_request bytes ≡ Asks xid r → IsForTree r → Looks c xid r empty_view now c' out → Walks store lines conn Afresh c c' w looked out
  anew-walks c c' w bytes looked now xid r out k e h (inl x) =
      walks-is store lines conn Afresh c c' (asks_for c xid r empty_view (take max_ranges x.lacking)) w looked out x.is (reads-walks c w bytes looked xid r empty_view (take max_ranges x.lacking) k e (h, inl (refl, refl, refl)) (λ q f. absurd (cc)))
  anew-walks c c' w bytes looked now xid r out k e h (inr (inl x)) = absurd (let begun : true ≡ false = (x.may).begun in cc)
  anew-walks c c' w bytes looked now xid r out k e h (inr (inr x)) = absurd (x.whole.enough refl h head_want (inl refl) refl)

  -- a plan that is made on a kept view
  at_once-walks : (c c' : Core) (w : Walker) (bytes : List ℕ) (looked now : ℕ) (xid : ℤ) (r : Request) (out : List Action) (q : Bytes) (v : View) → Works store lines conn c w bytes → read_request bytes ≡ Asks xid r → IsForTree r → IsViewOf store v
      → PlansAtOnce c xid r now c' out q v → Walks store lines conn Afresh c c' w looked out
  at_once-walks c c' w bytes looked now xid r out q v k e h of x =
      let d = record c { views = used_first q v c.views } in
      beside-walks c c' (used_first q v c.views) w looked out
      (walks-is store lines conn Afresh d c' (decided d xid r v now (Planned x.plan)) w looked out x.is
      (plans-walks d w bytes looked now xid r v x.plan (beside-works c (used_first q v c.views) w bytes (views-used store q v c.views of k.views) k) e h
      (record { number = of.number; revision = of.revision; known = of.known; made_of = inl of.agrees; put = of.put; good = x.backed.0; keepable = x.backed.1 })))

  looks-walks : (c c' : Core) (w : Walker) (bytes : List ℕ) (looked now : ℕ) (xid : ℤ) (r : Request) (out : List Action) (o : Option Bytes)
      → Works store lines conn c w bytes → read_request bytes ≡ Asks xid r → IsForTree r → LooksFirst c xid r now c' out o → Walks store lines conn Afresh c c' w looked out
  looks-walks c c' w bytes looked now xid r out None k e h x = anew-walks c c' w bytes looked now xid r out k e h x
  looks-walks c c' w bytes looked now xid r out (Some q) k e h x = go (lookup (same q) c.views) refl x
    where
      go : (o : Option View) → lookup (same q) c.views ≡ o → LooksOn c xid r now c' out q o → Walks store lines conn Afresh c c' w looked out
      go None there y = anew-walks c c' w bytes looked now xid r out k e h y
      go (Some v) there (inl y) = at_once-walks c c' w bytes looked now xid r out q v k e h (views-of store (same q) c.views v k.views there) y
      go (Some v) there (inr y) = anew-walks c c' w bytes looked now xid r out k e h y.1

  readable-walks : (c c' : Core) (w : Walker) (bytes : List ℕ) (looked now : ℕ) (out : List Action) (x : Frame) (o : Option Told) → Works store lines conn c w bytes → read_request bytes ≡ x → plain_reply c.watches x ≡ o → TakesReadable c now c' out x o → Walks store lines conn Afresh c c' w looked out
  readable-walks c c' w bytes looked now out x (Some t) k e p h =
      subst (λ y. Is (plainly c (xid_of y) t) c' out → Walks store lines conn Afresh c c' w looked out) e
      (λ i. walks-is store lines conn Afresh c c' (plainly c (xid_of (read_request bytes)) t) w looked out i (plain-walks c w bytes looked t k (ap (plain_reply c.watches) e ∙ p))) h
  readable-walks c c' w bytes looked now out NoHeader None k e p h = absurd h
  readable-walks c c' w bytes looked now out (Unreadable xid place) None k e p h = absurd h
  readable-walks c c' w bytes looked now out (Unknown xid kind) None k e p h = absurd h
  readable-walks c c' w bytes looked now out (Asks xid r) None k e p h = looks-walks c c' w bytes looked now xid r out (update_path r) k e (plain-none c.watches no_watches (Asks xid r) p) h

  pub takes-walks : (c c' : Core) (w : Walker) (bytes : List ℕ) (looked now : ℕ) (out : List Action) → Works store lines conn c w bytes → TakesFrame c bytes now c' out → Walks store lines conn Afresh c c' w looked out
  takes-walks c c' w bytes looked now out k t = readable-walks c c' w bytes looked now out (read_request bytes) (plain_reply c.watches (read_request bytes)) k refl refl t

  -- ---- frames are taken up

  takes_up-walks : (c c' : Core) (w : Walker) (bytes : List ℕ) (looked now : ℕ) (out : List Action) → Works store lines conn c w bytes → TakesUp c bytes now c' out → Walks store lines conn Afresh c c' w looked out
  takes_up-walks c c' w bytes looked now out k t =
      let d = (keeps_alive c bytes now).0 in
      either (is_alive_due c.kept now c.timeout) (Is (keeps_alive c bytes now) c' out) (TakesFrame c bytes now c' out) (Walks store lines conn Afresh c c' w looked out) t
      (λ i. walks-is store lines conn Afresh c c' (keeps_alive c bytes now) w looked out i (asking-walks c d w bytes looked (keeps_alive c bytes now).1 k refl refl refl refl refl refl (record {
        matches = still-matches lines c d w k.matches refl refl refl refl;
        work = k.frame;
        waiting = k.waiting;
        turn = k.turn;
        views = k.views;
        knows = tt;
      }) refl k.ahead (λ q f. absurd (cc))))
      (takes-walks c c' w bytes looked now out k)

module _ (store : Store) (lines : List TranscriptLine) (conn : ℕ) where
  -- one that is ready takes its first frame
  readied : (c : Core) (w : Walker) (looked : ℕ) (bytes : List ℕ) (more : List (List ℕ)) → is_legal lines ≡ true → c.stage ≡ Ready → c.waiting ≡ bytes ∷ more → Stands store lines conn c w looked → Works store lines conn (record c { waiting = more }) w bytes
  readied c w looked bytes more h r e s =
      let fs : AreFrames lines conn c.next (bytes ∷ more) = subst (λ l. AreFrames lines conn c.next l) e (subst (λ g. AreFrames lines conn (waits_from g c.next) c.waiting) r s.waiting) in
      let k : Knows store lines conn c w looked Ready = subst (Knows store lines conn c w looked) r s.knows in
      record {
        legal = h;
        matches = still-matches lines c (record c { waiting = more }) w s.matches refl refl refl refl;
        frame = fs.0;
        waiting = fs.1;
        turn = s.turn;
        views = s.views;
        ahead = k;
      }

  as-before : (Afresh : Type 0) (c d : Core) (more : List (List ℕ)) (w : Walker) (looked : ℕ) (out : List Action) → Walks store lines conn Afresh (record c { waiting = more }) d w looked out → Walks store lines conn Afresh c d w looked out
  as-before Afresh c d more w looked out h = record { walker = h.walker; strides = h.strides; stands = h.stands; looks = h.looks; who = h.who; ahead = h.ahead; zxid = h.zxid; cursor = h.cursor }

  pub rests-walks : (c : Core) (w : Walker) (looked : ℕ) → StandsOpen (is_open c.stage) store lines conn c w looked → Walks store lines conn (IsFreshLook lines conn false c looked) c c w looked []
  rests-walks c w looked s = record { walker = w; strides = strides-none lines conn (IsFreshLook lines conn false c looked) c.who.session w [] refl; stands = s; looks = λ q. q; who = refl; ahead = inl (refl, refl); zxid = omega (arith, ints); cursor = omega (arith, ints) }

  pub goes-walks : (looked now : ℕ) (c c' : Core) (w : Walker) (out : List Action) → is_legal lines ≡ true → StandsOpen (is_open c.stage) store lines conn c w looked → Goes now c c' out → Walks store lines conn (IsFreshLook lines conn false c looked) c c' w looked out
  goes-walks looked now c c' w out h s (rests why same none) = walks-is store lines conn (IsFreshLook lines conn false c looked) c c' (c, []) w looked out (same, none) (rests-walks c w looked s)
  goes-walks looked now c c' w out h s (takes d bytes more first later r e t g o) =
      let open_now : Stands store lines conn c w looked = subst (λ b. StandsOpen b store lines conn c w looked) (ap is_open r) s in
      let one = as-before (IsFreshLook lines conn false c looked) c d more w looked first
      (takes_up-walks store lines conn (IsFreshLook lines conn false c looked) (record c { waiting = more }) d w bytes looked now first (readied c w looked bytes more h r e open_now) t) in
      subst (λ l. Walks store lines conn (IsFreshLook lines conn false c looked) c c' w looked l) (sym o)
      (walks-append store lines conn (IsFreshLook lines conn false c looked) c d c' w looked first later one (goes-walks looked now d c' one.walker later h one.stands g))
