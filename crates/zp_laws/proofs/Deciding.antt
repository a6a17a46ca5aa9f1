-- A view that is whole: it is decided, and a reply waits or a plan is asked.
use Rattle.std.proofs.Common.{◌≡◌, ℕ, List, [], take, refl, sym, ap, ◌∙◌, subst, arith, true, ℤ, pos, inl, inr}
use Rattle.std.specs.Prelude.{Option, Some, None, is_some, ◌≤ℤ◌, ◌⊎◌}
use Rattle.std.specs.FinMap.{get}
use Rattle.std.proofs.lemmas.List.Elements.{All-weaker}
use Rattle.ev_types.specs.Ranges.{Keys}
use Rattle.ev_types.specs.Store.{Store, store_at}
use Rattle.zk_jute.specs.Requests.{Asks, read_request}
use Rattle.zk_model.specs.Codes.{session_expired, session_moved}
use Rattle.zk_model.specs.Watches.{Watches}
use Rattle.zk_model.specs.declared.reply.Reply.{Reply}
use Rattle.zk_model.specs.declared.reply.Reply.TheVariants as reply
use Rattle.zk_model.specs.declared.request.Request.{Request}
use Rattle.zk_service.specs.Answers.{owned_limit_in, xid_of}
use Rattle.zk_service.specs.States.{Session, limit_of, session_at}
use Rattle.zk_transcript.specs.History.{state_at}
use Rattle.zk_transcript.specs.Walks.{Walker, own_update, told_as_of}
use Rattle.zk_transcript.specs.Legal.{is_legal, attach_shown}
use Rattle.zk_service.specs.declared.cause.Cause.{Cause}
use Rattle.zk_service.specs.declared.cause.Cause.TheVariants as cause
use Rattle.zk_transcript.specs.declared.transcript.TranscriptLine.{TranscriptLine}
use Rattle.zn_layout.specs.Keys.{HeadKey, key_bytes}
use Rattle.zn_view.specs.Asks.{head_want}
use Rattle.zn_view.specs.Needs.{AreNeeds}
use Rattle.zn_view.specs.Seen.{View, seen}
use Rattle.zn_view.specs.Views.{IsBySession, WasPut, live}
use Rattle.zx_base.specs.Maps.{Bytes}
use Rattle.zn_view.specs.declared.plan.Decision.{Decision}
use Rattle.zn_view.specs.declared.plan.Decision.TheVariants.{Answered, Planned, Expired, Moved}
use Rattle.zn_view.specs.declared.snapshot.SeenKey.{SeenKey}
use Rattle.zn_view.proofs.Asked.{stands-put}
use Rattle.zn_view.proofs.LastUpdate.{last_update-told}
use Rattle.zp_step.specs.Kept.{keeps, view_path}
use Rattle.zp_step.specs.Looking.{IsBacked, Looks, asks_for, change_by, decided, expired, guessed, max_ranges, moved, pending, IsForTree}
use Rattle.zp_step.specs.Replies.{Is, waits}
use Rattle.zp_step.specs.Stages.{AddsWatch, Core, WatchChange}
use Rattle.zp_step.specs.declared.action.Action.{Action}
use Rattle.zp_laws.specs.Frames.{IsFrameAt}
use Rattle.zp_laws.specs.Standing.{IsMoment, IsPastFrame, IsReply, IsViewAt, IsViewOf, Matches}
use Rattle.zp_laws.specs.Walking.{Walks}
use Rattle.zp_laws.proofs.Attached.{IsAttached, away-refused, first_place-take, gone-refused, here-served, live-is, moored}
use Rattle.zp_laws.proofs.Going.{Works, beside-walks, beside-works, plans-walks, reads-walks}
use Rattle.zp_laws.proofs.Keeping.{all-placed, views-with}
use Rattle.zp_laws.proofs.Replying.{Busy, past-told, waits-walks}
use Rattle.zp_laws.proofs.Revisions.{FoundIn}
use Rattle.zp_laws.proofs.Strides.{walks-is}
use Rattle.zp_laws.proofs.Telling.{answered-by, by-form, expired-by, moved-by, refused-told, told-by, tree-told, told_by}

-- ---- the moment at which a view was read

pub attached-then : (lines : List TranscriptLine) (conn : ℕ) (c : Core) (w : Walker) (looked : ℕ) → is_legal lines ≡ true → pos 1 ≤ℤ c.who.session → Matches lines c w → IsMoment lines conn c.who w looked → IsAttached lines conn c.who looked
attached-then lines conn c w looked h least m t = record {
  legal = (past-told lines c w looked h m t.told).legal;
  place = t.place;
  own = first_place-take (attach_shown conn) 0 looked lines t.place (record { zxid = c.who.mine; session = c.who.session }) t.attached (let since = t.since in omega (arith, since));
  least = least;
}

-- what every decision on a view knows
pub record Sees (store : Store) (lines : List TranscriptLine) (conn : ℕ) (c : Core) (w : Walker) (bytes : List ℕ) (v : View) (looked : ℕ) : Type 0 where
  pub works : Works store lines conn c w bytes
  pub least : pos 1 ≤ℤ c.who.session
  pub view : IsViewAt store lines conn c.who w v looked
  pub head : seen v (key_bytes HeadKey) ≡ None → ⊥
  pub own : own_update conn c.next lines ≡ None

pub busy : (store : Store) (lines : List TranscriptLine) (conn : ℕ) (c : Core) (w : Walker) (bytes : List ℕ) → Works store lines conn c w bytes → Busy store lines conn c w
busy store lines conn c w bytes k = record { legal = k.legal; matches = k.matches; waiting = k.waiting; turn = k.turn; views = k.views }

-- the frame at work is the walker's next one
pub walker-frame : (lines : List TranscriptLine) (conn : ℕ) (c : Core) (w : Walker) (bytes : List ℕ) → Matches lines c w → IsFrameAt lines conn c.next bytes → IsFrameAt lines conn w.next bytes
walker-frame lines conn c w bytes m f = subst (λ n. IsFrameAt lines conn n bytes) (sym m.next) f

module _ (store : Store) (lines : List TranscriptLine) (conn : ℕ) (c : Core) (w : Walker) (bytes : List ℕ) (v : View) (looked : ℕ) (k : Sees store lines conn c w bytes v looked) where
  m : Matches lines c w
  m = (k.works).matches

  a : IsAttached lines conn c.who looked
  a = attached-then lines conn c w looked (k.works).legal k.least (k.works).matches (k.view).moment

  -- a reply on the view
  view-reply : (xid : ℤ) (r : Reply) (change : WatchChange) (ends : Option Cause) → xid_of (read_request bytes) ≡ xid
      → ((ws : Watches) → told_as_of (take looked lines) conn c.who.session (read_request bytes) ws None ≡ Some (is_some ends, told_by change r ws))
      → IsReply lines conn c.who w (pending v xid r change ends) looked
  view-reply xid r change ends e told =
      let h = last_update-told v (store_at store (k.view).number) (state_at lines looked) (k.view).stands (k.view).agrees k.head in
      record {
        moment = (k.view).moment;
        bytes = bytes;
        frame = walker-frame lines conn c w bytes m (k.works).frame;
        xid = e;
        zxid = sym h.0;
        number = sym h.1;
        told = λ ws. ap (told_as_of (take looked lines) conn c.who.session (read_request bytes) ws) (ap (λ n. own_update conn n lines) m.next ∙ k.own) ∙ told ws;
      }

  module _ (Afresh : Type 0) (past : Afresh → IsPastFrame lines conn c.next looked) (c' : Core) (out : List Action) where
    reply-walks : (xid : ℤ) (r : Reply) (change : WatchChange) (ends : Option Cause) → xid_of (read_request bytes) ≡ xid
        → ((ws : Watches) → told_as_of (take looked lines) conn c.who.session (read_request bytes) ws None ≡ Some (is_some ends, told_by change r ws))
        → Is (waits c (pending v xid r change ends)) c' out → Walks store lines conn Afresh c c' w looked out
    reply-walks xid r change ends e told i =
        waits-walks store lines conn c w (pending v xid r change ends) looked (busy store lines conn c w bytes k.works) (view-reply xid r change ends e told) Afresh past c' out i

    -- the session has expired or moved
    pub expired-walks : (xid : ℤ) → xid_of (read_request bytes) ≡ xid → live (session_at c.who.session (state_at lines looked)) ≡ None → Is (waits c (expired v xid)) c' out → Walks store lines conn Afresh c c' w looked out
    expired-walks xid e h i =
        reply-walks xid (reply.Refused session_expired) (AddsWatch None) (Some (cause.Expired v.revision)) e
        (λ ws. refused-told lines conn looked c.who.session (read_request bytes) (reply.Refused session_expired) ws (gone-refused lines conn c.who looked a h)) i

    pub moved-walks : (xid found : ℤ) (x : Session) → xid_of (read_request bytes) ≡ xid → live (session_at c.who.session (state_at lines looked)) ≡ Some x → (x.attached ≡ c.who.mine → ⊥) → Is (waits c (moved c.who v found xid)) c' out → Walks store lines conn Afresh c c' w looked out
    moved-walks xid found x e h differ i =
        reply-walks xid (reply.Refused session_moved) (AddsWatch None) (Some (cause.Moved c.who.mine found)) e
        (λ ws. refused-told lines conn looked c.who.session (read_request bytes) (reply.Refused session_moved) ws (away-refused lines conn c.who looked a x h differ)) i

    -- a decision
    module _ (xid : ℤ) (q : Request) (e : read_request bytes ≡ Asks xid q) (tree : IsForTree q) where
      xid-is : xid_of (read_request bytes) ≡ xid
      xid-is = ap xid_of e

      limit-is : (x : Session) → live (session_at c.who.session (state_at lines looked)) ≡ Some x → owned_limit_in (session_at c.who.session (state_at lines looked)) ≡ limit_of x
      limit-is x h = ap owned_limit_in ((live-is (session_at c.who.session (state_at lines looked)) x h).there)

      decided-walks : (now : ℕ) (d : Decision) → AreNeeds q c.who v [] → IsBySession (state_at lines looked) c.who q d (live (session_at c.who.session (state_at lines looked))) → IsBacked q c.who now v d
          → Is (decided c xid q v now d) c' out → Walks store lines conn Afresh c c' w looked out
      decided-walks now (Answered r arm) whole by back i =
          let s = state_at lines looked in
          let b = answered-by s c.who q r arm (live (session_at c.who.session s)) refl by in
          reply-walks xid r (change_by q v arm) None xid-is
          (λ ws. ap (λ x. told_as_of (take looked lines) conn c.who.session x ws None) e
          ∙ tree-told lines conn looked c.who.session xid q (told_by (change_by q v arm) r ws) ws (limit_of b.session) (limit-is b.session b.lives) (here-served lines conn c.who looked a b.session b.lives b.mine) tree
          (told-by s c.who v r arm ws (store_at store (k.view).number, (k.view).stands, (k.view).agrees) q b (whole.enough refl tree))) i
      decided-walks now (Planned p) whole by back i =
          walks-is store lines conn Afresh c c' (decided c xid q v now (Planned p)) w looked out i
          (plans-walks store lines conn Afresh c w bytes looked now xid q v p k.works e tree (record {
            number = (k.view).number;
            revision = (k.view).revision;
            known = (k.view).known;
            made_of = inl (k.view).agrees;
            put = stands-put v (store_at store (k.view).number) (state_at lines looked) (k.view).stands (k.view).agrees;
            good = back.0;
            keepable = back.1;
          }))
      decided-walks now Expired whole by back i = expired-walks xid xid-is (expired-by (state_at lines looked) c.who q (live (session_at c.who.session (state_at lines looked))) by) i
      decided-walks now (Moved found) whole by back i =
          let t = moved-by (state_at lines looked) c.who q found (live (session_at c.who.session (state_at lines looked))) by in
          moved-walks xid found t.session xid-is t.there t.differ i

-- a key has what the view says, or is the one that was guessed absent
abbrev IsSoOrGuessed : Keys → Bytes → SeenKey → Type 0
IsSoOrGuessed m key x = (get m x.key ≡ x.found) ⊎ ((x.key ≡ key) × (x.found ≡ None))

-- more is asked for the view, or the request is decided on it or on a guess
pub view-walks : (store : Store) (lines : List TranscriptLine) (conn : ℕ) (Afresh : Type 0) (c c' : Core) (w : Walker) (bytes : List ℕ) (v : View) (looked now : ℕ) (xid : ℤ) (q : Request) (out : List Action)
    → Works store lines conn c w bytes → pos 1 ≤ℤ c.who.session → IsViewAt store lines conn c.who w v looked → own_update conn c.next lines ≡ None → read_request bytes ≡ Asks xid q → IsForTree q → (Afresh → IsPastFrame lines conn c.next looked)
    → Looks c xid q v now c' out → Walks store lines conn Afresh c c' w looked out
view-walks store lines conn Afresh c c' w bytes v looked now xid q out k least view own e h past (inl x) =
    walks-is store lines conn Afresh c c' (asks_for c xid q v (take max_ranges x.lacking)) w looked out x.is
    (reads-walks store lines conn Afresh c w bytes looked xid q v (take max_ranges x.lacking) k e
    (h, inr (record { number = view.number; revision = view.revision; begun = view.begun; known = view.known; agrees = view.agrees; stands = view.stands; moment = view.moment })) (λ y f. past y))
-- a guess says nothing of what was found
view-walks store lines conn Afresh c c' w bytes v looked now xid q out k least view own e h past (inr (inl x)) =
    let m = store_at store view.number in
    let absent : SeenKey = record { key = x.key; found = None } in
    walks-is store lines conn Afresh c c' (decided c xid q (guessed v x.key) now (Planned x.plan)) w looked out x.is
    (plans-walks store lines conn Afresh c w bytes looked now xid q (guessed v x.key) x.plan k e h (record {
      number = view.number;
      revision = view.revision;
      known = view.known;
      made_of = inr (record {
        sequence = (x.may).sequence;
        key = x.key;
        record_of_node = (x.may).record_of_node;
        keys = all-placed (IsSoOrGuessed m x.key) absent v.keys (inr (refl, refl)) (All-weaker (FoundIn m) (IsSoOrGuessed m x.key) (λ y is. inl is) v.keys (view.agrees).keys);
        taken = x.taken;
      });
      put = all-placed WasPut absent v.keys tt (stands-put v m (state_at lines looked) view.stands view.agrees);
      good = x.backed.0;
      keepable = x.backed.1;
    }))
view-walks store lines conn Afresh c c' w bytes v looked now xid q out k least view own e h past (inr (inr x)) =
    let d = keeps c q v in
    let of : IsViewOf store v = record { number = view.number; revision = view.revision; known = view.known; agrees = view.agrees; put = stands-put v (store_at store view.number) (state_at lines looked) view.stands view.agrees } in
    let works = beside-works store lines conn Afresh c d.views w bytes (views-with store (view_path q) v c.views of k.views) k in
    let sees : Sees store lines conn d w bytes v looked = record { works = works; least = least; view = view; head = λ none. x.whole.enough refl h head_want (inl refl) none; own = own } in
    let s = state_at lines looked in
    let fine = moored lines conn c.who looked (attached-then lines conn c w looked k.legal least k.matches view.moment) in
    beside-walks store lines conn Afresh c c' d.views w looked out
    (decided-walks store lines conn d w bytes v looked sees Afresh past c' out xid q e h now x.decision x.whole
    (by-form s c.who q x.decision h (x.right s fine.sound fine.valid (store_at store view.number, view.stands, view.agrees))) x.backed x.is)
