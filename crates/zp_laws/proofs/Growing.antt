-- A core that stands goes on standing while lines and revisions are added, none of them its own request's.
use Rattle.std.proofs.Common.{◌≡◌, ℕ, ◌+◌, List, [], ◌∷◌, ◌++◌, take, refl, sym, ap, ◌∙◌, subst, arith, Bool, true, ℤ, pos, inl, inr}
use Rattle.std.specs.Prelude.{Some}
use Rattle.std.proofs.lemmas.List.{length-append, take-append-le}
use Rattle.ev_types.specs.Store.{Store, store_at}
use Rattle.zk_jute.specs.Requests.{read_request}
use Rattle.zk_model.specs.declared.request.Request.{Request}
use Rattle.zk_service.specs.States.{State}
use Rattle.zk_transcript.specs.History.{frame_shown, state_at}
use Rattle.zk_transcript.specs.Walks.{Walker, after_update, own_update, placed_frame, told_as_of}
use Rattle.zk_transcript.specs.declared.transcript.TranscriptLine.{TranscriptLine}
use Rattle.zk_transcript.proofs.Appending.{first_place-push}
use Rattle.zk_transcript.proofs.Attachments.{attach_of-push}
use Rattle.zk_transcript.proofs.Lookups.{slice_get-front}
use Rattle.zk_transcript.proofs.Walks.{state_at-push}
use Rattle.zk_least.proofs.Firing.{after-line}
use Rattle.zn_layout.specs.StandsFor.{StandsFor}
use Rattle.zn_view.specs.Seen.{View}
use Rattle.zn_view.specs.Views.{Agrees}
use Rattle.zn_view.specs.declared.plan.Who.{Who}
use Rattle.zp_step.specs.Stages.{Core, Pending, Stage, Unconnected, Connecting, Ready, KeepingAlive, Checking, Reading, Committing, Waiting, Shut, waits_from}
use Rattle.zp_laws.specs.Frames.{AreFrames, IsAtWork, IsFrameAt, IsRequestAt}
use Rattle.zp_laws.specs.Growing.{Grows}
use Rattle.zp_laws.specs.Inputs.{Precedes}
use Rattle.zp_laws.specs.Standing.{IsFreshLook, IsMadeOf, IsMoment, IsPastFrame, IsReply, IsViewAt, Knows, Matches, Stands, has_looked}
use Rattle.zp_laws.proofs.Keeping.{views-kept}
use Rattle.zp_laws.proofs.Strides.{placed}

module _ (lines more : List TranscriptLine) (conn : ℕ) where
  frame-push : (i : ℕ) (bytes : List ℕ) → IsFrameAt lines conn i bytes → IsFrameAt (lines ++ more) conn i bytes
  frame-push i bytes f = record { place = f.place; framed = first_place-push (frame_shown conn i) 0 lines more (f.place, bytes) f.framed; header = f.header; small = f.small }

  request-push : (i : ℕ) (xid : ℤ) (r : Request) → IsRequestAt lines conn i xid r → IsRequestAt (lines ++ more) conn i xid r
  request-push i xid r q = record { bytes = q.bytes; frame = frame-push i q.bytes q.frame; reads = q.reads }

  pub frames-push : (i : ℕ) (fs : List (List ℕ)) → AreFrames lines conn i fs → AreFrames (lines ++ more) conn i fs
  frames-push i [] h = tt
  frames-push i (f ∷ fs) h = (frame-push i f h.0, frames-push (i + 1) fs h.1)

  work-push : (i : ℕ) (st : Stage) → IsAtWork lines conn i st → IsAtWork (lines ++ more) conn i st
  work-push i (KeepingAlive f) h = frame-push i f h
  work-push i (Checking f) h = frame-push i f h
  work-push i (Reading xid r v ws) h = request-push i xid r h
  work-push i (Committing xid r v p m) h = request-push i xid r h
  work-push i (Unconnected fresh) h = tt
  work-push i (Connecting connect) h = tt
  work-push i Ready h = tt
  work-push i (Waiting p) h = tt
  work-push i Shut h = tt

  -- the place of a frame that has come stays
  pub past-push : (i looked k : ℕ) (f : List ℕ) → placed_frame conn i lines ≡ Some (k, f) → IsPastFrame lines conn i looked → IsPastFrame (lines ++ more) conn i looked
  past-push i looked k f here past j bytes e = past j bytes (here ∙ sym (first_place-push (frame_shown conn i) 0 lines more (k, f) here) ∙ e)

  module _ (who : Who) (w : Walker) (looked : ℕ) where
    pub moment-push : IsMoment lines conn who w looked → IsMoment (lines ++ more) conn who w looked
    moment-push t = record {
      past = omega (arith, t.past, length-append lines more);
      later = t.later;
      told = t.told;
      place = t.place;
      attached = attach_of-push lines more conn (t.place, record { zxid = who.mine; session = who.session }) t.attached;
      since = t.since;
    }

    view-push : (store store' : Store) (v : View) → Precedes store store' → IsViewAt store lines conn who w v looked → IsViewAt store' (lines ++ more) conn who w v looked
    view-push store store' v x t = record {
      number = t.number;
      revision = t.revision;
      begun = t.begun;
      known = omega (arith, t.known, x.longer);
      agrees = subst (Agrees v) (sym (x.same t.number t.known)) t.agrees;
      stands = subst (λ m. StandsFor m (state_at (lines ++ more) looked)) (sym (x.same t.number t.known)) (subst (StandsFor (store_at store t.number)) (sym (state_at-push lines more looked (t.moment).past)) t.stands);
      moment = moment-push t.moment;
    }

  reply-push : (who : Who) (w : Walker) (p : Pending) (looked : ℕ) → own_update conn w.next (lines ++ more) ≡ own_update conn w.next lines → IsReply lines conn who w p looked → IsReply (lines ++ more) conn who w p looked
  reply-push who w p looked own r = record {
    moment = moment-push who w looked r.moment;
    bytes = r.bytes;
    frame = frame-push w.next r.bytes r.frame;
    xid = r.xid;
    zxid = ap (λ (s : State). s.zxid) (state_at-push lines more looked (r.moment).past) ∙ r.zxid;
    number = ap (λ (s : State). pos s.updates) (state_at-push lines more looked (r.moment).past) ∙ r.number;
    told = λ ws. ap (λ past. told_as_of past conn who.session (read_request r.bytes) ws (own_update conn w.next (lines ++ more))) (take-append-le looked lines more (r.moment).past)
        ∙ ap (told_as_of (take looked lines) conn who.session (read_request r.bytes) ws) own ∙ r.told ws;
  }

module _ (store store' : Store) (lines more : List TranscriptLine) (conn : ℕ) (c : Core) (w : Walker) (looked : ℕ) (g : Grows store store' lines more conn c) where
  matches-push : Matches lines c w → Matches (lines ++ more) c w
  matches-push m =
      let p = placed lines c w g.legal m in
      let within = p.within in
      let there = slice_get-front lines more p.line (omega (arith, within)) ∙ p.shown in
      record {
        zxid = m.zxid;
        since = p.since ∙ sym (ap (λ z. after_update z (lines ++ more)) p.zxid ∙ after-line (lines ++ more) p.line p.update g.still_legal there);
        watches = m.watches;
        next = m.next;
        over = m.over;
        at = record { line = p.line; update = p.update; shown = there; zxid = p.zxid; cursor = p.cursor ∙ ap (λ (s : State). pos s.updates) (sym (state_at-push lines more (p.line + 1) p.within)) };
      }

  knows-push : (st : Stage) → c.stage ≡ st → Matches lines c w → IsAtWork lines conn c.next st → Knows store lines conn c w looked st → Knows store' (lines ++ more) conn c w looked st
  knows-push (Unconnected fresh) e m k h = h
  knows-push (Connecting connect) e m k h = h
  knows-push Ready e m k h = g.ahead e
  knows-push (KeepingAlive f) e m k h = tt
  knows-push (Checking f) e m k h = tt
  knows-push Shut e m k h = tt
  knows-push (Reading xid r v ws) e m k (tree, inl none) = (tree, inl none)
  knows-push (Reading xid r v ws) e m k (tree, inr view) =
      (tree, inr (view-push lines more conn c.who w looked store store' v g.before view))
  knows-push (Committing xid r v p n) e m k (tree, b) =
      (tree, record { number = b.number; revision = b.revision; known = omega (arith, b.known, (g.before).longer); made_of = subst (IsMadeOf r v p) (sym ((g.before).same b.number b.known)) b.made_of; put = b.put; good = b.good; keepable = b.keepable })
  knows-push (Waiting p) e m k h =
      (reply-push lines more conn c.who w p looked (ap (λ n. own_update conn n (lines ++ more)) m.next ∙ g.own p e ∙ sym (ap (λ n. own_update conn n lines) m.next)) h.0, h.1)

  pub stands-push : Stands store lines conn c w looked → Stands store' (lines ++ more) conn c w looked
  stands-push s = record {
    matches = matches-push s.matches;
    work = work-push lines more conn c.next c.stage s.work;
    waiting = frames-push lines more conn (waits_from c.stage c.next) c.waiting s.waiting;
    turn = g.turn;
    views = views-kept store store' c.views g.before s.views;
    knows = knows-push c.stage refl s.matches s.work s.knows;
  }

-- ---- what was seen for the frame at work was seen after its line, which stays where it is

module _ (store : Store) (lines more : List TranscriptLine) (conn : ℕ) (answered : Bool) (c : Core) (w : Walker) (looked : ℕ) (s : Stands store lines conn c w looked) where
  at-work : (st : Stage) → IsAtWork lines conn c.next st → Knows store lines conn c w looked st → has_looked answered st ≡ true → IsPastFrame lines conn c.next looked → IsPastFrame (lines ++ more) conn c.next looked
  at-work (Checking f) work k e past = past-push lines more conn c.next looked work.place f work.framed past
  at-work (Reading xid r v ws) work k e past = past-push lines more conn c.next looked (work.frame).place work.bytes (work.frame).framed past
  at-work (Committing xid r v p n) work k e past = past-push lines more conn c.next looked (work.frame).place work.bytes (work.frame).framed past
  at-work (Waiting p) work (r, undue) e past =
      past-push lines more conn c.next looked (r.frame).place r.bytes (ap (λ n. placed_frame conn n lines) (sym (s.matches).next) ∙ (r.frame).framed) past
  at-work (Unconnected fresh) work k e past = absurd (cc)
  at-work (Connecting connect) work k e past = absurd (cc)
  at-work Ready work k e past = absurd (cc)
  at-work (KeepingAlive f) work k e past = absurd (cc)
  at-work Shut work k e past = absurd (cc)

  pub look-push : IsFreshLook lines conn answered c looked → IsFreshLook (lines ++ more) conn answered c looked
  look-push fresh e = at-work c.stage s.work s.knows e (fresh e)
