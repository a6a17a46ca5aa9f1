-- What an attached connection asks is bound, and is its own.
use Rattle.std.proofs.Common.{◌≡◌, ℕ, ◌≤◌, List, [], ◌∷◌, refl, sym, ap, subst, true, ℤ, pos}
use Rattle.std.specs.Prelude.{Some, None, ◌≤ℤ◌, option_and_then}
use Rattle.ev_types.specs.Store.{Store}
use Rattle.ev_types.specs.declared.ask.Ask.{Ask}
use Rattle.ev_types.specs.declared.ask.TxnReq.{TxnReq}
use Rattle.zk_model.specs.Limits.{max_long}
use Rattle.zk_model.specs.declared.request.Request.{Request}
use Rattle.zk_model.specs.declared.request.Request.TheVariants as req
use Rattle.zk_transcript.proofs.Lookups.{first_shown-place}
use Rattle.zk_transcript.specs.History.{frame_shown}
use Rattle.zk_transcript.specs.Legal.{attach_of}
use Rattle.zk_transcript.specs.Walks.{Walker}
use Rattle.zk_transcript.specs.declared.transcript.TranscriptLine.{TranscriptLine}
use Rattle.zn_view.specs.Asks.{plan_txn, ranges_of}
use Rattle.zn_view.specs.declared.plan.Who.{Who}
use Rattle.zn_view.specs.declared.want.Want.{Want}
use Rattle.zs_session.specs.Sessions.{attach_wants}
use Rattle.zp_step.specs.Stages.{Core, Stage, Unconnected, Connecting, Ready, KeepingAlive, Checking, Reading, Committing, Waiting, Shut, asked_of, is_served}
use Rattle.zp_laws.specs.Frames.{IsAtWork}
use Rattle.zp_laws.specs.Standing.{Knows, is_ahead}
use Rattle.zp_laws.specs.Walking.{IsAheadIn}
use Rattle.zp_step.specs.Kinds.{kind_in_stage, kind_of_request}
use Rattle.zx_base.proofs.Options.{none_some, some_is}
use Rattle.zp_world_laws.proofs.Executing.{kind-same}
use Rattle.zp_world_laws.specs.Bounds.{IsBound, IsBoundAs, IsBoundAsk, IsBoundRequest, attachment}
use Rattle.zp_world_laws.specs.Connections.{HasSmallFrames}
use Rattle.zp_world_laws.specs.Holding.{made_for, requested_by}
use Rattle.zp_world_laws.specs.Serving.{only_reads}

pub ranges-read : (r : ℤ) (ws : List Want) → only_reads (ranges_of r ws) ≡ true
ranges-read r [] = refl
ranges-read r (w ∷ ws) = ranges-read r ws

-- ---- it is bound

-- the connection's own line, and its frames
pub record IsOwner (lines : List TranscriptLine) (c : ℕ) (who : Who) : Type 0 where
  pub place : ℕ
  pub attached : attach_of c lines ≡ Some (place, attachment who)
  pub least : pos 1 ≤ℤ who.session
  pub most : who.session ≤ℤ max_long
  pub rises : pos 1 ≤ℤ who.mine
  pub small : HasSmallFrames lines c

bound-kind : (q : Request) (s : Store) (lines : List TranscriptLine) (c i m : ℕ) (id : ℤ) (t : TxnReq) → IsBoundRequest s lines c i (kind_of_request c i id m q) t → IsBound s lines (kind_of_request c i id m q) t
bound-kind req.Close s lines c i m id t b = b
bound-kind _ s lines c i m id t b = b

bound-at : (s : Store) (lines : List TranscriptLine) (c : ℕ) (core : Core) (w : Walker) (looked : ℕ) (a : Ask) (st : Stage) → IsOwner lines c core.who → 1 ≤ core.next → is_served st ≡ true → IsAtWork lines c core.next st → Knows s lines c core w looked st → asked_of core.who st ≡ Some a
    → IsBoundAs s lines (kind_in_stage c core st) a
bound-at s lines c core w looked a (Unconnected f) o least served work knows e = absurd (cc)
bound-at s lines c core w looked a (Connecting ph) o least served work knows e = absurd (cc)
bound-at s lines c core w looked a Ready o least served work knows e = absurd (none_some e)
bound-at s lines c core w looked a (Waiting p) o least served work knows e = absurd (none_some e)
bound-at s lines c core w looked a Shut o least served work knows e = absurd (cc)
bound-at s lines c core w looked a (KeepingAlive f) o least served work knows e = subst (IsBoundAs s lines None) (some_is e) tt
bound-at s lines c core w looked a (Checking f) o least served work knows e = subst (IsBoundAs s lines None) (some_is e) (record { success = ranges-read (pos 0) (attach_wants core.who.session); failure = refl })
bound-at s lines c core w looked a (Reading xid r v ws) o least served work knows e = subst (IsBoundAs s lines None) (some_is e) (record { success = ranges-read v.revision ws; failure = refl })
bound-at s lines c core w looked a (Committing xid q v p m) o least served work (tree, b) e =
    let kind = kind_of_request c core.next core.who.session m q in
    subst (IsBoundAs s lines (Some kind)) (some_is e) (
      bound-kind q s lines c core.next m core.who.session (plan_txn p) (record {
        who = core.who;
        place = o.place;
        attached = o.attached;
        least = o.least;
        most = o.most;
        rises = o.rises;
        index = least;
        xid = xid;
        request = q;
        framed = work;
        small = o.small core.next work.bytes (first_shown-place (frame_shown c core.next) 0 lines ((work.frame).place, work.bytes) (work.frame).framed);
        tree = tree;
        time = m;
        of_kind = kind-same q core.who.session c core.next m;
        view = v;
        plan = p;
        bound = b;
        txn = refl;
      }),
      ranges-read (pos 0) p.again,
    )

pub asked-bound : (s : Store) (lines : List TranscriptLine) (c : ℕ) (core : Core) (w : Walker) (looked : ℕ) (a : Ask) → IsOwner lines c core.who → 1 ≤ core.next → is_served core.stage ≡ true → IsAtWork lines c core.next core.stage → Knows s lines c core w looked core.stage
    → asked_of core.who core.stage ≡ Some a → IsBoundAsk s lines (record { ask = a; kind = kind_in_stage c core core.stage })
asked-bound s lines c core w looked a o least served work knows e = bound-at s lines c core w looked a core.stage o least served work knows e

-- ---- it is its own

kind-maker : (q : Request) (id : ℤ) (c i m d : ℕ) → made_for (kind_of_request c i id m q) ≡ Some d → d ≡ c
kind-maker req.Close id c i m d e = sym (some_is e)
kind-maker _ id c i m d e = sym (some_is e)

kind-index : (q : Request) (id : ℤ) (c i m d j : ℕ) → requested_by (kind_of_request c i id m q) ≡ Some (record { connection = d; index = j }) → i ≡ j
kind-index req.Close id c i m d j e = ap (λ o. elim o [ None ↦ i | Some p ↦ p.index ]) e
kind-index _ id c i m d j e = ap (λ o. elim o [ None ↦ i | Some p ↦ p.index ]) e

maker-at : (c : ℕ) (core : Core) (d : ℕ) (st : Stage) → is_served st ≡ true → option_and_then made_for (kind_in_stage c core st) ≡ Some d → d ≡ c
maker-at c core d (Unconnected f) s e = absurd (cc)
maker-at c core d (Connecting ph) s e = absurd (cc)
maker-at c core d Ready s e = absurd (none_some e)
maker-at c core d (Waiting p) s e = absurd (none_some e)
maker-at c core d Shut s e = absurd (cc)
maker-at c core d (KeepingAlive f) s e = absurd (none_some e)
maker-at c core d (Checking f) s e = absurd (none_some e)
maker-at c core d (Reading xid r v ws) s e = absurd (none_some e)
maker-at c core d (Committing xid q v p m) s e = kind-maker q core.who.session c core.next m d e

pub asked-own : (c : ℕ) (core : Core) (d : ℕ) → is_served core.stage ≡ true → option_and_then made_for (kind_in_stage c core core.stage) ≡ Some d → d ≡ c
asked-own c core d s e = maker-at c core d core.stage s e

index-at : (c : ℕ) (core : Core) (d j : ℕ) (st : Stage) → is_served st ≡ true → option_and_then requested_by (kind_in_stage c core st) ≡ Some (record { connection = d; index = j }) → core.next ≡ j
index-at c core d j (Unconnected f) s e = absurd (cc)
index-at c core d j (Connecting ph) s e = absurd (cc)
index-at c core d j Ready s e = absurd (none_some e)
index-at c core d j (Waiting p) s e = absurd (none_some e)
index-at c core d j Shut s e = absurd (cc)
index-at c core d j (KeepingAlive f) s e = absurd (none_some e)
index-at c core d j (Checking f) s e = absurd (none_some e)
index-at c core d j (Reading xid r v ws) s e = absurd (none_some e)
index-at c core d j (Committing xid q v p m) s e = kind-index q core.who.session c core.next m d j e

pub asked-index : (c : ℕ) (core : Core) (d j : ℕ) → is_served core.stage ≡ true → option_and_then requested_by (kind_in_stage c core core.stage) ≡ Some (record { connection = d; index = j }) → core.next ≡ j
asked-index c core d j s e = index-at c core d j core.stage s e

-- ---- the request that it asks for has no line

ahead-at : (lines : List TranscriptLine) (c : ℕ) (core : Core) (a : Ask) (st : Stage) → is_served st ≡ true → asked_of core.who st ≡ Some a → IsAheadIn lines c core st → is_ahead lines c core.next ≡ true
ahead-at lines c core a (Unconnected f) s e h = absurd (cc)
ahead-at lines c core a (Connecting ph) s e h = absurd (cc)
ahead-at lines c core a (Waiting p) s e h = absurd (none_some e)
ahead-at lines c core a Shut s e h = absurd (cc)
ahead-at lines c core a Ready s e h = absurd (none_some e)
ahead-at lines c core a (KeepingAlive f) s e h = h
ahead-at lines c core a (Checking f) s e h = h
ahead-at lines c core a (Reading xid r v ws) s e h = h
ahead-at lines c core a (Committing xid q v p m) s e h = h

pub asked-ahead : (lines : List TranscriptLine) (c : ℕ) (core : Core) (a : Ask) → is_served core.stage ≡ true → asked_of core.who core.stage ≡ Some a → IsAheadIn lines c core core.stage → is_ahead lines c core.next ≡ true
asked-ahead lines c core a s e h = ahead-at lines c core a core.stage s e h
