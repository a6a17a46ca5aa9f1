-- What a part of a step leaves comes from what was heard, and so does the cause for which it closes.
use Rattle.std.proofs.Common.{◌≡◌, ℤ, List, [], ◌∷◌, ◌++◌, Bool, true, false, refl, sym, ◌∙◌, subst, arith}
use Rattle.std.specs.Prelude.{Option, Some, None, All, Contains, if◌then◌else◌}
use Rattle.std.proofs.lemmas.List.Elements.{Contains-append_right}
use Rattle.zx_base.proofs.Options.{none_some, some_is}
use Rattle.ev_types.specs.declared.ask.Ask.{Ask}
use Rattle.zk_jute.specs.Packets.{reply_packet}
use Rattle.zk_model.specs.declared.reply.Reply.{Reply}
use Rattle.zk_service.specs.declared.cause.Cause.{Cause}
use Rattle.zk_service.specs.declared.cause.Cause.TheVariants as cause
use Rattle.zp_step.specs.Replies.{Is, close_after, closed_by, is_due, replied, send_notices, stage_after, waits}
use Rattle.zp_step.specs.Stages.{Core, Pending, Ready, Waiting, Shut, seen_by}
use Rattle.zp_step.specs.declared.action.Action.{Action}
use Rattle.zp_step.specs.declared.action.Action.TheVariants as action
use Rattle.zp_step.specs.declared.input.Input.{Input}
use Rattle.zp_step.proofs.Ending.{notices-only, only_sends}
use Rattle.zp_run.specs.Causes.{IsEndReply, Shows}
use Rattle.zp_run.specs.Heard.{Heard, EndsFor, HoldsHeard, MayEndFor}
use Rattle.zp_run.specs.Runs.{closed_for}
use Rattle.zn_view.specs.declared.plan.Who.{Who}

-- what waits and what the stage holds came
pub record Held (k : Heard) (c : Core) : Type 0 where
  pub waiting : All (Contains k.frames) c.waiting
  pub stage : HoldsHeard k c.who c.stage

pub record Done (k : Heard) (c0 : Core) (x : Input) (c' : Core) (out : List Action) : Type 0 where
  pub rests : Held k c'
  pub shows : (why : Cause) → closed_for out ≡ Some why → Shows k c0 x c'.who out why
  pub unended : c'.stage ≡ Ready → only_sends out ≡ true

pub done-is : (k : Heard) (c0 : Core) (x : Input) (y : Core × List Action) (c' : Core) (out : List Action) → Is y c' out → Done k c0 x y.0 y.1 → Done k c0 x c' out
done-is k c0 x y c' out i d = subst (λ e. Done k c0 x e out) (sym i.0) (subst (λ o. Done k c0 x y.0 o) (sym i.1) d)

-- ---- packets first

pub closed-after : (first later : List Action) → only_sends first ≡ true → closed_for (first ++ later) ≡ closed_for later
closed-after [] later h = refl
closed-after (action.Send bytes ∷ more) later h = closed-after more later h
closed-after (action.Ask a ∷ more) later h = absurd (cc)
closed-after (action.Close why ∷ more) later h = absurd (cc)

pub sends-both : (first later : List Action) → only_sends first ≡ true → only_sends later ≡ true → only_sends (first ++ later) ≡ true
sends-both [] later h g = g
sends-both (action.Send bytes ∷ more) later h g = sends-both more later h g
sends-both (action.Ask a ∷ more) later h g = absurd (cc)
sends-both (action.Close why ∷ more) later h g = absurd (cc)

-- what is shown by some actions is shown by more
module _ (k : Heard) (c0 : Core) (x : Input) (who : Who) (first later : List Action) where
  end-more : (why : Cause) → IsEndReply k who later why → IsEndReply k who (first ++ later) why
  end-more why h = record { xid = h.xid; zxid = h.zxid; answer = h.answer; sent = Contains-append_right first later _ h.sent; rests = h.rests }

  pub shows-more : (why : Cause) → Shows k c0 x who later why → Shows k c0 x who (first ++ later) why
  shows-more cause.Closed h = end-more cause.Closed h
  shows-more (cause.Expired revision) h = end-more (cause.Expired revision) h
  shows-more (cause.Moved mine found) h = end-more (cause.Moved mine found) h
  shows-more (cause.ClientEnd place) h = h
  shows-more cause.ReadFault h = h
  shows-more cause.WriteFault h = h
  shows-more (cause.BadLength place length) h = h
  shows-more (cause.NoHeader place) h = h
  shows-more cause.AuthRefused h = record { frame = h.frame; came = h.came; told = h.told; plain = h.plain; refused = h.refused; zxid = h.zxid; sent = Contains-append_right first later _ h.sent }
  shows-more cause.Unknown h = record { connect = h.connect; connecting = h.connecting; resumes = h.resumes; view = h.view; gathered = h.gathered; looked = h.looked; none = h.none; sent = Contains-append_right first later _ h.sent }
  shows-more (cause.ZxidAhead client head) h = h
  shows-more (cause.Taken revision) h = h
  shows-more cause.LinkFault h = h
  shows-more (cause.Lagged cursor floor) h = h
  shows-more cause.FeedClosed h = h
  shows-more (cause.Damaged key value) h = h
  shows-more cause.Restart h = h
  shows-more cause.Memory h = h

pub done-after : (k : Heard) (c0 : Core) (x : Input) (c' : Core) (first later : List Action) → only_sends first ≡ true → Done k c0 x c' later → Done k c0 x c' (first ++ later)
done-after k c0 x c' first later only d = record {
  rests = d.rests;
  shows = λ why e. shows-more k c0 x c'.who first later why (d.shows why (sym (closed-after first later only) ∙ e));
  unended = λ r. sends-both first later only (d.unended r);
}

-- ---- rows

pub closed-done : (k : Heard) (c0 : Core) (x : Input) (c c' : Core) (why : Cause) (out : List Action) → All (Contains k.frames) c.waiting → Shows k c0 x c.who (action.Close why ∷ []) why → Is (closed_by c why) c' out → Done k c0 x c' out
closed-done k c0 x c c' why out w h i = done-is k c0 x (closed_by c why) c' out i (record {
  rests = record { waiting = w; stage = tt };
  shows = λ y e. subst (λ z. Shows k c0 x c.who (action.Close why ∷ []) z) (some_is e) h;
  unended = λ r. absurd (cc);
})

pub asks-done : (k : Heard) (c0 : Core) (x : Input) (d c' : Core) (q : Ask) (out : List Action) → Held k d → (d.stage ≡ Ready → ⊥) → Is (d, action.Ask q ∷ []) c' out → Done k c0 x c' out
asks-done k c0 x d c' q out h unready i = done-is k c0 x (d, action.Ask q ∷ []) c' out i (record {
  rests = h;
  shows = λ why e. absurd (none_some e);
  unended = λ r. absurd (unready r);
})

-- the reply that is sent last, and the end after it
end-shown : (k : Heard) (c0 : Core) (x : Input) (who : Who) (out : List Action) (xid zxid : ℤ) (answer : Reply) (why : Cause) → Contains out (action.Send (reply_packet xid zxid answer)) → EndsFor k who xid answer why → Shows k c0 x who out why
end-shown k c0 x who out xid zxid answer cause.Closed sent h = record { xid = xid; zxid = zxid; answer = answer; sent = sent; rests = h }
end-shown k c0 x who out xid zxid answer (cause.Expired revision) sent h = record { xid = xid; zxid = zxid; answer = answer; sent = sent; rests = h }
end-shown k c0 x who out xid zxid answer (cause.Moved mine found) sent h = record { xid = xid; zxid = zxid; answer = answer; sent = sent; rests = h }
end-shown k c0 x who out xid zxid answer (cause.ClientEnd place) sent h = absurd h
end-shown k c0 x who out xid zxid answer cause.ReadFault sent h = absurd h
end-shown k c0 x who out xid zxid answer cause.WriteFault sent h = absurd h
end-shown k c0 x who out xid zxid answer (cause.BadLength place length) sent h = absurd h
end-shown k c0 x who out xid zxid answer (cause.NoHeader place) sent h = absurd h
end-shown k c0 x who out xid zxid answer cause.AuthRefused sent h = absurd h
end-shown k c0 x who out xid zxid answer cause.Unknown sent h = absurd h
end-shown k c0 x who out xid zxid answer (cause.ZxidAhead client head) sent h = absurd h
end-shown k c0 x who out xid zxid answer (cause.Taken revision) sent h = absurd h
end-shown k c0 x who out xid zxid answer cause.LinkFault sent h = absurd h
end-shown k c0 x who out xid zxid answer (cause.Lagged cursor floor) sent h = absurd h
end-shown k c0 x who out xid zxid answer cause.FeedClosed sent h = absurd h
end-shown k c0 x who out xid zxid answer (cause.Damaged key value) sent h = absurd h
end-shown k c0 x who out xid zxid answer cause.Restart sent h = absurd h
end-shown k c0 x who out xid zxid answer cause.Memory sent h = absurd h

first-of : (a : Action) (more : List Action) → Contains (a ∷ more) a
first-of a more = (0, omega (arith), refl)

abbrev IfEnds : Heard → Who → ℤ → Reply → Option Cause → Type 0
IfEnds k who xid answer None = Unit {0}
IfEnds k who xid answer (Some why) = EndsFor k who xid answer why

reply-done : (k : Heard) (c0 : Core) (x : Input) (d : Core) (xid zxid : ℤ) (answer : Reply) (o : Option Cause) → All (Contains k.frames) d.waiting → d.stage ≡ stage_after o
    → IfEnds k d.who xid answer o → Done k c0 x d (action.Send (reply_packet xid zxid answer) ∷ close_after o)
reply-done k c0 x d xid zxid answer None w st h = record {
  rests = record { waiting = w; stage = subst (HoldsHeard k d.who) (sym st) tt };
  shows = λ why e. absurd (none_some e);
  unended = λ r. refl;
}
reply-done k c0 x d xid zxid answer (Some end) w st h = record {
  rests = record { waiting = w; stage = subst (HoldsHeard k d.who) (sym st) tt };
  shows = λ why e. subst (λ z. Shows k c0 x d.who (action.Send (reply_packet xid zxid answer) ∷ action.Close end ∷ []) z) (some_is e)
      (end-shown k c0 x d.who _ xid zxid answer end (first-of (action.Send (reply_packet xid zxid answer)) (action.Close end ∷ [])) h);
  unended = λ r. (let f : Shut ≡ Ready = sym st ∙ r in absurd (cc));
}

may-is : (k : Heard) (who : Who) (p : Pending) (o : Option Cause) → MayEndFor k who p o → IfEnds k who p.xid p.answer o
may-is k who p None h = tt
may-is k who p (Some why) h = h

pub replied-done : (k : Heard) (c0 : Core) (x : Input) (c c' : Core) (p : Pending) (out : List Action) → All (Contains k.frames) c.waiting → MayEndFor k c.who p p.ends → Is (replied c p) c' out → Done k c0 x c' out
replied-done k c0 x c c' p out w h i = done-is k c0 x (replied c p) c' out i
    (done-after k c0 x (replied c p).0 (send_notices (seen_by p.change c.watches).notices) (action.Send (reply_packet p.xid p.zxid p.answer) ∷ close_after p.ends) (notices-only (seen_by p.change c.watches).notices)
    (reply-done k c0 x (replied c p).0 p.xid p.zxid p.answer p.ends w refl (may-is k c.who p p.ends h)))

pub waits-done : (k : Heard) (c0 : Core) (x : Input) (c c' : Core) (p : Pending) (out : List Action) → All (Contains k.frames) c.waiting → MayEndFor k c.who p p.ends → Is (waits c p) c' out → Done k c0 x c' out
waits-done k c0 x c c' p out w h i = go (is_due c p) i
  where
    go : (b : Bool) → Is (if b then replied c p else (record c { stage = Waiting p }, [])) c' out → Done k c0 x c' out
    go true j = replied-done k c0 x c c' p out w h j
    go false j = done-is k c0 x (record c { stage = Waiting p }, []) c' out j (record {
      rests = record { waiting = w; stage = h };
      shows = λ why e. absurd (none_some e);
      unended = λ r. refl;
    })
