-- An entry is taken: the next update is told, and then a reply that waited for it is sent.
use Rattle.std.proofs.Common.{◌≡◌, ℕ, ◌+◌, ◌≤◌, ◌<◌, List, ◌++◌, length, refl, sym, ap, ◌∙◌, subst, arith, true, false, ℤ, pos, inl}
use Rattle.std.specs.Prelude.{◌≤ℤ◌, if◌then◌else◌}
use Rattle.std.specs.Ordering.{int_eq}
use Rattle.std.proofs.lemmas.Int.{ints}
use Rattle.std.proofs.lemmas.Bool.Decides.{nat_tests, Decides-int_eq}
use Rattle.std.proofs.lemmas.Option.{slice_get_within}
use Rattle.ev_types.specs.Store.{Store}
use Rattle.zk_model.specs.Watches.{Watches, fire_all, is_unarmed}
use Rattle.zk_model.specs.declared.reply.Notice.{Notice}
use Rattle.zk_transcript.specs.History.{state_at}
use Rattle.zk_transcript.specs.Legal.{is_legal}
use Rattle.zk_transcript.specs.Walks.{Tell, Walker, after_update, fired_at, next_update}
use Rattle.zk_transcript.specs.declared.transcript.TranscriptLine.{TranscriptLine}
use Rattle.zk_transcript.specs.declared.transcript.TranscriptLine.TheVariants.{Update}
use Rattle.zk_service.specs.declared.update.UpdateRec.{UpdateRec}
use Rattle.zk_transcript.proofs.Zxids.{zxids-rise}
use Rattle.zk_least.proofs.Firing.{after-line}
use Rattle.zk_least.proofs.RepeatedPlaces.{tell-next, told_first}
use Rattle.zn_layout.specs.declared.entry.Entry.{Entry}
use Rattle.zn_view.specs.declared.plan.Who.{Who}
use Rattle.zp_step.specs.Entries.{entered, then_reply}
use Rattle.zp_step.specs.Replies.{Is, is_due, send_notices, waits}
use Rattle.zp_step.specs.Stages.{Core, Pending, Stage, Unconnected, Connecting, Ready, KeepingAlive, Checking, Reading, Committing, Waiting, Shut, is_open, waits_from}
use Rattle.zp_step.specs.declared.action.Action.{Action}
use Rattle.zp_laws.specs.Frames.{AreFrames}
use Rattle.zp_laws.specs.Inputs.{IsTrueEntry, takes_entries}
use Rattle.zp_laws.specs.Standing.{IsFreshLook, IsReply, Knows, Matches, Stands, StandsOpen, has_looked}
use Rattle.zp_laws.specs.Walking.{IsStill, Strides, Walks}
use Rattle.zp_step.specs.Ending.{sends}
use Rattle.zp_laws.proofs.Going.{still-matches}
use Rattle.zp_laws.proofs.Replying.{notices-sent, notices-up, past-told, waits-walks}
use Rattle.zp_laws.proofs.Strides.{ahead-append, placed, strides-append, strides-one, walks-is}
use Rattle.zp_laws.proofs.Updates.{IsNext, next-after, next-is, next-within}

-- steps of the walk, and then what follows from where they lead
pub walks-after : (store : Store) (lines : List TranscriptLine) (conn : ℕ) (Afresh : Type 0) (c d c' : Core) (w v : Walker) (looked : ℕ) (first later : List Action)
    → Strides lines conn Afresh c.who.session w v first → d.who ≡ c.who → IsStill c d → c.zxid ≤ℤ d.zxid → c.cursor ≤ℤ d.cursor → Walks store lines conn Afresh d c' v looked later → Walks store lines conn Afresh c c' w looked (first ++ later)
walks-after store lines conn Afresh c d c' w v looked first later s who still zxid cursor b = record {
  walker = b.walker;
  strides = strides-append lines conn Afresh c.who.session w v b.walker first later s (subst (λ (x : Who). Strides lines conn Afresh x.session v b.walker later) who b.strides);
  stands = b.stands;
  looks = b.looks;
  who = b.who ∙ who;
  ahead = ahead-append lines conn c d c' (inl still) b.ahead;
  zxid = omega (arith, ints, zxid, b.zxid);
  cursor = omega (arith, ints, cursor, b.cursor);
}

-- the entry's update is the next one
pub record Enters (lines : List TranscriptLine) (conn : ℕ) (Afresh : Type 0) (c : Core) (w : Walker) (e : Entry) : Type 0 where
  pub place : ℕ
  pub update : UpdateRec
  pub last : ℕ
  pub last_update : UpdateRec
  pub next : IsNext lines last place last_update update
  pub since : w.since ≡ last + 1
  pub cursor : c.cursor ≡ pos (state_at lines (last + 1)).updates
  pub strides : Strides lines conn Afresh c.who.session w (told_first lines w place update.zxid) (entered c e).1
  pub matches : Matches lines (entered c e).0 (told_first lines w place update.zxid)
  pub rises : c.zxid ≤ℤ e.zxid
  pub counts : c.cursor ≤ℤ e.number

pub enters : (lines : List TranscriptLine) (conn : ℕ) (Afresh : Type 0) (c : Core) (w : Walker) (e : Entry) → is_legal lines ≡ true → Matches lines c w → IsTrueEntry lines c e → Enters lines conn Afresh c w e
enters lines conn Afresh c w e h m t =
    let p = placed lines c w h m in
    let of = t.of in
    let count : (state_at lines (of.place + 1)).updates ≡ (state_at lines (p.line + 1)).updates + 1 = omega (arith, ints, of.number, t.next, p.cursor) in
    let n : IsNext lines p.line of.place p.update of.update = record { legal = h; last = p.shown; next = of.shown; count = count } in
    let up = zxids-rise lines p.line of.place p.update of.update h (next-after lines p.line of.place p.update of.update n) p.shown of.shown in
    let y = tell-next lines conn c.who.session w of.place of.update.zxid (ap is_unarmed m.watches ∙ t.armed) (ap (λ z. next_update z lines) (m.zxid ∙ p.zxid) ∙ next-is lines p.line of.place p.update of.update n) in
    let ts = (state_at lines (of.place + 1)).triggers in
    let same : fire_all w.watches ts ≡ fire_all c.watches e.triggers = ap (λ ws. fire_all ws ts) m.watches ∙ ap (fire_all c.watches) (sym of.triggers) in
    let within : of.place + 1 ≤ length lines = omega (arith, slice_get_within lines of.place (Update of.update) of.shown) in
    record {
      place = of.place;
      update = of.update;
      last = p.line;
      last_update = p.update;
      next = n;
      since = p.since;
      cursor = p.cursor;
      strides = strides-one lines conn Afresh c.who.session w Tell (told_first lines w of.place of.update.zxid, (fired_at lines of.place w.watches).1) (entered c e).1 y
          (notices-sent (of.place + 1) (fire_all w.watches ts).1 ∙ ap (λ (f : Watches × List Notice). sends (send_notices f.1)) same)
          (notices-up (length lines) (of.place + 1) (fire_all w.watches ts).1 within) (λ q. refl) refl;
      matches = record {
        zxid = sym of.zxid;
        since = sym (ap (λ z. after_update z lines) of.zxid ∙ after-line lines of.place of.update h of.shown);
        watches = ap (λ (f : Watches × List Notice). f.0) same;
        next = m.next;
        over = m.over;
        at = record { line = of.place; update = of.update; shown = of.shown; zxid = of.zxid; cursor = of.number };
      };
      rises = omega (arith, ints, p.zxid, of.zxid, up);
      counts = omega (arith, ints, t.next);
    }

-- a reply that waits isn't due: its entries are to come
less : (a b : ℤ) (i j : ℕ) → int_eq a b ≡ false → a ≡ pos i → pos j ≡ b → a ≤ℤ pos j → i < j
less a b i j apart ei ej le =
    let differ : a ≡ b → ⊥ = λ s. apart_now (sym apart ∙ (Decides-int_eq a b).1 s) in
    grind (arith, ints, nat_tests)
  where
    apart_now : false ≡ true → ⊥
    apart_now f = cc

reply-later : (lines : List TranscriptLine) (conn : ℕ) (Afresh : Type 0) (c : Core) (w : Walker) (e : Entry) (p : Pending) (looked : ℕ) → is_legal lines ≡ true → Matches lines c w → is_unarmed c.watches ≡ false → is_due c p ≡ false
    → IsReply lines conn c.who w p looked → (n : Enters lines conn Afresh c w e) → IsReply lines conn c.who (told_first lines w n.place (n.update).zxid) p looked
reply-later lines conn Afresh c w e p looked h m armed undue r n =
    let t = past-told lines c w looked h m (r.moment).told in
    let apart : int_eq c.cursor p.number ≡ false = sym (ap (λ b. if b then true else int_eq c.cursor p.number) armed) ∙ undue in
    let below : (state_at lines (n.last + 1)).updates < (state_at lines looked).updates = less c.cursor p.number (state_at lines (n.last + 1)).updates (state_at lines looked).updates apart n.cursor r.number t.cursor in
    let lt = next-within lines n.last n.place looked n.last_update n.update n.next below in
    record {
      moment = record { past = (r.moment).past; later = (r.moment).later; told = omega (arith, lt); place = (r.moment).place; attached = (r.moment).attached; since = (r.moment).since };
      bytes = r.bytes;
      frame = r.frame;
      xid = r.xid;
      zxid = r.zxid;
      number = r.number;
      told = r.told;
    }

module _ (store : Store) (lines : List TranscriptLine) (conn : ℕ) (Afresh : Type 0) (c c' : Core) (w : Walker) (e : Entry) (looked : ℕ) (out : List Action) (h : is_legal lines ≡ true) (s : Stands store lines conn c w looked) (t : IsTrueEntry lines c e)
    (fresh : Afresh → IsFreshLook lines conn false c looked) where
  n : Enters lines conn Afresh c w e
  n = enters lines conn Afresh c w e h s.matches t

  at-stage : (st : Stage) → c.stage ≡ st → takes_entries st ≡ true → AreFrames lines conn (waits_from st c.next) c.waiting → Knows store lines conn c w looked st → Is (then_reply (entered c e) st) c' out → Walks store lines conn Afresh c c' w looked out
  at-stage Ready r a f k x =
      walks-is store lines conn Afresh c c' (entered c e) w looked out x (record {
        walker = told_first lines w (n.place) (n.update).zxid;
        strides = n.strides;
        stands = stands-ready c.stage r;
        looks = fresh;
        who = refl;
        ahead = inl (refl, refl);
        zxid = n.rises;
        cursor = n.counts;
      })
    where
      d : Core
      d = (entered c e).0

      ready : Stands store lines conn (record d { stage = Ready }) (told_first lines w (n.place) (n.update).zxid) looked
      ready = record { matches = still-matches lines d (record d { stage = Ready }) (told_first lines w (n.place) (n.update).zxid) (n.matches) refl refl refl refl; work = tt; waiting = f; turn = s.turn; views = s.views; knows = k }

      stands-ready : (st : Stage) → st ≡ Ready → StandsOpen (is_open st) store lines conn (record d { stage = st }) (told_first lines w (n.place) (n.update).zxid) looked
      stands-ready st q = subst (λ g. StandsOpen (is_open g) store lines conn (record d { stage = g }) (told_first lines w (n.place) (n.update).zxid) looked) (sym q) ready
  at-stage (Waiting p) r a f k x =
      let d = (entered c e).0 in
      let v = told_first lines w (n.place) (n.update).zxid in
      walks-is store lines conn Afresh c c' (then_reply (entered c e) (Waiting p)) w looked out x
      (walks-after store lines conn Afresh c d (waits d p).0 w v looked (entered c e).1 (waits d p).1 (n.strides) refl (refl, refl) (n.rises) (n.counts)
      (waits-walks store lines conn d v p looked (record { legal = h; matches = n.matches; waiting = f; turn = s.turn; views = s.views }) (reply-later lines conn Afresh c w e p looked h s.matches t.armed k.1 k.0 n) Afresh (λ q. fresh q (ap (has_looked false) r)) (waits d p).0 (waits d p).1 (refl, refl)))
  at-stage (Unconnected fresh) r a f k x = absurd (cc)
  at-stage (Connecting connect) r a f k x = absurd (cc)
  at-stage (KeepingAlive g) r a f k x = absurd (cc)
  at-stage (Checking g) r a f k x = absurd (cc)
  at-stage (Reading xid q v ws) r a f k x = absurd (cc)
  at-stage (Committing xid q v p m) r a f k x = absurd (cc)
  at-stage Shut r a f k x = absurd (cc)

  pub entry-walks : Is (then_reply (entered c e) c.stage) c' out → Walks store lines conn Afresh c c' w looked out
  entry-walks i = at-stage c.stage refl t.taken s.waiting s.knows i
