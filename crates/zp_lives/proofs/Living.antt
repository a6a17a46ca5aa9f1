-- A whole run has its worlds.
use Rattle.ev_types.specs.Store.{Store}
use Rattle.ev_types.specs.declared.answer.Answer.{Answer}
use Rattle.ev_types.specs.declared.ask.Ask.{Ask}
use Rattle.std.proofs.Common.{Bool, List, [], ap, append-nil, append_assoc, arith, false, inl, length, refl, subst, sym, true, ℕ, ◌++◌, ◌+◌, ◌<◌, ◌∙◌, ◌∷◌, ◌≡◌}
use Rattle.std.proofs.lemmas.List.Elements.{filter_map-append}
use Rattle.std.specs.FinMap.{get-empty}
use Rattle.std.specs.Ordering.{nat_cmp}
use Rattle.std.specs.Prelude.{None, Option, Some, filter_map, if◌then◌else◌}
use Rattle.zk_service.specs.declared.cause.Cause.{Cause}
use Rattle.zk_transcript.specs.declared.transcript.TranscriptLine.TheVariants.{Open}
use Rattle.zk_transcript.specs.declared.transcript.TranscriptLine.{TranscriptLine}
use Rattle.zp_script.specs.Effects.{new_conn, opened}
use Rattle.zp_script.specs.Runs.{world_over}
use Rattle.zp_script.specs.Worlds.{Closed, Conn, Connection, World, conn_at}
use Rattle.zp_step.specs.Ending.{asked_by, closes}
use Rattle.zp_lives.proofs.Keeping.{accounted-served}
use Rattle.zp_lives.proofs.Stepping.{IsAtCore, IsFedFrom, IsStepped, IsTaken, asks_out, left_asks, listed, open-now, step_of, takes-any}
use Rattle.zp_lives.proofs.Telling.{shown-append, unnamed-shows}
use Rattle.zp_lives.specs.Alone.{AloneFromTheFirst, AloneIsServed, IsAlone, IsRunAlone, LivesAlone}
use Rattle.zp_lives.specs.Events.{ends}
use Rattle.zp_lives.specs.Feeding.{AreAnswered}
use Rattle.zp_lives.specs.Showing.{index_after, shown_act, shown_from, shown_in, shown_of, until_close}
use Rattle.zp_run.specs.Runs.{Runs, Step, answers_of, asks_of, frames_of}
use Rattle.zp_step.proofs.Shutting.{ends-named}
use Rattle.zp_step.specs.Laws.{end_by}
use Rattle.zp_step.specs.Stages.{Core, is_shut, max_count, new_core}
use Rattle.zp_step.specs.Steps.{Steps}
use Rattle.zp_step.specs.declared.action.Action.{Action}
use Rattle.zp_step.specs.declared.input.Input.TheVariants as input
use Rattle.zp_step.specs.declared.input.Input.{Input}
use Rattle.zp_world_laws.proofs.Accounts.{open-accounted}
use Rattle.zp_world_laws.proofs.Numbers.{conn-here}
use Rattle.zp_world_laws.proofs.Running.{first-accounted}
use Rattle.zp_world_laws.specs.Accounting.{IsAccounted}
use Rattle.zk_service.specs.declared.fresh.Fresh.{Fresh}
use Rattle.zx_base.proofs.Options.{none_some, some_is}
use Rattle.zx_base.proofs.Booleans.{true-not_false as true-false}

-- ---- what was asked and answered, over a first step

asks-more : (s : Step) (ss : List Step) → asks_of (s ∷ ss) ≡ listed (asked_by s.out) ++ asks_of ss
asks-more s ss = filter_map-append (λ (t : Step). asked_by t.out) (s ∷ []) ss ∙ ap (λ l. l ++ asks_of ss) (one (asked_by s.out))
  where
    one : (o : Option Ask) → filter_map (λ (p : Option Ask). p) (o ∷ []) ≡ listed o
    one None = refl
    one (Some q) = refl

store-same : (a : Answer) (m t : Store) → ◌≡◌ {A = Option (Store × Answer)} (Some (m, a)) (Some (t, a)) → m ≡ t
store-same a m t e = ap (λ (r : Store × Answer). r.0) (some_is e)

-- after a step that closed nothing
fed-on : (i : Input) (now : ℕ) (out : List Action) (rest : List Step) (qs asks : List Ask) (s t b : Store) → end_by i ≡ None → IsTaken i qs s t → AreAnswered s (qs ++ asks) (answers_of (step_of i now out ∷ rest)) b → AreAnswered t (left_asks i qs ++ asks) (answers_of rest) b
fed-on (input.Frame bytes) now out rest qs asks s t b goes e h = subst (λ u. AreAnswered u (qs ++ asks) (answers_of rest) b) (sym e) h
fed-on (input.Entry x) now out rest qs asks s t b goes e h = subst (λ u. AreAnswered u (qs ++ asks) (answers_of rest) b) (sym e) h
fed-on (input.Answer a) now out rest qs asks s t b goes (q, one, done) h =
    let g : AreAnswered s ((q ∷ []) ++ asks) (Some a ∷ answers_of rest) b = subst (λ l. AreAnswered s (l ++ asks) (Some a ∷ answers_of rest) b) one h in
    subst (λ u. AreAnswered u asks (answers_of rest) b) (store-same a g.0 t (sym g.1 ∙ done)) g.2
fed-on input.Failed now out rest qs asks s t b goes e h = absurd (none_some (sym goes))
fed-on (input.BadLength p n) now out rest qs asks s t b goes e h = absurd (none_some (sym goes))
fed-on (input.Lagged p n) now out rest qs asks s t b goes e h = absurd (none_some (sym goes))
fed-on input.FeedClosed now out rest qs asks s t b goes e h = absurd (none_some (sym goes))
fed-on (input.ClientEnd p) now out rest qs asks s t b goes e h = absurd (none_some (sym goes))

-- and before any step
fed-back : (i : Input) (now : ℕ) (out : List Action) (rest : List Step) (qs asks : List Ask) (s t b : Store) → IsTaken i qs s t → AreAnswered t (left_asks i qs ++ asks) (answers_of rest) b → AreAnswered s (qs ++ asks) (answers_of (step_of i now out ∷ rest)) b
fed-back (input.Frame bytes) now out rest qs asks s t b e h = subst (λ u. AreAnswered u (qs ++ asks) (answers_of rest) b) e h
fed-back (input.Entry x) now out rest qs asks s t b e h = subst (λ u. AreAnswered u (qs ++ asks) (answers_of rest) b) e h
fed-back (input.Answer a) now out rest qs asks s t b (q, one, done) h = subst (λ l. AreAnswered s (l ++ asks) (Some a ∷ answers_of rest) b) (sym one) (t, done, h)
fed-back input.Failed now out rest qs asks s t b (q, one, e) h = subst (λ l. AreAnswered s (l ++ asks) (None ∷ answers_of rest) b) (sym one) (t, inl e, h)
fed-back (input.BadLength p n) now out rest qs asks s t b e h = subst (λ u. AreAnswered u (qs ++ asks) (answers_of rest) b) e h
fed-back (input.Lagged p n) now out rest qs asks s t b e h = subst (λ u. AreAnswered u (qs ++ asks) (answers_of rest) b) e h
fed-back input.FeedClosed now out rest qs asks s t b e h = subst (λ u. AreAnswered u (qs ++ asks) (answers_of rest) b) e h
fed-back (input.ClientEnd p) now out rest qs asks s t b e h = subst (λ u. AreAnswered u (qs ++ asks) (answers_of rest) b) e h

-- an input after which the connection is open ends none
goes-on : (core mid : Core) (s : Step) → is_shut core.stage ≡ false → Steps core s.input s.time mid s.out → closes s.out ≡ false → end_by s.input ≡ None
goes-on core mid s opens steps goes = go (end_by s.input) refl
  where
    go : (o : Option Cause) → end_by s.input ≡ o → o ≡ None
    go None e = refl
    go (Some why) e = absurd (true-false (sym (ap closes (ends-named core mid s.input why s.time s.out opens e steps).1) ∙ goes))

-- ---- frames

frames-more : (i : Input) (now : ℕ) (out : List Action) (rest : List Step) (n : ℕ) → n + length (frames_of (step_of i now out ∷ rest)) ≡ index_after n i + length (frames_of rest)
frames-more (input.Frame bytes) now out rest n = omega arith
frames-more (input.Answer a) now out rest n = refl
frames-more (input.Entry x) now out rest n = refl
frames-more input.Failed now out rest n = refl
frames-more (input.BadLength p m) now out rest n = refl
frames-more (input.Lagged p m) now out rest n = refl
frames-more input.FeedClosed now out rest n = refl
frames-more (input.ClientEnd p) now out rest n = refl

-- ---- a run

record IsLived (c : ℕ) (w : World) (x : Conn) (steps front : List Step) : Type 0 where
  after : World
  lives : LivesAlone c w front after
  accounted : IsAccounted after
  store : AreAnswered w.store (asks_out x ++ asks_of steps) (answers_of front) after.store
  more : List TranscriptLine
  lines : after.lines ≡ w.lines ++ more
  shown : shown_of c more ≡ shown_from x.frames front

module _ (c : ℕ) (s : Step) (ss : List Step) (w : World) (x : Conn) (core mid : Core) (k : IsAtCore w c x core) (steps : Steps core s.input s.time mid s.out) (fed : IsFedFrom w.store (asks_out x) (s ∷ ss)) (t : IsStepped c w x s mid) where
  asks-then : closes s.out ≡ false → asks_out t.conn ++ asks_of ss ≡ left_asks s.input (asks_out x) ++ asks_of (s ∷ ss)
  asks-then goes =
      ap (λ l. l ++ asks_of ss) (t.asked goes) ∙ append_assoc (left_asks s.input (asks_out x)) (listed (asked_by s.out)) (asks_of ss)
      ∙ ap (λ l. left_asks s.input (asks_out x) ++ l) (sym (asks-more s ss))

  -- nothing follows the close
  lived-closed : IsLived c w x (s ∷ ss) (s ∷ [])
  lived-closed = record {
    after = t.after;
    lives = t.lives [] t.after (ends refl refl);
    accounted = t.accounted;
    store = fed-back s.input s.time s.out [] (asks_out x) (asks_of (s ∷ ss)) w.store t.after.store t.after.store t.fed refl;
    more = t.more;
    lines = t.lines;
    shown = t.shown ∙ sym (append-nil (shown_in x.frames s.input ++ filter_map shown_act s.out));
  }

  open-after : closes s.out ≡ false → IsAtCore t.after c t.conn mid
  open-after goes = record {
    accounted = t.accounted;
    there = t.there;
    actor = t.actor ∙ ap (λ (b : Bool). if b then Closed else Connection mid) (sym t.shut ∙ goes);
    undone = t.undone;
  }

  fed-after : closes s.out ≡ false → IsFedFrom t.after.store (asks_out t.conn) ss
  fed-after goes =
      let none = goes-on core mid s (open-now w c x core k) steps goes in
      record {
        after = fed.after;
        answers = subst (λ l. AreAnswered t.after.store l (answers_of ss) fed.after) (sym (asks-then goes)) (fed-on s.input s.time s.out ss (asks_out x) (asks_of (s ∷ ss)) w.store t.after.store fed.after none t.fed fed.answers);
        entries = λ before more step e now is of h. fed.entries (s ∷ before) more step e now (ap (λ l. s ∷ l) is) of
            (fed-back s.input s.time s.out before (asks_out x) (asks_of (s ∷ ss)) w.store t.after.store now t.fed (subst (λ l. AreAnswered t.after.store l (answers_of before) now) (asks-then goes) h));
      }

  lived-on : closes s.out ≡ false → (front : List Step) → IsLived c t.after t.conn ss front → IsLived c w x (s ∷ ss) (s ∷ front)
  lived-on goes front r = record {
    after = r.after;
    lives = t.lives front r.after r.lives;
    accounted = r.accounted;
    store = fed-back s.input s.time s.out front (asks_out x) (asks_of (s ∷ ss)) w.store t.after.store r.after.store t.fed (subst (λ l. AreAnswered t.after.store l (answers_of front) r.after.store) (asks-then goes) r.store);
    more = t.more ++ r.more;
    lines = r.lines ∙ ap (λ l. l ++ r.more) t.lines ∙ append_assoc w.lines t.more r.more;
    shown = shown-append c t.more r.more ∙ ap (λ l. l ++ shown_of c r.more) t.shown ∙ ap (λ l. shown_in x.frames s.input ++ filter_map shown_act s.out ++ l) (r.shown ∙ ap (λ n. shown_from n front) t.frames);
  }

lives-on : (c : ℕ) (steps : List Step) (w : World) (x : Conn) (core last : Core) → IsAtCore w c x core → Runs core steps last → IsFedFrom w.store (asks_out x) steps → x.frames + length (frames_of steps) < max_count → IsLived c w x steps (until_close steps)
lives-on c [] w x core last k runs fed few = record { after = w; lives = ends refl refl; accounted = k.accounted; store = refl; more = []; lines = sym (append-nil w.lines); shown = refl }
lives-on c (s ∷ ss) w x core last k (mid, may, steps, runs) fed few =
    go (closes s.out) refl (λ goes. lives-on c ss t.after t.conn mid last (open-after c s ss w x core mid k steps fed t goes) runs (fed-after c s ss w x core mid k steps fed t goes) (omega (arith, few, more, t.frames)))
  where
    more : x.frames + length (frames_of (s ∷ ss)) ≡ index_after x.frames s.input + length (frames_of ss)
    more = frames-more s.input s.time s.out ss x.frames

    t : IsStepped c w x s mid
    t = takes-any w c x core mid s.time s.out k s.input ss (omega (arith, few, more)) may steps fed

    go : (b : Bool) → closes s.out ≡ b → (closes s.out ≡ false → IsLived c t.after t.conn ss (until_close ss)) → IsLived c w x (s ∷ ss) (s ∷ (if b then [] else until_close ss))
    go true e later = lived-closed c s ss w x core mid k steps fed t
    go false e later = lived-on c s ss w x core mid k steps fed t e (until_close ss) (later e)

-- ---- from the world in which it opens

module _ (w : World) (c p : ℕ) (fresh : Fresh) (steps : List Step) (core : Core) (k : IsAccounted w) (free : conn_at c w ≡ None) (r : IsRunAlone w.store fresh steps core) where
  lived : IsLived c (opened w c p fresh) (new_conn p (Connection (new_core fresh))) steps (until_close steps)
  lived = lives-on c steps (opened w c p fresh) (new_conn p (Connection (new_core fresh))) (new_core fresh) core
      (record { accounted = open-accounted w c p fresh.id fresh.passwd fresh.layout free r.offer k; there = conn-here w c (new_conn p (Connection (new_core fresh))); actor = refl; undone = tt })
      r.ran (record { after = (r.fed).after; answers = (r.fed).answers; entries = (r.fed).entries }) (omega (arith, r.few))

  -- its `open` line and the lines before show nothing of it
  nothing : shown_of c (w.lines ++ Open c p fresh.id fresh.passwd fresh.layout ∷ []) ≡ []
  nothing = shown-append c w.lines (Open c p fresh.id fresh.passwd fresh.layout ∷ []) ∙ append-nil (shown_of c w.lines) ∙ unnamed-shows c w.lines ((k.known).unused c free)

  alone : IsAlone (opened w c p fresh) c steps
  alone = record {
    after = lived.after;
    lives = lived.lives;
    accounted = lived.accounted;
    store = lived.store;
    more = lived.more;
    lines = lived.lines;
    shown = ap (shown_of c) lived.lines ∙ shown-append c (w.lines ++ Open c p fresh.id fresh.passwd fresh.layout ∷ []) lived.more ∙ ap (λ l. l ++ shown_of c lived.more) nothing ∙ lived.shown;
    served = accounted-served lived.after c lived.accounted;
  }

pub alone-served : AloneIsServed
alone-served w c p fresh steps core k free r = alone w c p fresh steps core k free r

pub alone-from-the-first : AloneFromTheFirst
alone-from-the-first s a c p fresh steps core begins r = alone-served (world_over s) c p fresh steps core (first-accounted (world_over s) (s, a, begins, refl)) (get-empty nat_cmp c) r
