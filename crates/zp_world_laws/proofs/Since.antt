-- What may be carried out after a line of a script could be carried out before it, or its plan was made at the clock's time now.
-- So it is with each update that the line added.
use Rattle.zk_model.specs.declared.layout.Layout.{Layout}
use Rattle.zp_script.specs.StepOutcomes.{quiet, acts_all, StepOutcome, ended_by, ends, leaves, left_by, reap_acts}
use Rattle.zp_script.specs.Kinds.{kind_asked, kind_of_reap}
use Rattle.zp_world_laws.proofs.Running.{answers, carries, enters, SettlesOn, Settling, number-free, settling-is}
use Rattle.ev_types.specs.Denials.{carry}
use Rattle.ev_types.specs.Lapses.{foreign, lapse}
use Rattle.ev_types.specs.Store.{Store, revision}
use Rattle.ev_types.specs.declared.answer.Answer.{Answer}
use Rattle.ev_types.specs.declared.ask.Ask.{Ask}
use Rattle.std.proofs.Common.{Bool, List, [], ap, append-nil, append_assoc, false, inl, inr, pos, refl, subst, suc, sym, true, zero, ℕ, ℤ, ◌++◌, ◌+◌, ◌-◌, ◌∙◌, ◌∷◌, ◌≡◌}
use Rattle.std.proofs.lemmas.Bool.{and_parts}
use Rattle.std.proofs.lemmas.List.Folds.{list_all-append}
use Rattle.std.specs.FinMap.{entries, entries_sorted, find, get, get-entries, is_sorted}
use Rattle.std.specs.List.{list_all}
use Rattle.std.specs.Ordering.{int_eq, nat_cmp}
use Rattle.std.specs.Prelude.{MatchBool, None, Option, Some, fold, if◌then◌else◌, slice_get, ◌==◌, ◌⊎◌}
use Rattle.zk_jute.specs.JuteWriting.{with_length}
use Rattle.zk_model.specs.declared.request.Request.TheVariants as req
use Rattle.zk_model.specs.declared.request.Request.{Request}
use Rattle.zk_service.specs.declared.cause.Cause.TheVariants as cause
use Rattle.zk_service.specs.declared.cause.Ended.TheVariants as ended
use Rattle.zk_service.specs.declared.cause.Ended.{Ended}
use Rattle.zk_transcript.specs.declared.transcript.TranscriptLine.TheVariants.{Close, Frame as FrameLine, Lapse as LapseLine, Open, Update}
use Rattle.zk_transcript.specs.declared.transcript.TranscriptLine.{TranscriptLine}
use Rattle.zk_service.specs.declared.update.UpdateKind.TheVariants.{Asked, Closed as ClosedSession, Reaped}
use Rattle.zk_service.specs.declared.update.UpdateKind.{UpdateKind}
use Rattle.zk_service.specs.declared.update.UpdateRec.{UpdateRec}
use Rattle.zn_layout.specs.declared.entry.Entry.{Entry}
use Rattle.zn_view.specs.Asks.{reading}
use Rattle.zp_script.specs.Arriving.{Arrives, EndsBadly, FramesArrive, frame_lines, shown_frame}
use Rattle.zp_script.specs.Carrying.{CarriedBy, CarriesOut, Executes, ExecutesStray, HasStore, ShowsUpdate}
use Rattle.zp_script.specs.Effects.{Delivers, Does, EndsBy, EntersBy, LagsBy, LapsesTo, PutTo, is_open_at, new_conn, new_reap, new_reaper, opened, restarted, stopped}
use Rattle.zp_script.specs.Entries.{cursor_at, next_entry}
use Rattle.zp_script.specs.Faults.{fault, flight_at}
use Rattle.zp_script.specs.Handing.{AnswerComesTo, FailureComesTo, Handed, Reaps, landed, landed_conn}
use Rattle.zp_script.specs.Happens.{Settles, settling}
use Rattle.zp_step.specs.Kinds.{kind_in_stage, kind_of_connect, kind_of_request}
use Rattle.zp_script.specs.Worlds.{Actor, Closed, Conn, Connection, Reaper, World, after_reap, after_step, conn_at, is_open_conn, with_conn, zxid_at}
use Rattle.zp_script.specs.declared.flight.Asking.{Asking}
use Rattle.zp_script.specs.declared.flight.Flight.TheVariants.{Carried, Denied, Out}
use Rattle.zp_script.specs.declared.flight.Flight.{Flight}
use Rattle.zp_step.proofs.Ending.{steps_end_well}
use Rattle.zp_laws.proofs.Planning.{plans_are_made_now}
use Rattle.zp_step.specs.Ending.{asked_by}
use Rattle.zp_laws.specs.Planning.{IsPlannedAt}
use Rattle.zp_step.proofs.Shutting.{shut-for-good}
use Rattle.zp_step.specs.Stages.{Checking, Committing, Connecting, Core, KeepingAlive, Reading, Ready, Shut, Stage, Unconnected, Waiting, counted_up, is_shut, new_core}
use Rattle.zp_step.specs.declared.input.Input.TheVariants as input
use Rattle.zp_step.specs.declared.input.Input.{Input}
use Rattle.zp_world_laws.proofs.Acting.{all-own-quiet, is_own, one-own, own-append}
use Rattle.zp_world_laws.proofs.Actions.{Asks, Closes, Rests, Tail, asked_in, said, said-speech, split, split-asked, split-outcome, tail_outcome}
use Rattle.zp_world_laws.proofs.Effects.{left-at, line-air, out-with, store-air, stored-in, stray-air}
use Rattle.zp_world_laws.proofs.Numbers.{conn-here, conn-there, either-number, left-some}
use Rattle.zp_world_laws.proofs.Reaping.{damaged-memory, looking_reaper, looks-first}
use Rattle.zp_world_laws.proofs.Restarting.{Distinct, Gives, all-found, gives-as, gives-others, sorted-distinct}
use Rattle.zp_world_laws.proofs.Speaking.{all-quiet}
use Rattle.zp_world_laws.proofs.Talking.{is_quiet}
use Rattle.zp_world_laws.specs.Holding.{Left, Of, Source, air, left_in, out_in, out_of}
use Rattle.zp_world_laws.specs.Serving.{kind_lines, update_lines}
use Rattle.zs_reap.specs.Steps.{reaper_wants}
use Rattle.zs_reap.specs.declared.reap.Phase.TheVariants.{Counting, Looking, Over, Removing, Unasked}
use Rattle.zs_reap.specs.declared.reap.Phase.{Phase as ReapPhase}
use Rattle.zs_reap.specs.declared.reap.Reap.{Reap}
use Rattle.zs_reap.specs.declared.reap.ReapStep.TheVariants as reaps
use Rattle.zs_reap.specs.declared.reap.ReapStep.{ReapStep}
use Rattle.zs_session.specs.declared.connect.Phase.TheVariants.{Attaching, Creating}
use Rattle.zs_session.specs.declared.connect.Phase.{Phase}
use Rattle.zt_text.specs.declared.script.Happening.TheVariants as line
use Rattle.zt_text.specs.declared.script.Happening.{Happening}
use Rattle.zx_base.proofs.Options.{none_some, some_is}
use Rattle.zx_base.proofs.Booleans.{and-both as both-true, true-from_T as is-true, same-test as same-nat, true-not_false as true-false}

-- ---- an update's time

-- if it is the update of a request, the request's plan was made now
abbrev pub IsOfNow : ℕ → Option UpdateKind → Type 0
IsOfNow now kind = (c i m : ℕ) → kind ≡ Some (Asked c i m) → m ≡ now

pub record WasAsked (w : World) (kind : Option UpdateKind) : Type 0 where
  pub source : Source
  pub what : Asking
  pub was : air w source ≡ Some what
  pub same : what.kind ≡ kind

abbrev pub IsKnownIn : World → Option UpdateKind → Type 0
IsKnownIn w kind = WasAsked w kind ⊎ IsOfNow w.clock kind

pub record Since (w w' : World) : Type 0 where
  pub clock : w'.clock ≡ w.clock
  pub asked : (o : Source) (x : Asking) → air w' o ≡ Some x → IsKnownIn w x.kind
  pub more : List TranscriptLine
  pub lines : w'.lines ≡ w.lines ++ more
  pub updates : (j : ℕ) (u : UpdateRec) → slice_get more j ≡ Some (Update u) → IsKnownIn w (Some u.kind)

known-later : (u v : World) (kind : Option UpdateKind) → Since u v → IsKnownIn v kind → IsKnownIn u kind
known-later u v kind s (inl a) = elim (s.asked a.source a.what a.was) [
  | inl b ↦ inl (record { source = b.source; what = b.what; was = b.was; same = b.same ∙ a.same })
  | inr now ↦ inr (λ c i m e. now c i m (a.same ∙ e))
]
known-later u v kind s (inr now) = inr (λ c i m e. now c i m e ∙ s.clock)

get-either : {A : Type 0} (xs ys : List A) (j : ℕ) (x : A) → slice_get (xs ++ ys) j ≡ Some x → (slice_get xs j ≡ Some x) ⊎ ((k : ℕ) × (slice_get ys k ≡ Some x))
get-either [] ys j x h = inr (j, h)
get-either (y ∷ xs) ys zero x h = inl h
get-either (y ∷ xs) ys (suc j) x h = get-either xs ys j x h

pub since-then : (u v w : World) → Since u v → Since v w → Since u w
since-then u v w a b = record {
  clock = b.clock ∙ a.clock;
  asked = λ o x e. known-later u v x.kind a (b.asked o x e);
  more = a.more ++ b.more;
  lines = b.lines ∙ ap (λ l. l ++ b.more) a.lines ∙ append_assoc u.lines a.more b.more;
  updates = λ j r e. elim (get-either a.more b.more j (Update r) e) [
    | inl old ↦ a.updates j r old
    | inr new ↦ known-later u v (Some r.kind) a (b.updates new.0 r new.1)
  ];
}

no-updates : (w : World) (ls : List TranscriptLine) → list_all is_quiet ls ≡ true → (j : ℕ) (u : UpdateRec) → slice_get ls j ≡ Some (Update u) → IsKnownIn w (Some u.kind)
no-updates w [] h j u e = absurd (none_some e)
no-updates w (l ∷ ls) h zero u e = (let q = and_parts (is_quiet l) (list_all is_quiet ls) h in let same : l ≡ Update u = some_is e in absurd (true-false (sym q.0 ∙ ap is_quiet same)))
no-updates w (l ∷ ls) h (suc j) u e = no-updates w ls ((and_parts (is_quiet l) (list_all is_quiet ls) h).1) j u e

-- nothing new is asked, and no update is added
pub since-quiet : (w w' : World) (more : List TranscriptLine) → w'.clock ≡ w.clock → ((o : Source) (x : Asking) → air w' o ≡ Some x → IsKnownIn w x.kind) → w'.lines ≡ w.lines ++ more → list_all is_quiet more ≡ true → Since w w'
since-quiet w w' more clock asked lines quiet = record { clock = clock; asked = asked; more = more; lines = lines; updates = no-updates w more quiet }

pub was-so : (w : World) (o : Source) (x : Asking) → air w o ≡ Some x → IsKnownIn w x.kind
was-so w o x e = inl (record { source = o; what = x; was = e; same = refl })

pub since-same : (w w' : World) → w' ≡ w → Since w w'
since-same w w' e = since-quiet w w' [] (ap (λ (v : World). v.clock) e) (λ o x f. was-so w o x (ap (λ v. air v o) (sym e) ∙ f)) (ap (λ (v : World). v.lines) e ∙ sym (append-nil w.lines)) refl

since-to : (w v w' : World) → w' ≡ v → Since w v → Since w w'
since-to w v w' e s = subst (Since w) (sym e) s

-- ---- one acts

-- what is out of it, and what it leaves, was out of it or was asked now
pub record Leaves (w : World) (f : Option Flight) (o : StepOutcome) : Type 0 where
  pub flight : (x : Asking) → o.flight ≡ Some (Out x) → (f ≡ Some (Out x)) ⊎ IsOfNow w.clock x.kind
  pub strays : (k : ℕ) (x : Asking) → slice_get o.strays k ≡ Some (Some x) → (f ≡ Some (Out x)) ⊎ IsOfNow w.clock x.kind
  pub quiet : list_all is_quiet o.lines ≡ true

out-is : (f : Option Flight) (x : Asking) → out_in f ≡ Some x → f ≡ Some (Out x)
out-is None x e = absurd (none_some e)
out-is (Some (Out b)) x e = ap (λ q. Some (Out q)) (some_is e)
out-is (Some (Carried b)) x e = absurd (none_some e)
out-is (Some Denied) x e = absurd (none_some e)

pub leaves-since : (w : World) (c : ℕ) (x : Conn) (actor : Actor) (o : StepOutcome) → conn_at c w ≡ Some x → Leaves w x.flight o → Since w (leaves c w x actor o)
leaves-since w c x actor o there l = since-quiet w (leaves c w x actor o) o.lines refl asked refl l.quiet
  where
    v : Conn
    v = record x { actor = actor; flight = o.flight }

    known : (y : Asking) → (x.flight ≡ Some (Out y)) ⊎ IsOfNow w.clock y.kind → IsKnownIn w y.kind
    known y (inl e) = was-so w (Of c) y (ap out_of there ∙ ap out_in e)
    known y (inr e) = inr e

    asked : (s : Source) (y : Asking) → air (leaves c w x actor o) s ≡ Some y → IsKnownIn w y.kind
    asked (Of d) y e = elim (either-number d c) [
      | inl same ↦ known y (l.flight y (out-is o.flight y (ap out_of (sym (conn-here w c (record x { actor = actor; flight = o.flight }))) ∙ ap (λ n. out_of (conn_at n (with_conn w c (record x { actor = actor; flight = o.flight })))) (sym same) ∙ e)))
      | inr apart ↦ was-so w (Of d) y (ap out_of (sym (conn-there w c d (record x { actor = actor; flight = o.flight }) apart)) ∙ e)
    ]
    asked (Left k) y e = elim (get-either w.strays o.strays k (Some y) (left-some _ y e)) [
      | inl old ↦ was-so w (Left k) y (ap left_in old)
      | inr new ↦ known y (l.strays new.0 y new.1)
    ]

left-by : (w : World) (f : Option Flight) (k : ℕ) (x : Asking) → slice_get (left_by f) k ≡ Some (Some x) → (f ≡ Some (Out x)) ⊎ IsOfNow w.clock x.kind
left-by w None k x e = absurd (none_some e)
left-by w (Some (Carried b)) k x e = absurd (none_some e)
left-by w (Some Denied) k x e = absurd (none_some e)
left-by w (Some (Out a)) zero x e = inl (ap (λ q. Some (Out q)) (some_is (some_is e)))
left-by w (Some (Out a)) (suc k) x e = absurd (none_some e)

-- a connection or a reaper ends
pub ends-leaves : (w : World) (c : ℕ) (f : Option Flight) (after : List TranscriptLine) (end : Ended) → list_all (is_own c) after ≡ true → Leaves w f (ends c after end (quiet f))
ends-leaves w c f after end h = record { flight = λ x e. absurd (none_some e); strays = λ k x e. left-by w f k x e; quiet = all-own-quiet c (after ++ Close c end ∷ []) (own-append c after (Close c end ∷ []) h (one-own c)) }

-- ---- a connection's step

asked-time : (c i m d j n : ℕ) → Asked c i m ≡ Asked d j n → m ≡ n
asked-time c i m d j n e = cc

closed-asked : (id : ℤ) (c i d j n : ℕ) → ClosedSession id c i ≡ Asked d j n → ⊥
closed-asked id c i d j n e = cc

request-now : (c k : ℕ) (id : ℤ) (time d i m now : ℕ) (q : Request) → time ≡ now → kind_of_request c k id time q ≡ Asked d i m → m ≡ now
request-now c k id time d i m now req.Close g f = absurd (closed-asked id c k d i m f)
request-now c k id time d i m now _ g f = sym (asked-time c k time d i m f) ∙ g

kind-now : (c : ℕ) (core : Core) (st : Stage) (now : ℕ) → IsPlannedAt now st → IsOfNow now (kind_in_stage c core st)
kind-now c core (Committing xid r v p time) now h d i m e = request-now c core.next core.who.session time d i m now r h (some_is e)
kind-now c core (Connecting x) now h d i m e = connect-now x.phase e
  where
    connect-now : (p : Phase) → kind_of_connect c x p ≡ Some (Asked d i m) → m ≡ now
    connect-now Creating f = absurd (cc)
    connect-now (Attaching seen life) f = absurd (cc)
    connect-now _ f = absurd (none_some f)
kind-now c core (Unconnected f) now h d i m e = absurd (none_some e)
kind-now c core Ready now h d i m e = absurd (none_some e)
kind-now c core (KeepingAlive f) now h d i m e = absurd (none_some e)
kind-now c core (Checking f) now h d i m e = absurd (none_some e)
kind-now c core (Reading xid r v ws) now h d i m e = absurd (none_some e)
kind-now c core (Waiting p) now h d i m e = absurd (none_some e)
kind-now c core Shut now h d i m e = absurd (none_some e)

tail-leaves : (w : World) (c : ℕ) (kind : Option UpdateKind) (after : List TranscriptLine) (f : Option Flight) (ps : List (List ℕ)) (t : Tail) → list_all (is_own c) after ≡ true → ((a : Ask) → t ≡ Asks a → IsOfNow w.clock kind) → Leaves w f (tail_outcome c kind after f (said c ps) t)
tail-leaves w c kind after f ps Rests h k = record { flight = λ x e. inl e; strays = λ j x e. absurd (none_some e); quiet = all-quiet c (said c ps) (said-speech c ps) }
tail-leaves w c kind after f ps (Asks a) h k = record {
  flight = λ x e. inr (subst (λ (y : Asking). IsOfNow w.clock y.kind) (out-same (record { ask = a; kind = kind }) x e) (k a refl));
  strays = λ j x e. absurd (none_some e);
  quiet = all-quiet c (said c ps) (said-speech c ps);
}
  where
    out-same : (y z : Asking) → Some (Out y) ≡ Some (Out z) → y ≡ z
    out-same y z e = cc
tail-leaves w c kind after f ps (Closes why) h k = record {
  flight = λ x e. absurd (none_some e);
  strays = λ j x e. left-by w f j x e;
  quiet = all-quiet-more (said c ps ++ after) (Close c (ended.Cause why) ∷ []) (all-quiet-more (said c ps) after (all-quiet c (said c ps) (said-speech c ps)) (all-own-quiet c after h)) refl;
}
  where
    all-quiet-more : (xs ys : List TranscriptLine) → list_all is_quiet xs ≡ true → list_all is_quiet ys ≡ true → list_all is_quiet (xs ++ ys) ≡ true
    all-quiet-more xs ys a b = list_all-append is_quiet xs ys ∙ both-true (list_all is_quiet xs) (list_all is_quiet ys) a b

-- an input is handed to a connection, open or shut
pub handed-since : (w w' : World) (c : ℕ) (after : List TranscriptLine) (i : Input) → Handed c after w i w' → list_all (is_own c) after ≡ true → Since w w'
handed-since w w' c after i hd own = go (is_shut hd.core.stage) refl
  where
    kind : Option UpdateKind
    kind = kind_asked c (Connection hd.next)

    result : (o : StepOutcome) → acts_all c (kind_asked c (Connection hd.next)) after hd.conn.flight hd.out ≡ o → Leaves w hd.conn.flight o → Since w w'
    result o e l = since-to w (leaves c w hd.conn (after_step hd.next) o) w' (hd.result ∙ ap (leaves c w hd.conn (after_step hd.next)) e) (leaves-since w c hd.conn (after_step hd.next) o hd.found l)

    go : (b : Bool) → is_shut hd.core.stage ≡ b → Since w w'
    go true e =
        let s = shut-for-good hd.core hd.next i w.clock hd.out e hd.stepped in
        result (quiet hd.conn.flight) (ap (acts_all c (kind_asked c (Connection hd.next)) after hd.conn.flight) s.1) (record { flight = λ x f. inl f; strays = λ k x f. absurd (none_some f); quiet = refl })
    go false e =
        let end = steps_end_well hd.core hd.next i w.clock hd.out e hd.stepped in
        let parts = split hd.out end.well in
        result (tail_outcome c (kind_asked c (Connection hd.next)) after hd.conn.flight (said c parts.packets) parts.tail) (split-outcome c (kind_asked c (Connection hd.next)) after hd.conn.flight hd.out parts)
        (tail-leaves w c (kind_asked c (Connection hd.next)) after hd.conn.flight parts.packets parts.tail own
        (λ a is. made-now a (split-asked hd.out parts ∙ ap asked_in is) (plans_are_made_now hd.core hd.next i w.clock hd.out e hd.stepped)))
      where
        made-now : (a : Ask) → asked_by hd.out ≡ Some a → IsPlannedAt w.clock hd.next.stage ⊎ ((hd.next.stage ≡ hd.core.stage) × (asked_by hd.out ≡ None)) → IsOfNow w.clock (kind_in_stage c hd.next hd.next.stage)
        made-now a f (inl p) = kind-now c hd.next hd.next.stage w.clock p
        made-now a f (inr p) = absurd (none_some (sym p.1 ∙ f))

-- ---- frames

with-since : (w : World) (c : ℕ) (x v : Conn) → conn_at c w ≡ Some x → v.flight ≡ x.flight → Since w (with_conn w c v)
with-since w c x v there same = since-quiet w (with_conn w c v) [] refl asked (sym (append-nil w.lines)) refl
  where
    asked : (s : Source) (y : Asking) → air (with_conn w c v) s ≡ Some y → IsKnownIn w y.kind
    asked (Left k) y e = was-so w (Left k) y e
    asked (Of d) y e = elim (either-number d c) [
      | inl alike ↦ was-so w (Of c) y (ap out_of there ∙ ap out_in (sym same) ∙ ap out_of (sym (conn-here w c v)) ∙ ap (λ n. out_of (conn_at n (with_conn w c v))) (sym alike) ∙ e)
      | inr apart ↦ was-so w (Of d) y (ap out_of (sym (conn-there w c d v apart)) ∙ e)
    ]

shown-since : (w : World) (c : ℕ) (x : Conn) (frame : List ℕ) → conn_at c w ≡ Some x → Since w (shown_frame c w x frame)
shown-since w c x frame there =
    let v : Conn = record x { frames = counted_up (x.frames + 1) } in
    let s = with-since w c x v there refl in
    since-quiet w (shown_frame c w x frame) (FrameLine c x.frames (zxid_at w.store) frame ∷ []) refl (λ o y e. s.asked o y (as-conns o y e)) refl refl
  where
    as-conns : (o : Source) (y : Asking) → air (shown_frame c w x frame) o ≡ Some y → air (with_conn w c (record x { frames = counted_up (x.frames + 1) })) o ≡ Some y
    as-conns (Of d) y e = e
    as-conns (Left k) y e = e

own-frames : (c i : ℕ) (z : ℤ) (fs : List (List ℕ)) → list_all (is_own c) (frame_lines c i z fs) ≡ true
own-frames c i z [] = refl
own-frames c i z (f ∷ fs) = both-true (c == c) (list_all (is_own c) (frame_lines c (counted_up (i + 1)) z fs)) (same-nat c) (own-frames c (counted_up (i + 1)) z fs)

frames-since : (c : ℕ) (w w' : World) (fs : List (List ℕ)) → FramesArrive c w fs w' → Since w w'
frames-since c w w' [] h = since-same w w' h
frames-since c w w' (f ∷ fs) (x, mid, found, hd, rest) = go (is_open_conn (conn_at c mid)) (frames-since c mid w' fs) rest
  where
    one_more : Since w mid
    one_more = since-then w (shown_frame c w x f) mid (shown-since w c x f found) (handed-since (shown_frame c w x f) mid c (frame_lines c (counted_up (x.frames + 1)) (zxid_at w.store) fs) (input.Frame f) hd (own-frames c (counted_up (x.frames + 1)) (zxid_at w.store) fs))

    go : (b : Bool) → (FramesArrive c mid fs w' → Since mid w') → MatchBool b (FramesArrive c mid fs w') (w' ≡ mid) → Since w w'
    go true later r = since-then w mid w' one_more (later r)
    go false later r = since-to w mid w' r one_more

badly-since : (c : ℕ) (w w' : World) (place : ℕ) (bad : Option ℤ) → EndsBadly c w place bad w' → Since w w'
badly-since c w w' place None h = since-same w w' h
badly-since c w w' place (Some n) h = go (is_open_conn (conn_at c w)) h
  where
    go : (b : Bool) → MatchBool b (Handed c [] w (input.BadLength place n) w') (w' ≡ w) → Since w w'
    go true hd = handed-since w w' c [] (input.BadLength place n) hd refl
    go false e = since-same w w' e

arrives-since : (c : ℕ) (w w' : World) (bytes : List ℕ) → Arrives c w bytes w' → Since w w'
arrives-since c w w' bytes a =
    let v : Conn = record (a.conn) { stream = a.stream } in
    let w1 : World = with_conn w c v in
    since-then w w1 w' (with-since w c a.conn v a.found refl) (since-then w1 a.mid w' (frames-since c w1 a.mid a.frames a.arrive) (badly-since c a.mid w' (a.stream).place a.bad a.ends))

-- ---- what is delivered

landed-since : (w : World) (c : ℕ) → Since w (landed c w)
landed-since w c = go (conn_at c w) refl
  where
    go : (o : Option Conn) → conn_at c w ≡ o → Since w (landed_conn c w o)
    go None e = since-same w w refl
    go (Some x) e = since-quiet w (with_conn w c (record x { flight = None })) [] refl asked (sym (append-nil w.lines)) refl
      where
        asked : (s : Source) (y : Asking) → air (with_conn w c (record x { flight = None })) s ≡ Some y → IsKnownIn w y.kind
        asked (Left k) y f = was-so w (Left k) y f
        asked (Of d) y f = was-so w (Of d) y ((out-with w c d (record x { flight = None }) y refl f).1)

reap-now : (now : ℕ) (id : ℤ) (p : ReapPhase) → IsOfNow now (kind_of_reap id p)
reap-now now id (Removing again) c i m e = absurd (reaped-asked id c i m (some_is e))
  where
    reaped-asked : (n : ℤ) (d j k : ℕ) → Reaped n ≡ Asked d j k → ⊥
    reaped-asked n d j k u = cc
reap-now now id Unasked c i m e = absurd (none_some e)
reap-now now id Looking c i m e = absurd (none_some e)
reap-now now id (Counting z ws) c i m e = absurd (none_some e)
reap-now now id Over c i m e = absurd (none_some e)

reap-leaves : (w : World) (c : ℕ) (next : Reap) (f : Option Flight) (step : ReapStep) → Leaves w f (reap_acts c (kind_asked c (Reaper next)) f step)
reap-leaves w c next f (reaps.Ask q) = record { flight = λ x e. inr (subst (λ (y : Asking). IsOfNow w.clock y.kind) (out-same (record { ask = q; kind = kind_of_reap next.session next.phase }) x e) (reap-now w.clock next.session next.phase)); strays = λ k x e. absurd (none_some e); quiet = refl }
  where
    out-same : (y z : Asking) → Some (Out y) ≡ Some (Out z) → y ≡ z
    out-same y z e = cc
reap-leaves w c next f (reaps.Reaped z) = ends-leaves w c f [] (ended.Reaped z) refl
reap-leaves w c next f (reaps.Kept z) = ends-leaves w c f [] (ended.Kept z) refl
reap-leaves w c next f (reaps.Gone z) = ends-leaves w c f [] (ended.Gone z) refl

reaps-since : (w w' : World) (c : ℕ) (x : Conn) (r : Reap) (a : Option Answer) → conn_at c w ≡ Some x → Reaps c w a w' x r → Since w w'
reaps-since w w' c x r a there (inl e) = since-to w (leaves c w x Closed (ended_by c (cause.Damaged e.key e.value) x.flight)) w' e.result (leaves-since w c x Closed (ended_by c (cause.Damaged e.key e.value) x.flight) there (ends-leaves w c x.flight [] (ended.Cause (cause.Damaged e.key e.value)) refl))
reaps-since w w' c x r a there (inr s) = since-to w (leaves c w x (after_reap s.next) (reap_acts c (kind_asked c (Reaper s.next)) x.flight s.step)) w' s.result (leaves-since w c x (after_reap s.next) (reap_acts c (kind_asked c (Reaper s.next)) x.flight s.step) there (reap-leaves w c s.next x.flight s.step))

answer-since : (w w' : World) (c : ℕ) (x : Conn) (a : Answer) (actor : Actor) → conn_at c w ≡ Some x → AnswerComesTo c w x a w' actor → Since w w'
answer-since w w' c x a (Connection core) there h = handed-since w w' c [] (input.Answer a) h refl
answer-since w w' c x a (Reaper r) there h = reaps-since w w' c x r (Some a) there h
answer-since w w' c x a Closed there h = absurd h

failure-since : (w w' : World) (c : ℕ) (x : Conn) (actor : Actor) → conn_at c w ≡ Some x → FailureComesTo c w x w' actor → Since w w'
failure-since w w' c x (Connection core) there h = handed-since w w' c [] input.Failed h refl
failure-since w w' c x (Reaper r) there h = since-to w (leaves c w x Closed (ended_by c cause.LinkFault x.flight)) w' h (leaves-since w c x Closed (ended_by c cause.LinkFault x.flight) there (ends-leaves w c x.flight [] (ended.Cause cause.LinkFault) refl))
failure-since w w' c x Closed there h = absurd h

delivers-since : (w w' : World) (c : ℕ) (f : Option Flight) → Delivers c w w' f → Since w w'
delivers-since w w' c None h = absurd h
delivers-since w w' c (Some (Out a)) h = absurd h
delivers-since w w' c (Some (Carried a)) (x, there, h) = since-then w (landed c w) w' (landed-since w c) (answer-since (landed c w) w' c x a x.actor there h)
delivers-since w w' c (Some Denied) (x, there, h) = since-then w (landed c w) w' (landed-since w c) (failure-since (landed c w) w' c x x.actor there h)

-- ---- a proxy restarts

stopped-since : (p : ℕ) (w : World) (es : List (ℕ × Conn)) → Distinct es → Gives (λ k. conn_at k w) es → Since w (fold (stopped p) w es)
stopped-since p w [] d g = since-same w w refl
stopped-since p w (e ∷ es) d g = go (is_open_at p e.1) (λ v. stopped-since p v es d.1)
  where
    go : (b : Bool) → ((v : World) → Gives (λ k. conn_at k v) es → Since v (fold (stopped p) v es)) → Since w (fold (stopped p) (if b then leaves e.0 w e.1 Closed (ended_by e.0 cause.Restart e.1.flight) else w) es)
    go false later = later w g.1
    go true later =
        let v : World = leaves e.0 w e.1 Closed (ended_by e.0 cause.Restart e.1.flight) in
        since-then w v (fold (stopped p) v es) (leaves-since w e.0 e.1 Closed (ended_by e.0 cause.Restart e.1.flight) g.0 (ends-leaves w e.0 e.1.flight [] (ended.Cause cause.Restart) refl)) (later v (gives-others w e.0 e.1 es d.0 g.1))

restart-since : (p : ℕ) (w : World) → Since w (restarted p w)
restart-since p w =
    let d = sorted-distinct (entries w.conns) (is-true (is_sorted nat_cmp (entries w.conns)) (entries_sorted w.conns)) in
    stopped-since p w (entries w.conns) d (gives-as (λ k. find nat_cmp k (entries w.conns)) (λ k. conn_at k w) (entries w.conns) (λ k. get-entries w.conns k) (all-found (entries w.conns) d))

-- ---- what is carried out

update-lines : (w : World) (src : Source) (x : Asking) (s u : Store) → air w src ≡ Some x → (j : ℕ) (r : UpdateRec) → slice_get (update_lines s u x.kind) j ≡ Some (Update r) → IsKnownIn w (Some r.kind)
update-lines w src x s u was j r h = go (int_eq (zxid_at s) (zxid_at u)) x.kind refl j h
  where
    go : (b : Bool) (o : Option UpdateKind) → x.kind ≡ o → (k : ℕ) → slice_get (if b then [] else kind_lines u o) k ≡ Some (Update r) → IsKnownIn w (Some r.kind)
    go true o e k f = absurd (none_some f)
    go false None e k f = absurd (none_some f)
    go false (Some kind) e (suc k) f = absurd (none_some f)
    go false (Some kind) e zero f = inl (record { source = src; what = x; was = was; same = e ∙ ap Some (update-kind (zxid_at u) kind r (some_is f)) })
      where
        update-kind : (z : ℤ) (q : UpdateKind) (y : UpdateRec) → Update (record { zxid = z; kind = q }) ≡ Update y → q ≡ y.kind
        update-kind z q y g = cc

-- the store, and what is written down of it
carries-since : (w mid : World) (src : Source) (x : Asking) (f : Flight) → air w src ≡ Some x → CarriesOut w x f mid → Since w mid
carries-since w mid src x f was h = go (carry w.store x.ask) h
  where
    go : (o : Option (Store × Answer)) → CarriedBy w x.kind f mid o → Since w mid
    go None p = since-same w mid p.1
    go (Some r) p =
        let st = stored-in w mid r.0 x.kind p.1 in
        record {
          clock = stored-clock w mid r.0 x.kind p.1;
          asked = λ o y e. was-so w o y (as-it-was o y st.conns st.strays e);
          more = update_lines w.store r.0 x.kind;
          lines = st.lines;
          updates = update-lines w src x w.store r.0 was;
        }
      where
        as-it-was : (o : Source) (y : Asking) → mid.conns ≡ w.conns → mid.strays ≡ w.strays → air mid o ≡ Some y → air w o ≡ Some y
        as-it-was (Of d) y a b e = ap (λ m. out_of (get m d)) (sym a) ∙ e
        as-it-was (Left k) y a b e = ap (λ m. left_in (slice_get m k)) (sym b) ∙ e

        stored-clock : (u v : World) (s : Store) (kind : Option UpdateKind) → HasStore u s kind v → v.clock ≡ u.clock
        stored-clock u v s kind g = by (int_eq (zxid_at u.store) (zxid_at s)) kind g
          where
            by : (b : Bool) (o : Option UpdateKind) → MatchBool b (v ≡ record u { store = s }) (ShowsUpdate u s o v) → v.clock ≡ u.clock
            by true o q = ap (λ (y : World). y.clock) q
            by false None q = ap (λ (y : World). y.clock) q
            by false (Some kind2) q = ap (λ (y : World). y.clock) q.2

exec-since : (w w' : World) (c : ℕ) → Executes c w w' → Since w w'
exec-since w w' c ex =
    let s = carries-since w ex.mid (Of c) ex.asking ex.flight (ap out_of ex.found ∙ ap out_in ex.out) ex.carries in
    record {
      clock = ap (λ (v : World). v.clock) ex.result ∙ s.clock;
      asked = asked s;
      more = s.more;
      lines = ap (λ (v : World). v.lines) ex.result ∙ s.lines;
      updates = s.updates;
    }
  where
    carried-in : (o : Option (Store × Answer)) → CarriedBy w (ex.asking).kind ex.flight ex.mid o → out_in (Some ex.flight) ≡ None
    carried-in None p = ap (λ f. out_in (Some f)) p.0
    carried-in (Some r) p = ap (λ f. out_in (Some f)) p.0

    asked : Since w ex.mid → (o : Source) (y : Asking) → air w' o ≡ Some y → IsKnownIn w y.kind
    asked s (Of d) y e = s.asked (Of d) y ((out-with ex.mid c d (record (ex.conn) { flight = Some ex.flight }) y (carried-in (carry w.store (ex.asking).ask) ex.carries) (ap (λ (v : World). out_of (conn_at d v)) (sym ex.result) ∙ e)).1)
    asked s (Left k) y e = s.asked (Left k) y (ap (λ (v : World). left_in (slice_get v.strays k)) (sym ex.result) ∙ e)

stray-since : (w w' : World) (k : ℕ) → ExecutesStray k w w' → Since w w'
stray-since w w' k ex =
    let s = carries-since w ex.mid (Left (k - 1)) ex.asking ex.flight (left-at k w.strays ex.asking ex.left) ex.carries in
    record {
      clock = ap (λ (v : World). v.clock) ex.result ∙ s.clock;
      asked = asked s;
      more = s.more;
      lines = ap (λ (v : World). v.lines) ex.result ∙ s.lines;
      updates = s.updates;
    }
  where
    asked : Since w ex.mid → (o : Source) (y : Asking) → air w' o ≡ Some y → IsKnownIn w y.kind
    asked s o y e = s.asked o y ((stray-air ex.mid ex.mid (k - 1) w' refl refl ex.result o y e).1)

-- ---- each line but a tick

enters-since : (w w' : World) (c : ℕ) (o : Option Entry) → EntersBy c w w' o → Since w w'
enters-since w w' c None h = absurd h
enters-since w w' c (Some e) (i, is, hd) = handed-since w w' c [] i hd refl

lags-since : (w w' : World) (c : ℕ) (o : Option ℤ) → LagsBy c w w' o → Since w w'
lags-since w w' c None h = absurd h
lags-since w w' c (Some z) hd = handed-since w w' c [] _ hd refl

ends-since : (w w' : World) (c : ℕ) (o : Option Conn) → EndsBy c w w' o → Since w w'
ends-since w w' c None h = absurd h
ends-since w w' c (Some x) hd = handed-since w w' c [] _ hd refl

lapse-since : (w w' : World) (id : ℤ) (o : Option Store) → LapsesTo id w w' o → Since w w'
lapse-since w w' id None h = absurd h
lapse-since w w' id (Some s) h = since-to w (record w { store = s; lines = w.lines ++ LapseLine (revision s) id ∷ [] }) w' h (record { clock = refl; asked = λ o y e. was-so w o y (line-air w s (w.lines ++ LapseLine (revision s) id ∷ []) o y e); more = LapseLine (revision s) id ∷ []; lines = refl; updates = none })
  where
    none : (j : ℕ) (u : UpdateRec) → slice_get (LapseLine (revision s) id ∷ []) j ≡ Some (Update u) → IsKnownIn w (Some u.kind)
    none zero u e = absurd (cc)
    none (suc j) u e = absurd (none_some e)

put-since : (w w' : World) (o : Option Store) → PutTo w w' o → Since w w'
put-since w w' None h = absurd h
put-since w w' (Some s) h = since-to w (record w { store = s }) w' h (since-quiet w (record w { store = s }) [] refl (λ o y e. was-so w o y (store-air w s o y e)) (sym (append-nil w.lines)) refl)

new-since : (w : World) (c : ℕ) (v : Conn) → conn_at c w ≡ None → ((x : Asking) → v.flight ≡ Some (Out x) → IsOfNow w.clock x.kind) → (o : Source) (y : Asking) → air (with_conn w c v) o ≡ Some y → IsKnownIn w y.kind
new-since w c v free h (Left k) y e = was-so w (Left k) y e
new-since w c v free h (Of d) y e = elim (either-number d c) [
  | inl same ↦ inr (h y (out-is v.flight y (ap out_of (sym (conn-here w c v)) ∙ ap (λ n. out_of (conn_at n (with_conn w c v))) (sym same) ∙ e)))
  | inr apart ↦ was-so w (Of d) y (ap out_of (sym (conn-there w c d v apart)) ∙ e)
]

none-now : (now : ℕ) (x : Asking) → x.kind ≡ None → IsOfNow now x.kind
none-now now x e c i m f = absurd (none_some (sym e ∙ f))

open-since : (w : World) (c p : ℕ) (id : ℤ) (passwd : List ℕ) (layout : Layout) → conn_at c w ≡ None → Since w (opened w c p (record { id = id; passwd = passwd; layout = layout }))
open-since w c p id passwd layout free =
    let v : Conn = new_conn p (Connection (new_core (record { id = id; passwd = passwd; layout = layout }))) in
    since-quiet w (opened w c p (record { id = id; passwd = passwd; layout = layout })) (Open c p id passwd layout ∷ []) refl (λ o y e. new-since w c v free (λ x f. absurd (none_some f)) o y (as-conns o y e)) refl refl
  where
    as-conns : (o : Source) (y : Asking) → air (opened w c p (record { id = id; passwd = passwd; layout = layout })) o ≡ Some y → air (with_conn w c (new_conn p (Connection (new_core (record { id = id; passwd = passwd; layout = layout }))))) o ≡ Some y
    as-conns (Of d) y e = e
    as-conns (Left k) y e = e

begin-since : (w w' : World) (c p : ℕ) (id : ℤ) → conn_at c w ≡ None → Reaps c w None w' (new_reaper p id) (new_reap id) → Since w w'
begin-since w w' c p id free (inl e) = absurd (damaged-memory e.key e.value e.found)
begin-since w w' c p id free (inr r) =
    let v : Conn = looking_reaper p id r.next in
    since-to w (with_conn w c v) w' (looks-first w w' c p id r)
    (since-quiet w (with_conn w c v) [] refl (new-since w c v free (λ x f. none-now w.clock x (ap (λ (y : Asking). y.kind) (sym (out-same (record { ask = reading (pos 0) (reaper_wants id); kind = None }) x f))))) (sym (append-nil w.lines)) refl)
  where
    out-same : (y z : Asking) → Some (Out y) ≡ Some (Out z) → y ≡ z
    out-same y z e = cc

-- a tick changes the clock alone
abbrev pub IsTick : Happening → Type 0
IsTick (line.Tick n) = Unit {0}
IsTick _ = ⊥

pub does-since : (w w' : World) (h : Happening) → (IsTick h → ⊥) → fault w h ≡ None → Does w h w' → Since w w'
unfolding fault
does-since w w' (line.Open c p id passwd layout) still free h = since-to w (opened w c p (record { id = id; passwd = passwd; layout = layout })) w' h (open-since w c p id passwd layout (number-free (conn_at c w) free))
does-since w w' (line.Frame c bytes) still free h = arrives-since c w w' (with_length bytes) h
does-since w w' (line.Arrive c bytes) still free h = arrives-since c w w' bytes h
does-since w w' (line.Exec c) still free h = exec-since w w' c h
does-since w w' (line.Answer c) still free h = delivers-since w w' c (flight_at c w) h
does-since w w' (line.Cut c) still free (x, there, h) = failure-since w w' c x x.actor there h
does-since w w' (line.Refuse c) still free (x, there, h) = since-then w (landed c w) w' (landed-since w c) (failure-since (landed c w) w' c x x.actor there h)
does-since w w' (line.Stray k) still free h = stray-since w w' k h
does-since w w' (line.Entry c) still free h = enters-since w w' c (next_entry c w) h
does-since w w' (line.Lag c) still free h = lags-since w w' c (cursor_at c w) h
does-since w w' (line.End c) still free h = ends-since w w' c (conn_at c w) h
does-since w w' (line.Restart p) still free h = since-to w (restarted p w) w' h (restart-since p w)
does-since w w' (line.Lapse id) still free h = lapse-since w w' id (lapse w.store id) h
does-since w w' (line.Foreign k v) still free h = put-since w w' (foreign w.store k v) h
does-since w w' (line.Reap c p id) still free h = begin-since w w' c p id (number-free (conn_at c w) free) h
does-since w w' (line.Tick n) still free h = absurd (still tt)
does-since w w' (line.Settle c) still free h = absurd h

-- ---- settle

settling-since : (c : ℕ) (w w' : World) (h : Happening) → Settling c w h → Does w h w' → Since w w'
settling-since c w w' _ carries h = exec-since w w' c h
settling-since c w w' _ answers h = delivers-since w w' c (flight_at c w) h
settling-since c w w' _ (enters idle) h = enters-since w w' c (next_entry c w) h

pub settles-since : (n c : ℕ) (w w' : World) → Settles n c w w' → Since w w'
settles-since zero c w w' h = since-same w w' h
settles-since (suc n) c w w' h = go (settling c w) refl (λ mid. settles-since n c mid w') h
  where
    go : (o : Option Happening) → settling c w ≡ o → ((mid : World) → Settles n c mid w' → Since mid w') → SettlesOn n c w w' o → Since w w'
    go None e later g = since-same w w' g
    go (Some x) e later (mid, does, rest) = since-then w mid w' (settling-since c w mid x (settling-is c w x e) does) (later mid rest)
