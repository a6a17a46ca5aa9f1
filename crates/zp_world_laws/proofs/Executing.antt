-- What a connection with a session has out is carried out: the answer is true of the store and of the transcript from then on.
use Rattle.std.proofs.Common.{◌≡◌, ℕ, ◌+◌, ◌≤◌, List, [], ◌∷◌, ◌++◌, length, refl, sym, ap, ◌∙◌, subst, arith, Bool, true, false, ℤ, pos, inl, inr, append-nil}
use Rattle.std.specs.Prelude.{Option, Some, None, ◌<ℤ◌, ◌&&◌, ◌==◌, not}
use Rattle.std.specs.Ordering.{int_eq}
use Rattle.std.proofs.Math.Seq.{take-length}
use Rattle.std.proofs.lemmas.Bool.Decides.{nat_tests}
use Rattle.std.proofs.lemmas.Int.{ints}
use Rattle.std.proofs.lemmas.List.{length-append}
use Rattle.ev_types.specs.Denials.{carry}
use Rattle.ev_types.specs.Store.{Store, last_revision, present, revision, succeeds}
use Rattle.ev_types.specs.declared.answer.ActAns.{ActAns}
use Rattle.ev_types.specs.declared.answer.Answer.{Answer}
use Rattle.ev_types.specs.declared.answer.Answer.TheVariants as answer
use Rattle.ev_types.specs.declared.ask.Act.{Act}
use Rattle.ev_types.specs.declared.ask.Ask.TheVariants as ask
use Rattle.ev_types.specs.declared.ask.Guard.{Guard}
use Rattle.zk_model.specs.declared.node.Trigger.{Trigger}
use Rattle.zk_model.specs.declared.request.Request.{Request}
use Rattle.zk_model.specs.declared.request.Request.TheVariants as req
use Rattle.zk_transcript.proofs.Attachments.{attach_of-push}
use Rattle.zk_transcript.proofs.Lookups.{first_place-new}
use Rattle.zk_transcript.proofs.Walks.{state_at-push}
use Rattle.zk_transcript.specs.History.{after, state_at, when}
use Rattle.zk_transcript.specs.Legal.{attach_of, index_in, is_below_place, is_legal}
use Rattle.zk_transcript.specs.Walks.{Walker, is_not_overtaken, own_update, own_update_shown, packets}
use Rattle.zk_transcript.specs.declared.transcript.TranscriptLine.{TranscriptLine}
use Rattle.zk_transcript.specs.declared.transcript.TranscriptLine.TheVariants.{Update}
use Rattle.zk_service.specs.declared.update.UpdateKind.{UpdateKind}
use Rattle.zk_service.specs.declared.update.UpdateKind.TheVariants.{Asked, Closed}
use Rattle.zn_layout.specs.Changes.{KeyChange}
use Rattle.zn_layout.specs.StandsFor.{StandsFor}
use Rattle.zn_layout.specs.Updates.{update_txn}
use Rattle.zn_layout.proofs.Commits.{committed}
use Rattle.zn_view.specs.Asks.{WritesOwnKeys, plan_txn, ranges_of, transaction}
use Rattle.zn_view.specs.Deciding.{IsGood}
use Rattle.zn_view.specs.Seen.{View}
use Rattle.zn_view.specs.declared.plan.Plan.{Plan}
use Rattle.zp_step.specs.Stages.{Core, Stage, Unconnected, Connecting, Ready, KeepingAlive, Checking, Reading, Committing, Waiting, Shut, asked_of, is_served}
use Rattle.zp_laws.proofs.Growing.{moment-push, past-push, stands-push}
use Rattle.zp_laws.specs.Frames.{IsAtWork}
use Rattle.zp_laws.specs.Inputs.{IsOfEarlierIn, IsOwn, IsOwnLine, IsTrueAnswer, Precedes, StoodAt, is_first, kind_for}
use Rattle.zp_laws.specs.Standing.{IsMoment, IsPastFrame, Knows, Stands, has_looked, is_ahead}
use Rattle.zp_step.specs.Kinds.{kind_in_stage, kind_of_request}
use Rattle.zp_script.specs.declared.flight.Asking.{Asking}
use Rattle.zp_script.specs.declared.flight.Flight.{Flight}
use Rattle.zp_script.specs.declared.flight.Flight.TheVariants.{Out, Carried}
use Rattle.zx_base.proofs.Options.{none_some, some_is}
use Rattle.zp_world_laws.proofs.Commits.{Committed, line_of, stands-now}
use Rattle.zp_world_laws.proofs.Growing.{same-precedes, serves-same}
use Rattle.zp_world_laws.proofs.Looking.{ahead-none, get-last, moment-now, past-now}
use Rattle.zp_world_laws.proofs.Moments.{whole}
use Rattle.zp_world_laws.proofs.Outcomes.{IsNext, Still, outcome, plan-commits, still}
use Rattle.zp_world_laws.proofs.Packets.{packets-append}
use Rattle.zp_world_laws.proofs.Talking.{ahead-push, own-none, talks-push}
use Rattle.zp_world_laws.proofs.Transactions.{txn-answered, txn-reads}
use Rattle.zp_world_laws.specs.Bounds.{IsBound, IsBoundAs, IsBoundAsk, attachment}
use Rattle.zp_world_laws.specs.Connections.{IsServingConn}
use Rattle.zp_world_laws.specs.Holding.{Indexed, Talks, requested_by}
use Rattle.zp_world_laws.specs.Serving.{StoreServes, next_revision, only_reads, update_lines}
use Rattle.zx_base.proofs.Booleans.{same-test}

-- ---- before a first answer, the moment of what a stage holds is free

relooked : (s : Store) (lines : List TranscriptLine) (c : ℕ) (core : Core) (w : Walker) (m n : ℕ) (st : Stage) → is_first st ≡ true → Knows s lines c core w m st → Knows s lines c core w n st
relooked s lines c core w m n (Checking f) h k = tt
relooked s lines c core w m n (Committing xid r v p t) h k = k
relooked s lines c core w m n (Reading xid r v ws) h (tree, inl none) = (tree, inl none)
relooked s lines c core w m n (Reading xid r v ws) h (tree, inr view) = absurd (apart v.revision view.number h view.revision view.begun)
  where
    apart : (r : ℤ) (j : ℕ) → int_eq r (pos 0) ≡ true → r ≡ pos j → 1 ≤ j → ⊥
    apart r j a b le = let e : r ≡ pos 0 = grind (arith, nat_tests, ints) in omega (arith, ints, e, b, le)
relooked s lines c core w m n Ready h k = absurd (cc)
relooked s lines c core w m n (Unconnected f) h k = absurd (cc)
relooked s lines c core w m n (Connecting ph) h k = absurd (cc)
relooked s lines c core w m n (KeepingAlive f) h k = absurd (cc)
relooked s lines c core w m n (Waiting p) h k = absurd (cc)
relooked s lines c core w m n Shut h k = absurd (cc)

relook : (s : Store) (lines : List TranscriptLine) (c : ℕ) (core : Core) (w : Walker) (m n : ℕ) → is_first core.stage ≡ true → Stands s lines c core w m → Stands s lines c core w n
relook s lines c core w m n h k = record { matches = k.matches; work = k.work; waiting = k.waiting; turn = k.turn; views = k.views; knows = relooked s lines c core w m n core.stage h k.knows }

-- and where the answer is not the first one, what was seen is held already
looked-before : (st : Stage) → is_first st ≡ false → has_looked true st ≡ true → has_looked false st ≡ true
looked-before (Reading xid r v ws) e f = ap not e
looked-before (Waiting p) e f = refl
looked-before (Checking b) e f = absurd (cc)
looked-before (Committing xid r v p t) e f = absurd (cc)
looked-before Ready e f = absurd (cc)
looked-before (Unconnected x) e f = absurd (cc)
looked-before (Connecting ph) e f = absurd (cc)
looked-before (KeepingAlive b) e f = absurd (cc)
looked-before Shut e f = absurd (cc)

-- the view that is held is of a revision that the store has
earlier : (s : Store) (lines : List TranscriptLine) (c : ℕ) (core : Core) (w : Walker) (m : ℕ) (st : Stage) → Knows s lines c core w m st → IsOfEarlierIn st s
earlier s lines c core w m (Reading xid r v ws) (tree, inl none) = λ n e. (let z : pos n ≡ pos 0 = sym e ∙ none.0 in omega (arith, ints, z))
earlier s lines c core w m (Reading xid r v ws) (tree, inr view) = λ n e. (let z : pos n ≡ pos view.number = sym e ∙ view.revision in omega (arith, ints, z, view.known))
earlier s lines c core w m (Committing xid r v p t) (tree, b) = λ n e. (let z : pos n ≡ pos b.number = sym e ∙ b.revision in omega (arith, ints, z, b.known))
earlier s lines c core w m Ready k = tt
earlier s lines c core w m (Unconnected f) k = tt
earlier s lines c core w m (Connecting ph) k = tt
earlier s lines c core w m (KeepingAlive f) k = tt
earlier s lines c core w m (Checking f) k = tt
earlier s lines c core w m (Waiting p) k = tt
earlier s lines c core w m Shut k = tt

pub precedes-self : (s : Store) → Precedes s s
precedes-self s = record { longer = omega arith; same = λ r le. refl }

-- ---- nothing was written

still-serving : (s u : Store) (lines : List TranscriptLine) (c : ℕ) (core : Core) (x : Asking) (b : Answer) → StoreServes s lines → u.revisions ≡ s.revisions → (k : IsServingConn s lines c core (Some (Out x))) → carry s x.ask ≡ Some (u, b)
    → ((w : Walker) (m : ℕ) → own_update c core.next lines ≡ None → IsOwn lines c core w s m core.stage b) → IsServingConn u lines c core (Some (Carried b))
still-serving s u lines c core x b w same k h own = go (is_first core.stage) refl
  where
    p : Precedes s u
    p = same-precedes s u same

    serves : StoreServes u lines
    serves = serves-same s u lines same w

    none : own_update c core.next lines ≡ None
    none = ahead-none lines 0 c core.next (k.flies).ahead

    now : IsMoment lines c core.who k.walker (length lines)
    now = moment-now lines c core k.walker k.place w.legal k.attached k.talks (k.stands).matches

    at_end : state_at lines (length lines) ≡ after lines
    at_end = ap after (take-length lines)

    answer_at : (m : ℕ) → (is_first core.stage ≡ true → StoodAt u lines c core.who k.walker m) → IsTrueAnswer u lines c core k.walker m b
    answer_at m shown = record {
      asked = x.ask;
      out = (k.flies).asked;
      before = s;
      then_store = u;
      carried_out = h;
      begun = omega (arith, w.begun, p.longer);
      was = p;
      is = precedes-self u;
      earlier = earlier s lines c core k.walker k.looked core.stage (k.stands).knows;
      shown = shown;
      own = own k.walker m none;
    }

    stands_at : (m : ℕ) → Stands s lines c core k.walker m → Stands u lines c core k.walker m
    stands_at m t = subst (λ l. Stands u l c core k.walker m) (append-nil lines) (stands-push s u lines [] c core k.walker m (record {
      legal = w.legal;
      still_legal = subst (λ l. is_legal l ≡ true) (sym (append-nil lines)) w.legal;
      before = p;
      own = λ q e. ap (own_update c core.next) (append-nil lines);
      turn = subst (λ l. is_not_overtaken l c core.next ≡ true) (sym (append-nil lines)) t.turn;
      ahead = λ r. subst (λ l. is_ahead l c core.next ≡ true) (sym (append-nil lines)) (k.flies).ahead;
    }) t)

    go : (first : Bool) → is_first core.stage ≡ first → IsServingConn u lines c core (Some (Carried b))
    go true e = record {
      place = k.place;
      attached = k.attached;
      least = k.least;
      most = k.most;
      rises = k.rises;
      walker = k.walker;
      talks = k.talks;
      looked = length lines;
      stands = stands_at (length lines) (relook s lines c core k.walker k.looked (length lines) e k.stands);
      flies = answer_at (length lines) (λ f. record { stands = subst (StandsFor (present u)) (sym at_end) (stands-now u lines serves); moment = now });
      fresh = λ f. past-now lines c core.next;
      first = k.first;
      packets_were = k.packets_were;
      welcomed = k.welcomed;
    }
    go false e = record {
      place = k.place;
      attached = k.attached;
      least = k.least;
      most = k.most;
      rises = k.rises;
      walker = k.walker;
      talks = k.talks;
      looked = k.looked;
      stands = stands_at k.looked k.stands;
      flies = answer_at k.looked (λ f. (let n : false ≡ true = sym e ∙ f in absurd (cc)));
      fresh = λ f. k.fresh (looked-before core.stage e f);
      first = k.first;
      packets_were = k.packets_were;
      welcomed = k.welcomed;
    }

-- ---- a plan whose guards hold

record IsOfRequest (kind : UpdateKind) (c i : ℕ) : Type 0 where
  asked : requested_by kind ≡ Some (record { connection = c; index = i })
  shown : (z : ℤ) → own_update_shown c i (Update (record { zxid = z; kind = kind })) ≡ Some (record { zxid = z; kind = kind })
  index : index_in c kind ≡ Some i

of-request : (q : Request) (id : ℤ) (c i m : ℕ) → IsOfRequest (kind_of_request c i id m q) c i
of-request req.Close id c i m = record {
  asked = refl;
  shown = λ z. ap (λ b. when (b && (i == i)) (record { zxid = z; kind = Closed id c i })) (same-test c) ∙ ap (λ b. when b (record { zxid = z; kind = Closed id c i })) (same-test i);
  index = ap (λ b. when b i) (same-test c);
}
of-request _ id c i m = record {
  asked = refl;
  shown = λ z. ap (λ b. when (b && (i == i)) (record { zxid = z; kind = Asked c i m })) (same-test c) ∙ ap (λ b. when b (record { zxid = z; kind = Asked c i m })) (same-test i);
  index = ap (λ b. when b i) (same-test c);
}

pub kind-same : (q : Request) (id : ℤ) (c i m : ℕ) → kind_of_request c i id m q ≡ kind_for q id c i m
kind-same req.Close id c i m = refl
kind-same _ id c i m = refl

same-index : (c i d j : ℕ) → ◌≡◌ {A = Option Indexed} (Some (record { connection = c; index = i })) (Some (record { connection = d; index = j })) → (c ≡ d) × (i ≡ j)
same-index c i d j e = (ap (λ (p : Indexed). p.connection) (some_is e), ap (λ (p : Indexed). p.index) (some_is e))

-- the line that is added is the next request's
commit-serving : (s u : Store) (lines : List TranscriptLine) (c : ℕ) (core : Core) (a : Asking) (b : Answer) (xid : ℤ) (q : Request) (v : View) (p : Plan) (m : ℕ) → core.stage ≡ Committing xid q v p m → StoreServes s lines
    → (k : IsServingConn s lines c core (Some (Out a))) → carry s a.ask ≡ Some (u, b) → Precedes s u → Committed s u lines (kind_of_request c core.next core.who.session m q) → (parts : List ActAns) → b ≡ answer.Txn (revision u) true parts
    → IsServingConn u (lines ++ line_of s (kind_of_request c core.next core.who.session m q) ∷ []) c core (Some (Carried b))
commit-serving s u lines c core a b xid q v p m e w k h x done parts right = record {
  place = k.place;
  attached = attached;
  least = k.least;
  most = k.most;
  rises = k.rises;
  walker = k.walker;
  talks = talks;
  looked = length lines + 1;
  stands = stands;
  flies = record {
    asked = a.ask;
    out = (k.flies).asked;
    before = s;
    then_store = u;
    carried_out = h;
    begun = omega (arith, w.begun, x.longer);
    was = x;
    is = precedes-self u;
    earlier = earlier s lines c core k.walker k.looked core.stage (k.stands).knows;
    shown = λ g. record { stands = subst (StandsFor (present u)) (sym (whole lines l)) (stands-now u (lines ++ l ∷ []) done.serves); moment = subst (IsMoment (lines ++ l ∷ []) c core.who k.walker) (length-append lines (l ∷ [])) later };
    own = subst (λ y. IsOwn (lines ++ l ∷ []) c core k.walker s (length lines + 1) core.stage y) (sym right) (subst (λ st. IsOwn (lines ++ l ∷ []) c core k.walker s (length lines + 1) st (answer.Txn (revision u) true parts)) (sym e) own);
  };
  fresh = λ f. subst (IsPastFrame (lines ++ l ∷ []) c core.next) (length-append lines (l ∷ [])) (past-now (lines ++ l ∷ []) c core.next);
  first = k.first;
  packets_were = k.packets_were;
  welcomed = packets-append c lines (l ∷ []) ∙ append-nil (packets c lines) ∙ k.welcomed;
}
  where
    kind : UpdateKind
    kind = kind_of_request c core.next core.who.session m q

    r : IsOfRequest kind c core.next
    r = of-request q core.who.session c core.next m

    l : TranscriptLine
    l = line_of s kind

    legal : is_legal (lines ++ l ∷ []) ≡ true
    legal = (done.serves).legal

    same_next : k.walker.next ≡ core.next
    same_next = ((k.stands).matches).next

    attached : attach_of c (lines ++ l ∷ []) ≡ Some (k.place, attachment core.who)
    attached = attach_of-push lines (l ∷ []) c (k.place, attachment core.who) k.attached

    talks : Talks (lines ++ l ∷ []) c k.place (attachment core.who) k.walker
    talks = talks-push lines l c k.place (attachment core.who) k.walker
        (λ j small. own-none c j k.walker.next (next_revision s) kind (λ i g. (let t = same-index c core.next c i (sym r.asked ∙ g) in omega (arith, same_next, t.1))) small) refl k.talks

    stands : Stands u (lines ++ l ∷ []) c core k.walker (length lines + 1)
    stands = stands-push s u lines (l ∷ []) c core k.walker (length lines + 1) (record {
      legal = w.legal;
      still_legal = legal;
      before = x;
      own = λ y g. (let n : Committing xid q v p m ≡ Waiting y = sym e ∙ g in absurd (cc));
      turn = ahead-push lines l c (core.next + 1) (ap (is_below_place (core.next + 1)) r.index ∙ next-below core.next) (k.stands).turn;
      ahead = λ g. (let n : Committing xid q v p m ≡ Ready = sym e ∙ g in absurd (cc));
    }) (relook s lines c core k.walker k.looked (length lines + 1) (ap is_first e) k.stands)
      where
        next-below : (n : ℕ) → is_below_place (n + 1) (Some n) ≡ true
        next-below n = grind (arith, nat_tests)

    later : IsMoment (lines ++ l ∷ []) c core.who k.walker (length (lines ++ l ∷ []))
    later = moment-now (lines ++ l ∷ []) c core k.walker k.place legal attached talks stands.matches

    work : IsAtWork lines c core.next (Committing xid q v p m)
    work = subst (IsAtWork lines c core.next) e (k.stands).work

    own : IsOwnLine (lines ++ l ∷ []) c core k.walker s q m (revision u) (length lines + 1)
    own = record {
      place = length lines;
      update = record { zxid = next_revision s; kind = kind };
      line = first_place-new (own_update_shown c core.next) 0 lines l (record { zxid = next_revision s; kind = kind }) (ahead-none lines 0 c core.next (k.flies).ahead) (r.shown (next_revision s)) ∙ ap (λ n. Some (n, record { zxid = next_revision s; kind = kind })) (omega arith);
      there = get-last lines l;
      right = refl;
      zxid = omega (arith, ints, done.grown);
      kind = kind-same q core.who.session c core.next m;
      stood = subst (StandsFor (present s)) (sym (state_at-push lines (l ∷ []) (length lines) (omega arith) ∙ ap after (take-length lines))) (stands-now s lines w);
      planned = moment-push lines (l ∷ []) c core.who k.walker (length lines) (moment-now lines c core k.walker k.place w.legal k.attached k.talks (k.stands).matches);
      asked = past-push lines (l ∷ []) c core.next (length lines) (work.frame).place work.bytes (work.frame).framed (past-now lines c core.next);
    }

-- ---- whatever it has out

still-lines : (s u : Store) (lines : List TranscriptLine) (c : ℕ) (core : Core) (f : Option Flight) (kind : Option UpdateKind) → Still s u kind → IsServingConn u lines c core f → IsServingConn u (lines ++ update_lines s u kind) c core f
still-lines s u lines c core f kind q k = subst (λ l. IsServingConn u l c core f) (sym (ap (λ l. lines ++ l) q.lines ∙ append-nil lines)) k

-- what is no update
read-serving : (s u : Store) (lines : List TranscriptLine) (c : ℕ) (core : Core) (x : Asking) (b : Answer) → StoreServes s lines → IsBoundAsk s lines x → x.kind ≡ None → IsServingConn s lines c core (Some (Out x)) → carry s x.ask ≡ Some (u, b)
    → ((w : Walker) (m : ℕ) → own_update c core.next lines ≡ None → IsOwn lines c core w s m core.stage b) → IsServingConn u (lines ++ update_lines s u x.kind) c core (Some (Carried b))
read-serving s u lines c core x b w bound none k h own =
    elim (outcome s u lines x b w (λ kind e. absurd (none_some (sym none ∙ e))) bound h) [
      | inl q ↦ still-lines s u lines c core (Some (Carried b)) x.kind q (still-serving s u lines c core x b w q.revisions k h own)
      | inr q ↦ absurd (none_some (sym none ∙ q.is))
    ]

-- where an update's transaction was carried out, the store had room for a revision, since the head was put
pub update-room : (s u : Store) (guards : List Guard) (cs : List KeyChange) (ts : List Trigger) (again : List Act) (parts : List ActAns) → carry s (ask.Txn (update_txn guards cs ts again)) ≡ Some (u, answer.Txn (revision u) true parts) → revision s <ℤ last_revision
update-room s u guards cs ts again parts h = let c = committed s u guards cs ts again (revision u) parts h in omega (arith, ints, c.zxid_is, c.most)

plan-room : (s u : Store) (p : Plan) (parts : List ActAns) → WritesOwnKeys p → carry s (ask.Txn (plan_txn p)) ≡ Some (u, answer.Txn (revision u) true parts) → revision s <ℤ last_revision
plan-room s u p parts w h =
    let again = ranges_of (pos 0) p.again in
    let is : plan_txn p ≡ update_txn p.guards w.changes p.triggers again = λ i. record { guards = p.guards; success = w.acts i; failure = again } in
    update-room s u p.guards w.changes p.triggers again parts (subst (λ t. carry s (ask.Txn t) ≡ Some (u, answer.Txn (revision u) true parts)) is h)

bound-plan : (s : Store) (lines : List TranscriptLine) (x : Asking) (kind : UpdateKind) (p : Plan) → x.kind ≡ Some kind → x.ask ≡ transaction p → IsBoundAsk s lines x → IsBound s lines kind (plan_txn p) × (only_reads (plan_txn p).failure ≡ true)
bound-plan s lines x kind p a b bound = subst (λ q. IsBoundAs s lines (Some kind) q) b (subst (λ o. IsBoundAs s lines o x.ask) a bound)

plan-serving : (s u : Store) (lines : List TranscriptLine) (c : ℕ) (core : Core) (x : Asking) (b : Answer) (xid : ℤ) (q : Request) (v : View) (p : Plan) (m : ℕ) → core.stage ≡ Committing xid q v p m → StoreServes s lines → IsBoundAsk s lines x
    → x.kind ≡ Some (kind_of_request c core.next core.who.session m q) → x.ask ≡ transaction p → (k : IsServingConn s lines c core (Some (Out x))) → carry s x.ask ≡ Some (u, b) → IsServingConn u (lines ++ update_lines s u x.kind) c core (Some (Carried b))
plan-serving s u lines c core x b xid q v p m e w bound of_kind of_ask k h = go (succeeds s (plan_txn p)) refl
  where
    kind : UpdateKind
    kind = kind_of_request c core.next core.who.session m q

    ht : carry s (ask.Txn (plan_txn p)) ≡ Some (u, b)
    ht = ap (carry s) (sym of_ask) ∙ h

    bp : IsBound s lines kind (plan_txn p) × (only_reads (plan_txn p).failure ≡ true)
    bp = bound-plan s lines x kind p of_kind of_ask bound

    next : IsNext lines kind
    next d i r = let y = same-index c core.next d i (sym ((of-request q core.who.session c core.next m).asked) ∙ r) in subst (λ n. is_ahead lines n i ≡ true) y.0 (subst (λ n. is_ahead lines c n ≡ true) y.1 (k.flies).ahead)

    good : IsGood q core.who m v p
    good = (subst (Knows s lines c core k.walker k.looked) e (k.stands).knows).1.good

    go : (ok : Bool) → succeeds s (plan_txn p) ≡ ok → IsServingConn u (lines ++ update_lines s u x.kind) c core (Some (Carried b))
    go true g =
        let a = txn-answered s u (plan_txn p) b ht in
        let right : b ≡ answer.Txn (revision u) true a.0 = a.1 ∙ ap (λ ok. answer.Txn (revision u) ok a.0) g in
        let room = plan-room s u p a.0 good.writes (ht ∙ ap (λ y. Some (u, y)) right) in
        let done = plan-commits s u lines kind (plan_txn p) b w room next bp.0 g ht in
        subst (λ ls. IsServingConn u (lines ++ ls) c core (Some (Carried b))) (sym (ap (update_lines s u) of_kind ∙ (done.0).line))
        (commit-serving s u lines c core x b xid q v p m e w k h done.1 done.0 a.0 right)
    go false g =
        let a = txn-answered s u (plan_txn p) b ht in
        let right : b ≡ answer.Txn (revision u) false a.0 = a.1 ∙ ap (λ ok. answer.Txn (revision u) ok a.0) g in
        let same : u.revisions ≡ s.revisions = ap (λ (y : Store). y.revisions) (txn-reads s u (plan_txn p) b false ht g bp.1) in
        still-lines s u lines c core (Some (Carried b)) x.kind (still s u x.kind same)
        (still-serving s u lines c core x b w same k h
        (λ wk j none. subst (λ y. IsOwn lines c core wk s j core.stage y) (sym right) (subst (λ st. IsOwn lines c core wk s j st (answer.Txn (revision u) false a.0)) (sym e) none)))

own-read : (lines : List TranscriptLine) (c : ℕ) (core : Core) (w : Walker) (s : Store) (j : ℕ) (b : Answer) (st : Stage) → core.stage ≡ st → IsOwn lines c core w s j st b → IsOwn lines c core w s j core.stage b
own-read lines c core w s j b st e o = subst (λ y. IsOwn lines c core w s j y b) (sym e) o

carried-at : (s u : Store) (lines : List TranscriptLine) (c : ℕ) (core : Core) (x : Asking) (b : Answer) (st : Stage) → core.stage ≡ st → is_served st ≡ true → StoreServes s lines → IsBoundAsk s lines x
    → IsServingConn s lines c core (Some (Out x)) → carry s x.ask ≡ Some (u, b) → asked_of core.who st ≡ Some x.ask → x.kind ≡ kind_in_stage c core st → IsServingConn u (lines ++ update_lines s u x.kind) c core (Some (Carried b))
carried-at s u lines c core x b (Unconnected f) e served w bound k h o kind = absurd (cc)
carried-at s u lines c core x b (Connecting ph) e served w bound k h o kind = absurd (cc)
carried-at s u lines c core x b Ready e served w bound k h o kind = absurd (none_some o)
carried-at s u lines c core x b (Waiting p) e served w bound k h o kind = absurd (none_some o)
carried-at s u lines c core x b Shut e served w bound k h o kind = absurd (cc)
carried-at s u lines c core x b (KeepingAlive f) e served w bound k h o kind = read-serving s u lines c core x b w bound kind k h (λ wk j none. own-read lines c core wk s j b (KeepingAlive f) e none)
carried-at s u lines c core x b (Checking f) e served w bound k h o kind = read-serving s u lines c core x b w bound kind k h (λ wk j none. own-read lines c core wk s j b (Checking f) e none)
carried-at s u lines c core x b (Reading xid q v ws) e served w bound k h o kind = read-serving s u lines c core x b w bound kind k h (λ wk j none. own-read lines c core wk s j b (Reading xid q v ws) e none)
carried-at s u lines c core x b (Committing xid q v p m) e served w bound k h o kind = plan-serving s u lines c core x b xid q v p m e w bound kind (sym (some_is o)) k h

pub carried-serving : (s u : Store) (lines : List TranscriptLine) (c : ℕ) (core : Core) (x : Asking) (b : Answer) → is_served core.stage ≡ true → StoreServes s lines → IsBoundAsk s lines x
    → IsServingConn s lines c core (Some (Out x)) → carry s x.ask ≡ Some (u, b) → IsServingConn u (lines ++ update_lines s u x.kind) c core (Some (Carried b))
carried-serving s u lines c core x b served w bound k h = carried-at s u lines c core x b core.stage refl served w bound k h (k.flies).asked (k.flies).kind
