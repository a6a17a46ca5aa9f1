-- The state after each legal history is sound, and its numbers are in their ranges: by the kinds of lines.
use Rattle.std.proofs.Common.{◌≡◌, ℕ, ℤ, pos, ◌≤◌, true, false, length, List, [], ◌∷◌, ◌++◌, Option, Some, None, refl, sym, ap, ◌∙◌, subst, arith, Bool, cond}
use Rattle.std.specs.Prelude.{◌≤ℤ◌, ⊤, nat_lt, is_none, is_some, int_lt, int_le, option_and_then, option_map}
use Rattle.std.specs.Int.{int_min}
use Rattle.std.specs.List.{AllByRecursion, list_all}
use Rattle.std.specs.Ordering.{int_cmp, nat_cmp}
use Rattle.std.specs.Cmp.Lexicographic.{slice_cmp}
use Rattle.std.proofs.lemmas.Bool.{and_parts, leb-true}
use Rattle.std.proofs.lemmas.Int.{ints}
use Rattle.std.proofs.lemmas.List.Elements.{recursion_from_All}
use Rattle.std.specs.FinMap.{get, remove, empty, get-empty}
use Rattle.zx_base.specs.Maps.{Bytes}
use Rattle.zx_base.proofs.MapLaws.{get-insert_same}
use Rattle.zx_base.proofs.Options.{some_is, some_none}
use Rattle.zk_model.specs.Limits.{max_frame, max_long, max_timeout, min_timeout}
use Rattle.zk_model.specs.declared.connect.ConnectRequest.{ConnectRequest}
use Rattle.zk_model.specs.declared.node.Node.{Node}
use Rattle.zk_model.specs.declared.node.Stat.{Stat}
use Rattle.zk_model.specs.declared.node.Trigger.{Trigger}
use Rattle.zk_model.specs.declared.request.Request.{Request}
use Rattle.zk_model.specs.declared.request.Request.TheVariants as req
use Rattle.zk_model.specs.declared.request.Part.TheVariants as part
use Rattle.zk_service.specs.declared.update.UpdateRec.{UpdateRec}
use Rattle.zk_service.specs.declared.update.UpdateKind.{UpdateKind}
use Rattle.zk_service.specs.declared.update.UpdateKind.TheVariants.{Begin, Session as NewSession, Attach, Asked, Closed, Reaped}
use Rattle.zk_transcript.specs.declared.transcript.TranscriptLine.{TranscriptLine}
use Rattle.zk_transcript.specs.declared.transcript.TranscriptLine.TheVariants.{Update, Open, Frame as FrameLine, Send, Lapse, Close}
use Rattle.zk_model.specs.Paths.{root, is_child, is_at_path}
use Rattle.zk_jute.specs.Records.{contents_of}
use Rattle.zk_jute.specs.Requests.{Frame, NoHeader, Unreadable, Unknown, Asks, read_request}
use Rattle.zk_model.specs.Znodes.{Tree, num_children, owned, new_node, root_alone}
use Rattle.zk_model.specs.Single.{Outcome, Refused, Done}
use Rattle.zk_model.specs.Multi.{Several, Denied, Codes, All as AllDone}
use Rattle.zk_service.specs.States.{State, Session, Sessions, Commit, IsSoundTree, IsSound, IsPast, IsBoundedNode, IsBoundedSession, IsBounded, IsCounted, HasParent, limit_of, session_at, attached_session, commit, commit_single, commit_with_stat, commit_several, committed, advanced, new_session, with_session, attached_anew, session_ended, removed_all, lapsed_in, nothing_yet, granted_timeout, or_nothing}
use Rattle.zk_transcript.specs.History.{frame, request, asked_in, asked_commit, opening, connect, updated, change, after, first_shown, update_in}
use Rattle.zk_transcript.specs.Legal.{may_update, is_id, is_next_zxid, is_legal_line, is_legal, is_small_frame, is_within_parts, is_live_as, is_close, is_lapsed, offers, asks_anew, may_attach}
use Rattle.zk_model.proofs.Paths.{parent-root}
use Rattle.zk_model.proofs.ValidPaths.{root-valid}
use Rattle.zk_jute.proofs.Contents.{contents_within}
use Rattle.zk_transcript.proofs.Histories.{above-next, long-next, not-begin, is_still, begin_line, legal-induct, first_shown-push, first_update-begins}
use Rattle.zk_service.proofs.Children.{no_children, num_children-new_other}
use Rattle.zk_service.proofs.SessionMaps.{EachSession, each_session-put, each_session-gone, attached_session-open}
use Rattle.zk_service.proofs.SoundTrees.{Each, each-put}
use Rattle.zk_service.proofs.SoundEffects.{past_now, Stands, Acts, Leads, IsShort, SeveralLead, single-leads, several-lead}
use Rattle.zk_service.proofs.SoundSessions.{sound-session, owns_none, stands-ended}

-- what is kept from line to line
pub record Fine (first : ℤ) (s : State) : Type 0 where
  pub sound : IsSound s
  pub bounded : IsBounded first s

-- ---- the next zxid

past_later : (first a b z : ℤ) → a ≤ℤ b → IsPast first a z → IsPast first b z
past_later first a b z le past = let most = past.most in record { least = past.least; most = omega (arith, ints) }

node_later : (first a b : ℤ) (p : Bytes) (n : Node) → a ≤ℤ b → IsBoundedNode first a p n → IsBoundedNode first b p n
node_later first a b p n le w = record {
  valid = w.valid;
  made = past_later first a b n.czxid le w.made;
  changed = past_later first a b n.mzxid le w.changed;
  children_changed = past_later first a b n.pzxid le w.children_changed;
  made_at = w.made_at;
  changed_at = w.changed_at;
  version_least = w.version_least;
  version_most = w.version_most;
  owner_least = w.owner_least;
  owner_most = w.owner_most;
}

session_later : (first a b id : ℤ) (x : Session) → a ≤ℤ b → IsBoundedSession first a id x → IsBoundedSession first b id x
session_later first a b id x le w = record { most = w.most; attached = past_later first a b x.attached le w.attached; timeout_least = w.timeout_least; timeout_most = w.timeout_most }

-- a sound state at the zxid of the next update
record Next (first : ℤ) (s : State) (z : ℤ) : Type 0 where
  later : s.zxid ≤ℤ z
  begun : first ≤ℤ z
  most : z ≤ℤ max_long
  stands : Stands s.sessions first z s.tree
  sessions : EachSession (IsBoundedSession first z) s.sessions

next : (first : ℤ) (s : State) (z : ℤ) → Fine first s → 1 ≤ s.updates → is_next_zxid s z ≡ true → Next first s z
next first s z fine some h =
    let above : s.zxid ≤ℤ z = (let a = above-next s z some h in omega (arith, ints)) in
    let least = fine.bounded.zxid.least in
    record {
      later = above;
      begun = omega (arith, ints);
      most = long-next s z h;
      stands = record { sound = fine.sound; bounded = λ p n is. node_later first s.zxid z p n above (fine.bounded.nodes p n is) };
      sessions = λ id x is. session_later first s.zxid z id x above (fine.bounded.sessions id x is);
    }

fine-advanced : (first : ℤ) (s : State) (z : ℤ) (t : Tree) (g : List Trigger) (m : Sessions) → Next first s z → Stands m first z t → EachSession (IsBoundedSession first z) m → Fine first (advanced s z t g m)
fine-advanced first s z t g m n st sessions = record { sound = st.sound; bounded = record { zxid = record { least = n.begun; most = n.most }; nodes = st.bounded; sessions = sessions } }

-- ---- Begin

not_its_child : is_child root root ≡ false
unfolding is_child
not_its_child = ap (λ o. is_at_path o root) parent-root

none_there : (p : Bytes) (n : Node) → get (empty {X = Node} {R = slice_cmp nat_cmp}) p ≡ Some n → ⊥
none_there p n is = some_none (sym is ∙ get-empty (slice_cmp nat_cmp) p)

nobody : (id : ℤ) (x : Session) → get (empty {X = Session} {R = int_cmp}) id ≡ Some x → ⊥
nobody id x is = some_none (sym is ∙ get-empty int_cmp id)

module _ (first z : ℤ) (now : ℕ) where
  abbrev top : Node
  top = new_node [] (pos 0) z now

  alone : (Q : Bytes → Node → Type 0) → Q root top → Each Q (root_alone z now)
  alone Q here = each-put Q empty root top (λ p n is. absurd (none_there p n is)) here

  childless : num_children (root_alone z now) root ≡ 0
  childless = num_children-new_other empty root top root not_its_child ∙ no_children empty root (λ r below. get-empty (slice_cmp nat_cmp) r)

  begin-sound : IsSoundTree empty (root_alone z now)
  begin-sound = record {
    rooted = record { node = top; there = get-insert_same empty root top; plain = refl };
    parents = alone (λ p n. (p ≡ root → ⊥) → HasParent (root_alone z now) p) (λ far. absurd (far refl));
    counted = alone (λ p n. IsCounted n (num_children (root_alone z now) p)) (record { counted = let e = childless in omega (arith, ints); most = omega (arith, ints) });
    numbered = λ id x is. absurd (nobody id x is);
    owners = alone (λ p n. (n.owner ≡ pos 0 → ⊥) → (x : Session) × (get empty n.owner ≡ Some x)) (λ owned. absurd (owned refl));
    limited = λ id x is. absurd (nobody id x is);
    small = alone (λ p n. length n.content ≤ max_frame) (omega arith);
  }

  begin-bounded : first ≤ℤ z → Each (IsBoundedNode first z) (root_alone z now)
  begin-bounded begun = alone (IsBoundedNode first z) (record {
    valid = root-valid;
    made = record { least = begun; most = omega (arith, ints) };
    changed = record { least = begun; most = omega (arith, ints) };
    children_changed = record { least = begun; most = omega (arith, ints) };
    made_at = omega (arith, ints);
    changed_at = omega (arith, ints);
    version_least = omega (arith, ints);
    version_most = omega (arith, ints);
    owner_least = omega (arith, ints);
    owner_most = omega (arith, ints);
  })

  fine-begin : (before : List TranscriptLine) (s : State) → first ≤ℤ z → z ≤ℤ max_long → Fine first (updated before s z (Begin now))
  unfolding updated
  fine-begin before s begun most = record {
    sound = begin-sound;
    bounded = record { zxid = record { least = begun; most = most }; nodes = begin-bounded begun; sessions = λ id x is. absurd (nobody id x is) };
  }

-- ---- sessions open, are resumed, lapse and end

id_bounds : (id : ℤ) → is_id id ≡ true → (pos 1 ≤ℤ id) × (id ≤ℤ max_long)
id_bounds id h = let both = and_parts (int_lt (pos 0) id) (int_le id max_long) h in (grind (arith, ints, both.0), grind (arith, ints, both.1))

is_absent : (o : Option Session) → is_none o ≡ true → o ≡ None
is_absent None h = refl
is_absent (Some x) h = absurd (cc)

put-session : (first : ℤ) (s : State) (z id : ℤ) (x : Session) → Next first s z → pos 1 ≤ℤ id → length (owned s.tree id) ≤ limit_of x → IsBoundedSession first z id x
    → Fine first (advanced s z s.tree [] (with_session s id x))
put-session first s z id x n least few within = fine-advanced first s z s.tree [] (with_session s id x) n
    (record { sound = sound-session s.sessions s.tree id x n.stands.sound least few; bounded = n.stands.bounded })
    (each_session-put (IsBoundedSession first z) s.sessions id x n.sessions within)

granted-within : (asked : ℤ) → (min_timeout ≤ℤ granted_timeout asked) × (granted_timeout asked ≤ℤ max_timeout)
granted-within asked = by_least (int_lt asked (min_timeout)) refl
  where
    by_most : (y : ℤ) → min_timeout ≤ℤ y → (b : Bool) → int_lt y (max_timeout) ≡ b → (min_timeout ≤ℤ cond b y (max_timeout)) × (cond b y (max_timeout) ≤ℤ max_timeout)
    by_most y h true e = (h, grind (arith, ints, e))
    by_most y h false e = (omega (arith, ints), omega (arith, ints))

    by_least : (b : Bool) → int_lt asked (min_timeout) ≡ b → (min_timeout ≤ℤ int_min (max_timeout) (cond b (min_timeout) asked)) × (int_min (max_timeout) (cond b (min_timeout) asked) ≤ℤ max_timeout)
    by_least true e = by_most (min_timeout) (omega (arith, ints)) (int_lt (min_timeout) (max_timeout)) refl
    by_least false e = by_most asked (grind (arith, ints, e)) (int_lt asked (max_timeout)) refl

fine-opened : (first : ℤ) (before : List TranscriptLine) (s : State) (z id : ℤ) (c : ℕ) → Next first s z → may_update before s z (NewSession id c) ≡ true → Fine first (updated before s z (NewSession id c))
unfolding may_update updated
fine-opened first before s z id c n h =
    let a = and_parts _ (may_attach before c z (connect c before)) h in
    let b = and_parts _ (asks_anew (connect c before)) a.0 in
    let d = and_parts _ (offers id (opening c before)) b.0 in
    let e = and_parts (is_none (session_at id s)) (is_id id) d.0 in
    let bounds = id_bounds id e.1 in
    let timeouts = granted-within (or_nothing (pos 0) (option_map (λ (r : ConnectRequest). r.timeout) (connect c before))) in
    let none = owns_none s.sessions s.tree id n.stands.sound bounds.0 (is_absent (session_at id s) e.0) in
    put-session first s z id (new_session (opening c before) (connect c before) c z) n bounds.0 (omega (arith, none)) (record {
      most = bounds.1;
      attached = past_now first z n.begun;
      timeout_least = timeouts.0;
      timeout_most = timeouts.1;
    })

fine-attached : (first : ℤ) (before : List TranscriptLine) (s : State) (z id : ℤ) (c : ℕ) → Next first s z → Fine first (updated before s z (Attach id c))
unfolding updated
fine-attached first before s z id c n = by_session (session_at id s) refl
  where
    by_session : (o : Option Session) → session_at id s ≡ o → Fine first (advanced s z s.tree [] (attached_anew s z id c o))
    by_session None is = fine-advanced first s z s.tree [] s.sessions n n.stands n.sessions
    by_session (Some x) is =
        put-session first s z id (record x { connection = c; attached = z }) n (n.stands.sound.numbered id x is) (n.stands.sound.limited id x is)
        (let w = n.sessions id x is in record { most = w.most; attached = past_now first z n.begun; timeout_least = w.timeout_least; timeout_most = w.timeout_most })

fine-lapsed : (first : ℤ) (s : State) (id : ℤ) → Fine first s → Fine first (lapsed_in s id (session_at id s))
fine-lapsed first s id fine = by_session (session_at id s) refl
  where
    by_session : (o : Option Session) → session_at id s ≡ o → Fine first (lapsed_in s id o)
    by_session None is = fine
    by_session (Some x) is = record {
      sound = sound-session s.sessions s.tree id (record x { lapsed = true }) fine.sound (fine.sound.numbered id x is) (fine.sound.limited id x is);
      bounded = record {
        zxid = fine.bounded.zxid;
        nodes = fine.bounded.nodes;
        sessions = each_session-put (IsBoundedSession first s.zxid) s.sessions id (record x { lapsed = true }) fine.bounded.sessions
            (let w = fine.bounded.sessions id x is in record { most = w.most; attached = w.attached; timeout_least = w.timeout_least; timeout_most = w.timeout_most });
      };
    }

fine-ended : (first : ℤ) (s : State) (z id : ℤ) → Next first s z → pos 1 ≤ℤ id → Fine first (session_ended s z id)
fine-ended first s z id n least =
    fine-advanced first s z (removed_all s.tree (owned s.tree id) z) _ (remove s.sessions id) n (stands-ended s.sessions first z s.tree id n.stands n.begun least) (each_session-gone (IsBoundedSession first z) s.sessions id n.sessions)

fine-closed : (first : ℤ) (before : List TranscriptLine) (s : State) (z id : ℤ) (c i : ℕ) → Next first s z → may_update before s z (Closed id c i) ≡ true → Fine first (updated before s z (Closed id c i))
unfolding may_update updated
fine-closed first before s z id c i n h =
    let a = and_parts _ (is_close (request c i before)) h in
    let b = and_parts _ (is_small_frame (frame c i before)) a.0 in
    let d = and_parts _ (nat_lt 0 i) b.0 in
    let e = and_parts (is_id id) (is_live_as id (attached_session c s)) d.0 in
    fine-ended first s z id n (id_bounds id e.0).0

fine-reaped : (first : ℤ) (before : List TranscriptLine) (s : State) (z id : ℤ) → Next first s z → may_update before s z (Reaped id) ≡ true → Fine first (updated before s z (Reaped id))
unfolding may_update updated
fine-reaped first before s z id n h = by_session (session_at id s) refl h
  where
    by_session : (o : Option Session) → session_at id s ≡ o → is_lapsed o ≡ true → Fine first (session_ended s z id)
    by_session None is lapsed = absurd (cc)
    by_session (Some x) is lapsed = fine-ended first s z id n (n.stands.sound.numbered id x is)

-- ---- requests

-- the session that is attached to a connection acts for it
attached_session-acts : (first : ℤ) (c : ℕ) (s : State) (e : ℤ × Session) → Fine first s → attached_session c s ≡ Some e → Acts s.sessions (limit_of e.1) e.0
attached_session-acts first c s e fine is =
    let here = attached_session-open c s e is in
    let least = fine.sound.numbered e.0 e.1 here in
    record { whose = (e.1, here, refl); least = omega (arith, ints); most = (fine.bounded.sessions e.0 e.1 here).most }

small_data : (before : List TranscriptLine) (c i : ℕ) (r : Request) → is_small_frame (frame c i before) ≡ true → request c i before ≡ Some r → AllByRecursion IsShort (contents_of r)
small_data before c i r small is = by_frame (frame c i before) small is
  where
    shorter : (bytes : List ℕ) (cs : List Bytes) → length bytes ≤ max_frame → AllByRecursion (λ content. length content ≤ length bytes) cs → AllByRecursion IsShort cs
    shorter bytes [] le all = tt
    shorter bytes (x ∷ xs) le all = (omega (arith, all.0), shorter bytes xs le all.1)

    by_reading : (bytes : List ℕ) (f : Frame) → read_request bytes ≡ f → length bytes ≤ max_frame → asked_in f ≡ Some r → AllByRecursion IsShort (contents_of r)
    by_reading bytes NoHeader e le h = absurd (cc)
    by_reading bytes (Unreadable xid place) e le h = absurd (cc)
    by_reading bytes (Unknown xid kind) e le h = absurd (cc)
    by_reading bytes (Asks xid q) e le h =
        let same : q ≡ r = cc in
        subst (λ (q : Request). AllByRecursion IsShort (contents_of q)) same
        (shorter bytes (contents_of q) le (recursion_from_All (λ content. length content ≤ length bytes) (contents_of q) (contents_within bytes xid q e)))

    by_frame : (o : Option (List ℕ)) → is_small_frame o ≡ true → option_and_then (λ bytes. asked_in (read_request bytes)) o ≡ Some r → AllByRecursion IsShort (contents_of r)
    by_frame None s h = absurd (cc)
    by_frame (Some bytes) s h = by_reading bytes (read_request bytes) refl (leb-true (length bytes) max_frame s) h

abbrev CommitLeads : (Tree → Type 0) → Option Commit → Type 0
CommitLeads P None = ⊤
CommitLeads P (Some x) = P x.tree

of_single : (P : Tree → Type 0) (o : Outcome) → Leads P o → CommitLeads P (commit_single o)
of_single P (Refused code) lead = tt
of_single P (Done r u g) lead = lead

of_single_with_stat : (P : Tree → Type 0) (x : Stat) (o : Outcome) → Leads P o → CommitLeads P (commit_with_stat x o)
of_single_with_stat P x (Refused code) lead = tt
of_single_with_stat P x (Done r u g) lead = lead

module _ (opened : Sessions) (limit : ℕ) (session first z : ℤ) (now : ℕ) (begun : first ≤ℤ z) (acts : Acts opened limit session) (t : Tree) (st : Stands opened first z t) where
  of_several : (o : Several) → SeveralLead opened limit session first z now begun acts o → CommitLeads (Stands opened first z) (commit_several o)
  of_several (Denied code) lead = tt
  of_several (Codes row) lead = tt
  of_several (AllDone rs u g) lead = lead

  commit-leads : (r : Request) → AllByRecursion IsShort (contents_of r) → CommitLeads (Stands opened first z) (commit t limit session r z now)
  unfolding commit
  commit-leads (req.Create p d a f) small = of_single (Stands opened first z) _ (single-leads opened limit session first z now begun acts t (part.Create p d a f) st small)
  commit-leads (req.Create2 p d a f) small = of_single_with_stat (Stands opened first z) _ _ (single-leads opened limit session first z now begun acts t (part.Create p d a f) st small)
  commit-leads (req.Delete p v) small = of_single (Stands opened first z) _ (single-leads opened limit session first z now begun acts t (part.Delete p v) st tt)
  commit-leads (req.SetData p d v) small = of_single (Stands opened first z) _ (single-leads opened limit session first z now begun acts t (part.SetData p d v) st small)
  commit-leads (req.Multi parts) small = of_several _ (several-lead opened limit session first z now begun acts t parts st small)
  commit-leads r small = tt

fine-asked : (first : ℤ) (before : List TranscriptLine) (s : State) (z : ℤ) (c i now : ℕ) → Fine first s → Next first s z → may_update before s z (Asked c i now) ≡ true → Fine first (updated before s z (Asked c i now))
unfolding may_update updated
fine-asked first before s z c i now fine n h = by_session (attached_session c s) refl
  where
    small : is_small_frame (frame c i before) ≡ true
    small =
        let a = and_parts _ (is_some (asked_commit before s z c i now)) h in
        let b = and_parts _ (is_within_parts (request c i before)) a.0 in
        (and_parts _ (is_small_frame (frame c i before)) b.0).1

    done : (o : Option Commit) → CommitLeads (Stands s.sessions first z) o → Fine first (committed s z o)
    done None lead = fine
    done (Some x) lead = fine-advanced first s z x.tree x.triggers s.sessions n lead n.sessions

    by_request : (e : ℤ × Session) (o : Option Request) → attached_session c s ≡ Some e → request c i before ≡ o
        → Fine first (committed s z (elim o [ None ↦ None | Some r ↦ commit s.tree (limit_of e.1) e.0 r z now ]))
    by_request e None at is = fine
    by_request e (Some r) at is =
        done (commit s.tree (limit_of e.1) e.0 r z now) (commit-leads s.sessions (limit_of e.1) e.0 first z now n.begun (attached_session-acts first c s e fine at) s.tree n.stands r (small_data before c i r small is))

    by_session : (o : Option (ℤ × Session)) → attached_session c s ≡ o
        → Fine first (committed s z (elim o [ None ↦ None | Some e ↦ elim (request c i before) [ None ↦ None | Some r ↦ commit s.tree (limit_of e.1) e.0 r z now ] ]))
    by_session None at = fine
    by_session (Some e) at = by_request e (request c i before) at refl

-- ---- lines

fine-updated : (first : ℤ) (before : List TranscriptLine) (s : State) (z : ℤ) (kind : UpdateKind) → Fine first s → 1 ≤ s.updates → may_update before s z kind ≡ true → is_next_zxid s z ≡ true → Fine first (updated before s z kind)
fine-updated first before s z (Begin now) fine some h up = absurd (not-begin before s z now some h)
fine-updated first before s z (NewSession id c) fine some h up = fine-opened first before s z id c (next first s z fine some up) h
fine-updated first before s z (Attach id c) fine some h up = fine-attached first before s z id c (next first s z fine some up)
fine-updated first before s z (Asked c i now) fine some h up = fine-asked first before s z c i now fine (next first s z fine some up) h
fine-updated first before s z (Closed id c i) fine some h up = fine-closed first before s z id c i (next first s z fine some up) h
fine-updated first before s z (Reaped id) fine some h up = fine-reaped first before s z id (next first s z fine some up) h

fine-change : (first : ℤ) (before : List TranscriptLine) (s : State) (l : TranscriptLine) → Fine first s → 1 ≤ s.updates → is_legal_line before s l ≡ true → Fine first (change before s l)
fine-change first before s (Update u) fine some h = let both = and_parts (may_update before s u.zxid u.kind) (is_next_zxid s u.zxid) h in fine-updated first before s u.zxid u.kind fine some both.0 both.1
fine-change first before s (Lapse revision id) fine some h = fine-lapsed first s id fine
fine-change first before s (Open c proxy id passwd layout) fine some h = fine
fine-change first before s (FrameLine c i z bytes) fine some h = fine
fine-change first before s (Send c bytes) fine some h = fine
fine-change first before s (Close c end) fine some h = fine

-- ---- histories, by the zxid of their first update

abbrev FineAfter : List TranscriptLine → State → Type 0
FineAfter lines s = (u : UpdateRec) × (first_shown update_in lines ≡ Some u) × Fine u.zxid s

fine-first : (before : List TranscriptLine) (z : ℤ) (now : ℕ) → list_all is_still before ≡ true → z ≤ℤ max_long → FineAfter (before ++ begin_line z now ∷ []) (updated before nothing_yet z (Begin now))
fine-first before z now still most = (record { zxid = z; kind = Begin now }, first_update-begins before z now still, fine-begin z z now before nothing_yet (omega (arith, ints)) most)

fine-next : (before : List TranscriptLine) (s : State) (l : TranscriptLine) → FineAfter before s → 1 ≤ s.updates → is_legal_line before s l ≡ true → FineAfter (before ++ l ∷ []) (change before s l)
fine-next before s l was some h = (was.0, first_shown-push update_in before (l ∷ []) was.0 was.1, fine-change was.0.zxid before s l was.2 some h)

legal-fine : (lines : List TranscriptLine) → is_legal lines ≡ true → FineAfter lines (after lines)
legal-fine lines h = legal-induct FineAfter fine-first fine-next lines h

-- ---- the laws

pub legal-sound : (lines : List TranscriptLine) → is_legal lines ≡ true → IsSound (after lines)
legal-sound lines h = (legal-fine lines h).2.sound

pub legal-bounded : (lines : List TranscriptLine) (u : UpdateRec) → is_legal lines ≡ true → first_shown update_in lines ≡ Some u → IsBounded u.zxid (after lines)
legal-bounded lines u h is =
    let all = legal-fine lines h in
    let same : all.0 ≡ u = some_is (sym all.1 ∙ is) in
    subst (λ (v : UpdateRec). IsBounded v.zxid (after lines)) same all.2.bounded
