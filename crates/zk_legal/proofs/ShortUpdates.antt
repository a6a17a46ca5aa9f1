-- What each update of a run shows is short: the paths of its triggers, and the reply to its request.
use Rattle.std.proofs.Common.{◌≡◌, ℕ, zero, suc, ℤ, ◌+◌, ◌≤◌, Bool, true, ◌&&◌, List, [], ◌∷◌, ◌++◌, length, take, drop, Option, Some, None, refl, sym, ap, ◌∙◌, subst, inl, inr, arith}
use Rattle.std.specs.Prelude.{is_some, flat_map, if◌then◌else◌, nat_lt, slice_get}
use Rattle.std.specs.List.{AllByRecursion}
use Rattle.std.specs.Ordering.{nat_cmp, is_eq}
use Rattle.std.specs.Cmp.Lexicographic.{slice_cmp, nat_list_cmp_total}
use Rattle.std.proofs.lemmas.Bool.{and_parts, cases_Bool}
use Rattle.std.proofs.lemmas.Cmp.{tied_itself}
use Rattle.std.specs.FinMap.{get, get-empty, contains_key-keys}
use Rattle.zx_base.specs.Maps.{Bytes}
use Rattle.zx_base.proofs.Options.{some_none}
use Rattle.zk_model.specs.Limits.{max_path}
use Rattle.zk_model.specs.declared.node.Node.{Node}
use Rattle.zk_model.specs.declared.request.Request.{Request}
use Rattle.zk_model.specs.Paths.{is_path}
use Rattle.zk_model.specs.Single.{removal}
use Rattle.zk_model.specs.Znodes.{Tree, owned, owned_by}
use Rattle.zk_jute.proofs.Lists.{both_of}
use Rattle.zk_service.specs.declared.update.UpdateRec.{UpdateRec}
use Rattle.zk_service.specs.declared.update.UpdateKind.{UpdateKind}
use Rattle.zk_service.specs.declared.update.UpdateKind.TheVariants.{Begin, Session as NewSession, Attach, Asked, Closed, Reaped}
use Rattle.zk_transcript.specs.declared.transcript.TranscriptLine.{TranscriptLine}
use Rattle.zk_transcript.specs.declared.transcript.TranscriptLine.TheVariants.{Update, Open, Frame as FrameLine, Send, Lapse, Close}
use Rattle.zk_service.specs.States.{Session, State, Commit, attached_session, commit, committed, limit_of, nothing_yet, session_ended}
use Rattle.zk_transcript.specs.History.{after, asked_commit, first_shown, frame, request, state_at, update_in, updated}
use Rattle.zk_transcript.specs.Legal.{begins, is_legal, is_live, is_next_zxid, is_small_frame, is_within_parts, may_update}
use Rattle.zk_transcript.proofs.Appending.{after-push}
use Rattle.zk_service.proofs.Owned.{get-owned_as, if_owned}
use Rattle.zk_transcript.proofs.Prefixes.{is_legal-begins}
use Rattle.zk_transcript.proofs.SoundHistories.{legal-bounded}
use Rattle.zk_legal.specs.Faults.{IsRunTo, has_event, history_fault, is_history_line, or_empty}
use Rattle.zk_legal.proofs.Fitting.{line-holds, run-before, uneventful}
use Rattle.zk_legal.proofs.NoFault.{history_fault-none, legal-line}
use Rattle.zk_legal.specs.Short.{AreShort, IsShortBody}
use Rattle.zk_model.specs.Watches.{trigger_path}
use Rattle.zk_legal.proofs.ShortPaths.{CommitGives, commit-gives, removal-short}
use Rattle.zx_base.proofs.Booleans.{or-second, or-first}
use Rattle.zx_base.proofs.Lists.{has}

-- ---- the paths of a run's tree

begins-shows : (ls : List TranscriptLine) → begins ls ≡ true → (u : UpdateRec) × (first_shown update_in ls ≡ Some u)
begins-shows [] h = absurd (cc)
begins-shows (Update u ∷ ls) h = (u, refl)
begins-shows (Lapse revision id ∷ ls) h = absurd (cc)
begins-shows (Open c p id pw layout ∷ ls) h = begins-shows ls h
begins-shows (FrameLine c i z bytes ∷ ls) h = begins-shows ls h
begins-shows (Send c bytes ∷ ls) h = begins-shows ls h
begins-shows (Close c end ∷ ls) h = begins-shows ls h

abbrev HasPaths : Tree → Type 0
HasPaths t = (p : Bytes) (n : Node) → get t p ≡ Some n → is_path p ≡ true

legal-paths : (lines : List TranscriptLine) → is_legal lines ≡ true → HasPaths (after lines).tree
legal-paths lines legal p n there = let first = begins-shows lines (is_legal-begins lines legal) in ((legal-bounded lines first.0 legal first.1).nodes p n there).valid

after-paths : (before : List TranscriptLine) (s : State) → IsRunTo before s → HasPaths (after before).tree
unfolding history_fault after
after-paths before s run = elim (cases_Bool (has_event before)) [
  | inl event ↦
      let faultless : history_fault before ≡ None = ap (or_empty before) run.faultless ∙ ap (λ (holds : Bool). if holds then None else Some (length before + 1)) event in
      legal-paths before (history_fault-none before faultless)
  | inr still ↦ subst (λ (s : State). HasPaths s.tree) (sym (uneventful [] nothing_yet before still)) (λ p n there. absurd (some_none (sym there ∙ get-empty (slice_cmp nat_cmp) p)))
]

run-paths : (before : List TranscriptLine) (s : State) → IsRunTo before s → HasPaths s.tree
run-paths before s run = subst (λ (s : State). HasPaths s.tree) (sym run.reached) (after-paths before s run)

-- ---- the nodes of a session

owned-path : (t : Tree) (id : ℤ) (p : Bytes) → HasPaths t → has (owned t id) p ≡ true → is_path p ≡ true
unfolding has
owned-path t id p paths is = by_node (get t p) refl
  where
    by_node : (o : Option Node) → get t p ≡ o → is_path p ≡ true
    by_node (Some n) there = paths p n there
    by_node None none =
        let found : is_some (if_owned id None) ≡ true = sym (ap is_some (get-owned_as t id p None none)) ∙ contains_key-keys (owned_by t id) p ∙ is in
        absurd (cc)

owned-paths : (t : Tree) (id : ℤ) (ps : List Bytes) → HasPaths t → ((p : Bytes) → has ps p ≡ true → has (owned t id) p ≡ true) → AllByRecursion (λ p. is_path p ≡ true) ps
unfolding has
owned-paths t id [] paths all = tt
owned-paths t id (p ∷ ps) paths all =
    (owned-path t id p paths (all p (or-first _ _ (ap is_eq (tied_itself nat_list_cmp_total p)))), owned-paths t id ps paths (λ q is. all q (or-second _ _ is)))

removals-short : (ps : List Bytes) → AllByRecursion (λ p. is_path p ≡ true) ps → AreShort (flat_map removal ps)
removals-short [] valid = tt
removals-short (p ∷ ps) valid = both_of (λ g. length (trigger_path g) ≤ max_path) (removal p) (flat_map removal ps) (removal-short p valid.0) (removals-short ps valid.1)

ended-short : (before : List TranscriptLine) (s : State) (z id : ℤ) → IsRunTo before s → AreShort (session_ended s z id).triggers
ended-short before s z id run = removals-short (owned s.tree id) (owned-paths s.tree id (owned s.tree id) (run-paths before s run) (λ p is. is))

-- ---- updates

asked-gives : (before : List TranscriptLine) (s : State) (z : ℤ) (c i now : ℕ) → is_within_parts (request c i before) ≡ true → CommitGives (asked_commit before s z c i now)
asked-gives before s z c i now few = by_session (attached_session c s)
  where
    by_request : (e : ℤ × Session) (o : Option Request) → is_within_parts o ≡ true → CommitGives (elim o [ None ↦ None | Some r ↦ commit s.tree (limit_of e.1) e.0 r z now ])
    by_request e None few = tt
    by_request e (Some r) few = commit-gives (limit_of e.1) e.0 z now s.tree r few

    by_session : (o : Option (ℤ × Session)) → CommitGives (elim o [ None ↦ None | Some e ↦ elim (request c i before) [ None ↦ None | Some r ↦ commit s.tree (limit_of e.1) e.0 r z now ] ])
    by_session None = tt
    by_session (Some e) = by_request e (request c i before) few

module _ (before : List TranscriptLine) (s : State) (z : ℤ) (c i now : ℕ) (may : may_update before s z (Asked c i now) ≡ true) where
  done : is_some (asked_commit before s z c i now) ≡ true
  unfolding may_update
  done = (and_parts _ (is_some (asked_commit before s z c i now)) may).1

  pub asked-short : CommitGives (asked_commit before s z c i now)
  unfolding may_update
  asked-short =
      let a = and_parts _ (is_some (asked_commit before s z c i now)) may in
      asked-gives before s z c i now (and_parts (is_live (attached_session c s) && nat_lt 0 i && is_small_frame (frame c i before)) (is_within_parts (request c i before)) a.0).1

  committed-short : AreShort (committed s z (asked_commit before s z c i now)).triggers
  committed-short = by_commit (asked_commit before s z c i now) done asked-short
    where
      by_commit : (o : Option Commit) → is_some o ≡ true → CommitGives o → AreShort (committed s z o).triggers
      by_commit None some gives = absurd (cc)
      by_commit (Some x) some gives = gives.1

updated-short : (before : List TranscriptLine) (s : State) (z : ℤ) (kind : UpdateKind) → IsRunTo before s → may_update before s z kind ≡ true → AreShort (updated before s z kind).triggers
unfolding updated
updated-short before s z (Begin now) run may = tt
updated-short before s z (NewSession id c) run may = tt
updated-short before s z (Attach id c) run may = tt
updated-short before s z (Asked c i now) run may = committed-short before s z c i now may
updated-short before s z (Closed id c i) run may = ended-short before s z id run
updated-short before s z (Reaped id) run may = ended-short before s z id run

-- ---- the line at a place

at-split : (ls : List TranscriptLine) (k : ℕ) (l : TranscriptLine) → slice_get ls k ≡ Some l → ls ≡ take k ls ++ l ∷ drop (suc k) ls
at-split [] k l at = absurd (cc)
at-split (x ∷ ls) zero l at = cc
at-split (x ∷ ls) (suc k) l at = ap (λ (rest : List TranscriptLine). x ∷ rest) (at-split ls k l at)

at-more : (ls : List TranscriptLine) (k : ℕ) (l : TranscriptLine) → slice_get ls k ≡ Some l → take (suc k) ls ≡ take k ls ++ l ∷ []
at-more [] k l at = absurd (cc)
at-more (x ∷ ls) zero l at = cc
at-more (x ∷ ls) (suc k) l at = ap (λ (rest : List TranscriptLine). x ∷ rest) (at-more ls k l at)

module _ (lines : List TranscriptLine) (k : ℕ) (u : UpdateRec) (none : history_fault lines ≡ None) (at : slice_get lines k ≡ Some (Update u)) where
  run-at : IsRunTo (take k lines) (state_at lines k)
  run-at = run-before lines (take k lines) (Update u) (drop (suc k) lines) none (at-split lines k (Update u) at)

  may-at : may_update (take k lines) (state_at lines k) u.zxid u.kind ≡ true
  may-at =
      let holds : is_history_line (take k lines) (state_at lines k) (Update u) ≡ true = line-holds lines (take k lines) (Update u) (drop (suc k) lines) none (at-split lines k (Update u) at) in
      (and_parts (may_update (take k lines) (state_at lines k) u.zxid u.kind) (is_next_zxid (state_at lines k) u.zxid) (legal-line (take k lines) (state_at lines k) (Update u) holds)).0

  pub triggers-short : AreShort (state_at lines (k + 1)).triggers
  triggers-short =
      let next : k + 1 ≡ suc k = omega arith in
      subst (λ (s : State). AreShort s.triggers) (sym (ap (state_at lines) next ∙ ap after (at-more lines k (Update u) at) ∙ after-push (take k lines) (Update u)))
      (updated-short (take k lines) (state_at lines k) u.zxid u.kind run-at may-at)

  commit-short : (c i now : ℕ) → u.kind ≡ Asked c i now → CommitGives (asked_commit (take k lines) (state_at lines k) u.zxid c i now)
  commit-short c i now is = asked-short (take k lines) (state_at lines k) u.zxid c i now (subst (λ (kind : UpdateKind). may_update (take k lines) (state_at lines k) u.zxid kind ≡ true) is may-at)

  pub response-short : (c i now : ℕ) (x : Commit) → u.kind ≡ Asked c i now → asked_commit (take k lines) (state_at lines k) u.zxid c i now ≡ Some x → IsShortBody x.response
  response-short c i now x is done = (subst CommitGives done (commit-short c i now is)).0
