-- The state after a legal history counts its updates.
use Rattle.std.proofs.Common.{◌≡◌, ℕ, ◌+◌, ◌≤◌, List, [], ◌∷◌, ◌++◌, length, Option, Some, None, refl, sym, ap, ◌∙◌, arith, true, ℤ}
use Rattle.std.specs.Prelude.{◌≤ℤ◌, is_some}
use Rattle.std.specs.List.{list_all}
use Rattle.std.proofs.lemmas.Bool.{and_parts}
use Rattle.std.proofs.lemmas.List.{length-append}
use Rattle.std.proofs.lemmas.List.Elements.{filter_map-append}
use Rattle.zk_model.specs.Limits.{max_long}
use Rattle.zk_service.specs.declared.update.UpdateKind.{UpdateKind}
use Rattle.zk_service.specs.declared.update.UpdateKind.TheVariants.{Begin, Session as NewSession, Attach, Asked, Closed, Reaped}
use Rattle.zk_transcript.specs.declared.transcript.TranscriptLine.{TranscriptLine}
use Rattle.zk_transcript.specs.declared.transcript.TranscriptLine.TheVariants.{Update, Open, Frame as FrameLine, Send, Lapse, Close}
use Rattle.zk_service.specs.States.{State, Session, Commit, nothing_yet, session_at, committed, lapsed_in}
use Rattle.zk_transcript.specs.History.{asked_commit, updated, change, after, update_in, updates}
use Rattle.zk_transcript.specs.Legal.{may_update, is_next_zxid, is_legal, is_legal_line}
use Rattle.zk_transcript.proofs.Histories.{not-begin, is_still, begin_line, legal-induct}

abbrev Counts : List TranscriptLine → State → Type 0
Counts lines s = s.updates ≡ length (updates lines)

updates-push : (lines : List TranscriptLine) (l : TranscriptLine) → length (updates (lines ++ l ∷ [])) ≡ length (updates lines) + length (updates (l ∷ []))
updates-push lines l = ap length (filter_map-append update_in lines (l ∷ [])) ∙ length-append (updates lines) (updates (l ∷ []))

no_updates : (before : List TranscriptLine) → list_all is_still before ≡ true → length (updates before) ≡ 0
no_updates [] still = refl
no_updates (Update u ∷ before) still = absurd (cc)
no_updates (Lapse revision id ∷ before) still = absurd (cc)
no_updates (Open c proxy id passwd layout ∷ before) still = no_updates before still
no_updates (FrameLine c i z bytes ∷ before) still = no_updates before still
no_updates (Send c bytes ∷ before) still = no_updates before still
no_updates (Close c end ∷ before) still = no_updates before still

counts-first : (before : List TranscriptLine) (z : ℤ) (now : ℕ) → list_all is_still before ≡ true → z ≤ℤ max_long → Counts (before ++ begin_line z now ∷ []) (updated before nothing_yet z (Begin now))
unfolding updated
counts-first before z now still most = let none = no_updates before still in let all = updates-push before (begin_line z now) in omega (arith, none, all)

committed-counts : (s : State) (z : ℤ) (o : Option Commit) → is_some o ≡ true → (committed s z o).updates ≡ s.updates + 1
committed-counts s z None h = absurd (cc)
committed-counts s z (Some x) h = refl

updated-counts : (before : List TranscriptLine) (s : State) (z : ℤ) (kind : UpdateKind) → 1 ≤ s.updates → may_update before s z kind ≡ true → (updated before s z kind).updates ≡ s.updates + 1
unfolding may_update updated
updated-counts before s z (Begin now) some h = absurd (not-begin before s z now some h)
updated-counts before s z (NewSession id c) some h = refl
updated-counts before s z (Attach id c) some h = refl
updated-counts before s z (Asked c i now) some h = committed-counts s z (asked_commit before s z c i now) (and_parts _ (is_some (asked_commit before s z c i now)) h).1
updated-counts before s z (Closed id c i) some h = refl
updated-counts before s z (Reaped id) some h = refl

lapsed-counts : (s : State) (id : ℤ) (o : Option Session) → (lapsed_in s id o).updates ≡ s.updates
lapsed-counts s id None = refl
lapsed-counts s id (Some x) = refl

change-counts : (before : List TranscriptLine) (s : State) (l : TranscriptLine) → 1 ≤ s.updates → is_legal_line before s l ≡ true → (change before s l).updates ≡ s.updates + length (updates (l ∷ []))
change-counts before s (Update u) some h = updated-counts before s u.zxid u.kind some (and_parts (may_update before s u.zxid u.kind) (is_next_zxid s u.zxid) h).0
change-counts before s (Lapse revision id) some h = omega (arith, lapsed-counts s id (session_at id s))
change-counts before s (Open c proxy id passwd layout) some h = omega arith
change-counts before s (FrameLine c i z bytes) some h = omega arith
change-counts before s (Send c bytes) some h = omega arith
change-counts before s (Close c end) some h = omega arith

counts-next : (before : List TranscriptLine) (s : State) (l : TranscriptLine) → Counts before s → 1 ≤ s.updates → is_legal_line before s l ≡ true → Counts (before ++ l ∷ []) (change before s l)
counts-next before s l was some h = change-counts before s l some h ∙ ap (λ n. n + length (updates (l ∷ []))) was ∙ sym (updates-push before l)

pub legal-counts : (lines : List TranscriptLine) → is_legal lines ≡ true → (after lines).updates ≡ length (updates lines)
legal-counts lines h = legal-induct Counts counts-first counts-next lines h
