-- A transaction is carried out: the store serves the lines that it gives.
use Rattle.std.proofs.Common.{◌≡◌, ℕ, ◌+◌, ◌≤◌, List, [], ◌∷◌, ◌++◌, length, refl, sym, ap, ◌∙◌, subst, arith, true, false, ℤ, pos, inl, inr}
use Rattle.std.specs.Prelude.{Option, Some, None, ◌⊎◌, ◌≤ℤ◌, ◌<ℤ◌, if◌then◌else◌}
use Rattle.std.specs.Ordering.{int_eq}
use Rattle.std.proofs.lemmas.Bool.Decides.{nat_tests}
use Rattle.std.proofs.lemmas.Int.{ints}
use Rattle.std.proofs.lemmas.List.{length-append}
use Rattle.ev_types.proofs.Bounds.{present-within}
use Rattle.ev_types.proofs.Grown.{earlier-grown}
use Rattle.ev_types.proofs.Transactions.{present-worked}
use Rattle.ev_types.specs.Ranges.{Keys}
use Rattle.ev_types.specs.Store.{Store, Change, acts_applied, grown, last_revision, mod_of, present, revision, store_at, worked}
use Rattle.ev_types.specs.declared.answer.Kv.{Kv}
use Rattle.ev_types.specs.declared.ask.TxnReq.{TxnReq}
use Rattle.zk_model.specs.Limits.{max_long}
use Rattle.zk_transcript.proofs.Appending.{after-push, is_legal-push, is_ordered-push}
use Rattle.zk_transcript.proofs.Histories.{next-above}
use Rattle.zk_service.specs.States.{State}
use Rattle.zk_transcript.specs.History.{after, state_at, updated}
use Rattle.zk_transcript.specs.Legal.{is_next_zxid, may_update}
use Rattle.zk_transcript.specs.declared.transcript.TranscriptLine.{TranscriptLine}
use Rattle.zk_transcript.specs.declared.transcript.TranscriptLine.TheVariants.{Update}
use Rattle.zk_service.specs.declared.update.UpdateKind.{UpdateKind}
use Rattle.zn_layout.specs.Keys.{HeadKey, key_bytes}
use Rattle.zn_layout.specs.StandsFor.{HeadMeans, StandsFor, at}
use Rattle.zp_script.specs.Worlds.{zxid_at}
use Rattle.zp_world_laws.proofs.Moments.{beyond, le-or-next, newer, older, reached}
use Rattle.zp_world_laws.specs.Serving.{Commits, StoreServes, kind_lines, moment_of, next_revision, update_lines}
use Rattle.zx_base.proofs.Booleans.{and-both as both-true}

-- ---- the present

-- the present keys stand for the state after all lines
pub stands-now : (s : Store) (lines : List TranscriptLine) → StoreServes s lines → StandsFor (present s) (after lines)
stands-now s lines w =
    let at_last = w.stands (length s.revisions) w.begun (omega arith) in
    subst (StandsFor (present s)) (w.settled (length s.revisions) (omega arith)) at_last

head-zxid : (o : Option Kv) (s : State) → HeadMeans o s → mod_of o ≡ s.zxid
head-zxid None s h = absurd h
head-zxid (Some kv) s h = h.zxid

pub head-at : (m : Keys) (s : State) → StandsFor m s → mod_of (at m HeadKey) ≡ s.zxid
head-at m s st = head-zxid (at m HeadKey) s st.head

head-within : (s : Store) (o : Option Kv) → ((kv : Kv) → o ≡ Some kv → kv.mod_revision ≤ℤ revision s) → mod_of o ≤ℤ revision s
head-within s None h = omega (arith, ints)
head-within s (Some kv) h = h kv refl

-- the last zxid is a revision of the store
pub zxid-within : (s : Store) (lines : List TranscriptLine) → StoreServes s lines → (after lines).zxid ≤ℤ revision s
zxid-within s lines w =
    subst (λ (z : ℤ). z ≤ℤ revision s) (head-at (present s) (after lines) (stands-now s lines w))
    (head-within s (at (present s) HeadKey) (λ kv e. present-within s (key_bytes HeadKey) kv e))

pub zxid-next : (s : Store) (lines : List TranscriptLine) → StoreServes s lines → (after lines).zxid <ℤ next_revision s
zxid-next s lines w = let le = zxid-within s lines w in omega (arith, ints, le)

-- ---- a commit

abbrev pub line_of : Store → UpdateKind → TranscriptLine
line_of s kind = Update (record { zxid = next_revision s; kind = kind })

pub record Committed (s u : Store) (lines : List TranscriptLine) (kind : UpdateKind) : Type 0 where
  pub line : update_lines s u (Some kind) ≡ line_of s kind ∷ []
  pub grown : length u.revisions ≡ length s.revisions + 1
  pub serves : StoreServes u (lines ++ line_of s kind ∷ [])

changes-or-not : (s : Store) (cs : List Change) → (grown s cs ≡ s) ⊎ (length (grown s cs).revisions ≡ length s.revisions + 1)
changes-or-not s [] = inl refl
changes-or-not s (c ∷ cs) = inr (length-append s.revisions _)

the-line : (a b : ℤ) (z : ℤ) (kind : UpdateKind) → b ≡ z → a <ℤ z → (if int_eq a b then [] else Update (record { zxid = b; kind = kind }) ∷ []) ≡ Update (record { zxid = z; kind = kind }) ∷ []
the-line a b z kind e lt =
    let differ : int_eq a z ≡ false = grind (arith, nat_tests, ints, lt) in
    rw (e, differ) refl

older-rises : (old new : ℤ) (s : Store) → old ≤ℤ revision s → new ≡ next_revision s → old ≡ new → ⊥
older-rises old new s le e same = omega (arith, ints, le, e, same)

module _ (s u : Store) (lines : List TranscriptLine) (kind : UpdateKind) (t : TxnReq) (w : StoreServes s lines) (c : Commits s lines kind t) (h : u ≡ grown s (worked s t.success).changes) where
  keys : present u ≡ acts_applied (next_revision s) (present s) t.success
  keys = ap present h ∙ present-worked s t.success

  stands : StandsFor (present u) (updated lines (after lines) (next_revision s) kind)
  stands = subst (λ m. StandsFor m (updated lines (after lines) (next_revision s) kind)) (sym keys) c.stands

  old_head : zxid_at s ≡ (after lines).zxid
  old_head = head-at (present s) (after lines) (stands-now s lines w)

  new_head : zxid_at u ≡ next_revision s
  new_head = head-at (present u) (updated lines (after lines) (next_revision s) kind) stands ∙ c.zxid

  longer : length u.revisions ≡ length s.revisions + 1
  longer = elim (changes-or-not s (worked s t.success).changes) [
    | inl same ↦ absurd (older-rises (zxid_at s) (zxid_at u) s (subst (λ (z : ℤ). z ≤ℤ revision s) (sym old_head) (zxid-within s lines w)) new_head (sym (ap zxid_at (h ∙ same))))
    | inr more ↦ ap (λ (v : Store). length v.revisions) h ∙ more
  ]

  the-stands : (r : ℕ) → 2 ≤ r → r ≤ length u.revisions → StandsFor (store_at u r) (state_at (lines ++ line_of s kind ∷ []) (moment_of (lines ++ line_of s kind ∷ []) (pos r)))
  the-stands r lo hi = elim (le-or-next r (length s.revisions) (omega (arith, hi, longer))) [
    | inl old ↦
        subst (λ m. StandsFor m (state_at (lines ++ line_of s kind ∷ []) (moment_of (lines ++ line_of s kind ∷ []) (pos r)))) (sym (ap (λ v. store_at v r) h ∙ earlier-grown s (worked s t.success).changes r old))
        (subst (StandsFor (store_at s r)) (sym (older lines (line_of s kind) r (beyond r (length s.revisions) old))) (w.stands r lo old))
    | inr new ↦
        subst (λ m. StandsFor m (state_at (lines ++ line_of s kind ∷ []) (moment_of (lines ++ line_of s kind ∷ []) (pos r)))) (ap (store_at u) (longer ∙ sym new))
        (subst (StandsFor (present u)) (sym (newer lines (line_of s kind) r (reached r (length s.revisions) (omega (arith, new))) ∙ after-push lines (line_of s kind))) stands)
  ]

  -- the guards hold: it is an update of this kind, the next in order, and the store serves the lines with its line
  pub commit-done : revision s <ℤ last_revision → Committed s u lines kind
  commit-done room =
      let most : next_revision s ≤ℤ max_long = omega (arith, ints, room) in
      record {
        line = the-line (zxid_at s) (zxid_at u) (next_revision s) kind new_head (subst (λ (z : ℤ). z <ℤ next_revision s) (sym old_head) (zxid-next s lines w));
        grown = longer;
        serves = record {
          legal = is_legal-push lines (line_of s kind) w.legal (both-true (may_update lines (after lines) (next_revision s) kind) (is_next_zxid (after lines) (next_revision s)) c.may (next-above (after lines) (next_revision s) (zxid-next s lines w) most));
          ordered = is_ordered-push lines (line_of s kind) w.ordered c.ordered;
          begun = omega (arith, w.begun, longer);
          stands = the-stands;
          settled = λ r le. newer lines (line_of s kind) r (reached r (length s.revisions) (omega (arith, le, longer)));
        };
      }

-- ---- the head did not change

pub no-line : (s u : Store) (kind : Option UpdateKind) → zxid_at u ≡ zxid_at s → update_lines s u kind ≡ []
no-line s u kind e = let same : int_eq (zxid_at s) (zxid_at u) ≡ true = grind (arith, nat_tests, ints, e) in ap (λ b. if b then [] else kind_lines u kind) same
