-- Records that are lists: the head's, and a session's.
use Rattle.std.proofs.Common.{◌≡◌, ℕ, ◌^◌, ◌<◌, List, [], ◌∷◌, ◌++◌, length, drop, Some, None, refl, sym, ap, ◌∙◌, subst, arith}
use Rattle.std.specs.Prelude.{get_or}
use Rattle.std.specs.List.{All, flat_map}
use Rattle.std.specs.List.Sorted.{IsStrictlySortedBy}
use Rattle.std.specs.Ordering.{nat_cmp}
use Rattle.std.specs.Cmp.Lexicographic.{slice_cmp}
use Rattle.std.proofs.lemmas.List.{append-nil, drop_all}
use Rattle.zk_model.specs.declared.node.Trigger.{Trigger}
use Rattle.zk_jute.specs.JuteWriting.{count_bytes, string_bytes}
use Rattle.zx_base.specs.Maps.{Bytes}
use Rattle.zn_layout.specs.declared.record.HeadRec.{HeadRec}
use Rattle.zn_layout.specs.declared.record.SessionRec.{SessionRec}
use Rattle.zk_model.specs.declared.layout.Layout.{Layout}
use Rattle.zk_model.specs.declared.layout.Layout.TheVariants.{One, Two}
use Rattle.zn_layout.specs.Records.{head_value, layout_byte, session_value, trigger_bytes, IsHeadRec, IsSessionRec}
use Rattle.zn_layout.specs.Reading.{IsNoValue, IsValueOf, head_bytes, IsHeadWithin}
use Rattle.zn_layout.specs.ReadingSteps.{IsValidPath, IsValidTrigger, IsCounted, IsNotCounted, TakesItems}
use Rattle.zn_layout.proofs.Lists.{tails_same, counts_same, paths_same, triggers_same, rest_same, items_same}

-- the items of a record, and its value by them
pub record IsListRecord {R A : Type 0} (first : R → ℕ) (items : R → List A) (value_of : R → Bytes) (IsWithin : R → Type 0) (each : A → Bytes) (IsItem : A → Type 0) : Type 0 where
  pub same : (x y : A) (r s : Bytes) → IsItem x → IsItem y → each x ++ r ≡ each y ++ s → (x ≡ y) × (r ≡ s)
  pub is : (r : R) → value_of r ≡ first r ∷ (count_bytes (length (items r)) ++ flat_map each (items r))
  pub count : (r : R) → IsWithin r → length (items r) < 2 ^ 31
  pub valid : (r : R) → IsWithin r → All IsItem (items r)

module _ {R A : Type 0} (first : R → ℕ) (items : R → List A) (value_of : R → Bytes) (IsWithin : R → Type 0) (each : A → Bytes) (IsItem : A → Type 0) (l : IsListRecord first items value_of IsWithin each IsItem) where
  -- what begins otherwise than each record
  pub other_first : (v : Bytes) → ((r : R) (rest : Bytes) → v ≡ first r ∷ rest → ⊥) → IsNoValue value_of IsWithin v
  other_first v none r is e = none r (count_bytes (length (items r)) ++ flat_map each (items r)) (e ∙ l.is r)

  pub uncounted : (b : ℕ) (v numbers : Bytes) → v ≡ b ∷ numbers → IsNotCounted numbers → IsNoValue value_of IsWithin v
  uncounted b v numbers begins none r is e = none (length (items r)) (flat_map each (items r)) (l.count r is) (tails_same (sym begins ∙ e ∙ l.is r))

  -- the items after a count, and what is left
  items_are : (b : ℕ) (v numbers left : Bytes) (n : ℕ) (r : R) → v ≡ b ∷ numbers → IsCounted numbers n left → IsWithin r → v ≡ value_of r → (n ≡ length (items r)) × (left ≡ flat_map each (items r))
  items_are b v numbers left n r begins c is e = counts_same n (length (items r)) left (flat_map each (items r)) c.0 (l.count r is) (sym c.1 ∙ tails_same (sym begins ∙ e ∙ l.is r))

  pub untaken : (b : ℕ) (v numbers left new : Bytes) (n : ℕ) → v ≡ b ∷ numbers → IsCounted numbers n left → TakesItems each IsItem n left new None → IsNoValue value_of IsWithin v
  untaken b v numbers left new n begins c none r is e =
      let both = items_are b v numbers left n r begins c is e in
      none (items r) [] (sym both.0) (l.valid r is) (both.1 ∙ sym (append-nil (flat_map each (items r))))

  pub trailing : (b : ℕ) (v numbers left new : Bytes) (n : ℕ) (xs : List A) → v ≡ b ∷ numbers → IsCounted numbers n left → TakesItems each IsItem n left new (Some xs) → (new ≡ [] → ⊥) → IsNoValue value_of IsWithin v
  trailing b v numbers left new n xs begins c taken more r is e =
      let both = items_are b v numbers left n r begins c is e in
      let long : length xs ≡ length (items r) = taken.0 ∙ both.0 in
      let rest : new ≡ flat_map each (drop (length xs) (items r)) ++ [] =
      rest_same each IsItem l.same xs (items r) new [] taken.1 (l.valid r is) (omega arith) (sym taken.2 ∙ both.1 ∙ sym (append-nil (flat_map each (items r)))) in
      more (rest ∙ append-nil _ ∙ ap (flat_map each) (drop_all (length xs) (items r) (omega arith)))

  -- a record whose items were taken to the end has this value, and none with other items has it
  pub whole : (v numbers left new : Bytes) (n : ℕ) (r : R) → v ≡ first r ∷ numbers → IsCounted numbers n left → TakesItems each IsItem n left new (Some (items r)) → new ≡ [] → v ≡ value_of r
  whole v numbers left new n r begins c taken done =
      let all : left ≡ flat_map each (items r) = taken.2 ∙ ap (λ (b : Bytes). flat_map each (items r) ++ b) done ∙ append-nil (flat_map each (items r)) in
      begins ∙ ap (λ (b : Bytes). first r ∷ b) (c.1 ∙ (λ i. count_bytes (sym taken.0 i) ++ all i)) ∙ sym (l.is r)

  -- no two records have the same value, by their items
  pub one_list : (r q : R) → IsWithin r → IsWithin q → value_of r ≡ value_of q → items r ≡ items q
  one_list r q f g e =
      let both = counts_same (length (items r)) (length (items q)) (flat_map each (items r)) (flat_map each (items q)) (l.count r f) (l.count q g) (tails_same (sym (l.is r) ∙ e ∙ l.is q)) in
      items_same each IsItem l.same (items r) (items q) [] [] (l.valid r f) (l.valid q g) both.0 (ap (λ (b : Bytes). b ++ []) both.1)

  pub other : (b : ℕ) (v numbers left new : Bytes) (n : ℕ) (xs : List A) → v ≡ b ∷ numbers → IsCounted numbers n left → TakesItems each IsItem n left new (Some xs) → new ≡ [] → (r : R) → IsWithin r → v ≡ value_of r → xs ≡ items r
  other b v numbers left new n xs begins c taken done r is e =
      let both = items_are b v numbers left n r begins c is e in
      items_same each IsItem l.same xs (items r) [] [] taken.1 (l.valid r is) (taken.0 ∙ both.0)
      (ap (λ (b : Bytes). flat_map each xs ++ b) (sym done) ∙ sym taken.2 ∙ both.1 ∙ sym (append-nil (flat_map each (items r))))

-- ---- the head

abbrev pub triggers_of : HeadRec → List Trigger
triggers_of r = r.triggers

abbrev pub one : HeadRec → ℕ
one r = 1

head_value-is : (r : HeadRec) → head_bytes r ≡ 1 ∷ (count_bytes (length r.triggers) ++ flat_map trigger_bytes r.triggers)
unfolding head_value
head_value-is r = refl

pub heads : IsListRecord one triggers_of head_bytes IsHeadWithin trigger_bytes IsValidTrigger
heads = record { same = triggers_same; is = head_value-is; count = λ r is. is.count; valid = λ r is. is.valid }

pub head-read : (v numbers left new : Bytes) (n : ℕ) (ts : List Trigger) → v ≡ 1 ∷ numbers → IsCounted numbers n left → TakesItems trigger_bytes IsValidTrigger n left new (Some ts) → new ≡ [] → IsValueOf head_bytes IsHeadWithin v (record { triggers = ts })
head-read v numbers left new n ts begins c taken done = (
  record { count = subst (λ (k : ℕ). k < 2 ^ 31) (sym taken.0) c.0; valid = taken.1 },
  whole one triggers_of head_bytes IsHeadWithin trigger_bytes IsValidTrigger heads v numbers left new n (record { triggers = ts }) begins c taken done,
)

pub head_value-injective : (ts us : List Trigger) → IsHeadRec ts → IsHeadRec us → head_value ts ≡ head_value us → ts ≡ us
head_value-injective ts us = one_list one triggers_of head_bytes IsHeadWithin trigger_bytes IsValidTrigger heads (record { triggers = ts }) (record { triggers = us })

-- ---- the nodes of a session

abbrev pub paths_of : SessionRec → List Bytes
paths_of r = r.paths

abbrev pub byte_of : SessionRec → ℕ
byte_of r = layout_byte r.layout

session_value-is : (r : SessionRec) → session_value r ≡ layout_byte r.layout ∷ (count_bytes (length r.paths) ++ flat_map string_bytes r.paths)
unfolding session_value
session_value-is r = refl

pub sessions : IsListRecord byte_of paths_of session_value IsSessionRec string_bytes IsValidPath
sessions = record { same = paths_same; is = session_value-is; count = λ r is. is.count; valid = λ r is. is.valid }

pub session-read : (layout : Layout) (v numbers left new : Bytes) (n : ℕ) (ps : List Bytes) → v ≡ layout_byte layout ∷ numbers → IsCounted numbers n left → TakesItems string_bytes IsValidPath n left new (Some ps) → new ≡ [] → IsStrictlySortedBy (slice_cmp nat_cmp) ps → IsValueOf session_value IsSessionRec v (record { layout = layout; paths = ps })
session-read layout v numbers left new n ps begins c taken done rising = (
  record { count = subst (λ (k : ℕ). k < 2 ^ 31) (sym taken.0) c.0; valid = taken.1; rising = rising },
  whole byte_of paths_of session_value IsSessionRec string_bytes IsValidPath sessions v numbers left new n (record { layout = layout; paths = ps }) begins c taken done,
)

-- paths that don't rise are no session's
pub session-unsorted : (b : ℕ) (v numbers left new : Bytes) (n : ℕ) (ps : List Bytes) → v ≡ b ∷ numbers → IsCounted numbers n left → TakesItems string_bytes IsValidPath n left new (Some ps) → new ≡ [] → (IsStrictlySortedBy (slice_cmp nat_cmp) ps → ⊥) → IsNoValue session_value IsSessionRec v
session-unsorted b v numbers left new n ps begins c taken done not r is e =
    not (subst (λ (qs : List Bytes). IsStrictlySortedBy (slice_cmp nat_cmp) qs) (sym (other byte_of paths_of session_value IsSessionRec string_bytes IsValidPath sessions b v numbers left new n ps begins c taken done r is e)) is.rising)

-- the first byte tells the layout
layouts_same : (l m : Layout) → layout_byte l ≡ layout_byte m → l ≡ m
layouts_same One One e = refl
layouts_same One Two e = absurd cc
layouts_same Two One e = absurd cc
layouts_same Two Two e = refl

heads_same : {x y : ℕ} {r s : Bytes} → x ∷ r ≡ y ∷ s → x ≡ y
heads_same e = ap (λ (l : Bytes). get_or l 0 0) e

pub session_value-injective : (r q : SessionRec) → IsSessionRec r → IsSessionRec q → session_value r ≡ session_value q → r ≡ q
session_value-injective r q f g e =
    let layout = layouts_same r.layout q.layout (heads_same (sym (session_value-is r) ∙ e ∙ session_value-is q)) in
    let paths = one_list byte_of paths_of session_value IsSessionRec string_bytes IsValidPath sessions r q f g e in
    λ i. record { layout = layout i; paths = paths i }
