-- An entry of a store's update is the one that the world over this store has at its number.
use Rattle.ev_types.specs.Store.{Store}
use Rattle.ev_types.specs.declared.answer.Kv.{Kv}
use Rattle.std.proofs.Common.{List, ap, arith, inl, inr, length, pos, refl, subst, suc, sym, zero, ℕ, ℤ, ◌+◌, ◌-◌, ◌<◌, ◌∙◌, ◌≡◌, ◌≤◌, take, true}
use Rattle.std.proofs.Math.Seq.{take-length}
use Rattle.std.proofs.lemmas.Int.{ints}
use Rattle.std.proofs.lemmas.Option.{slice_get_cases, slice_get_within}
use Rattle.std.specs.Prelude.{None, Option, Some, slice_get, ◌+ℤ◌}
use Rattle.zk_least.proofs.Rising.{at-line, not-below, state_at-end, state_at-line}
use Rattle.zk_model.specs.declared.node.Trigger.{Trigger}
use Rattle.zk_service.specs.States.{Session, State, lapsed_in, session_at}
use Rattle.zk_transcript.specs.History.{after, change, state_at}
use Rattle.zk_transcript.specs.Legal.{is_legal}
use Rattle.zk_transcript.specs.declared.transcript.TranscriptLine.TheVariants.{Close, Frame as FrameLine, Lapse, Open, Send, Update}
use Rattle.zk_transcript.specs.declared.transcript.TranscriptLine.{TranscriptLine}
use Rattle.zn_layout.proofs.ListRecords.{head_value-injective}
use Rattle.zn_layout.specs.StandsFor.{HeadMeans, IsHead, at}
use Rattle.zn_layout.specs.declared.entry.Entry.{Entry}
use Rattle.zp_script.specs.Entries.{AreTriggersOf, entry_after}
use Rattle.zp_laws.proofs.Updates.{IsLast, last-update, same-count}
use Rattle.zp_laws.specs.Inputs.{IsEntryOfLines}
use Rattle.zp_lives.specs.Feeding.{IsEntryIn}
use Rattle.zp_world_laws.proofs.Arrivals.{nat-either}
use Rattle.zp_world_laws.specs.Entering.{AreEntries}
use Rattle.zp_world_laws.specs.Serving.{StoreServes, moment_of}

-- ---- two moments with one number of updates show the same triggers

lapse-triggers : (s : State) (id : ℤ) (o : Option Session) → (lapsed_in s id o).triggers ≡ s.triggers
lapse-triggers s id None = refl
lapse-triggers s id (Some x) = refl

one-still : (lines : List TranscriptLine) (m : ℕ) → is_legal lines ≡ true → (state_at lines (m + 1)).updates ≡ (state_at lines m).updates → (state_at lines (m + 1)).triggers ≡ (state_at lines m).triggers
one-still lines m h same = by (slice_get lines m) refl
  where
    line : (l : TranscriptLine) → slice_get lines m ≡ Some l → (change (take m lines) (state_at lines m) l).triggers ≡ (state_at lines m).triggers → (state_at lines (m + 1)).triggers ≡ (state_at lines m).triggers
    line l at e = ap (λ (s : State). s.triggers) (state_at-line lines m l at) ∙ e

    by : (o : Option TranscriptLine) → slice_get lines m ≡ o → (state_at lines (m + 1)).triggers ≡ (state_at lines m).triggers
    by None at = ap (λ (s : State). s.triggers) (state_at-end lines m at)
    by (Some (Update u)) at = let r = at-line lines m u h at in absurd (omega (arith, r.updates, same))
    by (Some (Open a b c d layout)) at = line (Open a b c d layout) at refl
    by (Some (FrameLine a b c d)) at = line (FrameLine a b c d) at refl
    by (Some (Send a b)) at = line (Send a b) at refl
    by (Some (Lapse r id)) at = line (Lapse r id) at (lapse-triggers (state_at lines m) id (session_at id (state_at lines m)))
    by (Some (Close a b)) at = line (Close a b) at refl

still-by : (lines : List TranscriptLine) (k d : ℕ) → is_legal lines ≡ true → 0 < (state_at lines k).updates → (state_at lines (k + d)).updates ≡ (state_at lines k).updates → (state_at lines (k + d)).triggers ≡ (state_at lines k).triggers
still-by lines k zero h some same = ap (λ n. (state_at lines n).triggers) (omega arith)
still-by lines k (suc d) h some same =
    let next : k + suc d ≡ (k + d) + 1 = omega arith in
    let up = not-below lines k (k + d) h (omega arith) some in
    let on = not-below lines (k + d) ((k + d) + 1) h (omega arith) (omega (arith, some, up.0)) in
    let last : (state_at lines ((k + d) + 1)).updates ≡ (state_at lines k).updates = ap (λ n. (state_at lines n).updates) (sym next) ∙ same in
    let mid : (state_at lines (k + d)).updates ≡ (state_at lines k).updates = omega (arith, up.0, on.0, last) in
    ap (λ n. (state_at lines n).triggers) next ∙ one-still lines (k + d) h (last ∙ sym mid) ∙ still-by lines k d h some mid

record AreAlike (s t : State) : Type 0 where
  zxid : s.zxid ≡ t.zxid
  triggers : s.triggers ≡ t.triggers

later-alike : (lines : List TranscriptLine) (k m : ℕ) → is_legal lines ≡ true → k ≤ m → 0 < (state_at lines k).updates → (state_at lines m).updates ≡ (state_at lines k).updates → AreAlike (state_at lines m) (state_at lines k)
later-alike lines k m h le some same =
    let e : k + (m - k) ≡ m = omega (arith, le) in
    record {
      zxid = same-count lines k m h le some same;
      triggers = ap (λ n. (state_at lines n).triggers) (sym e) ∙ still-by lines k (m - k) h some (ap (λ n. (state_at lines n).updates) e ∙ same);
    }

alike : (lines : List TranscriptLine) (k m : ℕ) → is_legal lines ≡ true → 0 < (state_at lines k).updates → (state_at lines m).updates ≡ (state_at lines k).updates → AreAlike (state_at lines m) (state_at lines k)
alike lines k m h some same = elim (nat-either k m) [
  | inl less ↦ later-alike lines k m h (omega (arith, less)) some same
  | inr le ↦ (let a = later-alike lines m k h le (omega (arith, some, same)) (sym same) in record { zxid = sym a.zxid; triggers = sym a.triggers })
]

-- ---- the head of a revision

triggers-are : (kv : Kv) (s : State) (ts : List Trigger) → IsHead kv s → AreTriggersOf (Some kv) ts → ts ≡ s.triggers
triggers-are kv s ts h (None, read, is) = absurd (read (record { triggers = s.triggers }) h.fits h.value)
triggers-are kv s ts h (Some r, read, is) = is ∙ head_value-injective r.triggers s.triggers read.0 h.fits (sym read.1 ∙ h.value)

-- the entry is of the last update at some moment
record IsOfMoment (lines : List TranscriptLine) (e : Entry) : Type 0 where
  moment : ℕ
  number : e.number ≡ pos (state_at lines moment).updates
  zxid : e.zxid ≡ (state_at lines moment).zxid
  triggers : e.triggers ≡ (state_at lines moment).triggers

of-moment : (s : Store) (lines : List TranscriptLine) (e : Entry) → StoreServes s lines → IsEntryIn s e → IsOfMoment lines e
of-moment s lines e h i =
    let m = moment_of lines (pos i.revision) in
    let head : IsHead i.head (state_at lines (moment_of lines (pos i.revision))) = subst (λ o. HeadMeans o (state_at lines (moment_of lines (pos i.revision)))) i.there (h.stands i.revision i.least i.known).head in
    record {
      moment = moment_of lines (pos i.revision);
      number = i.number ∙ head.number;
      zxid = i.zxid ∙ head.zxid;
      triggers = triggers-are i.head (state_at lines (moment_of lines (pos i.revision))) e.triggers head i.triggers;
    }

-- ---- the world's

abbrev entry_with : ℤ → ℤ → List Trigger → Entry
entry_with n z ts = record { number = n; zxid = z; triggers = ts }

entry-same : (a b : Entry) → a.number ≡ b.number → a.zxid ≡ b.zxid → a.triggers ≡ b.triggers → a ≡ b
entry-same a b n z t = ap (λ k. entry_with k a.zxid a.triggers) n ∙ ap (λ k. entry_with b.number k a.triggers) z ∙ ap (λ ts. entry_with b.number b.zxid ts) t

positive : (m u : ℕ) → pos u ≡ pos m +ℤ pos 1 → u ≡ m + 1
positive m u e = omega (arith, ints, e)

pub entry-there : (s : Store) (lines : List TranscriptLine) (entries : List Entry) (e : Entry) (m : ℕ) → StoreServes s lines → AreEntries lines entries → IsEntryIn s e → e.number ≡ pos m +ℤ pos 1 → entry_after entries (pos m) ≡ Some e
entry-there s lines entries e m h all i next = elim (slice_get_cases entries m).1 [
  | inl x ↦ x.2 ∙ ap (λ (y : Entry). Some y) (there x.0 x.2)
  | inr q ↦ absurd (omega (arith, q.0, all.count, counted, most))
]
  where
    o : IsOfMoment lines e
    o = of-moment s lines e h i

    counted : (state_at lines o.moment).updates ≡ m + 1
    counted = positive m (state_at lines o.moment).updates (sym o.number ∙ next)

    last : IsLast lines o.moment
    last = last-update lines o.moment h.legal (omega (arith, counted))

    most : (state_at lines o.moment).updates ≤ (after lines).updates
    most =
        let within = slice_get_within lines last.place (Update last.update) last.shown in
        let up = not-below lines (last.place + 1) (length lines) h.legal (omega (arith, within)) (omega (arith, last.count, counted)) in
        let end : state_at lines (length lines) ≡ after lines = ap after (take-length lines) in
        subst (λ (t : State). (state_at lines o.moment).updates ≤ t.updates) end (omega (arith, up.0, last.count))

    there : (y : Entry) → slice_get entries m ≡ Some y → y ≡ e
    there y at =
        let t = all.each m y at in
        let of : IsEntryOfLines lines y = t.0 in
        let is : y.number ≡ pos m +ℤ pos 1 = t.1 ∙ ap pos (omega arith) in
        let number : (state_at lines (of.place + 1)).updates ≡ m + 1 = positive m (state_at lines (of.place + 1)).updates (sym of.number ∙ is) in
        let a = alike lines o.moment (of.place + 1) h.legal (omega (arith, counted)) (number ∙ sym counted) in
        entry-same y e (is ∙ sym next) (of.zxid ∙ sym (at-line lines of.place of.update h.legal of.shown).zxid ∙ a.zxid ∙ sym o.zxid) (of.triggers ∙ a.triggers ∙ sym o.triggers)
