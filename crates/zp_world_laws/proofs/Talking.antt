-- A conversation stays what it was when lines are added, and goes on by what a step sends.
use Rattle.std.proofs.Common.{◌≡◌, ℕ, ◌+◌, ◌≤◌, ◌<◌, List, [], ◌∷◌, ◌++◌, length, drop, refl, sym, ap, ◌∙◌, subst, arith, Bool, true, false, ℤ, append-nil, append_assoc}
use Rattle.std.specs.Prelude.{Option, Some, None, ◌&&◌, ◌==◌, All, map}
use Rattle.std.specs.List.{list_all}
use Rattle.std.proofs.lemmas.Bool.{and_parts}
use Rattle.std.proofs.lemmas.Bool.Decides.{nat_tests}
use Rattle.std.proofs.lemmas.List.Elements.{All-tail}
use Rattle.std.proofs.lemmas.List.Folds.{list_all-append}
use Rattle.zk_transcript.proofs.Choices.{choices-append, fresh-push, turn-push}
use Rattle.zk_transcript.proofs.Longer.{stays-line, walk-push}
use Rattle.zk_transcript.specs.History.{first_place, when}
use Rattle.zk_transcript.specs.Legal.{Attachment, index_shown, is_below_place}
use Rattle.zk_transcript.specs.Walks.{Choice, Due, Walker, all_choices, are_fresh, are_in_turn, are_sent, at_start, is_fresh, is_in_turn, own_update_shown, packets, packets_from, walk}
use Rattle.zk_transcript.specs.declared.transcript.TranscriptLine.{TranscriptLine}
use Rattle.zk_transcript.specs.declared.transcript.TranscriptLine.TheVariants.{Update, Lapse}
use Rattle.zk_service.specs.declared.update.UpdateKind.{UpdateKind}
use Rattle.zk_service.specs.declared.update.UpdateKind.TheVariants.{Begin, Session as NewSession, Attach, Asked, Closed, Reaped}
use Rattle.zp_laws.proofs.WalkMoves.{walk-append}
use Rattle.zp_laws.specs.Standing.{is_ahead}
use Rattle.zp_world_laws.proofs.Packets.{FromPlace, UpToPlace, all_sent, are_sent-append, packets-append, packets-from}
use Rattle.zp_world_laws.specs.Holding.{Indexed, Talks, requested_by}
use Rattle.zx_base.proofs.Booleans.{and-both as both-true}

-- ---- over one line more

pub talks-push : (lines : List TranscriptLine) (l : TranscriptLine) (c k : ℕ) (a : Attachment) (w : Walker)
    → ((j : ℕ) → j < w.next → own_update_shown c j l ≡ None) → packets_from c (length lines) (l ∷ []) ≡ [] → Talks lines c k a w → Talks (lines ++ l ∷ []) c k a w
talks-push lines l c k a w stays none t = record {
  choices = t.choices;
  due = t.due;
  walked = walk-push lines (l ∷ []) c a.session (at_start a.zxid (k + 1)) t.choices (w, t.due) (stays-line lines l c w.next stays) t.walked;
  sent = subst (λ ps. are_sent t.due (drop 1 ps) ≡ true) (sym (packets-append c lines (l ∷ []) ∙ ap (λ ps. packets c lines ++ ps) none ∙ append-nil (packets c lines))) t.sent;
  fresh = fresh-push lines (l ∷ []) c a.session (at_start a.zxid (k + 1)) t.choices (w, t.due) t.walked t.fresh;
  in_turn = turn-push lines (l ∷ []) c a.session (at_start a.zxid (k + 1)) t.choices (w, t.due) t.walked t.in_turn;
}

-- ---- lines that are neither updates nor lapses

abbrev pub is_quiet : TranscriptLine → Bool
is_quiet (Update u) = false
is_quiet (Lapse r id) = false
is_quiet _ = true

quiet-shows : (c j : ℕ) (l : TranscriptLine) → is_quiet l ≡ true → own_update_shown c j l ≡ None
quiet-shows c j (Update u) h = absurd (cc)
quiet-shows c j (Lapse r id) h = refl
quiet-shows c j _ h = refl

-- what a walk gave it gives still
pub walk-quiet : (lines ls : List TranscriptLine) (c : ℕ) (id : ℤ) (w : Walker) (xs : List Choice) (r : Walker × List Due) → list_all is_quiet ls ≡ true → walk lines c id w xs ≡ Some r → walk (lines ++ ls) c id w xs ≡ Some r
walk-quiet lines [] c id w xs r h e = subst (λ l. walk l c id w xs ≡ Some r) (sym (append-nil lines)) e
walk-quiet lines (l ∷ ls) c id w xs r h e =
    let q = and_parts (is_quiet l) (list_all is_quiet ls) h in
    subst (λ k. walk k c id w xs ≡ Some r) (append_assoc lines (l ∷ []) ls)
    (walk-quiet (lines ++ l ∷ []) ls c id w xs r q.1 (walk-push lines (l ∷ []) c id w xs r (stays-line lines l c r.0.next (λ j small. quiet-shows c j l q.0)) e))

pub first_place-front : {A : Type 0} (show : TranscriptLine → Option A) (k : ℕ) (xs ys : List TranscriptLine) → ((n : ℕ) → first_place show n ys ≡ None) → first_place show k (xs ++ ys) ≡ first_place show k xs
first_place-front show k [] ys h = h k
first_place-front {A} show k (x ∷ xs) ys h = ap (λ o. elim (show x) [ Some y ↦ Some (k, y) | None ↦ o ]) (first_place-front show (k + 1) xs ys h)

-- ---- it goes on by what a step sends

pub talks-more : (lines ls : List TranscriptLine) (c k : ℕ) (a : Attachment) (w w' : Walker) (p : Due) (ps : List Due) (choices : List Choice) (due : List Due)
    → Talks lines c k a w → packets c lines ≡ p ∷ ps → list_all is_quiet ls ≡ true
    → walk lines c a.session w choices ≡ Some (w', due) → map (λ (d : Due). d.1) due ≡ map (λ (d : Due). d.1) (packets_from c (length lines) ls) → All (UpToPlace (length lines)) due
    → are_fresh lines c w.next choices ≡ true → are_in_turn lines c w.next choices ≡ true
    → Talks (lines ++ ls) c k a w'
talks-more lines ls c k a w w' p ps choices due t some quiet walked sends small fresh turn =
    let whole = walk-append lines c a.session (at_start a.zxid (k + 1)) t.choices choices (w, t.due) (w', due) t.walked walked in
    record {
      choices = t.choices ++ choices;
      due = t.due ++ due;
      walked = walk-quiet lines ls c a.session (at_start a.zxid (k + 1)) (t.choices ++ choices) (w', t.due ++ due) quiet whole;
      sent = subst (λ l. are_sent (t.due ++ due) (drop 1 l) ≡ true) (sym (packets-append c lines ls ∙ ap (λ l. l ++ packets_from c (length lines) ls) some))
          (are_sent-append t.due ps due (packets_from c (length lines) ls) (subst (λ l. are_sent t.due (drop 1 l) ≡ true) some t.sent)
          (all_sent (length lines) due (packets_from c (length lines) ls) small (packets-from c (length lines) ls) sends));
      fresh = fresh-push lines ls c a.session (at_start a.zxid (k + 1)) (t.choices ++ choices) (w', t.due ++ due) whole (choices-append (is_fresh lines c) lines c a.session (at_start a.zxid (k + 1)) t.choices choices (w, t.due) t.walked t.fresh fresh);
      in_turn = turn-push lines ls c a.session (at_start a.zxid (k + 1)) (t.choices ++ choices) (w', t.due ++ due) whole (choices-append (is_in_turn lines c) lines c a.session (at_start a.zxid (k + 1)) t.choices choices (w, t.due) t.walked t.in_turn turn);
    }

-- it begins with the welcome, and goes on by what the same step sends
pub talks-first : (lines ls : List TranscriptLine) (c k : ℕ) (a : Attachment) (w : Walker) (p : Due) (ps : List Due) (choices : List Choice) (due : List Due)
    → packets c lines ≡ [] → packets_from c (length lines) ls ≡ p ∷ ps → list_all is_quiet ls ≡ true
    → walk lines c a.session (at_start a.zxid (k + 1)) choices ≡ Some (w, due) → map (λ (d : Due). d.1) due ≡ map (λ (d : Due). d.1) ps → All (UpToPlace (length lines)) due
    → are_fresh lines c 1 choices ≡ true → are_in_turn lines c 1 choices ≡ true → Talks (lines ++ ls) c k a w
talks-first lines ls c k a w p ps choices due none some quiet walked sends small fresh turn = record {
  choices = choices;
  due = due;
  walked = walk-quiet lines ls c a.session (at_start a.zxid (k + 1)) choices (w, due) quiet walked;
  sent = subst (λ l. are_sent due (drop 1 l) ≡ true) (sym (packets-append c lines ls ∙ ap (λ l. l ++ packets_from c (length lines) ls) none ∙ some))
      (all_sent (length lines) due ps small (All-tail (FromPlace (length lines)) p ps (subst (All (FromPlace (length lines))) some (packets-from c (length lines) ls))) sends);
  fresh = fresh-push lines ls c a.session (at_start a.zxid (k + 1)) choices (w, due) walked fresh;
  in_turn = turn-push lines ls c a.session (at_start a.zxid (k + 1)) choices (w, due) walked turn;
}

-- nothing but the welcome was sent yet
pub talks-start : (lines : List TranscriptLine) (c k : ℕ) (a : Attachment) → packets c lines ≡ [] → Talks lines c k a (at_start a.zxid (k + 1))
unfolding walk all_choices
talks-start lines c k a silent = record { choices = []; due = []; walked = refl; sent = subst (λ ps. are_sent [] (drop 1 ps) ≡ true) (sym silent) refl; fresh = refl; in_turn = refl }

-- ---- an update of a request that isn't answered yet

not-and : (a b : Bool) → (a ≡ true → b ≡ false) → (a && b) ≡ false
not-and true b h = h refl
not-and false b h = refl

abbrev pub indexed : ℕ → ℕ → Option Indexed
indexed c i = Some (record { connection = c; index = i })

indexed-at : (c d i : ℕ) → (c == d) ≡ true → indexed d i ≡ indexed c i
indexed-at c d i e = let same : c ≡ d = grind (arith, nat_tests) in ap (λ n. indexed n i) (sym same)

other : (c d j i n : ℕ) → (indexed d i ≡ indexed c i → n ≤ i) → j < n → ((c == d) && (j == i)) ≡ false
other c d j i n h small = not-and (c == d) (j == i) (λ e. (let le = h (indexed-at c d i e) in let differ : (j == i) ≡ false = grind (arith, nat_tests) in differ))

pub own-none : (c j n : ℕ) (z : ℤ) (kind : UpdateKind) → ((i : ℕ) → requested_by kind ≡ Some (record { connection = c; index = i }) → n ≤ i) → j < n → own_update_shown c j (Update (record { zxid = z; kind = kind })) ≡ None
own-none c j n z (Begin now) h small = refl
own-none c j n z (NewSession id d) h small = refl
own-none c j n z (Attach id d) h small = refl
own-none c j n z (Asked d i now) h small = ap (λ b. when b (record { zxid = z; kind = Asked d i now })) (other c d j i n (h i) small)
own-none c j n z (Closed id d i) h small = ap (λ b. when b (record { zxid = z; kind = Closed id d i })) (other c d j i n (h i) small)
own-none c j n z (Reaped id) h small = refl

-- ---- the requests of a connection from an index on have no line

pub ahead-push : (lines : List TranscriptLine) (l : TranscriptLine) (c i : ℕ) → is_below_place i (index_shown c l) ≡ true → is_ahead lines c i ≡ true → is_ahead (lines ++ l ∷ []) c i ≡ true
ahead-push lines l c i h f =
    list_all-append (λ x. is_below_place i (index_shown c x)) lines (l ∷ [])
    ∙ both-true (is_ahead lines c i) (is_below_place i (index_shown c l) && true) f (both-true (is_below_place i (index_shown c l)) true h refl)
