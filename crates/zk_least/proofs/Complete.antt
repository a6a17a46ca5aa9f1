-- Where some choices give the packets, the least walk takes them too.
use Rattle.std.proofs.Common.{◌≡◌, ℕ, zero, suc, ◌+◌, ◌≤◌, ◌<◌, List, [], ◌∷◌, length, take, refl, sym, ap, ◌∙◌, subst, arith, Bool, true, false, ℤ}
use Rattle.std.specs.Prelude.{Option, Some, None, ◌≤ℤ◌, option_map, is_some, nat_le, int_le, if◌then◌else◌}
use Rattle.std.proofs.lemmas.Int.{ints}
use Rattle.std.proofs.lemmas.Bool.Decides.{nat_tests}
use Rattle.zk_transcript.specs.declared.transcript.TranscriptLine.{TranscriptLine}
use Rattle.zk_transcript.specs.History.{state_at}
use Rattle.zk_transcript.specs.Legal.{is_legal}
use Rattle.zk_transcript.specs.Walks.{Walker, Choice, Tell, Plain, Answer, Due, move, walk, are_sent, is_walked, is_fresh, are_fresh}
use Rattle.zk_least.specs.LeastWalk.{zxid_in, rest_after, given, is_allowed, first_passing, least_moment, plain_choice, choice_for, least_choice, least_from, HasZxids}
use Rattle.std.proofs.lemmas.Bool.{and_from, and_parts}
use Rattle.zk_least.proofs.Sound.{IsGood, given-is}
use Rattle.zk_least.proofs.EarlierMoments.{IsEarlier, walk-earlier}
use Rattle.zk_least.proofs.Rising.{state-long}
use Rattle.zk_least.proofs.Answering.{IsMade, made}
use Rattle.zk_least.proofs.SameAnswer.{same-answer}
use Rattle.zk_least.proofs.Exchange.{told-by}
use Rattle.zk_least.proofs.Ahead.{InRange, told-range, plainly-by, CarriedByTree, IsAfter, Ahead, Over, Quiet, Plainly, Asof, ahead}

-- ---- the first that passes

pub first-found : (test : ℕ → Bool) (m a n : ℕ) → test m ≡ true → a ≤ m → m ≤ a + n → (k : ℕ) × (first_passing test a n ≡ Some k) × (k ≤ m) × (test k ≡ true)
first-found test m a zero t le up =
    let same : m ≡ a = omega (arith, le, up) in
    let e : test a ≡ true = ap test (sym same) ∙ t in
    (a, ap (λ b. if b then Some a else None) e, le, e)
first-found test m a (suc n) t le up = by (test a) refl (λ f. first-found test m (a + 1) n t f (omega (arith, up)))
  where
    later : test a ≡ false → a + 1 ≤ m
    later e = go (nat_le (a + 1) m) refl
      where
        go : (b : Bool) → nat_le (a + 1) m ≡ b → a + 1 ≤ m
        go true f = grind (arith, nat_tests)
        go false f =
            let same : a ≡ m = grind (arith, nat_tests) in
            let bad : true ≡ false = sym t ∙ ap test (sym same) ∙ e in
            absurd (cc)

    by : (b : Bool) → test a ≡ b → (a + 1 ≤ m → (k : ℕ) × (first_passing test (a + 1) n ≡ Some k) × (k ≤ m) × (test k ≡ true)) → (k : ℕ) × ((if b then Some a else first_passing test (a + 1) n) ≡ Some k) × (k ≤ m) × (test k ≡ true)
    by true e ih = (a, refl, le, e)
    by false e ih = ih (later e)

-- ---- good choices after a lesser moment

sent-as : (o : Option (Walker × List Due)) (ps : List Due) → is_walked o ps ≡ true → (r : Walker × List Due) × (o ≡ Some r) × (are_sent r.1 ps ≡ true)
sent-as None ps h = absurd (cc)
sent-as (Some r) ps h = (r, refl, h)

pub good-earlier : (lines : List TranscriptLine) (c : ℕ) (id : ℤ) (v w : Walker) (ps : List Due) (xs : List Choice) → IsEarlier v w → IsGood lines c id w ps xs → IsGood lines c id v ps xs
good-earlier lines c id v w ps xs e g =
    let r = sent-as (walk lines c id w xs) ps g.lawful in
    let n = walk-earlier lines c id v w xs r.0 e r.1 in
    record {
      lawful = ap (λ o. is_walked o ps) n.there ∙ r.2;
      fresh = subst (λ i. are_fresh lines c i xs ≡ true) (sym e.next) g.fresh;
    }

-- ---- one step

pub record IsLeastStep (lines : List TranscriptLine) (c : ℕ) (id : ℤ) (w : Walker) (ps : List Due) (n : ℕ) : Type 0 where
  pub choice : Choice
  pub made : Walker × List Due
  pub rest : List Due
  pub later : List Choice
  pub least : least_choice lines c id w ps ≡ Some choice
  pub moved : move lines c id w choice ≡ Some made
  pub there : rest_after made.1 ps ≡ Some rest
  pub good : IsGood lines c id made.0 rest later
  pub shorter : length later < n

after-step : (lines : List TranscriptLine) (c : ℕ) (id : ℤ) (w : Walker) (ps : List Due) (n : ℕ) (x : Choice) → least_choice lines c id w ps ≡ Some x → IsAfter lines c id w ps n x → IsLeastStep lines c id w ps n
after-step lines c id w ps n x e a = record { choice = x; made = a.made; rest = a.rest; later = a.later; least = e; moved = a.moved; there = a.there; good = a.good; shorter = a.shorter }

pub given-some : (ps : List Due) (o : Option (Walker × List Due)) (y : Walker × List Due) (rest : List Due) → o ≡ Some y → rest_after y.1 ps ≡ Some rest → given ps o ≡ Some (y.0, rest)
given-some ps o y rest e f = ap (given ps) e ∙ ap (option_map (λ r. (y.0, r))) f

pub some-is : (o : Option (Walker × List Due)) → is_some o ≡ true → (y : Walker × List Due) × (o ≡ Some y)
some-is None h = absurd (cc)
some-is (Some y) h = (y, refl)

asof-step : (lines : List TranscriptLine) (c : ℕ) (id : ℤ) (w : Walker) (ps : List Due) (n m : ℕ) → is_legal lines ≡ true → HasZxids lines → InRange w
    → ((k : ℕ) → least_moment lines c id w ps ≡ Some k → least_choice lines c id w ps ≡ Some (Answer k)) → IsAfter lines c id w ps n (Answer m) → IsLeastStep lines c id w ps n
asof-step lines c id w ps n m legal least r chosen a =
    let mk = made lines c id w m a.made a.moved in
    let all : is_some (given ps (move lines c id w (Answer m))) ≡ true = ap is_some (given-some ps (move lines c id w (Answer m)) a.made a.rest a.moved a.there) in
    let allowed : is_allowed lines c id w ps m ≡ true =
    and_from (is_fresh lines c w.next (Answer m)) (is_some (given ps (move lines c id w (Answer m)))) a.fresh all in
    let found = first-found (is_allowed lines c id w ps) m 0 (length lines) allowed (omega arith) (omega (arith, mk.within)) in
    let k = found.0 in
    let own = and_parts (is_fresh lines c w.next (Answer k)) (is_some (given ps (move lines c id w (Answer k)))) found.3 in
    let y = some-is (given ps (move lines c id w (Answer k))) own.1 in
    let u = given-is ps (move lines c id w (Answer k)) y.0 y.1 in
    let s = same-answer lines c id w k m u.0 a.made ps y.0.1 a.rest legal least r.0 found.2 u.1 a.moved u.3 a.there in
    record {
      choice = Answer k;
      made = u.0;
      rest = y.0.1;
      later = a.later;
      least = chosen k found.1;
      moved = u.1;
      there = u.3;
      good = subst (λ qs. IsGood lines c id u.0.0 qs a.later) (sym s.rest) (good-earlier lines c id u.0.0 a.made.0 a.rest a.later s.earlier a.good);
      shorter = a.shorter;
    }

pub step : (lines : List TranscriptLine) (c : ℕ) (id : ℤ) (w : Walker) (p : Due) (ps : List Due) (n : ℕ) → is_legal lines ≡ true → HasZxids lines → InRange w → Ahead lines c id w (p ∷ ps) n → IsLeastStep lines c id w (p ∷ ps) n
unfolding least_choice
step lines c id w p ps n legal least r (Over e) = absurd (cc)
step lines c id w p ps n legal least r (Quiet e a) = after-step lines c id w (p ∷ ps) n Tell (ap (choice_for lines c id w (p ∷ ps)) e) a
step lines c id w p ps n legal least r (Plainly bytes e f le a) =
    after-step lines c id w (p ∷ ps) n (plain_choice w (zxid_in bytes))
    (ap (choice_for lines c id w (p ∷ ps)) e ∙ ap (λ b. if b then Some (plain_choice w (zxid_in bytes)) else option_map (λ m. Answer m) (least_moment lines c id w (p ∷ ps))) f) a
step lines c id w p ps n legal least r (Asof bytes e f m a) =
    asof-step lines c id w (p ∷ ps) n m legal least r
    (λ k g. ap (choice_for lines c id w (p ∷ ps)) e ∙ ap (λ b. if b then Some (plain_choice w (zxid_in bytes)) else option_map (λ m. Answer m) (least_moment lines c id w (p ∷ ps))) f ∙ ap (option_map (λ m. Answer m)) g) a

-- ---- the walker's zxid stays in range

answered-range : (lines : List TranscriptLine) (c : ℕ) (id : ℤ) (w : Walker) (m : ℕ) (y : Walker × List Due) → is_legal lines ≡ true → HasZxids lines → InRange w → IsMade lines c id w m y → InRange y.0
answered-range lines c id w m y legal least r mk =
    let z = (state_at lines m).zxid in
    let l = state-long lines m legal least in
    let e : z ≡ y.0.zxid = ap (λ (p : Walker × List Due). p.0.zxid) mk.gives in
    let q = (and_parts (nat_le w.moment (length (take m lines))) (int_le w.zxid z) mk.may_answer).1 in
    let up : w.zxid ≤ℤ z = grind (arith, nat_tests, ints) in
    (omega (arith, ints, up, r.0, e), omega (arith, ints, l.1, e))

pub move-range : (lines : List TranscriptLine) (c : ℕ) (id : ℤ) (w : Walker) (x : Choice) (y : Walker × List Due) → is_legal lines ≡ true → HasZxids lines → InRange w → move lines c id w x ≡ Some y → InRange y.0
move-range lines c id w Tell y legal least r h = (told-range lines w y legal least r (told-by lines c id w y h)).0
move-range lines c id w Plain y legal least r h = (let q = plainly-by lines c id w y h in subst (λ (p : Walker × List Due). InRange p.0) q.gives r)
move-range lines c id w (Answer m) y legal least r h = answered-range lines c id w m y legal least r (made lines c id w m y h)

-- ---- the whole walk

then-some : (x : Choice) (o : Option (List Choice)) → is_some o ≡ true → is_some (option_map (λ xs. x ∷ xs) o) ≡ true
then-some x None h = absurd (cc)
then-some x (Some xs) h = refl

none-shorter : (n : ℕ) (xs : List Choice) (k : ℕ) → length xs ≤ 0 → k < length xs → ⊥
none-shorter n xs k a b = omega (arith, a, b)

pub complete : (n : ℕ) (lines : List TranscriptLine) (c : ℕ) (id : ℤ) (w : Walker) (ps : List Due) (xs : List Choice) → is_legal lines ≡ true → HasZxids lines → CarriedByTree lines c → InRange w
    → length xs ≤ n → IsGood lines c id w ps xs → is_some (least_from n lines c id w ps) ≡ true
unfolding least_from
complete zero lines c id w [] xs legal least tree r le g = refl
complete (suc n) lines c id w [] xs legal least tree r le g = refl
complete zero lines c id w (p ∷ ps) xs legal least tree r le g =
    let s = step lines c id w p ps (length xs) legal least r (ahead lines c id w (p ∷ ps) xs legal least tree r g) in
    absurd (none-shorter 0 xs (length s.later) le s.shorter)
complete (suc n) lines c id w (p ∷ ps) xs legal least tree r le g =
    let s = step lines c id w p ps (length xs) legal least r (ahead lines c id w (p ∷ ps) xs legal least tree r g) in
    let rest : is_some (least_from n lines c id s.made.0 s.rest) ≡ true = complete n lines c id s.made.0 s.rest s.later legal least tree (move-range lines c id w s.choice s.made legal least r s.moved) (omega (arith, le, s.shorter)) s.good in
    ap (λ o. is_some (elim o [ None ↦ None | Some x ↦ elim (given (p ∷ ps) (move lines c id w x)) [ None ↦ None | Some y ↦ option_map (λ zs. x ∷ zs) (least_from n lines c id y.0 y.1) ] ])) s.least
    ∙ ap (λ o. is_some (elim o [ None ↦ None | Some y ↦ option_map (λ zs. s.choice ∷ zs) (least_from n lines c id y.0 y.1) ])) (given-some (p ∷ ps) (move lines c id w s.choice) s.made s.rest s.moved s.there)
    ∙ then-some s.choice (least_from n lines c id s.made.0 s.rest) rest
