-- A connection's requests are carried out in their order, each at most once.
use Rattle.std.proofs.Common.{◌≡◌, ℕ, zero, suc, ◌<◌, List, [], ◌∷◌, ◌++◌, take, Option, Some, None, refl, ap, ◌∙◌, subst, arith, Bool, true, false, ℤ, append_assoc, append-nil}
use Rattle.std.specs.Prelude.{slice_get, ◌==◌}
use Rattle.std.specs.List.{list_all}
use Rattle.std.proofs.lemmas.Bool.{and_parts}
use Rattle.std.proofs.lemmas.Bool.Decides.{nat_tests}
use Rattle.zk_service.specs.declared.update.UpdateKind.{UpdateKind}
use Rattle.zk_service.specs.declared.update.UpdateKind.TheVariants.{Begin, Session as NewSession, Attach, Asked, Closed, Reaped}
use Rattle.zk_transcript.specs.declared.transcript.TranscriptLine.{TranscriptLine}
use Rattle.zk_transcript.specs.declared.transcript.TranscriptLine.TheVariants.{Update, Open, Frame as FrameLine, Send, Lapse, Close}
use Rattle.zk_transcript.specs.History.{when}
use Rattle.zk_transcript.specs.Legal.{index_in, index_shown, is_below_place, follows, carrier, is_in_order, is_ordered, is_ordered_from}
use Rattle.zx_base.proofs.Lists.{slice_get-take}

in_order-at : (before ls : List TranscriptLine) (k : ℕ) (l : TranscriptLine) → is_ordered_from before ls ≡ true → slice_get ls k ≡ Some l → is_in_order (before ++ take k ls) l ≡ true
in_order-at before [] k l h g = absurd (cc)
in_order-at before (x ∷ ls) zero l h g =
    let same : x ≡ l = cc in
    rw (append-nil before) (subst (λ (y : TranscriptLine). is_in_order before y ≡ true) same (and_parts (is_in_order before x) (is_ordered_from (before ++ x ∷ []) ls) h).0)
in_order-at before (x ∷ ls) (suc k) l h g =
    let at = in_order-at (before ++ x ∷ []) ls k l (and_parts (is_in_order before x) (is_ordered_from (before ++ x ∷ []) ls) h).1 g in
    subst (λ (b : List TranscriptLine). is_in_order b l ≡ true) (append_assoc before (x ∷ []) (take k ls)) at

-- each line came in order where it stands
pub ordered-at : (lines : List TranscriptLine) (k : ℕ) (l : TranscriptLine) → is_ordered lines ≡ true → slice_get lines k ≡ Some l → is_in_order (take k lines) l ≡ true
unfolding is_ordered
ordered-at lines k l h g = in_order-at [] lines k l h g

pub all-at : {A : Type 0} (p : A → Bool) (xs : List A) (j : ℕ) (x : A) → list_all p xs ≡ true → slice_get xs j ≡ Some x → p x ≡ true
all-at p [] j x h g = absurd (cc)
all-at {A} p (y ∷ ys) zero x h g = let same : y ≡ x = cc in subst (λ (w : A). p w ≡ true) same (and_parts (p y) (list_all p ys) h).0
all-at p (y ∷ ys) (suc j) x h g = all-at p ys j x (and_parts (p y) (list_all p ys) h).1 g

when-is : (b : Bool) (i m : ℕ) → ◌≡◌ {A = Option ℕ} (when b i) (Some m) → b ≡ true
when-is true i m h = refl
when-is false i m h = absurd (cc)

same_number : (c d : ℕ) → (c == d) ≡ true → d ≡ c
same_number c d h = grind (arith, nat_tests)

carried_by : (c : ℕ) (z : ℤ) (kind : UpdateKind) (m : ℕ) → index_in c kind ≡ Some m → carrier (Update (record { zxid = z; kind = kind })) ≡ Some c
carried_by c z (Begin now) m h = absurd (cc)
carried_by c z (NewSession id d) m h = absurd (cc)
carried_by c z (Attach id d) m h = absurd (cc)
carried_by c z (Asked d i now) m h = ap Some (same_number c d (when-is (c == d) i m h))
carried_by c z (Closed id d i) m h = ap Some (same_number c d (when-is (c == d) i m h))
carried_by c z (Reaped id) m h = absurd (cc)

carrier-of : (c : ℕ) (l : TranscriptLine) (m : ℕ) → index_shown c l ≡ Some m → carrier l ≡ Some c
carrier-of c (Update u) m h = carried_by c u.zxid u.kind m h
carrier-of c (Open d proxy id passwd layout) m h = absurd (cc)
carrier-of c (FrameLine d i z bytes) m h = absurd (cc)
carrier-of c (Send d bytes) m h = absurd (cc)
carrier-of c (Lapse revision id) m h = absurd (cc)
carrier-of c (Close d end) m h = absurd (cc)

follows-from : (before : List TranscriptLine) (c m : ℕ) (l : TranscriptLine) → index_shown c l ≡ Some m → is_in_order before l ≡ true → list_all (λ x. is_below_place m (index_shown c x)) before ≡ true
follows-from before c m l shown h = subst (λ (o : Option ℕ). follows before c o ≡ true) shown (by_carrier (carrier l) (carrier-of c l m shown) h)
  where
    by_carrier : (o : Option ℕ) → o ≡ Some c → elim o [ None ↦ true | Some d ↦ follows before d (index_shown d l) ] ≡ true → follows before c (index_shown c l) ≡ true
    by_carrier None e g = absurd (cc)
    by_carrier (Some d) e g = let same : d ≡ c = cc in subst (λ (n : ℕ). follows before n (index_shown n l) ≡ true) same g

below-is : (m i : ℕ) (o : Option ℕ) → o ≡ Some i → is_below_place m o ≡ true → i < m
below-is m i None e h = absurd (cc)
below-is m i (Some j) e h = let same : j ≡ i = cc in let less : j < m = grind (arith, nat_tests) in omega (arith, same, less)

-- what is carried out later is a later request
pub indices-rise : (lines : List TranscriptLine) (j k c i m : ℕ) (a b : TranscriptLine) → is_ordered lines ≡ true → j < k → slice_get lines j ≡ Some a → slice_get lines k ≡ Some b
    → index_shown c a ≡ Some i → index_shown c b ≡ Some m → i < m
indices-rise lines j k c i m a b ordered lt at_j at_k first second =
    let after = follows-from (take k lines) c m b second (ordered-at lines k b ordered at_k) in
    below-is m i (index_shown c a) first (all-at (λ x. is_below_place m (index_shown c x)) (take k lines) j a after (slice_get-take lines k j lt ∙ at_j))
