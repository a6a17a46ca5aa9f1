-- A call of one endpoint that is dialled.
use Rattle.std.proofs.Common.{◌≡◌, ◌∙◌, ℕ, zero, suc, ◌-◌, ◌<◌, List, [], ◌∷◌, ◌++◌, length, map, set, get_or, refl, sym, ap, subst, arith}
use Rattle.std.specs.Prelude.{All, Option, Some, None, option_map, Result, Ok, Err, is_some, false}
use Rattle.std.proofs.lemmas.List.{get_or-map, map-set, set-set}
use Rattle.std.proofs.lemmas.List.Elements.{All-nil, All-push}
use Rattle.ev_types.specs.declared.answer.Answer.{Answer}
use Rattle.ev_types.specs.declared.ask.Ask.{Ask}
use Rattle.ev_call.specs.Calls.{Call}
use Rattle.zx_net.specs.Nets.{NetCounts}
use Rattle.ev_failover.specs.Dialling.{AsksAt, EndsTold, calls_so_far, dials_for, kept_after}
use Rattle.ev_failover.specs.declared.endpoints.EndFault.{EndFault}
use Rattle.ev_failover.specs.declared.endpoints.EndFault.TheVariants as fault

-- ---- what the net counts

not_counted : (r : Result Answer EndFault) (n : NetCounts) → (r ≡ Err fault.NotSent → ⊥) → dials_for r n ≡ n
not_counted (Ok a) n sent = refl
not_counted (Err fault.NotSent) n sent = absurd (sent refl)
not_counted (Err fault.Failed) n sent = refl
not_counted (Err fault.Memory) n sent = refl

-- a link was made, and was asked
pub answered_counts : {L : Type 0} (made : L) (r : Result Answer EndFault) (n m : NetCounts) → (r ≡ Err fault.NotSent → ⊥) → dials_for (Ok made) n ≡ m → dials_for r n ≡ m
answered_counts made r n m sent is = not_counted r n sent ∙ is

-- there is none
pub unmade_counts : (A B : Type 0) (e : EndFault) (n m : NetCounts) → dials_for {A = A} (Err e) n ≡ m → dials_for {A = B} (Err e) n ≡ m
unmade_counts A B fault.NotSent n m is = is
unmade_counts A B fault.Failed n m is = is
unmade_counts A B fault.Memory n m is = is

-- ---- no links yet

pub none_yet : {X : Type 0} (xs : List (Option X)) → xs ≡ [] → All (λ (x : Option X). x ≡ None) xs
none_yet {X} xs is = subst (λ (l : List (Option X)). All (λ (x : Option X). x ≡ None) l) (sym is) (All-nil (λ (x : Option X). x ≡ None))

pub none_more : {X : Type 0} (xs ys : List (Option X)) → All (λ (x : Option X). x ≡ None) xs → ys ≡ xs ++ None ∷ [] → All (λ (x : Option X). x ≡ None) ys
none_more {X} xs ys none is = subst (λ (l : List (Option X)). All (λ (x : Option X). x ≡ None) l) (sym is) (All-push (λ (x : Option X). x ≡ None) xs None none refl)

-- ---- one of several

pub taken_later : {X : Type 0} (first : X) (others : List X) (e : ℕ) (r : X) → (e ≡ 0 → ⊥) → r ≡ get_or others (e - 1) r → r ≡ get_or (first ∷ others) e r
taken_later first others zero r later is = absurd (later refl)
taken_later first others (suc e) r later is = subst (λ (k : ℕ). r ≡ get_or others k r) (let k : suc e - 1 ≡ e = omega arith in k) is

pub left_later : {X : Type 0} (first : X) (others ys : List X) (e : ℕ) (x : X) → (e ≡ 0 → ⊥) → ys ≡ set others (e - 1) x → first ∷ ys ≡ set (first ∷ others) e x
left_later first others ys zero x later is = absurd (later refl)
left_later first others ys (suc e) x later is = ap (λ l. first ∷ l) (subst (λ (k : ℕ). ys ≡ set others k x) (let k : suc e - 1 ≡ e = omega arith in k) is)

-- ---- a call

-- what endpoints tell whose links tell their calls so
abbrev told_of : {L : Type 0} → (L → List Call) → List ℕ → List (Option L) → NetCounts → EndsTold
told_of f named xs n = record { named = named; links = map (λ l. option_map f l) xs; counts = n }

-- the link was taken out, and what is kept of it was put back
module _ {L : Type 0} (f : L → List Call) (xs mid ys : List (Option L)) (e : ℕ) (before after : Option L) (within : e < length xs) (at : before ≡ get_or xs e before) (out : mid ≡ set xs e None) (back : ys ≡ set mid e after) where
  abbrev calls_in : Option L → Option (List Call)
  calls_in l = option_map f l

  before_in : get_or (map calls_in xs) e None ≡ calls_in before
  before_in = get_or-map calls_in xs e before None within ∙ ap calls_in (sym at)

  links_after : (q : Ask) (r : Result Answer EndFault) → calls_in after ≡ kept_after (calls_so_far (calls_in before)) q r → map calls_in ys ≡ set (map calls_in xs) e (kept_after (calls_so_far (get_or (map calls_in xs) e None)) q r)
  links_after q r kept =
      ap (map calls_in) (back ∙ ap (λ (l : List (Option L)). set l e after) out ∙ set-set xs e None after) ∙ map-set calls_in xs e after
      ∙ ap (λ (l : Option (List Call)). set (map calls_in xs) e l) (kept ∙ ap (λ (o : Option (List Call)). kept_after (calls_so_far o) q r) (sym before_in))

none_in : {L : Type 0} (f : L → List Call) (o : Option L) → is_some o ≡ false → option_map f o ≡ None
none_in f None none = refl
none_in f (Some l) none = absurd (cc)

-- it went over the link that was there
pub over_kept : {L : Type 0} (f : L → List Call) (named : List ℕ) (xs mid ys : List (Option L)) (e : ℕ) (before after : Option L) (q : Ask) (r : Result Answer EndFault) (n m : NetCounts)
    → e < length xs → before ≡ get_or xs e before → mid ≡ set xs e None → ys ≡ set mid e after → option_map f after ≡ kept_after (calls_so_far (option_map f before)) q r
    → (r ≡ Err fault.NotSent → ⊥) → m ≡ n → AsksAt (told_of f named xs n) e q r (told_of f named ys m)
over_kept f named xs mid ys e before after q r n m within at out back kept sent same = record {
  named = refl;
  links = links_after f xs mid ys e before after within at out back q r kept;
  dialled = λ h. absurd (sent h);
  counted = same ∙ sym (not_counted r n sent);
}

-- there was none, and it went over one that was dialled, or was not sent
pub over_dialled : {L : Type 0} (f : L → List Call) (named : List ℕ) (xs mid ys : List (Option L)) (e : ℕ) (before after : Option L) (q : Ask) (r : Result Answer EndFault) (n m : NetCounts)
    → e < length xs → before ≡ get_or xs e before → mid ≡ set xs e None → ys ≡ set mid e after → is_some before ≡ false → option_map f after ≡ kept_after [] q r
    → m ≡ dials_for r n → AsksAt (told_of f named xs n) e q r (told_of f named ys m)
over_dialled f named xs mid ys e before after q r n m within at out back none kept counts =
    let gone = none_in f before none in
    record {
      named = refl;
      links = links_after f xs mid ys e before after within at out back q r (kept ∙ ap (λ (o : Option (List Call)). kept_after (calls_so_far o) q r) (sym gone));
      dialled = λ h. before_in f xs mid ys e before after within at out back ∙ gone;
      counted = counts;
    }
