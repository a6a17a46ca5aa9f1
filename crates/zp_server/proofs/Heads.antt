-- The head that the first asks find.
use Rattle.std.proofs.Common.{◌≡◌, ◌⊎◌, ℕ, zero, suc, ◌-◌, Bool, true, false, List, [], ◌∷◌, Option, Some, None, Ok, Err, refl, subst, sym, ap, ◌∙◌, inl, inr, arith}
use Rattle.std.specs.Prelude.{ℤ, All, IfOk, IfSome, Result, is_some, length, option_copied, slice_get}
use denote.Ref.{Bor}
use Rattle.std.proofs.lemmas.Int.{ints}
use Rattle.ev_types.specs.Answers.{revision_in}
use Rattle.ev_types.specs.Store.{chosen}
use Rattle.ev_types.specs.declared.answer.ActAns.{ActAns}
use Rattle.ev_types.specs.declared.answer.ActAns.TheVariants as part
use Rattle.ev_types.specs.declared.answer.Answer.{Answer}
use Rattle.ev_types.specs.declared.answer.Answer.TheVariants as answer
use Rattle.ev_types.specs.declared.answer.Kv.{Kv}
use Rattle.ev_types.specs.declared.answer.RangeAns.{RangeAns}
use Rattle.ev_types.specs.declared.ask.Act.{Act}
use Rattle.ev_types.specs.declared.ask.Act.TheVariants as act
use Rattle.ev_types.specs.declared.ask.Ask.{Ask}
use Rattle.ev_types.specs.declared.ask.Ask.TheVariants as ask
use Rattle.ev_call.specs.Asks.{IsGrantable}
use Rattle.ev_call.specs.Calls.{Call}
use Rattle.ev_call.specs.Fitting.{AreCounts, Fits, IsCount, IsFoundWithin, PartFits, PartsFit}
use Rattle.zn_layout.specs.Begin.{begin_ask}
use Rattle.zw_follow.specs.declared.place.Place.{Place}
use Rattle.zp_server.specs.Beginning.{Asks, Begins, ClusterTold, Comes, IsAnswered, IsPlace, first_of, found_by, head_in, last_part, look_ask, number_at, place_in}
use Rattle.zp_server.specs.declared.ends.Stop.{Stop}
use Rattle.zp_server.specs.declared.ends.Stop.TheVariants as stop
use Rattle.zx_outside.specs.Counts.{one_more}
use Rattle.zx_base.proofs.Options.{none_some, some_is}

-- ---- what an answer that fits finds

part_fit : (a : Act) (p : ActAns) (found : RangeAns) → PartFits a p → found_by (Some p) ≡ Some found → IsFoundWithin found
part_fit (act.Range q) (part.Range r) found fits is = subst IsFoundWithin (some_is is) fits
part_fit (act.Range q) part.Put found fits is = absurd fits
part_fit (act.Range q) (part.Deleted n) found fits is = absurd fits
part_fit (act.Put k v lease) part.Put found fits is = absurd (none_some is)
part_fit (act.Put k v lease) (part.Deleted n) found fits is = absurd fits
part_fit (act.Put k v lease) (part.Range r) found fits is = absurd fits
part_fit (act.Delete k) part.Put found fits is = absurd fits
part_fit (act.Delete k) (part.Deleted n) found fits is = absurd (none_some is)
part_fit (act.Delete k) (part.Range r) found fits is = absurd fits

parts_fit : (acts : List Act) (parts : List ActAns) (at : ℕ) (found : RangeAns) → PartsFit acts parts → found_by (slice_get parts at) ≡ Some found → IsFoundWithin found
parts_fit acts [] at found fits is = absurd (none_some is)
parts_fit [] (p ∷ parts) at found fits is = absurd fits
parts_fit (a ∷ acts) (p ∷ parts) zero found fits is = part_fit a p found fits.0 is
parts_fit (a ∷ acts) (p ∷ parts) (suc at) found fits is = parts_fit acts parts at found fits.1 is

if_some : {A : Type 0} {P : A → Type 0} (o : Option A) → ((x : A) → o ≡ Some x → P x) → IfSome o P
if_some None h = tt
if_some (Some x) h = h x refl

found_fits : (q : Ask) (a : Answer) → Fits q a → IfSome (found_by (last_part a)) IsFoundWithin
found_fits (ask.Txn t) (answer.Txn revision succeeded parts) fits = if_some (found_by (slice_get parts (length parts - 1))) (λ found is. parts_fit (chosen succeeded t) parts (length parts - 1) found fits.1 is)
found_fits (ask.Range q) (answer.Txn revision succeeded parts) fits = absurd fits
found_fits (ask.Grant id ttl) (answer.Txn revision succeeded parts) fits = absurd fits
found_fits (ask.Alive id) (answer.Txn revision succeeded parts) fits = absurd fits
found_fits q (answer.Range revision found) fits = tt
found_fits q (answer.Granted revision id ttl) fits = tt
found_fits q (answer.Alive revision id ttl) fits = tt

first_counts : (kvs : List Kv) → All AreCounts kvs → IfSome (slice_get kvs 0) AreCounts
first_counts [] all = tt
first_counts (kv ∷ kvs) all = all 0 kv (omega arith)

head_counts : (r : Option RangeAns) → IfSome r IsFoundWithin → IfSome (first_of r) AreCounts
head_counts None within = tt
head_counts (Some found) within = first_counts found.kvs within

number_counts : (head : Option Kv) → IfSome head AreCounts → IsCount (number_at head)
number_counts (Some kv) counts = counts.version
number_counts None counts = record { least = omega (arith, ints); most = omega (arith, ints) }

revision_counts : (q : Ask) (a : Answer) → Fits q a → IsCount (revision_in a)
revision_counts (ask.Txn t) (answer.Txn revision succeeded parts) fits = fits.0
revision_counts (ask.Range q) (answer.Range revision found) fits = fits.0
revision_counts (ask.Grant id ttl) (answer.Granted revision granted seconds) fits = fits
revision_counts (ask.Alive id) (answer.Alive revision kept seconds) fits = fits
revision_counts (ask.Txn t) (answer.Range revision found) fits = absurd fits
revision_counts (ask.Txn t) (answer.Granted revision granted seconds) fits = absurd fits
revision_counts (ask.Txn t) (answer.Alive revision kept seconds) fits = absurd fits
revision_counts (ask.Range q) (answer.Txn revision succeeded parts) fits = absurd fits
revision_counts (ask.Range q) (answer.Granted revision granted seconds) fits = absurd fits
revision_counts (ask.Range q) (answer.Alive revision kept seconds) fits = absurd fits
revision_counts (ask.Grant id ttl) (answer.Txn revision succeeded parts) fits = absurd fits
revision_counts (ask.Grant id ttl) (answer.Range revision found) fits = absurd fits
revision_counts (ask.Grant id ttl) (answer.Alive revision kept seconds) fits = absurd fits
revision_counts (ask.Alive id) (answer.Txn revision succeeded parts) fits = absurd fits
revision_counts (ask.Alive id) (answer.Range revision found) fits = absurd fits
revision_counts (ask.Alive id) (answer.Granted revision granted seconds) fits = absurd fits

-- both numbers are in range
is_place : (number revision : ℤ) → IsCount number → IsCount revision → IsPlace (record { number = number; revision = revision })
is_place number revision n r = let n0 = n.least in let n1 = n.most in let r0 = r.least in let r1 = r.most in
    record { number_least = n0; number_most = omega (arith, ints); revision_least = r0; revision_most = omega (arith, ints) }

place_fits : (q : Ask) (a : Answer) → Fits q a → IsPlace (place_in a)
place_fits q a fits = is_place (number_at (first_of (found_by (last_part a)))) (revision_in a)
    (number_counts (first_of (found_by (last_part a))) (head_counts (found_by (last_part a)) (found_fits q a fits))) (revision_counts q a fits)

-- ---- the asks

-- both may be asked
pub look_grantable : (q : Ask) → q ≡ look_ask → IsGrantable q
look_grantable q is = subst IsGrantable (sym is) tt

pub making_grantable : (now : ℕ) (q : Ask) → q ≡ begin_ask now → IsGrantable q
unfolding begin_ask
making_grantable now q is = subst IsGrantable (sym is) tt

-- ---- what they come to

-- whether there is a head, by the reference to it
pub copied_some : {A : Type 0} (o : Option (Bor A)) (head : Option A) (shows seen : Bool) → shows ≡ seen → shows ≡ is_some o → option_copied o ≡ head → is_some head ≡ seen
copied_some None head shows seen is tested copied = ap is_some (sym copied) ∙ sym tested ∙ is
copied_some (Some x) head shows seen is tested copied = ap is_some (sym copied) ∙ sym tested ∙ is

-- where the updates stand by an answer is in range
comes_within : (last : Result Answer Stop) (r : Result Place Stop) (q : Ask) → IfOk last (Fits q) → Comes last r → IfOk r IsPlace
comes_within (Ok a) (Ok p) q fits comes = subst IsPlace (sym comes) (place_fits q a fits)
comes_within (Err e) (Err e') q fits comes = tt
comes_within (Ok a) (Err e) q fits comes = absurd comes
comes_within (Err e) (Ok p) q fits comes = absurd comes

told_same : (f f' : ℕ) (calls calls' : Option (List Call)) → f' ≡ f → calls' ≡ calls → ◌≡◌ {A = ClusterTold} (record { failures = f'; calls = calls' }) (record { failures = f; calls = calls })
told_same f f' calls calls' same untold = ap (λ (n : ℕ). record { failures = n; calls = calls' }) same ∙ ap (λ (cs : Option (List Call)). record { failures = f; calls = cs }) untold

-- memory was refused before the look
pub begins_unnamed : (now f f' : ℕ) (calls calls' : Option (List Call)) → f' ≡ f → calls' ≡ calls → Begins now (Err stop.Memory) (record { failures = f; calls = calls }) (record { failures = f'; calls = calls' })
begins_unnamed now f f' calls calls' unfailed untold =
    (tt, inl (record { last = Err stop.Memory; asked = record { failures = unfailed; calls = inl untold }; found = tt; comes = refl }))

-- the look showed the head
pub begins_found : (now f f' f'' : ℕ) (calls calls' calls'' : Option (List Call)) (seen : Answer) (p : Place) → f' ≡ f → calls' ≡ calls → Fits look_ask seen
    → IsAnswered look_ask seen (record { failures = f'; calls = calls' }) (record { failures = f''; calls = calls'' }) → is_some (head_in seen) ≡ true → p ≡ place_in seen
    → Begins now (Ok p) (record { failures = f; calls = calls }) (record { failures = f''; calls = calls'' })
begins_found now f f' f'' calls calls' calls'' seen p unfailed untold fits asked found shown = (
  comes_within (Ok seen) (Ok p) look_ask fits shown,
  inl (record {
    last = Ok seen;
    asked = subst (λ (c : ClusterTold). IsAnswered look_ask seen c (record { failures = f''; calls = calls'' })) (told_same f f' calls calls' unfailed untold) asked;
    found = found;
    comes = shown;
  }),
)

-- the look showed no head
pub begins_made : (now f f' f'' f''' : ℕ) (calls calls' calls'' calls''' : Option (List Call)) (seen : Answer) (last : Result Answer Stop) (r : Result Place Stop) → f' ≡ f → calls' ≡ calls
    → IsAnswered look_ask seen (record { failures = f'; calls = calls' }) (record { failures = f''; calls = calls'' }) → is_some (head_in seen) ≡ false → IfOk last (Fits (begin_ask now))
    → Asks last (begin_ask now) (record { failures = f''; calls = calls'' }) (record { failures = f'''; calls = calls''' }) → Comes last r
    → Begins now r (record { failures = f; calls = calls }) (record { failures = f'''; calls = calls''' })
begins_made now f f' f'' f''' calls calls' calls'' calls''' seen last r unfailed untold looked none fits asked comes = (
  comes_within last r (begin_ask now) fits comes,
  inr (record {
    seen = seen;
    between = record { failures = f''; calls = calls'' };
    looked = subst (λ (c : ClusterTold). IsAnswered look_ask seen c (record { failures = f''; calls = calls'' })) (told_same f f' calls calls' unfailed untold) looked;
    none = none;
    last = last;
    asked = asked;
    comes = comes;
  }),
)

-- ---- the failures that are counted

-- the last ask alone may have failed
abbrev pub failures_of : Result Place Stop → ℕ → ℕ
failures_of (Err stop.Net) count = one_more count
failures_of _ count = count

asks_failures : (last : Result Answer Stop) (r : Result Place Stop) (q : Ask) (c c' : ClusterTold) → Asks last q c c' → Comes last r → c'.failures ≡ failures_of r c.failures
asks_failures (Ok a) (Ok p) q c c' asked comes = asked.failures
asks_failures (Ok a) (Err e) q c c' asked comes = absurd comes
asks_failures (Err e) (Ok p) q c c' asked comes = absurd comes
asks_failures (Err stop.Net) (Err e) q c c' asked comes = subst (λ (w : Stop). c'.failures ≡ failures_of (Err w) c.failures) (sym comes) asked.failures
asks_failures (Err stop.Memory) (Err e) q c c' asked comes = subst (λ (w : Stop). c'.failures ≡ failures_of (Err w) c.failures) (sym comes) asked.failures
asks_failures (Err stop.Write) (Err e) q c c' asked comes = absurd asked
asks_failures (Err (stop.Feed end)) (Err e) q c c' asked comes = absurd asked

pub begins_failures : (now : ℕ) (r : Result Place Stop) (c c' : ClusterTold) → Begins now r c c' → c'.failures ≡ failures_of r c.failures
begins_failures now r c c' (within, inl h) = asks_failures h.last r look_ask c c' h.asked h.comes
begins_failures now r c c' (within, inr h) = asks_failures h.last r (begin_ask now) h.between c' h.asked h.comes ∙ ap (failures_of r) (h.looked).failures

-- without an answer it is known why
abbrev pub IsWhy : Stop → Type 0
IsWhy stop.Net = Unit {0}
IsWhy stop.Memory = Unit {0}
IsWhy _ = ⊥

asks_why : (last : Result Answer Stop) (why : Stop) (q : Ask) (c c' : ClusterTold) → Asks last q c c' → Comes last (Err why) → IsWhy why
asks_why (Ok a) why q c c' asked comes = absurd comes
asks_why (Err stop.Net) why q c c' asked comes = subst IsWhy (sym comes) tt
asks_why (Err stop.Memory) why q c c' asked comes = subst IsWhy (sym comes) tt
asks_why (Err stop.Write) why q c c' asked comes = absurd asked
asks_why (Err (stop.Feed end)) why q c c' asked comes = absurd asked

pub begins_why : (now : ℕ) (why : Stop) (c c' : ClusterTold) → Begins now (Err why) c c' → IsWhy why
begins_why now why c c' (within, inl h) = asks_why h.last why look_ask c c' h.asked h.comes
begins_why now why c c' (within, inr h) = asks_why h.last why (begin_ask now) h.between c' h.asked h.comes
