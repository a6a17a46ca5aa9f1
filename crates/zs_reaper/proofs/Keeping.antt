-- Which link is kept, and what the net counts.
use Rattle.std.proofs.Common.{◌≡◌, ℕ, zero, suc, ◌+◌, ◌<◌, refl, ap, ◌∙◌, subst, arith, inl, inr}
use Rattle.std.specs.Prelude.{Bool, true, false, Option, Some, None, Result, Ok, Err}
use Rattle.ev_link.specs.declared.failure.LinkFailure.{LinkFailure}
use Rattle.ev_link.specs.declared.failure.LinkFailure.TheVariants as failure
use Rattle.ev_faults.specs.declared.fault.Fault.{Fault}
use Rattle.ev_faults.specs.declared.fault.Fault.TheVariants as told
use Rattle.ev_link.specs.Dialling.{undialled}
use Rattle.ev_link.specs.Reaching.{undialled_times}
use Rattle.zx_net.specs.Nets.{NetCounts}
use Rattle.zs_reaper.specs.declared.calling.TurnFault.{TurnFault}
use Rattle.zs_reaper.specs.declared.calling.TurnFault.TheVariants as turn
use Rattle.zs_reaper.specs.Calling.{LinkTold, Makes}
use Rattle.zs_reaper.specs.Turning.{DialsFor, DialsOver, IsLeftNone, Turns, TurnsOn, TurnsOver, begun_from, damage_told, fault_in}
use Rattle.zs_reaper.specs.Working.{OnlyDials}

-- ---- the link

pub kept_on : (damaged : Bool) (old new : LinkTold) (result : Result (Unit {0}) Fault) → Makes (Turns (Ok damaged)) old new → result ≡ damage_told damaged → TurnsOn old (Some new) result
kept_on damaged old new result m is = inl (damaged, m, is)

pub met_on : (old new : LinkTold) → Makes (Turns (Err turn.Met)) old new → TurnsOn old (Some new) (Ok tt)
met_on old new m = inr (m, refl)

none-on : (why : TurnFault) (fault : Fault) (old new : LinkTold) → (why ≡ turn.Met → ⊥) → Makes (Turns (Err why)) old new → TurnsOn old None (Err fault)
none-on why fault old new other m = (fault, why, new, refl, other, m)

failed-met : turn.Failed ≡ turn.Met → ⊥
failed-met e = cc

unlisted-met : turn.NoList ≡ turn.Met → ⊥
unlisted-met e = cc

starved-met : turn.Memory ≡ turn.Met → ⊥
starved-met e = cc

pub failed_on : (fault : Fault) (old new : LinkTold) → Makes (Turns (Err turn.Failed)) old new → TurnsOn old None (Err fault)
failed_on fault old new m = none-on turn.Failed fault old new failed-met m

pub unlisted_on : (fault : Fault) (old new : LinkTold) → Makes (Turns (Err turn.NoList)) old new → TurnsOn old None (Err fault)
unlisted_on fault old new m = none-on turn.NoList fault old new unlisted-met m

pub starved_on : (fault : Fault) (old new : LinkTold) → Makes (Turns (Err turn.Memory)) old new → TurnsOn old None (Err fault)
starved_on fault old new m = none-on turn.Memory fault old new starved-met m

pub over_link : (old new : Option LinkTold) (begun : LinkTold) (result : Result (Unit {0}) Fault) → begun ≡ begun_from old → TurnsOn begun new result → TurnsOver old new result
over_link old new begun result is t = inl (subst (λ (x : LinkTold). TurnsOn x new result) is t)

pub over_none : (old : Option LinkTold) (fault : Fault) → IsLeftNone old → TurnsOver old None (Err fault)
over_none old fault none = inr (none, tt, (fault, refl))

-- ---- the net

pub linked_fault : (kept : Option LinkFailure) → fault_in kept ≡ told.Dial → ⊥
linked_fault None h = absurd (cc)
linked_fault (Some (failure.Http fault)) h = absurd (cc)
linked_fault (Some (failure.Json fault)) h = absurd (cc)

pub damage_linked : (damaged : Bool) → damage_told damaged ≡ Err told.Dial → ⊥
damage_linked true h = absurd (cc)
damage_linked false h = absurd (cc)

-- what is dialled for a new link, of which the turn is told
for_told : {A : Type 0} (result : Result A Fault) (size : ℕ) (counts counts' : NetCounts) → ((failed : ℕ) × (failed < size) × (counts' ≡ undialled_times failed counts)) → (result ≡ Err told.Dial → ⊥) → DialsFor result size counts counts'
for_told (Ok x) size counts counts' h other = h
for_told (Err told.First) size counts counts' h other = h
for_told (Err (told.Undialled why)) size counts counts' h other = h
for_told (Err told.Dial) size counts counts' h other = absurd (other refl)
for_told (Err (told.Http fault)) size counts counts' h other = h
for_told (Err (told.Json fault)) size counts counts' h other = h
for_told (Err told.Ended) size counts counts' h other = h
for_told (Err (told.Compacted rev)) size counts counts' h other = h
for_told (Err (told.Gap expected found)) size counts counts' h other = h
for_told (Err told.Damaged) size counts counts' h other = h
for_told (Err told.NoLine) size counts counts' h other = h
for_told (Err told.Silent) size counts counts' h other = h
for_told (Err (told.Behind rev)) size counts counts' h other = h
for_told (Err told.NoRoom) size counts counts' h other = h
for_told (Err (told.Listen why)) size counts counts' h other = h
for_told (Err told.Thread) size counts counts' h other = h
for_told (Err told.Scheme) size counts counts' h other = h
for_told (Err told.Memory) size counts counts' h other = h

-- the same, where a link may have been kept
pub dials_told : {L A B : Type 0} (kept : Option L) (mine : A) (result : Result B Fault) (size : ℕ) (counts counts' : NetCounts)
    → DialsOver {A = A} kept (Ok mine) size counts counts' → (result ≡ Err told.Dial → ⊥) → DialsOver kept result size counts counts'
dials_told (Some link) mine result size counts counts' h other = h
dials_told None mine result size counts counts' h other = for_told result size counts counts' h other

for_unlinked : (A B : Type 0) (fault : Fault) (size : ℕ) (counts counts' : NetCounts) → DialsFor {A = A} (Err fault) size counts counts' → DialsFor {A = B} (Err fault) size counts counts'
for_unlinked A B told.First size counts counts' h = h
for_unlinked A B (told.Undialled why) size counts counts' h = h
for_unlinked A B told.Dial size counts counts' h = h
for_unlinked A B (told.Http fault) size counts counts' h = h
for_unlinked A B (told.Json fault) size counts counts' h = h
for_unlinked A B told.Ended size counts counts' h = h
for_unlinked A B (told.Compacted rev) size counts counts' h = h
for_unlinked A B (told.Gap expected found) size counts counts' h = h
for_unlinked A B told.Damaged size counts counts' h = h
for_unlinked A B told.NoLine size counts counts' h = h
for_unlinked A B told.Silent size counts counts' h = h
for_unlinked A B (told.Behind rev) size counts counts' h = h
for_unlinked A B told.NoRoom size counts counts' h = h
for_unlinked A B (told.Listen why) size counts counts' h = h
for_unlinked A B told.Thread size counts counts' h = h
for_unlinked A B told.Scheme size counts counts' h = h
for_unlinked A B told.Memory size counts counts' h = h

-- there is no link
pub dials_unlinked : (L A B : Type 0) (kept : Option L) (fault : Fault) (size : ℕ) (counts counts' : NetCounts)
    → DialsOver {A = A} kept (Err fault) size counts counts' → DialsOver {A = B} kept (Err fault) size counts counts'
dials_unlinked L A B (Some link) fault size counts counts' h = h
dials_unlinked L A B None fault size counts counts' h = for_unlinked A B fault size counts counts' h

-- ---- the worker

times-both : (n m : ℕ) (counts : NetCounts) → undialled_times n (undialled_times m counts) ≡ undialled_times (m + n) counts
times-both zero m counts = let all : m ≡ m + 0 = omega arith in ap (λ (k : ℕ). undialled_times k counts) all
times-both (suc n) m counts = ap undialled (times-both n m counts) ∙ (let all : suc (m + n) ≡ m + suc n = omega arith in ap (λ (k : ℕ). undialled_times k counts) all)

for-dials : (result : Result (Unit {0}) Fault) (size : ℕ) (counts counts' : NetCounts) → DialsFor result size counts counts' → OnlyDials counts counts'
for-dials (Ok x) size counts counts' h = record { failed = h.0; counted = h.2 }
for-dials (Err told.First) size counts counts' h = record { failed = h.0; counted = h.2 }
for-dials (Err (told.Undialled why)) size counts counts' h = record { failed = h.0; counted = h.2 }
for-dials (Err told.Dial) size counts counts' h = record { failed = size; counted = h }
for-dials (Err (told.Http fault)) size counts counts' h = record { failed = h.0; counted = h.2 }
for-dials (Err (told.Json fault)) size counts counts' h = record { failed = h.0; counted = h.2 }
for-dials (Err told.Ended) size counts counts' h = record { failed = h.0; counted = h.2 }
for-dials (Err (told.Compacted rev)) size counts counts' h = record { failed = h.0; counted = h.2 }
for-dials (Err (told.Gap expected found)) size counts counts' h = record { failed = h.0; counted = h.2 }
for-dials (Err told.Damaged) size counts counts' h = record { failed = h.0; counted = h.2 }
for-dials (Err told.NoLine) size counts counts' h = record { failed = h.0; counted = h.2 }
for-dials (Err told.Silent) size counts counts' h = record { failed = h.0; counted = h.2 }
for-dials (Err (told.Behind rev)) size counts counts' h = record { failed = h.0; counted = h.2 }
for-dials (Err told.NoRoom) size counts counts' h = record { failed = h.0; counted = h.2 }
for-dials (Err (told.Listen why)) size counts counts' h = record { failed = h.0; counted = h.2 }
for-dials (Err told.Thread) size counts counts' h = record { failed = h.0; counted = h.2 }
for-dials (Err told.Scheme) size counts counts' h = record { failed = h.0; counted = h.2 }
for-dials (Err told.Memory) size counts counts' h = record { failed = h.0; counted = h.2 }

over-dials : {L : Type 0} (kept : Option L) (result : Result (Unit {0}) Fault) (size : ℕ) (counts counts' : NetCounts) → DialsOver kept result size counts counts' → OnlyDials counts counts'
over-dials (Some link) result size counts counts' h = record { failed = 0; counted = h }
over-dials None result size counts counts' h = for-dials result size counts counts' h

then-dials : (a b c : NetCounts) → OnlyDials a b → OnlyDials b c → OnlyDials a c
then-dials a b c h k = record { failed = h.failed + k.failed; counted = k.counted ∙ ap (undialled_times k.failed) h.counted ∙ times-both k.failed h.failed a }

pub dials_first : (counts : NetCounts) → OnlyDials counts counts
dials_first counts = record { failed = 0; counted = refl }

pub dials_more : (L : Type 0) (kept : Option L) (result : Result (Unit {0}) Fault) (size : ℕ) (a b c : NetCounts) → OnlyDials a b → DialsOver kept result size b c → OnlyDials a c
dials_more L kept result size a b c h over = then-dials a b c h (over-dials kept result size b c over)
