-- Reading the items of a vector or a multi one after the other, as a loop does.
use Rattle.std.proofs.Common.{◌≡◌, ℕ, suc, ◌-◌, ◌+◌, ◌≤◌, ◌<◌, List, [], ◌∷◌, ◌++◌, Option, Ok, Err, refl, sym, ap, ◌∙◌, arith}
use Rattle.std.proofs.lemmas.List.{append-nil}
use Rattle.zk_jute.specs.JuteReading.{Read, items_at}
use Rattle.zk_jute.proofs.Items.{with_front, with_front-cons, Goes, fails}
use Rattle.zk_wire.specs.declared.fault.Fault.{Fault}
use Rattle.zk_wire.specs.declared.fault.Fault.TheVariants.{Memory, Unreadable}
use Rattle.zk_wire.specs.Giving.{Gives}

pub goes_on : {A : Type 0} (item : List ℕ → Read A) (front : List A) (count i : ℕ) (bytes : List ℕ) (x : A) (after : List ℕ) (total : Read (List A)) → i < count → item bytes ≡ Ok (x, after)
    → with_front front (items_at item (count - i) bytes) ≡ total → with_front (front ++ x ∷ []) (items_at item (count - (i + 1)) after) ≡ total
unfolding items_at
goes_on {A = A} item front count i bytes x after total lt h so_far =
    let k : count - i ≡ suc (count - (i + 1)) = omega arith in
    let one : with_front front (items_at item (count - i) bytes) ≡ with_front (front ++ x ∷ []) (items_at item (count - (i + 1)) after) = rw (k, h) (with_front-cons front x (items_at item (count - (i + 1)) after)) in
    sym one ∙ so_far

pub ends : {A : Type 0} (item : List ℕ → Read A) (e : Fault) (front : List A) (count i : ℕ) (bytes after last : List ℕ) (total : Read (List A)) → i < count
    → Gives {X = A} (λ x. x) (Err e) after (item bytes)
    → with_front front (items_at item (count - i) bytes) ≡ total → Gives {X = List A} (λ x. x) (Err e) last total
unfolding items_at
ends {A = A} item Memory front count i bytes after last total lt h so_far = tt
ends {A = A} item (Unreadable left) front count i bytes after last total lt h so_far =
    let k : count - i ≡ suc (count - (i + 1)) = omega arith in
    let one : with_front front (items_at item (count - i) bytes) ≡ Err left = rw (k, h) refl in
    sym so_far ∙ one

pub is_done : {A : Type 0} (item : List ℕ → Read A) (front : List A) (count i : ℕ) (bytes : List ℕ) (total : Read (List A)) → count ≤ i → with_front front (items_at item (count - i) bytes) ≡ total → total ≡ Ok (front, bytes)
unfolding items_at
is_done {A = A} item front count i bytes total le so_far =
    let k : count - i ≡ 0 = omega arith in
    let one : with_front front (items_at item (count - i) bytes) ≡ Ok (front, bytes) = rw k (ap (λ (xs : List A). Ok (xs, bytes)) (append-nil front)) in
    sym so_far ∙ one

-- an item that can't be read ends a multi
pub ends_listed : {A : Type 0} (next : List ℕ → Read (Option A)) (e : Fault) (items : List A) (bytes after last : List ℕ) (total : Read (List A)) → Goes next items bytes total
    → Gives {X = Option A} (λ x. x) (Err e) after (next bytes) → Gives {X = List A} (λ x. x) (Err e) last total
ends_listed {A = A} next Memory items bytes after last total goes h = tt
ends_listed {A = A} next (Unreadable left) items bytes after last total goes h = fails next items bytes left total goes h
