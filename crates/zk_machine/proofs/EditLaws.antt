-- Changes of a tree that are carried out node by node.
use Rattle.std.proofs.Common.{◌≡◌, ◌≢◌, ℤ, Option, Some, None, Ok, Err, sym, ap, ◌∙◌, ⊎_elim}
use Rattle.std.specs.Prelude.{Result}
use Rattle.std.specs.Result.{OnOk}
use Rattle.std.specs.FinMap.{get, insert, remove}
use Rattle.zx_base.specs.Maps.{Bytes}
use Rattle.zx_base.proofs.MapLaws.{ext, either, get-insert_same, get-insert_other, get-remove_same, get-remove_other, remove-absent}
use Rattle.zk_model.specs.declared.node.Node.{Node}
use Rattle.zk_model.specs.Paths.{parent}
use Rattle.zk_model.specs.Single.{removed, removed_under, at_parent}
use Rattle.zk_model.specs.Znodes.{Tree}
use Rattle.zk_machine.specs.Edits.{counted_create}

pub on_ok : {A E : Type 0} {P Q : Type 0} (r : Result A E) → (P → Q) → OnOk r P → OnOk r Q
on_ok (Ok x) f h = f h
on_ok (Err e) f h = tt

-- a node that is taken out and put back changed
pub insert-remove : (t : Tree) (q : Bytes) (n : Node) → insert (remove t q) q n ≡ insert t q n
insert-remove t q n = ext _ _ (λ k. ⊎_elim
    (λ (e : k ≡ q). ap (get (insert (remove t q) q n)) e ∙ get-insert_same (remove t q) q n ∙ sym (ap (get (insert t q n)) e ∙ get-insert_same t q n))
    (λ (a : k ≢ q). get-insert_other (remove t q) q k n a ∙ get-remove_other t q k a ∙ sym (get-insert_other t q k n a))
    (either k q))

get-removed : (t : Tree) (p q k : Bytes) → k ≢ q → get (remove (remove t q) p) k ≡ get (remove t p) k
get-removed t p q k a = ⊎_elim
    (λ (e : k ≡ p). ap (get (remove (remove t q) p)) e ∙ get-remove_same (remove t q) p ∙ sym (ap (get (remove t p)) e ∙ get-remove_same t p))
    (λ (b : k ≢ p). get-remove_other (remove t q) p k b ∙ get-remove_other t q k a ∙ sym (get-remove_other t p k b))
    (either k p)

insert-remove_both : (t : Tree) (p q : Bytes) (n : Node) → insert (remove (remove t q) p) q n ≡ insert (remove t p) q n
insert-remove_both t p q n = ext _ _ (λ k. ⊎_elim
    (λ (e : k ≡ q). ap (get (insert (remove (remove t q) p) q n)) e ∙ get-insert_same (remove (remove t q) p) q n
    ∙ sym (ap (get (insert (remove t p) q n)) e ∙ get-insert_same (remove t p) q n))
    (λ (a : k ≢ q). get-insert_other (remove (remove t q) p) q k n a ∙ get-removed t p q k a ∙ sym (get-insert_other (remove t p) q k n a))
    (either k q))

-- ---- the parent's count of creates

pub counted-absent : (t u : Tree) (q : Bytes) (creates zxid : ℤ) → u ≡ remove t q → None ≡ get t q → u ≡ counted_create t q creates zxid (get t q)
counted-absent t u q creates zxid removes none = removes ∙ remove-absent t q (sym none) ∙ ap (counted_create t q creates zxid) none

pub counted-there : (t u v : Tree) (q : Bytes) (creates zxid : ℤ) (up : Node) → u ≡ remove t q → Some up ≡ get t q
    → v ≡ insert u q (record up { pzxid = zxid; creates = creates }) → v ≡ counted_create t q creates zxid (get t q)
counted-there t u v q creates zxid up removes there puts =
    puts ∙ ap (λ (x : Tree). insert x q (record up { pzxid = zxid; creates = creates })) removes
    ∙ insert-remove t q (record up { pzxid = zxid; creates = creates }) ∙ ap (counted_create t q creates zxid) there

-- ---- removals

removed_at : (t : Tree) (p q : Bytes) (zxid : ℤ) (o : Option Node) → parent p ≡ Some q → o ≡ get t q → removed_under t p zxid (Some q) o ≡ removed t p zxid
removed_at t p q zxid o is there = ap (removed_under t p zxid (Some q)) there ∙ ap (λ (x : Option Bytes). removed_under t p zxid x (at_parent t x)) (sym is)

pub removed-alone : (t u v : Tree) (p q : Bytes) (zxid : ℤ) → parent p ≡ Some q → u ≡ remove t q → None ≡ get t q → v ≡ remove u p → v ≡ removed t p zxid
removed-alone t u v p q zxid is takes none removes =
    removes ∙ ap (λ (x : Tree). remove x p) (takes ∙ remove-absent t q (sym none)) ∙ removed_at t p q zxid None is none

pub removed-below : (t u v w : Tree) (p q : Bytes) (zxid : ℤ) (up : Node) → parent p ≡ Some q → u ≡ remove t q → Some up ≡ get t q → v ≡ remove u p
    → w ≡ insert v q (record up { pzxid = zxid }) → w ≡ removed t p zxid
removed-below t u v w p q zxid up is takes there removes puts =
    puts ∙ ap (λ (x : Tree). insert x q (record up { pzxid = zxid })) (removes ∙ ap (λ (x : Tree). remove x p) takes)
    ∙ insert-remove_both t p q (record up { pzxid = zxid }) ∙ removed_at t p q zxid (Some up) is there
