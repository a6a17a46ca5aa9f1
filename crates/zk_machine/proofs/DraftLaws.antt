-- A tree after writes: what is found, and how counts change.
use Rattle.std.proofs.Common.{◌≡◌, ◌≢◌, ℕ, ℤ, Bool, true, false, cond, Option, Some, None, List, [], ◌∷◌, ◌++◌, length, refl, sym, ap, ◌∙◌, subst, ⊎_elim, option_map}
use Rattle.std.specs.Prelude.{is_some, ◌&&◌}
use Rattle.std.specs.FinMap.{get, insert, remove, len}
use Rattle.zx_base.specs.Maps.{Bytes, same}
use Rattle.zx_base.proofs.MapLaws.{either, same-refl, same-false, get-retain, get-insert_same, get-insert_other, get-remove_same, get-remove_other, retain-insert_in, retain-insert_out, retain-remove, remove-absent, len-insert_new, len-insert_there, len-remove_there}
use Rattle.zk_model.specs.declared.node.Node.{Node}
use Rattle.zk_model.specs.Paths.{is_child}
use Rattle.zk_model.specs.Znodes.{Tree, below, num_children, owned, owned_by, is_owner}
use Rattle.zk_service.proofs.Owned.{get-owned_as, num_owned, owned_by-gone}
use Rattle.zk_machine.specs.declared.write.Write.{Write}
use Rattle.zk_machine.specs.Tallies.{tallied, tallied_all, was_child, is_child_now, is_own, was_owned, is_owned_now, found_after}
use Rattle.zk_machine.specs.Writes.{put_or_taken, written, written_all, owner_at, AreTold}
use Rattle.zk_machine.proofs.GroupLaws.{owned_by-put, owned_by-put_out, none_below}
use Rattle.zx_base.proofs.Options.{is_some-map}

-- ---- one write more

pub written-push : (t : Tree) (ws : List Write) (w : Write) → written_all t (ws ++ w ∷ []) ≡ written (written_all t ws) w
written-push t [] w = refl
written-push t (x ∷ ws) w = written-push (written t x) ws w

pub told-push : (t : Tree) (ws : List Write) (w : Write) → AreTold t ws → w.before ≡ owner_at (written_all t ws) w.path → AreTold t (ws ++ w ∷ [])
told-push t [] w told is = (is, tt)
told-push t (x ∷ ws) w told is = (told.0, told-push (written t x) ws w told.1 is)

-- ---- look-ups

get-put_or_taken : (t : Tree) (p q : Bytes) (o : Option Node) → get (put_or_taken t p o) q ≡ cond (same p q) o (get t q)
get-put_or_taken t p q o = ⊎_elim
    (λ (e : p ≡ q). subst (λ (x : Bytes). get (put_or_taken t p o) x ≡ cond (same p x) o (get t x)) e (at_p o ∙ sym (ap (λ b. cond b o (get t p)) (same-refl p))))
    (λ (a : p ≢ q). elsewhere o (λ e. a (sym e)) ∙ sym (ap (λ b. cond b o (get t q)) (same-false p q a)))
    (either p q)
  where
    at_p : (x : Option Node) → get (put_or_taken t p x) p ≡ x
    at_p None = get-remove_same t p
    at_p (Some n) = get-insert_same t p n

    elsewhere : (x : Option Node) → q ≢ p → get (put_or_taken t p x) q ≡ get t q
    elsewhere None a = get-remove_other t p q a
    elsewhere (Some n) a = get-insert_other t p q n a

pub get-written : (t : Tree) (ws : List Write) (q : Bytes) → found_after q (get t q) ws ≡ get (written_all t ws) q
get-written t [] q = refl
get-written t (w ∷ ws) q = ap (λ (o : Option Node). found_after q o ws) (sym (get-put_or_taken t w.path q w.node)) ∙ get-written (written t w) ws q

-- ---- children

-- the node at p counts where the path does and it is there
tally_child : (t : Tree) (p q : Bytes) (o old : Option Node) (child : Bool) → is_child p q ≡ child → get t q ≡ old
    → tallied (child && is_some old) (child && is_some o) (num_children t p) ≡ num_children (put_or_taken t q o) p
tally_child t p q None old false out is = sym (ap len (retain-remove t (is_child p) q ∙ remove-absent (below t p) q (none_below t p q out)))
tally_child t p q (Some n) old false out is = sym (ap len (retain-insert_out t (is_child p) q n out))
tally_child t p q None None true inside is = sym (ap len (retain-remove t (is_child p) q ∙ remove-absent (below t p) q (get-retain t (is_child p) q ∙ ap (λ b. cond b (get t q) None) inside ∙ is)))
tally_child t p q None (Some old) true inside is =
    sym (ap len (retain-remove t (is_child p) q) ∙ len-remove_there (below t p) q old (get-retain t (is_child p) q ∙ ap (λ b. cond b (get t q) None) inside ∙ is))
tally_child t p q (Some n) None true inside is =
    sym (ap len (retain-insert_in t (is_child p) q n inside) ∙ len-insert_new (below t p) q n (get-retain t (is_child p) q ∙ ap (λ b. cond b (get t q) None) inside ∙ is))
tally_child t p q (Some n) (Some old) true inside is =
    sym (ap len (retain-insert_in t (is_child p) q n inside) ∙ len-insert_there (below t p) q n old (get-retain t (is_child p) q ∙ ap (λ b. cond b (get t q) None) inside ∙ is))

pub children-written : (t : Tree) (ws : List Write) (p : Bytes) → AreTold t ws → tallied_all (was_child p) (is_child_now p) (num_children t p) ws ≡ num_children (written_all t ws) p
children-written t [] p told = refl
children-written t (w ∷ ws) p told =
    ap (λ (n : ℕ). tallied_all (was_child p) (is_child_now p) n ws)
    (ap (λ (b : Bool). tallied (is_child p w.path && b) (is_child_now p w) (num_children t p)) (ap is_some told.0 ∙ is_some-map (λ n. n.owner) (get t w.path))
    ∙ tally_child t p w.path w.node (get t w.path) (is_child p w.path) refl refl)
    ∙ children-written (written t w) ws p told.1

-- ---- nodes of a session

-- how a session's count changes where a node that was there, or was not, is taken out
left_tally : (t : Tree) (q : Bytes) (id : ℤ) (old : Option Node) (b : Bool) → is_owner id old ≡ b → get t q ≡ old → tallied b false (len (owned_by t id)) ≡ len (remove (owned_by t id) q)
left_tally t q id None true is there = absurd (cc)
left_tally t q id (Some n) true is there = sym (len-remove_there (owned_by t id) q n (get-owned_as t id q (Some n) there ∙ ap (λ b. cond b (Some n) None) is))
left_tally t q id old false is there = sym (ap len (remove-absent (owned_by t id) q (get-owned_as t id q old there ∙ ap (λ b. cond b old None) is)))

put_tally : (t : Tree) (q : Bytes) (id : ℤ) (n : Node) (old : Option Node) (b : Bool) → is_owner id old ≡ b → get t q ≡ old → tallied b true (len (owned_by t id)) ≡ len (insert (owned_by t id) q n)
put_tally t q id n None true is there = absurd (cc)
put_tally t q id n (Some old) true is there = sym (len-insert_there (owned_by t id) q n old (get-owned_as t id q (Some old) there ∙ ap (λ b. cond b (Some old) None) is))
put_tally t q id n old false is there = sym (len-insert_new (owned_by t id) q n (get-owned_as t id q old there ∙ ap (λ b. cond b old None) is))

tally_owned : (t : Tree) (q : Bytes) (id : ℤ) (o old : Option Node) (mine : Bool) → is_owner id o ≡ mine → get t q ≡ old
    → tallied (is_owner id old) mine (len (owned_by t id)) ≡ len (owned_by (put_or_taken t q o) id)
tally_owned t q id None old true is there = absurd (cc)
tally_owned t q id None old false is there = left_tally t q id old (is_owner id old) refl there ∙ ap len (sym (owned_by-gone t q id))
tally_owned t q id (Some n) old true is there = put_tally t q id n old (is_owner id old) refl there ∙ ap len (sym (owned_by-put t q n id is))
tally_owned t q id (Some n) old false is there = left_tally t q id old (is_owner id old) refl there ∙ ap len (sym (owned_by-put_out t q n id is))

is_own-map : (id : ℤ) (o : Option Node) → is_own id (option_map (λ n. n.owner) o) ≡ is_owner id o
is_own-map id None = refl
is_own-map id (Some n) = refl

pub owned-written : (t : Tree) (ws : List Write) (id : ℤ) → AreTold t ws → tallied_all (was_owned id) (is_owned_now id) (length (owned t id)) ws ≡ length (owned (written_all t ws) id)
owned-written t [] id told = refl
owned-written t (w ∷ ws) id told =
    ap (λ (n : ℕ). tallied_all (was_owned id) (is_owned_now id) n ws)
    (ap (λ (b : Bool). tallied b (is_owner id w.node) (length (owned t id))) (ap (is_own id) told.0 ∙ is_own-map id (get t w.path))
    ∙ ap (tallied (is_owner id (get t w.path)) (is_owner id w.node)) (num_owned t id)
    ∙ tally_owned t w.path id w.node (get t w.path) (is_owner id w.node) refl refl ∙ sym (num_owned (written t w) id))
    ∙ owned-written (written t w) ws id told.1
