-- The first transaction makes the first state of a new store.
use Rattle.std.proofs.Common.{Bool, ◌≡◌, ℕ, ◌<◌, ◌^◌, ℤ, pos, true, false, cond, List, [], ◌∷◌, ◌++◌, Option, Some, None, refl, sym, ap, ◌∙◌, subst, arith}
use Rattle.std.specs.Prelude.{◌&&◌}
use Rattle.std.specs.Ordering.{nat_cmp, int_cmp, int_eq}
use Rattle.std.specs.Cmp.Lexicographic.{slice_cmp}
use Rattle.std.specs.FinMap.{get, empty, get-empty}
use Rattle.std.proofs.lemmas.Int.{ints}
use Rattle.ev_types.specs.declared.answer.Kv.{Kv}
use Rattle.ev_types.specs.declared.ask.Act.{Act}
use Rattle.ev_types.specs.declared.ask.Ask.TheVariants as ask
use Rattle.ev_types.specs.declared.ask.Guard.{Guard}
use Rattle.ev_types.specs.declared.answer.ActAns.{ActAns}
use Rattle.ev_types.specs.declared.answer.ActAns.TheVariants as part
use Rattle.ev_types.specs.declared.answer.Answer.TheVariants as answer
use Rattle.ev_types.specs.declared.answer.RangeAns.{RangeAns}
use Rattle.ev_types.specs.Ranges.{Keys}
use Rattle.ev_types.proofs.Found.{found-key}
use Rattle.ev_types.specs.Store.{Store, Done, new_store, revision, present, put_over, mod_of, succeeds, worked, grown, acts_applied}
use Rattle.ev_types.specs.Denials.{is_denied, carry}
use Rattle.zk_model.specs.declared.node.Node.{Node}
use Rattle.zk_model.specs.Paths.{root}
use Rattle.zk_model.specs.Znodes.{num_children, owned, new_node}
use Rattle.zk_service.specs.States.{Session, nothing_yet, first_state}
use Rattle.zx_base.specs.Maps.{Bytes, same}
use Rattle.zx_base.proofs.MapLaws.{same-true, apart-from_same}
use Rattle.zx_base.proofs.Options.{none_some}
use Rattle.zn_layout.specs.Keys.{Key, HeadKey, DataKey, CountsKey, SessionKey, LeaseKey, key_bytes, front}
use Rattle.zn_layout.specs.Records.{node_value, counts_value, head_value, IsLongCount, IsNodeRec}
use Rattle.zn_layout.specs.StandsFor.{Stored, stored_of, at, Means, IsData, IsCounts, is_counted, is_counted_in, DataMeans, CountsMean, NodesMean, LifeMeans, IsHead, AreLayout, StandsFor}
use Rattle.zn_layout.specs.Begin.{new_record, first_counts, begin_changes, head_is_absent, first_head, begin_parts, begin_ask, Begins}
use Rattle.ev_types.specs.Reads.{read_key, one_found}
use Rattle.zn_layout.specs.Changes.{acts_of, update_acts, put_or_else, last}
use Rattle.zn_layout.specs.Updates.{update_txn}
use Rattle.zn_layout.specs.Fits.{KeyFits}
use Rattle.zn_layout.proofs.First.{first_tree, first_there, first_other, first_childless}
use Rattle.zn_layout.proofs.Stands.{all_of, head_there, stands_over}
use Rattle.zn_layout.proofs.Applied.{at-unwritten}
use Rattle.zn_layout.proofs.Denials.{update-not_denied}
use Rattle.zn_layout.proofs.Commits.{carried, split, committed}
use Rattle.ev_types.proofs.Grown.{present-is}

abbrev begin_guards : List Guard
begin_guards = head_is_absent ∷ []

abbrev begin_again : List Act
begin_again = read_key (key_bytes HeadKey) ∷ []

-- ---- each key

time_within : (now : ℕ) → now < 2 ^ 62 → IsLongCount (pos now)
time_within now h = record { least = omega (arith, ints); most = omega (arith, ints) }

root_bounds : (now : ℕ) → now < 2 ^ 62 → IsNodeRec (new_record [] now (pos 0))
root_bounds now h = record {
  czxid = record { least = omega (arith, ints); most = omega (arith, ints) };
  version_least = omega (arith, ints);
  version_most = omega (arith, ints);
  ctime = time_within now h;
  mtime = time_within now h;
  owner = record { least = omega (arith, ints); most = omega (arith, ints) };
  content = omega arith;
}

root_data : (now : ℕ) → now < 2 ^ 62 → IsData (record { value = node_value (new_record [] now (pos 0)); revision = pos 2; lease = pos 0 }) (new_node [] (pos 0) (pos 2) now)
root_data now h = record { stored = pos 0; fits = root_bounds now h; value = refl; made = refl; changed = refl; free = refl }

root_counts : (now : ℕ) → IsCounts (record { value = counts_value first_counts; revision = pos 2; lease = pos 0 }) (new_node [] (pos 0) (pos 2) now) 0
root_counts now = record {
  fits = record { children = omega (arith, ints); fewer = omega (arith, ints); creates = omega (arith, ints) };
  value = refl;
  pzxid = refl;
  free = refl;
}

-- what isn't there means nothing
no_data : (o : Option Node) (w : Option Node) (x : Option Stored) → o ≡ None → w ≡ None → DataMeans o x → DataMeans w x
no_data None None x e f h = h
no_data None (Some n) x e f h = absurd cc
no_data (Some m) w x e f h = absurd cc

no_counted : (o w : Option Node) (j k : ℕ) (b d : Bool) (x : Option Stored) → o ≡ None → w ≡ None → CountsMean o j b x → CountsMean w k d x
no_counted None None j k b d None e f h = tt
no_counted None None j k b d (Some s) e f h = h
no_counted None (Some n) j k b d x e f h = absurd cc
no_counted (Some m) w j k b d x e f h = absurd cc

no_nodes : (x : Option Session) (ps qs : List Bytes) (o : Option Stored) → x ≡ None → NodesMean x ps o → NodesMean x qs o
no_nodes None ps qs None e h = tt
no_nodes None ps qs (Some o) e h = h
no_nodes (Some x) ps qs o e h = absurd cc

data_fits : (now : ℕ) → now < 2 ^ 62 → (p : Bytes) → KeyFits (pos 2) (last (begin_changes now) (DataKey p)) (DataKey p) nothing_yet (first_state now)
data_fits now h p = elim (same p root) as (λ b. same p root ≡ b → KeyFits (pos 2) (cond b (Some (Some (record { value = node_value (new_record [] now (pos 0)); lease = pos 0 }))) None) (DataKey p) nothing_yet (first_state now)) [
  | true ↦ λ e. subst (λ (o : Option Node). DataMeans o (Some (record { value = node_value (new_record [] now (pos 0)); revision = pos 2; lease = pos 0 }))) (sym (ap (get (first_tree now)) (same-true p root e) ∙ first_there now)) (root_data now h)
  | false ↦ λ e o. no_data (get empty p) (get (first_tree now) p) o (get-empty (slice_cmp nat_cmp) p) (first_other now p (apart-from_same p root e))
] refl

counts_fit : (now : ℕ) (p : Bytes) → KeyFits (pos 2) (last (begin_changes now) (CountsKey p)) (CountsKey p) nothing_yet (first_state now)
counts_fit now p = elim (same p root) as (λ b. same p root ≡ b → KeyFits (pos 2) (put_or_else (cond b (Some (Some (record { value = counts_value first_counts; lease = pos 0 }))) None) None) (CountsKey p) nothing_yet (first_state now)) [
  | true ↦ λ e. subst (λ (o : Option Node). CountsMean o (num_children (first_tree now) p) (is_counted_in (first_state now) o) (Some (record { value = counts_value first_counts; revision = pos 2; lease = pos 0 }))) (sym (ap (get (first_tree now)) (same-true p root e) ∙ first_there now))
      (subst (λ (b : Bool). CountsMean (Some (new_node [] (pos 0) (pos 2) now)) (num_children (first_tree now) p) b (Some (record { value = counts_value first_counts; revision = pos 2; lease = pos 0 }))) (sym (ap is_counted (get-empty int_cmp (pos 0))))
      (subst (λ (k : ℕ). IsCounts (record { value = counts_value first_counts; revision = pos 2; lease = pos 0 }) (new_node [] (pos 0) (pos 2) now) k) (sym (first_childless now p)) (root_counts now)))
  | false ↦ λ e o. no_counted (get empty p) (get (first_tree now) p) _ _ _ _ o (get-empty (slice_cmp nat_cmp) p) (first_other now p (apart-from_same p root e))
] refl

key_fits : (now : ℕ) → now < 2 ^ 62 → (k : Key) → KeyFits (pos 2) (last (begin_changes now) k) k nothing_yet (first_state now)
key_fits now h HeadKey = λ o x. x
key_fits now h (DataKey p) = data_fits now h p
key_fits now h (CountsKey p) = counts_fit now p
key_fits now h (SessionKey id) = λ o. no_nodes (get empty (pos id)) _ _ o (get-empty int_cmp (pos id))
key_fits now h (LeaseKey id) = λ o x. x

-- ---- the keys of a new store

no_keys : present new_store ≡ empty
no_keys = present-is new_store

none_there : (k : Key) → at empty k ≡ None
none_there k = get-empty (slice_cmp nat_cmp) (key_bytes k)

means_nothing : (k : Key) → Means nothing_yet k None
means_nothing HeadKey = tt
means_nothing (DataKey p) = subst (λ (o : Option Node). DataMeans o None) (sym (get-empty (slice_cmp nat_cmp) p)) tt
means_nothing (CountsKey p) = subst (λ (o : Option Node). CountsMean o (num_children empty p) (is_counted_in nothing_yet o) None) (sym (get-empty (slice_cmp nat_cmp) p)) tt
means_nothing (SessionKey id) = subst (λ (x : Option Session). NodesMean x (owned empty (pos id)) None) (sym (get-empty int_cmp (pos id))) tt
means_nothing (LeaseKey id) = subst (λ (x : Option Session). LifeMeans id x None) (sym (get-empty int_cmp (pos id))) tt

empty_means : (k : Key) → Means nothing_yet k (stored_of (at empty k))
empty_means k = subst (λ (o : Option Kv). Means nothing_yet k (stored_of o)) (sym (none_there k)) (means_nothing k)

nothing_there : {A : Type 0} (key : Bytes) (kv : Kv) → get (empty {X = Kv} {R = slice_cmp nat_cmp}) key ≡ Some kv → A
nothing_there key kv e = absurd (none_some (sym (get-empty (slice_cmp nat_cmp) key) ∙ e))

empty_layout : AreLayout empty
empty_layout = record {
  no_other = λ rest kv e. nothing_there (front ++ rest) kv e;
  least = λ key kv e. nothing_there key kv e;
  most = λ key kv e. nothing_there key kv e;
}

head_made : (now : ℕ) → IsHead (put_over (pos 2) (key_bytes HeadKey) (head_value []) (pos 0) (at empty HeadKey)) (first_state now)
head_made now = subst (λ (o : Option Kv). IsHead (put_over (pos 2) (key_bytes HeadKey) (head_value []) (pos 0) o) (first_state now)) (sym (none_there HeadKey)) (record {
  fits = record { count = omega arith; valid = λ k t low. absurd (omega arith) };
  value = refl;
  zxid = refl;
  number = refl;
  free = refl;
})

first_stands : (now : ℕ) → now < 2 ^ 62 → StandsFor (acts_applied (pos 2) empty (update_acts (begin_changes now) [])) (first_state now)
first_stands now h = stands_over (pos 2) (begin_changes now) [] empty nothing_yet (first_state now) (omega (arith, ints)) (omega (arith, ints)) refl (head_made now) empty_means empty_layout (record { each = key_fits now h })

-- ---- the transaction

allowed : (now : ℕ) → is_denied new_store (ask.Txn (update_txn begin_guards (begin_changes now) [] begin_again)) ≡ false
allowed now = update-not_denied new_store begin_guards (begin_changes now) [] begin_again (omega arith) (omega arith) (omega arith) refl refl refl (omega (arith, ints))

guard_holds : (now : ℕ) → succeeds new_store (update_txn begin_guards (begin_changes now) [] begin_again) ≡ true
guard_holds now = ap (λ (o : Option Kv). int_eq (mod_of o) (pos 0) && true) (ap (λ (m : Keys). get m (key_bytes HeadKey)) no_keys ∙ none_there HeadKey)

-- the store after it, and the parts of the answer
first_new : ℕ → Store
first_new now = grown new_store (worked new_store (update_acts (begin_changes now) [])).changes

head_found : (now : ℕ) → at (acts_applied (pos 2) (present new_store) (acts_of (all_of (begin_changes now) []))) HeadKey ≡ Some first_head
head_found now =
    head_there (pos 2) (begin_changes now) [] (present new_store)
    ∙ ap (λ (o : Option Kv). Some (put_over (pos 2) (key_bytes HeadKey) (head_value []) (pos 0) o))
    (at-unwritten (pos 2) (begin_changes now) (present new_store) HeadKey refl ∙ ap (λ (m : Keys). at m HeadKey) no_keys ∙ none_there HeadKey)

parts_are : (now : ℕ) → (worked new_store (update_acts (begin_changes now) [])).parts ≡ begin_parts
parts_are now =
    let after_puts : Keys = acts_applied (pos 2) (present new_store) (acts_of (all_of (begin_changes now) [])) in
    ap (λ (w : Done). w.parts) (split new_store (begin_changes now) [])
    ∙ ap (λ (a : RangeAns). part.Put ∷ part.Put ∷ part.Put ∷ part.Range a ∷ []) (found-key (key_bytes HeadKey) after_puts ∙ ap one_found (head_found now))

begin_carried : (now : ℕ) → carry new_store (begin_ask now) ≡ Some (first_new now, answer.Txn (revision (first_new now)) true begin_parts)
unfolding first_new begin_ask
begin_carried now =
    carried new_store (update_txn begin_guards (begin_changes now) [] begin_again) true (allowed now) (guard_holds now)
    ∙ ap (λ (ps : List ActAns). Some (first_new now, answer.Txn (revision (first_new now)) true ps)) (parts_are now)

pub begin_stands : (now : ℕ) → now < 2 ^ 62 → Begins now
unfolding begin_ask
begin_stands now h =
    let c = committed new_store (first_new now) begin_guards (begin_changes now) [] begin_again (revision (first_new now)) begin_parts (begin_carried now) in
    let second : revision (first_new now) ≡ pos 2 = c.zxid_is in
    let keys : present (first_new now) ≡ acts_applied (pos 2) empty (update_acts (begin_changes now) []) =
    c.keys ∙ (λ i. acts_applied (second i) (no_keys i) (update_acts (begin_changes now) [])) in
    record {
      new = first_new now;
      carried = begin_carried now ∙ ap (λ (r : ℤ). Some (first_new now, answer.Txn r true begin_parts)) second;
      revision_is = second;
      stands = subst (λ (m : Keys). StandsFor m (first_state now)) (sym keys) (first_stands now h);
    }
