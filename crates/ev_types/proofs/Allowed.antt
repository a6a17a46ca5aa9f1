-- A transaction that only reads isn't denied, and changes nothing.
use Rattle.std.proofs.Common.{◌≡◌, ◌≤◌, Bool, true, false, not, ◌&&◌, pos, List, [], ◌∷◌, length, refl, ap, ◌∙◌, arith}
use Rattle.std.specs.Prelude.{int_lt}
use Rattle.std.specs.List.{list_any}
use Rattle.std.specs.Ordering.{int_eq}
use Rattle.std.proofs.lemmas.Bool.{and_parts, le-ltb}
use Rattle.std.proofs.lemmas.Bool.Decides.{Decides-int_eq}
use Rattle.ev_types.specs.declared.ask.Act.{Act}
use Rattle.ev_types.specs.declared.ask.Act.TheVariants as act
use Rattle.ev_types.specs.declared.ask.RangeReq.{RangeReq}
use Rattle.ev_types.specs.declared.ask.TxnReq.{TxnReq}
use Rattle.ev_types.specs.declared.ask.Ask.TheVariants as ask
use Rattle.ev_types.specs.Store.{Store, succeeds, chosen, worked}
use Rattle.ev_types.specs.Denials.{is_future, names_missing, writes_twice, max_operations, has_long_list, is_full_store, chosen_acts, is_denied}
use Rattle.ev_types.specs.Reads.{are_present_reads}
use Rattle.ev_types.proofs.Transactions.{unchanged-reads}
use Rattle.zx_base.proofs.Booleans.{or-neither}

-- a range of the present names a revision that there is
pub present_named : (s : Store) (q : RangeReq) → int_eq q.revision (pos 0) ≡ true → names_missing s (act.Range q) ≡ false
present_named s q h =
    let e = (Decides-int_eq q.revision (pos 0)).0 h in
    or-neither _ _ (ap (is_future s) e ∙ le-ltb (length s.revisions) 0 (omega arith)) (ap (λ b. not b && int_lt q.revision s.floor) h)

pub reads_named : (s : Store) (acts : List Act) → are_present_reads acts ≡ true → list_any (names_missing s) acts ≡ false
reads_named s [] h = refl
reads_named s (act.Put k v lease ∷ acts) h = cc
reads_named s (act.Delete k ∷ acts) h = cc
reads_named s (act.Range q ∷ acts) h = let parts = and_parts _ _ h in or-neither _ _ (present_named s q parts.0) (reads_named s acts parts.1)

pub reads_once : (acts : List Act) → are_present_reads acts ≡ true → writes_twice acts ≡ false
reads_once [] h = refl
reads_once (act.Put k v lease ∷ acts) h = cc
reads_once (act.Delete k ∷ acts) h = cc
reads_once (act.Range q ∷ acts) h = reads_once acts (and_parts _ _ h).1

-- what a transaction owes to be carried out, whichever list is chosen
pub record IsPlain (s : Store) (t : TxnReq) : Type 0 where
  pub guards : length t.guards ≤ max_operations
  pub success : length t.success ≤ max_operations
  pub failure : length t.failure ≤ max_operations
  pub success_once : writes_twice t.success ≡ false
  pub failure_once : writes_twice t.failure ≡ false
  pub success_named : list_any (names_missing s) t.success ≡ false
  pub failure_named : list_any (names_missing s) t.failure ≡ false
  pub room : is_full_store s (worked s (chosen_acts s t)).changes ≡ false

chosen_named : (s : Store) (t : TxnReq) (b : Bool) → list_any (names_missing s) t.success ≡ false → list_any (names_missing s) t.failure ≡ false → list_any (names_missing s) (chosen b t) ≡ false
chosen_named s t true g h = g
chosen_named s t false g h = h

pub plain-not_denied : (s : Store) (t : TxnReq) → IsPlain s t → is_denied s (ask.Txn t) ≡ false
unfolding is_denied
plain-not_denied s t p =
    let short : has_long_list t ≡ false = or-neither _ _ (or-neither _ _ (le-ltb _ _ p.guards) (le-ltb _ _ p.success)) (le-ltb _ _ p.failure) in
    or-neither _ _ (or-neither _ _ (or-neither _ _ (or-neither _ _ short p.success_once) p.failure_once) (chosen_named s t (succeeds s t) p.success_named p.failure_named)) p.room

pub reads-not_denied : (s : Store) (acts : List Act) → length acts ≤ max_operations → are_present_reads acts ≡ true → is_denied s (ask.Txn (record { guards = []; success = acts; failure = [] })) ≡ false
reads-not_denied s acts few reads = plain-not_denied s (record { guards = []; success = acts; failure = [] }) (record {
  guards = omega arith;
  success = few;
  failure = omega arith;
  success_once = reads_once acts reads;
  failure_once = refl;
  success_named = reads_named s acts reads;
  failure_named = refl;
  room = ap (is_full_store s) (unchanged-reads s acts reads);
})
