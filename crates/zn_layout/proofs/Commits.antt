-- An update's transaction whose guards hold commits its changes at the next revision.
use Rattle.std.proofs.Common.{◌≡◌, ◌<◌, ℤ, pos, ◌+ℤ◌, Bool, true, false, List, [], ◌∷◌, ◌++◌, length, Some, None, refl, sym, ap, ◌∙◌, subst, arith}
use Rattle.std.specs.Prelude.{int_lt, ◌≤ℤ◌, if◌then◌else◌}
use Rattle.std.proofs.lemmas.Bool.{ltb-true, not-false}
use Rattle.std.proofs.lemmas.Int.{ints}
use Rattle.std.proofs.lemmas.List.{append-nil, length-append, map-append}
use Rattle.ev_types.specs.declared.answer.Kv.{Kv}
use Rattle.ev_types.specs.declared.answer.ActAns.{ActAns}
use Rattle.ev_types.specs.declared.answer.ActAns.TheVariants as part
use Rattle.ev_types.specs.declared.answer.Answer.{Answer}
use Rattle.ev_types.specs.declared.answer.Answer.TheVariants as answer
use Rattle.ev_types.specs.declared.ask.Guard.{Guard}
use Rattle.ev_types.specs.declared.ask.Act.{Act}
use Rattle.ev_types.specs.declared.ask.TxnReq.{TxnReq}
use Rattle.ev_types.specs.declared.ask.Ask.TheVariants as ask
use Rattle.ev_types.specs.Ranges.{Keys, found}
use Rattle.ev_types.specs.Store.{Store, Change as StoreChange, Puts, Done, revision, last_revision, present, put_over, acts_applied, acts_from, worked, grown, succeeds, chosen, then_done, txn_answer, txn_done, carried_out}
use Rattle.ev_types.specs.Denials.{is_full_store, is_denied, carry}
use Rattle.zk_model.specs.declared.node.Trigger.{Trigger}
use Rattle.zn_layout.specs.Keys.{HeadKey, key_bytes}
use Rattle.zn_layout.specs.Records.{head_value}
use Rattle.zn_layout.specs.StandsFor.{at}
use Rattle.ev_types.specs.Reads.{read_key, key_range, one_found}
use Rattle.zn_layout.specs.Changes.{KeyChange, act_of, acts_of, head_put, update_acts}
use Rattle.zn_layout.specs.Commits.{IsCommitted}
use Rattle.zn_layout.specs.Updates.{update_txn}
use Rattle.ev_types.proofs.Found.{found-key}
use Rattle.zn_layout.proofs.Stands.{all_of, head_there, update_applied}
use Rattle.ev_types.proofs.Transactions.{acts_from-append, present-worked}
use Rattle.zx_base.proofs.Booleans.{or-split as none_of}

-- ---- what was carried out

carried-parts : (d : Bool) (x y : Store × Answer) → (if d then None else Some x) ≡ Some y → (d ≡ false) × (x ≡ y)
carried-parts true x y e = absurd cc
carried-parts false x y e = (refl, cc)

pub record IsAnswer (s : Store) (t : TxnReq) (new : Store) (r : ℤ) (b : Bool) (parts : List ActAns) : Type 0 where
  pub allowed : is_denied s (ask.Txn t) ≡ false
  pub succeeded : succeeds s t ≡ b
  pub store : new ≡ grown s (worked s (chosen b t)).changes
  pub revision_is : r ≡ revision new
  pub parts_are : parts ≡ (worked s (chosen b t)).parts

answered : (s new : Store) (b c : Bool) (w : Done) (r : ℤ) (parts : List ActAns) → txn_answer s b w ≡ (new, answer.Txn r c parts) → (b ≡ c) × (grown s w.changes ≡ new) × (revision (grown s w.changes) ≡ r) × (w.parts ≡ parts)
answered s new b c w r parts e =
    let a : answer.Txn (revision (grown s w.changes)) b w.parts ≡ answer.Txn r c parts = ap (λ (x : Store × Answer). x.1) e in
    (cc, ap (λ (x : Store × Answer). x.0) e, cc, cc)

pub answer-is : (s new : Store) (t : TxnReq) (r : ℤ) (b : Bool) (parts : List ActAns) → carry s (ask.Txn t) ≡ Some (new, answer.Txn r b parts) → IsAnswer s t new r b parts
unfolding carry carried_out txn_done
answer-is s new t r b parts e =
    let c = carried-parts (is_denied s (ask.Txn t)) _ _ e in
    let a = answered s new (succeeds s t) b (worked s (chosen (succeeds s t) t)) r parts c.1 in
    let same = ap (λ x. worked s (chosen x t)) a.0 in
    record {
      allowed = c.0;
      succeeded = a.0;
      store = sym a.1 ∙ ap (λ (w : Done). grown s w.changes) same;
      revision_is = sym a.2 ∙ ap revision a.1;
      parts_are = sym a.3 ∙ ap (λ (w : Done). w.parts) same;
    }

-- a transaction that isn't denied: the next store and the answer, by what its operations do
pub carried : (s : Store) (t : TxnReq) (b : Bool) → is_denied s (ask.Txn t) ≡ false → succeeds s t ≡ b → carry s (ask.Txn t) ≡ Some (txn_answer s b (worked s (chosen b t)))
unfolding carry carried_out txn_done
carried s t b allowed succeeded =
    ap (λ d. if d then None else Some (txn_answer s (succeeds s t) (worked s (chosen (succeeds s t) t)))) allowed
    ∙ ap (λ x. Some (txn_answer s x (worked s (chosen x t)))) succeeded

-- ---- a list of changes with one among them

raised : (s : Store) (xs ys : List StoreChange) (c : StoreChange) → revision (grown s (xs ++ c ∷ ys)) ≡ revision s +ℤ pos 1
raised s [] ys c = ap pos (length-append s.revisions _)
raised s (x ∷ xs) ys c = ap pos (length-append s.revisions _)

had_room : (s : Store) (xs ys : List StoreChange) (c : StoreChange) → is_full_store s (xs ++ c ∷ ys) ≡ false → int_lt (revision s) last_revision ≡ true
had_room s [] ys c h = not-false _ h
had_room s (x ∷ xs) ys c h = not-false _ h

-- ---- an update's operations

-- what the operations of its changes did, before the head
abbrev early : Store → List KeyChange → Done
early s cs = acts_from s (revision s +ℤ pos 1) (present s) (acts_of cs)

-- the changes and the head's put, and then the read of the head
pub split : (s : Store) (cs : List KeyChange) (ts : List Trigger) → worked s (update_acts cs ts) ≡ then_done (acts_from s (revision s +ℤ pos 1) (present s) (acts_of (all_of cs ts))) (record { changes = []; parts = part.Range (found (key_range (key_bytes HeadKey)) (acts_applied (revision s +ℤ pos 1) (present s) (acts_of (all_of cs ts)))) ∷ [] })
unfolding worked
split s cs ts = acts_from-append s (revision s +ℤ pos 1) (present s) (acts_of (all_of cs ts)) (read_key (key_bytes HeadKey) ∷ [])

put_last : (s : Store) (cs : List KeyChange) (ts : List Trigger) → (acts_from s (revision s +ℤ pos 1) (present s) (acts_of (all_of cs ts))).changes ≡ (early s cs).changes ++ Puts (key_bytes HeadKey) (head_value ts) (pos 0) ∷ []
put_last s cs ts =
    ap (λ (l : List Act). (acts_from s (revision s +ℤ pos 1) (present s) l).changes) (map-append act_of cs (head_put ts ∷ []))
    ∙ ap (λ (d : Done). d.changes) (acts_from-append s (revision s +ℤ pos 1) (present s) (acts_of cs) (act_of (head_put ts) ∷ []))

update_changes : (s : Store) (cs : List KeyChange) (ts : List Trigger) → (worked s (update_acts cs ts)).changes ≡ (early s cs).changes ++ Puts (key_bytes HeadKey) (head_value ts) (pos 0) ∷ []
update_changes s cs ts = ap (λ (d : Done). d.changes) (split s cs ts) ∙ append-nil _ ∙ put_last s cs ts

-- ---- together

-- where nothing denies it, there is a revision to come
not_full : (s : Store) (t : TxnReq) → is_denied s (ask.Txn t) ≡ false → is_full_store s (worked s (chosen (succeeds s t) t)).changes ≡ false
unfolding is_denied
not_full s t h = (none_of _ _ h).1

next_within : (s : Store) → int_lt (revision s) last_revision ≡ true → (revision s +ℤ pos 1) ≤ℤ last_revision
next_within s h = let lt : length s.revisions < 4611686018427387903 = ltb-true _ _ h in omega (arith, ints)

pub committed : (s new : Store) (guards : List Guard) (cs : List KeyChange) (ts : List Trigger) (again : List Act) (r : ℤ) (parts : List ActAns) → carry s (ask.Txn (update_txn guards cs ts again)) ≡ Some (new, answer.Txn r true parts) → IsCommitted s cs ts new r parts
committed s new guards cs ts again r parts e =
    let t : TxnReq = update_txn guards cs ts again in
    let z : ℤ = revision s +ℤ pos 1 in
    let a = answer-is s new t r true parts e in
    let changes = update_changes s cs ts in
    let at_new : revision new ≡ z = ap revision (a.store ∙ ap (grown s) changes) ∙ raised s (early s cs).changes [] _ in
    let full : is_full_store s (worked s (update_acts cs ts)).changes ≡ false = ap (λ b. is_full_store s (worked s (chosen b t)).changes) (sym a.succeeded) ∙ not_full s t a.allowed in
    let room : int_lt (revision s) last_revision ≡ true = had_room s (early s cs).changes [] _ (ap (is_full_store s) (sym changes) ∙ full) in
    let keys : present new ≡ acts_applied z (present s) (update_acts cs ts) = ap present a.store ∙ present-worked s (update_acts cs ts) in
    let mid : Keys = acts_applied z (present s) (acts_of (all_of cs ts)) in
    let same : present new ≡ mid = keys ∙ update_applied z cs ts (present s) in
    let kv : Kv = put_over z (key_bytes HeadKey) (head_value ts) (pos 0) (at (acts_applied z (present s) (acts_of cs)) HeadKey) in
    let there : at mid HeadKey ≡ Some kv = head_there z cs ts (present s) in
    let z_is : r ≡ z = a.revision_is ∙ at_new in
    record {
      zxid_is = z_is;
      revision_is = sym a.revision_is;
      least = subst (λ (x : ℤ). pos 1 ≤ℤ x) (sym z_is) (omega (arith, ints));
      most = subst (λ (x : ℤ). x ≤ℤ last_revision) (sym z_is) (next_within s room);
      keys = keys ∙ ap (λ (x : ℤ). acts_applied x (present s) (update_acts cs ts)) (sym z_is);
      earlier = (acts_from s z (present s) (acts_of (all_of cs ts))).parts;
      head = kv;
      there = ap (λ (m : Keys). at m HeadKey) same ∙ there;
      shown = a.parts_are ∙ ap (λ (d : Done). d.parts) (split s cs ts) ∙ ap (λ x. (acts_from s z (present s) (acts_of (all_of cs ts))).parts ++ part.Range x ∷ []) (found-key (key_bytes HeadKey) mid ∙ ap one_found there);
    }
