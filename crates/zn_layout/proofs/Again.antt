-- What an update reads where a guard doesn't hold, and what Begin reads where there is a head.
use Rattle.std.proofs.Common.{◌≡◌, ℕ, suc, ℤ, pos, true, false, List, [], ◌∷◌, map, Option, Some, refl, ap, ◌∙◌, arith}
use Rattle.std.specs.Prelude.{◌&&◌, ◌≤ℤ◌}
use Rattle.std.specs.List.{list_all, All}
use Rattle.std.specs.Ordering.{int_eq}
use Rattle.std.specs.FinMap.{get}
use Rattle.std.proofs.lemmas.Bool.{and_parts, and_from}
use Rattle.std.proofs.lemmas.Bool.Decides.{Decides-int_eq}
use Rattle.std.proofs.lemmas.Int.{ints}
use Rattle.std.proofs.lemmas.List.Elements.{All-cons}
use Rattle.ev_types.specs.declared.answer.Kv.{Kv}
use Rattle.ev_types.specs.declared.answer.ActAns.{ActAns}
use Rattle.ev_types.specs.declared.answer.ActAns.TheVariants as part
use Rattle.ev_types.specs.declared.answer.Answer.TheVariants as answer
use Rattle.ev_types.specs.declared.ask.Act.{Act}
use Rattle.ev_types.specs.declared.ask.Act.TheVariants as act
use Rattle.ev_types.specs.declared.ask.Ask.TheVariants as ask
use Rattle.ev_types.specs.declared.ask.RangeReq.{RangeReq}
use Rattle.ev_types.specs.declared.ask.TxnReq.{TxnReq}
use Rattle.ev_types.specs.Ranges.{Keys, found}
use Rattle.ev_types.specs.Reads.{key_range, read_key, one_found}
use Rattle.ev_types.specs.Store.{Store, Done, revision, present, mod_of, holds, succeeds, chosen, worked, looked_at, txn_answer}
use Rattle.ev_types.specs.Denials.{is_full_store, is_denied, carry}
use Rattle.ev_types.proofs.Bounds.{present-put}
use Rattle.ev_types.proofs.Found.{found-key}
use Rattle.ev_types.proofs.Transactions.{worked-reads}
use Rattle.zx_base.specs.Maps.{Bytes}
use Rattle.zn_layout.specs.Keys.{HeadKey, key_bytes}
use Rattle.zn_layout.specs.StandsFor.{at}
use Rattle.zn_layout.specs.Begin.{begin_changes, head_is_absent, begin_ask}
use Rattle.zn_layout.specs.Updates.{with_head_key, reads_of, guard_at, guards_at, update_ask, update_txn, IsAsSeen}
use Rattle.zn_layout.proofs.Commits.{carried}
use Rattle.zn_layout.proofs.Denials.{update-plain}

-- ---- what reads of keys answer

abbrev shown_at : Keys → Bytes → ActAns
shown_at m k = part.Range (one_found (get m k))

as_ranges : (ks : List Bytes) → map read_key ks ≡ map act.Range (map key_range ks)
as_ranges [] = refl
as_ranges (k ∷ ks) = ap (λ (acts : List Act). read_key k ∷ acts) (as_ranges ks)

answers-shown : (s : Store) (ks : List Bytes) → map (λ (q : RangeReq). part.Range (found q (looked_at s (present s) q.revision))) (map key_range ks) ≡ map (shown_at (present s)) ks
answers-shown s [] = refl
answers-shown s (k ∷ ks) = λ i. part.Range (found-key k (present s) i) ∷ answers-shown s ks i

pub worked-looks : (s : Store) (ks : List Bytes) → worked s (map read_key ks) ≡ record { changes = []; parts = map (shown_at (present s)) ks }
worked-looks s ks = ap (worked s) (as_ranges ks) ∙ worked-reads s (map key_range ks) ∙ (λ i. record { changes = []; parts = answers-shown s ks i })

-- a transaction whose guards don't all hold, and whose failure list reads these keys
pub failed-looks : (s : Store) (t : TxnReq) (ks : List Bytes) → t.failure ≡ map read_key ks → is_denied s (ask.Txn t) ≡ false → succeeds s t ≡ false →
    carry s (ask.Txn t) ≡ Some (s, answer.Txn (revision s) false (map (shown_at (present s)) ks))
failed-looks s t ks reads allowed failed = carried s t false allowed failed ∙ ap (λ (w : Done). Some (txn_answer s false w)) (ap (worked s) reads ∙ worked-looks s ks)

pub update-looks_again : (s : Store) (seen : Keys) (keys : List Bytes) (acts : List Act) → is_denied s (update_ask seen keys acts) ≡ false → list_all (holds (present s)) (guards_at seen keys) ≡ false →
    carry s (update_ask seen keys acts) ≡ Some (s, answer.Txn (revision s) false (map (λ k. part.Range (one_found (get (present s) k))) (with_head_key keys)))
update-looks_again s seen keys acts allowed failed = failed-looks s (record { guards = guards_at seen keys; success = acts; failure = reads_of keys }) (with_head_key keys) refl allowed failed

-- ---- guards

pub guards-held : (m seen : Keys) (keys : List Bytes) → list_all (holds m) (guards_at seen keys) ≡ true → All (IsAsSeen m seen) keys
guards-held m seen [] h = λ k d low. absurd (omega arith)
guards-held m seen (q ∷ keys) h =
    let parts = and_parts (holds m (guard_at seen q)) (list_all (holds m) (guards_at seen keys)) h in
    All-cons (IsAsSeen m seen) q keys ((Decides-int_eq (mod_of (get m q)) (mod_of (get seen q))).0 parts.0) (guards-held m seen keys parts.1)

pub guards-hold : (m seen : Keys) (keys : List Bytes) → All (IsAsSeen m seen) keys → list_all (holds m) (guards_at seen keys) ≡ true
guards-hold m seen [] h = refl
guards-hold m seen (q ∷ keys) h =
    and_from (holds m (guard_at seen q)) (list_all (holds m) (guards_at seen keys)) ((Decides-int_eq (mod_of (get m q)) (mod_of (get seen q))).1 (h 0 q (omega arith)))
    (guards-hold m seen keys (λ k d low. h (suc k) d (omega arith)))

-- ---- Begin

head_there_fails : (s : Store) (now : ℕ) (head : Kv) → at (present s) HeadKey ≡ Some head → succeeds s (update_txn (head_is_absent ∷ []) (begin_changes now) [] (read_key (key_bytes HeadKey) ∷ [])) ≡ false
head_there_fails s now head there = ap (λ b. b && true) (ap (λ o. int_eq (mod_of o) (pos 0)) there ∙ not_zero head.mod_revision (present-put s (key_bytes HeadKey) head there))
  where
    not_zero : (r : ℤ) → pos 1 ≤ℤ r → int_eq r (pos 0) ≡ false
    not_zero r low = elim (int_eq r (pos 0)) as (λ b. int_eq r (pos 0) ≡ b → b ≡ false) [ true ↦ λ h. absurd (let e : r ≡ pos 0 = (Decides-int_eq r (pos 0)).0 h in omega (arith, ints)) | false ↦ λ h. refl ] refl

pub begin-again : (s : Store) (now : ℕ) (head : Kv) → at (present s) HeadKey ≡ Some head → carry s (begin_ask now) ≡ Some (s, answer.Txn (revision s) false (part.Range (one_found (Some head)) ∷ []))
unfolding begin_ask
begin-again s now head there =
    let t : TxnReq = update_txn (head_is_absent ∷ []) (begin_changes now) [] (read_key (key_bytes HeadKey) ∷ []) in
    let failed : succeeds s t ≡ false = head_there_fails s now head there in
    let nothing : is_full_store s (worked s (chosen (succeeds s t) t)).changes ≡ false = ap (λ b. is_full_store s (worked s (chosen b t)).changes) failed ∙ ap (λ (w : Done). is_full_store s w.changes) (worked-looks s (key_bytes HeadKey ∷ [])) in
    failed-looks s t (key_bytes HeadKey ∷ []) refl
    (update-plain s (head_is_absent ∷ []) (begin_changes now) [] (read_key (key_bytes HeadKey) ∷ []) (omega arith) (omega arith) (omega arith) refl refl refl nothing)
    failed
    ∙ ap (λ (o : Option Kv). Some (s, answer.Txn (revision s) false (part.Range (one_found o) ∷ []))) there
