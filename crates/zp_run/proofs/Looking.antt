-- What was asked for is seen in the view that its answer shows.
use Rattle.std.proofs.Common.{◌≡◌, ℤ, pos, List, [], ◌∷◌, ◌++◌, Bool, true, false, refl, sym, ap, ◌∙◌, subst, inl, inr}
use Rattle.std.specs.Prelude.{◌⊎◌, Option, Some, None, int_lt, if◌then◌else◌}
use Rattle.ev_types.specs.Store.{chosen}
use Rattle.ev_types.specs.declared.answer.ActAns.{ActAns}
use Rattle.ev_types.specs.declared.answer.Answer.TheVariants as answer
use Rattle.ev_types.specs.declared.answer.Kv.{Kv}
use Rattle.ev_types.specs.declared.ask.TxnReq.{TxnReq}
use Rattle.zk_model.specs.declared.connect.ConnectRequest.{ConnectRequest}
use Rattle.zx_base.proofs.MapLaws.{same-refl}
use Rattle.zx_base.proofs.Options.{some_none}
use Rattle.zx_base.specs.Maps.{Bytes, same}
use Rattle.zn_layout.specs.Keys.{HeadKey, key_bytes}
use Rattle.zn_view.specs.Asks.{head_want, ranges_of, reading, with_part, with_parts}
use Rattle.zn_view.specs.Seen.{View, found_of, seen, seen_in}
use Rattle.zn_view.specs.declared.snapshot.SeenKey.{SeenKey}
use Rattle.zn_view.specs.declared.want.Want.{Want}
use Rattle.zn_view.specs.declared.want.Want.TheVariants as want
use Rattle.zs_session.specs.Answering.{ArePartsOf, IsAnswerTo}
use Rattle.zs_session.specs.Sessions.{attach_wants, first_wants, life_key}

-- ---- a key that was seen stays so

push-known : (k : Bytes) (xs : List SeenKey) (y : SeenKey) → (seen_in k xs ≡ None → ⊥) → seen_in k (xs ++ y ∷ []) ≡ None → ⊥
push-known k [] y known none = known refl
push-known k (x ∷ xs) y known none = go (same x.key k) (push-known k xs y) known none
  where
    go : (b : Bool) → ((seen_in k xs ≡ None → ⊥) → seen_in k (xs ++ y ∷ []) ≡ None → ⊥) → ((if b then Some x.found else seen_in k xs) ≡ None → ⊥) → (if b then Some x.found else seen_in k (xs ++ y ∷ [])) ≡ None → ⊥
    go true rest f e = f e
    go false rest f e = rest f e

push-is : (k : Bytes) (xs : List SeenKey) (found : Option Kv) → seen_in k (xs ++ record { key = k; found = found } ∷ []) ≡ None → ⊥
push-is k [] found none = some_none (sym (ap (λ (b : Bool). if b then Some found else None) (same-refl k)) ∙ none)
push-is k (x ∷ xs) found none = go (same x.key k) (push-is k xs found) none
  where
    go : (b : Bool) → (seen_in k (xs ++ record { key = k; found = found } ∷ []) ≡ None → ⊥) → (if b then Some x.found else seen_in k (xs ++ record { key = k; found = found } ∷ [])) ≡ None → ⊥
    go true rest e = some_none e
    go false rest e = rest e

part-known : (k : Bytes) (v : View) (w : Want) (a : ActAns) → (seen v k ≡ None → ⊥) → seen (with_part v w a) k ≡ None → ⊥
part-known k v (want.Key q) a known = push-known k v.keys _ known
part-known k v (want.Children p) a known = known

parts-known : (k : Bytes) (v : View) (ws : List Want) (parts : List ActAns) → (seen v k ≡ None → ⊥) → seen (with_parts v ws parts) k ≡ None → ⊥
parts-known k v [] parts known = known
parts-known k v (w ∷ ws) [] known = known
parts-known k v (w ∷ ws) (a ∷ more) known = parts-known k (with_part v w a) ws more (part-known k v w a known)

-- ---- a key that is asked for is seen

abbrev pub AsksFor : Bytes → List Want → Type 0
AsksFor k [] = ⊥
AsksFor k (w ∷ ws) = (w ≡ want.Key k) ⊎ AsksFor k ws

pub looked-up : (k : Bytes) (ws : List Want) (at : ℤ) (parts : List ActAns) (v : View) → AsksFor k ws → ArePartsOf (ranges_of at ws) parts → seen (with_parts v ws parts) k ≡ None → ⊥
looked-up k [] at parts v h each = absurd h
looked-up k (w ∷ ws) at [] v h each = absurd each
looked-up k (w ∷ ws) at (a ∷ more) v (inl is) each =
    parts-known k (with_part v w a) ws more (subst (λ (u : Want). seen (with_part v u a) k ≡ None → ⊥) (sym is) (push-is k v.keys _))
looked-up k (w ∷ ws) at (a ∷ more) v (inr h) each = looked-up k ws at more (with_part v w a) h each.1

pub read-parts : (at : ℤ) (ws : List Want) (z : ℤ) (b : Bool) (parts : List ActAns) → IsAnswerTo (reading at ws) (answer.Txn z b parts) → ArePartsOf (ranges_of at ws) parts
read-parts at ws z b parts h =
    let t : TxnReq = record { guards = []; success = ranges_of at ws; failure = [] } in
    subst (λ (y : Bool). ArePartsOf (chosen y t) parts) h.succeeds h.each

-- ---- what a connect looks up first

pub first-head : (r : ConnectRequest) → AsksFor (key_bytes HeadKey) (first_wants r)
first-head r = go (int_lt r.session (pos 1))
  where
    go : (b : Bool) → AsksFor (key_bytes HeadKey) (if b then head_want ∷ [] else attach_wants r.session)
    go true = inl refl
    go false = inr (inl refl)

pub first-life : (P : Type 0) (r : ConnectRequest) (b : Bool) → int_lt r.session (pos 1) ≡ b → (AsksFor (key_bytes (life_key r.session)) (first_wants r) → P) → (int_lt r.session (pos 1) ≡ true) ⊎ P
first-life P r true e f = inl e
first-life P r false e f = inr (f (subst (λ (b : Bool). AsksFor (key_bytes (life_key r.session)) (if b then head_want ∷ [] else attach_wants r.session)) (sym e) (inl refl)))

-- what was looked up and not found is absent
pub absent : (o : Option (Option Kv)) → (o ≡ None → ⊥) → found_of o ≡ None → o ≡ Some None
absent None known e = absurd (known refl)
absent (Some None) known e = refl
absent (Some (Some kv)) known e = absurd (some_none e)
