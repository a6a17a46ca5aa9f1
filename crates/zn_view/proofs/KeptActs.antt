-- What an operation leaves, and what of it a view may hold.
use Rattle.std.proofs.Common.{◌≡◌, true, inr, List, ◌∷◌, Option, Some, None, refl, sym, subst}
use Rattle.std.specs.Prelude.{◌↔◌, ℤ, All, IfSome}
use Rattle.ev_types.specs.declared.answer.Kv.{Kv}
use Rattle.ev_types.specs.declared.ask.Act.{Act}
use Rattle.ev_types.specs.Store.{put_over}
use Rattle.zx_base.specs.Maps.{Bytes, same}
use Rattle.zx_base.proofs.MapLaws.{same-true}
use Rattle.zn_layout.specs.Keys.{HeadKey, key_bytes}
use Rattle.zn_view.specs.declared.snapshot.SeenKey.{SeenKey}
use Rattle.zn_view.specs.Keeping.{AreLeft, IsActKept, seen_as}
use Rattle.zn_view.specs.Seen.{IsCountNumber, IsFound, IsRecord, IsSeen, seen_in}
use Rattle.zn_view.proofs.KeyKinds.{seen-kept}

pub counts-of : (k : Bytes) (xs : List SeenKey) (o : Option Kv) → All IsSeen xs → seen_in k xs ≡ Some o → IfSome o (λ (kv : Kv). IsCountNumber kv.version)
counts-of k xs o all e = go o (seen-kept k xs o all e)
  where
    go : (o : Option Kv) → IfSome o (IsFound k) → IfSome o (λ (kv : Kv). IsCountNumber kv.version)
    go None h = tt
    go (Some kv) h = (h.numbers).version

pub kept-seen : (k : Bytes) (xs : List SeenKey) (o : Option Kv) (x : SeenKey) → All IsSeen xs → seen_in k xs ≡ Some o → x ≡ seen_as k o → IsSeen x
kept-seen k xs o x all e is = subst IsSeen (sym is) (seen-kept k xs o all e)

pub put-named : (r : ℤ) (k v : Bytes) (lease : ℤ) (old : Option Kv) → (put_over r k v lease old).key ≡ k
put-named r k v lease None = refl
put-named r k v lease (Some kv) = refl

-- whether a value is a record tells whether it may be kept
pub found-told : (kv : Kv) → IsCountNumber kv.mod_revision → IsCountNumber kv.version → (t : Type 0) → (t ↔ IsRecord kv) → (t ↔ IsFound kv.key kv)
found-told kv r v t h = (λ a. record { named = refl; value = h.0 a; numbers = record { revision = r; version = v } }, λ b. h.1 b.value)

-- ---- what a list of operations leaves

pub left-off : (z : ℤ) (xs : List SeenKey) (a : Act) (acts : List Act) → (IsActKept z xs a → ⊥) → AreLeft z xs (a ∷ acts) None
left-off z xs a acts broken = inr (broken, refl)

-- ---- the head

pub head-told : (kv : Kv) → same kv.key (key_bytes HeadKey) ≡ true → (t : Type 0) → (t ↔ IsFound kv.key kv) → (t ↔ IsSeen (seen_as (key_bytes HeadKey) (Some kv)))
head-told kv e t h = subst (λ (k : Bytes). t ↔ IsFound k kv) (same-true kv.key (key_bytes HeadKey) e) h
