-- A look at keys answers one part for each want, and so each thing that was wanted is seen.
use Rattle.std.proofs.Common.{◌≡◌, List, [], ◌∷◌, length, refl, sym, ap, ◌∙◌, arith, Bool, ℤ, pos, inl, inr}
use Rattle.std.specs.Prelude.{Some, None, Contains, ◌+ℤ◌, if◌then◌else◌}
use Rattle.std.specs.FinMap.{get}
use Rattle.ev_types.specs.declared.answer.ActAns.{ActAns}
use Rattle.ev_types.specs.declared.answer.Answer.TheVariants as answer
use Rattle.ev_types.specs.declared.ask.TxnReq.{TxnReq}
use Rattle.ev_types.specs.Denials.{carry}
use Rattle.ev_types.specs.Ranges.{Keys}
use Rattle.ev_types.specs.Store.{Store, acts_from, chosen, present, revision, worked}
use Rattle.zn_layout.specs.Keys.{Key, key_bytes}
use Rattle.zn_layout.proofs.Commits.{answer-is}
use Rattle.zn_view.specs.Lookups.{found_at}
use Rattle.zn_view.specs.Asks.{ranges_of, reading, with_part, with_parts}
use Rattle.zn_view.specs.Needs.{key_want}
use Rattle.zn_view.specs.Seen.{View, seen, found_of}
use Rattle.zn_view.specs.Views.{Agrees}
use Rattle.zn_view.specs.declared.want.Want.{Want}
use Rattle.zn_view.specs.declared.want.Want.TheVariants as want
use Rattle.zn_view.proofs.SeenAfter.{wanted-shown}
use Rattle.zp_laws.proofs.Revisions.{seen-any}

parts-from : (s : Store) (z : ℤ) (m : Keys) (r : ℤ) (ws : List Want) → length (acts_from s z m (ranges_of r ws)).parts ≡ length ws
parts-from s z m r [] = refl
parts-from s z m r (w ∷ ws) = omega (arith, parts-from s z m r ws)

pub parts-worked : (s : Store) (r : ℤ) (ws : List Want) → length (worked s (ranges_of r ws)).parts ≡ length ws
unfolding worked
parts-worked s r ws = parts-from s (revision s +ℤ pos 1) (present s) r ws

-- a view's first round
pub reading-parts : (s new : Store) (ws : List Want) (r : ℤ) (b : Bool) (parts : List ActAns) → carry s (reading (pos 0) ws) ≡ Some (new, answer.Txn r b parts) → length parts ≡ length ws
reading-parts s new ws r b parts h =
    let t : TxnReq = record { guards = []; success = ranges_of (pos 0) ws; failure = [] } in
    let a = answer-is s new t r b parts h in
    let acts : chosen b t ≡ ranges_of (pos 0) ws = ap (λ (c : Bool). if c then ranges_of (pos 0) ws else []) (sym a.succeeded) in
    ap (λ (l : List ActAns). length l) a.parts_are ∙ ap (λ as'. length (worked s as').parts) acts ∙ parts-worked s (pos 0) ws

pub wanted-seen : (s new : Store) (ws : List Want) (r : ℤ) (b : Bool) (parts : List ActAns) (v : View) (k : Key) → carry s (reading (pos 0) ws) ≡ Some (new, answer.Txn r b parts) → Contains ws (key_want k) → seen (with_parts v ws parts) (key_bytes k) ≡ None → ⊥
wanted-seen s new ws r b parts v k h there none = wanted-shown v ws parts (key_want k) (omega (arith, reading-parts s new ws r b parts h)) there none

-- what was seen is what the keys have
pub found-there : (m : Keys) (v : View) (k : Key) → Agrees v m → (seen v (key_bytes k) ≡ None → ⊥) → found_at v k ≡ get m (key_bytes k)
found-there m v k a there = elim (seen-any m v.keys (key_bytes k) a.keys) [ inl none ↦ absurd (there none) | inr found ↦ ap found_of found ]

-- ---- a view keeps its revision

pub revision-kept : (v : View) (ws : List Want) (parts : List ActAns) → (with_parts v ws parts).revision ≡ v.revision
revision-kept v [] parts = refl
revision-kept v (w ∷ ws) [] = refl
revision-kept v (want.Key k ∷ ws) (a ∷ parts) = revision-kept (with_part v (want.Key k) a) ws parts
revision-kept v (want.Children p ∷ ws) (a ∷ parts) = revision-kept (with_part v (want.Children p) a) ws parts
