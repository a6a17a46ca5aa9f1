-- What a view that saw nothing lacks is what is looked up first, of a number that a session may have.
use Rattle.std.proofs.Common.{◌≡◌, ℤ, pos, false, cond, ◌||◌, List, [], ◌∷◌, ◌++◌, None, refl, sym, ap, ◌∙◌, is_some, subst}
use Rattle.std.specs.Prelude.{int_lt, map, nat_abs}
use Rattle.std.specs.List.{list_any}
use Rattle.zx_base.specs.Maps.{Bytes, same}
use Rattle.zx_base.proofs.MapLaws.{same-false}
use Rattle.zn_layout.specs.Keys.{Key, HeadKey, SessionKey, LeaseKey, key_bytes}
use Rattle.zn_layout.proofs.Keys.{key_bytes-injective}
use Rattle.zn_view.specs.declared.want.Want.{Want}
use Rattle.zn_view.specs.declared.want.Want.TheVariants as want
use Rattle.zn_view.specs.Asks.{head_want}
use Rattle.zn_view.specs.Lacking.{is_want_of, lacking, with_want}
use Rattle.zn_view.specs.Needs.{key_want}
use Rattle.zn_view.specs.Seen.{View, empty_view, seen}
use Rattle.zs_close.specs.Reaping.{lives}
use Rattle.zs_close.specs.Wanting.{AreEndWants, own_keys, read_keys}
use Rattle.zs_reap.specs.Steps.{reaper_wants}

named : (v : View) (ws : List Want) (k : Bytes) → seen v k ≡ None → list_any (is_want_of k) ws ≡ false → with_want v ws k ≡ ws ++ want.Key k ∷ []
named v ws k none apart = λ i. cond (is_some (none i) || apart i) ws (ws ++ want.Key k ∷ [])

apart : (j k : Key) → (j ≡ k → ⊥) → same (key_bytes j) (key_bytes k) ≡ false
apart j k h = same-false (key_bytes j) (key_bytes k) (λ e. h (key_bytes-injective j k e))

abbrev own_wants : ℤ → List Want
own_wants id = map key_want (own_keys id)

own-lacking : (id : ℤ) → lacking empty_view (read_keys id []) ≡ own_wants id
own-lacking id =
    let h : Bytes = key_bytes HeadKey in
    let l : Bytes = key_bytes (LeaseKey (nat_abs id)) in
    let s : Bytes = key_bytes (SessionKey (nat_abs id)) in
    let hl = apart HeadKey (LeaseKey (nat_abs id)) (λ e. cc) in
    let hs = apart HeadKey (SessionKey (nat_abs id)) (λ e. cc) in
    let ls = apart (LeaseKey (nat_abs id)) (SessionKey (nat_abs id)) (λ e. cc) in
    ap (λ (ws : List Want). with_want empty_view (with_want empty_view ws l) s) (named empty_view [] h refl refl)
    ∙ ap (λ (ws : List Want). with_want empty_view ws s) (named empty_view (want.Key h ∷ []) l refl (λ i. hl i || false))
    ∙ named empty_view (want.Key h ∷ want.Key l ∷ []) s refl (λ i. hs i || (ls i || false))

first-lacking : (id : ℤ) (ws : List Want) → AreEndWants id empty_view ws → ws ≡ own_wants id
first-lacking id ws (ps, nodes, is) = is ∙ ap (λ (qs : List Bytes). lacking empty_view (read_keys id qs)) nodes ∙ own-lacking id

pub nothing-seen : (i id : ℤ) (v : View) (ws : List Want) → i ≡ id → int_lt id (pos 1) ≡ false → v ≡ empty_view → (lives i v ≡ false → AreEndWants i v ws) → ws ≡ reaper_wants id
nothing-seen i id v ws same real none are =
    let gone : lives i v ≡ false = ap (lives i) none in
    first-lacking i ws (subst (λ (w : View). AreEndWants i w ws) none (are gone))
    ∙ ap own_wants same
    ∙ sym (ap (λ b. cond b (head_want ∷ []) (own_wants id)) real)
