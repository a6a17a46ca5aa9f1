-- The keys of a setWatches: those of its valid paths.
use Rattle.std.proofs.Common.{◌≡◌, ℕ, ℤ, ◌+◌, ◌<◌, length, take, get_or, append_assoc, true, false, cond, List, [], ◌∷◌, ◌++◌, Some, None, refl, sym, ap, ◌∙◌, subst}
use Rattle.std.specs.Prelude.{map, nat_abs, IsTrue}
use Rattle.std.specs.List.{flat_map}
use Rattle.std.proofs.lemmas.List.{map-append, take_more}
use Rattle.std.proofs.lemmas.List.Elements.{filter-append}
use Rattle.std.proofs.lemmas.Grind.{flat_map-append}
use Rattle.zx_base.specs.Maps.{Bytes}
use Rattle.zk_model.specs.declared.request.Request.TheVariants as req
use Rattle.zk_model.specs.Paths.{is_path}
use Rattle.zk_model.specs.Watches.{no_watches}
use Rattle.zk_service.specs.Answers.{plain_request}
use Rattle.zn_layout.specs.Keys.{Key, HeadKey, DataKey, LeaseKey, key_bytes}
use Rattle.zn_layout.specs.ReadingSteps.{IsPathOf}
use Rattle.zn_view.specs.declared.plan.Who.{Who}
use Rattle.zn_view.specs.declared.want.Want.{Want}
use Rattle.zn_view.specs.Needs.{AreNeeds}
use Rattle.zn_view.specs.Seen.{View}
use Rattle.zn_view.specs.Views.{reads, about_path, valid}
use Rattle.zn_view.specs.Lacking.{lacking}
use Rattle.zn_reads.specs.Wanting.{first_keys, set_watches_keys}
use Rattle.zn_reads.proofs.Needed.{read_keys, no_listing, wanted-needed}

set_watches_formed : (since : ℤ) (exists datas children : List Bytes) → plain_request no_watches (req.SetWatches since exists datas children) ≡ None
unfolding plain_request
set_watches_formed since exists datas children = refl

map_three : (who : Who) (a b c : List Key) → map key_bytes (first_keys who ++ (a ++ b ++ c)) ≡ map key_bytes (first_keys who) ++ map key_bytes a ++ map key_bytes b ++ map key_bytes c
map_three who a b c = ap (λ (l : List Bytes). key_bytes HeadKey ∷ key_bytes (LeaseKey (nat_abs who.session)) ∷ l) (map-append key_bytes (a ++ b) c ∙ ap (λ (l : List Bytes). l ++ map key_bytes c) (map-append key_bytes a b))

set_watches_read : (since : ℤ) (who : Who) (datas exists children : List Bytes) → read_keys (req.SetWatches since exists datas children) who ≡ set_watches_keys who datas exists children
unfolding reads
set_watches_read since who datas exists children = map_three who (map DataKey (valid datas)) (map DataKey (valid exists)) (flat_map about_path (valid children))

pub set_watches-needed : (since : ℤ) (who : Who) (v : View) (datas exists children keys : List Bytes) (ws : List Want) → keys ≡ set_watches_keys who datas exists children → ws ≡ lacking v keys → AreNeeds (req.SetWatches since exists datas children) who v ws
set_watches-needed since who v datas exists children keys ws keys_are is =
    let r = req.SetWatches since exists datas children in
    subst (λ (l : List Want). AreNeeds r who v l) (ap (lacking v) (set_watches_read since who datas exists children ∙ sym keys_are) ∙ sym is)
    (wanted-needed r who v [] false (no_listing r who v [] (λ w f. f)) (set_watches_formed since exists datas children))

-- the keys with one more text
valid-more : (texts : List Bytes) (i : ℕ) (t : Bytes) → i < length texts → t ≡ get_or texts i t → valid (take (i + 1) texts) ≡ valid (take i texts) ++ valid (t ∷ [])
valid-more texts i t h is = ap valid (take_more texts i t h ∙ ap (λ (x : Bytes). take i texts ++ x ∷ []) (sym is)) ∙ filter-append is_path (take i texts) (t ∷ [])

pub datas-more : (start now next : List Bytes) (texts : List Bytes) (i : ℕ) (t : Bytes) → i < length texts → t ≡ get_or texts i t → now ≡ start ++ map key_bytes (map DataKey (valid (take i texts))) → next ≡ now ++ map key_bytes (map DataKey (valid (t ∷ []))) → next ≡ start ++ map key_bytes (map DataKey (valid (take (i + 1) texts)))
datas-more start now next texts i t h is kept step =
    let more : map key_bytes (map DataKey (valid (take (i + 1) texts))) ≡ map key_bytes (map DataKey (valid (take i texts))) ++ map key_bytes (map DataKey (valid (t ∷ []))) =
    ap (λ (l : List Bytes). map key_bytes (map DataKey l)) (valid-more texts i t h is) ∙ ap (map key_bytes) (map-append DataKey (valid (take i texts)) (valid (t ∷ []))) ∙ map-append key_bytes (map DataKey (valid (take i texts))) (map DataKey (valid (t ∷ []))) in
    step ∙ ap (λ (l : List Bytes). l ++ map key_bytes (map DataKey (valid (t ∷ [])))) kept ∙ append_assoc start (map key_bytes (map DataKey (valid (take i texts)))) (map key_bytes (map DataKey (valid (t ∷ [])))) ∙ ap (λ (l : List Bytes). start ++ l) (sym more)

pub abouts-more : (start now next : List Bytes) (texts : List Bytes) (i : ℕ) (t : Bytes) → i < length texts → t ≡ get_or texts i t → now ≡ start ++ map key_bytes (flat_map about_path (valid (take i texts))) → next ≡ now ++ map key_bytes (flat_map about_path (valid (t ∷ []))) → next ≡ start ++ map key_bytes (flat_map about_path (valid (take (i + 1) texts)))
abouts-more start now next texts i t h is kept step =
    let more : map key_bytes (flat_map about_path (valid (take (i + 1) texts))) ≡ map key_bytes (flat_map about_path (valid (take i texts))) ++ map key_bytes (flat_map about_path (valid (t ∷ []))) =
    ap (λ (l : List Bytes). map key_bytes (flat_map about_path l)) (valid-more texts i t h is) ∙ ap (map key_bytes) (flat_map-append about_path (valid (take i texts)) (valid (t ∷ []))) ∙ map-append key_bytes (flat_map about_path (valid (take i texts))) (flat_map about_path (valid (t ∷ []))) in
    step ∙ ap (λ (l : List Bytes). l ++ map key_bytes (flat_map about_path (valid (t ∷ [])))) kept ∙ append_assoc start (map key_bytes (flat_map about_path (valid (take i texts)))) (map key_bytes (flat_map about_path (valid (t ∷ [])))) ∙ ap (λ (l : List Bytes). start ++ l) (sym more)

-- the paths of texts that aren't valid have no keys
pub no_path-valid : (text : Bytes) → IsPathOf text None → valid (text ∷ []) ≡ []
no_path-valid text bad = elim (is_path text) as (λ b. is_path text ≡ b → cond b (text ∷ []) [] ≡ []) [ true ↦ λ e. absurd (bad e) | false ↦ λ e. refl ] refl

pub path-valid : (text p : Bytes) → IsPathOf text (Some p) → valid (text ∷ []) ≡ p ∷ []
path-valid text p path = ap (λ b. cond b (text ∷ []) []) (subst (λ (q : Bytes). IsTrue (is_path q)) path.0 path.1) ∙ ap (λ (q : Bytes). q ∷ []) (sym path.0)
