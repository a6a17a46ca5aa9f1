-- What a view lacks of the keys that a request looks up is what the request needs.
use Rattle.std.proofs.Common.{◌≡◌, ◌≢◌, List, [], Some, None, refl, sym, ap, ◌∙◌, subst, ⊎_elim, arith}
use Rattle.std.specs.Prelude.{AllPairs, Contains, map}
use Rattle.zk_model.specs.declared.request.Request.{Request}
use Rattle.zk_model.specs.Watches.{no_watches}
use Rattle.zk_service.specs.Answers.{Told, plain_request}
use Rattle.zx_base.proofs.Options.{none_some}
use Rattle.zn_layout.specs.Keys.{Key, key_bytes}
use Rattle.zn_view.specs.declared.plan.Who.{Who}
use Rattle.zn_view.specs.declared.want.Want.{Want}
use Rattle.zn_view.specs.declared.want.Want.TheVariants as want
use Rattle.zx_base.specs.Maps.{Bytes}
use Rattle.zn_view.specs.Lacking.{lacking}
use Rattle.zn_view.specs.Needs.{key_want, IsRead, IsLacking, AreNeeds}
use Rattle.zn_view.specs.Seen.{View}
use Rattle.zn_view.proofs.Elements.{contains-map, empty-contains, mapped-contained}
use Rattle.zn_view.proofs.Members.{In, contains_in, in_contains}
use Rattle.zn_view.proofs.Named.{IsNamed, lacking-once, named_all, only_all}

-- wants that are what is read and lacking, each once
pub needs-from : (r : Request) (who : Who) (v : View) (ws : List Want) → ((w : Want) → Contains ws w → IsRead r who v w × IsLacking v w) → ((w : Want) → IsRead r who v w → IsLacking v w → Contains ws w)
    → AllPairs (λ (w u : Want). w ≢ u) ws → plain_request no_watches r ≡ None → AreNeeds r who v ws
needs-from r who v ws only all once plain = record {
  only = only;
  enough = λ none _ w reads lacks. empty-contains ws w none (all w reads lacks);
  all = λ _. all;
  once = once;
  none = λ t e. absurd (none_some (sym plain ∙ e));
}

-- what needs no tree reads nothing
pub no-needs : (r : Request) (who : Who) (v : View) (t : Told) (ws : List Want) → ws ≡ [] → plain_request no_watches r ≡ Some t → AreNeeds r who v ws
no-needs r who v t ws is plain = record {
  only = λ w c. absurd (empty-contains ws w is c);
  enough = λ _ none. absurd (none_some (sym none ∙ plain));
  all = λ none. absurd (none_some (sym none ∙ plain));
  once = subst (λ (l : List Want). AllPairs (λ (w u : Want). w ≢ u) l) (sym is) (λ i j d lt bad. absurd (omega (arith, bad)));
  none = λ u e. is;
}

-- where a request reads these keys
pub are-needs : (r : Request) (who : Who) (v : View) (ks : List Key) (ws : List Want) → ws ≡ lacking v (map key_bytes ks) → plain_request no_watches r ≡ None
    → ((k : Key) → In k ks → IsRead r who v (key_want k)) → ((w : Want) → IsRead r who v w → (k : Key) × In k ks × (w ≡ key_want k)) → AreNeeds r who v ws
are-needs r who v ks ws is plain from to =
    needs-from r who v ws only all (subst (λ (l : List Want). AllPairs (λ (w u : Want). w ≢ u) l) (sym is) (lacking-once v (map key_bytes ks))) plain
  where
    named : (w : Want) → IsNamed v (map key_bytes ks) w → IsRead r who v w × IsLacking v w
    named w h =
        let key = mapped-contained key_bytes ks h.0 h.1 in
        let same : key_want key.0 ≡ w = ap (λ (b : Bytes). want.Key b) (sym key.2) ∙ sym h.2 in
        (subst (IsRead r who v) same (from key.0 (contains_in key.0 ks key.1)), subst (IsLacking v) (sym h.2) h.3)

    only : (w : Want) → Contains ws w → IsRead r who v w × IsLacking v w
    only w c = ⊎_elim (λ bad. absurd (empty-contains [] w refl bad)) (named w) (only_all v (map key_bytes ks) [] w (subst (λ (l : List Want). Contains l w) is c))

    all : (w : Want) → IsRead r who v w → IsLacking v w → Contains ws w
    all w reads lacks =
        let k = to w reads in
        subst (λ (l : List Want). Contains l w) (sym is) (subst (Contains (lacking v (map key_bytes ks))) (sym k.2)
        (named_all v (map key_bytes ks) [] (key_bytes k.0) (contains-map key_bytes ks k.0 (in_contains k.0 ks k.1)) (subst (IsLacking v) k.2 lacks)))
