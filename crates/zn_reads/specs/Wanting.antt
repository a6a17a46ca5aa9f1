-- What a request still wants, as the code computes it.
use Rattle.std.specs.Prelude.{◌≡◌, nat_abs, Bool, true, cond, List, [], ◌∷◌, ◌++◌, map, None}
use Rattle.std.specs.List.{flat_map}
use Rattle.zx_base.specs.Maps.{Bytes}
use Rattle.zk_model.specs.declared.request.Request.{Request}
use Rattle.zk_model.specs.Watches.{no_watches}
use Rattle.zk_service.specs.Answers.{plain_request, told_of_path}
use Rattle.zn_layout.specs.Keys.{Key, DataKey, HeadKey, LeaseKey, key_bytes}
use Rattle.zn_view.specs.declared.want.Want.{Want}
use Rattle.zn_view.specs.declared.want.Want.TheVariants as want
use Rattle.zn_view.specs.declared.plan.Who.{Who}
use Rattle.zn_view.specs.Lacking.{lacking}
use Rattle.zn_view.specs.Needs.{Follows, AreNeeds}
use Rattle.zn_view.specs.Seen.{View, listed}
use Rattle.zn_view.specs.Views.{reads, about_path, valid}

-- ---- children

-- the listing of the children is due exactly where they were not listed yet
pub record IsListingDue (v : View) (p : Bytes) (due : Bool) : Type 0 where
  pub lacks : due ≡ true → listed v p ≡ None
  pub all : listed v p ≡ None → due ≡ true

-- the wants, and the listing of the node's children after them where it is due
abbrev pub with_listing : Bytes → Bool → List Want → List Want
with_listing p due ws = cond due (ws ++ want.Children p ∷ []) ws

-- ---- requests whose form is their path's alone, and which read the keys of that path

-- the form is refused exactly where the path isn't valid
abbrev pub IsFormed : Request → Bytes → Type 0
IsFormed r text = plain_request no_watches r ≡ told_of_path no_watches text

-- what is needed by each request with this path that looks up these keys and nothing that follows from the view
abbrev pub AreKeyNeeds : Bytes → List Key → Who → View → List Want → Type 0
AreKeyNeeds text ks who v ws = (r : Request) → IsFormed r text → reads r who.session ≡ ks → ((w : Want) → Follows r who.session v w → ⊥) → AreNeeds r who v ws

-- the keys that every request looks up: the head's, and that of the session's life
abbrev pub first_keys : Who → List Key
first_keys who = HeadKey ∷ LeaseKey (nat_abs who.session) ∷ []

-- the keys that a setWatches looks up: the data keys of valid paths with a data or exist watch, and all that is read of valid paths with
-- a child watch
abbrev pub set_watches_keys : Who → List Bytes → List Bytes → List Bytes → List Bytes
set_watches_keys who datas exists children = map key_bytes (first_keys who) ++ map key_bytes (map DataKey (valid datas))
    ++ map key_bytes (map DataKey (valid exists)) ++ map key_bytes (flat_map about_path (valid children))

-- a want for each of these keys and those of the path that wasn't looked up, and the listing where it is due
abbrev pub AreListingWants : Bytes → Who → View → List Want → Type 0
AreListingWants p who v ws = (due : Bool) × IsListingDue v p due × (ws ≡ with_listing p due (lacking v (map key_bytes (first_keys who ++ about_path p))))
