-- A view that lacks nothing has looked up each key that the request reads.
use Rattle.std.proofs.Common.{◌≡◌, ℤ, List, [], ◌∷◌, Some, None, refl, inl, inr}
use Rattle.std.specs.Prelude.{Contains, Bool}
use Rattle.std.specs.FinMap.{get}
use Rattle.zx_base.specs.Maps.{Bytes}
use Rattle.zk_model.specs.declared.node.Node.{Node}
use Rattle.zk_model.specs.declared.request.Request.{Request}
use Rattle.zk_model.specs.declared.request.Request.TheVariants as req
use Rattle.zk_service.specs.States.{State}
use Rattle.zn_layout.specs.Keys.{Key, DataKey, key_bytes}
use Rattle.zn_view.specs.declared.plan.Who.{Who}
use Rattle.zn_view.specs.declared.want.Want.TheVariants as want
use Rattle.zn_view.specs.Needs.{key_want, LacksNothing}
use Rattle.zn_view.specs.Seen.{View, seen, listed}
use Rattle.zn_view.specs.Views.{IsOf, reads, about_path}
use Rattle.zn_reads.specs.Found.{HasLooked}
use Rattle.zn_view.proofs.Elements.{contains-first, contains-rest}

looked-all : (v : View) (ks : List Key) → ((k : Key) → Contains ks k → seen v (key_bytes k) ≡ None → ⊥) → HasLooked v ks
looked-all v [] h = tt
looked-all v (k ∷ ks) h = (h k (contains-first k ks), looked-all v ks (λ x has. h x (contains-rest k ks x has)))

pub looked-reads : (r : Request) (who : Who) (v : View) → LacksNothing r who v → HasLooked v (reads r who.session)
looked-reads r who v whole = looked-all v (reads r who.session) (λ k has none. whole (key_want k) (inr (inr (inl (k, has, refl)))) none)

module _ (who : Who) (v : View) (p : Bytes) where
  pub looked-exists : (watch : Bool) → LacksNothing (req.Exists p watch) who v → HasLooked v (about_path p)
  unfolding reads
  looked-exists watch whole = looked-reads (req.Exists p watch) who v whole

  pub looked-get_data : (watch : Bool) → LacksNothing (req.GetData p watch) who v → HasLooked v (about_path p)
  unfolding reads
  looked-get_data watch whole = looked-reads (req.GetData p watch) who v whole

  pub looked-get_acl : LacksNothing (req.GetAcl p) who v → HasLooked v (about_path p)
  unfolding reads
  looked-get_acl whole = looked-reads (req.GetAcl p) who v whole

  pub looked-get_children : (watch : Bool) → LacksNothing (req.GetChildren p watch) who v → HasLooked v (about_path p)
  unfolding reads
  looked-get_children watch whole = looked-reads (req.GetChildren p watch) who v whole

  pub looked-get_children2 : (watch : Bool) → LacksNothing (req.GetChildren2 p watch) who v → HasLooked v (about_path p)
  unfolding reads
  looked-get_children2 watch whole = looked-reads (req.GetChildren2 p watch) who v whole

  pub looked-check : (version : ℤ) → LacksNothing (req.Check p version) who v → HasLooked v (DataKey p ∷ [])
  unfolding reads
  looked-check version whole = looked-reads (req.Check p version) who v whole

  -- the children of a node that is there were listed
  pub listed-get_children : (watch : Bool) (s : State) (n : Node) → LacksNothing (req.GetChildren p watch) who v → IsOf v s → get s.tree p ≡ Some n → listed v p ≡ None → ⊥
  listed-get_children watch s n whole of there none = whole (want.Children p) (inr (inr (inr refl))) none

  pub listed-get_children2 : (watch : Bool) (s : State) (n : Node) → LacksNothing (req.GetChildren2 p watch) who v → IsOf v s → get s.tree p ≡ Some n → listed v p ≡ None → ⊥
  listed-get_children2 watch s n whole of there none = whole (want.Children p) (inr (inr (inr refl))) none
