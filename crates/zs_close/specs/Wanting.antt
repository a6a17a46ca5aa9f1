-- What the end of a session looks up, and what a view lacks of it.
use Rattle.std.specs.Prelude.{◌≡◌, ℤ, nat_abs, List, [], ◌∷◌, ◌++◌, map, Option, Some, None, All}
use Rattle.ev_types.specs.declared.answer.Kv.{Kv}
use Rattle.zx_base.specs.Maps.{Bytes}
use Rattle.zn_layout.specs.declared.record.SessionRec.{SessionRec}
use Rattle.zn_layout.specs.Keys.{Key, HeadKey, CountsKey, SessionKey, LeaseKey, key_bytes}
use Rattle.zn_view.specs.declared.want.Want.{Want}
use Rattle.zn_view.specs.Lacking.{lacking}
use Rattle.zn_view.specs.Lookups.{sees, HasSeen, IsNodesIn}
use Rattle.zn_view.specs.Seen.{View}
use Rattle.zs_close.specs.Ending.{parents}

-- the head, the record of the session's life, and the list of its nodes
abbrev pub own_keys : ℤ → List Key
own_keys id = HeadKey ∷ LeaseKey (nat_abs id) ∷ SessionKey (nat_abs id) ∷ []

-- and, where these are the nodes, the counts of their parents
abbrev pub end_keys : ℤ → List Bytes → List Key
end_keys id ps = own_keys id ++ map CountsKey (parents ps)

-- the bytes of the keys that are read for the end of a session with these nodes
abbrev pub read_keys : ℤ → List Bytes → List Bytes
read_keys id ps = map key_bytes (end_keys id ps)

-- the nodes that a view saw of a session: none where the list of them is not there or wasn't looked up
abbrev pub IsNodesSeen : Option (Option Kv) → List Bytes → Type 0
IsNodesSeen None ps = ps ≡ []
IsNodesSeen (Some None) ps = ps ≡ []
IsNodesSeen (Some (Some kv)) ps = (r : SessionRec) × IsNodesIn kv r × (ps ≡ r.paths)

-- the counts of each parent of the nodes that the view saw were looked up
abbrev pub AreParentsSeen : ℤ → View → Type 0
AreParentsSeen id v = (kv : Kv) (r : SessionRec) → sees v (SessionKey (nat_abs id)) ≡ Some (Some kv) → IsNodesIn kv r → All (λ q. HasSeen v (CountsKey q)) (parents r.paths)

-- what is lacking, by the nodes that the view saw
abbrev pub AreEndWants : ℤ → View → List Want → Type 0
AreEndWants id v ws = (ps : List Bytes) × IsNodesSeen (sees v (SessionKey (nat_abs id))) ps × (ws ≡ lacking v (read_keys id ps))
