-- What a create2 is answered is true of the tree that it leaves (ZooKeeper API, `create` with a `Stat`).
use Rattle.std.specs.Prelude.{◌≡◌, ℕ, ℤ, List, Some}
use Rattle.std.specs.FinMap.{get}
use Rattle.zx_base.specs.Maps.{Bytes}
use Rattle.zk_model.specs.declared.node.Node.{Node}
use Rattle.zk_model.specs.declared.reply.Body.{Body}
use Rattle.zk_model.specs.declared.reply.Body.TheVariants as body
use Rattle.zk_model.specs.declared.request.Acl.{Acl}
use Rattle.zk_model.specs.declared.request.Request.TheVariants as req
use Rattle.zk_model.specs.Znodes.{Tree, stat_of}
use Rattle.zk_service.specs.States.{Commit, IsSound, State, commit}

-- the body is a path, and the Stat of the node that is there
abbrev pub ShowsItsNode : Tree → Body → Type 0
ShowsItsNode t (body.PathStat p x) = (n : Node) × (get t p ≡ Some n) × (x ≡ stat_of t p n)
ShowsItsNode t b = ⊥

-- A create2 that is carried out in a sound state, of any session, at any zxid and any time, shows the node as it then is.
abbrev pub Create2ShowsItsNode : Type 0
Create2ShowsItsNode = (s : State) (limit : ℕ) (session : ℤ) (path content : Bytes) (acl : List Acl) (flags z : ℤ) (now : ℕ) (c : Commit)
    → IsSound s → commit s.tree limit session (req.Create2 path content acl flags) z now ≡ Some c → ShowsItsNode c.tree c.response
