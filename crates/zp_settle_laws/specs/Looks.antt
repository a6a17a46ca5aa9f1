-- How much a request looks up.
use Rattle.std.specs.Prelude.{ℕ, ◌+◌, ◌*◌, List, [], ◌∷◌, length}
use Rattle.zk_jute.specs.Requests.{Frame, Asks, read_request}
use Rattle.zk_model.specs.declared.request.Request.{Request}
use Rattle.zk_model.specs.declared.request.Request.TheVariants as req

-- At most so many keys and listings: the head, the record of the session's life, and what it reads besides. A closeSession reads
-- the nodes of its session, and the counts of their parents, of which there are at most 60.
abbrev pub looks : Request → ℕ
looks (req.Create p d a f) = 7
looks (req.Delete p n) = 6
looks (req.SetData p d n) = 4
looks (req.Exists p x) = 4
looks (req.GetData p x) = 4
looks (req.GetAcl p) = 4
looks (req.GetChildren p x) = 5
looks (req.GetChildren2 p x) = 5
looks (req.Check p n) = 3
looks (req.SetWatches since exists datas children) = 2 + (length datas + length exists + 2 * length children)
looks req.Close = 63
looks (req.Sync p) = 2
looks req.Ping = 2
looks (req.Auth kind scheme auth) = 2
looks (req.Multi parts) = 2 + 5 * length parts
looks (req.Create2 p d a f) = 7
looks (req.CheckWatches p k) = 2
looks (req.RemoveWatches p k) = 2

-- what is no request looks up nothing
abbrev pub looks_in : Frame → ℕ
looks_in (Asks xid r) = looks r
looks_in _ = 0

-- ---- how many asks a frame takes

-- at most a keepalive and the look after it, each look-up, and the transaction of a plan, where nobody else changes the store
-- meanwhile
abbrev pub asks_of : List ℕ → ℕ
asks_of bytes = looks_in (read_request bytes) + 4

abbrev pub asks_of_all : List (List ℕ) → ℕ
asks_of_all [] = 0
asks_of_all (f ∷ fs) = asks_of f + asks_of_all fs
