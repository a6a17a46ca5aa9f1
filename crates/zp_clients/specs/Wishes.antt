-- How the clients connect, and their requests.
use Rattle.std.specs.Prelude.{ℕ, ◌+◌, ◌/◌, ◌%◌, ◌==◌, min, ℤ, pos, Bool, true, false, List, [], ◌∷◌, ◌++◌, codes, replicate, Some, if◌then◌else◌}
use Rattle.zk_jute.specs.Connects.{connect_values}
use Rattle.zk_jute.specs.JuteWriting.{with_length, written}
use Rattle.zk_jute.specs.Sending.{request_packet}
use Rattle.zk_model.specs.Access.{open_entry}
use Rattle.zk_model.specs.Codes.{minus}
use Rattle.zk_model.specs.declared.connect.ConnectRequest.{ConnectRequest}
use Rattle.zk_model.specs.declared.request.Request.{Request}
use Rattle.zk_model.specs.declared.request.Request.TheVariants as req
use Rattle.zp_clients.specs.declared.wish.Wish.{Wish}
use Rattle.zp_clients.specs.declared.wish.Wish.TheVariants as wish

-- a connect for a new session with a timeout of 30,000 ms; the client has seen nothing, and wants to write
abbrev pub connect : ConnectRequest
connect = record {
  protocol = pos 0;
  last_zxid = pos 0;
  timeout = pos 30000;
  session = pos 0;
  passwd = replicate 16 0;
  read_only = Some false;
}

unfoldable pub connect_packet : List ℕ
connect_packet = with_length (written (connect_values connect))

-- ---- requests

-- by the kind of a step, which is below 10; two kinds create
abbrev pub wish_of : ℕ → Wish
wish_of k =
    if k == 0 then wish.Create
    else (if k == 1 then wish.Create
    else (if k == 2 then wish.CreateSequence
    else (if k == 3 then wish.Delete
    else (if k == 4 then wish.SetData
    else (if k == 5 then wish.GetData
    else (if k == 6 then wish.Exists
    else (if k == 7 then wish.GetChildren
    else (if k == 8 then wish.Ping
    else wish.SetFirst))))))))

abbrev pub is_ping : Wish → Bool
is_ping wish.Ping = true
is_ping _ = false

-- `/k` and two digits
abbrev pub path_of : ℕ → List ℕ
path_of p = 47 ∷ 107 ∷ (48 + p / 10) ∷ (48 + p % 10) ∷ []

abbrev pub request_of : Wish → ℕ → Request
request_of wish.Create p = req.Create (path_of p) (codes "s") (open_entry ∷ []) (pos 0)
-- the path's prefix for a sequence node ends in `-`; the flags are those of an ephemeral sequence node
request_of wish.CreateSequence p = req.Create (path_of p ++ codes "-") (codes "s") (open_entry ∷ []) (pos 3)
-- the version -1 is any
request_of wish.Delete p = req.Delete (path_of p) (minus 1)
request_of wish.SetData p = req.SetData (path_of p) (codes "t") (minus 1)
-- each read arms a watch
request_of wish.GetData p = req.GetData (path_of p) true
request_of wish.Exists p = req.Exists (path_of p) true
request_of wish.GetChildren p = req.GetChildren (codes "/") true
request_of wish.Ping p = req.Ping
request_of wish.SetFirst p = req.SetData (path_of p) (codes "u") (pos 0)

-- ---- xids: 1, 2, 3 and so on, and -2 for a ping, which is not counted

-- the greatest int is the last; no schedule has so many steps
abbrev pub next_xid : ℕ → ℕ
next_xid last = min (last + 1) 2147483647

-- where the connection's last request had this xid, 0 for none
abbrev pub xid_of : Wish → ℕ → ℤ
xid_of wish.Ping last = minus 2
xid_of _ last = pos (next_xid last)

abbrev pub last_after : Wish → ℕ → ℕ
last_after wish.Ping last = last
last_after _ last = next_xid last

abbrev pub packet_of : Wish → ℕ → ℕ → List ℕ
packet_of w p last = request_packet (xid_of w last) (request_of w p)
