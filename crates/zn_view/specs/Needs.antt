-- What a request looks up before it can be decided, and what a finished draft is.
use Rattle.std.specs.Prelude.{◌≡◌, ◌≢◌, ℕ, ℤ, pos, nat_abs, ◌⊎◌, List, [], ◌∷◌, map, Option, Some, None, IsTrue, AllPairs, Contains, if◌then◌else◌}
use Rattle.std.specs.Ordering.{int_eq}
use Rattle.ev_types.specs.declared.answer.Kv.{Kv}
use Rattle.zk_model.specs.declared.node.Stat.{Stat}
use Rattle.zk_model.specs.declared.reply.Body.{Body}
use Rattle.zk_model.specs.declared.reply.Body.TheVariants as body
use Rattle.zk_model.specs.declared.reply.PartResult.{PartResult}
use Rattle.zk_model.specs.declared.reply.PartResult.TheVariants as result
use Rattle.zk_model.specs.declared.reply.Reply.{Reply}
use Rattle.zk_model.specs.declared.reply.Reply.TheVariants as reply
use Rattle.zk_model.specs.declared.request.Part.{Part}
use Rattle.zk_model.specs.declared.request.Part.TheVariants as part
use Rattle.zk_model.specs.declared.request.Request.{Request}
use Rattle.zk_model.specs.declared.request.Request.TheVariants as req
use Rattle.zk_model.specs.Paths.{parent, sequence_path, with_one}
use Rattle.zk_model.specs.Single.{form_refusal, is_sequential}
use Rattle.zk_model.specs.Watches.{no_watches}
use Rattle.zk_service.specs.Answers.{Told, plain_request}
use Rattle.zx_base.specs.Maps.{Bytes}
use Rattle.zn_layout.specs.declared.record.NodeRec.{NodeRec}
use Rattle.zn_layout.specs.declared.record.SessionRec.{SessionRec}
use Rattle.zn_layout.specs.declared.record.CountRec.{CountRec}
use Rattle.zn_layout.specs.Keys.{Key, DataKey, CountsKey, SessionKey, LeaseKey, key_bytes}
use Rattle.zn_layout.specs.Reading.{IsValueOf}
use Rattle.zn_layout.specs.Records.{node_value, counts_value, session_value, IsNodeRec, IsCountRec, IsSessionRec}
use Rattle.zn_view.specs.declared.want.Want.{Want}
use Rattle.zn_view.specs.declared.want.Want.TheVariants as want
use Rattle.zn_view.specs.declared.leaving.TreeChange.{TreeChange}
use Rattle.zn_view.specs.declared.plan.Plan.{Plan}
use Rattle.zn_view.specs.declared.plan.Who.{Who}
use Rattle.zn_view.specs.Asks.{again_of, guards_of, head_want, picked}
use Rattle.zn_view.specs.Leaving.{AreCountsNow, IsLeft}
use Rattle.zn_view.specs.Seen.{View, seen, listed}
use Rattle.zn_view.specs.Views.{reads}

-- ---- the records that a view saw

abbrev pub key_want : Key → Want
key_want k = want.Key (key_bytes k)

-- the view saw this value under a key
abbrev pub SawValue : View → Key → Bytes → Type 0
SawValue v k value = (kv : Kv) × (seen v (key_bytes k) ≡ Some (Some kv)) × (kv.value ≡ value)

abbrev pub SawNode : View → Bytes → NodeRec → Type 0
SawNode v p r = IsNodeRec r × SawValue v (DataKey p) (node_value r)

abbrev pub SawCounts : View → Bytes → CountRec → Type 0
SawCounts v p r = IsCountRec r × SawValue v (CountsKey p) (counts_value r)

abbrev pub SawNodes : View → ℤ → SessionRec → Type 0
SawNodes v id r = IsSessionRec r × SawValue v (SessionKey (nat_abs id)) (session_value r)

abbrev pub IsLacking : View → Want → Type 0
IsLacking v (want.Key k) = seen v k ≡ None
IsLacking v (want.Children p) = listed v p ≡ None

-- ---- what the parts of a multi read besides

-- the key of the nodes of the session that owns the node at p, as the view saw it
abbrev pub FollowsOwner : View → Bytes → Want → Type 0
FollowsOwner v p w = (r : NodeRec) × SawNode v p r × (r.owner ≡ pos 0 → ⊥) × (w ≡ key_want (SessionKey (nat_abs r.owner)))

-- The creates that a view saw below a node, by what it saw of the node's record and of its counts: None where it did not look for the
-- counts, or saw neither. A node without a record of its counts has none.
abbrev pub AreCreatesSeen : Option (Option Kv) → Option (Option Kv) → Option ℕ → Type 0
AreCreatesSeen seen_node None creates = creates ≡ None
AreCreatesSeen seen_node (Some (Some kv)) creates = (r : CountRec) × IsValueOf counts_value IsCountRec kv.value r × (creates ≡ Some (nat_abs r.creates))
AreCreatesSeen (Some (Some kv)) (Some None) creates = creates ≡ Some 0
AreCreatesSeen (Some None) (Some None) creates = creates ≡ None
AreCreatesSeen None (Some None) creates = creates ≡ None

abbrev pub IsCreatesSeen : View → Bytes → Option ℕ → Type 0
IsCreatesSeen v p creates = AreCreatesSeen (seen v (key_bytes (DataKey p))) (seen v (key_bytes (CountsKey p))) creates

-- what follows for a part from the view and from the parts before it, the latest first: the nodes of the owner of a node that is
-- deleted; and the key of a sequence node, once all parts before it are carried out and its parent is there on what they leave
abbrev pub FollowsPart : ℤ → View → List Part → Part → Want → Type 0
FollowsPart id v before (part.Create path d a f) w =
    IsTrue (is_sequential f) × (changes : List TreeChange) × IsLeft id v before (Some changes)
    × (q : Bytes) × (parent (with_one path) ≡ Some q) × (counts : CountRec) × AreCountsNow v changes q (Some (Some counts)) × (w ≡ key_want (DataKey (sequence_path path (nat_abs counts.creates))))
FollowsPart id v before (part.Delete p x) w = FollowsOwner v p w
FollowsPart id v before _ w = ⊥

-- what follows for one of these parts, after the parts before them, of which the latest comes first
abbrev pub FollowsFrom : ℤ → View → List Part → List Part → Want → Type 0
FollowsFrom id v before [] w = ⊥
FollowsFrom id v before (p ∷ parts) w = ((form_refusal p ≡ None) × FollowsPart id v before p w) ⊎ FollowsFrom id v (p ∷ before) parts w

-- ---- what is read

-- what is looked up besides: the children of a node, which are listed at once; and what follows from the view: the key of a
-- sequence node, the nodes of an owner, the counts of the parents of a session's nodes, and what follows for a multi's parts
abbrev pub Follows : Request → ℤ → View → Want → Type 0
Follows (req.Create p d a f) id v w =
    IsTrue (is_sequential f) × (q : Bytes) × (parent (with_one p) ≡ Some q) × (n : ℕ) × IsCreatesSeen v q (Some n) × (w ≡ key_want (DataKey (sequence_path p n)))
Follows (req.Create2 p d a f) id v w =
    IsTrue (is_sequential f) × (q : Bytes) × (parent (with_one p) ≡ Some q) × (n : ℕ) × IsCreatesSeen v q (Some n) × (w ≡ key_want (DataKey (sequence_path p n)))
Follows (req.Delete p x) id v w = FollowsOwner v p w
Follows (req.GetChildren p x) id v w = w ≡ want.Children p
Follows (req.GetChildren2 p x) id v w = w ≡ want.Children p
Follows req.Close id v w = (r : SessionRec) × (p q : Bytes) × SawNodes v id r × Contains r.paths p × (parent p ≡ Some q) × (w ≡ key_want (CountsKey q))
Follows (req.Multi parts) id v w = FollowsFrom id v [] parts w
Follows _ id v w = ⊥

abbrev pub life_want : ℤ → Want
life_want id = key_want (LeaseKey (nat_abs id))

-- what a request reads, as far as the view determines it
abbrev pub IsRead : Request → Who → View → Want → Type 0
IsRead r who v w = (w ≡ head_want) ⊎ (w ≡ life_want who.session) ⊎ ((k : Key) × Contains (reads r who.session) k × (w ≡ key_want k)) ⊎ Follows r who.session v w

-- nothing that the request reads is lacking
abbrev pub LacksNothing : Request → Who → View → Type 0
LacksNothing r who v = (w : Want) → IsRead r who v w → IsLacking v w → ⊥

-- nothing is lacking by which the request is decided: one that its form decides reads nothing
abbrev pub IsWhole : Request → Who → View → Type 0
IsWhole r who v = plain_request no_watches r ≡ None → LacksNothing r who v

-- The wants are what the request reads and the view lacks: all of it at once, and each once. So there are none only where nothing
-- is lacking. A request that needs no tree has none.
pub record AreNeeds (r : Request) (who : Who) (v : View) (ws : List Want) : Type 0 where
  pub only : (w : Want) → Contains ws w → IsRead r who v w × IsLacking v w
  pub enough : ws ≡ [] → plain_request no_watches r ≡ None → (w : Want) → IsRead r who v w → IsLacking v w → ⊥
  pub all : plain_request no_watches r ≡ None → (w : Want) → IsRead r who v w → IsLacking v w → Contains ws w
  pub once : AllPairs (λ (w u : Want). w ≢ u) ws
  pub none : (t : Told) → plain_request no_watches r ≡ Some t → ws ≡ []

-- A plan guards what its request reads, but for the head, as the view saw it, and no other key, whatever else the view saw. The
-- same keys are read again where a guard does not hold.
pub record GuardsReads (r : Request) (who : Who) (v : View) (p : Plan) : Type 0 where
  pub keys : List Bytes
  pub guards : p.guards ≡ guards_of (picked v keys)
  pub again : p.again ≡ again_of (picked v keys)
  pub all : (k : Bytes) → IsRead r who v (want.Key k) → Contains keys k
  pub only : (k : Bytes) → Contains keys k → IsRead r who v (want.Key k)

-- ---- a draft has 0 wherever the zxid goes that its update gets

abbrev pub own : ℤ → ℤ → ℤ
own zxid x = if int_eq x (pos 0) then zxid else x

abbrev pub own_stat : ℤ → Stat → Stat
own_stat zxid s = record s { czxid = own zxid s.czxid; mzxid = own zxid s.mzxid; pzxid = own zxid s.pzxid }

abbrev pub own_result : ℤ → PartResult → PartResult
own_result zxid (result.Set s) = result.Set (own_stat zxid s)
own_result zxid (result.Created p) = result.Created p
own_result zxid result.Deleted = result.Deleted
own_result zxid result.Checked = result.Checked
own_result zxid (result.Code c) = result.Code c

abbrev pub own_body : ℤ → Body → Body
own_body zxid (body.Stat s) = body.Stat (own_stat zxid s)
own_body zxid (body.PathStat p s) = body.PathStat p (own_stat zxid s)
own_body zxid (body.Parts rs) = body.Parts (map (own_result zxid) rs)
own_body zxid b = b

abbrev pub finished : ℤ → Reply → Reply
finished zxid (reply.Good b) = reply.Good (own_body zxid b)
finished zxid (reply.Refused code) = reply.Refused code
