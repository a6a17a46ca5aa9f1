-- Several requests as one transaction (`multi` of the ZooKeeper API, `MultiTransactionRecord`). The row of codes and the
-- limit on the load are this project's.
use Rattle.std.specs.Prelude.{ℕ, ℤ, pos, suc, ◌+◌, ◌-◌, List, [], ◌∷◌, ◌++◌, length, nat_lt, if◌then◌else◌, Option, Some, None, sum_by, replicate, fold}
use Rattle.std.specs.Ordering.{int_eq, int_cmp}
use Rattle.std.specs.BTreeSet.{insert_key}
use Rattle.zk_model.specs.declared.node.Node.{Node}
use Rattle.zk_model.specs.declared.request.Part.{Part}
use Rattle.zk_model.specs.declared.request.Part.TheVariants.{Create, Delete, SetData, Check}
use Rattle.zk_model.specs.declared.reply.PartResult.{PartResult}
use Rattle.zk_model.specs.declared.reply.PartResult.TheVariants.{Code}
use Rattle.zk_model.specs.declared.node.Trigger.{Trigger}
use Rattle.zk_model.specs.Codes.{ok, runtime_inconsistency, bad_arguments}
use Rattle.std.specs.FinMap.{get}
use Rattle.zk_model.specs.Znodes.{Tree, owned}
use Rattle.zk_model.specs.Single.{single, Refused, Done, is_ephemeral}
use Rattle.zk_model.specs.Limits.{max_load}

-- the first refused part and its code; or the results, the tree, what watches see, and the sessions whose nodes were made
-- or removed
pub data Parts : Type 0 where
  Stopped : (place : ℕ) (code : ℤ) → Parts
  Passed : (results : List PartResult) (tree : Tree) (triggers : List Trigger) (touched : List ℤ) → Parts

-- a part that was carried out, and then what comes of the later ones
abbrev pub then_parts : PartResult → List Trigger → List ℤ → Parts → Parts
then_parts r g s (Stopped k c) = Stopped (suc k) c
then_parts r g s (Passed rs t gs ss) = Passed (r ∷ rs) t (g ++ gs) (s ++ ss)

-- the owner of a node, where there is a node and it has one
abbrev pub owner_list : Option Node → List ℤ
owner_list None = []
owner_list (Some n) = if int_eq n.owner (pos 0) then [] else n.owner ∷ []

-- the session whose ephemeral node a part makes or removes
abbrev pub touched_by : Tree → ℤ → Part → List ℤ
touched_by t session (Create path content acl flags) = if is_ephemeral flags then session ∷ [] else []
touched_by t session (Delete path version) = owner_list (get t path)
touched_by t session (SetData path content version) = []
touched_by t session (Check path version) = []

-- the parts in order, each on the tree that the parts before it left; none after the first that is refused
unfoldable pub parts_of : Tree → ℕ → ℤ → List Part → ℤ → ℕ → Parts
parts_of t limit session [] zxid now = Passed [] t [] []
parts_of t limit session (p ∷ ps) zxid now =
    elim (single t limit session p zxid now) [
      | Refused code ↦ Stopped 0 code
      | Done r u g ↦ then_parts r g (touched_by t session p) (parts_of u limit session ps zxid now)
    ]

-- ---- the load: the bytes of the parts' data, and of the paths that each touched session owned before

abbrev pub data_len : Part → ℕ
data_len (Create path content acl flags) = length content
data_len (Delete path version) = 0
data_len (SetData path content version) = length content
data_len (Check path version) = 0

-- each session once
abbrev pub distinct : List ℤ → List ℤ
distinct ss = fold (insert_key int_cmp) [] ss

abbrev pub load : Tree → List Part → List ℤ → ℕ
load t parts touched = sum_by data_len parts + sum_by (λ s. sum_by length (owned t s)) (distinct touched)

-- ---- the answer

-- refused as a whole, with one code; refused at a part, with a row of codes; or carried out
pub data Several : Type 0 where
  Denied : (code : ℤ) → Several
  Codes : (row : List PartResult) → Several
  All : (results : List PartResult) (tree : Tree) (triggers : List Trigger) → Several

-- each earlier part has code 0, the refused one its own, each later one RuntimeInconsistency
abbrev pub row_of : ℕ → ℕ → ℤ → List PartResult
row_of n place code = replicate place (Code ok) ++ (Code code ∷ replicate (n - place - 1) (Code runtime_inconsistency))

-- what the parts come to: a load above the limit is BadArguments
abbrev pub settled : Tree → List Part → Parts → Several
settled t parts (Stopped place code) = Codes (row_of (length parts) place code)
settled t parts (Passed rs u gs ss) = if nat_lt max_load (load t parts ss) then Denied bad_arguments else All rs u gs

-- a multi of a session that may own `limit` nodes, at a zxid and a time in milliseconds
unfoldable pub several : Tree → ℕ → ℤ → List Part → ℤ → ℕ → Several
several t limit session parts zxid now = settled t parts (parts_of t limit session parts zxid now)
