-- What the transaction of an update does to a store where its guards hold, and what it answers.
use Rattle.std.specs.Prelude.{◌≡◌, ℤ, pos, ◌+ℤ◌, ◌≤ℤ◌, List, [], ◌∷◌, ◌++◌, Some}
use Rattle.ev_types.specs.declared.answer.Kv.{Kv}
use Rattle.ev_types.specs.declared.answer.ActAns.{ActAns}
use Rattle.ev_types.specs.declared.answer.ActAns.TheVariants as part
use Rattle.ev_types.specs.Reads.{one_found}
use Rattle.ev_types.specs.Store.{Store, revision, last_revision, present, acts_applied}
use Rattle.zk_model.specs.declared.node.Trigger.{Trigger}
use Rattle.zn_layout.specs.Keys.{HeadKey}
use Rattle.zn_layout.specs.StandsFor.{at}
use Rattle.zn_layout.specs.Changes.{KeyChange, update_acts}

-- the changes are made and the head is put at the store's next revision, which is the zxid, and the last part of the answer
-- shows the head as it then is
pub record IsCommitted (old : Store) (cs : List KeyChange) (ts : List Trigger) (new : Store) (zxid : ℤ) (parts : List ActAns) : Type 0 where
  pub zxid_is : zxid ≡ revision old +ℤ pos 1
  pub revision_is : revision new ≡ zxid
  pub least : pos 1 ≤ℤ zxid
  pub most : zxid ≤ℤ last_revision
  pub keys : present new ≡ acts_applied zxid (present old) (update_acts cs ts)
  pub earlier : List ActAns
  pub head : Kv
  pub there : at (present new) HeadKey ≡ Some head
  pub shown : parts ≡ earlier ++ part.Range (one_found (Some head)) ∷ []
