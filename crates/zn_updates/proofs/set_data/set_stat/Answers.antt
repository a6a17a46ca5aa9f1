-- Each field is copied, or counted.
use Rattle.std.proofs.Common.{◌≡◌, ◌∙◌, rules, pos, length, w32, w64, to_z}
use Rattle.std.proofs.lemmas.Int.{to_z-of_z}
use mir.Val.{SFits}
use Rattle.zn_updates.proofs.set_data.set_stat.Goals as goal

pub returns : goal.returns
returns c =
    let node = c.args.node.now in
    let counts = c.args.counts.now in
    let czxid : SFits w64 node.czxid = search rules in
    let ctime : SFits w64 node.ctime = search rules in
    let owner : SFits w64 node.owner = search rules in
    let pzxid : SFits w64 counts.pzxid = search rules in
    let version : SFits w32 c.next_version.result = search rules in
    let children : SFits w32 counts.counts.children = search rules in
    let cversion : SFits w32 c.cversion.result = search rules in
    let time : to_z w64 c.args.now ≡ pos c.args.now = search rules in
    let long : to_z w32 (length c.args.content.now) ≡ pos (length c.args.content.now) = search rules in
    λ i. record {
      czxid = to_z-of_z w64 _ czxid i;
      mzxid = pos 0;
      ctime = to_z-of_z w64 _ ctime i;
      mtime = time i;
      version = (to_z-of_z w32 _ version ∙ c.next_version.ensures) i;
      cversion = (to_z-of_z w32 _ cversion ∙ c.cversion.ensures) i;
      aversion = pos 0;
      ephemeral_owner = to_z-of_z w64 _ owner i;
      data_length = long i;
      num_children = to_z-of_z w32 _ children i;
      pzxid = to_z-of_z w64 _ pzxid i;
    }
