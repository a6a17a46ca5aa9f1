-- Each field is copied.
use Rattle.std.proofs.Common.{◌≡◌, ◌∙◌, w32, w64, rules, to_z, of_z}
use Rattle.std.proofs.lemmas.Int.{to_z-of_z}
use mir.Val.{SFits}
use Rattle.std.specs.Prelude.{pos, nat_abs}
use Rattle.zk_model.specs.Znodes.{cversion as cversion_of}
use Rattle.zn_layout.specs.StandsFor.{czxid_of}
use Rattle.zn_reads.proofs.stat.stat_by.Goals as goal

pub returns : goal.returns
returns c =
    let stored : SFits w64 c.args.numbers.czxid = search rules in
    let made : SFits w64 c.czxid.result = search rules in
    let ctime : SFits w64 c.args.numbers.ctime = search rules in
    let mtime : SFits w64 c.args.numbers.mtime = search rules in
    let version : SFits w32 c.args.numbers.version = search rules in
    let owner : SFits w64 c.args.numbers.owner = search rules in
    let creates : SFits w32 c.args.counts.creates = search rules in
    let children : SFits w32 c.args.counts.children = search rules in
    let counted : SFits w32 c.cversion.result = search rules in
    let long : SFits w32 c.data_length.result = search rules in
    let is : c.czxid.result ≡ czxid_of (to_z w64 (of_z w64 c.args.numbers.czxid)) (to_z w64 (of_z w64 c.args.revision)) = c.czxid.ensures in
    let czxid : to_z w64 (of_z w64 c.czxid.result) ≡ czxid_of c.args.numbers.czxid c.args.revision =
    to_z-of_z w64 _ made ∙ is ∙ (λ i. czxid_of (to_z-of_z w64 _ stored i) (to_z-of_z w64 _ c.ranges.revision i)) in
    let cversion : to_z w32 (of_z w32 c.cversion.result) ≡ cversion_of c.args.counts.creates (nat_abs c.args.counts.children) = to_z-of_z w32 _ counted ∙ c.cversion.ensures in
    let data_length : to_z w32 (of_z w32 c.data_length.result) ≡ pos c.args.content_length = to_z-of_z w32 _ long ∙ c.data_length.ensures in
    λ i. record {
      czxid = czxid i;
      mzxid = to_z-of_z w64 _ c.ranges.revision i;
      ctime = to_z-of_z w64 _ ctime i;
      mtime = to_z-of_z w64 _ mtime i;
      version = to_z-of_z w32 _ version i;
      cversion = cversion i;
      aversion = pos 0;
      ephemeral_owner = to_z-of_z w64 _ owner i;
      data_length = data_length i;
      num_children = to_z-of_z w32 _ children i;
      pzxid = to_z-of_z w64 _ c.ranges.counts_revision i;
    }
