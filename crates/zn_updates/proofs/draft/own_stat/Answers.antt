-- Three zxids are the update's own, and the other fields are copied.
use Rattle.std.proofs.Common.{◌≡◌, ◌∙◌, rules, w32, w64, to_z, of_z}
use Rattle.std.proofs.lemmas.Int.{to_z-of_z}
use mir.Val.{SFits}
use Rattle.zn_view.specs.Needs.{own}
use Rattle.zn_updates.proofs.draft.own_stat.Goals as goal

pub returns : goal.returns
returns c =
    let stat = c.args.stat in
    let fits_zxid : SFits w64 c.args.zxid = search rules in
    let fits_czxid : SFits w64 stat.czxid = search rules in
    let fits_mzxid : SFits w64 stat.mzxid = search rules in
    let fits_pzxid : SFits w64 stat.pzxid = search rules in
    let fits_own : SFits w64 c.own.result = search rules in
    let fits_own2 : SFits w64 c.own-2.result = search rules in
    let fits_own3 : SFits w64 c.own-3.result = search rules in
    let ctime : SFits w64 stat.ctime = search rules in
    let mtime : SFits w64 stat.mtime = search rules in
    let version : SFits w32 stat.version = search rules in
    let cversion : SFits w32 stat.cversion = search rules in
    let aversion : SFits w32 stat.aversion = search rules in
    let owner : SFits w64 stat.ephemeral_owner = search rules in
    let long : SFits w32 stat.data_length = search rules in
    let children : SFits w32 stat.num_children = search rules in
    let zxid = to_z-of_z w64 _ fits_zxid in
    let czxid : to_z w64 (of_z w64 c.own.result) ≡ own c.args.zxid stat.czxid = to_z-of_z w64 _ fits_own ∙ c.own.ensures ∙ (λ i. own (zxid i) (to_z-of_z w64 _ fits_czxid i)) in
    let mzxid : to_z w64 (of_z w64 c.own-2.result) ≡ own c.args.zxid stat.mzxid = to_z-of_z w64 _ fits_own2 ∙ c.own-2.ensures ∙ (λ i. own (zxid i) (to_z-of_z w64 _ fits_mzxid i)) in
    let pzxid : to_z w64 (of_z w64 c.own-3.result) ≡ own c.args.zxid stat.pzxid = to_z-of_z w64 _ fits_own3 ∙ c.own-3.ensures ∙ (λ i. own (zxid i) (to_z-of_z w64 _ fits_pzxid i)) in
    λ i. record {
      czxid = czxid i;
      mzxid = mzxid i;
      ctime = to_z-of_z w64 _ ctime i;
      mtime = to_z-of_z w64 _ mtime i;
      version = to_z-of_z w32 _ version i;
      cversion = to_z-of_z w32 _ cversion i;
      aversion = to_z-of_z w32 _ aversion i;
      ephemeral_owner = to_z-of_z w64 _ owner i;
      data_length = to_z-of_z w32 _ long i;
      num_children = to_z-of_z w32 _ children i;
      pzxid = pzxid i;
    }
