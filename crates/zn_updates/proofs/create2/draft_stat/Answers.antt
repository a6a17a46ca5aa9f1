-- Each field is given, or counted.
use Rattle.std.proofs.Common.{◌≡◌, ◌∙◌, rules, pos, length, w32, w64, to_z, cond}
use Rattle.std.proofs.lemmas.Int.{to_z-of_z}
use mir.Val.{SFits}
use Rattle.zk_model.specs.Single.{is_ephemeral}
use Rattle.zn_updates.proofs.create2.draft_stat.Goals as goal

pub returns : goal.returns
returns c =
    let flags_fit : SFits w32 c.args.flags = search rules in
    let session_fits : SFits w64 c.args.session = search rules in
    let owner_fits : SFits w64 c.owner_of.result = search rules in
    let flags = to_z-of_z w32 _ flags_fit in
    let session = to_z-of_z w64 _ session_fits in
    let owner = to_z-of_z w64 _ owner_fits ∙ c.owner_of.ensures ∙ (λ i. cond (is_ephemeral (flags i)) (session i) (pos 0)) in
    let time : to_z w64 c.args.now ≡ pos c.args.now = search rules in
    let long : to_z w32 (length c.args.content.now) ≡ pos (length c.args.content.now) = search rules in
    λ i. record {
      czxid = pos 0;
      mzxid = pos 0;
      ctime = time i;
      mtime = time i;
      version = pos 0;
      cversion = pos 0;
      aversion = pos 0;
      ephemeral_owner = owner i;
      data_length = long i;
      num_children = pos 0;
      pzxid = pos 0;
    }
