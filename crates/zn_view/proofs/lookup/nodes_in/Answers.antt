use Rattle.std.proofs.Common.{◌≡◌, ap, subst, option_copied}
use Rattle.std.specs.Prelude.{Option, MatchOption, None, Some}
use Rattle.ev_types.specs.declared.answer.Kv.{Kv}
use Rattle.zx_base.specs.Maps.{Bytes}
use Rattle.zn_layout.specs.declared.record.SessionRec.{SessionRec}
use Rattle.zn_layout.specs.Reading.{IsReadAs}
use Rattle.zn_layout.specs.Records.{session_value, IsSessionRec}
use Rattle.zn_layout.proofs.Lists.{ok_along}
use Rattle.zn_view.specs.Lookups.{IsNodesIn}
use Rattle.zn_view.proofs.KeyKinds.{nodes-read}
use Rattle.zn_view.proofs.lookup.nodes_in.Goals as goal

pub returns-in-Some : goal.returns-in-Some
returns-in-Some c =
    let found = option_copied c.args.found in
    let kv = c.in-Some.kv.now in
    ok_along (IsReadAs session_value IsSessionRec c.as_slice.result.now) (λ (o : Option SessionRec). MatchOption o (found ≡ None) (λ n. (x : Kv) × (found ≡ Some x) × IsNodesIn x n))
    (λ o is. nodes-read found kv o (ap option_copied c.in-Some.is) c.requires (subst (λ (v : Bytes). IsReadAs session_value IsSessionRec v o) c.as_slice.ensures is))
    c.session_in.result c.session_in.ensures
