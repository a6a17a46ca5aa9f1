use Rattle.std.proofs.Common.{List, sym, subst}
use Rattle.zx_base.specs.Maps.{Bytes}
use Rattle.zw_watch.specs.Armed.{watches_of}
use Rattle.zw_watch.specs.Noted.{IsWithout}
use Rattle.zw_watch.proofs.Undoing.{without-none}
use Rattle.zw_watch.proofs.sets.PathSets.rearm.Goals as goal

pub returns-in-Err-clause-err : goal.returns-in-Err-clause-err
returns-in-Err-clause-err c =
    let on_data = c.args.self.now.on_data in
    let on_children = c.args.self.now.on_children in
    c.undo.ensures (watches_of c.args.self.now) (c.see_paths.ensures.undo (watches_of c.args.self.now) (
      subst (λ (ps : List Bytes). IsWithout on_data ps on_data) (sym c.new-round.ensures.on_data) (without-none on_data),
      subst (λ (ps : List Bytes). IsWithout on_children ps on_children) (sym c.new-round.ensures.on_children) (without-none on_children),
    ))
