use Rattle.std.proofs.Common.{ℤ, pos, ◌+◌, SFits, w64, take, get_or, sym, subst, rules}
use Rattle.std.specs.Prelude.{Bool, Ok, Err}
use Rattle.std.proofs.lemmas.Int.{to_z-of_z}
use Rattle.zs_reaper.specs.Calling.{Makes, link_told}
use Rattle.zs_reaper.specs.Reaping.{Reaps, ReapsEach}
use Rattle.zs_reaper.proofs.Each.{each_cut, each_more}
use Rattle.zs_reaper.proofs.reaping.reap_each.Goals as goal

pub returns-in-Err : goal.returns-in-Err
returns-in-Err g c =
    let began = (link_told g.L.Etcd.told g.L.Etcd.failures c.args.link.now) in
    let here = (link_told g.L.Etcd.told g.L.Etcd.failures c.sessions.link) in
    let ended = (link_told g.L.Etcd.told g.L.Etcd.failures c.reap_one-reaped.new.link) in
    let n = get_or c.args.sessions.now c.sessions.session-index (pos 0) in
    let fits : SFits w64 n = search rules in
    each_cut c.args.sessions.now c.sessions.session-index (pos 0) c.sessions.is_damaged c.in-Err.fault began here ended c.sessions-test.true c.sessions.invariant
    (subst (λ (k : ℤ). Makes (Reaps k (Err c.in-Err.fault)) here ended) (to_z-of_z w64 n fits) c.in-Err.ensures)

pub sessions-preserved : goal.sessions-preserved
sessions-preserved g c =
    let began = (link_told g.L.Etcd.told g.L.Etcd.failures c.args.link.now) in
    let here = (link_told g.L.Etcd.told g.L.Etcd.failures c.sessions.link) in
    let ended = (link_told g.L.Etcd.told g.L.Etcd.failures c.reap_one-reaped.new.link) in
    let n = get_or c.args.sessions.now c.sessions.session-index (pos 0) in
    let fits : SFits w64 n = search rules in
    subst (λ (b : Bool). Makes (ReapsEach (take (c.sessions.session-index + 1) c.args.sessions.now) (Ok b)) began ended) (sym c.either-is_damaged.ensures)
    (each_more c.args.sessions.now c.sessions.session-index (pos 0) c.sessions.is_damaged c.in-Ok.damaged began here ended c.sessions-test.true c.sessions.invariant
    (subst (λ (k : ℤ). Makes (Reaps k (Ok c.in-Ok.damaged)) here ended) (to_z-of_z w64 n fits) c.in-Ok.ensures))
