use Rattle.std.proofs.Common.{◌≡◌, ◌++◌, ap, Err, List, ℕ, sym, subst, ◌∙◌}
use Rattle.std.specs.Global.{Vec}
use Rattle.ev_http.specs.Taking.{told}
use Rattle.ev_http.specs.Heads.{TakesHead, IsOpenHead, FitsHead}
use Rattle.ev_http.proofs.Heads.{IsOpenHead-nil}
use Rattle.ev_http.proofs.Messages.{stops_in_head}
use Rattle.ev_http.proofs.head.read_head.Goals as goal

pub returns-in-Err : goal.returns-in-Err
returns-in-Err g c =
    let source = told g.S.Source.given g.S.Source.left g.S.Source.counts g.S.Source.ended g.S.Source.name c.take_head.new.source in
    let got = c.in-Err.ensures.head in
    record {
      head = (
        got.0,
        got.1,
        stops_in_head (Vec ℕ) c.in-Err.fault c.args.kind got.0 c.take_head.new.head.items source c.take_head.new.tally
            (subst (λ (x : List ℕ). TakesHead (Err c.in-Err.fault) c.args.kind x got.0 c.take_head.new.head.items source c.take_head.new.tally) c.new-head.ensures.items (got.2 (subst (λ (x : List ℕ). IsOpenHead c.args.kind x) (sym c.new-head.ensures.items) (IsOpenHead-nil c.args.kind)))) c.args.tally.now.taken c.requires.first got.1.taken,
      );
    }

pub returns-in-Ok : goal.returns-in-Ok
returns-in-Ok g c =
    let got = c.in-Ok.ensures.head in
    let begun = subst (λ (x : List ℕ). IsOpenHead c.args.kind x) (sym c.new-head.ensures.items) (IsOpenHead-nil c.args.kind) in
    let head = got.2 begun in
    let same : c.take_head.new.head.items ≡ got.0 = head.0 ∙ ap (λ (x : List ℕ). x ++ got.0) c.new-head.ensures.items in
    record { head = (got.0, got.1, (same, head.1, subst (λ (x : List ℕ). FitsHead c.args.kind head.1 x) same head.2)) }
