use Rattle.std.proofs.Common.{◌≡◌, ◌+◌, ◌∷◌, [], List, Some, false, true, length, drop, sym, ap, ◌∙◌, arith}
use Rattle.std.specs.Prelude.{◌&&◌, bytes_eq, nat_le}
use Rattle.std.proofs.lemmas.List.{at_drop_all, at_drop_more}
use Rattle.zk_transcript.specs.Walks.{Due}
use Rattle.zk_least.specs.LeastWalk.{rest_after}
use Rattle.zk_judge.specs.Sent.{packets_in}
use Rattle.zk_judge.proofs.RestAfter.{rest_after-given, rest_after-refused, drop-next, next-within}
use Rattle.zk_judge.proofs.packets.come_first.Goals as goal

pub returns-in_default-clause-rest : goal.returns-in_default-clause-rest
returns-in_default-clause-rest c =
    let due = c.args.due.now in
    let i = c.loop-wanted.wanted-index in
    let d : Due = c.wanted-item.result in
    c.loop-wanted.invariant.rest
    ∙ ap (rest_after (drop i due)) c.in_default.ensures
    ∙ at_drop_more (λ (ds : List Due). rest_after ds []) due i d c.loop-wanted-test.true

pub returns-then-not-is_given-clause-rest : goal.returns-then-not-is_given-clause-rest
returns-then-not-is_given-clause-rest c =
    let due = c.args.due.now in
    let i = c.loop-wanted.wanted-index in
    let d : Due = c.wanted-item.result in
    let p : Due = (c.in-Some.place, c.in-Some.bytes.now) in
    let ps = packets_in c.in-Some.rest in
    let not : (nat_le d.0 p.0 && bytes_eq d.1 p.1) ≡ false = sym c.is_given.ensures ∙ c.if-not-is_given.true in
    c.loop-wanted.invariant.rest
    ∙ ap (rest_after (drop i due)) c.in-Some.ensures
    ∙ at_drop_more (λ (ds : List Due). rest_after ds (p ∷ ps)) due i d c.loop-wanted-test.true
    ∙ ap (λ (e : Due). rest_after (e ∷ drop (i + 1) due) (p ∷ ps)) (sym c.wanted-item.is)
    ∙ rest_after-refused d p (drop (i + 1) due) ps not

pub loop-wanted-preserved : goal.loop-wanted-preserved
loop-wanted-preserved c =
    let due = c.args.due.now in
    let i = c.loop-wanted.wanted-index in
    let d : Due = c.wanted-item.result in
    let p : Due = (c.in-Some.place, c.in-Some.bytes.now) in
    let ps = packets_in c.in-Some.rest in
    let given : (nat_le d.0 p.0 && bytes_eq d.1 p.1) ≡ true = sym c.is_given.ensures ∙ c.if-not-is_given.false in
    let whole = packets_in c.args.packets in
    let at : p ∷ ps ≡ drop i whole = sym c.in-Some.ensures ∙ c.loop-wanted.invariant.left in
    record {
      rest = c.loop-wanted.invariant.rest
          ∙ ap (rest_after (drop i due)) c.in-Some.ensures
          ∙ at_drop_more (λ (ds : List Due). rest_after ds (p ∷ ps)) due i d c.loop-wanted-test.true
          ∙ ap (λ (e : Due). rest_after (e ∷ drop (i + 1) due) (p ∷ ps)) (sym c.wanted-item.is)
          ∙ rest_after-given d p (drop (i + 1) due) ps given;
      left = drop-next whole ps i p at;
      within = next-within whole ps i p c.loop-wanted.invariant.within at;
      few = omega (arith, c.loop-wanted-test.true);
    }

pub returns-clause-rest : goal.returns-clause-rest
returns-clause-rest c =
    let due = c.args.due.now in
    let i = c.loop-wanted.wanted-index in
    let few = c.loop-wanted.invariant.few in
    let all : i ≡ length due = omega (arith, few, c.loop-wanted-test.false) in
    c.loop-wanted.invariant.rest
    ∙ at_drop_all (λ (ds : List Due). rest_after ds (packets_in c.loop-wanted.left)) due i c.loop-wanted-test.false
    ∙ ap (λ (ds : List Due). Some ds) c.loop-wanted.invariant.left
    ∙ ap (λ k. Some (drop k (packets_in c.args.packets))) all
