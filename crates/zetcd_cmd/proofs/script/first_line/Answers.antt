use Rattle.std.proofs.Common.{◌++◌, ◌∷◌, take, drop, ◌+◌, ◌<◌, ℕ, List, length, ap, sym, ◌∙◌, arith, ne_eqb}
use Rattle.std.proofs.lemmas.List.{drop_more, take-append-drop, take_rest}
use Rattle.zt_text.proofs.PieceLaws.{Lacks-all, Lacks-more}
use Rattle.zetcd_cmd.proofs.script.first_line.Goals as goal

pub returns-then-byte-eq-LINE_FEED : goal.returns-then-byte-eq-LINE_FEED
returns-then-byte-eq-LINE_FEED c =
    let bytes = c.args.bytes.now in
    let at = c.loop-at.at in
    let within : at < length bytes = omega arith in (
      sym (take-append-drop at bytes)
          ∙ ap (λ (rest : List ℕ). take at bytes ++ rest) (drop_more bytes at 0 within ∙ ap (λ (b : ℕ). b ∷ drop (at + 1) bytes) c.if-byte-eq-LINE_FEED.true)
          ∙ ap (λ (rest : List ℕ). take at bytes ++ 10 ∷ rest) (sym (take_rest bytes (at + 1))),
      c.loop-at.invariant,
    )

pub loop-at-preserved : goal.loop-at-preserved
loop-at-preserved c = Lacks-more 10 c.args.bytes.now c.loop-at.at c.loop-at.invariant (omega arith) (ne_eqb _ _ c.if-byte-eq-LINE_FEED.false)

pub returns : goal.returns
returns c = Lacks-all 10 c.args.bytes.now c.loop-at.at c.loop-at.invariant (omega arith)
