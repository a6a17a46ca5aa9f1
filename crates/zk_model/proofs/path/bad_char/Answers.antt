use Rattle.std.proofs.Common.{arith, ℕ, length, ap, length-append}
use Rattle.std.proofs.lemmas.Grind.{common_steps}
use Rattle.std.proofs.lemmas.Str.{IsUtf8-past_char}
use Rattle.zk_model.proofs.PathScans.{bad_char-next, bad_char-end}
use Rattle.zk_model.proofs.path.bad_char.Goals as goal

pub returns-then-not-is_path_char : goal.returns-then-not-is_path_char
returns-then-not-is_path_char c =
    let next = bad_char-next c.loop-c.place c.in-Some.c _ _ c.loop-c.invariant.is_text c.in-Some.ensures.steps.0 in
    grind (arith, common_steps)

pub loop-c-preserved : goal.loop-c-preserved
loop-c-preserved c =
    let next = bad_char-next c.loop-c.place c.in-Some.c _ _ c.loop-c.invariant.is_text c.in-Some.ensures.steps.0 in
    record {
      reached = omega (arith, ap length c.in-Some.ensures.steps.0, length-append {A = ℕ}, c.len_utf8-place.ensures.len, c.loop-c.invariant.reached);
      same = grind (arith, common_steps);
      is_text = IsUtf8-past_char _ _ _ c.loop-c.invariant.is_text c.in-Some.ensures.steps.0;
    }

pub returns : goal.returns
returns c = let done = bad_char-end c.loop-c.place _ c.in-None.ensures.steps.0.0 in cc
