-- A reply that is tried as of a moment: how the connection goes on after its answer, and what is left to be tried without one.
use Rattle.std.proofs.Common.{◌≡◌, ℕ, pos, ◌+◌, ◌-◌, ◌<◌, ◌≤◌, List, ◌∷◌, length, length-drop, drop, Option, Some, None, ap, sym, ◌∙◌, subst, arith}
use Rattle.std.specs.Prelude.{◌<ℤ◌, IfSome, option_map, option_to_list}
use Rattle.zk_transcript.specs.declared.transcript.TranscriptLine.{TranscriptLine}
use Rattle.zk_transcript.specs.Walks.{Due, packets}
use Rattle.zk_least.specs.LeastSteps.{is_least}
use Rattle.zk_legal.specs.Faults.{history_fault}
use Rattle.zk_judge.specs.Fronts.{IsTold}
use Rattle.zk_judge.specs.Seen.{left_by, walker_of}
use Rattle.zk_judge.specs.Waiting.{IsEarliest, IsNotBefore, IsWait, IsWaiting, gives_rest, goes_on, is_walked, next_tried, packets_after, tried}
use Rattle.zk_judge.specs.declared.waits.Wait.{Wait}
use Rattle.zk_judge.specs.declared.waits.Walked.{Walked}
use Rattle.zk_judge.specs.declared.waits.Walked.TheVariants as walk
use Rattle.zk_judge.specs.declared.walker.Party.{Party}
use Rattle.zk_judge.specs.declared.walker.Step.{Step}
use Rattle.zk_judge.specs.declared.walker.Walker.{Walker as Walking}
use Rattle.zk_judge.proofs.RestAfter.{drop-both}
use Rattle.zk_judge.proofs.Replied.{answer-on, goes-first}

-- after the step that answers it, the rest of the conversation decides what x waits for
pub record IsTriedBy (lines : List TranscriptLine) (x : Wait) (s : Step) : Type 0 where
  pub earliest : IsEarliest lines (walker_of s.walker) x.first
  pub above : pos 0 <ℤ s.walker.zxid
  pub told : IsTold lines (walker_of s.walker)
  pub within : x.taken + length s.due.items ≤ length (packets x.party.connection lines)
  pub fewer : length (packets x.party.connection lines) - (x.taken + length s.due.items) < length (packets x.party.connection lines) - x.taken
  pub walked : gives_rest lines x.party (walker_of s.walker) (x.taken + length s.due.items) ≡ is_walked lines (walk.Waits x)

pub tried-answers : (lines : List TranscriptLine) (x : Wait) (ps : List Due) (o : Option Step) (s : Step) → history_fault lines ≡ None → IsWait lines x.first x → ps ≡ packets_after lines x.party x.taken → o ≡ Some s
    → option_map (left_by ps) o ≡ tried lines x.party.connection x.party.session (walker_of x.walker) ps x.first → IfSome o (λ t. length t.due.items ≤ length ps) → IsTriedBy lines x s
tried-answers lines x ps o s run stands here is gives within =
    let c = x.party.connection in
    let id = x.party.session in
    let w = walker_of x.walker in
    let n = length s.due.items in
    let all = packets c lines in
    let some : tried lines c id w ps x.first ≡ Some (left_by ps s) = sym gives ∙ ap (option_map (left_by ps)) is in
    let a = answer-on lines c id w ps x.first (left_by ps s) run stands.above some in
    let most : n ≤ length ps = subst (λ (q : Option Step). IfSome q (λ t. length t.due.items ≤ length ps)) is within in
    let size = ap (λ (ds : List Due). length ds) here in
    let taken = stands.taken in
    let fewer = a.fewer in
    let goes = goes-first lines c id w ps x.first (option_to_list x.second) (left_by ps s) some in
    let rest = ap (is_least lines c id (walker_of s.walker)) (ap (drop n) here ∙ drop-both x.taken n all) in
    record {
      earliest = a.earliest;
      above = a.above;
      told = a.told;
      within = omega (arith, most, size, taken, length-drop x.taken all);
      fewer = omega (arith, most, fewer, size, length-drop n ps, length-drop x.taken all);
      walked = sym (goes ∙ rest) ∙ ap (λ (ds : List Due). goes_on lines c id w ds (x.first ∷ option_to_list x.second)) here;
    }

pub tried-misses : (lines : List TranscriptLine) (x : Wait) (ps : List Due) (o : Option Step) → ps ≡ packets_after lines x.party x.taken → o ≡ None
    → option_map (left_by ps) o ≡ tried lines x.party.connection x.party.session (walker_of x.walker) ps x.first → None ≡ next_tried lines x
tried-misses lines x ps o here is gives = ap (option_map (left_by ps)) (sym is) ∙ gives ∙ ap (λ (ds : List Due). tried lines x.party.connection x.party.session (walker_of x.walker) ds x.first) here

-- ---- the second moment

pub second-waits : (lines : List TranscriptLine) (x y : Wait) → IsWait lines x.first x → x.first < y.first → y.first ≤ length lines → y.second ≡ None → y.party ≡ x.party → y.taken ≡ x.taken → y.walker ≡ x.walker → IsWait lines (x.first + 1) y
second-waits lines x y stands more within none party taken walker = record {
  first = omega (arith, more);
  last = within;
  second = subst (λ (o : Option ℕ). IsNotBefore y.first o) (sym none) tt;
  above = subst (λ (v : Walking). pos 0 <ℤ v.zxid) (sym walker) stands.above;
  told = subst (λ (v : Walking). IsTold lines (walker_of v)) (sym walker) stands.told;
  taken = subst (λ (p : Party). y.taken ≤ length (packets p.connection lines)) (sym party) (subst (λ (n : ℕ). n ≤ length (packets x.party.connection lines)) (sym taken) stands.taken);
}

-- what waits for a moment after this one waits for none before it
pub still-waits : (lines : List TranscriptLine) (m : ℕ) (r : Walked) → IsWaiting lines (m + 1) r → IsWaiting lines m r
still-waits lines m (walk.Ends b) waits = waits
still-waits lines m (walk.Waits x) waits =
    let first = waits.first in
    record { first = omega (arith, first); last = waits.last; second = waits.second; above = waits.above; told = waits.told; taken = waits.taken }
