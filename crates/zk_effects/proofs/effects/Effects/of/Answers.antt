use Rattle.std.proofs.Common.{◌≡◌, ℕ, ◌+◌, List, length, take, refl, ap, sym, ◌∙◌, arith, rules}
use Rattle.std.specs.Prelude.{Option, Some, option_map, slice_get}
use Rattle.zk_model.specs.declared.node.Trigger.{Trigger}
use Rattle.zk_model.specs.declared.reply.Body.{Body}
use Rattle.std.proofs.lemmas.Option.{slice_get_read}
use Rattle.zk_transcript.specs.declared.transcript.TranscriptLine.{TranscriptLine}
use Rattle.zk_service.specs.States.{State}
use Rattle.zk_transcript.specs.History.{after, state_at}
use Rattle.zk_history.specs.Commits.{response_to}
use Rattle.zk_history.proofs.Looking.{front}
use Rattle.zk_effects.specs.Effects.{effect_at, kept_of}
use Rattle.zk_effects.proofs.KeptEffects.{effects-more}
use Rattle.zk_effects.proofs.effects.Effects.of.Goals as goal

pub loop-line-init : goal.loop-line-init
loop-line-init c = record {
  place = search rules;
  over = search rules;
  each = λ k u less at. absurd (omega (arith, less));
}

pub invariant_of-result : goal.invariant_of-result
invariant_of-result c = record {
  each = λ k u less at. c.loop-line.invariant.each k u (omega (arith, less, c.loop-line-test.false)) at;
  nexts_stand = c.in_ok-nexts.ensures.stand;
  nexts_len = c.in_ok-nexts.ensures.len;
}

pub loop-line-preserved : goal.loop-line-preserved
loop-line-preserved c =
    let all : List TranscriptLine = c.args.all.now in
    let k = c.loop-line.line-index in
    let line : TranscriptLine = c.line-item.result in
    let before = c.loop-line.cursor.past in
    let next = c.in_ok-next.next.past in
    let here : before.len ≡ k = c.loop-line.invariant.place in
    let place : next.len ≡ k + 1 = c.in_ok-next.ensures.moment ∙ ap (λ (n : ℕ). n + 1) here in
    let over : next.all.now ≡ all = c.in_ok-next.ensures.all ∙ c.loop-line.invariant.over in
    let shown : slice_get all k ≡ Some line = slice_get_read all (length all) k line refl c.loop-line-test.true c.line-item.is in
    let shown_before : slice_get before.all.now before.len ≡ Some line =
    ap (λ (n : ℕ). slice_get before.all.now n) here ∙ ap (λ (ls : List TranscriptLine). slice_get ls k) c.loop-line.invariant.over ∙ shown in
    let noted = c.in_ok-table.ensures in
    let more = c.in_ok-table.table in
    let triggers = c.triggers.ensures ∙ ap (λ (s : State). s.triggers) (c.state.ensures ∙ ap after (front next.len (k + 1) next.all.now all place over)) in
    let response =
    c.in_ok-next.ensures.response line shown_before
    ∙ ap (λ (ls : List TranscriptLine). response_to ls (after ls) line) (front before.len k before.all.now all here c.loop-line.invariant.over) in
    record {
      place = place;
      over = over;
      each = effects-more all k line c.loop-line.table more shown c.loop-line.invariant.each
          (λ u is.
          ap (λ (n : ℕ). option_map kept_of (effect_at more n)) (sym here)
          ∙ noted.own u is
          ∙ ap (λ (ts : List Trigger). Some (ts, c.in_ok-next.response)) triggers
          ∙ ap (λ (r : Option Body). Some ((state_at all (k + 1)).triggers, r)) (response ∙ ap (response_to (take k all) (state_at all k)) is))
          (λ j other. noted.others j (λ same. other (same ∙ here)));
    }
