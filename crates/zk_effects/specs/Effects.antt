-- What is kept of the updates of a transcript: what each did, and where the next one stands.
use Rattle.std.specs.Prelude.{◌≡◌, ℕ, ◌+◌, ◌-◌, ◌<◌, ◌≤◌, List, length, take, Option, Some, option_map, slice_get}
use Rattle.std.specs.BTreeMap as tree
use Rattle.std.specs.Ordering.{nat_cmp}
use Rattle.zk_model.specs.declared.node.Trigger.{Trigger}
use Rattle.zk_model.specs.declared.reply.Body.{Body}
use Rattle.zk_service.specs.declared.update.UpdateRec.{UpdateRec}
use Rattle.zk_transcript.specs.declared.transcript.TranscriptLine.{TranscriptLine}
use Rattle.zk_transcript.specs.declared.transcript.TranscriptLine.TheVariants.{Update}
use Rattle.zk_transcript.specs.History.{state_at}
use Rattle.zk_history.specs.Commits.{response_in, response_to}
use Rattle.zk_effects.specs.declared.effects.Effect.{Effect}
use Rattle.zk_effects.specs.declared.effects.Table.{Table}

-- what a table has of the line at place k
abbrev pub effect_at : Table → ℕ → Option Effect
effect_at t k = tree.get nat_cmp t.kept k

abbrev pub kept_of : Effect → List Trigger × Option Body
kept_of e = (e.triggers, e.response)

-- these triggers and this response are kept
abbrev pub IsEffect : Option Effect → List Trigger → Option Body → Type 0
IsEffect o triggers response = option_map kept_of o ≡ Some (triggers, response)

-- the body of the reply to the request that an update at place k carried out, unless that is a closeSession
abbrev pub kept_response : List TranscriptLine → ℕ → UpdateRec → Option Body
kept_response all k u = response_in (take k all) (state_at all k) u.zxid u.kind

-- what the updates among the first n lines did is kept
abbrev pub AreEffects : List TranscriptLine → ℕ → Table → Type 0
AreEffects all n t = (k : ℕ) (u : UpdateRec) → k < n → slice_get all k ≡ Some (Update u)
    → IsEffect (effect_at t k) (state_at all (k + 1)).triggers (response_to (take k all) (state_at all k) (Update u))

-- n is at place k or later, and no update stands from place k on before n
abbrev pub IsNext : List TranscriptLine → ℕ → ℕ → Type 0
IsNext all k n = (k ≤ n) × (n ≤ length all) × ((j : ℕ) (u : UpdateRec) → k ≤ j → j < n → slice_get all j ≡ Some (Update u) → ⊥)

-- the entry at j is that of the place which is j before the end
abbrev pub AreNexts : List TranscriptLine → List ℕ → Type 0
AreNexts all nexts = (j n : ℕ) → slice_get nexts j ≡ Some n → IsNext all (length all - j) n
