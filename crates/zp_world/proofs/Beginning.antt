-- The first world: the first update has the first entry.
use Rattle.std.proofs.Common.{◌≡◌, sym, ap, ◌∙◌, subst, List, [], ◌∷◌}
use Rattle.std.specs.Prelude.{Option, Some, None, pos}
use Rattle.std.specs.FinMap.{empty}
use Rattle.ev_types.specs.declared.answer.Kv.{Kv}
use Rattle.ev_types.specs.Denials.{carry}
use Rattle.ev_types.specs.Ranges.{Keys}
use Rattle.ev_types.specs.Store.{Store, mod_of, new_store, present}
use Rattle.ev_types.specs.declared.answer.Answer.{Answer}
use Rattle.zk_model.specs.declared.node.Trigger.{Trigger}
use Rattle.zk_transcript.specs.History.{after, begin_lines}
use Rattle.zn_layout.specs.Begin.{Begins, begin_ask}
use Rattle.zn_layout.specs.Keys.{HeadKey}
use Rattle.zn_layout.specs.Reading.{IsReadAs, IsHeadWithin, head_bytes}
use Rattle.zn_layout.specs.Records.{IsHeadRec, head_value}
use Rattle.zn_layout.specs.StandsFor.{HeadMeans, StandsFor, at}
use Rattle.zn_layout.specs.declared.entry.Entry.{Entry}
use Rattle.zn_layout.specs.declared.record.HeadRec.{HeadRec}
use Rattle.zk_transcript.proofs.Begins.{after-begin}
use Rattle.zk_service.specs.States.{first_state}
use Rattle.zn_layout.proofs.ListRecords.{head_value-injective}
use Rattle.zp_script.specs.Entries.{AreTriggersOf, IsEntryOf, triggers_of}
use Rattle.zp_script.specs.Runs.{first_entry, world_over}
use Rattle.zp_script.specs.Worlds.{World}
use Rattle.zp_ledger.specs.Entering.{IsAdded}
use Rattle.zx_base.proofs.Options.{some_is}
use Rattle.zx_base.specs.Maps.{Bytes}

-- ---- its store

begun : (b : Begins 0) (s : Store) (a : Answer) → carry new_store (begin_ask 0) ≡ Some (s, a) → b.new ≡ s
begun b s a h = ap (λ (p : Store × Answer). p.0) (some_is (sym b.carried ∙ h))

-- its keys stand for the state after the first update's line
pub begun-stands : Begins 0 → (s : Store) → (a : Answer) × (carry new_store (begin_ask 0) ≡ Some (s, a)) → StandsFor (present s) (after (begin_lines 0))
begun-stands b s h = subst (λ (t : Store). StandsFor (present t) (after (begin_lines 0))) (begun b s h.0 h.1) (subst (StandsFor (present b.new)) (sym (after-begin 0)) b.stands)

-- ---- its entry

none-told : (v : Bytes) (r : Option HeadRec) (ts : List Trigger) → IsHeadRec [] → v ≡ head_value [] → IsReadAs head_bytes IsHeadWithin v r → ts ≡ triggers_of r → ts ≡ []
none-told v None ts fits value read is = is
none-told v (Some r) ts fits value read is = is ∙ head_value-injective r.triggers [] read.0 fits (sym read.1 ∙ value)

first-told : (head : Option Kv) (ts : List Trigger) → HeadMeans head (first_state 0) → AreTriggersOf head ts → ts ≡ []
first-told None ts means told = absurd means
first-told (Some kv) ts means told = none-told kv.value told.0 ts means.fits means.value told.1 told.2

first-zxid : (head : Option Kv) → HeadMeans head (first_state 0) → mod_of head ≡ pos 2
first-zxid None means = absurd means
first-zxid (Some kv) means = means.zxid

first-entry : (head : Option Kv) (e : Entry) → HeadMeans head (first_state 0) → IsEntryOf 1 head e → e ≡ first_entry
first-entry head e means of = λ i. record { number = of.number i; zxid = (of.zxid ∙ first-zxid head means) i; triggers = first-told head e.triggers means of.triggers i }

pub first-entries : (keys : Keys) (old es : List Entry) (head : Option Kv) → StandsFor keys (after (begin_lines 0)) → IsAdded old head es → old ≡ [] → head ≡ at keys HeadKey → es ≡ first_entry ∷ []
first-entries keys old es head stands added none is =
    let first : IsAdded [] (at keys HeadKey) es = subst (λ (o : Option Kv). IsAdded [] o es) is (subst (λ (x : List Entry). IsAdded x head es) none added) in
    first.added ∙ ap (λ (e : Entry). e ∷ []) (first-entry (at keys HeadKey) first.entry (subst (HeadMeans (at keys HeadKey)) (after-begin 0) stands.head) first.of)

pub first-world : (w : World) (s : Store) → w.store ≡ s → w.clock ≡ 0 → w.conns ≡ empty → w.strays ≡ [] → w.lines ≡ begin_lines 0 → w.entries ≡ first_entry ∷ [] → w ≡ world_over s
first-world w s store clock conns strays lines entries = λ i. record { store = store i; clock = clock i; conns = conns i; strays = strays i; lines = lines i; entries = entries i }
