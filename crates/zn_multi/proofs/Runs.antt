-- What is carried out, one part after the other.
use Rattle.std.proofs.Common.{◌≡◌, ℕ, ℤ, ◌+◌, ◌*◌, ◌<◌, ◌≤◌, length, List, [], ◌∷◌, ◌++◌, Option, Some, None, refl, sym, ap, ◌∙◌, subst, arith}
use Rattle.std.specs.Prelude.{All, IfSome, IsTrue}
use Rattle.std.specs.Option.{option_to_list}
use Rattle.std.proofs.lemmas.List.Elements.{All-append, All-map, All-nil, All-weaker}
use Rattle.std.proofs.lemmas.List.{length-append}
use Rattle.zk_model.specs.declared.node.Trigger.{Trigger}
use Rattle.zk_model.specs.declared.reply.PartResult.{PartResult}
use Rattle.zk_model.specs.declared.request.Part.{Part}
use Rattle.zn_layout.specs.Changes.{KeyChange, Put, act_at, act_of, acts_of}
use Rattle.zn_layout.specs.Keys.{key_bytes}
use Rattle.zn_view.specs.declared.plan.Who.{Who}
use Rattle.zn_view.specs.Seen.{View, IsOfKind, kind_of_bytes}
use Rattle.zx_base.specs.Maps.{Bytes}
use Rattle.zn_updates.specs.declared.chosen.Chosen.TheVariants.{Refused, Made}
use Rattle.zn_updates.specs.declared.chosen.Update.{Update}
use Rattle.zn_updates.specs.Choices.{Choice, Refuse, Make}
use Rattle.zn_updates.specs.Layers.{layered}
use Rattle.zn_updates.specs.Making.{chosen_of}
use Rattle.zn_updates.specs.Parts.{AreKept, AreOwn, IfChanges, IfOwn, IsKeptChange, IsPartChoice}
use Rattle.zk_model.specs.Limits.{max_parts}
use Rattle.zk_model.specs.Paths.{is_path}
use Rattle.zn_layout.specs.Records.{IsHeadRec}
use Rattle.zk_model.specs.Watches.{trigger_path}
use Rattle.zn_multi.specs.Carrying.{no_progress, IsStep, IsTouched, Runs}
use Rattle.zn_multi.specs.declared.carrying.Carried.TheVariants.{Stopped, Passed}
use Rattle.zn_multi.specs.Laying.{PutsRecord, with_acts}
use Rattle.zn_multi.specs.declared.carrying.Progress.{Progress}

passed_same : (a b : Progress) → Passed a ≡ Passed b → a ≡ b
passed_same a b e = cc

not_stopped : (a : Progress) (k : ℕ) (code : ℤ) → Passed a ≡ Stopped k code → ⊥
not_stopped a k code e = cc

-- ---- an update's operations put records

put_record : (k : Bytes) (w : Option Put) → IfSome w (λ (x : Put). IsOfKind (kind_of_bytes k) x.value) → PutsRecord (act_at k w)
put_record k None h = tt
put_record k (Some w) h = h

kept_records : (cs : List KeyChange) → All IsKeptChange cs → All PutsRecord (acts_of cs)
kept_records cs all = All-map PutsRecord act_of cs (All-weaker IsKeptChange (λ (c : KeyChange). PutsRecord (act_of c)) (λ c h. put_record (key_bytes c.key) c.put h.written) cs all)

-- the changes of an update
pub record IsUpdate (id : ℤ) (v : View) (p : Part) (u : Update) (c : Choice) : Type 0 where
  pub changes : List KeyChange
  pub told : List Trigger
  pub draft : PartResult
  pub is : c ≡ Make changes told draft
  pub kept : AreKept changes told
  pub own : AreOwn id v p changes
  pub same : u ≡ record { acts = acts_of changes; triggers = told; draft = draft }

made_not_refused : (u : Update) (code : ℤ) → Made u ≡ Refused code → ⊥
made_not_refused u code e = cc

made_same : (u w : Update) → Made u ≡ Made w → u ≡ w
made_same u w e = cc

update_of : (id : ℤ) (v : View) (p : Part) (u : Update) (c : Choice) → Made u ≡ chosen_of c → IfChanges AreKept c → IfOwn id v p c → IsUpdate id v p u c
update_of id v p u (Refuse code) is kept own = absurd (made_not_refused u code is)
update_of id v p u (Make cs ts draft) is kept own = record { changes = cs; told = ts; draft = draft; is = refl; kept = kept; own = own; same = made_same u _ is }

module _ (p : Part) (who : Who) (now : ℕ) (v : View) (u : Update) (h : IsPartChoice p who now v (Made u)) where
  pub update : IsUpdate who.session v p u (h.choice now)
  update = update_of who.session v p u (h.choice now) h.is h.kept h.own

  pub update_records : All PutsRecord u.acts
  update_records = subst (λ (w : Update). All PutsRecord w.acts) (sym update.same) (kept_records update.changes update.kept.changes)

-- a part that was not refused is a step
pub step : (p : Part) (who : Who) (now : ℕ) (v : View) (old new : Progress) (u : Update) (owner : Option ℤ) → IsPartChoice p who now (layered old.over v) (Made u) → IsTouched (layered old.over v) who.session p owner
    → new.over ≡ with_acts old.over u.acts → new.results ≡ old.results ++ u.draft ∷ [] → new.triggers ≡ old.triggers ++ u.triggers → new.touched ≡ old.touched ++ option_to_list owner → IsStep p who now v old new
step p who now v old new u owner h touched over results triggers sessions =
    let is = update p who now (layered old.over v) u h in
    record {
      changes = is.changes;
      told = is.told;
      draft = is.draft;
      choice = h.choice;
      is = is.is;
      chosen = h.chosen;
      kept = is.kept;
      own = is.own;
      owner = owner;
      owner_is = touched;
      over = over ∙ ap (λ (w : Update). with_acts old.over w.acts) is.same;
      results = results ∙ ap (λ (w : Update). old.results ++ w.draft ∷ []) is.same;
      triggers = triggers ∙ ap (λ (w : Update). old.triggers ++ w.triggers) is.same;
      touched = sessions;
    }

-- ---- what watches see

abbrev pub IsValidTrigger : Trigger → Type 0
IsValidTrigger t = IsTrue (is_path (trigger_path t))

-- each part shows two triggers at most
pub runs_told : (who : Who) (now : ℕ) (v : View) (ps : List Part) (old new : Progress) (place : ℕ) → Runs who now v old place ps (Passed new) → All IsValidTrigger old.triggers
    → All IsValidTrigger new.triggers × (length new.triggers ≤ length old.triggers + 2 * length ps)
runs_told who now v [] old new place runs valid =
    let same : new ≡ old = passed_same new old runs in
    (subst (λ (x : Progress). All IsValidTrigger x.triggers) (sym same) valid, subst (λ (x : Progress). length x.triggers ≤ length old.triggers + 0) (sym same) (omega arith))
runs_told who now v (p ∷ ps) old new place (Stopped k code, one, rest) valid = absurd (not_stopped new k code rest)
runs_told who now v (p ∷ ps) old new place (Passed mid, one, rest) valid =
    let now_valid : All IsValidTrigger mid.triggers = subst (All IsValidTrigger) (sym one.triggers) (All-append IsValidTrigger old.triggers one.told valid one.kept.triggers.valid) in
    let more = runs_told who now v ps mid new (place + 1) rest now_valid in
    let added : length mid.triggers ≡ length old.triggers + length one.told = ap (λ (l : List Trigger). length l) one.triggers ∙ length-append old.triggers one.told in
    let bound = more.1 in
    let few = one.kept.told in
    (more.0, omega (arith, added, bound, few))

pub run_head : (who : Who) (now : ℕ) (v : View) (ps : List Part) (new : Progress) → Runs who now v no_progress 0 ps (Passed new) → length ps ≤ max_parts → IsHeadRec new.triggers
run_head who now v ps new runs few = let told = runs_told who now v ps no_progress new 0 runs (All-nil IsValidTrigger) in let bound = told.1 in record { count = omega (arith, bound, few); valid = told.0 }

stopped_same : (k place : ℕ) (code other : ℤ) → Stopped k code ≡ Stopped place other → k ≡ place
stopped_same k place code other e = cc

not_passed : (a : Progress) (k : ℕ) (code : ℤ) → Stopped k code ≡ Passed a → ⊥
not_passed a k code e = cc

-- ---- the part that is refused stands among them

pub runs_place : (who : Who) (now : ℕ) (v : View) (ps : List Part) (old : Progress) (place k : ℕ) (code : ℤ) → Runs who now v old place ps (Stopped k code) → k < place + length ps
runs_place who now v [] old place k code runs = absurd (not_passed old k code runs)
runs_place who now v (p ∷ ps) old place k code (Stopped j other, one, rest) = let same = stopped_same k j code other rest in let here = one.0 in omega (arith, same, here)
runs_place who now v (p ∷ ps) old place k code (Passed mid, one, rest) = let later = runs_place who now v ps mid (place + 1) k code rest in omega (arith, later)
