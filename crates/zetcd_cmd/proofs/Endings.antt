-- How a script ended, from the reads of its source.
use Rattle.std.proofs.Common.{◌≡◌, ℕ, List, ◌++◌, length, take, sym, ap, ◌∙◌, subst, inl, inr}
use Rattle.std.specs.Prelude.{Bool, true, Option}
use Rattle.std.specs.Io.KnownBytes.{IsAtEnd}
use Rattle.std.proofs.Math.Seq.{take-append_seam}
use Rattle.zx_outside.specs.Reading.{Gives, GivesNone}
use Rattle.zx_outside.proofs.Streams.{Gives-none}
use Rattle.zetcd_cmd.specs.declared.report.End.{End}
use Rattle.zetcd_cmd.specs.declared.report.End.TheVariants as end
use Rattle.zetcd_cmd.specs.declared.script.Script.{Script}
use Rattle.zetcd_cmd.specs.declared.script.Stop.{Stop}
use Rattle.zetcd_cmd.specs.Ending.{EndsAll, EndsAt, EndsReading}
use Rattle.zetcd_cmd.specs.Outcomes.{IsAtItsEnd}
use Rattle.zetcd_cmd.specs.Scripting.{ScriptStands, EndsEarly}

pub at_its_end : (ended : Bool) (left left' : Option (List ℕ)) → ended ≡ true → IsAtEnd left → left' ≡ left → IsAtItsEnd ended left'
at_its_end ended left left' is none stays = record { ended = is; left = subst IsAtEnd (sym stays) none }

-- it ended at a line
pub EndsReading-stopped : (seen : List ℕ) (ended : Bool) (given given' left left' : Option (List ℕ)) (s : Script) (why : Stop) → Gives seen given given' left left' →
    EndsEarly seen s why → EndsReading (end.Stopped why) ended s given given' left left'
EndsReading-stopped seen ended given given' left left' s why gives early = (seen, gives, inr early)

-- it came whole
ends_at : (how : End) (seen : List ℕ) (ended : Bool) (left : Option (List ℕ)) (s : Script) → IsAtItsEnd ended left → EndsAll how seen s → EndsAt how ended left seen s
ends_at end.Whole seen ended left s whole ends = (whole, ends)
ends_at (end.Stopped why) seen ended left s whole ends = inl (whole, ends)
ends_at end.ReadFault seen ended left s whole ends = absurd ends

pub EndsReading-all : (how : End) (seen : List ℕ) (ended : Bool) (given given' given'' left left' left'' : Option (List ℕ)) (s : Script) → Gives seen given given' left left' → IsAtEnd left' → ended ≡ true →
    GivesNone given' given'' left' left'' → EndsAll how seen s → EndsReading how ended s given given'' left left''
EndsReading-all how seen ended given given' given'' left left' left'' s gives none is stays ends =
    (seen, Gives-none seen given given' given'' left left' left'' gives stays, ends_at how seen ended left'' s (at_its_end ended left' left'' is none stays.left_stays) ends)

pub no_fault_at_end : (how : End) (seen : List ℕ) (s : Script) → EndsAll how seen s → how ≡ end.ReadFault → ⊥
no_fault_at_end end.Whole seen s ends is = cc
no_fault_at_end (end.Stopped why) seen s ends is = cc
no_fault_at_end end.ReadFault seen s ends is = ends

-- it was cut short
pub EndsReading-fault : (seen : List ℕ) (ended : Bool) (given given' given'' left left' left'' : Option (List ℕ)) (s : Script) → Gives seen given given' left left' → GivesNone given' given'' left' left'' →
    ScriptStands seen s → EndsReading end.ReadFault ended s given given'' left left''
EndsReading-fault seen ended given given' given'' left left' left'' s gives stays read = (seen, Gives-none seen given given' given'' left left' left'' gives stays, read)

-- a buffer that was written over whole
pub written_over : (now new old : List ℕ) (size : ℕ) → now ≡ take size (new ++ old) → length new ≡ size → now ≡ new
written_over now new old size is whole = is ∙ ap (λ n. take n (new ++ old)) (sym whole) ∙ take-append_seam new old
