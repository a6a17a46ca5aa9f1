-- A plan on the guess that a record is absent.
use Rattle.std.specs.Prelude.{◌≡◌, ℕ, Bool, ◌&&◌, not, List, [], ◌∷◌, Option, Some, None}
use Rattle.zk_model.specs.declared.request.Request.{Request}
use Rattle.zx_base.specs.Maps.{Bytes}
use Rattle.zn_view.specs.Adding.{is_new}
use Rattle.zn_view.specs.Deciding.{IsTaken}
use Rattle.zn_view.specs.Seen.{View}
use Rattle.zn_view.specs.declared.plan.Who.{Who}
use Rattle.zn_view.specs.declared.want.Want.{Want}
use Rattle.zn_view.specs.declared.want.Want.TheVariants as want
use Rattle.zp_step.specs.Looking.{MayGuess, PassesOver, guessed, is_node_key, makes_sequence}
use Rattle.zp_core.specs.OnKept.{IsPlanOn}
use Rattle.zp_core.specs.declared.guesses.Guess.{Guess}

-- whether the record under this key may be guessed absent, where it is all that is lacking
abbrev pub may_guess : Request → View → Bytes → Bool
may_guess r v key = (makes_sequence r && not (is_new v)) && is_node_key key

-- what is lacking is not one key
abbrev pub IsNoKey : List Want → Type 0
IsNoKey ws = (key : Bytes) → ws ≡ want.Key key ∷ [] → ⊥

-- a plan on the guess that this key is absent
pub record IsGuess (r : Request) (who : Who) (now : ℕ) (v : View) (key : Bytes) (g : Guess) : Type 0 where
  pub on : g.view ≡ guessed v key
  pub planned : IsPlanOn r who now (guessed v key) g.plan
  pub taken : IsTaken g.plan

-- the plan on such a guess; None where the guess gives no plan
abbrev pub GuessesAt : Request → Who → ℕ → View → Bytes → Option Guess → Type 0
GuessesAt r who now v key None = PassesOver r who (guessed v key)
GuessesAt r who now v key (Some g) = IsGuess r who now v key g

-- the plan on a guess of what is lacking; None where that is not to be guessed, or the guess gives no plan
abbrev pub GuessesOn : Request → Who → ℕ → View → List Want → Option Guess → Type 0
GuessesOn r who now v ws None = (key : Bytes) → ws ≡ want.Key key ∷ [] → MayGuess r v key → PassesOver r who (guessed v key)
GuessesOn r who now v ws (Some g) = (key : Bytes) × (ws ≡ want.Key key ∷ []) × MayGuess r v key × IsGuess r who now v key g
